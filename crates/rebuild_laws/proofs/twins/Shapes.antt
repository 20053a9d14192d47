-- Types of one shape: values flow into both in the same way.
use Rattle.std.proofs.Common.{◌≡◌, ℕ, zero, suc, List, [], ◌∷◌, Option, Some, None, length, refl, sym, ap, ◌∙◌, subst, arith}
use Rattle.std.specs.Prelude.{ℤ, map, slice_get}
use Rattle.std.specs.Option.{option_map}
use Rattle.std.proofs.lemmas.Option.{same_Some, slice_get-map}
use Rattle.java_core.specs.declared.Ty.{Ty}
use Rattle.java_core.specs.declared.TyBase.{TyBase}
use Rattle.java_core.specs.declared.TyBase.TheVariants.{Int, Boolean, Char, Str, Class}
use Rattle.java_core.specs.Types.{element_in}
use Rattle.java_meaning.specs.Moment.{Value, Number, Truth, CodeUnit, Nothing, Text, Object}
use Rattle.java_meaning.specs.Values.{default_in, default_of, widened, convert, and_argument, arguments, cast_number}
use Rattle.java_meaning.specs.Meaning.{is_number_type}
use Rattle.rebuild_laws.specs.twins.Twins.{shape_in, shape_of}

-- what the shapes decide
through_shape : {A : Type 0} (f : Ty → A) → ((t : Ty) → f (shape_of t) ≡ f t) → (t u : Ty) → shape_of t ≡ shape_of u → f t ≡ f u
through_shape f h t u e = sym (h t) ∙ ap f e ∙ h u

-- where the class makes no difference, the shape has what the type has
base_shape : {A : Type 0} (f : TyBase → A) → ((k : ℕ) → f (shape_in (Class (record { 0 = k }))) ≡ f (Class (record { 0 = k })))
    → (b : TyBase) → f (shape_in b) ≡ f b
base_shape f h Int = refl
base_shape f h Boolean = refl
base_shape f h Char = refl
base_shape f h Str = refl
base_shape f h (Class k) = h k.0

convert_shape : (v : Value) (t : Ty) → convert (shape_of t) v ≡ convert t v
convert_shape (CodeUnit c) t = base_shape (λ b. widened b t.dim c) (λ k. refl) t.base
convert_shape (Number n) t = refl
convert_shape (Truth b) t = refl
convert_shape Nothing t = refl
convert_shape (Text a) t = refl
convert_shape (Object a) t = refl

pub same_convert : (v : Value) (t u : Ty) → shape_of t ≡ shape_of u → convert t v ≡ convert u v
same_convert v t u e = through_shape (λ z. convert z v) (convert_shape v) t u e

default_shape : (b : TyBase) (d : ℕ) → default_in (shape_in b) d ≡ default_in b d
default_shape b zero = base_shape (λ z. default_in z zero) (λ k. refl) b
default_shape b (suc d) = base_shape (λ z. default_in z (suc d)) (λ k. refl) b

pub same_default : (t u : Ty) → shape_of t ≡ shape_of u → default_of t ≡ default_of u
same_default t u e = through_shape default_of (λ z. default_shape z.base z.dim) t u e

pub same_number_type : (t u : Ty) → shape_of t ≡ shape_of u → is_number_type t.base t.dim ≡ is_number_type u.base u.dim
same_number_type t u e = through_shape (λ z. is_number_type z.base z.dim) (λ z. base_shape (λ b. is_number_type b z.dim) (λ k. refl) z.base) t u e

pub same_cast_number : (n : ℤ) (t u : Ty) → shape_of t ≡ shape_of u → cast_number t.base n ≡ cast_number u.base n
same_cast_number n t u e = through_shape (λ z. cast_number z.base n) (λ z. base_shape (λ b. cast_number b n) (λ k. refl) z.base) t u e

element_shape : (b : TyBase) (d : ℕ) → option_map shape_of (element_in b d) ≡ element_in (shape_in b) d
element_shape b zero = refl
element_shape b (suc d) = refl

-- arrays of one shape have elements of one
pub same_element : (t u : Ty) → shape_of t ≡ shape_of u → option_map shape_of (element_in t.base t.dim) ≡ option_map shape_of (element_in u.base u.dim)
same_element t u e = element_shape t.base t.dim ∙ ap (λ z. element_in z.base z.dim) e ∙ sym (element_shape u.base u.dim)

arguments_shape : (ts : List Ty) (vs : List Value) → arguments (map shape_of ts) vs ≡ arguments ts vs
arguments_shape [] [] = refl
arguments_shape [] (v ∷ vs) = refl
arguments_shape (t ∷ ts) [] = refl
arguments_shape (t ∷ ts) (v ∷ vs) =
    ap (λ z. and_argument z (arguments (map shape_of ts) vs)) (convert_shape v t) ∙ ap (λ z. and_argument (convert t v) z) (arguments_shape ts vs)

pub same_arguments : (vs : List Value) (ts us : List Ty) → map shape_of ts ≡ map shape_of us → arguments ts vs ≡ arguments us vs
same_arguments vs ts us e = sym (arguments_shape ts vs) ∙ ap (λ z. arguments z vs) e ∙ arguments_shape us vs

-- types in one place of two lists of one shape
pub same_at : (ts us : List Ty) (i : ℕ) → map shape_of ts ≡ map shape_of us → option_map shape_of (slice_get ts i) ≡ option_map shape_of (slice_get us i)
same_at ts us i e = sym (slice_get-map shape_of ts i) ∙ ap (λ z. slice_get z i) e ∙ slice_get-map shape_of us i

-- a type of the shape is there where one is
pub shape_there : (o p : Option Ty) (t : Ty) → option_map shape_of o ≡ option_map shape_of p → o ≡ Some t → (u : Ty) × (p ≡ Some u) × (shape_of t ≡ shape_of u)
shape_there o None t e f = absurd (let z = sym (ap (option_map shape_of) f) ∙ e in cc)
shape_there o (Some u) t e f = (u, refl, same_Some (shape_of t) (shape_of u) (sym (ap (option_map shape_of) f) ∙ e))

defaults_shape : (ts : List Ty) → map default_of (map shape_of ts) ≡ map default_of ts
defaults_shape [] = refl
defaults_shape (t ∷ ts) = ap (λ z. z ∷ map default_of (map shape_of ts)) (default_shape t.base t.dim) ∙ ap (λ z. default_of t ∷ z) (defaults_shape ts)

pub same_defaults : (ts us : List Ty) → map shape_of ts ≡ map shape_of us → map default_of ts ≡ map default_of us
same_defaults ts us e = sym (defaults_shape ts) ∙ ap (map default_of) e ∙ defaults_shape us

-- there are arguments where there are as many values as types
pub arguments_there : (ts : List Ty) (vs : List Value) → length vs ≡ length ts
    → (us : List Value) × (arguments ts vs ≡ Some us) × (length us ≡ length ts)
arguments_there [] [] e = ([], refl, refl)
arguments_there [] (v ∷ vs) e = absurd (omega (arith, e))
arguments_there (t ∷ ts) [] e = absurd (omega (arith, e))
arguments_there (t ∷ ts) (v ∷ vs) e =
    let h : suc (length vs) ≡ suc (length ts) = e in
    let z = arguments_there ts vs (omega (arith, h)) in
    (convert t v ∷ z.0, ap (λ w. and_argument (convert t v) w) z.1, ap suc z.2)

-- a value that was converted stays as it is
convert_widened : (b : TyBase) (d c : ℕ) → convert (record { base = b; dim = d }) (widened b d c) ≡ widened b d c
convert_widened Int zero c = refl
convert_widened Int (suc d) c = refl
convert_widened Boolean d c = refl
convert_widened Char d c = refl
convert_widened Str d c = refl
convert_widened (Class k) d c = refl

convert_twice : (v : Value) (t : Ty) → convert t (convert t v) ≡ convert t v
convert_twice (CodeUnit c) t = convert_widened t.base t.dim c
convert_twice (Number n) t = refl
convert_twice (Truth b) t = refl
convert_twice Nothing t = refl
convert_twice (Text a) t = refl
convert_twice (Object a) t = refl

again : (ts : List Ty) (vs us : List Value) → arguments ts vs ≡ Some us → arguments ts us ≡ Some us
again [] [] us e = subst (λ z. arguments [] z ≡ Some z) (same_Some [] us e) refl
again [] (v ∷ vs) us e = absurd (cc)
again (t ∷ ts) [] us e = absurd (cc)
again (t ∷ ts) (v ∷ vs) us e = go (arguments ts vs) e (λ ws d. again ts vs ws d)
  where
    go : (o : Option (List Value)) → and_argument (convert t v) o ≡ Some us → ((ws : List Value) → o ≡ Some ws → arguments ts ws ≡ Some ws)
        → arguments (t ∷ ts) us ≡ Some us
    go None e h = absurd (cc)
    go (Some ws) e h =
        subst (λ z. arguments (t ∷ ts) z ≡ Some z) (same_Some (convert t v ∷ ws) us e)
        (ap (λ z. and_argument z (arguments ts ws)) (convert_twice v t) ∙ ap (λ z. and_argument (convert t v) z) (h ws refl))

-- arguments go on into parameters of one shape as they are
pub arguments_on : (ts ps : List Ty) (vs us : List Value) → map shape_of ts ≡ map shape_of ps → arguments ts vs ≡ Some us → arguments ps vs ≡ arguments ps us
arguments_on ts ps vs us e h = sym (same_arguments vs ts ps e) ∙ h ∙ sym (again ts vs us h) ∙ same_arguments us ts ps e
