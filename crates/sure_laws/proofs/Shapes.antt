-- Which values the static types let stand where: what has the type of a row has a site.
use Rattle.std.proofs.Common.{arith, ◌≡◌, ℕ, zero, suc, Option, Some, None, refl, sym, ap, ◌∙◌, subst, ⊎_elim}
use Rattle.std.specs.Prelude.{◌==◌, ◌&&◌, ◌||◌, ◌++◌, not, Bool, true, false, slice_get}
use Rattle.std.specs.Option.{is_some}
use Rattle.std.proofs.lemmas.Bool.{false≢true, eqb-true, or_cases, and_parts}
use Rattle.std.proofs.lemmas.Option.{same_Some}
use Rattle.java_core.specs.declared.Ty.{Ty}
use Rattle.java_core.specs.declared.TyBase.{TyBase}
use Rattle.java_core.specs.declared.TyBase.TheVariants.{Int, Boolean, Char, Str, Class}
use Rattle.java_core.specs.Programs.{Plain, PlainMethod}
use Rattle.java_core.specs.Types.{types_of, class_type, Static, a_value, null_value, no_value, or_nothing, element_in, element_of, class_in, class_of, is_base, is_only, is_sub_base, is_subtype, fits, fits_in}
use Rattle.java_core.specs.Typing.{are_related}
use Rattle.java_meaning.specs.Meaning.{is_number_type}
use Rattle.flow_rules.specs.Operands.{object_in, object_of, object_if, object_static}
use Rattle.kaba_base.proofs.ListLemmas.{map_at, at_map, at_left}
use Rattle.flow_rules.proofs.TypeLemmas.{object_or}
use Rattle.flow_laws.proofs.cover.Types.{of_element}

pub some_of : {A : Type 0} (o : Option A) → is_some o ≡ true → (x : A) × (o ≡ Some x)
some_of None e = absurd (false≢true e)
some_of (Some x) e = (x, refl)

pub is_there : {A : Type 0} (o : Option A) (x : A) → o ≡ Some x → is_some o ≡ true
is_there o x e = ap is_some e

-- whether what has a site, or none, may be a value of the type
abbrev pub shape : Static → Bool → Bool
shape (a_value t) b = b || not (is_some (object_of t))
shape null_value b = false
shape no_value b = true

pub shape_object : (s : Static) (b : Bool) → is_some (object_static s) ≡ true → shape s b ≡ true → b ≡ true
shape_object s true o h = refl
shape_object (a_value t) false o h = absurd (false≢true (sym (ap not o) ∙ h))
shape_object null_value false o h = h
shape_object no_value false o h = absurd (false≢true o)

value_shape : (t : Ty) (b : Bool) → (is_some (object_of t) ≡ true → b ≡ true) → shape (a_value t) b ≡ true
value_shape t true f = refl
value_shape t false f = go (is_some (object_of t)) f
  where
    go : (z : Bool) → (z ≡ true → false ≡ true) → not z ≡ true
    go true f = f refl
    go false f = refl

pub shape_if : (t : Option Ty) (b : Bool) → (is_some (object_if t) ≡ true → b ≡ true) → shape (or_nothing t) b ≡ true
shape_if None b f = refl
shape_if (Some t) b f = value_shape t b f

-- what is of an object's type is of a subtype of one alone
base_back : (P : Plain) (b c : TyBase) (d n : ℕ) → is_sub_base P b c ≡ true → is_some (object_in c n) ≡ true → is_some (object_in b d) ≡ true
base_back P (Class b) c d n s o = refl
base_back P b Int d n s o = absurd (false≢true o)
base_back P b Boolean d n s o = absurd (false≢true o)
base_back P b Char d n s o = absurd (false≢true o)
base_back P b Str d n s o = absurd (false≢true o)
base_back P Int (Class c) d n s o = absurd (false≢true s)
base_back P Boolean (Class c) d n s o = absurd (false≢true s)
base_back P Char (Class c) d n s o = absurd (false≢true s)
base_back P Str (Class c) d n s o = absurd (false≢true s)

pub subtype_back : (P : Plain) (a t : Ty) → is_subtype P a t ≡ true → is_some (object_of t) ≡ true → is_some (object_of a) ≡ true
subtype_back P a t s o = base_back P a.base t.base a.dim t.dim (and_parts (a.dim == t.dim) (is_sub_base P a.base t.base) s).1 o

int_none : (b : TyBase) (d : ℕ) → is_base b Int ≡ true → is_some (object_in b d) ≡ true → ⊥
int_none (Class c) d e o = false≢true e
int_none Int d e o = false≢true o
int_none Boolean d e o = false≢true o
int_none Char d e o = false≢true o
int_none Str d e o = false≢true o

-- what fits a type has its shape
pub fits_shape : (P : Plain) (s : Static) (t : Ty) (b : Bool) → fits P s t ≡ true → shape s b ≡ true → shape (a_value t) b ≡ true
fits_shape P (a_value a) t b f h = value_shape t b (λ o. ⊎_elim
    (λ e. shape_object (a_value a) b (subtype_back P a t e o) h)
    (λ e. absurd (int_none t.base t.dim (and_parts (is_base t.base Int) (t.dim == 0)
    (and_parts (is_only Char (a_value a)) (is_only Int (a_value t)) e).1).0 o))
    (or_cases (is_subtype P a t) (is_only Char (a_value a) && is_only Int (a_value t)) f))
fits_shape P null_value t b f h = absurd (false≢true h)
fits_shape P no_value t b f h = absurd (false≢true f)

pub fits_in_shape : (P : Plain) (s u : Static) (b : Bool) → fits_in P s u ≡ true → shape s b ≡ true → shape u b ≡ true
fits_in_shape P s (a_value t) b f h = fits_shape P s t b f h
fits_in_shape P s null_value b f h = absurd (false≢true f)
fits_in_shape P s no_value b f h = absurd (false≢true f)

-- elements of what has a site have one
pub element_shape : (s : Static) (o q : Bool) → shape s o ≡ true → (not o || q) ≡ true → shape (or_nothing (element_of s)) q ≡ true
element_shape s o q h e = shape_if (element_of s) q (λ i.
    let z = some_of (object_if (element_of s)) i in
    let a = of_element s z.0 (object_or (element_of s) ∙ z.1) in
    let so = shape_object s o (is_there (object_static s) a.0 a.1) h in
    subst (λ y. (not y || q) ≡ true) so e)

pub element_some : (b : TyBase) (d : ℕ) (u : Ty) → element_in b d ≡ Some u → is_some (object_in b d) ≡ true → is_some (object_of u) ≡ true
element_some b zero u e o = absurd (cc)
element_some (Class c) (suc d) u e o = subst (λ z. is_some (object_of z) ≡ true) (same u e) refl
  where
    same : (u : Ty) → Some (record { base = Class c; dim = d }) ≡ Some u → record { base = Class c; dim = d } ≡ u
    same u e = cc
element_some Int (suc d) u e o = absurd (false≢true o)
element_some Boolean (suc d) u e o = absurd (false≢true o)
element_some Char (suc d) u e o = absurd (false≢true o)
element_some Str (suc d) u e o = absurd (false≢true o)

-- what has a class is an object
in_object : (b : TyBase) (d c : ℕ) → class_in b d ≡ Some c → is_some (object_in b d) ≡ true
in_object (Class k) d c e = refl
in_object Int d c e = absurd (cc)
in_object Boolean d c e = absurd (cc)
in_object Char d c e = absurd (cc)
in_object Str d c e = absurd (cc)

pub class_object : (s : Static) (c : ℕ) → class_of s ≡ Some c → is_some (object_static s) ≡ true
class_object (a_value t) c e = in_object t.base t.dim c e
class_object null_value c e = absurd (cc)
class_object no_value c e = absurd (cc)

-- the type of a parameter among those of the variables
pub variable_there : (h : PlainMethod) (i : ℕ) (u : Ty) → slice_get (types_of h.params) i ≡ Some u
    → slice_get (types_of (h.params ++ h.locals)) i ≡ Some u
variable_there h i u e = let z = map_at (λ l. l.ty) h.params i u e in
    at_map (λ l. l.ty) (h.params ++ h.locals) i z.0 (at_left h.params h.locals i z.0 z.1) ∙ ap (λ w. Some w) z.2

-- a number's type, and a class's
array_apart : (d : ℕ) → (suc d == 0) ≡ true → ⊥
array_apart d e = let z = eqb-true (suc d) 0 e in omega (arith, z)

pub number_base : (b : TyBase) (d : ℕ) → is_only Int (a_value (record { base = b; dim = d })) || is_only Char (a_value (record { base = b; dim = d })) ≡ true
    → is_number_type b d ≡ true
number_base Int zero h = refl
number_base Char zero h = refl
number_base Int (suc d) h = absurd (⊎_elim (λ e. array_apart d e) (λ e. false≢true e) (or_cases (suc d == 0) false h))
number_base Char (suc d) h = absurd (array_apart d h)
number_base Boolean d h = absurd (false≢true h)
number_base Str d h = absurd (false≢true h)
number_base (Class c) d h = absurd (false≢true h)

pub related_class : (P : Plain) (o z : Option ℕ) → are_related P o z ≡ true → (c : ℕ) × (z ≡ Some c)
related_class P None z h = absurd (false≢true h)
related_class P (Some a) None h = absurd (false≢true h)
related_class P (Some a) (Some c) h = (c, refl)

pub class_base : (b : TyBase) (d c : ℕ) → class_in b d ≡ Some c → record { base = b; dim = d } ≡ class_type c
class_base (Class k) zero c e = ap (λ z. class_type z) (same_Some k.0 c e)
class_base (Class k) (suc d) c e = absurd (cc)
class_base Int d c e = absurd (cc)
class_base Boolean d c e = absurd (cc)
class_base Char d c e = absurd (cc)
class_base Str d c e = absurd (cc)
