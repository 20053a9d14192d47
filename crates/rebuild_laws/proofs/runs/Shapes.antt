-- A type over another class has its shape, one without a class has none, and what is cast, but for numbers, has a class.
use Rattle.std.proofs.Common.{◌≡◌, ℕ, zero, suc, Option, Some, None, refl, sym, ◌∙◌, subst, ⊎_elim}
use Rattle.std.specs.Prelude.{◌&&◌, true, false}
use Rattle.std.proofs.lemmas.Bool.{false≢true, or_cases, and_parts}
use Rattle.java_core.specs.declared.Ty.{Ty}
use Rattle.java_core.specs.declared.TyBase.{TyBase}
use Rattle.java_core.specs.declared.TyBase.TheVariants.{Int, Boolean, Char, Str, Class}
use Rattle.java_core.specs.Programs.{Plain}
use Rattle.java_core.specs.Types.{Static, a_value, null_value, no_value, class_in, class_of, is_numeric, is_only}
use Rattle.java_core.specs.Typing.{are_related, can_cast}
use Rattle.java_meaning.specs.Meaning.{is_number_type}
use Rattle.java_meaning.proofs.Holds.{only_type}
use Rattle.rebuild_model.specs.Renaming.{retyped, reclassed}
use Rattle.rebuild_laws.proofs.types.Retyped.{retyped_static}
use Rattle.rebuild_laws.specs.twins.Twins.{shape_of}

-- a type over another class has its shape
pub shape_kept : (k : Option ℕ) (t : Ty) → shape_of t ≡ shape_of (retyped k t)
shape_kept None t = refl
shape_kept (Some w) t = go t.base
  where
    go : (b : TyBase) → shape_of (record { base = b; dim = t.dim }) ≡ shape_of (retyped (Some w) (record { base = b; dim = t.dim }))
    go Int = refl
    go Boolean = refl
    go Char = refl
    go Str = refl
    go (Class c) = refl

-- nor has a type without a class one over another class
pub classless : (k : Option ℕ) (s : Static) → class_of s ≡ None → class_of (retyped_static k s) ≡ None
classless k null_value e = e
classless k no_value e = e
classless None (a_value t) e = e
classless (Some w) (a_value t) e = go t.base t.dim e
  where
    go : (b : TyBase) (d : ℕ) → class_in b d ≡ None → class_in (reclassed (Some w) b) d ≡ None
    go Int d e = refl
    go Boolean d e = refl
    go Char d e = refl
    go Str d e = refl
    go (Class c) zero e = absurd (cc)
    go (Class c) (suc d) e = refl

numeric_type : (t : Ty) → is_numeric (a_value t) ≡ true → is_number_type t.base t.dim ≡ true
numeric_type t e = ⊎_elim
    (λ h. subst (λ z. is_number_type z.base z.dim ≡ true) (only_type Int t refl h) refl)
    (λ h. subst (λ z. is_number_type z.base z.dim ≡ true) (only_type Char t refl h) refl)
    (or_cases (is_only Int (a_value t)) (is_only Char (a_value t)) e)

related_some : (P : Plain) (a b : Option ℕ) → are_related P a b ≡ true → (c : ℕ) × (b ≡ Some c)
related_some P (Some a) (Some b) e = (b, refl)
related_some P (Some a) None e = absurd (false≢true e)
related_some P None b e = absurd (false≢true e)

-- what is cast, but for numbers, has a class
pub cast_class : (P : Plain) (s : Static) (v : Ty) → is_number_type v.base v.dim ≡ false → can_cast P s v ≡ true → (c : ℕ) × (class_in v.base v.dim ≡ Some c)
cast_class P s v n can = ⊎_elim
    (λ h. absurd (false≢true (sym n ∙ numeric_type v (and_parts (is_numeric (a_value v)) (is_numeric s) h).0)))
    (λ h. related_some P (class_of s) (class_in v.base v.dim) h)
    (or_cases (is_numeric (a_value v) && is_numeric s) (are_related P (class_of s) (class_in v.base v.dim)) can)
