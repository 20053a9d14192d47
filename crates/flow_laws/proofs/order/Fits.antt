-- What fits is at or below: of static types, and of the types that rows have.
use Rattle.std.proofs.Common.{◌≡◌, ℕ, zero, suc, ◌+◌, ◌-◌, Option, Some, None, length, refl, sym, ap, ◌∙◌, subst, arith, inl, inr, ⊎_elim}
use Rattle.std.specs.Prelude.{◌⊎◌, ◌<◌, ◌==◌, ◌&&◌, ◌||◌, if◌then◌else◌, Bool, true, false}
use Rattle.std.specs.Option.{is_some}
use Rattle.std.proofs.lemmas.Option.{same_Some}
use Rattle.std.proofs.lemmas.Bool.{false≢true, eqb-true, eqb-false, ne_eqb, or_cases, and_parts}
use Rattle.java_core.specs.declared.Ty.{Ty}
use Rattle.java_core.specs.declared.TyBase.{TyBase}
use Rattle.java_core.specs.declared.TyBase.TheVariants.{Int, Boolean, Char, Str, Class}
use Rattle.java_core.specs.declared.BinOp.{BinOp}
use Rattle.java_core.specs.declared.BinOp.TheVariants as bin
use Rattle.java_core.specs.Programs.{Plain}
use Rattle.java_core.specs.Classes.{IsSubclass, same_class, below}
use Rattle.java_core.specs.Types.{Static, a_value, null_value, no_value, class_in, class_of, element_in, element_of, is_numeric, is_boolean, is_object, is_sub_base, is_subtype, is_only, fits, fits_in, are_comparable}
use Rattle.java_core.specs.Typing.{takes_two, are_related, can_cast}
use Rattle.java_core.specs.Formed.{IsKnownBase, IsProgramType, IsCastType, to_int, to_char, to_class}
use Rattle.java_core.proofs.Subclasses.{below-subclass, subclass-then}
use Rattle.flow_rules.specs.declared.items.ObjectType.{ObjectType}
use Rattle.flow_rules.specs.Operands.{object_in, object_of, object_static, object_class, class_at}
use Rattle.flow_rules.specs.Types.{element_in as element_in_type}
use Rattle.flow_rules.specs.Lists.{is_comparison}
use Rattle.flow_rules.proofs.TypeLemmas.{class_is}

-- an element has the class, and brackets one less
element_dim : (b : TyBase) (d : ℕ) (t : ObjectType) → is_some (element_in b d) ≡ true → object_in b d ≡ Some t → 0 < t.dim
element_dim (Class c) (suc d) t e h = omega (arith, ap (λ z. z.dim) (same_Some _ t h))
element_dim (Class c) zero t e h = absurd (false≢true e)
element_dim Int d t e h = absurd (cc)
element_dim Boolean d t e h = absurd (cc)
element_dim Char d t e h = absurd (cc)
element_dim Str d t e h = absurd (cc)

-- what has elements has brackets
pub with_elements : (s : Static) (t : ObjectType) → is_some (element_of s) ≡ true → object_static s ≡ Some t → 0 < t.dim
with_elements (a_value a) t e h = element_dim a.base a.dim t e h
with_elements null_value t e h = absurd (false≢true e)
with_elements no_value t e h = absurd (false≢true e)

-- the type of an element has the class, and brackets one less
pub element_some : (t : ObjectType) → 0 < t.dim → element_in_type t ≡ Some (record { class = t.class; dim = t.dim - 1 })
element_some t n = ap (λ b. if b then None else Some (record { class = t.class; dim = t.dim - 1 })) (ne_eqb t.dim 0 (λ z. absurd (omega (arith, n, z))))

pub element_parts : (t u : ObjectType) → element_in_type t ≡ Some u → (t.class ≡ u.class) × (u.dim + 1 ≡ t.dim)
element_parts t u e = go (t.dim == 0) refl e
  where
    go : (b : Bool) → (t.dim == 0) ≡ b → (if b then None else Some (record { class = t.class; dim = t.dim - 1 })) ≡ Some u → (t.class ≡ u.class)
        × (u.dim + 1 ≡ t.dim)
    go true d h = absurd (cc)
    go false d h = let z = same_Some _ u h in let n = eqb-false t.dim 0 d in (ap (λ z. z.class) z, dims t.dim u.dim (λ e. n e) (ap (λ z. z.dim) z))
      where
        dims : (m n : ℕ) → (m ≡ 0 → ⊥) → m - 1 ≡ n → n + 1 ≡ m
        dims zero n h e = absurd (h refl)
        dims (suc m) n h e = omega (arith, e)

-- only a class has one
pub class_dim : (t : ObjectType) (c : ℕ) → class_at t ≡ Some c → (t.class.0 ≡ c) × (t.dim ≡ 0)
class_dim t c e = go (t.dim == 0) refl e
  where
    go : (z : Bool) → (t.dim == 0) ≡ z → (if z then Some t.class.0 else None) ≡ Some c → (t.class.0 ≡ c) × (t.dim ≡ 0)
    go true d e = (same_Some _ c e, eqb-true t.dim 0 d)
    go false d e = absurd (cc)

module _ (P : Plain) where
  known_base : (b : TyBase) (d : ℕ) (t : ObjectType) → IsKnownBase P b → object_in b d ≡ Some t → t.class.0 < length P.classes
  known_base (Class c) d t h e = subst (λ z. z.class.0 < length P.classes) (same_Some _ t e) h
  known_base Int d t h e = absurd (cc)
  known_base Boolean d t h e = absurd (cc)
  known_base Char d t h e = absurd (cc)
  known_base Str d t h e = absurd (cc)

  pub known_type : (v : Ty) (t : ObjectType) → IsProgramType P v → object_of v ≡ Some t → t.class.0 < length P.classes
  known_type v t h e = known_base v.base v.dim t h e

  pub known_cast : (v : Ty) (t : ObjectType) → IsCastType P v → object_of v ≡ Some t → t.class.0 < length P.classes
  known_cast _ t to_int e = absurd (cc)
  known_cast _ t to_char e = absurd (cc)
  known_cast _ t (to_class {c = c} h) e = known_base (Class c) 0 t h e

  -- a type at or below another, of as many brackets
  pub record IsUnder (s t : ObjectType) : Type 0 where
    pub class : IsSubclass P s.class.0 t.class.0
    pub dim : s.dim ≡ t.dim

  sub_under : (a b : TyBase) (c d : ℕ) (s t : ObjectType) → ((c == d) && is_sub_base P a b) ≡ true → object_in a c ≡ Some s
      → object_in b d ≡ Some t → IsUnder s t
  sub_under (Class a) (Class b) c d s t e h g =
      let w = and_parts (c == d) (below P a.0 b.0) e in
      let x = same_Some _ s h in
      let y = same_Some _ t g in
      record {
        class = rw (sym (ap (λ z. z.class) x), sym (ap (λ z. z.class) y)) (below-subclass P a.0 b.0 w.1);
        dim = sym (ap (λ z. z.dim) x)
            ∙ eqb-true c d w.0 ∙ ap (λ z. z.dim) y;
      }
  sub_under (Class a) Int c d s t e h g = absurd (cc)
  sub_under (Class a) Boolean c d s t e h g = absurd (cc)
  sub_under (Class a) Char c d s t e h g = absurd (cc)
  sub_under (Class a) Str c d s t e h g = absurd (cc)
  sub_under Int b c d s t e h g = absurd (cc)
  sub_under Boolean b c d s t e h g = absurd (cc)
  sub_under Char b c d s t e h g = absurd (cc)
  sub_under Str b c d s t e h g = absurd (cc)

  no_number : (b : TyBase) (d : ℕ) (t : ObjectType) → is_only Int (a_value (record { base = b; dim = d })) ≡ true → object_in b d ≡ Some t → ⊥
  no_number (Class c) d t e h = false≢true e
  no_number Int d t e h = cc
  no_number Boolean d t e h = cc
  no_number Char d t e h = cc
  no_number Str d t e h = cc

  -- what fits a type is under it
  pub fits_under : (s : Static) (u : Ty) (b t : ObjectType) → fits P s u ≡ true → object_static s ≡ Some b → object_of u ≡ Some t → IsUnder b t
  fits_under (a_value a) u b t e h g =
      ⊎_elim (λ w. sub_under a.base u.base a.dim u.dim b t w h g)
      (λ w. absurd (no_number u.base u.dim t (and_parts (is_only Char (a_value a)) (is_only Int (a_value u)) w).1 g))
      (or_cases (is_subtype P a u) (is_only Char (a_value a) && is_only Int (a_value u)) e)
  fits_under null_value u b t e h g = absurd (cc)
  fits_under no_value u b t e h g = absurd (cc)

  pub fits_in_under : (s d : Static) (b t : ObjectType) → fits_in P s d ≡ true → object_static s ≡ Some b → object_static d ≡ Some t → IsUnder b t
  fits_in_under s (a_value u) b t e h g = fits_under s u b t e h g
  fits_in_under s null_value b t e h g = absurd (cc)
  fits_in_under s no_value b t e h g = absurd (cc)

  -- one of two types that are compared is under the other
  abbrev pub ArePaired : ObjectType → ObjectType → Type 0
  ArePaired s t = (IsUnder s t) ⊎ (IsUnder t s)

  pub paired_dim : (s t : ObjectType) → ArePaired s t → s.dim ≡ t.dim
  paired_dim s t p = ⊎_elim (λ u. u.dim) (λ u. sym u.dim) p

  no_plain : (b : TyBase) (d : ℕ) (t : ObjectType) → object_in b d ≡ Some t → (is_numeric (a_value (record { base = b; dim = d })) ≡ false)
      × (is_boolean (a_value (record { base = b; dim = d })) ≡ false)
  no_plain (Class c) d t h = (refl, refl)
  no_plain Int d t h = absurd (cc)
  no_plain Boolean d t h = absurd (cc)
  no_plain Char d t h = absurd (cc)
  no_plain Str d t h = absurd (cc)

  compared : (a u : Ty) (s t : ObjectType) → are_comparable P (a_value a) (a_value u) ≡ true → object_of a ≡ Some s → object_of u ≡ Some t → ArePaired s t
  compared a u s t e h g =
      let n = no_plain a.base a.dim s h in
      ⊎_elim (λ w. absurd (false≢true (sym n.0 ∙ (and_parts (is_numeric (a_value a)) (is_numeric (a_value u)) w).0)))
      (λ w. ⊎_elim (λ w. absurd (false≢true (sym n.1 ∙ (and_parts (is_boolean (a_value a)) (is_boolean (a_value u)) w).0)))
      (λ w. ⊎_elim (λ w. inl (sub_under a.base u.base a.dim u.dim s t w h g)) (λ w. inr (sub_under u.base a.base u.dim a.dim t s w g h))
      (or_cases (is_subtype P a u) (is_subtype P u a) (and_parts (is_object a && is_object u) (is_subtype P a u || is_subtype P u a) w).1))
      (or_cases (is_boolean (a_value a) && is_boolean (a_value u)) ((is_object a && is_object u) && (is_subtype P a u || is_subtype P u a)) w))
      (or_cases (is_numeric (a_value a) && is_numeric (a_value u)) ((is_boolean (a_value a) && is_boolean (a_value u)) ||
      ((is_object a && is_object u) && (is_subtype P a u || is_subtype P u a))) e)

  comparable : (s d : Static) (b t : ObjectType) → are_comparable P s d ≡ true → object_static s ≡ Some b → object_static d ≡ Some t → ArePaired b t
  comparable (a_value a) (a_value u) b t e h g = compared a u b t e h g
  comparable (a_value a) null_value b t e h g = absurd (cc)
  comparable (a_value a) no_value b t e h g = absurd (cc)
  comparable null_value d b t e h g = absurd (cc)
  comparable no_value d b t e h g = absurd (cc)

  pub takes_paired : (o : BinOp) (s d : Static) (b t : ObjectType) → takes_two P o s d ≡ true → is_comparison o ≡ true → object_static s ≡ Some b
      → object_static d ≡ Some t → ArePaired b t
  takes_paired bin.Same s d b t e c h g = comparable s d b t e h g
  takes_paired bin.Differs s d b t e c h g = comparable s d b t e h g
  takes_paired _ s d b t e c h g = absurd (false≢true c)

  -- a type and a class that are related, one way or the other
  related_at : (s t : ObjectType) → are_related P (class_at s) (class_at t) ≡ true → ArePaired s t
  related_at s t e = go (class_at s) (class_at t) refl refl e
    where
      go : (o q : Option ℕ) → class_at s ≡ o → class_at t ≡ q → are_related P o q ≡ true → (IsUnder s t) ⊎ (IsUnder t s)
      go None q a b e = absurd (false≢true e)
      go (Some c) None a b e = absurd (false≢true e)
      go (Some c) (Some d) a b e =
          let x = class_dim s c a in
          let y = class_dim t d b in
          ⊎_elim (λ w. inl (record { class = rw (x.0, y.0) (below-subclass P c d w); dim = x.1 ∙ sym y.1 }))
          (λ w. inr (record { class = rw (x.0, y.0) (below-subclass P d c w); dim = y.1 ∙ sym x.1 }))
          (or_cases (below P c d) (below P d c) e)

  pub related_paired : (s d : Static) (b t : ObjectType) → are_related P (class_of s) (class_of d) ≡ true → object_static s ≡ Some b
      → object_static d ≡ Some t → ArePaired b t
  related_paired s d b t e h g = related_at b t (rw (class_as s b h, class_as d t g) e)
    where
      class_as : (s : Static) (b : ObjectType) → object_static s ≡ Some b → class_at b ≡ class_of s
      class_as s b h = ap object_class (sym h) ∙ class_is s

  pub cast_paired : (s : Static) (u : Ty) (b t : ObjectType) → can_cast P s u ≡ true → object_static s ≡ Some b → object_of u ≡ Some t → ArePaired b t
  cast_paired s u b t e h g =
      ⊎_elim (λ w. absurd (false≢true (sym (no_plain u.base u.dim t g).0 ∙ (and_parts (is_numeric (a_value u)) (is_numeric s) w).0)))
      (λ w. related_paired s (a_value u) b t w h g)
      (or_cases (is_numeric (a_value u) && is_numeric s) (are_related P (class_of s) (class_in u.base u.dim)) e)

module _ {P : Plain} where
  pub under_same : (t : ObjectType) → IsUnder P t t
  under_same t = record { class = same_class; dim = refl }

  pub under_then : {s t u : ObjectType} → IsUnder P s t → IsUnder P t u → IsUnder P s u
  under_then a b = record { class = subclass-then P a.class b.class; dim = a.dim ∙ b.dim }

  pub under_as : {s t u : ObjectType} → IsUnder P s t → t ≡ u → IsUnder P s u
  under_as {s} a e = subst (λ z. IsUnder P s z) e a
