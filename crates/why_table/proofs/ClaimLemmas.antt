-- Tests of claims, columns and lists, and what they mean.
use Rattle.std.proofs.Common.{◌≡◌, ℕ, ◌&&◌, Bool, true, false, List, [], ◌∷◌, eqb, Option, Some, None, Contains, refl, sym, ap, ◌∙◌, subst}
use Rattle.std.specs.List.{list_any, slice_get}
use Rattle.std.specs.Option.{option_map_or}
use Rattle.std.proofs.lemmas.Bool.{eqb-true, eq-eqb, false≢true, and_parts}
use Rattle.std.proofs.lemmas.List.Folds.{Any-from_list_any, list_any-from_Any}
use Rattle.kaba_base.specs.declared.RowId.{RowId}
use Rattle.kaba_base.specs.declared.ColId.{ColId}
use Rattle.kaba_base.specs.declared.SiteId.{SiteId}
use Rattle.why_table.specs.Tests.{is_same, is_same_column, is_same_slot}
use Rattle.why_table.specs.declared.trail.Claim.{Claim}
use Rattle.why_table.specs.declared.trail.Claim.TheVariants.{InPoint, InCell, Entry}

-- a number is itself
pub number_same : (n : ℕ) → eqb n n ≡ true
number_same n = eq-eqb n n refl

-- ids of one number are one
row_eq : (r v : RowId) → r.0 ≡ v.0 → r ≡ v
row_eq r v e = ap (λ (n : ℕ). let y : RowId = record { 0 = n } in y) e

column_eq : (c d : ColId) → c.0 ≡ d.0 → c ≡ d
column_eq c d e = ap (λ (n : ℕ). let y : ColId = record { 0 = n } in y) e

site_eq : (s t : SiteId) → s.0 ≡ t.0 → s ≡ t
site_eq s t e = ap (λ (n : ℕ). let y : SiteId = record { 0 = n } in y) e

pub row_says : (r v : RowId) → eqb r.0 v.0 ≡ true → r ≡ v
row_says r v h = row_eq r v (eqb-true r.0 v.0 h)

-- claims that the test calls one are one
pub same_says : (a b : Claim) → is_same a b ≡ true → a ≡ b
same_says (InPoint p s) (InPoint q t) h =
    let k = and_parts (eqb p q) (eqb s.0 t.0) h in
    ap (λ n. InPoint n s) (eqb-true p q k.0) ∙ ap (λ x. InPoint q x) (site_eq s t (eqb-true s.0 t.0 k.1))
same_says (InCell p s) (InCell q t) h =
    let k = and_parts (eqb p q) (eqb s.0 t.0) h in
    ap (λ n. InCell n s) (eqb-true p q k.0) ∙ ap (λ x. InCell q x) (site_eq s t (eqb-true s.0 t.0 k.1))
same_says (Entry p s) (Entry q t) h =
    let k = and_parts (eqb p.0 q.0) (eqb s.0 t.0) h in
    ap (λ x. Entry x s) (row_says p q k.0) ∙ ap (λ x. Entry q x) (column_eq s t (eqb-true s.0 t.0 k.1))
same_says (InPoint p s) (InCell q t) h = absurd (false≢true h)
same_says (InPoint p s) (Entry q t) h = absurd (false≢true h)
same_says (InCell p s) (InPoint q t) h = absurd (false≢true h)
same_says (InCell p s) (Entry q t) h = absurd (false≢true h)
same_says (Entry p s) (InPoint q t) h = absurd (false≢true h)
same_says (Entry p s) (InCell q t) h = absurd (false≢true h)

pub same_self : (a : Claim) → is_same a a ≡ true
same_self (InPoint p s) = rw (number_same p, number_same s.0) refl
same_self (InCell p s) = rw (number_same p, number_same s.0) refl
same_self (Entry p s) = rw (number_same p.0, number_same s.0) refl

pub columns_say : (a b : Option ColId) → is_same_column a b ≡ true → a ≡ b
columns_say None None h = refl
columns_say (Some a) (Some b) h = ap Some (column_eq a b (eqb-true a.0 b.0 h))
columns_say None (Some b) h = absurd (false≢true h)
columns_say (Some a) None h = absurd (false≢true h)

pub columns_same : (a b : Option ColId) → a ≡ b → is_same_column a b ≡ true
columns_same a b e = subst (λ x. is_same_column a x ≡ true) e (self a)
  where
    self : (x : Option ColId) → is_same_column x x ≡ true
    self None = refl
    self (Some x) = number_same x.0

pub slots_say : (a b : Option ℕ) → is_same_slot a b ≡ true → a ≡ b
slots_say None None h = refl
slots_say (Some a) (Some b) h = ap Some (eqb-true a b h)
slots_say None (Some b) h = absurd (false≢true h)
slots_say (Some a) None h = absurd (false≢true h)

pub slots_same : (a b : Option ℕ) → a ≡ b → is_same_slot a b ≡ true
slots_same a b e = subst (λ x. is_same_slot a x ≡ true) e (self a)
  where
    self : (x : Option ℕ) → is_same_slot x x ≡ true
    self None = refl
    self (Some x) = number_same x

-- conjunctions
pub both : (a b : Bool) → a ≡ true → b ≡ true → (a && b) ≡ true
both a b h k = rw (h, k) refl

-- an element that passes a test
pub record Passing {X : Type 0} (f : X → Bool) (xs : List X) : Type 0 where
  pub x : X
  pub listed : Contains xs x
  pub holds : f x ≡ true

pub some_of : {X : Type 0} (f : X → Bool) (xs : List X) → list_any f xs ≡ true → Passing f xs
some_of f xs h =
    let a = Any-from_list_any f xs h in
    record { x = a.1; listed = (a.0, a.2, a.3); holds = a.4 }

pub any_of : {X : Type 0} (f : X → Bool) (xs : List X) (x : X) → Contains xs x → f x ≡ true → list_any f xs ≡ true
any_of f xs x c h = list_any-from_Any f xs (c.0, x, c.1, c.2, h)

-- an element of a place that passes a test
pub record PassingAt {X : Type 0} (f : X → Bool) (xs : List X) (k : ℕ) : Type 0 where
  pub x : X
  pub at : slice_get xs k ≡ Some x
  pub holds : f x ≡ true

pub at_of : {X : Type 0} (f : X → Bool) (xs : List X) (k : ℕ) → option_map_or f (slice_get xs k) false ≡ true → PassingAt f xs k
at_of {X} f xs k h = of (slice_get xs k) refl h
  where
    of : (o : Option X) → slice_get xs k ≡ o → option_map_or f o false ≡ true → PassingAt f xs k
    of None e h = absurd (false≢true h)
    of (Some x) e h = record { x = x; at = e; holds = h }

pub of_at : {X : Type 0} (f : X → Bool) (xs : List X) (k : ℕ) (x : X) → slice_get xs k ≡ Some x → f x ≡ true → option_map_or f (slice_get xs k) false ≡ true
of_at f xs k x e h = rw e h

-- claims of which a rule gives another, in place of equal ones
module _ (G : List Claim → Claim → Type 0) where
  pub change_none : (c d : Claim) → is_same c d ≡ true → G [] d → G [] c
  change_none c d h g = subst (λ y. G [] y) (sym (same_says c d h)) g

  pub change_one : (p q c d : Claim) → is_same p q ≡ true → is_same c d ≡ true → G (q ∷ []) d → G (p ∷ []) c
  change_one p q c d h k g = subst (λ y. G (p ∷ []) y) (sym (same_says c d k)) (subst (λ y. G (y ∷ []) d) (sym (same_says p q h)) g)

  pub change_two : (p p2 q q2 c d : Claim) → is_same p p2 ≡ true → is_same q q2 ≡ true → is_same c d ≡ true → G (p2 ∷ q2 ∷ []) d → G (p ∷ q ∷ []) c
  change_two p p2 q q2 c d h i k g =
      subst (λ y. G (p ∷ q ∷ []) y) (sym (same_says c d k))
      (subst (λ y. G (p ∷ y ∷ []) d) (sym (same_says q q2 i)) (subst (λ y. G (y ∷ q2 ∷ []) d) (sym (same_says p p2 h)) g))

  pub change_three : (p p2 q q2 r r2 c d : Claim) → is_same p p2 ≡ true → is_same q q2 ≡ true → is_same r r2 ≡ true → is_same c d ≡ true
      → G (p2 ∷ q2 ∷ r2 ∷ []) d → G (p ∷ q ∷ r ∷ []) c
  change_three p p2 q q2 r r2 c d h i j k g =
      subst (λ y. G (p ∷ q ∷ r ∷ []) y) (sym (same_says c d k))
      (subst (λ y. G (p ∷ q ∷ y ∷ []) d) (sym (same_says r r2 j))
      (subst (λ y. G (p ∷ y ∷ r2 ∷ []) d) (sym (same_says q q2 i)) (subst (λ y. G (y ∷ q2 ∷ r2 ∷ []) d) (sym (same_says p p2 h)) g)))
