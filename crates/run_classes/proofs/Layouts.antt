-- The fields of objects in their places.
use Rattle.std.proofs.Common.{◌≡◌, ℕ, zero, suc, ◌+◌, Bool, true, false, cond, List, [], ◌∷◌, ◌++◌, Option, Some, None, map, length, refl, sym, ap, ◌∙◌, subst, arith, ◌-◌, ◌<◌}
use Rattle.std.specs.Prelude.{◌==◌, ◌&&◌, not, slice_get, if◌then◌else◌}
use Rattle.std.specs.Option.{option_map_or}
use Rattle.std.proofs.lemmas.List.{append_assoc, length-append}
use Rattle.kaba_base.specs.declared.ClassId.{ClassId}
use Rattle.kaba_base.proofs.ListLemmas.{middle}
use Rattle.java_core.specs.declared.Field.{Field}
use Rattle.java_core.specs.Programs.{Plain, field_seen}
use Rattle.java_core.specs.Classes.{parent_of}
use Rattle.java_core.specs.Owned.{owned_from}
use Rattle.java_meaning.specs.Languages.{layout_in, own_fields, own_fields_from}
use Rattle.run_classes.specs.Lines.{line_in, fields_down, is_instance, instances}

-- a layout has the fields of the way upwards
pub down_layout : (P : Plain) (n : ℕ) (c : ClassId) → fields_down P (line_in P n c) ≡ layout_in P n c.0
down_layout P zero c = refl
down_layout P (suc n) c = ap (λ l. l ++ own_fields P c.0) (up (λ p. down_layout P n p) (parent_of P c.0))
  where
    up : ((p : ClassId) → fields_down P (line_in P n p) ≡ layout_in P n p.0) → (o : Option ClassId)
        → fields_down P (option_map_or (λ p. line_in P n p) o []) ≡ option_map_or (λ p. layout_in P n p.0) o []
    up rec None = refl
    up rec (Some p) = rec p

-- a step upwards
module _ (P : Plain) (done whole : List ClassId) (at : ClassId) where
  line_end : (n : ℕ) → 0 < n → parent_of P at.0 ≡ None → done ++ line_in P n at ≡ whole → done ++ at ∷ [] ≡ whole
  line_end zero lt top e = absurd (omega (arith, lt))
  line_end (suc n) lt top e = ap (λ o. done ++ at ∷ option_map_or (λ p. line_in P n p) o []) (sym top) ∙ e

  pub line_ends : (n k : ℕ) → k < n → parent_of P at.0 ≡ None → done ++ line_in P (n - k) at ≡ whole → done ++ at ∷ [] ≡ whole
  line_ends n k lt = line_end (n - k) (omega (arith, lt))

  line_up : (n : ℕ) (p : ClassId) → 0 < n → parent_of P at.0 ≡ Some p → done ++ line_in P n at ≡ whole → (done ++ at ∷ []) ++ line_in P (n - 1) p ≡ whole
  line_up zero p lt up e = absurd (omega (arith, lt))
  line_up (suc n) p lt up e =
      append_assoc done (at ∷ []) (line_in P (suc n - 1) p) ∙ ap (λ i. done ++ at ∷ line_in P i p) (let z : suc n - 1 ≡ n = omega arith in z)
      ∙ ap (λ o. done ++ at ∷ option_map_or (λ p. line_in P n p) o []) (sym up) ∙ e

  pub line_goes : (n k : ℕ) (p : ClassId) → k < n → parent_of P at.0 ≡ Some p → done ++ line_in P (n - k) at ≡ whole
      → (done ++ at ∷ []) ++ line_in P (n - (k + 1)) p ≡ whole
  line_goes n k p lt up e =
      subst (λ i. (done ++ at ∷ []) ++ line_in P i p ≡ whole) (let z : n - k - 1 ≡ n - (k + 1) = omega arith in z) (line_up (n - k) p (omega (arith, lt)) up e)

-- of the fields that a class declares, the instance fields are its own fields
among : (c : ℕ) (done rest : List Field) (k : ℕ) → length done ≡ k
    → instances (done ++ rest) (owned_from k c (map (λ f. f.owner.0) rest)) ≡ own_fields_from c k (map field_seen rest)
among c done [] k e = refl
among c done (x ∷ rest) k e =
    by_owner (x.owner.0 == c) (ap (λ o. option_map_or (λ f. not f.is_static) o false) (subst (λ i. slice_get (done ++ x ∷ rest) i ≡ Some x) e
    (middle done x rest)))
    (ap (λ w. instances w (owned_from (k + 1) c (map (λ f. f.owner.0) rest))) (sym (append_assoc done (x ∷ []) rest))
    ∙ among c (done ++ x ∷ []) rest (k + 1) (length-append done (x ∷ []) ∙ ap (λ i. i + 1) e)
    ∙ ap (λ i. own_fields_from c i (map field_seen rest)) (let z : k + 1 ≡ suc k = omega arith in z))
  where
    by_owner : (b : Bool) → is_instance (done ++ x ∷ rest) k ≡ not x.is_static
        → instances (done ++ x ∷ rest) (owned_from (k + 1) c (map (λ f. f.owner.0) rest)) ≡ own_fields_from c (suc k) (map field_seen rest)
        → instances (done ++ x ∷ rest) (cond b (k ∷ owned_from (k + 1) c (map (λ f. f.owner.0) rest)) (owned_from (k + 1) c (map (λ f. f.owner.0) rest)))
        ≡ (if b && not x.is_static then k ∷ [] else []) ++ own_fields_from c (suc k) (map field_seen rest)
    by_owner true i h =
        ap (λ z. (if z then k ∷ [] else []) ++ instances (done ++ x ∷ rest) (owned_from (k + 1) c (map (λ f. f.owner.0) rest))) i
        ∙ ap (λ l. (if not x.is_static then k ∷ [] else []) ++ l) h
    by_owner false i h = h

pub own_instances : (c : ℕ) (fields : List Field) → instances fields (owned_from 0 c (map (λ f. f.owner.0) fields))
    ≡ own_fields_from c 0 (map field_seen fields)
own_instances c fields = among c [] fields 0 refl
