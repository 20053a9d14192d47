-- Lists and tests over the numbers of the nodes.
use Rattle.std.proofs.Common.{◌≡◌, ℕ, ◌+◌, Bool, true, false, cond, List, [], ◌∷◌, ◌++◌, length, map, add-one, zero-add, sym, ap, ◌∙◌, refl}
use Rattle.std.specs.List.{filter, range_with_len}
use Rattle.std.proofs.lemmas.List.{map-append}
use Rattle.std.proofs.lemmas.List.Elements.{filter-append}
use Rattle.kaba_base.proofs.ListLemmas.{range_more}
use Rattle.fact_model.specs.declared.facts.Facts.{Facts}
use Rattle.hier_model.specs.Hierarchies.{Hierarchy, any_below, offers_slot}
use Rattle.rebuild_model.specs.Members.{offers_body}
use Rattle.source_gen.specs.Seen.{is_offered_as}

if_one : {A : Type 0} (t : ℕ → A) (b : Bool) (i : ℕ) → map t (cond b (i ∷ []) []) ≡ cond b (t i ∷ []) []
if_one t true i = refl
if_one t false i = refl

-- what the numbers that pass a test give, with one number more
pub filtered_more : {A : Type 0} (t : ℕ → A) (p : ℕ → Bool) (i : ℕ) (b : Bool) (old new : List A) → b ≡ p i → new ≡ old ++ cond b (t i ∷ []) []
    → old ≡ map t (filter p (range_with_len 0 i))
    → new ≡ map t (filter p (range_with_len 0 (i + 1)))
filtered_more t p i b old new is step known =
    let below = range_with_len 0 i in
    let whole = ap (λ k. range_with_len 0 k) (add-one i) ∙ range_more 0 i ∙ ap (λ k. below ++ k ∷ []) (zero-add i) in
    step ∙ ap (λ (c : Bool). old ++ cond c (t i ∷ []) []) is ∙ ap (λ l. l ++ cond (p i) (t i ∷ []) []) known
    ∙ sym (ap (λ l. map t (filter p l)) whole ∙ ap (map t) (filter-append p below (i ∷ [])) ∙ map-append t (filter p below) (filter p (i ∷ []))
    ∙ ap (λ l. map t (filter p below) ++ l) (if_one t (p i) i))

-- a body that is offered, or a declaration or a body
pub offers_either : (F : Facts) (H : Hierarchy) (n x : ℕ) (bodies : Bool)
    → any_below (length F.columns.items) (λ c. is_offered_as F H n x bodies c) ≡ cond bodies (offers_body F H n x) (offers_slot F H n x)
offers_either F H n x true = refl
offers_either F H n x false = refl
