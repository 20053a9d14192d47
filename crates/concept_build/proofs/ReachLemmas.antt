-- Each concept is reached from that of all columns.
use Rattle.std.proofs.Common.{◌≡◌, ⊎_elim, ℕ, suc, zero, ◌+◌, ◌<◌, ◌≤◌, Bool, List, length, sym, ap, ◌∙◌, subst, arith, All}
use Rattle.std.proofs.lemmas.Bool.{cases_lt}
use Rattle.std.proofs.lemmas.List.{get_or_default}
use Rattle.kaba_bits.specs.Sets.{size, IsSubset}
use Rattle.kaba_bits.proofs.SetLemmas.{bit-below, size-le-length, subset-same}
use Rattle.fact_model.specs.Concepts.{Pair, IsIntent, IsConcept, HasIntent}
use Rattle.concept_build.specs.Tables.{IsFull}
use Rattle.concept_build.specs.Lists.{pair_at, AreNext}
use Rattle.concept_build.proofs.ExtentLemmas.{nothing}
use Rattle.concept_build.proofs.MeetLemmas.{same_intents, meet-holds, meet-has, meet-least, near-has}
use Rattle.concept_build.proofs.CoverLemmas.{within_by, extra}

module _ (T : List (List Bool)) (w : ℕ) (xs : List Pair) (each : All (λ k. IsConcept T w k.0 k.1) xs) (next : (k : ℕ) → k < length xs
    → AreNext T xs k) (A B : List Bool) (o : IsConcept T w A B) where
  here : (k : ℕ) → k < length xs → IsSubset (pair_at xs k).0 A → size A ≤ size (pair_at xs k).0 → HasIntent xs B
  here k lt over ge =
      let x = pair_at xs k in
      let c = each k nothing lt in
      let e : x.0 ≡ A = subset-same x.0 A (c.extent.len ∙ sym o.extent.len) over ge in
      let f : x.1 ≡ B = same_intents T w A x.1 B (subst (λ s. IsIntent T w s x.1) e c.intent) o.intent in
      record { at = k; below = lt; is = λ d. ap (λ (y : Pair). y.1) (get_or_default xs k d nothing lt) ∙ f }

  -- a concept of the list that is higher and still within A
  record Step (k : ℕ) : Type 0 where
    at : ℕ
    below : at < length xs
    higher : size (pair_at xs k).0 < size (pair_at xs at).0
    over : IsSubset (pair_at xs at).0 A

  step : (k : ℕ) → k < length xs → IsSubset (pair_at xs k).0 A → size (pair_at xs k).0 < size A → Step k
  step k lt over less =
      let x = pair_at xs k in
      let c = each k nothing lt in
      let more = extra x.0 A less in
      let r = more.0 in
      let rlt : r < length T = omega (arith, bit-below A r more.2, o.extent.len) in
      let n = next k lt r rlt more.1 in
      let j = n.has.0 in
      let jlt = n.has.1 in
      let y = pair_at xs j in
      let p = each j nothing jlt in
      let m = n.has.2 in
      let holds = meet-holds T w x y n.q c p n.below m in
      let within = within_by x.0 y.0 (c.extent.len ∙ sym p.extent.len) holds n.q n.lacks (meet-has T w x y n.q c p n.below m) in
      record {
        at = j;
        below = jlt;
        higher = within.0;
        over = meet-least T w x y n.q c p n.below m (A, B) o over (near-has T w x (A, B) c o over r n.q rlt n.below n.more more.2);
      }

  climb : (fuel k : ℕ) → k < length xs → length T ≤ size (pair_at xs k).0 + fuel → IsSubset (pair_at xs k).0 A → HasIntent xs B
  climb zero k lt enough over = here k lt over (omega (arith, size-le-length A, o.extent.len, enough))
  climb (suc fuel) k lt enough over =
      ⊎_elim
      (λ less. let s = step k lt over less in climb fuel s.at s.below (omega (arith, s.higher, enough)) s.over)
      (λ ge. here k lt over ge)
      (cases_lt (size (pair_at xs k).0) (size A))

  pub reached : 0 < length xs → IsFull w (pair_at xs 0).1 → HasIntent xs B
  reached lt full =
      let c = each 0 nothing lt in
      climb (length T) 0 lt (omega arith) (λ r a.
      let rlt : r < length T = omega (arith, bit-below (pair_at xs 0).0 r a, c.extent.len) in
      (o.extent.rows r rlt).1 (λ i h. (c.extent.rows r rlt).0 a i (full.bits i (omega (arith, bit-below B i h, o.intent.len)))))
