-- A concept whose intent is that of another without what a row lacks.
use Rattle.std.proofs.Common.{◌≡◌, ℕ, ◌<◌, Bool, true, List, length, sym, ◌∙◌, arith}
use Rattle.std.proofs.lemmas.Bool.{and_from}
use Rattle.kaba_base.proofs.TestLemmas.{same_truth}
use Rattle.kaba_bits.specs.Sets.{bit, row, IsSubset}
use Rattle.kaba_bits.proofs.SetLemmas.{same_bits, bit-below}
use Rattle.fact_model.specs.Concepts.{Pair, IsExtent, IsIntent, IsConcept}
use Rattle.concept_build.specs.Tables.{IsMeet, IsNoMore}
use Rattle.concept_build.proofs.MadeLemmas.{meet-left, meet-right}

module _ (T : List (List Bool)) (w : ℕ) where
  pub same_extent : (A C B : List Bool) → IsExtent T A B → IsExtent T C B → A ≡ C
  same_extent A C B e f =
      same_bits A C (e.len ∙ sym f.len) (λ r lt.
      let below : r < length T = omega (arith, lt, e.len) in
      same_truth (bit A r) (bit C r) (λ a. (f.rows r below).1 ((e.rows r below).0 a)) (λ c. (e.rows r below).1 ((f.rows r below).0 c)))

  pub same_intents : (A B D : List Bool) → IsIntent T w A B → IsIntent T w A D → B ≡ D
  same_intents A B D e f =
      same_bits B D (e.len ∙ sym f.len) (λ c lt.
      let below : c < w = omega (arith, lt, e.len) in
      same_truth (bit B c) (bit D c) (λ b. (f.columns c below).1 ((e.columns c below).0 b)) (λ d. (e.columns c below).1 ((f.columns c below).0 d)))

  module _ (x y : Pair) (q : ℕ) (c : IsConcept T w x.0 x.1) (p : IsConcept T w y.0 y.1) (qlt : q < length T) (m : IsMeet y.1 x.1 (row T q)) where
    pub meet-holds : IsSubset x.0 y.0
    meet-holds r a =
        let rlt : r < length T = omega (arith, bit-below x.0 r a, c.extent.len) in
        (p.extent.rows r rlt).1 (λ i b. (c.extent.rows r rlt).0 a i (meet-left y.1 x.1 (row T q) m i b))

    pub meet-has : bit y.0 q ≡ true
    meet-has = (p.extent.rows q qlt).1 (meet-right y.1 x.1 (row T q) m)

    pub meet-least : (u : Pair) → IsConcept T w u.0 u.1 → IsSubset x.0 u.0 → bit u.0 q ≡ true → IsSubset y.0 u.0
    meet-least u o over has r b =
        let rlt : r < length T = omega (arith, bit-below y.0 r b, p.extent.len) in
        (o.extent.rows r rlt).1 (λ i h.
        let below : i < w = omega (arith, bit-below u.1 i h, o.intent.len) in
        let each = (o.intent.columns i below).0 h in
        (p.extent.rows r rlt).0 b i (m.bits i
        ∙ and_from (bit x.1 i) (bit (row T q) i) ((c.intent.columns i below).1 (λ s slt a. each s slt (over s a))) (each q qlt has)))

  -- an extent above x with a row has each row that has no less of x's intent
  pub near-has : (x u : Pair) → IsConcept T w x.0 x.1 → IsConcept T w u.0 u.1 → IsSubset x.0 u.0 → (r q : ℕ) → r < length T → q < length T
      → IsNoMore x.1 (row T r) (row T q) → bit u.0 r ≡ true → bit u.0 q ≡ true
  near-has x u c o over r q rlt qlt more b =
      (o.extent.rows q qlt).1 (λ i h.
      let below : i < w = omega (arith, bit-below u.1 i h, o.intent.len) in
      let each = (o.intent.columns i below).0 h in
      more i ((c.intent.columns i below).1 (λ s slt a. each s slt (over s a))) (each r rlt b))
