-- The test of an upper cover, and what it says.
use Rattle.std.proofs.Common.{◌≡◌, ◌≢◌, ⊎_elim, ℕ, ◌==◌, ◌↔◌, IsTrue, Bool, true, false, ◌&&◌, not, length, refl, sym, ◌∙◌}
use Rattle.std.proofs.lemmas.Bool.{false≢true, and_from, and_parts, cases_Bool, eq-eqb, ne_eqb, not_from_false}
use Rattle.kaba_base.proofs.TestLemmas.{same_truth, from_not}
use Rattle.kaba_bits.proofs.SetLemmas.{bit-below}
use Rattle.kaba_order.specs.Orders.{Ordered, is_le, IsStrictlyBelow, IsCover, IsPartialOrder}
use Rattle.hier_model.specs.Hierarchies.{any_below}
use Rattle.hier_model.proofs.AnyLemmas.{any_below_some, any_below_none}
use Rattle.hier_model.specs.Covers.{is_above, is_cover}

above_from : (o : Ordered) (a b : ℕ) → IsStrictlyBelow o a b → is_above o a b ≡ true
above_from o a b h = and_from (is_le o a b) (not (a == b)) h.0 (not_from_false (a == b) (ne_eqb a b h.1))

above_is : (o : Ordered) (a b : ℕ) → is_above o a b ≡ true → IsStrictlyBelow o a b
above_is o a b h =
    let p = and_parts (is_le o a b) (not (a == b)) h in
    (p.0, λ e. false≢true (sym (from_not (a == b) p.1) ∙ eq-eqb a b e))

module _ (o : Ordered) (a b : ℕ) (order : IsPartialOrder o) where
  abbrev between : ℕ → Bool
  between k = is_above o a k && is_above o k b

  cover_is : is_cover o a b ≡ true → IsCover o a b
  cover_is h =
      let p = and_parts (is_above o a b) (not (any_below (length o.live) between)) h in
      record {
        above = above_is o a b p.0;
        none = λ k up down.
            let no = any_below_none between (length o.live) k (from_not (any_below (length o.live) between) p.1)
            (bit-below o.live k (order.upper_lives a k up.0)) in
            false≢true (sym no ∙ and_from (is_above o a k) (is_above o k b) (above_from o a k up) (above_from o k b down));
      }

  none_between : IsCover o a b → any_below (length o.live) between ≡ true → ⊥
  none_between cover h =
      let k = any_below_some between (length o.live) h in
      let p = and_parts (is_above o a k.0) (is_above o k.0 b) k.2 in
      cover.none k.0 (above_is o a k.0 p.0) (above_is o k.0 b p.1)

  cover_from : IsCover o a b → is_cover o a b ≡ true
  cover_from cover =
      and_from (is_above o a b) (not (any_below (length o.live) between)) (above_from o a b cover.above)
      (⊎_elim (λ h. absurd (none_between cover h)) (λ h. not_from_false (any_below (length o.live) between) h)
      (cases_Bool (any_below (length o.live) between)))

  -- an answer that tells an upper cover is the test
  pub cover_test : (t : Bool) → (IsTrue t ↔ IsCover o a b) → t ≡ is_cover o a b
  cover_test t e = same_truth t (is_cover o a b) (λ h. cover_from (e.0 h)) (λ h. e.1 (cover_is h))
