-- The nodes above a node that are no upper covers of it.
use Rattle.std.proofs.Common.{◌≡◌, ◌⊎◌, inl, inr, ⊎_elim, ℕ, ◌==◌, ◌↔◌, IsTrue, Bool, true, false, ◌&&◌, ◌||◌, not, List, [], ◌∷◌, ◌++◌, length, Contains, refl, sym, subst, ◌∙◌, arith}
use Rattle.std.proofs.lemmas.Bool.{false≢true, eq-eqb, ne_eqb, not-true, and_parts, or_cases, or_left, or_right}
use Rattle.std.proofs.lemmas.List.Elements.{Contains-append_cases}
use Rattle.kaba_bits.specs.Sets.{bit, IsEmpty, IsSubset}
use Rattle.kaba_bits.proofs.SetLemmas.{bit-below}
use Rattle.kaba_order.specs.Orders.{Ordered, IsPartialOrder, is_le, IsStrictlyBelow, IsCover}
use Rattle.kaba_order.specs.Beyond.{IsBeyond, AreSomeBeyond, IsPassed}

-- at first there is none
pub none_found : (o : Ordered) (n : ℕ) (set : List Bool) → IsEmpty set → AreSomeBeyond o n set
none_found o n set empty = record {
  found = λ b h. absurd (false≢true (sym (empty b) ∙ h));
  closed = λ k h. absurd (false≢true (sym (empty k) ∙ h));
}

-- the nodes strictly above one were added
module _ (o : Ordered) (n k : ℕ) (old new : List Bool) (bits : (b : ℕ) → bit new b ≡ (bit old b || (is_le o k b && not (k == b)))) where
  pub grown : IsSubset old new
  grown b h = bits b ∙ or_left (bit old b) (is_le o k b && not (k == b)) h

  pub all_passed : IsPassed o k new
  all_passed b down = bits b ∙ or_right (bit old b) (is_le o k b && not (k == b)) (rw (down.0, ne_eqb k b down.1) refl)

  came : (b : ℕ) → bit new b ≡ true → (bit old b ≡ true) ⊎ IsStrictlyBelow o k b
  came b h =
      ⊎_elim
      inl
      (λ fresh.
      let p = and_parts (is_le o k b) (not (k == b)) fresh in
      inr (p.0, λ e. false≢true (sym (not-true (k == b) p.1) ∙ eq-eqb k b e)))
      (or_cases (bit old b) (is_le o k b && not (k == b)) (sym (bits b) ∙ h))

  pub more_found : IsPartialOrder o → IsStrictlyBelow o n k → AreSomeBeyond o n old → AreSomeBeyond o n new
  more_found order above is = record {
    found = λ b h. ⊎_elim
        (is.found b)
        (λ down. record { at = k; below = bit-below o.live k (order.upper_lives n k above.0); up = above; down = down })
        (came b h);
    closed = λ c h b down. ⊎_elim
        (λ before. grown b (is.closed c before b down))
        (λ up. all_passed b
        (order.transitive k c b up.0 down.0, λ e. down.1 (order.antisymmetric c b down.0 (subst (λ x. is_le o x c ≡ true) e up.0))))
        (came c h);
  }

-- the last of the nodes that are left was passed
pub passed_step : (o : Ordered) (n k : ℕ) (before after : List ℕ) (old new : List Bool) → before ≡ after ++ k ∷ [] → IsSubset old new
    → (IsStrictlyBelow o n k → IsPassed o k new)
    → ((x : ℕ) → IsStrictlyBelow o n x → Contains before x ⊎ IsPassed o x old)
    → (x : ℕ) → IsStrictlyBelow o n x → Contains after x ⊎ IsPassed o x new
passed_step o n k before after old new is grows here each x up =
    ⊎_elim
    (λ c. ⊎_elim
    inl
    (λ last. let e : k ≡ x = grind (arith, last.1, last.2) in inr (subst (λ y. IsPassed o y new) e (here (subst (λ y. IsStrictlyBelow o n y) (sym e) up))))
    (Contains-append_cases after (k ∷ []) x (subst (λ l. Contains l x) is c)))
    (λ p. inr (λ b down. grows b (p b down)))
    (each x up)

-- where none is left, the set is that of the nodes beyond
pub all_beyond : (o : Ordered) (n : ℕ) (set : List Bool) (left : List ℕ) → length left ≡ 0 → AreSomeBeyond o n set
    → ((x : ℕ) → IsStrictlyBelow o n x → Contains left x ⊎ IsPassed o x set) → IsBeyond o n (length o.live) set
all_beyond o n set left none is each = record {
  exact = λ b. (is.found b, λ x. ⊎_elim (λ c. absurd (omega (arith, c.1, none))) (λ p. p b x.down) (each x.at x.up));
}

not_from : (x : Bool) → (x ≡ true → ⊥) → not x ≡ true
not_from true h = absurd (h refl)
not_from false h = refl

-- what is above and not beyond is an upper cover
pub cover_from : (o : Ordered) (n b : ℕ) (set : List Bool) → IsPartialOrder o → IsBeyond o n (length o.live) set
    → IsStrictlyBelow o n b → bit set b ≡ false → IsCover o n b
cover_from o n b set order is above lacks = record {
  above = above;
  none = λ k up down.
      false≢true (sym lacks ∙ (is.exact b).1 (record { at = k; below = bit-below o.live k (order.upper_lives n k up.0); up = up; down = down }));
}

-- and an upper cover is not beyond
pub cover_lacks : (o : Ordered) (n m b : ℕ) (set : List Bool) → IsBeyond o n m set → IsCover o n b → bit set b ≡ true → ⊥
cover_lacks o n m b set is cover h = let x = (is.exact b).0 h in cover.none x.at x.up x.down

-- what is above is an upper cover exactly where it is not beyond
pub tells_cover : (o : Ordered) (n b : ℕ) (set : List Bool) (has : Bool) → IsPartialOrder o → IsBeyond o n (length o.live) set
    → IsStrictlyBelow o n b → has ≡ bit set b → IsTrue (not has) ↔ IsCover o n b
tells_cover o n b set has order is above e = (
  λ h. cover_from o n b set order is above (sym e ∙ not-true has h),
  λ cover. not_from has (λ h. cover_lacks o n (length o.live) b set is cover (sym e ∙ h)),
)
