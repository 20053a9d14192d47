-- What is found on the way through all kept sets of a table.
use Rattle.std.proofs.Common.{◌≡◌, ◌≢◌, inl, inr, ⊎_elim, ℕ, suc, zero, ◌+◌, ◌<◌, Bool, true, false, cond, List, [], ◌∷◌, ◌++◌, length, get_or, Contains, refl, sym, ap, ◌∙◌, subst, arith}
use Rattle.std.proofs.lemmas.Bool.{cases_lt, false≢true}
use Rattle.std.proofs.lemmas.List.Elements.{All-push, Contains-append_left, Contains-push}
use Rattle.std.proofs.lemmas.List.Quantifiers.{all_pairs_push}
use Rattle.kaba_bits.specs.Sets.{bit, IsSubset, IsEmpty}
use Rattle.kaba_bits.proofs.SetLemmas.{empty-size, subset-both}
use Rattle.stem_base.specs.Base.{Sides, common, IsPseudo}
use Rattle.stem_base.specs.Lectic.{Precedes, IsUpTo, IsKeptSet, FailFrom, IsStepTo}
use Rattle.stem_base.specs.Found.{AreBefore, AreNoted, AreStemsFound, power_of_two, lectic_rank}
use Rattle.stem_base.proofs.TableLemmas.{common_wide, common_holds, common_grows}
use Rattle.stem_base.proofs.Pseudo.{from_said}
use Rattle.stem_base.proofs.OrderLemmas.{three, never_both, pseudo_kept, none_after, next_before, next_is_kept, next_is_least}

trans : (A B C : List Bool) → Precedes A B → Precedes B C → Precedes A C
trans A B C a b = ⊎_elim
    (λ lt. record {
      at = a.at;
      below = λ j l. a.below j l ∙ b.below j (omega (arith, l, lt));
      lacks = a.lacks;
      has = sym (b.below a.at lt) ∙ a.has;
    })
    (λ ge. record {
      at = b.at;
      below = λ j l. a.below j (omega (arith, l, ge)) ∙ b.below j l;
      lacks = ⊎_elim (λ lt. a.below b.at lt ∙ b.lacks) (λ le. let e : a.at ≡ b.at = omega (arith, ge, le) in subst (λ k. bit A k ≡ false) e a.lacks)
          (cases_lt b.at a.at);
      has = b.has;
    })
    (cases_lt a.at b.at)

-- ---- as numbers
pub lectic_rank-lt : (A : List Bool) → lectic_rank A < power_of_two (length A)
lectic_rank-lt [] = omega arith
lectic_rank-lt (true ∷ A) = omega (arith, lectic_rank-lt A)
lectic_rank-lt (false ∷ A) = omega (arith, lectic_rank-lt A)

pub tail_before : (x y : Bool) (A B : List Bool) (n : ℕ) (b : Precedes (x ∷ A) (y ∷ B)) → b.at ≡ suc n → Precedes A B
tail_before x y A B n b e = record {
  at = n;
  below = λ j l. b.below (suc j) (omega (arith, e, l));
  lacks = subst (λ k. bit (x ∷ A) k ≡ false) e b.lacks;
  has = subst (λ k. bit (y ∷ B) k ≡ true) e b.has;
}

pub lectic_rank-before : (A B : List Bool) → length A ≡ length B → Precedes A B → lectic_rank A < lectic_rank B
lectic_rank-before [] [] l b = absurd (false≢true b.has)
lectic_rank-before [] (y ∷ B) l b = absurd (omega (arith, l))
lectic_rank-before (x ∷ A) [] l b = absurd (omega (arith, l))
lectic_rank-before (x ∷ A) (y ∷ B) l b = by (λ c. lectic_rank-before A B (omega (arith, l)) c) b.at refl
  where
    same : length A ≡ length B
    same = omega (arith, l)

    by : (Precedes A B → lectic_rank A < lectic_rank B) → (n : ℕ) → b.at ≡ n → lectic_rank (x ∷ A) < lectic_rank (y ∷ B)
    by go zero e =
        let f : x ≡ false = subst (λ k. bit (x ∷ A) k ≡ false) e b.lacks in
        let t : y ≡ true = subst (λ k. bit (y ∷ B) k ≡ true) e b.has in
        let p : lectic_rank (x ∷ A) ≡ 0 + lectic_rank A = ap (λ x. cond x (power_of_two (length A)) 0 + lectic_rank A) f in
        let q : lectic_rank (y ∷ B) ≡ power_of_two (length B) + lectic_rank B = ap (λ y. cond y (power_of_two (length B)) 0 + lectic_rank B) t in
        omega (arith, p, q, lectic_rank-lt A, ap power_of_two same)
    by go (suc n) e =
        let h : x ≡ y = b.below 0 (omega (arith, e)) in
        let r = go (tail_before x y A B n b e) in
        let p : lectic_rank (x ∷ A) ≡ cond y (power_of_two (length B)) 0 + lectic_rank A = ap (λ x. cond x (power_of_two (length A)) 0
        + lectic_rank A) h ∙ ap (λ m. cond y (power_of_two m) 0 + lectic_rank A) same in
        omega (arith, p, r)

module _ (T : List (List Bool)) (w : ℕ) where
  wide : (X : List Bool) → length X ≡ w → length (common T w X) ≡ w
  wide X len = common_wide T w X

  holds : (X : List Bool) → length X ≡ w → IsSubset X (common T w X)
  holds X len = common_holds T w X len

  grows : (X Y : List Bool) → IsSubset X Y → IsSubset (common T w X) (common T w Y)
  grows X Y s = common_grows T w X Y s

  pub first_kept : (A : List Bool) → length A ≡ w → IsEmpty A → IsKeptSet w (common T w) A
  first_kept A l none = record { len = l; stems = λ Q q sub lt. absurd (let e = empty-size A none in omega (arith, e, lt)) }

  pub first_before : (A : List Bool) → IsEmpty A → AreBefore w (common T w) A []
  first_before A none = record {
    each = λ k d lt. absurd (omega (arith, lt));
    rising = λ i j d ij lt. absurd (omega (arith, lt));
    complete = λ P p b. absurd (false≢true (sym (none b.at) ∙ b.has));
  }

  module _ (A : List Bool) (kept : IsKeptSet w (common T w) A) (base : List Sides) where
    pub noted_same : AreBefore w (common T w) A base → IsSubset (common T w A) A → AreNoted w (common T w) A base
    noted_same b sub = record {
      upto = record {
        each = λ k d lt. let e = b.each k d lt in (e.0, e.1, inr e.2);
        complete = λ P p u. ⊎_elim
            (λ e. absurd (let s : A ≢ common T w A = subst (λ (X : List Bool). X ≢ common T w X) e p.1 in
            s (subset-both A (common T w A) (kept.len ∙ sym (common_wide T w A)) (holds A kept.len) sub)))
            (λ q. b.complete P p q)
            u;
      };
      rising = b.rising;
    }

    pub noted_push : AreBefore w (common T w) A base → (IsSubset (common T w A) A → ⊥) → AreNoted w (common T w) A (base ++ (A, common T w A) ∷ [])
    noted_push b more =
        let p : IsPseudo w (common T w) A = from_said w (common T w) wide holds grows A kept.len
        (λ e. more (subst (λ (X : List Bool). IsSubset X A) e (λ i h. h))) (λ Q q sub lt. kept.stems Q q sub lt) in
        record {
          upto = record {
            each = All-push (λ r. IsPseudo w (common T w) r.0 × (r.1 ≡ common T w r.0) × IsUpTo r.0 A) base (A, common T w A)
                (λ k d lt. let e = b.each k d lt in (e.0, e.1, inr e.2)) (p, refl, inl refl);
            complete = λ P q u. ⊎_elim
                (λ e. subst (λ (X : List Bool). Contains (base ++ (A, common T w A) ∷ []) (X, common T w X)) (sym e) (Contains-push base (A, common T w A)))
                (λ before. Contains-append_left base ((A, common T w A) ∷ []) (P, common T w P) (b.complete P q before))
                u;
          };
          rising = all_pairs_push (λ r s. Precedes r.0 s.0) base (A, common T w A) b.rising (λ k d lt. (b.each k d lt).2);
        }

    pub found_more : (bound : ℕ) → AreNoted w (common T w) A base → bound < length base → AreStemsFound w (common T w) bound base
    found_more bound n more = record {
      each = λ k d lt. let e = n.upto.each k d lt in (e.0, e.1);
      rising = n.rising;
      complete = λ le. absurd (omega (arith, le, more));
    }

    pub found_all : (bound : ℕ) → AreNoted w (common T w) A base → FailFrom w A base 0 → AreStemsFound w (common T w) bound base
    found_all bound n none = record {
      each = λ k d lt. let e = n.upto.each k d lt in (e.0, e.1);
      rising = n.rising;
      complete = λ le P p. ⊎_elim (λ e. n.upto.complete P p (inl e)) (λ o. ⊎_elim (λ b. n.upto.complete P p (inr b))
          (λ b. absurd (none_after w (common T w) wide holds grows A kept.len base n.upto none P (pseudo_kept w (common T w) wide holds grows P p) b)) o)
          (three P A (p.0 ∙ sym kept.len));
    }

    pub after_is : (S : List Bool) → AreNoted w (common T w) A base → IsStepTo w A base S → Precedes A S
    after_is S n x = next_before w (common T w) wide holds grows A kept.len base n.upto S x

    pub then_kept : (S : List Bool) → AreNoted w (common T w) A base → IsStepTo w A base S → IsKeptSet w (common T w) S
    then_kept S n x = next_is_kept w (common T w) wide holds grows A kept.len base n.upto S x

    pub then_before : (S : List Bool) → AreNoted w (common T w) A base → IsStepTo w A base S → AreBefore w (common T w) S base
    then_before S n x =
        let after = after_is S n x in
        record {
          each = λ k d lt. let e = n.upto.each k d lt in
              (e.0, e.1, ⊎_elim (λ same. subst (λ (X : List Bool). Precedes X S) (sym same) after) (λ b. trans (get_or base k d).0 A S b after) e.2);
          rising = n.rising;
          complete = λ P p b. ⊎_elim (λ e. n.upto.complete P p (inl e)) (λ o. ⊎_elim (λ c. n.upto.complete P p (inr c))
              (λ c. absurd (⊎_elim
              (λ same. false≢true (sym b.lacks ∙ subst (λ (X : List Bool). bit X b.at ≡ true) same b.has))
              (λ d. never_both P S b d)
              (next_is_least w (common T w) wide holds grows A kept.len base n.upto S x P (pseudo_kept w (common T w) wide holds grows P p) c))) o)
              (three P A (p.0 ∙ sym kept.len));
        }
