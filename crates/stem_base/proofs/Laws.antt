-- The laws of the base of a table.
use Rattle.std.proofs.Common.{◌≡◌, ◌≢◌, ℕ, ◌≤◌, Bool, List, length, get_or, sym, ap, ◌∙◌, subst, rules}
use Rattle.std.specs.declared.cmp.Ordering.TheVariants.{Less, Greater}
use Rattle.std.specs.Ordering.{ordering_reverse}
use Rattle.std.specs.Cmp.{IsTotalOrder}
use Rattle.std.specs.Cmp.Rules.{comparing}
use Rattle.std.proofs.lemmas.List.Elements.{All-contains}
use Rattle.kaba_bits.specs.Sets.{IsSubset}
use Rattle.stem_base.specs.Base.{Sides, HoldsIn, Respects, IsClosedUnder, common, IsBaseOf, implication_cmp, IsStemBase}
use Rattle.stem_base.specs.Laws.{ClosesAsSaid, ReadsAsSaid, AreABase, AllFollow, NoneShorter}
use Rattle.stem_base.proofs.TableLemmas.{common_wide, common_holds, common_grows, common_row, common_most, common_column}
use Rattle.stem_base.proofs.Pseudo.{from_said, inner, closed_if}
use Rattle.stem_base.proofs.Least.{shortest}

pub implication_cmp-total : IsTotalOrder implication_cmp
implication_cmp-total = search (comparing, rules) depth 9

different : (a b : Sides) → implication_cmp a b ≡ Less → a.0 ≢ b.0
different a b less e =
    let same : implication_cmp a a ≡ Less = subst (λ (P : List Bool). implication_cmp a (P, b.1) ≡ Less) (sym e) less in
    let no : Less ≡ Greater = sym same ∙ (implication_cmp-total.antisymm a a ∙ ap ordering_reverse same) in cc

module _ (T : List (List Bool)) (w : ℕ) where
  wide : (X : List Bool) → length X ≡ w → length (common T w X) ≡ w
  wide X len = common_wide T w X

  holds : (X : List Bool) → length X ≡ w → IsSubset X (common T w X)
  holds X len = common_holds T w X len

  grows : (X Y : List Bool) → IsSubset X Y → IsSubset (common T w X) (common T w Y)
  grows X Y s = common_grows T w X Y s

  pub closed_under_is : (base : List Sides) → IsStemBase w (common T w) base → (X : List Bool) → length X ≡ w → IsClosedUnder base X → X ≡ common T w X
  closed_under_is base b X len closed = closed_if w (common T w) wide holds grows X len
      (λ Q q sub. All-contains (Respects X) base (Q, common T w Q) closed (b.complete Q q) sub)

  pub is_sound : (base : List Sides) → IsStemBase w (common T w) base → IsBaseOf T w base
  is_sound base b = record {
    wide = λ k d lt. ap length (b.stems.each k d lt).1 ∙ common_wide T w (get_or base k d).0;
    holds = λ k d lt.
        let r = get_or base k d in
        subst (λ (Q : List Bool). HoldsIn T (r.0, Q)) (sym (b.stems.each k d lt).1) (λ j below sub. common_row T w r.0 j below sub);
    closed = λ X len. (
      closed_under_is base b X len,
      λ is k d lt sub.
          let r = get_or base k d in
          subst (λ (Q : List Bool). IsSubset Q X) (sym (b.stems.each k d lt).1) (subst (λ (Y : List Bool). IsSubset (common T w r.0) Y) (sym is)
          (grows r.0 X sub)),
    );
  }

  pub follow : (base : List Sides) → IsStemBase w (common T w) base → (r : Sides) → length r.1 ≡ w → HoldsIn T r
      → (X : List Bool) → length X ≡ w → IsClosedUnder base X → IsSubset r.0 X → IsSubset r.1 X
  follow base b r len h X lenX closed sub =
      subst (λ (Y : List Bool). IsSubset r.1 Y) (sym (closed_under_is base b X lenX closed))
      (λ i t. grows r.0 X sub i (common_most T w r.0 r.1 len h i t))

  pub least : (base L : List Sides) → IsStemBase w (common T w) base → IsBaseOf T w L → length base ≤ length L
  least base L b s = shortest w (common T w) wide holds grows L
      (λ k d lt. common_most T w (get_or L k d).0 (get_or L k d).1 (s.wide k d lt) (s.holds k d lt))
      (λ X len closed. (s.closed X len).0 closed)
      base (λ k d lt. (b.stems.each k d lt).0) (λ i j d ij jlt. different (get_or base i d) (get_or base j d) (b.stems.ordered i j d ij jlt))

pub closes_as_said : ClosesAsSaid
closes_as_said T w P c lt = (λ t r below sub. common_row T w P r below sub c t, λ h. common_column T w P c lt h)

pub reads_as_said : ReadsAsSaid
reads_as_said T w P = (
  λ p. (p.0, p.1, λ Q q sub lt. inner w (common T w) (wide T w) (holds T w) (grows T w) P Q p q sub lt),
  λ h. from_said w (common T w) (wide T w) (holds T w) (grows T w) P h.0 h.1 h.2,
)

pub are_a_base : AreABase
are_a_base T w base b = is_sound T w base b

pub all_follow : AllFollow
all_follow T w base b r len h X lenX closed sub = follow T w base b r len h X lenX closed sub

pub none_shorter : NoneShorter
none_shorter T w base L b s = least T w base L b s
