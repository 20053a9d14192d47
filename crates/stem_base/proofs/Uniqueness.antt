-- A table has one base.
use Rattle.std.proofs.Common.{◌≡◌, ℕ, ◌≤◌, Bool, List, length, Contains, sym, ap, ◌∙◌, subst, arith}
use Rattle.std.specs.declared.cmp.Ordering.TheVariants.{Less, Greater}
use Rattle.std.specs.Ordering.{ordering_reverse}
use Rattle.std.proofs.lemmas.List.Elements.{All-contains}
use Rattle.concept_build.proofs.Ordered.{same_ordered, no_longer}
use Rattle.stem_base.specs.Base.{Sides, IsPseudo, implication_cmp, AreStems, IsStemBase}
use Rattle.stem_base.specs.Laws.{OneBase, NeverBoth}
use Rattle.stem_base.proofs.Laws.{implication_cmp-total}

-- one implication comes before another
abbrev comes_first : Sides → Sides → Type 0
comes_first r s = implication_cmp r s ≡ Less

-- the order of implications goes one way
one_way : (r s : Sides) → comes_first r s → comes_first s r → ⊥
one_way r s h g =
    let e : Less ≡ Greater = sym h ∙ (implication_cmp-total.antisymm r s ∙ ap ordering_reverse g) in
    cc

module _ (w : ℕ) (cl : List Bool → List Bool) where
  -- a base has each implication that another list of stems has
  has_each : (xs ys : List Sides) → AreStems w cl xs → IsStemBase w cl ys → (r : Sides) → Contains xs r → Contains ys r
  has_each xs ys are all r c =
      let p = All-contains (λ (s : Sides). IsPseudo w cl s.0 × (s.1 ≡ cl s.0)) xs r are.each c in
      let e : (r.0, cl r.0) ≡ r = λ i. (r.0, (sym p.1) i) in
      subst (Contains ys) e (all.complete r.0 p.0)

  pub one_list : (xs ys : List Sides) → IsStemBase w cl xs → IsStemBase w cl ys → xs ≡ ys
  one_list xs ys a b =
      same_ordered comes_first one_way xs ys a.stems.ordered b.stems.ordered (has_each xs ys a.stems b) (has_each ys xs b.stems a)

  pub no_more : (xs ys : List Sides) → AreStems w cl xs → IsStemBase w cl ys → length xs ≤ length ys
  no_more xs ys are all = no_longer comes_first one_way xs ys are.ordered all.stems.ordered (has_each xs ys are all)

pub one_base : OneBase
one_base T w xs ys a b = one_list w _ xs ys a b

pub never_both : NeverBoth
never_both T w bound xs b within m =
    let le = no_more w _ m.list xs m.stems b in
    omega (arith, le, within, m.more)
