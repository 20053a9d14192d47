use Rattle.std.proofs.Common.{◌≡◌, ℕ, ◌<◌, true, All, List, length, get_or, sym, ap, ◌∙◌, subst, arith}
use Rattle.std.proofs.lemmas.Grind.{common_steps}
use Rattle.std.proofs.lemmas.Result.{IfOk-weaker}
use Rattle.kaba_bits.specs.Sets.{bit, row, ListsBelow}
use Rattle.hier_model.proofs.AboveLemmas.{own_below, none_above, are_above}
use Rattle.hier_model.proofs.begin.row_above.Goals as goal
use Rattle.hier_model.proofs.begin.row_above.Goals.{After-index, In-loop-i}

pub returns-then-is_empty-clause-bits : goal.returns-then-is_empty-clause-bits
returns-then-is_empty-clause-bits c =
    let none = none_above c.args.concepts.now c.args.having.now c.args.a c.extent_at.result.now c.in_ok-own.own.items c.requires.having c.requires.a
    c.requires.widths c.extent_at.ensures c.in_ok-own.ensures.exact (grind (arith, common_steps)) in
    IfOk-weaker c.new.result _ _ (λ r empty b lt. empty b ∙ none b) c.new.ensures.empty

-- the numbers of the extent are below the width
own : (c : After-index) → All (λ i. i < length c.args.having.now) c.in_ok-own.own.items
own c = own_below c.args.concepts.now c.args.having.now c.args.a c.extent_at.result.now c.in_ok-own.own.items c.requires.having c.requires.a
    c.requires.widths c.extent_at.ensures c.in_ok-own.ensures.exact

first : (c : After-index) → c.index.result.now < length c.args.having.now
first c = subst (λ n. n < length c.args.having.now) (sym c.index.ensures) (own c 0 c.index.result.now (grind (arith, common_steps)))

pub row_at-requires : goal.row_at-requires
row_at-requires c = first (goal.at.row_at-requires c).After-index

pub loop-i-init : goal.loop-i-init
loop-i-init c =
    let has = c.args.having.now in
    let n = c.index.result.now in
    let is = c.in_ok-above.ensures ∙ c.row_at.ensures in
    record {
      width = ap length is ∙ c.requires.having.widths n (first (goal.at.loop-i-init c).After-index);
      all = λ b k t lt. absurd (omega (arith, lt));
      from = λ b each. ap (λ s. bit s b) is ∙ subst (λ i. bit (row has i) b ≡ true) (sym c.index.ensures)
          (subst (λ (l : List ℕ). bit (row has (get_or l 0 n)) b ≡ true) c.deref-i-items.ensures.value (each 0 n (grind (arith, common_steps))));
    }

in_loop : (c : In-loop-i) → All (λ i. i < length c.args.having.now) c.in_ok-own.own.items
    → get_or c.deref-i-items.result.now c.loop-i.i-index 0 < length c.args.having.now
in_loop c below = subst (All (λ i. i < length c.args.having.now)) (sym c.deref-i-items.ensures.value) below c.loop-i.i-index 0 c.loop-i-test.true

pub row_at-requires-in-loop-i : goal.row_at-requires-in-loop-i
row_at-requires-in-loop-i c = let at = goal.at.row_at-requires-in-loop-i c in in_loop at.In-loop-i (own at.After-index)

pub and_into-requires : goal.and_into-requires
and_into-requires c =
    let at = goal.at.and_into-requires c in
    c.loop-i.invariant.width
    ∙ sym (ap length c.row_at-in-loop-i.ensures ∙ c.requires.having.widths _ (in_loop at.In-loop-i (own at.After-index)))

pub returns-clause-bits : goal.returns-clause-bits
returns-clause-bits c =
    let exact =
    subst (ListsBelow (λ i. bit c.extent_at.result.now i ≡ true) (length c.extent_at.result.now)) (sym c.deref-i-items.ensures.value) c.in_ok-own.ensures.exact in
    are_above c.args.concepts.now c.args.having.now c.args.a c.extent_at.result.now c.deref-i-items.result.now c.requires.having c.requires.a
    c.requires.widths c.extent_at.ensures exact c.loop-i.above (grind (arith, common_steps))
    (λ b k t lt. c.loop-i.invariant.all b k t (omega (arith, lt, c.loop-i-test.false))) c.loop-i.invariant.from
