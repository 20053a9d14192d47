use Rattle.std.proofs.Common.{◌≡◌, inl, true, length, get_or, Some, subst, ◌∙◌, arith}
use Rattle.std.proofs.lemmas.Grind.{common_steps}
use Rattle.std.proofs.lemmas.List.Elements.{All-contains_itself, All-pop}
use Rattle.kaba_bits.specs.Sets.{bit, row, ListsBelow}
use Rattle.kaba_bits.proofs.SetLemmas.{bit-below}
use Rattle.kaba_order.specs.Orders.{is_le}
use Rattle.kaba_order.proofs.BeyondLemmas.{none_found, passed_step, all_beyond}
use Rattle.kaba_order.proofs.Order.beyond.Goals as goal

pub back-init : goal.back-init
back-init c =
    let o = c.args.self.now in
    let n = c.args.n.0 in
    let left = c.in_ok-left.left.items in
    let exact : ListsBelow (λ i. is_le o n i ≡ true) (length (row o.le n)) left =
    subst (λ r. ListsBelow (λ i. bit r i ≡ true) (length r) left) c.above.ensures c.in_ok-left.ensures.exact in
    record {
      width = c.in_ok-beyond.ensures.width ∙ c.count.ensures;
      found = none_found o n c.in_ok-beyond.beyond c.in_ok-beyond.ensures.empty;
      above = λ i d lt. ((exact.each (get_or left i d)).0 (All-contains_itself left i d lt)).1;
      each = λ k up. inl ((exact.each k).1 (bit-below (row o.le n) k up.0, up.0));
    }

pub back-preserved : goal.back-preserved
back-preserved c =
    let o = c.args.self.now in
    let n = c.args.n.0 in
    let i = c.back.invariant in
    let after = c.pop.new.self.items in
    record {
      width = c.add_beyond.ensures.width ∙ i.width;
      found = c.add_beyond.ensures.found;
      above = (All-pop (λ k. is_le o n k ≡ true) c.back.left.items after (Some c.in-Some.k) c.in-Some.ensures.items i.above).0;
      each = passed_step o n c.in-Some.k c.back.left.items after c.back.beyond c.add_beyond.new.beyond c.in-Some.ensures.items c.add_beyond.ensures.grows
          c.add_beyond.ensures.all i.each;
    }

pub returns-clause-nodes : goal.returns-clause-nodes
returns-clause-nodes c = all_beyond c.args.self.now c.args.n.0 c.back.beyond c.back.left.items (grind (arith, common_steps)) c.back.invariant.found
    c.back.invariant.each

pub add_beyond-requires-clause-above : goal.add_beyond-requires-clause-above
add_beyond-requires-clause-above c =
    (All-pop (λ k. is_le c.args.self.now c.args.n.0 k ≡ true) c.back.left.items c.pop.new.self.items (Some c.in-Some.k) c.in-Some.ensures.items
    c.back.invariant.above).1
