use Rattle.std.proofs.Common.{◌≡◌, ◌↔◌, ◌+◌, sym, subst, arith, true, false, eqb, ◌&&◌, Contains}
use Rattle.std.specs.List.{list_any}
use Rattle.std.proofs.lemmas.List.{take_all}
use Rattle.std.proofs.lemmas.List.Sorted.{IsNonDecreasingBy-from_sort}
use Rattle.kaba_bits.specs.Sets.{bit, row}
use Rattle.fact_model.specs.declared.facts.CallInfo.{CallInfo}
use Rattle.hier_rules.specs.Asked.{is_called}
use Rattle.hier_rules.proofs.KeyLemmas.{Collects, collect_more, sorted_same}
use Rattle.hier_rules.proofs.bodies.called_slots.Goals as goal

pub loop-call-preserved : goal.loop-call-preserved
loop-call-preserved c =
    let pt = c.args.asked.now.pt.now in
    let s = c.args.s in
    let calls = c.args.asked.now.facts.now.calls.items in
    let is = rw c.deref-call-items.ensures.value at c.call-item.is in
    let f = λ (k : CallInfo). k.slot in
    let p = λ (k : CallInfo). bit (row pt.points.items k.receiver) s in
    subst (λ out. Collects f p (λ x. false) out calls (c.loop-call.call-index + 1)) (sym c.in_ok-add_slot.ensures)
    (collect_more f p (λ x. false) c.loop-call.slots.items calls c.loop-call.call-index c.call-item.result c.call-item.result (omega arith) is
    c.loop-call.invariant)

pub returns-clause-sorted : goal.returns-clause-sorted
returns-clause-sorted c = IsNonDecreasingBy-from_sort (λ x. x) c.sort.new.self.items c.in_ok-sort.ensures.sorted

pub returns-clause-slots : goal.returns-clause-slots
returns-clause-slots c =
    let e = take_all c.loop-call.call-index c.args.asked.now.facts.now.calls.items (omega arith) in
    sorted_same {P = λ x. is_called c.args.asked.now.facts.now c.args.asked.now.pt.now c.args.s x ≡ true} c.loop-call.slots.items c.sort.new.self.items
    c.in_ok-sort.ensures.permutation
    (λ x. subst (λ cs. Contains c.loop-call.slots.items x ↔
    (list_any (λ (k : CallInfo). bit (row c.args.asked.now.pt.now.points.items k.receiver) c.args.s && eqb k.slot x) cs ≡ true)) e
    (c.loop-call.invariant x))
