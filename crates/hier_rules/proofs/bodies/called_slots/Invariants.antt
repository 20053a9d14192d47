use Rattle.std.proofs.Common.{false}
use Rattle.kaba_bits.specs.Sets.{bit, row}
use Rattle.fact_model.specs.declared.facts.CallInfo.{CallInfo}
use Rattle.hier_rules.proofs.KeyLemmas.{Collects}
use Rattle.hier_rules.proofs.bodies.called_slots.Given as goal

abbrev pub invariant-loop-call : goal.invariant-loop-call
invariant-loop-call l = Collects (λ (k : CallInfo). k.slot) (λ k. bit (row l.asked.pt.now.points.items k.receiver) l.s) (λ x. false) l.slots.items
    l.asked.facts.now.calls.items l.call-index
