use Rattle.std.proofs.Common.{◌≡◌, None}
use Rattle.kaba_bits.specs.Sets.{first_below, when}
use Rattle.write_model.specs.Supers.{is_superclass}
use Rattle.source_gen.proofs.supers.superclass.Given as goal

abbrev pub invariant-loop-a : goal.invariant-loop-a
invariant-loop-a l = first_below l.a (λ a. when (is_superclass l.nodes.facts.now l.nodes.source.hier.now l.n.0 a) a) ≡ None
