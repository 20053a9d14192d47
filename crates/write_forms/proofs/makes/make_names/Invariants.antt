use Rattle.write_forms.specs.Makes.{AreMakeNames}
use Rattle.write_forms.proofs.makes.make_names.Given as goal

abbrev pub invariant-loop-i : goal.invariant-loop-i
invariant-loop-i l = AreMakeNames l.facts l.i l.names.items
