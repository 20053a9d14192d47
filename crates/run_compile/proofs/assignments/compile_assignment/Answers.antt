use Rattle.std.proofs.Common.{rules}
use Rattle.java_core.specs.Trees.{at_place}
use Rattle.run_compile.proofs.assignments.compile_assignment.Goals as goal

pub returns-in-Field : goal.returns-in-Field
returns-in-Field c = let h = c.store_field.ensures (at_place c.in-Field.place) in search rules

pub returns-in-Index : goal.returns-in-Index
returns-in-Index c = let h = c.store_element.ensures (at_place c.in-Index.place) in search rules
