use Rattle.java_tree.specs.Syntax.{tree_of}
use Rattle.java_resolve.proofs.Final.{resolves_ok, formed_ok, none_ok, cause, on_true}
use Rattle.java_resolve.proofs.resolve.Goals as goal

pub returns-then-is_counted-clause-resolves : goal.returns-then-is_counted-clause-resolves
returns-then-is_counted-clause-resolves c = resolves_ok (tree_of c.args.tree.now) c.in-Ok.program c.requires.given c.in-Ok.ensures.program

pub returns-then-is_counted-clause-formed : goal.returns-then-is_counted-clause-formed
returns-then-is_counted-clause-formed c = formed_ok (tree_of c.args.tree.now) c.in-Ok.program c.requires.given c.in-Ok.ensures.program
    (on_true c.is_counted.result _ c.if-is_counted.true c.is_counted.ensures)

pub returns-then-is_counted-clause-no_condition : goal.returns-then-is_counted-clause-no_condition
returns-then-is_counted-clause-no_condition c = none_ok (tree_of c.args.tree.now) c.in-Ok.program c.requires.given c.in-Ok.ensures.program

pub returns-in-Err-clause-refused : goal.returns-in-Err-clause-refused
returns-in-Err-clause-refused c = cause (tree_of c.args.tree.now) c.in-Err.refusal c.requires.given c.in-Err.ensures.program
