use Rattle.std.proofs.Common.{sym, subst}
use Rattle.java_core.specs.Programs.{program_of}
use Rattle.java_core.specs.Typing.{IsTyped}
use Rattle.java_check.specs.Fails.{FailsIn}
use Rattle.java_check.proofs.JudgedStatements.{Right}
use Rattle.java_check.proofs.JudgedPrograms.{program_right, ok_typed, err_refused, err_untyped}
use Rattle.java_check.proofs.programs.check_program.Goals as goal
use Rattle.java_check.proofs.programs.check_program.Goals.{After-first_fault}

right : (c : After-first_fault) → Right (IsTyped (program_of c.args.p.now)) (FailsIn (program_of c.args.p.now)) c.first_fault.result
right c =
    let P = program_of c.args.p.now in
    subst (Right (IsTyped P) (FailsIn P)) (sym c.first_fault.ensures) (program_right P)

pub returns-clause-typed : goal.returns-clause-typed
returns-clause-typed c = ok_typed (program_of c.args.p.now) c.first_fault.result (right (goal.at.returns-clause-typed c).After-first_fault)

pub returns-clause-refused : goal.returns-clause-refused
returns-clause-refused c = err_refused (program_of c.args.p.now) c.first_fault.result (right (goal.at.returns-clause-refused c).After-first_fault)

pub returns-clause-untyped : goal.returns-clause-untyped
returns-clause-untyped c = err_untyped (program_of c.args.p.now) c.first_fault.result (right (goal.at.returns-clause-untyped c).After-first_fault)
