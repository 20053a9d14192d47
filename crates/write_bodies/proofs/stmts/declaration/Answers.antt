use Rattle.java_core.specs.Programs.{local_seen}
use Rattle.write_bodies.proofs.Bodies.{declared_is}
use Rattle.write_bodies.proofs.stmts.declaration.Goals as goal

pub returns-3 : goal.returns-3
returns-3 c =
    record {
      value = declared_is c.args.within.now c.args.local
          (local_seen c.in-Some.variable.now) c.variable_row-row.result c.in-Some.ensures.variable c.nowhere-2.ensures c.in-Ok-made.ensures
          c.variable_row-row.ensures.value c.in-Ok-made-name.ensures.value;
    }
