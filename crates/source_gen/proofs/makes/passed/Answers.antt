use Rattle.std.proofs.Common.{List, map, ap₂, arith}
use Rattle.java_tree.specs.Syntax.{NameRef, exprs}
use Rattle.java_tree.proofs.Appended.{append_exprs, exprs_end}
use Rattle.java_core.specs.declared.Local.{Local}
use Rattle.java_core.specs.Programs.{local_seen}
use Rattle.write_model.specs.Members.{passed}
use Rattle.write_bodies.proofs.Steps.{all_written}
use Rattle.source_gen.proofs.Passed.{passed_next}
use Rattle.source_gen.proofs.makes.passed.Goals as goal

pub loop-local-preserved : goal.loop-local-preserved
loop-local-preserved c =
    passed_next c.loop-local.args.items c.push.new.self.items c.deref-local-items.result.now c.loop-local.local-index c.local-item.result _
    c.loop-local-test.true c.local-item.is (ap₂ NameRef c.in_ok-name.ensures.value c.nowhere.ensures) c.in_ok-push.ensures.items c.loop-local.invariant

pub returns : goal.returns
returns c =
    all_written append_exprs (λ (xs : List Local). passed (map local_seen xs)) (exprs c.loop-local.args.items) c.deref-local-items.result.now
    c.loop-local.local-index (exprs_end (exprs c.loop-local.args.items)) c.loop-local.invariant (omega (arith, c.loop-local-test.false))
