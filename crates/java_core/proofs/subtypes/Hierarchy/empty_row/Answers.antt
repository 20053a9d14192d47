use Rattle.std.proofs.Common.{◌≡◌, length, sym, ◌∙◌, subst, arith}
use Rattle.std.specs.Prelude.{IfOk}
use Rattle.java_core.proofs.SquareLemmas.{view-length}
use Rattle.java_core.proofs.subtypes.Hierarchy.empty_row.Goals as goal

pub returns-in-Ok-clause-width : goal.returns-in-Ok-clause-width
returns-in-Ok-clause-width c =
    let rows = c.self.inside.below.items in
    let count : c.in-Ok.count ≡ length rows = let e = c.in-Ok.ensures.1 in omega (arith, e) in
    subst (λ n. IfOk c.new.result (λ r. length r ≡ n)) (count ∙ sym (view-length (length rows) rows c.args.self.now c.self.view_is)) c.new.ensures.width
