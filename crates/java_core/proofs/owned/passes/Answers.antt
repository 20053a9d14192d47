use Rattle.std.proofs.Common.{◌∙◌, refl, sym, ap}
use Rattle.std.proofs.lemmas.Fn.{says_at}
use Rattle.std.proofs.lemmas.Option.{slice_get_read, slice_get_past}
use Rattle.java_core.specs.Owned.{passes}
use Rattle.java_core.proofs.owned.passes.Goals as goal

pub returns-in-Some-clause-value : goal.returns-in-Some-clause-value
returns-in-Some-clause-value g c p same =
    let x = c.in-Some.item.now in
    let found = c.in-Some.ensures.lookup.3 in
    same x c.test.result (says_at g.F.Fn c.test.ensures refl) ∙ ap (passes p) (sym (slice_get_read c.args.items.now _ c.args.at x refl found.0 (found.1 x)))

pub returns-in-None-clause-value : goal.returns-in-None-clause-value
returns-in-None-clause-value g c p same = ap (passes p) (sym (slice_get_past c.args.items.now c.args.at c.in-None.ensures.lookup.3))
