use Rattle.std.proofs.Common.{◌≡◌, map, Some, sym, ap, ◌∙◌, arith}
use Rattle.std.specs.Prelude.{slice_get}
use Rattle.std.specs.Option.{option_map}
use Rattle.std.proofs.lemmas.Option.{slice_get-get_or, slice_get-map}
use Rattle.java_core.specs.Plain.{class_seen}
use Rattle.java_core.proofs.Entries.{direct-more}
use Rattle.java_core.proofs.direct.enter_classes.Goals as goal

pub loop-x-preserved : goal.loop-x-preserved
loop-x-preserved c =
    let items = c.args.all.now.items in
    let x = c.loop-x.x in
    let class = c.index.result.now in
    let at : slice_get items x ≡ Some class = slice_get-get_or items x class (omega arith) ∙ ap Some (sym c.index.ensures) in
    direct-more (map class_seen items) x (class_seen class) c.loop-x.lists c.enter_class.new.lists
    (slice_get-map class_seen items x ∙ ap (option_map class_seen) at) c.loop-x.invariant c.in_ok-enter_class.ensures
