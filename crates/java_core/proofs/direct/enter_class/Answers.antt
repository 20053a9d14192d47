use Rattle.std.specs.Option.{option_to_list}
use Rattle.java_core.proofs.Entries.{entered-then}
use Rattle.java_core.proofs.direct.enter_class.Goals as goal

pub returns : goal.returns
returns c = entered-then c.args.x (option_to_list c.args.class.now.parent) c.args.class.now.faces.items _ _ _ c.in_ok-enter_parent.ensures
    (rw c.as_slice.ensures.value at c.in_ok-enter_all.ensures)
