use Rattle.std.proofs.Common.{◌≡◌, ◌++◌, take, string_bytes}
use Rattle.std.specs.Prelude.{codes}
use Rattle.hier_view.specs.EditText.{nodes_text}
use Rattle.hier_view.proofs.edits.add_merge.Given as goal

abbrev pub invariant-loop-n : goal.invariant-loop-n
invariant-loop-n l = string_bytes l.text ≡ string_bytes l.fn.text ++ (codes "merge" ++ nodes_text (take l.n-index l.set))
