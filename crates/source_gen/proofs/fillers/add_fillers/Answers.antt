-- Those of constructors stand behind the others.
use Rattle.std.proofs.Common.{List, ◌++◌, append_assoc, sym, ap, ◌∙◌}
use Rattle.std.proofs.lemmas.Result.{on_ok_weaker}
use Rattle.java_tree.specs.Syntax.{MemberTree, members}
use Rattle.flow_rules.specs.Ordered.{each}
use Rattle.source_gen.specs.Words.{old_program}
use Rattle.source_gen.specs.Fills.{plain_fill, maker_fill}
use Rattle.source_gen.proofs.Fills.{all_filled}
use Rattle.source_gen.proofs.fillers.add_fillers.Goals as goal

pub returns : goal.returns
returns c =
    let nodes = c.args.nodes.now in
    let old = members c.args.into.now.items in
    let plain = each (plain_fill nodes c.args.n.0) 0 (old_program nodes.source).slots in
    let makers = each (λ i k. maker_fill nodes c.args.n.0 i) 0 (old_program nodes.source).classes in
    on_ok_weaker c.add_maker_fillers.result (λ h. h ∙ ap (λ (l : List MemberTree). l ++ makers) c.in_ok-add_plain_fillers.ensures
    ∙ append_assoc old plain makers ∙ ap (λ (l : List MemberTree). old ++ l) (sym (all_filled nodes c.args.n.0))) c.add_maker_fillers.ensures
