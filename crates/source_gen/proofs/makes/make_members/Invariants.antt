use Rattle.std.proofs.Common.{◌≡◌, ◌++◌, drop}
use Rattle.java_tree.specs.Syntax.{members}
use Rattle.flow_rules.specs.Numbered.{sites_of}
use Rattle.flow_rules.specs.Ordered.{each}
use Rattle.write_model.specs.Members.{site_member}
use Rattle.write_forms.specs.Sources.{old_program, renaming}
use Rattle.source_gen.proofs.makes.make_members.Given as goal

abbrev pub invariant-loop-s : goal.invariant-loop-s
invariant-loop-s l =
    let P = old_program l.nodes.source in
    let f = site_member P (renaming l.nodes.source) l.nodes.source.hier.now in
    members l.list.items ++ each f l.s (drop l.s (sites_of P)) ≡ each f 0 (sites_of P)
