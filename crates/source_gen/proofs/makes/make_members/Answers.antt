use Rattle.std.proofs.Common.{◌<◌, ◌++◌, List, length, subst, ap, ◌∙◌, arith}
use Rattle.java_tree.specs.Syntax.{MemberTree, members}
use Rattle.flow_rules.specs.Numbered.{sites_of}
use Rattle.write_model.specs.Members.{site_member}
use Rattle.write_forms.specs.Sources.{old_program, renaming}
use Rattle.source_gen.proofs.Loops.{each_more}
use Rattle.source_gen.proofs.SiteMakes.{no_site, site_count, site_is}
use Rattle.source_gen.proofs.makes.make_members.Goals as goal

pub loop-s-preserved : goal.loop-s-preserved
loop-s-preserved c =
    let nodes = c.args.nodes.now in
    let P = old_program nodes.source in
    let s = c.loop-s.s in
    let below : s < length nodes.facts.now.sites.items = omega arith in
    let within : s < length (sites_of P) = subst (λ k. s < k) (site_count P nodes.source.numbering.now nodes.facts.now c.requires.sites) below in
    each_more (site_member P (renaming nodes.source) nodes.source.hier.now) (sites_of P) s no_site _ _ _ within
    (c.in_ok-add_site.ensures ∙ ap (λ (l : List MemberTree). members c.loop-s.list.items ++ l) (site_is nodes s c.requires.sites below)) c.loop-s.invariant
