use Rattle.std.proofs.Common.{sym, ◌∙◌, subst}
use Rattle.std.specs.Option.{IfSome}
use Rattle.java_core.specs.Nearest.{IsSuperclassVersion}
use Rattle.java_core.proofs.NearestLemmas.{numbered-nearest}
use Rattle.java_core.proofs.tables.MemberTables.nearest_above.Goals as goal

pub returns-in-Some : goal.returns-in-Some
returns-in-Some g c =
    let t = c.args.self.now in
    let parents = c.args.parents.now in
    let above = subst (λ o. IfSome o (λ m. IsSuperclassVersion parents t.nearest.items c.args.class m.now)) c.in-Some.is c.version_above.ensures in
    λ own is here.
    numbered-nearest g.M.Member.keys c.args.members.now parents t.own.items c.requires.own t.nearest.items c.requires.nearest
    c.args.class c.in-Some.map.now above c.args.name.now c.name_number.result c.name_number.ensures own is here
    ∙ sym c.numbered.ensures
