use Rattle.std.proofs.Common.{length, ap, ◌∙◌, arith, refl}
use Rattle.std.proofs.lemmas.List.{length-set}
use Rattle.points_to.proofs.RoundLemmas.{targets_below, gathered_more, whole_more}
use Rattle.points_to.proofs.reads.gather_site.Goals as goal

pub hold_all-requires-clause-list : goal.hold_all-requires-clause-list
hold_all-requires-clause-list c = rw c.deref.ensures.value (targets_below c.args.given.now.facts.now c.requires.given.facts c.args.union.now.member c.args.o
    c.list_targets.new.list.items c.in_ok-list_targets.ensures)

pub returns-clause-gathered : goal.returns-clause-gathered
returns-clause-gathered c =
    let u = c.args.union.now in
    let hold = c.hold_all.ensures in
    gathered_more c.args.given.now.facts.now u _ c.args.o c.args.sets.now c.list_targets.new.list.items refl c.set.ensures.after c.in_ok-list_targets.ensures
    (omega (arith, c.requires.site, c.requires.gathered.sites)) c.requires.sets c.requires.gathered
    (ap length c.set.ensures.after ∙ (length-set u.sites c.args.o _ ∙ c.requires.gathered.sites)) hold.width (rw c.deref.ensures.value at hold.gained)

pub returns-clause-whole : goal.returns-clause-whole
returns-clause-whole c =
    let u = c.args.union.now in
    let hold = c.hold_all.ensures in
    whole_more c.args.given.now.facts.now u _ c.args.o c.args.sets.now c.list_targets.new.list.items refl c.set.ensures.after c.in_ok-list_targets.ensures
    (omega (arith, c.requires.site, c.requires.gathered.sites)) hold.kept (rw c.deref.ensures.value at hold.whole)
