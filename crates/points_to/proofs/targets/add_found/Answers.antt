use Rattle.std.proofs.Common.{sym}
use Rattle.points_to.proofs.AskedLemmas.{found_targets}
use Rattle.points_to.proofs.targets.add_found.Goals as goal

pub returns-in_ok-add_bodies-in-Some : goal.returns-in_ok-add_bodies-in-Some
returns-in_ok-add_bodies-in-Some c =
    let given = c.args.given.now in
    let added = c.in_ok-add_bodies-in-Some.ensures in
    found_targets given.facts.now given.index.now c.requires.given.index c.args.member c.args.slot c.args.o c.in-Some.d.0 c.add_bodies.new.list.items
    c.requires.slot (sym (rw (c.in-Some.is, c.site_at.ensures) at c.find_body.ensures)) added.sound
    (rw (c.numbers_at-bodies.ensures, c.deref.ensures.value) at added.here)
