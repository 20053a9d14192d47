use Rattle.std.proofs.Common.{sym, subst, ◌∙◌, arith}
use Rattle.kaba_bits.proofs.SetLemmas.{bit-below}
use Rattle.points_to.specs.Work.{PassesClass}
use Rattle.points_to.proofs.RoundLemmas.{targets_below, wanted_class, into_holds, into_flushed}
use Rattle.points_to.proofs.writes.write_into.Goals as goal

pub wanted-requires : goal.wanted-requires
wanted-requires c = let lt = bit-below c.args.pending.now.sites c.args.o c.requires.site in omega (arith, lt, c.requires.pending.sites)

pub fit-requires-clause-class : goal.fit-requires-clause-class
fit-requires-clause-class c =
    let lt = bit-below c.args.pending.now.sites c.args.o c.requires.site in
    wanted_class c.args.given.now.facts.now c.requires.given.facts c.args.pending.now.member c.args.o c.in-Some.class
    (omega (arith, lt, c.requires.pending.sites)) (sym c.wanted.ensures ∙ c.in-Some.is)

pub include_all-requires-clause-list : goal.include_all-requires-clause-list
include_all-requires-clause-list c = targets_below c.args.given.now.facts.now c.requires.given.facts c.args.pending.now.member c.args.o
    c.args.list.now c.requires.list

pub include_all-requires-clause-holds : goal.include_all-requires-clause-holds
include_all-requires-clause-holds c =
    let row = c.in_ok-row-in-Some in
    into_holds c.args.given.now.facts.now c.args.pending.now c.args.o c.args.list.now row.row c.requires.list c.requires.pending c.requires.site
    (λ s h. let x = row.ensures.sound s h in (x.0, subst (λ k. PassesClass c.args.given.now.facts.now k s) (sym (sym c.wanted.ensures ∙ c.in-Some.is)) x.1))

pub returns-in_ok-row-in-Some-clause-closed : goal.returns-in_ok-row-in-Some-clause-closed
returns-in_ok-row-in-Some-clause-closed c =
    let row = c.in_ok-row-in-Some in
    into_flushed c.args.given.now.facts.now c.args.pending.now c.args.o c.args.list.now row.row c.requires.list c.include_all.new.sets c.include_all.result
    (λ s b pass. row.ensures.whole s b (subst (λ k. PassesClass c.args.given.now.facts.now k s) (sym c.wanted.ensures ∙ c.in-Some.is) pass))
    c.include_all.ensures.closed

pub include_all-requires-in-None-clause-list : goal.include_all-requires-in-None-clause-list
include_all-requires-in-None-clause-list c = targets_below c.args.given.now.facts.now c.requires.given.facts c.args.pending.now.member c.args.o
    c.args.list.now c.requires.list

pub include_all-requires-in-None-clause-holds : goal.include_all-requires-in-None-clause-holds
include_all-requires-in-None-clause-holds c =
    let F = c.args.given.now.facts.now in
    let p = c.args.pending.now in
    into_holds F p c.args.o c.args.list.now p.values c.requires.list c.requires.pending c.requires.site
    (λ s h. (h, subst (λ k. PassesClass F k s) (sym (sym c.wanted.ensures ∙ c.in-None.is)) tt))

pub returns-in-None-clause-closed : goal.returns-in-None-clause-closed
returns-in-None-clause-closed c =
    let p = c.args.pending.now in
    into_flushed c.args.given.now.facts.now p c.args.o c.args.list.now p.values c.requires.list c.include_all-in-None.new.sets c.include_all-in-None.result
    (λ s b pass. b) c.include_all-in-None.ensures.closed
