use Rattle.std.proofs.Common.{sym, ◌∙◌, subst}
use Rattle.kaba_bits.specs.Sets.{row}
use Rattle.concept_build.specs.Tables.{IsMeet}
use Rattle.concept_build.specs.Lists.{lists_of, pair_at}
use Rattle.concept_build.proofs.ExtentLemmas.{nothing}
use Rattle.concept_build.proofs.MadeLemmas.{meet, IsMeet-meet, closed-meet, closed-concept, concept-closed}
use Rattle.concept_build.proofs.ColumnLemmas.{IsExtent-all}
use Rattle.concept_build.proofs.GrowLemmas.{AreFound-push, HasMeet-push, meet-known}
use Rattle.concept_build.proofs.intents.add_meet.Goals as goal

pub meet_of-requires : goal.meet_of-requires
meet_of-requires c =
    rw (c.intent.ensures, c.item_at-then-branch.ensures.item nothing, c.deref-then-branch.ensures.value, c.row_at-then-branch.ensures)
    ((c.requires.found.each c.args.k nothing c.requires.k).intent.len ∙ sym (c.requires.source.widths c.args.q c.requires.q))

pub new-requires-clause-len : goal.new-requires-clause-len
new-requires-clause-len c =
    let m = rw (c.intent.ensures, c.item_at-then-branch.ensures.item nothing, c.deref-then-branch.ensures.value, c.row_at-then-branch.ensures) at
    c.in_ok-meet.ensures in
    m.len ∙ ((c.requires.found.each c.args.k nothing c.requires.k).intent.len ∙ sym c.requires.source.counts.extents.len)

pub new-requires-clause-widths : goal.new-requires-clause-widths
new-requires-clause-widths c =
    let extents = c.requires.source.counts.extents in
    λ j lt. extents.widths j lt ∙ sym extents.all.len

pub returns-in_ok-push-clause-found : goal.returns-in_ok-push-clause-found
returns-in_ok-push-clause-found c =
    let T = c.args.source.now.table.now in
    let w = c.args.source.now.width in
    let xs = c.args.items.now.items in
    let q = c.args.q in
    let x = pair_at xs c.args.k in
    let y = c.in_ok-new.field-0 in
    let o = c.in_ok-new.ensures in
    let m = rw (c.intent.ensures, c.item_at-then-branch.ensures.item nothing, c.deref-then-branch.ensures.value, c.row_at-then-branch.ensures) at
    c.in_ok-meet.ensures in
    let mine = subst (λ s. IsMeet s x.1 (row T q)) (sym o.intent) m in
    let closed = closed-meet T w q y.1 x.1 c.requires.q (closed-concept T w x.0 x.1 (c.requires.found.each c.args.k nothing c.requires.k)) mine in
    let is = rw (c.item_at.ensures.item nothing, c.deref.ensures.value, c.row_at.ensures) at c.in_ok-columns.ensures in
    let news = rw (c.if-branch.true, is y.1 mine) at c.in_ok-is_new.ensures in
    rw c.in_ok-push.ensures.items (AreFound-push T w xs (lists_of c.args.known.now.keys) c.requires.found y (lists_of c.is_new.new.known.keys)
    (concept-closed T w y.0 y.1 (IsExtent-all T w c.args.source.now.counts.now.extents y.0 y.1 c.requires.source.counts.extents o.extent) closed) news.0 news.1)

pub returns-in_ok-push-clause-has : goal.returns-in_ok-push-clause-has
returns-in_ok-push-clause-has c =
    let R = row c.args.source.now.table.now c.args.q in
    let xs = c.args.items.now.items in
    let x = pair_at xs c.args.k in
    let y = c.in_ok-new.field-0 in
    let m = rw (c.intent.ensures, c.item_at-then-branch.ensures.item nothing, c.deref-then-branch.ensures.value, c.row_at-then-branch.ensures) at
    c.in_ok-meet.ensures in
    let mine = subst (λ s. IsMeet s x.1 R) (sym c.in_ok-new.ensures.intent) m in
    rw c.in_ok-push.ensures.items (HasMeet-push xs y x.1 R mine)

pub returns-else-branch-clause-has : goal.returns-else-branch-clause-has
returns-else-branch-clause-has c =
    let T = c.args.source.now.table.now in
    let xs = c.args.items.now.items in
    let B = (pair_at xs c.args.k).1 in
    let R = row T c.args.q in
    let is = rw (c.item_at.ensures.item nothing, c.deref.ensures.value, c.row_at.ensures) at c.in_ok-columns.ensures in
    let old = rw (c.if-branch.false, is (meet B R) (IsMeet-meet B R)) at c.in_ok-is_new.ensures in
    meet-known T c.args.source.now.width xs (lists_of c.args.known.now.keys) c.requires.found B R
    (c.requires.found.each c.args.k nothing c.requires.k).intent.len old.1
