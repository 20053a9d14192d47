use Rattle.std.proofs.Common.{◌≡◌, false, sym, ap, ◌∙◌, arith}
use Rattle.std.proofs.lemmas.Bool.{false≢true}
use Rattle.kaba_bits.specs.Sets.{bit, row}
use Rattle.kaba_bits.proofs.WordLemmas.{on_true}
use Rattle.concept_build.specs.Tables.{HasNear}
use Rattle.concept_build.proofs.MadeLemmas.{meet, IsMeet-meet}
use Rattle.concept_build.proofs.KnownLemmas.{rising_from-below}
use Rattle.concept_build.proofs.NearLemmas.{within_listed, told}
use Rattle.concept_build.proofs.near.is_news.Goals as goal

pub common_columns-requires : goal.common_columns-requires
common_columns-requires c = rw c.row_at.ensures (sym (c.requires.widths c.args.q c.requires.q))

pub is_below-requires-clause-columns : goal.is_below-requires-clause-columns
is_below-requires-clause-columns c m lt =
    let T = c.args.table.now in
    let B = c.args.item.now.1 in
    let R = row T c.args.q in
    let M = meet B R in
    let is = rw c.row_at.ensures at c.in_ok-columns.ensures in
    rw (c.deref.ensures.value, is M (IsMeet-meet B R), c.requires.widths m lt) (λ k d klt. omega (arith, rising_from-below 0 M k d klt, (IsMeet-meet B R).len))

pub returns-then-has : goal.returns-then-has
returns-then-has c = λ out. absurd (false≢true (sym out ∙ (sym (c.has.ensures ∙ ap (λ s. bit s c.args.q) c.extent.ensures) ∙ c.if-has.true)))

pub returns : goal.returns
returns c =
    let T = c.args.table.now in
    let B = c.args.item.now.1 in
    let A = c.args.item.now.0 in
    let R = row T c.args.q in
    let is = rw c.row_at.ensures at c.in_ok-columns.ensures in
    let below = rw (c.deref.ensures.value, is (meet B R) (IsMeet-meet B R)) at c.is_below.ensures in
    let out : bit A c.args.q ≡ false = sym (c.has.ensures ∙ ap (λ s. bit s c.args.q) c.extent.ensures) ∙ c.if-has.false in
    told (bit A c.args.q ≡ false) (HasNear T B c.args.wide.now c.args.q) c.is_below.result out
    (on_true c.is_below.result (λ h. (h.0, h.1, within_listed B R (row T h.0) h.2)) below)
