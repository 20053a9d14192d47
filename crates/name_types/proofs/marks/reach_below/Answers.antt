use Rattle.std.proofs.Common.{◌≡◌, ℕ, ◌≤◌, false, subst}
use Rattle.std.specs.Prelude.{MatchOption}
use Rattle.kaba_bits.specs.Sets.{IsLeastFrom}
use Rattle.name_laws.specs.Tables.{is_above}
use Rattle.name_types.proofs.MarkLemmas.{marking-more}
use Rattle.name_types.proofs.marks.reach_below.Goals as goal

pub down-preserved : goal.down-preserved
down-preserved c =
    let rows = c.args.rows.now in
    marking-more rows c.args.owner c.args.mark c.args.marks.now c.down.marks c.down.quiet c.down.from c.down.invariant c.in-Some.at
    (subst (λ o. MatchOption o ((t : ℕ) → c.down.from ≤ t → is_above rows t c.args.owner ≡ false) (IsLeastFrom (λ t. is_above rows t c.args.owner) c.down.from))
    c.in-Some.is c.next_below.ensures) c.reach_other-quiet.new.marks c.reach_other-quiet.result c.reach_other-quiet.ensures.after
    c.reach_other-quiet.ensures.joins
