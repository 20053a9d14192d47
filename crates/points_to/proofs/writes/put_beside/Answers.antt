use Rattle.std.proofs.Common.{◌≡◌, ℕ, ◌||◌, true, refl, inr, ◌∙◌, sym, subst, arith}
use Rattle.std.proofs.lemmas.Bool.{or_left, or_right, or_cases}
use Rattle.kaba_bits.specs.Sets.{bit, row, IsSubset}
use Rattle.points_to.proofs.RoundLemmas.{pending_more, done_more}
use Rattle.points_to.proofs.writes.put_beside.Goals as goal

pub or_into-requires : goal.or_into-requires
or_into-requires c =
    let sets = c.requires.sets in
    rw c.row_at.ensures (c.requires.pending.values ∙ sym (sets.widths c.args.x.value (omega (arith, c.requires.write.value, sets.len))))

pub returns : goal.returns
returns c =
    let F = c.args.facts.now in
    let sets = c.args.sets.now in
    let p = c.args.pending.now in
    let x = c.args.x in
    let old = p.values in
    let new = c.or_into.new.self in
    let extra = row sets x.value in
    let join : (s : ℕ) → bit new s ≡ (bit old s || bit extra s) = rw c.row_at.ensures at c.or_into.ensures.join in
    let kept : IsSubset old new = λ s h. join s ∙ or_left (bit old s) (bit extra s) h in
    let has : IsSubset extra new = λ s h. join s ∙ or_right (bit old s) (bit extra s) h in
    record {
      pending = pending_more F c.args.bases.now sets p _ x c.requires.bases c.requires.sets c.requires.pending c.requires.write c.requires.member
          c.requires.sites
          refl refl
          (c.or_into.ensures.width ∙ c.requires.pending.values) (λ s h. or_cases (bit old s) (bit extra s) (sym (join s) ∙ h));
      kept = λ y d. done_more F c.args.bases.now sets p _ y refl refl kept d;
      here = inr (record { member = c.requires.member; sites = λ k h. subst (λ r. bit r k ≡ true) (sym c.requires.sites) h; values = has });
    }
