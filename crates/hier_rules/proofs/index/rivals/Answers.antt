use Rattle.std.proofs.Common.{◌≡◌, ℕ, length, subst, arith}
use Rattle.hier_rules.specs.Asked.{is_other_body}
use Rattle.hier_rules.specs.Index.{AreTestRows}
use Rattle.hier_rules.proofs.IndexLemmas.{no_rows, one_row}
use Rattle.hier_rules.proofs.index.rivals.Goals as goal

pub loop-d-init : goal.loop-d-init
loop-d-init c = let F = c.args.facts.now in no_rows (length F.columns.items) (is_other_body F) _ c.new-rows.ensures.items

pub loop-d-preserved : goal.loop-d-preserved
loop-d-preserved c =
    let F = c.args.facts.now in
    one_row c.loop-d.d (length F.columns.items) (is_other_body F) c.loop-d.rows.items c.push.new.self.items _
    c.in_ok-push.ensures.items c.loop-d.invariant c.in_ok-rivals_of.ensures

pub returns : goal.returns
returns c =
    let F = c.args.facts.now in
    let e : c.loop-d.d ≡ length c.args.facts.now.columns.items = omega arith in
    subst (λ (n : ℕ). AreTestRows n (length F.columns.items) (is_other_body F) c.loop-d.rows.items) e c.loop-d.invariant
