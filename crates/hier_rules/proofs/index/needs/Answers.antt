use Rattle.std.proofs.Common.{◌≡◌, ℕ, length, subst, arith}
use Rattle.hier_rules.specs.Index.{is_needed, AreTestRows}
use Rattle.hier_rules.proofs.IndexLemmas.{no_rows, one_row}
use Rattle.hier_rules.proofs.index.needs.Goals as goal

pub loop-s-init : goal.loop-s-init
loop-s-init c = let F = c.args.asked.now.facts.now in no_rows (length F.columns.items) (is_needed F c.args.asked.now.pt.now) _ c.new-rows.ensures.items

pub loop-s-preserved : goal.loop-s-preserved
loop-s-preserved c =
    let F = c.args.asked.now.facts.now in
    one_row c.loop-s.s (length F.columns.items) (is_needed F c.args.asked.now.pt.now) c.loop-s.rows.items c.push.new.self.items _
    c.in_ok-push.ensures.items c.loop-s.invariant c.in_ok-needs_of.ensures

pub returns : goal.returns
returns c =
    let F = c.args.asked.now.facts.now in
    let e : c.loop-s.s ≡ length c.args.asked.now.facts.now.sites.items = omega arith in
    subst (λ (n : ℕ). AreTestRows n (length F.columns.items) (is_needed F c.args.asked.now.pt.now) c.loop-s.rows.items) e c.loop-s.invariant
