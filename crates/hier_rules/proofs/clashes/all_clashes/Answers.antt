use Rattle.std.proofs.Common.{◌≡◌, ℕ, length, sym, subst, arith}
use Rattle.hier_rules.specs.Namesakes.{AreClashes}
use Rattle.hier_rules.proofs.ClashLemmas.{no_column, next_column}
use Rattle.hier_rules.proofs.clashes.all_clashes.Goals as goal

pub loop-d-init : goal.loop-d-init
loop-d-init c = let F = c.args.asked.now.facts.now in let H = c.args.asked.now.hier.now in subst (λ l. AreClashes F H 0 0 l)
    (sym c.new-clashes.ensures.items) (no_column F H)

pub loop-d-preserved : goal.loop-d-preserved
loop-d-preserved c = next_column c.args.asked.now.facts.now c.args.asked.now.hier.now c.loop-d.d c.add_clashes.new.clashes.items c.in_ok-add_clashes.ensures

pub returns : goal.returns
returns c =
    let F = c.args.asked.now.facts.now in
    let H = c.args.asked.now.hier.now in
    let e : c.loop-d.d ≡ length F.columns.items = omega arith in
    subst (λ (k : ℕ). AreClashes F H k k c.loop-d.clashes.items) e c.loop-d.invariant
