use Rattle.std.proofs.Common.{◌≡◌, ℕ, get_or, length, subst, arith}
use Rattle.hier_rules.specs.Touched.{is_at_place}
use Rattle.hier_rules.specs.Index.{AreTestRows}
use Rattle.hier_rules.proofs.IndexLemmas.{no_rows, one_row}
use Rattle.hier_rules.proofs.index.sites_of_places.Goals as goal

pub loop-k-init : goal.loop-k-init
loop-k-init c = let F = c.args.asked.now.facts.now in no_rows (length F.sites.items) (λ k. is_at_place F c.args.asked.now.pt.now (get_or c.args.places.now k 0)) _ c.new-rows.ensures.items

pub loop-k-preserved : goal.loop-k-preserved
loop-k-preserved c =
    let F = c.args.asked.now.facts.now in
    one_row c.loop-k.k (length F.sites.items) (λ k. is_at_place F c.args.asked.now.pt.now (get_or c.args.places.now k 0)) c.loop-k.rows.items c.push.new.self.items _
    c.in_ok-push.ensures.items c.loop-k.invariant c.in_ok-sites_of_place.ensures

pub returns : goal.returns
returns c =
    let F = c.args.asked.now.facts.now in
    let e : c.loop-k.k ≡ length c.args.places.now = omega arith in
    subst (λ (n : ℕ). AreTestRows n (length F.sites.items) (λ k. is_at_place F c.args.asked.now.pt.now (get_or c.args.places.now k 0)) c.loop-k.rows.items) e c.loop-k.invariant
