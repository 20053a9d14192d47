use Rattle.std.proofs.Common.{◌<◌, ◌+◌, length, sym, subst, arith}
use Rattle.points_to.specs.Chains.{bucket_in}
use Rattle.points_to.proofs.ChainLemmas.{walk_from, walk_on, walk_found, walk_missing, left_less}
use Rattle.points_to.proofs.bodies.own_body.Goals as goal

pub walk-init : goal.walk-init
walk-init c =
    let F = c.args.facts.now in
    let at : bucket_in F c.args.class.0 c.args.slot < length F.columns.items + 1 =
    subst (λ k. k < length F.columns.items + 1) c.bucket.ensures.value c.bucket.ensures.below in
    rw (c.first_of-at.ensures, c.bucket.ensures.value) (walk_from F c.args.class.0 c.args.slot 0 _
    (c.requires.bodies.firsts (bucket_in F c.args.class.0 c.args.slot) at) (λ k lt. absurd (omega (arith, lt))))

pub returns-then-is_own : goal.returns-then-is_own
returns-then-is_own c =
    sym (walk_found c.args.facts.now c.args.class.0 c.args.slot c.in-Some.d (rw c.in-Some.is at c.walk.invariant) (sym c.if-is_own.ensures))

pub walk-preserved : goal.walk-preserved
walk-preserved c =
    let b = c.args.bodies.now in
    rw c.next_of-at.ensures (walk_on c.args.facts.now c.args.class.0 c.args.slot c.in-Some.d b.first.items b.next.items c.requires.bodies
    (rw c.in-Some.is at c.walk.invariant) (sym c.if-is_own.ensures))

pub walk-smaller : goal.walk-smaller
walk-smaller c =
    let b = c.args.bodies.now in
    rw (c.next_of-at.ensures, c.in-Some.is) (left_less c.args.facts.now c.args.class.0 c.args.slot c.in-Some.d b.first.items b.next.items
    c.requires.bodies (rw c.in-Some.is at c.walk.invariant))

pub returns-in-None : goal.returns-in-None
returns-in-None c = sym (walk_missing c.args.facts.now c.args.class.0 c.args.slot (rw c.in-None.is at c.walk.invariant))
