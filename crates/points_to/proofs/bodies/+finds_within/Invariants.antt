use Rattle.points_to.proofs.bodies.+finds_within.Given as goal

abbrev pub decreases-finds_within : goal.decreases-finds_within
decreases-finds_within l = l.left
