use Rattle.fact_model.proofs.classes.+finds_within.Given as goal

abbrev pub decreases-finds_within : goal.decreases-finds_within
decreases-finds_within l = l.left
