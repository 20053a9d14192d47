use Rattle.points_to.proofs.SolveLemmas.{solved}
use Rattle.points_to.proofs.fill.Goals as goal

pub returns : goal.returns
returns c = solved c.args.facts.now c.requires.facts c.run_rounds.new.sets c.in_ok-run_rounds.ensures.closed c.in_ok-run_rounds.ensures.sets
