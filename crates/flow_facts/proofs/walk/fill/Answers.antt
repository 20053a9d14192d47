use Rattle.flow_facts.proofs.Middle.{set_seen}
use Rattle.flow_facts.proofs.walk.fill.Goals as goal

pub returns-clause-parts : goal.returns-clause-parts
returns-clause-parts c = λ xs ys q n e. set_seen c.args.parts.now.items c.args.at c.args.part xs ys q n e
