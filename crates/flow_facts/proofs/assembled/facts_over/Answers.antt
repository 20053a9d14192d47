-- What is assembled is the facts.
use Rattle.flow_facts.proofs.assembled.facts_over.Goals as goal

pub say-requires : goal.say-requires
say-requires c = record { formed = c.requires.formed; numbered = c.requires.numbered }

pub returns-in-Err : goal.returns-in-Err
returns-in-Err c = record { ok = tt; names = tt }

pub returns-clause-ok : goal.returns-clause-ok
returns-clause-ok c = (c.assemble.ensures _ c.requires.numbered c.in-Ok.ensures).0

pub returns-clause-names : goal.returns-clause-names
returns-clause-names c = (c.assemble.ensures _ c.requires.numbered c.in-Ok.ensures).1
