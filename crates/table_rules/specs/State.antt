-- Mirror. What the table is closed by, and what the worklist works on.
use Rattle.fact_model.specs.InRange.{InRange}
use Rattle.fact_model.specs.Flowing.{AreSets}
use Rattle.table_rules.specs.Asked.{AreOpen, IsHidingIndex}
use Rattle.table_rules.specs.declared.state.Given.{Given}
use Rattle.table_rules.specs.declared.state.State.{State}

-- the facts are in range, and the sets and the index are theirs
pub record IsClosureInput (g : Given) : Type 0 where
  pub facts : InRange g.facts.now
  pub sets : AreSets g.facts.now g.pt.now
  pub index : IsHidingIndex g.facts.now g.index.now

-- a table so far, what its columns are known to ask for, and a set of their width
abbrev pub IsOpen : Given → State → Type 0
IsOpen g s = AreOpen g.facts.now s.asked.items s.both s.rows.items
