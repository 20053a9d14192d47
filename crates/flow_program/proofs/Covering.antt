-- What the facts of a checked program have.
use Rattle.java_core.specs.Programs.{Plain}
use Rattle.java_core.specs.Formed.{IsFormed}
use Rattle.java_core.specs.Typing.{IsTyped}
use Rattle.fact_model.specs.declared.facts.Facts.{Facts}
use Rattle.flow_rules.specs.Facts.{IsFactsOf}
use Rattle.flow_laws.specs.cover.Covers.{solved, CoversProgram}
use Rattle.flow_laws.specs.cover.Slotted.{HaveSlots}
use Rattle.flow_laws.proofs.cover.Solved.{solved_closed, solved_covers}
use Rattle.flow_laws.proofs.cover.Programs.{program_covers}
use Rattle.sure_laws.specs.Laws.{MeetInSets, RunsMeetInSets}
use Rattle.sure_laws.proofs.Meeting.{meet_in_sets}
use Rattle.flow_program.specs.Solved.{HasCoveringSets}

have_slots : (P : Plain) → IsFormed P → HaveSlots P
unfolding HaveSlots
have_slots P formed m k e s = (formed.methods m k e).slotted s

-- each family of closed sets covers each run
pub covering : (P : Plain) (F : Facts) → IsFormed P → IsTyped P → IsFactsOf P F → CoversProgram P F
covering P F formed typed facts = program_covers P F formed typed (have_slots P formed) facts

-- and the points-to sets are closed
pub solved_cover : (P : Plain) (F : Facts) → CoversProgram P F → HasCoveringSets P F
unfolding HasCoveringSets
solved_cover P F c t are words n = record { covers = solved_covers F t are P c.covers words n; same = c.same (solved t) (solved_closed F t are) words n }

-- what runs meet is in the sets
pub meeting : (P : Plain) (F : Facts) → IsFormed P → IsTyped P → IsFactsOf P F → MeetInSets P F
unfolding RunsMeetInSets
meeting P F = meet_in_sets P F
