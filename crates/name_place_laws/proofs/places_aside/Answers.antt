use Rattle.name_place_laws.proofs.Whole.{no_condition_aside, no_condition_kept, places_aside, has_no_places, has_one_program, has_program_aside}
use Rattle.name_place_laws.proofs.places_aside.Goals as goal

pub returns-clause-conditions : goal.returns-clause-conditions
returns-clause-conditions c = no_condition_aside

pub returns-clause-conditions_kept : goal.returns-clause-conditions_kept
returns-clause-conditions_kept c = no_condition_kept

pub returns-clause-trees : goal.returns-clause-trees
returns-clause-trees c = places_aside

pub returns-clause-placeless : goal.returns-clause-placeless
returns-clause-placeless c = has_no_places

pub returns-clause-texts : goal.returns-clause-texts
returns-clause-texts c = has_one_program

pub returns-clause-program : goal.returns-clause-program
returns-clause-program c = has_program_aside
