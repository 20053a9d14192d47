-- Believed. Programs without interfaces, and scripts that only drop nodes, give fresh names and take such edits back: together they always come to
-- a tree.
use Rattle.std.specs.Prelude.{◌≡◌, List, [], ◌∷◌, false}
use Rattle.std.specs.List.{list_any}
use Rattle.java_core.specs.declared.Program.{Program}
use Rattle.java_core.specs.Programs.{program_of}
use Rattle.fact_model.specs.declared.facts.Facts.{Facts}
use Rattle.fact_model.specs.declared.sets.PointsTo.{PointsTo}
use Rattle.hier_model.specs.Hierarchies.{Hierarchy}
use Rattle.hier_model.specs.declared.edits.Edit.{Edit}
use Rattle.hier_model.specs.declared.edits.Edit.TheVariants.{Merge, Under, Move, TypeName, MemberName, Drop}
use Rattle.hier_model.specs.declared.edits.Act.{Act}
use Rattle.hier_model.specs.declared.edits.Act.TheVariants as acts
use Rattle.edit_script.specs.declared.lines.Line.{Line}
use Rattle.hier_script.specs.Scripts.{History, unedited, after_act}
use Rattle.hier_tree.specs.Reached.{IsFresh}

-- the program declares no interface
abbrev pub DeclaresNoInterface : Program → Type 0
DeclaresNoInterface program = list_any (λ k. k.is_interface) (program_of program).classes ≡ false

-- an edit drops a node, or gives a name that no type, no class with static members, no holder of the methods that make objects, and no field or
-- method then bears
abbrev pub IsDropOrFresh : Facts → Hierarchy → Edit → Type 0
IsDropOrFresh F H (Drop n) = Unit {0}
IsDropOrFresh F H (TypeName n name) = IsFresh F H name
IsDropOrFresh F H (MemberName c name) = IsFresh F H name
IsDropOrFresh F H (Merge set) = ⊥
IsDropOrFresh F H (Under n p) = ⊥
IsDropOrFresh F H (Move c n) = ⊥

-- an act is such an edit, or an undo
abbrev pub IsDropFreshOrUndo : Facts → Hierarchy → Act → Type 0
IsDropFreshOrUndo F H (acts.Edit edit) = IsDropOrFresh F H edit
IsDropFreshOrUndo F H acts.Undo = Unit {0}

-- each act is so in its turn
abbrev pub AreDropsAndFreshNamesFrom : Facts → PointsTo → History → List Line → Type 0
AreDropsAndFreshNamesFrom F pt h [] = Unit {0}
AreDropsAndFreshNamesFrom F pt h (line ∷ lines) = IsDropFreshOrUndo F h.present line.act × AreDropsAndFreshNamesFrom F pt (after_act F pt h line.act) lines

-- all edits from a hierarchy on are drops and fresh names, with undos among them or not
abbrev pub AreDropsAndFreshNames : Facts → PointsTo → Hierarchy → List Line → Type 0
AreDropsAndFreshNames F pt H lines = AreDropsAndFreshNamesFrom F pt (unedited H) lines
