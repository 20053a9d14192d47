-- Mirror. What the slots of a node are filled in with.
use Rattle.std.specs.Prelude.{ℕ, not, List, []}
use Rattle.std.specs.Option.{option_map_or}
use Rattle.java_tree.specs.Syntax.{MemberTree}
use Rattle.java_core.specs.Programs.{PlainSlot}
use Rattle.java_core.specs.Makers.{maker_slot}
use Rattle.flow_rules.specs.Ordered.{when}
use Rattle.flow_rules.specs.Facts.{is_marked}
use Rattle.write_model.specs.Members.{slot_filler}
use Rattle.write_forms.specs.Sources.{old_program, renaming}
use Rattle.source_gen.specs.declared.parts.Nodes.{Nodes}

-- the filler of a slot at a node, where there is one
abbrev pub filled_in : Nodes → ℕ → ℕ → List MemberTree
filled_in nodes n x = slot_filler (old_program nodes.source) (renaming nodes.source) nodes.facts.now nodes.source.hier.now n x

-- that of a slot that is no constructor's, and of the slot of the constructor of a class
abbrev pub plain_fill : Nodes → ℕ → ℕ → PlainSlot → List MemberTree
plain_fill nodes n x s = when (not (is_marked s.name)) (filled_in nodes n x)

abbrev pub maker_fill : Nodes → ℕ → ℕ → List MemberTree
maker_fill nodes n c = option_map_or (filled_in nodes n) (maker_slot (old_program nodes.source) c) []
