-- Believed. The program that is written of a class hierarchy (after Streckenbach and Snelting, 2004): a type for each
-- live node, and then the holders of the
-- static members, and that of the methods that make objects.
use Rattle.std.specs.Prelude.{ℕ, Bool, true, false, List, [], ◌∷◌, ◌++◌, map, None}
use Rattle.std.specs.Option.{option_map_or}
use Rattle.kaba_base.specs.declared.words.Keyword.TheVariants.{Abstract}
use Rattle.java_tree.specs.declared.Modifier.{Modifier}
use Rattle.java_tree.specs.Syntax.{DeclTree, ClassTree, InterfaceTree}
use Rattle.java_core.specs.Programs.{Plain, PlainClass}
use Rattle.fact_model.specs.declared.facts.Facts.{Facts}
use Rattle.hier_model.specs.Hierarchies.{Hierarchy, type_name, is_class_node}
use Rattle.flow_rules.specs.declared.items.ColumnItem.{ColumnItem}
use Rattle.flow_rules.specs.Ordered.{each, when}
use Rattle.flow_rules.specs.Numbered.{columns_of}
use Rattle.flow_rules.specs.Facts.{is_holder, makers_of}
use Rattle.rebuild_model.specs.Renaming.{Renaming, renaming_of}
use Rattle.rebuild_model.specs.Members.{is_made_at}
use Rattle.write_model.specs.Names.{nowhere, modifier, by_number}
use Rattle.write_model.specs.Supers.{extended, implemented, covering}
use Rattle.write_model.specs.Members.{class_members, interface_heads, make_members, holder_members}

-- a class where no object is created is abstract
abbrev pub class_modifiers : Bool → List Modifier
class_modifiers true = []
class_modifiers false = modifier Abstract ∷ []

module _ (P : Plain) (R : Renaming) (F : Facts) (H : Hierarchy) (items : List ColumnItem) where
  -- the class of a node, with its supertypes and its members
  abbrev pub class_tree : ℕ → DeclTree
  class_tree n = ClassTree (class_modifiers (is_made_at F H n)) (type_name H n) (extended F H n) (implemented F H n) (class_members P R F H items n) nowhere

  -- the interface of a node, with its supertypes and its heads
  abbrev pub interface_tree : ℕ → DeclTree
  interface_tree n = InterfaceTree [] (type_name H n) (covering F H n) (interface_heads P R F H n) nowhere

  -- the type of a node: a class, or else an interface
  abbrev pub type_tree : Bool → ℕ → DeclTree
  type_tree true n = class_tree n
  type_tree false n = interface_tree n

  -- the types by the number of their node
  abbrev pub type_trees : List DeclTree
  type_trees = each (λ n live. when live (type_tree (is_class_node F H n) n ∷ [])) 0 H.order.live

module _ (P : Plain) (R : Renaming) (H : Hierarchy) where
  -- the static members of an old class, under its name
  abbrev pub holder_tree : ℕ → PlainClass → DeclTree
  holder_tree c k = ClassTree [] k.name None [] (holder_members P R H c) nowhere

  -- the holders in the order of the program
  abbrev pub holder_trees : List DeclTree
  holder_trees = each (λ c k. when (is_holder P c) (holder_tree c k ∷ [])) 0 P.classes

  -- and behind them that of the methods that make objects, where there are some
  abbrev pub makers_trees : List DeclTree
  makers_trees = option_map_or (λ m. ClassTree [] m.holder None [] (make_members P R H) nowhere ∷ []) (makers_of P) []

-- the types and then the holders, by the new names and the items of the columns
abbrev pub written_by : Plain → Renaming → Facts → Hierarchy → List ColumnItem → List DeclTree
written_by P R F H items = type_trees P R F H items ++ holder_trees P R H ++ makers_trees P R H

-- the rows and columns have the numbers that the facts give them
unfoldable pub java_tree : Plain → Facts → Hierarchy → List DeclTree
java_tree P F H = written_by P (renaming_of P H by_number) F H (map (λ c. c.item) (columns_of P))
