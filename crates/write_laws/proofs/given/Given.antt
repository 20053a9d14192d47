-- What the names and forms of the written tree rest on: a program, its facts, and a hierarchy over them.
use Rattle.std.specs.Prelude.{◌≡◌, ℕ, true, Some, slice_get}
use Rattle.std.specs.Option.{is_some}
use Rattle.java_core.specs.Programs.{Plain, PlainMethod}
use Rattle.fact_model.specs.declared.facts.Facts.{Facts}
use Rattle.fact_model.specs.declared.sets.PointsTo.{PointsTo}
use Rattle.fact_model.specs.declared.sets.Table.{Table}
use Rattle.hier_model.specs.Hierarchies.{Hierarchy}
use Rattle.flow_rules.specs.Lists.{Numbers}
use Rattle.flow_rules.specs.Facts.{numbers}
use Rattle.rebuild_model.specs.Renaming.{Renaming}
use Rattle.write_laws.proofs.rebuilds.Nodes.{by_node}
use Rattle.rebuild_laws.specs.types.Laws.{IsRebuildable}

pub record Given : Type 0 where
  pub program : Plain
  pub facts : Facts
  pub sets : PointsTo
  pub table : Table
  pub hierarchy : Hierarchy
  pub ready : IsRebuildable program facts sets table hierarchy

-- a method of the program that has a body
pub record Bodied (C : Given) : Type 0 where
  pub number : ℕ
  pub method : PlainMethod
  pub stands : slice_get C.program.methods number ≡ Some method
  pub bodied : is_some method.body ≡ true

-- the numbers of the rows and columns, and the names of the written tree
pub record Words : Type 0 where
  pub numbers : Numbers
  pub renaming : Renaming

abbrev pub words : Given → Words
words C = record {
  numbers = numbers C.program;
  renaming = by_node C.program C.facts C.hierarchy;
}
