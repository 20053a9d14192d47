-- Mirror. What is in scope, by the tables of the blocks around.
use Rattle.std.specs.Prelude.{ℕ, List, [], ◌++◌, map, string_bytes}
use Rattle.std.specs.Str.{chars}
use Rattle.std.specs.declared.alloc.Global.{Global}
use Rattle.std.specs.declared.string.String.{String}
use Rattle.name_rules.specs.declared.parts.Bound.{Bound}
use Rattle.name_tables.specs.declared.scope.Block.{Block, Block', Held-Block-outer, None', Some'}

-- an entry of the table of a block
abbrev pub bound_seen : String Global × ℕ → Bound
bound_seen e = record { name = chars (string_bytes e.0); number = e.1 }

-- what a block itself declares
abbrev pub own_bounds : Block → List Bound
own_bounds (Block' own outer) = map bound_seen own.entries

abbrev mutual
  -- what is in scope in a block: first what is in scope around it
  pub bounds_in : Block → List Bound
  bounds_in (Block' own outer) = bounds_around outer ++ map bound_seen own.entries

  -- what is in scope around a block; nothing where no block is around it
  pub bounds_around : Held-Block-outer → List Bound
  bounds_around None' = []
  bounds_around (Some' p block) = bounds_in block
