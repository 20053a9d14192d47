-- What the walks over one body speak of: its variables, and of its forms the types, rows, operands and parts.
use Rattle.std.specs.Prelude.{ℕ, List, Option, Bool, Contains}
use Rattle.java_core.specs.Trees.{Ex, Exs, Sts}
use Rattle.java_core.specs.Programs.{Plain, PlainMethod}
use Rattle.java_core.specs.Types.{Static, Env, env_of, static}
use Rattle.java_core.specs.Typing.{Typed}
use Rattle.java_core.specs.Formed.{FormedEx}
use Rattle.flow_rules.specs.declared.items.ObjectType.{ObjectType}
use Rattle.flow_rules.specs.declared.items.Operand.{Operand}
use Rattle.flow_rules.specs.declared.items.RowItem.{RowItem}
use Rattle.flow_rules.specs.Operands.{row_of, operand_of, operands_of, type_in}
use Rattle.flow_rules.specs.Parts.{Part, parts, parts_all, parts_if, parts_sts, parts_of}

pub record Walked : Type 1 where
  pub env : Env
  pub type : Ex → Option ObjectType
  pub row_at : Ex → Option RowItem
  pub operand : Ex → Operand
  pub operands : Exs → List Operand
  pub tree : Bool → Ex → List Part
  pub tree_all : Bool → Exs → List Part
  pub tree_if : Option Ex → List Part
  pub tree_sts : Sts → List Part
  -- the parts of a list stand among those of the body
  pub Stands : List Part → Type 0
  -- an expression in the body's variables
  pub static : Ex → Static
  pub IsTyped : Ex → Type 0
  pub IsFormed : List ℕ → Ex → Type 0

abbrev pub walked : Plain → ℕ → PlainMethod → Walked
walked P m k = record {
  env = env_of m k;
  type = type_in P m k;
  row_at = row_of P (type_in P m k) m k;
  operand = operand_of P (type_in P m k) m k;
  operands = operands_of P (type_in P m k) m k;
  tree = parts P (type_in P m k) m k;
  tree_all = parts_all P (type_in P m k) m k;
  tree_if = parts_if P (type_in P m k) m k;
  tree_sts = parts_sts P (type_in P m k) m k;
  Stands = λ ps. (p : Part) → Contains ps p → Contains (parts_of P m k) p;
  static = λ e. static P (env_of m k) e;
  IsTyped = λ e. Typed P (env_of m k) e;
  IsFormed = λ scope e. FormedEx P k scope e;
}
