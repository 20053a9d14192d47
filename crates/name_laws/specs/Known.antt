-- Mirror. A class or an interface as the other declarations know it.
use Rattle.std.specs.Prelude.{ℕ, Bool, List}

-- a class or interface: its name, and which of the two it is
pub record KnownClass : Type 0 where
  pub name : List ℕ
  pub is_interface : Bool
