-- Mirror. What is known of the classes of a program is so.
use Rattle.std.specs.Prelude.{◌≡◌, ℕ, Bool, Some, map}
use Rattle.std.specs.declared.vec.Vec.{Vec}
use Rattle.std.specs.declared.alloc.Global.{Global}
use Rattle.java_core.specs.Programs.{program_of}
use Rattle.java_core.specs.Formed.{IsFormed}
use Rattle.java_core.specs.Classes.{lookup, below}
use Rattle.java_heap.specs.declared.values.Value.{Value}
use Rattle.java_heap.specs.Seen.{value_of}
use Rattle.java_meaning.specs.Languages.{fresh_of}
use Rattle.run_classes.specs.declared.classes.Classes.TheInside.{Inside}
use Rattle.run_classes.specs.Known.{known, known_in}

-- the program is well formed, and each entry of the tables agrees with it
pub record AreExactTables (c : Inside) : Type 0 where
  pub formed : IsFormed (program_of c.program.now)
  -- by class and slot, the method that runs
  pub bodies : (a s m : ℕ) → known_in c.bodies.items a s ≡ Some m → lookup (program_of c.program.now) a s ≡ Some m
  -- by upper and lower class, whether it is below
  pub subclasses : (b a : ℕ) (is : Bool) → known_in c.subclasses.items b a ≡ Some is → below (program_of c.program.now) a b ≡ is
  -- by class, the values of a new object
  pub objects : (a : ℕ) (vs : Vec Value Global) → known c.objects.items a ≡ Some vs → map value_of vs.items ≡ fresh_of (program_of c.program.now) a
