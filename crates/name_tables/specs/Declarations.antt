-- Mirror. When what is declared is found by its tables.
use Rattle.std.specs.Prelude.{map}
use Rattle.name_laws.specs.Tables.{field_in, method_in}
use Rattle.name_tables.specs.declared.declarations.Declared.{Declared}
use Rattle.name_tables.specs.Owned.{AreNamesOwned}
use Rattle.name_tables.specs.Spots.{AreSpots}

-- the fields and the methods of each class, and the methods of each name, stand where the tables say
pub record AreDeclarationsListed (d : Declared) : Type 0 where
  pub fields : AreNamesOwned (field_in d.fields.items) d.own_fields
  pub owned : AreNamesOwned (method_in d.headings.items) d.own_methods
  pub methods : AreSpots (map (λ h. h.name) d.headings.items) d.method_spots
