-- Mirror. What names and types are written of, and what they become.
use Rattle.std.specs.Prelude.{◌≡◌, ℕ, List, Option, option_and_then}
use Rattle.std.specs.Option.{is_some, option_map, option_map_or}
use Rattle.java_tree.specs.declared.TypeName.{TypeName}
use Rattle.java_tree.specs.Syntax.{Expression, Expressions}
use Rattle.java_core.specs.declared.Ty.{Ty}
use Rattle.java_core.specs.Programs.{Plain, program_of}
use Rattle.java_core.specs.Formed.{IsFormed}
use Rattle.java_core.specs.Makers.{maker_of}
use Rattle.java_core.specs.Classes.{declaration_of, super_method}
use Rattle.java_core.specs.Types.{Static, field_in}
use Rattle.flow_rules.specs.declared.items.RowItem.{RowItem}
use Rattle.flow_rules.specs.declared.items.RowItem.TheVariants as row
use Rattle.flow_rules.specs.Facts.{makers_seen, makers_of}
use Rattle.rebuild_model.specs.Renaming.{Renaming}
use Rattle.write_model.specs.Names as names
use Rattle.write_model.specs.Bodies.{creation_tree}
use Rattle.write_forms.specs.declared.given.Source.{Source}
use Rattle.write_forms.specs.Renamed.{renamed, IsFitting}

-- the old program
abbrev pub old_program : Source → Plain
old_program source = program_of source.program.now

-- what its rows and columns become
abbrev pub renaming : Source → Renaming
renaming source = renamed source.numbering.now source.hier.now

-- a formed program with the names that are fixed for it, and a hierarchy that the numbers fit
pub record IsSource (source : Source) : Type 0 where
  pub formed : IsFormed (old_program source)
  pub makers : option_map makers_seen source.makers.now ≡ makers_of (old_program source)
  pub fits : IsFitting source.numbering.now source.hier.now

-- the new name of a field that an expression of the type has, of a method that a class has, and of one that its superclass has; other names stay
abbrev pub accessed : Source → Static → List ℕ → List ℕ
accessed source type x = option_map_or (renaming source).field_name (field_in (old_program source) type x) x

-- the new name of the method that a class has under a name; another name stays
abbrev pub called : Source → Option ℕ → List ℕ → List ℕ
called source class x = option_map_or (renaming source).method_name (option_and_then (λ c. declaration_of (old_program source) c x) class) x

-- the new name of the method that a super call from a class runs; another name stays
abbrev pub above : Source → ℕ → List ℕ → List ℕ
above source class x = option_map_or (renaming source).method_name (super_method (old_program source) class x) x

-- a class's name and a type, by the node where the row of an item stands
abbrev pub row_named : Source → RowItem → ℕ → List ℕ
row_named source i c = names.row_name (old_program source) source.hier.now ((renaming source).row_type i) c

-- a type as it is written, by the node where the row of an item stands
abbrev pub row_typed : Source → RowItem → Ty → TypeName
row_typed source i v = names.written_type (old_program source) source.hier.now ((renaming source).row_type i) v

-- a creation as it is written: as one, or as a call of the method that makes its objects
abbrev pub created : Source → ℕ → ℕ → Expressions → Expression
created source n c es = creation_tree (is_some (maker_of (old_program source) c)) (names.makers_name (old_program source)) ((renaming source).make_name n)
    (row_named source (row.New n) c) es
