-- A program whose rows, columns, sites, points and lists are computed: class P { int a; P b; }, and a main that makes a P, puts it in a local x and
-- stores it in its own field.
use Rattle.std.proofs.Common.{◌≡◌, ℕ, true, false, [], ◌∷◌, refl}
use Rattle.std.specs.Prelude.{Some, None, map, codes}
use Rattle.java_core.specs.declared.Ty.{Ty}
use Rattle.java_core.specs.declared.TyBase.TheVariants.{Int, Str, Class}
use Rattle.java_core.specs.Trees.{Tag, Sts, no_ex, local, create, declare, assign, to_field, no_st, st_then}
use Rattle.java_core.specs.Programs.{Plain, PlainMethod}
use Rattle.java_core.specs.Classes.{member_field, field_of, below}
use Rattle.flow_rules.specs.declared.items.RowItem.TheVariants as row
use Rattle.flow_rules.specs.declared.items.ColumnItem.TheVariants as column
use Rattle.flow_rules.specs.declared.items.PointItem.TheVariants as point
use Rattle.flow_rules.specs.Operands.{type_in}
use Rattle.flow_rules.specs.Parts.{parts_of}
use Rattle.flow_rules.specs.Numbered.{rows_of, columns_of, sites_of, points_of, bodies_of, row_number, column_number, site_number, point_number}
use Rattle.flow_rules.specs.Lists.{news_of, ties_of}
use Rattle.flow_rules.specs.Facts.{numbers, gathered, cells_of}

abbrev pub place : ℕ → Tag
place n = record { label = 0; place = record { at = n; line = 1 } }

abbrev pub of_p : Ty
of_p = record { base = Class (record { 0 = 1 }); dim = 0 }

abbrev code : Sts
code = st_then (declare (place 50) 1 (Some (create (place 54) 0 1 no_ex)))
    (st_then (assign (place 62) (to_field (place 61) (local (place 60) 1) (codes "b")) (local (place 64) 1)) no_st)

abbrev pub main_method : PlainMethod
main_method =
    record {
      owner = 2;
      name = codes "main";
      is_static = true;
      is_public = false;
      slot = None;
      params = record { name = codes "args"; ty = record { base = Str; dim = 1 }; tag = place 42 } ∷ [];
      locals = record { name = codes "x"; ty = of_p; tag = place 50 } ∷ [];
      result = None;
      body = Some code;
      tag = place 40;
    }

abbrev pub program : Plain
program =
    record {
      classes = record { name = codes "Object"; is_interface = false; is_abstract = false; parent = None; faces = []; tag = place 0 }
          ∷ record { name = codes "P"; is_interface = false; is_abstract = false; parent = Some (record { 0 = 0 }); faces = []; tag = place 6 }
          ∷ record { name = codes "Main"; is_interface = false; is_abstract = false; parent = Some (record { 0 = 0 }); faces = []; tag = place 30 } ∷ [];
      fields = record { owner = 1; name = codes "a"; is_static = false; ty = record { base = Int; dim = 0 }; tag = place 10 }
          ∷ record { owner = 1; name = codes "b"; is_static = false; ty = of_p; tag = place 16 } ∷ [];
      methods = main_method ∷ [];
      slots = [];
      main = 0;
    }

rows : map (λ r. r.item) (rows_of program) ≡ row.Field 1 ∷ row.Local 0 1 ∷ row.New 0 ∷ []
unfolding rows_of parts_of type_in field_of member_field
rows = refl

columns : map (λ c. c.item) (columns_of program) ≡ column.Fld 0 ∷ column.Fld 1 ∷ []
unfolding columns_of parts_of type_in field_of member_field
columns = refl

points : map (λ p. p.item) (points_of program) ≡ point.Local 0 1 ∷ []
unfolding points_of rows_of row_number parts_of type_in field_of member_field
points = refl

-- the creation flows into x
news : gathered program (λ b. news_of (numbers program) b.number) ≡ record { point = 0; site = record { 0 = 0 } } ∷ []
unfolding numbers bodies_of points_of point_number sites_of site_number rows_of row_number columns_of column_number parts_of type_in field_of member_field
news = refl

-- x is tied above the creation, and its field b above x
ties : gathered program (λ b. ties_of (numbers program) program b.number b.slot)
    ≡ record { lower = record { 0 = 2 }; upper = record { 0 = 1 } } ∷ record { lower = record { 0 = 1 }; upper = record { 0 = 0 } } ∷ []
unfolding numbers bodies_of points_of point_number sites_of site_number rows_of row_number columns_of column_number parts_of type_in field_of member_field below
ties = refl

-- the one object has a cell for b, and none for the int a
cells : cells_of program ≡ record { site = record { 0 = 0 }; column = Some (record { 0 = 1 }); row = record { 0 = 0 } } ∷ []
unfolding cells_of numbers bodies_of points_of point_number sites_of site_number rows_of row_number columns_of column_number parts_of type_in field_of
    member_field below
cells = refl
