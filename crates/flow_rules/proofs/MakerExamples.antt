-- The facts of a program with three constructors: a chain, each of which calls that of its superclass, and one creation.
use Rattle.std.proofs.Common.{◌≡◌, ℕ, true, false, List, [], ◌∷◌, map, Some, None, codes, refl}
use Rattle.std.specs.Prelude.{pos}
use Rattle.kaba_base.specs.declared.Place.{Place}
use Rattle.java_core.specs.declared.Ty.{Ty}
use Rattle.java_core.specs.declared.TyBase.TheVariants.{Int, Str, Class}
use Rattle.java_core.specs.declared.Op.TheVariants as op
use Rattle.java_core.specs.declared.BinOp.TheVariants as bin
use Rattle.java_core.specs.Trees.{at_place, number, this, local, field, create, binary, no_ex, ex_then, to_field, declare, assign, print, Sts, no_st, st_then}
use Rattle.java_core.specs.Programs.{Plain, PlainClass, PlainMethod, PlainLocal}
use Rattle.java_core.specs.Makers.{maker_name, call_above}
use Rattle.flow_rules.specs.declared.items.RowItem.TheVariants as row
use Rattle.flow_rules.specs.declared.items.ColumnItem.TheVariants as column
use Rattle.flow_rules.specs.Numbered.{rows_of, columns_of, points_of, bodies_of, sites_of, row_number, column_number, site_number, point_number}
use Rattle.flow_rules.specs.Parts.{parts_of}
use Rattle.flow_rules.specs.Operands.{type_in}
use Rattle.flow_rules.specs.Lists.{accesses_of, calls_of}
use Rattle.flow_rules.specs.Facts.{numbers, gathered, make_of, fixed_names, name_in, method_text}
use Rattle.java_core.specs.Classes.{field_of, member_field, declaration_of, search_order}
use Rattle.java_core.specs.Types.{call_signature, access_type, field_in}
use Rattle.std.specs.Fmt.{digits}
use Rattle.std.specs.List.{flat_map}

abbrev place : ℕ → Place
place k = record { at = k; line = 1 }

abbrev int : Ty
int = record { base = Int; dim = 0 }

abbrev class : List ℕ → ℕ → ℕ → PlainClass
class n above k =
    record { name = n; is_interface = false; is_abstract = false; parent = Some (record { 0 = above }); faces = []; tag = at_place (place k) }

abbrev maker : ℕ → List ℕ → ℕ → List PlainLocal → ℕ → Sts → PlainMethod
maker owner n slot params k code =
    record {
      owner = owner;
      name = maker_name n;
      is_static = false;
      is_public = true;
      slot = Some slot;
      params = params;
      locals = [];
      result = None;
      body = Some code;
      tag = at_place (place k);
    }

abbrev x_at : ℕ → PlainLocal
x_at k = record { name = codes "x"; ty = int; tag = at_place (place k) }

abbrev main_method : PlainMethod
main_method =
    record {
      owner = 4;
      name = codes "main";
      is_static = true;
      is_public = false;
      slot = None;
      params = record { name = codes "args"; ty = record { base = Str; dim = 1 }; tag = at_place (place 72) } ∷ [];
      locals = record { name = codes "c"; ty = record { base = Class (record { 0 = 3 }); dim = 0 }; tag = at_place (place 77) } ∷ [];
      result = None;
      body = Some (st_then (declare (at_place (place 77)) 1 (Some (create (at_place (place 79)) 0 3 no_ex)))
          (st_then (print (at_place (place 84)) true (Some (field (at_place (place 92)) (local (at_place (place 90)) 1) (codes "a")))) no_st));
      tag = at_place (place 68);
    }

abbrev chain : Plain
chain =
    record {
      classes = record { name = codes "Object"; is_interface = false; is_abstract = false; parent = None; faces = []; tag = at_place (place 0) }
          ∷ class (codes "A") 0 1 ∷ class (codes "B") 1 25 ∷ class (codes "C") 2 46 ∷ class (codes "Main") 0 64 ∷ [];
      fields = record { owner = 1; name = codes "a"; is_static = false; ty = int; tag = at_place (place 6) } ∷ [];
      methods = maker 1 (codes "A") 0 (x_at 13 ∷ []) 10 (st_then
          (assign (at_place (place 20)) (to_field (at_place (place 19)) (this (at_place (place 17))) (codes "a")) (local (at_place (place 21)) 0)) no_st)
          ∷ maker 2 (codes "B") 1 (x_at 33 ∷ []) 30 (st_then
          (call_above (at_place (place 30)) (codes "A")
          (ex_then (binary (at_place (place 39)) (bin.Int op.Plus) (local (at_place (place 38)) 0) (number (at_place (place 40)) (pos 1))) no_ex)) no_st)
          ∷ maker 3 (codes "C") 2 [] 51 (st_then (call_above (at_place (place 51)) (codes "B") (ex_then (number (at_place (place 58)) (pos 1)) no_ex)) no_st)
          ∷ main_method ∷ [];
      slots = record { name = maker_name (codes "A"); params = int ∷ []; result = None; first = 0 }
          ∷ record { name = maker_name (codes "B"); params = int ∷ []; result = None; first = 1 }
          ∷ record { name = maker_name (codes "C"); params = []; result = None; first = 2 } ∷ [];
      main = 3;
    }

rows : map (λ r. r.item) (rows_of chain) ≡ row.This 0 ∷ row.This 1 ∷ row.This 2 ∷ row.Local 3 1 ∷ row.New 0 ∷ []
unfolding rows_of parts_of type_in search_order declaration_of call_signature field_of member_field
rows = refl

columns : map (λ c. c.item) (columns_of chain) ≡ column.Fld 0 ∷ column.Dcl 0 ∷ column.Def 0 ∷ column.Dcl 1 ∷ column.Def 1 ∷ column.Dcl 2
    ∷ column.Def 2 ∷ []
unfolding columns_of parts_of type_in search_order declaration_of call_signature field_of member_field
columns = refl

-- a constructor needs its field, one below it the constructor above, c the field, and the creation its constructor
accesses : map {B = ℕ × ℕ} (λ a. (a.row.0, a.column.0)) (gathered chain (λ b. accesses_of (numbers chain)))
    ≡ (0, 0) ∷ (1, 1) ∷ (2, 3) ∷ (4, 5) ∷ (3, 0) ∷ []
unfolding numbers bodies_of points_of point_number sites_of site_number rows_of row_number columns_of column_number parts_of type_in search_order declaration_of
    call_signature field_of member_field
accesses = refl

-- the creation is a point, which its constructor is called on
calls : map {B = ℕ × ℕ} (λ c. (c.item.receiver, c.item.slot)) (gathered chain (λ b. calls_of (numbers chain))) ≡ (1, 0) ∷ (2, 1) ∷ (4, 2) ∷ []
unfolding numbers bodies_of points_of point_number sites_of site_number rows_of row_number columns_of column_number parts_of type_in search_order declaration_of
    call_signature access_type field_in field_of member_field
calls = refl

label : method_text chain 2 ≡ codes "C.C"
unfolding lib.Utf8.encode
label = refl

made : map {B = ℕ × List ℕ} (λ m. (m.site, m.name)) (flat_map make_of (fixed_names chain)) ≡ (0, codes "make_0") ∷ []
unfolding sites_of bodies_of rows_of row_number parts_of type_in search_order declaration_of call_signature field_of member_field digits lib.Utf8.encode
made = refl

name : name_in chain (column.Def 1) ≡ codes "init_B"
unfolding sites_of bodies_of rows_of row_number parts_of type_in search_order declaration_of call_signature field_of member_field lib.Utf8.encode
name = refl
