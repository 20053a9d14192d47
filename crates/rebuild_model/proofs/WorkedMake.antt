-- A worked creation of a class with a constructor: class A { int f; A(int x) { this.f = x; } }, and a main that makes an A of 7. In the new program
-- the constructor is a method of the class A_0, and the method make_0 of Makers makes the object.
use Rattle.std.proofs.Common.{◌≡◌, ℕ, suc, true, List, [], ◌∷◌, Some, None, codes, refl, subst}
use Rattle.std.specs.Prelude.{pos}
use Rattle.std.specs.Fmt.{digits}
use Rattle.java_core.specs.Trees.{Sts, no_ex, ex_then, number, this, local, static_call, create, call, to_field, assign, declare, act, return, no_st, st_then}
use Rattle.java_core.specs.Programs.{Plain, PlainMethod}
use Rattle.java_core.specs.Makers.{maker_name}
use Rattle.java_core.specs.Classes.{field_of, member_field, declaration_of, search_order}
use Rattle.java_core.specs.Types.{Env, types_of}
use Rattle.hier_model.specs.Hierarchies.{Hierarchy, node}
use Rattle.flow_rules.specs.declared.items.RowItem.TheVariants as row
use Rattle.flow_rules.specs.Operands.{type_in}
use Rattle.flow_rules.specs.Parts.{parts_of}
use Rattle.flow_rules.specs.Numbered.{bodies_of, rows_of, columns_of, sites_of, row_number, column_number, site_number}
use Rattle.flow_rules.specs.Facts.{numbers, makers_of}
use Rattle.rebuild_model.specs.Renaming.{Places, renaming_of}
use Rattle.rebuild_model.specs.Makes.{slot_types, none_passed, one_passed, IsMakeCode, makes, IsMake}
use Rattle.rebuild_model.specs.Matches.{Matches, m_number, m_make, m_no_ex, m_ex_then}
use Rattle.rebuild_model.proofs.Worked.{place, an_int, class, object, object_of, the_field, variable, method_of, main_of}

-- a method of a slot with the parameter x, that keeps it in f
abbrev keeps : ℕ → List ℕ → PlainMethod
keeps owner name = record (method_of owner name true 0 None 20 (Some (st_then
    (assign (place 22) (to_field (place 22) (this (place 22)) (codes "f")) (local (place 24) 0)) no_st))) { params = variable (codes "x") an_int 21 ∷ [] }

abbrev old_main : Sts
old_main = st_then (declare (place 50) 1 (Some (create (place 54) 0 1 (ex_then (number (place 58) (pos 7)) no_ex)))) no_st

abbrev new_main : Sts
new_main = st_then (declare (place 50) 1 (Some (static_call (place 54) 2 (ex_then (number (place 58) (pos 7)) no_ex)))) no_st

abbrev pub old : Plain
old = record {
  classes = class (codes "Object") None 0 ∷ class (codes "A") object 6 ∷ class (codes "Main") object 30 ∷ [];
  fields = the_field 1 ∷ [];
  methods = main_of 2 true 40 42 (variable (codes "a") (object_of 1) 50 ∷ []) old_main ∷ keeps 1 (maker_name (codes "A")) ∷ [];
  slots = record { name = maker_name (codes "A"); params = an_int ∷ []; result = None; first = 1 } ∷ [];
  main = 0;
}

abbrev make_code : Sts
make_code = st_then (declare (place 0) 1 (Some (create (place 0) 0 1 no_ex)))
    (st_then (act (place 0) (call (place 0) (local (place 0) 1) (codes "init_A") (ex_then (local (place 0) 0) no_ex)))
    (st_then (return (place 0) (Some (local (place 0) 1))) no_st))

abbrev make : PlainMethod
make = record {
  owner = 3;
  name = codes "make_0";
  is_static = true;
  is_public = true;
  slot = None;
  params = variable (codes "x") an_int 0 ∷ [];
  locals = variable (codes "made") (object_of 1) 0 ∷ [];
  result = Some (object_of 1);
  body = Some make_code;
  tag = place 0;
}

abbrev new : Plain
new = record {
  classes = class (codes "Object") None 0 ∷ class (codes "A_0") object 0 ∷ class (codes "Main") object 0 ∷ class (codes "Makers") object 0 ∷ [];
  fields = the_field 1 ∷ [];
  methods = keeps 1 (codes "init_A") ∷ main_of 2 true 40 42 (variable (codes "a") (object_of 1) 50 ∷ []) new_main ∷ make ∷ [];
  slots = record { name = codes "init_A"; params = an_int ∷ []; result = None; first = 0 } ∷ [];
  main = 1;
}

-- all that is of A stands at the one node
abbrev pub hierarchy : Hierarchy
hierarchy = record {
  order = record { live = true ∷ []; le = (true ∷ []) ∷ [] };
  columns = Some (node 0) ∷ Some (node 0) ∷ Some (node 0) ∷ [];
  rows = node 0 ∷ node 0 ∷ node 0 ∷ [];
  types = codes "A_0" ∷ [];
  members = codes "f" ∷ codes "init_A" ∷ codes "init_A" ∷ [];
  origins = Some (record { 0 = 1 }) ∷ [];
  table = [];
}

abbrev places : Places
places = record { type_of = λ n. suc n; holder_of = λ c. 2; makers = 3 }

made_row : (renaming_of old hierarchy places).row_type (row.New 0) ≡ Some 1
unfolding renaming_of numbers rows_of row_number parts_of type_in field_of member_field declaration_of search_order
made_row = refl

named : codes "make_0" ≡ (renaming_of old hierarchy places).make_name 0
unfolding renaming_of numbers sites_of site_number bodies_of rows_of row_number parts_of type_in field_of member_field declaration_of search_order digits
    lib.Utf8.encode
named = refl

slot_named : codes "init_A" ≡ (renaming_of old hierarchy places).method_name 1
unfolding renaming_of numbers rows_of row_number columns_of column_number parts_of type_in field_of member_field declaration_of search_order
slot_named = refl

owner : 3 ≡ (renaming_of old hierarchy places).makers
unfolding renaming_of
owner = refl

params : types_of make.params ≡ slot_types (renaming_of old hierarchy places) 0 (an_int ∷ [])
unfolding renaming_of numbers rows_of row_number parts_of type_in field_of member_field declaration_of search_order
params = refl

made_by : IsMakeCode 1 ((renaming_of old hierarchy places).method_name 1) 1 make_code
made_by = subst (λ x. IsMakeCode 1 x 1 make_code) slot_named (makes (one_passed none_passed))

pub is_make : IsMake old new (renaming_of old hierarchy places) 0 1 2
is_make = record {
  was = record {
    old = keeps 1 (maker_name (codes "A"));
    old_stands = refl;
    slot = 0;
    of_slot = refl;
    signature = record { name = maker_name (codes "A"); params = an_int ∷ []; result = None; first = 1 };
    slot_stands = refl;
  };
  new = make;
  stands = refl;
  static = refl;
  owner = owner;
  name = named;
  class = 1;
  row = made_row;
  params = params;
  result = refl;
  locals = refl;
  code = make_code;
  new_code = refl;
  makes = made_by;
}

pub makers : makers_of old ≡ Some (record { holder = codes "Makers"; local = codes "made" })
unfolding sites_of bodies_of rows_of row_number parts_of type_in field_of member_field declaration_of search_order digits lib.Utf8.encode
makers = refl

-- the creation is a call of it
matches : {g : Env} → Matches old new (renaming_of old hierarchy places) g (create (place 54) 0 1 (ex_then (number (place 58) (pos 7)) no_ex))
    (static_call (place 54) 2 (ex_then (number (place 58) (pos 7)) no_ex))
matches = m_make refl is_make (m_ex_then m_number m_no_ex)
