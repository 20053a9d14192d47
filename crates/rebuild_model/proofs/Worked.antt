-- A worked program and its rebuilt one: class A { int f; int m() { return f; } }, and a main that makes an A, holds it in x and calls m. In the new
-- program x has the interface A_0, where m stands, and the object the class A_1.
use Rattle.std.proofs.Common.{ℕ, suc, Bool, true, false, List, [], ◌∷◌, Option, Some, None, refl, length, ◌≤◌, lit<}
use Rattle.std.specs.Prelude.{codes}
use Rattle.std.specs.declared.vec.Vec.{Vec}
use Rattle.std.specs.declared.alloc.Global.{Global}
use Rattle.kaba_base.specs.declared.ClassId.{ClassId}
use Rattle.java_core.specs.declared.Ty.{Ty}
use Rattle.java_core.specs.declared.TyBase.TheVariants.{Int, Str, Class}
use Rattle.java_core.specs.Trees.{Tag, Sts, no_ex, local, this, create, call, own_field, field, declare, act, return, no_st, st_then}
use Rattle.java_core.specs.Programs.{Plain, PlainClass, PlainField, PlainLocal, PlainMethod, PlainSlot}
use Rattle.fact_model.specs.declared.facts.ColumnInfo.{ColumnInfo}
use Rattle.fact_model.specs.declared.facts.SiteInfo.{SiteInfo}
use Rattle.fact_model.specs.declared.facts.ColKind.TheVariants.{Fld, Dcl, Def}
use Rattle.hier_model.specs.Hierarchies.{Hierarchy, node}
use Rattle.rebuild_model.specs.Renaming.{Places}

abbrev pub place : ℕ → Tag
place n = record { label = 0; place = record { at = n; line = 1 } }

abbrev pub an_int : Ty
an_int = record { base = Int; dim = 0 }

abbrev pub object_of : ℕ → Ty
object_of c = record { base = Class (record { 0 = c }); dim = 0 }

abbrev pub class : List ℕ → Option ClassId → ℕ → PlainClass
class name parent at = record { name = name; is_interface = false; is_abstract = false; parent = parent; faces = []; tag = place at }

abbrev pub object : Option ClassId
object = Some (record { 0 = 0 })

abbrev pub the_field : ℕ → PlainField
the_field owner = record { owner = owner; name = codes "f"; is_static = false; ty = an_int; tag = place 10 }

abbrev pub variable : List ℕ → Ty → ℕ → PlainLocal
variable name ty at = record { name = name; ty = ty; tag = place at }

-- an instance method without parameters or locals
abbrev pub method_of : ℕ → List ℕ → Bool → ℕ → Option Ty → ℕ → Option Sts → PlainMethod
method_of owner name is_public slot result at body = record {
  owner = owner;
  name = name;
  is_static = false;
  is_public = is_public;
  slot = Some slot;
  params = [];
  locals = [];
  result = result;
  body = body;
  tag = place at;
}

-- main, at one place and its parameter at another
abbrev pub main_of : ℕ → Bool → ℕ → ℕ → List PlainLocal → Sts → PlainMethod
main_of owner is_public at args_at locals code = record {
  owner = owner;
  name = codes "main";
  is_static = true;
  is_public = is_public;
  slot = None;
  params = variable (codes "args") (record { base = Str; dim = 1 }) args_at ∷ [];
  locals = locals;
  result = None;
  body = Some code;
  tag = place at;
}

abbrev pub method : ℕ → Option Sts → PlainMethod
method owner body = method_of owner (codes "m") true 0 (Some an_int) 20 body

abbrev pub main : ℕ → ℕ → Sts → PlainMethod
main owner kept code = main_of owner true 40 42 (variable (codes "x") (object_of kept) 50 ∷ []) code

abbrev pub slot : PlainSlot
slot = record { name = codes "m"; params = []; result = Some an_int; first = 0 }

abbrev pub main_code : ℕ → Sts
main_code made = st_then (declare (place 50) 1 (Some (create (place 54) 0 made no_ex)))
    (st_then (act (place 60) (call (place 60) (local (place 60) 1) (codes "m") no_ex)) no_st)

abbrev pub old : Plain
old =
    record {
      classes = class (codes "Object") None 0 ∷ class (codes "A") object 6 ∷ class (codes "Main") object 30 ∷ [];
      fields = the_field 1 ∷ [];
      methods = method 1 (Some (st_then (return (place 22) (Some (own_field (place 24) 0))) no_st)) ∷ main 2 1 (main_code 1) ∷ [];
      slots = slot ∷ [];
      main = 1;
    }

abbrev pub new : Plain
new =
    record {
      classes = class (codes "Object") None 0
          ∷ record { name = codes "A_0"; is_interface = true; is_abstract = false; parent = object; faces = []; tag = place 0 }
          ∷ record { name = codes "A_1"; is_interface = false; is_abstract = false; parent = object; faces = record { 0 = 1 } ∷ []; tag = place 0 }
          ∷ class (codes "Main") object 0 ∷ [];
      fields = the_field 2 ∷ [];
      methods = method 1 None ∷ method 2 (Some (st_then (return (place 0) (Some (field (place 0) (this (place 0)) (codes "f")))) no_st))
          ∷ main 3 1 (main_code 2) ∷ [];
      slots = slot ∷ [];
      main = 2;
    }

-- a list where one of other items stands
abbrev pub listed : {A B : Type 0} → Vec A Global → (xs : List B) → length xs ≤ 9 → Vec B Global
listed v xs fits = record { ptr = v.ptr; len = length xs; cap = 9; alloc = v.alloc; items = xs; ok = (refl, fits); small = lit< tt }

abbrev pub the_columns : List ColumnInfo
the_columns =
    record { kind = Fld; class = record { 0 = 1 }; slot = None; name = codes "f"; label = [] }
    ∷ record { kind = Dcl; class = record { 0 = 1 }; slot = Some 0; name = codes "m"; label = [] }
    ∷ record { kind = Def; class = record { 0 = 1 }; slot = Some 0; name = codes "m"; label = [] } ∷ []

abbrev pub the_sites : List SiteInfo
the_sites = record { row = record { 0 = 2 }; class = record { 0 = 1 }; dim = 0 } ∷ []

-- m's declaration and x stand at node 0; the field, the body, its `this` and the creation at node 1 below it
abbrev pub hierarchy : Hierarchy
hierarchy = record {
  order = record { live = true ∷ true ∷ []; le = (true ∷ false ∷ []) ∷ (true ∷ true ∷ []) ∷ [] };
  columns = Some (node 1) ∷ Some (node 0) ∷ Some (node 1) ∷ [];
  rows = node 1 ∷ node 0 ∷ node 1 ∷ [];
  types = codes "A_0" ∷ codes "A_1" ∷ [];
  members = codes "f" ∷ codes "m" ∷ codes "m" ∷ [];
  origins = Some (record { 0 = 1 }) ∷ Some (record { 0 = 1 }) ∷ [];
  table = [];
}

abbrev pub places : Places
places = record { type_of = λ n. suc n; holder_of = λ c. 3; makers = 0 }
