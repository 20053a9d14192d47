-- A worked program: class A has the field f and the method m, class B extends A has a method m, and `new A()` is held by x, of which f is read.
use Rattle.std.proofs.Common.{◌≡◌, ℕ, Bool, true, false, List, [], ◌∷◌, Option, Some, None, refl, map, length, ◌≤◌, lit≤, lit<}
use Rattle.std.specs.Option.{option_map}
use Rattle.std.specs.Fmt.{digits}
use Rattle.std.specs.declared.vec.Vec.{Vec}
use Rattle.std.specs.declared.alloc.Global.{Global}
use Rattle.kaba_base.specs.declared.ClassId.{ClassId}
use Rattle.fact_model.specs.Concepts.{Pair}
use Rattle.fact_model.specs.declared.facts.Facts.{Facts}
use Rattle.fact_model.specs.declared.facts.ClassInfo.{ClassInfo}
use Rattle.fact_model.specs.declared.facts.ColumnInfo.{ColumnInfo}
use Rattle.fact_model.specs.declared.facts.ColKind.TheVariants.{Fld, Dcl, Def}
use Rattle.hier_model.specs.Hierarchies.{Hierarchy}
use Rattle.hier_model.specs.Start.{start_of}

abbrev the_columns : List ColumnInfo
the_columns =
    record { kind = Fld; class = record { 0 = 1 }; slot = None; name = 102 ∷ []; label = [] }
    ∷ record { kind = Dcl; class = record { 0 = 1 }; slot = Some 0; name = 109 ∷ []; label = [] }
    ∷ record { kind = Def; class = record { 0 = 1 }; slot = Some 0; name = 109 ∷ []; label = [] }
    ∷ record { kind = Dcl; class = record { 0 = 2 }; slot = Some 0; name = 109 ∷ []; label = [] }
    ∷ record { kind = Def; class = record { 0 = 2 }; slot = Some 0; name = 109 ∷ []; label = [] } ∷ []

abbrev class : List ℕ → Option ClassId → Vec ClassId Global → ClassInfo
class name parent faces = record { name = name; parent = parent; faces = faces; is_interface = false; holder = false }

abbrev the_classes : Vec ClassId Global → List ClassInfo
the_classes faces = class (79 ∷ []) None faces ∷ class (65 ∷ []) (Some (record { 0 = 0 })) faces ∷ class (66 ∷ []) (Some (record { 0 = 1 })) faces ∷ []

abbrev the_words : List (List ℕ)
the_words = (65 ∷ []) ∷ (66 ∷ []) ∷ (102 ∷ []) ∷ (109 ∷ []) ∷ (120 ∷ []) ∷ []

abbrev table : List (List Bool)
table =
    (true ∷ true ∷ true ∷ false ∷ false ∷ []) ∷ (false ∷ false ∷ false ∷ true ∷ true ∷ []) ∷ (true ∷ false ∷ false ∷ false ∷ false ∷ [])
    ∷ (true ∷ false ∷ false ∷ false ∷ false ∷ []) ∷ []

abbrev concepts : List Pair
concepts =
    (true ∷ true ∷ true ∷ true ∷ [], false ∷ false ∷ false ∷ false ∷ false ∷ []) ∷ (true ∷ false ∷ true ∷ true ∷ [], true ∷ false ∷ false ∷ false ∷ false ∷ [])
    ∷ (true ∷ false ∷ false ∷ false ∷ [], true ∷ true ∷ true ∷ false ∷ false ∷ []) ∷ (
      false ∷ true ∷ false ∷ false ∷ [],
      false ∷ false ∷ false
          ∷ true ∷ true ∷ [],
    )
    ∷ (false ∷ false ∷ false ∷ false ∷ [], true ∷ true ∷ true ∷ true ∷ true ∷ []) ∷ []

-- a list where one of other items stands
abbrev pub listed : {A B : Type 0} → Vec A Global → (xs : List B) → length xs ≤ 9 → Vec B Global
listed v xs fits = record { ptr = v.ptr; len = length xs; cap = 9; alloc = v.alloc; items = xs; ok = (refl, fits); small = lit< tt }

-- the facts of the program, as far as a hierarchy asks them
module _ (others : Facts) (faces : Vec ClassId Global) where
  abbrev pub facts : Facts
  facts = record others {
    columns = listed others.columns the_columns (lit≤ tt);
    classes = listed others.classes (the_classes (listed faces [] (lit≤ tt))) (lit≤ tt);
    words = listed others.words the_words (lit≤ tt);
  }

  abbrev pub begun : Hierarchy
  begun = start_of facts table concepts

  pub places : map (option_map (λ n. n.0)) begun.columns ≡ (Some 1 ∷ Some 2 ∷ Some 2 ∷ Some 3 ∷ Some 3 ∷ [])
  places = refl

  pub rows : map (λ n. n.0) begun.rows ≡ (2 ∷ 3 ∷ 1 ∷ 1 ∷ [])
  rows = refl

  pub nodes : begun.order.live ≡ (true ∷ true ∷ true ∷ true ∷ false ∷ [])
  nodes = refl

  pub origins : map (option_map (λ k. k.0)) begun.origins ≡ (Some 0 ∷ Some 1 ∷ Some 1 ∷ Some 2 ∷ Some 2 ∷ [])
  origins = refl

  pub members : begun.members ≡ (102 ∷ []) ∷ (109 ∷ []) ∷ (109 ∷ []) ∷ (109 ∷ []) ∷ (109 ∷ []) ∷ []
  members = refl

  pub types : begun.types ≡ (79 ∷ 95 ∷ 48 ∷ []) ∷ (65 ∷ 95 ∷ 49 ∷ []) ∷ (65 ∷ 95 ∷ 50 ∷ []) ∷ (66 ∷ 95 ∷ 51 ∷ []) ∷ (66 ∷ 95 ∷ 52 ∷ []) ∷ []
  unfolding digits
  types = refl
