-- Mirror. The types that a written body names are there.
use Rattle.std.specs.Prelude.{◌≡◌, ◌≢◌, ℕ, List, Some, None, slice_get}
use Rattle.java_tree.specs.declared.TypeName.{TypeName}
use Rattle.java_core.specs.Programs.{Plain, PlainLocal, PlainMethod}
use Rattle.java_core.specs.Formed.{variables_of}
use Rattle.java_core.specs.Trees.{Ex, Exs, no_ex, ex_then, field, index, call, static_call, super_call, create, create_array, cast, instance_of, unary, binary, Target, to_field, to_element}
use Rattle.java_meaning.specs.EachStatement.{OfOption, Asked}
use Rattle.hier_model.specs.Hierarchies.{Hierarchy}
use Rattle.flow_rules.specs.declared.items.RowItem.TheVariants as row
use Rattle.flow_rules.specs.declared.items.Site.{Site}
use Rattle.flow_rules.specs.Numbered.{sites_of}
use Rattle.flow_rules.specs.Operands.{variable_row}
use Rattle.rebuild_model.specs.Renaming.{Renaming}
use Rattle.name_rules.specs.declared.Refusal.{Refusal}
use Rattle.name_rules.specs.Meanings.{class_named}
use Rattle.name_rules.specs.Conditions.{IsUnknownType, IsUnknownCast}
use Rattle.write_model.specs.Names.{row_name, written_type}

-- a class or interface of the outline has the name
abbrev pub IsKnownName : Plain → List ℕ → Type 0
IsKnownName O x = class_named O x ≢ None

-- the type is a basic one, String, or an array of these, or its class or interface is in the outline
abbrev pub IsKnownType : Plain → TypeName → Type 0
IsKnownType O u = (r : Refusal) → IsUnknownType O u r → ⊥

-- the type of a cast is a basic one, or its class or interface is in the outline
abbrev pub IsKnownCast : Plain → TypeName → Type 0
IsKnownCast O u = (r : Refusal) → IsUnknownCast O u r → ⊥

-- a creation of objects of a class is a site
pub record IsSiteOf (P : Plain) (n c : ℕ) : Type 0 where
  pub number : ℕ
  pub site : Site
  pub stands : slice_get (sites_of P) number ≡ Some site
  pub is : site.number ≡ n
  pub type : site.ty ≡ record { class = record { 0 = c }; dim = 0 }

-- in the method m of the program, with the outline O of the tree
module _ (P : Plain) (R : Renaming) (H : Hierarchy) (m : ℕ) (k : PlainMethod) (O : Plain) where
  abbrev mutual
    -- the types that an expression names, as it is written, are there
    pub KnownEx : Ex → Type 0
    KnownEx (field t e x) = KnownEx e
    KnownEx (index t e i) = KnownEx e × KnownEx i
    KnownEx (call t e x es) = KnownEx e × KnownExs es
    KnownEx (static_call t d es) = KnownExs es
    KnownEx (super_call t x es) = KnownExs es
    KnownEx (unary t o e) = KnownEx e
    KnownEx (binary t o e d) = KnownEx e × KnownEx d
    KnownEx (create t n c es) = IsKnownName O (row_name P H (R.row_type (row.New n)) c) × IsSiteOf P n c × KnownExs es
    KnownEx (create_array t n v e) = IsKnownType O (written_type P H (R.row_type (row.New n)) v) × KnownEx e
    KnownEx (cast t n v e) = IsKnownCast O (written_type P H (R.row_type (row.Cast n)) v) × KnownEx e
    KnownEx (instance_of t n e c) = IsKnownName O (row_name P H (R.row_type (row.Test n)) c) × KnownEx e
    KnownEx e = Unit {0}

    -- the types that arguments name, as they are written, are there
    pub KnownExs : Exs → Type 0
    KnownExs no_ex = Unit {0}
    KnownExs (ex_then e es) = KnownEx e × KnownExs es

  -- the types that the base and the index of a target name are there
  abbrev pub KnownTarget : Target → Type 0
  KnownTarget (to_field t e x) = KnownEx e
  KnownTarget (to_element t e i) = KnownEx e × KnownEx i
  KnownTarget b = Unit {0}

  -- the type of a variable
  abbrev pub KnownVariable : ℕ → Type 0
  KnownVariable i = (v : PlainLocal) → slice_get (variables_of k) i ≡ Some v → IsKnownType O (written_type P H (R.row_type (variable_row m k i)) v.ty)

  -- what is asked of the statements of a body
  abbrev pub known : Asked
  known = record {
    Of = KnownEx;
    Declared = λ i e. KnownVariable i × OfOption KnownEx e;
    Assigned = λ b e. KnownTarget b × KnownEx e;
    Returned = OfOption KnownEx;
  }
