-- Small programs and hierarchies from their parts.
use Rattle.std.proofs.Common.{ℕ, Bool, false, List, [], ◌∷◌, Option, Some, None}
use Rattle.std.specs.Prelude.{codes}
use Rattle.kaba_base.specs.declared.NodeId.{NodeId}
use Rattle.kaba_base.specs.declared.ClassId.{ClassId}
use Rattle.kaba_base.specs.declared.words.Keyword.TheVariants.{Public, Static}
use Rattle.java_tree.specs.declared.TypeName.{TypeName}
use Rattle.java_tree.specs.declared.TypeBase.{TypeBase}
use Rattle.java_tree.specs.declared.TypeBase.TheVariants as base
use Rattle.java_tree.specs.declared.Param.{Param}
use Rattle.java_tree.specs.declared.Modifier.{Modifier}
use Rattle.java_tree.specs.Syntax.{HeadTree, Statements, DeclTree, ClassTree, MethodTree}
use Rattle.java_core.specs.declared.Ty.{Ty}
use Rattle.java_core.specs.declared.TyBase.{TyBase}
use Rattle.java_core.specs.Trees.{Sts}
use Rattle.java_core.specs.Programs.{PlainField, PlainLocal, PlainMethod}
use Rattle.fact_model.specs.declared.facts.ColumnInfo.{ColumnInfo}
use Rattle.fact_model.specs.declared.facts.ColKind.{ColKind}
use Rattle.fact_model.specs.declared.facts.SiteInfo.{SiteInfo}
use Rattle.hier_model.specs.Hierarchies.{Hierarchy, node}
use Rattle.rebuild_model.proofs.Worked.{place, method_of, main_of}
use Rattle.write_model.specs.Names.{nowhere, modifier}

abbrev pub plain : TyBase → Ty
plain b = record { base = b; dim = 0 }

-- ---- programs

abbrev pub under : ℕ → Option ClassId
under c = Some (record { 0 = c })

abbrev pub a_field : ℕ → List ℕ → Ty → ℕ → PlainField
a_field owner name ty p = record { owner = owner; name = name; is_static = false; ty = ty; tag = place p }

abbrev pub a_method : ℕ → List ℕ → ℕ → Option Ty → ℕ → Sts → PlainMethod
a_method owner name slot result p code = method_of owner name false slot result p (Some code)

-- main, with its locals and its code
abbrev pub a_main : ℕ → List PlainLocal → Sts → PlainMethod
a_main owner locals code = main_of owner false 90 92 locals code

-- ---- facts

abbrev pub column : ColKind → ℕ → Option ℕ → List ℕ → ColumnInfo
column kind class slot name = record { kind = kind; class = record { 0 = class }; slot = slot; name = name; label = [] }

abbrev pub site : ℕ → ℕ → SiteInfo
site row class = record { row = record { 0 = row }; class = record { 0 = class }; dim = 0 }

-- ---- hierarchies

abbrev pub hierarchy : List Bool → List (List Bool) → List (Option NodeId) → List NodeId → List (List ℕ) → List (List ℕ) → Hierarchy
hierarchy live le columns rows types members =
    record { order = record { live = live; le = le }; columns = columns; rows = rows; types = types; members = members; origins = []; table = [] }

abbrev pub at_node : ℕ → Option NodeId
at_node n = Some (node n)

-- ---- trees

abbrev pub type : TypeBase → TypeName
type b = record { base = b; dim = 0; place = nowhere }

abbrev pub an_head : List Modifier → Option TypeName → List ℕ → List Param → HeadTree
an_head mods result name params = record { mods = mods; type = result; name = name; params = params; place = nowhere }

-- the class of main, with its code
abbrev pub main_tree : Statements → DeclTree
main_tree code =
    ClassTree [] (codes "Main") None []
    (MethodTree (an_head (modifier Public ∷ modifier Static ∷ []) None (codes "main")
    (record { is_final = false; ty = record { base = base.Named (codes "String"); dim = 1; place = nowhere }; name = codes "args"; place = nowhere } ∷ []))
    (Some code) nowhere ∷ []) nowhere
