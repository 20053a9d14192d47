-- A creation of a class with a constructor, and the method that makes its objects: class A { int f; A(int x) { this.f = x; } }, and a main that makes
-- an A of 7. All that is of A stands at one node.
use Rattle.std.proofs.Common.{◌≡◌, ℕ, false, List, [], ◌∷◌, refl, lit≤}
use Rattle.std.specs.Prelude.{pos, Some, None, codes}
use Rattle.std.specs.Fmt.{digits}
use Rattle.kaba_base.specs.declared.words.Keyword.TheVariants.{Public, Static}
use Rattle.java_tree.specs.declared.TypeBase.TheVariants as base
use Rattle.java_tree.specs.declared.TypeName.{TypeName}
use Rattle.java_tree.specs.declared.Param.{Param}
use Rattle.java_tree.specs.Syntax.{Expression, IntLit, ThisRef, NameRef, FieldOf, CallOn, NewOf, no_more, and_more, LocalOf, AssignOf, DoOf, ReturnOf, Statements, no_statements, and_then, FieldTree, MethodTree, DeclTree, ClassTree}
use Rattle.java_core.specs.Classes.{below, member_field, field_of, declaration_of, search_order, super_method}
use Rattle.java_core.specs.Types.{call_signature, super_signature, field_in, access_type}
use Rattle.fact_model.specs.declared.facts.Facts.{Facts}
use Rattle.fact_model.specs.declared.facts.ColKind.TheVariants.{Fld, Dcl, Def}
use Rattle.flow_rules.specs.Operands.{type_in}
use Rattle.flow_rules.specs.Parts.{parts_of}
use Rattle.flow_rules.specs.Numbered.{rows_of, columns_of, sites_of, bodies_of, row_number, column_number, site_number}
use Rattle.flow_rules.specs.Facts.{numbers}
use Rattle.rebuild_model.specs.Renaming.{renaming_of}
use Rattle.rebuild_model.proofs.Worked.{listed}
use Rattle.rebuild_model.proofs.WorkedMake.{old, hierarchy}
use Rattle.write_model.specs.Names.{nowhere, id, modifier}
use Rattle.write_model.specs.Written.{java_tree}
use Rattle.write_model.proofs.Small.{column, site, type, an_head, main_tree}

abbrev facts : Facts → Facts
facts others = record others {
  columns = listed others.columns (column Fld 1 None (codes "f") ∷ column Dcl 1 (Some 0) (codes "init_A") ∷ column Def 1 (Some 0) (codes "init_A") ∷ [])
      (lit≤ tt);
  sites = listed others.sites (site 2 1 ∷ []) (lit≤ tt);
}

abbrev an_A : TypeName
an_A = type (base.Named (codes "A_0"))

abbrev named : List ℕ → Expression
named x = NameRef x nowhere

abbrev the_x : Param
the_x = record { is_final = false; ty = type base.Int; name = codes "x"; place = nowhere }

-- what the constructor has become, what main has, and what makes the object
abbrev keeping : Statements
keeping = and_then (AssignOf (FieldOf (ThisRef nowhere) (codes "f") nowhere) (named (codes "x")) nowhere) no_statements

abbrev main_code : Statements
main_code =
    and_then (LocalOf false an_A (codes "a") (Some (CallOn (named (codes "Makers")) (codes "make_0") (and_more (IntLit (pos 7) nowhere) no_more) nowhere))
    nowhere) no_statements

abbrev making : Statements
making =
    and_then (LocalOf false an_A (codes "made") (Some (NewOf (id (codes "A_0")) no_more nowhere)) nowhere)
    (and_then (DoOf (CallOn (named (codes "made")) (codes "init_A") (and_more (named (codes "x")) no_more) nowhere) nowhere)
    (and_then (ReturnOf (Some (named (codes "made"))) nowhere) no_statements))

abbrev expected : List DeclTree
expected =
    ClassTree [] (codes "A_0") None [] (FieldTree [] (type base.Int) (codes "f") nowhere
    ∷ MethodTree (an_head (modifier Public ∷ []) None (codes "init_A") (the_x ∷ [])) (Some keeping) nowhere ∷ []) nowhere
    ∷ main_tree main_code
    ∷ ClassTree [] (codes "Makers") None [] (MethodTree (an_head (modifier Public ∷ modifier Static ∷ []) (Some an_A) (codes "make_0") (the_x ∷ []))
    (Some making) nowhere ∷ []) nowhere ∷ []

tree : (others : Facts) → java_tree old (facts others) hierarchy ≡ expected
unfolding java_tree renaming_of numbers rows_of row_number columns_of column_number sites_of bodies_of site_number parts_of type_in call_signature
    super_signature field_in access_type below member_field field_of declaration_of search_order super_method digits lib.Utf8.encode
tree others = refl
