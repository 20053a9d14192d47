-- An overriding method that calls super, and the program that is written of its hierarchy: class A { int f; int m() { return this.f; } }, class B
-- extends A { int m() { return super.m() + 1; } }, and a main with A x = new B() that prints x.m().
use Rattle.std.proofs.Common.{◌≡◌, true, false, List, [], ◌∷◌, refl, lit≤}
use Rattle.std.specs.Prelude.{pos, Some, None, codes}
use Rattle.kaba_base.specs.declared.words.Keyword.TheVariants.{Public, Abstract}
use Rattle.java_lex.specs.declared.Mark.TheVariants as marks
use Rattle.java_tree.specs.declared.TypeBase.TheVariants as base
use Rattle.java_tree.specs.Syntax.{IntLit, ThisRef, NameRef, FieldOf, CallOn, SuperCallOf, NewOf, BinaryOf, no_more, LocalOf, PrintOf, ReturnOf, no_statements, and_then, FieldTree, MethodTree, DeclTree, ClassTree, InterfaceTree}
use Rattle.java_core.specs.declared.TyBase.TheVariants as ty
use Rattle.java_core.specs.declared.BinOp.TheVariants as bin
use Rattle.java_core.specs.declared.Op.TheVariants as op
use Rattle.java_core.specs.Trees.{number, this, local, field, call, super_call, create, binary, no_ex, declare, print, return, no_st, st_then}
use Rattle.java_core.specs.Programs.{Plain, PlainMethod}
use Rattle.java_core.specs.Classes.{below, member_field, field_of, declaration_of, search_order, super_method}
use Rattle.java_core.specs.Types.{call_signature, super_signature, field_in, access_type}
use Rattle.fact_model.specs.declared.facts.Facts.{Facts}
use Rattle.fact_model.specs.declared.facts.ColKind.TheVariants.{Fld, Dcl, Def}
use Rattle.hier_model.specs.Hierarchies.{Hierarchy, node}
use Rattle.flow_rules.specs.Operands.{type_in}
use Rattle.flow_rules.specs.Parts.{parts_of}
use Rattle.flow_rules.specs.Numbered.{rows_of, columns_of, sites_of, bodies_of, row_number, column_number, site_number}
use Rattle.flow_rules.specs.Facts.{numbers}
use Rattle.rebuild_model.specs.Renaming.{renaming_of}
use Rattle.write_model.specs.Names.{nowhere, id, modifier}
use Rattle.write_model.specs.Written.{java_tree}
use Rattle.write_model.proofs.Small.{plain, under, a_field, a_method, a_main, column, site, hierarchy, at_node, type, an_head, main_tree}
use Rattle.rebuild_model.proofs.Worked.{listed, place as at, class, variable}

abbrev the_main : PlainMethod
the_main =
    a_main 3 (variable (codes "x") (plain (ty.Class (record { 0 = 1 }))) 100 ∷ [])
    (st_then (declare (at 100) 1 (Some (create (at 104) 0 2 no_ex)))
    (st_then (print (at 110) true (Some (call (at 122) (local (at 120) 1) (codes "m") no_ex))) no_st))

abbrev program : Plain
program =
    record {
      classes = class (codes "Object") None 0 ∷ class (codes "A") (under 0) 6 ∷ class (codes "B") (under 1) 50 ∷ class (codes "Main") (under 0) 80 ∷ [];
      fields = a_field 1 (codes "f") (plain ty.Int) 20 ∷ [];
      methods = a_method 1 (codes "m") 0 (Some (plain ty.Int)) 30 (st_then (return (at 36) (Some (field (at 42) (this (at 40)) (codes "f")))) no_st)
          ∷ a_method 2 (codes "m") 0 (Some (plain ty.Int)) 60
          (st_then (return (at 66) (Some (binary (at 74) (bin.Int op.Plus) (super_call (at 70) (codes "m") no_ex) (number (at 76) (pos 1)))))
          no_st)
          ∷ the_main ∷ [];
      slots = record { name = codes "m"; params = []; result = Some (plain ty.Int); first = 0 } ∷ [];
      main = 2;
    }

-- the nodes: 0 with the declaration of m in A, 1 with the field and the body of A, 2 with the members of B
abbrev nodes : Hierarchy
nodes =
    hierarchy (true ∷ true ∷ true ∷ []) ((true ∷ false ∷ false ∷ []) ∷ (true ∷ true ∷ false ∷ []) ∷ (true ∷ true ∷ true ∷ []) ∷ [])
    (at_node 1 ∷ at_node 0 ∷ at_node 1 ∷ at_node 2 ∷ at_node 2 ∷ []) (node 1 ∷ node 2 ∷ node 0 ∷ node 2 ∷ [])
    (codes "A_0" ∷ codes "A_1" ∷ codes "B_2" ∷ []) (codes "f" ∷ codes "m" ∷ codes "m" ∷ codes "m" ∷ codes "m" ∷ [])

abbrev facts : Facts → Facts
facts others = record others {
  columns = listed others.columns (column Fld 1 None (codes "f") ∷ column Dcl 1 (Some 0) (codes "m") ∷ column Def 1 (Some 0) (codes "m")
      ∷ column Dcl 2 (Some 0) (codes "m") ∷ column Def 2 (Some 0) (codes "m") ∷ []) (lit≤ tt);
  sites = listed others.sites (site 3 2 ∷ []) (lit≤ tt);
}

abbrev expected : List DeclTree
expected =
    InterfaceTree [] (codes "A_0") [] (an_head [] (Some (type base.Int)) (codes "m") [] ∷ []) nowhere
    ∷ ClassTree (modifier Abstract ∷ []) (codes "A_1") None (id (codes "A_0") ∷ [])
    (FieldTree [] (type base.Int) (codes "f") nowhere
    ∷ MethodTree (an_head (modifier Public ∷ []) (Some (type base.Int)) (codes "m") [])
    (Some (and_then (ReturnOf (Some (FieldOf (ThisRef nowhere) (codes "f") nowhere)) nowhere) no_statements)) nowhere ∷ []) nowhere
    ∷ ClassTree [] (codes "B_2") (Some (id (codes "A_1"))) []
    (MethodTree (an_head (modifier Public ∷ []) (Some (type base.Int)) (codes "m") [])
    (Some (and_then (ReturnOf (Some (BinaryOf marks.Plus (SuperCallOf (codes "m") no_more nowhere) (IntLit (pos 1) nowhere) nowhere)) nowhere)
    no_statements)) nowhere ∷ []) nowhere
    ∷ main_tree (and_then (LocalOf false (type (base.Named (codes "A_0"))) (codes "x") (Some (NewOf (id (codes "B_2")) no_more nowhere)) nowhere)
    (and_then (PrintOf true (Some (CallOn (NameRef (codes "x") nowhere) (codes "m") no_more nowhere)) nowhere) no_statements))
    ∷ []

tree : (others : Facts) → java_tree program (facts others) nodes ≡ expected
unfolding java_tree renaming_of numbers rows_of row_number columns_of column_number sites_of bodies_of site_number parts_of type_in call_signature
    super_signature field_in
    access_type below member_field field_of declaration_of search_order super_method
tree others = refl
