-- Two unrelated classes whose variables are made of one type, and the fillers that this asks for: class A { int m() { return 1; } }, class B { int
-- n() { return 2; } }, and a main with A x = new A(), B y = new B() that prints x.m() + y.n(). The nodes of x and of y are one.
use Rattle.std.proofs.Common.{◌≡◌, ℕ, true, false, List, [], ◌∷◌, refl, lit≤}
use Rattle.std.specs.Prelude.{ℤ, pos, Some, None, codes}
use Rattle.kaba_base.specs.declared.words.Keyword.TheVariants.{Public}
use Rattle.java_lex.specs.declared.Mark.TheVariants as marks
use Rattle.java_tree.specs.declared.TypeBase.TheVariants as base
use Rattle.java_tree.specs.Syntax.{IntLit, NameRef, CallOn, NewOf, BinaryOf, no_more, LocalOf, PrintOf, ReturnOf, no_statements, and_then, MemberTree, MethodTree, DeclTree, ClassTree, InterfaceTree}
use Rattle.java_core.specs.declared.TyBase.TheVariants as ty
use Rattle.java_core.specs.declared.BinOp.TheVariants as bin
use Rattle.java_core.specs.declared.Op.TheVariants as op
use Rattle.java_core.specs.Trees.{number, local, call, create, binary, no_ex, declare, print, return, no_st, st_then, Sts}
use Rattle.java_core.specs.Programs.{Plain, PlainMethod}
use Rattle.java_core.specs.Classes.{below, member_field, field_of, declaration_of, search_order, super_method}
use Rattle.java_core.specs.Types.{call_signature, super_signature, field_in, access_type}
use Rattle.fact_model.specs.declared.facts.Facts.{Facts}
use Rattle.fact_model.specs.declared.facts.ColKind.TheVariants.{Dcl, Def}
use Rattle.hier_model.specs.Hierarchies.{Hierarchy, node}
use Rattle.flow_rules.specs.Operands.{type_in}
use Rattle.flow_rules.specs.Parts.{parts_of}
use Rattle.flow_rules.specs.Numbered.{rows_of, columns_of, sites_of, bodies_of, row_number, column_number, site_number}
use Rattle.flow_rules.specs.Facts.{numbers}
use Rattle.rebuild_model.specs.Renaming.{renaming_of}
use Rattle.write_model.specs.Names.{nowhere, id, modifier}
use Rattle.write_model.specs.Written.{java_tree}
use Rattle.write_model.proofs.Small.{plain, under, a_method, a_main, column, site, hierarchy, at_node, type, an_head, main_tree}
use Rattle.rebuild_model.proofs.Worked.{listed, place as at, class, variable}

abbrev the_main : PlainMethod
the_main =
    a_main 3 (variable (codes "x") (plain (ty.Class (record { 0 = 1 }))) 100 ∷ variable (codes "y") (plain (ty.Class (record { 0 = 2 }))) 110 ∷ [])
    (st_then (declare (at 100) 1 (Some (create (at 104) 0 1 no_ex))) (st_then (declare (at 110) 2 (Some (create (at 114) 1 2 no_ex)))
    (st_then (print (at 120) true (Some (binary (at 126) (bin.Int op.Plus) (call (at 124) (local (at 122) 1) (codes "m") no_ex)
    (call (at 130) (local (at 128) 2) (codes "n") no_ex)))) no_st)))

abbrev gives : ℤ → ℕ → Sts
gives n p = st_then (return (at p) (Some (number (at p) n))) no_st

abbrev program : Plain
program =
    record {
      classes = class (codes "Object") None 0 ∷ class (codes "A") (under 0) 6 ∷ class (codes "B") (under 0) 50 ∷ class (codes "Main") (under 0) 80 ∷ [];
      fields = [];
      methods = a_method 1 (codes "m") 0 (Some (plain ty.Int)) 30 (gives (pos 1) 36) ∷ a_method 2 (codes "n") 1 (Some (plain ty.Int)) 60
          (gives (pos 2) 66) ∷ the_main ∷ [];
      slots = record { name = codes "m"; params = []; result = Some (plain ty.Int); first = 0 }
          ∷ record { name = codes "n"; params = []; result = Some (plain ty.Int); first = 1 } ∷ [];
      main = 2;
    }

-- the nodes: 1 with the declarations of m and n, 3 with the body of m, 4 with that of n; 2 became 1
abbrev nodes : Hierarchy
nodes =
    hierarchy (true ∷ true ∷ false ∷ true ∷ true ∷ [])
    ((true ∷ false ∷ false ∷ false ∷ false ∷ []) ∷ (true ∷ true ∷ false ∷ false ∷ false ∷ []) ∷ (false ∷ false ∷ false ∷ false ∷ false ∷ [])
    ∷ (true ∷ true ∷ false ∷ true ∷ false ∷ []) ∷ (true ∷ true ∷ false ∷ false ∷ true ∷ []) ∷ [])
    (at_node 1 ∷ at_node 3 ∷ at_node 1 ∷ at_node 4 ∷ []) (node 3 ∷ node 4 ∷ node 1 ∷ node 3 ∷ node 1 ∷ node 4 ∷ [])
    (codes "Object_0" ∷ codes "A_1" ∷ codes "B_2" ∷ codes "A_3" ∷ codes "B_4" ∷ []) (codes "m" ∷ codes "m" ∷ codes "n" ∷ codes "n" ∷ [])

abbrev facts : Facts → Facts
facts others = record others {
  columns = listed others.columns (column Dcl 1 (Some 0) (codes "m") ∷ column Def 1 (Some 0) (codes "m") ∷ column Dcl 2 (Some 1) (codes "n")
      ∷ column Def 2 (Some 1) (codes "n") ∷ []) (lit≤ tt);
  sites = listed others.sites (site 3 1 ∷ site 5 2 ∷ []) (lit≤ tt);
}

abbrev giving : List ℕ → ℤ → MemberTree
giving name n = MethodTree (an_head (modifier Public ∷ []) (Some (type base.Int)) name [])
    (Some (and_then (ReturnOf (Some (IntLit n nowhere)) nowhere) no_statements)) nowhere

abbrev expected : List DeclTree
expected =
    InterfaceTree [] (codes "Object_0") [] [] nowhere
    ∷ InterfaceTree [] (codes "A_1") (id (codes "Object_0") ∷ []) (an_head [] (Some (type base.Int)) (codes "m") [] ∷ an_head []
    (Some (type base.Int)) (codes "n") [] ∷ []) nowhere
    ∷ ClassTree [] (codes "A_3") None (id (codes "A_1") ∷ []) (giving (codes "m") (pos 1) ∷ giving (codes "n") (pos 0) ∷ []) nowhere
    ∷ ClassTree [] (codes "B_4") None (id (codes "A_1") ∷ []) (giving (codes "n") (pos 2) ∷ giving (codes "m") (pos 0) ∷ []) nowhere
    ∷ main_tree (and_then (LocalOf false (type (base.Named (codes "A_1"))) (codes "x") (Some (NewOf (id (codes "A_3")) no_more nowhere)) nowhere)
    (and_then (LocalOf false (type (base.Named (codes "A_1"))) (codes "y") (Some (NewOf (id (codes "B_4")) no_more nowhere)) nowhere)
    (and_then (PrintOf true (Some (BinaryOf marks.Plus (CallOn (NameRef (codes "x") nowhere) (codes "m") no_more nowhere)
    (CallOn (NameRef (codes "y") nowhere) (codes "n") no_more nowhere) nowhere)) nowhere) no_statements)))
    ∷ []

tree : (others : Facts) → java_tree program (facts others) nodes ≡ expected
unfolding java_tree renaming_of numbers rows_of row_number columns_of column_number sites_of bodies_of site_number parts_of type_in call_signature
    super_signature field_in
    access_type below member_field field_of declaration_of search_order super_method
tree others = refl
