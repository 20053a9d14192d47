-- Two sites of one class, and the types that are written of them: class P { int a; int b; }, and a main with P x = new P(), P y = new P(), x.a = 1,
-- y.b = 2, that prints x.a + y.b, or x == y.
use Rattle.std.proofs.Common.{◌≡◌, ℕ, true, false, List, [], ◌∷◌, refl, lit≤}
use Rattle.std.specs.Prelude.{ℤ, pos, Some, None, codes}
use Rattle.java_lex.specs.declared.Mark.TheVariants as marks
use Rattle.java_tree.specs.declared.TypeBase.TheVariants as base
use Rattle.java_tree.specs.Syntax.{IntLit, NameRef, FieldOf, NewOf, BinaryOf, no_more, LocalOf, PrintOf, no_statements, and_then, Expression, Statement, AssignOf, MemberTree, FieldTree, DeclTree, ClassTree, InterfaceTree}
use Rattle.java_core.specs.declared.TyBase.TheVariants as ty
use Rattle.java_core.specs.declared.BinOp.TheVariants as bin
use Rattle.java_core.specs.declared.Op.TheVariants as op
use Rattle.java_core.specs.Trees.{number, local, field, create, binary, no_ex, declare, print, no_st, st_then, Ex, St, assign, to_field}
use Rattle.java_core.specs.Programs.{Plain}
use Rattle.java_core.specs.Classes.{below, member_field, field_of, declaration_of, search_order, super_method}
use Rattle.java_core.specs.Types.{call_signature, super_signature, field_in, access_type}
use Rattle.fact_model.specs.declared.facts.Facts.{Facts}
use Rattle.fact_model.specs.declared.facts.ColKind.TheVariants.{Fld}
use Rattle.hier_model.specs.Hierarchies.{Hierarchy, node}
use Rattle.flow_rules.specs.Operands.{type_in}
use Rattle.flow_rules.specs.Parts.{parts_of}
use Rattle.flow_rules.specs.Numbered.{rows_of, columns_of, sites_of, bodies_of, row_number, column_number, site_number}
use Rattle.flow_rules.specs.Facts.{numbers}
use Rattle.rebuild_model.specs.Renaming.{renaming_of}
use Rattle.write_model.specs.Names.{nowhere, id}
use Rattle.write_model.specs.Written.{java_tree}
use Rattle.write_model.proofs.Small.{plain, under, a_field, a_main, column, site, hierarchy, at_node, type, main_tree}
use Rattle.rebuild_model.proofs.Worked.{listed, place as at, class, variable}

abbrev sets : ℕ → ℕ → List ℕ → ℤ → St
sets p i f n = assign (at p) (to_field (at p) (local (at p) i) f) (number (at p) n)

-- the program whose main prints an expression
abbrev program : Ex → Plain
program shown =
    record {
      classes = class (codes "Object") None 0 ∷ class (codes "P") (under 0) 6 ∷ class (codes "Main") (under 0) 50 ∷ [];
      fields = a_field 1 (codes "a") (plain ty.Int) 20 ∷ a_field 1 (codes "b") (plain ty.Int) 30 ∷ [];
      methods = a_main 2 (variable (codes "x") (plain (ty.Class (record { 0 = 1 }))) 100 ∷ variable (codes "y") (plain (ty.Class (record { 0 = 1 }))) 110 ∷ [])
          (st_then (declare (at 100) 1 (Some (create (at 104) 0 1 no_ex))) (st_then (declare (at 110) 2 (Some (create (at 114) 1 1 no_ex)))
          (st_then (sets 120 1 (codes "a") (pos 1)) (st_then (sets 130 2 (codes "b") (pos 2)) (st_then (print (at 140) true (Some shown)) no_st))))) ∷ [];
      slots = [];
      main = 0;
    }

abbrev sum : Ex
sum = binary (at 144) (bin.Int op.Plus) (field (at 142) (local (at 141) 1) (codes "a")) (field (at 146) (local (at 145) 2) (codes "b"))

abbrev same : Ex
same = binary (at 144) bin.Same (local (at 141) 1) (local (at 145) 2)

-- in the first program the nodes are 0 without members, 1 with a and 2 with b; in the second 0 with a and below it 1 with b
abbrev three : Hierarchy
three =
    hierarchy (true ∷ true ∷ true ∷ []) ((true ∷ false ∷ false ∷ []) ∷ (true ∷ true ∷ false ∷ []) ∷ (true ∷ false ∷ true ∷ []) ∷ [])
    (at_node 1 ∷ at_node 2 ∷ []) (node 1 ∷ node 1 ∷ node 2 ∷ node 2 ∷ []) (codes "Object_0" ∷ codes "P_1" ∷ codes "P_2" ∷ []) (codes "a" ∷ codes "b" ∷ [])

abbrev two : Hierarchy
two =
    hierarchy (true ∷ true ∷ []) ((true ∷ false ∷ []) ∷ (true ∷ true ∷ []) ∷ [])
    (at_node 0 ∷ at_node 1 ∷ []) (node 0 ∷ node 0 ∷ node 1 ∷ node 1 ∷ []) (codes "P_0" ∷ codes "P_1" ∷ []) (codes "a" ∷ codes "b" ∷ [])

abbrev facts : Facts → Facts
facts others = record others {
  columns = listed others.columns (column Fld 1 None (codes "a") ∷ column Fld 1 None (codes "b") ∷ []) (lit≤ tt);
  sites = listed others.sites (site 1 1 ∷ site 3 1 ∷ []) (lit≤ tt);
}

abbrev an_int : List ℕ → MemberTree
an_int name = FieldTree [] (type base.Int) name nowhere

abbrev makes : List ℕ → List ℕ → Statement
makes x c = LocalOf false (type (base.Named c)) x (Some (NewOf (id c) no_more nowhere)) nowhere

abbrev stores : List ℕ → List ℕ → ℤ → Statement
stores x f n = AssignOf (FieldOf (NameRef x nowhere) f nowhere) (IntLit n nowhere) nowhere

abbrev shown_tree : List ℕ → List ℕ → Expression → DeclTree
shown_tree c d shown =
    main_tree (and_then (makes (codes "x") c) (and_then (makes (codes "y") d) (and_then (stores (codes "x") (codes "a") (pos 1))
    (and_then (stores (codes "y") (codes "b") (pos 2))
    (and_then (PrintOf true (Some shown) nowhere) no_statements)))))

apart : (others : Facts) → java_tree (program sum) (facts others) three
    ≡ InterfaceTree [] (codes "Object_0") [] [] nowhere ∷ ClassTree [] (codes "P_1") None (id (codes "Object_0") ∷ []) (an_int (codes "a") ∷ [])
    nowhere ∷ ClassTree [] (codes "P_2") None (id (codes "Object_0") ∷ []) (an_int (codes "b") ∷ []) nowhere
    ∷ shown_tree (codes "P_1") (codes "P_2") (BinaryOf marks.Plus (FieldOf (NameRef (codes "x") nowhere) (codes "a") nowhere)
    (FieldOf (NameRef (codes "y") nowhere) (codes "b") nowhere) nowhere) ∷ []
unfolding java_tree renaming_of numbers rows_of row_number columns_of column_number sites_of bodies_of site_number parts_of type_in call_signature
    super_signature field_in
    access_type below member_field field_of declaration_of search_order super_method
apart others = refl

above : (others : Facts) → java_tree (program same) (facts others) two
    ≡ ClassTree [] (codes "P_0") None [] (an_int (codes "a") ∷ []) nowhere ∷ ClassTree [] (codes "P_1") (Some (id (codes "P_0"))) []
    (an_int (codes "b") ∷ []) nowhere
    ∷ shown_tree (codes "P_0") (codes "P_1") (BinaryOf marks.Equal (NameRef (codes "x") nowhere) (NameRef (codes "y") nowhere) nowhere) ∷ []
unfolding java_tree renaming_of numbers rows_of row_number columns_of column_number sites_of bodies_of site_number parts_of type_in call_signature
    super_signature field_in
    access_type below member_field field_of declaration_of search_order super_method
above others = refl
