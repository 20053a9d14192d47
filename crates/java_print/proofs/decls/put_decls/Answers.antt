use Rattle.std.proofs.Common.{List}
use Rattle.java_print.specs.Layout.{decl_items, decls_items}
use Rattle.std.proofs.Common.{refl}
use Rattle.java_tree.specs.Syntax.{decl_of, decls}
use Rattle.java_tree.specs.declared.Decl.{Decl}
use Rattle.java_print.proofs.DeclAdding.{each_step, each_end}
use Rattle.java_print.proofs.decls.put_decls.Goals as goal

pub loop-decl-preserved : goal.loop-decl-preserved
loop-decl-preserved c = each_step (λ (ds : List Decl). decls_items (decls ds)) (λ (d : Decl). decl_items (decl_of d)) (λ x xs r. refl) _
    c.loop-decl-test.true c.decl-item.is c.loop-decl.invariant c.in_ok-put_decl.ensures.value

pub returns : goal.returns
returns c = record { value = each_end (λ (ds : List Decl). decls_items (decls ds)) _ c.loop-decl-test.false c.loop-decl.invariant }
