use Rattle.std.proofs.Common.{◌≡◌, sym, ◌∙◌, ap}
use Rattle.java_tree.specs.Syntax.{decls}
use Rattle.java_compare.specs.Same.{same_tree}
use Rattle.java_compare.proofs.Sameness.{decls_all}
use Rattle.java_compare.proofs.Decided.{tree_decides}
use Rattle.java_compare.proofs.compare.same.Goals as goal

pub returns : goal.returns
returns c =
    let e : c.equal_decl_lists.result ≡ same_tree (decls c.args.a.now.decls.items) (decls c.args.b.now.decls.items) = c.equal_decl_lists.ensures.value
    ∙ decls_all c.deref.result.now c.deref-2.result.now ∙ ap (λ xs. same_tree (decls xs) (decls c.deref-2.result.now)) c.deref.ensures.value
    ∙ ap (λ ys. same_tree (decls c.args.a.now.decls.items) (decls ys)) c.deref-2.ensures.value in
    let d = tree_decides (decls c.args.a.now.decls.items) (decls c.args.b.now.decls.items) in
    record { value = (λ h. d.0 (sym e ∙ h), λ h. e ∙ d.1 h) }
