-- One parameter more that is passed on.
use Rattle.std.proofs.Common.{◌≡◌, ℕ, ◌+◌, ◌<◌, List, [], ◌∷◌, ◌++◌, length, map, drop, get_or, sym, ap, ◌∙◌}
use Rattle.kaba_base.proofs.ListLemmas.{drop_at}
use Rattle.java_tree.specs.declared.Expr.{Expr}
use Rattle.java_tree.specs.Syntax.{Expression, Expressions, NameRef, and_more, expr_of, exprs}
use Rattle.java_tree.proofs.Appended.{append_exprs, exprs_push}
use Rattle.java_core.specs.declared.Local.{Local}
use Rattle.java_core.specs.Programs.{local_seen}
use Rattle.write_model.specs.Names.{nowhere}
use Rattle.write_model.specs.Members.{passed}

pub passed_next : {o : Expressions} (done pushed : List Expr) (list : List Local) (n : ℕ) (v : Local) (e : Expr) → n < length list → v ≡ get_or list n v
    → expr_of e ≡ NameRef v.name nowhere → pushed ≡ done ++ e ∷ [] → append_exprs (exprs done) (passed (map local_seen (drop n list))) ≡ o
    → append_exprs (exprs pushed) (passed (map local_seen (drop (n + 1) list))) ≡ o
passed_next done pushed list n v e below at given push before =
    let rest = passed (map local_seen (drop (n + 1) list)) in
    ap (λ x. append_exprs (exprs x) rest) push
    ∙ exprs_push done e rest
    ∙ ap (λ (x : Expression). append_exprs (exprs done) (and_more x rest)) given
    ∙ ap (λ (x : List Local). append_exprs (exprs done) (passed (map local_seen x))) (sym (drop_at list n v below at))
    ∙ before
