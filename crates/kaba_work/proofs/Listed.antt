-- Trees in lists are the lists of the trees.
use Rattle.std.proofs.Common.{◌≡◌, ℕ, List, [], ◌∷◌, ◌++◌, map, refl, ap, ◌∙◌}
use Rattle.std.specs.List.{range_with_len, flat_map}
use Rattle.std.proofs.lemmas.List.{map-append}
use Rattle.java_tree.specs.declared.Stmt.{Stmt}
use Rattle.java_tree.specs.declared.Decl.{Decl}
use Rattle.java_tree.specs.Syntax.{and_then, stmt_of, stmts, decl_of, decls}
use Rattle.kaba_work.specs.Sample.{steps, statements, main_body, class_tree, main_tree, sample_tree}

stmts_mapped : (ss : List Stmt) → stmts ss ≡ statements (map stmt_of ss)
stmts_mapped [] = refl
stmts_mapped (s ∷ ss) = ap (and_then (stmt_of s)) (stmts_mapped ss)

decls_mapped : (ds : List Decl) → decls ds ≡ map decl_of ds
decls_mapped [] = refl
decls_mapped (d ∷ ds) = ap (λ xs. decl_of d ∷ xs) (decls_mapped ds)

pub is_main_body : (ss : List Stmt) (i n : ℕ) → map stmt_of ss ≡ flat_map steps (range_with_len 0 i) → i ≡ n → stmts ss ≡ main_body n
unfolding main_body
is_main_body ss i n h e = stmts_mapped ss ∙ ap statements h ∙ ap (λ k. statements (flat_map steps (range_with_len 0 k))) e

pub is_sample : (old new : List Decl) (d : Decl) (i n : ℕ) → map decl_of old ≡ map class_tree (range_with_len 0 i) → i ≡ n → new ≡ old ++ d ∷ []
    → decl_of d ≡ main_tree n
    → decls new ≡ sample_tree n
unfolding sample_tree
is_sample old new d i n h e push given =
    decls_mapped new ∙ ap (map decl_of) push ∙ map-append decl_of old (d ∷ [])
    ∙ ap (λ xs. xs ++ decl_of d ∷ []) (h ∙ ap (λ k. map class_tree (range_with_len 0 k)) e)
    ∙ ap (λ x. map class_tree (range_with_len 0 n) ++ x ∷ []) given
