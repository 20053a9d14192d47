-- One item more at the end of a list of trees.
use Rattle.std.proofs.Common.{◌≡◌, List, [], ◌∷◌, ◌++◌, refl, ap}
use Rattle.java_tree.specs.declared.Head.{Head}
use Rattle.java_tree.specs.declared.Member.{Member}
use Rattle.java_tree.specs.declared.Decl.{Decl}
use Rattle.java_tree.specs.Syntax.{head_of, heads, member_of, members, decl_of, decls}

pub heads_push : (xs : List Head) (x : Head) → heads (xs ++ x ∷ []) ≡ heads xs ++ head_of x ∷ []
heads_push [] x = refl
heads_push (y ∷ ys) x = ap (λ r. head_of y ∷ r) (heads_push ys x)

pub members_push : (xs : List Member) (x : Member) → members (xs ++ x ∷ []) ≡ members xs ++ member_of x ∷ []
members_push [] x = refl
members_push (y ∷ ys) x = ap (λ r. member_of y ∷ r) (members_push ys x)

pub decls_push : (xs : List Decl) (x : Decl) → decls (xs ++ x ∷ []) ≡ decls xs ++ decl_of x ∷ []
decls_push [] x = refl
decls_push (y ∷ ys) x = ap (λ r. decl_of y ∷ r) (decls_push ys x)
