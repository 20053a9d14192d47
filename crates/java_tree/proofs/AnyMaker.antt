-- Whether some member, or some class, has a constructor: asked of the lists of the program, and of their trees.
use Rattle.std.proofs.Common.{◌≡◌, List, [], ◌∷◌, ◌||◌, refl, ap}
use Rattle.std.specs.List.{list_any}
use Rattle.java_tree.specs.declared.Member.{Member}
use Rattle.java_tree.specs.declared.Decl.{Decl}
use Rattle.java_tree.specs.Syntax.{member_of, members, decl_of, decls}
use Rattle.java_tree.specs.Makers.{is_maker, declares_maker}

pub of_members : (ms : List Member) → list_any is_maker (members ms) ≡ list_any (λ m. is_maker (member_of m)) ms
of_members [] = refl
of_members (m ∷ ms) = ap (λ b. is_maker (member_of m) || b) (of_members ms)

pub of_decls : (ds : List Decl) → list_any declares_maker (decls ds) ≡ list_any (λ d. declares_maker (decl_of d)) ds
of_decls [] = refl
of_decls (d ∷ ds) = ap (λ b. declares_maker (decl_of d) || b) (of_decls ds)
