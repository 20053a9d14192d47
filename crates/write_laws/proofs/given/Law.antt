-- The laws.
use Rattle.std.proofs.Common.{sym, subst}
use Rattle.java_print.proofs.DeclParsed.{formed_given}
use Rattle.write_model.specs.Written.{java_tree}
use Rattle.write_laws.specs.given.Laws.{TreeIsFormed, TreeIsGiven}
use Rattle.write_laws.proofs.given.Unplaced.{places_aside}
use Rattle.write_laws.proofs.given.Whole.{tree_formed}

pub tree_is_formed : TreeIsFormed
unfolding TreeIsFormed
tree_is_formed P F s t H ready = tree_formed (record { program = P; facts = F; sets = s; table = t; hierarchy = H; ready = ready })

pub tree_is_given : TreeIsGiven
unfolding TreeIsGiven TreeIsFormed
tree_is_given P F s t H ready =
    let tree = java_tree P F H in
    formed_given tree (subst (λ (A : Type 0). A) (sym (places_aside tree)) (tree_is_formed P F s t H ready))
