-- What a text is read as is the program to which any tree that it derives resolves, places aside.
use Rattle.std.proofs.Common.{◌≡◌, ℕ, List, refl}
use Rattle.java_tree.specs.Syntax.{DeclTree}
use Rattle.java_tree.specs.Formed.{IsReadAs}
use Rattle.java_core.specs.Programs.{Plain}
use Rattle.java_core.specs.Untagged.{untagged}
use Rattle.name_rules.specs.Resolves.{Resolves}
use Rattle.name_place_laws.specs.Laws.{HasOneProgram}
use Rattle.name_place_laws.proofs.Whole.{has_one_program}
use Rattle.kaba_top.specs.TextPrograms.{IsTypedText}

-- the program that is read of a text is the one to which any tree that the text derives resolves, places aside
pub reads_one : (bytes : List ℕ) (tree : List DeclTree) (new again : Plain) → IsReadAs bytes tree → Resolves tree new → IsTypedText bytes again
    → untagged new ≡ untagged again
unfolding HasOneProgram
reads_one bytes tree new again read resolves is =
    let r = is.has.read in
    let read_again : IsReadAs bytes is.tree = record {
      tokens = r.tokens;
      lexed = r.lexed;
      derived = record
          { placed = is.tree; derived = r.placed; same = refl };
    } in
    has_one_program bytes tree is.tree new again read read_again is.has.none resolves is.has.resolves
