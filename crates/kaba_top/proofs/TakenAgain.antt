-- A written text that does not nest too deep is that of a typed program.
use Rattle.std.proofs.Common.{◌≡◌, ℕ, ◌≤◌, List, sym, ◌∙◌, subst}
use Rattle.java_tree.specs.Nesting.{nesting_of}
use Rattle.java_tree.specs.Syntax.{DeclTree}
use Rattle.java_tree.specs.Formed.{IsReadAs}
use Rattle.java_core.specs.Programs.{Plain}
use Rattle.java_core.specs.Formed.{IsFormed}
use Rattle.java_core.specs.Typing.{IsTyped}
use Rattle.java_core.specs.Untagged.{untagged}
use Rattle.name_rules.specs.Causes.{HasNoCondition}
use Rattle.name_rules.specs.Resolves.{Resolves}
use Rattle.name_place_laws.specs.Laws.{HasProgramAside}
use Rattle.name_place_laws.proofs.Whole.{has_program_aside}
use Rattle.kaba_top.specs.TextPrograms.{most_nesting, IsTypedText}
use Rattle.write_laws.proofs.given.Read.{read_formed, read_given}
use Rattle.kaba_top.proofs.Retyped.{typed_tagged}

-- the tree with its places has the program, places aside; it is formed and typed as that is
pub taken_again : (text : List ℕ) (tree : List DeclTree) (new : Plain) (read : IsReadAs text tree) → nesting_of read.tokens ≤ most_nesting
    → HasNoCondition tree → Resolves tree new → IsFormed new → IsTyped new → untagged new ≡ new → (again : Plain) × IsTypedText text again
unfolding HasProgramAside
taken_again text tree new read nested none resolves formed typed bare =
    let placed = read.derived.placed in
    let is = has_program_aside placed tree new read.derived.same (read_given text read.tokens placed read.lexed read.derived.derived)
    (read_formed text read.tokens placed read.lexed read.derived.derived) none resolves formed.counted in
    let a = is.1 in (
      is.0,
      record {
        tree = placed;
        has = record {
          read = record {
            tokens = read.tokens;
            lexed = read.lexed;
            nested = nested;
            placed = read.derived.derived;
          };
          resolves = a.resolves;
          none = a.none;
        };
        formed = a.formed;
        typed = typed_tagged is.0 (subst IsTyped (sym (a.same ∙ bare)) typed);
      },
    )
