-- What is known of the written tree, from what is known of the program, its facts and the hierarchy.
use Rattle.std.proofs.Common.{◌≡◌, ℕ, List, ◌++◌, Result, Ok, Err, OnOk, refl, subst}
use Rattle.std.specs.Str.{encode_utf8_all}
use Rattle.java_tree.specs.Syntax.{DeclTree}
use Rattle.java_tree.specs.Formed.{IsFormedTree, IsGiven, IsReadAs}
use Rattle.java_print.specs.Layout.{tree_text}
use Rattle.java_core.specs.declared.Program.{Program}
use Rattle.java_core.specs.Programs.{program_of}
use Rattle.java_core.specs.Formed.{IsFormed}
use Rattle.java_core.specs.Typing.{IsTyped}
use Rattle.name_rules.specs.declared.Refusal.{Refusal}
use Rattle.name_rules.specs.declared.Refusal.TheVariants.{Unknown, Twice, Loop, Overload, TwoKinds, PrivateReused, NoMain, NotInProfile, Memory}
use Rattle.name_rules.specs.Causes.{IsCause, HasNoCondition}
use Rattle.name_rules.specs.Resolves.{Resolves}
use Rattle.fact_model.specs.declared.facts.Facts.{Facts}
use Rattle.hier_model.specs.Hierarchies.{Hierarchy}
use Rattle.rebuild_laws.specs.types.Laws.{IsRebuildable}
use Rattle.write_laws.specs.given.Laws.{TreeIsFormed, TreeIsGiven}
use Rattle.write_laws.proofs.given.Law.{tree_is_formed, tree_is_given}
use Rattle.write_laws.specs.names.Laws.{TreeResolves}
use Rattle.write_laws.proofs.names.Law.{tree_resolves}
use Rattle.write_laws.specs.runs.Laws.{WrittenRuns}
use Rattle.write_laws.proofs.runs.Whole.{written_runs}
use Rattle.flow_program.specs.Known.{AreProgramFacts}
use Rattle.java_write.specs.Written.{HasText, IsUnbroken, IsWrittenText, Appends, tree_of_hierarchy}

-- want of memory is the one refusal of a tree on which no condition holds
pub only_memory : (tree : List DeclTree) (r : Refusal) → HasNoCondition tree → IsCause tree r → r ≡ Memory
only_memory tree (Unknown name p) none h = absurd (none (Unknown name p) h)
only_memory tree (Twice name p) none h = absurd (none (Twice name p) h)
only_memory tree (Loop name p) none h = absurd (none (Loop name p) h)
only_memory tree (Overload name p) none h = absurd (none (Overload name p) h)
only_memory tree (TwoKinds name p) none h = absurd (none (TwoKinds name p) h)
only_memory tree (PrivateReused name p) none h = absurd (none (PrivateReused name p) h)
only_memory tree NoMain none h = absurd (none NoMain h)
only_memory tree (NotInProfile form p) none h = absurd (none (NotInProfile form p) h)
only_memory tree Memory none h = refl

-- where two things hold of an answer, a third does that follows
pub on_both : {A E : Type 0} (r : Result A E) (X Y Z : Type 0) → (X → Y → Z) → OnOk r X → OnOk r Y → OnOk r Z
on_both (Ok a) X Y Z f x y = f x y
on_both (Err e) X Y Z f x y = tt

module _ (p : Program) (F : Facts) (H : Hierarchy)
    (formed : IsFormed (program_of p)) (typed : IsTyped (program_of p))
    (facts : AreProgramFacts (program_of p) F) (unbroken : IsUnbroken F H)
  where
    ready : IsRebuildable (program_of p) F unbroken.sets unbroken.table H
    ready = record {
      formed = formed;
      typed = typed;
      facts = facts.is;
      in_range = facts.in_range;
      in_order = facts.in_order;
      sets = unbroken.are;
      table = unbroken.is;
      hierarchy = unbroken.hierarchy;
      unbroken = unbroken.unbroken;
    }

    pub hierarchy_formed : IsFormedTree (tree_of_hierarchy p F H)
    unfolding TreeIsFormed
    hierarchy_formed = tree_is_formed (program_of p) F unbroken.sets unbroken.table H ready

    pub hierarchy_given : IsGiven (tree_of_hierarchy p F H)
    unfolding TreeIsGiven
    hierarchy_given = tree_is_given (program_of p) F unbroken.sets unbroken.table H ready

    pub hierarchy_named : HasNoCondition (tree_of_hierarchy p F H)
    unfolding TreeResolves
    hierarchy_named =
        tree_resolves (program_of p) F unbroken.sets H
        (record { formed = formed; facts = facts.is; words = facts.names; hierarchy = unbroken.hierarchy; unbroken = unbroken.unbroken })

    -- the text of the tree, where it is read as the tree and the tree resolves to a program
    pub is_written : (text : HasText p) (new : Program) → Resolves (tree_of_hierarchy p F H) (program_of new) → IsFormed (program_of new)
        → IsReadAs (encode_utf8_all (tree_text (tree_of_hierarchy p F H))) (tree_of_hierarchy p F H)
        → IsWrittenText p F H (encode_utf8_all (tree_text (tree_of_hierarchy p F H)))
    unfolding WrittenRuns
    is_written text new resolves formed_new read = record {
      layout = refl;
      read = read;
      none = hierarchy_named;
      new = new;
      resolves = resolves;
      formed = formed_new;
      keeps = written_runs text.declarations (program_of p) (program_of new) F unbroken.sets unbroken.table H text.resolves ready resolves formed_new;
    }

    -- appended
    pub appends : (text : HasText p) (new : Program) (tree : List DeclTree) (before now : List ℕ) → tree ≡ tree_of_hierarchy p F H
        → Resolves tree (program_of new) → IsFormed (program_of new)
        → now ≡ before ++ encode_utf8_all (tree_text tree) → IsReadAs (encode_utf8_all (tree_text tree)) tree → Appends p F H before now
    appends text new tree before now same resolves formed_new made read =
        let t = tree_of_hierarchy p F H in
        record {
          text = encode_utf8_all (tree_text t);
          appended = subst (λ d. now ≡ before ++ encode_utf8_all (tree_text d)) same made;
          is = is_written text new (subst (λ d. Resolves d (program_of new)) same resolves) formed_new
              (subst (λ d. IsReadAs (encode_utf8_all (tree_text d)) d) same read);
        }
