-- What `resolve` answers, from what the rules make of the tree.
use Rattle.std.proofs.Common.{◌≡◌, List, Result, Ok, Err, Bool, true, arith, subst, length, ◌<◌}
use Rattle.std.proofs.lemmas.List.{length-map}
use Rattle.std.specs.Bool.{OnTrue}
use Rattle.java_tree.specs.Syntax.{DeclTree}
use Rattle.java_tree.specs.Formed.{IsFormedTree}
use Rattle.java_core.specs.declared.Program.{Program}
use Rattle.java_core.specs.Programs.{Plain, program_of, class_seen, field_seen, method_seen, slot_seen}
use Rattle.java_core.specs.Formed.{HasSmallNumbers, IsFormed}
use Rattle.name_rules.specs.declared.Refusal.{Refusal}
use Rattle.name_rules.specs.declared.Refusal.TheVariants as refusals
use Rattle.name_laws.specs.Answers.{IsRefused}
use Rattle.name_laws.specs.Resolved.{resolved}
use Rattle.name_rules.specs.Resolves.{Resolves}
use Rattle.name_rules.specs.Conditions.{ConditionAt}
use Rattle.name_rules.specs.Causes.{IsCause, HasNoCondition}
use Rattle.name_laws.proofs.Sees.{Tells}
use Rattle.name_laws.proofs.Whole.{ResolvesFormed, resolved-formed}

told : (tree : List DeclTree) (o : Result Plain Refusal) → IsFormedTree tree → resolved tree ≡ o → Tells (ResolvesFormed tree) (ConditionAt tree) o
told tree o g e = subst (Tells (ResolvesFormed tree) (ConditionAt tree)) e (resolved-formed tree g)

pub resolves_ok : (tree : List DeclTree) (p : Program) → IsFormedTree tree → resolved tree ≡ Ok (program_of p) → Resolves tree (program_of p)
resolves_ok tree p g e = (told tree (Ok (program_of p)) g e).resolves

pub formed_ok : (tree : List DeclTree) (p : Program) → IsFormedTree tree → resolved tree ≡ Ok (program_of p)
    → HasSmallNumbers (program_of p) → IsFormed (program_of p)
formed_ok tree p g e c = (told tree (Ok (program_of p)) g e).formed c

pub none_ok : (tree : List DeclTree) (p : Program) → IsFormedTree tree → resolved tree ≡ Ok (program_of p) → HasNoCondition tree
none_ok tree p g e = (told tree (Ok (program_of p)) g e).none

pub cause : (tree : List DeclTree) (r : Refusal) → IsFormedTree tree → IsRefused r (resolved tree) → IsCause tree r
cause tree (refusals.Unknown n p) g e = told tree (Err (refusals.Unknown n p)) g e
cause tree (refusals.Twice n p) g e = told tree (Err (refusals.Twice n p)) g e
cause tree (refusals.Loop n p) g e = told tree (Err (refusals.Loop n p)) g e
cause tree (refusals.Overload n p) g e = told tree (Err (refusals.Overload n p)) g e
cause tree (refusals.TwoKinds n p) g e = told tree (Err (refusals.TwoKinds n p)) g e
cause tree (refusals.PrivateReused n p) g e = told tree (Err (refusals.PrivateReused n p)) g e
cause tree refusals.NoMain g e = told tree (Err refusals.NoMain) g e
cause tree (refusals.NotInProfile f p) g e = told tree (Err (refusals.NotInProfile f p)) g e
cause tree refusals.Memory g e = tt

pub counted : (p : Program) → length p.classes.items < 4294967295 → length p.fields.items < 4294967295 → length p.methods.items < 4294967295
    → length p.slots.items < 4294967295 → HasSmallNumbers (program_of p)
counted p a b c d =
    record {
      classes = omega (arith, a, length-map p.classes.items class_seen);
      fields = omega (arith, b, length-map p.fields.items field_seen);
      methods = omega (arith, c, length-map p.methods.items method_seen);
      slots = omega (arith, d, length-map p.slots.items slot_seen);
    }

pub on_true : (b : Bool) (A : Type 0) → b ≡ true → OnTrue b A → A
on_true b A e h = subst (λ x. OnTrue x A) e h
