-- The laws: programs of one tree are one, places aside.
use Rattle.std.proofs.Common.{◌≡◌, ◌<◌, List, length, Result, Ok, Err, sym, ap, ◌∙◌, subst}
use Rattle.std.proofs.lemmas.List.{length-map}
use Rattle.java_tree.specs.Syntax.{DeclTree}
use Rattle.java_tree.specs.Places.{unplaced}
use Rattle.java_tree.specs.Declarations.{Derives}
use Rattle.java_parse.proofs.CompleteDeclarations.{one_derived}
use Rattle.java_tree.specs.Formed.{IsFormedTree}
use Rattle.java_tree.proofs.Gives.{given_formed}
use Rattle.java_core.specs.Programs.{Plain}
use Rattle.java_core.specs.Formed.{HasSmallNumbers}
use Rattle.name_rules.specs.declared.Refusal.{Refusal}
use Rattle.name_rules.specs.Conditions.{ConditionAt}
use Rattle.name_rules.specs.Resolves.{Resolves}
use Rattle.name_rules.specs.Causes.{HasNoCondition}
use Rattle.java_core.specs.Untagged.{untag_class, untag_field, untag_method, untagged}
use Rattle.name_laws.specs.Resolved.{resolved}
use Rattle.name_laws.proofs.Sees.{Tells}
use Rattle.name_laws.proofs.Whole.{ResolvesFormed, resolved-formed}
use Rattle.name_laws.proofs.OnlyWhole.{only}
use Rattle.name_place_laws.specs.Laws.{NoConditionAside, NoConditionKept, PlacesAside, HasNoPlaces, HasOneProgram, HasProgramAside}
use Rattle.name_place_laws.proofs.Conditions.{no_condition}
use Rattle.name_place_laws.proofs.ConditionsKept.{no_condition_placed}
use Rattle.name_place_laws.proofs.Resolved.{resolves-bare}

pub no_condition_aside : NoConditionAside
unfolding NoConditionAside
no_condition_aside tree none = no_condition tree none

pub no_condition_kept : NoConditionKept
unfolding NoConditionKept
no_condition_kept tree none = no_condition_placed tree none

-- two programs of one tree are one, tags aside: without places the tree resolves to both without tags
bare_only : (tree other : List DeclTree) (P Q : Plain) → unplaced tree ≡ unplaced other → IsFormedTree (unplaced other) → HasNoCondition other
    → Resolves tree P → Resolves other Q → untagged P ≡ untagged Q
bare_only tree other P Q same formed none p q =
    only (unplaced other) formed (no_condition other none) (untagged P) (untagged Q)
    (subst (λ z. Resolves z (untagged P)) same (resolves-bare tree P p)) (resolves-bare other Q q)

pub places_aside : PlacesAside
unfolding PlacesAside
places_aside tree other P Q same given none a b = bare_only tree other P Q same (given_formed other given) none a b

pub has_no_places : HasNoPlaces
unfolding HasNoPlaces
has_no_places tree P bare given none a =
    only (unplaced tree) (given_formed tree given) (no_condition tree none) (untagged P) P
    (resolves-bare tree P a) (subst (λ z. Resolves z P) (sym bare) a)

pub has_one_program : HasOneProgram
unfolding HasOneProgram PlacesAside
has_one_program bytes tree other P Q read again none a b =
    let e : read.tokens ≡ again.tokens = cc (sym read.lexed ∙ again.lexed) in
    places_aside tree other P Q (one_derived again.tokens tree other (subst (λ z. Derives z tree) e read.derived) again.derived)
    (record { bytes = bytes; read = again }) none a b

-- a tree that no condition refuses resolves to a program
told : (tree : List DeclTree) (r : Result Plain Refusal) → Tells (ResolvesFormed tree) (ConditionAt tree) r → HasNoCondition tree
    → (P : Plain) × ResolvesFormed tree P
told tree (Ok P) t none = (P, t)
told tree (Err r) t none = absurd (none r t)

-- programs that are one, places aside, have as many of each
counted : (P Q : Plain) → untagged P ≡ untagged Q → HasSmallNumbers Q → HasSmallNumbers P
counted P Q e c = record {
  classes = subst (λ n. n < 4294967295) (sym (length-map Q.classes untag_class) ∙ sym (ap (λ z. length z.classes) e) ∙ length-map P.classes untag_class)
      c.classes;
  fields = subst (λ n. n < 4294967295) (sym (length-map Q.fields untag_field) ∙ sym (ap (λ z. length z.fields) e) ∙ length-map P.fields untag_field) c.fields;
  methods = subst (λ n. n < 4294967295) (sym (length-map Q.methods untag_method) ∙ sym (ap (λ z. length z.methods) e) ∙ length-map P.methods untag_method)
      c.methods;
  slots = subst (λ n. n < 4294967295) (sym (ap (λ z. length z.slots) e)) c.slots;
}

pub has_program_aside : HasProgramAside
unfolding HasProgramAside
has_program_aside tree other Q same given formed none resolves count =
    let free : HasNoCondition tree = no_condition_placed tree (subst HasNoCondition (sym same) (no_condition other none)) in
    let t = told tree (resolved tree) (resolved-formed tree formed) free in
    let one : untagged t.0 ≡ untagged Q =
    sym (bare_only other tree Q t.0 (sym same) (given_formed tree given) free resolves t.1.resolves) in
    (t.0, record { resolves = t.1.resolves; none = free; formed = t.1.formed (counted t.0 Q one count); same = one })
