-- What a tree resolves to, whole: a formed program where no condition holds, or a condition that holds.
use Rattle.std.proofs.Common.{◌≡◌, ℕ, List, Some, refl, sym, subst}
use Rattle.std.specs.Prelude.{slice_get}
use Rattle.java_tree.specs.Syntax.{DeclTree}
use Rattle.java_core.specs.Programs.{Plain}
use Rattle.java_core.specs.Formed.{HasSmallNumbers, IsFormed}
use Rattle.name_laws.specs.Known.{KnownClass}
use Rattle.name_laws.specs.Answers.{with}
use Rattle.name_laws.specs.Classes.{known_of, classes_of, above_of, loops_of}
use Rattle.name_laws.specs.Members.{members_of, clashes_of, main_of}
use Rattle.name_laws.specs.Resolved.{with_bodies, resolved}
use Rattle.name_laws.specs.Resolved as resolved_by
use Rattle.name_rules.specs.Outline.{fields_in, outline}
use Rattle.java_tree.specs.Formed.{IsFormedTree}
use Rattle.name_rules.specs.Resolves.{Resolves}
use Rattle.name_rules.specs.Conditions.{ConditionAt}
use Rattle.name_rules.specs.Causes.{HasNoCondition}
use Rattle.name_laws.proofs.Sees.{Tells, tell}
use Rattle.name_laws.proofs.KnownTypes.{AreKnown, known-tells}
use Rattle.name_laws.proofs.KnownClasses.{HasSupers, classes-tells, classes-outline}
use Rattle.name_laws.proofs.Reached.{above-tells, loops-tells}
use Rattle.name_laws.proofs.AllMembers.{members-tells}
use Rattle.name_laws.proofs.MethodClashes.{clashes-tells, main-tells, outline-met}
use Rattle.name_laws.proofs.SeesOutline.{sees-outline}
use Rattle.name_laws.proofs.MethodBodies.{bodies-tells}
use Rattle.name_laws.proofs.Bridge.{Steps, P, program-resolves}
use Rattle.name_laws.proofs.FormedWhole.{is-formed}
use Rattle.name_laws.proofs.ExcludesWhole.{none-holds}

-- what a tree resolves to is its program, formed where its numbers fit, and no condition holds of the tree; else one does
pub record ResolvesFormed (tree : List DeclTree) (P : Plain) : Type 0 where
  pub resolves : Resolves tree P
  pub formed : HasSmallNumbers P → IsFormed P
  pub none : HasNoCondition tree

goes-through : (tree : List DeclTree) (s : Steps tree) → ResolvesFormed tree (P tree s)
goes-through tree s = record { resolves = program-resolves tree s; formed = is-formed tree s; none = none-holds tree s }

pub resolved-formed : (tree : List DeclTree) → IsFormedTree tree → Tells (ResolvesFormed tree) (ConditionAt tree) (resolved tree)
unfolding resolved
resolved-formed tree formed =
    tell (ResolvesFormed tree) (ConditionAt tree) (known_of tree) _ (known-tells tree)
    (λ known are. tell (ResolvesFormed tree) (ConditionAt tree) (classes_of known tree) _ (classes-tells tree known are)
    (λ cs classes. subst (λ z. Tells (ResolvesFormed tree) (ConditionAt tree)
    (with (above_of z) (λ rows. with (loops_of rows z) (λ _. with (members_of known tree) (λ m. with_bodies tree known z rows m)))))
    (sym (classes-outline tree known are cs classes)) (from-classes known are classes.supers))
    (λ r q. q))
    (λ r q. q)
  where
    from-classes : (known : List KnownClass) (are : AreKnown tree known) → ((i : ℕ) (d : DeclTree) → slice_get tree i ≡ Some d → HasSupers tree d)
        → Tells (ResolvesFormed tree) (ConditionAt tree) (with (above_of (outline tree).classes) (λ rows. with (loops_of rows (outline tree).classes)
        (λ _. with (members_of known tree) (λ m. with_bodies tree known (outline tree).classes rows m))))
    from-classes known are supers =
        tell (ResolvesFormed tree) (ConditionAt tree) (above_of (outline tree).classes) _ (above-tells (outline tree))
        (λ rows above. tell (ResolvesFormed tree) (ConditionAt tree) (loops_of rows (outline tree).classes) _ (loops-tells tree rows above)
        (λ number loops. tell (ResolvesFormed tree) (ConditionAt tree) (members_of known tree) _ (members-tells tree known are formed)
        (λ m members. tell (ResolvesFormed tree) (ConditionAt tree) (clashes_of rows m.headings) _ (clashes-tells tree known are rows above
        (fields_in tree) m members)
        (λ count clash. tell (ResolvesFormed tree) (ConditionAt tree) (main_of m.headings) _ (main-tells tree known are rows above (fields_in tree) m members)
        (λ i main. tell (ResolvesFormed tree) (ConditionAt tree) (resolved_by.methods_of (resolved_by.table known (outline tree).classes rows m) tree) _
        (bodies-tells tree known are (resolved_by.table known (outline tree).classes rows m) refl
        (sees-outline tree known are rows above m members supers loops (outline-met tree known are rows above (fields_in tree) m members clash)) formed members.count
        (λ i h x e f. let d = members.heads i h x e f in (d.owner, d.place)))
        (λ ks w. goes-through tree (record {
          formed = formed;
          known = known;
          are = are;
          supers = supers;
          rows = rows;
          above = above;
          number = number;
          loops = loops;
          draft = m;
          members = members;
          count = count;
          clash = clash;
          main = i;
          first = main;
          methods = ks;
          last = w.0;
          written = w.1;
        }))
        (λ r q. q))
        (λ r q. q))
        (λ r q. q))
        (λ r q. q))
        (λ r q. q))
        (λ r q. absurd q)
