-- The classes of a tree that is not refused are those of the tree.
use Rattle.std.proofs.Common.{◌≡◌, List, Ok, subst}
use Rattle.java_tree.specs.Syntax.{DeclTree}
use Rattle.java_core.specs.Programs.{PlainClass}
use Rattle.name_rules.specs.Conditions.{ConditionAt}
use Rattle.name_rules.specs.Outline.{classes_alone}
use Rattle.name_laws.specs.Known.{KnownClass}
use Rattle.name_laws.specs.Classes.{known_of, classes_of}
use Rattle.name_laws.proofs.Sees.{Tells}
use Rattle.name_laws.proofs.KnownTypes.{AreKnown, known-tells}
use Rattle.name_laws.proofs.KnownClasses.{AreClasses, classes-tells}

pub classes_are : (tree : List DeclTree) (known : List KnownClass) (cs : List PlainClass) → known_of tree ≡ Ok known → classes_of known tree ≡ Ok cs
    → cs ≡ (classes_alone tree).classes
classes_are tree known cs k c =
    let are = subst (Tells (AreKnown tree) (ConditionAt tree)) k (known-tells tree) in
    (subst (Tells (AreClasses tree known are tree) (ConditionAt tree)) c (classes-tells tree known are)).same
