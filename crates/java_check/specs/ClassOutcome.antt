-- Mirror. What is answered of a class or an interface: the rule that it breaks for the slot of the first method for
-- which it breaks one.
use Rattle.std.specs.Prelude.{ℕ, suc, ◌&&◌, ◌||◌, Bool, true, false, not, List, [], ◌∷◌, Option, Some, None}
use Rattle.std.specs.Option.{option_map_or, is_some}
use Rattle.java_core.specs.Programs.{Plain, PlainClass, PlainMethod}
use Rattle.java_core.specs.Classes.{below, is_concrete, is_interface, has_body, nearest_declaration}
use Rattle.java_core.specs.Typing.{is_public_method}
use Rattle.java_check.specs.declared.Kind.{Kind}
use Rattle.java_check.specs.declared.Kind.TheVariants.{MissingBody, NotPublic}

-- the first rule that is broken of the two: a body that is missing, then a method that is not public
abbrev pub first_rule : Bool → Bool → Option Kind
first_rule true b = Some MissingBody
first_rule false true = Some NotPublic
first_rule false false = None

-- the rule that a class breaks for a slot of a type at or above it, where it breaks one
abbrev pub below_rule : Plain → ℕ → ℕ → ℕ → Bool → Option Kind
below_rule P c o s false = None
below_rule P c o s true =
    first_rule (is_concrete P c && not (option_map_or (has_body P) (nearest_declaration P c s) false))
    (not (is_interface P c) && (is_interface P o && not (is_public_method P (nearest_declaration P c s))))

-- the rule that a class breaks for the slot of a method of o, where o is at or above it
abbrev pub slot_rule : Plain → ℕ → ℕ → Option ℕ → Option Kind
slot_rule P c o None = None
slot_rule P c o (Some s) = below_rule P c o s (below P c o)

-- the rule that a class breaks for one method of the program, where it breaks one
abbrev pub method_rule : Plain → ℕ → PlainMethod → Option Kind
method_rule P c k = slot_rule P c k.owner k.slot

-- the first rule that is broken of two
abbrev pub first_some : Option Kind → Option Kind → Option Kind
first_some (Some k) o = Some k
first_some None o = o

-- the first rule that a class breaks for the methods of a list
abbrev pub class_rule : Plain → ℕ → List PlainMethod → Option Kind
class_rule P c [] = None
class_rule P c (k ∷ ks) = first_some (method_rule P c k) (class_rule P c ks)

-- whether it breaks no rule for the slot of a method without a body
abbrev pub is_quiet : Plain → ℕ → List PlainMethod → Bool
is_quiet P c [] = true
is_quiet P c (k ∷ ks) = (is_some k.body || not (is_some (method_rule P c k))) && is_quiet P c ks

-- whether none of the classes numbered from c breaks a rule for the slot of a method
abbrev pub is_kept : Plain → PlainMethod → ℕ → List PlainClass → Bool
is_kept P k c [] = true
is_kept P k c (x ∷ xs) = not (is_some (method_rule P c k)) && is_kept P k (suc c) xs

-- whether no class breaks a rule for the slot of a method without a body
abbrev pub all_quiet : Plain → List PlainMethod → Bool
all_quiet P [] = true
all_quiet P (k ∷ ks) = (is_some k.body || is_kept P k 0 P.classes) && all_quiet P ks
