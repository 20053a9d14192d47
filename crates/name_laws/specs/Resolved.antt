-- Mirror. Which program a tree is once its names are resolved, or the first of its faults.
use Rattle.std.specs.Prelude.{ℕ, ◌+◌, ◌||◌, if◌then◌else◌, drop, Bool, true, false, List, [], ◌∷◌, ◌++◌, length, Option, Some, None, Result, Ok, slice_get, map}
use Rattle.std.specs.Option.{is_some, option_map_or}
use Rattle.kaba_base.specs.declared.Place.{Place}
use Rattle.kaba_base.specs.declared.ClassId.{ClassId}
use Rattle.java_tree.specs.declared.Modifier.{Modifier}
use Rattle.java_tree.specs.declared.Param.{Param}
use Rattle.java_tree.specs.Syntax.{Expressions, Statements, HeadTree, MemberTree, FieldTree, MethodTree, MakerTree, DeclTree, ClassTree, InterfaceTree}
use Rattle.java_core.specs.declared.Ty.{Ty}
use Rattle.java_core.specs.declared.Local.{Local}
use Rattle.java_core.specs.Trees.{at_place, Exs, no_ex, Sts, no_st, st_then}
use Rattle.java_core.specs.Makers.{maker_name, call_above}
use Rattle.java_core.specs.Programs.{PlainClass, PlainLocal, PlainMethod, Plain, local_seen, field_seen}
use Rattle.name_rules.specs.declared.Refusal.{Refusal}
use Rattle.name_laws.specs.Known.{KnownClass}
use Rattle.name_rules.specs.declared.parts.Kind.{Kind}
use Rattle.name_rules.specs.declared.parts.Kind.TheVariants as kinds
use Rattle.name_laws.specs.declared.parts.Flags.{Flags}
use Rattle.name_laws.specs.declared.parts.Heading.{Heading}
use Rattle.name_rules.specs.declared.parts.Bound.{Bound}
use Rattle.name_rules.specs.declared.parts.Here.{Here}
use Rattle.name_laws.specs.Answers.{with, run}
use Rattle.name_laws.specs.Tables.{Table, parent_of, method_in}
use Rattle.name_laws.specs.Classes.{flags_of, known_of, classes_of, above_of, loops_of}
use Rattle.name_laws.specs.Expressions.{walk_all}
use Rattle.name_laws.specs.Statements.{walk_sts}
use Rattle.name_rules.specs.Resolves.{has_arguments}
use Rattle.name_laws.specs.Members.{Members, params_of, result_of, members_of, clashes_of, main_of}

-- the parameters in scope, the first numbered k
abbrev pub bounds_from : ℕ → List Local → List Bound
bounds_from k [] = []
bounds_from k (l ∷ ls) = record { name = l.name; number = k } ∷ bounds_from (k + 1) ls

-- the slot of the method that was found, where it has one
abbrev pub slot_at : Option Heading → Option ℕ
slot_at None = None
slot_at (Some h) = h.slot

-- the locals and the body of a method, and the next free number
abbrev pub body_of : Table → Here → List Local → ℕ → Option Statements → Result (List PlainLocal × Option Sts × ℕ) Refusal
body_of t here ls k None = Ok ([], None, k)
body_of t here ls k (Some ss) =
    with (walk_sts t here false no_st (bounds_from 0 ls) (record { locals = []; count = length ls; number = k }) ss)
    (λ r. Ok (r.1.locals, Some r.0, r.1.number))

-- the methods so far, and the next free number
abbrev pub Methods : Type 0
Methods = List PlainMethod × ℕ

-- a method of these parts
abbrev pub method_of : ℕ → HeadTree → Flags → Option ℕ → List Local → Option Ty → List PlainLocal → Option Sts → PlainMethod
method_of owner h f slot ls r locals body =
    record {
      owner = owner;
      name = h.name;
      is_static = f.is_static;
      is_public = f.is_public;
      slot = slot;
      params = map local_seen ls;
      locals = locals;
      result = r;
      body = body;
      tag = at_place h.place;
    }

-- one method more
abbrev pub method_step : Table → ℕ → Kind → Methods → HeadTree → Option Statements → Result Methods Refusal
method_step t owner kind m h body =
    with (flags_of kind h.mods) (λ f. with (params_of t.known h.params) (λ ls. with (result_of t.known h.type) (λ r.
    with (body_of t (record { owner = owner; is_static = f.is_static }) ls m.1 body)
    (λ b. Ok (m.0 ++ method_of owner h f (slot_at (slice_get t.headings (length m.0))) ls r b.0 b.1 ∷ [], b.2)))))

-- ---- constructors

-- the name of the class of a number
abbrev pub class_name_in : Table → ℕ → List ℕ
class_name_in t c = option_map_or (λ k. k.name) (slice_get t.known c) []

-- whether the class of a number has a constructor
abbrev pub has_maker_in : Table → ℕ → Bool
has_maker_in t c = is_some (method_in t.headings c (maker_name (class_name_in t c)))

-- the call of the constructor of the class b, where it has one or something is passed to it
abbrev pub above_at : Table → ClassId → Place → Exs → Sts
above_at t b p es = if has_maker_in t b.0 || has_arguments es then st_then (call_above (at_place p) (class_name_in t b.0) es) no_st else no_st

-- what the code of a constructor begins with: the call of that of the superclass
abbrev pub beginning : Table → ℕ → Place → Exs → Sts
beginning t owner p es = option_map_or (λ b. above_at t b p es) (parent_of t.parents owner) no_st

-- the arguments of `super(..)`, and the next free number; nothing of the object may be named in them
abbrev pub up_of : Table → ℕ → List Local → ℕ → Option Expressions → Result (Exs × ℕ) Refusal
up_of t owner ls k None = Ok (no_ex, k)
up_of t owner ls k (Some es) = walk_all t (record { owner = owner; is_static = true }) (bounds_from 0 ls) no_ex k es

-- the locals and the code of a constructor, and the next free number
abbrev pub maker_body_of : Table → ℕ → Place → List Local → ℕ → Option Expressions → Statements → Result (List PlainLocal × Sts × ℕ) Refusal
maker_body_of t owner p ls k up ss =
    with (up_of t owner ls k up) (λ u.
    with (walk_sts t (record { owner = owner; is_static = false }) false (beginning t owner p u.0) (bounds_from 0 ls)
    (record { locals = []; count = length ls; number = u.1 }) ss)
    (λ r. Ok (r.1.locals, r.0, r.1.number)))

-- a constructor of these parts
abbrev pub maker_made : ℕ → List ℕ → Place → Option ℕ → List PlainLocal → List PlainLocal → Sts → PlainMethod
maker_made owner n p slot params locals code =
    record {
      owner = owner;
      name = maker_name n;
      is_static = false;
      is_public = true;
      slot = slot;
      params = params;
      locals = locals;
      result = None;
      body = Some code;
      tag = at_place p;
    }

-- one constructor more
abbrev pub maker_step : Table → ℕ → Methods → List Modifier → List ℕ → List Param → Option Expressions → Statements → Place → Result Methods Refusal
maker_step t owner m mods n ps up ss p =
    with (flags_of kinds.Maker mods) (λ _. with (params_of t.known ps) (λ ls. with (maker_body_of t owner p ls m.1 up ss)
    (λ b. Ok (m.0 ++ maker_made owner n p (slot_at (slice_get t.headings (length m.0))) (map local_seen ls) b.0 b.1 ∷ [], b.2))))

-- the constructor of a class that has it without writing it, by what is known of it
abbrev pub implied_made : Table → Heading → PlainMethod
implied_made t h = maker_made h.owner (class_name_in t h.owner) h.place h.slot [] [] (beginning t h.owner h.place no_ex)

-- the methods so far, and that of one more member of a class, with its body; a field gives none
abbrev pub body_step : Table → ℕ → Methods → MemberTree → Result Methods Refusal
body_step t owner m (FieldTree mods u n p) = Ok m
body_step t owner m (MethodTree h body p) = method_step t owner kinds.Method m h body
body_step t owner m (MakerTree mods n ps up ss p) = maker_step t owner m mods n ps up ss p

-- the methods so far, and one more of an interface, without a body
abbrev pub head_body_step : Table → ℕ → Methods → HeadTree → Result Methods Refusal
head_body_step t owner m h = method_step t owner kinds.Head m h None

-- the number of the next type, with the methods so far
abbrev pub numbered : ℕ → Result Methods Refusal → Result (ℕ × Methods) Refusal
numbered k w = with w (λ m. Ok (k + 1, m))

-- the number of the next type and the methods so far, with those of one declaration more
abbrev pub decl_bodies : Table → ℕ × Methods → DeclTree → Result (ℕ × Methods) Refusal
decl_bodies t s (ClassTree mods n parent faces ms p) = numbered s.0 (run (body_step t s.0) s.1 ms)
decl_bodies t s (InterfaceTree mods n parents hs p) = numbered s.0 (run (head_body_step t s.0) s.1 hs)

-- the methods, and behind them the constructors that are not written: those of which no body was met
abbrev pub with_implied : Table → List PlainMethod → List PlainMethod
with_implied t ms = ms ++ map (implied_made t) (drop (length ms) t.headings)

-- the methods of all declarations with their bodies, in the order of the text
abbrev pub methods_of : Table → List DeclTree → Result (List PlainMethod) Refusal
methods_of t tree = with (run (decl_bodies t) (1, ([], 0)) tree) (λ s. Ok (with_implied t s.1.0))

-- the superclass of each class
abbrev pub parents_of : List PlainClass → List (Option ClassId)
parents_of cs = map (λ c. c.parent) cs

-- the declarations as a body sees them, of these parts
abbrev pub table : List KnownClass → List PlainClass → List (List Bool) → Members → Table
table known cs rows m = record { known = known; parents = parents_of cs; above = rows; fields = m.fields; headings = m.headings }

-- the program of these parts
abbrev pub program : List PlainClass → Members → ℕ → List PlainMethod → Plain
program cs m main methods = record { classes = cs; fields = map field_seen m.fields; methods = methods; slots = m.slots; main = main }

-- the program of a tree whose types, members and main method are these
abbrev pub with_bodies : List DeclTree → List KnownClass → List PlainClass → List (List Bool) → Members → Result Plain Refusal
with_bodies tree known cs rows m =
    with (clashes_of rows m.headings) (λ _. with (main_of m.headings) (λ main. with (methods_of (table known cs rows m) tree)
    (λ methods. Ok (program cs m main methods))))

-- the program of a tree
unfoldable pub resolved : List DeclTree → Result Plain Refusal
resolved tree =
    with (known_of tree) (λ known. with (classes_of known tree) (λ cs. with (above_of cs) (λ rows. with (loops_of rows cs) (λ _.
    with (members_of known tree) (λ m. with_bodies tree known cs rows m)))))
