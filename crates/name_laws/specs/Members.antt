-- Mirror. The fields, methods and slots of a tree, and where methods of one name meet.
use Rattle.std.specs.Prelude.{ℕ, ◌+◌, ◌||◌, ◌&&◌, ◌==◌, slice_get, not, Bool, true, false, List, [], ◌∷◌, ◌++◌, length, Option, Some, None, is_some, is_none, position, Result, Ok, Err, codes, if◌then◌else◌, map}
use Rattle.std.specs.Option.{option_map_or}
use Rattle.std.specs.Str.{bytes_eq, chars}
use Rattle.kaba_base.specs.declared.Place.{Place}
use Rattle.java_tree.specs.declared.TypeName.{TypeName}
use Rattle.java_tree.specs.declared.Modifier.{Modifier}
use Rattle.java_tree.specs.declared.Param.{Param}
use Rattle.java_tree.specs.Makers.{declares_maker}
use Rattle.java_tree.specs.Syntax.{HeadTree, MemberTree, FieldTree, MethodTree, MakerTree, DeclTree, ClassTree, InterfaceTree}
use Rattle.java_core.specs.declared.Ty.{Ty}
use Rattle.java_core.specs.declared.TyBase.TheVariants as ty
use Rattle.java_core.specs.declared.Field.{Field}
use Rattle.java_core.specs.declared.Local.{Local}
use Rattle.java_core.specs.Types.{is_base}
use Rattle.java_core.specs.Makers.{maker_name}
use Rattle.java_core.specs.Programs.{PlainSlot}
use Rattle.name_rules.specs.declared.Form.TheVariants as forms
use Rattle.name_rules.specs.declared.Refusal.{Refusal}
use Rattle.name_rules.specs.declared.Refusal.TheVariants.{Unknown, Twice, TwoKinds, Overload, PrivateReused, NoMain, NotInProfile}
use Rattle.name_laws.specs.Known.{KnownClass}
use Rattle.name_rules.specs.declared.parts.Kind.TheVariants as kinds
use Rattle.name_laws.specs.declared.parts.Flags.{Flags}
use Rattle.name_laws.specs.declared.parts.Heading.{Heading}
use Rattle.name_laws.specs.Answers.{with, unless, run}
use Rattle.name_laws.specs.Names.{type_of, names_type}
use Rattle.name_laws.specs.Tables.{is_above, field_in, method_in}
use Rattle.name_laws.specs.Classes.{no_flags, flags_of}
use Rattle.name_rules.specs.Outline.{maker_head, name_of, place_of, writer_of}
pub use Rattle.java_core.specs.Squares.{meet}

-- the members so far
pub record Members : Type 0 where
  pub fields : List Field
  pub headings : List Heading
  pub slots : List PlainSlot

-- ---- parameters and results

-- whether one of the parameters has this name
abbrev pub has_local : List ℕ → List Local → Bool
has_local n [] = false
has_local n (l ∷ ls) = if bytes_eq l.name n then true else has_local n ls

-- the parameters so far, and one more
abbrev pub param : List KnownClass → List Local → Param → Result (List Local) Refusal
param known ls q =
    with (type_of known q.ty) (λ u. if names_type known q.name then Err (TwoKinds q.name q.place) else if has_local q.name ls then Err (Twice q.name q.place)
    else Ok (ls ++ record { name = q.name; ty = u; place = q.place } ∷ []))

-- the parameters of a method, each of a name of its own
abbrev pub params_of : List KnownClass → List Param → Result (List Local) Refusal
params_of known ps = run (param known) [] ps

-- the result of a method, where it has one
abbrev pub result_of : List KnownClass → Option TypeName → Result (Option Ty) Refusal
result_of known None = Ok None
result_of known (Some u) = with (type_of known u) (λ u. Ok (Some u))

-- ---- slots

-- whether two types are the same
abbrev pub same_type : Ty → Ty → Bool
same_type t u = is_base t.base u.base && (t.dim == u.dim)

-- whether two results are the same: both void, or of the same type
abbrev pub same_result : Option Ty → Option Ty → Bool
same_result None None = true
same_result (Some t) (Some u) = same_type t u
same_result None (Some u) = false
same_result (Some t) None = false

-- whether the parameters have these types
abbrev pub have_types : List Local → List Ty → Bool
have_types [] [] = true
have_types (l ∷ ls) (t ∷ ts) = same_type l.ty t && have_types ls ts
have_types [] (t ∷ ts) = false
have_types (l ∷ ls) [] = false

-- whether a slot has this name, these parameter types and this result
abbrev pub is_signature : List ℕ → List Local → Option Ty → PlainSlot → Bool
is_signature n ls r s = (bytes_eq s.name n && have_types ls s.params) && same_result r s.result

-- the slot of a name, parameter types and result
abbrev pub slot_in : List ℕ → List Local → Option Ty → List PlainSlot → Option ℕ
slot_in n ls r ss = position (is_signature n ls r) ss

-- a slot, and the slots with it
abbrev pub with_slot : Option ℕ → List ℕ → List Local → Option Ty → ℕ → List PlainSlot → ℕ × List PlainSlot
with_slot (Some k) n ls r first ss = (k, ss)
with_slot None n ls r first ss = (length ss, ss ++ record { name = n; params = map (λ l. l.ty) ls; result = r; first = first } ∷ [])

-- the slot of a name, parameter types and result, and the slots with it where it is new
abbrev pub slotted : List ℕ → List Local → Option Ty → ℕ → List PlainSlot → ℕ × List PlainSlot
slotted n ls r first ss = with_slot (slot_in n ls r ss) n ls r first ss

-- ---- methods

-- String[]
abbrev pub is_texts : Ty → Bool
is_texts t = is_base t.base ty.Str && (t.dim == 1)

-- whether there is one parameter, a String[]
abbrev pub takes_texts : List Local → Bool
takes_texts [] = false
takes_texts (l ∷ []) = is_texts l.ty
takes_texts (l ∷ m ∷ ls) = false

-- static void main(String[] ..)
abbrev pub is_main : Bool → List ℕ → List Local → Option Ty → Bool
is_main static n ls r = ((static && is_none r) && bytes_eq (chars (codes "main")) n) && takes_texts ls

-- what is known of a method of these parts before its body
abbrev pub heading : ℕ → HeadTree → Flags → List Local → Option Ty → Option ℕ → Heading
heading owner h f ls r slot =
    record {
      owner = owner;
      name = h.name;
      is_static = f.is_static;
      is_private = f.is_private;
      is_main = is_main f.is_static h.name ls r;
      slot = slot;
      place = h.place;
    }

-- the members with one method more: a static one has no slot, another has that of its signature
abbrev pub add_heading : Members → ℕ → HeadTree → Flags → List Local → Option Ty → Members
add_heading m owner h f ls r =
    if f.is_static then record { fields = m.fields; headings = m.headings ++ heading owner h f ls r None ∷ []; slots = m.slots }
    else let s = slotted h.name ls r (length m.headings) m.slots in record {
      fields = m.fields;
      headings = m.headings ++ heading owner h f ls r
          (Some s.0) ∷ [];
      slots = s.1;
    }

-- a method that is not there yet
abbrev pub head_step : List KnownClass → ℕ → Members → HeadTree → Flags → Result Members Refusal
head_step known owner m h f =
    if is_some (method_in m.headings owner h.name) then Err (Twice h.name h.place)
    else with (params_of known h.params) (λ ls. with (result_of known h.type) (λ r. Ok (add_heading m owner h f ls r)))

-- a method without body that is not abstract, or an abstract one with a body or in a class that is not abstract
abbrev pub is_wrong_body : Bool → Bool → Bool → Bool
is_wrong_body in_abstract abstract body = if abstract then body || not in_abstract else not body

-- the members so far, and one more field, of a name that no type and no field of the class has
abbrev pub field_step : List KnownClass → ℕ → Members → Flags → TypeName → List ℕ → Place → Result Members Refusal
field_step known owner m f u n p =
    with (type_of known u) (λ u. if names_type known n then Err (TwoKinds n p) else if is_some (field_in m.fields owner n) then Err (Twice n p)
    else Ok (record {
      fields = m.fields ++ record { owner = record { 0 = owner }; name = n; is_static = f.is_static; ty = u; place = p }
          ∷ [];
      headings = m.headings;
      slots = m.slots;
    }))

-- whether a class of this number has this name
abbrev pub is_class_of : List KnownClass → ℕ → List ℕ → Bool
is_class_of known c n = option_map_or (λ k. bytes_eq k.name n) (slice_get known c) false

-- the members so far, and one constructor more: under its class's name, and the only one of the class
abbrev pub maker_step : List KnownClass → ℕ → Members → List Modifier → List ℕ → List Param → Place → Result Members Refusal
maker_step known owner m mods n ps p =
    with (flags_of kinds.Maker mods) (λ f. if not (is_class_of known owner n) then Err (Unknown n p)
    else if is_some (method_in m.headings owner (maker_name n)) then Err (Overload n p)
    else with (params_of known ps) (λ ls. Ok (add_heading m owner (maker_head n mods ps p) f ls None)))

-- the members so far, and one more of a class
abbrev pub member_step : List KnownClass → ℕ → Bool → Members → MemberTree → Result Members Refusal
member_step known owner in_abstract m (FieldTree mods u n p) = with (flags_of kinds.Field mods) (λ f. field_step known owner m f u n p)
member_step known owner in_abstract m (MethodTree h body p) =
    with (flags_of kinds.Method h.mods) (λ f. if is_wrong_body in_abstract f.is_abstract (is_some body) then Err (NotInProfile forms.Body h.place)
    else head_step known owner m h f)
member_step known owner in_abstract m (MakerTree mods n ps up ss p) = maker_step known owner m mods n ps p

-- the members so far, and one more method of an interface
abbrev pub interface_step : List KnownClass → ℕ → Members → HeadTree → Result Members Refusal
interface_step known owner m h = with (flags_of kinds.Head h.mods) (λ f. head_step known owner m h f)

-- the number of the next type, and the members so far; and those of one type more
abbrev pub numbered : ℕ → Result Members Refusal → Result (ℕ × Members) Refusal
numbered k w = with w (λ m. Ok (k + 1, m))

-- the number of the next type and the members so far, with those of one declaration more
abbrev pub decl_step : List KnownClass → ℕ × Members → DeclTree → Result (ℕ × Members) Refusal
decl_step known s (ClassTree mods n parent faces ms p) = with (flags_of kinds.Class mods) (λ f. numbered s.0 (run (member_step known s.0 f.is_abstract) s.1 ms))
decl_step known s (InterfaceTree mods n parents hs p) = numbered s.0 (run (interface_step known s.0) s.1 hs)

-- no fields, no methods and no slots
abbrev pub no_members : Members
no_members = record { fields = []; headings = []; slots = [] }

-- the members with the constructor that a class has without writing one: where an ancestor writes one
abbrev pub implied_step : List DeclTree → ℕ × Members → DeclTree → ℕ × Members
implied_step tree s d = (
  s.0 + 1,
  if declares_maker d then s.1 else if is_some (writer_of tree s.0) then add_heading s.1 s.0 (maker_head (name_of d) [] [] (place_of d)) no_flags [] None
      else s.1,
)

-- the members with those of all declarations
abbrev pub with_implied : List DeclTree → ℕ × Members → List DeclTree → ℕ × Members
with_implied tree s [] = s
with_implied tree s (d ∷ ds) = with_implied tree (implied_step tree s d) ds

-- the members of all declarations, the first of which has the number 1 behind Object; and behind them the constructors that are not written
abbrev pub members_of : List KnownClass → List DeclTree → Result Members Refusal
members_of known tree = with (run (decl_step known) (1, no_members) tree) (λ s. Ok (with_implied tree (1, s.1) tree).1)

-- ---- where methods of one name meet

-- whether two methods have a slot, and the same
abbrev pub same_slot : Option ℕ → Option ℕ → Bool
same_slot (Some s) (Some t) = s == t
same_slot None t = false
same_slot (Some s) None = false

-- why the second of two methods of one name, which are not of one class, cannot stand
abbrev pub clash_of : List (List Bool) → Heading → Heading → Option Refusal
clash_of rows a b =
    if (a.is_private || b.is_private) && (is_above rows a.owner b.owner || is_above rows b.owner a.owner) then Some (PrivateReused b.name b.place)
    else if not (same_slot a.slot b.slot) && meet rows a.owner b.owner then Some (Overload b.name b.place)
    else None

-- why a method cannot stand with another before it, where the two have one name
abbrev pub clash_with : List (List Bool) → Heading → Heading → Option Refusal
clash_with rows b a = if bytes_eq a.name b.name then clash_of rows a b else None

-- the number of the method at hand: those before it clash with no earlier one, and it clashes with none of the first
abbrev pub earlier_step : List (List Bool) → ℕ → Heading → ℕ → Heading → Result ℕ Refusal
earlier_step rows k b j a = if j == k then Ok j else unless (clash_with rows b a) (Ok (j + 1))

-- the number of the next method, where the one at hand clashes with none before it
abbrev pub clash_step : List (List Bool) → List Heading → ℕ → Heading → Result ℕ Refusal
clash_step rows all k b = with (run (earlier_step rows k b) 0 all) (λ _. Ok (k + 1))

-- how many methods there are, none of which clashes with one before it
abbrev pub clashes_of : List (List Bool) → List Heading → Result ℕ Refusal
clashes_of rows all = run (clash_step rows all) 0 all

-- the main method that was found, or that there is none
abbrev pub or_no_main : Option ℕ → Result ℕ Refusal
or_no_main None = Err NoMain
or_no_main (Some k) = Ok k

-- the main method: the first of its kind
abbrev pub main_of : List Heading → Result ℕ Refusal
main_of hs = or_no_main (position (λ h. h.is_main) hs)
