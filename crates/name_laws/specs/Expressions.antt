-- Mirror. Which expression a tree is once its names are resolved, or the first of its faults.
use Rattle.std.specs.Prelude.{ℕ, suc, ◌||◌, ◌==◌, Bool, true, false, List, Option, Some, None, is_some, Result, Ok, Err, if◌then◌else◌, slice_get}
use Rattle.std.specs.Option.{option_map}
use Rattle.kaba_base.specs.declared.Place.{Place}
use Rattle.java_tree.specs.declared.Id.{Id}
use Rattle.java_tree.specs.declared.TypeName.{TypeName}
use Rattle.java_tree.specs.declared.TypeBase.{TypeBase}
use Rattle.java_tree.specs.declared.TypeBase.TheVariants as bases
use Rattle.java_tree.specs.Syntax.{Expression, IntLit, CharLit, StrLit, BoolLit, NullLit, ThisRef, NameRef, FieldOf, IndexOf, CallOf, CallOn, SuperCallOf, NewOf, NewArrayOf, CastOf, InstanceOfClass, UnaryOf, BinaryOf, Expressions, no_more, and_more}
use Rattle.java_core.specs.declared.Ty.{Ty}
use Rattle.java_core.specs.declared.TyBase.{TyBase}
use Rattle.java_core.specs.declared.TyBase.TheVariants as ty
use Rattle.java_core.specs.declared.Field.{Field}
use Rattle.java_core.specs.Trees.{at_place, Ex, number, character, text, truth, null, this, local, static_field, own_field, field, index, call, static_call, super_call, create, create_array, cast, instance_of, unary, binary, Exs, no_ex, ex_then}
use Rattle.name_rules.specs.declared.Form.TheVariants.{ThisInStatic}
use Rattle.name_rules.specs.declared.Refusal.{Refusal}
use Rattle.name_rules.specs.declared.Refusal.TheVariants.{Unknown, NotInProfile}
use Rattle.name_laws.specs.declared.parts.Heading.{Heading}
use Rattle.name_rules.specs.declared.parts.Bound.{Bound}
use Rattle.name_rules.specs.declared.parts.Here.{Here}
use Rattle.name_laws.specs.Answers.{with}
use Rattle.name_laws.specs.Names.{asked, type_of}
use Rattle.name_laws.specs.Tables as table
use Rattle.name_laws.specs.Tables.{Table, nearest_field, own_method, method_met}
use Rattle.name_rules.specs.Meanings.{local_of}
use Rattle.name_rules.specs.Resolves.{un_op, bin_op}

-- the type of a cast: String is no such type
abbrev pub cast_base : Table → TypeBase → Place → Result TyBase Refusal
cast_base t bases.Int p = Ok ty.Int
cast_base t bases.Boolean p = Ok ty.Boolean
cast_base t bases.Char p = Ok ty.Char
cast_base t (bases.Named n) p = with (asked t.known n p) (λ k. Ok (ty.Class (record { 0 = k })))

-- the type of a cast, with its brackets
abbrev pub cast_type : Table → TypeName → Result Ty Refusal
cast_type t n = with (cast_base t n.base n.place) (λ b. Ok (record { base = b; dim = n.dim }))

-- what an instance member by its simple name is: nothing in a static method
abbrev pub in_instance : Bool → Place → Ex → Result Ex Refusal
in_instance true p e = Err (NotInProfile ThisInStatic p)
in_instance false p e = Ok e

-- a static member by its simple name: one of an ancestor is unknown
abbrev pub in_own : Bool → List ℕ → Place → ℕ → Result ℕ Refusal
in_own true n p k = Ok k
in_own false n p k = Err (Unknown n p)

-- a field by its simple name: a static one must be the class's own; an instance field needs an instance method
abbrev pub field_use : Here → List ℕ → Place → ℕ → Bool → Bool → Result Ex Refusal
field_use here n p f true own = with (in_own own n p f) (λ k. Ok (static_field (at_place p) k))
field_use here n p f false own = in_instance here.is_static p (own_field (at_place p) f)

-- the same with the field at its number; it is unknown where none stands there
abbrev pub field_at : Here → List ℕ → Place → ℕ → Option Field → Result Ex Refusal
field_at here n p f None = Err (Unknown n p)
field_at here n p f (Some x) = field_use here n p f x.is_static (x.owner.0 == here.owner)

-- the field that was found under a simple name; it is unknown where none was found
abbrev pub field_named : Table → Here → List ℕ → Place → Option ℕ → Result Ex Refusal
field_named t here n p None = Err (Unknown n p)
field_named t here n p (Some f) = field_at here n p f (slice_get t.fields f)

-- the variable that was found under a simple name, else the nearest field of it
abbrev pub local_named : Table → Here → List ℕ → Place → Option ℕ → Result Ex Refusal
local_named t here n p (Some k) = Ok (local (at_place p) k)
local_named t here n p None = field_named t here n p (nearest_field t here.owner n)

-- a simple name: a local or parameter in scope, else the nearest field upwards (Java Language Specification, 6.5.6.1)
unfoldable pub name_meaning : Table → Here → List Bound → List ℕ → Place → Result Ex Refusal
name_meaning t here scope n p = local_named t here n p (local_of n scope)

-- a name before a dot that is no variable, and so a class
unfoldable pub is_variable : Table → Here → List Bound → List ℕ → Bool
is_variable t here scope n = is_some (local_of n scope) || is_some (nearest_field t here.owner n)

-- a name as that of a class, unless it is that of a variable
abbrev pub class_unless : Bool → List ℕ → Place → Option Id
class_unless true n p = None
class_unless false n p = Some (record { name = n; place = p })

-- the class before a dot, where what stands there is a simple name that no variable has
abbrev pub class_before : Table → Here → List Bound → Expression → Option Id
class_before t here scope (NameRef n p) = class_unless (is_variable t here scope n) n p
class_before t here scope _ = None

-- a static member by its number, where it stands, and whether it is static
abbrev pub static_at : List ℕ → Place → ℕ → Option Bool → Result ℕ Refusal
static_at n p k None = Err (Unknown n p)
static_at n p k (Some static) = in_own static n p k

-- the static member that was found under a name; it is unknown where none was found or where it is not static
abbrev pub static_member : List ℕ → Place → (ℕ → Option Bool) → Option ℕ → Result ℕ Refusal
static_member n p is_static None = Err (Unknown n p)
static_member n p is_static (Some k) = static_at n p k (is_static k)

-- whether a field is static, where there is one of this number
abbrev pub is_static_field : Table → ℕ → Option Bool
is_static_field t f = option_map (λ x. x.is_static) (slice_get t.fields f)

-- whether a method is static, where there is one of this number
abbrev pub is_static_method : Table → ℕ → Option Bool
is_static_method t m = option_map (λ x. x.is_static) (slice_get t.headings m)

-- a static field or method that the class itself declares
abbrev pub static_field_of : Table → Id → List ℕ → Place → Result ℕ Refusal
static_field_of t c n p = with (asked t.known c.name c.place) (λ k. static_member n p (is_static_field t) (table.own_field t k n))

-- the static method of a name that the named class itself declares
abbrev pub static_method_of : Table → Id → List ℕ → Place → Result ℕ Refusal
static_method_of t c n p = with (asked t.known c.name c.place) (λ k. static_member n p (is_static_method t) (own_method t k n))

-- what a call is on: an object, `this`, the superclass's part of `this`, or nothing where it is of this static method
pub data Receiver : Type 0 where
  an_object : Ex → Receiver
  on_this : Receiver
  on_super : Receiver
  no_object : ℕ → Receiver

-- the call of a name with arguments, as its receiver has it
abbrev pub called_on : Receiver → List ℕ → Exs → Place → Ex
called_on (an_object e) n es p = call (at_place p) e n es
called_on on_this n es p = call (at_place p) (this (at_place p)) n es
called_on on_super n es p = super_call (at_place p) n es
called_on (no_object m) n es p = static_call (at_place p) m es

-- a call by a simple name: of this static method, or of an instance method on `this`
abbrev pub called_static : Bool → List ℕ → Place → ℕ → Result Receiver Refusal
called_static true n p m = Ok (no_object m)
called_static false n p m = Err (Unknown n p)

-- a call of an instance method by a simple name is on `this`, and must not stand in a static method
abbrev pub called_instance : Bool → Place → Result Receiver Refusal
called_instance true p = Err (NotInProfile ThisInStatic p)
called_instance false p = Ok on_this

-- what a call by a simple name is on, by whether the method is static and the class's own
abbrev pub method_use : Here → List ℕ → Place → ℕ → Bool → Bool → Result Receiver Refusal
method_use here n p m true own = called_static own n p m
method_use here n p m false own = called_instance here.is_static p

-- the same with the method at its number; it is unknown where none stands there
abbrev pub method_at : Here → List ℕ → Place → ℕ → Option Heading → Result Receiver Refusal
method_at here n p m None = Err (Unknown n p)
method_at here n p m (Some x) = method_use here n p m x.is_static (x.owner == here.owner)

-- what a call of the method that was found is on; it is unknown where none was found
abbrev pub method_named : Table → Here → List ℕ → Place → Option ℕ → Result Receiver Refusal
method_named t here n p None = Err (Unknown n p)
method_named t here n p (Some m) = method_at here n p m (slice_get t.headings m)

-- what a call by a simple name is on: the method is that of the class itself or of an ancestor
unfoldable pub call_meaning : Table → Here → List ℕ → Place → Result Receiver Refusal
call_meaning t here n p = method_named t here n p (method_met t here.owner n)

-- `this` or `super`: nothing in a static method
abbrev pub in_body : {A : Type 0} → Here → Place → Result A Refusal → Result A Refusal
in_body here p go = if here.is_static then Err (NotInProfile ThisInStatic p) else go

-- the arguments so far, and one more
abbrev pub ex_last : Exs → Ex → Exs
ex_last no_ex e = ex_then e no_ex
ex_last (ex_then x xs) e = ex_then x (ex_last xs e)

-- an expression, and the next free number of a creation, a cast or an instanceof
abbrev pub Walked : Type 0
Walked = Result (Ex × ℕ) Refusal

-- the expression that is made of one that was walked
abbrev pub made : (Ex → Ex) → Walked → Walked
made f w = with w (λ x. Ok (f x.0, x.1))

-- the expression that is made of arguments that were walked
abbrev pub after : Result (Exs × ℕ) Refusal → (Exs → Ex) → Walked
after w f = with w (λ x. Ok (f x.0, x.1))

-- a field after a dot: a static field of the class that stands before it, else a member of the expression
abbrev pub field_walk : Table → ℕ → List ℕ → Place → Option Id → Walked → Walked
field_walk t k n p None w = made (λ e. field (at_place p) e n) w
field_walk t k n p (Some c) w = with (static_field_of t c n p) (λ f. Ok (static_field (at_place p) f, k))

-- what a call on an expression is on
abbrev pub receiver : Table → ℕ → List ℕ → Place → Option Id → Walked → Result (Receiver × ℕ) Refusal
receiver t k n p None w = with w (λ x. Ok (an_object x.0, x.1))
receiver t k n p (Some c) w = with (static_method_of t c n p) (λ m. Ok (no_object m, k))

module _ (t : Table) (here : Here) (scope : List Bound) where
  abbrev mutual
    -- an expression with its names resolved, or its first fault; k is the next free number
    pub walk : ℕ → Expression → Walked
    walk k (IntLit v p) = Ok (number (at_place p) v, k)
    walk k (CharLit c p) = Ok (character (at_place p) c, k)
    walk k (StrLit u p) = Ok (text (at_place p) u, k)
    walk k (BoolLit b p) = Ok (truth (at_place p) b, k)
    walk k (NullLit p) = Ok (null (at_place p), k)
    walk k (ThisRef p) = in_body here p (Ok (this (at_place p), k))
    walk k (NameRef n p) = with (name_meaning t here scope n p) (λ e. Ok (e, k))
    walk k (FieldOf e n p) = field_walk t k n p (class_before t here scope e) (walk k e)
    walk k (IndexOf e i p) = with (walk k e) (λ x. made (index (at_place p) x.0) (walk x.1 i))
    walk k (CallOf n es p) = with (call_meaning t here n p) (λ r. after (walk_all no_ex k es) (λ xs. called_on r n xs p))
    walk k (CallOn e n es p) = with (receiver t k n p (class_before t here scope e) (walk k e))
        (λ r. after (walk_all no_ex r.1 es) (λ xs. called_on r.0 n xs p))
    walk k (SuperCallOf n es p) = in_body here p (after (walk_all no_ex k es) (λ xs. called_on on_super n xs p))
    walk k (NewOf c es p) = with (asked t.known c.name c.place) (λ d. after (walk_all no_ex (suc k) es) (create (at_place p) k d))
    walk k (NewArrayOf u e p) = with (type_of t.known u) (λ u. made (create_array (at_place p) k u) (walk (suc k) e))
    walk k (CastOf u e p) = with (cast_type t u) (λ u. made (cast (at_place p) k u) (walk (suc k) e))
    walk k (InstanceOfClass e c p) = with (walk k e) (λ x. with (asked t.known c.name c.place) (λ d. Ok (instance_of (at_place p) x.1 x.0 d, suc x.1)))
    walk k (UnaryOf m e p) = made (unary (at_place p) (un_op m)) (walk k e)
    walk k (BinaryOf m a b p) = with (walk k a) (λ x. made (binary (at_place p) (bin_op m) x.0) (walk x.1 b))

    -- the arguments so far, and those that are left
    pub walk_all : Exs → ℕ → Expressions → Result (Exs × ℕ) Refusal
    walk_all done k no_more = Ok (done, k)
    walk_all done k (and_more e es) = with (walk k e) (λ x. walk_all (ex_last done x.0) x.1 es)
