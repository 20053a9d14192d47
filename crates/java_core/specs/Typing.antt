-- Believed. Which expressions, statements and programs are typed: one constructor a form, and fitting is asked where
-- values flow.
use Rattle.std.specs.Prelude.{◌≡◌, ℕ, ℤ, ◌||◌, ◌&&◌, Bool, true, false, List, [], ◌∷◌, Option, Some, None, slice_get}
use Rattle.std.specs.Option.{is_some}
use Rattle.java_core.specs.declared.Ty.{Ty}
use Rattle.java_core.specs.declared.UnOp.{UnOp}
use Rattle.java_core.specs.declared.UnOp.TheVariants as un
use Rattle.java_core.specs.declared.BinOp.{BinOp}
use Rattle.java_core.specs.declared.BinOp.TheVariants as bin
use Rattle.java_core.specs.Trees.{Tag, Ex, Exs, no_ex, ex_then, number, character, text, truth, null, this, local, static_field, own_field, field, index, call, static_call, super_call, create, create_array, cast, instance_of, unary, binary, Target, to_local, to_static, to_own, to_field, to_element, St, Sts, IfArms, declare, block, assign, act, print, choose, loop, return, break, continue, no_st, st_then, no_other, otherwise, arm}
use Rattle.java_core.specs.Plain.{Plain, PlainClass, PlainMethod}
use Rattle.java_core.specs.Classes.{below, is_interface, is_concrete, super_method, has_body, nearest_declaration}
use Rattle.java_core.specs.Makers.{maker_of}
use Rattle.java_core.specs.Types.{Static, a_value, Env, env_of, class_in, class_of, element_of, is_numeric, is_boolean, is_string, is_printable, fits, fits_in, are_comparable, Signature, call_signature, super_signature, signature_of_method, access_type, field_in, is_plus, static, target_type}

-- what a prefix operator takes
abbrev pub takes_one : UnOp → Static → Bool
takes_one un.Not s = is_boolean s
takes_one un.Plus s = is_numeric s
takes_one un.Minus s = is_numeric s
takes_one un.Flip s = is_numeric s

-- whether `+` joins the two: one is a String and the other can be printed
abbrev pub joins : Static → Static → Bool
joins s t = (is_string s && is_printable t) || (is_printable s && is_string t)

-- what a binary operator takes (Java Language Specification, 15.17 to 15.24, the subset's part)
abbrev pub takes_two : Plain → BinOp → Static → Static → Bool
takes_two P (bin.Int o) s t = (is_numeric s && is_numeric t) || (is_plus o && joins s t)
takes_two P bin.Same s t = are_comparable P s t
takes_two P bin.Differs s t = are_comparable P s t
takes_two P bin.Less s t = is_numeric s && is_numeric t
takes_two P bin.Greater s t = is_numeric s && is_numeric t
takes_two P bin.AtMost s t = is_numeric s && is_numeric t
takes_two P bin.AtLeast s t = is_numeric s && is_numeric t
takes_two P bin.Both s t = is_boolean s && is_boolean t
takes_two P bin.Either s t = is_boolean s && is_boolean t

-- a class or interface is related to another: at, below or above it
abbrev pub are_related : Plain → Option ℕ → Option ℕ → Bool
are_related P (Some c) (Some d) = below P c d || below P d c
are_related P None d = false
are_related P (Some c) None = false

-- what a cast takes: numbers to int and char, an object to a class at, above or below its own (Java Language Specification, 5.5, the subset's part)
abbrev pub can_cast : Plain → Static → Ty → Bool
can_cast P s t = (is_numeric (a_value t) && is_numeric s) || are_related P (class_of s) (class_in t.base t.dim)

module _ (P : Plain) (g : Env) where
  mutual
    -- an expression is typed: each of its parts is, and each gives what the form around it takes
    pub data Typed : Ex → Type 0 where
      t_number : {t : Tag} {n : ℤ} → Typed (number t n)
      t_character : {t : Tag} {c : ℕ} → Typed (character t c)
      t_text : {t : Tag} {u : List ℕ} → Typed (text t u)
      t_truth : {t : Tag} {b : Bool} → Typed (truth t b)
      t_null : {t : Tag} → Typed (null t)
      t_this : {t : Tag} → Typed (this t)
      t_local : {t : Tag} {i : ℕ} → Typed (local t i)
      t_static_field : {t : Tag} {f : ℕ} → Typed (static_field t f)
      t_own_field : {t : Tag} {f : ℕ} → Typed (own_field t f)
      t_field : {t : Tag} {e : Ex} {x : List ℕ} → Typed e → is_some (access_type P (static P g e) x) ≡ true → Typed (field t e x)
      t_index : {t : Tag} {e i : Ex} → Typed e → is_some (element_of (static P g e)) ≡ true → Typed i → is_numeric (static P g i) ≡ true → Typed (index t e i)
      t_call : {t : Tag} {e : Ex} {x : List ℕ} {es : Exs} {s : Signature} → Typed e → call_signature P (static P g e) x ≡ Some s
          → TypedArgs es s.params → Typed (call t e x es)
      t_static_call : {t : Tag} {m : ℕ} {es : Exs} {s : Signature} → signature_of_method P m ≡ Some s → TypedArgs es s.params → Typed (static_call t m es)
      t_super_call : {t : Tag} {x : List ℕ} {es : Exs} {m : ℕ} {s : Signature} → super_method P g.self x ≡ Some m → has_body P m ≡ true
          → super_signature P g.self x ≡ Some s
          → TypedArgs es s.params → Typed (super_call t x es)
      t_create : {t : Tag} {n c : ℕ} → is_concrete P c ≡ true → maker_of P c ≡ None → Typed (create t n c no_ex)
      t_make : {t : Tag} {n c m : ℕ} {es : Exs} {s : Signature} → is_concrete P c ≡ true → maker_of P c ≡ Some m → signature_of_method P m ≡ Some s
          → TypedArgs es s.params → Typed (create t n c es)
      t_create_array : {t : Tag} {n : ℕ} {u : Ty} {e : Ex} → Typed e → is_numeric (static P g e) ≡ true → Typed (create_array t n u e)
      t_cast : {t : Tag} {n : ℕ} {u : Ty} {e : Ex} → Typed e → can_cast P (static P g e) u ≡ true → Typed (cast t n u e)
      t_instance_of : {t : Tag} {n c : ℕ} {e : Ex} → Typed e → are_related P (class_of (static P g e)) (Some c) ≡ true → Typed (instance_of t n e c)
      t_unary : {t : Tag} {o : UnOp} {e : Ex} → Typed e → takes_one o (static P g e) ≡ true → Typed (unary t o e)
      t_binary : {t : Tag} {o : BinOp} {e d : Ex} → Typed e → Typed d → takes_two P o (static P g e) (static P g d) ≡ true → Typed (binary t o e d)

    -- the arguments of a call are typed, as many as the parameters, and each fits its parameter's type
    pub data TypedArgs : Exs → List Ty → Type 0 where
      t_no_ex : TypedArgs no_ex []
      t_ex_then : {e : Ex} {es : Exs} {u : Ty} {us : List Ty} → Typed e → fits P (static P g e) u ≡ true → TypedArgs es us → TypedArgs (ex_then e es) (u ∷ us)

  -- the target of an assignment is typed: its parts are, and there is a field or an element to set
  pub data TypedTarget : Target → Type 0 where
    t_to_local : {t : Tag} {i : ℕ} → TypedTarget (to_local t i)
    t_to_static : {t : Tag} {f : ℕ} → TypedTarget (to_static t f)
    t_to_own : {t : Tag} {f : ℕ} → TypedTarget (to_own t f)
    t_to_field : {t : Tag} {e : Ex} {x : List ℕ} → Typed e → is_some (field_in P (static P g e) x) ≡ true → TypedTarget (to_field t e x)
    t_to_element : {t : Tag} {e i : Ex} → Typed e → is_some (element_of (static P g e)) ≡ true → Typed i → is_numeric (static P g i) ≡ true
        → TypedTarget (to_element t e i)

  -- the test of a loop; one that is not there is true
  pub data TypedTest : Option Ex → Type 0 where
    t_always : TypedTest None
    t_test : {e : Ex} → Typed e → is_boolean (static P g e) ≡ true → TypedTest (Some e)

  mutual
    -- a statement is typed: its expressions and statements are, and each value fits where it goes
    pub data TypedSt : St → Type 0 where
      t_declare : {t : Tag} {i : ℕ} → TypedSt (declare t i None)
      t_declare_as : {t : Tag} {i : ℕ} {e : Ex} → Typed e → fits_in P (static P g e) (target_type P g (to_local t i)) ≡ true → TypedSt (declare t i (Some e))
      t_block : {t : Tag} {xs : Sts} → TypedSts xs → TypedSt (block t xs)
      t_assign : {t : Tag} {b : Target} {e : Ex} → TypedTarget b → Typed e → fits_in P (static P g e) (target_type P g b) ≡ true → TypedSt (assign t b e)
      t_act : {t : Tag} {e : Ex} → Typed e → TypedSt (act t e)
      t_print_line : {t : Tag} {n : Bool} → TypedSt (print t n None)
      t_print : {t : Tag} {n : Bool} {e : Ex} → Typed e → is_printable (static P g e) ≡ true → TypedSt (print t n (Some e))
      t_choose : {t : Tag} {xs : IfArms} → TypedArms xs → TypedSt (choose t xs)
      t_loop : {t : Tag} {is_while : Bool} {first step body : Sts} {test : Option Ex} → TypedSts first → TypedTest test → TypedSts step
          → TypedSts body → TypedSt (loop t is_while first test step body)
      t_return_nothing : {t : Tag} → g.result ≡ None → TypedSt (return t None)
      t_return : {t : Tag} {e : Ex} {u : Ty} → Typed e → g.result ≡ Some u → fits P (static P g e) u ≡ true → TypedSt (return t (Some e))
      t_break : {t : Tag} → TypedSt (break t)
      t_continue : {t : Tag} → TypedSt (continue t)

    -- each statement of a list is typed
    pub data TypedSts : Sts → Type 0 where
      t_no_st : TypedSts no_st
      t_st_then : {x : St} {xs : Sts} → TypedSt x → TypedSts xs → TypedSts (st_then x xs)

    -- the arms of an `if` are typed, and each test is a boolean
    pub data TypedArms : IfArms → Type 0 where
      t_no_other : TypedArms no_other
      t_otherwise : {xs : Sts} → TypedSts xs → TypedArms (otherwise xs)
      t_arm : {e : Ex} {xs : Sts} {more : IfArms} → Typed e → is_boolean (static P g e) ≡ true → TypedSts xs → TypedArms more → TypedArms (arm e xs more)

-- the method m stands at or above class c and is of slot s: the class offers the slot
pub record Offers (P : Plain) (c s m : ℕ) : Type 0 where
  pub method : PlainMethod
  pub stands : slice_get P.methods m ≡ Some method
  pub slot : method.slot ≡ Some s
  pub above : below P c method.owner ≡ true

-- a class of which objects can be made has a body for each slot that it offers: its nearest declaration is one
unfoldable pub HasBodies : Plain → ℕ → Type 0
HasBodies P c = (s m : ℕ) → Offers P c s m → (d : ℕ) × (nearest_declaration P c s ≡ Some d) × (has_body P d ≡ true)

-- whether the method that was found is public; true where none was found
abbrev pub is_public_method : Plain → Option ℕ → Bool
is_public_method P None = true
is_public_method P (Some d) = public_of (slice_get P.methods d)
  where
    public_of : Option PlainMethod → Bool
    public_of None = true
    public_of (Some k) = k.is_public

-- a method that a class has for a slot of an interface that it implements is public
unfoldable pub HasPublicMethods : Plain → ℕ → Type 0
HasPublicMethods P c = (s m : ℕ) (o : Offers P c s m) → is_interface P o.method.owner ≡ true → is_public_method P (nearest_declaration P c s) ≡ true

-- the class or interface is typed
pub record IsTypedClass (P : Plain) (c : ℕ) : Type 0 where
  pub bodies : is_concrete P c ≡ true → HasBodies P c
  pub public_methods : is_interface P c ≡ false → HasPublicMethods P c

-- the body of a method is typed, where it has one
unfoldable pub IsTypedMethod : Plain → ℕ → PlainMethod → Type 0
IsTypedMethod P m k = (xs : Sts) → k.body ≡ Some xs → TypedSts P (env_of m k) xs

-- a program is typed: each class, and each body (Java Language Specification, chapters 8, 14 and 15, the subset's part)
pub record IsTyped (P : Plain) : Type 0 where
  pub classes : (c : ℕ) (k : PlainClass) → slice_get P.classes c ≡ Some k → IsTypedClass P c
  pub methods : (m : ℕ) (k : PlainMethod) → slice_get P.methods m ≡ Some k → IsTypedMethod P m k
