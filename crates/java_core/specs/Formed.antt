-- Believed. Which resolved programs are ones that some text has: numbers in range, names in their scopes, forms of the
-- grammar, and none of the conditions that
-- refuse a text's names.
use Rattle.std.specs.Prelude.{◌≡◌, ◌≢◌, ◌↔◌, ◌⊎◌, ℕ, ℤ, zero, suc, ◌<◌, ◌≤◌, ◌||◌, Bool, true, false, List, [], ◌∷◌, ◌++◌, length, map, Contains, Option, Some, None, slice_get, codes, negsuc}
use Rattle.std.specs.Option.{is_some}
use Rattle.kaba_base.specs.declared.ClassId.{ClassId}
use Rattle.java_lex.specs.Writable.{IsName, IsText, IsUnit, IsSmall}
use Rattle.java_core.specs.declared.Ty.{Ty}
use Rattle.java_core.specs.declared.TyBase.{TyBase}
use Rattle.java_core.specs.declared.TyBase.TheVariants.{Int, Boolean, Char, Str, Class}
use Rattle.java_core.specs.declared.UnOp.{UnOp}
use Rattle.java_core.specs.declared.BinOp.{BinOp}
use Rattle.java_core.specs.Trees.{Tag, Ex, Exs, no_ex, ex_then, number, character, text, truth, null, this, local, static_field, own_field, field, index, call, static_call, super_call, create, create_array, cast, instance_of, unary, binary, Target, to_local, to_static, to_own, to_field, to_element, no_target, St, Sts, IfArms, declare, block, assign, act, print, choose, loop, return, break, continue, no_st, st_then, no_other, otherwise, arm}
use Rattle.java_core.specs.Plain.{Plain, PlainClass, PlainField, PlainMethod, PlainLocal, PlainSlot}
use Rattle.java_core.specs.Classes.{IsSubclass, IsProperSubclass, parent_of, field_of}
use Rattle.java_core.specs.Makers.{maker_of, IsMakerOf, IsMakerAbove, IsFormedMaker}
use Rattle.java_core.specs.Types.{types_of}

-- a number literal: below 2 ^ 31, or the least int
pub data IsLiteral : ℤ → Type 0 where
  small : {z : ℤ} → IsSmall z → IsLiteral z
  least : IsLiteral (negsuc 2147483647)

-- a class or an interface of the program
abbrev pub IsClass : Plain → ℕ → Type 0
IsClass P c = c < length P.classes

-- the base of a type is int, boolean, char or String, or a class of the program
abbrev pub IsKnownBase : Plain → TyBase → Type 0
IsKnownBase P (Class c) = IsClass P c.0
IsKnownBase P Int = Unit {0}
IsKnownBase P Boolean = Unit {0}
IsKnownBase P Char = Unit {0}
IsKnownBase P Str = Unit {0}

-- a type whose class is one of the program
abbrev pub IsProgramType : Plain → Ty → Type 0
IsProgramType P t = IsKnownBase P t.base

-- what a cast may be to: int, char, a class or an interface
pub data IsCastType (P : Plain) : Ty → Type 0 where
  to_int : IsCastType P (record { base = Int; dim = 0 })
  to_char : IsCastType P (record { base = Char; dim = 0 })
  to_class : {c : ClassId} → IsClass P c.0 → IsCastType P (record { base = Class c; dim = 0 })

-- the parameters and locals of a method, by number
abbrev pub variables_of : PlainMethod → List PlainLocal
variables_of k = k.params ++ k.locals

-- the local i is declared by k, and none of those in scope has its name
pub record IsNewLocal (k : PlainMethod) (scope : List ℕ) (i : ℕ) : Type 0 where
  pub variable : PlainLocal
  pub declared : slice_get (variables_of k) i ≡ Some variable
  pub no_parameter : length k.params ≤ i
  pub other : (j : ℕ) (v : PlainLocal) → Contains scope j → slice_get (variables_of k) j ≡ Some v → v.name ≢ variable.name

-- the number is that of a static field
pub record IsStaticField (P : Plain) (f : ℕ) : Type 0 where
  pub member : PlainField
  pub stands : slice_get P.fields f ≡ Some member
  pub kind : member.is_static ≡ true

-- the number is that of a static method
pub record IsStaticMethod (P : Plain) (m : ℕ) : Type 0 where
  pub member : PlainMethod
  pub stands : slice_get P.methods m ≡ Some member
  pub kind : member.is_static ≡ true

-- the field f is an instance field, and the nearest of its name upwards from the class c
pub record IsOwnField (P : Plain) (c f : ℕ) : Type 0 where
  pub member : PlainField
  pub stands : slice_get P.fields f ≡ Some member
  pub kind : member.is_static ≡ false
  pub nearest : field_of P c member.name ≡ Some f

-- the locals in scope after a statement
abbrev pub scope_after : List ℕ → St → List ℕ
scope_after scope (declare t i e) = i ∷ scope
scope_after scope _ = scope

-- the locals in scope behind a list of statements
abbrev pub scope_after_all : List ℕ → Sts → List ℕ
scope_after_all scope no_st = scope
scope_after_all scope (st_then x xs) = scope_after_all (scope_after scope x) xs

-- what stands last in the head of a `for`, and as a statement of its own: an assignment, a call, a creation or a print
abbrev pub is_act : St → Bool
is_act (assign t b e) = true
is_act (act t e) = true
is_act (print t n e) = true
is_act _ = false

-- what stands first in the head of a `for`: a declaration too
abbrev pub is_first : St → Bool
is_first (declare t i e) = true
is_first x = is_act x

-- at most one statement, and of this kind
abbrev pub is_at_most_one : (St → Bool) → Sts → Bool
is_at_most_one p no_st = true
is_at_most_one p (st_then x no_st) = p x
is_at_most_one p (st_then x (st_then y ys)) = false

-- what a loop may have before its body: a `while` has a test and neither first nor last part, a `for` may have each of them
pub data IsLoopHead : Bool → Sts → Option Ex → Sts → Type 0 where
  of_while : {e : Ex} → IsLoopHead true no_st (Some e) no_st
  of_for : {first step : Sts} {test : Option Ex} → IsLoopHead false first test step

-- what is a statement by itself: a call or a creation
abbrev pub is_call : Ex → Bool
is_call (call t e x es) = true
is_call (static_call t m es) = true
is_call (super_call t x es) = true
is_call (create t n c es) = true
is_call _ = false

-- what a call names: a method, or in a constructor that of the superclass
abbrev pub IsCalled : Plain → PlainMethod → List ℕ → Type 0
IsCalled P k x = IsName x ⊎ IsMakerAbove P k x

-- the body of a method, with the locals in scope and whether a loop is around
module _ (P : Plain) (k : PlainMethod) where
  mutual
    -- an expression is well formed where these locals are in scope: its literals, names and numbers are in order
    pub data FormedEx (scope : List ℕ) : Ex → Type 0 where
      f_number : {t : Tag} {n : ℤ} → IsLiteral n → FormedEx scope (number t n)
      f_character : {t : Tag} {c : ℕ} → IsUnit c → FormedEx scope (character t c)
      f_text : {t : Tag} {u : List ℕ} → IsText u → FormedEx scope (text t u)
      f_truth : {t : Tag} {b : Bool} → FormedEx scope (truth t b)
      f_null : {t : Tag} → FormedEx scope (null t)
      f_this : {t : Tag} → k.is_static ≡ false → FormedEx scope (this t)
      f_local : {t : Tag} {i : ℕ} → Contains scope i → i < length (variables_of k) → FormedEx scope (local t i)
      f_static_field : {t : Tag} {f : ℕ} → IsStaticField P f → FormedEx scope (static_field t f)
      f_own_field : {t : Tag} {f : ℕ} → k.is_static ≡ false → IsOwnField P k.owner f → FormedEx scope (own_field t f)
      f_field : {t : Tag} {e : Ex} {x : List ℕ} → FormedEx scope e → IsName x → FormedEx scope (field t e x)
      f_index : {t : Tag} {e i : Ex} → FormedEx scope e → FormedEx scope i → FormedEx scope (index t e i)
      f_call : {t : Tag} {e : Ex} {x : List ℕ} {es : Exs} → FormedEx scope e → IsCalled P k x → FormedExs scope es → FormedEx scope (call t e x es)
      f_static_call : {t : Tag} {m : ℕ} {es : Exs} → IsStaticMethod P m → FormedExs scope es → FormedEx scope (static_call t m es)
      f_super_call : {t : Tag} {x : List ℕ} {es : Exs} → k.is_static ≡ false → IsName x → FormedExs scope es → FormedEx scope (super_call t x es)
      f_create : {t : Tag} {n c : ℕ} {es : Exs} → IsClass P c → FormedExs scope es → FormedEx scope (create t n c es)
      f_create_array : {t : Tag} {n : ℕ} {u : Ty} {e : Ex} → IsProgramType P u → 0 < u.dim → FormedEx scope e → FormedEx scope (create_array t n u e)
      f_cast : {t : Tag} {n : ℕ} {u : Ty} {e : Ex} → IsCastType P u → FormedEx scope e → FormedEx scope (cast t n u e)
      f_instance_of : {t : Tag} {n c : ℕ} {e : Ex} → FormedEx scope e → IsClass P c → FormedEx scope (instance_of t n e c)
      f_unary : {t : Tag} {o : UnOp} {e : Ex} → FormedEx scope e → FormedEx scope (unary t o e)
      f_binary : {t : Tag} {o : BinOp} {e d : Ex} → FormedEx scope e → FormedEx scope d → FormedEx scope (binary t o e d)

    -- each expression of a list is well formed
    pub data FormedExs (scope : List ℕ) : Exs → Type 0 where
      f_no_ex : FormedExs scope no_ex
      f_ex_then : {e : Ex} {es : Exs} → FormedEx scope e → FormedExs scope es → FormedExs scope (ex_then e es)

  -- the target of an assignment is well formed: a variable in scope, a field, or an element
  pub data FormedTarget (scope : List ℕ) : Target → Type 0 where
    f_to_local : {t : Tag} {i : ℕ} → Contains scope i → i < length (variables_of k) → FormedTarget scope (to_local t i)
    f_to_static : {t : Tag} {f : ℕ} → IsStaticField P f → FormedTarget scope (to_static t f)
    f_to_own : {t : Tag} {f : ℕ} → k.is_static ≡ false → IsOwnField P k.owner f → FormedTarget scope (to_own t f)
    f_to_field : {t : Tag} {e : Ex} {x : List ℕ} → FormedEx scope e → IsName x → FormedTarget scope (to_field t e x)
    f_to_element : {t : Tag} {e i : Ex} → FormedEx scope e → FormedEx scope i → FormedTarget scope (to_element t e i)

  -- an expression that may be absent is well formed where it is there
  pub data FormedOption (scope : List ℕ) : Option Ex → Type 0 where
    f_none : FormedOption scope None
    f_some : {e : Ex} → FormedEx scope e → FormedOption scope (Some e)

  mutual
    -- a statement is well formed, inside a loop or not, where these locals are in scope
    pub data FormedSt : Bool → List ℕ → St → Type 0 where
      f_declare : {in_loop : Bool} {scope : List ℕ} {t : Tag} {i : ℕ} {e : Option Ex} → IsNewLocal k scope i → FormedOption (i ∷ scope) e
          → FormedSt in_loop scope (declare t i e)
      f_block : {in_loop : Bool} {scope : List ℕ} {t : Tag} {xs : Sts} → FormedSts in_loop scope xs → FormedSt in_loop scope (block t xs)
      f_assign : {in_loop : Bool} {scope : List ℕ} {t : Tag} {b : Target} {e : Ex} → FormedTarget scope b → FormedEx scope e
          → FormedSt in_loop scope (assign t b e)
      f_act : {in_loop : Bool} {scope : List ℕ} {t : Tag} {e : Ex} → is_call e ≡ true → FormedEx scope e → FormedSt in_loop scope (act t e)
      f_print : {in_loop : Bool} {scope : List ℕ} {t : Tag} {n : Bool} {e : Option Ex} → n || is_some e ≡ true → FormedOption scope e
          → FormedSt in_loop scope (print t n e)
      f_choose : {in_loop : Bool} {scope : List ℕ} {t : Tag} {e : Ex} {xs : Sts} {more : IfArms} → FormedArms in_loop scope (arm e xs more)
          → FormedSt in_loop scope (choose t (arm e xs more))
      f_loop : {in_loop is_while : Bool} {scope : List ℕ} {t : Tag} {first step body : Sts} {test : Option Ex} → IsLoopHead is_while first test step
          → is_at_most_one is_first first ≡ true → is_at_most_one is_act step ≡ true
          → FormedSts in_loop scope first → FormedOption (scope_after_all scope first) test → FormedSts in_loop (scope_after_all scope first) step
          → FormedSts true (scope_after_all scope first) body → FormedSt in_loop scope (loop t is_while first test step body)
      f_return : {in_loop : Bool} {scope : List ℕ} {t : Tag} {e : Option Ex} → FormedOption scope e → FormedSt in_loop scope (return t e)
      f_break : {in_loop : Bool} {scope : List ℕ} {t : Tag} → in_loop ≡ true → FormedSt in_loop scope (break t)
      f_continue : {in_loop : Bool} {scope : List ℕ} {t : Tag} → in_loop ≡ true → FormedSt in_loop scope (continue t)

    -- statements are well formed one after another, each in the scope that those before it leave
    pub data FormedSts : Bool → List ℕ → Sts → Type 0 where
      f_no_st : {in_loop : Bool} {scope : List ℕ} → FormedSts in_loop scope no_st
      f_st_then : {in_loop : Bool} {scope : List ℕ} {x : St} {xs : Sts} → FormedSt in_loop scope x → FormedSts in_loop (scope_after scope x) xs
          → FormedSts in_loop scope (st_then x xs)

    -- the arms of an `if` are well formed: their tests and their bodies
    pub data FormedArms : Bool → List ℕ → IfArms → Type 0 where
      f_no_other : {in_loop : Bool} {scope : List ℕ} → FormedArms in_loop scope no_other
      f_otherwise : {in_loop : Bool} {scope : List ℕ} {xs : Sts} → FormedSts in_loop scope xs → FormedArms in_loop scope (otherwise xs)
      f_arm : {in_loop : Bool} {scope : List ℕ} {e : Ex} {xs : Sts} {more : IfArms} → FormedEx scope e → FormedSts in_loop scope xs
          → FormedArms in_loop scope more → FormedArms in_loop scope (arm e xs more)

-- the numbers of the creations, casts and instanceof of trees
abbrev mutual
  -- the numbers of the creations, casts and `instanceof` of an expression, from left to right
  pub numbers : Ex → List ℕ
  numbers (number t n) = []
  numbers (character t c) = []
  numbers (text t u) = []
  numbers (truth t b) = []
  numbers (null t) = []
  numbers (this t) = []
  numbers (local t i) = []
  numbers (static_field t f) = []
  numbers (own_field t f) = []
  numbers (field t e x) = numbers e
  numbers (index t e i) = numbers e ++ numbers i
  numbers (call t e x es) = numbers e ++ numbers_all es
  numbers (static_call t m es) = numbers_all es
  numbers (super_call t x es) = numbers_all es
  numbers (create t n c es) = n ∷ numbers_all es
  numbers (create_array t n u e) = n ∷ numbers e
  numbers (cast t n u e) = n ∷ numbers e
  numbers (instance_of t n e c) = numbers e ++ n ∷ []
  numbers (unary t o e) = numbers e
  numbers (binary t o e d) = numbers e ++ numbers d

  -- the same of a list of expressions
  pub numbers_all : Exs → List ℕ
  numbers_all no_ex = []
  numbers_all (ex_then e es) = numbers e ++ numbers_all es

-- the same of an expression that may be absent
abbrev pub numbers_if : Option Ex → List ℕ
numbers_if None = []
numbers_if (Some e) = numbers e

-- the same of the target of an assignment
abbrev pub numbers_target : Target → List ℕ
numbers_target (to_local t i) = []
numbers_target (to_static t f) = []
numbers_target (to_own t f) = []
numbers_target (to_field t e x) = numbers e
numbers_target (to_element t e i) = numbers e ++ numbers i
numbers_target no_target = []

abbrev mutual
  -- the same of a statement
  pub numbers_st : St → List ℕ
  numbers_st (declare t i e) = numbers_if e
  numbers_st (block t xs) = numbers_sts xs
  numbers_st (assign t b e) = numbers_target b ++ numbers e
  numbers_st (act t e) = numbers e
  numbers_st (print t n e) = numbers_if e
  numbers_st (choose t xs) = numbers_arms xs
  numbers_st (loop t w first test step body) = numbers_sts first ++ numbers_if test ++ numbers_sts step ++ numbers_sts body
  numbers_st (return t e) = numbers_if e
  numbers_st (break t) = []
  numbers_st (continue t) = []

  -- the same of a list of statements
  pub numbers_sts : Sts → List ℕ
  numbers_sts no_st = []
  numbers_sts (st_then x xs) = numbers_st x ++ numbers_sts xs

  -- the same of the arms of an `if`
  pub numbers_arms : IfArms → List ℕ
  numbers_arms no_other = []
  numbers_arms (otherwise xs) = numbers_sts xs
  numbers_arms (arm e xs more) = numbers e ++ numbers_sts xs ++ numbers_arms more

-- the same of the body of a method; none where there is no body
abbrev pub numbers_body : Option Sts → List ℕ
numbers_body None = []
numbers_body (Some xs) = numbers_sts xs

-- the same of all methods, in their order
abbrev pub numbers_methods : List PlainMethod → List ℕ
numbers_methods [] = []
numbers_methods (k ∷ ks) = numbers_body k.body ++ numbers_methods ks

-- no two places of a list hold the same
unfoldable pub HasNoTwice : {A : Type 0} → List A → Type 0
HasNoTwice xs = (i j : ℕ) (x : _) → slice_get xs i ≡ Some x → slice_get xs j ≡ Some x → i ≡ j

-- a name that a variable, parameter or field may have: of no class, and none of the known ones
pub record IsVariableName (P : Plain) (x : List ℕ) : Type 0 where
  pub name : IsName x
  pub no_class : (c : ℕ) (k : PlainClass) → slice_get P.classes c ≡ Some k → k.name ≢ x
  pub no_string : x ≢ codes "String"
  pub no_system : x ≢ codes "System"

-- class 0 is Object, without supertypes
pub record HasObject (P : Plain) : Type 0 where
  pub object : PlainClass
  pub first : slice_get P.classes 0 ≡ Some object
  pub name : object.name ≡ codes "Object"
  pub class : object.is_interface ≡ false
  pub concrete : object.is_abstract ≡ false
  pub parent : object.parent ≡ None
  pub faces : object.faces ≡ []

-- a class has a class as its parent, an interface has Object; what it names as interfaces are interfaces, each once
pub record IsFormedClass (P : Plain) (k : PlainClass) : Type 0 where
  pub name : IsName k.name
  pub no_string : k.name ≢ codes "String"
  pub no_system : k.name ≢ codes "System"
  pub parent : ClassId
  pub has_parent : k.parent ≡ Some parent
  pub above : PlainClass
  pub parent_stands : slice_get P.classes parent.0 ≡ Some above
  pub parent_class : above.is_interface ≡ false
  pub interface_parent : k.is_interface ≡ true → parent.0 ≡ 0
  pub faces : (f : ClassId) → Contains k.faces f → (i : PlainClass) × (slice_get P.classes f.0 ≡ Some i) × (i.is_interface ≡ true)
  pub faces_once : HasNoTwice k.faces

-- a field of a class, whose name no other field of the class has
pub record IsFormedField (P : Plain) (f : PlainField) : Type 0 where
  pub name : IsVariableName P f.name
  pub type : IsProgramType P f.ty
  pub no_object : f.owner ≢ 0
  pub holder : PlainClass
  pub stands : slice_get P.classes f.owner ≡ Some holder
  pub class : holder.is_interface ≡ false

-- a parameter or local has a variable's name and a type of the program
pub record IsFormedLocal (P : Plain) (v : PlainLocal) : Type 0 where
  pub name : IsVariableName P v.name
  pub type : IsProgramType P v.ty

-- the methods of the slot s are the instance methods of its name, parameter types and result
pub record IsInSlot (P : Plain) (s : ℕ) (k : PlainMethod) : Type 0 where
  pub slot : PlainSlot
  pub stands : slice_get P.slots s ≡ Some slot
  pub instance : k.is_static ≡ false
  pub name : k.name ≡ slot.name
  pub params : types_of k.params ≡ slot.params
  pub result : k.result ≡ slot.result

-- the result of a method is void or a type of the program
abbrev pub IsKnownResult : Plain → Option Ty → Type 0
IsKnownResult P None = Unit {0}
IsKnownResult P (Some t) = IsProgramType P t

-- the numbers of the parameters
abbrev pub numbers_below : ℕ → List ℕ
numbers_below zero = []
numbers_below (suc n) = n ∷ numbers_below n

-- a method is well formed: its name, its variables, its result, its class, its slot and its body
pub record IsFormedMethod (P : Plain) (k : PlainMethod) : Type 0 where
  pub name : IsName k.name ⊎ IsMakerOf P k
  pub variables : (v : PlainLocal) → Contains (variables_of k) v → IsFormedLocal P v
  pub params : HasNoTwice (map (λ v. v.name) k.params)
  pub result : IsKnownResult P k.result
  pub no_object : k.owner ≢ 0
  pub holder : PlainClass
  pub stands : slice_get P.classes k.owner ≡ Some holder
  pub in_interface : holder.is_interface ≡ true → (k.is_static ≡ false) × (k.body ≡ None)
  -- what has no body stands where no objects are made
  pub bodyless : k.body ≡ None → (k.is_static ≡ false) × (holder.is_interface || holder.is_abstract ≡ true)
  pub code : (xs : Sts) → k.body ≡ Some xs → FormedSts P k false (numbers_below (length k.params)) xs
  -- an instance method has a slot, and which one
  pub slotted : k.is_static ≡ false → (s : ℕ) × (k.slot ≡ Some s)
  pub slots : (s : ℕ) → k.slot ≡ Some s ↔ IsInSlot P s k

-- each slot has a first method
pub record IsFormedSlot (P : Plain) (s : ℕ) (slot : PlainSlot) : Type 0 where
  pub method : PlainMethod
  pub stands : slice_get P.methods slot.first ≡ Some method
  pub of : method.slot ≡ Some s
  pub least : (m : ℕ) (k : PlainMethod) → slice_get P.methods m ≡ Some k → k.slot ≡ Some s → slot.first ≤ m

-- a method that a run may begin with: static, void, called `main`, with one parameter of type String[]
pub record IsMain (k : PlainMethod) : Type 0 where
  pub static : k.is_static ≡ true
  pub name : k.name ≡ codes "main"
  pub params : types_of k.params ≡ record { base = Str; dim = 1 } ∷ []
  pub result : k.result ≡ None

-- each class, field, method and slot has a number of 32 bits
pub record HasSmallNumbers (P : Plain) : Type 0 where
  pub classes : length P.classes < 4294967295
  pub fields : length P.fields < 4294967295
  pub methods : length P.methods < 4294967295
  pub slots : length P.slots < 4294967295

-- a program is formed
pub record IsFormed (P : Plain) : Type 0 where
  pub object : HasObject P
  pub classes : (c : ℕ) (k : PlainClass) → slice_get P.classes (suc c) ≡ Some k → IsFormedClass P k
  pub class_names : HasNoTwice (map (λ k. k.name) P.classes)
  pub acyclic : (c : ℕ) → IsProperSubclass P c c → ⊥
  pub fields : (f : ℕ) (k : PlainField) → slice_get P.fields f ≡ Some k → IsFormedField P k
  pub field_names : (f g : ℕ) (h k : PlainField) → slice_get P.fields f ≡ Some h → slice_get P.fields g ≡ Some k → h.owner ≡ k.owner → h.name ≡ k.name → f ≡ g
  pub methods : (m : ℕ) (k : PlainMethod) → slice_get P.methods m ≡ Some k → IsFormedMethod P k
  pub method_names : (m n : ℕ) (h k : PlainMethod) → slice_get P.methods m ≡ Some h → slice_get P.methods n ≡ Some k → h.owner ≡ k.owner
      → h.name ≡ k.name → m ≡ n
  -- the methods of one name at or above a class are all of one slot
  pub one_slot : (c m n : ℕ) (h k : PlainMethod) → slice_get P.methods m ≡ Some h → slice_get P.methods n ≡ Some k → IsSubclass P c h.owner
      → IsSubclass P c k.owner
      → h.name ≡ k.name → (m ≡ n) ⊎ ((h.is_static ≡ false) × (h.slot ≡ k.slot))
  pub slots : (s : ℕ) (slot : PlainSlot) → slice_get P.slots s ≡ Some slot → IsFormedSlot P s slot
  pub makers : (m : ℕ) (k : PlainMethod) → slice_get P.methods m ≡ Some k → (i : IsMakerOf P k) → IsFormedMaker P i.class k
  -- a class has a constructor where its superclass has one
  pub inherited : (c : ℕ) (b : ClassId) → parent_of P c ≡ Some b → is_some (maker_of P b.0) ≡ true → is_some (maker_of P c) ≡ true
  pub numbered : HasNoTwice (numbers_methods P.methods)
  pub main : PlainMethod
  pub main_stands : slice_get P.methods P.main ≡ Some main
  pub main_is : IsMain main
  pub main_first : (m : ℕ) (k : PlainMethod) → slice_get P.methods m ≡ Some k → IsMain k → main.owner ≤ k.owner
  pub counted : HasSmallNumbers P
