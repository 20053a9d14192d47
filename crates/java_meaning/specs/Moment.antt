-- Believed. What a run has at a moment, how it ends, and what it asks of a program.
use Rattle.std.specs.Prelude.{ℕ, zero, suc, ℤ, Bool, true, false, List, [], Option, Some, None}
use Rattle.std.specs.declared.result.Result.{Result}
use Rattle.std.specs.declared.result.Result.TheVariants.{Ok, Err}
use Rattle.java_core.specs.declared.Ty.{Ty}
use Rattle.java_core.specs.declared.Fault.{Fault}
use Rattle.java_core.specs.Trees.{Ex, Sts}
use Rattle.java_core.specs.Types.{Env, class_type}

-- a string by its place in the list of strings, an object or an array by its place in the list of cells
pub data Value : Type 0 where
  Number : ℤ → Value
  Truth : Bool → Value
  -- a char: its code unit
  CodeUnit : ℕ → Value
  Nothing : Value
  Text : ℕ → Value
  Object : ℕ → Value

-- what a cell is: an object of a class, or an array of this type
pub data Kind : Type 0 where
  an_object : ℕ → Kind
  an_array : Ty → Kind

-- an object or an array: the number of the creation that made it (none made the words of `main`), and the values of its fields or elements
pub record Cell : Type 0 where
  pub site : Option ℕ
  pub kind : Kind
  pub values : List Value

-- its own type, and its class where it is an object
abbrev pub own_type : Kind → Ty
own_type (an_object c) = class_type c
own_type (an_array t) = t

-- the class of an object; an array has none
abbrev pub own_class : Kind → Option ℕ
own_class (an_object c) = Some c
own_class (an_array t) = None

-- where a run holds or meets a value: in a body, by the number of its method, and in a cell, by its site
pub data Spot : Type 0 where
  -- the value of an expression
  held : ℕ → Ex → Spot
  -- a local that is set
  bound : ℕ → ℕ → Spot
  -- `this`, and what the body gives
  self_of : ℕ → Spot
  result_of : ℕ → Spot
  -- a static field that is set
  set_static : ℕ → Spot
  -- a field of an object that is set, and the elements of an array
  kept : Option ℕ → ℕ → Spot
  put_in : Option ℕ → Spot
  -- the object whose field is read or written: the expression of the object, and the field
  touched : ℕ → Ex → ℕ → Spot
  -- the object that a cast or instanceof tests, and whether it passes
  tested : ℕ → Ex → Bool → Spot
  -- the receiver of a call that runs the body
  ran : ℕ → Ex → ℕ → Spot

-- what a record of a run notes
pub record Met : Type 0 where
  pub spot : Spot
  pub value : Value
  pub site : Option ℕ

-- the cells, the strings, the static fields by number, what was printed, the steps that are left, and what was noted
pub record State : Type 0 where
  pub cells : List Cell
  pub strings : List (List ℕ)
  pub statics : List Value
  pub out : List ℕ
  pub left : ℕ
  pub met : List Met

-- a body that runs
pub record Frame : Type 0 where
  pub env : Env
  pub self : Value
  pub locals : List Value

-- how a run ends. It is Wrong where no rule says how it goes on; only a run that is watched escapes
pub data End : Type 0 where
  Ended : End
  Faulted : Fault → End
  Going : End
  Wrong : End
  Escaped : End

-- what a run comes to: its end, what was printed, the steps that are left, and what was noted
pub record Outcome : Type 0 where
  pub end : End
  pub out : List ℕ
  pub left : ℕ
  pub met : List Met

-- the outcome of a run that ends here
abbrev pub stop : End → State → Outcome
stop e s = record { end = e; out = s.out; left = s.left; met = s.met }

-- the outcome but for what was noted
abbrev pub unnoted : Outcome → Outcome
unnoted o = record o { met = [] }

-- a method with a body: the types of its parameters, the values that its locals begin with, the value that it gives where it falls off its end, and its code
pub record Body : Type 0 where
  pub env : Env
  pub params : List Ty
  pub rest : List Value
  pub ends : Value
  pub code : Sts

-- what a run asks of a program: members by static types, places and bodies by the object's own class
pub record Lang : Type 0 where
  -- the field that an expression's object has under a name, and the slot that a call of a name on it calls
  pub field : Env → Ex → List ℕ → Option ℕ
  pub slot : Env → Ex → List ℕ → Option ℕ
  pub field_type : ℕ → Option Ty
  -- the place of a field in the objects of a class, and the values of a new one
  pub index : ℕ → ℕ → Option ℕ
  pub fresh : ℕ → List Value
  -- the slot of the constructor of a class, where it has one
  pub maker : ℕ → Option ℕ
  -- the body that an object of the class runs for a slot; that of a static method; that of `super.name()` in a class
  pub body : ℕ → ℕ → Option Body
  pub static_body : ℕ → Option Body
  pub super_body : ℕ → List ℕ → Option Body
  pub is_sub : Ty → Ty → Bool
  -- the static fields at the start
  pub statics : List Value
  -- the watch and the record, of a value and of all arguments of a body: in the meaning itself all passes and nothing is noted
  pub sees : Spot → Value → List Cell → Bool
  pub sees_all : ℕ → List Value → List Cell → Bool
  pub note : Spot → Value → List Cell → List Met → List Met
  pub note_all : ℕ → List Value → List Cell → List Met → List Met

-- one step, where there is one
abbrev pub step_of : ℕ → State → (State → Outcome) → Outcome
step_of zero s go = stop Going s
step_of (suc n) s go = go (record s { left = n })

-- goes on with one step less, where one is left
abbrev pub step : State → (State → Outcome) → Outcome
step s go = step_of s.left s go

-- goes on with what is there
abbrev pub with_some : {A : Type 0} → Option A → State → (A → Outcome) → Outcome
with_some None s go = stop Wrong s
with_some (Some a) s go = go a

-- goes on with what is there, where its absence is a fault of the program that runs
abbrev pub or_fault : {A : Type 0} → Fault → Option A → State → (A → Outcome) → Outcome
or_fault x None s go = stop (Faulted x) s
or_fault x (Some a) s go = go a

-- goes on with the result where there is one, else the run ends by the fault
abbrev pub with_result : {A : Type 0} → Result A Fault → State → (A → Outcome) → Outcome
with_result (Err x) s go = stop (Faulted x) s
with_result (Ok a) s go = go a

-- the two ways of a test whose value is known
abbrev pub on_bool : Bool → State → (State → Outcome) → (State → Outcome) → Outcome
on_bool true s then_go else_go = then_go s
on_bool false s then_go else_go = else_go s

-- a look at a value: the watch lets it pass, and the record may note it
abbrev pub look : Lang → Spot → Value → State → (State → Outcome) → Outcome
look L p v s go = on_bool (L.sees p v s.cells) (record s { met = L.note p v s.cells s.met }) go (stop Escaped)

-- a look at the arguments of a body
abbrev pub look_all : Lang → ℕ → List Value → State → (State → Outcome) → Outcome
look_all L b vs s go = on_bool (L.sees_all b vs s.cells) (record s { met = L.note_all b vs s.cells s.met }) go (stop Escaped)
