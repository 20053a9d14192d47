-- Believed. What a program does: a run by recursion on the depth of its calls and loops and on the tree. A value goes
-- to the function that takes it, and so
-- does the end of a statement.
use Rattle.std.specs.Prelude.{ℕ, zero, suc, ℤ, Bool, true, false, List, [], ◌∷◌, ◌++◌, length, Option, Some, None, slice_get, slice_set, ◌&&◌, ◌||◌}
use Rattle.std.specs.Option.{option_and_then}
use Rattle.java_core.specs.declared.Ty.{Ty}
use Rattle.java_core.specs.declared.TyBase.{TyBase}
use Rattle.java_core.specs.declared.TyBase.TheVariants.{Int, Boolean, Char, Str, Class}
use Rattle.java_core.specs.declared.BinOp.{BinOp}
use Rattle.java_core.specs.declared.BinOp.TheVariants as bin
use Rattle.java_core.specs.declared.Op.{Op}
use Rattle.java_core.specs.declared.Fault.TheVariants as fault
use Rattle.java_core.specs.Trees.{Ex, Exs, no_ex, ex_then, number, character, text, truth, null, this, local, static_field, own_field, field, index, call, static_call, super_call, create, create_array, cast, instance_of, unary, binary, Target, to_local, to_static, to_own, to_field, to_element, no_target, St, Sts, IfArms, declare, block, assign, act, print, choose, loop, return, break, continue, no_st, st_then, no_other, otherwise, arm}
use Rattle.java_core.specs.Types.{Env, class_type, element_in, is_length, StringMethod, LengthOf, CharAt, Equals, string_method, is_plus}
use Rattle.java_meaning.specs.Moment.{Value, Number, Truth, CodeUnit, Nothing, Text, Object, Kind, an_object, an_array, Cell, own_type, own_class, held, bound, self_of, result_of, set_static, kept, put_in, touched, tested, ran, State, Frame, Ended, Faulted, Going, Wrong, Outcome, stop, Body, Lang, step, with_some, or_fault, with_result, on_bool, look, look_all}
use Rattle.java_meaning.specs.Values.{default_of, convert, arguments, number_of, truth_of, natural_of, int_of, text_of, bytes_of, line_end, arith, unary_value, cast_number, same_value, compared, join, is_text, defaults, equals_value}

-- how a statement ends
pub data Flow : Type 0 where
  Next : Flow
  Broke : Flow
  Continued : Flow
  Gave : Value → Flow

-- where an expression's value goes, and where a statement's end goes
abbrev pub ToValue : Type 0
ToValue = Value → State → Outcome

-- where a statement's end goes, with the frame and the state at it
abbrev pub ToFlow : Type 0
ToFlow = Flow → Frame → State → Outcome

-- what statements do after a step
abbrev pub Later : Type 0
Later = Sts → Frame → State → ToFlow → Outcome

-- the two ways of a test
abbrev pub on_test : Value → State → (State → Outcome) → (State → Outcome) → Outcome
on_test (Truth b) s then_go else_go = on_bool b s then_go else_go
on_test (Number n) s then_go else_go = stop Wrong s
on_test (CodeUnit c) s then_go else_go = stop Wrong s
on_test Nothing s then_go else_go = stop Wrong s
on_test (Text a) s then_go else_go = stop Wrong s
on_test (Object a) s then_go else_go = stop Wrong s

-- goes on with the cell that a value names, where it is not null
abbrev pub with_cell : Value → State → (ℕ → Cell → Outcome) → Outcome
with_cell Nothing s go = stop (Faulted fault.Null) s
with_cell (Object a) s go = with_some (slice_get s.cells a) s (λ c. go a c)
with_cell (Number n) s go = stop Wrong s
with_cell (Truth b) s go = stop Wrong s
with_cell (CodeUnit c) s go = stop Wrong s
with_cell (Text a) s go = stop Wrong s

-- a new cell, a new string, and a value put into a cell
abbrev pub add_cell : Cell → State → State
add_cell c s = record s { cells = s.cells ++ c ∷ [] }

-- the state with one more string
abbrev pub add_string : List ℕ → State → State
add_string u s = record s { strings = s.strings ++ u ∷ [] }

-- the state where the value i of the cell a, which is c, is set
abbrev pub set_value : ℕ → Cell → ℕ → Value → State → State
set_value a c i v s = record s { cells = slice_set s.cells a (record c { values = slice_set c.values i v }) }

-- the frame where a local is set
abbrev pub set_local : Frame → ℕ → Value → Frame
set_local f x v = record f { locals = slice_set f.locals x v }

-- a new string
abbrev pub give_string : List ℕ → State → ToValue → Outcome
give_string u s k = k (Text (length s.strings)) (add_string u s)

-- a static field is read, and set
abbrev pub read_static : ℕ → State → ToValue → Outcome
read_static x s k = with_some (slice_get s.statics x) s (λ v. k v s)

-- a static field is set, to the value as its type holds it
abbrev pub write_static : Lang → ℕ → Value → State → (State → Outcome) → Outcome
write_static L x v s k =
    with_some (L.field_type x) s (λ t. with_some (slice_get s.statics x) s (λ old. look L (set_static x) (convert t v) s (λ s1.
    k (record s1 { statics = slice_set s1.statics x (convert t v) }))))

-- a field of an object is read, and set: e is the expression that gives the object, d that of the access
abbrev pub read_field : Lang → ℕ → Ex → Ex → Option ℕ → ℕ → Cell → State → ToValue → Outcome
read_field L b e d x a c s k =
    with_some (own_class c.kind) s (λ t. with_some x s (λ j. with_some (L.index t j) s (λ i. with_some (slice_get c.values i) s (λ u.
    look L (touched b e j) (Object a) s (λ s1. look L (held b d) u s1 (λ s2. k u s2))))))

-- a field of an object is set, to the value as its type holds it
abbrev pub write_field : Lang → ℕ → Ex → Option ℕ → Value → ℕ → Cell → State → (State → Outcome) → Outcome
write_field L b e x v a c s k =
    with_some (own_class c.kind) s
    (λ t. with_some x s (λ j. with_some (L.field_type j) s (λ u. with_some (L.index t j) s (λ i. with_some (slice_get c.values i) s (λ old.
    look L (touched b e j) (Object a) s (λ s1. look L (kept c.site j) (convert u v) s1 (λ s2. k (set_value a c i (convert u v) s2))))))))

-- whether a name is that of an array's length: no field is found under it
abbrev pub names_length : Option ℕ → List ℕ → Bool
names_length None x = is_length x
names_length (Some f) x = false

-- a field of an object, or the length of an array; a name under which the static type of the base has a field is that of no length
abbrev pub read_member : Lang → Env → Ex → Ex → List ℕ → Kind → ℕ → Cell → State → ToValue → Outcome
read_member L g e d x (an_object t) a c s k = read_field L g.body e d (L.field g e x) a c s k
read_member L g e d x (an_array t) a c s k = on_bool (names_length (L.field g e x) x) s (λ s1. k (Number (int_of (length c.values))) s1) (stop Wrong)

-- an element of an array is read, and set: null, bounds and the store's type are tested in this order
abbrev pub element_type : Kind → Option Ty
element_type (an_object c) = None
element_type (an_array t) = element_in t.base t.dim

-- the place of an array that a number names, where it has one
abbrev pub place_in : Cell → ℤ → Option ℕ
place_in c i = option_and_then (λ n. option_and_then (λ v. Some n) (slice_get c.values n)) (natural_of i)

-- an element of an array is read
abbrev pub read_element : Lang → ℕ → Ex → Value → ℤ → State → ToValue → Outcome
read_element L b d v i s k =
    with_cell v s (λ a c. with_some (element_type c.kind) s (λ t. or_fault fault.Bounds (option_and_then (λ n. slice_get c.values n) (natural_of i)) s (λ u.
    look L (held b d) u s (λ s1. k u s1))))

-- goes on where the value may be stored in an array of elements of the type; else the store is a fault
abbrev pub on_fitting : Lang → Value → Ty → State → (State → Outcome) → Outcome
on_fitting L (Object b) t s go = with_some (slice_get s.cells b) s (λ d. on_bool (L.is_sub (own_type d.kind) t) s go (stop (Faulted fault.ArrayStore)))
on_fitting L (Number n) t s go = go s
on_fitting L (Truth n) t s go = go s
on_fitting L (CodeUnit n) t s go = go s
on_fitting L Nothing t s go = go s
on_fitting L (Text n) t s go = go s

-- an element of an array is set
abbrev pub write_element : Lang → Value → ℤ → Value → State → (State → Outcome) → Outcome
write_element L v i u s k =
    with_cell v s (λ a c. with_some (element_type c.kind) s (λ t. or_fault fault.Bounds (place_in c i) s (λ n. on_fitting L u t s (λ s1.
    look L (put_in c.site) (convert t u) s1 (λ s2. k (set_value a c n (convert t u) s2))))))

-- the value of a call
abbrev pub given : Body → Flow → Value
given b Next = b.ends
given b Broke = b.ends
given b Continued = b.ends
given b (Gave v) = v

-- a body runs on its arguments
abbrev pub enter : Lang → Later → Body → Value → List Value → State → ToValue → Outcome
enter L later b v vs s k =
    with_some (arguments b.params vs) s (λ ws. look_all L b.env.body ws s (λ s1.
    later b.code (record { env = b.env; self = v; locals = ws ++ b.rest }) s1 (λ w f s2. k (given b w) s2)))

-- a call on an object, once the receiver and the arguments are there: a step, and the body of its own class
abbrev pub call_object : Lang → Later → Env → Ex → Ex → List ℕ → ℕ → Cell → List Value → State → ToValue → Outcome
call_object L later g e d x a c vs s k =
    with_some (own_class c.kind) s (λ t. step s (λ s1. with_some (L.slot g e x) s1 (λ j. with_some (L.body t j) s1 (λ b.
    look L (ran g.body d b.env.body) (Object a) s1 (λ s2. look L (self_of b.env.body) (Object a) s2 (λ s3.
    enter L later b (Object a) vs s3 (λ u s4. look L (held g.body d) u s4 (λ s5. k u s5))))))))

-- the methods of a string, which take no step
abbrev pub string_call : StringMethod → List ℕ → List Value → State → ToValue → Outcome
string_call LengthOf u [] s k = k (Number (int_of (length u))) s
string_call CharAt u (v ∷ []) s k =
    with_some (number_of v) s (λ i. or_fault fault.Bounds (option_and_then (λ n. slice_get u n) (natural_of i)) s (λ c. k (CodeUnit c) s))
string_call Equals u (v ∷ []) s k = with_some (equals_value s.strings u v) s (λ b. k (Truth b) s)
string_call m u vs s k = stop Wrong s

-- the method of a string that a name calls: no slot is found under it
abbrev pub text_method : Option ℕ → List ℕ → Option StringMethod
text_method None x = string_method x
text_method (Some j) x = None

-- a call on a value: arguments are there before the receiver is tested; a name under which the static type of the receiver has a slot calls no method
-- of a string
abbrev pub call_on : Lang → Later → Env → Ex → Ex → List ℕ → Value → List Value → State → ToValue → Outcome
call_on L later g e d x Nothing vs s k = stop (Faulted fault.Null) s
call_on L later g e d x (Text a) vs s k = with_some (slice_get s.strings a) s (λ u. with_some (text_method (L.slot g e x) x) s (λ m. string_call m u vs s k))
call_on L later g e d x (Object a) vs s k = with_some (slice_get s.cells a) s (λ c. call_object L later g e d x a c vs s k)
call_on L later g e d x (Number n) vs s k = stop Wrong s
call_on L later g e d x (Truth b) vs s k = stop Wrong s
call_on L later g e d x (CodeUnit c) vs s k = stop Wrong s

-- a call of a static method
abbrev pub call_static : Lang → Later → Env → Ex → ℕ → List Value → State → ToValue → Outcome
call_static L later g d m vs s k =
    step s (λ s1. with_some (L.static_body m) s1 (λ b. enter L later b Nothing vs s1 (λ u s2. look L (held g.body d) u s2 (λ s3. k u s3))))

-- a call of the method that the superclass has, on `this`
abbrev pub call_super : Lang → Later → Env → Ex → List ℕ → Value → List Value → State → ToValue → Outcome
call_super L later g d x v vs s k =
    step s (λ s1. with_some (L.super_body g.self x) s1 (λ b. look L (self_of b.env.body) v s1 (λ s2.
    enter L later b v vs s2 (λ u s3. look L (held g.body d) u s3 (λ s4. k u s4)))))

-- a new object, and a new array of this many elements
abbrev pub make_cell : Lang → ℕ → Ex → Cell → State → ToValue → Outcome
make_cell L b d c s k = look L (held b d) (Object (length s.cells)) (add_cell c s) (λ s1. k (Object (length s.cells)) s1)

-- a new object of a class, with the defaults of its fields
abbrev pub new_object : Lang → ℕ → Ex → ℕ → ℕ → State → ToValue → Outcome
new_object L b d n c s k = make_cell L b d (record { site = Some n; kind = an_object c; values = L.fresh c }) s k

-- a constructor runs on a new object: the body that the object's class has for its slot. The creation gives the object
abbrev pub construct : Lang → Later → Env → Ex → ℕ → ℕ → Value → List Value → State → ToValue → Outcome
construct L later g d c j v vs s k =
    with_some (L.body c j) s (λ b. look L (ran g.body d b.env.body) v s (λ s1. look L (self_of b.env.body) v s1 (λ s2.
    enter L later b v vs s2 (λ u s3. k v s3))))

-- a creation of a class without a constructor takes one step and no arguments; one with a constructor takes three steps, together, and runs it on
-- the arguments
abbrev pub made_by : Lang → Later → Env → Ex → ℕ → ℕ → Option ℕ → List Value → State → ToValue → Outcome
made_by L later g d n c None [] s k = step s (λ s1. new_object L g.body d n c s1 k)
made_by L later g d n c None (v ∷ vs) s k = stop Wrong s
made_by L later g d n c (Some j) vs s k =
    step s (λ s1. step s1 (λ s2. step s2 (λ s3. new_object L g.body d n c s3 (λ v s4. construct L later g d c j v vs s4 k))))

-- a creation, once its arguments are there (Java Language Specification, 15.9.4, the subset's part)
abbrev pub make_object : Lang → Later → Env → Ex → ℕ → ℕ → List Value → State → ToValue → Outcome
make_object L later g d n c vs s k = made_by L later g d n c (L.maker c) vs s k

-- a new array of so many elements, each at its type's default; a negative size is a fault
abbrev pub make_array : Lang → Env → Ex → ℕ → Ty → ℤ → State → ToValue → Outcome
make_array L g d n t size s k =
    with_some (element_in t.base t.dim) s (λ u. or_fault fault.NegativeSize (natural_of size) s (λ many.
    step s (λ s1. make_cell L g.body d (record { site = Some n; kind = an_array t; values = defaults u many }) s1 k)))

-- a cast: of a number to int or char, or of an object to a class; null passes
abbrev pub is_number_type : TyBase → ℕ → Bool
is_number_type Int zero = true
is_number_type Char zero = true
is_number_type Int (suc n) = false
is_number_type Char (suc n) = false
is_number_type Boolean n = false
is_number_type Str n = false
is_number_type (Class c) n = false

-- a cast of null, an object or an array: what is of no subtype of the type is a fault
abbrev pub cast_object : Lang → ℕ → Ex → Ty → Value → State → ToValue → Outcome
cast_object L b d t Nothing s k = k Nothing s
cast_object L b d t (Object a) s k =
    with_some (slice_get s.cells a) s (λ c. look L (tested b d (L.is_sub (own_type c.kind) t)) (Object a) s (λ s1.
    on_bool (L.is_sub (own_type c.kind) t) s1 (λ s2. look L (held b d) (Object a) s2 (λ s3. k (Object a) s3)) (stop (Faulted fault.ClassCast))))
cast_object L b d t (Number n) s k = stop Wrong s
cast_object L b d t (Truth n) s k = stop Wrong s
cast_object L b d t (CodeUnit n) s k = stop Wrong s
cast_object L b d t (Text n) s k = stop Wrong s

-- a cast of a value to a type
abbrev pub cast_to : Lang → ℕ → Ex → Ty → Value → State → ToValue → Outcome
cast_to L b d t v s k = on_bool (is_number_type t.base t.dim) s (λ s1. with_some (number_of v) s1 (λ a. k (cast_number t.base a) s1))
    (λ s1. cast_object L b d t v s1 k)

-- `instanceof`: whether an object is of the class or below it; null is not
abbrev pub test_class : Lang → ℕ → Ex → ℕ → Value → State → ToValue → Outcome
test_class L b d t Nothing s k = k (Truth false) s
test_class L b d t (Object a) s k =
    with_some (slice_get s.cells a) s (λ c. look L (tested b d (L.is_sub (own_type c.kind) (class_type t))) (Object a) s (λ s1.
    k (Truth (L.is_sub (own_type c.kind) (class_type t))) s1))
test_class L b d t (Number n) s k = stop Wrong s
test_class L b d t (Truth n) s k = stop Wrong s
test_class L b d t (CodeUnit n) s k = stop Wrong s
test_class L b d t (Text n) s k = stop Wrong s

-- the right side of a binary operator is left out where the left side of `&&` or `||` decides
abbrev pub after_left : BinOp → Value → State → (State → Outcome) → ToValue → Outcome
after_left bin.Both v s right k = on_test v s right (λ s1. k (Truth false) s1)
after_left bin.Either v s right k = on_test v s (λ s1. k (Truth true) s1) right
after_left (bin.Int o) v s right k = right s
after_left bin.Same v s right k = right s
after_left bin.Differs v s right k = right s
after_left bin.Less v s right k = right s
after_left bin.Greater v s right k = right s
after_left bin.AtMost v s right k = right s
after_left bin.AtLeast v s right k = right s

-- two texts are joined to a new string; two numbers, else a join where one side is a text
abbrev pub join_values : Value → Value → State → ToValue → Outcome
join_values v w s k =
    with_some (text_of s.strings v) s (λ a. with_some (text_of s.strings w) s (λ b. with_result (join a b) s (λ u. give_string u s k)))

-- an operator on ints: on two numbers its result, else a join where one is asked for
abbrev pub compute : Bool → Option ℤ → Option ℤ → Value → Value → Op → State → ToValue → Outcome
compute joins (Some a) (Some b) v w o s k = with_result (arith o a b) s (λ n. k (Number n) s)
compute joins (Some a) None v w o s k = on_bool joins s (λ s1. join_values v w s1 k) (stop Wrong)
compute joins None b v w o s k = on_bool joins s (λ s1. join_values v w s1 k) (stop Wrong)

-- what a binary operator gives once both sides are there
abbrev pub operate : BinOp → Value → Value → State → ToValue → Outcome
operate (bin.Int o) v w s k = compute (is_plus o && (is_text v || is_text w)) (number_of v) (number_of w) v w o s k
operate bin.Same v w s k = with_some (same_value v w) s (λ b. k (Truth b) s)
operate bin.Differs v w s k = with_some (same_value v w) s (λ b. on_bool b s (λ s1. k (Truth false) s1) (λ s1. k (Truth true) s1))
operate bin.Both v w s k = with_some (truth_of w) s (λ b. k (Truth b) s)
operate bin.Either v w s k = with_some (truth_of w) s (λ b. k (Truth b) s)
operate bin.Less v w s k = with_some (number_of v) s (λ a. with_some (number_of w) s (λ b. with_some (compared bin.Less a b) s (λ t. k (Truth t) s)))
operate bin.Greater v w s k = with_some (number_of v) s (λ a. with_some (number_of w) s (λ b. with_some (compared bin.Greater a b) s (λ t. k (Truth t) s)))
operate bin.AtMost v w s k = with_some (number_of v) s (λ a. with_some (number_of w) s (λ b. with_some (compared bin.AtMost a b) s (λ t. k (Truth t) s)))
operate bin.AtLeast v w s k = with_some (number_of v) s (λ a. with_some (number_of w) s (λ b. with_some (compared bin.AtLeast a b) s (λ t. k (Truth t) s)))

-- a text is printed
abbrev pub print_units : Bool → List ℕ → State → (State → Outcome) → Outcome
print_units newline u s k = k (record s { out = s.out ++ (bytes_of u ++ line_end newline) })

-- a local is set
abbrev pub write_local : Lang → ℕ → Value → Frame → State → ToFlow → Outcome
write_local L x v f s k =
    with_some (slice_get f.env.locals x) s (λ t. with_some (slice_get f.locals x) s (λ old. look L (bound f.env.body x) (convert t v) s (λ s1.
    k Next (set_local f x (convert t v)) s1)))

-- after one of several statements, and after the body of a loop
abbrev pub after_one : Flow → Frame → State → (Frame → State → Outcome) → ToFlow → Outcome
after_one Next f s on k = on f s
after_one Broke f s on k = k Broke f s
after_one Continued f s on k = k Continued f s
after_one (Gave v) f s on k = k (Gave v) f s

-- what a loop does after a turn of its body: goes on, ends, or hands on what the body gave
abbrev pub after_turn : Flow → Frame → State → (Frame → State → Outcome) → ToFlow → Outcome
after_turn Next f s on k = on f s
after_turn Continued f s on k = on f s
after_turn Broke f s on k = k Next f s
after_turn (Gave v) f s on k = k (Gave v) f s

module _ (L : Lang) (later : Later) where
  abbrev mutual
    -- the value of an expression, and the state after it
    pub value : Ex → Frame → State → ToValue → Outcome
    value (number t n) f s k = k (Number n) s
    value (character t c) f s k = k (CodeUnit c) s
    value (text t u) f s k = give_string u s k
    value (truth t b) f s k = k (Truth b) s
    value (null t) f s k = k Nothing s
    value (this t) f s k = k f.self s
    value (local t x) f s k = with_some (slice_get f.locals x) s (λ v. k v s)
    value (static_field t x) f s k = read_static x s k
    value (own_field t x) f s k = with_cell f.self s (λ a c. read_field L f.env.body (this t) (own_field t x) (Some x) a c s k)
    value (field t e x) f s k = value e f s (λ v s1. with_cell v s1 (λ a c. read_member L f.env e (field t e x) x c.kind a c s1 k))
    value (index t e i) f s k = value e f s (λ v s1. value i f s1 (λ w s2. with_some (number_of w) s2 (λ n. read_element L f.env.body (index t e i) v n s2 k)))
    value (call t e x es) f s k = value e f s (λ v s1. values es f s1 (λ vs s2. call_on L later f.env e (call t e x es) x v vs s2 k))
    value (static_call t m es) f s k = values es f s (λ vs s1. call_static L later f.env (static_call t m es) m vs s1 k)
    value (super_call t x es) f s k = values es f s (λ vs s1. call_super L later f.env (super_call t x es) x f.self vs s1 k)
    value (create t n c es) f s k = values es f s (λ vs s1. make_object L later f.env (create t n c es) n c vs s1 k)
    value (create_array t n u e) f s k = value e f s (λ v s1. with_some (number_of v) s1 (λ size. make_array L f.env (create_array t n u e) n u size s1 k))
    value (cast t n u e) f s k = value e f s (λ v s1. cast_to L f.env.body (cast t n u e) u v s1 k)
    value (instance_of t n e c) f s k = value e f s (λ v s1. test_class L f.env.body (instance_of t n e c) c v s1 k)
    value (unary t o e) f s k = value e f s (λ v s1. with_some (unary_value o v) s1 (λ u. k u s1))
    value (binary t o e d) f s k = value e f s (λ v s1. after_left o v s1 (λ s2. value d f s2 (λ w s3. operate o v w s3 k)) k)

    -- the values of a list of expressions, from left to right
    pub values : Exs → Frame → State → (List Value → State → Outcome) → Outcome
    values no_ex f s k = k [] s
    values (ex_then e es) f s k = value e f s (λ v s1. values es f s1 (λ vs s2. k (v ∷ vs) s2))

  -- the test of a loop; one that is not there is true
  abbrev pub run_test : Option Ex → Frame → State → (State → Outcome) → (State → Outcome) → Outcome
  run_test None f s then_go else_go = then_go s
  run_test (Some e) f s then_go else_go = value e f s (λ v s1. on_test v s1 then_go else_go)

  -- what is printed
  abbrev pub run_print : Bool → Option Ex → Frame → State → (State → Outcome) → Outcome
  run_print newline None f s k = print_units newline [] s k
  run_print newline (Some e) f s k = value e f s (λ v s1. with_some (text_of s1.strings v) s1 (λ u. print_units newline u s1 k))

  -- the declaration of a local: it stands at its type's default, then at its initial value
  abbrev pub run_initial : ℕ → Option Ex → Frame → State → ToFlow → Outcome
  run_initial x None f s k = k Next f s
  run_initial x (Some e) f s k = value e f s (λ v s1. write_local L x v f s1 k)

  -- the declaration of a local, with its initial value where it has one
  abbrev pub run_declare : ℕ → Option Ex → Frame → State → ToFlow → Outcome
  run_declare x e f s k = with_some (slice_get f.env.locals x) s (λ t. with_some (slice_get f.locals x) s
      (λ old. run_initial x e (set_local f x (default_of t)) s k))

  -- what is given back
  abbrev pub run_return : Option Ex → Frame → State → ToFlow → Outcome
  run_return None f s k = k (Gave Nothing) f s
  run_return (Some e) f s k =
      value e f s (λ v s1. with_some f.env.result s1 (λ t. look L (result_of f.env.body) (convert t v) s1 (λ s2. k (Gave (convert t v)) f s2)))

  -- an assignment: the parts of the target, then the value; then the target is tested
  abbrev pub run_assign : Target → Ex → Frame → State → ToFlow → Outcome
  run_assign (to_local t x) d f s k = value d f s (λ v s1. write_local L x v f s1 k)
  run_assign (to_static t x) d f s k = value d f s (λ v s1. write_static L x v s1 (λ s2. k Next f s2))
  run_assign (to_own t x) d f s k = value d f s (λ v s1. with_cell f.self s1 (λ a c. write_field L f.env.body (this t) (Some x) v a c s1 (λ s2. k Next f s2)))
  run_assign (to_field t e x) d f s k =
      value e f s (λ v s1. value d f s1 (λ w s2. with_cell v s2 (λ a c. write_field L f.env.body e (L.field f.env e x) w a c s2 (λ s3. k Next f s3))))
  run_assign (to_element t e i) d f s k =
      value e f s (λ v s1. value i f s1 (λ w s2. value d f s2 (λ u s3. with_some (number_of w) s3 (λ n. write_element L v n u s3 (λ s4. k Next f s4)))))
  run_assign no_target d f s k = stop Wrong s

  abbrev mutual
    -- what one statement does
    pub run_one : St → Frame → State → ToFlow → Outcome
    run_one (declare t x e) f s k = run_declare x e f s k
    run_one (block t xs) f s k = run_all xs f s k
    run_one (assign t b e) f s k = run_assign b e f s k
    run_one (act t e) f s k = value e f s (λ v s1. k Next f s1)
    run_one (print t newline e) f s k = run_print newline e f s (λ s1. k Next f s1)
    run_one (choose t arms) f s k = run_arms arms f s k
    run_one (loop t is_while first test last body) f s k = run_all first f s (λ w f1 s1. after_one w f1 s1 (λ f2 s2.
        run_test test f2 s2
        (λ s3. step s3 (λ s4. run_all body f2 s4 (λ w3 f3 s5. after_turn w3 f3 s5 (λ f4 s6.
        run_all last f4 s6 (λ w5 f5 s7. after_one w5 f5 s7 (λ f6 s8. later (st_then (loop t is_while no_st test last body) no_st) f6 s8 k) k)) k)))
        (λ s3. k Next f2 s3)) k)
    run_one (return t e) f s k = run_return e f s k
    run_one (break t) f s k = k Broke f s
    run_one (continue t) f s k = k Continued f s

    -- what a list of statements does, one after another, until one ends otherwise than by coming to its end
    pub run_all : Sts → Frame → State → ToFlow → Outcome
    run_all no_st f s k = k Next f s
    run_all (st_then x xs) f s k = run_one x f s (λ w f1 s1. after_one w f1 s1 (λ f2 s2. run_all xs f2 s2 k) k)

    -- what the arms of an `if` do: the first whose test is true runs, else the `else`
    pub run_arms : IfArms → Frame → State → ToFlow → Outcome
    run_arms no_other f s k = k Next f s
    run_arms (otherwise xs) f s k = run_all xs f s k
    run_arms (arm e xs more) f s k = value e f s (λ v s1. on_test v s1 (λ s2. run_all xs f s2 k) (λ s2. run_arms more f s2 k))

-- what statements do where at most so many steps are taken one inside the other
abbrev pub meaning : Lang → ℕ → Later
meaning L zero xs f s k = stop Going s
meaning L (suc n) xs f s k = run_all L (meaning L n) xs f s k

-- the words of a run: their strings, and the array that holds them, which no creation of the program made
abbrev pub texts : ℕ → ℕ → List Value
texts first zero = []
texts first (suc n) = Text first ∷ texts (suc first) n

-- the type of the words of a run: an array of String
abbrev pub words_type : Ty
words_type = record { base = Str; dim = 1 }

-- the array of the words of a run
abbrev pub words_cell : List (List ℕ) → Cell
words_cell words = record { site = None; kind = an_array words_type; values = texts 0 (length words) }

-- the state at the start of a run on these words, with n steps
abbrev pub start : Lang → List (List ℕ) → ℕ → State
start L words n = record { cells = words_cell words ∷ []; strings = words; statics = L.statics; out = []; left = n; met = [] }

-- the run of a static method on the words, with n steps; its own start takes none
unfoldable pub run_in : Lang → ℕ → List (List ℕ) → ℕ → Outcome
run_in L m words n =
    with_some (L.static_body m) (start L words n) (λ b. enter L (meaning L (suc n)) b Nothing (Object 0 ∷ []) (start L words n) (λ v s. stop Ended s))
