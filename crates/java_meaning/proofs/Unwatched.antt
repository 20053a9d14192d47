-- Steps of two runs that are the same but for the record: what looks at no value goes on the same in both.
use Rattle.std.proofs.Common.{◌≡◌, ℕ, zero, suc, List, [], ◌∷◌, Option, Some, None, length, refl, sym, subst}
use Rattle.std.specs.Prelude.{ℤ, Bool, true, false, ◌&&◌, ◌||◌, slice_get}
use Rattle.std.specs.Option.{option_and_then}
use Rattle.std.specs.declared.result.Result.{Result}
use Rattle.std.specs.declared.result.Result.TheVariants.{Ok, Err}
use Rattle.java_core.specs.declared.BinOp.{BinOp}
use Rattle.java_core.specs.declared.BinOp.TheVariants as bin
use Rattle.java_core.specs.declared.Op.{Op}
use Rattle.java_core.specs.declared.Fault.{Fault}
use Rattle.java_core.specs.declared.Fault.TheVariants as fault
use Rattle.java_core.specs.Types.{StringMethod, LengthOf, CharAt, Equals, is_plus}
use Rattle.java_meaning.specs.Moment.{Value, Number, Truth, CodeUnit, Nothing, Text, Object, Cell, Met, State, Frame, End, Faulted, Going, Wrong, Escaped, Outcome, stop, step, step_of, with_some, or_fault, with_result, on_bool}
use Rattle.java_meaning.specs.Values.{number_of, truth_of, natural_of, text_of, arith as op_arith, same_value, compared, join, is_text, equals_value}
use Rattle.java_meaning.specs.Meaning.{Flow, Next, Broke, Continued, Gave, ToValue, ToFlow, on_test, with_cell, add_string, give_string, string_call, after_left, join_values, compute, operate, after_one, after_turn}

-- the state with another record
abbrev pub re : State → List Met → State
re s m = record s { met = m }

-- the first escapes, which means E, or is the second but for what it noted; in the second this was noted
pub data OrIs (E : Type 0) (m : List Met) (o p : Outcome) : Type 0 where
  it_escapes : E → o.end ≡ Escaped → OrIs E m o p
  it_is : record o { met = m } ≡ p → OrIs E m o p

pub is_stop : {E : Type 0} (e : End) (s : State) (m : List Met) → OrIs E m (stop e s) (stop e (re s m))
is_stop e s m = it_is refl

pub escapes : {E : Type 0} → E → (s : State) (m : List Met) (o : Outcome) → OrIs E m (stop Escaped s) o
escapes h s m o = it_escapes h refl

-- continuations that are the same but for the record
abbrev pub KS : Type 0 → (State → Outcome) → (State → Outcome) → Type 0
KS E k j = (s : State) (m : List Met) → OrIs E m (k s) (j (re s m))

abbrev pub KV : Type 0 → ToValue → ToValue → Type 0
KV E k j = (v : Value) (s : State) (m : List Met) → OrIs E m (k v s) (j v (re s m))

abbrev pub KL : Type 0 → (List Value → State → Outcome) → (List Value → State → Outcome) → Type 0
KL E k j = (v : List Value) (s : State) (m : List Met) → OrIs E m (k v s) (j v (re s m))

abbrev pub KF : Type 0 → ToFlow → ToFlow → Type 0
KF E k j = (w : Flow) (f : Frame) (s : State) (m : List Met) → OrIs E m (k w f s) (j w f (re s m))

pub some_r : {E : Type 0} {A : Type 0} (o : Option A) (s : State) (m : List Met) (k j : A → Outcome) → ((a : A) → OrIs E m (k a) (j a))
    → OrIs E m (with_some o s k) (with_some o (re s m) j)
some_r None s m k j e = is_stop Wrong s m
some_r (Some a) s m k j e = e a

pub some_as : {E : Type 0} {A : Type 0} (o p : Option A) (s : State) (m : List Met) (k j : A → Outcome) → p ≡ o → ((a : A) → OrIs E m (k a) (j a))
    → OrIs E m (with_some o s k) (with_some p (re s m) j)
some_as {E} o p s m k j q e = subst (λ z. OrIs E m (with_some o s k) (with_some z (re s m) j)) (sym q) (some_r o s m k j e)

pub fault_r : {E : Type 0} {A : Type 0} (x : Fault) (o : Option A) (s : State) (m : List Met) (k j : A → Outcome) → ((a : A) → OrIs E m (k a) (j a))
    → OrIs E m (or_fault x o s k) (or_fault x o (re s m) j)
fault_r x None s m k j e = is_stop (Faulted x) s m
fault_r x (Some a) s m k j e = e a

result_r : {E : Type 0} {A : Type 0} (o : Result A Fault) (s : State) (m : List Met) (k j : A → Outcome) → ((a : A) → OrIs E m (k a) (j a))
    → OrIs E m (with_result o s k) (with_result o (re s m) j)
result_r (Err x) s m k j e = is_stop (Faulted x) s m
result_r (Ok a) s m k j e = e a

pub cell_r : {E : Type 0} (v : Value) (s : State) (m : List Met) (k j : ℕ → Cell → Outcome) → ((a : ℕ) (c : Cell) → OrIs E m (k a c) (j a c))
    → OrIs E m (with_cell v s k) (with_cell v (re s m) j)
cell_r Nothing s m k j e = is_stop (Faulted fault.Null) s m
cell_r (Object a) s m k j e = some_r (slice_get s.cells a) s m _ _ (λ c. e a c)
cell_r v s m k j e = is_stop Wrong s m

pub bool_r : {E : Type 0} (b : Bool) (s : State) (m : List Met) (k j k2 j2 : State → Outcome) → KS E k j → KS E k2 j2 → OrIs E m (on_bool b s k k2) (on_bool b (re s m) j j2)
bool_r true s m k j k2 j2 e d = e s m
bool_r false s m k j k2 j2 e d = d s m

pub test_r : {E : Type 0} (v : Value) (s : State) (m : List Met) (k j k2 j2 : State → Outcome) → KS E k j → KS E k2 j2 → OrIs E m (on_test v s k k2) (on_test v (re s m) j j2)
test_r (Truth b) s m k j k2 j2 e d = bool_r b s m k j k2 j2 e d
test_r Nothing s m k j k2 j2 e d = is_stop Wrong s m
test_r v s m k j k2 j2 e d = is_stop Wrong s m

pub step_r : {E : Type 0} (s : State) (m : List Met) (k j : State → Outcome) → KS E k j → OrIs E m (step s k) (step (re s m) j)
step_r {E} s m k j e = go s.left
  where
    go : (n : ℕ) → OrIs E m (step_of n s k) (step_of n (re s m) j)
    go zero = is_stop Going s m
    go (suc n) = e (record s { left = n }) m

pub one_r : {E : Type 0} (w : Flow) (f : Frame) (s : State) (m : List Met) (k j : ToFlow) (a c : Frame → State → Outcome) → KF E k j → OrIs E m (a f s) (c f (re s m))
    → OrIs E m (after_one w f s a k) (after_one w f (re s m) c j)
one_r Next f s m k j a c r d = d
one_r Broke f s m k j a c r d = r Broke f s m
one_r Continued f s m k j a c r d = r Continued f s m
one_r (Gave v) f s m k j a c r d = r (Gave v) f s m

pub turn_r : {E : Type 0} (w : Flow) (f : Frame) (s : State) (m : List Met) (k j : ToFlow) (a c : Frame → State → Outcome) → KF E k j → OrIs E m (a f s) (c f (re s m))
    → OrIs E m (after_turn w f s a k) (after_turn w f (re s m) c j)
turn_r Next f s m k j a c r d = d
turn_r Continued f s m k j a c r d = d
turn_r Broke f s m k j a c r d = r Next f s m
turn_r (Gave v) f s m k j a c r d = r (Gave v) f s m

pub give_r : {E : Type 0} (u : List ℕ) (s : State) (m : List Met) (k j : ToValue) → KV E k j → OrIs E m (give_string u s k) (give_string u (re s m) j)
give_r u s m k j r = r (Text (length s.strings)) (add_string u s) m

pub string_r : {E : Type 0} (x : StringMethod) (u : List ℕ) (vs : List Value) (s : State) (m : List Met) (k j : ToValue) → KV E k j
    → OrIs E m (string_call x u vs s k) (string_call x u vs (re s m) j)
string_r LengthOf u [] s m k j r = r _ s m
string_r LengthOf u (v ∷ vs) s m k j r = is_stop Wrong s m
string_r CharAt u [] s m k j r = is_stop Wrong s m
string_r CharAt u (v ∷ []) s m k j r =
    some_r (number_of v) s m _ _ (λ i. fault_r fault.Bounds (option_and_then (λ n. slice_get u n) (natural_of i)) s m _ _ (λ c. r (CodeUnit c) s m))
string_r CharAt u (v ∷ w ∷ vs) s m k j r = is_stop Wrong s m
string_r Equals u [] s m k j r = is_stop Wrong s m
string_r Equals u (v ∷ []) s m k j r = some_r (equals_value s.strings u v) s m _ _ (λ b. r (Truth b) s m)
string_r Equals u (v ∷ w ∷ vs) s m k j r = is_stop Wrong s m

pub left_r : {E : Type 0} (o : BinOp) (v : Value) (s : State) (m : List Met) (x y : State → Outcome) (k j : ToValue) → KS E x y → KV E k j
    → OrIs E m (after_left o v s x k) (after_left o v (re s m) y j)
left_r bin.Both v s m x y k j e r = test_r v s m x y (λ s1. k (Truth false) s1) (λ s1. j (Truth false) s1) e (r (Truth false))
left_r bin.Either v s m x y k j e r = test_r v s m (λ s1. k (Truth true) s1) (λ s1. j (Truth true) s1) x y (r (Truth true)) e
left_r _ v s m x y k j e r = e s m

join_r : {E : Type 0} (v w : Value) (s : State) (m : List Met) (k j : ToValue) → KV E k j → OrIs E m (join_values v w s k) (join_values v w (re s m) j)
join_r v w s m k j r =
    some_r (text_of s.strings v) s m _ _ (λ a. some_r (text_of s.strings w) s m _ _ (λ b. result_r (join a b) s m _ _ (λ u. give_r u s m k j r)))

compute_r : {E : Type 0} (joins : Bool) (a b : Option ℤ) (v w : Value) (o : Op) (s : State) (m : List Met) (k j : ToValue) → KV E k j
    → OrIs E m (compute joins a b v w o s k) (compute joins a b v w o (re s m) j)
compute_r joins (Some a) (Some b) v w o s m k j r = result_r (op_arith o a b) s m _ _ (λ n. r (Number n) s m)
compute_r joins (Some a) None v w o s m k j r = bool_r joins s m (λ s1. join_values v w s1 k) (λ s1. join_values v w s1 j) (stop Wrong) (stop Wrong)
    (λ s1 m1. join_r v w s1 m1 k j r) (is_stop Wrong)
compute_r joins None b v w o s m k j r = bool_r joins s m (λ s1. join_values v w s1 k) (λ s1. join_values v w s1 j) (stop Wrong) (stop Wrong)
    (λ s1 m1. join_r v w s1 m1 k j r) (is_stop Wrong)

pub operate_r : {E : Type 0} (o : BinOp) (v w : Value) (s : State) (m : List Met) (k j : ToValue) → KV E k j → OrIs E m (operate o v w s k) (operate o v w (re s m) j)
operate_r (bin.Int o) v w s m k j r = compute_r (is_plus o && (is_text v || is_text w)) (number_of v) (number_of w) v w o s m k j r
operate_r bin.Same v w s m k j r = some_r (same_value v w) s m _ _ (λ b. r (Truth b) s m)
operate_r bin.Differs v w s m k j r = some_r (same_value v w) s m _ _ (λ b. bool_r b s m (λ s1. k (Truth false) s1) (λ s1. j (Truth false) s1)
    (λ s1. k (Truth true) s1) (λ s1. j (Truth true) s1) (r (Truth false)) (r (Truth true)))
operate_r bin.Both v w s m k j r = some_r (truth_of w) s m _ _ (λ b. r (Truth b) s m)
operate_r bin.Either v w s m k j r = some_r (truth_of w) s m _ _ (λ b. r (Truth b) s m)
operate_r o v w s m k j r = some_r (number_of v) s m _ _ (λ a. some_r (number_of w) s m _ _ (λ b. some_r (compared o a b) s m _ _ (λ t. r (Truth t) s m)))
