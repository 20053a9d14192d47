-- Two runs of one language from continuations that are alike are alike, at any two depths above the steps left.
use Rattle.std.proofs.Common.{◌≡◌, ℕ, zero, suc, ◌<◌, ◌≤◌, List, [], ◌∷◌, Option, Some, None, refl, arith}
use Rattle.std.specs.Prelude.{ℤ, Bool, true, false, slice_get, ◌&&◌, ◌||◌}
use Rattle.std.specs.Option.{option_and_then}
use Rattle.std.specs.declared.result.Result.{Result}
use Rattle.std.specs.declared.result.Result.TheVariants.{Ok, Err}
use Rattle.java_core.specs.declared.Ty.{Ty}
use Rattle.java_core.specs.declared.BinOp.{BinOp}
use Rattle.java_core.specs.declared.BinOp.TheVariants as bin
use Rattle.java_core.specs.declared.Op.{Op}
use Rattle.java_core.specs.declared.Fault.{Fault}
use Rattle.java_core.specs.declared.Fault.TheVariants as fault
use Rattle.java_core.specs.Trees.{Ex, Exs, no_ex, ex_then, number, character, text, truth, null, this, local, static_field, own_field, field, index, call, static_call, super_call, create, create_array, cast, instance_of, unary, binary, Target, to_local, to_static, to_own, to_field, to_element, no_target, St, Sts, IfArms, declare, block, assign, act, print, choose, loop, return, break, continue, no_st, st_then, otherwise, arm, no_other}
use Rattle.java_core.specs.Types.{Env, element_in, StringMethod, LengthOf, CharAt, Equals, is_plus}
use Rattle.java_meaning.specs.Moment.{End, Ended, Going, Value, Number, Truth, CodeUnit, Nothing, Text, Object, Kind, an_object, an_array, Cell, own_type, own_class, Spot, held, State, Frame, Faulted, Wrong, Escaped, Outcome, stop, Body, Lang, step, step_of, with_some, or_fault, with_result, on_bool, look, look_all}
use Rattle.java_meaning.specs.Values.{arguments, number_of, truth_of, natural_of, text_of, arith as op_arith, unary_value, same_value, compared, join, is_text, equals_value}
use Rattle.java_meaning.specs.Meaning.{Flow, Next, Broke, Continued, Gave, ToValue, ToFlow, Later, on_test, with_cell, read_static, write_static, read_field, write_field, names_length, read_member, element_type, place_in, read_element, on_fitting, write_element, enter, call_object, string_call, text_method, call_on, call_static, call_super, make_cell, construct, made_by, make_object, make_array, is_number_type, cast_object, cast_to, test_class, after_left, join_values, compute, operate, write_local, after_one, after_turn, value, values, run_test, run_print, run_initial, run_return, run_assign, run_one, run_all, run_arms, meaning, start, run_in}

-- an end that is no Going
abbrev pub IsEnd : End → Type 0
IsEnd Ended = Unit {0}
IsEnd (Faulted x) = Unit {0}
IsEnd Going = ⊥
IsEnd Wrong = Unit {0}
IsEnd Escaped = Unit {0}

-- any relation of outcomes that holds of each end and itself, of Going where no steps are left
module _ (R : Outcome → Outcome → Type 0) (ends : (e : End) (s : State) → IsEnd e → R (stop e s) (stop e s)) (spent : (s : State) → s.left ≡ 0
    → R (stop Going s) (stop Going s)) where
  pub with_some_like : {A : Type 0} (o : Option A) (s : State) (g h : A → Outcome) → ((a : A) → R (g a) (h a)) → R (with_some o s g) (with_some o s h)
  with_some_like None s g h e = ends Wrong s tt
  with_some_like (Some a) s g h e = e a

  or_fault_like : {A : Type 0} (x : Fault) (o : Option A) (s : State) (g h : A → Outcome) → ((a : A) → R (g a) (h a)) → R (or_fault x o s g) (or_fault x o s h)
  or_fault_like x None s g h e = ends (Faulted x) s tt
  or_fault_like x (Some a) s g h e = e a

  with_result_like : {A : Type 0} (o : Result A Fault) (s : State) (g h : A → Outcome) → ((a : A) → R (g a) (h a)) → R (with_result o s g) (with_result o s h)
  with_result_like (Err x) s g h e = ends (Faulted x) s tt
  with_result_like (Ok a) s g h e = e a

  with_cell_like : (v : Value) (s : State) (g h : ℕ → Cell → Outcome) → ((a : ℕ) (c : Cell) → R (g a c) (h a c)) → R (with_cell v s g) (with_cell v s h)
  with_cell_like Nothing s g h e = ends (Faulted fault.Null) s tt
  with_cell_like (Object a) s g h e = with_some_like (slice_get s.cells a) s _ _ (λ c. e a c)
  with_cell_like v s g h e = ends Wrong s tt

  module _ (m : ℕ) where
    -- two ways to go on are alike where few steps are left
    abbrev pub AlikeV : ToValue → ToValue → Type 0
    AlikeV k k' = (v : Value) (s : State) → s.left ≤ m → R (k v s) (k' v s)

    abbrev pub AlikeL : (List Value → State → Outcome) → (List Value → State → Outcome) → Type 0
    AlikeL k k' = (v : List Value) (s : State) → s.left ≤ m → R (k v s) (k' v s)

    abbrev pub AlikeS : (State → Outcome) → (State → Outcome) → Type 0
    AlikeS k k' = (s : State) → s.left ≤ m → R (k s) (k' s)

    abbrev pub AlikeF : ToFlow → ToFlow → Type 0
    AlikeF k k' = (w : Flow) (f : Frame) (s : State) → s.left ≤ m → R (k w f s) (k' w f s)

    on_bool_like : (b : Bool) (s : State) (g h g' h' : State → Outcome) → s.left ≤ m → AlikeS g g' → AlikeS h h' → R (on_bool b s g h) (on_bool b s g' h')
    on_bool_like true s g h g' h' le e d = e s le
    on_bool_like false s g h g' h' le e d = d s le

    stop_like : (e : End) → IsEnd e → AlikeS (stop e) (stop e)
    stop_like e p s le = ends e s p

    on_test_like : (v : Value) (s : State) (g h g' h' : State → Outcome) → s.left ≤ m → AlikeS g g' → AlikeS h h' → R (on_test v s g h) (on_test v s g' h')
    on_test_like (Truth b) s g h g' h' le e d = on_bool_like b s g h g' h' le e d
    on_test_like Nothing s g h g' h' le e d = ends Wrong s tt
    on_test_like v s g h g' h' le e d = ends Wrong s tt

    look_like : (L : Lang) (p : Spot) (v : Value) (s : State) (g g' : State → Outcome) → s.left ≤ m → AlikeS g g' → R (look L p v s g) (look L p v s g')
    look_like L p v s g g' le e = on_bool_like (L.sees p v s.cells) _ g (stop Escaped) g' (stop Escaped) le e (stop_like Escaped tt)

    look_all_like : (L : Lang) (b : ℕ) (vs : List Value) (s : State) (g g' : State → Outcome) → s.left ≤ m → AlikeS g g'
        → R (look_all L b vs s g) (look_all L b vs s g')
    look_all_like L b vs s g g' le e = on_bool_like (L.sees_all b vs s.cells) _ g (stop Escaped) g' (stop Escaped) le e (stop_like Escaped tt)

    step_of_like : (n : ℕ) (s : State) (g h : State → Outcome) → s.left ≡ n → n ≤ m → ((t : State) → t.left < m → R (g t) (h t))
        → R (step_of n s g) (step_of n s h)
    step_of_like zero s g h q le e = spent s q
    step_of_like (suc n) s g h q le e = e (record s { left = n }) le

    pub step_like : (s : State) (g h : State → Outcome) → s.left ≤ m → ((t : State) → t.left < m → R (g t) (h t)) → R (step s g) (step s h)
    step_like s g h le e = step_of_like s.left s g h refl le e

    -- what makes no call
    read_static_like : (x : ℕ) (s : State) (k k' : ToValue) → s.left ≤ m → AlikeV k k' → R (read_static x s k) (read_static x s k')
    read_static_like x s k k' le e = with_some_like (slice_get s.statics x) s _ _ (λ v. e v s le)

    write_static_like : (L : Lang) (x : ℕ) (v : Value) (s : State) (k k' : State → Outcome) → s.left ≤ m → AlikeS k k'
        → R (write_static L x v s k) (write_static L x v s k')
    write_static_like L x v s k k' le e =
        with_some_like (L.field_type x) s _ _ (λ t. with_some_like (slice_get s.statics x) s _ _ (λ old. look_like L _ _ s _ _ le (λ s1 l1. e _ l1)))

    read_field_like : (L : Lang) (b : ℕ) (e d : Ex) (x : Option ℕ) (a : ℕ) (c : Cell) (s : State) (k k' : ToValue) → s.left ≤ m → AlikeV k k'
        → R (read_field L b e d x a c s k) (read_field L b e d x a c s k')
    read_field_like L b e d x a c s k k' le h =
        with_some_like (own_class c.kind) s _ _
        (λ t. with_some_like x s _ _ (λ j. with_some_like (L.index t j) s _ _ (λ i. with_some_like (slice_get c.values i) s _ _ (λ u.
        look_like L _ _ s _ _ le (λ s1 l1. look_like L _ _ s1 _ _ l1 (λ s2 l2. h u s2 l2))))))

    write_field_like : (L : Lang) (b : ℕ) (e : Ex) (x : Option ℕ) (v : Value) (a : ℕ) (c : Cell) (s : State) (k k' : State → Outcome) → s.left ≤ m
        → AlikeS k k' → R (write_field L b e x v a c s k) (write_field L b e x v a c s k')
    write_field_like L b e x v a c s k k' le h =
        with_some_like (own_class c.kind) s _ _
        (λ t. with_some_like x s _ _ (λ j. with_some_like (L.field_type j) s _ _ (λ u. with_some_like (L.index t j) s _ _ (λ i.
        with_some_like (slice_get c.values i) s _ _ (λ old. look_like L _ _ s _ _ le (λ s1 l1. look_like L _ _ s1 _ _ l1 (λ s2 l2. h _ l2)))))))

    read_member_like : (L : Lang) (g : Env) (e d : Ex) (x : List ℕ) (t : Kind) (a : ℕ) (c : Cell) (s : State) (k k' : ToValue) → s.left ≤ m
        → AlikeV k k' → R (read_member L g e d x t a c s k) (read_member L g e d x t a c s k')
    read_member_like L g e d x (an_object t) a c s k k' le h = read_field_like L g.body e d (L.field g e x) a c s k k' le h
    read_member_like L g e d x (an_array t) a c s k k' le h = on_bool_like (names_length (L.field g e x) x) s _ _ _ _ le (λ s1 l1. h _ s1 l1)
        (stop_like Wrong tt)

    read_element_like : (L : Lang) (b : ℕ) (d : Ex) (v : Value) (i : ℤ) (s : State) (k k' : ToValue) → s.left ≤ m → AlikeV k k'
        → R (read_element L b d v i s k) (read_element L b d v i s k')
    read_element_like L b d v i s k k' le h =
        with_cell_like v s _ _ (λ a c. with_some_like (element_type c.kind) s _ _
        (λ t. or_fault_like fault.Bounds (option_and_then (λ n. slice_get c.values n) (natural_of i)) s _ _ (λ u.
        look_like L _ _ s _ _ le (λ s1 l1. h u s1 l1))))

    on_fitting_like : (L : Lang) (v : Value) (t : Ty) (s : State) (k k' : State → Outcome) → s.left ≤ m → AlikeS k k'
        → R (on_fitting L v t s k) (on_fitting L v t s k')
    on_fitting_like L (Object b) t s k k' le h =
        with_some_like (slice_get s.cells b) s _ _ (λ d. on_bool_like (L.is_sub (own_type d.kind) t) s k _ k' _ le h
        (stop_like (Faulted fault.ArrayStore) tt))
    on_fitting_like L v t s k k' le h = h s le

    write_element_like : (L : Lang) (v : Value) (i : ℤ) (u : Value) (s : State) (k k' : State → Outcome) → s.left ≤ m → AlikeS k k'
        → R (write_element L v i u s k) (write_element L v i u s k')
    write_element_like L v i u s k k' le h =
        with_cell_like v s _ _ (λ a c. with_some_like (element_type c.kind) s _ _ (λ t. or_fault_like fault.Bounds (place_in c i) s _ _ (λ n.
        on_fitting_like L u t s _ _ le (λ s1 l1. look_like L _ _ s1 _ _ l1 (λ s2 l2. h _ l2)))))

    string_call_like : (x : StringMethod) (u : List ℕ) (vs : List Value) (s : State) (k k' : ToValue) → s.left ≤ m → AlikeV k k'
        → R (string_call x u vs s k) (string_call x u vs s k')
    string_call_like LengthOf u [] s k k' le h = h _ s le
    string_call_like LengthOf u (v ∷ vs) s k k' le h = ends Wrong s tt
    string_call_like CharAt u [] s k k' le h = ends Wrong s tt
    string_call_like CharAt u (v ∷ []) s k k' le h =
        with_some_like (number_of v) s _ _ (λ i. or_fault_like fault.Bounds (option_and_then (λ n. slice_get u n) (natural_of i)) s _ _
        (λ c. h (CodeUnit c) s le))
    string_call_like CharAt u (v ∷ w ∷ vs) s k k' le h = ends Wrong s tt
    string_call_like Equals u [] s k k' le h = ends Wrong s tt
    string_call_like Equals u (v ∷ []) s k k' le h = with_some_like (equals_value s.strings u v) s _ _ (λ b. h (Truth b) s le)
    string_call_like Equals u (v ∷ w ∷ vs) s k k' le h = ends Wrong s tt

    make_cell_like : (L : Lang) (b : ℕ) (d : Ex) (c : Cell) (s : State) (k k' : ToValue) → s.left ≤ m → AlikeV k k'
        → R (make_cell L b d c s k) (make_cell L b d c s k')
    make_cell_like L b d c s k k' le h = look_like L _ _ _ _ _ le (λ s1 l1. h _ s1 l1)

    make_array_like : (L : Lang) (g : Env) (d : Ex) (n : ℕ) (t : Ty) (size : ℤ) (s : State) (k k' : ToValue) → s.left ≤ m → AlikeV k k'
        → R (make_array L g d n t size s k) (make_array L g d n t size s k')
    make_array_like L g d n t size s k k' le h =
        with_some_like (element_in t.base t.dim) s _ _ (λ u. or_fault_like fault.NegativeSize (natural_of size) s _ _ (λ many.
        step_like s _ _ le (λ s1 l1. make_cell_like L g.body d _ s1 k k' (omega arith) h)))

    cast_object_like : (L : Lang) (b : ℕ) (d : Ex) (t : Ty) (v : Value) (s : State) (k k' : ToValue) → s.left ≤ m → AlikeV k k'
        → R (cast_object L b d t v s k) (cast_object L b d t v s k')
    cast_object_like L b d t Nothing s k k' le h = h _ s le
    cast_object_like L b d t (Object a) s k k' le h =
        with_some_like (slice_get s.cells a) s _ _ (λ c. look_like L _ _ s _ _ le (λ s1 l1.
        on_bool_like (L.is_sub (own_type c.kind) t) s1 _ _ _ _ l1 (λ s2 l2. look_like L _ _ s2 _ _ l2 (λ s3 l3. h _ s3 l3))
        (stop_like (Faulted fault.ClassCast) tt)))
    cast_object_like L b d t v s k k' le h = ends Wrong s tt

    cast_like : (L : Lang) (b : ℕ) (d : Ex) (t : Ty) (v : Value) (s : State) (k k' : ToValue) → s.left ≤ m → AlikeV k k'
        → R (cast_to L b d t v s k) (cast_to L b d t v s k')
    cast_like L b d t v s k k' le h =
        on_bool_like (is_number_type t.base t.dim) s _ _ _ _ le (λ s1 l1. with_some_like (number_of v) s1 _ _ (λ a. h _ s1 l1))
        (λ s1 l1. cast_object_like L b d t v s1 k k' l1 h)

    test_class_like : (L : Lang) (b : ℕ) (d : Ex) (t : ℕ) (v : Value) (s : State) (k k' : ToValue) → s.left ≤ m → AlikeV k k'
        → R (test_class L b d t v s k) (test_class L b d t v s k')
    test_class_like L b d t Nothing s k k' le h = h _ s le
    test_class_like L b d t (Object a) s k k' le h = with_some_like (slice_get s.cells a) s _ _ (λ c. look_like L _ _ s _ _ le (λ s1 l1. h _ s1 l1))
    test_class_like L b d t v s k k' le h = ends Wrong s tt

    after_left_like : (o : BinOp) (v : Value) (s : State) (r r' : State → Outcome) (k k' : ToValue) → s.left ≤ m → AlikeS r r' → AlikeV k k'
        → R (after_left o v s r k) (after_left o v s r' k')
    after_left_like bin.Both v s r r' k k' le e h = on_test_like v s _ _ _ _ le e (λ s1 l1. h _ s1 l1)
    after_left_like bin.Either v s r r' k k' le e h = on_test_like v s _ _ _ _ le (λ s1 l1. h _ s1 l1) e
    after_left_like _ v s r r' k k' le e h = e s le

    join_like : (v w : Value) (s : State) (k k' : ToValue) → s.left ≤ m → AlikeV k k' → R (join_values v w s k) (join_values v w s k')
    join_like v w s k k' le h =
        with_some_like (text_of s.strings v) s _ _ (λ a. with_some_like (text_of s.strings w) s _ _ (λ b. with_result_like (join a b) s _ _ (λ u. h _ _ le)))

    compute_like : (joins : Bool) (a b : Option ℤ) (v w : Value) (o : Op) (s : State) (k k' : ToValue) → s.left ≤ m → AlikeV k k'
        → R (compute joins a b v w o s k) (compute joins a b v w o s k')
    compute_like joins (Some a) (Some b) v w o s k k' le h = with_result_like (op_arith o a b) s _ _ (λ n. h (Number n) s le)
    compute_like joins (Some a) None v w o s k k' le h = on_bool_like joins s _ _ _ _ le (λ s1 l1. join_like v w s1 k k' l1 h) (stop_like Wrong tt)
    compute_like joins None b v w o s k k' le h = on_bool_like joins s _ _ _ _ le (λ s1 l1. join_like v w s1 k k' l1 h) (stop_like Wrong tt)

    operate_like : (o : BinOp) (v w : Value) (s : State) (k k' : ToValue) → s.left ≤ m → AlikeV k k' → R (operate o v w s k) (operate o v w s k')
    operate_like (bin.Int o) v w s k k' le h = compute_like (is_plus o && (is_text v || is_text w)) (number_of v) (number_of w) v w o s k k' le h
    operate_like bin.Same v w s k k' le h = with_some_like (same_value v w) s _ _ (λ b. h (Truth b) s le)
    operate_like bin.Differs v w s k k' le h =
        with_some_like (same_value v w) s _ _ (λ b. on_bool_like b s _ _ _ _ le (λ s1 l1. h _ s1 l1) (λ s1 l1. h _ s1 l1))
    operate_like bin.Both v w s k k' le h = with_some_like (truth_of w) s _ _ (λ b. h (Truth b) s le)
    operate_like bin.Either v w s k k' le h = with_some_like (truth_of w) s _ _ (λ b. h (Truth b) s le)
    operate_like o v w s k k' le h =
        with_some_like (number_of v) s _ _ (λ a. with_some_like (number_of w) s _ _ (λ b. with_some_like (compared o a b) s _ _ (λ t. h (Truth t) s le)))

    write_local_like : (L : Lang) (x : ℕ) (v : Value) (f : Frame) (s : State) (k k' : ToFlow) → s.left ≤ m → AlikeF k k'
        → R (write_local L x v f s k) (write_local L x v f s k')
    write_local_like L x v f s k k' le h =
        with_some_like (slice_get f.env.locals x) s _ _ (λ t. with_some_like (slice_get f.locals x) s _ _
        (λ old. look_like L _ _ s _ _ le (λ s1 l1. h _ _ s1 l1)))

    after_one_like : (w : Flow) (f : Frame) (s : State) (g g' : Frame → State → Outcome) (k k' : ToFlow) → s.left ≤ m → R (g f s) (g' f s)
        → AlikeF k k' → R (after_one w f s g k) (after_one w f s g' k')
    after_one_like Next f s g g' k k' le d e = d
    after_one_like Broke f s g g' k k' le d e = e Broke f s le
    after_one_like Continued f s g g' k k' le d e = e Continued f s le
    after_one_like (Gave v) f s g g' k k' le d e = e (Gave v) f s le

    after_turn_like : (w : Flow) (f : Frame) (s : State) (g g' : Frame → State → Outcome) (k k' : ToFlow) → s.left ≤ m → R (g f s) (g' f s)
        → AlikeF k k' → R (after_turn w f s g k) (after_turn w f s g' k')
    after_turn_like Next f s g g' k k' le d e = d
    after_turn_like Continued f s g g' k k' le d e = d
    after_turn_like Broke f s g g' k k' le d e = e Next f s le
    after_turn_like (Gave v) f s g g' k k' le d e = e (Gave v) f s le

  -- what comes after a step is alike, below so many steps
  abbrev pub LaterAlike : ℕ → Later → Later → Type 0
  LaterAlike m b c = (n : ℕ) → n < m → (xs : Sts) (f : Frame) (s : State) (k k' : ToFlow) → s.left ≤ n → AlikeF n k k' → R (b xs f s k) (c xs f s k')

  module _ (L : Lang) (b c : Later) where
    enter_like : (m n : ℕ) → n < m → LaterAlike m b c → (d : Body) (v : Value) (vs : List Value) (s : State) (k k' : ToValue) → s.left ≤ n
        → AlikeV n k k' → R (enter L b d v vs s k) (enter L c d v vs s k')
    enter_like m n lt l d v vs s k k' le h =
        with_some_like (arguments d.params vs) s _ _ (λ ws. look_all_like n L _ _ s _ _ le (λ s1 l1. l n lt d.code _ s1 _ _ l1 (λ w f u lu. h _ u lu)))

    call_object_like : (m : ℕ) → LaterAlike m b c → (g : Env) (e d : Ex) (x : List ℕ) (a : ℕ) (o : Cell) (vs : List Value) (s : State)
        (k k' : ToValue) → s.left ≤ m → AlikeV m k k'
        → R (call_object L b g e d x a o vs s k) (call_object L c g e d x a o vs s k')
    call_object_like m l g e d x a o vs s k k' le h =
        with_some_like (own_class o.kind) s _ _
        (λ t. step_like m s _ _ le (λ s1 l1. with_some_like (L.slot g e x) s1 _ _ (λ j. with_some_like (L.body t j) s1 _ _ (λ y.
        look_like s1.left L _ _ s1 _ _ (omega arith) (λ s2 l2. look_like s1.left L _ _ s2 _ _ l2 (λ s3 l3.
        enter_like m s1.left l1 l y (Object a) vs s3 _ _ l3 (λ u s4 l4. look_like m L (held g.body d) u s4 _ _ (omega arith) (λ s5 l5. h u s5 l5))))))))

    call_like : (m : ℕ) → LaterAlike m b c → (g : Env) (e d : Ex) (x : List ℕ) (v : Value) (vs : List Value) (s : State) (k k' : ToValue)
        → s.left ≤ m → AlikeV m k k'
        → R (call_on L b g e d x v vs s k) (call_on L c g e d x v vs s k')
    call_like m l g e d x Nothing vs s k k' le h = ends (Faulted fault.Null) s tt
    call_like m l g e d x (Text a) vs s k k' le h =
        with_some_like (slice_get s.strings a) s _ _ (λ u. with_some_like (text_method (L.slot g e x) x) s _ _
        (λ y. string_call_like m y u vs s k k' le h))
    call_like m l g e d x (Object a) vs s k k' le h = with_some_like (slice_get s.cells a) s _ _ (λ o. call_object_like m l g e d x a o vs s k k' le h)
    call_like m l g e d x (Number n) vs s k k' le h = ends Wrong s tt
    call_like m l g e d x (Truth n) vs s k k' le h = ends Wrong s tt
    call_like m l g e d x (CodeUnit n) vs s k k' le h = ends Wrong s tt

    call_static_like : (m : ℕ) → LaterAlike m b c → (g : Env) (d : Ex) (x : ℕ) (vs : List Value) (s : State) (k k' : ToValue) → s.left ≤ m
        → AlikeV m k k' → R (call_static L b g d x vs s k) (call_static L c g d x vs s k')
    call_static_like m l g d x vs s k k' le h =
        step_like m s _ _ le (λ s1 l1. with_some_like (L.static_body x) s1 _ _ (λ y.
        enter_like m s1.left l1 l y Nothing vs s1 _ _ (omega arith) (λ u s4 l4. look_like m L (held g.body d) u s4 _ _ (omega arith) (λ s5 l5. h u s5 l5))))

    call_super_like : (m : ℕ) → LaterAlike m b c → (g : Env) (d : Ex) (x : List ℕ) (v : Value) (vs : List Value) (s : State) (k k' : ToValue)
        → s.left ≤ m → AlikeV m k k'
        → R (call_super L b g d x v vs s k) (call_super L c g d x v vs s k')
    call_super_like m l g d x v vs s k k' le h =
        step_like m s _ _ le (λ s1 l1. with_some_like (L.super_body g.self x) s1 _ _ (λ y. look_like s1.left L _ _ s1 _ _ (omega arith) (λ s2 l2.
        enter_like m s1.left l1 l y v vs s2 _ _ l2 (λ u s4 l4. look_like m L (held g.body d) u s4 _ _ (omega arith) (λ s5 l5. h u s5 l5)))))

    construct_like : (m n : ℕ) → n < m → LaterAlike m b c → (g : Env) (d : Ex) (y j : ℕ) (v : Value) (vs : List Value) (s : State) (k k' : ToValue)
        → s.left ≤ n → AlikeV n k k' → R (construct L b g d y j v vs s k) (construct L c g d y j v vs s k')
    construct_like m n lt l g d y j v vs s k k' le h =
        with_some_like (L.body y j) s _ _ (λ o. look_like n L _ _ s _ _ le (λ s1 l1. look_like n L _ _ s1 _ _ l1 (λ s2 l2.
        enter_like m n lt l o v vs s2 _ _ l2 (λ u s3 l3. h v s3 l3))))

    made_by_like : (o : Option ℕ) (m : ℕ) → LaterAlike m b c → (g : Env) (d : Ex) (x y : ℕ) (vs : List Value) (s : State) (k k' : ToValue)
        → s.left ≤ m → AlikeV m k k' → R (made_by L b g d x y o vs s k) (made_by L c g d x y o vs s k')
    made_by_like None m l g d x y [] s k k' le h = step_like m s _ _ le (λ s1 l1. make_cell_like m L g.body d _ s1 k k' (omega arith) h)
    made_by_like None m l g d x y (v ∷ vs) s k k' le h = ends Wrong s tt
    made_by_like (Some j) m l g d x y vs s k k' le h =
        step_like m s _ _ le (λ s1 l1. step_like m s1 _ _ (omega arith) (λ s2 l2. step_like m s2 _ _ (omega arith) (λ s3 l3.
        make_cell_like s3.left L g.body d _ s3 _ _ (omega arith) (λ v s4 l4.
        construct_like m s3.left l3 l g d y j v vs s4 k k' l4 (λ u s5 l5. h u s5 (omega arith))))))

    make_object_like : (m : ℕ) → LaterAlike m b c → (g : Env) (d : Ex) (x y : ℕ) (vs : List Value) (s : State) (k k' : ToValue) → s.left ≤ m
        → AlikeV m k k' → R (make_object L b g d x y vs s k) (make_object L c g d x y vs s k')
    make_object_like m l g d x y vs s k k' le h = made_by_like (L.maker y) m l g d x y vs s k k' le h

    mutual
      pub value_like : (e : Ex) (m : ℕ) → LaterAlike m b c → (f : Frame) (s : State) (k k' : ToValue) → s.left ≤ m → AlikeV m k k'
          → R (value L b e f s k) (value L c e f s k')
      value_like (number t n) m l f s k k' le h = h _ s le
      value_like (character t n) m l f s k k' le h = h _ s le
      value_like (text t u) m l f s k k' le h = h _ _ le
      value_like (truth t n) m l f s k k' le h = h _ s le
      value_like (null t) m l f s k k' le h = h _ s le
      value_like (this t) m l f s k k' le h = h _ s le
      value_like (local t x) m l f s k k' le h = with_some_like (slice_get f.locals x) s _ _ (λ v. h v s le)
      value_like (static_field t x) m l f s k k' le h = read_static_like m x s k k' le h
      value_like (own_field t x) m l f s k k' le h =
          with_cell_like f.self s _ _ (λ a o. read_field_like m L f.env.body (this t) (own_field t x) (Some x) a o s k k' le h)
      value_like (field t e x) m l f s k k' le h =
          value_like e m l f s _ _ le (λ v s1 l1. with_cell_like v s1 _ _ (λ a o. read_member_like m L f.env e (field t e x) x o.kind a o s1 k k' l1 h))
      value_like (index t e i) m l f s k k' le h =
          value_like e m l f s _ _ le (λ v s1 l1. value_like i m l f s1 _ _ l1 (λ w s2 l2. with_some_like (number_of w) s2 _ _
          (λ n. read_element_like m L f.env.body (index t e i) v n s2 k k' l2 h)))
      value_like (call t e x es) m l f s k k' le h =
          value_like e m l f s _ _ le (λ v s1 l1. values_like es m l f s1 _ _ l1 (λ vs s2 l2. call_like m l f.env e (call t e x es) x v vs s2 k k' l2 h))
      value_like (static_call t x es) m l f s k k' le h =
          values_like es m l f s _ _ le (λ vs s2 l2. call_static_like m l f.env (static_call t x es) x vs s2 k k' l2 h)
      value_like (super_call t x es) m l f s k k' le h =
          values_like es m l f s _ _ le (λ vs s2 l2. call_super_like m l f.env (super_call t x es) x f.self vs s2 k k' l2 h)
      value_like (create t n x es) m l f s k k' le h =
          values_like es m l f s _ _ le (λ vs s1 l1. make_object_like m l f.env (create t n x es) n x vs s1 k k' l1 h)
      value_like (create_array t n u e) m l f s k k' le h =
          value_like e m l f s _ _ le (λ v s1 l1. with_some_like (number_of v) s1 _ _ (λ size. make_array_like m L f.env (create_array t n u e) n u
          size s1 k k' l1 h))
      value_like (cast t n u e) m l f s k k' le h = value_like e m l f s _ _ le (λ v s1 l1. cast_like m L f.env.body (cast t n u e) u v s1 k k' l1 h)
      value_like (instance_of t n e x) m l f s k k' le h =
          value_like e m l f s _ _ le (λ v s1 l1. test_class_like m L f.env.body (instance_of t n e x) x v s1 k k' l1 h)
      value_like (unary t o e) m l f s k k' le h = value_like e m l f s _ _ le (λ v s1 l1. with_some_like (unary_value o v) s1 _ _ (λ u. h u s1 l1))
      value_like (binary t o e d) m l f s k k' le h =
          value_like e m l f s _ _ le (λ v s1 l1. after_left_like m o v s1 _ _ k k' l1
          (λ s2 l2. value_like d m l f s2 _ _ l2 (λ w s3 l3. operate_like m o v w s3 k k' l3 h)) h)

      pub values_like : (es : Exs) (m : ℕ) → LaterAlike m b c → (f : Frame) (s : State) (k k' : List Value → State → Outcome) → s.left ≤ m
          → AlikeL m k k' → R (values L b es f s k) (values L c es f s k')
      values_like no_ex m l f s k k' le h = h [] s le
      values_like (ex_then e es) m l f s k k' le h = value_like e m l f s _ _ le (λ v s1 l1. values_like es m l f s1 _ _ l1 (λ vs s2 l2. h (v ∷ vs) s2 l2))

    narrow : (m n : ℕ) → n ≤ m → LaterAlike m b c → LaterAlike n b c
    narrow m n le l i lt = l i (omega arith)

    pub test_like : (e : Option Ex) (m : ℕ) → LaterAlike m b c → (f : Frame) (s : State) (g h g' h' : State → Outcome) → s.left ≤ m → AlikeS m g g'
        → AlikeS m h h' → R (run_test L b e f s g h) (run_test L c e f s g' h')
    test_like None m l f s g h g' h' le e d = e s le
    test_like (Some x) m l f s g h g' h' le e d = value_like x m l f s _ _ le (λ v s1 l1. on_test_like m v s1 g h g' h' l1 e d)

    print_like : (n : Bool) (e : Option Ex) (m : ℕ) → LaterAlike m b c → (f : Frame) (s : State) (k k' : State → Outcome) → s.left ≤ m → AlikeS m k k'
        → R (run_print L b n e f s k) (run_print L c n e f s k')
    print_like n None m l f s k k' le h = h _ le
    print_like n (Some e) m l f s k k' le h = value_like e m l f s _ _ le (λ v s1 l1. with_some_like (text_of s1.strings v) s1 _ _ (λ u. h _ l1))

    initial_like : (x : ℕ) (e : Option Ex) (m : ℕ) → LaterAlike m b c → (f : Frame) (s : State) (k k' : ToFlow) → s.left ≤ m → AlikeF m k k'
        → R (run_initial L b x e f s k) (run_initial L c x e f s k')
    initial_like x None m l f s k k' le h = h Next f s le
    initial_like x (Some e) m l f s k k' le h = value_like e m l f s _ _ le (λ v s1 l1. write_local_like m L x v f s1 k k' l1 h)

    return_like : (e : Option Ex) (m : ℕ) → LaterAlike m b c → (f : Frame) (s : State) (k k' : ToFlow) → s.left ≤ m → AlikeF m k k'
        → R (run_return L b e f s k) (run_return L c e f s k')
    return_like None m l f s k k' le h = h _ f s le
    return_like (Some e) m l f s k k' le h =
        value_like e m l f s _ _ le (λ v s1 l1. with_some_like f.env.result s1 _ _ (λ t. look_like m L _ _ s1 _ _ l1 (λ s2 l2. h _ f s2 l2)))

    assign_like : (t : Target) (d : Ex) (m : ℕ) → LaterAlike m b c → (f : Frame) (s : State) (k k' : ToFlow) → s.left ≤ m → AlikeF m k k'
        → R (run_assign L b t d f s k) (run_assign L c t d f s k')
    assign_like (to_local t x) d m l f s k k' le h = value_like d m l f s _ _ le (λ v s1 l1. write_local_like m L x v f s1 k k' l1 h)
    assign_like (to_static t x) d m l f s k k' le h = value_like d m l f s _ _ le (λ v s1 l1. write_static_like m L x v s1 _ _ l1 (λ s2 l2. h Next f s2 l2))
    assign_like (to_own t x) d m l f s k k' le h =
        value_like d m l f s _ _ le (λ v s1 l1. with_cell_like f.self s1 _ _ (λ a o. write_field_like m L f.env.body (this t) (Some x) v a o s1 _ _ l1
        (λ s2 l2. h Next f s2 l2)))
    assign_like (to_field t e x) d m l f s k k' le h =
        value_like e m l f s _ _ le (λ v s1 l1. value_like d m l f s1 _ _ l1 (λ w s2 l2. with_cell_like v s2 _ _ (λ a o.
        write_field_like m L f.env.body e (L.field f.env e x) w a o s2 _ _ l2 (λ s3 l3. h Next f s3 l3))))
    assign_like (to_element t e i) d m l f s k k' le h =
        value_like e m l f s _ _ le (λ v s1 l1. value_like i m l f s1 _ _ l1 (λ w s2 l2. value_like d m l f s2 _ _ l2
        (λ u s3 l3. with_some_like (number_of w) s3 _ _ (λ n.
        write_element_like m L v n u s3 _ _ l3 (λ s4 l4. h Next f s4 l4)))))
    assign_like no_target d m l f s k k' le h = ends Wrong s tt

    mutual
      pub one_like : (x : St) (m : ℕ) → LaterAlike m b c → (f : Frame) (s : State) (k k' : ToFlow) → s.left ≤ m → AlikeF m k k'
          → R (run_one L b x f s k) (run_one L c x f s k')
      one_like (declare t x e) m l f s k k' le h =
          with_some_like (slice_get f.env.locals x) s _ _ (λ u. with_some_like (slice_get f.locals x) s _ _
          (λ old. initial_like x e m l _ s k k' le h))
      one_like (block t xs) m l f s k k' le h = all_like xs m l f s k k' le h
      one_like (assign t g e) m l f s k k' le h = assign_like g e m l f s k k' le h
      one_like (act t e) m l f s k k' le h = value_like e m l f s _ _ le (λ v s1 l1. h Next f s1 l1)
      one_like (print t n e) m l f s k k' le h = print_like n e m l f s _ _ le (λ s1 l1. h Next f s1 l1)
      one_like (choose t xs) m l f s k k' le h = arms_like xs m l f s k k' le h
      one_like (loop t is_while first test last body) m l f s k k' le h =
          all_like first m l f s _ _ le (λ w f1 s1 l1. after_one_like m w f1 s1 _ _ k k' l1
          (test_like test m l f1 s1 _ _ _ _ l1
          (λ s3 l3. step_like m s3 _ _ l3 (λ s4 l4. all_like body s4.left (narrow m s4.left (omega arith) l) f1 s4 _ _ (omega arith)
          (λ w3 f3 s5 l5. after_turn_like s4.left w3 f3 s5 _ _ k k' l5
          (all_like last s4.left (narrow m s4.left (omega arith) l) f3 s5 _ _ l5 (λ w5 f5 s7 l7. after_one_like s4.left w5 f5 s7 _ _ k k' l7
          (l s4.left l4 (st_then (loop t is_while no_st test last body) no_st) f5 s7 k k' l7 (λ w6 f6 s8 l8. h w6 f6 s8 (omega arith)))
          (λ w6 f6 s8 l8. h w6 f6 s8 (omega arith)))) (λ w6 f6 s8 l8. h w6 f6 s8 (omega arith)))))
          (λ s3 l3. h Next f1 s3 l3)) h)
      one_like (return t e) m l f s k k' le h = return_like e m l f s k k' le h
      one_like (break t) m l f s k k' le h = h Broke f s le
      one_like (continue t) m l f s k k' le h = h Continued f s le

      pub all_like : (xs : Sts) (m : ℕ) → LaterAlike m b c → (f : Frame) (s : State) (k k' : ToFlow) → s.left ≤ m → AlikeF m k k'
          → R (run_all L b xs f s k) (run_all L c xs f s k')
      all_like no_st m l f s k k' le h = h Next f s le
      all_like (st_then x xs) m l f s k k' le h =
          one_like x m l f s _ _ le (λ w f1 s1 l1. after_one_like m w f1 s1 _ _ k k' l1 (all_like xs m l f1 s1 k k' l1 h) h)

      pub arms_like : (xs : IfArms) (m : ℕ) → LaterAlike m b c → (f : Frame) (s : State) (k k' : ToFlow) → s.left ≤ m → AlikeF m k k'
          → R (run_arms L b xs f s k) (run_arms L c xs f s k')
      arms_like no_other m l f s k k' le h = h Next f s le
      arms_like (otherwise xs) m l f s k k' le h = all_like xs m l f s k k' le h
      arms_like (arm e xs more) m l f s k k' le h =
          value_like e m l f s _ _ le (λ v s1 l1. on_test_like m v s1 _ _ _ _ l1 (λ s2 l2. all_like xs m l f s2 k k' l2 h)
          (λ s2 l2. arms_like more m l f s2 k k' l2 h))

  -- two depths above the steps left give the same
  pub depth_like : (L : Lang) (d e m : ℕ) → m < d → m < e → (xs : Sts) (f : Frame) (s : State) (k k' : ToFlow) → s.left ≤ m → AlikeF m k k'
      → R (meaning L d xs f s k) (meaning L e xs f s k')
  depth_like L zero e m ld le xs f s k k' ls h = absurd (omega arith)
  depth_like L (suc d) zero m ld le xs f s k k' ls h = absurd (omega arith)
  depth_like L (suc d) (suc e) m ld le xs f s k k' ls h =
      all_like L (meaning L d) (meaning L e) xs m (λ n lt ys g t j j'. depth_like L d e n (omega arith) (omega arith) ys g t j j') f s k k' ls h

  -- the meaning at a depth is like itself
  pub same_depths : (L : Lang) (d m : ℕ) → m ≤ d → LaterAlike m (meaning L d) (meaning L d)
  same_depths L d m le n lt xs f s k k' ls h = depth_like L d d n (omega arith) (omega arith) xs f s k k' ls h

  -- a run is alike to itself
  pub run_like : (L : Lang) (x : ℕ) (words : List (List ℕ)) (n : ℕ) → R (run_in L x words n) (run_in L x words n)
  unfolding run_in
  run_like L x words n =
      with_some_like (L.static_body x) (start L words n) _ _ (λ b.
      enter_like L (meaning L (suc n)) (meaning L (suc n)) (suc n) n (omega arith) (same_depths L (suc n) (suc n) (omega arith)) b Nothing
      (Object 0 ∷ []) (start L words n) _ _ (omega arith) (λ v s le. ends Ended s tt))
