-- A run that the watch lets go on is the run without the watch, and what it noted has each property that a look keeps.
use Rattle.std.proofs.Common.{◌≡◌, ℕ, zero, suc, List, [], ◌∷◌, Option, Some, None, refl}
use Rattle.std.specs.Prelude.{ℤ, Bool, true, false, slice_get, ◌&&◌, ◌||◌}
use Rattle.std.specs.Option.{option_and_then}
use Rattle.std.specs.declared.result.Result.{Result}
use Rattle.std.specs.declared.result.Result.TheVariants.{Ok as good, Err}
use Rattle.java_core.specs.declared.Ty.{Ty}
use Rattle.java_core.specs.declared.BinOp.{BinOp}
use Rattle.java_core.specs.declared.BinOp.TheVariants as bin
use Rattle.java_core.specs.declared.Op.{Op}
use Rattle.java_core.specs.declared.Fault.{Fault}
use Rattle.java_core.specs.declared.Fault.TheVariants as fault
use Rattle.java_core.specs.Trees.{Tag, Ex, Exs, no_ex, ex_then, number, character, text, truth, null, this, local, static_field, own_field, field, index, call, static_call, super_call, create, create_array, cast, instance_of, unary, binary, Target, to_local, to_static, to_own, to_field, to_element, no_target, St, Sts, IfArms, declare, block, assign, act, print, choose, loop, return, break, continue, no_st, st_then, otherwise, arm, no_other}
use Rattle.java_core.specs.Types.{Env, class_type, element_in, StringMethod, LengthOf, CharAt, Equals, is_plus}
use Rattle.java_meaning.specs.Moment.{End, Ended, Going, Value, Number, Truth, CodeUnit, Nothing, Text, Object, Kind, an_object, an_array, Cell, own_type, own_class, Spot, held, tested, Met, State, Frame, Faulted, Wrong, Escaped, Outcome, stop, Body, Lang, step, step_of, with_some, or_fault, with_result, on_bool, look, look_all}
use Rattle.java_meaning.specs.Values.{cast_number, arguments, number_of, truth_of, natural_of, text_of, arith as op_arith, unary_value, same_value, compared, join, is_text, equals_value}
use Rattle.java_meaning.specs.Meaning.{Flow, Next, Broke, Continued, Gave, ToValue, ToFlow, Later, on_test, with_cell, read_static, write_static, read_field, write_field, names_length, read_member, element_type, place_in, read_element, on_fitting, write_element, enter, call_object, string_call, text_method, call_on, call_static, call_super, make_cell, construct, made_by, make_array, is_number_type, cast_object, cast_to, test_class, after_left, join_values, compute, operate, write_local, after_one, after_turn, value, values, run_test, run_print, run_initial, run_return, run_assign, run_one, run_all, run_arms, meaning, start, run_in}

-- the language without its watch: it notes as before
abbrev pub unguarded : Lang → Lang
unguarded L = record L { sees = λ p v h. true; sees_all = λ b vs h. true }

-- where a run looks at what a cast tests, the cast is none to a number
abbrev pub Reached : Spot → Type 0
Reached (tested b (cast t n u e) z) = is_number_type u.base u.dim ≡ false
Reached p = Unit {0}

-- what holds of the record at its start, and after each look that passes
pub record IsKept (L : Lang) (Ok : List Met → Type 0) : Type 0 where
  pub none : Ok []
  pub note : (p : Spot) (v : Value) (h : List Cell) (m : List Met) → L.sees p v h ≡ true → Reached p → Ok m → Ok (L.note p v h m)
  pub note_all : (b : ℕ) (vs : List Value) (h : List Cell) (m : List Met) → L.sees_all b vs h ≡ true → Ok m → Ok (L.note_all b vs h m)

module _ (L : Lang) (Ok : List Met → Type 0) (kept : IsKept L Ok) where
  abbrev M : Lang
  M = unguarded L

  -- the first run escapes, or both are one, and their record is in order
  pub data R : Outcome → Outcome → Type 0 where
    it_escapes : {o p : Outcome} → o.end ≡ Escaped → R o p
    it_is : {o : Outcome} → Ok o.met → R o o

  ends : (e : End) (s : State) → Ok s.met → R (stop e s) (stop e s)
  ends e s le = it_is le

  with_some_kept : {A : Type 0} (o : Option A) (s : State) → Ok s.met → (g h : A → Outcome) → ((a : A) → R (g a) (h a)) → R (with_some o s g) (with_some o s h)
  with_some_kept None s le g h e = ends Wrong s le
  with_some_kept (Some a) s le g h e = e a

  or_fault_kept : {A : Type 0} (x : Fault) (o : Option A) (s : State) → Ok s.met → (g h : A → Outcome) → ((a : A) → R (g a) (h a))
      → R (or_fault x o s g) (or_fault x o s h)
  or_fault_kept x None s le g h e = ends (Faulted x) s le
  or_fault_kept x (Some a) s le g h e = e a

  with_result_kept : {A : Type 0} (o : Result A Fault) (s : State) → Ok s.met → (g h : A → Outcome) → ((a : A) → R (g a) (h a))
      → R (with_result o s g) (with_result o s h)
  with_result_kept (Err x) s le g h e = ends (Faulted x) s le
  with_result_kept (good a) s le g h e = e a

  with_cell_kept : (v : Value) (s : State) → Ok s.met → (g h : ℕ → Cell → Outcome) → ((a : ℕ) (c : Cell) → R (g a c) (h a c))
      → R (with_cell v s g) (with_cell v s h)
  with_cell_kept Nothing s le g h e = ends (Faulted fault.Null) s le
  with_cell_kept (Object a) s le g h e = with_some_kept (slice_get s.cells a) s le _ _ (λ c. e a c)
  with_cell_kept v s le g h e = ends Wrong s le

  -- two ways to go on
  abbrev pub AlikeV : ToValue → ToValue → Type 0
  AlikeV k k' = (v : Value) (s : State) → Ok s.met → R (k v s) (k' v s)

  abbrev pub AlikeL : (List Value → State → Outcome) → (List Value → State → Outcome) → Type 0
  AlikeL k k' = (v : List Value) (s : State) → Ok s.met → R (k v s) (k' v s)

  abbrev pub AlikeS : (State → Outcome) → (State → Outcome) → Type 0
  AlikeS k k' = (s : State) → Ok s.met → R (k s) (k' s)

  abbrev pub AlikeF : ToFlow → ToFlow → Type 0
  AlikeF k k' = (w : Flow) (f : Frame) (s : State) → Ok s.met → R (k w f s) (k' w f s)

  on_bool_kept : (b : Bool) (s : State) (g h g' h' : State → Outcome) → Ok s.met → AlikeS g g' → AlikeS h h' → R (on_bool b s g h) (on_bool b s g' h')
  on_bool_kept true s g h g' h' le e d = e s le
  on_bool_kept false s g h g' h' le e d = d s le

  stop_kept : (e : End) → AlikeS (stop e) (stop e)
  stop_kept e s le = ends e s le

  on_test_kept : (v : Value) (s : State) (g h g' h' : State → Outcome) → Ok s.met → AlikeS g g' → AlikeS h h' → R (on_test v s g h) (on_test v s g' h')
  on_test_kept (Truth b) s g h g' h' le e d = on_bool_kept b s g h g' h' le e d
  on_test_kept Nothing s g h g' h' le e d = ends Wrong s le
  on_test_kept v s g h g' h' le e d = ends Wrong s le

  look_kept : (p : Spot) (v : Value) (s : State) (g g' : State → Outcome) → Reached p → Ok s.met → AlikeS g g' → R (look L p v s g) (look M p v s g')
  look_kept p v s g g' r le e = go (L.sees p v s.cells) refl
    where
      go : (b : Bool) → L.sees p v s.cells ≡ b → R (on_bool b (record s { met = L.note p v s.cells s.met }) g (stop Escaped))
          (g' (record s { met = L.note p v s.cells s.met }))
      go true d = e _ (kept.note p v s.cells s.met d r le)
      go false d = it_escapes refl

  look_all_kept : (b : ℕ) (vs : List Value) (s : State) (g g' : State → Outcome) → Ok s.met → AlikeS g g' → R (look_all L b vs s g) (look_all M b vs s g')
  look_all_kept b vs s g g' le e = go (L.sees_all b vs s.cells) refl
    where
      go : (z : Bool) → L.sees_all b vs s.cells ≡ z → R (on_bool z (record s { met = L.note_all b vs s.cells s.met }) g (stop Escaped))
          (g' (record s { met = L.note_all b vs s.cells s.met }))
      go true d = e _ (kept.note_all b vs s.cells s.met d le)
      go false d = it_escapes refl

  step_of_kept : (n : ℕ) (s : State) (g h : State → Outcome) → Ok s.met → AlikeS g h → R (step_of n s g) (step_of n s h)
  step_of_kept zero s g h le e = ends Going s le
  step_of_kept (suc n) s g h le e = e (record s { left = n }) le

  step_kept : (s : State) (g h : State → Outcome) → Ok s.met → AlikeS g h → R (step s g) (step s h)
  step_kept s g h le e = step_of_kept s.left s g h le e

  -- what makes no call
  read_static_kept : (x : ℕ) (s : State) (k k' : ToValue) → Ok s.met → AlikeV k k' → R (read_static x s k) (read_static x s k')
  read_static_kept x s k k' le e = with_some_kept (slice_get s.statics x) s le _ _ (λ v. e v s le)

  write_static_kept : (x : ℕ) (v : Value) (s : State) (k k' : State → Outcome) → Ok s.met → AlikeS k k'
      → R (write_static L x v s k) (write_static M x v s k')
  write_static_kept x v s k k' le e =
      with_some_kept (L.field_type x) s le _ _ (λ t. with_some_kept (slice_get s.statics x) s le _ _ (λ old. look_kept _ _ s _ _ tt le (λ s1 l1. e _ l1)))

  read_field_kept : (b : ℕ) (e d : Ex) (x : Option ℕ) (a : ℕ) (c : Cell) (s : State) (k k' : ToValue) → Ok s.met → AlikeV k k'
      → R (read_field L b e d x a c s k) (read_field M b e d x a c s k')
  read_field_kept b e d x a c s k k' le h =
      with_some_kept (own_class c.kind) s le _ _
      (λ t. with_some_kept x s le _ _ (λ j. with_some_kept (L.index t j) s le _ _ (λ i. with_some_kept (slice_get c.values i) s le _ _ (λ u.
      look_kept _ _ s _ _ tt le (λ s1 l1. look_kept _ _ s1 _ _ tt l1 (λ s2 l2. h u s2 l2))))))

  write_field_kept : (b : ℕ) (e : Ex) (x : Option ℕ) (v : Value) (a : ℕ) (c : Cell) (s : State) (k k' : State → Outcome) → Ok s.met
      → AlikeS k k' → R (write_field L b e x v a c s k) (write_field M b e x v a c s k')
  write_field_kept b e x v a c s k k' le h =
      with_some_kept (own_class c.kind) s le _ _
      (λ t. with_some_kept x s le _ _ (λ j. with_some_kept (L.field_type j) s le _ _ (λ u. with_some_kept (L.index t j) s le _ _ (λ i.
      with_some_kept (slice_get c.values i) s le _ _ (λ old. look_kept _ _ s _ _ tt le (λ s1 l1. look_kept _ _ s1 _ _ tt l1 (λ s2 l2. h _ l2)))))))

  read_member_kept : (g : Env) (e d : Ex) (x : List ℕ) (t : Kind) (a : ℕ) (c : Cell) (s : State) (k k' : ToValue) → Ok s.met
      → AlikeV k k' → R (read_member L g e d x t a c s k) (read_member M g e d x t a c s k')
  read_member_kept g e d x (an_object t) a c s k k' le h = read_field_kept g.body e d (L.field g e x) a c s k k' le h
  read_member_kept g e d x (an_array t) a c s k k' le h = on_bool_kept (names_length (L.field g e x) x) s _ _ _ _ le (λ s1 l1. h _ s1 l1)
      (stop_kept Wrong)

  read_element_kept : (b : ℕ) (d : Ex) (v : Value) (i : ℤ) (s : State) (k k' : ToValue) → Ok s.met → AlikeV k k'
      → R (read_element L b d v i s k) (read_element M b d v i s k')
  read_element_kept b d v i s k k' le h =
      with_cell_kept v s le _ _ (λ a c. with_some_kept (element_type c.kind) s le _ _
      (λ t. or_fault_kept fault.Bounds (option_and_then (λ n. slice_get c.values n) (natural_of i)) s le _ _ (λ u.
      look_kept _ _ s _ _ tt le (λ s1 l1. h u s1 l1))))

  on_fitting_kept : (v : Value) (t : Ty) (s : State) (k k' : State → Outcome) → Ok s.met → AlikeS k k'
      → R (on_fitting L v t s k) (on_fitting M v t s k')
  on_fitting_kept (Object b) t s k k' le h =
      with_some_kept (slice_get s.cells b) s le _ _ (λ d. on_bool_kept (L.is_sub (own_type d.kind) t) s k _ k' _ le h
      (stop_kept (Faulted fault.ArrayStore)))
  on_fitting_kept v t s k k' le h = h s le

  write_element_kept : (v : Value) (i : ℤ) (u : Value) (s : State) (k k' : State → Outcome) → Ok s.met → AlikeS k k'
      → R (write_element L v i u s k) (write_element M v i u s k')
  write_element_kept v i u s k k' le h =
      with_cell_kept v s le _ _ (λ a c. with_some_kept (element_type c.kind) s le _ _ (λ t. or_fault_kept fault.Bounds (place_in c i) s le _ _ (λ n.
      on_fitting_kept u t s _ _ le (λ s1 l1. look_kept _ _ s1 _ _ tt l1 (λ s2 l2. h _ l2)))))

  string_call_kept : (x : StringMethod) (u : List ℕ) (vs : List Value) (s : State) (k k' : ToValue) → Ok s.met → AlikeV k k'
      → R (string_call x u vs s k) (string_call x u vs s k')
  string_call_kept LengthOf u [] s k k' le h = h _ s le
  string_call_kept LengthOf u (v ∷ vs) s k k' le h = ends Wrong s le
  string_call_kept CharAt u [] s k k' le h = ends Wrong s le
  string_call_kept CharAt u (v ∷ []) s k k' le h =
      with_some_kept (number_of v) s le _ _ (λ i. or_fault_kept fault.Bounds (option_and_then (λ n. slice_get u n) (natural_of i)) s le _ _
      (λ c. h (CodeUnit c) s le))
  string_call_kept CharAt u (v ∷ w ∷ vs) s k k' le h = ends Wrong s le
  string_call_kept Equals u [] s k k' le h = ends Wrong s le
  string_call_kept Equals u (v ∷ []) s k k' le h = with_some_kept (equals_value s.strings u v) s le _ _ (λ b. h (Truth b) s le)
  string_call_kept Equals u (v ∷ w ∷ vs) s k k' le h = ends Wrong s le

  make_cell_kept : (b : ℕ) (d : Ex) (c : Cell) (s : State) (k k' : ToValue) → Ok s.met → AlikeV k k'
      → R (make_cell L b d c s k) (make_cell M b d c s k')
  make_cell_kept b d c s k k' le h = look_kept _ _ _ _ _ tt le (λ s1 l1. h _ s1 l1)

  make_array_kept : (g : Env) (d : Ex) (n : ℕ) (t : Ty) (size : ℤ) (s : State) (k k' : ToValue) → Ok s.met → AlikeV k k'
      → R (make_array L g d n t size s k) (make_array M g d n t size s k')
  make_array_kept g d n t size s k k' le h =
      with_some_kept (element_in t.base t.dim) s le _ _ (λ u. or_fault_kept fault.NegativeSize (natural_of size) s le _ _ (λ many.
      step_kept s _ _ le (λ s1 l1. make_cell_kept g.body d _ s1 k k' l1 h)))

  cast_object_kept : (b : ℕ) (w : Tag) (n : ℕ) (t : Ty) (e : Ex) (v : Value) (s : State) (k k' : ToValue) → is_number_type t.base t.dim ≡ false → Ok s.met
      → AlikeV k k' → R (cast_object L b (cast w n t e) t v s k) (cast_object M b (cast w n t e) t v s k')
  cast_object_kept b w n t e Nothing s k k' r le h = h _ s le
  cast_object_kept b w n t e (Object a) s k k' r le h =
      with_some_kept (slice_get s.cells a) s le _ _ (λ c. look_kept (tested b (cast w n t e) (L.is_sub (own_type c.kind) t)) (Object a) s _ _ r le (λ s1 l1.
      on_bool_kept (L.is_sub (own_type c.kind) t) s1 _ _ _ _ l1 (λ s2 l2. look_kept _ _ s2 _ _ tt l2 (λ s3 l3. h _ s3 l3))
      (stop_kept (Faulted fault.ClassCast))))
  cast_object_kept b w n t e v s k k' r le h = ends Wrong s le

  cast_kept : (b : ℕ) (w : Tag) (n : ℕ) (t : Ty) (e : Ex) (v : Value) (s : State) (k k' : ToValue) → Ok s.met → AlikeV k k'
      → R (cast_to L b (cast w n t e) t v s k) (cast_to M b (cast w n t e) t v s k')
  cast_kept b w n t e v s k k' le h = go (is_number_type t.base t.dim) refl
    where
      go : (z : Bool) → is_number_type t.base t.dim ≡ z → R (on_bool z s (λ s1. with_some (number_of v) s1 (λ a. k (cast_number t.base a) s1)) (λ s1.
          cast_object L b (cast w n t e) t v s1 k)) (on_bool z s (λ s1. with_some (number_of v) s1 (λ a. k' (cast_number t.base a) s1)) (λ s1.
          cast_object M b (cast w n t e) t v s1 k'))
      go true r = with_some_kept (number_of v) s le _ _ (λ a. h _ s le)
      go false r = cast_object_kept b w n t e v s k k' r le h

  test_class_kept : (b : ℕ) (w : Tag) (n : ℕ) (e : Ex) (t : ℕ) (v : Value) (s : State) (k k' : ToValue) → Ok s.met → AlikeV k k'
      → R (test_class L b (instance_of w n e t) t v s k) (test_class M b (instance_of w n e t) t v s k')
  test_class_kept b w n e t Nothing s k k' le h = h _ s le
  test_class_kept b w n e t (Object a) s k k' le h =
      with_some_kept (slice_get s.cells a) s le _ _ (λ c. look_kept (tested b (instance_of w n e t) (L.is_sub (own_type c.kind) (class_type t))) (Object a) s
      _ _ tt le (λ s1 l1. h _ s1 l1))
  test_class_kept b w n e t v s k k' le h = ends Wrong s le

  after_left_kept : (o : BinOp) (v : Value) (s : State) (r r' : State → Outcome) (k k' : ToValue) → Ok s.met → AlikeS r r' → AlikeV k k'
      → R (after_left o v s r k) (after_left o v s r' k')
  after_left_kept bin.Both v s r r' k k' le e h = on_test_kept v s _ _ _ _ le e (λ s1 l1. h _ s1 l1)
  after_left_kept bin.Either v s r r' k k' le e h = on_test_kept v s _ _ _ _ le (λ s1 l1. h _ s1 l1) e
  after_left_kept _ v s r r' k k' le e h = e s le

  join_kept : (v w : Value) (s : State) (k k' : ToValue) → Ok s.met → AlikeV k k' → R (join_values v w s k) (join_values v w s k')
  join_kept v w s k k' le h =
      with_some_kept (text_of s.strings v) s le _ _ (λ a. with_some_kept (text_of s.strings w) s le _ _ (λ b. with_result_kept (join a b) s le _ _
      (λ u. h _ _ le)))

  compute_kept : (joins : Bool) (a b : Option ℤ) (v w : Value) (o : Op) (s : State) (k k' : ToValue) → Ok s.met → AlikeV k k'
      → R (compute joins a b v w o s k) (compute joins a b v w o s k')
  compute_kept joins (Some a) (Some b) v w o s k k' le h = with_result_kept (op_arith o a b) s le _ _ (λ n. h (Number n) s le)
  compute_kept joins (Some a) None v w o s k k' le h = on_bool_kept joins s _ _ _ _ le (λ s1 l1. join_kept v w s1 k k' l1 h) (stop_kept Wrong)
  compute_kept joins None b v w o s k k' le h = on_bool_kept joins s _ _ _ _ le (λ s1 l1. join_kept v w s1 k k' l1 h) (stop_kept Wrong)

  operate_kept : (o : BinOp) (v w : Value) (s : State) (k k' : ToValue) → Ok s.met → AlikeV k k' → R (operate o v w s k) (operate o v w s k')
  operate_kept (bin.Int o) v w s k k' le h = compute_kept (is_plus o && (is_text v || is_text w)) (number_of v) (number_of w) v w o s k k' le h
  operate_kept bin.Same v w s k k' le h = with_some_kept (same_value v w) s le _ _ (λ b. h (Truth b) s le)
  operate_kept bin.Differs v w s k k' le h =
      with_some_kept (same_value v w) s le _ _ (λ b. on_bool_kept b s _ _ _ _ le (λ s1 l1. h _ s1 l1) (λ s1 l1. h _ s1 l1))
  operate_kept bin.Both v w s k k' le h = with_some_kept (truth_of w) s le _ _ (λ b. h (Truth b) s le)
  operate_kept bin.Either v w s k k' le h = with_some_kept (truth_of w) s le _ _ (λ b. h (Truth b) s le)
  operate_kept o v w s k k' le h =
      with_some_kept (number_of v) s le _ _ (λ a. with_some_kept (number_of w) s le _ _ (λ b. with_some_kept (compared o a b) s le _ _ (λ t. h (Truth t) s le)))

  write_local_kept : (x : ℕ) (v : Value) (f : Frame) (s : State) (k k' : ToFlow) → Ok s.met → AlikeF k k'
      → R (write_local L x v f s k) (write_local M x v f s k')
  write_local_kept x v f s k k' le h =
      with_some_kept (slice_get f.env.locals x) s le _ _ (λ t. with_some_kept (slice_get f.locals x) s le _ _
      (λ old. look_kept _ _ s _ _ tt le (λ s1 l1. h _ _ s1 l1)))

  after_one_kept : (w : Flow) (f : Frame) (s : State) (g g' : Frame → State → Outcome) (k k' : ToFlow) → Ok s.met → R (g f s) (g' f s)
      → AlikeF k k' → R (after_one w f s g k) (after_one w f s g' k')
  after_one_kept Next f s g g' k k' le d e = d
  after_one_kept Broke f s g g' k k' le d e = e Broke f s le
  after_one_kept Continued f s g g' k k' le d e = e Continued f s le
  after_one_kept (Gave v) f s g g' k k' le d e = e (Gave v) f s le

  after_turn_kept : (w : Flow) (f : Frame) (s : State) (g g' : Frame → State → Outcome) (k k' : ToFlow) → Ok s.met → R (g f s) (g' f s)
      → AlikeF k k' → R (after_turn w f s g k) (after_turn w f s g' k')
  after_turn_kept Next f s g g' k k' le d e = d
  after_turn_kept Continued f s g g' k k' le d e = d
  after_turn_kept Broke f s g g' k k' le d e = e Next f s le
  after_turn_kept (Gave v) f s g g' k k' le d e = e (Gave v) f s le

  -- what comes after a step
  pub record LaterKept (b c : Later) : Type 0 where
    pub runs : (xs : Sts) (f : Frame) (s : State) (k k' : ToFlow) → Ok s.met → AlikeF k k' → R (b xs f s k) (c xs f s k')

  module _ (b c : Later) (next : LaterKept b c) where
    enter_kept : (d : Body) (v : Value) (vs : List Value) (s : State) (k k' : ToValue) → Ok s.met
        → AlikeV k k' → R (enter L b d v vs s k) (enter M c d v vs s k')
    enter_kept d v vs s k k' le h =
        with_some_kept (arguments d.params vs) s le _ _ (λ ws. look_all_kept _ _ s _ _ le (λ s1 l1. next.runs d.code _ s1 _ _ l1 (λ w f u lu. h _ u lu)))

    call_object_kept : (g : Env) (e d : Ex) (x : List ℕ) (a : ℕ) (o : Cell) (vs : List Value) (s : State)
        (k k' : ToValue) → Ok s.met → AlikeV k k'
        → R (call_object L b g e d x a o vs s k) (call_object M c g e d x a o vs s k')
    call_object_kept g e d x a o vs s k k' le h =
        with_some_kept (own_class o.kind) s le _ _
        (λ t. step_kept s _ _ le (λ s1 l1. with_some_kept (L.slot g e x) s1 l1 _ _ (λ j. with_some_kept (L.body t j) s1 l1 _ _ (λ y.
        look_kept _ _ s1 _ _ tt l1 (λ s2 l2. look_kept _ _ s2 _ _ tt l2 (λ s3 l3.
        enter_kept y (Object a) vs s3 _ _ l3 (λ u s4 l4. look_kept (held g.body d) u s4 _ _ tt l4 (λ s5 l5. h u s5 l5))))))))

    call_kept : (g : Env) (e d : Ex) (x : List ℕ) (v : Value) (vs : List Value) (s : State) (k k' : ToValue)
        → Ok s.met → AlikeV k k'
        → R (call_on L b g e d x v vs s k) (call_on M c g e d x v vs s k')
    call_kept g e d x Nothing vs s k k' le h = ends (Faulted fault.Null) s le
    call_kept g e d x (Text a) vs s k k' le h =
        with_some_kept (slice_get s.strings a) s le _ _ (λ u. with_some_kept (text_method (L.slot g e x) x) s le _ _
        (λ y. string_call_kept y u vs s k k' le h))
    call_kept g e d x (Object a) vs s k k' le h = with_some_kept (slice_get s.cells a) s le _ _ (λ o. call_object_kept g e d x a o vs s k k' le h)
    call_kept g e d x (Number n) vs s k k' le h = ends Wrong s le
    call_kept g e d x (Truth n) vs s k k' le h = ends Wrong s le
    call_kept g e d x (CodeUnit n) vs s k k' le h = ends Wrong s le

    call_static_kept : (g : Env) (d : Ex) (x : ℕ) (vs : List Value) (s : State) (k k' : ToValue) → Ok s.met
        → AlikeV k k' → R (call_static L b g d x vs s k) (call_static M c g d x vs s k')
    call_static_kept g d x vs s k k' le h =
        step_kept s _ _ le (λ s1 l1. with_some_kept (L.static_body x) s1 l1 _ _ (λ y.
        enter_kept y Nothing vs s1 _ _ l1 (λ u s4 l4. look_kept (held g.body d) u s4 _ _ tt l4 (λ s5 l5. h u s5 l5))))

    call_super_kept : (g : Env) (d : Ex) (x : List ℕ) (v : Value) (vs : List Value) (s : State) (k k' : ToValue)
        → Ok s.met → AlikeV k k'
        → R (call_super L b g d x v vs s k) (call_super M c g d x v vs s k')
    call_super_kept g d x v vs s k k' le h =
        step_kept s _ _ le (λ s1 l1. with_some_kept (L.super_body g.self x) s1 l1 _ _ (λ y. look_kept _ _ s1 _ _ tt l1 (λ s2 l2.
        enter_kept y v vs s2 _ _ l2 (λ u s4 l4. look_kept (held g.body d) u s4 _ _ tt l4 (λ s5 l5. h u s5 l5)))))

    construct_kept : (g : Env) (d : Ex) (x j : ℕ) (v : Value) (vs : List Value) (s : State) (k k' : ToValue)
        → Ok s.met → AlikeV k k' → R (construct L b g d x j v vs s k) (construct M c g d x j v vs s k')
    construct_kept g d x j v vs s k k' le h =
        with_some_kept (L.body x j) s le _ _ (λ y. look_kept _ _ s _ _ tt le (λ s1 l1. look_kept _ _ s1 _ _ tt l1 (λ s2 l2.
        enter_kept y v vs s2 _ _ l2 (λ u s3 l3. h v s3 l3))))

    made_by_kept : (g : Env) (d : Ex) (n x : ℕ) (o : Option ℕ) (vs : List Value) (s : State) (k k' : ToValue)
        → Ok s.met → AlikeV k k' → R (made_by L b g d n x o vs s k) (made_by M c g d n x o vs s k')
    made_by_kept g d n x None [] s k k' le h = step_kept s _ _ le (λ s1 l1. make_cell_kept g.body d _ s1 k k' l1 h)
    made_by_kept g d n x None (v ∷ vs) s k k' le h = ends Wrong s le
    made_by_kept g d n x (Some j) vs s k k' le h =
        step_kept s _ _ le (λ s1 l1. step_kept s1 _ _ l1 (λ s2 l2. step_kept s2 _ _ l2 (λ s3 l3. make_cell_kept g.body d _ s3 _ _ l3 (λ v s4 l4.
        construct_kept g d x j v vs s4 k k' l4 h))))

    mutual
      pub value_kept : (e : Ex) (f : Frame) (s : State) (k k' : ToValue) → Ok s.met → AlikeV k k'
          → R (value L b e f s k) (value M c e f s k')
      value_kept (number t n) f s k k' le h = h _ s le
      value_kept (character t n) f s k k' le h = h _ s le
      value_kept (text t u) f s k k' le h = h _ _ le
      value_kept (truth t n) f s k k' le h = h _ s le
      value_kept (null t) f s k k' le h = h _ s le
      value_kept (this t) f s k k' le h = h _ s le
      value_kept (local t x) f s k k' le h = with_some_kept (slice_get f.locals x) s le _ _ (λ v. h v s le)
      value_kept (static_field t x) f s k k' le h = read_static_kept x s k k' le h
      value_kept (own_field t x) f s k k' le h =
          with_cell_kept f.self s le _ _ (λ a o. read_field_kept f.env.body (this t) (own_field t x) (Some x) a o s k k' le h)
      value_kept (field t e x) f s k k' le h =
          value_kept e f s _ _ le (λ v s1 l1. with_cell_kept v s1 l1 _ _ (λ a o. read_member_kept f.env e (field t e x) x o.kind a o s1 k k' l1 h))
      value_kept (index t e i) f s k k' le h =
          value_kept e f s _ _ le (λ v s1 l1. value_kept i f s1 _ _ l1 (λ w s2 l2. with_some_kept (number_of w) s2 l2 _ _
          (λ n. read_element_kept f.env.body (index t e i) v n s2 k k' l2 h)))
      value_kept (call t e x es) f s k k' le h =
          value_kept e f s _ _ le (λ v s1 l1. values_kept es f s1 _ _ l1 (λ vs s2 l2. call_kept f.env e (call t e x es) x v vs s2 k k' l2 h))
      value_kept (static_call t x es) f s k k' le h =
          values_kept es f s _ _ le (λ vs s2 l2. call_static_kept f.env (static_call t x es) x vs s2 k k' l2 h)
      value_kept (super_call t x es) f s k k' le h =
          values_kept es f s _ _ le (λ vs s2 l2. call_super_kept f.env (super_call t x es) x f.self vs s2 k k' l2 h)
      value_kept (create t n x es) f s k k' le h =
          values_kept es f s _ _ le (λ vs s1 l1. made_by_kept f.env (create t n x es) n x (L.maker x) vs s1 k k' l1 h)
      value_kept (create_array t n u e) f s k k' le h =
          value_kept e f s _ _ le (λ v s1 l1. with_some_kept (number_of v) s1 l1 _ _ (λ size. make_array_kept f.env (create_array t n u e) n u
          size s1 k k' l1 h))
      value_kept (cast t n u e) f s k k' le h = value_kept e f s _ _ le (λ v s1 l1. cast_kept f.env.body t n u e v s1 k k' l1 h)
      value_kept (instance_of t n e x) f s k k' le h =
          value_kept e f s _ _ le (λ v s1 l1. test_class_kept f.env.body t n e x v s1 k k' l1 h)
      value_kept (unary t o e) f s k k' le h = value_kept e f s _ _ le (λ v s1 l1. with_some_kept (unary_value o v) s1 l1 _ _ (λ u. h u s1 l1))
      value_kept (binary t o e d) f s k k' le h =
          value_kept e f s _ _ le (λ v s1 l1. after_left_kept o v s1 _ _ k k' l1
          (λ s2 l2. value_kept d f s2 _ _ l2 (λ w s3 l3. operate_kept o v w s3 k k' l3 h)) h)

      pub values_kept : (es : Exs) (f : Frame) (s : State) (k k' : List Value → State → Outcome) → Ok s.met
          → AlikeL k k' → R (values L b es f s k) (values M c es f s k')
      values_kept no_ex f s k k' le h = h [] s le
      values_kept (ex_then e es) f s k k' le h = value_kept e f s _ _ le (λ v s1 l1. values_kept es f s1 _ _ l1 (λ vs s2 l2. h (v ∷ vs) s2 l2))

    pub test_kept : (e : Option Ex) (f : Frame) (s : State) (g h g' h' : State → Outcome) → Ok s.met → AlikeS g g'
        → AlikeS h h' → R (run_test L b e f s g h) (run_test M c e f s g' h')
    test_kept None f s g h g' h' le e d = e s le
    test_kept (Some x) f s g h g' h' le e d = value_kept x f s _ _ le (λ v s1 l1. on_test_kept v s1 g h g' h' l1 e d)

    print_kept : (n : Bool) (e : Option Ex) (f : Frame) (s : State) (k k' : State → Outcome) → Ok s.met → AlikeS k k'
        → R (run_print L b n e f s k) (run_print M c n e f s k')
    print_kept n None f s k k' le h = h _ le
    print_kept n (Some e) f s k k' le h = value_kept e f s _ _ le (λ v s1 l1. with_some_kept (text_of s1.strings v) s1 l1 _ _ (λ u. h _ l1))

    initial_kept : (x : ℕ) (e : Option Ex) (f : Frame) (s : State) (k k' : ToFlow) → Ok s.met → AlikeF k k'
        → R (run_initial L b x e f s k) (run_initial M c x e f s k')
    initial_kept x None f s k k' le h = h Next f s le
    initial_kept x (Some e) f s k k' le h = value_kept e f s _ _ le (λ v s1 l1. write_local_kept x v f s1 k k' l1 h)

    return_kept : (e : Option Ex) (f : Frame) (s : State) (k k' : ToFlow) → Ok s.met → AlikeF k k'
        → R (run_return L b e f s k) (run_return M c e f s k')
    return_kept None f s k k' le h = h _ f s le
    return_kept (Some e) f s k k' le h =
        value_kept e f s _ _ le (λ v s1 l1. with_some_kept f.env.result s1 l1 _ _ (λ t. look_kept _ _ s1 _ _ tt l1 (λ s2 l2. h _ f s2 l2)))

    assign_kept : (t : Target) (d : Ex) (f : Frame) (s : State) (k k' : ToFlow) → Ok s.met → AlikeF k k'
        → R (run_assign L b t d f s k) (run_assign M c t d f s k')
    assign_kept (to_local t x) d f s k k' le h = value_kept d f s _ _ le (λ v s1 l1. write_local_kept x v f s1 k k' l1 h)
    assign_kept (to_static t x) d f s k k' le h = value_kept d f s _ _ le (λ v s1 l1. write_static_kept x v s1 _ _ l1 (λ s2 l2. h Next f s2 l2))
    assign_kept (to_own t x) d f s k k' le h =
        value_kept d f s _ _ le (λ v s1 l1. with_cell_kept f.self s1 l1 _ _ (λ a o. write_field_kept f.env.body (this t) (Some x) v a o s1 _ _ l1
        (λ s2 l2. h Next f s2 l2)))
    assign_kept (to_field t e x) d f s k k' le h =
        value_kept e f s _ _ le (λ v s1 l1. value_kept d f s1 _ _ l1 (λ w s2 l2. with_cell_kept v s2 l2 _ _ (λ a o.
        write_field_kept f.env.body e (L.field f.env e x) w a o s2 _ _ l2 (λ s3 l3. h Next f s3 l3))))
    assign_kept (to_element t e i) d f s k k' le h =
        value_kept e f s _ _ le (λ v s1 l1. value_kept i f s1 _ _ l1 (λ w s2 l2. value_kept d f s2 _ _ l2
        (λ u s3 l3. with_some_kept (number_of w) s3 l3 _ _ (λ n.
        write_element_kept v n u s3 _ _ l3 (λ s4 l4. h Next f s4 l4)))))
    assign_kept no_target d f s k k' le h = ends Wrong s le

    mutual
      pub one_kept : (x : St) (f : Frame) (s : State) (k k' : ToFlow) → Ok s.met → AlikeF k k'
          → R (run_one L b x f s k) (run_one M c x f s k')
      one_kept (declare t x e) f s k k' le h =
          with_some_kept (slice_get f.env.locals x) s le _ _ (λ u. with_some_kept (slice_get f.locals x) s le _ _
          (λ old. initial_kept x e _ s k k' le h))
      one_kept (block t xs) f s k k' le h = all_kept xs f s k k' le h
      one_kept (assign t g e) f s k k' le h = assign_kept g e f s k k' le h
      one_kept (act t e) f s k k' le h = value_kept e f s _ _ le (λ v s1 l1. h Next f s1 l1)
      one_kept (print t n e) f s k k' le h = print_kept n e f s _ _ le (λ s1 l1. h Next f s1 l1)
      one_kept (choose t xs) f s k k' le h = arms_kept xs f s k k' le h
      one_kept (loop t is_while first test last body) f s k k' le h =
          all_kept first f s _ _ le (λ w f1 s1 l1. after_one_kept w f1 s1 _ _ k k' l1
          (test_kept test f1 s1 _ _ _ _ l1
          (λ s3 l3. step_kept s3 _ _ l3 (λ s4 l4. all_kept body f1 s4 _ _ l4
          (λ w3 f3 s5 l5. after_turn_kept w3 f3 s5 _ _ k k' l5
          (all_kept last f3 s5 _ _ l5 (λ w5 f5 s7 l7. after_one_kept w5 f5 s7 _ _ k k' l7
          (next.runs (st_then (loop t is_while no_st test last body) no_st) f5 s7 k k' l7 h) h)) h)))
          (λ s3 l3. h Next f1 s3 l3)) h)
      one_kept (return t e) f s k k' le h = return_kept e f s k k' le h
      one_kept (break t) f s k k' le h = h Broke f s le
      one_kept (continue t) f s k k' le h = h Continued f s le

      pub all_kept : (xs : Sts) (f : Frame) (s : State) (k k' : ToFlow) → Ok s.met → AlikeF k k'
          → R (run_all L b xs f s k) (run_all M c xs f s k')
      all_kept no_st f s k k' le h = h Next f s le
      all_kept (st_then x xs) f s k k' le h =
          one_kept x f s _ _ le (λ w f1 s1 l1. after_one_kept w f1 s1 _ _ k k' l1 (all_kept xs f1 s1 k k' l1 h) h)

      pub arms_kept : (xs : IfArms) (f : Frame) (s : State) (k k' : ToFlow) → Ok s.met → AlikeF k k'
          → R (run_arms L b xs f s k) (run_arms M c xs f s k')
      arms_kept no_other f s k k' le h = h Next f s le
      arms_kept (otherwise xs) f s k k' le h = all_kept xs f s k k' le h
      arms_kept (arm e xs more) f s k k' le h =
          value_kept e f s _ _ le (λ v s1 l1. on_test_kept v s1 _ _ _ _ l1 (λ s2 l2. all_kept xs f s2 k k' l2 h)
          (λ s2 l2. arms_kept more f s2 k k' l2 h))

  meaning_kept : (d : ℕ) → LaterKept (meaning L d) (meaning M d)
  meaning_kept zero = record { runs = λ xs f s k k' le h. ends Going s le }
  meaning_kept (suc d) = record { runs = λ xs f s k k' le h. all_kept (meaning L d) (meaning M d) (meaning_kept d) xs f s k k' le h }

  pub run_kept : (x : ℕ) (words : List (List ℕ)) (n : ℕ) → R (run_in L x words n) (run_in M x words n)
  unfolding run_in
  run_kept x words n =
      with_some_kept (L.static_body x) (start L words n) kept.none _ _ (λ b.
      enter_kept (meaning L (suc n)) (meaning M (suc n)) (meaning_kept (suc n)) b Nothing
      (Object 0 ∷ []) (start L words n) _ _ kept.none (λ v s le. ends Ended s le))

-- so what the run without the watch noted is in order
pub run_keeps : (L : Lang) (Ok : List Met → Type 0) → IsKept L Ok → (x : ℕ) (words : List (List ℕ)) (n : ℕ) → ((run_in L x words n).end ≡ Escaped → ⊥)
    → Ok (run_in (unguarded L) x words n).met
run_keeps L Ok kept x words n not = go (run_kept L Ok kept x words n) not
  where
    go : {o p : Outcome} → R L Ok kept o p → (o.end ≡ Escaped → ⊥) → Ok p.met
    go (it_escapes e) n = absurd (n e)
    go (it_is k) n = k
