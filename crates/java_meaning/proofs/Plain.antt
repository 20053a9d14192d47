-- A run with a watch, a record and labels is the plain run, unless it escapes.
use Rattle.std.proofs.Common.{◌≡◌, ℕ, zero, suc, List, [], ◌∷◌, ◌++◌, Option, Some, None, length, refl, sym, ap, ◌∙◌, subst, inl, inr}
use Rattle.std.specs.Prelude.{ℤ, ◌⊎◌, Bool, true, false, slice_get, slice_set}
use Rattle.std.specs.Option.{option_and_then}
use Rattle.std.proofs.lemmas.Bool.{false≢true}
use Rattle.java_core.specs.declared.Ty.{Ty}
use Rattle.java_core.specs.declared.Fault.TheVariants as fault
use Rattle.java_core.specs.Trees.{Ex, Exs, Target, St, Sts, IfArms, loop, no_st, st_then}
use Rattle.java_core.specs.Types.{Env, class_type, element_in}
use Rattle.java_meaning.specs.Moment.{Value, Number, Truth, CodeUnit, Nothing, Text, Object, Kind, an_object, an_array, Cell, own_type, own_class, Spot, held, bound, self_of, result_of, set_static, kept, put_in, touched, tested, ran, Met, State, Frame, Ended, Faulted, Going, Wrong, Escaped, Outcome, unnoted, stop, Body, Lang, with_some, on_bool, look, look_all}
use Rattle.java_meaning.specs.Values.{int_of, default_of, convert, arguments, number_of, natural_of, text_of, unary_value, cast_number, defaults}
use Rattle.java_meaning.specs.Meaning.{Next, Broke, Continued, Gave, ToValue, ToFlow, Later, add_cell, set_value, set_local, write_static, read_field, write_field, names_length, read_member, element_type, place_in, read_element, on_fitting, write_element, given, enter, call_object, text_method, call_on, call_static, call_super, make_cell, new_object, construct, made_by, make_object, make_array, is_number_type, cast_object, cast_to, test_class, write_local, value, values, run_test, run_print, run_initial, run_return, run_assign, run_one, run_all, run_arms, meaning, words_cell, start, run_in}
use Rattle.java_core.specs.Retagged.{Retagged, s_number, s_character, s_text, s_truth, s_null, s_this, s_local, s_static_field, s_own_field, s_field, s_index, s_call, s_static_call, s_super_call, s_create, s_create_array, s_cast, s_instance_of, s_unary, s_binary, RetaggedAll, s_no_ex, s_ex_then, RetaggedTarget, s_to_local, s_to_static, s_to_own, s_to_field, s_to_element, s_no_target}
use Rattle.java_meaning.specs.Paired.{PairedIf, PairedSt, PairedArms, pair_none, pair_some, pair_declare, pair_block, pair_assign, pair_act, pair_print, pair_choose, pair_loop, pair_return, pair_break, pair_continue, pair_no_st, pair_st_then, pair_no_other, pair_otherwise, pair_arm}
use Rattle.java_meaning.specs.Watched.{SameTarget, RetaggedSts, recoded, RetaggedBody, s_no_body, s_body, IsUnwatched, EscapesOrIs}
use Rattle.java_meaning.proofs.Unwatched.{re, OrIs, it_escapes, it_is, is_stop, escapes, KS, KV, KL, KF, some_r, some_as, fault_r, cell_r, bool_r, test_r, step_r, one_r, turn_r, give_r, string_r, left_r, operate_r}

-- the value of a call is looked at
abbrev looked : Lang → ℕ → Ex → ToValue → ToValue
looked L b d k u s = look L (held b d) u s (λ s1. k u s1)

module _ (E : Type 0) (L M : Lang) (like : IsUnwatched L M) (escape : (p : Spot) (v : Value) (h : List Cell) → L.sees p v h ≡ false → E)
    (escape_all : (b : ℕ) (vs : List Value) (h : List Cell) → L.sees_all b vs h ≡ false → E) where
  -- a look in the second language lets all pass, and notes nothing
  passed : (q : Spot) (v : Value) (t : State) (j : State → Outcome) → look M q v t j ≡ j t
  passed q v t j = ap (λ z. on_bool z (re t (M.note q v t.cells t.met)) j (stop Escaped)) (like.sees q v t.cells)
      ∙ ap (λ z. j (re t z)) (like.note q v t.cells t.met)

  passed_all : (b : ℕ) (vs : List Value) (t : State) (j : State → Outcome) → look_all M b vs t j ≡ j t
  passed_all b vs t j = ap (λ z. on_bool z (re t (M.note_all b vs t.cells t.met)) j (stop Escaped)) (like.sees_all b vs t.cells)
      ∙ ap (λ z. j (re t z)) (like.note_all b vs t.cells t.met)

  look_r : (p q : Spot) (v : Value) (s : State) (m : List Met) (k j : State → Outcome) → KS E k j → OrIs E m (look L p v s k) (look M q v (re s m) j)
  look_r p q v s m k j e = subst (λ z. OrIs E m (look L p v s k) z) (sym (passed q v (re s m) j)) (go (L.sees p v s.cells) refl)
    where
      go : (b : Bool) → L.sees p v s.cells ≡ b → OrIs E m (on_bool b (re s (L.note p v s.cells s.met)) k (stop Escaped)) (j (re s m))
      go true h = e (re s (L.note p v s.cells s.met)) m
      go false h = escapes (escape p v s.cells h) (re s (L.note p v s.cells s.met)) m (j (re s m))

  look_all_r : (b : ℕ) (vs : List Value) (s : State) (m : List Met) (k j : State → Outcome) → KS E k j → OrIs E m (look_all L b vs s k) (look_all M b vs (re s m) j)
  look_all_r b vs s m k j e = subst (λ z. OrIs E m (look_all L b vs s k) z) (sym (passed_all b vs (re s m) j)) (go (L.sees_all b vs s.cells) refl)
    where
      go : (y : Bool) → L.sees_all b vs s.cells ≡ y → OrIs E m (on_bool y (re s (L.note_all b vs s.cells s.met)) k (stop Escaped)) (j (re s m))
      go true h = e (re s (L.note_all b vs s.cells s.met)) m
      go false h = escapes (escape_all b vs s.cells h) (re s (L.note_all b vs s.cells s.met)) m (j (re s m))

  write_static_r : (x : ℕ) (v : Value) (s : State) (m : List Met) (k j : State → Outcome) → KS E k j
      → OrIs E m (write_static L x v s k) (write_static M x v (re s m) j)
  write_static_r x v s m k j r =
      some_as (L.field_type x) (M.field_type x) s m _ _ (like.typed_field x) (λ t. some_r (slice_get s.statics x) s m _ _ (λ old.
      look_r (set_static x) (set_static x) (convert t v) s m (λ s1. k (record s1 { statics = slice_set s1.statics x (convert t v) }))
      (λ s1. j (record s1 { statics = slice_set s1.statics x (convert t v) }))
      (λ s1 m1. r (record s1 { statics = slice_set s1.statics x (convert t v) }) m1)))

  read_field_r : (b : ℕ) (e d e2 d2 : Ex) (x y : Option ℕ) (a : ℕ) (c : Cell) (s : State) (m : List Met) (k j : ToValue) → y ≡ x → KV E k j
      → OrIs E m (read_field L b e d x a c s k) (read_field M b e2 d2 y a c (re s m) j)
  read_field_r b e d e2 d2 x y a c s m k j q r =
      some_r (own_class c.kind) s m _ _ (λ t. some_as x y s m _ _ q (λ f. some_as (L.index t f) (M.index t f) s m _ _ (like.index t f)
      (λ i. some_r (slice_get c.values i) s m _ _ (λ u.
      look_r (touched b e f) (touched b e2 f) (Object a) s m _ _ (λ s1 m1. look_r (held b d) (held b d2) u s1 m1 (λ s2. k u s2) (λ s2. j u s2) (r u))))))

  write_field_r : (b : ℕ) (e e2 : Ex) (x y : Option ℕ) (v : Value) (a : ℕ) (c : Cell) (s : State) (m : List Met) (k j : State → Outcome) → y ≡ x
      → KS E k j → OrIs E m (write_field L b e x v a c s k) (write_field M b e2 y v a c (re s m) j)
  write_field_r b e e2 x y v a c s m k j q r =
      some_r (own_class c.kind) s m _ _ (λ t. some_as x y s m _ _ q (λ f. some_as (L.field_type f) (M.field_type f) s m _ _ (like.typed_field f)
      (λ u. some_as (L.index t f) (M.index t f) s m _ _ (like.index t f) (λ i.
      some_r (slice_get c.values i) s m _ _ (λ old. look_r (touched b e f) (touched b e2 f) (Object a) s m _ _ (λ s1 m1.
      look_r (kept c.site f) (kept c.site f) (convert u v) s1 m1 (λ s2. k (set_value a c i (convert u v) s2))
      (λ s2. j (set_value a c i (convert u v) s2)) (λ s2 m2. r (set_value a c i (convert u v) s2) m2)))))))

  read_member_r : (g : Env) (e e2 d d2 : Ex) (x : List ℕ) (t : Kind) (a : ℕ) (c : Cell) (s : State) (m : List Met) (k j : ToValue) → Retagged e e2
      → KV E k j → OrIs E m (read_member L g e d x t a c s k) (read_member M g e2 d2 x t a c (re s m) j)
  read_member_r g e e2 d d2 x (an_object t) a c s m k j h r = read_field_r g.body e d e2 d2 (L.field g e x) (M.field g e2 x) a c s m k j
      (like.field g e e2 x h) r
  read_member_r g e e2 d d2 x (an_array t) a c s m k j h r =
      subst (λ z. OrIs E m (read_member L g e d x (an_array t) a c s k)
      (on_bool (names_length z x) (re s m) (λ s1. j (Number (int_of (length c.values))) s1) (stop Wrong))) (sym (like.field g e e2 x h))
      (bool_r (names_length (L.field g e x) x) s m (λ s1. k (Number (int_of (length c.values))) s1) (λ s1. j (Number (int_of (length c.values))) s1)
      (stop Wrong) (stop Wrong) (r (Number (int_of (length c.values)))) (is_stop Wrong))

  read_element_r : (b : ℕ) (d d2 : Ex) (v : Value) (i : ℤ) (s : State) (m : List Met) (k j : ToValue) → KV E k j
      → OrIs E m (read_element L b d v i s k) (read_element M b d2 v i (re s m) j)
  read_element_r b d d2 v i s m k j r =
      cell_r v s m _ _ (λ a c. some_r (element_type c.kind) s m _ _
      (λ t. fault_r fault.Bounds (option_and_then (λ n. slice_get c.values n) (natural_of i)) s m _ _ (λ u.
      look_r (held b d) (held b d2) u s m (λ s1. k u s1) (λ s1. j u s1) (r u))))

  fitting_r : (v : Value) (t : Ty) (s : State) (m : List Met) (k j : State → Outcome) → KS E k j → OrIs E m (on_fitting L v t s k) (on_fitting M v t (re s m) j)
  fitting_r (Object b) t s m k j r =
      some_r (slice_get s.cells b) s m _ _ (λ d. subst (λ z. OrIs E m (on_bool (L.is_sub (own_type d.kind) t) s k (stop (Faulted fault.ArrayStore)))
      (on_bool z (re s m) j (stop (Faulted fault.ArrayStore)))) (sym (like.is_sub (own_type d.kind) t))
      (bool_r (L.is_sub (own_type d.kind) t) s m k j (stop (Faulted fault.ArrayStore)) (stop (Faulted fault.ArrayStore)) r
      (is_stop (Faulted fault.ArrayStore))))
  fitting_r (Number n) t s m k j r = r s m
  fitting_r (Truth n) t s m k j r = r s m
  fitting_r (CodeUnit n) t s m k j r = r s m
  fitting_r Nothing t s m k j r = r s m
  fitting_r (Text n) t s m k j r = r s m

  write_element_r : (v : Value) (i : ℤ) (u : Value) (s : State) (m : List Met) (k j : State → Outcome) → KS E k j
      → OrIs E m (write_element L v i u s k) (write_element M v i u (re s m) j)
  write_element_r v i u s m k j r =
      cell_r v s m _ _ (λ a c. some_r (element_type c.kind) s m _ _ (λ t. fault_r fault.Bounds (place_in c i) s m _ _ (λ n. fitting_r u t s m _ _ (λ s1 m1.
      look_r (put_in c.site) (put_in c.site) (convert t u) s1 m1 (λ s2. k (set_value a c n (convert t u) s2))
      (λ s2. j (set_value a c n (convert t u) s2)) (λ s2 m2. r (set_value a c n (convert t u) s2) m2)))))

  make_cell_r : (b : ℕ) (d d2 : Ex) (c : Cell) (s : State) (m : List Met) (k j : ToValue) → KV E k j
      → OrIs E m (make_cell L b d c s k) (make_cell M b d2 c (re s m) j)
  make_cell_r b d d2 c s m k j r = look_r (held b d) (held b d2) (Object (length s.cells)) (add_cell c s) m (λ s1. k (Object (length s.cells)) s1)
      (λ s1. j (Object (length s.cells)) s1) (r (Object (length s.cells)))

  new_object_r : (b : ℕ) (d d2 : Ex) (n c : ℕ) (s : State) (m : List Met) (k j : ToValue) → KV E k j
      → OrIs E m (new_object L b d n c s k) (new_object M b d2 n c (re s m) j)
  new_object_r b d d2 n c s m k j r =
      subst (λ z. OrIs E m (new_object L b d n c s k) (make_cell M b d2 (record { site = Some n; kind = an_object c; values = z }) (re s m) j))
      (sym (like.fresh c)) (make_cell_r b d d2 (record { site = Some n; kind = an_object c; values = L.fresh c }) s m k j r)

  make_array_r : (g : Env) (d d2 : Ex) (n : ℕ) (t : Ty) (size : ℤ) (s : State) (m : List Met) (k j : ToValue) → KV E k j
      → OrIs E m (make_array L g d n t size s k) (make_array M g d2 n t size (re s m) j)
  make_array_r g d d2 n t size s m k j r =
      some_r (element_in t.base t.dim) s m _ _ (λ u. fault_r fault.NegativeSize (natural_of size) s m _ _
      (λ many. step_r s m _ _ (λ s1 m1. make_cell_r g.body d d2 (record { site = Some n; kind = an_array t; values = defaults u many }) s1 m1 k j
      r)))

  cast_object_r : (b : ℕ) (d d2 : Ex) (t : Ty) (v : Value) (s : State) (m : List Met) (k j : ToValue) → KV E k j
      → OrIs E m (cast_object L b d t v s k) (cast_object M b d2 t v (re s m) j)
  cast_object_r b d d2 t Nothing s m k j r = r Nothing s m
  cast_object_r b d d2 t (Object a) s m k j r =
      some_r (slice_get s.cells a) s m _ _ (λ c. subst (λ z. OrIs E m (more c) (plain c z)) (sym (like.is_sub (own_type c.kind) t)) (both c))
    where
      more : Cell → Outcome
      more c = look L (tested b d (L.is_sub (own_type c.kind) t)) (Object a) s (λ s1. on_bool (L.is_sub (own_type c.kind) t) s1
          (λ s2. look L (held b d) (Object a) s2 (λ s3. k (Object a) s3)) (stop (Faulted fault.ClassCast)))

      plain : Cell → Bool → Outcome
      plain c z = look M (tested b d2 z) (Object a) (re s m) (λ s1. on_bool z s1 (λ s2. look M (held b d2) (Object a) s2 (λ s3. j (Object a) s3))
          (stop (Faulted fault.ClassCast)))

      both : (c : Cell) → OrIs E m (more c) (plain c (L.is_sub (own_type c.kind) t))
      both c = look_r (tested b d (L.is_sub (own_type c.kind) t)) (tested b d2 (L.is_sub (own_type c.kind) t)) (Object a) s m _ _ (λ s1 m1.
          bool_r (L.is_sub (own_type c.kind) t) s1 m1 _ _ (stop (Faulted fault.ClassCast)) (stop (Faulted fault.ClassCast))
          (λ s2 m2. look_r (held b d) (held b d2) (Object a) s2 m2 (λ s3. k (Object a) s3) (λ s3. j (Object a) s3) (r (Object a)))
          (is_stop (Faulted fault.ClassCast)))
  cast_object_r b d d2 t (Number n) s m k j r = is_stop Wrong s m
  cast_object_r b d d2 t (Truth n) s m k j r = is_stop Wrong s m
  cast_object_r b d d2 t (CodeUnit n) s m k j r = is_stop Wrong s m
  cast_object_r b d d2 t (Text n) s m k j r = is_stop Wrong s m

  cast_r : (b : ℕ) (d d2 : Ex) (t : Ty) (v : Value) (s : State) (m : List Met) (k j : ToValue) → KV E k j
      → OrIs E m (cast_to L b d t v s k) (cast_to M b d2 t v (re s m) j)
  cast_r b d d2 t v s m k j r =
      bool_r (is_number_type t.base t.dim) s m _ _ (λ s1. cast_object L b d t v s1 k) (λ s1. cast_object M b d2 t v s1 j)
      (λ s1 m1. some_r (number_of v) s1 m1 _ _ (λ a. r (cast_number t.base a) s1 m1)) (λ s1 m1. cast_object_r b d d2 t v s1 m1 k j r)

  test_class_r : (b : ℕ) (d d2 : Ex) (t : ℕ) (v : Value) (s : State) (m : List Met) (k j : ToValue) → KV E k j
      → OrIs E m (test_class L b d t v s k) (test_class M b d2 t v (re s m) j)
  test_class_r b d d2 t Nothing s m k j r = r (Truth false) s m
  test_class_r b d d2 t (Object a) s m k j r =
      some_r (slice_get s.cells a) s m _ _ (λ c. subst (λ z. OrIs E m (more c) (plain c z)) (sym (like.is_sub (own_type c.kind) (class_type t)))
      (both c))
    where
      more : Cell → Outcome
      more c = look L (tested b d (L.is_sub (own_type c.kind) (class_type t))) (Object a) s (λ s1. k (Truth (L.is_sub (own_type c.kind) (class_type t))) s1)

      plain : Cell → Bool → Outcome
      plain c z = look M (tested b d2 z) (Object a) (re s m) (λ s1. j (Truth z) s1)

      both : (c : Cell) → OrIs E m (more c) (plain c (L.is_sub (own_type c.kind) (class_type t)))
      both c = look_r (tested b d (L.is_sub (own_type c.kind) (class_type t))) (tested b d2 (L.is_sub (own_type c.kind) (class_type t))) (Object a) s
          m (λ s1. k (Truth (L.is_sub (own_type c.kind) (class_type t))) s1)
          (λ s1. j (Truth (L.is_sub (own_type c.kind) (class_type t))) s1) (r (Truth (L.is_sub (own_type c.kind) (class_type t))))
  test_class_r b d d2 t (Number n) s m k j r = is_stop Wrong s m
  test_class_r b d d2 t (Truth n) s m k j r = is_stop Wrong s m
  test_class_r b d d2 t (CodeUnit n) s m k j r = is_stop Wrong s m
  test_class_r b d d2 t (Text n) s m k j r = is_stop Wrong s m

  write_local_r : (x : ℕ) (v : Value) (f : Frame) (s : State) (m : List Met) (k j : ToFlow) → KF E k j
      → OrIs E m (write_local L x v f s k) (write_local M x v f (re s m) j)
  write_local_r x v f s m k j r =
      some_r (slice_get f.env.locals x) s m _ _ (λ t. some_r (slice_get f.locals x) s m _ _ (λ old. look_r (bound f.env.body x) (bound f.env.body x)
      (convert t v) s m
      (λ s1. k Next (set_local f x (convert t v)) s1) (λ s1. j Next (set_local f x (convert t v)) s1) (r Next (set_local f x (convert t v)))))

  module _ (later later2 : Later) where
    pub record NextR : Type 0 where
      pub runs : (xs ys : Sts) → RetaggedSts xs ys → (f : Frame) (s : State) (m : List Met) (k j : ToFlow) → KF E k j
          → OrIs E m (later xs f s k) (later2 ys f (re s m) j)

    module _ (next : NextR) where
      enter_r : (b : Body) (ys : Sts) → RetaggedSts b.code ys → (v : Value) (vs : List Value) (s : State) (m : List Met) (k j : ToValue) → KV E k j
          → OrIs E m (enter L later b v vs s k) (enter M later2 (recoded ys b) v vs (re s m) j)
      enter_r b ys h v vs s m k j r =
          some_r (arguments b.params vs) s m _ _ (λ ws. look_all_r b.env.body ws s m _ _ (λ s1 m1.
          next.runs b.code ys h (record { env = b.env; self = v; locals = ws ++ b.rest }) s1 m1 _ _ (λ w f s2 m2. r (given b w) s2 m2)))

      -- a body that is found in both, and what is done with it
      found_r : (o p : Option Body) (s : State) (m : List Met) (k j : Body → Outcome) → RetaggedBody o p
          → ((b : Body) (ys : Sts) → RetaggedSts b.code ys → OrIs E m (k b) (j (recoded ys b))) → OrIs E m (with_some o s k) (with_some p (re s m) j)
      found_r _ _ s m k j s_no_body e = is_stop Wrong s m
      found_r _ _ s m k j (s_body {b = b} {ys = ys} h) e = e b ys h

      after_r : (b : ℕ) (d d2 : Ex) (k j : ToValue) → KV E k j → KV E (looked L b d k) (looked M b d2 j)
      after_r b d d2 k j r u s m = look_r (held b d) (held b d2) u s m (λ s5. k u s5) (λ s5. j u s5) (r u)

      call_object_r : (g : Env) (e e2 d d2 : Ex) (x : List ℕ) (a : ℕ) (c : Cell) (vs : List Value) (s : State) (m : List Met) (k j : ToValue)
          → Retagged e e2 → KV E k j → OrIs E m (call_object L later g e d x a c vs s k) (call_object M later2 g e2 d2 x a c vs (re s m) j)
      call_object_r g e e2 d d2 x a c vs s m k j h r =
          some_r (own_class c.kind) s m _ _ (λ t. step_r s m _ _ (λ s1 m1. some_as (L.slot g e x) (M.slot g e2 x) s1 m1 _ _ (like.slot g e e2 x h)
          (λ y. found_r (L.body t y) (M.body t y) s1 m1 _ _ (like.body t y) (λ b ys q.
          look_r (ran g.body d b.env.body) (ran g.body d2 b.env.body) (Object a) s1 m1 _ _ (λ s2 m2. look_r (self_of b.env.body) (self_of b.env.body)
          (Object a) s2 m2 _ _ (λ s3 m3.
          enter_r b ys q (Object a) vs s3 m3 (looked L g.body d k) (looked M g.body d2 j) (after_r g.body d d2 k j r)))))))

      call_r : (g : Env) (e e2 d d2 : Ex) (x : List ℕ) (v : Value) (vs : List Value) (s : State) (m : List Met) (k j : ToValue) → Retagged e e2
          → KV E k j → OrIs E m (call_on L later g e d x v vs s k) (call_on M later2 g e2 d2 x v vs (re s m) j)
      call_r g e e2 d d2 x Nothing vs s m k j h r = is_stop (Faulted fault.Null) s m
      call_r g e e2 d d2 x (Text a) vs s m k j h r =
          some_r (slice_get s.strings a) s m _ _ (λ u. some_as (text_method (L.slot g e x) x) (text_method (M.slot g e2 x) x) s m _ _
          (ap (λ z. text_method z x) (like.slot g e e2 x h)) (λ y. string_r y u vs s m k j r))
      call_r g e e2 d d2 x (Object a) vs s m k j h r = some_r (slice_get s.cells a) s m _ _ (λ c. call_object_r g e e2 d d2 x a c vs s m k j h r)
      call_r g e e2 d d2 x (Number n) vs s m k j h r = is_stop Wrong s m
      call_r g e e2 d d2 x (Truth n) vs s m k j h r = is_stop Wrong s m
      call_r g e e2 d d2 x (CodeUnit n) vs s m k j h r = is_stop Wrong s m

      call_static_r : (g : Env) (d d2 : Ex) (x : ℕ) (vs : List Value) (s : State) (m : List Met) (k j : ToValue) → KV E k j
          → OrIs E m (call_static L later g d x vs s k) (call_static M later2 g d2 x vs (re s m) j)
      call_static_r g d d2 x vs s m k j r =
          step_r s m _ _ (λ s1 m1. found_r (L.static_body x) (M.static_body x) s1 m1 _ _ (like.static_body x)
          (λ b ys q. enter_r b ys q Nothing vs s1 m1 (looked L g.body d k) (looked M g.body d2 j) (after_r g.body d d2 k j r)))

      call_super_r : (g : Env) (d d2 : Ex) (x : List ℕ) (v : Value) (vs : List Value) (s : State) (m : List Met) (k j : ToValue) → KV E k j
          → OrIs E m (call_super L later g d x v vs s k) (call_super M later2 g d2 x v vs (re s m) j)
      call_super_r g d d2 x v vs s m k j r =
          step_r s m _ _ (λ s1 m1. found_r (L.super_body g.self x) (M.super_body g.self x) s1 m1 _ _ (like.super_body g.self x)
          (λ b ys q. look_r (self_of b.env.body) (self_of b.env.body) v s1 m1 _ _ (λ s2 m2.
          enter_r b ys q v vs s2 m2 (looked L g.body d k) (looked M g.body d2 j) (after_r g.body d d2 k j r))))

      construct_r : (g : Env) (d d2 : Ex) (c y : ℕ) (v : Value) (vs : List Value) (s : State) (m : List Met) (k j : ToValue) → KV E k j
          → OrIs E m (construct L later g d c y v vs s k) (construct M later2 g d2 c y v vs (re s m) j)
      construct_r g d d2 c y v vs s m k j r =
          found_r (L.body c y) (M.body c y) s m _ _ (like.body c y) (λ b ys q.
          look_r (ran g.body d b.env.body) (ran g.body d2 b.env.body) v s m _ _ (λ s1 m1.
          look_r (self_of b.env.body) (self_of b.env.body) v s1 m1 _ _ (λ s2 m2.
          enter_r b ys q v vs s2 m2 (λ u s3. k v s3) (λ u s3. j v s3) (λ u. r v))))

      made_by_r : (o : Option ℕ) (g : Env) (d d2 : Ex) (n c : ℕ) (vs : List Value) (s : State) (m : List Met) (k j : ToValue) → KV E k j
          → OrIs E m (made_by L later g d n c o vs s k) (made_by M later2 g d2 n c o vs (re s m) j)
      made_by_r None g d d2 n c [] s m k j r = step_r s m _ _ (λ s1 m1. new_object_r g.body d d2 n c s1 m1 k j r)
      made_by_r None g d d2 n c (v ∷ vs) s m k j r = is_stop Wrong s m
      made_by_r (Some y) g d d2 n c vs s m k j r =
          step_r s m _ _ (λ s1 m1. step_r s1 m1 _ _ (λ s2 m2. step_r s2 m2 _ _ (λ s3 m3. new_object_r g.body d d2 n c s3 m3
          (λ v s4. construct L later g d c y v vs s4 k) (λ v s4. construct M later2 g d2 c y v vs s4 j)
          (λ v s4 m4. construct_r g d d2 c y v vs s4 m4 k j r))))

      make_object_r : (g : Env) (d d2 : Ex) (n c : ℕ) (vs : List Value) (s : State) (m : List Met) (k j : ToValue) → KV E k j
          → OrIs E m (make_object L later g d n c vs s k) (make_object M later2 g d2 n c vs (re s m) j)
      make_object_r g d d2 n c vs s m k j r =
          subst (λ z. OrIs E m (make_object L later g d n c vs s k) (made_by M later2 g d2 n c z vs (re s m) j)) (sym (like.maker c))
          (made_by_r (L.maker c) g d d2 n c vs s m k j r)

      mutual
        value_r : {e e2 : Ex} → Retagged e e2 → (f : Frame) (s : State) (m : List Met) (k j : ToValue) → KV E k j
            → OrIs E m (value L later e f s k) (value M later2 e2 f (re s m) j)
        value_r (s_number {n = n}) f s m k j r = r (Number n) s m
        value_r (s_character {c = n}) f s m k j r = r (CodeUnit n) s m
        value_r (s_text {u = u}) f s m k j r = give_r u s m k j r
        value_r (s_truth {b = n}) f s m k j r = r (Truth n) s m
        value_r s_null f s m k j r = r Nothing s m
        value_r s_this f s m k j r = r f.self s m
        value_r (s_local {i = x}) f s m k j r = some_r (slice_get f.locals x) s m _ _ (λ v. r v s m)
        value_r (s_static_field {f = x}) f s m k j r = some_r (slice_get s.statics x) s m _ _ (λ v. r v s m)
        value_r (s_own_field {f = x}) f s m k j r = cell_r f.self s m _ _ (λ a c. read_field_r f.env.body _ _ _ _ (Some x) (Some x) a c s m k j refl r)
        value_r (s_field {e = e} {d = e2} {x = x} h) f s m k j r =
            value_r h f s m _ _ (λ v s1 m1. cell_r v s1 m1 _ _ (λ a c. read_member_r f.env e e2 _ _ x c.kind a c s1 m1 k j h r))
        value_r (s_index h i) f s m k j r =
            value_r h f s m _ _ (λ v s1 m1. value_r i f s1 m1 _ _ (λ w s2 m2. some_r (number_of w) s2 m2 _ _
            (λ n. read_element_r f.env.body _ _ v n s2 m2 k j r)))
        value_r (s_call {e = e} {d = e2} {x = x} h hs) f s m k j r =
            value_r h f s m _ _ (λ v s1 m1. values_r hs f s1 m1 _ _ (λ vs s2 m2. call_r f.env e e2 _ _ x v vs s2 m2 k j h r))
        value_r (s_static_call {m = x} hs) f s m k j r = values_r hs f s m _ _ (λ vs s2 m2. call_static_r f.env _ _ x vs s2 m2 k j r)
        value_r (s_super_call {x = x} hs) f s m k j r = values_r hs f s m _ _ (λ vs s2 m2. call_super_r f.env _ _ x f.self vs s2 m2 k j r)
        value_r (s_create {n = n} {c = c} hs) f s m k j r = values_r hs f s m _ _ (λ vs s1 m1. make_object_r f.env _ _ n c vs s1 m1 k j r)
        value_r (s_create_array {n = n} {u = u} h) f s m k j r =
            value_r h f s m _ _ (λ v s1 m1. some_r (number_of v) s1 m1 _ _ (λ size. make_array_r f.env _ _ n u size s1 m1 k j r))
        value_r (s_cast {u = u} h) f s m k j r = value_r h f s m _ _ (λ v s1 m1. cast_r f.env.body _ _ u v s1 m1 k j r)
        value_r (s_instance_of {c = c} h) f s m k j r = value_r h f s m _ _ (λ v s1 m1. test_class_r f.env.body _ _ c v s1 m1 k j r)
        value_r (s_unary {o = o} h) f s m k j r = value_r h f s m _ _ (λ v s1 m1. some_r (unary_value o v) s1 m1 _ _ (λ u. r u s1 m1))
        value_r (s_binary {o = o} h i) f s m k j r =
            value_r h f s m _ _ (λ v s1 m1. left_r o v s1 m1 _ _ k j (λ s2 m2. value_r i f s2 m2 _ _ (λ w s3 m3. operate_r o v w s3 m3 k j r)) r)

        values_r : {es ds : Exs} → RetaggedAll es ds → (f : Frame) (s : State) (m : List Met) (k j : List Value → State → Outcome) → KL E k j
            → OrIs E m (values L later es f s k) (values M later2 ds f (re s m) j)
        values_r s_no_ex f s m k j r = r [] s m
        values_r (s_ex_then h hs) f s m k j r = value_r h f s m _ _ (λ v s1 m1. values_r hs f s1 m1 _ _ (λ vs s2 m2. r (v ∷ vs) s2 m2))

      loop_test_r : {e d : Option Ex} → PairedIf Retagged SameTarget e d → (f : Frame) (s : State) (m : List Met) (x y x2 y2 : State → Outcome) → KS E x y → KS E x2 y2
          → OrIs E m (run_test L later e f s x x2) (run_test M later2 d f (re s m) y y2)
      loop_test_r pair_none f s m x y x2 y2 r d = r s m
      loop_test_r (pair_some h) f s m x y x2 y2 r d = value_r h f s m _ _ (λ v s1 m1. test_r v s1 m1 x y x2 y2 r d)

      print_r : (n : Bool) {e d : Option Ex} → PairedIf Retagged SameTarget e d → (f : Frame) (s : State) (m : List Met) (k j : State → Outcome) → KS E k j
          → OrIs E m (run_print L later n e f s k) (run_print M later2 n d f (re s m) j)
      print_r n pair_none f s m k j r = r _ m
      print_r n (pair_some h) f s m k j r = value_r h f s m _ _ (λ v s1 m1. some_r (text_of s1.strings v) s1 m1 _ _ (λ u. r _ m1))

      initial_r : (x : ℕ) {e d : Option Ex} → PairedIf Retagged SameTarget e d → (f : Frame) (s : State) (m : List Met) (k j : ToFlow) → KF E k j
          → OrIs E m (run_initial L later x e f s k) (run_initial M later2 x d f (re s m) j)
      initial_r x pair_none f s m k j r = r Next f s m
      initial_r x (pair_some h) f s m k j r = value_r h f s m _ _ (λ v s1 m1. write_local_r x v f s1 m1 k j r)

      return_r : {e d : Option Ex} → PairedIf Retagged SameTarget e d → (f : Frame) (s : State) (m : List Met) (k j : ToFlow) → KF E k j
          → OrIs E m (run_return L later e f s k) (run_return M later2 d f (re s m) j)
      return_r pair_none f s m k j r = r (Gave Nothing) f s m
      return_r (pair_some h) f s m k j r =
          value_r h f s m _ _ (λ v s1 m1. some_r f.env.result s1 m1 _ _ (λ t. look_r (result_of f.env.body) (result_of f.env.body) (convert t v) s1 m1
          (λ s2. k (Gave (convert t v)) f s2) (λ s2. j (Gave (convert t v)) f s2) (r (Gave (convert t v)) f)))

      assign_r : {b c : Target} {e d : Ex} → RetaggedTarget b c → Retagged e d → (f : Frame) (s : State) (m : List Met) (k j : ToFlow) → KF E k j
          → OrIs E m (run_assign L later b e f s k) (run_assign M later2 c d f (re s m) j)
      assign_r (s_to_local {i = x}) d f s m k j r = value_r d f s m _ _ (λ v s1 m1. write_local_r x v f s1 m1 k j r)
      assign_r (s_to_static {f = x}) d f s m k j r = value_r d f s m _ _ (λ v s1 m1. write_static_r x v s1 m1 (λ s2. k Next f s2) (λ s2. j Next f s2) (r Next f))
      assign_r (s_to_own {f = x}) d f s m k j r =
          value_r d f s m _ _ (λ v s1 m1. cell_r f.self s1 m1 _ _ (λ a c. write_field_r f.env.body _ _ (Some x) (Some x) v a c s1
          m1 (λ s2. k Next f s2) (λ s2. j Next f s2) refl (r Next f)))
      assign_r (s_to_field {e = e} {d = e2} {x = x} h) d f s m k j r =
          value_r h f s m _ _ (λ v s1 m1. value_r d f s1 m1 _ _ (λ w s2 m2. cell_r v s2 m2 _ _ (λ a c.
          write_field_r f.env.body e e2 (L.field f.env e x) (M.field f.env e2 x) w a c s2 m2 (λ s3. k Next f s3) (λ s3. j Next f s3)
          (like.field f.env e e2 x h) (r Next f))))
      assign_r (s_to_element h i) d f s m k j r =
          value_r h f s m _ _ (λ v s1 m1. value_r i f s1 m1 _ _ (λ w s2 m2. value_r d f s2 m2 _ _ (λ u s3 m3. some_r (number_of w) s3 m3 _ _ (λ n.
          write_element_r v n u s3 m3 (λ s4. k Next f s4) (λ s4. j Next f s4) (r Next f)))))
      assign_r s_no_target d f s m k j r = is_stop Wrong s m

      mutual
        st_r : {x y : St} → PairedSt Retagged SameTarget x y → (f : Frame) (s : State) (m : List Met) (k j : ToFlow) → KF E k j
            → OrIs E m (run_one L later x f s k) (run_one M later2 y f (re s m) j)
        st_r (pair_declare {i = x} h) f s m k j r =
            some_r (slice_get f.env.locals x) s m _ _ (λ u. some_r (slice_get f.locals x) s m _ _
            (λ old. initial_r x h (set_local f x (default_of u)) s m k j r))
        st_r (pair_block hs) f s m k j r = sts_r hs f s m k j r
        st_r (pair_assign b h) f s m k j r = assign_r b h f s m k j r
        st_r (pair_act h) f s m k j r = value_r h f s m _ _ (λ v s1 m1. r Next f s1 m1)
        st_r (pair_print {n = n} h) f s m k j r = print_r n h f s m (λ s1. k Next f s1) (λ s1. j Next f s1) (r Next f)
        st_r (pair_choose hs) f s m k j r = arms_r hs f s m k j r
        st_r (pair_loop {t = t} {u = t2} {is_while = w} {step = last} {body = body} {last = last2} {code = body2} {e = test} {d = test2} first h step code) f s
            m k j r =
            sts_r first f s m _ _ (λ w1 f1 s1 m1. one_r w1 f1 s1 m1 k j _ _ r
            (loop_test_r h f1 s1 m1 _ _ (λ s3. k Next f1 s3) (λ s3. j Next f1 s3)
            (λ s3 m3. step_r s3 m3 _ _ (λ s4 m4. sts_r code f1 s4 m4 _ _ (λ w3 f3 s5 m5. turn_r w3 f3 s5 m5 k j _ _ r
            (sts_r step f3 s5 m5 _ _ (λ w5 f5 s7 m7. one_r w5 f5 s7 m7 k j (λ f6 s8. later (st_then (loop t w no_st test last body) no_st) f6
            s8 k) (λ f6 s8. later2 (st_then (loop t2 w no_st test2 last2 body2) no_st) f6 s8 j) r
            (next.runs (st_then (loop t w no_st test last body) no_st) (st_then (loop t2 w no_st test2 last2 body2) no_st)
            (pair_st_then (pair_loop pair_no_st h step code) pair_no_st) f5 s7 m7 k j r))))))
            (r Next f1)))
        st_r (pair_return h) f s m k j r = return_r h f s m k j r
        st_r pair_break f s m k j r = r Broke f s m
        st_r pair_continue f s m k j r = r Continued f s m

        sts_r : {xs ys : Sts} → RetaggedSts xs ys → (f : Frame) (s : State) (m : List Met) (k j : ToFlow) → KF E k j
            → OrIs E m (run_all L later xs f s k) (run_all M later2 ys f (re s m) j)
        sts_r pair_no_st f s m k j r = r Next f s m
        sts_r (pair_st_then {xs = xs} {ys = ys} h hs) f s m k j r =
            st_r h f s m _ _ (λ w f1 s1 m1. one_r w f1 s1 m1 k j (λ f2 s2. run_all L later xs f2 s2 k)
            (λ f2 s2. run_all M later2 ys f2 s2 j) r (sts_r hs f1 s1 m1 k j r))

        arms_r : {xs ys : IfArms} → PairedArms Retagged SameTarget xs ys → (f : Frame) (s : State) (m : List Met) (k j : ToFlow) → KF E k j
            → OrIs E m (run_arms L later xs f s k) (run_arms M later2 ys f (re s m) j)
        arms_r pair_no_other f s m k j r = r Next f s m
        arms_r (pair_otherwise hs) f s m k j r = sts_r hs f s m k j r
        arms_r (pair_arm {xs = xs} {ys = ys} {a = more} {b = rest} h hs others) f s m k j r =
            value_r h f s m _ _ (λ v s1 m1. test_r v s1 m1 (λ s2. run_all L later xs f s2 k) (λ s2. run_all M later2 ys f s2 j)
            (λ s2. run_arms L later more f s2 k) (λ s2. run_arms M later2 rest f s2 j)
            (λ s2 m2. sts_r hs f s2 m2 k j r) (λ s2 m2. arms_r others f s2 m2 k j r))

      pub statements_r : (xs ys : Sts) → RetaggedSts xs ys → (f : Frame) (s : State) (m : List Met) (k j : ToFlow) → KF E k j
          → OrIs E m (run_all L later xs f s k) (run_all M later2 ys f (re s m) j)
      statements_r xs ys h f s m k j r = sts_r h f s m k j r

  meaning_r : (d : ℕ) → NextR (meaning L d) (meaning M d)
  meaning_r zero = record { runs = λ xs ys h f s m k j r. is_stop Going s m }
  meaning_r (suc d) = record { runs = λ xs ys h f s m k j r. statements_r (meaning L d) (meaning M d) (meaning_r d) xs ys h f s m k j r }

  both : (x : ℕ) (words : List (List ℕ)) (n : ℕ) → OrIs E [] (run_in L x words n) (run_in M x words n)
  unfolding run_in
  both x words n = subst (λ z. OrIs E [] (run_in L x words n) (run_from z)) (sym like.statics)
      (found_r (meaning L (suc n)) (meaning M (suc n)) (meaning_r (suc n)) (L.static_body x) (M.static_body x) (start L words n) [] _ _
      (like.static_body x) (λ b ys h.
      enter_r (meaning L (suc n)) (meaning M (suc n)) (meaning_r (suc n)) b ys h Nothing (Object 0 ∷ []) (start L words n) [] (λ v s. stop Ended s)
      (λ v s. stop Ended s) (λ v s m. is_stop Ended s m)))
    where
      run_from : List Value → Outcome
      run_from z =
          let s : State = record { cells = words_cell words ∷ []; strings = words; statics = z; out = []; left = n; met = [] } in
          with_some (M.static_body x) s (λ b. enter M (meaning M (suc n)) b Nothing (Object 0 ∷ []) s (λ v s. stop Ended s))

-- the run of the first language is that of the second, unless it escapes
pub run_r : (L M : Lang) → IsUnwatched L M → (x : ℕ) (words : List (List ℕ)) (n : ℕ) → EscapesOrIs (run_in L x words n) (run_in M x words n)
unfolding EscapesOrIs
run_r L M like x words n = go (both Unit L M like (λ p v h e. tt) (λ b vs h e. tt) x words n)
  where
    go : OrIs Unit [] (run_in L x words n) (run_in M x words n) → ((run_in L x words n).end ≡ Escaped) ⊎ (unnoted (run_in L x words n) ≡ run_in M x words n)
    go (it_escapes h e) = inl e
    go (it_is e) = inr e

-- and where it lets all pass, it is that of the second
pub run_same : (L M : Lang) → IsUnwatched L M → ((p : Spot) (v : Value) (h : List Cell) → L.sees p v h ≡ true)
    → ((b : ℕ) (vs : List Value) (h : List Cell) → L.sees_all b vs h ≡ true) → (x : ℕ) (words : List (List ℕ)) (n : ℕ)
    → unnoted (run_in L x words n) ≡ run_in M x words n
run_same L M like passes passes_all x words n =
    go (both ⊥ L M like (λ p v h e. false≢true (sym e ∙ passes p v h)) (λ b vs h e. false≢true (sym e ∙ passes_all b vs h)) x words n)
  where
    go : OrIs ⊥ [] (run_in L x words n) (run_in M x words n) → unnoted (run_in L x words n) ≡ run_in M x words n
    go (it_escapes h e) = absurd h
    go (it_is e) = e
