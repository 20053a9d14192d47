-- Binary operators, casts and tests on typed states.
use Rattle.std.proofs.Common.{◌≡◌, ℕ, zero, suc, Option, Some, None, refl, sym, ap, ◌∙◌, subst, ⊎_elim, inl, inr, arith}
use Rattle.std.specs.Prelude.{◌⊎◌, ℤ, Bool, true, false, ◌==◌, ◌&&◌, ◌||◌, slice_get}
use Rattle.std.proofs.lemmas.Bool.{or_cases, or_left, or_right, false≢true, and_parts, and_right}
use Rattle.java_core.specs.declared.Ty.{Ty}
use Rattle.java_core.specs.declared.TyBase.{TyBase}
use Rattle.java_core.specs.declared.TyBase.TheVariants.{Int, Boolean, Char, Str, Class}
use Rattle.java_core.specs.declared.BinOp.{BinOp}
use Rattle.java_core.specs.declared.BinOp.TheVariants as bin
use Rattle.java_core.specs.declared.Op.{Op}
use Rattle.java_core.specs.declared.Fault.TheVariants as fault
use Rattle.java_core.specs.Trees.{Ex}
use Rattle.java_core.specs.Programs.{Plain}
use Rattle.java_core.specs.Types.{Static, a_value, null_value, no_value, plain_type, class_type, class_in, class_of, is_only, is_numeric, is_boolean, is_string, is_printable, is_object, is_reference, sum_type, is_plus, binary_type}
use Rattle.java_core.specs.Typing.{joins, takes_two, are_related, can_cast}
use Rattle.java_meaning.specs.Moment.{Value, Number, Truth, Nothing, Object, own_type, held, tested, State, Faulted, Outcome, stop, Lang, with_some, on_bool, look}
use Rattle.java_meaning.specs.Values.{number_of, truth_of, text_of, arith as op_arith, cast_number, same_value, compared, join, is_text}
use Rattle.java_meaning.specs.Meaning.{ToValue, is_number_type, cast_object, cast_to, test_class, after_left, join_values, compute, operate}
use Rattle.java_meaning.specs.TypedLang.{TypedLang}
use Rattle.java_meaning.proofs.Holds.{Heap, heap_of, only_type, Holds, holds_number, holds_truth, holds_unit, holds_text, holds_null, holds_object, holds_nothing, holds_any, grown, number_held, truth_held, IsText, text_null, text_there, text_held, units_held, comparable_held}
use Rattle.java_meaning.proofs.Sound.{Sound, sound_stop, some_sound, bool_sound, result_sound, Good, From, from_same, from_on, KV, KS, give_string_sound, test_sound, look_sound, class_in_type}
use Rattle.java_meaning.proofs.Moves.{here}

numeric_no_string : (s : Static) → is_numeric s ≡ true → is_string s ≡ false
numeric_no_string (a_value t) p =
    ⊎_elim (λ e. ap (λ z. is_only Str (a_value z)) (sym (only_type Int t refl e))) (λ e. ap (λ z. is_only Str (a_value z)) (sym (only_type Char t refl e)))
    (or_cases (is_only Int (a_value t)) (is_only Char (a_value t)) p)
numeric_no_string null_value p = refl
numeric_no_string no_value p = refl

string_printable : (s : Static) → is_string s ≡ true → is_printable s ≡ true
string_printable s e = or_right (is_numeric s) (is_boolean s || is_string s) (or_right (is_boolean s) (is_string s) e)

number_type : (b : TyBase) (d : ℕ) → is_number_type b d ≡ is_numeric (a_value (record { base = b; dim = d }))
number_type Int zero = refl
number_type Char zero = refl
number_type Boolean d = refl
number_type Str d = refl
number_type (Class c) d = refl
number_type Int (suc d) = let z : (suc d == 0) ≡ false = grind arith in rw z refl
number_type Char (suc d) = let z : (suc d == 0) ≡ false = grind arith in rw z refl

related_some : (P : Plain) (o p : Option ℕ) → are_related P o p ≡ true → (c : ℕ) × (d : ℕ) × (o ≡ Some c) × (p ≡ Some d)
related_some P (Some c) (Some d) e = (c, d, refl, refl)
related_some P None p e = absurd (false≢true e)
related_some P (Some c) None e = absurd (false≢true e)

-- a type of numbers has no class
numeric_no_class : (b : TyBase) (d c : ℕ) → is_number_type b d ≡ true → class_in b d ≡ Some c → ⊥
numeric_no_class (Class a) d c p e = false≢true p
numeric_no_class Int d c p e = cc
numeric_no_class Boolean d c p e = cc
numeric_no_class Char d c p e = cc
numeric_no_class Str d c p e = cc

module _ (P : Plain) (L : Lang) (tl : TypedLang P L) where
  abbrev Ok : State → Type 0
  Ok s = Good P L tl s

  abbrev V : Heap → Static → ToValue → Type 0
  V h t k = KV P L tl h t k

  truth : (b : Bool) (s : State) (k : ToValue) → Ok s → V (heap_of s) (a_value (plain_type Boolean)) k → Sound (k (Truth b) s)
  truth b s k ok h = here P L tl (Truth b) s k ok holds_truth h

  pub after_left_sound : {t : Static} (u : Static) (o : BinOp) (v : Value) (s : State) (r : State → Outcome) (k : ToValue) → Ok s
      → Holds P (heap_of s) v t → takes_two P o t u ≡ true → KS P L tl (heap_of s) r
      → V (heap_of s) (a_value (binary_type o t u)) k → Sound (after_left o v s r k)
  after_left_sound {t = t} u bin.Both v s r k ok hv p g h =
      let b = truth_held P hv (and_parts (is_boolean t) (is_boolean u) p).0 in test_sound P L tl v b.0 s r (λ s1. k (Truth false) s1) b.1
      (g s (from_same P L tl s ok)) (truth false s k ok h)
  after_left_sound {t = t} u bin.Either v s r k ok hv p g h =
      let b = truth_held P hv (and_parts (is_boolean t) (is_boolean u) p).0 in test_sound P L tl v b.0 s (λ s1. k (Truth true) s1) r b.1
      (truth true s k ok h) (g s (from_same P L tl s ok))
  after_left_sound u _ v s r k ok hv p g h = g s (from_same P L tl s ok)

  join_sound : {t u : Static} (v w : Value) (s : State) (k : ToValue) → Ok s → Holds P (heap_of s) v t → Holds P (heap_of s) w u
      → is_printable t ≡ true → is_printable u ≡ true → V (heap_of s) (a_value (plain_type Str)) k → Sound (join_values v w s k)
  join_sound v w s k ok hv hw p q h =
      let a = units_held P hv p in let b = units_held P hw q in
      some_sound (text_of s.strings v) a.0 s _ a.1 (some_sound (text_of s.strings w) b.0 s _ b.1
      (result_sound (join a.0 b.0) s _ (λ u. give_string_sound P L tl u s k ok h)))

  compute_numbers : (j : Bool) (x y : Option ℤ) (a b : ℤ) (v w : Value) (o : Op) (s : State) (k : ToValue) → Ok s → x ≡ Some a → y ≡ Some b
      → V (heap_of s) (a_value (plain_type Int)) k → Sound (compute j x y v w o s k)
  compute_numbers j x y a b v w o s k ok e d h = rw (e, d) (result_sound (op_arith o a b) s _ (λ n. here P L tl (Number n) s k ok holds_number h))

  compute_join : (j : Bool) (x y : Option ℤ) (v w : Value) (o : Op) (s : State) (k : ToValue) → j ≡ true → (x ≡ None) ⊎ (y ≡ None)
      → Sound (join_values v w s k) → Sound (compute j x y v w o s k)
  compute_join j None y v w o s k e d h = rw e h
  compute_join j (Some a) None v w o s k e d h = rw e h
  compute_join j (Some a) (Some b) v w o s k e d h = ⊎_elim (λ z. absurd (cc z)) (λ z. absurd (cc z)) d

  no_number : {h : Heap} {v : Value} → IsText P h v → (number_of v ≡ None) × (is_text v ≡ true)
  no_number text_null = (refl, refl)
  no_number (text_there e) = (refl, refl)

  arithmetic_sound : {t u : Static} (o : Op) (v w : Value) (s : State) (k : ToValue) → Ok s → Holds P (heap_of s) v t → Holds P (heap_of s) w u
      → takes_two P (bin.Int o) t u ≡ true
      → V (heap_of s) (a_value (binary_type (bin.Int o) t u)) k → Sound (operate (bin.Int o) v w s k)
  arithmetic_sound {t = t} {u = u} o v w s k ok hv hw p h =
      ⊎_elim numbers (λ e. let q = and_parts (is_plus o) (joins t u) e in ⊎_elim (left q.0) (right q.0) (or_cases (is_string t && is_printable u)
      (is_printable t && is_string u) q.1))
      (or_cases (is_numeric t && is_numeric u) (is_plus o && joins t u) p)
    where
      flag : Bool
      flag = is_plus o && (is_text v || is_text w)

      numbers : (is_numeric t && is_numeric u) ≡ true → Sound (operate (bin.Int o) v w s k)
      numbers e =
          let q = and_parts (is_numeric t) (is_numeric u) e in let a = number_held P hv q.0 in let b = number_held P hw q.1 in
          let none : (is_plus o && (is_string t || is_string u)) ≡ false = and_right (is_plus o) (is_string t || is_string u)
          (rw (numeric_no_string t q.0, numeric_no_string u q.1) refl) in
          compute_numbers flag (number_of v) (number_of w) a.0 b.0 v w o s k ok a.1 b.1 (subst (λ z. V (heap_of s) (a_value (sum_type z)) k) none h)

      joined : is_plus o ≡ true → (is_string t || is_string u) ≡ true → (is_text v || is_text w) ≡ true → (number_of v ≡ None) ⊎ (number_of w ≡ None)
          → is_printable t ≡ true → is_printable u ≡ true → Sound (operate (bin.Int o) v w s k)
      joined e d f g x y = compute_join flag (number_of v) (number_of w) v w o s k (rw (e, f) refl) g
          (join_sound v w s k ok hv hw x y (subst (λ z. V (heap_of s) (a_value (sum_type z)) k) (ap (λ z. z && (is_string t || is_string u)) e ∙ d) h))

      left : is_plus o ≡ true → (is_string t && is_printable u) ≡ true → Sound (operate (bin.Int o) v w s k)
      left e d = let q = and_parts (is_string t) (is_printable u) d in let x = no_number (text_held P hv q.0) in
          joined e (or_left (is_string t) (is_string u) q.0) (or_left (is_text v) (is_text w) x.1) (inl x.0) (string_printable t q.0) q.1

      right : is_plus o ≡ true → (is_printable t && is_string u) ≡ true → Sound (operate (bin.Int o) v w s k)
      right e d = let q = and_parts (is_printable t) (is_string u) d in let x = no_number (text_held P hw q.1) in
          joined e (or_right (is_string t) (is_string u) q.1) (or_right (is_text v) (is_text w) x.1) (inr x.0) q.0 (string_printable u q.1)

  compared_sound : {t u : Static} (o : BinOp) (v w : Value) (f : ℤ → ℤ → Bool) (s : State) (k : ToValue) → Ok s → Holds P (heap_of s) v t
      → Holds P (heap_of s) w u → (is_numeric t && is_numeric u) ≡ true → ((a b : ℤ) → compared o a b ≡ Some (f a b))
      → V (heap_of s) (a_value (plain_type Boolean)) k
      → Sound (with_some (number_of v) s (λ a. with_some (number_of w) s (λ b. with_some (compared o a b) s (λ t. k (Truth t) s))))
  compared_sound {t = t} {u = u} o v w f s k ok hv hw p e h =
      let q = and_parts (is_numeric t) (is_numeric u) p in let a = number_held P hv q.0 in let b = number_held P hw q.1 in
      some_sound (number_of v) a.0 s _ a.1 (some_sound (number_of w) b.0 s _ b.1 (some_sound (compared o a.0 b.0) (f a.0 b.0) s _ (e a.0 b.0)
      (truth (f a.0 b.0) s k ok h)))

  pub operate_sound : {t u : Static} (o : BinOp) (v w : Value) (s : State) (k : ToValue) → Ok s → Holds P (heap_of s) v t → Holds P (heap_of s) w u
      → takes_two P o t u ≡ true → V (heap_of s) (a_value (binary_type o t u)) k → Sound (operate o v w s k)
  operate_sound (bin.Int o) v w s k ok hv hw p h = arithmetic_sound o v w s k ok hv hw p h
  operate_sound {t = t} {u = u} bin.Same v w s k ok hv hw p h = let b = comparable_held P t u hv hw p in some_sound (same_value v w) b.0 s _ b.1
      (truth b.0 s k ok h)
  operate_sound {t = t} {u = u} bin.Differs v w s k ok hv hw p h =
      let b = comparable_held P t u hv hw p in some_sound (same_value v w) b.0 s _ b.1 (bool_sound b.0 s (λ s1. k (Truth false) s1)
      (λ s1. k (Truth true) s1) (truth false s k ok h) (truth true s k ok h))
  operate_sound {t = t} {u = u} bin.Both v w s k ok hv hw p h = let b = truth_held P hw (and_parts (is_boolean t) (is_boolean u) p).1 in some_sound
      (truth_of w) b.0 s _ (ap truth_of b.1) (truth b.0 s k ok h)
  operate_sound {t = t} {u = u} bin.Either v w s k ok hv hw p h = let b = truth_held P hw (and_parts (is_boolean t) (is_boolean u) p).1 in some_sound
      (truth_of w) b.0 s _ (ap truth_of b.1) (truth b.0 s k ok h)
  operate_sound bin.Less v w s k ok hv hw p h = compared_sound bin.Less v w _ s k ok hv hw p (λ a b. refl) h
  operate_sound bin.Greater v w s k ok hv hw p h = compared_sound bin.Greater v w _ s k ok hv hw p (λ a b. refl) h
  operate_sound bin.AtMost v w s k ok hv hw p h = compared_sound bin.AtMost v w _ s k ok hv hw p (λ a b. refl) h
  operate_sound bin.AtLeast v w s k ok hv hw p h = compared_sound bin.AtLeast v w _ s k ok hv hw p (λ a b. refl) h

  -- casts
  cast_number_held : (h : Heap) (b : TyBase) (d : ℕ) (a : ℤ) → is_number_type b d ≡ true → Holds P h (cast_number b a) (a_value (record { base = b; dim = d }))
  cast_number_held h Int zero a p = holds_number
  cast_number_held h Char zero a p = holds_unit
  cast_number_held h Int (suc d) a p = absurd (false≢true p)
  cast_number_held h Char (suc d) a p = absurd (false≢true p)
  cast_number_held h Boolean d a p = absurd (false≢true p)
  cast_number_held h Str d a p = absurd (false≢true p)
  cast_number_held h (Class c) d a p = absurd (false≢true p)

  class_object : (t : Ty) (c : ℕ) → class_in t.base t.dim ≡ Some c → (is_object t ≡ true) × (is_reference t ≡ true)
  class_object t c e = (ap is_object (sym same), ap is_reference (sym same))
    where
      same : class_type c ≡ t
      same = class_in_type t.base t.dim c e

  cast_object_sound : {t : Static} (b c d : ℕ) (x : Ex) (u : Ty) (v : Value) (s : State) (k : ToValue) → Ok s → Holds P (heap_of s) v t
      → class_of t ≡ Some c → class_in u.base u.dim ≡ Some d → V (heap_of s) (a_value u) k → Sound (cast_object L b x u v s k)
  cast_object_sound b c d x u v s k ok holds_number e f h = absurd (cc)
  cast_object_sound b c d x u v s k ok holds_truth e f h = absurd (cc)
  cast_object_sound b c d x u v s k ok holds_unit e f h = absurd (cc)
  cast_object_sound b c d x u v s k ok (holds_text y) e f h = absurd (cc)
  cast_object_sound b c d x u v s k ok (holds_null y) e f h = here P L tl Nothing s k ok (holds_null (class_object u d f).1) h
  cast_object_sound b c d x u v s k ok holds_nothing e f h = absurd (cc)
  cast_object_sound b c d x u v s k ok holds_any e f h = absurd (cc)
  cast_object_sound b c d x u v s k ok (holds_object {a = a} {c = o} there r sub) e f h =
      some_sound (slice_get s.cells a) o s _ there (look_sound P L tl (tested b x (L.is_sub (own_type o.kind) u)) (Object a) s _ ok
      (λ s1 r1. go s1 r1 (L.is_sub (own_type o.kind) u) refl))
    where
      go : (s1 : State) → From P L tl (heap_of s) s1 → (y : Bool) → L.is_sub (own_type o.kind) u ≡ y
          → Sound (on_bool y s1 (λ s2. look L (held b x) (Object a) s2 (λ s3. k (Object a) s3)) (stop (Faulted fault.ClassCast)))
      go s1 r1 true pass = look_sound P L tl (held b x) (Object a) s1 _ r1.ok (λ s3 r3. let all = from_on P L tl (heap_of s) s1 s3 r1 r3 in
          h (Object a) s3 all (grown P all.grows (holds_object there (class_object u d f).0 (sym (tl.is_sub (own_type o.kind) u) ∙ pass))))
      go s1 r1 false fail = sound_stop (Faulted fault.ClassCast) s1 tt

  pub cast_sound : {t : Static} (b : ℕ) (x : Ex) (u : Ty) (v : Value) (s : State) (k : ToValue) → Ok s → Holds P (heap_of s) v t
      → can_cast P t u ≡ true → V (heap_of s) (a_value u) k → Sound (cast_to L b x u v s k)
  cast_sound {t = t} b x u v s k ok hv p h =
      ⊎_elim numbers (λ e. let q = related_some P (class_of t) (class_in u.base u.dim) e in objects q.0 q.1 q.2 q.3)
      (or_cases (is_numeric (a_value u) && is_numeric t) (are_related P (class_of t) (class_in u.base u.dim)) p)
    where
      numbers : (is_numeric (a_value u) && is_numeric t) ≡ true → Sound (cast_to L b x u v s k)
      numbers e =
          let q = and_parts (is_numeric (a_value u)) (is_numeric t) e in let a = number_held P hv q.1 in let yes : is_number_type u.base u.dim
          ≡ true = number_type u.base u.dim ∙ q.0 in
          subst (λ z. Sound (on_bool z s (λ s1. with_some (number_of v) s1 (λ a. k (cast_number u.base a) s1)) (λ s1. cast_object L b x u v s1 k))) (sym yes)
          (some_sound (number_of v) a.0 s _ a.1 (here P L tl (cast_number u.base a.0) s k ok (cast_number_held (heap_of s) u.base u.dim a.0 yes) h))

      objects : (c d : ℕ) → class_of t ≡ Some c → class_in u.base u.dim ≡ Some d → Sound (cast_to L b x u v s k)
      objects c d e f = go (is_number_type u.base u.dim) refl
        where
          go : (y : Bool) → is_number_type u.base u.dim ≡ y → Sound (on_bool y s (λ s1. with_some (number_of v) s1 (λ a. k (cast_number u.base a) s1))
              (λ s1. cast_object L b x u v s1 k))
          go true z = absurd (numeric_no_class u.base u.dim d z f)
          go false z = cast_object_sound b c d x u v s k ok hv e f h

  pub test_class_sound : {t : Static} (b c : ℕ) (x : Ex) (d : ℕ) (v : Value) (s : State) (k : ToValue) → Ok s → Holds P (heap_of s) v t
      → class_of t ≡ Some c → V (heap_of s) (a_value (plain_type Boolean)) k → Sound (test_class L b x d v s k)
  test_class_sound b c x d v s k ok holds_number e h = absurd (cc)
  test_class_sound b c x d v s k ok holds_truth e h = absurd (cc)
  test_class_sound b c x d v s k ok holds_unit e h = absurd (cc)
  test_class_sound b c x d v s k ok (holds_text y) e h = absurd (cc)
  test_class_sound b c x d v s k ok (holds_null y) e h = truth false s k ok h
  test_class_sound b c x d v s k ok holds_nothing e h = absurd (cc)
  test_class_sound b c x d v s k ok holds_any e h = absurd (cc)
  test_class_sound b c x d v s k ok (holds_object {a = a} {c = o} there r sub) e h =
      some_sound (slice_get s.cells a) o s _ there (look_sound P L tl (tested b x (L.is_sub (own_type o.kind) (class_type d))) (Object a) s _ ok
      (λ s1 r1. h (Truth (L.is_sub (own_type o.kind) (class_type d))) s1 r1 holds_truth))

  pub related_class : (t : Static) (d : Option ℕ) → are_related P (class_of t) d ≡ true → (c : ℕ) × (class_of t ≡ Some c)
  related_class t d e = let q = related_some P (class_of t) d e in (q.0, q.2)
