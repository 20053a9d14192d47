-- Moves on typed states: fields, elements, operators, casts, creations, strings and calls.
use Rattle.std.proofs.Common.{◌≡◌, ℕ, zero, suc, List, [], Option, Some, None, length, refl, sym, ap, ◌∙◌, subst, arith}
use Rattle.std.specs.Prelude.{ℤ, Bool, true, false, not, ◌==◌, if◌then◌else◌, replicate, slice_get, slice_set}
use Rattle.std.specs.Option.{is_some, option_and_then}
use Rattle.std.proofs.lemmas.Bool.{false≢true}
use Rattle.std.proofs.lemmas.Option.{same_Some}
use Rattle.java_core.specs.declared.Ty.{Ty}
use Rattle.java_core.specs.declared.TyBase.{TyBase}
use Rattle.java_core.specs.declared.TyBase.TheVariants.{Int, Boolean, Char, Str, Class}
use Rattle.java_core.specs.declared.UnOp.{UnOp}
use Rattle.java_core.specs.declared.UnOp.TheVariants as un
use Rattle.java_core.specs.declared.Fault.TheVariants as fault
use Rattle.java_core.specs.Trees.{Ex}
use Rattle.java_core.specs.Programs.{Plain}
use Rattle.java_core.specs.Classes.{is_concrete, member_field}
use Rattle.java_core.specs.Makers.{maker_of}
use Rattle.java_core.specs.Types.{Env, Static, a_value, null_value, no_value, or_nothing, plain_type, class_type, class_in, class_of, element_in, element_of, is_object, is_string, is_sub_base, is_subtype, fits, field_type, field_in, is_length, length_or, access_type, unary_type, static}
use Rattle.java_core.specs.Typing.{takes_one}
use Rattle.java_meaning.specs.Moment.{Value, Number, Truth, Object, Kind, an_object, an_array, Cell, own_type, held, State, Faulted, Wrong, Outcome, stop, Lang, with_some, on_bool}
use Rattle.java_meaning.specs.Values.{int_of, default_of, convert, natural_of, negated, unary_value, defaults}
use Rattle.java_meaning.specs.Meaning.{ToValue, Later, with_cell, add_cell, set_value, names_length, read_member, element_type, place_in, read_element, on_fitting, write_element, make_cell, new_object, made_by, make_object, make_array}
use Rattle.java_meaning.specs.TypedLang.{TypedLang}
use Rattle.java_meaning.proofs.Holds.{Heap, heap_of, some_there, Holds, holds_number, holds_truth, holds_unit, holds_text, holds_null, holds_object, holds_nothing, holds_any, grown, number_held, truth_held, default_held, sub_held, sub_object, stored, of_parts, only_type}
use Rattle.java_meaning.proofs.Sound.{get_last, Sound, sound_stop, some_sound, fault_sound, ObjectOk, ArrayOk, KindOk, Good, From, from_same, from_on, KV, KS, put_from, array_put, add_from, step_sound, look_exact, look_sound, class_sound, array_sound, read_field_sound}

pub then_some : {A B : Type 0} (f : A → Option B) (o : Option A) (y : B) → option_and_then f o ≡ Some y → (x : A) × (o ≡ Some x) × (f x ≡ Some y)
then_some f None y e = absurd (cc)
then_some f (Some x) y e = (x, refl, e)

all_same : {A : Type 0} (n i : ℕ) (x v : A) → slice_get (replicate n x) i ≡ Some v → x ≡ v
all_same zero i x v e = absurd (cc)
all_same (suc n) zero x v e = same_Some _ _ e
all_same (suc n) (suc i) x v e = all_same n i x v e

-- an array has no class, and a string none
pub element_class : (s : Static) (u : Ty) → element_of s ≡ Some u → class_of s ≡ None
element_class null_value u e = refl
element_class no_value u e = refl
element_class (a_value t) u e = go t.base t.dim e
  where
    go : (b : TyBase) (d : ℕ) → element_in b d ≡ Some u → class_in b d ≡ None
    go b zero e = absurd (cc)
    go Int (suc d) e = refl
    go Boolean (suc d) e = refl
    go Char (suc d) e = refl
    go Str (suc d) e = refl
    go (Class c) (suc d) e = refl

pub string_class : (s : Static) → is_string s ≡ true → class_of s ≡ None
string_class null_value e = refl
string_class no_value e = refl
string_class (a_value t) e = subst (λ z. class_in z.base z.dim ≡ None) (only_type Str t refl e) refl

module _ (P : Plain) (L : Lang) (tl : TypedLang P L) where
  abbrev Ok : State → Type 0
  Ok s = Good P L tl s

  abbrev V : Heap → Static → ToValue → Type 0
  V h t k = KV P L tl h t k

  abbrev S : Heap → (State → Outcome) → Type 0
  S h k = KS P L tl h k

  -- the value goes on in the same state
  pub here : {t : Static} (v : Value) (s : State) (k : ToValue) → Ok s → Holds P (heap_of s) v t → V (heap_of s) t k → Sound (k v s)
  here v s k ok hv h = h v s (from_same P L tl s ok) hv

  -- a field of an object, or the length of an array
  length_some : (u : Ty) (o : Option Ty) (x : List ℕ) → is_some (length_or (Some u) o x) ≡ true → is_length x ≡ true
  length_some u o x e = go (is_length x) e
    where
      go : (b : Bool) → is_some (if b then Some (plain_type Int) else None) ≡ true → b ≡ true
      go true e = refl
      go false e = absurd (false≢true e)

  pub member_sound : (g : Env) (e d : Ex) (x : List ℕ) (v : Value) (s : State) (k : ToValue) → Ok s → Holds P (heap_of s) v (static P g e)
      → is_some (access_type P (static P g e) x) ≡ true
      → V (heap_of s) (or_nothing (access_type P (static P g e) x)) k → Sound (with_cell v s (λ a c. read_member L g e d x c.kind a c s k))
  unfolding access_type field_in
  member_sound g e d x v s k ok hv p h = go (element_of (static P g e)) refl
    where
      array : (u : Ty) → element_of (static P g e) ≡ Some u → is_length x ≡ true → Sound (with_cell v s (λ a c. read_member L g e d x c.kind a c s k))
      array u eq len =
          let none : L.field g e x ≡ None = tl.field g e x ∙ ap (option_and_then (λ c. member_field P c x)) (element_class (static P g e) u eq) in
          array_sound P L tl s u _ ok hv eq (λ a c y at kd o sub. subst (λ z. Sound (read_member L g e d x z a c s k)) (sym kd)
          (subst (λ z. Sound (on_bool z s (λ s1. k (Number (int_of (length c.values))) s1) (stop Wrong))) (sym (ap (λ z. names_length z x) none
          ∙ len)) (here (Number (int_of (length c.values))) s k ok holds_number (subst (λ z. V (heap_of s) (or_nothing z) k)
          (ap (λ z. length_or z (option_and_then (field_type P) (field_in P (static P g e) x)) x) eq
          ∙ ap (λ z. if z then Some (plain_type Int) else None) len) h))))

      object : element_of (static P g e) ≡ None → Sound (with_cell v s (λ a c. read_member L g e d x c.kind a c s k))
      object eq =
          let whole : access_type P (static P g e) x ≡ option_and_then (field_type P) (field_in P (static P g e) x) = ap
          (λ z. length_or z (option_and_then (field_type P) (field_in P (static P g e) x)) x) eq in
          let t = some_there (option_and_then (field_type P) (field_in P (static P g e) x)) (subst (λ z. is_some z ≡ true) whole p) in
          let f = then_some (field_type P) (field_in P (static P g e) x) t.0 t.1 in
          let c = then_some (λ c. member_field P c x) (class_of (static P g e)) f.0 f.1 in
          class_sound P L tl s c.0 _ ok hv c.1 (λ a o y at kd bel oo ho.
          let i = some_there (L.index y f.0) (tl.members y c.0 x f.0 oo.made bel c.2) in
          subst (λ z. Sound (read_member L g e d x z a o s k)) (sym kd)
          (read_field_sound P L tl g.body e d (L.field g e x) a o y f.0 i.0 t.0 s k ok kd oo (tl.field g e x ∙ f.1) i.1 f.2
          (subst (λ z. V (heap_of s) (or_nothing z) k) (whole ∙ t.1) h)))

      go : (o : Option Ty) → element_of (static P g e) ≡ o → Sound (with_cell v s (λ a c. read_member L g e d x c.kind a c s k))
      go (Some u) eq = array u eq (length_some u (option_and_then (field_type P) (field_in P (static P g e) x)) x
          (subst (λ z. is_some (length_or z (option_and_then (field_type P) (field_in P (static P g e) x)) x) ≡ true) eq p))
      go None eq = object eq

  -- elements
  pub element_sound : {t : Static} (b : ℕ) (d : Ex) (v : Value) (i : ℤ) (u : Ty) (s : State) (k : ToValue) → Ok s → Holds P (heap_of s) v t
      → element_of t ≡ Some u → V (heap_of s) (a_value u) k → Sound (read_element L b d v i s k)
  element_sound b d v i u s k ok hv e h =
      array_sound P L tl s u _ ok hv e (λ a c y at kd o sub. some_sound (element_type c.kind) o.element s _ (ap element_type kd ∙ o.of)
      (fault_sound fault.Bounds (option_and_then (λ n. slice_get c.values n) (natural_of i)) s _ (λ w there.
      let n = then_some (λ n. slice_get c.values n) (natural_of i) w there in
      look_sound P L tl (held b d) w s _ ok (λ s1 r. h w s1 r (sub_held P tl.below_all u (grown P r.grows (o.values n.0 w n.2)) sub)))))

  own_object : (h : Heap) (K : Kind) (vs : List Value) → KindOk P L tl h K vs → is_object (own_type K) ≡ true
  own_object h (an_object c) vs o = refl
  own_object h (an_array t) vs o = go t.dim refl
    where
      go : (d : ℕ) → t.dim ≡ d → is_object t ≡ true
      go zero e = absurd (none (sym (ap (λ z. element_in t.base z) e) ∙ o.of))
        where
          none : None ≡ Some o.element → ⊥
          none e = cc
      go (suc d) e = let z : (t.dim == 0) ≡ false = rw e (grind arith) in rw z refl

  fitting_sound : {w : Static} (v : Value) (e u : Ty) (s : State) (k : State → Outcome) → Ok s → Holds P (heap_of s) v w → fits P w u ≡ true
      → is_subtype P e u ≡ true
      → (Holds P (heap_of s) (convert e v) (a_value e) → Sound (k s)) → Sound (on_fitting L v e s k)
  fitting_sound v e u s k ok (holds_number) p q h = h (stored P tl.below_all e u holds_number p q tt)
  fitting_sound v e u s k ok (holds_truth) p q h = h (stored P tl.below_all e u holds_truth p q tt)
  fitting_sound v e u s k ok (holds_unit) p q h = h (stored P tl.below_all e u holds_unit p q tt)
  fitting_sound v e u s k ok (holds_text x) p q h = h (stored P tl.below_all e u (holds_text x) p q tt)
  fitting_sound v e u s k ok (holds_null x) p q h = h (stored P tl.below_all e u (holds_null x) p q tt)
  fitting_sound v e u s k ok (holds_object {a = a} {c = c} there r sub) p q h =
      some_sound (slice_get s.cells a) c s _ there (go (L.is_sub (own_type c.kind) e) refl)
    where
      go : (b : Bool) → L.is_sub (own_type c.kind) e ≡ b → Sound (on_bool b s k (stop (Faulted fault.ArrayStore)))
      go true pass = let low = sym (tl.is_sub (own_type c.kind) e) ∙ pass in h
          (holds_object there (sub_object P (own_type c.kind) e low (own_object (heap_of s) c.kind c.values (ok.cells a c there))) low)
      go false fail = sound_stop (Faulted fault.ArrayStore) s tt
  fitting_sound v e u s k ok holds_nothing p q h = h (stored P tl.below_all e u holds_nothing p q tt)
  fitting_sound v e u s k ok holds_any p q h = absurd (false≢true p)

  pub write_element_sound : {t w : Static} (v : Value) (i : ℤ) (x : Value) (u : Ty) (s : State) (k : State → Outcome) → Ok s → Holds P (heap_of s) v t
      → element_of t ≡ Some u → Holds P (heap_of s) x w → fits P w u ≡ true
      → S (heap_of s) k → Sound (write_element L v i x s k)
  write_element_sound v i x u s k ok hv e hx p h =
      array_sound P L tl s u _ ok hv e (λ a c y at kd o sub. some_sound (element_type c.kind) o.element s _ (ap element_type kd ∙ o.of)
      (fault_sound fault.Bounds (place_in c i) s _ (λ n there. fitting_sound x o.element u s _ ok hx p sub (λ hw.
      look_exact P L tl _ (convert o.element x) s _ (h _ (again a c n (convert o.element x) (put_from P L tl s a n c (convert o.element x) ok at
      (subst (λ z. KindOk P L tl (heap_of s) z (slice_set c.values n (convert o.element x))) (sym kd) (array_put P L tl (heap_of s) y n c.values
      (convert o.element x) o hw)))))))))
    where
      again : {m : _} (a : ℕ) (c : Cell) (n : ℕ) (w : Value) → From P L tl (heap_of s) (set_value a c n w s)
          → From P L tl (heap_of s) (set_value a c n w (record s { met = m }))
      again a c n w r = record { grows = r.grows; ok = r.ok }

  -- creations
  make_cell_sound : (b : ℕ) (d : Ex) (c : Cell) (t : Ty) (s : State) (k : ToValue) → Ok s → KindOk P L tl (heap_of s) c.kind c.values
      → is_object t ≡ true → is_subtype P (own_type c.kind) t ≡ true
      → V (heap_of s) (a_value t) k → Sound (make_cell L b d c s k)
  make_cell_sound b d c t s k ok new obj sub h =
      look_sound P L tl (held b d) (Object (length s.cells)) (add_cell c s) _ r.ok (λ s1 r1.
      h (Object (length s.cells)) s1 (from_on P L tl (heap_of s) (add_cell c s) s1 r r1) (grown P r1.grows (holds_object (get_last s.cells c) obj sub)))
    where
      r : From P L tl (heap_of s) (add_cell c s)
      r = add_from P L tl s c ok new

  sub_self : (t : Ty) → is_subtype P t t ≡ true
  sub_self t = of_parts P t t refl (go t.base)
    where
      go : (b : TyBase) → is_sub_base P b b ≡ true
      go (Class c) = tl.below_self c.0
      go Int = refl
      go Boolean = refl
      go Char = refl
      go Str = refl

  pub new_object_sound : (b : ℕ) (d : Ex) (n c : ℕ) (s : State) (k : ToValue) → Ok s → is_concrete P c ≡ true
      → V (heap_of s) (a_value (class_type c)) k → Sound (new_object L b d n c s k)
  new_object_sound b d n c s k ok made h = make_cell_sound b d _ (class_type c) s k ok (new (heap_of s)) refl (sub_self (class_type c)) h
    where
      new : (h : Heap) → ObjectOk P L tl h c (L.fresh c)
      new h = record {
        made = made;
        values = λ f i t e ty. let d = tl.fresh c f i e in
            (default_of t, d.2 ∙ ap (λ z. Some (default_of z)) (same_Some _ _ (sym d.1 ∙ ty)), default_held P h t);
      }

  -- a creation of a class without a constructor
  pub make_object_sound : (later : Later) (g : Env) (d : Ex) (n c : ℕ) (s : State) (k : ToValue) → Ok s → is_concrete P c ≡ true
      → maker_of P c ≡ None → V (heap_of s) (a_value (class_type c)) k → Sound (make_object L later g d n c [] s k)
  make_object_sound later g d n c s k ok made none h =
      subst (λ z. Sound (made_by L later g d n c z [] s k)) (sym (tl.no_maker c none))
      (step_sound P L tl s _ ok (λ s1 r. new_object_sound g.body d n c s1 k r.ok made
      (λ v s2 r2 hv. h v s2 (from_on P L tl (heap_of s) s1 s2 r r2) hv)))

  pub make_array_sound : (g : Env) (d : Ex) (n : ℕ) (t u : Ty) (size : ℤ) (s : State) (k : ToValue) → Ok s → element_in t.base t.dim ≡ Some u
      → V (heap_of s) (a_value t) k → Sound (make_array L g d n t size s k)
  make_array_sound g d n t u size s k ok e h =
      some_sound (element_in t.base t.dim) u s _ e (fault_sound fault.NegativeSize (natural_of size) s _ (λ many there.
      step_sound P L tl s _ ok (λ s1 r. make_cell_sound g.body d _ t s1 k r.ok (new (heap_of s1) many)
      (own_object (heap_of s1) (an_array t) (defaults u many) (new (heap_of s1) many)) (sub_self t)
      (λ v s2 r2 hv. h v s2 (from_on P L tl (heap_of s) s1 s2 r r2) hv))))
    where
      new : (h : Heap) (many : ℕ) → ArrayOk P L tl h t (defaults u many)
      new h many = record {
        element = u;
        of = e;
        values = λ i v at. subst (λ z. Holds P h z (a_value u)) (all_same many i (default_of u) v at)
            (default_held P h u);
      }

  -- operators
  pub unary_sound : {t : Static} (o : UnOp) (v : Value) (s : State) (k : ToValue) → Ok s → Holds P (heap_of s) v t → takes_one o t ≡ true
      → V (heap_of s) (a_value (unary_type o)) k → Sound (with_some (unary_value o v) s (λ u. k u s))
  unary_sound un.Not v s k ok hv p h = let b = truth_held P hv p in some_sound (unary_value un.Not v) (Truth (not b.0)) s _
      (ap (λ z. unary_value un.Not z) b.1) (here (Truth (not b.0)) s k ok holds_truth h)
  unary_sound un.Plus v s k ok hv p h = let n = number_held P hv p in some_sound (unary_value un.Plus v) (Number (negated un.Plus n.0)) s _
      (rw n.1 refl) (here (Number (negated un.Plus n.0)) s k ok holds_number h)
  unary_sound un.Minus v s k ok hv p h = let n = number_held P hv p in some_sound (unary_value un.Minus v) (Number (negated un.Minus n.0)) s _
      (rw n.1 refl) (here (Number (negated un.Minus n.0)) s k ok holds_number h)
  unary_sound un.Flip v s k ok hv p h = let n = number_held P hv p in some_sound (unary_value un.Flip v) (Number (negated un.Flip n.0)) s _
      (rw n.1 refl) (here (Number (negated un.Flip n.0)) s k ok holds_number h)
