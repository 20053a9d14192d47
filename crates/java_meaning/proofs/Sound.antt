-- Typed states, and that each move on them goes on or ends as it may.
use Rattle.std.proofs.Common.{◌≡◌, ◌≢◌, ℕ, zero, suc, List, [], ◌∷◌, ◌++◌, Option, Some, None, length, refl, sym, ap, ◌∙◌, subst, ⊎_elim, inl, inr, arith}
use Rattle.std.specs.Prelude.{◌⊎◌, ◌||◌, is_some, Bool, true, false, slice_get, slice_set}
use Rattle.std.specs.declared.result.Result.{Result}
use Rattle.std.specs.declared.result.Result.TheVariants.{Ok, Err}
use Rattle.std.proofs.lemmas.Bool.{cases_eq, or_left, or_right}
use Rattle.std.proofs.lemmas.Option.{same_Some}
use Rattle.java_core.specs.declared.Ty.{Ty}
use Rattle.java_core.specs.declared.TyBase.{TyBase}
use Rattle.java_core.specs.declared.TyBase.TheVariants.{Int, Boolean, Char, Str, Class}
use Rattle.java_core.specs.declared.Fault.{Fault}
use Rattle.java_core.specs.declared.Fault.TheVariants as fault
use Rattle.java_core.specs.Trees.{Ex}
use Rattle.java_core.specs.Programs.{Plain}
use Rattle.java_core.specs.Classes.{below, is_concrete}
use Rattle.java_core.specs.Types.{Static, a_value, plain_type, class_type, class_in, class_of, element_in, element_of, is_sub_base, is_subtype, field_type, is_object}
use Rattle.java_meaning.specs.Moment.{Value, Truth, Text, Object, Kind, an_object, an_array, Cell, own_type, own_class, Spot, State, End, Faulted, Going, Wrong, Escaped, Outcome, stop, Lang, step, step_of, with_some, or_fault, with_result, on_bool, look, look_all}
use Rattle.java_meaning.specs.Values.{convert}
use Rattle.java_meaning.specs.Meaning.{ToValue, on_test, with_cell, add_cell, add_string, set_value, give_string, read_static, write_static, read_field, write_field}
use Rattle.java_meaning.specs.TypedLang.{TypedLang}
use Rattle.java_meaning.proofs.Holds.{Heap, heap_of, Holds, holds_number, holds_truth, holds_unit, holds_text, holds_null, holds_object, holds_nothing, holds_any, Grows, grows_same, grows_on, grown, sub_parts, of_parts}

-- places of lists
pub get_add : {A : Type 0} (h : List A) (c d : A) (a : ℕ) → slice_get h a ≡ Some d → slice_get (h ++ c ∷ []) a ≡ Some d
get_add [] c d a e = absurd (cc)
get_add (x ∷ h) c d zero e = e
get_add (x ∷ h) c d (suc a) e = get_add h c d a e

pub get_last : {A : Type 0} (h : List A) (c : A) → slice_get (h ++ c ∷ []) (length h) ≡ Some c
get_last [] c = refl
get_last (x ∷ h) c = get_last h c

pub get_added : {A : Type 0} (h : List A) (c d : A) (a : ℕ) → slice_get (h ++ c ∷ []) a ≡ Some d → (slice_get h a ≡ Some d) ⊎ (c ≡ d)
get_added [] c d zero e = inr (same_Some _ _ e)
get_added [] c d (suc a) e = absurd (cc)
get_added (x ∷ h) c d zero e = inl e
get_added (x ∷ h) c d (suc a) e = get_added h c d a e

pub get_set_other : {A : Type 0} (xs : List A) (i j : ℕ) (u : A) → i ≢ j → slice_get (slice_set xs i u) j ≡ slice_get xs j
get_set_other [] i j u ne = refl
get_set_other (x ∷ xs) zero zero u ne = absurd (ne refl)
get_set_other (x ∷ xs) zero (suc j) u ne = refl
get_set_other (x ∷ xs) (suc i) zero u ne = refl
get_set_other (x ∷ xs) (suc i) (suc j) u ne = get_set_other xs i j u (λ e. ne (ap suc e))

pub get_set_there : {A : Type 0} (xs : List A) (i : ℕ) (u x : A) → slice_get xs i ≡ Some x → slice_get (slice_set xs i u) i ≡ Some u
get_set_there [] i u x e = absurd (cc)
get_set_there (y ∷ xs) zero u x e = refl
get_set_there (y ∷ xs) (suc i) u x e = get_set_there xs i u x e

get_set_same : {A : Type 0} (xs : List A) (i : ℕ) (u x : A) → slice_get (slice_set xs i u) i ≡ Some x → u ≡ x
get_set_same [] i u x e = absurd (cc)
get_set_same (y ∷ xs) zero u x e = same_Some _ _ e
get_set_same (y ∷ xs) (suc i) u x e = get_set_same xs i u x e

abbrev pub NotWrong : End → Type 0
NotWrong Wrong = ⊥
NotWrong e = Unit {0}

pub Sound : Outcome → Type 0
Sound o = NotWrong o.end

pub sound_stop : (e : End) (s : State) → NotWrong e → Sound (stop e s)
unfolding Sound
sound_stop e s h = h

pub sound_not_wrong : (o : Outcome) → Sound o → o.end ≢ Wrong
unfolding Sound
sound_not_wrong o h e = subst NotWrong e h

pub some_sound : {A : Type 0} (o : Option A) (a : A) (s : State) (k : A → Outcome) → o ≡ Some a → Sound (k a) → Sound (with_some o s k)
some_sound o a s k e h = rw e h

pub bool_sound : (b : Bool) (s : State) (x y : State → Outcome) → Sound (x s) → Sound (y s) → Sound (on_bool b s x y)
bool_sound true s x y h d = h
bool_sound false s x y h d = d

-- what holds where it faults, and where it goes on
pub fault_has : {A : Type 0} (Q : Outcome → Type 0) (x : Fault) (o : Option A) (s : State) (k : A → Outcome) → Q (stop (Faulted x) s)
    → ((a : A) → o ≡ Some a → Q (k a)) → Q (or_fault x o s k)
fault_has Q x None s k e h = e
fault_has Q x (Some a) s k e h = h a refl

pub result_has : {A : Type 0} (Q : Outcome → Type 0) (o : Result A Fault) (s : State) (k : A → Outcome) → ((x : Fault) → Q (stop (Faulted x) s))
    → ((a : A) → Q (k a)) → Q (with_result o s k)
result_has Q (Err x) s k e h = e x
result_has Q (Ok a) s k e h = h a

pub fault_sound : {A : Type 0} (x : Fault) (o : Option A) (s : State) (k : A → Outcome) → ((a : A) → o ≡ Some a → Sound (k a)) → Sound (or_fault x o s k)
fault_sound x o s k h = fault_has Sound x o s k (sound_stop (Faulted x) s tt) h

pub result_sound : {A : Type 0} (o : Result A Fault) (s : State) (k : A → Outcome) → ((a : A) → Sound (k a)) → Sound (with_result o s k)
result_sound o s k h = result_has Sound o s k (λ x. sound_stop (Faulted x) s tt) h

pub class_in_type : (b : TyBase) (d c : ℕ) → class_in b d ≡ Some c → class_type c ≡ record { base = b; dim = d }
class_in_type (Class a) zero c e = ap class_type (sym (same_Some _ _ e))
class_in_type (Class a) (suc d) c e = absurd (cc)
class_in_type Int d c e = absurd (cc)
class_in_type Boolean d c e = absurd (cc)
class_in_type Char d c e = absurd (cc)
class_in_type Str d c e = absurd (cc)

module _ (P : Plain) (L : Lang) (tl : TypedLang P L) where
  pub record ObjectOk (h : Heap) (c : ℕ) (vs : List Value) : Type 0 where
    pub made : is_concrete P c ≡ true
    pub values : (f i : ℕ) (t : Ty) → L.index c f ≡ Some i → field_type P f ≡ Some t → (v : Value) × (slice_get vs i ≡ Some v) × Holds P h v (a_value t)

  pub record ArrayOk (h : Heap) (t : Ty) (vs : List Value) : Type 0 where
    pub element : Ty
    pub of : element_in t.base t.dim ≡ Some element
    pub values : (i : ℕ) (v : Value) → slice_get vs i ≡ Some v → Holds P h v (a_value element)

  abbrev pub KindOk : Heap → Kind → List Value → Type 0
  KindOk h (an_object c) vs = ObjectOk h c vs
  KindOk h (an_array t) vs = ArrayOk h t vs

  pub record StateOk (h : Heap) (held : List Value) : Type 0 where
    pub cells : (a : ℕ) (c : Cell) → slice_get h.cells a ≡ Some c → KindOk h c.kind c.values
    pub statics : (f : ℕ) (t : Ty) → field_type P f ≡ Some t → (v : Value) × (slice_get held f ≡ Some v) × Holds P h v (a_value t)

  abbrev pub Good : State → Type 0
  Good s = StateOk (heap_of s) s.statics

  kind_grown : (h k : Heap) (K : Kind) (vs : List Value) → Grows P h k → KindOk h K vs → KindOk k K vs
  kind_grown h k (an_object c) vs g o = record { made = o.made; values = λ f i t e d. let w = o.values f i t e d in (w.0, w.1, grown P g w.2) }
  kind_grown h k (an_array t) vs g o = record { element = o.element; of = o.of; values = λ i v e. grown P g (o.values i v e) }

  -- a state that goes on from another
  pub record From (h : Heap) (s : State) : Type 0 where
    pub grows : Grows P h (heap_of s)
    pub ok : Good s

  pub from_same : (s : State) → Good s → From (heap_of s) s
  from_same s ok = record { grows = grows_same P (heap_of s); ok = ok }

  pub from_on : (h : Heap) (s t : State) → From h s → From (heap_of s) t → From h t
  from_on h s t p q = record { grows = grows_on P h (heap_of s) (heap_of t) p.grows q.grows; ok = q.ok }

  abbrev pub KV : Heap → Static → ToValue → Type 0
  KV h t k = (v : Value) (s : State) → From h s → Holds P (heap_of s) v t → Sound (k v s)

  abbrev pub KS : Heap → (State → Outcome) → Type 0
  KS h k = (s : State) → From h s → Sound (k s)

  -- a value put into a cell, where it may stand there
  pub put_from : (s : State) (a i : ℕ) (c : Cell) (w : Value) → Good s → slice_get s.cells a ≡ Some c
      → KindOk (heap_of s) c.kind (slice_set c.values i w) → From (heap_of s) (set_value a c i w s)
  put_from s a i c w ok at new = record {
    grows = grows;
    ok = record {
      cells = λ b d e. ⊎_elim
          (λ same. subst (λ z. KindOk k z.kind z.values) (same_Some _ _ (sym (get_set_there s.cells a put c at) ∙ ap (λ z. slice_get k.cells z) same
          ∙ e)) (kind_grown (heap_of s) k c.kind (slice_set c.values i w) grows new))
          (λ ne. kind_grown (heap_of s) k d.kind d.values grows (ok.cells b d (sym (get_set_other s.cells a b put ne) ∙ e)))
          (cases_eq a b);
      statics = λ f t e. let v = ok.statics f t e in (v.0, v.1, grown P grows v.2);
    };
  }
    where
      put : Cell
      put = record c { values = slice_set c.values i w }

      k : Heap
      k = record { cells = slice_set s.cells a put; strings = s.strings }

      grows : Grows P (heap_of s) k
      grows = record {
        cells = λ b d e. ⊎_elim
            (λ same. (
              put,
              ap (λ z. slice_get k.cells z) (sym same) ∙ get_set_there s.cells a put c at,
              ap (λ z. z.kind)
                  (same_Some _ _ (sym at ∙ ap (λ z. slice_get s.cells z) same ∙ e)),
            ))
            (λ ne. (d, get_set_other s.cells a b put ne ∙ e, refl))
            (cases_eq a b);
        strings = λ b u e. e;
      }

  pub object_put : (h : Heap) (c f i : ℕ) (t : Ty) (vs : List Value) (w : Value) → ObjectOk h c vs → L.index c f ≡ Some i → field_type P f ≡ Some t
      → Holds P h w (a_value t) → ObjectOk h c (slice_set vs i w)
  object_put h c f i t vs w o at ty hw = record {
    made = o.made;
    values = λ g j u e d. let x = o.values g j u e d in ⊎_elim
        (λ same. (
          w,
          ap (λ z. slice_get (slice_set vs i w) z) (sym same) ∙ get_set_there vs i w (o.values f i t at ty).0 (o.values f i t at ty).1,
          subst (λ z. Holds P h w (a_value z)) (same_Some _ _ (sym ty ∙ ap (λ z. field_type P z) (tl.places c f g i at (e ∙ ap Some (sym same))) ∙ d)) hw,
        ))
        (λ ne. (x.0, get_set_other vs i j w ne ∙ x.1, x.2))
        (cases_eq i j);
  }

  pub array_put : (h : Heap) (t : Ty) (i : ℕ) (vs : List Value) (w : Value) → (o : ArrayOk h t vs) → Holds P h w (a_value o.element)
      → ArrayOk h t (slice_set vs i w)
  array_put h t i vs w o hw = record {
    element = o.element;
    of = o.of;
    values = λ j v e. ⊎_elim
        (λ same. subst (λ z. Holds P h z (a_value o.element)) (get_set_same vs i w v (ap (λ z. slice_get (slice_set vs i w) z) same ∙ e)) hw)
        (λ ne. o.values j v (sym (get_set_other vs i j w ne) ∙ e))
        (cases_eq i j);
  }

  -- a new cell
  pub add_from : (s : State) (c : Cell) → Good s → KindOk (heap_of s) c.kind c.values → From (heap_of s) (add_cell c s)
  add_from s c ok new = record {
    grows = grows;
    ok = record {
      cells = λ a d e. ⊎_elim
          (λ old. kind_grown (heap_of s) k d.kind d.values grows (ok.cells a d old))
          (λ same. subst (λ z. KindOk k z.kind z.values) same (kind_grown (heap_of s) k c.kind c.values grows new))
          (get_added s.cells c d a e);
      statics = λ f t e. let v = ok.statics f t e in (v.0, v.1, grown P grows v.2);
    };
  }
    where
      k : Heap
      k = record { cells = s.cells ++ c ∷ []; strings = s.strings }

      grows : Grows P (heap_of s) k
      grows = record { cells = λ a d e. (d, get_add s.cells c d a e, refl); strings = λ b u e. e }

  -- a new string
  pub string_from : (s : State) (u : List ℕ) → Good s → From (heap_of s) (add_string u s)
  string_from s u ok = record {
    grows = grows;
    ok = record {
      cells = λ a d e. kind_grown (heap_of s) k d.kind d.values grows (ok.cells a d e);
      statics = λ f t e. let v = ok.statics f t e in (v.0, v.1, grown P grows v.2);
    };
  }
    where
      k : Heap
      k = record { cells = s.cells; strings = s.strings ++ u ∷ [] }

      grows : Grows P (heap_of s) k
      grows = record { cells = λ a d e. (d, e, refl); strings = λ b x e. get_add s.strings u x b e }

  pub give_string_sound : (u : List ℕ) (s : State) (k : ToValue) → Good s → KV (heap_of s) (a_value (plain_type Str)) k → Sound (give_string u s k)
  give_string_sound u s k ok h = h (Text (length s.strings)) (add_string u s) (string_from s u ok) (holds_text (get_last s.strings u))

  -- tests, steps and looks
  pub test_sound : (v : Value) (b : Bool) (s : State) (x y : State → Outcome) → v ≡ Truth b → Sound (x s) → Sound (y s) → Sound (on_test v s x y)
  test_sound v b s x y e h d = rw e (bool_sound b s x y h d)

  pub step_sound : (s : State) (k : State → Outcome) → Good s → KS (heap_of s) k → Sound (step s k)
  step_sound s k ok h = go s.left
    where
      go : (n : ℕ) → Sound (step_of n s k)
      go zero = sound_stop Going s tt
      go (suc n) = h (record s { left = n }) (record { grows = grows_same P (heap_of s); ok = ok })

  pub look_exact : (p : Spot) (v : Value) (s : State) (k : State → Outcome) → Sound (k (record s { met = L.note p v s.cells s.met })) → Sound (look L p v s k)
  look_exact p v s k h = bool_sound (L.sees p v s.cells) (record s { met = L.note p v s.cells s.met }) k (stop Escaped) h
      (sound_stop Escaped (record s { met = L.note p v s.cells s.met }) tt)

  pub look_sound : (p : Spot) (v : Value) (s : State) (k : State → Outcome) → Good s → KS (heap_of s) k → Sound (look L p v s k)
  look_sound p v s k ok h = look_exact p v s k (h _ (record { grows = grows_same P (heap_of s); ok = ok }))

  pub look_all_sound : (b : ℕ) (vs : List Value) (s : State) (k : State → Outcome) → Good s → KS (heap_of s) k → Sound (look_all L b vs s k)
  look_all_sound b vs s k ok h =
      bool_sound (L.sees_all b vs s.cells) (record s { met = L.note_all b vs s.cells s.met }) k (stop Escaped)
      (h _ (record { grows = grows_same P (heap_of s); ok = ok })) (sound_stop Escaped (record s { met = L.note_all b vs s.cells s.met }) tt)

  -- an object of a class, and an array of elements
  object_kind : (h : Heap) (c : ℕ) (K : Kind) (vs : List Value) → KindOk h K vs → is_subtype P (own_type K) (class_type c) ≡ true
      → (d : ℕ) × (K ≡ an_object d) × (below P d c ≡ true) × ObjectOk h d vs
  object_kind h c (an_object d) vs o sub = (d, refl, (sub_parts P (class_type d) (class_type c) sub).1, o)
  object_kind h c (an_array t) vs o sub = absurd (none (sym (ap (λ z. element_in t.base z) (sub_parts P t (class_type c) sub).0) ∙ o.of))
    where
      none : None ≡ Some o.element → ⊥
      none e = cc

  -- a value of a class or an array is an object or array of it, or null
  cell_sound : {t : Static} {v : Value} (s : State) (k : ℕ → Cell → Outcome) → Holds P (heap_of s) v t → is_some (class_of t) || is_some (element_of t) ≡ true
      → ((u : Ty) (a : ℕ) (o : Cell) → slice_get s.cells a ≡ Some o → is_object u ≡ true → is_subtype P (own_type o.kind) u ≡ true → t ≡ a_value u
      → Sound (k a o)) → Sound (with_cell v s k)
  cell_sound s k holds_number e h = absurd (cc)
  cell_sound s k holds_truth e h = absurd (cc)
  cell_sound s k holds_unit e h = absurd (cc)
  cell_sound s k (holds_text x) e h = absurd (cc)
  cell_sound s k (holds_null x) e h = sound_stop (Faulted fault.Null) s tt
  cell_sound s k (holds_object {a = a} {t = u} {c = o} there r sub) e h =
      some_sound (slice_get s.cells a) o s (λ z. k a z) there (h u a o there r sub refl)
  cell_sound s k holds_nothing e h = sound_stop (Faulted fault.Null) s tt
  cell_sound s k holds_any e h = absurd (cc)

  pub class_sound : {t : Static} {v : Value} (s : State) (c : ℕ) (k : ℕ → Cell → Outcome) → Good s → Holds P (heap_of s) v t → class_of t ≡ Some c
      → ((a : ℕ) (o : Cell) (d : ℕ) → slice_get s.cells a ≡ Some o → o.kind ≡ an_object d → below P d c ≡ true → ObjectOk (heap_of s) d o.values
      → Holds P (heap_of s) (Object a) t → Sound (k a o)) → Sound (with_cell v s k)
  class_sound {t} s c k ok hv e h = cell_sound s k hv (or_left (is_some (class_of t)) (is_some (element_of t)) (ap is_some e))
      (λ u a o there r sub is. let q = object_kind (heap_of s) c o.kind o.values (ok.cells a o there) (subst (λ z. is_subtype P (own_type o.kind) z ≡ true)
      (sym (class_in_type u.base u.dim c (ap class_of (sym is) ∙ e))) sub) in
      h a o q.0 there q.1 q.2 q.3 (subst (λ z. Holds P (heap_of s) (Object a) z) (sym is) (holds_object there r sub)))

  array_kind : (h : Heap) (b : TyBase) (d : ℕ) (u : Ty) (K : Kind) (vs : List Value) → KindOk h K vs → element_in b d ≡ Some u
      → is_subtype P (own_type K) (record { base = b; dim = d }) ≡ true
      → (t : Ty) × (K ≡ an_array t) × ((o : ArrayOk h t vs) × (is_subtype P o.element u ≡ true))
  array_kind h b zero u K vs o e sub = absurd (cc)
  array_kind h b (suc d) u (an_object c) vs o e sub = let z : 0 ≡ suc d = (sub_parts P (class_type c) (record { base = b; dim = suc d }) sub).0 in
      absurd (omega (arith, z))
  array_kind h b (suc d) u (an_array t) vs o e sub = (
    t,
    refl,
    (
      o,
      subst (λ z. is_subtype P o.element z ≡ true) (same_Some _ _ e) (subst (λ z. is_subtype P z (record { base = b; dim = d }) ≡ true)
          here (of_parts P (record { base = t.base; dim = d }) (record { base = b; dim = d }) refl parts.1)),
    ),
  )
    where
      parts : (t.dim ≡ suc d) × (is_sub_base P t.base b ≡ true)
      parts = sub_parts P t (record { base = b; dim = suc d }) sub

      here : record { base = t.base; dim = d } ≡ o.element
      here = same_Some _ _ (sym (ap (λ z. element_in t.base z) parts.0) ∙ o.of)

  pub array_sound : {t : Static} {v : Value} (s : State) (u : Ty) (k : ℕ → Cell → Outcome) → Good s → Holds P (heap_of s) v t → element_of t ≡ Some u
      → ((a : ℕ) (c : Cell) (y : Ty) → slice_get s.cells a ≡ Some c → c.kind ≡ an_array y → (o : ArrayOk (heap_of s) y c.values)
      → is_subtype P o.element u ≡ true → Sound (k a c)) → Sound (with_cell v s k)
  array_sound {t} s u k ok hv e h = cell_sound s k hv (or_right (is_some (class_of t)) (is_some (element_of t)) (ap is_some e))
      (λ w a o there r sub is. let q = array_kind (heap_of s) w.base w.dim u o.kind o.values (ok.cells a o there) (ap element_of (sym is) ∙ e) sub in
      h a o q.0 there q.1 q.2.0 q.2.1)

  -- static fields
  pub read_static_sound : (x : ℕ) (t : Ty) (s : State) (k : ToValue) → Good s → field_type P x ≡ Some t → KV (heap_of s) (a_value t) k
      → Sound (read_static x s k)
  read_static_sound x t s k ok e h = let r = ok.statics x t e in some_sound (slice_get s.statics x) r.0 s _ r.1 (h r.0 s (from_same s ok) r.2)

  statics_put : (s : State) (x : ℕ) (t : Ty) (w : Value) → Good s → field_type P x ≡ Some t → Holds P (heap_of s) w (a_value t)
      → StateOk (heap_of s) (slice_set s.statics x w)
  statics_put s x t w ok ty hw = record {
    cells = ok.cells;
    statics = λ f u e. let v = ok.statics f u e in ⊎_elim
        (λ same. (
          w,
          ap (λ z. slice_get (slice_set s.statics x w) z) (sym same) ∙ get_set_there s.statics x w (ok.statics x t ty).0 (ok.statics x t ty).1,
          subst (λ z. Holds P (heap_of s) w (a_value z)) (same_Some _ _ (sym ty ∙ ap (λ z. field_type P z) same ∙ e)) hw,
        ))
        (λ ne. (v.0, get_set_other s.statics x f w ne ∙ v.1, v.2))
        (cases_eq x f);
  }

  pub write_static_sound : (x : ℕ) (t : Ty) (v : Value) (s : State) (k : State → Outcome) → Good s → field_type P x ≡ Some t
      → Holds P (heap_of s) (convert t v) (a_value t) → KS (heap_of s) k → Sound (write_static L x v s k)
  write_static_sound x t v s k ok e hv h =
      some_sound (L.field_type x) t s _ (tl.typed_field x ∙ e) (some_sound (slice_get s.statics x) (ok.statics x t e).0 s _ (ok.statics x t e).1
      (look_sound _ (convert t v) s _ ok (λ s1 r. h _ (record { grows = r.grows; ok = statics_put s1 x t (convert t v) r.ok e (grown P r.grows hv) }))))

  -- fields of objects: c is the class of the object, f the field
  pub read_field_sound : (b : ℕ) (e d : Ex) (x : Option ℕ) (a : ℕ) (o : Cell) (c f i : ℕ) (t : Ty) (s : State) (k : ToValue) → Good s
      → o.kind ≡ an_object c → ObjectOk (heap_of s) c o.values → x ≡ Some f → L.index c f ≡ Some i → field_type P f ≡ Some t
      → KV (heap_of s) (a_value t) k → Sound (read_field L b e d x a o s k)
  read_field_sound b e d x a o c f i t s k ok kd oo ex at ty h =
      let v = oo.values f i t at ty in
      some_sound (own_class o.kind) c s _ (ap own_class kd)
      (some_sound x f s _ ex (some_sound (L.index c f) i s _ at (some_sound (slice_get o.values i) v.0 s _ v.1
      (look_sound _ (Object a) s _ ok (λ s1 r. look_sound _ v.0 s1 _ r.ok (λ s2 r2. let all = from_on (heap_of s) s1 s2 r r2 in h v.0 s2 all
      (grown P all.grows v.2)))))))

  pub write_field_sound : (b : ℕ) (e : Ex) (x : Option ℕ) (w : Value) (a : ℕ) (o : Cell) (c f i : ℕ) (t : Ty) (s : State) (k : State → Outcome)
      → Good s → slice_get s.cells a ≡ Some o → o.kind ≡ an_object c → ObjectOk (heap_of s) c o.values → x ≡ Some f
      → L.index c f ≡ Some i → field_type P f ≡ Some t → Holds P (heap_of s) (convert t w) (a_value t) → KS (heap_of s) k
      → Sound (write_field L b e x w a o s k)
  write_field_sound b e x w a o c f i t s k ok there kd oo ex at ty hw h =
      let v = oo.values f i t at ty in
      some_sound (own_class o.kind) c s _ (ap own_class kd) (some_sound x f s _ ex (some_sound (L.field_type f) t s _ (tl.typed_field f
      ∙ ty) (some_sound (L.index c f) i s _ at (some_sound (slice_get o.values i) v.0 s _ v.1
      (look_exact _ (Object a) s _ (look_exact _ (convert t w) _ _
      (h _ (again (put_from s a i o (convert t w) ok there (subst (λ z. KindOk (heap_of s) z (slice_set o.values i (convert t w))) (sym kd)
      (object_put (heap_of s) c f i t o.values (convert t w) oo at ty hw)))))))))))
    where
      again : {m : _} → From (heap_of s) (set_value a o i (convert t w) s) → From (heap_of s) (set_value a o i (convert t w) (record s { met = m }))
      again r = record { grows = r.grows; ok = r.ok }
