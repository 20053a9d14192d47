-- Calls on typed states: arguments at parameters, frames, and the bodies that are found.
use Rattle.std.proofs.Common.{◌≡◌, ℕ, zero, suc, List, [], ◌∷◌, ◌++◌, Option, Some, None, length, refl, sym, ap, ◌∙◌, subst}
use Rattle.std.specs.Prelude.{Bool, true, false, if◌then◌else◌, map, slice_get, slice_set}
use Rattle.std.specs.Option.{option_and_then, option_map}
use Rattle.std.specs.Str.{bytes_eq}
use Rattle.std.proofs.lemmas.Option.{same_Some}
use Rattle.java_core.specs.declared.Ty.{Ty}
use Rattle.java_core.specs.declared.TyBase.TheVariants.{Int, Str}
use Rattle.java_core.specs.declared.Fault.TheVariants as fault
use Rattle.java_core.specs.Trees.{Ex, Sts}
use Rattle.java_core.specs.Programs.{Plain}
use Rattle.java_core.specs.Classes.{below, slot_of, super_method, has_body, is_concrete}
use Rattle.java_core.specs.Makers.{maker_of}
use Rattle.java_core.specs.Types.{Env, Static, a_value, or_nothing, plain_type, class_type, class_of, is_string, is_subtype, fits, StringMethod, LengthOf, CharAt, Equals, string_method, string_params, string_result, Signature, signature_of_slot, signature_of_method, signature_of_string, object_signature, call_signature, super_signature, static}
use Rattle.java_core.specs.Typing.{TypedSts}
use Rattle.java_meaning.specs.Moment.{Value, Number, Truth, CodeUnit, Nothing, Text, Object, an_object, Cell, own_type, own_class, held, self_of, ran, State, Frame, Faulted, Body, Lang, look}
use Rattle.java_meaning.specs.Values.{int_of, default_of, convert, arguments, and_argument, number_of, natural_of, equals_value}
use Rattle.java_meaning.specs.Meaning.{Flow, Next, Broke, Continued, Gave, ToValue, ToFlow, Later, with_cell, given, enter, call_object, string_call, text_method, call_on, call_static, call_super, construct, made_by, make_object}
use Rattle.java_meaning.specs.TypedLang.{TypedBody, HasBody, TypedLang, standing}
use Rattle.java_meaning.specs.EachStatement.{InSts}
use Rattle.java_meaning.proofs.Holds.{Heap, heap_of, Holds, holds_number, holds_truth, holds_unit, holds_text, holds_null, holds_object, holds_nothing, holds_any, Grows, grown, number_held, IsText, text_null, text_there, text_held, default_held, flows, sub_held, of_parts}
use Rattle.java_meaning.proofs.Sound.{Sound, sound_stop, some_sound, fault_sound, Good, From, from_on, KV, step_sound, look_sound, look_all_sound, class_sound}
use Rattle.java_meaning.proofs.Moves.{then_some, here, string_class, new_object_sound}

pub mapped_some : {A B : Type 0} (f : A → B) (o : Option A) (y : B) → option_map f o ≡ Some y → (x : A) × (o ≡ Some x) × (f x ≡ y)
mapped_some f None y e = absurd (cc)
mapped_some f (Some x) y e = (x, refl, same_Some _ _ e)

-- a character alone is another value where it is converted
converted : {A : Type 0} (f : Value → A) (t : Ty) → ((c : ℕ) → f (convert t (CodeUnit c)) ≡ f (CodeUnit c)) → (v : Value) → f (convert t v) ≡ f v
converted f t h (CodeUnit c) = h c
converted f t h Nothing = refl
converted f t h v = refl

number_converted : (v : Value) → number_of (convert (plain_type Int) v) ≡ number_of v
number_converted = converted number_of (plain_type Int) (λ c. refl)

string_converted : (v : Value) → convert (plain_type Str) v ≡ v
string_converted = converted (λ v. v) (plain_type Str) (λ c. refl)

module _ (P : Plain) where
  -- values of types that fit the parameters, and values of the types themselves
  pub data FitAll (h : Heap) : List Value → List Ty → Type 0 where
    fit_none : FitAll h [] []
    fit_more : {v : Value} {s : Static} {vs : List Value} {t : Ty} {ts : List Ty} → Holds P h v s → fits P s t ≡ true → FitAll h vs ts
        → FitAll h (v ∷ vs) (t ∷ ts)

  pub data HoldAll (h : Heap) : List Value → List Ty → Type 0 where
    hold_none : HoldAll h [] []
    hold_more : {v : Value} {vs : List Value} {t : Ty} {ts : List Ty} → Holds P h v (a_value t) → HoldAll h vs ts → HoldAll h (v ∷ vs) (t ∷ ts)

  pub fit_grown : {h k : Heap} {vs : List Value} {ts : List Ty} → Grows P h k → FitAll h vs ts → FitAll k vs ts
  fit_grown g fit_none = fit_none
  fit_grown g (fit_more hv p rest) = fit_more (grown P g hv) p (fit_grown g rest)

  pub all_grown : {h k : Heap} {vs : List Value} {ts : List Ty} → Grows P h k → HoldAll h vs ts → HoldAll k vs ts
  all_grown g hold_none = hold_none
  all_grown g (hold_more hv rest) = hold_more (grown P g hv) (all_grown g rest)

  all_joined : {h : Heap} {vs ws : List Value} {ts us : List Ty} → HoldAll h vs ts → HoldAll h ws us → HoldAll h (vs ++ ws) (ts ++ us)
  all_joined hold_none q = q
  all_joined (hold_more hv rest) q = hold_more hv (all_joined rest q)

  all_defaults : (h : Heap) (ts : List Ty) → HoldAll h (map default_of ts) ts
  all_defaults h [] = hold_none
  all_defaults h (t ∷ ts) = hold_more (default_held P h t) (all_defaults h ts)

  pub all_get : {h : Heap} {vs : List Value} {ts : List Ty} (i : ℕ) (t : Ty) → HoldAll h vs ts → slice_get ts i ≡ Some t → (v : Value)
      × (slice_get vs i ≡ Some v) × Holds P h v (a_value t)
  all_get i t hold_none e = absurd (cc)
  all_get {h = h} zero t (hold_more {v = v} hv rest) e = (v, refl, subst (λ z. Holds P h v (a_value z)) (same_Some _ _ e) hv)
  all_get (suc i) t (hold_more hv rest) e = all_get i t rest e

  pub all_set : {h : Heap} {vs : List Value} {ts : List Ty} (i : ℕ) (t : Ty) (w : Value) → HoldAll h vs ts → slice_get ts i ≡ Some t
      → Holds P h w (a_value t) → HoldAll h (slice_set vs i w) ts
  all_set i t w hold_none e hw = hold_none
  all_set {h = h} zero t w (hold_more hv rest) e hw = hold_more (subst (λ z. Holds P h w (a_value z)) (sym (same_Some _ _ e)) hw) rest
  all_set (suc i) t w (hold_more hv rest) e hw = hold_more hv (all_set i t w rest e hw)

  -- a body that runs: `this` is of its class, and its locals of their types
  pub record FrameIn (h : Heap) (f : Frame) : Type 0 where
    pub self : Holds P h f.self (a_value (class_type f.env.self))
    pub locals : HoldAll h f.locals f.env.locals

  pub frame_grown : {h k : Heap} {f : Frame} → Grows P h k → FrameIn h f → FrameIn k f
  frame_grown g p = record { self = grown P g p.self; locals = all_grown g p.locals }

  -- what a statement gives is of the body's result
  abbrev pub FlowOk : Env → Heap → Flow → Type 0
  FlowOk g h Next = Unit {0}
  FlowOk g h Broke = Unit {0}
  FlowOk g h Continued = Unit {0}
  FlowOk g h (Gave v) = (t : Ty) → g.result ≡ Some t → Holds P h v (a_value t)

  -- what is of the result where there is one
  result_held : (h : Heap) (v : Value) (o : Option Ty) → ((t : Ty) → o ≡ Some t → Holds P h v (a_value t)) → Holds P h v (or_nothing o)
  result_held h v None p = holds_any
  result_held h v (Some t) p = p t refl

  pub given_held : (h : Heap) (b : Body) (sig : Signature) (w : Flow) → TypedBody P b sig → FlowOk b.env h w → Holds P h (given b w) (or_nothing sig.result)
  given_held h b sig w tb p = result_held h (given b w) sig.result (go w p)
    where
      ends : (t : Ty) → sig.result ≡ Some t → Holds P h b.ends (a_value t)
      ends t e = subst (λ z. Holds P h z (a_value t)) (sym (tb.ends t e)) (default_held P h t)

      go : (w : Flow) → FlowOk b.env h w → (t : Ty) → sig.result ≡ Some t → Holds P h (given b w) (a_value t)
      go Next p t e = ends t e
      go Broke p t e = ends t e
      go Continued p t e = ends t e
      go (Gave v) p t e = p t (tb.result ∙ e)

  module _ (L : Lang) (tl : TypedLang P L) where
    arguments_held : {h : Heap} {vs : List Value} {ts : List Ty} → FitAll h vs ts → (ws : List Value) × (arguments ts vs ≡ Some ws) × HoldAll h ws ts
    arguments_held fit_none = ([], refl, hold_none)
    arguments_held (fit_more {v = v} {t = t} hv p rest) =
        let r = arguments_held rest in (convert t v ∷ r.0, ap (and_argument (convert t v)) r.1, hold_more (flows P tl.below_all t hv p) r.2)

    abbrev pub KF : Env → Heap → ToFlow → Type 0
    KF g h k = (w : Flow) (f : Frame) (s : State) → From P L tl h s → f.env ≡ g → FrameIn (heap_of s) f → FlowOk g (heap_of s) w → Sound (k w f s)

    -- what runs typed statements soundly
    pub record LaterOk (later : Later) : Type 0 where
      pub runs : (g : Env) (xs : Sts) → TypedSts P g xs → InSts (standing P g) xs → (f : Frame) (s : State) (k : ToFlow) → Good P L tl s → f.env ≡ g
          → FrameIn (heap_of s) f → KF g (heap_of s) k → Sound (later xs f s k)

    abbrev V : Heap → Static → ToValue → Type 0
    V h t k = KV P L tl h t k

    string_call_sound : (m : StringMethod) (u : List ℕ) (vs : List Value) (s : State) (k : ToValue) → Good P L tl s
        → FitAll (heap_of s) vs (string_params m) → V (heap_of s) (a_value (string_result m)) k → Sound (string_call m u vs s k)
    string_call_sound LengthOf u vs s k ok fit_none h = here P L tl (Number (int_of (length u))) s k ok holds_number h
    string_call_sound CharAt u vs s k ok (fit_more {v = v} hv p fit_none) h =
        let n = number_held P (flows P tl.below_all (plain_type Int) hv p) refl in
        some_sound (number_of v) n.0 s _ (sym (number_converted v)
        ∙ n.1) (fault_sound fault.Bounds (option_and_then (λ n. slice_get u n) (natural_of n.0)) s _
        (λ c e. here P L tl (CodeUnit c) s k ok holds_unit h))
    string_call_sound Equals u vs s k ok (fit_more {v = v} hv p fit_none) h =
        go v (text_held P (subst (λ z. Holds P (heap_of s) z (a_value (plain_type Str))) (string_converted v)
        (flows P tl.below_all (plain_type Str) hv p)) refl)
      where
        go : (v : Value) → IsText P (heap_of s) v → Sound (string_call Equals u (v ∷ []) s k)
        go v text_null = here P L tl (Truth false) s k ok holds_truth h
        go v (text_there {a = a} {u = w} e) = some_sound (equals_value s.strings u (Text a)) (bytes_eq u w) s _
            (ap (λ z. option_map (λ y. bytes_eq u y) z) e) (here P L tl (Truth (bytes_eq u w)) s k ok holds_truth h)

    module _ (later : Later) (next : LaterOk later) where
      pub enter_sound : (b : Body) (sig : Signature) (v : Value) (vs : List Value) (s : State) (k : ToValue) → Good P L tl s → TypedBody P b sig
          → Holds P (heap_of s) v (a_value (class_type b.env.self)) → FitAll (heap_of s) vs sig.params
          → V (heap_of s) (or_nothing sig.result) k → Sound (enter L later b v vs s k)
      enter_sound b sig v vs s k ok tb hv fit h =
          let ws = arguments_held (subst (λ z. FitAll (heap_of s) vs z) (sym tb.params) fit) in
          some_sound (arguments b.params vs) ws.0 s _ ws.1 (look_all_sound P L tl b.env.body ws.0 s _ ok (λ s1 r.
          next.runs b.env b.code tb.typed tb.stands (record { env = b.env; self = v; locals = ws.0 ++ b.rest }) s1 _ r.ok refl
          (record { self = grown P r.grows hv; locals = frame (heap_of s1) ws.0 (all_grown r.grows ws.2) })
          (λ w f s2 r2 ef fi wo. h (given b w) s2 (from_on P L tl (heap_of s) s1 s2 r r2) (given_held (heap_of s2) b sig w tb wo))))
        where
          frame : (h : Heap) (ws : List Value) → HoldAll h ws b.params → HoldAll h (ws ++ b.rest) b.env.locals
          frame h ws p = subst (λ z. HoldAll h (ws ++ b.rest) z) (sym tb.locals)
              (subst (λ z. HoldAll h (ws ++ z) (sig.params ++ tb.rest)) (sym tb.defaults) (all_joined (subst (λ z. HoldAll h ws z) tb.params p)
              (all_defaults h tb.rest)))

      -- the value of a call is looked at, and goes on
      after_call : {t : Static} (b : ℕ) (d : Ex) (s : State) (k : ToValue) → V (heap_of s) t k → V (heap_of s) t (λ u s4. look L (held b d) u s4 (λ s5. k u s5))
      after_call b d s k h u s4 r4 hu =
          look_sound P L tl (held b d) u s4 _ r4.ok (λ s5 r5. h u s5 (from_on P L tl (heap_of s) s4 s5 r4 r5) (grown P r5.grows hu))

      earlier : {t : Static} (s s1 : State) (k : ToValue) → From P L tl (heap_of s) s1 → V (heap_of s) t k → V (heap_of s1) t k
      earlier s s1 k r h u s2 r2 hu = h u s2 (from_on P L tl (heap_of s) s1 s2 r r2) hu

      class_self : (h : Heap) (a : ℕ) (c : Cell) (d e : ℕ) → slice_get h.cells a ≡ Some c → c.kind ≡ an_object d → below P d e ≡ true
          → Holds P h (Object a) (a_value (class_type e))
      class_self h a c d e there kd bel = holds_object there refl (ap (λ z. is_subtype P (own_type z) (class_type e)) kd
          ∙ of_parts P (class_type d) (class_type e) refl bel)

      call_object_sound : (g : Env) (e d : Ex) (x : List ℕ) (a : ℕ) (c : Cell) (y j : ℕ) (sig : Signature) (vs : List Value) (s : State) (k : ToValue)
          → Good P L tl s → slice_get s.cells a ≡ Some c → c.kind ≡ an_object y
          → L.slot g e x ≡ Some j → HasBody P (L.body y j) y sig → FitAll (heap_of s) vs sig.params → V (heap_of s) (or_nothing sig.result) k
          → Sound (call_object L later g e d x a c vs s k)
      call_object_sound g e d x a c y j sig vs s k ok there kd slot b fit h =
          some_sound (own_class c.kind) y s _ (ap own_class kd)
          (step_sound P L tl s _ ok (λ s1 r1. some_sound (L.slot g e x) j s1 _ slot (some_sound (L.body y j) b.body s1 _ b.found_body
          (look_sound P L tl (ran g.body d b.body.env.body) (Object a) s1 _ r1.ok (λ s2 r2. look_sound P L tl (self_of b.body.env.body) (Object a) s2
          _ r2.ok (λ s3 r3.
          let all = from_on P L tl (heap_of s) s2 s3 (from_on P L tl (heap_of s) s1 s2 r1 r2) r3 in
          enter_sound b.body sig (Object a) vs s3 _ r3.ok b.typed (grown P all.grows (class_self (heap_of s) a c y b.body.env.self there kd b.above))
          (fit_grown all.grows fit)
          (after_call g.body d s3 k (earlier s s3 k all h))))))))

      call_cells : {t : Static} (g : Env) (e d : Ex) (x : List ℕ) (v : Value) (vs : List Value) (c : ℕ) (s : State) (k : ToValue)
          → Holds P (heap_of s) v t → class_of t ≡ Some c
          → Sound (with_cell v s (λ a o. call_object L later g e d x a o vs s k)) → Sound (call_on L later g e d x v vs s k)
      call_cells g e d x v vs c s k holds_number p h = absurd (cc)
      call_cells g e d x v vs c s k holds_truth p h = absurd (cc)
      call_cells g e d x v vs c s k holds_unit p h = absurd (cc)
      call_cells g e d x v vs c s k (holds_text y) p h = absurd (cc)
      call_cells g e d x v vs c s k (holds_null y) p h = h
      call_cells g e d x v vs c s k (holds_object there r sub) p h = h
      call_cells g e d x v vs c s k holds_nothing p h = absurd (cc)
      call_cells g e d x v vs c s k holds_any p h = absurd (cc)

      object_parts : (o : Option ℕ) (x : List ℕ) (sig : Signature) → object_signature P o x ≡ Some sig → (c : ℕ) × (o ≡ Some c)
          × ((j : ℕ) × (slot_of P c x ≡ Some j) × (signature_of_slot P j ≡ Some sig))
      object_parts None x sig e = absurd (cc)
      object_parts (Some c) x sig e = (c, refl, then_some (signature_of_slot P) (slot_of P c x) sig e)

      pub call_sound : (g : Env) (e d : Ex) (x : List ℕ) (v : Value) (vs : List Value) (sig : Signature) (s : State) (k : ToValue) → Good P L tl s
          → Holds P (heap_of s) v (static P g e) → call_signature P (static P g e) x ≡ Some sig
          → FitAll (heap_of s) vs sig.params → V (heap_of s) (or_nothing sig.result) k → Sound (call_on L later g e d x v vs s k)
      unfolding call_signature
      call_sound g e d x v vs sig s k ok hv p fit h = go (is_string (static P g e)) refl p
        where
          text : (v : Value) → IsText P (heap_of s) v → (m : StringMethod) → text_method (L.slot g e x) x ≡ Some m → signature_of_string m ≡ sig
              → Sound (call_on L later g e d x v vs s k)
          text v text_null m y z = sound_stop (Faulted fault.Null) s tt
          text v (text_there {a = a} {u = u} there) m y z =
              some_sound (slice_get s.strings a) u s _ there (some_sound (text_method (L.slot g e x) x) m s _ y
              (string_call_sound m u vs s k ok (subst (λ q. FitAll (heap_of s) vs q.params) (sym z) fit)
              (subst (λ q. V (heap_of s) (or_nothing q.result) k) (sym z) h)))

          go : (b : Bool) → is_string (static P g e) ≡ b
              → (if b then option_map signature_of_string (string_method x) else object_signature P (class_of (static P g e)) x) ≡ Some sig
              → Sound (call_on L later g e d x v vs s k)
          go true is_text q = let m = mapped_some signature_of_string (string_method x) sig q in text v (text_held P hv is_text) m.0
              (ap (λ z. text_method z x) (tl.no_slot g e x (string_class (static P g e) is_text)) ∙ m.1) m.2
          go false other q = let c = object_parts (class_of (static P g e)) x sig q in
              call_cells g e d x v vs c.0 s k hv c.1 (class_sound P L tl s c.0 _ ok hv c.1 (λ a o y at kd bel oo ho.
              call_object_sound g e d x a o y c.2.0 sig vs s k ok at kd (tl.slot g e x c.0 c.2.0 c.1 c.2.1)
              (tl.bodies y c.0 c.2.0 x sig oo.made bel c.2.1 c.2.2) fit h))

      pub call_static_sound : (g : Env) (d : Ex) (m : ℕ) (vs : List Value) (sig : Signature) (s : State) (k : ToValue) → Good P L tl s
          → has_body P m ≡ true → signature_of_method P m ≡ Some sig → FitAll (heap_of s) vs sig.params
          → V (heap_of s) (or_nothing sig.result) k → Sound (call_static L later g d m vs s k)
      call_static_sound g d m vs sig s k ok body p fit h =
          let b = tl.static_bodies m sig body p in
          step_sound P L tl s _ ok (λ s1 r1. some_sound (L.static_body m) b.body s1 _ b.found_body
          (enter_sound b.body sig Nothing vs s1 _ r1.ok b.typed (holds_null refl) (fit_grown r1.grows fit) (after_call g.body d s1 k (earlier s s1 k r1 h))))

      pub call_super_sound : (g : Env) (d : Ex) (m : ℕ) (x : List ℕ) (v : Value) (vs : List Value) (sig : Signature) (s : State) (k : ToValue)
          → Good P L tl s → Holds P (heap_of s) v (a_value (class_type g.self)) → super_method P g.self x ≡ Some m
          → has_body P m ≡ true → super_signature P g.self x ≡ Some sig → FitAll (heap_of s) vs sig.params → V (heap_of s) (or_nothing sig.result) k
          → Sound (call_super L later g d x v vs s k)
      unfolding super_signature
      call_super_sound g d m x v vs sig s k ok hv there body p fit h =
          let b = tl.super_bodies g.self m x sig there body (ap (option_and_then (signature_of_method P)) (sym there) ∙ p) in
          step_sound P L tl s _ ok (λ s1 r1. some_sound (L.super_body g.self x) b.body s1 _ b.found_body
          (look_sound P L tl (self_of b.body.env.body) v s1 _ r1.ok (λ s2 r2.
          let all = from_on P L tl (heap_of s) s1 s2 r1 r2 in
          enter_sound b.body sig v vs s2 _ r2.ok b.typed
          (grown P all.grows (sub_held P tl.below_all (class_type b.body.env.self) hv (of_parts P (class_type g.self) (class_type b.body.env.self)
          refl b.above))) (fit_grown all.grows fit)
          (after_call g.body d s2 k (earlier s s2 k all h)))))

      -- a constructor runs on a new object, and the creation gives the object
      construct_sound : (g : Env) (d : Ex) (c j : ℕ) (v : Value) (vs : List Value) (sig : Signature) (s : State) (k : ToValue) → Good P L tl s
          → HasBody P (L.body c j) c sig → Holds P (heap_of s) v (a_value (class_type c)) → FitAll (heap_of s) vs sig.params
          → V (heap_of s) (a_value (class_type c)) k → Sound (construct L later g d c j v vs s k)
      construct_sound g d c j v vs sig s k ok b hv fit h =
          some_sound (L.body c j) b.body s _ b.found_body (look_sound P L tl (ran g.body d b.body.env.body) v s _ ok (λ s1 r1.
          look_sound P L tl (self_of b.body.env.body) v s1 _ r1.ok (λ s2 r2.
          let all = from_on P L tl (heap_of s) s1 s2 r1 r2 in
          enter_sound b.body sig v vs s2 _ r2.ok b.typed
          (grown P all.grows (sub_held P tl.below_all (class_type b.body.env.self) hv (of_parts P (class_type c) (class_type b.body.env.self)
          refl b.above))) (fit_grown all.grows fit)
          (λ u s3 r3 hu. let whole = from_on P L tl (heap_of s) s2 s3 all r3 in h v s3 whole (grown P whole.grows hv)))))

      -- a creation of a class with a constructor
      pub make_sound : (g : Env) (d : Ex) (n c m : ℕ) (vs : List Value) (sig : Signature) (s : State) (k : ToValue) → Good P L tl s
          → is_concrete P c ≡ true → maker_of P c ≡ Some m → signature_of_method P m ≡ Some sig → FitAll (heap_of s) vs sig.params
          → V (heap_of s) (a_value (class_type c)) k → Sound (make_object L later g d n c vs s k)
      make_sound g d n c m vs sig s k ok made there p fit h =
          let b = tl.makers c m sig made there p in
          subst (λ z. Sound (made_by L later g d n c z vs s k)) (sym b.1)
          (step_sound P L tl s _ ok (λ s1 r1. step_sound P L tl s1 _ r1.ok (λ s2 r2. step_sound P L tl s2 _ r2.ok (λ s3 r3.
          new_object_sound P L tl g.body d n c s3 _ r3.ok made (λ v s4 r4 hv.
          let all = from_on P L tl (heap_of s) s3 s4 (from_on P L tl (heap_of s) s2 s3 (from_on P L tl (heap_of s) s1 s2 r1 r2) r3) r4 in
          construct_sound g d c b.0 v vs sig s4 k r4.ok b.2 hv (fit_grown all.grows fit) (earlier s s4 k all h))))))
