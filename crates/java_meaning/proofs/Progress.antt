-- No run of a typed language is Wrong: by recursion on the typing of its trees, and on the depth.
use Rattle.std.proofs.Common.{◌≡◌, ℕ, List, [], ◌∷◌, Option, Some, None, refl, sym, ap, ◌∙◌, subst}
use Rattle.std.specs.Prelude.{Bool, true, slice_get}
use Rattle.std.specs.Option.{is_some}
use Rattle.std.proofs.lemmas.Bool.{false≢true}
use Rattle.java_core.specs.declared.Ty.{Ty}
use Rattle.java_core.specs.Trees.{Ex, Exs, Target, St, Sts, IfArms, own_field, field, index, call, static_call, super_call, create, create_array, cast, instance_of, loop, no_st, st_then, this}
use Rattle.java_core.specs.Programs.{Plain}
use Rattle.std.specs.Option.{option_and_then}
use Rattle.std.proofs.lemmas.Option.{same_Some}
use Rattle.java_core.specs.Classes.{below, member_field}
use Rattle.java_core.specs.Types.{Env, Static, a_value, or_nothing, class_of, element_in, element_of, is_printable, fits, fits_in, field_in, field_type, result_of, static, target_type}
use Rattle.java_core.specs.Typing.{Typed, TypedArgs, TypedTarget, TypedTest, TypedSt, TypedSts, TypedArms}
use Rattle.java_core.specs.Typing.{t_number, t_character, t_text, t_truth, t_null, t_this, t_local, t_static_field, t_own_field, t_field, t_index, t_call, t_static_call, t_super_call, t_create, t_make, t_create_array, t_cast, t_instance_of, t_unary, t_binary, t_no_ex, t_ex_then, t_to_local, t_to_static, t_to_own, t_to_field, t_to_element, t_always, t_test, t_declare, t_declare_as, t_block, t_assign, t_act, t_print_line, t_print, t_choose, t_loop, t_return_nothing, t_return, t_break, t_continue, t_no_st, t_st_then, t_no_other, t_otherwise, t_arm}
use Rattle.java_meaning.specs.Moment.{Value, Number, Truth, CodeUnit, Nothing, bound, result_of as result_spot, State, Frame, Outcome, Lang}
use Rattle.java_meaning.specs.Values.{default_of, convert, number_of, text_of}
use Rattle.java_meaning.specs.Meaning.{Flow, Next, Broke, Continued, Gave, ToValue, ToFlow, Later, set_local, write_local, after_one, after_turn, value, values, run_test, run_print, run_initial, run_declare, run_return, run_assign, run_one, run_all, run_arms}
use Rattle.java_meaning.specs.TypedLang.{Stands, StandAll, StandsTarget, TypedLang, standing}
use Rattle.java_meaning.specs.EachStatement.{OfOption, InSt, InSts, InArms}
use Rattle.java_meaning.proofs.Holds.{Heap, heap_of, some_there, Holds, holds_number, holds_truth, holds_unit, holds_nothing, grown, number_held, truth_held, units_held, default_held, flows}
use Rattle.java_meaning.proofs.Sound.{Sound, some_sound, Good, From, from_same, from_on, KV, KS, give_string_sound, test_sound, step_sound, look_sound, class_sound, read_static_sound, write_static_sound, read_field_sound, write_field_sound}
use Rattle.java_meaning.proofs.Moves.{then_some, here, member_sound, element_sound, write_element_sound, make_object_sound, make_array_sound, unary_sound}
use Rattle.java_meaning.proofs.Operators.{after_left_sound, operate_sound, cast_sound, test_class_sound, related_class}
use Rattle.java_meaning.proofs.Calls.{FitAll, fit_none, fit_more, all_get, all_set, FrameIn, frame_grown, FlowOk, KF, LaterOk, call_sound, call_static_sound, call_super_sound, make_sound}

module _ (P : Plain) (g : Env) where
  -- the value of a print, of a declaration and of a return, where there is one
  data TypedPrint : Option Ex → Type 0 where
    print_nothing : TypedPrint None
    print_value : {e : Ex} → Typed P g e → is_printable (static P g e) ≡ true → TypedPrint (Some e)

  data TypedInitial (x : ℕ) : Option Ex → Type 0 where
    starts_nothing : TypedInitial x None
    starts_value : {e : Ex} → Typed P g e → fits_in P (static P g e) (or_nothing (slice_get g.locals x)) ≡ true → TypedInitial x (Some e)

  data TypedReturn : Option Ex → Type 0 where
    gives_nothing : g.result ≡ None → TypedReturn None
    gives_value : {e : Ex} {u : Ty} → Typed P g e → g.result ≡ Some u → fits P (static P g e) u ≡ true → TypedReturn (Some e)

  -- the class and the field of an access
  class_member : (e : Ex) (x : List ℕ) (f : ℕ) → field_in P (static P g e) x ≡ Some f → (c : ℕ) × (class_of (static P g e) ≡ Some c)
      × (member_field P c x ≡ Some f)
  unfolding field_in
  class_member e x f q = then_some (λ c. member_field P c x) (class_of (static P g e)) f q

module _ (P : Plain) (L : Lang) (tl : TypedLang P L) (later : Later) (next : LaterOk P L tl later) where
  abbrev Ok : State → Type 0
  Ok s = Good P L tl s

  abbrev V : Heap → Static → ToValue → Type 0
  V h t k = KV P L tl h t k

  abbrev F : Env → Heap → ToFlow → Type 0
  F g h k = KF P L tl g h k

  abbrev Goes : Heap → State → Type 0
  Goes h s = From P L tl h s

  abbrev onto : (s t u : State) → Goes (heap_of s) t → Goes (heap_of t) u → Goes (heap_of s) u
  onto s t u p q = from_on P L tl (heap_of s) t u p q

  -- continuations of a later state
  later_v : {t : Static} (s s1 : State) (k : ToValue) → Goes (heap_of s) s1 → V (heap_of s) t k → V (heap_of s1) t k
  later_v s s1 k r h u s2 r2 hu = h u s2 (onto s s1 s2 r r2) hu

  later_f : (g : Env) (s s1 : State) (k : ToFlow) → Goes (heap_of s) s1 → F g (heap_of s) k → F g (heap_of s1) k
  later_f g s s1 k r h w f s2 r2 e fi wo = h w f s2 (onto s s1 s2 r r2) e fi wo

  module _ (f : Frame) where
    mutual
      value_sound : {e : Ex} → Typed P f.env e → Stands P f.env e → (s : State) (k : ToValue) → Ok s → FrameIn P (heap_of s) f
          → V (heap_of s) (static P f.env e) k → Sound (value L later e f s k)
      value_sound (t_number {n = n}) p s k ok fi h = here P L tl (Number n) s k ok holds_number h
      value_sound (t_character {c = c}) p s k ok fi h = here P L tl (CodeUnit c) s k ok holds_unit h
      value_sound (t_text {u = u}) p s k ok fi h = give_string_sound P L tl u s k ok h
      value_sound (t_truth {b = b}) p s k ok fi h = here P L tl (Truth b) s k ok holds_truth h
      value_sound t_null p s k ok fi h = here P L tl Nothing s k ok holds_nothing h
      value_sound t_this p s k ok fi h = here P L tl f.self s k ok fi.self h
      value_sound (t_local {i = i}) p s k ok fi h =
          let t = some_there (slice_get f.env.locals i) p in let v = all_get P i t.0 fi.locals t.1 in
          some_sound (slice_get f.locals i) v.0 s _ v.1 (here P L tl v.0 s k ok v.2 (subst (λ z. V (heap_of s) (or_nothing z) k) t.1 h))
      value_sound (t_static_field {f = x}) p s k ok fi h =
          let t = some_there (field_type P x) p in read_static_sound P L tl x t.0 s k ok t.1 (subst (λ z. V (heap_of s) (or_nothing z) k) t.1 h)
      value_sound (t_own_field {t = t} {f = x}) p s k ok fi h =
          class_sound P L tl s f.env.self _ ok fi.self refl (λ a o y at kd bel oo ho.
          let i = some_there (L.index y x) (tl.members y f.env.self p.0 x oo.made bel p.1) in let u = tl.fresh y x i.0 i.1 in
          read_field_sound P L tl f.env.body (this t) (own_field t x) (Some x) a o y x i.0 u.0 s k ok kd oo refl i.1 u.1
          (subst (λ z. V (heap_of s) (or_nothing z) k) u.1 h))
      value_sound (t_field {t = t} {e = e} {x = x} q m) p s k ok fi h =
          value_sound q p s _ ok fi (λ v s1 r hv. member_sound P L tl f.env e (field t e x) x v s1 k r.ok hv m (later_v s s1 k r h))
      value_sound (t_index {t = t} {e = e} {i = i} q m qi n) p s k ok fi h =
          value_sound q p.0 s _ ok fi (λ v s1 r hv. value_sound qi p.1 s1 _ r.ok (frame_grown P r.grows fi) (λ w s2 r2 hw.
          let z = number_held P hw n in let u = some_there (element_of (static P f.env e)) m in let all = onto s s1 s2 r r2 in
          some_sound (number_of w) z.0 s2 _ z.1 (element_sound P L tl f.env.body (index t e i) v z.0 u.0 s2 k r2.ok (grown P r2.grows hv) u.1
          (later_v s s2 k all (subst (λ z. V (heap_of s) (or_nothing z) k) u.1 h)))))
      value_sound (t_call {t = t} {e = e} {x = x} {es = es} {s = sig} q m qs) p s k ok fi h =
          value_sound q p.0 s _ ok fi (λ v s1 r hv. values_sound qs p.1 s1 _ r.ok (frame_grown P r.grows fi) (λ vs s2 r2 hvs. let all = onto s s1 s2 r r2 in
          call_sound P L tl later next f.env e (call t e x es) x v vs sig s2 k r2.ok (grown P r2.grows hv) m hvs
          (later_v s s2 k all (subst (λ z. V (heap_of s) (result_of z) k) m h))))
      value_sound (t_static_call {t = t} {m = m} {es = es} {s = sig} q qs) p s k ok fi h =
          values_sound qs p.1 s _ ok fi (λ vs s1 r hvs. call_static_sound P L tl later next f.env (static_call t m es) m vs sig s1 k r.ok p.0 q hvs
          (later_v s s1 k r (subst (λ z. V (heap_of s) (result_of z) k) q h)))
      value_sound (t_super_call {t = t} {x = x} {es = es} {m = m} {s = sig} there body q qs) p s k ok fi h =
          values_sound qs p s _ ok fi (λ vs s1 r hvs. call_super_sound P L tl later next f.env (super_call t x es) m x f.self vs sig s1 k r.ok
          (grown P r.grows fi.self) there body q hvs
          (later_v s s1 k r (subst (λ z. V (heap_of s) (result_of z) k) q h)))
      value_sound (t_create {t = t} {n = n} {c = c} q none) p s k ok fi h = make_object_sound P L tl later f.env (create t n c _) n c s k ok q none h
      value_sound (t_make {t = t} {n = n} {c = c} {m = m} {es = es} {s = sig} q there y qs) p s k ok fi h =
          values_sound qs p s _ ok fi (λ vs s1 r hvs. make_sound P L tl later next f.env (create t n c es) n c m vs sig s1 k r.ok q there y hvs
          (later_v s s1 k r h))
      value_sound (t_create_array {t = t} {n = n} {u = u} {e = e} q m) p s k ok fi h =
          value_sound q p.1 s _ ok fi (λ v s1 r hv. let z = number_held P hv m in let y = some_there (element_in u.base u.dim) p.0 in
          some_sound (number_of v) z.0 s1 _ z.1 (make_array_sound P L tl f.env (create_array t n u e) n u y.0 z.0 s1 k r.ok y.1 (later_v s s1 k r h)))
      value_sound (t_cast {t = t} {n = n} {u = u} {e = e} q m) p s k ok fi h =
          value_sound q p s _ ok fi (λ v s1 r hv. cast_sound P L tl f.env.body (cast t n u e) u v s1 k r.ok hv m (later_v s s1 k r h))
      value_sound (t_instance_of {t = t} {n = n} {c = c} {e = e} q m) p s k ok fi h =
          value_sound q p s _ ok fi (λ v s1 r hv. let d = related_class P L tl (static P f.env e) (Some c) m in
          test_class_sound P L tl f.env.body d.0 (instance_of t n e c) c v s1 k r.ok hv d.1 (later_v s s1 k r h))
      value_sound (t_unary {o = o} q m) p s k ok fi h = value_sound q p s _ ok fi (λ v s1 r hv. unary_sound P L tl o v s1 k r.ok hv m (later_v s s1 k r h))
      value_sound (t_binary {o = o} {e = e} {d = d} q qd m) p s k ok fi h =
          value_sound q p.0 s _ ok fi (λ v s1 r hv. after_left_sound P L tl (static P f.env d) o v s1 _ k r.ok hv m
          (λ s2 r2. value_sound qd p.1 s2 _ r2.ok (frame_grown P (onto s s1 s2 r r2).grows fi) (λ w s3 r3 hw. let all = onto s s2 s3 (onto s s1 s2 r r2) r3 in
          operate_sound P L tl o v w s3 k r3.ok (grown P (onto s1 s2 s3 r2 r3).grows hv) hw m (later_v s s3 k all h)))
          (later_v s s1 k r h))

      values_sound : {es : Exs} {ts : List Ty} → TypedArgs P f.env es ts → StandAll P f.env es → (s : State) (k : List Value → State → Outcome) → Ok s
          → FrameIn P (heap_of s) f
          → ((vs : List Value) (s1 : State) → Goes (heap_of s) s1 → FitAll P (heap_of s1) vs ts → Sound (k vs s1)) → Sound (values L later es f s k)
      values_sound t_no_ex p s k ok fi h = h [] s (from_same P L tl s ok) fit_none
      values_sound (t_ex_then q m qs) p s k ok fi h =
          value_sound q p.0 s _ ok fi (λ v s1 r hv. values_sound qs p.1 s1 _ r.ok (frame_grown P r.grows fi)
          (λ vs s2 r2 hvs. h (v ∷ vs) s2 (onto s s1 s2 r r2) (fit_more (grown P r2.grows hv) m hvs)))

  -- in a frame of a body
  value_at : {g : Env} {e : Ex} → Typed P g e → Stands P g e → (f : Frame) (s : State) (k : ToValue) → Ok s → f.env ≡ g → FrameIn P (heap_of s) f
      → V (heap_of s) (static P g e) k → Sound (value L later e f s k)
  value_at {e = e} q p f s k ok ef fi h =
      subst (λ z. Typed P z e → Stands P z e → V (heap_of s) (static P z e) k → Sound (value L later e f s k)) ef (λ q p h. value_sound f q p s k ok fi h) q p h

  -- a local is set, and what is given back
  local_sound : (g : Env) (x : ℕ) (t : Ty) (v : Value) (f : Frame) (s : State) (k : ToFlow) → Ok s → f.env ≡ g → FrameIn P (heap_of s) f
      → slice_get g.locals x ≡ Some t → Holds P (heap_of s) (convert t v) (a_value t) → F g (heap_of s) k → Sound (write_local L x v f s k)
  local_sound g x t v f s k ok ef fi e hv h =
      let there = ap (λ z. slice_get z.locals x) ef ∙ e in let old = all_get P x t fi.locals there in
      some_sound (slice_get f.env.locals x) t s _ there (some_sound (slice_get f.locals x) old.0 s _ old.1
      (look_sound P L tl (bound f.env.body x) (convert t v) s _ ok (λ s1 r.
      h Next (set_local f x (convert t v)) s1 r ef
      (record {
        self = grown P r.grows fi.self;
        locals = all_set P x t (convert t v) (frame_grown P r.grows fi).locals there
            (grown P r.grows hv);
      }) tt)))

  -- what is assigned fits
  fits_some : (s : Static) (o : Option Ty) → fits_in P s (or_nothing o) ≡ true → (t : Ty) × (o ≡ Some t) × (fits P s t ≡ true)
  fits_some s None p = absurd (false≢true p)
  fits_some s (Some t) p = (t, refl, p)

  test_of : (g : Env) {e : Option Ex} (f : Frame) (s : State) (x y : State → Outcome) → TypedTest P g e → OfOption (Stands P g) e → Ok s → f.env ≡ g
      → FrameIn P (heap_of s) f
      → ((s1 : State) → Goes (heap_of s) s1 → Sound (x s1)) → ((s1 : State) → Goes (heap_of s) s1 → Sound (y s1)) → Sound (run_test L later e f s x y)
  test_of g f s x y t_always p ok ef fi h d = h s (from_same P L tl s ok)
  test_of g f s x y (t_test q m) p ok ef fi h d =
      value_at q p f s _ ok ef fi (λ v s1 r hv. let b = truth_held P hv m in test_sound P L tl v b.0 s1 x y b.1 (h s1 r) (d s1 r))

  print_sound : (g : Env) (newline : Bool) {e : Option Ex} (f : Frame) (s : State) (k : State → Outcome) → TypedPrint P g e → OfOption (Stands P g) e → Ok s
      → f.env ≡ g → FrameIn P (heap_of s) f → KS P L tl (heap_of s) k → Sound (run_print L later newline e f s k)
  print_sound g newline f s k print_nothing p ok ef fi h = h _ (record { grows = (from_same P L tl s ok).grows; ok = ok })
  print_sound g newline f s k (print_value q m) p ok ef fi h =
      value_at q p f s _ ok ef fi (λ v s1 r hv. let u = units_held P hv m in some_sound (text_of s1.strings v) u.0 s1 _ u.1
      (h _ (record { grows = r.grows; ok = r.ok })))

  declare_sound : (g : Env) (x : ℕ) {e : Option Ex} (f : Frame) (s : State) (k : ToFlow) → TypedInitial P g x e
      → (is_some (slice_get g.locals x) ≡ true) × OfOption (Stands P g) e → Ok s → f.env ≡ g → FrameIn P (heap_of s) f → F g (heap_of s) k
      → Sound (run_declare L later x e f s k)
  declare_sound g x f s k i p ok ef fi h =
      some_sound (slice_get f.env.locals x) t.0 s _ there (some_sound (slice_get f.locals x) old.0 s _ old.1 (go i p.1))
    where
      t : (t : Ty) × (slice_get g.locals x ≡ Some t)
      t = some_there (slice_get g.locals x) p.0

      there : slice_get f.env.locals x ≡ Some t.0
      there = ap (λ z. slice_get z.locals x) ef ∙ t.1

      old : (v : Value) × (slice_get f.locals x ≡ Some v) × Holds P (heap_of s) v (a_value t.0)
      old = all_get P x t.0 fi.locals there

      fresh : FrameIn P (heap_of s) (set_local f x (default_of t.0))
      fresh = record { self = fi.self; locals = all_set P x t.0 (default_of t.0) fi.locals there (default_held P (heap_of s) t.0) }

      go : {e : Option Ex} → TypedInitial P g x e → OfOption (Stands P g) e → Sound (run_initial L later x e (set_local f x (default_of t.0)) s k)
      go starts_nothing p = h Next (set_local f x (default_of t.0)) s (from_same P L tl s ok) ef fresh tt
      go (starts_value {e = e} q m) p = let u = fits_some (static P g e) (slice_get g.locals x) m in
          value_at q p (set_local f x (default_of t.0)) s _ ok ef fresh (λ v s1 r hv.
          local_sound g x u.0 v (set_local f x (default_of t.0)) s1 k r.ok ef (frame_grown P r.grows fresh) u.1 (flows P tl.below_all u.0 hv u.2)
          (later_f g s s1 k r h))

  return_sound : (g : Env) {e : Option Ex} (f : Frame) (s : State) (k : ToFlow) → TypedReturn P g e → OfOption (Stands P g) e → Ok s → f.env ≡ g
      → FrameIn P (heap_of s) f → F g (heap_of s) k → Sound (run_return L later e f s k)
  return_sound g f s k (gives_nothing n) p ok ef fi h = h (Gave Nothing) f s (from_same P L tl s ok) ef fi (λ t e. absurd (none (sym n ∙ e)))
    where
      none : {t : Ty} → None ≡ Some t → ⊥
      none e = cc
  return_sound g f s k (gives_value {u = u} q m n) p ok ef fi h =
      value_at q p f s _ ok ef fi (λ v s1 r hv. some_sound f.env.result u s1 _ (ap (λ z. z.result) ef ∙ m) (look_sound P L tl (result_spot f.env.body)
      (convert u v) s1 _ r.ok (λ s2 r2.
      let all = onto s s1 s2 r r2 in
      h (Gave (convert u v)) f s2 all ef (frame_grown P all.grows fi) (λ t e. subst (λ z. Holds P (heap_of s2) (convert u v) (a_value z))
      (same_Some _ _ (sym m ∙ e)) (grown P r2.grows (flows P tl.below_all u hv n))))))

  -- assignments
  kept_frame : (g : Env) (f : Frame) (s s1 : State) (k : ToFlow) → Goes (heap_of s) s1 → f.env ≡ g → FrameIn P (heap_of s) f → F g (heap_of s) k
      → KS P L tl (heap_of s1) (λ s2. k Next f s2)
  kept_frame g f s s1 k r ef fi h s2 r2 = let all = onto s s1 s2 r r2 in h Next f s2 all ef (frame_grown P all.grows fi) tt

  assign_sound : (g : Env) {b : Target} {d : Ex} (f : Frame) (s : State) (k : ToFlow) → TypedTarget P g b → Typed P g d
      → fits_in P (static P g d) (target_type P g b) ≡ true → StandsTarget P g b → Stands P g d → Ok s → f.env ≡ g
      → FrameIn P (heap_of s) f → F g (heap_of s) k → Sound (run_assign L later b d f s k)
  assign_sound g {d = d} f s k (t_to_local {i = x}) q m p y ok ef fi h =
      let u = fits_some (static P g d) (slice_get g.locals x) m in
      value_at q y f s _ ok ef fi (λ v s1 r hv. local_sound g x u.0 v f s1 k r.ok ef (frame_grown P r.grows fi) u.1 (flows P tl.below_all u.0 hv u.2)
      (later_f g s s1 k r h))
  assign_sound g {d = d} f s k (t_to_static {f = x}) q m p y ok ef fi h =
      let u = fits_some (static P g d) (field_type P x) m in
      value_at q y f s _ ok ef fi (λ v s1 r hv. write_static_sound P L tl x u.0 v s1 _ r.ok u.1 (flows P tl.below_all u.0 hv u.2)
      (kept_frame g f s s1 k r ef fi h))
  assign_sound g {d = d} f s k (t_to_own {t = t} {f = x}) q m p y ok ef fi h =
      let u = fits_some (static P g d) (field_type P x) m in
      value_at q y f s _ ok ef fi (λ v s1 r hv. class_sound P L tl s1 f.env.self _ r.ok (grown P r.grows fi.self) refl (λ a o c at kd bel oo ho.
      let i = some_there (L.index c x) (tl.members c g.self p.0 x oo.made (subst (λ z. below P c z.self ≡ true) ef bel) p.1) in
      write_field_sound P L tl f.env.body (this t) (Some x) v a o c x i.0 u.0 s1 _ r.ok at kd oo refl i.1 u.1 (flows P tl.below_all u.0 hv u.2)
      (kept_frame g f s s1 k r ef fi h)))
  assign_sound g {d = d} f s k (t_to_field {e = e} {x = x} qe n) q m p y ok ef fi h =
      let u = fits_some (static P g d) (option_and_then (field_type P) (field_in P (static P g e) x)) m in
      let z = then_some (field_type P) (field_in P (static P g e) x) u.0 u.1 in
      let c = class_member P g e x z.0 z.1 in
      value_at qe p f s _ ok ef fi (λ v s1 r hv. value_at q y f s1 _ r.ok ef (frame_grown P r.grows fi) (λ w s2 r2 hw. let all = onto s s1 s2 r r2 in
      class_sound P L tl s2 c.0 _ r2.ok (grown P r2.grows hv) c.1 (λ a o b at kd bel oo ho.
      let i = some_there (L.index b z.0) (tl.members b c.0 x z.0 oo.made bel c.2) in
      write_field_sound P L tl f.env.body e (L.field f.env e x) w a o b z.0 i.0 u.0 s2 _ r2.ok at kd oo (tl.field f.env e x
      ∙ (ap (λ q. field_in P (static P q e) x) ef ∙ z.1)) i.1 z.2
      (flows P tl.below_all u.0 hw u.2) (kept_frame g f s s2 k all ef fi h))))
  assign_sound g {d = d} f s k (t_to_element {e = e} {i = i} qe n qi l) q m p y ok ef fi h =
      let u = fits_some (static P g d) (element_of (static P g e)) m in
      value_at qe p.0 f s _ ok ef fi (λ v s1 r hv. value_at qi p.1 f s1 _ r.ok ef (frame_grown P r.grows fi) (λ w s2 r2 hw.
      value_at q y f s2 _ r2.ok ef (frame_grown P (onto s s1 s2 r r2).grows fi) (λ x s3 r3 hx. let all = onto s s2 s3 (onto s s1 s2 r r2) r3 in
      let z = number_held P hw l in
      some_sound (number_of w) z.0 s3 _ z.1 (write_element_sound P L tl v z.0 x u.0 s3 _ r3.ok (grown P (onto s1 s2 s3 r2 r3).grows hv) u.1 hx u.2
      (kept_frame g f s s3 k all ef fi h)))))

  -- after one of several statements, and after the body of a loop
  next_sound : (g : Env) (w : Flow) (f : Frame) (s : State) (k : ToFlow) (on : Frame → State → Outcome) → Ok s → f.env ≡ g → FrameIn P (heap_of s) f
      → FlowOk P g (heap_of s) w → F g (heap_of s) k → Sound (on f s) → Sound (after_one w f s on k)
  next_sound g Next f s k on ok ef fi wo h d = d
  next_sound g Broke f s k on ok ef fi wo h d = h Broke f s (from_same P L tl s ok) ef fi wo
  next_sound g Continued f s k on ok ef fi wo h d = h Continued f s (from_same P L tl s ok) ef fi wo
  next_sound g (Gave v) f s k on ok ef fi wo h d = h (Gave v) f s (from_same P L tl s ok) ef fi wo

  turn_sound : (g : Env) (w : Flow) (f : Frame) (s : State) (k : ToFlow) (on : Frame → State → Outcome) → Ok s → f.env ≡ g → FrameIn P (heap_of s) f
      → FlowOk P g (heap_of s) w → F g (heap_of s) k → Sound (on f s) → Sound (after_turn w f s on k)
  turn_sound g Next f s k on ok ef fi wo h d = d
  turn_sound g Continued f s k on ok ef fi wo h d = d
  turn_sound g Broke f s k on ok ef fi wo h d = h Next f s (from_same P L tl s ok) ef fi tt
  turn_sound g (Gave v) f s k on ok ef fi wo h d = h (Gave v) f s (from_same P L tl s ok) ef fi wo

  module _ (g : Env) where
    mutual
      one_sound : {x : St} → TypedSt P g x → InSt (standing P g) x → (f : Frame) (s : State) (k : ToFlow) → Ok s → f.env ≡ g → FrameIn P (heap_of s) f
          → F g (heap_of s) k → Sound (run_one L later x f s k)
      one_sound (t_declare {i = x}) p f s k ok ef fi h = declare_sound g x f s k starts_nothing p ok ef fi h
      one_sound (t_declare_as {i = x} q m) p f s k ok ef fi h = declare_sound g x f s k (starts_value q m) p ok ef fi h
      one_sound (t_block q) p f s k ok ef fi h = all_sound q p f s k ok ef fi h
      one_sound (t_assign b q m) p f s k ok ef fi h = assign_sound g f s k b q m p.0 p.1 ok ef fi h
      one_sound (t_act q) p f s k ok ef fi h = value_at q p f s _ ok ef fi (λ v s1 r hv. h Next f s1 r ef (frame_grown P r.grows fi) tt)
      one_sound (t_print_line {n = n}) p f s k ok ef fi h =
          print_sound g n f s _ print_nothing p ok ef fi (kept_frame g f s s k (from_same P L tl s ok) ef fi h)
      one_sound (t_print {n = n} q m) p f s k ok ef fi h =
          print_sound g n f s _ (print_value q m) p ok ef fi (kept_frame g f s s k (from_same P L tl s ok) ef fi h)
      one_sound (t_choose q) p f s k ok ef fi h = arms_sound q p f s k ok ef fi h
      one_sound (t_loop {t = t} {is_while = is_while} {step = last} {body = body} {test = test} q qt ql qb) p f s k ok ef fi h =
          all_sound q p.0 f s _ ok ef fi (λ w1 f1 s1 r1 e1 i1 o1. let h1 = later_f g s s1 k r1 h in next_sound g w1 f1 s1 k _ r1.ok e1 i1 o1 h1
          (test_of g f1 s1 _ _ qt p.1 r1.ok e1 i1
          (λ s3 r3. step_sound P L tl s3 _ r3.ok (λ s4 r4. let to4 = onto s1 s3 s4 r3 r4 in let h4 = later_f g s1 s4 k to4 h1 in
          all_sound qb p.3 f1 s4 _ r4.ok e1 (frame_grown P to4.grows i1) (λ w3 f3 s5 r5 e3 i3 o3. let h5 = later_f g s4 s5 k r5 h4 in turn_sound g w3
          f3 s5 k _ r5.ok e3 i3 o3 h5
          (all_sound ql p.2 f3 s5 _ r5.ok e3 i3 (λ w5 f5 s7 r7 e5 i5 o5. let h7 = later_f g s5 s7 k r7 h5 in next_sound g w5 f5 s7 k _ r7.ok e5 i5 o5 h7
          (next.runs g (st_then (loop t is_while no_st test last body) no_st) (t_st_then (t_loop t_no_st qt ql qb) t_no_st) ((tt, p.1, p.2, p.3), tt)
          f5 s7 k r7.ok e5 i5 h7))))))
          (λ s3 r3. let to3 = onto s s1 s3 r1 r3 in h Next f1 s3 to3 e1 (frame_grown P r3.grows i1) tt)))
      one_sound (t_return_nothing n) p f s k ok ef fi h = return_sound g f s k (gives_nothing n) p ok ef fi h
      one_sound (t_return q m n) p f s k ok ef fi h = return_sound g f s k (gives_value q m n) p ok ef fi h
      one_sound t_break p f s k ok ef fi h = h Broke f s (from_same P L tl s ok) ef fi tt
      one_sound t_continue p f s k ok ef fi h = h Continued f s (from_same P L tl s ok) ef fi tt

      all_sound : {xs : Sts} → TypedSts P g xs → InSts (standing P g) xs → (f : Frame) (s : State) (k : ToFlow) → Ok s → f.env ≡ g → FrameIn P (heap_of s) f
          → F g (heap_of s) k → Sound (run_all L later xs f s k)
      all_sound t_no_st p f s k ok ef fi h = h Next f s (from_same P L tl s ok) ef fi tt
      all_sound (t_st_then q qs) p f s k ok ef fi h =
          one_sound q p.0 f s _ ok ef fi (λ w f1 s1 r e1 i1 wo. let h1 = later_f g s s1 k r h in next_sound g w f1 s1 k _ r.ok e1 i1 wo h1
          (all_sound qs p.1 f1 s1 k r.ok e1 i1 h1))

      arms_sound : {xs : IfArms} → TypedArms P g xs → InArms (standing P g) xs → (f : Frame) (s : State) (k : ToFlow) → Ok s → f.env ≡ g
          → FrameIn P (heap_of s) f → F g (heap_of s) k → Sound (run_arms L later xs f s k)
      arms_sound t_no_other p f s k ok ef fi h = h Next f s (from_same P L tl s ok) ef fi tt
      arms_sound (t_otherwise q) p f s k ok ef fi h = all_sound q p f s k ok ef fi h
      arms_sound (t_arm q m qs more) p f s k ok ef fi h =
          value_at q p.0 f s _ ok ef fi (λ v s1 r hv. let b = truth_held P hv m in let h1 = later_f g s s1 k r h in let fi1 = frame_grown P r.grows fi in
          test_sound P L tl v b.0 s1 _ _ b.1 (all_sound qs p.1 f s1 k r.ok ef fi1 h1) (arms_sound more p.2 f s1 k r.ok ef fi1 h1))

  pub statements_sound : {g : Env} {xs : Sts} → TypedSts P g xs → InSts (standing P g) xs → (f : Frame) (s : State) (k : ToFlow) → Ok s → f.env ≡ g
      → FrameIn P (heap_of s) f → F g (heap_of s) k → Sound (run_all L later xs f s k)
  statements_sound {g = g} q p f s k ok ef fi h = all_sound g q p f s k ok ef fi h
