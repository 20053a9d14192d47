-- A method that makes an object, in a language that nothing watches: the steps that it takes, one by one.
use Rattle.std.proofs.Common.{◌≡◌, ℕ, zero, suc, List, [], ◌∷◌, ◌++◌, Some, None, length, refl, sym, ap, subst}
use Rattle.std.specs.Prelude.{true, slice_get, slice_set}
use Rattle.java_core.specs.declared.Ty.{Ty}
use Rattle.java_core.specs.Trees.{Tag, Ex, Exs, no_ex, local, call, create, Sts, declare, act, return, st_then, no_st}
use Rattle.java_core.specs.Types.{Env}
use Rattle.java_meaning.specs.Moment.{Value, Nothing, Object, an_object, Cell, held, bound, result_of, Spot, Met, State, Frame, Going, Escaped, Outcome, stop, Body, Lang, step, step_of, with_some, on_bool, look, look_all}
use Rattle.java_meaning.specs.Values.{default_of, convert, arguments}
use Rattle.java_meaning.specs.Meaning.{Gave, ToValue, ToFlow, Later, add_cell, given, call_object, call_static, new_object, made_by, write_local, after_one, values, run_all}
use Rattle.java_meaning.proofs.Sound.{get_last}
use Rattle.rebuild_model.specs.Makes.{AreLocalsFrom, none_passed, one_passed}
use Rattle.rebuild_laws.proofs.twins.States.{Alike, second_some}

set_last : (vs : List Value) (v w : Value) → slice_set (vs ++ v ∷ []) (length vs) w ≡ vs ++ w ∷ []
set_last [] v w = refl
set_last (u ∷ vs) v w = ap (λ z. u ∷ z) (set_last vs v w)

-- the values stand in a list, one after the other, from a place on
abbrev StandFrom : ℕ → List Value → List Value → Type 0
StandFrom i [] ls = Unit {0}
StandFrom i (w ∷ ws) ls = (slice_get ls i ≡ Some w) × StandFrom (suc i) ws ls

stand_on : (i : ℕ) (ws ls : List Value) (v : Value) → StandFrom i ws ls → StandFrom (suc i) ws (v ∷ ls)
stand_on i [] ls v h = tt
stand_on i (w ∷ ws) ls v h = (h.0, stand_on (suc i) ws ls v h.1)

stand_first : (ws rest : List Value) → StandFrom 0 ws (ws ++ rest)
stand_first [] rest = tt
stand_first (w ∷ ws) rest = (refl, stand_on 0 ws (ws ++ rest) w (stand_first ws rest))

pub second_spent : (q : Outcome) (t : State) (j : State → Outcome) → t.left ≡ 0 → Alike q (stop Going t) → Alike q (step t j)
second_spent q t j e h = subst (λ z. Alike q (step_of z t j)) (sym e) h

second_step : (q : Outcome) (l : ℕ) (t : State) (j : State → Outcome) → t.left ≡ suc l → Alike q (j (record t { left = l })) → Alike q (step t j)
second_step q l t j e h = subst (λ z. Alike q (step_of z t j)) (sym e) h

module _ (M : Lang) (passes : (p : Spot) (v : Value) (h : List Cell) → M.sees p v h ≡ true)
    (passes_all : (b : ℕ) (vs : List Value) (h : List Cell) → M.sees_all b vs h ≡ true) (q : Outcome) where
  pub second_look : (p : Spot) (v : Value) (t : State) (j : State → Outcome) → ((m : List Met) → Alike q (j (record t { met = m })))
      → Alike q (look M p v t j)
  second_look p v t j h = subst (λ z. Alike q (on_bool z (record t { met = M.note p v t.cells t.met }) j (stop Escaped))) (sym (passes p v t.cells))
      (h (M.note p v t.cells t.met))

  second_look_all : (b : ℕ) (vs : List Value) (t : State) (j : State → Outcome) → ((m : List Met) → Alike q (j (record t { met = m })))
      → Alike q (look_all M b vs t j)
  second_look_all b vs t j h =
      subst (λ z. Alike q (on_bool z (record t { met = M.note_all b vs t.cells t.met }) j (stop Escaped))) (sym (passes_all b vs t.cells))
      (h (M.note_all b vs t.cells t.met))

  module _ (next : Later) where
    values_passed : {i n : ℕ} {es : Exs} → AreLocalsFrom i n es → (ws : List Value) → length ws ≡ n → (f : Frame) (t : State)
        (k : List Value → State → Outcome)
        → StandFrom i ws f.locals → Alike q (k ws t) → Alike q (values M next es f t k)
    values_passed none_passed [] e f t k at h = h
    values_passed none_passed (w ∷ ws) e f t k at h = absurd (cc)
    values_passed (one_passed p) [] e f t k at h = absurd (cc)
    values_passed (one_passed {i = i} {n = n} p) (w ∷ ws) e f t k at h =
        second_some (slice_get f.locals i) w t q _ at.0
        (values_passed p ws (let d : suc (length ws) ≡ suc n = e in cc) f t (λ vs s. k (w ∷ vs) s) at.1 h)

    module _ (g : Env) (us : List Value) (kk : ToFlow) where
      -- its frame, by what its one local holds
      abbrev pub made_frame : Value → Frame
      made_frame v = record { env = g; self = Nothing; locals = us ++ v ∷ [] }

      -- at last it gives the object back
      abbrev pub giving : Tag → Tag → Sts
      giving a b = st_then (return a (Some (local b (length us)))) no_st

      pub gives_back : (a b : Tag) (v : Value) (t : State) (ty : Ty) → g.result ≡ Some ty
          → ((m : List Met) → Alike q (kk (Gave (convert ty v)) (made_frame v) (record t { met = m })))
          → Alike q (run_all M next (giving a b) (made_frame v) t kk)
      gives_back a b v t ty e h = second_some (slice_get (us ++ v ∷ []) (length us)) v t q _ (get_last us v)
          (second_some g.result ty t q _ e (second_look (result_of g.body) (convert ty v) t _ h))

      -- before, it calls a method on it
      abbrev pub receiver : Tag → Ex
      receiver e = local e (length us)

      abbrev pub calling : Tag → Tag → Tag → List ℕ → Exs → Tag → Tag → Sts
      calling c d e x es a b = st_then (act c (call d (receiver e) x es)) (giving a b)

      pub calls : (c d e : Tag) (x : List ℕ) (es : Exs) (a b : Tag) (at : ℕ) (y : Cell) (t : State) → AreLocalsFrom zero (length us) es
          → slice_get t.cells at ≡ Some y
          → Alike q (call_object M next g (receiver e) (call d (receiver e) x es) x at y us t
          (λ u s. run_all M next (giving a b) (made_frame (Object at)) s kk))
          → Alike q (run_all M next (calling c d e x es a b) (made_frame (Object at)) t kk)
      calls c d e x es a b at y t p there h = second_some (slice_get (us ++ Object at ∷ []) (length us)) (Object at) t q _ (get_last us (Object at))
          (values_passed p us refl (made_frame (Object at)) t _ (stand_first us (Object at ∷ [])) (second_some (slice_get t.cells at) y t q _ there h))

      -- and first it creates the object
      abbrev pub creating : Tag → Tag → ℕ → ℕ → Sts → Sts
      creating a b j k xs = st_then (declare a (length us) (Some (create b j k no_ex))) xs

      module _ (a b : Tag) (j k : ℕ) (xs : Sts) (first : Value) (ty : Ty) (is : slice_get g.locals (length us) ≡ Some ty) (bare : M.maker k ≡ None) where
        abbrev new : Cell
        new = record { site = Some j; kind = an_object k; values = M.fresh k }

        abbrev cleared : Frame
        cleared = record { env = g; self = Nothing; locals = slice_set (us ++ first ∷ []) (length us) (default_of ty) }

        abbrev kept : ToValue
        kept v s = write_local M (length us) v cleared s (λ w f s1. after_one w f s1 (λ f2 s2. run_all M next xs f2 s2 kk) kk)

        begins : (t : State) → Alike q (step t (λ t1. new_object M g.body (create b j k no_ex) j k t1 kept))
            → Alike q (run_all M next (creating a b j k xs) (made_frame first) t kk)
        begins t h = second_some (slice_get g.locals (length us)) ty t q _ is
            (second_some (slice_get (us ++ first ∷ []) (length us)) first t q _ (get_last us first)
            (subst (λ z. Alike q (made_by M next g (create b j k no_ex) j k z [] t kept)) (sym bare) h))

        pub created_not : (t : State) → t.left ≡ 0 → Alike q (stop Going t) → Alike q (run_all M next (creating a b j k xs) (made_frame first) t kk)
        created_not t e h = begins t (second_spent q t _ e h)

        keeps : (at : ℕ) (t : State) → ((m : List Met) → Alike q (run_all M next xs (made_frame (Object at)) (record t { met = m }) kk))
            → Alike q (kept (Object at) t)
        keeps at t h = second_some (slice_get g.locals (length us)) ty t q _ is
            (subst (λ z. Alike q (with_some (slice_get z (length us)) t (λ old. look M (bound g.body (length us)) (Object at) t (λ s.
            run_all M next xs (record { env = g; self = Nothing; locals = slice_set z (length us) (Object at) }) s kk))))
            (sym (set_last us first (default_of ty)))
            (second_some (slice_get (us ++ default_of ty ∷ []) (length us)) (default_of ty) t q _ (get_last us (default_of ty))
            (second_look (bound g.body (length us)) (Object at) t _ (λ m.
            subst (λ z. Alike q (run_all M next xs (record { env = g; self = Nothing; locals = z }) (record t { met = m }) kk))
            (sym (set_last us (default_of ty) (Object at))) (h m)))))

        pub created : (l : ℕ) (t : State) → t.left ≡ suc l
            → ((m : List Met) → Alike q (run_all M next xs (made_frame (Object (length t.cells))) (record (add_cell new t) { left = l; met = m }) kk))
            → Alike q (run_all M next (creating a b j k xs) (made_frame first) t kk)
        created l t e h =
            begins t (second_step q l t _ e (second_look (held g.body (create b j k no_ex)) (Object (length t.cells))
            (add_cell new (record t { left = l })) _ (λ m.
            keeps (length t.cells) (record (add_cell new t) { left = l; met = m }) h)))

    -- the call of the method: a step, and its code on the arguments
    module _ (unfolds : (xs : Sts) (f : Frame) (s : State) (k : ToFlow) → next xs f s k ≡ run_all M next xs f s k)
        (h : Env) (a : Ex) (m : ℕ) (b : Body) (found : M.static_body m ≡ Some b) (first : Value) (rest : b.rest ≡ first ∷ []) where
      -- what goes on behind it
      abbrev pub behind : ToValue → ToFlow
      behind on w f s = look M (held h.body a) (given b w) s (λ s1. on (given b w) s1)

      pub called : (l : ℕ) (vs us : List Value) (t : State) (on : ToValue) → t.left ≡ suc l → arguments b.params vs ≡ Some us
          → ((n : List Met) → Alike q (run_all M next b.code (made_frame b.env us (behind on) first) (record t { left = l; met = n }) (behind on)))
          → Alike q (call_static M next h a m vs t on)
      called l vs us t on e args g =
          second_step q l t _ e (second_some (M.static_body m) b (record t { left = l }) q _ found
          (second_some (arguments b.params vs) us (record t { left = l }) q _ args
          (second_look_all b.env.body us (record t { left = l }) _ (λ n.
          subst (λ z. Alike q (next b.code (record { env = b.env; self = Nothing; locals = us ++ z }) (record t { left = l; met = n }) (behind on)))
          (sym rest)
          (subst (λ z. Alike q z) (sym (unfolds b.code (made_frame b.env us (behind on) first) (record t { left = l; met = n }) (behind on))) (g n))))))
