-- Two languages that are twins have the same runs: by induction on the steps that are left and on the trees.
use Rattle.std.proofs.Common.{◌≡◌, ℕ, zero, suc, List, [], ◌∷◌, ◌++◌, Option, Some, length, refl, sym, ap, ◌∙◌, subst, arith}
use Rattle.std.specs.Prelude.{Bool, slice_get, slice_set}
use Rattle.java_core.specs.Trees.{Ex, Exs, this, call, Target, St, Sts, IfArms, st_then, no_st, loop}
use Rattle.java_core.specs.Types.{Env}
use Rattle.java_meaning.specs.Moment.{Value, Number, Truth, CodeUnit, Nothing, Object, Kind, bound, result_of, State, Frame, Ended, Outcome, stop, Body, Lang}
use Rattle.java_meaning.specs.Paired.{pair_none, pair_some, pair_declare, pair_block, pair_assign, pair_act, pair_print, pair_choose, pair_loop, pair_return, pair_break, pair_continue, pair_no_st, pair_st_then, pair_no_other, pair_otherwise, pair_arm}
use Rattle.java_meaning.specs.Values.{default_of, convert, number_of, text_of, bytes_of, line_end}
use Rattle.java_meaning.specs.Meaning.{Flow, Next, Broke, Continued, Gave, ToValue, ToFlow, Later, write_local, enter, after_one, after_turn, value, values, run_test, run_print, run_initial, run_declare, run_return, run_assign, run_one, run_all, run_arms, meaning, words_cell, start, run_in}
use Rattle.flow_laws.specs.cover.Families.{Set}
use Rattle.flow_laws.proofs.cover.Held.{Keeps, of_kept, keeps_same, keeps_on, plain_of, default_plain}
use Rattle.rebuild_laws.specs.twins.Twins.{Link, spot_of, many, BothPair, SameIf, Same, SameAll, SameTarget, SameSt, SameSts, SameArms, SameEnv, AreTwins}
use Rattle.rebuild_laws.specs.twins.Twins.{same_number, same_character, same_text, same_truth, same_null, same_this, same_local, same_static_field, same_own_field, same_own, same_written, same_field, same_index, same_call, same_static_call, same_super_call, same_create, same_make, same_create_array, same_cast, same_instance_of, same_unary, same_binary, same_no_ex, same_ex_then, same_to_local, same_to_static, same_to_own, same_to_both, same_to_written, same_to_field, same_to_element}
use Rattle.rebuild_laws.proofs.twins.Shapes.{same_convert, same_default, same_at}
use Rattle.rebuild_laws.proofs.twins.States.{Alike, wrong_first, first_some, second_some, equals_at, equals, shapes, tests, frame, same_elements, no_cells, more_cells, SameState, HeldIn, held_kept, held_set, KV, KS, KF, kv_on, kf_on, printed, ended, steps, with_cells}
use Rattle.rebuild_laws.proofs.twins.Moves.{looks, static_set, member_read, own_read, both_read, written_read, field_write, element_read, element_write, array_made, cast_done, class_tested}
use Rattle.rebuild_laws.proofs.twins.Operators.{string_given, operated, left_done, unary_done}
use Rattle.rebuild_laws.proofs.twins.Calls.{NextAlike, entered, called, static_called, super_called, object_made, make_called}
use Rattle.rebuild_laws.proofs.twins.Depths.{sunk, deep, is_sunk, unfolds, enters_alike}

module _ (L M : Lang) (K : Link) (Made : Option ℕ → Kind → Kind → Type 0) (Pair : Body → Body → Type 0) (twins : AreTwins L M K Made Pair) where
  abbrev R : State → State → Type 0
  R s t = SameState L M K Made s t

  abbrev In : Env → State → Value → List Value → Type 0
  In g s v ls = HeldIn L M K Made g s.cells v ls

  abbrev F : Env → Env → State → ToFlow → ToFlow → Type 0
  F g h s k j = KF L M K Made g h s.cells k j

  abbrev V : State → Set → ToValue → ToValue → Type 0
  V s X k j = KV L M K Made s.cells X k j

  local_written : (g h : Env) → SameEnv L M K Made Pair g h → (x : ℕ) (u v : Value) (ls : List Value) (s t : State) (k j : ToFlow) → R s t → In g s v ls
      → F g h s k j
      → Alike (write_local L x u (frame g v ls) s k) (write_local M x u (frame h v ls) t j)
  local_written g h env x u v ls s t k j r i q =
      shapes (slice_get g.locals x) (slice_get h.locals x) s t _ _ (same_at g.locals h.locals x env.locals) (λ a b ea eb shape.
      equals (slice_get ls x) (slice_get ls x) s t _ _ refl (λ old.
      looks L M K Made Pair twins (bound g.body x) (bound h.body x) (convert a u) (convert b u) s t _ _ r (λ m n r1 o.
      subst (λ z. Alike (k Next (frame g v (slice_set ls x (convert a u))) (record s { met = m }))
      (j Next (frame h v (slice_set ls x z)) (record t { met = n })))
      (same_convert u a b shape)
      (q Next v (slice_set ls x (convert a u)) _ _ r1 (keeps_same s.cells) (held_set L M K Made g s.cells v ls x (convert a u) i o)))))

  one_done : (g h : Env) (w : Flow) (v : Value) (ls : List Value) (s t : State) (k j : ToFlow) (x y : Frame → State → Outcome) → R s t → In g s v ls
      → F g h s k j
      → Alike (x (frame g v ls) s) (y (frame h v ls) t) → Alike (after_one w (frame g v ls) s x k) (after_one w (frame h v ls) t y j)
  one_done g h Next v ls s t k j x y r i q d = d
  one_done g h Broke v ls s t k j x y r i q d = q Broke v ls s t r (keeps_same s.cells) i
  one_done g h Continued v ls s t k j x y r i q d = q Continued v ls s t r (keeps_same s.cells) i
  one_done g h (Gave u) v ls s t k j x y r i q d = q (Gave u) v ls s t r (keeps_same s.cells) i

  turn_done : (g h : Env) (w : Flow) (v : Value) (ls : List Value) (s t : State) (k j : ToFlow) (x y : Frame → State → Outcome) → R s t → In g s v ls
      → F g h s k j
      → Alike (x (frame g v ls) s) (y (frame h v ls) t) → Alike (after_turn w (frame g v ls) s x k) (after_turn w (frame h v ls) t y j)
  turn_done g h Next v ls s t k j x y r i q d = d
  turn_done g h Continued v ls s t k j x y r i q d = d
  turn_done g h Broke v ls s t k j x y r i q d = q Next v ls s t r (keeps_same s.cells) i
  turn_done g h (Gave u) v ls s t k j x y r i q d = q (Gave u) v ls s t r (keeps_same s.cells) i

  module _ (later next : Later) (more : NextAlike L M K Made Pair twins later next) (g h : Env) (env : SameEnv L M K Made Pair g h) where
    kept_in : (s s1 : State) (v : Value) (ls : List Value) → Keeps s.cells s1.cells → In g s v ls → In g s1 v ls
    kept_in s s1 v ls q i = held_kept L M K Made g s.cells s1.cells v ls q i

    on_value : (s s1 : State) (X : Set) (k j : ToValue) → Keeps s.cells s1.cells → V s X k j → V s1 X k j
    on_value s s1 X k j p q = kv_on L M K Made s.cells s1.cells X k j p q

    on_flow : (s s1 : State) (k j : ToFlow) → Keeps s.cells s1.cells → F g h s k j → F g h s1 k j
    on_flow s s1 k j p q = kf_on L M K Made g h s.cells s1.cells k j p q

    mutual
      value_same : {e d : Ex} → Same L M K Made Pair g h e d → (v : Value) (ls : List Value) (s t : State) (k j : ToValue) → R s t → In g s v ls
          → V s (K.may (spot_of g.body e)) k j
          → Alike (value L later e (frame g v ls) s k) (value M next d (frame h v ls) t j)
      value_same (same_number {n = n}) v ls s t k j r i q = q (Number n) s t r (keeps_same s.cells) tt
      value_same (same_character {c = c}) v ls s t k j r i q = q (CodeUnit c) s t r (keeps_same s.cells) tt
      value_same (same_text {t = tag} {x = x}) v ls s t k j r i q = string_given L M K Made x s t _ k j r q
      value_same (same_truth {b = b}) v ls s t k j r i q = q (Truth b) s t r (keeps_same s.cells) tt
      value_same same_null v ls s t k j r i q = q Nothing s t r (keeps_same s.cells) tt
      value_same same_this v ls s t k j r i q = q v s t r (keeps_same s.cells) i.self
      value_same (same_local {i = x}) v ls s t k j r i q =
          equals_at (slice_get ls x) (slice_get ls x) s t _ _ refl (λ u eu. q u s t r (keeps_same s.cells) (i.locals x u eu))
      value_same (same_static_field {f = x} {j = y} f) v ls s t k j r i q =
          equals_at (slice_get s.statics x) (slice_get t.statics y) s t _ _ (r.statics x f.static ∙ ap (slice_get t.statics) (sym f.new))
          (λ u eu. q u s t r (keeps_same s.cells) (r.held x u eu))
      value_same (same_own_field {t = a} {u = b} {v = c} {f = x} {y = y} f) v ls s t k j r i q =
          with_cells L M K Made v s t _ _ r (λ at z w ev there same.
          own_read L M K Made Pair twins g h (this a) (Some x) (M.field h (this c) y) f _
          (this c) _ y refl at z.site w.site z.kind w.kind z.values w.values same.made same.values s t k j r there q)
      value_same (same_own {t = a} {u = b} {f = x} {j = y} f) v ls s t k j r i q =
          with_cells L M K Made v s t _ _ r (λ at z w ev there same.
          both_read L M K Made Pair twins g h (this a) (Some x) (Some y) f _
          (this b) _ at z.site w.site z.kind w.kind z.values w.values same.made same.values s t k j r there q)
      value_same (same_written {t = a} {u = b} {v = c} {f = x} {j = y} {x = name} e f) v ls s t k j r i q =
          with_cells L M K Made v s t _ _ r (λ at z w ev there same.
          written_read L M K Made Pair twins g h (this c) (Some x) (Some y) f _
          (this b) _ name x e refl at z.site w.site z.kind w.kind z.values w.values same.made same.values s t k j r there q)
      value_same (same_field {t = a} {u = b} {e = e} {d = d} {x = x} {y = y} p f len) v ls s t k j r i q =
          value_same p v ls s t _ _ r i (λ u s1 t1 r1 k1 o1. with_cells L M K Made u s1 t1 _ _ r1 (λ at z w ev there same.
          member_read L M K Made Pair twins g h e (L.field g e x)
          (M.field h d y) f _ d _ x y refl refl len at z.site w.site z.kind w.kind z.values w.values same.made same.values s1 t1 k j r1 there
          (on_value s s1 _ k j k1 q)))
      value_same (same_index {t = a} {u = b} {e = e} {d = d} {i = x} {j = y} p p2) v ls s t k j r i q =
          value_same p v ls s t _ _ r i (λ u s1 t1 r1 k1 o1. value_same p2 v ls s1 t1 _ _ r1 (kept_in s s1 v ls k1 i) (λ w s2 t2 r2 k2 o2.
          equals (number_of w) (number_of w) s2 t2 _ _ refl (λ n.
          element_read L M K Made Pair twins g.body h.body _ _ u n s2 t2 k j r2 (on_value s s2 _ k j (keeps_on s.cells s1.cells s2.cells k1 k2) q))))
      value_same (same_call {t = a} {u = b} {e = e} {d = d} {x = x} {y = y} {es = es} {ds = ds} p ps f) v ls s t k j r i q =
          value_same p v ls s t _ _ r i (λ u s1 t1 r1 k1 o1. values_same ps v ls s1 t1 _ _ r1 (kept_in s s1 v ls k1 i) (λ us s2 t2 r2 k2 c2.
          called L M K Made Pair twins later next more g h (call a e x es) e d (call b d y ds) x y f u us s2 t2 k j r2
          (on_value s s2 _ k j (keeps_on s.cells s1.cells s2.cells k1 k2) q)))
      value_same (same_static_call {m = m} {n = n} ps f) v ls s t k j r i q =
          values_same ps v ls s t _ _ r i (λ us s1 t1 r1 k1 c1. static_called L M K Made Pair twins later next more g h _ _ m n f us s1 t1 k j r1
          (on_value s s1 _ k j k1 q))
      value_same (same_super_call {x = x} {y = y} ps f) v ls s t k j r i q =
          values_same ps v ls s t _ _ r i (λ us s1 t1 r1 k1 c1. super_called L M K Made Pair twins later next more g h _ _ x y f v us s1 t1 k j r1
          (on_value s s1 _ k j k1 q))
      value_same (same_create {n = n} {j = m} {c = c} {k = c2} ps f make) v ls s t k j r i q =
          values_same ps v ls s t _ _ r i
          (λ us s1 t1 r1 k1 c1. object_made L M K Made Pair twins later next more g h _ _ n m c c2 us f make s1 t1 k j r1 (on_value s s1 _ k j k1 q))
      value_same (same_make {n = n} {c = c} {m = m} {es = es} ps f) v ls s t k j r i q =
          values_same ps v ls s t _ _ r i
          (λ us s1 t1 r1 k1 c1. make_called L M K Made Pair twins later next more g h _ _ n c m es f us c1 s1 t1 k j r1 (on_value s s1 _ k j k1 q))
      value_same (same_create_array {n = n} {j = m} {v = c} {w = c2} p f) v ls s t k j r i q =
          value_same p v ls s t _ _ r i (λ u s1 t1 r1 k1 o1. equals (number_of u) (number_of u) s1 t1 _ _ refl (λ size.
          array_made L M K Made Pair twins g h _ _ n m c c2 size f s1 t1 k j r1 (on_value s s1 _ k j k1 q)))
      value_same (same_cast {v = c} {w = c2} p shape f) v ls s t k j r i q =
          value_same p v ls s t _ _ r i (λ u s1 t1 r1 k1 o1. cast_done L M K Made Pair twins g h _ _ c c2 shape f u s1 t1 k j r1 (on_value s s1 _ k j k1 q))
      value_same (same_instance_of {c = c} {k = c2} p f) v ls s t k j r i q =
          value_same p v ls s t _ _ r i (λ u s1 t1 r1 k1 o1. class_tested L M K Made Pair twins g h _ _ c c2 _ f u s1 t1 k j r1 (on_value s s1 _ k j k1 q))
      value_same (same_unary {o = o} p) v ls s t k j r i q =
          value_same p v ls s t _ _ r i (λ u s1 t1 r1 k1 o1. unary_done L M K Made o u s1 t1 _ k j r1 (on_value s s1 _ k j k1 q))
      value_same (same_binary {o = o} p p2) v ls s t k j r i q =
          value_same p v ls s t _ _ r i (λ u s1 t1 r1 k1 o1. left_done L M K Made o u s1 t1 _ _ _ k j r1
          (value_same p2 v ls s1 t1 _ _ r1 (kept_in s s1 v ls k1 i) (λ w s2 t2 r2 k2 o2.
          operated L M K Made o u w s2 t2 _ k j r2 (on_value s s2 _ k j (keeps_on s.cells s1.cells s2.cells k1 k2) q)))
          (on_value s s1 _ k j k1 q))

      values_same : {es ds : Exs} → SameAll L M K Made Pair g h es ds → (v : Value) (ls : List Value) (s t : State) (k j : List Value → State → Outcome)
          → R s t → In g s v ls
          → ((us : List Value) (s1 t1 : State) → R s1 t1 → Keeps s.cells s1.cells → length us ≡ many es → Alike (k us s1) (j us t1))
          → Alike (values L later es (frame g v ls) s k) (values M next ds (frame h v ls) t j)
      values_same same_no_ex v ls s t k j r i q = q [] s t r (keeps_same s.cells) refl
      values_same (same_ex_then p ps) v ls s t k j r i q =
          value_same p v ls s t _ _ r i (λ u s1 t1 r1 k1 o1. values_same ps v ls s1 t1 _ _ r1 (kept_in s s1 v ls k1 i) (λ us s2 t2 r2 k2 c2.
          q (u ∷ us) s2 t2 r2 (keeps_on s.cells s1.cells s2.cells k1 k2) (ap suc c2)))

    -- the parts of statements
    test_same : {e d : Option Ex} → SameIf L M K Made Pair g h e d → (v : Value) (ls : List Value) (s t : State) (x y z w : State → Outcome) → R s t
        → In g s v ls → KS L M K Made s.cells x z → KS L M K Made s.cells y w
        → Alike (run_test L later e (frame g v ls) s x y) (run_test M next d (frame h v ls) t z w)
    test_same pair_none v ls s t x y z w r i q o = q s t r (keeps_same s.cells)
    test_same (pair_some p) v ls s t x y z w r i q o = value_same p v ls s t _ _ r i
        (λ u s1 t1 r1 k1 o1. tests u s1 t1 x y z w (q s1 t1 r1 k1) (o s1 t1 r1 k1))

    print_same : (n : Bool) {e d : Option Ex} → SameIf L M K Made Pair g h e d → (v : Value) (ls : List Value) (s t : State) (k j : State → Outcome) → R s t
        → In g s v ls → KS L M K Made s.cells k j
        → Alike (run_print L later n e (frame g v ls) s k) (run_print M next n d (frame h v ls) t j)
    print_same n pair_none v ls s t k j r i q = q _ _ (printed L M K Made s t (bytes_of [] ++ line_end n) r) (keeps_same s.cells)
    print_same n (pair_some p) v ls s t k j r i q =
        value_same p v ls s t _ _ r i (λ u s1 t1 r1 k1 o1. equals (text_of s1.strings u) (text_of t1.strings u) s1 t1 _ _ (ap (λ z. text_of z u) r1.strings)
        (λ x.
        q _ _ (printed L M K Made s1 t1 (bytes_of x ++ line_end n) r1) k1))

    initial_same : (x : ℕ) {e d : Option Ex} → SameIf L M K Made Pair g h e d → (v : Value) (ls : List Value) (s t : State) (k j : ToFlow) → R s t
        → In g s v ls → F g h s k j
        → Alike (run_initial L later x e (frame g v ls) s k) (run_initial M next x d (frame h v ls) t j)
    initial_same x pair_none v ls s t k j r i q = q Next v ls s t r (keeps_same s.cells) i
    initial_same x (pair_some p) v ls s t k j r i q =
        value_same p v ls s t _ _ r i (λ u s1 t1 r1 k1 o1. local_written g h env x u v ls s1 t1 k j r1 (kept_in s s1 v ls k1 i) (on_flow s s1 k j k1 q))

    declare_same : (x : ℕ) {e d : Option Ex} → SameIf L M K Made Pair g h e d → (v : Value) (ls : List Value) (s t : State) (k j : ToFlow) → R s t
        → In g s v ls → F g h s k j
        → Alike (run_declare L later x e (frame g v ls) s k) (run_declare M next x d (frame h v ls) t j)
    declare_same x {e = e} {d = d} p v ls s t k j r i q =
        shapes (slice_get g.locals x) (slice_get h.locals x) s t _ _ (same_at g.locals h.locals x env.locals) (λ a b ea eb shape.
        equals (slice_get ls x) (slice_get ls x) s t _ _ refl (λ old.
        subst (λ z. Alike (run_initial L later x e (frame g v (slice_set ls x (default_of a))) s k)
        (run_initial M next x d (frame h v (slice_set ls x z)) t j))
        (same_default a b shape)
        (initial_same x p v (slice_set ls x (default_of a)) s t k j r
        (held_set L M K Made g s.cells v ls x (default_of a) i
        (plain_of s.cells (default_of a) (K.may (bound g.body x)) (λ n c. default_plain a.base a.dim n c))) q)))

    return_same : {e d : Option Ex} → SameIf L M K Made Pair g h e d → (v : Value) (ls : List Value) (s t : State) (k j : ToFlow) → R s t → In g s v ls
        → F g h s k j
        → Alike (run_return L later e (frame g v ls) s k) (run_return M next d (frame h v ls) t j)
    return_same pair_none v ls s t k j r i q = q (Gave Nothing) v ls s t r (keeps_same s.cells) i
    return_same (pair_some p) v ls s t k j r i q =
        value_same p v ls s t _ _ r i (λ u s1 t1 r1 k1 o1. shapes g.result h.result s1 t1 _ _ env.result (λ a b ea eb shape.
        looks L M K Made Pair twins (result_of g.body) (result_of h.body) (convert a u) (convert b u) s1 t1 _ _ r1 (λ m n r2 o2.
        subst (λ z. Alike (k (Gave (convert a u)) (frame g v ls) (record s1 { met = m })) (j (Gave z) (frame h v ls) (record t1 { met = n })))
        (same_convert u a b shape)
        (q (Gave (convert a u)) v ls _ _ r2 k1 (kept_in s s1 v ls k1 i)))))

    flow_on : (s s1 : State) (v : Value) (ls : List Value) (k j : ToFlow) → Keeps s.cells s1.cells → In g s v ls → F g h s k j
        → KS L M K Made s1.cells (λ s2. k Next (frame g v ls) s2) (λ t2. j Next (frame h v ls) t2)
    flow_on s s1 v ls k j p i q s2 t2 r2 k2 = let z = keeps_on s.cells s1.cells s2.cells p k2 in q Next v ls s2 t2 r2 z (kept_in s s2 v ls z i)

    assign_same : {a a2 : Ex} {b c : Target} → SameTarget L M K Made Pair g h a b c → Same L M K Made Pair g h a a2
        → (v : Value) (ls : List Value) (s t : State) (k j : ToFlow) → R s t → In g s v ls → F g h s k j
        → Alike (run_assign L later b a (frame g v ls) s k) (run_assign M next c a2 (frame h v ls) t j)
    assign_same (same_to_local {i = x}) p v ls s t k j r i q =
        value_same p v ls s t _ _ r i (λ u s1 t1 r1 k1 o1. local_written g h env x u v ls s1 t1 k j r1 (kept_in s s1 v ls k1 i) (on_flow s s1 k j k1 q))
    assign_same (same_to_static {f = x} {j = y} f) p v ls s t k j r i q =
        value_same p v ls s t _ _ r i (λ u s1 t1 r1 k1 o1. static_set L M K Made Pair twins x y u s1 t1 _ _ f r1 (flow_on s s1 v ls k j k1 i q))
    assign_same (same_to_own {t = a} {v = c} {f = x} {y = y} f) p v ls s t k j r i q =
        value_same p v ls s t _ _ r i (λ u s1 t1 r1 k1 o1. with_cells L M K Made v s1 t1 _ _ r1 (λ at z w ev there same.
        field_write L M K Made Pair twins g h (this a) (Some x) (M.field h (this c) y) f
        (this c) u at z.site w.site z.kind w.kind z.values w.values same.made same.values s1 t1 _ _ r1 there
        (flow_on s s1 v ls k j k1 i q)))
    assign_same (same_to_both {t = a} {u = b} {f = x} {j = y} f) p v ls s t k j r i q =
        value_same p v ls s t _ _ r i (λ u s1 t1 r1 k1 o1. with_cells L M K Made v s1 t1 _ _ r1 (λ at z w ev there same.
        field_write L M K Made Pair twins g h (this a) (Some x) (Some y) f
        (this b) u at z.site w.site z.kind w.kind z.values w.values same.made same.values s1 t1 _ _ r1 there
        (flow_on s s1 v ls k j k1 i q)))
    assign_same (same_to_written {t = a} {u = b} {v = c} {j = y} {x = x} f) p v ls s t k j r i q =
        value_same p v ls s t _ _ r i (λ u s1 t1 r1 k1 o1. with_cells L M K Made v s1 t1 _ _ r1 (λ at z w ev there same.
        field_write L M K Made Pair twins g h (this c) (L.field g (this c) x) (Some y) f
        (this b) u at z.site w.site z.kind w.kind z.values w.values same.made same.values s1 t1 _ _ r1 there
        (flow_on s s1 v ls k j k1 i q)))
    assign_same (same_to_field {e = e} {d = d} {x = x} {y = y} b f) p v ls s t k j r i q =
        value_same b v ls s t _ _ r i (λ u s1 t1 r1 k1 o1. value_same p v ls s1 t1 _ _ r1 (kept_in s s1 v ls k1 i) (λ w s2 t2 r2 k2 o2.
        with_cells L M K Made u s2 t2 _ _ r2 (λ at z z2 ev there same.
        field_write L M K Made Pair twins g h e (L.field g e x)
        (M.field h d y) f d w at z.site z2.site z.kind z2.kind z.values z2.values same.made same.values s2 t2 _ _ r2 there
        (flow_on s s2 v ls k j (keeps_on s.cells s1.cells s2.cells k1 k2) i q))))
    assign_same {a = a} (same_to_element {e = e} b c f) p v ls s t k j r i q =
        value_same b v ls s t _ _ r i (λ u s1 t1 r1 k1 o1. value_same c v ls s1 t1 _ _ r1 (kept_in s s1 v ls k1 i) (λ w s2 t2 r2 k2 o2.
        let p2 = keeps_on s.cells s1.cells s2.cells k1 k2 in
        value_same p v ls s2 t2 _ _ r2 (kept_in s s2 v ls p2 i) (λ x s3 t3 r3 k3 o3. equals (number_of w) (number_of w) s3 t3 _ _ refl (λ n.
        element_write L M K Made Pair twins g h e a f u n x s3 t3 _ _ r3
        (of_kept s1.cells s3.cells u (K.may (spot_of g.body e)) (keeps_on s1.cells s2.cells s3.cells k2 k3) o1) o3
        (flow_on s s3 v ls k j (keeps_on s.cells s2.cells s3.cells p2 k3) i q)))))

    mutual
      st_same : {x y : St} → SameSt L M K Made Pair g h x y → (v : Value) (ls : List Value) (s t : State) (k j : ToFlow) → R s t → In g s v ls → F g h s k j
          → Alike (run_one L later x (frame g v ls) s k) (run_one M next y (frame h v ls) t j)
      st_same (pair_declare {i = x} p) v ls s t k j r i q = declare_same x p v ls s t k j r i q
      st_same (pair_block ps) v ls s t k j r i q = sts_same ps v ls s t k j r i q
      st_same (pair_assign b p) v ls s t k j r i q = assign_same b p v ls s t k j r i q
      st_same (pair_act p) v ls s t k j r i q = value_same p v ls s t _ _ r i (λ u s1 t1 r1 k1 o1. q Next v ls s1 t1 r1 k1 (kept_in s s1 v ls k1 i))
      st_same (pair_print {n = n} p) v ls s t k j r i q = print_same n p v ls s t _ _ r i (λ s1 t1 r1 k1. q Next v ls s1 t1 r1 k1 (kept_in s s1 v ls k1 i))
      st_same (pair_choose a) v ls s t k j r i q = arms_same a v ls s t k j r i q
      st_same (pair_loop {t = a} {u = b} {is_while = is_while} {first = first} {step = step} {body = body} {other = other} {last = last}
          {code = code} {e = e} {d = d} p1 p2 p3
          p4) v ls s t k j r i q =
          sts_same p1 v ls s t _ _ r i (λ w v1 ls1 s1 t1 r1 k1 i1.
          let q1 = on_flow s s1 k j k1 q in
          one_done g h w v1 ls1 s1 t1 k j _ _ r1 i1 q1
          (test_same p2 v1 ls1 s1 t1 _ _ _ _ r1 i1
          (λ s3 t3 r3 k3. steps L M K Made s3 t3 _ _ r3 (λ n r4.
          let s4 = record s3 { left = n } in let t4 = record t3 { left = n } in
          sts_same p4 v1 ls1 s4 t4 _ _ r4 (kept_in s1 s4 v1 ls1 k3 i1) (λ w5 v5 ls5 s5 t5 r5 k5 i5.
          let q5 = on_flow s1 s5 k j (keeps_on s1.cells s3.cells s5.cells k3 k5) q1 in
          turn_done g h w5 v5 ls5 s5 t5 k j _ _ r5 i5 q5
          (sts_same p3 v5 ls5 s5 t5 _ _ r5 i5 (λ w6 v6 ls6 s6 t6 r6 k6 i6.
          let q6 = on_flow s5 s6 k j k6 q5 in
          one_done g h w6 v6 ls6 s6 t6 k j _ _ r6 i6 q6
          (more.runs g h env (st_then (loop a is_while no_st e step body) no_st) (st_then (loop b is_while no_st d last code) no_st)
          (pair_st_then (pair_loop pair_no_st p2 p3 p4) pair_no_st) v6 ls6 s6 t6 k j r6 i6 q6))))))
          (λ s3 t3 r3 k3. q1 Next v1 ls1 s3 t3 r3 k3 (kept_in s1 s3 v1 ls1 k3 i1))))
      st_same (pair_return p) v ls s t k j r i q = return_same p v ls s t k j r i q
      st_same pair_break v ls s t k j r i q = q Broke v ls s t r (keeps_same s.cells) i
      st_same pair_continue v ls s t k j r i q = q Continued v ls s t r (keeps_same s.cells) i

      sts_same : {xs ys : Sts} → SameSts L M K Made Pair g h xs ys → (v : Value) (ls : List Value) (s t : State) (k j : ToFlow) → R s t → In g s v ls
          → F g h s k j
          → Alike (run_all L later xs (frame g v ls) s k) (run_all M next ys (frame h v ls) t j)
      sts_same pair_no_st v ls s t k j r i q = q Next v ls s t r (keeps_same s.cells) i
      sts_same (pair_st_then p ps) v ls s t k j r i q =
          st_same p v ls s t _ _ r i (λ w v1 ls1 s1 t1 r1 k1 i1.
          let q1 = on_flow s s1 k j k1 q in one_done g h w v1 ls1 s1 t1 k j _ _ r1 i1 q1 (sts_same ps v1 ls1 s1 t1 k j r1 i1 q1))

      arms_same : {a b : IfArms} → SameArms L M K Made Pair g h a b → (v : Value) (ls : List Value) (s t : State) (k j : ToFlow) → R s t → In g s v ls
          → F g h s k j
          → Alike (run_arms L later a (frame g v ls) s k) (run_arms M next b (frame h v ls) t j)
      arms_same pair_no_other v ls s t k j r i q = q Next v ls s t r (keeps_same s.cells) i
      arms_same (pair_otherwise ps) v ls s t k j r i q = sts_same ps v ls s t k j r i q
      arms_same (pair_arm p ps a) v ls s t k j r i q =
          value_same p v ls s t _ _ r i (λ u s1 t1 r1 k1 o1.
          let q1 = on_flow s s1 k j k1 q in let i1 = kept_in s s1 v ls k1 i in
          tests u s1 t1 _ _ _ _ (sts_same ps v ls s1 t1 k j r1 i1 q1) (arms_same a v ls s1 t1 k j r1 i1 q1))

  sunk_same : (n : ℕ) → NextAlike L M K Made Pair twins (sunk L n) (deep M)
  sunk_same zero = record { runs = λ g h env xs ys p v ls s t k j r i q. wrong_first s (deep M ys (frame h v ls) t j); unfolds = unfolds M }
  sunk_same (suc n) = record {
    runs = λ g h env xs ys p v ls s t k j r i q. subst (λ z. Alike (run_all L (sunk L n) xs (frame g v ls) s k) z) (sym (unfolds M ys (frame h v ls) t j))
        (sts_same (sunk L n) (deep M) (sunk_same n) g h env p v ls s t k j r i q);
    unfolds = unfolds M;
  }

  start_same : (words : List (List ℕ)) (n : ℕ) → R (start L words n) (start M words n)
  start_same words n = record {
    cells = more_cells (record { made = twins.words; values = same_elements refl }) no_cells;
    strings = refl;
    statics = twins.statics;
    held = λ f v e. plain_of (words_cell words ∷ []) v _ (λ a d. twins.plain_statics f a (e ∙ ap (λ z. Some z) d));
    out = refl;
    left = refl;
  }

  -- the theorem: for all words and every bound
  pub same_run : (m p : ℕ) → BothPair L M K Made Pair (L.static_body m) (M.static_body p) → (words : List (List ℕ)) (n : ℕ)
      → Alike (run_in L m words n) (run_in M p words n)
  unfolding run_in
  same_run m p f words n =
      first_some (L.static_body m) (start L words n) _ _ (λ b eb.
      let z = f b eb in let c = z.body in
      second_some (M.static_body p) c (start M words n) _ _ z.found
      (subst (λ z. Alike z (enter M (meaning M (suc n)) c Nothing (Object 0 ∷ []) (start M words n) (λ v s. stop Ended s)))
      (sym (enters_alike L (meaning L (suc n)) (sunk L (suc n)) b Nothing (Object 0 ∷ []) (start L words n) (λ v s. stop Ended s)
      (λ xs g s k e. is_sunk L (suc n) xs g s k (omega (arith, e)))))
      (subst (λ z. Alike (enter L (sunk L (suc n)) b Nothing (Object 0 ∷ []) (start L words n) (λ v s. stop Ended s)) z)
      (enters_alike M (deep M) (meaning M (suc n)) c Nothing (Object 0 ∷ []) (start M words n) (λ v s. stop Ended s)
      (λ xs g s k e. ap (λ z. meaning M (suc z) xs g s k) e))
      (entered L M K Made Pair twins (sunk L (suc n)) (deep M) (sunk_same (suc n)) b c z.pair Nothing (Object 0 ∷ []) (start L words n) (start M words n) _ _
      (start_same words n) tt
      (λ v s t r k. ended L M K Made Ended s t r)))))
