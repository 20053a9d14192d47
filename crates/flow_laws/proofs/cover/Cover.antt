-- A run under the watch of a family of sets that all bodies stay in never escapes.
use Rattle.std.proofs.Common.{◌≡◌, ℕ, zero, suc, List, [], ◌∷◌, ◌++◌, Option, Some, None, length, refl, sym, ap, ◌∙◌, subst}
use Rattle.std.specs.Prelude.{Bool, true, slice_get}
use Rattle.std.proofs.lemmas.Option.{same_Some}
use Rattle.java_core.specs.declared.Fault.TheVariants as fault
use Rattle.java_core.specs.Trees.{Ex, Exs, no_ex, ex_then, number, character, text, truth, null, this, local, static_field, own_field, field, index, call, static_call, super_call, create, create_array, cast, instance_of, unary, binary, Target, to_local, to_static, to_own, to_field, to_element, no_target, St, Sts, IfArms, declare, block, assign, act, print, choose, loop, return, break, continue, no_st, st_then, otherwise, arm, no_other}
use Rattle.java_core.specs.Types.{Env}
use Rattle.java_meaning.specs.Moment.{Value, Number, Truth, CodeUnit, Nothing, Text, Object, Kind, an_array, Cell, own_class, held, bound, self_of, result_of, set_static, ran, State, Frame, Ended, Faulted, Going, Wrong, Outcome, stop, Body, Lang, look, Spot, an_object}
use Rattle.java_meaning.specs.Values.{default_of, convert, arguments, number_of, text_of}
use Rattle.java_meaning.specs.Meaning.{Flow, Next, Broke, Continued, Gave, ToValue, ToFlow, Later, set_local, given, enter, call_object, text_method, call_on, call_static, call_super, value, values, run_test, run_print, run_initial, run_declare, run_return, run_assign, run_one, run_all, run_arms, meaning, texts, words_type, words_cell, start, run_in, construct, make_object, made_by}
use Rattle.flow_laws.specs.cover.Families.{Set, Family, Calls, StaticCalls, SuperCalls, Included, IncludedAll, Sets, Assigns, IsIncluded, AreIncluded, Begins, included, RunsMaker, MakerRuns, Makes}
use Rattle.java_meaning.specs.EachStatement.{OfOption, InSt, InSts, InArms}
use Rattle.flow_laws.specs.cover.Watched.{Of, IsWatched}
use Rattle.flow_laws.proofs.cover.Held.{Stays, of_sub, Keeps, of_kept, keeps_on, member_of, plain_of, of_convert, default_plain, texts_plain, own_object, ArgsIn, args_convert, args_locals, Fine, fine_stop, test_fine, some_fine, step_fine, cell_fine}
use Rattle.flow_laws.proofs.cover.CoveredSteps as steps

module _ (L : Lang) (Made : Option ℕ → Kind → Type 0) (V : Family) (inc : AreIncluded L Made V) (hooks : IsWatched L V) where
  abbrev Good : List Cell → List Value → Type 0
  Good h ss = steps.Good L Made V inc hooks h ss

  abbrev From : List Cell → List Cell → List Value → Type 0
  From h k ss = steps.From L Made V inc hooks h k ss

  abbrev KV : List Cell → Set → ToValue → Type 0
  KV h X k = steps.KV L Made V inc hooks h X k

  abbrev KS : List Cell → (State → Outcome) → Type 0
  KS h k = steps.KS L Made V inc hooks h k

  abbrev FrameIn : List Cell → Frame → Type 0
  FrameIn h f = steps.FrameIn L Made V inc hooks h f

  abbrev FlowIn : Env → List Cell → Flow → Type 0
  FlowIn g h w = steps.FlowIn L Made V inc hooks g h w

  abbrev KF : Env → List Cell → ToFlow → Type 0
  KF g h k = steps.KF L Made V inc hooks g h k

  abbrev Ins : List Cell → Env → List Value → Exs → Type 0
  Ins h g vs es = steps.Ins L Made V inc hooks h g vs es

  module _ (later : Later) where
    record NextIn : Type 0 where
      runs : (xs : Sts) (f : Frame) (s : State) (k : ToFlow) → InSts (included L Made V f.env) xs → Good s.cells s.statics → FrameIn s.cells f
          → KF f.env s.cells k → Fine (later xs f s k)

    module _ (next : NextIn) where
      enter_fine : (b : Body) (v : Value) (vs : List Value) (s : State) (k : ToValue) → IsIncluded L Made V b → Good s.cells s.statics
          → Of s.cells v (V.spot (self_of b.env.body)) → ArgsIn s.cells vs (λ x. V.spot (bound b.env.body x))
          → KV s.cells (V.spot (result_of b.env.body)) k → Fine (enter L later b v vs s k)
      enter_fine b v vs s k ib ok iv p h =
          some_fine (arguments b.params vs) s _ (λ ws ew.
          let q = args_convert s.cells b.params vs ws (λ x. V.spot (bound b.env.body x)) ew p in
          steps.look_all_fine L Made V inc hooks b.env.body ws s _ q (λ m.
          next.runs b.code (record { env = b.env; self = v; locals = ws ++ b.rest }) (record s { met = m }) _ ib.code ok
          (record { self = iv; locals = args_locals s.cells ws b.rest (λ x. V.spot (bound b.env.body x)) q ib.rest })
          (λ w f s2 r e fo wo. h (given b w) s2 r (steps.given_in L Made V inc hooks b s2.cells w ib.ends wo))))

      call_object_fine : (g : Env) (e d : Ex) (x : List ℕ) (es : Exs) → Calls L Made V g d e x es → (a : ℕ) (c : Cell) (vs : List Value) (s : State)
          (k : ToValue) → Good s.cells s.statics → slice_get s.cells a ≡ Some c → V.value g.body e c.site ≡ true → Ins s.cells g vs es
          → KV s.cells (V.value g.body d) k → Fine (call_object L later g e d x a c vs s k)
      unfolding Calls
      call_object_fine g e d x es cl a c vs s k ok at mem ivs h =
          some_fine (own_class c.kind) s _ (λ t et. step_fine s _ (λ n. let s1 = record s { left = n } in some_fine (L.slot g e x) s1 _
          (λ j ej. some_fine (L.body t j) s1 _ (λ b eb.
          let r = cl c.site t j b (subst (λ z. Made c.site z) (own_object c.kind t et) (ok.cells a c at).made) ej eb mem in
          steps.look_fine L Made V inc hooks (ran g.body d b.env.body) (Object a) s1 _ (record { cell = c; there = at; member = r.receiver }) (λ m1.
          let s2 = record s1 { met = m1 } in
          steps.look_fine L Made V inc hooks (self_of b.env.body) (Object a) s2 _ (record { cell = c; there = at; member = r.self }) (λ m2.
          enter_fine b (Object a) vs (record s2 { met = m2 }) (λ u s4. look L (held g.body d) u s4 (λ s5. k u s5)) (inc.bodies t j b eb) ok
          (record { cell = c; there = at; member = r.self }) (steps.ins_args L Made V inc hooks s.cells g vs es _ ivs r.enters.args) (λ u s4 r4 o4.
          steps.look_fine L Made V inc hooks (held g.body d) u s4 (λ s5. k u s5) (of_sub s4.cells u (V.spot (result_of b.env.body)) (V.spot (held g.body d))
          r.enters.result.looks o4) (λ m3.
          h u (record s4 { met = m3 }) r4 (of_sub s4.cells u (V.spot (result_of b.env.body)) (V.value g.body d) r.enters.result.holds o4)))))))))

      call_fine : (g : Env) (e d : Ex) (x : List ℕ) (es : Exs) → Calls L Made V g d e x es → (v : Value) (vs : List Value) (s : State) (k : ToValue)
          → Good s.cells s.statics → Of s.cells v (V.value g.body e) → Ins s.cells g vs es
          → KV s.cells (V.value g.body d) k → Fine (call_on L later g e d x v vs s k)
      call_fine g e d x es cl Nothing vs s k ok iv ivs h = fine_stop (Faulted fault.Null) s tt
      call_fine g e d x es cl (Text a) vs s k ok iv ivs h =
          some_fine (slice_get s.strings a) s _ (λ u eu. some_fine (text_method (L.slot g e x) x) s _
          (λ m em. steps.string_call_fine L Made V inc hooks m u vs s (V.value g.body d) k ok h))
      call_fine g e d x es cl (Object a) vs s k ok iv ivs h =
          some_fine (slice_get s.cells a) s _ (λ c ec. call_object_fine g e d x es cl a c vs s k ok ec
          (member_of s.cells a c (V.value g.body e) iv ec) ivs h)
      call_fine g e d x es cl (Number n) vs s k ok iv ivs h = fine_stop Wrong s tt
      call_fine g e d x es cl (Truth n) vs s k ok iv ivs h = fine_stop Wrong s tt
      call_fine g e d x es cl (CodeUnit n) vs s k ok iv ivs h = fine_stop Wrong s tt

      call_static_fine : (g : Env) (d : Ex) (n : ℕ) (es : Exs) → StaticCalls L Made V g d n es → (vs : List Value) (s : State) (k : ToValue)
          → Good s.cells s.statics → Ins s.cells g vs es → KV s.cells (V.value g.body d) k → Fine (call_static L later g d n vs s k)
      unfolding StaticCalls
      call_static_fine g d n es cl vs s k ok ivs h =
          step_fine s _ (λ l. let s1 = record s { left = l } in some_fine (L.static_body n) s1 _ (λ b eb.
          let r = cl b eb in
          enter_fine b Nothing vs s1 (λ u s4. look L (held g.body d) u s4 (λ s5. k u s5)) (inc.static_bodies n b eb) ok tt
          (steps.ins_args L Made V inc hooks s.cells g vs es _ ivs r.args) (λ u s4 r4 o4.
          steps.look_fine L Made V inc hooks (held g.body d) u s4 (λ s5. k u s5) (of_sub s4.cells u (V.spot (result_of b.env.body))
          (V.spot (held g.body d)) r.result.looks o4) (λ m3.
          h u (record s4 { met = m3 }) r4 (of_sub s4.cells u (V.spot (result_of b.env.body)) (V.value g.body d) r.result.holds o4)))))

      call_super_fine : (g : Env) (d : Ex) (x : List ℕ) (es : Exs) → SuperCalls L Made V g d x es
          → (v : Value) (vs : List Value) (s : State) (k : ToValue) → Good s.cells s.statics → Of s.cells v (V.spot (self_of g.body))
          → Ins s.cells g vs es → KV s.cells (V.value g.body d) k
          → Fine (call_super L later g d x v vs s k)
      unfolding SuperCalls
      call_super_fine g d x es cl v vs s k ok iv ivs h =
          step_fine s _ (λ l. let s1 = record s { left = l } in some_fine (L.super_body g.self x) s1 _ (λ b eb.
          let r = cl b eb in
          let self = of_sub s.cells v (V.spot (self_of g.body)) (V.spot (self_of b.env.body)) r.self iv in
          steps.look_fine L Made V inc hooks (self_of b.env.body) v s1 _ self (λ m1.
          enter_fine b v vs (record s1 { met = m1 }) (λ u s4. look L (held g.body d) u s4 (λ s5. k u s5)) (inc.super_bodies g.self x b eb) ok self
          (steps.ins_args L Made V inc hooks s.cells g vs es _ ivs r.enters.args) (λ u s4 r4 o4.
          steps.look_fine L Made V inc hooks (held g.body d) u s4 (λ s5. k u s5) (of_sub s4.cells u (V.spot (result_of b.env.body)) (V.spot (held g.body d))
          r.enters.result.looks o4) (λ m3.
          h u (record s4 { met = m3 }) r4 (of_sub s4.cells u (V.spot (result_of b.env.body)) (V.value g.body d) r.enters.result.holds o4))))))

      kv_on : (h l : List Cell) (X : Set) (k : ToValue) → Keeps h l → KV h X k → KV l X k
      kv_on h l X k r c v s p o = c v s (steps.from_on L Made V inc hooks h l s.cells s.statics r p) o

      -- a constructor runs on a new object
      construct_fine : (g : Env) (d : Ex) (n c j : ℕ) (es : Exs) → ((b : Body) → L.body c j ≡ Some b → RunsMaker L Made V g d n es b) → (v : Value)
          (vs : List Value) (s : State) (k : ToValue) → Good s.cells s.statics → Of s.cells v (steps.only L Made V inc hooks n) → Ins s.cells g vs es
          → ((s1 : State) → From s.cells s1.cells s1.statics → Fine (k v s1)) → Fine (construct L later g d c j v vs s k)
      construct_fine g d n c j es mr v vs s k ok iv ivs h =
          some_fine (L.body c j) s _ (λ b eb.
          let r = mr b eb in
          let in_spot : (p : Spot) → V.spot p (Some n) ≡ true → Of s.cells v (V.spot p) = λ p e.
          of_sub s.cells v (steps.only L Made V inc hooks n) (V.spot p) (steps.only_sub L Made V inc hooks n (V.spot p) e) iv in
          let self = in_spot (self_of b.env.body) r.self in
          steps.look_fine L Made V inc hooks (ran g.body d b.env.body) v s _ (in_spot (ran g.body d b.env.body) r.receiver) (λ m1.
          let s1 = record s { met = m1 } in
          steps.look_fine L Made V inc hooks (self_of b.env.body) v s1 _ self (λ m2.
          enter_fine b v vs (record s1 { met = m2 }) (λ u s3. k v s3) (inc.bodies c j b eb) ok self
          (steps.ins_args L Made V inc hooks s.cells g vs es _ ivs r.args) (λ u s3 r3 o3. h s3 r3))))

      -- a creation, with the constructor of its class where it has one
      make_object_fine : (g : Env) (d : Ex) (n c : ℕ) (es : Exs) → Makes L Made V g d n (an_object c) → MakerRuns L Made V g d n c es → (vs : List Value)
          (s : State) (k : ToValue) → Good s.cells s.statics → Ins s.cells g vs es → KV s.cells (V.value g.body d) k
          → Fine (make_object L later g d n c vs s k)
      unfolding MakerRuns
      make_object_fine g d n c es mk mr vs s k ok ivs h = go (L.maker c) refl
        where
          go : (z : Option ℕ) → L.maker c ≡ z → Fine (made_by L later g d n c z vs s k)
          go None e = steps.made_fine L Made V inc hooks later g d n c vs mk s k ok h
          go (Some j) e =
              step_fine s _ (λ l1. step_fine (record s { left = l1 }) _ (λ l2. step_fine (record s { left = l2 }) _ (λ l3.
              steps.make_fine L Made V inc hooks g d n (an_object c) (L.fresh c) mk (inc.fresh c) (record s { left = l3 })
              (λ v s4. construct L later g d c j v vs s4 k) ok (λ v s4 r4 o4.
              construct_fine g d n c j es (λ b eb. mr j b e eb) v vs s4 k r4.good o4 (steps.ins_kept L Made V inc hooks s.cells s4.cells g vs es r4.keeps ivs)
              (λ s5 r5. h v s5 (steps.from_on L Made V inc hooks s.cells s4.cells s5.cells s5.statics r4.keeps r5)
              (of_kept s4.cells s5.cells v (V.value g.body d) r5.keeps (of_sub s4.cells v (steps.only L Made V inc hooks n) (V.value g.body d)
              (steps.only_sub L Made V inc hooks n (V.value g.body d) mk.holds) o4)))))))

      mutual
        value_fine : (e : Ex) (f : Frame) (s : State) (k : ToValue) → Included L Made V f.env e → Good s.cells s.statics → FrameIn s.cells f
            → KV s.cells (V.value f.env.body e) k → Fine (value L later e f s k)
        value_fine (number t n) f s k i ok fo h = h (Number n) s (steps.here L Made V inc hooks s.cells s.statics ok) tt
        value_fine (character t c) f s k i ok fo h = h (CodeUnit c) s (steps.here L Made V inc hooks s.cells s.statics ok) tt
        value_fine (text t u) f s k i ok fo h = steps.string_fine L Made V inc hooks u s (V.value f.env.body (text t u)) k ok h
        value_fine (truth t b) f s k i ok fo h = h (Truth b) s (steps.here L Made V inc hooks s.cells s.statics ok) tt
        value_fine (null t) f s k i ok fo h = h Nothing s (steps.here L Made V inc hooks s.cells s.statics ok) tt
        value_fine (this t) f s k i ok fo h =
            h f.self s (steps.here L Made V inc hooks s.cells s.statics ok) (of_sub s.cells f.self (V.spot (self_of f.env.body))
            (V.value f.env.body (this t)) i fo.self)
        value_fine (local t x) f s k i ok fo h =
            some_fine (slice_get f.locals x) s _ (λ v e. h v s (steps.here L Made V inc hooks s.cells s.statics ok)
            (of_sub s.cells v (V.spot (bound f.env.body x))
            (V.value f.env.body (local t x)) i (fo.locals x v e)))
        value_fine (static_field t x) f s k i ok fo h =
            some_fine (slice_get s.statics x) s _ (λ v e. h v s (steps.here L Made V inc hooks s.cells s.statics ok) (of_sub s.cells v (V.spot (set_static x))
            (V.value f.env.body (static_field t x)) i (ok.statics x v e)))
        value_fine (own_field t x) f s k i ok fo h =
            cell_fine f.self (V.value f.env.body (this t)) s _ (of_sub s.cells f.self (V.spot (self_of f.env.body)) (V.value f.env.body (this t)) i.0
            fo.self) (λ a c at mem.
            steps.read_field_fine L Made V inc hooks f.env (this t) (own_field t x) (Some x) i.1 a c s k ok at mem h)
        value_fine (field t e x) f s k i ok fo h =
            value_fine e f s _ i.0 ok fo (λ v s1 r iv. cell_fine v (V.value f.env.body e) s1 _ iv (λ a c at mem.
            steps.member_fine L Made V inc hooks f.env e (field t e x) x i.1 c.kind a c s1 k r.good at mem
            (kv_on s.cells s1.cells (V.value f.env.body (field t e x)) k r.keeps h)))
        value_fine (index t e y) f s k i ok fo h =
            value_fine e f s _ i.0 ok fo (λ v s1 r iv. value_fine y f s1 _ i.1 r.good (steps.frame_kept L Made V inc hooks s.cells s1.cells f r.keeps fo)
            (λ w s2 r2 iw. some_fine (number_of w) s2 _ (λ n en.
            steps.read_element_fine L Made V inc hooks f.env e (index t e y) i.2 v n s2 k r2.good
            (of_kept s1.cells s2.cells v (V.value f.env.body e) r2.keeps iv)
            (kv_on s.cells s2.cells (V.value f.env.body (index t e y)) k (keeps_on s.cells s1.cells s2.cells r.keeps r2.keeps) h))))
        value_fine (call t e x es) f s k i ok fo h =
            value_fine e f s _ i.0 ok fo (λ v s1 r iv. values_fine es f s1 _ i.1 r.good (steps.frame_kept L Made V inc hooks s.cells s1.cells f
            r.keeps fo) (λ vs s2 r2 ivs.
            call_fine f.env e (call t e x es) x es i.2 v vs s2 k r2.good (of_kept s1.cells s2.cells v (V.value f.env.body e) r2.keeps iv) ivs
            (kv_on s.cells s2.cells (V.value f.env.body (call t e x es)) k (keeps_on s.cells s1.cells s2.cells r.keeps r2.keeps) h)))
        value_fine (static_call t m es) f s k i ok fo h =
            values_fine es f s _ i.0 ok fo (λ vs s1 r ivs. call_static_fine f.env (static_call t m es) m es i.1 vs s1 k r.good ivs
            (kv_on s.cells s1.cells (V.value f.env.body (static_call t m es)) k r.keeps h))
        value_fine (super_call t x es) f s k i ok fo h =
            values_fine es f s _ i.0 ok fo (λ vs s1 r ivs. call_super_fine f.env (super_call t x es) x es i.1 f.self vs s1 k r.good
            (of_kept s.cells s1.cells f.self (V.spot (self_of f.env.body)) r.keeps fo.self) ivs
            (kv_on s.cells s1.cells (V.value f.env.body (super_call t x es)) k r.keeps h))
        value_fine (create t n c es) f s k i ok fo h =
            values_fine es f s _ i.0 ok fo (λ vs s1 r ivs. make_object_fine f.env (create t n c es) n c es i.1 i.2 vs s1 k r.good ivs
            (kv_on s.cells s1.cells (V.value f.env.body (create t n c es)) k r.keeps h))
        value_fine (create_array t n u e) f s k i ok fo h =
            value_fine e f s _ i.0 ok fo (λ v s1 r iv. some_fine (number_of v) s1 _ (λ size es.
            steps.make_array_fine L Made V inc hooks f.env (create_array t n u e) n u size i.1 s1 k r.good
            (kv_on s.cells s1.cells (V.value f.env.body (create_array t n u e)) k r.keeps h)))
        value_fine (cast t n u e) f s k i ok fo h =
            value_fine e f s _ i.0 ok fo (λ v s1 r iv. steps.cast_fine L Made V inc hooks f.env (cast t n u e) e u i.1 i.2 v s1 k r.good iv
            (kv_on s.cells s1.cells (V.value f.env.body (cast t n u e)) k r.keeps h))
        value_fine (instance_of t n e c) f s k i ok fo h =
            value_fine e f s _ i.0 ok fo (λ v s1 r iv. steps.test_class_fine L Made V inc hooks f.env (instance_of t n e c) e c i.1 v s1 k r.good iv
            (kv_on s.cells s1.cells (V.value f.env.body (instance_of t n e c)) k r.keeps h))
        value_fine (unary t o e) f s k i ok fo h =
            value_fine e f s _ i ok fo (λ v s1 r iv. steps.unary_fine L Made V inc hooks o v s1 (V.value f.env.body (unary t o e)) k r.good
            (kv_on s.cells s1.cells (V.value f.env.body (unary t o e)) k r.keeps h))
        value_fine (binary t o e d) f s k i ok fo h =
            value_fine e f s _ i.0 ok fo (λ v s1 r iv. steps.after_left_fine L Made V inc hooks o v s1 _ (V.value f.env.body (binary t o e d)) k r.good
            (value_fine d f s1 _ i.1 r.good (steps.frame_kept L Made V inc hooks s.cells s1.cells f r.keeps fo)
            (λ w s2 r2 iw. steps.operate_fine L Made V inc hooks o v w s2 (V.value f.env.body (binary t o e d)) k r2.good
            (kv_on s.cells s2.cells (V.value f.env.body (binary t o e d)) k (keeps_on s.cells s1.cells s2.cells r.keeps r2.keeps) h)))
            (kv_on s.cells s1.cells (V.value f.env.body (binary t o e d)) k r.keeps h))

        values_fine : (es : Exs) (f : Frame) (s : State) (k : List Value → State → Outcome) → IncludedAll L Made V f.env es → Good s.cells s.statics
            → FrameIn s.cells f
            → ((vs : List Value) (s1 : State) → From s.cells s1.cells s1.statics → Ins s1.cells f.env vs es → Fine (k vs s1)) → Fine (values L later es f s k)
        values_fine no_ex f s k i ok fo h = h [] s (steps.here L Made V inc hooks s.cells s.statics ok) tt
        values_fine (ex_then e es) f s k i ok fo h =
            value_fine e f s _ i.0 ok fo (λ v s1 r iv. values_fine es f s1 _ i.1 r.good (steps.frame_kept L Made V inc hooks s.cells s1.cells f
            r.keeps fo) (λ vs s2 r2 ivs.
            h (v ∷ vs) s2 (steps.from_on L Made V inc hooks s.cells s1.cells s2.cells s2.statics r.keeps r2)
            (of_kept s1.cells s2.cells v (V.value f.env.body e) r2.keeps iv, ivs)))

      -- the parts of statements
      run_test_fine : (o : Option Ex) (f : Frame) (s : State) (x y : State → Outcome) → OfOption (Included L Made V f.env) o → Good s.cells s.statics
          → FrameIn s.cells f → KS s.cells x → KS s.cells y → Fine (run_test L later o f s x y)
      run_test_fine None f s x y i ok fo h d = h s (steps.here L Made V inc hooks s.cells s.statics ok)
      run_test_fine (Some e) f s x y i ok fo h d = value_fine e f s _ i ok fo (λ v s1 r iv. test_fine v s1 x y (h s1 r) (d s1 r))

      print_fine : (l : Bool) (o : Option Ex) (f : Frame) (s : State) (k : State → Outcome) → OfOption (Included L Made V f.env) o → Good s.cells s.statics
          → FrameIn s.cells f → KS s.cells k → Fine (run_print L later l o f s k)
      print_fine l None f s k i ok fo h = h _ (steps.here L Made V inc hooks s.cells s.statics ok)
      print_fine l (Some e) f s k i ok fo h = value_fine e f s _ i ok fo (λ v s1 r iv. some_fine (text_of s1.strings v) s1 _ (λ u eu. h _ r))

      initial_fine : (x : ℕ) (o : Option Ex) (f : Frame) (s : State) (k : ToFlow) → Sets L Made V f.env o (bound f.env.body x)
          → Good s.cells s.statics → FrameIn s.cells f → KF f.env s.cells k → Fine (run_initial L later x o f s k)
      initial_fine x None f s k i ok fo h = h Next f s (steps.here L Made V inc hooks s.cells s.statics ok) refl fo tt
      initial_fine x (Some e) f s k i ok fo h =
          value_fine e f s _ i.0 ok fo (λ v s1 r iv. steps.write_local_fine L Made V inc hooks x v f s1 k r.good
          (steps.frame_kept L Made V inc hooks s.cells s1.cells f r.keeps fo)
          (of_sub s1.cells v (V.value f.env.body e) (V.spot (bound f.env.body x)) i.1 iv)
          (steps.kf_on L Made V inc hooks f.env f.env s.cells s1.cells k refl r.keeps h))

      declare_fine : (x : ℕ) (o : Option Ex) (f : Frame) (s : State) (k : ToFlow) → Sets L Made V f.env o (bound f.env.body x)
          → Good s.cells s.statics → FrameIn s.cells f → KF f.env s.cells k → Fine (run_declare L later x o f s k)
      declare_fine x o f s k i ok fo h =
          some_fine (slice_get f.env.locals x) s _ (λ t et. some_fine (slice_get f.locals x) s _ (λ old eo.
          initial_fine x o (set_local f x (default_of t)) s k i ok (steps.frame_set L Made V inc hooks s.cells f x (default_of t) fo
          (plain_of s.cells (default_of t) (V.spot (bound f.env.body x)) (λ a e. default_plain t.base t.dim a e))) h))

      return_fine : (o : Option Ex) (f : Frame) (s : State) (k : ToFlow) → Sets L Made V f.env o (result_of f.env.body) → Good s.cells s.statics
          → FrameIn s.cells f → KF f.env s.cells k → Fine (run_return L later o f s k)
      return_fine None f s k i ok fo h = h (Gave Nothing) f s (steps.here L Made V inc hooks s.cells s.statics ok) refl fo tt
      return_fine (Some e) f s k i ok fo h =
          value_fine e f s _ i.0 ok fo (λ v s1 r iv. some_fine f.env.result s1 _ (λ t et.
          let o = of_convert s1.cells t v (V.spot (result_of f.env.body)) (of_sub s1.cells v (V.value f.env.body e) (V.spot (result_of f.env.body)) i.1 iv) in
          steps.look_fine L Made V inc hooks (result_of f.env.body) (convert t v) s1 _ o (λ m. h (Gave (convert t v)) f (record s1 { met = m }) r refl
          (steps.frame_kept L Made V inc hooks s.cells s1.cells f r.keeps fo) o)))

      assign_fine : (b : Target) (d : Ex) (f : Frame) (s : State) (k : ToFlow) → Assigns L Made V f.env b d → Good s.cells s.statics
          → FrameIn s.cells f → KF f.env s.cells k → Fine (run_assign L later b d f s k)
      assign_fine (to_local t x) d f s k i ok fo h =
          value_fine d f s _ i.0 ok fo (λ v s1 r iv. steps.write_local_fine L Made V inc hooks x v f s1 k r.good
          (steps.frame_kept L Made V inc hooks s.cells s1.cells f r.keeps fo)
          (of_sub s1.cells v (V.value f.env.body d) (V.spot (bound f.env.body x)) i.1 iv)
          (steps.kf_on L Made V inc hooks f.env f.env s.cells s1.cells k refl r.keeps h))
      assign_fine (to_static t x) d f s k i ok fo h =
          value_fine d f s _ i.0 ok fo (λ v s1 r iv. steps.write_static_fine L Made V inc hooks x v s1 _ r.good (of_sub s1.cells v (V.value f.env.body d)
          (V.spot (set_static x)) i.1 iv) (λ s2 r2.
          let q = steps.from_on L Made V inc hooks s.cells s1.cells s2.cells s2.statics r.keeps r2 in h Next f s2 q refl
          (steps.frame_kept L Made V inc hooks s.cells s2.cells f q.keeps fo) tt))
      assign_fine (to_own t x) d f s k i ok fo h =
          value_fine d f s _ i.0 ok fo (λ v s1 r iv.
          cell_fine f.self (V.value f.env.body (this t)) s1 _ (of_sub s1.cells f.self (V.spot (self_of f.env.body)) (V.value f.env.body (this t)) i.1
          (of_kept s.cells s1.cells f.self (V.spot (self_of f.env.body)) r.keeps fo.self)) (λ a c at mem.
          steps.write_field_fine L Made V inc hooks f.env (this t) d (Some x) i.2 v a c s1 _ r.good at mem iv (λ s2 r2.
          let q = steps.from_on L Made V inc hooks s.cells s1.cells s2.cells s2.statics r.keeps r2 in h Next f s2 q refl
          (steps.frame_kept L Made V inc hooks s.cells s2.cells f q.keeps fo) tt)))
      assign_fine (to_field t e x) d f s k i ok fo h =
          value_fine e f s _ i.0 ok fo (λ v s1 r iv. value_fine d f s1 _ i.1 r.good (steps.frame_kept L Made V inc hooks s.cells s1.cells f r.keeps
          fo) (λ w s2 r2 iw.
          cell_fine v (V.value f.env.body e) s2 _ (of_kept s1.cells s2.cells v (V.value f.env.body e) r2.keeps iv) (λ a c at mem.
          steps.write_field_fine L Made V inc hooks f.env e d (L.field f.env e x) i.2 w a c s2 _ r2.good at mem iw (λ s3 r3.
          let q = steps.from_on L Made V inc hooks s.cells s1.cells s3.cells s3.statics r.keeps
          (steps.from_on L Made V inc hooks s1.cells s2.cells s3.cells s3.statics r2.keeps r3) in h Next f s3 q
          refl (steps.frame_kept L Made V inc hooks s.cells s3.cells f q.keeps fo) tt))))
      assign_fine (to_element t e y) d f s k i ok fo h =
          value_fine e f s _ i.0 ok fo (λ v s1 r iv. value_fine y f s1 _ i.1 r.good (steps.frame_kept L Made V inc hooks s.cells s1.cells f r.keeps
          fo) (λ w s2 r2 iw.
          let k2 = keeps_on s.cells s1.cells s2.cells r.keeps r2.keeps in
          value_fine d f s2 _ i.2 r2.good (steps.frame_kept L Made V inc hooks s.cells s2.cells f k2 fo) (λ u s3 r3 iu. some_fine (number_of w) s3 _ (λ n en.
          steps.write_element_fine L Made V inc hooks f.env e d i.3 v n u s3 _ r3.good (of_kept s1.cells s3.cells v (V.value f.env.body e)
          (keeps_on s1.cells s2.cells s3.cells r2.keeps r3.keeps) iv) iu (λ s4 r4.
          let q = steps.from_on L Made V inc hooks s.cells s2.cells s4.cells s4.statics k2
          (steps.from_on L Made V inc hooks s2.cells s3.cells s4.cells s4.statics r3.keeps r4) in h Next f s4 q refl
          (steps.frame_kept L Made V inc hooks s.cells s4.cells f q.keeps fo) tt)))))
      assign_fine no_target d f s k i ok fo h = fine_stop Wrong s tt

      mutual
        one_fine : (x : St) (f : Frame) (s : State) (k : ToFlow) → InSt (included L Made V f.env) x → Good s.cells s.statics → FrameIn s.cells f
            → KF f.env s.cells k → Fine (run_one L later x f s k)
        one_fine (declare t x e) f s k i ok fo h = declare_fine x e f s k i ok fo h
        one_fine (block t xs) f s k i ok fo h = all_fine xs f s k i ok fo h
        one_fine (assign t b e) f s k i ok fo h = assign_fine b e f s k i ok fo h
        one_fine (act t e) f s k i ok fo h =
            value_fine e f s _ i ok fo (λ v s1 r iv. h Next f s1 r refl (steps.frame_kept L Made V inc hooks s.cells s1.cells f r.keeps fo) tt)
        one_fine (print t l e) f s k i ok fo h =
            print_fine l e f s _ i ok fo (λ s1 r. h Next f s1 r refl (steps.frame_kept L Made V inc hooks s.cells s1.cells f r.keeps fo) tt)
        one_fine (choose t xs) f s k i ok fo h = arms_fine xs f s k i ok fo h
        one_fine (loop t is_while first test last body) f s k i ok fo h =
            all_fine first f s _ i.0 ok fo (λ w f1 s1 r e1 fo1 wo.
            let h1 = steps.kf_on L Made V inc hooks f.env f1.env s.cells s1.cells k e1 r.keeps h in
            let again : InSts (included L Made V f1.env) (st_then (loop t is_while no_st test last body) no_st) = subst
            (λ g. InSts (included L Made V g) (st_then (loop t is_while no_st test last body) no_st)) (sym e1) ((tt, i.1, i.2, i.3), tt) in
            steps.after_one_fine L Made V inc hooks f1.env w f1 s1 k _ r.good refl fo1 (subst (λ g. FlowIn g s1.cells w) (sym e1) wo) h1
            (run_test_fine test f1 s1 _ _ again.0.1 r.good fo1
            (λ s3 r3. step_fine s3 _ (λ n. let s4 = record s3 { left = n } in
            all_fine body f1 s4 _ again.0.3 r3.good (steps.frame_kept L Made V inc hooks s1.cells s3.cells f1 r3.keeps fo1) (λ w3 f3 s5 r5 e3 fo3 wo3.
            let k5 = keeps_on s1.cells s3.cells s5.cells r3.keeps r5.keeps in
            let h3 = steps.kf_on L Made V inc hooks f1.env f3.env s1.cells s5.cells k e3 k5 h1 in
            let again3 : InSts (included L Made V f3.env) (st_then (loop t is_while no_st test last body) no_st) = subst
            (λ g. InSts (included L Made V g) (st_then (loop t is_while no_st test last body) no_st)) (sym e3) again in
            steps.after_turn_fine L Made V inc hooks f3.env w3 f3 s5 k _ r5.good refl fo3 (subst (λ g. FlowIn g s5.cells w3) (sym e3) wo3) h3
            (all_fine last f3 s5 _ again3.0.2 r5.good fo3 (λ w5 f5 s7 r7 e5 fo5 wo5.
            let h5 = steps.kf_on L Made V inc hooks f3.env f5.env s5.cells s7.cells k e5 r7.keeps h3 in
            steps.after_one_fine L Made V inc hooks f5.env w5 f5 s7 k _ r7.good refl fo5 (subst (λ g. FlowIn g s7.cells w5) (sym e5) wo5) h5
            (next.runs (st_then (loop t is_while no_st test last body) no_st) f5 s7 k
            (subst (λ g. InSts (included L Made V g) (st_then (loop t is_while no_st test last body) no_st)) (sym e5) again3) r7.good fo5 h5))))))
            (λ s3 r3. h1 Next f1 s3 r3 refl (steps.frame_kept L Made V inc hooks s1.cells s3.cells f1 r3.keeps fo1) tt)))
        one_fine (return t e) f s k i ok fo h = return_fine e f s k i ok fo h
        one_fine (break t) f s k i ok fo h = h Broke f s (steps.here L Made V inc hooks s.cells s.statics ok) refl fo tt
        one_fine (continue t) f s k i ok fo h = h Continued f s (steps.here L Made V inc hooks s.cells s.statics ok) refl fo tt

        all_fine : (xs : Sts) (f : Frame) (s : State) (k : ToFlow) → InSts (included L Made V f.env) xs → Good s.cells s.statics → FrameIn s.cells f
            → KF f.env s.cells k → Fine (run_all L later xs f s k)
        all_fine no_st f s k i ok fo h = h Next f s (steps.here L Made V inc hooks s.cells s.statics ok) refl fo tt
        all_fine (st_then x xs) f s k i ok fo h =
            one_fine x f s _ i.0 ok fo (λ w f1 s1 r e1 fo1 wo.
            let h1 = steps.kf_on L Made V inc hooks f.env f1.env s.cells s1.cells k e1 r.keeps h in
            steps.after_one_fine L Made V inc hooks f1.env w f1 s1 k _ r.good refl fo1 (subst (λ g. FlowIn g s1.cells w) (sym e1) wo) h1
            (all_fine xs f1 s1 k (subst (λ g. InSts (included L Made V g) xs) (sym e1) i.1) r.good fo1 h1))

        arms_fine : (xs : IfArms) (f : Frame) (s : State) (k : ToFlow) → InArms (included L Made V f.env) xs → Good s.cells s.statics → FrameIn s.cells f
            → KF f.env s.cells k → Fine (run_arms L later xs f s k)
        arms_fine no_other f s k i ok fo h = h Next f s (steps.here L Made V inc hooks s.cells s.statics ok) refl fo tt
        arms_fine (otherwise xs) f s k i ok fo h = all_fine xs f s k i ok fo h
        arms_fine (arm e xs more) f s k i ok fo h =
            value_fine e f s _ i.0 ok fo (λ v s1 r iv.
            let fo1 = steps.frame_kept L Made V inc hooks s.cells s1.cells f r.keeps fo in
            let h1 = steps.kf_on L Made V inc hooks f.env f.env s.cells s1.cells k refl r.keeps h in
            test_fine v s1 _ _ (all_fine xs f s1 k i.1 r.good fo1 h1) (arms_fine more f s1 k i.2 r.good fo1 h1))

  meaning_in : (n : ℕ) → NextIn (meaning L n)
  meaning_in zero = record { runs = λ xs f s k i ok fo h. fine_stop Going s tt }
  meaning_in (suc n) = record { runs = λ xs f s k i ok fo h. all_fine (meaning L n) (meaning_in n) xs f s k i ok fo h }

  only_cell : (c d : Cell) (a : ℕ) → slice_get (c ∷ []) a ≡ Some d → c ≡ d
  only_cell c d zero e = same_Some c d e
  only_cell c d (suc a) e = absurd (cc)

  start_good : (words : List (List ℕ)) (n : ℕ) → Made None (an_array words_type) → Good (start L words n).cells (start L words n).statics
  start_good words n made = record {
    cells = λ a c e. subst (λ z. steps.CellIn L Made V inc hooks (words_cell words ∷ []) z) (only_cell (words_cell words) c a e) (record {
      made = made;
      values = steps.values_plain L Made V inc hooks (words_cell words ∷ []) None (an_array words_type) (texts 0 (length words)) (texts_plain 0 (length words));
    });
    statics = λ x v e. plain_of (words_cell words ∷ []) v (V.spot (set_static x)) (λ a d. inc.statics x a (e ∙ ap (λ z. Some z) d));
  }

  pub run_stays : (m : ℕ) → Begins L Made V m → (words : List (List ℕ)) (n : ℕ) → Stays (run_in L m words n).end
  unfolding run_in
  run_stays m b words n = (go (some_fine (L.static_body m) (start L words n) _ (λ d ed.
      let s = start L words n in
      enter_fine (meaning L (suc n)) (meaning_in (suc n)) d Nothing (Object 0 ∷ []) s (λ v s. stop Ended s) (inc.static_bodies m d ed)
      (start_good words n b.made) tt
      (record { cell = words_cell words; there = refl; member = b.words d ed }, tt) (λ v s1 r o. fine_stop Ended s1 tt))))
    where
      go : {o : Outcome} → Fine o → Stays o.end
      go f = f.stays
