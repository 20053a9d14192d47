-- Calls and creations in two languages that are twins, where what comes after a step is alike.
use Rattle.std.proofs.Common.{◌≡◌, ℕ, zero, suc, List, [], ◌∷◌, ◌++◌, Option, Some, None, length, refl, sym, ap, ◌∙◌, subst}
use Rattle.std.specs.Prelude.{true, slice_get}
use Rattle.java_core.specs.Trees.{Tag, Ex, Exs, no_ex, local, call, create, Sts, declare, act, return, st_then, no_st}
use Rattle.java_core.specs.Types.{Env}
use Rattle.java_core.specs.declared.Fault.TheVariants as fault
use Rattle.java_meaning.specs.Moment.{Value, Number, Truth, CodeUnit, Nothing, Text, Object, Kind, an_object, an_array, Cell, held, bound, self_of, ran, Met, State, Frame, Faulted, Going, Wrong, Outcome, stop, Body, Lang, step, step_of, with_some, look, look_all}
use Rattle.java_meaning.specs.Values.{arguments}
use Rattle.java_meaning.specs.Meaning.{Flow, Next, Broke, Continued, Gave, ToValue, ToFlow, Later, add_cell, given, enter, call_object, text_method, call_on, call_static, call_super, new_object, construct, made_by, make_object, run_all}
use Rattle.java_meaning.proofs.Sound.{get_last}
use Rattle.rebuild_model.specs.Makes.{IsMakeCode, makes}
use Rattle.flow_laws.specs.cover.Families.{Set}
use Rattle.flow_laws.specs.cover.Watched.{Of}
use Rattle.flow_laws.proofs.cover.Held.{Keeps, of_kept, keeps_on, keeps_add, member_of, plain_of}
use Rattle.rebuild_laws.specs.twins.Twins.{Link, HasPair, BothPair, SameNew, SameCall, SameMaker, neither_makes, both_make, SameMake, many, SameSts, SameEnv, AreTwins}
use Rattle.rebuild_laws.proofs.twins.Shapes.{same_arguments, arguments_there, arguments_on}
use Rattle.rebuild_laws.proofs.twins.States.{Alike, wrong_first, first_some, second_some, equals, frame, SameValues, same_fields, same_elements, SameState, HeldIn, KV, KF, kv_on, ends_alike, noted, stepped, with_added, same_length, ended, steps, cells_at}
use Rattle.rebuild_laws.proofs.twins.Moves.{looks, looks_first, first_look, looks_all, given_on, cell_there, bare_made}
use Rattle.rebuild_laws.proofs.twins.Operators.{string_called}
use Rattle.rebuild_laws.proofs.twins.MadeCode.{second_spent, second_look, gives_back, calls, created_not, created, called as make_begun}

module _ (L M : Lang) (K : Link) (Made : Option ℕ → Kind → Kind → Type 0) (Pair : Body → Body → Type 0) (twins : AreTwins L M K Made Pair) where
  abbrev R : State → State → Type 0
  R s t = SameState L M K Made s t

  abbrev In : Env → State → Value → List Value → Type 0
  In g s v ls = HeldIn L M K Made g s.cells v ls

  abbrev F : Env → Env → State → ToFlow → ToFlow → Type 0
  F g h s k j = KF L M K Made g h s.cells k j

  abbrev V : State → Set → ToValue → ToValue → Type 0
  V s X k j = KV L M K Made s.cells X k j

  -- what a call gives, before it is looked at
  abbrev G : State → ToValue → ToValue → Type 0
  G s k j = (v : Value) (s1 t1 : State) → R s1 t1 → Keeps s.cells s1.cells → Alike (k v s1) (j v t1)

  same_given : (b c : Body) → b.ends ≡ c.ends → (w : Flow) → given b w ≡ given c w
  same_given b c e Next = e
  same_given b c e Broke = e
  same_given b c e Continued = e
  same_given b c e (Gave v) = refl

  -- arguments that were looked at, before the values that the other locals begin with
  locals_in : (h : List Cell) (n : ℕ) (ws rest : List Value) → ((i : ℕ) (v : Value) → slice_get ws i ≡ Some v → Of h v (K.may (bound n i)))
      → ((i : ℕ) (v : Value) → slice_get rest i ≡ Some v → (X : Set) → Of h v X)
      → (i : ℕ) (v : Value) → slice_get (ws ++ rest) i ≡ Some v → Of h v (K.may (bound n i))
  locals_in h n ws rest p q i v e = go ws i (K.may (bound n i)) (p i v) e
    where
      go : (ws : List Value) (i : ℕ) (X : Set) → (slice_get ws i ≡ Some v → Of h v X) → slice_get (ws ++ rest) i ≡ Some v → Of h v X
      go [] i X f d = q i v d X
      go (w ∷ ws) zero X f d = f d
      go (w ∷ ws) (suc i) X f d = go ws i X f d

  module _ (later next : Later) where
    -- what comes after a step is alike
    pub record NextAlike : Type 0 where
      pub runs : (g h : Env) → SameEnv L M K Made Pair g h → (xs ys : Sts) → SameSts L M K Made Pair g h xs ys
          → (v : Value) (ls : List Value) (s t : State) (k j : ToFlow) → R s t → In g s v ls → F g h s k j
          → Alike (later xs (frame g v ls) s k) (next ys (frame h v ls) t j)
      -- and in the second it is what the statements themselves do
      pub unfolds : (xs : Sts) (f : Frame) (s : State) (k : ToFlow) → next xs f s k ≡ run_all M next xs f s k

    module _ (more : NextAlike) where
      pub entered : (b c : Body) → Pair b c → (v : Value) (vs : List Value) (s t : State) (k j : ToValue) → R s t → Of s.cells v (K.may (self_of b.env.body))
          → G s k j
          → Alike (enter L later b v vs s k) (enter M next c v vs t j)
      entered b c p v vs s t k j r o q =
          let z = twins.pairs b c p in
          equals (arguments b.params vs) (arguments c.params vs) s t _ _ (same_arguments vs b.params c.params z.params) (λ ws.
          looks_all L M K Made Pair twins b.env.body c.env.body ws ws s t _ _ r (λ m n r1 seen.
          subst (λ l. Alike (later b.code (frame b.env v (ws ++ b.rest)) (record s { met = m }) (λ w f s2. k (given b w) s2))
          (next c.code (frame c.env v l) (record t { met = n }) (λ w f t2. j (given c w) t2)))
          (ap (λ l. ws ++ l) z.rest)
          (more.runs b.env c.env z.env b.code c.code z.code v (ws ++ b.rest) (record s { met = m }) (record t { met = n }) _ _ r1
          (record {
            self = o;
            locals = locals_in s.cells b.env.body ws b.rest (twins.sees_all b.env.body ws s.cells seen)
                (λ i u e X. plain_of s.cells u X (λ a d. z.plain i a (e ∙ ap (λ y. Some y) d)));
          })
          (λ w v2 ls2 s2 t2 r2 k2 i2. subst (λ y. Alike (k (given b w) s2) (j y t2)) (same_given b c z.ends w) (q (given b w) s2 t2 r2 k2)))))

      object_called : (g h : Env) (a e d a2 : Ex) (x y : List ℕ) → SameCall L M K Made Pair g h a e d x y
          → (at : ℕ) (o p : Option ℕ) (k l : Kind) (xs ys vs : List Value) → Made o k l → SameValues L M K Made o k l xs ys
          → (s t : State) (go on : ToValue) → R s t → slice_get s.cells at ≡ Some (record { site = o; kind = k; values = xs })
          → V s (K.may (held g.body a)) go on
          → Alike (call_object L later g e a x at (record { site = o; kind = k; values = xs }) vs s go)
          (call_object M next h d a2 y at (record { site = p; kind = l; values = ys }) vs t on)
      object_called g h a e d a2 x y f at o p k l xs ys vs made (same_fields {c = c} {k = c2} same) s t go on r there q =
          steps L M K Made s t _ _ r (λ n r0.
          let s1 = record s { left = n } in let t1 = record t { left = n } in
          first_some (L.slot g e x) s1 _ _ (λ i ei. first_some (L.body c i) s1 _ _ (λ b eb.
          looks_first L M K Made Pair twins (ran g.body a b.env.body) (Object at) s1 _ _ (λ seen.
          let found = f.bodies o c c2 i b made ei eb
          (member_of s.cells at (record { site = o; kind = an_object c; values = xs }) (K.may (ran g.body a b.env.body))
          (twins.sees (ran g.body a b.env.body) (Object at) s.cells seen) there) in
          let b2 = found.runs.body in
          second_some (M.slot h d y) found.slot t1 _ _ found.called (second_some (M.body c2 found.slot) b2 t1 _ _ found.runs.found
          (looks L M K Made Pair twins (ran g.body a b.env.body) (ran h.body a2 b2.env.body) (Object at) (Object at) s1 t1 _ _ r0 (λ m2 n2 r2 o2.
          looks L M K Made Pair twins (self_of b.env.body) (self_of b2.env.body) (Object at) (Object at) (record s1 { met = m2 })
          (record t1 { met = n2 }) _ _ r2 (λ m3 n3 r3 o3.
          entered b b2 found.runs.pair (Object at) vs (record s1 { met = m3 }) (record t1 { met = n3 }) _ _ r3 o3 (λ u s4 t4 r4 k4.
          given_on L M K Made Pair twins g.body h.body a a2 u u s4 t4 go on refl r4
          (kv_on L M K Made s.cells s4.cells (K.may (held g.body a)) go on k4 q))))))))))
      object_called g h a e d a2 x y f at o p k l xs ys vs made (same_elements {t = w} {u = w2} shape) s t go on r there q =
          wrong_first s (call_object M next h d a2 y at (record { site = p; kind = an_array w2; values = xs }) vs t on)

      pub called : (g h : Env) (a e d a2 : Ex) (x y : List ℕ) → SameCall L M K Made Pair g h a e d x y
          → (v : Value) (vs : List Value) (s t : State) (k j : ToValue)
          → R s t → V s (K.may (held g.body a)) k j
          → Alike (call_on L later g e a x v vs s k) (call_on M next h d a2 y v vs t j)
      called g h a e d a2 x y f Nothing vs s t k j r q = ended L M K Made (Faulted fault.Null) s t r
      called g h a e d a2 x y f (Text at) vs s t k j r q =
          equals (slice_get s.strings at) (slice_get t.strings at) s t _ _ (ap (λ z. slice_get z at) r.strings) (λ u.
          first_some (text_method (L.slot g e x) x) s _ _ (λ m em. second_some (text_method (M.slot h d y) y) m t _ _ (f.texts m em)
          (string_called L M K Made m u vs s t (K.may (held g.body a)) k j r q)))
      called g h a e d a2 x y f (Object at) vs s t k j r q =
          cells_at L M K Made at s t _ _ r (λ c c2 ec same.
          object_called g h a e d a2 x y f at c.site c2.site c.kind c2.kind c.values c2.values vs same.made same.values s t k j r ec q)
      called g h a e d a2 x y f (Number n) vs s t k j r q = wrong_first s (stop Wrong t)
      called g h a e d a2 x y f (Truth n) vs s t k j r q = wrong_first s (stop Wrong t)
      called g h a e d a2 x y f (CodeUnit n) vs s t k j r q = wrong_first s (stop Wrong t)

      pub static_called : (g h : Env) (a a2 : Ex) (m n : ℕ) → BothPair L M K Made Pair (L.static_body m) (M.static_body n)
          → (vs : List Value) (s t : State) (k j : ToValue) → R s t → V s (K.may (held g.body a)) k j
          → Alike (call_static L later g a m vs s k) (call_static M next h a2 n vs t j)
      static_called g h a a2 m n f vs s t k j r q =
          steps L M K Made s t _ _ r (λ l r1. first_some (L.static_body m) (record s { left = l }) _ _ (λ b eb.
          let p = f b eb in let c = p.body in
          second_some (M.static_body n) c (record t { left = l }) _ _ p.found
          (entered b c p.pair Nothing vs (record s { left = l }) (record t { left = l }) _ _ r1 tt (λ u s2 t2 r2 k2.
          given_on L M K Made Pair twins g.body h.body a a2 u u s2 t2 k j refl r2 (kv_on L M K Made s.cells s2.cells (K.may (held g.body a)) k j k2 q)))))

      pub super_called : (g h : Env) (a a2 : Ex) (x y : List ℕ) → BothPair L M K Made Pair (L.super_body g.self x) (M.super_body h.self y)
          → (v : Value) (vs : List Value) (s t : State) (k j : ToValue) → R s t → V s (K.may (held g.body a)) k j
          → Alike (call_super L later g a x v vs s k) (call_super M next h a2 y v vs t j)
      super_called g h a a2 x y f v vs s t k j r q =
          steps L M K Made s t _ _ r (λ l r1. first_some (L.super_body g.self x) (record s { left = l }) _ _ (λ b eb.
          let p = f b eb in let c = p.body in
          second_some (M.super_body h.self y) c (record t { left = l }) _ _ p.found
          (looks L M K Made Pair twins (self_of b.env.body) (self_of c.env.body) v v (record s { left = l }) (record t { left = l }) _ _ r1 (λ m2 n2 r2 o2.
          entered b c p.pair v vs (record s { left = l; met = m2 }) (record t { left = l; met = n2 }) _ _ r2 o2 (λ u s3 t3 r3 k3.
          given_on L M K Made Pair twins g.body h.body a a2 u u s3 t3 k j refl r3 (kv_on L M K Made s.cells s3.cells (K.may (held g.body a)) k j k3 q))))))

      -- a constructor runs on a new object
      constructed : (g h : Env) (d a : Ex) (n c k i j : ℕ)
          → ((b : Body) → L.body c i ≡ Some b → K.may (ran g.body d b.env.body) (Some n) ≡ true → HasPair L M K Made Pair b (M.body k j))
          → (at : ℕ) (x : Cell) (vs : List Value) (s t : State) (go on : ToValue) → x.site ≡ Some n → R s t → slice_get s.cells at ≡ Some x
          → Of s.cells (Object at) (K.may (held g.body d)) → V s (K.may (held g.body d)) go on
          → Alike (construct L later g d c i (Object at) vs s go) (construct M next h a k j (Object at) vs t on)
      constructed g h d a n c k i j f at x vs s t go on site r there o q =
          first_some (L.body c i) s _ _ (λ b eb.
          looks_first L M K Made Pair twins (ran g.body d b.env.body) (Object at) s _ _ (λ seen.
          let may = member_of s.cells at x (K.may (ran g.body d b.env.body)) (twins.sees (ran g.body d b.env.body) (Object at) s.cells seen) there in
          let found = f b eb (subst (λ z. K.may (ran g.body d b.env.body) z ≡ true) site may) in
          let b2 = found.body in
          second_some (M.body k j) b2 t _ _ found.found
          (looks L M K Made Pair twins (ran g.body d b.env.body) (ran h.body a b2.env.body) (Object at) (Object at) s t _ _ r (λ m2 n2 r2 o2.
          looks L M K Made Pair twins (self_of b.env.body) (self_of b2.env.body) (Object at) (Object at) (record s { met = m2 })
          (record t { met = n2 }) _ _ r2 (λ m3 n3 r3 o3.
          entered b b2 found.pair (Object at) vs (record s { met = m3 }) (record t { met = n3 }) _ _ r3 o3 (λ u s4 t4 r4 k4.
          q (Object at) s4 t4 r4 k4 (of_kept s.cells s4.cells (Object at) (K.may (held g.body d)) k4 o)))))))

      pub object_made : (g h : Env) (d a : Ex) (n m c k : ℕ) (vs : List Value) → SameNew L M K Made Pair n c k → SameMaker L M K Made Pair g h d n c k
          → (s t : State) (go on : ToValue) → R s t → V s (K.may (held g.body d)) go on
          → Alike (make_object L later g d n c vs s go) (make_object M next h a m k vs t on)
      object_made g h d a n m c k vs new (neither_makes el em) s t go on r q =
          subst (λ z. Alike (made_by L later g d n c z vs s go) (make_object M next h a m k vs t on)) (sym el)
          (subst (λ z. Alike (made_by L later g d n c None vs s go) (made_by M next h a m k z vs t on)) (sym em)
          (bare_made L M K Made Pair twins later next g h d a n m c k vs new s t go on r q))
      object_made g h d a n m c k vs new (both_make {i = i} {j = j} el em f) s t go on r q =
          subst (λ z. Alike (made_by L later g d n c z vs s go) (make_object M next h a m k vs t on)) (sym el)
          (subst (λ z. Alike (made_by L later g d n c (Some i) vs s go) (made_by M next h a m k z vs t on)) (sym em)
          (steps L M K Made s t _ _ r (λ l1 r1. steps L M K Made (record s { left = l1 }) (record t { left = l1 }) _ _ r1 (λ l2 r2.
          steps L M K Made (record s { left = l2 }) (record t { left = l2 }) _ _ r2 (λ l3 r3.
          let x : Cell = record { site = Some n; kind = an_object c; values = L.fresh c } in
          cell_there L M K Made Pair twins g.body h.body d a x (record { site = Some m; kind = an_object k; values = M.fresh k })
          (record s { left = l3 }) (record t { left = l3 }) (λ v s1. construct L later g d c i v vs s1 go) (λ v t1. construct M next h a k j v vs t1 on) r3
          (record { made = new.made; values = same_fields new.values }) (λ m4 n4 r4 o.
          constructed g h d a n c k i j f (length s.cells) x vs _ _ go on refl r4 (get_last s.cells x) o
          (kv_on L M K Made s.cells (s.cells ++ x ∷ []) (K.may (held g.body d)) go on (keeps_add s.cells x) q)))))))

      -- a creation with a constructor, and the call of a method that makes the object, on arguments as its parameters hold them
      module _ (g h : Env) (d a : Ex) (n c m : ℕ) (es : Exs) (f : SameMake L M K Made Pair g h d n c m es) (vs us : List Value)
          (args : arguments f.body.params vs ≡ Some us) (as_many : length us ≡ length f.body.params) (s t : State) (go on : ToValue) (r : R s t)
          (q : V s (K.may (held g.body d)) go on) where
        open f use {body as b, class as k}

        abbrev at : ℕ
        at = length s.cells

        abbrev x : Cell
        x = record { site = Some n; kind = an_object c; values = L.fresh c }

        abbrev y : ℕ → Cell
        y j = record { site = Some j; kind = an_object k; values = M.fresh k }

        abbrev old : ℕ → List Met → State
        old l z = record (add_cell x s) { left = l; met = z }

        abbrev new : ℕ → ℕ → List Met → State
        new j l z = record (add_cell (y j) t) { left = l; met = z }

        abbrev made : Frame
        made = record { env = b.env; self = Nothing; locals = us ++ Object at ∷ [] }

        -- the code that calls the constructor, and gives the object back
        abbrev giving : Tag → Tag → Sts
        giving ta tb = st_then (return ta (Some (local tb (length us)))) no_st

        abbrev calling : Tag → Tag → Tag → Exs → Tag → Tag → Sts
        calling t3 t4 t5 ps t6 t7 = st_then (act t3 (call t4 (local t5 (length us)) f.name ps)) (giving t6 t7)

        abbrev kk : ToFlow
        kk w z t1 = look M (held h.body a) (given b w) t1 (λ t2. on (given b w) t2)

        -- what comes after the constructor
        abbrev finish : Tag → Tag → Ex → ToValue
        finish ta tb e u t1 = look M (held b.env.body e) u t1 (λ t2. run_all M next (giving ta tb) made t2 kk)

        grown : (j l : ℕ) (z w : List Met) → R (old l z) (new j l w)
        grown j l z w = noted L M K Made _ _ z w (stepped L M K Made _ _ l
            (with_added L M K Made s t x (y j) r (record { made = f.new.made; values = same_fields f.new.values })))

        -- the constructor runs on it
        made_on : (j : ℕ) (ta tb td te : Tag) (ps : Exs) (l : ℕ) (z w : List Met) → Of (add_cell x s).cells (Object at) (K.may (held g.body d))
            → Alike (construct L later g d c f.maker (Object at) vs (old l z) go)
            (call_object M next b.env (local te (length us)) (call td (local te (length us)) f.name ps) f.name at (y j) us (new j (suc l) w)
            (λ u t1. run_all M next (giving ta tb) made t1 kk))
        made_on j ta tb td te ps l z w o =
            first_some (L.body c f.maker) (old l z) _ _ (λ b1 eb.
            looks_first L M K Made Pair twins (ran g.body d b1.env.body) (Object at) (old l z) _ _ (λ seen.
            let may = member_of (old l z).cells at x (K.may (ran g.body d b1.env.body)) (twins.sees (ran g.body d b1.env.body) (Object at) (old l z).cells seen)
            (get_last s.cells x) in
            let run = f.runs b1 eb may in
            let b2 = run.runs.body in
            let pair = twins.pairs b1 b2 run.runs.pair in
            second_some (M.slot b.env (local te (length us)) f.name) run.slot (new j l w) _ _
            (subst (λ i. M.slot b.env (local te i) f.name ≡ Some run.slot) (sym as_many) (run.called te))
            (second_some (M.body k run.slot) b2 (new j l w) _ _ run.runs.found
            (looks L M K Made Pair twins (ran g.body d b1.env.body) (ran b.env.body (call td (local te (length us)) f.name ps) b2.env.body)
            (Object at) (Object at)
            (old l z) (new j l w) _ _ (grown j l z w) (λ m2 n2 r2 o2.
            looks L M K Made Pair twins (self_of b1.env.body) (self_of b2.env.body) (Object at) (Object at) (old l m2) (new j l n2) _ _ r2 (λ m3 n3 r3 o3.
            subst (λ i. Alike (enter L later b1 (Object at) vs (old l m3) (λ u s4. go (Object at) s4)) (with_some i (new j l n3)
            (λ ws. look_all M b2.env.body ws (new j l n3) (λ t4. next b2.code (frame b2.env (Object at) (ws ++ b2.rest)) t4 (λ v1 f1 t5.
            finish ta tb (call td (local te (length us)) f.name ps) (given b2 v1) t5)))))
            (arguments_on b.params b2.params vs us (run.params ∙ pair.params) args)
            (entered b1 b2 run.runs.pair (Object at) vs (old l m3) (new j l n3) (λ u s4. go (Object at) s4)
            (finish ta tb (call td (local te (length us)) f.name ps)) r3 o3 (λ u s4 t4 r4 k4.
            second_look M twins.passes twins.passes_all (go (Object at) s4) (held b.env.body (call td (local te (length us)) f.name ps)) u t4
            (λ t5. run_all M next (giving ta tb) made t5 kk) (λ m5.
            gives_back M twins.passes twins.passes_all _ next b.env us kk ta tb (Object at) (record t4 { met = m5 }) f.given f.result (λ m6.
            second_look M twins.passes twins.passes_all _ (held h.body a) (Object at) (record t4 { met = m6 }) (λ t5. on (Object at) t5) (λ m7.
            q (Object at) s4 (record t4 { met = m7 }) (noted L M K Made s4 t4 s4.met m7 r4)
            (keeps_on s.cells (add_cell x s).cells s4.cells (keeps_add s.cells x) k4)
            (of_kept (add_cell x s).cells s4.cells (Object at) (K.may (held g.body d)) k4 o))))))))))))

        -- three steps: of the second one each for the call, the new object and the constructor
        made_with : {xs : Sts} → IsMakeCode k f.name (length us) xs → b.code ≡ xs
            → Alike (made_by L later g d n c (Some f.maker) vs s go) (call_static M next h a m vs t on)
        made_with (makes {a = t1} {b = t2} {c = t3} {d = t4} {e = t5} {f = t6} {g = t7} {j = j} {es = ps} passed) is = by_left s.left refl
          where
            begun : (o : Outcome) (l : ℕ) → t.left ≡ suc l
                → ((z : List Met) → Alike o (run_all M next (st_then (declare t1 (length us) (Some (create t2 j k no_ex))) (calling t3 t4 t5 ps t6 t7))
                (record { env = b.env; self = Nothing; locals = us ++ f.first ∷ [] }) (record t { left = l; met = z }) kk))
                → Alike o (call_static M next h a m vs t on)
            begun o l e p =
                make_begun M twins.passes twins.passes_all o next more.unfolds h a m b f.found f.first f.rest l vs us t on e args (λ z.
                subst (λ ys. Alike o (run_all M next ys (record { env = b.env; self = Nothing; locals = us ++ f.first ∷ [] })
                (record t { left = l; met = z }) kk)) (sym is) (p z))

            local_is : slice_get b.env.locals (length us) ≡ Some f.kept
            local_is = subst (λ i. slice_get b.env.locals i ≡ Some f.kept) (sym as_many) f.local_is

            by_left : (l : ℕ) → s.left ≡ l
                → Alike (step_of l s (λ s1. step s1 (λ s2. step s2 (λ s3. new_object L g.body d n c s3 (λ v s4. construct L later g d c f.maker v vs s4 go)))))
                (call_static M next h a m vs t on)
            by_left zero e = second_spent (stop Going s) t _ (sym r.left ∙ e) (ends_alike Going s t r.out r.left)
            by_left (suc zero) e = begun (stop Going (record s { left = zero })) zero (sym r.left ∙ e) (λ z.
                created_not M twins.passes twins.passes_all _ next b.env us kk t1 t2 j k (calling t3 t4 t5 ps t6 t7) f.first f.kept local_is f.bare
                (record t { left = zero; met = z }) refl
                (ends_alike Going (record s { left = zero }) (record t { left = zero; met = z }) r.out refl))
            by_left (suc (suc zero)) e = begun (stop Going (record s { left = zero })) (suc zero) (sym r.left ∙ e) (λ z.
                created M twins.passes twins.passes_all _ next b.env us kk t1 t2 j k (calling t3 t4 t5 ps t6 t7) f.first f.kept local_is f.bare zero
                (record t { left = suc zero; met = z }) refl (λ w.
                calls M twins.passes twins.passes_all _ next b.env us kk t3 t4 t5 f.name ps t6 t7 (length t.cells) (y j) (new j zero w) passed
                (get_last t.cells (y j))
                (ends_alike Going (record s { left = zero }) (new j zero w) r.out refl)))
            by_left (suc (suc (suc l))) e =
                first_look L M K Made Pair twins (held g.body d) (Object at) (add_cell x (record s { left = l }))
                (λ s4. construct L later g d c f.maker (Object at) vs s4 go) (call_static M next h a m vs t on) (λ z o.
                begun (construct L later g d c f.maker (Object at) vs (old l z) go) (suc (suc l)) (sym r.left ∙ e) (λ w.
                created M twins.passes twins.passes_all _ next b.env us kk t1 t2 j k (calling t3 t4 t5 ps t6 t7) f.first f.kept local_is f.bare (suc l)
                (record t { left = suc (suc l); met = w }) refl (λ w2.
                subst (λ i. Alike (construct L later g d c f.maker (Object at) vs (old l z) go)
                (run_all M next (calling t3 t4 t5 ps t6 t7)
                (record { env = b.env; self = Nothing; locals = us ++ Object i ∷ [] }) (new j (suc l) w2) kk)) (same_length L M K Made s t r)
                (calls M twins.passes twins.passes_all _ next b.env us kk t3 t4 t5 f.name ps t6 t7 at (y j) (new j (suc l) w2) passed
                (subst (λ i. slice_get (t.cells ++ y j ∷ []) i ≡ Some (y j)) (sym (same_length L M K Made s t r)) (get_last t.cells (y j)))
                (made_on j t6 t7 t4 t5 ps l z w2 o)))))

      pub make_called : (g h : Env) (d a : Ex) (n c m : ℕ) (es : Exs) → SameMake L M K Made Pair g h d n c m es → (vs : List Value) → length vs ≡ many es
          → (s t : State) (go on : ToValue) → R s t → V s (K.may (held g.body d)) go on
          → Alike (make_object L later g d n c vs s go) (call_static M next h a m vs t on)
      make_called g h d a n c m es f vs len s t go on r q =
          let args = arguments_there f.body.params vs (len ∙ f.as_many) in
          subst (λ z. Alike (made_by L later g d n c z vs s go) (call_static M next h a m vs t on)) (sym f.has_maker)
          (made_with g h d a n c m es f vs args.0 args.1 args.2 s t go on r q
          (subst (λ i. IsMakeCode f.class f.name i f.body.code) (sym args.2) f.code) refl)
