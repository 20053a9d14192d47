-- Two lists of tokens with one beginning, which goes up to a token t: plans are read alike of both, up to that token.
use Rattle.std.proofs.Common.{◌≡◌, ℕ, suc, List, ◌∷◌, length, Option, Some, None, Bool, true, false, refl, arith}
use Rattle.kaba_base.specs.declared.Place.{Place}
use Rattle.kaba_base.specs.declared.words.Keyword.TheVariants as keys
use Rattle.java_lex.specs.declared.Token.{Token}
use Rattle.java_tree.specs.Tokens.{first_place}
use Rattle.java_tree.specs.Statements.{is_word}
use Rattle.java_tree.specs.Nesting.{next_is}
use Rattle.java_parse.specs.Want.{Want, Val, ReadStep, Give, Fail, Ask}
use Rattle.java_parse.specs.Front.{after_key, at_end}
use Rattle.java_parse.specs.Reading.{ParseOutcome, RunsTo, give, fail, short, ask, ask_fails}
use Rattle.java_parse.proofs.Leaves.{Leaves, Below, fault_below}
use Rattle.java_parse.proofs.Looks.{Look, Tests, misses, finds, a_key}
use Rattle.java_parse.proofs.Plans.{Plan, Giving, Stopping, Asking, Looking, Peeking, Guarding, Allowing, Choosing, Testing, Heading, Finals, Ending, final_from, steps, leaves}
use Rattle.java_parse.proofs.PartLeaves.{part_leaves}

-- what a step leaves is fewer tokens than it takes up to
pub left_below : {m : Want} {s : ReadStep (Val m)} {o : ParseOutcome (Val m)} (n : ℕ) → RunsTo m s o → Leaves n s → Below (suc n) o
left_below n give h = omega (arith, h)
left_below n fail h = omega (arith, h)
left_below n short h = tt
left_below n (ask {n = m} {ts = ts} {rest = rest} {v = v} a b) h =
    let l = left_below (length ts) a (part_leaves m ts) in left_below n b (h.1 v rest (omega (arith, l)))
left_below {m = w} n (ask_fails {n = m} {ts = ts} {f = f} a) h =
    fault_below (Val m) (Val w) (length ts) n f (left_below (length ts) a (part_leaves m ts)) h.0

-- whatever a step comes to, it leaves fewer tokens than n
abbrev pub IsPast : (m : Want) → ℕ → ReadStep (Val m) → Type 0
IsPast m n s = (o : ParseOutcome (Val m)) → RunsTo m s o → Below n o

pub past_by : (m : Want) {s : ReadStep (Val m)} (n : ℕ) → Leaves n s → IsPast m (suc n) s
past_by m n h = λ o a. left_below n a h

-- two lists with one beginning before two tails
pub data Same (t : Token) (us vs : List Token) : List Token → List Token → Type 0 where
  at : Same t us vs (t ∷ us) (t ∷ vs)
  on : {ts ss : List Token} (x : Token) → Same t us vs ts ss → Same t us vs (x ∷ ts) (x ∷ ss)

-- two steps do the same until the first is past the token
pub data Alike (t : Token) (us vs : List Token) (m : Want) : ReadStep (Val m) → ReadStep (Val m) → Type 0 where
  gives : {v : Val m} {ts ss : List Token} → Same t us vs ts ss → Alike t us vs m (Give v ts) (Give v ss)
  fails : {ts ss : List Token} → Same t us vs ts ss → Alike t us vs m (Fail ts) (Fail ss)
  asks : {n : Want} {ts ss : List Token} {k j : Val n → List Token → ReadStep (Val m)} → Same t us vs ts ss
      → ((v : Val n) (xs ys : List Token) → Same t us vs xs ys → Alike t us vs m (k v xs) (j v ys))
      → ((v : Val n) (xs : List Token) → Leaves (length xs) (k v xs)) → Alike t us vs m (Ask n ts k) (Ask n ss j)
  past : {s r : ReadStep (Val m)} → IsPast m (suc (length us)) s → Alike t us vs m s r

-- of one beginning: the next token, and what begins with it
pub same_head : {t : Token} {us vs ts ss : List Token} (f : List Token → List Token → Type 0) → Same t us vs ts ss
    → ((x : Token) (xs ys : List Token) → f (x ∷ xs) (x ∷ ys)) → f ts ss
same_head {t = t} {us = us} {vs = vs} f at h = h t us vs
same_head f (on {ts = ts} {ss = ss} x s) h = h x ts ss

module _ (t : Token) (us vs : List Token) (m : Want) where
  pub both_lack : {A : Type 0} {o p : Option A} (f g : A → ReadStep (Val m)) (s r : ReadStep (Val m)) → o ≡ None → p ≡ None → Alike t us vs m s r
      → Alike t us vs m (elim o [ Some w ↦ f w | None ↦ s ]) (elim p [ Some w ↦ g w | None ↦ r ])
  both_lack f g s r h k a = rw (h, k) a

  pub both_pass : {A : Type 0} {o p : Option A} (f g : A → ReadStep (Val m)) (s r : ReadStep (Val m)) {w x : A} → o ≡ Some w → p ≡ Some x
      → Alike t us vs m (f w) (g x) → Alike t us vs m (elim o [ Some w ↦ f w | None ↦ s ]) (elim p [ Some w ↦ g w | None ↦ r ])
  both_pass f g s r h k a = rw (h, k) a

  -- a test of the next token: where it is passed, at the token t or before it, and where it is not
  look_by : {A B : Type 0} {find : List Token → Option A} {value : A → B} {rest : A → List Token} {x : Token} (f g : A → ReadStep (Val m)) (s r : ReadStep (Val m))
      → Tests find value rest x → (xs ys : List Token)
      → ((b : B) (w y : A) → value w ≡ b → value y ≡ b → rest w ≡ xs → rest y ≡ ys → Alike t us vs m (f w) (g y)) → Alike t us vs m s r
      → Alike t us vs m (elim (find (x ∷ xs)) [ Some w ↦ f w | None ↦ s ]) (elim (find (x ∷ ys)) [ Some w ↦ g w | None ↦ r ])
  look_by f g s r (misses h) xs ys yea lacks = both_lack f g s r (h xs) (h ys) lacks
  look_by f g s r (finds b w h k e) xs ys yea lacks = both_pass f g s r (h xs) (h ys) (yea b (w xs) (w ys) (k xs) (k ys) (e xs) (e ys))

  pub look_alike : (l : Look) (f g : l.whole → ReadStep (Val m)) (s r : ReadStep (Val m)) {ts ss : List Token} → Same t us vs ts ss
      → ((b : l.found) (w x : l.whole) (xs ys : List Token) → l.value w ≡ b → l.value x ≡ b → l.rest w ≡ xs → l.rest x ≡ ys → Same t us vs xs ys
      → Alike t us vs m (f w) (g x))
      → ((w x : l.whole) → l.rest w ≡ us → Alike t us vs m (f w) (g x)) → Alike t us vs m s r
      → Alike t us vs m (elim (l.find ts) [ Some w ↦ f w | None ↦ s ]) (elim (l.find ss) [ Some w ↦ g w | None ↦ r ])
  look_alike l f g s r at yea over lacks = look_by f g s r (l.tests t) us vs (λ b w x h k e d. over w x e) lacks
  look_alike l f g s r (on {ts = xs} {ss = ys} x same) yea over lacks =
      look_by f g s r (l.tests x) xs ys (λ b w y h k e d. yea b w y xs ys h k e d same) lacks

  pub moved : {B : Type 0} (k : B → Plan (Val m)) {b c d : B} {xs ys zs ws : List Token} → c ≡ b → d ≡ b → zs ≡ xs → ws ≡ ys
      → Alike t us vs m (steps (k b) xs) (steps (k b) ys) → Alike t us vs m (steps (k c) zs) (steps (k d) ws)
  moved k p q r s a = rw (p, q, r, s) a

  -- the plan goes on behind the token t
  pub gone : (p : Plan (Val m)) (xs : List Token) (r : ReadStep (Val m)) → xs ≡ us → Alike t us vs m (steps p xs) r
  gone p xs r e = past (past_by m (length us) (leaves p (length us) xs (rw e (omega arith))))

  pub both_bool : (b : Bool) (x y z w : ReadStep (Val m)) → Alike t us vs m x z → Alike t us vs m y w
      → Alike t us vs m (elim b [ true ↦ x | false ↦ y ]) (elim b [ true ↦ z | false ↦ w ])
  both_bool true x y z w a b = a
  both_bool false x y z w a b = b

  both_false : {b c : Bool} (x y z w : ReadStep (Val m)) → b ≡ false → c ≡ false → Alike t us vs m y w
      → Alike t us vs m (elim b [ true ↦ x | false ↦ y ]) (elim c [ true ↦ z | false ↦ w ])
  both_false x y z w h k a = rw (h, k) a

  both_option : {C : Type 0} (o : Option C) (f g : C → ReadStep (Val m)) (s r : ReadStep (Val m)) → ((c : C) → Alike t us vs m (f c) (g c)) → Alike t us vs m s r
      → Alike t us vs m (elim o [ Some c ↦ f c | None ↦ s ]) (elim o [ Some c ↦ g c | None ↦ r ])
  both_option None f g s r a b = b
  both_option (Some c) f g s r a b = a c

  same_end : {ts ss : List Token} → Same t us vs ts ss → (at_end ts ≡ false) × (at_end ss ≡ false)
  same_end same = same_head (λ ts ss. (at_end ts ≡ false) × (at_end ss ≡ false)) same (λ x xs ys. (refl, refl))

  same_first : {ts ss : List Token} → Same t us vs ts ss → (next_is is_word ts ≡ next_is is_word ss) × (first_place ts ≡ first_place ss)
  same_first same = same_head (λ ts ss. (next_is is_word ts ≡ next_is is_word ss) × (first_place ts ≡ first_place ss)) same (λ x xs ys. (refl, refl))

  headed : (k : Bool → Place → Plan (Val m)) (ts ss : List Token) {b c : Bool} {p q : Place} → b ≡ c → p ≡ q
      → Alike t us vs m (steps (k c q) ts) (steps (k c q) ss) → Alike t us vs m (steps (k b p) ts) (steps (k c q) ss)
  headed k ts ss h g a = rw (h, g) a

  abbrev final_case : (Bool → Plan (Val m)) → Option (Place × List Token) → List Token → ReadStep (Val m)
  final_case k o ts = steps (k (final_from o ts).0) (final_from o ts).1

  final_by : (k : Bool → Plan (Val m)) {x : Token} (xs ys : List Token) → Tests (after_key keys.Final) (λ w. w.0) (λ w. w.1) x
      → ((zs ws : List Token) → zs ≡ xs → ws ≡ ys → Alike t us vs m (steps (k true) zs) (steps (k true) ws))
      → Alike t us vs m (steps (k false) (x ∷ xs)) (steps (k false) (x ∷ ys))
      → Alike t us vs m (final_case k (after_key keys.Final (x ∷ xs)) (x ∷ xs)) (final_case k (after_key keys.Final (x ∷ ys)) (x ∷ ys))
  final_by k xs ys (misses h) some none = let g = h xs in let f = h ys in rw (g, f) none
  final_by k xs ys (finds b w h v e) some none = let g = h xs in let f = h ys in rw (g, f) (some (w xs).1 (w ys).1 (e xs) (e ys))

  pub alike : (p : Plan (Val m)) {ts ss : List Token} → Same t us vs ts ss → Alike t us vs m (steps p ts) (steps p ss)
  alike (Giving v) same = gives same
  alike Stopping same = fails same
  alike (Asking n k) same = asks same (λ v xs ys s. alike (k v) s) (λ v xs. leaves (k v) (length xs) xs (omega arith))
  alike (Looking l k s) {ts = ts} {ss = ss} same =
      look_alike l (λ w. steps (k (l.value w)) (l.rest w)) (λ w. steps (k (l.value w)) (l.rest w)) (steps s ts) (steps s ss) same
      (λ b w x xs ys h g e f d. moved k h g e f (alike (k b) d)) (λ w x e. gone (k (l.value w)) (l.rest w) _ e) (alike s same)
  alike (Peeking l k s) {ts = ts} {ss = ss} same =
      look_alike l (λ w. steps k ts) (λ w. steps k ss) (steps s ts) (steps s ss) same
      (λ b w x xs ys h g e f d. alike k same) (λ w x e. alike k same) (alike s same)
  alike (Guarding l o k s) {ts = ts} {ss = ss} same =
      look_alike l (λ w. elim o [ Some c ↦ steps (k (l.value w) c) (l.rest w) | None ↦ Fail ts ])
      (λ w. elim o [ Some c ↦ steps (k (l.value w) c) (l.rest w) | None ↦ Fail ss ]) (steps s ts) (steps s ss) same
      (λ b w x xs ys h g e f d. both_option o (λ c. steps (k (l.value w) c) (l.rest w)) (λ c. steps (k (l.value x) c) (l.rest x)) (Fail ts) (Fail ss)
      (λ c. moved (λ b. k b c) h g e f (alike (k b c) d)) (fails same))
      (λ w x e. both_option o (λ c. steps (k (l.value w) c) (l.rest w)) (λ c. steps (k (l.value x) c) (l.rest x)) (Fail ts) (Fail ss)
      (λ c. gone (k (l.value w) c) (l.rest w) _ e) (fails same)) (alike s same)
  alike (Allowing l b k s) {ts = ts} {ss = ss} same =
      look_alike l (λ w. elim b [ true ↦ steps (k (l.value w)) (l.rest w) | false ↦ Fail ts ])
      (λ w. elim b [ true ↦ steps (k (l.value w)) (l.rest w) | false ↦ Fail ss ]) (steps s ts) (steps s ss) same
      (λ c w x xs ys h g e f d. both_bool b (steps (k (l.value w)) (l.rest w)) (Fail ts) (steps (k (l.value x)) (l.rest x)) (Fail ss)
      (moved k h g e f (alike (k c) d)) (fails same))
      (λ w x e. both_bool b (steps (k (l.value w)) (l.rest w)) (Fail ts) (steps (k (l.value x)) (l.rest x)) (Fail ss)
      (gone (k (l.value w)) (l.rest w) _ e) (fails same)) (alike s same)
  alike (Choosing o k s) {ts = ts} {ss = ss} same =
      both_option o (λ c. steps (k c) ts) (λ c. steps (k c) ss) (steps s ts) (steps s ss) (λ c. alike (k c) same) (alike s same)
  alike (Testing b p q) {ts = ts} {ss = ss} same = both_bool b (steps p ts) (steps q ts) (steps p ss) (steps q ss) (alike p same) (alike q same)
  alike (Heading k) {ts = ts} {ss = ss} same =
      let e = same_first same in headed k ts ss e.0 e.1 (alike (k (next_is is_word ss) (first_place ss)) same)
  alike (Finals k) at = final_by k us vs ((a_key keys.Final).tests t) (λ zs ws e f. gone (k true) zs (steps (k true) ws) e) (alike (k false) at)
  alike (Finals k) (on {ts = xs} {ss = ys} x same) = final_by k xs ys ((a_key keys.Final).tests x)
      (λ zs ws e f. moved k refl refl e f (alike (k true) same)) (alike (k false) (on x same))
  alike (Ending p q) {ts = ts} {ss = ss} same =
      let e = same_end same in both_false (steps p ts) (steps q ts) (steps p ss) (steps q ss) e.0 e.1 (alike q same)
