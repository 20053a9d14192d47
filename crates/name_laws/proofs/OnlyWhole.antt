-- A tree of which no condition holds resolves to one program.
use Rattle.std.proofs.Common.{◌≡◌, ℕ, zero, suc, ◌+◌, ◌<◌, ◌≤◌, ◌⊎◌, inl, inr, false, List, [], ◌∷◌, map, length, Option, Some, None, refl, sym, ap, ◌∙◌, subst, arith}
use Rattle.std.specs.Prelude.{slice_get}
use Rattle.std.proofs.lemmas.Bool.{false≢true, cases_lt}
use Rattle.std.proofs.lemmas.List.{length-append}
use Rattle.std.proofs.lemmas.Option.{slice_get_past}
use Rattle.kaba_base.proofs.ListLemmas.{map_at, at_map, behind as back-stands}
use Rattle.java_tree.specs.Syntax.{Expressions, Statements, DeclTree}
use Rattle.java_core.specs.Trees.{at_place, Exs, Sts, st_then}
use Rattle.java_core.specs.Makers.{call_above}
use Rattle.name_rules.specs.declared.parts.Bound.{Bound}
use Rattle.java_core.specs.Programs.{Plain, PlainMethod, PlainLocal, PlainSlot}
use Rattle.java_core.specs.Types.{types_of}
use Rattle.java_core.specs.Formed.{variables_of, numbers_all, numbers_sts, numbers_body, numbers_methods}
use Rattle.java_tree.specs.Formed.{IsFormedBody, IsFormedTree}
use Rattle.name_rules.specs.Outline.{MethodAt, outline}
use Rattle.name_rules.specs.Resolves.{Counts, StsResolve, declares_all, params_from, here_of, before_object, has_arguments, maker_code, UpResolves, r_no_up, r_up, BodyResolves, r_no_body, r_body, r_maker, BodiesResolve, r_no_methods, r_method, heading_of, IsOfSlot, HasSlot, no_slot, a_slot, AreSlots, Resolves}
use Rattle.name_rules.specs.Conditions.{overload}
use Rattle.name_rules.specs.Causes.{HasNoCondition}
use Rattle.name_laws.proofs.Sees.{same_some}
use Rattle.name_laws.proofs.Bridge.{main-of, of-main}
use Rattle.name_laws.proofs.MembersOf.{method-of}
use Rattle.name_laws.proofs.FoundFirst.{OneMet, one-met}
use Rattle.name_laws.proofs.Beginnings.{args-alike, BeginsBare, BeginsAbove, begins}
use Rattle.name_laws.proofs.Only.{none-only, counts-split, from, exs-only, Agree, agree-at, sts-only}

-- ---- lists

-- two lists that have the same at each place are one
same-places : {A : Type 0} (xs ys : List A) → ((i : ℕ) → slice_get xs i ≡ slice_get ys i) → xs ≡ ys
same-places [] [] h = refl
same-places [] (y ∷ ys) h = absurd (cc (h 0))
same-places (x ∷ xs) [] h = absurd (cc (h 0))
same-places (x ∷ xs) (y ∷ ys) h = ap (λ z. z ∷ xs) (same_some (h 0)) ∙ ap (λ z. y ∷ z) (same-places xs ys (λ i. h (suc i)))

abbrev Rises : List PlainSlot → Type 0
Rises ss = (r s : ℕ) (a b : PlainSlot) → slice_get ss r ≡ Some a → slice_get ss s ≡ Some b → r < s → a.first < b.first

-- two rising lists of the same slots are one
same-slots : (xs ys : List PlainSlot) → Rises xs → Rises ys → ((s : ℕ) (a : PlainSlot) → slice_get xs s ≡ Some a
    → (t : ℕ) × (slice_get ys t ≡ Some a)) → ((s : ℕ) (a : PlainSlot) → slice_get ys s ≡ Some a → (t : ℕ) × (slice_get xs t ≡ Some a)) → xs ≡ ys
same-slots [] [] p q f g = refl
same-slots [] (y ∷ ys) p q f g = absurd (cc (g 0 y refl).1)
same-slots (x ∷ xs) [] p q f g = absurd (cc (f 0 x refl).1)
same-slots (x ∷ xs) (y ∷ ys) p q f g =
    let e : x ≡ y = let a = f 0 x refl in let b = g 0 y refl in head a.0 b.0 a.1 b.1 in
    ap (λ z. z ∷ xs) e ∙ ap (λ z. y ∷ z) (same-slots xs ys (λ r s a b u v lt. p (suc r) (suc s) a b u v (omega (arith, lt)))
    (λ r s a b u v lt. q (suc r) (suc s) a b u v (omega (arith, lt)))
    (λ s a u. tail y ys a (let l = p 0 (suc s) x a refl u (omega arith) in let k = ap (λ z. z.first) e in omega (arith, l, k)) (f (suc s) a u).0
    (f (suc s) a u).1)
    (λ s a u. tail x xs a (let l = q 0 (suc s) y a refl u (omega arith) in let k = ap (λ z. z.first) e in omega (arith, l, k)) (g (suc s) a u).0
    (g (suc s) a u).1))
  where
    tail : (z : PlainSlot) (zs : List PlainSlot) (a : PlainSlot) → z.first < a.first → (t : ℕ) → slice_get (z ∷ zs) t ≡ Some a
        → (t : ℕ) × (slice_get zs t ≡ Some a)
    tail z zs a lt zero h = absurd (let e = ap (λ k. k.first) (same_some h) in omega (arith, lt, e))
    tail z zs a lt (suc t) h = (t, h)

    head : (t u : ℕ) → slice_get (y ∷ ys) t ≡ Some x → slice_get (x ∷ xs) u ≡ Some y → x ≡ y
    head zero u h k = sym (same_some h)
    head (suc t) zero h k = same_some k
    head (suc t) (suc u) h k = absurd (let a = q 0 (suc t) y x refl h (omega arith) in let b = p 0 (suc u) x y refl k (omega arith) in omega (arith, a, b))

-- ---- slots

module _ (P Q : Plain) (same : map heading_of P.methods ≡ map heading_of Q.methods) where
  -- the method of the other program
  other-method : (i : ℕ) (k : PlainMethod) → slice_get P.methods i ≡ Some k → (l : PlainMethod) × (slice_get Q.methods i ≡ Some l)
      × (heading_of l ≡ heading_of k)
  other-method i k e = map_at heading_of Q.methods i (heading_of k) (ap (λ z. slice_get z i) (sym same) ∙ at_map heading_of P.methods i k e)

  -- the slot of the other program of a method of a slot
  slot-of : AreSlots Q → (a : PlainSlot) (i : ℕ) (k : PlainMethod) → slice_get P.methods i ≡ Some k → k.is_static ≡ false → IsOfSlot a k
      → (t : ℕ) × (b : PlainSlot) × (slice_get Q.slots t ≡ Some b) × (a.name ≡ b.name) × (a.params ≡ b.params) × (a.result ≡ b.result) × (b.first ≤ i)
  slot-of q a i k e instance of = let l = other-method i k e in go l.0 l.1 l.2 (q.each i l.0 l.1)
    where
      go : (l : PlainMethod) → slice_get Q.methods i ≡ Some l → heading_of l ≡ heading_of k → HasSlot Q l → (t : ℕ) × (b : PlainSlot)
          × (slice_get Q.slots t ≡ Some b) × (a.name ≡ b.name) × (a.params ≡ b.params) × (a.result ≡ b.result) × (b.first ≤ i)
      go l at h (no_slot s n) = absurd (false≢true (sym instance ∙ sym (ap (λ z. z.is_static) h) ∙ s))
      go l at h (a_slot {s = t} {slot = b} s n there on) = (
        t,
        b,
        there,
        sym of.name ∙ sym (ap (λ z. z.name) h) ∙ on.name,
        sym of.params ∙ sym (ap (λ z. types_of z.params) h)
            ∙ on.params,
        sym of.result ∙ sym (ap (λ z. z.result) h) ∙ on.result,
        q.least t i b l there at n,
      )

-- the method that a slot begins with is of it
first-of : (P : Plain) → AreSlots P → (s : ℕ) (a : PlainSlot) → slice_get P.slots s ≡ Some a → (k : PlainMethod)
    × (slice_get P.methods a.first ≡ Some k) × (k.is_static ≡ false) × IsOfSlot a k
first-of P p s a e = let f = p.first s a e in go f.0 f.1 f.2 (p.each a.first f.0 f.1)
  where
    go : (k : PlainMethod) → slice_get P.methods a.first ≡ Some k → k.slot ≡ Some s → HasSlot P k → (k : PlainMethod)
        × (slice_get P.methods a.first ≡ Some k) × (k.is_static ≡ false) × IsOfSlot a k
    go k at n (no_slot i m) = absurd (cc (sym m ∙ n))
    go k at n (a_slot {s = r} {slot = b} i m there of) =
        (k, at, i, subst (λ z. IsOfSlot z k) (same_some (sym there ∙ ap (slice_get P.slots) (same_some (sym m ∙ n)) ∙ e)) of)

-- a slot of the one program is one of the other
slot-there : (P Q : Plain) → map heading_of P.methods ≡ map heading_of Q.methods → AreSlots P → AreSlots Q → (s : ℕ) (a : PlainSlot)
    → slice_get P.slots s ≡ Some a → (t : ℕ) × (slice_get Q.slots t ≡ Some a)
slot-there P Q same p q s a e =
    let f = first-of P p s a e in
    let x = slot-of P Q same q a a.first f.0 f.1 f.2 f.3 in
    let b = x.1 in
    let g = first-of Q q x.0 b x.2 in
    let y = slot-of Q P (sym same) p b b.first g.0 g.1 g.2 g.3 in
    let back : y.0 ≡ s = p.apart y.0 s y.1 a y.2 e (sym y.3 ∙ sym x.3) (sym y.4 ∙ sym x.4) (sym y.5 ∙ sym x.5) in
    let it : y.1 ≡ a = same_some (sym y.2 ∙ ap (slice_get P.slots) back ∙ e) in
    let first : b.first ≡ a.first = let u = x.6 in let v = y.6 in let w = ap (λ z. z.first) it in omega (arith, u, v, w) in
    (x.0, x.2 ∙ ap Some (slot-is b a (sym x.3) (sym x.4) (sym x.5) first))
  where
    slot-is : (b a : PlainSlot) → b.name ≡ a.name → b.params ≡ a.params → b.result ≡ a.result → b.first ≡ a.first → b ≡ a
    slot-is b a n o r f =
        ap (λ z. record b { name = z }) n ∙ ap (λ z. record b { name = a.name; params = z }) o
        ∙ ap (λ z. record a { result = z; first = b.first }) r ∙ ap (λ z. record a { first = z }) f

slots-only : (P Q : Plain) → map heading_of P.methods ≡ map heading_of Q.methods → AreSlots P → AreSlots Q → P.slots ≡ Q.slots
slots-only P Q same p q = same-slots P.slots Q.slots p.order q.order (slot-there P Q same p q) (slot-there Q P (sym same) q p)

-- the slot of a method
slot-only : (P Q : Plain) → P.slots ≡ Q.slots → AreSlots P → (k l : PlainMethod) → heading_of k ≡ heading_of l → HasSlot P k → HasSlot Q l → k.slot ≡ l.slot
slot-only P Q slots p k l h (no_slot s n) (no_slot t m) = n ∙ sym m
slot-only P Q slots p k l h (no_slot s n) (a_slot t m there on) = absurd (false≢true (sym t ∙ sym (ap (λ z. z.is_static) h) ∙ s))
slot-only P Q slots p k l h (a_slot s n at of) (no_slot t m) = absurd (false≢true (sym s ∙ ap (λ z. z.is_static) h ∙ t))
slot-only P Q slots p k l h (a_slot {s = i} {slot = a} s n at of) (a_slot {s = j} {slot = b} t m there on) =
    n ∙ ap Some (p.apart i j a b at (ap (λ z. slice_get z j) slots ∙ there) (sym of.name ∙ ap (λ z. z.name) h ∙ on.name) (sym of.params
    ∙ ap (λ z. types_of z.params) h ∙ on.params) (sym of.result ∙ ap (λ z. z.result) h ∙ on.result)) ∙ sym m

-- ---- bodies

abbrev behind : List PlainMethod → List PlainMethod
behind [] = []
behind (x ∷ xs) = xs

abbrev rebuilt : PlainMethod → Option ℕ → List PlainLocal → Option Sts → PlainMethod
rebuilt k s ls b = record k { slot = s; locals = ls; body = b }

method-is : (k l : PlainMethod) → heading_of k ≡ heading_of l → k.slot ≡ l.slot → k.body ≡ l.body → k.locals ≡ l.locals → k ≡ l
method-is k l h s b ls = ap (λ z. rebuilt z k.slot k.locals k.body) h ∙ ap (λ z. rebuilt (heading_of l) z k.locals k.body) s
    ∙ ap (λ z. rebuilt (heading_of l) l.slot z k.body) ls ∙ ap (rebuilt (heading_of l) l.slot l.locals) b

module _ (O : Plain) (one : OneMet O) where
  -- the locals of two methods that agree
  locals-only : (k l : PlainMethod) (xs : Sts) → length k.params ≡ length l.params → length (variables_of k) ≡ length (variables_of l)
      → Counts (length k.params) (declares_all xs) (length (variables_of k)) → Agree k l (declares_all xs) → k.locals ≡ l.locals
  locals-only k l xs params size w g = same-places k.locals l.locals (λ i. at i (cases_lt i (length k.locals)))
    where
      sizes : length k.locals ≡ length l.locals
      sizes = let x = length-append k.params k.locals in let y = length-append l.params l.locals in omega (arith, params, x, y, size)

      at : (i : ℕ) → (i < length k.locals) ⊎ (length k.locals ≤ i) → slice_get k.locals i ≡ slice_get l.locals i
      at i (inl lt) =
          sym (back-stands k.params k.locals i)
          ∙ agree-at k l w g (length k.params + i) (omega arith) (let x = length-append k.params k.locals in omega (arith, x, lt))
          ∙ ap (λ z. slice_get (variables_of l) (z + i)) params ∙ back-stands l.params l.locals i
      at i (inr le) = slice_get_past k.locals i le ∙ sym (slice_get_past l.locals i (omega (arith, le, sizes)))

  -- the statements of a method and their numbers
  record AreOnly (k l : PlainMethod) (xs ys : Sts) (i j : ℕ) : Type 0 where
    statements : xs ≡ ys
    numbers : i ≡ j
    locals : k.locals ≡ l.locals

  statements-only : (m : MethodAt) (k l : PlainMethod) (a b i j : ℕ) (ss us : Statements) (xs ys : Sts) → IsFormedBody m.body → heading_of k ≡ heading_of l
      → m.body ≡ Some ss → m.body ≡ Some us → StsResolve O (here_of m) k false (params_from 0 k.params) ss xs
      → StsResolve O (here_of m) l false (params_from 0 l.params) us ys → a ≡ b → Counts a (numbers_sts xs) i → Counts b (numbers_sts ys) j
      → Counts (length k.params) (declares_all xs) (length (variables_of k)) → Counts (length l.params) (declares_all ys) (length (variables_of l))
      → AreOnly k l xs ys i j
  statements-only m k l a b i j ss us xs ys f h some also r q same c e w v =
      let params = ap (λ z. z.params) h in
      let g = sts-only O one (here_of m) k l (subst IsFormedBody some f) r
      (subst (λ z. StsResolve O (here_of m) l false (params_from 0 z) ss ys) (sym params)
      (subst (λ z. StsResolve O (here_of m) l false (params_from 0 l.params) z ys) (same_some (sym also ∙ some)) q))
      c (from same e) w (from (ap length params) v) in
      record { statements = g.0; numbers = g.1; locals = locals-only k l xs (ap length params) g.2 w g.3 }

  -- the arguments of `super(..)` and their numbers
  up-only : (m : MethodAt) (scope : List Bound) (a i j : ℕ) (up : Option Expressions) (es us : Exs) → UpResolves O m scope up es → UpResolves O m scope up us
      → Counts a (numbers_all es) i → Counts a (numbers_all us) j → (es ≡ us) × (i ≡ j)
  up-only m scope a i j None es us r_no_up r_no_up c d = (refl, none-only c d)
  up-only m scope a i j (Some ts) es us (r_up r) (r_up q) c d = exs-only O one (before_object m) scope r q c d

  -- the code of a constructor
  code-only : (m : MethodAt) (k l : PlainMethod) (a i j : ℕ) (ss ts : Statements) (es us : Exs) (xs ys : Sts) → IsFormedBody m.body
      → heading_of k ≡ heading_of l → m.body ≡ Some ss → m.body ≡ Some ts → UpResolves O m (params_from 0 k.params) m.up es
      → UpResolves O m (params_from 0 l.params) m.up us → StsResolve O (here_of m) k false (params_from 0 k.params) ss xs
      → StsResolve O (here_of m) l false (params_from 0 l.params) ts ys → Counts a (numbers_sts (maker_code O m es xs)) i
      → Counts a (numbers_sts (maker_code O m us ys)) j → Counts (length k.params) (declares_all xs) (length (variables_of k))
      → Counts (length l.params) (declares_all ys) (length (variables_of l))
      → (maker_code O m es xs ≡ maker_code O m us ys) × (k.locals ≡ l.locals) × (i ≡ j)
  code-only m k l a i j ss ts es us xs ys f h some also up above r q c d w v = go (begins O m (has_arguments es))
    where
      params : params_from 0 k.params ≡ params_from 0 l.params
      params = ap (λ z. params_from 0 z.params) h

      other : UpResolves O m (params_from 0 k.params) m.up us
      other = subst (λ z. UpResolves O m z m.up us) (sym params) above

      alike : has_arguments us ≡ has_arguments es
      alike = args-alike O m other up

      go : BeginsBare O m (has_arguments es) ⊎ BeginsAbove O m (has_arguments es)
          → (maker_code O m es xs ≡ maker_code O m us ys) × (k.locals ≡ l.locals) × (i ≡ j)
      go (inl b) =
          let g = statements-only m k l a a i j ss ts xs ys f h some also r q refl
          (subst (λ z. Counts a (numbers_sts z) i) (b.is es xs refl) c) (subst (λ z. Counts a (numbers_sts z) j) (b.is us ys alike) d) w v in
          (b.is es xs refl ∙ g.statements ∙ sym (b.is us ys alike), g.locals, g.numbers)
      go (inr b) =
          let c1 = counts-split (numbers_all es) (numbers_sts xs) (subst (λ z. Counts a (numbers_sts z) i) (b.is es xs refl) c) in
          let d1 = counts-split (numbers_all us) (numbers_sts ys) (subst (λ z. Counts a (numbers_sts z) j) (b.is us ys alike) d) in
          let u = up-only m (params_from 0 k.params) a c1.0 d1.0 m.up es us up other c1.1 d1.1 in
          let g = statements-only m k l c1.0 d1.0 i j ss ts xs ys f h some also r q u.1 c1.2 d1.2 w v in (
            b.is es xs refl ∙ ap (λ z. st_then (call_above (at_place m.head.place) b.class.name z) xs) u.0
                ∙ ap (λ z. st_then (call_above (at_place m.head.place) b.class.name us) z) g.statements ∙ sym (b.is us ys alike),
            g.locals,
            g.numbers,
          )

  body-only : (m : MethodAt) (k l : PlainMethod) (a i j : ℕ) → IsFormedBody m.body → heading_of k ≡ heading_of l → BodyResolves O m k
      → BodyResolves O m l → Counts a (numbers_body k.body) i → Counts a (numbers_body l.body) j
      → (k.body ≡ l.body) × (k.locals ≡ l.locals) × (i ≡ j)
  body-only m k l a i j f h (r_no_body none b ls) (r_no_body also d ms) c e =
      (b ∙ sym d, ls ∙ sym ms, none-only (subst (λ z. Counts a (numbers_body z) i) b c) (subst (λ z. Counts a (numbers_body z) j) d e))
  body-only m k l a i j f h (r_no_body none b ls) (r_body p some d r w) c e = absurd (cc (sym none ∙ some))
  body-only m k l a i j f h (r_no_body none b ls) (r_maker p some d u r w) c e = absurd (cc (sym none ∙ some))
  body-only m k l a i j f h (r_body p some d r w) (r_no_body none b ls) c e = absurd (cc (sym none ∙ some))
  body-only m k l a i j f h (r_maker p some d u r w) (r_no_body none b ls) c e = absurd (cc (sym none ∙ some))
  body-only m k l a i j f h (r_body p some d r w) (r_maker q also g u t v) c e = absurd (false≢true (sym p ∙ q))
  body-only m k l a i j f h (r_maker q also g u t v) (r_body p some d r w) c e = absurd (false≢true (sym p ∙ q))
  body-only m k l a i j f h (r_body {ss = ss} {xs = xs} p some b r w) (r_body {ss = us} {xs = ys} o also d q v) c e =
      let g = statements-only m k l a a i j ss us xs ys f h some also r q refl (subst (λ z. Counts a (numbers_body z) i) b c)
      (subst (λ z. Counts a (numbers_body z) j) d e) w v in
      (b ∙ ap Some g.statements ∙ sym d, g.locals, g.numbers)
  body-only m k l a i j f h (r_maker {ss = ss} {es = es} {xs = xs} p some b u r w) (r_maker {ss = ts} {es = us} {xs = ys} o also d y q v) c e =
      let g = code-only m k l a i j ss ts es us xs ys f h some also u y r q (subst (λ z. Counts a (numbers_body z) i) b c)
      (subst (λ z. Counts a (numbers_body z) j) d e) w v in
      (b ∙ ap Some g.0 ∙ sym d, g.1, g.2)

  -- each method with its slot, its body and its locals
  methods-only : {ms : List MethodAt} {ks ls : List PlainMethod} (a i j : ℕ) → ((n : ℕ) (m : MethodAt) → slice_get ms n ≡ Some m
      → IsFormedBody m.body) → BodiesResolve O ms ks → BodiesResolve O ms ls → map heading_of ks ≡ map heading_of ls
      → ((n : ℕ) (k l : PlainMethod) → slice_get ks n ≡ Some k → slice_get ls n ≡ Some l → k.slot ≡ l.slot) → Counts a (numbers_methods ks) i
      → Counts a (numbers_methods ls) j → ks ≡ ls
  methods-only a i j f r_no_methods r_no_methods h s c d = refl
  methods-only a i j f (r_method {m = m} {k = k} {ks = ks} b bs) (r_method {k = l} {ks = ls} e es) h s c d =
      let c1 = counts-split (numbers_body k.body) (numbers_methods ks) c in let d1 = counts-split (numbers_body l.body) (numbers_methods ls) d in
      let head = same_some (ap (λ z. slice_get z 0) h) in
      let g = body-only m k l a c1.0 d1.0 (f 0 m refl) head b e c1.1 d1.1 in
      ap (λ z. z ∷ ks) (method-is k l head (s 0 k l refl refl) g.0 g.1)
      ∙ ap (λ z. l ∷ z) (methods-only c1.0 i j (λ n. f (suc n)) bs es (ap behind h) (λ n. s (suc n)) c1.2 (from g.2 d1.2))

-- ---- the whole

module _ (tree : List DeclTree) (formed : IsFormedTree tree) (none : HasNoCondition tree) where
  main-least : (P Q : Plain) → map heading_of P.methods ≡ map heading_of Q.methods → Resolves tree P → Resolves tree Q → P.main ≤ Q.main
  main-least P Q same p q = let k = other-method Q P (sym same) Q.main q.main q.main_stands in p.main_first Q.main k.0 k.1
      (main-of k.2 (of-main refl q.main_is))

  pub only : (P Q : Plain) → Resolves tree P → Resolves tree Q → P ≡ Q
  only P Q p q = plain (p.classes ∙ sym q.classes) (p.fields ∙ sym q.fields) methods slots main
    where
      same : map heading_of P.methods ≡ map heading_of Q.methods
      same = p.headings ∙ sym q.headings

      slots : P.slots ≡ Q.slots
      slots = slots-only P Q same p.slots q.slots

      methods : P.methods ≡ Q.methods
      methods =
          methods-only (outline tree) (one-met (outline tree) (λ c i j h k p q lt same u v other. none _ (overload p q lt same u v other))) 0 p.last
          q.last (λ n m e. (method-of tree formed n m e).is.body) p.bodies q.bodies same
          (λ n k l e f. slot-only P Q slots p.slots k l (same_some (sym (at_map heading_of P.methods n k e) ∙ ap (λ z. slice_get z n) same
          ∙ at_map heading_of Q.methods n l f)) (p.slots.each n k e) (q.slots.each n l f))
          p.numbers q.numbers

      main : P.main ≡ Q.main
      main = let a = main-least P Q same p q in let b = main-least Q P (sym same) q p in omega (arith, a, b)

      plain : P.classes ≡ Q.classes → P.fields ≡ Q.fields → P.methods ≡ Q.methods → P.slots ≡ Q.slots → P.main ≡ Q.main → P ≡ Q
      plain a b c d e =
          ap (λ z. record P { classes = z }) a ∙ ap (λ z. record P { classes = Q.classes; fields = z }) b
          ∙ ap (λ z. record Q { methods = z; slots = P.slots; main = P.main }) c
          ∙ ap (λ z. record Q { slots = z; main = P.main }) d ∙ ap (λ z. record Q { main = z }) e
