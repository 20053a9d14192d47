-- A walk downwards finds what is at or below a type.
use Rattle.std.proofs.Common.{◌≡◌, ℕ, ◌+◌, ◌<◌, ◌≤◌, ◌⊎◌, inl, inr, ⊎_elim, Bool, true, false, ◌||◌, List, [], ◌∷◌, ◌++◌, length, take, get_or, set, Contains, refl, sym, ap, ◌∙◌, subst, arith}
use Rattle.std.specs.declared.vec.Vec.{Vec}
use Rattle.std.specs.declared.alloc.Global.{Global}
use Rattle.std.proofs.lemmas.Bool.{false≢true, eqb-true, eq-eqb, or_cases, or_left, or_right, cases_eq}
use Rattle.std.proofs.lemmas.List.{get_or-set_same, get_or-set_other, length-append, length-set}
use Rattle.std.proofs.Math.Seq.{take-suc}
use Rattle.std.proofs.Math.Numerals.{add-one}
use Rattle.std.proofs.lemmas.List.Elements.{Contains-append_left, Contains-append_right, Contains-push, Contains-push_cases, Contains-append_cases}
use Rattle.kaba_base.proofs.ListLemmas.{one_from, one as one-is, no-member}
use Rattle.kaba_bits.specs.Sets.{bit, row, size}
use Rattle.kaba_bits.proofs.SetLemmas.{bit-below}
use Rattle.kaba_bits.proofs.RowLemmas.{set-kept}
use Rattle.java_core.specs.Squares.{in_row, is_below, AreRows}
use Rattle.java_core.specs.Subtypes.{StandsUnder, itself, under, AreInside, IsOwnRow, IsExactRow, AreExact, Filled, HoldsRow, GainedTypes, WalkedBelow}
use Rattle.java_core.specs.Owned.{listed}

-- ---- what a row gains

-- where one bit is set
set-bits : (r : List Bool) (x y : ℕ) → x < length r → bit (set r x true) y ≡ true → (bit r y ≡ true) ⊎ (y ≡ x)
set-bits r x y lt h = ⊎_elim (λ e. inr e) (λ ne. inl (sym (get_or-set_other r x y true false ne) ∙ h)) (cases_eq y x)

pub gained-wait : (rows : List (List Bool)) (known : List Bool) (x : ℕ) (r : List Bool) (w : List ℕ) → x < length r → size (set r x true) ≡ size r + 1
    → GainedTypes rows known (x ∷ []) r (set r x true) w (w ++ x ∷ [])
gained-wait rows known x r w lt more = record {
  len = length-set r x true;
  kept = λ y h. set-kept r x y lt h;
  news = λ y h. ⊎_elim (λ k. inl k) (λ e. inr (x, one-is x, inl e)) (set-bits r x y lt h);
  settled = λ y h. ⊎_elim (λ k. inl k) (λ e. inr (inl (subst (λ z. Contains (w ++ x ∷ []) z) (sym e) (Contains-push w x)))) (set-bits r x y lt h);
  told = λ y c. subst (λ z. bit (set r x true) z ≡ true) (one_from x y c) (get_or-set_same r x true false lt);
  waits = λ y c. Contains-append_left w (x ∷ []) y c;
  comes = λ y c. Contains-append_cases w (x ∷ []) y c;
  work = let l = length-append w (x ∷ []) in omega (arith, l, more);
}

pub gained-held : (rows : List (List Bool)) (known : List Bool) (x : ℕ) (old new : List Bool) (w : List ℕ) → bit known x ≡ true → x < length old
    → AreRows (length old) rows
    → length new ≡ length old → ((y : ℕ) → y < length old → bit new y ≡ (bit old y || in_row (row rows x) y x)) → size old ≤ size new
    → GainedTypes rows known (x ∷ []) old new w w
gained-held rows known x old new w is_known inside formed len join work = record {
  len = len;
  kept = λ y h. join y (bit-below old y h) ∙ or_left (bit old y) (in_row (row rows x) y x) h;
  news = λ y h. ⊎_elim (λ k. inl k) (λ k. inr (x, one-is x, inr (is_known, k))) (parts y h);
  settled = λ y h. ⊎_elim (λ k. inl k) (λ k. inr (inr (record {
    by = x;
    known_by = is_known;
    inside = subst (λ n. x < n) (sym len) inside;
    below = k;
    all = λ z lt q. join z (subst (λ n. z < n) len lt) ∙ or_right (bit old z) (in_row (row rows x) z x) q;
  }))) (parts y h);
  told = λ y c. subst (λ z. bit new z ≡ true) (one_from x y c) (join x inside ∙ or_right (bit old x) (in_row (row rows x) x x) (formed.own x inside));
  waits = λ y c. c;
  comes = λ y c. inl c;
  work = omega (arith, work);
}
  where
    parts : (y : ℕ) → bit new y ≡ true → (bit old y ≡ true) ⊎ (in_row (row rows x) y x ≡ true)
    parts y h = or_cases (bit old y) (in_row (row rows x) y x) (sym (join y (let k = bit-below new y h in omega (arith, k, len))) ∙ h)

held-kept : (rows : List (List Bool)) (known r s : List Bool) (y : ℕ) → length s ≡ length r → ((z : ℕ) → bit r z ≡ true → bit s z ≡ true)
    → HoldsRow rows known r y → HoldsRow rows known s y
held-kept rows known r s y len kept h = record {
  by = h.by;
  known_by = h.known_by;
  inside = subst (λ n. h.by < n) (sym len) h.inside;
  below = h.below;
  all = λ z lt q. kept z (h.all z (subst (λ n. z < n) len lt) q);
}

pub gained-then : (rows : List (List Bool)) (known : List Bool) (first second : List ℕ) (r0 r1 r2 : List Bool) (w0 w1 w2 : List ℕ)
    → GainedTypes rows known first r0 r1 w0 w1 → GainedTypes rows known second r1 r2 w1 w2 → GainedTypes rows known (first ++ second) r0 r2 w0 w2
gained-then rows known first second r0 r1 r2 w0 w1 w2 g h = record {
  len = h.len ∙ g.len;
  kept = λ y k. h.kept y (g.kept y k);
  news = λ y k. ⊎_elim
      (λ a. ⊎_elim (λ c. inl c) (λ c. inr (c.0, Contains-append_left first second c.0 c.1, c.2)) (g.news y a))
      (λ c. inr (c.0, Contains-append_right first second c.0 c.1, c.2))
      (h.news y k);
  settled = λ y k. ⊎_elim
      (λ a. ⊎_elim (λ c. inl c) (λ c. inr (⊎_elim (λ d. inl (h.waits y d)) (λ d. inr (held-kept rows known r1 r2 y h.len h.kept d)) c)) (g.settled y a))
      (λ c. inr c)
      (h.settled y k);
  told = λ x c. ⊎_elim (λ d. h.kept x (g.told x d)) (λ d. h.told x d) (Contains-append_cases first second x c);
  waits = λ y c. h.waits y (g.waits y c);
  comes = λ y c. ⊎_elim
      (λ d. ⊎_elim (λ e. inl e) (λ e. inr (Contains-append_left first second y e)) (g.comes y d))
      (λ d. inr (Contains-append_right first second y d))
      (h.comes y c);
  work = let p = g.work in let q = h.work in omega (arith, p, q);
}

pub gained-more : (rows : List (List Bool)) (known : List Bool) (xs : List ℕ) (i : ℕ) (r0 r1 r2 : List Bool) (w0 w1 w2 : List ℕ) → i < length xs
    → GainedTypes rows known (take i xs) r0 r1 w0 w1 → GainedTypes rows known (get_or xs i 0 ∷ []) r1 r2 w1 w2 → GainedTypes rows known (take (i + 1) xs) r0 r2 w0 w2
gained-more rows known xs i r0 r1 r2 w0 w1 w2 lt g h = subst (λ l. GainedTypes rows known l r0 r2 w0 w2) (sym (ap (λ k. take k xs) (add-one i) ∙ take-suc xs i 0 lt))
    (gained-then rows known (take i xs) (get_or xs i 0 ∷ []) r0 r1 r2 w0 w1 w2 g h)

-- ---- the walk

module _ (lists : List (Vec ℕ Global)) where
  pub under-then : {a b c : ℕ} → StandsUnder lists a b → StandsUnder lists b c → StandsUnder lists a c
  under-then itself k = k
  under-then (under direct rest) k = under direct (under-then rest k)

  in_row-bit : (r : List Bool) (y b : ℕ) → bit r b ≡ true → in_row r y b ≡ bit r y
  in_row-bit [] y b e = absurd (false≢true e)
  in_row-bit (x ∷ xs) y b e = refl

  pub walked-start : (n b : ℕ) (r : List Bool) → IsOwnRow n b r → WalkedBelow lists n b r (b ∷ [])
  walked-start n b r own = record {
    len = own.len;
    start = own.own;
    sound = λ y h. subst (λ z. StandsUnder lists z b) (sym (own.bits y h)) itself;
    settled = λ y h. inl (subst (λ z. Contains (b ∷ []) z) (sym (own.bits y h)) (one-is b));
    from = λ y c. subst (λ z. StandsUnder lists z b) (one_from b y c) itself;
  }

  module _ (n b : ℕ) (inside : AreInside n lists) (known : List Bool) (rows : List (List Bool)) (exact : AreExact lists n known rows) where
    pub walked-step : (r s : List Bool) (rest after : List ℕ) (x : ℕ) → WalkedBelow lists n b r (rest ++ x ∷ [])
        → GainedTypes rows known (listed lists x) r s rest after → WalkedBelow lists n b s after
    walked-step r s rest after x w g = record {
      len = g.len ∙ w.len;
      start = g.kept b w.start;
      sound = λ y h. ⊎_elim (λ k. w.sound y k) (λ k. found y k.0 k.1 k.2) (g.news y h);
      settled = λ y h. ⊎_elim (λ k. old y (w.settled y k)) (λ k. ⊎_elim (λ c. inl c) (λ c. inr (new y c)) k) (g.settled y h);
      from = λ y c. ⊎_elim (λ d. w.from y (Contains-append_left rest (x ∷ []) y d)) (λ d. under d here) (g.comes y c);
    }
      where
        here : StandsUnder lists x b
        here = w.from x (Contains-push rest x)

        found : (y z : ℕ) → Contains (listed lists x) z → (y ≡ z) ⊎ ((bit known z ≡ true) × (is_below rows y z ≡ true)) → StandsUnder lists y b
        found y z c (inl e) = subst (λ v. StandsUnder lists v b) (sym e) (under c here)
        found y z c (inr k) = under-then ((exact.each z k.0).sound y k.1) (under c here)

        old : (y : ℕ) → Contains (rest ++ x ∷ []) y ⊎ ((z : ℕ) → Contains (listed lists y) z → bit r z ≡ true)
            → Contains after y ⊎ ((z : ℕ) → Contains (listed lists y) z → bit s z ≡ true)
        old y (inl c) = ⊎_elim (λ d. inl (g.waits y d))
            (λ e. inr (λ z d. g.told z (subst (λ v. Contains (listed lists v) z) (sym e) d))) (Contains-push_cases rest x y c)
        old y (inr c) = inr (λ z d. g.kept z (c z d))

        new : (y : ℕ) → HoldsRow rows known s y → (z : ℕ) → Contains (listed lists y) z → bit s z ≡ true
        new y held z c =
            let e = exact.each held.by held.known_by in
            let zn = inside.each y z c in
            held.all z (let p = g.len in let q = w.len in omega (arith, zn, p, q)) (e.whole z (under c (e.sound y held.below)))

  pub walked-end : (n b : ℕ) (r : List Bool) → WalkedBelow lists n b r [] → IsExactRow lists n b r
  walked-end n b r w = record {
    wide = inr w.len;
    sound = λ y h. w.sound y (sym (in_row-bit r y b w.start) ∙ h);
    whole = λ y h. in_row-bit r y b w.start ∙ reached w.start h;
  }
    where
      reached : {y c : ℕ} → bit r c ≡ true → StandsUnder lists y c → bit r y ≡ true
      reached e itself = e
      reached e (under {y = y} {x = x} direct rest) =
          ⊎_elim (λ c. no-member x c) (λ closed. closed y direct) (w.settled x (reached e rest))

  -- a type with nothing directly below it
  pub alone : (n b : ℕ) → listed lists b ≡ [] → IsExactRow lists n b []
  alone n b none = record {
    wide = inl refl;
    sound = λ y h. subst (λ z. StandsUnder lists z b) (sym (eqb-true y b h)) itself;
    whole = λ y h. eq-eqb y b (only h none);
  }
    where
      only : {y c : ℕ} → StandsUnder lists y c → listed lists c ≡ [] → y ≡ c
      only itself e = refl
      only (under {y = y} {x = x} direct rest) e =
          let same = only rest e in no-member y (subst (λ z. Contains z y) (ap (listed lists) same ∙ e) direct)

  -- ---- the rows, one after the other

  pub exact-more : (n b : ℕ) (known : List Bool) (rows : List (List Bool)) (r : List Bool) → b < n → AreExact lists n known rows → IsExactRow lists n b r
      → AreExact lists n (set known b true) (set rows b r)
  exact-more n b known rows r lt before e = record {
    len = length-set rows b r ∙ before.len;
    wide = length-set known b true ∙ before.wide;
    formed = record {
      wide = λ k. at k (λ z. (length z ≡ 0) ⊎ (length z ≡ n)) (λ i. e.wide) (before.formed.wide k);
      own = λ k lk. at k (λ z. in_row z k k ≡ true) (λ i. subst (λ v. in_row r k v ≡ true) (sym i) (e.whole k (subst (λ v. StandsUnder lists k v) i itself)))
          (before.formed.own k lk);
    };
    each = λ k h. ⊎_elim
        (λ old. ⊎_elim (λ i. there k i) (λ ne. subst (IsExactRow lists n k) (sym (get_or-set_other rows b k r [] ne)) (before.each k old)) (cases_eq k b))
        (λ i. there k i)
        (set-bits known b k (let l = before.wide in omega (arith, l, lt)) h);
  }
    where
      here : row (set rows b r) b ≡ r
      here = get_or-set_same rows b r [] (let l = before.len in omega (arith, l, lt))

      there : (k : ℕ) → k ≡ b → IsExactRow lists n k (row (set rows b r) k)
      there k i = subst (λ v. IsExactRow lists n v (row (set rows b r) v)) (sym i) (subst (IsExactRow lists n b) (sym here) e)

      at : (k : ℕ) (P : List Bool → Type 0) → (k ≡ b → P r) → P (row rows k) → P (row (set rows b r) k)
      at k P new old = ⊎_elim
          (λ i. subst P (sym (ap (row (set rows b r)) i ∙ here)) (new i))
          (λ ne. subst P (sym (get_or-set_other rows b k r [] ne)) old)
          (cases_eq k b)

  pub filled-one : (n b : ℕ) (known : List Bool) (rows : List (List Bool)) (r : List Bool) → b < n → AreExact lists n known rows → IsExactRow lists n b r
      → Filled lists n b known (set known b true) (set rows b r)
  filled-one n b known rows r lt before e = record {
    exact = exact-more n b known rows r lt before e;
    kept = λ k h. set-kept known b k (let l = before.wide in omega (arith, l, lt)) h;
    told = λ _. get_or-set_same known b true false (let l = before.wide in omega (arith, l, lt));
  }
