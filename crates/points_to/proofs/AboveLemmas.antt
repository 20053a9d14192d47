-- A walk upwards finds the classes at or above one.
use Rattle.std.proofs.Common.{◌≡◌, ℕ, ◌+◌, ◌<◌, ◌⊎◌, inl, inr, ⊎_elim, Bool, true, false, List, [], ◌∷◌, ◌++◌, length, take, get_or, set, Contains, sym, ap, ◌∙◌, subst, arith}
use Rattle.std.proofs.lemmas.Bool.{cases_eq, cases_lt, false≢true}
use Rattle.std.proofs.lemmas.List.{get_or-set_other}
use Rattle.std.proofs.lemmas.List.Elements.{Contains-append_left, Contains-append_right, Contains-push, Contains-push_cases, Contains-append_cases}
use Rattle.std.proofs.Math.Seq.{take-suc}
use Rattle.std.proofs.Math.Numerals.{add-one}
use Rattle.kaba_base.specs.declared.ClassId.{ClassId}
use Rattle.kaba_base.proofs.ListLemmas.{one_from, no-member}
use Rattle.kaba_bits.specs.Sets.{bit, row, IsNoneFrom, GainsBit}
use Rattle.kaba_bits.proofs.SetLemmas.{bit-below}
use Rattle.fact_model.specs.declared.facts.Facts.{Facts}
use Rattle.fact_model.specs.Classes.{supers_of, IsBelow, same, through}
use Rattle.fact_model.specs.InRange.{IsClass}
use Rattle.fact_model.specs.Items.{site_class}
use Rattle.fact_model.proofs.ClassLemmas.{below-then}
use Rattle.points_to.specs.Above.{class_id, IsAboveRow, AreSitesBelow, HaveGainedSite, GainedClasses, WalkedAbove}

-- ---- what a row gains

pub set-bits : (r : List Bool) (x y : ℕ) → bit (set r x true) y ≡ true → (bit r y ≡ true) ⊎ (y ≡ x)
set-bits r x y h = ⊎_elim (λ e. inr e) (λ ne. inl (sym (get_or-set_other r x y true false ne) ∙ h)) (cases_eq y x)

pub gained-then : (first second : List ClassId) (r0 r1 r2 : List Bool) (w0 w1 w2 : List ClassId)
    → GainedClasses first r0 r1 w0 w1 → GainedClasses second r1 r2 w1 w2 → GainedClasses (first ++ second) r0 r2 w0 w2
gained-then first second r0 r1 r2 w0 w1 w2 g h = record {
  len = h.len ∙ g.len;
  kept = λ y k. h.kept y (g.kept y k);
  news = λ y k. ⊎_elim
      (λ a. ⊎_elim (λ c. inl c) (λ c. inr (Contains-append_left first second (class_id y) c)) (g.news y a))
      (λ c. inr (Contains-append_right first second (class_id y) c))
      (h.news y k);
  settled = λ y k. ⊎_elim
      (λ a. ⊎_elim (λ c. inl c) (λ c. inr (h.waits (class_id y) c)) (g.settled y a))
      (λ c. inr c)
      (h.settled y k);
  told = λ x c. ⊎_elim (λ d. h.kept x.0 (g.told x d)) (λ d. h.told x d) (Contains-append_cases first second x c);
  waits = λ y c. h.waits y (g.waits y c);
  comes = λ y c. ⊎_elim
      (λ d. ⊎_elim (λ e. inl e) (λ e. inr (Contains-append_left first second y e)) (g.comes y d))
      (λ d. inr (Contains-append_right first second y d))
      (h.comes y c);
  inside = λ x c. ⊎_elim (λ d. g.inside x d) (λ d. let i = h.inside x d in let l = g.len in omega (arith, i, l)) (Contains-append_cases first second x c);
  work = let p = g.work in let q = h.work in omega (arith, p, q);
}

pub gained-more : (xs : List ClassId) (i : ℕ) (d : ClassId) (r0 r1 r2 : List Bool) (w0 w1 w2 : List ClassId) → i < length xs
    → GainedClasses (take i xs) r0 r1 w0 w1 → GainedClasses (get_or xs i d ∷ []) r1 r2 w1 w2 → GainedClasses (take (i + 1) xs) r0 r2 w0 w2
gained-more xs i d r0 r1 r2 w0 w1 w2 lt g h =
    subst (λ l. GainedClasses l r0 r2 w0 w2) (sym (ap (λ k. take k xs) (add-one i) ∙ take-suc xs i d lt))
    (gained-then (take i xs) (get_or xs i d ∷ []) r0 r1 r2 w0 w1 w2 g h)

-- ---- the walk

module _ (F : Facts) where
  pub walked-start : (a : ClassId) (r s : List Bool) (w : List ClassId) → length r ≡ length F.classes.items → ((y : ℕ) → bit r y ≡ true → ⊥) → IsClass F a
      → GainedClasses (a ∷ []) r s [] w → WalkedAbove F a.0 s w
  walked-start a r s w len none in_range g = record {
    len = g.len ∙ len;
    start = g.told a (Contains-push [] a);
    sound = λ y h. ⊎_elim (λ k. absurd (none y k))
        (λ c. subst (λ z. IsBelow F a.0 z) (ap (λ (z : ClassId). z.0) (one_from a (class_id y) c)) same) (g.news y h);
    settled = λ y h. ⊎_elim (λ k. absurd (none y k)) (λ c. inl c) (g.settled y h);
    from = λ y c. ⊎_elim (λ d. no-member y d) (λ d. subst (λ (z : ClassId). IsBelow F a.0 z.0) (one_from a y d) same) (g.comes y c);
    inside = λ y c. ⊎_elim (λ d. no-member y d) (λ d. subst (IsClass F) (one_from a y d) in_range) (g.comes y c);
  }

  module _ (a : ℕ) where
    pub walked-step : (r s : List Bool) (rest after : List ClassId) (x : ClassId) → WalkedAbove F a r (rest ++ x ∷ [])
        → GainedClasses (supers_of F x.0) r s rest after → WalkedAbove F a s after
    walked-step r s rest after x w g = record {
      len = g.len ∙ w.len;
      start = g.kept a w.start;
      sound = λ y h. ⊎_elim (λ k. w.sound y k) (λ k. below-then F here (through {c = class_id y} k same)) (g.news y h);
      settled = λ y h. ⊎_elim (λ k. old y (w.settled y k)) (λ c. inl c) (g.settled y h);
      from = λ y c. ⊎_elim (λ d. w.from y (Contains-append_left rest (x ∷ []) y d)) (λ d. below-then F here (through {c = y} d same)) (g.comes y c);
      inside = λ y c. ⊎_elim (λ d. w.inside y (Contains-append_left rest (x ∷ []) y d)) (λ d. let i = g.inside y d in let l = w.len in omega
          (arith, i, l)) (g.comes y c);
    }
      where
        here : IsBelow F a x.0
        here = w.from x (Contains-push rest x)

        old : (y : ℕ) → Contains (rest ++ x ∷ []) (class_id y) ⊎ ((z : ClassId) → Contains (supers_of F y) z → bit r z.0 ≡ true)
            → Contains after (class_id y) ⊎ ((z : ClassId) → Contains (supers_of F y) z → bit s z.0 ≡ true)
        old y (inl c) = ⊎_elim (λ d. inl (g.waits (class_id y) d))
            (λ e. inr (λ z d. g.told z (subst (λ (v : ClassId). Contains (supers_of F v.0) z) (sym e) d))) (Contains-push_cases rest x (class_id y) c)
        old y (inr c) = inr (λ z d. g.kept z.0 (c z d))

  pub walked-end : (a : ℕ) (r : List Bool) → WalkedAbove F a r [] → IsAboveRow F a r
  walked-end a r w = record { len = w.len; sound = w.sound; whole = λ b h. reached w.start h }
    where
      reached : {x y : ℕ} → bit r x ≡ true → IsBelow F x y → bit r y ≡ true
      reached e same = e
      reached e (through {a = x} {c = c} direct rest) =
          reached (⊎_elim (λ k. no-member (class_id x) k) (λ closed. closed c direct) (w.settled x e)) rest

-- ---- the sites at or below a class

-- one class more
pub site_more : (old mid new : List (List Bool)) (classes : List Bool) (s at k : ℕ) → HaveGainedSite old mid classes s at → IsNoneFrom (bit classes) at k
    → bit classes k ≡ true → length new ≡ length mid → ((j : ℕ) → length (row new j) ≡ length (row mid j)) → GainsBit mid new k s
    → HaveGainedSite old new classes s (k + 1)
site_more old mid new classes s at k h none here len widths gains = record {
  len = len ∙ h.len;
  widths = λ j. widths j ∙ h.widths j;
  kept = λ j x b. keeps j x (h.kept j x b);
  gained = λ j x b. ⊎_elim
      (λ e. ⊎_elim (λ d. inr (d, subst (λ i. bit classes i ≡ true) (sym e) here))
      (λ ne. h.gained j x (subst (λ i. bit (row mid i) x ≡ true) (sym e) (sym (gains.rest x ne) ∙ subst (λ i. bit (row new i) x ≡ true) e b)))
      (cases_eq x s))
      (λ ne. h.gained j x (sym (ap (λ r. bit r x) (gains.others j ne)) ∙ b))
      (cases_eq j k);
  all = λ j lt b. ⊎_elim (λ e. subst (λ i. bit (row new i) s ≡ true) (sym e) gains.added)
      (λ ne. keeps j s (⊎_elim (λ low. h.all j low b) (λ high. absurd (false≢true (sym (none j high (omega (arith, lt, ne))) ∙ b))) (cases_lt j at)))
      (cases_eq j k);
}
  where
    keeps : (j x : ℕ) → bit (row mid j) x ≡ true → bit (row new j) x ≡ true
    keeps j x b = ⊎_elim
        (λ e. ⊎_elim (λ d. subst (λ i. bit (row new i) x ≡ true) (sym e) (subst (λ y. bit (row new k) y ≡ true) (sym d) gains.added))
        (λ ne. subst (λ i. bit (row new i) x ≡ true) (sym e) (gains.rest x ne ∙ subst (λ i. bit (row mid i) x ≡ true) e b))
        (cases_eq x s))
        (λ ne. ap (λ r. bit r x) (gains.others j ne) ∙ b)
        (cases_eq j k)

-- no class more
pub site_rest : (old new : List (List Bool)) (classes : List Bool) (s at : ℕ) → HaveGainedSite old new classes s at → IsNoneFrom (bit classes) at (length classes)
    → HaveGainedSite old new classes s (length classes)
site_rest old new classes s at h none = record {
  len = h.len;
  widths = h.widths;
  kept = h.kept;
  gained = h.gained;
  all = λ j lt b. ⊎_elim (λ low. h.all j low b) (λ high. absurd (false≢true (sym (none j high lt) ∙ b))) (cases_lt j at);
}

-- one site more in each row
pub sites_more : (F : Facts) (old new : List (List Bool)) (classes : List Bool) (s : ℕ) → AreSitesBelow F s old → IsAboveRow F (site_class F s) classes
    → HaveGainedSite old new classes s (length classes) → AreSitesBelow F (s + 1) new
sites_more F old new classes s before above h = record {
  len = h.len ∙ before.len;
  widths = λ k lt. h.widths k ∙ before.widths k (omega (arith, lt, h.len));
  sound = λ k x b. ⊎_elim (λ a. before.sound k x a) (λ a. subst (λ y. IsBelow F (site_class F y) k) (sym a.0) (above.sound k a.1)) (h.gained k x b);
  whole = λ k x lt b. ⊎_elim
      (λ e. let c = above.whole k (subst (λ y. IsBelow F (site_class F y) k) e b) in
      subst (λ y. bit (row new k) y ≡ true) (sym e) (h.all k (bit-below classes k c) c))
      (λ ne. h.kept k x (before.whole k x (omega (arith, lt, ne)) b))
      (cases_eq x s);
}
