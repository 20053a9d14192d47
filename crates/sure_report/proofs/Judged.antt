-- Lists with one item for each of another; the bodies that are found, site by site; and sets that are empty past their width.
use Rattle.std.proofs.Common.{◌≡◌, ℕ, zero, suc, ◌+◌, ◌<◌, ◌≤◌, List, [], ◌∷◌, ◌++◌, Option, Some, None, length, take, drop, drop-cons, add-one, get_or, refl, sym, ap, ◌∙◌, subst, ⊎_elim, inl, inr, arith}
use Rattle.std.specs.Prelude.{◌⊎◌, ◌==◌, if◌then◌else◌, Bool, true, false, All, slice_get}
use Rattle.std.specs.Option.{option_map}
use Rattle.std.proofs.lemmas.Bool.{eqb-true, eqb-false, cases_lt}
use Rattle.std.proofs.lemmas.List.{take_more, drop_all, length_push}
use Rattle.std.proofs.lemmas.Option.{same_Some}
use Rattle.std.proofs.lemmas.List.Elements.{All-contains, All-filter, filter_passes}
use Rattle.std.specs.List.{filter}
use Rattle.kaba_bits.specs.Sets.{bit, row}
use Rattle.kaba_bits.proofs.SetLemmas.{bit-below}
use Rattle.kaba_bits.proofs.RowLemmas.{bit-row-below}
use Rattle.kaba_base.proofs.ListLemmas.{all_of}
use Rattle.kaba_base.specs.declared.ColId.{ColId}
use Rattle.fact_model.specs.Items.{site_class}
use Rattle.fact_model.specs.Classes.{finds}
use Rattle.fact_model.specs.Flowing.{AreSets}
use Rattle.fact_model.specs.declared.facts.Facts.{Facts}
use Rattle.fact_model.specs.declared.facts.CallInfo.{CallInfo}
use Rattle.fact_model.specs.declared.facts.Spot.{Spot}
use Rattle.fact_model.specs.declared.facts.SpotKind.{SpotKind}
use Rattle.fact_model.specs.declared.facts.SpotKind.TheVariants as spot
use Rattle.fact_model.specs.declared.sets.PointsTo.{PointsTo}
use Rattle.sure_report.specs.declared.Bodies.{Bodies}
use Rattle.sure_report.specs.declared.Bodies.TheVariants.{Zero, One, Many}
use Rattle.sure_report.specs.Report.{AreJudged, MayRun, MayRunThese, is_cast, is_call, cast_spots, call_spots, IsNumberOf, AreSpotsInRange, IsUnreached}
use Rattle.fact_model.specs.declared.facts.ColKind.TheVariants.{Fld, Def}
use Rattle.sure_report.specs.Text.{lines}
use Rattle.sure_report.specs.Found.{body_for, joined_body, IsFoundBelow, RunBelow, IsBodyLeft, IsAccessLeft}

pushed : {A : Type 0} (xs : List A) (x y : A) (i : ℕ) → slice_get (xs ++ x ∷ []) i ≡ Some y → (slice_get xs i ≡ Some y) ⊎ ((i ≡ length xs) × (x ≡ y))
pushed [] x y zero e = inr (refl, same_Some x y e)
pushed [] x y (suc i) e = absurd (cc)
pushed (z ∷ xs) x y zero e = inl e
pushed (z ∷ xs) x y (suc i) e = ⊎_elim (λ h. inl h) (λ h. inr (omega (arith, h.0), h.1)) (pushed xs x y i e)

within : {A : Type 0} (xs : List A) (x : A) (i : ℕ) → slice_get xs i ≡ Some x → i < length xs
within [] x i e = absurd (cc)
within (z ∷ xs) x zero e = omega arith
within (z ∷ xs) x (suc i) e = let h = within xs x i e in omega (arith, h)

pub judged_push : {A B : Type 0} (R : A → B → Type 0) (xs : List A) (ys : List B) (x : A) (y : B) → AreJudged R xs ys → R x y
    → AreJudged R (xs ++ x ∷ []) (ys ++ y ∷ [])
judged_push R xs ys x y j r = record {
  count = length_push ys y ∙ ap (λ n. n + 1) j.count ∙ sym (length_push xs x);
  each = λ i a b ea eb. ⊎_elim
      (λ h. ⊎_elim (λ k. j.each i a b h k) (λ k. let w = within xs a i h in absurd (omega (arith, w, k.0, j.count))) (pushed ys y b i eb))
      (λ h. ⊎_elim (λ k. let w = within ys b i k in absurd (omega (arith, w, h.0, j.count)))
      (λ k. subst (λ z. R z b) h.1 (subst (λ z. R x z) k.1 r)) (pushed ys y b i eb))
      (pushed xs x a i ea);
}

-- one more of a list and its judgement
pub judged_more : {A B : Type 0} (R : A → B → Type 0) (xs : List A) (ys : List B) (i : ℕ) (d : A) (y : B) → i < length xs → AreJudged R (take i xs) ys
    → R (get_or xs i d) y → AreJudged R (take (i + 1) xs) (ys ++ y ∷ [])
judged_more R xs ys i d y lt j r = subst (λ z. AreJudged R z (ys ++ y ∷ [])) (sym (take_more xs i d lt)) (judged_push R (take i xs) ys (get_or xs i d) y j r)

pub judged_none : {A B : Type 0} (R : A → B → Type 0) → AreJudged R [] []
judged_none R = record { count = refl; each = λ i x y e d. absurd (cc) }

module _ (F : Facts) (t : PointsTo) (q j : ℕ) where
  abbrev Found : ℕ → ℕ → Type 0
  Found k d = IsFoundBelow F t q j k d

  later : (k d : ℕ) → Found k d → Found (k + 1) d
  later k d f = record { site = f.site; below = let h = f.below in omega (arith, h); found = f.found }

  last_or : (k d : ℕ) → Found (k + 1) d → (Found k d) ⊎ (body_for F t q j k ≡ Some d)
  last_or k d f = ⊎_elim (λ h. inl (record { site = f.site; below = h; found = f.found }))
      (λ h. let e : f.site ≡ k = let b = f.below in omega (arith, h, b) in inr (subst (λ z. body_for F t q j z ≡ Some d) e f.found))
      (cases_lt f.site k)

  new : (k d : ℕ) → body_for F t q j k ≡ Some d → Found (k + 1) d
  new k d e = record { site = k; below = omega arith; found = e }

  -- none more
  run_none : (k : ℕ) (v : Bodies) → body_for F t q j k ≡ None → RunBelow F t q j k v → RunBelow F t q j (k + 1) v
  run_none k Zero e r = λ d f. ⊎_elim (λ g. r d g) (λ g. absurd (let z = sym e ∙ g in cc)) (last_or k d f)
  run_none k (One c) e r = (later k c.0 r.0, λ d f. ⊎_elim (λ g. r.1 d g) (λ g. absurd (let z = sym e ∙ g in cc)) (last_or k d f))
  run_none k Many e r = (r.0, r.1, later k r.0 r.2, later k r.1 r.3, r.4)

  -- one more
  run_some : (k : ℕ) (v : Bodies) (c : ColId) → body_for F t q j k ≡ Some c.0 → RunBelow F t q j k v → RunBelow F t q j (k + 1) (joined_body v (Some c))
  run_some k Zero c e r = (new k c.0 e, λ d f. ⊎_elim (λ g. absurd (r d g)) (λ g. sym (same_Some c.0 d (sym e ∙ g))) (last_or k d f))
  run_some k (One b) c e r = go (b.0 == c.0) refl
    where
      go : (z : Bool) → (b.0 == c.0) ≡ z → RunBelow F t q j (k + 1) (if z then One b else Many)
      go true h = (later k b.0 r.0, λ d f. ⊎_elim (λ g. r.1 d g) (λ g. sym (same_Some c.0 d (sym e ∙ g)) ∙ sym (eqb-true b.0 c.0 h)) (last_or k d f))
      go false h = (b.0, c.0, later k b.0 r.0, new k c.0 e, eqb-false b.0 c.0 h)
  run_some k Many c e r = (r.0, r.1, later k r.0 r.2, later k r.1 r.3, r.4)

  pub run_more : (k : ℕ) (v : Bodies) (o : Option ColId) → option_map (λ d. d.0) o ≡ body_for F t q j k → RunBelow F t q j k v
      → RunBelow F t q j (k + 1) (joined_body v o)
  run_more k v None e r = run_none k v (sym e) r
  run_more k v (Some c) e r = run_some k v c (sym e) r

  pub run_begin : RunBelow F t q j 0 Zero
  run_begin d f = let h = f.below in omega (arith, h)

-- a site in the set of a point is one of the facts
pub site_of_point : (F : Facts) (t : PointsTo) → AreSets F t → (p s : ℕ) → bit (row t.points.items p) s ≡ true → s < length F.sites.items
site_of_point F t sets p s h =
    let w = sets.point_widths p (bit-row-below t.points.items p s h) in let b = bit-below (row t.points.items p) s h in subst (λ n. s < n) w b

-- the bodies found for all sites are those that a call may run
pub all_run : (F : Facts) (t : PointsTo) → AreSets F t → (c : CallInfo) (v : Bodies) → RunBelow F t c.receiver c.slot (length F.sites.items) v
    → MayRunThese F t c v
all_run F t sets c v r = go v r
  where
    to : (d : ℕ) → MayRun F t c d → IsFoundBelow F t c.receiver c.slot (length F.sites.items) d
    to d m = record {
      site = m.site;
      below = site_of_point F t sets c.receiver m.site m.there;
      found = subst (λ b. (if b then finds F (site_class F m.site) c.slot else None) ≡ Some d) (sym m.there) m.found;
    }

    from : (d : ℕ) → IsFoundBelow F t c.receiver c.slot (length F.sites.items) d → MayRun F t c d
    from d f = there (bit (row t.points.items c.receiver) f.site) refl f.found
      where
        there : (b : Bool) → bit (row t.points.items c.receiver) f.site ≡ b → (if b then finds F (site_class F f.site) c.slot else None) ≡ Some d → MayRun F t c d
        there true h e = record { site = f.site; there = h; found = e }
        there false h e = absurd (cc)

    go : (v : Bodies) → RunBelow F t c.receiver c.slot (length F.sites.items) v → MayRunThese F t c v
    go Zero r = λ d m. r d (to d m)
    go (One d) r = (from d.0 r.0, λ e m. r.1 e (to e m))
    go Many r = (r.0, r.1, from r.0 r.2, from r.1 r.3, r.4)

-- the spots of one kind name tests, those of the other calls
of_kind : (F : Facts) (p : SpotKind → Bool) (xs : List Spot) (n : ℕ) → ((k : SpotKind) (at : ℕ) → IsNumberOf F k at → p k ≡ true → at < n)
    → All (λ x. IsNumberOf F x.kind x.at) xs → All (λ x. x.at < n) (filter (λ x. p x.kind) xs)
of_kind F p xs n f h = all_of (λ x. x.at < n) (filter (λ x. p x.kind) xs) (λ x c. f x.kind x.at
    (All-contains (λ x. IsNumberOf F x.kind x.at) (filter (λ x. p x.kind) xs) x (All-filter (λ x. p x.kind) (λ x. IsNumberOf F x.kind x.at) xs h) c)
    (All-contains (λ x. p x.kind ≡ true) (filter (λ x. p x.kind) xs) x (filter_passes (λ x. p x.kind) xs) c))

pub tests_numbered : (F : Facts) → AreSpotsInRange F → All (λ x. x.at < length F.tests.items) (cast_spots F)
tests_numbered F h = of_kind F is_cast F.spots.items (length F.tests.items) only h
  where
    only : (k : SpotKind) (at : ℕ) → IsNumberOf F k at → is_cast k ≡ true → at < length F.tests.items
    only spot.Cast at h e = h
    only spot.Call at h e = absurd (cc)

pub calls_numbered : (F : Facts) → AreSpotsInRange F → All (λ x. x.at < length F.calls.items) (call_spots F)
calls_numbered F h = of_kind F is_call F.spots.items (length F.calls.items) only h
  where
    only : (k : SpotKind) (at : ℕ) → IsNumberOf F k at → is_call k ≡ true → at < length F.calls.items
    only spot.Cast at h e = absurd (cc)
    only spot.Call at h e = h

-- lines of what is left
pub lines_none : {A : Type 0} (line : Spot → A → List ℕ) (xs : List Spot) → lines line xs [] ≡ []
lines_none line [] = refl
lines_none line (x ∷ xs) = refl

pub lines_at : {A : Type 0} (line : Spot → A → List ℕ) (xs : List Spot) (vs : List A) (k : ℕ) (x : Spot) (v : A) → k < length xs → k < length vs
    → lines line (drop k xs) (drop k vs) ≡ line (get_or xs k x) (get_or vs k v) ++ lines line (drop (k + 1) xs) (drop (k + 1) vs)
lines_at line xs vs k x v a b = ap (λ z. lines line z (drop k vs)) (one_left xs k x a)
    ∙ ap (λ z. lines line (get_or xs k x ∷ drop (k + 1) xs) z) (one_left vs k v b)
  where
    one_left : {A : Type 0} (xs : List A) (k : ℕ) (x : A) → k < length xs → drop k xs ≡ get_or xs k x ∷ drop (k + 1) xs
    one_left xs k x h = drop-cons xs k x h ∙ ap (λ z. get_or xs k x ∷ drop z xs) (sym (add-one k))

pub lines_past : {A : Type 0} (line : Spot → A → List ℕ) (xs ys : List Spot) (vs : List A) (k : ℕ) → length vs ≤ k
    → lines line xs (drop k vs) ≡ lines line ys (drop (k + 1) vs)
lines_past line xs ys vs k h =
    ap (λ z. lines line xs z) (drop_all k vs h) ∙ lines_none line xs ∙ sym (lines_none line ys)
    ∙ ap (λ z. lines line ys z) (sym (drop_all (k + 1) vs (omega (arith, h))))

-- all of a list are left exactly where the member is dead
pub dead_body : (F : Facts) (t : PointsTo) (c : ℕ) → All (IsBodyLeft t c) F.bodies.items → IsUnreached F t Def c
dead_body F t c h = λ b l. All-contains (IsBodyLeft t c) F.bodies.items b h l

pub left_bodies : (F : Facts) (t : PointsTo) (c : ℕ) → IsUnreached F t Def c → All (IsBodyLeft t c) F.bodies.items
left_bodies F t c h = all_of (IsBodyLeft t c) F.bodies.items h

pub dead_field : (F : Facts) (t : PointsTo) (c : ℕ) → All (IsAccessLeft t c) F.accesses.items → IsUnreached F t Fld c
dead_field F t c h = λ a l. All-contains (IsAccessLeft t c) F.accesses.items a h l

pub left_accesses : (F : Facts) (t : PointsTo) (c : ℕ) → IsUnreached F t Fld c → All (IsAccessLeft t c) F.accesses.items
left_accesses F t c h = all_of (IsAccessLeft t c) F.accesses.items h
