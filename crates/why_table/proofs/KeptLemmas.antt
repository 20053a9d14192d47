-- The steps that a goal needs are a trail, once their numbers are changed.
use Rattle.std.proofs.Common.{◌≡◌, ◌≢◌, ℕ, suc, zero, ◌+◌, ◌<◌, ◌≤◌, Bool, true, false, cond, List, [], ◌∷◌, ◌++◌, length, map, All, Contains, Some, slice_get, subst, refl, sym, ap, ◌∙◌, arith, ⊎_elim, add-one, inl}
use Rattle.std.proofs.lemmas.Bool.{cases_lt, cases_order, cases_Bool}
use Rattle.std.proofs.lemmas.List.{length-append}
use Rattle.std.proofs.lemmas.Option.{slice_get_within}
use Rattle.std.proofs.lemmas.List.Elements.{All-head, All-tail, All-map, All-contains}
use Rattle.kaba_base.proofs.ListLemmas.{map_has}
use Rattle.kaba_base.specs.declared.RowId.{RowId}
use Rattle.kaba_base.specs.declared.ColId.{ColId}
use Rattle.kaba_bits.specs.Sets.{bit}
use Rattle.kaba_bits.proofs.SetLemmas.{bit-below}
use Rattle.fact_model.specs.declared.facts.Facts.{Facts}
use Rattle.why_table.specs.Rules.{GivesClaim}
use Rattle.why_table.specs.Trails.{claim_at, Follows}
use Rattle.why_table.specs.Found.{IsNamedLater, HaveOneEach, IsTrailOf}
use Rattle.why_table.specs.Search.{AreSteps}
use Rattle.why_table.specs.Kept.{AddsAll, AreNeeded, rank, IsRenamed, AreMoved}
use Rattle.why_table.specs.declared.trail.Claim.{Claim}
use Rattle.why_table.specs.declared.trail.Claim.TheVariants.{Entry}
use Rattle.why_table.specs.declared.trail.WhyRule.{WhyRule}
use Rattle.why_table.specs.declared.trail.WhyStep.{WhyStep}
use Rattle.why_table.proofs.StepLemmas.{step_here, get_before, get_seam, claim_here, all_contained, passes_at, passes_from}

-- the numbers of marked steps
pub rank-le : (m : List Bool) (n : ℕ) → rank m n ≤ n
rank-le m zero = omega arith
rank-le m (suc n) = let r = rank-le m n in elim (bit m n) as (λ b. rank m n + cond b 1 0 ≤ suc n) [ true ↦ omega (arith, r) | false ↦ omega (arith, r) ]

pub rank-marked : (m : List Bool) (n : ℕ) → bit m n ≡ true → rank m (suc n) ≡ rank m n + 1
rank-marked m n b = ap (λ c. rank m n + cond c 1 0) b

pub rank-clear : (m : List Bool) (n : ℕ) → bit m n ≡ false → rank m (suc n) ≡ rank m n
rank-clear m n b = let e : rank m n + 0 ≡ rank m n = omega arith in ap (λ c. rank m n + cond c 1 0) b ∙ e

pub rank-grows : (m : List Bool) (n : ℕ) → rank m n ≤ rank m (suc n)
rank-grows m n = omega arith

pub rank-below : (m : List Bool) (i n : ℕ) → i < n → bit m i ≡ true → rank m i < rank m n
rank-below m i zero lt b = absurd (omega (arith, lt))
rank-below m i (suc n) lt b =
    ⊎_elim
    (λ low. let r = rank-below m i n low b in omega (arith, r, rank-grows m n))
    (λ high. let e : n ≡ i = omega (arith, lt, high) in
    subst (λ k. rank m i < rank m (suc k)) (sym e) (omega (arith, rank-marked m i b)))
    (cases_lt i n)

-- each number below is that of a marked step
pub record IsRankOf (m : List Bool) (n j : ℕ) : Type 0 where
  pub at : ℕ
  pub below : at < n
  pub marked : bit m at ≡ true
  pub is : rank m at ≡ j

pub rank-onto : (m : List Bool) (n j : ℕ) → j < rank m n → IsRankOf m n j
rank-onto m zero j lt = absurd (omega (arith, lt))
rank-onto m (suc n) j lt =
    ⊎_elim
    (λ low. let r = rank-onto m n j low in record { at = r.at; below = omega (arith, r.below); marked = r.marked; is = r.is })
    (λ high.
    ⊎_elim
    (λ b. record { at = n; below = omega arith; marked = b; is = omega (arith, high, lt, rank-marked m n b) })
    (λ b. absurd (omega (arith, high, lt, rank-clear m n b)))
    (cases_Bool (bit m n)))
    (cases_lt j (rank m n))

-- marks that are added
pub adds_none : (m : List Bool) → AddsAll [] m m
adds_none m = record { width = refl; kept = λ i b. b; added = λ i c. absurd (omega (arith, c.1)); only = λ i b. inl b }

module _ (steps : List WhyStep) (goal : ℕ) where
  -- one step further down, where the step there is not marked
  pub needed_clear : (k : ℕ) (m : List Bool) → AreNeeded steps goal (k + 1) m → bit m k ≡ false → AreNeeded steps goal k m
  needed_clear k m n none = record {
    width = n.width;
    goal_marked = n.goal_marked;
    down = λ j s le e b x c. ⊎_elim (λ low. absurd (let same : j ≡ k = omega (arith, le, low) in let z : true ≡ false = sym b ∙ ap (bit m) same ∙ none in cc z))
        (λ high. n.down j s high e b x c) (cases_lt j (k + 1));
    up = λ i b ne. let y = n.up i b ne in record { by = y.by; step = y.step; high = omega (arith, y.high); is = y.is; marked = y.marked; names = y.names };
  }

  -- and where it is, and what it names has been added
  pub needed_more : (k : ℕ) (m new : List Bool) (s : WhyStep) → AreNeeded steps goal (k + 1) m → slice_get steps k ≡ Some s → bit m k ≡ true
      → AddsAll s.from.items m new → All (λ x. x < k) s.from.items → AreNeeded steps goal k new
  needed_more k m new s n here marked a early = record {
    width = a.width ∙ n.width;
    goal_marked = a.kept goal n.goal_marked;
    down = λ j t le e b x c.
        ⊎_elim
        (λ low.
        let same : j ≡ k = omega (arith, le, low) in
        let step : t ≡ s = let z : Some t ≡ Some s = sym e ∙ ap (slice_get steps) same ∙ here in cc z in
        a.added x (subst (λ (q : WhyStep). Contains q.from.items x) step c))
        (λ high.
        ⊎_elim
        (λ old. a.kept x (n.down j t high e old x c))
        (λ named. let lt : j < k = All-contains (λ y. y < k) s.from.items j early named in absurd (omega (arith, lt, high)))
        (a.only j b))
        (cases_lt j (k + 1));
    up = λ i b ne.
        ⊎_elim
        (λ old. let y = n.up i old ne in
        record { by = y.by; step = y.step; high = omega (arith, y.high); is = y.is; marked = a.kept y.by y.marked; names = y.names })
        (λ named. record { by = k; step = s; high = omega arith; is = here; marked = a.kept k marked; names = named })
        (a.only i b);
  }

-- numbers that are changed twice
pub map_moved : (f : ℕ → ℕ) (g h : ℕ → Claim) (xs : List ℕ) → All (λ x. g (f x) ≡ h x) xs → map g (map f xs) ≡ map h xs
map_moved f g h [] all = refl
map_moved f g h (x ∷ xs) all =
    ap (λ y. y ∷ map g (map f xs)) (All-head (λ x. g (f x) ≡ h x) x xs all) ∙ ap (λ l. h x ∷ l) (map_moved f g h xs (All-tail (λ x. g (f x) ≡ h x) x xs all))

-- what a step names, its renamed one names by the new number
named_by : (f : ℕ → ℕ) (s new : WhyStep) → IsRenamed f s new → (x : ℕ) → Contains s.from.items x → Contains new.from.items (f x)
named_by f s new r x c = subst (λ (l : List ℕ). Contains l (f x)) (sym r.from) (map_has f s.from.items x c)

module _ (steps : List WhyStep) (marks : List Bool) (out : List WhyStep) (k : ℕ) where
  -- a step that is left out
  pub moved_clear : AreMoved steps marks k out → bit marks k ≡ false → AreMoved steps marks (k + 1) out
  moved_clear a none =
      let e : k + 1 ≡ suc k = add-one k in
      record {
        len = a.len ∙ sym (rank-clear marks k none) ∙ ap (rank marks) (sym e);
        each = λ i s lt b h. ⊎_elim (λ low. a.each i s low b h)
            (λ high. let same : i ≡ k = omega (arith, lt, high) in absurd (let z : true ≡ false = sym b ∙ ap (bit marks) same ∙ none in cc z)) (cases_lt i k);
      }

  -- a step that is kept
  pub moved_more : (s new : WhyStep) → AreMoved steps marks k out → bit marks k ≡ true → slice_get steps k ≡ Some s → IsRenamed (rank marks) s new
      → AreMoved steps marks (k + 1) (out ++ new ∷ [])
  moved_more s new a marked here renamed =
      let e : k + 1 ≡ suc k = add-one k in
      record {
        len = length-append out (new ∷ []) ∙ ap (λ n. n + 1) a.len ∙ sym (rank-marked marks k marked) ∙ ap (rank marks) (sym e);
        each = λ i t lt b h.
            ⊎_elim
            (λ low.
            let y = a.each i t low b h in
            record { step = y.step; is = get_before out (new ∷ []) (rank marks i) y.step y.is; renamed = y.renamed })
            (λ high.
            let same : i ≡ k = omega (arith, lt, high) in
            let step : s ≡ t = let z : Some s ≡ Some t = sym here ∙ ap (slice_get steps) (sym same) ∙ h in cc z in
            record {
              step = new;
              is = ap (slice_get (out ++ new ∷ [])) (ap (rank marks) same ∙ sym a.len) ∙ get_seam out new;
              renamed = subst (λ (q : WhyStep). IsRenamed (rank marks) q new) step renamed;
            })
            (cases_lt i k);
      }

-- the steps that a goal needs are a trail of it
module _ (F : Facts) (steps : List WhyStep) (goal : ℕ) (marks : List Bool) (out : List WhyStep) (log : AreSteps F steps) (lt : goal < length steps)
    (need : AreNeeded steps goal 0 marks) (move : AreMoved steps marks (length marks) out) where
  -- where a kept step comes from
  record Source (j : ℕ) (new : WhyStep) : Type 0 where
    at : ℕ
    old : WhyStep
    below : at < length marks
    marked : bit marks at ≡ true
    here : slice_get steps at ≡ Some old
    is : rank marks at ≡ j
    renamed : IsRenamed (rank marks) old new

  within : (i : ℕ) → i < length marks → i < length steps
  within i low = omega (arith, low, need.width, lt)

  source : (j : ℕ) (new : WhyStep) → slice_get out j ≡ Some new → Source j new
  source j new e =
      let r = rank-onto marks (length marks) j (let low = slice_get_within out j new e in omega (arith, low, move.len)) in
      let s = step_here steps r.at (within r.at r.below) in
      let y = move.each r.at s.0 r.below r.marked s.1 in
      let same : y.step ≡ new = let z : Some y.step ≡ Some new = sym y.is ∙ ap (slice_get out) r.is ∙ e in cc z in
      record {
        at = r.at;
        old = s.0;
        below = r.below;
        marked = r.marked;
        here = s.1;
        is = r.is;
        renamed = subst (λ (q : WhyStep). IsRenamed (rank marks) s.0 q) same y.renamed;
      }

  -- its claim
  claim_moved : (i : ℕ) → i < length marks → bit marks i ≡ true → claim_at out (rank marks i) ≡ claim_at steps i
  claim_moved i low b =
      let s = step_here steps i (within i low) in
      let y = move.each i s.0 low b s.1 in
      claim_here out (rank marks i) y.step y.is ∙ y.renamed.claim ∙ sym (claim_here steps i s.0 s.1)

  -- what a kept step names comes earlier, and is kept
  early : (i : ℕ) (s : WhyStep) → slice_get steps i ≡ Some s → (x : ℕ) → Contains s.from.items x → x < i
  early i s h x c = All-contains (λ y. y < i) s.from.items x ((passes_at F steps log.passes i s h).earlier) c

  follows_moved : (j : ℕ) (new : WhyStep) → slice_get out j ≡ Some new → Follows F out j new
  follows_moved j new e =
      let y = source j new e in
      let f = passes_at F steps log.passes y.at y.old y.here in
      let from = y.old.from.items in
      let marked : (x : ℕ) → Contains from x → bit marks x ≡ true = need.down y.at y.old (omega arith) y.here y.marked in
      let lower : (x : ℕ) → Contains from x → rank marks x < j =
      λ x c. subst (λ n. rank marks x < n) y.is (rank-below marks x y.at (early y.at y.old y.here x c) (marked x c)) in
      let claims : map (claim_at out) new.from.items ≡ map (claim_at steps) from =
      ap (map (claim_at out)) y.renamed.from
      ∙ map_moved (rank marks) (claim_at out) (claim_at steps) from
      (all_contained (λ x. claim_at out (rank marks x) ≡ claim_at steps x) from
      (λ x c. claim_moved x (let low = early y.at y.old y.here x c in omega (arith, low, y.below)) (marked x c))) in
      record {
        earlier = subst (All (λ x. x < j)) (sym y.renamed.from)
            (All-map (λ x. x < j) (rank marks) from (all_contained (λ x. rank marks x < j) from lower));
        given = subst (λ (r : WhyRule). GivesClaim F r (map (claim_at out) new.from.items) new.claim) (sym y.renamed.rule)
            (subst (λ (c : Claim). GivesClaim F y.old.rule (map (claim_at out) new.from.items) c) (sym y.renamed.claim)
            (subst (λ ps. GivesClaim F y.old.rule ps y.old.claim) (sym claims) f.given));
      }

  once_moved : HaveOneEach out
  once_moved j k less below e =
      let s = step_here out j (omega (arith, less, below)) in
      let t = step_here out k below in
      let x = source j s.0 s.1 in
      let y = source k t.0 t.1 in
      let same : claim_at steps x.at ≡ claim_at steps y.at =
      sym (claim_moved x.at x.below x.marked) ∙ ap (claim_at out) x.is ∙ e ∙ ap (claim_at out) (sym y.is) ∙ claim_moved y.at y.below y.marked in
      ⊎_elim
      (λ eq. let z = ap (rank marks) eq in absurd (omega (arith, z, x.is, y.is, less)))
      (λ ne. ⊎_elim (λ low. log.once x.at y.at low (within y.at y.below) same) (λ high. log.once y.at x.at high (within x.at x.below) (sym same)) ne)
      (cases_order x.at y.at)

  goal_last : length out ≡ rank marks goal + 1
  goal_last =
      let e : goal + 1 ≡ suc goal = add-one goal in
      move.len ∙ ap (rank marks) (need.width ∙ e) ∙ rank-marked marks goal need.goal_marked

  named_moved : (k : ℕ) → k < rank marks goal → IsNamedLater out k
  named_moved k low =
      let s = step_here out k (omega (arith, low, goal_last)) in
      let x = source k s.0 s.1 in
      let other : x.at ≢ goal = λ e. let z = ap (rank marks) e in absurd (omega (arith, z, x.is, low)) in
      let y = need.up x.at x.marked other in
      let within : y.by < length marks = bit-below marks y.by y.marked in
      let m = move.each y.by y.step within y.marked y.is in
      record {
        by = rank marks y.by;
        step = m.step;
        later = subst (λ n. n < rank marks y.by) x.is (rank-below marks x.at y.by (early y.by y.step y.is x.at y.names) x.marked);
        is = m.is;
        names = subst (Contains m.step.from.items) x.is
            (named_by (rank marks) y.step m.step m.renamed x.at y.names);
      }

  pub kept_trail : (r : RowId) (c : ColId) → claim_at steps goal ≡ Entry r c → IsTrailOf F r c out
  kept_trail r c is = record {
    passes = passes_from F out follows_moved;
    last = rank marks goal;
    len = goal_last;
    ends = claim_moved goal (omega (arith, need.width)) need.goal_marked ∙ is;
    once = once_moved;
    named = named_moved;
  }
