-- What the search for a trail rests on.
use Rattle.std.proofs.Common.{◌≡◌, ℕ, suc, ◌+◌, ◌<◌, Bool, true, false, List, [], ◌∷◌, ◌++◌, length, map, take, get_or, set, All, Contains, Option, Some, None, Result, Ok, Err, IfOk, slice_get, subst, refl, sym, ap, ◌∙◌, arith, ⊎_elim, inl, inr, MatchOption}
use Rattle.std.proofs.lemmas.Bool.{cases_lt, cases_eq}
use Rattle.std.proofs.lemmas.List.{length-append, take_more, get_or-set_same, get_or-set_other}
use Rattle.std.proofs.Math.ListN.{length-set, get_or-append}
use Rattle.std.proofs.Math.Seq.{get_or-append_seam}
use Rattle.std.proofs.lemmas.List.Elements.{All-weaker, Contains-append_cases, Contains-append_left, Contains-append_right}
use Rattle.kaba_bits.specs.Sets.{bit, IsEmpty}
use Rattle.kaba_bits.proofs.SetLemmas.{bit-below}
use Rattle.kaba_bits.proofs.RowLemmas.{set-kept}
use Rattle.fact_model.specs.declared.facts.Facts.{Facts}
use Rattle.why_table.specs.Rules.{GivesClaim}
use Rattle.why_table.specs.Trails.{claim_at, Follows, Passes}
use Rattle.why_table.specs.Search.{HasClaim, HasClaimAt, AreSteps, IsStepFor, IsNextStep, NoneBy, NoneUpTo, NoneGives, rule_at}
use Rattle.why_table.specs.Kept.{AddsAll, NamesEarlier, AreNeeded, rank, AreRanks, IsRenamed, IsPut, AreMoved, AreKept}
use Rattle.why_table.specs.declared.trail.Claim.{Claim}
use Rattle.why_table.specs.declared.trail.WhyRule.{WhyRule}
use Rattle.why_table.specs.declared.trail.WhyRule.TheVariants.{P1, P2, P3, P4, P5, P6, P7, P8, T1, T2, T3, T4, T5, T6, T7, T8, T9, T10, T11}
use Rattle.why_table.specs.declared.trail.WhyStep.{WhyStep}
use Rattle.why_table.proofs.StepLemmas.{map_agree, passes_at}
use Rattle.why_table.proofs.KeptLemmas.{moved_clear, moved_more}
use Rattle.why_table.proofs.SearchLemmas.{none_alone, none_more}

one_of : (x j : ℕ) → Contains (x ∷ []) j → j ≡ x
one_of x j c = let z : c.0 ≡ 0 = omega (arith, c.1) in sym (sym (ap (λ k. get_or (x ∷ []) k j) z) ∙ c.2)

-- one mark more
pub adds_more : (xs : List ℕ) (i x : ℕ) (old m new : List Bool) → i < length xs → get_or xs i 0 ≡ x → AddsAll (take i xs) old m → x < length m
    → new ≡ set m x true → AddsAll (take (i + 1) xs) old new
adds_more xs i x old m new lt here a low e =
    let more : take (i + 1) xs ≡ take i xs ++ x ∷ [] = take_more xs i 0 lt ∙ ap (λ y. take i xs ++ y ∷ []) here in
    let same : bit new x ≡ true = ap (λ s. bit s x) e ∙ get_or-set_same m x true false low in
    record {
      width = ap length e ∙ length-set m x true ∙ a.width;
      kept = λ j b. ap (λ s. bit s j) e ∙ set-kept m x j low (a.kept j b);
      added = λ j c.
          ⊎_elim
          (λ before. ap (λ s. bit s j) e ∙ set-kept m x j low (a.added j before))
          (λ one. subst (λ y. bit new y ≡ true) (sym (one_of x j one)) same)
          (Contains-append_cases (take i xs) (x ∷ []) j (subst (λ l. Contains l j) more c));
      only = λ j b.
          ⊎_elim
          (λ z. inr (subst (λ l. Contains l j) (sym more) (Contains-append_right (take i xs) (x ∷ []) j (subst (Contains (x ∷ [])) (sym z) (0, omega arith, refl)))))
          (λ ne. ⊎_elim (λ was. inl was) (λ c. inr (subst (λ l. Contains l j) (sym more) (Contains-append_left (take i xs) (x ∷ []) j c)))
          (a.only j (sym (ap (λ s. bit s j) e ∙ get_or-set_other m x j true false ne) ∙ b)))
          (cases_eq j x);
    }

-- the goal alone
pub needed_start : (steps : List WhyStep) (goal : ℕ) (m new : List Bool) → length m ≡ goal + 1 → IsEmpty m → new ≡ set m goal true
    → AreNeeded steps goal (goal + 1) new
needed_start steps goal m new wide none e = record {
  width = ap length e ∙ length-set m goal true ∙ wide;
  goal_marked = ap (λ s. bit s goal) e ∙ get_or-set_same m goal true false (omega (arith, wide));
  down = λ j s le h b x c. absurd (let low = bit-below new j b in let l = ap length e ∙ length-set m goal true ∙ wide in omega (arith, low, l, le));
  up = λ i b ne. absurd (let z : true ≡ false = sym b ∙ ap (λ s. bit s i) e ∙ get_or-set_other m goal i true false ne ∙ none i in cc z);
}

-- one new number more
pub ranks_more : (marks : List Bool) (k r : ℕ) (places : List ℕ) → AreRanks marks k places → r ≡ rank marks k → AreRanks marks (k + 1) (places ++ r ∷ [])
ranks_more marks k r places a is = record {
  len = length-append places (r ∷ []) ∙ ap (λ n. n + 1) a.len;
  each = λ i lt.
      ⊎_elim
      (λ low. let below : i < length places = omega (arith, low, a.len) in get_or-append places (r ∷ []) 0 i below ∙ a.each i low)
      (λ high. let last : i ≡ length places = omega (arith, lt, high, a.len) in
      ap (λ j. get_or (places ++ r ∷ []) j 0) last ∙ get_or-append_seam places r [] 0 ∙ is ∙ ap (rank marks) (sym a.len ∙ sym last))
      (cases_lt i k);
}

-- a step with its new numbers
pub renamed_rank : (marks : List Bool) (k : ℕ) (places : List ℕ) (s new : WhyStep) → AreRanks marks (k + 1) places → All (λ x. x < k) s.from.items
    → IsRenamed (λ x. get_or places x 0) s new → IsRenamed (rank marks) s new
renamed_rank marks k places s new a early r = record {
  claim = r.claim;
  rule = r.rule;
  from = r.from ∙ map_agree (λ x. get_or places x 0) (rank marks) s.from.items
      (All-weaker (λ x. x < k) (λ x. get_or places x 0 ≡ rank marks x) (λ x lt. a.each x (omega (arith, lt))) s.from.items early);
}

-- one step more, left out or kept
pub kept_clear : (steps : List WhyStep) (marks : List Bool) (k r : ℕ) (places new : List ℕ) (out : List WhyStep) → AreKept steps marks k places out
    → r ≡ length out → new ≡ places ++ r ∷ [] → bit marks k ≡ false → AreKept steps marks (k + 1) new out
kept_clear steps marks k r places new out a is e none = record {
  ranks = subst (AreRanks marks (k + 1)) (sym e) (ranks_more marks k r places a.ranks (is ∙ a.moved.len));
  moved = moved_clear steps marks out k a.moved none;
}

pub kept_more : (steps : List WhyStep) (marks : List Bool) (k r : ℕ) (places new : List ℕ) (out longer : List WhyStep) (s : WhyStep) → NamesEarlier steps
    → AreKept steps marks k places out → r ≡ length out → new ≡ places ++ r ∷ [] → bit marks k ≡ true → slice_get steps k ≡ Some s
    → IsPut (λ x. get_or new x 0) s out longer → AreKept steps marks (k + 1) new longer
kept_more steps marks k r places new out longer s numbered a is e marked here put =
    let ranks : AreRanks marks (k + 1) new = subst (AreRanks marks (k + 1)) (sym e) (ranks_more marks k r places a.ranks (is ∙ a.moved.len)) in
    record {
      ranks = ranks;
      moved = subst (AreMoved steps marks (k + 1)) (sym put.is)
          (moved_more steps marks out k s put.step a.moved marked here (renamed_rank marks k new s put.step ranks (numbered k s here) put.renamed));
    }

pub kept_none : (steps : List WhyStep) (marks : List Bool) → AreKept steps marks 0 [] []
kept_none steps marks = record {
  ranks = record { len = refl; each = λ i lt. absurd (omega (arith, lt)) };
  moved = record { len = refl; each = λ i s lt b h. absurd (omega (arith, lt)) };
}

-- the numbers of what passes
pub numbered : (F : Facts) (steps : List WhyStep) → Passes F steps → NamesEarlier steps
numbered F steps p k s e = (passes_at F steps p k s e).earlier

pub steps_none : (F : Facts) → AreSteps F []
steps_none F = record {
  passes = λ k d lt. absurd (omega (arith, lt));
  once = λ j k less lt e. absurd (omega (arith, lt));
  few = omega arith;
}

-- a step that was tried and does not follow
pub none_tried : (F : Facts) (steps : List WhyStep) (claim : Claim) (rule : WhyRule) (from : List ℕ) (s : WhyStep) → s.claim ≡ claim → s.rule ≡ rule
    → s.from.items ≡ from → (Follows F steps (length steps) s → ⊥) → NoneBy F steps claim rule from
none_tried F steps claim rule from s a b e none all g =
    none
    (record {
      earlier = subst (All (λ j. j < length steps)) (sym e) all;
      given = subst (λ (r : WhyRule). GivesClaim F r (map (claim_at steps) s.from.items) s.claim) (sym b)
          (subst (λ (c : Claim). GivesClaim F rule (map (claim_at steps) s.from.items) c) (sym a)
          (subst (λ l. GivesClaim F rule (map (claim_at steps) l) claim) (sym e) g));
    })

-- what an answer says, said otherwise
pub found_as : {A E : Type 0} (P P' : Type 0) (Q Q' : A → Type 0) (r : Result (Option A) E) → (P → P') → ((x : A) → Q x → Q' x)
    → IfOk r (λ o. MatchOption o P Q) → IfOk r (λ o. MatchOption o P' Q')
found_as P P' Q Q' (Ok None) f g h = f h
found_as P P' Q Q' (Ok (Some x)) f g h = g x h
found_as P P' Q Q' (Err e) f g h = h

-- a step for a claim that no step has
pub next_for : (F : Facts) (steps : List WhyStep) (claim : Claim) → (HasClaim steps claim → ⊥) → (s : WhyStep) → IsStepFor F steps claim s → IsNextStep F steps s
next_for F steps claim none s f = record { follows = f.follows; fresh = λ i. none (record { at = i.at; below = i.below; is = i.is ∙ f.claim_is }) }

pub is_in_at : (steps : List WhyStep) (claim : Claim) (k : ℕ) → HasClaimAt steps claim k → HasClaim steps claim
is_in_at steps claim k a = record { at = k; below = a.below; is = a.is }

-- each rule has a number
pub rule_there : (rule : WhyRule) → (k : ℕ) × (k < 19) × (rule_at k ≡ rule)
rule_there P1 = (0, omega arith, refl)
rule_there P2 = (1, omega arith, refl)
rule_there P3 = (2, omega arith, refl)
rule_there P4 = (3, omega arith, refl)
rule_there P5 = (4, omega arith, refl)
rule_there P6 = (5, omega arith, refl)
rule_there P7 = (6, omega arith, refl)
rule_there P8 = (7, omega arith, refl)
rule_there T1 = (8, omega arith, refl)
rule_there T2 = (9, omega arith, refl)
rule_there T3 = (10, omega arith, refl)
rule_there T4 = (11, omega arith, refl)
rule_there T5 = (12, omega arith, refl)
rule_there T6 = (13, omega arith, refl)
rule_there T7 = (14, omega arith, refl)
rule_there T8 = (15, omega arith, refl)
rule_there T9 = (16, omega arith, refl)
rule_there T10 = (17, omega arith, refl)
rule_there T11 = (18, omega arith, refl)

pub none_gives : (F : Facts) (steps : List WhyStep) (claim : Claim) → ((k : ℕ) → k < 19 → NoneUpTo F steps claim (rule_at k) [] 3) → NoneGives F steps claim
none_gives F steps claim each rule = let y = rule_there rule in subst (λ r. NoneUpTo F steps claim r [] 3) y.2 (each y.0 y.1)

-- one number more, by an answer for each
pub none_further : {E : Type 0} (F : Facts) (steps : List WhyStep) (claim : Claim) (rule : WhyRule) (from : List ℕ) (m : ℕ) (r : Result (Option WhyStep) E)
    → NoneBy F steps claim rule from
    → IfOk r (λ o. MatchOption o ((j : ℕ) → j < length steps → NoneUpTo F steps claim rule (from ++ j ∷ []) m) (IsStepFor F steps claim))
    → IfOk r (λ o. MatchOption o (NoneUpTo F steps claim rule from (suc m)) (IsStepFor F steps claim))
none_further F steps claim rule from m r none h =
    found_as ((j : ℕ) → j < length steps → NoneUpTo F steps claim rule (from ++ j ∷ []) m) (NoneUpTo F steps claim rule from (suc m)) (IsStepFor F steps claim)
    (IsStepFor F steps claim) r (none_more F steps claim rule from m none) (λ x q. q) h

pub none_third : {E : Type 0} (F : Facts) (steps : List WhyStep) (claim : Claim) (rule : WhyRule) (i j : ℕ) (r : Result (Option WhyStep) E)
    → NoneBy F steps claim rule (i ∷ j ∷ [])
    → IfOk r (λ o. MatchOption o ((k : ℕ) → k < length steps → NoneBy F steps claim rule (i ∷ j ∷ k ∷ [])) (IsStepFor F steps claim))
    → IfOk r (λ o. MatchOption o (NoneUpTo F steps claim rule (i ∷ j ∷ []) 1) (IsStepFor F steps claim))
none_third F steps claim rule i j r none h =
    found_as ((k : ℕ) → k < length steps → NoneBy F steps claim rule (i ∷ j ∷ k ∷ [])) (NoneUpTo F steps claim rule (i ∷ j ∷ []) 1) (IsStepFor F steps claim)
    (IsStepFor F steps claim) r
    (λ each. none_more F steps claim rule (i ∷ j ∷ []) 0 none (λ k lt. none_alone F steps claim rule (i ∷ j ∷ k ∷ []) (each k lt)))
    (λ x q. q) h

pub ok_as : {A E : Type 0} (P Q : A → Type 0) (r : Result A E) → ((x : A) → P x → Q x) → IfOk r P → IfOk r Q
ok_as P Q (Ok x) f h = f x h
ok_as P Q (Err e) f h = h
