-- What is closed under the rules has each claim that holds.
use Rattle.std.proofs.Common.{◌≡◌, ℕ, suc, ◌<◌, ◌≤◌, List, [], ◌∷◌, ◌++◌, length, map, All, Contains, subst, refl, sym, ap, ◌∙◌, arith, ⊎_elim, append_assoc}
use Rattle.std.specs.List.{AllByRecursion}
use Rattle.std.proofs.lemmas.Bool.{cases_lt}
use Rattle.std.proofs.lemmas.List.{append-nil, length-map}
use Rattle.std.proofs.lemmas.List.Elements.{All-nil, All-cons, All-contains, Contains-append_right}
use Rattle.kaba_base.specs.declared.RowId.{RowId}
use Rattle.kaba_base.specs.declared.ColId.{ColId}
use Rattle.kaba_bits.proofs.RowLemmas.{bit-row-below}
use Rattle.kaba_derivations.proofs.Derivations.{each_weaker}
use Rattle.fact_model.specs.Flowing.{AreSets}
use Rattle.fact_model.specs.Entries.{IsEntry, IsTable}
use Rattle.fact_model.specs.declared.facts.Facts.{Facts}
use Rattle.fact_model.specs.declared.sets.PointsTo.{PointsTo}
use Rattle.fact_model.specs.declared.sets.Table.{Table}
use Rattle.why_table.specs.Rules.{GivesClaim, p1, p2, p3, p4, p5, p6, p7, p8, t1, t2, t3, t4, t5, t6, t7, t8, t9_point, t9_cell, t10, t11_test, t11_array}
use Rattle.why_table.specs.Trails.{ClaimHolds, claim_at}
use Rattle.why_table.specs.Found.{AreMemberAccesses}
use Rattle.why_table.specs.Search.{HasClaim, NoneBy, NoneUpTo, IsDone, AreAllDone}
use Rattle.why_table.specs.declared.trail.Claim.{Claim}
use Rattle.why_table.specs.declared.trail.Claim.TheVariants.{InPoint, InCell, Entry}
use Rattle.why_table.specs.declared.trail.WhyRule.{WhyRule}
use Rattle.why_table.specs.declared.trail.WhyRule.TheVariants.{P1, P2, P3, P4, P5, P6, P7, P8, T1, T2, T3, T4, T5, T6, T7, T8, T9, T10, T11}
use Rattle.why_table.specs.declared.trail.WhyStep.{WhyStep}
use Rattle.why_table.proofs.Sound.{gives_holds}
use Rattle.why_table.proofs.Complete.{entry_least}

-- a rule has at most three premises
pub gives_few : (F : Facts) (rule : WhyRule) (ps : List Claim) (c : Claim) → GivesClaim F rule ps c → length ps ≤ 3
gives_few F P1 ps c (p1 x is) = omega arith
gives_few F P2 ps c (p2 x s is) = omega arith
gives_few F P3 ps c (p3 x k o s is cell) = omega arith
gives_few F P4 ps c (p4 x k o s is cell fits) = omega arith
gives_few F P5 ps c (p5 call o body runs) = omega arith
gives_few F P6 ps c (p6 call o s body k from to runs a b) = omega arith
gives_few F P7 ps c (p7 call o s body from to runs a b) = omega arith
gives_few F P8 ps c (p8 x s is below) = omega arith
gives_few F T1 ps c (t1 x is kind) = omega arith
gives_few F T2 ps c (t2 x is kind) = omega arith
gives_few F T3 ps c (t3 call o d is found) = omega arith
gives_few F T4 ps c (t4 v d is) = omega arith
gives_few F T5 ps c (t5 r d k by) = omega arith
gives_few F T6 ps c (t6 r v d k is) = omega arith
gives_few F T7 ps c (t7 x is) = omega arith
gives_few F T8 ps c (t8 x k is) = omega arith
gives_few F T9 ps c (t9_point p v o k is) = omega arith
gives_few F T9 ps c (t9_cell j x o k is) = omega arith
gives_few F T10 ps c (t10 q r d k by) = omega arith
gives_few F T11 ps c (t11_test x k is mark) = omega arith
gives_few F T11 ps c (t11_array s k is dim mark) = omega arith

contains_seam : (xs : List ℕ) (x : ℕ) (ys : List ℕ) → Contains (xs ++ x ∷ ys) x
contains_seam xs x ys = Contains-append_right xs (x ∷ ys) x (0, omega arith, refl)

module _ (F : Facts) (steps : List WhyStep) (claim : Claim) (rule : WhyRule) where
  -- no more numbers
  pub none_alone : (from : List ℕ) → NoneBy F steps claim rule from → NoneUpTo F steps claim rule from 0
  none_alone from none [] le = subst (NoneBy F steps claim rule) (sym (append-nil from)) none
  none_alone from none (x ∷ xs) le = absurd (omega (arith, le))

  -- one number more
  pub none_more : (from : List ℕ) (m : ℕ) → NoneBy F steps claim rule from
      → ((j : ℕ) → j < length steps → NoneUpTo F steps claim rule (from ++ j ∷ []) m) → NoneUpTo F steps claim rule from (suc m)
  none_more from m none each [] le = subst (NoneBy F steps claim rule) (sym (append-nil from)) none
  none_more from m none each (x ∷ xs) le = λ all g.
      ⊎_elim
      (λ low. each x low xs (omega (arith, le)) (subst (All (λ j. j < length steps)) (sym (append_assoc from (x ∷ []) xs)) all)
      (subst (λ l. GivesClaim F rule (map (claim_at steps) l) claim) (sym (append_assoc from (x ∷ []) xs)) g))
      (λ high. let low : x < length steps = All-contains (λ j. j < length steps) (from ++ x ∷ xs) x all (contains_seam from x xs) in absurd (omega (arith, low, high)))
      (cases_lt x (length steps))

-- the numbers of steps that have these claims
pub record Numbers (steps : List WhyStep) (ps : List Claim) : Type 0 where
  pub from : List ℕ
  pub below : All (λ j. j < length steps) from
  pub claims : map (claim_at steps) from ≡ ps

pub numbers : (steps : List WhyStep) (ps : List Claim) → AllByRecursion (HasClaim steps) ps → Numbers steps ps
numbers steps [] h = record { from = []; below = All-nil (λ j. j < length steps); claims = refl }
numbers steps (p ∷ ps) h =
    let rest = numbers steps ps h.1 in
    record {
      from = h.0.at ∷ rest.from;
      below = All-cons (λ j. j < length steps) h.0.at rest.from h.0.below rest.below;
      claims = ap (λ y. y ∷ map (claim_at steps) rest.from) h.0.is ∙ ap (λ l. p ∷ l) rest.claims;
    }

module _ (F : Facts) (pt : PointsTo) (t : Table) (S : AreSets F pt) (T : IsTable F t) (accesses : AreMemberAccesses F) (steps : List WhyStep)
    (all : AreAllDone F steps pt t) where
  done : (c : Claim) → ClaimHolds F c → IsDone F steps c
  done (InPoint p s) h = let b = (S.points p s.0).1 h in all.points p (bit-row-below pt.points.items p s.0 b) s.0 b
  done (InCell k s) h = let b = (S.cells k s.0).1 h in all.cells k (bit-row-below pt.cells.items k s.0 b) s.0 b
  done (Entry r c) h = let b = (T.entries r.0 c.0).1 h in all.entries r.0 (bit-row-below t.rows.items r.0 c.0 b) c.0 b

  abbrev Stands : Claim → Type 0
  Stands c = HasClaim steps c × ClaimHolds F c

  closed : (rule : WhyRule) (ps : List Claim) (c : Claim) → GivesClaim F rule ps c → AllByRecursion Stands ps → Stands c
  closed rule ps c g h =
      let holds : ClaimHolds F c = gives_holds F rule ps c g (each_weaker Stands (ClaimHolds F) (λ x y. y.1) ps h) in
      let n = numbers steps ps (each_weaker Stands (HasClaim steps) (λ x y. y.0) ps h) in
      let few : length n.from ≤ 3 = let g3 = gives_few F rule ps c g in let l = ap length n.claims in omega (arith, g3, l, length-map n.from (claim_at steps)) in
      (⊎_elim (λ here. here) (λ none. absurd (none rule n.from few n.below (subst (λ qs. GivesClaim F rule qs c) (sym n.claims) g))) (done c holds), holds)

  -- steps in which all is done have each entry
  pub complete : (r : RowId) (c : ColId) → IsEntry F r.0 c.0 → HasClaim steps (Entry r c)
  complete r c h = (entry_least F Stands closed accesses r.0 c.0 h).0
