-- The steps towards a tree are fixed, and those made so far go on to an end.
use Rattle.std.proofs.Common.{◌≡◌, List, [], ◌∷◌, ◌++◌, Option, Some, Result, Err, refl, sym, ap, ◌∙◌, subst}
use Rattle.std.proofs.lemmas.List.{append_assoc}
use Rattle.std.proofs.lemmas.Option.{same_Some}
use Rattle.fact_model.specs.declared.facts.Facts.{Facts}
use Rattle.fact_model.specs.declared.sets.PointsTo.{PointsTo}
use Rattle.hier_model.specs.Hierarchies.{Hierarchy}
use Rattle.hier_rules.specs.declared.broken.Broken.{Broken}
use Rattle.hier_rules.specs.Obligations.{first_unchained}
use Rattle.hier_edit.specs.declared.ApplyFault.{ApplyFault}
use Rattle.hier_edit.specs.declared.ApplyFault.TheVariants.{Breaks}
use Rattle.hier_tree.specs.declared.Conflict.{Conflict}
use Rattle.hier_tree.specs.Trees.{Try, conflict_of, tries_of, GrowthStep, GrowthEnd, Stuck, tried, first_accepted, last_try, Grows, done, stuck, step, Leads, begun, taken, OneGrowth}

module _ (F : Facts) (pt : PointsTo) where
  -- the steps made so far, and those from there to an end, are the steps to that end
  pub goes_on : {H K : Hierarchy} {log rest : List GrowthStep} {end : GrowthEnd} → Leads F pt H log K → Grows F pt K rest end → Grows F pt H (log ++ rest) end
  goes_on begun g = g
  goes_on {H} {K} {rest = rest} {end = end} (taken {b = b} {t = t} {log = log} before e f) g =
      let s : GrowthStep = record { conflict = conflict_of b; try = t } in
      subst (λ l. Grows F pt H l end) (sym (append_assoc log (s ∷ []) rest)) (goes_on before (step e f g))

  same_broken : (o : Option Broken) (b c : Broken) → o ≡ Some b → o ≡ Some c → b ≡ c
  same_broken o b c e f = same_Some b c (sym e ∙ f)

  same_taken : (o : Option (Try × Hierarchy)) (t u : Try) (K L : Hierarchy) → o ≡ Some (t, K) → o ≡ Some (u, L) → (t ≡ u) × (K ≡ L)
  same_taken o t u K L e f =
      let same : ◌≡◌ {A = Try × Hierarchy} (t, K) (u, L) = same_Some (t, K) (u, L) (sym e ∙ f) in
      (ap (λ (r : Try × Hierarchy). r.0) same, ap (λ (r : Try × Hierarchy). r.1) same)

  same_fault : (H : Hierarchy) (t u : Try) (b c : Broken) → t ≡ u → tried F pt H t ≡ Err (Breaks b) → tried F pt H u ≡ Err (Breaks c) → b ≡ c
  same_fault H t u b c same e f =
      let both : ◌≡◌ {A = Result Hierarchy ApplyFault} (Err (Breaks b)) (Err (Breaks c)) = sym e ∙ ap (tried F pt H) same ∙ f in cc both

  stuck_alike : (H : Hierarchy) (c d : Conflict) (b k : Broken) → c ≡ d → b ≡ k → ◌≡◌ {A = GrowthEnd} (Stuck H c b) (Stuck H d k)
  stuck_alike H c d b k same alike = rw (same, alike) refl

  pub one : {H : Hierarchy} {log others : List GrowthStep} {end other : GrowthEnd} → Grows F pt H log end → Grows F pt H others other
      → (log ≡ others) × (end ≡ other)
  one (done none) (done again) = (refl, refl)
  one (done none) (stuck {b = b} conflict refused last err) = absurd (cc (sym none ∙ conflict))
  one (done none) (step {b = b} conflict accepted rest) = absurd (cc (sym none ∙ conflict))
  one (stuck {b = b} conflict refused last err) (done none) = absurd (cc (sym none ∙ conflict))
  one {H} (stuck {b = b} {broken = x} {t = t} conflict empty last err) (stuck {b = c} {broken = y} {t = u} again none final fault) =
      let same = same_broken (first_unchained F H) b c conflict again in
      let tries = ap (λ z. last_try (tries_of F H (conflict_of z))) same in
      let try = same_Some t u (sym last ∙ tries ∙ final) in
      (refl, stuck_alike H (conflict_of b) (conflict_of c) x y (ap conflict_of same) (same_fault H t u x y try err fault))
  one {H} (stuck {b = b} conflict none last err) (step {b = c} again accepted rest) =
      let same = same_broken (first_unchained F H) b c conflict again in
      absurd (cc (sym none ∙ ap (λ z. first_accepted F pt H (tries_of F H (conflict_of z))) same ∙ accepted))
  one (step {b = b} conflict accepted rest) (done none) = absurd (cc (sym none ∙ conflict))
  one {H} (step {b = b} conflict accepted rest) (stuck {b = c} again refused last err) =
      let same = same_broken (first_unchained F H) b c conflict again in
      absurd (cc (sym refused ∙ sym (ap (λ z. first_accepted F pt H (tries_of F H (conflict_of z))) same) ∙ accepted))
  one {H} {end = end} {other = other} (step {K = K} {b = b} {t = t} {log = log} conflict accepted rest)
      (step {K = L} {b = c} {t = u} {log = others} again accepts more) =
      let same = same_broken (first_unchained F H) b c conflict again in
      let both = same_taken (first_accepted F pt H (tries_of F H (conflict_of c))) t u K L
      (sym (ap (λ z. first_accepted F pt H (tries_of F H (conflict_of z))) same) ∙ accepted) accepts in
      let tail = one (subst (λ z. Grows F pt z log end) both.1 rest) more in
      (rw (same, both.0, tail.0) refl, tail.1)

pub one_tree : OneGrowth
one_tree F pt H log others end other g h = one F pt g h
