-- The steps go on, and end.
use Rattle.std.proofs.Common.{◌≡◌, List, [], ◌∷◌, ◌++◌, map, Some, None, sym, ap, ◌∙◌, subst}
use Rattle.std.proofs.lemmas.List.{append-nil, map-append}
use Rattle.std.proofs.lemmas.List.Elements.{All-nil, All-cons, All-append}
use Rattle.fact_model.specs.declared.facts.Facts.{Facts}
use Rattle.fact_model.specs.declared.sets.PointsTo.{PointsTo}
use Rattle.hier_model.specs.Hierarchies.{Hierarchy}
use Rattle.hier_model.specs.declared.edits.Edit.{Edit}
use Rattle.hier_rules.specs.declared.broken.Broken.{Broken}
use Rattle.hier_rules.specs.Obligations.{first_unchained}
use Rattle.hier_tree.specs.declared.Conflict.{Conflict}
use Rattle.hier_tree.specs.Trees.{conflict_of, tries_of, GrowthStep, Tree, Stuck, first_accepted, last_try, IsEditOf, try_of, Grows, done, stuck, Leads, taken}
use Rattle.hier_tree.proofs.GrowLemmas.{goes_on}
use Rattle.tree_merge.specs.declared.steps.TreeStep.{TreeStep}
use Rattle.tree_merge.specs.Attempts.{AreRefused, IsStep}
use Rattle.tree_merge.specs.Logs.{step_of, steps_of, AreEdits}

module _ (F : Facts) (pt : PointsTo) where
  -- at a conflict of which no try is accepted the steps end
  pub stuck_at : (H New : Hierarchy) (b : Broken) (k : Conflict) (tries : List Edit) (last : Broken) → k ≡ conflict_of b
      → map try_of tries ≡ tries_of F H k → first_unchained F H ≡ Some b
      → AreRefused F pt H New tries last → (New ≡ H) × Grows F pt H [] (Stuck H k last)
  stuck_at H New b k tries last at same conflict r =
      let all : map try_of tries ≡ tries_of F H (conflict_of b) = same ∙ ap (tries_of F H) at in
      let end : Grows F pt H [] (Stuck H (conflict_of b) last) =
      stuck {b = b} {broken = last} {t = r.last} conflict (sym (ap (first_accepted F pt H) all) ∙ r.none) (sym (ap last_try all) ∙ r.is_last) r.breaks in
      (r.same, subst (λ z. Grows F pt H [] (Stuck H z last)) (sym at) end)

  pub one_more : (H K New : Hierarchy) (log : List TreeStep) (s : TreeStep) → Leads F pt H (steps_of log) K → IsStep F pt K New s
      → Leads F pt H (steps_of log ++ step_of s ∷ []) New
  one_more H K New log s before is =
      let next : Leads F pt H (steps_of log ++ record { conflict = conflict_of is.broken; try = try_of s.edit } ∷ []) New =
      taken {b = is.broken} {t = try_of s.edit} before is.conflict is.accepted in
      subst (λ c. Leads F pt H (steps_of log ++ record { conflict = c; try = try_of s.edit } ∷ []) New) (sym is.at) next

  pub more_steps : (H K New : Hierarchy) (log more : List TreeStep) (s : TreeStep) → more ≡ log ++ s ∷ [] → Leads F pt H (steps_of log) K
      → IsStep F pt K New s → Leads F pt H (steps_of more) New
  more_steps H K New log more s same before is =
      subst (λ l. Leads F pt H l New) (sym (ap steps_of same ∙ map-append step_of log (s ∷ []))) (one_more H K New log s before is)

  pub ends : (H K New : Hierarchy) (log : List GrowthStep) → Leads F pt H log K → New ≡ K → first_unchained F K ≡ None → Grows F pt H log (Tree New)
  ends H K New log before same none =
      subst (λ z. Grows F pt H log (Tree z)) (sym same) (subst (λ l. Grows F pt H l (Tree K)) (append-nil log) (goes_on F pt before (done none)))

  pub ends_stuck : (H K New : Hierarchy) (log : List GrowthStep) (c : Conflict) (b : Broken) → Leads F pt H log K
      → (New ≡ K) × Grows F pt K [] (Stuck K c b) → Grows F pt H log (Stuck New c b)
  ends_stuck H K New log c b before (same, grows) =
      subst (λ z. Grows F pt H log (Stuck z c b)) (sym same) (subst (λ l. Grows F pt H l (Stuck K c b)) (append-nil log) (goes_on F pt before grows))

pub none_yet : (log : List TreeStep) → log ≡ [] → AreEdits log
none_yet log e = subst AreEdits (sym e) (All-nil (λ s. IsEditOf (try_of s.edit) s.edit))

pub more_edits : (log more : List TreeStep) (s : TreeStep) → more ≡ log ++ s ∷ [] → AreEdits log → IsEditOf (try_of s.edit) s.edit → AreEdits more
more_edits log more s same all is =
    let P = λ (s : TreeStep). IsEditOf (try_of s.edit) s.edit in
    subst AreEdits (sym same) (All-append P log (s ∷ []) all (All-cons P s [] is (All-nil P)))
