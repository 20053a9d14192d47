-- Facts that are the same, with sets that are the same: edits and the steps towards a tree are the same.
use Rattle.std.proofs.Common.{◌≡◌, List, [], ◌∷◌, Option, Some, None, Result, Ok, Err, refl, sym, ap, ◌∙◌, if◌then◌else◌}
use Rattle.std.specs.Prelude.{◌==◌}
use Rattle.kaba_base.specs.declared.NodeId.{NodeId}
use Rattle.kaba_base.specs.declared.ClassId.{ClassId}
use Rattle.fact_model.specs.declared.facts.Facts.{Facts}
use Rattle.fact_model.specs.declared.sets.PointsTo.{PointsTo}
use Rattle.hier_model.specs.Hierarchies.{Hierarchy, origin_of}
use Rattle.hier_model.specs.Edits.{first_unknown, first_between, unless, changed}
use Rattle.hier_model.specs.declared.edits.Edit.{Edit}
use Rattle.hier_model.specs.declared.edits.ChangeFault.{ChangeFault}
use Rattle.hier_model.specs.declared.edits.ChangeFault.TheVariants.{UnknownNode, Cycle}
use Rattle.hier_edit.specs.Applied.{unless_broken, outcome, applied}
use Rattle.hier_tree.specs.declared.Conflict.{Conflict}
use Rattle.hier_tree.specs.Trees.{Try, MakeOne, PutUnder, tries_of_one, tries_of_lower, tries_of_higher, tries_of_others, tries_by, tries_of, changed_by, tried, accepted_or, first_accepted, last_try, conflict_of, GrowthStep, GrowthEnd, Grows, done, stuck, step}
use Rattle.flow_program.specs.Same.{AreSameFacts}
use Rattle.kaba_top.proofs.SameFacts.{below_is}
use Rattle.kaba_top.proofs.SameHierarchies.{merged_is, changed_is}
use Rattle.kaba_top.proofs.SameObligations.{unchained_are, of_edit_are}

module _ {F G : Facts} (s : AreSameFacts F G) where
  tries_by_is : (H : Hierarchy) (x y : NodeId) (o p : Option ClassId) → tries_by F H x y o p ≡ tries_by G H x y o p
  tries_by_is H x y (Some k) (Some l) =
      λ i. if k.0 == l.0 then tries_of_one H k x y else
      (if below_is s k.0 l.0 i then tries_of_lower x y else (if below_is s l.0 k.0 i then tries_of_higher x y else tries_of_others x y))
  tries_by_is H x y (Some k) None = refl
  tries_by_is H x y None p = refl

  tries_are : (H : Hierarchy) (c : Conflict) → tries_of F H c ≡ tries_of G H c
  tries_are H c = tries_by_is H c.first c.second (origin_of H c.first.0) (origin_of H c.second.0)

  changed_by_is : (H : Hierarchy) (t : Try) → changed_by F H t ≡ changed_by G H t
  changed_by_is H (MakeOne set) = λ i. unless (first_unknown H.order set) UnknownNode (unless (first_between H.order set) Cycle (Ok (merged_is s H set i)))
  changed_by_is H (PutUnder n p) = refl

  module _ (t u : PointsTo) (points : t.points.items ≡ u.points.items) (rows : t.rows.items ≡ u.rows.items) where
    outcome_is : (r : Result Hierarchy ChangeFault) → outcome F t r ≡ outcome G u r
    outcome_is (Ok H) = ap (unless_broken H) (of_edit_are s t u points rows H)
    outcome_is (Err fault) = refl

    pub applied_is : (H : Hierarchy) (e : Edit) → applied F t H e ≡ applied G u H e
    applied_is H e = ap (outcome F t) (changed_is s H e) ∙ outcome_is (changed G H e)

    tried_is : (H : Hierarchy) (try : Try) → tried F t H try ≡ tried G u H try
    tried_is H try = ap (outcome F t) (changed_by_is H try) ∙ outcome_is (changed_by G H try)

    accepted_is : (H : Hierarchy) (ts : List Try) → first_accepted F t H ts ≡ first_accepted G u H ts
    accepted_is H [] = refl
    accepted_is H (try ∷ ts) = λ i. accepted_or try (tried_is H try i) (accepted_is H ts i)

    accepted_of : (H : Hierarchy) (c : Conflict) → first_accepted F t H (tries_of F H c) ≡ first_accepted G u H (tries_of G H c)
    accepted_of H c = ap (first_accepted F t H) (tries_are H c) ∙ accepted_is H (tries_of G H c)

    -- the same steps lead to the same end
    pub grows_on : {H : Hierarchy} {log : List GrowthStep} {end : GrowthEnd} → Grows F t H log end → Grows G u H log end
    grows_on {H} (done e) = done (sym (unchained_are s H) ∙ e)
    grows_on {H} (stuck {b = b} {t = try} a c d e) =
        stuck (sym (unchained_are s H) ∙ a) (sym (accepted_of H (conflict_of b)) ∙ c) (ap last_try (sym (tries_are H (conflict_of b))) ∙ d)
        (sym (tried_is H try) ∙ e)
    grows_on {H} (step {b = b} a c rest) = step (sym (unchained_are s H) ∙ a) (sym (accepted_of H (conflict_of b)) ∙ c) (grows_on rest)
