-- What each rule of the inclusions gives of what holds.
use Rattle.std.proofs.Common.{◌≡◌, ℕ, ◌<◌, List, [], ◌∷◌, length, get_or, Option, Some, None, Contains, subst, ⊎_elim}
use Rattle.std.specs.List.{All}
use Rattle.std.specs.Option.{IfSome}
use Rattle.std.proofs.lemmas.Bool.{cases_lt}
use Rattle.std.proofs.lemmas.List.{get_or_past}
use Rattle.kaba_derivations.proofs.Derivations.{derivable_by}
use Rattle.fact_model.specs.Items.{site_class}
use Rattle.fact_model.specs.Classes.{IsBelow}
use Rattle.fact_model.specs.InRange.{IsPoint}
use Rattle.fact_model.specs.Flowing.{in_point, in_cell, IsCell, FitsStore, CallRuns, point_at, Inclusion, by_new, by_flow, by_load, by_store, by_this, by_argument, by_result, by_cast, Holds}
use Rattle.fact_model.specs.declared.facts.Facts.{Facts}
use Rattle.fact_model.specs.declared.facts.NewInfo.{NewInfo}
use Rattle.fact_model.specs.declared.facts.FlowInfo.{FlowInfo}
use Rattle.fact_model.specs.declared.facts.LoadInfo.{LoadInfo}
use Rattle.fact_model.specs.declared.facts.StoreInfo.{StoreInfo}
use Rattle.fact_model.specs.declared.facts.CastInfo.{CastInfo}
use Rattle.fact_model.specs.declared.facts.CallInfo.{CallInfo}
use Rattle.fact_model.specs.declared.facts.BodyInfo.{BodyInfo}

module _ (F : Facts) where
  pub new_holds : (x : NewInfo) → Contains F.news.items x → Holds F (in_point x.point x.site.0)
  new_holds x is = derivable_by (Inclusion F) [] (in_point x.point x.site.0) (by_new x is) tt

  pub flow_holds : (x : FlowInfo) (s : ℕ) → Contains F.flows.items x → Holds F (in_point x.from s) → Holds F (in_point x.to s)
  flow_holds x s is h = derivable_by (Inclusion F) (in_point x.from s ∷ []) (in_point x.to s) (by_flow x s is) (h, tt)

  pub load_holds : (x : LoadInfo) (c o s : ℕ) → Contains F.loads.items x → IsCell F c o x.column → Holds F (in_point x.base o) → Holds F (in_cell c s)
      → Holds F (in_point x.into s)
  load_holds x c o s is cell base h = derivable_by (Inclusion F) (in_point x.base o ∷ in_cell c s ∷ []) (in_point x.into s)
      (by_load x c o s is cell) (base, (h, tt))

  pub store_holds : (x : StoreInfo) (c o s : ℕ) → Contains F.stores.items x → IsCell F c o x.column → FitsStore F x.column s o
      → Holds F (in_point x.base o) → Holds F (in_point x.value s) → Holds F (in_cell c s)
  store_holds x c o s is cell fits base h =
      derivable_by (Inclusion F) (in_point x.base o ∷ in_point x.value s ∷ []) (in_cell c s) (by_store x c o s is cell fits) (base, (h, tt))

  pub cast_holds : (x : CastInfo) (s : ℕ) → Contains F.casts.items x → IsBelow F (site_class F s) x.class.0 → Holds F (in_point x.from s)
      → Holds F (in_point x.into s)
  cast_holds x s is b h = derivable_by (Inclusion F) (in_point x.from s ∷ []) (in_point x.into s) (by_cast x s is b) (h, tt)

  module _ (call : CallInfo) (o : ℕ) (body : BodyInfo) (runs : CallRuns F call o body) (receiver : Holds F (in_point call.receiver o)) where
    pub this_holds : Holds F (in_point body.this o)
    this_holds = derivable_by (Inclusion F) (in_point call.receiver o ∷ []) (in_point body.this o) (by_this call o body runs) (receiver, tt)

    pub argument_holds : (k from to s : ℕ) → point_at call.args.items k ≡ Some from → point_at body.params.items k ≡ Some to
        → Holds F (in_point from s) → Holds F (in_point to s)
    argument_holds k from to s a b h = derivable_by (Inclusion F) (in_point call.receiver o ∷ in_point from s ∷ []) (in_point to s)
        (by_argument call o body k from to s runs a b) (receiver, (h, tt))

    pub result_holds : (from to s : ℕ) → body.result ≡ Some from → call.result ≡ Some to → Holds F (in_point from s) → Holds F (in_point to s)
    result_holds from to s a b h = derivable_by (Inclusion F) (in_point call.receiver o ∷ in_point from s ∷ []) (in_point to s)
        (by_result call o body from to s runs a b) (receiver, (h, tt))

-- the points of a list in range
pub points_of : (F : Facts) (ps : List (Option ℕ)) → All (λ p. IfSome p (IsPoint F)) ps → (k p : ℕ) → point_at ps k ≡ Some p → p < length F.points.items
points_of F ps all k p e =
    ⊎_elim
    (λ lt. subst (λ o. IfSome o (IsPoint F)) e (all k None lt))
    (λ past. let none : get_or ps k None ≡ None = get_or_past ps k None past in absurd (cc (none, e)))
    (cases_lt k (length ps))

pub point_below : (ps : List (Option ℕ)) (k p : ℕ) → point_at ps k ≡ Some p → k < length ps
point_below ps k p e = ⊎_elim (λ lt. lt) (λ past. let none : get_or ps k None ≡ None = get_or_past ps k None past in absurd (cc (none, e)))
    (cases_lt k (length ps))
