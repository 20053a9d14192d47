-- What a join makes is a hierarchy of the same facts, and its parts.
use Rattle.std.proofs.Common.{◌≡◌, Result, Ok, Err, Option, sym, ap, ◌∙◌, subst, inr}
use Rattle.std.specs.Prelude.{OnOk, OnErr}
use Rattle.kaba_order.specs.Orders.{Ordered}
use Rattle.fact_model.specs.InRange.{InRange}
use Rattle.fact_model.specs.declared.facts.Facts.{Facts}
use Rattle.hier_model.specs.Hierarchies.{Hierarchy, IsHierarchyOf}
use Rattle.hier_model.specs.Edits.{changed, NamesSome}
use Rattle.hier_model.specs.declared.edits.Edit.{Edit}
use Rattle.hier_model.specs.declared.edits.ChangeFault.{ChangeFault}
use Rattle.hier_model.specs.declared.places.Join.{Join}
use Rattle.hier_model.specs.declared.places.Places.{Places}
use Rattle.hier_model.specs.Places.{with_places, IsFormer}
use Rattle.hier_model.proofs.FitLemmas.{fits_of}

pub fits_joined : (F : Facts) → InRange F → (H : Hierarchy) → IsHierarchyOf F H → (e : Edit) → NamesSome e → (r : Result Join ChangeFault) (K : Hierarchy)
    → OnOk r (changed F H e ≡ Ok K) → OnErr r (K ≡ H) → IsHierarchyOf F K
fits_joined F R H fit e some (Ok b) K ok err = fits_of F R H fit e some (Ok K) (inr (sym ok))
fits_joined F R H fit e some (Err x) K ok err = subst (IsHierarchyOf F) (sym err) fit

-- a hierarchy from which a join is taken back
pub parted : (old now inside : Hierarchy) (kept : Join) (o : Ordered) (ps : Option Places) → inside ≡ now → o ≡ old.order → kept.places ≡ ps
    → IsFormer old now kept → with_places (record inside { order = o }) ps ≡ old
parted old now inside kept o ps view e is b =
    ap (λ (h : Hierarchy). with_places (record h { order = o }) ps) view
    ∙ (ap (λ (x : Ordered). with_places (record now { order = x }) ps) e ∙ (ap (with_places (record now { order = old.order })) (sym is) ∙ b.rest))
