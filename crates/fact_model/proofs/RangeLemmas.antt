-- What holds of facts in range is in range.
use Rattle.std.proofs.Common.{◌≡◌, ◌≢◌, ℕ, ◌<◌, ⊎_elim, List, [], length, Some, None, ap, sym, ◌∙◌}
use Rattle.std.specs.List.{AllByRecursion}
use Rattle.std.proofs.lemmas.Bool.{cases_lt}
use Rattle.std.proofs.lemmas.List.{get_or_past}
use Rattle.std.proofs.lemmas.List.Elements.{All-contains}
use Rattle.kaba_derivations.proofs.Derivations.{derivable_least}
use Rattle.kaba_base.specs.declared.ColId.{ColId}
use Rattle.fact_model.specs.Items.{column_kind, row_this}
use Rattle.fact_model.specs.declared.facts.RowInfo.{RowInfo}
use Rattle.fact_model.specs.InRange.{InRange, IsPoint, IsSite}
use Rattle.fact_model.specs.Flowing.{Fact, in_point, in_cell, Inclusion, by_new, by_flow, by_load, by_store, by_this, by_argument, by_result, by_cast, Holds, IsInRow, by_point, by_cell}
use Rattle.fact_model.specs.declared.facts.Facts.{Facts}
use Rattle.fact_model.specs.declared.facts.ColumnInfo.{ColumnInfo}
use Rattle.fact_model.specs.declared.facts.ColKind.{ColKind}
use Rattle.fact_model.specs.declared.facts.ColKind.TheVariants.{Is}

-- the site of a fact
abbrev pub site_of : Fact → ℕ
site_of (in_point p s) = s
site_of (in_cell c s) = s

module _ (F : Facts) where
  site_closed : InRange F → (ps : List Fact) (f : Fact) → Inclusion F ps f → AllByRecursion (λ p. site_of p < length F.sites.items) ps
      → site_of f < length F.sites.items
  site_closed R ps f (by_new x is) h = (All-contains (λ y. IsPoint F y.point × IsSite F y.site) F.news.items x R.news is).1
  site_closed R ps f (by_flow x s is) h = h.0
  site_closed R ps f (by_load x c o s is cell) h = h.1.0
  site_closed R ps f (by_store x c o s is cell fits) h = h.1.0
  site_closed R ps f (by_this call o body runs) h = h.0
  site_closed R ps f (by_argument call o body k from to s runs a b) h = h.1.0
  site_closed R ps f (by_result call o body from to s runs a b) h = h.1.0
  site_closed R ps f (by_cast x s is b) h = h.0

  pub site-below : InRange F → (f : Fact) → Holds F f → site_of f < length F.sites.items
  site-below R = derivable_least (Inclusion F) (λ f. site_of f < length F.sites.items) (site_closed R)

  pub member-below : InRange F → (v s : ℕ) → IsInRow F v s → s < length F.sites.items
  member-below R v s (by_point p i lt h) = site-below R (in_point p i) h
  member-below R v s (by_cell c i lt h) = site-below R (in_cell c i) h

  -- a column of a kind other than a mark is one of the list
  pub column-below : (c : ℕ) (k : ColKind) → column_kind F c ≡ k → k ≢ Is → c < length F.columns.items
  column-below c k e ne =
      ⊎_elim
      (λ lt. lt)
      (λ past. absurd (ne (sym e ∙ ap (λ (k : ColumnInfo). k.kind)
      (get_or_past F.columns.items c (record { kind = Is; class = record { 0 = 0 }; slot = None; name = []; label = [] }) past))))
      (cases_lt c (length F.columns.items))

  -- only a row of the list is a `this`
  pub this-below : (v : ℕ) (d : ColId) → row_this F v ≡ Some d → v < length F.rows.items
  this-below v d e =
      ⊎_elim
      (λ lt. lt)
      (λ past. absurd (cc (
        e,
        ap (λ (r : RowInfo). r.this_of)
            (get_or_past F.rows.items v (record { label = []; class = record { 0 = 0 }; dim = 0; site = None; this_of = None }) past),
      )))
      (cases_lt v (length F.rows.items))
