-- Facts of one row and one class are in range where their flows are.
use Rattle.std.proofs.Common.{◌≡◌, ℕ, ◌+◌, ◌<◌, List, [], length, Option, Some, None, Contains, refl, subst, arith}
use Rattle.std.specs.List.{All, slice_get}
use Rattle.std.specs.Option.{IfSome}
use Rattle.std.proofs.lemmas.Option.{get_or_from_slice_get, slice_get_within}
use Rattle.std.proofs.lemmas.List.Elements.{All-nil, All-weaker}
use Rattle.fact_model.specs.Classes.{supers_of, IsAcyclic}
use Rattle.fact_model.specs.InRange.{InRange, AreCounted, IsRow, IsCol, IsSite, IsClass, IsPoint}
use Rattle.fact_model.specs.declared.facts.Facts.{Facts}
use Rattle.fact_model.specs.declared.facts.RowInfo.{RowInfo}
use Rattle.fact_model.specs.declared.facts.ClassInfo.{ClassInfo}
use Rattle.fact_model.specs.declared.facts.SiteInfo.{SiteInfo}
use Rattle.fact_model.specs.declared.facts.NewInfo.{NewInfo}
use Rattle.fact_model.specs.declared.facts.FlowInfo.{FlowInfo}
use Rattle.show_facts.specs.Drawn.{AreMany, IsRoot, IsOnlyRow, IsFirstRow, IsFirstSite, IsNew, IsDrawnFlow}

none : {A : Type 0} (P : A → Type 0) (xs : List A) → xs ≡ [] → All P xs
none P xs e = rw e (All-nil P)

module _ (F : Facts) where
  -- how much is in the lists that the drawn facts leave empty
  abbrev pub unused : ℕ
  unused =
      length F.columns.items + length F.cells.items + length F.loads.items + length F.stores.items + length F.bodies.items + length F.calls.items
      + length F.casts.items + length F.accesses.items + length F.supers.items + length F.ties.items + length F.tests.items + length F.makes.items

  -- the drawn facts
  pub record AreDrawn : Type 0 where
    pub rows : AreMany 1 IsOnlyRow F.rows.items
    pub classes : AreMany 1 IsRoot F.classes.items
    pub points : AreMany 2000 IsFirstRow F.points.items
    pub sites : AreMany 500 IsFirstSite F.sites.items
    pub news : All IsNew F.news.items
    pub flows : All IsDrawnFlow F.flows.items
    pub none : unused ≡ 0

  module _ (d : AreDrawn) where
    counts : AreCounted F
    counts = record {
      rows = omega (arith, d.rows.count);
      columns = omega (arith, d.none);
      sites = omega (arith, d.sites.count);
      classes = omega (arith, d.classes.count);
      points = omega (arith, d.points.count);
      cells = omega (arith, d.none);
      calls = omega (arith, d.none);
      tests = omega (arith, d.none);
    }

    no_supers : (a : ℕ) (o : Option ClassInfo) → slice_get F.classes.items a ≡ o → supers_of F a ≡ []
    no_supers a None e = rw e refl
    no_supers a (Some k) e =
        let r = subst IsRoot (get_or_from_slice_get F.classes.items a k k e) (d.classes.each a k (slice_get_within F.classes.items a k e)) in
        rw (e, r.0, r.1) refl

    acyclic : IsAcyclic F
    acyclic a s =
        let e = no_supers a (slice_get F.classes.items a) refl in
        let h : Contains (supers_of F a) s.by = s.direct in
        let lt : h.0 < 0 = rw e at h.1 in
        omega (arith, lt)

    one_row : (r : RowInfo) → IsOnlyRow r → IsClass F r.class × IfSome r.site (IsSite F) × IfSome r.this_of (IsCol F)
    one_row r h = (omega (arith, h.0, d.classes.count), rw h.1 tt, rw h.2 tt)

    one_class : (k : ClassInfo) → IsRoot k → IfSome k.parent (IsClass F) × All (IsClass F) k.faces.items
    one_class k h = (rw h.0 tt, none (IsClass F) k.faces.items h.1)

    a_site : (s : SiteInfo) → IsFirstSite s → IsRow F s.row × IsClass F s.class
    a_site s h = (omega (arith, h.0, d.rows.count), omega (arith, h.1, d.classes.count))

    a_new : (x : NewInfo) → IsNew x → IsPoint F x.point × IsSite F x.site
    a_new x h = (omega (arith, h.0, d.points.count), omega (arith, h.1, d.sites.count))

    a_flow : (x : FlowInfo) → IsDrawnFlow x → IsPoint F x.from × IsPoint F x.to
    a_flow x h = (omega (arith, h.0, d.points.count), omega (arith, h.1, d.points.count))

    pub in_range : InRange F
    in_range = record {
      counts = counts;
      acyclic = acyclic;
      rows = All-weaker IsOnlyRow (λ r. IsClass F r.class × IfSome r.site (IsSite F) × IfSome r.this_of (IsCol F)) one_row F.rows.items d.rows.each;
      columns = λ i x lt. absurd (omega (arith, lt, d.none));
      sites = All-weaker IsFirstSite (λ s. IsRow F s.row × IsClass F s.class) a_site F.sites.items d.sites.each;
      classes = All-weaker IsRoot (λ k. IfSome k.parent (IsClass F) × All (IsClass F) k.faces.items) one_class F.classes.items d.classes.each;
      points = All-weaker IsFirstRow (IsRow F) (λ r h. omega (arith, h, d.rows.count)) F.points.items d.points.each;
      cells = λ i x lt. absurd (omega (arith, lt, d.none));
      news = All-weaker IsNew (λ x. IsPoint F x.point × IsSite F x.site) a_new F.news.items d.news;
      flows = All-weaker IsDrawnFlow (λ x. IsPoint F x.from × IsPoint F x.to) a_flow F.flows.items d.flows;
      loads = λ i x lt. absurd (omega (arith, lt, d.none));
      stores = λ i x lt. absurd (omega (arith, lt, d.none));
      bodies = λ i x lt. absurd (omega (arith, lt, d.none));
      calls = λ i x lt. absurd (omega (arith, lt, d.none));
      casts = λ i x lt. absurd (omega (arith, lt, d.none));
      accesses = λ i x lt. absurd (omega (arith, lt, d.none));
      supers = λ i x lt. absurd (omega (arith, lt, d.none));
      ties = λ i x lt. absurd (omega (arith, lt, d.none));
      tests = λ i x lt. absurd (omega (arith, lt, d.none));
      makes = λ i x lt. absurd (omega (arith, lt, d.none));
    }
