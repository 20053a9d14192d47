use Rattle.std.proofs.Common.{◌==◌, ◌&&◌, sym, ap, ◌∙◌, length, eq-eqb, arith}
use Rattle.std.proofs.lemmas.Bool.{and_from}
use Rattle.fact_model.specs.Items.{site_at, site_row}
use Rattle.fact_model.specs.declared.facts.SiteInfo.{SiteInfo}
use Rattle.kaba_order.specs.Orders.{is_le}
use Rattle.hier_model.specs.Hierarchies.{Hierarchy, place_of_row}
use Rattle.hier_model.proofs.AnyLemmas.{any_below_found}
use Rattle.hier_model.proofs.Hier.has_object.Goals as goal

pub returns-then-le : goal.returns-then-le
returns-then-le c =
    let F = c.args.facts.now in
    let H = c.args.self.now in
    let n = c.args.n.0 in
    let s = c.loop-s.s in
    let dim = ap (λ (x : SiteInfo). x.dim) (sym c.site_at-site.ensures) ∙ c.if-site-eq0.true in
    let at = c.place_of_row.ensures ∙ ap (λ (x : SiteInfo). place_of_row H x.row.0) c.site_at-site.ensures in
    sym (any_below_found (λ k. ((site_at F k).dim == 0) && is_le H.order n (place_of_row H (site_row F k))) (length F.sites.items) s
    c.loop-s.invariant (omega arith)
    (and_from ((site_at F s).dim == 0) (is_le H.order n (place_of_row H (site_row F s))) (eq-eqb (site_at F s).dim 0 dim)
    (ap (is_le H.order n) (sym at) ∙ ap (λ (h : Hierarchy). is_le h.order n c.place_of_row.result.0) (sym c.self.view_is) ∙ sym c.if-le.ensures)))
