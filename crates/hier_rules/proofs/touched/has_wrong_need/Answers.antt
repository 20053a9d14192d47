use Rattle.std.proofs.Common.{◌≡◌, ◌∙◌, ◌||◌, not, false, ap, subst, arith}
use Rattle.kaba_bits.proofs.SetLemmas.{bit-below}
use Rattle.hier_model.specs.Hierarchies.{place_of_row, is_offered}
use Rattle.fact_model.specs.declared.facts.SiteInfo.{SiteInfo}
use Rattle.hier_rules.specs.Obligations.{place_of_site, has_nearer}
use Rattle.hier_rules.proofs.AnyLemmas.{none_next, none_left}
use Rattle.hier_rules.proofs.IndexLemmas.{none_hidden}
use Rattle.hier_rules.proofs.touched.has_wrong_need.Goals as goal

pub is_hidden-requires-clause-body : goal.is_hidden-requires-clause-body
is_hidden-requires-clause-body c =
    let lt = bit-below c.args.needs.now c.in-Some.d c.in-Some.ensures.holds in
    omega (arith, lt, c.requires.needs.width_is)

pub scan-preserved : goal.scan-preserved
scan-preserved c =
    let F = c.args.asked.now.facts.now in
    let H = c.args.asked.now.hier.now in
    let a = place_of_site F H c.args.s in
    let lt = bit-below c.args.needs.now c.in-Some.d c.in-Some.ensures.holds in
    record {
      below = omega (arith, lt);
      none = none_next c.args.needs.now (λ d. not (is_offered H a d) || has_nearer F H a d) c.scan.at c.in-Some.d
          c.scan.invariant.none c.in-Some.ensures
          (subst (λ a. (not (is_offered H a c.in-Some.d) || has_nearer F H a c.in-Some.d) ≡ false)
          (c.place_of_row-n.ensures.place ∙ ap (λ (x : SiteInfo). place_of_row H x.row.0) c.site_at.ensures) c.if-is_hidden.ensures);
    }

pub returns : goal.returns
returns c =
    let F = c.args.asked.now.facts.now in
    let H = c.args.asked.now.hier.now in
    let a = place_of_site F H c.args.s in
    none_hidden F c.args.asked.now.pt.now H c.args.s c.args.needs.now c.requires.needs
    (none_left c.args.needs.now (λ d. not (is_offered H a d) || has_nearer F H a d) c.scan.at c.scan.invariant.none c.in_default.ensures)
