use Rattle.std.proofs.Common.{◌&&◌, ◌∙◌, length, sym, arith}
use Rattle.std.specs.Prelude.{nat_lt}
use Rattle.kaba_bits.proofs.SetLemmas.{bit-below}
use Rattle.fact_model.specs.Items.{column_slot}
use Rattle.hier_model.specs.Edits.{is_one_slot}
use Rattle.hier_model.specs.Hierarchies.{stands_at}
use Rattle.hier_rules.specs.declared.broken.Rule.TheVariants.{B6}
use Rattle.hier_rules.specs.Instances.{of_column}
use Rattle.hier_rules.specs.Obligations.{is_body_at}
use Rattle.hier_rules.proofs.AnyLemmas.{none_where, none_next, none_left}
use Rattle.hier_rules.proofs.IndexLemmas.{no_second}
use Rattle.hier_rules.proofs.bodies.has_rival_at.Goals as goal

pub returns-then-not-is_body_at : goal.returns-then-not-is_body_at
returns-then-not-is_body_at c =
    let F = c.args.asked.now.facts.now in
    let H = c.args.asked.now.hier.now in
    none_where (is_body_at F H c.args.n c.args.c) (λ d. is_body_at F H c.args.n d && nat_lt c.args.c d && is_one_slot (column_slot F c.args.c)
    (column_slot F d)) (of_column B6 c.args.n) (length F.columns.items)
    (sym c.is_body_at.ensures ∙ c.if-not-is_body_at.true)

pub stands_at-requires-clause-column : goal.stands_at-requires-clause-column
stands_at-requires-clause-column c =
    let lt = bit-below c.args.rivals.now c.in-Some.e c.in-Some.ensures.holds in
    omega (arith, lt, c.requires.rivals.width_is)

pub scan-preserved : goal.scan-preserved
scan-preserved c =
    let lt = bit-below c.args.rivals.now c.in-Some.e c.in-Some.ensures.holds in
    record {
      below = omega (arith, lt);
      none = none_next c.args.rivals.now (stands_at c.args.asked.now.hier.now c.args.n) c.scan.at c.in-Some.e
          c.scan.invariant.none c.in-Some.ensures (sym c.stands_at.ensures ∙ c.if-stands_at.false);
    }

pub returns : goal.returns
returns c =
    let H = c.args.asked.now.hier.now in
    no_second c.args.asked.now.facts.now c.args.asked.now.pt.now H c.args.n c.args.c c.args.rivals.now c.requires.rivals
    (none_left c.args.rivals.now (stands_at H c.args.n) c.scan.at c.scan.invariant.none c.in_default.ensures)
