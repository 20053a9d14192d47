use Rattle.std.proofs.Common.{[], sym, ◌∙◌, subst, arith}
use Rattle.std.proofs.lemmas.List.Elements.{All-push}
use Rattle.fact_model.specs.Concepts.{Pair, IsConcept}
use Rattle.concept_build.specs.Tables.{IsFull}
use Rattle.concept_build.proofs.ColumnLemmas.{IsExtent-all}
use Rattle.concept_build.proofs.MadeLemmas.{full-concept}
use Rattle.concept_build.proofs.intents.first_items.Goals as goal

pub new-requires : goal.new-requires
new-requires c =
    let extents = c.requires.source.counts.extents in
    record {
      len = c.in_ok-full.ensures.width ∙ sym extents.len;
      widths = λ j lt. extents.widths j lt ∙ sym extents.all.len;
    }

pub returns-clause-each : goal.returns-clause-each
returns-clause-each c =
    let T = c.args.source.now.table.now in
    let w = c.args.source.now.width in
    let x = c.in_ok-item.item in
    let o = c.in_ok-item.ensures in
    let full : IsFull w x.1 = subst (IsFull w) (sym o.intent) (record { len = c.in_ok-full.ensures.width; bits = c.in_ok-full.ensures.full }) in
    let is : IsConcept T w x.0 x.1 = full-concept T w x.0 x.1 (IsExtent-all T w c.args.source.now.counts.now.extents x.0 x.1
    c.requires.source.counts.extents o.extent) full in
    rw (c.in_ok-push.ensures.items, c.new-items.ensures.items) (All-push (λ (k : Pair). IsConcept T w k.0 k.1) [] x (λ k d lt. absurd (omega (arith, lt))) is)
