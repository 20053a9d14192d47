use Rattle.std.proofs.Common.{◌<◌, length, arith}
use Rattle.std.proofs.lemmas.Grind.{common_steps}
use Rattle.points_to.proofs.LoopLemmas.{within_more}
use Rattle.table_rules.specs.Asked.{IsNoted}
use Rattle.table_rules.proofs.AskLemmas.{noted_more, grow_then}
use Rattle.table_rules.proofs.asked.note_each.Goals as goal

pub loop-c-preserved : goal.loop-c-preserved
loop-c-preserved c =
    let F = c.args.facts.now in
    let n = length F.columns.items in
    let d = c.args.d in
    let xs = c.args.list.now in
    let k = c.loop-c.c-index in
    let before = c.loop-c.invariant.step in
    let step = c.note_pair.ensures.step in
    let a = c.loop-c.columns.asked.items in
    let h = c.loop-c.columns.hidden.items in
    let b = c.note_pair.new.columns.asked.items in
    let j = c.note_pair.new.columns.hidden.items in
    let lt : k < length xs = grind (arith, common_steps) in
    record {
      step = record {
        are = step.are;
        asked = grow_then c.args.columns.now.asked.items a b before.asked step.asked;
        hidden = grow_then c.args.columns.now.hidden.items h j before.hidden step.hidden;
      };
      here = within_more (λ x. x < n → IsNoted F a h d x) (λ x. x < n → IsNoted F b j d x) xs k 0 lt
          (λ x is below. noted_more F a b step.asked h j d x step.hidden (is below)) c.loop-c.invariant.here c.note_pair.ensures.here;
    }
