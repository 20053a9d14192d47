use Rattle.std.proofs.Common.{◌∙◌}
use Rattle.std.proofs.lemmas.Bool.{or_right}
use Rattle.kaba_bits.specs.Sets.{bit, row}
use Rattle.kaba_bits.proofs.RowLemmas.{GainsRow-keeps}
use Rattle.table_rules.proofs.CloseLemmas.{body_asks}
use Rattle.table_rules.proofs.AskLemmas.{asked_more}
use Rattle.table_rules.proofs.asked.ask_body.Goals as goal

pub returns : goal.returns
returns c =
    let F = c.args.facts.now in
    let d = c.args.d in
    let v = c.args.v in
    let old = c.args.asked.now in
    let new = c.join_with.new.rows in
    let extra = row c.args.rows.now v in
    let joined = rw c.row_at.ensures at c.join_with.ensures.joined in
    record {
      asked = asked_more F old new d.0 extra c.join_with.ensures.len c.join_with.ensures.widths joined c.requires.asked
          (λ k h. body_asks F v d c.requires.this k (c.requires.rows.sound v k h));
      grows = GainsRow-keeps old new d.0 extra joined;
      here = λ k h. joined.joined k ∙ or_right (bit (row old d.0) k) (bit extra k) h;
    }
