use Rattle.std.proofs.Common.{◌<◌, not, length, arith}
use Rattle.std.proofs.lemmas.Bool.{and_parts}
use Rattle.kaba_bits.specs.Sets.{bit, row}
use Rattle.kaba_bits.proofs.SetLemmas.{bit-below}
use Rattle.fact_model.specs.Entries.{IsEntry}
use Rattle.points_to.proofs.LoopLemmas.{least_low, least_holds, least_none}
use Rattle.table_rules.specs.Asked.{is_beyond}
use Rattle.table_rules.proofs.closing.next_beyond.Goals as goal

pub returns : goal.returns
returns c =
    let F = c.args.facts.now in
    let are = c.requires.rows in
    let set = row c.args.rows.now c.args.r in
    let plain = c.args.plain.now in
    let w = length F.columns.items in
    let len = are.widths c.args.r (omega (arith, c.requires.row, are.len)) in
    let found = c.next_beyond.result in
    let is = rw c.row_at.ensures at c.next_beyond.ensures in
    let low = least_low (is_beyond plain c.args.rows.now c.args.r) (length set) w c.args.at len found is in
    record {
      low = low;
      column = least_holds (is_beyond plain c.args.rows.now c.args.r) (length set) w c.args.at len (λ d. d < w)
          (λ d h. omega (arith, bit-below set d (and_parts (bit set d) (not (bit plain d)) h).0, len)) found is;
      entry = least_holds (is_beyond plain c.args.rows.now c.args.r) (length set) w c.args.at len (IsEntry F c.args.r)
          (λ d h. are.sound c.args.r d (and_parts (bit set d) (not (bit plain d)) h).0) found is;
      least = least_none (is_beyond plain c.args.rows.now c.args.r) (length set) w c.args.at len found is;
    }
