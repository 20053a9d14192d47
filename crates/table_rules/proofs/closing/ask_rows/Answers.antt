use borrow.Author.Count.{below_more}
use Rattle.table_rules.specs.Asked.{IsRowAsked}
use Rattle.table_rules.proofs.AskLemmas.{row_asked_more, grow_then, met_more}
use Rattle.table_rules.proofs.closing.ask_rows.Goals as goal

pub loop-q-preserved : goal.loop-q-preserved
loop-q-preserved c =
    let F = c.args.given.now.facts.now in
    let rows = c.args.rows.now in
    let q = c.loop-q.q in
    let met = c.meet_row.ensures in
    let this = c.ask_this.ensures in
    let old = c.loop-q.asked in
    let mid = c.meet_row.new.asked in
    let new = c.ask_this.new.asked in
    record {
      state = record { flows = this.asked; width = met.state.width; entries = met.state.entries };
      asked = below_more (IsRowAsked F rows new) q
          (λ k lt. row_asked_more F old new (grow_then old mid new met.grows this.grows) rows k (c.loop-q.invariant.asked k lt))
          (record { met = λ d. met_more F mid new this.grows rows q d (met.met d); this = this.here });
    }
