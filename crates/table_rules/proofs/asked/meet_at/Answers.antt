use Rattle.std.proofs.Common.{length, refl, sym, ◌∙◌}
use Rattle.std.proofs.lemmas.Bool.{and_parts, and_from, or_right, false≢true}
use Rattle.kaba_bits.specs.Sets.{bit, row}
use Rattle.kaba_bits.proofs.RowLemmas.{GainsRow-keeps}
use Rattle.table_rules.proofs.CloseLemmas.{hidden_flows, marked-column}
use Rattle.table_rules.proofs.AskLemmas.{asked_more}
use Rattle.table_rules.proofs.asked.meet_at.Goals as goal

pub returns-then-not-meets-clause-met : goal.returns-then-not-meets-clause-met
returns-then-not-meets-clause-met c =
    let F = c.args.facts.now in
    let n = length F.columns.items in
    let q = c.args.q in
    let d = c.args.d in
    let rows = c.args.rows.now in
    let apart = rw (c.row_at-row.ensures, c.row_at-hides.ensures) at c.if-not-meets.ensures in
    λ m k by h. absurd (false≢true (apart.1 (k, h, c.requires.hidden.all d k c.requires.column (marked-column n rows q k c.requires.rows.widths h) by)))

pub returns-then-is_subset-clause-met : goal.returns-then-is_subset-clause-met
returns-then-is_subset-clause-met c =
    let F = c.args.facts.now in
    let rows = c.args.rows.now in
    let q = c.args.q in
    let d = c.args.d in
    let within = rw (c.row_at-hides.ensures, c.row_at.ensures) at c.if-is_subset.ensures in
    λ m k by h. within.0 refl k
    (c.requires.hidden.all d k c.requires.column (marked-column (length F.columns.items) rows q k c.requires.rows.widths h) by)

pub returns-clause-asked : goal.returns-clause-asked
returns-clause-asked c =
    let F = c.args.facts.now in
    let q = c.args.q in
    let d = c.args.d in
    let bits = rw (c.row_at-row.ensures, c.row_at-hides.ensures) at c.meet_into.ensures.met in
    asked_more F c.args.asked.now c.join_with.new.rows d c.meet_into.new.both c.join_with.ensures.len c.join_with.ensures.widths
    c.join_with.ensures.joined c.requires.asked
    (λ k b. let p = and_parts (bit (row c.args.rows.now q) k) (bit (row c.args.hidden.now d) k) (sym (bits k) ∙ b) in hidden_flows F q d k
    (c.requires.hidden.pairs.sound d k p.1) c.requires.entry (c.requires.rows.sound q k p.0))

pub returns-clause-grows : goal.returns-clause-grows
returns-clause-grows c = GainsRow-keeps c.args.asked.now c.join_with.new.rows c.args.d c.meet_into.new.both c.join_with.ensures.joined

pub returns-clause-met : goal.returns-clause-met
returns-clause-met c =
    let n = length c.args.facts.now.columns.items in
    let q = c.args.q in
    let d = c.args.d in
    let rows = c.args.rows.now in
    let hidden = c.args.hidden.now in
    let bits = rw (c.row_at-row.ensures, c.row_at-hides.ensures) at c.meet_into.ensures.met in
    λ m k by h.
    let x = c.requires.hidden.all d k c.requires.column (marked-column n rows q k c.requires.rows.widths h) by in
    c.join_with.ensures.joined.joined k ∙ or_right (bit (row c.args.asked.now d) k) (bit c.meet_into.new.both k) (bits k
    ∙ and_from (bit (row rows q) k) (bit (row hidden d) k) h x)
