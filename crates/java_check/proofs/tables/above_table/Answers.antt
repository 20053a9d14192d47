use Rattle.std.proofs.Common.{rules, ◌≡◌, ◌<◌, ℕ, true, length, []}
use Rattle.std.proofs.lemmas.List.{length-map}
use Rattle.java_core.specs.Programs.{program_of, class_seen}
use Rattle.java_check.specs.SlotOutcome.{is_above_at}
use Rattle.java_check.proofs.Upward.{above_found, above_empty}
use Rattle.java_check.proofs.tables.above_table.Goals as goal

pub returns : goal.returns
returns c = let e : c.new.result.items ≡ [] = search rules in above_empty (program_of c.args.batch.now.p.now) c.args.asked
    c.args.batch.now.number c.new.result.items e

pub returns-then-is_above : goal.returns-then-is_above
returns-then-is_above c =
    let p = c.args.batch.now.p.now in
    let table = c.in_ok-table.table.items in
    let own = c.in_ok-own.own.items in
    let checked : (k : ℕ) → k < length table → is_above_at (program_of p) table own k ≡ true = search rules in
    above_found (program_of p) c.requires.formed c.args.batch.now.number c.args.batch.now.list.now c.requires.listed (length p.classes.items)
    (length-map p.classes.items class_seen) c.args.asked table own c.in_ok-own.ensures.bits checked
