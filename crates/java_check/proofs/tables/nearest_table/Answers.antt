use Rattle.std.proofs.Common.{rules, ◌≡◌, ◌<◌, ℕ, true, cond, length, []}
use Rattle.std.proofs.lemmas.List.{length-map}
use Rattle.java_core.specs.Programs.{program_of, class_seen}
use Rattle.java_check.specs.SlotOutcome.{full, is_nearest_at}
use Rattle.java_check.proofs.Upward.{nearest_found, nearest_empty}
use Rattle.java_check.proofs.tables.nearest_table.Goals as goal

pub returns : goal.returns
returns c = let e : c.new.result.items ≡ [] = search rules in nearest_empty (program_of c.args.batch.now.p.now) c.args.asked c.args.none
    c.args.batch.now.number
    c.new.result.items e

pub returns-then-is_nearest : goal.returns-then-is_nearest
returns-then-is_nearest c =
    let p = c.args.batch.now.p.now in
    let table = c.in_ok-table.table.items in
    let having = c.in_ok-having.having.items in
    let lacking = c.in_ok-lacking.lacking.items in
    let checked : (k : ℕ) → k < length table → is_nearest_at (program_of p) table having lacking (cond c.args.none 0 full) k ≡ true = search rules in
    nearest_found (program_of p) c.requires.batch.formed c.args.batch.now.number c.args.batch.now.list.now c.requires.batch.listed (length p.classes.items)
    (length-map p.classes.items class_seen) c.args.asked c.args.other c.args.none c.requires.other table having lacking c.in_ok-having.ensures.len
    c.in_ok-having.ensures.bits c.in_ok-lacking.ensures.bits checked
