use Rattle.std.proofs.Common.{◌∙◌, ◌+◌, ◌*◌, ◌%◌, ◌<◌, sym, ap, arith}
use Rattle.java_core.specs.Classes.{is_slot}
use Rattle.java_check.proofs.Words.{bit-one, slot-here}
use Rattle.java_check.proofs.tables.slot_word.Goals as goal

pub returns-in-Some : goal.returns-in-Some
returns-in-Some c = λ i lt.
    let s = c.in-Some.slot in
    let b = c.args.batch in
    let low : s % 64 < 64 = omega arith in
    bit-one (s % 64) i low ∙ (slot-here s b i c.if-slot-batch.true lt ∙ ap (λ o. is_slot o (64 * b + i)) (sym c.in-Some.is))
