use Rattle.std.proofs.Common.{◌∷◌, [], ◌||◌, true, sym, ap, ◌∙◌, subst}
use Rattle.std.specs.Prelude.{slice_set, not}
use Rattle.std.proofs.lemmas.Bool.{OnTrue_at}
use Rattle.kaba_bits.specs.Sets.{bit, size}
use Rattle.java_core.specs.Squares.{in_row}
use Rattle.java_core.specs.Subtypes.{GainedTypes}
use Rattle.java_core.proofs.Walks.{gained-held, gained-wait}
use Rattle.java_core.proofs.subtypes.reach.Goals as goal

pub returns-then-has-2 : goal.returns-then-has-2
returns-then-has-2 c =
    gained-held c.args.rows.now c.args.known.now c.args.x c.args.row.now c.add_row.new.row c.args.waiting.now.items
    (sym c.has-2.ensures ∙ c.if-has-2.true) c.requires.x c.requires.wide c.add_row.ensures.len
    (λ y lt. c.add_row.ensures.join y lt ∙ ap (λ r. bit c.args.row.now y || in_row r y c.args.x) c.row_at.ensures) c.add_row.ensures.work

pub returns-in_ok-push : goal.returns-in_ok-push
returns-in_ok-push c =
    let old = c.args.row.now in
    let x = c.args.x in
    let w = c.args.waiting.now.items in
    let k = c.args.known.now in
    subst (λ r. GainedTypes c.args.rows.now k (x ∷ []) old r w c.push.new.self.items) (sym c.set.ensures.after)
    (subst (λ l. GainedTypes c.args.rows.now k (x ∷ []) old (slice_set old x true) w l) (sym c.in_ok-push.ensures.items)
    (gained-wait c.args.rows.now k x old w c.requires.x
    (ap size (sym c.set.ensures.after) ∙ OnTrue_at (c.set.ensures.news ∙ ap not (sym c.has.ensures ∙ c.if-has.false)) c.set.ensures.grew)))
