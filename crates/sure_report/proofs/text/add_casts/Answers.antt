use Rattle.std.proofs.Common.{◌+◌, ◌++◌, drop, get_or, sym, ap, ◌∙◌, string_bytes, append_assoc}
use Rattle.fact_model.specs.declared.facts.Spot.{Spot}
use Rattle.fact_model.specs.declared.facts.SpotKind.TheVariants as spot
use Rattle.sure_report.specs.Text.{lines, cast_line}
use Rattle.sure_report.proofs.Judged.{lines_at, lines_past}
use Rattle.sure_report.proofs.text.add_casts.Goals as goal
use Rattle.sure_report.proofs.text.add_casts.Goals.{then-k-casts+in_ok-add_cast, else-k-casts}

-- no spot of a list
abbrev blank : Spot
blank = record { kind = spot.Cast; at = 0; place = record { at = 0; line = 0 } }

pub loop-k-preserved : goal.loop-k-preserved
loop-k-preserved c = elim c.if-k-casts.branch [
  | then-k-casts+in_ok-add_cast w ↦
      let line = cast_line c.args.facts.now in
      let rest = lines line (drop (c.loop-k.k + 1) c.args.spots.now) (drop (c.loop-k.k + 1) c.args.casts.now) in
      ap (λ t. string_bytes t ++ rest) w.text-is ∙ ap (λ z. z ++ rest) w.in_ok-add_cast.ensures
      ∙ append_assoc (string_bytes c.loop-k.text) (line (get_or c.args.spots.now c.loop-k.k blank) _) rest
      ∙ ap (λ z. string_bytes c.loop-k.text ++ z) (sym (lines_at line c.args.spots.now c.args.casts.now c.loop-k.k blank _ c.loop-k-test.true w.if-k-casts.true))
      ∙ c.loop-k.invariant
  | else-k-casts w ↦
      let line = cast_line c.args.facts.now in
      ap (λ t. string_bytes t ++ lines line (drop (c.loop-k.k + 1) c.args.spots.now) (drop (c.loop-k.k + 1) c.args.casts.now)) w.text-is
      ∙ ap (λ z. string_bytes c.loop-k.text ++ z) (sym (lines_past line (drop c.loop-k.k c.args.spots.now) (drop (c.loop-k.k + 1) c.args.spots.now)
      c.args.casts.now c.loop-k.k w.if-k-casts.false)) ∙ c.loop-k.invariant
]
