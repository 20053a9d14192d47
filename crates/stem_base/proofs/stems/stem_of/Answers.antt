use Rattle.std.proofs.Common.{refl, arith}
use Rattle.std.proofs.lemmas.List.{length-map}
use Rattle.stem_base.specs.Base.{common, sides_of, all_sides}
use Rattle.stem_base.proofs.BaseLemmas.{is_base, are_more, found_wide}
use Rattle.stem_base.proofs.stems.stem_of.Goals as goal

pub sort_stems-requires-clause-widths : goal.sort_stems-requires-clause-widths
sort_stems-requires-clause-widths c =
    found_wide c.args.width (common c.args.table.now c.args.width) c.args.bound (all_sides c.in_ok-base.base.items) c.in_ok-base.ensures

pub returns-then-len-bound-clause-cause : goal.returns-then-len-bound-clause-cause
returns-then-len-bound-clause-cause c = (
  refl,
  are_more c.args.width (common c.args.table.now c.args.width) c.args.bound (all_sides c.in_ok-base.base.items) (all_sides c.sort_stems.new.base.items)
      c.in_ok-base.ensures c.in_ok-sort_stems.ensures.same c.in_ok-sort_stems.ensures.ordered
      (omega (arith, c.if-len-bound.true, c.len.ensures, length-map c.sort_stems.new.base.items sides_of)),
)

pub returns-clause-base : goal.returns-clause-base
returns-clause-base c =
    is_base c.args.width (common c.args.table.now c.args.width) c.args.bound (all_sides c.in_ok-base.base.items) (all_sides c.sort_stems.new.base.items)
    c.in_ok-base.ensures c.in_ok-sort_stems.ensures.same c.in_ok-sort_stems.ensures.ordered
    (omega (arith, c.if-len-bound.false, c.len.ensures, length-map c.sort_stems.new.base.items sides_of))
