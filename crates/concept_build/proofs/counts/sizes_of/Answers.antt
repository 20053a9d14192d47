use Rattle.std.proofs.Common.{[], map, refl, ap, ◌∙◌, arith}
use Rattle.std.proofs.lemmas.List.{map-append, take_more, take_all}
use Rattle.kaba_bits.specs.Sets.{size}
use Rattle.concept_build.proofs.counts.sizes_of.Goals as goal

pub loop-r-preserved : goal.loop-r-preserved
loop-r-preserved c =
    rw (
      c.in_ok-push.ensures.items,
      c.loop-r.invariant,
      c.count.ensures,
      c.row_at.ensures,
      take_more c.args.sets.now c.loop-r.r [] (omega arith),
      map-append,
    ) refl

pub returns : goal.returns
returns c = c.loop-r.invariant ∙ ap (map size) (take_all c.loop-r.r c.args.sets.now (omega arith))
