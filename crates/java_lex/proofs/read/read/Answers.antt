use Rattle.std.proofs.Common.{◌+◌, ap, ◌∙◌, arith}
use Rattle.java_lex.specs.Piece.{reach}
use Rattle.java_lex.proofs.Reading.{width_split, piece_fits, cut_size, gap_cut, part_cut}
use Rattle.java_lex.proofs.read.read.Goals as goal

pub overflow_add-n : goal.overflow_add-n
overflow_add-n c = omega (arith, piece_fits _ _ _ c.requires (ap reach c.in-Gap.is) c.in_ok-n.ensures.within c.loop-rest.invariant.size)

pub moved-place-requires-clause-fits : goal.moved-place-requires-clause-fits
moved-place-requires-clause-fits c = omega (arith, c.requires, c.loop-rest.invariant.size, width_split (c.in-Gap.n + 1) c.loop-rest.rest.now)

pub overflow_add-rest : goal.overflow_add-rest
overflow_add-rest c = omega (arith, piece_fits _ _ _ c.requires (ap reach c.in-Gap.is) c.in_ok-n.ensures.within c.loop-rest.invariant.size)

pub offset_bounds-rest-n : goal.offset_bounds-rest-n
offset_bounds-rest-n c = omega (arith, piece_fits _ _ _ c.requires (ap reach c.in-Gap.is) c.in_ok-n.ensures.within c.loop-rest.invariant.size)

pub overflow_add-n-in-Part : goal.overflow_add-n-in-Part
overflow_add-n-in-Part c = omega (arith, piece_fits _ _ _ c.requires (ap reach c.in-Part.is) c.in_ok-n.ensures.within c.loop-rest.invariant.size)

pub moved-place-requires-in-Part-clause-fits : goal.moved-place-requires-in-Part-clause-fits
moved-place-requires-in-Part-clause-fits c = omega (arith, c.requires, c.loop-rest.invariant.size, width_split (c.in-Part.n + 1) c.loop-rest.rest.now)

pub overflow_add-rest-in-Part : goal.overflow_add-rest-in-Part
overflow_add-rest-in-Part c = omega (arith, piece_fits _ _ _ c.requires (ap reach c.in-Part.is) c.in_ok-n.ensures.within c.loop-rest.invariant.size)

pub offset_bounds-rest-n-in-Part : goal.offset_bounds-rest-n-in-Part
offset_bounds-rest-n-in-Part c = omega (arith, piece_fits _ _ _ c.requires (ap reach c.in-Part.is) c.in_ok-n.ensures.within c.loop-rest.invariant.size)

pub moved-requires-clause-fits : goal.moved-requires-clause-fits
moved-requires-clause-fits c = omega (arith, c.requires, c.loop-rest.invariant.size, width_split c.in-Fault.n c.loop-rest.rest.now)

pub loop-rest-preserved-in-Gap : goal.loop-rest-preserved-in-Gap
loop-rest-preserved-in-Gap c = record {
  so_far = gap_cut c.in-Gap.n c.loop-rest.place c.moved-place.result c.loop-rest.rest.now c.loop-rest.tokens.items c.in_ok-n.field-0 _
      c.moved-place.ensures.value c.in-Gap.is c.in_ok-n.ensures.value c.in_ok-n.ensures.within c.loop-rest.invariant.so_far;
  size = cut_size c.in-Gap.n c.loop-rest.place c.moved-place.result c.loop-rest.rest.now c.moved-place.ensures.at ∙ c.loop-rest.invariant.size;
  line = c.moved-place.ensures.line;
}

pub loop-rest-preserved : goal.loop-rest-preserved
loop-rest-preserved c = record {
  so_far = part_cut c.in-Part.n c.loop-rest.place c.moved-place-in-Part.result c.loop-rest.rest.now c.loop-rest.tokens.items _ c.in-Part.kind
      c.in_ok-n.field-0 _ c.in_ok-add-in-Part.ensures.added c.moved-place-in-Part.ensures.value c.in-Part.is c.in_ok-n.ensures.value
      c.in_ok-n.ensures.within c.loop-rest.invariant.so_far;
  size = cut_size c.in-Part.n c.loop-rest.place c.moved-place-in-Part.result c.loop-rest.rest.now c.moved-place-in-Part.ensures.at ∙ c.loop-rest.invariant.size;
  line = c.moved-place-in-Part.ensures.line;
}
