use Rattle.std.proofs.Common.{sym, ◌∙◌, arith}
use Rattle.java_lex.proofs.Steps.{split_first, escape_step, raw_step}
use Rattle.java_lex.proofs.scan.string_body.Goals as goal

pub loop-rest-preserved-then-c-eq92 : goal.loop-rest-preserved-then-c-eq92
loop-rest-preserved-then-c-eq92 c =
    let first = split_first _ _ c.in-len1-up.len_at_least c.c-item.is in
    let second = split_first _ _ c.in-len1-up-after.len_at_least c.d-item.is in
    record {
      so_far = escape_step _ c.loop-rest.units.items c.loop-rest.at _ _ _ _ _ _ c.in_ok-push.ensures.items first second c.if-c-eq34.false
          (sym c.is_line_end.ensures ∙ c.if-is_line_end.false) c.if-c-eq92.true (sym c.in-Some.ensures)
          ∙ c.loop-rest.invariant.so_far;
      size = omega (arith, c.loop-rest.invariant.size);
    }

pub loop-rest-preserved : goal.loop-rest-preserved
loop-rest-preserved c =
    let first = split_first _ _ c.in-len1-up.len_at_least c.c-item.is in
    record {
      so_far = raw_step _ c.loop-rest.units.items c.loop-rest.at _ _ _ c.in_ok-push_units.ensures first c.if-c-eq34.false (sym c.is_line_end.ensures
          ∙ c.if-is_line_end.false) c.if-c-eq92.false
          ∙ c.loop-rest.invariant.so_far;
      size = omega (arith, c.loop-rest.invariant.size);
    }
