use Rattle.std.proofs.Common.{◌+◌, ap, arith, length}
use Rattle.edit_script.proofs.Cuts.{few_lines}
use Rattle.edit_script.proofs.Steps.{all_read}
use Rattle.edit_script.proofs.lines.read_script.Goals as goal

pub overflow_add-number : goal.overflow_add-number
overflow_add-number c = omega (arith, c.loop-line.invariant.0, ap length c.in-Some.ensures, few_lines c.args.bytes.now.items, c.requires.small)

pub returns-then-len-gt4096-clause-too_many : goal.returns-then-len-gt4096-clause-too_many
returns-then-len-gt4096-clause-too_many c = λ is. record {
  edits = c.loop-line.all.items;
  are = all_read c.args.bytes.now.items c.loop-line.all.items (c.loop-line.number + 1) _ c.loop-line.invariant.1 c.in_default.ensures;
  many = omega (arith, c.if-len-gt4096.true, c.len.ensures);
}

pub returns-clause-edits : goal.returns-clause-edits
returns-clause-edits c = all_read c.args.bytes.now.items c.loop-line.all.items (c.loop-line.number + 1) _ c.loop-line.invariant.1 c.in_default.ensures
