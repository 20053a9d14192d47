use Rattle.std.specs.Bool.{OnFalse}
use Rattle.std.specs.List.{AllWithin}
use Rattle.kaba_bits.specs.Sets.{IsStep}
use Rattle.table_rules.specs.Marks.{AreEntries}
use Rattle.table_rules.specs.Closed.{IsTieClosed}
use Rattle.table_rules.proofs.closing.pass_ties.Given as goal

abbrev pub invariant-loop-x : goal.invariant-loop-x
invariant-loop-x l = record {
  rows : AreEntries l.facts l.rows;
  step : IsStep l.fn.rows l.rows l.grew;
  closed : OnFalse l.grew (AllWithin (IsTieClosed l.rows) l.facts.ties.items 0 l.x-index);
}
