use Rattle.stem_base.proofs.Laws as laws
use Rattle.stem_base.proofs.Uniqueness as only
use Rattle.stem_base.proofs.stem_laws.Goals as goal

pub returns : goal.returns
returns c = record {
  closes = laws.closes_as_said;
  read = laws.reads_as_said;
  base = laws.are_a_base;
  follow = laws.all_follow;
  least = laws.none_shorter;
  one = only.one_base;
  apart = only.never_both;
}
