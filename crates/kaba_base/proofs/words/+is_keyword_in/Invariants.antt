use Rattle.std.proofs.Common.{length}
use Rattle.kaba_base.proofs.words.+is_keyword_in.Given as goal

abbrev pub decreases-is_keyword_in : goal.decreases-is_keyword_in
decreases-is_keyword_in l = length l.keys.now
