use Rattle.std.proofs.Common.{length}
use Rattle.kaba_base.proofs.words.+keyword_in.Given as goal

abbrev pub decreases-keyword_in : goal.decreases-keyword_in
decreases-keyword_in l = length l.keys.now
