use Rattle.std.proofs.Common.{◌≡◌, length}
use Rattle.edit_script.specs.Script.{words_in}
use Rattle.edit_script.proofs.words.Words.next.Given as goal

abbrev pub invariant-loop-word : goal.invariant-loop-word
invariant-loop-word l = words_in l.self.rest.now ≡ words_in l.initial.self.rest.now

abbrev pub decreases-loop-word : goal.decreases-loop-word
decreases-loop-word l = length l.self.rest.now
