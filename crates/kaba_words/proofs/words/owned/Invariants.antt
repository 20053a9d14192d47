use Rattle.std.proofs.Common.{◌≡◌, take}
use Rattle.kaba_words.specs.Commands.{texts}
use Rattle.kaba_words.proofs.words.owned.Given as goal

abbrev pub invariant-loop-word : goal.invariant-loop-word
invariant-loop-word l = texts l.all.items ≡ texts (take l.word-index l.words)
