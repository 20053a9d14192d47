use Rattle.std.proofs.Common.{◌≡◌, ◌++◌, map, length}
use Rattle.std.specs.List.{All}
use Rattle.edit_script.specs.Script.{words_in, node_word, IsNode}
use Rattle.edit_script.proofs.edits.nodes.Given as goal

abbrev pub invariant-loop-word : goal.invariant-loop-word
invariant-loop-word l = (words_in l.initial.words.rest.now ≡ map node_word l.nodes.items ++ words_in l.words.rest.now) × All IsNode l.nodes.items

abbrev pub decreases-loop-word : goal.decreases-loop-word
decreases-loop-word l = length (words_in l.words.rest.now)
