use Rattle.std.proofs.Common.{◌≡◌, ◌++◌, drop, map, length, string_bytes}
use Rattle.java_heap.specs.Seen.{value_of}
use Rattle.java_meaning.specs.Meaning.{texts}
use Rattle.run_state.specs.Words.{units_of}
use Rattle.run_state.proofs.texts.add_words.Given as goal

abbrev pub invariant-loop-word : goal.invariant-loop-word
invariant-loop-word l = record {
  strings : l.heap.strings ++ map (λ w. units_of (string_bytes w)) (drop l.word-index l.words.items) ≡ map (λ w. units_of (string_bytes w)) l.words.items;
  many : length l.heap.strings ≡ l.word-index;
  cells : l.heap.cells ≡ l.initial.heap.cells;
  values : map value_of l.values.items ≡ texts 0 l.word-index;
}
