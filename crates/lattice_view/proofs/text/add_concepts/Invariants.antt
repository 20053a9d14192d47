use Rattle.std.proofs.Common.{◌≡◌, ◌++◌, drop, string_bytes}
use Rattle.lattice_view.specs.Text.{concepts_text}
use Rattle.lattice_view.proofs.text.add_concepts.Given as goal

-- with the lines that are left, it is the whole
abbrev pub invariant-loop-k : goal.invariant-loop-k
invariant-loop-k l = string_bytes l.text ++ concepts_text l.k (drop l.k l.concepts) ≡ string_bytes l.fn.text ++ concepts_text 0 l.concepts
