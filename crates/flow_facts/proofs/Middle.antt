-- A part put in the middle of a list.
use Rattle.std.proofs.Common.{◌≡◌, ℕ, List, ◌∷◌, ◌++◌, length, set, sym, ap, ◌∙◌}
use Rattle.std.proofs.Math.Seq.{set-append_seam}
use Rattle.std.proofs.lemmas.List.{map-set}
use Rattle.flow_rules.specs.declared.items.Part.{Part}
use Rattle.flow_rules.specs.Parts as plain
use Rattle.flow_facts.specs.Views.{part_seen, parts_seen}

pub set_seen : (ps : List Part) (at : ℕ) (p : Part) (xs ys : List plain.Part) (q : plain.Part) → length xs ≡ at → parts_seen ps ≡ xs ++ q ∷ ys
    → parts_seen (set ps at p) ≡ xs ++ part_seen p ∷ ys
set_seen ps at p xs ys q n e =
    map-set part_seen ps at p ∙ ap (λ l. set l at (part_seen p)) e ∙ ap (λ k. set (xs ++ q ∷ ys) k (part_seen p)) (sym n)
    ∙ set-append_seam xs q ys (part_seen p)
