-- A line more of a script.
use Rattle.std.proofs.Common.{◌≡◌, ◌++◌, [], ℕ, List, subst, sym, append-nil}
use Rattle.edit_script.specs.declared.lines.Line.{Line}
use Rattle.edit_script.specs.Script.{AreEditsFrom, AreEditsOf}

-- where no line is left, all edits are read
pub all_read : (bytes : List ℕ) (all : List Line) (k : ℕ) (lines : List (List ℕ))
    → ((more : List Line) → AreEditsFrom k lines more → AreEditsOf bytes (all ++ more)) → lines ≡ [] → AreEditsOf bytes all
all_read bytes all k lines h none = subst (AreEditsOf bytes) (append-nil all) (h [] (subst (λ ls. AreEditsFrom k ls []) (sym none) tt))
