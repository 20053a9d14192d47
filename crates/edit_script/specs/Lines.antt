-- Mirror. The lines of a script that are left.
use Rattle.std.specs.Prelude.{ℕ, List, [], Option, Some, None}
use Rattle.std.specs.Borrow.{Bor}
use Rattle.edit_script.specs.Script.{lines_of}

-- the lines of the text that is left; where no text is left there are none
abbrev pub left : Option (Bor (List ℕ)) → List (List ℕ)
left None = []
left (Some bytes) = lines_of bytes.now
