-- Believed. How the marks are written, and the table of them.
use Rattle.std.specs.Prelude.{◌≡◌, ℕ, ◌≤◌, true, List, [], ◌∷◌, Option, codes, length}
use Rattle.kaba_base.specs.Words.{first_that}
use Rattle.java_lex.specs.declared.Mark.{Mark}
use Rattle.java_lex.specs.declared.Mark.TheVariants as marks
use Rattle.java_lex.specs.declared.TheConstants.{MARKS}
use Rattle.java_lex.specs.Chars.{is_front}

-- how each mark is written
abbrev pub mark_text : Mark → List ℕ
mark_text marks.OpenRound = codes "("
mark_text marks.CloseRound = codes ")"
mark_text marks.OpenBrace = codes "{"
mark_text marks.CloseBrace = codes "}"
mark_text marks.OpenSquare = codes "["
mark_text marks.CloseSquare = codes "]"
mark_text marks.Semi = codes ";"
mark_text marks.Comma = codes ","
mark_text marks.Dot = codes "."
mark_text marks.Assign = codes "="
mark_text marks.Plus = codes "+"
mark_text marks.Minus = codes "-"
mark_text marks.Star = codes "*"
mark_text marks.Slash = codes "/"
mark_text marks.Percent = codes "%"
mark_text marks.ShiftLeft = codes "<<"
mark_text marks.ShiftRight = codes ">>"
mark_text marks.ShiftRightLogical = codes ">>>"
mark_text marks.And = codes "&"
mark_text marks.Or = codes "|"
mark_text marks.Xor = codes "^"
mark_text marks.Flip = codes "~"
mark_text marks.Bang = codes "!"
mark_text marks.Both = codes "&&"
mark_text marks.Either = codes "||"
mark_text marks.Equal = codes "=="
mark_text marks.NotEqual = codes "!="
mark_text marks.Less = codes "<"
mark_text marks.Greater = codes ">"
mark_text marks.AtMost = codes "<="
mark_text marks.AtLeast = codes ">="
mark_text marks.PlusAssign = codes "+="
mark_text marks.MinusAssign = codes "-="
mark_text marks.StarAssign = codes "*="
mark_text marks.SlashAssign = codes "/="
mark_text marks.PercentAssign = codes "%="
mark_text marks.PlusPlus = codes "++"
mark_text marks.MinusMinus = codes "--"

-- the longest mark that the text begins with: the table has the longer ones first
abbrev pub mark_of : List ℕ → Option Mark
mark_of cs = first_that (λ m. is_front (mark_text m) cs) MARKS

-- of these marks no longer one stands at the beginning of the text
abbrev pub NoneLonger : List ℕ → Mark → List Mark → Type 0
NoneLonger cs m [] = Unit {0}
NoneLonger cs m (n ∷ ns) = (is_front (mark_text n) cs ≡ true → length (mark_text n) ≤ length (mark_text m)) × NoneLonger cs m ns
