-- Mirror. What each mark and each keyword is read as.
use Rattle.std.specs.Prelude.{◌≡◌, [], ◌∷◌, Ok}
use Rattle.kaba_base.specs.declared.Keyword.{Keyword}
use Rattle.kaba_base.specs.Words.{key_text}
use Rattle.java_lex.specs.declared.Mark.{Mark}
use Rattle.java_lex.specs.declared.TokenKind.TheVariants as kinds
use Rattle.java_lex.specs.Lexing.{tokens_of, token, start}
use Rattle.java_lex.specs.Spelling.{mark_text}

-- a text that is one mark as it is written has that mark as its only token
abbrev pub MarksAreRead : Type 0
MarksAreRead = (m : Mark) → tokens_of (mark_text m) ≡ Ok (token (kinds.Mark m) start ∷ [])

-- a text that is one keyword as it is written has that keyword as its only token
abbrev pub KeywordsAreRead : Type 0
KeywordsAreRead = (k : Keyword) → tokens_of (key_text k) ≡ Ok (token (kinds.Key k) start ∷ [])
