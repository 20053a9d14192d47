-- The spelling of a mark or of a keyword, read alone.
use Rattle.std.proofs.Common.{◌≡◌, ℕ, Bool, true, List, [], ◌∷◌, nat_lt, refl, ap, ◌∙◌}
use Rattle.std.proofs.lemmas.Bool.{and_parts, ltb-true}
use Rattle.std.specs.List.{list_all}
use Rattle.std.specs.Str.{IsAscii}
use Rattle.std.proofs.lemmas.Str.{IsUtf8-from_ascii, chars-IsAscii}
use Rattle.std.proofs.lemmas.Str.Ascii.{IsAscii-nil, IsAscii-cons}
use Rattle.unicode_ident.proofs.Computing.{unicode_ident}
use Rattle.kaba_base.specs.declared.Keyword.TheVariants as keys
use Rattle.kaba_base.specs.Words.{key_text}
use Rattle.java_lex.specs.declared.Mark.TheVariants as marks
use Rattle.java_lex.specs.Spelling.{mark_text}
use Rattle.java_lex.specs.Piece.{piece_of}
use Rattle.java_lex.specs.Lexing.{LexOutcome, lexed, start, tokens_of}
use Rattle.java_lex.specs.Laws.{MarksAreRead, KeywordsAreRead}
use Rattle.java_lex.proofs.Reading.{tokens_ok}

abbrev is_small : ℕ → Bool
is_small b = nat_lt b 128

small_ascii : (bs : List ℕ) → list_all is_small bs ≡ true → IsAscii bs
small_ascii [] h = IsAscii-nil
small_ascii (b ∷ bs) h = let q = and_parts (is_small b) (list_all is_small bs) h in IsAscii-cons b bs (ltb-true b 128 q.0) (small_ascii bs q.1)

-- an ASCII text is read character by character
ascii_read : (bs : List ℕ) (o : LexOutcome) → list_all is_small bs ≡ true → lexed bs 0 start ≡ o → tokens_of bs ≡ o
ascii_read bs o h e = let a = small_ascii bs h in tokens_ok bs (IsUtf8-from_ascii bs a) ∙ ap (λ cs. lexed cs 0 start) (chars-IsAscii bs a) ∙ e

pub marks_are_read : MarksAreRead
unfolding unicode_ident piece_of
marks_are_read marks.OpenRound = ascii_read (mark_text marks.OpenRound) _ refl refl
marks_are_read m = ascii_read (mark_text m) _ refl refl

pub keywords_are_read : KeywordsAreRead
unfolding unicode_ident piece_of key_text
keywords_are_read keys.Abstract = ascii_read (key_text keys.Abstract) _ refl refl
keywords_are_read k = ascii_read (key_text k) _ refl refl
