-- Believed. What a text begins with.
use Rattle.std.specs.Prelude.{ℕ, suc, ◌+◌, ◌-◌, Bool, true, ◌&&◌, ◌==◌, List, [], ◌∷◌, ◌++◌, length, take, drop, Option, Some, None, if◌then◌else◌, nat_lt, pos, codes}
use Rattle.std.specs.List.{take_while, prefix_len}
use Rattle.std.specs.Char.{is_ascii_digit}
use Rattle.std.specs.Char.Escape.{encode_utf16}
use Rattle.std.specs.Str.Parse.{digits_value_after}
use Rattle.kaba_base.specs.declared.Keyword.{Keyword}
use Rattle.java_lex.specs.declared.Mark.{Mark}
use Rattle.java_lex.specs.declared.TokenKind.{TokenKind}
use Rattle.java_lex.specs.declared.TokenKind.TheVariants as kinds
use Rattle.java_lex.specs.declared.scan.Piece.{Piece}
use Rattle.java_lex.specs.declared.scan.Piece.TheVariants.{Gap, Part, Fault}
use Rattle.java_lex.specs.declared.scan.FaultKind.TheVariants as faults
use Rattle.java_lex.specs.declared.scan.Quoted.{Quoted}
use Rattle.java_lex.specs.declared.scan.Quoted.TheVariants.{Closed, Open, Wrong}
use Rattle.java_lex.specs.Chars.{is_blank, is_line_end, in_line, is_front}
use Rattle.kaba_base.specs.Words.{is_start, is_part, next_is}
use Rattle.java_lex.specs.Spelling.{mark_of, mark_text}
use Rattle.kaba_base.specs.Words.{key_of}

-- `Gap n` and `Part k n` cover n characters after the first; `Fault f n` lies n characters after the first.

-- the kind of token that a word is: the keyword that is written so, or else a name
abbrev pub word_kind : List ℕ → Option Keyword → TokenKind
word_kind w (Some k) = kinds.Key k
word_kind w None = kinds.Word w

-- the token of the word w, of which n characters follow the first
abbrev pub word_piece : List ℕ → ℕ → Piece
word_piece w n = Part (word_kind w (key_of w)) n

-- a number, where it is not too big
abbrev pub capped : ℕ → Option ℕ
capped v = if nat_lt 2147483648 v then None else Some v

-- the kind of token that a number is; 2147483648 has a kind of its own, as it stands only behind a minus
abbrev pub number_kind : ℕ → TokenKind
number_kind v = if v == 2147483648 then kinds.Least else kinds.Int (pos v)

-- how many digits follow the first one, which is c
abbrev pub more_digits : ℕ → List ℕ → ℕ
more_digits c cs = if c == 48 then 0 else prefix_len is_ascii_digit cs

-- a number of the value v with n digits after the first one, which spoilt says whether it is stuck to something
abbrev pub number_piece : ℕ → ℕ → Bool → Piece
number_piece v n spoilt = if nat_lt 2147483648 v then Fault faults.BigLiteral 0 else if spoilt then Fault faults.BadByte (suc n) else Part (number_kind v) n

-- the number with n digits after the first one that the text begins with
abbrev pub number_in : List ℕ → ℕ → Piece
number_in all n = number_piece (digits_value_after 10 0 (take (n + 1) all)) n (next_is is_part (drop (n + 1) all))

-- the character that the letter of an escape stands for
abbrev pub escaped : ℕ → Option ℕ
escaped d = if d == 98 then Some 8 else if d == 116 then Some 9 else if d == 110 then Some 10 else if d == 102 then Some 12 else if d == 114 then Some 13
    else if d == 34 then Some 34 else if d == 39 then Some 39 else if d == 92 then Some 92 else None

-- what is read of a string, with these units and this number of characters before it
abbrev pub behind : List ℕ → ℕ → Quoted → Quoted
behind us n (Closed vs m) = Closed (us ++ vs) (n + m)
behind us n Open = Open
behind us n (Wrong m) = Wrong (n + m)

-- what follows a quote where an escape comes first: the character it stands for, if any, and what is behind it
abbrev pub behind_escape : Option ℕ → Quoted → Quoted
behind_escape (Some u) q = behind (u ∷ []) 2 q
behind_escape None q = Wrong 0

-- what follows an opening `"`, read to the closing one or to the end of the line
abbrev pub quoted : List ℕ → Quoted
quoted [] = Open
quoted (c ∷ []) = if c == 34 then Closed [] 1 else if is_line_end c then Open else if c == 92 then Wrong 0 else Open
quoted (c ∷ d ∷ cs) = if c == 34 then Closed [] 1 else if is_line_end c then Open
    else if c == 92 then behind_escape (escaped d) (quoted cs) else behind (encode_utf16 c) 1 (quoted (d ∷ cs))

-- the piece that a string literal is, by what follows its opening `"`
abbrev pub string_piece : Quoted → Piece
string_piece (Closed us n) = Part (kinds.Str us) n
string_piece Open = Fault faults.OpenString 0
string_piece (Wrong n) = Fault faults.BadByte (suc n)

-- the piece that a character literal with an escape is, by what that stands for and whether a `'` follows it
abbrev pub char_escape : Option ℕ → Bool → Piece
char_escape (Some u) true = Part (kinds.Char u) 3
char_escape _ _ = Fault faults.BadByte 0

-- the piece that a character literal is, by the characters behind its opening `'`
abbrev pub char_piece : List ℕ → Piece
char_piece (c ∷ d ∷ cs) = if (c == 39) then Fault faults.BadByte 0 else if is_line_end c then Fault faults.BadByte 0
    else if c == 92 then char_escape (escaped d) (is_front (codes "'") cs)
    else if (d == 39) && nat_lt c 65536 then Part (kinds.Char c) 2 else Fault faults.BadByte 0
char_piece _ = Fault faults.BadByte 0

-- a count that is one greater, where there is one
abbrev pub one_more : Option ℕ → Option ℕ
one_more None = None
one_more (Some n) = Some (suc n)

-- how many characters there are to the end of `*/`
abbrev pub comment_end : List ℕ → Option ℕ
comment_end [] = None
comment_end (c ∷ cs) = if is_front (codes "*/") (c ∷ cs) then Some 2 else one_more (comment_end cs)

-- the same count from n characters further back
abbrev pub on : ℕ → Option ℕ → Option ℕ
on n None = None
on n (Some m) = Some (n + m)

-- the piece that a `/*` comment is, by how many characters there are from behind it to the end of `*/`
abbrev pub comment_piece : Option ℕ → Piece
comment_piece None = Fault faults.OpenComment 0
comment_piece (Some n) = Gap (suc n)

-- the piece that a mark is; where the text begins with none, its first character is the fault
abbrev pub mark_piece : Option Mark → Piece
mark_piece None = Fault faults.BadByte 0
mark_piece (Some m) = Part (kinds.Mark m) (length (mark_text m) - 1)

-- what a text begins with whose first character is c and whose others are cs
unfoldable pub piece_of : ℕ → List ℕ → Piece
piece_of c cs = if is_blank c then Gap 0
    else if is_start c then word_piece (c ∷ take_while is_part cs) (prefix_len is_part cs)
    else if is_ascii_digit c then number_in (c ∷ cs) (more_digits c cs)
    else if c == 34 then string_piece (quoted cs)
    else if c == 39 then char_piece cs
    else if is_front (codes "//") (c ∷ cs) then Gap (prefix_len in_line cs)
    else if is_front (codes "/*") (c ∷ cs) then comment_piece (comment_end (drop 1 cs))
    else mark_piece (mark_of (c ∷ cs))

-- what a text begins with; nothing to be read where it is empty
abbrev pub piece_at : List ℕ → Piece
piece_at [] = Gap 0
piece_at (c ∷ cs) = piece_of c cs

-- how many characters after the first it reaches over
abbrev pub reach : Piece → ℕ
reach (Gap n) = n
reach (Part k n) = n
reach (Fault f n) = n

-- how many characters what follows a quote needs
abbrev pub quoted_reach : Quoted → ℕ
quoted_reach (Closed us n) = n
quoted_reach Open = 0
quoted_reach (Wrong n) = suc n
