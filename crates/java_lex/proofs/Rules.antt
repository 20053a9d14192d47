-- One rule for each class of first characters.
use Rattle.std.proofs.Common.{◌≡◌, ℕ, ◌==◌, true, false, List, ◌∷◌, drop, refl, codes}
use Rattle.std.specs.List.{take_while, prefix_len}
use Rattle.std.specs.Char.{is_ascii_digit}
use Rattle.java_lex.specs.declared.scan.Piece.TheVariants.{Gap}
use Rattle.java_lex.specs.Chars.{is_blank, in_line, is_front}
use Rattle.kaba_base.specs.Words.{is_start, is_part}
use Rattle.java_lex.specs.Spelling.{mark_of}
use Rattle.java_lex.specs.Piece.{piece_of, word_piece, number_in, more_digits, string_piece, quoted, char_piece, comment_piece, comment_end, mark_piece}

pub blank_rule : (c : ℕ) (cs : List ℕ) → is_blank c ≡ true → piece_of c cs ≡ Gap 0
unfolding piece_of
blank_rule c cs h = rw h refl

pub word_rule : (c : ℕ) (cs : List ℕ) → is_blank c ≡ false → is_start c ≡ true → piece_of c cs ≡ word_piece (c ∷ take_while is_part cs) (prefix_len is_part cs)
unfolding piece_of
word_rule c cs h k = rw (h, k) refl

pub number_rule : (c : ℕ) (cs : List ℕ) → is_blank c ≡ false → is_start c ≡ false → is_ascii_digit c ≡ true
    → piece_of c cs ≡ number_in (c ∷ cs) (more_digits c cs)
unfolding piece_of
number_rule c cs h k l = rw (h, k, l) refl

pub string_rule : (c : ℕ) (cs : List ℕ) → is_blank c ≡ false → is_start c ≡ false → is_ascii_digit c ≡ false → (c == 34) ≡ true
    → piece_of c cs ≡ string_piece (quoted cs)
unfolding piece_of
string_rule c cs h k l m = rw (h, k, l, m) refl

pub char_rule : (c : ℕ) (cs : List ℕ) → is_blank c ≡ false → is_start c ≡ false → is_ascii_digit c ≡ false → (c == 34) ≡ false → (c == 39) ≡ true
    → piece_of c cs ≡ char_piece cs
unfolding piece_of
char_rule c cs h k l m n = rw (h, k, l, m, n) refl

pub line_rule : (c : ℕ) (cs : List ℕ) → is_blank c ≡ false → is_start c ≡ false → is_ascii_digit c ≡ false → (c == 34) ≡ false → (c == 39) ≡ false
    → is_front (codes "//") (c ∷ cs) ≡ true → piece_of c cs ≡ Gap (prefix_len in_line cs)
unfolding piece_of
line_rule c cs h k l m n o = rw (h, k, l, m, n, o) refl

pub comment_rule : (c : ℕ) (cs : List ℕ) → is_blank c ≡ false → is_start c ≡ false → is_ascii_digit c ≡ false → (c == 34) ≡ false → (c == 39) ≡ false
    → is_front (codes "//") (c ∷ cs) ≡ false → is_front (codes "/*") (c ∷ cs) ≡ true → piece_of c cs ≡ comment_piece (comment_end (drop 1 cs))
unfolding piece_of
comment_rule c cs h k l m n o p = rw (h, k, l, m, n, o, p) refl

pub mark_rule : (c : ℕ) (cs : List ℕ) → is_blank c ≡ false → is_start c ≡ false → is_ascii_digit c ≡ false → (c == 34) ≡ false → (c == 39) ≡ false
    → is_front (codes "//") (c ∷ cs) ≡ false → is_front (codes "/*") (c ∷ cs) ≡ false → piece_of c cs ≡ mark_piece (mark_of (c ∷ cs))
unfolding piece_of
mark_rule c cs h k l m n o p = rw (h, k, l, m, n, o, p) refl

pub ruleset pieces = (blank_rule, word_rule, number_rule, string_rule, char_rule, line_rule, comment_rule, mark_rule)
