-- The characters of one piece are passed over, and one more token is read.
use Rattle.std.proofs.Common.{◌≡◌, ℕ, true, List, [], ◌∷◌, ◌++◌, length, Ok, Err, refl, ap, ◌∙◌}
use Rattle.kaba_base.specs.declared.Place.{Place}
use Rattle.java_lex.specs.declared.TokenKind.{TokenKind}
use Rattle.java_lex.specs.declared.scan.Piece.TheVariants.{Part}
use Rattle.java_lex.specs.Piece.{piece_of}
use Rattle.java_lex.specs.Chars.{is_blank}
use Rattle.java_lex.specs.Lexing.{LexOutcome, lexed, moved, past, led, token, from_piece}
use Rattle.java_lex.specs.Spells.{kinds_of, kinds_led, Spells}
use Rattle.java_lex.proofs.Rules.{blank_rule}

pub skipped : (xs ys : List ℕ) (p : Place) → lexed (xs ++ ys) (length xs) p ≡ lexed ys 0 (moved p xs)
skipped [] ys p = refl
skipped (x ∷ xs) ys p = skipped xs ys (past p x)

kinds_of-led : (k : TokenKind) (p : Place) (o : LexOutcome) → kinds_of (led (token k p ∷ []) o) ≡ kinds_led (k ∷ []) (kinds_of o)
kinds_of-led k p (Ok ts) = refl
kinds_of-led k p (Err f) = refl

pub ends : Spells [] []
ends = record { reads = λ p. refl }

pub one_more : (k : TokenKind) (x : ℕ) (xs rest : List ℕ) (ks : List TokenKind) → piece_of x (xs ++ rest) ≡ Part k (length xs) → Spells rest ks
    → Spells (x ∷ (xs ++ rest)) (k ∷ ks)
one_more k x xs rest ks e s = record {
  reads = λ p.
      ap (λ q. kinds_of (from_piece q p (x ∷ (xs ++ rest)) (λ n. lexed (xs ++ rest) n (past p x)))) e
      ∙ kinds_of-led k p (lexed (xs ++ rest) (length xs) (past p x))
      ∙ ap (λ o. kinds_led (k ∷ []) (kinds_of o)) (skipped xs rest (past p x))
      ∙ ap (kinds_led (k ∷ [])) (s.reads (moved (past p x) xs));
}

pub blank : (c : ℕ) (rest : List ℕ) (ks : List TokenKind) → is_blank c ≡ true → Spells rest ks → Spells (c ∷ rest) ks
blank c rest ks h s = record {
  reads = λ p.
      ap (λ q. kinds_of (from_piece q p (c ∷ rest) (λ n. lexed rest n (past p c)))) (blank_rule c rest h)
      ∙ s.reads (past p c);
}
