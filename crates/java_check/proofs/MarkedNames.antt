-- The mark of a constructor's name, in its bytes and in its characters.
use Rattle.std.proofs.Common.{◌≡◌, ◌==◌, ◌<◌, ℕ, Bool, true, List, [], ◌∷◌, length, refl, sym, ap, ◌∙◌, slice_index_or, arith}
use Rattle.std.specs.Str.{encode_utf8_all}
use Rattle.std.proofs.lemmas.Bool.{eqb-true, eq-eqb}
use Rattle.std.proofs.lemmas.Str.{byte_from_char, char_from_byte}
use Rattle.kaba_base.proofs.TestLemmas.{same_truth}
use Rattle.java_check.specs.declared.Kind.TheVariants.{Arguments}
use Rattle.java_check.specs.Fails.{names_maker}
use Rattle.java_check.specs.Outcome.{none_called}

-- a text begins with the mark where its bytes do
pub by_first : (x : List ℕ) → (slice_index_or (encode_utf8_all x) 0 0 == 60) ≡ names_maker x
by_first [] = refl
by_first (c ∷ cs) = let bs = encode_utf8_all (c ∷ cs) in same_truth (slice_index_or bs 0 0 == 60) (c == 60)
    (λ h. let b = eqb-true (slice_index_or bs 0 0) 60 h in eq-eqb c 60 (char_from_byte bs (encode_utf8_all cs) c refl (omega (arith, b)) (filled bs b) ∙ b))
    (λ h. let b = eqb-true c 60 h in eq-eqb (slice_index_or bs 0 0) 60 (byte_from_char bs (encode_utf8_all cs) c refl (omega (arith, b)) ∙ b))
  where
    filled : (bs : List ℕ) → slice_index_or bs 0 0 ≡ 60 → 0 < length bs
    filled [] e = absurd (cc e)
    filled (b ∷ bs) e = omega arith

pub none_called-marked : {r : Bool} (x bs : List ℕ) → bs ≡ encode_utf8_all x → r ≡ (slice_index_or bs 0 0 == 60) → r ≡ true → Arguments ≡ none_called x
none_called-marked {r} x bs same told is =
    let h : names_maker x ≡ true = sym (by_first x) ∙ ap (λ b. slice_index_or b 0 0 == 60) (sym same) ∙ sym told ∙ is in rw h refl
