-- The mark of a constructor's name, in its bytes and in its characters.
use Rattle.std.proofs.Common.{◌≡◌, ◌==◌, ◌<◌, ℕ, List, [], ◌∷◌, length, refl, ◌∙◌, slice_index_or, arith}
use Rattle.std.specs.Prelude.{Some, slice_get}
use Rattle.std.specs.Str.{encode_utf8_all}
use Rattle.std.proofs.lemmas.Bool.{eqb-true, eq-eqb}
use Rattle.std.proofs.lemmas.Str.{byte_from_char, char_from_byte}
use Rattle.kaba_base.proofs.TestLemmas.{same_truth}
use Rattle.java_core.specs.Programs.{Plain}
use Rattle.java_core.specs.Plain.{PlainSlot}
use Rattle.flow_rules.specs.Spots.{is_maker_slot}

-- a slot is a constructor's where the first byte of its name is the mark
pub marked : (P : Plain) (s : ℕ) (z : PlainSlot) (x : List ℕ) → slice_get P.slots s ≡ Some z → z.name ≡ x
    → (slice_index_or (encode_utf8_all x) 0 0 == 60) ≡ is_maker_slot P (Some s)
marked P s z [] is n = rw is (rw n refl)
marked P s z (c ∷ cs) is n =
    let bs = encode_utf8_all (c ∷ cs) in
    rw is (rw n (same_truth (slice_index_or bs 0 0 == 60) (c == 60)
    (λ h. let b = eqb-true (slice_index_or bs 0 0) 60 h in eq-eqb c 60 (char_from_byte bs (encode_utf8_all cs) c refl (omega (arith, b)) (filled bs b) ∙ b))
    (λ h. let b = eqb-true c 60 h in eq-eqb (slice_index_or bs 0 0) 60 (byte_from_char bs (encode_utf8_all cs) c refl (omega (arith, b)) ∙ b))))
  where
    filled : (bs : List ℕ) → slice_index_or bs 0 0 ≡ 60 → 0 < length bs
    filled [] e = absurd (cc e)
    filled (b ∷ bs) e = omega arith
