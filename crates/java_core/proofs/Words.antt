-- A name is a word where its bytes are the word's.
use Rattle.std.proofs.Common.{◌≡◌, ℕ, List, sym, ap, ◌∙◌}
use Rattle.std.specs.Str.{bytes_eq, encode_utf8_all}
use Rattle.std.proofs.lemmas.Slice.Eq.{bytes_eq-Decides}
use Rattle.kaba_base.proofs.TestLemmas.{same_truth}
use Rattle.kaba_base.proofs.Texts.{encodes-same}

pub is_word-same : (n w t s : List ℕ) → t ≡ encode_utf8_all n → encode_utf8_all w ≡ s → bytes_eq t s ≡ bytes_eq n w
is_word-same n w t s e k =
    same_truth (bytes_eq t s) (bytes_eq n w)
    (λ h. (bytes_eq-Decides n w).1 (encodes-same n w (sym e ∙ (bytes_eq-Decides t s).0 h ∙ sym k)))
    (λ h. (bytes_eq-Decides t s).1 (e ∙ ap encode_utf8_all ((bytes_eq-Decides n w).0 h) ∙ k))
