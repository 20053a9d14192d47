-- What a sink has taken, piece by piece.
use Rattle.std.proofs.Common.{◌≡◌, ℕ, ◌+◌, ◌-◌, List, ◌++◌, Option, Some, None, length, take, drop, ◌∙◌, sym, ap, append_assoc, take-add}
use Rattle.std.proofs.lemmas.List.{take_rest}
use Rattle.kaba_base.specs.Outside.{taken_more}

pub taken_on : (before now after : Option (List ℕ)) (bytes piece : List ℕ) (done n : ℕ) → now ≡ taken_more before (take done bytes)
    → piece ≡ take (length bytes - done) (drop done bytes) → after ≡ taken_more now (take n piece) → after ≡ taken_more before (take (done + n) bytes)
taken_on None now after bytes piece done n h p t = t ∙ ap (λ x. taken_more x (take n piece)) h
taken_on (Some b) now after bytes piece done n h p t =
    t ∙ ap (λ x. taken_more x (take n piece)) h
    ∙ ap Some (append_assoc b (take done bytes) (take n piece)
    ∙ ap (λ x. b ++ (take done bytes ++ take n x)) (p ∙ take_rest bytes done)
    ∙ ap (λ x. b ++ x) (sym (take-add done n bytes)))
