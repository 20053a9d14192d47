use Rattle.std.proofs.Common.{◌∙◌, sym, ap}
use Rattle.std.specs.Str.{bytes_eq}
use Rattle.kaba_base.specs.Words.{key_text}
use Rattle.kaba_base.proofs.Texts.{first_that_skips}
use Rattle.kaba_base.proofs.words.+keyword_in.Goals as goal

pub returns-else-is_text : goal.returns-else-is_text
returns-else-is_text t c =
    first_that_skips (λ k. bytes_eq (key_text k) c.args.word.now) c.args.keys.now _ c.keyword_in.result c.in-len1-up.len_at_least
    (ap (λ text. bytes_eq text c.args.word.now) (sym (c.as_bytes.ensures.value ∙ c.text.ensures.value)) ∙ sym c.is_text.ensures ∙ c.if-is_text.false)
    c.keyword_in.ensures
