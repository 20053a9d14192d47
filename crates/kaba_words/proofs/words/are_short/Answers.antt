use Rattle.std.proofs.Common.{ap, arith, length, refl, string_bytes}
use Rattle.std.proofs.lemmas.Bool.{false≢true}
use Rattle.kaba_words.proofs.Numbers.{shorts, short_at}
use Rattle.kaba_words.proofs.words.are_short.Goals as goal

pub returns-then-as_str-gt2147483647 : goal.returns-then-as_str-gt2147483647
returns-then-as_str-gt2147483647 c = (
  (λ t. absurd (false≢true t)),
  (λ h. absurd (omega (
    arith,
    c.if-as_str-gt2147483647.true,
    short_at c.args.words.now c.loop-word.word-index c.word-item.result c.loop-word-test.true h,
    ap (λ word. length (string_bytes word)) c.word-item.is,
    ap length c.as_str.ensures.value,
  ))),
)

pub returns : goal.returns
returns c = ((λ t. shorts c.args.words.now (λ k d below. c.loop-word.invariant k d (omega (arith, below, c.loop-word-test.false)))), (λ h. refl))
