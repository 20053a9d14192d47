use Rattle.std.proofs.Common.{inl, inr, arith, refl, sym, ◌∙◌}
use Rattle.std.proofs.lemmas.Bool.{false≢true}
use Rattle.std.proofs.lemmas.Slice.Eq.{bytes_eq-Decides}
use Rattle.kaba_words.proofs.Numbers.{never_number, not_number}
use Rattle.kaba_words.proofs.words.number.Goals as goal

pub returns-in-Err : goal.returns-in-Err
returns-in-Err c = λ n. never_number c.args.word.now c.args.limit n c.parse.result _ (omega arith) c.parse.ensures.value.0 c.in-Err.is

pub returns-then-n-limit : goal.returns-then-n-limit
returns-then-n-limit c = λ n. not_number c.args.word.now _ c.args.limit c.in-Ok.n n c.parse.result (omega arith) c.parse.ensures.value.0 c.in-Ok.is
    refl (inl (omega (arith, c.if-n-limit.true)))

pub returns : goal.returns
returns c = λ n. not_number c.args.word.now _ c.args.limit c.in-Ok.n n c.parse.result (omega arith) c.parse.ensures.value.0 c.in-Ok.is
    c.in_ok-written-in-Ok.ensures.ok
    (inr (λ e. false≢true (sym c.if-eq.false ∙ c.eq.ensures ∙ (bytes_eq-Decides c.as_str.result.now c.args.word.now).1 (c.as_str.ensures.value ∙ e))))
