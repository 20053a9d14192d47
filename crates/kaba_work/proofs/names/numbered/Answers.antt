use Rattle.std.proofs.Common.{◌≡◌, ◌++◌, ◌∙◌, ap, arith}
use Rattle.std.specs.Fmt.{decimal}
use Rattle.std.specs.Str.{chars}
use Rattle.std.proofs.lemmas.Result.{IfOk-weaker}
use Rattle.kaba_work.proofs.Spelled.{numbered_spelled}
use Rattle.kaba_work.proofs.names.numbered.Goals as goal

pub returns : goal.returns
returns c =
    let letter = c.args.letter.now in
    let number = c.args.number in
    IfOk-weaker c.new.result _ (λ n. n ≡ letter ++ decimal number)
    (λ n h. h ∙ ap chars (c.as_str.ensures.value ∙ c.in_ok-text.ensures.ok) ∙ numbered_spelled letter number c.requires (omega (arith, c.ranges.number.fits)))
    c.new.ensures.value
