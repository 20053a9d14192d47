use Rattle.std.proofs.Common.{◌≡◌, ◌∙◌}
use Rattle.std.proofs.lemmas.Result.{IfOk-weaker}
use Rattle.kaba_work.proofs.Spelled.{word_spelled}
use Rattle.kaba_work.proofs.names.word.Goals as goal

pub returns : goal.returns
returns c = IfOk-weaker c.new.result _ (λ n. n ≡ c.args.text.now) (λ n h. h ∙ word_spelled c.args.text.now c.requires) c.new.ensures.value
