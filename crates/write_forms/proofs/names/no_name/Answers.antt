use Rattle.std.proofs.Common.{◌∙◌, ◌≡◌, []}
use Rattle.std.proofs.lemmas.Result.{IfOk-weaker}
use Rattle.std.proofs.lemmas.Str.{chars-nil}
use Rattle.write_forms.proofs.names.no_name.Goals as goal

pub returns : goal.returns
returns c = IfOk-weaker c.new.result _ (λ n. n ≡ []) (λ n h. h ∙ chars-nil) c.new.ensures.value
