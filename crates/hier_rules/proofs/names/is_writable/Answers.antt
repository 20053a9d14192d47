use Rattle.std.proofs.Common.{ap, ◌∙◌}
use Rattle.std.proofs.lemmas.Str.{encodes-chars}
use Rattle.kaba_base.specs.Words.{is_name}
use Rattle.kaba_base.proofs.Texts.{encodes-same}
use Rattle.hier_rules.proofs.names.is_writable.Goals as goal

pub returns : goal.returns
returns c = c.is_identifier.ensures.value ∙ ap is_name (encodes-same _ _ (encodes-chars _ c.as_str.utf8 ∙ c.as_str.ensures.value))
