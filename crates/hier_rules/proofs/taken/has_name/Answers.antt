use Rattle.std.proofs.Common.{ap, ◌∙◌}
use Rattle.std.proofs.lemmas.Str.{encodes-chars}
use Rattle.kaba_base.proofs.Texts.{encodes-same}
use Rattle.fact_model.specs.FreeNames.{is_taken}
use Rattle.fact_model.specs.Taken.{texts}
use Rattle.fact_model.proofs.FreeLemmas.{taken_by}
use Rattle.hier_rules.proofs.taken.has_name.Goals as goal

pub returns : goal.returns
returns c =
    c.contains.ensures ∙ taken_by c.as_str.result.now c.as_str.utf8 c.args.set.now.keys
    ∙ ap (is_taken (texts c.args.set.now.keys)) (encodes-same _ _ (encodes-chars _ c.as_str.utf8 ∙ c.as_str.ensures.value))
