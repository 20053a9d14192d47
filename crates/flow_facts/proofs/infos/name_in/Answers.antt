use Rattle.std.proofs.Common.{◌≡◌, [], ◌∙◌}
use Rattle.std.proofs.lemmas.Result.{IfOk-weaker}
use Rattle.std.specs.Str.{chars}
use Rattle.std.proofs.lemmas.Str.{chars-nil}
use Rattle.java_core.specs.Programs.{program_of}
use Rattle.flow_rules.specs.Facts.{name_in}
use Rattle.flow_facts.proofs.infos.name_in.Goals as goal

pub returns-in-None : goal.returns-in-None
returns-in-None c =
    record {
      value = IfOk-weaker c.new.result (λ x. x ≡ chars []) (λ x. x ≡ name_in (program_of c.args.program.now) c.args.item) (λ x h. h
          ∙ chars-nil ∙ c.in-None.ensures.value) c.new.ensures.value;
    }
