-- The parts begin with none.
use Rattle.std.proofs.Common.{◌++◌, length, ap, ◌∙◌}
use Rattle.std.specs.Option.{option_copied}
use Rattle.java_core.specs.Trees.{body_seen, stmts}
use Rattle.java_core.specs.Programs.{program_of, code_seen}
use Rattle.flow_rules.specs.Labels.{label_sts}
use Rattle.flow_rules.specs.Parts.{parts_sts}
use Rattle.flow_rules.specs.Types.{object_type}
use Rattle.flow_facts.specs.Views.{parts_seen}
use Rattle.flow_rules.proofs.TypeLemmas.{parts_of_some, parts_of_none}
use Rattle.flow_facts.proofs.bodies.parts_of.Goals as goal

pub returns-in-Ok : goal.returns-in-Ok
returns-in-Ok c =
    let P = program_of c.args.of.now.program.now in
    let K = code_seen c.args.of.now.code in
    let xs = stmts c.in-Some.body.now.items in
    let all = c.in-Ok.ensures.parts ∙ ap (λ l. parts_seen l ++ parts_sts P (object_type P K) c.args.of.now.number K (label_sts (length l) xs))
    c.new-parts.ensures.items in
    record { value = parts_of_some P c.args.of.now.number K xs _ (ap (λ o. body_seen (option_copied o)) c.in-Some.is) all }

pub returns-in-None : goal.returns-in-None
returns-in-None c =
    record {
      value = ap parts_seen c.new-parts.ensures.items ∙ parts_of_none (program_of c.args.of.now.program.now) c.args.of.now.number
          (code_seen c.args.of.now.code) (ap (λ o. body_seen (option_copied o)) c.in-None.is);
    }
