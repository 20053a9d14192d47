-- All of a constructor, and none of any other method.
use Rattle.std.proofs.Common.{[], ◌++◌, ◌∙◌, ap, cond, sym}
use Rattle.std.proofs.lemmas.List.{append-nil}
use Rattle.java_core.specs.Programs.{method_seen}
use Rattle.flow_rules.specs.Facts.{variable_names}
use Rattle.flow_facts.proofs.Passed.{on_ok}
use Rattle.flow_facts.proofs.names.add_maker.Goals as goal

pub returns-then-is_marked : goal.returns-then-is_marked
returns-then-is_marked c =
    let k = method_seen c.args.method.now in
    record {
      value = on_ok c.add_all_variables.result (λ h. h
          ∙ ap (λ b. c.args.names.now.items ++ cond b (variable_names k) []) (sym (sym c.is_marked.ensures.value ∙ c.if-is_marked.true)))
          c.add_all_variables.ensures.value;
    }

pub returns : goal.returns
returns c =
    let k = method_seen c.args.method.now in
    record {
      value = sym (append-nil c.args.names.now.items)
          ∙ ap (λ b. c.args.names.now.items ++ cond b (variable_names k) []) (sym (sym c.is_marked.ensures.value ∙ c.if-is_marked.false));
    }
