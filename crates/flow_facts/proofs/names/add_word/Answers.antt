use Rattle.std.proofs.Common.{◌++◌, ◌∷◌, [], cond, sym, ap, ◌∙◌}
use Rattle.std.proofs.lemmas.List.{append-nil}
use Rattle.std.specs.Str.{bytes_eq, encode_utf8_all}
use Rattle.fact_model.specs.Taken.{texts}
use Rattle.flow_facts.proofs.Passed.{on_ok}
use Rattle.flow_facts.proofs.Steps.{once_step}
use Rattle.flow_facts.proofs.names.add_word.Goals as goal

pub returns-then-made : goal.returns-then-made
returns-then-made c =
    let x = c.args.name.now in
    let old = c.args.words.now.items in
    record {
      value = on_ok c.add_name.result (λ h rest. once_step bytes_eq encode_utf8_all x _ _ old _ rest _ c.in-Ok.ensures.added c.in-Ok.ensures.keys
          (h ∙ sym (ap (λ b. old ++ cond b (x ∷ []) []) c.if-made.true))) c.add_name.ensures.value;
      names = on_ok c.add_name.result (λ h same. c.in-Ok.ensures.names
          ∙ ap (λ b. texts c.args.seen.now.keys ++ cond b (x ∷ []) []) c.if-made.true ∙ ap (λ l. l ++ x ∷ []) same ∙ sym h) c.add_name.ensures.value;
    }

pub returns : goal.returns
returns c =
    let x = c.args.name.now in
    let old = c.args.words.now.items in
    record {
      value = λ rest. once_step bytes_eq encode_utf8_all x _ _ old _ rest _ c.in-Ok.ensures.added c.in-Ok.ensures.keys
          (sym (append-nil old) ∙ sym (ap (λ b. old ++ cond b (x ∷ []) []) c.if-made.false));
      names = λ same. c.in-Ok.ensures.names ∙ ap (λ b. texts c.args.seen.now.keys ++ cond b (x ∷ []) []) c.if-made.false
          ∙ append-nil (texts c.args.seen.now.keys) ∙ same;
    }
