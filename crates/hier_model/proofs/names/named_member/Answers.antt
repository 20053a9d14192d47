use Rattle.std.proofs.Common.{◌++◌, ◌∷◌, sym, ap, ◌∙◌}
use Rattle.std.specs.Str.{encode_utf8_all}
use Rattle.fact_model.specs.Taken.{texts}
use Rattle.hier_model.proofs.NameLemmas.{named_shared}
use Rattle.hier_model.proofs.names.named_member.Goals as goal

pub returns-then-is_shared : goal.returns-then-is_shared
returns-then-is_shared c = λ given same.
    let k = c.column_at-column.result.now in
    named_shared c.args.facts.now given (texts c.args.taken.now.keys) c.args.c.0 k c.in_ok-base.base c.in_ok-name.name c.column_at-column.ensures
    (sym c.if-is_shared.ensures)
    (c.in_ok-base.ensures ∙ ap (λ x. x ++ 95 ∷ c.class_text-class.result.now) c.as_str.ensures.value
    ∙ ap (λ y. encode_utf8_all k.name ++ 95 ∷ y) c.class_text-class.ensures)
    same c.in_ok-name.ensures
