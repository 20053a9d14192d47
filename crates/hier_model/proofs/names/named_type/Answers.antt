use Rattle.std.proofs.Common.{◌++◌, ◌∷◌, ap, ◌∙◌, arith}
use Rattle.std.specs.Str.{encode_utf8_all}
use Rattle.hier_model.specs.Names.{class_name, naming_class}
use Rattle.fact_model.specs.Taken.{texts}
use Rattle.hier_model.proofs.NameLemmas.{typed_name}
use Rattle.hier_model.proofs.names.named_type.Goals as goal

pub returns : goal.returns
returns c = λ given same.
    let F = c.args.facts.now in
    let class = class_name F (naming_class c.args.origin) in
    typed_name F given (texts c.args.taken.now.keys) class c.args.n c.in_ok-base.base c.in_ok-name.name (omega (arith, c.ranges.n.fits))
    (c.in_ok-base.ensures ∙ ap (λ x. x ++ 95 ∷ c.as_str.result.now) (c.class_text-class.ensures
    ∙ ap (λ k. encode_utf8_all (class_name F k)) c.naming_class.ensures)
    ∙ ap (λ y. encode_utf8_all class ++ 95 ∷ y) (c.as_str.ensures.value ∙ c.in_ok-number.ensures.ok))
    same c.in_ok-name.ensures
