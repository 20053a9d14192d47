use Rattle.std.proofs.Common.{◌≡◌, length, refl, ap, ◌∙◌}
use Rattle.kaba_bits.proofs.SetLemmas.{bit-below}
use Rattle.hier_model.specs.Hierarchies.{type_name}
use Rattle.hier_rules.specs.Names.{is_other_type, is_reserved, is_variable}
use Rattle.hier_rules.specs.Namesakes.{is_twice}
use Rattle.hier_rules.proofs.TakenLemmas.{other_twice}
use Rattle.hier_rules.proofs.names.is_taken_type.Goals as goal

pub returns : goal.returns
returns c =
    let F = c.args.asked.now.facts.now in
    let H = c.args.asked.now.hier.now in
    let n = c.args.n in
    let name = type_name H n in
    let e = c.type_name-name.ensures in
    let other : c.has_name-other.result ≡ is_other_type F H n name =
    c.has_name-other.ensures ∙ c.requires.taken.twice c.type_name-name.result.now ∙ ap (λ x. is_twice H x (length H.order.live)) e
    ∙ other_twice F H n (bit-below H.order.live n c.requires.node) c.requires.node in
    let reserved : c.has_name-reserved.result ≡ is_reserved F name =
    c.has_name-reserved.ensures ∙ c.requires.taken.reserved c.type_name-name.result.now ∙ ap (is_reserved F) e in
    let variable : c.has_name-variable.result ≡ is_variable F name =
    c.has_name-variable.ensures ∙ c.requires.taken.variables c.type_name-name.result.now ∙ ap (is_variable F) e in
    rw (other, reserved, variable) refl
