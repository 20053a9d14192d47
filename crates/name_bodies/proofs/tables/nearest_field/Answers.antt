use Rattle.std.proofs.Common.{ℕ, Option, sym, ap, ◌∙◌, subst}
use Rattle.java_core.specs.Nearest.{IsNearestBy}
use Rattle.name_laws.specs.Tables.{nearest_field, field_in, own_field}
use Rattle.name_bodies.specs.Views.{table_of}
use Rattle.name_bodies.proofs.Nearest.{nearest_own, nearest_told}
use Rattle.name_bodies.proofs.tables.nearest_field.Goals as goal

pub returns-then-is_some : goal.returns-then-is_some
unfolding nearest_field
returns-then-is_some c = nearest_own (table_of c.args.tables.now) c.args.name.now c.args.tables.now.parents.items c.args.class c.own_field-own.result
    (sym c.is_some.ensures ∙ c.if-is_some.true) c.own_field-own.ensures

pub returns-in-Some : goal.returns-in-Some
unfolding nearest_field
returns-in-Some c =
    let t = table_of c.args.tables.now in
    let n = c.args.name.now in
    let own : ℕ → Option ℕ = λ k. own_field t k n in
    c.widened.ensures
    ∙ nearest_told t n c.args.class c.own_field-own.result c.in-Some.at (sym c.is_some.ensures ∙ c.if-is_some.false) c.own_field-own.ensures
    (subst (λ ps. IsNearestBy ps own c.args.class c.in-Some.at) c.deref.ensures.value
    (c.in-Some.ensures own (λ k. ap (λ fs. field_in fs k n) c.deref-2.ensures.value)))
