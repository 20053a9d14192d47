use Rattle.name_laws.specs.Tables.{own_method}
use Rattle.name_laws.specs.Expressions.{is_static_method}
use Rattle.name_bodies.specs.Views.{table_at}
use Rattle.name_bodies.proofs.MemberLemmas.{static_given}
use Rattle.name_bodies.proofs.meanings.static_method_of.Goals as goal

pub returns : goal.returns
returns c =
    let t = table_at c.args.within.now in
    static_given t c.args.class.now c.args.name.now c.args.place (λ k. own_method t k c.args.name.now) (is_static_method t) c.static_member.result
    c.in_ok-owner.ensures c.own_method-found.ensures c.static_method.ensures c.static_member.ensures
