use Rattle.std.proofs.Common.{rules, Bool, sym, ap, ◌∙◌}
use Rattle.java_core.specs.declared.Method.{Method}
use Rattle.java_core.specs.Programs.{program_of, method_seen}
use Rattle.java_core.specs.Own.{offers}
use Rattle.java_core.specs.Owned.{first_among}
use Rattle.java_core.proofs.Positions.{position-map}
use Rattle.java_core.proofs.own.offered_at.Goals as goal

pub returns : goal.returns
returns c =
    let P = program_of c.args.p.now in
    let p : Method → Bool = λ m. offers P c.args.class.0 c.args.name.now (method_seen m) in
    c.first_among.ensures.value p (search rules) ∙ ap (λ l. first_among p l c.methods_named.result.now) c.deref.ensures.value
    ∙ c.methods_named.ensures c.args.class.0
    ∙ sym (position-map method_seen (λ m. offers P c.args.class.0 c.args.name.now m) c.args.p.now.methods.items)
