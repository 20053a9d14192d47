use Rattle.std.proofs.Common.{rules, length, sym, ◌∙◌}
use Rattle.java_core.specs.Programs.{program_of}
use Rattle.java_core.specs.Classes.{own_method, faces_above, first_found}
use Rattle.java_core.proofs.SearchOrder.{declaration_of-found, first-there, first-later}
use Rattle.java_core.proofs.classes.declaration_of.Goals as goal

pub returns-in-Some : goal.returns-in-Some
returns-in-Some c =
    let P = program_of c.args.p.now in
    record { value = first-there _ _ (declaration_of-found P c.args.class.0 c.args.name.now) c.nearest_of_name.ensures c.in-Some.is }

pub returns-in-None : goal.returns-in-None
returns-in-None c =
    let P = program_of c.args.p.now in
    let far = c.nearest_up.ensures (λ k. first_found (λ j. own_method P j c.args.name.now) (faces_above P (length P.classes) k)) (search rules) in
    record { value = far ∙ sym (first-later _ _ (declaration_of-found P c.args.class.0 c.args.name.now) c.nearest_of_name.ensures c.in-None.is) }
