use Rattle.std.proofs.Common.{◌≡◌, All, Some, None, map, get_or, sym, ap, ◌∙◌, subst, arith}
use Rattle.std.specs.Prelude.{IfSome}
use Rattle.std.specs.Option.{option_map}
use Rattle.std.specs.declared.vec.Vec.{Vec}
use Rattle.std.specs.declared.alloc.Global.{Global}
use Rattle.std.proofs.lemmas.List.{get_or-map, length-map}
use Rattle.kaba_base.specs.declared.NodeId.{NodeId}
use Rattle.kaba_base.specs.declared.ClassId.{ClassId}
use Rattle.fact_model.specs.InRange.{IsClass}
use Rattle.hier_model.specs.Edits.{all_there}
use Rattle.hier_model.proofs.LowestLemmas.{all_there_all}
use Rattle.hier_model.proofs.origins.merged_origin.Goals as goal

pub lowest-requires-clause-classes : goal.lowest-requires-clause-classes
lowest-requires-clause-classes c =
    let F = c.args.facts.now in
    let set = c.args.set.now in
    let f = λ (n : NodeId). get_or c.args.origins.now n.0 None in
    let there : all_there (map f set) ≡ Some c.in-Some.classes.items = sym c.in_ok-classes.ensures
    ∙ ap (option_map (λ (v : Vec ClassId Global). v.items)) c.in-Some.is in
    let all : All (IsClass F) c.in-Some.classes.items =
    all_there_all (IsClass F) (map f set) c.in-Some.classes.items there
    (λ i d lt.
    let at : get_or (map f set) i d ≡ f (get_or set i (record { 0 = 0 })) = get_or-map f set i (record { 0 = 0 }) d (omega (arith, lt, length-map set f)) in
    subst (λ o. IfSome o (IsClass F)) (sym at) (c.requires.classes i (record { 0 = 0 }) (omega (arith, lt, length-map set f)))) in
    subst (All (IsClass F)) (sym c.deref.ensures.value) all
