use Rattle.std.proofs.lemmas.Slice.Eq.{bytes_eq-Decides}
use Rattle.kaba_base.proofs.TestLemmas.{same_truth}
use Rattle.hier_rules.proofs.names.is_same.Goals as goal

pub returns : goal.returns
returns c =
    let a = c.args.a.now in
    let b = c.args.b.now in
    same_truth _ _ (λ h. (bytes_eq-Decides a b).1 (c.same.ensures.value.0 h)) (λ h. c.same.ensures.value.1 ((bytes_eq-Decides a b).0 h))
