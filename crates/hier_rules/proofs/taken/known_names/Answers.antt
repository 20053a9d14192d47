use Rattle.std.proofs.Common.{refl}
use Rattle.std.specs.Prelude.{codes}
use Rattle.hier_rules.proofs.NameLemmas.{seven_bits}
use Rattle.hier_rules.proofs.taken.known_names.Goals as goal

pub returns : goal.returns
returns c =
    simp (
      c.in_ok-push-3.ensures.items,
      c.in_ok-push-2.ensures.items,
      c.in_ok-push.ensures.items,
      c.new-names.ensures.items,
      c.in_ok-new.ensures.value,
      c.in_ok-new-2.ensures.value,
      c.in_ok-new-3.ensures.value,
      seven_bits (codes "Object") refl,
      seven_bits (codes "String") refl,
      seven_bits (codes "System") refl,
    )
