-- Constructors of classes that are one are one, by their names, and so are their slots.
use Rattle.std.proofs.Common.{ℕ, sym, ap, ◌∙◌, subst}
use Rattle.std.specs.Option.{option_and_then}
use Rattle.java_core.specs.Programs.{Plain, PlainClass}
use Rattle.java_core.specs.Classes.{own_method, slot_of_method}
use Rattle.java_core.specs.Makers.{maker_name, maker_of, maker_slot}
use Rattle.rebuild_model.specs.OnePrograms.{BothRelated}
use Rattle.rebuild_laws.proofs.one.Related.{then_both}
use Rattle.rebuild_laws.proofs.one.Found.{Ones, OneClass, class_pair, MethodPair, own_methods_both, SlotPair, method_slots}

module _ (K : Ones) where
  abbrev P : Plain
  P = K.first

  abbrev Q : Plain
  Q = K.second

  makers_both : (c d : ℕ) → OneClass K c d → BothRelated (MethodPair K) (maker_of P c) (maker_of Q d)
  makers_both c d o =
      let p = class_pair K c d o in
      subst (λ z. BothRelated (MethodPair K) z (maker_of Q d))
      (ap (option_and_then (λ (k : PlainClass). own_method P c (maker_name k.name))) (sym p.first_stands))
      (subst (λ z. BothRelated (MethodPair K) (own_method P c (maker_name p.first.name)) z)
      (ap (λ x. own_method Q d (maker_name x)) p.same.name
      ∙ ap (option_and_then (λ (k : PlainClass). own_method Q d (maker_name k.name))) (sym p.second_stands))
      (own_methods_both K (maker_name p.first.name) c d o))

  pub maker_slots : (c d : ℕ) → OneClass K c d → BothRelated (SlotPair K) (maker_slot P c) (maker_slot Q d)
  maker_slots c d o = then_both (slot_of_method P) (slot_of_method Q) (λ m n p. method_slots K m n p) (makers_both c d o)
