-- The operand at an expression of a body is that of its method.
use Rattle.std.proofs.Common.{◌≡◌, ℕ, Some, None, sym, ap, ◌∙◌, subst}
use Rattle.std.specs.Prelude.{slice_get, Contains}
use Rattle.std.specs.Option.{option_map_or}
use Rattle.java_core.specs.Trees.{Ex}
use Rattle.java_core.specs.Programs.{Plain, PlainMethod}
use Rattle.flow_rules.specs.declared.items.Operand.{Operand}
use Rattle.flow_rules.specs.Operands.{operand_of, type_in}
use Rattle.flow_rules.specs.Parts.{Part, nothing, parts_of}
use Rattle.flow_laws.specs.cover.Covers.{operand_at}

module _ (P : Plain) (m : ℕ) (k : PlainMethod) (stands : slice_get P.methods m ≡ Some k) where
  abbrev seen : Ex → Operand
  seen e = operand_of P (type_in P m k) m k e

  abbrev at : Ex → Operand
  at e = operand_at P m e

  pub at_seen : (e : Ex) → at e ≡ seen e
  unfolding operand_at
  at_seen e = ap (λ z. option_map_or (λ k. operand_of P (type_in P m k) m k e) z nothing) stands

  -- a part that stands, of the operands at its expressions
  pub part_at : (f : Operand → Operand → Part) (e d : Ex) → Contains (parts_of P m k) (f (seen e) (seen d)) → Contains (parts_of P m k) (f (at e) (at d))
  part_at f e d c = subst (λ z. Contains (parts_of P m k) (f z (at d))) (sym (at_seen e)) (subst (λ z. Contains (parts_of P m k) (f (seen e) z))
      (sym (at_seen d)) c)

  pub plain : (e : Ex) → (seen e).created ≡ None → (at e).created ≡ None
  plain e c = ap (λ z. z.created) (at_seen e) ∙ c
