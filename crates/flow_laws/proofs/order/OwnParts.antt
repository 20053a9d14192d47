-- What the part of a form itself has: a label, where it gives something, and a number, where its row is its own.
use Rattle.std.proofs.Common.{◌≡◌, ℕ, [], ◌∷◌, Option, Some, None, refl, subst, arith}
use Rattle.std.specs.Prelude.{Bool, Contains}
use Rattle.std.specs.Option.{option_map}
use Rattle.kaba_base.specs.declared.Place.{Place}
use Rattle.java_core.specs.Trees.{Ex, own_field, field, index, call, static_call, super_call, create, create_array, cast, instance_of, binary, Target, no_target}
use Rattle.java_core.specs.Programs.{Plain, PlainMethod}
use Rattle.flow_rules.specs.declared.items.Operand.{Operand}
use Rattle.flow_rules.specs.declared.items.RowItem.{RowItem}
use Rattle.flow_rules.specs.declared.items.RowItem.TheVariants as row
use Rattle.flow_rules.specs.declared.items.PointItem.TheVariants as point
use Rattle.flow_rules.specs.Parts.{Part, a_creation, a_test}
use Rattle.flow_rules.proofs.Listed.{one_from}
use Rattle.flow_laws.proofs.cover.Numbers.{number_in}
use Rattle.flow_laws.proofs.cover.Forms.{own, own_assign, From, from_ex, from_assign, from_declare, from_return}
use Rattle.flow_laws.proofs.order.Points.{given_by}

-- a part that gives something gives it at a label of the method
abbrev pub HasLabel : ℕ → Option Operand → Type 0
HasLabel m None = Unit {0}
HasLabel m (Some o) = (l : ℕ) × (o.point ≡ Some (point.Expr m l))

-- the row of a creation is that of its number, and a cast and an `instanceof` have one of their own
abbrev pub HasNumber : Option RowItem → Type 0
HasNumber i = (n : ℕ) × (number_in i ≡ n ∷ [])

abbrev pub IsNumbered : Part → Type 0
IsNumbered (a_creation p u o s d es) = HasNumber o.row × (o.row ≡ option_map row.New o.created)
IsNumbered (a_test p e o) = HasNumber o.row
IsNumbered _ = Unit {0}

-- both
abbrev pub IsMade : ℕ → Part → Type 0
IsMade m p = HasLabel m (given_by p) × IsNumbered p

module _ (P : Plain) (m : ℕ) (k : PlainMethod) where
  is : (q p : Part) → Contains (q ∷ []) p → IsMade m q → IsMade m p
  is q p c n = subst (λ z. IsMade m z) (one_from q p c) n

  own_made : (u : Bool) (e : Ex) (p : Part) → Contains (own P m k u e) p → IsMade m p
  own_made u (own_field t f) p c = is _ p c ((t.label, refl), tt)
  own_made u (field t e x) p c = is _ p c ((t.label, refl), tt)
  own_made u (index t e i) p c = is _ p c ((t.label, refl), tt)
  own_made u (call t e x es) p c = is _ p c ((t.label, refl), tt)
  own_made u (static_call t d es) p c = is _ p c ((t.label, refl), tt)
  own_made u (super_call t x es) p c = is _ p c ((t.label, refl), tt)
  own_made u (create t n d es) p c = is _ p c ((t.label, refl), ((n, refl), refl))
  own_made u (create_array t n v e) p c = is _ p c ((t.label, refl), ((n, refl), refl))
  own_made u (cast t n v e) p c = is _ p c ((t.label, refl), (n, refl))
  own_made u (instance_of t n e d) p c = is _ p c ((t.label, refl), (n, refl))
  own_made u (binary t o e d) p c = is _ p c (tt, tt)
  own_made u e p c = absurd (omega (arith, c.1))

  assign_made : (w : Place) (t : Target) (e : Ex) (p : Part) → Contains (own_assign P m k w t e) p → IsMade m p
  assign_made w no_target e p c = is _ p c (tt, tt)
  assign_made w t e p c = is _ p c (tt, tt)

  pub from_made : (p : Part) → From P m k p → IsMade m p
  from_made p (from_ex u e a f w c) = own_made u e p c
  from_made p (from_assign t b e x a f d w c) = assign_made t.place b e p c
  from_made p (from_declare t i e a f w c) = is _ p c (tt, tt)
  from_made p (from_return e a r f w c) = is _ p c (tt, tt)
