-- The sets of the facts cover each run of a typed and formed program.
use Rattle.std.proofs.Common.{◌≡◌, ℕ, Some, ap}
use Rattle.std.specs.Prelude.{slice_get, Contains}
use Rattle.std.specs.Option.{is_some}
use Rattle.java_core.specs.Programs.{Plain, PlainMethod}
use Rattle.java_core.specs.Typing.{IsTyped}
use Rattle.java_core.specs.Formed.{IsFormed}
use Rattle.fact_model.specs.declared.facts.Facts.{Facts}
use Rattle.flow_rules.specs.Parts.{Part, parts_of}
use Rattle.flow_rules.specs.Facts.{numbers, IsFactsOf}
use Rattle.flow_laws.specs.cover.Covers.{CoversEachRun}
use Rattle.flow_laws.specs.cover.Slotted.{HaveSlots}
use Rattle.flow_laws.proofs.cover.Kinded.{IsKindedPart, IsKinded}
use Rattle.flow_laws.proofs.cover.HasRows.{variable_point_of}
use Rattle.flow_laws.proofs.cover.Forms.{has_code, part_from}
use Rattle.flow_laws.proofs.cover.TypedBodies.{from_kind}
use Rattle.flow_laws.proofs.cover.Found.{is_below}
use Rattle.flow_laws.proofs.cover.Bodies.{finds_body}
use Rattle.flow_laws.proofs.cover.Cells.{field_has_cell, element_has_cell}
use Rattle.flow_laws.proofs.cover.Escapes.{kinded_covers}
use Rattle.flow_laws.proofs.cover.TypedParts.{TypedBody}

module _ (P : Plain) (F : Facts) (formed : IsFormed P) (typed : IsTyped P) (slots : HaveSlots P)
    (facts : IsFactsOf P F) where
  pub method_parts : (m : ℕ) (k : PlainMethod) → slice_get P.methods m ≡ Some k → (p : Part) → Contains (parts_of P m k) p → IsKindedPart P F m k p
  method_parts m k e p c =
      let B : TypedBody = record {
        program = P;
        facts = F;
        formed = formed;
        slots = slots;
        are_facts = facts;
        number = m;
        method = k;
        stands = e;
        bodied = ap is_some (has_code P m k p c).1;
      } in
      from_kind B p (part_from P formed typed m k e p c)

  pub all_kinded : IsKinded P F
  unfolding numbers
  all_kinded = record {
    parts = method_parts;
    variables = variable_point_of P formed;
    fields = field_has_cell P F formed facts;
    elements = element_has_cell P F formed facts;
    below = is_below P F facts;
    bodies = finds_body P F formed facts;
  }

  -- no run of a typed and formed program under the watch of sets that the inclusions of its facts close escapes
  pub typed_covers : CoversEachRun P F
  typed_covers = kinded_covers P F facts all_kinded
