-- The slot's name begins with the mark.
use Rattle.std.proofs.Common.{refl, sym, ap, ◌∙◌, slice_index_or, ◌==◌, arith}
use Rattle.std.specs.Option.{option_map}
use Rattle.java_core.specs.Programs.{program_of, slot_seen}
use Rattle.flow_facts.proofs.MarkedSlots.{marked}
use Rattle.flow_facts.proofs.spots.is_maker_slot.Goals as goal

pub returns-in-Some : goal.returns-in-Some
returns-in-Some c = record {
  value = c.starts_with.ensures.byte (omega arith) (omega arith) (λ w o h. h)
      ∙ ap (λ b. slice_index_or b 0 0 == 60) c.as_str.ensures.value
      ∙ marked (program_of c.args.program.now) c.args.slot _ _
      (sym c.slot_by_number.ensures.value ∙ ap (option_map (λ k. slot_seen k.now)) c.in-Some.is) refl;
}
