-- The family of shapes: each creation stands where the static types let it, and each cast and call has its spot.
use Rattle.std.specs.Prelude.{ℕ, ◌==◌, ◌&&◌, ◌||◌, not, Bool, true, false, Option, slice_get}
use Rattle.std.specs.Option.{option_map_or, is_some}
use Rattle.std.specs.List.{list_any}
use Rattle.kaba_base.specs.declared.Place.{Place}
use Rattle.java_core.specs.Trees.{Ex, call, cast}
use Rattle.java_core.specs.Programs.{Plain, PlainMethod}
use Rattle.java_core.specs.Types.{Static, or_nothing, env_of, class_in, field_type, static}
use Rattle.java_meaning.specs.Moment.{Spot, held, bound, self_of, result_of, set_static, kept, put_in, touched, tested, ran}
use Rattle.java_meaning.specs.Meaning.{is_number_type}
use Rattle.fact_model.specs.declared.facts.Facts.{Facts}
use Rattle.fact_model.specs.declared.facts.Spot.{Spot as FactSpot}
use Rattle.flow_rules.specs.Lists.{point_at, site_in}
use Rattle.flow_rules.specs.Facts.{numbers, is_marked}
use Rattle.flow_laws.specs.cover.Families.{Family}
use Rattle.flow_laws.specs.cover.Covers.{operand_at}
use Rattle.sure_report.specs.Report.{is_cast, is_call, test_at}
use Rattle.sure_laws.specs.Laws.{called_slot}
use Rattle.sure_laws.proofs.Shapes.{shape}

abbrev pub same_place : Place → Place → Bool
same_place p q = (p.at == q.at) && (p.line == q.line)

-- whether it is a cast to a type of numbers
abbrev pub is_number_cast : Ex → Bool
is_number_cast (cast t n u e) = is_number_type u.base u.dim
is_number_cast e = false

module _ (P : Plain) where
  -- whether a creation has a site
  abbrev pub sited : Option ℕ → Bool
  sited q = is_some (site_in (numbers P) q)

  -- whether it may stand where the method has a value of the type
  abbrev pub shaped : ℕ → (PlainMethod → Static) → Option ℕ → Bool
  shaped m f q = option_map_or (λ k. shape (f k) (sited q)) (slice_get P.methods m) true

module _ (P : Plain) (F : Facts) where
  -- the spot of a cast at a place, of this operand and to this class
  abbrev pub is_cast_spot : Place → ℕ → ℕ → FactSpot → Bool
  is_cast_spot p q c x = is_cast x.kind && (same_place x.place p && (((test_at F x.at).from == q) && ((test_at F x.at).class.0 == c)))

  -- the spot of a call at a place, on this receiver and of this slot
  abbrev pub is_call_spot : Place → ℕ → ℕ → FactSpot → Bool
  is_call_spot p q j x =
      is_call x.kind && (same_place x.place p && option_map_or (λ c. (c.receiver == q) && (c.slot == j)) (slice_get F.calls.items x.at) false)

  -- a cast to a class has its spot
  abbrev pub cast_there : ℕ → Ex → Bool
  cast_there m (cast t n u e) = is_number_type u.base u.dim || option_map_or (λ c. option_map_or (λ q. list_any (is_cast_spot t.place q c) F.spots.items)
      (point_at (numbers P) (operand_at P m e)) true) (class_in u.base u.dim) false
  cast_there m e = true

  -- a call through a receiver has its spot; that of a constructor needs none
  abbrev pub call_there : ℕ → Ex → Bool
  call_there m (call t e x es) = is_marked x || option_map_or (λ j. option_map_or (λ q. list_any (is_call_spot t.place q j) F.spots.items)
      (point_at (numbers P) (operand_at P m e)) true) (called_slot P m e x) false
  call_there m e = true

  abbrev pub shapes : Family
  shapes = record { value = λ m e q. shaped P m (λ k. static P (env_of m k) e) q; spot = spots }
    where
      spots : Spot → Option ℕ → Bool
      spots (held m e) q = true
      spots (bound m i) q = shaped P m (λ k. or_nothing (slice_get (env_of m k).locals i)) q
      spots (self_of m) q = sited P q
      spots (result_of m) q = shaped P m (λ k. or_nothing k.result) q
      spots (set_static f) q = shape (or_nothing (field_type P f)) (sited P q)
      spots (kept o f) q = shape (or_nothing (field_type P f)) (sited P q)
      spots (put_in o) q = not (sited P o) || sited P q
      spots (touched m e f) q = true
      spots (tested m d b) q = (sited P q || is_number_cast d) && cast_there m d
      spots (ran m d b) q = call_there m d
