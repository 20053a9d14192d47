-- The fields so far have their places, and the layout is that of its class.
use Rattle.std.proofs.Common.{◌≡◌, ℕ, ◌<◌, length, slice_get, Some}
use Rattle.java_core.specs.Programs.{program_of}
use Rattle.java_meaning.specs.Languages.{layout}
use Rattle.run_code.specs.Code.{place_of}
use Rattle.run_compile.proofs.places.places.Given as goal

abbrev pub invariant-loop-i : goal.invariant-loop-i
invariant-loop-i l = record {
  kept : l.last.fields.items ≡ layout (program_of l.p) l.last.class.0;
  counted : length l.places.items ≡ l.i;
  placed : (f : ℕ) → f < l.i → slice_get l.places.items f ≡ Some (place_of (program_of l.p) f);
}
