-- Mirror. Programs whose instance methods all have slots.
use Rattle.std.specs.Prelude.{◌≡◌, ℕ, Some, false, slice_get}
use Rattle.java_core.specs.Programs.{Plain, PlainMethod}

-- each instance method is of a slot
unfoldable pub HaveSlots : Plain → Type 0
HaveSlots P = (m : ℕ) (k : PlainMethod) → slice_get P.methods m ≡ Some k → k.is_static ≡ false → (s : ℕ) × (k.slot ≡ Some s)
