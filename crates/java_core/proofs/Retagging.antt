-- Tags do not matter to types.
use Rattle.std.proofs.Common.{◌≡◌, refl, ap, ap₂}
use Rattle.java_core.specs.Trees.{Ex}
use Rattle.java_core.specs.Programs.{Plain}
use Rattle.java_core.specs.Types.{Env, element_of, or_nothing, access_type, call_signature, result_of, binary_type, a_value, static}
use Rattle.java_core.specs.Retagged.{Retagged, s_field, s_index, s_call, s_binary}

-- the static type of an expression does not depend on its tags
pub static_same : (P : Plain) (g : Env) {e d : Ex} → Retagged e d → static P g e ≡ static P g d
static_same P g (s_field {x = x} h) = ap (λ z. or_nothing (access_type P z x)) (static_same P g h)
static_same P g (s_index h i) = ap (λ z. or_nothing (element_of z)) (static_same P g h)
static_same P g (s_call {x = x} h i) = ap (λ z. result_of (call_signature P z x)) (static_same P g h)
static_same P g (s_binary {o = o} h i) = ap₂ (λ y z. a_value (binary_type o y z)) (static_same P g h) (static_same P g i)
static_same P g _ = refl
