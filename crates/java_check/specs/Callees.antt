-- Mirror. What a call calls, and its signature.
use Rattle.std.specs.Prelude.{[], None}
use Rattle.std.specs.Option.{unwrap_or}
use Rattle.java_core.specs.Programs.{Plain}
use Rattle.java_core.specs.Statics.{string_seen}
use Rattle.java_core.specs.Types.{Signature, signature_of_slot, signature_of_method, signature_of_string}
use Rattle.java_check.specs.declared.callees.Callee.{Callee}
use Rattle.java_check.specs.declared.callees.Callee.TheVariants.{Text, Slot, Method}

-- the signature; of what is not there, none
abbrev pub signature_of : Plain → Callee → Signature
signature_of P (Text m) = signature_of_string (string_seen m)
signature_of P (Slot s) = unwrap_or (signature_of_slot P s) (record { params = []; result = None })
signature_of P (Method m) = unwrap_or (signature_of_method P m.0) (record { params = []; result = None })
