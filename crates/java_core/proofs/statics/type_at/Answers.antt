use Rattle.std.proofs.Common.{◌≡◌, ℕ, List, Option, slice_get, map, refl, sym, ap, ◌∙◌}
use Rattle.std.specs.Option.{option_map}
use Rattle.std.proofs.lemmas.Option.{slice_get-map, slice_get_read, slice_get_past}
use Rattle.java_core.specs.declared.Local.{Local}
use Rattle.java_core.specs.declared.Ty.{Ty}
use Rattle.java_core.specs.Programs.{PlainLocal, local_seen}
use Rattle.java_core.specs.Types.{types_of}
use Rattle.java_core.proofs.statics.type_at.Goals as goal

abbrev seen : List Local → List PlainLocal
seen xs = map local_seen xs

abbrev typed : Option PlainLocal → Option Ty
typed o = option_map (λ (l : PlainLocal). l.ty) o

there : (xs : List Local) (i : ℕ) (o : Option Local) → o ≡ slice_get xs i → typed (option_map local_seen o) ≡ slice_get (types_of (seen xs)) i
there xs i o e =
    ap (λ o. typed (option_map local_seen o)) e ∙ ap typed (sym (slice_get-map local_seen xs i))
    ∙ sym (slice_get-map (λ (l : PlainLocal). l.ty) (seen xs) i)

pub returns-in-Some : goal.returns-in-Some
returns-in-Some c =
    let h = c.in-Some.ensures.lookup in
    record { value = there c.args.variables.now c.args.at _ (sym (slice_get_read c.args.variables.now _ c.args.at c.in-Some.variable.now refl h.3.0 h.1)) }

pub returns-in-None : goal.returns-in-None
returns-in-None c =
    record { value = there c.args.variables.now c.args.at _ (sym (slice_get_past c.args.variables.now c.args.at c.in-None.ensures.lookup.3)) }
