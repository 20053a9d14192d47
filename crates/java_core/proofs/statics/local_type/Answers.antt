use Rattle.std.proofs.Common.{◌+◌, ◌-◌, ◌≡◌, ◌<◌, ℕ, List, Option, length, ap, arith, ◌∙◌}
use Rattle.java_core.specs.declared.Ty.{Ty}
use Rattle.java_core.specs.declared.Local.{Local}
use Rattle.std.specs.Prelude.{map, slice_get}
use Rattle.java_core.specs.Programs.{local_seen}
use Rattle.java_core.specs.Types.{types_of}
use Rattle.java_core.proofs.Locals.{type_of_param, type_of_local}
use Rattle.java_core.proofs.statics.local_type.Goals as goal

abbrev typed : List Local → ℕ → Option Ty
typed ls i = slice_get (types_of (map local_seen ls)) i

pub returns-then-at-count : goal.returns-then-at-count
returns-then-at-count c =
    let h : c.args.local < length c.args.code.now.params.now.items = omega arith in
    record { value = c.type_at.ensures.value ∙ ap (λ l. typed l c.args.local) c.deref.ensures.value ∙ type_of_param _ _ _ h }

pub returns-else-at-count : goal.returns-else-at-count
returns-else-at-count c =
    let j = c.args.local - c.len-count.result in
    let h : length c.args.code.now.params.now.items + j ≡ c.args.local = omega arith in
    record { value = c.type_at-else-at-count.ensures.value ∙ ap (λ l. typed l j) c.deref-else-at-count.ensures.value ∙ type_of_local _ _ _ _ h }
