use Rattle.std.proofs.Common.{◌≡◌, [], None, sym, ap, ◌∙◌, subst, slice_get}
use Rattle.std.specs.Option.{option_map, option_map_or}
use Rattle.std.specs.Str.{chars}
use Rattle.std.specs.Result.{IfOk}
use Rattle.std.proofs.lemmas.Option.{slice_get-map}
use Rattle.name_tables.specs.Known.{known_seen}
use Rattle.name_tables.proofs.names.Types.name_of.Goals as goal

-- no type, no name
pub returns-in-None : goal.returns-in-None
unfolding chars
returns-in-None c =
    let none : slice_get c.args.self.now c.args.class ≡ None = ap (λ z. slice_get z c.args.class) (sym c.self.view_is)
    ∙ slice_get-map known_seen c.self.inside.kinds.entries c.args.class
    ∙ ap (option_map known_seen) (sym c.get_index.ensures.entry ∙ ap (option_map _) c.in-None.is) in
    record { value = subst (λ x. IfOk c.new-in-None.result (λ name. name ≡ x)) (sym (ap (λ o. option_map_or (λ k. k.name) o []) none)) c.new-in-None.ensures.value }
