use Rattle.std.proofs.Common.{ℕ, None, Option, cond, [], ap, ◌∙◌}
use Rattle.std.specs.Option.{option_map_or}
use Rattle.std.specs.Str.{bytes_eq, encode_utf8_all}
use Rattle.std.specs.declared.vec.Vec.{Vec}
use Rattle.std.specs.declared.alloc.Global.{Global}
use Rattle.std.proofs.lemmas.Map.Text.{hash_map_updates_text}
use Rattle.kaba_base.proofs.Texts.{text_test}
use Rattle.indexmap.specs.IndexMap.{get_by_text}
use Rattle.name_tables.proofs.SpotLemmas.{found_items}
use Rattle.name_tables.proofs.spots.Spots.taken.Goals as goal

pub returns-in-Some-clause-rest : goal.returns-in-Some-clause-rest
returns-in-Some-clause-rest c = λ n.
    let old : Option (Vec ℕ Global) = get_by_text c.args.self.now.places (encode_utf8_all n) in
    ap (λ (o : Option (Vec ℕ Global)). option_map_or (λ v. v.items) o [])
    (hash_map_updates_text c.as_str.result.now c.args.self.now.places c.swap_remove.new.self None c.swap_remove.ensures.updates (encode_utf8_all n)
    ∙ ap (λ bs. cond (bytes_eq bs (encode_utf8_all n)) None old) c.as_str.ensures.value ∙ ap (λ b. cond b None old) (text_test c.args.name.now n))
    ∙ found_items (bytes_eq c.args.name.now n) None old
