use Rattle.std.proofs.Common.{ℕ, Some, Option, cond, [], ap, ◌∙◌}
use Rattle.std.specs.Prelude.{string_bytes}
use Rattle.std.specs.Option.{option_map_or}
use Rattle.std.specs.Str.{bytes_eq, encode_utf8_all}
use Rattle.std.specs.declared.vec.Vec.{Vec}
use Rattle.std.specs.declared.alloc.Global.{Global}
use Rattle.std.proofs.lemmas.Map.Text.{hash_map_updates_text}
use Rattle.std.proofs.lemmas.Slice.Eq.{bytes_eq-Decides}
use Rattle.kaba_base.proofs.Texts.{text_test}
use Rattle.indexmap.specs.IndexMap.{get_by_text}
use Rattle.name_tables.specs.Spots.{spots_of}
use Rattle.name_tables.proofs.SpotLemmas.{found_items, taken-put}
use Rattle.name_tables.proofs.spots.Spots.note.Goals as goal

pub returns : goal.returns
returns c = λ n.
    let b = bytes_eq c.args.name.now n in
    let list : Vec ℕ Global = c.push.new.self in
    let mid : Option (Vec ℕ Global) = get_by_text c.taken-list.new.self.places (encode_utf8_all n) in
    let put = ap (λ (o : Option (Vec ℕ Global)). option_map_or (λ v. v.items) o [])
    (hash_map_updates_text (string_bytes c.in_ok-text.text) c.taken-list.new.self.places c.insert.new.self (Some list) c.in_ok-insert.ensures.updates
    (encode_utf8_all n)
    ∙ ap (λ bs. cond (bytes_eq bs (encode_utf8_all n)) (Some list) mid) (c.in_ok-text.ensures.ok ∙ c.as_str.ensures.value)
    ∙ ap (λ z. cond z (Some list) mid) (text_test c.args.name.now n))
    ∙ found_items b (Some list) mid in
    taken-put b (spots_of c.args.self.now n) (spots_of c.taken-list.new.self n) _ c.args.number c.taken-list.result.items
    (λ e. c.taken-list.ensures.taken ∙ ap (spots_of c.args.self.now) ((bytes_eq-Decides c.args.name.now n).0 e)) (c.taken-list.ensures.rest n)
    (put ∙ ap (λ l. cond b l (spots_of c.taken-list.new.self n)) c.in_ok-push.ensures.items)
