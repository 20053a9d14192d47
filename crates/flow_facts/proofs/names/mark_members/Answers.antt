-- The fields and the methods are marked.
use Rattle.std.proofs.Common.{◌≡◌, ◌<◌, Bool, true, false, List, [], ◌∷◌, length, get_or, map, refl, ap, ◌∙◌, arith}
use Rattle.std.specs.Prelude.{◌&&◌, ◌||◌, ◌==◌}
use Rattle.std.specs.List.{list_any}
use Rattle.java_core.specs.Programs.{PlainField, PlainMethod, field_seen, method_seen}
use Rattle.flow_facts.proofs.names.mark_members.Goals as goal

any_seen : {A B : Type 0} (v : A → B) (p : B → Bool) (xs : List A) → list_any (λ x. p (v x)) xs ≡ list_any p (map v xs)
any_seen v p [] = refl
any_seen v p (x ∷ xs) = ap (λ b. p (v x) || b) (any_seen v p xs)

both : (a b : Bool) {c d m n : Bool} → m ≡ (a || b) → n ≡ (m || c) → c ≡ d → n ≡ (a || (b || d))
both true b {c} e f g = f ∙ ap (λ x. x || c) e
both false b {c} e f g = f ∙ ap (λ x. x || c) e ∙ ap (λ x. b || x) g

pub returns : goal.returns
returns c = record {
  count = c.mark_all-2.ensures.count ∙ c.mark_all.ensures.count;
  value = λ i lt.
      let k : i < length c.mark_all.new.holders = omega (arith, lt, c.mark_all.ensures.count) in
      let was = get_or c.args.holders.now i false in
      let fields = c.args.program.now.fields.items in
      let methods = c.args.program.now.methods.items in
      let is_field : PlainField → Bool = λ f. f.is_static && (f.owner == i) in
      let is_method : PlainMethod → Bool = λ m. m.is_static && (m.owner == i) in
      both was (list_any is_field (map field_seen fields))
      (c.mark_all.ensures.value i lt ∙ ap (λ b. was || b) (any_seen field_seen is_field fields))
      (c.mark_all-2.ensures.value i k) (any_seen method_seen is_method methods);
}
