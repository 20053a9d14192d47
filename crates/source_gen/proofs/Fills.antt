-- What the slots of a node are filled in with, slot by slot, and then class by class.
use Rattle.std.proofs.Common.{◌≡◌, ℕ, ◌+◌, Bool, true, false, List, [], ◌∷◌, ◌++◌, Option, Some, None, refl, ap₂, ◌∙◌}
use Rattle.std.specs.Prelude.{not}
use Rattle.std.specs.Option.{option_map_or}
use Rattle.std.specs.List.{flat_map}
use Rattle.std.proofs.lemmas.Grind.{flat_map-append}
use Rattle.std.proofs.lemmas.List.{append-nil}
use Rattle.java_core.specs.Makers.{maker_slot}
use Rattle.java_core.specs.Programs.{PlainClass, PlainSlot}
use Rattle.flow_rules.specs.Ordered.{each, when}
use Rattle.flow_rules.specs.Facts.{is_marked}
use Rattle.write_model.specs.Members.{filled_slots}
use Rattle.write_forms.specs.Sources.{old_program}
use Rattle.source_gen.specs.declared.parts.Nodes.{Nodes}
use Rattle.source_gen.specs.Fills.{filled_in, plain_fill, maker_fill}

each_flat : {A B : Type 0} (f : ℕ → List B) (g : ℕ → A → List ℕ) (h : ℕ → A → List B) → ((i : ℕ) (x : A) → flat_map f (g i x) ≡ h i x)
    → (i : ℕ) (xs : List A) → flat_map f (each g i xs) ≡ each h i xs
each_flat f g h e i [] = refl
each_flat f g h e i (x ∷ xs) = flat_map-append f (g i x) (each g (i + 1) xs) ∙ ap₂ (λ a b. a ++ b) (e i x) (each_flat f g h e (i + 1) xs)

of_when : {B : Type 0} (f : ℕ → List B) (b : Bool) (x : ℕ) → flat_map f (when b (x ∷ [])) ≡ when b (f x)
of_when f true x = append-nil (f x)
of_when f false x = refl

of_option : {B : Type 0} (f : ℕ → List B) (o : Option ℕ) → flat_map f (option_map_or (λ x. x ∷ []) o []) ≡ option_map_or f o []
of_option f None = refl
of_option f (Some x) = append-nil (f x)

pub all_filled : (nodes : Nodes) (n : ℕ) → flat_map (filled_in nodes n) (filled_slots (old_program nodes.source))
    ≡ each (plain_fill nodes n) 0 (old_program nodes.source).slots ++ each (λ c k. maker_fill nodes n c) 0 (old_program nodes.source).classes
all_filled nodes n =
    let P = old_program nodes.source in
    let f = filled_in nodes n in
    let plain : ℕ → PlainSlot → List ℕ = λ x s. when (not (is_marked s.name)) (x ∷ []) in
    let makers : ℕ → PlainClass → List ℕ = λ c k. option_map_or (λ x. x ∷ []) (maker_slot P c) [] in
    flat_map-append f (each plain 0 P.slots) (each makers 0 P.classes)
    ∙ ap₂ (λ a b. a ++ b)
    (each_flat f plain (plain_fill nodes n) (λ x s. of_when f (not (is_marked s.name)) x) 0 P.slots)
    (each_flat f makers (λ c k. maker_fill nodes n c) (λ c k. of_option f (maker_slot P c)) 0 P.classes)
