-- Which method is found first in an outline does not depend on the tags.
use Rattle.std.proofs.Common.{◌≡◌, ℕ, zero, suc, List, [], ◌∷◌, ◌++◌, length, refl, sym, ◌∙◌}
use Rattle.std.specs.Option.{option_map_or}
use Rattle.std.specs.List.{flat_map}
use Rattle.std.proofs.lemmas.List.{length-map}
use Rattle.kaba_base.proofs.ListLemmas.{map_at, at_map}
use Rattle.java_core.specs.Programs.{Plain, PlainMethod}
use Rattle.java_core.specs.Classes.{faces_above, chain, search_order, first_found}
use Rattle.java_core.specs.Untagged.{untag_class, untag_method, untagged}
use Rattle.java_core.proofs.Positions.{position-map}
use Rattle.name_rules.specs.Meanings.{is_named_in, named_method, first_method, IsFirstMethod}
use Rattle.name_place_laws.proofs.Meanings.{parent-same, faces-same}

module _ (O : Plain) where
  abbrev B : Plain
  B = untagged O

  chain-same : (n c : ℕ) → chain B n c ≡ chain O n c
  chain-same zero c = refl
  chain-same (suc n) c = λ i. c ∷ option_map_or (λ p. chain-same n p.0 i) (parent-same O c i) []

  above-same : (n c : ℕ) → faces_above B n c ≡ faces_above O n c
  above-same zero c = refl
  above-same (suc n) c = λ i. flat_map (λ k. k.0 ∷ above-same n k.0 i) (faces-same O c i)

  order-same : (c : ℕ) → search_order B c ≡ search_order O c
  unfolding search_order
  order-same c =
      let many : length B.classes ≡ length O.classes = length-map O.classes untag_class in
      (λ i. chain B (many i) c ++ flat_map (λ k. faces_above B (many i) k) (chain B (many i) c))
      ∙ λ i. chain-same (length O.classes) c i ++ flat_map (λ k. above-same (length O.classes) k i) (chain-same (length O.classes) c i)

  named-same : (n : List ℕ) (c : ℕ) → named_method B c n ≡ named_method O c n
  named-same n c = position-map untag_method (λ k. is_named_in c n k) O.methods

  first-same : (c : ℕ) (n : List ℕ) → first_method B c n ≡ first_method O c n
  unfolding first_method
  first-same c n = λ i. first_found (λ k. named-same n k i) (order-same c i)

  pub first-method : {c m : ℕ} {n : List ℕ} {k : PlainMethod} → IsFirstMethod O c n m k → IsFirstMethod B c n m (untag_method k)
  first-method {c} {m} {n} {k} s = record { first = first-same c n ∙ s.first; stands = at_map untag_method O.methods m k s.stands }

  pub first-method-back : {c m : ℕ} {n : List ℕ} {k : PlainMethod} → IsFirstMethod B c n m k
      → (h : PlainMethod) × IsFirstMethod O c n m h × (untag_method h ≡ k)
  first-method-back {c} {m} {n} {k} s =
      let a = map_at untag_method O.methods m k s.stands in (a.0, record { first = sym (first-same c n) ∙ s.first; stands = a.1 }, a.2)
