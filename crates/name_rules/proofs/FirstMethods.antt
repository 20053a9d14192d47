-- The method that is found first under a name is one of the class or of its ancestors.
use Rattle.std.proofs.Common.{◌≡◌, ℕ, zero, suc, ⊎_elim, List, [], ◌∷◌, length, Option, Some, None, Contains, refl, sym, ap, ◌∙◌, subst}
use Rattle.std.specs.Prelude.{slice_get, ◌==◌}
use Rattle.std.specs.Option.{option_map_or, option_to_list}
use Rattle.std.specs.List.{flat_map}
use Rattle.std.specs.Str.{bytes_eq}
use Rattle.std.proofs.lemmas.Bool.{and_parts, eqb-true}
use Rattle.std.proofs.lemmas.List.Elements.{Contains-append_right, Contains-append_cases}
use Rattle.std.proofs.lemmas.Option.{same_Some}
use Rattle.std.proofs.lemmas.Slice.Eq.{bytes_eq-Decides}
use Rattle.kaba_base.specs.declared.ClassId.{ClassId}
use Rattle.kaba_base.proofs.ListLemmas.{first, later, one_from, contains_cases, no-member, flat_from}
use Rattle.java_core.specs.Programs.{Plain, PlainMethod}
use Rattle.java_core.specs.Classes.{parent_of, faces_of, IsSubclass, same_class, through, first_or, faces_above, chain, search_order, first_found}
use Rattle.java_core.proofs.Positions.{position-passes}
use Rattle.java_core.proofs.Subclasses.{subclass-then, parent-super}
use Rattle.name_rules.specs.Meanings.{IsMet, is_named_in, named_method, first_method, IsFirstMethod}

-- what is found first is what one of the classes has
found-at : (f : ℕ → Option ℕ) (cs : List ℕ) (m : ℕ) → first_found f cs ≡ Some m → (c : ℕ) × Contains cs c × (f c ≡ Some m)
found-at f [] m e = absurd (cc e)
found-at f (c ∷ cs) m e = go (found-at f cs m) (f c) refl e
  where
    go : (first_found f cs ≡ Some m → (d : ℕ) × Contains cs d × (f d ≡ Some m)) → (o : Option ℕ) → f c ≡ o → first_or o (first_found f cs) ≡ Some m
        → (d : ℕ) × Contains (c ∷ cs) d × (f d ≡ Some m)
    go more (Some l) h g = (c, first c cs, h ∙ g)
    go more None h g = let r = more g in (r.0, later c cs r.0 r.1, r.2)

module _ (P : Plain) where
  -- ---- what is searched stands at or above the class

  chain-above : (n c x : ℕ) → Contains (chain P n c) x → IsSubclass P c x
  chain-above zero c x h = subst (λ z. IsSubclass P c z) (one_from c x h) same_class
  chain-above (suc n) c x h =
      ⊎_elim (λ e. subst (λ z. IsSubclass P c z) e same_class) (λ more. above (λ p. chain-above n p x) (parent_of P c) refl more)
      (contains_cases c (option_map_or (λ p. chain P n p.0) (parent_of P c) []) x h)
    where
      above : ((p : ℕ) → Contains (chain P n p) x → IsSubclass P p x) → (p : Option ClassId) → parent_of P c ≡ p
          → Contains (option_map_or (λ p. chain P n p.0) p []) x → IsSubclass P c x
      above go None e more = no-member x more
      above go (Some p) e more = through (parent-super P c p e) (go p.0 more)

  faces-above : (n c x : ℕ) → Contains (faces_above P n c) x → IsSubclass P c x
  faces-above zero c x h = no-member x h
  faces-above (suc n) c x h =
      let k = flat_from (λ (k : ClassId). k.0 ∷ faces_above P n k.0) (faces_of P c) x h in
      through {c = k.0} (Contains-append_right (option_to_list (parent_of P c)) (faces_of P c) k.0 k.1)
      (⊎_elim (λ e. subst (λ z. IsSubclass P k.0.0 z) e same_class) (λ more. faces-above n k.0.0 x more)
      (contains_cases k.0.0 (faces_above P n k.0.0) x k.2))

  order-above : (c x : ℕ) → Contains (search_order P c) x → IsSubclass P c x
  unfolding search_order
  order-above c x h =
      let n = length P.classes in
      ⊎_elim (λ near. chain-above n c x near)
      (λ far. let k = flat_from (λ k. faces_above P n k) (chain P n c) x far in subclass-then P (chain-above n c k.0 k.1) (faces-above n k.0 x k.2))
      (Contains-append_cases (chain P n c) (flat_map (λ k. faces_above P n k) (chain P n c)) x h)

  -- ---- the method

  -- the method of a name that a class itself declares
  pub record IsNamedIn (c : ℕ) (n : List ℕ) (m : ℕ) : Type 0 where
    pub method : PlainMethod
    pub stands : slice_get P.methods m ≡ Some method
    pub owner : method.owner ≡ c
    pub name : method.name ≡ n

  pub named-in : {c m : ℕ} {n : List ℕ} → named_method P c n ≡ Some m → IsNamedIn c n m
  named-in {c} {m} {n} e =
      let a = position-passes (λ k. is_named_in c n k) P.methods m e in
      let b = and_parts (a.0.owner == c) (bytes_eq a.0.name n) a.2 in
      record { method = a.0; stands = a.1; owner = eqb-true a.0.owner c b.0; name = (bytes_eq-Decides a.0.name n).0 b.1 }

  -- what is found first stands in the program
  pub first-stands : {c m : ℕ} {n : List ℕ} → first_method P c n ≡ Some m → (k : PlainMethod) × IsFirstMethod P c n m k
  unfolding first_method
  first-stands {c} {m} {n} e =
      let f = found-at (λ k. named_method P k n) (search_order P c) m e in
      let a = named-in f.2 in
      (a.method, record { first = e; stands = a.stands })

  -- and is met there
  pub first-met : {c m : ℕ} {n : List ℕ} {k : PlainMethod} → IsFirstMethod P c n m k → IsMet P c n m k
  unfolding first_method
  first-met {c} {m} {n} {k} s =
      let f = found-at (λ k. named_method P k n) (search_order P c) m s.first in
      let a = named-in f.2 in
      let same : a.method ≡ k = same_Some _ _ (sym a.stands ∙ s.stands) in
      record {
        stands = s.stands;
        name = ap (λ z. z.name) (sym same) ∙ a.name;
        above = subst (λ z. IsSubclass P c z) (sym a.owner ∙ ap (λ z. z.owner) same) (order-above c f.0 f.1);
      }

  -- there is one that is found first
  pub one-first : {c l m : ℕ} {n : List ℕ} {h k : PlainMethod} → IsFirstMethod P c n l h → IsFirstMethod P c n m k → (l ≡ m) × (h ≡ k)
  one-first {h = h} {k = k} a b =
      let e = same_Some _ _ (sym a.first ∙ b.first) in (e, same_Some h k (sym a.stands ∙ ap (slice_get P.methods) e ∙ b.stands))
