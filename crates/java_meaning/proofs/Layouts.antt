-- Objects of a formed program have each field that a class at or above theirs offers, each in a place of its own.
use Rattle.std.proofs.Common.{◌≡◌, ℕ, zero, suc, ◌+◌, ◌⊎◌, ◌&&◌, List, [], ◌∷◌, ◌++◌, Option, Some, None, length, eqb, refl, sym, ap, ◌∙◌, subst, ⊎_elim, inl, inr, arith}
use Rattle.std.specs.Prelude.{Bool, true, false, not, ◌==◌, if◌then◌else◌, map, slice_get}
use Rattle.std.specs.Option.{is_some, option_map, option_map_or}
use Rattle.std.specs.Str.{bytes_eq}
use Rattle.std.proofs.lemmas.Bool.{and_parts, eqb-true, eq-eqb}
use Rattle.std.proofs.lemmas.Option.{same_Some, slice_get-map}
use Rattle.kaba_base.specs.declared.ClassId.{ClassId}
use Rattle.java_core.specs.declared.Ty.{Ty}
use Rattle.java_core.specs.Programs.{Plain, PlainField}
use Rattle.java_core.specs.Classes.{parent_of, below, is_field_of, own_field_of, field_of, is_static_field, if_instance, when_instance, member_field}
use Rattle.java_core.specs.Types.{field_type}
use Rattle.java_core.specs.Formed.{IsFormed}
use Rattle.java_core.proofs.Subclasses.{subclass-then, below-subclass, parent-super, nearest_of-nearest, ArePassed, passed_more, none_passed, one_left}
use Rattle.java_core.proofs.Positions.{position-passes, passes-position}
use Rattle.java_core.proofs.Upwards.{IsOnChain, IsMemberClass, chain_here, chain_up, chain-above, along}
use Rattle.java_meaning.specs.Moment.{Nothing}
use Rattle.java_meaning.specs.Values.{default_of}
use Rattle.java_meaning.specs.Languages.{own_fields_from, own_fields, layout_in, layout, default_at, index_of, fresh_of}
use Rattle.java_meaning.proofs.Calls.{mapped_some}

abbrev IsIn : List ℕ → ℕ → Type 0
IsIn xs a = (i : ℕ) × (slice_get xs i ≡ Some a)

in_left : (xs ys : List ℕ) (a i : ℕ) → slice_get xs i ≡ Some a → slice_get (xs ++ ys) i ≡ Some a
in_left [] ys a i e = absurd (cc)
in_left (x ∷ xs) ys a zero e = e
in_left (x ∷ xs) ys a (suc i) e = in_left xs ys a i e

in_right : (xs ys : List ℕ) (a : ℕ) → IsIn ys a → IsIn (xs ++ ys) a
in_right [] ys a h = h
in_right (x ∷ xs) ys a h = let r = in_right xs ys a h in (suc r.0, r.1)

in_cases : (xs ys : List ℕ) (a i : ℕ) → slice_get (xs ++ ys) i ≡ Some a → IsIn xs a ⊎ IsIn ys a
in_cases [] ys a i e = inr (i, e)
in_cases (x ∷ xs) ys a zero e = inl (zero, e)
in_cases (x ∷ xs) ys a (suc i) e = ⊎_elim (λ h. inl (suc h.0, h.1)) (λ h. inr h) (in_cases xs ys a i e)

-- the fields that a class itself declares
own_listed : (c n : ℕ) (fs : List PlainField) (i : ℕ) (f : PlainField) → slice_get fs i ≡ Some f → f.owner ≡ c → f.is_static ≡ false
    → IsIn (own_fields_from c n fs) (n + i)
own_listed c n [] i f e o s = absurd (cc)
own_listed c n (x ∷ fs) zero f e o s =
    let same : x ≡ f = same_Some _ _ e in
    let passes : (x.owner == c) && not x.is_static ≡ true = rw (same, eq-eqb f.owner c o, s) refl in
    subst (λ z. IsIn (own_fields_from c n (x ∷ fs)) z) (let z : n ≡ n + 0 = omega arith in z)
    (subst (λ z. IsIn ((if z then n ∷ [] else []) ++ own_fields_from c (suc n) fs) n) (sym passes) (zero, refl))
own_listed c n (x ∷ fs) (suc i) f e o s =
    subst (λ z. IsIn (own_fields_from c n (x ∷ fs)) z) (let z : suc n + i ≡ n + suc i = omega arith in z)
    (in_right (if (x.owner == c) && not x.is_static then n ∷ [] else []) (own_fields_from c (suc n) fs) (suc n + i) (own_listed c (suc n) fs i f e o s))

-- and each of them is a field
own_field_there : (c n : ℕ) (fs : List PlainField) (a i : ℕ) → slice_get (own_fields_from c n fs) i ≡ Some a → (j : ℕ) × (f : PlainField)
    × (a ≡ n + j) × (slice_get fs j ≡ Some f)
own_field_there c n [] a i e = absurd (cc)
own_field_there c n (x ∷ fs) a i e = ⊎_elim (λ h. first ((x.owner == c) && not x.is_static) h.0 h.1) (λ h. later (own_field_there c (suc n) fs a) h)
    (in_cases (if (x.owner == c) && not x.is_static then n ∷ [] else []) (own_fields_from c (suc n) fs) a i e)
  where
    first : (b : Bool) (i : ℕ) → slice_get (if b then n ∷ [] else []) i ≡ Some a → (j : ℕ) × (f : PlainField) × (a ≡ n + j) × (slice_get (x ∷ fs) j ≡ Some f)
    first true zero e = let same : n ≡ a = same_Some _ _ e in (zero, x, omega (arith, same), refl)
    first true (suc i) e = absurd (cc)
    first false i e = absurd (cc)

    later : ((i : ℕ) → slice_get (own_fields_from c (suc n) fs) i ≡ Some a → (j : ℕ) × (f : PlainField) × (a ≡ suc n + j) × (slice_get fs j ≡ Some f))
        → IsIn (own_fields_from c (suc n) fs) a → (j : ℕ) × (f : PlainField) × (a ≡ n + j) × (slice_get (x ∷ fs) j ≡ Some f)
    later rec h = let r = rec h.0 h.1 in let at : a ≡ suc n + r.0 = r.2 in (suc r.0, r.1, omega (arith, at), r.3)

module _ (P : Plain) where
  layout_there : (n c a i : ℕ) → slice_get (layout_in P n c) i ≡ Some a → (f : PlainField) × (slice_get P.fields a ≡ Some f)
  layout_there zero c a i e = own (own_field_there c 0 P.fields a i e)
    where
      own : ((j : ℕ) × (f : PlainField) × (a ≡ 0 + j) × (slice_get P.fields j ≡ Some f)) → (f : PlainField) × (slice_get P.fields a ≡ Some f)
      own (j, f, at, e) = (f, ap (slice_get P.fields) (let z : a ≡ j = omega (arith, at) in z) ∙ e)
  layout_there (suc n) c a i e = ⊎_elim (λ h. up (λ p. layout_there n p a) (parent_of P c) h.0 h.1)
      (λ h. own (own_field_there c 0 P.fields a h.0 h.1)) (in_cases (option_map_or (λ p. layout_in P n p.0) (parent_of P c) [])
      (own_fields P c) a i e)
    where
      own : ((j : ℕ) × (f : PlainField) × (a ≡ 0 + j) × (slice_get P.fields j ≡ Some f)) → (f : PlainField) × (slice_get P.fields a ≡ Some f)
      own (j, f, at, e) = (f, ap (slice_get P.fields) (let z : a ≡ j = omega (arith, at) in z) ∙ e)

      up : ((p i : ℕ) → slice_get (layout_in P n p) i ≡ Some a → (f : PlainField) × (slice_get P.fields a ≡ Some f)) → (o : Option ClassId) (i : ℕ)
          → slice_get (option_map_or (λ p. layout_in P n p.0) o []) i ≡ Some a → (f : PlainField) × (slice_get P.fields a ≡ Some f)
      up rec None i e = absurd (cc)
      up rec (Some p) i e = rec p.0 i e

  -- what is at an index is the field
  index_at : (c f i : ℕ) → index_of P c f ≡ Some i → slice_get (layout P c) i ≡ Some f
  index_at c f i e = let h = position-passes (λ g. g == f) (layout P c) i e in h.1 ∙ ap Some (eqb-true h.0 f h.2)

  pub places : (c f h i : ℕ) → index_of P c f ≡ Some i → index_of P c h ≡ Some i → f ≡ h
  places c f h i e d = same_Some _ _ (sym (index_at c f i e) ∙ index_at c h i d)

  pub fresh : (c f i : ℕ) → index_of P c f ≡ Some i → (t : Ty) × (field_type P f ≡ Some t) × (slice_get (fresh_of P c) i ≡ Some (default_of t))
  unfolding layout
  fresh c f i e =
      let at = index_at c f i e in let k = layout_there (length P.classes) c f i at in
      let ty : field_type P f ≡ Some k.0.ty = ap (option_map (λ z. z.ty)) k.1 in (
        k.0.ty,
        ty,
        slice_get-map (λ f. default_at P f) (layout P c) i ∙ ap (option_map (λ f. default_at P f)) at
            ∙ ap (λ z. Some (option_map_or default_of z Nothing)) ty,
      )

  pub statics : (f : ℕ) (t : Ty) → field_type P f ≡ Some t → slice_get (map (λ f. default_of f.ty) P.fields) f ≡ Some (default_of t)
  statics f t e = let k = mapped_some (λ k. k.ty) (slice_get P.fields f) t e in slice_get-map (λ f. default_of f.ty) P.fields f
      ∙ ap (option_map (λ f. default_of f.ty)) k.1 ∙ ap (λ z. Some (default_of z)) k.2

  module _ (formed : IsFormed P) where
    in_layout : (n : ℕ) (seen : List ℕ) {c h : ℕ} (f : ℕ) → IsOnChain P c h → IsIn (own_fields P h) f → n + length seen ≡ length P.classes
        → ArePassed P seen c → IsIn (layout_in P n c) f
    in_layout zero seen f chain_here there e k = there
    in_layout (suc n) seen {c} f chain_here there e k = in_right (option_map_or (λ p. layout_in P n p.0) (parent_of P c) []) (own_fields P c) f there
    in_layout zero seen {c} f (chain_up {p = p} up rest) there e k = absurd (one_left P formed.acyclic seen (parent-super P c p up) k e)
    in_layout (suc n) seen {c} f (chain_up {p = p} up rest) there e k =
        let r = in_layout n (c ∷ seen) f rest there (omega (arith, e)) (passed_more P formed.acyclic seen (parent-super P c p up) k) in (
          r.0,
          in_left (option_map_or (λ p. layout_in P n p.0) (parent_of P c) []) (own_fields P c) f r.0
              (subst (λ z. slice_get (option_map_or (λ p. layout_in P n p.0) z []) r.0 ≡ Some f) (sym up) r.1),
        )

    instance_found : (f : ℕ) (o : Option ℕ) → when_instance P o ≡ Some f → (o ≡ Some f) × (is_static_field P f ≡ false)
    instance_found f None e = absurd (cc)
    instance_found f (Some x) e = go (is_static_field P x) refl e
      where
        go : (b : Bool) → is_static_field P x ≡ b → if_instance x b ≡ Some f → (Some x ≡ Some f) × (is_static_field P f ≡ false)
        go true s e = absurd (cc)
        go false s e = (e, ap (is_static_field P) (sym (same_Some _ _ e)) ∙ s)

    pub members : (c d : ℕ) (x : List ℕ) (f : ℕ) → below P c d ≡ true → member_field P d x ≡ Some f → is_some (index_of P c f) ≡ true
    unfolding member_field field_of layout
    members c d x f bel e =
        let i = instance_found f (field_of P d x) e in
        let n = chain-above P (λ k. own_field_of P k x) (nearest_of-nearest P (λ k. own_field_of P k x) i.0) in
        let k = position-passes (λ z. is_field_of n.holder x z) P.fields f n.found in
        let parts = and_parts (eqb k.0.owner n.holder) (bytes_eq k.0.name x) k.2 in
        let owner : k.0.owner ≡ n.holder = eqb-true k.0.owner n.holder parts.0 in
        let own = formed.fields f k.0 k.1 in
        let static : k.0.is_static ≡ false = sym (ap (λ z. option_map_or (λ y. y.is_static) z false) k.1) ∙ i.1 in
        let up = subclass-then P (below-subclass P c d bel) n.above in
        let member : IsMemberClass P n.holder = record {
          class = own.holder;
          stands = subst (λ z. slice_get P.classes z ≡ Some own.holder) owner own.stands;
          no_interface = own.class;
          no_object = λ z. own.no_object (owner ∙ z);
        } in
        let chain = along P formed member up in
        let listed = own_listed n.holder 0 P.fields f k.0 k.1 owner static in
        let there = in_layout (length P.classes) [] f chain (subst (λ z. IsIn (own_fields P n.holder) z) (let z : 0 + f ≡ f = omega arith in z) listed)
        (omega arith) (none_passed P c) in
        let p = passes-position (λ g. g == f) (layout P c) there.0 f there.1 (eq-eqb f f refl) in
        ap is_some p.1
