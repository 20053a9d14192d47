-- The objects of classes that are one have the same values at first, field by field.
use Rattle.std.proofs.Common.{◌≡◌, ℕ, zero, suc, ◌+◌, ◌<◌, List, [], ◌∷◌, ◌++◌, Option, Some, None, length, refl, sym, ap, ap₂, ◌∙◌, arith}
use Rattle.std.specs.Prelude.{◌==◌, ◌&&◌, ◌||◌, Bool, true, false, not, if◌then◌else◌, slice_get, position}
use Rattle.std.specs.Option.{is_some, option_map, option_map_or, option_and_then}
use Rattle.std.specs.List.{list_any}
use Rattle.std.proofs.lemmas.Bool.{eq-eqb, ne_eqb}
use Rattle.std.proofs.lemmas.Option.{same_Some}
use Rattle.kaba_base.specs.declared.ClassId.{ClassId}
use Rattle.java_core.specs.Programs.{Plain, PlainField}
use Rattle.java_core.specs.Classes.{parent_of}
use Rattle.java_core.proofs.Positions.{position-passes, passes-position}
use Rattle.java_meaning.specs.Values.{default_of}
use Rattle.java_meaning.specs.Languages.{own_fields_from, own_fields, layout_in, layout, index_of, fresh_of, language_of}
use Rattle.java_meaning.proofs.Layouts.{fresh}
use Rattle.rebuild_model.specs.OnePrograms.{BothRelated, neither, both}
use Rattle.rebuild_laws.specs.twins.Twins.{value_at}
use Rattle.rebuild_laws.proofs.twins.Shapes.{same_default}
use Rattle.rebuild_laws.proofs.one.Found.{Ones, OneClass, same_class_test, parents, FieldPair}
use Rattle.rebuild_laws.proofs.one.Statics.{one_shape}

-- whether a number is in a list
abbrev has : ℕ → List ℕ → Bool
has f xs = list_any (λ g. g == f) xs

or_assoc : (a b c : Bool) → ((a || b) || c) ≡ (a || (b || c))
or_assoc true b c = refl
or_assoc false b c = refl

has_append : (f : ℕ) (xs ys : List ℕ) → has f (xs ++ ys) ≡ (has f xs || has f ys)
has_append f [] ys = refl
has_append f (x ∷ xs) ys = ap (λ z. (x == f) || z) (has_append f xs ys) ∙ sym (or_assoc (x == f) (has f xs) (has f ys))

found_has : (f : ℕ) (xs : List ℕ) (i x : ℕ) → slice_get xs i ≡ Some x → (x == f) ≡ true → has f xs ≡ true
found_has f [] i x e h = absurd (cc)
found_has f (y ∷ ys) zero x e h = ap (λ z. (z == f) || has f ys) (same_Some y x e) ∙ ap (λ z. z || has f ys) h
found_has f (y ∷ ys) (suc i) x e h = go (y == f) (found_has f ys i x e h)
  where
    go : (b : Bool) → has f ys ≡ true → (b || has f ys) ≡ true
    go true r = refl
    go false r = r

has_found : (f : ℕ) (xs : List ℕ) → has f xs ≡ true → (i : ℕ) × (x : ℕ) × (slice_get xs i ≡ Some x) × ((x == f) ≡ true)
has_found f [] h = absurd (cc)
has_found f (y ∷ ys) h = go (y == f) refl h (has_found f ys)
  where
    go : (b : Bool) → (y == f) ≡ b → (b || has f ys) ≡ true → (has f ys ≡ true → (i : ℕ) × (x : ℕ) × (slice_get ys i ≡ Some x) × ((x == f) ≡ true))
        → (i : ℕ) × (x : ℕ) × (slice_get (y ∷ ys) i ≡ Some x) × ((x == f) ≡ true)
    go true e r rec = (zero, y, refl, e)
    go false e r rec = let z = rec r in (suc z.0, z.1, z.2, z.3)

-- whether it has a place there
placed : (f : ℕ) (xs : List ℕ) → is_some (position (λ g. g == f) xs) ≡ has f xs
placed f xs = go (position (λ g. g == f) xs) (has f xs) refl refl
  where
    go : (o : Option ℕ) (b : Bool) → position (λ g. g == f) xs ≡ o → has f xs ≡ b → is_some o ≡ b
    go (Some i) true e d = refl
    go None false e d = refl
    go (Some i) false e d = let z = position-passes (λ g. g == f) xs i e in let w = found_has f xs i z.0 z.1 z.2 in absurd (let y = sym d ∙ w in cc)
    go None true e d =
        let z = has_found f xs d in let w = passes-position (λ g. g == f) xs z.0 z.1 z.2 z.3 in absurd (let y = sym e ∙ w.1 in cc)

-- the instance fields that a class declares itself
abbrev is_own : ℕ → PlainField → Bool
is_own c k = (k.owner == c) && not k.is_static

none_before : (c m : ℕ) (fs : List PlainField) (f : ℕ) → f < m → has f (own_fields_from c m fs) ≡ false
none_before c m [] f lt = refl
none_before c m (k ∷ ks) f lt =
    has_append f (if is_own c k then m ∷ [] else []) (own_fields_from c (suc m) ks)
    ∙ ap₂ (λ y z. y || z) (go (is_own c k)) (none_before c (suc m) ks f (omega (arith, lt)))
  where
    go : (b : Bool) → has f (if b then m ∷ [] else []) ≡ false
    go true = ap (λ z. z || false) (ne_eqb m f (λ e. omega (arith, lt, e)))
    go false = refl

own_is : (c n i : ℕ) (fs : List PlainField) → has (n + i) (own_fields_from c n fs) ≡ option_map_or (is_own c) (slice_get fs i) false
own_is c n i [] = refl
own_is c n zero (k ∷ ks) =
    has_append (n + 0) (if is_own c k then n ∷ [] else []) (own_fields_from c (suc n) ks)
    ∙ ap (λ z. has (n + 0) (if is_own c k then n ∷ [] else []) || z) (none_before c (suc n) ks (n + 0) (omega arith)) ∙ go (is_own c k)
  where
    go : (b : Bool) → (has (n + 0) (if b then n ∷ [] else []) || false) ≡ b
    go true = ap (λ z. (z || false) || false) (eq-eqb n (n + 0) (let z : n ≡ n + 0 = omega arith in z))
    go false = refl
own_is c n (suc i) (k ∷ ks) =
    has_append (n + suc i) (if is_own c k then n ∷ [] else []) (own_fields_from c (suc n) ks)
    ∙ ap (λ z. z || has (n + suc i) (own_fields_from c (suc n) ks)) (go (is_own c k))
    ∙ ap (λ z. has z (own_fields_from c (suc n) ks)) (let z : n + suc i ≡ suc n + i = omega arith in z) ∙ own_is c (suc n) i ks
  where
    go : (b : Bool) → has (n + suc i) (if b then n ∷ [] else []) ≡ false
    go true = ap (λ z. z || false) (ne_eqb n (n + suc i) (λ e. omega (arith, e)))
    go false = refl

own_has : (P : Plain) (c f : ℕ) → has f (own_fields P c) ≡ option_map_or (is_own c) (slice_get P.fields f) false
own_has P c f = ap (λ z. has z (own_fields P c)) (let z : f ≡ 0 + f = omega arith in z) ∙ own_is c 0 f P.fields

module _ (K : Ones) where
  abbrev P : Plain
  P = K.first

  abbrev Q : Plain
  Q = K.second

  module _ (f g : ℕ) (p : FieldPair K f g) where
    owned : (c d : ℕ) → OneClass K c d → has f (own_fields P c) ≡ has g (own_fields Q d)
    owned c d o =
        own_has P c f ∙ ap (λ z. option_map_or (is_own c) z false) p.first_stands
        ∙ ap₂ (λ y z. y && not z) (same_class_test K p.same.owner o) p.same.static
        ∙ sym (own_has Q d g ∙ ap (λ z. option_map_or (is_own d) z false) p.second_stands)

    laid : (n c d : ℕ) → OneClass K c d → has f (layout_in P n c) ≡ has g (layout_in Q n d)
    laid zero c d o = owned c d o
    laid (suc n) c d o =
        has_append f (option_map_or (λ (p : ClassId). layout_in P n p.0) (parent_of P c) []) (own_fields P c)
        ∙ ap₂ (λ y z. y || z) (up (λ c d o. laid n c d o) (parents K c d o)) (owned c d o)
        ∙ sym (has_append g (option_map_or (λ (p : ClassId). layout_in Q n p.0) (parent_of Q d) []) (own_fields Q d))
      where
        up : ((c d : ℕ) → OneClass K c d → has f (layout_in P n c) ≡ has g (layout_in Q n d)) → {o p : Option ClassId}
            → BothRelated (λ (c d : ClassId). OneClass K c.0 d.0) o p
            → has f (option_map_or (λ (p : ClassId). layout_in P n p.0) o []) ≡ has g (option_map_or (λ (p : ClassId). layout_in Q n p.0) p [])
        up rec neither = refl
        up rec (both {x = x} {y = y} r) = rec x.0 y.0 r

    indexed : (c d : ℕ) → OneClass K c d → is_some (index_of P c f) ≡ is_some (index_of Q d g)
    unfolding layout
    indexed c d o = placed f (layout P c) ∙ laid (length P.classes) c d o ∙ ap (λ n. has g (layout_in Q n d)) K.one.classes.as_many
        ∙ sym (placed g (layout Q d))

    pub fresh_values : (c d : ℕ) → OneClass K c d → value_at (language_of P) c f (fresh_of P c) ≡ value_at (language_of Q) d g (fresh_of Q d)
    fresh_values c d o = go (index_of P c f) (index_of Q d g) refl refl (indexed c d o)
      where
        go : (i j : Option ℕ) → index_of P c f ≡ i → index_of Q d g ≡ j → is_some i ≡ is_some j
            → option_and_then (λ n. slice_get (fresh_of P c) n) i ≡ option_and_then (λ n. slice_get (fresh_of Q d) n) j
        go None None e h s = refl
        go (Some i) None e h s = absurd (cc)
        go None (Some j) e h s = absurd (cc)
        go (Some i) (Some j) e h s =
            let x = fresh P c f i e in
            let y = fresh Q d g j h in
            let t : x.0 ≡ p.first.ty = same_Some x.0 p.first.ty (sym x.1 ∙ ap (option_map (λ (k : PlainField). k.ty)) p.first_stands) in
            let u : y.0 ≡ p.second.ty = same_Some y.0 p.second.ty (sym y.1 ∙ ap (option_map (λ (k : PlainField). k.ty)) p.second_stands) in
            x.2 ∙ ap (λ z. Some (default_of z)) t
            ∙ ap (λ z. Some z) (same_default p.first.ty p.second.ty (one_shape K p.first.ty p.second.ty p.same.type))
            ∙ ap (λ z. Some (default_of z)) (sym u) ∙ sym y.2
