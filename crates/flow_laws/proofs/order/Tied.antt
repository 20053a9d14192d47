-- Each tie is between rows in order, and no `this` or object site stands above another row of its class.
use Rattle.std.proofs.Common.{◌≡◌, ℕ, zero, ◌-◌, List, Option, Some, None, length, refl, sym, ap, ◌∙◌, subst, arith, inl, inr, ⊎_elim}
use Rattle.std.specs.Prelude.{◌≢◌, ◌<◌, ◌==◌, ◌⊎◌, nat_lt, if◌then◌else◌, Bool, true, false, All, Contains, slice_get, option_and_then}
use Rattle.std.specs.Option.{option_map, is_some}
use Rattle.std.proofs.lemmas.Option.{same_Some}
use Rattle.std.proofs.lemmas.Bool.{false≢true, eqb-true, eq-eqb, and_from, and_parts}
use Rattle.java_core.specs.Programs.{Plain, PlainMethod}
use Rattle.java_core.specs.Classes.{IsSubclass, below, same_class}
use Rattle.java_core.specs.Typing.{IsTyped}
use Rattle.java_core.specs.Formed.{IsFormed}
use Rattle.java_core.proofs.Subclasses.{below-subclass, subclass-below}
use Rattle.fact_model.specs.Items.{row_class, row_this, is_object_row}
use Rattle.fact_model.specs.Classes.{IsBelow}
use Rattle.fact_model.specs.declared.facts.Facts.{Facts}
use Rattle.fact_model.specs.declared.facts.TieInfo.{TieInfo}
use Rattle.flow_rules.specs.declared.items.ObjectType.{ObjectType}
use Rattle.flow_rules.specs.declared.items.Operand.{Operand}
use Rattle.flow_rules.specs.declared.items.RowItem.{RowItem}
use Rattle.flow_rules.specs.declared.items.RowItem.TheVariants as row
use Rattle.flow_rules.specs.Operands.{object_if, variable_row, result_in}
use Rattle.flow_rules.specs.Types.{field_object, variable_object, element_object}
use Rattle.flow_rules.specs.Parts.{Part, a_call, a_static_call, a_super_call, a_test, a_pair, a_set, a_store, an_element_store, a_return, a_creation}
use Rattle.flow_rules.specs.Lists.{tied, row_at, row_in, is_this, is_comparison, same_type, left_is_lower, narrower, is_left_lower, param_row, pair_ties, test_ties, slot_ties, method_ties, ties_of}
use Rattle.flow_rules.specs.Numbered.{row_number}
use Rattle.flow_rules.specs.Facts.{numbers, IsFactsOf}
use Rattle.flow_rules.proofs.Listed.{all_of, when_from, each_from_zero}
use Rattle.flow_laws.proofs.order.Tests.{gathered_from, row_item, both_from}
use Rattle.flow_laws.proofs.order.Classes.{subclass_below}
use Rattle.flow_laws.proofs.order.Operands.{field_type, return_type, result_type, variable_type, param_type, param_object}
use Rattle.flow_laws.proofs.order.Fits.{IsUnder, ArePaired, paired_dim, element_some}
use Rattle.flow_laws.proofs.order.Sound.{is_apart, variable_apart, IsSound, Standing, apart, deep, itself, made}
use Rattle.flow_laws.proofs.order.Fitted.{IsFitted, IsValue, is_variable_of, part_fitted}
use Rattle.flow_laws.proofs.order.Owners.{IsRowAt, row_there, class_of_row, IsFree, apart_free, deep_free, HasRow, row_of_operand, row_standing, value_below, creation_object}
use Rattle.java_meaning.proofs.Holds.{some_there as some_of}

tied_from : (r q : Option ℕ) (x : TieInfo) → Contains (tied r q) x → (r ≡ Some x.lower.0) × (q ≡ Some x.upper.0)
tied_from r q x d = let z = both_from r q (λ a b. record { lower = record { 0 = a }; upper = record { 0 = b } }) x d in (
  z.2
      ∙ ap (λ y. Some y.lower.0) z.4,
  z.3 ∙ ap (λ y. Some y.upper.0) z.4,
)

result_apart : (s : Option ℕ) (m : ℕ) → is_apart (result_in s m) ≡ true
result_apart None m = refl
result_apart (Some s) m = refl

-- when the left operand is the lower
lower_self : (a b c d : Bool) → left_is_lower a b c d ≡ true → d ≡ true → a ≡ true
lower_self true b c d e h = refl
lower_self false true true true e h = e
lower_self false true false true e h = e
lower_self false true c false e h = absurd (false≢true h)
lower_self false false c d e h = e

lower_made : (a b c d : Bool) → left_is_lower a b c d ≡ true → c ≡ true → ⊥
lower_made true true true d e h = false≢true e
lower_made true false true d e h = false≢true e
lower_made false true true d e h = false≢true e
lower_made false false true d e h = false≢true e
lower_made a b false d e h = false≢true h

upper_self : (a b c d : Bool) → left_is_lower a b c d ≡ false → b ≡ true → (c ≡ true) ⊎ (d ≡ true)
upper_self a b true d e h = inl refl
upper_self a b false true e h = inr refl
upper_self true b false false e h = absurd (false≢true (sym e))
upper_self false true false false e h = absurd (false≢true (sym e))
upper_self false false false false e h = absurd (false≢true h)

upper_made : (a b c d : Bool) → left_is_lower a b c d ≡ false → a ≡ true → c ≡ true
upper_made a b true d e h = refl
upper_made true b false d e h = absurd (false≢true (sym e))
upper_made false b false d e h = absurd (false≢true h)

module _ (P : Plain) (formed : IsFormed P) (typed : IsTyped P) (F : Facts) (facts : IsFactsOf P F) where
  abbrev IsFreeRow : ℕ → Type 0
  IsFreeRow q = IsFree P formed typed F facts q

  -- what the facts' order asks of a lower and an upper row
  pub record IsTied (r q : ℕ) : Type 0 where
    pub lower : r < length F.rows.items
    pub upper : q < length F.rows.items
    pub below : IsBelow F (row_class F r) (row_class F q)
    pub free : (r ≡ q → ⊥) → row_class F r ≡ row_class F q → is_object_row F r ≡ false → (row_this F q ≡ None) × (is_object_row F q ≡ false)

  free_tie : (r q : ℕ) → r < length F.rows.items → q < length F.rows.items → IsBelow F (row_class F r) (row_class F q) → (row_this F q ≡ None)
      × (is_object_row F q ≡ false) → IsTied r q
  free_tie r q l u b f = record { lower = l; upper = u; below = b; free = λ n c o. f }

  module _ (m : ℕ) (k : PlainMethod) (stands : slice_get P.methods m ≡ Some k) where
    abbrev IsGood : Operand → Type 0
    IsGood o = IsSound P formed typed F facts m k stands o

    abbrev Value : Operand → Option ObjectType → Type 0
    Value o t = IsValue P formed typed F facts m k stands o t

    abbrev Row : Operand → ℕ → Type 0
    Row o r = HasRow P formed typed F facts m k stands o r

    abbrev pub At : ℕ → RowItem → Type 0
    At r i = IsRowAt P formed typed F facts r i

    -- a value goes to a row of a known type
    to_item : (o : Operand) (t : Option ObjectType) (i : RowItem) (x : TieInfo) → Value o t → is_apart i ≡ true
        → ((y : At x.upper.0 i) → t ≡ Some y.here.ty) → row_at (numbers P) o ≡ Some x.lower.0 → row_number P i ≡ Some x.upper.0
        → IsTied x.lower.0 x.upper.0
    to_item o t i x v a h e d =
        let y = row_there P formed typed F facts i x.upper.0 d in
        free_tie x.lower.0 x.upper.0 (row_of_operand P formed typed F facts m k stands o x.lower.0 v.good e).at.below y.below
        (value_below P formed typed F facts m k stands o t y.here.ty x.lower.0 x.upper.0 v e (h y)
        (class_of_row P formed typed F facts x.upper.0 i y)) (apart_free P formed typed F facts x.upper.0 i y a)

    -- a value goes to the row of an operand
    to_operand : (o v : Operand) (t : Option ObjectType) (x : TieInfo) → Value o t → IsGood v
        → ((h : Row v x.upper.0) → IsFreeRow x.upper.0 × ((u : ObjectType) × (t ≡ Some u) × (h.type.class.0 ≡ u.class.0)))
        → Contains (tied (row_at (numbers P) o) (row_at (numbers P) v)) x → IsTied x.lower.0 x.upper.0
    to_operand o v t x a g f c =
        let e = tied_from (row_at (numbers P) o) (row_at (numbers P) v) x c in
        let h = row_of_operand P formed typed F facts m k stands v x.upper.0 g e.1 in
        let z = f h in
        free_tie x.lower.0 x.upper.0 (row_of_operand P formed typed F facts m k stands o x.lower.0 a.good e.0).at.below h.at.below
        (value_below P formed typed F facts m k stands o t z.1.0 x.lower.0 x.upper.0 a e.0 z.1.1 (h.class ∙ z.1.2)) z.0

    set_tie : (v o : Operand) (x : TieInfo) → IsGood v → ((j : RowItem) → v.row ≡ Some j → is_apart j ≡ true) → Value o v.ty
        → Contains (tied (row_at (numbers P) o) (row_at (numbers P) v)) x → IsTied x.lower.0 x.upper.0
    set_tie v o x g a w c = to_operand o v v.ty x w g (λ h. (
      apart_free P formed typed F facts x.upper.0 h.item h.at (a h.item h.row_is),
      (h.type, h.stated, refl),
    )) c

    element_tie : (b o : Operand) (x : TieInfo) → IsGood b → ((t : ObjectType) → b.ty ≡ Some t → 0 < t.dim) → Value o (element_object b.ty)
        → Contains (tied (row_at (numbers P) o) (row_at (numbers P) b)) x → IsTied x.lower.0 x.upper.0
    element_tie b o x g n w c = to_operand o b (element_object b.ty) x w g
        (λ h. (
          deep_free P formed typed F facts x.upper.0 h.item h.at h.number (omega (arith, h.dim, n h.type h.stated)),
          (record { class = h.type.class; dim = h.type.dim - 1 }, ap element_object h.stated ∙ element_some h.type (n h.type h.stated), refl),
        )) c

    -- the row of what a method gives back
    pub result_row_type : (r : ℕ) (o : Option ℕ) → k.slot ≡ o → (y : At r (result_in k.slot m)) → object_if k.result ≡ Some y.here.ty
    result_row_type r None e y =
        sym (ap (λ o. object_if (option_and_then (λ k. k.result) o)) stands)
        ∙ result_type P formed typed m r y.here y.stands (y.item ∙ ap (λ s. result_in s m) e)
    result_row_type r (Some s) e y =
        let w = ((formed.methods m k stands).slots s).0 e in
        ap object_if w.result ∙ sym (ap (λ o. object_if (option_and_then (λ k. k.result) o)) w.stands)
        ∙ return_type P formed typed s r y.here y.stands (y.item ∙ ap (λ s. result_in s m) e)

    return_tie : (o : Operand) (x : TieInfo) → Value o (object_if k.result)
        → Contains (tied (row_at (numbers P) o) (row_number P (result_in k.slot m))) x → IsTied x.lower.0 x.upper.0
    return_tie o x v c =
        let e = tied_from (row_at (numbers P) o) (row_number P (result_in k.slot m)) x c in
        to_item o (object_if k.result) (result_in k.slot m) x v (result_apart k.slot m) (λ y. result_row_type x.upper.0 k.slot refl y) e.0 e.1

    store_tie : (j : ℕ) (o : Operand) (x : TieInfo) → Value o (field_object P j)
        → Contains (tied (row_at (numbers P) o) (row_number P (row.Field j))) x → IsTied x.lower.0 x.upper.0
    store_tie j o x v c =
        let e = tied_from (row_at (numbers P) o) (row_number P (row.Field j)) x c in
        to_item o (field_object P j) (row.Field j) x v refl (λ y. field_type P formed typed j x.upper.0 y.here y.stands y.item) e.0 e.1

    slot_tie : (s i : ℕ) (o : Operand) (x : TieInfo) → Value o (param_object P s i)
        → Contains (tied (row_at (numbers P) o) (row_number P (row.Param s i))) x → IsTied x.lower.0 x.upper.0
    slot_tie s i o x v c =
        let e = tied_from (row_at (numbers P) o) (row_number P (row.Param s i)) x c in
        to_item o (param_object P s i) (row.Param s i) x v refl (λ y. param_type P formed typed s i x.upper.0 y.here y.stands y.item) e.0 e.1

    args_tie : (s : ℕ) (es : List Operand) (x : TieInfo) → ((i : ℕ) (a : Operand) → slice_get es i ≡ Some a → Value a (param_object P s i))
        → Contains (slot_ties (numbers P) P s es) x → IsTied x.lower.0 x.upper.0
    unfolding numbers
    args_tie s es x v c = let z = each_from_zero (λ i o. tied (row_at (numbers P) o) (row_number P (row.Param s i))) es x c in slot_tie s z.0 z.1
        x (v z.0 z.1 z.2) z.3

    -- the row of a parameter of a method
    method_tie : (d i : ℕ) (o : Operand) (x : TieInfo) → Value o (is_variable_of P formed typed F facts m k stands d i)
        → Contains (tied (row_at (numbers P) o) (row_in (numbers P) (param_row P d i))) x → IsTied x.lower.0 x.upper.0
    method_tie d i o x v c =
        let e = tied_from (row_at (numbers P) o) (row_in (numbers P) (param_row P d i)) x c in
        let j = row_item P (param_row P d i) x.upper.0 e.1 in
        let h = variable_there (slice_get P.methods d) refl j.0 j.1 in
        to_item o (is_variable_of P formed typed F facts m k stands d i) (variable_row d h.0 i) x v
        (variable_apart h.0.slot (nat_lt i (length h.0.params)) d i)
        (λ y. ap (option_and_then (λ k. variable_object k i)) h.1 ∙ variable_type P formed typed d i h.0 x.upper.0 y.here h.1 y.stands
        y.item) e.0 (ap (row_number P) (sym h.2) ∙ j.2)
      where
        variable_there : (p : Option PlainMethod) → slice_get P.methods d ≡ p → (j : RowItem)
            → option_map (λ k. variable_row d k i) (slice_get P.methods d) ≡ Some j → (q : PlainMethod) × (slice_get P.methods d ≡ Some q)
            × (j ≡ variable_row d q i)
        variable_there None e j h = absurd (let z = ap (option_map (λ k. variable_row d k i)) (sym e) ∙ h in cc)
        variable_there (Some p) e j h =
            (p, e, same_Some j _ (sym h ∙ ap (option_map (λ k. variable_row d k i)) e))

    params_tie : (d : ℕ) (es : List Operand) (x : TieInfo) → ((i : ℕ) (a : Operand) → slice_get es i ≡ Some a
        → Value a (is_variable_of P formed typed F facts m k stands d i)) → Contains (method_ties (numbers P) P d es) x
        → IsTied x.lower.0 x.upper.0
    params_tie d es x v c = let z = each_from_zero (λ i o. tied (row_at (numbers P) o) (row_in (numbers P) (param_row P d i))) es x c in
        method_tie d z.0 z.1 x (v z.0 z.1 z.2) z.3

    -- the rows of two operands
    record Both (l r : Operand) (a b : ℕ) : Type 0 where
      left : Row l a
      right : Row r b

    both_rows : (l r : Operand) (x : TieInfo) → IsGood l → IsGood r → Contains (tied (row_at (numbers P) l) (row_at (numbers P) r)) x
        → Both l r x.lower.0 x.upper.0
    both_rows l r x g h c =
        let e = tied_from (row_at (numbers P) l) (row_at (numbers P) r) x c in
        record {
          left = row_of_operand P formed typed F facts m k stands l x.lower.0 g e.0;
          right = row_of_operand P formed typed F
              facts m k stands r x.upper.0 h e.1;
        }

    rows_below : (s t : ObjectType) (a b : ℕ) → IsUnder P s t → row_class F a ≡ s.class.0 → row_class F b ≡ t.class.0
        → IsBelow F (row_class F a) (row_class F b)
    rows_below s t a b u e d = subst (λ z. IsBelow F z (row_class F b)) (sym e) (subst (λ z. IsBelow F s.class.0 z) (sym d)
        (subclass_below P F facts u.class))

    under_below : (s t : ObjectType) → IsUnder P s t → below P s.class.0 t.class.0 ≡ true
    under_below s t u = subclass-below P formed.acyclic u.class

    test_tie : (e o : Operand) (s t : ObjectType) (x : TieInfo) → IsGood e → IsGood o → ((j : RowItem) → o.row ≡ Some j → is_apart j ≡ true)
        → e.ty ≡ Some s → o.ty ≡ Some t → ArePaired P s t → (b : Bool) → below P s.class.0 t.class.0 ≡ b
        → Contains (if b then tied (row_at (numbers P) e) (row_at (numbers P) o) else tied (row_at (numbers P) o) (row_at (numbers P) e)) x
        → IsTied x.lower.0 x.upper.0
    test_tie e o s t x g h a es ot p true b c =
        let w = both_rows e o x g h c in
        let u = ap (λ z. z.class.0) (same_Some _ _ (sym w.left.stated ∙ es)) in
        let v = ap (λ z. z.class.0) (same_Some _ _ (sym w.right.stated ∙ ot)) in
        free_tie x.lower.0 x.upper.0 w.left.at.below w.right.at.below (subst (λ z. IsBelow F z (row_class F x.upper.0)) (sym (w.left.class ∙ u))
        (subst (λ z. IsBelow F s.class.0 z) (sym (w.right.class ∙ v))
        (subclass_below P F facts (below-subclass P s.class.0 t.class.0 b))))
        (apart_free P formed typed F facts x.upper.0 w.right.item w.right.at (a w.right.item w.right.row_is))
    test_tie e o s t x g h a es ot p false b c =
        let w = both_rows o e x h g c in
        let u = ap (λ z. z.class.0) (same_Some _ _ (sym w.left.stated ∙ ot)) in
        let v = ap (λ z. z.class.0) (same_Some _ _ (sym w.right.stated ∙ es)) in
        record {
          lower = w.left.at.below;
          upper = w.right.at.below;
          below = ⊎_elim (λ i. absurd (false≢true (sym b ∙ under_below s t i))) (λ i. rows_below t s x.lower.0 x.upper.0 i (w.left.class
              ∙ u) (w.right.class ∙ v)) p;
          free = λ n c o. absurd (false≢true (sym b ∙ subst (λ z. below P s.class.0 z ≡ true) (sym (w.right.class ∙ v) ∙ sym c ∙ w.left.class
              ∙ u) (subclass-below P formed.acyclic same_class)));
        }

    -- the upper of two operands of one type
    record Alike (l r : Operand) (a b : ℕ) : Type 0 where
      lower : IsGood l
      upper : IsGood r
      left : Row l a
      right : Row r b
      dim : left.type.dim ≡ right.type.dim

    dim_cases : (d : ℕ) → (0 < d) ⊎ (d ≡ 0)
    dim_cases zero = inr refl
    dim_cases d = inl (omega arith)

    creation_free : (l r : Operand) (a b : ℕ) → Alike l r a b → is_object_row F a ≡ false → is_some l.created ≡ true → IsFreeRow b
    creation_free l r a b w o c =
        ⊎_elim (λ d. deep_free P formed typed F facts b w.right.item w.right.at w.right.number d)
        (λ z. let n = some_of l.created c in absurd (false≢true (sym o ∙ creation_object P formed typed F facts m k stands l a n.0 w.lower
        w.left n.1 (omega (arith, w.dim, w.right.dim, z)))))
        (dim_cases w.right.at.here.ty.dim)

    same_this : (l r : Operand) (a b : ℕ) → Alike l r a b → is_this l.point ≡ true → is_this r.point ≡ true → a ≡ b
    same_this l r a b w d e =
        let i : w.left.item ≡ w.right.item = same_Some _ _ (sym w.left.row_is ∙ w.lower.self d ∙ sym (w.upper.self e) ∙ w.right.row_is) in same_Some a
        b (sym w.left.number ∙ ap (row_number P) i ∙ w.right.number)

    pair_free : (l r : Operand) (a b : ℕ) → Alike l r a b → (a ≡ b → ⊥) → is_object_row F a ≡ false
        → (is_this r.point ≡ true → (is_some l.created ≡ true) ⊎ (is_this l.point ≡ true)) → (is_some r.created ≡ true → is_some l.created ≡ true)
        → IsFreeRow b
    pair_free l r a b w n o self create = go (row_standing P formed typed F facts m k stands r b w.upper w.right)
      where
        go : Standing r w.right.at.here → IsFreeRow b
        go (apart e) = apart_free P formed typed F facts b w.right.item w.right.at (ap is_apart (sym w.right.at.item) ∙ e)
        go (deep d) = deep_free P formed typed F facts b w.right.item w.right.at w.right.number d
        go (itself e) = ⊎_elim (creation_free l r a b w o) (λ d. absurd (n (same_this l r a b w d e))) (self e)
        go (made e) = creation_free l r a b w o (create e)

    same_types : (s t : ObjectType) → s.class.0 ≡ t.class.0 → s.dim ≡ t.dim → same_type s t ≡ true
    same_types s t c d = and_from (s.class.0 == t.class.0) (s.dim == t.dim) (eq-eqb s.class.0 t.class.0 c) (eq-eqb s.dim t.dim d)

    one_class : (s t : ObjectType) → same_type s t ≡ true → s.class.0 ≡ t.class.0
    one_class s t e = eqb-true s.class.0 t.class.0 (and_parts (s.class.0 == t.class.0) (s.dim == t.dim) e).0

    abbrev left_lower : Operand → Operand → Bool
    left_lower l r = left_is_lower (is_some l.created) (is_this l.point) (is_some r.created) (is_this r.point)

    lower_under : (l r : Operand) (s t : ObjectType) → is_left_lower P l r s t ≡ true → ArePaired P s t → IsUnder P s t
    lower_under l r s t e p = ⊎_elim (λ u. u) (λ u. go (same_type s t) refl e u) p
      where
        go : (b : Bool) → same_type s t ≡ b → (if same_type s t then left_lower l r else narrower P s t) ≡ true → IsUnder P t s → IsUnder P s t
        go true d e u = record { class = subst (λ z. IsSubclass P s.class.0 z) (one_class s t d) same_class; dim = sym u.dim }
        go false d e u = record {
          class = below-subclass P s.class.0 t.class.0 (and_parts (s.dim == t.dim) (below P s.class.0 t.class.0)
              (sym (ap (λ z. if z then left_lower l r else narrower P s t) d) ∙ e)).1;
          dim = sym u.dim;
        }

    upper_under : (l r : Operand) (s t : ObjectType) → is_left_lower P l r s t ≡ false → ArePaired P s t → IsUnder P t s
    upper_under l r s t e p = ⊎_elim (λ u. go (same_type s t) refl e u) (λ u. u) p
      where
        go : (b : Bool) → same_type s t ≡ b → (if same_type s t then left_lower l r else narrower P s t) ≡ false → IsUnder P s t → IsUnder P t s
        go true d e u = record { class = subst (λ z. IsSubclass P z s.class.0) (one_class s t d) same_class; dim = sym u.dim }
        go false d e u =
            absurd (false≢true (sym (sym (ap (λ z. if z then left_lower l r else narrower P s t) d) ∙ e)
            ∙ and_from (s.dim == t.dim) (below P s.class.0 t.class.0) (eq-eqb s.dim t.dim u.dim) (under_below s t u)))

    -- which is the lower, where both have one type
    lower_is : (l r : Operand) (s t : ObjectType) (b : Bool) → is_left_lower P l r s t ≡ b → ArePaired P s t → s.class.0 ≡ t.class.0 → left_lower l r ≡ b
    lower_is l r s t b e p c = sym (ap (λ z. if z then left_lower l r else narrower P s t) (same_types s t c (paired_dim P s t p))) ∙ e

    -- the row of l is tied to that of r, whose type it is under; what holds where both are of one class
    tie_from : (l r : Operand) (s t : ObjectType) (x : TieInfo) → IsGood l → IsGood r → l.ty ≡ Some s → r.ty ≡ Some t → s.dim ≡ t.dim → IsUnder P s t
        → (s.class.0 ≡ t.class.0 → (is_this r.point ≡ true → (is_some l.created ≡ true) ⊎ (is_this l.point ≡ true))
        × (is_some r.created ≡ true → is_some l.created ≡ true))
        → Contains (tied (row_at (numbers P) l) (row_at (numbers P) r)) x → IsTied x.lower.0 x.upper.0
    tie_from l r s t x g h ls rt dim under alike c =
        let w = both_rows l r x g h c in
        let u = same_Some _ _ (sym w.left.stated ∙ ls) in
        let v = same_Some _ _ (sym w.right.stated ∙ rt) in
        let like : Alike l r x.lower.0 x.upper.0 =
        record { lower = g; upper = h; left = w.left; right = w.right; dim = ap (λ z. z.dim) u ∙ dim ∙ sym (ap (λ z. z.dim) v) } in
        let lc = w.left.class ∙ ap (λ z. z.class.0) u in
        let rc = w.right.class ∙ ap (λ z. z.class.0) v in
        record {
          lower = w.left.at.below;
          upper = w.right.at.below;
          below = rows_below s t x.lower.0 x.upper.0 under lc rc;
          free = λ n c o. let e = alike (sym lc ∙ c ∙ rc) in pair_free l r x.lower.0 x.upper.0 like n o e.0 e.1;
        }

    pair_tie : (l r : Operand) (s t : ObjectType) (x : TieInfo) → IsGood l → IsGood r → l.ty ≡ Some s → r.ty ≡ Some t → ArePaired P s t → (b : Bool)
        → is_left_lower P l r s t ≡ b
        → Contains (if b then tied (row_at (numbers P) l) (row_at (numbers P) r) else tied (row_at (numbers P) r) (row_at (numbers P) l)) x
        → IsTied x.lower.0 x.upper.0
    pair_tie l r s t x g h ls rt p true b c =
        tie_from l r s t x g h ls rt (paired_dim P s t p) (lower_under l r s t b p) (λ k. let e = lower_is l r s t true b p k in (
          λ d. inl (lower_self (is_some l.created) (is_this l.point) (is_some r.created) (is_this r.point) e d),
          λ d. absurd (lower_made (is_some l.created) (is_this l.point) (is_some r.created) (is_this r.point) e d),
        )) c
    pair_tie l r s t x g h ls rt p false b c =
        tie_from r l t s x h g rt ls (sym (paired_dim P s t p)) (upper_under l r s t b p) (λ k. let e = lower_is l r s t false b p (sym k) in (
          λ d. upper_self (is_some l.created) (is_this l.point) (is_some r.created) (is_this r.point) e d,
          λ d. upper_made (is_some l.created) (is_this l.point) (is_some r.created) (is_this r.point) e d,
        )) c

    pair_ties_tied : (l r : Operand) (x : TieInfo) → IsGood l → IsGood r → ((s t : ObjectType) → l.ty ≡ Some s → r.ty ≡ Some t → ArePaired P s t)
        → (a b : Option ObjectType) → l.ty ≡ a → r.ty ≡ b → Contains (pair_ties (numbers P) P l r a b) x → IsTied x.lower.0 x.upper.0
    pair_ties_tied l r x g h f (Some s) (Some t) d e c = pair_tie l r s t x g h d e (f s t d e) (is_left_lower P l r s t) refl c
    pair_ties_tied l r x g h f (Some s) None d e c = absurd (omega (arith, c.1))
    pair_ties_tied l r x g h f None b d e c = absurd (omega (arith, c.1))

    test_ties_tied : (e o : Operand) (x : TieInfo) → IsGood e → IsGood o → ((j : RowItem) → o.row ≡ Some j → is_apart j ≡ true)
        → ((s t : ObjectType) → e.ty ≡ Some s → o.ty ≡ Some t → ArePaired P s t) → (a b : Option ObjectType) → e.ty ≡ a → o.ty ≡ b
        → Contains (test_ties (numbers P) P e o a b) x → IsTied x.lower.0 x.upper.0
    test_ties_tied q o x g h y f (Some s) (Some t) d e c = test_tie q o s t x g h y d e (f s t d e) (below P s.class.0 t.class.0) refl c
    test_ties_tied q o x g h y f (Some s) None d e c = absurd (omega (arith, c.1))
    test_ties_tied q o x g h y f None b d e c = absurd (omega (arith, c.1))

    part_tied : (p : Part) (x : TieInfo) → IsFitted P formed typed F facts m k stands p → Contains (ties_of (numbers P) P m k.slot p) x
        → IsTied x.lower.0 x.upper.0
    unfolding numbers
    part_tied (a_set v o) x f c = set_tie v o x f.0 f.1 f.2 c
    part_tied (a_return o) x f c = return_tie o x f c
    part_tied (a_store w b (Some j) o) x f c = store_tie j o x (f j refl).1 c
    part_tied (an_element_store w b o) x f c = element_tie b o x f.0 f.1 f.2 c
    part_tied (a_call w b (Some s) d es o) x f c = args_tie s es x (f.1 s refl).1.args c
    part_tied (a_creation w u o (Some s) d es) x f c = args_tie s es x (f.2 s refl).1.args c
    part_tied (a_static_call w d es o) x f c = params_tie d es x f.1.args c
    part_tied (a_super_call w (Some d) es o) x f c = params_tie d es x (f.1 d refl).1.args c
    part_tied (a_pair o l r) x f c = let z = when_from (is_comparison o) (pair_ties (numbers P) P l r l.ty r.ty) x c in pair_ties_tied l r x f.0 f.1
        (f.2 z.0) l.ty r.ty refl refl z.1
    part_tied (a_test w e o) x f c = test_ties_tied e o x f.0 f.1 f.2 f.3 e.ty o.ty refl refl c
    part_tied _ x f c = absurd (omega (arith, c.1))

  -- each tie of the facts
  pub tie_fits : (x : TieInfo) → Contains F.ties.items x → IsTied x.lower.0 x.upper.0
  tie_fits x c =
      let z = gathered_from P (λ b. ties_of (numbers P) P b.number b.slot) x ((facts.ties x).0 c) in
      part_tied z.0 z.1 z.3 z.2 x (part_fitted P formed typed F facts z.0 z.1 z.3 z.2 z.4) z.5

  pub ties_below : All (λ t. IsBelow F (row_class F t.lower.0) (row_class F t.upper.0)) F.ties.items
  ties_below = all_of (λ t. IsBelow F (row_class F t.lower.0) (row_class F t.upper.0)) F.ties.items (λ x c. (tie_fits x c).below)

  pub ties_free : (t : TieInfo) → Contains F.ties.items t → t.lower ≢ t.upper → row_class F t.lower.0 ≡ row_class F t.upper.0
      → is_object_row F t.lower.0 ≡ false → (row_this F t.upper.0 ≡ None) × (is_object_row F t.upper.0 ≡ false)
  ties_free t c n e o = (tie_fits t c).free (λ z. n (ap (λ r. record { 0 = r }) z)) e o
