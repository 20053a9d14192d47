-- The rows of operands: their classes, and which are those of a `this` or of an object site.
use Rattle.std.proofs.Common.{◌≡◌, ℕ, Option, Some, None, length, refl, sym, ap, ◌∙◌, subst, arith}
use Rattle.std.specs.Prelude.{◌<◌, ◌≤◌, ◌==◌, Bool, true, false, slice_get}
use Rattle.std.specs.Option.{option_map, option_map_or}
use Rattle.std.proofs.lemmas.Option.{same_Some}
use Rattle.std.proofs.lemmas.Bool.{false≢true, eq-eqb, ne_eqb}
use Rattle.kaba_base.specs.declared.SiteId.{SiteId}
use Rattle.java_core.specs.Programs.{Plain, PlainMethod}
use Rattle.java_core.specs.Typing.{IsTyped}
use Rattle.java_core.specs.Formed.{IsFormed}
use Rattle.fact_model.specs.Items.{row_at as info_at, site_at as site_info_at, row_class, row_this, is_object_row}
use Rattle.fact_model.specs.Classes.{IsBelow}
use Rattle.fact_model.specs.declared.facts.Facts.{Facts}
use Rattle.flow_rules.specs.declared.items.ObjectType.{ObjectType}
use Rattle.flow_rules.specs.declared.items.Operand.{Operand}
use Rattle.flow_rules.specs.declared.items.RowItem.{RowItem}
use Rattle.flow_rules.specs.declared.items.RowItem.TheVariants as row
use Rattle.flow_rules.specs.declared.items.Row.{Row}
use Rattle.flow_rules.specs.Parts.{a_creation}
use Rattle.flow_rules.specs.Lists.{row_at}
use Rattle.flow_rules.specs.Numbered.{rows_of, row_number, site_number}
use Rattle.flow_rules.specs.Facts.{row_info, numbers, site_of_row, this_of_row, IsFactsOf}
use Rattle.flow_laws.proofs.order.Rows.{row_types, item_row}
use Rattle.flow_laws.proofs.order.Sites.{own_typed, site_dim, made_site}
use Rattle.flow_laws.proofs.order.Bodies.{this_method}
use Rattle.flow_laws.proofs.order.Tests.{row_item}
use Rattle.flow_laws.proofs.order.Classes.{subclass_below}
use Rattle.flow_laws.proofs.order.Classed.{Typing}
use Rattle.flow_laws.proofs.order.Sound.{is_apart, IsOwn, IsSound, Standing}
use Rattle.flow_laws.proofs.order.Fitted.{IsValue}

module _ (P : Plain) (formed : IsFormed P) (typed : IsTyped P) (F : Facts) (facts : IsFactsOf P F) where
  -- a row of the facts, and which of the program it is
  pub record IsRowAt (r : ℕ) (i : RowItem) : Type 0 where
    pub here : Row
    pub stands : slice_get (rows_of P) r ≡ Some here
    pub item : here.item ≡ i
    pub info : info_at F r ≡ row_info (numbers P) P here
    pub below : r < length F.rows.items

  pub row_there : (i : RowItem) (r : ℕ) → row_number P i ≡ Some r → IsRowAt r i
  row_there i r e = let z = item_row P F facts i r e in record { here = z.0; stands = z.1; item = z.2; info = z.3; below = z.4 }

  pub class_of_row : (r : ℕ) (i : RowItem) (x : IsRowAt r i) → row_class F r ≡ x.here.ty.class.0
  class_of_row r i x = ap (λ i. i.class.0) x.info

  -- a row of no `this` and no object site
  abbrev pub IsFree : ℕ → Type 0
  IsFree r = (row_this F r ≡ None) × (is_object_row F r ≡ false)

  abbrev is_object_site : Option SiteId → Bool
  is_object_site o = option_map_or (λ s. (site_info_at F s.0).dim == 0) o false

  abbrev is_object_item : RowItem → Bool
  is_object_item i = is_object_site (site_of_row (numbers P) i)

  this_as : (r : ℕ) (i : RowItem) → IsRowAt r i → row_this F r ≡ this_of_row (numbers P) i
  this_as r i x = ap (λ i. i.this_of) x.info ∙ ap (this_of_row (numbers P)) x.item

  object_as : (r : ℕ) (i : RowItem) → IsRowAt r i → is_object_row F r ≡ is_object_item i
  object_as r i x = ap (λ i. is_object_site i.site) x.info ∙ ap is_object_item x.item

  item_free : (i : RowItem) → is_apart i ≡ true → (this_of_row (numbers P) i ≡ None) × (is_object_item i ≡ false)
  item_free (row.This m) e = absurd (false≢true e)
  item_free (row.New n) e = absurd (false≢true e)
  item_free _ e = (refl, refl)

  pub apart_free : (r : ℕ) (i : RowItem) → IsRowAt r i → is_apart i ≡ true → IsFree r
  apart_free r i x e = let z = item_free i e in (this_as r i x ∙ z.0, object_as r i x ∙ z.1)

  made_object : (n r : ℕ) (o : Option ℕ) (x : IsRowAt r (row.New n)) → row_number P (row.New n) ≡ Some r → site_number P n ≡ o → 0 < x.here.ty.dim
      → is_object_site (option_map (λ s. record { 0 = s }) o) ≡ false
  made_object n r None x e d h = refl
  made_object n r (Some s) x e d h =
      ne_eqb (site_info_at F s).dim 0 (λ z. absurd (omega (arith, h, z, site_dim P formed typed F facts n r s x.here x.stands x.item e d)))

  -- so is one of brackets
  pub deep_free : (r : ℕ) (i : RowItem) (x : IsRowAt r i) → row_number P i ≡ Some r → 0 < x.here.ty.dim → IsFree r
  unfolding numbers
  deep_free r (row.This m) x e h =
      absurd (omega (arith, h, ap (λ t. t.dim) (this_method P formed typed F facts m x.here (row_types P r x.here x.stands) x.item).type))
  deep_free r (row.New n) x e h = (this_as r (row.New n) x, object_as r (row.New n) x ∙ made_object n r (site_number P n) x e refl h)
  deep_free r i x e h = apart_free r i x refl

  module _ (m : ℕ) (k : PlainMethod) (stands : slice_get P.methods m ≡ Some k) where
    abbrev IsGood : Operand → Type 0
    IsGood o = IsSound P formed typed F facts m k stands o

    -- the row of an operand
    pub record HasRow (o : Operand) (r : ℕ) : Type 0 where
      pub item : RowItem
      pub row_is : o.row ≡ Some item
      pub number : row_number P item ≡ Some r
      pub at : IsRowAt r item
      pub type : ObjectType
      pub stated : o.ty ≡ Some type
      pub class : row_class F r ≡ type.class.0
      pub dim : type.dim ≤ at.here.ty.dim

    pub row_of_operand : (o : Operand) (r : ℕ) → IsGood o → row_at (numbers P) o ≡ Some r → HasRow o r
    unfolding Typing
    row_of_operand o r g e =
        let j = row_item P o.row r e in
        let x = row_there j.0 r j.2 in
        let c = g.classed j.0 r x.here j.1 x.stands x.item in
        record {
          item = j.0;
          row_is = j.1;
          number = j.2;
          at = x;
          type = c.type;
          stated = c.stated;
          class = class_of_row r j.0 x
              ∙ ap (λ z. z.0) c.class;
          dim = c.dim;
        }

    -- how the row of an operand stands
    pub row_standing : (o : Operand) (r : ℕ) → IsGood o → (h : HasRow o r) → Standing o h.at.here
    unfolding IsOwn
    row_standing o r g h = g.own h.item r h.at.here h.row_is h.at.stands h.at.item

    -- what goes into a type has a row at or below it
    pub value_below : (o : Operand) (t : Option ObjectType) (u : ObjectType) (r q : ℕ) → IsValue P formed typed F facts m k stands o t
        → row_at (numbers P) o ≡ Some r → t ≡ Some u → row_class F q ≡ u.class.0 → IsBelow F (row_class F r) (row_class F q)
    value_below o t u r q v e d c =
        let h = row_of_operand o r v.good e in
        subst (λ z. IsBelow F z (row_class F q)) (sym h.class) (subst (λ z. IsBelow F h.type.class.0 z) (sym c)
        (subclass_below P F facts (v.under h.type u h.stated d).class))

    -- a creation of an object has the row of an object site
    pub creation_object : (o : Operand) (r n : ℕ) → IsGood o → (h : HasRow o r) → o.created ≡ Some n → h.type.dim ≡ 0 → is_object_row F r ≡ true
    unfolding numbers
    creation_object o r n g h c d =
        let w = g.created n c in
        let t = own_typed P formed typed (a_creation w.place w.used o w.slot w.declaration w.arguments) o h.item r h.at.here
        (record { number = m; method = k; stands = stands; part = w.part }) refl h.row_is h.at.stands h.at.item in
        let i : h.item ≡ row.New n = same_Some _ _ (sym h.row_is ∙ w.row_is) in
        let a = ap (row_number P) (sym i) ∙ h.number in
        let s = made_site P formed typed F facts m k w.place w.used o w.slot w.declaration w.arguments n r h.type stands w.part c h.stated w.row_is a in
        object_as r h.item h.at ∙ ap is_object_item i ∙ ap (λ q. is_object_site (option_map (λ s. record { 0 = s }) q)) s.1
        ∙ eq-eqb (site_info_at F s.0).dim 0 (site_dim P formed typed F facts n r s.0 h.at.here h.at.stands (h.at.item ∙ i) a s.1
        ∙ ap (λ y. y.dim) (same_Some _ _ (sym t ∙ h.stated)) ∙ d)
