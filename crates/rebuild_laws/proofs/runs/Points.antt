-- The row of the flow point of an operand is the operand's own.
use Rattle.std.proofs.Common.{◌≡◌, ℕ, ◌<◌, List, [], ◌∷◌, Option, Some, None, length, refl, sym, ap, ◌∙◌}
use Rattle.std.specs.Prelude.{◌||◌, Bool, true, false, slice_get, Contains}
use Rattle.std.specs.Option.{is_some}
use Rattle.std.proofs.lemmas.Option.{same_Some}
use Rattle.java_core.specs.Trees.{Ex, this, local, static_field, own_field, field, index, call, static_call, super_call, create, create_array, cast}
use Rattle.java_core.specs.Programs.{Plain, PlainMethod}
use Rattle.java_core.specs.Classes.{super_method}
use Rattle.java_core.specs.Makers.{maker_of, maker_slot}
use Rattle.java_core.specs.Typing.{IsTyped}
use Rattle.java_core.specs.Formed.{IsFormed}
use Rattle.fact_model.specs.Items.{point_row}
use Rattle.fact_model.specs.declared.facts.Facts.{Facts}
use Rattle.flow_rules.specs.declared.items.Operand.{Operand}
use Rattle.flow_rules.specs.declared.items.PointAt.{PointAt}
use Rattle.flow_rules.specs.declared.items.PointItem.{PointItem}
use Rattle.flow_rules.specs.declared.items.PointItem.TheVariants as point
use Rattle.flow_rules.specs.declared.items.RowItem.{RowItem}
use Rattle.flow_rules.specs.declared.items.RowItem.TheVariants as row
use Rattle.flow_rules.specs.Operands.{object_field, call_slot, call_declaration, operands_of, this_operand, variable_row, type_in}
use Rattle.flow_rules.specs.Parts.{Part, a_load, an_element, a_creation, a_call, a_static_call, a_super_call, a_test, is_accessed, parts_of}
use Rattle.flow_rules.specs.Lists.{point_at, row_at, row_in, point_in}
use Rattle.flow_rules.specs.Facts.{numbers, IsFactsOf}
use Rattle.flow_laws.proofs.order.Points.{given_by, Follows, a_static, a_this, a_variable, a_result, a_form, point_of, item_point}
use Rattle.flow_laws.proofs.order.Tests.{part_follows}
use Rattle.flow_laws.proofs.order.Bodies.{given_labelled}
use Rattle.flow_laws.proofs.cover.Walked.{walked}
use Rattle.flow_laws.proofs.cover.Each.{right, here}

module _ (P : Plain) (formed : IsFormed P) (typed : IsTyped P) (F : Facts) (facts : IsFactsOf P F) where
  -- the rows of static fields and of `this`
  abbrev plain_row : PointItem → Option RowItem
  plain_row (point.Static f) = Some (row.Field f)
  plain_row (point.This m) = Some (row.This m)
  plain_row _ = None

  own_row : (a : PointAt) (j : RowItem) → Follows P a → plain_row a.item ≡ Some j → a.row ≡ j
  own_row a j (a_static g k e i r) h = r ∙ same_Some _ _ (ap plain_row (sym i) ∙ h)
  own_row a j (a_this n k e i r) h = r ∙ same_Some _ _ (ap plain_row (sym i) ∙ h)
  own_row a j (a_variable n k x e i r) h = absurd (let d = ap plain_row (sym i) ∙ h in cc)
  own_row a j (a_result n k e i r) h = absurd (let d = ap plain_row (sym i) ∙ h in cc)
  own_row a j (a_form n k p e c g) h = absurd (let d = ap plain_row (sym (given_labelled P formed typed n k p a e c g).1) ∙ h in cc)

  static_row : (f : ℕ) (a : PointAt) → Follows P a → a.item ≡ point.Static f → a.row ≡ row.Field f
  static_row f a s h = own_row a (row.Field f) s (ap plain_row h)

  this_row : (m : ℕ) (a : PointAt) → Follows P a → a.item ≡ point.This m → a.row ≡ row.This m
  this_row m a s h = own_row a (row.This m) s (ap plain_row h)

  -- and of variables
  local_row : (m : ℕ) (k : PlainMethod) (x : ℕ) (a : PointAt) → slice_get P.methods m ≡ Some k → Follows P a → a.item ≡ point.Local m x
      → a.row ≡ variable_row m k x
  local_row m k x a e (a_variable n j y d i r) h =
      let same : n ≡ m = cc in let place : y ≡ x = cc in
      let method : j ≡ k = same_Some j k (sym d ∙ ap (slice_get P.methods) same ∙ e) in
      r ∙ ap (λ z. variable_row z j y) same ∙ ap (λ z. variable_row m z y) method ∙ ap (λ z. variable_row m k z) place
  local_row m k x a e (a_this n j d i r) h = absurd (let d = sym i ∙ h in cc)
  local_row m k x a e (a_static f j d i r) h = absurd (let d = sym i ∙ h in cc)
  local_row m k x a e (a_result n j d i r) h = absurd (let d = sym i ∙ h in cc)
  local_row m k x a e (a_form n j p d c g) h = absurd (let d = sym (given_labelled P formed typed n j p a d c g).1 ∙ h in cc)

  module _ (m : ℕ) (k : PlainMethod) (stands : slice_get P.methods m ≡ Some k) where
    open walked P m k use {operand as O, tree, tree_all}

    abbrev InBody : Part → Type 0
    InBody p = Contains (parts_of P m k) p

    abbrev Stands : List Part → Type 0
    Stands ps = (p : Part) → Contains ps p → InBody p

    -- where the row of each point of an item is that of the operand
    at_item : (o : Operand) (i : PointItem) → o.point ≡ Some i → ((a : PointAt) → Follows P a → a.item ≡ i → o.row ≡ Some a.row) → (q : ℕ)
        → point_at (numbers P) o ≡ Some q → (row_at (numbers P) o ≡ Some (point_row F q)) × (q < length F.points.items)
    unfolding numbers
    at_item o i ei rows q eq =
        let x = item_point P F facts i q (ap (λ z. point_in (numbers P) z) (sym ei) ∙ eq) in
        let z = point_of P q x.0 x.1 in
        let same : z.at.item ≡ i = z.item ∙ x.2 in
        let at = ap (λ y. row_in (numbers P) y) (rows z.at z.follows same) in
        (at ∙ z.number ∙ ap Some (sym x.3), x.4)

    none_at : (o : Operand) → o.point ≡ None → (q : ℕ) → point_at (numbers P) o ≡ Some q
        → (row_at (numbers P) o ≡ Some (point_row F q)) × (q < length F.points.items)
    none_at o e q eq = absurd (let z = sym (ap (λ z. point_in (numbers P) z) e) ∙ eq in cc)

    given_at : (p : Part) (o : Operand) (l : ℕ) → InBody p → given_by p ≡ Some o → o.point ≡ Some (point.Expr m l) → (q : ℕ) → point_at (numbers P) o ≡ Some q
        → (row_at (numbers P) o ≡ Some (point_row F q)) × (q < length F.points.items)
    given_at p o l c g h = at_item o (point.Expr m l) h (λ a f i. part_follows P formed typed F facts m k p o l a stands c g h f i)

    pub at_this : (q : ℕ) → point_at (numbers P) (this_operand m k) ≡ Some q
        → (row_at (numbers P) (this_operand m k) ≡ Some (point_row F q)) × (q < length F.points.items)
    at_this = at_item (this_operand m k) (point.This m) refl (λ a f i. ap Some (sym (this_row m a f i)))

    pub at_operand : (u : Bool) (e : Ex) → Stands (tree u e) → (q : ℕ) → point_at (numbers P) (O e) ≡ Some q
        → (row_at (numbers P) (O e) ≡ Some (point_row F q)) × (q < length F.points.items)
    at_operand u (this t) st = at_item (O (this t)) (point.This m) refl (λ a f i. ap Some (sym (this_row m a f i)))
    at_operand u (local t x) st = at_item (O (local t x)) (point.Local m x) refl (λ a f i. ap Some (sym (local_row m k x a stands f i)))
    at_operand u (static_field t x) st = at_item (O (static_field t x)) (point.Static x) refl (λ a f i. ap Some (sym (static_row x a f i)))
    at_operand u (own_field t f) st =
        let p = a_load t.place (this_operand m k) (Some f) (O (own_field t f)) in given_at p (O (own_field t f)) t.label (here p [] st) refl refl
    at_operand u (field t e x) st =
        let p = a_load t.place (O e) (object_field P (type_in P m k e) x) (O (field t e x)) in given_at p (O (field t e x)) t.label
        (here p [] (right (tree (is_accessed e) e) (p ∷ []) st)) refl refl
    at_operand u (index t e i) st = let p = an_element t.place (O e) (O (index t e i)) in given_at p (O (index t e i)) t.label
        (here p (tree false i) (right (tree true e) (p ∷ tree false i) st)) refl refl
    at_operand u (call t e x es) st =
        let p = a_call t.place (O e) (call_slot P (type_in P m k e) x) (call_declaration P (type_in P m k e) x) (operands_of P (type_in P m k) m k es)
        (O (call t e x es)) in
        given_at p (O (call t e x es)) t.label (here p (tree_all true es) (right (tree true e) (p ∷ tree_all true es) st)) refl refl
    at_operand u (static_call t d es) st =
        let p = a_static_call t.place d (operands_of P (type_in P m k) m k es) (O (static_call t d es)) in given_at p (O (static_call t d es)) t.label
        (here p (tree_all false es) st) refl refl
    at_operand u (super_call t x es) st =
        let p = a_super_call t.place (super_method P k.owner x) (operands_of P (type_in P m k) m k es) (O (super_call t x es)) in given_at p
        (O (super_call t x es)) t.label (here p (tree_all false es) st) refl refl
    at_operand u (create t n c es) st =
        let p = a_creation t.place (u || is_some (maker_of P c)) (O (create t n c es)) (maker_slot P c) (maker_of P c)
        (operands_of P (type_in P m k) m k es) in
        given_at p (O (create t n c es)) t.label (here p (tree_all (is_some (maker_of P c)) es) st) refl refl
    at_operand u (create_array t n v e) st = let p = a_creation t.place u (O (create_array t n v e)) None None [] in given_at p
        (O (create_array t n v e)) t.label
        (here p (tree false e) st) refl refl
    at_operand u (cast t n v e) st = let p = a_test t.place (O e) (O (cast t n v e)) in given_at p (O (cast t n v e)) t.label
        (here p (tree true e) st) refl refl
    at_operand u e st = none_at (O e) refl
