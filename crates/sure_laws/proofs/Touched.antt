-- A field of an object that is read or written is one of an access of the facts, in whose row the object's site is.
use Rattle.std.proofs.Common.{◌≡◌, ℕ, [], ◌∷◌, ◌++◌, Option, Some, None, refl, sym, ap, ◌∙◌, subst, arith}
use Rattle.std.specs.Prelude.{◌==◌, Bool, true, Contains, slice_get, position, get_or}
use Rattle.std.specs.Option.{is_some}
use Rattle.std.proofs.lemmas.Bool.{false≢true, eqb-true, and_parts}
use Rattle.std.proofs.lemmas.Option.{same_Some, slice_get-get_or}
use Rattle.std.proofs.lemmas.List.Quantifiers.{position-Some}
use Rattle.kaba_base.specs.declared.Place.{Place}
use Rattle.java_core.specs.Trees.{Ex, this, local, static_field, own_field, field, index, call, static_call, super_call, create, create_array, cast, Target, to_local, to_static, to_own, to_field, to_element, no_target, instance_of, binary}
use Rattle.java_core.specs.Programs.{Plain, PlainMethod}
use Rattle.java_core.specs.Typing.{IsTyped}
use Rattle.java_core.specs.Formed.{IsFormed}
use Rattle.fact_model.specs.Items.{point_row}
use Rattle.fact_model.specs.declared.facts.Facts.{Facts}
use Rattle.fact_model.specs.declared.facts.AccessInfo.{AccessInfo}
use Rattle.flow_rules.specs.declared.items.Operand.{Operand}
use Rattle.flow_rules.specs.declared.items.ColumnItem.TheVariants as column
use Rattle.flow_rules.specs.declared.items.PointAt.{PointAt}
use Rattle.flow_rules.specs.declared.items.PointItem.{PointItem}
use Rattle.flow_rules.specs.declared.items.PointItem.TheVariants as point
use Rattle.flow_rules.specs.declared.items.RowItem.TheVariants as row
use Rattle.flow_rules.specs.Operands.{variable_row, this_operand, type_in}
use Rattle.flow_rules.specs.Numbered.{point_number}
use Rattle.flow_rules.specs.Parts.{Part, a_load, a_set, a_store, is_accessed, nothing, parts_assign, parts_of}
use Rattle.flow_rules.specs.Lists.{point_at, point_in, row_at, row_in, accessed, accesses_of}
use Rattle.flow_rules.specs.Facts.{numbers, IsFactsOf}
use Rattle.flow_rules.proofs.Listed.{one, one_from, contains_at}
use Rattle.flow_laws.specs.cover.Covers.{Sets, operand_at}
use Rattle.flow_laws.proofs.cover.Included.{same_number, accesses_as}
use Rattle.flow_laws.proofs.cover.Each.{left, right, here}
use Rattle.flow_laws.proofs.cover.Forms.{own, own_assign, From, from_ex, from_assign, from_declare, from_return, part_from}
use Rattle.flow_laws.proofs.cover.Walked.{walked}
use Rattle.flow_laws.proofs.order.Points.{IsGiven, Follows, a_static, a_this, a_variable, a_result, a_form, given_by, point_of, item_point}
use Rattle.flow_laws.proofs.order.Sites.{part_labelled}
use Rattle.flow_laws.proofs.order.OwnParts.{HasLabel}
use Rattle.flow_laws.proofs.order.Tests.{gathered_has, part_follows}

module _ (P : Plain) (formed : IsFormed P) (typed : IsTyped P) (F : Facts) (facts : IsFactsOf P F) (m : ℕ) (k : PlainMethod)
    (stands : slice_get P.methods m ≡ Some k) where
  open walked P m k use {operand as at, tree, Stands}

  -- the row of a point that an operand is
  abbrev HasRow : Operand → Type 0
  HasRow o = (q : ℕ) → point_at (numbers P) o ≡ Some q → row_at (numbers P) o ≡ Some (point_row F q)

  -- what a point follows has the row of the operand
  row_of_point : (o : Operand) (i : PointItem) → o.point ≡ Some i → ((a : PointAt) → Follows P a → a.item ≡ i → o.row ≡ Some a.row) → HasRow o
  unfolding numbers
  row_of_point o i ei same q e =
      let n : point_number P i ≡ Some q = subst (λ z. point_in (numbers P) z ≡ Some q) ei e in
      let z = item_point P F facts i q n in
      let f = point_of P q z.0 z.1 in
      ap (λ y. row_in (numbers P) y) (same f.at f.follows (f.item ∙ z.2)) ∙ f.number ∙ ap (λ y. Some y) (sym z.3)

  form_row : (p : Part) (o : Operand) (l : ℕ) → Contains (parts_of P m k) p → given_by p ≡ Some o → o.point ≡ Some (point.Expr m l) → HasRow o
  form_row p o l c g ei = row_of_point o (point.Expr m l) ei (λ a f i. part_follows P formed typed F facts m k p o l a stands c g ei f i)

  plain_row : (o : Operand) → o.point ≡ None → HasRow o
  plain_row o ep q e = absurd (let z = sym (ap (λ y. point_in (numbers P) y) ep) ∙ e in cc)

  this_row : (o : Operand) → o.point ≡ Some (point.This m) → o.row ≡ Some (row.This m) → HasRow o
  this_row o ep er = row_of_point o (point.This m) ep same
    where
      same : (a : PointAt) → Follows P a → a.item ≡ point.This m → o.row ≡ Some a.row
      same a (a_this n j d s r) i = er ∙ ap (λ z. Some z) (sym (r ∙ ap row.This (let z : n ≡ m = let w = sym s ∙ i in cc in z)))
      same a (a_static f j d s r) i = absurd (let w = sym s ∙ i in cc)
      same a (a_variable n j x d s r) i = absurd (let w = sym s ∙ i in cc)
      same a (a_result n j d s r) i = absurd (let w = sym s ∙ i in cc)
      same a (a_form n j q d c g) i = absurd (form_item n j q d c g i)
        where
          form_item : (n : ℕ) (j : PlainMethod) (q : Part) → slice_get P.methods n ≡ Some j → Contains (parts_of P n j) q → IsGiven a q
              → a.item ≡ point.This m → ⊥
          form_item n j q d c g i =
              let y = subst (λ z. HasLabel n z) g.given (part_labelled P formed typed q (record { number = n; method = j; stands = d; part = c })) in
              let w = sym y.1 ∙ g.point_is ∙ ap (λ z. Some z) i in cc

  variable_row_is : (o : Operand) (x : ℕ) → o.point ≡ Some (point.Local m x) → o.row ≡ Some (variable_row m k x) → HasRow o
  variable_row_is o x ep er = row_of_point o (point.Local m x) ep same
    where
      same : (a : PointAt) → Follows P a → a.item ≡ point.Local m x → o.row ≡ Some a.row
      same a (a_variable n j y d s r) i =
          let w = sym s ∙ i in
          let en : n ≡ m = cc in
          let ey : y ≡ x = cc in
          let ej : j ≡ k = same_Some j k (sym d ∙ ap (slice_get P.methods) en ∙ stands) in
          er ∙ ap (λ z. Some z) (sym (r ∙ ap (λ z. variable_row z j y) en ∙ ap (λ z. variable_row m z y) ej ∙ ap (λ z. variable_row m k z) ey))
      same a (a_this n j d s r) i = absurd (let w = sym s ∙ i in cc)
      same a (a_static f j d s r) i = absurd (let w = sym s ∙ i in cc)
      same a (a_result n j d s r) i = absurd (let w = sym s ∙ i in cc)
      same a (a_form n j q d c g) i = absurd (form_item n j q d c g i)
        where
          form_item : (n : ℕ) (j : PlainMethod) (q : Part) → slice_get P.methods n ≡ Some j → Contains (parts_of P n j) q → IsGiven a q
              → a.item ≡ point.Local m x → ⊥
          form_item n j q d c g i =
              let y = subst (λ z. HasLabel n z) g.given (part_labelled P formed typed q (record { number = n; method = j; stands = d; part = c })) in
              let w = sym y.1 ∙ g.point_is ∙ ap (λ z. Some z) i in cc

  static_row : (o : Operand) (f : ℕ) → o.point ≡ Some (point.Static f) → o.row ≡ Some (row.Field f) → HasRow o
  static_row o f ep er = row_of_point o (point.Static f) ep same
    where
      same : (a : PointAt) → Follows P a → a.item ≡ point.Static f → o.row ≡ Some a.row
      same a (a_static g j d s r) i = er ∙ ap (λ z. Some z) (sym (r ∙ ap row.Field (let z : g ≡ f = let w = sym s ∙ i in cc in z)))
      same a (a_this n j d s r) i = absurd (let w = sym s ∙ i in cc)
      same a (a_variable n j x d s r) i = absurd (let w = sym s ∙ i in cc)
      same a (a_result n j d s r) i = absurd (let w = sym s ∙ i in cc)
      same a (a_form n j q d c g) i = absurd (form_item n j q d c g i)
        where
          form_item : (n : ℕ) (j : PlainMethod) (q : Part) → slice_get P.methods n ≡ Some j → Contains (parts_of P n j) q → IsGiven a q
              → a.item ≡ point.Static f → ⊥
          form_item n j q d c g i =
              let y = subst (λ z. HasLabel n z) g.given (part_labelled P formed typed q (record { number = n; method = j; stands = d; part = c })) in
              let w = sym y.1 ∙ g.point_is ∙ ap (λ z. Some z) i in cc

  -- the point of an expression of the body, where it has one, has its row
  expression_row : (u : Bool) (e : Ex) → Stands (tree u e) → HasRow (at e)
  expression_row u (this t) st = this_row (at (this t)) refl refl
  expression_row u (local t x) st = variable_row_is (at (local t x)) x refl refl
  expression_row u (static_field t f) st = static_row (at (static_field t f)) f refl refl
  expression_row u (own_field t f) st = form_row _ (at (own_field t f)) t.label (here _ [] st) refl refl
  expression_row u (field t e x) st = form_row _ (at (field t e x)) t.label (here _ [] (right (tree (is_accessed e) e) _ st)) refl refl
  expression_row u (index t e i) st = form_row _ (at (index t e i)) t.label (here _ _ (right (tree true e) _ st)) refl refl
  expression_row u (call t e x es) st = form_row _ (at (call t e x es)) t.label (here _ _ (right (tree true e) _ st)) refl refl
  expression_row u (static_call t d es) st = form_row _ (at (static_call t d es)) t.label (here _ _ st) refl refl
  expression_row u (super_call t x es) st = form_row _ (at (super_call t x es)) t.label (here _ _ st) refl refl
  expression_row u (create t n c es) st = form_row _ (at (create t n c es)) t.label (here _ _ st) refl refl
  expression_row u (create_array t n v e) st = form_row _ (at (create_array t n v e)) t.label (here _ _ st) refl refl
  expression_row u (cast t n v e) st = form_row _ (at (cast t n v e)) t.label (here _ _ st) refl refl
  expression_row u e st = plain_row (at e) refl

  -- the base of an access
  abbrev base_of : Part → Option Operand
  base_of (a_load p b f o) = Some b
  base_of (a_store p b f o) = Some b
  base_of p = None

  this_base : HasRow (this_operand m k)
  this_base = this_row (this_operand m k) refl refl

  is_base : {q : Part} (p : Part) (b c : Operand) → Contains (q ∷ []) p → base_of p ≡ Some b → base_of q ≡ Some c → HasRow c → HasRow b
  is_base p b c w e d h = subst HasRow (same_Some c b (sym d ∙ ap base_of (one_from _ p w) ∙ e)) h

  no_base : {q : Part} {A : Type 0} (p : Part) (b : Operand) → Contains (q ∷ []) p → base_of p ≡ Some b → base_of q ≡ None → A
  no_base p b w e d = absurd (let z = sym d ∙ ap base_of (one_from _ p w) ∙ e in cc)

  form_base : (u : Bool) (e : Ex) (p : Part) (b : Operand) → Stands (tree u e) → Contains (own P m k u e) p → base_of p ≡ Some b → HasRow b
  form_base u (own_field t f) p b st c h = is_base p b _ c h refl this_base
  form_base u (field t e x) p b st c h = is_base p b _ c h refl (expression_row (is_accessed e) e (left (tree (is_accessed e) e) _ st))
  form_base u (index t e i) p b st c h = no_base p b c h refl
  form_base u (call t e x es) p b st c h = no_base p b c h refl
  form_base u (static_call t d es) p b st c h = no_base p b c h refl
  form_base u (super_call t x es) p b st c h = no_base p b c h refl
  form_base u (create t n d es) p b st c h = no_base p b c h refl
  form_base u (create_array t n v e) p b st c h = no_base p b c h refl
  form_base u (cast t n v e) p b st c h = no_base p b c h refl
  form_base u (instance_of t n e d) p b st c h = no_base p b c h refl
  form_base u (binary t o e d) p b st c h = no_base p b c h refl
  form_base u e p b st c h = absurd (omega (arith, c.1))

  assign_base : (w : Place) (d : Target) (e : Ex) (p : Part) (b : Operand) → Stands (parts_assign P (type_in P m k) m k w d e)
      → Contains (own_assign P m k w d e) p → base_of p ≡ Some b → HasRow b
  assign_base w (to_local t i) e p b st c h = no_base p b c h refl
  assign_base w (to_static t f) e p b st c h = no_base p b c h refl
  assign_base w (to_own t f) e p b st c h = is_base p b _ c h refl this_base
  assign_base w (to_field t d x) e p b st c h = is_base p b _ c h refl
      (expression_row (is_accessed d) d (left (tree (is_accessed d) d) (tree true e) (left (tree (is_accessed d) d ++ tree true e) _ st)))
  assign_base w (to_element t d i) e p b st c h = no_base p b c h refl
  assign_base w no_target e p b st c h = no_base p b c h refl

  from_base : (p : Part) (b : Operand) → From P m k p → base_of p ≡ Some b → HasRow b
  from_base p b (from_ex u e a f st c) h = form_base u e p b st c h
  from_base p b (from_assign s d e x a f q st c) h = assign_base s.place d e p b st c h
  from_base p b (from_declare s i e a f st c) h = no_base p b c h refl
  from_base p b (from_return e a r f st c) h = no_base p b c h refl

  -- the base of a part of the body has the row of its point
  pub base_row : (p : Part) (b : Operand) → Contains (parts_of P m k) p → base_of p ≡ Some b → HasRow b
  base_row p b c h = from_base p b (part_from P formed typed m k stands p c) h

  module _ (S : Sets) where
    -- an access of the facts at a point
    pub record IsAccessed (q d : ℕ) : Type 0 where
      pub access : AccessInfo
      pub listed : Contains F.accesses.items access
      pub row : access.row.0 ≡ point_row F q
      pub column : access.column.0 ≡ d

    listed_access : (p : Part) (b : Operand) (g q d : ℕ) → Contains (parts_of P m k) p → accesses_of (numbers P) p ≡ accessed (row_at (numbers P) b)
        ((numbers P).column (column.Fld g)) → HasRow b → point_at (numbers P) b ≡ Some q → (numbers P).column (column.Fld g) ≡ Some d → IsAccessed q d
    listed_access p b g q d c e r eq ed =
        let x : AccessInfo = record { row = record { 0 = point_row F q }; column = record { 0 = d } } in
        record {
          access = x;
          listed = (facts.accesses x).1 (gathered_has P (λ b. accesses_of (numbers P)) x m k p stands c
              (subst (λ z. Contains z x) (sym e) (subst (λ z. Contains (accessed z ((numbers P).column (column.Fld g))) x) (sym (r q eq))
              (subst (λ z. Contains (accessed (Some (point_row F q)) z) x) (sym ed) (one x)))));
          row = refl;
          column = refl;
        }

    points_are : (a b : Option ℕ) (q : ℕ) → same_number P F S a b ≡ true → b ≡ Some q → a ≡ Some q
    points_are None b q h e = absurd (false≢true h)
    points_are (Some a) None q h e = absurd (false≢true h)
    points_are (Some a) (Some b) q h e = ap (λ z. Some z) (eqb-true a b h) ∙ e

    access_at : (e : Ex) (f q d : ℕ) (p : Part) → Contains (parts_of P m k) p → accesses_as P F S m e f p ≡ true
        → point_at (numbers P) (operand_at P m e) ≡ Some q → (numbers P).column (column.Fld f) ≡ Some d → IsAccessed q d
    access_at e f q d (a_load w b (Some g) o) c h eq ed =
        let z = and_parts (g == f) (same_number P F S (point_at (numbers P) b) (point_at (numbers P) (operand_at P m e))) h in
        listed_access (a_load w b (Some g) o) b g q d c refl (base_row (a_load w b (Some g) o) b c refl)
        (points_are (point_at (numbers P) b) (point_at (numbers P) (operand_at P m e)) q z.1 eq) (ap (λ y. (numbers P).column (column.Fld y))
        (eqb-true g f z.0) ∙ ed)
    access_at e f q d (a_store w b (Some g) o) c h eq ed =
        let z = and_parts (g == f) (same_number P F S (point_at (numbers P) b) (point_at (numbers P) (operand_at P m e))) h in
        listed_access (a_store w b (Some g) o) b g q d c refl (base_row (a_store w b (Some g) o) b c refl)
        (points_are (point_at (numbers P) b) (point_at (numbers P) (operand_at P m e)) q z.1 eq) (ap (λ y. (numbers P).column (column.Fld y))
        (eqb-true g f z.0) ∙ ed)
    access_at e f q d (a_load w b None o) c h eq ed = absurd (false≢true h)
    access_at e f q d (a_store w b None o) c h eq ed = absurd (false≢true h)
    access_at e f q d p c h eq ed = absurd (false≢true h)

    -- where a part of the body accesses the field of an expression, the facts have the access
    pub is_accessed_at : (e : Ex) (f q d : ℕ) → is_some (position (accesses_as P F S m e f) (parts_of P m k)) ≡ true
        → point_at (numbers P) (operand_at P m e) ≡ Some q → (numbers P).column (column.Fld f) ≡ Some d → IsAccessed q d
    is_accessed_at e f q d h eq ed = go (position (accesses_as P F S m e f) (parts_of P m k)) refl h
      where
        go : (z : Option ℕ) → position (accesses_as P F S m e f) (parts_of P m k) ≡ z → is_some z ≡ true → IsAccessed q d
        go None g h = absurd (false≢true h)
        go (Some i) g h =
            let none : Part = a_set nothing nothing in
            let y = position-Some (accesses_as P F S m e f) (parts_of P m k) i none g in
            access_at e f q d (get_or (parts_of P m k) i none) (contains_at (parts_of P m k) i _ (slice_get-get_or (parts_of P m k) i none y.0)) y.1 eq ed
