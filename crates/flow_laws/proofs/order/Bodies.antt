-- Bodies and their `this`: each body has one, and one entry among the bodies.
use Rattle.std.proofs.Common.{◌≡◌, ℕ, zero, suc, ◌+◌, List, [], ◌∷◌, ◌++◌, Option, Some, None, length, refl, sym, ap, ◌∙◌, subst, arith, ⊎_elim}
use Rattle.std.specs.Prelude.{◌≢◌, ◌≤◌, ◌<◌, nat_lt, true, false, Contains, All, AllPairs, slice_get}
use Rattle.std.specs.Option.{option_map, option_map_or, is_some}
use Rattle.std.proofs.lemmas.Option.{same_Some}
use Rattle.kaba_base.specs.declared.ColId.{ColId}
use Rattle.java_core.specs.Programs.{Plain, PlainMethod}
use Rattle.java_core.specs.Typing.{IsTyped}
use Rattle.java_core.specs.Formed.{IsFormed}
use Rattle.fact_model.specs.Items.{row_at as info_at, row_this, column_kind, point_row, column_at as column_info_at}
use Rattle.fact_model.specs.InOrder.{IsDef, HasOneThis}
use Rattle.fact_model.specs.declared.facts.Facts.{Facts}
use Rattle.fact_model.specs.declared.facts.ColKind.TheVariants as kind
use Rattle.flow_rules.specs.declared.items.RowItem.{RowItem}
use Rattle.flow_rules.specs.declared.items.RowItem.TheVariants as row
use Rattle.flow_rules.specs.declared.items.PointItem.TheVariants as point
use Rattle.flow_rules.specs.declared.items.PointAt.{PointAt}
use Rattle.flow_rules.specs.declared.items.Row.{Row}
use Rattle.flow_rules.specs.declared.items.ColumnItem.{ColumnItem}
use Rattle.flow_rules.specs.declared.items.ColumnItem.TheVariants as column
use Rattle.flow_rules.specs.declared.items.Column.{Column}
use Rattle.flow_rules.specs.Ordered.{each}
use Rattle.flow_rules.specs.Parts.{Part, parts_of}
use Rattle.flow_rules.specs.Numbered.{row_number, columns_of, column_number, point_number}
use Rattle.flow_rules.specs.Facts.{this_of_row, site_of_row, column_info, PlainBody, numbers, body_seen, body_if, column_body, param_points, IsFactsOf}
use Rattle.flow_rules.proofs.Listed.{first, below_at, at_map, index_at, each_has, each_from_zero, map_has, map_from, one_from, all_of}
use Rattle.flow_rules.proofs.NumberedItems.{numbered_columns, numbered_rows}
use Rattle.flow_laws.proofs.order.Columns.{Stands, for_field, for_declaration, for_body, for_mark, item_of, numbered_column}
use Rattle.flow_laws.proofs.cover.Numbers.{number_in}
use Rattle.flow_laws.proofs.order.OwnParts.{HasLabel}
use Rattle.flow_laws.proofs.order.Sites.{numbered_own, part_numbered, part_labelled}
use Rattle.flow_laws.proofs.order.Rows.{Types, for_field as types_field, for_this as types_this, for_result as types_result, for_variable as types_variable, for_part as types_part, row_types, item_row, row_cases, all_results, all_variables}
use Rattle.flow_laws.proofs.order.Points.{IsGiven, Follows, a_static, a_this, a_variable, a_result, a_form, point_of, item_point}
use Rattle.flow_laws.proofs.cover.HasNumbers.{this_row, this_point}

-- a list that has at most one item for each number rises
module _ {B : Type 0} (key : B → ℕ) where
  data Rises : ℕ → List B → Type 0 where
    none : {n : ℕ} → Rises n []
    then : {n : ℕ} {b : B} {bs : List B} → n ≤ key b → Rises (key b + 1) bs → Rises n (b ∷ bs)

  later : {n k : ℕ} {bs : List B} → n ≤ k → Rises k bs → Rises n bs
  later h none = none
  later h (then e r) = then (omega (arith, h, e)) r

  least : {n : ℕ} {bs : List B} (j : ℕ) (b : B) → Rises n bs → slice_get bs j ≡ Some b → n ≤ key b
  least j b none e = absurd (cc)
  least {n = n} zero b (then {b = c} h r) e = subst (λ z. n ≤ key z) (same_Some c b e) h
  least (suc j) b (then h r) e = omega (arith, h, least j b r e)

  rising : {n : ℕ} {bs : List B} (i j : ℕ) (a b : B) → Rises n bs → i < j → slice_get bs i ≡ Some a → slice_get bs j ≡ Some b → key a < key b
  rising i j a b none h d e = absurd (cc)
  rising i zero a b (then g r) h d e = absurd (omega (arith, h))
  rising zero (suc j) a b (then {b = c} g r) h d e = omega (arith, ap key (same_Some c a d), least j b r e)
  rising (suc i) (suc j) a b (then g r) h d e = rising i j a b r (omega (arith, h)) d e

abbrev this_number : RowItem → Option ℕ
this_number (row.This m) = Some m
this_number _ = None

module _ (P : Plain) (formed : IsFormed P) (typed : IsTyped P) where
  pub given_labelled : (m : ℕ) (k : PlainMethod) (p : Part) (a : PointAt) → slice_get P.methods m ≡ Some k → Contains (parts_of P m k) p → IsGiven a p
      → (l : ℕ) × (a.item ≡ point.Expr m l)
  given_labelled m k p a e c g =
      let z = subst (λ o. HasLabel m o) g.given (part_labelled P formed typed p (record { number = m; method = k; stands = e; part = c })) in
      (z.0, same_Some _ _ (sym g.point_is ∙ z.1))

  -- the row of the point of a `this`
  this_follows : (m : ℕ) (a : PointAt) → Follows P a → a.item ≡ point.This m → a.row ≡ row.This m
  this_follows m a (a_this n k e i r) h = cc
  this_follows m a (a_static f k e i r) h = absurd (cc)
  this_follows m a (a_variable n k j e i r) h = absurd (cc)
  this_follows m a (a_result n k e i r) h = absurd (cc)
  this_follows m a (a_form n k p e c g) h = absurd (let d = sym (given_labelled n k p a e c g).1 ∙ h in cc)

  module _ (F : Facts) (facts : IsFactsOf P F) where
    -- a row with a `this` is that of a body
    pub record IsThisRow (v : ℕ) (d : ColId) : Type 0 where
      pub method : ℕ
      pub row_is : row_number P (row.This method) ≡ Some v
      pub column_is : column_number P (column.Def method) ≡ Some d.0
      pub no_site : (info_at F v).site ≡ None

    this_item : (v : ℕ) (d : ColId) (i : RowItem) → row_number P i ≡ Some v → (info_at F v).site ≡ site_of_row (numbers P) i
        → this_of_row (numbers P) i ≡ Some d → IsThisRow v d
    unfolding numbers
    this_item v d (row.This m) a b e = record { method = m; row_is = a; column_is = go (column_number P (column.Def m)) refl e; no_site = b }
      where
        go : (o : Option ℕ) → column_number P (column.Def m) ≡ o → option_map (λ c. record { 0 = c }) o ≡ Some d → column_number P (column.Def m) ≡ Some d.0
        go None h e = absurd (cc)
        go (Some c) h e = h ∙ ap (λ z. Some z.0) (same_Some _ d e)
    this_item v d _ a b e = absurd (cc)

    pub this_row_of : (v : ℕ) (d : ColId) → row_this F v ≡ Some d → IsThisRow v d
    this_row_of v d e =
        ⊎_elim (λ z. this_item v d z.row_is.item ((numbered_rows P).back v z.row_is z.stands) (ap (λ i. i.site) z.info)
        (sym (ap (λ i. i.this_of) z.info) ∙ e))
        (λ z. absurd (let g = sym (ap (λ i. i.this_of) z) ∙ e in cc)) (row_cases P F facts v)

    pub this_body : (v : ℕ) (d : ColId) → row_this F v ≡ Some d → IsDef F d.0
    this_body v d e = let z = this_row_of v d e in ap (λ i. i.kind) (numbered_column P F facts (column.Def z.method) d.0 z.column_is).1

    pub this_site : (v : ℕ) (d : ColId) → row_this F v ≡ Some d → (info_at F v).site ≡ None
    this_site v d e = (this_row_of v d e).no_site

    -- the entry of a body
    body_part : (c : ℕ) (i : ColumnItem) (b : PlainBody) → Contains (column_body (numbers P) P c i) b → (m : ℕ) × (i ≡ column.Def m) × (b.column ≡ c)
    unfolding numbers
    body_part c (column.Def m) b h = go (slice_get P.methods m) h
      where
        inner : (k : PlainMethod) (t : Option ℕ) → Contains (body_if (numbers P) P c m k t) b → b.column ≡ c
        inner k None h = absurd (omega (arith, h.1))
        inner k (Some t) h = sym (ap (λ z. z.column) (one_from _ b h))

        go : (o : Option PlainMethod) → Contains (option_map_or (λ k. body_if (numbers P) P c m k (point_number P (point.This m))) o []) b
            → (n : ℕ) × (column.Def m ≡ column.Def n) × (b.column ≡ c)
        go None h = absurd (omega (arith, h.1))
        go (Some k) h = (m, refl, inner k (point_number P (point.This m)) h)
    body_part c _ b h = absurd (omega (arith, h.1))

    abbrev entries : List PlainBody
    entries = each (λ c k. column_body (numbers P) P c k.item) 0 (columns_of P)

    pub listed : All (λ b. IsDef F b.column.0) F.bodies.items
    listed = all_of (λ b. IsDef F b.column.0) F.bodies.items
        (λ b c. let z = each_from_zero (λ c k. column_body (numbers P) P c k.item) (columns_of P) (body_seen b)
        (subst (λ w. Contains w (body_seen b)) facts.bodies (map_has body_seen F.bodies.items b c)) in
        let p = body_part z.0 z.1.item (body_seen b) z.3 in
        let n = numbered_column P F facts z.1.item z.0 ((numbered_columns P).back z.0 z.1 z.2) in
        ap (λ w. column_kind F w) p.2 ∙ ap (λ i. i.kind) n.1 ∙ ap (λ i. (column_info P i).kind) p.1)

    -- the entries rise by column
    rise_entry : (c : ℕ) (i : ColumnItem) (bs : List PlainBody) → Rises (λ b. b.column) (c + 1) bs
        → Rises (λ b. b.column) c (column_body (numbers P) P c i ++ bs)
    unfolding numbers
    rise_entry c (column.Def m) bs r = go (slice_get P.methods m)
      where
        inner : (k : PlainMethod) (t : Option ℕ) → Rises (λ b. b.column) c (body_if (numbers P) P c m k t ++ bs)
        inner k None = later (λ b. b.column) (omega arith) r
        inner k (Some t) = then (omega arith) r

        go : (o : Option PlainMethod)
            → Rises (λ b. b.column) c (option_map_or (λ k. body_if (numbers P) P c m k (point_number P (point.This m))) o [] ++ bs)
        go None = later (λ b. b.column) (omega arith) r
        go (Some k) = inner k (point_number P (point.This m))
    rise_entry c (column.Fld f) bs r = later (λ b. b.column) (omega arith) r
    rise_entry c (column.Dcl f) bs r = later (λ b. b.column) (omega arith) r
    rise_entry c (column.Is f) bs r = later (λ b. b.column) (omega arith) r

    rise : (n : ℕ) (xs : List Column) → Rises (λ b. b.column) n (each (λ c k. column_body (numbers P) P c k.item) n xs)
    rise n [] = none
    rise n (x ∷ xs) = rise_entry n x.item (each (λ c k. column_body (numbers P) P c k.item) (n + 1) xs) (rise (n + 1) xs)

    pub apart : AllPairs (λ a b. a.column ≢ b.column) F.bodies.items
    apart i j d lt within e =
        let a = below_at F.bodies.items i (omega (arith, lt, within)) in
        let b = below_at F.bodies.items j within in
        let x = subst (λ w. slice_get w i ≡ Some (body_seen a.0)) facts.bodies (at_map body_seen F.bodies.items i a.0 a.1) in
        let y = subst (λ w. slice_get w j ≡ Some (body_seen b.0)) facts.bodies (at_map body_seen F.bodies.items j b.0 b.1) in
        let z = rising (λ b. b.column) i j (body_seen a.0) (body_seen b.0) (rise 0 (columns_of P)) lt x y in
        let g = ap (λ c. c.0) (sym (ap (λ k. k.column) (index_at F.bodies.items i d a.0 a.1)) ∙ e ∙ ap (λ k. k.column) (index_at F.bodies.items j d b.0 b.1)) in
        absurd (omega (arith, z, g))

    -- the method and the type of the row of a `this`
    pub record IsThisMethod (m : ℕ) (x : Row) : Type 0 where
      pub method : PlainMethod
      pub stands : slice_get P.methods m ≡ Some method
      pub bodied : is_some method.body ≡ true
      pub instance : method.is_static ≡ false
      pub type : x.ty ≡ record { class = record { 0 = method.owner }; dim = 0 }

    pub this_method : (m : ℕ) (x : Row) → Types P x → x.item ≡ row.This m → IsThisMethod m x
    this_method m x (types_this n l d b s i t) h =
        let g : n ≡ m = cc in
        record { method = l; stands = subst (λ z. slice_get P.methods z ≡ Some l) g d; bodied = b; instance = s; type = same_Some _ _ (sym t) }
    this_method m x (types_field f l d i t) h = absurd (cc)
    this_method m x (types_result n l d i t) h =
        absurd (let g = sym (all_results this_number None (λ s. refl) (λ m. refl) l.slot n) ∙ sym (ap this_number i) ∙ ap this_number h in cc)
    this_method m x (types_variable n l j v d u i t) h =
        absurd (let g = sym (all_variables this_number None (λ s i. refl) (λ m i. refl) l.slot (nat_lt j (length l.params)) n j)
        ∙ sym (ap this_number i) ∙ ap this_number h in cc)
    this_method m x (types_part n l p d c o) h =
        let z = numbered_own p o.operand (part_numbered P formed typed p (record { number = n; method = l; stands = d; part = c })) o.own in
        absurd (let g : [] ≡ z.0 ∷ [] = sym (ap number_in (o.row_is ∙ ap Some h)) ∙ z.1 in cc)

    pub this_type : (m : ℕ) (k : PlainMethod) (x : Row) → slice_get P.methods m ≡ Some k → Types P x → x.item ≡ row.This m
        → x.ty ≡ record { class = record { 0 = k.owner }; dim = 0 }
    this_type m k x e t h = let z = this_method m x t h in z.type ∙ ap (λ l. record { class = record { 0 = l.owner }; dim = 0 })
        (same_Some z.method k (sym z.stands ∙ e))

    -- the method of a column of a body
    pub record IsBodyColumn (d : ℕ) : Type 0 where
      pub method : ℕ
      pub plain : PlainMethod
      pub stands : slice_get P.methods method ≡ Some plain
      pub instance : plain.is_static ≡ false
      pub bodied : is_some plain.body ≡ true
      pub number : column_number P (column.Def method) ≡ Some d
      pub info : column_info_at F d ≡ column_info P (column.Def method)

    body_item : (d : ℕ) (i : ColumnItem) → Stands P i → column_number P i ≡ Some d → column_info_at F d ≡ column_info P i → (column_info P i).kind
        ≡ kind.Def → IsBodyColumn d
    body_item d _ (for_body m k e s b) n f g = record { method = m; plain = k; stands = e; instance = s; bodied = b; number = n; info = f }
    body_item d _ (for_field m k e s) n f g = absurd (cc)
    body_item d _ (for_declaration m k e s) n f g = absurd (cc)
    body_item d _ (for_mark c) n f g = absurd (cc)

    pub body_column_of : (d : ℕ) → d < length F.columns.items → IsDef F d → IsBodyColumn d
    body_column_of d h k = let z = item_of P F facts d h in body_item d z.item z.stands z.number z.info (sym (ap (λ i. i.kind) z.info) ∙ k)

    pub this_column : (m d : ℕ) → column_number P (column.Def m) ≡ Some d → this_of_row (numbers P) (row.This m) ≡ Some (record { 0 = d })
    unfolding numbers
    this_column m d e = ap (option_map (λ c. record { 0 = c })) e

    same_def : (m n d : ℕ) → column_number P (column.Def m) ≡ Some d → column_number P (column.Def n) ≡ Some d → m ≡ n
    same_def m n d a b =
        let x = (numbered_columns P).at (column.Def m) d a in
        let y = (numbered_columns P).at (column.Def n) d b in
        let g : column.Def m ≡ column.Def n = sym x.2 ∙ ap (λ z. z.item) (same_Some _ _ (sym x.1 ∙ y.1)) ∙ y.2 in cc

    pub one_this : (d : ℕ) → d < length F.columns.items → IsDef F d → HasOneThis F d
    unfolding numbers
    one_this d h k =
        let b = body_column_of d h k in
        let m = b.method in
        let r = this_row P m b.plain b.stands b.bodied b.instance in
        let w = item_row P F facts (row.This m) r.0 r.1 in
        let q = this_point P m b.plain b.stands b.bodied b.instance r.0 r.1 in
        let x = item_point P F facts (point.This m) q.0 q.1 in
        let f = point_of P q.0 x.0 x.1 in
        let col = (numbered_columns P).at (column.Def m) d b.number in
        let entry : PlainBody = record {
          column = d;
          this = q.0;
          params = param_points (numbers P) P m b.plain;
          result = point_number P
              (point.Result m);
        } in
        let there : Contains entries entry =
        each_has (λ c k. column_body (numbers P) P c k.item) 0 (columns_of P) d col.0 entry col.1 d (omega arith)
        (subst (λ i. Contains (column_body (numbers P) P d i) entry) (sym col.2)
        (subst (λ o. Contains (option_map_or (λ k. body_if (numbers P) P d m k (point_number P (point.This m))) o []) entry) (sym b.stands)
        (subst (λ o. Contains (body_if (numbers P) P d m b.plain o) entry) (sym q.1) (first entry [])))) in
        let own = map_from body_seen F.bodies.items entry (subst (λ z. Contains z entry) (sym facts.bodies) there) in
        record {
          row = r.0;
          this = record {
            column = record { 0 = d };
            row = ap (λ i. i.this_of) w.3 ∙ ap (this_of_row (numbers P)) w.2
                ∙ this_column m d b.number;
            body = refl;
          };
          class = ap (λ i. i.class.0) w.3 ∙ ap (λ t. t.class.0) (this_type m b.plain w.0 b.stands (row_types P r.0 w.0 w.1) w.2)
              ∙ sym (ap (λ i. i.class.0) b.info ∙ ap (λ o. option_map_or (λ k. k.owner) o 0) b.stands);
          one_row = λ v t. let z = this_row_of v t.column t.row in same_Some v r.0 (sym z.row_is
              ∙ ap (λ n. row_number P (row.This n)) (same_def z.method m d (z.column_is ∙ ap Some t.body) b.number) ∙ r.1);
          body = own.0;
          listed = own.1;
          column = ap (λ z. z.column) own.2;
          point = subst (λ z. z < length F.points.items) (sym (ap (λ z. z.this) own.2)) x.4;
          point_is = ap (point_row F) (ap (λ z. z.this) own.2) ∙ x.3
              ∙ same_Some _ _ (sym f.number ∙ ap (row_number P) (this_follows m f.at f.follows (f.item ∙ x.2)) ∙ r.1);
        }
