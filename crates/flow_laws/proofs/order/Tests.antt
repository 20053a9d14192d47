-- Tests and array creations: the rows, casts, marks and cells that they have.
use Rattle.std.proofs.Common.{◌≡◌, ℕ, suc, ◌+◌, List, [], ◌∷◌, Option, Some, None, length, refl, sym, ap, ◌∙◌, subst, arith, ⊎_elim}
use Rattle.std.specs.Prelude.{◌<◌, ◌==◌, if◌then◌else◌, not, Bool, true, false, Contains, All, slice_get}
use Rattle.std.specs.Option.{is_some}
use Rattle.std.specs.List.{flat_map}
use Rattle.std.proofs.lemmas.Option.{same_Some, slice_get_within}
use Rattle.std.proofs.lemmas.Bool.{ne_eqb}
use Rattle.flow_laws.proofs.cover.Flows.{these_has}
use Rattle.kaba_base.specs.declared.Place.{Place}
use Rattle.kaba_base.specs.declared.ClassId.{ClassId}
use Rattle.kaba_base.proofs.ListLemmas.{append_cases}
use Rattle.java_core.specs.Trees.{Sts, Ex}
use Rattle.java_core.specs.Programs.{Plain, PlainMethod}
use Rattle.java_core.specs.Typing.{IsTyped}
use Rattle.java_core.specs.Formed.{IsFormed}
use Rattle.fact_model.specs.Items.{row_class, site_at as site_info_at, site_class}
use Rattle.fact_model.specs.InOrder.{HasCast, HasMark, HasOneCell, AreTestsInOrder}
use Rattle.fact_model.specs.declared.facts.Facts.{Facts}
use Rattle.fact_model.specs.declared.facts.TestInfo.{TestInfo}
use Rattle.fact_model.specs.declared.facts.CastInfo.{CastInfo}
use Rattle.fact_model.specs.declared.facts.CellInfo.{CellInfo}
use Rattle.flow_rules.specs.declared.items.ObjectType.{ObjectType}
use Rattle.flow_rules.specs.declared.items.Operand.{Operand}
use Rattle.flow_rules.specs.declared.items.RowItem.{RowItem}
use Rattle.flow_rules.specs.declared.items.PointItem.{PointItem}
use Rattle.flow_rules.specs.declared.items.PointItem.TheVariants as point
use Rattle.flow_rules.specs.declared.items.ColumnItem.TheVariants as column
use Rattle.flow_rules.specs.declared.items.Column.{Column}
use Rattle.flow_rules.specs.declared.items.PointAt.{PointAt}
use Rattle.flow_rules.specs.declared.items.Site.{Site}
use Rattle.flow_rules.specs.Ordered.{each}
use Rattle.flow_rules.specs.Operands.{type_in}
use Rattle.flow_rules.specs.Parts.{Part, a_load, an_element, a_creation, a_call, a_static_call, a_super_call, a_test, parts_body, parts_of}
use Rattle.flow_rules.specs.Numbered.{BodyParts, body_at, bodies_of, own_point, array_mark, form_columns, row_number, column_number, point_number, columns_of, sites_of}
use Rattle.flow_rules.specs.Lists.{both, these, point_in, row_in, point_at, row_at, tests_of, casts_of}
use Rattle.java_core.specs.Classes.{below}
use Rattle.flow_rules.specs.Facts.{numbers, gathered, cells_of, FieldCell, fields_of, field_cell, array_cell, site_cells, IsFactsOf}
use Rattle.flow_rules.proofs.Listed.{first, index_at, below_at, contains_at, at_contains, each_has, each_from, each_from_zero, flat_has, flat_from, place_from, one_from, when_has, when_from, all_of}
use Rattle.flow_laws.proofs.order.Columns.{numbered_column, part_column}
use Rattle.flow_laws.proofs.order.Labels.{label_in, part_label, label_apart}
use Rattle.flow_laws.proofs.cover.Numbers.{IsPart}
use Rattle.flow_laws.proofs.order.Rows.{item_row}
use Rattle.flow_laws.proofs.order.Sites.{own_type, site_of, site_part}
use Rattle.flow_laws.proofs.order.Points.{given_by, Follows, a_static, a_this, a_variable, a_result, a_form, point_of, part_point, item_point}
use Rattle.flow_laws.proofs.order.OwnParts.{HasLabel}
use Rattle.flow_laws.proofs.order.Sites.{part_labelled}

pub label_given : (p : Part) (o : Operand) → given_by p ≡ Some o → part_label p ≡ label_in o.point
label_given (a_load p b f q) o e = ap (λ z. label_in z.point) (same_Some q o e)
label_given (an_element p b q) o e = ap (λ z. label_in z.point) (same_Some q o e)
label_given (a_creation p u q s d es) o e = ap (λ z. label_in z.point) (same_Some q o e)
label_given (a_call p b s d es q) o e = ap (λ z. label_in z.point) (same_Some q o e)
label_given (a_static_call p m es q) o e = ap (λ z. label_in z.point) (same_Some q o e)
label_given (a_super_call p m es q) o e = ap (λ z. label_in z.point) (same_Some q o e)
label_given (a_test p d q) o e = ap (λ z. label_in z.point) (same_Some q o e)
label_given _ o e = absurd (cc)

body_there : (P : Plain) (type : Ex → Option ObjectType) (m : ℕ) (k : PlainMethod) (b : Option Sts) (p : Part) → Contains (parts_body P type m k b) p
    → is_some b ≡ true
body_there P type m k None p c = absurd (omega (arith, c.1))
body_there P type m k (Some xs) p c = refl

pub has_body : (P : Plain) (m : ℕ) (k : PlainMethod) (p : Part) → Contains (parts_of P m k) p → is_some k.body ≡ true
unfolding parts_of
has_body P m k p c = body_there P (type_in P m k) m k k.body p c

-- what the parts of all bodies give
module _ (P : Plain) where
  pub gathered_from : {A : Type 0} (f : BodyParts → Part → List A) (x : A) → Contains (gathered P f) x → (m : ℕ) × (k : PlainMethod) × (p : Part)
      × (slice_get P.methods m ≡ Some k) × Contains (parts_of P m k) p
      × Contains (f (record { number = m; slot = k.slot; parts = parts_of P m k }) p) x
  unfolding bodies_of
  gathered_from f x c =
      let z = flat_from (λ b. flat_map (f b) b.parts) (bodies_of P) x c in
      let y = each_from_zero (body_at P) P.methods z.0 z.1 in
      let e = one_from _ z.0 y.3 in
      let w = flat_from (f z.0) z.0.parts x z.2 in
      (y.0, y.1, w.0, y.2, subst (λ b. Contains b.parts w.0) (sym e) w.1, subst (λ b. Contains (f b w.0) x) (sym e) w.2)

  pub gathered_has : {A : Type 0} (f : BodyParts → Part → List A) (x : A) (m : ℕ) (k : PlainMethod) (p : Part) → slice_get P.methods m ≡ Some k
      → Contains (parts_of P m k) p → Contains (f (record { number = m; slot = k.slot; parts = parts_of P m k }) p) x → Contains (gathered P f) x
  unfolding bodies_of
  gathered_has f x m k p e c d =
      let b : BodyParts = record { number = m; slot = k.slot; parts = parts_of P m k } in
      flat_has (λ b. flat_map (f b) b.parts) (bodies_of P) b x (each_has (body_at P) 0 P.methods m k b e m (omega arith) (first b []))
      (flat_has (f b) b.parts p x c d)

  -- the item of a numbered row, and of a numbered point
  pub row_item : (i : Option RowItem) (r : ℕ) → row_in (numbers P) i ≡ Some r → (j : RowItem) × (i ≡ Some j) × (row_number P j ≡ Some r)
  unfolding numbers
  row_item None r e = absurd (cc)
  row_item (Some j) r e = (j, refl, e)

  pub point_item : (i : PointItem) (q : ℕ) → point_number P i ≡ Some q → point_in (numbers P) (Some i) ≡ Some q
  unfolding numbers
  point_item i q e = e

pub both_from : {A B C : Type 0} (a : Option A) (b : Option B) (f : A → B → C) (x : C) → Contains (both a b f) x → (y : A) × (z : B) × (a ≡ Some y)
    × (b ≡ Some z) × (f y z ≡ x)
both_from (Some a) (Some b) f x d = (a, b, refl, refl, one_from _ x d)
both_from (Some a) None f x d = absurd (omega (arith, d.1))
both_from None b f x d = absurd (omega (arith, d.1))

pub these_from : {A B C D : Type 0} (a : Option A) (b : Option B) (c : Option C) (f : A → B → C → D) (x : D) → Contains (these a b c f) x
    → (y : A) × (z : B) × (w : C) × (a ≡ Some y) × (b ≡ Some z) × (c ≡ Some w) × (f y z w ≡ x)
these_from (Some a) (Some b) (Some c) f x d = (a, b, c, refl, refl, refl, one_from _ x d)
these_from (Some a) (Some b) None f x d = absurd (omega (arith, d.1))
these_from (Some a) None c f x d = absurd (omega (arith, d.1))
these_from None b c f x d = absurd (omega (arith, d.1))

own_point_has : (w : Place) (i : Option PointItem) (r : Option RowItem) (t : Option ObjectType) (j : PointItem) (s : RowItem) (u : ObjectType)
    → i ≡ Some j → r ≡ Some s → t ≡ Some u → Contains (own_point w i r t) (record { item = j; place = w; row = s })
own_point_has w i r t j s u a b c = rw (a, b, c) (first (record { item = j; place = w; row = s }) [])

-- a number whose list has one item alone has one place
module _ {A B : Type 0} (f : ℕ → A → List B) (key : B → ℕ) (keyed : (n : ℕ) (x : A) (b : B) → Contains (f n x) b → key b ≡ n) where
  at_one : (ys : List B) (c : B) (i : ℕ) (a : B) → ys ≡ c ∷ [] → slice_get ys i ≡ Some a → i ≡ 0
  at_one ys c i a e d = let h = slice_get_within ys i a d in omega (arith, h, ap length e)

  after : (n : ℕ) (xs : List A) (i : ℕ) (a : B) → slice_get (each f (n + 1) xs) i ≡ Some a → key a ≡ n → ⊥
  after n xs i a e d = let z = each_from f (n + 1) xs a (contains_at (each f (n + 1) xs) i a e) in absurd (omega (arith, z.4, d, keyed z.1 z.2 a z.5))

  IsAlone : ℕ → List A → ℕ → Type 0
  IsAlone n xs s = (x : A) (i : ℕ) → slice_get xs i ≡ Some x → s ≡ n + i → (c : B) × (f s x ≡ c ∷ [])

  one_place : (n : ℕ) (xs : List A) (s : ℕ) → IsAlone n xs s → (i j : ℕ) (a b : B) → slice_get (each f n xs) i ≡ Some a → slice_get (each f n xs) j
      ≡ Some b → key a ≡ s → key b ≡ s → i ≡ j
  unfolding IsAlone
  one_place n [] s one i j a b d e g h = absurd (cc)
  one_place n (x ∷ xs) s one i j a b d e g h =
      let front = f n x in
      let rest = each f (n + 1) xs in
      ⊎_elim
      (λ p. let same : s ≡ n = sym g ∙ keyed n x a (contains_at front i a p) in
      ⊎_elim
      (λ q. let c = one x 0 refl (omega (arith, same)) in let w : front ≡ c.0 ∷ [] = ap (λ z. f z x) (sym same) ∙ c.1 in at_one front c.0 i a w p
      ∙ sym (at_one front c.0 j b w q))
      (λ q. absurd (after n xs q.0 b q.2 (h ∙ same))) (append_cases front rest j b e))
      (λ p. ⊎_elim
      (λ q. absurd (after n xs p.0 a p.2 (g ∙ sym h ∙ keyed n x b (contains_at front j b q))))
      (λ q. let r = one_place (n + 1) xs s (λ y k u v. one y (suc k) u (omega (arith, v))) p.0 q.0 a b p.2 q.2 g h in omega (arith, p.1, q.1, r))
      (append_cases front rest j b e))
      (append_cases front rest i a d)

module _ (P : Plain) (formed : IsFormed P) (typed : IsTyped P) (F : Facts) (facts : IsFactsOf P F) where
  -- the part of a test
  pub record IsTestPart (x : TestInfo) : Type 0 where
    pub number : ℕ
    pub method : PlainMethod
    pub stands : slice_get P.methods number ≡ Some method
    pub place : Place
    pub operand : Operand
    pub own : Operand
    pub part : Contains (parts_of P number method) (a_test place operand own)
    pub from : point_at (numbers P) operand ≡ Some x.from
    pub item : RowItem
    pub row_is : own.row ≡ Some item
    pub target : row_number P item ≡ Some x.target.0
    pub type : ObjectType
    pub typed_as : own.ty ≡ Some type
    pub class : type.class ≡ x.class

  test_part : (m : ℕ) (k : PlainMethod) (p : Part) (x : TestInfo) → slice_get P.methods m ≡ Some k → Contains (parts_of P m k) p
      → Contains (tests_of (numbers P) p) x → IsTestPart x
  test_part m k (a_test w d o) x e c t =
      let z = these_from (point_at (numbers P) d) (row_at (numbers P) o) o.ty
      (λ a r t. record { from = a; target = record { 0 = r }; class = t.class; place = w }) x t in
      let i = row_item P o.row z.1 z.4 in
      record {
        number = m;
        method = k;
        stands = e;
        place = w;
        operand = d;
        own = o;
        part = c;
        from = z.3 ∙ ap (λ y. Some y.from) z.6;
        item = i.0;
        row_is = i.1;
        target = i.2 ∙ ap (λ y. Some y.target.0) z.6;
        type = z.2;
        typed_as = z.5;
        class = ap (λ y. y.class) z.6;
      }
  test_part m k _ x e c t = absurd (omega (arith, t.1))

  pub test_of : (x : TestInfo) → Contains F.tests.items x → IsTestPart x
  test_of x c =
      let z = gathered_from P (λ b. tests_of (numbers P)) x (place_from (λ t. t.place.at) (gathered P (λ b. tests_of (numbers P))) x
      (subst (λ w. Contains w x) facts.tests c)) in
      test_part z.0 z.1 z.2 x z.3 z.4 z.5

  abbrev part_is : (x : TestInfo) (t : IsTestPart x) → IsPart P (a_test t.place t.operand t.own)
  part_is x t = record { number = t.number; method = t.method; stands = t.stands; part = t.part }

  targets : All (λ x. row_class F x.target.0 ≡ x.class.0) F.tests.items
  targets = all_of (λ x. row_class F x.target.0 ≡ x.class.0) F.tests.items
      (λ x c. let t = test_of x c in
      let w = item_row P F facts t.item x.target.0 t.target in
      ap (λ i. i.class.0) w.3 ∙ ap (λ y. y.class.0) (own_type P formed typed (a_test t.place t.operand t.own) t.own t.item t.type x.target.0
      w.0 (part_is x t) refl t.row_is t.typed_as w.1 w.2) ∙ ap (λ y. y.0) t.class)

  marked : (m : ℕ) (k : PlainMethod) (p : Part) (x : Column) (c : ClassId) → slice_get P.methods m ≡ Some k → Contains (parts_of P m k) p
      → Contains (form_columns p) x → x.item ≡ column.Is c → HasMark F c.0
  marked m k p x c e d f h =
      let z = part_column P m k p x e d f in
      let w = numbered_column P F facts (column.Is c) z.0 (ap (column_number P) (sym h) ∙ z.1) in
      (z.0, record { below = w.0; kind_is = ap (λ i. i.kind) w.1; class_is = ap (λ i. i.class.0) w.1 })

  marks : All (λ x. HasMark F x.class.0) F.tests.items
  marks = all_of (λ x. HasMark F x.class.0) F.tests.items
      (λ x c. let t = test_of x c in
      let col : Column = record { item = column.Is t.type.class; place = t.place } in
      subst (λ y. HasMark F y.0) t.class (marked t.number t.method (a_test t.place t.operand t.own) col t.type.class t.stands t.part
      (rw t.typed_as (first col [])) refl))

  -- the row of the point of a part
  pub part_follows : (m : ℕ) (k : PlainMethod) (p : Part) (o : Operand) (l : ℕ) (a : PointAt) → slice_get P.methods m ≡ Some k
      → Contains (parts_of P m k) p → given_by p ≡ Some o → o.point ≡ Some (point.Expr m l) → Follows P a → a.item ≡ point.Expr m l
      → o.row ≡ Some a.row
  part_follows m k p o l a e c g h (a_form n j q d b v) i =
      let y = subst (λ z. HasLabel n z) v.given (part_labelled P formed typed q (record { number = n; method = j; stands = d; part = b })) in
      let s : n ≡ m = let x = sym y.1 ∙ v.point_is ∙ ap Some i in cc in
      let kk : j ≡ k = same_Some j k (sym d ∙ ap (slice_get P.methods) s ∙ e) in
      let cc1 = subst (λ z. Contains (parts_of P m z) q) kk (subst (λ z. Contains (parts_of P z j) q) s b) in
      let same = label_apart P m k q p l cc1 c (label_given q v.operand v.given ∙ ap label_in (v.point_is ∙ ap Some i)) (label_given p o g ∙ ap label_in h) in
      ap (λ z. z.row) (same_Some _ _ (sym g ∙ ap given_by (sym same) ∙ v.given)) ∙ v.row_is
  part_follows m k p o l a e c g h (a_static f j d r s) i = absurd (cc)
  part_follows m k p o l a e c g h (a_this n j d r s) i = absurd (cc)
  part_follows m k p o l a e c g h (a_variable n j q d r s) i = absurd (cc)
  part_follows m k p o l a e c g h (a_result n j d r s) i = absurd (cc)

  cast_of : (x : TestInfo) → IsTestPart x → HasCast F x
  cast_of x t =
      let p = a_test t.place t.operand t.own in
      let y = part_labelled P formed typed p (part_is x t) in
      let a : PointAt = record { item = point.Expr t.number y.0; place = t.place; row = t.item } in
      let q = part_point P t.number t.method t.stands (has_body P t.number t.method p t.part) p a t.part
      (own_point_has t.place t.own.point t.own.row t.own.ty (point.Expr t.number y.0) t.item t.type y.1 t.row_is t.typed_as)
      x.target.0 t.target in
      let z = item_point P F facts (point.Expr t.number y.0) q.0 q.1 in
      let f = point_of P q.0 z.0 z.1 in
      let at = ap (λ i. point_in (numbers P) i) y.1 ∙ point_item P (point.Expr t.number y.0) q.0 q.1 in
      let one : CastInfo = record { from = x.from; into = q.0; class = t.type.class } in
      record {
        cast = one;
        listed = (facts.casts one).1 (gathered_has P (λ b. casts_of (numbers P)) one t.number t.method p t.stands t.part
            (these_has (point_at (numbers P) t.operand) (point_at (numbers P) t.own) t.own.ty
            (λ a q t. record { from = a; into = q; class = t.class }) x.from q.0 t.type t.from at t.typed_as));
        from = refl;
        class = t.class;
        point = z.4;
        row = z.3 ∙ same_Some _ _ (sym f.number
            ∙ ap (row_number P) (same_Some _ _ (sym (part_follows t.number t.method p t.own y.0 f.at t.stands t.part refl y.1 f.follows (f.item
            ∙ z.2)) ∙ t.row_is)) ∙ t.target);
      }

  casts : All (HasCast F) F.tests.items
  casts = all_of (HasCast F) F.tests.items (λ x c. cast_of x (test_of x c))

  array_part : (w : Place) (u : Bool) (o : Operand) (s d : Option ℕ) (es : List Operand) (t : ObjectType) (x : Column) → o.ty ≡ Some t → 0 < t.dim
      → x ≡ record { item = column.Is t.class; place = w } → Contains (form_columns (a_creation w u o s d es)) x
  array_part w u o s q es t x e h d = subst (λ z. Contains (array_mark w z) x) (sym e)
      (when_has (not (t.dim == 0)) _ x (rw (ne_eqb t.dim 0 (λ z. absurd (omega (arith, h, z)))) refl)
      (subst (λ z. Contains (record { item = column.Is t.class; place = w } ∷ []) z) (sym d) (first _ [])))

  array_marks : (s : ℕ) → s < length F.sites.items → 0 < (site_info_at F s).dim → HasMark F (site_class F s)
  array_marks s h d =
      let z = site_of P formed typed F facts s h in
      let p = site_part P formed typed s z.site z.stands in
      let col : Column = record { item = column.Is z.site.ty.class; place = p.of.place } in
      subst (λ c. HasMark F c) (sym (ap (λ i. i.class.0) z.info))
      (marked p.of.is_part.number p.of.is_part.method
      (a_creation p.of.place p.of.used p.of.operand p.of.slot p.of.declaration p.of.arguments) col z.site.ty.class p.of.is_part.stands p.of.is_part.part
      (array_part p.of.place p.of.used p.of.operand p.of.slot p.of.declaration p.of.arguments z.site.ty col p.of.type
      (subst (λ n. 0 < n) (ap (λ i. i.dim) z.info) d) refl) refl)

  -- the cells of a site name it
  abbrev all_fields : List FieldCell
  all_fields = fields_of (numbers P) P (columns_of P)

  keyed_by : (t : Bool) (n : ℕ) (x : Site) (b : CellInfo)
      → Contains (if t then flat_map (field_cell P n x.ty.class.0) all_fields else array_cell n x.row) b → b.site.0 ≡ n
  keyed_by true n x b c = let z = flat_from (field_cell P n x.ty.class.0) all_fields b c in sym
      (ap (λ z. z.site.0) (one_from _ b (when_from (below P x.ty.class.0 z.0.owner) _ b z.2).1))
  keyed_by false n x b c = sym (ap (λ z. z.site.0) (one_from _ b c))

  keyed_site : (n : ℕ) (x : Site) (b : CellInfo) → Contains (site_cells P all_fields n x) b → b.site.0 ≡ n
  keyed_site n x b c = keyed_by (x.ty.dim == 0) n x b c

  array_cells : (s : ℕ) (x : Site) → 0 < x.ty.dim → site_cells P all_fields s x
      ≡ record { site = record { 0 = s }; column = None; row = record { 0 = x.row } } ∷ []
  array_cells s x h = ap (λ t. if t then flat_map (field_cell P s x.ty.class.0) all_fields else array_cell s x.row)
      (ne_eqb x.ty.dim 0 (λ z. absurd (omega (arith, h, z))))

  cells : (s : ℕ) → s < length F.sites.items → 0 < (site_info_at F s).dim → HasOneCell F s
  unfolding cells_of IsAlone
  cells s h d =
      let z = site_of P formed typed F facts s h in
      let x = z.site in
      let w = array_cells s x (subst (λ n. 0 < n) (ap (λ i. i.dim) z.info) d) in
      let c : CellInfo = record { site = record { 0 = s }; column = None; row = record { 0 = x.row } } in
      let at = at_contains (each (site_cells P all_fields) 0 (sites_of P)) c (each_has (site_cells P all_fields) 0 (sites_of P) s x c z.stands s
      (omega arith) (subst (λ y. Contains y c) (sym w) (first c []))) in
      let e : slice_get F.cells.items at.0 ≡ Some c = subst (λ y. slice_get y at.0 ≡ Some c) (sym facts.cells) at.1 in
      let i = index_at F.cells.items at.0 _ c e in
      record {
        cell = at.0;
        below = slice_get_within F.cells.items at.0 c e;
        site = ap (λ k. k.site.0) i;
        column = ap (λ k. k.column) i;
        row = ap (λ k. k.row.0) i ∙ sym (ap (λ k. k.row.0) z.info);
        one = λ j below q. let k = below_at F.cells.items j below in
            one_place (site_cells P all_fields) (λ k. k.site.0) keyed_site 0 (sites_of P) s
            (λ y n u v. (
              c,
              ap (site_cells P all_fields s) (same_Some y x (sym u ∙ ap (slice_get (sites_of P)) (omega (arith, v)) ∙ z.stands))
                  ∙ w,
            )) j at.0 k.0 c
            (subst (λ y. slice_get y j ≡ Some k.0) facts.cells k.1) at.1 (ap (λ k. k.site.0) (sym (index_at F.cells.items j _ k.0 k.1)) ∙ q) refl;
      }

  pub tests_in_order : AreTestsInOrder F
  tests_in_order = record { targets = targets; casts = casts; marks = marks; cells = cells; array_marks = array_marks }
