-- Facts in order, their sets and their closed table as what the obligations are asked of.
use Rattle.std.proofs.Common.{◌≡◌, ◌≢◌, ℕ, ◌<◌, ◌⊎◌, ◌&&◌, true, false, length, eqb, Option, Some, None, Contains, refl, sym, ap, ◌∙◌, subst, arith, ⊎_elim, inl, inr}
use Rattle.std.specs.Prelude.{nat_lt, is_some}
use Rattle.std.specs.Option.{option_map}
use Rattle.std.proofs.lemmas.Bool.{or_cases, and_parts, eqb-true, eq-eqb, false≢true, ltb-true, lt-ltb}
use Rattle.std.proofs.lemmas.List.Folds.{Any-from_list_any}
use Rattle.std.proofs.lemmas.List.Elements.{All-contains}
use Rattle.kaba_bits.specs.Sets.{bit, row}
use Rattle.kaba_bits.proofs.RowLemmas.{bit-row-below}
use Rattle.kaba_base.specs.declared.ColId.{ColId}
use Rattle.kaba_base.specs.declared.ClassId.{ClassId}
use Rattle.fact_model.specs.Items.{site_at, site_class, site_row, row_class, row_at, row_this, is_object_row, column_class, column_kind, column_slot}
use Rattle.fact_model.specs.Classes.{IsBelow, below, is_def, is_slot, is_body, finds, own}
use Rattle.fact_model.specs.InRange.{InRange, IsRow, IsClass, IsPoint}
use Rattle.fact_model.specs.InOrder.{InOrder, IsDef, IsThisOf, IsNearestAbove, HasOneThis, HasCast, HasMark}
use Rattle.fact_model.specs.Flowing.{AreSets, in_point, IsCell, FitsStore}
use Rattle.fact_model.specs.Entries.{IsTable}
use Rattle.fact_model.specs.declared.facts.Facts.{Facts}
use Rattle.fact_model.specs.declared.facts.TieInfo.{TieInfo}
use Rattle.fact_model.specs.declared.facts.CallInfo.{CallInfo}
use Rattle.fact_model.specs.declared.facts.SuperInfo.{SuperInfo}
use Rattle.fact_model.specs.declared.facts.TestInfo.{TestInfo}
use Rattle.fact_model.specs.declared.facts.StoreInfo.{StoreInfo}
use Rattle.fact_model.specs.declared.facts.ColKind.{ColKind}
use Rattle.fact_model.specs.declared.facts.ColKind.TheVariants.{Fld, Dcl, Def, Is}
use Rattle.fact_model.specs.declared.sets.PointsTo.{PointsTo}
use Rattle.fact_model.specs.declared.sets.Table.{Table}
use Rattle.fact_model.proofs.ClassLemmas.{below-exact, below-both, finds-found, IsBodyOf, slot_says}
use Rattle.fact_model.proofs.NearestLemmas.{finds_nearest, found_above, found_other}
use Rattle.fact_model.proofs.RangeLemmas.{member-below, site-below, column-below}
use Rattle.fact_model.proofs.OrderLemmas.{column-above, body-own}
use Rattle.fact_model.proofs.EntryLemmas.{this_entry, body_entry, super_entry, tie_entry, test_entry, array_entry, need_entry, site_entry}
use Rattle.fact_model.proofs.ShownLemmas.{cast_shown, store_shown, point_row_shown, cell_row_shown}
use Rattle.hier_model.specs.Hierarchies.{any_below}
use Rattle.hier_model.proofs.AnyLemmas.{any_below_some}
use Rattle.hier_laws.specs.Shapes.{Given}
use Rattle.hier_laws.specs.Starts.{Roles, IsClosed, AreInOrder}
use Rattle.hier_rules.specs.Asked.{is_pair, is_tie, is_super, is_called, is_element, is_array_at, has_array, is_test_at, is_store_at, is_tested, is_stored, meets, places_of}

pub def_is : (k : ColKind) → is_def k ≡ true → k ≡ Def
def_is Def e = refl
def_is Fld e = absurd (false≢true e)
def_is Dcl e = absurd (false≢true e)
def_is Is e = absurd (false≢true e)

def_test : (k : ColKind) → k ≡ Def → is_def k ≡ true
def_test k e = ap is_def e

-- the column of a look-up, where it is one
column_says : (o : Option ColId) (d : ℕ) → is_slot (option_map (λ (c : ColId). c.0) o) d ≡ true → (c : ColId) × (o ≡ Some c) × (c.0 ≡ d)
column_says None d e = absurd (false≢true e)
column_says (Some c) d e = (c, refl, eqb-true c.0 d e)

module _ (F : Facts) (pt : PointsTo) (t : Table) where
  abbrev pub given : Given
  given = record {
    below = below F;
    class_of = column_class F;
    is_body = λ c. is_def (column_kind F c);
    slot_of = column_slot F;
    is_row = λ r. nat_lt r (length F.rows.items);
    row_class = row_class F;
    site_row = site_row F;
    site_class = site_class F;
    has = λ r c. bit (row t.rows.items r) c;
    tie = is_tie F;
    in_row = λ o v. bit (row pt.rows.items v) o;
    needs = λ s x d. is_called F pt s x && is_slot (finds F (site_class F s) x) d;
    runs = is_super F;
    meets = λ s k. any_below (places_of F) (λ p. meets F pt p k s);
  }

  abbrev pub roles : Roles
  roles = record { is_this = λ v d. is_slot (option_map (λ (c : ColId). c.0) (row_this F v)) d; is_object = is_object_row F }

  module _ (R : InRange F) (O : InOrder F) (S : AreSets F pt) (T : IsTable F t) where
    pub le : (a b : ℕ) → IsBelow F a b → below F a b ≡ true
    le a b h = (below-exact F O.classes.acyclic a b).1 h

    pub is_le : (a b : ℕ) → below F a b ≡ true → IsBelow F a b
    is_le a b h = (below-exact F O.classes.acyclic a b).0 h

    pub is_row : (r : ℕ) → r < length F.rows.items → nat_lt r (length F.rows.items) ≡ true
    is_row r lt = lt-ltb r (length F.rows.items) lt

    pub row_below : (r c : ℕ) → bit (row t.rows.items r) c ≡ true → r < length F.rows.items
    row_below r c h = omega (arith, bit-row-below t.rows.items r c h, T.sized.rows)

    pub site_below : (v o : ℕ) → bit (row pt.rows.items v) o ≡ true → o < length F.sites.items
    site_below v o h = member-below F R v o ((S.rows v o).0 h)

    pub point_site : (p s : ℕ) → bit (row pt.points.items p) s ≡ true → s < length F.sites.items
    point_site p s h = site-below F R (in_point p s) ((S.points p s).0 h)

    pub site_row_below : (s : ℕ) → s < length F.sites.items → site_row F s < length F.rows.items
    site_row_below s lt = (R.sites s (record { row = record { 0 = 0 }; class = record { 0 = 0 }; dim = 0 }) lt).0

    pub tie_at : (l u : ℕ) → is_tie F l u ≡ true → (x : TieInfo) × (Contains F.ties.items x) × (x.lower.0 ≡ l) × (x.upper.0 ≡ u)
    tie_at l u h =
        let f = Any-from_list_any (λ (x : TieInfo). is_pair x.lower.0 x.upper.0 l u) F.ties.items h in
        let p = and_parts (eqb f.1.lower.0 l) (eqb f.1.upper.0 u) f.4 in
        (f.1, (f.0, f.2, f.3), eqb-true f.1.lower.0 l p.0, eqb-true f.1.upper.0 u p.1)

    pub super_at : (r d : ℕ) → is_super F r d ≡ true → (x : SuperInfo) × (Contains F.supers.items x) × (x.row.0 ≡ r) × (x.column.0 ≡ d)
    super_at r d h =
        let f = Any-from_list_any (λ (x : SuperInfo). is_pair x.row.0 x.column.0 r d) F.supers.items h in
        let p = and_parts (eqb f.1.row.0 r) (eqb f.1.column.0 d) f.4 in
        (f.1, (f.0, f.2, f.3), eqb-true f.1.row.0 r p.0, eqb-true f.1.column.0 d p.1)

    pub called_at : (s x : ℕ) → is_called F pt s x ≡ true → (k : CallInfo) × (Contains F.calls.items k)
        × (bit (row pt.points.items k.receiver) s ≡ true) × (k.slot ≡ x)
    called_at s x h =
        let f = Any-from_list_any (λ (k : CallInfo). bit (row pt.points.items k.receiver) s && eqb k.slot x) F.calls.items h in
        let p = and_parts (bit (row pt.points.items f.1.receiver) s) (eqb f.1.slot x) f.4 in
        (f.1, (f.0, f.2, f.3), p.0, eqb-true f.1.slot x p.1)

    pub found_at : (s x d : ℕ) → (is_called F pt s x && is_slot (finds F (site_class F s) x) d) ≡ true → finds F (site_class F s) x ≡ Some d
    found_at s x d h = slot_says (finds F (site_class F s) x) d (and_parts (is_called F pt s x) (is_slot (finds F (site_class F s) x) d) h).1

    -- a site that meets a target: by a test, or by a store into an array
    pub record IsTested (k s : ℕ) : Type 0 where
      pub test : TestInfo
      pub listed : Contains F.tests.items test
      pub target : test.target.0 ≡ k
      pub held : bit (row pt.points.items test.from) s ≡ true

    pub record IsStored (k s : ℕ) : Type 0 where
      pub store : StoreInfo
      pub listed : Contains F.stores.items store
      pub element : store.column ≡ None
      pub array : ℕ
      pub below : array < length F.sites.items
      pub base : bit (row pt.points.items store.base) array ≡ true
      pub dim : 0 < (site_at F array).dim
      pub target : site_row F array ≡ k
      pub held : bit (row pt.points.items store.value) s ≡ true

    no_column : (o : Option ColId) → is_element o ≡ true → o ≡ None
    no_column None e = refl
    no_column (Some c) e = absurd (false≢true e)

    tested_at : (p k s : ℕ) → is_tested F pt p k s ≡ true → IsTested k s
    tested_at p k s h =
        let f = Any-from_list_any (λ (x : TestInfo). is_test_at p k x && bit (row pt.points.items x.from) s) F.tests.items h in
        let a = and_parts (is_test_at p k f.1) (bit (row pt.points.items f.1.from) s) f.4 in
        let b = and_parts (eqb f.1.place.at p) (eqb f.1.target.0 k) a.0 in
        record { test = f.1; listed = (f.0, f.2, f.3); target = eqb-true f.1.target.0 k b.1; held = a.1 }

    stored_at : (p k s : ℕ) → is_stored F pt p k s ≡ true → IsStored k s
    stored_at p k s h =
        let f = Any-from_list_any (λ (x : StoreInfo). is_store_at F pt p k x && bit (row pt.points.items x.value) s) F.stores.items h in
        let a = and_parts (is_store_at F pt p k f.1) (bit (row pt.points.items f.1.value) s) f.4 in
        let b = and_parts (is_element f.1.column && eqb f.1.place.at p) (has_array F pt f.1.base k) a.0 in
        let c = and_parts (is_element f.1.column) (eqb f.1.place.at p) b.0 in
        let d = any_below_some (is_array_at F pt f.1.base k) (length F.sites.items) b.1 in
        let e = and_parts (bit (row pt.points.items f.1.base) d.0 && nat_lt 0 (site_at F d.0).dim) (eqb (site_row F d.0) k) d.2 in
        let g = and_parts (bit (row pt.points.items f.1.base) d.0) (nat_lt 0 (site_at F d.0).dim) e.0 in
        record {
          store = f.1;
          listed = (f.0, f.2, f.3);
          element = no_column f.1.column c.0;
          array = d.0;
          below = d.1;
          base = g.0;
          dim = ltb-true 0 (site_at F d.0).dim g.1;
          target = eqb-true (site_row F d.0) k e.1;
          held = a.1;
        }

    pub met : (s k : ℕ) → any_below (places_of F) (λ p. meets F pt p k s) ≡ true → IsTested k s ⊎ IsStored k s
    met s k h =
        let p = any_below_some (λ p. meets F pt p k s) (places_of F) h in
        ⊎_elim (λ a. inl (tested_at p.0 k s a)) (λ b. inr (stored_at p.0 k s b)) (or_cases (is_tested F pt p.0 k s) (is_stored F pt p.0 k s) p.2)

    closed : IsClosed given roles
    closed = record {
      rows = λ r c h. is_row r (row_below r c h);
      by_need = λ s x d h.
          let p = and_parts (is_called F pt s x) (is_slot (finds F (site_class F s) x) d) h in
          let k = called_at s x p.0 in
          need_entry F t T pt S k.0 s d k.1 k.2 (ap (finds F (site_class F s)) k.3 ∙ found_at s x d h);
      by_this = λ v d h. let c = column_says (row_this F v) d h in subst (λ e. bit (row t.rows.items v) e ≡ true) c.2 (this_entry F t T v c.0 c.1);
      by_body = λ r v c d h k g.
          let e = column_says (row_this F v) d k in
          body_entry F t T r v e.0 e.1 (subst (λ y. bit (row t.rows.items r) y ≡ true) (sym e.2) h) c g;
      by_super = λ r d h.
          let x = super_at r d h in
          subst (λ y. bit (row t.rows.items y) d ≡ true) x.2 (subst (λ y. bit (row t.rows.items x.0.row.0) y ≡ true) x.3 (super_entry F t T x.0 x.1));
      by_tie = λ l u c h k.
          let x = tie_at l u h in
          subst (λ y. bit (row t.rows.items y) c ≡ true) x.2 (tie_entry F t T x.0 x.1 c (subst (λ y. bit (row t.rows.items y) c ≡ true) (sym x.3) k));
      by_site = λ o v c h k. site_entry F t T pt S v o h c k;
      above = λ r c h. le (row_class F r) (column_class F c) (column-above F R O r c ((T.entries r c).0 h));
      own = λ r d h b e o.
          let this = body-own F R O r d ((T.entries r d).0 h) (def_is (column_kind F d) b) e o in
          ap (λ y. is_slot (option_map (λ (c : ColId). c.0) y) d) this.row ∙ eq-eqb this.column.0 d this.body;
    }

    def_below : (d : ℕ) → is_def (column_kind F d) ≡ true → d < length F.columns.items
    def_below d b = column-below F d Def (def_is (column_kind F d) b) (λ x. cc x)

    one_this : (d : ℕ) → is_def (column_kind F d) ≡ true → HasOneThis F d
    one_this d b = O.bodies.one_this d (def_below d b) (def_is (column_kind F d) b)

    is_this : (v d : ℕ) → IsThisOf F v d → is_slot (option_map (λ (c : ColId). c.0) (row_this F v)) d ≡ true
    is_this v d h = ap (λ y. is_slot (option_map (λ (c : ColId). c.0) y) d) h.row ∙ eq-eqb h.column.0 d h.body

    this_body : (v d : ℕ) → is_slot (option_map (λ (c : ColId). c.0) (row_this F v)) d ≡ true → (is_def (column_kind F d) ≡ true)
        × (row_class F v ≡ column_class F d) × (is_object_row F v ≡ false)
    this_body v d h =
        let c = column_says (row_this F v) d h in
        let kind = subst (λ y. column_kind F y ≡ Def) c.2 (O.bodies.this_body v c.0 c.1) in
        let b = def_test (column_kind F d) kind in
        let one = one_this d b in
        let at = one.one_row v (record { column = c.0; row = c.1; body = c.2 }) in
        (b, ap (row_class F) at ∙ one.class, none v (O.bodies.this_site v c.0 c.1))
      where
        none : (v : ℕ) → (row_at F v).site ≡ None → is_object_row F v ≡ false
        none v e = rw e refl

    body_of : (x e : ℕ) → is_def (column_kind F e) ≡ true → column_slot F e ≡ Some x → IsBodyOf F (column_class F e) x e
    body_of x e b slot = record { below = def_below e b; kind = def_is (column_kind F e) b; class = refl; slot = slot }

    need_nearest : (s x d e : ℕ) → (is_called F pt s x && is_slot (finds F (site_class F s) x) d) ≡ true → is_def (column_kind F e) ≡ true
        → column_slot F e ≡ column_slot F d
        → below F (row_class F (site_row F s)) (column_class F e) ≡ true → below F (column_class F d) (column_class F e) ≡ true
    need_nearest s x d e h b one up =
        let p = and_parts (is_called F pt s x) (is_slot (finds F (site_class F s) x) d) h in
        let k = called_at s x p.0 in
        let lt = point_site k.0.receiver s k.2 in
        let f = found_at s x d h in
        let body = finds-found F (site_class F s) x d f in
        le (column_class F d) (column_class F e)
        (finds_nearest F R O (site_class F s) x d f e (body_of x e b (one ∙ body.body.slot))
        (subst (λ a. IsBelow F a (column_class F e)) (sym (O.types.sites s lt)) (is_le (row_class F (site_row F s)) (column_class F e) up)))

    pub super_fact : (r d : ℕ) → is_super F r d ≡ true → (is_some (row_this F r) ≡ true) × IsDef F d × IsNearestAbove F (row_class F r) d
    super_fact r d h =
        let x = super_at r d h in
        let n = All-contains (λ (y : SuperInfo). (is_some (row_this F y.row.0) ≡ true) × IsDef F y.column.0
        × IsNearestAbove F (row_class F y.row.0) y.column.0) F.supers.items x.0 O.bodies.supers x.1 in
        subst (λ y. (is_some (row_this F y) ≡ true) × IsDef F d × IsNearestAbove F (row_class F y) d) x.2
        (subst (λ y. (is_some (row_this F x.0.row.0) ≡ true) × IsDef F y × IsNearestAbove F (row_class F x.0.row.0) y) x.3 n)

    super_nearest : (r d e : ℕ) → is_super F r d ≡ true → is_def (column_kind F e) ≡ true → column_slot F e ≡ column_slot F d
        → below F (row_class F r) (column_class F e) ≡ true → column_class F e ≢ row_class F r → below F (column_class F d) (column_class F e) ≡ true
    super_nearest r d e h b one up ne =
        let n = (super_fact r d h).2 in
        le (column_class F d) (column_class F e)
        (found_above F R O (row_class F r) n.slot d n.parent n.above n.found e (body_of n.slot e b (one ∙ n.slot_is))
        (is_le (row_class F r) (column_class F e) up) ne)

    super_other : (r d : ℕ) → is_super F r d ≡ true → column_class F d ≢ row_class F r
    super_other r d h = let n = (super_fact r d h).2 in found_other F R O (row_class F r) n.slot d n.parent n.above n.found

    super_this : (r d : ℕ) → is_super F r d ≡ true → (e : ℕ) × (is_slot (option_map (λ (c : ColId). c.0) (row_this F r)) e ≡ true)
    super_this r d h = some (row_this F r) (super_fact r d h).0
      where
        some : (o : Option ColId) → is_some o ≡ true → (e : ℕ) × (is_slot (option_map (λ (c : ColId). c.0) o) e ≡ true)
        some None e = absurd (false≢true e)
        some (Some c) e = (c.0, eq-eqb c.0 c.0 refl)

    target_class : (x : TestInfo) → Contains F.tests.items x → row_class F x.target.0 ≡ x.class.0
    target_class x is = All-contains (λ (y : TestInfo). row_class F y.target.0 ≡ y.class.0) F.tests.items x O.tests.targets is

    passes_test : (s k : ℕ) → IsTested k s → below F (site_class F s) (row_class F k) ≡ true → bit (row pt.rows.items k) s ≡ true
    passes_test s k h b =
        let x = h.test in
        let cast = All-contains (HasCast F) F.tests.items x O.tests.casts h.listed in
        let class : row_class F k ≡ cast.cast.class.0 = ap (row_class F) (sym h.target) ∙ target_class x h.listed
        ∙ sym (ap (λ (c : ClassId). c.0) cast.class) in
        let fits = subst (λ a. IsBelow F (site_class F s) a) class (is_le (site_class F s) (row_class F k) b) in
        let into = cast_shown F pt S cast.cast s cast.listed fits (subst (λ p. bit (row pt.points.items p) s ≡ true) (sym cast.from) h.held) in
        subst (λ r. bit (row pt.rows.items r) s ≡ true) (cast.row ∙ h.target) (point_row_shown F pt S cast.cast.into cast.point s into)

    passes_store : (s k : ℕ) → IsStored k s → below F (site_class F s) (row_class F k) ≡ true → bit (row pt.rows.items k) s ≡ true
    passes_store s k h b =
        let cell = O.tests.cells h.array h.below h.dim in
        let class : row_class F k ≡ site_class F h.array = ap (row_class F) (sym h.target) ∙ sym (O.types.sites h.array h.below) in
        let fits = subst (λ a. IsBelow F (site_class F s) a) class (is_le (site_class F s) (row_class F k) b) in
        let is : IsCell F cell.cell h.array h.store.column = record { below = cell.below; site_is = cell.site; column_is = cell.column ∙ sym h.element } in
        let in_cell = store_shown F pt S h.store cell.cell h.array s h.listed is (fits_none h.store.column h.element s h.array fits) h.base h.held in
        subst (λ r. bit (row pt.rows.items r) s ≡ true) (cell.row ∙ h.target) (cell_row_shown F pt S cell.cell cell.below s in_cell)
      where
        fits_none : (o : Option ColId) → o ≡ None → (s a : ℕ) → IsBelow F (site_class F s) (site_class F a) → FitsStore F o s a
        fits_none o e s a h = subst (λ y. FitsStore F y s a) (sym e) h

    marked_test : (s k : ℕ) → IsTested k s → (c : ℕ) × (bit (row t.rows.items k) c ≡ true) × (column_class F c ≡ row_class F k)
    marked_test s k h =
        let m = All-contains (λ (y : TestInfo). HasMark F y.class.0) F.tests.items h.test O.tests.marks h.listed in (
          m.0,
          subst (λ r. bit (row t.rows.items r) m.0 ≡ true) h.target (test_entry F t T h.test m.0 h.listed m.1),
          m.1.class_is
              ∙ sym (target_class h.test h.listed) ∙ ap (row_class F) h.target,
        )

    marked_store : (s k : ℕ) → IsStored k s → (c : ℕ) × (bit (row t.rows.items k) c ≡ true) × (column_class F c ≡ row_class F k)
    marked_store s k h =
        let m = O.tests.array_marks h.array h.below h.dim in (
          m.0,
          subst (λ r. bit (row t.rows.items r) m.0 ≡ true) h.target (array_entry F t T h.array m.0 h.below h.dim m.1),
          m.1.class_is
              ∙ O.types.sites h.array h.below ∙ ap (row_class F) h.target,
        )

    pub meet_site : (s k : ℕ) → IsTested k s ⊎ IsStored k s → s < length F.sites.items
    meet_site s k h = ⊎_elim (λ a. point_site a.test.from s a.held) (λ b. point_site b.store.value s b.held) h

    pub meet_target : (s k : ℕ) → IsTested k s ⊎ IsStored k s → k < length F.rows.items
    meet_target s k h =
        ⊎_elim
        (λ a. subst (λ r. r < length F.rows.items) a.target (All-contains (λ (x : TestInfo). IsPoint F x.from × IsRow F x.target × IsClass F x.class)
        F.tests.items a.test R.tests a.listed).1)
        (λ b. subst (λ r. r < length F.rows.items) b.target (site_row_below b.array b.below))
        h

    pub in_order : AreInOrder given roles
    in_order = record {
      both = λ a b h k. below-both F O.classes.acyclic (is_le a b h) (is_le b a k);
      tie_rows = λ l u h.
          let x = tie_at l u h in
          let p = All-contains (λ (y : TieInfo). IsRow F y.lower × IsRow F y.upper) F.ties.items x.0 R.ties x.1 in
          (is_row l (subst (λ y. y < length F.rows.items) x.2 p.0), is_row u (subst (λ y. y < length F.rows.items) x.3 p.1));
      site_rows = λ s v h.
          (is_row (site_row F s) (site_row_below s (site_below v s h)), is_row v (omega (arith, bit-row-below pt.rows.items v s h, S.row_count)));
      this_body = this_body;
      this_there = λ d b. let one = one_this d b in (one.row, is_this one.row d one.this);
      one_body = λ d e bd be s c. O.members.bodies d e (def_below d bd) (def_below e be) (def_is (column_kind F d) bd) (def_is (column_kind F e) be) c s;
      need_body = λ s x d h. def_test (column_kind F d) (finds-found F (site_class F s) x d (found_at s x d h)).body.kind;
      need_nearest = need_nearest;
      super_this = super_this;
      super_body = λ r d h. (def_test (column_kind F d) (super_fact r d h).1, super_other r d h);
      super_nearest = super_nearest;
      meet_rows = λ s k h.
          let m = met s k h in
          let lt = meet_site s k m in
          (sym (O.types.sites s lt), is_row (site_row F s) (site_row_below s lt), is_row k (meet_target s k m));
      passes = λ s k h b. ⊎_elim (λ a. passes_test s k a b) (λ c. passes_store s k c b) (met s k h);
      marked = λ s k h. ⊎_elim (marked_test s k) (marked_store s k) (met s k h);
    }

    pub is_closed : IsClosed given roles
    is_closed = closed
