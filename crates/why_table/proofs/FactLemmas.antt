-- Tests of the facts, and what they mean.
use Rattle.std.proofs.Common.{◌≡◌, ℕ, ◌<◌, ◌&&◌, ◌⊎◌, inl, inr, ⊎_elim, true, not, List, [], eqb, length, Option, Some, None, Contains, refl, sym, ap, ◌∙◌, subst, arith}
use Rattle.std.specs.List.{slice_get, range_with_len}
use Rattle.std.proofs.lemmas.Bool.{cases_lt, eqb-true, eq-eqb, ne_eqb, not-true, not_from_false, false≢true, and_parts, or_cases, or_left, or_right}
use Rattle.std.proofs.lemmas.List.{get_or_past}
use Rattle.std.proofs.lemmas.Option.{slice_get_within, slice_get-get_or, get_or_from_slice_get}
use Rattle.std.proofs.lemmas.List.FromFn.{get_or-range_with_len, length-range_with_len}
use Rattle.kaba_base.specs.declared.RowId.{RowId}
use Rattle.kaba_base.specs.declared.ColId.{ColId}
use Rattle.kaba_base.specs.declared.SiteId.{SiteId}
use Rattle.fact_model.specs.Items.{cell_at, site_class, row_this, column_at, column_class, column_kind, column_slot, IsColumn}
use Rattle.fact_model.specs.Classes.{below, finds, is_def, is_slot}
use Rattle.fact_model.specs.InRange.{InRange}
use Rattle.fact_model.specs.Flowing.{IsCell, FitsStore, point_at}
use Rattle.fact_model.specs.Entries.{IsDeclaredBy, Hides}
use Rattle.fact_model.specs.declared.facts.Facts.{Facts}
use Rattle.fact_model.specs.declared.facts.CellInfo.{CellInfo}
use Rattle.fact_model.specs.declared.facts.ColumnInfo.{ColumnInfo}
use Rattle.fact_model.specs.declared.facts.ColKind.{ColKind}
use Rattle.fact_model.specs.declared.facts.ColKind.TheVariants.{Fld, Dcl, Def, Is}
use Rattle.fact_model.proofs.ClassLemmas.{slot_says, below-exact, strictly-exact}
use Rattle.why_table.specs.Tests.{is_fld, is_dcl, is_is, is_same_column, is_same_slot, is_cell, fits, is_found, is_mark, is_declared_by, are_alike, hides, is_point_row, is_cell_row, are_joined, is_this}
use Rattle.why_table.proofs.ClaimLemmas.{number_same, row_says, columns_say, columns_same, slots_say, slots_same, both, some_of, any_of, at_of, of_at}

-- kinds
pub fld_says : (k : ColKind) → is_fld k ≡ true → k ≡ Fld
fld_says Fld h = refl
fld_says Dcl h = absurd (false≢true h)
fld_says Def h = absurd (false≢true h)
fld_says Is h = absurd (false≢true h)

pub dcl_says : (k : ColKind) → is_dcl k ≡ true → k ≡ Dcl
dcl_says Dcl h = refl
dcl_says Fld h = absurd (false≢true h)
dcl_says Def h = absurd (false≢true h)
dcl_says Is h = absurd (false≢true h)

def_says : (k : ColKind) → is_def k ≡ true → k ≡ Def
def_says Def h = refl
def_says Fld h = absurd (false≢true h)
def_says Dcl h = absurd (false≢true h)
def_says Is h = absurd (false≢true h)

is_says : (k : ColKind) → is_is k ≡ true → k ≡ Is
is_says Is h = refl
is_says Fld h = absurd (false≢true h)
is_says Dcl h = absurd (false≢true h)
is_says Def h = absurd (false≢true h)

-- a slot that is there
pub slot_same : (o : Option ℕ) (x : ℕ) → o ≡ Some x → is_slot o x ≡ true
slot_same o x e = rw e (number_same x)

module _ (F : Facts) where
  -- the cell of a site
  pub cell_says : (c : ℕ) (o : SiteId) (column : Option ColId) → is_cell F c o column ≡ true → IsCell F c o.0 column
  cell_says c o column h =
      let at = at_of (λ x. eqb x.site.0 o.0 && is_same_column x.column column) F.cells.items c h in
      let k = and_parts (eqb at.x.site.0 o.0) (is_same_column at.x.column column) at.holds in
      let e : cell_at F c ≡ at.x = get_or_from_slice_get F.cells.items c at.x
      (record { site = record { 0 = 0 }; column = None; row = record { 0 = 0 } }) at.at in
      record {
        below = slice_get_within F.cells.items c at.x at.at;
        site_is = ap (λ (x : CellInfo). x.site.0) e ∙ eqb-true at.x.site.0 o.0 k.0;
        column_is = ap (λ (x : CellInfo). x.column) e ∙ columns_say at.x.column column k.1;
      }

  pub cell_same : (c : ℕ) (o : SiteId) (column : Option ColId) → IsCell F c o.0 column → is_cell F c o column ≡ true
  cell_same c o column is =
      of_at (λ x. eqb x.site.0 o.0 && is_same_column x.column column) F.cells.items c (cell_at F c) (slice_get-get_or F.cells.items c _ is.below)
      (both (eqb (cell_at F c).site.0 o.0) (is_same_column (cell_at F c).column column) (eq-eqb (cell_at F c).site.0 o.0 is.site_is)
      (columns_same (cell_at F c).column column is.column_is))

  -- what fits into a store
  pub fits_says : InRange F → (column : Option ColId) (s o : SiteId) → fits F column s o ≡ true → FitsStore F column s.0 o.0
  fits_says R None s o h = (below-exact F R.acyclic (site_class F s.0) (site_class F o.0)).0 h
  fits_says R (Some column) s o h = tt

  pub fits_same : InRange F → (column : Option ColId) (s o : SiteId) → FitsStore F column s.0 o.0 → fits F column s o ≡ true
  fits_same R None s o h = (below-exact F R.acyclic (site_class F s.0) (site_class F o.0)).1 h
  fits_same R (Some column) s o h = refl

  -- the body found
  pub found_says : (o : SiteId) (slot : ℕ) (d : ColId) → is_found F o slot d ≡ true → finds F (site_class F o.0) slot ≡ Some d.0
  found_says o slot d h = slot_says (finds F (site_class F o.0) slot) d.0 h

  pub found_same : (o : SiteId) (slot : ℕ) (d : ColId) → finds F (site_class F o.0) slot ≡ Some d.0 → is_found F o slot d ≡ true
  found_same o slot d e = slot_same (finds F (site_class F o.0) slot) d.0 e

  -- a mark
  pub mark_says : (class : ℕ) (c : ColId) → is_mark F class c ≡ true → IsColumn F Is class c.0
  mark_says class c h =
      let at = at_of (λ k. is_is k.kind && eqb k.class.0 class) F.columns.items c.0 h in
      let k = and_parts (is_is at.x.kind) (eqb at.x.class.0 class) at.holds in
      let e : column_at F c.0 ≡ at.x = get_or_from_slice_get F.columns.items c.0 at.x
      (record { kind = Is; class = record { 0 = 0 }; slot = None; name = []; label = [] }) at.at in
      record {
        below = slice_get_within F.columns.items c.0 at.x at.at;
        kind_is = ap (λ (x : ColumnInfo). x.kind) e ∙ is_says at.x.kind k.0;
        class_is = ap (λ (x : ColumnInfo). x.class.0) e ∙ eqb-true at.x.class.0 class k.1;
      }

  pub mark_same : (class : ℕ) (c : ColId) → IsColumn F Is class c.0 → is_mark F class c ≡ true
  mark_same class c is =
      of_at (λ k. is_is k.kind && eqb k.class.0 class) F.columns.items c.0 (column_at F c.0) (slice_get-get_or F.columns.items c.0 _ is.below)
      (both (is_is (column_kind F c.0)) (eqb (column_class F c.0) class) (subst (λ k. is_is k ≡ true) (sym is.kind_is) refl)
      (eq-eqb (column_class F c.0) class is.class_is))

  -- a declaration
  pub declared_says : (d c : ColId) → is_declared_by F d c ≡ true → IsDeclaredBy F d.0 c.0
  declared_says d c h =
      let class = eqb (column_class F d.0) (column_class F c.0) in
      let slot = is_same_slot (column_slot F d.0) (column_slot F c.0) in
      let k = and_parts (is_def (column_kind F d.0)) (is_dcl (column_kind F c.0) && (class && slot)) h in
      let l = and_parts (is_dcl (column_kind F c.0)) (class && slot) k.1 in
      let m = and_parts class slot l.1 in
      record {
        body = def_says (column_kind F d.0) k.0;
        declaration = dcl_says (column_kind F c.0) l.0;
        class = eqb-true (column_class F d.0) (column_class F c.0) m.0;
        slot = slots_say (column_slot F d.0) (column_slot F c.0) m.1;
      }

  pub declared_same : (d c : ColId) → IsDeclaredBy F d.0 c.0 → is_declared_by F d c ≡ true
  declared_same d c by =
      let class = eqb (column_class F d.0) (column_class F c.0) in
      let slot = is_same_slot (column_slot F d.0) (column_slot F c.0) in
      both (is_def (column_kind F d.0)) (is_dcl (column_kind F c.0) && (class && slot)) (subst (λ k. is_def k ≡ true) (sym by.body) refl)
      (both (is_dcl (column_kind F c.0)) (class && slot) (subst (λ k. is_dcl k ≡ true) (sym by.declaration) refl)
      (both class slot (eq-eqb (column_class F d.0) (column_class F c.0) by.class) (slots_same (column_slot F d.0) (column_slot F c.0) by.slot)))

  -- a column that hides another
  record Alike (d c : ℕ) : Type 0 where
    method : (column_kind F d ≡ Def) ⊎ (column_kind F d ≡ Dcl)
    kind : column_kind F d ≡ column_kind F c

  alike_says : (d c : ColId) → are_alike F d c ≡ true → Alike d.0 c.0
  alike_says d c h =
      ⊎_elim
      (λ a. let k = and_parts (is_def (column_kind F d.0)) (is_def (column_kind F c.0)) a in
      let e = def_says (column_kind F d.0) k.0 in
      record { method = inl e; kind = e ∙ sym (def_says (column_kind F c.0) k.1) })
      (λ b. let k = and_parts (is_dcl (column_kind F d.0)) (is_dcl (column_kind F c.0)) b in
      let e = dcl_says (column_kind F d.0) k.0 in
      record { method = inr e; kind = e ∙ sym (dcl_says (column_kind F c.0) k.1) })
      (or_cases (is_def (column_kind F d.0) && is_def (column_kind F c.0)) (is_dcl (column_kind F d.0) && is_dcl (column_kind F c.0)) h)

  alike_same : (d c : ColId) → Hides F d.0 c.0 → are_alike F d c ≡ true
  alike_same d c by =
      let x = is_def (column_kind F d.0) && is_def (column_kind F c.0) in
      let y = is_dcl (column_kind F d.0) && is_dcl (column_kind F c.0) in
      ⊎_elim
      (λ e. or_left x y (both (is_def (column_kind F d.0)) (is_def (column_kind F c.0)) (subst (λ k. is_def k ≡ true) (sym e) refl)
      (subst (λ k. is_def k ≡ true) (sym e ∙ by.kind) refl)))
      (λ e. or_right x y (both (is_dcl (column_kind F d.0)) (is_dcl (column_kind F c.0)) (subst (λ k. is_dcl k ≡ true) (sym e) refl)
      (subst (λ k. is_dcl k ≡ true) (sym e ∙ by.kind) refl)))
      by.method

  pub hides_says : InRange F → (d c : ColId) → hides F d c ≡ true → Hides F d.0 c.0
  hides_says R d c h =
      let slot = is_same_slot (column_slot F d.0) (column_slot F c.0) in
      let other = not (eqb (column_class F d.0) (column_class F c.0)) in
      let under = below F (column_class F d.0) (column_class F c.0) in
      let k = and_parts (are_alike F d c) (slot && (other && under)) h in
      let l = and_parts slot (other && under) k.1 in
      let m = and_parts other under l.1 in
      let alike = alike_says d c k.0 in
      record {
        method = alike.method;
        kind = alike.kind;
        slot = slots_say (column_slot F d.0) (column_slot F c.0) l.0;
        class = (strictly-exact F R.acyclic (column_class F d.0) (column_class F c.0)).1
            (λ e. false≢true (sym (not-true (eqb (column_class F d.0) (column_class F c.0)) m.0) ∙ eq-eqb (column_class F d.0) (column_class F c.0) e))
            ((below-exact F R.acyclic (column_class F d.0) (column_class F c.0)).0 m.1);
      }

  pub hides_same : InRange F → (d c : ColId) → Hides F d.0 c.0 → hides F d c ≡ true
  hides_same R d c by =
      let slot = is_same_slot (column_slot F d.0) (column_slot F c.0) in
      let other = not (eqb (column_class F d.0) (column_class F c.0)) in
      let under = below F (column_class F d.0) (column_class F c.0) in
      let s = (strictly-exact F R.acyclic (column_class F d.0) (column_class F c.0)).0 by.class in
      both (are_alike F d c) (slot && (other && under)) (alike_same d c by)
      (both slot (other && under) (slots_same (column_slot F d.0) (column_slot F c.0) by.slot)
      (both other under
      (not_from_false (eqb (column_class F d.0) (column_class F c.0)) (ne_eqb (column_class F d.0) (column_class F c.0) s.0))
      ((below-exact F R.acyclic (column_class F d.0) (column_class F c.0)).1 s.1)))

  -- the row of a point
  pub point_row_says : (p : ℕ) (v : RowId) → is_point_row F p v ≡ true → slice_get F.points.items p ≡ Some v
  point_row_says p v h =
      let at = at_of (λ r. eqb r.0 v.0) F.points.items p h in
      at.at ∙ ap Some (row_says at.x v at.holds)

  pub point_row_same : (p : ℕ) (v : RowId) → slice_get F.points.items p ≡ Some v → is_point_row F p v ≡ true
  point_row_same p v e = of_at (λ r. eqb r.0 v.0) F.points.items p v e (number_same v.0)

  -- the cell of a row
  pub record HasRow (c : ℕ) (v : RowId) : Type 0 where
    pub x : CellInfo
    pub at : slice_get F.cells.items c ≡ Some x
    pub row : x.row ≡ v

  pub cell_row_says : (c : ℕ) (v : RowId) → is_cell_row F c v ≡ true → HasRow c v
  cell_row_says c v h =
      let at = at_of (λ x. eqb x.row.0 v.0) F.cells.items c h in
      record { x = at.x; at = at.at; row = row_says at.x.row v at.holds }

  pub cell_row_same : (c : ℕ) (x : CellInfo) → slice_get F.cells.items c ≡ Some x → is_cell_row F c x.row ≡ true
  cell_row_same c x e = of_at (λ y. eqb y.row.0 x.row.0) F.cells.items c x e (number_same x.row.0)

  -- the `this` of a body
  pub this_says : (v : RowId) (d : ColId) → is_this F v d ≡ true → row_this F v.0 ≡ Some d
  this_says v d h = columns_say (row_this F v.0) (Some d) h

  pub this_same : (v : RowId) (d : ColId) → row_this F v.0 ≡ Some d → is_this F v d ≡ true
  this_same v d e = columns_same (row_this F v.0) (Some d) e

-- an argument and the parameter at its place
pub record Joined (args params : List (Option ℕ)) (from to : ℕ) : Type 0 where
  pub k : ℕ
  pub argument : point_at args k ≡ Some from
  pub parameter : point_at params k ≡ Some to

pub joined_says : (args params : List (Option ℕ)) (from to : ℕ) → are_joined args params from to ≡ true → Joined args params from to
joined_says args params from to h =
    let f = λ (k : ℕ). is_slot (point_at args k) from && is_slot (point_at params k) to in
    let a = some_of f (range_with_len 0 (length args)) h in
    let k = and_parts (is_slot (point_at args a.x) from) (is_slot (point_at params a.x) to) a.holds in
    record { k = a.x; argument = slot_says (point_at args a.x) from k.0; parameter = slot_says (point_at params a.x) to k.1 }

in_list : (args : List (Option ℕ)) (k from : ℕ) → point_at args k ≡ Some from → k < length args
in_list args k from e = ⊎_elim (λ lt. lt) (λ past. absurd (cc (e, get_or_past args k None past))) (cases_lt k (length args))

in_range : (n k : ℕ) → k < n → Contains (range_with_len 0 n) k
in_range n k lt = (k, subst (λ m. k < m) (sym (length-range_with_len 0 n)) lt, omega (arith, get_or-range_with_len 0 n k k lt))

pub joined_same : (args params : List (Option ℕ)) (k from to : ℕ) → point_at args k ≡ Some from → point_at params k ≡ Some to
    → are_joined args params from to ≡ true
joined_same args params k from to a b =
    any_of (λ (j : ℕ). is_slot (point_at args j) from && is_slot (point_at params j) to) (range_with_len 0 (length args)) k
    (in_range (length args) k (in_list args k from a))
    (both (is_slot (point_at args k) from) (is_slot (point_at params k) to) (slot_same (point_at args k) from a) (slot_same (point_at params k) to b))
