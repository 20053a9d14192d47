-- Drops and fresh renames that are accepted keep what the steps towards a tree keep.
use Rattle.std.proofs.Common.{◌≡◌, ℕ, ◌<◌, ⊎_elim, ◌==◌, ◌&&◌, not, Bool, true, false, cond, List, [], ◌∷◌, length, Option, Some, None, Result, Ok, Err, refl, sym, ap, ◌∙◌, subst, arith, eqb-true}
use Rattle.std.specs.Prelude.{slice_set}
use Rattle.std.specs.Option.{option_map}
use Rattle.std.proofs.lemmas.Bool.{cases_Bool, cases_lt, false≢true, and_parts, or_cases}
use Rattle.std.proofs.lemmas.Option.{same_Some}
use Rattle.std.proofs.lemmas.List.FromFn.{get_or-map-range_with_len}
use Rattle.std.proofs.lemmas.List.{get_or_past}
use Rattle.kaba_base.specs.declared.NodeId.{NodeId}
use Rattle.kaba_base.specs.declared.ColId.{ColId}
use Rattle.kaba_order.specs.Orders.{is_live}
use Rattle.fact_model.specs.Items.{column_kind, column_slot}
use Rattle.fact_model.specs.InRange.{InRange}
use Rattle.fact_model.specs.InOrder.{InOrder}
use Rattle.fact_model.proofs.RangeLemmas.{column-below}
use Rattle.fact_model.specs.declared.facts.Facts.{Facts}
use Rattle.fact_model.specs.declared.facts.ColKind.{ColKind}
use Rattle.fact_model.specs.declared.facts.ColKind.TheVariants.{Fld, Dcl, Def, Is}
use Rattle.fact_model.specs.declared.sets.PointsTo.{PointsTo}
use Rattle.fact_model.specs.declared.sets.Table.{Table}
use Rattle.hier_model.specs.Hierarchies.{Hierarchy, node, member_name, IsHierarchyOf}
use Rattle.hier_model.specs.Names.{is_field}
use Rattle.hier_model.specs.Edits.{dropped_order, is_one_slot, is_renamed, renamed_member, renamed, first_unknown, is_placed, is_mark, is_used, unless, changed}
use Rattle.hier_model.specs.declared.edits.Edit.TheVariants as edit
use Rattle.hier_model.specs.declared.edits.ChangeFault.{ChangeFault}
use Rattle.hier_model.specs.declared.edits.ChangeFault.TheVariants.{UnknownNode, UnknownMember, NotEmpty}
use Rattle.hier_model.proofs.EditedOrders.{dropped_made}
use Rattle.hier_model.proofs.FitLemmas.{changed_fits}
use Rattle.hier_laws.specs.Shapes.{Given}
use Rattle.hier_rules.specs.declared.broken.Broken.{Broken}
use Rattle.hier_rules.specs.Names.{is_member, method_slot}
use Rattle.hier_rules.specs.First.{first_of_edit}
use Rattle.hier_edit.specs.Applied.{applied, outcome, unless_broken}
use Rattle.hier_laws.proofs.GivenLemmas.{given}
use Rattle.hier_laws.proofs.ShapeLemmas.{shape, placed}
use Rattle.hier_tree.specs.Kept.{field_at, slot_at, origin_at, IsKept}
use Rattle.hier_tree.specs.Reached.{IsFresh}
use Rattle.hier_tree.proofs.OriginLemmas.{drop_keeps, drop_names}
use Rattle.hier_tree.proofs.MadeLemmas.{without}
use Rattle.hier_laws.proofs.NamedLemmas.{field_is as is_fld}

-- an accepted change was made, and meets the obligations
pub accepted : (F : Facts) (pt : PointsTo) (r : Result Hierarchy ChangeFault) (h : Hierarchy) → outcome F pt r ≡ Ok h → (r ≡ Ok h)
    × (first_of_edit F pt h ≡ None)
accepted F pt (Err x) h e = absurd (cc e)
accepted F pt (Ok k) h e = at (first_of_edit F pt k) refl e
  where
    at : (b : Option Broken) → first_of_edit F pt k ≡ b → unless_broken k b ≡ Ok h → (◌≡◌ {A = Result Hierarchy ChangeFault} (Ok k) (Ok h))
        × (first_of_edit F pt h ≡ None)
    at (Some b) f g = absurd (cc g)
    at None f g = let same : k ≡ h = cc g in (
      ap (λ (x : Hierarchy). let r : Result Hierarchy ChangeFault = Ok x in r) same,
      subst
          (λ (x : Hierarchy). first_of_edit F pt x ≡ None) same f,
    )

pub unless_ok : (o : Option NodeId) (f : NodeId → ChangeFault) (r : Result Hierarchy ChangeFault) (h : Hierarchy) → unless o f r ≡ Ok h
    → (o ≡ None) × (r ≡ Ok h)
unless_ok None f r h e = (refl, e)
unless_ok (Some n) f r h e = absurd (cc e)

pub if_ok : (b : Bool) (x : ChangeFault) (k h : Hierarchy) → cond b (Err x) (Ok k) ≡ Ok h → (b ≡ false) × (k ≡ h)
if_ok true x k h e = absurd (cc e)
if_ok false x k h e = (refl, cc e)

or_err : (b : Bool) (x : ChangeFault) (k h : Hierarchy) → cond b (Ok k) (Err x) ≡ Ok h → (b ≡ true) × (k ≡ h)
or_err true x k h e = (refl, cc e)
or_err false x k h e = absurd (cc e)

pub is_ok : (k h : Hierarchy) → ◌≡◌ {A = Result Hierarchy ChangeFault} (Ok k) (Ok h) → k ≡ h
is_ok k h e = cc e

field_kind : (k : ColKind) → is_field k ≡ true → is_member k ≡ true
field_kind Fld h = refl
field_kind Dcl h = absurd (false≢true h)
field_kind Def h = absurd (false≢true h)
field_kind Is h = absurd (false≢true h)

-- what has a method's slot is a method, and that is its slot
slot_of_method : (k : ColKind) (slot : Option ℕ) (x : ℕ) → method_slot k slot ≡ Some x → (is_member k ≡ true) × (slot ≡ Some x)
slot_of_method Fld slot x h = absurd (cc h)
slot_of_method Dcl slot x h = (refl, h)
slot_of_method Def slot x h = (refl, h)
slot_of_method Is slot x h = absurd (cc h)

one_slot_says : (a b : Option ℕ) → is_one_slot a b ≡ true → a ≡ b
one_slot_says None b h = absurd (false≢true h)
one_slot_says (Some x) None h = absurd (false≢true h)
one_slot_says (Some x) (Some y) h = ap Some (eqb-true x y h)

-- a field has no slot
field_slot : (F : Facts) → InOrder F → (c : ℕ) → is_field (column_kind F c) ≡ true → column_slot F c ≡ None
field_slot F O c h = let e = is_fld (column_kind F c) h in O.members.no_slots c (column-below F c Fld e (λ x. cc x)) e

module _ (F : Facts) (pt : PointsTo) (t : Table) (R : InRange F) (O : InOrder F) (H : Hierarchy) (K : IsKept F pt t H) where
  abbrev G : Given
  G = given F pt t

  pub drop_kept : (n : NodeId) (New : Hierarchy) → applied F pt H (edit.Drop n) ≡ Ok New → IsKept F pt t New
  drop_kept n New e =
      let made : Hierarchy = record H { order = dropped_order H.order n.0 } in
      let a = accepted F pt (changed F H (edit.Drop n)) New e in
      let b = unless_ok (first_unknown H.order (n ∷ [])) UnknownNode (cond (is_used H n) (Err (NotEmpty n)) (Ok made)) New a.0 in
      let c = if_ok (is_used H n) (NotEmpty n) made New b.1 in
      let fits = changed_fits F R H K.fits (edit.Drop n) tt New a.0 in
      let gone = without H K.fits.sized.order n.0 in
      let keeps = drop_keeps G (shape H) n.0 (shape made) gone (origin_at H) K.origins in
      let names = drop_names G (shape H) n.0 (shape made) gone (field_at F) (slot_at F) (member_name H) K.names in
      let lives : (m : ℕ) → is_live made.order m ≡ true → is_live H.order m ≡ true =
      λ m h. (and_parts (is_live H.order m) (not (m == n.0)) (sym ((dropped_made H.order K.fits.sized.order n.0).live m) ∙ h)).0 in
      subst (λ (x : Hierarchy). IsHierarchyOf F x → first_of_edit F pt x ≡ None → IsKept F pt t x) c.1
      (λ f m. record { fits = f; table = K.table; there = λ k h. K.there k (lives k h); origins = keeps; names = names; meets = m })
      fits a.1

  pub type_kept : (n : NodeId) (name : List ℕ) (New : Hierarchy) → applied F pt H (edit.TypeName n name) ≡ Ok New → IsKept F pt t New
  type_kept n name New e =
      let made : Hierarchy = record H { types = slice_set H.types n.0 name } in
      let a = accepted F pt (changed F H (edit.TypeName n name)) New e in
      let b = unless_ok (first_unknown H.order (n ∷ [])) UnknownNode (Ok made) New a.0 in
      let fits = changed_fits F R H K.fits (edit.TypeName n name) tt New a.0 in
      subst (λ (x : Hierarchy). IsHierarchyOf F x → first_of_edit F pt x ≡ None → IsKept F pt t x) (is_ok made New b.1)
      (λ f m. record { fits = f; table = K.table; there = K.there; origins = K.origins; names = K.names; meets = m })
      fits a.1

  module _ (e : ColId) (name : List ℕ) (fresh : IsFresh F H name) where
    abbrev made : Hierarchy
    made = renamed F H e name

    stood : (c n : ℕ) → (shape H).column c ≡ Some n → c < length H.members
    stood c n h =
        ⊎_elim (λ lt. lt)
        (λ past. absurd (cc (sym (ap (option_map (λ (q : NodeId). q.0))
        (get_or_past H.columns c None (omega (arith, past, K.fits.sized.columns, K.fits.sized.members)))) ∙ h)))
        (cases_lt c (length H.members))

    name_at : (c n : ℕ) → (shape H).column c ≡ Some n → member_name made c ≡ renamed_member F H.members e name c
    name_at c n h = get_or-map-range_with_len (renamed_member F H.members e name) 0 (length H.members) c c [] (stood c n h) (omega arith)

    -- a column that is renamed has the name, and another its own
    new_name : (c n : ℕ) → (shape H).column c ≡ Some n → is_renamed F e c ≡ true → member_name made c ≡ name
    new_name c n h r = name_at c n h ∙ ap (λ b. cond b name (member_name H c)) r

    own_name : (c n : ℕ) → (shape H).column c ≡ Some n → is_renamed F e c ≡ false → member_name made c ≡ member_name H c
    own_name c n h r = name_at c n h ∙ ap (λ b. cond b name (member_name H c)) r

    -- one that is renamed and one that is not have different names
    differs : (c d n m : ℕ) → (shape H).column c ≡ Some n → (shape H).column d ≡ Some m → is_member (column_kind F d) ≡ true → is_renamed F e c ≡ true
        → is_renamed F e d ≡ false
        → member_name made c ≡ member_name made d → ⊥
    differs c d n m cc cd kind rc rd same = fresh.members d (node m) kind (placed H d m cd) (sym (own_name d m cd rd) ∙ sym same ∙ new_name c n cc rc)

    -- a field that is renamed is the one that is named
    field_named : (c : ℕ) → field_at F c ≡ true → is_renamed F e c ≡ true → c ≡ e.0
    field_named c f r =
        ⊎_elim
        (λ here. eqb-true c e.0 here)
        (λ slot. absurd (no_slot (column_slot F e.0) (column_slot F c) slot (field_slot F O c f)))
        (or_cases (c == e.0) (is_one_slot (column_slot F e.0) (column_slot F c)) r)
      where
        no_slot : (a b : Option ℕ) → is_one_slot a b ≡ true → b ≡ None → ⊥
        no_slot None b h k = false≢true h
        no_slot (Some x) None h k = false≢true h
        no_slot (Some x) (Some y) h k = cc k

    -- what is renamed has one slot
    slot_named : (c x : ℕ) → slot_at F c ≡ Some x → is_renamed F e c ≡ true → column_slot F e.0 ≡ Some x
    slot_named c x s r =
        let own = (slot_of_method (column_kind F c) (column_slot F c) x s).1 in
        ⊎_elim
        (λ here. subst (λ k. column_slot F k ≡ Some x) (eqb-true c e.0 here) own)
        (λ slot. one_slot_says (column_slot F e.0) (column_slot F c) slot ∙ own)
        (or_cases (c == e.0) (is_one_slot (column_slot F e.0) (column_slot F c)) r)

    fields_new : (a c d n m : ℕ) → field_at F c ≡ true → field_at F d ≡ true → (shape H).column c ≡ Some n → (shape H).column d ≡ Some m
        → G.below a (G.class_of c) ≡ true → G.below a (G.class_of d) ≡ true → member_name made c ≡ member_name made d → c ≡ d
    fields_new a c d n m fc fd cc cd ac ad same =
        ⊎_elim
        (λ rc. ⊎_elim
        (λ rd. field_named c fc rc ∙ sym (field_named d fd rd))
        (λ rd. absurd (differs c d n m cc cd (field_kind (column_kind F d) fd) rc rd same))
        (cases_Bool (is_renamed F e d)))
        (λ rc. ⊎_elim
        (λ rd. absurd (differs d c m n cd cc (field_kind (column_kind F c) fc) rd rc (sym same)))
        (λ rd. K.names.fields a c d n m fc fd cc cd ac ad (sym (own_name c n cc rc) ∙ same ∙ own_name d m cd rd))
        (cases_Bool (is_renamed F e d)))
        (cases_Bool (is_renamed F e c))

    slots_new : (a c d n m x y : ℕ) → slot_at F c ≡ Some x → slot_at F d ≡ Some y → (shape H).column c ≡ Some n → (shape H).column d ≡ Some m
        → G.below a (G.class_of c) ≡ true → G.below a (G.class_of d) ≡ true → member_name made c ≡ member_name made d → x ≡ y
    slots_new a c d n m x y sc sd cc cd ac ad same =
        ⊎_elim
        (λ rc. ⊎_elim
        (λ rd. same_Some x y (sym (slot_named c x sc rc) ∙ slot_named d y sd rd))
        (λ rd. absurd (differs c d n m cc cd (slot_of_method (column_kind F d) (column_slot F d) y sd).0 rc rd same))
        (cases_Bool (is_renamed F e d)))
        (λ rc. ⊎_elim
        (λ rd. absurd (differs d c m n cd cc (slot_of_method (column_kind F c) (column_slot F c) x sc).0 rd rc (sym same)))
        (λ rd. K.names.slots a c d n m x y sc sd cc cd ac ad (sym (own_name c n cc rc) ∙ same ∙ own_name d m cd rd))
        (cases_Bool (is_renamed F e d)))
        (cases_Bool (is_renamed F e c))

    pub member_kept : (New : Hierarchy) → applied F pt H (edit.MemberName e name) ≡ Ok New → IsKept F pt t New
    member_kept New h =
        let a = accepted F pt (changed F H (edit.MemberName e name)) New h in
        let b = or_err (is_placed H e && not (is_mark (column_kind F e.0))) (UnknownMember e) made New a.0 in
        let fits = changed_fits F R H K.fits (edit.MemberName e name) tt New a.0 in
        subst (λ (x : Hierarchy). IsHierarchyOf F x → first_of_edit F pt x ≡ None → IsKept F pt t x) b.1
        (λ f m. record {
          fits = f;
          table = K.table;
          there = K.there;
          origins = K.origins;
          names = record
              { fields = fields_new; slots = slots_new };
          meets = m;
        })
        fits a.1
