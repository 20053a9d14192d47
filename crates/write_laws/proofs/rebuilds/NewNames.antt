-- Each method of the written program has a name of the text, so that none is a constructor.
use Rattle.std.proofs.Common.{◌≡◌, ℕ, ◌&&◌, true, Option, Some, None, length, refl, sym, ap, ◌∙◌, subst, ⊎_elim}
use Rattle.std.specs.Prelude.{not, slice_get}
use Rattle.std.proofs.lemmas.Bool.{false≢true, and_parts, eq-eqb}
use Rattle.std.proofs.lemmas.Option.{same_Some}
use Rattle.kaba_base.specs.Words.{is_name}
use Rattle.kaba_base.specs.declared.NodeId.{NodeId}
use Rattle.java_core.specs.Programs.{Plain, PlainMethod}
use Rattle.java_core.specs.Classes.{slot_of_method}
use Rattle.java_core.specs.Makers.{HasNoMaker}
use Rattle.fact_model.specs.Items.{column_kind, column_slot}
use Rattle.fact_model.specs.Classes.{is_slot}
use Rattle.fact_model.specs.declared.facts.Facts.{Facts}
use Rattle.fact_model.specs.declared.sets.PointsTo.{PointsTo}
use Rattle.fact_model.proofs.ClassLemmas.{slot_says as slot_is}
use Rattle.hier_model.specs.Hierarchies.{Hierarchy, place_of_column, is_at, is_above, stands_at, is_offered, is_method, offers_slot}
use Rattle.hier_model.proofs.AnyLemmas.{any_below_some}
use Rattle.flow_rules.specs.declared.items.ColumnItem.TheVariants as column
use Rattle.flow_laws.proofs.order.Fixed.{fixed_named}
use Rattle.flow_laws.proofs.order.Names.{few}
use Rattle.rebuild_model.specs.Renaming.{renaming_of}
use Rattle.rebuild_model.specs.Members.{is_made_at, offers_body}
use Rattle.rebuild_model.specs.Rebuilds.{IsMakeMethod}
use Rattle.write_laws.proofs.given.Written.{method_member, member_written}
use Rattle.write_laws.proofs.rebuilds.Fixed.{IsMade, make_named}
use Rattle.write_laws.proofs.rebuilds.Nodes.{by_node}
use Rattle.write_laws.proofs.rebuilds.Given.{Given, T, R, columns, column_there}
use Rattle.write_laws.proofs.rebuilds.Resolved.{BodiesMatch}
use Rattle.write_laws.proofs.rebuilds.Methods.{method_slot, IsOldBody, IsOldHead, IsOldFiller}
use Rattle.write_laws.proofs.rebuilds.Origins.{IsOldStatic, origin}
use Rattle.write_laws.proofs.rebuilds.Public.{method_name_is, slotted_kind}
use Rattle.flow_laws.proofs.NoMaker.{named_no_maker}

module _ {P : Plain} {F : Facts} {pt : PointsTo} {H : Hierarchy} {V : Plain} (G : Given P F pt H V) (match : BodiesMatch G) where
  -- the methods of a slot of which a column stands somewhere
  slot_named : (m s n c : ℕ) → slot_of_method P m ≡ Some s → stands_at H n c ≡ true → is_method (column_kind F c) ≡ true → column_slot F c ≡ Some s
      → is_name ((by_node P F H).method_name m) ≡ true
  slot_named m s n c of at kind slot =
      subst (λ x. is_name x ≡ true) (sym (method_name_is G m s c of kind slot))
      (member_written F pt H G.unbroken G.hierarchy.placed.columns n c at (method_member (column_kind F c) kind))

  renamed : (m : ℕ) → (by_node P F H).method_name m ≡ (R G).method_name m
  unfolding renaming_of
  renamed m = refl

  -- what a node offers stands somewhere
  offered_at : (n c : ℕ) → is_offered H n c ≡ true → (p : ℕ) × (stands_at H p c ≡ true)
  offered_at n c h = go (place_of_column H c) h
    where
      go : (o : Option NodeId) → is_above H.order n o ≡ true → (p : ℕ) × (is_at p o ≡ true)
      go None e = absurd (false≢true e)
      go (Some p) e = (p.0, eq-eqb p.0 p.0 refl)

  body_named : (m : ℕ) (new : PlainMethod) → IsOldBody G m new → is_name ((by_node P F H).method_name m) ≡ true
  body_named m new b =
      let C = columns G in
      let t = column_there G (column.Def m) b.at.node b.at.stands in
      let s = C.slotted (column.Def m) t.number t.numbered refl in
      slot_named m s.0 b.at.node t.number s.1 t.at (ap is_method (C.kind (column.Def m) t.number t.numbered))
      (C.slot (column.Def m) t.number t.numbered ∙ s.1)

  head_named : (n m : ℕ) (new : PlainMethod) → IsOldHead G n m new → is_name ((by_node P F H).method_name m) ≡ true
  head_named n m new h =
      let C = columns G in
      let w = h.of.was in
      let of = method_slot G m w.slot w.old w.old_stands w.of_slot in
      let t = column_there G (column.Dcl m) n h.stands in
      slot_named m w.slot n t.number of t.at (ap is_method (C.kind (column.Dcl m) t.number t.numbered)) (C.slot (column.Dcl m) t.number t.numbered ∙ of)

  filler_named : (n m : ℕ) (new : PlainMethod) → IsOldFiller G n m new → is_name ((by_node P F H).method_name m) ≡ true
  filler_named n m new f =
      let C = columns G in
      let w = f.of.was in
      let s = w.slot in
      let offers = (and_parts (offers_slot F H n s) (not (offers_body F H n s))
      (and_parts (is_made_at F H n) (offers_slot F H n s && not (offers_body F H n s)) f.filled).1).0 in
      let c = any_below_some (λ c. is_slot (column_slot F c) s && is_offered H n c) (length F.columns.items) offers in
      let p = and_parts (is_slot (column_slot F c.0) s) (is_offered H n c.0) c.2 in
      let of : column_slot F c.0 ≡ Some s = slot_is (column_slot F c.0) s p.0 in
      let i = C.item c.0 c.1 in
      let at = offered_at n c.0 p.1 in
      slot_named m s at.0 c.0 (method_slot G m s w.old w.old_stands w.of_slot) at.1
      (ap is_method (C.kind i.0 c.0 i.1) ∙ slotted_kind G i.0 s (sym (C.slot i.0 c.0 i.1) ∙ of)) of

  static_named : (m g : ℕ) (y : IsOldStatic G match m g) → is_name y.same.old.name ≡ true
  static_named m g y =
      let s = y.same in
      ⊎_elim (λ n. n.named) (λ i. absurd (false≢true (sym (G.formed.makers m s.old s.old_stands i).instance ∙ s.old_static)))
      (G.formed.methods m s.old s.old_stands).name

  make_is_named : (g : ℕ) (y : IsMakeMethod P F H V (T G) g) → is_name y.is.new.name ≡ true
  unfolding renaming_of
  make_is_named g y =
      let z = y.at in
      let site : IsMade P G.formed y.number = record { site = z.site; stands = z.stands; object = z.object; maker = z.maker; has = z.has } in
      let n = make_named P G.formed y.number site in
      subst (λ x. is_name x ≡ true) (sym (y.is.name ∙ n.name)) (fixed_named P G.formed (few P G.formed F G.facts) n.fixed n.stands)

  new_named : (g : ℕ) (new : PlainMethod) → slice_get V.methods g ≡ Some new → is_name new.name ≡ true
  new_named g new e =
      ⊎_elim
      (λ i. ⊎_elim
      (λ b. subst (λ x. is_name x ≡ true) (renamed b.0 ∙ sym b.1.name) (body_named b.0 new b.1))
      (λ b. ⊎_elim
      (λ h. subst (λ x. is_name x ≡ true) (renamed b.1 ∙ sym h.of.name) (head_named b.0 b.1 new h))
      (λ f. subst (λ x. is_name x ≡ true) (renamed b.1 ∙ sym f.of.name) (filler_named b.0 b.1 new f))
      b.2)
      i)
      (λ i. ⊎_elim
      (λ y. subst (λ x. is_name x ≡ true) (sym y.1.same.name ∙ of_one g new y.1.same.new e y.1.same.new_stands) (static_named y.0 g y.1))
      (λ y. subst (λ x. is_name x ≡ true) (of_one g new y.is.new e y.is.stands) (make_is_named g y))
      i)
      (origin G match g new e)
    where
      of_one : (g : ℕ) (new k : PlainMethod) → slice_get V.methods g ≡ Some new → slice_get V.methods g ≡ Some k → k.name ≡ new.name
      of_one g new k e d = ap (λ (z : PlainMethod). z.name) (same_Some _ _ (sym d ∙ e))

  -- no class of the new program has a constructor
  pub no_maker_new : HasNoMaker V
  no_maker_new = named_no_maker V new_named
