-- The methods that make objects have names and bodies that can be written.
use Rattle.std.proofs.Common.{◌≡◌, ℕ, List, [], ◌∷◌, Some, Contains, refl, sym, ap, ◌∙◌, subst}
use Rattle.std.specs.Prelude.{slice_get, option_and_then}
use Rattle.std.specs.Option.{option_map_or}
use Rattle.std.proofs.lemmas.Option.{slice_get_within}
use Rattle.std.proofs.lemmas.List.Elements.{Contains-append_left}
use Rattle.java_lex.specs.Writable.{IsName}
use Rattle.java_tree.specs.Formed.{AreFormed, AreFormedStmts, IsFormedMember, Each, IsFormedParam}
use Rattle.java_core.specs.Programs.{PlainLocal, PlainMethod}
use Rattle.java_core.specs.Classes.{slot_of_method}
use Rattle.java_core.specs.Makers.{maker_of, maker_slot, IsMakerOf}
use Rattle.java_core.specs.Formed.{IsClass}
use Rattle.java_core.specs.declared.TyBase.TheVariants.{Class}
use Rattle.flow_rules.specs.declared.items.Operand.{Operand}
use Rattle.flow_rules.specs.declared.items.RowItem.{RowItem}
use Rattle.flow_rules.specs.declared.items.RowItem.TheVariants as row
use Rattle.flow_rules.specs.declared.items.Site.{Site}
use Rattle.flow_rules.specs.Parts.{Part, a_creation, parts_of}
use Rattle.flow_rules.specs.Numbered.{sites_of}
use Rattle.flow_rules.specs.Facts.{numbers, PlainMakers, makers_of}
use Rattle.flow_rules.specs.Lists.{row_in, row_at}
use Rattle.flow_rules.proofs.Listed.{first, more}
use Rattle.flow_laws.proofs.cover.Makers.{own_maker}
use Rattle.flow_laws.proofs.order.Fixed.{fixed_named}
use Rattle.flow_laws.proofs.order.Names.{few}
use Rattle.rebuild_model.specs.Renaming.{renaming_of}
use Rattle.rebuild_laws.proofs.given.Made.{made_part}
use Rattle.write_model.specs.Names.{makers_name, makers_local}
use Rattle.write_model.specs.Members.{passed, make_body, make_members, param}
use Rattle.write_laws.proofs.bodies.SiteRows.{site_row}
use Rattle.write_laws.proofs.rebuilds.Fixed.{IsMade, has_makers, makers_there, make_named}
use Rattle.write_laws.proofs.rebuilds.Members.{makes_from}
use Rattle.write_laws.proofs.given.Given.{Given, words}
use Rattle.write_laws.proofs.given.Letters.{named}
use Rattle.write_laws.proofs.given.Types.{row_named, base_formed}
use Rattle.write_laws.proofs.given.Asked.{call_asked, access_of}
use Rattle.flow_rules.specs.Ordered.{each}
use Rattle.java_tree.specs.Syntax.{MemberTree}

module _ (C : Given) where
  open C use {program as P, facts as F, hierarchy as H}
  open words C use {renaming as R, numbers as N}

  -- the names that are fixed are identifiers
  pub makers_named : (m : PlainMakers) → makers_of P ≡ Some m → IsName m.holder × IsName m.local
  makers_named m e =
      let h = has_makers P C.ready.formed m e in
      let small = few P C.ready.formed F C.ready.facts in (
        subst IsName h.holder_name (named h.holder.name (fixed_named P C.ready.formed small h.holder h.holder_stands)),
        subst IsName h.local_name (named h.local.name (fixed_named P C.ready.formed small h.local h.local_stands)),
      )

  pub make_called : (s : ℕ) (z : IsMade P C.ready.formed s) → IsName (R.make_name z.site.number)
  unfolding renaming_of
  make_called s z =
      let n = make_named P C.ready.formed s z in
      subst IsName (sym n.name) (named n.fixed.name (fixed_named P C.ready.formed (few P C.ready.formed F C.ready.facts) n.fixed n.stands))

  pub holder_called : (s : ℕ) → IsMade P C.ready.formed s → IsName (makers_name P)
  holder_called s z =
      let m = makers_there P C.ready.formed s z in
      subst IsName (sym (ap (λ o. option_map_or (λ (m : PlainMakers). m.holder) o []) m.1)) (makers_named m.0 m.1).0

  local_called : (s : ℕ) → IsMade P C.ready.formed s → IsName (makers_local P)
  local_called s z =
      let m = makers_there P C.ready.formed s z in
      subst IsName (sym (ap (λ o. option_map_or (λ (m : PlainMakers). m.local) o []) m.1)) (makers_named m.0 m.1).1

  -- the constructor of a class has a slot
  maker_slotted : (c m : ℕ) → maker_of P c ≡ Some m → (s : ℕ) × (slot_of_method P m ≡ Some s)
  maker_slotted c m e =
      let o = own_maker P c m e in
      let maker : IsMakerOf P o.method = record { class = o.class; stands = ap (slice_get P.classes) o.owner ∙ o.class_stands; name = o.name } in
      let s = (C.ready.formed.methods m o.method o.stands).slotted (C.ready.formed.makers m o.method o.stands maker).instance in
      (s.0, ap (option_and_then (λ (k : PlainMethod). k.slot)) o.stands ∙ s.1)

  row_there : (o : Operand) (i : RowItem) (r : ℕ) → o.row ≡ Some i → N.row i ≡ Some r → row_at N o ≡ Some r
  row_there o i r e h = ap (row_in N) e ∙ h

  number_is : (s : ℕ) (z : Site) → slice_get (sites_of P) s ≡ Some z → N.row (row.New z.number) ≡ Some z.row
  unfolding numbers
  number_is s z e = site_row P s z e

  -- the method that the constructor of a site's class is written as
  maker_called : (s : ℕ) (z : IsMade P C.ready.formed s) → IsName (R.method_name z.maker)
  maker_called s z =
      let p = made_part P C.ready.formed C.ready.typed s z.site z.stands z.object in
      let slot = maker_slotted z.site.ty.class.0 z.maker z.has in
      let part : Part = a_creation p.place p.used p.operand (maker_slot P z.site.ty.class.0) (Some z.maker) p.arguments in
      let there = subst (λ d. Contains (parts_of P p.number p.method) (a_creation p.place p.used p.operand (maker_slot P z.site.ty.class.0) d p.arguments))
      z.has p.part in
      call_asked C p.operand z.maker slot.0 z.site.row slot.1 (row_there p.operand (row.New z.site.number) z.site.row p.row_is (number_is s z.site z.stands))
      (access_of C p.number p.method p.stands part there)

  -- ---- the declaration

  variables_named : (m : ℕ) (k : PlainMethod) (vs : List PlainLocal) → slice_get P.methods m ≡ Some k
      → ((v : PlainLocal) → Contains vs v → Contains k.params v) → AreFormed (passed vs)
  variables_named m k [] e f = tt
  variables_named m k (v ∷ vs) e f =
      let w = (C.ready.formed.methods m k e).variables v (Contains-append_left k.params k.locals v (f v (first v vs))) in
      (w.name.name, variables_named m k vs e (λ u c. f u (more u v vs c)))

  class_there : (s : ℕ) (z : IsMade P C.ready.formed s) → IsClass P z.site.ty.class.0
  class_there s z = let o = own_maker P z.site.ty.class.0 z.maker z.has in slice_get_within P.classes z.site.ty.class.0 o.class o.class_stands

  -- the body of such a method
  make_formed : (s : ℕ) (z : IsMade P C.ready.formed s) (k : PlainMethod) → slice_get P.methods z.maker ≡ Some k
      → AreFormedStmts (make_body P R H z.site.number z.site.ty.class.0 z.maker k)
  make_formed s z k e =
      let i = row.New z.site.number in
      let c = z.site.ty.class.0 in
      let local = local_called s z in (
        (base_formed C i (Class z.site.ty.class) (class_there s z), local, (row_named C i c (class_there s z), tt)),
        ((refl, (local, maker_called s z, variables_named z.maker k k.params e (λ v d. d))), (local, tt)),
      )

  pub made_formed : (params : (m : ℕ) (k : PlainMethod) → slice_get P.methods m ≡ Some k
      → Each IsFormedParam (each (λ i v. param P R H m k i v ∷ []) 0 k.params)) (x : MemberTree) → Contains (make_members P R H) x → IsFormedMember x
  made_formed params x h =
      let t = makes_from P R H x h in
      let z : IsMade P C.ready.formed t.number = record { site = t.site; stands = t.stands; object = t.object; maker = t.maker; has = t.has } in
      subst IsFormedMember t.is (
        (
          (refl, (refl, tt)),
          base_formed C (row.New t.site.number) (Class t.site.ty.class) (class_there t.number z),
          make_called t.number z,
          params t.maker t.method t.method_stands,
        ),
        make_formed t.number z t.method t.method_stands,
      )
