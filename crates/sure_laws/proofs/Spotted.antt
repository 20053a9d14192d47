-- Each cast and each call through a receiver of a typed body has its spot in the facts.
use Rattle.std.proofs.Common.{◌≡◌, ℕ, List, [], ◌∷◌, Option, Some, None, refl, sym, ap, ◌∙◌, subst, arith, ⊎_elim}
use Rattle.std.specs.Prelude.{◌==◌, ◌&&◌, not, Bool, true, false, map, Contains, slice_get}
use Rattle.std.specs.Option.{option_map_or, option_and_then, is_some}
use Rattle.std.specs.List.{list_any}
use Rattle.std.proofs.lemmas.Bool.{eq-eqb, and_parts, and_from, or_left, or_right, or_cases}
use Rattle.kaba_base.proofs.ListLemmas.{contains_cases}
use Rattle.kaba_base.specs.declared.Place.{Place}
use Rattle.java_core.specs.declared.Ty.{Ty}
use Rattle.java_core.specs.Trees.{Tag, Ex, Exs, call, cast}
use Rattle.java_core.specs.Programs.{Plain, PlainSlot}
use Rattle.java_core.specs.Classes.{slot_of}
use Rattle.java_core.specs.Types.{a_value, class_in, class_of, is_numeric, static}
use Rattle.java_core.specs.Typing.{are_related, can_cast}
use Rattle.java_core.specs.Formed.{IsFormed}
use Rattle.java_meaning.specs.Meaning.{is_number_type}
use Rattle.java_meaning.proofs.Moves.{then_some}
use Rattle.fact_model.specs.declared.facts.TestInfo.{TestInfo}
use Rattle.flow_rules.specs.declared.items.ObjectType.{ObjectType}
use Rattle.flow_rules.specs.declared.items.RowItem.TheVariants as row
use Rattle.flow_rules.specs.Operands.{object_of, call_slot, call_declaration, type_in, object_class}
use Rattle.flow_rules.specs.Parts.{a_call, a_test, parts_of}
use Rattle.flow_rules.specs.Lists.{Placed, PlainCall, point_at, row_at}
use Rattle.flow_rules.specs.Facts.{numbers, is_marked}
use Rattle.flow_rules.proofs.Listed.{one}
use Rattle.flow_laws.specs.cover.Slotted.{HaveSlots}
use Rattle.flow_laws.specs.cover.Covers.{operand_at}
use Rattle.flow_laws.proofs.cover.Flows.{these_has}
use Rattle.flow_laws.proofs.cover.HasRows.{in_slot}
use Rattle.flow_laws.proofs.cover.Included.{ClosedBody, watch}
use Rattle.flow_laws.proofs.cover.SeenOperands.{at_seen}
use Rattle.flow_laws.proofs.cover.TypedParts as typed_parts
use Rattle.flow_laws.proofs.cover.TypedParts.{TypedBody}
use Rattle.flow_laws.proofs.cover.Walked.{walked}
use Rattle.sure_report.specs.Report.{is_cast, is_call}
use Rattle.sure_laws.proofs.Shapes.{number_base, related_class, class_base}
use Rattle.sure_laws.proofs.Families.{same_place, is_cast_spot, is_call_spot, cast_there, call_there}
use Rattle.sure_laws.proofs.FactSpots.{test_spot_of, call_spot_of}
use Rattle.flow_rules.specs.Spots.{is_maker_slot}
use Rattle.java_core.proofs.Offered.{slot_of-offered}

any_has : {A : Type 0} (p : A → Bool) (xs : List A) (x : A) → Contains xs x → p x ≡ true → list_any p xs ≡ true
any_has p [] x c h = absurd (omega (arith, c.1))
any_has p (y ∷ ys) x c h = ⊎_elim (λ e. or_left (p y) (list_any p ys) (ap p e ∙ h)) (λ d. or_right (p y) (list_any p ys) (any_has p ys x d h))
    (contains_cases y ys x c)

place_is : (p q : Place) → p ≡ q → same_place p q ≡ true
place_is p q e = subst (λ z. same_place p z ≡ true) e (and_from (p.at == p.at) (p.line == p.line) (eq-eqb p.at p.at refl) (eq-eqb p.line p.line refl))

slot_marked : (P : Plain) (s : ℕ) (z : PlainSlot) (x : List ℕ) → slice_get P.slots s ≡ Some z → z.name ≡ x → is_maker_slot P (Some s) ≡ is_marked x
slot_marked P s z [] e n = rw (e, n) refl
slot_marked P s z (c ∷ cs) e n = rw (e, n) refl

module _ (B : ClosedBody) (formed : IsFormed B.program) (slots : HaveSlots B.program) (bodied : is_some B.method.body ≡ true) where
  open B use {program as P, facts as F, sets as S, are_facts as facts, kinded, number as m, method as k, stands}
  open watch B use {at, lang as L, Made}
  open walked P m k use {
    env as g,
    type as type_at,
    operand as seen,
    operands,
    Stands,
    tree,
    tree_all as trees,
    tree_sts as sts,
    tree_if as if_there,
    IsTyped as Typed,
  }

  abbrev T : TypedBody
  T = record {
    program = P;
    facts = F;
    formed = formed;
    slots = slots;
    are_facts = facts;
    number = m;
    method = k;
    stands = stands;
    bodied = bodied;
  }

  -- the spots of casts and calls
  pub cast_found : (t : Tag) (n : ℕ) (u : Ty) (e : Ex) → can_cast P (static P g e) u ≡ true
      → Contains (parts_of P m k) (a_test t.place (seen e) (seen (cast t n u e)))
      → cast_there P F m (cast t n u e) ≡ true
  unfolding numbers type_in
  cast_found t n u e can part = ⊎_elim
      (λ h. or_left (is_number_type u.base u.dim) _ (number_base u.base u.dim (and_parts (is_numeric (a_value u)) (is_numeric (static P g e)) h).0))
      (λ h. let c = related_class P (class_of (static P g e)) (class_in u.base u.dim) h in
      or_right (is_number_type u.base u.dim) _ (subst (λ z. option_map_or (λ c. option_map_or (λ q. list_any (is_cast_spot P F t.place q c) F.spots.items)
      (point_at (numbers P) (operand_at P m e)) true) z false ≡ true) (sym c.1)
      (subst (λ y. option_map_or (λ q. list_any (is_cast_spot P F t.place q c.0) F.spots.items) (point_at (numbers P) y) true ≡ true)
      (sym (at_seen P m k stands e)) (spot_at c.0 c.1 (point_at (numbers P) (seen e)) refl))))
      (or_cases (is_numeric (a_value u) && is_numeric (static P g e)) (are_related P (class_of (static P g e)) (class_in u.base u.dim)) can)
    where
      spot_at : (c : ℕ) → class_in u.base u.dim ≡ Some c → (z : Option ℕ) → point_at (numbers P) (seen e) ≡ z
          → option_map_or (λ q. list_any (is_cast_spot P F t.place q c) F.spots.items) z true ≡ true
      spot_at c ec None ez = refl
      spot_at c ec (Some q) ez =
          let o : ObjectType = record { class = record { 0 = c }; dim = 0 } in
          let et : object_of u ≡ Some o = ap (λ z. object_of z) (class_base u.base u.dim c ec) in
          let r = typed_parts.own_row_there T (a_test t.place (seen e) (seen (cast t n u e))) t.place (row.Cast n) (object_of u) o part (λ x d. d) et in
          let x : TestInfo = record { from = q; target = record { 0 = r.0 }; class = o.class; place = t.place } in
          let s = test_spot_of P F facts m k stands (a_test t.place (seen e) (seen (cast t n u e))) part refl x
          (these_has (point_at (numbers P) (seen e)) (row_at (numbers P) (seen (cast t n u e))) (object_of u)
          (λ a r t. record { from = a; target = record { 0 = r }; class = t.class; place = x.place }) q r.0 o ez r.1 et) in
          any_has (is_cast_spot P F t.place q c) F.spots.items s.found s.there
          (and_from _ _ (ap is_cast s.kind) (and_from _ _ (place_is s.found.place t.place s.place)
          (and_from _ _ (eq-eqb _ _ (ap (λ z. z.from) s.test)) (eq-eqb _ _ (ap (λ z. z.class.0) s.test)))))

  -- the slot that a name of the text calls is no constructor's
  class_at_of : (e : Ex) (x : List ℕ) (j : ℕ) → call_slot P (type_in P m k e) x ≡ Some j → (c : ℕ) × (slot_of P c x ≡ Some j)
  class_at_of e x j h = let z = then_some (λ c. slot_of P c x) (object_class (type_in P m k e)) j h in (z.0, z.2)

  slot_unmarked : (c : ℕ) (x : List ℕ) (j : ℕ) → slot_of P c x ≡ Some j → is_marked x ≡ false → is_maker_slot P (Some j) ≡ false
  slot_unmarked c x j h un =
      let o = slot_of-offered P formed c x j h in
      let i = in_slot P formed o.number o.method o.stands j o.slot in
      slot_marked P j i.slot x i.stands (sym i.name ∙ o.name) ∙ un

  call_found : (t : Tag) (e : Ex) (x : List ℕ) (es : Exs) (j : ℕ) → is_marked x ≡ false → call_slot P (type_in P m k e) x ≡ Some j
      → Contains (parts_of P m k) (a_call t.place (seen e) (call_slot P (type_in P m k e) x) (call_declaration P (type_in P m k e) x) (operands es)
      (seen (call t e x es)))
      → call_there P F m (call t e x es) ≡ true
  call_found t e x es j un ej part = or_right (is_marked x) _ (
      subst (λ z. option_map_or (λ j. option_map_or (λ q. list_any (is_call_spot P F t.place q j) F.spots.items) (point_at (numbers P) (operand_at P m e))
      true) z false ≡ true) (sym (ap (λ z. option_and_then (λ k. call_slot P (type_in P m k e) x) z) stands ∙ ej))
      (subst (λ y. option_map_or (λ q. list_any (is_call_spot P F t.place q j) F.spots.items) (point_at (numbers P) y) true ≡ true)
      (sym (at_seen P m k stands e)) (spot_at (point_at (numbers P) (seen e)) refl)))
    where
      part_j : Contains (parts_of P m k) (a_call t.place (seen e) (Some j) (call_declaration P (type_in P m k e) x) (operands es) (seen (call t e x es)))
      part_j = subst (λ z. Contains (parts_of P m k) (a_call t.place (seen e) z (call_declaration P (type_in P m k e) x) (operands es)
          (seen (call t e x es)))) ej part

      spot_at : (z : Option ℕ) → point_at (numbers P) (seen e) ≡ z → option_map_or (λ q. list_any (is_call_spot P F t.place q j) F.spots.items) z true ≡ true
      spot_at None ez = refl
      spot_at (Some q) ez =
          let y : Placed PlainCall = record {
            place = t.place;
            item = record { receiver = q; slot = j; args = map (point_at (numbers P)) (operands es); result = point_at (numbers P) (seen (call t e x es)) };
          } in
          let s = call_spot_of P F facts m k stands (a_call t.place (seen e) (Some j) (call_declaration P (type_in P m k e) x) (operands es)
          (seen (call t e x es)))
          part_j (ap not (slot_unmarked (class_at_of e x j ej).0 x j (class_at_of e x j ej).1 un)) y (subst (λ z. Contains (option_map_or (λ r. record {
            place = t.place;
            item = record { receiver = r; slot = j; args = map (point_at (numbers P)) (operands es); result = point_at (numbers P) (seen (call t e x es)) };
          } ∷ []) z []) y) (sym ez) (one y)) in
          any_has (is_call_spot P F t.place q j) F.spots.items s.found s.there
          (and_from _ _ (ap is_call s.kind) (and_from _ _ (place_is s.found.place t.place s.place)
          (subst (λ z. option_map_or (λ c. (c.receiver == q) && (c.slot == j)) z false ≡ true) (sym s.listed)
          (and_from (s.call.receiver == q) (s.call.slot == j) (eq-eqb s.call.receiver q (ap (λ z. z.receiver) s.seen))
          (eq-eqb s.call.slot j (ap (λ z. z.slot) s.seen))))))

  pub call_spotted : (t : Tag) (e : Ex) (x : List ℕ) (es : Exs) (j : ℕ) → call_slot P (type_in P m k e) x ≡ Some j
      → Contains (parts_of P m k) (a_call t.place (seen e) (call_slot P (type_in P m k e) x) (call_declaration P (type_in P m k e) x) (operands es)
      (seen (call t e x es)))
      → call_there P F m (call t e x es) ≡ true
  call_spotted t e x es j ej part = go (is_marked x) refl
    where
      go : (b : Bool) → is_marked x ≡ b → call_there P F m (call t e x es) ≡ true
      go true h = or_left (is_marked x) _ h
      go false h = call_found t e x es j h ej part
