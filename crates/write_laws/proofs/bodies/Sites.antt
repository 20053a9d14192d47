-- The site of a creation.
use Rattle.std.proofs.Common.{◌≡◌, ℕ, List, Option, Some, Contains, refl, sym, ap, ◌∙◌, subst}
use Rattle.std.specs.Prelude.{Bool, slice_get}
use Rattle.std.specs.Option.{option_to_list}
use Rattle.std.proofs.lemmas.Option.{same_Some}
use Rattle.kaba_base.specs.declared.Place.{Place}
use Rattle.java_core.specs.Trees.{Tag, Exs, create}
use Rattle.java_core.specs.Programs.{Plain, PlainMethod}
use Rattle.java_core.specs.Makers.{maker_of, maker_slot}
use Rattle.java_core.specs.Formed.{IsFormed}
use Rattle.flow_rules.specs.declared.items.ObjectType.{ObjectType}
use Rattle.flow_rules.specs.declared.items.Operand.{Operand}
use Rattle.flow_rules.specs.declared.items.Row.{Row}
use Rattle.flow_rules.specs.declared.items.RowItem.TheVariants as row
use Rattle.flow_rules.specs.declared.items.Site.{Site}
use Rattle.flow_rules.specs.Operands.{operand_of, operands_of, type_in}
use Rattle.flow_rules.specs.Parts.{Part, a_creation, parts_of}
use Rattle.flow_rules.specs.Numbered.{row_number, number_if, site_if, form_sites}
use Rattle.flow_rules.proofs.Listed.{one}
use Rattle.flow_rules.proofs.NumberedItems.{numbered_sites}
use Rattle.flow_laws.proofs.cover.HasNumbers.{form_row, site_there}
use Rattle.flow_laws.proofs.cover.Unique.{site_created}
use Rattle.flow_laws.proofs.cover.Numbers.{number_apart}
use Rattle.write_laws.specs.names.Known.{IsSiteOf}

-- a creation among the parts of a body
abbrev pub creation_part : Plain → ℕ → PlainMethod → Place → Bool → Tag → ℕ → ℕ → Exs → Part
creation_part P m k q u t n c es =
    a_creation q u (operand_of P (type_in P m k) m k (create t n c es)) (maker_slot P c) (maker_of P c) (operands_of P (type_in P m k) m k es)

module _ (P : Plain) (formed : IsFormed P) (m : ℕ) (k : PlainMethod) (stands : slice_get P.methods m ≡ Some k) where
  site_here : (q : Place) (u : Bool) (o : Operand) (j d : Option ℕ) (args : List Operand) (n c r : ℕ)
      → Contains (parts_of P m k) (a_creation q u o j d args) → o.created ≡ Some n → o.ty ≡ Some (record { class = record { 0 = c }; dim = 0 })
      → number_if (row_number P) o.row ≡ Some r → IsSiteOf P n c
  site_here q u o j d args n c r i created type row =
      let t : ObjectType = record { class = record { 0 = c }; dim = 0 } in
      let p : Part = a_creation q u o j d args in
      let x : Site = record { number = n; place = q; ty = t; row = r } in
      let there : Contains (form_sites (row_number P) p) x =
      subst (λ z. Contains (site_if q z o.ty (number_if (row_number P) o.row)) x) (sym created)
      (subst (λ z. Contains (site_if q (Some n) z (number_if (row_number P) o.row)) x) (sym type)
      (subst (λ z. Contains (site_if q (Some n) (Some t) z) x) (sym row) (one x))) in
      let s = site_there P m k stands p i x there in
      let z = (numbered_sites P).at n s.0 s.1 in
      let y = site_created P s.0 z.0 z.1 in
      let same = number_apart P formed.numbered p (a_creation y.place y.used y.operand y.slot y.declaration y.arguments) n
      (record { number = m; method = k; stands = stands; part = i }) y.is_part
      (subst (λ z. Contains (option_to_list z) n) (sym created) (one n))
      (subst (λ z. Contains (option_to_list z) n) (sym (y.created ∙ ap Some z.2)) (one n)) in
      let operand = one_operand q y.place u y.used o y.operand j d y.slot y.declaration args y.arguments same in
      record {
        number = s.0;
        site = z.0;
        stands = z.1;
        is = z.2;
        type = same_Some _ _ (sym y.type ∙ ap (λ (w : Operand). w.ty) (sym operand) ∙ type);
      }
    where
      one_operand : (q p : Place) (u v : Bool) (o w : Operand) (a b c d : Option ℕ) (e f : List Operand)
          → a_creation q u o a b e ≡ a_creation p v w c d f → o ≡ w
      one_operand q p u v o w a b c d e f same = cc same

  pub object_site : (q : Place) (u : Bool) (t : Tag) (n c : ℕ) (es : Exs) → Contains (parts_of P m k) (creation_part P m k q u t n c es) → IsSiteOf P n c
  unfolding type_in
  object_site q u t n c es i =
      let y : Row = record { item = row.New n; place = q; ty = record { class = record { 0 = c }; dim = 0 } } in
      let r = form_row P m k stands (creation_part P m k q u t n c es) i y (one y) in
      site_here q u (operand_of P (type_in P m k) m k (create t n c es)) (maker_slot P c) (maker_of P c)
      (operands_of P (type_in P m k) m k es) n c r.0 i refl refl r.1
