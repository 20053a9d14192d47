-- A site is that of a creation; a creation of a formed program is the one of its number, and its site has its type.
use Rattle.std.proofs.Common.{◌≡◌, ℕ, [], Option, Some, None, sym, ap, ◌∙◌, subst, arith, List}
use Rattle.std.specs.Prelude.{Bool, slice_get, Contains}
use Rattle.std.specs.Option.{option_to_list}
use Rattle.std.specs.List.{flat_map}
use Rattle.kaba_base.specs.declared.Place.{Place}
use Rattle.java_core.specs.Programs.{Plain, PlainMethod}
use Rattle.java_core.specs.Formed.{IsFormed}
use Rattle.fact_model.specs.declared.facts.Facts.{Facts}
use Rattle.flow_rules.specs.declared.items.ObjectType.{ObjectType}
use Rattle.flow_rules.specs.declared.items.Operand.{Operand}
use Rattle.flow_rules.specs.declared.items.Site.{Site}
use Rattle.flow_rules.specs.Parts.{Part, a_creation, parts_of}
use Rattle.flow_rules.specs.Numbered.{body_at, bodies_of, site_if, form_sites, number_if, row_number, sites_of, site_number}
use Rattle.flow_rules.specs.Facts.{IsFactsOf}
use Rattle.flow_laws.proofs.cover.Kinded.{site_type}
use Rattle.flow_rules.proofs.Listed.{first, one_from, flat_from, each_from_zero}
use Rattle.flow_rules.proofs.NumberedItems.{numbered_sites}
use Rattle.flow_laws.proofs.cover.Cells.{site_of}
use Rattle.flow_laws.proofs.cover.Numbers.{IsPart, number_apart}

-- a site is that of a creation
module _ (P : Plain) where
  pub record IsCreated (x : Site) : Type 0 where
    pub place : Place
    pub used : Bool
    pub operand : Operand
    pub slot : Option ℕ
    pub declaration : Option ℕ
    pub arguments : List Operand
    pub is_part : IsPart P (a_creation place used operand slot declaration arguments)
    pub created : operand.created ≡ Some x.number
    pub type : operand.ty ≡ Some x.ty
    pub numbered : number_if (row_number P) operand.row ≡ Some x.row

  site_parts : (p : Place) (n : Option ℕ) (t : Option ObjectType) (r : Option ℕ) (x : Site) → Contains (site_if p n t r) x → (n ≡ Some x.number)
      × (t ≡ Some x.ty) × (r ≡ Some x.row)
  site_parts p (Some n) (Some t) (Some r) x c = let e = one_from _ x c in (ap (λ z. Some z.number) e, ap (λ z. Some z.ty) e, ap (λ z. Some z.row) e)
  site_parts p (Some n) (Some t) None x c = absurd (omega (arith, c.1))
  site_parts p (Some n) None r x c = absurd (omega (arith, c.1))
  site_parts p None t r x c = absurd (omega (arith, c.1))

  form_site : (p : Part) (x : Site) → IsPart P p → Contains (form_sites (row_number P) p) x → IsCreated x
  form_site (a_creation p u o s d es) x a c =
      let z = site_parts p o.created o.ty (number_if (row_number P) o.row) x c in
      record {
        place = p;
        used = u;
        operand = o;
        slot = s;
        declaration = d;
        arguments = es;
        is_part = a;
        created = z.0;
        type = z.1;
        numbered = z.2;
      }
  form_site _ x a c = absurd (omega (arith, c.1))

  pub site_created : (s : ℕ) (x : Site) → slice_get (sites_of P) s ≡ Some x → IsCreated x
  unfolding bodies_of
  site_created s x e =
      let z = flat_from (λ b. flat_map (form_sites (row_number P)) b.parts) (bodies_of P) x ((numbered_sites P).from s x e) in
      let b = each_from_zero (body_at P) P.methods z.0 z.1 in
      let c = flat_from (form_sites (row_number P)) z.0.parts x z.2 in
      form_site c.0 x (record { number = b.0; method = b.1; stands = b.2; part = subst (λ w. Contains w.parts c.0) (sym (one_from _ z.0 b.3)) c.1 }) c.2

module _ (P : Plain) (F : Facts) (formed : IsFormed P) (facts : IsFactsOf P F) where
  pub creation_type : (m : ℕ) (k : PlainMethod) → slice_get P.methods m ≡ Some k → (q : Place) (u : Bool) (o : Operand) (j d : Option ℕ)
      (es : List Operand) (n s : ℕ) → Contains (parts_of P m k) (a_creation q u o j d es) → o.created ≡ Some n → site_number P n ≡ Some s
      → o.ty ≡ Some (site_type F s)
  creation_type m k e q u o j d args n s c ec es =
      let x = site_of P F formed facts n s es in
      let y = site_created P s x.site x.there in
      let other : Operand = y.operand in
      let same : a_creation q u o j d args ≡ a_creation y.place y.used other y.slot y.declaration y.arguments =
      number_apart P formed.numbered (a_creation q u o j d args) (a_creation y.place y.used other y.slot y.declaration y.arguments) n
      (record { number = m; method = k; stands = e; part = c }) y.is_part
      (subst (λ z. Contains (option_to_list z) n) (sym ec) (first n []))
      (subst (λ z. Contains (option_to_list z) n) (sym (y.created ∙ ap (λ z. Some z) x.number)) (first n [])) in
      let one : o ≡ other = cc in
      ap (λ (z : Operand). z.ty) one ∙ y.type ∙ ap (λ z. Some z) (sym x.type)
