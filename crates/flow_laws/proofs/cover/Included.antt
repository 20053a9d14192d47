-- The family of typed sets of a program's facts, and what reads and writes at the expressions of a body leave in them.
use Rattle.std.proofs.Common.{◌≡◌, ℕ, zero, suc, List, Option, Some, None, refl, sym, ap, ◌∙◌, subst, arith, []}
use Rattle.std.specs.Prelude.{◌==◌, ◌&&◌, Bool, true, false, slice_get, position, Contains, ◌||◌}
use Rattle.std.specs.Option.{option_map_or, option_and_then, is_some}
use Rattle.std.specs.List.{AllByRecursion}
use Rattle.std.proofs.lemmas.Option.{same_Some}
use Rattle.std.proofs.lemmas.Bool.{false≢true, eqb-true, eq-eqb, and_parts, and_from}
use Rattle.kaba_base.specs.declared.Place.{Place}
use Rattle.java_core.specs.declared.Ty.{Ty}
use Rattle.java_core.specs.declared.TyBase.{TyBase}
use Rattle.java_core.specs.declared.TyBase.TheVariants.{Int, Boolean, Char, Str, Class}
use Rattle.java_core.specs.Trees.{Ex, Exs, no_ex, ex_then, call, create, create_array, cast, instance_of, Tag}
use Rattle.java_core.specs.Programs.{Plain, PlainMethod}
use Rattle.java_core.specs.Classes.{below, member_field, slot_of}
use Rattle.java_core.specs.Types.{class_type, element_in, field_in, is_subtype, is_sub_base, static}
use Rattle.java_meaning.specs.Moment.{Kind, an_object, own_type, Spot, held, bound, self_of, result_of, set_static, kept, put_in, touched, tested, ran, Lang}
use Rattle.java_meaning.specs.Languages.{slot_in}
use Rattle.java_meaning.specs.Values.{same_bool}
use Rattle.java_meaning.specs.Watched.{Eyes, watched_with}
use Rattle.fact_model.specs.Items.{site_at, site_class}
use Rattle.fact_model.specs.Classes.{IsBelow, finds}
use Rattle.fact_model.specs.Flowing.{Fact, Inclusion}
use Rattle.fact_model.specs.declared.facts.Facts.{Facts}
use Rattle.flow_rules.specs.declared.items.ObjectType.{ObjectType}
use Rattle.flow_rules.specs.declared.items.Operand.{Operand}
use Rattle.flow_rules.specs.declared.items.ColumnItem.TheVariants as column
use Rattle.flow_rules.specs.declared.items.PointItem.TheVariants as point
use Rattle.flow_rules.specs.Operands.{object_in, object_of, object_field, call_slot, type_in, operands_of}
use Rattle.flow_rules.specs.Types.{field_object}
use Rattle.flow_rules.specs.Parts.{Part, a_load, an_element, a_creation, a_store, an_element_store, is_accessed, parts, parts_of}
use Rattle.flow_rules.specs.Lists.{point_at, site_in}
use Rattle.flow_rules.specs.Facts.{numbers, IsFactsOf}
use Rattle.flow_rules.proofs.TypeLemmas.{class_is}
use Rattle.flow_rules.proofs.Listed.{position_there}
use Rattle.flow_laws.specs.cover.Families.{Sub, Family, Gives, Reads, Writes, ReadsElement, WritesElement}
use Rattle.flow_laws.specs.cover.Covers.{Sets, has, passes, operand_at, at_point, point_sites, labelled_body, tested_by, called_on}
use Rattle.flow_laws.proofs.cover.Kinded.{site_type, IsPoint, IsCreation, IsBase, IsKindedLoad, IsKindedStore, IsKindedPart, IsKinded, IsKindedMaker}
use Rattle.flow_laws.proofs.cover.SeenOperands.{at_seen, part_at}
use Rattle.flow_laws.proofs.cover.Each.{here}
use Rattle.flow_laws.proofs.cover.Flows.{when_object, value_sites, looks_in, field_sites, element_sites, is_at, IsUsed, HasTypes, used_at, creation_used, load_goes, element_goes, store_goes, element_store_goes}
use Rattle.flow_laws.proofs.cover.Calls.{local_sites, result_sites}
use Rattle.flow_laws.proofs.cover.Walked.{walked}
use Rattle.java_core.specs.Makers.{maker_of, maker_slot}

pub passes_map : (X Y : ℕ → Bool) (z : Option ℕ) → ((s : ℕ) → X s ≡ true → Y s ≡ true) → passes X z ≡ true → passes Y z ≡ true
passes_map X Y None f h = refl
passes_map X Y (Some s) f h = f s h

pub sub_sites : (P : Plain) (X Y : ℕ → Bool) → ((s : ℕ) → X s ≡ true → Y s ≡ true)
    → Sub (λ q. passes X (site_in (numbers P) q)) (λ q. passes Y (site_in (numbers P) q))
sub_sites P X Y f q h = passes_map X Y (site_in (numbers P) q) f h

pub passes_all : (X : ℕ → Bool) (z : Option ℕ) → ((s : ℕ) → z ≡ Some s → X s ≡ true) → passes X z ≡ true
passes_all X None f = refl
passes_all X (Some s) f = f s refl

abbrev pub exs_at : Exs → ℕ → Option Ex
exs_at no_ex i = None
exs_at (ex_then e es) zero = Some e
exs_at (ex_then e es) (suc i) = exs_at es i

module _ (P : Plain) (F : Facts) (S : Sets) where
  -- an object or array of the creation: it has a site just where its type is one of a row, and then of that type
  pub record MadeAs (o : Option ℕ) (k : Kind) : Type 0 where
    pub sited : (t : ObjectType) → object_of (own_type k) ≡ Some t → (s : ℕ) × (site_in (numbers P) o ≡ Some s)
    pub typed : (s : ℕ) → site_in (numbers P) o ≡ Some s → object_of (own_type k) ≡ Some (site_type F s)

  -- a site as a type of the text
  abbrev pub site_as : ℕ → Ty
  site_as s = record { base = Class (site_at F s).class; dim = (site_at F s).dim }

  -- the type that a cast or `instanceof` tests against
  abbrev pub tested_type : Ex → Option Ty
  tested_type (cast t n u e) = Some u
  tested_type (instance_of t n e c) = Some (class_type c)
  tested_type e = None

  -- the slot that a call calls, in the method m
  abbrev pub called_slot : ℕ → Ex → Option ℕ
  called_slot m (call t e x es) = option_and_then (λ k. call_slot P (type_in P m k e) x) (slice_get P.methods m)
  called_slot m e = None

  -- whether both are there, and the same
  abbrev pub same_number : Option ℕ → Option ℕ → Bool
  same_number None n = false
  same_number (Some m) None = false
  same_number (Some m) (Some n) = m == n

  -- whether a test of what the site makes passes as it did, and whether a call on it finds the body that ran
  abbrev pub tests_as : Ex → Bool → ℕ → Bool
  tests_as d b s = option_map_or (λ t. same_bool b (is_subtype P (site_as s) t)) (tested_type d) true

  abbrev pub finds_as : ℕ → Ex → ℕ → ℕ → Bool
  finds_as m d c s = option_map_or (λ j. same_number (finds F (site_class F s) j) ((numbers P).column (column.Def c))) (called_slot m d) true

  -- whether a part reads or writes the field f of what the expression gives, and whether a part of the body does
  abbrev pub accesses_as : ℕ → Ex → ℕ → Part → Bool
  accesses_as m e f (a_load p b (Some g) o) = (g == f) && same_number (point_at (numbers P) b) (point_at (numbers P) (operand_at P m e))
  accesses_as m e f (a_store p b (Some g) o) = (g == f) && same_number (point_at (numbers P) b) (point_at (numbers P) (operand_at P m e))
  accesses_as m e f p = false

  abbrev pub accessed_as : ℕ → Ex → ℕ → Bool
  accessed_as m e f = option_map_or (λ k. is_some (position (accesses_as m e f) (parts_of P m k))) (slice_get P.methods m) false

  -- the sites of what has one
  abbrev pub strictly : (ℕ → Bool) → Option ℕ → Bool
  strictly X None = false
  strictly X (Some s) = X s

  -- what is entered, called or touched has a site
  abbrev pub holds_at : Spot → (ℕ → Bool) → Option ℕ → Bool
  holds_at (self_of m) X z = strictly X z
  holds_at (touched m e f) X z = strictly X z
  holds_at (ran m d b) X z = strictly X z
  holds_at p X z = passes X z

  -- the family of typed sets
  abbrev pub typed_sites : Spot → ℕ → Bool
  typed_sites (held m e) s = looks_in P F S (operand_at P m e).created (operand_at P m e) s
  typed_sites (bound m i) s = local_sites P F S m i s
  typed_sites (self_of m) s = at_point P F S ((numbers P).point (point.This m)) s
  typed_sites (result_of m) s = result_sites P F S m s
  typed_sites (set_static f) s = when_object (field_object P f) (at_point P F S ((numbers P).point (point.Static f))) s
  typed_sites (kept o f) s = field_sites P F S f (site_in (numbers P) o) s
  typed_sites (put_in o) s = element_sites P F S (site_in (numbers P) o) s
  typed_sites (touched m e f) s = point_sites P F S (operand_at P m e) s && accessed_as m e f
  typed_sites (tested m d b) s = point_sites P F S (operand_at P m (tested_by P F S d)) s && tests_as d b s
  typed_sites (ran m d b) s = point_sites P F S (operand_at P m (called_on P F S d)) s && finds_as m d b s

  abbrev pub family : Family
  family = record {
    value = λ m e q. passes (value_sites P F S (operand_at P m e)) (site_in (numbers P) q);
    spot = λ p q. holds_at p (typed_sites p) (site_in (numbers P) q);
  }

-- a body of a program whose parts are kinded, with sets that the inclusions of the program's facts close
pub record ClosedBody : Type 0 where
  pub program : Plain
  pub facts : Facts
  pub sets : Sets
  pub eyes : Eyes
  pub closed : (ps : List Fact) (f : Fact) → Inclusion facts ps f → AllByRecursion (λ p. has sets p ≡ true) ps → has sets f ≡ true
  pub are_facts : IsFactsOf program facts
  pub kinded : IsKinded program facts
  pub number : ℕ
  pub method : PlainMethod
  pub stands : slice_get program.methods number ≡ Some method

-- the labelled operands of its forms, and the run that the sets watch
pub record Watch : Type 1 where
  pub at : Ex → Operand
  pub lang : Lang
  pub Made : Option ℕ → Kind → Type 0
  pub sites : Spot → ℕ → Bool
  pub spots : Family

abbrev pub watch : ClosedBody → Watch
watch B = record {
  at = operand_at B.program B.number;
  lang = watched_with B.program (labelled_body B.program B.facts B.sets) B.eyes;
  Made = MadeAs B.program B.facts B.sets;
  sites = typed_sites B.program B.facts B.sets;
  spots = family B.program B.facts B.sets;
}

module _ (B : ClosedBody) where
  open B use {program as P, facts as F, sets as S, closed, are_facts as facts, kinded, number as m, method as k, stands}
  open watch B use {at, lang as L, Made, sites, spots as V}
  open walked P m k use {env as g, operand as seen, Stands}

  pub plain_used : (o : Operand) → o.created ≡ None → IsUsed P F S o
  plain_used o e = record { used = λ n s d f. absurd (let z = sym e ∙ d in cc) }

  plain_types : (o : Operand) → o.created ≡ None → HasTypes P F S o
  unfolding HasTypes
  plain_types o e n s d f = absurd (let z = sym e ∙ d in cc)

  -- a creation, and the constructor that it runs
  pub made_at : (p : Place) (u : Bool) (e : Ex) (j d : Option ℕ) (es : List Operand) → Contains (parts_of P m k) (a_creation p u (seen e) j d es)
      → Contains (parts_of P m k) (a_creation p u (at e) j d es)
  made_at p u e j d es c = part_at P m k stands (λ o z. a_creation p u o j d es) e e c

  pub creation : (p : Place) (u : Bool) (e : Ex) (j d : Option ℕ) (es : List Operand) → Contains (parts_of P m k) (a_creation p u (at e) j d es)
      → IsCreation P F u (at e)
  unfolding IsKindedPart
  creation p u e j d es c = (kinded.parts m k stands (a_creation p u (at e) j d es) c).0

  pub maker : (p : Place) (u : Bool) (e : Ex) (j d : Option ℕ) (es : List Operand) → Contains (parts_of P m k) (a_creation p u (at e) j d es)
      → IsKindedMaker P F j es
  unfolding IsKindedPart
  maker p u e j d es c = (kinded.parts m k stands (a_creation p u (at e) j d es) c).1

  -- the creations of the text, with what they run
  pub create_at : (t : Tag) (u : Bool) (n c : ℕ) (es : Exs) → Stands (parts P (type_in P m k) m k u (create t n c es))
      → Contains (parts_of P m k) (a_creation t.place (u || is_some (maker_of P c)) (at (create t n c es)) (maker_slot P c) (maker_of P c)
      (operands_of P (type_in P m k) m k es))
  create_at t u n c es st =
      made_at t.place (u || is_some (maker_of P c)) (create t n c es) (maker_slot P c) (maker_of P c) (operands_of P (type_in P m k) m k es) (here _ _ st)

  pub array_at : (t : Tag) (u : Bool) (n : ℕ) (v : Ty) (e : Ex) → Stands (parts P (type_in P m k) m k u (create_array t n v e))
      → Contains (parts_of P m k) (a_creation t.place u (at (create_array t n v e)) None None [])
  array_at t u n v e st = made_at t.place u (create_array t n v e) None None [] (here _ _ st)

  -- what an expression gives has a type, and is a point where it is used
  pub is_used : (e : Ex) → Stands (parts P (type_in P m k) m k true e) → IsUsed P F S (at e)
  unfolding IsBase
  is_used (create t n c es) st =
      let w = create_at t true n c es st in
      let i = creation t.place true (create t n c es) _ _ _ w in
      creation_used P F S closed facts m k stands t.place true (at (create t n c es)) _ _ _ w i (i.point refl)
  is_used (create_array t n u e) st =
      let w = array_at t true n u e st in
      let i = creation t.place true (create_array t n u e) _ _ _ w in
      creation_used P F S closed facts m k stands t.place true (at (create_array t n u e)) _ _ _ w i (i.point refl)
  is_used e st = plain_used (at e) (ap (λ z. z.created) (at_seen P m k stands e))

  pub base_used : (e : Ex) → Stands (parts P (type_in P m k) m k (is_accessed e) e) → IsBase P F (at e) → IsUsed P F S (at e)
  base_used (create t n c es) st b =
      let w = create_at t true n c es st in
      creation_used P F S closed facts m k stands t.place true (at (create t n c es)) _ _ _ w (creation t.place true (create t n c es) _ _ _ w) b
  base_used (create_array t n u e) st b =
      let w = array_at t false n u e st in
      creation_used P F S closed facts m k stands t.place false (at (create_array t n u e)) _ _ _ w (creation t.place false (create_array t n u e) _ _ _ w) b
  base_used e st b = plain_used (at e) (ap (λ z. z.created) (at_seen P m k stands e))

  pub has_types : (u : Bool) (e : Ex) → Stands (parts P (type_in P m k) m k u e) → HasTypes P F S (at e)
  unfolding HasTypes
  has_types u (create t n c es) st = λ i s d f. let w = create_at t u n c es st in
      (site_type F s, (creation t.place _ (create t n c es) _ _ _ w).typed i s d f)
  has_types u (create_array t n v e) st = λ i s d f. let w = array_at t u n v e st in
      (site_type F s, (creation t.place u (create_array t n v e) _ _ _ w).typed i s d f)
  has_types u e st = plain_types (at e) (ap (λ z. z.created) (at_seen P m k stands e))

  -- an expression's static type, as one of a row
  pub field_seen : (e : Ex) (x : List ℕ) → object_field P (type_in P m k e) x ≡ field_in P (static P g e) x
  unfolding type_in field_in
  field_seen e x = ap (λ z. option_and_then (λ c. member_field P c x) z) (class_is (static P g e))

  pub slot_seen : (e : Ex) (x : List ℕ) → call_slot P (type_in P m k e) x ≡ slot_in P g e x
  unfolding type_in
  slot_seen e x = ap (λ z. option_and_then (λ c. slot_of P c x) z) (class_is (static P g e))

  pub gives : (d : Ex) (X : ℕ → Bool) → ((s : ℕ) → X s ≡ true → (looks_in P F S (at d).created (at d) s ≡ true)
      × (value_sites P F S (at d) s ≡ true)) → Gives L Made V g d (λ q. passes X (site_in (numbers P) q))
  gives d X f = record {
    looks = sub_sites P X (sites (held m d)) (λ s h. (f s h).0);
    holds = sub_sites P X (value_sites P F S (at d)) (λ s h. (f s h).1);
  }

  -- a base that is used is in its point
  pub base_at : (e : Ex) (z : Option ℕ) → IsUsed P F S (at e) → passes (value_sites P F S (at e)) z ≡ true → passes (point_sites P F S (at e)) z ≡ true
  base_at e z u h = passes_map (value_sites P F S (at e)) (point_sites P F S (at e)) z
      (λ s v. let a = (used_at P F S (at e) s u v).1 in is_at P F S (point_at (numbers P) (at e)) a.number s a.there a.holds) h

  -- of an object with a site, a base that is used is in its point, and a part of the body accesses it
  pub base_strictly : (e : Ex) (f : ℕ) (q : Part) (z : Option ℕ) (s : ℕ) → z ≡ Some s → IsUsed P F S (at e) → passes (value_sites P F S (at e)) z ≡ true
      → Contains (parts_of P m k) q
      → (same_number P F S (point_at (numbers P) (at e)) (point_at (numbers P) (at e)) ≡ true → accesses_as P F S m e f q ≡ true)
      → strictly P F S (sites (touched m e f)) z ≡ true
  base_strictly e f q z s ez u h c w =
      let a = (used_at P F S (at e) s u (subst (λ y. passes (value_sites P F S (at e)) y ≡ true) ez h)).1 in
      let same : same_number P F S (point_at (numbers P) (at e)) (point_at (numbers P) (at e)) ≡ true =
      subst (λ y. same_number P F S y y ≡ true) (sym a.there) (eq-eqb a.number a.number refl) in
      let i = position_there (accesses_as P F S m e f) (parts_of P m k) q c (w same) in
      subst (λ y. strictly P F S (sites (touched m e f)) y ≡ true) (sym ez)
      (and_from (point_sites P F S (at e) s) (accessed_as P F S m e f) (is_at P F S (point_at (numbers P) (at e)) a.number s a.there a.holds)
      (ap (λ y. option_map_or (λ k. is_some (position (accesses_as P F S m e f) (parts_of P m k))) y false) stands ∙ ap is_some i.1))

  load_kind : (p : Place) (b o : Operand) (f : ℕ) → Contains (parts_of P m k) (a_load p b (Some f) o) → IsKindedLoad P F b f o
  unfolding IsKindedPart
  load_kind p b o f c = kinded.parts m k stands (a_load p b (Some f) o) c

  store_kind : (p : Place) (b o : Operand) (f : ℕ) → Contains (parts_of P m k) (a_store p b (Some f) o) → IsKindedStore P F b f o
  unfolding IsKindedPart
  store_kind p b o f c = kinded.parts m k stands (a_store p b (Some f) o) c

  -- the site of an object, with its class
  pub object_site : (o : Option ℕ) (c : ℕ) → Made o (an_object c) → (s : ℕ) × (site_in (numbers P) o ≡ Some s)
      × (site_type F s ≡ record { class = record { 0 = c }; dim = 0 })
  object_site o c made = let s = made.sited (record { class = record { 0 = c }; dim = 0 }) refl in (s.0, s.1, sym (same_Some _ _ (made.typed s.0 s.1)))

  pub reads : (p : Place) (e d : Ex) (x : Option ℕ) → (at d).created ≡ None
      → ((j : ℕ) → x ≡ Some j → Contains (parts_of P m k) (a_load p (at e) (Some j) (at d)) × (IsBase P F (at e) → IsUsed P F S (at e)))
      → Reads L Made V g e d x
  unfolding Reads
  reads p e d x pl h = λ j ej o c i made ix v.
      let w = h j ej in
      let kind = load_kind p (at e) (at d) j w.0 in
      let u = w.1 kind.base in
      record {
        base = base_strictly e j (a_load p (at e) (Some j) (at d)) (site_in (numbers P) o) (object_site o c made).0 (object_site o c made).1 u v
            w.0 (λ h. and_from (j == j) _ (eq-eqb j j refl) h);
        gives = gives d (field_sites P F S j (site_in (numbers P) o)) (λ s r. load_goes P F S closed facts m k stands p (at e) j
            (at d) w.0 kind.gives u pl (site_in (numbers P) o) v s r);
      }

  site_some : (o : Option ℕ) (s : ℕ) → site_in (numbers P) o ≡ Some s → (n : ℕ) × ((numbers P).site n ≡ Some s)
  site_some None s e = absurd (cc)
  site_some (Some n) s e = (n, e)

  pub writes : (p : Place) (e d : Ex) (x : Option ℕ) → ((j : ℕ) → x ≡ Some j → Contains (parts_of P m k) (a_store p (at e) (Some j) (at d))
      × (IsBase P F (at e) → IsUsed P F S (at e))) → IsUsed P F S (at d) → Writes L Made V g e d x
  unfolding Writes
  writes p e d x h ud = λ j ej o c i made ix v.
      let w = h j ej in
      let kind = store_kind p (at e) (at d) j w.0 in
      let u = w.1 kind.base in
      let site = object_site o c made in
      let base : value_sites P F S (at e) site.0 ≡ true = subst (λ z. passes (value_sites P F S (at e)) z ≡ true) site.1 v in
      record {
        base = base_strictly e j (a_store p (at e) (Some j) (at d)) (site_in (numbers P) o) site.0 site.1 u v w.0
            (λ h. and_from (j == j) _ (eq-eqb j j refl) h);
        gives = sub_sites P (value_sites P F S (at d)) (field_sites P F S j (site_in (numbers P) o))
            (λ s r. subst (λ z. field_sites P F S j z s ≡ true) (sym site.1)
            (store_goes P F S closed facts m k stands p (at e) j (at d) w.0 kind.takes u ud site.0 base
            (λ t et. kinded.fields j (site_some o site.0 site.1).0 site.0 c i t (site_some o site.0 site.1).1 site.2 ix et) s r));
      }

  element_kind : (p : Place) (b o : Operand) → Contains (parts_of P m k) (an_element p b o) → (t : ObjectType) → b.ty ≡ Some t → IsPoint P F o
  unfolding IsKindedPart
  element_kind p b o c = kinded.parts m k stands (an_element p b o) c

  pub reads_element : (p : Place) (e d : Ex) → (at d).created ≡ None → Contains (parts_of P m k) (an_element p (at e) (at d)) → IsUsed P F S (at e)
      → ReadsElement L Made V g e d
  unfolding ReadsElement
  reads_element p e d pl c u = λ o t w made et v.
      gives d (element_sites P F S (site_in (numbers P) o)) (λ s r. element_goes P F S closed facts m k stands p (at e) (at d) c
      (element_kind p (at e) (at d) c) u pl (site_in (numbers P) o) v s r)

  -- a subtype of an object's type is one of its class
  sub_object : (b c : TyBase) (d n : ℕ) (t : ObjectType) → d ≡ n → is_sub_base P b c ≡ true → object_in b d ≡ Some t → (u : ObjectType)
      × (object_in c n ≡ Some u) × (below P t.class.0 u.class.0 ≡ true)
  sub_object (Class b) (Class c) d n t e s o = (
    record { class = c; dim = n },
    refl,
    subst (λ z. below P z c.0 ≡ true) (ap (λ z. z.class.0) (same_Some (record { class = b; dim = d }) t o)) s,
  )
  sub_object (Class b) Int d n t e s o = absurd (false≢true s)
  sub_object (Class b) Boolean d n t e s o = absurd (false≢true s)
  sub_object (Class b) Char d n t e s o = absurd (false≢true s)
  sub_object (Class b) Str d n t e s o = absurd (false≢true s)
  sub_object Int c d n t e s o = absurd (cc)
  sub_object Boolean c d n t e s o = absurd (cc)
  sub_object Char c d n t e s o = absurd (cc)
  sub_object Str c d n t e s o = absurd (cc)

  pub subtype_object : (a b : Ty) (t : ObjectType) → is_subtype P a b ≡ true → object_of a ≡ Some t → (u : ObjectType) × (object_of b ≡ Some u)
      × (below P t.class.0 u.class.0 ≡ true)
  subtype_object a b t s o = let p = and_parts (a.dim == b.dim) (is_sub_base P a.base b.base) s in sub_object a.base b.base a.dim b.dim t
      (eqb-true a.dim b.dim p.0) p.1 o

  -- the array type over the type of its elements
  array_object : (b : TyBase) (d : ℕ) (u : Ty) (t : ObjectType) → element_in b d ≡ Some u → object_of u ≡ Some t
      → (object_in b d ≡ Some (record { class = t.class; dim = d })) × (d ≡ 0 → ⊥)
  array_object b zero u t e o = absurd (cc)
  array_object (Class c) (suc d) u t e o = (
    ap (λ z. Some (record { class = z; dim = suc d }))
        (ap (λ z. z.class) (same_Some (record { class = c; dim = d }) t (ap (λ z. object_of z) (same_Some (record { base = Class c; dim = d }) u e) ∙ o))),
    (λ z. absurd (omega (arith, z))),
  )
  array_object Int (suc d) u t e o = absurd (let z = ap (λ z. object_of z) (same_Some (record { base = Int; dim = d }) u e) ∙ o in cc)
  array_object Boolean (suc d) u t e o = absurd (let z = ap (λ z. object_of z) (same_Some (record { base = Boolean; dim = d }) u e) ∙ o in cc)
  array_object Char (suc d) u t e o = absurd (let z = ap (λ z. object_of z) (same_Some (record { base = Char; dim = d }) u e) ∙ o in cc)
  array_object Str (suc d) u t e o = absurd (let z = ap (λ z. object_of z) (same_Some (record { base = Str; dim = d }) u e) ∙ o in cc)

  pub writes_element : (p : Place) (e d : Ex) → Contains (parts_of P m k) (an_element_store p (at e) (at d)) → IsUsed P F S (at e)
      → IsUsed P F S (at d) → WritesElement L Made V g e d
  unfolding WritesElement
  writes_element p e d c ue ud = λ o q t u h made et mq sub v w. passes_all (element_sites P F S (site_in (numbers P) o)) (site_in (numbers P) q) (λ i ei.
      let own = mq.typed i ei in
      let up = subtype_object (own_type h) u (site_type F i) sub own in
      let array = array_object t.base t.dim u up.0 et up.1 in
      let site = made.sited (record { class = up.0.class; dim = t.dim }) array.0 in
      let type : site_type F site.0 ≡ record { class = up.0.class; dim = t.dim } = sym (same_Some _ _ (sym array.0 ∙ made.typed site.0 site.1)) in
      let cell = kinded.elements (site_some o site.0 site.1).0 site.0 up.0.class.0 t.dim (site_some o site.0 site.1).1 type array.1 in
      let less : IsBelow F (site_class F i) (site_class F site.0) = kinded.below (site_class F i) (site_class F site.0)
      (subst (λ z. below P (site_class F i) z ≡ true) (sym (ap (λ z. z.class.0) type)) up.2) in
      subst (λ z. element_sites P F S z i ≡ true) (sym site.1) (element_store_goes P F S closed facts m k stands p (at e) (at d) c ue ud site.0
      (subst (λ z. passes (value_sites P F S (at e)) z ≡ true) site.1 v) cell.0 cell.1 i less
      (subst (λ z. passes (value_sites P F S (at d)) z ≡ true) ei w)))
