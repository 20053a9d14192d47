-- All that the expressions of a body do stays in the typed sets of a family that the inclusions of the facts close.
use Rattle.std.proofs.Common.{[], ◌≡◌, ℕ, zero, suc, List, ◌++◌, Option, Some, None, refl, sym, ap, ◌∙◌, subst}
use Rattle.std.specs.Prelude.{Bool, true, false, slice_get, Contains, ◌||◌}
use Rattle.std.specs.Option.{option_map_or, option_and_then, is_some}
use Rattle.std.proofs.lemmas.Option.{same_Some}
use Rattle.std.proofs.lemmas.Bool.{false≢true, eq-eqb, and_from}
use Rattle.kaba_base.specs.declared.Place.{Place}
use Rattle.java_core.specs.declared.Ty.{Ty}
use Rattle.java_core.specs.declared.TyBase.{TyBase}
use Rattle.java_core.specs.declared.TyBase.TheVariants.{Int, Boolean, Char, Str, Class}
use Rattle.java_core.specs.Trees.{Tag, Ex, Exs, no_ex, ex_then, this, local, static_field, own_field, field, index, call, static_call, super_call, create, create_array, cast, instance_of, unary, binary}
use Rattle.java_core.specs.Programs.{PlainMethod}
use Rattle.java_core.specs.Classes.{lookup, super_method, slot_of_method}
use Rattle.java_core.specs.Types.{types_of, class_type, field_type, is_subtype}
use Rattle.java_meaning.specs.Moment.{Kind, an_object, an_array, own_type, held, bound, self_of, result_of, set_static, tested, ran, Body}
use Rattle.java_meaning.specs.Languages.{body_with}
use Rattle.java_meaning.specs.Values.{same_bool}
use Rattle.java_meaning.proofs.Moves.{then_some}
use Rattle.java_meaning.proofs.Calls.{mapped_some}
use Rattle.fact_model.specs.Items.{site_class}
use Rattle.fact_model.specs.Classes.{finds as found_for}
use Rattle.flow_rules.specs.declared.items.ObjectType.{ObjectType}
use Rattle.flow_rules.specs.declared.items.Operand.{Operand}
use Rattle.flow_rules.specs.declared.items.ColumnItem.TheVariants as column
use Rattle.flow_rules.specs.declared.items.PointItem.TheVariants as point
use Rattle.flow_rules.specs.declared.items.RowItem.TheVariants as row
use Rattle.flow_rules.specs.Operands.{object_in, object_of, object_if, call_slot, call_declaration, operands_of, type_in}
use Rattle.flow_rules.specs.Labels.{label_sts}
use Rattle.flow_rules.specs.Types.{field_object}
use Rattle.flow_rules.specs.Parts.{a_load, an_element, a_creation, a_call, a_static_call, a_super_call, a_test, a_store, is_accessed, parts, parts_all, parts_of}
use Rattle.flow_rules.specs.Lists.{site_in}
use Rattle.flow_rules.specs.Facts.{numbers}
use Rattle.flow_laws.specs.cover.Families.{Set, Sub, Gives, Passes, Enters, Calls, StaticCalls, SuperCalls, Makes, Tests, Casts, Included, IncludedAll, MakerRuns}
use Rattle.flow_laws.specs.cover.Covers.{is_site, passes, at_point, point_sites, labelled_with, labelled_body, tested_by, called_on}
use Rattle.flow_laws.proofs.cover.Kinded.{site_type, HasPoint, IsKindedCall, IsKindedPart, FindsBody, IsBase}
use Rattle.flow_laws.proofs.cover.SeenOperands.{at_seen, part_at, plain}
use Rattle.flow_laws.proofs.cover.Each.{left, right, past, here}
use Rattle.flow_laws.proofs.cover.Flows.{when_object, value_in, value_sites, looks_in, IsUsed, HasTypes, creation_looks, cast_goes, creation_used}
use Rattle.flow_laws.proofs.cover.Calls.{local_is, local_object, local_sites, result_sites, call_goes, StaticGoes, static_goes, super_goes, super_self, maker_goes}
use Rattle.flow_laws.proofs.cover.Included.{ClosedBody, watch, sub_sites, passes_all, exs_at, site_as, tested_type, called_slot, same_number, tests_as, finds_as, strictly}
use Rattle.std.proofs.lemmas.Option.{slice_get-map}
use Rattle.flow_rules.proofs.TypeLemmas.{object_or}
use Rattle.flow_laws.proofs.cover.Included as sets
use Rattle.flow_laws.proofs.cover.Walked.{walked}
use Rattle.java_core.specs.Makers.{maker_of, maker_slot}

module _ (B : ClosedBody) where
  open B use {program as P, facts as F, sets as S, closed, are_facts as facts, kinded, number as m, method as k, stands}
  open watch B use {at, lang as L, Made, sites, spots as V}
  open walked P m k use {env as g, operand as seen, Stands, tree, tree_all as trees}

  -- arguments
  operand_there : (es : Exs) (i : ℕ) (e : Ex) → exs_at es i ≡ Some e → slice_get (operands_of P (type_in P m k) m k es) i ≡ Some (seen e)
  operand_there no_ex i e h = absurd (cc)
  operand_there (ex_then d es) zero e h = ap (λ z. Some (seen z)) (same_Some d e h)
  operand_there (ex_then d es) (suc i) e h = operand_there es i e h

  argument_stands : (u : Bool) (es : Exs) (i : ℕ) (e : Ex) → exs_at es i ≡ Some e → Stands (parts_all P (type_in P m k) m k u es)
      → Stands (parts P (type_in P m k) m k u e)
  argument_stands u no_ex i e h st = absurd (cc)
  argument_stands u (ex_then d es) zero e h st = subst (λ z. Stands (parts P (type_in P m k) m k u z)) (same_Some d e h)
      (left (parts P (type_in P m k) m k u d) (parts_all P (type_in P m k) m k u es) st)
  argument_stands u (ex_then d es) (suc i) e h st =
      argument_stands u es i e h (right (parts P (type_in P m k) m k u d) (parts_all P (type_in P m k) m k u es) st)

  pass_all : (es : Exs) (X : ℕ → Set) → ((i : ℕ) (e : Ex) → exs_at es i ≡ Some e → Sub (V.value m e) (X i)) → Passes L Made V g es X
  pass_all no_ex X h = tt
  pass_all (ex_then e es) X h = (h zero e refl, pass_all es (λ x. X (suc x)) (λ i d f. h (suc i) d f))

  -- a body that is found
  pub record Found (c : ℕ) (b : Body) : Type 0 where
    pub method : PlainMethod
    pub there : slice_get P.methods c ≡ Some method
    pub has_body : is_some method.body ≡ true
    pub body_is : b.env.body ≡ c

  pub found : (c : ℕ) (b : Body) → labelled_body P F S c ≡ Some b → Found c b
  unfolding labelled_body
  found c b e =
      let h = then_some (labelled_with P F S c) (slice_get P.methods c) b e in
      let y = mapped_some (λ xs. body_with c h.0 (label_sts 0 xs)) h.0.body b h.2 in
      record { method = h.0; there = h.1; has_body = subst (λ z. is_some z ≡ true) (sym y.1) refl; body_is = sym (ap (λ z. z.env.body) y.2) }

  used_seen : (e : Ex) → IsUsed P F S (at e) → IsUsed P F S (seen e)
  used_seen e u = subst (λ z. IsUsed P F S z) (at_seen P m k stands e) u

  value_seen : (e : Ex) (s : ℕ) → value_sites P F S (at e) s ≡ true → value_sites P F S (seen e) s ≡ true
  value_seen e s h = subst (λ z. value_sites P F S z s ≡ true) (at_seen P m k stands e) h

  enter_args : (es : Exs) (b : Body) (c : ℕ) → b.env.body ≡ c → ((i : ℕ) (e : Ex) → exs_at es i ≡ Some e → (s : ℕ)
      → value_sites P F S (at e) s ≡ true → local_sites P F S c i s ≡ true) → Passes L Made V g es (λ x. V.spot (bound b.env.body x))
  enter_args es b c eb ha = subst (λ y. Passes L Made V g es (λ x. V.spot (bound y x))) (sym eb)
      (pass_all es (λ x. V.spot (bound c x)) (λ i e h. sub_sites P (value_sites P F S (at e)) (local_sites P F S c i) (ha i e h)))

  enters : (d : Ex) (es : Exs) (b : Body) (c : ℕ) → b.env.body ≡ c → ((i : ℕ) (e : Ex) → exs_at es i ≡ Some e → (s : ℕ)
      → value_sites P F S (at e) s ≡ true → local_sites P F S c i s ≡ true)
      → ((s : ℕ) → result_sites P F S c s ≡ true → (looks_in P F S (at d).created (at d) s ≡ true) × (value_sites P F S (at d) s ≡ true))
      → Enters L Made V g d es b
  enters d es b c eb ha hr = record {
    args = enter_args es b c eb ha;
    result = subst (λ y. Gives L Made V g d (V.spot (result_of y))) (sym eb) (sets.gives B d (result_sites P F S c) hr);
  }

  call_kind : (p : Place) (b o : Operand) (j : ℕ) (n : Option ℕ) (es : List Operand) → Contains (parts_of P m k) (a_call p b (Some j) n es o)
      → (c : ℕ) (h : PlainMethod) → slice_get P.methods c ≡ Some h → h.slot ≡ Some j → IsKindedCall P F h es o
  unfolding IsKindedPart
  call_kind p b o j n es c = kinded.parts m k stands (a_call p b (Some j) n es o) c

  -- the body that is found is the one of the column
  same_numbers : (a b : Option ℕ) (n : ℕ) → a ≡ Some n → b ≡ Some n → same_number P F S a b ≡ true
  same_numbers a b n e d = subst (λ z. same_number P F S z b ≡ true) (sym e) (subst (λ z. same_number P F S (Some n) z ≡ true) (sym d) (eq-eqb n n refl))

  calls : (p : Place) (e d : Ex) (x : List ℕ) (es : Exs) (n : Option ℕ) → called_on P F S d ≡ e
      → called_slot P F S m d ≡ call_slot P (type_in P m k e) x → (at d).created ≡ None
      → Contains (parts_of P m k) (a_call p (at e) (call_slot P (type_in P m k e) x) n (operands_of P (type_in P m k) m k es) (at d))
      → IsUsed P F S (at e) → Stands (parts_all P (type_in P m k) m k true es) → Calls L Made V g d e x es
  unfolding Calls
  calls p e d x es n ce cs pl there ue st = λ o c j b made ej eb v.
      let site = sets.object_site B o c made in
      let base : value_sites P F S (at e) site.0 ≡ true = subst (λ z. passes (value_sites P F S (at e)) z ≡ true) site.1 v in
      let part = subst (λ z. Contains (parts_of P m k) (a_call p (at e) z n (operands_of P (type_in P m k) m k es) (at d))) (sets.slot_seen B e x ∙ ej) there in
      let look = then_some (labelled_body P F S) (lookup P c j) b eb in
      let f = found look.0 b look.2 in
      let finds = kinded.bodies c j look.0 f.method look.1 f.there f.has_body in
      let finds_site : FindsBody P F (site_class F site.0) j look.0 f.method = subst (λ z. FindsBody P F z j look.0 f.method)
      (sym (ap (λ z. z.class.0) site.2)) finds in
      let goes = call_goes P F S closed facts m k stands p (at e) j n (operands_of P (type_in P m k) m k es) (at d) part ue pl site.0 base look.0
      f.method f.there finds_site (call_kind p (at e) (at d) j n (operands_of P (type_in P m k) m k es) part look.0 f.method f.there finds.slot)
      (kinded.variables look.0 f.method f.there f.has_body) in
      record {
        receiver = subst (λ z. strictly P F S (sites (ran m d b.env.body)) z ≡ true) (sym site.1)
            (and_from (point_sites P F S (at (called_on P F S d)) site.0) (finds_as P F S m d b.env.body site.0)
            (subst (λ y. point_sites P F S (at y) site.0 ≡ true) (sym ce)
            (subst (λ y. passes (point_sites P F S (at e)) y ≡ true) site.1 (sets.base_at B e (site_in (numbers P) o) ue v)))
            (subst (λ y. option_map_or (λ j. same_number P F S (found_for F (site_class F site.0) j) ((numbers P).column (column.Def b.env.body))) y
            true ≡ true)
            (sym (cs ∙ sets.slot_seen B e x ∙ ej)) (same_numbers (found_for F (site_class F site.0) j) ((numbers P).column (column.Def b.env.body))
            finds_site.body.column.0 finds_site.found (ap (λ y. (numbers P).column (column.Def y)) f.body_is ∙ finds_site.column))));
        self = subst (λ z. strictly P F S (sites (self_of b.env.body)) z ≡ true) (sym site.1)
            (subst (λ y. at_point P F S ((numbers P).point (point.This y)) site.0 ≡ true) (sym f.body_is) goes.self);
        enters = enters d es b look.0 f.body_is (λ i a h s w. goes.args i (seen a) (operand_there es i a h)
            (used_seen a (sets.is_used B a (argument_stands true es i a h st))) s (value_seen a s w)) goes.result;
      }

  sub_strictly : (X Y : ℕ → Bool) → ((s : ℕ) → X s ≡ true → Y s ≡ true) → Sub (λ q. strictly P F S X (site_in (numbers P) q))
      (λ q. strictly P F S Y (site_in (numbers P) q))
  sub_strictly X Y f q h = go (site_in (numbers P) q) h
    where
      go : (z : Option ℕ) → strictly P F S X z ≡ true → strictly P F S Y z ≡ true
      go None h = absurd (false≢true h)
      go (Some s) h = f s h

  from_strictly : (X Y : ℕ → Bool) → ((s : ℕ) → X s ≡ true → Y s ≡ true) → Sub (λ q. strictly P F S X (site_in (numbers P) q))
      (λ q. passes Y (site_in (numbers P) q))
  from_strictly X Y f q h = go (site_in (numbers P) q) h
    where
      go : (z : Option ℕ) → strictly P F S X z ≡ true → passes Y z ≡ true
      go None h = absurd (false≢true h)
      go (Some s) h = f s h

  static_kind : (p : Place) (c : ℕ) (o : Operand) (es : List Operand) → Contains (parts_of P m k) (a_static_call p c es o) → (h : PlainMethod)
      → slice_get P.methods c ≡ Some h → IsKindedCall P F h es o
  unfolding IsKindedPart
  static_kind p c o es w = kinded.parts m k stands (a_static_call p c es o) w

  super_kind : (p : Place) (c : ℕ) (o : Operand) (es : List Operand) → Contains (parts_of P m k) (a_super_call p (Some c) es o) → (h : PlainMethod)
      → slice_get P.methods c ≡ Some h → is_some h.body ≡ true → IsKindedCall P F h es o
      × ((q : ℕ) × ((numbers P).point (point.This c) ≡ Some q))
  unfolding IsKindedPart
  super_kind p c o es w = kinded.parts m k stands (a_super_call p (Some c) es o) w

  one_enters : (d : Ex) (es : Exs) (b : Body) (c : ℕ) → b.env.body ≡ c → Stands (parts_all P (type_in P m k) m k false es)
      → StaticGoes P F S closed facts m k stands c (operands_of P (type_in P m k) m k es) (at d) → Enters L Made V g d es b
  one_enters d es b c eb st goes = enters d es b c eb
      (λ i a h s w. goes.args i (seen a) (operand_there es i a h) (subst (λ z. HasTypes P F S z) (at_seen P m k stands a)
      (sets.has_types B false a (argument_stands false es i a h st))) s (value_seen a s w)) goes.result

  static_calls : (p : Place) (d : Ex) (c : ℕ) (es : Exs) → (at d).created ≡ None
      → Contains (parts_of P m k) (a_static_call p c (operands_of P (type_in P m k) m k es) (at d))
      → Stands (parts_all P (type_in P m k) m k false es) → StaticCalls L Made V g d c es
  unfolding StaticCalls
  static_calls p d c es pl there st = λ b eb.
      let f = found c b eb in
      one_enters d es b c f.body_is st (static_goes P F S closed facts m k stands p c (operands_of P (type_in P m k) m k es) (at d) there pl
      f.method f.there (static_kind p c (at d) (operands_of P (type_in P m k) m k es) there f.method f.there) (kinded.variables c f.method f.there f.has_body))

  super_calls : (p : Place) (d : Ex) (x : List ℕ) (es : Exs) → (at d).created ≡ None
      → Contains (parts_of P m k) (a_super_call p (super_method P k.owner x) (operands_of P (type_in P m k) m k es) (at d))
      → Stands (parts_all P (type_in P m k) m k false es) → SuperCalls L Made V g d x es
  unfolding SuperCalls
  super_calls p d x es pl there st = λ b eb.
      let look = then_some (labelled_body P F S) (super_method P k.owner x) b eb in
      let f = found look.0 b look.2 in
      let part = subst (λ z. Contains (parts_of P m k) (a_super_call p z (operands_of P (type_in P m k) m k es) (at d))) look.1 there in
      let kind = super_kind p look.0 (at d) (operands_of P (type_in P m k) m k es) part f.method f.there f.has_body in
      record {
        self = subst (λ y. Sub (V.spot (self_of m)) (V.spot (self_of y))) (sym f.body_is) (sub_strictly (sites (self_of m)) (sites (self_of look.0))
            (λ s h. super_self P F S closed facts m k stands p look.0 (operands_of P (type_in P m k) m k es) (at d) part kind.1.0 kind.1.1 s h));
        enters = one_enters d es b look.0 f.body_is st (super_goes P F S closed facts m k stands p look.0 (operands_of P (type_in P m k) m k es)
            (at d) part pl f.method f.there kind.0 (kinded.variables look.0 f.method f.there f.has_body));
      }

  -- creations
  makes : (p : Place) (u : Bool) (d : Ex) (n : ℕ) (h : Kind) (j c : Option ℕ) (es : List Operand)
      → Contains (parts_of P m k) (a_creation p u (at d) j c es) → (at d).created ≡ Some n
      → (at d).ty ≡ object_of (own_type h) → Makes L Made V g d n h
  makes p u d n h j c es there ec et =
      let i = sets.creation B p u d j c es there in
      record {
        made = record { sited = λ t e. i.sited n t ec (et ∙ e); typed = λ s e. sym et ∙ i.typed n s ec e };
        looks = passes_all (sites (held m d)) ((numbers P).site n) (λ s e. subst (λ z. looks_in P F S z (at d) s ≡ true) (sym ec)
            (creation_looks P F S closed facts m k stands p u (at d) j c es there n s ec e));
        holds = passes_all (value_sites P F S (at d)) ((numbers P).site n) (λ s e. subst (λ z. value_in P F S z (at d) s ≡ true) (sym ec)
            (subst (λ z. is_site z s ≡ true) (sym e) (eq-eqb s s refl)));
      }

  same_bools : (b : Bool) → same_bool b b ≡ true
  same_bools true = refl
  same_bools false = refl

  -- a type that a row can have, from its class and its brackets
  abbrev as_ty : TyBase → ℕ → Ty
  as_ty b d = record { base = b; dim = d }

  as_base : (b : TyBase) (d : ℕ) (r : ObjectType) → object_in b d ≡ Some r → as_ty b d ≡ as_ty (Class r.class) r.dim
  as_base (Class c) d r e = ap (λ z. as_ty (Class z.class) z.dim) (same_Some (record { class = c; dim = d }) r e)
  as_base Int d r e = absurd (cc)
  as_base Boolean d r e = absurd (cc)
  as_base Char d r e = absurd (cc)
  as_base Str d r e = absurd (cc)

  as_type : (t : Ty) (r : ObjectType) → object_of t ≡ Some r → t ≡ as_ty (Class r.class) r.dim
  as_type t r e = as_base t.base t.dim r e

  -- casts and instanceof
  tests : (d e : Ex) (t : Ty) → tested_by P F S d ≡ e → tested_type P F S d ≡ Some t → IsUsed P F S (at e) → Tests L Made V g d e t
  unfolding Tests
  tests d e t te ty ue = λ o h made v. passes_all (sites (tested m d (is_subtype P (own_type h) t))) (site_in (numbers P) o) (λ s es.
      and_from (point_sites P F S (at (tested_by P F S d)) s) (tests_as P F S d (is_subtype P (own_type h) t) s)
      (subst (λ y. point_sites P F S (at y) s ≡ true) (sym te)
      (subst (λ y. passes (point_sites P F S (at e)) y ≡ true) es (sets.base_at B e (site_in (numbers P) o) ue v)))
      (subst (λ y. option_map_or (λ u. same_bool (is_subtype P (own_type h) t) (is_subtype P (site_as P F S s) u)) y true ≡ true) (sym ty)
      (subst (λ y. same_bool (is_subtype P (own_type h) t) (is_subtype P y t) ≡ true) (as_type (own_type h) (site_type F s) (made.typed s es))
      (same_bools (is_subtype P (own_type h) t)))))

  test_kind : (p : Place) (e o : Operand) → Contains (parts_of P m k) (a_test p e o) → HasPoint P F o
  unfolding IsKindedPart
  test_kind p e o c = kinded.parts m k stands (a_test p e o) c

  casts : (p : Place) (d e : Ex) (t : Ty) → (at d).created ≡ None → (at d).ty ≡ object_of t → Contains (parts_of P m k) (a_test p (at e) (at d))
      → IsUsed P F S (at e) → Casts L Made V g d e t
  unfolding Casts
  casts p d e t pl et there ue = λ o h made v sub.
      let both : (s : ℕ) → site_in (numbers P) o ≡ Some s → (looks_in P F S (at d).created (at d) s ≡ true)
      × (value_sites P F S (at d) s ≡ true) = λ s es.
      let up = sets.subtype_object B (own_type h) t (site_type F s) sub (made.typed s es) in
      cast_goes P F S closed facts m k stands p (at e) (at d) there (test_kind p (at e) (at d) there) ue pl s
      (subst (λ z. passes (value_sites P F S (at e)) z ≡ true) es v) up.0 (et ∙ up.1) (kinded.below (site_class F s) up.0.class.0 up.2) in (
        passes_all (sites (held m d)) (site_in (numbers P) o) (λ s es. (both s es).0),
        passes_all (value_sites P F S (at d)) (site_in (numbers P) o) (λ s es. (both s es).1),
      )

  -- variables
  pub this_sub : (t : Tag) → Sub (V.spot (self_of m)) (V.value m (this t))
  unfolding type_in
  this_sub t = from_strictly (sites (self_of m)) (value_sites P F S (at (this t))) (λ s h. subst (λ z. value_sites P F S z s ≡ true)
      (sym (at_seen P m k stands (this t))) h)

  pub local_seen : (t : Tag) (i : ℕ) → type_in P m k (local t i) ≡ local_object P F S m i
  unfolding type_in
  local_seen t i = object_or (slice_get (types_of (k.params ++ k.locals)) i) ∙ ap (λ z. object_if z) (slice_get-map (λ l. l.ty) (k.params ++ k.locals) i)
      ∙ sym (local_is P F S m k i stands)

  local_sub : (t : Tag) (i : ℕ) → Sub (V.spot (bound m i)) (V.value m (local t i))
  local_sub t i = sub_sites P (sites (bound m i)) (value_sites P F S (at (local t i)))
      (λ s h. subst (λ z. value_sites P F S z s ≡ true) (sym (at_seen P m k stands (local t i)))
      (subst (λ z. when_object z (at_point P F S ((numbers P).point (point.Local m i))) s ≡ true) (sym (local_seen t i)) h))

  pub static_seen : (t : Tag) (f : ℕ) → type_in P m k (static_field t f) ≡ field_object P f
  unfolding type_in
  static_seen t f = object_or (field_type P f)

  static_sub : (t : Tag) (f : ℕ) → Sub (V.spot (set_static f)) (V.value m (static_field t f))
  static_sub t f = sub_sites P (sites (set_static f)) (value_sites P F S (at (static_field t f)))
      (λ s h. subst (λ z. value_sites P F S z s ≡ true) (sym (at_seen P m k stands (static_field t f)))
      (subst (λ z. when_object z (at_point P F S ((numbers P).point (point.Static f))) s ≡ true) (sym (static_seen t f)) h))

  abbrev this_seen : Operand
  this_seen = record { point = Some (point.This m); row = Some (row.This m); ty = Some (record { class = record { 0 = k.owner }; dim = 0 }); created = None }

  own_load : (t : Tag) (p : Place) (f : ℕ) (d : Ex) → Contains (parts_of P m k) (a_load p this_seen (Some f) (seen d))
      → Contains (parts_of P m k) (a_load p (at (this t)) (Some f) (at d))
  unfolding type_in
  own_load t p f d c = part_at P m k stands (λ o z. a_load p o (Some f) z) (this t) d c

  pub own_store : (t : Tag) (p : Place) (f : ℕ) (d : Ex) → Contains (parts_of P m k) (a_store p this_seen (Some f) (seen d))
      → Contains (parts_of P m k) (a_store p (at (this t)) (Some f) (at d))
  unfolding type_in
  own_store t p f d c = part_at P m k stands (λ o z. a_store p o (Some f) z) (this t) d c

  pub one_some : (P : ℕ → Type 0) (f j : ℕ) → Some f ≡ Some j → P f → P j
  one_some P f j e h = subst P (same_Some f j e) h

  cast_seen : (t : Tag) (n : ℕ) (u : Ty) (e : Ex) → (at (cast t n u e)).ty ≡ object_of u
  unfolding type_in
  cast_seen t n u e = ap (λ z. z.ty) (at_seen P m k stands (cast t n u e))

  create_seen : (t : Tag) (n c : ℕ) (es : Exs) → (at (create t n c es)).ty ≡ object_of (class_type c)
  unfolding type_in
  create_seen t n c es = ap (λ z. z.ty) (at_seen P m k stands (create t n c es))

  array_seen : (t : Tag) (n : ℕ) (u : Ty) (e : Ex) → (at (create_array t n u e)).ty ≡ object_of u
  unfolding type_in
  array_seen t n u e = ap (λ z. z.ty) (at_seen P m k stands (create_array t n u e))

  create_makes : (t : Tag) (u : Bool) (n c : ℕ) (es : Exs) → Stands (tree u (create t n c es)) → Makes L Made V g (create t n c es) n (an_object c)
  create_makes t u n c es st = makes t.place _ (create t n c es) n (an_object c) _ _ _ (sets.create_at B t u n c es st)
      (ap (λ z. z.created) (at_seen P m k stands (create t n c es))) (create_seen t n c es)

  -- the constructor of a creation runs on it
  maker_runs : (t : Tag) (u : Bool) (n c : ℕ) (es : Exs) → Stands (tree u (create t n c es)) → MakerRuns L Made V g (create t n c es) n c es
  unfolding MakerRuns IsBase
  maker_runs t u n c es st = λ j b ej eb.
      let d : Ex = create t n c es in
      let args = operands_of P (type_in P m k) m k es in
      let own = then_some (slot_of_method P) (maker_of P c) j ej in
      let ways : is_some (maker_of P c) ≡ true = ap is_some own.1 in
      let used : u || is_some (maker_of P c) ≡ true = ap (λ z. u || z) ways ∙ or_true u in
      let part = subst (λ z. Contains (parts_of P m k) (a_creation t.place true (at d) z (maker_of P c) args)) ej
      (subst (λ z. Contains (parts_of P m k) (a_creation t.place z (at d) (maker_slot P c) (maker_of P c) args)) used (sets.create_at B t u n c es st)) in
      let way : Stands (trees true es) = subst (λ z. Stands (trees z es)) ways (past _ _ st) in
      let mk = create_makes t u n c es st in
      let site = sets.object_site B (Some n) c mk.made in
      let i = sets.creation B t.place true d (Some j) (maker_of P c) args part in
      let ud = creation_used P F S closed facts m k stands t.place true (at d) (Some j) (maker_of P c) args part i (i.point refl) in
      let base : value_sites P F S (at d) site.0 ≡ true = subst (λ z. passes (value_sites P F S (at d)) z ≡ true) site.1 mk.holds in
      let look = then_some (labelled_body P F S) (lookup P c j) b eb in
      let f = found look.0 b look.2 in
      let finds = kinded.bodies c j look.0 f.method look.1 f.there f.has_body in
      let finds_site : FindsBody P F (site_class F site.0) j look.0 f.method = subst (λ z. FindsBody P F z j look.0 f.method)
      (sym (ap (λ z. z.class.0) site.2)) finds in
      let goes = maker_goes P F S closed facts m k stands t.place true (at d) j (maker_of P c) args part ud site.0 base look.0 f.method f.there finds_site
      (sets.maker B t.place true d (Some j) (maker_of P c) args part look.0 f.method f.there finds.slot)
      (kinded.variables look.0 f.method f.there f.has_body) in
      record {
        receiver = subst (λ z. strictly P F S (sites (ran m d b.env.body)) z ≡ true) (sym site.1)
            (and_from (point_sites P F S (at d) site.0) (finds_as P F S m d b.env.body site.0)
            (subst (λ y. passes (point_sites P F S (at d)) y ≡ true) site.1 (sets.base_at B d (site_in (numbers P) (Some n)) ud mk.holds)) refl);
        self = subst (λ z. strictly P F S (sites (self_of b.env.body)) z ≡ true) (sym site.1)
            (subst (λ y. at_point P F S ((numbers P).point (point.This y)) site.0 ≡ true) (sym f.body_is) goes.self);
        args = enter_args es b look.0 f.body_is (λ i a h s w. goes.args i (seen a) (operand_there es i a h)
            (used_seen a (sets.is_used B a (argument_stands true es i a h way))) s (value_seen a s w));
      }
    where
      or_true : (z : Bool) → z || true ≡ true
      or_true true = refl
      or_true false = refl

  -- all that an expression does stays in the sets
  mutual
    pub included : (u : Bool) (e : Ex) → Stands (tree u e) → Included L Made V g e
    included u (this t) st = this_sub t
    included u (local t i) st = local_sub t i
    included u (static_field t f) st = static_sub t f
    included u (own_field t f) st = (
      this_sub t,
      sets.reads B t.place (this t) (own_field t f) (Some f) (plain P m k stands (own_field t f) refl) (λ j e. (
        one_some (λ j. Contains (parts_of P m k) (a_load t.place (at (this t)) (Some j) (at (own_field t f)))) f j e
            (own_load t t.place f (own_field t f) (here _ [] st)),
        (λ b. sets.plain_used B (at (this t)) (plain P m k stands (this t) refl)),
      )),
    )
    included u (field t e x) st = (
      included (is_accessed e) e (left (tree (is_accessed e) e) _ st),
      sets.reads B t.place e (field t e x) (L.field g e x) (plain P m k stands (field t e x) refl) (λ j ej. (
        part_at P m k stands (λ o z. a_load t.place o (Some j) z) e (field t e x)
            (subst (λ z. Contains (parts_of P m k) (a_load t.place (seen e) z (seen (field t e x)))) (sets.field_seen B e x
            ∙ ej) (here _ [] (right (tree (is_accessed e) e) _ st))),
        (λ b. sets.base_used B e (left (tree (is_accessed e) e) _ st) b),
      )),
    )
    included u (index t e i) st = (
      included true e (left (tree true e) _ st),
      included false i (past _ _ (right (tree true e) _ st)),
      sets.reads_element B t.place e (index t e i) (plain P m k stands (index t e i) refl)
          (part_at P m k stands (λ o z. an_element t.place o z) e (index t e i)
          (here _ _ (right (tree true e) _ st))) (sets.is_used B e (left (tree true e) _ st)),
    )
    included u (call t e x es) st = (
      included true e (left (tree true e) _ st),
      included_all true es (past _ _ (right (tree true e) _ st)),
      calls t.place e (call t e x es) x es (call_declaration P (type_in P m k e) x) refl
          (ap (λ z. option_and_then (λ k. call_slot P (type_in P m k e) x) z) stands) (plain P m k stands (call t e x es) refl)
          (part_at P m k stands (λ o z. a_call t.place o (call_slot P (type_in P m k e) x) (call_declaration P (type_in P m k e) x)
          (operands_of P (type_in P m k) m k es) z) e (call t e x es) (here _ _ (right (tree true e) _ st)))
          (sets.is_used B e (left (tree true e) _ st)) (past _ _ (right (tree true e) _ st)),
    )
    included u (static_call t c es) st = (
      included_all false es (past _ _ st),
      static_calls t.place (static_call t c es) c es (plain P m k stands (static_call t c es) refl)
          (part_at P m k stands (λ o z. a_static_call t.place c (operands_of P (type_in P m k) m k es) z) (static_call t c es) (static_call t c es)
          (here _ _ st)) (past _ _ st),
    )
    included u (super_call t x es) st = (
      included_all false es (past _ _ st),
      super_calls t.place (super_call t x es) x es (plain P m k stands (super_call t x es) refl)
          (part_at P m k stands (λ o z. a_super_call t.place (super_method P k.owner x) (operands_of P (type_in P m k) m k es) z) (super_call t x es)
          (super_call t x es) (here _ _ st)) (past _ _ st),
    )
    included u (create t n c es) st = (
      included_all (is_some (maker_of P c)) es (past _ _ st),
      create_makes t u n c es st,
      maker_runs t u n c es st,
    )
    included u (create_array t n v e) st = (
      included false e (past _ _ st),
      makes t.place u (create_array t n v e) n (an_array v) None None [] (sets.array_at B t u n v e st)
          (ap (λ z. z.created) (at_seen P m k stands (create_array t n v e))) (array_seen t n v e),
    )
    included u (cast t n v e) st = (
      included true e (past _ _ st),
      tests (cast t n v e) e v refl refl (sets.is_used B e (past _ _ st)),
      casts t.place (cast t n v e) e v (plain P m k stands (cast t n v e) refl) (cast_seen t n v e)
          (part_at P m k stands (λ o z. a_test t.place o z) e (cast t n v e) (here _ _ st)) (sets.is_used B e (past _ _ st)),
    )
    included u (instance_of t n e c) st = (
      included true e (left (tree true e) _ st),
      tests (instance_of t n e c) e (class_type c) refl refl (sets.is_used B e (left (tree true e) _ st)),
    )
    included u (unary t o e) st = included false e st
    included u (binary t o e d) st = (
      included false e (left (tree false e) (tree false d) (left (tree false e ++ tree false d) _ st)),
      included false d (right (tree false e) (tree false d) (left (tree false e ++ tree false d) _ st)),
    )
    included u e st = tt

    included_all : (u : Bool) (es : Exs) → Stands (trees u es) → IncludedAll L Made V g es
    included_all u no_ex st = tt
    included_all u (ex_then e es) st = (included u e (left (tree u e) (trees u es) st), included_all u es (right (tree u e) (trees u es) st))
