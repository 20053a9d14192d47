-- The relation of a rebuilding holds of the worked program and its rebuilt one.
use Rattle.std.proofs.Common.{◌≡◌, ◌≢◌, ◌↔◌, ◌⊎◌, inl, inr, ℕ, zero, suc, true, false, List, [], ◌∷◌, Some, None, refl, sym, ap, ◌∙◌, subst, arith, ⊎_elim, lit≤}
use Rattle.std.specs.Option.{is_some, option_map_or}
use Rattle.std.specs.Prelude.{◌||◌, ◌&&◌, ◌==◌, not, Bool, Contains, codes, slice_get, position}
use Rattle.std.proofs.Math.Dec.{eqb-suc-zero}
use Rattle.std.proofs.lemmas.Bool.{false≢true, eqb-true}
use Rattle.java_core.specs.Trees.{Tag, no_ex, local, this, call, own_field, field, return, no_st, st_then}
use Rattle.java_core.specs.Programs.{PlainClass, PlainField, PlainMethod}
use Rattle.java_core.specs.Classes.{IsSubclass, same_class, through, supers_of, member_field, field_of, below, declaration_of, search_order}
use Rattle.java_core.specs.Makers.{maker_of}
use Rattle.java_core.specs.Types.{Env, types_of, env_of}
use Rattle.java_meaning.specs.Paired.{pair_some, pair_declare, pair_act, pair_return, pair_no_st, pair_st_then}
use Rattle.kaba_order.specs.Orders.{is_live, is_le}
use Rattle.fact_model.specs.Classes.{is_slot}
use Rattle.fact_model.specs.declared.facts.Facts.{Facts}
use Rattle.hier_model.specs.Hierarchies.{node, place_of_column}
use Rattle.flow_rules.specs.declared.items.RowItem.TheVariants as row
use Rattle.flow_rules.specs.declared.items.ColumnItem.{ColumnItem}
use Rattle.flow_rules.specs.declared.items.ColumnItem.TheVariants as column
use Rattle.flow_rules.specs.Operands.{type_in}
use Rattle.flow_rules.specs.Parts.{parts_of}
use Rattle.flow_rules.specs.Numbered.{bodies_of, rows_of, columns_of, sites_of, row_number, column_number, same_column}
use Rattle.flow_rules.specs.Facts.{numbers, is_holder, makers_of}
use Rattle.rebuild_model.specs.Renaming.{renaming_of, retyped, retyped_if}
use Rattle.rebuild_model.specs.Matches.{Matches, MatchesSts, IsStaticMethod, m_create, m_no_ex, m_call, m_local, m_own_field}
use Rattle.rebuild_model.specs.Members.{HasTypes, new_types, is_headed, is_filled, StandsAt, IsField, IsBody, IsOfSlot, IsHead, IsFiller, IsStaticMethodOf}
use Rattle.rebuild_model.specs.Rebuilds.{IsNodeType, IsHolderType, AreTypes, AreMembers, IsMakeMethod, AreStatics, Rebuilds}
use Rattle.rebuild_model.proofs.Worked.{place, an_int, class, object, the_field, method, main, slot, main_code, old, new, listed, the_columns, the_sites, hierarchy, places}

pub column_f : (numbers old).column (column.Fld 0) ≡ Some 0
unfolding numbers columns_of column_number parts_of type_in field_of member_field declaration_of search_order
column_f = refl

pub column_m : (numbers old).column (column.Dcl 0) ≡ Some 1
unfolding numbers columns_of column_number parts_of type_in field_of member_field declaration_of search_order
column_m = refl

pub column_body : (numbers old).column (column.Def 0) ≡ Some 2
unfolding numbers columns_of column_number parts_of type_in field_of member_field declaration_of search_order
column_body = refl

in_none : (p : ColumnItem → Bool) → p (column.Fld 0) ≡ false → p (column.Dcl 0) ≡ false → p (column.Def 0) ≡ false
    → position p (column.Fld 0 ∷ column.Dcl 0 ∷ column.Def 0 ∷ []) ≡ None
in_none p a b c = rw a (rw b (rw c refl))

pub no_field : (f : ℕ) → (numbers old).column (column.Fld (suc f)) ≡ None
unfolding numbers columns_of column_number parts_of type_in field_of member_field declaration_of search_order
no_field f = in_none (same_column (column.Fld (suc f))) (eqb-suc-zero f) refl refl

pub no_declaration : (f : ℕ) → (numbers old).column (column.Dcl (suc f)) ≡ None
unfolding numbers columns_of column_number parts_of type_in field_of member_field declaration_of search_order
no_declaration f = in_none (same_column (column.Dcl (suc f))) refl (eqb-suc-zero f) refl

pub no_body : (f : ℕ) → (numbers old).column (column.Def (suc f)) ≡ None
unfolding numbers columns_of column_number parts_of type_in field_of member_field declaration_of search_order
no_body f = in_none (same_column (column.Def (suc f))) refl refl (eqb-suc-zero f)

made_row : (renaming_of old hierarchy places).row_type (row.New 0) ≡ Some 2
unfolding renaming_of numbers rows_of row_number parts_of type_in field_of member_field declaration_of search_order
made_row = refl

name_f : codes "f" ≡ (renaming_of old hierarchy places).field_name 0
unfolding renaming_of numbers rows_of row_number columns_of column_number parts_of type_in field_of member_field declaration_of search_order
name_f = refl

pub name_m : codes "m" ≡ (renaming_of old hierarchy places).method_name 0
unfolding renaming_of numbers rows_of row_number columns_of column_number parts_of type_in field_of member_field declaration_of search_order
name_m = refl

type_f : an_int ≡ retyped ((renaming_of old hierarchy places).row_type (row.Field 0)) an_int
unfolding renaming_of numbers rows_of row_number columns_of column_number parts_of type_in field_of member_field declaration_of search_order
type_f = refl

result_m : Some an_int ≡ retyped_if ((renaming_of old hierarchy places).row_type (row.Return 0)) (Some an_int)
unfolding renaming_of numbers rows_of row_number columns_of column_number parts_of type_in field_of member_field declaration_of search_order
result_m = refl

main_types : HasTypes (renaming_of old hierarchy places) 1 (main 2 1 (main_code 1)) (main 3 1 (main_code 2))
unfolding renaming_of numbers rows_of row_number columns_of column_number parts_of type_in field_of member_field declaration_of search_order
main_types = record { params = refl; result = refl }

main_locals : types_of (main 3 1 (main_code 2)).locals ≡ new_types (renaming_of old hierarchy places) 1 (main 2 1 (main_code 1)) 1
    (main 2 1 (main_code 1)).locals
unfolding renaming_of numbers rows_of row_number columns_of column_number parts_of type_in field_of member_field declaration_of search_order
main_locals = refl

-- no class of either has a constructor
no_maker : (c : ℕ) → maker_of old c ≡ None
no_maker zero = refl
no_maker (suc zero) = refl
no_maker (suc (suc zero)) = refl
no_maker (suc (suc (suc c))) = refl

pub no_new_maker : (c : ℕ) → maker_of new c ≡ None
no_new_maker zero = refl
no_new_maker (suc zero) = refl
no_new_maker (suc (suc zero)) = refl
no_new_maker (suc (suc (suc zero))) = refl
no_new_maker (suc (suc (suc (suc c)))) = refl

-- so no method makes objects
no_makers : makers_of old ≡ None
unfolding sites_of bodies_of rows_of row_number parts_of type_in field_of member_field declaration_of search_order
no_makers = refl

no_makers_there : is_some (makers_of old) ≡ true → ⊥
no_makers_there h = false≢true (sym (ap is_some no_makers) ∙ h)

found_m : declaration_of old 1 (codes "m") ≡ Some 0
unfolding declaration_of search_order
found_m = refl

-- of the test that a class has static members, in this program
is_second : (c : ℕ) → is_holder old c ≡ true → 2 ≡ c
is_second c h = eqb-true 2 c (left (2 == c) h)
  where
    left : (b : Bool) → (b || false) ≡ true → b ≡ true
    left true e = refl
    left false e = e

at_object : {a b : ℕ} → IsSubclass new a b → a ≡ 0 → b ≡ 0
at_object same_class e = e
at_object (through {c = c} direct rest) e = absurd (none (subst (λ x. Contains (supers_of new x) c) e direct))
  where
    none : Contains (supers_of new 0) c → ⊥
    none h = omega (arith, h.1)

at_face : {a b : ℕ} → IsSubclass new a b → a ≡ 1 → (b ≡ 1) ⊎ (b ≡ 0)
at_face same_class e = inl e
at_face (through {c = c} direct rest) e = inr (at_object rest (one (subst (λ x. Contains (supers_of new x) c) e direct)))
  where
    one : Contains (supers_of new 1) c → c.0 ≡ 0
    one (zero, below, is) = cc (sym is)
    one (suc i, below, is) = omega (arith, below)

no_face : ◌≡◌ {A = ℕ} 2 1 → ⊥
no_face e = omega (arith, e)

no_object : ◌≡◌ {A = ℕ} 2 0 → ⊥
no_object e = omega (arith, e)

-- the order of the types is that of the nodes
pub ordered : (a b : ℕ) → is_live hierarchy.order a ≡ true → is_live hierarchy.order b ≡ true
    → IsSubclass new (suc a) (suc b) ↔ (is_le hierarchy.order a b ≡ true)
ordered zero zero la lb = (λ s. refl, λ e. same_class)
ordered zero (suc zero) la lb = (λ s. absurd (⊎_elim no_face no_object (at_face s refl)), λ e. absurd (cc e))
ordered (suc zero) zero la lb = (λ s. refl, λ e. through {c = record { 0 = 1 }} (1, omega arith, refl) same_class)
ordered (suc zero) (suc zero) la lb = (λ s. refl, λ e. same_class)
ordered zero (suc (suc b)) la lb = absurd (cc lb)
ordered (suc zero) (suc (suc b)) la lb = absurd (cc lb)
ordered (suc (suc a)) b la lb = absurd (cc la)

-- a field and a call under their new names
own_matches : {g : Env} {t u v : Tag} (x : List ℕ) → x ≡ (renaming_of old hierarchy places).field_name 0
    → Matches old new (renaming_of old hierarchy places) g (own_field t 0) (field u (this v) x)
own_matches {g} {t} {u} {v} x e = subst (λ y. Matches old new (renaming_of old hierarchy places) g (own_field t 0) (field u (this v) y)) (sym e) m_own_field

abbrev main_env : Env
main_env = env_of 1 (main 2 1 (main_code 1))

call_matches : {t u : Tag} (x : List ℕ) → x ≡ (renaming_of old hierarchy places).method_name 0
    → Matches old new (renaming_of old hierarchy places) main_env (call t (local t 1) (codes "m") no_ex) (call u (local u 1) x no_ex)
call_matches {t} {u} x e =
    subst (λ y. Matches old new (renaming_of old hierarchy places) main_env (call t (local t 1) (codes "m") no_ex) (call u (local u 1) y no_ex)) (sym e)
    (m_call {c = 1} m_local refl found_m m_no_ex)

module _ (others : Facts) where
  abbrev pub facts : Facts
  facts = record others { columns = listed others.columns the_columns (lit≤ tt); sites = listed others.sites the_sites (lit≤ tt) }

  node_types : (n : ℕ) → is_live hierarchy.order n ≡ true → IsNodeType old facts hierarchy new places n
  node_types zero l = record {
    class = record { name = codes "A_0"; is_interface = true; is_abstract = false; parent = object; faces = []; tag = place 0 };
    stands = refl;
    no_object = λ e. omega (arith, e);
    name = refl;
    kind = refl;
    abstract = λ e. absurd (cc e);
  }
  node_types (suc zero) l = record {
    class = record { name = codes "A_1"; is_interface = false; is_abstract = false; parent = object; faces = record { 0 = 1 } ∷ []; tag = place 0 };
    stands = refl;
    no_object = λ e. omega (arith, e);
    name = refl;
    kind = refl;
    abstract = λ e. refl;
  }
  node_types (suc (suc n)) l = absurd (cc l)

  main_holder : IsHolderType old facts hierarchy new places 2
  main_holder = record {
    class = class (codes "Main") object 0;
    old = class (codes "Main") object 30;
    stands = refl;
    old_stands = refl;
    no_object = λ e. omega (arith, e);
    name = refl;
    parent = refl;
    faces = refl;
  }

  all_types : (k : ℕ) (c : PlainClass) → slice_get new.classes k ≡ Some c
      → (k ≡ 0) ⊎ (((n : ℕ) × (is_live hierarchy.order n ≡ true) × (k ≡ suc n)) ⊎ (((h : ℕ) × (is_holder old h ≡ true) × (k ≡ 3))
      ⊎ ((is_some (makers_of old) ≡ true) × (k ≡ 0))))
  all_types zero c e = inl refl
  all_types (suc zero) c e = inr (inl (0, refl, refl))
  all_types (suc (suc zero)) c e = inr (inl (1, refl, refl))
  all_types (suc (suc (suc zero))) c e = inr (inr (inl (2, refl, refl)))
  all_types (suc (suc (suc (suc k)))) c e = absurd (cc e)

  no_third : (n : ℕ) → is_live hierarchy.order n ≡ true → suc n ≢ 3
  no_third zero l e = omega (arith, e)
  no_third (suc zero) l e = omega (arith, e)
  no_third (suc (suc n)) l e = cc l

  pub types : AreTypes old facts hierarchy new places
  types = record {
    nodes = node_types;
    holders = λ c h. subst (λ x. IsHolderType old facts hierarchy new places x) (is_second c h) main_holder;
    makers = λ m e. absurd (cc (sym no_makers ∙ e));
    nodes_once = λ n m ln lm e. cc e;
    holders_once = λ c d hc hd e. sym (is_second c hc) ∙ is_second d hd;
    apart = λ n c l h. no_third n l;
    makers_no_node = λ n l h. absurd (no_makers_there h);
    makers_no_holder = λ c d h. absurd (no_makers_there h);
    all = all_types;
  }

  abbrev Stands : ColumnItem → ℕ → Type 0
  Stands i n = StandsAt old facts hierarchy new places i n

  -- where the columns stand
  field_stands : Stands (column.Fld 0) 1
  field_stands = record { number = 0; numbered = column_f; place = node 1; placed = refl; at = refl }

  declaration_stands : Stands (column.Dcl 0) 0
  declaration_stands = record { number = 1; numbered = column_m; place = node 0; placed = refl; at = refl }

  body_stands : Stands (column.Def 0) 1
  body_stands = record { number = 2; numbered = column_body; place = node 1; placed = refl; at = refl }

  stands_alone : (c k n : ℕ) → place_of_column hierarchy c ≡ Some (node k) → (i : ColumnItem) → (numbers old).column i ≡ Some c → Stands i n → k ≡ n
  stands_alone c k n at i is s = cc (sym at ∙ ap (place_of_column hierarchy) (cc (sym is ∙ s.numbered)) ∙ s.placed, s.at)

  new_field : IsField old facts hierarchy new places 0 (the_field 2)
  new_field = record {
    old = the_field 1;
    old_stands = refl;
    at = record { node = 1; stands = field_stands; instance = refl; owner_is = refl };
    name = name_f;
    type = type_f;
  }

  new_body : IsBody old facts hierarchy new places 0
      (method 2 (Some (st_then (return (place 0) (Some (field (place 0) (this (place 0)) (codes "f")))) no_st)))
  new_body = record {
    old = method 1 (Some (st_then (return (place 22) (Some (own_field (place 24) 0))) no_st));
    old_stands = refl;
    at = record { node = 1; stands = body_stands; instance = refl; owner_is = refl };
    name = name_m;
    types = record { params = refl; result = result_m };
    code = record {
      code = st_then (return (place 22) (Some (own_field (place 24) 0))) no_st;
      written = st_then (return (place 0) (Some (field (place 0) (this (place 0)) (codes "f")))) no_st;
      old_code = refl;
      new_code = refl;
      locals = refl;
      matches = pair_st_then (pair_return (pair_some (own_matches (codes "f") name_f))) pair_no_st;
    };
  }

  new_of_slot : IsOfSlot old facts hierarchy new places 0 0 (method 1 None)
  new_of_slot = record {
    was = record {
      old = method 1 (Some (st_then (return (place 22) (Some (own_field (place 24) 0))) no_st));
      old_stands = refl;
      slot = 0;
      of_slot = refl;
      signature = slot;
      slot_stands = refl;
    };
    instance = refl;
    owner = refl;
    name = name_m;
    types = record { params = refl; result = result_m };
  }

  new_head : IsHead old facts hierarchy new places 0 0 (method 1 None)
  new_head = record { of = new_of_slot; stands = declaration_stands; headed = refl; bodyless = refl }

  pub main_same : IsStaticMethod old new (renaming_of old hierarchy places) 1 2
  unfolding renaming_of
  main_same = record {
    old = main 2 1 (main_code 1);
    new = main 3 1 (main_code 2);
    old_stands = refl;
    new_stands = refl;
    old_static = refl;
    new_static = refl;
    owner = refl;
    name = refl;
  }

  main_matches : MatchesSts old new (renaming_of old hierarchy places) (env_of 1 (main 2 1 (main_code 1))) (main_code 1) (main_code 2)
  main_matches =
      pair_st_then (pair_declare (pair_some (m_create refl made_row m_no_ex)))
      (pair_st_then (pair_act (call_matches (codes "m") name_m)) pair_no_st)

  new_main : IsStaticMethodOf old facts hierarchy new places 1 2
  unfolding main_same
  new_main = record {
    same = main_same;
    types = main_types;
    code = record { code = main_code 1; written = main_code 2; old_code = refl; new_code = refl; locals = main_locals; matches = main_matches };
  }

  -- the members, one by one
  abbrev IsMember : PlainMethod → Type 0
  IsMember k = ((m : ℕ) × IsBody old facts hierarchy new places m k)
      ⊎ ((n : ℕ) × (m : ℕ) × (IsHead old facts hierarchy new places n m k ⊎ IsFiller old facts hierarchy new places n m k))

  each_instance : (g : ℕ) (k : PlainMethod) → slice_get new.methods g ≡ Some k → k.is_static ≡ false → IsMember k
  each_instance zero k e i = subst IsMember (cc e) (inr (0, 0, inl new_head))
  each_instance (suc zero) k e i = subst IsMember (cc e) (inl (0, new_body))
  each_instance (suc (suc zero)) k e i = absurd (cc (ap (λ o. option_map_or (λ (m : PlainMethod). m.is_static) o false) e ∙ i))
  each_instance (suc (suc (suc g))) k e i = absurd (cc e)

  fields_are : (g : ℕ) (k : PlainField) → slice_get new.fields g ≡ Some k → k.is_static ≡ false → (f : ℕ) × IsField old facts hierarchy new places f k
  fields_are zero k e i = (0, subst (λ x. IsField old facts hierarchy new places 0 x) (cc e) new_field)
  fields_are (suc g) k e i = absurd (cc e)

  field_is : (f n : ℕ) → Stands (column.Fld f) n → (g : ℕ) × (k : PlainField) × (slice_get new.fields g ≡ Some k)
      × IsField old facts hierarchy new places f k
  field_is zero n s = (0, the_field 2, refl, new_field)
  field_is (suc f) n s = absurd (cc (sym (no_field f) ∙ s.numbered))

  body_is : (m n : ℕ) → Stands (column.Def m) n → (g : ℕ) × (k : PlainMethod) × (slice_get new.methods g ≡ Some k)
      × IsBody old facts hierarchy new places m k
  body_is zero n s = (1, _, refl, new_body)
  body_is (suc m) n s = absurd (cc (sym (no_body m) ∙ s.numbered))

  head_is : (m n s : ℕ) (k : PlainMethod) → Stands (column.Dcl m) n → slice_get old.methods m ≡ Some k → k.slot ≡ Some s → is_headed facts hierarchy n s ≡ true
      → (g : ℕ) × (h : PlainMethod) × (slice_get new.methods g ≡ Some h) × (h.body ≡ None) × IsOfSlot old facts hierarchy new places n m h
  head_is zero n s k at e slot headed = (
    0,
    method 1 None,
    refl,
    refl,
    subst (λ x. IsOfSlot old facts hierarchy new places x 0 (method 1 None))
        (stands_alone 1 0 n refl (column.Dcl 0) column_m at) new_of_slot,
  )
  head_is (suc m) n s k at e slot headed = absurd (cc (sym (no_declaration m) ∙ at.numbered))

  -- no object is without its body
  pub no_filler : (n s : ℕ) → is_live hierarchy.order n ≡ true → is_filled facts hierarchy n s ≡ true → ⊥
  no_filler zero s l filled = cc filled
  no_filler (suc zero) s l filled = none (is_slot (Some 0) s) filled
    where
      none : (b : Bool) → (((b && true) || (b && true)) && not (b && true)) ≡ true → ⊥
      none true e = cc e
      none false e = cc e
  no_filler (suc (suc n)) s l filled = cc l

  pub members : AreMembers old facts hierarchy new places
  members = record {
    fields = fields_are;
    each_field = field_is;
    methods = each_instance;
    each_body = body_is;
    each_head = head_is;
    each_filler = λ m n s k l e slot filled. absurd (no_filler n s l filled);
  }

  static_methods_are : (g : ℕ) (k : PlainMethod) → slice_get new.methods g ≡ Some k → k.is_static ≡ true
      → ((m : ℕ) × IsStaticMethodOf old facts hierarchy new places m g) ⊎ IsMakeMethod old facts hierarchy new places g
  static_methods_are zero k e i = absurd (cc (ap (λ o. option_map_or (λ (m : PlainMethod). m.is_static) o false) e ∙ i))
  static_methods_are (suc zero) k e i = absurd (cc (ap (λ o. option_map_or (λ (m : PlainMethod). m.is_static) o false) e ∙ i))
  static_methods_are (suc (suc zero)) k e i = inl (1, new_main)
  static_methods_are (suc (suc (suc g))) k e i = absurd (cc e)

  static_method_is : (m : ℕ) (k : PlainMethod) → slice_get old.methods m ≡ Some k → k.is_static ≡ true
      → (g : ℕ) × IsStaticMethodOf old facts hierarchy new places m g
  static_method_is zero k e i = absurd (cc (ap (λ o. option_map_or (λ (m : PlainMethod). m.is_static) o false) e ∙ i))
  static_method_is (suc zero) k e i = (2, new_main)
  static_method_is (suc (suc m)) k e i = absurd (cc e)

  no_static_field : (owner f : ℕ) (k : PlainField) → slice_get (the_field owner ∷ []) f ≡ Some k → k.is_static ≡ true → ⊥
  no_static_field owner zero k e i = cc (ap (λ o. option_map_or (λ (m : PlainField). m.is_static) o false) e ∙ i)
  no_static_field owner (suc f) k e i = cc e

  pub statics : AreStatics old facts hierarchy new places
  statics = record {
    fields = λ g k e i. absurd (no_static_field 2 g k e i);
    each_field = λ f k e i. absurd (no_static_field 1 f k e i);
    methods = static_methods_are;
    each_method = static_method_is;
    each_make = λ s z. absurd (cc (sym (no_maker z.site.ty.class.0) ∙ z.has));
  }

  -- the relation holds of them
  unfoldable pub rebuilds : Rebuilds old facts hierarchy new
  rebuilds = record {
    places = places;
    types = types;
    order = ordered;
    members = members;
    statics = statics;
    main = main_same;
    makerless = no_new_maker;
  }
