-- No condition holds in a body of the written tree.
use Rattle.std.proofs.Common.{◌≡◌, ℕ, zero, suc, true, false, List, [], Option, Some, None, Contains, refl, sym, ap, ◌∙◌, subst, ◌∷◌, ◌++◌, ◌≢◌, arith, ⊎_elim}
use Rattle.std.specs.Prelude.{map, slice_get, length}
use Rattle.std.specs.Option.{option_map, option_map_or}
use Rattle.std.proofs.lemmas.Bool.{false≢true, or_from, cases_Bool}
use Rattle.std.proofs.lemmas.Option.{same_Some}
use Rattle.java_tree.specs.declared.Param.{Param}
use Rattle.java_tree.specs.Syntax.{Statements, NameRef, CallOn, NewOf, no_more, MemberTree}
use Rattle.java_core.specs.declared.Ty.{Ty}
use Rattle.java_core.specs.declared.TyBase.{TyBase}
use Rattle.java_core.specs.declared.TyBase.TheVariants.{Int, Boolean, Char, Str, Class}
use Rattle.java_core.specs.Programs.{Plain, PlainClass, PlainMethod, PlainLocal}
use Rattle.java_core.specs.Trees.{Sts}
use Rattle.java_core.specs.Formed.{numbers_below}
use Rattle.fact_model.specs.declared.facts.Facts.{Facts}
use Rattle.fact_model.specs.declared.sets.PointsTo.{PointsTo}
use Rattle.hier_model.specs.Hierarchies.{Hierarchy}
use Rattle.flow_rules.proofs.Listed.{contains_at, first, more, at_contains, map_has, map_from, each_has}
use Rattle.name_rules.specs.declared.parts.Here.{Here}
use Rattle.name_rules.specs.declared.Refusal.{Refusal}
use Rattle.name_rules.specs.Outline.{MethodAt, methods_in, outline, is_type_name, types_in}
use Rattle.name_rules.specs.Meanings.{class_named, is_bound}
use Rattle.name_rules.specs.Resolves.{here_of}
use Rattle.name_rules.specs.Conditions.{StsFault, FaultIn, in_statement, in_rest, in_returned, in_value, no_type_of_cast, in_cast, no_such_cast, FaultInOne, FaultInValue, in_first, in_later, no_class_of_new, in_new_arguments, in_call}
use Rattle.write_model.specs.Names.{class_name, nowhere, id, makers_local, row_name}
use Rattle.write_model.specs.Bodies.{written_sts}
use Rattle.write_model.specs.Members.{parameters, filling, value_of_none, param, passed, object_type, make_body}
use Rattle.write_laws.proofs.rebuilds.Nodes.{tree, old_tree}
use Rattle.write_laws.specs.names.Stages.{IsStage}
use Rattle.write_laws.proofs.names.Origins.{R, HasMethod, node_body, node_head, node_filler, interface_head, static_method, method_origin, IsMakersAt, as_make, make_method}
use Rattle.write_laws.specs.names.Laws.{IsNamedProgram}
use Rattle.write_laws.proofs.names.Modifiers.{body_there}
use Rattle.write_laws.proofs.names.Supers.{types_are, named}
use Rattle.write_laws.proofs.names.Variables.{local_free, made_free, each_at}
use Rattle.write_laws.proofs.names.Scopes.{IsScope}
use Rattle.write_laws.proofs.names.Bodies.{sts_ok}
use Rattle.write_laws.proofs.names.Forms.{body_known}
use Rattle.write_laws.proofs.names.Starts.{start}
use Rattle.write_laws.proofs.names.Holders.{finds_field, finds_method, holder_met, finds_make}
use Rattle.std.specs.Str.{bytes_eq}
use Rattle.std.proofs.lemmas.Slice.Eq.{bytes_eq-Decides}
use Rattle.std.proofs.lemmas.List.Elements.{Contains-append_left, Contains-append_right}
use Rattle.std.proofs.lemmas.Map.Keys.{any_passes_from_place}
use Rattle.java_tree.specs.declared.TypeName.{TypeName}
use Rattle.java_core.specs.Types.{class_type}
use Rattle.flow_rules.specs.declared.items.RowItem.TheVariants as row
use Rattle.flow_rules.specs.Facts.{PlainMakers}
use Rattle.rebuild_model.specs.Renaming.{make_name, renaming_of}
use Rattle.write_laws.proofs.rebuilds.Members.{IsMakeTree}
use Rattle.write_laws.proofs.rebuilds.Fixed.{local_no_word, variable_word}
use Rattle.write_laws.proofs.names.Named.{row_known, type_known}
use Rattle.write_laws.proofs.names.Faults.{bound_no_class, variable_fault, call_fault, local_fault}
use Rattle.write_laws.specs.names.Known.{IsKnownType}
use Rattle.write_laws.proofs.bodies.SiteRows.{site_row}

-- what fills in for a body names nothing
value_sound : (O : Plain) (here : Here) (names : List (List ℕ)) (b : TyBase) (d : ℕ) (r : Refusal) → FaultIn O here names (value_of_none b d) r → ⊥
value_sound O here names Int zero r x = elim x [ ]
value_sound O here names Int (suc d) r x = elim x [ ]
value_sound O here names Boolean zero r x = elim x [ ]
value_sound O here names Boolean (suc d) r x = elim x [ ]
value_sound O here names Char zero r (no_type_of_cast (no_such_cast e none)) = absurd (cc e)
value_sound O here names Char zero r (in_cast x) = elim x [ ]
value_sound O here names Char (suc d) r x = elim x [ ]
value_sound O here names Str d r x = elim x [ ]
value_sound O here names (Class c) d r x = elim x [ ]

filling_sound : (O : Plain) (here : Here) (names : List (List ℕ)) (o : Option Ty) (r : Refusal) → StsFault O here false names (filling o) r → ⊥
filling_sound O here names None r x = elim x [ ]
filling_sound O here names (Some t) r (in_statement (in_returned (in_value x))) = value_sound O here names t.base t.dim r x
filling_sound O here names (Some t) r (in_rest x) = elim x [ ]

module _ {P : Plain} {F : Facts} {pt : PointsTo} {H : Hierarchy} (G : IsNamedProgram P F pt H) where
  abbrev O : Plain
  O = outline (tree P F H)

  stage : (m : ℕ) (k : PlainMethod) → slice_get P.methods m ≡ Some k → (here : Here) → here.is_static ≡ k.is_static
      → (k.is_static ≡ true → class_named O (class_name P k.owner) ≡ Some here.owner) → IsStage P k O here
  stage m k at here static own = record {
    static = static;
    fields = finds_field G m k at here own;
    methods = finds_method G m k at here own;
    makes = finds_make G m k at here own;
    met = holder_met G m k at here own;
    variables = λ i v e. ap (λ z. is_type_name z v.name) (types_are G) ∙ local_free G m k v at (contains_at _ i v e);
  }

  called : (n : ℕ) → (R P F H).make_name n ≡ make_name P n
  unfolding renaming_of
  called n = refl

  code_sound : (m : ℕ) (k : PlainMethod) (xs : Sts) (here : Here) (r : Refusal) → slice_get P.methods m ≡ Some k → k.body ≡ Some xs
      → here.is_static ≡ k.is_static
      → (k.is_static ≡ true → class_named O (class_name P k.owner) ≡ Some here.owner) → (names : List (List ℕ))
      → IsScope k (numbers_below (length k.params)) (parameters 0 k.params) names
      → StsFault O here false names (written_sts P (R P F H) H m k (parameters 0 k.params) xs) r → ⊥
  code_sound m k xs here r e b static own names scope x =
      let f = (G.formed.methods m k e).code xs b in
      let known = body_known G m k e xs b f in
      sts_ok P (R P F H) H m k O here (stage m k e here static own) called scope f known r x

  body_sound : (m : ℕ) (k : PlainMethod) (here : Here) (ss : Statements) (r : Refusal) → slice_get P.methods m ≡ Some k → here.is_static ≡ k.is_static
      → (k.is_static ≡ true → class_named O (class_name P k.owner) ≡ Some here.owner) → (names : List (List ℕ))
      → IsScope k (numbers_below (length k.params)) (parameters 0 k.params) names
      → option_map (written_sts P (R P F H) H m k (parameters 0 k.params)) k.body ≡ Some ss → StsFault O here false names ss r → ⊥
  body_sound m k here ss r e static own names scope b x = go k.body refl b
    where
      go : (o : Option Sts) → k.body ≡ o → option_map (written_sts P (R P F H) H m k (parameters 0 k.params)) o ≡ Some ss → ⊥
      go None p q = absurd (cc q)
      go (Some xs) p q = code_sound m k xs here r e p static own names scope (subst (λ z. StsFault O here false names z r) (sym (same_Some _ ss q)) x)

  -- ---- the methods that make objects

  -- the local is none of the parameters
  local_new : (names : List (List ℕ)) (n : List ℕ) → ((x : List ℕ) → Contains names x → x ≢ n) → is_bound names n ≡ false
  local_new [] n f = refl
  local_new (x ∷ xs) n f =
      or_from (bytes_eq x n) (is_bound xs n) (⊎_elim (λ e. absurd (f x (first x xs) ((bytes_eq-Decides x n).0 e))) (λ e. e) (cases_Bool (bytes_eq x n)))
      (local_new xs n (λ y c. f y (more y x xs c)))

  bound_there : (names : List (List ℕ)) (x : List ℕ) → Contains names x → is_bound names x ≡ true
  bound_there names x c = let z = at_contains names x c in any_passes_from_place (λ v. bytes_eq v x) names z.0 x z.1 ((bytes_eq-Decides x x).1 refl)

  -- the parameters are in scope where they are passed
  passed_ok : (here : Here) (names : List (List ℕ)) (vs : List PlainLocal) → ((v : PlainLocal) → Contains vs v → is_bound names v.name ≡ true)
      → (r : Refusal) → FaultInOne O here names (passed vs) r → ⊥
  passed_ok here names [] f r x = elim x [ ]
  passed_ok here names (v ∷ vs) f r (in_first x) = variable_fault O here names v.name nowhere r (f v (first v vs)) x
  passed_ok here names (v ∷ vs) f r (in_later x) = passed_ok here names vs (λ u c. f u (more u v vs c)) r x

  made_sound : (i : ℕ) (mk : PlainMakers) (y : MemberTree) (t : IsMakeTree P (R P F H) H y) → IsMakersAt P F H i mk → (r : Refusal)
      → StsFault O (here_of (as_make P F H i y t)) false (map (λ (q : Param). q.name) (as_make P F H i y t).head.params)
      (make_body P (R P F H) H t.site.number t.site.ty.class.0 t.maker t.method) r → ⊥
  made_sound i mk y t a r z = go z
    where
      here : Here
      here = here_of (as_make P F H i y t)

      params : List (List ℕ)
      params = map (λ (q : Param). q.name) (as_make P F H i y t).head.params

      local : List ℕ
      local = makers_local P

      scope : List (List ℕ)
      scope = params ++ local ∷ []

      called_so : local ≡ mk.local
      called_so = ap (λ o. option_map_or (λ (m : PlainMakers). m.local) o []) a.has

      -- the parameters have the names of those of the constructor
      param_name : (x : List ℕ) → Contains params x → (v : PlainLocal) × Contains t.method.params v × (v.name ≡ x)
      param_name x c =
          let q = map_from (λ (q : Param). q.name) (as_make P F H i y t).head.params x c in
          let e = at_contains (as_make P F H i y t).head.params q.0 q.1 in
          let v = each_at (λ j v. param P (R P F H) H t.maker t.method j v) 0 t.method.params e.0 q.0 e.1 in
          (v.1, contains_at t.method.params e.0 v.1 v.2, ap (λ (w : Param). w.name) v.3 ∙ q.2)

      has_param : (v : PlainLocal) → Contains t.method.params v → is_bound scope v.name ≡ true
      has_param v c =
          let e = at_contains t.method.params v c in
          let q = param P (R P F H) H t.maker t.method e.0 v in
          bound_there scope v.name (Contains-append_left params (local ∷ []) v.name (map_has (λ (q : Param). q.name) (as_make P F H i y t).head.params q
          (each_has (λ j v. param P (R P F H) H t.maker t.method j v ∷ []) 0 t.method.params e.0 v q e.1 e.0 (omega arith) (first q []))))

      fresh : is_bound params local ≡ false
      fresh = local_new params local (λ x c same.
          let v = param_name x c in
          local_no_word P G.formed mk a.has v.0.name
          (variable_word P G.formed t.maker t.method v.0 t.method_stands (Contains-append_left t.method.params t.method.locals v.0 v.1))
          (sym called_so ∙ sym same ∙ sym v.2))

      there : is_bound scope local ≡ true
      there = bound_there scope local (Contains-append_right params (local ∷ []) local (first local []))

      type : TypeName
      type = object_type P (R P F H) H t.site.number t.site.ty.class.0

      known : IsKnownType O type
      known = type_known G (row.New t.site.number) (class_type t.site.ty.class.0) (λ o h. (t.site.row, site_row P t.number t.site t.stands))

      new_ok : (r : Refusal) → FaultInValue O here scope
          (Some (NewOf (id (row_name P H ((R P F H).row_type (row.New t.site.number)) t.site.ty.class.0)) no_more nowhere)) r → ⊥
      new_ok r (in_value (no_class_of_new h)) =
          row_known G (row.New t.site.number) t.site.ty.class.0 (t.site.row, site_row P t.number t.site t.stands) h
      new_ok r (in_value (in_new_arguments x)) = elim x [ ]

      call_ok : (r : Refusal) → FaultIn O here scope (CallOn (NameRef local nowhere) ((R P F H).method_name t.maker) (passed t.method.params) nowhere) r → ⊥
      call_ok r x =
          call_fault O here scope (NameRef local nowhere) ((R P F H).method_name t.maker) (passed t.method.params) nowhere r
          (bound_no_class O here scope local nowhere there) (variable_fault O here scope local nowhere r there)
          (passed_ok here scope t.method.params has_param r) x

      go : StsFault O here false params (make_body P (R P F H) H t.site.number t.site.ty.class.0 t.maker t.method) r → ⊥
      go (in_statement x) =
          local_fault O here false params type local
          (Some (NewOf (id (row_name P H ((R P F H).row_type (row.New t.site.number)) t.site.ty.class.0)) no_more nowhere)) nowhere r
          (known r) (ap (λ z. is_type_name z local) (types_are G) ∙ ap (is_type_name (types_in (tree P F H))) called_so ∙ made_free G mk a.has)
          fresh (new_ok r) x
      go (in_rest (in_statement (in_call x))) = call_ok r x
      go (in_rest (in_rest (in_statement (in_returned (in_value x))))) = variable_fault O here scope local nowhere r there x
      go (in_rest (in_rest (in_rest x))) = elim x [ ]

  sound : (x : MethodAt) → HasMethod P F H x → (ss : Statements) (r : Refusal) → x.body ≡ Some ss
      → StsFault O (here_of x) false (map (λ (q : Param). q.name) x.head.params) ss r → ⊥
  sound x (node_body n i c m k a e at o) ss r b y =
      let instance = (body_there G c m k e o).1 in
      body_sound m k (here_of x) ss r o (sym instance) (λ s. absurd (false≢true (sym instance ∙ s))) (map (λ (q : Param). q.name) x.head.params)
      (start P (R P F H) H m k) b y
  sound x (node_head n i h a t) ss r b y = absurd (cc b)
  sound x (node_filler n i s h a f t) ss r b y =
      filling_sound O (here_of x) (map (λ (q : Param). q.name) x.head.params) t.signature.result r
      (subst (λ z. StsFault O (here_of x) false (map (λ (q : Param). q.name) x.head.params) z r) (sym (same_Some _ ss b)) y)
  sound x (interface_head n i h a t) ss r b y = absurd (cc b)
  sound x (static_method c i m k old a e s o) ss r b y =
      body_sound m old (here_of x) ss r e (sym s)
      (λ st. ap (class_named O) (ap (class_name P) o ∙ ap (λ o. option_map_or (λ (k : PlainClass). k.name) o []) a.class_stands)
      ∙ named G i (old_tree P F H c k) a.stands) (map (λ (q : Param). q.name) x.head.params) (start P (R P F H) H m old) b y
  sound x (make_method i mk y t a) ss r b z =
      made_sound i mk y t a r (subst (λ w. StsFault O (here_of x) false (map (λ (q : Param). q.name) x.head.params) w r) (sym (same_Some _ ss b)) z)

  -- no condition holds in a body
  pub body_has_none : (x : MethodAt) (ss : Statements) (r : Refusal) → Contains (methods_in (tree P F H)) x → x.body ≡ Some ss
      → StsFault O (here_of x) false (map (λ (q : Param). q.name) x.head.params) ss r → ⊥
  body_has_none x ss r c b y = sound x (method_origin P F H x c) ss r b y
