-- The fields and methods of the program that a tree resolves to are formed.
use Rattle.std.proofs.Common.{◌≡◌, ℕ, zero, suc, ◌+◌, ◌<◌, ◌⊎◌, inl, inr, Bool, true, false, List, [], ◌∷◌, ◌++◌, map, length, Some, Contains, refl, sym, ap, ◌∙◌, subst, arith, ⊎_elim, ◌||◌, Option, None}
use Rattle.std.specs.Prelude.{slice_get, position, if◌then◌else◌, ◌↔◌}
use Rattle.std.specs.Str.{bytes_eq}
use Rattle.std.proofs.lemmas.Bool.{or_left, or_right, or_parts, false≢true}
use Rattle.std.proofs.lemmas.List.{length-append}
use Rattle.std.proofs.lemmas.Slice.Eq.{bytes_eq-Decides}
use Rattle.java_tree.specs.Syntax.{Expressions, Statements, DeclTree}
use Rattle.kaba_base.specs.declared.ClassId.{ClassId}
use Rattle.java_core.specs.Programs.{Plain, PlainClass, PlainField, PlainMethod, PlainLocal}
use Rattle.java_core.specs.Classes.{parent_of, own_field_of, field_of, is_field_of, is_method_of, own_method}
use Rattle.java_core.specs.Makers.{maker_name, maker_of, call_above, IsMakerOf, IsFormedMaker}
use Rattle.java_core.specs.Makers as core
use Rattle.java_core.specs.Formed.{IsFormedField, numbers_below, IsFormedLocal, IsFormedMethod, IsInSlot, HasNoTwice, IsKnownResult, variables_of, f_this, f_call, FormedExs, f_no_ex, f_act, FormedSts, f_st_then}
use Rattle.java_core.proofs.Positions.{position-map, position-passes}
use Rattle.java_core.proofs.Subclasses.{nearest_of-nearest}
use Rattle.name_rules.specs.Meanings.{local_of, is_bound, bound_names, IsNearestField}
use Rattle.name_rules.specs.Outline.{FieldAt, MethodAt, fields_in, methods_in, types_in, class_outline, field_outline, method_outline, outline, is_maker, is_static, has_word, is_public_word, is_abstract_word, is_type_name, type_meant, is_interface_of, mods_of, param_outline}
use Rattle.name_rules.specs.Resolves.{Counts, here_of, before_object, params_from, heading_of, has_arguments, maker_code, UpResolves, r_no_up, r_up, StsResolve, declares_all, BodyResolves, BodiesResolve, r_no_methods, r_method, r_no_body, r_body, r_maker, HasSlot, no_slot, a_slot, AreSlots}
use Rattle.name_laws.proofs.Sees.{same_some}
use Rattle.name_laws.proofs.Runs.{stands-beside}
use Rattle.name_laws.proofs.KnownClasses.{class_at-outline, type_names-outline}
use Rattle.name_laws.proofs.KnownMembers.{both-true, GoodMethod}
use Rattle.name_laws.proofs.SeesOutline.{fields-are}
use Rattle.name_laws.proofs.MethodClashes.{outline-method}
use Rattle.name_laws.proofs.Bridge.{Steps, P, whole, size, slots-are}
use Rattle.name_laws.proofs.Modifiers.{AreFit, maker-kind, no-static-maker}
use Rattle.name_laws.proofs.Beginnings.{BeginsBare, BeginsAbove, begins}
use Rattle.name_laws.proofs.FormedBodies.{Suits, ScopeIs, formed-all, formed-sts, good-sts, counts-each, counts-behind}
use Rattle.name_laws.proofs.FormedProgram.{within-classes, free-name, meant-type, alike-field, each-of}
use Rattle.name_laws.proofs.MembersOf.{field-in, MethodIn, method-of}
use Rattle.std.specs.Option.{is_some, option_map, option_and_then}
use Rattle.std.proofs.lemmas.List.Elements.{Contains-append_cases}
use Rattle.std.proofs.lemmas.Option.{slice_get_within}
use Rattle.kaba_base.proofs.ListLemmas.{map_at, behind, at_contains}
use Rattle.kaba_base.proofs.TestLemmas.{none_or_some}
use Rattle.java_lex.specs.Writable.{IsName}
use Rattle.java_tree.specs.declared.TypeName.{TypeName}
use Rattle.java_tree.specs.declared.Param.{Param}
use Rattle.java_core.specs.Trees.{at_place, Exs, Sts, st_then}
use Rattle.java_core.proofs.NumbersBelow.{has_below, below_has}
use Rattle.java_core.proofs.Upwards.{nearest-own}
use Rattle.java_tree.specs.Formed.{IsFormedParam, IsFormedUp, IsFormedBody}
use Rattle.name_rules.specs.Conditions.{missing, in_concrete}

pub body-at : {O : Plain} {ms : List MethodAt} {ks : List PlainMethod} → BodiesResolve O ms ks → (j : ℕ) (m : MethodAt) (k : PlainMethod)
    → slice_get ms j ≡ Some m → slice_get ks j ≡ Some k → BodyResolves O m k
body-at r_no_methods j m k e f = absurd (cc e)
body-at {O} (r_method {m = n} {k = l} b rest) zero m k e f = subst (λ z. BodyResolves O z k) (same_some e) (subst (λ z. BodyResolves O n z) (same_some f) b)
body-at (r_method b rest) (suc j) m k e f = body-at rest j m k e f

params-found : (c : ℕ) (ps : List PlainLocal) (n : List ℕ) (i : ℕ) → local_of n (params_from c ps) ≡ Some i → i < c + length ps
params-found c [] n i e = absurd (cc e)
params-found c (v ∷ ps) n i e = go (bytes_eq v.name n) refl (params-found (suc c) ps n i)
  where
    go : (b : Bool) → bytes_eq v.name n ≡ b → (local_of n (params_from (suc c) ps) ≡ Some i → i < suc c + length ps) → i < c + suc (length ps)
    go true f more = let g : c ≡ i = same_some (sym (ap (λ z. if z then Some c else local_of n (params_from (suc c) ps)) f) ∙ e) in omega (arith, g)
    go false f more = let l = more (sym (ap (λ z. if z then Some c else local_of n (params_from (suc c) ps)) f) ∙ e) in omega (arith, l)

params-bound : (c : ℕ) (ps : List PlainLocal) (j : ℕ) (v : PlainLocal) → slice_get ps j ≡ Some v → is_bound (bound_names (params_from c ps)) v.name ≡ true
params-bound c [] j v e = absurd (cc e)
params-bound c (u ∷ ps) zero v e = or_left (bytes_eq u.name v.name) (is_bound (bound_names (params_from (suc c) ps)) v.name)
    ((bytes_eq-Decides u.name v.name).1 (ap (λ z. z.name) (same_some e)))
params-bound c (u ∷ ps) (suc j) v e = or_right (bytes_eq u.name v.name) (is_bound (bound_names (params_from (suc c) ps)) v.name) (params-bound (suc c) ps j v e)

front-stands : {A : Type 0} (xs ys : List A) (j : ℕ) (v : A) → j < length xs → slice_get (xs ++ ys) j ≡ Some v → slice_get xs j ≡ Some v
front-stands [] ys j v lt e = absurd (omega (arith, lt))
front-stands (x ∷ xs) ys zero v lt e = e
front-stands (x ∷ xs) ys (suc j) v lt e = front-stands xs ys j v (omega (arith, lt)) e

pub scope-params : (K : PlainMethod) → ScopeIs K (params_from 0 K.params) (numbers_below (length K.params))
scope-params K = record {
  found = λ n i e.
      let l = params-found 0 K.params n i e in let t = length-append K.params K.locals in
      (below_has (length K.params) i (omega (arith, l)), omega (arith, l, t));
  named = λ j v c e.
      params-bound 0 K.params j v (front-stands K.params K.locals j v (has_below (length K.params) j c) e);
}

module _ (tree : List DeclTree) (s : Steps tree) where
  pub fields-same : (P tree s).fields ≡ (outline tree).fields
  fields-same = sym (fields-are tree s.known s.are s.rows s.above s.draft s.members)

  -- ---- fields

  field-at : (f : ℕ) (k : PlainField) → slice_get (P tree s).fields f ≡ Some k → (x : FieldAt) × (slice_get (fields_in tree) f ≡ Some x)
      × (field_outline (types_in tree) x ≡ k)
  field-at f k e = map_at (field_outline (types_in tree)) (fields_in tree) f k (ap (λ z. slice_get z f) (sym s.members.fields) ∙ e)

  pub formed-field : (f : ℕ) (k : PlainField) → slice_get (P tree s).fields f ≡ Some k → IsFormedField (P tree s) k
  formed-field f k e =
      let a = field-at f k e in
      let g = s.members.good_field f a.0 a.1 in
      let at = field-in 1 tree s.formed f a.0 a.1 in
      let own : a.0.owner ≡ suc at.index = let o = at.owned in omega (arith, o) in
      subst (IsFormedField (P tree s)) a.2 (record {
        name = free-name tree s a.0.name at.is.name g.free;
        type = meant-type tree s a.0.type g.type g.means;
        no_object = λ z. omega (arith, z, own);
        holder = class_outline (types_in tree) at.decl;
        stands = ap (slice_get (P tree s).classes) own ∙ class_at-outline tree at.index at.decl at.stands;
        class = at.is.class;
      })

  pub formed-field_names : (f g : ℕ) (h k : PlainField) → slice_get (P tree s).fields f ≡ Some h → slice_get (P tree s).fields g ≡ Some k → h.owner ≡ k.owner
      → h.name ≡ k.name → f ≡ g
  formed-field_names f g h k e d o same =
      let a = field-at f h e in let b = field-at g k d in
      s.members.field_once f g a.0 b.0 a.1 b.1 (ap (λ z. z.owner) a.2 ∙ o ∙ sym (ap (λ z. z.owner) b.2)) (ap (λ z. z.name) a.2 ∙ same
      ∙ sym (ap (λ z. z.name) b.2))

  -- ---- methods

  pub method-seen : (i : ℕ) (K : PlainMethod) → slice_get s.methods i ≡ Some K → (x : MethodAt) × (slice_get (methods_in tree) i ≡ Some x)
      × (heading_of K ≡ method_outline (types_in tree) x)
  method-seen i K e = let w = whole tree s i K e in (w.1, w.3, w.4)

  nearest-name : (c : ℕ) (x : List ℕ) (f : ℕ) (k : PlainField) → IsNearestField (outline tree) c x f k → k.name ≡ x
  unfolding field_of
  nearest-name c x f k h =
      let a = nearest-own (outline tree) (λ z. own_field_of (outline tree) z x)
      (nearest_of-nearest (outline tree) (λ z. own_field_of (outline tree) z x) {a = c} {d = f} h.nearest) in
      let b = position-passes (λ z. is_field_of a.0 x z) (outline tree).fields f a.1 in
      ap (λ z. z.name) (same_some (sym h.stands ∙ b.1)) ∙ (both-true b.0.owner a.0 b.0.name x b.2).1

  field-there : (f : ℕ) (x : PlainField) → slice_get (outline tree).fields f ≡ Some x → slice_get (P tree s).fields f ≡ Some x
  field-there f x e = ap (λ z. slice_get z f) fields-same ∙ e

  pub suits-as : (i : ℕ) (K : PlainMethod) (x : MethodAt) → slice_get s.methods i ≡ Some K → heading_of K ≡ method_outline (types_in tree) x
      → (b : Bool) → (b ≡ false → K.is_static ≡ false) → Suits (outline tree) (record { owner = x.owner; is_static = b }) (P tree s) K
  suits-as i K x e h b instance = record {
    classes = within-classes tree s;
    static_field = λ f y at st. record { member = y; stands = field-there f y at; kind = st };
    own = λ z f y near st. record {
      member = y;
      stands = field-there f y near.stands;
      kind = st;
      nearest = alike-field (P tree s) (outline tree) refl fields-same K.owner y.name
          ∙ ap (λ o. field_of (outline tree) o y.name) (ap (λ o. o.owner) h) ∙ ap (field_of (outline tree) x.owner) (nearest-name x.owner z f y near)
          ∙ near.nearest;
    };
    static_method = λ l y at st.
        let a = outline-method tree l y at in
        let d = stands-beside (methods_in tree) s.methods (size tree s) l a.0 a.1 in
        let c = method-seen l d.0 d.1 in
        record {
          member = d.0;
          stands = d.1;
          kind = ap (λ z. z.is_static) (c.2 ∙ ap (method_outline (types_in tree)) (same_some (sym c.1 ∙ a.1)) ∙ a.2) ∙ st;
        };
    static = instance;
  }

  pub suits : (i : ℕ) (K : PlainMethod) (x : MethodAt) → slice_get s.methods i ≡ Some K → heading_of K ≡ method_outline (types_in tree) x
      → Suits (outline tree) (here_of x) (P tree s) K
  suits i K x e h = suits-as i K x e h (is_static x) (λ f. ap (λ z. z.is_static) h ∙ f)

  -- a class has a constructor in the program where it has one in the outline
  own-alike : (c : ℕ) (n : List ℕ) → own_method (P tree s) c n ≡ own_method (outline tree) c n
  unfolding outline
  own-alike c n = sym (position-map heading_of (λ k. is_method_of c n k) s.methods) ∙ ap (position (λ k. is_method_of c n k)) s.written.heads

  pub maker-alike : (c : ℕ) → maker_of (P tree s) c ≡ maker_of (outline tree) c
  maker-alike c = go (slice_get (outline tree).classes c)
    where
      go : (o : Option PlainClass) → option_and_then (λ k. own_method (P tree s) c (maker_name k.name)) o
          ≡ option_and_then (λ k. own_method (outline tree) c (maker_name k.name)) o
      go None = refl
      go (Some k) = own-alike c (maker_name k.name)

params-seen : (types : List (List ℕ)) (qs : List Param) → map (λ v. v.name) (map (param_outline types) qs) ≡ map (λ q. q.name) qs
params-seen types [] = refl
params-seen types (q ∷ qs) = ap (λ z. q.name ∷ z) (params-seen types qs)

module _ (tree : List DeclTree) (s : Steps tree) (i : ℕ) (K : PlainMethod) (e : slice_get s.methods i ≡ Some K) (x : MethodAt)
    (at : slice_get (methods_in tree) i ≡ Some x) (h : heading_of K ≡ method_outline (types_in tree) x) where
  good : GoodMethod tree s.known s.are x
  good = s.members.good i x at

  stands : MethodIn 1 tree x
  stands = method-of tree s.formed i x at

  body : BodyResolves (outline tree) x K
  body = body-at s.written.bodies i x K at e

  own : K.owner ≡ suc stands.index
  own = let o = stands.owned in let a = ap (λ z. z.owner) h in omega (arith, o, a)

  -- parameters
  param-good : (v : PlainLocal) → Contains K.params v → IsFormedLocal (P tree s) v
  param-good v c =
      let a = at_contains K.params v c in
      let d = map_at (param_outline (types_in tree)) x.head.params a.0 v (ap (λ z. slice_get z a.0) (sym (ap (λ z. z.params) h)) ∙ a.1) in
      let g = good.params.means a.0 d.0 d.1 in
      subst (IsFormedLocal (P tree s)) d.2 (record {
        name = free-name tree s d.0.name
            (each-of IsFormedParam x.head.params a.0 d.0 stands.is.params d.1).1 (good.params.free a.0 d.0 d.1);
        type = meant-type tree s d.0.ty g.0 g.1;
      })

  -- locals
  local-good : (v : PlainLocal) → Contains K.locals v → IsFormedLocal (P tree s) v
  local-good v c = go body
    where
      a : (j : ℕ) × (slice_get K.locals j ≡ Some v)
      a = at_contains K.locals v c

      of-sts : {ss : Statements} {xs : Sts} → x.body ≡ Some ss
          → StsResolve (outline tree) (here_of x) K false (params_from 0 K.params) ss xs
          → Counts (length K.params) (declares_all xs) (length (variables_of K)) → IsFormedLocal (P tree s) v
      of-sts p r counts =
          let lt = slice_get_within K.locals a.0 v a.1 in
          let size = length-append K.params K.locals in
          let l = counts-each (outline tree) (here_of x) (P tree s) K (suits tree s i K x e h) counts
          (good-sts (outline tree) (here_of x) (P tree s) K (suits tree s i K x e h) r (subst IsFormedBody p stands.is.body))
          (length K.params + a.0) (omega arith) (omega (arith, lt, size)) in
          let same : l.local ≡ v = same_some (sym l.stands ∙ behind K.params K.locals a.0 ∙ a.1) in
          subst (IsFormedLocal (P tree s)) same (record {
            name = free-name tree s l.local.name l.name
                (ap (λ z. is_type_name z l.local.name) (sym (type_names-outline tree)) ∙ l.no_type);
            type = l.type;
          })

      go : BodyResolves (outline tree) x K → IsFormedLocal (P tree s) v
      go (r_no_body p q r) = absurd (none_or_some (slice_get K.locals a.0) _ (ap (λ z. slice_get z a.0) r) a.1)
      go (r_body k p q r counts) = of-sts p r counts
      go (r_maker k p q u r counts) = of-sts p r counts

  bodyless : K.body ≡ None → x.body ≡ None
  bodyless f = go body
    where
      go : BodyResolves (outline tree) x K → x.body ≡ None
      go (r_no_body p q r) = p
      go (r_body k p q r c) = absurd (cc (sym q ∙ f))
      go (r_maker k p q u r c) = absurd (cc (sym q ∙ f))

  no-body : x.body ≡ None → K.body ≡ None
  no-body f = go body
    where
      go : BodyResolves (outline tree) x K → K.body ≡ None
      go (r_no_body p q r) = q
      go (r_body k p q r c) = absurd (none_or_some x.body _ f p)
      go (r_maker k p q u r c) = absurd (none_or_some x.body _ f p)

  static-is : is_static x ≡ K.is_static
  static-is = sym (ap (λ z. z.is_static) h)

  in-interface : is_interface_of stands.decl ≡ true → (K.is_static ≡ false) × (K.body ≡ None)
  in-interface f = let g = stands.is.in_interface f in (sym static-is ∙ good.head g.0, no-body g.1)

  no-maker : K.body ≡ None → is_maker x ≡ false
  no-maker f = go (is_maker x) refl
    where
      go : (b : Bool) → is_maker x ≡ b → b ≡ false
      go false p = refl
      go true p = absurd (let m = stands.is.maker p in none_or_some x.body m.1.0 (bodyless f) m.1.1)

  without-body : K.body ≡ None → (K.is_static ≡ false)
      × (is_interface_of stands.decl || has_word is_abstract_word (mods_of stands.decl) ≡ true)
  without-body f = go (is_interface_of stands.decl) refl (has_word is_abstract_word x.head.mods) refl x.in_abstract refl
    where
      go : (b : Bool) → is_interface_of stands.decl ≡ b → (c : Bool) → has_word is_abstract_word x.head.mods ≡ c → (d : Bool) → x.in_abstract ≡ d
          → (K.is_static ≡ false) × (is_interface_of stands.decl || has_word is_abstract_word (mods_of stands.decl) ≡ true)
      go true p c q d r = ((in-interface p).0, or_left (is_interface_of stands.decl) (has_word is_abstract_word (mods_of stands.decl)) p)
      go false p false q d r = absurd (good.body (missing (stands.is.in_class p (no-maker f)).0 q (bodyless f)))
      go false p true q false r = absurd (good.body (in_concrete (no-maker f) q r))
      go false p true q true r = (
        sym static-is ∙ good.no_static q,
        or_right (is_interface_of stands.decl)
            (has_word is_abstract_word (mods_of stands.decl)) (sym (stands.is.in_class p (no-maker f)).1 ∙ r),
      )

  -- ---- constructors

  maker-static : is_maker x ≡ true → K.is_static ≡ false
  maker-static k = sym static-is ∙ no-static-maker x.head.mods (subst (λ z. AreFit z x.head.mods) (maker-kind x.kind k) good.fit)

  -- a constructor is that of its class
  maker-is : is_maker x ≡ true → IsMakerOf (P tree s) K
  maker-is k =
      let m = good.maker k in
      record {
        class = class_outline (types_in tree) m.decl;
        stands = ap (slice_get (P tree s).classes) (ap (λ z. z.owner) h ∙ m.owned) ∙ class_at-outline tree m.index m.decl m.stands;
        name = ap (λ z. z.name) h ∙ m.name;
      }

  -- the class of the method
  class-of : (c : PlainClass) → slice_get (P tree s).classes K.owner ≡ Some c → (b : ClassId) → c.parent ≡ Some b → parent_of (outline tree) x.owner ≡ Some b
  class-of c there b up =
      ap (λ z. option_and_then (λ k. k.parent) (slice_get (outline tree).classes z)) (sym (ap (λ z. z.owner) h))
      ∙ ap (option_and_then (λ k. k.parent)) there ∙ up

  parent-of : (c : PlainClass) → slice_get (P tree s).classes K.owner ≡ Some c → (b : ClassId) → parent_of (outline tree) x.owner ≡ Some b → c.parent ≡ Some b
  parent-of c there b up =
      sym (ap (option_and_then (λ k. k.parent)) there)
      ∙ ap (λ z. option_and_then (λ k. k.parent) (slice_get (outline tree).classes z)) (ap (λ z. z.owner) h) ∙ up

  arguments : is_maker x ≡ true → (up : Option Expressions) → x.up ≡ up → (es : Exs) → UpResolves (outline tree) x (params_from 0 K.params) up es
      → FormedExs (P tree s) K (numbers_below (length K.params)) es
  arguments k None f es r_no_up = f_no_ex
  arguments k (Some us) f es (r_up r) =
      formed-all (outline tree) (before_object x) (P tree s) K (suits-as tree s i K x e h true (λ z. absurd (false≢true (sym z)))) (params_from 0 K.params)
      (numbers_below (length K.params)) (scope-params K) r (subst IsFormedUp f stands.is.up)

  maker-formed : is_maker x ≡ true → (es : Exs) (ys : Sts) → UpResolves (outline tree) x (params_from 0 K.params) x.up es
      → FormedSts (P tree s) K false (numbers_below (length K.params)) ys
      → FormedSts (P tree s) K false (numbers_below (length K.params)) (maker_code (outline tree) x es ys)
  maker-formed k es ys up more = go (begins (outline tree) x (has_arguments es))
    where
      go : BeginsBare (outline tree) x (has_arguments es) ⊎ BeginsAbove (outline tree) x (has_arguments es)
          → FormedSts (P tree s) K false (numbers_below (length K.params)) (maker_code (outline tree) x es ys)
      go (inl b) = subst (FormedSts (P tree s) K false (numbers_below (length K.params))) (sym (b.is es ys refl)) more
      go (inr b) =
          let m = maker-is k in
          subst (FormedSts (P tree s) K false (numbers_below (length K.params))) (sym (b.is es ys refl))
          (f_st_then (f_act refl (f_call (f_this (maker-static k)) (inr (record {
            of = m;
            above = b.above;
            parent = parent-of m.class m.stands b.above b.parent;
            class = b.class;
            stands = b.stands;
            name = refl;
          })) (arguments k x.up refl es up))) more)

  code : (xs : Sts) → K.body ≡ Some xs → FormedSts (P tree s) K false (numbers_below (length K.params)) xs
  code xs f = go body
    where
      of-sts : {ss : Statements} {ys : Sts} → x.body ≡ Some ss
          → StsResolve (outline tree) (here_of x) K false (params_from 0 K.params) ss ys
          → Counts (length K.params) (declares_all ys) (length (variables_of K)) → FormedSts (P tree s) K false (numbers_below (length K.params)) ys
      of-sts p r counts =
          formed-sts (outline tree) (here_of x) (P tree s) K (suits tree s i K x e h) r (scope-params K)
          (subst IsFormedBody p stands.is.body) (counts-behind (length K.params) counts (omega arith))

      go : BodyResolves (outline tree) x K → FormedSts (P tree s) K false (numbers_below (length K.params)) xs
      go (r_no_body p q r) = absurd (none_or_some K.body _ q f)
      go (r_body k p q r counts) = subst (FormedSts (P tree s) K false (numbers_below (length K.params))) (same_some (sym q ∙ f)) (of-sts p r counts)
      go (r_maker {es = es} {xs = ys} k p q u r counts) =
          subst (FormedSts (P tree s) K false (numbers_below (length K.params))) (same_some (sym q ∙ f)) (maker-formed k es ys u (of-sts p r counts))

  -- a constructor is an instance method without result, and begins as it must
  pub formed-maker : is_maker x ≡ true → (c : PlainClass) → slice_get (P tree s).classes K.owner ≡ Some c → IsFormedMaker (P tree s) c K
  formed-maker k c there = go body
    where
      go : BodyResolves (outline tree) x K → IsFormedMaker (P tree s) c K
      go (r_no_body p q r) = absurd (let m = stands.is.maker k in none_or_some x.body m.1.0 p m.1.1)
      go (r_body plain p q r counts) = absurd (false≢true (sym plain ∙ k))
      go (r_maker {es = es} {xs = ys} maker p q u r counts) = record {
        instance = maker-static k;
        public = ap (λ z. z.is_public) h ∙ ap (λ z. z || has_word is_public_word x.head.mods) k;
        result = ap (λ z. z.result) h ∙ ap (option_map (type_meant (types_in tree))) (stands.is.maker k).0;
        code = maker_code (outline tree) x es ys;
        has_body = q;
        begins = λ b d up above has. under b d up above (sym (ap is_some (maker-alike tree s b.0)) ∙ has) (begins (outline tree) x (has_arguments es));
      }
        where
          under : (b : ClassId) (d : PlainClass) → c.parent ≡ Some b → slice_get (P tree s).classes b.0 ≡ Some d
              → is_some (maker_of (outline tree) b.0) ≡ true
              → BeginsBare (outline tree) x (has_arguments es) ⊎ BeginsAbove (outline tree) x (has_arguments es)
              → core.BeginsAbove d.name (maker_code (outline tree) x es ys)
          under b d up above has (inl g) =
              absurd (false≢true (sym (or_parts (is_some (maker_of (outline tree) b.0)) (has_arguments es) (g.none b d (class-of c there b up) above)).0 ∙ has))
          under b d up above has (inr g) =
              let same : g.above ≡ b = same_some (sym g.parent ∙ class-of c there b up) in
              let class : g.class ≡ d = same_some (sym g.stands ∙ ap (λ z. slice_get (outline tree).classes z.0) same ∙ above) in
              subst (core.BeginsAbove d.name) (sym (g.is es ys refl))
              (subst (λ (z : PlainClass). core.BeginsAbove z.name (st_then (call_above (at_place x.head.place) g.class.name es) ys)) class core.begins)

  result : IsKnownResult (P tree s) K.result
  result = subst (IsKnownResult (P tree s)) (sym (ap (λ z. z.result) h)) (go x.head.type refl)
    where
      go : (o : Option TypeName) → x.head.type ≡ o → IsKnownResult (P tree s) (option_map (type_meant (types_in tree)) o)
      go None f = tt
      go (Some u) f = let g = good.result u f in meant-type tree s u g.0 g.1

  are-slots : AreSlots (P tree s)
  are-slots = slots-are tree s

  slotted : K.is_static ≡ false → (n : ℕ) × (K.slot ≡ Some n)
  slotted f = go (are-slots.each i K e)
    where
      go : HasSlot (P tree s) K → (n : ℕ) × (K.slot ≡ Some n)
      go (no_slot a b) = absurd (false≢true (sym f ∙ a))
      go (a_slot {s = n} a b c d) = (n, b)

  slot-in : (n : ℕ) → K.slot ≡ Some n ↔ IsInSlot (P tree s) n K
  slot-in n = (λ f. to f (are-slots.each i K e), λ f. from f (are-slots.each i K e))
    where
      to : K.slot ≡ Some n → HasSlot (P tree s) K → IsInSlot (P tree s) n K
      to f (no_slot a b) = absurd (none_or_some K.slot _ b f)
      to f (a_slot {s = r} {slot = slot} a b c d) =
          let stands = subst (λ z. slice_get s.draft.slots z ≡ Some slot) (same_some (sym b ∙ f)) c in
          record { slot = slot; stands = stands; instance = a; name = d.name; params = d.params; result = d.result }

      from : IsInSlot (P tree s) n K → HasSlot (P tree s) K → K.slot ≡ Some n
      from f (no_slot a b) = absurd (false≢true (sym f.instance ∙ a))
      from f (a_slot {s = r} {slot = slot} a b c d) =
          b ∙ ap Some (are-slots.apart r n slot f.slot c f.stands (sym d.name ∙ f.name) (sym d.params ∙ f.params)
          (sym d.result ∙ f.result))

  pub formed-method : IsFormedMethod (P tree s) K
  unfolding HasNoTwice
  formed-method = record {
    name = named (is_maker x) refl;
    variables = λ v c. ⊎_elim (λ a. param-good v a) (λ a. local-good v a) (Contains-append_cases K.params K.locals v c);
    params = subst HasNoTwice (sym (ap (map (λ v. v.name)) (ap (λ z. z.params) h)
        ∙ params-seen (types_in tree) x.head.params)) good.params.once;
    result = result;
    no_object = λ z. let o = own in omega (arith, z, o);
    holder = class_outline (types_in tree) stands.decl;
    stands = ap (slice_get (P tree s).classes) own ∙ class_at-outline tree stands.index stands.decl stands.stands;
    in_interface = in-interface;
    bodyless = without-body;
    code = code;
    slotted = slotted;
    slots = slot-in;
  }
    where
      named : (b : Bool) → is_maker x ≡ b → IsName K.name ⊎ IsMakerOf (P tree s) K
      named true k = inr (maker-is k)
      named false k = inl (subst (λ z. IsName z.name) (sym h) (stands.is.name k))
