-- The methods of the written program that make objects: each makes those of its site.
use Rattle.std.proofs.Common.{◌≡◌, ℕ, zero, suc, ◌+◌, true, false, List, [], ◌∷◌, Some, Contains, length, refl, sym, ap, ◌∙◌, subst, arith}
use Rattle.std.specs.Prelude.{◌&&◌, not, map, slice_get}
use Rattle.std.specs.Option.{is_some, is_none, option_map}
use Rattle.std.proofs.lemmas.Bool.{false≢true}
use Rattle.std.proofs.lemmas.List.{length-map, length-append}
use Rattle.std.proofs.lemmas.Option.{same_Some}
use Rattle.kaba_base.proofs.ListLemmas.{behind}
use Rattle.kaba_order.specs.Orders.{is_live}
use Rattle.java_tree.specs.Syntax.{NameRef}
use Rattle.java_core.specs.declared.Ty.{Ty}
use Rattle.java_core.specs.Trees.{Tag, at_place, Ex, Exs, ex_then, no_ex, local, call, create, Sts, declare, act, return, no_st, st_then}
use Rattle.java_core.specs.Programs.{Plain, PlainLocal, PlainMethod}
use Rattle.java_core.specs.Classes.{field_of}
use Rattle.java_core.specs.Types.{types_of, class_type}
use Rattle.java_core.specs.Makers.{maker_of, IsMakerOf}
use Rattle.java_core.specs.Formed.{HasNoTwice, variables_of}
use Rattle.fact_model.specs.declared.facts.Facts.{Facts}
use Rattle.fact_model.specs.declared.sets.PointsTo.{PointsTo}
use Rattle.hier_model.specs.Hierarchies.{Hierarchy, place_of_row}
use Rattle.flow_rules.specs.declared.items.RowItem.TheVariants as row
use Rattle.flow_rules.specs.declared.items.Site.{Site}
use Rattle.flow_rules.specs.Numbered.{sites_of}
use Rattle.flow_rules.specs.Facts.{PlainMakers, makers_of}
use Rattle.flow_rules.proofs.Listed.{first, one_from, map_at}
use Rattle.flow_laws.proofs.cover.Makers.{own_maker}
use Rattle.name_rules.specs.declared.parts.Bound.{Bound}
use Rattle.name_rules.specs.declared.parts.Here.{Here}
use Rattle.name_rules.specs.Outline.{MethodAt, is_maker, methods_declared, method_member, outline}
use Rattle.name_rules.specs.Meanings.{class_named, in_scope, bound_names, is_class_name}
use Rattle.name_rules.specs.Resolves.{bound, params_from, Counts, declares_all, AllResolve, r_no_more, r_and_more, r_create, r_some, StsResolve, r_declare, r_act, r_return, r_and_then, r_no_statements, BodyResolves, r_no_body, r_body, r_maker, heading_of, here_of}
use Rattle.rebuild_model.specs.Renaming.{renaming_of, make_name, retyped}
use Rattle.rebuild_model.specs.Makes.{slot_types, AreLocalsFrom, none_passed, one_passed, IsMakeCode, makes, IsMake}
use Rattle.rebuild_model.specs.Rebuilds.{IsMadeSite, IsMakeMethod}
use Rattle.write_model.specs.Names.{nowhere, makers_local, row_name}
use Rattle.write_model.specs.Members.{passed, make_head, make_body, make_member, make_members}
use Rattle.write_model.specs.Written.{java_tree}
use Rattle.write_model.proofs.NoMaker.{no_maker}
use Rattle.write_laws.proofs.bodies.Counted.{counts_one}
use Rattle.write_laws.proofs.bodies.SiteRows.{site_row}
use Rattle.write_laws.proofs.bodies.Scopes.{bound_if, kept, own_found, named, params_named, name_found, get_name}
use Rattle.write_laws.proofs.bodies.Meant.{means_is}
use Rattle.write_laws.proofs.bodies.Inverse.{at_local, at_call}
use Rattle.write_laws.proofs.bodies.Found.{row_type_is, row_node, method_name_is}
use Rattle.write_laws.proofs.names.Declared.{method_owner}
use Rattle.write_laws.proofs.rebuilds.Outlined.{method_there, method_back, member_method_from, member_method_has}
use Rattle.write_laws.proofs.rebuilds.Fixed.{IsMade, makers_there, one_make}
use Rattle.write_laws.proofs.rebuilds.Nodes.{tree, makers_tree, makers_at, makers_number}
use Rattle.write_laws.proofs.rebuilds.Members.{makes_from, makes_has}
use Rattle.write_laws.proofs.rebuilds.Retyped.{row_live, type_is}
use Rattle.write_laws.proofs.rebuilds.Given.{Given, T, R}
use Rattle.write_laws.proofs.rebuilds.Named.{named_node, node_no_text}
use Rattle.write_laws.proofs.rebuilds.Resolved.{owner_is, name_is, static_is, params_is, result_is, param_names, head_params, of_slot_params}
use Rattle.write_laws.proofs.rebuilds.Methods.{read, as_method}

only_one : (xs : List PlainLocal) (v : PlainLocal) → length xs ≡ 1 → slice_get xs 0 ≡ Some v → types_of xs ≡ v.ty ∷ []
only_one [] v e h = absurd (cc)
only_one (x ∷ []) v e h = ap (λ (z : PlainLocal). z.ty ∷ []) (same_Some x v h)
only_one (x ∷ (y ∷ ys)) v e h = absurd (omega (arith, e))

-- ---- the code

abbrev w : Tag
w = at_place nowhere

-- the statements of such a method, with their parts
abbrev code_of : ℕ → ℕ → ℕ → Ex → Ex → Sts
code_of j i b x y = st_then (declare w i (Some (create w j b no_ex))) (st_then (act w x) (st_then (return w (Some y)) no_st))

coded : (j i n b k : ℕ) (x y : Ex) (es : Exs) (name : List ℕ) → i ≡ n → b ≡ k → x ≡ call w (local w n) name es → y ≡ local w n → AreLocalsFrom zero n es
    → IsMakeCode k name n (code_of j i b x y)
coded j i n b k x y es name p q r s a =
    subst (λ z. IsMakeCode k name n (code_of j z b x y)) (sym p)
    (subst (λ z. IsMakeCode k name n (code_of j n z x y)) (sym q)
    (subst (λ z. IsMakeCode k name n (code_of j n k z y)) (sym r)
    (subst (λ z. IsMakeCode k name n (code_of j n k (call w (local w n) name es) z)) (sym s) (makes a))))

module _ (O : Plain) (here : Here) (bs : List Bound) where
  -- the parameters are passed as they are numbered
  passed_are : (j : ℕ) (vs : List PlainLocal) (es : Exs) → ((i : ℕ) (v : PlainLocal) → slice_get vs i ≡ Some v → in_scope bs v.name ≡ Some (j + i))
      → AllResolve O here bs (passed vs) es → AreLocalsFrom j (length vs) es
  passed_are j [] _ f r_no_more = none_passed
  passed_are j (v ∷ vs) _ f (r_and_more {x = x} {xs = xs} re res) =
      let at = at_local O here bs v.name nowhere j x (f 0 v refl ∙ ap Some (let z : j + 0 ≡ j = omega arith in z)) re in
      subst (λ z. AreLocalsFrom j (suc (length vs)) (ex_then z xs)) (sym at)
      (one_passed (passed_are (suc j) vs xs (λ i u e. f (suc i) u e ∙ ap Some (let z : j + suc i ≡ suc j + i = omega arith in z)) res))

  -- a variable is no class
  variable_no_class : (n : List ℕ) (i : ℕ) → in_scope bs n ≡ Some i → is_class_name O here.owner (bound_names bs) (NameRef n nowhere) ≡ false
  variable_no_class n i e = ap (λ z. not z && is_none (field_of O here.owner n)) (bound_if bs n ∙ ap is_some e)

module _ {P : Plain} {F : Facts} {pt : PointsTo} {H : Hierarchy} {V : Plain} (G : Given P F pt H V) where
  open read G use {renaming as R₀, Resolved as Rs}

  abbrev O : Plain
  O = outline (java_tree P F H)

  -- the declaration of the method for a creation n of a class c with the constructor m
  abbrev pub as_make : ℕ → ℕ → ℕ → ℕ → PlainMethod → MethodAt
  as_make i n c m k = as_method i false (make_head P R₀ H n c m k) (Some (make_body P R₀ H n c m k))

  -- a method of the new program with that code and one local
  pub record HasMakeCode (a : ℕ) (x : List ℕ) (new : PlainMethod) : Type 0 where
    pub code : Sts
    pub has : new.body ≡ Some code
    pub makes : IsMakeCode a x (length new.params) code
    pub locals : types_of new.locals ≡ class_type a ∷ []

  module _ (here : Here) (new : PlainMethod) (n c m : ℕ) (k : PlainMethod) (a : ℕ) (stands : slice_get P.methods m ≡ Some k)
      (is : R₀.row_type (row.New n) ≡ Some a) (live : is_live H.order a ≡ true) (names : map (λ v. v.name) new.params ≡ map (λ v. v.name) k.params) where
    same_length : length new.params ≡ length k.params
    same_length = sym (length-map new.params (λ v. v.name)) ∙ ap (λ z. length z) names ∙ length-map k.params (λ v. v.name)

    once : (i j : ℕ) (x : List ℕ) → slice_get (map (λ (v : PlainLocal). v.name) k.params) i ≡ Some x
        → slice_get (map (λ (v : PlainLocal). v.name) k.params) j ≡ Some x → i ≡ j
    unfolding HasNoTwice
    once = (G.formed.methods m k stands).params

    param_found : (i : ℕ) (v : PlainLocal) → slice_get k.params i ≡ Some v → in_scope (params_from 0 new.params) v.name ≡ Some i
    param_found i v e =
        ap (λ z. in_scope z v.name) (params_named 0 new.params ∙ ap (named 0) names)
        ∙ name_found 0 (map (λ v. v.name) k.params) i v.name once (get_name k.params i v e) ∙ ap Some (let z : 0 + i ≡ i = omega arith in z)

    code_made : (ys : Sts) → StsResolve O here new false (params_from 0 new.params) (make_body P R₀ H n c m k) ys
        → Counts (length new.params) (declares_all ys) (length (variables_of new)) → new.body ≡ Some ys
        → HasMakeCode ((T G).type_of a) ((R G).method_name m) new
    code_made _ (r_and_then (r_declare {i = i} d (r_some (r_create {i = j} {k = b} named r_no_more)))
        (r_and_then (r_act {x = x} called) (r_and_then (r_return (r_some {x = y} back)) r_no_statements))) counts body =
        let one = counts_one i (length new.params) (length (variables_of new)) counts in
        let params = params_from 0 new.params in
        let bs = bound params (makers_local P) i in
        let own : in_scope bs (makers_local P) ≡ Some i = own_found params (makers_local P) i d.fresh in
        let class : b ≡ (T G).type_of a = same_Some _ _ (sym named ∙ ap (λ o. class_named O (row_name P H o c)) is ∙ named_node G a live) in
        let z = at_call O here bs (NameRef (makers_local P) nowhere) (R₀.method_name m) (passed k.params) nowhere x
        (variable_no_class O here bs (makers_local P) i own) called in
        let receiver = at_local O here bs (makers_local P) nowhere i z.0 own z.2 in
        let result = at_local O here bs (makers_local P) nowhere i y own back in
        let args = passed_are O here bs 0 k.params z.1
        (λ q v e. kept params (record { name = makers_local P; number = i }) v.name q (param_found q v e)
        ∙ ap Some (let z : q ≡ 0 + q = omega arith in z)) z.3 in
        let l = length-append new.params new.locals in
        let size = one.1 in
        let type = means_is O P H (T G) (named_node G) (node_no_text G) (R₀.row_type (row.New n)) (class_type c) d.ty (λ e f. (a, is, live)) d.means
        ∙ ap (λ o. retyped (option_map (T G).type_of o) (class_type c)) is in
        record {
          code = code_of j i b x y;
          has = body;
          makes = coded j i (length new.params) b ((T G).type_of a) x y z.1 ((R G).method_name m) one.0 class
              (z.4 ∙ ap (λ v. call w v (R₀.method_name m) z.1) (receiver ∙ ap (local w) one.0)
              ∙ ap (λ x. call w (local w (length new.params)) x z.1) (method_name_is P H (T G) m))
              (result ∙ ap (local w) one.0) (subst (λ q. AreLocalsFrom zero q z.1) (sym same_length) args);
          locals = only_one new.locals _ (omega (arith, l, size))
              (sym (behind new.params new.locals 0) ∙ ap (slice_get (variables_of new)) (let q : length new.params + 0 ≡ length new.params = omega arith in q)
              ∙ ap (slice_get (variables_of new)) (sym one.0) ∙ d.stands)
              ∙ ap (λ (t : Ty). t ∷ []) type;
        }

  -- what the declaration of such a method resolves to
  pub make_is : (i g : ℕ) (mk : PlainMakers) → makers_of P ≡ Some mk → slice_get (tree P F H) i ≡ Some (makers_tree P F H mk)
      → (s : ℕ) (z : Site) (m : ℕ) (k : PlainMethod) → slice_get (sites_of P) s ≡ Some z → maker_of P z.ty.class.0 ≡ Some m → slice_get P.methods m ≡ Some k
      → (r : Rs (as_make i z.number z.ty.class.0 m k) g) → IsMake P V (R G) z.number m g
  unfolding renaming_of
  make_is i g mk me at s z m k e has stands r =
      let c = z.ty.class.0 in
      let n = z.number in
      let x : MethodAt = as_make i n c m k in
      let at_row = site_row P s z e in
      let a = place_of_row H z.row in
      let live : is_live H.order a ≡ true = row_live P F G.facts H G.hierarchy (row.New n) z.row at_row in
      let is : R₀.row_type (row.New n) ≡ Some a = row_node P H (T G) (row.New n) z.row at_row in
      let new_row : (R G).row_type (row.New n) ≡ Some ((T G).type_of a) = row_type_is P H (T G) (row.New n) ∙ ap (option_map (T G).type_of) is in
      let o = own_maker P c m has in
      let same : o.method ≡ k = same_Some _ _ (sym o.stands ∙ stands) in
      let maker : IsMakerOf P k = record {
        class = o.class;
        stands = ap (λ (y : PlainMethod). slice_get P.classes y.owner) (sym same) ∙ ap (slice_get P.classes) o.owner ∙ o.class_stands;
        name = ap (λ (y : PlainMethod). y.name) (sym same) ∙ o.name;
      } in
      let slot = (G.formed.methods m k stands).slotted (G.formed.makers m k stands maker).instance in
      let sig = ((G.formed.methods m k stands).slots slot.0).0 slot.1 in
      let names : map (λ v. v.name) r.method.params ≡ map (λ v. v.name) k.params =
      ap (λ (y : PlainMethod). map (λ v. v.name) y.params) r.heading ∙ param_names G m k 0 k.params in
      let code = of_body x r.method n c m k a stands is live names refl r.body (λ q. false≢true (sym r.other ∙ q)) in
      record {
        was = record { old = k; old_stands = stands; slot = slot.0; of_slot = slot.1; signature = sig.slot; slot_stands = sig.stands };
        new = r.method;
        stands = r.stands;
        static = static_is G x g r;
        owner = owner_is G x g r ∙ sym (makers_number P F H V G.resolves G.new i mk me at);
        name = name_is G x g r;
        class = (T G).type_of a;
        row = new_row;
        params = params_is G x g r ∙ head_params G m k stands ∙ of_slot_params G m slot.0 k slot.1 ∙ ap (slot_types (R G) slot.0) sig.params;
        result = result_is G x g r
            ∙ ap Some (type_is P F G.facts H G.hierarchy V G.resolves G.new pt G.unbroken (row.New n) (class_type c) (λ q d. (z.row, at_row))
            ∙ ap (λ o. retyped o (class_type c)) new_row);
        locals = code.locals;
        code = code.code;
        new_code = code.has;
        makes = code.makes;
      }
    where
      of_body : (x : MethodAt) (new : PlainMethod) (n c m : ℕ) (k : PlainMethod) (a : ℕ) → slice_get P.methods m ≡ Some k
          → R₀.row_type (row.New n) ≡ Some a → is_live H.order a ≡ true → map (λ v. v.name) new.params ≡ map (λ v. v.name) k.params
          → x.body ≡ Some (make_body P R₀ H n c m k) → BodyResolves O x new → (is_maker x ≡ true → ⊥)
          → HasMakeCode ((T G).type_of a) ((R G).method_name m) new
      of_body x new n c m k a stands is live names b (r_no_body d _ _) free = absurd (cc (d, b))
      of_body x new n c m k a stands is live names b (r_maker q _ _ _ _ _) free = absurd (free q)
      of_body x new n c m k a stands is live names b (r_body {ss = ss} {xs = ys} q d f resolved counts) free =
          let same : ss ≡ make_body P R₀ H n c m k = same_Some _ _ (sym d ∙ b) in
          code_made (here_of x) new n c m k a stands is live names ys
          (subst (λ v. StsResolve O (here_of x) new false (params_from 0 new.params) v ys) same resolved) counts f

  make_called : (n : ℕ) → make_name P n ≡ R₀.make_name n
  unfolding renaming_of
  make_called n = refl

  -- a static method of the holder under the name of a site's method is that method
  pub named_make : (s : ℕ) (z : IsMade P G.formed s) (g : ℕ) (new : PlainMethod) → slice_get O.methods g ≡ Some new → new.owner ≡ (T G).makers
      → new.name ≡ make_name P z.site.number → IsMake P V (R G) z.site.number z.maker g
  named_make s z g new d ow name =
      let v = map_at heading_of V.methods g new (ap (λ q. slice_get q g) G.resolves.headings ∙ d) in
      let b = method_back (tree P F H) V G.resolves G.new (no_maker P F H) g v.0 v.1 in
      let x = b.method in
      let i = b.declared.number in
      let mk = makers_there P G.formed s z in
      let at = makers_at P F H mk.0 mk.1 in
      let made : heading_of b.resolved.method ≡ new = ap heading_of b.is ∙ v.2 in
      let own : x.owner ≡ suc i = method_owner (suc i) b.declared.declaration x b.declared.has in
      let number : suc i ≡ suc at.0 =
      sym own ∙ sym (owner_is G x g b.resolved) ∙ ap (λ (y : PlainMethod). y.owner) made ∙ ow
      ∙ makers_number P F H V G.resolves G.new at.0 mk.0 mk.1 at.1 in
      let there : slice_get (tree P F H) i ≡ Some (makers_tree P F H mk.0) =
      ap (slice_get (tree P F H)) (let q : i ≡ at.0 = omega (arith, number) in q) ∙ at.1 in
      let one : b.declared.declaration ≡ makers_tree P F H mk.0 = same_Some _ _ (sym b.declared.stands ∙ there) in
      let has = subst (λ q. Contains (methods_declared (suc i) q) x) one b.declared.has in
      let mt = member_method_from (suc i) false (make_members P R₀ H) x has in
      let t = makes_from P R₀ H mt.0 mt.1 in
      let is : as_make i t.site.number t.site.ty.class.0 t.maker t.method ≡ x =
      one_from _ x (subst (λ q. Contains (method_member (suc i) false q) x) (sym t.is) mt.2) in
      let site : IsMade P G.formed t.number = record { site = t.site; stands = t.stands; object = t.object; maker = t.maker; has = t.has } in
      let called : make_name P t.site.number ≡ make_name P z.site.number =
      make_called t.site.number ∙ ap (λ (y : MethodAt). y.head.name) is ∙ sym (name_is G x g b.resolved) ∙ ap (λ (y : PlainMethod). y.name) made ∙ name in
      let same : t.site ≡ z.site = same_Some _ _ (sym t.stands ∙ ap (slice_get (sites_of P)) (one_make P G.formed t.number s site z called) ∙ z.stands) in
      let maker : t.maker ≡ z.maker = same_Some _ _ (sym t.has ∙ ap (λ (y : Site). maker_of P y.ty.class.0) same ∙ z.has) in
      let r = subst (λ q. Rs q g) (sym is) b.resolved in
      subst (λ q. IsMake P V (R G) q z.maker g) (ap (λ (y : Site). y.number) same)
      (subst (λ q. IsMake P V (R G) t.site.number q g) maker
      (make_is i g mk.0 mk.1 there t.number t.site t.maker t.method t.stands t.has t.method_stands r))

  -- each site has its method
  pub each_make : (s : ℕ) (z : IsMadeSite P F H V s) → (g : ℕ) × IsMake P V (R G) z.site.number z.maker g
  each_make s z =
      let site : IsMade P G.formed s = record { site = z.site; stands = z.stands; object = z.object; maker = z.maker; has = z.has } in
      let mk = makers_there P G.formed s site in
      let at = makers_at P F H mk.0 mk.1 in
      let n = z.site.number in
      let c = z.site.ty.class.0 in
      let o = own_maker P c z.maker z.has in
      let x : MethodAt = as_make at.0 n c z.maker o.method in
      let t = makes_has P R₀ H s z.maker z.site o.method z.stands z.object z.has o.stands in
      let d : Contains (methods_declared (suc at.0) (makers_tree P F H mk.0)) x =
      member_method_has (suc at.0) false (make_members P R₀ H) x (make_member P R₀ H n c z.maker o.method) t (first x []) in
      let r = method_there (tree P F H) V G.resolves G.new (no_maker P F H) at.0 (makers_tree P F H mk.0) x at.1 d in
      (r.0, make_is at.0 r.0 mk.0 mk.1 at.1 s z.site z.maker o.method z.stands z.has o.stands r.1)

  -- a method that the holder declares is that of a site
  pub in_makers : (i g : ℕ) (mk : PlainMakers) (x : MethodAt) → makers_of P ≡ Some mk → slice_get (tree P F H) i ≡ Some (makers_tree P F H mk)
      → Contains (methods_declared (suc i) (makers_tree P F H mk)) x → (r : Rs x g) → IsMakeMethod P F H V (T G) g
  in_makers i g mk x me at h r =
      let mt = member_method_from (suc i) false (make_members P R₀ H) x h in
      let t = makes_from P R₀ H mt.0 mt.1 in
      let is : as_make i t.site.number t.site.ty.class.0 t.maker t.method ≡ x =
      one_from _ x (subst (λ q. Contains (method_member (suc i) false q) x) (sym t.is) mt.2) in
      record {
        number = t.number;
        at = record { site = t.site; stands = t.stands; object = t.object; maker = t.maker; has = t.has };
        is = make_is i g mk me at t.number t.site t.maker t.method t.stands t.has t.method_stands (subst (λ q. Rs q g) (sym is) r);
      }
