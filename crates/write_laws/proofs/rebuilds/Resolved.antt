-- A method to which a declaration resolves: its owner, name and types, and its code.
use Rattle.std.proofs.Common.{◌≡◌, ℕ, suc, ◌+◌, ◌<◌, ◌||◌, true, false, List, [], ◌∷◌, Option, Some, None, refl, sym, ap, ◌∙◌, subst, arith}
use Rattle.std.specs.Prelude.{length, map, slice_get, nat_lt}
use Rattle.std.specs.Option.{option_map, is_some}
use Rattle.std.proofs.lemmas.Bool.{false≢true, lt-ltb}
use Rattle.std.proofs.lemmas.Option.{same_Some, slice_get_within}
use Rattle.java_tree.specs.declared.Modifier.{Modifier}
use Rattle.java_tree.specs.Syntax.{HeadTree, Statements}
use Rattle.java_core.specs.declared.Ty.{Ty}
use Rattle.java_core.specs.Trees.{Sts}
use Rattle.java_core.specs.Programs.{Plain, PlainLocal, PlainMethod, PlainSlot}
use Rattle.java_core.specs.Types.{types_of, env_of}
use Rattle.java_core.specs.Formed.{variables_of}
use Rattle.name_rules.specs.declared.parts.Here.{Here}
use Rattle.name_rules.specs.Outline.{MethodAt, is_static, is_public_word, has_word, types_in, type_meant, param_outline, outline}
use Rattle.name_rules.specs.Resolves.{StsResolve, Counts, declares_all, params_from, here_of, BodyResolves, r_no_body, r_body, r_maker}
use Rattle.fact_model.specs.declared.facts.Facts.{Facts}
use Rattle.fact_model.specs.declared.sets.PointsTo.{PointsTo}
use Rattle.hier_model.specs.Hierarchies.{Hierarchy}
use Rattle.flow_rules.specs.declared.items.ObjectType.{ObjectType}
use Rattle.flow_rules.specs.declared.items.RowItem.TheVariants as row
use Rattle.flow_rules.specs.Operands.{object_of, object_if, variable_in, variable_row, result_in}
use Rattle.flow_rules.specs.Ordered.{each}
use Rattle.flow_rules.proofs.Listed.{at_left}
use Rattle.rebuild_model.specs.Renaming.{retyped, retyped_if}
use Rattle.rebuild_model.specs.Matches.{MatchesSts}
use Rattle.rebuild_model.specs.Members.{new_types, HasTypes, HasSlotTypes, HasCode}
use Rattle.rebuild_model.specs.Makes.{slot_types}
use Rattle.write_model.specs.Names.{written_type}
use Rattle.write_model.specs.Bodies.{written_sts}
use Rattle.write_model.specs.Members.{param, head, body, parameters}
use Rattle.write_model.specs.Written.{java_tree}
use Rattle.write_laws.proofs.rebuilds.Outlined.{IsResolved}
use Rattle.write_laws.proofs.rebuilds.Nodes.{by_node}
use Rattle.write_laws.proofs.rebuilds.Retyped.{HasRow, variable_has_row, result_has_row, type_is}
use Rattle.write_laws.proofs.rebuilds.Given.{Given, T, R}

module _ {P : Plain} {F : Facts} {pt : PointsTo} {H : Hierarchy} {V : Plain} (G : Given P F pt H V) where
  abbrev types : List (List ℕ)
  types = types_in (java_tree P F H)

  abbrev O : Plain
  O = outline (java_tree P F H)

  -- what is asked of the bodies: a body that is written of an old one and resolves is the old one in the new names and types
  unfoldable pub BodiesMatch : Type 0
  BodiesMatch = (m : ℕ) (k : PlainMethod) (xs : Sts) (here : Here) (new : PlainMethod) (ys : Sts) → slice_get P.methods m ≡ Some k → k.body ≡ Some xs
      → here.is_static ≡ k.is_static → (k.is_static ≡ true → here.owner ≡ (T G).holder_of k.owner) → map (λ v. v.name) new.params ≡ map (λ v. v.name) k.params
      → StsResolve O here new false (params_from 0 new.params) (written_sts P (by_node P F H) H m k (parameters 0 k.params) xs) ys
      → Counts (length new.params) (declares_all ys) (length (variables_of new))
      → MatchesSts P V (R G) (env_of m k) xs ys × (types_of new.locals ≡ new_types (R G) m k (length k.params) k.locals)

  -- ---- the types of a head

  pub param_names : (m : ℕ) (k : PlainMethod) (n : ℕ) (vs : List PlainLocal)
      → map (λ v. v.name) (map (param_outline types) (each (λ i v. param P (by_node P F H) H m k i v ∷ []) n vs)) ≡ map (λ v. v.name) vs
  param_names m k n [] = refl
  param_names m k n (v ∷ vs) = ap (λ z. v.name ∷ z) (param_names m k (n + 1) vs)

  param_types : (m : ℕ) (k : PlainMethod) (n : ℕ) (vs : List PlainLocal)
      → ((i j : ℕ) (v : PlainLocal) → j ≡ n + i → slice_get vs i ≡ Some v → (t : ObjectType) → object_of v.ty ≡ Some t → HasRow P (variable_row m k j))
      → types_of (map (param_outline types) (each (λ i v. param P (by_node P F H) H m k i v ∷ []) n vs)) ≡ new_types (R G) m k n vs
  param_types m k n [] f = refl
  param_types m k n (v ∷ vs) f =
      ap (λ t. t ∷ types_of (map (param_outline types) (each (λ i v. param P (by_node P F H) H m k i v ∷ []) (n + 1) vs)))
      (type_is P F G.facts H G.hierarchy V G.resolves G.new pt G.unbroken (variable_row m k n) v.ty (f 0 n v (omega arith) refl))
      ∙ ap (λ z. retyped ((R G).row_type (variable_row m k n)) v.ty ∷ z) (param_types m k (n + 1) vs (λ i j w e d. f (suc i) j w (omega (arith, e)) d))

  pub head_params : (m : ℕ) (k : PlainMethod) → slice_get P.methods m ≡ Some k
      → types_of (map (param_outline types) (each (λ i v. param P (by_node P F H) H m k i v ∷ []) 0 k.params)) ≡ new_types (R G) m k 0 k.params
  head_params m k e = param_types m k 0 k.params (λ i j v d s t o.
      variable_has_row P G.formed m k j v e (at_left k.params k.locals j v (ap (slice_get k.params) (omega (arith, d)) ∙ s)) t o)

  head_result : (m : ℕ) (k : PlainMethod) → slice_get P.methods m ≡ Some k
      → option_map (type_meant types) (option_map (written_type P H ((by_node P F H).row_type (result_in k.slot m))) k.result) ≡ retyped_if
      ((R G).row_type (result_in k.slot m)) k.result
  head_result m k e = go k.result refl
    where
      go : (o : Option Ty) → k.result ≡ o → option_map (type_meant types)
          (option_map (written_type P H ((by_node P F H).row_type (result_in k.slot m))) o) ≡ retyped_if ((R G).row_type (result_in k.slot m)) o
      go None d = refl
      go (Some u) d = ap Some (type_is P F G.facts H G.hierarchy V G.resolves G.new pt G.unbroken (result_in k.slot m) u
          (λ t o. result_has_row P G.formed m k e t (ap (λ z. object_if z) d ∙ o)))

  -- the types of the first method of a slot are those of the slot
  slot_param : (m s j : ℕ) (k : PlainMethod) → k.slot ≡ Some s → j < length k.params → variable_row m k j ≡ row.Param s j
  slot_param m s j k e h = ap (λ z. variable_in z (nat_lt j (length k.params)) m j) e ∙ ap (λ b. variable_in (Some s) b m j) (lt-ltb j (length k.params) h)

  slot_params : (m s : ℕ) (k : PlainMethod) (n : ℕ) (vs : List PlainLocal)
      → ((i j : ℕ) (v : PlainLocal) → j ≡ n + i → slice_get vs i ≡ Some v → variable_row m k j ≡ row.Param s j)
      → new_types (R G) m k n vs ≡ each (λ i t. retyped ((R G).row_type (row.Param s i)) t ∷ []) n (types_of vs)
  slot_params m s k n [] f = refl
  slot_params m s k n (v ∷ vs) f =
      ap (λ i. retyped ((R G).row_type i) v.ty ∷ new_types (R G) m k (n + 1) vs) (f 0 n v (omega arith) refl)
      ∙ ap (λ z. retyped ((R G).row_type (row.Param s n)) v.ty ∷ z) (slot_params m s k (n + 1) vs (λ i j w e d. f (suc i) j w (omega (arith, e)) d))

  pub of_slot_params : (m s : ℕ) (k : PlainMethod) → k.slot ≡ Some s → new_types (R G) m k 0 k.params ≡ slot_types (R G) s (types_of k.params)
  of_slot_params m s k e = slot_params m s k 0 k.params (λ i j v d h. slot_param m s j k e (let lt = slice_get_within k.params i v h in omega (arith, d, lt)))

  -- ---- a resolved method

  module _ (at : MethodAt) (g : ℕ) (r : IsResolved (java_tree P F H) V G.resolves G.new at g) where
    abbrev pub made : PlainMethod
    made = r.method

    pub owner_is : made.owner ≡ at.owner
    owner_is = ap (λ (z : PlainMethod). z.owner) r.heading

    pub name_is : made.name ≡ at.head.name
    name_is = ap (λ (z : PlainMethod). z.name) r.heading

    pub static_is : made.is_static ≡ is_static at
    static_is = ap (λ (z : PlainMethod). z.is_static) r.heading

    pub public_is : made.is_public ≡ has_word is_public_word at.head.mods
    public_is = ap (λ (z : PlainMethod). z.is_public) r.heading ∙ ap (λ b. b || has_word is_public_word at.head.mods) r.other

    pub params_is : types_of made.params ≡ types_of (map (param_outline types) at.head.params)
    params_is = ap (λ (z : PlainMethod). types_of z.params) r.heading

    pub result_is : made.result ≡ option_map (type_meant types) at.head.type
    result_is = ap (λ (z : PlainMethod). z.result) r.heading

    pub bodyless : at.body ≡ None → made.body ≡ None
    bodyless h = go r.body
      where
        go : BodyResolves O at r.method → made.body ≡ None
        go (r_no_body a b c) = b
        go (r_body o a b c d) = absurd (cc (h, a))
        go (r_maker o a b c d e) = absurd (false≢true (sym r.other ∙ o))

    pub bodied : (ss : Statements) → at.body ≡ Some ss → is_some made.body ≡ true
    bodied ss h = go r.body
      where
        go : BodyResolves O at r.method → is_some made.body ≡ true
        go (r_no_body a b c) = absurd (cc (h, a))
        go (r_body o a b c d) = ap (λ o. is_some o) b
        go (r_maker o a b c d e) = ap (λ o. is_some o) b

    pub types_are : (mods : List Modifier) (name : List ℕ) (m : ℕ) (k : PlainMethod) → slice_get P.methods m ≡ Some k
        → at.head ≡ head P (by_node P F H) H mods name m k → HasTypes (R G) m k made
    types_are mods name m k e h = record {
      params = params_is ∙ ap (λ (z : HeadTree). types_of (map (param_outline types) z.params)) h ∙ head_params m k e;
      result = result_is ∙ ap (λ (z : HeadTree). option_map (type_meant types) z.type) h ∙ head_result m k e;
    }

    pub slot_types_are : (mods : List Modifier) (name : List ℕ) (m s : ℕ) (k : PlainMethod) (slot : PlainSlot) → slice_get P.methods m ≡ Some k
        → at.head ≡ head P (by_node P F H) H mods name m k
        → k.slot ≡ Some s → types_of k.params ≡ slot.params → k.result ≡ slot.result → HasSlotTypes (R G) s slot made
    slot_types_are mods name m s k slot e h o p q =
        let t = types_are mods name m k e h in
        record {
          params = t.params ∙ of_slot_params m s k o ∙ ap (slot_types (R G) s) p;
          result = t.result ∙ ap (λ z. retyped_if ((R G).row_type (result_in z m)) k.result) o ∙ ap (retyped_if ((R G).row_type (row.Return s))) q;
        }

    param_names_are : (mods : List Modifier) (name : List ℕ) (m : ℕ) (k : PlainMethod) → at.head ≡ head P (by_node P F H) H mods name m k
        → map (λ v. v.name) r.method.params ≡ map (λ v. v.name) k.params
    param_names_are mods name m k h =
        ap (λ (z : PlainMethod). map (λ v. v.name) z.params) r.heading ∙ ap (λ (z : HeadTree). map (λ v. v.name) (map (param_outline types) z.params)) h
        ∙ param_names m k 0 k.params

    pub code_is : BodiesMatch → (mods : List Modifier) (name : List ℕ) (m : ℕ) (k : PlainMethod) (xs : Sts) → slice_get P.methods m ≡ Some k → k.body ≡ Some xs
        → at.head ≡ head P (by_node P F H) H mods name m k → at.body ≡ body P (by_node P F H) H m k → is_static at ≡ k.is_static
        → (k.is_static ≡ true → at.owner ≡ (T G).holder_of k.owner) → HasCode P V (R G) m k made
    unfolding BodiesMatch
    code_is match mods name m k xs e b h c st ow = go r.body
      where
        is : at.body ≡ Some (written_sts P (by_node P F H) H m k (parameters 0 k.params) xs)
        is = c ∙ ap (option_map (written_sts P (by_node P F H) H m k (parameters 0 k.params))) b

        go : BodyResolves O at r.method → HasCode P V (R G) m k made
        go (r_no_body a _ _) = absurd (cc (is, a))
        go (r_maker o a b c d f) = absurd (false≢true (sym r.other ∙ o))
        go (r_body {ss = ss} {xs = ys} o a d resolved counts) =
            let same : ss ≡ written_sts P (by_node P F H) H m k (parameters 0 k.params) xs = same_Some _ _ (sym a ∙ is) in
            let z = match m k xs (here_of at) r.method ys e b st ow (param_names_are mods name m k h)
            (subst (λ w. StsResolve O (here_of at) r.method false (params_from 0 r.method.params) w ys) same resolved) counts in
            record { code = xs; written = ys; old_code = b; new_code = d; locals = z.1; matches = z.0 }
