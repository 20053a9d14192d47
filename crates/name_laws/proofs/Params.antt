-- Parameters and results of methods: their types are there and their names free, or a condition holds.
use Rattle.std.proofs.Common.{◌≡◌, ℕ, zero, suc, ⊎_elim, Bool, true, false, ◌||◌, List, [], ◌∷◌, ◌++◌, map, length, Option, Some, None, Ok, Err, Contains, refl, sym, ap, ◌∙◌, subst}
use Rattle.std.specs.Prelude.{slice_get, if◌then◌else◌}
use Rattle.std.specs.Option.{is_some, option_map}
use Rattle.std.specs.Str.{bytes_eq, chars}
use Rattle.std.proofs.lemmas.Bool.{false≢true}
use Rattle.std.proofs.lemmas.List.{map-append}
use Rattle.std.proofs.lemmas.Slice.Eq.{bytes_eq-Decides}
use Rattle.std.proofs.lemmas.Option.{slice_get_within}
use Rattle.kaba_base.proofs.ListLemmas.{map_at, contains_at}
use Rattle.java_tree.specs.declared.TypeName.{TypeName}
use Rattle.java_tree.specs.declared.Param.{Param}
use Rattle.java_tree.specs.Syntax.{DeclTree}
use Rattle.java_core.specs.declared.Ty.{Ty}
use Rattle.java_core.specs.declared.Local.{Local}
use Rattle.java_core.specs.Trees.{at_place}
use Rattle.java_core.specs.Programs.{local_seen}
use Rattle.java_core.specs.Formed.{HasNoTwice}
use Rattle.name_rules.specs.declared.Refusal.{Refusal}
use Rattle.name_rules.specs.declared.Refusal.TheVariants.{Twice, TwoKinds}
use Rattle.name_laws.specs.Known.{KnownClass}
use Rattle.name_laws.specs.Names.{names_type, type_of}
use Rattle.name_laws.specs.Members.{has_local, param, params_of, result_of}
use Rattle.name_rules.specs.Outline.{MethodAt, methods_in, types_in, type_named, is_known, is_type_name, type_meant, param_outline, outline}
use Rattle.name_rules.specs.Meanings.{Means}
use Rattle.name_rules.specs.Asked.{IsDeclared, of_param, of_result, by_type}
use Rattle.name_rules.specs.Conditions.{ConditionAt, unknown, type_as_param, param_twice, IsUnknownType, no_such_type}
use Rattle.name_laws.proofs.Sees.{Tells, tell, turn}
use Rattle.name_laws.proofs.Runs.{run-tells, stands-at, earlier-stands, push-cases, once-push}
use Rattle.name_laws.proofs.TypeNames.{type-tells, type-meant}
use Rattle.name_laws.proofs.KnownTypes.{AreKnown}
use Rattle.name_laws.proofs.KnownClasses.{known-named, type_names-outline}

module _ (tree : List DeclTree) (known : List KnownClass) (are : AreKnown tree known) where
  -- a type that a declaration names
  pub declared-tells : (u : TypeName) → IsDeclared tree u → Tells (λ t. (t ≡ type_meant (types_in tree) u) × Means (outline tree) u t)
      (ConditionAt tree) (type_of known u)
  declared-tells u d = turn (type_of known u) (type-tells known (outline tree) (known-named tree known are) u)
      (λ t m. (type-meant (outline tree) u t m ∙ ap (λ z. type_meant z u) (type_names-outline tree), m)) (λ r f. bad r f)
    where
      bad : (r : Refusal) → IsUnknownType (outline tree) u r → ConditionAt tree r
      bad r (no_such_type e f g) = unknown (by_type d e f) g

  pub type_name-known : (n : List ℕ) → names_type known n ≡ is_type_name (types_in tree) n
  unfolding chars
  type_name-known n = ap (λ o. is_some o || is_known n) (known-named tree known are n ∙ ap (λ z. type_named z n) (type_names-outline tree))

  has-stands : (n : List ℕ) (ls : List Local) → has_local n ls ≡ true → (i : ℕ) × (slice_get (map (λ l. l.name) ls) i ≡ Some n)
  has-stands n [] e = absurd (false≢true e)
  has-stands n (l ∷ ls) e = go (bytes_eq l.name n) refl (has-stands n ls)
    where
      go : (b : Bool) → bytes_eq l.name n ≡ b → (has_local n ls ≡ true → (i : ℕ) × (slice_get (map (λ l. l.name) ls) i ≡ Some n))
          → (i : ℕ) × (slice_get (map (λ l. l.name) (l ∷ ls)) i ≡ Some n)
      go true f more = (0, ap Some ((bytes_eq-Decides l.name n).0 f))
      go false f more = let g = more (sym (ap (λ z. if z then true else has_local n ls) f) ∙ e) in (suc g.0, g.1)

  none-stands : (n : List ℕ) (ls : List Local) → has_local n ls ≡ false → (i : ℕ) → slice_get (map (λ l. l.name) ls) i ≡ Some n → ⊥
  none-stands n [] e i f = cc f
  none-stands n (l ∷ ls) e i f = go (bytes_eq l.name n) refl i f (none-stands n ls)
    where
      go : (b : Bool) → bytes_eq l.name n ≡ b → (i : ℕ) → slice_get (map (λ l. l.name) (l ∷ ls)) i ≡ Some n
          → (has_local n ls ≡ false → (i : ℕ) → slice_get (map (λ l. l.name) ls) i ≡ Some n → ⊥) → ⊥
      go true g i f more = false≢true (sym e ∙ ap (λ z. if z then true else has_local n ls) g)
      go false g zero f more = false≢true (sym g ∙ (bytes_eq-Decides l.name n).1 (let h : l.name ≡ n = cc in h))
      go false g (suc i) f more = more (sym (ap (λ z. if z then true else has_local n ls) g) ∙ e) i f

  -- the parameters so far
  pub record AreParams (done : List Param) (ls : List Local) : Type 0 where
    pub same : map local_seen ls ≡ map (param_outline (types_in tree)) done
    pub names : map (λ l. l.name) ls ≡ map (λ q. q.name) done
    pub once : HasNoTwice (map (λ q. q.name) done)
    pub free : (i : ℕ) (q : Param) → slice_get done i ≡ Some q → is_type_name (types_in tree) q.name ≡ false
    pub means : (i : ℕ) (q : Param) → slice_get done i ≡ Some q → (t : Ty) × Means (outline tree) q.ty t

  pub params-tells : (m : MethodAt) → Contains (methods_in tree) m → Tells (AreParams m.head.params) (ConditionAt tree) (params_of known m.head.params)
  unfolding HasNoTwice
  params-tells m at = run-tells (ConditionAt tree) m.head.params (param known) AreParams step [] m.head.params [] refl
      (record { same = refl; names = refl; once = λ i j x a b. absurd (cc a); free = λ i q e. absurd (cc e); means = λ i q e. absurd (cc e) })
    where
      step : (done rest : List Param) (q : Param) (ls : List Local) → m.head.params ≡ done ++ q ∷ rest → AreParams done ls
          → Tells (AreParams (done ++ q ∷ [])) (ConditionAt tree) (param known ls q)
      step done rest q ls e h =
          tell (AreParams (done ++ q ∷ [])) (ConditionAt tree) (type_of known q.ty) _ (declared-tells q.ty (of_param at has))
          (λ t k. go t k (names_type known q.name) (type_name-known q.name) (has_local q.name ls) refl) (λ r f. f)
        where
          here : slice_get m.head.params (length done) ≡ Some q
          here = stands-at done q rest e

          has : Contains m.head.params q
          has = contains_at m.head.params (length done) q here

          go : (t : Ty) → (t ≡ type_meant (types_in tree) q.ty) × Means (outline tree) q.ty t → (b : Bool) → b ≡ is_type_name (types_in tree) q.name
              → (c : Bool) → has_local q.name ls ≡ c
              → Tells (AreParams (done ++ q ∷ [])) (ConditionAt tree) (if b then Err (TwoKinds q.name q.place) else if c then Err
              (Twice q.name q.place) else Ok (ls ++ record { name = q.name; ty = t; place = q.place } ∷ []))
          go t k true f c g = type_as_param at has (sym f)
          go t k false f true g =
              let a = has-stands q.name ls g in
              let b = map_at (λ q. q.name) done a.0 q.name (ap (λ z. slice_get z a.0) (sym h.names) ∙ a.1) in
              param_twice at (earlier-stands done (q ∷ rest) e a.0 b.0 b.1) here (slice_get_within done a.0 b.0 b.1) b.2
          go t k false f false g =
              let l : Local = record { name = q.name; ty = t; place = q.place } in
              record {
                same = map-append local_seen ls (l ∷ []) ∙ ap (λ z. z ++ local_seen l ∷ []) h.same
                    ∙ ap (λ z. map (param_outline (types_in tree)) done ++ record { name = q.name; ty = z; tag = at_place q.place } ∷ []) k.0
                    ∙ sym (map-append (param_outline (types_in tree)) done (q ∷ []));
                names = map-append (λ l. l.name) ls (l ∷ []) ∙ ap (λ z. z ++ q.name ∷ []) h.names ∙ sym (map-append (λ q. q.name) done (q ∷ []));
                once = subst HasNoTwice (sym (map-append (λ q. q.name) done (q ∷ []))) (once-push (map (λ q. q.name) done) q.name h.once
                    (λ i x. none-stands q.name ls g i (ap (λ z. slice_get z i) h.names ∙ x)));
                free = λ i x a. ⊎_elim (λ y. h.free i x y) (λ y. subst (λ z. is_type_name (types_in tree) z.name ≡ false) y.1 (sym f))
                    (push-cases done q i x a);
                means = λ i x a. ⊎_elim (λ y. h.means i x y) (λ y. subst (λ z. (t : Ty) × Means (outline tree) z.ty t) y.1 (t, k.1)) (push-cases done q i x a);
              }

  -- the result; none is void
  pub result-tells : (m : MethodAt) → Contains (methods_in tree) m
      → Tells (λ r. (r ≡ option_map (type_meant (types_in tree)) m.head.type) × ((u : TypeName) → m.head.type ≡ Some u
      → (t : Ty) × Means (outline tree) u t)) (ConditionAt tree) (result_of known m.head.type)
  result-tells m at = go m.head.type refl
    where
      go : (o : Option TypeName) → m.head.type ≡ o → Tells (λ r. (r ≡ option_map (type_meant (types_in tree)) o) × ((u : TypeName) → o ≡ Some u
          → (t : Ty) × Means (outline tree) u t)) (ConditionAt tree) (result_of known o)
      go None e = (refl, λ u f. absurd (cc f))
      go (Some u) e =
          tell (λ r. (r ≡ Some (type_meant (types_in tree) u)) × ((v : TypeName) → Some u ≡ Some v → (t : Ty) × Means (outline tree) v t))
          (ConditionAt tree) (type_of known u) _ (declared-tells u (of_result at e))
          (λ t k. (ap Some k.0, λ v f. (t, subst (λ z. Means (outline tree) z t) (let g : u ≡ v = cc in g) k.1))) (λ r f. f)
