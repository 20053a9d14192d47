-- The bodies of methods and constructors: each resolves, numbered in one count, or a condition holds in one.
use Rattle.std.proofs.Common.{◌≡◌, ℕ, zero, suc, ◌+◌, ◌⊎◌, inl, inr, ⊎_elim, Bool, true, false, ◌||◌, List, [], ◌∷◌, ◌++◌, map, length, Option, Some, None, Contains, drop, refl, sym, ap, ◌∙◌, subst, arith}
use Rattle.std.specs.Prelude.{slice_get, if◌then◌else◌}
use Rattle.std.specs.Option.{is_some, option_map, option_map_or, option_and_then}
use Rattle.std.proofs.lemmas.Bool.{or_parts}
use Rattle.std.proofs.lemmas.List.{map-append, append-nil, append_assoc, length-append, length-map, length-drop}
use Rattle.std.proofs.Math.Numerals.{add-one}
use Rattle.kaba_base.specs.declared.ClassId.{ClassId}
use Rattle.kaba_base.specs.declared.Place.{Place}
use Rattle.kaba_base.proofs.ListLemmas.{contains_at, behind}
use Rattle.java_tree.specs.declared.TypeName.{TypeName}
use Rattle.java_tree.specs.declared.Modifier.{Modifier}
use Rattle.java_tree.specs.declared.Param.{Param}
use Rattle.java_tree.specs.Syntax.{Expressions, Statements, no_statements, HeadTree, MemberTree, FieldTree, MethodTree, MakerTree, DeclTree, ClassTree, InterfaceTree}
use Rattle.java_core.specs.declared.Ty.{Ty}
use Rattle.java_core.specs.declared.Local.{Local}
use Rattle.java_core.specs.Trees.{at_place, Exs, no_ex, St, Sts, no_st, st_then}
use Rattle.java_core.specs.Programs.{Plain, PlainClass, PlainMethod, PlainLocal, local_seen}
use Rattle.java_core.specs.Classes.{parent_of}
use Rattle.java_core.specs.Makers.{maker_of, call_above}
use Rattle.java_core.specs.Formed.{variables_of, numbers_all, numbers_sts, numbers_body, numbers_methods}
use Rattle.name_rules.specs.declared.parts.Kind.TheVariants as kinds
use Rattle.name_laws.specs.declared.parts.Flags.{Flags}
use Rattle.name_laws.specs.declared.parts.Heading.{Heading}
use Rattle.name_laws.specs.Known.{KnownClass}
use Rattle.name_laws.specs.Answers.{run}
use Rattle.name_laws.specs.Tables.{Table}
use Rattle.name_laws.specs.Classes.{flags_of}
use Rattle.name_laws.specs.Members.{params_of, result_of}
use Rattle.name_laws.specs.Expressions.{walk_all}
use Rattle.name_laws.specs.Statements.{LocalsState, st_last, walk_sts}
use Rattle.name_laws.specs.Resolved.{bounds_from, slot_at, body_of, Methods, method_of, method_step, class_name_in, above_at, beginning, up_of, maker_body_of, maker_made, implied_made, body_step, head_body_step, numbered, decl_bodies, with_implied}
use Rattle.name_laws.specs.Resolved as resolved
use Rattle.name_rules.specs.Outline.{MethodAt, maker_head, method_member, methods_of, heads_of, methods_declared, methods_from, methods_in, name_of, place_of, parent_named, parent_meant, class_outline, implied_maker, implied_from, is_maker, is_static, has_word, is_abstract_word, types_in, type_meant, method_outline, outline}
use Rattle.name_rules.specs.Meanings.{bound_names, Means}
use Rattle.java_tree.specs.Formed.{Each, AreFormedStmts, IsFormedBody, IsFormedMember, IsFormedDecl, IsFormedTree}
use Rattle.name_rules.specs.Resolves.{Counts, no_number, StsResolve, r_no_statements, declares_all, params_from, here_of, before_object, UpResolves, r_no_up, r_up, has_arguments, after_call, maker_code, BodyResolves, r_no_body, r_body, r_maker, BodiesResolve, r_no_methods, r_method, heading_of}
use Rattle.name_rules.specs.Conditions.{ConditionAt, FaultInOne, StsFault, in_body, in_up, of_method}
use Rattle.name_laws.proofs.Sees.{Sees, Tells, tell, turn}
use Rattle.name_laws.proofs.Pushed.{pushed}
use Rattle.name_laws.proofs.Runs.{run-tells, stands-at, push-cases}
use Rattle.name_laws.proofs.KnownTypes.{AreKnown}
use Rattle.name_laws.proofs.KnownClasses.{class_at-outline}
use Rattle.name_laws.proofs.Modifiers.{FlagsAre, no-static-maker, flags-fit, flags-tells}
use Rattle.name_laws.proofs.Params.{AreParams, params-tells, result-tells}
use Rattle.name_laws.proofs.Expressions.{counts_append, whole, all-tells}
use Rattle.name_laws.proofs.Statements.{sts, sts-pushed, sts-behind, StsWalks, sts-tells, whole-grown, whole-to}
use Rattle.name_laws.proofs.Only.{none-only}
use Rattle.name_laws.proofs.Beginnings.{no-arguments, BeginsBare, BeginsAbove, begins}
use Rattle.name_laws.proofs.MembersOf.{IsImplied, implied-at}
use Rattle.name_laws.proofs.AllMembers.{each-at, inside, methods_of-push}
use Rattle.name_laws.proofs.KnownMembers.{methods_from-append}

-- ---- parameters in scope

bounds-params : (k : ℕ) (ls : List Local) → bounds_from k ls ≡ params_from k (map local_seen ls)
bounds-params k [] = refl
bounds-params k (l ∷ ls) = ap (λ z. record { name = l.name; number = k } ∷ z) (ap (λ i. bounds_from i ls) (add-one k) ∙ bounds-params (suc k) ls)

bounds-names : (k : ℕ) (ls : List Local) → bound_names (bounds_from k ls) ≡ map (λ l. l.name) ls
bounds-names k [] = refl
bounds-names k (l ∷ ls) = ap (λ z. l.name ∷ z) (bounds-names (k + 1) ls)

-- ---- one more

bodies-push : {O : Plain} {ms : List MethodAt} {ks : List PlainMethod} {m : MethodAt} {k : PlainMethod} → BodiesResolve O ms ks → BodyResolves O m k
    → BodiesResolve O (ms ++ m ∷ []) (ks ++ k ∷ [])
bodies-push r_no_methods b = r_method b r_no_methods
bodies-push (r_method a rest) b = r_method a (bodies-push rest b)

numbers-push : (ks : List PlainMethod) (k : PlainMethod) → numbers_methods (ks ++ k ∷ []) ≡ numbers_methods ks ++ numbers_body k.body
numbers-push [] k = append-nil (numbers_body k.body)
numbers-push (x ∷ ks) k = ap (λ z. numbers_body x.body ++ z) (numbers-push ks k)
    ∙ sym (append_assoc (numbers_body x.body) (numbers_methods ks) (numbers_body k.body))

-- what stands behind the first ones
drop-stands : {A : Type 0} (n : ℕ) (xs : List A) (i : ℕ) (x : A) → slice_get (drop n xs) i ≡ Some x → slice_get xs (n + i) ≡ Some x
drop-stands zero xs i x e = ap (slice_get xs) (let k : 0 + i ≡ i = omega arith in k) ∙ e
drop-stands (suc n) [] i x e = absurd (cc e)
drop-stands (suc n) (y ∷ xs) i x e = ap (slice_get (y ∷ xs)) (let k : suc n + i ≡ suc (n + i) = omega arith in k) ∙ drop-stands n xs i x e

module _ (tree : List DeclTree) (known : List KnownClass) (are : AreKnown tree known) (t : Table) (same : t.known ≡ known) (sees : Sees t (outline tree)) where
  -- what a body resolves to, numbered from n on
  record BodyIs (x : MethodAt) (ls : List Local) (n : ℕ) (r : List PlainLocal × Option Sts × ℕ) : Type 0 where
    pub to : (k : PlainMethod) → k.params ≡ map local_seen ls → k.locals ≡ r.0 → k.body ≡ r.1 → BodyResolves (outline tree) x k
    pub numbered : Counts n (numbers_body r.1) r.2

  body-tells : (x : MethodAt) → Contains (methods_in tree) x → (ls : List Local) → AreParams tree known are x.head.params ls
      → is_maker x ≡ false → (n : ℕ) (o : Option Statements) → x.body ≡ o → IsFormedBody o
      → Tells (BodyIs x ls n) (ConditionAt tree) (body_of t (here_of x) ls n o)
  body-tells x has ls p plain n None e g = record { to = λ k a b c. r_no_body e c b; numbered = no_number }
  body-tells x has ls p plain n (Some ss) e g =
      tell (BodyIs x ls n) (ConditionAt tree) (walk_sts t (here_of x) false no_st (bounds_from 0 ls) start ss) _
      (sts-tells t (outline tree) sees (here_of x) false no_st (bounds_from 0 ls) start ss g)
      (λ r h. record {
        to = λ k a b c. r_body plain e c (resolves r h k a b) (counted r h k a b);
        numbered =
            (whole-grown t (outline tree) sees (here_of x) h).numbered;
      })
      (λ r f. in_body has e (subst (λ z. StsFault (outline tree) (here_of x) false z ss r) (bounds-names 0 ls ∙ p.names) f))
    where
      start : LocalsState
      start = record { locals = []; count = length ls; number = n }

      params-size : (k : PlainMethod) → k.params ≡ map local_seen ls → length k.params ≡ length ls
      params-size k a = ap length a ∙ length-map ls _

      count-is : (r : Sts × LocalsState) → StsWalks t (outline tree) sees (here_of x) false no_st (bounds_from 0 ls) start ss r → (k : PlainMethod)
          → k.params ≡ map local_seen ls → r.1.count ≡ length k.params + length r.1.locals
      count-is r h k a = let c = h.grown.count in let d = params-size k a in let l = ap length h.grown.locals in omega (arith, c, d, l)

      resolves : (r : Sts × LocalsState) → StsWalks t (outline tree) sees (here_of x) false no_st (bounds_from 0 ls) start ss r → (k : PlainMethod)
          → k.params ≡ map local_seen ls → k.locals ≡ r.1.locals
          → StsResolve (outline tree) (here_of x) k false (params_from 0 k.params) ss r.0
      resolves r h k a b =
          subst (λ z. StsResolve (outline tree) (here_of x) k false z ss r.0) (bounds-params 0 ls ∙ ap (params_from 0) (sym a))
          (whole-to t (outline tree) sees (here_of x) h k (record { rest = []; locals = b ∙ sym (append-nil r.1.locals); count = count-is r h k a }))

      counted : (r : Sts × LocalsState) → StsWalks t (outline tree) sees (here_of x) false no_st (bounds_from 0 ls) start ss r → (k : PlainMethod)
          → k.params ≡ map local_seen ls → k.locals ≡ r.1.locals
          → Counts (length k.params) (declares_all r.0) (length (variables_of k))
      counted r h k a b =
          subst (λ z. Counts z (declares_all r.0) (length (variables_of k))) (sym (params-size k a))
          (subst (Counts (length ls) (declares_all r.0)) (count-is r h k a ∙ ap (λ z. length k.params + length z) (sym b)
          ∙ sym (length-append k.params k.locals)) (whole-grown t (outline tree) sees (here_of x) h).declared)

  -- the methods so far, and the next free number
  pub record BodiesAre (ms : List MethodAt) (w : List PlainMethod × ℕ) : Type 0 where
    pub bodies : BodiesResolve (outline tree) ms w.0
    pub heads : map heading_of w.0 ≡ map (method_outline (types_in tree)) ms
    pub slots : (i : ℕ) (k : PlainMethod) → slice_get w.0 i ≡ Some k → k.slot ≡ slot_at (slice_get t.headings i)
    pub numbers : Counts 0 (numbers_methods w.0) w.1

  -- one method more
  one-more : (ms : List MethodAt) (w : List PlainMethod × ℕ) (x : MethodAt) (one : PlainMethod) (n : ℕ) → BodiesAre ms w
      → BodyResolves (outline tree) x one → heading_of one ≡ method_outline (types_in tree) x
      → one.slot ≡ slot_at (slice_get t.headings (length w.0)) → Counts w.1 (numbers_body one.body) n → BodiesAre (ms ++ x ∷ []) (w.0 ++ one ∷ [], n)
  one-more ms w x one n h body is slot numbered = record {
    bodies = bodies-push h.bodies body;
    heads = map-append heading_of w.0 (one ∷ []) ∙ ap (λ z. z ++ heading_of one ∷ []) h.heads
        ∙ ap (λ z. map (method_outline (types_in tree)) ms ++ z ∷ []) is ∙ sym (map-append (method_outline (types_in tree)) ms (x ∷ []));
    slots = λ i y u. ⊎_elim (λ v. h.slots i y v)
        (λ v. sym (ap (λ z. z.slot) v.1) ∙ slot ∙ ap (λ z. slot_at (slice_get t.headings z)) (sym v.0)) (push-cases w.0 one i y u);
    numbers = subst (λ z. Counts 0 z n) (sym (numbers-push w.0 one)) (counts_append h.numbers numbered);
  }

  method-tells : (ms rest : List MethodAt) (x : MethodAt) (w : List PlainMethod × ℕ) → methods_in tree ≡ ms ++ x ∷ rest
      → is_maker x ≡ false → IsFormedBody x.body → BodiesAre ms w
      → Tells (BodiesAre (ms ++ x ∷ [])) (ConditionAt tree) (method_step t x.owner x.kind w x.head x.body)
  method-tells ms rest x w e plain g h =
      tell (BodiesAre (ms ++ x ∷ [])) (ConditionAt tree) (flags_of x.kind x.head.mods) _ (flags-tells tree x.kind x.head.mods (of_method {m = x} has))
      (λ f hf. tell (BodiesAre (ms ++ x ∷ [])) (ConditionAt tree) (params_of t.known x.head.params) _
      (subst (λ z. Tells (AreParams tree known are x.head.params) (ConditionAt tree) (params_of z x.head.params)) (sym same)
      (params-tells tree known are x has))
      (λ ls p. tell (BodiesAre (ms ++ x ∷ [])) (ConditionAt tree) (result_of t.known x.head.type) _
      (subst (λ z. Tells (λ r. (r ≡ option_map (type_meant (types_in tree)) x.head.type) × ((u : TypeName) → x.head.type ≡ Some u
      → (y : Ty) × Means (outline tree) u y)) (ConditionAt tree) (result_of z x.head.type)) (sym same) (result-tells tree known are x has))
      (λ r q. tell (BodiesAre (ms ++ x ∷ [])) (ConditionAt tree) (body_of t (record { owner = x.owner; is_static = f.is_static }) ls w.1 x.body) _
      (subst (λ z. Tells (BodyIs x ls w.1) (ConditionAt tree) (body_of t (record { owner = x.owner; is_static = z }) ls w.1 x.body)) (sym hf.static)
      (body-tells x has ls p plain w.1 x.body refl g))
      (λ b k. more f hf ls p r q.0 b k)
      (λ r q. q))
      (λ r q. q))
      (λ r q. q))
      (λ r q. q)
    where
      has : Contains (methods_in tree) x
      has = contains_at (methods_in tree) (length ms) x (stands-at ms x rest e)

      more : (f : Flags) → FlagsAre x.head.mods f → (ls : List Local) → AreParams tree known are x.head.params ls → (r : Option Ty)
          → r ≡ option_map (type_meant (types_in tree)) x.head.type → (b : List PlainLocal × Option Sts × ℕ) → BodyIs x ls w.1 b
          → BodiesAre (ms ++ x ∷ []) (w.0 ++ method_of x.owner x.head f (slot_at (slice_get t.headings (length w.0))) ls r b.0 b.1 ∷ [], b.2)
      more f hf ls p r q b k =
          one-more ms w x (method_of x.owner x.head f (slot_at (slice_get t.headings (length w.0))) ls r b.0 b.1) b.2 h (k.to _ refl refl refl)
          (is_outline f hf ls p r q b) refl k.numbered
        where
          is_outline : (f : Flags) → FlagsAre x.head.mods f → (ls : List Local) → AreParams tree known are x.head.params ls → (r : Option Ty)
              → r ≡ option_map (type_meant (types_in tree)) x.head.type → (b : List PlainLocal × Option Sts × ℕ)
              → heading_of (method_of x.owner x.head f (slot_at (slice_get t.headings (length w.0))) ls r b.0 b.1) ≡ method_outline (types_in tree) x
          is_outline f hf ls p r q b = rw (hf.static, hf.public, p.same, q, plain) refl

  -- ---- constructors

  -- the code of a constructor begins as that of the outline
  begins-pushed : (x : MethodAt) (es : Exs) (more : List St)
      → pushed st_last (beginning t x.owner x.head.place es) more ≡ maker_code (outline tree) x es (sts more)
  begins-pushed x es more =
      ap (λ z. pushed st_last (option_map_or (λ b. above_at t b x.head.place es) z no_st) more) (sees.parents x.owner)
      ∙ go (parent_of (outline tree) x.owner) refl
    where
      at : (b : ClassId) (k : PlainClass) → slice_get (outline tree).classes b.0 ≡ Some k → (u : Bool)
          → is_some (maker_of (outline tree) b.0) || has_arguments es ≡ u
          → pushed st_last (if u then st_then (call_above (at_place x.head.place) k.name es) no_st else no_st) more
          ≡ (if u then option_map_or (λ k. st_then (call_above (at_place x.head.place) k.name es) (sts more)) (slice_get (outline tree).classes b.0)
          (sts more) else sts more)
      at b k there false e = sts-pushed more
      at b k there true e =
          sts-behind (call_above (at_place x.head.place) k.name es) more
          ∙ ap (λ z. option_map_or (λ k. st_then (call_above (at_place x.head.place) k.name es) (sts more)) z (sts more)) (sym there)

      go : (o : Option ClassId) → parent_of (outline tree) x.owner ≡ o
          → pushed st_last (option_map_or (λ b. above_at t b x.head.place es) o no_st) more
          ≡ option_map_or (λ b. after_call (outline tree) b x.head.place es (sts more)) o (sts more)
      go None up = sts-pushed more
      go (Some b) up =
          let k = sees.above x.owner b up in
          ap (λ z. pushed st_last (if z || has_arguments es then st_then (call_above (at_place x.head.place) (class_name_in t b.0) es) no_st else no_st)
          more) (sees.maker b.0 k.0 k.1)
          ∙ ap (λ z. pushed st_last (if is_some (maker_of (outline tree) b.0) || has_arguments es then st_then (call_above (at_place x.head.place) z es)
          no_st else no_st) more) (sees.class_name b.0 k.0 k.1)
          ∙ at b k.0 k.1 (is_some (maker_of (outline tree) b.0) || has_arguments es) refl

  -- a declared class has a superclass
  parent-there : (i : ℕ) (d : DeclTree) → slice_get tree i ≡ Some d → (b : ClassId) × (parent_of (outline tree) (suc i) ≡ Some b)
  parent-there i d at = (parent_meant (types_in tree) (parent_named d), ap (option_and_then (λ k. k.parent)) (class_at-outline tree i d at))

  -- the numbers of the code: those of the arguments, and then those of the statements
  numbers-code : (x : MethodAt) (i : ℕ) (d : DeclTree) → slice_get tree i ≡ Some d → x.owner ≡ suc i → (n j l : ℕ) (es : Exs) (xs : Sts)
      → Counts n (numbers_all es) j → Counts j (numbers_sts xs) l → Counts n (numbers_sts (maker_code (outline tree) x es xs)) l
  numbers-code x i d at own n j l es xs c e = go (begins (outline tree) x (has_arguments es))
    where
      go : BeginsBare (outline tree) x (has_arguments es) ⊎ BeginsAbove (outline tree) x (has_arguments es)
          → Counts n (numbers_sts (maker_code (outline tree) x es xs)) l
      go (inr h) = subst (λ z. Counts n (numbers_sts z) l) (sym (h.is es xs refl)) (counts_append c e)
      go (inl h) =
          let b = parent-there i d at in
          let up : parent_of (outline tree) x.owner ≡ Some b.0 = ap (parent_of (outline tree)) own ∙ b.1 in
          let k = sees.above x.owner b.0 up in
          let none = (or_parts (is_some (maker_of (outline tree) b.0.0)) (has_arguments es) (h.none b.0 k.0 up k.1)).1 in
          let same : n ≡ j = none-only no_number (subst (λ z. Counts n (numbers_all z) j) (no-arguments es none) c) in
          subst (λ z. Counts n (numbers_sts z) l) (sym (h.is es xs refl)) (subst (λ z. Counts z (numbers_sts xs) l) (sym same) e)

  -- the arguments of `super(..)`
  record UpIs (x : MethodAt) (ls : List Local) (n : ℕ) (up : Option Expressions) (r : Exs × ℕ) : Type 0 where
    to : UpResolves (outline tree) x (bounds_from 0 ls) up r.0
    numbered : Counts n (numbers_all r.0) r.1

  up-tells : (x : MethodAt) → Contains (methods_in tree) x → (ls : List Local) → AreParams tree known are x.head.params ls → (n : ℕ)
      (up : Option Expressions) → x.up ≡ up → Tells (UpIs x ls n up) (ConditionAt tree) (up_of t x.owner ls n up)
  up-tells x has ls p n None e = record { to = r_no_up; numbered = no_number }
  up-tells x has ls p n (Some es) e =
      turn (walk_all t (before_object x) (bounds_from 0 ls) no_ex n es) (all-tells t (outline tree) sees (before_object x) (bounds_from 0 ls) n es no_ex)
      (λ r h. record {
        to = subst (λ z. UpResolves (outline tree) x (bounds_from 0 ls) (Some es) z) (sym (whole t (outline tree) sees (before_object x) (bounds_from 0 ls) h))
            (r_up h.to);
        numbered = subst (λ z. Counts n (numbers_all z) r.1) (sym (whole t (outline tree) sees (before_object x) (bounds_from 0 ls) h)) h.numbered;
      })
      (λ r f. in_up has e (subst (λ z. FaultInOne (outline tree) (before_object x) z es r) (bounds-names 0 ls ∙ p.names) f))

  -- what the body of a constructor resolves to
  record MakerIs (x : MethodAt) (ls : List Local) (n : ℕ) (r : List PlainLocal × Sts × ℕ) : Type 0 where
    to : (k : PlainMethod) → k.params ≡ map local_seen ls → k.locals ≡ r.0 → k.body ≡ Some r.1 → BodyResolves (outline tree) x k
    numbered : Counts n (numbers_sts r.1) r.2

  maker-body-tells : (x : MethodAt) → Contains (methods_in tree) x → is_maker x ≡ true → is_static x ≡ false → (i : ℕ) (d : DeclTree)
      → slice_get tree i ≡ Some d → x.owner ≡ suc i → (ls : List Local) → AreParams tree known are x.head.params ls → (n : ℕ) (ss : Statements)
      → x.body ≡ Some ss → AreFormedStmts ss
      → Tells (MakerIs x ls n) (ConditionAt tree) (maker_body_of t x.owner x.head.place ls n x.up ss)
  maker-body-tells x has maker instance i d at own ls p n ss e g =
      tell (MakerIs x ls n) (ConditionAt tree) (up_of t x.owner ls n x.up) _ (up-tells x has ls p n x.up refl)
      (λ u hu. tell (MakerIs x ls n) (ConditionAt tree)
      (walk_sts t (record { owner = x.owner; is_static = false }) false (beginning t x.owner x.head.place u.0) (bounds_from 0 ls) (start u.1) ss) _
      (subst (λ z. Tells (StsWalks t (outline tree) sees (here_of x) false (beginning t x.owner x.head.place u.0) (bounds_from 0 ls) (start u.1) ss)
      (StsFault (outline tree) (here_of x) false (bound_names (bounds_from 0 ls)) ss)
      (walk_sts t (record { owner = x.owner; is_static = z }) false (beginning t x.owner x.head.place u.0) (bounds_from 0 ls) (start u.1) ss)) instance
      (sts-tells t (outline tree) sees (here_of x) false (beginning t x.owner x.head.place u.0) (bounds_from 0 ls) (start u.1) ss g))
      (λ r h. let code = h.joined ∙ begins-pushed x u.0 h.more in record {
        to = λ k a b c. r_maker maker e (c ∙ ap Some code)
            (subst (λ z. UpResolves (outline tree) x z x.up u.0) (bounds-params 0 ls ∙ ap (params_from 0) (sym a)) hu.to)
            (resolves u.1 r u.0 h k a b) (counted u.1 r u.0 h k a b);
        numbered = subst (λ z. Counts n (numbers_sts z) r.1.number) (sym code)
            (numbers-code x i d at own n u.1 r.1.number u.0 (sts h.more) hu.numbered h.grown.numbered);
      })
      (λ r f. in_body has e (subst (λ z. StsFault (outline tree) (here_of x) false z ss r) (bounds-names 0 ls ∙ p.names) f)))
      (λ r f. f)
    where
      start : ℕ → LocalsState
      start l = record { locals = []; count = length ls; number = l }

      params-size : (k : PlainMethod) → k.params ≡ map local_seen ls → length k.params ≡ length ls
      params-size k a = ap length a ∙ length-map ls _

      count-is : (l : ℕ) (r : Sts × LocalsState) (es : Exs)
          → StsWalks t (outline tree) sees (here_of x) false (beginning t x.owner x.head.place es) (bounds_from 0 ls) (start l) ss r → (k : PlainMethod)
          → k.params ≡ map local_seen ls → r.1.count ≡ length k.params + length r.1.locals
      count-is l r es h k a = let c = h.grown.count in let d = params-size k a in let s = ap length h.grown.locals in omega (arith, c, d, s)

      resolves : (l : ℕ) (r : Sts × LocalsState) (es : Exs)
          → (h : StsWalks t (outline tree) sees (here_of x) false (beginning t x.owner x.head.place es) (bounds_from 0 ls) (start l) ss r)
          → (k : PlainMethod) → k.params ≡ map local_seen ls → k.locals ≡ r.1.locals
          → StsResolve (outline tree) (here_of x) k false (params_from 0 k.params) ss (sts h.more)
      resolves l r es h k a b =
          subst (λ z. StsResolve (outline tree) (here_of x) k false z ss (sts h.more)) (bounds-params 0 ls ∙ ap (params_from 0) (sym a))
          (h.to k (record { rest = []; locals = b ∙ sym (append-nil r.1.locals); count = count-is l r es h k a }))

      counted : (l : ℕ) (r : Sts × LocalsState) (es : Exs)
          → (h : StsWalks t (outline tree) sees (here_of x) false (beginning t x.owner x.head.place es) (bounds_from 0 ls) (start l) ss r)
          → (k : PlainMethod) → k.params ≡ map local_seen ls → k.locals ≡ r.1.locals
          → Counts (length k.params) (declares_all (sts h.more)) (length (variables_of k))
      counted l r es h k a b =
          subst (λ z. Counts z (declares_all (sts h.more)) (length (variables_of k))) (sym (params-size k a))
          (subst (Counts (length ls) (declares_all (sts h.more))) (count-is l r es h k a ∙ ap (λ z. length k.params + length z) (sym b)
          ∙ sym (length-append k.params k.locals)) h.grown.declared)

  maker-tells : (ms rest : List MethodAt) (c : ℕ) (a : Bool) (mods : List Modifier) (n : List ℕ) (ps : List Param) (up : Option Expressions)
      (ss : Statements) (p : Place) (w : List PlainMethod × ℕ)
      → methods_in tree ≡ ms ++ record { owner = c; kind = kinds.Maker; in_abstract = a; head = maker_head n mods ps p; up = up; body = Some ss } ∷ rest
      → (i : ℕ) (d : DeclTree) → slice_get tree i ≡ Some d → c ≡ suc i → AreFormedStmts ss → BodiesAre ms w
      → Tells (BodiesAre (ms ++ record {
        owner = c;
        kind = kinds.Maker;
        in_abstract = a;
        head = maker_head n mods ps p;
        up = up;
        body = Some ss;
      } ∷ [])) (ConditionAt tree) (resolved.maker_step t c w mods n ps up ss p)
  maker-tells ms rest c a mods n ps up ss p w e i d at own g h =
      tell (BodiesAre (ms ++ x ∷ [])) (ConditionAt tree) (flags_of kinds.Maker mods) _ (flags-fit tree kinds.Maker mods (of_method {m = x} has))
      (λ f hf. tell (BodiesAre (ms ++ x ∷ [])) (ConditionAt tree) (params_of t.known ps) _
      (subst (λ z. Tells (AreParams tree known are ps) (ConditionAt tree) (params_of z ps)) (sym same) (params-tells tree known are x has))
      (λ ls q. tell (BodiesAre (ms ++ x ∷ [])) (ConditionAt tree) (maker_body_of t c p ls w.1 up ss) _
      (maker-body-tells x has refl (no-static-maker mods hf.2) i d at own ls q w.1 ss refl g)
      (λ b k. one-more ms w x (maker_made c n p (slot_at (slice_get t.headings (length w.0))) (map local_seen ls) b.0 b.1) b.2 h
      (k.to (maker_made c n p (slot_at (slice_get t.headings (length w.0))) (map local_seen ls) b.0 b.1) refl refl refl)
      (is_outline ls q (slot_at (slice_get t.headings (length w.0))) b.0 b.1 (no-static-maker mods hf.2)) refl k.numbered)
      (λ r q. q))
      (λ r q. q))
      (λ r q. q)
    where
      x : MethodAt
      x = record { owner = c; kind = kinds.Maker; in_abstract = a; head = maker_head n mods ps p; up = up; body = Some ss }

      has : Contains (methods_in tree) x
      has = contains_at (methods_in tree) (length ms) x (stands-at ms x rest e)

      is_outline : (ls : List Local) → AreParams tree known are ps ls → (slot : Option ℕ) (locals : List PlainLocal) (code : Sts) → is_static x ≡ false
          → heading_of (maker_made c n p slot (map local_seen ls) locals code) ≡ method_outline (types_in tree) x
      is_outline ls q slot locals code instance = rw (q.same, instance) refl

  -- the methods of a class, and of an interface
  class-tells : (c : ℕ) (a : Bool) (i : ℕ) (d : DeclTree) → slice_get tree i ≡ Some d → c ≡ suc i → (xs : List MemberTree) (ms mrest : List MethodAt)
      (w : List PlainMethod × ℕ) → Each IsFormedMember xs
      → methods_in tree ≡ ms ++ (methods_of c a xs ++ mrest) → BodiesAre ms w
      → Tells (BodiesAre (ms ++ methods_of c a xs)) (ConditionAt tree) (run (body_step t c) w xs)
  class-tells c a i d there own xs ms mrest w g f h =
      run-tells (ConditionAt tree) xs (body_step t c) (λ done w. BodiesAre (ms ++ methods_of c a done) w)
      (λ done rest x w at k.
      turn (body_step t c w x)
      (one (ms ++ methods_of c a done) (methods_of c a rest ++ mrest) x w (each-at IsFormedMember done x rest (subst (Each IsFormedMember) at g))
      (inside ms (methods_of c a xs) mrest (methods_of c a done) (method_member c a x) (methods_of c a rest) f (ap (methods_of c a) at
      ∙ methods_of-push c a done x rest)) k)
      (λ w q. subst (λ z. BodiesAre z w)
      (append_assoc ms (methods_of c a done) (method_member c a x)
      ∙ ap (λ z. ms ++ z) (sym (methods_of-push c a done x [] ∙ ap (λ z. methods_of c a done ++ z) (append-nil (method_member c a x))))) q)
      (λ r q. q))
      [] xs w refl (subst (λ z. BodiesAre z w) (sym (append-nil ms)) h)
    where
      one : (ms rest : List MethodAt) (x : MemberTree) (w : List PlainMethod × ℕ) → IsFormedMember x
          → methods_in tree ≡ ms ++ (method_member c a x ++ rest) → BodiesAre ms w → Tells (BodiesAre (ms ++ method_member c a x)) (ConditionAt tree)
          (body_step t c w x)
      one ms rest (FieldTree mods u n p) w g e h = subst (λ z. BodiesAre z w) (sym (append-nil ms)) h
      one ms rest (MethodTree hd body p) w g e h =
          method-tells ms rest (record { owner = c; kind = kinds.Method; in_abstract = a; head = hd; up = None; body = body }) w e refl g.1 h
      one ms rest (MakerTree mods n ps up ss p) w g e h = maker-tells ms rest c a mods n ps up ss p w e i d there own g.4 h

  heads-tells : (c : ℕ) (hs : List HeadTree) (ms mrest : List MethodAt) (w : List PlainMethod × ℕ) → methods_in tree ≡ ms ++ (heads_of c hs ++ mrest)
      → BodiesAre ms w → Tells (BodiesAre (ms ++ heads_of c hs)) (ConditionAt tree) (run (head_body_step t c) w hs)
  heads-tells c hs ms mrest w f h =
      run-tells (ConditionAt tree) hs (head_body_step t c) (λ done w. BodiesAre (ms ++ heads_of c done) w)
      (λ done rest x w at k.
      let n : MethodAt = record { owner = c; kind = kinds.Head; in_abstract = true; head = x; up = None; body = None } in
      turn (head_body_step t c w x)
      (method-tells (ms ++ heads_of c done) (heads_of c rest ++ mrest) n w
      (inside ms (heads_of c hs) mrest (heads_of c done) (n ∷ []) (heads_of c rest) f (ap (heads_of c) at
      ∙ map-append (λ h. record { owner = c; kind = kinds.Head; in_abstract = true; head = h; up = None; body = None }) done (x ∷ rest))) refl tt k)
      (λ w q. subst (λ z. BodiesAre z w) (append_assoc ms (heads_of c done) (n ∷ [])
      ∙ ap (λ z. ms ++ z) (sym (map-append (λ h. record { owner = c; kind = kinds.Head; in_abstract = true; head = h; up = None; body = None })
      done (x ∷ [])))) q)
      (λ r q. q))
      [] hs w refl (subst (λ z. BodiesAre z w) (sym (append-nil ms)) h)

  record AreWritten (done : List DeclTree) (s : ℕ × Methods) : Type 0 where
    pub number : s.0 ≡ 1 + length done
    pub bodies : BodiesAre (methods_from 1 done) s.1

  decl-tells : (c i : ℕ) (ms mrest : List MethodAt) (d : DeclTree) (w : List PlainMethod × ℕ) → slice_get tree i ≡ Some d → c ≡ suc i → IsFormedDecl d
      → methods_in tree ≡ ms ++ (methods_declared c d ++ mrest) → BodiesAre ms w
      → Tells (λ s. (s.0 ≡ c + 1) × BodiesAre (ms ++ methods_declared c d) s.1) (ConditionAt tree) (decl_bodies t (c, w) d)
  decl-tells c i ms mrest (ClassTree mods n parent faces xs p) w at own g f h =
      tell (λ s. (s.0 ≡ c + 1) × BodiesAre (ms ++ methods_of c (has_word is_abstract_word mods) xs) s.1) (ConditionAt tree) (run (body_step t c) w xs)
      _ (class-tells c (has_word is_abstract_word mods) i (ClassTree mods n parent faces xs p) at own xs ms mrest w g.4 f h) (λ m k. (refl, k)) (λ r q. q)
  decl-tells c i ms mrest (InterfaceTree mods n parents hs p) w at own g f h =
      tell (λ s. (s.0 ≡ c + 1) × BodiesAre (ms ++ heads_of c hs) s.1) (ConditionAt tree) (run (head_body_step t c) w hs) _
      (heads-tells c hs ms mrest w f h) (λ m k. (refl, k)) (λ r q. q)

  -- ---- constructors that are not written

  -- what is made of a heading, with the constructor that it is
  abbrev IsMade : PlainMethod → MethodAt → Type 0
  IsMade k x = BodyResolves (outline tree) x k × (heading_of k ≡ method_outline (types_in tree) x) × (numbers_body k.body ≡ [])

  abbrev made_at : Option ℕ → ℕ → Place → PlainMethod
  made_at slot c p = maker_made c (class_name_in t c) p slot [] [] (beginning t c p no_ex)

  made-implied : (slot : Option ℕ) (c i : ℕ) (d : DeclTree) → slice_get tree i ≡ Some d → c ≡ suc i
      → IsMade (made_at slot c (place_of d)) (implied_maker c (name_of d) (place_of d))
  made-implied slot c i d at own = (
    r_maker {ss = no_statements} {es = no_ex} {xs = no_st} refl refl (ap Some code) r_no_up r_no_statements no_number,
    rw (sees.class_name c (class_outline (types_in tree) d) (ap (slice_get (outline tree).classes) own ∙ class_at-outline tree i d at)) refl,
    ap numbers_sts code ∙ none (begins (outline tree) x false),
  )
    where
      x : MethodAt
      x = implied_maker c (name_of d) (place_of d)

      code : beginning t c (place_of d) no_ex ≡ maker_code (outline tree) x no_ex no_st
      code = begins-pushed x no_ex []

      none : BeginsBare (outline tree) x false ⊎ BeginsAbove (outline tree) x false → numbers_sts (maker_code (outline tree) x no_ex no_st) ≡ []
      none (inl h) = ap numbers_sts (h.is no_ex no_st refl)
      none (inr h) = ap numbers_sts (h.is no_ex no_st refl)

  made-of : (h : Heading) (x : MethodAt) → IsImplied tree 1 tree x → h.owner ≡ x.owner → h.place ≡ x.head.place → IsMade (implied_made t h) x
  made-of h x k owner place =
      let own : k.owner ≡ suc k.index = let o = k.owned in omega (arith, o) in
      let same : implied_made t h ≡ made_at h.slot k.owner (place_of k.decl) =
      ap (λ z. made_at h.slot z h.place) (owner ∙ ap (λ z. z.owner) (sym k.is))
      ∙ ap (made_at h.slot k.owner) (place ∙ ap (λ z. z.head.place) (sym k.is)) in
      subst (λ z. IsMade (implied_made t h) z) k.is
      (subst (λ z. IsMade z (implied_maker k.owner (name_of k.decl) (place_of k.decl))) (sym same)
      (made-implied h.slot k.owner k.index k.decl k.stands own))

  all-implied : (ms ns : List MethodAt) (w : List PlainMethod × ℕ) (hs : List Heading) → length hs ≡ length ns
      → ((i : ℕ) (h : Heading) (x : MethodAt) → slice_get hs i ≡ Some h → slice_get ns i ≡ Some x → IsMade (implied_made t h) x)
      → ((i : ℕ) (h : Heading) → slice_get hs i ≡ Some h → slice_get t.headings (length w.0 + i) ≡ Some h) → BodiesAre ms w
      → BodiesAre (ms ++ ns) (w.0 ++ map (implied_made t) hs, w.1)
  all-implied ms [] w [] size made at h =
      subst (λ z. BodiesAre z (w.0 ++ [], w.1)) (sym (append-nil ms)) (subst (λ z. BodiesAre ms (z, w.1)) (sym (append-nil w.0)) h)
  all-implied ms [] w (y ∷ hs) size made at h = absurd (omega (arith, size))
  all-implied ms (x ∷ ns) w [] size made at h = absurd (omega (arith, size))
  all-implied ms (x ∷ ns) w (y ∷ hs) size made at h =
      let m = made 0 y x refl refl in
      let one = implied_made t y in
      let stands : slice_get t.headings (length w.0) ≡ Some y =
      ap (slice_get t.headings) (let n : length w.0 ≡ length w.0 + 0 = omega arith in n) ∙ at 0 y refl in
      subst (λ z. BodiesAre z (w.0 ++ one ∷ map (implied_made t) hs, w.1)) (append_assoc ms (x ∷ []) ns)
      (subst (λ z. BodiesAre ((ms ++ x ∷ []) ++ ns) (z, w.1)) (append_assoc w.0 (one ∷ []) (map (implied_made t) hs))
      (all-implied (ms ++ x ∷ []) ns (w.0 ++ one ∷ [], w.1) hs (omega (arith, size)) (λ i. made (suc i))
      (λ i z e. ap (slice_get t.headings) (let l = length-append w.0 (one ∷ []) in let n : length (w.0 ++ one ∷ []) + i ≡ length w.0 + suc i =
      omega (arith, l) in n) ∙ at (suc i) z e)
      (one-more ms w x one w.1 h m.0 m.1 (ap slot_at (sym stands)) (subst (λ z. Counts w.1 z w.1) (sym m.2) no_number))))

  pub bodies-tells : IsFormedTree tree → length t.headings ≡ length (methods_in tree)
      → ((i : ℕ) (h : Heading) (x : MethodAt) → slice_get t.headings i ≡ Some h → slice_get (methods_in tree) i ≡ Some x
      → (h.owner ≡ x.owner) × (h.place ≡ x.head.place))
      → Tells (λ ks. (n : ℕ) × BodiesAre (methods_in tree) (ks, n)) (ConditionAt tree) (resolved.methods_of t tree)
  bodies-tells g size heads =
      tell (λ ks. (n : ℕ) × BodiesAre (methods_in tree) (ks, n)) (ConditionAt tree) (run (decl_bodies t) (1, ([], 0)) tree) _
      (run-tells (ConditionAt tree) tree (decl_bodies t) AreWritten step [] tree (1, ([], 0)) refl
      (record {
        number = omega arith;
        bodies = record {
          bodies = r_no_methods;
          heads = refl;
          slots = λ i k e. absurd
              (cc e);
          numbers = no_number;
        };
      }))
      (λ s h. (s.1.1, whole-bodies s.1 h.bodies)) (λ r q. q)
    where
      whole-bodies : (w : Methods) → BodiesAre (methods_from 1 tree) w → BodiesAre (methods_in tree) (with_implied t w.0, w.1)
      whole-bodies w h =
          let n : length w.0 ≡ length (methods_from 1 tree) = sym (length-map w.0 _) ∙ ap length h.heads ∙ length-map (methods_from 1 tree) _ in
          all-implied (methods_from 1 tree) (implied_from tree 1 tree) w (drop (length w.0) t.headings)
          (let a = length-drop (length w.0) t.headings in let b = length-append (methods_from 1 tree) (implied_from tree 1 tree) in
          omega (arith, a, b, n, size))
          (λ i y x e f.
          let a = drop-stands (length w.0) t.headings i y e in
          let b = ap (λ z. slice_get (methods_in tree) (z + i)) n ∙ behind (methods_from 1 tree) (implied_from tree 1 tree) i ∙ f in
          let c = heads (length w.0 + i) y x a b in
          made-of y x (implied-at tree 1 tree i x f) c.0 c.1)
          (λ i y e. drop-stands (length w.0) t.headings i y e) h

      step : (done rest : List DeclTree) (d : DeclTree) (s : ℕ × Methods) → tree ≡ done ++ d ∷ rest → AreWritten done s
          → Tells (AreWritten (done ++ d ∷ [])) (ConditionAt tree) (decl_bodies t s d)
      step done rest d s e h =
          turn (decl_bodies t s d)
          (decl-tells s.0 (length done) (methods_from 1 done) (methods_from (suc (1 + length done)) rest ++ implied_from tree 1 tree) d s.1
          (stands-at done d rest e) (let n = h.number in omega (arith, n))
          (each-at IsFormedDecl done d rest (subst (Each IsFormedDecl) e g))
          (ap (λ z. methods_from 1 z ++ implied_from tree 1 tree) e ∙ ap (λ z. z ++ implied_from tree 1 tree) (methods_from-append 1 done (d ∷ rest)
          ∙ ap (λ z. methods_from 1 done ++ (methods_declared z d ++ methods_from (suc (1 + length done)) rest)) (sym h.number))
          ∙ append_assoc (methods_from 1 done) (methods_declared s.0 d ++ methods_from (suc (1 + length done)) rest) (implied_from tree 1 tree)
          ∙ ap (λ z. methods_from 1 done ++ z)
          (append_assoc (methods_declared s.0 d) (methods_from (suc (1 + length done)) rest) (implied_from tree 1 tree))) h.bodies)
          (λ u k. record {
            number = let a = h.number in let b = length-append done (d ∷ []) in let c = k.0 in omega (arith, a, b, c);
            bodies = subst (λ z. BodiesAre z u.1)
                (sym (methods_from-append 1 done (d ∷ []) ∙ ap (λ z. methods_from 1 done ++ z) (append-nil (methods_declared (1 + length done) d))
                ∙ ap (λ z. methods_from 1 done ++ methods_declared z d) (sym h.number))) k.1;
          })
          (λ r q. q)
