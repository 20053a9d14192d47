-- What the names of an expression mean, or which condition holds in it: the walk over the tree tells it.
use Rattle.std.proofs.Common.{◌≡◌, ℕ, suc, Bool, true, false, List, [], ◌∷◌, ◌++◌, Option, Some, None, Result, Err, refl, sym, ap, ◌∙◌, ◌||◌, subst}
use Rattle.std.specs.Prelude.{slice_get, ◌==◌, if◌then◌else◌}
use Rattle.std.specs.Option.{is_some, option_map}
use Rattle.std.proofs.lemmas.Bool.{eqb-true, false≢true, eqb-false}
use Rattle.kaba_base.specs.declared.Place.{Place}
use Rattle.java_tree.specs.declared.Id.{Id}
use Rattle.java_tree.specs.declared.TypeName.{TypeName}
use Rattle.java_tree.specs.declared.TypeBase.{TypeBase}
use Rattle.java_tree.specs.declared.TypeBase.TheVariants as bases
use Rattle.java_tree.specs.Syntax.{Expression, IntLit, CharLit, StrLit, BoolLit, NullLit, ThisRef, NameRef, FieldOf, IndexOf, CallOf, CallOn, SuperCallOf, NewOf, NewArrayOf, CastOf, InstanceOfClass, UnaryOf, BinaryOf, Expressions, no_more, and_more}
use Rattle.java_core.specs.declared.Field.{Field}
use Rattle.java_core.specs.Trees.{at_place, Ex, own_field, Exs, no_ex, ex_then}
use Rattle.java_core.specs.Programs.{Plain, PlainField}
use Rattle.java_core.specs.Classes.{field_of, own_field_of}
use Rattle.java_core.specs.Formed.{numbers, numbers_all}
use Rattle.name_rules.specs.declared.Form.TheVariants as forms
use Rattle.name_rules.specs.declared.Refusal.{Refusal}
use Rattle.name_rules.specs.declared.Refusal.TheVariants.{Unknown, NotInProfile}
use Rattle.name_laws.specs.declared.parts.Heading.{Heading}
use Rattle.name_rules.specs.declared.parts.Bound.{Bound}
use Rattle.name_rules.specs.declared.parts.Here.{Here}
use Rattle.name_laws.specs.Answers.{with}
use Rattle.name_laws.specs.Names.{asked, type_of}
use Rattle.name_laws.specs.Tables.{Table, nearest_field, own_method, method_met}
use Rattle.name_rules.specs.Meanings.{local_of}
use Rattle.name_laws.specs.Tables as table
use Rattle.name_laws.specs.Expressions.{cast_base, cast_type, in_own, in_instance, field_use, field_at, field_named, local_named, name_meaning, is_variable, class_unless, class_before, static_at, static_member, is_static_field, is_static_method, static_field_of, static_method_of, called_instance, method_use, method_at, method_named, call_meaning, in_body, ex_last, field_walk, Receiver, receiver, called_on, walk, walk_all}
use Rattle.name_rules.specs.Meanings.{class_named, MeansCast, MeansCastBase, to_int, to_boolean, to_char, to_class, bound_names, is_class_name, IsStaticFieldOf, IsStaticMethodOf, IsNearestField}
use Rattle.name_rules.specs.Resolves.{Counts, no_number, next_number, ResolvesTo, r_number, r_character, r_text, r_truth, r_null, r_this, r_local, r_static_field, r_own_field, r_class_field, r_field, r_index, r_own_static_call, r_own_call, r_static_call, r_call, r_super_call, r_create, r_create_array, r_cast, r_instance_of, r_unary, r_binary, AllResolve, r_no_more, r_and_more}
use Rattle.name_rules.specs.Conditions.{IsUnknownCast, no_such_cast, FaultIn, this_in_static, no_variable, static_above, own_in_static, no_class_of_field, no_static_field, in_base, in_array, in_index, no_method, static_method_above, call_in_static, in_arguments, no_class_of_call, no_static_method, in_receiver, in_call_arguments, super_in_static, in_super_arguments, no_class_of_new, in_new_arguments, no_type_of_array, in_size, no_type_of_cast, in_cast, no_class_of_test, in_tested, in_operand, in_left, in_right, FaultInOne, in_first, in_later}
use Rattle.name_laws.proofs.TypeNames.{asked-tells, type-tells}
use Rattle.name_laws.proofs.Pushed.{listed, pushed, pushed-all}
use Rattle.name_laws.proofs.Sees.{Sees, StandsField, OwnMethod, MetMethod, Tells, tell, turn, bound-local, unbound-local, same_some}

-- ---- numbers

pub counts_append : {k j l : ℕ} {ms ns : List ℕ} → Counts k ms j → Counts j ns l → Counts k (ms ++ ns) l
counts_append no_number c = c
counts_append (next_number b) c = next_number (counts_append b c)

pub counts_one : (k : ℕ) → Counts k (k ∷ []) (suc k)
counts_one k = next_number no_number

-- ---- arguments

abbrev pub exs : List Ex → Exs
exs xs = listed no_ex ex_then xs

exs-pushed : (xs : List Ex) → pushed ex_last no_ex xs ≡ exs xs
exs-pushed = pushed-all no_ex ex_then ex_last (λ x. refl) (λ x xs y. refl)

-- ---- types of casts

module _ (t : Table) (O : Plain) (sees : Sees t O) where
  cast_base-tells : (u : TypeName) (b : TypeBase) → u.base ≡ b → Tells (λ x. MeansCastBase O b x) (IsUnknownCast O u) (cast_base t b u.place)
  cast_base-tells u bases.Int e = to_int
  cast_base-tells u bases.Boolean e = to_boolean
  cast_base-tells u bases.Char e = to_char
  cast_base-tells u (bases.Named n) e =
      tell (λ x. MeansCastBase O (bases.Named n) x) (IsUnknownCast O u) (asked t.known n u.place) _ (asked-tells t.known O sees.types n u.place)
      (λ k f. to_class f) (λ r f. subst (IsUnknownCast O u) (sym f.0) (no_such_cast e f.1))

  pub cast-tells : (u : TypeName) → Tells (MeansCast O u) (IsUnknownCast O u) (cast_type t u)
  cast-tells u = tell (MeansCast O u) (IsUnknownCast O u) (cast_base t u.base u.place) _ (cast_base-tells u u.base refl)
      (λ b h. record { base = h; dim = refl }) (λ r h. h)

  -- ---- static members of a class before a dot

  in_class-tells : {A : Type 0} (c : Id) (Is : ℕ → A → Type 0) (F : Refusal → Type 0) (next : ℕ → Result A Refusal)
      → (class_named O c.name ≡ None → F (Unknown c.name c.place))
      → ((k : ℕ) → class_named O c.name ≡ Some k → Tells (λ a. (k : ℕ) × (class_named O c.name ≡ Some k) × Is k a) F (next k))
      → Tells (λ a. (k : ℕ) × (class_named O c.name ≡ Some k) × Is k a) F (with (asked t.known c.name c.place) next)
  in_class-tells c Is F next no_class there = tell (λ a. (k : ℕ) × (class_named O c.name ≡ Some k) × Is k a) F (asked t.known c.name c.place) next
      (asked-tells t.known O sees.types c.name c.place) there (λ r h. subst F (sym h.0) (no_class h.1))

  pub static_field-tells : (c : Id) (n : List ℕ) (p : Place) (F : Refusal → Type 0) → (class_named O c.name ≡ None → F (Unknown c.name c.place))
      → ((k : ℕ) → class_named O c.name ≡ Some k → ((f : ℕ) → IsStaticFieldOf O k n f → ⊥) → F (Unknown n p))
      → Tells (λ f. (k : ℕ) × (class_named O c.name ≡ Some k) × IsStaticFieldOf O k n f) F (static_field_of t c n p)
  static_field-tells c n p F no_class no_field =
      in_class-tells c (λ k f. IsStaticFieldOf O k n f) F (λ k. static_member n p (is_static_field t) (table.own_field t k n)) no_class
      (λ k e. in_class k e (table.own_field t k n) refl)
    where
      in_class : (k : ℕ) → class_named O c.name ≡ Some k → (o : Option ℕ) → table.own_field t k n ≡ o
          → Tells (λ f. (k : ℕ) × (class_named O c.name ≡ Some k) × IsStaticFieldOf O k n f) F (static_member n p (is_static_field t) o)
      in_class k e None h = no_field k e
          (λ f s. absurd (cc (let a : own_field_of O k n ≡ None = sym (sees.own k n) ∙ h in let b : own_field_of O k n ≡ Some f = s.own in sym a
          ∙ b)))
      in_class k e (Some f) h = at (slice_get t.fields f) refl
        where
          own_is : own_field_of O k n ≡ Some f
          own_is = sym (sees.own k n) ∙ h

          s : StandsField t O f
          s = sees.own_stands k n f own_is

          at : (o : Option Field) → slice_get t.fields f ≡ o → Tells (λ f. (k : ℕ) × (class_named O c.name ≡ Some k) × IsStaticFieldOf O k n f) F
              (static_at n p f (option_map (λ (x : Field). x.is_static) o))
          at None g = absurd (cc (sym g ∙ s.seen_stands))
          at (Some x) g = used x.is_static refl
            where
              static_is : s.member.is_static ≡ x.is_static
              static_is = s.same.static ∙ ap (λ y. y.is_static) (same_some (sym s.seen_stands ∙ g))

              used : (b : Bool) → x.is_static ≡ b → Tells (λ f. (k : ℕ) × (class_named O c.name ≡ Some k) × IsStaticFieldOf O k n f) F (in_own b n p f)
              used true i = (k, e, record { member = s.member; own = own_is; stands = s.stands; static = static_is ∙ i })
              used false i = no_field k e (λ g q. absurd (false≢true (sym (static_is ∙ i)
                  ∙ ap (λ y. y.is_static) (same_some (sym s.stands ∙ ap (slice_get O.fields) (same_some (sym own_is ∙ q.own)) ∙ q.stands))
                  ∙ q.static)))

  pub static_method-tells : (c : Id) (n : List ℕ) (p : Place) (F : Refusal → Type 0) → (class_named O c.name ≡ None → F (Unknown c.name c.place))
      → ((k : ℕ) → class_named O c.name ≡ Some k → ((m : ℕ) → IsStaticMethodOf O k n m → ⊥) → F (Unknown n p))
      → Tells (λ m. (k : ℕ) × (class_named O c.name ≡ Some k) × IsStaticMethodOf O k n m) F (static_method_of t c n p)
  static_method-tells c n p F no_class no_member =
      in_class-tells c (λ k m. IsStaticMethodOf O k n m) F (λ k. static_member n p (is_static_method t) (own_method t k n)) no_class
      (λ k e. in_class k e (own_method t k n) refl)
    where
      in_class : (k : ℕ) → class_named O c.name ≡ Some k → (o : Option ℕ) → own_method t k n ≡ o
          → Tells (λ m. (k : ℕ) × (class_named O c.name ≡ Some k) × IsStaticMethodOf O k n m) F (static_member n p (is_static_method t) o)
      in_class k e None h = no_member k e (λ m s. absurd (cc (sym h ∙ sees.own_only k n m s)))
      in_class k e (Some m) h = at (slice_get t.headings m) refl
        where
          own : OwnMethod t O k n m
          own = sees.own_found k n m h

          at : (o : Option Heading) → slice_get t.headings m ≡ o → Tells (λ m. (k : ℕ) × (class_named O c.name ≡ Some k) × IsStaticMethodOf O k n m) F
              (static_at n p m (option_map (λ (x : Heading). x.is_static) o))
          at None g = absurd (cc (sym g ∙ own.at.seen_stands))
          at (Some x) g = used x.is_static refl
            where
              static_is : own.at.member.is_static ≡ x.is_static
              static_is = own.at.same.static ∙ ap (λ y. y.is_static) (same_some (sym own.at.seen_stands ∙ g))

              used : (b : Bool) → x.is_static ≡ b → Tells (λ m. (k : ℕ) × (class_named O c.name ≡ Some k) × IsStaticMethodOf O k n m) F (in_own b n p m)
              used true i = (k, e, record { member = own.at.member; stands = own.at.stands; owner = own.owner; name = own.name; static = static_is ∙ i })
              used false i = no_member k e (λ l q. absurd (false≢true (sym (static_is ∙ i)
                  ∙ ap (λ y. y.is_static) (same_some (sym own.at.stands ∙ ap (slice_get O.methods) (same_some (sym h ∙ sees.own_only k n l q))
                  ∙ q.stands)) ∙ q.static)))

  -- ---- a body: its class and kind, and what is in scope

  module _ (here : Here) (scope : List Bound) where
    -- a simple name
    pub name-tells : (n : List ℕ) (p : Place) → Tells (λ x. ResolvesTo O here scope (NameRef n p) x × (numbers x ≡ []))
        (FaultIn O here (bound_names scope) (NameRef n p)) (name_meaning t here scope n p)
    unfolding name_meaning
    name-tells n p = by_local (local_of n scope) refl
      where
        by_static : (f : ℕ) (k : PlainField) → local_of n scope ≡ None → IsNearestField O here.owner n f k → (static own : Bool)
            → k.is_static ≡ static → (k.owner == here.owner) ≡ own
            → Tells (λ x. ResolvesTo O here scope (NameRef n p) x × (numbers x ≡ [])) (FaultIn O here (bound_names scope) (NameRef n p))
            (field_use here n p f static own)
        by_static f k e near true true s o = (r_static_field e near s (eqb-true k.owner here.owner o), refl)
        by_static f k e near true false s o = static_above (unbound-local scope n e) near s (eqb-false k.owner here.owner o)
        by_static f k e near false own s o = go here.is_static refl
          where
            go : (b : Bool) → here.is_static ≡ b → Tells (λ x. ResolvesTo O here scope (NameRef n p) x × (numbers x ≡ []))
                (FaultIn O here (bound_names scope) (NameRef n p)) (in_instance b p (own_field (at_place p) f))
            go true h = own_in_static (unbound-local scope n e) near s h
            go false h = (r_own_field e near s h, refl)

        by_at : (f : ℕ) (s : StandsField t O f) → local_of n scope ≡ None → field_of O here.owner n ≡ Some f → (o : Option Field) → slice_get t.fields f ≡ o
            → Tells (λ x. ResolvesTo O here scope (NameRef n p) x × (numbers x ≡ [])) (FaultIn O here (bound_names scope) (NameRef n p)) (field_at here n p f o)
        by_at f s e near None g = absurd (cc (sym g ∙ s.seen_stands))
        by_at f s e near (Some x) g =
            let same = same_some (sym s.seen_stands ∙ g) in
            by_static f s.member e (record { nearest = near; stands = s.stands }) x.is_static (x.owner.0 == here.owner) (s.same.static
            ∙ ap (λ y. y.is_static) same) (ap (λ y. y == here.owner) (s.same.owner ∙ ap (λ y. y.owner.0) same))

        by_field : local_of n scope ≡ None → (o : Option ℕ) → nearest_field t here.owner n ≡ o
            → Tells (λ x. ResolvesTo O here scope (NameRef n p) x × (numbers x ≡ [])) (FaultIn O here (bound_names scope) (NameRef n p))
            (field_named t here n p o)
        by_field e None h = no_variable (rw (unbound-local scope n e, sym (sees.nearest here.owner n) ∙ h) refl)
        by_field e (Some f) h = let near = sym (sees.nearest here.owner n) ∙ h in by_at f (sees.nearest_stands here.owner n f near) e near
            (slice_get t.fields f) refl

        by_local : (o : Option ℕ) → local_of n scope ≡ o → Tells (λ x. ResolvesTo O here scope (NameRef n p) x × (numbers x ≡ []))
            (FaultIn O here (bound_names scope) (NameRef n p)) (local_named t here n p o)
        by_local (Some i) e = (r_local e, refl)
        by_local None e = by_field e (nearest_field t here.owner n) refl

    -- before a dot: the name of a class, or an expression
    abbrev pub Before : Expression → Option Id → Type 0
    Before e None = is_class_name O here.owner (bound_names scope) e ≡ false
    Before e (Some c) = (e ≡ NameRef c.name c.place) × (is_class_name O here.owner (bound_names scope) e ≡ true)

    pub class-before : (e : Expression) → Before e (class_before t here scope e)
    unfolding is_variable
    class-before (NameRef n p) = go (local_of n scope) refl (field_of O here.owner n) refl
      where
        go : (o : Option ℕ) → local_of n scope ≡ o → (f : Option ℕ) → field_of O here.owner n ≡ f
            → Before (NameRef n p) (class_unless (is_some (local_of n scope) || is_some (nearest_field t here.owner n)) n p)
        go (Some i) e f h = rw e (rw (bound-local scope n i e) refl)
        go None e (Some f) h = rw (e, sees.nearest here.owner n, h) (rw (unbound-local scope n e, h) refl)
        go None e None h = rw (e, sees.nearest here.owner n, h) (refl, rw (unbound-local scope n e, h) refl)
    class-before _ = refl

    -- a call by a simple name
    abbrev pub Calls : List ℕ → Place → Expressions → Receiver → Type 0
    Calls n p es o = (xs : Exs) → AllResolve O here scope es xs → ResolvesTo O here scope (CallOf n es p) (called_on o n xs p)
        × (numbers (called_on o n xs p) ≡ numbers_all xs)

    pub call-tells : (n : List ℕ) (p : Place) (es : Expressions) →
        Tells (Calls n p es) (FaultIn O here (bound_names scope) (CallOf n es p)) (call_meaning t here n p)
    unfolding call_meaning
    call-tells n p es = by_met (method_met t here.owner n) refl
      where
        by_use : (m : ℕ) (k : MetMethod t O here.owner n m) → (static own : Bool) → k.at.member.is_static ≡ static
            → (k.at.member.owner == here.owner) ≡ own
            → Tells (Calls n p es) (FaultIn O here (bound_names scope) (CallOf n es p)) (method_use here n p m static own)
        by_use m k true true s o = λ xs h. (r_own_static_call (k.static s) s (eqb-true k.at.member.owner here.owner o) h, refl)
        by_use m k true false s o = static_method_above (k.static s) s (eqb-false k.at.member.owner here.owner o)
        by_use m k false own s o = go here.is_static refl
          where
            go : (b : Bool) → here.is_static ≡ b → Tells (Calls n p es) (FaultIn O here (bound_names scope) (CallOf n es p)) (called_instance b p)
            go true h = let f = k.instance s in call_in_static f.2 f.3 h
            go false h = λ xs all. let f = k.instance s in (r_own_call f.2 f.3 h all, refl)

        by_at : (m : ℕ) (k : MetMethod t O here.owner n m) → (o : Option Heading) → slice_get t.headings m ≡ o
            → Tells (Calls n p es) (FaultIn O here (bound_names scope) (CallOf n es p)) (method_at here n p m o)
        by_at m k None g = absurd (cc (sym g ∙ k.at.seen_stands))
        by_at m k (Some x) g =
            let same = same_some (sym k.at.seen_stands ∙ g) in
            by_use m k x.is_static (x.owner == here.owner)
            (k.at.same.static ∙ ap (λ y. y.is_static) same) (ap (λ y. y == here.owner) (k.at.same.owner ∙ ap (λ y. y.owner) same))

        by_met : (o : Option ℕ) → method_met t here.owner n ≡ o → Tells (Calls n p es) (FaultIn O here (bound_names scope) (CallOf n es p))
            (method_named t here n p o)
        by_met None e = no_method (λ m k h. sees.met_none here.owner n e m k h)
        by_met (Some m) e = by_at m (sees.met here.owner n m e) (slice_get t.headings m) refl

    -- ---- the walk

    -- what an expression resolves to, numbered from k on
    pub record Walks (e : Expression) (k : ℕ) (w : Ex × ℕ) : Type 0 where
      pub to : ResolvesTo O here scope e w.0
      pub numbered : Counts k (numbers w.0) w.1

    pub record WalksAll (done : Exs) (es : Expressions) (k : ℕ) (w : Exs × ℕ) : Type 0 where
      pub more : List Ex
      pub joined : w.0 ≡ pushed ex_last done more
      pub to : AllResolve O here scope es (exs more)
      pub numbered : Counts k (numbers_all (exs more)) w.1

    pub whole : {es : Expressions} {k : ℕ} {w : Exs × ℕ} (u : WalksAll no_ex es k w) → w.0 ≡ exs u.more
    whole u = u.joined ∙ exs-pushed u.more

    abbrev Fault : Expression → Refusal → Type 0
    Fault e = FaultIn O here (bound_names scope) e

    -- two parts, one behind the other
    field-walks : (k : ℕ) (e : Expression) (n : List ℕ) (p : Place) (c : Option Id) (w : Result (Ex × ℕ) Refusal) → Before e c → Tells (Walks e k) (Fault e) w
        → Tells (Walks (FieldOf e n p) k) (Fault (FieldOf e n p)) (field_walk t k n p c w)
    field-walks k e n p None w b h = tell (Walks (FieldOf e n p) k) (Fault (FieldOf e n p)) w _ h
        (λ x s. record { to = r_field s.to; numbered = s.numbered }) (λ r f. in_base b f)
    field-walks k e n p (Some c) w b h =
        tell (Walks (FieldOf e n p) k) (Fault (FieldOf e n p)) (static_field_of t c n p) _
        (static_field-tells c n p (Fault (FieldOf e n p)) (λ g. rw (b.0) (no_class_of_field (rw b.0 at b.1) g))
        (λ l g none. rw (b.0) (no_static_field (rw b.0 at b.1) g none)))
        (λ f s. record { to = rw (b.0) (r_class_field (rw b.0 at b.1) s.1 s.2); numbered = no_number })
        (λ r f. f)

    -- what a call is on, and how far it counts
    pub record IsReceiver (e : Expression) (n : List ℕ) (p : Place) (k : ℕ) (r : Receiver × ℕ) : Type 0 where
      pub to : (es : Expressions) (xs : Exs) → AllResolve O here scope es xs → ResolvesTo O here scope (CallOn e n es p) (called_on r.0 n xs p)
      pub own : List ℕ
      pub before : (xs : Exs) → numbers (called_on r.0 n xs p) ≡ own ++ numbers_all xs
      pub numbered : Counts k own r.1

    receiver-tells : (k : ℕ) (e : Expression) (n : List ℕ) (p : Place) (es : Expressions) (c : Option Id) (w : Result (Ex × ℕ) Refusal) → Before e c
        → Tells (Walks e k) (Fault e) w
        → Tells (IsReceiver e n p k) (Fault (CallOn e n es p)) (receiver t k n p c w)
    receiver-tells k e n p es None w b h =
        tell (IsReceiver e n p k) (Fault (CallOn e n es p)) w _ h
        (λ x s. record { to = λ es xs all. r_call s.to all; own = numbers x.0; before = λ xs. refl; numbered = s.numbered })
        (λ r f. in_receiver b f)
    receiver-tells k e n p es (Some c) w b h =
        tell (IsReceiver e n p k) (Fault (CallOn e n es p)) (static_method_of t c n p) _
        (static_method-tells c n p (Fault (CallOn e n es p)) (λ g. rw (b.0) (no_class_of_call (rw b.0 at b.1) g))
        (λ l g none. rw (b.0) (no_static_method (rw b.0 at b.1) g none)))
        (λ m s. record { to = λ es xs all. rw (b.0) (r_static_call (rw b.0 at b.1) s.1 s.2 all); own = []; before = λ xs. refl; numbered = no_number })
        (λ r f. f)

    in_body-tells : {A : Type 0} (Q : A → Type 0) (G : Refusal → Type 0) (p : Place) (go : Result A Refusal)
        → (here.is_static ≡ true → G (NotInProfile forms.ThisInStatic p)) → (here.is_static ≡ false → Tells Q G go)
        → Tells Q G (in_body here p go)
    in_body-tells {A} Q G p go bad good = at here.is_static bad good
      where
        at : (b : Bool) → (b ≡ true → G (NotInProfile forms.ThisInStatic p)) → (b ≡ false → Tells Q G go)
            → Tells Q G (if b then Err (NotInProfile forms.ThisInStatic p) else go)
        at true bad good = bad refl
        at false bad good = good refl

    mutual
      pub walk-tells : (k : ℕ) (e : Expression) → Tells (Walks e k) (Fault e) (walk t here scope k e)
      walk-tells k (IntLit v p) = record { to = r_number; numbered = no_number }
      walk-tells k (CharLit c p) = record { to = r_character; numbered = no_number }
      walk-tells k (StrLit u p) = record { to = r_text; numbered = no_number }
      walk-tells k (BoolLit b p) = record { to = r_truth; numbered = no_number }
      walk-tells k (NullLit p) = record { to = r_null; numbered = no_number }
      walk-tells k (ThisRef p) = in_body-tells (Walks (ThisRef p) k) (Fault (ThisRef p)) p _ this_in_static
          (λ h. record { to = r_this h; numbered = no_number })
      walk-tells k (NameRef n p) = tell (Walks (NameRef n p) k) (Fault (NameRef n p)) (name_meaning t here scope n p) _ (name-tells n p)
          (λ x s. record { to = s.0; numbered = rw (s.1) no_number }) (λ r f. f)
      walk-tells k (FieldOf e n p) = field-walks k e n p (class_before t here scope e) (walk t here scope k e) (class-before e) (walk-tells k e)
      walk-tells k (IndexOf e i p) =
          tell (Walks (IndexOf e i p) k) (Fault (IndexOf e i p)) (walk t here scope k e) _ (walk-tells k e)
          (λ x s. tell (Walks (IndexOf e i p) k) (Fault (IndexOf e i p)) (walk t here scope x.1 i) _ (walk-tells x.1 i)
          (λ y u. record { to = r_index s.to u.to; numbered = counts_append s.numbered u.numbered }) (λ r f. in_index f))
          (λ r f. in_array f)
      walk-tells k (CallOf n es p) =
          tell (Walks (CallOf n es p) k) (Fault (CallOf n es p)) (call_meaning t here n p) _ (call-tells n p es)
          (λ m s. tell (Walks (CallOf n es p) k) (Fault (CallOf n es p)) (walk_all t here scope no_ex k es) _ (all-tells k es no_ex)
          (λ y u. let g = s (exs u.more) u.to in record { to = rw (whole u) (g.0); numbered = rw (whole u, g.1) (u.numbered) }) (λ r f. in_arguments f))
          (λ r f. f)
      walk-tells k (CallOn e n es p) =
          tell (Walks (CallOn e n es p) k) (Fault (CallOn e n es p)) (receiver t k n p (class_before t here scope e) (walk t here scope k e)) _
          (receiver-tells k e n p es (class_before t here scope e) (walk t here scope k e) (class-before e) (walk-tells k e))
          (λ x s. tell (Walks (CallOn e n es p) k) (Fault (CallOn e n es p)) (walk_all t here scope no_ex x.1 es) _ (all-tells x.1 es no_ex)
          (λ y u. record {
            to = rw (whole u) (s.to es (exs u.more) u.to);
            numbered = rw (whole u, s.before (exs u.more))
                (counts_append s.numbered u.numbered);
          }) (λ r f. in_call_arguments f))
          (λ r f. f)
      walk-tells k (SuperCallOf n es p) =
          in_body-tells (Walks (SuperCallOf n es p) k) (Fault (SuperCallOf n es p)) p _ super_in_static
          (λ h. tell (Walks (SuperCallOf n es p) k) (Fault (SuperCallOf n es p)) (walk_all t here scope no_ex k es) _ (all-tells k es no_ex)
          (λ y u. record { to = rw (whole u) (r_super_call h u.to); numbered = rw (whole u) (u.numbered) }) (λ r f. in_super_arguments f))
      walk-tells k (NewOf c es p) =
          tell (Walks (NewOf c es p) k) (Fault (NewOf c es p)) (asked t.known c.name c.place) _ (asked-tells t.known O sees.types c.name c.place)
          (λ d e. tell (Walks (NewOf c es p) k) (Fault (NewOf c es p)) (walk_all t here scope no_ex (suc k) es) _ (all-tells (suc k) es no_ex)
          (λ y u. record { to = rw (whole u) (r_create e u.to); numbered = rw (whole u) (next_number u.numbered) }) (λ r f. in_new_arguments f))
          (λ r h. subst (Fault (NewOf c es p)) (sym h.0) (no_class_of_new h.1))
      walk-tells k (NewArrayOf u e p) =
          tell (Walks (NewArrayOf u e p) k) (Fault (NewArrayOf u e p)) (type_of t.known u) _ (type-tells t.known O sees.types u)
          (λ y m. tell (Walks (NewArrayOf u e p) k) (Fault (NewArrayOf u e p)) (walk t here scope (suc k) e) _ (walk-tells (suc k) e)
          (λ x s. record { to = r_create_array m s.to; numbered = next_number s.numbered }) (λ r f. in_size f))
          (λ r f. no_type_of_array f)
      walk-tells k (CastOf u e p) =
          tell (Walks (CastOf u e p) k) (Fault (CastOf u e p)) (cast_type t u) _ (cast-tells u)
          (λ y m. tell (Walks (CastOf u e p) k) (Fault (CastOf u e p)) (walk t here scope (suc k) e) _ (walk-tells (suc k) e)
          (λ x s. record { to = r_cast m s.to; numbered = next_number s.numbered }) (λ r f. in_cast f))
          (λ r f. no_type_of_cast f)
      walk-tells k (InstanceOfClass e c p) =
          tell (Walks (InstanceOfClass e c p) k) (Fault (InstanceOfClass e c p)) (walk t here scope k e) _ (walk-tells k e)
          (λ x s. tell (Walks (InstanceOfClass e c p) k) (Fault (InstanceOfClass e c p)) (asked t.known c.name c.place) _
          (asked-tells t.known O sees.types c.name c.place)
          (λ d m. record { to = r_instance_of s.to m; numbered = counts_append s.numbered (counts_one x.1) })
          (λ r h. subst (Fault (InstanceOfClass e c p)) (sym h.0) (no_class_of_test h.1)))
          (λ r f. in_tested f)
      walk-tells k (UnaryOf m e p) = tell (Walks (UnaryOf m e p) k) (Fault (UnaryOf m e p)) (walk t here scope k e) _ (walk-tells k e)
          (λ x s. record { to = r_unary s.to; numbered = s.numbered }) (λ r f. in_operand f)
      walk-tells k (BinaryOf m a b p) =
          tell (Walks (BinaryOf m a b p) k) (Fault (BinaryOf m a b p)) (walk t here scope k a) _ (walk-tells k a)
          (λ x s. tell (Walks (BinaryOf m a b p) k) (Fault (BinaryOf m a b p)) (walk t here scope x.1 b) _ (walk-tells x.1 b)
          (λ y u. record { to = r_binary s.to u.to; numbered = counts_append s.numbered u.numbered }) (λ r f. in_right f))
          (λ r f. in_left f)

      pub all-tells : (k : ℕ) (es : Expressions) (done : Exs) → Tells (WalksAll done es k) (FaultInOne O here (bound_names scope) es)
          (walk_all t here scope done k es)
      all-tells k no_more done = record { more = []; joined = refl; to = r_no_more; numbered = no_number }
      all-tells k (and_more e es) done =
          tell (WalksAll done (and_more e es) k) (FaultInOne O here (bound_names scope) (and_more e es)) (walk t here scope k e) _ (walk-tells k e)
          (λ x s. turn (walk_all t here scope (ex_last done x.0) x.1 es) (all-tells x.1 es (ex_last done x.0))
          (λ y u. record {
            more = x.0 ∷ u.more;
            joined = u.joined;
            to = r_and_more s.to u.to;
            numbered =
                counts_append s.numbered u.numbered;
          }) (λ r f. in_later f))
          (λ r f. in_first f)
