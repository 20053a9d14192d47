-- An expression or a statement that resolves holds no condition.
use Rattle.std.proofs.Common.{◌≡◌, ℕ, Bool, true, false, not, ◌&&◌, List, Option, Some, None, refl, sym, ap, ◌∙◌, subst, [], ◌∷◌, ◌++◌}
use Rattle.std.specs.Prelude.{slice_get}
use Rattle.std.specs.Option.{is_none}
use Rattle.std.proofs.lemmas.Bool.{false≢true}
use Rattle.kaba_base.specs.declared.Place.{Place}
use Rattle.java_tree.specs.declared.TypeName.{TypeName}
use Rattle.java_tree.specs.declared.TypeBase.{TypeBase}
use Rattle.java_tree.specs.declared.TypeBase.TheVariants as bases
use Rattle.java_core.specs.declared.TyBase.{TyBase}
use Rattle.java_tree.specs.Syntax.{Expression, NameRef, Expressions, Statement, Statements, OptionalStatement}
use Rattle.java_core.specs.Trees.{Ex, Exs, St, Sts, IfArms}
use Rattle.java_core.specs.Programs.{Plain, PlainField, PlainMethod}
use Rattle.java_core.specs.Classes.{field_of}
use Rattle.name_rules.specs.declared.Refusal.{Refusal}
use Rattle.name_rules.specs.declared.parts.Bound.{Bound}
use Rattle.name_rules.specs.declared.parts.Here.{Here}
use Rattle.name_rules.specs.Meanings.{local_of, class_named, MeansBase, an_int, a_boolean, a_char, a_text, a_class, MeansCastBase, to_int, to_boolean, to_char, to_class, is_bound, bound_names, is_class_name, IsStaticFieldOf, IsStaticMethodOf, IsNearestField, IsFirstMethod}
use Rattle.name_rules.specs.Outline.{is_text_type}
use Rattle.name_rules.specs.Resolves.{ResolvesTo, r_this, r_local, r_static_field, r_own_field, r_class_field, r_field, r_index, r_own_static_call, r_own_call, r_static_call, r_call, r_super_call, r_create, r_create_array, r_cast, r_instance_of, r_unary, r_binary, AllResolve, r_and_more, ResolvesIf, r_some, scope_after, scope_after_part, StResolves, r_declare, r_block, r_assign, r_act, r_print, r_choose, r_while, r_for, r_return, StsResolve, r_and_then, ArmsResolve, r_else, r_arm, PartResolves, r_absent, r_present}
use Rattle.name_rules.specs.Conditions.{IsUnknownType, no_such_type, IsUnknownCast, no_such_cast, FaultIn, this_in_static, no_variable, static_above, own_in_static, no_class_of_field, no_static_field, in_base, in_array, in_index, no_method, static_method_above, call_in_static, in_arguments, no_class_of_call, no_static_method, in_receiver, in_call_arguments, super_in_static, in_super_arguments, no_class_of_new, in_new_arguments, no_type_of_array, in_size, no_type_of_cast, in_cast, no_class_of_test, in_tested, in_operand, in_left, in_right, FaultInOne, in_first, in_later, FaultInValue, in_value, names_after, names_after_part, StFault, no_type_of_local, type_as_local, local_twice, in_first_value, in_block, in_target, in_assigned, in_call, in_printed, in_choice, in_else, in_while_test, in_while, in_first_part, in_for_test, in_last_part, in_for, in_returned, break_outside, continue_outside, StsFault, in_statement, in_rest, ArmsFault, in_test, in_arm, in_more_arms, PartFault, in_part}
use Rattle.name_rules.proofs.FirstMethods.{first-met, one-first}
use Rattle.name_laws.proofs.Sees.{bound-local, same_some}
use Rattle.std.proofs.lemmas.List.{map-append}
use Rattle.java_tree.specs.Syntax as tree

module _ (O : Plain) (here : Here) (scope : List Bound) where
  -- two nearest fields of a name are one
  pub one-nearest : {n : List ℕ} {f g : ℕ} {h k : PlainField} → IsNearestField O here.owner n f h → IsNearestField O here.owner n g k → h ≡ k
  one-nearest {n} {f} {g} {h} {k} a b = same_some (sym a.stands ∙ ap (slice_get O.fields) (same_some (sym a.nearest ∙ b.nearest)) ∙ b.stands)

  -- a variable is no class's name
  bound-class : (n : List ℕ) (p : Place) (i : ℕ) → local_of n scope ≡ Some i → is_class_name O here.owner (bound_names scope) (NameRef n p) ≡ true → ⊥
  bound-class n p i e c = false≢true (sym (ap (λ z. not z && is_none (field_of O here.owner n)) (bound-local scope n i e)) ∙ c)

  field-class : (n : List ℕ) (p : Place) (f : ℕ) → field_of O here.owner n ≡ Some f → is_class_name O here.owner (bound_names scope) (NameRef n p) ≡ true → ⊥
  field-class n p f e c = go (is_bound (bound_names scope) n) (sym (ap (λ z. not (is_bound (bound_names scope) n) && is_none z) e) ∙ c)
    where
      go : (b : Bool) → not b && false ≡ true → ⊥
      go true d = false≢true d
      go false d = false≢true d

  -- a simple name that resolves is no class's, and holds no condition
  pub name-class : {n : List ℕ} {p : Place} {x : Ex} → ResolvesTo O here scope (NameRef n p) x → is_class_name O here.owner (bound_names scope)
      (NameRef n p) ≡ true → ⊥
  name-class {n} {p} (r_local {i = i} e) c = bound-class n p i e c
  name-class {n} {p} (r_static_field {f = f} e near s o) c = field-class n p f near.nearest c
  name-class {n} {p} (r_own_field {f = f} e near s o) c = field-class n p f near.nearest c

  pub name-holds : {n : List ℕ} {p : Place} {x : Ex} {r : Refusal} → ResolvesTo O here scope (NameRef n p) x
      → FaultIn O here (bound_names scope) (NameRef n p) r → ⊥
  name-holds h (no_variable c) = name-class h c
  name-holds {n} (r_local {i = i} e) (static_above b near s o) = false≢true (sym b ∙ bound-local scope n i e)
  name-holds (r_static_field e near s o) (static_above b other t q) = q (sym (ap (λ z. z.owner) (one-nearest near other)) ∙ o)
  name-holds (r_own_field e near s o) (static_above b other t q) = false≢true (sym s ∙ ap (λ z. z.is_static) (one-nearest near other) ∙ t)
  name-holds {n} (r_local {i = i} e) (own_in_static b near s o) = false≢true (sym b ∙ bound-local scope n i e)
  name-holds (r_static_field e near s o) (own_in_static b other t q) = false≢true (sym t ∙ sym (ap (λ z. z.is_static) (one-nearest near other)) ∙ s)
  name-holds (r_own_field e near s o) (own_in_static b other t q) = false≢true (sym o ∙ q)

  no-some : {A : Type 0} {o : Option A} {a : A} → o ≡ Some a → o ≡ None → ⊥
  no-some e f = cc (sym f ∙ e)

  pub type-holds : (u : TypeName) (b : TypeBase) (x : TyBase) (r : Refusal) → u.base ≡ b → MeansBase O b x → IsUnknownType O u r → ⊥
  type-holds u bases.Int x r e an_int (no_such_type f g h) = cc (sym e ∙ f)
  type-holds u bases.Boolean x r e a_boolean (no_such_type f g h) = cc (sym e ∙ f)
  type-holds u bases.Char x r e a_char (no_such_type f g h) = cc (sym e ∙ f)
  type-holds u (bases.Named k) x r e (a_text t) (no_such_type {n = n} f g h) = let s : k ≡ n = cc in false≢true (sym g ∙ ap is_text_type (sym s) ∙ t)
  type-holds u (bases.Named k) x r e (a_class t c) (no_such_type {n = n} f g h) = let s : k ≡ n = cc in no-some c (ap (class_named O) s ∙ h)

  cast-holds : (u : TypeName) (b : TypeBase) (x : TyBase) (r : Refusal) → u.base ≡ b → MeansCastBase O b x → IsUnknownCast O u r → ⊥
  cast-holds u bases.Int x r e to_int (no_such_cast f h) = cc (sym e ∙ f)
  cast-holds u bases.Boolean x r e to_boolean (no_such_cast f h) = cc (sym e ∙ f)
  cast-holds u bases.Char x r e to_char (no_such_cast f h) = cc (sym e ∙ f)
  cast-holds u (bases.Named k) x r e (to_class c) (no_such_cast {n = n} f h) = let s : k ≡ n = cc in no-some c (ap (class_named O) s ∙ h)

  same-first : {n : List ℕ} {l m : ℕ} {h k : PlainMethod} → IsFirstMethod O here.owner n l h → IsFirstMethod O here.owner n m k → h ≡ k
  same-first a b = (one-first O a b).1

  mutual
    pub holds : {e : Expression} {x : Ex} {r : Refusal} → FaultIn O here (bound_names scope) e r → ResolvesTo O here scope e x → ⊥
    holds (this_in_static s) (r_this h) = false≢true (sym h ∙ s)
    holds (no_variable c) h = name-holds h (no_variable c)
    holds (static_above b near s o) h = name-holds h (static_above b near s o)
    holds (own_in_static b near s o) h = name-holds h (own_in_static b near s o)
    holds (no_class_of_field c g) (r_class_field d k s) = no-some k g
    holds (no_class_of_field c g) (r_field h) = name-class h c
    holds (no_static_field {n = n} c k none) (r_class_field {f = f} d l s) = none f (subst (λ z. IsStaticFieldOf O z n f) (same_some (sym l ∙ k)) s)
    holds (no_static_field c k none) (r_field h) = name-class h c
    holds (in_base b f) (r_class_field d k s) = false≢true (sym b ∙ d)
    holds (in_base b f) (r_field h) = holds f h
    holds (in_array f) (r_index h i) = holds f h
    holds (in_index f) (r_index h i) = holds f i
    holds (no_method none) (r_own_static_call {m = m} {k = k} met s o es) = none m k (first-met O met)
    holds (no_method none) (r_own_call {m = m} {k = k} met s o es) = none m k (first-met O met)
    holds (static_method_above met s o) (r_own_static_call other t own es) = o (ap (λ z. z.owner) (same-first met other) ∙ own)
    holds (static_method_above met s o) (r_own_call other t own es) = false≢true (sym t ∙ sym (ap (λ z. z.is_static) (same-first met other)) ∙ s)
    holds (call_in_static met s o) (r_own_static_call other t own es) = false≢true (sym s ∙ sym (ap (λ z. z.is_static) (same-first other met)) ∙ t)
    holds (call_in_static met s o) (r_own_call other t own es) = false≢true (sym own ∙ o)
    holds (in_arguments f) (r_own_static_call met s o es) = none-holds f es
    holds (in_arguments f) (r_own_call met s o es) = none-holds f es
    holds (no_class_of_call c g) (r_static_call d k s es) = no-some k g
    holds (no_class_of_call c g) (r_call h es) = name-class h c
    holds (no_static_method {n = n} c k none) (r_static_call {m = m} d l s es) = none m (subst (λ z. IsStaticMethodOf O z n m) (same_some (sym l ∙ k)) s)
    holds (no_static_method c k none) (r_call h es) = name-class h c
    holds (in_receiver b f) (r_static_call d k s es) = false≢true (sym b ∙ d)
    holds (in_receiver b f) (r_call h es) = holds f h
    holds (in_call_arguments f) (r_static_call d k s es) = none-holds f es
    holds (in_call_arguments f) (r_call h es) = none-holds f es
    holds (super_in_static s) (r_super_call h es) = false≢true (sym h ∙ s)
    holds (in_super_arguments f) (r_super_call h es) = none-holds f es
    holds (no_class_of_new g) (r_create h es) = no-some h g
    holds (in_new_arguments f) (r_create h es) = none-holds f es
    holds (no_type_of_array {u = u} {r = r} f) (r_create_array {t = t} m h) = type-holds u u.base t.base r refl m.base f
    holds (in_size f) (r_create_array m h) = holds f h
    holds (no_type_of_cast {u = u} {r = r} f) (r_cast {t = t} m h) = cast-holds u u.base t.base r refl m.base f
    holds (in_cast f) (r_cast m h) = holds f h
    holds (no_class_of_test g) (r_instance_of h c) = no-some c g
    holds (in_tested f) (r_instance_of h c) = holds f h
    holds (in_operand f) (r_unary h) = holds f h
    holds (in_left f) (r_binary h i) = holds f h
    holds (in_right f) (r_binary h i) = holds f i

    pub none-holds : {es : Expressions} {xs : Exs} {r : Refusal} → FaultInOne O here (bound_names scope) es r → AllResolve O here scope es xs → ⊥
    none-holds (in_first f) (r_and_more h hs) = holds f h
    none-holds (in_later f) (r_and_more h hs) = none-holds f hs

module _ (O : Plain) (here : Here) (k : PlainMethod) where
  -- ---- expressions

  expr-holds : {scope : List Bound} {names : List (List ℕ)} {e : Expression} {x : Ex} {r : Refusal} → names ≡ bound_names scope
      → FaultIn O here names e r → ResolvesTo O here scope e x → ⊥
  expr-holds {scope} {names} {e} {x} {r} q f h = holds O here scope (subst (λ z. FaultIn O here z e r) q f) h

  value-holds : {scope : List Bound} {names : List (List ℕ)} {v : Option Expression} {x : Option Ex} {r : Refusal} → names ≡ bound_names scope
      → FaultInValue O here names v r → ResolvesIf O here scope v x → ⊥
  value-holds q (in_value f) (r_some h) = expr-holds q f h

  -- ---- scopes

  bound-more : (scope : List Bound) (names : List (List ℕ)) (n : List ℕ) (i : ℕ) → names ≡ bound_names scope
      → names ++ n ∷ [] ≡ bound_names (scope ++ record { name = n; number = i } ∷ [])
  bound-more scope names n i q = ap (λ z. z ++ n ∷ []) q ∙ sym (map-append (λ b. b.name) scope (record { name = n; number = i } ∷ []))

  after-names : {inside : Bool} {scope : List Bound} {names : List (List ℕ)} {s : Statement} {x : St} → names ≡ bound_names scope
      → StResolves O here k inside scope s x → names_after names s ≡ bound_names (scope_after scope s x)
  after-names {scope = scope} {names = names} q (r_declare {n = n} {i = i} l v) = bound-more scope names n i q
  after-names q _ = q

  part-names : {inside : Bool} {scope : List Bound} {names : List (List ℕ)} {s : OptionalStatement} {xs : Sts} → names ≡ bound_names scope
      → PartResolves O here k inside scope s xs → names_after_part names s ≡ bound_names (scope_after_part scope s xs)
  part-names q r_absent = q
  part-names q (r_present h) = after-names q h

  -- the `else` behind some arms
  else-resolves : {inside : Bool} {scope : List Bound} {a : tree.Arms} {ss : Statements} {xs : IfArms}
      → ArmsResolve O here k inside scope a (tree.otherwise ss) xs → (ys : Sts) × StsResolve O here k inside scope ss ys
  else-resolves (r_else {xs = xs} h) = (xs, h)
  else-resolves (r_arm t h more) = else-resolves more

  -- ---- statements

  mutual
    pub st-holds : {inside : Bool} {scope : List Bound} {names : List (List ℕ)} {s : Statement} {x : St} {r : Refusal} → names ≡ bound_names scope
        → StFault O here inside names s r → StResolves O here k inside scope s x → ⊥
    st-holds {scope = scope} q (no_type_of_local {u = u} {r = r} f) (r_declare l v) = type-holds O here scope u u.base l.ty.base r refl l.means.base f
    st-holds q (type_as_local f) (r_declare l v) = false≢true (sym l.no_type ∙ f)
    st-holds q (local_twice {n = n} f) (r_declare l v) = false≢true (sym l.fresh ∙ ap (λ z. is_bound z n) (sym q) ∙ f)
    st-holds {scope = scope} {names = names} q (in_first_value {n = n} f) (r_declare {i = i} l v) = value-holds (bound-more scope names n i q) f v
    st-holds q (in_block f) (r_block h) = sts-holds q f h
    st-holds q (in_target f) (r_assign h i) = expr-holds q f h
    st-holds q (in_assigned f) (r_assign h i) = expr-holds q f i
    st-holds q (in_call f) (r_act h) = expr-holds q f h
    st-holds q (in_printed f) (r_print h) = value-holds q f h
    st-holds q (in_choice f) (r_choose h) = arms-hold q f h
    st-holds q (in_else f) (r_choose h) = let o = else-resolves h in sts-holds q f o.1
    st-holds q (in_while_test f) (r_while h hs) = expr-holds q f h
    st-holds q (in_while f) (r_while h hs) = sts-holds q f hs
    st-holds q (in_first_part f) (r_for a v b h) = part-holds q f a
    st-holds q (in_for_test f) (r_for a v b h) = value-holds (part-names q a) f v
    st-holds q (in_last_part f) (r_for a v b h) = part-holds (part-names q a) f b
    st-holds q (in_for f) (r_for a v b h) = sts-holds (part-names q a) f h
    st-holds q (in_returned f) (r_return h) = value-holds q f h
    st-holds q break_outside h = elim h [ ]
    st-holds q continue_outside h = elim h [ ]

    pub sts-holds : {inside : Bool} {scope : List Bound} {names : List (List ℕ)} {ss : Statements} {xs : Sts} {r : Refusal}
        → names ≡ bound_names scope → StsFault O here inside names ss r → StsResolve O here k inside scope ss xs → ⊥
    sts-holds q (in_statement f) (r_and_then h hs) = st-holds q f h
    sts-holds q (in_rest f) (r_and_then h hs) = sts-holds (after-names q h) f hs

    arms-hold : {inside : Bool} {scope : List Bound} {names : List (List ℕ)} {a : tree.Arms} {o : tree.Else} {xs : IfArms} {r : Refusal}
        → names ≡ bound_names scope → ArmsFault O here inside names a r → ArmsResolve O here k inside scope a o xs → ⊥
    arms-hold q (in_test f) (r_arm t h more) = expr-holds q f t
    arms-hold q (in_arm f) (r_arm t h more) = sts-holds q f h
    arms-hold q (in_more_arms f) (r_arm t h more) = arms-hold q f more

    part-holds : {inside : Bool} {scope : List Bound} {names : List (List ℕ)} {s : OptionalStatement} {xs : Sts} {r : Refusal}
        → names ≡ bound_names scope → PartFault O here inside names s r → PartResolves O here k inside scope s xs → ⊥
    part-holds q (in_part f) (r_present h) = st-holds q f h
