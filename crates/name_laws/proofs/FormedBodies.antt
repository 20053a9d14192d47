-- A body that resolves is formed: its names are in scope, its members there, its forms the grammar's.
use Rattle.std.proofs.Common.{◌≡◌, ℕ, suc, ◌<◌, ◌≤◌, ◌⊎◌, inl, inr, ⊎_elim, Bool, true, false, ◌||◌, List, [], ◌∷◌, ◌++◌, length, Option, Some, None, Contains, refl, sym, ap, ◌∙◌, subst, arith}
use Rattle.std.specs.Prelude.{slice_get, if◌then◌else◌, ◌==◌}
use Rattle.java_lex.specs.Writable.{IsName}
use Rattle.std.specs.List.{AllByRecursion}
use Rattle.std.specs.Str.{bytes_eq}
use Rattle.std.specs.Option.{is_some}
use Rattle.std.proofs.lemmas.Bool.{false≢true, or_left, or_right, eqb-true, eqb-false}
use Rattle.std.proofs.lemmas.List.{map-append}
use Rattle.std.proofs.lemmas.List.Folds.{list_any-append}
use Rattle.std.proofs.lemmas.Slice.Eq.{bytes_eq-Decides}
use Rattle.std.proofs.lemmas.Option.{slice_get_within}
use Rattle.kaba_base.specs.declared.Place.{Place}
use Rattle.kaba_base.proofs.ListLemmas.{first, later, contains_cases}
use Rattle.java_tree.specs.declared.TypeName.{TypeName}
use Rattle.java_tree.specs.declared.TypeBase.{TypeBase}
use Rattle.java_tree.specs.declared.TypeBase.TheVariants as bases
use Rattle.java_tree.specs.Syntax.{Expression, NameRef, FieldOf, IndexOf, CallOf, CallOn, SuperCallOf, NewOf, Expressions, Statement, Statements, Else, OptionalStatement}
use Rattle.java_tree.specs.Syntax as tree
use Rattle.java_core.specs.declared.Ty.{Ty}
use Rattle.java_core.specs.declared.TyBase.{TyBase}
use Rattle.java_core.specs.Trees.{at_place, Ex, Exs, St, choose, Sts, IfArms}
use Rattle.java_core.specs.Programs.{Plain, PlainLocal, PlainField, PlainMethod}
use Rattle.java_core.specs.Formed.{IsLiteral, small, least, IsClass, IsKnownBase, IsProgramType, IsCastType, variables_of, IsNewLocal, IsStaticField, IsStaticMethod, IsOwnField, is_at_most_one, is_first, of_while, of_for, FormedEx, f_number, f_character, f_text, f_truth, f_null, f_this, f_local, f_static_field, f_own_field, f_field, f_index, f_call, f_static_call, f_super_call, f_create, f_create_array, f_cast, f_instance_of, f_unary, f_binary, FormedExs, f_no_ex, f_ex_then, FormedTarget, f_to_local, f_to_static, f_to_own, f_to_field, f_to_element, FormedOption, f_none, f_some, FormedSt, f_declare, f_block, f_assign, f_act, f_print, f_choose, f_loop, f_return, f_break, f_continue, FormedSts, f_no_st, f_st_then, FormedArms, f_no_other, f_otherwise, f_arm}
use Rattle.java_core.specs.Formed as core
use Rattle.name_rules.specs.declared.parts.Bound.{Bound}
use Rattle.name_rules.specs.declared.parts.Here.{Here}
use Rattle.name_rules.specs.Meanings.{local_of}
use Rattle.name_rules.specs.Resolves.{target, bound}
use Rattle.name_rules.specs.Outline.{is_type_name}
use Rattle.name_rules.specs.Meanings.{type_names, class_named, Means, MeansBase, an_int, a_boolean, a_char, a_text, a_class, MeansCast, MeansCastBase, to_int, to_boolean, to_char, to_class, is_bound, bound_names, IsNearestField}
use Rattle.java_tree.specs.Formed.{IsNumber, a_small, the_least, IsCastBase, is_target, is_call, is_act, is_simple, IsFormedExpression, AreFormed, IsFormedValue, IsFormedStmt, AreFormedStmts, AreFormedArms, IsFormedElse, IsFormedFirst, IsFormedStep, has_arm}
use Rattle.name_rules.specs.Resolves.{Counts, no_number, next_number, ResolvesTo, r_number, r_character, r_text, r_truth, r_null, r_this, r_local, r_static_field, r_own_field, r_class_field, r_field, r_index, r_own_static_call, r_own_call, r_static_call, r_call, r_super_call, r_create, r_create_array, r_cast, r_instance_of, r_unary, r_binary, AllResolve, r_no_more, r_and_more, ResolvesIf, r_none, r_some, scope_after, scope_after_part, IsDeclaredLocal, StResolves, r_declare, r_block, r_assign, r_act, r_print, r_choose, r_while, r_for, r_return, r_break, r_continue, StsResolve, r_no_statements, r_and_then, ArmsResolve, r_no_else, r_else, r_arm, PartResolves, r_absent, r_present, declares, declares_all, declares_arms}
use Rattle.name_laws.proofs.Sees.{same_some}
use Rattle.name_laws.proofs.Statements.{IsFormedPart, of-first, of-step}

-- a program and a method of it, seen from the outline
pub record Suits (O : Plain) (here : Here) (P : Plain) (k : PlainMethod) : Type 0 where
  pub classes : (n : List ℕ) (c : ℕ) → class_named O n ≡ Some c → IsClass P c
  pub static_field : (f : ℕ) (x : PlainField) → slice_get O.fields f ≡ Some x → x.is_static ≡ true → IsStaticField P f
  pub own : (n : List ℕ) (f : ℕ) (x : PlainField) → IsNearestField O here.owner n f x → x.is_static ≡ false → IsOwnField P k.owner f
  pub static_method : (m : ℕ) (x : PlainMethod) → slice_get O.methods m ≡ Some x → x.is_static ≡ true → IsStaticMethod P m
  pub static : here.is_static ≡ false → k.is_static ≡ false

-- the names in scope and their numbers
pub record ScopeIs (k : PlainMethod) (scope : List Bound) (nums : List ℕ) : Type 0 where
  pub found : (n : List ℕ) (i : ℕ) → local_of n scope ≡ Some i → Contains nums i × (i < length (variables_of k))
  pub named : (j : ℕ) (v : PlainLocal) → Contains nums j → slice_get (variables_of k) j ≡ Some v → is_bound (bound_names scope) v.name ≡ true

local_of-last : (scope : List Bound) (b : Bound) (n : List ℕ) (i : ℕ) → local_of n (scope ++ b ∷ []) ≡ Some i → (local_of n scope ≡ Some i) ⊎ (b.number ≡ i)
local_of-last [] b n i e = go (bytes_eq b.name n) e
  where
    go : (c : Bool) → (if c then Some b.number else None) ≡ Some i → (local_of n [] ≡ Some i) ⊎ (b.number ≡ i)
    go true e = inr (let f : b.number ≡ i = cc in f)
    go false e = absurd (cc e)
local_of-last (x ∷ scope) b n i e = go (bytes_eq x.name n) refl (local_of-last scope b n i)
  where
    go : (c : Bool) → bytes_eq x.name n ≡ c → (local_of n (scope ++ b ∷ []) ≡ Some i → (local_of n scope ≡ Some i) ⊎ (b.number ≡ i))
        → (local_of n (x ∷ scope) ≡ Some i) ⊎ (b.number ≡ i)
    go true f more = inl (ap (λ z. if z then Some x.number else local_of n scope) f
        ∙ sym (ap (λ z. if z then Some x.number else local_of n (scope ++ b ∷ [])) f) ∙ e)
    go false f more = ⊎_elim (λ h. inl (ap (λ z. if z then Some x.number else local_of n scope) f ∙ h)) (λ h. inr h)
        (more (sym (ap (λ z. if z then Some x.number else local_of n (scope ++ b ∷ [])) f) ∙ e))

pub scope-more : {k : PlainMethod} {scope : List Bound} {nums : List ℕ} (n : List ℕ) (i : ℕ) (w : PlainLocal) → ScopeIs k scope nums
    → slice_get (variables_of k) i ≡ Some w → w.name ≡ n → ScopeIs k (bound scope n i) (i ∷ nums)
scope-more {k} {scope} {nums} n i w s at same = record {
  found = λ m j e. ⊎_elim
      (λ h. let f = s.found m j h in (later i nums j f.0, f.1))
      (λ h. (subst (λ z. Contains (i ∷ nums) z) h (first i nums), subst (λ z. z < length (variables_of k)) h (slice_get_within (variables_of k) i w at)))
      (local_of-last scope (record { name = n; number = i }) m j e);
  named = λ j v c e. ap (λ z. is_bound z v.name) (map-append (λ b. b.name) scope (record { name = n; number = i } ∷ []))
      ∙ list_any-append (λ m. bytes_eq m v.name) (bound_names scope) (n ∷ [])
      ∙ ⊎_elim
      (λ h. or_right (is_bound (bound_names scope) v.name) (is_bound (n ∷ []) v.name)
      (or_left (bytes_eq n v.name) false ((bytes_eq-Decides n v.name).1 (sym same
      ∙ ap (λ z. z.name) (same_some (sym at ∙ subst (λ z. slice_get (variables_of k) z ≡ Some v) (sym h) e))))))
      (λ h. or_left (is_bound (bound_names scope) v.name) (is_bound (n ∷ []) v.name) (s.named j v h e))
      (contains_cases i nums j c);
}

-- ---- types

module _ (O : Plain) (here : Here) (P : Plain) (k : PlainMethod) (suits : Suits O here P k) where
  known-base : (b : TypeBase) (x : TyBase) → MeansBase O b x → IsKnownBase P x
  known-base bases.Int x an_int = tt
  known-base bases.Boolean x a_boolean = tt
  known-base bases.Char x a_char = tt
  known-base (bases.Named n) x (a_text e) = tt
  known-base (bases.Named n) x (a_class {c = c} e f) = suits.classes n c f

  pub known-type : (u : TypeName) (t : Ty) → Means O u t → IsProgramType P t
  known-type u t m = known-base u.base t.base m.base

  cast-base : (b : TypeBase) (x : TyBase) → IsCastBase b → MeansCastBase O b x → IsCastType P (record { base = x; dim = 0 })
  cast-base bases.Int x g to_int = core.to_int
  cast-base bases.Boolean x g to_boolean = absurd g
  cast-base bases.Char x g to_char = core.to_char
  cast-base (bases.Named n) x g (to_class {c = c} e) = core.to_class (suits.classes n c e)

  cast-type : (u : TypeName) (t : Ty) → IsCastBase u.base → u.dim ≡ 0 → MeansCast O u t → IsCastType P t
  cast-type u t g d m = subst (λ z. IsCastType P (record { base = t.base; dim = z })) (sym (m.dim ∙ d)) (cast-base u.base t.base g m.base)

  literal : {z : _} → IsNumber z → IsLiteral z
  literal (a_small h) = small h
  literal the_least = least

  module _ (scope : List Bound) (nums : List ℕ) (s : ScopeIs k scope nums) where
    mutual
      pub formed : {e : Expression} {x : Ex} → ResolvesTo O here scope e x → IsFormedExpression e → FormedEx P k nums x
      formed r_number g = f_number (literal g)
      formed r_character g = f_character g
      formed r_text g = f_text g
      formed r_truth g = f_truth
      formed r_null g = f_null
      formed (r_this h) g = f_this (suits.static h)
      formed (r_local {n = n} {i = i} h) g = let f = s.found n i h in f_local f.0 f.1
      formed (r_static_field {f = f} {k = x} h near st own) g = f_static_field (suits.static_field f x near.stands st)
      formed (r_own_field {n = n} {f = f} {k = x} h near st own) g = f_own_field (suits.static own) (suits.own n f x near st)
      formed (r_class_field {f = f} h c st) g = f_static_field (suits.static_field f st.member st.stands st.static)
      formed (r_field h) g = f_field (formed h g.0) g.1
      formed (r_index h i) g = f_index (formed h g.0) (formed i g.1)
      formed (r_own_static_call {m = m} {k = x} met st own es) g = f_static_call (suits.static_method m x met.stands st) (formed-all es g.1)
      formed (r_own_call met st own es) g = f_call (f_this (suits.static own)) (inl g.0) (formed-all es g.1)
      formed (r_static_call {m = m} h c st es) g = f_static_call (suits.static_method m st.member st.stands st.static) (formed-all es g.2)
      formed (r_call h es) g = f_call (formed h g.0) (inl g.1) (formed-all es g.2)
      formed (r_super_call h es) g = f_super_call (suits.static h) g.0 (formed-all es g.1)
      formed (r_create {c = c} {k = d} h es) g = f_create (suits.classes c.name d h) (formed-all es g.1)
      formed (r_create_array {u = u} {t = t} m h) g = f_create_array (known-type u t m) (let d = m.dim in let l = g.1 in omega (arith, d, l)) (formed h g.2)
      formed (r_cast {u = u} {t = t} m h) g = f_cast (cast-type u t g.0 g.1 m) (formed h g.2)
      formed (r_instance_of {c = c} {k = d} h e) g = f_instance_of (formed h g.0) (suits.classes c.name d e)
      formed (r_unary h) g = f_unary (formed h g.1)
      formed (r_binary h i) g = f_binary (formed h g.1) (formed i g.2)

      pub formed-all : {es : Expressions} {xs : Exs} → AllResolve O here scope es xs → AreFormed es → FormedExs P k nums xs
      formed-all r_no_more g = f_no_ex
      formed-all (r_and_more h hs) g = f_ex_then (formed h g.0) (formed-all hs g.1)

    pub formed-if : {v : Option Expression} {x : Option Ex} → ResolvesIf O here scope v x → IsFormedValue v → FormedOption P k nums x
    formed-if r_none g = f_none
    formed-if (r_some h) g = f_some (formed h g)

    formed-target : (e : Expression) (x : Ex) → is_target e ≡ true → ResolvesTo O here scope e x → IsFormedExpression e → FormedTarget P k nums (target x)
    formed-target (NameRef n p) x t (r_local {i = i} h) g = let f = s.found n i h in f_to_local f.0 f.1
    formed-target (NameRef n p) x t (r_static_field {f = f} {k = y} h near st own) g = f_to_static (suits.static_field f y near.stands st)
    formed-target (NameRef n p) x t (r_own_field {f = f} {k = y} h near st own) g = f_to_own (suits.static own) (suits.own n f y near st)
    formed-target (FieldOf e n p) x t (r_class_field {f = f} h c st) g = f_to_static (suits.static_field f st.member st.stands st.static)
    formed-target (FieldOf e n p) x t (r_field h) g = f_to_field (formed h g.0) g.1
    formed-target (IndexOf e i p) x t (r_index h j) g = f_to_element (formed h g.0) (formed j g.1)
    formed-target _ x t h g = absurd (false≢true t)

    formed-call : (e : Expression) (x : Ex) → is_call e ≡ true → ResolvesTo O here scope e x → core.is_call x ≡ true
    formed-call (CallOf n es p) x t (r_own_static_call a b c d) = refl
    formed-call (CallOf n es p) x t (r_own_call a b c d) = refl
    formed-call (CallOn e n es p) x t (r_static_call a b c d) = refl
    formed-call (CallOn e n es p) x t (r_call a b) = refl
    formed-call (SuperCallOf n es p) x t (r_super_call a b) = refl
    formed-call (NewOf c es p) x t (r_create a b) = refl
    formed-call _ x t h = absurd (false≢true t)

  -- ---- statements

  -- the numbers in scope after a statement
  after-scope : {in_loop : Bool} {scope : List Bound} {nums : List ℕ} {x : Statement} {y : St} → StResolves O here k in_loop scope x y
      → ScopeIs k scope nums → ScopeIs k (scope_after scope x y) (core.scope_after nums y)
  after-scope (r_declare {n = n} {i = i} l v) s = scope-more n i _ s l.stands refl
  after-scope (r_block h) s = s
  after-scope (r_assign h i) s = s
  after-scope (r_act h) s = s
  after-scope (r_print h) s = s
  after-scope (r_choose h) s = s
  after-scope (r_while h i) s = s
  after-scope (r_for a b c d) s = s
  after-scope (r_return h) s = s
  after-scope r_break s = s
  after-scope r_continue s = s

  part-scope : {in_loop : Bool} {scope : List Bound} {nums : List ℕ} {x : OptionalStatement} {ys : Sts} → PartResolves O here k in_loop scope x ys
      → ScopeIs k scope nums → ScopeIs k (scope_after_part scope x ys) (core.scope_after_all nums ys)
  part-scope r_absent s = s
  part-scope (r_present h) s = after-scope h s

  act-formed : {in_loop : Bool} {scope : List Bound} {x : Statement} {y : St} → StResolves O here k in_loop scope x y → is_act x ≡ true
      → core.is_act y ≡ true
  act-formed (r_assign h i) e = refl
  act-formed (r_act h) e = refl
  act-formed (r_print h) e = refl
  act-formed _ e = absurd (false≢true e)

  first-formed : {in_loop : Bool} {scope : List Bound} {x : Statement} {y : St} → StResolves O here k in_loop scope x y → is_simple x ≡ true
      → is_first y ≡ true
  first-formed (r_declare l v) e = refl
  first-formed (r_assign h i) e = refl
  first-formed (r_act h) e = refl
  first-formed (r_print h) e = refl
  first-formed _ e = absurd (false≢true e)

  -- locals are numbered behind the parameters
  abbrev pub Behind : List ℕ → Type 0
  Behind ds = AllByRecursion (λ i. length k.params ≤ i) ds

  behind-left : (xs ys : List ℕ) → Behind (xs ++ ys) → Behind xs
  behind-left [] ys h = tt
  behind-left (x ∷ xs) ys h = (h.0, behind-left xs ys h.1)

  behind-right : (xs ys : List ℕ) → Behind (xs ++ ys) → Behind ys
  behind-right [] ys h = h
  behind-right (x ∷ xs) ys h = behind-right xs ys h.1

  new-local : {scope : List Bound} {nums : List ℕ} {u : TypeName} {n : List ℕ} {p : Place} {i : ℕ} → IsDeclaredLocal O k scope u n p i → ScopeIs k scope nums
      → length k.params ≤ i → IsNewLocal k nums i
  new-local {scope} {nums} {n = n} {i = i} l s b =
      record {
        variable = _;
        declared = l.stands;
        no_parameter = b;
        other = λ j v c e same. false≢true (sym l.fresh ∙ ap (is_bound (bound_names scope)) (sym same) ∙ s.named j v c e);
      }

  printed : (line : Bool) {scope : List Bound} {v : Option Expression} {x : Option Ex} → ResolvesIf O here scope v x → (line || is_some v) ≡ true
      → line || is_some x ≡ true
  printed line r_none e = e
  printed line (r_some h) e = e

  mutual
    pub formed-st : {in_loop : Bool} {scope : List Bound} {nums : List ℕ} {x : Statement} {y : St} → StResolves O here k in_loop scope x y
        → ScopeIs k scope nums → IsFormedStmt x → Behind (declares y) → FormedSt P k in_loop nums y
    formed-st (r_declare {n = n} {i = i} l v) s g b = f_declare (new-local l s b.0) (formed-if _ _ (scope-more n i _ s l.stands refl) v g.2)
    formed-st (r_block h) s g b = f_block (formed-sts h s g b)
    formed-st (r_assign {e = e} {x = x} h i) s g b = f_assign (formed-target _ _ s e x g.0 h g.1) (formed _ _ s i g.2)
    formed-st (r_act {e = e} {x = x} h) s g b = f_act (formed-call _ _ s e x g.0 h) (formed _ _ s h g.1)
    formed-st (r_print {line = line} h) s g b = f_print (printed line h g.0) (formed-if _ _ s h g.1)
    formed-st (r_choose h) s g b = some-arm h s g b
    formed-st (r_while {x = x} h i) s g b = f_loop of_while refl refl f_no_st (f_some (formed _ _ s h g.0)) f_no_st (formed-sts i s g.1 b)
    formed-st (r_for {f = begin} {g = next} {first = first} {step = step} {xs = xs} f v t h) s g b =
        let u = part-scope f s in
        f_loop of_for (first-part f g.0) (last-part t g.2)
        (formed-part f s (of-first begin g.0) (behind-left (declares_all first) (declares_all step) (behind-left (declares_all first ++ declares_all step)
        (declares_all xs) b)))
        (formed-if _ _ u v g.1) (formed-part t u (of-step next g.2) (behind-right (declares_all first) (declares_all step)
        (behind-left (declares_all first ++ declares_all step) (declares_all xs) b)))
        (formed-sts h u g.3 (behind-right (declares_all first ++ declares_all step) (declares_all xs) b))
    formed-st (r_return h) s g b = f_return (formed-if _ _ s h g)
    formed-st r_break s g b = f_break refl
    formed-st r_continue s g b = f_continue refl

    pub formed-sts : {in_loop : Bool} {scope : List Bound} {nums : List ℕ} {xs : Statements} {ys : Sts} → StsResolve O here k in_loop scope xs ys
        → ScopeIs k scope nums → AreFormedStmts xs → Behind (declares_all ys) → FormedSts P k in_loop nums ys
    formed-sts r_no_statements s g b = f_no_st
    formed-sts (r_and_then {x = x} {xs = xs} h hs) s g b = f_st_then (formed-st h s g.0 (behind-left (declares x) (declares_all xs) b))
        (formed-sts hs (after-scope h s) g.1 (behind-right (declares x) (declares_all xs) b))

    formed-arms : {in_loop : Bool} {scope : List Bound} {nums : List ℕ} {a : tree.Arms} {other : Else} {ys : IfArms}
        → ArmsResolve O here k in_loop scope a other ys → ScopeIs k scope nums → AreFormedArms a → IsFormedElse other → Behind (declares_arms ys)
        → FormedArms P k in_loop nums ys
    formed-arms r_no_else s g e b = f_no_other
    formed-arms (r_else h) s g e b = f_otherwise (formed-sts h s e b)
    formed-arms (r_arm {xs = xs} {more = more} h i hs) s g e b =
        f_arm (formed _ _ s h g.0) (formed-sts i s g.1 (behind-left (declares_all xs) (declares_arms more) b))
        (formed-arms hs s g.2 e (behind-right (declares_all xs) (declares_arms more) b))

    some-arm : {in_loop : Bool} {scope : List Bound} {nums : List ℕ} {a : tree.Arms} {other : Else} {ys : IfArms} {p : Place}
        → ArmsResolve O here k in_loop scope a other ys → ScopeIs k scope nums → (has_arm a ≡ true) × AreFormedArms a × IsFormedElse other
        → Behind (declares_arms ys)
        → FormedSt P k in_loop nums (choose (at_place p) ys)
    some-arm r_no_else s g b = absurd (false≢true g.0)
    some-arm (r_else h) s g b = absurd (false≢true g.0)
    some-arm (r_arm {xs = xs} {more = more} h i hs) s g b =
        f_choose (f_arm (formed _ _ s h g.1.0) (formed-sts i s g.1.1 (behind-left (declares_all xs) (declares_arms more) b))
        (formed-arms hs s g.1.2 g.2 (behind-right (declares_all xs) (declares_arms more) b)))

    formed-part : {in_loop : Bool} {scope : List Bound} {nums : List ℕ} {x : OptionalStatement} {ys : Sts} → PartResolves O here k in_loop scope x ys
        → ScopeIs k scope nums → IsFormedPart x → Behind (declares_all ys) → FormedSts P k in_loop nums ys
    formed-part r_absent s g b = f_no_st
    formed-part (r_present {x = x} h) s g b = f_st_then (formed-st h s g (behind-left (declares x) [] b)) f_no_st

    first-part : {in_loop : Bool} {scope : List Bound} {x : OptionalStatement} {ys : Sts} → PartResolves O here k in_loop scope x ys → IsFormedFirst x
        → is_at_most_one is_first ys ≡ true
    first-part r_absent g = refl
    first-part (r_present h) g = first-formed h g.0

    last-part : {in_loop : Bool} {scope : List Bound} {x : OptionalStatement} {ys : Sts} → PartResolves O here k in_loop scope x ys → IsFormedStep x
        → is_at_most_one core.is_act ys ≡ true
    last-part r_absent g = refl
    last-part (r_present h) g = act-formed h g.0

-- ---- locals

-- a local whose name and type are good
pub record GoodLocal (O : Plain) (P : Plain) (k : PlainMethod) (i : ℕ) : Type 0 where
  pub local : PlainLocal
  pub stands : slice_get (variables_of k) i ≡ Some local
  pub name : IsName local.name
  pub no_type : is_type_name (type_names O) local.name ≡ false
  pub type : IsProgramType P local.ty

module _ (O : Plain) (here : Here) (P : Plain) (k : PlainMethod) (suits : Suits O here P k) where
  abbrev pub Good : List ℕ → Type 0
  Good ds = AllByRecursion (GoodLocal O P k) ds

  good-both : (xs ys : List ℕ) → Good xs → Good ys → Good (xs ++ ys)
  good-both [] ys a b = b
  good-both (x ∷ xs) ys a b = (a.0, good-both xs ys a.1 b)

  mutual
    good-st : {in_loop : Bool} {scope : List Bound} {x : Statement} {y : St} → StResolves O here k in_loop scope x y → IsFormedStmt x → Good (declares y)
    good-st (r_declare {u = u} l v) g =
        (record { local = _; stands = l.stands; name = g.1; no_type = l.no_type; type = known-type O here P k suits u l.ty l.means }, tt)
    good-st (r_block h) g = good-sts h g
    good-st (r_assign h i) g = tt
    good-st (r_act h) g = tt
    good-st (r_print h) g = tt
    good-st (r_choose h) g = good-arms h g.1 g.2
    good-st (r_while {xs = xs} h i) g = good-sts i g.1
    good-st (r_for {f = begin} {g = next} {first = first} {step = step} {xs = xs} f v t h) g =
        good-both (declares_all first ++ declares_all step) (declares_all xs)
        (good-both (declares_all first) (declares_all step) (good-part f (of-first begin g.0)) (good-part t (of-step next g.2))) (good-sts h g.3)
    good-st (r_return h) g = tt
    good-st r_break g = tt
    good-st r_continue g = tt

    pub good-sts : {in_loop : Bool} {scope : List Bound} {xs : Statements} {ys : Sts} → StsResolve O here k in_loop scope xs ys → AreFormedStmts xs
        → Good (declares_all ys)
    good-sts r_no_statements g = tt
    good-sts (r_and_then {x = x} {xs = xs} h hs) g = good-both (declares x) (declares_all xs) (good-st h g.0) (good-sts hs g.1)

    good-arms : {in_loop : Bool} {scope : List Bound} {a : tree.Arms} {other : Else} {ys : IfArms} → ArmsResolve O here k in_loop scope a other ys
        → AreFormedArms a → IsFormedElse other → Good (declares_arms ys)
    good-arms r_no_else g e = tt
    good-arms (r_else h) g e = good-sts h e
    good-arms (r_arm {xs = xs} {more = more} h i hs) g e = good-both (declares_all xs) (declares_arms more) (good-sts i g.1) (good-arms hs g.2 e)

    good-part : {in_loop : Bool} {scope : List Bound} {x : OptionalStatement} {ys : Sts} → PartResolves O here k in_loop scope x ys → IsFormedPart x
        → Good (declares_all ys)
    good-part r_absent g = tt
    good-part (r_present {x = x} h) g = good-both (declares x) [] (good-st h g) tt

  -- numbers that count reach each number between
  pub counts-each : {a b : ℕ} {ns : List ℕ} → Counts a ns b → Good ns → (i : ℕ) → a ≤ i → i < b → GoodLocal O P k i
  counts-each no_number h i l u = absurd (omega (arith, l, u))
  counts-each {a} (next_number c) h i l u = go (a == i) refl (λ m. counts-each c h.1 i m u)
    where
      go : (x : Bool) → (a == i) ≡ x → (suc a ≤ i → GoodLocal O P k i) → GoodLocal O P k i
      go true e more = subst (GoodLocal O P k) (eqb-true a i e) h.0
      go false e more = more (let n = eqb-false a i e in omega (arith, l, n))

pub counts-behind : (n : ℕ) {a b : ℕ} {ns : List ℕ} → Counts a ns b → n ≤ a → AllByRecursion (λ i. n ≤ i) ns
counts-behind n no_number l = tt
counts-behind n (next_number c) l = (l, counts-behind n c (omega (arith, l)))
