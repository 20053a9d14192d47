-- What the names of a statement mean, or which condition holds in it: the walk over the tree tells it.
use Rattle.std.proofs.Common.{◌≡◌, ℕ, ◌+◌, Bool, true, false, List, [], ◌∷◌, ◌++◌, length, Option, Some, None, refl, sym, ap, ◌∙◌, ◌||◌, subst, arith}
use Rattle.std.specs.Prelude.{slice_get, if◌then◌else◌}
use Rattle.std.specs.Option.{is_some}
use Rattle.std.specs.Str.{chars}
use Rattle.std.proofs.lemmas.List.{append-nil, append_assoc, map-append, length-append}
use Rattle.kaba_base.specs.declared.Place.{Place}
use Rattle.java_tree.specs.declared.TypeName.{TypeName}
use Rattle.java_tree.specs.Syntax.{Expression, NameRef, FieldOf, IndexOf, Statement, LocalOf, BlockOf, AssignOf, DoOf, PrintOf, IfOf, WhileOf, ForOf, ReturnOf, BreakOf, ContinueOf, Statements, no_statements, and_then, Else, no_else, OptionalStatement, absent, present}
use Rattle.java_tree.specs.Syntax as tree
use Rattle.java_core.specs.declared.Ty.{Ty}
use Rattle.java_core.specs.Trees.{at_place, Ex, St, break, continue, Sts, no_st, st_then, IfArms, no_other, otherwise, arm}
use Rattle.java_core.specs.Programs.{Plain, PlainLocal, PlainMethod}
use Rattle.java_core.specs.Formed.{variables_of, numbers, numbers_if, numbers_target, numbers_st, numbers_sts, numbers_arms}
use Rattle.name_rules.specs.declared.Refusal.{Refusal}
use Rattle.name_rules.specs.declared.Refusal.TheVariants.{Twice, TwoKinds}
use Rattle.name_rules.specs.declared.parts.Bound.{Bound}
use Rattle.name_rules.specs.declared.parts.Here.{Here}
use Rattle.name_laws.specs.Answers.{unless}
use Rattle.name_laws.specs.Names.{names_type, type_of}
use Rattle.name_laws.specs.Tables.{Table}
use Rattle.name_rules.specs.Meanings.{local_of}
use Rattle.name_laws.specs.Expressions.{walk}
use Rattle.name_laws.specs.Statements.{LocalsState, st_last, arm_last, ending, in_loop, with_local, walk_expr, walk_value, declared, walk_local, walk_st, walk_sts, walk_arms, walk_else, walk_optional}
use Rattle.name_rules.specs.Resolves.{target, bound}
use Rattle.name_rules.specs.Outline.{is_type_name, is_known}
use Rattle.name_rules.specs.Meanings.{type_names, Means, is_bound, bound_names}
use Rattle.java_tree.specs.Formed.{is_target, is_act, IsFormedStmt, AreFormedStmts, AreFormedArms, IsFormedElse, IsFormedFirst, IsFormedStep}
use Rattle.name_rules.specs.Resolves.{Counts, no_number, next_number, ResolvesTo, r_local, r_static_field, r_own_field, r_class_field, r_field, r_index, ResolvesIf, r_none, r_some, scope_after, scope_after_part, StResolves, r_declare, r_block, r_assign, r_act, r_print, r_choose, r_while, r_for, r_return, r_break, r_continue, StsResolve, r_no_statements, r_and_then, ArmsResolve, r_no_else, r_else, r_arm, PartResolves, r_absent, r_present, declares, declares_all, declares_arms}
use Rattle.name_rules.specs.Conditions.{FaultIn, FaultInValue, in_value, names_after, names_after_part, StFault, no_type_of_local, type_as_local, local_twice, in_first_value, in_block, in_target, in_assigned, in_call, in_printed, in_choice, in_else, in_while_test, in_while, in_first_part, in_for_test, in_last_part, in_for, in_returned, break_outside, continue_outside, StsFault, in_statement, in_rest, ArmsFault, in_test, in_arm, in_more_arms, PartFault, in_part}
use Rattle.name_laws.proofs.TypeNames.{type-tells}
use Rattle.name_laws.proofs.Sees.{Sees, Tells, tell, turn, bound-local, unbound-local}
use Rattle.name_laws.proofs.Pushed.{listed, pushed, pushed-then, pushed-all}
use Rattle.name_laws.proofs.Expressions.{counts_append, walk-tells}

-- ---- states

-- what a part adds: its locals, and how far it counts
pub record Grown (a b : LocalsState) (ds ns : List ℕ) : Type 0 where
  pub more : List PlainLocal
  pub locals : b.locals ≡ a.locals ++ more
  pub count : b.count ≡ a.count + length more
  pub declared : Counts a.count ds b.count
  pub numbered : Counts a.number ns b.number

pub grown-then : {a b c : LocalsState} {ds es ms ns : List ℕ} → Grown a b ds ms → Grown b c es ns → Grown a c (ds ++ es) (ms ++ ns)
grown-then {a} {b} {c} g h = record {
  more = g.more ++ h.more;
  locals = h.locals ∙ ap (λ x. x ++ h.more) g.locals ∙ append_assoc a.locals g.more h.more;
  count = let e = length-append g.more h.more in let f = g.count in let i = h.count in omega (arith, e, f, i);
  declared = counts_append g.declared h.declared;
  numbered = counts_append g.numbered h.numbered;
}

pub grown-same : (a : LocalsState) → Grown a a [] []
grown-same a = record { more = []; locals = sym (append-nil a.locals); count = omega arith; declared = no_number; numbered = no_number }

-- the locals of the method begin with those so far, numbered behind its parameters
pub record Within (k : PlainMethod) (s : LocalsState) : Type 0 where
  pub rest : List PlainLocal
  pub locals : k.locals ≡ s.locals ++ rest
  pub count : s.count ≡ length k.params + length s.locals

pub within-before : {k : PlainMethod} {a b : LocalsState} {ds ns : List ℕ} → Grown a b ds ns → Within k b → Within k a
within-before {k} {a} {b} g w = record {
  rest = g.more ++ w.rest;
  locals = w.locals ∙ ap (λ x. x ++ w.rest) g.locals ∙ append_assoc a.locals g.more w.rest;
  count = let e = length-append a.locals g.more in let f = g.count in let h = w.count in let i = ap length g.locals in omega (arith, e, f, h, i);
}

-- ---- lists of statements

abbrev pub sts : List St → Sts
sts xs = listed no_st st_then xs

pub sts-pushed : (xs : List St) → pushed st_last no_st xs ≡ sts xs
sts-pushed = pushed-all no_st st_then st_last (λ x. refl) (λ x xs y. refl)

-- statements behind one that stands already
pub sts-behind : (x : St) (xs : List St) → pushed st_last (st_then x no_st) xs ≡ st_then x (sts xs)
sts-behind x xs = pushed-then no_st st_then st_last (λ x. refl) (λ x xs y. refl) x no_st xs ∙ ap (st_then x) (sts-pushed xs)

pub arms_append-last : (xs : IfArms) (e : Ex) (ss : Sts) (ys : IfArms) → ending (arm_last xs e ss) ys ≡ ending xs (arm e ss ys)
arms_append-last no_other e ss ys = refl
arms_append-last (otherwise old) e ss ys = refl
arms_append-last (arm d us more) e ss ys = ap (arm d us) (arms_append-last more e ss ys)

-- ---- what an assignment changes

pub numbers-target : {O : Plain} {here : Here} {scope : List Bound} (e : Expression) (x : Ex) → is_target e ≡ true → ResolvesTo O here scope e x
    → numbers_target (target x) ≡ numbers x
numbers-target (NameRef n p) x g (r_local e) = refl
numbers-target (NameRef n p) x g (r_static_field e f i o) = refl
numbers-target (NameRef n p) x g (r_own_field e f i o) = refl
numbers-target (FieldOf e n p) x g (r_class_field c k s) = refl
numbers-target (FieldOf e n p) x g (r_field h) = refl
numbers-target (IndexOf e i p) x g (r_index h j) = refl
numbers-target _ x g h = absurd (cc g)

at-middle : {A : Type 0} (xs : List A) (v : A) (ys : List A) (i : ℕ) → i ≡ length xs → slice_get (xs ++ v ∷ ys) i ≡ Some v
at-middle [] v ys i e = rw e refl
at-middle (x ∷ xs) v ys i e = rw e (at-middle xs v ys (length xs) refl)

-- what stands in the head of a `for`
abbrev pub IsFormedPart : OptionalStatement → Type 0
IsFormedPart absent = Unit {0}
IsFormedPart (present s) = IsFormedStmt s

pub of-first : (s : OptionalStatement) → IsFormedFirst s → IsFormedPart s
of-first absent f = tt
of-first (present s) f = f.1

pub of-step : (s : OptionalStatement) → IsFormedStep s → IsFormedPart s
of-step absent f = tt
of-step (present s) f = f.1

-- the step of a `for` declares nothing
act-scope : (x : Statement) (st : St) (scope : List Bound) → is_act x ≡ true → scope_after scope x st ≡ scope
act-scope (LocalOf f u n v p) st scope e = absurd (cc e)
act-scope _ st scope e = refl

step-scope : (x : OptionalStatement) (xs : Sts) (scope : List Bound) → IsFormedStep x → scope_after_part scope x xs ≡ scope
step-scope absent xs scope g = refl
step-scope (present s) no_st scope g = refl
step-scope (present s) (st_then x xs) scope g = act-scope s x scope g.0

module _ (t : Table) (O : Plain) (sees : Sees t O) (here : Here) where
  abbrev pub Bad : List Bound → Expression → Refusal → Type 0
  Bad scope e = FaultIn O here (bound_names scope) e

  -- ---- expressions in a state

  pub record ExWalks (scope : List Bound) (s : LocalsState) (e : Expression) (r : Ex × LocalsState) : Type 0 where
    pub to : ResolvesTo O here scope e r.0
    pub grown : Grown s r.1 [] (numbers r.0)

  pub record IfWalks (scope : List Bound) (s : LocalsState) (e : Option Expression) (r : Option Ex × LocalsState) : Type 0 where
    pub to : ResolvesIf O here scope e r.0
    pub grown : Grown s r.1 [] (numbers_if r.0)

  pub expr-tells : (scope : List Bound) (s : LocalsState) (e : Expression) → Tells (ExWalks scope s e) (Bad scope e) (walk_expr t here scope s e)
  expr-tells scope s e =
      tell (ExWalks scope s e) (Bad scope e) (walk t here scope s.number e) _ (walk-tells t O sees here scope s.number e)
      (λ x h. record {
        to = h.to;
        grown = record {
          more = [];
          locals = sym (append-nil s.locals);
          count = omega arith;
          declared = no_number;
          numbered = h.numbered;
        };
      })
      (λ r f. f)

  pub value-tells : (scope : List Bound) (s : LocalsState) (v : Option Expression) → Tells (IfWalks scope s v) (FaultInValue O here (bound_names scope) v)
      (walk_value t here scope s v)
  value-tells scope s None = record { to = r_none; grown = grown-same s }
  value-tells scope s (Some e) =
      tell (IfWalks scope s (Some e)) (FaultInValue O here (bound_names scope) (Some e)) (walk_expr t here scope s e) _ (expr-tells scope s e)
      (λ x h. record { to = r_some h.to; grown = h.grown }) (λ r f. in_value f)

  -- ---- statements

  pub record StWalks (inside : Bool) (scope : List Bound) (s : LocalsState) (x : Statement) (r : St × List Bound × LocalsState) : Type 0 where
    pub grown : Grown s r.2 (declares r.0) (numbers_st r.0)
    pub scope_then : r.1 ≡ scope_after scope x r.0
    pub names_then : bound_names r.1 ≡ names_after (bound_names scope) x
    pub to : (k : PlainMethod) → Within k r.2 → StResolves O here k inside scope x r.0

  pub record StsWalks (inside : Bool) (done : Sts) (scope : List Bound) (s : LocalsState) (xs : Statements) (r : Sts × LocalsState) : Type 0 where
    pub more : List St
    pub joined : r.0 ≡ pushed st_last done more
    pub grown : Grown s r.1 (declares_all (sts more)) (numbers_sts (sts more))
    pub to : (k : PlainMethod) → Within k r.1 → StsResolve O here k inside scope xs (sts more)

  pub record PartWalks (inside : Bool) (scope : List Bound) (s : LocalsState) (x : OptionalStatement) (r : Sts × List Bound × LocalsState) : Type 0 where
    pub grown : Grown s r.2 (declares_all r.0) (numbers_sts r.0)
    pub scope_then : r.1 ≡ scope_after_part scope x r.0
    pub names_then : bound_names r.1 ≡ names_after_part (bound_names scope) x
    pub to : (k : PlainMethod) → Within k r.2 → PartResolves O here k inside scope x r.0

  pub record ElseWalks (inside : Bool) (scope : List Bound) (s : LocalsState) (other : Else) (r : IfArms × LocalsState) : Type 0 where
    pub grown : Grown s r.1 (declares_arms r.0) (numbers_arms r.0)
    pub to : (k : PlainMethod) → Within k r.1 → ArmsResolve O here k inside scope tree.no_arms other r.0

  pub record ArmsWalk (inside : Bool) (done : IfArms) (scope : List Bound) (s : LocalsState) (xs : tree.Arms) (r : IfArms × LocalsState) : Type 0 where
    pub more : IfArms
    pub joined : (o : IfArms) → ending r.0 o ≡ ending done (ending more o)
    pub grown : (o : IfArms) (c : LocalsState) → Grown r.1 c (declares_arms o) (numbers_arms o)
        → Grown s c (declares_arms (ending more o)) (numbers_arms (ending more o))
    pub before : (k : PlainMethod) → Within k r.1 → Within k s
    pub to : (k : PlainMethod) → Within k r.1 → (other : Else) (o : IfArms) → ArmsResolve O here k inside scope tree.no_arms other o
        → ArmsResolve O here k inside scope xs other (ending more o)

  local-tells : (inside final : Bool) (scope : List Bound) (s : LocalsState) (u : TypeName) (n : List ℕ) (v : Option Expression) (p : Place) →
      Tells (StWalks inside scope s (LocalOf final u n v p)) (StFault O here inside (bound_names scope) (LocalOf final u n v p))
      (walk_local t here scope s u n v p)
  unfolding chars within-before grown-then
  local-tells inside final scope s u n v p =
      tell (StWalks inside scope s (LocalOf final u n v p)) (StFault O here inside (bound_names scope) (LocalOf final u n v p)) (type_of t.known u) _
      (type-tells t.known O sees.types u)
      (λ y m. by_clash y m (names_type t.known n) (ap (λ o. is_some o || is_known n) (sees.types n)) (local_of n scope) refl)
      (λ r f. no_type_of_local f)
    where
      names : bound_names (bound scope n s.count) ≡ bound_names scope ++ n ∷ []
      names = map-append (λ b. b.name) scope (record { name = n; number = s.count } ∷ [])

      added : (y : Ty) → Grown s (with_local s n y p) (s.count ∷ []) []
      added y = record {
        more = record { name = n; ty = y; tag = at_place p } ∷ [];
        locals = refl;
        count = omega arith;
        declared = next_number
            no_number;
        numbered = no_number;
      }

      stands : (y : Ty) (k : PlainMethod) (rest : List PlainLocal) → s.count ≡ length k.params + length s.locals
          → k.locals ≡ s.locals ++ record { name = n; ty = y; tag = at_place p } ∷ rest
          → slice_get (variables_of k) s.count ≡ Some (record { name = n; ty = y; tag = at_place p })
      stands y k rest count is =
          ap (λ z. slice_get (k.params ++ z) s.count) is
          ∙ ap (λ z. slice_get z s.count) (sym (append_assoc k.params s.locals (record { name = n; ty = y; tag = at_place p } ∷ rest)))
          ∙ at-middle (k.params ++ s.locals) (record { name = n; ty = y; tag = at_place p }) rest s.count (count ∙ sym (length-append k.params s.locals))

      by_value : (y : Ty) → Means O u y → is_type_name (type_names O) n ≡ false → is_bound (bound_names scope) n ≡ false
          → Tells (StWalks inside scope s (LocalOf final u n v p)) (StFault O here inside (bound_names scope) (LocalOf final u n v p))
          (declared t here scope s n v p y)
      by_value y m no_type fresh =
          tell (StWalks inside scope s (LocalOf final u n v p)) (StFault O here inside (bound_names scope) (LocalOf final u n v p))
          (walk_value t here (bound scope n s.count) (with_local s n y p) v) _
          (value-tells (bound scope n s.count) (with_local s n y p) v)
          (λ x h. let g = grown-then (added y) h.grown in record {
            grown = g;
            scope_then = refl;
            names_then = names;
            to = λ k w. r_declare (record {
              ty = y;
              means = m;
              stands = stands y k (h.grown.more ++ w.rest) (within-before g w).count
                  (within-before g w).locals;
              no_type = no_type;
              fresh = fresh;
            }) h.to;
          })
          (λ r f. in_first_value (subst (λ z. FaultInValue O here z v r) names f))

      by_clash : (y : Ty) → Means O u y → (c : Bool) → c ≡ is_type_name (type_names O) n → (o : Option ℕ) → local_of n scope ≡ o
          → Tells (StWalks inside scope s (LocalOf final u n v p)) (StFault O here inside (bound_names scope) (LocalOf final u n v p))
          (unless (if c then Some (TwoKinds n p) else if is_some o then Some (Twice n p) else None) (declared t here scope s n v p y))
      by_clash y m true c o e = type_as_local (sym c)
      by_clash y m false c (Some i) e = local_twice (bound-local scope n i e)
      by_clash y m false c None e = by_value y m (sym c) (unbound-local scope n e)

  -- ---- the walk

  pub whole-grown : {inside : Bool} {scope : List Bound} {s : LocalsState} {xs : Statements} {r : Sts × LocalsState} → StsWalks inside no_st scope s xs r
      → Grown s r.1 (declares_all r.0) (numbers_sts r.0)
  whole-grown h = rw (h.joined ∙ sts-pushed h.more) (h.grown)

  pub whole-to : {inside : Bool} {scope : List Bound} {s : LocalsState} {xs : Statements} {r : Sts × LocalsState} → StsWalks inside no_st scope s xs r
      → (k : PlainMethod) → Within k r.1 → StsResolve O here k inside scope xs r.0
  whole-to h k w = rw (h.joined ∙ sts-pushed h.more) (h.to k w)

  break-tells : (inside : Bool) (scope : List Bound) (s : LocalsState) (p : Place)
      → Tells (StWalks inside scope s (BreakOf p)) (StFault O here inside (bound_names scope) (BreakOf p))
      (in_loop inside p (break (at_place p)) scope s)
  break-tells true scope s p = record { grown = grown-same s; scope_then = refl; names_then = refl; to = λ k w. r_break }
  break-tells false scope s p = break_outside

  continue-tells : (inside : Bool) (scope : List Bound) (s : LocalsState) (p : Place)
      → Tells (StWalks inside scope s (ContinueOf p)) (StFault O here inside (bound_names scope) (ContinueOf p))
      (in_loop inside p (continue (at_place p)) scope s)
  continue-tells true scope s p = record { grown = grown-same s; scope_then = refl; names_then = refl; to = λ k w. r_continue }
  continue-tells false scope s p = continue_outside

  abbrev ElseBad : Bool → List (List ℕ) → Else → Refusal → Type 0
  ElseBad inside names no_else r = ⊥
  ElseBad inside names (tree.otherwise ss) r = StsFault O here inside names ss r

  else-bad : (inside : Bool) (names : List (List ℕ)) (a : tree.Arms) (other : Else) (p : Place) (r : Refusal) → ElseBad inside names other r
      → StFault O here inside names (IfOf a other p) r
  else-bad inside names a no_else p r f = absurd f
  else-bad inside names a (tree.otherwise ss) p r f = in_else f

  mutual
    pub st-tells : (inside : Bool) (scope : List Bound) (s : LocalsState) (x : Statement) → IsFormedStmt x
        → Tells (StWalks inside scope s x) (StFault O here inside (bound_names scope) x) (walk_st t here inside scope s x)
    st-tells inside scope s (LocalOf final u n v p) g = local-tells inside final scope s u n v p
    st-tells inside scope s (BlockOf ss p) g =
        tell (StWalks inside scope s (BlockOf ss p)) (StFault O here inside (bound_names scope) (BlockOf ss p))
        (walk_sts t here inside no_st scope s ss) _ (sts-tells inside no_st scope s ss g)
        (λ x h. record { grown = whole-grown h; scope_then = refl; names_then = refl; to = λ k w. r_block (whole-to h k w) })
        (λ r f. in_block f)
    st-tells inside scope s (AssignOf e v p) g =
        tell (StWalks inside scope s (AssignOf e v p)) (StFault O here inside (bound_names scope) (AssignOf e v p)) (walk_expr t here scope s e) _
        (expr-tells scope s e)
        (λ x h. tell (StWalks inside scope s (AssignOf e v p)) (StFault O here inside (bound_names scope) (AssignOf e v p))
        (walk_expr t here scope x.1 v) _ (expr-tells scope x.1 v)
        (λ y u. record {
          grown = rw (numbers-target e x.0 g.0 h.to) (grown-then h.grown u.grown);
          scope_then = refl;
          names_then = refl;
          to = λ k w.
              r_assign h.to u.to;
        })
        (λ r f. in_assigned f))
        (λ r f. in_target f)
    st-tells inside scope s (DoOf e p) g =
        tell (StWalks inside scope s (DoOf e p)) (StFault O here inside (bound_names scope) (DoOf e p)) (walk_expr t here scope s e) _ (expr-tells scope s e)
        (λ x h. record { grown = h.grown; scope_then = refl; names_then = refl; to = λ k w. r_act h.to })
        (λ r f. in_call f)
    st-tells inside scope s (PrintOf line v p) g =
        tell (StWalks inside scope s (PrintOf line v p)) (StFault O here inside (bound_names scope) (PrintOf line v p)) (walk_value t here scope s v)
        _ (value-tells scope s v)
        (λ x h. record { grown = h.grown; scope_then = refl; names_then = refl; to = λ k w. r_print h.to })
        (λ r f. in_printed f)
    st-tells inside scope s (IfOf arms other p) g =
        tell (StWalks inside scope s (IfOf arms other p)) (StFault O here inside (bound_names scope) (IfOf arms other p))
        (walk_arms t here inside no_other scope s arms) _ (arms-tells inside no_other scope s arms g.1)
        (λ a h. tell (StWalks inside scope s (IfOf arms other p)) (StFault O here inside (bound_names scope) (IfOf arms other p))
        (walk_else t here inside scope a.1 other) _ (else-tells inside scope a.1 other g.2)
        (λ o u. record {
          grown = rw (h.joined o.0) (h.grown o.0 o.1 u.grown);
          scope_then = refl;
          names_then = refl;
          to = λ k w. rw (h.joined o.0) (r_choose (h.to k (within-before u.grown w) other o.0 (u.to k w)));
        })
        (λ r f. else-bad inside (bound_names scope) arms other p r f))
        (λ r f. in_choice f)
    st-tells inside scope s (WhileOf e ss p) g =
        tell (StWalks inside scope s (WhileOf e ss p)) (StFault O here inside (bound_names scope) (WhileOf e ss p)) (walk_expr t here scope s e) _
        (expr-tells scope s e)
        (λ x h. tell (StWalks inside scope s (WhileOf e ss p)) (StFault O here inside (bound_names scope) (WhileOf e ss p))
        (walk_sts t here true no_st scope x.1 ss) _ (sts-tells true no_st scope x.1 ss g.1)
        (λ b u. record {
          grown = grown-then (grown-then h.grown (grown-same x.1)) (whole-grown u);
          scope_then = refl;
          names_then = refl;
          to = λ k w.
              r_while h.to (whole-to u k w);
        })
        (λ r f. in_while f))
        (λ r f. in_while_test f)
    st-tells inside scope s (ForOf f v g ss p) gr =
        tell (StWalks inside scope s (ForOf f v g ss p)) (StFault O here inside (bound_names scope) (ForOf f v g ss p))
        (walk_optional t here inside scope s f) _ (part-tells inside scope s f (of-first f gr.0))
        (λ a ha. tell (StWalks inside scope s (ForOf f v g ss p)) (StFault O here inside (bound_names scope) (ForOf f v g ss p))
        (walk_value t here a.1 a.2 v) _ (value-tells a.1 a.2 v)
        (λ b hb. tell (StWalks inside scope s (ForOf f v g ss p)) (StFault O here inside (bound_names scope) (ForOf f v g ss p))
        (walk_optional t here inside a.1 b.1 g) _ (part-tells inside a.1 b.1 g (of-step g gr.2))
        (λ c hc. let same : c.1 ≡ a.1 = hc.scope_then ∙ step-scope g c.0 a.1 gr.2 in
        tell (StWalks inside scope s (ForOf f v g ss p)) (StFault O here inside (bound_names scope) (ForOf f v g ss p))
        (walk_sts t here true no_st c.1 c.2 ss) _ (sts-tells true no_st c.1 c.2 ss gr.3)
        (λ d hd. record {
          grown = subst (λ z. Grown s d.1 (z ++ declares_all c.0 ++ declares_all d.0) (numbers_sts a.0 ++ numbers_if b.0 ++ numbers_sts c.0
              ++ numbers_sts d.0)) (append-nil (declares_all a.0)) (grown-then (grown-then (grown-then ha.grown hb.grown) hc.grown) (whole-grown hd));
          scope_then = refl;
          names_then = refl;
          to = λ k w.
              let wc = within-before (whole-grown hd) w in let wb = within-before hc.grown wc in let wa = within-before hb.grown wb in
              r_for (ha.to k wa) (subst (λ z. ResolvesIf O here z v b.0) ha.scope_then hb.to)
              (subst (λ z. PartResolves O here k inside z g c.0) ha.scope_then (hc.to k wc))
              (subst (λ z. StsResolve O here k true z ss d.0) (same ∙ ha.scope_then) (whole-to hd k w));
        })
        (λ r q. in_for (subst (λ z. StsFault O here true z ss r) (ap bound_names same ∙ ha.names_then) q)))
        (λ r q. in_last_part (subst (λ z. PartFault O here inside z g r) ha.names_then q)))
        (λ r q. in_for_test (subst (λ z. FaultInValue O here z v r) ha.names_then q)))
        (λ r q. in_first_part q)
    st-tells inside scope s (ReturnOf v p) g =
        tell (StWalks inside scope s (ReturnOf v p)) (StFault O here inside (bound_names scope) (ReturnOf v p)) (walk_value t here scope s v) _
        (value-tells scope s v)
        (λ x h. record { grown = h.grown; scope_then = refl; names_then = refl; to = λ k w. r_return h.to })
        (λ r f. in_returned f)
    st-tells inside scope s (BreakOf p) g = break-tells inside scope s p
    st-tells inside scope s (ContinueOf p) g = continue-tells inside scope s p

    pub sts-tells : (inside : Bool) (done : Sts) (scope : List Bound) (s : LocalsState) (xs : Statements) → AreFormedStmts xs
        → Tells (StsWalks inside done scope s xs) (StsFault O here inside (bound_names scope) xs) (walk_sts t here inside done scope s xs)
    sts-tells inside done scope s no_statements g =
        record { more = []; joined = refl; grown = grown-same s; to = λ k w. r_no_statements }
    sts-tells inside done scope s (and_then x xs) g =
        tell (StsWalks inside done scope s (and_then x xs)) (StsFault O here inside (bound_names scope) (and_then x xs))
        (walk_st t here inside scope s x) _ (st-tells inside scope s x g.0)
        (λ r h. turn (walk_sts t here inside (st_last done r.0) r.1 r.2 xs) (sts-tells inside (st_last done r.0) r.1 r.2 xs g.1)
        (λ y u. record {
          more = r.0 ∷ u.more;
          joined = u.joined;
          grown = grown-then h.grown u.grown;
          to = λ k w. r_and_then (h.to k (within-before u.grown w)) (subst (λ z. StsResolve O here k inside z xs (sts u.more)) h.scope_then (u.to k w));
        })
        (λ r f. in_rest (subst (λ z. StsFault O here inside z xs r) h.names_then f)))
        (λ r f. in_statement f)

    arms-tells : (inside : Bool) (done : IfArms) (scope : List Bound) (s : LocalsState) (xs : tree.Arms) → AreFormedArms xs
        → Tells (ArmsWalk inside done scope s xs) (ArmsFault O here inside (bound_names scope) xs) (walk_arms t here inside done scope s xs)
    arms-tells inside done scope s tree.no_arms g =
        record { more = no_other; joined = λ o. refl; grown = λ o c h. h; before = λ k w. w; to = λ k w other o h. h }
    arms-tells inside done scope s (tree.and_arm e ss more) g =
        tell (ArmsWalk inside done scope s (tree.and_arm e ss more)) (ArmsFault O here inside (bound_names scope) (tree.and_arm e ss more))
        (walk_expr t here scope s e) _ (expr-tells scope s e)
        (λ x h. tell (ArmsWalk inside done scope s (tree.and_arm e ss more)) (ArmsFault O here inside (bound_names scope) (tree.and_arm e ss more))
        (walk_sts t here inside no_st scope x.1 ss) _ (sts-tells inside no_st scope x.1 ss g.1)
        (λ b u. turn (walk_arms t here inside (arm_last done x.0 b.0) scope b.1 more) (arms-tells inside (arm_last done x.0 b.0) scope b.1 more g.2)
        (λ a m. record {
          more = arm x.0 b.0 m.more;
          joined = λ o. m.joined o ∙ arms_append-last done x.0 b.0 (ending m.more o);
          grown = λ o c q. grown-then (grown-then h.grown (whole-grown u)) (m.grown o c q);
          before = λ k w. within-before h.grown (within-before (whole-grown u) (m.before k w));
          to = λ k w other o q. r_arm h.to (whole-to u k (m.before k w)) (m.to k w other o q);
        })
        (λ r f. in_more_arms f))
        (λ r f. in_arm f))
        (λ r f. in_test f)

    else-tells : (inside : Bool) (scope : List Bound) (s : LocalsState) (other : Else) → IsFormedElse other
        → Tells (ElseWalks inside scope s other) (ElseBad inside (bound_names scope) other) (walk_else t here inside scope s other)
    else-tells inside scope s no_else g = record { grown = grown-same s; to = λ k w. r_no_else }
    else-tells inside scope s (tree.otherwise ss) g =
        tell (ElseWalks inside scope s (tree.otherwise ss)) (ElseBad inside (bound_names scope) (tree.otherwise ss))
        (walk_sts t here inside no_st scope s ss) _ (sts-tells inside no_st scope s ss g)
        (λ x h. record { grown = whole-grown h; to = λ k w. r_else (whole-to h k w) }) (λ r f. f)

    part-tells : (inside : Bool) (scope : List Bound) (s : LocalsState) (x : OptionalStatement) → IsFormedPart x
        → Tells (PartWalks inside scope s x) (PartFault O here inside (bound_names scope) x) (walk_optional t here inside scope s x)
    part-tells inside scope s absent g = record { grown = grown-same s; scope_then = refl; names_then = refl; to = λ k w. r_absent }
    part-tells inside scope s (present x) g =
        tell (PartWalks inside scope s (present x)) (PartFault O here inside (bound_names scope) (present x)) (walk_st t here inside scope s x) _
        (st-tells inside scope s x g)
        (λ r h. record {
          grown = subst (λ z. Grown s r.2 z (numbers_st r.0 ++ [])) (sym (append-nil (declares r.0)))
              (subst (λ z. Grown s r.2 (declares r.0) z) (sym (append-nil (numbers_st r.0))) h.grown);
          scope_then = h.scope_then;
          names_then =
              h.names_then;
          to = λ k w. r_present (h.to k w);
        })
        (λ r f. in_part f)
