-- No condition holds of a body without its places where none holds of it.
use Rattle.std.proofs.Common.{◌≡◌, ℕ, Bool, true, List, [], ◌∷◌, ◌++◌, Option, Some, None, refl, sym, ap, ◌∙◌, subst}
use Rattle.kaba_base.specs.declared.Place.{Place}
use Rattle.java_tree.specs.declared.TypeName.{TypeName}
use Rattle.java_tree.specs.Syntax.{Expression, IntLit, CharLit, StrLit, BoolLit, NullLit, ThisRef, NameRef, FieldOf, IndexOf, CallOf, CallOn, SuperCallOf, NewOf, NewArrayOf, CastOf, InstanceOfClass, UnaryOf, BinaryOf, Expressions, no_more, and_more, Statement, LocalOf, BlockOf, AssignOf, DoOf, PrintOf, IfOf, WhileOf, ForOf, ReturnOf, BreakOf, ContinueOf, Statements, no_statements, and_then, OptionalStatement, absent, present}
use Rattle.java_tree.specs.Syntax as tree
use Rattle.java_tree.specs.Places.{nowhere, type_unplaced, expr_unplaced, exprs_unplaced, value_unplaced, stmt_unplaced, stmts_unplaced, arms_unplaced, step_unplaced}
use Rattle.java_core.specs.Programs.{Plain}
use Rattle.name_rules.specs.declared.Refusal.{Refusal}
use Rattle.name_rules.specs.declared.Refusal.TheVariants.{Unknown}
use Rattle.name_rules.specs.declared.parts.Here.{Here}
use Rattle.name_rules.specs.Outline.{is_type_name}
use Rattle.name_rules.specs.Meanings.{type_names, class_named, is_class_name}
use Rattle.name_rules.specs.Conditions.{IsUnknownType, no_such_type, IsUnknownCast, no_such_cast, FaultIn, this_in_static, no_variable, static_above, own_in_static, no_class_of_field, no_static_field, in_base, in_array, in_index, no_method, static_method_above, call_in_static, in_arguments, no_class_of_call, no_static_method, in_receiver, in_call_arguments, super_in_static, in_super_arguments, no_class_of_new, in_new_arguments, no_type_of_array, in_size, no_type_of_cast, in_cast, no_class_of_test, in_tested, in_operand, in_left, in_right, FaultInOne, in_first, in_later, FaultInValue, in_value, names_after, names_after_part, StFault, no_type_of_local, type_as_local, local_twice, in_first_value, in_block, in_target, in_assigned, in_call, in_printed, in_choice, in_else, in_while_test, in_while, in_first_part, in_for_test, in_last_part, in_for, in_returned, break_outside, continue_outside, StsFault, in_statement, in_rest, ArmsFault, in_test, in_arm, in_more_arms, PartFault, in_part}
use Rattle.java_core.specs.Untagged.{untag_method, untagged}
use Rattle.name_place_laws.proofs.Meanings.{names-same, named-same, class-name-same, static-field, static-method, nearest-back, met}
use Rattle.name_place_laws.proofs.FirstMethods.{first-method-back}

-- no refusal has this
abbrev pub None-of : (Refusal → Type 0) → Type 0
None-of P = (r : Refusal) → P r → ⊥

-- a simple name without its place comes from one
name-back : (e : Expression) (c : List ℕ) (q : Place) → expr_unplaced e ≡ NameRef c q → (p : Place) × (e ≡ NameRef c p)
name-back (NameRef n p) c q h = let f : n ≡ c = cc h in (p, ap (λ z. NameRef z p) f)
name-back _ c q h = absurd (cc h)

module _ (O : Plain) where
  abbrev bare-outline : Plain
  bare-outline = untagged O

  named-back : (n : List ℕ) {c : Option ℕ} → class_named bare-outline n ≡ c → class_named O n ≡ c
  named-back n e = sym (named-same O n) ∙ e

  unknown-type : {u : TypeName} {r : Refusal} → None-of (IsUnknownType O u) → IsUnknownType bare-outline (type_unplaced u) r → ⊥
  unknown-type free (no_such_type {n = n} e f g) = free _ (no_such_type e f (named-back n g))

  unknown-cast : {u : TypeName} {r : Refusal} → None-of (IsUnknownCast O u) → IsUnknownCast bare-outline (type_unplaced u) r → ⊥
  unknown-cast free (no_such_cast {n = n} e g) = free _ (no_such_cast e (named-back n g))

  type-name-back : (n : List ℕ) {b : Bool} → is_type_name (type_names bare-outline) n ≡ b → is_type_name (type_names O) n ≡ b
  type-name-back n h = ap (λ z. is_type_name z n) (sym (names-same O)) ∙ h

  class-back : (c : ℕ) (names : List (List ℕ)) (e : Expression) {b : Bool} → is_class_name bare-outline c names (expr_unplaced e) ≡ b
      → is_class_name O c names e ≡ b
  class-back c names (NameRef n p) h = sym (class-name-same O c names n nowhere p) ∙ h
  class-back c names _ h = h

module _ (O : Plain) (here : Here) where
  abbrev bare-one : Plain
  bare-one = untagged O

  module _ (scope : List (List ℕ)) where
    -- so it is of an expression, and of a list of them
    abbrev Deep : Expression → Type 0
    Deep e = (r : Refusal) → None-of (FaultIn O here scope e) → FaultIn bare-one here scope (expr_unplaced e) r → ⊥

    abbrev DeepAll : Expressions → Type 0
    DeepAll es = (r : Refusal) → None-of (FaultInOne O here scope es) → FaultInOne bare-one here scope (exprs_unplaced es) r → ⊥

    -- what stands before a dot may be the name of a class
    before-field : (e x : Expression) (n : List ℕ) (p : Place) {r : Refusal} → expr_unplaced e ≡ x → Deep e → None-of (FaultIn O here scope (FieldOf e n p))
        → FaultIn bare-one here scope (FieldOf x n nowhere) r → ⊥
    before-field e x n p same deep free (no_class_of_field {c = c} {q = q} a f) =
        let s = name-back e c q same in
        free _ (subst (λ z. FaultIn O here scope (FieldOf z n p) (Unknown c s.0)) (sym s.1)
        (no_class_of_field {q = s.0} (class-back O here.owner scope (NameRef c s.0) a) (named-back O c f)))
    before-field e x n p same deep free (no_static_field {c = c} {q = q} a f g) =
        let s = name-back e c q same in
        free _ (subst (λ z. FaultIn O here scope (FieldOf z n p) (Unknown n p)) (sym s.1)
        (no_static_field {q = s.0} (class-back O here.owner scope (NameRef c s.0) a) (named-back O c f) (λ i h. g i (static-field O h))))
    before-field e x n p {r = r} same deep free (in_base a h) =
        deep _ (λ r g. free r (in_base (class-back O here.owner scope e (ap (is_class_name bare-one here.owner scope) same ∙ a)) g))
        (subst (λ z. FaultIn bare-one here scope z r) (sym same) h)

    before-call : (e x : Expression) (n : List ℕ) (es : Expressions) (p : Place) {r : Refusal} → expr_unplaced e ≡ x → Deep e → DeepAll es
        → None-of (FaultIn O here scope (CallOn e n es p))
        → FaultIn bare-one here scope (CallOn x n (exprs_unplaced es) nowhere) r → ⊥
    before-call e x n es p same deep all free (no_class_of_call {c = c} {q = q} a f) =
        let s = name-back e c q same in
        free _ (subst (λ z. FaultIn O here scope (CallOn z n es p) (Unknown c s.0)) (sym s.1)
        (no_class_of_call {q = s.0} (class-back O here.owner scope (NameRef c s.0) a) (named-back O c f)))
    before-call e x n es p same deep all free (no_static_method {c = c} {q = q} a f g) =
        let s = name-back e c q same in
        free _ (subst (λ z. FaultIn O here scope (CallOn z n es p) (Unknown n p)) (sym s.1)
        (no_static_method {q = s.0} (class-back O here.owner scope (NameRef c s.0) a) (named-back O c f) (λ m h. g m (static-method O h))))
    before-call e x n es p {r = r} same deep all free (in_receiver a h) =
        deep _ (λ r g. free r (in_receiver (class-back O here.owner scope e (ap (is_class_name bare-one here.owner scope) same ∙ a)) g))
        (subst (λ z. FaultIn bare-one here scope z r) (sym same) h)
    before-call e x n es p same deep all free (in_call_arguments h) = all _ (λ r g. free r (in_call_arguments g)) h

    mutual
      pub fault : (e : Expression) {r : Refusal} → None-of (FaultIn O here scope e) → FaultIn bare-one here scope (expr_unplaced e) r → ⊥
      fault (IntLit _ _) _ h = elim h [ ]
      fault (CharLit _ _) _ h = elim h [ ]
      fault (StrLit _ _) _ h = elim h [ ]
      fault (BoolLit _ _) _ h = elim h [ ]
      fault (NullLit _) _ h = elim h [ ]
      fault (ThisRef p) free (this_in_static s) = free _ (this_in_static s)
      fault (NameRef n p) free (no_variable a) = free _ (no_variable (class-back O here.owner scope (NameRef n p) a))
      fault (NameRef n p) free (static_above b near s o) =
          let a = nearest-back O near in free _ (static_above b a.1 (ap (λ z. z.is_static) a.2 ∙ s) (λ e. o (ap (λ z. z.owner) (sym a.2) ∙ e)))
      fault (NameRef n p) free (own_in_static b near s t) = let a = nearest-back O near in free _ (own_in_static b a.1 (ap (λ z. z.is_static) a.2 ∙ s) t)
      fault (FieldOf e n p) free h = before-field e (expr_unplaced e) n p refl (λ r g i. fault e g i) free h
      fault (IndexOf e i p) free (in_array h) = fault e (λ r g. free r (in_array g)) h
      fault (IndexOf e i p) free (in_index h) = fault i (λ r g. free r (in_index g)) h
      fault (CallOf n es p) free (no_method f) = free _ (no_method (λ m k h. f m (untag_method k) (met O h)))
      fault (CallOf n es p) free (static_method_above m s o) =
          let a = first-method-back O m in free _ (static_method_above a.1 (ap (λ z. z.is_static) a.2 ∙ s) (λ e. o (ap (λ z. z.owner) (sym a.2) ∙ e)))
      fault (CallOf n es p) free (call_in_static m s t) = let a = first-method-back O m in free _ (call_in_static a.1 (ap (λ z. z.is_static) a.2 ∙ s) t)
      fault (CallOf n es p) free (in_arguments h) = faults es (λ r g. free r (in_arguments g)) h
      fault (CallOn e n es p) free h = before-call e (expr_unplaced e) n es p refl (λ r g i. fault e g i) (λ r g i. faults es g i) free h
      fault (SuperCallOf n es p) free (super_in_static s) = free _ (super_in_static s)
      fault (SuperCallOf n es p) free (in_super_arguments h) = faults es (λ r g. free r (in_super_arguments g)) h
      fault (NewOf c es p) free (no_class_of_new e) = free _ (no_class_of_new (named-back O c.name e))
      fault (NewOf c es p) free (in_new_arguments h) = faults es (λ r g. free r (in_new_arguments g)) h
      fault (NewArrayOf u e p) free (no_type_of_array h) = unknown-type O (λ r g. free r (no_type_of_array g)) h
      fault (NewArrayOf u e p) free (in_size h) = fault e (λ r g. free r (in_size g)) h
      fault (CastOf u e p) free (no_type_of_cast h) = unknown-cast O (λ r g. free r (no_type_of_cast g)) h
      fault (CastOf u e p) free (in_cast h) = fault e (λ r g. free r (in_cast g)) h
      fault (InstanceOfClass e c p) free (no_class_of_test f) = free _ (no_class_of_test (named-back O c.name f))
      fault (InstanceOfClass e c p) free (in_tested h) = fault e (λ r g. free r (in_tested g)) h
      fault (UnaryOf m e p) free (in_operand h) = fault e (λ r g. free r (in_operand g)) h
      fault (BinaryOf m e d p) free (in_left h) = fault e (λ r g. free r (in_left g)) h
      fault (BinaryOf m e d p) free (in_right h) = fault d (λ r g. free r (in_right g)) h

      pub faults : (es : Expressions) {r : Refusal} → None-of (FaultInOne O here scope es) → FaultInOne bare-one here scope (exprs_unplaced es) r → ⊥
      faults no_more _ h = elim h [ ]
      faults (and_more e es) free (in_first h) = fault e (λ r g. free r (in_first g)) h
      faults (and_more e es) free (in_later h) = faults es (λ r g. free r (in_later g)) h

    value-fault : (v : Option Expression) {r : Refusal} → None-of (FaultInValue O here scope v) → FaultInValue bare-one here scope (value_unplaced v) r → ⊥
    value-fault None _ h = elim h [ ]
    value-fault (Some e) free (in_value h) = fault e (λ r g. free r (in_value g)) h

  -- the names in scope after a statement
  pub after : (scope : List (List ℕ)) (s : Statement) → names_after scope (stmt_unplaced s) ≡ names_after scope s
  after scope (LocalOf f u n v p) = refl
  after scope _ = refl

  pub after-part : (scope : List (List ℕ)) (s : OptionalStatement) → names_after_part scope (step_unplaced s) ≡ names_after_part scope s
  after-part scope absent = refl
  after-part scope (present s) = after scope s

  mutual
    st : (s : Statement) {in_loop : Bool} {scope : List (List ℕ)} {r : Refusal} → None-of (StFault O here in_loop scope s)
        → StFault bare-one here in_loop scope (stmt_unplaced s) r → ⊥
    st (LocalOf f u n v p) free (no_type_of_local h) = unknown-type O (λ r g. free r (no_type_of_local g)) h
    st (LocalOf f u n v p) free (type_as_local e) = free _ (type_as_local (type-name-back O n e))
    st (LocalOf f u n v p) free (local_twice e) = free _ (local_twice e)
    st (LocalOf f u n v p) {scope = scope} free (in_first_value h) = value-fault (scope ++ n ∷ []) v (λ r g. free r (in_first_value g)) h
    st (BlockOf ss p) free (in_block h) = sts ss (λ r g. free r (in_block g)) h
    st (AssignOf e v p) {scope = scope} free (in_target h) = fault scope e (λ r g. free r (in_target g)) h
    st (AssignOf e v p) {scope = scope} free (in_assigned h) = fault scope v (λ r g. free r (in_assigned g)) h
    st (DoOf e p) {scope = scope} free (in_call h) = fault scope e (λ r g. free r (in_call g)) h
    st (PrintOf l v p) {scope = scope} free (in_printed h) = value-fault scope v (λ r g. free r (in_printed g)) h
    st (IfOf a tree.no_else p) free (in_choice h) = arms a (λ r g. free r (in_choice g)) h
    st (IfOf a (tree.otherwise ss) p) free (in_choice h) = arms a (λ r g. free r (in_choice g)) h
    st (IfOf a (tree.otherwise ss) p) free (in_else h) = sts ss (λ r g. free r (in_else g)) h
    st (WhileOf e ss p) {scope = scope} free (in_while_test h) = fault scope e (λ r g. free r (in_while_test g)) h
    st (WhileOf e ss p) free (in_while h) = sts ss (λ r g. free r (in_while g)) h
    st (ForOf f v g ss p) free (in_first_part h) = part f (λ r i. free r (in_first_part i)) h
    st (ForOf f v g ss p) {scope = scope} {r = r} free (in_for_test h) =
        value-fault (names_after_part scope f) v (λ r i. free r (in_for_test i))
        (subst (λ z. FaultInValue bare-one here z (value_unplaced v) r) (after-part scope f) h)
    st (ForOf f v g ss p) {in_loop = in_loop} {scope = scope} {r = r} free (in_last_part h) =
        part g (λ r i. free r (in_last_part i)) (subst (λ z. PartFault bare-one here in_loop z (step_unplaced g) r) (after-part scope f) h)
    st (ForOf f v g ss p) {scope = scope} {r = r} free (in_for h) =
        sts ss (λ r i. free r (in_for i)) (subst (λ z. StsFault bare-one here true z (stmts_unplaced ss) r) (after-part scope f) h)
    st (ReturnOf v p) {scope = scope} free (in_returned h) = value-fault scope v (λ r g. free r (in_returned g)) h
    st (BreakOf p) free break_outside = free _ break_outside
    st (ContinueOf p) free continue_outside = free _ continue_outside

    pub sts : (ss : Statements) {in_loop : Bool} {scope : List (List ℕ)} {r : Refusal} → None-of (StsFault O here in_loop scope ss)
        → StsFault bare-one here in_loop scope (stmts_unplaced ss) r → ⊥
    sts no_statements _ h = elim h [ ]
    sts (and_then s ss) free (in_statement h) = st s (λ r g. free r (in_statement g)) h
    sts (and_then s ss) {in_loop = in_loop} {scope = scope} {r = r} free (in_rest h) =
        sts ss (λ r g. free r (in_rest g)) (subst (λ z. StsFault bare-one here in_loop z (stmts_unplaced ss) r) (after scope s) h)

    arms : (a : tree.Arms) {in_loop : Bool} {scope : List (List ℕ)} {r : Refusal} → None-of (ArmsFault O here in_loop scope a)
        → ArmsFault bare-one here in_loop scope (arms_unplaced a) r → ⊥
    arms tree.no_arms _ h = elim h [ ]
    arms (tree.and_arm e ss a) {scope = scope} free (in_test h) = fault scope e (λ r g. free r (in_test g)) h
    arms (tree.and_arm e ss a) free (in_arm h) = sts ss (λ r g. free r (in_arm g)) h
    arms (tree.and_arm e ss a) free (in_more_arms h) = arms a (λ r g. free r (in_more_arms g)) h

    part : (s : OptionalStatement) {in_loop : Bool} {scope : List (List ℕ)} {r : Refusal} → None-of (PartFault O here in_loop scope s)
        → PartFault bare-one here in_loop scope (step_unplaced s) r → ⊥
    part absent _ h = elim h [ ]
    part (present s) free (in_part h) = st s (λ r g. free r (in_part g)) h
