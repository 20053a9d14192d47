-- Where a condition holds of a body, one holds of it without its places.
use Rattle.std.proofs.Common.{◌≡◌, ℕ, Bool, true, List, [], ◌∷◌, ◌++◌, Option, refl, sym, ap, ◌∙◌, subst}
use Rattle.java_tree.specs.declared.TypeName.{TypeName}
use Rattle.java_tree.specs.Syntax.{Expression, NameRef, Expressions, Statement, Statements, OptionalStatement}
use Rattle.java_tree.specs.Syntax as tree
use Rattle.java_tree.specs.Places.{nowhere, type_unplaced, expr_unplaced, exprs_unplaced, value_unplaced, stmt_unplaced, stmts_unplaced, arms_unplaced, step_unplaced}
use Rattle.java_core.specs.Programs.{Plain}
use Rattle.name_rules.specs.declared.Refusal.{Refusal}
use Rattle.name_rules.specs.declared.parts.Here.{Here}
use Rattle.name_rules.specs.Outline.{is_type_name}
use Rattle.name_rules.specs.Meanings.{is_class_name}
use Rattle.name_rules.specs.Conditions.{IsUnknownType, no_such_type, IsUnknownCast, no_such_cast, FaultIn, this_in_static, no_variable, static_above, own_in_static, no_class_of_field, no_static_field, in_base, in_array, in_index, no_method, static_method_above, call_in_static, in_arguments, no_class_of_call, no_static_method, in_receiver, in_call_arguments, super_in_static, in_super_arguments, no_class_of_new, in_new_arguments, no_type_of_array, in_size, no_type_of_cast, in_cast, no_class_of_test, in_tested, in_operand, in_left, in_right, FaultInOne, in_first, in_later, FaultInValue, in_value, names_after_part, StFault, no_type_of_local, type_as_local, local_twice, in_first_value, in_block, in_target, in_assigned, in_call, in_printed, in_choice, in_else, in_while_test, in_while, in_first_part, in_for_test, in_last_part, in_for, in_returned, break_outside, continue_outside, StsFault, in_statement, in_rest, ArmsFault, in_test, in_arm, in_more_arms, PartFault, in_part}
use Rattle.java_core.specs.Untagged.{untagged}
use Rattle.name_place_laws.proofs.Meanings.{names-same, named-same, class-name-same, static-field-back, static-method-back, nearest-field, met-back}
use Rattle.name_place_laws.proofs.FirstMethods.{first-method}
use Rattle.name_place_laws.proofs.Faults.{None-of, after, after-part}

module _ (O : Plain) where
  abbrev bare-outline : Plain
  bare-outline = untagged O

  unknown-type : {u : TypeName} {r : Refusal} → None-of (IsUnknownType bare-outline (type_unplaced u)) → IsUnknownType O u r → ⊥
  unknown-type free (no_such_type {n = n} e f g) = free _ (no_such_type e f (named-same O n ∙ g))

  unknown-cast : {u : TypeName} {r : Refusal} → None-of (IsUnknownCast bare-outline (type_unplaced u)) → IsUnknownCast O u r → ⊥
  unknown-cast free (no_such_cast {n = n} e g) = free _ (no_such_cast e (named-same O n ∙ g))

  class-same : (c : ℕ) (names : List (List ℕ)) (e : Expression) → is_class_name bare-outline c names (expr_unplaced e) ≡ is_class_name O c names e
  class-same c names (NameRef n p) = class-name-same O c names n nowhere p
  class-same c names _ = refl

module _ (O : Plain) (here : Here) where
  abbrev bare-one : Plain
  bare-one = untagged O

  module _ (scope : List (List ℕ)) where
    mutual
      pub fault : {e : Expression} {r : Refusal} → None-of (FaultIn bare-one here scope (expr_unplaced e)) → FaultIn O here scope e r → ⊥
      fault free (this_in_static s) = free _ (this_in_static s)
      fault free (no_variable {n = n} {p = p} a) = free _ (no_variable (class-same O here.owner scope (NameRef n p) ∙ a))
      fault free (static_above b near s o) = free _ (static_above b (nearest-field O near) s o)
      fault free (own_in_static b near s t) = free _ (own_in_static b (nearest-field O near) s t)
      fault free (no_class_of_field {c = c} {q = q} a f) =
          free _ (no_class_of_field (class-same O here.owner scope (NameRef c q) ∙ a) (named-same O c ∙ f))
      fault free (no_static_field {c = c} {q = q} a f g) =
          free _ (no_static_field (class-same O here.owner scope (NameRef c q) ∙ a) (named-same O c ∙ f) (λ i h. g i (static-field-back O h)))
      fault free (in_base {e = e} a h) = fault (λ r g. free r (in_base (class-same O here.owner scope e ∙ a) g)) h
      fault free (in_array h) = fault (λ r g. free r (in_array g)) h
      fault free (in_index h) = fault (λ r g. free r (in_index g)) h
      fault free (no_method f) = free _ (no_method (λ m k h. let a = met-back O h in f m a.0 a.1))
      fault free (static_method_above m s o) = free _ (static_method_above (first-method O m) s o)
      fault free (call_in_static m s t) = free _ (call_in_static (first-method O m) s t)
      fault free (in_arguments h) = faults (λ r g. free r (in_arguments g)) h
      fault free (no_class_of_call {c = c} {q = q} a f) =
          free _ (no_class_of_call (class-same O here.owner scope (NameRef c q) ∙ a) (named-same O c ∙ f))
      fault free (no_static_method {c = c} {q = q} a f g) =
          free _ (no_static_method (class-same O here.owner scope (NameRef c q) ∙ a) (named-same O c ∙ f) (λ m h. g m (static-method-back O h)))
      fault free (in_receiver {e = e} a h) = fault (λ r g. free r (in_receiver (class-same O here.owner scope e ∙ a) g)) h
      fault free (in_call_arguments h) = faults (λ r g. free r (in_call_arguments g)) h
      fault free (super_in_static s) = free _ (super_in_static s)
      fault free (in_super_arguments h) = faults (λ r g. free r (in_super_arguments g)) h
      fault free (no_class_of_new {c = c} e) = free _ (no_class_of_new (named-same O c.name ∙ e))
      fault free (in_new_arguments h) = faults (λ r g. free r (in_new_arguments g)) h
      fault free (no_type_of_array h) = unknown-type O (λ r g. free r (no_type_of_array g)) h
      fault free (in_size h) = fault (λ r g. free r (in_size g)) h
      fault free (no_type_of_cast h) = unknown-cast O (λ r g. free r (no_type_of_cast g)) h
      fault free (in_cast h) = fault (λ r g. free r (in_cast g)) h
      fault free (no_class_of_test {c = c} f) = free _ (no_class_of_test (named-same O c.name ∙ f))
      fault free (in_tested h) = fault (λ r g. free r (in_tested g)) h
      fault free (in_operand h) = fault (λ r g. free r (in_operand g)) h
      fault free (in_left h) = fault (λ r g. free r (in_left g)) h
      fault free (in_right h) = fault (λ r g. free r (in_right g)) h

      pub faults : {es : Expressions} {r : Refusal} → None-of (FaultInOne bare-one here scope (exprs_unplaced es)) → FaultInOne O here scope es r → ⊥
      faults free (in_first h) = fault (λ r g. free r (in_first g)) h
      faults free (in_later h) = faults (λ r g. free r (in_later g)) h

    value-fault : {v : Option Expression} {r : Refusal} → None-of (FaultInValue bare-one here scope (value_unplaced v)) → FaultInValue O here scope v r → ⊥
    value-fault free (in_value h) = fault (λ r g. free r (in_value g)) h

  mutual
    st : {in_loop : Bool} {scope : List (List ℕ)} {s : Statement} {r : Refusal} → None-of (StFault bare-one here in_loop scope (stmt_unplaced s))
        → StFault O here in_loop scope s r → ⊥
    st free (no_type_of_local h) = unknown-type O (λ r g. free r (no_type_of_local g)) h
    st free (type_as_local {n = n} e) = free _ (type_as_local (ap (λ z. is_type_name z n) (names-same O) ∙ e))
    st free (local_twice e) = free _ (local_twice e)
    st free (in_first_value {scope = scope} {n = n} h) = value-fault (scope ++ n ∷ []) (λ r g. free r (in_first_value g)) h
    st free (in_block h) = sts (λ r g. free r (in_block g)) h
    st free (in_target {scope = scope} h) = fault scope (λ r g. free r (in_target g)) h
    st free (in_assigned {scope = scope} h) = fault scope (λ r g. free r (in_assigned g)) h
    st free (in_call {scope = scope} h) = fault scope (λ r g. free r (in_call g)) h
    st free (in_printed {scope = scope} h) = value-fault scope (λ r g. free r (in_printed g)) h
    st free (in_choice h) = arms (λ r g. free r (in_choice g)) h
    st free (in_else h) = sts (λ r g. free r (in_else g)) h
    st free (in_while_test {scope = scope} h) = fault scope (λ r g. free r (in_while_test g)) h
    st free (in_while h) = sts (λ r g. free r (in_while g)) h
    st free (in_first_part h) = part (λ r g. free r (in_first_part g)) h
    st free (in_for_test {scope = scope} {f = f} {v = v} h) =
        value-fault (names_after_part scope f)
        (λ r g. free r (in_for_test (subst (λ z. FaultInValue bare-one here z (value_unplaced v) r) (sym (after-part O here scope f)) g))) h
    st free (in_last_part {in_loop = in_loop} {scope = scope} {f = f} {g = s} h) =
        part (λ r g. free r (in_last_part (subst (λ z. PartFault bare-one here in_loop z (step_unplaced s) r) (sym (after-part O here scope f)) g))) h
    st free (in_for {scope = scope} {f = f} {ss = ss} h) =
        sts (λ r g. free r (in_for (subst (λ z. StsFault bare-one here true z (stmts_unplaced ss) r) (sym (after-part O here scope f)) g))) h
    st free (in_returned {scope = scope} h) = value-fault scope (λ r g. free r (in_returned g)) h
    st free break_outside = free _ break_outside
    st free continue_outside = free _ continue_outside

    pub sts : {in_loop : Bool} {scope : List (List ℕ)} {ss : Statements} {r : Refusal} → None-of (StsFault bare-one here in_loop scope (stmts_unplaced ss))
        → StsFault O here in_loop scope ss r → ⊥
    sts free (in_statement h) = st (λ r g. free r (in_statement g)) h
    sts free (in_rest {in_loop = in_loop} {scope = scope} {s = s} {ss = ss} h) =
        sts (λ r g. free r (in_rest (subst (λ z. StsFault bare-one here in_loop z (stmts_unplaced ss) r) (sym (after O here scope s)) g))) h

    arms : {in_loop : Bool} {scope : List (List ℕ)} {a : tree.Arms} {r : Refusal} → None-of (ArmsFault bare-one here in_loop scope (arms_unplaced a))
        → ArmsFault O here in_loop scope a r → ⊥
    arms free (in_test {scope = scope} h) = fault scope (λ r g. free r (in_test g)) h
    arms free (in_arm h) = sts (λ r g. free r (in_arm g)) h
    arms free (in_more_arms h) = arms (λ r g. free r (in_more_arms g)) h

    part : {in_loop : Bool} {scope : List (List ℕ)} {s : OptionalStatement} {r : Refusal} → None-of (PartFault bare-one here in_loop scope (step_unplaced s))
        → PartFault O here in_loop scope s r → ⊥
    part free (in_part h) = st (λ r g. free r (in_part g)) h
