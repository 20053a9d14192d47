-- No condition on names holds in a written body.
use Rattle.std.proofs.Common.{◌≡◌, ℕ, ◌&&◌, ◌==◌, Bool, true, false, List, [], ◌∷◌, ◌++◌, Option, Some, None, refl, sym, ap, ◌∙◌, subst}
use Rattle.std.specs.Prelude.{not, slice_get}
use Rattle.std.specs.Option.{option_map_or, is_none, is_some}
use Rattle.std.proofs.lemmas.Bool.{false≢true, and_parts, eqb-true, not-true}
use Rattle.java_tree.specs.Syntax.{Expression, NameRef, FieldOf, ThisRef, Expressions, LocalOf, BlockOf, Statements, OptionalStatement, absent, present, NullLit, no_statements}
use Rattle.java_tree.specs.Syntax as tree
use Rattle.java_core.specs.Programs.{Plain, PlainField, PlainLocal, PlainMethod}
use Rattle.java_core.specs.Trees.{Ex, Exs, Target, St, Sts, IfArms, no_st, st_then, arm}
use Rattle.java_core.specs.Classes.{field_of}
use Rattle.java_core.specs.Types.{static, env_of}
use Rattle.flow_rules.specs.declared.items.RowItem.TheVariants as row
use Rattle.flow_rules.specs.Operands.{variable_row}
use Rattle.java_core.specs.Formed.{variables_of, IsNewLocal, IsStaticField, IsStaticMethod, is_at_most_one, FormedEx, f_number, f_character, f_text, f_truth, f_null, f_this, f_local, f_static_field, f_own_field, f_field, f_index, f_call, f_static_call, f_super_call, f_create, f_create_array, f_cast, f_instance_of, f_unary, f_binary, FormedExs, f_no_ex, f_ex_then, FormedTarget, f_to_local, f_to_static, f_to_own, f_to_field, f_to_element, FormedOption, f_none, f_some, FormedSt, f_declare, f_block, f_assign, f_act, f_print, f_choose, f_loop, f_return, f_break, f_continue, FormedSts, f_no_st, f_st_then, FormedArms, f_no_other, f_otherwise, f_arm}
use Rattle.java_core.specs.Formed as core
use Rattle.hier_model.specs.Hierarchies.{Hierarchy}
use Rattle.rebuild_model.specs.Renaming.{Renaming, make_name}
use Rattle.name_rules.specs.declared.parts.Here.{Here}
use Rattle.name_rules.specs.declared.Refusal.{Refusal}
use Rattle.name_rules.specs.Meanings.{is_class_name, IsStaticMethodOf}
use Rattle.name_rules.specs.Conditions.{FaultIn, FaultInOne, FaultInValue, this_in_static, in_array, in_index, super_in_static, in_super_arguments, no_class_of_new, in_new_arguments, no_type_of_array, in_size, no_type_of_cast, in_cast, no_class_of_test, in_tested, in_operand, in_left, in_right, in_first, in_later, in_value, StFault, StsFault, ArmsFault, PartFault, in_block, in_target, in_assigned, in_call, in_printed, in_returned, break_outside, continue_outside, in_statement, in_rest, in_test, in_arm, in_more_arms, in_part, names_after, names_after_part}
use Rattle.write_model.specs.Names.{nowhere, class_name, written_type, makers_name, row_name}
use Rattle.write_model.specs.Bodies.{static_field_tree, static_call_tree, loop_tree, scope_after, scope_after_part, variable_name, is_in_scope, is_simple, static_field_name, static_call_name, field_name, called_name, written, written_all, written_if, written_target, declared, written_st, written_sts, written_part, written_arms, written_else, creation_tree}
use Rattle.write_laws.specs.names.Stages.{IsStage, HasHolder, FindsField, FindsMethod}
use Rattle.write_laws.specs.names.Known.{KnownEx, KnownExs, KnownTarget, KnownVariable, known, IsKnownName, IsSiteOf}
use Rattle.java_meaning.specs.EachStatement.{OfOption, InSt, InSts, InArms}
use Rattle.write_laws.proofs.names.Faults.{bound_no_class, variable_fault, own_field_fault, own_field_no_class, holder_field_fault, holder_call_fault, field_fault, call_fault, own_call_fault, local_fault, if_fault, loop_fault}
use Rattle.write_laws.proofs.names.Scopes.{IsScope, is_there, not_bound, more}
use Rattle.java_core.specs.Makers.{maker_of}
use Rattle.flow_rules.specs.declared.items.ObjectType.{ObjectType}

module _ (P : Plain) (R : Renaming) (H : Hierarchy) (m : ℕ) (k : PlainMethod) (O : Plain) (here : Here) (stage : IsStage P k O here)
    (called : (n : ℕ) → R.make_name n ≡ make_name P n) where
  -- what a simple name stands on
  simple_parts : (scope : List ℕ) (owner : ℕ) (x : List ℕ) → is_simple k scope owner x ≡ true
      → (k.is_static ≡ true) × (k.owner ≡ owner) × (is_in_scope k scope x ≡ false)
  simple_parts scope owner x h =
      let a = and_parts k.is_static ((k.owner == owner) && not (is_in_scope k scope x)) h in
      let b = and_parts (k.owner == owner) (not (is_in_scope k scope x)) a.1 in
      (a.0, eqb-true k.owner owner b.0, not-true (is_in_scope k scope x) b.1)

  module _ {formed scope : List ℕ} {names : List (List ℕ)} (s : IsScope k formed scope names) where
    holder_name : (c : ℕ) (h : HasHolder P k O here c) → is_class_name O here.owner names (NameRef (class_name P c) nowhere) ≡ true
    holder_name c h =
        ap (λ z. not z && is_none (field_of O here.owner (class_name P c))) (not_bound k s (class_name P c) (λ i v a e. h.no_variable i v e))
        ∙ ap (λ z. is_none z) h.no_field

    static_field_ok : (g : PlainField) → FindsField P k O here g → (b : Bool) → is_simple k scope g.owner g.name ≡ b
        → ((r : Refusal) → FaultIn O here names (static_field_tree b (class_name P g.owner) g.name) r → ⊥)
        × (is_class_name O here.owner names (static_field_tree b (class_name P g.owner) g.name) ≡ false)
    static_field_ok g finds true e =
        let p = simple_parts scope g.owner g.name e in
        let n = finds.near p.0 p.1 in
        (own_field_fault O here names g.name nowhere n.0 n.1 n.2 n.3 n.4, own_field_no_class O here names g.name nowhere n.0 n.1 n.2 n.3 n.4)
    static_field_ok g finds false e =
        let h = finds.holder in
        (holder_field_fault O here names (class_name P g.owner) g.name nowhere nowhere h.number (holder_name g.owner h) h.named finds.field finds.found, refl)

    static_field_name_ok : (f : ℕ) → IsStaticField P f
        → ((r : Refusal) → FaultIn O here names (static_field_name P k scope f) r → ⊥) ×
        (is_class_name O here.owner names (static_field_name P k scope f) ≡ false)
    static_field_name_ok f is =
        let g = is.member in
        subst
        (λ o. let t = option_map_or (λ g. static_field_tree (is_simple k scope g.owner g.name) (class_name P g.owner) g.name) o (NullLit nowhere) in
        ((r : Refusal) → FaultIn O here names t r → ⊥) × (is_class_name O here.owner names t ≡ false))
        (sym is.stands)
        (static_field_ok g (stage.fields f g is.stands is.kind) (is_simple k scope g.owner g.name) refl)

    static_call_ok : (g : PlainMethod) → FindsMethod P k O here g → (es : Expressions) (r : Refusal) → (FaultInOne O here names es r → ⊥) → (b : Bool)
        → is_simple k scope g.owner g.name ≡ b
        → FaultIn O here names (static_call_tree b (class_name P g.owner) g.name es) r → ⊥
    static_call_ok g finds es r args true e =
        let p = simple_parts scope g.owner g.name e in
        let n = finds.near p.0 p.1 in
        own_call_fault O here names g.name es nowhere r n.0 n.1 n.2 (stage.met p.0 g.name) args
    static_call_ok g finds es r args false e =
        let h = finds.holder in
        holder_call_fault O here names (class_name P g.owner) g.name nowhere nowhere h.number (holder_name g.owner h) h.named es finds.method finds.found
        r args

    static_call_name_ok : (d : ℕ) → IsStaticMethod P d → (es : Expressions) (r : Refusal) → (FaultInOne O here names es r → ⊥)
        → FaultIn O here names (static_call_name P k scope d es) r → ⊥
    static_call_name_ok d is es r args =
        let g = is.member in
        subst
        (λ o. FaultIn O here names (option_map_or (λ g. static_call_tree (is_simple k scope g.owner g.name) (class_name P g.owner) g.name es) o
        (NullLit nowhere)) r → ⊥)
        (sym is.stands)
        (static_call_ok g (stage.methods d g is.stands is.kind) es r args (is_simple k scope g.owner g.name) refl)

    -- a creation, or a call of the method that makes its object
    create_ok : (n c : ℕ) (es : Expressions) (r : Refusal) (b : Bool) → is_some (maker_of P c) ≡ b → IsKnownName O (row_name P H (R.row_type (row.New n)) c)
        → IsSiteOf P n c → (FaultInOne O here names es r → ⊥)
        → FaultIn O here names (creation_tree b (makers_name P) (R.make_name n) (row_name P H (R.row_type (row.New n)) c) es) r → ⊥
    create_ok n c es r false e type site args (no_class_of_new h) = type h
    create_ok n c es r false e type site args (in_new_arguments x) = args x
    create_ok n c es r true e type site args x = go (maker_of P c) refl e
      where
        go : (o : Option ℕ) → maker_of P c ≡ o → is_some (maker_of P c) ≡ true → ⊥
        go None d h = false≢true (sym (ap is_some d) ∙ h)
        go (Some j) d h =
            let f = stage.makes site.number j site.site site.stands (ap (λ (o : ObjectType). o.dim == 0) site.type)
            (ap (λ (o : ObjectType). maker_of P o.class.0) site.type ∙ d) in
            let free : is_class_name O here.owner names (NameRef (makers_name P) nowhere) ≡ true =
            ap (λ z. not z && is_none (field_of O here.owner (makers_name P))) (not_bound k s (makers_name P) (λ i v a e. f.no_variable i v e))
            ∙ ap (λ z. is_none z) f.no_field in
            holder_call_fault O here names (makers_name P) (R.make_name n) nowhere nowhere f.number free f.named es f.method
            (subst (λ z. IsStaticMethodOf O f.number z f.method) (ap (make_name P) site.is ∙ sym (called n)) f.found) r args x

    create_no_class : (b : Bool) (x y z : List ℕ) (es : Expressions) → is_class_name O here.owner names (creation_tree b x y z es) ≡ false
    create_no_class true x y z es = refl
    create_no_class false x y z es = refl

    -- what is written of an expression is no class's name
    no_class : {e : Ex} → FormedEx P k formed e → is_class_name O here.owner names (written P R H m k scope e) ≡ false
    no_class (f_local {i = i} a b) = bound_no_class O here names (variable_name k i) nowhere (is_there k s i a)
    no_class (f_static_field {f = f} is) = (static_field_name_ok f is).1
    no_class (f_static_call {m = d} {es = es} is a) = call_no_class d (written_all P R H m k scope es)
      where
        call_no_class : (d : ℕ) (es : Expressions) → is_class_name O here.owner names (static_call_name P k scope d es) ≡ false
        call_no_class d es = go (slice_get P.methods d)
          where
            tree_no_class : (b : Bool) (c x : List ℕ) → is_class_name O here.owner names (static_call_tree b c x es) ≡ false
            tree_no_class true c x = refl
            tree_no_class false c x = refl

            go : (o : Option PlainMethod)
                → is_class_name O here.owner names
                (option_map_or (λ g. static_call_tree (is_simple k scope g.owner g.name) (class_name P g.owner) g.name es) o (NullLit nowhere)) ≡ false
            go None = refl
            go (Some g) = tree_no_class (is_simple k scope g.owner g.name) (class_name P g.owner) g.name
    no_class (f_create {n = n} {c = c} {es = es} a b) = create_no_class (is_some (maker_of P c)) (makers_name P) (R.make_name n)
        (row_name P H (R.row_type (row.New n)) c) (written_all P R H m k scope es)
    no_class fo = refl

    own_ok : (x : List ℕ) (r : Refusal) → k.is_static ≡ false → FaultIn O here names (FieldOf (ThisRef nowhere) x nowhere) r → ⊥
    own_ok x r a y = field_fault O here names (ThisRef nowhere) x nowhere r refl (this_ok r) y
      where
        this_ok : (r : Refusal) → FaultIn O here names (ThisRef nowhere) r → ⊥
        this_ok r (this_in_static h) = false≢true (sym a ∙ sym stage.static ∙ h)

    mutual
      ex_ok : {e : Ex} → FormedEx P k formed e → KnownEx P R H m k O e → (r : Refusal) → FaultIn O here names (written P R H m k scope e) r → ⊥
      ex_ok (f_number a) g r x = elim x [ ]
      ex_ok (f_character a) g r x = elim x [ ]
      ex_ok (f_text a) g r x = elim x [ ]
      ex_ok f_truth g r x = elim x [ ]
      ex_ok f_null g r x = elim x [ ]
      ex_ok (f_this a) g r (this_in_static h) = false≢true (sym a ∙ sym stage.static ∙ h)
      ex_ok (f_local {i = i} a b) g r x = variable_fault O here names (variable_name k i) nowhere r (is_there k s i a) x
      ex_ok (f_static_field {f = f} is) g r x = (static_field_name_ok f is).0 r x
      ex_ok (f_own_field {f = f} a b) g r x = own_ok (R.field_name f) r a x
      ex_ok (f_field {e = e} {x = n} a b) g r x = field_fault O here names (written P R H m k scope e) (field_name P R H m k (static P (env_of m k) e) n)
          nowhere r (no_class a) (ex_ok a g r) x
      ex_ok (f_index a b) g r (in_array x) = ex_ok a g.0 r x
      ex_ok (f_index a b) g r (in_index x) = ex_ok b g.1 r x
      ex_ok (f_call {e = e} {x = n} {es = es} a b c) g r x =
          call_fault O here names (written P R H m k scope e) (called_name P R H m k (static P (env_of m k) e) n) (written_all P R H m k scope es) nowhere
          r (no_class a) (ex_ok a g.0 r)
          (exs_ok c g.1 r) x
      ex_ok (f_static_call {m = d} {es = es} is a) g r x = static_call_name_ok d is (written_all P R H m k scope es) r (exs_ok a g r) x
      ex_ok (f_super_call a b c) g r (super_in_static h) = false≢true (sym a ∙ sym stage.static ∙ h)
      ex_ok (f_super_call a b c) g r (in_super_arguments x) = exs_ok c g r x
      ex_ok (f_create {n = n} {c = c} {es = es} a b) g r x =
          create_ok n c (written_all P R H m k scope es) r (is_some (maker_of P c)) refl g.0 g.1 (exs_ok b g.2 r) x
      ex_ok (f_create_array a b c) g r (no_type_of_array h) = g.0 r h
      ex_ok (f_create_array a b c) g r (in_size x) = ex_ok c g.1 r x
      ex_ok (f_cast a b) g r (no_type_of_cast h) = g.0 r h
      ex_ok (f_cast a b) g r (in_cast x) = ex_ok b g.1 r x
      ex_ok (f_instance_of a b) g r (no_class_of_test h) = g.0 h
      ex_ok (f_instance_of a b) g r (in_tested x) = ex_ok a g.1 r x
      ex_ok (f_unary a) g r (in_operand x) = ex_ok a g r x
      ex_ok (f_binary a b) g r (in_left x) = ex_ok a g.0 r x
      ex_ok (f_binary a b) g r (in_right x) = ex_ok b g.1 r x

      exs_ok : {es : Exs} → FormedExs P k formed es → KnownExs P R H m k O es → (r : Refusal) → FaultInOne O here names (written_all P R H m k scope es) r → ⊥
      exs_ok f_no_ex g r x = elim x [ ]
      exs_ok (f_ex_then a b) g r (in_first x) = ex_ok a g.0 r x
      exs_ok (f_ex_then a b) g r (in_later x) = exs_ok b g.1 r x

    if_ok : {e : Option Ex} → FormedOption P k formed e → OfOption (KnownEx P R H m k O) e → (r : Refusal)
        → FaultInValue O here names (written_if P R H m k scope e) r → ⊥
    if_ok f_none g r x = elim x [ ]
    if_ok (f_some a) g r (in_value x) = ex_ok a g r x

    target_ok : {b : Target} → FormedTarget P k formed b → KnownTarget P R H m k O b → (r : Refusal)
        → FaultIn O here names (written_target P R H m k scope b) r → ⊥
    target_ok (f_to_local {i = i} a b) g r x = variable_fault O here names (variable_name k i) nowhere r (is_there k s i a) x
    target_ok (f_to_static {f = f} is) g r x = (static_field_name_ok f is).0 r x
    target_ok (f_to_own {f = f} a b) g r x = own_ok (R.field_name f) r a x
    target_ok (f_to_field {e = e} {x = n} a b) g r x = field_fault O here names (written P R H m k scope e)
        (field_name P R H m k (static P (env_of m k) e) n) nowhere r (no_class a) (ex_ok a g r) x
    target_ok (f_to_element a b) g r (in_array x) = ex_ok a g.0 r x
    target_ok (f_to_element a b) g r (in_index x) = ex_ok b g.1 r x

  -- ---- statements

  local_names : (names : List (List ℕ)) (i : ℕ) (e : Option Expression) (v : PlainLocal) → slice_get (variables_of k) i ≡ Some v
      → names_after names (declared P R H m k i e) ≡ names ++ v.name ∷ []
  local_names names i e v at =
      ap
      (λ o. names_after names (option_map_or (λ v. LocalOf false (written_type P H (R.row_type (variable_row m k i)) v.ty) v.name e nowhere) o
      (BlockOf no_statements nowhere)))
      at

  loop_names : (is_while : Bool) (names : List (List ℕ)) (f : OptionalStatement) (v : Option Expression) (g : OptionalStatement) (ss : Statements)
      → names_after names (loop_tree is_while f v g ss) ≡ names
  loop_names true names absent (Some e) absent ss = refl
  loop_names true names absent (Some e) (present g) ss = refl
  loop_names true names absent None g ss = refl
  loop_names true names (present f) v g ss = refl
  loop_names false names f v g ss = refl

  -- the scope after a statement, and after the first part of a `for`
  after : {l : Bool} {formed scope : List ℕ} {names : List (List ℕ)} {x : St} → IsScope k formed scope names → FormedSt P k l formed x
      → IsScope k (core.scope_after formed x) (scope_after scope x) (names_after names (written_st P R H m k scope x))
  after {formed = formed} {scope = scope} {names = names} s (f_declare {i = i} {e = e} new a) =
      subst (λ z. IsScope k (i ∷ formed) (scope ++ i ∷ []) z)
      (sym (local_names names i (written_if P R H m k (scope ++ i ∷ []) e) new.variable new.declared))
      (more k s i new.variable new.declared)
  after {formed = formed} {scope = scope} {names = names} s (f_loop {is_while = is_while} {first = first} {step = step} {body = body} {test = test}
      of a b c d e f) =
      let inner = scope_after_part scope first in
      subst (λ z. IsScope k formed scope z)
      (sym (loop_names is_while names (written_part P R H m k scope first) (written_if P R H m k inner test) (written_part P R H m k inner step)
      (written_sts P R H m k inner body)))
      s
  after s fo = s

  after_part : {l : Bool} {formed scope : List ℕ} {names : List (List ℕ)} {xs : Sts} (p : St → Bool) → is_at_most_one p xs ≡ true
      → IsScope k formed scope names → FormedSts P k l formed xs
      → IsScope k (core.scope_after_all formed xs) (scope_after_part scope xs) (names_after_part names (written_part P R H m k scope xs))
  after_part p one s f_no_st = s
  after_part p one s (f_st_then {xs = no_st} a b) = after s a
  after_part p one s (f_st_then {xs = st_then y ys} a b) = absurd (false≢true one)

  declare_ok : {formed scope : List ℕ} {names : List (List ℕ)} (l : Bool) (i : ℕ) (e : Option Ex) (new : IsNewLocal k formed i)
      → IsScope k formed scope names → FormedOption P k (i ∷ formed) e
      → KnownVariable P R H m k O i → OfOption (KnownEx P R H m k O) e → (r : Refusal)
      → StFault O here l names (declared P R H m k i (written_if P R H m k (scope ++ i ∷ []) e)) r → ⊥
  declare_ok {formed} {scope} {names} l i e new s a type value r =
      let v = new.variable in
      let w = written_if P R H m k (scope ++ i ∷ []) e in
      let u = written_type P H (R.row_type (variable_row m k i)) v.ty in
      subst
      (λ o. StFault O here l names (option_map_or (λ v. LocalOf false (written_type P H (R.row_type (variable_row m k i)) v.ty) v.name w nowhere) o
      (BlockOf no_statements nowhere)) r → ⊥)
      (sym new.declared)
      (local_fault O here l names u v.name w nowhere r (type v new.declared r) (stage.variables i v new.declared)
      (not_bound k s v.name (λ j o c at. new.other j o c at))
      (if_ok (more k s i v new.declared) a value r))

  mutual
    pub st_ok : {l : Bool} {formed scope : List ℕ} {names : List (List ℕ)} {x : St} → IsScope k formed scope names → FormedSt P k l formed x
        → InSt (known P R H m k O) x
        → (r : Refusal) → StFault O here l names (written_st P R H m k scope x) r → ⊥
    st_ok {l = l} s (f_declare {i = i} {e = e} new a) g r x = declare_ok l i e new s a g.0 g.1 r x
    st_ok s (f_block a) g r (in_block x) = sts_ok s a g r x
    st_ok s (f_assign a b) g r (in_target x) = target_ok s a g.0 r x
    st_ok s (f_assign a b) g r (in_assigned x) = ex_ok s b g.1 r x
    st_ok s (f_act a b) g r (in_call x) = ex_ok s b g r x
    st_ok s (f_print a b) g r (in_printed x) = if_ok s b g r x
    st_ok {l = l} {scope = scope} {names = names} s (f_choose {e = e} {xs = xs} {more = more} a) g r x =
        if_fault O here l names (written_arms P R H m k scope (arm e xs more)) (written_else P R H m k scope (arm e xs more)) nowhere r (arms_ok s a g r)
        (else_ok s a g r) x
    st_ok {l = l} {scope = scope} {names = names} s (f_loop {is_while = is_while} {first = first} {step = step} {body = body} {test = test} of p q
        a b c d) g r x =
        let inner = scope_after_part scope first in
        let t = after_part core.is_first p s a in
        loop_fault O here l is_while names (written_part P R H m k scope first) (written_if P R H m k inner test) (written_part P R H m k inner step)
        (written_sts P R H m k inner body) r
        (part_ok s a g.0 r) (if_ok t b g.1 r) (part_ok t c g.2 r) (sts_ok t d g.3 r) x
    st_ok s (f_return a) g r (in_returned x) = if_ok s a g r x
    st_ok s (f_break a) g r break_outside = false≢true a
    st_ok s (f_continue a) g r continue_outside = false≢true a

    pub sts_ok : {l : Bool} {formed scope : List ℕ} {names : List (List ℕ)} {xs : Sts} → IsScope k formed scope names → FormedSts P k l formed xs
        → InSts (known P R H m k O) xs
        → (r : Refusal) → StsFault O here l names (written_sts P R H m k scope xs) r → ⊥
    sts_ok s f_no_st g r x = elim x [ ]
    sts_ok s (f_st_then a b) g r (in_statement x) = st_ok s a g.0 r x
    sts_ok s (f_st_then a b) g r (in_rest x) = sts_ok (after s a) b g.1 r x

    part_ok : {l : Bool} {formed scope : List ℕ} {names : List (List ℕ)} {xs : Sts} → IsScope k formed scope names → FormedSts P k l formed xs
        → InSts (known P R H m k O) xs
        → (r : Refusal) → PartFault O here l names (written_part P R H m k scope xs) r → ⊥
    part_ok s f_no_st g r x = elim x [ ]
    part_ok s (f_st_then a b) g r (in_part x) = st_ok s a g.0 r x

    arms_ok : {l : Bool} {formed scope : List ℕ} {names : List (List ℕ)} {a : IfArms} → IsScope k formed scope names → FormedArms P k l formed a
        → InArms (known P R H m k O) a
        → (r : Refusal) → ArmsFault O here l names (written_arms P R H m k scope a) r → ⊥
    arms_ok s f_no_other g r x = elim x [ ]
    arms_ok s (f_otherwise a) g r x = elim x [ ]
    arms_ok s (f_arm a b c) g r (in_test x) = ex_ok s a g.0 r x
    arms_ok s (f_arm a b c) g r (in_arm x) = sts_ok s b g.1 r x
    arms_ok s (f_arm a b c) g r (in_more_arms x) = arms_ok s c g.2 r x

    else_ok : {l : Bool} {formed scope : List ℕ} {names : List (List ℕ)} {a : IfArms} → IsScope k formed scope names → FormedArms P k l formed a
        → InArms (known P R H m k O) a
        → (r : Refusal) (ss : Statements) → written_else P R H m k scope a ≡ tree.otherwise ss → StsFault O here l names ss r → ⊥
    else_ok s f_no_other g r ss e x = absurd (cc e)
    else_ok {l = l} {scope = scope} {names = names} s (f_otherwise {xs = xs} a) g r ss e x =
        sts_ok s a g r (subst (λ z. StsFault O here l names z r) (sym (same (written_sts P R H m k scope xs) ss e)) x)
      where
        same : (a b : Statements) → tree.otherwise a ≡ tree.otherwise b → a ≡ b
        same a b h = cc
    else_ok s (f_arm a b c) g r ss e x = else_ok s c g.2 r ss e x
