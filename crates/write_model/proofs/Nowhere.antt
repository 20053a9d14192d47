-- The tree that is written has no places.
use Rattle.std.proofs.Common.{◌≡◌, ℕ, zero, ◌+◌, Bool, true, false, List, [], ◌∷◌, ◌++◌, map, Option, Some, None, refl, ap, ap₂, ◌∙◌}
use Rattle.std.specs.Prelude.{slice_get, ◌==◌, ◌&&◌, not}
use Rattle.std.specs.Option.{is_some, option_map, option_map_or}
use Rattle.std.specs.List.{flat_map}
use Rattle.std.proofs.lemmas.Option.{same_Some}
use Rattle.kaba_base.specs.declared.words.Keyword.TheVariants.{Public, Abstract, Static}
use Rattle.java_tree.specs.declared.Modifier.{Modifier}
use Rattle.java_tree.specs.Syntax.{Expression, FieldOf, IndexOf, CallOn, CallOf, SuperCallOf, NewOf, NewArrayOf, CastOf, InstanceOfClass, UnaryOf, BinaryOf, Expressions, and_more, Statement, LocalOf, BlockOf, AssignOf, DoOf, PrintOf, IfOf, WhileOf, ForOf, ReturnOf, Statements, and_then, and_arm, Else, OptionalStatement, absent, present, HeadTree, MemberTree, FieldTree, MethodTree, DeclTree, ClassTree, InterfaceTree, no_statements}
use Rattle.java_tree.specs.Syntax as tree
use Rattle.java_tree.specs.Places.{expr_unplaced, exprs_unplaced, value_unplaced, stmt_unplaced, stmts_unplaced, arms_unplaced, else_unplaced, step_unplaced, all_unplaced, may_unplaced, modifier_unplaced, id_unplaced, param_unplaced, type_unplaced, head_unplaced, member_unplaced, decl_unplaced, unplaced}
use Rattle.java_core.specs.declared.Ty.{Ty}
use Rattle.java_core.specs.declared.TyBase.{TyBase}
use Rattle.java_core.specs.declared.TyBase.TheVariants.{Int, Boolean, Char}
use Rattle.java_core.specs.Trees.{Ex, Exs, no_ex, ex_then, static_field, field, index, call, static_call, super_call, create, create_array, cast, instance_of, unary, binary, Target, to_static, to_field, to_element, St, Sts, IfArms, declare, block, assign, act, print, choose, loop, return, break, continue, no_st, st_then, no_other, otherwise, arm}
use Rattle.java_core.specs.Programs.{Plain, PlainLocal, PlainField, PlainMethod, PlainSlot}
use Rattle.java_core.specs.Makers.{maker_of}
use Rattle.java_core.specs.Formed.{variables_of}
use Rattle.fact_model.specs.declared.facts.Facts.{Facts}
use Rattle.fact_model.specs.declared.facts.ColumnInfo.{ColumnInfo}
use Rattle.hier_model.specs.Hierarchies.{Hierarchy, type_name, is_class_node, stands_at}
use Rattle.flow_rules.specs.declared.items.ColumnItem.{ColumnItem}
use Rattle.flow_rules.specs.declared.items.ColumnItem.TheVariants as column
use Rattle.flow_rules.specs.Ordered.{each, when}
use Rattle.flow_rules.specs.declared.items.RowItem.TheVariants as row
use Rattle.flow_rules.specs.Numbered.{columns_of, sites_of}
use Rattle.flow_rules.specs.Facts.{is_holder, makers_of}
use Rattle.flow_rules.specs.Operands.{variable_row, result_in}
use Rattle.rebuild_model.specs.Renaming.{Renaming, renaming_of}
use Rattle.rebuild_model.specs.Members.{is_made_at, is_headed, is_filled}
use Rattle.write_model.specs.Bodies.{static_field_tree, static_call_tree, creation_tree, is_simple, loop_tree, scope_after, scope_after_part, static_field_name, static_call_name, written, written_all, written_if, written_target, declared, written_st, written_sts, written_part, written_arms, written_else}
use Rattle.write_model.specs.Members.{is_declaration, is_first_there, parameters, passed, filled_slots, value_of_none, filling, param, head, body, first_head, slot_head, field_member, body_member, static_field_member, static_method_member, make_head, make_body, make_member, maker_member, site_member, make_members, holder_members, heads_of_slot, column_heads, own_member, column_members, filler, slot_filler, class_members, interface_heads}
use Rattle.write_model.specs.Names.{nowhere, modifier, by_number, makers_name, class_name, row_name, written_type}
use Rattle.write_model.specs.Supers.{extended, type_id, superclass, nodes_that, is_cover}
use Rattle.write_model.specs.Written.{class_modifiers, type_tree, type_trees, holder_tree, holder_trees, makers_trees, java_tree}

-- ---- lists

append_is : {A : Type 0} (f : A → A) (xs ys : List A) → all_unplaced f (xs ++ ys) ≡ all_unplaced f xs ++ all_unplaced f ys
append_is f [] ys = refl
append_is f (x ∷ xs) ys = ap (λ z. f x ∷ z) (append_is f xs ys)

both : {A : Type 0} (f : A → A) (xs ys : List A) → all_unplaced f xs ≡ xs → all_unplaced f ys ≡ ys → all_unplaced f (xs ++ ys) ≡ xs ++ ys
both f xs ys p q = append_is f xs ys ∙ ap₂ (λ y z. y ++ z) p q

each_is : {A B : Type 0} (f : B → B) (h : ℕ → A → List B) → ((n : ℕ) (x : A) → all_unplaced f (h n x) ≡ h n x) → (n : ℕ) (xs : List A)
    → all_unplaced f (each h n xs) ≡ each h n xs
each_is f h e n [] = refl
each_is f h e n (x ∷ xs) = both f (h n x) (each h (n + 1) xs) (e n x) (each_is f h e (n + 1) xs)

when_is : {A : Type 0} (f : A → A) (b : Bool) (xs : List A) → all_unplaced f xs ≡ xs → all_unplaced f (when b xs) ≡ when b xs
when_is f true xs e = e
when_is f false xs e = refl

map_is : {A B : Type 0} (f : B → B) (h : A → B) → ((x : A) → f (h x) ≡ h x) → (xs : List A) → all_unplaced f (map h xs) ≡ map h xs
map_is f h e [] = refl
map_is f h e (x ∷ xs) = ap₂ (λ y z. y ∷ z) (e x) (map_is f h e xs)

over : {A B : Type 0} (f : B → B) (h : A → List B) → ((x : A) → all_unplaced f (h x) ≡ h x) → (o : Option A)
    → all_unplaced f (option_map_or h o []) ≡ option_map_or h o []
over f h e None = refl
over f h e (Some x) = e x

flat_is : {A B : Type 0} (f : B → B) (h : A → List B) → ((x : A) → all_unplaced f (h x) ≡ h x) → (xs : List A)
    → all_unplaced f (flat_map h xs) ≡ flat_map h xs
flat_is f h e [] = refl
flat_is f h e (x ∷ xs) = both f (h x) (flat_map h xs) (e x) (flat_is f h e xs)

-- ---- bodies

static_field_is : (b : Bool) (holder x : List ℕ) → expr_unplaced (static_field_tree b holder x) ≡ static_field_tree b holder x
static_field_is true holder x = refl
static_field_is false holder x = refl

static_call_is : (b : Bool) (holder x : List ℕ) (es : Expressions) → exprs_unplaced es ≡ es
    → expr_unplaced (static_call_tree b holder x es) ≡ static_call_tree b holder x es
static_call_is true holder x es e = rw e refl
static_call_is false holder x es e = rw e refl

creation_is : (b : Bool) (holder make class : List ℕ) (es : Expressions) → exprs_unplaced es ≡ es
    → expr_unplaced (creation_tree b holder make class es) ≡ creation_tree b holder make class es
creation_is true holder make class es e = rw e refl
creation_is false holder make class es e = rw e refl

field_is : (P : Plain) (k : PlainMethod) (scope : List ℕ) (f : ℕ) → expr_unplaced (static_field_name P k scope f) ≡ static_field_name P k scope f
field_is P k scope f = go (slice_get P.fields f)
  where
    go : (o : Option PlainField) → expr_unplaced (option_map_or (λ g. static_field_tree (is_simple k scope g.owner g.name) (class_name P g.owner)
        g.name) o (tree.NullLit nowhere))
        ≡ option_map_or (λ g. static_field_tree (is_simple k scope g.owner g.name) (class_name P g.owner) g.name) o (tree.NullLit nowhere)
    go None = refl
    go (Some g) = static_field_is (is_simple k scope g.owner g.name) (class_name P g.owner) g.name

call_is : (P : Plain) (k : PlainMethod) (scope : List ℕ) (d : ℕ) (es : Expressions) → exprs_unplaced es ≡ es
    → expr_unplaced (static_call_name P k scope d es) ≡ static_call_name P k scope d es
call_is P k scope d es e = go (slice_get P.methods d)
  where
    go : (o : Option PlainMethod)
        → expr_unplaced (option_map_or (λ g. static_call_tree (is_simple k scope g.owner g.name) (class_name P g.owner) g.name es) o
        (tree.NullLit nowhere))
        ≡ option_map_or (λ g. static_call_tree (is_simple k scope g.owner g.name) (class_name P g.owner) g.name es) o (tree.NullLit nowhere)
    go None = refl
    go (Some g) = static_call_is (is_simple k scope g.owner g.name) (class_name P g.owner) g.name es e

loop_is : (w : Bool) (f : OptionalStatement) (e : Option Expression) (g : OptionalStatement) (b : Statements) → step_unplaced f ≡ f → value_unplaced e ≡ e
    → step_unplaced g ≡ g → stmts_unplaced b ≡ b → stmt_unplaced (loop_tree w f e g b) ≡ loop_tree w f e g b
loop_is true absent (Some e) absent b pf pe pg pb = λ i. tree.WhileOf (same_Some (expr_unplaced e) e pe i) (pb i) nowhere
loop_is true absent None absent b pf pe pg pb = λ i. ForOf (pf i) (pe i) (pg i) (pb i) nowhere
loop_is true absent None (present s) b pf pe pg pb = λ i. ForOf (pf i) (pe i) (pg i) (pb i) nowhere
loop_is true absent (Some e) (present s) b pf pe pg pb = λ i. ForOf (pf i) (pe i) (pg i) (pb i) nowhere
loop_is true (present s) e g b pf pe pg pb = λ i. ForOf (pf i) (pe i) (pg i) (pb i) nowhere
loop_is false f e g b pf pe pg pb = λ i. ForOf (pf i) (pe i) (pg i) (pb i) nowhere

module _ (P : Plain) (R : Renaming) (H : Hierarchy) (m : ℕ) (k : PlainMethod) where
  mutual
    ex_is : (scope : List ℕ) (e : Ex) → expr_unplaced (written P R H m k scope e) ≡ written P R H m k scope e
    ex_is scope (static_field t f) = field_is P k scope f
    ex_is scope (field t e x) = rw (ex_is scope e) refl
    ex_is scope (index t e i) = rw (ex_is scope e, ex_is scope i) refl
    ex_is scope (call t e x es) = rw (ex_is scope e, exs_is scope es) refl
    ex_is scope (static_call t d es) = call_is P k scope d (written_all P R H m k scope es) (exs_is scope es)
    ex_is scope (super_call t x es) = rw (exs_is scope es) refl
    ex_is scope (create t n c es) =
        creation_is (is_some (maker_of P c)) (makers_name P) (R.make_name n) (row_name P H (R.row_type (row.New n)) c) (written_all P R H m k scope es)
        (exs_is scope es)
    ex_is scope (create_array t n v e) = rw (ex_is scope e) refl
    ex_is scope (cast t n v e) = rw (ex_is scope e) refl
    ex_is scope (instance_of t n e c) = rw (ex_is scope e) refl
    ex_is scope (unary t o e) = rw (ex_is scope e) refl
    ex_is scope (binary t o e d) = rw (ex_is scope e, ex_is scope d) refl
    ex_is scope e = refl

    exs_is : (scope : List ℕ) (es : Exs) → exprs_unplaced (written_all P R H m k scope es) ≡ written_all P R H m k scope es
    exs_is scope no_ex = refl
    exs_is scope (ex_then e es) = rw (ex_is scope e, exs_is scope es) refl

  if_is : (scope : List ℕ) (e : Option Ex) → value_unplaced (written_if P R H m k scope e) ≡ written_if P R H m k scope e
  if_is scope None = refl
  if_is scope (Some e) = ap Some (ex_is scope e)

  target_is : (scope : List ℕ) (b : Target) → expr_unplaced (written_target P R H m k scope b) ≡ written_target P R H m k scope b
  target_is scope (to_static t f) = field_is P k scope f
  target_is scope (to_field t e x) = rw (ex_is scope e) refl
  target_is scope (to_element t e i) = rw (ex_is scope e, ex_is scope i) refl
  target_is scope b = refl

  declared_is : (i : ℕ) (e : Option Expression) → value_unplaced e ≡ e → stmt_unplaced (declared P R H m k i e) ≡ declared P R H m k i e
  declared_is i e q = go (slice_get (variables_of k) i)
    where
      local_of : PlainLocal → Statement
      local_of v = LocalOf false (written_type P H (R.row_type (variable_row m k i)) v.ty) v.name e nowhere

      go : (o : Option PlainLocal) → stmt_unplaced (option_map_or local_of o (BlockOf no_statements nowhere)) ≡ option_map_or local_of o
          (BlockOf no_statements nowhere)
      go None = refl
      go (Some v) = rw q refl

  mutual
    st_is : (scope : List ℕ) (x : St) → stmt_unplaced (written_st P R H m k scope x) ≡ written_st P R H m k scope x
    st_is scope (declare t i e) = declared_is i (written_if P R H m k (scope ++ i ∷ []) e) (if_is (scope ++ i ∷ []) e)
    st_is scope (block t xs) = rw (sts_is scope xs) refl
    st_is scope (assign t b e) = rw (target_is scope b, ex_is scope e) refl
    st_is scope (act t e) = rw (ex_is scope e) refl
    st_is scope (print t l e) = rw (if_is scope e) refl
    st_is scope (choose t a) = rw (arms_is scope a, else_is scope a) refl
    st_is scope (loop t w first e step code) =
        loop_is w (written_part P R H m k scope first) (written_if P R H m k (scope_after_part scope first) e)
        (written_part P R H m k (scope_after_part scope first) step) (written_sts P R H m k (scope_after_part scope first) code)
        (part_is scope first) (if_is (scope_after_part scope first) e) (part_is (scope_after_part scope first) step)
        (sts_is (scope_after_part scope first) code)
    st_is scope (return t e) = rw (if_is scope e) refl
    st_is scope (break t) = refl
    st_is scope (continue t) = refl

    sts_is : (scope : List ℕ) (xs : Sts) → stmts_unplaced (written_sts P R H m k scope xs) ≡ written_sts P R H m k scope xs
    sts_is scope no_st = refl
    sts_is scope (st_then x xs) = rw (st_is scope x, sts_is (scope_after scope x) xs) refl

    part_is : (scope : List ℕ) (xs : Sts) → step_unplaced (written_part P R H m k scope xs) ≡ written_part P R H m k scope xs
    part_is scope no_st = refl
    part_is scope (st_then x xs) = rw (st_is scope x) refl

    arms_is : (scope : List ℕ) (a : IfArms) → arms_unplaced (written_arms P R H m k scope a) ≡ written_arms P R H m k scope a
    arms_is scope no_other = refl
    arms_is scope (otherwise xs) = refl
    arms_is scope (arm e xs more) = rw (ex_is scope e, sts_is scope xs, arms_is scope more) refl

    else_is : (scope : List ℕ) (a : IfArms) → else_unplaced (written_else P R H m k scope a) ≡ written_else P R H m k scope a
    else_is scope no_other = refl
    else_is scope (otherwise xs) = rw (sts_is scope xs) refl
    else_is scope (arm e xs more) = else_is scope more

-- ---- members

value_is : (b : TyBase) (d : ℕ) → expr_unplaced (value_of_none b d) ≡ value_of_none b d
value_is Int zero = refl
value_is Boolean zero = refl
value_is Char zero = refl
value_is _ _ = refl

filling_is : (t : Option Ty) → stmts_unplaced (filling t) ≡ filling t
filling_is None = refl
filling_is (Some t) = rw (value_is t.base t.dim) refl

passed_is : (vs : List PlainLocal) → exprs_unplaced (passed vs) ≡ passed vs
passed_is [] = refl
passed_is (v ∷ vs) = rw (passed_is vs) refl

module _ (P : Plain) (R : Renaming) (H : Hierarchy) where
  head_is : (mods : List Modifier) → all_unplaced modifier_unplaced mods ≡ mods → (name : List ℕ) (m : ℕ) (k : PlainMethod)
      → head_unplaced (head P R H mods name m k) ≡ head P R H mods name m k
  head_is mods e name m k = λ i. record {
    mods = e i;
    type = type_is k.result i;
    name = name;
    params = each_is param_unplaced (λ j v. param P R H m k j v ∷ []) (λ j v. refl) 0 k.params i;
    place = nowhere;
  }
    where
      type_is : (o : Option Ty) → may_unplaced type_unplaced (option_map (written_type P H (R.row_type (result_in k.slot m))) o)
          ≡ option_map (written_type P H (R.row_type (result_in k.slot m))) o
      type_is None = refl
      type_is (Some t) = refl

  body_is : (m : ℕ) (k : PlainMethod) → may_unplaced stmts_unplaced (body P R H m k) ≡ body P R H m k
  body_is m k = go k.body
    where
      go : (o : Option Sts) → may_unplaced stmts_unplaced (option_map (written_sts P R H m k (parameters 0 k.params)) o)
          ≡ option_map (written_sts P R H m k (parameters 0 k.params)) o
      go None = refl
      go (Some xs) = ap Some (sts_is P R H m k (parameters 0 k.params) xs)

  first_head_is : (mods : List Modifier) → all_unplaced modifier_unplaced mods ≡ mods → (s : PlainSlot)
      → all_unplaced head_unplaced (first_head P R H mods s) ≡ first_head P R H mods s
  first_head_is mods e s =
      over head_unplaced (λ k. head P R H mods (R.method_name s.first) s.first k ∷ [])
      (λ k. ap (λ z. z ∷ []) (head_is mods e (R.method_name s.first) s.first k)) (slice_get P.methods s.first)

  slot_head_is : (mods : List Modifier) → all_unplaced modifier_unplaced mods ≡ mods → (x : ℕ)
      → all_unplaced head_unplaced (slot_head P R H mods x) ≡ slot_head P R H mods x
  slot_head_is mods e x = over head_unplaced (first_head P R H mods) (first_head_is mods e) (slice_get P.slots x)

  make_head_is : (n c m : ℕ) (k : PlainMethod) → head_unplaced (make_head P R H n c m k) ≡ make_head P R H n c m k
  make_head_is n c m k = λ i. record (make_head P R H n c m k) {
    params = each_is param_unplaced (λ j v. param P R H m k j v ∷ []) (λ j v. refl) 0 k.params i;
  }

  make_body_is : (n c m : ℕ) (k : PlainMethod) → stmts_unplaced (make_body P R H n c m k) ≡ make_body P R H n c m k
  make_body_is n c m k = rw (passed_is k.params) refl

  make_is : (n c m : ℕ) (k : PlainMethod) → all_unplaced member_unplaced (make_member P R H n c m k ∷ []) ≡ make_member P R H n c m k ∷ []
  make_is n c m k = λ i. MethodTree (make_head_is n c m k i) (Some (make_body_is n c m k i)) nowhere ∷ []

  makes_are : all_unplaced member_unplaced (make_members P R H) ≡ make_members P R H
  makes_are = each_is member_unplaced (site_member P R H) (λ s z. when_is member_unplaced (z.ty.dim == 0) _
      (over member_unplaced (maker_member P R H z.number z.ty.class.0)
      (λ m. over member_unplaced (λ k. make_member P R H z.number z.ty.class.0 m k ∷ []) (make_is z.number z.ty.class.0 m) (slice_get P.methods m))
      (maker_of P z.ty.class.0))) 0 (sites_of P)

  holder_is : (c : ℕ) → all_unplaced member_unplaced (holder_members P R H c) ≡ holder_members P R H c
  holder_is c =
      both member_unplaced (each (static_field_member P R H c) 0 P.fields) (each (static_method_member P R H c) 0 P.methods)
      (each_is member_unplaced (static_field_member P R H c) (λ f k. when_is member_unplaced (k.is_static && (k.owner == c)) _ refl) 0 P.fields)
      (each_is member_unplaced (static_method_member P R H c) (λ m k. when_is member_unplaced (k.is_static && (k.owner == c)) _
      (λ i. MethodTree (head_is (modifier Public ∷ modifier Static ∷ []) refl k.name m k i) (body_is m k i) nowhere ∷ [])) 0 P.methods)

-- heads as members, each with the same body
members_of : (b : Option Statements) → may_unplaced stmts_unplaced b ≡ b → (hs : List HeadTree) → all_unplaced head_unplaced hs ≡ hs
    → all_unplaced member_unplaced (map (λ h. MethodTree h b nowhere) hs) ≡ map (λ h. MethodTree h b nowhere) hs
members_of b e hs q = go hs ∙ ap (map (λ h. MethodTree h b nowhere)) q
  where
    go : (hs : List HeadTree) → all_unplaced member_unplaced (map (λ h. MethodTree h b nowhere) hs) ≡ map (λ h. MethodTree h b nowhere)
        (all_unplaced head_unplaced hs)
    go [] = refl
    go (h ∷ hs) = λ i. MethodTree (head_unplaced h) (e i) nowhere ∷ go hs i

module _ (P : Plain) (R : Renaming) (F : Facts) (H : Hierarchy) where
  slot_heads_are : (mods : List Modifier) → all_unplaced modifier_unplaced mods ≡ mods → (n c : ℕ) (x : Option ℕ)
      → all_unplaced head_unplaced (heads_of_slot P R F H mods n c x) ≡ heads_of_slot P R F H mods n c x
  slot_heads_are mods e n c None = refl
  slot_heads_are mods e n c (Some x) = when_is head_unplaced (is_headed F H n x && is_first_there F H n c x) _ (slot_head_is P R H mods e x)

  heads_are : (mods : List Modifier) → all_unplaced modifier_unplaced mods ≡ mods → (n c : ℕ) (k : ColumnInfo)
      → all_unplaced head_unplaced (column_heads P R F H mods n c k) ≡ column_heads P R F H mods n c k
  heads_are mods e n c k = when_is head_unplaced (is_declaration k.kind) _ (slot_heads_are mods e n c k.slot)

  own_is : (i : Option ColumnItem) → all_unplaced member_unplaced (own_member P R F H i) ≡ own_member P R F H i
  own_is (Some (column.Fld f)) = over member_unplaced (λ k. field_member P R H f k ∷ []) (λ k. refl) (slice_get P.fields f)
  own_is (Some (column.Def m)) =
      over member_unplaced (λ k. body_member P R H m k ∷ [])
      (λ k. λ i. MethodTree (head_is P R H (modifier Public ∷ []) refl (R.method_name m) m k i) (body_is P R H m k i) nowhere ∷ []) (slice_get P.methods m)
  own_is (Some (column.Dcl m)) = refl
  own_is (Some (column.Is k)) = refl
  own_is None = refl

  column_is : (items : List ColumnItem) (n c : ℕ) (k : ColumnInfo)
      → all_unplaced member_unplaced (column_members P R F H items n c k) ≡ column_members P R F H items n c k
  column_is items n c k =
      both member_unplaced _ (own_member P R F H (slice_get items c))
      (members_of None refl _ (heads_are (modifier Public ∷ modifier Abstract ∷ []) refl n c k)) (own_is (slice_get items c))

  filler_is : (n x : ℕ) (s : PlainSlot) → all_unplaced member_unplaced (filler P R F H n x s) ≡ filler P R F H n x s
  filler_is n x s =
      when_is member_unplaced (is_filled F H n x) _
      (members_of (Some (filling s.result)) (ap Some (filling_is s.result)) _ (first_head_is P R H (modifier Public ∷ []) refl s))

  slot_filler_is : (n x : ℕ) → all_unplaced member_unplaced (slot_filler P R F H n x) ≡ slot_filler P R F H n x
  slot_filler_is n x = over member_unplaced (filler P R F H n x) (filler_is n x) (slice_get P.slots x)

  class_is : (items : List ColumnItem) (n : ℕ) → all_unplaced member_unplaced (class_members P R F H items n) ≡ class_members P R F H items n
  class_is items n =
      both member_unplaced _ _
      (each_is member_unplaced (λ c k. when (stands_at H n c) (column_members P R F H items n c k))
      (λ c k. when_is member_unplaced (stands_at H n c) _ (column_is items n c k)) 0 F.columns.items)
      (flat_is member_unplaced (slot_filler P R F H n) (slot_filler_is n) (filled_slots P))

  interface_is : (n : ℕ) → all_unplaced head_unplaced (interface_heads P R F H n) ≡ interface_heads P R F H n
  interface_is n = each_is head_unplaced (λ c k. when (stands_at H n c) (column_heads P R F H [] n c k))
      (λ c k. when_is head_unplaced (stands_at H n c) _ (heads_are [] refl n c k)) 0 F.columns.items

  modifiers_are : (b : Bool) → all_unplaced modifier_unplaced (class_modifiers b) ≡ class_modifiers b
  modifiers_are true = refl
  modifiers_are false = refl

  extended_is : (n : ℕ) → may_unplaced id_unplaced (extended F H n) ≡ extended F H n
  extended_is n = go (superclass F H n)
    where
      go : (o : Option ℕ) → may_unplaced id_unplaced (option_map (type_id F H) o) ≡ option_map (type_id F H) o
      go None = refl
      go (Some a) = refl

  type_is : (items : List ColumnItem) (b : Bool) (n : ℕ) → decl_unplaced (type_tree P R F H items b n) ≡ type_tree P R F H items b n
  type_is items true n = λ i. ClassTree (modifiers_are (is_made_at F H n) i) (type_name H n) (extended_is n i)
      (map_is id_unplaced (type_id F H) (λ a. refl) (nodes_that H.order (λ a. is_cover H.order n a && not (is_class_node F H a))) i)
      (class_is items n i) nowhere
  type_is items false n = λ i. InterfaceTree [] (type_name H n)
      (map_is id_unplaced (type_id F H) (λ a. refl) (nodes_that H.order (λ a. is_cover H.order n a)) i) (interface_is n i) nowhere

-- the whole
pub without_places : (P : Plain) (F : Facts) (H : Hierarchy) → unplaced (java_tree P F H) ≡ java_tree P F H
unfolding java_tree
without_places P F H =
    let R = renaming_of P H by_number in
    let items = map (λ c. c.item) (columns_of P) in
    both decl_unplaced (type_trees P R F H items ++ holder_trees P R H) (makers_trees P R H)
    (both decl_unplaced (type_trees P R F H items) (holder_trees P R H)
    (each_is decl_unplaced (λ n live. when live (type_tree P R F H items (is_class_node F H n) n ∷ []))
    (λ n live. when_is decl_unplaced live _ (ap (λ z. z ∷ []) (type_is P R F H items (is_class_node F H n) n))) 0 H.order.live)
    (each_is decl_unplaced (λ c k. when (is_holder P c) (holder_tree P R H c k ∷ []))
    (λ c k. when_is decl_unplaced (is_holder P c) _ (λ i. ClassTree [] k.name None [] (holder_is P R H c i) nowhere ∷ [])) 0 P.classes))
    (over decl_unplaced (λ m. ClassTree [] m.holder None [] (make_members P R H) nowhere ∷ [])
    (λ m. λ i. ClassTree [] m.holder None [] (makes_are P R H i) nowhere ∷ []) (makers_of P))
