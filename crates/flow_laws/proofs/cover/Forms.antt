-- From which form of a typed body each of its parts comes.
use Rattle.std.proofs.Common.{◌≡◌, ℕ, List, [], ◌∷◌, ◌++◌, Option, Some, None, refl, sym, subst, arith, ⊎_elim}
use Rattle.std.specs.Prelude.{Bool, true, false, Contains, slice_get, ◌||◌}
use Rattle.std.proofs.lemmas.List.Elements.{Contains-append_cases}
use Rattle.kaba_base.specs.declared.Place.{Place}
use Rattle.java_core.specs.declared.Ty.{Ty}
use Rattle.java_core.specs.Trees.{Tag, Ex, Exs, no_ex, ex_then, local, static_field, own_field, field, index, call, static_call, super_call, create, create_array, cast, instance_of, unary, binary, Target, to_local, to_static, to_own, to_field, to_element, no_target, St, Sts, IfArms, declare, block, assign, act, print, choose, loop, return, no_st, st_then, no_other, otherwise, arm}
use Rattle.java_core.specs.Programs.{Plain, PlainMethod}
use Rattle.java_core.specs.Classes.{super_method}
use Rattle.java_core.specs.Types.{fits, fits_in, static, target_type}
use Rattle.java_core.specs.Typing.{t_field, t_index, t_call, t_static_call, t_super_call, t_create, t_make, t_create_array, t_cast, t_instance_of, t_unary, t_binary, TypedArgs, t_ex_then, TypedTarget, t_to_field, t_to_element, TypedTest, t_test, TypedSt, t_declare_as, t_block, t_assign, t_act, t_print, t_choose, t_loop, t_return, TypedSts, t_st_then, TypedArms, t_otherwise, t_arm, IsTyped, IsTypedMethod}
use Rattle.java_core.specs.Formed.{f_field, f_index, f_call, f_static_call, f_super_call, f_create, f_create_array, f_cast, f_instance_of, f_unary, f_binary, FormedExs, f_ex_then, FormedTarget, f_to_field, f_to_element, FormedOption, f_some, FormedSt, f_declare, f_block, f_assign, f_act, f_print, f_choose, f_loop, f_return, FormedSts, f_st_then, FormedArms, f_otherwise, f_arm, IsFormed}
use Rattle.flow_rules.specs.Labels.{label_sts}
use Rattle.flow_rules.specs.Parts.{Part, a_load, an_element, a_creation, a_call, a_static_call, a_super_call, a_test, a_pair, a_set, a_store, an_element_store, a_return, is_accessed, nothing, parts_assign, parts_st, parts_arms, parts_body, parts_of}
use Rattle.flow_rules.specs.Operands.{object_field, call_slot, call_declaration, this_operand, test_operand, type_in}
use Rattle.flow_laws.proofs.cover.Each.{left, right}
use Rattle.flow_laws.proofs.cover.Labelled.{sts_same, typed_sts_same, formed_sts_same}
use Rattle.flow_laws.proofs.cover.Walked.{walked}
use Rattle.std.specs.Option.{is_some}
use Rattle.java_core.specs.Makers.{maker_of, maker_slot}

module _ (P : Plain) (m : ℕ) (k : PlainMethod) where
  open walked P m k use {
    env as g,
    type,
    operand as at,
    operands,
    tree,
    tree_all,
    tree_if as if_there,
    tree_sts as sts,
    Stands,
    IsTyped as Typed,
    IsFormed as Formed,
  }

  -- the part of a form itself
  abbrev pub own : Bool → Ex → List Part
  own u (own_field t f) = a_load t.place (this_operand m k) (Some f) (at (own_field t f)) ∷ []
  own u (field t e x) = a_load t.place (at e) (object_field P (type e) x) (at (field t e x)) ∷ []
  own u (index t e i) = an_element t.place (at e) (at (index t e i)) ∷ []
  own u (call t e x es) = a_call t.place (at e) (call_slot P (type e) x) (call_declaration P (type e) x) (operands es) (at (call t e x es)) ∷ []
  own u (static_call t d es) = a_static_call t.place d (operands es) (at (static_call t d es)) ∷ []
  own u (super_call t x es) = a_super_call t.place (super_method P k.owner x) (operands es) (at (super_call t x es)) ∷ []
  own u (create t n c es) = a_creation t.place (u || is_some (maker_of P c)) (at (create t n c es)) (maker_slot P c) (maker_of P c) (operands es) ∷ []
  own u (create_array t n v e) = a_creation t.place u (at (create_array t n v e)) None None [] ∷ []
  own u (cast t n v e) = a_test t.place (at e) (at (cast t n v e)) ∷ []
  own u (instance_of t n e c) = a_test t.place (at e) (test_operand m t n c) ∷ []
  own u (binary t o e d) = a_pair o (at e) (at d) ∷ []
  own u e = []

  abbrev pub own_assign : Place → Target → Ex → List Part
  own_assign p (to_local t i) e = a_set (at (local t i)) (at e) ∷ []
  own_assign p (to_static t f) e = a_set (at (static_field t f)) (at e) ∷ []
  own_assign p (to_own t f) e = a_store p (this_operand m k) (Some f) (at e) ∷ []
  own_assign p (to_field t b x) e = a_store p (at b) (object_field P (type b) x) (at e) ∷ []
  own_assign p (to_element t b i) e = an_element_store p (at b) (at e) ∷ []
  own_assign p no_target e = a_set nothing (at e) ∷ []

  -- a part of a typed body: the form that it is of, whose parts all stand in the body
  pub data From (p : Part) : Type 0 where
    from_ex : {scope : List ℕ} (u : Bool) (e : Ex) → Typed e → Formed scope e → Stands (tree u e) → Contains (own u e) p → From p
    from_assign : {scope : List ℕ} (t : Tag) (b : Target) (e : Ex) → TypedTarget P g b → Typed e → fits_in P (static P g e) (target_type P g b) ≡ true
        → FormedTarget P k scope b → Stands (parts_assign P type m k t.place b e) → Contains (own_assign t.place b e) p → From p
    from_declare : (t : Tag) (i : ℕ) (e : Ex) → Typed e → fits_in P (static P g e) (target_type P g (to_local t i)) ≡ true → Stands (tree false e)
        → Contains (a_set (at (local t i)) (at e) ∷ []) p → From p
    from_return : {u : Ty} (e : Ex) → Typed e → g.result ≡ Some u → fits P (static P g e) u ≡ true → Stands (tree false e)
        → Contains (a_return (at e) ∷ []) p → From p

  split : {p : Part} {R : Type 0} (xs ys : List Part) → Stands (xs ++ ys) → Contains (xs ++ ys) p → (Stands xs → Contains xs p → R)
      → (Stands ys → Contains ys p → R) → R
  split {p = p} xs ys into c f r = ⊎_elim (f (left xs ys into)) (r (right xs ys into)) (Contains-append_cases xs ys p c)

  unless : {p : Part} {R : Type 0} → Contains [] p → R
  unless c = absurd (omega (arith, c.1))

  mutual
    ex_from : {p : Part} {scope : List ℕ} (u : Bool) (e : Ex) → Typed e → Formed scope e → Stands (tree u e) → Contains (tree u e) p → From p
    ex_from u (own_field t i) a f into c = from_ex u (own_field t i) a f into c
    ex_from u (field t e x) (t_field a b) (f_field d i) into c = split (tree (is_accessed e) e) _ into c (ex_from (is_accessed e) e a d)
        (λ way. from_ex u (field t e x) (t_field a b) (f_field d i) into)
    ex_from u (index t e i) (t_index a b v w) (f_index d q) into c =
        split (tree true e) (own u (index t e i) ++ tree false i) into c (ex_from true e a d)
        (λ way z. split (own u (index t e i)) (tree false i) way z (λ way. from_ex u (index t e i) (t_index a b v w) (f_index d q) into) (ex_from false i v q))
    ex_from u (call t e x es) (t_call a b v) (f_call d i q) into c =
        split (tree true e) (own u (call t e x es) ++ tree_all true es) into c (ex_from true e a d)
        (λ way z. split (own u (call t e x es)) (tree_all true es) way z (λ way. from_ex u (call t e x es) (t_call a b v) (f_call d i q) into)
        (all_from true es v q))
    ex_from u (static_call t d es) (t_static_call a b) (f_static_call i q) into c =
        split (own u (static_call t d es)) (tree_all false es) into c (λ way. from_ex u (static_call t d es) (t_static_call a b) (f_static_call i q)
        into) (all_from false es b q)
    ex_from u (super_call t x es) (t_super_call a b v w) (f_super_call i j q) into c =
        split (own u (super_call t x es)) (tree_all false es) into c (λ way. from_ex u (super_call t x es) (t_super_call a b v w) (f_super_call i j q)
        into) (all_from false es w q)
    ex_from u (create t i d no_ex) (t_create a b) f into c = from_ex u (create t i d no_ex) (t_create a b) f into c
    ex_from u (create t i d es) (t_make a b w v) (f_create x q) into c =
        split (own u (create t i d es)) (tree_all (is_some (maker_of P d)) es) into c (λ way. from_ex u (create t i d es) (t_make a b w v) (f_create x q) into)
        (all_from (is_some (maker_of P d)) es v q)
    ex_from u (create_array t i v e) (t_create_array a b) (f_create_array d q r) into c =
        split (own u (create_array t i v e)) (tree false e) into c (λ way. from_ex u (create_array t i v e) (t_create_array a b)
        (f_create_array d q r) into) (ex_from false e a r)
    ex_from u (cast t i v e) (t_cast a b) (f_cast d q) into c =
        split (own u (cast t i v e)) (tree true e) into c (λ way. from_ex u (cast t i v e) (t_cast a b) (f_cast d q) into) (ex_from true e a q)
    ex_from u (instance_of t i e v) (t_instance_of a b) (f_instance_of d q) into c =
        split (tree true e) _ into c (ex_from true e a d) (λ way. from_ex u (instance_of t i e v) (t_instance_of a b) (f_instance_of d q) into)
    ex_from u (unary t o e) (t_unary a b) (f_unary d) into c = ex_from false e a d into c
    ex_from u (binary t o e i) (t_binary a b v) (f_binary d q) into c =
        split (tree false e ++ tree false i) _ into c (λ way z. split (tree false e) (tree false i) way z (ex_from false e a d) (ex_from false i b q))
        (λ way. from_ex u (binary t o e i) (t_binary a b v) (f_binary d q) into)
    ex_from u e a f into c = unless c

    all_from : {p : Part} {scope : List ℕ} {us : List Ty} (u : Bool) (es : Exs) → TypedArgs P g es us → FormedExs P k scope es → Stands (tree_all u es)
        → Contains (tree_all u es) p → From p
    all_from u no_ex a f into c = unless c
    all_from u (ex_then e es) (t_ex_then a b v) (f_ex_then d q) into c = split (tree u e) (tree_all u es) into c (ex_from u e a d) (all_from u es v q)

  -- the test of a loop, and the value of a print
  test_from : {p : Part} {scope : List ℕ} (e : Option Ex) → TypedTest P g e → FormedOption P k scope e → Stands (if_there e) → Contains (if_there e) p → From p
  test_from None a f into c = unless c
  test_from (Some e) (t_test a b) (f_some d) into c = ex_from false e a d into c

  target_from : {p : Part} {scope : List ℕ} (q : Place) (b : Target) (e : Ex) → TypedTarget P g b → Typed e → FormedTarget P k scope b → Formed scope e
      → Stands (parts_assign P type m k q b e) → Contains (parts_assign P type m k q b e) p → (Contains (own_assign q b e) p → From p) → From p
  target_from q (to_local r i) e a x d f into c self = split (tree false e) _ into c (ex_from false e x f) (λ way. self)
  target_from q (to_static r i) e a x d f into c self = split (tree false e) _ into c (ex_from false e x f) (λ way. self)
  target_from q (to_own r i) e a x d f into c self = split (tree true e) _ into c (ex_from true e x f) (λ way. self)
  target_from q (to_field r b y) e (t_to_field a w) x (f_to_field d j) f into c self =
      split (tree (is_accessed b) b ++ tree true e) _ into c
      (λ way z. split (tree (is_accessed b) b) (tree true e) way z (ex_from (is_accessed b) b a d) (ex_from true e x f)) (λ way. self)
  target_from q (to_element r b i) e (t_to_element a w v y) x (f_to_element d l) f into c self =
      split (tree true b ++ tree false i ++ tree true e) _ into c
      (λ way z. split (tree true b ++ tree false i) (tree true e) way z
      (λ way z. split (tree true b) (tree false i) way z (ex_from true b a d) (ex_from false i v l)) (ex_from true e x f)) (λ way. self)
  target_from q no_target e a x d f into c self = elim a [ ]

  mutual
    st_from : {p : Part} {in_loop : Bool} {scope : List ℕ} (x : St) → TypedSt P g x → FormedSt P k in_loop scope x → Stands (parts_st P type m k x)
        → Contains (parts_st P type m k x) p → From p
    st_from (declare t i (Some e)) (t_declare_as a b) (f_declare d (f_some f)) into c =
        split (tree false e) _ into c (ex_from false e a f) (λ way. from_declare t i e a b (left (tree false e) _ into))
    st_from (block t xs) (t_block a) (f_block f) into c = sts_from xs a f into c
    st_from (assign t b e) (t_assign a x y) (f_assign d f) into c = target_from t.place b e a x d f into c (from_assign t b e a x y d into)
    st_from (act t e) (t_act a) (f_act d f) into c = ex_from false e a f into c
    st_from (print t l (Some e)) (t_print a b) (f_print d (f_some f)) into c = ex_from false e a f into c
    st_from (choose t (arm e xs more)) (t_choose a) (f_choose f) into c = arms_from (arm e xs more) a f into c
    st_from (choose t no_other) a f into c = elim f [ ]
    st_from (choose t (otherwise xs)) a f into c = elim f [ ]
    st_from (loop t is_while first test step body) (t_loop a b v w) (f_loop head i j d f q r) into c =
        split (sts first ++ if_there test ++ sts step) (sts body) into c
        (λ way z. split (sts first ++ if_there test) (sts step) way z
        (λ way z. split (sts first) (if_there test) way z (sts_from first a d) (test_from test b f)) (sts_from step v q)) (sts_from body w r)
    st_from (return t (Some e)) (t_return a b v) (f_return (f_some f)) into c =
        split (tree false e) _ into c (ex_from false e a f) (λ way. from_return e a b v (left (tree false e) _ into))
    st_from x a f into c = unless c

    sts_from : {p : Part} {in_loop : Bool} {scope : List ℕ} (xs : Sts) → TypedSts P g xs → FormedSts P k in_loop scope xs → Stands (sts xs)
        → Contains (sts xs) p → From p
    sts_from no_st a f into c = unless c
    sts_from (st_then x xs) (t_st_then a b) (f_st_then d f) into c = split (parts_st P type m k x) (sts xs) into c (st_from x a d) (sts_from xs b f)

    arms_from : {p : Part} {in_loop : Bool} {scope : List ℕ} (xs : IfArms) → TypedArms P g xs → FormedArms P k in_loop scope xs
        → Stands (parts_arms P type m k xs) → Contains (parts_arms P type m k xs) p → From p
    arms_from no_other a f into c = unless c
    arms_from (otherwise xs) (t_otherwise a) (f_otherwise f) into c = sts_from xs a f into c
    arms_from (arm e xs more) (t_arm a b v w) (f_arm d f q) into c =
        split (tree false e ++ sts xs) (parts_arms P type m k more) into c
        (λ way z. split (tree false e) (sts xs) way z (ex_from false e a d) (sts_from xs v f)) (arms_from more w q)

  -- a method that has parts has code
  pub has_code : (p : Part) → Contains (parts_of P m k) p → (xs : Sts) × (k.body ≡ Some xs)
  unfolding parts_of
  has_code p c = go k.body refl
    where
      go : (b : Option Sts) → k.body ≡ b → (xs : Sts) × (k.body ≡ Some xs)
      go None h = absurd (let z : Contains (parts_body P type m k None) p = subst (λ z. Contains (parts_body P type m k z) p) h c in omega (arith, z.1))
      go (Some xs) h = (xs, h)

-- each part of a body of a typed and formed program
pub part_from : (P : Plain) → IsFormed P → IsTyped P → (m : ℕ) (k : PlainMethod) → slice_get P.methods m ≡ Some k → (p : Part) → Contains (parts_of P m k) p
    → From P m k p
unfolding parts_of IsTypedMethod
part_from P formed typed m k e p c =
    let x = has_code P m k p c in
    sts_from P m k (label_sts 0 x.0) (typed_sts_same P _ (sts_same 0 x.0) (typed.methods m k e x.0 x.1))
    (formed_sts_same P k (sts_same 0 x.0) ((formed.methods m k e).code x.0 x.1))
    (λ q d. subst (λ z. Contains (parts_body P (type_in P m k) m k z) q) (sym x.1) d) (subst (λ z. Contains (parts_body P (type_in P m k) m k z) p) x.1 c)
