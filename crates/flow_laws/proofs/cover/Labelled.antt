-- A body with labels is the body itself but for its tags, and it is typed and formed as the body is.
use Rattle.std.proofs.Common.{◌≡◌, ℕ, ◌+◌, List, Option, Some, None, refl, ◌∙◌}
use Rattle.std.specs.Prelude.{Bool}
use Rattle.std.specs.Option.{is_some}
use Rattle.java_core.specs.declared.Ty.{Ty}
use Rattle.java_core.specs.Trees.{Ex, Exs, no_ex, ex_then, number, character, text, truth, null, this, local, static_field, own_field, field, index, call, static_call, super_call, create, create_array, cast, instance_of, unary, binary, Target, to_local, to_static, to_own, to_field, to_element, no_target, St, Sts, IfArms, declare, block, assign, act, print, choose, loop, return, break, continue, no_st, st_then, no_other, otherwise, arm}
use Rattle.java_core.specs.Programs.{Plain, PlainMethod}
use Rattle.java_core.specs.Types.{Env, target_type}
use Rattle.java_core.specs.Typing.{Typed, t_number, t_character, t_text, t_truth, t_null, t_this, t_local, t_static_field, t_own_field, t_field, t_index, t_call, t_static_call, t_super_call, t_create, t_make, t_create_array, t_cast, t_instance_of, t_unary, t_binary, TypedArgs, t_no_ex, t_ex_then, TypedTarget, t_to_local, t_to_static, t_to_own, t_to_field, t_to_element, TypedTest, t_always, t_test, TypedSt, t_declare, t_declare_as, t_block, t_assign, t_act, t_print_line, t_print, t_choose, t_loop, t_return_nothing, t_return, t_break, t_continue, TypedSts, t_no_st, t_st_then, TypedArms, t_no_other, t_otherwise, t_arm}
use Rattle.java_core.specs.Formed.{scope_after, scope_after_all, is_act, is_first, is_at_most_one, IsLoopHead, of_while, of_for, is_call, FormedEx, f_number, f_character, f_text, f_truth, f_null, f_this, f_local, f_static_field, f_own_field, f_field, f_index, f_call, f_static_call, f_super_call, f_create, f_create_array, f_cast, f_instance_of, f_unary, f_binary, FormedExs, f_no_ex, f_ex_then, FormedTarget, f_to_local, f_to_static, f_to_own, f_to_field, f_to_element, FormedOption, f_none, f_some, FormedSt, f_declare, f_block, f_assign, f_act, f_print, f_choose, f_loop, f_return, f_break, f_continue, FormedSts, f_no_st, f_st_then, FormedArms, f_no_other, f_otherwise, f_arm}
use Rattle.java_core.specs.Retagged.{Retagged, s_number, s_character, s_text, s_truth, s_null, s_this, s_local, s_static_field, s_own_field, s_field, s_index, s_call, s_static_call, s_super_call, s_create, s_create_array, s_cast, s_instance_of, s_unary, s_binary, RetaggedAll, s_no_ex, s_ex_then, RetaggedTarget, s_to_local, s_to_static, s_to_own, s_to_field, s_to_element, s_no_target}
use Rattle.java_meaning.specs.Paired.{PairedIf, PairedSt, PairedArms, pair_none, pair_some, pair_declare, pair_block, pair_assign, pair_act, pair_print, pair_choose, pair_loop, pair_return, pair_break, pair_continue, pair_no_st, pair_st_then, pair_no_other, pair_otherwise, pair_arm}
use Rattle.java_meaning.specs.Watched.{SameTarget, RetaggedSts}
use Rattle.java_core.proofs.Retagging.{static_same}
use Rattle.flow_rules.specs.Labels.{label, label_all, label_if, label_target, label_st, label_sts, label_arms, size, size_target, size_st, size_sts, size_if}

mutual
  pub ex_same : (n : ℕ) (e : Ex) → Retagged (label n e) e
  ex_same n (number t z) = s_number
  ex_same n (character t c) = s_character
  ex_same n (text t u) = s_text
  ex_same n (truth t b) = s_truth
  ex_same n (null t) = s_null
  ex_same n (this t) = s_this
  ex_same n (local t i) = s_local
  ex_same n (static_field t f) = s_static_field
  ex_same n (own_field t f) = s_own_field
  ex_same n (field t e x) = s_field (ex_same n e)
  ex_same n (index t e i) = s_index (ex_same n e) (ex_same (n + size e + 1) i)
  ex_same n (call t e x es) = s_call (ex_same n e) (all_same (n + size e + 1) es)
  ex_same n (static_call t m es) = s_static_call (all_same (n + 1) es)
  ex_same n (super_call t x es) = s_super_call (all_same (n + 1) es)
  ex_same n (create t i c es) = s_create (all_same (n + 1) es)
  ex_same n (create_array t i u e) = s_create_array (ex_same (n + 1) e)
  ex_same n (cast t i u e) = s_cast (ex_same (n + 1) e)
  ex_same n (instance_of t i e c) = s_instance_of (ex_same n e)
  ex_same n (unary t o e) = s_unary (ex_same n e)
  ex_same n (binary t o e d) = s_binary (ex_same n e) (ex_same (n + size e) d)

  all_same : (n : ℕ) (es : Exs) → RetaggedAll (label_all n es) es
  all_same n no_ex = s_no_ex
  all_same n (ex_then e es) = s_ex_then (ex_same n e) (all_same (n + size e) es)

if_same : (n : ℕ) (e : Option Ex) → PairedIf Retagged SameTarget (label_if n e) e
if_same n None = pair_none
if_same n (Some e) = pair_some (ex_same n e)

target_same : (n : ℕ) (b : Target) → RetaggedTarget (label_target n b) b
target_same n (to_local t i) = s_to_local
target_same n (to_static t f) = s_to_static
target_same n (to_own t f) = s_to_own
target_same n (to_field t e x) = s_to_field (ex_same n e)
target_same n (to_element t e i) = s_to_element (ex_same n e) (ex_same (n + size e) i)
target_same n no_target = s_no_target

mutual
  st_same : (n : ℕ) (x : St) → PairedSt Retagged SameTarget (label_st n x) x
  st_same n (declare t i e) = pair_declare (if_same n e)
  st_same n (block t xs) = pair_block (sts_same n xs)
  st_same n (assign t b e) = pair_assign (target_same n b) (ex_same (n + size_target b) e)
  st_same n (act t e) = pair_act (ex_same n e)
  st_same n (print t l e) = pair_print (if_same n e)
  st_same n (choose t xs) = pair_choose (arms_same n xs)
  st_same n (loop t is_while first test step body) =
      pair_loop (sts_same n first) (if_same (n + size_sts first) test) (sts_same (n + size_sts first + size_if test) step)
      (sts_same (n + size_sts first + size_if test + size_sts step) body)
  st_same n (return t e) = pair_return (if_same n e)
  st_same n (break t) = pair_break
  st_same n (continue t) = pair_continue

  pub sts_same : (n : ℕ) (xs : Sts) → RetaggedSts (label_sts n xs) xs
  sts_same n no_st = pair_no_st
  sts_same n (st_then x xs) = pair_st_then (st_same n x) (sts_same (n + size_st x) xs)

  arms_same : (n : ℕ) (xs : IfArms) → PairedArms Retagged SameTarget (label_arms n xs) xs
  arms_same n no_other = pair_no_other
  arms_same n (otherwise xs) = pair_otherwise (sts_same n xs)
  arms_same n (arm e xs more) = pair_arm (ex_same n e) (sts_same (n + size e) xs) (arms_same (n + size e + size_sts xs) more)

-- what is the same but for its tags is typed alike
module _ (P : Plain) (g : Env) where
  same_target : {a b : Target} → RetaggedTarget a b → target_type P g a ≡ target_type P g b
  same_target s_to_local = refl
  same_target s_to_static = refl
  same_target s_to_own = refl
  same_target (s_to_field h) = rw (static_same P g h) refl
  same_target (s_to_element h i) = rw (static_same P g h) refl
  same_target s_no_target = refl

  mutual
    pub typed_same : {e d : Ex} → Retagged e d → Typed P g d → Typed P g e
    typed_same s_number t_number = t_number
    typed_same s_character t_character = t_character
    typed_same s_text t_text = t_text
    typed_same s_truth t_truth = t_truth
    typed_same s_null t_null = t_null
    typed_same s_this t_this = t_this
    typed_same s_local t_local = t_local
    typed_same s_static_field t_static_field = t_static_field
    typed_same s_own_field t_own_field = t_own_field
    typed_same (s_field h) (t_field a b) = t_field (typed_same h a) (rw (static_same P g h) b)
    typed_same (s_index h i) (t_index a b c d) = t_index (typed_same h a) (rw (static_same P g h) b) (typed_same i c) (rw (static_same P g i) d)
    typed_same (s_call h i) (t_call {s = y} a b c) = t_call {s = y} (typed_same h a) (rw (static_same P g h) b) (typed_all_same i c)
    typed_same (s_static_call h) (t_static_call a b) = t_static_call a (typed_all_same h b)
    typed_same (s_super_call h) (t_super_call a b c d) = t_super_call a b c (typed_all_same h d)
    typed_same (s_create s_no_ex) (t_create a b) = t_create a b
    typed_same (s_create h) (t_make a b c d) = t_make a b c (typed_all_same h d)
    typed_same (s_create_array h) (t_create_array a b) = t_create_array (typed_same h a) (rw (static_same P g h) b)
    typed_same (s_cast h) (t_cast a b) = t_cast (typed_same h a) (rw (static_same P g h) b)
    typed_same (s_instance_of h) (t_instance_of a b) = t_instance_of (typed_same h a) (rw (static_same P g h) b)
    typed_same (s_unary h) (t_unary a b) = t_unary (typed_same h a) (rw (static_same P g h) b)
    typed_same (s_binary h i) (t_binary a b c) = t_binary (typed_same h a) (typed_same i b) (rw (static_same P g h, static_same P g i) c)

    typed_all_same : {es ds : Exs} {us : List Ty} → RetaggedAll es ds → TypedArgs P g ds us → TypedArgs P g es us
    typed_all_same s_no_ex t_no_ex = t_no_ex
    typed_all_same (s_ex_then h i) (t_ex_then a b c) = t_ex_then (typed_same h a) (rw (static_same P g h) b) (typed_all_same i c)

  typed_target_same : {a b : Target} → RetaggedTarget a b → TypedTarget P g b → TypedTarget P g a
  typed_target_same s_to_local t_to_local = t_to_local
  typed_target_same s_to_static t_to_static = t_to_static
  typed_target_same s_to_own t_to_own = t_to_own
  typed_target_same (s_to_field h) (t_to_field a b) = t_to_field (typed_same h a) (rw (static_same P g h) b)
  typed_target_same (s_to_element h i) (t_to_element a b c d) = t_to_element (typed_same h a) (rw (static_same P g h) b) (typed_same i c)
      (rw (static_same P g i) d)
  typed_target_same s_no_target a = elim a [ ]

  typed_test_same : {e d : Option Ex} → PairedIf Retagged SameTarget e d → TypedTest P g d → TypedTest P g e
  typed_test_same pair_none t_always = t_always
  typed_test_same (pair_some h) (t_test a b) = t_test (typed_same h a) (rw (static_same P g h) b)

  mutual
    typed_st_same : {x y : St} → PairedSt Retagged SameTarget x y → TypedSt P g y → TypedSt P g x
    typed_st_same (pair_declare pair_none) t_declare = t_declare
    typed_st_same (pair_declare (pair_some h)) (t_declare_as a b) = t_declare_as (typed_same h a) (rw (static_same P g h) b)
    typed_st_same (pair_block h) (t_block a) = t_block (typed_sts_same h a)
    typed_st_same (pair_assign h i) (t_assign a b c) = t_assign (typed_target_same h a) (typed_same i b) (rw (static_same P g i, same_target h) c)
    typed_st_same (pair_act h) (t_act a) = t_act (typed_same h a)
    typed_st_same (pair_print pair_none) t_print_line = t_print_line
    typed_st_same (pair_print (pair_some h)) (t_print a b) = t_print (typed_same h a) (rw (static_same P g h) b)
    typed_st_same (pair_choose h) (t_choose a) = t_choose (typed_arms_same h a)
    typed_st_same (pair_loop h i j k) (t_loop a b c d) = t_loop (typed_sts_same h a) (typed_test_same i b) (typed_sts_same j c) (typed_sts_same k d)
    typed_st_same (pair_return pair_none) (t_return_nothing a) = t_return_nothing a
    typed_st_same (pair_return (pair_some h)) (t_return a b c) = t_return (typed_same h a) b (rw (static_same P g h) c)
    typed_st_same pair_break t_break = t_break
    typed_st_same pair_continue t_continue = t_continue

    pub typed_sts_same : {xs ys : Sts} → RetaggedSts xs ys → TypedSts P g ys → TypedSts P g xs
    typed_sts_same pair_no_st t_no_st = t_no_st
    typed_sts_same (pair_st_then h i) (t_st_then a b) = t_st_then (typed_st_same h a) (typed_sts_same i b)

    typed_arms_same : {xs ys : IfArms} → PairedArms Retagged SameTarget xs ys → TypedArms P g ys → TypedArms P g xs
    typed_arms_same pair_no_other t_no_other = t_no_other
    typed_arms_same (pair_otherwise h) (t_otherwise a) = t_otherwise (typed_sts_same h a)
    typed_arms_same (pair_arm h i j) (t_arm a b c d) = t_arm (typed_same h a) (rw (static_same P g h) b) (typed_sts_same i c) (typed_arms_same j d)

-- it is of one kind, and declares the same
same_call : {e d : Ex} → Retagged e d → is_call e ≡ is_call d
same_call (s_call h i) = refl
same_call h = refl

same_some : {e d : Option Ex} → PairedIf Retagged SameTarget e d → is_some e ≡ is_some d
same_some pair_none = refl
same_some (pair_some h) = refl

same_act : {x y : St} → PairedSt Retagged SameTarget x y → is_act x ≡ is_act y
same_act (pair_act h) = refl
same_act h = refl

same_first : {x y : St} → PairedSt Retagged SameTarget x y → is_first x ≡ is_first y
same_first (pair_declare h) = refl
same_first h = refl

at_most_one : (p : St → Bool) → ((x y : St) → PairedSt Retagged SameTarget x y → p x ≡ p y) → {xs ys : Sts} → RetaggedSts xs ys
    → is_at_most_one p xs ≡ is_at_most_one p ys
at_most_one p f pair_no_st = refl
at_most_one p f (pair_st_then {x = x} {y = y} h pair_no_st) = f x y h
at_most_one p f (pair_st_then h (pair_st_then i j)) = refl

same_scope : (scope : List ℕ) {x y : St} → PairedSt Retagged SameTarget x y → scope_after scope x ≡ scope_after scope y
same_scope sc (pair_declare h) = refl
same_scope sc h = refl

same_scopes : (scope : List ℕ) {xs ys : Sts} → RetaggedSts xs ys → scope_after_all scope xs ≡ scope_after_all scope ys
same_scopes sc pair_no_st = refl
same_scopes sc (pair_st_then {y = y} h i) = rw (same_scope sc h) (same_scopes (scope_after sc y) i)

-- and it is formed alike
module _ (P : Plain) (k : PlainMethod) where
  mutual
    pub formed_same : {scope : List ℕ} {e d : Ex} → Retagged e d → FormedEx P k scope d → FormedEx P k scope e
    formed_same s_number (f_number a) = f_number a
    formed_same s_character (f_character a) = f_character a
    formed_same s_text (f_text a) = f_text a
    formed_same s_truth f_truth = f_truth
    formed_same s_null f_null = f_null
    formed_same s_this (f_this a) = f_this a
    formed_same s_local (f_local a b) = f_local a b
    formed_same s_static_field (f_static_field a) = f_static_field a
    formed_same s_own_field (f_own_field a b) = f_own_field a b
    formed_same (s_field h) (f_field a b) = f_field (formed_same h a) b
    formed_same (s_index h i) (f_index a b) = f_index (formed_same h a) (formed_same i b)
    formed_same (s_call h i) (f_call a b c) = f_call (formed_same h a) b (formed_all_same i c)
    formed_same (s_static_call h) (f_static_call a b) = f_static_call a (formed_all_same h b)
    formed_same (s_super_call h) (f_super_call a b c) = f_super_call a b (formed_all_same h c)
    formed_same (s_create h) (f_create a b) = f_create a (formed_all_same h b)
    formed_same (s_create_array h) (f_create_array a b c) = f_create_array a b (formed_same h c)
    formed_same (s_cast h) (f_cast a b) = f_cast a (formed_same h b)
    formed_same (s_instance_of h) (f_instance_of a b) = f_instance_of (formed_same h a) b
    formed_same (s_unary h) (f_unary a) = f_unary (formed_same h a)
    formed_same (s_binary h i) (f_binary a b) = f_binary (formed_same h a) (formed_same i b)

    formed_all_same : {scope : List ℕ} {es ds : Exs} → RetaggedAll es ds → FormedExs P k scope ds → FormedExs P k scope es
    formed_all_same s_no_ex f_no_ex = f_no_ex
    formed_all_same (s_ex_then h i) (f_ex_then a b) = f_ex_then (formed_same h a) (formed_all_same i b)

  formed_target_same : {scope : List ℕ} {a b : Target} → RetaggedTarget a b → FormedTarget P k scope b → FormedTarget P k scope a
  formed_target_same s_to_local (f_to_local a b) = f_to_local a b
  formed_target_same s_to_static (f_to_static a) = f_to_static a
  formed_target_same s_to_own (f_to_own a b) = f_to_own a b
  formed_target_same (s_to_field h) (f_to_field a b) = f_to_field (formed_same h a) b
  formed_target_same (s_to_element h i) (f_to_element a b) = f_to_element (formed_same h a) (formed_same i b)
  formed_target_same s_no_target a = elim a [ ]

  formed_if_same : {scope : List ℕ} {e d : Option Ex} → PairedIf Retagged SameTarget e d → FormedOption P k scope d → FormedOption P k scope e
  formed_if_same pair_none f_none = f_none
  formed_if_same (pair_some h) (f_some a) = f_some (formed_same h a)

  head_same : {w : Bool} {first first2 step step2 : Sts} {e d : Option Ex} → RetaggedSts first first2 → PairedIf Retagged SameTarget e d
      → RetaggedSts step step2
      → IsLoopHead w first2 d step2 → IsLoopHead w first e step
  head_same pair_no_st (pair_some h) pair_no_st of_while = of_while
  head_same h i j of_for = of_for

  mutual
    formed_st_same : {l : Bool} {scope : List ℕ} {x y : St} → PairedSt Retagged SameTarget x y → FormedSt P k l scope y → FormedSt P k l scope x
    formed_st_same (pair_declare h) (f_declare a b) = f_declare a (formed_if_same h b)
    formed_st_same (pair_block h) (f_block a) = f_block (formed_sts_same h a)
    formed_st_same (pair_assign h i) (f_assign a b) = f_assign (formed_target_same h a) (formed_same i b)
    formed_st_same (pair_act h) (f_act a b) = f_act (rw (same_call h) a) (formed_same h b)
    formed_st_same (pair_print h) (f_print a b) = f_print (rw (same_some h) a) (formed_if_same h b)
    formed_st_same (pair_choose pair_no_other) a = elim a [ ]
    formed_st_same (pair_choose (pair_otherwise h)) a = elim a [ ]
    formed_st_same (pair_choose (pair_arm h i j)) (f_choose a) = f_choose (formed_arms_same (pair_arm h i j) a)
    formed_st_same {scope = sc} (pair_loop h i j w) (f_loop head one two a b c d) =
        f_loop (head_same h i j head) (at_most_one is_first (λ x y. same_first) h ∙ one) (at_most_one is_act (λ x y. same_act) j ∙ two)
        (formed_sts_same h a) (rw (same_scopes sc h) (formed_if_same i b)) (rw (same_scopes sc h) (formed_sts_same j c))
        (rw (same_scopes sc h) (formed_sts_same w d))
    formed_st_same (pair_return h) (f_return a) = f_return (formed_if_same h a)
    formed_st_same pair_break (f_break a) = f_break a
    formed_st_same pair_continue (f_continue a) = f_continue a

    pub formed_sts_same : {l : Bool} {scope : List ℕ} {xs ys : Sts} → RetaggedSts xs ys → FormedSts P k l scope ys → FormedSts P k l scope xs
    formed_sts_same pair_no_st f_no_st = f_no_st
    formed_sts_same {scope = sc} (pair_st_then h i) (f_st_then a b) = f_st_then (formed_st_same h a) (rw (same_scope sc h) (formed_sts_same i b))

    formed_arms_same : {l : Bool} {scope : List ℕ} {xs ys : IfArms} → PairedArms Retagged SameTarget xs ys → FormedArms P k l scope ys
        → FormedArms P k l scope xs
    formed_arms_same pair_no_other f_no_other = f_no_other
    formed_arms_same (pair_otherwise h) (f_otherwise a) = f_otherwise (formed_sts_same h a)
    formed_arms_same (pair_arm h i j) (f_arm a b c) = f_arm (formed_same h a) (formed_sts_same i b) (formed_arms_same j c)
