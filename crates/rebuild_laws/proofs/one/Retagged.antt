-- A body is itself but for its tags.
use Rattle.std.specs.Prelude.{Option, Some, None}
use Rattle.java_core.specs.Trees.{Ex, Exs, no_ex, ex_then, number, character, text, truth, null, this, local, static_field, own_field, field, index, call, static_call, super_call, create, create_array, cast, instance_of, unary, binary, Target, to_local, to_static, to_own, to_field, to_element, no_target, St, Sts, IfArms, declare, block, assign, act, print, choose, loop, return, break, continue, no_st, st_then, no_other, otherwise, arm}
use Rattle.java_core.specs.Retagged.{Retagged, s_number, s_character, s_text, s_truth, s_null, s_this, s_local, s_static_field, s_own_field, s_field, s_index, s_call, s_static_call, s_super_call, s_create, s_create_array, s_cast, s_instance_of, s_unary, s_binary, RetaggedAll, s_no_ex, s_ex_then, RetaggedTarget, s_to_local, s_to_static, s_to_own, s_to_field, s_to_element, s_no_target}
use Rattle.java_meaning.specs.Paired.{PairedIf, PairedSt, PairedArms, pair_none, pair_some, pair_declare, pair_block, pair_assign, pair_act, pair_print, pair_choose, pair_loop, pair_return, pair_break, pair_continue, pair_no_st, pair_st_then, pair_no_other, pair_otherwise, pair_arm}
use Rattle.java_meaning.specs.Watched.{SameTarget, RetaggedSts}

mutual
  itself : (e : Ex) → Retagged e e
  itself (field t e x) = s_field (itself e)
  itself (index t e i) = s_index (itself e) (itself i)
  itself (call t e x es) = s_call (itself e) (each_itself es)
  itself (static_call t m es) = s_static_call (each_itself es)
  itself (super_call t x es) = s_super_call (each_itself es)
  itself (create t n c es) = s_create (each_itself es)
  itself (create_array t n u e) = s_create_array (itself e)
  itself (cast t n u e) = s_cast (itself e)
  itself (instance_of t n e c) = s_instance_of (itself e)
  itself (unary t o e) = s_unary (itself e)
  itself (binary t o e d) = s_binary (itself e) (itself d)
  itself (this t) = s_this
  itself (null t) = s_null
  itself (truth t b) = s_truth
  itself (local t i) = s_local
  itself (static_field t f) = s_static_field
  itself (own_field t f) = s_own_field
  itself (text t u) = s_text
  itself (character t c) = s_character
  itself (number t n) = s_number

  each_itself : (es : Exs) → RetaggedAll es es
  each_itself no_ex = s_no_ex
  each_itself (ex_then e es) = s_ex_then (itself e) (each_itself es)

if_itself : (e : Option Ex) → PairedIf Retagged SameTarget e e
if_itself None = pair_none
if_itself (Some e) = pair_some (itself e)

target_itself : (b : Target) → RetaggedTarget b b
target_itself (to_local t i) = s_to_local
target_itself (to_static t f) = s_to_static
target_itself (to_own t f) = s_to_own
target_itself (to_field t e x) = s_to_field (itself e)
target_itself (to_element t e i) = s_to_element (itself e) (itself i)
target_itself no_target = s_no_target

mutual
  st_itself : (x : St) → PairedSt Retagged SameTarget x x
  st_itself (declare t i e) = pair_declare (if_itself e)
  st_itself (block t xs) = pair_block (sts_itself xs)
  st_itself (assign t b e) = pair_assign (target_itself b) (itself e)
  st_itself (act t e) = pair_act (itself e)
  st_itself (print t n e) = pair_print (if_itself e)
  st_itself (choose t xs) = pair_choose (arms_itself xs)
  st_itself (loop t w first test step body) = pair_loop (sts_itself first) (if_itself test) (sts_itself step) (sts_itself body)
  st_itself (return t e) = pair_return (if_itself e)
  st_itself (break t) = pair_break
  st_itself (continue t) = pair_continue

  pub sts_itself : (xs : Sts) → RetaggedSts xs xs
  sts_itself no_st = pair_no_st
  sts_itself (st_then x xs) = pair_st_then (st_itself x) (sts_itself xs)

  arms_itself : (xs : IfArms) → PairedArms Retagged SameTarget xs xs
  arms_itself no_other = pair_no_other
  arms_itself (otherwise xs) = pair_otherwise (sts_itself xs)
  arms_itself (arm e xs more) = pair_arm (itself e) (sts_itself xs) (arms_itself more)
