-- Bodies in the same form: of two that stand in a row, the first and the last are in the same form.
use Rattle.std.specs.Prelude.{Option}
use Rattle.java_core.specs.Trees.{Ex, Target, St, Sts, IfArms}
use Rattle.java_meaning.specs.Paired.{PairedIf, PairedSt, PairedSts, PairedArms, pair_none, pair_some, pair_declare, pair_block, pair_assign, pair_act, pair_print, pair_choose, pair_loop, pair_return, pair_break, pair_continue, pair_no_st, pair_st_then, pair_no_other, pair_otherwise, pair_arm}

module _ (E F G : Ex → Ex → Type 0) (S T U : Ex → Target → Target → Type 0) (of_ex : (e d c : Ex) → E e d → F d c → G e c)
    (of_target : (e d : Ex) (a b c : Target) → S e a b → T d b c → U e a c) where
  joined_if : {e d c : Option Ex} → PairedIf E S e d → PairedIf F T d c → PairedIf G U e c
  joined_if pair_none pair_none = pair_none
  joined_if (pair_some h) (pair_some i) = pair_some (of_ex _ _ _ h i)

  mutual
    joined_st : {x y z : St} → PairedSt E S x y → PairedSt F T y z → PairedSt G U x z
    joined_st (pair_declare h) (pair_declare i) = pair_declare (joined_if h i)
    joined_st (pair_block h) (pair_block i) = pair_block (joined_sts h i)
    joined_st (pair_assign h q) (pair_assign i r) = pair_assign (of_target _ _ _ _ _ h i) (of_ex _ _ _ q r)
    joined_st (pair_act h) (pair_act i) = pair_act (of_ex _ _ _ h i)
    joined_st (pair_print h) (pair_print i) = pair_print (joined_if h i)
    joined_st (pair_choose h) (pair_choose i) = pair_choose (joined_arms h i)
    joined_st (pair_loop f t s b) (pair_loop g u v c) = pair_loop (joined_sts f g) (joined_if t u) (joined_sts s v) (joined_sts b c)
    joined_st (pair_return h) (pair_return i) = pair_return (joined_if h i)
    joined_st pair_break pair_break = pair_break
    joined_st pair_continue pair_continue = pair_continue

    pub joined_sts : {xs ys zs : Sts} → PairedSts E S xs ys → PairedSts F T ys zs → PairedSts G U xs zs
    joined_sts pair_no_st pair_no_st = pair_no_st
    joined_sts (pair_st_then h hs) (pair_st_then i is) = pair_st_then (joined_st h i) (joined_sts hs is)

    joined_arms : {a b c : IfArms} → PairedArms E S a b → PairedArms F T b c → PairedArms G U a c
    joined_arms pair_no_other pair_no_other = pair_no_other
    joined_arms (pair_otherwise h) (pair_otherwise i) = pair_otherwise (joined_sts h i)
    joined_arms (pair_arm h hs more) (pair_arm i is rest) = pair_arm (of_ex _ _ _ h i) (joined_sts hs is) (joined_arms more rest)
