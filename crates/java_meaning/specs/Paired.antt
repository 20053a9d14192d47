-- Believed. Two bodies in the same form, statement by statement, where it is said when two expressions are a pair, and
-- two targets of an assignment, which are told
-- the value that is put there. Labels and places are free.
use Rattle.std.specs.Prelude.{ℕ, Bool, Option, Some, None}
use Rattle.java_core.specs.Trees.{Tag, Ex, Target, St, Sts, IfArms, declare, block, assign, act, print, choose, loop, return, break, continue, no_st, st_then, no_other, otherwise, arm}

module _ (E : Ex → Ex → Type 0) (T : Ex → Target → Target → Type 0) where
  -- both are there, or neither
  pub data PairedIf : Option Ex → Option Ex → Type 0 where
    pair_none : PairedIf None None
    pair_some : {e d : Ex} → E e d → PairedIf (Some e) (Some d)

  mutual
    -- two statements are of the same form, and their expressions and targets are related
    pub data PairedSt : St → St → Type 0 where
      pair_declare : {t u : Tag} {i : ℕ} {e d : Option Ex} → PairedIf e d → PairedSt (declare t i e) (declare u i d)
      pair_block : {t u : Tag} {xs ys : Sts} → PairedSts xs ys → PairedSt (block t xs) (block u ys)
      pair_assign : {t u : Tag} {b c : Target} {e d : Ex} → T e b c → E e d → PairedSt (assign t b e) (assign u c d)
      pair_act : {t u : Tag} {e d : Ex} → E e d → PairedSt (act t e) (act u d)
      pair_print : {t u : Tag} {n : Bool} {e d : Option Ex} → PairedIf e d → PairedSt (print t n e) (print u n d)
      pair_choose : {t u : Tag} {a b : IfArms} → PairedArms a b → PairedSt (choose t a) (choose u b)
      pair_loop : {t u : Tag} {is_while : Bool} {first step body other last code : Sts} {e d : Option Ex} → PairedSts first other → PairedIf e d
          → PairedSts step last → PairedSts body code
          → PairedSt (loop t is_while first e step body) (loop u is_while other d last code)
      pair_return : {t u : Tag} {e d : Option Ex} → PairedIf e d → PairedSt (return t e) (return u d)
      pair_break : {t u : Tag} → PairedSt (break t) (break u)
      pair_continue : {t u : Tag} → PairedSt (continue t) (continue u)

    -- two lists of statements are as long as one another, and paired one by one
    pub data PairedSts : Sts → Sts → Type 0 where
      pair_no_st : PairedSts no_st no_st
      pair_st_then : {x y : St} {xs ys : Sts} → PairedSt x y → PairedSts xs ys → PairedSts (st_then x xs) (st_then y ys)

    -- the arms of two `if` are as many, and their tests and bodies are paired one by one
    pub data PairedArms : IfArms → IfArms → Type 0 where
      pair_no_other : PairedArms no_other no_other
      pair_otherwise : {xs ys : Sts} → PairedSts xs ys → PairedArms (otherwise xs) (otherwise ys)
      pair_arm : {e d : Ex} {xs ys : Sts} {a b : IfArms} → E e d → PairedSts xs ys → PairedArms a b → PairedArms (arm e xs a) (arm d ys b)
