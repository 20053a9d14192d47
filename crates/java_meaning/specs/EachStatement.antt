-- Believed. What holds in each statement of a body, and of those in it, where it is said what holds of an expression, a
-- declaration, an assignment and what is returned.
use Rattle.std.specs.Prelude.{ℕ, Option, Some, None}
use Rattle.java_core.specs.Trees.{Ex, Target, St, Sts, IfArms, declare, block, assign, act, print, choose, loop, return, break, continue, no_st, st_then, no_other, otherwise, arm}

-- it holds of an expression, where there is one
abbrev pub OfOption : (Ex → Type 0) → Option Ex → Type 0
OfOption Of None = Unit {0}
OfOption Of (Some e) = Of e

-- what is to hold of an expression, a declaration, an assignment and what is returned
pub record Asked : Type 1 where
  pub Of : Ex → Type 0
  pub Declared : ℕ → Option Ex → Type 0
  pub Assigned : Target → Ex → Type 0
  pub Returned : Option Ex → Type 0

module _ (A : Asked) where
  abbrev mutual
    -- what is asked holds of each expression, declaration, assignment and return in a statement
    pub InSt : St → Type 0
    InSt (declare t i e) = A.Declared i e
    InSt (block t xs) = InSts xs
    InSt (assign t b e) = A.Assigned b e
    InSt (act t e) = A.Of e
    InSt (print t n e) = OfOption A.Of e
    InSt (choose t a) = InArms a
    InSt (loop t is_while first test step body) = InSts first × OfOption A.Of test × InSts step × InSts body
    InSt (return t e) = A.Returned e
    InSt (break t) = Unit {0}
    InSt (continue t) = Unit {0}

    -- the same of each statement of a list
    pub InSts : Sts → Type 0
    InSts no_st = Unit {0}
    InSts (st_then x xs) = InSt x × InSts xs

    -- the same of each test and each body of the arms of an `if`
    pub InArms : IfArms → Type 0
    InArms no_other = Unit {0}
    InArms (otherwise xs) = InSts xs
    InArms (arm e xs more) = A.Of e × InSts xs × InArms more
