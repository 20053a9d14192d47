-- What holds of the parts of each expression of a body, and of parts put together, holds of those of its statements.
use Rattle.std.proofs.Common.{◌≡◌, ℕ, ◌+◌, List, [], ◌++◌, Option, Some, None, subst, arith}
use Rattle.std.specs.Prelude.{false}
use Rattle.java_core.specs.Trees.{Tag, Ex, local, Target, St, Sts, IfArms, declare, block, assign, act, print, choose, loop, return, break, continue, no_st, st_then, no_other, otherwise, arm}
use Rattle.java_core.specs.Programs.{Plain, PlainMethod}
use Rattle.java_core.specs.Formed.{numbers, numbers_if, numbers_target, numbers_st, numbers_sts, numbers_arms}
use Rattle.flow_rules.specs.declared.items.ObjectType.{ObjectType}
use Rattle.flow_rules.specs.Labels.{size, label, size_if, label_if, size_put, size_target, label_target, size_st, size_sts, size_arms, label_st, label_sts, label_arms}
use Rattle.flow_rules.specs.Parts.{Part, parts, parts_if, parts_set, parts_return, parts_assign, parts_st, parts_sts, parts_arms}

-- parts, the labels from which and up to which they go, and the numbers they have
module _ (P : Plain) (type : Ex → Option ObjectType) (m : ℕ) (k : PlainMethod) (W : ℕ → List Part → ℕ → List ℕ → Type 0)
    (none : (n : ℕ) → W n [] n [])
    (together : (a b c : ℕ) (ps qs : List Part) (xs ys : List ℕ) → W a ps b xs → W b qs c ys → W a (ps ++ qs) c (xs ++ ys))
    (ex : (n : ℕ) (e : Ex) → W n (parts P type m k false (label n e)) (n + size e) (numbers e))
    (set : (n : ℕ) (v : Ex) (e : Option Ex) → W n (parts_set P type m k v (label_if n e)) (n + size_put e) (numbers_if e))
    (given : (n : ℕ) (e : Option Ex) → W n (parts_return P type m k (label_if n e)) (n + size_put e) (numbers_if e))
    (assigned : (n : ℕ) (t : Tag) (b : Target) (e : Ex) → W n (parts_assign P type m k t.place (label_target n b) (label (n + size_target b) e))
    (n + (size_target b + size e + 1)) (numbers_target b ++ numbers e))
  where
    join : {a b c : ℕ} {ps qs : List Part} {xs ys : List ℕ} → W a ps b xs → W b qs c ys → W a (ps ++ qs) c (xs ++ ys)
    join {a} {b} {c} {ps} {qs} {xs} {ys} v w = together a b c ps qs xs ys v w

    upto : {a b c : ℕ} {ps : List Part} {xs : List ℕ} → b ≡ c → W a ps b xs → W a ps c xs
    upto {a} {b} {c} {ps} {xs} e w = subst (λ z. W a ps z xs) e w

    of_if : (n : ℕ) (e : Option Ex) → W n (parts_if P type m k (label_if n e)) (n + size_if e) (numbers_if e)
    of_if n None = upto {b = n} (omega arith) (none n)
    of_if n (Some e) = ex n e

    mutual
      of_st : (n : ℕ) (x : St) → W n (parts_st P type m k (label_st n x)) (n + size_st x) (numbers_st x)
      of_st n (declare t i e) = set n (local t i) e
      of_st n (block t xs) = of_sts n xs
      of_st n (assign t b e) = assigned n t b e
      of_st n (act t e) = ex n e
      of_st n (print t l e) = of_if n e
      of_st n (choose t xs) = of_arms n xs
      of_st n (loop t is_while first test step body) =
          upto {b = n + size_sts first + size_if test + size_sts step + size_sts body} (omega arith)
          (join (join (join (of_sts n first) (of_if (n + size_sts first) test)) (of_sts (n + size_sts first + size_if test) step))
          (of_sts (n + size_sts first + size_if test + size_sts step) body))
      of_st n (return t e) = given n e
      of_st n (break t) = upto {b = n} (omega arith) (none n)
      of_st n (continue t) = upto {b = n} (omega arith) (none n)

      pub of_sts : (n : ℕ) (xs : Sts) → W n (parts_sts P type m k (label_sts n xs)) (n + size_sts xs) (numbers_sts xs)
      of_sts n no_st = upto {b = n} (omega arith) (none n)
      of_sts n (st_then x xs) = upto {b = n + size_st x + size_sts xs} (omega arith) (join (of_st n x) (of_sts (n + size_st x) xs))

      of_arms : (n : ℕ) (xs : IfArms) → W n (parts_arms P type m k (label_arms n xs)) (n + size_arms xs) (numbers_arms xs)
      of_arms n no_other = upto {b = n} (omega arith) (none n)
      of_arms n (otherwise xs) = of_sts n xs
      of_arms n (arm e xs more) =
          upto {b = n + size e + size_sts xs + size_arms more} (omega arith)
          (join (join (ex n e) (of_sts (n + size e) xs)) (of_arms (n + size e + size_sts xs) more))
