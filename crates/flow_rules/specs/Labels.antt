-- Believed. Labels: each part of a body that facts come from takes the next number, in the order of the text. A call
-- stands before its arguments, a cast before
-- its operand, an `instanceof` and an index after their left sides.
use Rattle.std.specs.Prelude.{ℕ, ◌+◌, Option, Some, None}
use Rattle.java_core.specs.Trees.{Tag, Ex, Exs, number, character, text, truth, null, this, local, static_field, no_ex, ex_then, own_field, field, index, call, static_call, super_call, create, create_array, cast, instance_of, unary, binary, Target, to_local, to_static, to_own, to_field, to_element, no_target, St, Sts, IfArms, declare, block, assign, act, print, choose, loop, return, break, continue, no_st, st_then, no_other, otherwise, arm}

-- how many labels an expression takes: a literal, `null`, `this`, a variable and a static field take none
abbrev mutual
  -- the number of labels in one expression, with those of all its parts
  pub size : Ex → ℕ
  size (own_field t f) = 1
  size (field t e x) = size e + 1
  size (index t e i) = size e + 1 + size i
  size (call t e x es) = size e + 1 + sizes es
  size (static_call t m es) = 1 + sizes es
  size (super_call t x es) = 1 + sizes es
  size (create t n c es) = 1 + sizes es
  size (create_array t n u e) = 1 + size e
  size (cast t n u e) = 1 + size e
  size (instance_of t n e c) = size e + 1
  size (unary t o e) = size e
  size (binary t o e d) = size e + size d + 1
  size (number t z) = 0
  size (character t u) = 0
  size (text t us) = 0
  size (truth t b) = 0
  size (null t) = 0
  size (this t) = 0
  size (local t i) = 0
  size (static_field t f) = 0

  -- the number of labels in a list of arguments
  pub sizes : Exs → ℕ
  sizes no_ex = 0
  sizes (ex_then e es) = size e + sizes es

-- the tag with this label, at its old place
abbrev pub labelled : ℕ → Tag → Tag
labelled n t = record { label = n; place = t.place }

-- an expression with its labels from a number on: what takes none is as it was
abbrev mutual
  -- one expression with its labels from n on
  pub label : ℕ → Ex → Ex
  label n (own_field t f) = own_field (labelled n t) f
  label n (field t e x) = field (labelled (n + size e) t) (label n e) x
  label n (index t e i) = index (labelled (n + size e) t) (label n e) (label (n + size e + 1) i)
  label n (call t e x es) = call (labelled (n + size e) t) (label n e) x (label_all (n + size e + 1) es)
  label n (static_call t m es) = static_call (labelled n t) m (label_all (n + 1) es)
  label n (super_call t x es) = super_call (labelled n t) x (label_all (n + 1) es)
  label n (create t i c es) = create (labelled n t) i c (label_all (n + 1) es)
  label n (create_array t i u e) = create_array (labelled n t) i u (label (n + 1) e)
  label n (cast t i u e) = cast (labelled n t) i u (label (n + 1) e)
  label n (instance_of t i e c) = instance_of (labelled (n + size e) t) i (label n e) c
  label n (unary t o e) = unary t o (label n e)
  label n (binary t o e d) = binary t o (label n e) (label (n + size e) d)
  label n (number t z) = number t z
  label n (character t u) = character t u
  label n (text t us) = text t us
  label n (truth t b) = truth t b
  label n (null t) = null t
  label n (this t) = this t
  label n (local t i) = local t i
  label n (static_field t f) = static_field t f

  -- arguments with their labels from n on, one after the other
  pub label_all : ℕ → Exs → Exs
  label_all n no_ex = no_ex
  label_all n (ex_then e es) = ex_then (label n e) (label_all (n + size e) es)

-- how many labels an expression takes that may be left out
abbrev pub size_if : Option Ex → ℕ
size_if None = 0
size_if (Some e) = size e

-- an expression that may be left out, with its labels from n on
abbrev pub label_if : ℕ → Option Ex → Option Ex
label_if n None = None
label_if n (Some e) = Some (label n e)

-- a value that is there takes a label more where it is put or given back
abbrev pub size_put : Option Ex → ℕ
size_put None = 0
size_put (Some e) = size e + 1

-- how many labels the target of an assignment takes: those of its base and its index
abbrev pub size_target : Target → ℕ
size_target (to_local t i) = 0
size_target (to_static t f) = 0
size_target (to_own t f) = 0
size_target (to_field t e x) = size e
size_target (to_element t e i) = size e + size i
size_target no_target = 0

-- a target with the labels of its base and its index from n on
abbrev pub label_target : ℕ → Target → Target
label_target n (to_local t i) = to_local t i
label_target n (to_static t f) = to_static t f
label_target n (to_own t f) = to_own t f
label_target n (to_field t e x) = to_field t (label n e) x
label_target n (to_element t e i) = to_element t (label n e) (label (n + size e) i)
label_target n no_target = no_target

-- how many labels statements take: a `break` and a `continue` take none
abbrev mutual
  -- the number of labels in one statement
  pub size_st : St → ℕ
  size_st (declare t i e) = size_put e
  size_st (block t xs) = size_sts xs
  size_st (assign t b e) = size_target b + size e + 1
  size_st (act t e) = size e
  size_st (print t n e) = size_if e
  size_st (choose t xs) = size_arms xs
  size_st (loop t is_while first test step body) = size_sts first + size_if test + size_sts step + size_sts body
  size_st (return t e) = size_put e
  size_st (break t) = 0
  size_st (continue t) = 0

  -- the number of labels in a list of statements
  pub size_sts : Sts → ℕ
  size_sts no_st = 0
  size_sts (st_then x xs) = size_st x + size_sts xs

  -- the number of labels in the arms of an `if` and its `else`
  pub size_arms : IfArms → ℕ
  size_arms no_other = 0
  size_arms (otherwise xs) = size_sts xs
  size_arms (arm e xs more) = size e + size_sts xs + size_arms more

-- statements with their labels from a number on
abbrev mutual
  -- one statement with its labels from n on
  pub label_st : ℕ → St → St
  label_st n (declare t i e) = declare t i (label_if n e)
  label_st n (block t xs) = block t (label_sts n xs)
  label_st n (assign t b e) = assign t (label_target n b) (label (n + size_target b) e)
  label_st n (act t e) = act t (label n e)
  label_st n (print t l e) = print t l (label_if n e)
  label_st n (choose t xs) = choose t (label_arms n xs)
  label_st n (loop t is_while first test step body) =
      loop t is_while (label_sts n first) (label_if (n + size_sts first) test) (label_sts (n + size_sts first + size_if test) step)
      (label_sts (n + size_sts first + size_if test + size_sts step) body)
  label_st n (return t e) = return t (label_if n e)
  label_st n (break t) = break t
  label_st n (continue t) = continue t

  -- a list of statements with their labels from n on
  pub label_sts : ℕ → Sts → Sts
  label_sts n no_st = no_st
  label_sts n (st_then x xs) = st_then (label_st n x) (label_sts (n + size_st x) xs)

  -- the arms of an `if` and its `else` with their labels from n on
  pub label_arms : ℕ → IfArms → IfArms
  label_arms n no_other = no_other
  label_arms n (otherwise xs) = otherwise (label_sts n xs)
  label_arms n (arm e xs more) = arm (label n e) (label_sts (n + size e) xs) (label_arms (n + size e + size_sts xs) more)
