-- Mirror. Whether two programs are one, as tests over their plain trees.
use Rattle.std.specs.Prelude.{ℕ, ◌==◌, ◌&&◌, ◌||◌, List, [], ◌∷◌, length, Option, Some, None, Bool, true, false, slice_get}
use Rattle.std.specs.List.{list_any}
use Rattle.std.specs.Ordering.{int_eq}
use Rattle.std.specs.Bool.{beq}
use Rattle.std.specs.Str.{bytes_eq}
use Rattle.kaba_base.specs.declared.ClassId.{ClassId}
use Rattle.java_core.specs.declared.Ty.{Ty}
use Rattle.java_core.specs.declared.TyBase.{TyBase}
use Rattle.java_core.specs.declared.TyBase.TheVariants.{Int, Boolean, Char, Str, Class}
use Rattle.java_core.specs.declared.UnOp.{UnOp}
use Rattle.java_core.specs.declared.UnOp.TheVariants as un
use Rattle.java_core.specs.declared.BinOp.{BinOp}
use Rattle.java_core.specs.declared.BinOp.TheVariants as bin
use Rattle.java_core.specs.declared.Op.{Op}
use Rattle.java_core.specs.declared.Op.TheVariants as op
use Rattle.java_core.specs.Trees.{Ex, Exs, no_ex, ex_then, number, character, text, truth, null, this, local, static_field, own_field, field, index, call, static_call, super_call, create, create_array, cast, instance_of, unary, binary, Target, to_local, to_static, to_own, to_field, to_element, no_target, St, Sts, IfArms, declare, block, assign, act, print, choose, loop, return, break, continue, no_st, st_then, no_other, otherwise, arm}
use Rattle.java_core.specs.Programs.{Plain, PlainClass, PlainField, PlainLocal, PlainMethod}
use Rattle.rebuild_model.specs.OneBodies.{class_name, field_name}

-- whether there are both of two names, and they are one
abbrev pub both_named : Option (List ℕ) → Option (List ℕ) → Bool
both_named (Some x) (Some y) = bytes_eq x y
both_named (Some x) None = false
both_named None y = false

-- whether there is a name, and it is this one
abbrev pub is_named : Option (List ℕ) → List ℕ → Bool
is_named (Some x) y = bytes_eq x y
is_named None y = false

-- whether an expression is `this`
abbrev pub is_this : Ex → Bool
is_this (this t) = true
is_this _ = false

-- whether what is assigned to is a variable, a field or an element
abbrev pub is_target : Target → Bool
is_target (to_local t i) = true
is_target (to_static t f) = true
is_target (to_own t f) = true
is_target (to_field t e x) = true
is_target (to_element t e i) = true
is_target no_target = false

-- a test that holds of two things, where both are there, or neither is
abbrev pub may_one : {A : Type 0} → (A → A → Bool) → Option A → Option A → Bool
may_one f None None = true
may_one f (Some x) (Some y) = f x y
may_one f None (Some y) = false
may_one f (Some x) None = false

-- a test that holds of the items of two lists, one by one
abbrev pub all_one : {A : Type 0} → (A → A → Bool) → List A → List A → Bool
all_one f [] [] = true
all_one f (x ∷ xs) (y ∷ ys) = f x y && all_one f xs ys
all_one f [] (y ∷ ys) = false
all_one f (x ∷ xs) [] = false

-- a test that holds of each item of a list
abbrev pub each_one : {A : Type 0} → (A → Bool) → List A → Bool
each_one f [] = true
each_one f (x ∷ xs) = f x && each_one f xs

-- whether each item of a list has one in the other of which the test holds
abbrev pub each_has : {A : Type 0} → (A → A → Bool) → List A → List A → Bool
each_has f xs ys = each_one (λ x. list_any (f x) ys) xs

-- a test that holds of each item of a list and one of another, which is as long
abbrev pub matched : {A : Type 0} → (A → A → Bool) → List A → List A → Bool
matched f xs ys = each_has f xs ys && (length xs == length ys)

-- two prefix operators
abbrev pub one_unary : UnOp → UnOp → Bool
one_unary un.Plus un.Plus = true
one_unary un.Minus un.Minus = true
one_unary un.Flip un.Flip = true
one_unary un.Not un.Not = true
one_unary _ _ = false

-- two operators on ints
abbrev pub one_op : Op → Op → Bool
one_op op.Plus op.Plus = true
one_op op.Minus op.Minus = true
one_op op.Times op.Times = true
one_op op.Divide op.Divide = true
one_op op.Remainder op.Remainder = true
one_op op.ShiftLeft op.ShiftLeft = true
one_op op.ShiftRight op.ShiftRight = true
one_op op.ShiftRightUnsigned op.ShiftRightUnsigned = true
one_op op.And op.And = true
one_op op.Or op.Or = true
one_op op.Xor op.Xor = true
one_op _ _ = false

-- two binary operators
abbrev pub one_binary : BinOp → BinOp → Bool
one_binary (bin.Int o) (bin.Int q) = one_op o q
one_binary bin.Same bin.Same = true
one_binary bin.Differs bin.Differs = true
one_binary bin.Less bin.Less = true
one_binary bin.Greater bin.Greater = true
one_binary bin.AtMost bin.AtMost = true
one_binary bin.AtLeast bin.AtLeast = true
one_binary bin.Both bin.Both = true
one_binary bin.Either bin.Either = true
one_binary _ _ = false

-- two classes or interfaces, but for their supertypes
abbrev pub one_head : PlainClass → PlainClass → Bool
one_head k l = bytes_eq k.name l.name && (beq k.is_interface l.is_interface && (k.is_interface || beq k.is_abstract l.is_abstract))

module _ (P Q : Plain) where
  -- two classes of one name
  abbrev pub one_class : ℕ → ℕ → Bool
  one_class c d = both_named (class_name P c) (class_name Q d)

  -- two bases of types
  abbrev pub one_base : TyBase → TyBase → Bool
  one_base Int Int = true
  one_base Boolean Boolean = true
  one_base Char Char = true
  one_base Str Str = true
  one_base (Class c) (Class d) = one_class c.0 d.0
  one_base _ _ = false

  -- two types
  abbrev pub one_type : Ty → Ty → Bool
  one_type t u = one_base t.base u.base && (t.dim == u.dim)

  -- two fields of one name in classes of one name
  abbrev pub one_fields : Option PlainField → Option PlainField → Bool
  one_fields (Some k) (Some l) = one_class k.owner l.owner && bytes_eq k.name l.name
  one_fields (Some k) None = false
  one_fields None l = false

  -- the same by their numbers
  abbrev pub one_field : ℕ → ℕ → Bool
  one_field f g = one_fields (slice_get P.fields f) (slice_get Q.fields g)

  -- two methods of one name in classes of one name
  abbrev pub one_methods : Option PlainMethod → Option PlainMethod → Bool
  one_methods (Some k) (Some l) = one_class k.owner l.owner && bytes_eq k.name l.name
  one_methods (Some k) None = false
  one_methods None l = false

  -- the same by their numbers
  abbrev pub one_method : ℕ → ℕ → Bool
  one_method m n = one_methods (slice_get P.methods m) (slice_get Q.methods n)

  abbrev mutual
    -- two expressions that are one
    pub one_ex : Ex → Ex → Bool
    one_ex (number t n) (number u m) = int_eq n m
    one_ex (character t c) (character u d) = c == d
    one_ex (text t x) (text u y) = bytes_eq x y
    one_ex (truth t b) (truth u c) = beq b c
    one_ex (null t) (null u) = true
    one_ex (this t) (this u) = true
    one_ex (local t i) (local u j) = i == j
    one_ex (static_field t f) (static_field u g) = one_field f g
    one_ex (own_field t f) (own_field u g) = one_field f g
    one_ex (own_field t f) (field u d y) = is_this d && is_named (field_name P f) y
    one_ex (field t e x) (own_field u g) = is_this e && is_named (field_name Q g) x
    one_ex (field t e x) (field u d y) = bytes_eq x y && one_ex e d
    one_ex (index t e i) (index u d j) = one_ex e d && one_ex i j
    one_ex (call t e x es) (call u d y ds) = bytes_eq x y && (one_ex e d && one_all es ds)
    one_ex (static_call t m es) (static_call u n ds) = one_method m n && one_all es ds
    one_ex (super_call t x es) (super_call u y ds) = bytes_eq x y && one_all es ds
    one_ex (create t n c es) (create u j d ds) = one_class c d && one_all es ds
    one_ex (create_array t n v e) (create_array u j w d) = one_type v w && one_ex e d
    one_ex (cast t n v e) (cast u j w d) = one_type v w && one_ex e d
    one_ex (instance_of t n e b) (instance_of u j d c) = one_class b c && one_ex e d
    one_ex (unary t o e) (unary u p d) = one_unary o p && one_ex e d
    one_ex (binary t o a b) (binary u p c d) = one_binary o p && (one_ex a c && one_ex b d)
    one_ex _ _ = false

    -- two lists of expressions that are one, one by one
    pub one_all : Exs → Exs → Bool
    one_all no_ex no_ex = true
    one_all (ex_then e es) (ex_then d ds) = one_ex e d && one_all es ds
    one_all no_ex (ex_then d ds) = false
    one_all (ex_then e es) no_ex = false

  -- two expressions that may be left out
  abbrev pub one_if : Option Ex → Option Ex → Bool
  one_if e d = may_one one_ex e d

  -- two targets of an assignment
  abbrev pub one_target : Target → Target → Bool
  one_target (to_local t i) (to_local u j) = i == j
  one_target (to_static t f) (to_static u g) = one_field f g
  one_target (to_own t f) (to_own u g) = one_field f g
  one_target (to_own t f) (to_field u d y) = is_this d && is_named (field_name P f) y
  one_target (to_field t e x) (to_own u g) = is_this e && is_named (field_name Q g) x
  one_target (to_field t e x) (to_field u d y) = bytes_eq x y && one_ex e d
  one_target (to_element t e i) (to_element u d j) = one_ex e d && one_ex i j
  one_target _ _ = false

  abbrev mutual
    -- two statements that are one
    pub one_st : St → St → Bool
    one_st (declare t i e) (declare u j d) = (i == j) && one_if e d
    one_st (block t xs) (block u ys) = one_sts xs ys
    one_st (assign t b e) (assign u c d) = one_target b c && one_ex e d
    one_st (act t e) (act u d) = one_ex e d
    one_st (print t n e) (print u m d) = beq n m && one_if e d
    one_st (choose t a) (choose u b) = one_arms a b
    one_st (loop t w first test step body) (loop u v start other last code) =
        beq w v && (one_sts first start && (one_if test other && (one_sts step last && one_sts body code)))
    one_st (return t e) (return u d) = one_if e d
    one_st (break t) (break u) = true
    one_st (continue t) (continue u) = true
    one_st _ _ = false

    -- two lists of statements that are one, one by one
    pub one_sts : Sts → Sts → Bool
    one_sts no_st no_st = true
    one_sts (st_then x xs) (st_then y ys) = one_st x y && one_sts xs ys
    one_sts no_st (st_then y ys) = false
    one_sts (st_then x xs) no_st = false

    -- the arms of two `if`s, and their `else`
    pub one_arms : IfArms → IfArms → Bool
    one_arms no_other no_other = true
    one_arms (otherwise xs) (otherwise ys) = one_sts xs ys
    one_arms (arm e xs a) (arm d ys b) = (one_ex e d && one_sts xs ys) && one_arms a b
    one_arms _ _ = false

  -- two ids of classes
  abbrev pub one_id : ClassId → ClassId → Bool
  one_id c d = one_class c.0 d.0

  -- two classes or interfaces
  abbrev pub one_class_as : PlainClass → PlainClass → Bool
  one_class_as k l = one_head k l && (may_one one_id k.parent l.parent && all_one one_id k.faces l.faces)

  -- two fields
  abbrev pub one_field_as : PlainField → PlainField → Bool
  one_field_as k l = (one_class k.owner l.owner && bytes_eq k.name l.name) && (beq k.is_static l.is_static && one_type k.ty l.ty)

  -- two parameters or locals
  abbrev pub one_variable : PlainLocal → PlainLocal → Bool
  one_variable v w = bytes_eq v.name w.name && one_type v.ty w.ty

  -- two methods
  abbrev pub one_method_as : PlainMethod → PlainMethod → Bool
  one_method_as k l = ((one_class k.owner l.owner && bytes_eq k.name l.name) && beq k.is_static l.is_static) && (all_one one_variable k.params l.params
      && (all_one one_variable k.locals l.locals && (may_one one_type k.result l.result && may_one one_sts k.body l.body)))

  -- two programs
  abbrev pub are_one : Bool
  are_one = matched one_class_as P.classes Q.classes && (matched one_field_as P.fields Q.fields && (matched one_method_as P.methods Q.methods
      && one_method P.main Q.main))
