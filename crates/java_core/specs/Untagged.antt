-- Believed. A program without the tags of its forms: trees whose forms all have one tag. Two programs that are one so
-- are one, places aside.
use Rattle.std.specs.Prelude.{Option, Some, None, map}
use Rattle.java_core.specs.Trees.{Tag, Ex, Exs, no_ex, ex_then, number, character, text, truth, null, this, local, static_field, own_field, field, index, call, static_call, super_call, create, create_array, cast, instance_of, unary, binary, Target, to_local, to_static, to_own, to_field, to_element, no_target, St, Sts, IfArms, declare, block, assign, act, print, choose, loop, return, break, continue, no_st, st_then, no_other, otherwise, arm}
use Rattle.java_core.specs.Plain.{Plain, PlainClass, PlainField, PlainMethod, PlainLocal}

-- the tag of each form of a program without places
abbrev pub bare_tag : Tag
bare_tag = record { label = 0; place = record { at = 0; line = 0 } }

-- trees whose forms all have this tag
abbrev mutual
  -- an expression with the same tag at each of its nodes
  pub bare : Ex → Ex
  bare (number t n) = number bare_tag n
  bare (character t c) = character bare_tag c
  bare (text t u) = text bare_tag u
  bare (truth t b) = truth bare_tag b
  bare (null t) = null bare_tag
  bare (this t) = this bare_tag
  bare (local t i) = local bare_tag i
  bare (static_field t f) = static_field bare_tag f
  bare (own_field t f) = own_field bare_tag f
  bare (field t e x) = field bare_tag (bare e) x
  bare (index t e i) = index bare_tag (bare e) (bare i)
  bare (call t e x es) = call bare_tag (bare e) x (bare_all es)
  bare (static_call t m es) = static_call bare_tag m (bare_all es)
  bare (super_call t x es) = super_call bare_tag x (bare_all es)
  bare (create t n c es) = create bare_tag n c (bare_all es)
  bare (create_array t n u e) = create_array bare_tag n u (bare e)
  bare (cast t n u e) = cast bare_tag n u (bare e)
  bare (instance_of t n e c) = instance_of bare_tag n (bare e) c
  bare (unary t o e) = unary bare_tag o (bare e)
  bare (binary t o e d) = binary bare_tag o (bare e) (bare d)

  -- a list of expressions with the same tag everywhere
  pub bare_all : Exs → Exs
  bare_all no_ex = no_ex
  bare_all (ex_then e es) = ex_then (bare e) (bare_all es)

-- an expression that may be absent, with the same tag everywhere
abbrev pub bare_if : Option Ex → Option Ex
bare_if None = None
bare_if (Some e) = Some (bare e)

-- the target of an assignment with the same tag everywhere
abbrev pub bare_target : Target → Target
bare_target (to_local t i) = to_local bare_tag i
bare_target (to_static t f) = to_static bare_tag f
bare_target (to_own t f) = to_own bare_tag f
bare_target (to_field t e x) = to_field bare_tag (bare e) x
bare_target (to_element t e i) = to_element bare_tag (bare e) (bare i)
bare_target no_target = no_target

abbrev mutual
  -- a statement with the same tag everywhere
  pub bare_st : St → St
  bare_st (declare t i e) = declare bare_tag i (bare_if e)
  bare_st (block t xs) = block bare_tag (bare_sts xs)
  bare_st (assign t b e) = assign bare_tag (bare_target b) (bare e)
  bare_st (act t e) = act bare_tag (bare e)
  bare_st (print t n e) = print bare_tag n (bare_if e)
  bare_st (choose t xs) = choose bare_tag (bare_arms xs)
  bare_st (loop t is_while first test step body) = loop bare_tag is_while (bare_sts first) (bare_if test) (bare_sts step) (bare_sts body)
  bare_st (return t e) = return bare_tag (bare_if e)
  bare_st (break t) = break bare_tag
  bare_st (continue t) = continue bare_tag

  -- a list of statements with the same tag everywhere
  pub bare_sts : Sts → Sts
  bare_sts no_st = no_st
  bare_sts (st_then x xs) = st_then (bare_st x) (bare_sts xs)

  -- the arms of an `if` with the same tag everywhere
  pub bare_arms : IfArms → IfArms
  bare_arms no_other = no_other
  bare_arms (otherwise xs) = otherwise (bare_sts xs)
  bare_arms (arm e xs more) = arm (bare e) (bare_sts xs) (bare_arms more)

-- the body of a method with the same tag everywhere, where it has one
abbrev pub untag_body : Option Sts → Option Sts
untag_body None = None
untag_body (Some xs) = Some (bare_sts xs)

-- a parameter or local with the same tag as all others
abbrev pub untag_local : PlainLocal → PlainLocal
untag_local v = record v { tag = bare_tag }

-- a class with the same tag as all others
abbrev pub untag_class : PlainClass → PlainClass
untag_class k = record k { tag = bare_tag }

-- a field with the same tag as all others
abbrev pub untag_field : PlainField → PlainField
untag_field k = record k { tag = bare_tag }

-- a method with the same tag as all others, at itself, its variables and its body
abbrev pub untag_method : PlainMethod → PlainMethod
untag_method k = record k { params = map untag_local k.params; locals = map untag_local k.locals; body = untag_body k.body; tag = bare_tag }

-- the program without its tags
abbrev pub untagged : Plain → Plain
untagged P = record {
  classes = map untag_class P.classes;
  fields = map untag_field P.fields;
  methods = map untag_method P.methods;
  slots =
      P.slots;
  main = P.main;
}
