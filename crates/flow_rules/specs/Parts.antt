-- Believed. The parts of a body that facts come from, in the order of the text. This is the one recursion over trees:
-- each list of the facts is read off the parts.
use Rattle.std.specs.Option.{is_some}
use Rattle.std.specs.Prelude.{ℕ, ◌||◌, Bool, true, false, List, [], ◌∷◌, ◌++◌, Option, Some, None}
use Rattle.kaba_base.specs.declared.Place.{Place}
use Rattle.java_core.specs.declared.BinOp.{BinOp}
use Rattle.java_core.specs.Trees.{Ex, Exs, no_ex, ex_then, number, character, text, truth, null, this, local, static_field, own_field, field, index, call, static_call, super_call, create, create_array, cast, instance_of, unary, binary, Target, to_local, to_static, to_own, to_field, to_element, no_target, St, Sts, IfArms, declare, block, assign, act, print, choose, loop, return, break, continue, no_st, st_then, no_other, otherwise, arm}
use Rattle.java_core.specs.Programs.{Plain, PlainMethod}
use Rattle.java_core.specs.Classes.{super_method}
use Rattle.java_core.specs.Makers.{maker_of, maker_slot}
use Rattle.flow_rules.specs.declared.items.ObjectType.{ObjectType}
use Rattle.flow_rules.specs.declared.items.Operand.{Operand}
use Rattle.flow_rules.specs.Labels.{label_sts}
use Rattle.flow_rules.specs.Operands.{object_field, call_slot, call_declaration, operand_of, operands_of, this_operand, test_operand, type_in}

-- a form of a body that the facts come from, with its operands
pub data Part : Type 0 where
  -- a read of a field (none: the length of an array): the base, the field, and the read itself
  a_load : Place → Operand → Option ℕ → Operand → Part
  -- a read of an element: the array, and the read itself
  an_element : Place → Operand → Operand → Part
  -- a creation: whether it is a flow point, the creation itself, and, where its class has a constructor, the slot and the declaration of that, and
  -- the arguments: the creation is the receiver of that call
  a_creation : Place → Bool → Operand → Option ℕ → Option ℕ → List Operand → Part
  -- a call of an instance method: the receiver, the slot, the declaration found statically, the arguments, and the call itself
  a_call : Place → Operand → Option ℕ → Option ℕ → List Operand → Operand → Part
  -- a call of a static method: the method, the arguments, and the call itself
  a_static_call : Place → ℕ → List Operand → Operand → Part
  -- a super call: the method that runs, the arguments, and the call itself
  a_super_call : Place → Option ℕ → List Operand → Operand → Part
  -- a cast or an `instanceof`: the operand, and the test itself
  a_test : Place → Operand → Operand → Part
  -- a binary operator
  a_pair : BinOp → Operand → Operand → Part
  -- a value is put in a local or a static field
  a_set : Operand → Operand → Part
  -- a value is put in a field of the base
  a_store : Place → Operand → Option ℕ → Operand → Part
  -- a value is put in an element of the base
  an_element_store : Place → Operand → Operand → Part
  -- a value is given back
  a_return : Operand → Part

-- a creation here is the base of a field access where it makes an object: `.length` of an array is none
abbrev pub is_accessed : Ex → Bool
is_accessed (create_array t n u e) = false
is_accessed (number t z) = true
is_accessed (character t u) = true
is_accessed (text t us) = true
is_accessed (truth t b) = true
is_accessed (null t) = true
is_accessed (this t) = true
is_accessed (local t i) = true
is_accessed (static_field t f) = true
is_accessed (own_field t f) = true
is_accessed (field t e x) = true
is_accessed (index t e i) = true
is_accessed (call t e x es) = true
is_accessed (static_call t m es) = true
is_accessed (super_call t x es) = true
is_accessed (create t n c es) = true
is_accessed (cast t n u e) = true
is_accessed (instance_of t n e c) = true
is_accessed (unary t o e) = true
is_accessed (binary t o e d) = true

-- an operand without a row, a flow point, a type or a creation
abbrev pub nothing : Operand
nothing = record { point = None; row = None; ty = None; created = None }

-- in the body of a method, where each expression has a type that a row can have, or none
module _ (P : Plain) (type : Ex → Option ObjectType) (m : ℕ) (k : PlainMethod) where
  -- the parts of an expression, and whether a creation there is a flow point: the receiver or an argument of an instance call, the base of an access,
  -- the operand of a cast or `instanceof`, and what is stored in a field or an element
  abbrev mutual
    -- the parts of one expression; u tells whether a creation there is a flow point
    pub parts : Bool → Ex → List Part
    parts u (number t n) = []
    parts u (character t c) = []
    parts u (text t s) = []
    parts u (truth t b) = []
    parts u (null t) = []
    parts u (this t) = []
    parts u (local t i) = []
    parts u (static_field t f) = []
    parts u (own_field t f) = a_load t.place (this_operand m k) (Some f) (operand_of P type m k (own_field t f)) ∷ []
    parts u (field t e x) = parts (is_accessed e) e ++ a_load t.place (operand_of P type m k e) (object_field P (type e) x)
        (operand_of P type m k (field t e x)) ∷ []
    parts u (index t e i) = parts true e ++ an_element t.place (operand_of P type m k e) (operand_of P type m k (index t e i)) ∷ parts false i
    parts u (call t e x es) = parts true e
        ++ a_call t.place (operand_of P type m k e) (call_slot P (type e) x) (call_declaration P (type e) x) (operands_of P type m k es)
        (operand_of P type m k (call t e x es)) ∷ parts_all true es
    parts u (static_call t d es) = a_static_call t.place d (operands_of P type m k es) (operand_of P type m k (static_call t d es)) ∷ parts_all false es
    parts u (super_call t x es) = a_super_call t.place (super_method P k.owner x) (operands_of P type m k es)
        (operand_of P type m k (super_call t x es)) ∷ parts_all false es
    parts u (create t n c es) = a_creation t.place (u || is_some (maker_of P c)) (operand_of P type m k (create t n c es)) (maker_slot P c) (maker_of P c)
        (operands_of P type m k es) ∷ parts_all (is_some (maker_of P c)) es
    parts u (create_array t n v e) = a_creation t.place u (operand_of P type m k (create_array t n v e)) None None [] ∷ parts false e
    parts u (cast t n v e) = a_test t.place (operand_of P type m k e) (operand_of P type m k (cast t n v e)) ∷ parts true e
    parts u (instance_of t n e c) = parts true e ++ a_test t.place (operand_of P type m k e) (test_operand m t n c) ∷ []
    parts u (unary t o e) = parts false e
    parts u (binary t o e d) = parts false e ++ parts false d ++ a_pair o (operand_of P type m k e) (operand_of P type m k d) ∷ []

    -- the parts of a list of arguments; u tells of each whether a creation there is a flow point
    pub parts_all : Bool → Exs → List Part
    parts_all u no_ex = []
    parts_all u (ex_then e es) = parts u e ++ parts_all u es

  -- the parts of an expression that may be left out; a creation there is no flow point
  abbrev pub parts_if : Option Ex → List Part
  parts_if None = []
  parts_if (Some e) = parts false e

  -- a variable declared with a value, where it has one: the parts of the value, and then its assignment
  abbrev pub parts_set : Ex → Option Ex → List Part
  parts_set v None = []
  parts_set v (Some e) = parts false e ++ a_set (operand_of P type m k v) (operand_of P type m k e) ∷ []

  -- a `return`: the parts of its value, and then that the value is given back
  abbrev pub parts_return : Option Ex → List Part
  parts_return None = []
  parts_return (Some e) = parts false e ++ a_return (operand_of P type m k e) ∷ []

  -- an assignment: the parts of its target and of its value, and then the set or the store
  abbrev pub parts_assign : Place → Target → Ex → List Part
  parts_assign p (to_local t i) e = parts false e ++ a_set (operand_of P type m k (local t i)) (operand_of P type m k e) ∷ []
  parts_assign p (to_static t f) e = parts false e ++ a_set (operand_of P type m k (static_field t f)) (operand_of P type m k e) ∷ []
  parts_assign p (to_own t f) e = parts true e ++ a_store p (this_operand m k) (Some f) (operand_of P type m k e) ∷ []
  parts_assign p (to_field t b x) e = parts (is_accessed b) b ++ parts true e ++ a_store p (operand_of P type m k b) (object_field P (type b) x)
      (operand_of P type m k e) ∷ []
  parts_assign p (to_element t b i) e = parts true b ++ parts false i ++ parts true e ++ an_element_store p (operand_of P type m k b)
      (operand_of P type m k e) ∷ []
  parts_assign p no_target e = parts false e ++ a_set nothing (operand_of P type m k e) ∷ []

  abbrev mutual
    -- the parts of a statement, in the order of its text
    pub parts_st : St → List Part
    parts_st (declare t i e) = parts_set (local t i) e
    parts_st (block t xs) = parts_sts xs
    parts_st (assign t b e) = parts_assign t.place b e
    parts_st (act t e) = parts false e
    parts_st (print t n e) = parts_if e
    parts_st (choose t xs) = parts_arms xs
    parts_st (loop t is_while first test step body) = parts_sts first ++ parts_if test ++ parts_sts step ++ parts_sts body
    parts_st (return t e) = parts_return e
    parts_st (break t) = []
    parts_st (continue t) = []

    -- the parts of a list of statements
    pub parts_sts : Sts → List Part
    parts_sts no_st = []
    parts_sts (st_then x xs) = parts_st x ++ parts_sts xs

    -- the parts of the arms of an `if` and of its `else`
    pub parts_arms : IfArms → List Part
    parts_arms no_other = []
    parts_arms (otherwise xs) = parts_sts xs
    parts_arms (arm e xs more) = parts false e ++ parts_sts xs ++ parts_arms more

-- the parts of a method's body, labelled from 0 on
abbrev pub parts_body : Plain → (Ex → Option ObjectType) → ℕ → PlainMethod → Option Sts → List Part
parts_body P type m k None = []
parts_body P type m k (Some xs) = parts_sts P type m k (label_sts 0 xs)

-- the parts of the body of the method m, and none where it has no body
unfoldable pub parts_of : Plain → ℕ → PlainMethod → List Part
parts_of P m k = parts_body P (type_in P m k) m k k.body
