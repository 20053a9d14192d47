-- Believed. Which rule of types fails in a program, and where: one constructor a rule.
use Rattle.std.specs.Prelude.{◌≡◌, ◌&&◌, ◌==◌, ℕ, Bool, true, false, List, [], ◌∷◌, Option, Some, None, slice_get, slice_index_or}
use Rattle.std.specs.Option.{is_some, option_map_or}
use Rattle.kaba_base.specs.declared.Place.{Place}
use Rattle.java_core.specs.declared.Ty.{Ty}
use Rattle.java_core.specs.declared.UnOp.{UnOp}
use Rattle.java_core.specs.declared.BinOp.{BinOp}
use Rattle.java_core.specs.Trees.{Tag, Ex, Exs, no_ex, ex_then, number, character, text, truth, null, this, local, static_field, own_field, field, index, call, static_call, super_call, create, create_array, cast, instance_of, unary, binary, Target, to_local, to_field, to_element, no_target, St, Sts, IfArms, declare, block, assign, act, print, choose, loop, return, st_then, otherwise, arm}
use Rattle.java_core.specs.Programs.{Plain, PlainClass, PlainMethod}
use Rattle.java_core.specs.Classes.{super_method, has_body, is_concrete, is_interface, nearest_declaration}
use Rattle.java_core.specs.Makers.{maker_of}
use Rattle.java_core.specs.Types.{Env, env_of, class_of, element_of, is_numeric, is_boolean, is_printable, fits, fits_in, Signature, call_signature, signature_of_method, access_type, field_in, static, target_type}
use Rattle.java_core.specs.Typing.{takes_one, takes_two, are_related, can_cast, Typed, TypedTarget, Offers, is_public_method}
use Rattle.java_check.specs.declared.Kind.{Kind}
use Rattle.java_check.specs.declared.CheckFault.{CheckFault}
use Rattle.java_check.specs.declared.CheckFault.TheVariants.{IllTyped, Memory}
use Rattle.java_check.specs.declared.Kind.TheVariants.{Operand, Condition, Assign, Arguments, Return, Cast, NoMember, AbstractNew, MissingBody, NotPublic}

-- the tag of an expression
abbrev pub tag_of : Ex → Tag
tag_of (number t n) = t
tag_of (character t c) = t
tag_of (text t u) = t
tag_of (truth t b) = t
tag_of (null t) = t
tag_of (this t) = t
tag_of (local t i) = t
tag_of (static_field t f) = t
tag_of (own_field t f) = t
tag_of (field t e x) = t
tag_of (index t e i) = t
tag_of (call t e x es) = t
tag_of (static_call t m es) = t
tag_of (super_call t x es) = t
tag_of (create t n c es) = t
tag_of (create_array t n u e) = t
tag_of (cast t n u e) = t
tag_of (instance_of t n e c) = t
tag_of (unary t o e) = t
tag_of (binary t o e d) = t

-- whether a name is that of a constructor: it begins with `<`, as no identifier does
abbrev pub names_maker : List ℕ → Bool
names_maker x = slice_index_or x 0 0 == 60

-- e is one of the list
pub data IsOne (e : Ex) : Exs → Type 0 where
  first_one : {es : Exs} → IsOne e (ex_then e es)
  later_one : {d : Ex} {es : Exs} → IsOne e es → IsOne e (ex_then d es)

-- the first is an operand, an argument or another part of the second
pub data IsPart : Ex → Ex → Type 0 where
  field_base : {t : Tag} {e : Ex} {x : List ℕ} → IsPart e (field t e x)
  index_base : {t : Tag} {e i : Ex} → IsPart e (index t e i)
  index_at : {t : Tag} {e i : Ex} → IsPart i (index t e i)
  call_base : {t : Tag} {e : Ex} {x : List ℕ} {es : Exs} → IsPart e (call t e x es)
  call_argument : {t : Tag} {e d : Ex} {x : List ℕ} {es : Exs} → IsOne d es → IsPart d (call t e x es)
  static_argument : {t : Tag} {m : ℕ} {d : Ex} {es : Exs} → IsOne d es → IsPart d (static_call t m es)
  super_argument : {t : Tag} {x : List ℕ} {d : Ex} {es : Exs} → IsOne d es → IsPart d (super_call t x es)
  create_argument : {t : Tag} {n c : ℕ} {d : Ex} {es : Exs} → IsOne d es → IsPart d (create t n c es)
  array_size : {t : Tag} {n : ℕ} {u : Ty} {e : Ex} → IsPart e (create_array t n u e)
  cast_value : {t : Tag} {n : ℕ} {u : Ty} {e : Ex} → IsPart e (cast t n u e)
  tested_value : {t : Tag} {n c : ℕ} {e : Ex} → IsPart e (instance_of t n e c)
  unary_value : {t : Tag} {o : UnOp} {e : Ex} → IsPart e (unary t o e)
  binary_left : {t : Tag} {o : BinOp} {e d : Ex} → IsPart e (binary t o e d)
  binary_right : {t : Tag} {o : BinOp} {e d : Ex} → IsPart d (binary t o e d)

module _ (P : Plain) (g : Env) where
  -- arguments that are not as many as the parameters, or one that does not fit its own
  pub data BadArguments : Exs → List Ty → Type 0 where
    too_many : {e : Ex} {es : Exs} → BadArguments (ex_then e es) []
    too_few : {u : Ty} {us : List Ty} → BadArguments no_ex (u ∷ us)
    unfit : {e : Ex} {es : Exs} {u : Ty} {us : List Ty} → Typed P g e → fits P (static P g e) u ≡ false → BadArguments (ex_then e es) (u ∷ us)
    after : {e : Ex} {es : Exs} {u : Ty} {us : List Ty} → BadArguments es us → BadArguments (ex_then e es) (u ∷ us)

  -- the rule that an expression itself breaks, whatever its parts that are not typed
  pub data Breaks : Ex → Kind → Type 0 where
    no_field : {t : Tag} {e : Ex} {x : List ℕ} → Typed P g e → access_type P (static P g e) x ≡ None → Breaks (field t e x) NoMember
    bad_index : {t : Tag} {e i : Ex} → Typed P g e → Typed P g i → (is_some (element_of (static P g e)) && is_numeric (static P g i)) ≡ false
        → Breaks (index t e i) Operand
    no_method : {t : Tag} {e : Ex} {x : List ℕ} {es : Exs} → Typed P g e → names_maker x ≡ false → call_signature P (static P g e) x ≡ None
        → Breaks (call t e x es) NoMember
    no_maker : {t : Tag} {e : Ex} {x : List ℕ} {es : Exs} → Typed P g e → names_maker x ≡ true → call_signature P (static P g e) x ≡ None
        → Breaks (call t e x es) Arguments
    call_arguments : {t : Tag} {e : Ex} {x : List ℕ} {es : Exs} {s : Signature} → Typed P g e → call_signature P (static P g e) x ≡ Some s
        → BadArguments es s.params → Breaks (call t e x es) Arguments
    no_static_method : {t : Tag} {m : ℕ} {es : Exs} → signature_of_method P m ≡ None → Breaks (static_call t m es) NoMember
    static_arguments : {t : Tag} {m : ℕ} {es : Exs} {s : Signature} → signature_of_method P m ≡ Some s → BadArguments es s.params
        → Breaks (static_call t m es) Arguments
    no_super_method : {t : Tag} {x : List ℕ} {es : Exs} → super_method P g.self x ≡ None → Breaks (super_call t x es) MissingBody
    no_super_body : {t : Tag} {x : List ℕ} {es : Exs} {m : ℕ} → super_method P g.self x ≡ Some m → has_body P m ≡ false → Breaks (super_call t x es) MissingBody
    super_arguments : {t : Tag} {x : List ℕ} {es : Exs} {m : ℕ} {s : Signature} → super_method P g.self x ≡ Some m → signature_of_method P m ≡ Some s
        → BadArguments es s.params → Breaks (super_call t x es) Arguments
    not_concrete : {t : Tag} {n c : ℕ} {es : Exs} → is_concrete P c ≡ false → Breaks (create t n c es) AbstractNew
    unwanted_arguments : {t : Tag} {n c : ℕ} {e : Ex} {es : Exs} → maker_of P c ≡ None → Breaks (create t n c (ex_then e es)) Arguments
    create_arguments : {t : Tag} {n c m : ℕ} {es : Exs} {s : Signature} → maker_of P c ≡ Some m → signature_of_method P m ≡ Some s
        → BadArguments es s.params → Breaks (create t n c es) Arguments
    bad_size : {t : Tag} {n : ℕ} {u : Ty} {e : Ex} → Typed P g e → is_numeric (static P g e) ≡ false → Breaks (create_array t n u e) Operand
    bad_cast : {t : Tag} {n : ℕ} {u : Ty} {e : Ex} → Typed P g e → can_cast P (static P g e) u ≡ false → Breaks (cast t n u e) Cast
    bad_instance_of : {t : Tag} {n c : ℕ} {e : Ex} → Typed P g e → are_related P (class_of (static P g e)) (Some c) ≡ false → Breaks (instance_of t n e c) Cast
    bad_unary : {t : Tag} {o : UnOp} {e : Ex} → Typed P g e → takes_one o (static P g e) ≡ false → Breaks (unary t o e) Operand
    bad_binary : {t : Tag} {o : BinOp} {e d : Ex} → Typed P g e → Typed P g d → takes_two P o (static P g e) (static P g d) ≡ false
        → Breaks (binary t o e d) Operand

  -- a rule fails in an expression, at the place of the form that breaks it
  pub data Fails : Ex → Kind → Place → Type 0 where
    itself : {e : Ex} {k : Kind} → Breaks e k → Fails e k (tag_of e).place
    within : {e d : Ex} {k : Kind} {p : Place} → IsPart d e → Fails d k p → Fails e k p

  -- the rule that what an assignment changes breaks
  pub data BreaksTarget : Target → Kind → Place → Type 0 where
    no_own_field : {t : Tag} {e : Ex} {x : List ℕ} → Typed P g e → field_in P (static P g e) x ≡ None → BreaksTarget (to_field t e x) NoMember t.place
    bad_element : {t : Tag} {e i : Ex} → Typed P g e → Typed P g i → (is_some (element_of (static P g e)) && is_numeric (static P g i)) ≡ false
        → BreaksTarget (to_element t e i) Operand t.place

  -- the rule that a statement itself breaks
  pub data BreaksSt : St → Kind → Place → Type 0 where
    bad_initial : {t : Tag} {i : ℕ} {e : Ex} → Typed P g e → fits_in P (static P g e) (target_type P g (to_local t i)) ≡ false
        → BreaksSt (declare t i (Some e)) Assign t.place
    bad_target : {t : Tag} {b : Target} {e : Ex} {k : Kind} {p : Place} → BreaksTarget b k p → BreaksSt (assign t b e) k p
    no_variable : {t : Tag} {e : Ex} → BreaksSt (assign t no_target e) Assign t.place
    bad_assign : {t : Tag} {b : Target} {e : Ex} → TypedTarget P g b → Typed P g e → fits_in P (static P g e) (target_type P g b) ≡ false
        → BreaksSt (assign t b e) Assign t.place
    bad_print : {t : Tag} {n : Bool} {e : Ex} → Typed P g e → is_printable (static P g e) ≡ false → BreaksSt (print t n (Some e)) Operand t.place
    bad_loop_test : {t : Tag} {is_while : Bool} {first step body : Sts} {e : Ex} → Typed P g e → is_boolean (static P g e) ≡ false
        → BreaksSt (loop t is_while first (Some e) step body) Condition (tag_of e).place
    value_wanted : {t : Tag} → is_some g.result ≡ true → BreaksSt (return t None) Return t.place
    no_value_wanted : {t : Tag} {e : Ex} → g.result ≡ None → BreaksSt (return t (Some e)) Return t.place
    bad_return : {t : Tag} {e : Ex} {u : Ty} → g.result ≡ Some u → Typed P g e → fits P (static P g e) u ≡ false → BreaksSt (return t (Some e)) Return t.place

  -- an expression that stands in a statement, and not in one of its statements
  pub data HasEx : St → Ex → Type 0 where
    initial : {t : Tag} {i : ℕ} {e : Ex} → HasEx (declare t i (Some e)) e
    target_base : {a t : Tag} {b e : Ex} {x : List ℕ} → HasEx (assign a (to_field t b x) e) b
    element_base : {a t : Tag} {b i e : Ex} → HasEx (assign a (to_element t b i) e) b
    element_at : {a t : Tag} {b i e : Ex} → HasEx (assign a (to_element t b i) e) i
    assigned : {t : Tag} {b : Target} {e : Ex} → HasEx (assign t b e) e
    acted : {t : Tag} {e : Ex} → HasEx (act t e) e
    printed : {t : Tag} {n : Bool} {e : Ex} → HasEx (print t n (Some e)) e
    loop_test : {t : Tag} {is_while : Bool} {first step body : Sts} {e : Ex} → HasEx (loop t is_while first (Some e) step body) e
    returned : {t : Tag} {e : Ex} → HasEx (return t (Some e)) e

  -- a rule fails in a statement, a list of statements or the arms of an `if`
  mutual
    -- a statement breaks a rule, itself or in a part, at this place
    pub data FailsSt : St → Kind → Place → Type 0 where
      itself_st : {x : St} {k : Kind} {p : Place} → BreaksSt x k p → FailsSt x k p
      in_ex : {x : St} {e : Ex} {k : Kind} {p : Place} → HasEx x e → Fails e k p → FailsSt x k p
      in_block : {t : Tag} {xs : Sts} {k : Kind} {p : Place} → FailsSts xs k p → FailsSt (block t xs) k p
      in_choose : {t : Tag} {xs : IfArms} {k : Kind} {p : Place} → FailsArms xs k p → FailsSt (choose t xs) k p
      in_first : {t : Tag} {is_while : Bool} {first step body : Sts} {test : Option Ex} {k : Kind} {p : Place} → FailsSts first k p
          → FailsSt (loop t is_while first test step body) k p
      in_step : {t : Tag} {is_while : Bool} {first step body : Sts} {test : Option Ex} {k : Kind} {p : Place} → FailsSts step k p
          → FailsSt (loop t is_while first test step body) k p
      in_body : {t : Tag} {is_while : Bool} {first step body : Sts} {test : Option Ex} {k : Kind} {p : Place} → FailsSts body k p
          → FailsSt (loop t is_while first test step body) k p

    -- one of a list of statements breaks a rule
    pub data FailsSts : Sts → Kind → Place → Type 0 where
      here : {x : St} {xs : Sts} {k : Kind} {p : Place} → FailsSt x k p → FailsSts (st_then x xs) k p
      later : {x : St} {xs : Sts} {k : Kind} {p : Place} → FailsSts xs k p → FailsSts (st_then x xs) k p

    -- the arms of an `if` break a rule: in a test or in a body
    pub data FailsArms : IfArms → Kind → Place → Type 0 where
      in_else : {xs : Sts} {k : Kind} {p : Place} → FailsSts xs k p → FailsArms (otherwise xs) k p
      in_test : {e : Ex} {xs : Sts} {more : IfArms} {k : Kind} {p : Place} → Fails e k p → FailsArms (arm e xs more) k p
      bad_test : {e : Ex} {xs : Sts} {more : IfArms} → Typed P g e → is_boolean (static P g e) ≡ false → FailsArms (arm e xs more) Condition (tag_of e).place
      in_arm : {e : Ex} {xs : Sts} {more : IfArms} {k : Kind} {p : Place} → FailsSts xs k p → FailsArms (arm e xs more) k p
      in_more : {e : Ex} {xs : Sts} {more : IfArms} {k : Kind} {p : Place} → FailsArms more k p → FailsArms (arm e xs more) k p

-- the class or interface breaks a rule
pub data BreaksClass (P : Plain) (c : ℕ) : Kind → Type 0 where
  no_body : {s m : ℕ} → is_concrete P c ≡ true → Offers P c s m → option_map_or (has_body P) (nearest_declaration P c s) false ≡ false
      → BreaksClass P c MissingBody
  not_public : {s m : ℕ} → is_interface P c ≡ false → (o : Offers P c s m) → is_interface P o.method.owner ≡ true
      → is_public_method P (nearest_declaration P c s) ≡ false → BreaksClass P c NotPublic

-- a rule fails in a program, at this place
pub data FailsIn (P : Plain) : Kind → Place → Type 0 where
  in_method : (m : ℕ) {k : PlainMethod} {xs : Sts} {r : Kind} {p : Place} → slice_get P.methods m ≡ Some k → k.body ≡ Some xs
      → FailsSts P (env_of m k) xs r p → FailsIn P r p
  at_class : {c : ℕ} {k : PlainClass} {r : Kind} → slice_get P.classes c ≡ Some k → BreaksClass P c r → FailsIn P r k.tag.place

-- why a program is refused: a rule fails at the place; want of memory never comes
unfoldable pub IsRefused : Plain → CheckFault → Type 0
IsRefused P (IllTyped k place) = FailsIn P k place
IsRefused P Memory = ⊥
