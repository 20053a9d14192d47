-- Believed. When two bodies of two programs are one but for places, the numbers of creations, and `this.` written or
-- left away: form by form, with types, fields and methods of the same names.
use Rattle.std.specs.Prelude.{◌≡◌, ℕ, ℤ, Bool, List, Option, Some, slice_get}
use Rattle.std.specs.Option.{option_map}
use Rattle.kaba_base.specs.declared.ClassId.{ClassId}
use Rattle.java_core.specs.declared.Ty.{Ty}
use Rattle.java_core.specs.declared.TyBase.{TyBase}
use Rattle.java_core.specs.declared.TyBase.TheVariants.{Int, Boolean, Char, Str, Class}
use Rattle.java_core.specs.declared.UnOp.{UnOp}
use Rattle.java_core.specs.declared.BinOp.{BinOp}
use Rattle.java_core.specs.Trees.{Tag, Ex, Exs, no_ex, ex_then, number, character, text, truth, null, this, local, static_field, own_field, field, index, call, static_call, super_call, create, create_array, cast, instance_of, unary, binary, Target, to_local, to_static, to_own, to_field, to_element, St, Sts, IfArms}
use Rattle.java_core.specs.Programs.{Plain, PlainClass, PlainField, PlainMethod}
use Rattle.java_meaning.specs.Paired.{PairedIf, PairedSt, PairedSts, PairedArms}

-- the name of a class and of a field of a program, by their numbers
abbrev pub class_name : Plain → ℕ → Option (List ℕ)
class_name P c = option_map (λ (k : PlainClass). k.name) (slice_get P.classes c)

-- the name of a field
abbrev pub field_name : Plain → ℕ → Option (List ℕ)
field_name P f = option_map (λ (k : PlainField). k.name) (slice_get P.fields f)

module _ (P Q : Plain) where
  -- the class c of the first program and the class d of the second have one name
  pub record IsOneClass (c d : ℕ) : Type 0 where
    pub name : List ℕ
    pub first_name : class_name P c ≡ Some name
    pub second_name : class_name Q d ≡ Some name

  -- two bases of types are the same, or classes of one name
  pub data IsOneBase : TyBase → TyBase → Type 0 where
    one_int : IsOneBase Int Int
    one_boolean : IsOneBase Boolean Boolean
    one_char : IsOneBase Char Char
    one_string : IsOneBase Str Str
    one_class : {c d : ClassId} → IsOneClass c.0 d.0 → IsOneBase (Class c) (Class d)

  -- two types: of one base, with as many brackets
  pub record IsOneType (t u : Ty) : Type 0 where
    pub base : IsOneBase t.base u.base
    pub dim : t.dim ≡ u.dim

  -- the field f of the first program and the field g of the second: of one name, in classes of one name
  pub record IsOneField (f g : ℕ) : Type 0 where
    pub first : PlainField
    pub second : PlainField
    pub first_stands : slice_get P.fields f ≡ Some first
    pub second_stands : slice_get Q.fields g ≡ Some second
    pub owner : IsOneClass first.owner second.owner
    pub name : first.name ≡ second.name

  -- the method m of the first program and the method n of the second: of one name, in classes of one name
  pub record IsOneMethod (m n : ℕ) : Type 0 where
    pub first : PlainMethod
    pub second : PlainMethod
    pub first_stands : slice_get P.methods m ≡ Some first
    pub second_stands : slice_get Q.methods n ≡ Some second
    pub owner : IsOneClass first.owner second.owner
    pub name : first.name ≡ second.name

  mutual
    -- an expression of the first program is one with an expression of the second
    pub data One : Ex → Ex → Type 0 where
      o_number : {t u : Tag} {n : ℤ} → One (number t n) (number u n)
      o_character : {t u : Tag} {c : ℕ} → One (character t c) (character u c)
      o_text : {t u : Tag} {x : List ℕ} → One (text t x) (text u x)
      o_truth : {t u : Tag} {b : Bool} → One (truth t b) (truth u b)
      o_null : {t u : Tag} → One (null t) (null u)
      o_this : {t u : Tag} → One (this t) (this u)
      o_local : {t u : Tag} {i : ℕ} → One (local t i) (local u i)
      o_static_field : {t u : Tag} {f g : ℕ} → IsOneField f g → One (static_field t f) (static_field u g)
      o_own_field : {t u : Tag} {f g : ℕ} → IsOneField f g → One (own_field t f) (own_field u g)
      -- a field of `this` by its simple name, and under this name on a written `this`
      o_own_written : {t u v : Tag} {f : ℕ} {x : List ℕ} → field_name P f ≡ Some x → One (own_field t f) (field u (this v) x)
      o_written_own : {t u v : Tag} {g : ℕ} {x : List ℕ} → field_name Q g ≡ Some x → One (field t (this v) x) (own_field u g)
      o_field : {t u : Tag} {e d : Ex} {x : List ℕ} → One e d → One (field t e x) (field u d x)
      o_index : {t u : Tag} {e d i j : Ex} → One e d → One i j → One (index t e i) (index u d j)
      -- the tree of a call by its simple name has `this` as its receiver
      o_call : {t u : Tag} {e d : Ex} {x : List ℕ} {es ds : Exs} → One e d → OneAll es ds → One (call t e x es) (call u d x ds)
      o_static_call : {t u : Tag} {m n : ℕ} {es ds : Exs} → IsOneMethod m n → OneAll es ds → One (static_call t m es) (static_call u n ds)
      o_super_call : {t u : Tag} {x : List ℕ} {es ds : Exs} → OneAll es ds → One (super_call t x es) (super_call u x ds)
      o_create : {t u : Tag} {n j c d : ℕ} {es ds : Exs} → IsOneClass c d → OneAll es ds → One (create t n c es) (create u j d ds)
      o_create_array : {t u : Tag} {n j : ℕ} {v w : Ty} {e d : Ex} → IsOneType v w → One e d → One (create_array t n v e) (create_array u j w d)
      o_cast : {t u : Tag} {n j : ℕ} {v w : Ty} {e d : Ex} → IsOneType v w → One e d → One (cast t n v e) (cast u j w d)
      o_instance_of : {t u : Tag} {n j b c : ℕ} {e d : Ex} → One e d → IsOneClass b c → One (instance_of t n e b) (instance_of u j d c)
      o_unary : {t u : Tag} {o : UnOp} {e d : Ex} → One e d → One (unary t o e) (unary u o d)
      o_binary : {t u : Tag} {o : BinOp} {a b c d : Ex} → One a c → One b d → One (binary t o a b) (binary u o c d)

    -- the arguments of two calls are as many, and one, one by one
    pub data OneAll : Exs → Exs → Type 0 where
      o_no_ex : OneAll no_ex no_ex
      o_ex_then : {e d : Ex} {es ds : Exs} → One e d → OneAll es ds → OneAll (ex_then e es) (ex_then d ds)

  -- what is assigned to is one variable, field or element
  pub data OneTarget : Target → Target → Type 0 where
    o_to_local : {t u : Tag} {i : ℕ} → OneTarget (to_local t i) (to_local u i)
    o_to_static : {t u : Tag} {f g : ℕ} → IsOneField f g → OneTarget (to_static t f) (to_static u g)
    o_to_own : {t u : Tag} {f g : ℕ} → IsOneField f g → OneTarget (to_own t f) (to_own u g)
    o_to_own_written : {t u v : Tag} {f : ℕ} {x : List ℕ} → field_name P f ≡ Some x → OneTarget (to_own t f) (to_field u (this v) x)
    o_to_written_own : {t u v : Tag} {g : ℕ} {x : List ℕ} → field_name Q g ≡ Some x → OneTarget (to_field t (this v) x) (to_own u g)
    o_to_field : {t u : Tag} {e d : Ex} {x : List ℕ} → One e d → OneTarget (to_field t e x) (to_field u d x)
    o_to_element : {t u : Tag} {e d i j : Ex} → One e d → One i j → OneTarget (to_element t e i) (to_element u d j)

  -- both expressions are left out, or both are there and one
  abbrev pub OneIf : Option Ex → Option Ex → Type 0
  OneIf = PairedIf One (λ a b c. OneTarget b c)

  -- two statements of one form whose parts are one
  abbrev pub OneSt : St → St → Type 0
  OneSt = PairedSt One (λ a b c. OneTarget b c)

  -- two lists of statements that are one, one by one
  abbrev pub OneSts : Sts → Sts → Type 0
  OneSts = PairedSts One (λ a b c. OneTarget b c)

  -- the arms of two `if`s, and their `else`, are one, one by one
  abbrev pub OneArms : IfArms → IfArms → Type 0
  OneArms = PairedArms One (λ a b c. OneTarget b c)
