-- Believed. When a body is another with new names and types: in the same form, statement by statement and expression by
-- expression. Labels, places and the
-- numbers of creations are free.
use Rattle.std.specs.Prelude.{◌≡◌, ℕ, ℤ, Bool, true, List, Option, Some, None, slice_get}
use Rattle.std.specs.Option.{is_some}
use Rattle.java_core.specs.declared.Ty.{Ty}
use Rattle.java_core.specs.declared.UnOp.{UnOp}
use Rattle.java_core.specs.declared.BinOp.{BinOp}
use Rattle.java_core.specs.Trees.{Tag, Ex, Exs, no_ex, ex_then, number, character, text, truth, null, this, local, static_field, own_field, field, index, call, static_call, super_call, create, create_array, cast, instance_of, unary, binary, Target, to_local, to_static, to_own, to_field, to_element, St, Sts, IfArms}
use Rattle.java_core.specs.Programs.{Plain, PlainField, PlainMethod}
use Rattle.java_core.specs.Classes.{declaration_of, super_method}
use Rattle.java_core.specs.Makers.{maker_of}
use Rattle.java_core.specs.Types.{Env, class_of, element_of, is_string, field_in, static}
use Rattle.java_meaning.specs.Paired.{PairedIf, PairedSt, PairedSts, PairedArms}
use Rattle.flow_rules.specs.declared.items.RowItem.TheVariants as row
use Rattle.rebuild_model.specs.Renaming.{Renaming, retyped}
use Rattle.rebuild_model.specs.Makes.{IsMake}

-- the member g of the new program is the static member f of the old one: it has its name, and stands in the holder of its class
pub record IsCopied {A : Type 0} (static_of : A → Bool) (owner_of : A → ℕ) (name_of : A → List ℕ) (holder_of : ℕ → ℕ) (olds news : List A) (f g : ℕ)
    : Type 0 where
  pub old : A
  pub new : A
  pub old_stands : slice_get olds f ≡ Some old
  pub new_stands : slice_get news g ≡ Some new
  pub old_static : static_of old ≡ true
  pub new_static : static_of new ≡ true
  pub owner : owner_of new ≡ holder_of (owner_of old)
  pub name : name_of new ≡ name_of old

module _ (P W : Plain) (R : Renaming) where
  -- the field g of the new program is the static field f
  abbrev pub IsStaticField : ℕ → ℕ → Type 0
  IsStaticField f g = IsCopied (λ (k : PlainField). k.is_static) (λ k. k.owner) (λ k. k.name) R.holder_of P.fields W.fields f g

  -- the method g of the new program is the static method f
  abbrev pub IsStaticMethod : ℕ → ℕ → Type 0
  IsStaticMethod f g = IsCopied (λ (k : PlainMethod). k.is_static) (λ k. k.owner) (λ k. k.name) R.holder_of P.methods W.methods f g

  -- in a body of the old program
  module _ (g : Env) where
    mutual
      -- an expression is another with the new names and types
      pub data Matches : Ex → Ex → Type 0 where
        m_number : {t u : Tag} {n : ℤ} → Matches (number t n) (number u n)
        m_character : {t u : Tag} {c : ℕ} → Matches (character t c) (character u c)
        m_text : {t u : Tag} {x : List ℕ} → Matches (text t x) (text u x)
        m_truth : {t u : Tag} {b : Bool} → Matches (truth t b) (truth u b)
        m_null : {t u : Tag} → Matches (null t) (null u)
        m_this : {t u : Tag} → Matches (this t) (this u)
        m_local : {t u : Tag} {i : ℕ} → Matches (local t i) (local u i)
        m_static_field : {t u : Tag} {f h : ℕ} → IsStaticField f h → Matches (static_field t f) (static_field u h)
        -- a field of `this` by its simple name is that field on a written `this`
        m_own_field : {t u v : Tag} {f : ℕ} → Matches (own_field t f) (field u (this v) (R.field_name f))
        m_field : {t u : Tag} {e d : Ex} {x : List ℕ} {f : ℕ} → Matches e d → field_in P (static P g e) x ≡ Some f
            → Matches (field t e x) (field u d (R.field_name f))
        m_length : {t u : Tag} {e d : Ex} {x : List ℕ} → Matches e d → is_some (element_of (static P g e)) ≡ true → Matches (field t e x) (field u d x)
        m_index : {t u : Tag} {e d i j : Ex} → Matches e d → Matches i j → Matches (index t e i) (index u d j)
        -- a call has the new name of the method that it finds statically; the methods of a String keep theirs
        m_call : {t u : Tag} {e d : Ex} {x : List ℕ} {c m : ℕ} {es ds : Exs} → Matches e d → class_of (static P g e) ≡ Some c → declaration_of P c x ≡ Some m
            → MatchesAll es ds → Matches (call t e x es) (call u d (R.method_name m) ds)
        m_string_call : {t u : Tag} {e d : Ex} {x : List ℕ} {es ds : Exs} → Matches e d → is_string (static P g e) ≡ true → MatchesAll es ds
            → Matches (call t e x es) (call u d x ds)
        m_static_call : {t u : Tag} {m n : ℕ} {es ds : Exs} → IsStaticMethod m n → MatchesAll es ds → Matches (static_call t m es) (static_call u n ds)
        m_super_call : {t u : Tag} {x : List ℕ} {m : ℕ} {es ds : Exs} → super_method P g.self x ≡ Some m → MatchesAll es ds
            → Matches (super_call t x es) (super_call u (R.method_name m) ds)
        -- the class of a creation, a cast and an `instanceof` is that of the node of its own row
        m_create : {t u : Tag} {n j c k : ℕ} {es ds : Exs} → maker_of P c ≡ None → R.row_type (row.New n) ≡ Some k → MatchesAll es ds
            → Matches (create t n c es) (create u j k ds)
        -- where the class has a constructor, the method that makes its objects is called
        m_make : {t u : Tag} {n c m k : ℕ} {es ds : Exs} → maker_of P c ≡ Some m → IsMake P W R n m k → MatchesAll es ds
            → Matches (create t n c es) (static_call u k ds)
        m_create_array : {t u : Tag} {n j : ℕ} {v : Ty} {e d : Ex} → Matches e d
            → Matches (create_array t n v e) (create_array u j (retyped (R.row_type (row.New n)) v) d)
        m_cast : {t u : Tag} {n j : ℕ} {v : Ty} {e d : Ex} → Matches e d → Matches (cast t n v e) (cast u j (retyped (R.row_type (row.Cast n)) v) d)
        m_instance_of : {t u : Tag} {n j c k : ℕ} {e d : Ex} → Matches e d → R.row_type (row.Test n) ≡ Some k
            → Matches (instance_of t n e c) (instance_of u j d k)
        m_unary : {t u : Tag} {o : UnOp} {e d : Ex} → Matches e d → Matches (unary t o e) (unary u o d)
        m_binary : {t u : Tag} {o : BinOp} {a b c d : Ex} → Matches a c → Matches b d → Matches (binary t o a b) (binary u o c d)

      -- the arguments of a call are as many, and each matches its partner
      pub data MatchesAll : Exs → Exs → Type 0 where
        m_no_ex : MatchesAll no_ex no_ex
        m_ex_then : {e d : Ex} {es ds : Exs} → Matches e d → MatchesAll es ds → MatchesAll (ex_then e es) (ex_then d ds)

    -- what is assigned to is the same variable, element, or field under its new name
    pub data MatchesTarget : Target → Target → Type 0 where
      m_to_local : {t u : Tag} {i : ℕ} → MatchesTarget (to_local t i) (to_local u i)
      m_to_static : {t u : Tag} {f h : ℕ} → IsStaticField f h → MatchesTarget (to_static t f) (to_static u h)
      m_to_own : {t u v : Tag} {f : ℕ} → MatchesTarget (to_own t f) (to_field u (this v) (R.field_name f))
      m_to_field : {t u : Tag} {e d : Ex} {x : List ℕ} {f : ℕ} → Matches e d → field_in P (static P g e) x ≡ Some f
          → MatchesTarget (to_field t e x) (to_field u d (R.field_name f))
      m_to_element : {t u : Tag} {e d i j : Ex} → Matches e d → Matches i j → MatchesTarget (to_element t e i) (to_element u d j)

    -- both expressions are left out, or both are there and match
    abbrev pub MatchesIf : Option Ex → Option Ex → Type 0
    MatchesIf = PairedIf Matches (λ a b c. MatchesTarget b c)

    -- two statements of one form whose parts match
    abbrev pub MatchesSt : St → St → Type 0
    MatchesSt = PairedSt Matches (λ a b c. MatchesTarget b c)

    -- two lists of statements that match one by one
    abbrev pub MatchesSts : Sts → Sts → Type 0
    MatchesSts = PairedSts Matches (λ a b c. MatchesTarget b c)

    -- the arms of two `if`s, and their `else`, match one by one
    abbrev pub MatchesArms : IfArms → IfArms → Type 0
    MatchesArms = PairedArms Matches (λ a b c. MatchesTarget b c)
