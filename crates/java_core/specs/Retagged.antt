-- Believed. Expressions that are the same but for their tags. No rule of types and no rule of a run tells them apart.
use Rattle.std.specs.Prelude.{ℕ, ℤ, Bool, List}
use Rattle.java_core.specs.declared.Ty.{Ty}
use Rattle.java_core.specs.declared.UnOp.{UnOp}
use Rattle.java_core.specs.declared.BinOp.{BinOp}
use Rattle.java_core.specs.Trees.{Tag, Ex, Exs, no_ex, ex_then, number, character, text, truth, null, this, local, static_field, own_field, field, index, call, static_call, super_call, create, create_array, cast, instance_of, unary, binary, Target, to_local, to_static, to_own, to_field, to_element, no_target}

mutual
  -- two expressions are the same but for their tags
  pub data Retagged : Ex → Ex → Type 0 where
    s_field : {t s : Tag} {e d : Ex} {x : List ℕ} → Retagged e d → Retagged (field t e x) (field s d x)
    s_index : {t s : Tag} {e d i j : Ex} → Retagged e d → Retagged i j → Retagged (index t e i) (index s d j)
    s_call : {t s : Tag} {e d : Ex} {x : List ℕ} {es ds : Exs} → Retagged e d → RetaggedAll es ds → Retagged (call t e x es) (call s d x ds)
    s_static_call : {t s : Tag} {m : ℕ} {es ds : Exs} → RetaggedAll es ds → Retagged (static_call t m es) (static_call s m ds)
    s_super_call : {t s : Tag} {x : List ℕ} {es ds : Exs} → RetaggedAll es ds → Retagged (super_call t x es) (super_call s x ds)
    s_create : {t s : Tag} {n c : ℕ} {es ds : Exs} → RetaggedAll es ds → Retagged (create t n c es) (create s n c ds)
    s_create_array : {t s : Tag} {n : ℕ} {u : Ty} {e d : Ex} → Retagged e d → Retagged (create_array t n u e) (create_array s n u d)
    s_cast : {t s : Tag} {n : ℕ} {u : Ty} {e d : Ex} → Retagged e d → Retagged (cast t n u e) (cast s n u d)
    s_instance_of : {t s : Tag} {n c : ℕ} {e d : Ex} → Retagged e d → Retagged (instance_of t n e c) (instance_of s n d c)
    s_unary : {t s : Tag} {o : UnOp} {e d : Ex} → Retagged e d → Retagged (unary t o e) (unary s o d)
    s_binary : {t s : Tag} {o : BinOp} {a b c d : Ex} → Retagged a c → Retagged b d → Retagged (binary t o a b) (binary s o c d)
    s_this : {t s : Tag} → Retagged (this t) (this s)
    s_null : {t s : Tag} → Retagged (null t) (null s)
    s_truth : {t s : Tag} {b : Bool} → Retagged (truth t b) (truth s b)
    s_local : {t s : Tag} {i : ℕ} → Retagged (local t i) (local s i)
    s_static_field : {t s : Tag} {f : ℕ} → Retagged (static_field t f) (static_field s f)
    s_own_field : {t s : Tag} {f : ℕ} → Retagged (own_field t f) (own_field s f)
    s_text : {t s : Tag} {u : List ℕ} → Retagged (text t u) (text s u)
    s_character : {t s : Tag} {c : ℕ} → Retagged (character t c) (character s c)
    s_number : {t s : Tag} {n : ℤ} → Retagged (number t n) (number s n)

  -- two lists of expressions are the same but for their tags
  pub data RetaggedAll : Exs → Exs → Type 0 where
    s_no_ex : RetaggedAll no_ex no_ex
    s_ex_then : {e d : Ex} {es ds : Exs} → Retagged e d → RetaggedAll es ds → RetaggedAll (ex_then e es) (ex_then d ds)

-- two targets of an assignment are the same but for their tags
pub data RetaggedTarget : Target → Target → Type 0 where
  s_to_local : {t s : Tag} {i : ℕ} → RetaggedTarget (to_local t i) (to_local s i)
  s_to_static : {t s : Tag} {f : ℕ} → RetaggedTarget (to_static t f) (to_static s f)
  s_to_own : {t s : Tag} {f : ℕ} → RetaggedTarget (to_own t f) (to_own s f)
  s_to_field : {t s : Tag} {e d : Ex} {x : List ℕ} → Retagged e d → RetaggedTarget (to_field t e x) (to_field s d x)
  s_to_element : {t s : Tag} {e d i j : Ex} → Retagged e d → Retagged i j → RetaggedTarget (to_element t e i) (to_element s d j)
  s_no_target : RetaggedTarget no_target no_target
