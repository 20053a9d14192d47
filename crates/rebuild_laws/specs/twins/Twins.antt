-- Mirror. Two languages whose runs are the same: what ties them, and when a body of one is the twin of a body of the
-- other, form by form.
use Rattle.std.specs.Prelude.{◌≡◌, ℕ, suc, ℤ, Bool, true, false, List, [], ◌∷◌, length, Option, Some, None, map, slice_get}
use Rattle.std.specs.Option.{option_map, option_and_then}
use Rattle.java_core.specs.declared.Ty.{Ty}
use Rattle.java_core.specs.declared.TyBase.{TyBase}
use Rattle.java_core.specs.declared.TyBase.TheVariants.{Int, Boolean, Char, Str, Class}
use Rattle.java_core.specs.declared.UnOp.{UnOp}
use Rattle.java_core.specs.declared.BinOp.{BinOp}
use Rattle.java_core.specs.Trees.{Tag, Ex, Exs, no_ex, ex_then, number, character, text, truth, null, this, local, static_field, own_field, field, index, call, static_call, super_call, create, create_array, cast, instance_of, unary, binary, Target, to_local, to_static, to_own, to_field, to_element, St, Sts, IfArms}
use Rattle.java_core.specs.Types.{Env, class_type, StringMethod}
use Rattle.java_meaning.specs.Moment.{Value, Kind, an_object, an_array, Cell, own_type, Spot, held, bound, self_of, set_static, touched, tested, ran, Body, Lang}
use Rattle.java_meaning.specs.Meaning.{words_type, element_type, is_number_type, names_length, text_method}
use Rattle.java_meaning.specs.Paired.{PairedIf, PairedSt, PairedSts, PairedArms}
use Rattle.rebuild_model.specs.Makes.{IsMakeCode}
use Rattle.flow_laws.specs.cover.Families.{ArePlain}
use Rattle.flow_laws.specs.cover.Watched.{Of}

-- a type without its class: what decides how a value flows into it
abbrev pub shape_in : TyBase → TyBase
shape_in (Class c) = Class (record { 0 = 0 })
shape_in Int = Int
shape_in Boolean = Boolean
shape_in Char = Char
shape_in Str = Str

-- and of the whole type: its base without its class, with as many brackets
abbrev pub shape_of : Ty → Ty
shape_of t = record { base = shape_in t.base; dim = t.dim }

-- what ties the two languages: by the number of each creation of the first (none made the array of the words), and by the numbers of its fields
pub record Link : Type 0 where
  -- whether the first may have an object of the creation at a spot
  pub may : Spot → Option ℕ → Bool
  -- whether the objects of the creation keep a field of the first, and its number in the second
  pub has : Option ℕ → ℕ → Bool
  pub new_field : ℕ → ℕ
  -- the static fields of the first, and their numbers in the second
  pub is_static : ℕ → Bool
  pub new_static : ℕ → ℕ

-- the spot where the value of an expression was looked at last
abbrev pub spot_of : ℕ → Ex → Spot
spot_of b (local t i) = bound b i
spot_of b (this t) = self_of b
spot_of b (static_field t f) = set_static f
spot_of b e = held b e

-- how many expressions a list has
abbrev pub many : Exs → ℕ
many no_ex = 0
many (ex_then e es) = suc (many es)

-- the value of a field among the values of an object of a class
abbrev pub value_at : Lang → ℕ → ℕ → List Value → Option Value
value_at L c f vs = option_and_then (λ i. slice_get vs i) (L.index c f)

-- Made tells what each creation makes, in the first and in the second; Pair which bodies are twins
module _ (L M : Lang) (K : Link) (Made : Option ℕ → Kind → Kind → Type 0) (Pair : Body → Body → Type 0) where
  -- a body of the second is found, and is of a pair with one of the first
  pub record HasPair (b : Body) (q : Option Body) : Type 0 where
    pub body : Body
    pub found : q ≡ Some body
    pub pair : Pair b body

  -- where a body is found in the first, one of a pair with it is found in the second
  abbrev pub BothPair : Option Body → Option Body → Type 0
  BothPair p q = (b : Body) → p ≡ Some b → HasPair b q

  -- a creation makes objects of these classes, with the same values in the fields that they keep
  pub record SameNew (n c k : ℕ) : Type 0 where
    pub made : Made (Some n) (an_object c) (an_object k)
    pub values : (f : ℕ) → K.has (Some n) f ≡ true → value_at L c f (L.fresh c) ≡ value_at M k (K.new_field f) (M.fresh k)

  -- a creation makes arrays of these types
  pub record SameArray (n : ℕ) (t u : Ty) : Type 0 where
    pub made : Made (Some n) (an_array t) (an_array u)
    pub shape : shape_of t ≡ shape_of u

  -- a static field and its new number
  pub record SameStatic (f j : ℕ) : Type 0 where
    pub static : K.is_static f ≡ true
    pub new : j ≡ K.new_static f

  -- in bodies that see these types
  module _ (g h : Env) where
    -- what e has under a name is one field in both, found in the second where it is in the first, and each object there keeps it
    pub record SameField (e : Ex) (x y : Option ℕ) : Type 0 where
      pub new : (f : ℕ) → x ≡ Some f → y ≡ Some (K.new_field f)
      pub had : (f : ℕ) → x ≡ Some f → (o : Option ℕ) (c k : ℕ) → Made o (an_object c) (an_object k) → K.may (touched g.body e f) o ≡ true → K.has o f ≡ true

    -- a name under which e has no field in the first is that of an array's length in the second where it is in the first
    abbrev pub SameLength : Ex → Ex → List ℕ → List ℕ → Type 0
    SameLength e d x y = names_length (L.field g e x) x ≡ true → names_length (M.field h d y) y ≡ true

    -- a call of d in the second finds a slot, and an object of the class k runs a body of a pair with b for it
    pub record HasCalled (d : Ex) (y : List ℕ) (k : ℕ) (b : Body) : Type 0 where
      pub slot : ℕ
      pub called : M.slot h d y ≡ Some slot
      pub runs : HasPair b (M.body k slot)

    -- a call of the form a on what e gives, of d in the second: each object there runs bodies of a pair, and a string the same method
    pub record SameCall (a e d : Ex) (x y : List ℕ) : Type 0 where
      pub bodies : (o : Option ℕ) (c k i : ℕ) (b : Body) → Made o (an_object c) (an_object k) → L.slot g e x ≡ Some i → L.body c i ≡ Some b
          → K.may (ran g.body a b.env.body) o ≡ true → HasCalled d y k b
      pub texts : (m : StringMethod) → text_method (L.slot g e x) x ≡ Some m → text_method (M.slot h d y) y ≡ Some m

    -- neither class has a constructor; or both have one, and the body of the first that the creation a runs is of a pair with that of the second
    pub data SameMaker (a : Ex) (n c k : ℕ) : Type 0 where
      neither_makes : L.maker c ≡ None → M.maker k ≡ None → SameMaker a n c k
      both_make : {i j : ℕ} → L.maker c ≡ Some i → M.maker k ≡ Some j
          → ((b : Body) → L.body c i ≡ Some b → K.may (ran g.body a b.env.body) (Some n) ≡ true → HasPair b (M.body k j)) → SameMaker a n c k

    -- made makes objects of the class k by a call of the name x: that call runs a body of a pair with b, on parameters of one shape with those of made
    pub record RunsMade (made : Body) (x : List ℕ) (k : ℕ) (b : Body) : Type 0 where
      pub params : map shape_of made.params ≡ map shape_of b.params
      pub slot : ℕ
      pub called : (t : Tag) → M.slot made.env (local t (length made.params)) x ≡ Some slot
      pub runs : HasPair b (M.body k slot)

    -- the class of a creation has a constructor in the first; in the second the static method m makes the object, and runs on it a body of a pair with
    -- that of the constructor
    pub record SameMake (a : Ex) (n c m : ℕ) (es : Exs) : Type 0 where
      pub class : ℕ
      pub new : SameNew n c class
      pub maker : ℕ
      pub has_maker : L.maker c ≡ Some maker
      pub bare : M.maker class ≡ None
      pub body : Body
      pub found : M.static_body m ≡ Some body
      pub name : List ℕ
      pub code : IsMakeCode class name (length body.params) body.code
      pub as_many : many es ≡ length body.params
      -- its one local, and what it gives
      pub first : Value
      pub rest : body.rest ≡ first ∷ []
      pub kept : Ty
      pub local_is : slice_get body.env.locals (length body.params) ≡ Some kept
      pub given : Ty
      pub result : body.env.result ≡ Some given
      pub runs : (b : Body) → L.body c maker ≡ Some b → K.may (ran g.body a b.env.body) (Some n) ≡ true → RunsMade body name class b

    -- the test of the form a has one outcome for each object there
    abbrev pub SameTest : Ex → Ty → Ty → Type 0
    SameTest a t u = (o : Option ℕ) (k l : Kind) → Made o k l → K.may (tested g.body a (L.is_sub (own_type k) t)) o ≡ true
        → L.is_sub (own_type k) t ≡ M.is_sub (own_type l) u

    -- so has the test of a store of what d gives into an array that e gives
    abbrev pub SameStore : Ex → Ex → Type 0
    SameStore e d = (o q : Option ℕ) (a b k l : Kind) (t u : Ty) → Made o a b → Made q k l → element_type a ≡ Some t → element_type b ≡ Some u
        → K.may (spot_of g.body e) o ≡ true → K.may (spot_of g.body d) q ≡ true → L.is_sub (own_type k) t ≡ M.is_sub (own_type l) u

    mutual
      -- an expression of the second language is the twin of one of the first
      pub data Same : Ex → Ex → Type 0 where
        same_number : {t u : Tag} {n : ℤ} → Same (number t n) (number u n)
        same_character : {t u : Tag} {c : ℕ} → Same (character t c) (character u c)
        same_text : {t u : Tag} {x : List ℕ} → Same (text t x) (text u x)
        same_truth : {t u : Tag} {b : Bool} → Same (truth t b) (truth u b)
        same_null : {t u : Tag} → Same (null t) (null u)
        same_this : {t u : Tag} → Same (this t) (this u)
        same_local : {t u : Tag} {i : ℕ} → Same (local t i) (local u i)
        same_static_field : {t u : Tag} {f j : ℕ} → SameStatic f j → Same (static_field t f) (static_field u j)
        -- a field of `this` by its simple name is one on a written `this`
        same_own_field : {t u v : Tag} {f : ℕ} {y : List ℕ} → SameField (this t) (Some f) (M.field h (this v) y) → Same (own_field t f) (field u (this v) y)
        -- so is one by its simple name, and one on a written `this` the twin of one by its simple name, where it is a field
        same_own : {t u : Tag} {f j : ℕ} → SameField (this t) (Some f) (Some j) → Same (own_field t f) (own_field u j)
        same_written : {t u v : Tag} {f j : ℕ} {x : List ℕ} → L.field g (this v) x ≡ Some f → SameField (this v) (Some f) (Some j)
            → Same (field t (this v) x) (own_field u j)
        same_field : {t u : Tag} {e d : Ex} {x y : List ℕ} → Same e d → SameField e (L.field g e x) (M.field h d y) → SameLength e d x y
            → Same (field t e x) (field u d y)
        same_index : {t u : Tag} {e d i j : Ex} → Same e d → Same i j → Same (index t e i) (index u d j)
        same_call : {t u : Tag} {e d : Ex} {x y : List ℕ} {es ds : Exs} → Same e d → SameAll es ds → SameCall (call t e x es) e d x y
            → Same (call t e x es) (call u d y ds)
        same_static_call : {t u : Tag} {m n : ℕ} {es ds : Exs} → SameAll es ds → BothPair (L.static_body m) (M.static_body n)
            → Same (static_call t m es) (static_call u n ds)
        same_super_call : {t u : Tag} {x y : List ℕ} {es ds : Exs} → SameAll es ds → BothPair (L.super_body g.self x) (M.super_body h.self y)
            → Same (super_call t x es) (super_call u y ds)
        same_create : {t u : Tag} {n j c k : ℕ} {es ds : Exs} → SameAll es ds → SameNew n c k → SameMaker (create t n c es) n c k
            → Same (create t n c es) (create u j k ds)
        -- a creation with a constructor is a call of a method that makes the object
        same_make : {t u : Tag} {n c m : ℕ} {es ds : Exs} → SameAll es ds → SameMake (create t n c es) n c m es → Same (create t n c es) (static_call u m ds)
        same_create_array : {t u : Tag} {n j : ℕ} {v w : Ty} {e d : Ex} → Same e d → SameArray n v w → Same (create_array t n v e) (create_array u j w d)
        same_cast : {t u : Tag} {n j : ℕ} {v w : Ty} {e d : Ex} → Same e d → shape_of v ≡ shape_of w
            → (is_number_type v.base v.dim ≡ false → SameTest (cast t n v e) v w) → Same (cast t n v e) (cast u j w d)
        same_instance_of : {t u : Tag} {n j c k : ℕ} {e d : Ex} → Same e d → SameTest (instance_of t n e c) (class_type c) (class_type k)
            → Same (instance_of t n e c) (instance_of u j d k)
        same_unary : {t u : Tag} {o : UnOp} {e d : Ex} → Same e d → Same (unary t o e) (unary u o d)
        same_binary : {t u : Tag} {o : BinOp} {a b c d : Ex} → Same a c → Same b d → Same (binary t o a b) (binary u o c d)

      -- the arguments of two calls are twins one by one
      pub data SameAll : Exs → Exs → Type 0 where
        same_no_ex : SameAll no_ex no_ex
        same_ex_then : {e d : Ex} {es ds : Exs} → Same e d → SameAll es ds → SameAll (ex_then e es) (ex_then d ds)

    -- what the value of a is put in
    pub data SameTarget (a : Ex) : Target → Target → Type 0 where
      same_to_local : {t u : Tag} {i : ℕ} → SameTarget a (to_local t i) (to_local u i)
      same_to_static : {t u : Tag} {f j : ℕ} → SameStatic f j → SameTarget a (to_static t f) (to_static u j)
      same_to_own : {t u v : Tag} {f : ℕ} {y : List ℕ} → SameField (this t) (Some f) (M.field h (this v) y) → SameTarget a (to_own t f) (to_field u (this v) y)
      same_to_both : {t u : Tag} {f j : ℕ} → SameField (this t) (Some f) (Some j) → SameTarget a (to_own t f) (to_own u j)
      same_to_written : {t u v : Tag} {j : ℕ} {x : List ℕ} → SameField (this v) (L.field g (this v) x) (Some j)
          → SameTarget a (to_field t (this v) x) (to_own u j)
      same_to_field : {t u : Tag} {e d : Ex} {x y : List ℕ} → Same e d → SameField e (L.field g e x) (M.field h d y)
          → SameTarget a (to_field t e x) (to_field u d y)
      same_to_element : {t u : Tag} {e d i j : Ex} → Same e d → Same i j → SameStore e a → SameTarget a (to_element t e i) (to_element u d j)

    -- both expressions are left out, or both are there and twins
    abbrev pub SameIf : Option Ex → Option Ex → Type 0
    SameIf = PairedIf Same SameTarget

    -- two statements of one form whose parts are twins
    abbrev pub SameSt : St → St → Type 0
    SameSt = PairedSt Same SameTarget

    -- two lists of statements that are twins one by one
    abbrev pub SameSts : Sts → Sts → Type 0
    SameSts = PairedSts Same SameTarget

    -- the arms of two `if`s, and their `else`, are twins one by one
    abbrev pub SameArms : IfArms → IfArms → Type 0
    SameArms = PairedArms Same SameTarget

  -- locals and results differ in their classes alone
  pub record SameEnv (g h : Env) : Type 0 where
    pub locals : map shape_of g.locals ≡ map shape_of h.locals
    pub result : option_map shape_of g.result ≡ option_map shape_of h.result

  -- two bodies: parameters of one shape, locals that begin with the same values and no objects, and code that is twin
  pub record SameBody (b c : Body) : Type 0 where
    pub env : SameEnv b.env c.env
    pub params : map shape_of b.params ≡ map shape_of c.params
    pub rest : b.rest ≡ c.rest
    pub plain : ArePlain b.rest
    pub ends : b.ends ≡ c.ends
    pub code : SameSts b.env c.env b.code c.code

  -- the languages are twins: the first is watched so that an object passes a spot only where its creation may be there, and the second is not watched
  pub record AreTwins : Type 0 where
    pub sees : (p : Spot) (v : Value) (h : List Cell) → L.sees p v h ≡ true → Of h v (K.may p)
    pub sees_all : (b : ℕ) (vs : List Value) (h : List Cell) → L.sees_all b vs h ≡ true → (i : ℕ) (v : Value) → slice_get vs i ≡ Some v
        → Of h v (K.may (bound b i))
    pub passes : (p : Spot) (v : Value) (h : List Cell) → M.sees p v h ≡ true
    pub passes_all : (b : ℕ) (vs : List Value) (h : List Cell) → M.sees_all b vs h ≡ true
    pub words : Made None (an_array words_type) (an_array words_type)
    -- different fields of one object are in different places
    pub old_places : (c f k i : ℕ) → L.index c f ≡ Some i → L.index c k ≡ Some i → f ≡ k
    pub new_places : (c f k i : ℕ) → M.index c f ≡ Some i → M.index c k ≡ Some i → f ≡ k
    pub fields_apart : (o : Option ℕ) (f k : ℕ) → K.has o f ≡ true → K.has o k ≡ true → K.new_field f ≡ K.new_field k → f ≡ k
    pub field_shapes : (o : Option ℕ) (f : ℕ) → K.has o f ≡ true → option_map shape_of (L.field_type f) ≡ option_map shape_of (M.field_type (K.new_field f))
    pub statics_apart : (f k : ℕ) → K.is_static f ≡ true → K.is_static k ≡ true → K.new_static f ≡ K.new_static k → f ≡ k
    pub static_shapes : (f : ℕ) → K.is_static f ≡ true → option_map shape_of (L.field_type f) ≡ option_map shape_of (M.field_type (K.new_static f))
    pub statics : (f : ℕ) → K.is_static f ≡ true → slice_get L.statics f ≡ slice_get M.statics (K.new_static f)
    pub plain_statics : ArePlain L.statics
    pub pairs : (b c : Body) → Pair b c → SameBody b c
