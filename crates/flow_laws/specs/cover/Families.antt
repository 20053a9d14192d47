-- Believed. Families of sets: which creations what a run holds may come from, and when all that a body does stays in
-- the sets.
use Rattle.std.specs.Prelude.{◌≡◌, ℕ, suc, Bool, true, List, Option, Some, None, slice_get}
use Rattle.java_core.specs.declared.Ty.{Ty}
use Rattle.java_core.specs.Trees.{Ex, Exs, no_ex, ex_then, number, character, text, truth, null, this, local, static_field, own_field, field, index, call, static_call, super_call, create, create_array, cast, instance_of, unary, binary, Target, to_local, to_static, to_own, to_field, to_element, no_target}
use Rattle.java_core.specs.Types.{Env, class_type, element_in}
use Rattle.java_meaning.specs.EachStatement.{Asked, InSts}
use Rattle.java_meaning.specs.Moment.{Value, Object, Kind, an_object, an_array, own_type, Spot, held, bound, self_of, result_of, set_static, kept, put_in, touched, tested, ran, Body, Lang}
use Rattle.java_meaning.specs.Meaning.{words_type}

-- a set of creations by number; none made the array of the words
abbrev pub Set : Type 0
Set = Option ℕ → Bool

-- each creation of the first set is in the second
abbrev pub Sub : Set → Set → Type 0
Sub X Y = (o : Option ℕ) → X o ≡ true → Y o ≡ true

-- the creations of the value of an expression of a body, and those of what is held or met at a spot
pub record Family : Type 0 where
  pub value : ℕ → Ex → Option ℕ → Bool
  pub spot : Spot → Option ℕ → Bool

-- no value of the list is an object or an array
abbrev pub ArePlain : List Value → Type 0
ArePlain vs = (i a : ℕ) → slice_get vs i ≡ Some (Object a) → ⊥

-- in a language, where the relation tells what each creation makes
module _ (L : Lang) (Made : Option ℕ → Kind → Type 0) (V : Family) where
  module _ (g : Env) where
    -- the creations that the value of an expression of this body may come from
    abbrev pub value_of : Ex → Set
    value_of e = V.value g.body e

    -- what the expression gives is in the set at its spot, and in its own
    pub record Gives (d : Ex) (X : Set) : Type 0 where
      pub looks : Sub X (V.spot (held g.body d))
      pub holds : Sub X (value_of d)

    -- d reads a field of what e gives
    pub record ReadsAt (e d : Ex) (j : ℕ) (o : Option ℕ) : Type 0 where
      pub base : V.spot (touched g.body e j) o ≡ true
      pub gives : Gives d (V.spot (kept o j))

    -- d reads the field x of what e gives, for each creation in the set of e that has the field
    unfoldable pub Reads : Ex → Ex → Option ℕ → Type 0
    Reads e d x = (j : ℕ) → x ≡ Some j → (o : Option ℕ) (c i : ℕ) → Made o (an_object c) → L.index c j ≡ Some i → value_of e o ≡ true → ReadsAt e d j o

    -- what d gives is put in a field of what e gives
    pub record WritesAt (e d : Ex) (j : ℕ) (o : Option ℕ) : Type 0 where
      pub base : V.spot (touched g.body e j) o ≡ true
      pub gives : Sub (value_of d) (V.spot (kept o j))

    -- what d gives is put in the field x of what e gives, for each creation in the set of e that has the field
    unfoldable pub Writes : Ex → Ex → Option ℕ → Type 0
    Writes e d x = (j : ℕ) → x ≡ Some j → (o : Option ℕ) (c i : ℕ) → Made o (an_object c) → L.index c j ≡ Some i → value_of e o ≡ true → WritesAt e d j o

    -- d reads an element of what e gives
    unfoldable pub ReadsElement : Ex → Ex → Type 0
    ReadsElement e d = (o : Option ℕ) (t u : Ty) → Made o (an_array t) → element_in t.base t.dim ≡ Some u → value_of e o ≡ true → Gives d (V.spot (put_in o))

    -- what d gives is put in an element of what e gives, where its own type is a subtype of the elements'
    unfoldable pub WritesElement : Ex → Ex → Type 0
    WritesElement e d = (o q : Option ℕ) (t u : Ty) (k : Kind) → Made o (an_array t) → element_in t.base t.dim ≡ Some u → Made q k
        → L.is_sub (own_type k) u ≡ true
        → value_of e o ≡ true → value_of d q ≡ true → V.spot (put_in o) q ≡ true

    -- the arguments go into sets, one after the other
    abbrev pub Passes : Exs → (ℕ → Set) → Type 0
    Passes no_ex X = Unit {0}
    Passes (ex_then e es) X = Sub (value_of e) (X 0) × Passes es (λ x. X (suc x))

    -- the body b runs for the call d on these arguments
    pub record Enters (d : Ex) (es : Exs) (b : Body) : Type 0 where
      pub args : Passes es (λ x. V.spot (bound b.env.body x))
      pub result : Gives d (V.spot (result_of b.env.body))

    -- and does so on an object of the creation
    pub record CallsAt (d : Ex) (es : Exs) (o : Option ℕ) (b : Body) : Type 0 where
      pub receiver : V.spot (ran g.body d b.env.body) o ≡ true
      pub self : V.spot (self_of b.env.body) o ≡ true
      pub enters : Enters d es b

    -- the call d of a method on what e gives enters the body of each creation in the set of e
    unfoldable pub Calls : Ex → Ex → List ℕ → Exs → Type 0
    Calls d e x es = (o : Option ℕ) (c j : ℕ) (b : Body) → Made o (an_object c) → L.slot g e x ≡ Some j → L.body c j ≡ Some b → value_of e o ≡ true
        → CallsAt d es o b

    -- the call d of a static method enters its body
    unfoldable pub StaticCalls : Ex → ℕ → Exs → Type 0
    StaticCalls d m es = (b : Body) → L.static_body m ≡ Some b → Enters d es b

    -- the body b runs for the super call d, on the object of the caller
    pub record SuperCallsAt (d : Ex) (es : Exs) (b : Body) : Type 0 where
      pub self : Sub (V.spot (self_of g.body)) (V.spot (self_of b.env.body))
      pub enters : Enters d es b

    -- the super call d enters the body that is found above the class of the caller's code
    unfoldable pub SuperCalls : Ex → List ℕ → Exs → Type 0
    SuperCalls d x es = (b : Body) → L.super_body g.self x ≡ Some b → SuperCallsAt d es b

    -- d is the creation of this number
    pub record Makes (d : Ex) (n : ℕ) (k : Kind) : Type 0 where
      pub made : Made (Some n) k
      pub looks : V.spot (held g.body d) (Some n) ≡ true
      pub holds : value_of d (Some n) ≡ true

    -- the constructor's body b runs for the creation d on the object that is made, on these arguments
    pub record RunsMaker (d : Ex) (n : ℕ) (es : Exs) (b : Body) : Type 0 where
      pub receiver : V.spot (ran g.body d b.env.body) (Some n) ≡ true
      pub self : V.spot (self_of b.env.body) (Some n) ≡ true
      pub args : Passes es (λ x. V.spot (bound b.env.body x))

    -- the creation d of this number runs the constructor of the class, where it has one
    unfoldable pub MakerRuns : Ex → ℕ → ℕ → Exs → Type 0
    MakerRuns d n c es = (j : ℕ) (b : Body) → L.maker c ≡ Some j → L.body c j ≡ Some b → RunsMaker d n es b

    -- d tests what e gives against a type
    unfoldable pub Tests : Ex → Ex → Ty → Type 0
    Tests d e t = (o : Option ℕ) (k : Kind) → Made o k → value_of e o ≡ true → V.spot (tested g.body d (L.is_sub (own_type k) t)) o ≡ true

    -- and gives it where it passes
    unfoldable pub Casts : Ex → Ex → Ty → Type 0
    Casts d e t = (o : Option ℕ) (k : Kind) → Made o k → value_of e o ≡ true → L.is_sub (own_type k) t ≡ true → (V.spot (held g.body d) o ≡ true)
        × (value_of d o ≡ true)

    -- all that an expression does stays in the sets
    abbrev mutual
      -- what one expression reads, writes, calls, makes and tests stays in the sets
      pub Included : Ex → Type 0
      Included (number t n) = Unit {0}
      Included (character t c) = Unit {0}
      Included (text t u) = Unit {0}
      Included (truth t b) = Unit {0}
      Included (null t) = Unit {0}
      Included (this t) = Sub (V.spot (self_of g.body)) (value_of (this t))
      Included (local t x) = Sub (V.spot (bound g.body x)) (value_of (local t x))
      Included (static_field t x) = Sub (V.spot (set_static x)) (value_of (static_field t x))
      Included (own_field t x) = Sub (V.spot (self_of g.body)) (value_of (this t)) × Reads (this t) (own_field t x) (Some x)
      Included (field t e x) = Included e × Reads e (field t e x) (L.field g e x)
      Included (index t e i) = Included e × Included i × ReadsElement e (index t e i)
      Included (call t e x es) = Included e × IncludedAll es × Calls (call t e x es) e x es
      Included (static_call t m es) = IncludedAll es × StaticCalls (static_call t m es) m es
      Included (super_call t x es) = IncludedAll es × SuperCalls (super_call t x es) x es
      Included (create t n c es) = IncludedAll es × Makes (create t n c es) n (an_object c) × MakerRuns (create t n c es) n c es
      Included (create_array t n u e) = Included e × Makes (create_array t n u e) n (an_array u)
      Included (cast t n u e) = Included e × Tests (cast t n u e) e u × Casts (cast t n u e) e u
      Included (instance_of t n e c) = Included e × Tests (instance_of t n e c) e (class_type c)
      Included (unary t o e) = Included e
      Included (binary t o e d) = Included e × Included d

      -- what the arguments of a call do stays in the sets
      pub IncludedAll : Exs → Type 0
      IncludedAll no_ex = Unit {0}
      IncludedAll (ex_then e es) = Included e × IncludedAll es

    -- what an expression gives, where there is one, goes to a spot
    abbrev pub Sets : Option Ex → Spot → Type 0
    Sets None p = Unit {0}
    Sets (Some e) p = Included e × Sub (value_of e) (V.spot p)

    -- an assignment stays in the sets: its target, its value, and where the value is put
    abbrev pub Assigns : Target → Ex → Type 0
    Assigns (to_local t x) d = Included d × Sub (value_of d) (V.spot (bound g.body x))
    Assigns (to_static t x) d = Included d × Sub (value_of d) (V.spot (set_static x))
    Assigns (to_own t x) d = Included d × Sub (V.spot (self_of g.body)) (value_of (this t)) × Writes (this t) d (Some x)
    Assigns (to_field t e x) d = Included e × Included d × Writes e d (L.field g e x)
    Assigns (to_element t e i) d = Included e × Included i × Included d × WritesElement e d
    Assigns no_target d = Unit {0}

    -- all that statements do stays in the sets
    abbrev pub included : Asked
    included = record {
      Of = Included;
      Declared = λ x e. Sets e (bound g.body x);
      Assigned = Assigns;
      Returned = λ e. Sets e (result_of g.body);
    }

  -- a body whose code stays in the sets, and that begins and falls off its end with no object
  pub record IsIncluded (b : Body) : Type 0 where
    pub code : InSts (included b.env) b.code
    pub rest : ArePlain b.rest
    pub ends : (a : ℕ) → b.ends ≡ Object a → ⊥

  -- all bodies stay in the sets, and no field begins with an object
  pub record AreIncluded : Type 0 where
    pub places : (c f h i : ℕ) → L.index c f ≡ Some i → L.index c h ≡ Some i → f ≡ h
    pub fresh : (c : ℕ) → ArePlain (L.fresh c)
    pub statics : ArePlain L.statics
    pub bodies : (c j : ℕ) (b : Body) → L.body c j ≡ Some b → IsIncluded b
    pub static_bodies : (m : ℕ) (b : Body) → L.static_body m ≡ Some b → IsIncluded b
    pub super_bodies : (c : ℕ) (x : List ℕ) (b : Body) → L.super_body c x ≡ Some b → IsIncluded b

  -- a run may begin with the method: the words are in its parameter
  pub record Begins (m : ℕ) : Type 0 where
    pub made : Made None (an_array words_type)
    pub words : (b : Body) → L.static_body m ≡ Some b → V.spot (bound b.env.body 0) None ≡ true
