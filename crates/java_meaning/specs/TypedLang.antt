-- Mirror. What a typed program gives its runs: the facts by which no run goes wrong.
use Rattle.std.specs.Prelude.{◌≡◌, ℕ, true, List, ◌++◌, map, Option, Some, None, slice_get}
use Rattle.std.specs.Option.{is_some}
use Rattle.java_core.specs.declared.Ty.{Ty}
use Rattle.java_core.specs.Trees.{Ex, Exs, no_ex, ex_then, local, static_field, own_field, field, index, call, static_call, super_call, create, create_array, cast, instance_of, unary, binary, Target, to_local, to_static, to_own, to_field, to_element, no_target}
use Rattle.java_core.specs.Programs.{Plain}
use Rattle.java_core.specs.Classes.{below, is_concrete, member_field, slot_of, super_method, has_body}
use Rattle.java_core.specs.Makers.{maker_of}
use Rattle.java_core.specs.Types.{Env, class_of, element_in, field_in, field_type, is_subtype, Signature, signature_of_method, signature_of_slot, static}
use Rattle.java_core.specs.Typing.{TypedSts}
use Rattle.java_meaning.specs.Moment.{Body, Lang}
use Rattle.java_meaning.specs.Values.{default_of}
use Rattle.java_meaning.specs.EachStatement.{OfOption, Asked, InSts}

-- what a body names is there: its locals, the fields and the static methods
module _ (P : Plain) (g : Env) where
  abbrev mutual
    -- the variables, fields and methods that an expression names by number are there
    pub Stands : Ex → Type 0
    Stands (local t i) = is_some (slice_get g.locals i) ≡ true
    Stands (static_field t f) = is_some (field_type P f) ≡ true
    Stands (own_field t f) = (x : List ℕ) × (member_field P g.self x ≡ Some f)
    Stands (field t e x) = Stands e
    Stands (index t e i) = Stands e × Stands i
    Stands (call t e x es) = Stands e × StandAll es
    Stands (static_call t m es) = (has_body P m ≡ true) × StandAll es
    Stands (super_call t x es) = StandAll es
    Stands (create t n c es) = StandAll es
    Stands (create_array t n u e) = (is_some (element_in u.base u.dim) ≡ true) × Stands e
    Stands (cast t n u e) = Stands e
    Stands (instance_of t n e c) = Stands e
    Stands (unary t o e) = Stands e
    Stands (binary t o e d) = Stands e × Stands d
    Stands e = Unit {0}

    -- the same of each expression of a list
    pub StandAll : Exs → Type 0
    StandAll no_ex = Unit {0}
    StandAll (ex_then e es) = Stands e × StandAll es

  -- the same of the target of an assignment
  abbrev pub StandsTarget : Target → Type 0
  StandsTarget (to_local t i) = is_some (slice_get g.locals i) ≡ true
  StandsTarget (to_static t f) = is_some (field_type P f) ≡ true
  StandsTarget (to_own t f) = (x : List ℕ) × (member_field P g.self x ≡ Some f)
  StandsTarget (to_field t e x) = Stands e
  StandsTarget (to_element t e i) = Stands e × Stands i
  StandsTarget no_target = Unit {0}

  -- what is asked of the statements of a body
  abbrev pub standing : Asked
  standing = record {
    Of = Stands;
    Declared = λ i e. (is_some (slice_get g.locals i) ≡ true) × OfOption Stands e;
    Assigned = λ b e. StandsTarget b × Stands e;
    Returned = OfOption Stands;
  }

-- a body of a signature: its locals begin at their defaults, it falls off its end with its result's, and its code is typed
pub record TypedBody (P : Plain) (b : Body) (sig : Signature) : Type 0 where
  pub params : b.params ≡ sig.params
  pub rest : List Ty
  pub locals : b.env.locals ≡ sig.params ++ rest
  pub defaults : b.rest ≡ map default_of rest
  pub result : b.env.result ≡ sig.result
  pub ends : (t : Ty) → sig.result ≡ Some t → b.ends ≡ default_of t
  pub typed : TypedSts P b.env b.code
  pub stands : InSts (standing P b.env) b.code

-- a body of a signature that stands at or above the class
pub record HasBody (P : Plain) (found : Option Body) (c : ℕ) (sig : Signature) : Type 0 where
  pub body : Body
  pub found_body : found ≡ Some body
  pub above : below P c body.env.self ≡ true
  pub typed : TypedBody P body sig

-- there is a body, and it is typed by the signature
pub record HasStaticBody (P : Plain) (found : Option Body) (sig : Signature) : Type 0 where
  pub body : Body
  pub found_body : found ≡ Some body
  pub typed : TypedBody P body sig

-- a language that is that of a typed program, as far as its members and types go; it may have a watch
pub record TypedLang (P : Plain) (L : Lang) : Type 0 where
  pub below_self : (c : ℕ) → below P c c ≡ true
  pub below_all : (c d e : ℕ) → below P c d ≡ true → below P d e ≡ true → below P c e ≡ true
  pub is_sub : (s t : Ty) → L.is_sub s t ≡ is_subtype P s t
  pub field : (g : Env) (e : Ex) (x : List ℕ) → L.field g e x ≡ field_in P (static P g e) x
  pub typed_field : (f : ℕ) → L.field_type f ≡ field_type P f
  pub slot : (g : Env) (e : Ex) (x : List ℕ) (c j : ℕ) → class_of (static P g e) ≡ Some c → slot_of P c x ≡ Some j → L.slot g e x ≡ Some j
  pub no_slot : (g : Env) (e : Ex) (x : List ℕ) → class_of (static P g e) ≡ None → L.slot g e x ≡ None
  -- an object of a class has each field that a class at or above it offers, each in a place of its own, and a new object holds the fields' defaults
  pub members : (c d : ℕ) (x : List ℕ) (f : ℕ) → is_concrete P c ≡ true → below P c d ≡ true → member_field P d x ≡ Some f → is_some (L.index c f) ≡ true
  pub places : (c f h i : ℕ) → L.index c f ≡ Some i → L.index c h ≡ Some i → f ≡ h
  pub fresh : (c f i : ℕ) → L.index c f ≡ Some i → (t : Ty) × (field_type P f ≡ Some t) × (slice_get (L.fresh c) i ≡ Some (default_of t))
  pub statics : (f : ℕ) (t : Ty) → field_type P f ≡ Some t → slice_get L.statics f ≡ Some (default_of t)
  -- the bodies that are found have the signatures that typing asks
  pub bodies : (c d j : ℕ) (x : List ℕ) (sig : Signature) → is_concrete P c ≡ true → below P c d ≡ true → slot_of P d x ≡ Some j
      → signature_of_slot P j ≡ Some sig → HasBody P (L.body c j) c sig
  -- a class without a constructor has none in a run; that of a class which has one is found, by its slot
  pub no_maker : (c : ℕ) → maker_of P c ≡ None → L.maker c ≡ None
  pub makers : (c m : ℕ) (sig : Signature) → is_concrete P c ≡ true → maker_of P c ≡ Some m → signature_of_method P m ≡ Some sig
      → (j : ℕ) × (L.maker c ≡ Some j) × HasBody P (L.body c j) c sig
  pub static_bodies : (m : ℕ) (sig : Signature) → has_body P m ≡ true → signature_of_method P m ≡ Some sig → HasStaticBody P (L.static_body m) sig
  pub super_bodies : (c m : ℕ) (x : List ℕ) (sig : Signature) → super_method P c x ≡ Some m → has_body P m ≡ true → signature_of_method P m ≡ Some sig
      → HasBody P (L.super_body c x) c sig
