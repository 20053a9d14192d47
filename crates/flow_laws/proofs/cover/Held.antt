-- Values that come from sets of creations, and runs that stay: what each step of a run needs.
use Rattle.std.proofs.Common.{◌≡◌, ℕ, zero, suc, List, [], ◌∷◌, ◌++◌, Option, Some, None, refl, sym, ap, ◌∙◌, subst, ⊎_elim}
use Rattle.std.specs.Prelude.{Bool, true, false, slice_get, slice_set, replicate}
use Rattle.std.specs.Option.{option_and_then}
use Rattle.std.specs.declared.result.Result.{Result}
use Rattle.std.proofs.lemmas.Option.{same_Some}
use Rattle.java_core.specs.declared.Ty.{Ty}
use Rattle.java_core.specs.declared.TyBase.{TyBase}
use Rattle.java_core.specs.declared.TyBase.TheVariants.{Int, Boolean, Char, Str, Class}
use Rattle.java_core.specs.declared.Fault.{Fault}
use Rattle.java_core.specs.declared.Fault.TheVariants as fault
use Rattle.java_core.specs.Types.{element_in}
use Rattle.java_meaning.specs.Moment.{Value, Number, Truth, CodeUnit, Nothing, Text, Object, Kind, an_object, an_array, Cell, own_class, State, End, Faulted, Going, Wrong, Escaped, Outcome, stop, step, step_of, with_some, or_fault, with_result, on_bool}
use Rattle.java_meaning.specs.Values.{default_in, widened, convert, and_argument, arguments}
use Rattle.java_meaning.specs.Meaning.{on_test, with_cell, element_type, texts}
use Rattle.flow_laws.specs.cover.Families.{Set, Sub, ArePlain}
use Rattle.flow_laws.specs.cover.Watched.{IsOf, Of}
use Rattle.flow_laws.proofs.cover.Lists.{set_stays}
use Rattle.java_meaning.proofs.Sound.{get_add, fault_has, result_has}

abbrev pub Stays : End → Type 0
Stays Escaped = ⊥
Stays _ = Unit {0}

pub of_sub : (h : List Cell) (v : Value) (X Y : Set) → Sub X Y → Of h v X → Of h v Y
of_sub h (Object a) X Y s r = record { cell = r.cell; there = r.there; member = s r.cell.site r.member }
of_sub h v X Y s r = tt

-- each object keeps its creation
pub Keeps : List Cell → List Cell → Type 0
Keeps h k = (a : ℕ) (c : Cell) → slice_get h a ≡ Some c → (d : Cell) × (slice_get k a ≡ Some d) × (d.site ≡ c.site)

pub of_kept : (h k : List Cell) (v : Value) (X : Set) → Keeps h k → Of h v X → Of k v X
unfolding Keeps
of_kept h k (Object a) X r p = let d = r a p.cell p.there in record { cell = d.0; there = d.1; member = ap X d.2 ∙ p.member }
of_kept h k v X r p = tt

pub keeps_same : (h : List Cell) → Keeps h h
unfolding Keeps
keeps_same h a c e = (c, e, refl)

pub keeps_on : (h k l : List Cell) → Keeps h k → Keeps k l → Keeps h l
unfolding Keeps
keeps_on h k l p q a c e = let d = p a c e in let f = q a d.0 d.1 in (f.0, f.1, f.2 ∙ d.2)

pub keeps_set : (h : List Cell) (a : ℕ) (c n : Cell) → slice_get h a ≡ Some c → n.site ≡ c.site → Keeps h (slice_set h a n)
unfolding Keeps
keeps_set h a c n at s b d e = ⊎_elim
    (λ p. (d, p, refl))
    (λ p. (n, p.1, s ∙ ap (λ z. z.site) (same_Some c d (sym at ∙ ap (λ x. slice_get h x) p.0 ∙ e))))
    (set_stays h a b n d e)

pub keeps_add : (h : List Cell) (n : Cell) → Keeps h (h ++ n ∷ [])
unfolding Keeps
keeps_add h n a c e = (c, get_add h n c a e, refl)

pub member_of : (h : List Cell) (a : ℕ) (c : Cell) (X : Set) → IsOf h a X → slice_get h a ≡ Some c → X c.site ≡ true
member_of h a c X o e = subst (λ z. X z.site ≡ true) (same_Some o.cell c (sym o.there ∙ e)) o.member

-- what is no object is in each set
pub plain_of : (h : List Cell) (v : Value) (X : Set) → ((a : ℕ) → v ≡ Object a → ⊥) → Of h v X
plain_of h (Object a) X p = absurd (p a refl)
plain_of h v X p = tt

pub of_widened : (h : List Cell) (b : TyBase) (d c : ℕ) (X : Set) → Of h (widened b d c) X
of_widened h Int zero c X = tt
of_widened h _ _ c X = tt

pub of_convert : (h : List Cell) (t : Ty) (v : Value) (X : Set) → Of h v X → Of h (convert t v) X
of_convert h t (Object a) X r = r
of_convert h t (Number n) X r = tt
of_convert h t (Truth n) X r = tt
of_convert h t (CodeUnit n) X r = of_widened h t.base t.dim n X
of_convert h t Nothing X r = tt
of_convert h t (Text n) X r = tt

pub default_plain : (b : TyBase) (d a : ℕ) → default_in b d ≡ Object a → ⊥
default_plain Int zero a e = cc
default_plain Boolean zero a e = cc
default_plain Char zero a e = cc
default_plain Str zero a e = cc
default_plain (Class c) zero a e = cc
default_plain _ (suc d) a e = cc

pub replicate_plain : (n : ℕ) (v : Value) → ((a : ℕ) → v ≡ Object a → ⊥) → ArePlain (replicate n v)
replicate_plain zero v p i a e = cc
replicate_plain (suc n) v p zero a e = p a (same_Some v (Object a) e)
replicate_plain (suc n) v p (suc i) a e = replicate_plain n v p i a e

pub texts_plain : (first n : ℕ) → ArePlain (texts first n)
texts_plain first zero i a e = cc
texts_plain first (suc n) zero a e = cc
texts_plain first (suc n) (suc i) a e = texts_plain (suc first) n i a e

pub own_object : (k : Kind) (t : ℕ) → own_class k ≡ Some t → k ≡ an_object t
own_object (an_object c) t e = ap (λ z. an_object z) (same_Some c t e)
own_object (an_array u) t e = absurd (cc)

pub own_array : (k : Kind) (t : Ty) → element_type k ≡ Some t → (u : Ty) × (k ≡ an_array u) × (element_in u.base u.dim ≡ Some t)
own_array (an_object c) t e = absurd (cc)
own_array (an_array u) t e = (u, refl, e)

pub in_values : (o : Option ℕ) (vs : List Value) (u : Value) → option_and_then (λ n. slice_get vs n) o ≡ Some u → (n : ℕ) × (slice_get vs n ≡ Some u)
in_values None vs u e = absurd (cc)
in_values (Some n) vs u e = (n, e)

-- values that go into sets, one after the other
abbrev pub ArgsIn : List Cell → List Value → (ℕ → Set) → Type 0
ArgsIn h [] X = Unit {0}
ArgsIn h (v ∷ vs) X = Of h v (X 0) × ArgsIn h vs (λ x. X (suc x))

pub args_convert : (h : List Cell) (ts : List Ty) (vs ws : List Value) (X : ℕ → Set) → arguments ts vs ≡ Some ws → ArgsIn h vs X → ArgsIn h ws X
args_convert h [] [] ws X e p = subst (λ z. ArgsIn h z X) (same_Some [] ws e) tt
args_convert h [] (v ∷ vs) ws X e p = absurd (cc)
args_convert h (t ∷ ts) [] ws X e p = absurd (cc)
args_convert h (t ∷ ts) (v ∷ vs) ws X e p = go (arguments ts vs) e (λ us d. args_convert h ts vs us (λ x. X (suc x)) d p.1)
  where
    go : (o : Option (List Value)) → and_argument (convert t v) o ≡ Some ws → ((us : List Value) → o ≡ Some us → ArgsIn h us (λ x. X (suc x))) → ArgsIn h ws X
    go None e q = absurd (cc)
    go (Some us) e q = subst (λ z. ArgsIn h z X) (same_Some (convert t v ∷ us) ws e) (of_convert h t v (X 0) p.0, q us refl)

-- and are then in the locals, before those that begin plain
pub args_locals : (h : List Cell) (ws rest : List Value) (X : ℕ → Set) → ArgsIn h ws X → ArePlain rest → (x : ℕ) (v : Value)
    → slice_get (ws ++ rest) x ≡ Some v → Of h v (X x)
args_locals h [] rest X p free x v e = plain_of h v (X x) (λ a d. free x a (e ∙ ap (λ z. Some z) d))
args_locals h (w ∷ ws) rest X p free zero v e = subst (λ z. Of h z (X 0)) (same_Some w v e) p.0
args_locals h (w ∷ ws) rest X p free (suc x) v e = args_locals h ws rest (λ y. X (suc y)) p.1 free x v e

pub args_get : (h : List Cell) (ws : List Value) (X : ℕ → Set) → ArgsIn h ws X → (x : ℕ) (v : Value) → slice_get ws x ≡ Some v → Of h v (X x)
args_get h [] X p x v e = absurd (cc)
args_get h (w ∷ ws) X p zero v e = subst (λ z. Of h z (X 0)) (same_Some w v e) p.0
args_get h (w ∷ ws) X p (suc x) v e = args_get h ws (λ y. X (suc y)) p.1 x v e

pub record Fine (o : Outcome) : Type 0 where
  pub stays : Stays o.end

pub fine_stop : (e : End) (s : State) → Stays e → Fine (stop e s)
fine_stop e s h = record { stays = h }

pub bool_fine : (z : Bool) (s : State) (x y : State → Outcome) → (z ≡ true → Fine (x s)) → Fine (y s) → Fine (on_bool z s x y)
bool_fine true s x y h d = h refl
bool_fine false s x y h d = d

pub test_fine : (v : Value) (s : State) (x y : State → Outcome) → Fine (x s) → Fine (y s) → Fine (on_test v s x y)
test_fine (Truth z) s x y h d = bool_fine z s x y (λ e. h) d
test_fine v s x y h d = fine_stop Wrong s tt

pub some_fine : {A : Type 0} (o : Option A) (s : State) (k : A → Outcome) → ((a : A) → o ≡ Some a → Fine (k a)) → Fine (with_some o s k)
some_fine None s k h = fine_stop Wrong s tt
some_fine (Some a) s k h = h a refl

pub fault_fine : {A : Type 0} (x : Fault) (o : Option A) (s : State) (k : A → Outcome) → ((a : A) → o ≡ Some a → Fine (k a)) → Fine (or_fault x o s k)
fault_fine x o s k h = fault_has Fine x o s k (fine_stop (Faulted x) s tt) h

pub result_fine : {A : Type 0} (o : Result A Fault) (s : State) (k : A → Outcome) → ((a : A) → Fine (k a)) → Fine (with_result o s k)
result_fine o s k h = result_has Fine o s k (λ x. fine_stop (Faulted x) s tt) h

pub step_of_fine : (n : ℕ) (s : State) (k : State → Outcome) → ((m : ℕ) → Fine (k (record s { left = m }))) → Fine (step_of n s k)
step_of_fine zero s k h = fine_stop Going s tt
step_of_fine (suc n) s k h = h n

pub step_fine : (s : State) (k : State → Outcome) → ((m : ℕ) → Fine (k (record s { left = m }))) → Fine (step s k)
step_fine s k h = step_of_fine s.left s k h

pub cell_fine : (v : Value) (X : Set) (s : State) (k : ℕ → Cell → Outcome) → Of s.cells v X → ((a : ℕ) (c : Cell) → slice_get s.cells a ≡ Some c
    → X c.site ≡ true → Fine (k a c)) → Fine (with_cell v s k)
cell_fine Nothing X s k q h = fine_stop (Faulted fault.Null) s tt
cell_fine (Object a) X s k q h = some_fine (slice_get s.cells a) s (λ c. k a c) (λ c e. h a c e (member_of s.cells a c X q e))
cell_fine v X s k q h = fine_stop Wrong s tt
