-- Two states that are the same but for classes and places, and ends that agree.
use Rattle.std.proofs.Common.{◌≡◌, ℕ, zero, suc, List, [], ◌∷◌, ◌++◌, Option, Some, None, length, refl, sym, ap, ◌∙◌, subst, ⊎_elim}
use Rattle.std.specs.Prelude.{◌≢◌, Bool, true, false, slice_get, slice_set}
use Rattle.std.specs.Option.{option_map, option_and_then}
use Rattle.std.specs.declared.result.Result.{Result}
use Rattle.std.specs.declared.result.Result.TheVariants.{Ok, Err}
use Rattle.std.proofs.lemmas.Bool.{cases_eq}
use Rattle.std.proofs.lemmas.Option.{same_Some}
use Rattle.java_core.specs.declared.Ty.{Ty}
use Rattle.java_core.specs.declared.Fault.{Fault}
use Rattle.java_core.specs.declared.Fault.TheVariants as fault
use Rattle.java_core.specs.Types.{Env}
use Rattle.java_meaning.specs.Moment.{Value, Number, Truth, CodeUnit, Nothing, Text, Object, Kind, an_object, an_array, Cell, self_of, bound, set_static, Met, State, Frame, End, Faulted, Going, Wrong, Escaped, Outcome, stop, unnoted, Lang, step, step_of, with_some, or_fault, with_result, on_bool}
use Rattle.java_meaning.specs.Meaning.{Flow, ToValue, ToFlow, on_test, with_cell}
use Rattle.java_meaning.proofs.Sound.{get_set_other, get_set_there}
use Rattle.flow_laws.specs.cover.Families.{Set}
use Rattle.flow_laws.specs.cover.Watched.{Of}
use Rattle.flow_laws.proofs.cover.Lists.{set_cases}
use Rattle.flow_laws.proofs.cover.Held.{Keeps, of_kept, keeps_on, keeps_set, keeps_add}
use Rattle.rebuild_laws.specs.twins.Twins.{shape_of, Link, value_at}
use Rattle.rebuild_laws.proofs.twins.Shapes.{shape_there}

-- the outcomes are one but for what they noted, unless the first is wrong or escapes
unfoldable pub Alike : Outcome → Outcome → Type 0
Alike o p = o.end ≢ Wrong → o.end ≢ Escaped → unnoted o ≡ unnoted p

pub wrong_first : (s : State) (p : Outcome) → Alike (stop Wrong s) p
unfolding Alike
wrong_first s p a b = absurd (a refl)

pub escaped_first : (s : State) (p : Outcome) → Alike (stop Escaped s) p
unfolding Alike
escaped_first s p a b = absurd (b refl)

pub ends_alike : (e : End) (s t : State) → s.out ≡ t.out → s.left ≡ t.left → Alike (stop e s) (stop e t)
unfolding Alike
ends_alike e s t o l a b = λ i. record { end = e; out = o i; left = l i; met = [] }

-- what is there in the first, and in the second
pub first_some : {A : Type 0} (o : Option A) (s : State) (k : A → Outcome) (q : Outcome) → ((a : A) → o ≡ Some a → Alike (k a) q) → Alike (with_some o s k) q
first_some None s k q h = wrong_first s q
first_some (Some a) s k q h = h a refl

pub second_some : {A : Type 0} (o : Option A) (a : A) (t : State) (q : Outcome) (j : A → Outcome) → o ≡ Some a → Alike q (j a) → Alike q (with_some o t j)
second_some o a t q j e h = subst (λ z. Alike q (with_some z t j)) (sym e) h

-- what is one in both
pub equals_at : {A : Type 0} (o p : Option A) (s t : State) (k j : A → Outcome) → o ≡ p → ((a : A) → o ≡ Some a → Alike (k a) (j a))
    → Alike (with_some o s k) (with_some p t j)
equals_at o p s t k j e h = first_some o s k (with_some p t j) (λ a f. second_some p a t (k a) j (sym e ∙ f) (h a f))

pub equals : {A : Type 0} (o p : Option A) (s t : State) (k j : A → Outcome) → o ≡ p → ((a : A) → Alike (k a) (j a)) → Alike (with_some o s k) (with_some p t j)
equals o p s t k j e h = equals_at o p s t k j e (λ a f. h a)

-- types of one shape
pub shapes : (o p : Option Ty) (s t : State) (k j : Ty → Outcome) → option_map shape_of o ≡ option_map shape_of p
    → ((a b : Ty) → o ≡ Some a → p ≡ Some b → shape_of a ≡ shape_of b → Alike (k a) (j b)) → Alike (with_some o s k) (with_some p t j)
shapes o p s t k j e h = first_some o s k (with_some p t j) (λ a f. let b = shape_there o p a e f in second_some p b.0 t (k a) j b.1 (h a b.0 f b.1 b.2))

-- a test that the first passes
pub passed : (b c : Bool) (s t : State) (x z : State → Outcome) → (b ≡ true → c ≡ true) → Alike (x s) (z t)
    → Alike (on_bool b s x (stop Wrong)) (on_bool c t z (stop Wrong))
passed false c s t x z h d = wrong_first s (on_bool c t z (stop Wrong))
passed true c s t x z h d = subst (λ w. Alike (x s) (on_bool w t z (stop Wrong))) (sym (h refl)) d

pub bools : (b c : Bool) (s t : State) (x y z w : State → Outcome) → b ≡ c → (b ≡ true → Alike (x s) (z t)) → (b ≡ false → Alike (y s) (w t))
    → Alike (on_bool b s x y) (on_bool c t z w)
bools b c s t x y z w e h d = subst (λ a. Alike (on_bool b s x y) (on_bool a t z w)) e (go b h d)
  where
    go : (b : Bool) → (b ≡ true → Alike (x s) (z t)) → (b ≡ false → Alike (y s) (w t)) → Alike (on_bool b s x y) (on_bool b t z w)
    go true h d = h refl
    go false h d = d refl

pub tests : (v : Value) (s t : State) (x y z w : State → Outcome) → Alike (x s) (z t) → Alike (y s) (w t) → Alike (on_test v s x y) (on_test v t z w)
tests (Truth b) s t x y z w h d = bools b b s t x y z w refl (λ e. h) (λ e. d)
tests (Number n) s t x y z w h d = wrong_first s (stop Wrong t)
tests (CodeUnit c) s t x y z w h d = wrong_first s (stop Wrong t)
tests Nothing s t x y z w h d = wrong_first s (stop Wrong t)
tests (Text a) s t x y z w h d = wrong_first s (stop Wrong t)
tests (Object a) s t x y z w h d = wrong_first s (stop Wrong t)

-- the value of a field, by its place
pub at_place : (L : Lang) (c f i : ℕ) (vs : List Value) (u : Value) → L.index c f ≡ Some i → slice_get vs i ≡ Some u → value_at L c f vs ≡ Some u
at_place L c f i vs u e d = ap (λ z. option_and_then (λ n. slice_get vs n) z) e ∙ d

set_other : (L : Lang) (c f i : ℕ) (vs : List Value) (u : Value) → (L.index c f ≡ Some i → ⊥) → value_at L c f (slice_set vs i u) ≡ value_at L c f vs
set_other L c f i vs u ne = go (L.index c f) ne
  where
    go : (o : Option ℕ) → (o ≡ Some i → ⊥) → option_and_then (λ n. slice_get (slice_set vs i u) n) o ≡ option_and_then (λ n. slice_get vs n) o
    go None h = refl
    go (Some m) h = get_set_other vs i m u (λ e. h (ap (λ z. Some z) (sym e)))

abbrev pub frame : Env → Value → List Value → Frame
frame g v ls = record { env = g; self = v; locals = ls }

module _ (L M : Lang) (K : Link) (Made : Option ℕ → Kind → Kind → Type 0) where
  -- the values of two objects by the fields that the creation keeps; those of two arrays are equal
  pub data SameValues (o : Option ℕ) : Kind → Kind → List Value → List Value → Type 0 where
    same_fields : {c k : ℕ} {xs ys : List Value} → ((f : ℕ) → K.has o f ≡ true → value_at L c f xs ≡ value_at M k (K.new_field f) ys)
        → SameValues o (an_object c) (an_object k) xs ys
    same_elements : {t u : Ty} {xs : List Value} → shape_of t ≡ shape_of u → SameValues o (an_array t) (an_array u) xs xs

  pub record SameCell (c d : Cell) : Type 0 where
    pub made : Made c.site c.kind d.kind
    pub values : SameValues c.site c.kind d.kind c.values d.values

  pub data Cells : List Cell → List Cell → Type 0 where
    no_cells : Cells [] []
    more_cells : {c d : Cell} {h k : List Cell} → SameCell c d → Cells h k → Cells (c ∷ h) (d ∷ k)

  -- a cell of the second in one place with one of the first
  pub record HasCell (k : List Cell) (a : ℕ) (c : Cell) : Type 0 where
    pub cell : Cell
    pub there : slice_get k a ≡ Some cell
    pub same : SameCell c cell

  cells_get : {h k : List Cell} → Cells h k → (a : ℕ) (c : Cell) → slice_get h a ≡ Some c → HasCell k a c
  cells_get no_cells a c e = absurd (cc)
  cells_get (more_cells {c = x} {d = y} r rs) zero c e = record { cell = y; there = refl; same = subst (λ z. SameCell z y) (same_Some x c e) r }
  cells_get (more_cells r rs) (suc a) c e = let d = cells_get rs a c e in record { cell = d.cell; there = d.there; same = d.same }

  cells_set : {h k : List Cell} (c d : Cell) → Cells h k → (a : ℕ) → SameCell c d → Cells (slice_set h a c) (slice_set k a d)
  cells_set c d no_cells a r = no_cells
  cells_set c d (more_cells q qs) zero r = more_cells r qs
  cells_set c d (more_cells q qs) (suc a) r = more_cells q (cells_set c d qs a r)

  cells_add : {h k : List Cell} (c d : Cell) → Cells h k → SameCell c d → Cells (h ++ c ∷ []) (k ++ d ∷ [])
  cells_add c d no_cells r = more_cells r no_cells
  cells_add c d (more_cells q qs) r = more_cells q (cells_add c d qs r)

  cells_length : {h k : List Cell} → Cells h k → length h ≡ length k
  cells_length no_cells = refl
  cells_length (more_cells q qs) = ap suc (cells_length qs)

  pub record SameState (s t : State) : Type 0 where
    pub cells : Cells s.cells t.cells
    pub strings : s.strings ≡ t.strings
    pub statics : (f : ℕ) → K.is_static f ≡ true → slice_get s.statics f ≡ slice_get t.statics (K.new_static f)
    pub held : (f : ℕ) (v : Value) → slice_get s.statics f ≡ Some v → Of s.cells v (K.may (set_static f))
    pub out : s.out ≡ t.out
    pub left : s.left ≡ t.left

  -- what `this` and the locals of a body of the first hold may be there
  pub record HeldIn (g : Env) (h : List Cell) (v : Value) (ls : List Value) : Type 0 where
    pub self : Of h v (K.may (self_of g.body))
    pub locals : (x : ℕ) (u : Value) → slice_get ls x ≡ Some u → Of h u (K.may (bound g.body x))

  pub held_kept : (g : Env) (h k : List Cell) (v : Value) (ls : List Value) → Keeps h k → HeldIn g h v ls → HeldIn g k v ls
  held_kept g h k v ls q p = record {
    self = of_kept h k v (K.may (self_of g.body)) q p.self;
    locals = λ x u e. of_kept h k u (K.may (bound g.body x)) q (p.locals x u e);
  }

  pub held_set : (g : Env) (h : List Cell) (v : Value) (ls : List Value) (x : ℕ) (u : Value) → HeldIn g h v ls → Of h u (K.may (bound g.body x))
      → HeldIn g h v (slice_set ls x u)
  held_set g h v ls x u p q = record {
    self = p.self;
    locals = λ y w e. ⊎_elim
        (λ s. subst (λ z. Of h z (K.may (bound g.body y))) s.1 (subst (λ z. Of h u (K.may (bound g.body z))) s.0 q))
        (λ d. p.locals y w d)
        (set_cases ls x y u w e);
  }

  -- ways to go on from states that have grown from cells
  abbrev pub KV : List Cell → Set → ToValue → ToValue → Type 0
  KV h X k j = (v : Value) (s t : State) → SameState s t → Keeps h s.cells → Of s.cells v X → Alike (k v s) (j v t)

  abbrev pub KS : List Cell → (State → Outcome) → (State → Outcome) → Type 0
  KS h k j = (s t : State) → SameState s t → Keeps h s.cells → Alike (k s) (j t)

  abbrev pub KF : Env → Env → List Cell → ToFlow → ToFlow → Type 0
  KF g d h k j = (w : Flow) (v : Value) (ls : List Value) (s t : State) → SameState s t → Keeps h s.cells → HeldIn g s.cells v ls
      → Alike (k w (frame g v ls) s) (j w (frame d v ls) t)

  pub kv_on : (h l : List Cell) (X : Set) (k j : ToValue) → Keeps h l → KV h X k j → KV l X k j
  kv_on h l X k j q f v s t r p o = f v s t r (keeps_on h l s.cells q p) o

  pub kf_on : (g d : Env) (h l : List Cell) (k j : ToFlow) → Keeps h l → KF g d h k j → KF g d l k j
  kf_on g d h l k j q f w v ls s t r p o = f w v ls s t r (keeps_on h l s.cells q p) o

  -- states that differ in what was noted and in the steps left
  pub noted : (s t : State) (m n : List Met) → SameState s t → SameState (record s { met = m }) (record t { met = n })
  noted s t m n r = record { cells = r.cells; strings = r.strings; statics = r.statics; held = r.held; out = r.out; left = r.left }

  pub stepped : (s t : State) (n : ℕ) → SameState s t → SameState (record s { left = n }) (record t { left = n })
  stepped s t n r = record { cells = r.cells; strings = r.strings; statics = r.statics; held = r.held; out = r.out; left = refl }

  pub printed : (s t : State) (u : List ℕ) → SameState s t → SameState (record s { out = s.out ++ u }) (record t { out = t.out ++ u })
  printed s t u r = record { cells = r.cells; strings = r.strings; statics = r.statics; held = r.held; out = ap (λ z. z ++ u) r.out; left = r.left }

  pub with_string : (s t : State) (u : List ℕ) → SameState s t
      → SameState (record s { strings = s.strings ++ u ∷ [] }) (record t { strings = t.strings ++ u ∷ [] })
  with_string s t u r = record { cells = r.cells; strings = ap (λ z. z ++ u ∷ []) r.strings; statics = r.statics; held = r.held; out = r.out; left = r.left }

  pub with_set : (s t : State) (a : ℕ) (c n m : Cell) → SameState s t → slice_get s.cells a ≡ Some c → n.site ≡ c.site → SameCell n m
      → SameState (record s { cells = slice_set s.cells a n }) (record t { cells = slice_set t.cells a m })
  with_set s t a c n m r at e q = record {
    cells = cells_set n m r.cells a q;
    strings = r.strings;
    statics = r.statics;
    held = λ f v d. of_kept s.cells (slice_set s.cells a n) v (K.may (set_static f)) (keeps_set s.cells a c n at e) (r.held f v d);
    out = r.out;
    left = r.left;
  }

  pub with_added : (s t : State) (n m : Cell) → SameState s t → SameCell n m
      → SameState (record s { cells = s.cells ++ n ∷ [] }) (record t { cells = t.cells ++ m ∷ [] })
  with_added s t n m r q = record {
    cells = cells_add n m r.cells q;
    strings = r.strings;
    statics = r.statics;
    held = λ f v d. of_kept s.cells (s.cells ++ n ∷ []) v (K.may (set_static f)) (keeps_add s.cells n) (r.held f v d);
    out = r.out;
    left = r.left;
  }

  pub cells_at : (a : ℕ) (s t : State) (k j : Cell → Outcome) → SameState s t → ((c d : Cell) → slice_get s.cells a ≡ Some c → SameCell c d → Alike (k c) (j d))
      → Alike (with_some (slice_get s.cells a) s k) (with_some (slice_get t.cells a) t j)
  cells_at a s t k j r h =
      first_some (slice_get s.cells a) s k (with_some (slice_get t.cells a) t j)
      (λ c e. let d = cells_get r.cells a c e in second_some (slice_get t.cells a) d.cell t (k c) j d.there (h c d.cell e d.same))

  pub same_length : (s t : State) → SameState s t → length s.cells ≡ length t.cells
  same_length s t r = cells_length r.cells

  -- a static field is set in both
  pub with_static : (s t : State) (f j : ℕ) (old new u : Value) → ((k : ℕ) → K.is_static k ≡ true → K.new_static k ≡ K.new_static f → k ≡ f)
      → j ≡ K.new_static f → SameState s t
      → slice_get s.statics f ≡ Some old → slice_get t.statics j ≡ Some new → Of s.cells u (K.may (set_static f))
      → SameState (record s { statics = slice_set s.statics f u }) (record t { statics = slice_set t.statics j u })
  with_static s t f j old new u apart at r e d o = record {
    cells = r.cells;
    strings = r.strings;
    statics = λ k h. ⊎_elim (λ q. here k q) (λ ne. other k h ne) (cases_eq k f);
    held = λ k v q. ⊎_elim
        (λ p. subst (λ z. Of s.cells z (K.may (set_static k))) p.1 (subst (λ z. Of s.cells u (K.may (set_static z))) p.0 o))
        (λ p. r.held k v p)
        (set_cases s.statics f k u v q);
    out = r.out;
    left = r.left;
  }
    where
      here : (k : ℕ) → k ≡ f → slice_get (slice_set s.statics f u) k ≡ slice_get (slice_set t.statics j u) (K.new_static k)
      here k q =
          subst (λ z. slice_get (slice_set s.statics f u) z ≡ slice_get (slice_set t.statics j u) (K.new_static z)) (sym q)
          (get_set_there s.statics f u old e ∙ sym (subst (λ z. slice_get (slice_set t.statics j u) z ≡ Some u) at (get_set_there t.statics j u new d)))

      other : (k : ℕ) → K.is_static k ≡ true → k ≢ f → slice_get (slice_set s.statics f u) k ≡ slice_get (slice_set t.statics j u) (K.new_static k)
      other k h ne =
          get_set_other s.statics f k u (λ z. ne (sym z)) ∙ r.statics k h
          ∙ sym (get_set_other t.statics j (K.new_static k) u (λ z. ne (apart k h (sym z ∙ at))))

  -- a field of an object is set in both
  pub fields_set : (o : Option ℕ) (c k f g i m : ℕ) (xs ys : List Value) (old new u : Value)
      → ((x y n : ℕ) → L.index x y ≡ Some n → L.index x f ≡ Some n → y ≡ f) → ((x y n : ℕ) → M.index x y ≡ Some n → M.index x g ≡ Some n → y ≡ g)
      → ((y : ℕ) → K.has o y ≡ true → K.new_field y ≡ K.new_field f → y ≡ f) → g ≡ K.new_field f
      → ((y : ℕ) → K.has o y ≡ true → value_at L c y xs ≡ value_at M k (K.new_field y) ys)
      → L.index c f ≡ Some i → M.index k g ≡ Some m → slice_get xs i ≡ Some old → slice_get ys m ≡ Some new
      → (y : ℕ) → K.has o y ≡ true → value_at L c y (slice_set xs i u) ≡ value_at M k (K.new_field y) (slice_set ys m u)
  fields_set o c k f g i m xs ys old new u places places2 apart at same ei em eo en y hy = ⊎_elim here other (cases_eq y f)
    where
      here : y ≡ f → value_at L c y (slice_set xs i u) ≡ value_at M k (K.new_field y) (slice_set ys m u)
      here q =
          subst (λ z. value_at L c z (slice_set xs i u) ≡ value_at M k (K.new_field z) (slice_set ys m u)) (sym q)
          (at_place L c f i (slice_set xs i u) u ei (get_set_there xs i u old eo)
          ∙ sym (subst (λ z. value_at M k z (slice_set ys m u) ≡ Some u) at (at_place M k g m (slice_set ys m u) u em (get_set_there ys m u new en))))

      other : y ≢ f → value_at L c y (slice_set xs i u) ≡ value_at M k (K.new_field y) (slice_set ys m u)
      other ne =
          set_other L c y i xs u (λ q. ne (places c y i q ei)) ∙ same y hy
          ∙ sym (set_other M k (K.new_field y) m ys u (λ q. ne (apart y hy (places2 k (K.new_field y) m q em ∙ at))))

  pub ended : (e : End) (s t : State) → SameState s t → Alike (stop e s) (stop e t)
  ended e s t r = ends_alike e s t r.out r.left

  pub faults : {A : Type 0} (x : Fault) (o : Option A) (s t : State) (k j : A → Outcome) → SameState s t → ((a : A) → o ≡ Some a → Alike (k a) (j a))
      → Alike (or_fault x o s k) (or_fault x o t j)
  faults x None s t k j r h = ended (Faulted x) s t r
  faults x (Some a) s t k j r h = h a refl

  pub results : {A : Type 0} (o : Result A Fault) (s t : State) (k j : A → Outcome) → SameState s t → ((a : A) → Alike (k a) (j a))
      → Alike (with_result o s k) (with_result o t j)
  results (Err x) s t k j r h = ended (Faulted x) s t r
  results (Ok a) s t k j r h = h a

  pub steps : (s t : State) (k j : State → Outcome) → SameState s t
      → ((n : ℕ) → SameState (record s { left = n }) (record t { left = n }) → Alike (k (record s { left = n })) (j (record t { left = n })))
      → Alike (step s k) (step t j)
  steps s t k j r h = subst (λ n. Alike (step s k) (step_of n t j)) r.left (go s.left)
    where
      go : (n : ℕ) → Alike (step_of n s k) (step_of n t j)
      go zero = ended Going s t r
      go (suc n) = h n (stepped s t n r)

  pub with_cells : (v : Value) (s t : State) (k j : ℕ → Cell → Outcome) → SameState s t
      → ((a : ℕ) (c d : Cell) → v ≡ Object a → slice_get s.cells a ≡ Some c → SameCell c d → Alike (k a c) (j a d))
      → Alike (with_cell v s k) (with_cell v t j)
  with_cells Nothing s t k j r h = ended (Faulted fault.Null) s t r
  with_cells (Object a) s t k j r h = cells_at a s t (k a) (j a) r (λ c d e same. h a c d refl e same)
  with_cells (Number n) s t k j r h = wrong_first s (stop Wrong t)
  with_cells (Truth b) s t k j r h = wrong_first s (stop Wrong t)
  with_cells (CodeUnit c) s t k j r h = wrong_first s (stop Wrong t)
  with_cells (Text a) s t k j r h = wrong_first s (stop Wrong t)
