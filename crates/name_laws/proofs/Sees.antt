-- What the tables of the declarations have to say of an outline, so that what a body sees in them is what its names mean.
use Rattle.std.proofs.Common.{◌≡◌, ℕ, Bool, true, false, List, [], ◌∷◌, Option, Some, None, Result, Ok, Err, refl, ap}
use Rattle.std.specs.Prelude.{slice_get}
use Rattle.std.specs.Option.{is_some}
use Rattle.std.specs.Str.{bytes_eq}
use Rattle.kaba_base.specs.declared.ClassId.{ClassId}
use Rattle.java_core.specs.declared.Field.{Field}
use Rattle.java_core.specs.Programs.{Plain, PlainClass, PlainField, PlainMethod}
use Rattle.java_core.specs.Classes.{parent_of, own_field_of, field_of}
use Rattle.java_core.specs.Makers.{maker_of}
use Rattle.name_rules.specs.declared.Refusal.{Refusal}
use Rattle.name_laws.specs.declared.parts.Heading.{Heading}
use Rattle.name_rules.specs.declared.parts.Bound.{Bound}
use Rattle.name_laws.specs.Answers.{with}
use Rattle.name_laws.specs.Names.{number_of}
use Rattle.name_laws.specs.Tables as table
use Rattle.name_laws.specs.Resolved.{class_name_in, has_maker_in}
use Rattle.name_laws.specs.Tables.{Table, nearest_field, own_field, own_method, method_met}
use Rattle.name_rules.specs.Meanings.{local_of}
use Rattle.name_rules.specs.Meanings.{class_named, is_bound, bound_names, IsStaticMethodOf, IsMet, IsFirstMethod}

-- a field as a table and as an outline have it
pub record SameField (x : Field) (k : PlainField) : Type 0 where
  pub owner : k.owner ≡ x.owner.0
  pub static : k.is_static ≡ x.is_static

-- a method as a table and as an outline have it
pub record SameMethod (h : Heading) (k : PlainMethod) : Type 0 where
  pub owner : k.owner ≡ h.owner
  pub name : k.name ≡ h.name
  pub static : k.is_static ≡ h.is_static

-- what has this number stands in both, and is the same
pub record StandsInBoth {A B : Type 0} (Same : A → B → Type 0) (seen_items : List A) (members : List B) (n : ℕ) : Type 0 where
  pub seen : A
  pub member : B
  pub seen_stands : slice_get seen_items n ≡ Some seen
  pub stands : slice_get members n ≡ Some member
  pub same : Same seen member

abbrev pub StandsField : Table → Plain → ℕ → Type 0
StandsField t O f = StandsInBoth SameField t.fields O.fields f

abbrev pub StandsMethod : Table → Plain → ℕ → Type 0
StandsMethod t O m = StandsInBoth SameMethod t.headings O.methods m

pub record OwnMethod (t : Table) (O : Plain) (c : ℕ) (n : List ℕ) (m : ℕ) : Type 0 where
  pub at : StandsMethod t O m
  pub owner : at.member.owner ≡ c
  pub name : at.member.name ≡ n

-- a method that is met: a static one is the one that is found first, and for an instance method an instance method is found first
pub record MetMethod (t : Table) (O : Plain) (c : ℕ) (n : List ℕ) (m : ℕ) : Type 0 where
  pub at : StandsMethod t O m
  pub static : at.member.is_static ≡ true → IsFirstMethod O c n m at.member
  pub instance : at.member.is_static ≡ false → (l : ℕ) × (h : PlainMethod) × IsFirstMethod O c n l h × (h.is_static ≡ false)

pub record Sees (t : Table) (O : Plain) : Type 0 where
  pub types : (n : List ℕ) → number_of t.known n ≡ class_named O n
  pub nearest : (c : ℕ) (n : List ℕ) → nearest_field t c n ≡ field_of O c n
  pub nearest_stands : (c : ℕ) (n : List ℕ) (f : ℕ) → field_of O c n ≡ Some f → StandsField t O f
  pub own : (c : ℕ) (n : List ℕ) → own_field t c n ≡ own_field_of O c n
  pub own_stands : (c : ℕ) (n : List ℕ) (f : ℕ) → own_field_of O c n ≡ Some f → StandsField t O f
  pub own_found : (c : ℕ) (n : List ℕ) (m : ℕ) → own_method t c n ≡ Some m → OwnMethod t O c n m
  pub own_only : (c : ℕ) (n : List ℕ) (m : ℕ) → IsStaticMethodOf O c n m → own_method t c n ≡ Some m
  pub met : (c : ℕ) (n : List ℕ) (m : ℕ) → method_met t c n ≡ Some m → MetMethod t O c n m
  pub met_none : (c : ℕ) (n : List ℕ) → method_met t c n ≡ None → (m : ℕ) (k : PlainMethod) → IsMet O c n m k → ⊥
  pub parents : (c : ℕ) → table.parent_of t.parents c ≡ parent_of O c
  pub above : (c : ℕ) (b : ClassId) → parent_of O c ≡ Some b → (k : PlainClass) × (slice_get O.classes b.0 ≡ Some k)
  pub class_name : (c : ℕ) (k : PlainClass) → slice_get O.classes c ≡ Some k → class_name_in t c ≡ k.name
  pub maker : (c : ℕ) (k : PlainClass) → slice_get O.classes c ≡ Some k → has_maker_in t c ≡ is_some (maker_of O c)

-- a result tells the one of what it gives, the other of its refusal
abbrev pub Tells : {A : Type 0} → (A → Type 0) → (Refusal → Type 0) → Result A Refusal → Type 0
Tells P F (Ok a) = P a
Tells P F (Err r) = F r

-- what follows from a part tells of the whole
pub tell : {A B : Type 0} {P : A → Type 0} {F : Refusal → Type 0} (Q : B → Type 0) (G : Refusal → Type 0) (w : Result A Refusal) (go : A → Result B Refusal) →
    Tells P F w → ((a : A) → P a → Tells Q G (go a)) → ((r : Refusal) → F r → G r) → Tells Q G (with w go)
tell Q G (Ok a) go h good bad = good a h
tell Q G (Err r) go h good bad = bad r h

-- ---- names in scope

pub bound-local : (scope : List Bound) (n : List ℕ) (i : ℕ) → local_of n scope ≡ Some i → is_bound (bound_names scope) n ≡ true
bound-local [] n i e = absurd (cc e)
bound-local (b ∷ bs) n i e = go (bytes_eq b.name n) refl (bound-local bs n i)
  where
    go : (c : Bool) → bytes_eq b.name n ≡ c → (local_of n bs ≡ Some i → is_bound (bound_names bs) n ≡ true) → is_bound (bound_names (b ∷ bs)) n ≡ true
    go true h more = rw h refl
    go false h more = rw h (more (rw h at e))

pub unbound-local : (scope : List Bound) (n : List ℕ) → local_of n scope ≡ None → is_bound (bound_names scope) n ≡ false
unbound-local [] n e = refl
unbound-local (b ∷ bs) n e = go (bytes_eq b.name n) refl (unbound-local bs n)
  where
    go : (c : Bool) → bytes_eq b.name n ≡ c → (local_of n bs ≡ None → is_bound (bound_names bs) n ≡ false) → is_bound (bound_names (b ∷ bs)) n ≡ false
    go true h more = absurd (cc (let f : Some b.number ≡ None = rw h at e in f))
    go false h more = rw h (more (rw h at e))

pub same_some : {A : Type 0} {a b : A} → ◌≡◌ {A = Option A} (Some a) (Some b) → a ≡ b
same_some {A} {a} {b} e = ap (λ o. elim o [ Some x ↦ x | None ↦ a ]) e

-- what is told, told otherwise
pub turn : {A : Type 0} {P Q : A → Type 0} {F G : Refusal → Type 0} (w : Result A Refusal) → Tells P F w → ((a : A) → P a → Q a)
    → ((r : Refusal) → F r → G r) → Tells Q G w
turn (Ok a) h good bad = good a h
turn (Err r) h good bad = bad r h
