-- Mirror. What is answered of the classes for 64 slots at a time: bit i of the word of a class is for the slot 64 b +
-- i.
use Rattle.std.specs.Prelude.{◌≡◌, ℕ, ◌+◌, ◌*◌, ◌/◌, ◌<◌, ◌==◌, ◌&&◌, ◌||◌, Bool, true, false, not, List, [], ◌∷◌, Contains, Option, Some, None, slice_get, slice_index_or, bit_or, bit_and}
use Rattle.std.specs.Option.{option_map_or, is_some}
use Rattle.std.specs.Int.{bit_at}
use Rattle.kaba_base.specs.declared.ClassId.{ClassId}
use Rattle.java_core.specs.declared.Method.{Method}
use Rattle.java_core.specs.Programs.{Plain, PlainMethod, program_of}
use Rattle.java_core.specs.Formed.{IsFormed}
use Rattle.java_core.specs.Classes.{parent_of, faces_of, has_slot, below, nearest_declaration, is_concrete, is_interface}
use Rattle.java_check.specs.ClassOutcome.{method_rule}
use Rattle.java_check.specs.declared.tables.Batch.{Batch}
use Rattle.java_check.specs.declared.tables.Asked.{Asked}
use Rattle.java_check.specs.declared.tables.Asked.TheVariants.{Bodied, Bare, Public, Hidden, Faced}
use Rattle.java_check.specs.declared.slots.Found.{Found}

-- the number under which the methods of 64 slots are listed; those without a slot come behind all slots
abbrev pub batch_place : ℕ → Option ℕ → ℕ
batch_place slots None = slots / 64 + 1
batch_place slots (Some s) = s / 64

-- the number under which a method is listed, by its slot
abbrev pub method_batch : ℕ → Method → ℕ
method_batch slots m = batch_place slots m.slot

-- whether bit i of a word is set
abbrev pub bit : ℕ → ℕ → Bool
bit w i = bit_at w i == 1

-- each of 64 bits that is set in one word is set in the other
abbrev pub IsWordWithin : ℕ → ℕ → Type 0
IsWordWithin a b = (i : ℕ) → i < 64 → bit a i ≡ true → bit b i ≡ true

-- the same as a test of the whole words
abbrev pub is_within : ℕ → ℕ → Bool
is_within a b = bit_or a b == b

-- the word in which all bits are set
abbrev pub full : ℕ
full = 18446744073709551615

-- the word of a class in a table; where there is none, all bits are set
abbrev pub word_at : List ℕ → ℕ → ℕ
word_at table c = slice_index_or table c full

-- the same where no bit is set of a class that has no word
abbrev pub own_at : List ℕ → ℕ → ℕ
own_at table c = slice_index_or table c 0

-- whether a method is what is asked
abbrev pub answers : Plain → Asked → PlainMethod → Bool
answers P Bodied k = is_some k.body
answers P Bare k = not (is_some k.body)
answers P Public k = k.is_public
answers P Hidden k = not k.is_public
answers P Faced k = is_interface P k.owner && not (is_some k.body)

-- whether the method m is one that c declares for the slot s, and what is asked
abbrev pub says : Plain → Asked → ℕ → ℕ → ℕ → Bool
says P q c s m = option_map_or (λ k. has_slot c s k && answers P q k) (slice_get P.methods m) false

-- the methods of 64 slots are among these
abbrev pub AreMethodsListed : Plain → ℕ → List ℕ → Type 0
AreMethodsListed P b ms = (m i : ℕ) (k : PlainMethod) → slice_get P.methods m ≡ Some k → i < 64 → k.slot ≡ Some (64 * b + i) → Contains ms m

-- a formed program, and each of its methods that has one of the 64 slots is listed
pub record IsBatch (b : Batch) : Type 0 where
  pub formed : IsFormed (program_of b.p.now)
  pub listed : AreMethodsListed (program_of b.p.now) b.number b.list.now

-- the word of the superclass, or another one where there is none
abbrev pub parent_word : Plain → List ℕ → ℕ → ℕ → ℕ
parent_word P table none c = option_map_or (λ p. word_at table p.0) (parent_of P c) none

-- the bits of c for what is nearest and not what is asked: of its own, and those of its superclass but where c has what is asked
pub record IsNearestAt (P : Plain) (table having lacking : List ℕ) (none c : ℕ) : Type 0 where
  pub own : IsWordWithin (own_at lacking c) (word_at table c)
  pub above : IsWordWithin (parent_word P table none c) (bit_or (word_at table c) (own_at having c))

-- the bits of c for what stands at or above it
pub record IsAboveAt (P : Plain) (table start : List ℕ) (c : ℕ) : Type 0 where
  pub own : IsWordWithin (own_at start c) (word_at table c)
  pub parent : IsWordWithin (parent_word P table 0 c) (word_at table c)
  pub faces : (k : ClassId) → Contains (faces_of P c) k → IsWordWithin (word_at table k.0) (word_at table c)

-- whether a word has the bits of each of these interfaces
abbrev pub has_faces : List ℕ → ℕ → List ClassId → Bool
has_faces table w [] = true
has_faces table w (k ∷ ks) = is_within (word_at table k.0) w && has_faces table w ks

-- the same two as tests
abbrev pub is_nearest_at : Plain → List ℕ → List ℕ → List ℕ → ℕ → ℕ → Bool
is_nearest_at P table having lacking none c =
    is_within (own_at lacking c) (word_at table c) && is_within (parent_word P table none c) (bit_or (word_at table c) (own_at having c))

-- whether the word of c has its own bits, those of its superclass and those of its interfaces
abbrev pub is_above_at : Plain → List ℕ → List ℕ → ℕ → Bool
is_above_at P table start c =
    is_within (own_at start c) (word_at table c)
    && (is_within (parent_word P table 0 c) (word_at table c) && has_faces table (word_at table c) (faces_of P c))

-- whether the nearest declaration is what is asked; the same is said of none where there is none
abbrev pub is_told : Plain → Asked → Bool → Option ℕ → Bool
is_told P q none o = option_map_or (λ m. option_map_or (answers P q) (slice_get P.methods m) none) o none

-- a bit is set where the nearest declaration is not what is asked
abbrev pub HasNearest : Plain → Asked → Bool → ℕ → List ℕ → Type 0
HasNearest P q none b table = (c i : ℕ) → i < 64 → is_told P q none (nearest_declaration P c (64 * b + i)) ≡ false → bit (word_at table c) i ≡ true

-- a bit is set where a method that is what is asked stands at or above the class
abbrev pub HasAbove : Plain → Asked → ℕ → List ℕ → Type 0
HasAbove P q b table = (c i m : ℕ) (k : PlainMethod) → i < 64 → slice_get P.methods m ≡ Some k → k.slot ≡ Some (64 * b + i) → answers P q k ≡ true
    → below P c k.owner ≡ true → bit (word_at table c) i ≡ true

-- what the tables have of 64 slots
pub record AreSlotsFound (P : Plain) (b : ℕ) (found : Found) : Type 0 where
  pub bare : HasNearest P Bodied false b found.bare.items
  pub hidden : HasNearest P Public true b found.hidden.items
  pub offered : HasAbove P Bare b found.offered.items
  pub faced : HasAbove P Faced b found.faced.items

-- whether no bit is set in both words
abbrev pub are_apart : ℕ → ℕ → Bool
are_apart a b = bit_and a b == 0

-- whether by the tables a class breaks no rule for the 64 slots
abbrev pub is_clear : Plain → Found → ℕ → Bool
is_clear P found c =
    is_interface P c
    || ((not (is_concrete P c) || are_apart (word_at found.offered.items c) (word_at found.bare.items c))
    && are_apart (word_at found.faced.items c) (word_at found.hidden.items c))

-- c breaks no rule for a method of the 64 slots that has no body
abbrev pub IsFineFor : Plain → ℕ → ℕ → Type 0
IsFineFor P b c = (m i : ℕ) (k : PlainMethod) → slice_get P.methods m ≡ Some k → i < 64 → k.slot ≡ Some (64 * b + i) → is_some k.body ≡ false
    → method_rule P c k ≡ None

-- whether a method has no body, and whether one of these has none
abbrev pub is_bare : Plain → ℕ → Bool
is_bare P m = option_map_or (λ k. not (is_some k.body)) (slice_get P.methods m) false

-- whether one of these methods has no body
abbrev pub has_bare : Plain → List ℕ → Bool
has_bare P [] = false
has_bare P (m ∷ ms) = is_bare P m || has_bare P ms
