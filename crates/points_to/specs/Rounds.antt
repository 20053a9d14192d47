-- Mirror. How far a turn over reads, writes and runs has come.
use Rattle.std.specs.Prelude.{◌≡◌, ℕ, ◌<◌, ◌≤◌, ◌⊎◌, Bool, true, List, length, Contains, Option, Some, None}
use Rattle.kaba_bits.specs.Sets.{bit, row, IsSubset}
use Rattle.fact_model.specs.declared.facts.Facts.{Facts}
use Rattle.points_to.specs.Sound.{InNode}
use Rattle.points_to.specs.Work.{IsMemberSet, PassesClass, wanted, IsWriteClosed}
use Rattle.points_to.specs.declared.work.Member.TheVariants.{This}
use Rattle.points_to.specs.declared.work.Write.{Write}
use Rattle.points_to.specs.declared.reads.Union.{Union}
use Rattle.points_to.specs.declared.writes.Pending.{Pending}
use Rattle.points_to.specs.declared.runs.Begun.{Begun}

-- s is in a set of the list
pub record IsInSome (sets : List (List Bool)) (list : List ℕ) (s : ℕ) : Type 0 where
  pub node : ℕ
  pub listed : Contains list node
  pub has : bit (row sets node) s ≡ true

-- the least number of one set, from one on, that is not in another
abbrev pub IsNextBeyond : ℕ → List Bool → List Bool → ℕ → Option ℕ → Type 0
IsNextBeyond w a b at None = (k : ℕ) → at ≤ k → bit a k ≡ true → bit b k ≡ true
IsNextBeyond w a b at (Some s) = (at ≤ s) × (s < w) × (bit a s ≡ true) × ((k : ℕ) → at ≤ k → k < s → bit a k ≡ true → bit b k ≡ true)

-- s holds of a set of the member of one of the sites
pub record IsMemberHeld (F : Facts) (u : Union) (s : ℕ) : Type 0 where
  pub site : ℕ
  pub node : ℕ
  pub has : bit u.sites site ≡ true
  pub target : IsMemberSet F u.member site node
  pub holds : InNode F node s

-- a union shows only what holds
pub record IsGathered (F : Facts) (u : Union) : Type 0 where
  pub sites : length u.sites ≡ length F.sites.items
  pub held : length u.held ≡ length F.sites.items
  pub sound : (s : ℕ) → bit u.held s ≡ true → IsMemberHeld F u s

-- and all that the sets of the member of its sites have
abbrev pub IsWhole : Facts → List (List Bool) → Union → Type 0
IsWhole F sets u = (o n : ℕ) → bit u.sites o ≡ true → IsMemberSet F u.member o n → IsSubset (row sets n) u.held

-- the values fit and hold where they are to be written
pub record IsPending (F : Facts) (p : Pending) : Type 0 where
  pub sites : length p.sites ≡ length F.sites.items
  pub values : length p.values ≡ length F.sites.items
  pub sound : (o s n : ℕ) → bit p.sites o ≡ true → bit p.values s ≡ true → IsMemberSet F p.member o n → PassesClass F (wanted F p.member o) s → InNode F n s

-- the values were written for one site, or for each
abbrev pub IsFlushedAt : Facts → List (List Bool) → Pending → ℕ → Type 0
IsFlushedAt F sets p o = (n s : ℕ) → IsMemberSet F p.member o n → PassesClass F (wanted F p.member o) s → bit p.values s ≡ true → bit (row sets n) s ≡ true

-- the pending values were written for each of the pending sites
abbrev pub IsFlushed : Facts → List (List Bool) → Pending → Type 0
IsFlushed F sets p = (o : ℕ) → bit p.sites o ≡ true → IsFlushedAt F sets p o

-- a write is pending
pub record IsPended (bases sets : List (List Bool)) (p : Pending) (x : Write) : Type 0 where
  pub member : p.member ≡ x.member
  pub sites : IsSubset (row bases x.base) p.sites
  pub values : IsSubset (row sets x.value) p.values

-- a write is closed or pending
abbrev pub IsDone : Facts → List (List Bool) → List (List Bool) → Pending → Write → Type 0
IsDone F bases sets p x = IsWriteClosed F bases sets x ⊎ IsPended bases sets p x

-- a set has a row, or a site
abbrev pub HasRow : List Bool → List (List Bool) → ℕ → Type 0
HasRow extra sets n = IsSubset extra (row sets n)

-- the set of a number has the site o
abbrev pub HasSite : ℕ → List (List Bool) → ℕ → Type 0
HasSite o sets n = bit (row sets n) o ≡ true

-- a site is in the `this` of its body for the slot
abbrev pub IsRunAt : Facts → List (List Bool) → ℕ → ℕ → Type 0
IsRunAt F sets slot o = (n : ℕ) → IsMemberSet F (This slot) o n → bit (row sets n) o ≡ true

-- so is each of these sites
abbrev pub AreBegun : Facts → List (List Bool) → Begun → Type 0
AreBegun F sets b = (o : ℕ) → bit b.sites o ≡ true → IsRunAt F sets b.slot o
