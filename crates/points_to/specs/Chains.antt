-- Mirror. Chains of bodies, by a number for their class and slot.
use Rattle.std.specs.Prelude.{◌≡◌, ℕ, ◌+◌, ◌*◌, ◌%◌, ◌<◌, ◌≤◌, false, List, length, Option, Some, None, slice_index_or}
use Rattle.std.specs.Option.{unwrap_or}
use Rattle.fact_model.specs.Items.{column_at, column_class, column_kind, column_slot}
use Rattle.fact_model.specs.Classes.{is_body}
use Rattle.fact_model.specs.declared.facts.Facts.{Facts}
use Rattle.fact_model.specs.declared.facts.ColKind.TheVariants.{Def}
use Rattle.points_to.specs.declared.bodies.Bodies.{Bodies}

-- a number for a class and a slot, of n + 1
abbrev pub bucket : ℕ → ℕ → ℕ → ℕ
bucket n a x = (a * 31 + x) % (n + 1)

-- that of a column, and that of a class and a slot among the columns
abbrev pub column_bucket : Facts → ℕ → ℕ
column_bucket F c = bucket (length F.columns.items) (column_class F c) (unwrap_or (column_slot F c) 0)

-- the number of the chain for a class and a slot, of as many as there are columns and one more
abbrev pub bucket_in : Facts → ℕ → ℕ → ℕ
bucket_in F a x = bucket (length F.columns.items) a x

-- the column c is a body of the number a
pub record IsBodyOf (F : Facts) (a c : ℕ) : Type 0 where
  pub kind : column_kind F c ≡ Def
  pub bucket : column_bucket F c ≡ a

-- d is the least column at or after `from` that is a body of the number a
pub record IsFirstAt (F : Facts) (a from d : ℕ) : Type 0 where
  pub low : from ≤ d
  pub high : d < length F.columns.items
  pub body : IsBodyOf F a d
  pub least : (k : ℕ) → from ≤ k → k < d → IsBodyOf F a k → ⊥

-- the first body of the number a at or after `from`, if there is one
pub record IsFirstBody (F : Facts) (a from : ℕ) (o : Option ℕ) : Type 0 where
  pub some : (d : ℕ) → o ≡ Some d → IsFirstAt F a from d
  pub none : o ≡ None → (k : ℕ) → from ≤ k → k < length F.columns.items → IsBodyOf F a k → ⊥

-- the chains of the columns at and after `from`
pub record AreChained (F : Facts) (first next : List (Option ℕ)) (from : ℕ) : Type 0 where
  pub first_len : length first ≡ length F.columns.items + 1
  pub next_len : length next ≡ length F.columns.items
  pub firsts : (a : ℕ) → a < length F.columns.items + 1 → IsFirstBody F a from (slice_index_or first a None)
  pub nexts : (c : ℕ) → from ≤ c → c < length F.columns.items → IsFirstBody F (column_bucket F c) (c + 1) (slice_index_or next c None)

-- the two lists hold a chain of body columns for each number
abbrev pub AreBodies : Facts → Bodies → Type 0
AreBodies F b = AreChained F b.first.items b.next.items 0

-- where a walk along the chain of the class a and the slot x stands: nothing before it is a body of them
pub record IsWalk (F : Facts) (a x : ℕ) (at : Option ℕ) : Type 0 where
  pub high : (d : ℕ) → at ≡ Some d → d < length F.columns.items
  pub body : (d : ℕ) → at ≡ Some d → IsBodyOf F (bucket_in F a x) d
  pub before : (d k : ℕ) → at ≡ Some d → k < d → is_body a x (column_at F k) ≡ false
  pub all : at ≡ None → (k : ℕ) → k < length F.columns.items → is_body a x (column_at F k) ≡ false
