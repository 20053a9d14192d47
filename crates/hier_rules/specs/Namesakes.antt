-- Mirror. What the search for members of one name makes.
use Rattle.std.specs.Prelude.{◌≡◌, ℕ, suc, zero, ◌<◌, ◌≤◌, ◌&&◌, cond, Bool, true, not, List, length, Contains, Option, Some, None, slice_index_or}
use Rattle.std.specs.List.Sorted.{IsNonDecreasingBy}
use Rattle.std.specs.Str.{bytes_eq}
use Rattle.kaba_base.specs.Words.{is_name}
use Rattle.kaba_bits.specs.Sets.{first_below, when, ListsBelow}
use Rattle.fact_model.specs.Items.{column_kind}
use Rattle.fact_model.specs.declared.facts.Facts.{Facts}
use Rattle.hier_model.specs.Hierarchies.{Hierarchy, is_offered, stands_at, member_name, any_below}
use Rattle.hier_model.specs.Names.{is_field}
use Rattle.hier_rules.specs.Names.{clash, is_named, is_member, is_taken_name}
use Rattle.hier_rules.specs.Instances.{of_column}
use Rattle.hier_rules.specs.declared.broken.Broken.{Broken}
use Rattle.hier_rules.specs.declared.broken.Rule.TheVariants.{B8}
use Rattle.hier_rules.specs.declared.clashes.ClashPair.{ClashPair}

-- the last column below n of a name
abbrev pub last_of : Hierarchy → List ℕ → ℕ → Option ℕ
last_of H name zero = None
last_of H name (suc c) = cond (bytes_eq (member_name H c) name) (Some c) (last_of H name c)

-- for each of the first n columns the last one before it of its name
pub record AreLinks (H : Hierarchy) (n : ℕ) (links : List (Option ℕ)) : Type 0 where
  pub width : length links ≡ n
  pub exact : (c : ℕ) → c < length links → slice_index_or links c None ≡ last_of H (member_name H c) c

-- the clashes with columns below d, and those of d with columns from k on, by the greater of their columns
pub record AreClashes (F : Facts) (H : Hierarchy) (d k : ℕ) (clashes : List ClashPair) : Type 0 where
  pub order : (x : ClashPair) → Contains clashes x → x.first < x.second
  pub within : (x : ClashPair) → Contains clashes x → x.second ≤ d
  pub last : (x : ClashPair) → Contains clashes x → x.second ≡ d → k ≤ x.first
  pub is : (x : ClashPair) → Contains clashes x → clash F H x.first x.second ≡ true
  pub all : (x : ClashPair) → x.first < x.second → x.second ≤ d → (x.second ≡ d → k ≤ x.first) → clash F H x.first x.second ≡ true → Contains clashes x
  pub rising : IsNonDecreasingBy (λ x. x.second) clashes

-- whether a node offers both columns of a clash
abbrev pub offers_both : Hierarchy → ℕ → ClashPair → Bool
offers_both H n x = is_offered H n x.second && is_offered H n x.first

-- whether two live nodes below n have a name
abbrev pub is_twice : Hierarchy → List ℕ → ℕ → Bool
is_twice H name n = any_below n (λ b. is_named H name b && any_below b (is_named H name))

-- whether a column is a member whose name cannot be written
abbrev pub is_unwritable_member : Facts → Hierarchy → ℕ → Bool
is_unwritable_member F H c = is_member (column_kind F c) && not (is_name (member_name H c))

-- whether a column is a field whose name is taken
abbrev pub is_taken_field : Facts → Hierarchy → ℕ → Bool
is_taken_field F H c = is_field (column_kind F c) && is_taken_name F H c

-- a rising list of exactly the columns that pass a test
abbrev pub ListsColumns : Facts → (ℕ → Bool) → List ℕ → Type 0
ListsColumns F p list = ListsBelow (λ c. p c ≡ true) (length F.columns.items) list

-- the first column at a node that passes a test
abbrev pub first_standing : Facts → Hierarchy → ℕ → (ℕ → Bool) → Option Broken
first_standing F H n p = first_below (length F.columns.items) (λ c. when (stands_at H n c && p c) (of_column B8 n c))
