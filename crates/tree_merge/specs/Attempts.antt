-- Mirror. What tries are made for, and what is known of each try of a conflict, of each attempt and of each step.
use Rattle.std.specs.Prelude.{◌≡◌, ℕ, zero, suc, ◌+◌, ◌<◌, ◌&&◌, not, Bool, true, false, List, [], ◌∷◌, length, map, slice_index_or, All, Option, Some, None, Ok, Err}
use Rattle.kaba_base.specs.declared.NodeId.{NodeId}
use Rattle.kaba_order.specs.Orders.{Ordered, is_le, is_live, is_among}
use Rattle.fact_model.specs.InRange.{InRange}
use Rattle.fact_model.specs.Flowing.{AreSets}
use Rattle.fact_model.specs.declared.facts.Facts.{Facts}
use Rattle.fact_model.specs.declared.sets.PointsTo.{PointsTo}
use Rattle.hier_model.specs.Hierarchies.{Hierarchy}
use Rattle.hier_model.specs.Edits.{NamesSome}
use Rattle.hier_model.specs.declared.edits.Edit.{Edit}
use Rattle.hier_rules.specs.declared.broken.Broken.{Broken}
use Rattle.hier_rules.specs.Obligations.{first_unchained}
use Rattle.hier_rules.specs.First.{MeetsEdit}
use Rattle.hier_rules.specs.Index.{IsIndexOf}
use Rattle.hier_edit.specs.declared.ApplyFault.{ApplyFault}
use Rattle.hier_edit.specs.declared.ApplyFault.TheVariants.{Breaks}
use Rattle.hier_edit.specs.declared.ApplyFault.TheVariants as fault
use Rattle.hier_tree.specs.Trees.{Try, MakeOne, PutUnder, conflict_of, tries_of, Stuck, tried, first_accepted, last_try, Grows, IsEditOf, try_of}
use Rattle.tree_merge.specs.declared.given.Given.{Given}
use Rattle.tree_merge.specs.declared.attempts.Attempt.{Attempt}
use Rattle.tree_merge.specs.declared.attempts.Attempt.TheVariants as attempt
use Rattle.tree_merge.specs.declared.steps.TreeStep.{TreeStep}
use Rattle.tree_merge.specs.declared.steps.Turn.{Turn}
use Rattle.tree_merge.specs.declared.steps.Turn.TheVariants as turn

-- tries are made for facts in range, their sets, and what is found of both
pub record IsTryInput (given : Given) : Type 0 where
  pub range : InRange given.facts.now
  pub sets : AreSets given.facts.now given.sets.now
  pub index : IsIndexOf given.facts.now given.sets.now given.index.now

-- the sum of what each number below n gives
abbrev pub sum_below : ℕ → (ℕ → ℕ) → ℕ
sum_below zero f = 0
sum_below (suc n) f = sum_below n f + f n

-- 1 where a test holds, and 0 elsewhere
abbrev pub one_if : Bool → ℕ
one_if true = 1
one_if false = 0

-- whether two nodes are live, and the first is not at or below the second
abbrev pub is_apart : Ordered → ℕ → ℕ → Bool
is_apart o a b = is_live o a && is_live o b && not (is_le o a b)

-- how many pairs of live nodes are so: it falls with each step
abbrev pub unordered : Ordered → ℕ
unordered o = sum_below (length o.live) (λ a. sum_below (length o.live) (λ b. one_if (is_apart o a b)))

-- two live nodes that are not ordered
pub record AreApart (o : Ordered) (x y : NodeId) : Type 0 where
  pub first : is_live o x.0 ≡ true
  pub second : is_live o y.0 ≡ true
  pub apart : is_le o x.0 y.0 ≡ false
  pub also : is_le o y.0 x.0 ≡ false

-- the nodes that a try names
abbrev pub nodes_of : Try → List NodeId
nodes_of (MakeOne set) = set
nodes_of (PutUnder n p) = n ∷ p ∷ []

-- a try orders two nodes that were not ordered
abbrev pub Joins : Ordered → Try → Type 0
Joins o (MakeOne set) = (x y : ℕ) × (is_among set x ≡ true) × (is_among set y ≡ true) × (is_le o x y ≡ false)
Joins o (PutUnder n p) = is_le o n.0 p.0 ≡ false

-- an edit that is a try of live nodes, two of which are not ordered
pub record IsTryOf (H : Hierarchy) (e : Edit) : Type 0 where
  pub is : IsEditOf (try_of e) e
  pub some : NamesSome e
  pub live : All (λ s. is_live H.order s.0 ≡ true) (nodes_of (try_of e))
  pub joins : Joins H.order (try_of e)

-- why a try of live nodes is refused: it breaks an obligation, or memory is short
abbrev pub IsOfTry : ApplyFault → Type 0
IsOfTry (Breaks b) = Unit {0}
IsOfTry fault.Memory = Unit {0}
IsOfTry (fault.UnknownNode n) = ⊥
IsOfTry (fault.UnknownMember c) = ⊥
IsOfTry (fault.NotEmpty n) = ⊥

module _ (F : Facts) (pt : PointsTo) (Old New : Hierarchy) where
  -- a try was accepted
  pub record IsAccepted (e : Edit) : Type 0 where
    pub made : tried F pt Old (try_of e) ≡ Ok New
    pub meets : MeetsEdit F pt New
    pub fewer : unordered New.order < unordered Old.order

  -- a try was accepted, or it breaks an obligation and nothing changed
  abbrev pub IsAttempt : Edit → Option Broken → Type 0
  IsAttempt e None = IsAccepted e
  IsAttempt e (Some b) = (New ≡ Old) × (tried F pt Old (try_of e) ≡ Err (Breaks b))

  -- the first of some tries that is accepted
  pub record IsFirst (tries : List Edit) (k : ℕ) : Type 0 where
    pub below : k < length tries
    pub first : (d : Edit) → first_accepted F pt Old (map try_of tries) ≡ Some (try_of (slice_index_or tries k d), New)
    pub meets : MeetsEdit F pt New
    pub fewer : unordered New.order < unordered Old.order

  -- none of some tries is accepted, and what the last breaks
  pub record AreRefused (tries : List Edit) (b : Broken) : Type 0 where
    pub same : New ≡ Old
    pub none : first_accepted F pt Old (map try_of tries) ≡ None
    pub last : Try
    pub is_last : last_try (map try_of tries) ≡ Some last
    pub breaks : tried F pt Old last ≡ Err (Breaks b)

  -- what the tries of a conflict come to: the first that is accepted, or what the last breaks
  abbrev pub IsTried : List Edit → Attempt → Type 0
  IsTried tries (attempt.Accepted k) = IsFirst tries k
  IsTried tries (attempt.Refused b) = AreRefused tries b

  -- a step was made
  pub record IsStep (s : TreeStep) : Type 0 where
    pub broken : Broken
    pub conflict : first_unchained F Old ≡ Some broken
    pub at : s.conflict ≡ conflict_of broken
    pub accepted : first_accepted F pt Old (tries_of F Old (conflict_of broken)) ≡ Some (try_of s.edit, New)
    pub edit : IsEditOf (try_of s.edit) s.edit
    pub meets : MeetsEdit F pt New
    pub fewer : unordered New.order < unordered Old.order

  -- a step was made, or there is no conflict, or no try of it is accepted
  abbrev pub IsTurn : Turn → Type 0
  IsTurn turn.Done = (New ≡ Old) × (first_unchained F Old ≡ None)
  IsTurn (turn.Taken s) = IsStep s
  IsTurn (turn.Stuck c b) = (New ≡ Old) × Grows F pt Old [] (Stuck Old c b)
