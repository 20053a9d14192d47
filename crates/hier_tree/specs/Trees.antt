-- Believed. How the class nodes become a tree: step by step, each by the first of its tries that is accepted.
use Rattle.std.specs.Prelude.{◌≡◌, ◌==◌, ◌&&◌, not, Bool, false, if◌then◌else◌, List, [], ◌∷◌, ◌++◌, length, filter, map, Option, Some, None, Result, Ok, Err}
use Rattle.std.specs.List.{range_with_len}
use Rattle.kaba_base.specs.declared.NodeId.{NodeId}
use Rattle.kaba_base.specs.declared.ClassId.{ClassId}
use Rattle.kaba_order.specs.Orders.{is_le, is_live}
use Rattle.fact_model.specs.Classes.{below}
use Rattle.fact_model.specs.declared.facts.Facts.{Facts}
use Rattle.fact_model.specs.declared.sets.PointsTo.{PointsTo}
use Rattle.hier_model.specs.Hierarchies.{Hierarchy, node, origin_of}
use Rattle.hier_model.specs.Edits.{under_order, first_between, first_unknown, merged, unless}
use Rattle.hier_model.specs.declared.edits.ChangeFault.{ChangeFault}
use Rattle.hier_model.specs.declared.edits.ChangeFault.TheVariants.{UnknownNode, Cycle}
use Rattle.hier_model.specs.declared.edits.Edit.{Edit}
use Rattle.hier_model.specs.declared.edits.Edit.TheVariants as edit
use Rattle.hier_rules.specs.declared.broken.Broken.{Broken}
use Rattle.hier_rules.specs.declared.broken.Nodes.{Nodes}
use Rattle.hier_rules.specs.declared.broken.Nodes.TheVariants.{One, Two, Three}
use Rattle.hier_rules.specs.Obligations.{first_unchained}
use Rattle.hier_edit.specs.declared.ApplyFault.{ApplyFault}
use Rattle.hier_edit.specs.declared.ApplyFault.TheVariants.{Breaks}
use Rattle.hier_edit.specs.Applied.{outcome}
use Rattle.hier_tree.specs.declared.Conflict.{Conflict}

-- what a step tries: some nodes become one, or one is put below another
pub data Try : Type 0 where
  MakeOne : List NodeId → Try
  PutUnder : NodeId → NodeId → Try

-- the nodes that an instance against B9 names
abbrev pub conflict_at : Nodes → Conflict
conflict_at (One n) = record { lower = n; first = n; second = n }
conflict_at (Two n x) = record { lower = n; first = x; second = x }
conflict_at (Three n x y) = record { lower = n; first = x; second = y }

-- the conflict of an instance against B9
abbrev pub conflict_of : Broken → Conflict
conflict_of b = conflict_at b.nodes

-- whether a place has an origin, and it is the class given
abbrev pub is_from : ClassId → Option ClassId → Bool
is_from k None = false
is_from k (Some o) = o.0 == k.0

-- all live nodes that come from a class
abbrev pub nodes_from : Hierarchy → ClassId → List NodeId
nodes_from H k = map node (filter (λ n. is_live H.order n && is_from k (origin_of H n)) (range_with_len 0 (length H.order.live)))

-- two nodes with one origin
abbrev pub tries_of_one : Hierarchy → ClassId → NodeId → NodeId → List Try
tries_of_one H k x y = MakeOne (x ∷ y ∷ []) ∷ MakeOne (nodes_from H k) ∷ PutUnder x y ∷ PutUnder y x ∷ []

-- two nodes of which the first has the lower origin, strictly below that of the second
abbrev pub tries_of_lower : NodeId → NodeId → List Try
tries_of_lower x y = PutUnder x y ∷ MakeOne (x ∷ y ∷ []) ∷ PutUnder y x ∷ []

-- and two of which the first has the higher origin: the merge names them in the same order
abbrev pub tries_of_higher : NodeId → NodeId → List Try
tries_of_higher x y = PutUnder y x ∷ MakeOne (x ∷ y ∷ []) ∷ PutUnder x y ∷ []

-- two nodes of which one has no origin, or whose origins are not comparable
abbrev pub tries_of_others : NodeId → NodeId → List Try
tries_of_others x y = MakeOne (x ∷ y ∷ []) ∷ PutUnder x y ∷ PutUnder y x ∷ []

module _ (F : Facts) where
  -- by the origins of two nodes
  abbrev pub tries_by : Hierarchy → NodeId → NodeId → Option ClassId → Option ClassId → List Try
  tries_by H x y (Some k) (Some l) =
      if k.0 == l.0 then tries_of_one H k x y
      else (if below F k.0 l.0 then tries_of_lower x y else (if below F l.0 k.0 then tries_of_higher x y else tries_of_others x y))
  tries_by H x y None l = tries_of_others x y
  tries_by H x y (Some k) None = tries_of_others x y

  -- the tries for a conflict, in their order, by the origins of its two nodes
  abbrev pub tries_of : Hierarchy → Conflict → List Try
  tries_of H c = tries_by H c.first c.second (origin_of H c.first.0) (origin_of H c.second.0)

  -- the same as an edit
  abbrev pub changed_by : Hierarchy → Try → Result Hierarchy ChangeFault
  changed_by H (MakeOne set) = unless (first_unknown H.order set) UnknownNode (unless (first_between H.order set) Cycle (Ok (merged F H set)))
  changed_by H (PutUnder n p) =
      unless (first_unknown H.order (n ∷ p ∷ [])) UnknownNode
      (if is_le H.order p.0 n.0 && not (p.0 == n.0) then Err (Cycle n) else Ok (record H { order = under_order H.order n.0 p.0 }))

-- an edit does what a try says
abbrev pub IsEditOf : Try → Edit → Type 0
IsEditOf (MakeOne nodes) (edit.Merge set) = set.items ≡ nodes
IsEditOf (MakeOne nodes) (edit.Under n p) = ⊥
IsEditOf (MakeOne nodes) (edit.Move c n) = ⊥
IsEditOf (MakeOne nodes) (edit.TypeName n name) = ⊥
IsEditOf (MakeOne nodes) (edit.MemberName c name) = ⊥
IsEditOf (MakeOne nodes) (edit.Drop n) = ⊥
IsEditOf (PutUnder l h) (edit.Merge set) = ⊥
IsEditOf (PutUnder l h) (edit.Under n p) = (n ≡ l) × (p ≡ h)
IsEditOf (PutUnder l h) (edit.Move c n) = ⊥
IsEditOf (PutUnder l h) (edit.TypeName n name) = ⊥
IsEditOf (PutUnder l h) (edit.MemberName c name) = ⊥
IsEditOf (PutUnder l h) (edit.Drop n) = ⊥

-- what an edit of a step tries: a merge or an under; any other tries nothing
abbrev pub try_of : Edit → Try
try_of (edit.Merge set) = MakeOne set.items
try_of (edit.Under n p) = PutUnder n p
try_of (edit.Move c n) = MakeOne []
try_of (edit.TypeName n name) = MakeOne []
try_of (edit.MemberName c name) = MakeOne []
try_of (edit.Drop n) = MakeOne []

-- a step: the conflict of its moment, and the try that was taken
pub record GrowthStep : Type 0 where
  pub conflict : Conflict
  pub try : Try

-- where the steps end: at a tree, or at a conflict of which no try is accepted, with what its last try breaks
pub data GrowthEnd : Type 0 where
  Tree : Hierarchy → GrowthEnd
  Stuck : Hierarchy → Conflict → Broken → GrowthEnd

-- a try that was accepted, or else what follows
abbrev pub accepted_or : Try → Result Hierarchy ApplyFault → Option (Try × Hierarchy) → Option (Try × Hierarchy)
accepted_or t (Ok h) rest = Some (t, h)
accepted_or t (Err fault) rest = rest

-- the last of some tries
abbrev pub last_try : List Try → Option Try
last_try [] = None
last_try (t ∷ []) = Some t
last_try (t ∷ u ∷ ts) = last_try (u ∷ ts)

module _ (F : Facts) (pt : PointsTo) where
  -- what a try makes of a hierarchy, or why it is refused
  abbrev pub tried : Hierarchy → Try → Result Hierarchy ApplyFault
  tried H t = outcome F pt (changed_by F H t)

  -- the first of some tries that is accepted, with what it makes
  abbrev pub first_accepted : Hierarchy → List Try → Option (Try × Hierarchy)
  first_accepted H [] = None
  first_accepted H (t ∷ ts) = accepted_or t (tried H t) (first_accepted H ts)

  -- the steps from a hierarchy: each takes the first conflict of its moment, and the first of its tries that is accepted
  pub data Grows : Hierarchy → List GrowthStep → GrowthEnd → Type 0 where
    done : {H : Hierarchy} → first_unchained F H ≡ None → Grows H [] (Tree H)
    stuck : {H : Hierarchy} {b broken : Broken} {t : Try} → first_unchained F H ≡ Some b → first_accepted H (tries_of F H (conflict_of b)) ≡ None
        → last_try (tries_of F H (conflict_of b)) ≡ Some t → tried H t ≡ Err (Breaks broken) → Grows H [] (Stuck H (conflict_of b) broken)
    step : {H K : Hierarchy} {b : Broken} {t : Try} {log : List GrowthStep} {end : GrowthEnd} → first_unchained F H ≡ Some b
        → first_accepted H (tries_of F H (conflict_of b)) ≡ Some (t, K)
        → Grows K log end → Grows H (record { conflict = conflict_of b; try = t } ∷ log) end

  -- the same steps without their end: from a hierarchy to the one that they leave
  pub data Leads : Hierarchy → List GrowthStep → Hierarchy → Type 0 where
    begun : {H : Hierarchy} → Leads H [] H
    taken : {H K New : Hierarchy} {b : Broken} {t : Try} {log : List GrowthStep} → Leads H log K → first_unchained F K ≡ Some b
        → first_accepted K (tries_of F K (conflict_of b)) ≡ Some (t, New)
        → Leads H (log ++ record { conflict = conflict_of b; try = t } ∷ []) New

-- two growths from one hierarchy have the same steps and the same end
abbrev pub OneGrowth : Type 0
OneGrowth = (F : Facts) (pt : PointsTo) (H : Hierarchy) (log others : List GrowthStep) (end other : GrowthEnd)
    → Grows F pt H log end → Grows F pt H others other → (log ≡ others) × (end ≡ other)
