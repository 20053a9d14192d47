-- Mirror. What the facts ask for, and sets that have it.
use Rattle.std.specs.Prelude.{◌≡◌, ℕ, ◌+◌, ◌<◌, ◌++◌, Bool, true, List, length, map, All, Contains, Option, Some}
use Rattle.std.specs.List.{filter_map, flat_map, range_with_len}
use Rattle.std.specs.Option.{option_map}
use Rattle.kaba_bits.specs.Sets.{bit, row, IsSubset}
use Rattle.fact_model.specs.Items.{cell_at, point_row}
use Rattle.fact_model.specs.declared.facts.Facts.{Facts}
use Rattle.fact_model.specs.declared.facts.NewInfo.{NewInfo}
use Rattle.fact_model.specs.declared.facts.FlowInfo.{FlowInfo}
use Rattle.fact_model.specs.declared.facts.CastInfo.{CastInfo}
use Rattle.fact_model.specs.declared.facts.LoadInfo.{LoadInfo}
use Rattle.fact_model.specs.declared.facts.StoreInfo.{StoreInfo}
use Rattle.fact_model.specs.declared.facts.CallInfo.{CallInfo}
use Rattle.fact_model.specs.Flowing.{in_point, in_cell, Holds, point_at}
use Rattle.points_to.specs.Sound.{AreSound}
use Rattle.points_to.specs.Work.{between, IsEdgeClosed, IsSiteShown, IsReadClosed, IsWriteClosed, IsRunClosed}
use Rattle.points_to.specs.declared.work.Edge.{Edge}
use Rattle.points_to.specs.declared.work.Told.{Told}
use Rattle.points_to.specs.declared.work.Read.{Read}
use Rattle.points_to.specs.declared.work.Write.{Write}
use Rattle.points_to.specs.declared.work.Run.{Run}
use Rattle.points_to.specs.declared.work.Member.TheVariants.{Field, Parameter, Returned}
use Rattle.points_to.specs.declared.found.Found.{Found}

-- what each fact asks for
abbrev pub told_of_new : NewInfo → Told
told_of_new x = record { node = x.point; site = x.site.0 }

-- a flow asks that all that is in one point is in another
abbrev pub edge_of_flow : FlowInfo → Edge
edge_of_flow x = between x.from x.to

-- a cast asks for the sites of its operand whose class is at or below the tested one
abbrev pub edge_of_cast : CastInfo → Edge
edge_of_cast x = record { from = x.from; to = x.into; class = Some x.class }

-- a load asks for what stands in the field, or the elements, of each site of its base
abbrev pub read_of_load : LoadInfo → Read
read_of_load x = record { base = x.base; member = Field x.column; into = x.into }

-- a store puts its value in the field, or the elements, of each site of its base
abbrev pub write_of_store : StoreInfo → Write
write_of_store x = record { base = x.base; member = Field x.column; value = x.value }

-- a call hands each site of its receiver to the `this` of the body that it runs
abbrev pub run_of_call : CallInfo → Run
run_of_call x = record { base = x.receiver; slot = x.slot }

-- an argument or a result, where it is a point
abbrev pub write_of_argument : CallInfo → ℕ → Option Write
write_of_argument x k = option_map (λ p. record { base = x.receiver; member = Parameter x.slot k; value = p }) (point_at x.args.items k)

-- the read of a call's result from the bodies that it may run, where the result is a point
abbrev pub read_of_result : CallInfo → Option Read
read_of_result x = option_map (λ p. record { base = x.receiver; member = Returned x.slot; into = p }) x.result

-- each argument
abbrev pub writes_of_call : CallInfo → List Write
writes_of_call x = filter_map (write_of_argument x) (range_with_len 0 (length x.args.items))

-- what all facts ask for
abbrev pub asked_told : Facts → List Told
asked_told F = map told_of_new F.news.items

-- the edges that flows and casts ask for
abbrev pub asked_edges : Facts → List Edge
asked_edges F = map edge_of_flow F.flows.items ++ map edge_of_cast F.casts.items

-- the reads that loads and the results of calls ask for
abbrev pub asked_reads : Facts → List Read
asked_reads F = map read_of_load F.loads.items ++ filter_map read_of_result F.calls.items

-- the writes that stores and the arguments of calls ask for
abbrev pub asked_writes : Facts → List Write
asked_writes F = map write_of_store F.stores.items ++ flat_map writes_of_call F.calls.items

-- the runs of bodies that calls ask for
abbrev pub asked_runs : Facts → List Run
asked_runs F = map run_of_call F.calls.items

-- each of that is so
pub record AreFixed (F : Facts) (E : Edge → Type 0) (S : Told → Type 0) (R : Read → Type 0) (W : Write → Type 0) (U : Run → Type 0) : Type 0 where
  pub told : All S (asked_told F)
  pub edges : All E (asked_edges F)
  pub reads : All R (asked_reads F)
  pub writes : All W (asked_writes F)
  pub runs : All U (asked_runs F)

-- what the facts ask for was found
abbrev pub AreAskedFound : Facts → Found → Type 0
AreAskedFound F x = AreFixed F (Contains x.edges.items) (Contains x.told.items) (Contains x.members.reads.items) (Contains x.members.writes.items)
    (Contains x.members.runs.items)

-- the sets are closed under the inclusions
abbrev pub AreSetsClosed : Facts → List (List Bool) → Type 0
AreSetsClosed F sets = AreFixed F (IsEdgeClosed F sets) (IsSiteShown sets) (IsReadClosed F sets sets) (IsWriteClosed F sets sets) (IsRunClosed F sets sets)

-- exactly what holds is in the sets
pub record AreSolved (F : Facts) (sets : List (List Bool)) : Type 0 where
  pub sound : AreSound F sets
  pub points : (p s : ℕ) → Holds F (in_point p s) → (p < length F.points.items) × (bit (row sets p) s ≡ true)
  pub cells : (c s : ℕ) → Holds F (in_cell c s) → (c < length F.cells.items) × (bit (row sets (length F.points.items + c)) s ≡ true)

-- each row has at least what it had
abbrev pub Grow : List (List Bool) → List (List Bool) → Type 0
Grow old new = (r : ℕ) → IsSubset (row old r) (row new r)

-- the set of each of the first n points is in that of its row
abbrev pub PointsJoined : Facts → List (List Bool) → List (List Bool) → ℕ → Type 0
PointsJoined F points rows n = (p : ℕ) → p < n → IsSubset (row points p) (row rows (point_row F p))

-- the set of each of the first n cells is in that of its row
abbrev pub CellsJoined : Facts → List (List Bool) → List (List Bool) → ℕ → Type 0
CellsJoined F cells rows n = (c : ℕ) → c < n → IsSubset (row cells c) (row rows (cell_at F c).row.0)
