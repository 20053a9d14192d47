-- What the facts ask for holds, was found, and where that is closed, the sets are closed.
use Rattle.std.proofs.Common.{◌≡◌, ℕ, ◌<◌, Bool, true, false, ◌||◌, List, length, map, get_or, Some, Contains, sym, ◌∙◌, subst}
use Rattle.std.specs.Bool.{OnFalse}
use Rattle.std.specs.List.{All, filter_map, flat_map, range_with_len}
use Rattle.std.specs.List.Sorted.{IsPermutation}
use Rattle.std.proofs.lemmas.List.Elements.{All-contains, All-contains_itself, All-map, All-append, Contains-append_left, Contains-append_right}
use Rattle.std.proofs.lemmas.List.Sorted.{All-permutation, IsPermutation-sym}
use Rattle.kaba_base.proofs.ListLemmas.{flat_has, map_has, all_of}
use Rattle.kaba_bits.specs.Sets.{IsStep}
use Rattle.fact_model.specs.declared.facts.Facts.{Facts}
use Rattle.fact_model.specs.declared.facts.NewInfo.{NewInfo}
use Rattle.fact_model.specs.declared.facts.FlowInfo.{FlowInfo}
use Rattle.fact_model.specs.declared.facts.CastInfo.{CastInfo}
use Rattle.fact_model.specs.declared.facts.LoadInfo.{LoadInfo}
use Rattle.fact_model.specs.declared.facts.StoreInfo.{StoreInfo}
use Rattle.fact_model.specs.declared.facts.CallInfo.{CallInfo}
use Rattle.fact_model.specs.InRange.{InRange}
use Rattle.fact_model.specs.Flowing.{point_at}
use Rattle.fact_model.specs.Items.{site_class}
use Rattle.fact_model.specs.Classes.{finds}
use Rattle.points_to.specs.Work.{slot_of, IsBodyNode, AreTargets, IsEdge, IsSiteTold, IsReadIn, IsWrite, IsRun, IsEdgeClosed, IsSiteShown, IsReadClosed, IsWriteClosed, IsRunClosed, AreFound}
use Rattle.points_to.specs.Listed.{numbers_at, IsIndex, ListsBody}
use Rattle.points_to.specs.Closed.{told_of_new, edge_of_flow, edge_of_cast, read_of_load, write_of_store, run_of_call, read_of_result, write_of_argument, writes_of_call, asked_told, asked_edges, asked_reads, asked_writes, asked_runs, AreFixed, AreAskedFound, AreSetsClosed}
use Rattle.points_to.specs.declared.work.Edge.{Edge}
use Rattle.points_to.specs.declared.work.Told.{Told}
use Rattle.points_to.specs.declared.work.Read.{Read}
use Rattle.points_to.specs.declared.work.Write.{Write}
use Rattle.points_to.specs.declared.work.Run.{Run}
use Rattle.points_to.specs.declared.work.Member.{Member}
use Rattle.points_to.specs.declared.work.Member.TheVariants.{Parameter, Returned}
use Rattle.points_to.specs.declared.found.Found.{Found}
use Rattle.points_to.specs.declared.index.Index.{Index}
use Rattle.points_to.proofs.EdgeLemmas.{new_told, flow_edge, cast_edge, load_read, store_write, call_run, argument_write, result_read, body_target, target_body}
use Rattle.points_to.proofs.MadeLemmas.{all_among, all_some, all_flat, has_some, has_number, of_mapped}

-- what is asked for holds
module _ (F : Facts) (R : InRange F) where
  asked_result : (x : CallInfo) → Contains F.calls.items x → (y : Read) → read_of_result x ≡ Some y → IsReadIn F y
  asked_result x is y e = of_mapped (IsReadIn F) (λ p. record { base = x.receiver; member = Returned x.slot; into = p }) x.result y e (result_read F R x is)

  asked_argument : (x : CallInfo) → Contains F.calls.items x → (k : ℕ) (y : Write) → write_of_argument x k ≡ Some y → IsWrite F y
  asked_argument x is k y e = of_mapped (IsWrite F) (λ p. record { base = x.receiver; member = Parameter x.slot k; value = p }) (point_at x.args.items k) y e
      (argument_write F R x is k)

  pub asked_holds : AreFixed F (IsEdge F) (IsSiteTold F) (IsReadIn F) (IsWrite F) (IsRun F)
  asked_holds = record {
    told = All-map (IsSiteTold F) told_of_new F.news.items (all_of (λ x. IsSiteTold F (told_of_new x)) F.news.items (new_told F R));
    edges = All-append (IsEdge F) (map edge_of_flow F.flows.items) (map edge_of_cast F.casts.items)
        (All-map (IsEdge F) edge_of_flow F.flows.items (all_of (λ x. IsEdge F (edge_of_flow x)) F.flows.items (flow_edge F R)))
        (All-map (IsEdge F) edge_of_cast F.casts.items (all_of (λ x. IsEdge F (edge_of_cast x)) F.casts.items (cast_edge F R)));
    reads = All-append (IsReadIn F) (map read_of_load F.loads.items) (filter_map read_of_result F.calls.items)
        (All-map (IsReadIn F) read_of_load F.loads.items (all_of (λ x. IsReadIn F (read_of_load x)) F.loads.items (load_read F R)))
        (all_some (IsReadIn F) read_of_result F.calls.items (all_of (λ x. (y : Read) → read_of_result x ≡ Some y → IsReadIn F y) F.calls.items asked_result));
    writes = All-append (IsWrite F) (map write_of_store F.stores.items) (flat_map writes_of_call F.calls.items)
        (All-map (IsWrite F) write_of_store F.stores.items (all_of (λ x. IsWrite F (write_of_store x)) F.stores.items (store_write F R)))
        (all_flat (IsWrite F) writes_of_call F.calls.items (all_of (λ x. All (IsWrite F) (writes_of_call x)) F.calls.items (λ x is.
        all_some (IsWrite F) (write_of_argument x) (range_with_len 0 (length x.args.items)) (λ k d lt. asked_argument x is _))));
    runs = All-map (IsRun F) run_of_call F.calls.items (all_of (λ x. IsRun F (run_of_call x)) F.calls.items (call_run F R));
  }

  -- it was found, in another order
  pub found_asked : (x : Found) → x.told.items ≡ asked_told F → x.edges.items ≡ asked_edges F → IsPermutation (asked_reads F) x.members.reads.items
      → IsPermutation (asked_writes F) x.members.writes.items → IsPermutation (asked_runs F) x.members.runs.items → AreFound F x × AreAskedFound F x
  found_asked x told edges reads writes runs = (
    record {
      told = subst (All (IsSiteTold F)) (sym told) asked_holds.told;
      edges = subst (All (IsEdge F)) (sym edges) asked_holds.edges;
      reads = All-permutation (IsReadIn F) (asked_reads F) x.members.reads.items reads asked_holds.reads;
      writes = All-permutation (IsWrite F) (asked_writes F) x.members.writes.items writes asked_holds.writes;
      runs = All-permutation (IsRun F) (asked_runs F) x.members.runs.items runs asked_holds.runs;
    },
    record {
      told = subst (λ xs. All (Contains xs) (asked_told F)) (sym told) (All-contains_itself (asked_told F));
      edges = subst (λ xs. All (Contains xs) (asked_edges F)) (sym edges) (All-contains_itself (asked_edges F));
      reads = kept (asked_reads F) x.members.reads.items reads;
      writes = kept (asked_writes F) x.members.writes.items writes;
      runs = kept (asked_runs F) x.members.runs.items runs;
    },
  )
    where
      kept : {X : Type 0} (xs ys : List X) → IsPermutation xs ys → All (Contains ys) xs
      kept xs ys p = All-permutation (Contains ys) ys xs (IsPermutation-sym xs ys p) (All-contains_itself ys)

-- what all that is asked for is, is what each fact asks for
module _ {F : Facts} {E : Edge → Type 0} {S : Told → Type 0} {R : Read → Type 0} {W : Write → Type 0} {U : Run → Type 0} (a : AreFixed F E S R W U) where
  pub new_fixed : (x : NewInfo) → Contains F.news.items x → S (told_of_new x)
  new_fixed x c = All-contains S (asked_told F) (told_of_new x) a.told (map_has told_of_new F.news.items x c)

  pub flow_fixed : (x : FlowInfo) → Contains F.flows.items x → E (edge_of_flow x)
  flow_fixed x c = All-contains E (asked_edges F) (edge_of_flow x) a.edges (Contains-append_left _ _ _ (map_has edge_of_flow F.flows.items x c))

  pub cast_fixed : (x : CastInfo) → Contains F.casts.items x → E (edge_of_cast x)
  cast_fixed x c = All-contains E (asked_edges F) (edge_of_cast x) a.edges (Contains-append_right _ _ _ (map_has edge_of_cast F.casts.items x c))

  pub load_fixed : (x : LoadInfo) → Contains F.loads.items x → R (read_of_load x)
  load_fixed x c = All-contains R (asked_reads F) (read_of_load x) a.reads (Contains-append_left _ _ _ (map_has read_of_load F.loads.items x c))

  pub store_fixed : (x : StoreInfo) → Contains F.stores.items x → W (write_of_store x)
  store_fixed x c = All-contains W (asked_writes F) (write_of_store x) a.writes (Contains-append_left _ _ _ (map_has write_of_store F.stores.items x c))

  module _ (x : CallInfo) (c : Contains F.calls.items x) where
    pub run_fixed : U (run_of_call x)
    run_fixed = All-contains U (asked_runs F) (run_of_call x) a.runs (map_has run_of_call F.calls.items x c)

    pub result_fixed : (y : Read) → read_of_result x ≡ Some y → R y
    result_fixed y e = All-contains R (asked_reads F) y a.reads (Contains-append_right (map read_of_load F.loads.items)
        (filter_map read_of_result F.calls.items) y (has_some read_of_result F.calls.items x y c e))

    pub argument_fixed : (k : ℕ) (y : Write) → k < length x.args.items → write_of_argument x k ≡ Some y → W y
    argument_fixed k y lt e = All-contains W (asked_writes F) y a.writes (Contains-append_right (map write_of_store F.stores.items)
        (flat_map writes_of_call F.calls.items) y (flat_has writes_of_call F.calls.items x y c
        (has_some (write_of_argument x) (range_with_len 0 (length x.args.items)) k y (has_number (length x.args.items) k lt) e)))

-- where all that was found is closed, the sets are
pub asked_closed : (F : Facts) (x : Found) (sets : List (List Bool)) → AreAskedFound F x → All (IsEdgeClosed F sets) x.edges.items → All (IsSiteShown sets) x.told.items
    → All (IsReadClosed F sets sets) x.members.reads.items → All (IsWriteClosed F sets sets) x.members.writes.items
    → All (IsRunClosed F sets sets) x.members.runs.items
    → AreSetsClosed F sets
asked_closed F x sets a edges told reads writes runs = record {
  told = all_among (IsSiteShown sets) x.told.items _ told a.told;
  edges = all_among (IsEdgeClosed F sets) x.edges.items _ edges a.edges;
  reads = all_among (IsReadClosed F sets sets) x.members.reads.items _ reads a.reads;
  writes = all_among (IsWriteClosed F sets sets) x.members.writes.items _ writes a.writes;
  runs = all_among (IsRunClosed F sets sets) x.members.runs.items _ runs a.runs;
}

-- a turn over all that was found
module _ (F : Facts) (x : Found) (s1 s2 s3 s4 s5 : List (List Bool)) (asked : AreAskedFound F x) where
  pub turn_closed : (a b c d e : Bool) → IsStep s1 s2 b → IsStep s2 s3 c → IsStep s3 s4 d → IsStep s4 s5 e → OnFalse a (All (IsSiteShown s1) x.told.items)
      → OnFalse b (All (IsEdgeClosed F s2) x.edges.items) → OnFalse c (All (IsReadClosed F s2 s3) x.members.reads.items)
      → OnFalse d (All (IsWriteClosed F s2 s4) x.members.writes.items) → OnFalse e (All (IsRunClosed F s2 s5) x.members.runs.items)
      → OnFalse ((((a || b) || c) || d) || e) (AreSetsClosed F s5)
  turn_closed true b c d e p2 p3 p4 p5 told edges reads writes runs = tt
  turn_closed false true c d e p2 p3 p4 p5 told edges reads writes runs = tt
  turn_closed false false true d e p2 p3 p4 p5 told edges reads writes runs = tt
  turn_closed false false false true e p2 p3 p4 p5 told edges reads writes runs = tt
  turn_closed false false false false true p2 p3 p4 p5 told edges reads writes runs = tt
  turn_closed false false false false false p2 p3 p4 p5 told edges reads writes runs =
      let r = p5 ∙ (p4 ∙ p3) in
      asked_closed F x s5 asked
      (subst (λ s. All (IsEdgeClosed F s) x.edges.items) (sym r) edges)
      (subst (λ s. All (IsSiteShown s) x.told.items) (sym (r ∙ p2)) told)
      (subst (λ s. All (IsReadClosed F s s5) x.members.reads.items) (sym r) (subst (λ s. All (IsReadClosed F s2 s) x.members.reads.items)
      (sym (p5 ∙ p4)) reads))
      (subst (λ s. All (IsWriteClosed F s s5) x.members.writes.items) (sym r) (subst (λ s. All (IsWriteClosed F s2 s) x.members.writes.items) (sym p5) writes))
      (subst (λ s. All (IsRunClosed F s s5) x.members.runs.items) (sym r) runs)

-- the members of a body that was found
pub found_targets : (F : Facts) (index : Index) → IsIndex F index → (m : Member) (slot o d : ℕ) (list : List ℕ) → slot_of m ≡ Some slot
    → finds F (site_class F o) slot ≡ Some d → All (IsBodyNode F m slot o) list → All (ListsBody F m d list) (numbers_at index.bodies.items d)
    → AreTargets F m o list
found_targets F index is m slot o d list e found sound here = record {
  sound = λ k n lt. body_target F m slot o (get_or list k n) e (sound k n lt);
  whole = λ n t.
      let x = target_body F m slot o n e t in
      let at = x.listed in
      let same : x.body.column.0 ≡ d = cc (x.found, found) in
      All-contains (ListsBody F m d list) (numbers_at index.bodies.items d) at.0 here
      (subst (λ k. Contains (numbers_at index.bodies.items k) at.0) same (is.bodies at.0 at.1 x.body (at.1, at.2))) x.body (at.1, at.2) same n x.node;
}
