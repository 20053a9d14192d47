-- The start is a hierarchy of the facts.
use Rattle.std.proofs.Common.{◌≡◌, ℕ, ◌<◌, ◌&&◌, Bool, true, false, List, [], ◌∷◌, length, map, Option, Some, None, sym, ap, ◌∙◌, subst, arith, rules, ⊎_elim}
use Rattle.std.specs.Prelude.{unwrap_or}
use Rattle.std.specs.declared.cmp.Ordering.TheVariants.{Equal}
use Rattle.std.specs.Cmp.{IsTotalOrder}
use Rattle.std.specs.Cmp.Rules.{comparing}
use Rattle.std.proofs.lemmas.Cmp.{tied_itself}
use Rattle.std.proofs.lemmas.Bool.{cases_lt, cases_order, and_parts, and_from, false≢true}
use Rattle.std.proofs.lemmas.List.{get_or-map, length-map}
use Rattle.std.proofs.Math.ListN.{get_or-map as get_or_map_default, get_or-eq_default}
use Rattle.kaba_derivations.proofs.Derivations.{derivable_by}
use Rattle.kaba_base.specs.declared.NodeId.{NodeId}
use Rattle.kaba_base.specs.declared.ColId.{ColId}
use Rattle.kaba_base.proofs.TestLemmas.{same_truth}
use Rattle.kaba_bits.specs.Sets.{bit, row, HasWidth, IsSubset, first_below, when}
use Rattle.kaba_bits.proofs.SetLemmas.{bit-below, same_bits, subset-both}
use Rattle.kaba_bits.proofs.FirstLemmas.{first_below_None, first_below_Some, when-Some, cases_Option}
use Rattle.kaba_order.specs.Orders.{is_le, is_live, IsPartialOrder}
use Rattle.fact_model.specs.Concepts.{Pair, concept_cmp, IsConcept, AreAllConcepts, HasIntent}
use Rattle.fact_model.specs.Entries.{Entails, by_this, by_body}
use Rattle.fact_model.specs.Items.{row_this}
use Rattle.fact_model.specs.InRange.{InRange}
use Rattle.fact_model.specs.declared.facts.Facts.{Facts}
use Rattle.fact_model.proofs.RangeLemmas.{this-below}
use Rattle.hier_model.specs.Hierarchies.{node, KeepsTable}
use Rattle.hier_model.specs.Start.{is_filled, is_subset, is_same_set, order_of, concept_at, rows_with, column_place, row_place}
use Rattle.hier_model.proofs.MergedLemmas.{when_true}
use Rattle.hier_model.proofs.SetTests.{filled-some, filled-has, subset-sound, subset-complete, same_set-sound, same_set-complete}

concept_cmp-total : IsTotalOrder concept_cmp
concept_cmp-total = search (comparing, rules) depth 9

-- the rows that have a column, and those that a set of it holds
pub rows_with-bit : (T : List (List Bool)) (c r : ℕ) → bit (rows_with T c) r ≡ bit (row T r) c
rows_with-bit T c r = get_or_map_default (λ s. bit s c) T r []

module _ (T : List (List Bool)) (w : ℕ) (widths : HasWidth w T) (xs : List Pair) (all : AreAllConcepts T w xs) where
  abbrev ext : ℕ → List Bool
  ext k = (concept_at xs k).0

  abbrev int : ℕ → List Bool
  int k = (concept_at xs k).1

  is_concept : (k : ℕ) → k < length xs → IsConcept T w (ext k) (int k)
  is_concept k lt = all.concepts.each k ([], []) lt

  pub ext-length : (k : ℕ) → k < length xs → length (ext k) ≡ length T
  ext-length k lt = (is_concept k lt).extent.len

  pub int-length : (k : ℕ) → k < length xs → length (int k) ≡ w
  int-length k lt = (is_concept k lt).intent.len

  -- two concepts with one extent have one intent
  same_int : (i j : ℕ) → i < length xs → j < length xs → ext i ≡ ext j → int i ≡ int j
  same_int i j li lj e =
      same_bits (int i) (int j) (int-length i li ∙ sym (int-length j lj))
      (λ c lt.
      let cw : c < w = omega (arith, lt, int-length i li) in
      let a = (is_concept i li).intent.columns c cw in
      let b = (is_concept j lj).intent.columns c cw in
      same_truth (bit (int i) c) (bit (int j) c)
      (λ h. b.1 (λ r rt q. a.0 h r rt (subst (λ s. bit s r ≡ true) (sym e) q)))
      (λ h. a.1 (λ r rt q. b.0 h r rt (subst (λ s. bit s r ≡ true) e q))))

  apart : (i j : ℕ) → i < j → j < length xs → ext i ≡ ext j → ⊥
  apart i j ij lj e =
      let li : i < length xs = omega (arith, ij, lj) in
      let pi = concept_at xs i in
      let pj = concept_at xs j in
      let same : pi ≡ pj = ap (λ (s : List Bool). let p : Pair = (s, pi.1) in p) e ∙ ap (λ (s : List Bool). let p : Pair = (pj.0, s) in p)
      (same_int i j li lj e) in
      let less = all.concepts.ordered i j ([], []) ij lj in
      let equal : concept_cmp pi pj ≡ Equal = ap (λ p. concept_cmp pi p) (sym same) ∙ tied_itself concept_cmp-total pi in
      absurd (cc (sym less ∙ equal))

  -- each extent is that of one concept
  pub one_extent : (i j : ℕ) → i < length xs → j < length xs → IsSubset (ext i) (ext j) → IsSubset (ext j) (ext i) → i ≡ j
  one_extent i j li lj s t =
      let e : ext i ≡ ext j = subset-both (ext i) (ext j) (ext-length i li ∙ sym (ext-length j lj)) s t in
      ⊎_elim (λ x. x) (⊎_elim (λ lt. absurd (apart i j lt lj e)) (λ gt. absurd (apart j i gt li (sym e)))) (cases_order i j)

  -- the order of the nodes
  abbrev Above : ℕ → ℕ → Bool
  Above a b = is_filled (ext a) && is_subset (ext a) (ext b)

  node-live : (a : ℕ) → a < length xs → is_live (order_of xs) a ≡ is_filled (ext a)
  node-live a lt = get_or-map (λ (k : Pair). is_filled k.0) xs a ([], []) false lt

  node-row : (a : ℕ) → a < length xs → row (order_of xs).le a ≡ map (λ (l : Pair). is_filled (ext a) && is_subset (ext a) l.0) xs
  node-row a lt = get_or-map (λ (k : Pair). map (λ (l : Pair). is_filled k.0 && is_subset k.0 l.0) xs) xs a ([], []) [] lt

  pub node-le : (a b : ℕ) → a < length xs → b < length xs → is_le (order_of xs) a b ≡ Above a b
  node-le a b la lb = ap (λ r. bit r b) (node-row a la) ∙ get_or-map (λ (l : Pair). is_filled (ext a) && is_subset (ext a) l.0) xs b ([], []) false lb

  live-width : length (order_of xs).live ≡ length xs
  live-width = length-map xs (λ (k : Pair). is_filled k.0)

  rows-width : length (order_of xs).le ≡ length xs
  rows-width = length-map xs (λ (k : Pair). map (λ (l : Pair). is_filled k.0 && is_subset k.0 l.0) xs)

  row-width : (a : ℕ) → a < length xs → length (row (order_of xs).le a) ≡ length xs
  row-width a lt = ap length (node-row a lt) ∙ length-map xs (λ (l : Pair). is_filled (ext a) && is_subset (ext a) l.0)

  -- only nodes of the list are related
  record AreBoth (a b : ℕ) : Type 0 where
    first : a < length xs
    second : b < length xs
    above : Above a b ≡ true

  related : (a b : ℕ) → is_le (order_of xs) a b ≡ true → AreBoth a b
  related a b h =
      ⊎_elim
      (λ la. let lb : b < length xs = omega (arith, bit-below (row (order_of xs).le a) b h, row-width a la) in record
      { first = la; second = lb; above = sym (node-le a b la lb) ∙ h })
      (λ past.
      let empty : row (order_of xs).le a ≡ [] = get_or-eq_default (order_of xs).le [] {n = a} (omega (arith, past, rows-width)) in
      absurd (false≢true (sym (ap (λ r. bit r b) empty) ∙ h)))
      (cases_lt a (length xs))

  filled-lives : (a : ℕ) → a < length xs → is_filled (ext a) ≡ true → is_live (order_of xs) a ≡ true
  filled-lives a lt h = node-live a lt ∙ h

  pub order_partial : IsPartialOrder (order_of xs)
  order_partial = record {
    count = rows-width ∙ sym live-width;
    widths = λ k lt. row-width k (omega (arith, lt, rows-width)) ∙ sym live-width;
    lower_lives = λ a b h. let r = related a b h in filled-lives a r.first (and_parts (is_filled (ext a)) (is_subset (ext a) (ext b)) r.above).0;
    upper_lives = λ a b h.
        let r = related a b h in
        let p = and_parts (is_filled (ext a)) (is_subset (ext a) (ext b)) r.above in
        let i = filled-some (ext a) p.0 in
        filled-lives b r.second (filled-has (ext b) i.0 (subset-sound (ext a) (ext b) p.1 i.0 i.1));
    reflexive = λ a h.
        let la : a < length xs = omega (arith, bit-below (order_of xs).live a h, live-width) in
        node-le a a la la ∙ and_from (is_filled (ext a)) (is_subset (ext a) (ext a)) (sym (node-live a la) ∙ h) (subset-complete (ext a) (ext a) (λ i e. e));
    antisymmetric = λ a b h k.
        let r = related a b h in
        let q = related b a k in
        one_extent a b r.first r.second
        (subset-sound (ext a) (ext b) (and_parts (is_filled (ext a)) (is_subset (ext a) (ext b)) r.above).1)
        (subset-sound (ext b) (ext a) (and_parts (is_filled (ext b)) (is_subset (ext b) (ext a)) q.above).1);
    transitive = λ a b c h k.
        let r = related a b h in
        let q = related b c k in
        let p = and_parts (is_filled (ext a)) (is_subset (ext a) (ext b)) r.above in
        let s = (and_parts (is_filled (ext b)) (is_subset (ext b) (ext c)) q.above).1 in
        node-le a c r.first q.second
        ∙ and_from (is_filled (ext a)) (is_subset (ext a) (ext c)) p.0
        (subset-complete (ext a) (ext c) (λ i e. subset-sound (ext b) (ext c) s i (subset-sound (ext a) (ext b) p.1 i e)));
  }

  pub nodes-count : length (order_of xs).live ≡ length xs
  nodes-count = live-width

  -- where a column stands
  abbrev at_column : ℕ → ℕ → Option NodeId
  at_column c k = when (is_filled (rows_with T c) && is_same_set (ext k) (rows_with T c)) (node k)

  pub record ColumnStands (c k : ℕ) : Type 0 where
    pub below : k < length xs
    pub filled : is_filled (rows_with T c) ≡ true
    pub within : IsSubset (ext k) (rows_with T c)
    pub holds : IsSubset (rows_with T c) (ext k)

  pub column_stands : (c : ℕ) (p : NodeId) → column_place T xs c ≡ Some p → ColumnStands c p.0
  column_stands c p e =
      let s = first_below_Some (at_column c) (length xs) p e in
      let w = when-Some (is_filled (rows_with T c) && is_same_set (ext s.0) (rows_with T c)) (node s.0) p s.2 in
      let t = and_parts (is_filled (rows_with T c)) (is_same_set (ext s.0) (rows_with T c)) w.0 in
      let sets = same_set-sound (ext s.0) (rows_with T c) t.1 in
      subst (ColumnStands c) (ap (λ (n : NodeId). n.0) w.1) (record { below = s.1; filled = t.0; within = sets.0; holds = sets.1 })

  pub column_lives : (c : ℕ) (p : NodeId) → column_place T xs c ≡ Some p → is_live (order_of xs) p.0 ≡ true
  column_lives c p e =
      let s = column_stands c p e in
      let i = filled-some (rows_with T c) s.filled in
      filled-lives p.0 s.below (filled-has (ext p.0) i.0 (s.holds i.0 i.1))

  -- a column stands at the concept that holds exactly its rows
  pub column_stands_at : (c k : ℕ) → ColumnStands c k → column_place T xs c ≡ Some (node k)
  column_stands_at c k s =
      let here : at_column c k ≡ Some (node k) =
      when_true (is_filled (rows_with T c) && is_same_set (ext k) (rows_with T c)) (node k)
      (and_from (is_filled (rows_with T c)) (is_same_set (ext k) (rows_with T c)) s.filled (same_set-complete (ext k) (rows_with T c) s.within s.holds)) in
      ⊎_elim
      (λ none. let z : Some (node k) ≡ None = sym here ∙ first_below_None (at_column c) (length xs) k none s.below in absurd (cc z))
      (λ y.
      let o = column_stands c y.0 y.1 in
      let one = one_extent y.0.0 k o.below s.below (λ i e. s.holds i (o.within i e)) (λ i e. o.holds i (s.within i e)) in
      y.1 ∙ ap (λ n. Some (node n)) one)
      (cases_Option (column_place T xs c))

  -- where a row stands
  abbrev at_row : List Bool → ℕ → Option NodeId
  at_row s k = when (is_same_set (int k) s) (node k)

  pub record RowStands (r k : ℕ) : Type 0 where
    pub below : k < length xs
    pub within : IsSubset (int k) (row T r)
    pub holds : IsSubset (row T r) (int k)

  -- each row's columns are the intent of a concept
  has_row : (r : ℕ) → r < length T → HasIntent xs (row T r)
  has_row r lt = all.complete (map (λ s. is_subset (row T r) s) T) (row T r) (record {
    extent = record {
      len = length-map T (λ s. is_subset (row T r) s);
      rows = λ q ql. (
        (λ h. subset-sound (row T r) (row T q) (sym (get_or-map (λ s. is_subset (row T r) s) T q [] false ql) ∙ h)),
        (λ s. get_or-map (λ x. is_subset (row T r) x) T q [] false ql ∙ subset-complete (row T r) (row T q) s),
      );
    };
    intent = record {
      len = widths r lt;
      columns = λ c cw. (
        (λ h q ql m. subset-sound (row T r) (row T q) (sym (get_or-map (λ s. is_subset (row T r) s) T q [] false ql) ∙ m) c h),
        (λ each. each r lt (get_or-map (λ s. is_subset (row T r) s) T r [] false lt ∙ subset-complete (row T r) (row T r) (λ i e. e))),
      );
    };
  })

  pub row_stands : (r : ℕ) → r < length T → RowStands r (row_place xs (row T r)).0
  row_stands r lt =
      let h = has_row r lt in
      let is : int h.at ≡ row T r = h.is ([], []) in
      let here : at_row (row T r) h.at ≡ Some (node h.at) =
      when_true (is_same_set (int h.at) (row T r)) (node h.at) (same_set-complete (int h.at) (row T r) (λ i e. subst (λ s. bit s i ≡ true) is e)
      (λ i e. subst (λ s. bit s i ≡ true) (sym is) e)) in
      ⊎_elim
      (λ none. let z : Some (node h.at) ≡ None = sym here ∙ first_below_None (at_row (row T r)) (length xs) h.at none h.below in absurd (cc z))
      (λ y.
      let s = first_below_Some (at_row (row T r)) (length xs) y.0 y.1 in
      let w = when-Some (is_same_set (int s.0) (row T r)) (node s.0) y.0 s.2 in
      let sets = same_set-sound (int s.0) (row T r) w.0 in
      let at : s.0 ≡ (row_place xs (row T r)).0 = ap (λ (n : NodeId). n.0) w.1 ∙ ap (λ o. (unwrap_or o (node 0)).0) (sym y.1) in
      subst (RowStands r) at (record { below = s.1; within = sets.0; holds = sets.1 }))
      (cases_Option (first_below (length xs) (at_row (row T r))))

  -- a row is in the extent of the concept where it stands
  pub row_within : (r : ℕ) → r < length T → bit (ext (row_place xs (row T r)).0) r ≡ true
  row_within r lt = let s = row_stands r lt in ((is_concept (row_place xs (row T r)).0 s.below).extent.rows r lt).1 s.within

  pub row_lives : (r : ℕ) → r < length T → is_live (order_of xs) (row_place xs (row T r)).0 ≡ true
  row_lives r lt = let s = row_stands r lt in filled-lives (row_place xs (row T r)).0 s.below (filled-has (ext (row_place xs (row T r)).0) r (row_within r lt))

  -- where the rows with a column are those that have all columns of a row, the column stands where the row does
  pub stands_with : (c r : ℕ) → r < length T → bit (row T r) c ≡ true → ((q : ℕ) → bit (row T q) c ≡ true → IsSubset (row T r) (row T q))
      → column_place T xs c ≡ Some (row_place xs (row T r))
  stands_with c r lt has above =
      let k = (row_place xs (row T r)).0 in
      let s = row_stands r lt in
      let con = is_concept k s.below in
      column_stands_at c k (record {
        below = s.below;
        filled = filled-has (rows_with T c) r (rows_with-bit T c r ∙ has);
        within = λ q e.
            let ql : q < length T = omega (arith, bit-below (ext k) q e, ext-length k s.below) in
            rows_with-bit T c q ∙ (con.extent.rows q ql).0 e c (s.holds c has);
        holds = λ q e.
            let hq : bit (row T q) c ≡ true = sym (rows_with-bit T c q) ∙ e in
            let ql : q < length T = row-below q c hq in
            (con.extent.rows q ql).1 (λ i m. above q hq i (s.within i m));
      })
    where
      row-below : (q c : ℕ) → bit (row T q) c ≡ true → q < length T
      row-below q c h = ⊎_elim (λ lt. lt) (λ past. absurd (false≢true (sym (ap (λ s. bit s c) (get_or-eq_default T [] {n = q} past)) ∙ h)))
          (cases_lt q (length T))

-- `this` stands where its body does
module _ (F : Facts) (R : InRange F) (T : List (List Bool)) (keeps : KeepsTable F T) (xs : List Pair) (all : AreAllConcepts T (length F.columns.items) xs) where
  pub this_stands : (v : ℕ) (d : ColId) → row_this F v ≡ Some d → column_place T xs d.0 ≡ Some (row_place xs (row T v))
  this_stands v d e =
      let lt : v < length T = omega (arith, this-below F v d e, keeps.rows) in
      stands_with T (length F.columns.items) keeps.widths xs all d.0 v lt
      ((keeps.entries v d.0).1 (derivable_by (Entails F) [] (v, d.0) (by_this v d e) tt))
      (λ q h c m. (keeps.entries q c).1 (derivable_by (Entails F) ((q, d.0) ∷ (v, c) ∷ []) (q, c) (by_body q v c d e)
      ((keeps.entries q d.0).0 h, ((keeps.entries v c).0 m, tt))))
