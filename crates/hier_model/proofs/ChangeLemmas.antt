-- The differences of two hierarchies lead back from the one to the other.
use Rattle.std.proofs.Common.{◌≡◌, ◌≢◌, ◌⊎◌, ⊎_elim, inl, inr, ℕ, ◌<◌, ◌==◌, ◌&&◌, not, Bool, true, false, List, [], ◌++◌, length, Option, Some, None, All, refl, sym, ap, ◌∙◌, subst, arith, eq-eqb, eqb-true}
use Rattle.std.specs.List.{flat_map}
use Rattle.std.specs.Str.{bytes_eq}
use Rattle.std.proofs.lemmas.Bool.{cases_Bool, cases_lt, and_parts, and_from, false≢true, ne_eqb}
use Rattle.std.proofs.lemmas.List.{append-nil}
use Rattle.std.proofs.lemmas.List.Concat.{flat_map-append}
use Rattle.kaba_base.specs.declared.NodeId.{NodeId}
use Rattle.kaba_base.specs.declared.ColId.{ColId}
use Rattle.kaba_base.specs.declared.RowId.{RowId}
use Rattle.kaba_base.specs.declared.ClassId.{ClassId}
use Rattle.kaba_bits.proofs.SetLemmas.{bit-below}
use Rattle.kaba_order.specs.Orders.{is_le, is_live, differ}
use Rattle.kaba_order.specs.Flips.{flip_where, is_flipped, names_node, names_pair, IsFlipped}
use Rattle.hier_model.specs.Hierarchies.{Hierarchy, node, place_of_column, place_of_row, type_name, member_name, origin_of, is_at}
use Rattle.hier_model.specs.Alike.{AreAlike}
use Rattle.hier_model.specs.Differences.{each_below, only_if, is_same_origin, lives_on, node_change, pair_change, changed_place, column_change, row_change, type_change, member_change, origin_change, node_changes, pair_changes, column_changes, row_changes, type_changes, member_changes, origin_changes, changes, named_node, named_pair}
use Rattle.hier_model.specs.declared.differences.Change.{Change}
use Rattle.hier_model.specs.declared.differences.Change.TheVariants.{Node, Pair, Column, Row, TypeName, MemberName, Origin}
use Rattle.hier_model.proofs.EachLemmas.{each_below-same, each_below-none, flat_map-each, one_if, none_if, flipped_nowhere, flipped_at, flipped_only}
use Rattle.kaba_order.proofs.WrittenLemmas.{All-only, All-each}
use Rattle.hier_model.proofs.EditedLemmas.{IsSameOutside}

-- whether a place is another
abbrev pub is_moved : Option NodeId → Option NodeId → Bool
is_moved None new = false
is_moved (Some p) new = not (is_at p.0 new)

-- empty lists behind a list
module _ {B : Type 0} (l : List B) where
  pub nil_2 : l ++ [] ++ [] ≡ l
  nil_2 = ap (λ x. x ++ []) (append-nil l) ∙ append-nil l

  pub nil_3 : l ++ [] ++ [] ++ [] ≡ l
  nil_3 = ap (λ x. x ++ []) nil_2 ∙ append-nil l

  pub nil_4 : l ++ [] ++ [] ++ [] ++ [] ≡ l
  nil_4 = ap (λ x. x ++ []) nil_3 ∙ append-nil l

  pub nil_5 : l ++ [] ++ [] ++ [] ++ [] ++ [] ≡ l
  nil_5 = ap (λ x. x ++ []) nil_4 ∙ append-nil l

  pub nil_6 : l ++ [] ++ [] ++ [] ++ [] ++ [] ++ [] ≡ l
  nil_6 = ap (λ x. x ++ []) nil_5 ∙ append-nil l

-- the differences as another list sees them
module _ (old new : Hierarchy) {B : Type 0} (h : Change → List B) where
  two : (xs ys : List Change) (x y : List B) → flat_map h xs ≡ x → flat_map h ys ≡ y → flat_map h (xs ++ ys) ≡ x ++ y
  two xs ys x y e f = flat_map-append h xs ys ∙ (ap (λ l. l ++ flat_map h ys) e ∙ ap (λ l. x ++ l) f)

  pub seen : (a b c d e f g : List B) → flat_map h (node_changes old new) ≡ a → flat_map h (pair_changes old new) ≡ b
      → flat_map h (column_changes old new) ≡ c → flat_map h (row_changes old new) ≡ d → flat_map h (type_changes old new) ≡ e
      → flat_map h (member_changes old new) ≡ f → flat_map h (origin_changes old new) ≡ g
      → flat_map h (changes old new) ≡ a ++ b ++ c ++ d ++ e ++ f ++ g
  seen a b c d e f g ea eb ec ed ee ef eg =
      let one = node_changes old new in
      let second = one ++ pair_changes old new in
      let three = second ++ column_changes old new in
      let four = three ++ row_changes old new in
      let five = four ++ type_changes old new in
      let six = five ++ member_changes old new in
      two six (origin_changes old new) (a ++ b ++ c ++ d ++ e ++ f) g
      (two five (member_changes old new) (a ++ b ++ c ++ d ++ e) f
      (two four (type_changes old new) (a ++ b ++ c ++ d) e
      (two three (row_changes old new) (a ++ b ++ c) d
      (two second (column_changes old new) (a ++ b) c
      (two one (pair_changes old new) a b ea eb) ec) ed) ee) ef) eg

  pub seen_each : (n : ℕ) (f : ℕ → List Change) (g : ℕ → List B) → ((k : ℕ) → flat_map h (f k) ≡ g k) → flat_map h (each_below n f) ≡ each_below n g
  seen_each n f g e = flat_map-each h n f ∙ each_below-same n (λ k. flat_map h (f k)) g e

  unseen : (n : ℕ) (f : ℕ → List Change) → ((k : ℕ) → flat_map h (f k) ≡ []) → flat_map h (each_below n f) ≡ []
  unseen n f e = flat_map-each h n f ∙ each_below-none n (λ k. flat_map h (f k)) e

  pub no_nodes : ((n : NodeId) (name : List ℕ) (o : Option ClassId) → h (Node n name o) ≡ []) → flat_map h (node_changes old new) ≡ []
  no_nodes e = unseen (length old.order.live) (node_change old new)
      (λ k. none_if h (is_live old.order k && not (is_live new.order k)) (Node (node k) (type_name old k) (origin_of old k)) (e _ _ _))

  pub no_pairs : ((a b : NodeId) (was : Bool) → h (Pair a b was) ≡ []) → flat_map h (pair_changes old new) ≡ []
  no_pairs e = unseen (length old.order.live) (λ a. each_below (length old.order.live) (pair_change old new a))
      (λ a. unseen (length old.order.live) (pair_change old new a)
      (λ b. none_if h (not (a == b) && differ (is_le old.order a b) (is_le new.order a b)) (Pair (node a) (node b) (is_le old.order a b)) (e _ _ _)))

  no_place : ((c : ColId) (p : NodeId) → h (Column c p) ≡ []) → (c : ℕ) (a b : Option NodeId) → flat_map h (changed_place c a b) ≡ []
  no_place e c None b = refl
  no_place e c (Some p) b = none_if h (not (is_at p.0 b)) (Column (record { 0 = c }) p) (e _ _)

  pub no_columns : ((c : ColId) (p : NodeId) → h (Column c p) ≡ []) → flat_map h (column_changes old new) ≡ []
  no_columns e = unseen (length old.columns) (column_change old new) (λ c. no_place e c (place_of_column old c) (place_of_column new c))

  pub no_rows : ((r : RowId) (p : NodeId) → h (Row r p) ≡ []) → flat_map h (row_changes old new) ≡ []
  no_rows e = unseen (length old.rows) (row_change old new)
      (λ r. none_if h (not (place_of_row old r == place_of_row new r)) (Row (record { 0 = r }) (node (place_of_row old r))) (e _ _))

  pub no_types : ((n : NodeId) (name : List ℕ) → h (TypeName n name) ≡ []) → flat_map h (type_changes old new) ≡ []
  no_types e = unseen (length old.order.live) (type_change old new)
      (λ k. none_if h (lives_on old new k && not (bytes_eq (type_name old k) (type_name new k))) (TypeName (node k) (type_name old k)) (e _ _))

  pub no_members : ((c : ColId) (name : List ℕ) → h (MemberName c name) ≡ []) → flat_map h (member_changes old new) ≡ []
  no_members e = unseen (length old.members) (member_change old new)
      (λ c. none_if h (not (bytes_eq (member_name old c) (member_name new c))) (MemberName (record { 0 = c }) (member_name old c)) (e _ _))

  pub no_origins : ((n : NodeId) (o : Option ClassId) → h (Origin n o) ≡ []) → flat_map h (origin_changes old new) ≡ []
  no_origins e = unseen (length old.order.live) (origin_change old new)
      (λ k. none_if h (lives_on old new k && not (is_same_origin (origin_of old k) (origin_of new k))) (Origin (node k) (origin_of old k)) (e _ _))

-- the nodes and pairs that the differences name
module _ (old new : Hierarchy) where
  abbrev count : ℕ
  count = length old.order.live

  abbrev pub is_lost : ℕ → Bool
  is_lost k = is_live old.order k && not (is_live new.order k)

  abbrev is_turned : ℕ → ℕ → Bool
  is_turned a b = not (a == b) && differ (is_le old.order a b) (is_le new.order a b)

  abbrev lost_nodes : List NodeId
  lost_nodes = each_below count (λ k. only_if (is_lost k) (node k))

  abbrev turned_pairs : List (NodeId × NodeId)
  turned_pairs = each_below count (λ a. each_below count (λ b. only_if (is_turned a b) (node a, node b)))

  nodes_are : flat_map named_node (changes old new) ≡ lost_nodes
  nodes_are =
      seen old new named_node lost_nodes [] [] [] [] [] []
      (seen_each old new named_node count (node_change old new) (λ k. only_if (is_lost k) (node k))
      (λ k. one_if named_node (is_lost k) (Node (node k) (type_name old k) (origin_of old k)) (node k) refl))
      (no_pairs old new named_node (λ a b w. refl)) (no_columns old new named_node (λ c p. refl)) (no_rows old new named_node (λ r p. refl))
      (no_types old new named_node (λ n x. refl)) (no_members old new named_node (λ c x. refl)) (no_origins old new named_node (λ n o. refl))
      ∙ nil_6 lost_nodes

  pairs_are : flat_map named_pair (changes old new) ≡ turned_pairs
  pairs_are =
      seen old new named_pair [] turned_pairs [] [] [] [] []
      (no_nodes old new named_pair (λ n x o. refl))
      (seen_each old new named_pair count (λ a. each_below count (pair_change old new a)) (λ a. each_below count (λ b. only_if (is_turned a b) (node a, node b)))
      (λ a. seen_each old new named_pair count (pair_change old new a) (λ b. only_if (is_turned a b) (node a, node b))
      (λ b. one_if named_pair (is_turned a b) (Pair (node a) (node b) (is_le old.order a b)) (node a, node b) refl)))
      (no_columns old new named_pair (λ c p. refl)) (no_rows old new named_pair (λ r p. refl))
      (no_types old new named_pair (λ n x. refl)) (no_members old new named_pair (λ c x. refl)) (no_origins old new named_pair (λ n o. refl))
      ∙ nil_5 turned_pairs

  module _ (out : IsSameOutside old new) (like : AreAlike old new) where
    and_false : (x y : Bool) → y ≡ false → (x && y) ≡ false
    and_false true y e = e
    and_false false y e = refl

    and_true : (x y : Bool) → y ≡ true → (x && y) ≡ x
    and_true true y e = e
    and_true false y e = refl

    not_true : (x : Bool) → (x ≡ true → ⊥) → x ≡ false
    not_true x n = ⊎_elim (λ t. absurd (n t)) (λ f. f) (cases_Bool x)

    flipped_node : (a : ℕ) → is_flipped (names_node a) lost_nodes ≡ is_lost a
    flipped_node a =
        let f : ℕ → List NodeId = λ k. only_if (is_lost k) (node k) in
        ⊎_elim
        (λ lt. flipped_at (names_node a) count f a lt
        (λ j ne. flipped_only (names_node a) (is_lost j) (node j) ∙ and_false (is_lost j) (a == j) (ne_eqb a j (λ e. ne (sym e))))
        ∙ (flipped_only (names_node a) (is_lost a) (node a) ∙ and_true (is_lost a) (a == a) (eq-eqb a a refl)))
        (λ past. flipped_nowhere (names_node a) count f
        (λ j lt. flipped_only (names_node a) (is_lost j) (node j) ∙ and_false (is_lost j) (a == j) (ne_eqb a j (λ e. omega (arith, e, lt, past))))
        ∙ sym (not_true (is_lost a) (λ t. let lt = bit-below old.order.live a (and_parts (is_live old.order a) (not (is_live new.order a)) t).0 in
        omega (arith, lt, past))))
        (cases_lt a count)

    -- the row of a node among the pairs
    flipped_row : (a b j : ℕ) → j ≢ a → is_flipped (names_pair a b) (each_below count (λ k. only_if (is_turned j k) (node j, node k))) ≡ false
    flipped_row a b j ne =
        flipped_nowhere (names_pair a b) count (λ k. only_if (is_turned j k) (node j, node k))
        (λ k lt. flipped_only (names_pair a b) (is_turned j k) (node j, node k)
        ∙ and_false (is_turned j k) ((a == j) && (b == k)) (ap (λ x. x && (b == k)) (ne_eqb a j (λ e. ne (sym e)))))

    flipped_pair : (a b : ℕ) → a < count → b < count → is_flipped (names_pair a b) turned_pairs ≡ is_turned a b
    flipped_pair a b la lb =
        let f : ℕ → List (NodeId × NodeId) = λ k. only_if (is_turned a k) (node a, node k) in
        flipped_at (names_pair a b) count (λ j. each_below count (λ k. only_if (is_turned j k) (node j, node k))) a la (flipped_row a b)
        ∙ (flipped_at (names_pair a b) count f b lb
        (λ k ne. flipped_only (names_pair a b) (is_turned a k) (node a, node k)
        ∙ and_false (is_turned a k) ((a == a) && (b == k)) (and_false (a == a) (b == k) (ne_eqb b k (λ e. ne (sym e)))))
        ∙ (flipped_only (names_pair a b) (is_turned a b) (node a, node b)
        ∙ and_true (is_turned a b) ((a == a) && (b == b)) (and_from (a == a) (b == b) (eq-eqb a a refl) (eq-eqb b b refl))))

    flipped_past : (a b : ℕ) → ((a < count) × (b < count) → ⊥) → is_flipped (names_pair a b) turned_pairs ≡ false
    flipped_past a b past =
        flipped_nowhere (names_pair a b) count (λ j. each_below count (λ k. only_if (is_turned j k) (node j, node k)))
        (λ j jl. flipped_nowhere (names_pair a b) count (λ k. only_if (is_turned j k) (node j, node k))
        (λ k kl. flipped_only (names_pair a b) (is_turned j k) (node j, node k)
        ∙ and_false (is_turned j k) ((a == j) && (b == k))
        (not_true ((a == j) && (b == k))
        (λ t. let e = and_parts (a == j) (b == k) t in
        let ea = eqb-true a j e.0 in
        let eb = eqb-true b k e.1 in
        past (omega (arith, ea, jl), omega (arith, eb, kl))))))

    -- a truth value comes back where it was exchanged exactly if it differs
    live_back : (x y : Bool) → (y ≡ true → x ≡ true) → x ≡ flip_where (x && not y) y
    live_back true true h = refl
    live_back true false h = refl
    live_back false true h = h refl
    live_back false false h = refl

    differs_back : (x y : Bool) → x ≡ flip_where (differ x y) y
    differs_back true true = refl
    differs_back true false = refl
    differs_back false true = refl
    differs_back false false = refl

    -- a node is related to itself where it is live
    own_old : (a : ℕ) → is_le old.order a a ≡ is_live old.order a
    own_old a = ⊎_elim (λ t. like.old_order.reflexive a t ∙ sym t)
        (λ f. not_true (is_le old.order a a) (λ t. false≢true (sym f ∙ like.old_order.lower_lives a a t)) ∙ sym f) (cases_Bool (is_live old.order a))

    own_new : (a : ℕ) → is_le new.order a a ≡ is_live new.order a
    own_new a = ⊎_elim (λ t. like.new_order.reflexive a t ∙ sym t)
        (λ f. not_true (is_le new.order a a) (λ t. false≢true (sym f ∙ like.new_order.lower_lives a a t)) ∙ sym f) (cases_Bool (is_live new.order a))

    live_is : (a : ℕ) → is_live old.order a ≡ flip_where (is_flipped (names_node a) lost_nodes) (is_live new.order a)
    live_is a = live_back (is_live old.order a) (is_live new.order a) (out.lives a) ∙ ap (λ x. flip_where x (is_live new.order a)) (sym (flipped_node a))

    within_old : (a b : ℕ) → is_le old.order a b ≡ true → (a < count) × (b < count)
    within_old a b t = (bit-below old.order.live a (like.old_order.lower_lives a b t), bit-below old.order.live b (like.old_order.upper_lives a b t))

    within_new : (a b : ℕ) → is_le new.order a b ≡ true → (a < count) × (b < count)
    within_new a b t =
        let la = bit-below new.order.live a (like.new_order.lower_lives a b t) in
        let lb = bit-below new.order.live b (like.new_order.upper_lives a b t) in
        (omega (arith, la, like.count), omega (arith, lb, like.count))

    same_pair : (a : ℕ) → is_le old.order a a ≡ flip_where ((a == a) && is_flipped (names_node a) lost_nodes)
        (flip_where (is_flipped (names_pair a a) turned_pairs) (is_le new.order a a))
    same_pair a =
        let here : (a == a) ≡ true = eq-eqb a a refl in
        let none : is_flipped (names_pair a a) turned_pairs ≡ false =
        ⊎_elim (λ lt. flipped_pair a a lt lt ∙ ap (λ x. not x && differ (is_le old.order a a) (is_le new.order a a)) here)
        (λ past. flipped_past a a (λ p. let lt = p.0 in omega (arith, lt, past))) (cases_lt a count) in
        own_old a ∙ (live_is a
        ∙ (ap (flip_where (is_flipped (names_node a) lost_nodes)) (sym (own_new a))
        ∙ (ap (λ x. flip_where (is_flipped (names_node a) lost_nodes) (flip_where x (is_le new.order a a))) (sym none)
        ∙ ap (λ x. flip_where (x && is_flipped (names_node a) lost_nodes) (flip_where (is_flipped (names_pair a a) turned_pairs) (is_le new.order a a)))
        (sym here))))

    other_pair : (a b : ℕ) → (a == b) ≡ false → is_le old.order a b ≡ flip_where ((a == b) && is_flipped (names_node a) lost_nodes)
        (flip_where (is_flipped (names_pair a b) turned_pairs) (is_le new.order a b))
    other_pair a b ne =
        let turned : is_le old.order a b ≡ flip_where (is_flipped (names_pair a b) turned_pairs) (is_le new.order a b) =
        ⊎_elim
        (λ x. differs_back (is_le old.order a b) (is_le new.order a b)
        ∙ ap (λ y. flip_where y (is_le new.order a b)) (sym (flipped_pair a b x.0 x.1
        ∙ ap (λ y. not y && differ (is_le old.order a b) (is_le new.order a b)) ne)))
        (λ past. not_true (is_le old.order a b) (λ t. past (within_old a b t))
        ∙ (sym (not_true (is_le new.order a b) (λ t. past (within_new a b t)))
        ∙ ap (λ y. flip_where y (is_le new.order a b)) (sym (flipped_past a b past))))
        (below a b) in
        turned ∙ ap (λ y. flip_where (y && is_flipped (names_node a) lost_nodes) (flip_where (is_flipped (names_pair a b) turned_pairs) (is_le new.order a b)))
        (sym ne)
      where
        below : (a b : ℕ) → ((a < count) × (b < count)) ⊎ ((a < count) × (b < count) → ⊥)
        below a b =
            ⊎_elim (λ la. ⊎_elim (λ lb. inl (la, lb)) (λ past. inr (λ x. let lt = x.1 in omega (arith, lt, past))) (cases_lt b count))
            (λ past. inr (λ x. let lt = x.0 in omega (arith, lt, past))) (cases_lt a count)

    -- exchanging what the differences name leads back to the old order
    pub flipped_back : IsFlipped new.order (flat_map named_node (changes old new)) (flat_map named_pair (changes old new)) old.order
    flipped_back = record {
      count = sym like.count;
      live = λ a. live_is a ∙ ap (λ l. flip_where (is_flipped (names_node a) l) (is_live new.order a)) (sym nodes_are);
      le = λ a b.
          ⊎_elim (λ t. subst (λ k. is_le old.order a k ≡ flip_where ((a == k) && is_flipped (names_node a) lost_nodes)
          (flip_where (is_flipped (names_pair a k) turned_pairs) (is_le new.order a k))) (eqb-true a b t) (same_pair a)) (other_pair a b) (cases_Bool (a == b))
          ∙ (ap (λ l. flip_where ((a == b) && is_flipped (names_node a) l) (flip_where (is_flipped (names_pair a b) turned_pairs) (is_le new.order a b)))
          (sym nodes_are)
          ∙ ap (λ l. flip_where ((a == b) && is_flipped (names_node a) (flat_map named_node (changes old new)))
          (flip_where (is_flipped (names_pair a b) l) (is_le new.order a b))) (sym pairs_are));
    }

    pub nodes_below : All (λ n. n.0 < length new.order.live) (flat_map named_node (changes old new))
    nodes_below = subst (All (λ n. n.0 < length new.order.live)) (sym nodes_are)
        (All-each (λ n. n.0 < length new.order.live) count (λ k. only_if (is_lost k) (node k))
        (λ k lt. All-only (λ n. n.0 < length new.order.live) (is_lost k) (node k) (λ _. omega (arith, lt, like.count))))

    pub pairs_below : All (λ p. (p.0.0 < length new.order.live) × (p.1.0 < length new.order.live)) (flat_map named_pair (changes old new))
    pairs_below =
        let P : NodeId × NodeId → Type 0 = λ p. (p.0.0 < length new.order.live) × (p.1.0 < length new.order.live) in
        subst (All P) (sym pairs_are)
        (All-each P count (λ a. each_below count (λ b. only_if (is_turned a b) (node a, node b)))
        (λ a la. All-each P count (λ b. only_if (is_turned a b) (node a, node b))
        (λ b lb. All-only P (is_turned a b) (node a, node b) (λ _. (omega (arith, la, like.count), omega (arith, lb, like.count))))))
