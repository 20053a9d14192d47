-- Putting the differences of two hierarchies back gives the old one.
use Rattle.std.proofs.Common.{◌≡◌, ⊎_elim, ℕ, ◌<◌, ◌==◌, ◌&&◌, not, Bool, true, false, List, [], ◌++◌, length, get_or, Option, Some, None, All, refl, sym, ap, ◌∙◌, arith, eqb-true}
use Rattle.std.specs.List.{flat_map}
use Rattle.std.specs.Str.{bytes_eq}
use Rattle.std.proofs.lemmas.Bool.{cases_Bool, false≢true}
use Rattle.std.proofs.lemmas.List.{append-nil}
use Rattle.std.proofs.lemmas.List.Elements.{All-append}
use Rattle.kaba_base.specs.declared.NodeId.{NodeId}
use Rattle.kaba_base.specs.declared.ClassId.{ClassId}
use Rattle.kaba_base.proofs.Texts.{bytes_exact}
use Rattle.kaba_order.specs.Orders.{is_le, is_live, differ}
use Rattle.hier_model.specs.Hierarchies.{Hierarchy, node, place_of_column, place_of_row, type_name, member_name, origin_of, is_at}
use Rattle.hier_model.specs.Alike.{AreAlike}
use Rattle.hier_model.specs.Differences.{each_below, only_if, is_same_origin, lives_on, node_change, pair_change, changed_place, column_change, row_change, type_change, member_change, origin_change, node_changes, pair_changes, column_changes, row_changes, type_changes, member_changes, origin_changes, changes}
use Rattle.kaba_order.specs.Written.{written}
use Rattle.hier_model.specs.Restored.{column_write, row_write, type_write, member_write, origin_write, restored, FitsIn}
use Rattle.hier_model.specs.declared.differences.Change.{Change}
use Rattle.hier_model.specs.declared.differences.Change.TheVariants.{Node, Pair, Column, Row, TypeName, MemberName, Origin}
use Rattle.hier_model.proofs.EachLemmas.{one_if}
use Rattle.kaba_order.proofs.WrittenLemmas.{All-only, All-each, written-append, length-written, written_kept, written_put, written_back}
use Rattle.hier_model.proofs.EditedLemmas.{IsSameOutside}
use Rattle.hier_model.proofs.ChangeLemmas.{is_moved, is_lost, nil_2, nil_3, nil_4, nil_5, seen, seen_each, no_nodes, no_pairs, no_columns, no_rows, no_types, no_members, no_origins}

-- what two tests say of each other
from_not_false : (x : Bool) → not x ≡ false → x ≡ true
from_not_false true e = refl
from_not_false false e = absurd (false≢true (sym e))

same_place : (a b : Option NodeId) → (a ≡ None → b ≡ None) → is_moved a b ≡ false → b ≡ a
same_place None b h e = h refl
same_place (Some p) None h e = absurd (false≢true (sym e))
same_place (Some p) (Some q) h e = ap (λ x. Some (node x)) (eqb-true q.0 p.0 (from_not_false (q.0 == p.0) e))

same_origin : (a b : Option ClassId) → is_same_origin a b ≡ true → b ≡ a
same_origin None None e = refl
same_origin None (Some y) e = absurd (false≢true e)
same_origin (Some x) None e = absurd (false≢true e)
same_origin (Some x) (Some y) e = ap (λ k. Some (record { 0 = k })) (sym (eqb-true x.0 y.0 e))

place_write : (c : ℕ) (a b : Option NodeId) → flat_map column_write (changed_place c a b) ≡ only_if (is_moved a b) (c, a)
place_write c None b = refl
place_write c (Some p) b = one_if column_write (not (is_at p.0 b)) (Column (record { 0 = c }) p) (c, Some p) refl

-- of a node that is live before and after, or before alone, or in neither
still : (x y t : Bool) → (x && not y) ≡ false → x ≡ true → (x && y && t) ≡ t
still true true t e l = refl
still true false t e l = absurd (false≢true (sym e))
still false y t e l = absurd (false≢true l)

neither : (x y t : Bool) → x ≡ false → (x && y && t) ≡ false
neither true y t l = absurd (false≢true (sym l))
neither false y t l = refl

-- written where the node is gone and where the item changed, a list of the nodes is as before
nodes_back : {X : Type 0} (d : X) (now target : List X) (n : ℕ) (old new changed : ℕ → Bool) → length now ≡ length target → n ≡ length target
    → ((k : ℕ) → old k ≡ false → get_or now k d ≡ get_or target k d) → ((k : ℕ) → changed k ≡ false → get_or now k d ≡ get_or target k d)
    → written now (each_below n (λ k. only_if (old k && not (new k)) (k, get_or target k d))
    ++ each_below n (λ k. only_if (old k && new k && changed k) (k, get_or target k d))) ≡ target
nodes_back {X = X} d now target n old new changed len count dead same =
    let lost : List (ℕ × X) = each_below n (λ k. only_if (old k && not (new k)) (k, get_or target k d)) in
    let others : List (ℕ × X) = each_below n (λ k. only_if (old k && new k && changed k) (k, get_or target k d)) in
    written-append now lost others
    ∙ written_back d (written now others) target n (λ k. old k && not (new k)) (length-written now others ∙ len) count
    (λ k lt none.
    ⊎_elim
    (λ live.
    let is : (old k && new k && changed k) ≡ changed k = still (old k) (new k) (changed k) none live in
    ⊎_elim
    (λ yes. written_put d (λ j. old j && new j && changed j) (λ j. get_or target j d) n k now lt (omega (arith, count, len)) (is ∙ yes))
    (λ no. written_kept d (λ j. old j && new j && changed j) (λ j. get_or target j d) n k now (λ _. is ∙ no) ∙ same k no)
    (cases_Bool (changed k)))
    (λ gone. written_kept d (λ j. old j && new j && changed j) (λ j. get_or target j d) n k now (λ _. neither (old k) (new k) (changed k) gone) ∙ dead k gone)
    (cases_Bool (old k)))

module _ (old new : Hierarchy) (out : IsSameOutside old new) (like : AreAlike old new) where
  abbrev count : ℕ
  count = length old.order.live

  columns_back : written new.columns (flat_map column_write (changes old new)) ≡ old.columns
  columns_back =
      let t : ℕ → Bool = λ c. is_moved (place_of_column old c) (place_of_column new c) in
      let ws : List (ℕ × Option NodeId) = each_below (length old.columns) (λ c. only_if (t c) (c, place_of_column old c)) in
      ap (written new.columns)
      (seen old new column_write [] [] ws [] [] [] [] (no_nodes old new column_write (λ n x o. refl)) (no_pairs old new column_write (λ a b w. refl))
      (seen_each old new column_write (length old.columns) (column_change old new) (λ c. only_if (t c) (c, place_of_column old c))
      (λ c. place_write c (place_of_column old c) (place_of_column new c)))
      (no_rows old new column_write (λ r p. refl)) (no_types old new column_write (λ n x. refl)) (no_members old new column_write (λ c x. refl))
      (no_origins old new column_write (λ n o. refl)) ∙ nil_4 ws)
      ∙ written_back None new.columns old.columns (length old.columns) t like.columns refl
      (λ c lt e. same_place (place_of_column old c) (place_of_column new c) (out.dead c) e)

  rows_back : written new.rows (flat_map row_write (changes old new)) ≡ old.rows
  rows_back =
      let t : ℕ → Bool = λ r. not (place_of_row old r == place_of_row new r) in
      let ws : List (ℕ × NodeId) = each_below (length old.rows) (λ r. only_if (t r) (r, node (place_of_row old r))) in
      ap (written new.rows)
      (seen old new row_write [] [] [] ws [] [] [] (no_nodes old new row_write (λ n x o. refl)) (no_pairs old new row_write (λ a b w. refl))
      (no_columns old new row_write (λ c p. refl))
      (seen_each old new row_write (length old.rows) (row_change old new) (λ r. only_if (t r) (r, node (place_of_row old r)))
      (λ r. one_if row_write (t r) (Row (record { 0 = r }) (node (place_of_row old r))) (r, node (place_of_row old r)) refl))
      (no_types old new row_write (λ n x. refl)) (no_members old new row_write (λ c x. refl)) (no_origins old new row_write (λ n o. refl)) ∙ nil_3 ws)
      ∙ written_back (node 0) new.rows old.rows (length old.rows) t like.rows refl
      (λ r lt e. ap node (sym (eqb-true (place_of_row old r) (place_of_row new r) (from_not_false (place_of_row old r == place_of_row new r) e))))

  members_back : written new.members (flat_map member_write (changes old new)) ≡ old.members
  members_back =
      let t : ℕ → Bool = λ c. not (bytes_eq (member_name old c) (member_name new c)) in
      let ws : List (ℕ × List ℕ) = each_below (length old.members) (λ c. only_if (t c) (c, member_name old c)) in
      ap (written new.members)
      (seen old new member_write [] [] [] [] [] ws [] (no_nodes old new member_write (λ n x o. refl)) (no_pairs old new member_write (λ a b w. refl))
      (no_columns old new member_write (λ c p. refl)) (no_rows old new member_write (λ r p. refl)) (no_types old new member_write (λ n x. refl))
      (seen_each old new member_write (length old.members) (member_change old new) (λ c. only_if (t c) (c, member_name old c))
      (λ c. one_if member_write (t c) (MemberName (record { 0 = c }) (member_name old c)) (c, member_name old c) refl))
      (no_origins old new member_write (λ n o. refl)) ∙ append-nil ws)
      ∙ written_back [] new.members old.members (length old.members) t like.members refl
      (λ c lt e. sym (bytes_exact (member_name old c) (member_name new c) (from_not_false (bytes_eq (member_name old c) (member_name new c)) e)))

  types_back : written new.types (flat_map type_write (changes old new)) ≡ old.types
  types_back =
      let changed : ℕ → Bool = λ k. not (bytes_eq (type_name old k) (type_name new k)) in
      let lost : List (ℕ × List ℕ) = each_below count (λ k. only_if (is_lost old new k) (k, type_name old k)) in
      let others : List (ℕ × List ℕ) = each_below count (λ k. only_if (lives_on old new k && changed k) (k, type_name old k)) in
      ap (written new.types)
      (seen old new type_write lost [] [] [] others [] []
      (seen_each old new type_write count (node_change old new) (λ k. only_if (is_lost old new k) (k, type_name old k))
      (λ k. one_if type_write (is_lost old new k) (Node (node k) (type_name old k) (origin_of old k)) (k, type_name old k) refl))
      (no_pairs old new type_write (λ a b w. refl)) (no_columns old new type_write (λ c p. refl)) (no_rows old new type_write (λ r p. refl))
      (seen_each old new type_write count (type_change old new) (λ k. only_if (lives_on old new k && changed k) (k, type_name old k))
      (λ k. one_if type_write (lives_on old new k && changed k) (TypeName (node k) (type_name old k)) (k, type_name old k) refl))
      (no_members old new type_write (λ c x. refl)) (no_origins old new type_write (λ n o. refl))
      ∙ (nil_2 (lost ++ [] ++ [] ++ [] ++ others) ∙ ap (λ l. l ++ others) (nil_3 lost)))
      ∙ nodes_back [] new.types old.types count (is_live old.order) (is_live new.order) changed like.new_types (sym like.types)
      (λ k e. out.types k e)
      (λ k e. sym (bytes_exact (type_name old k) (type_name new k) (from_not_false (bytes_eq (type_name old k) (type_name new k)) e)))

  origins_back : written new.origins (flat_map origin_write (changes old new)) ≡ old.origins
  origins_back =
      let changed : ℕ → Bool = λ k. not (is_same_origin (origin_of old k) (origin_of new k)) in
      let lost : List (ℕ × Option ClassId) = each_below count (λ k. only_if (is_lost old new k) (k, origin_of old k)) in
      let others : List (ℕ × Option ClassId) = each_below count (λ k. only_if (lives_on old new k && changed k) (k, origin_of old k)) in
      ap (written new.origins)
      (seen old new origin_write lost [] [] [] [] [] others
      (seen_each old new origin_write count (node_change old new) (λ k. only_if (is_lost old new k) (k, origin_of old k))
      (λ k. one_if origin_write (is_lost old new k) (Node (node k) (type_name old k) (origin_of old k)) (k, origin_of old k) refl))
      (no_pairs old new origin_write (λ a b w. refl)) (no_columns old new origin_write (λ c p. refl)) (no_rows old new origin_write (λ r p. refl))
      (no_types old new origin_write (λ n x. refl)) (no_members old new origin_write (λ c x. refl))
      (seen_each old new origin_write count (origin_change old new) (λ k. only_if (lives_on old new k && changed k) (k, origin_of old k))
      (λ k. one_if origin_write (lives_on old new k && changed k) (Origin (node k) (origin_of old k)) (k, origin_of old k) refl))
      ∙ ap (λ l. l ++ others) (nil_5 lost))
      ∙ nodes_back None new.origins old.origins count (is_live old.order) (is_live new.order) changed like.new_origins (sym like.origins)
      (λ k e. out.origins k e)
      (λ k e. same_origin (origin_of old k) (origin_of new k) (from_not_false (is_same_origin (origin_of old k) (origin_of new k)) e))

  -- what is put back over the old order is the old hierarchy
  pub restored_back : restored (record new { order = old.order }) (changes old new) ≡ old
  restored_back = rw (columns_back, rows_back, types_back, members_back, origins_back, out.table) refl

  -- all that the differences name is there
  pub changes_fit : All (FitsIn (record new { order = old.order })) (changes old new)
  changes_fit =
      let H : Hierarchy = record new { order = old.order } in
      let P : Change → Type 0 = FitsIn H in
      let nodes : All P (node_changes old new) = All-each P count (node_change old new)
      (λ k lt. All-only P (is_lost old new k) (Node (node k) (type_name old k) (origin_of old k))
      (λ _. (omega (arith, lt, like.types, like.new_types), omega (arith, lt, like.origins, like.new_origins)))) in
      let pairs : All P (pair_changes old new) = All-each P count (λ a. each_below count (pair_change old new a))
      (λ a la. All-each P count (pair_change old new a)
      (λ b lb. All-only P (not (a == b) && differ (is_le old.order a b) (is_le new.order a b)) (Pair (node a) (node b) (is_le old.order a b)) (λ _. tt))) in
      let columns : All P (column_changes old new) = All-each P (length old.columns) (column_change old new)
      (λ c lt. place_fits c (omega (arith, lt, like.columns)) (place_of_column old c) (place_of_column new c)) in
      let rows : All P (row_changes old new) = All-each P (length old.rows) (row_change old new)
      (λ r lt. All-only P (not (place_of_row old r == place_of_row new r)) (Row (record { 0 = r }) (node (place_of_row old r))) (λ _. omega (arith, lt, like.rows))) in
      let types : All P (type_changes old new) = All-each P count (type_change old new)
      (λ k lt. All-only P (lives_on old new k && not (bytes_eq (type_name old k) (type_name new k))) (TypeName (node k) (type_name old k))
      (λ _. omega (arith, lt, like.types, like.new_types))) in
      let members : All P (member_changes old new) = All-each P (length old.members) (member_change old new)
      (λ c lt. All-only P (not (bytes_eq (member_name old c) (member_name new c))) (MemberName (record { 0 = c }) (member_name old c))
      (λ _. omega (arith, lt, like.members))) in
      let origins : All P (origin_changes old new) = All-each P count (origin_change old new)
      (λ k lt. All-only P (lives_on old new k && not (is_same_origin (origin_of old k) (origin_of new k))) (Origin (node k) (origin_of old k))
      (λ _. omega (arith, lt, like.origins, like.new_origins))) in
      All-append P _ (origin_changes old new)
      (All-append P _ (member_changes old new)
      (All-append P _ (type_changes old new)
      (All-append P _ (row_changes old new)
      (All-append P _ (column_changes old new) (All-append P (node_changes old new) (pair_changes old new) nodes pairs) columns) rows) types) members)
      origins
    where
      place_fits : (c : ℕ) → c < length new.columns → (a b : Option NodeId) → All (FitsIn (record new { order = old.order })) (changed_place c a b)
      place_fits c lt None b = λ i d below. absurd (omega (arith, below))
      place_fits c lt (Some p) b = All-only (FitsIn (record new { order = old.order })) (not (is_at p.0 b)) (Column (record { 0 = c }) p) (λ _. lt)
