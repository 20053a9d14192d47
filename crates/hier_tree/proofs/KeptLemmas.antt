-- The steps towards a tree keep what is kept, and are accepted.
use Rattle.std.proofs.Common.{◌≡◌, ◌≢◌, ℕ, ◌<◌, ⊎_elim, ◌==◌, ◌&&◌, not, Bool, true, false, List, length, Option, Some, None, All, refl, sym, ap, ◌∙◌, subst, arith, eqb-true, eq-eqb}
use Rattle.std.specs.Prelude.{is_some}
use Rattle.std.specs.Option.{option_map, option_map_or}
use Rattle.std.proofs.lemmas.Bool.{cases_Bool, false≢true, ltb-true}
use Rattle.std.proofs.lemmas.List.Elements.{All-contains}
use Rattle.kaba_base.specs.declared.NodeId.{NodeId}
use Rattle.kaba_base.specs.declared.ClassId.{ClassId}
use Rattle.kaba_bits.specs.Sets.{bit, or_else}
use Rattle.kaba_bits.proofs.SetLemmas.{bit-below}
use Rattle.kaba_order.specs.Orders.{is_le, is_live, is_among}
use Rattle.kaba_order.proofs.MergeLemmas.{among-All}
use Rattle.fact_model.specs.Classes.{same, below}
use Rattle.fact_model.specs.InRange.{InRange, IsRow, IsCol}
use Rattle.fact_model.specs.InOrder.{InOrder}
use Rattle.fact_model.specs.Flowing.{AreSets}
use Rattle.fact_model.specs.Entries.{IsTable}
use Rattle.fact_model.specs.declared.facts.Facts.{Facts}
use Rattle.fact_model.specs.declared.facts.SuperInfo.{SuperInfo}
use Rattle.fact_model.specs.declared.sets.PointsTo.{PointsTo}
use Rattle.fact_model.specs.declared.sets.Table.{Table}
use Rattle.fact_model.proofs.ClassLemmas.{below-then}
use Rattle.hier_model.specs.Hierarchies.{Hierarchy, node, place_of_column, place_of_row, origin_of, member_name, is_at, stands_at, IsHierarchyOf}
use Rattle.hier_model.specs.Edits.{under_order, first_between, merged}
use Rattle.hier_model.proofs.EditedOrders.{under_live}
use Rattle.hier_model.proofs.FitLemmas.{under_fits, merged_fits}
use Rattle.hier_laws.specs.Shapes.{Given, Shape}
use Rattle.hier_laws.specs.Obligations.{Half, NoneIsOwn}
use Rattle.hier_laws.specs.Starts.{Roles, IsClosed, AreInOrder}
use Rattle.hier_rules.specs.Obligations.{first_unoffered, first_untied, first_wrong_need, first_wrong_super, first_two_bodies, first_wrong_outcome}
use Rattle.hier_rules.specs.Names.{first_misnamed}
use Rattle.hier_rules.specs.First.{first_changed_run, first_of_edit}
use Rattle.hier_laws.proofs.GivenLemmas as facts
use Rattle.hier_laws.proofs.GivenLemmas.{given, roles, is_closed, in_order}
use Rattle.hier_laws.proofs.ShapeLemmas.{shape, placed}
use Rattle.hier_laws.proofs.MeetLemmas.{none_both, run_none}
use Rattle.hier_tree.specs.Origins.{AreOrderedFacts, Keeps, AreNamesApart, IsMadeOne, AreOfOrigin}
use Rattle.hier_tree.specs.Kept.{origin_at, field_at, slot_at, IsKept}
use Rattle.hier_tree.proofs.GrownLemmas.{fields_apart, slots_apart, rest_of_half, under_keeps, under_own, under_half, under_names, merge_keeps, merge_half, merge_names, merge_own}
use Rattle.hier_tree.proofs.ReadLemmas.{half_of, own_of}
use Rattle.hier_tree.proofs.MadeLemmas.{put_under, made_one, merged_lives, merged_count, same_origin, least, least_there}
use Rattle.hier_tree.proofs.NameLemmas.{AreNamesLeft, names_left, confused_none}
use Rattle.hier_laws.proofs.Unbroken.{none_of_edit}

-- the same origins
keeps_as : (G : Given) (S : Shape) (o p : ℕ → ℕ) → ((n : ℕ) → p n ≡ o n) → Keeps G S o → Keeps G S p
keeps_as G S o p e K = record {
  up = λ a b k. rw (e a, e b) (K.up a b k);
  columns = λ c n h. rw (e n) (K.columns c n h);
  bodies = λ c n b h. e n ∙ K.bodies c n b h;
  rows = λ r h. rw (e (S.row r)) (K.rows r h);
  supers = λ r d h. e (S.row r) ∙ K.supers r d h;
}

module _ (F : Facts) (pt : PointsTo) (t : Table) (R : InRange F) (O : InOrder F) (S : AreSets F pt) (T : IsTable F t) where
  abbrev G : Given
  G = given F pt t

  abbrev Q : Roles
  Q = roles F pt t

  closes : IsClosed G Q
  closes = is_closed F pt t R O S T

  ordered : AreInOrder G Q
  ordered = in_order F pt t R O S T

  pub orders : AreOrderedFacts G
  orders = record {
    through = λ a b c x y. facts.le F pt t R O S T a c (below-then F (facts.is_le F pt t R O S T a b x) (facts.is_le F pt t R O S T b c y));
    super_row = λ r d run.
        let x = facts.super_at F pt t R O S T r d run in
        let range = All-contains (λ (y : SuperInfo). IsRow F y.row × IsCol F y.column) F.supers.items x.0 R.supers x.1 in
        facts.is_row F pt t R O S T r (subst (λ k. k < length F.rows.items) x.2 range.0);
  }

  self_below : (k : ℕ) → below F k k ≡ true
  self_below k = facts.le F pt t R O S T k k same

  module _ (H : Hierarchy) (K : IsKept F pt t H) where
    open none_of_edit F pt H K.meets use {offered, tied, needs, supers, outcomes, misnamed}

    half : Half G (shape H)
    half = half_of F pt t R O S T H K.table offered tied needs supers outcomes

    own : NoneIsOwn G (shape H)
    own = own_of F pt t R O S T H K.table offered tied needs supers outcomes

    -- a hierarchy that keeps the halves that grow, and the last words of B5, is kept
    kept_by : (New : Hierarchy) → IsHierarchyOf F New → New.table ≡ t.rows.items → ((n : ℕ) → is_live New.order n ≡ true → is_some (origin_of New n) ≡ true)
        → Keeps G (shape New) (origin_at New) → AreNamesApart G (shape New) (field_at F) (slot_at F) (member_name New) → Half G (shape New)
        → NoneIsOwn G (shape New) → AreNamesLeft H New
        → IsKept F pt t New
    kept_by New fits table there keeps names half_new own_new left =
        let rest = rest_of_half G Q closes ordered orders (shape New) (origin_at New) keeps half_new own_new in
        let r = run_none F pt t New table half_new rest in
        let apart = confused_none F pt t New table
        (fields_apart G Q closes ordered orders (shape New) (origin_at New) keeps (field_at F) (slot_at F) (member_name New) names)
        (slots_apart G Q closes ordered orders (shape New) (origin_at New) keeps (field_at F) (slot_at F) (member_name New) names) in
        let run : first_changed_run F pt New ≡ None =
        none_both (first_wrong_need F pt New) (or_else (first_wrong_super F New) (or_else (first_two_bodies F New) (first_wrong_outcome F pt New))) r.2
        (none_both (first_wrong_super F New) (or_else (first_two_bodies F New) (first_wrong_outcome F pt New)) r.3
        (none_both (first_two_bodies F New) (first_wrong_outcome F pt New) r.4 r.5)) in
        let meets : first_of_edit F pt New ≡ None =
        none_both (first_unoffered F New) (or_else (first_untied F pt New) (or_else (first_changed_run F pt New) (first_misnamed F New))) r.0
        (none_both (first_untied F pt New) (or_else (first_changed_run F pt New) (first_misnamed F New)) r.1
        (none_both (first_changed_run F pt New) (first_misnamed F New) run (names_left F H New left misnamed apart))) in
        record { fits = fits; table = table; there = there; origins = keeps; names = names; meets = meets }

    -- where a column stands there is a node
    pub stands_below : (n c : ℕ) → stands_at H n c ≡ true → n < length H.order.live
    stands_below n c h = at (place_of_column H c) refl h
      where
        at : (o : Option NodeId) → place_of_column H c ≡ o → is_at n o ≡ true → n < length H.order.live
        at None e k = absurd (false≢true k)
        at (Some p) e k = let low = bit-below H.order.live p.0 (K.fits.placed.columns c p e) in let same : p.0 ≡ n = eqb-true p.0 n k in omega
            (arith, low, same)

    -- one node below another, where their origins are so and differ
    module _ (l h : ℕ) (ll : is_live H.order l ≡ true) (lh : is_live H.order h ≡ true) (lower : below F (origin_at H l) (origin_at H h) ≡ true)
        (differ : origin_at H l ≢ origin_at H h) where
      pub no_cycle : (is_le H.order h l && not (h == l)) ≡ false
      no_cycle =
          ⊎_elim
          (λ up. absurd (differ (ordered.both (origin_at H l) (origin_at H h) lower (K.origins.up h l up))))
          (λ none. ap (λ b. b && not (h == l)) none)
          (cases_Bool (is_le H.order h l))

      abbrev pub under_new : Hierarchy
      under_new = record H { order = under_order H.order l h }

      lives : (n : ℕ) → is_live under_new.order n ≡ true → is_live H.order n ≡ true
      lives n k = subst (λ (x : List Bool). bit x n ≡ true) (under_live H.order K.fits.sized.order l h) k

      pub under_kept : IsKept F pt t under_new
      under_kept =
          let made = put_under H K.fits.sized.order l h in
          kept_by under_new (under_fits F R H K.fits l h ll lh no_cycle) K.table (λ n k. K.there n (lives n k))
          (under_keeps G Q closes ordered orders (shape H) (origin_at H) K.origins l h (shape under_new) made lower differ)
          (under_names G Q closes ordered orders (shape H) (origin_at H) K.origins l h (shape under_new) made lower differ (field_at F) (slot_at F)
          (member_name H) K.names)
          (under_half G Q closes ordered orders (shape H) (origin_at H) K.origins l h (shape under_new) made lower differ half)
          (under_own G Q closes ordered orders (shape H) (origin_at H) K.origins l h (shape under_new) made lower differ own)
          (record {
            count = ap length (under_live H.order K.fits.sized.order l h);
            live = lives;
            types = refl;
            members = refl;
            stands = λ n c k. (n, stands_below n c k, k);
          })

    -- nodes of one origin as one
    module _ (set : List NodeId) (some : 0 < length set) (all : All (λ s. is_live H.order s.0 ≡ true) set) (k : ClassId)
        (each_of : All (λ s. origin_of H s.0 ≡ Some k) set) where
      abbrev pub merge_new : Hierarchy
      merge_new = merged F H set

      each : (s : ℕ) → is_among set s ≡ true → origin_of H s ≡ Some k
      each s h = among-All (λ x. origin_of H x ≡ Some k) set each_of s h

      of_origin : AreOfOrigin (is_among set) (least F H K.fits.sized.order set all some) k.0 (origin_at H)
      of_origin = record {
        each = λ x h. ap (λ o. option_map_or (λ (c : ClassId). c.0) o 0) (each x h);
        least = ap (λ o. option_map_or (λ (c : ClassId). c.0) o 0) (each (least F H K.fits.sized.order set all some)
            (least_there F H K.fits.sized.order set all some));
      }

      unmoved : (n : ℕ) → origin_of merge_new n ≡ origin_of H n
      unmoved = same_origin F H K.fits.sized.order set all some k (self_below k.0) each each_of K.fits.sized.origins

      module _ (none : first_between H.order set ≡ None) where
        made : IsMadeOne (shape H) (is_among set) (least F H K.fits.sized.order set all some) (shape merge_new)
        made = made_one F H K.fits.sized.order set all some none

        keeps_new : Keeps G (shape merge_new) (origin_at merge_new)
        keeps_new =
            keeps_as G (shape merge_new) (origin_at H) (origin_at merge_new) (λ n. ap (λ o. option_map_or (λ (c : ClassId). c.0) o 0) (unmoved n))
            (merge_keeps G Q closes ordered orders (shape H) (origin_at H) K.origins (is_among set) (least F H K.fits.sized.order set all some) k.0
            (shape merge_new) made of_origin)

        names_new : AreNamesApart G (shape merge_new) (field_at F) (slot_at F) (member_name merge_new)
        names_new = merge_names G Q closes ordered orders (shape H) (origin_at H) K.origins (is_among set) (least F H K.fits.sized.order set all some)
            k.0 (shape merge_new) made of_origin (field_at F) (slot_at F) (member_name H) K.names

        there_new : (n : ℕ) → is_live merge_new.order n ≡ true → is_some (origin_of merge_new n) ≡ true
        there_new n h = subst (λ o. is_some o ≡ true) (sym (unmoved n)) (K.there n (merged_lives F H K.fits.sized.order set all some none n h))

        -- where it is accepted
        pub merge_kept : first_of_edit F pt merge_new ≡ None → IsKept F pt t merge_new
        merge_kept meets = record {
          fits = merged_fits F R H K.fits set some all none;
          table = K.table;
          there = there_new;
          origins = keeps_new;
          names = names_new;
          meets = meets;
        }

        -- and where the nodes are all that have the origin
        module _ (whole : (x : ℕ) → is_live H.order x ≡ true → origin_at H x ≡ k.0 → is_among set x ≡ true) where
          columns_live : (c n : ℕ) → (shape H).column c ≡ Some n → is_live H.order n ≡ true
          columns_live c n h = K.fits.placed.columns c (node n) (placed H c n h)

          rows_live : (r : ℕ) → G.is_row r ≡ true → is_live H.order (place_of_row H r) ≡ true
          rows_live r h = K.fits.placed.rows r (ltb-true r (length F.rows.items) h)

          pub whole_kept : IsKept F pt t merge_new
          whole_kept =
              kept_by merge_new (merged_fits F R H K.fits set some all none) K.table there_new keeps_new names_new
              (merge_half G Q closes ordered orders (shape H) (origin_at H) K.origins (is_among set) (least F H K.fits.sized.order set all some) k.0
              (shape merge_new) made of_origin half)
              (merge_own G Q closes ordered orders (shape H) (origin_at H) K.origins (is_among set) (least F H K.fits.sized.order set all some) k.0
              (shape merge_new) made of_origin
              (is_live H.order) columns_live rows_live whole own)
              (record {
                count = merged_count F H K.fits.sized.order set all some none;
                live = merged_lives F H K.fits.sized.order set all some none;
                types = refl;
                members = refl;
                stands = stood;
              })
            where
              stood : (n c : ℕ) → stands_at merge_new n c ≡ true → (j : ℕ) × (j < length H.order.live) × (stands_at H j c ≡ true)
              stood n c h = at (place_of_column H c) refl (place_of_column merge_new c) refl h
                where
                  at : (o : Option NodeId) → place_of_column H c ≡ o → (q : Option NodeId) → place_of_column merge_new c ≡ q → is_at n q ≡ true
                      → (j : ℕ) × (j < length H.order.live) × (stands_at H j c ≡ true)
                  at o e None f k = absurd (false≢true k)
                  at o e (Some q) f k =
                      let back = made.column c q.0 (ap (option_map (λ (x : NodeId). x.0)) f) in
                      let here : stands_at H back.0 c ≡ true = ap (is_at back.0) (placed H c back.0 back.1) ∙ eq-eqb back.0 back.0 refl in
                      (back.0, stands_below back.0 c here, here)
