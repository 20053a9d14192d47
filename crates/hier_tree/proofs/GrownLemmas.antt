-- The steps towards a tree: they keep that the origins fit, and with that the obligations hold.
use Rattle.std.proofs.Common.{◌≡◌, ◌≢◌, ◌⊎◌, inl, inr, ⊎_elim, ℕ, List, Bool, true, false, ◌||◌, ◌&&◌, cond, Option, Some, refl, sym, ap, ◌∙◌, subst}
use Rattle.std.proofs.lemmas.Bool.{cases_Bool}
use Rattle.hier_laws.specs.Shapes.{Given, Shape, OffersColumn}
use Rattle.hier_laws.specs.Obligations.{IsOther, NoneIsOwn, Half, Rest}
use Rattle.hier_laws.specs.Starts.{Roles, IsClosed, AreInOrder}
use Rattle.hier_tree.specs.Origins.{AreOrderedFacts, Keeps, AreNamesApart, IsPutUnder, becomes, IsMadeOne, AreOfOrigin}

or_cases : (x y z : Bool) → (x || (y && z)) ≡ true → (x ≡ true) ⊎ ((y ≡ true) × (z ≡ true))
or_cases true y z k = inl refl
or_cases false true true k = inr (refl, refl)
or_cases false true false k = inl k
or_cases false false z k = inl k

module _ (G : Given) (R : Roles) (T : IsClosed G R) (O : AreInOrder G R) (W : AreOrderedFacts G) (S : Shape) (o : ℕ → ℕ) (K : Keeps G S o) where
  -- what stands at or above a node has a class at or above its origin
  pub above_origin : (n c : ℕ) → OffersColumn S n c → G.below (o n) (G.class_of c) ≡ true
  above_origin n c f = W.through (o n) (o f.at) (G.class_of c) (K.up n f.at f.above) (K.columns c f.at f.stands)

  -- no node offers two fields, or two slots, of one name
  pub fields_apart : (is_field : ℕ → Bool) (slot : ℕ → Option ℕ) (name : ℕ → List ℕ) → AreNamesApart G S is_field slot name
      → (n c d : ℕ) → is_field c ≡ true → is_field d ≡ true → OffersColumn S n c → OffersColumn S n d → name c ≡ name d → c ≡ d
  fields_apart is_field slot name N n c d fc fd oc od e = N.fields (o n) c d oc.at od.at fc fd oc.stands od.stands (above_origin n c oc) (above_origin n d od) e

  pub slots_apart : (is_field : ℕ → Bool) (slot : ℕ → Option ℕ) (name : ℕ → List ℕ) → AreNamesApart G S is_field slot name
      → (n c d x y : ℕ) → slot c ≡ Some x → slot d ≡ Some y → OffersColumn S n c → OffersColumn S n d → name c ≡ name d → x ≡ y
  slots_apart is_field slot name N n c d x y sc sd oc od e = N.slots (o n) c d oc.at od.at x y sc sd oc.stands od.stands (above_origin n c oc)
      (above_origin n d od) e

  body_below : (d e m k : ℕ) → G.is_body d ≡ true → G.is_body e ≡ true → S.column e ≡ Some m → S.column d ≡ Some k → S.le m k ≡ true
      → G.below (G.class_of e) (G.class_of d) ≡ true
  body_below d e m k bd be ce cd le =
      subst (λ x. G.below x (G.class_of d) ≡ true) (K.bodies e m be ce) (subst (λ x. G.below (o m) x ≡ true) (K.bodies d k bd cd) (K.up m k le))

  -- a body at or above the node of a row has a class at or above the row's
  row_below : (r e m : ℕ) → G.is_row r ≡ true → G.is_body e ≡ true → S.column e ≡ Some m → S.le (S.row r) m ≡ true
      → G.below (G.row_class r) (G.class_of e) ≡ true
  row_below r e m row be ce le =
      W.through (G.row_class r) (o (S.row r)) (G.class_of e) (K.rows r row)
      (subst (λ x. G.below (o (S.row r)) x ≡ true) (K.bodies e m be ce) (K.up (S.row r) m le))

  -- the rest of B4 to B7 from the origins, the halves that grow, and the last words of B5
  pub rest_of_half : Half G S → NoneIsOwn G S → Rest G S
  rest_of_half H N = record {
    nearest = λ s x d e m need is le below.
        let bd = O.need_body s x d need in
        let row = T.rows (G.site_row s) d (T.by_need s x d need) in
        is.other (O.one_body e d is.body bd is.slot
        (O.both (G.class_of e) (G.class_of d) (body_below d e m below.0 bd is.body is.stands below.1 below.2)
        (O.need_nearest s x d e need is.body is.slot (row_below (G.site_row s) e m row is.body is.stands le))));
    above = λ r d run at. let bd = O.super_body r d run in bd.1 (sym (K.bodies d (S.row r) bd.0 at) ∙ K.supers r d run);
    between = λ r d e m run is le strict below.
        let bd = (O.super_body r d run).0 in
        is.other (O.one_body e d is.body bd is.slot
        (O.both (G.class_of e) (G.class_of d) (body_below d e m below.0 bd is.body is.stands below.1 below.2)
        (O.super_nearest r d e run is.body is.slot (row_below r e m (W.super_row r d run) is.body is.stands le) (N r d e m run is le strict))));
    own = N;
    apart = λ d e n bd is at. is.other (O.one_body e d is.body bd is.slot (sym (K.bodies e n is.body is.stands) ∙ K.bodies d n bd at));
    fails = λ s t meet le.
        let rows = O.meet_rows s t meet in
        let mark = O.marked s t meet in
        subst (λ x. G.below x (G.row_class t) ≡ true) rows.0
        (W.through (G.row_class (G.site_row s)) (o (S.row (G.site_row s))) (G.row_class t) (K.rows (G.site_row s) rows.1)
        (W.through (o (S.row (G.site_row s))) (o (S.row t)) (G.row_class t) (K.up (S.row (G.site_row s)) (S.row t) le)
        (subst (λ x. G.below (o (S.row t)) x ≡ true) mark.2 (above_origin (S.row t) mark.0 (H.offered t mark.0 mark.1)))));
  }

  -- nodes of different origins are put one below the other, as their origins are
  module _ (l h : ℕ) (New : Shape) (U : IsPutUnder S l h New) (lower : G.below (o l) (o h) ≡ true) (differ : o l ≢ o h) where
    still : (a b : ℕ) → S.le a b ≡ true → New.le a b ≡ true
    still a b k = rw (U.le a b, k) refl

    split : (a b : ℕ) → New.le a b ≡ true → (S.le a b ≡ true) ⊎ ((S.le a l ≡ true) × (S.le h b ≡ true))
    split a b k = or_cases (S.le a b) (S.le a l) (S.le h b) (sym (U.le a b) ∙ k)

    pub under_keeps : Keeps G New o
    under_keeps = record {
      up = λ a b k. ⊎_elim (λ x. K.up a b x)
          (λ x. W.through (o a) (o l) (o b) (K.up a l x.0) (W.through (o l) (o h) (o b) lower (K.up h b x.1))) (split a b k);
      columns = λ c n k. K.columns c n (sym (U.column c) ∙ k);
      bodies = λ c n b k. K.bodies c n b (sym (U.column c) ∙ k);
      rows = λ r k. rw (U.row r) (K.rows r k);
      supers = λ r d k. ap o (U.row r) ∙ K.supers r d k;
    }

    -- a new pair has different origins
    new_differs : (a b : ℕ) → S.le a l ≡ true → S.le h b ≡ true → o a ≢ o b
    new_differs a b x y e = differ (O.both (o l) (o h) lower (W.through (o h) (o b) (o l) (K.up h b y) (subst (λ z. G.below z (o l) ≡ true) e (K.up a l x))))

    pub under_own : NoneIsOwn G S → NoneIsOwn G New
    under_own N r d e m run is le strict same =
        let at : S.column e ≡ Some m = sym (U.column e) ∙ is.stands in
        let old : IsOther G S d e m = record { body = is.body; slot = is.slot; other = is.other; stands = at } in
        ⊎_elim
        (λ x. N r d e m run old x (λ k. strict (U.row r ∙ k)) same)
        (λ x. new_differs (S.row r) m x.0 x.1 (K.supers r d run ∙ sym same ∙ sym (K.bodies e m is.body at)))
        (split (S.row r) m (subst (λ x. New.le x m ≡ true) (U.row r) le))

    offers : (n c : ℕ) → OffersColumn S n c → OffersColumn New n c
    offers n c f = record { at = f.at; stands = U.column c ∙ f.stands; above = still n f.at f.above }

    pub under_half : Half G S → Half G New
    under_half H = record {
      offered = λ r c k. rw (U.row r) (offers (S.row r) c (H.offered r c k));
      tied = λ r v k. rw (U.row r, U.row v) (still (S.row r) (S.row v) (H.tied r v k));
      held = λ s v k. rw (U.row (G.site_row s), U.row v) (still (S.row (G.site_row s)) (S.row v) (H.held s v k));
      needed = λ s x d k. rw (U.row (G.site_row s)) (offers (S.row (G.site_row s)) d (H.needed s x d k));
      ran = λ r d k. rw (U.row r) (offers (S.row r) d (H.ran r d k));
      passes = λ s t k b. rw (U.row (G.site_row s), U.row t) (still (S.row (G.site_row s)) (S.row t) (H.passes s t k b));
    }

    pub under_names : (is_field : ℕ → Bool) (slot : ℕ → Option ℕ) (name : ℕ → List ℕ) → AreNamesApart G S is_field slot name
        → AreNamesApart G New is_field slot name
    under_names is_field slot name N = record {
      fields = λ a c d n m fc fd cc cd. N.fields a c d n m fc fd (sym (U.column c) ∙ cc) (sym (U.column d) ∙ cd);
      slots = λ a c d n m x y sc sd cc cd. N.slots a c d n m x y sc sd (sym (U.column c) ∙ cc) (sym (U.column d) ∙ cd);
    }

  -- nodes of one origin become one
  module _ (set : ℕ → Bool) (m k : ℕ) (New : Shape) (M : IsMadeOne S set m New) (A : AreOfOrigin set m k o) where
    same_origin : (x : ℕ) → o (becomes set m x) ≡ o x
    same_origin x = ⊎_elim (λ h. rw h (A.least ∙ sym (A.each x h))) (λ h. rw h refl) (cases_Bool (set x))

    row_origin : (r : ℕ) → o (New.row r) ≡ o (S.row r)
    row_origin r = rw (M.row r) (same_origin (S.row r))

    column_origin : (c n : ℕ) (p : (j : ℕ) × (S.column c ≡ Some j) × (n ≡ becomes set m j)) → o n ≡ o p.0
    column_origin c n p = ap o p.2 ∙ same_origin p.0

    up_new : (a b : ℕ) → New.le a b ≡ true → G.below (o a) (o b) ≡ true
    up_new a b h =
        ⊎_elim (λ x. K.up a b x)
        (λ x. W.through (o a) k (o b)
        (subst (λ y. G.below (o a) y ≡ true) (A.each x.0.0 x.0.1) (K.up a x.0.0 x.0.2))
        (subst (λ y. G.below y (o b) ≡ true) (A.each x.1.0 x.1.1) (K.up x.1.0 b x.1.2)))
        (M.only a b h)

    pub merge_keeps : Keeps G New o
    merge_keeps = record {
      up = up_new;
      columns = λ c n h. let p = M.column c n h in subst (λ x. G.below x (G.class_of c) ≡ true) (sym (column_origin c n p)) (K.columns c p.0 p.1);
      bodies = λ c n b h. let p = M.column c n h in column_origin c n p ∙ K.bodies c p.0 b p.1;
      rows = λ r h. rw (row_origin r) (K.rows r h);
      supers = λ r d h. row_origin r ∙ K.supers r d h;
    }

    moved : (n c : ℕ) → OffersColumn S n c → OffersColumn New (becomes set m n) c
    moved n c f = record { at = becomes set m f.at; stands = M.column_holds c f.at f.stands; above = M.holds n f.at f.above }

    pub merge_half : Half G S → Half G New
    merge_half H = record {
      offered = λ r c h. rw (M.row r) (moved (S.row r) c (H.offered r c h));
      tied = λ r v h. rw (M.row r, M.row v) (M.holds (S.row r) (S.row v) (H.tied r v h));
      held = λ s v h. rw (M.row (G.site_row s), M.row v) (M.holds (S.row (G.site_row s)) (S.row v) (H.held s v h));
      needed = λ s x d h. rw (M.row (G.site_row s)) (moved (S.row (G.site_row s)) d (H.needed s x d h));
      ran = λ r d h. rw (M.row r) (moved (S.row r) d (H.ran r d h));
      passes = λ s t h b. rw (M.row (G.site_row s), M.row t) (M.holds (S.row (G.site_row s)) (S.row t) (H.passes s t h b));
    }

    pub merge_names : (is_field : ℕ → Bool) (slot : ℕ → Option ℕ) (name : ℕ → List ℕ) → AreNamesApart G S is_field slot name
        → AreNamesApart G New is_field slot name
    merge_names is_field slot name N = record {
      fields = λ a c d n j fc fd cc cd. let p = M.column c n cc in let q = M.column d j cd in N.fields a c d p.0 q.0 fc fd p.1 q.1;
      slots = λ a c d n j x y sc sd cc cd. let p = M.column c n cc in let q = M.column d j cd in N.slots a c d p.0 q.0 x y sc sd p.1 q.1;
    }

    -- where the set has all nodes of the origin
    module _ (lives : ℕ → Bool) (columns_live : (c n : ℕ) → S.column c ≡ Some n → lives n ≡ true) (rows_live : (r : ℕ) → G.is_row r ≡ true
        → lives (S.row r) ≡ true)
        (whole : (x : ℕ) → lives x ≡ true → o x ≡ k → set x ≡ true) where
      row_lives : (r d a : ℕ) → a ≡ S.row r → G.runs r d ≡ true → lives a ≡ true
      row_lives r d a ra run = subst (λ x. lives x ≡ true) (sym ra) (rows_live r (W.super_row r d run))

      none_at : NoneIsOwn G S → (r d e a b : ℕ) → a ≡ S.row r → G.runs r d ≡ true → IsOther G S d e b → G.class_of e ≡ G.row_class r → o a ≡ o b
          → New.le (becomes set m a) (becomes set m b) ≡ true → becomes set m a ≢ becomes set m b → (set a ≡ true) ⊎ (set a ≡ false) → (set b ≡ true)
          ⊎ (set b ≡ false) → ⊥
      none_at N r d e a b ra run is same ends le other (inl x) (inl y) = other (ap (λ z. cond z m a) x ∙ sym (ap (λ z. cond z m b) y))
      none_at N r d e a b ra run is same ends le other (inl x) (inr y) = cc (whole b (columns_live e b is.stands) (sym ends ∙ A.each a x), y)
      none_at N r d e a b ra run is same ends le other (inr x) (inl y) = cc (whole a (row_lives r d a ra run) (ends ∙ A.each b y), x)
      none_at N r d e a b ra run is same ends le other (inr x) (inr y) =
          let ta : becomes set m a ≡ a = ap (λ z. cond z m a) x in
          let tb : becomes set m b ≡ b = ap (λ z. cond z m b) y in
          let le2 : New.le a b ≡ true = subst (λ z. New.le a z ≡ true) tb (subst (λ z. New.le z (becomes set m b) ≡ true) ta le) in
          let ne : a ≢ b = λ z. other (ta ∙ z ∙ sym tb) in
          ⊎_elim
          (λ z. N r d e b run is (subst (λ w. S.le w b ≡ true) ra z) (λ w. ne (ra ∙ w)) same)
          (λ z.
          let up : G.below (o a) k ≡ true = subst (λ w. G.below (o a) w ≡ true) (A.each z.0.0 z.0.1) (K.up a z.0.0 z.0.2) in
          let down : G.below k (o a) ≡ true =
          subst (λ w. G.below k w ≡ true) (sym ends) (subst (λ w. G.below w (o b) ≡ true) (A.each z.1.0 z.1.1) (K.up z.1.0 b z.1.2)) in
          cc (whole a (row_lives r d a ra run) (O.both (o a) k up down), x))
          (M.only a b le2)

      -- two nodes of one origin are ordered only as before
      pub merge_own : NoneIsOwn G S → NoneIsOwn G New
      merge_own N r d e n run is le strict same =
          let p = M.column e n is.stands in
          let old : IsOther G S d e p.0 = record { body = is.body; slot = is.slot; other = is.other; stands = p.1 } in
          let ends : o (S.row r) ≡ o p.0 = K.supers r d run ∙ sym same ∙ sym (K.bodies e p.0 is.body p.1) in
          let le2 : New.le (becomes set m (S.row r)) (becomes set m p.0) ≡ true =
          subst (λ x. New.le x (becomes set m p.0) ≡ true) (M.row r) (subst (λ x. New.le (New.row r) x ≡ true) p.2 le) in
          let strict2 : becomes set m (S.row r) ≢ becomes set m p.0 = λ x. strict (M.row r ∙ x ∙ sym p.2) in
          none_at N r d e (S.row r) p.0 refl run old same ends le2 strict2 (cases_Bool (set (S.row r))) (cases_Bool (set p.0))
