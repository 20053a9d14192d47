-- The start meets B2 to B7, and offers no two fields of one name.
use Rattle.std.proofs.Common.{◌≡◌, ◌≢◌, ⊎_elim, ℕ, List, Bool, true, false, Some, sym, ◌∙◌, subst}
use Rattle.std.proofs.lemmas.Bool.{cases_eq, cases_Bool}
use Rattle.hier_laws.specs.Shapes.{Given, Shape, OffersColumn}
use Rattle.hier_laws.specs.Obligations.{IsOther, Half, Rest}
use Rattle.hier_laws.specs.Starts.{Roles, IsClosed, AreInOrder, IsStart, AreNamed}

-- fields at or above one class have different names
module _ (G : Given) (is_field is_made : ℕ → Bool) (old new : ℕ → List ℕ) (N : AreNamed G is_field is_made old new) where
  kept_apart : (a c d : ℕ) → is_field c ≡ true → is_field d ≡ true → G.below a (G.class_of c) ≡ true → G.below a (G.class_of d) ≡ true
      → is_made c ≡ false → is_made d ≡ false → old c ≡ old d → c ≡ d
  kept_apart a c d fc fd ac ad mc md e =
      ⊎_elim
      (λ one. N.apart c d fc fd one e)
      (λ two. ⊎_elim
      (λ le. absurd (cc (mc, N.again c d fc fd e le two)))
      (λ le. absurd (cc (md, N.again d c fd fc (sym e) le (λ x. two (sym x)))))
      (N.chain a c d fc fd ac ad))
      (cases_eq (G.class_of c) (G.class_of d))

  pub named_apart : (a c d : ℕ) → is_field c ≡ true → is_field d ≡ true → G.below a (G.class_of c) ≡ true → G.below a (G.class_of d) ≡ true
      → new c ≡ new d → c ≡ d
  named_apart a c d fc fd ac ad e =
      ⊎_elim
      (λ mc. ⊎_elim (λ md. N.once c d mc md e) (λ md. absurd (N.made c d mc fd md (e ∙ N.kept d md))) (cases_Bool (is_made d)))
      (λ mc. ⊎_elim
      (λ md. absurd (N.made d c md fc mc (sym e ∙ N.kept c mc)))
      (λ md. kept_apart a c d fc fd ac ad mc md (sym (N.kept c mc) ∙ e ∙ N.kept d md))
      (cases_Bool (is_made d)))
      (cases_Bool (is_made c))

module _ (G : Given) (R : Roles) (T : IsClosed G R) (O : AreInOrder G R) (S : Shape) (B : IsStart G S) where
  -- all rows that have e have d
  abbrev pub Under : ℕ → ℕ → Type 0
  Under e d = (r : ℕ) → G.has r e ≡ true → G.has r d ≡ true

  -- a body all of whose rows have another belongs to a class at or below the other's
  pub under_class : (d e : ℕ) → G.is_body e ≡ true → Under e d → G.below (G.class_of e) (G.class_of d) ≡ true
  under_class d e b u =
      let v = O.this_there e b in
      subst (λ x. G.below x (G.class_of d) ≡ true) (O.this_body v.0 e v.1).1 (T.above v.0 d (u v.0 (T.by_this v.0 e v.1)))

  offers : (r c : ℕ) → G.has r c ≡ true → OffersColumn S (S.row r) c
  offers r c h =
      let n = B.there r c h in
      record { at = n.0; stands = n.1; above = (B.columns r c n.0 (T.rows r c h) n.1).1 h }

  -- a `this` stands where its body does
  pub this_at : (v d n : ℕ) → R.is_this v d ≡ true → S.column d ≡ Some n → S.row v ≡ n
  this_at v d n t at =
      let row = T.rows v d (T.by_this v d t) in
      B.both (S.row v) n ((B.columns v d n row at).1 (T.by_this v d t)) ((B.column_row d n v row at).1 (λ w h c k. T.by_body w v c d h t k))

  pub start_half : Half G S
  start_half = record {
    offered = offers;
    tied = λ l u k. let rows = O.tie_rows l u k in (B.rows l u rows.0 rows.1).1 (λ c h. T.by_tie l u c k h);
    held = λ s v k. let rows = O.site_rows s v k in (B.rows (G.site_row s) v rows.0 rows.1).1 (λ c h. T.by_site s v c k h);
    needed = λ s x d k. offers (G.site_row s) d (T.by_need s x d k);
    ran = λ r d k. offers r d (T.by_super r d k);
    passes = λ s t k b.
        let rows = O.meet_rows s t k in
        (B.rows (G.site_row s) t rows.1 rows.2).1 (λ c h. T.by_site s t c (O.passes s t k b) h);
  }

  -- what stands at or above a row's node the row has
  has_above : (r c n : ℕ) → G.is_row r ≡ true → S.column c ≡ Some n → S.le (S.row r) n ≡ true → G.has r c ≡ true
  has_above r c n row at le = (B.columns r c n row at).0 le

  nearest : (s x d e m : ℕ) → G.needs s x d ≡ true → IsOther G S d e m → S.le (S.row (G.site_row s)) m ≡ true → (k : ℕ) × (S.column d ≡ Some k)
      × (S.le m k ≡ true) → ⊥
  nearest s x d e m need is le below =
      let u = (B.under e d m below.0 is.stands below.1).0 below.2 in
      let has = has_above (G.site_row s) e m (T.rows (G.site_row s) d (T.by_need s x d need)) is.stands le in
      is.other (O.one_body e d is.body (O.need_body s x d need) is.slot
      (O.both (G.class_of e) (G.class_of d) (under_class d e is.body u) (O.need_nearest s x d e need is.body is.slot (T.above (G.site_row s) e has))))

  -- a body strictly above the node of a super call is not of the class that the call stands in
  own : (r d e m : ℕ) → G.runs r d ≡ true → IsOther G S d e m → S.le (S.row r) m ≡ true → S.row r ≢ m → G.class_of e ≢ G.row_class r
  own r d e m k is le strict same =
      let t = O.super_this r d k in
      let has = has_above r e m (T.rows r d (T.by_super r d k)) is.stands le in
      strict (this_at r e m (T.own r e has is.body same (O.this_body r t.0 t.1).2) is.stands)

  between : (r d e m : ℕ) → G.runs r d ≡ true → IsOther G S d e m → S.le (S.row r) m ≡ true → S.row r ≢ m → (k : ℕ) × (S.column d ≡ Some k)
      × (S.le m k ≡ true) → ⊥
  between r d e m k is le strict below =
      let u = (B.under e d m below.0 is.stands below.1).0 below.2 in
      let has = has_above r e m (T.rows r d (T.by_super r d k)) is.stands le in
      is.other (O.one_body e d is.body (O.super_body r d k).0 is.slot
      (O.both (G.class_of e) (G.class_of d) (under_class d e is.body u) (O.super_nearest r d e k is.body is.slot (T.above r e has)
      (own r d e m k is le strict))))

  above : (r d : ℕ) → G.runs r d ≡ true → S.column d ≢ Some (S.row r)
  above r d k at =
      let body = O.super_body r d k in
      let mine = O.super_this r d k in
      let v = O.this_there d body.0 in
      let place = B.there r mine.0 (T.by_this r mine.0 mine.1) in
      -- d stands where the call's own body does, so all rows with the one have the other
      let same : S.row r ≡ place.0 = this_at r mine.0 place.0 mine.1 place.1 in
      let le : S.le (S.row r) place.0 ≡ true = (B.columns r mine.0 place.0 (T.rows r d (T.by_super r d k)) place.1).1 (T.by_this r mine.0 mine.1) in
      let u = (B.under d mine.0 (S.row r) place.0 at place.1).0 le in
      let up = under_class mine.0 d body.0 u in
      body.1 (O.both (G.class_of d) (G.row_class r) (subst (λ x. G.below (G.class_of d) x ≡ true) (sym (O.this_body r mine.0 mine.1).1) up)
      (T.above r d (T.by_super r d k)))

  apart : (d e n : ℕ) → G.is_body d ≡ true → IsOther G S d e n → S.column d ≢ Some n
  apart d e n bd is at =
      let same = B.under d e n n at is.stands in
      let back = B.under e d n n is.stands at in
      let le : S.le n n ≡ true = self d n at in
      is.other (O.one_body e d is.body bd is.slot (O.both (G.class_of e) (G.class_of d) (under_class d e is.body (back.0 le)) (under_class e d bd (same.0 le))))
    where
      self : (d n : ℕ) → S.column d ≡ Some n → S.le n n ≡ true
      self d n at = (B.under d d n n at at).1 (λ r h. h)

  fails : (s t : ℕ) → G.meets s t ≡ true → S.le (S.row (G.site_row s)) (S.row t) ≡ true → G.below (G.site_class s) (G.row_class t) ≡ true
  fails s t k le =
      let rows = O.meet_rows s t k in
      let mark = O.marked s t k in
      let has = (B.rows (G.site_row s) t rows.1 rows.2).0 le mark.0 mark.1 in
      subst (λ x. G.below (G.site_class s) x ≡ true) mark.2 (subst (λ x. G.below x (G.class_of mark.0) ≡ true) rows.0 (T.above (G.site_row s) mark.0 has))

  pub start_rest : Rest G S
  start_rest = record { nearest = nearest; above = above; between = between; own = own; apart = apart; fails = fails }

  -- what a node offers some row has
  pub offered_row : (n c d : ℕ) → OffersColumn S n c → OffersColumn S n d → (r : ℕ) × (G.has r c ≡ true) × (G.has r d ≡ true)
  offered_row n c d f g =
      let r = B.extent n f.at f.above in (
        r.0,
        has_above r.0 c f.at r.1 f.stands (B.through (S.row r.0) n f.at r.2 f.above),
        has_above r.0 d g.at r.1 g.stands
            (B.through (S.row r.0) n g.at r.2 g.above),
      )

  module _ (is_field is_made : ℕ → Bool) (old new : ℕ → List ℕ) (N : AreNamed G is_field is_made old new) where
    -- no node offers two fields of one name
    pub start_fields : (n c d : ℕ) → is_field c ≡ true → is_field d ≡ true → OffersColumn S n c → OffersColumn S n d → new c ≡ new d → c ≡ d
    start_fields n c d fc fd oc od e =
        let r = offered_row n c d oc od in
        named_apart G is_field is_made old new N (G.row_class r.0) c d fc fd (T.above r.0 c r.1) (T.above r.0 d r.2) e
