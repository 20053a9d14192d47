-- Mirror. The obligations B2 to B7. Each is split into the half that stays where an order grows, and the rest.
use Rattle.std.specs.Prelude.{◌≡◌, ◌≢◌, ℕ, true, Some}
use Rattle.hier_laws.specs.Shapes.{Given, Shape, OffersColumn}

module _ (G : Given) (S : Shape) where
  -- the node of a site
  abbrev node_of : ℕ → ℕ
  node_of s = S.row (G.site_row s)

  -- e is another body of the slot of d, and stands at m
  pub record IsOther (d e m : ℕ) : Type 0 where
    pub body : G.is_body e ≡ true
    pub slot : G.slot_of e ≡ G.slot_of d
    pub other : e ≢ d
    pub stands : S.column e ≡ Some m

  -- e stands at or below d
  abbrev StandsBelow : ℕ → ℕ → Type 0
  StandsBelow m d = (k : ℕ) × (S.column d ≡ Some k) × (S.le m k ≡ true)

  -- B2: each row is offered all its columns
  abbrev pub RowsAreOffered : Type 0
  RowsAreOffered = (r c : ℕ) → G.has r c ≡ true → OffersColumn S (S.row r) c

  -- B3: for each tie the lower row stands at or below the upper
  abbrev pub TiesHold : Type 0
  TiesHold = (l u : ℕ) → G.tie l u ≡ true → S.le (S.row l) (S.row u) ≡ true

  -- B3: and each site in the set of a row at or below the row
  abbrev pub SitesHold : Type 0
  SitesHold = (o v : ℕ) → G.in_row o v ≡ true → S.le (node_of o) (S.row v) ≡ true

  -- B4: for each need the body is offered
  abbrev pub NeedsAreOffered : Type 0
  NeedsAreOffered = (s x d : ℕ) → G.needs s x d ≡ true → OffersColumn S (node_of s) d

  -- B4: and no other body of the slot that is offered there stands at or below it
  abbrev pub NoneIsNearer : Type 0
  NoneIsNearer = (s x d e m : ℕ) → G.needs s x d ≡ true → IsOther d e m → S.le (node_of s) m ≡ true → StandsBelow m d → ⊥

  -- B5: the body that a super call in D.n runs is offered at the node of D.n
  abbrev pub SupersAreOffered : Type 0
  SupersAreOffered = (r d : ℕ) → G.runs r d ≡ true → OffersColumn S (S.row r) d

  -- B5: and does not stand there, so that it stands strictly above
  abbrev pub SupersStandAbove : Type 0
  SupersStandAbove = (r d : ℕ) → G.runs r d ≡ true → S.column d ≢ Some (S.row r)

  -- B5: and no other body of the slot that stands strictly above D.n stands at or below it
  abbrev pub NoneIsBetween : Type 0
  NoneIsBetween = (r d e m : ℕ) → G.runs r d ≡ true → IsOther d e m → S.le (S.row r) m ≡ true → S.row r ≢ m → StandsBelow m d → ⊥

  -- B5: or belongs to class D
  abbrev pub NoneIsOwn : Type 0
  NoneIsOwn = (r d e m : ℕ) → G.runs r d ≡ true → IsOther d e m → S.le (S.row r) m ≡ true → S.row r ≢ m → G.class_of e ≢ G.row_class r

  -- B6: no node has two bodies of one slot
  abbrev pub BodiesAreApart : Type 0
  BodiesAreApart = (d e n : ℕ) → G.is_body d ≡ true → IsOther d e n → S.column d ≢ Some n

  -- B7: in each pair of a site and a target the site stands at or below the target's node where its class is a subtype of the target's
  abbrev pub TestsPass : Type 0
  TestsPass = (s t : ℕ) → G.meets s t ≡ true → G.below (G.site_class s) (G.row_class t) ≡ true → S.le (node_of s) (S.row t) ≡ true

  -- B7: and only there
  abbrev pub TestsFail : Type 0
  TestsFail = (s t : ℕ) → G.meets s t ≡ true → S.le (node_of s) (S.row t) ≡ true → G.below (G.site_class s) (G.row_class t) ≡ true

  -- the halves that stay where an order grows
  pub record Half : Type 0 where
    pub offered : RowsAreOffered
    pub tied : TiesHold
    pub held : SitesHold
    pub needed : NeedsAreOffered
    pub ran : SupersAreOffered
    pub passes : TestsPass

  -- the rest of B4 to B7
  pub record Rest : Type 0 where
    pub nearest : NoneIsNearer
    pub above : SupersStandAbove
    pub between : NoneIsBetween
    pub own : NoneIsOwn
    pub apart : BodiesAreApart
    pub fails : TestsFail
