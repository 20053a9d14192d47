-- Believed. Facts in order: what the facts of a program have beyond being in range, and what the table and the start of
-- the hierarchy rest on.
use Rattle.std.specs.Prelude.{◌≡◌, ◌≢◌, ℕ, ◌<◌, ◌⊎◌, true, false, List, length, All, AllPairs, Contains, Some, None, is_some, codes}
use Rattle.kaba_bits.specs.Sets.{bit, row}
use Rattle.kaba_base.specs.Words.{is_name}
use Rattle.kaba_base.specs.declared.ColId.{ColId}
use Rattle.kaba_base.specs.declared.ClassId.{ClassId}
use Rattle.kaba_base.specs.declared.SiteId.{SiteId}
use Rattle.fact_model.specs.Items.{site_at, cell_at, row_at, column_at, point_row, site_class, site_row, row_class, row_this, is_object_row, column_class, column_kind, column_slot, IsColumn}
use Rattle.fact_model.specs.Classes.{parent_of, faces_of, IsBelow, IsAcyclic, is_interface, finds}
use Rattle.fact_model.specs.Flowing.{IsInRow}
use Rattle.fact_model.specs.declared.facts.Facts.{Facts}
use Rattle.fact_model.specs.declared.facts.MakerNames.{MakerNames}
use Rattle.fact_model.specs.declared.sets.Table.{Table}
use Rattle.fact_model.specs.declared.facts.BodyInfo.{BodyInfo}
use Rattle.fact_model.specs.declared.facts.CastInfo.{CastInfo}
use Rattle.fact_model.specs.declared.facts.TieInfo.{TieInfo}
use Rattle.fact_model.specs.declared.facts.TestInfo.{TestInfo}
use Rattle.fact_model.specs.declared.facts.ColKind.TheVariants.{Fld, Dcl, Def, Is}

module _ (F : Facts) where
  -- a column that is the body of an instance method
  abbrev pub IsDef : ℕ → Type 0
  IsDef d = column_kind F d ≡ Def

  -- a column that is a member: a field, a declaration or a body
  abbrev pub IsMember : ℕ → Type 0
  IsMember c = (c < length F.columns.items) × (column_kind F c ≢ Is)

  -- the classes and interfaces
  pub record AreClassesInOrder : Type 0 where
    pub acyclic : IsAcyclic F
    -- class 0 is above every type
    pub top : (a : ℕ) → a < length F.classes.items → IsBelow F a 0
    -- a class's parent is a class
    pub parents : (a : ℕ) (p : ClassId) → is_interface F a ≡ false → parent_of F a ≡ Some p → is_interface F p.0 ≡ false
    -- a face is an interface
    pub faces : (a : ℕ) (f : ClassId) → Contains (faces_of F a) f → is_interface F f.0 ≡ true
    -- an interface has no parent but class 0
    pub roots : (a : ℕ) (p : ClassId) → is_interface F a ≡ true → parent_of F a ≡ Some p → p.0 ≡ 0
    -- fields and bodies belong to classes
    pub fields : (c : ℕ) → c < length F.columns.items → (column_kind F c ≡ Fld) ⊎ (column_kind F c ≡ Def) → is_interface F (column_class F c) ≡ false

  -- rows, columns and sites have types that fit
  pub record AreTypesInOrder : Type 0 where
    pub ties : All (λ t. IsBelow F (row_class F t.lower.0) (row_class F t.upper.0)) F.ties.items
    pub accesses : All (λ x. IsBelow F (row_class F x.row.0) (column_class F x.column.0)) F.accesses.items
    pub supers : All (λ x. IsBelow F (row_class F x.row.0) (column_class F x.column.0)) F.supers.items
    -- a site has the type of its own row
    pub sites : (s : ℕ) → s < length F.sites.items → site_class F s ≡ row_class F (site_row F s)
    -- and one at or below that of each row in whose set it is
    pub members : (v s : ℕ) → IsInRow F v s → IsBelow F (site_class F s) (row_class F v)

  -- `this` and object sites stand apart from other rows of their type
  pub record AreOwnersInOrder : Type 0 where
    -- no tie has a `this` or an object site as its upper and another row of the same class that is no object site as its lower
    pub ties : (t : TieInfo) → Contains F.ties.items t → t.lower ≢ t.upper → row_class F t.lower.0 ≡ row_class F t.upper.0 → is_object_row F t.lower.0 ≡ false
        → (row_this F t.upper.0 ≡ None) × (is_object_row F t.upper.0 ≡ false)
    -- no array site is in the set of a `this` or of an object site
    pub arrays : (v s : ℕ) → IsInRow F v s → 0 < (site_at F s).dim → (row_this F v ≡ None) × (is_object_row F v ≡ false)

  -- the row v is `this` of the body d
  pub record IsThisOf (v d : ℕ) : Type 0 where
    pub column : ColId
    pub row : row_this F v ≡ Some column
    pub body : column.0 ≡ d

  -- d is the nearest body of its slot strictly above a class
  pub record IsNearestAbove (a d : ℕ) : Type 0 where
    pub parent : ClassId
    pub above : parent_of F a ≡ Some parent
    pub slot : ℕ
    pub slot_is : column_slot F d ≡ Some slot
    pub found : finds F parent.0 slot ≡ Some d

  -- the one `this` of a body, and its one entry in `bodies`
  pub record HasOneThis (d : ℕ) : Type 0 where
    pub row : ℕ
    pub this : IsThisOf row d
    pub class : row_class F row ≡ column_class F d
    pub one_row : (v : ℕ) → IsThisOf v d → v ≡ row
    pub body : BodyInfo
    pub listed : Contains F.bodies.items body
    pub column : body.column.0 ≡ d
    pub point : body.this < length F.points.items
    pub point_is : point_row F body.this ≡ row

  -- accesses, super calls and bodies
  pub record AreBodiesInOrder : Type 0 where
    pub accesses : All (λ x. (column_kind F x.column.0 ≡ Fld) ⊎ (column_kind F x.column.0 ≡ Dcl)) F.accesses.items
    -- a super call stands in a method, and runs the nearest body strictly above the class of its `this`
    pub supers : All (λ x. (is_some (row_this F x.row.0) ≡ true) × IsDef x.column.0 × IsNearestAbove (row_class F x.row.0) x.column.0) F.supers.items
    pub one_this : (d : ℕ) → d < length F.columns.items → IsDef d → HasOneThis d
    pub listed : All (λ b. IsDef b.column.0) F.bodies.items
    pub apart : AllPairs (λ a b. a.column ≢ b.column) F.bodies.items
    -- a `this` is that of a body, and the row of no site
    pub this_body : (v : ℕ) (d : ColId) → row_this F v ≡ Some d → IsDef d.0
    pub this_site : (v : ℕ) (d : ColId) → row_this F v ≡ Some d → (row_at F v).site ≡ None

  -- sites and their rows name each other
  pub record AreSitesInOrder : Type 0 where
    pub own : (s : ℕ) → s < length F.sites.items → (row_at F (site_row F s)).site ≡ Some (record { 0 = s })
    pub back : (r : ℕ) (s : SiteId) → r < length F.rows.items → (row_at F r).site ≡ Some s → site_row F s.0 ≡ r

  -- the entry in `casts` of a test: from its point, with its class, into a point of its row
  pub record HasCast (x : TestInfo) : Type 0 where
    pub cast : CastInfo
    pub listed : Contains F.casts.items cast
    pub from : cast.from ≡ x.from
    pub class : cast.class ≡ x.class
    pub point : cast.into < length F.points.items
    pub row : point_row F cast.into ≡ x.target.0

  -- the one cell of an array site: of its own row, without a column
  pub record HasOneCell (s : ℕ) : Type 0 where
    pub cell : ℕ
    pub below : cell < length F.cells.items
    pub site : (cell_at F cell).site.0 ≡ s
    pub column : (cell_at F cell).column ≡ None
    pub row : (cell_at F cell).row.0 ≡ site_row F s
    pub one : (c : ℕ) → c < length F.cells.items → (cell_at F c).site.0 ≡ s → c ≡ cell

  -- a type has its mark
  abbrev pub HasMark : ℕ → Type 0
  HasMark a = (c : ℕ) × IsColumn F Is a c

  -- tests and array sites
  pub record AreTestsInOrder : Type 0 where
    pub targets : All (λ x. row_class F x.target.0 ≡ x.class.0) F.tests.items
    pub casts : All HasCast F.tests.items
    pub marks : All (λ x. HasMark x.class.0) F.tests.items
    pub cells : (s : ℕ) → s < length F.sites.items → 0 < (site_at F s).dim → HasOneCell s
    pub array_marks : (s : ℕ) → s < length F.sites.items → 0 < (site_at F s).dim → HasMark (site_class F s)

  -- the name of the class or member that a column stands for
  abbrev pub name_of : ℕ → List ℕ
  name_of c = (column_at F c).name

  -- slots, fields and their names
  pub record AreMembersInOrder : Type 0 where
    -- what stands at a type and above it has no two slots of one name
    pub slots : (a c d x y : ℕ) → column_slot F c ≡ Some x → column_slot F d ≡ Some y → IsBelow F a (column_class F c)
        → IsBelow F a (column_class F d) → name_of c ≡ name_of d → x ≡ y
    -- a class has no two fields of one name
    pub fields : (c d : ℕ) → c < length F.columns.items → d < length F.columns.items → column_kind F c ≡ Fld → column_kind F d ≡ Fld
        → column_class F c ≡ column_class F d → name_of c ≡ name_of d → c ≡ d
    -- and at most one body of a slot
    pub bodies : (c d : ℕ) → c < length F.columns.items → d < length F.columns.items → IsDef c → IsDef d → column_class F c ≡ column_class F d
        → column_slot F c ≡ column_slot F d → c ≡ d
    -- a field has no slot
    pub no_slots : (c : ℕ) → c < length F.columns.items → column_kind F c ≡ Fld → column_slot F c ≡ None
    -- the columns of a slot have one name
    pub names : (c d x : ℕ) → column_slot F c ≡ Some x → column_slot F d ≡ Some x → name_of c ≡ name_of d

  -- the names of the holder and of the local of the methods that make objects stand among the words, and no field has the holder's
  pub record AreMakersInOrder (m : MakerNames) : Type 0 where
    pub holder : Contains F.words.items m.holder
    pub local : Contains F.words.items m.local
    pub fields : (c : ℕ) → c < length F.columns.items → column_kind F c ≡ Fld → name_of c ≢ m.holder

  -- the names of the text, and those that are fixed beside them
  pub record AreNamesInOrder : Type 0 where
    pub vars : All (Contains F.words.items) F.vars.items
    pub holders : All (λ k. k.holder ≡ true → Contains F.words.items k.name) F.classes.items
    pub members : (c : ℕ) → IsMember c → Contains F.words.items (name_of c)
    pub classes : All (λ k. is_name k.name ≡ true) F.classes.items
    pub words : All (λ w. is_name w ≡ true) F.words.items
    -- no field has the name of a holder, Object, String or System
    pub fields : (c : ℕ) → c < length F.columns.items → column_kind F c ≡ Fld → All (λ k. k.holder ≡ true → name_of c ≢ k.name) F.classes.items
    pub others : (c : ℕ) → c < length F.columns.items → column_kind F c ≡ Fld → (name_of c ≢ codes "Object") × (name_of c ≢ codes "String")
        × (name_of c ≢ codes "System")
    pub makers : (m : MakerNames) → F.makers ≡ Some m → AreMakersInOrder m

-- all of these: classes, types, owners, bodies, sites, tests, members and names are in order
pub record InOrder (F : Facts) : Type 0 where
  pub classes : AreClassesInOrder F
  pub types : AreTypesInOrder F
  pub owners : AreOwnersInOrder F
  pub bodies : AreBodiesInOrder F
  pub sites : AreSitesInOrder F
  pub tests : AreTestsInOrder F
  pub members : AreMembersInOrder F
  pub names : AreNamesInOrder F

-- each column of a row belongs to the row's class or to one above it; a mark is that of such a class
abbrev pub ColumnsStandAbove : Facts → Table → Type 0
ColumnsStandAbove F t = (r c : ℕ) → bit (row t.rows.items r) c ≡ true → IsBelow F (row_class F r) (column_class F c)

-- a row that is that of no object site has a body of its own class only where it is the body's `this`
abbrev pub BodiesAreOwn : Facts → Table → Type 0
BodiesAreOwn F t = (r d : ℕ) → bit (row t.rows.items r) d ≡ true → column_kind F d ≡ Def → column_class F d ≡ row_class F r
    → is_object_row F r ≡ false → IsThisOf F r d
