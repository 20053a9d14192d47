-- Mirror. Facts in order with their closed table, and the start: nodes are the concepts with an extent that is not
-- empty.
use Rattle.std.specs.Prelude.{◌≡◌, ◌≢◌, ◌↔◌, ◌⊎◌, ℕ, List, Bool, true, false, Some}
use Rattle.hier_laws.specs.Shapes.{Given, Shape}

-- what is asked of the facts and of the table beside what the obligations ask
pub record Roles : Type 0 where
  -- the row is `this` of a body; the row is that of an object site
  pub is_this : ℕ → ℕ → Bool
  pub is_object : ℕ → Bool

module _ (G : Given) (R : Roles) where
  -- the table is closed under the rules T3, T4, T6, T7, T8, T9
  pub record IsClosed : Type 0 where
    pub rows : (r c : ℕ) → G.has r c ≡ true → G.is_row r ≡ true
    pub by_need : (s x d : ℕ) → G.needs s x d ≡ true → G.has (G.site_row s) d ≡ true
    pub by_this : (r d : ℕ) → R.is_this r d ≡ true → G.has r d ≡ true
    pub by_body : (r v c d : ℕ) → G.has r d ≡ true → R.is_this v d ≡ true → G.has v c ≡ true → G.has r c ≡ true
    pub by_super : (r d : ℕ) → G.runs r d ≡ true → G.has r d ≡ true
    pub by_tie : (l u c : ℕ) → G.tie l u ≡ true → G.has u c ≡ true → G.has l c ≡ true
    pub by_site : (s v c : ℕ) → G.in_row s v ≡ true → G.has v c ≡ true → G.has (G.site_row s) c ≡ true
    -- each column of a row belongs to the row's class or to one above it
    pub above : (r c : ℕ) → G.has r c ≡ true → G.below (G.row_class r) (G.class_of c) ≡ true
    -- a row that is that of no object site has a body of its own class only where it is the body's `this`
    pub own : (r d : ℕ) → G.has r d ≡ true → G.is_body d ≡ true → G.class_of d ≡ G.row_class r → R.is_object r ≡ false → R.is_this r d ≡ true

  -- facts in order, as far as the start asks it
  pub record AreInOrder : Type 0 where
    pub both : (a b : ℕ) → G.below a b ≡ true → G.below b a ≡ true → a ≡ b
    pub tie_rows : (l u : ℕ) → G.tie l u ≡ true → (G.is_row l ≡ true) × (G.is_row u ≡ true)
    pub site_rows : (s v : ℕ) → G.in_row s v ≡ true → (G.is_row (G.site_row s) ≡ true) × (G.is_row v ≡ true)
    -- a `this` is that of a body, of its class, and no object site's row; each body has one
    pub this_body : (v d : ℕ) → R.is_this v d ≡ true → (G.is_body d ≡ true) × (G.row_class v ≡ G.class_of d) × (R.is_object v ≡ false)
    pub this_there : (d : ℕ) → G.is_body d ≡ true → (v : ℕ) × (R.is_this v d ≡ true)
    -- a class has at most one body of a slot
    pub one_body : (d e : ℕ) → G.is_body d ≡ true → G.is_body e ≡ true → G.slot_of d ≡ G.slot_of e → G.class_of d ≡ G.class_of e → d ≡ e
    -- the body that an object runs is the nearest at or above its class
    pub need_body : (s x d : ℕ) → G.needs s x d ≡ true → G.is_body d ≡ true
    pub need_nearest : (s x d e : ℕ) → G.needs s x d ≡ true → G.is_body e ≡ true → G.slot_of e ≡ G.slot_of d
        → G.below (G.row_class (G.site_row s)) (G.class_of e) ≡ true → G.below (G.class_of d) (G.class_of e) ≡ true
    -- a super call stands in a body, and runs the nearest one strictly above the class of that
    pub super_this : (r d : ℕ) → G.runs r d ≡ true → (e : ℕ) × (R.is_this r e ≡ true)
    pub super_body : (r d : ℕ) → G.runs r d ≡ true → (G.is_body d ≡ true) × (G.class_of d ≢ G.row_class r)
    pub super_nearest : (r d e : ℕ) → G.runs r d ≡ true → G.is_body e ≡ true → G.slot_of e ≡ G.slot_of d
        → G.below (G.row_class r) (G.class_of e) ≡ true → G.class_of e ≢ G.row_class r → G.below (G.class_of d) (G.class_of e) ≡ true
    -- a site of a pair has the class of its row; it is in the set of the target's row where its class is a subtype of the target's
    pub meet_rows : (s t : ℕ) → G.meets s t ≡ true → (G.row_class (G.site_row s) ≡ G.site_class s) × (G.is_row (G.site_row s) ≡ true) × (G.is_row t ≡ true)
    pub passes : (s t : ℕ) → G.meets s t ≡ true → G.below (G.site_class s) (G.row_class t) ≡ true → G.in_row s t ≡ true
    -- and the target has a column of its own class: the mark of its type
    pub marked : (s t : ℕ) → G.meets s t ≡ true → (k : ℕ) × (G.has t k ≡ true) × (G.class_of k ≡ G.row_class t)

-- the start: a row stands at the least concept that has it, a column at the greatest that has it
pub record IsStart (G : Given) (S : Shape) : Type 0 where
  pub both : (a b : ℕ) → S.le a b ≡ true → S.le b a ≡ true → a ≡ b
  pub through : (a b c : ℕ) → S.le a b ≡ true → S.le b c ≡ true → S.le a c ≡ true
  pub upper : (a b : ℕ) → S.le a b ≡ true → S.le b b ≡ true
  -- a column stands where some row has it
  pub there : (r c : ℕ) → G.has r c ≡ true → (n : ℕ) × (S.column c ≡ Some n)
  -- a row stands at or below another exactly where it has all its columns
  pub rows : (r v : ℕ) → G.is_row r ≡ true → G.is_row v ≡ true → ((S.le (S.row r) (S.row v) ≡ true) ↔ ((c : ℕ) → G.has v c ≡ true → G.has r c ≡ true))
  -- at or below a column exactly where it has it
  pub columns : (r c n : ℕ) → G.is_row r ≡ true → S.column c ≡ Some n → ((S.le (S.row r) n ≡ true) ↔ (G.has r c ≡ true))
  -- a column at or below another exactly where all rows that have the one have the other
  pub under : (c d n m : ℕ) → S.column c ≡ Some n → S.column d ≡ Some m → ((S.le n m ≡ true) ↔ ((r : ℕ) → G.has r c ≡ true → G.has r d ≡ true))
  -- a column at or below a row exactly where all rows that have it have all that the row has
  pub column_row : (c n r : ℕ) → G.is_row r ≡ true → S.column c ≡ Some n
      → ((S.le n (S.row r) ≡ true) ↔ ((v : ℕ) → G.has v c ≡ true → (d : ℕ) → G.has r d ≡ true → G.has v d ≡ true))
  -- each node has a row at or below it
  pub extent : (n m : ℕ) → S.le n m ≡ true → (r : ℕ) × (G.is_row r ≡ true) × (S.le (S.row r) n ≡ true)

-- names of fields: those that are kept are words of the text, and a name that is made is no word and is given once
pub record AreNamed (G : Given) (is_field is_made : ℕ → Bool) (old new : ℕ → List ℕ) : Type 0 where
  pub kept : (c : ℕ) → is_made c ≡ false → new c ≡ old c
  pub made : (c d : ℕ) → is_made c ≡ true → is_field d ≡ true → is_made d ≡ false → new c ≢ old d
  pub once : (c d : ℕ) → is_made c ≡ true → is_made d ≡ true → new c ≡ new d → c ≡ d
  -- a class has no two fields of one name
  pub apart : (c d : ℕ) → is_field c ≡ true → is_field d ≡ true → G.class_of c ≡ G.class_of d → old c ≡ old d → c ≡ d
  -- a field with the name of one of a class strictly above is named anew
  pub again : (c d : ℕ) → is_field c ≡ true → is_field d ≡ true → old c ≡ old d → G.below (G.class_of c) (G.class_of d) ≡ true
      → G.class_of c ≢ G.class_of d → is_made c ≡ true
  -- the classes of fields at or above one type are a chain
  pub chain : (a c d : ℕ) → is_field c ≡ true → is_field d ≡ true → G.below a (G.class_of c) ≡ true → G.below a (G.class_of d) ≡ true
      → (G.below (G.class_of c) (G.class_of d) ≡ true) ⊎ (G.below (G.class_of d) (G.class_of c) ≡ true)
