-- Believed. What each part of a body gives to each list of the facts (Andersen, 1994, for the sets; Snelting and Tip,
-- 2000, for the table).
use Rattle.std.specs.Prelude.{ℕ, ◌==◌, ◌&&◌, ◌||◌, Bool, true, false, not, if◌then◌else◌, List, [], ◌∷◌, ◌++◌, map, Option, Some, None, slice_get}
use Rattle.std.specs.Option.{option_map, option_map_or, is_some}
use Rattle.kaba_base.specs.declared.Place.{Place}
use Rattle.java_core.specs.declared.BinOp.{BinOp}
use Rattle.java_core.specs.declared.BinOp.TheVariants as bin
use Rattle.java_core.specs.Programs.{Plain}
use Rattle.java_core.specs.Classes.{below}
use Rattle.fact_model.specs.declared.facts.NewInfo.{NewInfo}
use Rattle.fact_model.specs.declared.facts.FlowInfo.{FlowInfo}
use Rattle.fact_model.specs.declared.facts.LoadInfo.{LoadInfo}
use Rattle.fact_model.specs.declared.facts.StoreInfo.{StoreInfo}
use Rattle.fact_model.specs.declared.facts.CastInfo.{CastInfo}
use Rattle.fact_model.specs.declared.facts.AccessInfo.{AccessInfo}
use Rattle.fact_model.specs.declared.facts.SuperInfo.{SuperInfo}
use Rattle.fact_model.specs.declared.facts.TieInfo.{TieInfo}
use Rattle.fact_model.specs.declared.facts.TestInfo.{TestInfo}
use Rattle.flow_rules.specs.declared.items.ObjectType.{ObjectType}
use Rattle.flow_rules.specs.declared.items.Operand.{Operand}
use Rattle.flow_rules.specs.declared.items.RowItem.{RowItem}
use Rattle.flow_rules.specs.declared.items.RowItem.TheVariants as row
use Rattle.flow_rules.specs.declared.items.ColumnItem.{ColumnItem}
use Rattle.flow_rules.specs.declared.items.ColumnItem.TheVariants as column
use Rattle.flow_rules.specs.declared.items.PointItem.{PointItem}
use Rattle.flow_rules.specs.declared.items.PointItem.TheVariants as point
use Rattle.flow_rules.specs.Ordered.{each, when}
use Rattle.flow_rules.specs.Operands.{variable_row, result_in}
use Rattle.flow_rules.specs.Parts.{Part, a_load, an_element, a_creation, a_call, a_static_call, a_super_call, a_test, a_pair, a_set, a_store, an_element_store, a_return}

-- the number of each row, column and flow point, and of the site of each creation
pub record Numbers : Type 0 where
  pub row : RowItem → Option ℕ
  pub column : ColumnItem → Option ℕ
  pub site : ℕ → Option ℕ
  pub point : PointItem → Option ℕ

-- one item where both, or all three, are there
abbrev pub both : {A B C : Type 0} → Option A → Option B → (A → B → C) → List C
both (Some a) (Some b) f = f a b ∷ []
both (Some a) None f = []
both None b f = []

-- one item where all three are there
abbrev pub these : {A B C D : Type 0} → Option A → Option B → Option C → (A → B → C → D) → List D
these (Some a) b c f = both b c (f a)
these None b c f = []

-- a call of an instance method, as plain data
pub record PlainCall : Type 0 where
  pub receiver : ℕ
  pub slot : ℕ
  pub args : List (Option ℕ)
  pub result : Option ℕ

-- something at a place
pub record Placed (A : Type 0) : Type 0 where
  pub place : Place
  pub item : A

-- whether a point is the `this` of a method
abbrev pub is_this : Option PointItem → Bool
is_this None = false
is_this (Some (point.This m)) = true
is_this (Some (point.Static f)) = false
is_this (Some (point.Local m i)) = false
is_this (Some (point.Result m)) = false
is_this (Some (point.Expr m l)) = false

-- whether two types are of one class and one dimension
abbrev pub same_type : ObjectType → ObjectType → Bool
same_type s t = (s.class.0 == t.class.0) && (s.dim == t.dim)

-- whether an operator is `==` or `!=`
abbrev pub is_comparison : BinOp → Bool
is_comparison bin.Same = true
is_comparison bin.Differs = true
is_comparison _ = false

-- a point whose set goes into another's
abbrev pub moved : Option ℕ → Option ℕ → List FlowInfo
moved p q = both p q (λ a b. record { from = a; to = b })

-- a lower and an upper row
abbrev pub tied : Option ℕ → Option ℕ → List TieInfo
tied r q = both r q (λ a b. record { lower = record { 0 = a }; upper = record { 0 = b } })

-- a row that accesses a column, where both have a number
abbrev pub accessed : Option ℕ → Option ℕ → List AccessInfo
accessed r c = both r c (λ a b. record { row = record { 0 = a }; column = record { 0 = b } })

-- T8 for `==` and `!=`: the narrower of two types below the wider; of equal types the right below the left, but a creation below what is none, and
-- `this` below what is neither a creation nor `this`
abbrev pub left_is_lower : Bool → Bool → Bool → Bool → Bool
left_is_lower created_left this_left created_right this_right = (created_left && not created_right) || (this_left && not (created_right || this_right))

module _ (P : Plain) where
  -- whether the type s is at or below t: of one dimension, and its class at or below that of t
  abbrev pub narrower : ObjectType → ObjectType → Bool
  narrower s t = (s.dim == t.dim) && below P s.class.0 t.class.0

  -- whether T8 puts the row of the left operand of `==` or `!=` below that of the right, by their types
  abbrev pub is_left_lower : Operand → Operand → ObjectType → ObjectType → Bool
  is_left_lower l r s t = if same_type s t then left_is_lower (is_some l.created) (is_this l.point) (is_some r.created) (is_this r.point) else narrower s t

  -- the row of the parameter i of a method
  abbrev pub param_row : ℕ → ℕ → Option RowItem
  param_row d i = option_map (λ k. variable_row d k i) (slice_get P.methods d)

module _ (N : Numbers) where
  -- the point and the row of an operand
  abbrev pub point_in : Option PointItem → Option ℕ
  point_in None = None
  point_in (Some i) = N.point i

  -- the number of a row, where there is one
  abbrev pub row_in : Option RowItem → Option ℕ
  row_in None = None
  row_in (Some i) = N.row i

  -- the number of an operand's flow point
  abbrev pub point_at : Operand → Option ℕ
  point_at o = point_in o.point

  -- the number of the row that types an operand
  abbrev pub row_at : Operand → Option ℕ
  row_at o = row_in o.row

  -- the number of the site of a creation, where there is one
  abbrev pub site_in : Option ℕ → Option ℕ
  site_in None = None
  site_in (Some n) = N.site n

  -- a creation that flows into a point
  abbrev pub created : Operand → Option ℕ → List NewInfo
  created o q = both q (site_in o.created) (λ p s. record { point = p; site = record { 0 = s } })

  -- arguments of the one body of a static or a super call
  abbrev pub created_args : ℕ → List Operand → List NewInfo
  created_args d es = each (λ i o. created o (N.point (point.Local d i))) 0 es

  -- the flows of arguments into the parameters of the one body d that a static or a super call runs
  abbrev pub moved_args : ℕ → List Operand → List FlowInfo
  moved_args d es = each (λ i o. moved (point_at o) (N.point (point.Local d i))) 0 es

  -- a creation flows into its own point, into the variable that it is assigned to, into the result of a body, and as an argument of a static or a
  -- super call into the parameter
  abbrev pub news_of : ℕ → Part → List NewInfo
  news_of m (a_creation p u o s d es) = created o (point_at o)
  news_of m (a_set v o) = created o (point_at v)
  news_of m (a_return o) = created o (N.point (point.Result m))
  news_of m (a_static_call p d es o) = created_args d es
  news_of m (a_super_call p (Some d) es o) = created_args d es
  news_of m _ = []

  -- an assignment to a local or a static field, a result, and the arguments, the result and the `this` of static and super calls
  abbrev pub flows_of : ℕ → Part → List FlowInfo
  flows_of m (a_set v o) = moved (point_at o) (point_at v)
  flows_of m (a_return o) = moved (point_at o) (N.point (point.Result m))
  flows_of m (a_static_call p d es o) = moved_args d es ++ moved (N.point (point.Result d)) (point_at o)
  flows_of m (a_super_call p (Some d) es o) = moved_args d es ++ moved (N.point (point.Result d)) (point_at o) ++ moved (N.point (point.This m))
      (N.point (point.This d))
  flows_of m _ = []

  -- reads of an instance field or of an element
  abbrev pub loads_of : Part → List LoadInfo
  loads_of (a_load p b (Some f) o) =
      these (point_at b) (N.column (column.Fld f)) (point_at o) (λ a c q. record { base = a; column = Some (record { 0 = c }); into = q })
  loads_of (an_element p b o) = both (point_at b) (point_at o) (λ a q. record { base = a; column = None; into = q })
  loads_of _ = []

  -- writes of an instance field or of an element
  abbrev pub stores_of : Part → List StoreInfo
  stores_of (a_store p b (Some f) o) =
      these (point_at b) (N.column (column.Fld f)) (point_at o) (λ a c q. record { base = a; column = Some (record { 0 = c }); value = q; place = p })
  stores_of (an_element_store p b o) = both (point_at b) (point_at o) (λ a q. record { base = a; column = None; value = q; place = p })
  stores_of _ = []

  -- the calls of an instance method, whose body the receiver's sites decide; a creation of a class with a constructor is one of that, on its own point
  abbrev pub calls_of : Part → List (Placed PlainCall)
  calls_of (a_call p b (Some s) d es o) =
      option_map_or (λ r. record { place = p; item = record { receiver = r; slot = s; args = map point_at es; result = point_at o } }
      ∷ []) (point_at b) []
  calls_of (a_creation p u o (Some s) d es) =
      option_map_or (λ r. record { place = p; item = record { receiver = r; slot = s; args = map point_at es; result = None } } ∷ []) (point_at o) []
  calls_of _ = []

  -- the flow of what a cast or `instanceof` lets pass into a point of its own
  abbrev pub casts_of : Part → List CastInfo
  casts_of (a_test p e o) = these (point_at e) (point_at o) o.ty (λ a q t. record { from = a; into = q; class = t.class })
  casts_of _ = []

  -- the test of a cast or `instanceof`: its operand, its own row and the class asked for
  abbrev pub tests_of : Part → List TestInfo
  tests_of (a_test p e o) = these (point_at e) (row_at o) o.ty (λ a r t. record { from = a; target = record { 0 = r }; class = t.class; place = p })
  tests_of _ = []

  -- T1: the access of a field, read or written; T2: a call, and the declaration found statically, which of a creation is the constructor
  abbrev pub accesses_of : Part → List AccessInfo
  accesses_of (a_load p b (Some f) o) = accessed (row_at b) (N.column (column.Fld f))
  accesses_of (a_store p b (Some f) o) = accessed (row_at b) (N.column (column.Fld f))
  accesses_of (a_call p b s (Some d) es o) = accessed (row_at b) (N.column (column.Dcl d))
  accesses_of (a_creation p u o s (Some d) es) = accessed (row_at o) (N.column (column.Dcl d))
  accesses_of _ = []

  -- T7: the `this` of the caller, and the body that a super call runs
  abbrev pub supers_of : ℕ → Part → List SuperInfo
  supers_of m (a_super_call p (Some d) es o) =
      both (N.row (row.This m)) (N.column (column.Def d)) (λ a b. record { row = record { 0 = a }; column = record { 0 = b } })
  supers_of m _ = []

  module _ (P : Plain) where
    -- T8 for `==` and `!=`: the rows of both operands, where both have a type that a row can have
    abbrev pub pair_ties : Operand → Operand → Option ObjectType → Option ObjectType → List TieInfo
    pair_ties l r (Some s) (Some t) = if is_left_lower P l r s t then tied (row_at l) (row_at r) else tied (row_at r) (row_at l)
    pair_ties l r (Some s) None = []
    pair_ties l r None t = []

    -- T8 for a cast or `instanceof` to T: the operand's row below its own where T is at or above the operand's type, and else above
    abbrev pub test_ties : Operand → Operand → Option ObjectType → Option ObjectType → List TieInfo
    test_ties e o (Some s) (Some t) = if below P s.class.0 t.class.0 then tied (row_at e) (row_at o) else tied (row_at o) (row_at e)
    test_ties e o (Some s) None = []
    test_ties e o None t = []

    -- T8 for the call of a slot: each argument's row below the row of the slot's parameter
    abbrev pub slot_ties : ℕ → List Operand → List TieInfo
    slot_ties s es = each (λ i o. tied (row_at o) (N.row (row.Param s i))) 0 es

    -- T8 for a static or a super call: each argument's row below that of the method's parameter
    abbrev pub method_ties : ℕ → List Operand → List TieInfo
    method_ties d es = each (λ i o. tied (row_at o) (row_in (param_row P d i))) 0 es

    -- T8: an assignment, argument, result or store ties the value's row below the variable's
    abbrev pub ties_of : ℕ → Option ℕ → Part → List TieInfo
    ties_of m s (a_set v o) = tied (row_at o) (row_at v)
    ties_of m s (a_return o) = tied (row_at o) (N.row (result_in s m))
    ties_of m s (a_store p b (Some f) o) = tied (row_at o) (N.row (row.Field f))
    ties_of m s (an_element_store p b o) = tied (row_at o) (row_at b)
    ties_of m s (a_call p b (Some q) d es o) = slot_ties q es
    ties_of m s (a_creation p u o (Some q) d es) = slot_ties q es
    ties_of m s (a_static_call p d es o) = method_ties d es
    ties_of m s (a_super_call p (Some d) es o) = method_ties d es
    ties_of m s (a_pair o l r) = when (is_comparison o) (pair_ties l r l.ty r.ty)
    ties_of m s (a_test p e o) = test_ties e o e.ty o.ty
    ties_of m s _ = []
