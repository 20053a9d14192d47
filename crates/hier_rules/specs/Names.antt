-- Believed. The obligation B8: names are identifiers, and apart from each other. Its first instance, by part, node and
-- column.
use Rattle.std.specs.Prelude.{ℕ, ◌==◌, ◌&&◌, ◌||◌, Bool, true, false, not, List, [], ◌∷◌, length, codes, Option, None}
use Rattle.std.specs.List.{list_any}
use Rattle.std.specs.Option.{option_map_or}
use Rattle.std.specs.Str.{bytes_eq}
use Rattle.kaba_base.specs.Words.{is_name}
use Rattle.kaba_bits.specs.Sets.{or_else, first_below, when}
use Rattle.kaba_order.specs.Orders.{is_live}
use Rattle.fact_model.specs.Items.{column_kind, column_slot}
use Rattle.fact_model.specs.declared.facts.Facts.{Facts}
use Rattle.fact_model.specs.declared.facts.MakerNames.{MakerNames}
use Rattle.fact_model.specs.declared.facts.ColKind.{ColKind}
use Rattle.fact_model.specs.declared.facts.ColKind.TheVariants.{Fld, Dcl, Def, Is}
use Rattle.hier_model.specs.Hierarchies.{Hierarchy, stands_at, is_offered, type_name, member_name, any_below}
use Rattle.hier_model.specs.Names.{is_field}
use Rattle.hier_rules.specs.declared.broken.Broken.{Broken}
use Rattle.hier_rules.specs.declared.broken.Rule.TheVariants.{B8}
use Rattle.hier_rules.specs.Asked.{are_two_slots}
use Rattle.hier_rules.specs.Instances.{of_column, of_node}

-- whether a column is a member: a field, a declaration or a body
abbrev pub is_member : ColKind → Bool
is_member Fld = true
is_member Dcl = true
is_member Def = true
is_member Is = false

-- the names that the language has
abbrev pub known_names : List (List ℕ)
known_names = codes "Object" ∷ codes "String" ∷ codes "System" ∷ []

-- whether a name is that of the holder of the methods that make objects, and whether it is that of the local in each of these
abbrev pub is_makers_holder : Option MakerNames → List ℕ → Bool
is_makers_holder makers name = option_map_or (λ m. bytes_eq m.holder name) makers false

abbrev pub is_makers_local : Option MakerNames → List ℕ → Bool
is_makers_local makers name = option_map_or (λ m. bytes_eq m.local name) makers false

-- whether a name is that of a class with static members, or of the holder of the methods that make objects
abbrev pub is_holder_name : Facts → List ℕ → Bool
is_holder_name F name = list_any (λ k. k.holder && bytes_eq k.name name) F.classes.items || is_makers_holder F.makers name

-- whether a name is that of a holder, or Object, String or System
abbrev pub is_reserved : Facts → List ℕ → Bool
is_reserved F name = is_holder_name F name || list_any (λ k. bytes_eq k name) known_names

-- whether a name is that of a variable, a parameter or a field of the text, or of the local in the methods that make objects
abbrev pub is_variable : Facts → List ℕ → Bool
is_variable F name = list_any (λ v. bytes_eq v name) F.vars.items || is_makers_local F.makers name

-- the slot of a method's declaration or body
abbrev pub method_slot : ColKind → Option ℕ → Option ℕ
method_slot Fld slot = None
method_slot Dcl slot = slot
method_slot Def slot = slot
method_slot Is slot = None

-- whether a node is live and has a name
abbrev pub is_named : Hierarchy → List ℕ → ℕ → Bool
is_named H name m = is_live H.order m && bytes_eq (type_name H m) name

module _ (F : Facts) (H : Hierarchy) where
  -- part 1: the names of types, fields and methods are identifiers and no keywords
  abbrev pub unwritable_type : ℕ → Option Broken
  unwritable_type n = when (is_live H.order n && not (is_name (type_name H n))) (of_node B8 n)

  -- whether a field or method stands at a node under a name that is no identifier, or a keyword
  abbrev pub is_unwritable : ℕ → ℕ → Bool
  is_unwritable n c = stands_at H n c && is_member (column_kind F c) && not (is_name (member_name H c))

  -- the instance of a column whose name at a node is unwritable
  abbrev pub unwritable : ℕ → ℕ → Option Broken
  unwritable n c = when (is_unwritable n c) (of_column B8 n c)

  -- the first instance against part 1: by node, its type before its columns
  abbrev pub first_unwritable : Option Broken
  first_unwritable = first_below (length H.order.live) (λ n. or_else (unwritable_type n) (first_below (length F.columns.items) (unwritable n)))

  -- whether a live node other than n has a name
  abbrev pub is_other_type : ℕ → List ℕ → Bool
  is_other_type n name = any_below (length H.order.live) (λ m. not (m == n) && is_named H name m)

  -- part 2: the names of types differ from each other, from the reserved names and from those of variables
  abbrev pub is_taken_type : ℕ → Bool
  is_taken_type n = is_other_type n (type_name H n) || is_reserved F (type_name H n) || is_variable F (type_name H n)

  -- the instance of a node whose type has a name that is taken
  abbrev pub taken_type : ℕ → Option Broken
  taken_type n = when (is_live H.order n && is_taken_type n) (of_node B8 n)

  -- the first instance against part 2, by node
  abbrev pub first_taken_type : Option Broken
  first_taken_type = first_below (length H.order.live) taken_type

  -- whether a live node has a name
  abbrev pub is_type : List ℕ → Bool
  is_type name = any_below (length H.order.live) (is_named H name)

  -- part 3: the names of fields differ from those of types and from the reserved names
  abbrev pub is_taken_name : ℕ → Bool
  is_taken_name c = is_type (member_name H c) || is_reserved F (member_name H c)

  -- the instance of a field whose name at a node is taken
  abbrev pub taken_field : ℕ → ℕ → Option Broken
  taken_field n c = when (stands_at H n c && is_field (column_kind F c) && is_taken_name c) (of_column B8 n c)

  -- the first instance against part 3, by node and column
  abbrev pub first_taken_field : Option Broken
  first_taken_field = first_below (length H.order.live) (λ n. first_below (length F.columns.items) (taken_field n))

  -- whether two columns have one name, and are two fields or of two slots
  abbrev pub clash : ℕ → ℕ → Bool
  clash c d = bytes_eq (member_name H c) (member_name H d)
      && ((is_field (column_kind F c) && is_field (column_kind F d)) || are_two_slots (method_slot (column_kind F c) (column_slot F c))
      (method_slot (column_kind F d) (column_slot F d)))

  -- part 4: no type offers two slots, or two fields, of one name
  abbrev pub is_confused : ℕ → ℕ → Bool
  is_confused n d = is_offered H n d && any_below d (λ c. is_offered H n c && clash c d)

  -- the instance of a column that has the name of one before it, at a node that offers both
  abbrev pub confused : ℕ → ℕ → Option Broken
  confused n d = when (is_confused n d) (of_column B8 n d)

  -- the first instance against part 4, by node and column
  abbrev pub first_confused : Option Broken
  first_confused = first_below (length H.order.live) (λ n. first_below (length F.columns.items) (confused n))

  -- the first instance against B8: the parts are asked in their order
  abbrev pub first_misnamed : Option Broken
  first_misnamed = or_else first_unwritable (or_else first_taken_type (or_else first_taken_field first_confused))
