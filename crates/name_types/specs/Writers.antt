-- Mirror. Which classes have a constructor without writing one.
use Rattle.std.specs.Prelude.{ℕ, Bool, false, List, [], ◌∷◌, Option, Some, None, map, slice_get, option_and_then, if◌then◌else◌}
use Rattle.kaba_base.specs.declared.Place.{Place}
use Rattle.java_tree.specs.Makers.{declares_maker}
use Rattle.java_tree.specs.Syntax.{HeadTree, DeclTree}
use Rattle.name_rules.specs.Outline.{maker_head, name_of, place_of}
use Rattle.name_laws.specs.Classes.{no_flags}
use Rattle.name_laws.specs.Members.{Members, add_heading}

-- a head of this name alone
abbrev pub bare_head : List ℕ → Place → HeadTree
bare_head n p = record { mods = []; type = None; name = n; params = []; place = p }

-- which types write a constructor, Object first
abbrev pub writers_in : List DeclTree → List Bool
writers_in tree = false ∷ map declares_maker tree

-- the class of a number, where it is marked
abbrev pub writer_at : List Bool → ℕ → Option ℕ
writer_at writers c = option_and_then (λ b. if b then Some c else None) (slice_get writers c)

-- the members with the constructor that the class of a number has without writing it, where one above it writes one
abbrev pub with_maker : Bool → ℕ → Members → DeclTree → Members
with_maker above c m d = if declares_maker d then m else if above then add_heading m c (maker_head (name_of d) [] [] (place_of d)) no_flags [] None else m
