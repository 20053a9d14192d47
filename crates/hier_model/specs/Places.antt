-- Mirror. What of a hierarchy was before a join: a merge, or a node put under another.
use Rattle.std.specs.Prelude.{◌≡◌, List, [], ◌∷◌, Option, Some, None}
use Rattle.kaba_base.specs.declared.NodeId.{NodeId}
use Rattle.kaba_order.specs.Formers.{IsFormerOf}
use Rattle.hier_model.specs.declared.edits.Edit.{Edit}
use Rattle.hier_model.specs.declared.edits.Edit.TheVariants as edit
use Rattle.hier_model.specs.declared.places.Join.{Join}
use Rattle.hier_model.specs.declared.places.Places.{Places}
use Rattle.hier_model.specs.Hierarchies.{Hierarchy}

-- a hierarchy with other places and origins, where there are some
abbrev pub with_places : Hierarchy → Option Places → Hierarchy
with_places H None = H
with_places H (Some p) = record H { columns = p.columns.items; rows = p.rows.items; origins = p.origins.items }

-- a hierarchy is another again, where what was kept of that is put back
pub record IsFormer (old new : Hierarchy) (kept : Join) : Type 0 where
  pub order : IsFormerOf old.order new.order kept.order.former
  pub rest : with_places (record new { order = old.order }) kept.places ≡ old

-- a merge, or a node put under another
abbrev pub JoinsNodes : Edit → Type 0
JoinsNodes (edit.Merge set) = Unit {0}
JoinsNodes (edit.Under n p) = Unit {0}
JoinsNodes (edit.Move c n) = ⊥
JoinsNodes (edit.TypeName n name) = ⊥
JoinsNodes (edit.MemberName c name) = ⊥
JoinsNodes (edit.Drop n) = ⊥

-- the nodes that a join makes one, or the one that it puts under another
abbrev pub joined_nodes : Edit → List NodeId
joined_nodes (edit.Merge set) = set.items
joined_nodes (edit.Under n p) = n ∷ []
joined_nodes (edit.Move c n) = []
joined_nodes (edit.TypeName n name) = []
joined_nodes (edit.MemberName c name) = []
joined_nodes (edit.Drop n) = []
