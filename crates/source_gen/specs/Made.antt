-- Mirror. What the method that makes the objects of a creation is written as.
use Rattle.std.specs.Prelude.{ℕ, ◌==◌, false, List, [], Some, slice_get}
use Rattle.std.specs.Option.{option_map_or}
use Rattle.java_tree.specs.Syntax.{NameRef, CallOn, NewOf, no_more, LocalOf, DoOf, ReturnOf, Statement, Statements, HeadTree, MemberTree}
use Rattle.java_core.specs.Makers.{maker_of}
use Rattle.java_core.specs.Programs.{Plain, code_seen}
use Rattle.fact_model.specs.declared.facts.SiteInfo.{SiteInfo}
use Rattle.fact_model.specs.Items.{site_at}
use Rattle.flow_rules.specs.declared.items.RowItem.TheVariants as row
use Rattle.flow_rules.specs.Ordered.{when}
use Rattle.hier_model.specs.Hierarchies.{Hierarchy}
use Rattle.rebuild_model.specs.Renaming.{Renaming}
use Rattle.write_model.specs.Names as names
use Rattle.write_model.specs.Members as written
use Rattle.write_forms.specs.declared.given.Source.{Source}
use Rattle.write_forms.specs.Sources.{old_program, renaming}
use Rattle.source_gen.specs.declared.makes.Made.{Made}
use Rattle.source_gen.specs.declared.parts.Nodes.{Nodes}

-- the old program, the new names and the hierarchy
abbrev program_in : Made → Plain
program_in m = old_program m.source.now

abbrev names_in : Made → Renaming
names_in m = renaming m.source.now

abbrev hierarchy_in : Made → Hierarchy
hierarchy_in m = m.source.now.hier.now

-- its head
abbrev pub head_made : Made → HeadTree
head_made m = written.make_head (program_in m) (names_in m) (hierarchy_in m) m.number m.class.0 m.maker (code_seen m.code)

-- its statements, one by one, and together
abbrev pub creates_made : Made → Statement
creates_made m = LocalOf false (written.object_type (program_in m) (names_in m) (hierarchy_in m) m.number m.class.0) (names.makers_local (program_in m))
    (Some (NewOf (names.id (names.row_name (program_in m) (hierarchy_in m) ((names_in m).row_type (row.New m.number)) m.class.0)) no_more names.nowhere))
    names.nowhere

abbrev pub calls_made : Made → Statement
calls_made m = DoOf (CallOn (NameRef (names.makers_local (program_in m)) names.nowhere) ((names_in m).method_name m.maker)
    (written.passed (code_seen m.code).params) names.nowhere) names.nowhere

abbrev pub gives_made : Made → Statement
gives_made m = ReturnOf (Some (NameRef (names.makers_local (program_in m)) names.nowhere)) names.nowhere

abbrev pub body_made : Made → Statements
body_made m = written.make_body (program_in m) (names_in m) (hierarchy_in m) m.number m.class.0 m.maker (code_seen m.code)

-- the whole
abbrev pub member_made : Made → MemberTree
member_made m = written.make_member (program_in m) (names_in m) (hierarchy_in m) m.number m.class.0 m.maker (code_seen m.code)

-- that of a creation of a class, where this has a constructor
abbrev pub class_makes : Source → ℕ → ℕ → List MemberTree
class_makes s number c = option_map_or (written.maker_member (old_program s) (renaming s) s.hier.now number c) (maker_of (old_program s) c) []

-- that of a site of the facts, by the number of its creation
abbrev pub info_makes : Source → SiteInfo → ℕ → List MemberTree
info_makes s i number = when (i.dim == 0) (class_makes s number i.class.0)

-- that of the site of a number
abbrev pub site_makes : Nodes → ℕ → List MemberTree
site_makes nodes s = option_map_or (info_makes nodes.source (site_at nodes.facts.now s)) (slice_get nodes.source.numbering.now.sites.keys s) []
