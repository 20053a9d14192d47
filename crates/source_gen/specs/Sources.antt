-- Mirror. What the types of the nodes are written of.
use Rattle.std.specs.Prelude.{◌≡◌, ℕ, ◌<◌, Bool, true, false, cond, List, length, map}
use Rattle.std.specs.Option.{option_map}
use Rattle.fact_model.specs.InRange.{InRange}
use Rattle.kaba_bits.specs.Sets.{bit}
use Rattle.hier_model.specs.Hierarchies.{Hierarchy, IsHierarchyOf, offers_slot}
use Rattle.hier_model.specs.Classes.{AreClassNodes}
use Rattle.rebuild_model.specs.Members.{is_made_at, offers_body}
use Rattle.java_core.specs.Programs.{Plain}
use Rattle.fact_model.specs.declared.facts.Facts.{Facts}
use Rattle.flow_rules.specs.Numbered.{sites_of}
use Rattle.flow_rules.specs.Facts.{site_info, makers_seen, makers_of}
use Rattle.write_forms.specs.declared.numbers.Numbering.{Numbering}
use Rattle.write_forms.specs.Sources.{IsSource, old_program}
use Rattle.source_gen.specs.declared.parts.Nodes.{Nodes}
use Rattle.source_gen.specs.declared.places.Offers.{Offers}

-- the hierarchy
abbrev pub hierarchy_of : Nodes → Hierarchy
hierarchy_of nodes = nodes.source.hier.now

-- the sites that are numbered are those of the program, as the facts list them
pub record AreSites (P : Plain) (n : Numbering) (F : Facts) : Type 0 where
  pub numbers : n.sites.keys ≡ map (λ z. z.number) (sites_of P)
  pub infos : F.sites.items ≡ map site_info (sites_of P)

-- the facts have the sites of the program, and the names that are fixed for it
pub record HaveMakes (P : Plain) (n : Numbering) (F : Facts) : Type 0 where
  pub sites : AreSites P n F
  pub makers : option_map makers_seen F.makers ≡ makers_of P

-- a source, facts in range whose hierarchy it has, and the tests of the nodes
pub record AreSourceNodes (nodes : Nodes) : Type 0 where
  pub source : IsSource nodes.source
  pub sites : AreSites (old_program nodes.source) nodes.source.numbering.now nodes.facts.now
  pub range : InRange nodes.facts.now
  pub hierarchy : IsHierarchyOf nodes.facts.now (hierarchy_of nodes)
  pub classes : AreClassNodes nodes.facts.now (hierarchy_of nodes) nodes.classes.now

-- the set of the slots of the program that a node offers, or of which it offers a body
pub record AreOffered (nodes : Nodes) (n : ℕ) (bodies : Bool) (slots : List Bool) : Type 0 where
  pub width : length slots ≡ length (old_program nodes.source).slots
  pub exact : (x : ℕ) → x < length slots → bit slots x ≡ cond bodies (offers_body nodes.facts.now (hierarchy_of nodes) n x)
      (offers_slot nodes.facts.now (hierarchy_of nodes) n x)

-- what a node offers
pub record AreOffers (nodes : Nodes) (n : ℕ) (offers : Offers) : Type 0 where
  pub made : offers.is_made ≡ is_made_at nodes.facts.now (hierarchy_of nodes) n
  pub slots : AreOffered nodes n false offers.slots
  pub bodies : AreOffered nodes n true offers.bodies
