-- Mirror. What is said of what is numbered, before the facts stand whole.
use Rattle.std.specs.Prelude.{◌≡◌, List, map}
use Rattle.std.specs.List.{flat_map}
use Rattle.std.specs.Option.{option_map}
use Rattle.java_core.specs.Programs.{Plain}
use Rattle.flow_rules.specs.Lists.{Numbers, calls_of, tests_of}
use Rattle.flow_rules.specs.Spots.{marks_of, numbered_spots}
use Rattle.flow_rules.specs.Numbered.{BodyParts}
use Rattle.flow_rules.specs.Ordered.{by_place, each}
use Rattle.flow_rules.specs.Facts.{row_info, column_info, site_info, column_body, class_seen, class_facts, all_words, all_variables, call_seen, fixed_names, makers_seen, makers_of, make_seen, make_of, body_seen as plain_body}
use Rattle.fact_model.specs.declared.facts.CallInfo.{CallInfo}
use Rattle.flow_facts.specs.declared.gathering.Lists.{Lists}
use Rattle.flow_facts.specs.Gathered.{AreUnordered}
use Rattle.flow_facts.specs.declared.stages.Tables.{Tables}
use Rattle.flow_facts.specs.declared.stages.Texts.{Texts}
use Rattle.flow_facts.specs.declared.assembled.Said.{Said}
use Rattle.flow_facts.specs.declared.stages.Numbered.{Numbered}
use Rattle.flow_facts.specs.Seen.{numbers_seen}
use Rattle.flow_facts.specs.Fixed.{fixed_seen}
use Rattle.flow_facts.specs.Views.{body_seen}

-- what each row, column, site and flow point is, and each body
pub record AreFactTables (P : Plain) (d : Numbered) (t : Tables) : Type 0 where
  pub rows : t.rows.items ≡ map (row_info (numbers_seen d.numbering) P) d.rows.items
  pub columns : t.columns.items ≡ map (λ c. column_info P c.item) d.columns.items
  pub sites : t.sites.items ≡ map site_info d.sites.items
  pub points : t.points.items ≡ map (λ p. record { 0 = p.row }) d.points.items
  pub bodies : map plain_body t.bodies.items ≡ each (λ c k. column_body (numbers_seen d.numbering) P c k.item) 0 d.columns.items

-- the classes, the names of the text, and what is fixed for constructors
pub record AreTexts (P : Plain) (t : Texts) : Type 0 where
  pub classes : map class_seen t.classes.items ≡ each (class_facts P) 0 P.classes
  pub words : t.words.items ≡ all_words P
  pub variables : t.variables.items ≡ all_variables P
  pub fixed : map fixed_seen t.fixed.items ≡ fixed_names P
  pub makers : option_map makers_seen t.makers ≡ makers_of P
  pub makes : map make_seen t.makes.items ≡ flat_map make_of (fixed_names P)

-- what the parts of the bodies give to each list, the calls, the tests and both together by their place
pub record AreOrderedLists (N : Numbers) (P : Plain) (bs : List BodyParts) (l : Lists) (listed : List CallInfo) : Type 0 where
  pub unordered : AreUnordered N P bs l.unordered
  pub calls : map call_seen listed ≡ map (λ c. c.item) (by_place (λ c. c.place.at) (flat_map (λ b. flat_map (calls_of N) b.parts) bs))
  pub tests : l.tests.items ≡ by_place (λ t. t.place.at) (flat_map (λ b. flat_map (tests_of N) b.parts) bs)
  pub marks : l.marks.items ≡ by_place (λ x. x.place.at) (flat_map (λ b. flat_map (marks_of P N) b.parts) bs)

-- all of it
pub record IsSaid (P : Plain) (d : Numbered) (s : Said) : Type 0 where
  pub tables : AreFactTables P d s.tables
  pub texts : AreTexts P s.texts
  pub lists : AreOrderedLists (numbers_seen d.numbering) P (map body_seen d.bodies.items) s.lists s.calls.items
  pub spots : s.spots.items ≡ numbered_spots 0 0 s.lists.marks.items
