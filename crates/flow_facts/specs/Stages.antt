-- Mirror. What the code numbers in a program, before the lists that stand on the numbers.
use Rattle.std.specs.Prelude.{◌≡◌, ℕ, ◌+◌, ◌<◌, ◌≤◌, List, length, map, None}
use Rattle.java_core.specs.Programs.{Plain}
use Rattle.flow_facts.specs.declared.stages.Numbered.{Numbered}
use Rattle.flow_facts.specs.declared.stages.Table.{Table}
use Rattle.flow_facts.specs.declared.stages.Flow.{Flow}
use Rattle.flow_rules.specs.declared.faults.Counted.{Counted}
use Rattle.flow_rules.specs.declared.faults.FactsFault.{FactsFault}
use Rattle.flow_rules.specs.declared.faults.FactsFault.TheVariants as fault
use Rattle.flow_rules.specs.Numbered.{rows_of, columns_of, sites_of, points_of, bodies_of}
use Rattle.flow_rules.specs.Facts.{numbers, cells_of, too_many}
use Rattle.flow_facts.specs.Views.{body_seen}
use Rattle.flow_facts.specs.Seen.{numbers_seen}

-- a list that is wanted and has no more items than a limit, and the keys of its items
pub record IsListed {T K : Type 0} (key : T → K) (limit : ℕ) (wanted list : List T) (list_keys : List K) : Type 0 where
  pub items : list ≡ wanted
  pub keys : list_keys ≡ map key wanted
  pub few : length wanted ≤ limit

-- what a fault says of a count and its limit
abbrev pub IsCountOver : ℕ → ℕ → Counted → FactsFault → Type 0
IsCountOver n limit what (fault.TooMany kind k) = (limit < n) × (kind ≡ what) × (k ≡ limit + 1)
IsCountOver n limit what fault.Memory = Unit {0}

-- the rows and the columns, with their items
pub record IsFactTable (P : Plain) (t : Table) : Type 0 where
  pub rows : IsListed (λ r. r.item) 16384 (rows_of P) t.rows.items.items t.rows.keys.keys
  pub columns : IsListed (λ c. c.item) 8192 (columns_of P) t.columns.items.items t.columns.keys.keys

-- the sites and the flow points, with their numbers and items
pub record HasFlowPoints (P : Plain) (f : Flow) : Type 0 where
  pub sites : IsListed (λ s. s.number) 8192 (sites_of P) f.sites.items.items f.sites.keys.keys
  pub points : IsListed (λ p. p.item) 65536 (points_of P) f.points.items.items f.points.keys.keys

-- what is numbered, in order, the bodies, and the numbers; there is not too much of anything
pub record IsNumbered (P : Plain) (d : Numbered) : Type 0 where
  pub rows : d.rows.items ≡ rows_of P
  pub columns : d.columns.items ≡ columns_of P
  pub sites : d.sites.items ≡ sites_of P
  pub points : d.points.items ≡ points_of P
  pub cells : d.cells.items ≡ cells_of P
  pub bodies : map body_seen d.bodies.items ≡ bodies_of P
  pub numbers : numbers_seen d.numbering ≡ numbers P
  pub column_items : d.numbering.columns.keys ≡ map (λ c. c.item) (columns_of P)
  pub site_numbers : d.numbering.sites.keys ≡ map (λ s. s.number) (sites_of P)
  pub few : length (columns_of P) ≤ 8192
  pub few_sites : length (sites_of P) ≤ 8192
  pub counts : too_many P ≡ None
