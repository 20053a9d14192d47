-- Mirror. What the numbering of a program is.
use Rattle.std.specs.Prelude.{◌≡◌, nat_eq, map}
use Rattle.java_core.specs.declared.Program.{Program}
use Rattle.java_core.specs.Programs.{program_of}
use Rattle.fact_model.specs.declared.facts.Facts.{Facts}
use Rattle.flow_rules.specs.Facts.{numbers}
use Rattle.flow_rules.specs.Numbered.{number_among, same_row, same_column, columns_of, sites_of}
use Rattle.write_forms.specs.declared.numbers.Numbering.{Numbering}
use Rattle.write_forms.specs.Makes.{AreMakeNames}

-- it gives the numbers of the program's rows, columns and creations, has the items of the columns and the creations of the sites in their order, and the
-- names of the methods that make the objects of these
pub record AreNumbersOf (program : Program) (F : Facts) (n : Numbering) : Type 0 where
  pub rows : number_among same_row n.rows.keys ≡ (numbers (program_of program)).row
  pub columns : number_among same_column n.columns.keys ≡ (numbers (program_of program)).column
  pub sites : number_among nat_eq n.sites.keys ≡ (numbers (program_of program)).site
  pub items : n.columns.keys ≡ map (λ c. c.item) (columns_of (program_of program))
  pub creations : n.sites.keys ≡ map (λ s. s.number) (sites_of (program_of program))
  pub makes : AreMakeNames F 0 n.makes.items
