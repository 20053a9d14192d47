-- A hierarchy's table is each closed table of its facts.
use Rattle.std.proofs.Common.{◌≡◌, length, sym, ◌∙◌, subst}
use Rattle.std.specs.Cmp.{both_ways}
use Rattle.kaba_bits.specs.Sets.{bit, row, HasWidth}
use Rattle.kaba_bits.proofs.RowLemmas.{same_rows}
use Rattle.fact_model.specs.Entries.{IsTable}
use Rattle.fact_model.specs.declared.facts.Facts.{Facts}
use Rattle.fact_model.specs.declared.sets.Table.{Table}
use Rattle.hier_model.specs.Hierarchies.{Hierarchy, KeepsTable}

pub same_table : (F : Facts) (H : Hierarchy) (t : Table) → KeepsTable F H.table → IsTable F t → H.table ≡ t.rows.items
same_table F H t k is =
    same_rows (length F.columns.items) H.table t.rows.items (k.rows ∙ sym is.sized.rows) k.widths
    (subst (λ n. HasWidth n t.rows.items) is.sized.columns is.sized.widths)
    (λ r c. both_ways (bit (row H.table r) c) (bit (row t.rows.items r) c) (λ h. (is.entries r c).1 ((k.entries r c).0 h))
    (λ h. (k.entries r c).1 ((is.entries r c).0 h)))
