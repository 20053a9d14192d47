use Rattle.std.proofs.Common.{◌≡◌, ◌<◌, length, take, All}
use Rattle.concept_build.specs.Tables.{listed_rows}
use Rattle.concept_build.proofs.counts.every_row.Given as goal

abbrev pub invariant-loop-r : goal.invariant-loop-r
invariant-loop-r l = record {
  below : All (λ q. q < length l.table) l.rows.items;
  all : listed_rows l.table l.rows.items ≡ take l.r l.table;
}
