-- Believed. The text of a table.
use Rattle.std.specs.Prelude.{ℕ, ◌+◌, Bool, List, [], ◌∷◌, ◌++◌, length, codes}
use Rattle.std.specs.List.{flat_map}
use Rattle.std.specs.Fmt.{decimal}
use Rattle.std.specs.Str.{encode_utf8_all}
use Rattle.kaba_bits.specs.Sets.{row, rising}
use Rattle.fact_model.specs.declared.facts.Facts.{Facts}
use Rattle.fact_model.specs.declared.facts.RowInfo.{RowInfo}
use Rattle.fact_model.specs.declared.facts.ColumnInfo.{ColumnInfo}
use Rattle.fact_model.specs.declared.sets.Table.{Table}

-- columns by their numbers; an empty list is left away
abbrev pub marks_text : List ℕ → List ℕ
marks_text cs = flat_map (λ c. codes " c" ++ decimal c) cs

-- the line of a row: its number, its label and its columns
abbrev pub row_text : ℕ → RowInfo → List Bool → List ℕ
row_text k r columns = codes "r" ++ (decimal k ++ (codes " " ++ (encode_utf8_all r.label ++ (codes ":" ++ (marks_text (rising columns) ++ codes "\n")))))

-- the lines of rows, the first having the number k
abbrev pub rows_text : ℕ → List RowInfo → List (List Bool) → List ℕ
rows_text k [] sets = []
rows_text k (r ∷ rs) sets = row_text k r (row sets k) ++ rows_text (k + 1) rs sets

-- the line of a column: its number and its label
abbrev pub column_text : ℕ → ColumnInfo → List ℕ
column_text k c = codes "c" ++ (decimal k ++ (codes " " ++ (encode_utf8_all c.label ++ codes "\n")))

-- the lines of columns, the first having the number k
abbrev pub columns_text : ℕ → List ColumnInfo → List ℕ
columns_text k [] = []
columns_text k (c ∷ cs) = column_text k c ++ columns_text (k + 1) cs

-- how many rows there are and a line for each, and how many columns and a line for each
abbrev pub table_text : Facts → Table → List ℕ
table_text f t =
    codes "rows " ++ (decimal (length f.rows.items) ++ (codes "\n" ++ (rows_text 0 f.rows.items t.rows.items
    ++ (codes "columns " ++ (decimal (length f.columns.items) ++ (codes "\n" ++ columns_text 0 f.columns.items))))))
