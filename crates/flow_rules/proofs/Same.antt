-- The derived equality of items is the one of the definitions.
use Rattle.std.proofs.Common.{◌≡◌, refl}
use mathlib.Core.Path.{fun_ext}
use Rattle.flow_rules.specs.declared.items.RowItem.{RowItem}
use Rattle.flow_rules.specs.declared.items.RowItem.TheVariants as row
use Rattle.flow_rules.specs.declared.items.ColumnItem.{ColumnItem}
use Rattle.flow_rules.specs.declared.items.ColumnItem.TheVariants as column
use Rattle.flow_rules.specs.declared.items.PointItem.{PointItem}
use Rattle.flow_rules.specs.declared.items.PointItem.TheVariants as point
use Rattle.flow_rules.specs.contracts.items.RowItemPartialEq.TheImpl as row_derived
use Rattle.flow_rules.specs.contracts.items.ColumnItemPartialEq.TheImpl as column_derived
use Rattle.flow_rules.specs.contracts.items.PointItemPartialEq.TheImpl as point_derived
use Rattle.flow_rules.specs.Numbered.{same_row, same_column, same_point}

row_eq : (a b : RowItem) → row_derived.eq-value.it a b ≡ same_row a b
row_eq (row.Field f) (row.Field g) = refl
row_eq (row.This f) (row.This g) = refl
row_eq (row.Return f) (row.Return g) = refl
row_eq (row.Param s i) (row.Param t j) = refl
row_eq (row.Result f) (row.Result g) = refl
row_eq (row.Local s i) (row.Local t j) = refl
row_eq (row.New f) (row.New g) = refl
row_eq (row.Cast f) (row.Cast g) = refl
row_eq (row.Test f) (row.Test g) = refl
row_eq _ _ = refl

column_eq : (a b : ColumnItem) → column_derived.eq-value.it a b ≡ same_column a b
column_eq (column.Fld f) (column.Fld g) = refl
column_eq (column.Dcl f) (column.Dcl g) = refl
column_eq (column.Def f) (column.Def g) = refl
column_eq (column.Is f) (column.Is g) = refl
column_eq _ _ = refl

point_eq : (a b : PointItem) → point_derived.eq-value.it a b ≡ same_point a b
point_eq (point.Static f) (point.Static g) = refl
point_eq (point.This f) (point.This g) = refl
point_eq (point.Local s i) (point.Local t j) = refl
point_eq (point.Result f) (point.Result g) = refl
point_eq (point.Expr s i) (point.Expr t j) = refl
point_eq _ _ = refl

pub same_rows : row_derived.eq-value.it ≡ same_row
same_rows = fun_ext (λ a. fun_ext (row_eq a))

pub same_columns : column_derived.eq-value.it ≡ same_column
same_columns = fun_ext (λ a. fun_ext (column_eq a))

pub same_points : point_derived.eq-value.it ≡ same_point
same_points = fun_ext (λ a. fun_ext (point_eq a))
