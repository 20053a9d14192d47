-- The comparisons of rows, columns and flow points hold exactly of equal ones.
use Rattle.std.proofs.Common.{◌≡◌, ℕ, refl, ap, subst}
use Rattle.std.specs.Prelude.{◌==◌, ◌&&◌, nat_eq, Bool, true, false}
use Rattle.std.proofs.lemmas.Bool.{false≢true, eqb-true, eq-eqb}
use Rattle.flow_rules.specs.declared.items.RowItem.{RowItem}
use Rattle.flow_rules.specs.declared.items.RowItem.TheVariants as row
use Rattle.flow_rules.specs.declared.items.ColumnItem.{ColumnItem}
use Rattle.flow_rules.specs.declared.items.ColumnItem.TheVariants as column
use Rattle.flow_rules.specs.declared.items.PointItem.{PointItem}
use Rattle.flow_rules.specs.declared.items.PointItem.TheVariants as point
use Rattle.flow_rules.specs.Numbered.{same_row, same_column, same_point}

both : (a b c d : ℕ) → ((a == c) && (b == d)) ≡ true → (a ≡ c) × (b ≡ d)
both a b c d e = go (a == c) refl e
  where
    go : (z : Bool) → (a == c) ≡ z → (z && (b == d)) ≡ true → (a ≡ c) × (b ≡ d)
    go true h f = (eqb-true a c h, eqb-true b d f)
    go false h f = absurd (false≢true f)

both_same : (a b : ℕ) → ((a == a) && (b == b)) ≡ true
both_same a b = rw (eq-eqb a a refl, eq-eqb b b refl) refl

pub row_exact : (x y : RowItem) → same_row x y ≡ true → x ≡ y
row_exact (row.Field a) (row.Field b) e = ap (λ z. row.Field z) (eqb-true a b e)
row_exact (row.This a) (row.This b) e = ap (λ z. row.This z) (eqb-true a b e)
row_exact (row.Return a) (row.Return b) e = ap (λ z. row.Return z) (eqb-true a b e)
row_exact (row.Param a i) (row.Param b j) e = let z = both a i b j e in subst (λ w. row.Param a i ≡ row.Param b w) z.1 (ap (λ w. row.Param w i) z.0)
row_exact (row.Result a) (row.Result b) e = ap (λ z. row.Result z) (eqb-true a b e)
row_exact (row.Local a i) (row.Local b j) e = let z = both a i b j e in subst (λ w. row.Local a i ≡ row.Local b w) z.1 (ap (λ w. row.Local w i) z.0)
row_exact (row.New a) (row.New b) e = ap (λ z. row.New z) (eqb-true a b e)
row_exact (row.Cast a) (row.Cast b) e = ap (λ z. row.Cast z) (eqb-true a b e)
row_exact (row.Test a) (row.Test b) e = ap (λ z. row.Test z) (eqb-true a b e)
row_exact _ _ e = absurd (false≢true e)

pub row_alike : (x : RowItem) → same_row x x ≡ true
row_alike (row.Field a) = eq-eqb a a refl
row_alike (row.This a) = eq-eqb a a refl
row_alike (row.Return a) = eq-eqb a a refl
row_alike (row.Param a i) = both_same a i
row_alike (row.Result a) = eq-eqb a a refl
row_alike (row.Local a i) = both_same a i
row_alike (row.New a) = eq-eqb a a refl
row_alike (row.Cast a) = eq-eqb a a refl
row_alike (row.Test a) = eq-eqb a a refl

pub column_exact : (x y : ColumnItem) → same_column x y ≡ true → x ≡ y
column_exact (column.Fld a) (column.Fld b) e = ap (λ z. column.Fld z) (eqb-true a b e)
column_exact (column.Dcl a) (column.Dcl b) e = ap (λ z. column.Dcl z) (eqb-true a b e)
column_exact (column.Def a) (column.Def b) e = ap (λ z. column.Def z) (eqb-true a b e)
column_exact (column.Is a) (column.Is b) e = ap (λ z. column.Is (record { 0 = z })) (eqb-true a.0 b.0 e)
column_exact _ _ e = absurd (false≢true e)

pub column_alike : (x : ColumnItem) → same_column x x ≡ true
column_alike (column.Fld a) = eq-eqb a a refl
column_alike (column.Dcl a) = eq-eqb a a refl
column_alike (column.Def a) = eq-eqb a a refl
column_alike (column.Is a) = eq-eqb a.0 a.0 refl

pub point_exact : (x y : PointItem) → same_point x y ≡ true → x ≡ y
point_exact (point.Static a) (point.Static b) e = ap (λ z. point.Static z) (eqb-true a b e)
point_exact (point.This a) (point.This b) e = ap (λ z. point.This z) (eqb-true a b e)
point_exact (point.Local a i) (point.Local b j) e = let z = both a i b j e in subst (λ w. point.Local a i ≡ point.Local b w) z.1 (ap (λ w. point.Local w i) z.0)
point_exact (point.Result a) (point.Result b) e = ap (λ z. point.Result z) (eqb-true a b e)
point_exact (point.Expr a i) (point.Expr b j) e = let z = both a i b j e in subst (λ w. point.Expr a i ≡ point.Expr b w) z.1 (ap (λ w. point.Expr w i) z.0)
point_exact _ _ e = absurd (false≢true e)

pub point_alike : (x : PointItem) → same_point x x ≡ true
point_alike (point.Static a) = eq-eqb a a refl
point_alike (point.This a) = eq-eqb a a refl
point_alike (point.Local a i) = both_same a i
point_alike (point.Result a) = eq-eqb a a refl
point_alike (point.Expr a i) = both_same a i

pub nat_exact : (x y : ℕ) → nat_eq x y ≡ true → x ≡ y
nat_exact x y e = eqb-true x y e

pub nat_alike : (x : ℕ) → nat_eq x x ≡ true
nat_alike x = eq-eqb x x refl
