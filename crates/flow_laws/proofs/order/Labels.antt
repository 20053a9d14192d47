-- The labels of a body: each part that is a flow point has its own.
use Rattle.std.proofs.Common.{◌≡◌, ℕ, zero, suc, ◌+◌, List, [], ◌∷◌, ◌++◌, Option, Some, None, refl, sym, ◌∙◌, arith}
use Rattle.std.specs.Prelude.{◌≤◌, Bool, true, false, Contains}
use Rattle.java_core.specs.Trees.{Tag, Ex, Exs, no_ex, ex_then, own_field, field, index, call, static_call, super_call, create, create_array, cast, instance_of, unary, binary, Target, to_local, to_static, to_own, to_field, to_element, no_target, Sts}
use Rattle.java_core.specs.Programs.{Plain, PlainMethod}
use Rattle.flow_rules.specs.declared.items.ObjectType.{ObjectType}
use Rattle.flow_rules.specs.declared.items.PointItem.{PointItem}
use Rattle.flow_rules.specs.declared.items.PointItem.TheVariants as point
use Rattle.flow_rules.specs.Labels.{size, sizes, label, label_all, label_if, size_put, size_target, label_target, size_sts, label_sts}
use Rattle.flow_rules.specs.Parts.{Part, a_load, an_element, a_creation, a_call, a_static_call, a_super_call, a_test, is_accessed, parts, parts_all, parts_set, parts_return, parts_assign, parts_sts, parts_body, parts_of}
use Rattle.flow_rules.specs.Operands.{type_in}
use Rattle.flow_laws.proofs.cover.StatementParts.{of_sts}
use Rattle.std.specs.Option.{is_some}
use Rattle.java_core.specs.Makers.{maker_of}

-- the label of what an expression gives
abbrev pub label_in : Option PointItem → Option ℕ
label_in (Some (point.Expr m l)) = Some l
label_in _ = None

abbrev pub part_label : Part → Option ℕ
part_label (a_load p b f o) = label_in o.point
part_label (an_element p b o) = label_in o.point
part_label (a_creation p u o s d es) = label_in o.point
part_label (a_call p b s d es o) = label_in o.point
part_label (a_static_call p m es o) = label_in o.point
part_label (a_super_call p m es o) = label_in o.point
part_label (a_test p e o) = label_in o.point
part_label _ = None

-- labels rise from a number on, and stay below another
data Labelled : ℕ → List Part → ℕ → Type 0 where
  none : {a b : ℕ} → a ≤ b → Labelled a [] b
  plain : {a b : ℕ} {p : Part} {ps : List Part} → part_label p ≡ None → Labelled a ps b → Labelled a (p ∷ ps) b
  with : {a b l : ℕ} {p : Part} {ps : List Part} → part_label p ≡ Some l → a ≤ l → Labelled (l + 1) ps b → Labelled a (p ∷ ps) b

from : {a b c : ℕ} {ps : List Part} → a ≤ b → Labelled b ps c → Labelled a ps c
from h (none k) = none (omega (arith, h, k))
from h (plain e r) = plain e (from h r)
from h (with e k r) = with e (omega (arith, h, k)) r

upto : {a b c : ℕ} {ps : List Part} → b ≤ c → Labelled a ps b → Labelled a ps c
upto h (none k) = none (omega (arith, h, k))
upto h (plain e r) = plain e (upto h r)
upto h (with e k r) = with e k (upto h r)

join : {a b c : ℕ} {ps qs : List Part} → Labelled a ps b → Labelled b qs c → Labelled a (ps ++ qs) c
join (none h) s = from h s
join (plain e r) s = plain e (join r s)
join (with e k r) s = with e k (join r s)

above : {a b : ℕ} {ps : List Part} (p : Part) (l : ℕ) → Labelled a ps b → Contains ps p → part_label p ≡ Some l → a ≤ l
above p l (none h) c e = absurd (omega (arith, c.1))
above p l (plain d r) (zero, lt, q) e = absurd (cc)
above p l (plain d r) (suc k, lt, q) e = above p l r (k, omega (arith, lt), q) e
above p l (with {a = a} {l = n} d h r) (zero, lt, q) e = let s : n ≡ l = cc in omega (arith, h, s)
above p l (with d h r) (suc k, lt, q) e = omega (arith, h, above p l r (k, omega (arith, lt), q) e)

-- two parts of one label are one
one_label : {a b : ℕ} {ps : List Part} (p q : Part) (l : ℕ) → Labelled a ps b → Contains ps p → Contains ps q → part_label p ≡ Some l
    → part_label q ≡ Some l → p ≡ q
one_label p q l (none h) c d e f = absurd (omega (arith, c.1))
one_label p q l (plain g r) (zero, lt, x) d e f = absurd (cc)
one_label p q l (plain g r) (suc i, lt, x) (zero, mt, y) e f = absurd (cc)
one_label p q l (plain g r) (suc i, lt, x) (suc j, mt, y) e f = one_label p q l r (i, omega (arith, lt), x) (j, omega (arith, mt), y) e f
one_label p q l (with g h r) (zero, lt, x) (zero, mt, y) e f = sym x ∙ y
one_label p q l (with {l = n} g h r) (zero, lt, x) (suc j, mt, y) e f =
    let s : n ≡ l = cc in
    absurd (omega (arith, s, above q l r (j, omega (arith, mt), y) f))
one_label p q l (with {l = n} g h r) (suc i, lt, x) (zero, mt, y) e f =
    let s : n ≡ l = cc in
    absurd (omega (arith, s, above p l r (i, omega (arith, lt), x) e))
one_label p q l (with g h r) (suc i, lt, x) (suc j, mt, y) e f = one_label p q l r (i, omega (arith, lt), x) (j, omega (arith, mt), y) e f

module _ (P : Plain) (type : Ex → Option ObjectType) (m : ℕ) (k : PlainMethod) where
  abbrev in_ex : Bool → Ex → List Part
  in_ex u e = parts P type m k u e

  mutual
    ex_labels : (n : ℕ) (u : Bool) (e : Ex) → Labelled n (in_ex u (label n e)) (n + size e)
    ex_labels n u (own_field t f) = with {l = n} refl (omega arith) (none (omega arith))
    ex_labels n u (field t e x) = join (ex_labels n (is_accessed (label n e)) e) (with {l = n + size e} refl (omega arith) (none (omega arith)))
    ex_labels n u (index t e i) = join (ex_labels n true e) (with {l = n + size e} refl (omega arith) (upto (omega arith) (ex_labels (n + size e + 1) false i)))
    ex_labels n u (call t e x es) =
        join (ex_labels n true e) (with {l = n + size e} refl (omega arith) (upto (omega arith) (all_labels (n + size e + 1) true es)))
    ex_labels n u (static_call t d es) = with {l = n} refl (omega arith) (upto (omega arith) (all_labels (n + 1) false es))
    ex_labels n u (super_call t x es) = with {l = n} refl (omega arith) (upto (omega arith) (all_labels (n + 1) false es))
    ex_labels n u (create t i c es) = with {l = n} refl (omega arith) (upto (omega arith) (all_labels (n + 1) (is_some (maker_of P c)) es))
    ex_labels n u (create_array t i v e) = with {l = n} refl (omega arith) (upto (omega arith) (ex_labels (n + 1) false e))
    ex_labels n u (cast t i v e) = with {l = n} refl (omega arith) (upto (omega arith) (ex_labels (n + 1) true e))
    ex_labels n u (instance_of t i e c) = join (ex_labels n true e) (with {l = n + size e} refl (omega arith) (none (omega arith)))
    ex_labels n u (unary t o e) = ex_labels n false e
    ex_labels n u (binary t o e d) = join (join (ex_labels n false e) (ex_labels (n + size e) false d)) (plain refl (none (omega arith)))
    ex_labels n u e = none (omega arith)

    all_labels : (n : ℕ) (u : Bool) (es : Exs) → Labelled n (parts_all P type m k u (label_all n es)) (n + sizes es)
    all_labels n u no_ex = none (omega arith)
    all_labels n u (ex_then e es) = upto (omega arith) (join (ex_labels n u e) (all_labels (n + size e) u es))

  set_labels : (n : ℕ) (v : Ex) (e : Option Ex) → Labelled n (parts_set P type m k v (label_if n e)) (n + size_put e)
  set_labels n v None = none (omega arith)
  set_labels n v (Some e) = join (ex_labels n false e) (plain refl (none (omega arith)))

  return_labels : (n : ℕ) (e : Option Ex) → Labelled n (parts_return P type m k (label_if n e)) (n + size_put e)
  return_labels n None = none (omega arith)
  return_labels n (Some e) = join (ex_labels n false e) (plain refl (none (omega arith)))

  assign_labels : (n : ℕ) (t : Tag) (b : Target) (e : Ex)
      → Labelled n (parts_assign P type m k t.place (label_target n b) (label (n + size_target b) e)) (n + (size_target b + size e + 1))
  assign_labels n t (to_local s i) e = from {b = n + 0} (omega arith) (join (ex_labels (n + 0) false e) (plain refl (none (omega arith))))
  assign_labels n t (to_static s f) e = from {b = n + 0} (omega arith) (join (ex_labels (n + 0) false e) (plain refl (none (omega arith))))
  assign_labels n t (to_own s f) e = from {b = n + 0} (omega arith) (join (ex_labels (n + 0) true e) (plain refl (none (omega arith))))
  assign_labels n t (to_field s b x) e = join (join (ex_labels n (is_accessed (label n b)) b) (ex_labels (n + size b) true e)) (plain refl (none (omega arith)))
  assign_labels n t (to_element s b i) e =
      join (join (join (ex_labels n true b) (ex_labels (n + size b) false i)) (from {b = n + (size b + size i)} (omega arith)
      (ex_labels (n + (size b + size i)) true e))) (plain refl (none (omega arith)))
  assign_labels n t no_target e = from {b = n + 0} (omega arith) (join (ex_labels (n + 0) false e) (plain refl (none (omega arith))))

  sts_labels : (n : ℕ) (xs : Sts) → Labelled n (parts_sts P type m k (label_sts n xs)) (n + size_sts xs)
  sts_labels = of_sts P type m k (λ a ps b xs. Labelled a ps b) (λ n. none (omega arith)) (λ a b c ps qs xs ys v w. join v w) (λ n e. ex_labels n false e)
      set_labels return_labels assign_labels

body_labels : (P : Plain) (type : Ex → Option ObjectType) (m : ℕ) (k : PlainMethod) (b : Option Sts) (p q : Part) (l : ℕ)
    → Contains (parts_body P type m k b) p → Contains (parts_body P type m k b) q → part_label p ≡ Some l → part_label q ≡ Some l → p ≡ q
body_labels P type m k None p q l c d e f = absurd (omega (arith, c.1))
body_labels P type m k (Some xs) p q l c d e f = one_label p q l (sts_labels P type m k 0 xs) c d e f

-- two parts of a body with one label are one
pub label_apart : (P : Plain) (m : ℕ) (k : PlainMethod) (p q : Part) (l : ℕ) → Contains (parts_of P m k) p → Contains (parts_of P m k) q
    → part_label p ≡ Some l → part_label q ≡ Some l → p ≡ q
unfolding parts_of
label_apart P m k p q l c d e f = body_labels P (type_in P m k) m k k.body p q l c d e f
