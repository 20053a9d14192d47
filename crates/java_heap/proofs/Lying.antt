-- Cells whose values lie one behind the other among the values of all: where they lie, what is added and what is put there.
use Rattle.std.proofs.Common.{◌≡◌, ℕ, zero, suc, ◌+◌, ◌-◌, ◌<◌, ◌≤◌, List, [], ◌∷◌, ◌++◌, Some, refl, length, take, drop, ap, sym, subst, ◌∙◌, arith, length-drop}
use Rattle.std.proofs.Math.ListN.{set}
use Rattle.std.proofs.Math.Seq.{drop-append_seam, take-length, take-set-lt}
use Rattle.std.proofs.lemmas.List.{map-set, length-map, length-take, take-set-le, drop-set-lt, drop-set-add, drop-append-le, take-append-le}
use Rattle.std.specs.Prelude.{map, slice_get}
use Rattle.java_heap.specs.declared.heap.Span.{Span}
use Rattle.java_heap.specs.declared.values.Value.{Value}
use Rattle.java_heap.specs.Seen.{value_of, kind_of}
use Rattle.java_heap.specs.Cells.{HeapCell, site_of, values_in, cell_in, LieFrom}
use Rattle.java_meaning.specs.Moment.{Cell}

-- where cells lie
pub end_after : (cs : List HeapCell) (from size : ℕ) → LieFrom from cs size → from ≤ size
end_after [] from size h = h
end_after (c ∷ cs) from size h = let e : c.span.start + c.span.len ≤ size = end_after cs (c.span.start + c.span.len) size h.1 in omega arith

pub cell_within : (cs : List HeapCell) (from size at : ℕ) (c : HeapCell) → LieFrom from cs size → slice_get cs at ≡ Some c → c.span.start + c.span.len ≤ size
cell_within [] from size at c h e = absurd (cc)
cell_within (d ∷ ds) from size zero c h e =
    let p : d ≡ c = cc in subst (λ (k : HeapCell). k.span.start + k.span.len ≤ size) p (end_after ds (d.span.start + d.span.len) size h.1)
cell_within (d ∷ ds) from size (suc at) c h e = cell_within ds (d.span.start + d.span.len) size at c h.1 e

cell_behind : (cs : List HeapCell) (from size at : ℕ) (c : HeapCell) → LieFrom from cs size → slice_get cs at ≡ Some c → from ≤ c.span.start
cell_behind [] from size at c h e = absurd (cc)
cell_behind (d ∷ ds) from size zero c h e = let p : d ≡ c = cc in subst (λ (k : HeapCell). from ≤ k.span.start) p h.0
cell_behind (d ∷ ds) from size (suc at) c h e =
    let q : d.span.start + d.span.len ≤ c.span.start = cell_behind ds (d.span.start + d.span.len) size at c h.1 e in omega arith

pub lie_wider : (cs : List HeapCell) (from n m : ℕ) → LieFrom from cs n → n ≤ m → LieFrom from cs m
lie_wider [] from n m h le = omega arith
lie_wider (c ∷ cs) from n m h le = (h.0, lie_wider cs (c.span.start + c.span.len) n m h.1 le)

pub lie_push : (cs : List HeapCell) (from n m : ℕ) (c : HeapCell) → LieFrom from cs n → n ≤ c.span.start → c.span.start + c.span.len ≤ m
    → LieFrom from (cs ++ c ∷ []) m
lie_push [] from n m c h le q = (omega arith, q)
lie_push (d ∷ ds) from n m c h le q = (h.0, lie_push ds (d.span.start + d.span.len) n m c h.1 le q)

-- the values of one cell
same_cell : (vs ws : List Value) (c : HeapCell) → values_in vs c.span ≡ values_in ws c.span → cell_in vs c ≡ cell_in ws c
same_cell vs ws c e = ap (λ (l : List Value). record { site = site_of c.label.site; kind = kind_of c.label.kind; values = map value_of l }) e

values_added : (vs ys : List Value) (c : HeapCell) → c.span.start + c.span.len ≤ length vs → values_in (vs ++ ys) c.span ≡ values_in vs c.span
values_added vs ys c le =
    ap (λ (l : List Value). take c.span.len l) (drop-append-le c.span.start vs ys (omega arith))
    ∙ take-append-le c.span.len (drop c.span.start vs) ys (omega (arith, length-drop c.span.start vs))

pub values_last : (vs ys : List Value) (c : HeapCell) → c.span.start ≡ length vs → c.span.len ≡ length ys → values_in (vs ++ ys) c.span ≡ ys
values_last vs ys c e d =
    ap (λ n. take c.span.len (drop n (vs ++ ys))) e
    ∙ ap (λ (l : List Value). take c.span.len l) (drop-append_seam vs ys)
    ∙ ap (λ n. take n ys) d
    ∙ take-length ys

values_after : (vs : List Value) (k : ℕ) (v : Value) (c : HeapCell) → k < c.span.start → values_in (set vs k v) c.span ≡ values_in vs c.span
values_after vs k v c lt = ap (λ (l : List Value). take c.span.len l) (drop-set-lt c.span.start vs k v lt)

values_before : (vs : List Value) (k : ℕ) (v : Value) (c : HeapCell) → c.span.start + c.span.len ≤ k → values_in (set vs k v) c.span ≡ values_in vs c.span
values_before vs k v c le =
    let e : k ≡ c.span.start + (k - c.span.start) = omega arith in
    ap (λ n. take c.span.len (drop c.span.start (set vs n v))) e
    ∙ ap (λ (l : List Value). take c.span.len l) (drop-set-add c.span.start vs (k - c.span.start) v)
    ∙ take-set-le c.span.len (drop c.span.start vs) (k - c.span.start) v (omega arith)

values_put : (vs : List Value) (place : ℕ) (v : Value) (c : HeapCell) → place < c.span.len
    → values_in (set vs (c.span.start + place) v) c.span ≡ set (values_in vs c.span) place v
values_put vs place v c lt =
    ap (λ (l : List Value). take c.span.len l) (drop-set-add c.span.start vs place v)
    ∙ take-set-lt c.span.len (drop c.span.start vs) place v lt

pub length_within : (vs : List Value) (s : Span) → s.start + s.len ≤ length vs → length (map value_of (values_in vs s)) ≡ s.len
length_within vs s le = length-map (values_in vs s) value_of ∙ (length-take s.len (drop s.start vs) ∙ omega (arith, length-drop s.start vs))

-- a value is added behind all, and the cells stay
two : (a b : Cell) (xs ys : List Cell) → a ≡ b → xs ≡ ys → a ∷ xs ≡ b ∷ ys
two a b xs ys e d = ap (λ x. x ∷ xs) e ∙ ap (λ l. b ∷ l) d

pub cells_added : (vs ys : List Value) (cs : List HeapCell) (from : ℕ) → LieFrom from cs (length vs) → map (cell_in (vs ++ ys)) cs ≡ map (cell_in vs) cs
cells_added vs ys [] from h = refl
cells_added vs ys (c ∷ cs) from h =
    let first = values_added vs ys c (end_after cs (c.span.start + c.span.len) (length vs) h.1) in
    two _ _ _ _ (same_cell (vs ++ ys) vs c first) (cells_added vs ys cs (c.span.start + c.span.len) h.1)

-- a value is put into a cell
cells_after : (vs : List Value) (k : ℕ) (v : Value) (cs : List HeapCell) (from size : ℕ) → LieFrom from cs size → k < from
    → map (cell_in (set vs k v)) cs ≡ map (cell_in vs) cs
cells_after vs k v [] from size h lt = refl
cells_after vs k v (c ∷ cs) from size h lt =
    let head : cell_in (set vs k v) c ≡ cell_in vs c = same_cell (set vs k v) vs c (values_after vs k v c (omega (arith, h.0))) in
    two _ _ _ _ head (cells_after vs k v cs (c.span.start + c.span.len) size h.1 (omega (arith, h.0)))

-- a cell after a value is put into it
abbrev pub written : Cell → ℕ → Value → Cell
written c place v = record { site = c.site; kind = c.kind; values = set c.values place (value_of v) }

cell_put : (vs : List Value) (place : ℕ) (v : Value) (c : HeapCell) → place < c.span.len
    → cell_in (set vs (c.span.start + place) v) c ≡ written (cell_in vs c) place v
cell_put vs place v c lt =
    ap (λ l. record { site = site_of c.label.site; kind = kind_of c.label.kind; values = l })
    (ap (map value_of) (values_put vs place v c lt) ∙ map-set value_of (values_in vs c.span) place v)

pub cells_put : (vs : List Value) (place : ℕ) (v : Value) (cs : List HeapCell) (from size at : ℕ) (c : HeapCell) → LieFrom from cs size
    → slice_get cs at ≡ Some c → place < c.span.len
    → map (cell_in (set vs (c.span.start + place) v)) cs ≡ set (map (cell_in vs) cs) at (written (cell_in vs c) place v)
cells_put vs place v [] from size at c h e lt = absurd (cc)
cells_put vs place v (d ∷ ds) from size zero c h e lt =
    let p : c ≡ d = cc in
    let short : place < d.span.len = subst (λ (k : HeapCell). place < k.span.len) p lt in
    subst (λ (k : HeapCell). map (cell_in (set vs (k.span.start + place) v)) (d ∷ ds) ≡ written (cell_in vs k) place v ∷ map (cell_in vs) ds) (sym p)
    (two _ _ _ _ (cell_put vs place v d short) (cells_after vs (d.span.start + place) v ds (d.span.start + d.span.len) size h.1 (omega arith)))
cells_put vs place v (d ∷ ds) from size (suc at) c h e lt =
    let k = c.span.start + place in
    let q : d.span.start + d.span.len ≤ c.span.start = cell_behind ds (d.span.start + d.span.len) size at c h.1 e in
    let head : cell_in (set vs k v) d ≡ cell_in vs d = same_cell (set vs k v) vs d (values_before vs k v d (omega arith)) in
    two _ _ _ _ head (cells_put vs place v ds (d.span.start + d.span.len) size at c h.1 e lt)
