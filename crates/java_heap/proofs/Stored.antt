-- The heap after a cell is added or a value is put, and what is read of it.
use Rattle.std.proofs.Common.{◌≡◌, ℕ, ◌+◌, ◌<◌, ◌≤◌, List, [], ◌∷◌, ◌++◌, Option, Some, None, length, get_or, ap, refl, sym, subst, ◌∙◌, arith, length-append}
use Rattle.std.proofs.Math.ListN.{set}
use Rattle.std.proofs.lemmas.List.{length-map, map-append}
use Rattle.std.proofs.lemmas.Option.{slice_get-map, slice_get-get_or}
use Rattle.std.specs.Prelude.{map, replicate, slice_get}
use Rattle.std.specs.Option.{option_map, option_and_then, IfSome}
use Rattle.java_heap.specs.declared.heap.CellKind.{CellKind}
use Rattle.java_heap.specs.declared.heap.Label.{Label}
use Rattle.java_heap.specs.declared.heap.Span.{Span}
use Rattle.java_heap.specs.declared.values.Value.{Value}
use Rattle.java_heap.specs.Seen.{value_of, kind_of}
use Rattle.java_heap.specs.Cells.{Store, HeapCell, site_of, paired, values_in, cell_in, cells_of, LieFrom, IsHeap}
use Rattle.java_heap.proofs.Copies.{map_replicate}
use Rattle.java_heap.proofs.Paired.{length_paired, label_in, span_in, paired_push, with_span, without_span}
use Rattle.java_heap.proofs.Lying.{cell_within, lie_wider, lie_push, values_last, cells_added, cells_put, length_within, written}
use Rattle.java_meaning.specs.Moment as moment
use Rattle.java_meaning.specs.Moment.{Cell}

-- a heap of these cells; with a value put into a cell, and with one more cell
abbrev pub heap_of : List (List ℕ) → List Label → List Span → List Value → Store
heap_of strings ls ss vs = record { strings = strings; cells = cells_of ls ss vs }

abbrev pub with_written : Store → ℕ → Cell → ℕ → Value → Store
with_written h at c place v = record { strings = h.strings; cells = set h.cells at (written c place v) }

abbrev pub with_cell : Store → Label → List Value → Store
with_cell h l ys = record { strings = h.strings; cells = h.cells ++ (record { site = site_of l.site; kind = kind_of l.kind; values = map value_of ys }) ∷ [] }

abbrev pub values_at : ℕ → Option Cell → Option moment.Value
values_at place o = option_and_then (λ (c : Cell). slice_get c.values place) o

module _ (strings : List (List ℕ)) (h : Store) (ls : List Label) (ss : List Span) (vs : List Value) (e : heap_of strings ls ss vs ≡ h)
    (is : IsHeap ls ss vs) where
  -- how many cells there are
  pub count : length ls ≡ length h.cells
  count = sym (length_paired ls ss is.same) ∙ sym (length-map (paired ls ss) (cell_in vs)) ∙ ap (λ (k : Store). length k.cells) e

  pub span_within : (at : ℕ) → at < length h.cells → at < length ss
  span_within at lt = omega (arith, count, is.same)

  -- what stands at a place
  seen : (at : ℕ) → slice_get h.cells at ≡ option_map (cell_in vs) (slice_get (paired ls ss) at)
  seen at = ap (λ (k : Store). slice_get k.cells at) (sym e) ∙ slice_get-map (cell_in vs) (paired ls ss) at

  found : (at : ℕ) (s : Span) → Some s ≡ slice_get ss at → (c : HeapCell) × (slice_get (paired ls ss) at ≡ Some c) × (s ≡ c.span)
  found at s p = with_span (slice_get (paired ls ss) at) s (span_in ls ss at is.same ∙ sym p)

  span_at : (at : ℕ) (s : Span) → at < length h.cells → s ≡ get_or ss at s → Some s ≡ slice_get ss at
  span_at at s lt q = ap Some q ∙ sym (slice_get-get_or ss at s (span_within at lt))

  pub room : (at : ℕ) (s : Span) → Some s ≡ slice_get ss at → s.start + s.len ≤ length vs
  room at s p =
      let f = found at s p in
      subst (λ (r : Span). r.start + r.len ≤ length vs) (sym f.2) (cell_within (paired ls ss) 0 (length vs) at f.0 is.lie f.1)

  -- what a cell is
  kind_in : (o : Option HeapCell)
      → option_map (λ (c : Cell). c.kind) (option_map (cell_in vs) o) ≡ option_map (λ (l : Label). kind_of l.kind) (option_map (λ (c : HeapCell). c.label) o)
  kind_in None = refl
  kind_in (Some c) = refl

  kind_seen : (at : ℕ) → option_map (λ (c : Cell). c.kind) (slice_get h.cells at) ≡ option_map (λ (l : Label). kind_of l.kind) (slice_get ls at)
  kind_seen at =
      ap (option_map (λ (c : Cell). c.kind)) (seen at)
      ∙ kind_in (slice_get (paired ls ss) at)
      ∙ ap (option_map (λ (l : Label). kind_of l.kind)) (label_in ls ss at is.same)

  kind_of_label : (o : Option Label) → option_map kind_of (option_map (λ (l : Label). l.kind) o) ≡ option_map (λ (l : Label). kind_of l.kind) o
  kind_of_label None = refl
  kind_of_label (Some l) = refl

  pub kind_found : (at : ℕ) (k : Option CellKind) → k ≡ option_map (λ (l : Label). l.kind) (slice_get ls at)
      → option_map kind_of k ≡ option_map (λ (c : Cell). c.kind) (slice_get h.cells at)
  kind_found at k q = ap (option_map kind_of) q ∙ kind_of_label (slice_get ls at) ∙ sym (kind_seen at)

  -- its values
  pub read_there : (at place : ℕ) (s : Span) (r : Option Value) → Some s ≡ slice_get ss at
      → option_map value_of r ≡ slice_get (map value_of (values_in vs s)) place → option_map value_of r ≡ values_at place (slice_get h.cells at)
  read_there at place s r p q =
      let f = found at s p in
      q
      ∙ ap (λ (t : Span). slice_get (map value_of (values_in vs t)) place) f.2
      ∙ ap (values_at place) (sym (seen at ∙ ap (option_map (cell_in vs)) f.1))

  pub read_gone : (at place : ℕ) → None ≡ slice_get ss at → None ≡ values_at place (slice_get h.cells at)
  read_gone at place p =
      let gone = without_span (slice_get (paired ls ss) at) (span_in ls ss at is.same ∙ sym p) in
      ap (values_at place) (sym (seen at ∙ ap (option_map (cell_in vs)) gone))

  pub count_there : (at : ℕ) (s : Span) → at < length h.cells → s ≡ get_or ss at s
      → option_map (λ (c : Cell). length c.values) (slice_get h.cells at) ≡ Some s.len
  count_there at s lt q =
      let p = span_at at s lt q in
      let f = found at s p in
      ap (option_map (λ (c : Cell). length c.values)) (seen at ∙ ap (option_map (cell_in vs)) f.1)
      ∙ ap (λ (t : Span). Some (length (map value_of (values_in vs t)))) (sym f.2)
      ∙ ap Some (length_within vs s (room at s p))

  -- a place of a cell is one of the values
  within : (at place : ℕ) (s : Span) → Some s ≡ slice_get ss at → IfSome (slice_get h.cells at) (λ c. place < length c.values)
      → place < length (map value_of (values_in vs s))
  within at place s p w =
      let f = found at s p in
      let g : slice_get h.cells at ≡ Some (cell_in vs f.0) = seen at ∙ ap (option_map (cell_in vs)) f.1 in
      subst (λ (t : Span). place < length (map value_of (values_in vs t))) (sym f.2) (subst (λ o. IfSome o (λ (c : Cell). place < length c.values)) g w)

  pub place_within : (at place : ℕ) (s : Span) → at < length h.cells → IfSome (slice_get h.cells at) (λ c. place < length c.values) → s ≡ get_or ss at s
      → s.start + place < length vs
  place_within at place s lt w q =
      let p = span_at at s lt q in
      let r : s.start + s.len ≤ length vs = room at s p in
      let n : place < length (map value_of (values_in vs s)) = within at place s p w in
      omega (arith, length_within vs s r)

  -- a value is put into a cell
  pub stored : (at place : ℕ) (v : Value) (s : Span) → at < length h.cells → IfSome (slice_get h.cells at) (λ c. place < length c.values) → s ≡ get_or ss at s
      → IfSome (slice_get h.cells at) (λ c. heap_of strings ls ss (set vs (s.start + place) v) ≡ with_written h at c place v)
  stored at place v s lt w q =
      let p = span_at at s lt q in
      let f = found at s p in
      let t = f.0 in
      let g : slice_get h.cells at ≡ Some (cell_in vs t) = seen at ∙ ap (option_map (cell_in vs)) f.1 in
      let n : place < length (map value_of (values_in vs s)) = within at place s p w in
      let short : place < s.len = omega (arith, length_within vs s (room at s p)) in
      let near : place < t.span.len = subst (λ (r : Span). place < r.len) f.2 short in
      subst (λ o. IfSome o (λ (c : Cell). heap_of strings ls ss (set vs (s.start + place) v) ≡ with_written h at c place v)) (sym g)
      (ap (λ (r : Span). heap_of strings ls ss (set vs (r.start + place) v)) f.2
      ∙ ap (λ (l : List Cell). record { strings = strings; cells = l }) (cells_put vs place v (paired ls ss) 0 (length vs) at t is.lie f.1 near)
      ∙ ap (λ (k : Store). with_written k at (cell_in vs t) place v) e)

  -- a cell is added, with its values behind all
  pub added : (ms : List Label) (rs : List Span) (ws ys : List Value) (l : Label) (s : Span) → ms ≡ ls ++ l ∷ [] → rs ≡ ss ++ s ∷ [] → ws ≡ vs ++ ys
      → s.start ≡ length vs → s.len ≡ length ys → heap_of strings ms rs ws ≡ with_cell h l ys
  added ms rs ws ys l s m r w a b =
      let t : HeapCell = record { label = l; span = s } in
      ap (λ (k : List Label). heap_of strings k rs ws) m
      ∙ ap (λ (k : List Span). heap_of strings (ls ++ l ∷ []) k ws) r
      ∙ ap (λ (k : List Value). heap_of strings (ls ++ l ∷ []) (ss ++ s ∷ []) k) w
      ∙ ap (λ (k : List HeapCell). record { strings = strings; cells = map (cell_in (vs ++ ys)) k }) (paired_push ls ss l s is.same)
      ∙ ap (λ (k : List Cell). record { strings = strings; cells = k }) (map-append (cell_in (vs ++ ys)) (paired ls ss) (t ∷ []))
      ∙ ap (λ (k : List Cell). record { strings = strings; cells = k ++ cell_in (vs ++ ys) t ∷ [] }) (cells_added vs ys (paired ls ss) 0 is.lie)
      ∙ ap (λ (k : List Value). with_cell (heap_of strings ls ss vs) l k) (values_last vs ys t a b)
      ∙ ap (λ (k : Store). with_cell k l ys) e

-- the cells lie as they have to, also where only their values were added
module _ (ls ms : List Label) (ss rs : List Span) (vs ws ys : List Value) (is : IsHeap ls ss vs) (w : ws ≡ vs ++ ys) where
  size : length ws ≡ length vs + length ys
  size = ap length w ∙ length-append vs ys

  pub heap_longer : ms ≡ ls → rs ≡ ss → IsHeap ms rs ws
  heap_longer m r =
      let e : paired ms rs ≡ paired ls ss = ap (λ k. paired k rs) m ∙ ap (paired ls) r in
      record {
        same = ap length m ∙ is.same ∙ sym (ap length r);
        lie = subst (λ k. LieFrom 0 k (length ws)) (sym e) (lie_wider (paired ls ss) 0 (length vs) (length ws) is.lie (omega (arith, size)));
      }

  pub heap_added : (l : Label) (s : Span) → ms ≡ ls ++ l ∷ [] → rs ≡ ss ++ s ∷ [] → s.start ≡ length vs → s.len ≡ length ys → IsHeap ms rs ws
  heap_added l s m r a b =
      let t : HeapCell = record { label = l; span = s } in
      let e : paired ms rs ≡ paired ls ss ++ t ∷ [] = ap (λ k. paired k rs) m ∙ ap (paired (ls ++ l ∷ [])) r ∙ paired_push ls ss l s is.same in
      record {
        same = omega (arith, ap length m, ap length r, is.same, length-append ls (l ∷ []), length-append ss (s ∷ []));
        lie = subst (λ k. LieFrom 0 k (length ws)) (sym e) (lie_push (paired ls ss) 0 (length vs) (length ws) t is.lie (omega arith) (omega (arith, size)));
      }

-- so many copies of a value are added
pub copies_of : (m count : ℕ) (x : Value) (d : moment.Value) → m ≡ count → value_of x ≡ d → map value_of (replicate m x) ≡ replicate count d
copies_of m count x d e q = map_replicate value_of m x ∙ ap (λ n. replicate n (value_of x)) e ∙ ap (replicate count) q
