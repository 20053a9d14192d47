-- Labels and spans, pair by pair.
use Rattle.std.proofs.Common.{◌≡◌, ℕ, zero, suc, List, [], ◌∷◌, ◌++◌, Option, Some, None, length, ap, refl, arith}
use Rattle.std.specs.Prelude.{slice_get}
use Rattle.std.specs.Option.{option_map}
use Rattle.java_heap.specs.declared.heap.Label.{Label}
use Rattle.java_heap.specs.declared.heap.Span.{Span}
use Rattle.java_heap.specs.Cells.{HeapCell, paired}

pub length_paired : (ls : List Label) (ss : List Span) → length ls ≡ length ss → length (paired ls ss) ≡ length ls
length_paired [] ss h = refl
length_paired (l ∷ ls) [] h = absurd (omega arith)
length_paired (l ∷ ls) (s ∷ ss) h = let d : length ls ≡ length ss = omega arith in ap suc (length_paired ls ss d)

pub label_in : (ls : List Label) (ss : List Span) (at : ℕ) → length ls ≡ length ss
    → option_map (λ (c : HeapCell). c.label) (slice_get (paired ls ss) at) ≡ slice_get ls at
label_in [] ss at h = refl
label_in (l ∷ ls) [] at h = absurd (omega arith)
label_in (l ∷ ls) (s ∷ ss) zero h = refl
label_in (l ∷ ls) (s ∷ ss) (suc at) h = let d : length ls ≡ length ss = omega arith in label_in ls ss at d

pub span_in : (ls : List Label) (ss : List Span) (at : ℕ) → length ls ≡ length ss
    → option_map (λ (c : HeapCell). c.span) (slice_get (paired ls ss) at) ≡ slice_get ss at
span_in [] [] at h = refl
span_in [] (s ∷ ss) at h = absurd (omega arith)
span_in (l ∷ ls) [] at h = absurd (omega arith)
span_in (l ∷ ls) (s ∷ ss) zero h = refl
span_in (l ∷ ls) (s ∷ ss) (suc at) h = let d : length ls ≡ length ss = omega arith in span_in ls ss at d

pub paired_push : (ls : List Label) (ss : List Span) (l : Label) (s : Span) → length ls ≡ length ss
    → paired (ls ++ l ∷ []) (ss ++ s ∷ []) ≡ paired ls ss ++ (record { label = l; span = s }) ∷ []
paired_push [] [] l s h = refl
paired_push [] (r ∷ ss) l s h = absurd (omega arith)
paired_push (k ∷ ls) [] l s h = absurd (omega arith)
paired_push (k ∷ ls) (r ∷ ss) l s h =
    let d : length ls ≡ length ss = omega arith in ap (λ (cs : List HeapCell). (record { label = k; span = r }) ∷ cs) (paired_push ls ss l s d)

-- what has a span, or none
pub with_span : (o : Option HeapCell) (s : Span) → option_map (λ (c : HeapCell). c.span) o ≡ Some s → (c : HeapCell) × (o ≡ Some c) × (s ≡ c.span)
with_span None s h = absurd (cc)
with_span (Some c) s h = (c, refl, cc)

pub without_span : (o : Option HeapCell) → option_map (λ (c : HeapCell). c.span) o ≡ None → o ≡ None
without_span None h = refl
without_span (Some c) h = absurd (cc)
