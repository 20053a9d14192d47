use Rattle.std.proofs.Common.{◌≡◌, ℕ, suc, zero, ◌<◌, Bool, true, false, ◌&&◌, List, [], ◌∷◌, length, refl, sym, ap, ◌∙◌}
use Rattle.std.proofs.lemmas.Bool.{and_parts, and_from}
use Rattle.kaba_bits.specs.Sets.{bit, row, IsSubset}
use Rattle.kaba_bits.proofs.SetLemmas.{same_bits}
use Rattle.fact_model.specs.Concepts.{IsExtent, IsConcept}
use Rattle.concept_build.specs.Tables.{IsMeet, IsClosedRow, IsFull}

pub meet-left : (B C R : List Bool) → IsMeet B C R → IsSubset B C
meet-left B C R m = λ i h. (and_parts (bit C i) (bit R i) (sym (m.bits i) ∙ h)).0

pub meet-right : (B C R : List Bool) → IsMeet B C R → IsSubset B R
meet-right B C R m = λ i h. (and_parts (bit C i) (bit R i) (sym (m.bits i) ∙ h)).1

pub closed-meet : (T : List (List Bool)) (w i : ℕ) (B C : List Bool) → i < length T → IsClosedRow T w C → IsMeet B C (row T i) → IsClosedRow T w B
closed-meet T w i B C lt closed m = record {
  len = m.len ∙ closed.len;
  columns = λ c below h.
      m.bits c ∙ and_from (bit C c) (bit (row T i) c)
      (closed.columns c below (λ r rlt sub. h r rlt (λ k b. sub k (meet-left B C (row T i) m k b))))
      (h i lt (meet-right B C (row T i) m));
}

pub closed-concept : (T : List (List Bool)) (w : ℕ) (A B : List Bool) → IsConcept T w A B → IsClosedRow T w B
closed-concept T w A B k = record {
  len = k.intent.len;
  columns = λ c lt h. (k.intent.columns c lt).1 (λ r rlt a. h r rlt ((k.extent.rows r rlt).0 a));
}

pub concept-closed : (T : List (List Bool)) (w : ℕ) (A B : List Bool) → IsExtent T A B → IsClosedRow T w B → IsConcept T w A B
concept-closed T w A B e closed = record {
  extent = e;
  intent = record {
    len = closed.len;
    columns = λ c lt. (λ b r rlt a. (e.rows r rlt).0 a c b, λ h. closed.columns c lt (λ r rlt sub. h r rlt ((e.rows r rlt).1 sub)));
  };
}

pub IsMeet-same : (M N B R : List Bool) → IsMeet M B R → IsMeet N B R → M ≡ N
IsMeet-same M N B R m n = same_bits M N (m.len ∙ sym n.len) (λ i lt. m.bits i ∙ sym (n.bits i))

abbrev pub meet : List Bool → List Bool → List Bool
meet [] ys = []
meet (x ∷ xs) [] = false ∷ meet xs []
meet (x ∷ xs) (y ∷ ys) = (x && y) ∷ meet xs ys

length-meet : (xs ys : List Bool) → length (meet xs ys) ≡ length xs
length-meet [] ys = refl
length-meet (x ∷ xs) [] = ap suc (length-meet xs [])
length-meet (x ∷ xs) (y ∷ ys) = ap suc (length-meet xs ys)

and-false : (x : Bool) → false ≡ (x && false)
and-false true = refl
and-false false = refl

bit-meet : (xs ys : List Bool) (i : ℕ) → bit (meet xs ys) i ≡ (bit xs i && bit ys i)
bit-meet [] ys i = refl
bit-meet (x ∷ xs) [] zero = and-false x
bit-meet (x ∷ xs) [] (suc i) = bit-meet xs [] i
bit-meet (x ∷ xs) (y ∷ ys) zero = refl
bit-meet (x ∷ xs) (y ∷ ys) (suc i) = bit-meet xs ys i

pub IsMeet-meet : (xs ys : List Bool) → IsMeet (meet xs ys) xs ys
IsMeet-meet xs ys = record { len = length-meet xs ys; bits = bit-meet xs ys }

-- the concept of all columns
pub full-concept : (T : List (List Bool)) (w : ℕ) (A B : List Bool) → IsExtent T A B → IsFull w B → IsConcept T w A B
full-concept T w A B e full = concept-closed T w A B e (record { len = full.len; columns = λ c lt h. full.bits c lt })
