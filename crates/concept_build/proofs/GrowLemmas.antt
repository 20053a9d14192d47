-- Lists of concepts that grow.
use Rattle.std.proofs.Common.{◌≡◌, ℕ, ◌<◌, Bool, false, List, [], ◌∷◌, ◌++◌, length, get_or, refl, sym, ap, ◌∙◌, subst, arith}
use Rattle.std.specs.Prelude.{Contains}
use Rattle.std.proofs.lemmas.List.{map-append, length-map, length_push, get_or_push, get_or_default}
use Rattle.std.proofs.lemmas.List.Elements.{All-push}
use Rattle.std.proofs.lemmas.List.Quantifiers.{all_pairs_push}
use Rattle.kaba_bits.specs.Sets.{bit, row, rising}
use Rattle.kaba_bits.proofs.RisingLemmas.{rising_from-same}
use Rattle.fact_model.specs.Concepts.{Pair, IsConcept}
use Rattle.concept_build.specs.Tables.{IsMeet, AreNear}
use Rattle.concept_build.specs.Lists.{columns_of, pair_at, AreConceptsFound, GrowsList, HasMeet, IsNextConcept, AreNext}
use Rattle.concept_build.proofs.MadeLemmas.{meet, IsMeet-meet}
use Rattle.concept_build.proofs.ExtentLemmas.{nothing, column-columns_of}

pub Grows-refl : (xs : List Pair) → GrowsList xs xs
Grows-refl xs = record { len = omega arith; same = λ k lt. refl }

-- the last concept has the columns of an intersection
pub HasMeet-push : (xs : List Pair) (y : Pair) (B R : List Bool) → IsMeet y.1 B R → HasMeet (xs ++ y ∷ []) B R
HasMeet-push xs y B R m = (length xs, omega (arith, length_push xs y), subst (λ p. IsMeet p.1 B R) (sym (get_or_push xs y nothing (length xs) refl)) m)

pub Grows-trans : (a b c : List Pair) → GrowsList a b → GrowsList b c → GrowsList a c
Grows-trans a b c g h = record { len = omega (arith, g.len, h.len); same = λ k lt. h.same k (omega (arith, lt, g.len)) ∙ g.same k lt }

pub HasMeet-grows : (a b : List Pair) (B R : List Bool) → GrowsList a b → HasMeet a B R → HasMeet b B R
HasMeet-grows a b B R g h = (h.0, omega (arith, h.1, g.len), subst (λ (x : Pair). IsMeet x.1 B R) (sym (g.same h.0 h.1)) h.2)

pub AreNext-grows : (T : List (List Bool)) (a b : List Pair) (k : ℕ) → k < length a → GrowsList a b → AreNext T a k → AreNext T b k
AreNext-grows T a b k lt g next r rlt lacks =
    let e = g.same k lt in
    let n = next r rlt (subst (λ (x : Pair). bit x.0 r ≡ false) e lacks) in
    subst (λ (x : Pair). IsNextConcept T x.0 x.1 b r) (sym e) (record {
      q = n.q;
      below = n.below;
      lacks = n.lacks;
      more = n.more;
      has = HasMeet-grows a b
          (pair_at a k).1 (row T n.q) g n.has;
    })

-- the neighbours by near rows
pub AreNext-near : (T : List (List Bool)) (xs : List Pair) (k n : ℕ) (near : List ℕ) → AreNear T (pair_at xs k).0 (pair_at xs k).1 near
    → n ≡ length near → ((i d : ℕ) → i < n → HasMeet xs (pair_at xs k).1 (row T (get_or near i d))) → AreNext T xs k
AreNext-near T xs k n near are len has r rlt lacks =
    let h = are.each r rlt lacks in
    let c = h.1 in
    record {
      q = h.0;
      below = subst (λ m. m < length T) c.2 (are.below c.0 h.0 c.1);
      lacks = subst (λ m. bit (pair_at xs k).0 m ≡ false) c.2 (are.lacks c.0 h.0 c.1);
      more = h.2;
      has = subst (λ m. HasMeet xs (pair_at xs k).1 (row T m)) c.2 (has c.0 h.0 (omega (arith, c.1, len)));
    }

module _ (T : List (List Bool)) (w : ℕ) (xs : List Pair) (keys : List (List ℕ)) (found : AreConceptsFound T w xs keys) where
  pub AreFound-push : (y : Pair) (new : List (List ℕ)) → IsConcept T w y.0 y.1 → new ≡ keys ++ rising y.1 ∷ [] → (Contains keys (rising y.1) → ⊥)
      → AreConceptsFound T w (xs ++ y ∷ []) new
  AreFound-push y new o e fresh =
      let more : columns_of (xs ++ y ∷ []) ≡ columns_of xs ++ rising y.1 ∷ [] = map-append (λ (x : Pair). rising x.1) xs (y ∷ []) in
      record {
        each = All-push (λ x. IsConcept T w x.0 x.1) xs y found.each o;
        differ = rw more (all_pairs_push (λ a b. a ≡ b → ⊥) (columns_of xs) (rising y.1) found.differ (λ k d lt same.
            fresh (subst (λ l. Contains l (rising y.1)) (sym found.listed) (k, lt, get_or_default (columns_of xs) k (rising y.1) d lt ∙ same))));
        listed = e ∙ (ap (λ l. l ++ rising y.1 ∷ []) found.listed ∙ sym more);
      }

  -- a set whose columns are listed is an intent
  pub meet-known : (B R : List Bool) → length B ≡ w → Contains keys (rising (meet B R)) → HasMeet xs B R
  meet-known B R wide c =
      let len = length-map xs (λ (x : Pair). rising x.1) in
      let k = c.0 in
      let lt : k < length xs = omega (arith, c.1, ap length found.listed, len) in
      let x = pair_at xs k in
      let m = IsMeet-meet B R in
      let same : rising x.1 ≡ rising (meet B R) = sym (column-columns_of xs k (rising (meet B R)) lt)
      ∙ (sym (ap (λ l. get_or l k (rising (meet B R))) found.listed) ∙ c.2) in
      let e : x.1 ≡ meet B R = rising_from-same 0 x.1 (meet B R) ((found.each k nothing lt).intent.len ∙ sym (m.len ∙ wide)) same in
      (k, lt, subst (λ s. IsMeet s B R) (sym e) m)
