use Rattle.std.proofs.Common.{◌≡◌, ◌≢◌, ⊎_elim, ℕ, ◌+◌, ◌<◌, ◌==◌, Bool, true, false, ◌&&◌, ◌||◌, not, List, [], ◌∷◌, ◌++◌, length, get_or, take, refl, sym, ap, ◌∙◌}
use Rattle.std.proofs.lemmas.List.Folds.{list_any_more}
use Rattle.std.proofs.lemmas.Bool.{cases_Bool, eqb-true, ne_eqb}
use Rattle.std.proofs.lemmas.List.{map-append}
use Rattle.kaba_base.specs.declared.NodeId.{NodeId}
use Rattle.kaba_bits.specs.Sets.{bit}
use Rattle.kaba_order.specs.Orders.{is_among, has_any, stays, numbers}

-- an empty row has none of a list
pub has_any_none : (set : List NodeId) → has_any [] set ≡ false
unfolding has_any
has_any_none [] = refl
has_any_none (s ∷ set) = has_any_none set

-- a row has some of one where it has that
pub has_any_one : (r : List Bool) (n : NodeId) → has_any r (n ∷ []) ≡ bit r n.0
unfolding has_any
has_any_one r n = or-false (bit r n.0)
  where
    or-false : (x : Bool) → (x || false) ≡ x
    or-false true = refl
    or-false false = refl

-- one more element of the list
pub stays_more : (set : List NodeId) (m a i : ℕ) (d : NodeId) → i < length set → stays (take (i + 1) set) m a
    ≡ (stays (take i set) m a && (not (a == (get_or set i d).0) || (a == m)))
stays_more set m a i d lt = rw (list_any_more (λ s. a == s.0) set i d lt) (split (is_among (take i set) a) (a == (get_or set i d).0) (a == m))
  where
    split : (x y z : Bool) → (not (x || y) || z) ≡ ((not x || z) && (not y || z))
    split true true true = refl
    split true false true = refl
    split true true false = refl
    split true false false = refl
    split false true true = refl
    split false true false = refl
    split false false z = refl

pub numbers-push : (nodes : List NodeId) (n : NodeId) → numbers (nodes ++ n ∷ []) ≡ numbers nodes ++ n.0 ∷ []
numbers-push nodes n = map-append (λ x. x.0) nodes (n ∷ [])

-- the kept node takes no other out
pub stays_same : (set : List NodeId) (m a i : ℕ) (d : NodeId) → i < length set → (get_or set i d).0 ≡ m → stays (take (i + 1) set) m a ≡ stays (take i set) m a
stays_same set m a i d lt e = stays_more set m a i d lt ∙ ap (λ x. stays (take i set) m a && (not (a == x) || (a == m))) e
    ∙ split (stays (take i set) m a) (a == m)
  where
    split : (x y : Bool) → (x && (not y || y)) ≡ x
    split true true = refl
    split true false = refl
    split false y = refl

-- another node of the list takes itself out
pub stays_less : (set : List NodeId) (m a i : ℕ) (d : NodeId) → i < length set → (get_or set i d).0 ≢ m → stays (take (i + 1) set) m a
    ≡ (stays (take i set) m a && not (a == (get_or set i d).0))
stays_less set m a i d lt ne =
    let s = (get_or set i d).0 in
    stays_more set m a i d lt
    ∙ ap (λ x. stays (take i set) m a && x)
    (⊎_elim
    (λ e. let f : (a == m) ≡ false = ne_eqb a m (λ am. ne (sym (eqb-true a s e) ∙ am)) in rw (e, f) refl)
    (λ f. rw f refl)
    (cases_Bool (a == s)))

pub swap_tests : (x p q y z : Bool) → (x && p && q && y && z) ≡ (x && (p && y) && (q && z))
swap_tests true true true y z = refl
swap_tests true true false true z = refl
swap_tests true true false false z = refl
swap_tests true false q y z = refl
swap_tests false p q y z = refl
