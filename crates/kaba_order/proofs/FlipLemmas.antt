-- What exchanges make of truth values, and of orders.
use Rattle.std.proofs.Common.{◌≡◌, ℕ, ◌+◌, ◌<◌, ◌==◌, Bool, true, false, ◌&&◌, not, List, [], ◌∷◌, ◌++◌, length, get_or, set, take, refl, sym, ap, ◌∙◌, subst, ⊎_elim, eq-eqb, eqb-true}
use Rattle.std.proofs.lemmas.Bool.{cases_Bool, cases_eq, and_parts, false≢true, ne_eqb}
use Rattle.std.proofs.lemmas.List.{take_more, get_or-set_same, get_or-set_other}
use Rattle.kaba_base.specs.declared.NodeId.{NodeId}
use Rattle.kaba_bits.specs.Sets.{bit, row, HasWidth}
use Rattle.kaba_bits.proofs.SetLemmas.{same_bits}
use Rattle.kaba_bits.proofs.RowLemmas.{same_rows}
use Rattle.kaba_order.specs.Orders.{Ordered, IsPartialOrder}
use Rattle.kaba_order.specs.Flips.{flip_where, is_flipped, names_node, names_pair, IsFlipped}

pub flip_none : (x : Bool) → flip_where x false ≡ x
flip_none true = refl
flip_none false = refl

pub flip_twice : (x y b : Bool) → flip_where x (flip_where y b) ≡ flip_where (flip_where x y) b
flip_twice true true true = refl
flip_twice true true false = refl
flip_twice true false b = refl
flip_twice false y b = refl

pub is_flipped-append : {A : Type 0} (p : A → Bool) (xs ys : List A) → is_flipped p (xs ++ ys) ≡ flip_where (is_flipped p xs) (is_flipped p ys)
is_flipped-append p [] ys = refl
is_flipped-append p (x ∷ xs) ys = ap (flip_where (p x)) (is_flipped-append p xs ys) ∙ flip_twice (p x) (is_flipped p xs) (is_flipped p ys)

-- one more item
pub is_flipped-next : {A : Type 0} (p : A → Bool) (xs : List A) (i : ℕ) (d : A) → i < length xs
    → flip_where (p (get_or xs i d)) (is_flipped p (take i xs)) ≡ is_flipped p (take (i + 1) xs)
is_flipped-next p xs i d lt =
    let x = p (get_or xs i d) in
    let f = is_flipped p (take i xs) in
    sym (ap (is_flipped p) (take_more xs i d lt) ∙ is_flipped-append p (take i xs) (get_or xs i d ∷ [])
    ∙ (ap (flip_where f) (flip_none x) ∙ comm f x))
  where
    comm : (x y : Bool) → flip_where x y ≡ flip_where y x
    comm true true = refl
    comm true false = refl
    comm false true = refl
    comm false false = refl

pub is_flipped-more : {A : Type 0} (p : A → Bool) (xs : List A) (i : ℕ) (d : A) → i < length xs → (b : Bool)
    → flip_where (p (get_or xs i d)) (flip_where (is_flipped p (take i xs)) b) ≡ flip_where (is_flipped p (take (i + 1) xs)) b
is_flipped-more p xs i d lt b =
    flip_twice (p (get_or xs i d)) (is_flipped p (take i xs)) b ∙ ap (λ z. flip_where z b) (is_flipped-next p xs i d lt)

-- a set in which one number was exchanged
pub set_flipped : (r : List Bool) (n a : ℕ) → n < length r → bit (set r n (not (bit r n))) a ≡ flip_where (a == n) (bit r a)
set_flipped r n a lt =
    ⊎_elim
    (λ e. ap (bit (set r n (not (bit r n)))) e ∙ (get_or-set_same r n (not (bit r n)) false lt
    ∙ (ap (λ k. not (bit r k)) (sym e) ∙ ap (λ t. flip_where t (bit r a)) (sym (eq-eqb a n e)))))
    (λ ne. get_or-set_other r n a (not (bit r n)) false ne ∙ ap (λ t. flip_where t (bit r a)) (sym (ne_eqb a n ne)))
    (cases_eq a n)

-- one node more, in a set
pub live_more : (nodes : List NodeId) (i : ℕ) (d : NodeId) (start r new : List Bool) → i < length nodes → (get_or nodes i d).0 < length r
    → new ≡ set r (get_or nodes i d).0 (not (bit r (get_or nodes i d).0))
    → ((a : ℕ) → bit r a ≡ flip_where (is_flipped (names_node a) (take i nodes)) (bit start a)) → (a : ℕ)
    → bit new a ≡ flip_where (is_flipped (names_node a) (take (i + 1) nodes)) (bit start a)
live_more nodes i d start r new lt below e before a =
    let n = (get_or nodes i d).0 in
    ap (λ l. bit l a) e ∙ (set_flipped r n a below ∙ (ap (flip_where (a == n)) (before a) ∙ is_flipped-more (names_node a) nodes i d lt (bit start a)))

-- one node more, in a square
own_cases : (e p q f x : Bool) → (e ≡ true → p ≡ q) → (e ≡ false → (p && q) ≡ false)
    → flip_where (p && q) (flip_where (e && f) x) ≡ flip_where (e && flip_where p f) x
own_cases true true true f x g h = flip_twice true f x
own_cases true true false f x g h = absurd (false≢true (sym (g refl)))
own_cases true false q f x g h = refl
own_cases false p q f x g h = ap (λ t. flip_where t x) (h refl)

pub own_more : (nodes : List NodeId) (i : ℕ) (d : NodeId) (start r new : List (List Bool)) → i < length nodes
    → ((a b : ℕ) → bit (row new a) b ≡ flip_where ((a == (get_or nodes i d).0) && (b == (get_or nodes i d).0)) (bit (row r a) b))
    → ((a b : ℕ) → bit (row r a) b ≡ flip_where ((a == b) && is_flipped (names_node a) (take i nodes)) (bit (row start a) b)) → (a b : ℕ)
    → bit (row new a) b ≡ flip_where ((a == b) && is_flipped (names_node a) (take (i + 1) nodes)) (bit (row start a) b)
own_more nodes i d start r new lt e before a b =
    let n = (get_or nodes i d).0 in
    let f = is_flipped (names_node a) (take i nodes) in
    e a b ∙ (ap (flip_where ((a == n) && (b == n))) (before a b)
    ∙ (own_cases (a == b) (a == n) (b == n) f (bit (row start a) b) (λ t. ap (λ k. k == n) (eqb-true a b t))
    (λ none. none_both none)
    ∙ ap (λ t. flip_where ((a == b) && t) (bit (row start a) b)) (is_flipped-next (names_node a) nodes i d lt)))
  where
    none_both : (a == b) ≡ false → ((a == (get_or nodes i d).0) && (b == (get_or nodes i d).0)) ≡ false
    none_both none =
        let n = (get_or nodes i d).0 in
        ⊎_elim
        (λ t. let x = and_parts (a == n) (b == n) t in
        absurd (false≢true (sym none ∙ eq-eqb a b (eqb-true a n x.0 ∙ sym (eqb-true b n x.1)))))
        (λ f. f) (cases_Bool ((a == n) && (b == n)))

-- one pair more
pub pairs_more : (pairs : List (NodeId × NodeId)) (i : ℕ) (d : NodeId × NodeId) (start r new : List (List Bool)) → i < length pairs
    → ((a b : ℕ) → bit (row new a) b ≡ flip_where ((a == (get_or pairs i d).0.0) && (b == (get_or pairs i d).1.0)) (bit (row r a) b))
    → ((a b : ℕ) → bit (row r a) b ≡ flip_where (is_flipped (names_pair a b) (take i pairs)) (bit (row start a) b)) → (a b : ℕ)
    → bit (row new a) b ≡ flip_where (is_flipped (names_pair a b) (take (i + 1) pairs)) (bit (row start a) b)
pairs_more pairs i d start r new lt e before a b =
    e a b ∙ (ap (flip_where (names_pair a b (get_or pairs i d))) (before a b) ∙ is_flipped-more (names_pair a b) pairs i d lt (bit (row start a) b))

-- two orders that the same exchanges make have the same pairs
module _ (old new other : Ordered) (nodes : List NodeId) (pairs : List (NodeId × NodeId)) (f : IsFlipped old nodes pairs new) (g : IsFlipped old nodes pairs other)
    (p : IsPartialOrder other) (count : length new.le ≡ length new.live) (widths : HasWidth (length new.live) new.le) where
  pub one_flipped : new ≡ other
  one_flipped =
      let live : new.live ≡ other.live = same_bits new.live other.live (f.count ∙ sym g.count) (λ i lt. f.live i ∙ sym (g.live i)) in
      let rows : new.le ≡ other.le = same_rows (length new.live) new.le other.le (count ∙ (ap length live ∙ sym p.count)) widths
      (subst (λ w. HasWidth w other.le) (sym (ap (λ l. length l) live)) p.widths) (λ k i. f.le k i ∙ sym (g.le k i)) in
      let first : new ≡ record { live = other.live; le = new.le } = ap (λ (l : List Bool). let o : Ordered = record { live = l; le = new.le } in o) live in
      first ∙ ap (λ (l : List (List Bool)). let o : Ordered = record { live = other.live; le = l } in o) rows
