-- Where names stand: what is found by a name's numbers is what is found by going over all.
use Rattle.std.proofs.Common.{◌≡◌, ℕ, suc, ◌+◌, Bool, true, false, ◌&&◌, cond, List, [], ◌∷◌, ◌++◌, map, length, Option, Some, Result, Ok, Err, arith, refl, sym, ap, ◌∙◌, subst}
use Rattle.std.specs.Prelude.{slice_get, if◌then◌else◌}
use Rattle.std.specs.List.{position_from}
use Rattle.std.specs.Option.{option_map_or}
use Rattle.std.specs.declared.vec.Vec.{Vec}
use Rattle.std.specs.declared.alloc.Global.{Global}
use Rattle.std.specs.Str.{bytes_eq}
use Rattle.std.proofs.lemmas.Slice.Eq.{bytes_eq-Decides}
use Rattle.std.proofs.lemmas.List.{append_assoc, length-append, length-map, map-append}
use Rattle.kaba_base.proofs.ListLemmas.{middle}
use Rattle.name_tables.specs.declared.spots.Spots.{Spots}
use Rattle.java_core.specs.Owned.{passes, first_among}
use Rattle.name_tables.specs.Spots.{AreSpots, spots_from, spots_of}

pub same_ok : {A E : Type 0} (a b : A) → ◌≡◌ {A = Result A E} (Ok a) (Ok b) → a ≡ b
same_ok a b e = ap (λ o. elim o [ Ok x ↦ x | Err r ↦ a ]) e

-- a list taken under one name, and put back longer
pub taken-put : (b : Bool) (old mid new : List ℕ) (k : ℕ) (own : List ℕ) → (b ≡ true → own ≡ old) → mid ≡ cond b [] old
    → new ≡ cond b (own ++ k ∷ []) mid → new ≡ cond b (old ++ k ∷ []) old
taken-put true old mid new k own e f g = g ∙ ap (λ l. l ++ k ∷ []) (e refl)
taken-put false old mid new k own e f g = g ∙ f

-- where the numbers of the items that pass a test are listed from k on, one item more stands last
pub listed-more : {A : Type 0} (passes : A → Bool) (from : ℕ → List A → List ℕ) → ((k : ℕ) → from k [] ≡ [])
    → ((k : ℕ) (y : A) (ys : List A) → from k (y ∷ ys) ≡ cond (passes y) (k ∷ from (k + 1) ys) (from (k + 1) ys))
    → (k : ℕ) (xs : List A) (x : A) → from k (xs ++ x ∷ []) ≡ cond (passes x) (from k xs ++ (k + length xs) ∷ []) (from k xs)
listed-more passes from none next k [] x =
    rw (next k x [], none (k + 1), none k) (ap (λ j. cond (passes x) (j ∷ []) []) (omega arith))
listed-more passes from none next k (y ∷ xs) x =
    rw (next k y (xs ++ x ∷ []), next k y xs) (go (passes y) (passes x) (listed-more passes from none next (k + 1) xs x
    ∙ ap (λ j. cond (passes x) (from (k + 1) xs ++ j ∷ []) (from (k + 1) xs)) (omega arith)))
  where
    go : (b d : Bool) → from (k + 1) (xs ++ x ∷ []) ≡ cond d (from (k + 1) xs ++ (k + length (y ∷ xs)) ∷ []) (from (k + 1) xs)
        → cond b (k ∷ from (k + 1) (xs ++ x ∷ [])) (from (k + 1) (xs ++ x ∷ []))
        ≡ cond d (cond b (k ∷ from (k + 1) xs) (from (k + 1) xs) ++ (k + length (y ∷ xs)) ∷ []) (cond b (k ∷ from (k + 1) xs) (from (k + 1) xs))
    go true true h = ap (λ z. k ∷ z) h
    go true false h = ap (λ z. k ∷ z) h
    go false true h = h
    go false false h = h

spots-more : (k : ℕ) (names : List (List ℕ)) (x n : List ℕ) → spots_from k n (names ++ x ∷ [])
    ≡ cond (bytes_eq x n) (spots_from k n names ++ (k + length names) ∷ []) (spots_from k n names)
spots-more k names x n = listed-more (λ y. bytes_eq y n) (λ k. spots_from k n) (λ k. refl) (λ k y ys. refl) k names x

-- a table that was right is right with one member more
pub spots_noted : {A : Type 0} (name : A → List ℕ) (xs ys : List A) (x : A) (k : ℕ) (old new : Spots) → ys ≡ xs ++ x ∷ [] → AreSpots (map name xs) old
    → k ≡ length xs → ((n : List ℕ) → spots_of new n ≡ cond (bytes_eq (name x) n) (spots_of old n ++ k ∷ []) (spots_of old n)) → AreSpots (map name ys) new
spots_noted name xs ys x k old new push are long put = subst (λ z. AreSpots z new) (sym (ap (map name) push ∙ map-append name xs (x ∷ [])))
    (record {
      exact = λ n. put n ∙ ap (λ z. cond (bytes_eq (name x) n) (z ++ k ∷ []) z) (are.exact n)
          ∙ ap (λ j. cond (bytes_eq (name x) n) (spots_from 0 n (map name xs) ++ j ∷ []) (spots_from 0 n (map name xs)))
          (long ∙ sym (length-map xs name) ∙ omega arith)
          ∙ sym (spots-more 0 (map name xs) (name x) n);
    })

-- the numbers under a name, where the table was changed under one name
pub found_items : (b : Bool) (w o : Option (Vec ℕ Global)) → option_map_or (λ v. v.items) (cond b w o) [] ≡ cond b (option_map_or (λ v. v.items) w [])
    (option_map_or (λ v. v.items) o [])
found_items true w o = refl
found_items false w o = refl

module _ {A : Type 0} (name : A → List ℕ) (p : A → Bool) (n : List ℕ) where
  -- what passes among those of a name is what passes and has the name
  pub among : (done rest : List A) (k : ℕ) → length done ≡ k → first_among p (done ++ rest) (spots_from k n (map name rest))
      ≡ position_from (λ x. p x && bytes_eq (name x) n) k rest
  among done [] k e = refl
  among done (x ∷ rest) k e =
      by_name (bytes_eq (name x) n) (p x) (ap (passes p) (subst (λ i. slice_get (done ++ x ∷ rest) i ≡ Some x) e (middle done x rest)))
      (ap (λ w. first_among p w (spots_from (k + 1) n (map name rest))) (sym (append_assoc done (x ∷ []) rest))
      ∙ among (done ++ x ∷ []) rest (k + 1) (length-append done (x ∷ []) ∙ ap (λ i. i + 1) e))
    where
      by_name : (b c : Bool) → passes p (slice_get (done ++ x ∷ rest) k) ≡ c → first_among p (done ++ x ∷ rest) (spots_from (k + 1) n (map name rest))
          ≡ position_from (λ x. p x && bytes_eq (name x) n) (k + 1) rest
          → first_among p (done ++ x ∷ rest) (cond b (k ∷ spots_from (k + 1) n (map name rest)) (spots_from (k + 1) n (map name rest)))
          ≡ cond (c && b) (Some k) (position_from (λ x. p x && bytes_eq (name x) n) (k + 1) rest)
      by_name true true g h = ap (λ z. if z then Some k else first_among p (done ++ x ∷ rest) (spots_from (k + 1) n (map name rest))) g
      by_name true false g h = ap (λ z. if z then Some k else first_among p (done ++ x ∷ rest) (spots_from (k + 1) n (map name rest))) g ∙ h
      by_name false true g h = h
      by_name false false g h = h

-- the first number of a name's list is that of a method of the name
spots-holds : (i : ℕ) (n : List ℕ) (names : List (List ℕ)) (f : ℕ) → slice_get (spots_from i n names) 0 ≡ Some f
    → (d : ℕ) × (f ≡ i + d) × (slice_get names d ≡ Some n)
spots-holds i n [] f e = absurd (cc e)
spots-holds i n (x ∷ xs) f e = go (bytes_eq x n) refl e (λ g. spots-holds (i + 1) n xs f g)
  where
    go : (b : Bool) → bytes_eq x n ≡ b → slice_get (cond b (i ∷ spots_from (i + 1) n xs) (spots_from (i + 1) n xs)) 0 ≡ Some f
        → (slice_get (spots_from (i + 1) n xs) 0 ≡ Some f → (d : ℕ) × (f ≡ i + 1 + d) × (slice_get xs d ≡ Some n))
        → (d : ℕ) × (f ≡ i + d) × (slice_get (x ∷ xs) d ≡ Some n)
    go true h g more = let same : i ≡ f = cc g in (0, omega (arith, same), ap Some ((bytes_eq-Decides x n).0 h))
    go false h g more = let r = more g in let k = r.1 in (suc r.0, omega (arith, k), r.2)

pub first-named : {A : Type 0} (name : A → List ℕ) (all : List A) (spots : Spots) → AreSpots (map name all) spots → (n : List ℕ) (f : ℕ)
    → slice_get (spots_of spots n) 0 ≡ Some f → slice_get (map name all) f ≡ Some n
first-named name all spots exact n f e =
    let r = spots-holds 0 n (map name all) f (subst (λ l. slice_get l 0 ≡ Some f) (exact.exact n) e) in
    subst (λ z. slice_get (map name all) z ≡ Some n) (let k = r.1 in omega (arith, k)) r.2
