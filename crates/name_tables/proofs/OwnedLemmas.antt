-- Where a class's own members stand: the table of them, and one member more.
use Rattle.std.proofs.Common.{◌≡◌, ℕ, ◌+◌, Bool, true, false, ◌&&◌, cond, List, [], ◌∷◌, ◌++◌, length, Option, Some, None, arith, refl, sym, ap, ◌∙◌}
use Rattle.std.specs.Prelude.{nat_eq, is_some, position, ◌==◌}
use Rattle.std.specs.List.{position_from}
use Rattle.std.specs.Option.{option_map_or}
use Rattle.std.specs.Str.{bytes_eq, encode_utf8_all}
use Rattle.std.specs.HashMap.{HashMap}
use Rattle.std.proofs.lemmas.Bool.{and_parts}
use Rattle.std.proofs.lemmas.Iterator.Adapters.{position_from-zero}
use Rattle.std.proofs.lemmas.Bool.Decides.{Decides-eqb}
use Rattle.std.proofs.lemmas.Slice.Eq.{bytes_eq-Decides}
use Rattle.kaba_base.proofs.Texts.{text_test}
use Rattle.indexmap.specs.IndexMap.{get}
use Rattle.java_core.specs.Classes.{first_or}
use Rattle.name_tables.specs.Owned.{AreNamesOwned, owned_in}
use Rattle.name_tables.specs.declared.owned.Owned.{Owned}

-- ---- the table

-- the number under a class, where the table was changed under one name
pub in_table : {S : Type 0} (c : ℕ) (a b : List ℕ) (bs : List ℕ) (w o new : Option (HashMap ℕ ℕ S)) → bs ≡ encode_utf8_all a
    → new ≡ cond (bytes_eq bs (encode_utf8_all b)) w o
    → option_map_or (λ m. get nat_eq m c) new None
    ≡ cond (bytes_eq a b) (option_map_or (λ m. get nat_eq m c) w None) (option_map_or (λ m. get nat_eq m c) o None)
in_table {S} c a b bs w o new is put =
    ap (λ (x : Option (HashMap ℕ ℕ S)). option_map_or (λ m. get nat_eq m c) x None)
    (put ∙ ap (λ z. cond (bytes_eq z (encode_utf8_all b)) w o) is ∙ ap (λ z. cond z w o) (text_test a b))
    ∙ split (bytes_eq a b)
  where
    split : (z : Bool) → option_map_or (λ m. get nat_eq m c) (cond z w o) None
        ≡ cond z (option_map_or (λ m. get nat_eq m c) w None) (option_map_or (λ m. get nat_eq m c) o None)
    split true = refl
    split false = refl

-- the numbers of a name taken, and put back with one more
pub put_back : (d b : Bool) (k : ℕ) (old own mid more new : Option ℕ) → (b ≡ true → own ≡ old) → mid ≡ cond b None old → more ≡ cond d (Some k) own
    → new ≡ cond b more mid → new ≡ cond (d && b) (Some k) old
put_back true true k old own mid more new e f g h = h ∙ g
put_back true false k old own mid more new e f g h = h ∙ f
put_back false true k old own mid more new e f g h = h ∙ g ∙ e refl
put_back false false k old own mid more new e f g h = h ∙ f

-- ---- one member more

-- what is found with one member more
position-push : {A : Type 0} (p : A → Bool) (k : ℕ) (xs : List A) (x : A) → position_from p k (xs ++ x ∷ [])
    ≡ first_or (position_from p k xs) (cond (p x) (Some (k + length xs)) None)
position-push p k [] x = ap (λ j. cond (p x) (Some j) None) (omega arith)
position-push p k (y ∷ xs) x =
    let e : (k + 1) + length xs ≡ k + length (y ∷ xs) = omega arith in
    go (p y) (position_from p (k + 1) (xs ++ x ∷ [])) (position_from p (k + 1) xs) (cond (p x) (Some (k + length (y ∷ xs))) None)
    (position-push p (k + 1) xs x ∙ ap (λ j. first_or (position_from p (k + 1) xs) (cond (p x) (Some j) None)) e)
  where
    go : (b : Bool) (o q r : Option ℕ) → o ≡ first_or q r → cond b (Some k) o ≡ first_or (cond b (Some k) q) r
    go true o q r h = refl
    go false o q r h = h

-- the class and the name are those of the entry
same_entry : (find : ℕ → List ℕ → Option ℕ) (class : ℕ) (name : List ℕ) (c : ℕ) (n : List ℕ) → (class == c) && bytes_eq name n ≡ true
    → find class name ≡ find c n
same_entry find class name c n e =
    let h = and_parts (class == c) (bytes_eq name n) e in
    ap (λ z. find z name) ((Decides-eqb class c).0 h.0) ∙ ap (find c) ((bytes_eq-Decides name n).0 h.1)

-- an entry that is there already stays as it is
pub first_kept : (find : ℕ → List ℕ → Option ℕ) (class : ℕ) (name : List ℕ) (k : ℕ) → is_some (find class name) ≡ true → (c : ℕ) (n : List ℕ)
    → find c n ≡ first_or (find c n) (cond ((class == c) && bytes_eq name n) (Some k) None)
first_kept find class name k there c n = go ((class == c) && bytes_eq name n) refl (find c n) refl
  where
    go : (b : Bool) → (class == c) && bytes_eq name n ≡ b → (o : Option ℕ) → find c n ≡ o → o ≡ first_or o (cond b (Some k) None)
    go b e (Some j) f = refl
    go false e None f = refl
    go true e None f = absurd (cc (sym there ∙ ap is_some (same_entry find class name c n e ∙ f)))

-- a table that was right is right with one member more
module _ {A : Type 0} (owner : A → ℕ) (name : A → List ℕ) where
  -- the first of a name
  abbrev pub find : List A → ℕ → List ℕ → Option ℕ
  find xs c n = position (λ x. (owner x == c) && bytes_eq (name x) n) xs

  pub noted_more : (xs ys : List A) (x : A) (k : ℕ) (old new : Owned) → ys ≡ xs ++ x ∷ [] → AreNamesOwned (find xs) old → k ≡ length xs
      → ((c : ℕ) (n : List ℕ) → owned_in new c n ≡ first_or (owned_in old c n) (cond ((owner x == c) && bytes_eq (name x) n) (Some k) None))
      → AreNamesOwned (find ys) new
  noted_more xs ys x k old new push are long put = record {
    exact = λ c n. put c n ∙ ap (λ o. first_or o (cond ((owner x == c) && bytes_eq (name x) n) (Some k) None)) (are.exact c n)
        ∙ ap (λ j. first_or (find xs c n) (cond ((owner x == c) && bytes_eq (name x) n) (Some j) None)) (long ∙ omega arith)
        ∙ sym (ap (λ z. find z c n) push ∙ position_from-zero (λ y. (owner y == c) && bytes_eq (name y) n) (xs ++ x ∷ [])
        ∙ position-push (λ y. (owner y == c) && bytes_eq (name y) n) 0 xs x
        ∙ ap (λ o. first_or o (cond ((owner x == c) && bytes_eq (name x) n) (Some (0 + length xs)) None))
        (sym (position_from-zero (λ y. (owner y == c) && bytes_eq (name y) n) xs)));
  }
