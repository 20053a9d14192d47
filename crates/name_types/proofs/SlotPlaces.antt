-- The first slot of a name, parameters and a result, in the words of the lists by key.
use Rattle.std.proofs.Common.{◌≡◌, ℕ, ◌+◌, true, ◌&&◌, cond, List, [], ◌∷◌, ◌++◌, length, map, Option, refl, arith, sym, ap, ap₂, ◌∙◌, subst}
use Rattle.std.specs.Prelude.{◌==◌}
use Rattle.std.specs.Str.{bytes_eq}
use Rattle.std.specs.declared.vec.Vec.{Vec}
use Rattle.std.specs.declared.alloc.Global.{Global}
use Rattle.std.proofs.lemmas.Bool.{and_parts}
use Rattle.std.proofs.lemmas.List.{length-map, map-append}
use Rattle.std.proofs.lemmas.Slice.Eq.{bytes_eq-Decides}
use Rattle.java_core.specs.declared.Local.{Local}
use Rattle.java_core.specs.declared.Slot.{Slot}
use Rattle.java_core.specs.declared.Ty.{Ty}
use Rattle.java_core.specs.Owned.{AreOwned, owned_from, listed, first_among}
use Rattle.java_core.specs.Programs.{slot_seen}
use Rattle.java_core.proofs.Positions.{position-map}
use Rattle.java_core.proofs.Buckets.{keyed}
use Rattle.name_tables.proofs.SpotLemmas.{listed-more}
use Rattle.name_laws.specs.Members.{have_types, same_result, is_signature, slot_in}
use Rattle.name_laws.proofs.SameTypes.{types-same, result-same}
use Rattle.name_types.specs.Found.{fits}
use Rattle.name_types.specs.Keys.{AreKeyed, key_of, slot_key}

-- a slot that has the name, the parameters and the result has their key
fit-key : (n : List ℕ) (ls : List Local) (r : Option Ty) (s : Slot) → fits n ls r s ≡ true → key_of s ≡ slot_key n (map (λ l. l.ty) ls) r
fit-key n ls r s e =
    let g = and_parts (bytes_eq s.name n && have_types ls s.params.items) (same_result r s.result) e in
    let h = and_parts (bytes_eq s.name n) (have_types ls s.params.items) g.0 in
    ap (λ m. slot_key m s.params.items s.result) ((bytes_eq-Decides s.name n).0 h.0)
    ∙ ap₂ (slot_key n) (sym (types-same ls s.params.items h.1)) (sym (result-same r s.result g.1))

-- the first among those of the key is the first of all
pub keyed-slot : (n : List ℕ) (ls : List Local) (r : Option Ty) (ss : List Slot) (lists : List (Vec ℕ Global)) → AreKeyed ss lists
    → first_among (fits n ls r) ss (listed lists (slot_key n (map (λ l. l.ty) ls) r)) ≡ slot_in n ls r (map slot_seen ss)
keyed-slot n ls r ss lists are =
    keyed key_of (fits n ls r) (slot_key n (map (λ l. l.ty) ls) r) ss lists are (fit-key n ls r)
    ∙ sym (position-map slot_seen (is_signature n ls r) ss)

-- one owner more stands last
owned-more : (k c : ℕ) (owners : List ℕ) (x : ℕ) → owned_from k c (owners ++ x ∷ [])
    ≡ cond (x == c) (owned_from k c owners ++ (k + length owners) ∷ []) (owned_from k c owners)
owned-more k c owners x = listed-more (λ y. y == c) (λ k. owned_from k c) (λ k. refl) (λ k y ys. refl) k owners x

-- lists that were right are right with one item more
pub owned_noted : {A : Type 0} (key : A → ℕ) (xs ys : List A) (x : A) (at k : ℕ) (old new : List (Vec ℕ Global)) → ys ≡ xs ++ x ∷ []
    → AreOwned (map key xs) old → key x ≡ at → k ≡ length xs
    → ((c : ℕ) → listed new c ≡ cond (at == c) (listed old c ++ k ∷ []) (listed old c)) → AreOwned (map key ys) new
owned_noted key xs ys x at k old new push are own long put = subst (λ z. AreOwned z new) (sym (ap (map key) push ∙ map-append key xs (x ∷ [])))
    (record {
      exact = λ c. put c ∙ ap (λ z. cond (at == c) (z ++ k ∷ []) z) (are.exact c)
          ∙ ap (λ j. cond (at == c) (owned_from 0 c (map key xs) ++ j ∷ []) (owned_from 0 c (map key xs)))
          (long ∙ sym (length-map xs key) ∙ omega arith)
          ∙ ap (λ i. cond (i == c) (owned_from 0 c (map key xs) ++ (0 + length (map key xs)) ∷ []) (owned_from 0 c (map key xs))) (sym own)
          ∙ sym (owned-more 0 c (map key xs) (key x));
    })
