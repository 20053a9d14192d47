-- What is found in the bucket of a name or a slot is what is found by going over all.
use Rattle.std.proofs.Common.{◌≡◌, ℕ, Bool, true, ◌&&◌, not, List, map, Option, Some, None, ap, ◌∙◌}
use Rattle.std.specs.Prelude.{◌==◌}
use Rattle.std.specs.List.{position}
use Rattle.std.specs.Option.{is_some}
use Rattle.std.specs.Str.{bytes_eq}
use Rattle.std.specs.declared.vec.Vec.{Vec}
use Rattle.std.specs.declared.alloc.Global.{Global}
use Rattle.std.proofs.lemmas.Bool.{and_parts, eqb-true, eq-eqb, false≢true}
use Rattle.std.proofs.lemmas.Slice.Eq.{bytes_eq-Decides}
use Rattle.java_core.specs.declared.Method.{Method}
use Rattle.java_core.specs.Programs.{Plain, method_seen}
use Rattle.java_core.specs.Own.{offers}
use Rattle.java_core.specs.Classes.{below, has_slot, is_slot}
use Rattle.java_core.specs.Owned.{AreOwned, listed, first_among}
use Rattle.java_core.specs.MemberKeys.{MemberKeys, method_keys}
use Rattle.java_core.specs.Nearest.{has_name}
use Rattle.java_core.specs.declared.tables.MemberKey.TheVariants as key
use Rattle.java_core.specs.Tables.{name_bucket, slot_bucket, place_by}
use Rattle.java_core.proofs.OwnedLemmas.{own-position}

-- lists by a key have under a key the first item of each test that only items of the key pass
pub keyed : {A : Type 0} (key : A → ℕ) (p : A → Bool) (c : ℕ) (items : List A) (lists : List (Vec ℕ Global)) → AreOwned (map key items) lists
    → ((x : A) → p x ≡ true → key x ≡ c) → first_among p items (listed lists c) ≡ position p items
keyed key p c items lists owned own =
    ap (first_among p items) (owned.exact c) ∙ own-position key p c (λ x e. eq-eqb (key x) c (own x e)) items

-- the same of the numbers that are under the number of the key
pub keyed_at : {A : Type 0} (key : A → ℕ) (p : A → Bool) {c k : ℕ} (items : List A) {lists : List (Vec ℕ Global)} {numbers : List ℕ}
    → numbers ≡ listed lists k → k ≡ c → AreOwned (map key items) lists → ((x : A) → p x ≡ true → key x ≡ c) → first_among p items numbers ≡ position p items
keyed_at key p {c} {k} items {lists} found is owned own = ap (first_among p items) (found ∙ ap (listed lists) is) ∙ keyed key p c items lists owned own

same_slot : (n c s : ℕ) (o : Option ℕ) → is_slot o s ≡ true → slot_bucket n c o ≡ slot_bucket n c (Some s)
same_slot n c s None e = absurd (false≢true e)
same_slot n c s (Some r) e = ap (λ i. slot_bucket n c (Some i)) (eqb-true r s e)

-- a method of a slot in a class is in the bucket of the two
pub slot_there : (n c s : ℕ) (m : Method) → has_slot c s (method_seen m) ≡ true → place_by key.OwnerAndSlot n (method_keys m)
    ≡ slot_bucket n c (Some s)
slot_there n c s m e =
    let z = and_parts (m.owner.0 == c) (is_slot m.slot s) e in
    ap (λ k. slot_bucket n k m.slot) (eqb-true m.owner.0 c z.0) ∙ same_slot n c s m.slot z.1

-- an instance method of a name at or above a type is in the bucket of the name
pub offer_there : (n : ℕ) (P : Plain) (c : ℕ) (x : List ℕ) (m : Method) → offers P c x (method_seen m) ≡ true
    → place_by key.Name n (method_keys m) ≡ name_bucket n 0 x
offer_there n P c x m e =
    let z = and_parts (below P c m.owner.0) (not m.is_static && bytes_eq m.name x) e in
    ap (name_bucket n 0) ((bytes_eq-Decides m.name x).0 (and_parts (not m.is_static) (bytes_eq m.name x) z.1).1)

-- the owner of a method of a slot in a class
pub slot_owner : (c s : ℕ) (m : Method) → has_slot c s (method_seen m) ≡ true → m.owner.0 ≡ c
slot_owner c s m e = eqb-true m.owner.0 c (and_parts (m.owner.0 == c) (is_slot m.slot s) e).0

-- a body of a slot in a class is of the slot
pub body_slot : (c s : ℕ) (m : Method) → (has_slot c s (method_seen m) && is_some (method_seen m).body) ≡ true
    → has_slot c s (method_seen m) ≡ true
body_slot c s m e = (and_parts ((m.owner.0 == c) && is_slot m.slot s) (is_some (method_seen m).body) e).0

-- a member of a name that is looked for from below is in the bucket of the name
pub named_there : {A : Type 0} (keys : A → MemberKeys) (n : ℕ) (x : List ℕ) (a : A) → has_name keys x a ≡ true → place_by key.Name n (keys a)
    ≡ name_bucket n 0 x
named_there keys n x a e = ap (name_bucket n 0) ((bytes_eq-Decides (keys a).name x).0 (and_parts (keys a).is_inherited (bytes_eq (keys a).name x) e).1)
