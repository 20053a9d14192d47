-- What is kept on a walk upwards from a class is what is nearest to it.
use Rattle.std.proofs.Common.{◌≡◌, ◌==◌, ℕ, zero, suc, ◌+◌, ◌<◌, Bool, true, false, List, [], ◌∷◌, length, map, drop, drop-cons, add-one, Option, Some, None, refl, sym, ap, ◌∙◌, arith, slice_get, slice_index_or}
use Rattle.std.specs.Prelude.{if◌then◌else◌}
use Rattle.std.specs.Option.{option_and_then}
use Rattle.std.specs.declared.vec.Vec.{Vec}
use Rattle.std.specs.declared.alloc.Global.{Global}
use Rattle.std.proofs.lemmas.Bool.{and_parts}
use Rattle.std.proofs.lemmas.List.{length-map}
use Rattle.kaba_base.specs.declared.ClassId.{ClassId}
use Rattle.java_core.specs.declared.Method.{Method}
use Rattle.java_core.specs.declared.Program.{Program}
use Rattle.java_core.specs.Programs.{Plain, PlainMethod, program_of, method_seen, class_seen}
use Rattle.java_core.specs.Owned.{AreOwned, listed, owned_from, passes}
use Rattle.java_core.specs.Classes.{parent_of, first_or, nearest, is_slot, has_slot, own_declaration, nearest_declaration}
use Rattle.java_core.proofs.OwnedLemmas.{own-position}
use Rattle.java_core.proofs.SearchOrder.{first_or-assoc}
use Rattle.java_check.specs.NearOutcome.{method_owner, declared_among, own_of, found_in}

pub first_or-none : (a : Option ℕ) → first_or a None ≡ a
first_or-none None = refl
first_or-none (Some x) = refl

module _ (P : Plain) where
  pub declared-cons : (c s m : ℕ) (ms : List ℕ) → declared_among P c s (m ∷ ms) ≡ first_or (declared_among P c s (m ∷ [])) (declared_among P c s ms)
  declared-cons c s m ms = go (passes (λ k. has_slot c s k) (slice_get P.methods m))
    where
      go : (b : Bool) → (if b then Some m else declared_among P c s ms) ≡ first_or (if b then Some m else None) (declared_among P c s ms)
      go true = refl
      go false = refl

  -- one more class on the way
  pub found-step : (s n : ℕ) (at : Option ClassId) → found_in P s (suc n) at
      ≡ first_or (own_of P at s) (found_in P s n (option_and_then (λ h. parent_of P h.0) at))
  found-step s zero None = refl
  found-step s (suc n) None = refl
  found-step s zero (Some h) = sym (first_or-none (own_declaration P h.0 s))
  found-step s (suc n) (Some h) = refl

  -- one method more
  pub kept-step : (c s : ℕ) (near next : Option ℕ) (ms : List ℕ) (k : ℕ) → k < length ms
      → next ≡ first_or near (declared_among P c s (slice_index_or ms k 0 ∷ []))
      → first_or next (declared_among P c s (drop (k + 1) ms)) ≡ first_or near (declared_among P c s (drop k ms))
  kept-step c s near next ms k lt e =
      ap (λ o. first_or o (declared_among P c s (drop (k + 1) ms))) e
      ∙ (first_or-assoc near (declared_among P c s (slice_index_or ms k 0 ∷ [])) (declared_among P c s (drop (k + 1) ms))
      ∙ ap (first_or near) (sym (declared-cons c s (slice_index_or ms k 0) (drop (k + 1) ms)) ∙ ap (declared_among P c s) (sym dropped)))
    where
      dropped : drop k ms ≡ slice_index_or ms k 0 ∷ drop (k + 1) ms
      dropped = rw (add-one, drop-cons ms k 0) refl

  -- one class more
  pub walk-step : (s n : ℕ) (at up : Option ClassId) (near next : Option ℕ) → up ≡ option_and_then (λ h. parent_of P h.0) at
      → next ≡ first_or near (own_of P at s) → first_or next (found_in P s n up) ≡ first_or near (found_in P s (suc n) at)
  walk-step s n at up near next e f =
      ap (λ o. first_or o (found_in P s n up)) f
      ∙ (first_or-assoc near (own_of P at s) (found_in P s n up)
      ∙ ap (first_or near) (ap (λ o. first_or (own_of P at s) (found_in P s n o)) e ∙ sym (found-step s n at)))

-- what is found in all classes on the way
pub walked : (p : Program) (class : ClassId) (s : ℕ) → found_in (program_of p) s (length p.classes.items + 1) (Some class)
    ≡ nearest_declaration (program_of p) class.0 s
unfolding nearest_declaration
walked p class s =
    let all : length p.classes.items + 1 ≡ suc (length p.classes.items) = omega arith in
    let P = program_of p in
    ap (λ n. found_in P s n (Some class)) all ∙ ap (λ n. nearest P (λ k. own_declaration P k s) n class.0) (sym (length-map p.classes.items class_seen))

pub owners_seen : (xs : List Method) → map (λ (k : PlainMethod). k.owner) (map method_seen xs) ≡ map (λ m. method_owner m) xs
owners_seen [] = refl
owners_seen (x ∷ xs) = ap (λ ys. x.owner.0 ∷ ys) (owners_seen xs)

-- what a class declares is found in its list
pub declared_listed : (p : Program) (lists : List (Vec ℕ Global)) → AreOwned (map (λ m. method_owner m) p.methods.items) lists → (c s : ℕ)
    → declared_among (program_of p) c s (listed lists c) ≡ own_declaration (program_of p) c s
declared_listed p lists owned c s =
    let ks = (program_of p).methods in
    ap (declared_among (program_of p) c s) (owned.exact c ∙ ap (owned_from 0 c) (sym (owners_seen p.methods.items)))
    ∙ own-position (λ (k : PlainMethod). k.owner) (λ k. has_slot c s k) c (λ k h. (and_parts (k.owner == c) (is_slot k.slot s) h).0) ks
