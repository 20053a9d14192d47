-- A class that breaks no rule for the slot of a method without a body breaks none as a whole.
use Rattle.std.proofs.Common.{◌≡◌, ◌==◌, ◌&&◌, ◌||◌, ℕ, zero, suc, ◌+◌, ◌<◌, Bool, true, false, not, List, [], ◌∷◌, Option, Some, None, length, refl, sym, ap, ◌∙◌, subst, arith, slice_get}
use Rattle.std.specs.Option.{option_map_or, is_some}
use Rattle.std.proofs.lemmas.Bool.{and_parts, and_from, eq-eqb, eqb-true, false≢true}
use Rattle.java_core.specs.Programs.{Plain, PlainClass, PlainMethod}
use Rattle.java_core.specs.Classes.{IsSubclass, below, is_slot, has_slot, own_declaration, nearest_declaration, has_body, is_interface, is_concrete}
use Rattle.java_core.specs.Formed.{IsFormed}
use Rattle.java_core.specs.Typing.{is_public_method}
use Rattle.java_core.proofs.Subclasses.{below-subclass, subclass-below, nearest_of-nearest}
use Rattle.java_core.proofs.Upwards.{IsAbove, IsMemberClass, chain-above, along, chain-there}
use Rattle.java_core.proofs.SearchOrder.{slot_is}
use Rattle.java_core.proofs.Positions.{position-passes, passes-position}
use Rattle.java_check.specs.ClassOutcome.{first_rule, below_rule, slot_rule, method_rule, class_rule, is_quiet, is_kept, all_quiet}
use Rattle.java_check.specs.declared.Kind.{Kind}

-- what a test of each method passes for one
each_quiet : (P : Plain) (c : ℕ) (ks : List PlainMethod) → is_quiet P c ks ≡ true → (m : ℕ) (k : PlainMethod) → slice_get ks m ≡ Some k
    → is_some k.body ≡ false → method_rule P c k ≡ None
each_quiet P c [] all m k at e = absurd (cc at)
each_quiet P c (x ∷ ks) all zero k at e =
    let same : x ≡ k = cc at in
    subst (λ (y : PlainMethod). method_rule P c y ≡ None) same
    (no_rule (method_rule P c x) (is_some x.body) (ap (λ (y : PlainMethod). is_some y.body) same ∙ e)
    (and_parts (is_some x.body || not (is_some (method_rule P c x))) (is_quiet P c ks) all).0)
  where
    no_rule : (r : Option Kind) (b : Bool) → b ≡ false → b || not (is_some r) ≡ true → r ≡ None
    no_rule None b e h = refl
    no_rule (Some x) true e h = absurd (false≢true (sym e))
    no_rule (Some x) false e h = absurd (false≢true h)
each_quiet P c (x ∷ ks) all (suc m) k at e =
    each_quiet P c ks (and_parts (is_some x.body || not (is_some (method_rule P c x))) (is_quiet P c ks) all).1 m k at e

-- and what a test of each class does
each_kept : (P : Plain) (k : PlainMethod) (n : ℕ) (cs : List PlainClass) → is_kept P k n cs ≡ true → (c : ℕ) → c < length cs
    → not (is_some (method_rule P (n + c) k)) ≡ true
each_kept P k n [] all c lt = absurd (omega (arith, lt))
each_kept P k n (x ∷ cs) all zero lt =
    subst (λ i. not (is_some (method_rule P i k)) ≡ true) (let z : n ≡ n + 0 = omega arith in z)
    (and_parts (not (is_some (method_rule P n k))) (is_kept P k (suc n) cs) all).0
each_kept P k n (x ∷ cs) all (suc c) lt =
    subst (λ i. not (is_some (method_rule P i k)) ≡ true) (let z : suc n + c ≡ n + suc c = omega arith in z)
    (each_kept P k (suc n) cs (and_parts (not (is_some (method_rule P n k))) (is_kept P k (suc n) cs) all).1 c (omega (arith, lt)))

class_quiet : (P : Plain) (c : ℕ) (ks : List PlainMethod) → c < length P.classes → all_quiet P ks ≡ true → is_quiet P c ks ≡ true
class_quiet P c [] lt all = refl
class_quiet P c (k ∷ ks) lt all =
    let parts = and_parts (is_some k.body || is_kept P k 0 P.classes) (all_quiet P ks) all in
    and_from _ _ (or_step (is_some k.body) parts.0 (λ kept. subst (λ i. not (is_some (method_rule P i k)) ≡ true) (let z : 0 + c ≡ c = omega arith in z)
    (each_kept P k 0 P.classes kept c lt))) (class_quiet P c ks lt parts.1)
  where
    or_step : (b : Bool) {x y : Bool} → b || x ≡ true → (x ≡ true → y ≡ true) → b || y ≡ true
    or_step true h f = refl
    or_step false h f = f h

first_fine : (con int own p : Bool) → con ≡ false → own ≡ false → first_rule con (not int && (own && not p)) ≡ None
first_fine true int own p e f = absurd (false≢true (sym e))
first_fine false int true p e f = absurd (false≢true (sym f))
first_fine false true false p e f = refl
first_fine false false false p e f = refl

module _ (P : Plain) (formed : IsFormed P) where
  module _ (c : ℕ) (quiet : is_quiet P c P.methods ≡ true) where
    -- a class of which objects are made breaks a rule for a declaration without a body that is nearest to it
    bare_rule : (h s d : ℕ) (k : PlainMethod) → IsSubclass P c h → has_slot h s k ≡ true → nearest_declaration P c s ≡ Some d
        → is_concrete P c && not (has_body P d) ≡ true → is_some (method_rule P c k) ≡ true
    bare_rule h s d k up has near bare =
        let parts = and_parts (k.owner == h) (is_slot k.slot s) has in
        rw (slot_is k.slot s parts.1, eqb-true k.owner h parts.0, subclass-below P formed.acyclic up, near, bare) refl

    no_body : (d : ℕ) (k : PlainMethod) → slice_get P.methods d ≡ Some k → not (has_body P d) ≡ true → is_some k.body ≡ false
    no_body d k at e = go (is_some k.body) (ap (λ o. not (option_map_or (λ (x : PlainMethod). is_some x.body) o false)) (sym at) ∙ e)
      where
        go : (b : Bool) → not b ≡ true → b ≡ false
        go false h = refl
        go true h = absurd (false≢true h)

    -- so it has a body where it finds a declaration
    concrete_bodied : (s d : ℕ) → nearest_declaration P c s ≡ Some d → IsAbove P (λ x. own_declaration P x s) c d
        → is_concrete P c && not (has_body P d) ≡ false
    concrete_bodied s d near held = go (is_concrete P c && not (has_body P d)) refl
      where
        broken : (k : PlainMethod) → method_rule P c k ≡ None → is_some (method_rule P c k) ≡ true → ⊥
        broken k e h = false≢true (sym (ap is_some e) ∙ h)

        go : (b : Bool) → is_concrete P c && not (has_body P d) ≡ b → is_concrete P c && not (has_body P d) ≡ false
        go false e = e
        go true e =
            let it = position-passes (λ m. has_slot held.holder s m) P.methods d held.found in
            absurd (broken it.0
            (each_quiet P c P.methods quiet d it.0 it.1 (no_body d it.0 it.1 (and_parts (is_concrete P c) (not (has_body P d)) e).1))
            (bare_rule held.holder s d it.0 held.above it.2 near e))

    method_fine : (m : ℕ) (k : PlainMethod) → slice_get P.methods m ≡ Some k → method_rule P c k ≡ None
    unfolding nearest_declaration
    method_fine m k at = by_body (is_some k.body) refl
      where
        by_body : (b : Bool) → is_some k.body ≡ b → method_rule P c k ≡ None
        by_body false bare = each_quiet P c P.methods quiet m k at bare
        by_body true body = go k.slot refl (below P c k.owner) refl
          where
            class : (b : Bool) → (formed.methods m k at).holder.is_interface ≡ b → is_interface P k.owner ≡ false
            class false e = rw (formed.methods m k at).stands e
            class true e = absurd (false≢true (sym (ap is_some ((formed.methods m k at).in_interface e).1) ∙ body))

            found : (s : ℕ) → k.slot ≡ Some s → below P c k.owner ≡ true
                → is_concrete P c && not (option_map_or (has_body P) (nearest_declaration P c s) false) ≡ false
            found s e h =
                let own = λ (x : ℕ). own_declaration P x s in
                let passes : has_slot k.owner s k ≡ true = rw (eq-eqb k.owner k.owner refl, e, eq-eqb s s refl) refl in
                let there = passes-position (λ m. has_slot k.owner s m) P.methods m k at passes in
                let f = formed.methods m k at in
                let shown : is_interface P k.owner ≡ f.holder.is_interface = rw f.stands refl in
                let plain = sym shown ∙ class f.holder.is_interface refl in
                let member : IsMemberClass P k.owner = record { class = f.holder; stands = f.stands; no_interface = plain; no_object = f.no_object } in
                let near = chain-there P formed own (along P formed member (below-subclass P c k.owner h)) there.1 in
                rw near.1 (concrete_bodied s near.0 near.1 (chain-above P own (nearest_of-nearest P own near.1)))

            go : (o : Option ℕ) → k.slot ≡ o → (b : Bool) → below P c k.owner ≡ b → method_rule P c k ≡ None
            go None e b h = ap (slot_rule P c k.owner) e
            go (Some s) e false h = ap (slot_rule P c k.owner) e ∙ ap (below_rule P c k.owner s) h
            go (Some s) e true h = ap (slot_rule P c k.owner) e ∙ ap (below_rule P c k.owner s) h
                ∙ first_fine (is_concrete P c && not (option_map_or (has_body P) (nearest_declaration P c s) false)) (is_interface P c) (is_interface P k.owner)
                (is_public_method P (nearest_declaration P c s)) (found s e h) (class (formed.methods m k at).holder.is_interface refl)

    methods_fine : (ks : List PlainMethod) → ((m : ℕ) (k : PlainMethod) → slice_get ks m ≡ Some k → method_rule P c k ≡ None) → class_rule P c ks ≡ None
    methods_fine [] each = refl
    methods_fine (k ∷ ks) each = rw (each zero k refl) (methods_fine ks (λ m. each (suc m)))

    pub class_fine : class_rule P c P.methods ≡ None
    class_fine = methods_fine P.methods method_fine

  -- where no class breaks a rule for the slot of a method without a body, none breaks one as a whole
  pub classes_fine : all_quiet P P.methods ≡ true → (c : ℕ) → c < length P.classes → class_rule P c P.methods ≡ None
  classes_fine all c lt = class_fine c (class_quiet P c P.methods lt all)
