-- What is found first in the order in which declarations are looked for.
use Rattle.std.proofs.Common.{◌≡◌, ℕ, suc, zero, List, [], ◌∷◌, ◌++◌, length, Option, Some, None, refl, sym, ap, ◌∙◌}
use Rattle.std.specs.Prelude.{true}
use Rattle.std.specs.List.{flat_map}
use Rattle.std.proofs.lemmas.Bool.{eqb-true, false≢true}
use Rattle.std.specs.Option.{option_map, option_map_or, option_and_then}
use Rattle.kaba_base.specs.declared.ClassId.{ClassId}
use Rattle.kaba_base.specs.declared.MemberId.{MemberId}
use Rattle.java_core.specs.Programs.{Plain}
use Rattle.java_core.specs.Classes.{parent_of, first_or, first_found, nearest, faces_above, chain, search_order, nearest_of, own_method, declaration_of, is_slot}

pub slot_is : (o : Option ℕ) (s : ℕ) → is_slot o s ≡ true → o ≡ Some s
slot_is None s h = absurd (false≢true h)
slot_is (Some r) s h = ap Some (eqb-true r s h)

pub first_or-assoc : (a b c : Option ℕ) → first_or (first_or a b) c ≡ first_or a (first_or b c)
first_or-assoc None b c = refl
first_or-assoc (Some x) b c = refl

first_or-none : (a : Option ℕ) → first_or a None ≡ a
first_or-none None = refl
first_or-none (Some x) = refl

pub first-there : {x : Option ℕ} (a b : Option ℕ) {o : Option MemberId} {d : MemberId} → x ≡ first_or a b → option_map (λ (d : MemberId). d.0) o ≡ a
    → o ≡ Some d → Some d.0 ≡ x
first-there a b h e s = sym (h ∙ ap (λ a. first_or a b) (sym e ∙ ap (option_map (λ (d : MemberId). d.0)) s))

pub first-later : {x : Option ℕ} (a b : Option ℕ) {o : Option MemberId} → x ≡ first_or a b → option_map (λ (d : MemberId). d.0) o ≡ a → o ≡ None → x ≡ b
first-later a b h e s = h ∙ ap (λ a. first_or a b) (sym e ∙ ap (option_map (λ (d : MemberId). d.0)) s)

module _ (f : ℕ → Option ℕ) where
  pub first_found-append : (xs ys : List ℕ) → first_found f (xs ++ ys) ≡ first_or (first_found f xs) (first_found f ys)
  first_found-append [] ys = refl
  first_found-append (x ∷ xs) ys = ap (first_or (f x)) (first_found-append xs ys) ∙ sym (first_or-assoc (f x) (first_found f xs) (first_found f ys))

  module _ (P : Plain) where
    on_chain : (g : ℕ → List ℕ) (n c : ℕ) (p : Option ClassId)
        → ((q : ClassId) → first_found f (flat_map g (chain P n q.0)) ≡ nearest P (λ k. first_found f (g k)) n q.0) → parent_of P c ≡ p
        → first_found f (flat_map g (chain P (suc n) c)) ≡ nearest P (λ k. first_found f (g k)) (suc n) c
    on_chain g n c None up e = first_found-append (g c) (flat_map g (option_map_or (λ p. chain P n p.0) (parent_of P c) [])) ∙ rw e (refl)
    on_chain g n c (Some q) up e = first_found-append (g c) (flat_map g (option_map_or (λ p. chain P n p.0) (parent_of P c) [])) ∙ rw (e, up q) refl

    -- the first along a chain is the nearest
    pub first_found-chain : (g : ℕ → List ℕ) (n c : ℕ) → first_found f (flat_map g (chain P n c)) ≡ nearest P (λ k. first_found f (g k)) n c
    first_found-chain g zero c = first_found-append (g c) [] ∙ first_or-none (first_found f (g c))
    first_found-chain g (suc n) c = on_chain g n c (parent_of P c) (λ q. first_found-chain g n q.0) refl

    first_found-each : (xs : List ℕ) → first_found f (flat_map (λ k. k ∷ []) xs) ≡ first_found f xs
    first_found-each [] = refl
    first_found-each (x ∷ xs) = ap (first_or (f x)) (first_found-each xs)

    same_above : (own more : ℕ → Option ℕ) (n : ℕ) → ((q : ClassId) → nearest P own n q.0 ≡ nearest P more n q.0) → (p : Option ClassId)
        → option_and_then (λ p. nearest P own n p.0) p ≡ option_and_then (λ p. nearest P more n p.0) p
    same_above own more n up None = refl
    same_above own more n up (Some q) = up q

    nearest-same : (own more : ℕ → Option ℕ) → ((k : ℕ) → own k ≡ more k) → (n c : ℕ) → nearest P own n c ≡ nearest P more n c
    nearest-same own more each zero c = each c
    nearest-same own more each (suc n) c = rw (each c) (ap (first_or (more c)) (same_above own more n (λ q. nearest-same own more each n q.0) (parent_of P c)))

    pub found-search_order : (c : ℕ) → first_found f (search_order P c) ≡ first_or (nearest_of P f c)
        (nearest_of P (λ k. first_found f (faces_above P (length P.classes) k)) c)
    unfolding search_order
    found-search_order c =
        let n = length P.classes in
        first_found-append (chain P n c) (flat_map (λ k. faces_above P n k) (chain P n c))
        ∙ ap (λ o. first_or o (first_found f (flat_map (λ k. faces_above P n k) (chain P n c)))) (sym (first_found-each (chain P n c))
        ∙ first_found-chain (λ k. k ∷ []) n c ∙ nearest-same (λ k. first_or (f k) None) f (λ k. first_or-none (f k)) n c)
        ∙ ap (first_or (nearest P f n c)) (first_found-chain (λ k. faces_above P n k) n c)

pub declaration_of-found : (P : Plain) (c : ℕ) (x : List ℕ)
    → declaration_of P c x ≡ first_or (nearest_of P (λ k. own_method P k x) c)
    (nearest_of P (λ k. first_found (λ j. own_method P j x) (faces_above P (length P.classes) k)) c)
unfolding declaration_of
declaration_of-found P c x = found-search_order (λ k. own_method P k x) P c
