-- The scope in which a written body begins: its parameters.
use Rattle.std.proofs.Common.{◌≡◌, ℕ, zero, suc, ◌+◌, ◌<◌, List, [], ◌∷◌, Some, Contains, refl, sym, ap, ◌∙◌, subst, arith, ⊎_elim}
use Rattle.std.specs.Prelude.{map, slice_get, length}
use Rattle.java_tree.specs.declared.Param.{Param}
use Rattle.java_core.specs.Programs.{Plain, PlainLocal, PlainMethod}
use Rattle.java_core.specs.Formed.{variables_of, numbers_below}
use Rattle.java_core.proofs.NumbersBelow.{has_below, below_has}
use Rattle.hier_model.specs.Hierarchies.{Hierarchy}
use Rattle.flow_rules.specs.Ordered.{each}
use Rattle.flow_rules.proofs.Listed.{first, more, one_from, below_at, at_left}
use Rattle.std.proofs.lemmas.List.Elements.{Contains-append_cases}
use Rattle.rebuild_model.specs.Renaming.{Renaming}
use Rattle.write_model.specs.Bodies.{variable_name}
use Rattle.write_model.specs.Members.{param, parameters}
use Rattle.write_laws.proofs.names.Scopes.{IsScope, name_is}

parameters_has : (n : ℕ) (vs : List PlainLocal) (i j : ℕ) → i < length vs → j ≡ n + i → Contains (parameters n vs) j
parameters_has n [] i j lt e = absurd (omega (arith, lt))
parameters_has n (v ∷ vs) zero j lt e = let s : n ≡ j = omega (arith, e) in subst (Contains (n ∷ parameters (suc n) vs)) s (first n (parameters (suc n) vs))
parameters_has n (v ∷ vs) (suc i) j lt e = more j n (parameters (suc n) vs) (parameters_has (suc n) vs i j (omega (arith, lt)) (omega (arith, e)))

parameters_from : (n : ℕ) (vs : List PlainLocal) (j : ℕ) → Contains (parameters n vs) j → j < n + length vs
parameters_from n [] j c = absurd (let l = c.1 in omega (arith, l))
parameters_from n (v ∷ vs) j c =
    ⊎_elim (λ d. let e = one_from n j d in omega (arith, e)) (λ d. let l = parameters_from (suc n) vs j d in omega (arith, l))
    (Contains-append_cases (n ∷ []) (parameters (suc n) vs) j c)

module _ (P : Plain) (R : Renaming) (H : Hierarchy) (m : ℕ) (k : PlainMethod) where
  names_of : (n : ℕ) (vs : List PlainLocal) → map (λ (q : Param). q.name) (each (λ i v. param P R H m k i v ∷ []) n vs) ≡ map (λ (v : PlainLocal). v.name) vs
  names_of n [] = refl
  names_of n (v ∷ vs) = ap (λ z. v.name ∷ z) (names_of (n + 1) vs)

  numbered_names : (n : ℕ) (vs : List PlainLocal) → ((i j : ℕ) (v : PlainLocal) → slice_get vs i ≡ Some v → j ≡ n + i → variable_name k j ≡ v.name)
      → map (variable_name k) (parameters n vs) ≡ map (λ (v : PlainLocal). v.name) vs
  numbered_names n [] h = refl
  numbered_names n (v ∷ vs) h =
      ap (λ z. z ∷ map (variable_name k) (parameters (suc n) vs)) (h zero n v refl (omega arith))
      ∙ ap (λ z. v.name ∷ z) (numbered_names (suc n) vs (λ i j w e d. h (suc i) j w e (omega (arith, d))))

  pub start : IsScope k (numbers_below (length k.params)) (parameters 0 k.params)
      (map (λ (q : Param). q.name) (each (λ i v. param P R H m k i v ∷ []) 0 k.params))
  start = record {
    are = names_of 0 k.params ∙ sym (numbered_names 0 k.params (λ i j v e d.
        let s : i ≡ j = omega (arith, d) in
        name_is k j v (subst (λ z. slice_get (variables_of k) z ≡ Some v) s (at_left k.params k.locals i v e))));
    there = λ i c. let l = parameters_from 0 k.params i c in
        let z = below_at k.params i (omega (arith, l)) in
        (z.0, at_left k.params k.locals i z.0 z.1);
    into = λ i c. parameters_has 0 k.params i i (has_below (length k.params) i c) (omega arith);
    back = λ i c. let l = parameters_from 0 k.params i c in below_has (length k.params) i (omega (arith, l));
  }
