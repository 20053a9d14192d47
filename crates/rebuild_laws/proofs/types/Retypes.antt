-- Types by the classes that numbers give them.
use Rattle.std.proofs.Common.{◌≡◌, ℕ, suc, ◌+◌, List, [], ◌∷◌, Option, refl, ap, ◌∙◌, arith}
use Rattle.java_core.specs.declared.Ty.{Ty}
use Rattle.java_core.specs.Programs.{PlainLocal}
use Rattle.java_core.specs.Types.{types_of}
use Rattle.flow_rules.specs.Ordered.{each}
use Rattle.rebuild_model.specs.Renaming.{retyped}
use Rattle.rebuild_laws.proofs.types.Asked.{retypes}

pub retypes_same : (p q : ℕ → Option ℕ) (ts : List Ty) → ((i : ℕ) → p i ≡ q i) → retypes p ts ≡ retypes q ts
retypes_same p q [] e = refl
retypes_same p q (t ∷ ts) e = ap (λ k. retyped k t ∷ retypes (λ i. p (suc i)) ts) (e 0)
    ∙ ap (λ z. retyped (q 0) t ∷ z) (retypes_same (λ i. p (suc i)) (λ i. q (suc i)) ts (λ i. e (suc i)))

shifted : (n i : ℕ) → (n + 1) + i ≡ n + suc i
shifted n i = omega arith

from_zero : (n : ℕ) → n ≡ n + 0
from_zero n = omega arith

pub from_front : (i : ℕ) → 0 + i ≡ i
from_front i = omega arith

each_after : (p : ℕ → Option ℕ) (n : ℕ) (ts : List Ty) → each (λ i t. retyped (p i) t ∷ []) n ts ≡ retypes (λ i. p (n + i)) ts
each_after p n [] = refl
each_after p n (t ∷ ts) =
    ap (λ z. retyped (p n) t ∷ z) (each_after p (n + 1) ts ∙ retypes_same (λ i. p ((n + 1) + i)) (λ i. p (n + suc i)) ts (λ i. ap p (shifted n i)))
    ∙ ap (λ z. retyped (p z) t ∷ retypes (λ i. p (n + suc i)) ts) (from_zero n)

pub each_retypes : (p : ℕ → Option ℕ) (ts : List Ty) → each (λ i t. retyped (p i) t ∷ []) 0 ts ≡ retypes p ts
each_retypes p ts = each_after p 0 ts ∙ retypes_same (λ i. p (0 + i)) p ts (λ i. ap p (from_front i))

pub variables_after : (p : ℕ → Option ℕ) (n : ℕ) (vs : List PlainLocal)
    → each (λ i v. retyped (p i) v.ty ∷ []) n vs ≡ each (λ i t. retyped (p i) t ∷ []) n (types_of vs)
variables_after p n [] = refl
variables_after p n (v ∷ vs) = ap (λ z. retyped (p n) v.ty ∷ z) (variables_after p (n + 1) vs)
