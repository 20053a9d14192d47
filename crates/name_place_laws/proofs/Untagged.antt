-- Without its tags a program has the same numbers of creations, casts and instanceof, and a method variables of the same types.
use Rattle.std.proofs.Common.{◌≡◌, List, [], ◌∷◌, ◌++◌, map, Option, Some, None, refl, sym, ap, ℕ, ap₂}
use Rattle.std.proofs.lemmas.List.{map-append}
use Rattle.java_core.specs.Trees.{Ex, Exs, no_ex, ex_then, field, index, call, static_call, super_call, create, create_array, cast, instance_of, unary, binary, Target, to_field, to_element, St, Sts, IfArms, declare, block, assign, act, print, choose, loop, return, no_st, st_then, no_other, otherwise, arm}
use Rattle.java_core.specs.Programs.{PlainMethod, PlainLocal}
use Rattle.java_core.specs.Types.{types_of}
use Rattle.java_core.specs.Formed.{variables_of, numbers, numbers_all, numbers_if, numbers_target, numbers_st, numbers_sts, numbers_arms, numbers_body, numbers_methods}
use Rattle.java_core.specs.Untagged.{bare, bare_all, bare_if, bare_target, bare_st, bare_sts, bare_arms, untag_local, untag_method, untag_body}

both : {a b c d : List ℕ} → a ≡ b → c ≡ d → a ++ c ≡ b ++ d
both p q = ap₂ (λ y z. y ++ z) p q

mutual
  ex-same : (e : Ex) → numbers (bare e) ≡ numbers e
  ex-same (field t e x) = ex-same e
  ex-same (index t e i) = both (ex-same e) (ex-same i)
  ex-same (call t e x es) = both (ex-same e) (exs-same es)
  ex-same (static_call t m es) = exs-same es
  ex-same (super_call t x es) = exs-same es
  ex-same (create t n c es) = ap (λ z. n ∷ z) (exs-same es)
  ex-same (create_array t n u e) = ap (λ z. n ∷ z) (ex-same e)
  ex-same (cast t n u e) = ap (λ z. n ∷ z) (ex-same e)
  ex-same (instance_of t n e c) = ap (λ z. z ++ n ∷ []) (ex-same e)
  ex-same (unary t o e) = ex-same e
  ex-same (binary t o e d) = both (ex-same e) (ex-same d)
  ex-same _ = refl

  exs-same : (es : Exs) → numbers_all (bare_all es) ≡ numbers_all es
  exs-same no_ex = refl
  exs-same (ex_then e es) = both (ex-same e) (exs-same es)

if-same : (e : Option Ex) → numbers_if (bare_if e) ≡ numbers_if e
if-same None = refl
if-same (Some e) = ex-same e

target-same : (b : Target) → numbers_target (bare_target b) ≡ numbers_target b
target-same (to_field t e x) = ex-same e
target-same (to_element t e i) = both (ex-same e) (ex-same i)
target-same _ = refl

mutual
  st-same : (x : St) → numbers_st (bare_st x) ≡ numbers_st x
  st-same (declare t i e) = if-same e
  st-same (block t xs) = sts-same xs
  st-same (assign t b e) = both (target-same b) (ex-same e)
  st-same (act t e) = ex-same e
  st-same (print t n e) = if-same e
  st-same (choose t xs) = arms-same xs
  st-same (loop t is_while first test step body) = both (both (both (sts-same first) (if-same test)) (sts-same step)) (sts-same body)
  st-same (return t e) = if-same e
  st-same _ = refl

  sts-same : (xs : Sts) → numbers_sts (bare_sts xs) ≡ numbers_sts xs
  sts-same no_st = refl
  sts-same (st_then x xs) = both (st-same x) (sts-same xs)

  arms-same : (xs : IfArms) → numbers_arms (bare_arms xs) ≡ numbers_arms xs
  arms-same no_other = refl
  arms-same (otherwise xs) = sts-same xs
  arms-same (arm e xs more) = both (both (ex-same e) (sts-same xs)) (arms-same more)

body-same : (b : Option Sts) → numbers_body (untag_body b) ≡ numbers_body b
body-same None = refl
body-same (Some xs) = sts-same xs

pub numbers-same : (ks : List PlainMethod) → numbers_methods (map untag_method ks) ≡ numbers_methods ks
numbers-same [] = refl
numbers-same (k ∷ ks) = both (body-same k.body) (numbers-same ks)

pub variables-same : (k : PlainMethod) → variables_of (untag_method k) ≡ map untag_local (variables_of k)
variables-same k = sym (map-append untag_local k.params k.locals)

pub param-types-same : (vs : List PlainLocal) → types_of (map untag_local vs) ≡ types_of vs
param-types-same [] = refl
param-types-same (v ∷ vs) = ap (λ z. v.ty ∷ z) (param-types-same vs)
