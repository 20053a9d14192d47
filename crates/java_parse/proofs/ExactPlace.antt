-- Where reading stops is the first token that cannot stand where it does, or the end of the tokens.
use Rattle.std.proofs.Common.{◌≡◌, ℕ, suc, ◌+◌, ◌<◌, ◌≤◌, List, [], ◌∷◌, ◌++◌, length, take, Err, sym, ◌∙◌, ap, subst, arith}
use Rattle.std.proofs.lemmas.List.{length-append}
use Rattle.std.proofs.Math.Seq.{take-append_seam, take-append-add}
use Rattle.java_lex.specs.declared.Token.{Token}
use Rattle.java_parse.specs.Want.{NDecls}
use Rattle.java_parse.specs.Reading.{Reads, Left}
use Rattle.java_parse.specs.Beginnings.{Begins, IsExact}
use Rattle.java_parse.proofs.CompleteDeclarations.{none_derived}
use Rattle.java_parse.proofs.Begun.{begun}
use Rattle.java_parse.proofs.Stops.{stuck}

-- the tokens before the rest, and those with the first of the rest
before_rest : (front rest : List Token) (k : ℕ) → k ≡ length front → front ≡ take k (front ++ rest)
before_rest front rest k e = sym (take-append_seam front rest) ∙ ap (λ (n : ℕ). take n (front ++ rest)) (sym e)

with_next : (front us : List Token) (t : Token) (k : ℕ) → k ≡ length front → take (suc k) (front ++ t ∷ us) ≡ front ++ t ∷ []
with_next front us t k e =
    let n : suc k ≡ length front + 1 = omega (arith, e) in
    ap (λ (n : ℕ). take n (front ++ t ∷ us)) n ∙ take-append-add front (t ∷ us) 1

stuck_at : (front rest : List Token) (k : ℕ) → Reads (NDecls []) (front ++ rest) (Err (Left rest)) → k ≡ length front → k < length (front ++ rest)
    → Begins (take (suc k) (front ++ rest)) → ⊥
stuck_at front [] k r e lt b = let l = length-append front [] in absurd (omega (arith, e, lt, l))
stuck_at front (t ∷ us) k r e lt b = stuck front us t r (subst Begins (with_next front us t k e) b)

exact_of : (front rest : List Token) (k : ℕ) → Reads (NDecls []) (front ++ rest) (Err (Left rest)) → Begins front → k ≡ length front
    → IsExact (front ++ rest) k
exact_of front rest k r b e = record {
  within = let l = length-append front rest in omega (arith, e, l);
  begins = subst Begins (before_rest front rest k e) b;
  stuck = stuck_at front rest k r e;
  none = λ tree d. none_derived (front ++ rest) rest tree r d;
}

pub exact : (ts rest : List Token) (k : ℕ) → Reads (NDecls []) ts (Err (Left rest)) → k + length rest ≡ length ts → IsExact ts k
exact ts rest k r h =
    let b = begun r in
    let l = length-append b.0 rest in
    let n : k ≡ length b.0 = (let g = ap length b.1 in omega (arith, h, g, l)) in
    subst (λ (us : List Token). IsExact us k) (sym b.1)
    (exact_of b.0 rest k (subst (λ (us : List Token). Reads (NDecls []) us (Err (Left rest))) b.1 r) b.2 n)

-- no more is left than there was
pub rest_fits : (ts rest : List Token) → Reads (NDecls []) ts (Err (Left rest)) → length rest ≤ length ts
rest_fits ts rest r = let b = begun r in let l = length-append b.0 rest in let g = ap length b.1 in omega (arith, g, l)
