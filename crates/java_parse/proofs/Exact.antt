-- The first token that cannot stand where it does is one.
use Rattle.std.proofs.Common.{◌≡◌, ⊎_elim, ℕ, suc, ◌≤◌, ◌<◌, List, ◌++◌, take, drop, sym, ◌∙◌, subst, ap, arith}
use Rattle.std.proofs.lemmas.Bool.{cases_lt}
use Rattle.std.proofs.lemmas.List.{append_assoc, take-take, take-append-drop}
use Rattle.java_lex.specs.declared.Token.{Token}
use Rattle.java_tree.specs.Declarations.{Derives}
use Rattle.java_parse.specs.Beginnings.{Begins, IsExact}

-- tokens that begin a program still do so without the last of them
pub fewer_begin : (xs ys : List Token) → Begins (xs ++ ys) → Begins xs
fewer_begin xs ys b = (ys ++ b.0, b.1, subst (λ (ts : List Token). Derives ts b.1) (append_assoc xs ys b.0) b.2)

pub shorter_begin : (ts : List Token) (j k : ℕ) → j ≤ k → Begins (take k ts) → Begins (take j ts)
shorter_begin ts j k le b =
    let e : take k ts ≡ take j ts ++ drop j (take k ts) = sym (take-append-drop j (take k ts)) ∙ ap (λ (xs : List Token). xs ++ drop j (take k ts))
    (take-take j k ts le) in
    fewer_begin (take j ts) (drop j (take k ts)) (subst Begins e b)

not_before : (ts : List Token) (j k : ℕ) → IsExact ts j → IsExact ts k → j < k → ⊥
not_before ts j k a b lt = a.stuck (let w = b.within in omega (arith, lt, w)) (shorter_begin ts (suc j) k lt b.begins)

pub exact_once : (ts : List Token) (j k : ℕ) → IsExact ts j → IsExact ts k → j ≡ k
exact_once ts j k a b = ⊎_elim (λ lt. absurd (not_before ts j k a b lt))
    (λ ge. ⊎_elim (λ gt. absurd (not_before ts k j b a gt)) (λ le. omega (arith, ge, le)) (cases_lt k j))
    (cases_lt j k)
