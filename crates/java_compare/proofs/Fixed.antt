-- Equality of trees has one answer.
use Rattle.std.proofs.Common.{true, false, refl, sym}
use Rattle.std.proofs.lemmas.Bool.{true≢false}
use Rattle.java_compare.specs.Laws.{OneComparison}

pub one_answer : OneComparison
one_answer a b true true s t = refl
one_answer a b false false s t = refl
one_answer a b true false s t = absurd (true≢false (sym (t.1 (s.0 refl))))
one_answer a b false true s t = absurd (true≢false (sym (s.1 (t.0 refl))))
