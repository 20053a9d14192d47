-- What the parser's answers say of the tokens.
use Rattle.std.proofs.Common.{◌≡◌, ℕ, suc, ◌+◌, ◌*◌, ◌<◌, ◌≤◌, List, [], ◌∷◌, length, Ok, Err, refl, sym, ◌∙◌, subst, arith}
use Rattle.java_lex.specs.declared.Token.{Token}
use Rattle.java_tree.specs.Syntax.{DeclTree}
use Rattle.java_tree.specs.Size.{tree_size}
use Rattle.java_tree.specs.Declarations.{IsPlaced, Derives}
use Rattle.java_tree.specs.Nesting.{stack_after, nesting_of, IsTooDeep}
use Rattle.std.specs.Bool.{◌==◌}
use Rattle.std.proofs.lemmas.Bool.Decides.{nat_tests}
use Rattle.std.proofs.Common.{Bool, false}
use Rattle.java_parse.specs.Front.{at_end}
use Rattle.java_parse.specs.Want.{NDecls}
use Rattle.java_parse.specs.Reading.{Reads, Left}
use Rattle.java_parse.proofs.Sound.{program_sound}
use Rattle.java_parse.proofs.Small.{program_small}
use Rattle.java_parse.proofs.Deep.{shallow_nested, deep_nested, one_deep}
use Rattle.java_parse.specs.Beginnings.{IsExact}
use Rattle.java_parse.proofs.CompleteDeclarations.{none_derived}
use Rattle.java_parse.proofs.ExactPlace.{exact, rest_fits}

-- a tree that was read
pub record Accepted (ts : List Token) (ds : List DeclTree) : Type 0 where
  pub placed : IsPlaced ts ds
  pub nested : nesting_of ts ≤ 128
  pub small : tree_size ds ≤ 4 * length ts
  pub not_deep : (k : ℕ) → IsTooDeep ts k → ⊥
  pub derives : Derives ts ds

pub accepted : (ts us rest : List Token) (ds : List DeclTree) → us ≡ ts → Reads (NDecls []) us (Ok (ds, rest))
    → ((k : ℕ) → k < length us → length (stack_after [] us (k + 1)) ≤ 128) → Accepted ts ds
accepted ts us rest ds e r all = subst (λ (ts : List Token). Accepted ts ds) e (record {
  placed = program_sound r;
  nested = shallow_nested us all;
  small = program_small (program_sound r);
  not_deep = λ k d. let h = shallow_nested us all in absurd (omega (arith, h, deep_nested us k d));
  derives = record { placed = ds; derived = program_sound r; same = refl };
})

-- tokens that no tree derives
pub record Refused (ts rest : List Token) : Type 0 where
  pub nested : nesting_of ts ≤ 128
  pub not_deep : (k : ℕ) → IsTooDeep ts k → ⊥
  pub none : (tree : List DeclTree) → Derives ts tree → ⊥
  pub fits : length rest ≤ length ts
  pub exact : (k : ℕ) → k + length rest ≡ length ts → IsExact ts k

pub refused : (ts us rest : List Token) → us ≡ ts → Reads (NDecls []) us (Err (Left rest))
    → ((k : ℕ) → k < length us → length (stack_after [] us (k + 1)) ≤ 128) → Refused ts rest
refused ts us rest e r all = subst (λ (ts : List Token). Refused ts rest) e (record {
  nested = shallow_nested us all;
  not_deep = λ k d. let h = shallow_nested us all in absurd (omega (arith, h, deep_nested us k d));
  none = λ tree d. none_derived us rest tree r d;
  fits = rest_fits us rest r;
  exact = λ k h. exact us rest k r h;
})

-- tokens that go too deep
pub record Deep (ts : List Token) (k : ℕ) : Type 0 where
  pub deep : IsTooDeep ts k
  pub one : (j : ℕ) → IsTooDeep ts j → k ≡ j
  pub not_nested : nesting_of ts ≤ 128 → ⊥

pub goes_deep : (ts us : List Token) (k : ℕ) → us ≡ ts → IsTooDeep us k → Deep ts k
goes_deep ts us k e d = subst (λ (ts : List Token). Deep ts k) e (record {
  deep = d;
  one = λ j f. one_deep us k j d f;
  not_nested = λ h. absurd (omega (arith, h, deep_nested us k d));
})

not_zero : (n : ℕ) → (suc n == 0) ≡ false
not_zero n = grind (arith, nat_tests)

at_end_length : (ts : List Token) → at_end ts ≡ (length ts == 0)
at_end_length [] = refl
at_end_length (t ∷ ts) = sym (not_zero (length ts))

pub at_end_by : (ts : List Token) (b c : Bool) → b ≡ (length ts == 0) → b ≡ c → at_end ts ≡ c
at_end_by ts b c e h = at_end_length ts ∙ sym e ∙ h
