-- The test of a rule is true exactly where the rule gives the claim.
use Rattle.std.proofs.Common.{◌≡◌, ℕ, ◌<◌, true, List, [], ◌∷◌, length, refl, arith}
use Rattle.std.proofs.lemmas.Bool.{false≢true}
use Rattle.fact_model.specs.InRange.{InRange}
use Rattle.fact_model.specs.declared.facts.Facts.{Facts}
use Rattle.why_table.specs.Rules.{GivesClaim, p1, p2, p3, p4, p5, p6, p7, p8, t1, t2, t3, t4, t5, t6, t7, t8, t9_point, t9_cell, t10, t11_test, t11_array}
use Rattle.why_table.specs.Tests.{test_rule}
use Rattle.why_table.proofs.FlowingTests.{says_p1, same_p1, says_p2, same_p2, says_p3, same_p3, says_p4, same_p4, says_p5, same_p5, says_p6, same_p6, says_p7, same_p7, says_p8, same_p8}
use Rattle.why_table.proofs.EntryTests.{says_t1, same_t1, says_t2, same_t2, says_t3, same_t3, says_t4, same_t4, says_t5, same_t5, says_t6, same_t6, says_t7, same_t7, says_t8, same_t8, says_t9, same_t9, says_t10, same_t10, says_t11, same_t11}
use Rattle.why_table.specs.declared.trail.Claim.{Claim}
use Rattle.why_table.specs.declared.trail.WhyRule.{WhyRule}
use Rattle.why_table.specs.declared.trail.WhyRule.TheVariants.{P1, P2, P3, P4, P5, P6, P7, P8, T1, T2, T3, T4, T5, T6, T7, T8, T9, T10, T11}

-- how many earlier claims a rule takes
arity : WhyRule → ℕ
arity P1 = 0
arity T1 = 0
arity T2 = 0
arity T4 = 0
arity T7 = 0
arity T11 = 0
arity P2 = 1
arity P5 = 1
arity P8 = 1
arity T3 = 1
arity T5 = 1
arity T8 = 1
arity P3 = 2
arity P4 = 2
arity P6 = 2
arity P7 = 2
arity T6 = 2
arity T9 = 2
arity T10 = 3

module _ (F : Facts) where
  takes : (rule : WhyRule) (ps : List Claim) (c : Claim) → GivesClaim F rule ps c → length ps ≡ arity rule
  unfolding arity
  takes P1 ps c (p1 x is) = refl
  takes P2 ps c (p2 x s is) = refl
  takes P3 ps c (p3 x k o s is at) = refl
  takes P4 ps c (p4 x k o s is at fit) = refl
  takes P5 ps c (p5 call o body runs) = refl
  takes P6 ps c (p6 call o s body k from to runs a b) = refl
  takes P7 ps c (p7 call o s body from to runs a b) = refl
  takes P8 ps c (p8 x s is b) = refl
  takes T1 ps c (t1 x is kind) = refl
  takes T2 ps c (t2 x is kind) = refl
  takes T3 ps c (t3 call o d is found) = refl
  takes T4 ps c (t4 v d e) = refl
  takes T5 ps c (t5 r d k by) = refl
  takes T6 ps c (t6 r v d k e) = refl
  takes T7 ps c (t7 x is) = refl
  takes T8 ps c (t8 x k is) = refl
  takes T9 ps c (t9_point p v o k e) = refl
  takes T9 ps c (t9_cell k x o d e) = refl
  takes T10 ps c (t10 q r d k by) = refl
  takes T11 ps c (t11_test x k is mark) = refl
  takes T11 ps c (t11_array s k is dim mark) = refl

  -- what a test that answers true says, and that it does
  abbrev Says : WhyRule → List Claim → Claim → Type 0
  Says rule ps c = (test_rule F rule ps c ≡ true → GivesClaim F rule ps c) × (GivesClaim F rule ps c → test_rule F rule ps c ≡ true)

  module _ (R : InRange F) where
    exact_none : (rule : WhyRule) (c : Claim) → Says rule [] c
    unfolding arity
    exact_none P1 c = (says_p1 F c, same_p1 F c)
    exact_none T1 c = (says_t1 F c, same_t1 F c)
    exact_none T2 c = (says_t2 F c, same_t2 F c)
    exact_none T4 c = (says_t4 F c, same_t4 F c)
    exact_none T7 c = (says_t7 F c, same_t7 F c)
    exact_none T11 c = (says_t11 F c, same_t11 F c)
    exact_none rule c = (λ h. absurd (false≢true h), λ g. absurd (omega (arith, takes rule [] c g)))

    exact_one : (rule : WhyRule) (p c : Claim) → Says rule (p ∷ []) c
    unfolding arity
    exact_one P2 p c = (says_p2 F p c, same_p2 F p c)
    exact_one P5 p c = (says_p5 F p c, same_p5 F p c)
    exact_one P8 p c = (says_p8 F R p c, same_p8 F R p c)
    exact_one T3 p c = (says_t3 F p c, same_t3 F p c)
    exact_one T5 p c = (says_t5 F p c, same_t5 F p c)
    exact_one T8 p c = (says_t8 F p c, same_t8 F p c)
    exact_one rule p c = (λ h. absurd (false≢true h), λ g. absurd (omega (arith, takes rule (p ∷ []) c g)))

    exact_two : (rule : WhyRule) (p q c : Claim) → Says rule (p ∷ q ∷ []) c
    unfolding arity
    exact_two P3 p q c = (says_p3 F p q c, same_p3 F p q c)
    exact_two P4 p q c = (says_p4 F R p q c, same_p4 F R p q c)
    exact_two P6 p q c = (says_p6 F p q c, same_p6 F p q c)
    exact_two P7 p q c = (says_p7 F p q c, same_p7 F p q c)
    exact_two T6 p q c = (says_t6 F p q c, same_t6 F p q c)
    exact_two T9 p q c = (says_t9 F p q c, same_t9 F p q c)
    exact_two rule p q c = (λ h. absurd (false≢true h), λ g. absurd (omega (arith, takes rule (p ∷ q ∷ []) c g)))

    exact_three : (rule : WhyRule) (p q r c : Claim) → Says rule (p ∷ q ∷ r ∷ []) c
    unfolding arity
    exact_three T10 p q r c = (says_t10 F R p q r c, same_t10 F R p q r c)
    exact_three rule p q r c = (λ h. absurd (false≢true h), λ g. absurd (omega (arith, takes rule (p ∷ q ∷ r ∷ []) c g)))

    few : (rule : WhyRule) → arity rule < 4
    unfolding arity
    few P1 = omega arith
    few P2 = omega arith
    few P3 = omega arith
    few P4 = omega arith
    few P5 = omega arith
    few P6 = omega arith
    few P7 = omega arith
    few P8 = omega arith
    few T1 = omega arith
    few T2 = omega arith
    few T3 = omega arith
    few T4 = omega arith
    few T5 = omega arith
    few T6 = omega arith
    few T7 = omega arith
    few T8 = omega arith
    few T9 = omega arith
    few T10 = omega arith
    few T11 = omega arith

    exact_more : (rule : WhyRule) (p q r x : Claim) (more : List Claim) (c : Claim) → Says rule (p ∷ q ∷ r ∷ x ∷ more) c
    exact_more rule p q r x more c =
        (λ h. absurd (false≢true h), λ g. absurd (omega (arith, takes rule (p ∷ q ∷ r ∷ x ∷ more) c g, few rule)))

    pub exact_rule : (rule : WhyRule) (ps : List Claim) (c : Claim) → Says rule ps c
    exact_rule rule [] c = exact_none rule c
    exact_rule rule (p ∷ []) c = exact_one rule p c
    exact_rule rule (p ∷ q ∷ []) c = exact_two rule p q c
    exact_rule rule (p ∷ q ∷ r ∷ []) c = exact_three rule p q r c
    exact_rule rule (p ∷ q ∷ r ∷ x ∷ more) c = exact_more rule p q r x more c
