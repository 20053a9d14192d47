-- Believed. The text of a trail.
use Rattle.std.specs.Prelude.{ℕ, ◌+◌, List, [], ◌∷◌, ◌++◌, length, codes}
use Rattle.std.specs.List.{flat_map}
use Rattle.std.specs.Fmt.{decimal}
use Rattle.why_table.specs.declared.trail.Claim.{Claim}
use Rattle.why_table.specs.declared.trail.Claim.TheVariants.{InPoint, InCell, Entry}
use Rattle.why_table.specs.declared.trail.WhyRule.{WhyRule}
use Rattle.why_table.specs.declared.trail.WhyRule.TheVariants.{P1, P2, P3, P4, P5, P6, P7, P8, T1, T2, T3, T4, T5, T6, T7, T8, T9, T10, T11}
use Rattle.why_table.specs.declared.trail.WhyStep.{WhyStep}

-- a claim: a site in a point or in a cell, or a column of a row
abbrev pub claim_text : Claim → List ℕ
claim_text (InPoint p s) = codes "point " ++ (decimal p ++ (codes " site " ++ decimal s.0))
claim_text (InCell c s) = codes "cell " ++ (decimal c ++ (codes " site " ++ decimal s.0))
claim_text (Entry r c) = codes "r" ++ (decimal r.0 ++ (codes " c" ++ decimal c.0))

-- the name of a rule
abbrev pub rule_name : WhyRule → List ℕ
rule_name P1 = codes "P1"
rule_name P2 = codes "P2"
rule_name P3 = codes "P3"
rule_name P4 = codes "P4"
rule_name P5 = codes "P5"
rule_name P6 = codes "P6"
rule_name P7 = codes "P7"
rule_name P8 = codes "P8"
rule_name T1 = codes "T1"
rule_name T2 = codes "T2"
rule_name T3 = codes "T3"
rule_name T4 = codes "T4"
rule_name T5 = codes "T5"
rule_name T6 = codes "T6"
rule_name T7 = codes "T7"
rule_name T8 = codes "T8"
rule_name T9 = codes "T9"
rule_name T10 = codes "T10"
rule_name T11 = codes "T11"

-- the steps that a step names
abbrev pub from_text : List ℕ → List ℕ
from_text ks = flat_map (λ k. codes " s" ++ decimal k) ks

-- the line of a step: its number, its claim, its rule and the steps that it names
abbrev pub step_text : ℕ → WhyStep → List ℕ
step_text k x = codes "s" ++ (decimal k
    ++ (codes " " ++ (claim_text x.claim ++ (codes " by " ++ (rule_name x.rule ++ (from_text x.from.items ++ codes "\n"))))))

-- the lines of steps, the first having the number k
abbrev pub steps_text : ℕ → List WhyStep → List ℕ
steps_text k [] = []
steps_text k (x ∷ xs) = step_text k x ++ steps_text (k + 1) xs

-- how many steps there are, and a line for each
abbrev pub trail_text : List WhyStep → List ℕ
trail_text steps = codes "proof " ++ (decimal (length steps) ++ (codes "\n" ++ steps_text 0 steps))
