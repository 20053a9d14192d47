-- One pair of brackets more.
use Rattle.std.proofs.Common.{arith, ◌≡◌, ℕ, suc, ◌+◌, ◌-◌, ◌<◌, ◌++◌, sym, ap, ◌∙◌}
use Rattle.std.specs.Prelude.{string_bytes, codes}
use Rattle.std.proofs.lemmas.List.{append_assoc}
use Rattle.flow_rules.specs.Facts.{brackets}
use Rattle.flow_facts.proofs.labels.add_brackets.Goals as goal

one_more : (n i : ℕ) → i < n → brackets (n - i) ≡ codes "[]" ++ brackets (n - (i + 1))
one_more n i h = let e : n - i ≡ suc (n - (i + 1)) = omega arith in ap brackets e

pub loop-i-preserved : goal.loop-i-preserved
loop-i-preserved c =
    let rest = brackets (c.args.count - (c.loop-i.i + 1)) in
    let pushed : string_bytes c.add_text.new.text ≡ string_bytes c.loop-i.text ++ codes "[]" = c.in-Ok.ensures.value in
    ap (λ t. t ++ rest) pushed ∙ append_assoc (string_bytes c.loop-i.text) (codes "[]") rest
    ∙ ap (λ b. string_bytes c.loop-i.text ++ b) (sym (one_more c.args.count c.loop-i.i c.loop-i-test.true)) ∙ c.loop-i.invariant
