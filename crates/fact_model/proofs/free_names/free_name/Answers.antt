use Rattle.std.proofs.Common.{◌≡◌, ◌∷◌, [], ◌++◌, true, false, length, string_bytes, sym, ap, ◌∙◌, arith, lit<, length-append}
use Rattle.std.specs.Str.{chars}
use Rattle.fact_model.specs.FreeNames.{is_taken}
use Rattle.fact_model.specs.Taken.{texts}
use Rattle.fact_model.proofs.FreeLemmas.{taken_short, taken_by, underscored, tried_more, tried_free}
use Rattle.fact_model.proofs.free_names.free_name.Goals as goal
use Rattle.fact_model.proofs.free_names.free_name.Goals.{In_ok-push}

-- the text of this turn is taken
taken : (c : In_ok-push) → is_taken (texts c.args.taken.now.keys) (chars (string_bytes c.loop-text.text)) ≡ true
taken c =
    ap (λ b. is_taken (texts c.args.taken.now.keys) (chars b)) (sym c.as_str.ensures.value)
    ∙ sym (taken_by c.as_str.result.now c.as_str.utf8 c.args.taken.now.keys) ∙ sym c.loop-text-test.ensures

more : (c : In_ok-push) → chars (string_bytes c.push.new.self) ≡ chars (string_bytes c.loop-text.text) ++ 95 ∷ []
more c = underscored c.loop-text.text c.push.new.self (c.in_ok-push.ensures.bytes
    ∙ ap (λ b. string_bytes c.loop-text.text ++ b) (c.in_ok-push.ensures.ascii (lit< tt)))

pub loop-text-smaller : goal.loop-text-smaller
loop-text-smaller c = let t = taken_short (texts c.args.taken.now.keys) (chars (string_bytes c.loop-text.text)) (taken c) in
    let m = ap length (more c) in omega (arith, t, m, length-append (chars (string_bytes c.loop-text.text)) (95 ∷ []))

pub loop-text-preserved : goal.loop-text-preserved
loop-text-preserved c = tried_more (texts c.args.taken.now.keys) (chars (string_bytes c.args.base)) (chars (string_bytes c.loop-text.text))
    (chars (string_bytes c.push.new.self)) c.loop-text.invariant (taken c) (more c)

pub returns : goal.returns
returns c =
    let t = texts c.args.taken.now.keys in
    let free : is_taken t (chars (string_bytes c.loop-text.text)) ≡ false =
    ap (λ b. is_taken t (chars b)) (sym c.as_str.ensures.value) ∙ sym (taken_by c.as_str.result.now c.as_str.utf8 c.args.taken.now.keys)
    ∙ sym c.loop-text-test.ensures in
    c.in_ok-name.ensures.value ∙ ap chars c.as_str-2.ensures.value ∙ tried_free t (chars (string_bytes c.args.base))
    (chars (string_bytes c.loop-text.text)) c.loop-text.invariant free
