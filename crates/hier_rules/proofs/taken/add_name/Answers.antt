use Rattle.std.proofs.Common.{ap, ◌∙◌, ◌||◌}
use Rattle.fact_model.specs.FreeNames.{is_taken}
use Rattle.fact_model.specs.Taken.{texts}
use Rattle.fact_model.proofs.FreeLemmas.{key_added}
use Rattle.hier_rules.proofs.TakenLemmas.{bytes_sym}
use Rattle.hier_rules.proofs.taken.add_name.Goals as goal

pub returns : goal.returns
returns c = λ x.
    ap (λ ks. is_taken (texts ks) x) c.in_ok-insert_full.ensures.keys
    ∙ key_added c.args.set.now.keys c.in_ok-text.text c.args.name.now x (c.in_ok-text.ensures.ok ∙ c.as_str.ensures.value)
    ∙ ap (λ b. is_taken (texts c.args.set.now.keys) x || b) (bytes_sym x c.args.name.now)
