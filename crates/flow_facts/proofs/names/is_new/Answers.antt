use Rattle.std.proofs.Common.{◌∙◌, ap, refl, map}
use Rattle.std.specs.Prelude.{not, string_bytes}
use Rattle.std.specs.List.{list_any}
use Rattle.std.specs.Str.{bytes_eq}
use Rattle.indexmap.specs.IndexSet.{insert_key}
use Rattle.fact_model.specs.Taken.{texts}
use Rattle.flow_facts.proofs.Fixing.{added_text}
use Rattle.flow_facts.proofs.Texts.{any_as, inserted_as}
use Rattle.flow_facts.proofs.names.is_new.Goals as goal

pub returns-clause-added : goal.returns-clause-added
returns-clause-added c =
    c.in_ok-added.ensures.added ∙ ap not (any_as string_bytes _ (λ _ _. refl) c.in-Ok.made c.args.seen.now.keys)
    ∙ ap (λ t. not (list_any (bytes_eq t) (map string_bytes c.args.seen.now.keys))) (c.in-Ok.ensures.ok ∙ c.as_str.ensures.value)

pub returns-clause-keys : goal.returns-clause-keys
returns-clause-keys c =
    ap (map string_bytes) c.in_ok-added.ensures.keys ∙ inserted_as string_bytes _ (λ _ _. refl) c.in-Ok.made c.args.seen.now.keys
    ∙ ap (insert_key bytes_eq (map string_bytes c.args.seen.now.keys)) (c.in-Ok.ensures.ok ∙ c.as_str.ensures.value)

pub returns-clause-names : goal.returns-clause-names
returns-clause-names c =
    ap (λ ks. texts ks) c.in_ok-added.ensures.keys
    ∙ added_text c.args.seen.now.keys c.in-Ok.made c.args.name.now _ (c.in-Ok.ensures.ok ∙ c.as_str.ensures.value) c.in_ok-added.ensures.added
