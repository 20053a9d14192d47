-- The first byte is that of the mark.
use Rattle.std.proofs.Common.{ℕ, List, nat_eq, slice_index_or, ap, ◌∙◌}
use Rattle.source_gen.proofs.Marked.{first_byte}
use Rattle.source_gen.proofs.fillers.is_marked.Goals as goal

pub returns-in-len1-up : goal.returns-in-len1-up
returns-in-len1-up c =
    ap (λ (bs : List ℕ). nat_eq (slice_index_or bs 0 0) 60) (c.as_bytes.ensures.value ∙ c.as_str.ensures.value) ∙ first_byte c.args.name.now
