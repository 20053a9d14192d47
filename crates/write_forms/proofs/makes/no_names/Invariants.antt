use Rattle.std.proofs.Common.{◌≡◌, ℕ, [], length, get_or}
use Rattle.write_forms.proofs.makes.no_names.Given as goal

abbrev pub invariant-loop-site : goal.invariant-loop-site
invariant-loop-site l = (length l.names.items ≡ l._site) × ((s : ℕ) → get_or l.names.items s [] ≡ [])
