use Rattle.std.proofs.Common.{◌≡◌, true, ◌∙◌, sym, subst, ⊎_elim}
use Rattle.std.proofs.lemmas.Bool.{or_cases}
use Rattle.kaba_bits.specs.Sets.{bit, row}
use Rattle.table_rules.proofs.CloseLemmas.{site_flows}
use Rattle.table_rules.proofs.sites.gather_row.Goals as goal

pub returns-then-are_alike : goal.returns-then-are_alike
returns-then-are_alike c =
    let F = c.args.given.now.facts.now in
    let v = c.args.v in
    let group = c.args.group in
    let sets = c.requires.given.sets in
    let old = c.args.both.now in
    let extra = row c.args.rows.now v in
    let same = rw c.deref.ensures.value at c.if-are_alike.ensures.same in
    let joined = rw c.row_at.ensures at c.or_into.ensures.join in
    record {
      width = c.or_into.ensures.width ∙ c.requires.both.width;
      entries = λ k h o m.
          ⊎_elim
          (λ b. c.requires.both.entries k b o m)
          (λ b. site_flows F v o ((sets.rows v o).0 (subst (λ s. bit s o ≡ true) (sym same) ((sets.rows group o).1 m))) k (c.requires.rows.sound v k b))
          (or_cases (bit old k) (bit extra k) (sym (joined k) ∙ h));
    }
