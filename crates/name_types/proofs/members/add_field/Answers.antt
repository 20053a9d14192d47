use Rattle.std.proofs.Common.{◌≡◌, arith, length}
use Rattle.java_core.specs.declared.Field.{Field}
use Rattle.name_tables.proofs.SpotLemmas.{same_ok}
use Rattle.name_tables.proofs.OwnedLemmas.{noted_more}
use Rattle.name_types.proofs.members.add_field.Goals as goal

pub returns-clause-found : goal.returns-clause-found
returns-clause-found c =
    let same : c.len.result ≡ c.in_ok-number.number = same_ok _ _ c.in_ok-number.ensures in
    let count : c.in_ok-number.number ≡ length c.args.draft.now.declared.fields.items = omega
    (arith, same, c.len.ensures, c.args.draft.now.declared.fields.ok.0) in
    record {
      listed = record {
        fields = noted_more {A = Field} (λ f. f.owner.0) (λ f. f.name) c.args.draft.now.declared.fields.items c.push.new.self.items c.args.field
            c.in_ok-number.number c.args.draft.now.declared.own_fields c.note.new.self c.in_ok-push.ensures.items c.requires.found.listed.fields
            count c.in_ok-note.ensures;
        owned = c.requires.found.listed.owned;
        methods = c.requires.found.listed.methods;
      };
      slots = c.requires.found.slots;
    }
