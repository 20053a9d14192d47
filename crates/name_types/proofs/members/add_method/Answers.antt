use Rattle.std.proofs.Common.{◌≡◌, length, sym}
use Rattle.name_laws.specs.declared.parts.Heading.{Heading}
use Rattle.name_tables.proofs.SpotLemmas.{same_ok, spots_noted}
use Rattle.name_tables.proofs.OwnedLemmas.{noted_more}
use Rattle.name_types.proofs.members.add_method.Goals as goal

pub returns-clause-found : goal.returns-clause-found
returns-clause-found c =
    let count : c.in_ok-number.number ≡ length c.args.draft.now.declared.headings.items = sym (same_ok _ _ c.in_ok-number.ensures) in
    record {
      listed = record {
        fields = c.requires.found.listed.fields;
        owned = noted_more {A = Heading} (λ h. h.owner) (λ h. h.name) c.args.draft.now.declared.headings.items c.push.new.self.items c.args.heading
            c.in_ok-number.number c.args.draft.now.declared.own_methods c.note.new.self c.in_ok-push.ensures.items c.requires.found.listed.owned count
            c.in_ok-note.ensures;
        methods = spots_noted {A = Heading} (λ h. h.name) c.args.draft.now.declared.headings.items c.push.new.self.items c.args.heading c.in_ok-number.number
            c.args.draft.now.declared.method_spots c.note-2.new.self c.in_ok-push.ensures.items c.requires.found.listed.methods count c.in_ok-note-2.ensures;
      };
      slots = c.requires.found.slots;
    }
