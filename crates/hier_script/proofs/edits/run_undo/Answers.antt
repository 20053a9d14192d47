use Rattle.std.proofs.Common.{◌∙◌}
use Rattle.hier_script.proofs.HistoryLemmas.{undone, undo_silent, some_back}
use Rattle.hier_script.proofs.edits.run_undo.Goals as goal

pub take_back-requires : goal.take_back-requires
take_back-requires c =
    let h = c.requires.history in
    some_back h.0 h.1 h.2.0 c.args.hier.now c.args.undos.now.items c.pop.new.self.items c.in-Some.undo h.2.1 c.in-Some.ensures.items

pub returns-in-Some-clause-history : goal.returns-in-Some-clause-history
returns-in-Some-clause-history c =
    undone c.args.hier.now c.take_back.new.hier c.args.undos.now.items c.pop.new.self.items c.in-Some.undo c.in-Some.ensures.items c.take_back.ensures

pub returns-in-Some-clause-refusal : goal.returns-in-Some-clause-refusal
returns-in-Some-clause-refusal c = λ F pt h s.
    c.new.ensures.bytes
    ∙ undo_silent c.args.hier.now c.args.undos.now.items c.pop.new.self.items c.in-Some.undo c.args.number c.in-Some.ensures.items F pt h s
