use Rattle.std.proofs.Common.{subst, string_bytes}
use Rattle.kaba_top.specs.Named.{IsProgramFound}
use Rattle.kaba_top.proofs.Naming.{both_named, none_named}
use Rattle.kaba_top.proofs.same.same_command.Goals as goal

pub returns-in-Typed : goal.returns-in-Typed
returns-in-Typed g c =
    let told = g.F.Shelf.files c.args.shelf.now in
    let before = g.F.Shelf.faults c.args.shelf.now in
    let mid = g.F.Shelf.faults c.find_program.new.shelf in
    let file = string_bytes c.args.file.now in
    record {
      replies = both_named file (string_bytes c.args.other.now) told (g.F.Shelf.files c.find_program.new.shelf) before mid
          (g.F.Shelf.faults c.other_reply.new.shelf) c.in-Typed.first c.other_reply.result c.find_program.ensures.same c.find_program.ensures.later
          (subst (IsProgramFound told before mid file) c.in-Typed.is c.in_ok-first.ensures.found) c.other_reply.ensures.replies;
    }

pub returns-in-Refused : goal.returns-in-Refused
returns-in-Refused g c =
    let told = g.F.Shelf.files c.args.shelf.now in
    let before = g.F.Shelf.faults c.args.shelf.now in
    let mid = g.F.Shelf.faults c.find_program.new.shelf in
    let file = string_bytes c.args.file.now in
    record {
      replies = none_named file (string_bytes c.args.other.now) told before mid c.in-Refused.reply
          (subst (IsProgramFound told before mid file) c.in-Refused.is c.in_ok-first.ensures.found);
    }
