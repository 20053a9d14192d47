use Rattle.std.proofs.Common.{subst, string_bytes}
use Rattle.kaba_top.specs.Named.{IsProgramFound}
use Rattle.kaba_top.specs.SameAnswers.{SameOf}
use Rattle.kaba_top.proofs.Naming.{reply_there, reply_none}
use Rattle.kaba_top.proofs.same.other_reply.Goals as goal

pub returns-in-Typed : goal.returns-in-Typed
returns-in-Typed g c =
    let told = g.F.Shelf.files c.args.shelf.now in
    let before = g.F.Shelf.faults c.args.shelf.now in
    let now = g.F.Shelf.faults c.find_program.new.shelf in
    let name = string_bytes c.args.other.now in
    record {
      replies = reply_there told before now name (SameOf (string_bytes c.args.file.now) name c.args.first.now) c.in-Typed.second c.same_programs.result
          (subst (IsProgramFound told before now name) c.in-Typed.is c.in_ok-second.ensures.found) c.same_programs.ensures;
    }

pub returns-in-Refused : goal.returns-in-Refused
returns-in-Refused g c =
    let told = g.F.Shelf.files c.args.shelf.now in
    let before = g.F.Shelf.faults c.args.shelf.now in
    let now = g.F.Shelf.faults c.find_program.new.shelf in
    let name = string_bytes c.args.other.now in
    record {
      replies = reply_none told before now name (SameOf (string_bytes c.args.file.now) name c.args.first.now) c.in-Refused.reply
          (subst (IsProgramFound told before now name) c.in-Refused.is c.in_ok-second.ensures.found);
    }
