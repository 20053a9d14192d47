use Rattle.std.proofs.Common.{subst, string_bytes}
use Rattle.kaba_top.specs.Fetching.{IsFetched}
use Rattle.kaba_top.proofs.Replying.{two_files, no_first_file}
use Rattle.kaba_top.proofs.answer.script_command.Goals as goal

pub returns-in-Bytes : goal.returns-in-Bytes
returns-in-Bytes g c =
    let told = g.F.Shelf.files c.args.shelf.now in
    let before = g.F.Shelf.faults c.args.shelf.now in
    let mid = g.F.Shelf.faults c.fetch_file.new.shelf in
    record {
      replies = two_files c.args.shows c.args.bound (string_bytes c.args.file.now) (string_bytes c.args.script.now) told
          (g.F.Shelf.files c.fetch_file.new.shelf) before mid (g.F.Shelf.faults c.script_reply.new.shelf) c.in-Bytes.bytes.items c.script_reply.result
          c.fetch_file.ensures.same c.fetch_file.ensures.later
          (subst (IsFetched told before mid (string_bytes c.args.file.now)) c.in-Bytes.is c.in_ok-bytes.ensures.fetched) c.script_reply.ensures.replies;
    }

pub returns-in-Refused : goal.returns-in-Refused
returns-in-Refused g c =
    let told = g.F.Shelf.files c.args.shelf.now in
    let before = g.F.Shelf.faults c.args.shelf.now in
    let mid = g.F.Shelf.faults c.fetch_file.new.shelf in
    let reply = c.in-Refused.reply in
    record {
      replies = no_first_file c.args.shows c.args.bound (string_bytes c.args.file.now) (string_bytes c.args.script.now) told before mid
          reply.status reply.out.items reply.err.items (subst (IsFetched told before mid (string_bytes c.args.file.now)) c.in-Refused.is
          c.in_ok-bytes.ensures.fetched);
    }
