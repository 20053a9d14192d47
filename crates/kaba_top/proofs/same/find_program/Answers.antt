use Rattle.std.proofs.Common.{arith, subst, string_bytes}
use Rattle.kaba_top.specs.Fetching.{IsFetched}
use Rattle.kaba_top.proofs.Naming.{found_large}
use Rattle.kaba_top.proofs.same.find_program.Goals as goal

pub returns-in_ok-with_name-in-Refused-clause-found : goal.returns-in_ok-with_name-in-Refused-clause-found
returns-in_ok-with_name-in-Refused-clause-found g c =
    let told = g.F.Shelf.files c.args.shelf.now in
    let before = g.F.Shelf.faults c.args.shelf.now in
    let now = g.F.Shelf.faults c.fetch_file.new.shelf in
    let name = string_bytes c.args.file.now in
    found_large told before now name c.in-Refused.reply c.in_ok-with_name-in-Refused.field-0 (omega (arith, c.if-reply-eq67.true))
    (subst (IsFetched told before now name) c.in-Refused.is c.in_ok-bytes.ensures.fetched) c.in_ok-with_name-in-Refused.ensures.named
