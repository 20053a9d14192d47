use Rattle.std.proofs.Common.{◌∙◌, Err, ap, subst, string_bytes}
use Rattle.kaba_top.specs.Lines.{Says}
use Rattle.kaba_top.proofs.Replying.{is_there, cannot, too_large}
use Rattle.kaba_top.proofs.fetching.fetch_file.Goals as goal

pub returns-in-Ok-clause-fetched : goal.returns-in-Ok-clause-fetched
returns-in-Ok-clause-fetched g c = is_there (g.F.Shelf.files c.args.shelf.now) (string_bytes c.args.name.now) c.in-Ok.bytes.items
    c.in-Ok.ensures.bytes c.in-Ok.ensures.present c.in-Ok.ensures.within

pub returns-in_ok-line-in-Err-CannotRead-clause-fetched : goal.returns-in_ok-line-in-Err-CannotRead-clause-fetched
returns-in_ok-line-in-Err-CannotRead-clause-fetched g c =
    let reply = c.in_ok-line-in-Err-CannotRead.field-0 in
    cannot (g.F.Shelf.files c.args.shelf.now) (g.F.Shelf.faults c.args.shelf.now) (g.F.Shelf.faults c.read_file.new.shelf)
    (string_bytes c.args.name.now) reply.status reply.out.items reply.err.items
    (c.in-Err-CannotRead.ensures.cannot (ap Err c.in-Err-CannotRead.field-0-is))
    (subst (λ text. Says 66 text reply.status reply.out.items reply.err.items) (c.as_bytes.ensures.value ∙ c.in_ok-text-in-Err-CannotRead.ensures.ok)
    c.in_ok-line-in-Err-CannotRead.ensures.says)

pub returns-in_ok-line-in-Err-TooLong-clause-fetched : goal.returns-in_ok-line-in-Err-TooLong-clause-fetched
returns-in_ok-line-in-Err-TooLong-clause-fetched g c =
    let reply = c.in_ok-line-in-Err-TooLong.field-0 in
    let told = c.in-Err-TooLong.ensures.too_long c.in-Err-TooLong.field-0-0 (ap Err c.in-Err-TooLong.field-0-is) in
    too_large (g.F.Shelf.files c.args.shelf.now) (g.F.Shelf.faults c.args.shelf.now) (g.F.Shelf.faults c.read_file.new.shelf)
    (string_bytes c.args.name.now) reply.status reply.out.items reply.err.items
    told.1 told.2 c.in_ok-line-in-Err-TooLong.ensures.says
