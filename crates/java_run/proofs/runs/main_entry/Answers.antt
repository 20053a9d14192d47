use Rattle.std.proofs.Common.{ap, sym, ◌∙◌}
use Rattle.std.specs.Option.{option_map}
use Rattle.kaba_base.proofs.TestLemmas.{none_or_some}
use Rattle.java_core.specs.Programs.{program_of}
use Rattle.run_code.specs.Seen.{entry_of, tables_of}
use Rattle.java_run.proofs.Starts.{main_begins}
use Rattle.java_run.proofs.runs.main_entry.Goals as goal

pub unreachable-requires : goal.unreachable-requires
unreachable-requires c =
    let b = main_begins (program_of c.args.p.now) c.requires.formed (tables_of c.args.image.now) c.requires.fits in
    none_or_some _ b.0 (sym c.entry_at.ensures ∙ ap (option_map (λ e. entry_of e.now)) c.in-None.is) b.1
