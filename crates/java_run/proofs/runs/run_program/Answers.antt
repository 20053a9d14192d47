use Rattle.std.proofs.Common.{◌≤◌, ap, ◌∙◌, refl, arith, string_bytes, map}
use Rattle.java_core.specs.Programs.{program_of}
use Rattle.run_code.specs.Seen.{entry_of, tables_of}
use Rattle.run_state.specs.Run.{config_of}
use Rattle.java_run.proofs.Starts.{meant_so, never_stuck, outcome_so, going_used}
use Rattle.java_run.proofs.runs.run_program.Goals as goal

pub end_seen-requires : goal.end_seen-requires
end_seen-requires c =
    let P = program_of c.args.p.now in
    let same = ap program_of (c.in_ok-first.ensures.same ∙ c.in_ok-classes.ensures.value) in
    let is = meant_so P c.args.words.now.items c.args.bound c.in_ok-ending.last c.in_ok-ending.ending c.requires.formed c.requires.typed _
    (tables_of c.in_ok-image.image) c.in_ok-image.ensures.fits (entry_of c.main_entry-entry.result.now) (config_of c.in_ok-first.first)
    c.main_entry-entry.ensures c.in_ok-first.ensures.config same c.in_ok-ending.ensures.run in
    never_stuck P c.args.words.now.items c.args.bound c.in_ok-ending.last c.in_ok-ending.ending c.requires.formed c.requires.typed is

pub returns-clause-outcome : goal.returns-clause-outcome
returns-clause-outcome c =
    let P = program_of c.args.p.now in
    let same = ap program_of (c.in_ok-first.ensures.same ∙ c.in_ok-classes.ensures.value) in
    let is = meant_so P c.args.words.now.items c.args.bound c.in_ok-ending.last c.in_ok-ending.ending c.requires.formed c.requires.typed _
    (tables_of c.in_ok-image.image) c.in_ok-image.ensures.fits (entry_of c.main_entry-entry.result.now) (config_of c.in_ok-first.first)
    c.main_entry-entry.ensures c.in_ok-first.ensures.config same c.in_ok-ending.ensures.run in
    let begun = ap (λ k. k.state.left) c.in_ok-first.ensures.config in
    let fewer = c.in_ok-ending.ensures.left in
    let low : c.in_ok-ending.last.left ≤ c.args.bound = omega (arith, begun, fewer) in
    outcome_so P c.args.words.now.items c.args.bound c.in_ok-ending.last c.in_ok-ending.ending _ is low refl c.end_seen.ensures refl

pub returns-clause-going : goal.returns-clause-going
returns-clause-going c = going_used (program_of c.args.p.now) (map string_bytes c.args.words.now.items) c.args.bound _ (returns-clause-outcome c)
