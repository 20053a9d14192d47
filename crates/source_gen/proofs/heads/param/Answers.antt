use Rattle.java_core.specs.Programs.{code_seen, local_seen}
use Rattle.write_forms.specs.Sources.{old_program, renaming}
use Rattle.source_gen.proofs.Params.{param_is}
use Rattle.source_gen.proofs.heads.param.Goals as goal

pub returns : goal.returns
returns c =
    param_is (old_program c.args.source.now) (renaming c.args.source.now) c.args.source.now.hier.now c.args.m (code_seen c.args.code.now)
    c.args.number (local_seen c.args.local.now) c.variable_row-row.result c.in_ok-ty.ty c.in_ok-name.name c.nowhere.result
    c.variable_row-row.ensures.value c.in_ok-ty.ensures c.in_ok-name.ensures.value c.nowhere.ensures
