-- The name that is fixed, or the method's own.
use Rattle.std.proofs.Common.{◌∙◌, sym, map}
use Rattle.java_core.specs.Programs.{code_seen}
use Rattle.flow_facts.specs.Fixed.{fixed_seen}
use Rattle.flow_facts.proofs.Fixing.{slot_name, own_name}
use Rattle.flow_facts.proofs.infos.column_name.Goals as goal

pub returns-then-is_marked : goal.returns-then-is_marked
returns-then-is_marked c = record {
  value = λ P e. slot_name (λ x. x.now) P (code_seen c.args.method.now) (map fixed_seen c.args.fixed.now) c.name_for.result c.name_for.ensures.value e
      (sym c.is_marked.ensures.value ∙ c.if-is_marked.true);
}

pub returns : goal.returns
returns c = record { value = λ P e. own_name P (code_seen c.args.method.now) (sym c.is_marked.ensures.value ∙ c.if-is_marked.false) }
