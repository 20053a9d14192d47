-- The name of the slot of a constructor that is there.
use Rattle.std.proofs.Common.{◌∙◌, ap, ◌++◌, sym}
use Rattle.std.specs.Prelude.{codes}
use Rattle.std.specs.Option.{is_some}
use Rattle.java_core.specs.Programs.{program_of}
use Rattle.java_core.specs.Makers.{maker_of}
use Rattle.flow_facts.specs.Fixed.{all_fixed}
use Rattle.flow_facts.proofs.Fixing.{init_fixed, init_text, some_mapped}
use Rattle.flow_facts.proofs.Passed.{on_ok}
use Rattle.flow_facts.proofs.fixed.fix_init.Goals as goal

pub returns-then-is_some : goal.returns-then-is_some
returns-then-is_some c =
    let some = some_mapped (λ d. d.0) _ _ (sym c.is_some.ensures ∙ c.if-is_some.true) c.maker_of.ensures.value in
    let text = init_text c.in-Ok.made c.args.name.now (c.in-Ok.ensures.value ∙ ap (λ x. codes "init_" ++ x) c.as_str.ensures.value) in
    record {
      value = on_ok c.fix.result (λ h. init_fixed (all_fixed c.args.fixing.now) (all_fixed c.fix.new.fixing)
          (is_some (maker_of (program_of c.args.program.now) c.args.class.0)) c.args.class.0 c.args.name.now _ some text h) c.fix.ensures.value;
    }
