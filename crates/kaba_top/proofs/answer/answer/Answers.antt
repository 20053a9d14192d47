use Rattle.std.proofs.Common.{Err, ap, subst}
use Rattle.kaba_words.specs.Commands.{texts, command_of, Fits}
use Rattle.kaba_top.proofs.Replying.{of_command, usage_replies, without_files}
use Rattle.kaba_top.proofs.Making.{make_number}
use Rattle.kaba_top.proofs.answer.answer.Goals as goal

pub returns-in-Err-Usage : goal.returns-in-Err-Usage
returns-in-Err-Usage g c = record {
  replies = usage_replies (g.F.Shelf.files c.args.shelf.now) (g.F.Shelf.faults c.args.shelf.now) (g.F.Shelf.faults c.args.shelf.now)
      (texts c.args.words.now.items) c.line.result (c.in-Err-Usage.ensures.usage (ap Err c.in-Err-Usage.field-0-is)) c.line.ensures.says;
}

pub returns-in-Ok-Help : goal.returns-in-Ok-Help
returns-in-Ok-Help g c = record {
  replies = without_files _ _ _ (texts c.args.words.now.items) _ _ c.help_reply.result c.in-Ok-Help.field-0-is c.in-Ok-Help.ensures.command
      (λ first second. c.help_reply.ensures.gives);
}

pub returns-in-Ok-Version : goal.returns-in-Ok-Version
returns-in-Ok-Version g c = record {
  replies = without_files _ _ _ (texts c.args.words.now.items) _ _ c.version_reply.result c.in-Ok-Version.field-0-is c.in-Ok-Version.ensures.command
      (λ first second. c.version_reply.ensures.gives);
}

pub returns-in-Ok-Edit : goal.returns-in-Ok-Edit
returns-in-Ok-Edit g c = record {
  replies = of_command _ _ _ (texts c.args.words.now.items) _ _ c.script_command.result c.in-Ok-Edit.field-0-is c.in-Ok-Edit.ensures.command
      c.script_command.ensures.replies;
}

pub returns-in-Ok-Regen : goal.returns-in-Ok-Regen
returns-in-Ok-Regen g c = record {
  replies = of_command _ _ _ (texts c.args.words.now.items) _ _ c.script_command-in-Ok-Regen.result c.in-Ok-Regen.field-0-is c.in-Ok-Regen.ensures.command
      c.script_command-in-Ok-Regen.ensures.replies;
}

pub make_reply-requires : goal.make_reply-requires
make_reply-requires g c =
    let given = make_number (texts c.args.words.now.items) c.in-Ok-Make.prints c.in-Ok-Make.number
    (subst (λ command. Fits (texts c.args.words.now.items) (command_of command)) c.in-Ok-Make.field-0-is c.in-Ok-Make.ensures.command) in
    record { some = given.0; most = given.1 }

pub returns-in-Ok-Make : goal.returns-in-Ok-Make
returns-in-Ok-Make g c = record {
  replies = without_files _ _ _ (texts c.args.words.now.items) _ _ c.make_reply.result c.in-Ok-Make.field-0-is c.in-Ok-Make.ensures.command
      (λ first second. c.make_reply.ensures.answers);
}
