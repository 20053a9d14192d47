use Rattle.std.proofs.Common.{arith, subst}
use Rattle.java_lex.proofs.Few.{few-tokens}
use Rattle.java_tree.specs.Syntax.{tree_of}
use Rattle.java_parse.specs.Faults.{IsParseCause}
use Rattle.write_laws.proofs.given.Read.{read_formed}
use Rattle.kaba_top.proofs.Texts.{no_tokens, too_deep, no_tree, read_as}
use Rattle.kaba_top.proofs.reading.read_program.Goals as goal

pub returns-in-Err : goal.returns-in-Err
returns-in-Err c = record {
  reading = no_tokens c.args.bytes.now.items c.in-Err.fault c.in_ok-not_lexed-in-Err.field-0 c.in-Err.ensures.value
      c.in_ok-not_lexed-in-Err.ensures;
}

pub parse-requires : goal.parse-requires
parse-requires c = record { room = omega (arith, few-tokens c.args.bytes.now.items c.in-Ok.tokens.items c.in-Ok.ensures.value, c.requires.small) }

pub type_tree-requires : goal.type_tree-requires
type_tree-requires c = record {
  given = read_formed c.args.bytes.now.items c.in-Ok.tokens.items (tree_of c.in-Ok-parse.tree) c.in-Ok.ensures.value
      c.in-Ok-parse.ensures.found;
}

pub returns-in-Ok-parse : goal.returns-in-Ok-parse
returns-in-Ok-parse c = record {
  reading = read_as c.args.bytes.now.items c.in-Ok.tokens.items (tree_of c.in-Ok-parse.tree) c.type_tree.result c.in-Ok.ensures.value
      c.in-Ok-parse.ensures.nested c.in-Ok-parse.ensures.found c.type_tree.ensures.reading;
}

pub returns-in-Err-TooDeep : goal.returns-in-Err-TooDeep
returns-in-Err-TooDeep c = record {
  reading = too_deep c.args.bytes.now.items c.in-Ok.tokens.items c.in-Err-TooDeep.token c.in_ok-reply-in-Err-TooDeep.reply c.in-Ok.ensures.value
      (subst (IsParseCause c.in-Ok.tokens.items) c.in-Err-TooDeep.field-0-is c.in-Err-TooDeep.ensures.refused)
      c.in_ok-reply-in-Err-TooDeep.ensures;
}

pub returns-in-Err-NotAProgram : goal.returns-in-Err-NotAProgram
returns-in-Err-NotAProgram c = record {
  reading = no_tree c.args.bytes.now.items c.in-Ok.tokens.items c.in-Err-NotAProgram.token c.in_ok-reply-in-Err-NotAProgram.reply c.in-Ok.ensures.value
      (subst (IsParseCause c.in-Ok.tokens.items) c.in-Err-NotAProgram.field-0-is c.in-Err-NotAProgram.ensures.refused)
      c.in_ok-reply-in-Err-NotAProgram.ensures;
}
