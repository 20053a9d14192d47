use Rattle.std.proofs.Common.{arith}
use Rattle.java_lex.proofs.Few.{few-tokens}
use Rattle.java_tree.specs.Syntax.{tree_of}
use Rattle.write_laws.proofs.given.Read.{read_formed}
use Rattle.show_library.proofs.hierarchy.typed.Goals as goal

pub parse-requires : goal.parse-requires
parse-requires c = record { room = omega (arith, few-tokens c.args.bytes.now.items c.in-Ok.tokens.items c.in-Ok.ensures.value, c.requires.small) }

pub resolve-requires : goal.resolve-requires
resolve-requires c = record {
  given = read_formed c.args.bytes.now.items c.in-Ok.tokens.items (tree_of c.in-Ok-parse.tree) c.in-Ok.ensures.value
      c.in-Ok-parse.ensures.found;
}
