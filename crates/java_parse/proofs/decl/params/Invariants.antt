use Rattle.std.proofs.Common.{◌≤◌, length, List, [], ◌∷◌, ◌++◌, Ok, Err}
use Rattle.java_lex.specs.declared.Token.{Token}
use Rattle.java_tree.specs.declared.Param.{Param}
use Rattle.java_parse.specs.Want.{NParam, NParams, NMoreParams}
use Rattle.java_parse.specs.Reading.{Fault, ParseOutcome, Reads}
use Rattle.java_parse.proofs.decl.params.Given as goal

-- the next parameter, and what follows it with the parameters so far, comes to what the whole comes to
abbrev pub invariant-more : goal.invariant-more
invariant-more l = record {
  so_far : (q : Param) (us : List Token) (o : ParseOutcome (List Param)) → Reads NParam l.rest (Ok (q, us))
      → Reads (NMoreParams (l.all.items ++ q ∷ [])) us o → Reads NParams l.fn.tokens o;
  fails : (f : Fault) → Reads NParam l.rest (Err f) → Reads NParams l.fn.tokens (Err f);
  shorter : length l.rest ≤ length l.fn.tokens;
}

abbrev pub decreases-more : goal.decreases-more
decreases-more l = length l.rest
