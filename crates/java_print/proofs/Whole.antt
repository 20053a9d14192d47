-- The text of a given program is read as the program, where it was made.
use Rattle.std.proofs.Common.{List, Result, Ok, Err, OnOk}
use Rattle.std.specs.Str.{encode_utf8_all}
use Rattle.java_tree.specs.Syntax.{DeclTree}
use Rattle.java_tree.specs.Formed.{IsReadAs, IsGiven}
use Rattle.java_print.specs.Layout.{tree_text}
use Rattle.java_print.proofs.DeclParsed.{text_read}
use Rattle.java_tree.proofs.Gives.{given_formed}

pub read_where_made : {A E : Type 0} (r : Result A E) (tree : List DeclTree) → IsGiven tree → OnOk r (IsReadAs (encode_utf8_all (tree_text tree)) tree)
read_where_made (Ok x) tree g = text_read tree (given_formed tree g)
read_where_made (Err e) tree g = tt
