-- A text is written again in one way, and a written text is that of one program.
use Rattle.std.proofs.Common.{◌≡◌, ℕ, List, Result, Ok, sym, ap, subst, ◌∙◌}
use Rattle.std.specs.Str.{encode_utf8_all}
use Rattle.java_lex.specs.declared.Token.{Token}
use Rattle.java_lex.specs.declared.LexFault.{LexFault}
use Rattle.java_tree.specs.Syntax.{DeclTree}
use Rattle.java_tree.specs.Declarations.{IsPlaced, Derives}
use Rattle.java_parse.proofs.CompleteDeclarations.{one_placed, one_derived}
use Rattle.java_tree.specs.Formed.{IsReadAs}
use Rattle.java_print.specs.Layout.{tree_text}
use Rattle.java_print.proofs.DeclParsed.{text_read}
use Rattle.java_tree.proofs.Gives.{given_formed}
use Rattle.java_again.specs.Again.{OneText, TextsApart}

same_ok : (ts us : List Token) → ◌≡◌ {A = Result (List Token) LexFault} (Ok ts) (Ok us) → ts ≡ us
same_ok ts us h = cc

pub one_text : OneText
one_text text a b x y =
    let same : y.tokens ≡ x.tokens = same_ok y.tokens x.tokens (sym y.lexed ∙ x.lexed) in
    let tree : x.tree ≡ y.tree = one_placed x.tokens x.tree y.tree x.placed (subst (λ ts. IsPlaced ts y.tree) same y.placed) in
    x.written ∙ ap (λ t. encode_utf8_all (tree_text t)) tree ∙ sym y.written

pub texts_apart : TextsApart
texts_apart a b g h e =
    let x = text_read a (given_formed a g) in
    let y : IsReadAs (encode_utf8_all (tree_text a)) b = subst (λ t. IsReadAs (encode_utf8_all t) b) (sym e) (text_read b (given_formed b h)) in
    one_derived x.tokens a b x.derived (subst (λ ts. Derives ts b) (same_ok y.tokens x.tokens (sym y.lexed ∙ x.lexed)) y.derived)
