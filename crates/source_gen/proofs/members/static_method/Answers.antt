use Rattle.std.proofs.Common.{◌≡◌, ◌∷◌, [], IfOk, subst}
use Rattle.source_gen.specs.Words.{old_program, renaming}
use Rattle.kaba_base.specs.declared.words.Keyword.TheVariants as keyword
use Rattle.java_tree.specs.Syntax as tree
use Rattle.write_model.specs.Names as names
use Rattle.write_model.specs.Members as written
use Rattle.source_gen.proofs.members.static_method.Goals as goal

-- what is written of its body is written of the method
pub returns : goal.returns
returns c =
    let P = old_program c.args.source.now in
    let R = renaming c.args.source.now in
    let H = c.args.source.now.hier.now in
    subst (λ k. IfOk c.static_code.result (λ d. tree.member_of d ≡ tree.MethodTree
    (written.head P R H (names.modifier keyword.Public ∷ names.modifier keyword.Static ∷ []) k.name c.args.m k) (written.body P R H c.args.m k) names.nowhere))
    c.code.ensures.value c.static_code.ensures
