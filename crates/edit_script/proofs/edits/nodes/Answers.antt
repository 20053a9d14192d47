use Rattle.std.proofs.Common.{◌∙◌, sym, ap, map, ◌++◌}
use Rattle.edit_script.specs.Script.{node_word}
use Rattle.edit_script.proofs.Names.{node_words, none_named}
use Rattle.edit_script.proofs.edits.nodes.Goals as goal

pub returns-in-None : goal.returns-in-None
returns-in-None c = λ nodes are e.
    let words = ap (λ words. map node_word c.loop-word.nodes.items ++ words) c.in-Some.ensures in
    let found = node_words c.loop-word.nodes.items c.in-Some.word.now _ nodes are (sym e ∙ c.loop-word.invariant.0 ∙ words) in
    none_named c.in-Some.word.now c.in_ok-node_in.field-0 c.in-None.is c.in_ok-node_in.ensures found.0 found.1 found.2
