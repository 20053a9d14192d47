-- Believed. The lines that tell the steps towards a tree.
use Rattle.std.specs.Prelude.{ℕ, List, [], ◌∷◌, ◌++◌, codes}
use Rattle.std.specs.List.{flat_map}
use Rattle.hier_tree.specs.declared.Conflict.{Conflict}
use Rattle.hier_view.specs.EditText.{edit_text}
use Rattle.hier_script.specs.Refusals.{broken_text}
use Rattle.tree_merge.specs.declared.steps.TreeStep.{TreeStep}
use Rattle.tree_merge.specs.declared.trees.NoTree.{NoTree}
use Rattle.edit_script.specs.Script.{node_word}

-- nI nJ nK
abbrev pub conflict_text : Conflict → List ℕ
conflict_text c = node_word c.lower ++ (codes " " ++ (node_word c.first ++ (codes " " ++ node_word c.second)))

-- tree nI nJ nK: EDIT
abbrev pub log_line : TreeStep → List ℕ
log_line s = codes "tree " ++ (conflict_text s.conflict ++ (codes ": " ++ (edit_text s.edit ++ 10 ∷ [])))

-- the lines of a log, one for each step
abbrev pub log_text : List TreeStep → List ℕ
log_text log = flat_map log_line log

-- no tree: nI nJ nK breaks RULE nodes .. row .. column ..
abbrev pub no_tree_text : NoTree → List ℕ
no_tree_text n = codes "no tree: " ++ (conflict_text n.conflict ++ (codes " " ++ broken_text n.broken))
