-- Believed. The line of an edit, or of an undo, that was refused.
use Rattle.std.specs.Prelude.{ℕ, List, [], ◌∷◌, ◌++◌, codes, Option, Some, None}
use Rattle.std.specs.Fmt.{decimal}
use Rattle.kaba_base.specs.declared.RowId.{RowId}
use Rattle.kaba_base.specs.declared.ColId.{ColId}
use Rattle.hier_rules.specs.declared.broken.Rule.{Rule}
use Rattle.hier_rules.specs.declared.broken.Rule.TheVariants.{B1, B2, B3, B4, B5, B6, B7, B8, B9}
use Rattle.hier_rules.specs.declared.broken.Nodes.{Nodes}
use Rattle.hier_rules.specs.declared.broken.Nodes.TheVariants.{One, Two, Three}
use Rattle.hier_rules.specs.declared.broken.Broken.{Broken}
use Rattle.hier_edit.specs.declared.ApplyFault.{ApplyFault}
use Rattle.hier_edit.specs.declared.ApplyFault.TheVariants.{UnknownNode, UnknownMember, NotEmpty, Breaks, Memory}
use Rattle.edit_script.specs.Script.{node_word, column_word}

-- the name of an obligation
abbrev pub rule_text : Rule → List ℕ
rule_text B1 = codes "B1"
rule_text B2 = codes "B2"
rule_text B3 = codes "B3"
rule_text B4 = codes "B4"
rule_text B5 = codes "B5"
rule_text B6 = codes "B6"
rule_text B7 = codes "B7"
rule_text B8 = codes "B8"
rule_text B9 = codes "B9"

-- the one, two or three nodes that an instance names
abbrev pub nodes_text : Nodes → List ℕ
nodes_text (One n) = node_word n
nodes_text (Two n m) = node_word n ++ (codes " " ++ node_word m)
nodes_text (Three n m k) = node_word n ++ (codes " " ++ (node_word m ++ (codes " " ++ node_word k)))

-- a row or a column that may not be there
abbrev pub some_row_text : Option RowId → List ℕ
some_row_text None = codes "-"
some_row_text (Some r) = codes "r" ++ decimal r.0

-- a column, or a dash where there is none
abbrev pub some_column_text : Option ColId → List ℕ
some_column_text None = codes "-"
some_column_text (Some c) = column_word c

-- breaks RULE nodes nI nJ row rI column cI
abbrev pub broken_text : Broken → List ℕ
broken_text b =
    codes "breaks " ++ (rule_text b.rule
    ++ (codes " nodes " ++ (nodes_text b.nodes ++ (codes " row " ++ (some_row_text b.row ++ (codes " column " ++ some_column_text b.column))))))

-- why an edit is refused
abbrev pub fault_text : ApplyFault → List ℕ
fault_text (UnknownNode n) = codes "unknown node " ++ node_word n
fault_text (UnknownMember c) = codes "unknown member " ++ column_word c
fault_text (NotEmpty n) = codes "not empty " ++ node_word n
fault_text (Breaks b) = broken_text b
fault_text Memory = []

-- edit LINE: WHY
abbrev pub refusal_line : ℕ → ApplyFault → List ℕ
refusal_line number fault = codes "edit " ++ (decimal number ++ (codes ": " ++ (fault_text fault ++ 10 ∷ [])))

-- the line of an undo where nothing is to be taken back: edit LINE: nothing to undo
abbrev pub no_undo_line : ℕ → List ℕ
no_undo_line number = codes "edit " ++ (decimal number ++ (codes ": nothing to undo" ++ 10 ∷ []))
