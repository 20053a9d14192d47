-- Mirror. What is known once words or a line were read.
use Rattle.std.specs.Prelude.{◌≡◌, ℕ, ◌≤◌, true, List, [], ◌∷◌, length, map, Option, Some, None, MatchOption}
use Rattle.std.specs.List.{All}
use Rattle.std.specs.Str.{all_scalars, encode_utf8_all}
use Rattle.kaba_base.specs.declared.NodeId.{NodeId}
use Rattle.kaba_base.specs.declared.ColId.{ColId}
use Rattle.hier_model.specs.declared.edits.Edit.{Edit}
use Rattle.hier_model.specs.declared.edits.Act.{Act}
use Rattle.edit_script.specs.declared.lines.Reading.{Reading}
use Rattle.edit_script.specs.declared.lines.Reading.TheVariants as readings
use Rattle.edit_script.specs.Script.{node_word, column_word, IsId, IsNode, IsComment, IsActLine, IsBadLine, Writes, WritesAct}

-- the edit that the words write, or none where they write none
abbrev pub IsEditRead : List (List ℕ) → Option Edit → Type 0
IsEditRead words (Some edit) = Writes words edit
IsEditRead words None = (edit : Edit) → Writes words edit → ⊥

-- the act that the words write, or none where they write none
abbrev pub IsActRead : List (List ℕ) → Option Act → Type 0
IsActRead words (Some act) = WritesAct words act
IsActRead words None = (act : Act) → WritesAct words act → ⊥

-- what a line is
abbrev pub IsLineReading : List ℕ → Reading → Type 0
IsLineReading line readings.Comment = IsComment line
IsLineReading line (readings.Act act) = IsActLine line act
IsLineReading line readings.Bad = IsBadLine line

-- the first word is that of no node, or of no column
abbrev pub NoNode : List (List ℕ) → Type 0
NoNode words = (n : NodeId) (more : List (List ℕ)) → IsNode n → words ≡ node_word n ∷ more → ⊥

-- the first word is that of no column
abbrev pub NoColumn : List (List ℕ) → Type 0
NoColumn words = (c : ColId) (more : List (List ℕ)) → IsId c.0 → words ≡ column_word c ∷ more → ⊥

-- the one word is the name
abbrev pub IsNameIn : List (List ℕ) → List ℕ → Type 0
IsNameIn words name = (words ≡ encode_utf8_all name ∷ []) × (all_scalars name ≡ true)

-- the words are not one word that is a name
abbrev pub NoName : List (List ℕ) → Type 0
NoName words = (name : List ℕ) → words ≡ encode_utf8_all name ∷ [] → ⊥

-- the words are those of the nodes
abbrev pub AreNodesIn : List (List ℕ) → List NodeId → Type 0
AreNodesIn words nodes = (words ≡ map node_word nodes) × All IsNode nodes

-- the words are not all those of nodes
abbrev pub NoNodes : List (List ℕ) → Type 0
NoNodes words = (nodes : List NodeId) → All IsNode nodes → words ≡ map node_word nodes → ⊥

-- the words after the name of an edit are those of no such edit
abbrev pub NoMerge : List (List ℕ) → Type 0
NoMerge words = (nodes : List NodeId) → 2 ≤ length nodes → All IsNode nodes → words ≡ map node_word nodes → ⊥

-- the words after `drop` are not the one word of a node
abbrev pub NoDrop : List (List ℕ) → Type 0
NoDrop words = (n : NodeId) → IsNode n → words ≡ node_word n ∷ [] → ⊥

-- the first word is that of the node, or of the column, and these are left; or it is that of none
abbrev pub IsNodeRead : List (List ℕ) → List (List ℕ) → Option NodeId → Type 0
IsNodeRead words more read = MatchOption read (NoNode words) (λ n. words ≡ node_word n ∷ more)

-- the first word is that of the column, and these are left; or it is that of no column
abbrev pub IsColumnRead : List (List ℕ) → List (List ℕ) → Option ColId → Type 0
IsColumnRead words more read = MatchOption read (NoColumn words) (λ c. words ≡ column_word c ∷ more)
