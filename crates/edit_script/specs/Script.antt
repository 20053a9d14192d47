-- Believed. What a script says: its lines, its words, and the acts that they write: edits, and undos.
use Rattle.std.specs.Prelude.{◌≡◌, ◌⊎◌, ℕ, ◌+◌, ◌-◌, ◌<◌, ◌≤◌, ◌^◌, ◌==◌, Bool, true, false, List, [], ◌∷◌, ◌++◌, length, map, codes, slice_index}
use Rattle.std.specs.List.{All, filter, slice_split}
use Rattle.std.specs.Fmt.{decimal}
use Rattle.std.specs.Str.{IsUtf8, all_scalars, encode_utf8_all}
use Rattle.kaba_base.specs.declared.NodeId.{NodeId}
use Rattle.kaba_base.specs.declared.ColId.{ColId}
use Rattle.hier_model.specs.declared.edits.Edit.{Edit}
use Rattle.hier_model.specs.declared.edits.Edit.TheVariants.{Merge, Under, Move, TypeName, MemberName, Drop}
use Rattle.hier_model.specs.declared.edits.Act.{Act}
use Rattle.hier_model.specs.declared.edits.Act.TheVariants as acts
use Rattle.edit_script.specs.declared.lines.Line.{Line}

-- the lines of a text end at a line feed, or with the text
abbrev pub is_line_end : ℕ → Bool
is_line_end b = b == 10

-- the lines of a text, without their line feeds
abbrev pub lines_of : List ℕ → List (List ℕ)
lines_of bytes = slice_split is_line_end bytes

-- the words of a line stand between its spaces
abbrev pub is_space : ℕ → Bool
is_space b = b == 32

-- whether a word has any bytes
abbrev pub is_there : List ℕ → Bool
is_there [] = false
is_there (b ∷ bytes) = true

-- what stands between the spaces of a line; between two spaces in a row it is empty
abbrev pub parts_of : List ℕ → List (List ℕ)
parts_of line = slice_split is_space line

-- the words of a line, with no empty one among them
abbrev pub words_in : List ℕ → List (List ℕ)
words_in line = filter is_there (parts_of line)

-- the word of a node, and that of a column
abbrev pub node_word : NodeId → List ℕ
node_word n = codes "n" ++ decimal n.0

-- the word of a column: a c and its number
abbrev pub column_word : ColId → List ℕ
column_word c = codes "c" ++ decimal c.0

-- the words that write an edit
abbrev pub words_of : Edit → List (List ℕ)
words_of (Merge nodes) = codes "merge" ∷ map node_word nodes.items
words_of (Under n p) = codes "under" ∷ node_word n ∷ node_word p ∷ []
words_of (Move c n) = codes "move" ∷ column_word c ∷ node_word n ∷ []
words_of (TypeName n name) = codes "type" ∷ node_word n ∷ encode_utf8_all name ∷ []
words_of (MemberName c name) = codes "member" ∷ column_word c ∷ encode_utf8_all name ∷ []
words_of (Drop n) = codes "drop" ∷ node_word n ∷ []

-- the number may stand in a script
abbrev pub IsId : ℕ → Type 0
IsId n = n < 2 ^ 32

-- the number of the node may stand in a script
abbrev pub IsNode : NodeId → Type 0
IsNode n = IsId n.0

-- the numbers may stand in a script, a name is one of characters, and a merge has two nodes or more
abbrev pub IsSound : Edit → Type 0
IsSound (Merge nodes) = (2 ≤ length nodes.items) × All IsNode nodes.items
IsSound (Under n p) = IsNode n × IsNode p
IsSound (Move c n) = IsId c.0 × IsNode n
IsSound (TypeName n name) = IsNode n × (all_scalars name ≡ true)
IsSound (MemberName c name) = IsId c.0 × (all_scalars name ≡ true)
IsSound (Drop n) = IsNode n

-- the words write the edit
pub record Writes (words : List (List ℕ)) (edit : Edit) : Type 0 where
  pub words_are : words ≡ words_of edit
  pub sound : IsSound edit

-- the words write the act: those of an edit, or the one word of an undo
abbrev pub WritesAct : List (List ℕ) → Act → Type 0
WritesAct words (acts.Edit edit) = Writes words edit
WritesAct words acts.Undo = words ≡ codes "undo" ∷ []

-- a line that is empty or begins with `#`
abbrev pub IsSkipped : List ℕ → Type 0
IsSkipped line = (line ≡ []) ⊎ (slice_index line 0 ≡ 35)

-- a space stands first or last
abbrev pub HasOuterSpace : List ℕ → Type 0
HasOuterSpace line = (slice_index line 0 ≡ 32) ⊎ (slice_index line (length line - 1) ≡ 32)

-- a line that says nothing
pub record IsComment (line : List ℕ) : Type 0 where
  pub utf8 : IsUtf8 line
  pub skipped : IsSkipped line

-- a line that writes this act, its words between spaces, of which none stands first or last
pub record IsActLine (line : List ℕ) (act : Act) : Type 0 where
  pub utf8 : IsUtf8 line
  pub trimmed : HasOuterSpace line → ⊥
  pub writes : WritesAct (words_in line) act

-- a line that is neither
pub record IsBadLine (line : List ℕ) : Type 0 where
  pub no_comment : IsComment line → ⊥
  pub no_act : (act : Act) → IsActLine line act → ⊥

-- the next act is that of this line, which has the number k, and the further ones are as K says
abbrev pub IsNextAct : ℕ → List ℕ → (List Line → Type 0) → List Line → Type 0
IsNextAct k line K [] = ⊥
IsNextAct k line K (e ∷ edits) = (e.number ≡ k) × IsActLine line e.act × K edits

-- there is no further act
abbrev pub IsNone : List Line → Type 0
IsNone [] = Unit {0}
IsNone (e ∷ edits) = ⊥

-- the acts of these lines, the first of which has the number k; lines that say nothing are skipped
abbrev pub AreEditsFrom : ℕ → List (List ℕ) → List Line → Type 0
AreEditsFrom k [] edits = IsNone edits
AreEditsFrom k (line ∷ lines) edits = (IsComment line × AreEditsFrom (k + 1) lines edits) ⊎ IsNextAct k line (AreEditsFrom (k + 1) lines) edits

-- the edits and undos of a script, with the numbers of their lines, counted from 1
abbrev pub AreEditsOf : List ℕ → List Line → Type 0
AreEditsOf bytes edits = AreEditsFrom 1 (lines_of bytes) edits

-- n is the number of the first bad line of these, the first of which has the number k
abbrev pub IsFirstBadFrom : ℕ → List (List ℕ) → ℕ → Type 0
IsFirstBadFrom k [] n = ⊥
IsFirstBadFrom k (line ∷ lines) n = (IsBadLine line × (n ≡ k)) ⊎ ((IsBadLine line → ⊥) × IsFirstBadFrom (k + 1) lines n)

-- the line n of a script is the first bad one
abbrev pub IsFirstBadLine : List ℕ → ℕ → Type 0
IsFirstBadLine bytes n = IsFirstBadFrom 1 (lines_of bytes) n

-- how many edits a script may have, each undo counted with them
abbrev pub most_edits : ℕ
most_edits = 4096

-- a script without a bad line that has more edits than it may have
pub record HasTooManyEdits (bytes : List ℕ) : Type 0 where
  pub edits : List Line
  pub are : AreEditsOf bytes edits
  pub many : most_edits < length edits
