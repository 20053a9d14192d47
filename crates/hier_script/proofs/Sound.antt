-- The merges of a script name nodes.
use Rattle.std.proofs.Common.{inl, inr, ℕ, ◌+◌, List, [], ◌∷◌, arith}
use Rattle.std.specs.List.{All}
use Rattle.std.proofs.lemmas.List.Elements.{All-nil, All-cons}
use Rattle.hier_model.specs.declared.edits.Edit.{Edit}
use Rattle.hier_model.specs.declared.edits.Edit.TheVariants.{Merge, Under, Move, TypeName, MemberName, Drop}
use Rattle.hier_model.specs.declared.edits.Act.{Act}
use Rattle.hier_model.specs.declared.edits.Act.TheVariants as acts
use Rattle.hier_model.specs.Edits.{NamesSome}
use Rattle.edit_script.specs.declared.lines.Line.{Line}
use Rattle.edit_script.specs.Script.{words_in, IsSound, WritesAct, AreEditsFrom}
use Rattle.hier_script.specs.Histories.{ActNamesSome}

some_named : (edit : Edit) → IsSound edit → NamesSome edit
some_named (Merge nodes) s = omega (arith, s.0)
some_named (Under n p) s = tt
some_named (Move c n) s = tt
some_named (TypeName n name) s = tt
some_named (MemberName c name) s = tt
some_named (Drop n) s = tt

act_named : (words : List (List ℕ)) (act : Act) → WritesAct words act → ActNamesSome act
act_named words (acts.Edit edit) w = some_named edit w.sound
act_named words acts.Undo w = tt

pub all_named : (k : ℕ) (lines : List (List ℕ)) (edits : List Line) → AreEditsFrom k lines edits → All (λ line. ActNamesSome line.act) edits
all_named k [] [] h = All-nil (λ line. ActNamesSome line.act)
all_named k [] (e ∷ edits) h = absurd h
all_named k (line ∷ lines) edits (inl h) = all_named (k + 1) lines edits h.1
all_named k (line ∷ lines) [] (inr h) = absurd h
all_named k (line ∷ lines) (e ∷ edits) (inr h) = All-cons (λ line. ActNamesSome line.act) e edits (act_named (words_in line) e.act h.1.writes)
    (all_named (k + 1) lines edits h.2)
