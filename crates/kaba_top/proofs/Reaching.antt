-- What drops, fresh names and undos make of a start, and that facts without an interface have none.
use Rattle.std.proofs.Common.{◌≡◌, ℕ, zero, suc, ◌+◌, Bool, false, List, [], ◌∷◌, Result, Ok, Err, map, refl, ◌∙◌, ap, slice_get}
use Rattle.std.specs.Prelude.{All}
use Rattle.std.specs.List.{list_any}
use Rattle.std.proofs.lemmas.List.Elements.{All-nil, All-cons, All-head, All-tail}
use Rattle.std.proofs.lemmas.Bool.{or_parts}
use Rattle.std.specs.Option.{option_map_or}
use Rattle.java_core.specs.declared.Program.{Program}
use Rattle.java_core.specs.Programs.{Plain, PlainClass, program_of}
use Rattle.fact_model.specs.declared.facts.Facts.{Facts}
use Rattle.fact_model.specs.declared.facts.ClassInfo.{ClassInfo}
use Rattle.fact_model.specs.declared.sets.PointsTo.{PointsTo}
use Rattle.fact_model.specs.declared.sets.Table.{Table}
use Rattle.fact_model.specs.declared.sets.Lattice.{Lattice}
use Rattle.flow_rules.specs.Ordered.{each}
use Rattle.flow_rules.specs.Facts.{ClassFacts, class_seen, class_facts}
use Rattle.hier_model.specs.Hierarchies.{Hierarchy}
use Rattle.hier_model.specs.declared.edits.Edit.{Edit}
use Rattle.hier_model.specs.declared.edits.Edit.TheVariants.{Merge, Under, Move, TypeName, MemberName, Drop}
use Rattle.hier_model.specs.declared.edits.Act.{Act}
use Rattle.hier_model.specs.declared.edits.Act.TheVariants as acts
use Rattle.hier_edit.specs.declared.ApplyFault.{ApplyFault}
use Rattle.hier_edit.specs.Applied.{applied}
use Rattle.edit_script.specs.declared.lines.Line.{Line}
use Rattle.hier_script.specs.Scripts.{History, unedited, kept, taken_back, after_act, after_acts, after_edits}
use Rattle.hier_tree.specs.Kept.{HasNoInterface}
use Rattle.hier_tree.specs.Reached.{IsReached, dropped, type_named, member_named}
use Rattle.kaba_top.specs.Fresh.{DeclaresNoInterface, IsDropOrFresh, IsDropFreshOrUndo, AreDropsAndFreshNamesFrom, AreDropsAndFreshNames}
use Rattle.kaba_top.specs.FactsAnswers.{HasFacts}

module _ (F : Facts) (pt : PointsTo) (t : Table) (l : Lattice) where
  -- the hierarchy at present and all past ones are reached
  record AreReached (h : History) : Type 0 where
    pub present : IsReached F pt t l h.present
    pub past : All (IsReached F pt t l) h.past

  -- an edit was made
  grown : (h : History) (New : Hierarchy) → AreReached h → IsReached F pt t l New → AreReached (kept h (Ok New))
  grown h New r new = record { present = new; past = All-cons (IsReached F pt t l) h.present h.past r.present r.past }

  -- an edit that was accepted or refused
  by_result : (h : History) (e : Edit) (r : Result Hierarchy ApplyFault) → IsDropOrFresh F h.present e → AreReached h → applied F pt h.present e ≡ r
      → AreReached (kept h r)
  by_result h (Drop n) (Ok New) d a made = grown h New a (dropped n a.present made)
  by_result h (TypeName n name) (Ok New) d a made = grown h New a (type_named n name a.present d made)
  by_result h (MemberName c name) (Ok New) d a made = grown h New a (member_named c name a.present d made)
  by_result h (Merge set) (Ok New) d a made = absurd d
  by_result h (Under n p) (Ok New) d a made = absurd d
  by_result h (Move c n) (Ok New) d a made = absurd d
  by_result h e (Err fault) d a made = a

  -- an undo brings back what was reached
  back : (H : Hierarchy) (past : List Hierarchy) → IsReached F pt t l H → All (IsReached F pt t l) past → AreReached (taken_back H past)
  back H [] r all = record { present = r; past = all }
  back H (K ∷ past) r all = record { present = All-head (IsReached F pt t l) K past all; past = All-tail (IsReached F pt t l) K past all }

  by_act : (h : History) (a : Act) → IsDropFreshOrUndo F h.present a → AreReached h → AreReached (after_act F pt h a)
  by_act h (acts.Edit e) d r = by_result h e (applied F pt h.present e) d r refl
  by_act h acts.Undo d r = back h.present h.past r.present r.past

  -- one after the other
  all_reached : (h : History) (lines : List Line) → AreDropsAndFreshNamesFrom F pt h lines → AreReached h → AreReached (after_acts F pt h lines)
  all_reached h [] d r = r
  all_reached h (line ∷ lines) d r = all_reached (after_act F pt h line.act) lines d.1 (by_act h line.act d.0 r)

  pub reached : (H : Hierarchy) (lines : List Line) → AreDropsAndFreshNames F pt H lines → IsReached F pt t l H → IsReached F pt t l (after_edits F pt H lines)
  reached H lines d r = (all_reached (unedited H) lines d (record { present = r; past = All-nil (IsReached F pt t l) })).present

abbrev interface_of : List ClassFacts → Bool
interface_of [] = false
interface_of (k ∷ ks) = k.is_interface

abbrev rest_of : List ClassFacts → List ClassFacts
rest_of [] = []
rest_of (k ∷ ks) = ks

none_listed : (P : Plain) (n : ℕ) (cs : List ClassInfo) (ks : List PlainClass) → map class_seen cs ≡ each (class_facts P) n ks
    → list_any (λ k. k.is_interface) ks ≡ false
    → (a : ℕ) → option_map_or (λ k. k.is_interface) (slice_get cs a) false ≡ false
none_listed P n [] ks e none a = refl
none_listed P n (c ∷ cs) [] e none a = let u = e in cc
none_listed P n (c ∷ cs) (k ∷ ks) e none zero =
    let same : c.is_interface ≡ k.is_interface = ap interface_of e in
    same ∙ (or_parts k.is_interface (list_any (λ k. k.is_interface) ks) none).0
none_listed P n (c ∷ cs) (k ∷ ks) e none (suc a) =
    none_listed P (n + 1) cs ks (ap rest_of e) (or_parts k.is_interface (list_any (λ k. k.is_interface) ks) none).1 a

-- the facts of a program without interfaces have none
pub no_interface : (program : Program) (F : Facts) → HasFacts program F → DeclaresNoInterface program → HasNoInterface F
no_interface program F facts none =
    let P = program_of program in
    record { classes = none_listed P 0 F.classes.items P.classes facts.is.classes none }
