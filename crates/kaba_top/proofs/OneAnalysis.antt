-- The analysis of a program has one answer, and so have a script, an edit and what is written.
use Rattle.std.proofs.Common.{◌≡◌, inl, inr, ⊎_elim, ℕ, ◌≤◌, Bool, true, false, List, [], ◌∷◌, ◌++◌, length, map, Option, Some, None, refl, sym, ap, ◌∙◌, subst, arith, codes}
use Rattle.std.specs.Str.{encode_utf8_all}
use Rattle.std.specs.List.{flat_map}
use Rattle.std.proofs.lemmas.Option.{same_Some}
use Rattle.kaba_base.proofs.ListLemmas.{map_map}
use Rattle.java_print.specs.Layout.{tree_text}
use Rattle.java_core.specs.declared.Program.{Program}
use Rattle.java_core.specs.Programs.{program_of}
use Rattle.fact_model.specs.declared.facts.Facts.{Facts}
use Rattle.fact_model.specs.declared.sets.Table.{Table}
use Rattle.fact_model.specs.declared.sets.Lattice.{Lattice}
use Rattle.fact_model.specs.Concepts.{pair_of, IsLattice, AreMoreThan}
use Rattle.concept_build.specs.Laws.{ToldConcept, told}
use Rattle.concept_build.proofs.Uniqueness.{one_lattice, not_both}
use Rattle.flow_rules.specs.Facts.{TooMany, too_many}
use Rattle.flow_program.specs.Known.{AreProgramFacts}
use Rattle.flow_program.specs.Same.{AreSameFacts}
use Rattle.flow_program.proofs.OneAnswer.{same_facts}
use Rattle.hier_model.specs.Hierarchies.{Hierarchy}
use Rattle.hier_model.specs.Start.{start_of}
use Rattle.hier_model.specs.declared.edits.Edit.{Edit}
use Rattle.hier_model.specs.declared.edits.Edit.TheVariants as edit
use Rattle.hier_edit.specs.Applied.{outcome, applied}
use Rattle.hier_view.specs.Text.{hierarchy_text}
use Rattle.hier_view.specs.EditText.{nodes_text, edit_text}
use Rattle.hier_model.specs.declared.edits.Act.{Act}
use Rattle.hier_model.specs.declared.edits.Act.TheVariants as acts
use Rattle.hier_script.specs.Scripts.{History, unedited, kept, refusal, after_act, act_refusal, after_acts, refusals_from, after_edits, refusals_of}
use Rattle.hier_script.specs.Refusals.{broken_text}
use Rattle.hier_tree.specs.declared.Conflict.{Conflict}
use Rattle.hier_tree.specs.Trees.{Try, MakeOne, PutUnder, GrowthStep, GrowthEnd, Tree, Stuck, Grows, IsEditOf, try_of}
use Rattle.hier_tree.proofs.GrowLemmas.{one_tree}
use Rattle.hier_rules.specs.declared.broken.Broken.{Broken}
use Rattle.tree_merge.specs.declared.steps.TreeStep.{TreeStep}
use Rattle.tree_merge.specs.Logs.{steps_of, AreEdits}
use Rattle.kaba_top.specs.Logs.{conflict_text, log_text, no_tree_text}
use Rattle.edit_script.specs.declared.lines.Line.{Line}
use Rattle.std.proofs.lemmas.List.Elements.{All-head, All-tail}
use Rattle.write_model.specs.Written.{java_tree}
use Rattle.java_write.specs.Written.{IsWrittenText}
use Rattle.kaba_top.specs.declared.cause_words.Cause.TheVariants as cause
use Rattle.kaba_top.specs.CauseWords.{cause_text}
use Rattle.kaba_top.specs.Lines.{Says, GivesReply, line}
use Rattle.kaba_top.specs.TextFacts.{shown}
use Rattle.kaba_top.specs.FactsAnswers.{AnalysisAnswers, TableOf, LatticeOf, too_many_concepts}
use Rattle.kaba_top.specs.ScriptAnswers.{HasLattice, ScriptAnswers, bad_script, too_many_edits, edited, refusals}
use Rattle.kaba_top.specs.ScriptAnswers as script
use Rattle.kaba_top.specs.EditAnswers.{edit_status, ShowsHierarchy, EditOf}
use Rattle.kaba_top.specs.RegenAnswers.{IsRegeneration, RegenOf}
use Rattle.kaba_top.specs.OneAnswer.{AreOneKind}
use Rattle.kaba_top.proofs.SameSets.{one_points, one_set_rows, one_width, one_table}
use Rattle.kaba_top.proofs.SameHierarchies.{start_is}
use Rattle.kaba_top.proofs.SameSteps.{applied_is, grows_on}
use Rattle.kaba_top.proofs.SameWritten.{tree_is}
use Rattle.kaba_top.proofs.SameTexts.{table_text_is, lattice_text_is, lattice_json_is, hierarchy_text_is}
use Rattle.kaba_top.proofs.OneScript.{AreOneEdit, AreOneAct, AreOneList, one_script, one_count, no_bad_line, one_bad_line}

pub said : (n : ℕ) (x y : List ℕ) → x ≡ y → AreOneKind (Says n x) (Says n y)
said n x y q s t o p e f a b =
    record { status = a.status_is ∙ sym b.status_is; out = inl (a.out_is ∙ sym b.out_is); err = inl (a.err_is ∙ ap line q ∙ sym b.err_is) }

pub given : (n m : ℕ) (x y v w : List ℕ) → n ≡ m → x ≡ y → v ≡ w → AreOneKind (GivesReply n x v) (GivesReply m y w)
given n m x y v w k q r s t o p e f a b =
    record { status = a.status_is ∙ k ∙ sym b.status_is; out = inl (a.out_is ∙ q ∙ sym b.out_is); err = inl (a.err_is ∙ r ∙ sym b.err_is) }

no_some : {A : Type 0} {x : A} → ◌≡◌ {A = Option A} (Some x) None → ⊥
no_some e = cc e

-- ---- the facts of a program

module _ (J L : Facts → ℕ → List ℕ → List ℕ → Type 0) (one : (F G : Facts) → AreSameFacts F G → AreOneKind (J F) (L G)) where
  pub one_analysis : (p q : Program) → program_of p ≡ program_of q → AreOneKind (AnalysisAnswers J p) (AnalysisAnswers L q)
  one_analysis p q same s t o r e f (inl a) (inl b) =
      let over = same_Some (record { what = a.what; number = a.number }) (record { what = b.what; number = b.number })
      (sym a.over ∙ ap too_many same ∙ b.over) in
      said 67 (codes "too large: " ++ cause_text (cause.Limit a.what)) (codes "too large: " ++ cause_text (cause.Limit b.what))
      (ap (λ (z : TooMany). codes "too large: " ++ cause_text (cause.Limit z.what)) over) s t o r e f a.says b.says
  one_analysis p q same s t o r e f (inl a) (inr b) = absurd (no_some (sym a.over ∙ ap too_many same ∙ b.has.within.counts))
  one_analysis p q same s t o r e f (inr a) (inl b) = absurd (no_some (sym b.over ∙ ap too_many (sym same) ∙ a.has.within.counts))
  one_analysis p q same s t o r e f (inr a) (inr b) =
      one a.facts b.facts (same_facts (program_of q) a.facts b.facts (subst (λ z. AreProgramFacts z a.facts) same a.has) b.has) s t o r e f a.answers b.answers

-- ---- the table and the lattice

module _ {F G : Facts} (same : AreSameFacts F G) where
  pub one_table_text : AreOneKind (TableOf F) (TableOf G)
  one_table_text s t o p e f a b =
      given 0 0 _ _ [] [] refl (table_text_is same a.table b.table (one_table same a.table b.table a.is b.is)) refl s t o p e f a.gives b.gives

  -- lattices of the tables tell the same
  pub one_told : (a b : Table) (l m : Lattice) → a.rows.items ≡ b.rows.items → a.width ≡ b.width → IsLattice a.rows.items a.width l.concepts.items
      → IsLattice b.rows.items b.width m.concepts.items → map told l.concepts.items ≡ map told m.concepts.items
  one_told a b l m rows width h k =
      one_lattice b.rows.items b.width l.concepts.items m.concepts.items
      (subst (λ z. IsLattice z b.width l.concepts.items) rows (subst (λ z. IsLattice a.rows.items z l.concepts.items) width h)) k

  one_shown : (json : Bool) (l m : Lattice) → map told l.concepts.items ≡ map told m.concepts.items → shown json F l ≡ shown json G m
  one_shown true l m e = lattice_json_is same l m e
  one_shown false l m e = lattice_text_is l m e

  pub few : (bound : ℕ) (a b : Table) (m : Lattice) → a.rows.items ≡ b.rows.items → a.width ≡ b.width → AreMoreThan a.rows.items a.width bound
      → IsLattice b.rows.items b.width m.concepts.items → length m.concepts.items ≤ bound → ⊥
  few bound a b m rows width more h within =
      not_both b.rows.items b.width bound m.concepts.items h within
      (subst (λ z. AreMoreThan z b.width bound) rows (subst (λ z. AreMoreThan a.rows.items z bound) width more))

  pub one_lattice_text : (json : Bool) (bound : ℕ) → AreOneKind (LatticeOf json bound F) (LatticeOf json bound G)
  one_lattice_text json bound s t o p e f a b =
      let rows = one_table same a.table b.table a.is b.is in
      let width = one_width same a.table b.table a.is b.is in
      ⊎_elim
      (λ x. ⊎_elim
      (λ y. said 68 (too_many_concepts bound) (too_many_concepts bound) refl s t o p e f x.says y.says)
      (λ y. absurd (few bound a.table b.table y.lattice rows width x.more y.is y.within)) b.answers)
      (λ x. ⊎_elim
      (λ y. absurd (few bound b.table a.table x.lattice (sym rows) (sym width) y.more x.is x.within))
      (λ y. given 0 0 (shown json F x.lattice) (shown json G y.lattice) [] [] refl
      (one_shown json x.lattice y.lattice (one_told a.table b.table x.lattice y.lattice rows width x.is y.is)) refl s t o p e f x.gives y.gives) b.answers)
      a.answers

-- ---- a script

module _ {F G : Facts} (same : AreSameFacts F G) (bound : ℕ) (h : HasLattice bound F) (k : HasLattice bound G) where
  points : h.sets.points.items ≡ k.sets.points.items
  points = one_points same h.sets k.sets h.are_sets k.are_sets

  set_rows : h.sets.rows.items ≡ k.sets.rows.items
  set_rows = one_set_rows same h.sets k.sets h.are_sets k.are_sets

  rows : h.table.rows.items ≡ k.table.rows.items
  rows = one_table same h.table k.table h.is_table k.is_table

  tells : map told h.lattice.concepts.items ≡ map told k.lattice.concepts.items
  tells = one_told same h.table k.table h.lattice k.lattice rows (one_width same h.table k.table h.is_table k.is_table) h.is_lattice k.is_lattice

  pairs : map pair_of h.lattice.concepts.items ≡ map pair_of k.lattice.concepts.items
  pairs =
      sym (map_map (λ (z : ToldConcept). z.0) told h.lattice.concepts.items) ∙ ap (map (λ (z : ToldConcept). z.0)) tells
      ∙ map_map (λ (z : ToldConcept). z.0) told k.lattice.concepts.items

  pub start : script.start_of bound F h ≡ script.start_of bound G k
  start = (λ i. start_of F (rows i) (pairs i)) ∙ start_is same k.table.rows.items (map pair_of k.lattice.concepts.items)

  one_applied : (H : Hierarchy) (e f : Edit) → AreOneEdit e f → applied F h.sets H e ≡ applied G k.sets H f
  one_applied H e f one = applied_is same h.sets k.sets points set_rows H e ∙ ap (outcome G k.sets) (one G H)

  act_is : (y : History) (a b : Act) → AreOneAct a b → after_act F h.sets y a ≡ after_act G k.sets y b
  act_is y (acts.Edit e) (acts.Edit f) one = ap (kept y) (one_applied y.present e f one)
  act_is y (acts.Edit e) acts.Undo one = absurd one
  act_is y acts.Undo (acts.Edit f) one = absurd one
  act_is y acts.Undo acts.Undo one = refl

  refusal_is : (n : ℕ) (y : History) (a b : Act) → AreOneAct a b → act_refusal F h.sets n y a ≡ act_refusal G k.sets n y b
  refusal_is n y (acts.Edit e) (acts.Edit f) one = ap (refusal n) (one_applied y.present e f one)
  refusal_is n y (acts.Edit e) acts.Undo one = absurd one
  refusal_is n y acts.Undo (acts.Edit f) one = absurd one
  refusal_is n y acts.Undo acts.Undo one = refl

  after_is : (es fs : List Line) → AreOneList es fs → (y : History) → after_acts F h.sets y es ≡ after_acts G k.sets y fs
  after_is [] [] one y = refl
  after_is [] (f ∷ fs) one y = absurd one
  after_is (e ∷ es) [] one y = absurd one
  after_is (e ∷ es) (f ∷ fs) one y =
      ap (λ z. after_acts F h.sets z es) (act_is y e.act f.act one.1) ∙ after_is es fs one.2 (after_act G k.sets y f.act)

  refused_is : (es fs : List Line) → AreOneList es fs → (y : History) → refusals_from F h.sets y es ≡ refusals_from G k.sets y fs
  refused_is [] [] one y = refl
  refused_is [] (f ∷ fs) one y = absurd one
  refused_is (e ∷ es) [] one y = absurd one
  refused_is (e ∷ es) (f ∷ fs) one y =
      ap (λ n. act_refusal F h.sets n y e.act ++ refusals_from F h.sets (after_act F h.sets y e.act) es) one.0
      ∙ (λ i. refusal_is f.number y e.act f.act one.1 i ++ refusals_from F h.sets (act_is y e.act f.act one.1 i) es)
      ∙ ap (λ z. act_refusal G k.sets f.number y f.act ++ z) (refused_is es fs one.2 (after_act G k.sets y f.act))

  pub one_edited : (es fs : List Line) → AreOneList es fs → edited bound F h es ≡ edited bound G k fs
  one_edited es fs one =
      ap (λ H. after_edits F h.sets H es) start ∙ ap (λ (y : History). y.present) (after_is es fs one (unedited (script.start_of bound G k)))

  pub one_refusals : (es fs : List Line) → AreOneList es fs → refusals bound F h es ≡ refusals bound G k fs
  one_refusals es fs one = ap (λ H. refusals_of F h.sets H es) start ∙ refused_is es fs one (unedited (script.start_of bound G k))

  -- the steps of both are those of one
  pub steps_on : {H K : Hierarchy} → H ≡ K → {log : List GrowthStep} {end : GrowthEnd} → Grows F h.sets H log end → Grows G k.sets K log end
  steps_on e {log} {end} g = subst (λ z. Grows G k.sets z log end) e (grows_on same h.sets k.sets points set_rows g)

  -- and from the start they come to one end
  pub tree_of_start : {log other : List GrowthStep} {end end2 : GrowthEnd} → Grows F h.sets (script.start_of bound F h) log end
      → Grows G k.sets (script.start_of bound G k) other end2 → (log ≡ other) × (end ≡ end2)
  tree_of_start {log} {other} {end} {end2} a b = one_tree G k.sets (script.start_of bound G k) log other end end2 (steps_on start a) b

module _ {F G : Facts} (same : AreSameFacts F G) (bound : ℕ) (text : List ℕ) (A : HasLattice bound F → List Line → ℕ → List ℕ → List ℕ → Type 0)
    (B : HasLattice bound G → List Line → ℕ → List ℕ → List ℕ → Type 0)
    (one : (h : HasLattice bound F) (k : HasLattice bound G) (es fs : List Line) → AreOneList es fs → AreOneKind (A h es) (B k fs)) where
  over : (t : Table) (k : HasLattice bound G) → t.rows.items ≡ k.table.rows.items → t.width ≡ k.table.width → AreMoreThan t.rows.items t.width bound → ⊥
  over t k rows width more = few same bound t k.table k.lattice rows width more k.is_lattice k.within

  over_back : (t : Table) (h : HasLattice bound F) → h.table.rows.items ≡ t.rows.items → h.table.width ≡ t.width → AreMoreThan t.rows.items t.width bound → ⊥
  over_back t h rows width more = few same bound t h.table h.lattice (sym rows) (sym width) more h.is_lattice h.within

  pub one_scripted : AreOneKind (ScriptAnswers bound text F A) (ScriptAnswers bound text G B)
  one_scripted s t o p e f (inl (inl a)) (inl (inl b)) =
      said 68 (too_many_concepts bound) (too_many_concepts bound) refl s t o p e f a.many.says b.many.says
  one_scripted s t o p e f (inl (inl a)) (inl (inr b)) =
      absurd (over a.table b.has (one_table same a.table b.has.table a.is b.has.is_table) (one_width same a.table b.has.table a.is b.has.is_table) a.many.more)
  one_scripted s t o p e f (inl (inl a)) (inr b) =
      absurd (over a.table b.has (one_table same a.table b.has.table a.is b.has.is_table) (one_width same a.table b.has.table a.is b.has.is_table) a.many.more)
  one_scripted s t o p e f (inl (inr a)) (inl (inl b)) =
      absurd (over_back b.table a.has (one_table same a.has.table b.table a.has.is_table b.is)
      (one_width same a.has.table b.table a.has.is_table b.is) b.many.more)
  one_scripted s t o p e f (inl (inr a)) (inl (inr b)) = ⊎_elim
      (λ x. ⊎_elim
      (λ y. said 69 (bad_script x.line) (bad_script y.line) (ap bad_script (one_bad_line text x.line y.line x.first y.first)) s t o p e f x.says y.says)
      (λ y. absurd (no_bad_line text x.line y.many.edits x.first y.many.are)) b.fault)
      (λ x. ⊎_elim
      (λ y. absurd (no_bad_line text y.line x.many.edits y.first x.many.are))
      (λ y. said 67 too_many_edits too_many_edits refl s t o p e f x.says y.says) b.fault)
      a.fault
  one_scripted s t o p e f (inl (inr a)) (inr b) = ⊎_elim
      (λ x. absurd (no_bad_line text x.line b.edits x.first b.are))
      (λ x. let n = one_count x.many.edits b.edits (one_script text x.many.edits b.edits x.many.are b.are) in absurd (omega (arith, n, x.many.many, b.few)))
      a.fault
  one_scripted s t o p e f (inr a) (inl (inl b)) =
      absurd (over_back b.table a.has (one_table same a.has.table b.table a.has.is_table b.is)
      (one_width same a.has.table b.table a.has.is_table b.is) b.many.more)
  one_scripted s t o p e f (inr a) (inl (inr b)) = ⊎_elim
      (λ y. absurd (no_bad_line text y.line a.edits y.first a.are))
      (λ y. let n = one_count y.many.edits a.edits (one_script text y.many.edits a.edits y.many.are a.are) in absurd (omega (arith, n, y.many.many, a.few)))
      b.fault
  one_scripted s t o p e f (inr a) (inr b) =
      one a.has b.has a.edits b.edits (one_script text a.edits b.edits a.are b.are) s t o p e f a.answers b.answers

module _ {F G : Facts} (same : AreSameFacts F G) (bound : ℕ) (text : List ℕ) where
  pub one_edit_text : AreOneKind (EditOf bound text F) (EditOf bound text G)
  one_edit_text =
      one_scripted same bound text (ShowsHierarchy bound F) (ShowsHierarchy bound G)
      (λ h k es fs one. let lines = one_refusals same bound h k es fs one in
      given (edit_status (refusals bound F h es)) (edit_status (refusals bound G k fs)) (hierarchy_text F (edited bound F h es))
      (hierarchy_text G (edited bound G k fs)) (refusals bound F h es) (refusals bound G k fs) (ap edit_status lines)
      (ap (hierarchy_text F) (one_edited same bound h k es fs one) ∙ hierarchy_text_is same (edited bound G k fs)) lines)

-- ---- the steps to a tree

-- what a try is written as
abbrev try_text : Try → List ℕ
try_text (MakeOne nodes) = codes "merge" ++ nodes_text nodes
try_text (PutUnder n p) = edit_text (edit.Under n p)

tried_text : (e : Edit) → IsEditOf (try_of e) e → edit_text e ≡ try_text (try_of e)
tried_text (edit.Merge set) h = refl
tried_text (edit.Under n p) h = refl
tried_text (edit.Move c n) h = absurd h
tried_text (edit.TypeName n name) h = absurd h
tried_text (edit.MemberName c name) h = absurd h
tried_text (edit.Drop n) h = absurd h

abbrev step_line : GrowthStep → List ℕ
step_line s = codes "tree " ++ (conflict_text s.conflict ++ (codes ": " ++ (try_text s.try ++ 10 ∷ [])))

logged : (log : List TreeStep) → AreEdits log → log_text log ≡ flat_map step_line (steps_of log)
logged [] h = refl
logged (s ∷ log) h =
    let first = tried_text s.edit (All-head (λ (z : TreeStep). IsEditOf (try_of z.edit) z.edit) s log h) in
    let rest = logged log (All-tail (λ (z : TreeStep). IsEditOf (try_of z.edit) z.edit) s log h) in
    λ i. (codes "tree " ++ (conflict_text s.conflict ++ (codes ": " ++ (first i ++ 10 ∷ [])))) ++ rest i

one_log : (log other : List TreeStep) → AreEdits log → AreEdits other → steps_of log ≡ steps_of other → log_text log ≡ log_text other
one_log log other h k e = logged log h ∙ ap (flat_map step_line) e ∙ sym (logged other k)

pub trees_same : {H K : Hierarchy} → Tree H ≡ Tree K → H ≡ K
trees_same e = cc e

tree_stuck : {H K : Hierarchy} {c : Conflict} {b : Broken} → Tree H ≡ Stuck K c b → ⊥
tree_stuck e = cc e

conflicts_same : {H K : Hierarchy} {c d : Conflict} {b b2 : Broken} → Stuck H c b ≡ Stuck K d b2 → c ≡ d
conflicts_same e = cc e

broken_same : {H K : Hierarchy} {c d : Conflict} {b b2 : Broken} → Stuck H c b ≡ Stuck K d b2 → b ≡ b2
broken_same e = cc e

-- the texts of one tree are one
pub one_written : (F G : Facts) → AreSameFacts F G → (p q : Program) → program_of p ≡ program_of q → (H K : Hierarchy) → H ≡ K → (v w : List ℕ)
    → IsWrittenText p F H v → IsWrittenText q G K w → v ≡ w
one_written F G same p q e H K t v w a b =
    a.layout
    ∙ ap (λ z. encode_utf8_all (tree_text z)) (tree_is same H (program_of p) ∙ (λ i. java_tree (e i) G (t i)))
    ∙ sym b.layout

module _ (p q : Program) (same_program : program_of p ≡ program_of q) {F G : Facts} (same : AreSameFacts F G) (bound : ℕ) (text : List ℕ) where
  module _ (h : HasLattice bound F) (k : HasLattice bound G) (es fs : List Line) (one : AreOneList es fs) where
    ended : {log other : List GrowthStep} {end end2 : GrowthEnd} → Grows F h.sets (edited bound F h es) log end
        → Grows G k.sets (edited bound G k fs) other end2
        → (log ≡ other) × (end ≡ end2)
    ended {log} {other} {end} {end2} a b =
        one_tree G k.sets (edited bound G k fs) log other end end2 (steps_on same bound h k (one_edited same bound h k es fs one) a) b

    one_tree_text : AreOneKind (IsRegeneration p bound F h es) (IsRegeneration q bound G k fs)
    one_tree_text s t o r e f (inl a) (inl b) =
        let lines = one_refusals same bound h k es fs one in
        let both = ended a.is.grows b.is.grows in
        let log = one_log a.log b.log a.is.edits b.is.edits both.0 in
        given (edit_status (refusals bound F h es)) (edit_status (refusals bound G k fs)) a.text b.text (refusals bound F h es ++ log_text a.log)
        (refusals bound G k fs ++ log_text b.log) (ap edit_status lines)
        (one_written F G same p q same_program a.tree b.tree (trees_same both.1) a.text b.text a.written b.written)
        (λ i. lines i ++ log i) s t o r e f a.gives b.gives
    one_tree_text s t o r e f (inl a) (inr b) = absurd (tree_stuck (ended a.is.grows b.ends.grows).1)
    one_tree_text s t o r e f (inr a) (inl b) = absurd (tree_stuck (sym (ended a.ends.grows b.is.grows).1))
    one_tree_text s t o r e f (inr a) (inr b) =
        let lines = one_refusals same bound h k es fs one in
        let both = ended a.ends.grows b.ends.grows in
        let log = one_log a.fault.log.items b.fault.log.items a.ends.edits b.ends.edits both.0 in
        let conflict = conflicts_same both.1 in
        let broken = broken_same both.1 in
        given 5 5 [] [] (refusals bound F h es ++ (log_text a.fault.log.items ++ line (no_tree_text a.fault)))
        (refusals bound G k fs ++ (log_text b.fault.log.items ++ line (no_tree_text b.fault))) refl refl
        (λ i. lines i ++ (log i ++ line (codes "no tree: " ++ (conflict_text (conflict i) ++ (codes " " ++ broken_text (broken i)))))) s t o r e f
        a.gives b.gives

  pub one_regen_text : AreOneKind (RegenOf bound text p F) (RegenOf bound text q G)
  one_regen_text = one_scripted same bound text (IsRegeneration p bound F) (IsRegeneration q bound G) one_tree_text
