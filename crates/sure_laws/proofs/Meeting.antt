-- What a run of a typed program meets has a site, and it is in the set of its spot.
use Rattle.std.proofs.Common.{◌≡◌, ℕ, List, Option, Some, None, refl, sym, ap, ◌∙◌, subst, ⊎_elim}
use Rattle.std.specs.Prelude.{◌||◌, ◌&&◌, ◌++◌, Bool, true, Contains, slice_get}
use Rattle.std.specs.Option.{option_map_or, is_some}
use Rattle.std.proofs.lemmas.Bool.{false≢true, and_parts, or_cases}
use Rattle.java_core.specs.Trees.{Ex, cast}
use Rattle.java_core.specs.Programs.{Plain, PlainMethod}
use Rattle.java_core.specs.Types.{or_nothing, types_of, env_of}
use Rattle.java_core.specs.Typing.{IsTyped, IsTypedMethod}
use Rattle.java_core.specs.Formed.{IsFormed}
use Rattle.java_meaning.specs.Moment.{Value, Object, Spot as Seen, bound, self_of, touched, tested, ran, Body}
use Rattle.java_meaning.specs.Languages.{body_with}
use Rattle.java_meaning.specs.Watched.{Eyes}
use Rattle.java_meaning.proofs.Moves.{then_some}
use Rattle.java_meaning.proofs.Calls.{mapped_some}
use Rattle.fact_model.specs.declared.facts.Facts.{Facts}
use Rattle.flow_rules.specs.Labels.{label_sts}
use Rattle.flow_rules.specs.Operands.{type_in}
use Rattle.flow_rules.specs.Parts.{parts_body, parts_of}
use Rattle.flow_rules.specs.Lists.{site_in}
use Rattle.flow_rules.specs.Facts.{numbers, IsFactsOf}
use Rattle.flow_laws.specs.cover.Families.{AreIncluded}
use Rattle.flow_laws.specs.cover.Slotted.{HaveSlots}
use Rattle.flow_laws.specs.cover.Covers.{Sets, IsClosed, operand_at, passes, point_sites, tested_by, called_on, labelled_with, labelled_body}
use Rattle.flow_laws.proofs.cover.Covered.{all_kinded}
use Rattle.flow_laws.proofs.cover.Labelled.{sts_same, typed_sts_same}
use Rattle.flow_laws.proofs.cover.Included.{MadeAs, accessed_as, tests_as, finds_as, strictly, typed_sites, family}
use Rattle.flow_laws.proofs.cover.Escapes.{eyed, seen_by, code_included, closed_body, family_covers, kinded_closely}
use Rattle.sure_laws.specs.Laws.{IsInSet, IsMetIn, IsValueMetIn, MeetInSets, RunsMeetInSets}
use Rattle.sure_laws.specs.Events.{recording, recorded}
use Rattle.sure_laws.proofs.Kept.{Reached}
use Rattle.sure_laws.proofs.Recorded.{IsIn, AreIn, recorded_in}
use Rattle.sure_laws.proofs.Shapes.{some_of, shape, variable_there}
use Rattle.sure_laws.proofs.Families.{sited, is_number_cast, cast_there, shapes}
use Rattle.sure_laws.proofs.Shaped.{included_sts}

pub have_slots : (P : Plain) → IsFormed P → HaveSlots P
unfolding HaveSlots
have_slots P formed m k e s = (formed.methods m k e).slotted s

module _ (P : Plain) (F : Facts) (S : Sets) (formed : IsFormed P) (typed : IsTyped P) (facts : IsFactsOf P F) (closed : IsClosed F S) where
  abbrev eyes : Eyes
  eyes = seen_by P F S (shapes P F) recording.note

  all_shaped : AreIncluded (eyed P F S eyes) (MadeAs P F S) (shapes P F)
  unfolding IsClosed IsTypedMethod parts_of
  all_shaped = code_included P F S (shapes P F) eyes (λ c h e xs exs.
      included_sts (closed_body P F S closed facts (all_kinded P F formed typed (have_slots P formed) facts) eyes c h e) formed (have_slots P formed)
      (ap is_some exs)
      (label_sts 0 xs) (typed_sts_same P (env_of c h) (sts_same 0 xs) (typed.methods c h e xs exs))
      (λ p d. subst (λ z. Contains (parts_body P (type_in P c h) c h z) p) (sym exs) d))

  words_shaped : (b : Body) → labelled_body P F S P.main ≡ Some b → (shapes P F).spot (bound b.env.body 0) None ≡ true
  unfolding labelled_body
  words_shaped b e =
      let h = then_some (labelled_with P F S P.main) (slice_get P.methods P.main) b e in
      let y = mapped_some (λ xs. body_with P.main h.0 (label_sts 0 xs)) h.0.body b h.2 in
      subst (λ z. (shapes P F).spot (bound z.env.body 0) None ≡ true) y.2
      (ap (λ z. option_map_or (λ (k : PlainMethod). shape (or_nothing (slice_get (types_of (k.params ++ k.locals)) 0)) (sited P None)) z true)
      formed.main_stands
      ∙ ap (λ z. shape (or_nothing z) (sited P None)) (variable_there formed.main 0 _ (ap (λ z. slice_get z 0) formed.main_is.params)))

  -- each object that a run looks at has the shape of its spot, and is in its typed set
  pub shapes_in : (words : List (List ℕ)) (n : ℕ) → AreIn P F S (shapes P F) (recorded P words n).met
  shapes_in = recorded_in P F S (shapes P F) (family_covers P F S (shapes P F) recording.note all_shaped words_shaped)

  pub typed_in : (words : List (List ℕ)) (n : ℕ) → AreIn P F S (family P F S) (recorded P words n).met
  typed_in = recorded_in P F S (family P F S) (kinded_closely P F facts (all_kinded P F formed typed (have_slots P formed) facts) S closed recording.note)

module _ (P : Plain) (F : Facts) (S : Sets) where
  in_set : (X Y : ℕ → Bool) (o : Option ℕ) → ((s : ℕ) → X s ≡ true → Y s ≡ true) → strictly P F S X (site_in (numbers P) o) ≡ true → IsInSet P F S Y o
  in_set X Y o f h = go (site_in (numbers P) o) refl h
    where
      go : (z : Option ℕ) → site_in (numbers P) o ≡ z → strictly P F S X z ≡ true → IsInSet P F S Y o
      go None e h = absurd (false≢true h)
      go (Some s) e h = record { site = s; is = e; there = f s h }

  -- what is tested has a site
  pub tested_sited : (m : ℕ) (d : Ex) (b : Bool) (o : Option ℕ) → Reached (tested m d b) → (sited P o || is_number_cast d) && cast_there P F m d ≡ true
      → sited P o ≡ true
  tested_sited m d b o r h = ⊎_elim (λ e. e) (λ e. absurd (no_number d r e)) (or_cases (sited P o) (is_number_cast d)
      (and_parts (sited P o || is_number_cast d) (cast_there P F m d) h).0)
    where
      no_number : (d : Ex) → Reached (tested m d b) → is_number_cast d ≡ true → ⊥
      no_number (cast t n u e) r h = false≢true (sym r ∙ h)
      no_number e r h = false≢true h

  tested_in : (m : ℕ) (d : Ex) (b : Bool) (o : Option ℕ) → sited P o ≡ true → passes (typed_sites P F S (tested m d b)) (site_in (numbers P) o) ≡ true
      → IsInSet P F S (point_sites P F S (operand_at P m (tested_by P F S d))) o
  tested_in m d b o i h =
      let s = some_of (site_in (numbers P) o) i in
      record {
        site = s.0;
        is = s.1;
        there = (and_parts (point_sites P F S (operand_at P m (tested_by P F S d)) s.0) (tests_as P F S d b s.0)
            (subst (λ z. passes (typed_sites P F S (tested m d b)) z ≡ true) s.1 h)).0;
      }

  pub met_in : (p : Seen) (o : Option ℕ) → (family P F S).spot p o ≡ true → (shapes P F).spot p o ≡ true → Reached p → IsMetIn P F S p o
  met_in (tested m d b) o h g r = tested_in m d b o (tested_sited m d b o r g) h
  met_in (ran m d c) o h g r = in_set (typed_sites P F S (ran m d c)) (point_sites P F S (operand_at P m (called_on P F S d))) o
      (λ s e. (and_parts (point_sites P F S (operand_at P m (called_on P F S d)) s) (finds_as P F S m d c s) e).0) h
  met_in (self_of c) o h g r = in_set (typed_sites P F S (self_of c)) (typed_sites P F S (self_of c)) o (λ s e. e) h
  met_in (touched m e f) o h g r = in_set (typed_sites P F S (touched m e f)) (point_sites P F S (operand_at P m e)) o
      (λ s y. (and_parts (point_sites P F S (operand_at P m e) s) (accessed_as P F S m e f) y).0) h
  met_in p o h g r = tt

  value_met_in : (v : Value) (p : Seen) (o : Option ℕ) → IsIn P F S (family P F S) v p o → IsIn P F S (shapes P F) v p o → IsValueMetIn P F S v p o
  value_met_in (Object a) p o h g = met_in p o h.0 g.0 h.1
  value_met_in v p o h g = tt

-- what runs meet is in the sets
pub meet_in_sets : RunsMeetInSets
unfolding RunsMeetInSets MeetInSets
meet_in_sets P F formed typed facts = λ S closed words n x c.
    value_met_in P F S x.value x.spot x.site (typed_in P F S formed typed facts closed words n x c) (shapes_in P F S formed typed facts closed words n x c)
