-- What the record of a run tells: each object that is looked at has a place in the typed sets of its spot.
use Rattle.std.proofs.Common.{◌≡◌, ℕ, List, [], ◌∷◌, Option, Some, None, refl, sym, ap, subst, ⊎_elim, arith}
use Rattle.std.specs.Prelude.{◌≢◌, true, false, Contains, slice_get}
use Rattle.std.specs.Option.{option_map, option_map_or, option_and_then}
use Rattle.std.proofs.lemmas.Bool.{false≢true}
use Rattle.std.proofs.lemmas.List.Elements.{Contains-append_cases}
use Rattle.java_core.specs.Trees.{Sts}
use Rattle.java_core.specs.Programs.{Plain, PlainMethod}
use Rattle.java_core.specs.Classes.{slot_of, lookup, super_method}
use Rattle.java_core.specs.Types.{class_of, field_in}
use Rattle.java_core.proofs.Retagging.{static_same}
use Rattle.java_meaning.specs.Moment.{Value, Object, Cell, Spot, Met, Escaped, Body}
use Rattle.java_meaning.specs.Meaning.{run_in}
use Rattle.java_meaning.specs.Languages.{body_with, body_of, language_of}
use Rattle.java_meaning.specs.Watched.{RetaggedBody, s_no_body, s_body, IsUnwatched, watched_with}
use Rattle.java_meaning.proofs.Plain.{run_same}
use Rattle.fact_model.specs.declared.facts.Facts.{Facts}
use Rattle.flow_rules.specs.Labels.{label_sts}
use Rattle.flow_laws.proofs.cover.Labelled.{sts_same}
use Rattle.flow_rules.proofs.Listed.{one_from}
use Rattle.flow_laws.specs.cover.Families.{Family}
use Rattle.flow_laws.specs.cover.Covers.{Sets}
use Rattle.flow_laws.specs.cover.Covers.{labelled_body as watched_body, is_seen}
use Rattle.flow_laws.proofs.cover.Escapes.{seen_by}
use Rattle.sure_laws.specs.Laws.{IsRunRecorded}
use Rattle.sure_laws.specs.Events.{site_of, recording, labelled_body, recorded}
use Rattle.sure_laws.proofs.Kept.{Reached, IsKept, run_keeps}

module _ (P : Plain) (F : Facts) (S : Sets) (V : Family) where
  -- an object that is looked at is in the set that the family has for its spot
  abbrev pub IsIn : Value → Spot → Option ℕ → Type 0
  IsIn (Object a) p o = (V.spot p o ≡ true) × Reached p
  IsIn v p o = Unit {0}

  abbrev pub AreIn : List Met → Type 0
  AreIn m = (x : Met) → Contains m x → IsIn x.value x.spot x.site

  seen_in : (p : Spot) (v : Value) (h : List Cell) → is_seen P F S (V.spot p) v h ≡ true → Reached p → IsIn v p (site_of h v)
  seen_in p (Object a) h e r = (go (slice_get h a) e, r)
    where
      go : (z : Option Cell) → option_map_or (λ c. V.spot p c.site) z false ≡ true → V.spot p (option_and_then (λ (c : Cell). c.site) z) ≡ true
      go None e = absurd (false≢true e)
      go (Some c) e = e
  seen_in p v h e r = tt

  keeps : IsKept (watched_with P (watched_body P F S) (seen_by P F S V recording.note)) AreIn
  keeps = record {
    none = λ x c. absurd (omega (arith, c.1));
    note = λ p v h m e r k x c. ⊎_elim (k x)
        (λ d. subst (λ (z : Met). IsIn z.value z.spot z.site) (one_from _ x d) (seen_in p v h e r))
        (Contains-append_cases m (record { spot = p; value = v; site = site_of h v } ∷ []) x c);
    note_all = λ b vs h m e k. k;
  }

  same_bodies : watched_body P F S ≡ labelled_body P
  unfolding watched_body labelled_body
  same_bodies = refl

  -- each object that the run looks at is in the set of its spot, where no run under the watch of the family escapes
  pub recorded_in : ((words : List (List ℕ)) (n : ℕ)
      → (run_in (watched_with P (watched_body P F S) (seen_by P F S V recording.note)) P.main words n).end ≢ Escaped)
      → (words : List (List ℕ)) (n : ℕ) → AreIn (recorded P words n).met
  unfolding recorded
  recorded_in never words n =
      subst (λ (b : ℕ → Option Body). AreIn (run_in (watched_with P b recording) P.main words n).met) same_bodies
      (run_keeps (watched_with P (watched_body P F S) (seen_by P F S V recording.note)) AreIn keeps P.main words n (never words n))

found_retagged : (P : Plain) (m : ℕ) → RetaggedBody (labelled_body P m) (body_of P m)
unfolding labelled_body
found_retagged P m = go (slice_get P.methods m)
  where
    code : (k : PlainMethod) (b : Option Sts) → RetaggedBody (option_map (λ xs. body_with m k (label_sts 0 xs)) b) (option_map (λ xs. body_with m k xs) b)
    code k None = s_no_body
    code k (Some xs) = s_body (sts_same 0 xs)

    go : (o : Option PlainMethod) → RetaggedBody (option_and_then (λ k. option_map (λ xs. body_with m k (label_sts 0 xs)) k.body) o)
        (option_and_then (λ k. option_map (λ xs. body_with m k xs) k.body) o)
    go None = s_no_body
    go (Some k) = code k k.body

found_body : (P : Plain) (o : Option ℕ) → RetaggedBody (option_and_then (labelled_body P) o) (option_and_then (body_of P) o)
found_body P None = s_no_body
found_body P (Some m) = found_retagged P m

-- the language of the record is that of the program, but for the tags of its bodies and for its record
only_recorded : (P : Plain) → IsUnwatched (watched_with P (labelled_body P) recording) (language_of P)
only_recorded P = record {
  field = λ g e d x r. ap (λ z. field_in P z x) (sym (static_same P g r));
  slot = λ g e d x r. ap (λ z. option_and_then (λ c. slot_of P c x) (class_of z)) (sym (static_same P g r));
  typed_field = λ f. refl;
  index = λ c f. refl;
  fresh = λ c. refl;
  maker = λ c. refl;
  body = λ c s. found_body P (lookup P c s);
  static_body = found_retagged P;
  super_body = λ c x. found_body P (super_method P c x);
  is_sub = λ s t. refl;
  statics = refl;
  sees = λ p v hs. refl;
  sees_all = λ b vs hs. refl;
  note = λ p v hs m. refl;
  note_all = λ b vs hs m. refl;
}

-- a run that is recorded is the run, but for its record
pub run_recorded : IsRunRecorded
unfolding IsRunRecorded recorded
run_recorded P words n = run_same (watched_with P (labelled_body P) recording) (language_of P) (only_recorded P) (λ p v h. refl) (λ b vs h. refl) P.main words n
