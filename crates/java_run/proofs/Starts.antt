-- The start of a run, and its end.
use Rattle.std.proofs.Common.{◌≡◌, ℕ, ◌+◌, ◌-◌, ◌≤◌, add-zero, List, map, Option, Some, None, refl, sym, ap, ◌∙◌, subst, arith}
use Rattle.std.specs.Prelude.{◌≢◌, string_bytes}
use Rattle.std.specs.declared.string.String.{String}
use Rattle.std.specs.declared.alloc.Global.{Global}
use Rattle.std.specs.Option.{option_map, option_and_then}
use Rattle.kaba_base.proofs.ListLemmas.{map_map}
use Rattle.java_core.specs.Trees.{Sts}
use Rattle.java_core.specs.Programs.{Plain}
use Rattle.java_core.specs.Formed.{IsFormed}
use Rattle.java_core.specs.Typing.{IsTyped}
use Rattle.java_meaning.specs.Moment.{Body, Wrong, stop}
use Rattle.java_meaning.specs.Moment as meaning
use Rattle.java_meaning.specs.Languages.{body_of, body_with, run}
use Rattle.java_meaning.proofs.TypedPrograms.{never_wrong}
use Rattle.java_meaning.proofs.Depth.{going_spent}
use Rattle.run_code.specs.Machine.{BodyEntry, Tables, Config, comes, Ends, ends_so, is_wrong, first_config}
use Rattle.run_code.specs.Fits.{FitsProgram}
use Rattle.run_code.proofs.Runs.{machine_runs}
use Rattle.run_state.specs.Words.{units_of}
use Rattle.run_state.specs.declared.machine.Machine.{Machine}
use Rattle.run_state.specs.declared.machine.Ending.{Ending}
use Rattle.run_state.specs.declared.machine.Ending.TheVariants.{Stuck}
use Rattle.run_state.specs.Run.{state_of, end_of}
use Rattle.java_run.specs.declared.runs.Outcome as given
use Rattle.java_run.specs.declared.runs.End.{End}
use Rattle.java_run.specs.declared.runs.End.TheVariants as ends
use Rattle.java_run.specs.Outcomes as outcomes
use Rattle.java_run.specs.Outcomes.{meant, IsOutcomeOf}

module _ (P : Plain) (formed : IsFormed P) where
  -- the method that a run begins with has a body
  pub main_body : (b : Body) × (body_of P P.main ≡ Some b)
  main_body = found formed.main.body refl
    where
      found : (o : Option Sts) → formed.main.body ≡ o → (b : Body) × (body_of P P.main ≡ Some b)
      found None e =
          let s = ((formed.methods P.main formed.main formed.main_stands).bodyless e).0 in
          let t = formed.main_is.static in
          absurd (cc)
      found (Some xs) e = (
        body_with P.main formed.main xs,
        ap (λ o. option_and_then (λ k. option_map (λ ys. body_with P.main k ys) k.body) o) formed.main_stands
            ∙ ap (option_map (λ ys. body_with P.main formed.main ys)) e,
      )

  -- its code begins somewhere
  pub main_begins : (T : Tables) → FitsProgram P T → (e : BodyEntry) × (T.entry P.main ≡ Some e)
  main_begins T fits = let m = main_body in let h = fits.body P.main m.0 m.1 in (h.entry, h.is)

  -- what the machine comes to is what the run comes to, unless that is Wrong
  pub runs_so : (T : Tables) → FitsProgram P T → (words : List (List ℕ)) (n : ℕ) (e : BodyEntry) (c : Config) (k : ℕ) (o : meaning.Outcome)
      → T.entry P.main ≡ Some e → c ≡ first_config P e words n
      → ((m : ℕ) → comes P T (k + m) c ≡ o) → (run P words n).end ≢ Wrong → run P words n ≡ o
  runs_so T fits words n e c k o at is h right = by (machine_runs P formed T fits words n main_body.0 e main_body.1 at)
    where
      by : Ends P T (run P words n) (first_config P e words n) → run P words n ≡ o
      by (ends_so m g) =
          sym (g k) ∙ ap (λ j. comes P T j (first_config P e words n)) (let z : m + k ≡ k + m = omega arith in z) ∙ ap (comes P T (k + m)) (sym is) ∙ h m
      by (is_wrong w) = absurd (right w)

module _ (P : Plain) (words : List (String Global)) (bound : ℕ) (last : Machine) (e : Ending) where
  -- where the machine stops, the meaning does
  pub meant_so : IsFormed P → IsTyped P → (Q : Plain) (T : Tables) → FitsProgram P T → (n : BodyEntry) (c : Config) → T.entry P.main ≡ Some n
      → c ≡ first_config P n (map (λ w. units_of (string_bytes w)) words) bound
      → Q ≡ P → ((k : ℕ) × ((m : ℕ) → comes Q T (k + m) c ≡ stop (end_of e) (state_of last))) → meant P (map string_bytes words) bound
      ≡ stop (end_of e) (state_of last)
  unfolding meant
  meant_so formed typed Q T fits n c at is q g =
      let h : (k : ℕ) × ((m : ℕ) → comes P T (k + m) c ≡ stop (end_of e) (state_of last)) =
      subst (λ z. (k : ℕ) × ((m : ℕ) → comes z T (k + m) c ≡ stop (end_of e) (state_of last))) q g in
      ap (λ l. run P l bound) (map_map units_of string_bytes words)
      ∙ runs_so P formed T fits (map (λ w. units_of (string_bytes w)) words) bound n c h.0 _ at is h.1 (never_wrong P formed typed (map (λ w. units_of
      (string_bytes w)) words) bound)

  pub never_stuck : IsFormed P → IsTyped P → meant P (map string_bytes words) bound ≡ stop (end_of e) (state_of last) → e ≢ Stuck
  unfolding meant
  never_stuck formed typed h z = never_wrong P formed typed (map units_of (map string_bytes words)) bound (ap (λ o. o.end) h ∙ ap end_of z)

  pub outcome_so : (o : given.Outcome) → meant P (map string_bytes words) bound ≡ stop (end_of e) (state_of last) → last.left ≤ bound → o.out ≡ last.out
      → outcomes.end_of o.end ≡ end_of e → o.used ≡ bound - last.left
      → IsOutcomeOf P (map string_bytes words) bound o
  outcome_so o h le d f g = record {
    out = ap (λ v. v.items) d ∙ sym (ap (λ y. y.out) h);
    end = f ∙ sym (ap (λ y. y.end) h);
    used = ap (λ k. k + (meant P (map string_bytes words) bound).left) g ∙ ap (λ k. bound - last.left + k) (ap (λ y. y.left) h)
        ∙ (let z : bound - last.left + last.left ≡ bound = omega (arith, le) in z);
  }

module _ (P : Plain) (words : List (List ℕ)) (bound : ℕ) where
  -- a run that goes on used its whole bound
  pub going_used : (o : given.Outcome) → IsOutcomeOf P words bound o → o.end ≡ ends.Going → o.used ≡ bound
  unfolding meant
  going_used o is e =
      let none : (meant P words bound).left ≡ 0 = going_spent P (map units_of words) bound (sym is.end ∙ ap outcomes.end_of e) in
      sym (add-zero o.used) ∙ ap (λ k. o.used + k) (sym none) ∙ is.used

  -- two outcomes of one run are the same
  pub same_out : (a b : given.Outcome) → IsOutcomeOf P words bound a → IsOutcomeOf P words bound b → a.out.items ≡ b.out.items
  same_out a b x y = x.out ∙ sym y.out

  same_ends : (a b : End) → outcomes.end_of a ≡ outcomes.end_of b → a ≡ b
  same_ends ends.Ended ends.Ended e = refl
  same_ends (ends.Fault k) (ends.Fault j) e = ap ends.Fault (cc e)
  same_ends ends.Going ends.Going e = refl
  same_ends ends.Ended (ends.Fault k) e = absurd (cc e)
  same_ends ends.Ended ends.Going e = absurd (cc e)
  same_ends (ends.Fault k) ends.Ended e = absurd (cc e)
  same_ends (ends.Fault k) ends.Going e = absurd (cc e)
  same_ends ends.Going ends.Ended e = absurd (cc e)
  same_ends ends.Going (ends.Fault k) e = absurd (cc e)

  pub same_end : (a b : given.Outcome) → IsOutcomeOf P words bound a → IsOutcomeOf P words bound b → a.end ≡ b.end
  same_end a b x y = same_ends a.end b.end (x.end ∙ sym y.end)

  pub same_used : (a b : given.Outcome) → IsOutcomeOf P words bound a → IsOutcomeOf P words bound b → a.used ≡ b.used
  same_used a b x y = let e = x.used ∙ sym y.used in omega (arith, e)
