-- A run of a program with labels, a watch and a record is the run of the program, unless it escapes.
use Rattle.std.proofs.Common.{ℕ, List, Option, Some, None, refl, sym, ap}
use Rattle.std.specs.Option.{option_and_then}
use Rattle.java_core.specs.Trees.{Sts}
use Rattle.java_core.specs.Programs.{Plain}
use Rattle.java_core.specs.Classes.{slot_of, lookup, super_method}
use Rattle.java_core.specs.Types.{class_of, field_in}
use Rattle.java_core.proofs.Retagging.{static_same}
use Rattle.java_meaning.specs.Languages.{body_of, language_of, run}
use Rattle.java_meaning.specs.Moment.{Body}
use Rattle.java_meaning.specs.Meaning.{run_in}
use Rattle.java_meaning.specs.Watched.{RetaggedBody, s_no_body, IsUnwatched, Eyes, coded_body, watched_with, IsCodeOf, EscapesOrIs, watched_run}
use Rattle.java_meaning.proofs.Plain.{run_r}

found : {body other : ℕ → Option Body} → ((m : ℕ) → RetaggedBody (body m) (other m)) → (o : Option ℕ)
    → RetaggedBody (option_and_then body o) (option_and_then other o)
found h None = s_no_body
found h (Some m) = h m

-- bodies that are those of the program but for their tags
unwatched : (P : Plain) (body : ℕ → Option Body) (eyes : Eyes) → ((m : ℕ) → RetaggedBody (body m) (body_of P m))
    → IsUnwatched (watched_with P body eyes) (language_of P)
unwatched P body eyes h = record {
  field = λ g e d x r. ap (λ z. field_in P z x) (sym (static_same P g r));
  slot = λ g e d x r. ap (λ z. option_and_then (λ c. slot_of P c x) (class_of z)) (sym (static_same P g r));
  typed_field = λ f. refl;
  index = λ c f. refl;
  fresh = λ c. refl;
  maker = λ c. refl;
  body = λ c s. found h (lookup P c s);
  static_body = h;
  super_body = λ c x. found h (super_method P c x);
  is_sub = λ s t. refl;
  statics = refl;
  sees = λ p v hs. refl;
  sees_all = λ b vs hs. refl;
  note = λ p v hs m. refl;
  note_all = λ b vs hs m. refl;
}

-- the theorem: for all words and every bound
pub watched_runs : (P : Plain) (body : ℕ → Option Body) (eyes : Eyes) → ((m : ℕ) → RetaggedBody (body m) (body_of P m)) → (words : List (List ℕ)) (n : ℕ)
    → EscapesOrIs (run_in (watched_with P body eyes) P.main words n) (run P words n)
watched_runs P body eyes h words n = run_r (watched_with P body eyes) (language_of P) (unwatched P body eyes h) P.main words n

pub watched_is_run : (P : Plain) (code : ℕ → Option Sts) (eyes : Eyes) → IsCodeOf P code → (words : List (List ℕ)) (n : ℕ)
    → EscapesOrIs (watched_run P code eyes words n) (run P words n)
unfolding IsCodeOf
watched_is_run P code eyes h words n = watched_runs P (coded_body P code) eyes h words n
