-- No run of a typed program is Wrong.
use Rattle.std.proofs.Common.{ℕ, List, refl, ap, ◌∙◌}
use Rattle.std.specs.Prelude.{◌≢◌}
use Rattle.std.specs.Option.{option_map, option_and_then}
use Rattle.java_core.specs.Programs.{Plain}
use Rattle.java_core.specs.Classes.{same_class, slot_of_method, slot_of}
use Rattle.java_core.specs.Types.{types_of}
use Rattle.java_core.specs.Typing.{IsTyped}
use Rattle.java_core.specs.Formed.{IsFormed}
use Rattle.java_core.proofs.Subclasses.{subclass-then, below-subclass, subclass-below}
use Rattle.java_meaning.specs.Moment.{Wrong}
use Rattle.java_meaning.specs.Languages.{language_of, run}
use Rattle.java_meaning.specs.TypedLang.{TypedLang}
use Rattle.java_meaning.proofs.NeverWrong.{run_sound}
use Rattle.java_meaning.proofs.FormedBodies.{static_body}
use Rattle.java_meaning.proofs.Layouts.{members, places, fresh, statics}
use Rattle.java_meaning.proofs.Bodies.{bodies, makers, static_bodies, super_bodies}

-- what a run asks of a formed and typed program
pub typed_language : (P : Plain) → IsFormed P → IsTyped P → TypedLang P (language_of P)
typed_language P formed typed = record {
  below_self = λ c. subclass-below P formed.acyclic same_class;
  below_all = λ c d e p q. subclass-below P formed.acyclic (subclass-then P (below-subclass P c d p) (below-subclass P d e q));
  is_sub = λ s t. refl;
  field = λ g e x. refl;
  typed_field = λ f. refl;
  slot = λ g e x c j p q. ap (option_and_then (λ c. slot_of P c x)) p ∙ q;
  no_slot = λ g e x p. ap (option_and_then (λ c. slot_of P c x)) p;
  members = λ c d x f made bel p. members P formed c d x f bel p;
  places = places P;
  fresh = fresh P;
  statics = statics P;
  bodies = bodies P formed typed;
  no_maker = λ c e. ap (option_and_then (slot_of_method P)) e;
  makers = makers P formed typed;
  static_bodies = static_bodies P formed typed;
  super_bodies = super_bodies P formed typed;
}

-- the theorem: for all words and every bound
pub never_wrong : (P : Plain) → IsFormed P → IsTyped P → (words : List (List ℕ)) (n : ℕ) → (run P words n).end ≢ Wrong
never_wrong P formed typed words n =
    run_sound P (language_of P) (typed_language P formed typed) P.main (record { params = types_of formed.main.params; result = formed.main.result })
    (static_body P formed P.main (record { member = formed.main; stands = formed.main_stands; kind = formed.main_is.static }))
    (ap (option_map (λ k. record { params = types_of k.params; result = k.result })) formed.main_stands) formed.main_is.params words n
