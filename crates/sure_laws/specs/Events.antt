-- Believed. What a run meets, in order: casts of objects, calls through a receiver that run a body, bodies of objects
-- that are entered, those of constructors among them, and fields of objects that are read or written.
use Rattle.std.specs.Prelude.{ℕ, Bool, true, List, [], ◌∷◌, ◌++◌, Option, None, slice_get, not}
use Rattle.std.specs.Option.{option_map, option_and_then}
use Rattle.std.specs.List.{flat_map}
use Rattle.java_core.specs.Trees.{Ex, number, character, text, truth, null, this, local, static_field, own_field, field, index, call, static_call, super_call, create, create_array, cast, instance_of, unary, binary}
use Rattle.java_core.specs.Programs.{Plain}
use Rattle.java_meaning.specs.Moment.{Value, Number, Truth, CodeUnit, Nothing, Text, Object, Cell, Spot, held, bound, self_of, result_of, set_static, kept, put_in, touched, tested, ran, Body, Outcome}
use Rattle.java_meaning.specs.Meaning.{run_in}
use Rattle.java_meaning.specs.Languages.{body_with}
use Rattle.java_meaning.specs.Watched.{Eyes, watched_with}
use Rattle.flow_rules.specs.Labels.{label_sts}
use Rattle.flow_rules.specs.Ordered.{when}
use Rattle.flow_rules.specs.Facts.{is_marked}

-- what a run meets. Bodies are named by the numbers of their methods; a cast and a call by the body that they stand in
-- and by their form there, which carries its place
pub data Event : Type 0 where
  -- a cast of an object, and whether it passes
  cast_met : ℕ → Ex → Bool → Event
  -- a call through a receiver, and the body that it runs
  body_ran : ℕ → Ex → ℕ → Event
  -- a body of an instance method that is entered
  body_entered : ℕ → Event
  -- a field of an object that is read or written
  field_touched : ℕ → Event

-- a test is met as a cast; an `instanceof` is none
abbrev pub test_events : ℕ → Ex → Bool → List Event
test_events m (cast t n u e) b = cast_met m (cast t n u e) b ∷ []
test_events m (instance_of t n e c) b = []
test_events m (number t z) b = []
test_events m (character t c) b = []
test_events m (text t u) b = []
test_events m (truth t z) b = []
test_events m (null t) b = []
test_events m (this t) b = []
test_events m (local t i) b = []
test_events m (static_field t f) b = []
test_events m (own_field t f) b = []
test_events m (field t e x) b = []
test_events m (index t e i) b = []
test_events m (call t e x es) b = []
test_events m (static_call t d es) b = []
test_events m (super_call t x es) b = []
test_events m (create t n c es) b = []
test_events m (create_array t n u e) b = []
test_events m (unary t z e) b = []
test_events m (binary t z e d) b = []

-- a call through a receiver is met with the body that it runs. A call of a constructor is none: a creation is no call of the text, and that of the
-- superclass's constructor has no receiver in it
abbrev pub run_events : ℕ → Ex → ℕ → List Event
run_events m (call t e x es) c = when (not (is_marked x)) (body_ran m (call t e x es) c ∷ [])
run_events m (instance_of t n e d) c = []
run_events m (number t z) c = []
run_events m (character t u) c = []
run_events m (text t u) c = []
run_events m (truth t z) c = []
run_events m (null t) c = []
run_events m (this t) c = []
run_events m (local t i) c = []
run_events m (static_field t f) c = []
run_events m (own_field t f) c = []
run_events m (field t e x) c = []
run_events m (index t e i) c = []
run_events m (static_call t d es) c = []
run_events m (super_call t x es) c = []
run_events m (create t n d es) c = []
run_events m (create_array t n u e) c = []
run_events m (cast t n u e) c = []
run_events m (unary t z e) c = []
run_events m (binary t z e d) c = []

-- what is met at a spot
abbrev pub spot_events : Spot → List Event
spot_events (tested m d b) = test_events m d b
spot_events (ran m d c) = run_events m d c
spot_events (self_of c) = body_entered c ∷ []
spot_events (touched m e f) = field_touched f ∷ []
spot_events (held m e) = []
spot_events (bound m i) = []
spot_events (result_of m) = []
spot_events (set_static f) = []
spot_events (kept c f) = []
spot_events (put_in c) = []

-- what is met where an object or array is looked at; nothing is met of other values, and `this` in a body is none of them
abbrev pub met_events : Value → Spot → List Event
met_events (Object a) p = spot_events p
met_events (Number n) p = []
met_events (Truth b) p = []
met_events (CodeUnit c) p = []
met_events Nothing p = []
met_events (Text a) p = []

-- the creation that made an object or array
abbrev pub site_of : List Cell → Value → Option ℕ
site_of h (Object a) = option_and_then (λ c. c.site) (slice_get h a)
site_of h (Number n) = None
site_of h (Truth b) = None
site_of h (CodeUnit c) = None
site_of h Nothing = None
site_of h (Text a) = None

-- a watch that lets all pass, and a record of each look
abbrev pub recording : Eyes
recording = record {
  sees = λ p v h. true;
  sees_all = λ b vs h. true;
  note = λ p v h m. m ++ record { spot = p; value = v; site = site_of h v } ∷ [];
  note_all = λ b vs h m. m;
}

-- the body of a method, with the labels of its parts
unfoldable pub labelled_body : Plain → ℕ → Option Body
labelled_body P m = option_and_then (λ k. option_map (λ xs. body_with m k (label_sts 0 xs)) k.body) (slice_get P.methods m)

-- the run of the program with a record of what is looked at
unfoldable pub recorded : Plain → List (List ℕ) → ℕ → Outcome
recorded P words n = run_in (watched_with P (labelled_body P) recording) P.main words n

-- what the run of the program on the words meets, with n steps
unfoldable pub events : Plain → List (List ℕ) → ℕ → List Event
events P words n = flat_map (λ x. met_events x.value x.spot) (recorded P words n).met
