-- Believed. Runs that are watched: over trees with labels, with a watch and a record.
use Rattle.std.specs.Prelude.{◌≡◌, ◌⊎◌, ℕ, Bool, List, Option, Some, None}
use Rattle.std.specs.Option.{option_map, option_and_then}
use Rattle.java_core.specs.declared.Ty.{Ty}
use Rattle.java_core.specs.Types.{Env}
use Rattle.java_core.specs.Trees.{Ex, Target, Sts}
use Rattle.java_core.specs.Programs.{Plain}
use Rattle.java_core.specs.Classes.{lookup, super_method}
use Rattle.java_core.specs.Retagged.{Retagged, RetaggedTarget}
use Rattle.java_meaning.specs.Paired.{PairedSts}
use Rattle.java_meaning.specs.Moment.{Value, Cell, Spot, Met, Body, Lang, Outcome, unnoted, Escaped}
use Rattle.java_meaning.specs.Meaning.{run_in}
use Rattle.java_meaning.specs.Languages.{body_of, language_of}

-- bodies that are the same but for their tags; the value that an assignment puts somewhere is free
abbrev pub SameTarget : Ex → Target → Target → Type 0
SameTarget e a b = RetaggedTarget a b

-- two lists of statements are the same but for their tags
abbrev pub RetaggedSts : Sts → Sts → Type 0
RetaggedSts = PairedSts Retagged SameTarget

-- the body of a method with other code, as the code with labels
abbrev pub recoded : Sts → Body → Body
recoded xs b = record b { code = xs }

-- two bodies that are the same but for the tags of their code
pub data RetaggedBody : Option Body → Option Body → Type 0 where
  s_no_body : RetaggedBody None None
  s_body : {b : Body} {ys : Sts} → RetaggedSts b.code ys → RetaggedBody (Some b) (Some (recoded ys b))

-- the second language is the first over trees with other tags, without its watch and its record: all passes in it, and nothing is noted
pub record IsUnwatched (L M : Lang) : Type 0 where
  pub field : (g : Env) (e d : Ex) (x : List ℕ) → Retagged e d → M.field g d x ≡ L.field g e x
  pub slot : (g : Env) (e d : Ex) (x : List ℕ) → Retagged e d → M.slot g d x ≡ L.slot g e x
  pub typed_field : (f : ℕ) → M.field_type f ≡ L.field_type f
  pub index : (c f : ℕ) → M.index c f ≡ L.index c f
  pub fresh : (c : ℕ) → M.fresh c ≡ L.fresh c
  pub maker : (c : ℕ) → M.maker c ≡ L.maker c
  pub body : (c s : ℕ) → RetaggedBody (L.body c s) (M.body c s)
  pub static_body : (m : ℕ) → RetaggedBody (L.static_body m) (M.static_body m)
  pub super_body : (c : ℕ) (x : List ℕ) → RetaggedBody (L.super_body c x) (M.super_body c x)
  pub is_sub : (s t : Ty) → M.is_sub s t ≡ L.is_sub s t
  pub statics : M.statics ≡ L.statics
  pub sees : (p : Spot) (v : Value) (h : List Cell) → M.sees p v h ≡ Bool.true
  pub sees_all : (b : ℕ) (vs : List Value) (h : List Cell) → M.sees_all b vs h ≡ Bool.true
  pub note : (p : Spot) (v : Value) (h : List Cell) (m : List Met) → M.note p v h m ≡ m
  pub note_all : (b : ℕ) (vs : List Value) (h : List Cell) (m : List Met) → M.note_all b vs h m ≡ m

-- a watch and a record
pub record Eyes : Type 0 where
  pub sees : Spot → Value → List Cell → Bool
  pub sees_all : ℕ → List Value → List Cell → Bool
  pub note : Spot → Value → List Cell → List Met → List Met
  pub note_all : ℕ → List Value → List Cell → List Met → List Met

-- a body with these statements in place of its own, where there are both
abbrev pub with_code : Option Sts → Option Body → Option Body
with_code None b = None
with_code (Some xs) b = option_map (recoded xs) b

-- the body of a method with the statements that code has for it
abbrev pub coded_body : Plain → (ℕ → Option Sts) → ℕ → Option Body
coded_body P code m = with_code (code m) (body_of P m)

-- what a run asks of a program, with these bodies and this watch
abbrev pub watched_with : Plain → (ℕ → Option Body) → Eyes → Lang
watched_with P body eyes =
    record (language_of P) {
      body = λ c s. option_and_then body (lookup P c s);
      static_body = body;
      super_body = λ c x. option_and_then body (super_method P c x);
      sees = eyes.sees;
      sees_all = eyes.sees_all;
      note = eyes.note;
      note_all = eyes.note_all;
    }

-- with this code
abbrev pub watched : Plain → (ℕ → Option Sts) → Eyes → Lang
watched P code eyes = watched_with P (coded_body P code) eyes

-- the code is that of the program, but for its tags
unfoldable pub IsCodeOf : Plain → (ℕ → Option Sts) → Type 0
IsCodeOf P code = (m : ℕ) → RetaggedBody (coded_body P code m) (body_of P m)

-- a run that does not escape is the other, but for what it noted: the other noted nothing
unfoldable pub EscapesOrIs : Outcome → Outcome → Type 0
EscapesOrIs o p = (o.end ≡ Escaped) ⊎ (unnoted o ≡ p)

-- the run that is watched, and the law of it
abbrev pub watched_run : Plain → (ℕ → Option Sts) → Eyes → List (List ℕ) → ℕ → Outcome
watched_run P code eyes words n = run_in (watched P code eyes) P.main words n
