-- The run of a program under a watch that lets each object that is there pass: it never escapes, and is the run of the program.
use Rattle.std.proofs.Common.{◌≡◌, ℕ, zero, suc, List, [], ◌∷◌, Option, Some, None, refl, sym, ap, ◌∙◌, subst, ⊎_elim}
use Rattle.std.specs.Prelude.{◌≢◌, ◌&&◌, Bool, true, slice_get, map}
use Rattle.std.specs.Option.{is_some, option_map, option_map_or}
use Rattle.std.proofs.lemmas.Bool.{and_parts, and_from, false≢true}
use Rattle.std.proofs.lemmas.Option.{same_Some, slice_get-map}
use Rattle.java_core.specs.declared.Ty.{Ty}
use Rattle.java_core.specs.Trees.{Ex, Exs, no_ex, ex_then, number, character, text, truth, null, this, local, static_field, own_field, field, index, call, static_call, super_call, create, create_array, cast, instance_of, unary, binary, Target, to_local, to_static, to_own, to_field, to_element, no_target, St, Sts, IfArms, declare, block, assign, act, print, choose, loop, return, break, continue, no_st, st_then, no_other, otherwise, arm}
use Rattle.java_core.specs.Programs.{Plain, PlainMethod}
use Rattle.java_core.specs.Classes.{lookup, super_method}
use Rattle.java_core.specs.Types.{Env, field_type, types_of}
use Rattle.java_meaning.specs.EachStatement.{OfOption, InSt, InSts, InArms}
use Rattle.java_meaning.specs.Moment.{Value, Number, Truth, CodeUnit, Nothing, Text, Object, Kind, Cell, Spot, bound, End, Escaped, unnoted, Body, Lang}
use Rattle.java_meaning.specs.Meaning.{run_in}
use Rattle.java_meaning.specs.Values.{default_of}
use Rattle.java_meaning.specs.Languages.{layout, default_at, body_with, body_of, run}
use Rattle.java_meaning.specs.Watched.{RetaggedBody, s_no_body, s_body, Eyes, watched_with, EscapesOrIs}
use Rattle.java_meaning.proofs.Moves.{then_some}
use Rattle.java_meaning.proofs.Calls.{mapped_some}
use Rattle.java_meaning.proofs.Layouts.{places as same_place}
use Rattle.java_meaning.proofs.WatchedPrograms.{watched_runs}
use Rattle.rebuild_laws.proofs.one.Retagged.{sts_itself}
use Rattle.flow_laws.specs.cover.Families.{Family, ArePlain, Included, IncludedAll, Passes, Sets, Assigns, included, IsIncluded, AreIncluded}
use Rattle.flow_laws.specs.cover.Families.{Reads, Writes, ReadsElement, WritesElement, Calls, StaticCalls, SuperCalls, MakerRuns, Tests, Casts}
use Rattle.flow_laws.specs.cover.Watched.{Of, IsWatched}
use Rattle.flow_laws.proofs.cover.Held.{default_plain, Stays}
use Rattle.flow_laws.proofs.cover.Cover.{run_stays}

-- whether a value is no object and no array, or one that is there
abbrev pub is_there : Value → List Cell → Bool
is_there (Object a) h = is_some (slice_get h a)
is_there (Number n) h = true
is_there (Truth b) h = true
is_there (CodeUnit c) h = true
is_there Nothing h = true
is_there (Text a) h = true

abbrev pub are_there : List Value → List Cell → Bool
are_there [] h = true
are_there (v ∷ vs) h = is_there v h && are_there vs h

abbrev pub presence : Eyes
presence = record { sees = λ p v h. is_there v h; sees_all = λ b vs h. are_there vs h; note = λ p v h m. m; note_all = λ b vs h m. m }

-- what a run asks of a program under this watch
abbrev pub seen : Plain → Lang
seen P = watched_with P (body_of P) presence

abbrev everything : Family
everything = record { value = λ b e o. true; spot = λ p o. true }

abbrev Anything : Option ℕ → Kind → Type 0
Anything o k = Unit {0}

there_of : (v : Value) (h : List Cell) → is_there v h ≡ true → Of h v (λ o. true)
there_of (Object a) h e = go (slice_get h a) refl e
  where
    go : (o : Option Cell) → slice_get h a ≡ o → is_some o ≡ true → Of h (Object a) (λ o. true)
    go None d e = absurd (false≢true e)
    go (Some c) d e = record { cell = c; there = d; member = refl }
there_of v h e = tt

of_there : (v : Value) (h : List Cell) → Of h v (λ o. true) → is_there v h ≡ true
of_there (Object a) h o = ap is_some o.there
of_there v h o = refl

pub seen_of : (v : Value) (h : List Cell) → is_there v h ≡ true → Of h v (λ o. true)
seen_of v h e = there_of v h e

pub all_of : (vs : List Value) (h : List Cell) → are_there vs h ≡ true → (i : ℕ) (v : Value) → slice_get vs i ≡ Some v → Of h v (λ o. true)
all_of [] h e i v d = absurd (cc)
all_of (w ∷ vs) h e zero v d = subst (λ z. Of h z (λ o. true)) (same_Some w v d) (there_of w h (and_parts (is_there w h) (are_there vs h) e).0)
all_of (w ∷ vs) h e (suc i) v d = all_of vs h (and_parts (is_there w h) (are_there vs h) e).1 i v d

all_there : (vs : List Value) (h : List Cell) → ((x : ℕ) (v : Value) → slice_get vs x ≡ Some v → Of h v (λ o. true)) → are_there vs h ≡ true
all_there [] h p = refl
all_there (v ∷ vs) h p = and_from (is_there v h) (are_there vs h) (of_there v h (p 0 v refl)) (all_there vs h (λ x w e. p (suc x) w e))

watches : (P : Plain) → IsWatched (seen P) everything
watches P = record { sees = λ p v h o. of_there v h o; sees_all = λ b vs h p. all_there vs h p }

default_no_object : (t : Ty) (a : ℕ) → default_of t ≡ Object a → ⊥
default_no_object t a e = default_plain t.base t.dim a e

pub map_plain : {A : Type 0} (f : A → Value) (xs : List A) → ((x : A) (a : ℕ) → f x ≡ Object a → ⊥) → ArePlain (map f xs)
map_plain f xs p i a e = let z = mapped_some f (slice_get xs i) (Object a) (sym (slice_get-map f xs i) ∙ e) in p z.0 a z.2

pub no_object : (t : Ty) (a : ℕ) → default_of t ≡ Object a → ⊥
no_object t a e = default_no_object t a e

optional_default : (t : Option Ty) (a : ℕ) → option_map_or default_of t Nothing ≡ Object a → ⊥
optional_default None a e = cc
optional_default (Some t) a e = default_no_object t a e

-- all that a body does stays in sets that have everything
module _ (P : Plain) (g : Env) where
  abbrev In : Ex → Type 0
  In e = Included (seen P) Anything everything g e

  abbrev InAll : Exs → Type 0
  InAll es = IncludedAll (seen P) Anything everything g es

  passes_all : (es : Exs) → Passes (seen P) Anything everything g es (λ x o. true)
  passes_all no_ex = tt
  passes_all (ex_then e es) = ((λ o h. refl), passes_all es)

  mutual
    unfolding Reads ReadsElement Calls StaticCalls SuperCalls MakerRuns Tests Casts

    in_ex : (e : Ex) → In e
    in_ex (number t n) = tt
    in_ex (character t c) = tt
    in_ex (text t u) = tt
    in_ex (truth t b) = tt
    in_ex (null t) = tt
    in_ex (this t) = λ o h. refl
    in_ex (local t x) = λ o h. refl
    in_ex (static_field t x) = λ o h. refl
    in_ex (own_field t x) = ((λ o h. refl), (λ j e o c i m ei v. record { base = refl; gives = record { looks = λ o h. refl; holds = λ o h. refl } }))
    in_ex (field t e x) = (in_ex e, (λ j d o c i m ei v. record { base = refl; gives = record { looks = λ o h. refl; holds = λ o h. refl } }))
    in_ex (index t e i) = (in_ex e, in_ex i, (λ o t u m d v. record { looks = λ o h. refl; holds = λ o h. refl }))
    in_ex (call t e x es) = (
      in_ex e,
      in_exs es,
      (λ o c j b m ej eb v. record {
        receiver = refl;
        self = refl;
        enters = record { args = passes_all es; result = record { looks = λ o h. refl; holds = λ o h. refl } };
      }),
    )
    in_ex (static_call t m es) = (in_exs es, (λ b eb. record { args = passes_all es; result = record { looks = λ o h. refl; holds = λ o h. refl } }))
    in_ex (super_call t x es) = (
      in_exs es,
      (λ b eb. record {
        self = λ o h. refl;
        enters = record { args = passes_all es; result = record { looks = λ o h. refl; holds = λ o h. refl } };
      }),
    )
    in_ex (create t n c es) = (
      in_exs es,
      record { made = tt; looks = refl; holds = refl },
      (λ j b ej eb. record { receiver = refl; self = refl; args = passes_all es }),
    )
    in_ex (create_array t n u e) = (in_ex e, record { made = tt; looks = refl; holds = refl })
    in_ex (cast t n u e) = (in_ex e, (λ o k m v. refl), (λ o k m v s. (refl, refl)))
    in_ex (instance_of t n e c) = (in_ex e, (λ o k m v. refl))
    in_ex (unary t o e) = in_ex e
    in_ex (binary t o e d) = (in_ex e, in_ex d)

    in_exs : (es : Exs) → InAll es
    in_exs no_ex = tt
    in_exs (ex_then e es) = (in_ex e, in_exs es)

  in_if : (e : Option Ex) → OfOption In e
  in_if None = tt
  in_if (Some e) = in_ex e

  in_sets : (p : Spot) (e : Option Ex) → Sets (seen P) Anything everything g e p
  in_sets p None = tt
  in_sets p (Some e) = (in_ex e, (λ o h. refl))

  in_assign : (b : Target) (d : Ex) → Assigns (seen P) Anything everything g b d
  unfolding Writes WritesElement
  in_assign (to_local t x) d = (in_ex d, (λ o h. refl))
  in_assign (to_static t x) d = (in_ex d, (λ o h. refl))
  in_assign (to_own t x) d = (in_ex d, (λ o h. refl), (λ j e o c i m ei v. record { base = refl; gives = λ o h. refl }))
  in_assign (to_field t e x) d = (in_ex e, in_ex d, (λ j e o c i m ei v. record { base = refl; gives = λ o h. refl }))
  in_assign (to_element t e i) d = (in_ex e, in_ex i, in_ex d, (λ o q t u k m e n s v w. refl))
  in_assign no_target d = tt

  mutual
    in_st : (x : St) → InSt (included (seen P) Anything everything g) x
    in_st (declare t i e) = in_sets (bound g.body i) e
    in_st (block t xs) = in_sts xs
    in_st (assign t b e) = in_assign b e
    in_st (act t e) = in_ex e
    in_st (print t n e) = in_if e
    in_st (choose t a) = in_arms a
    in_st (loop t is_while first test step body) = (in_sts first, in_if test, in_sts step, in_sts body)
    in_st (return t e) = in_sets _ e
    in_st (break t) = tt
    in_st (continue t) = tt

    in_sts : (xs : Sts) → InSts (included (seen P) Anything everything g) xs
    in_sts no_st = tt
    in_sts (st_then x xs) = (in_st x, in_sts xs)

    in_arms : (a : IfArms) → InArms (included (seen P) Anything everything g) a
    in_arms no_other = tt
    in_arms (otherwise xs) = in_sts xs
    in_arms (arm e xs more) = (in_ex e, in_sts xs, in_arms more)

module _ (P : Plain) where
  body_in : (m : ℕ) (b : Body) → body_of P m ≡ Some b → IsIncluded (seen P) Anything everything b
  body_in m b e =
      let h = then_some (λ (k : PlainMethod). option_map (λ xs. body_with m k xs) k.body) (slice_get P.methods m) b e in
      let y = mapped_some (λ xs. body_with m h.0 xs) h.0.body b h.2 in
      subst (λ z. IsIncluded (seen P) Anything everything z) y.2 (record {
        code = in_sts P (body_with m h.0 y.0).env y.0;
        rest = map_plain default_of (types_of h.0.locals) default_no_object;
        ends = optional_default h.0.result;
      })

  all_in : AreIncluded (seen P) Anything everything
  all_in = record {
    places = same_place P;
    fresh = λ c. map_plain (λ f. default_at P f) (layout P c) (λ f a e. optional_default (field_type P f) a e);
    statics = map_plain (λ f. default_of f.ty) P.fields (λ f a e. default_no_object f.ty a e);
    bodies = λ c j b e. let z = then_some (body_of P) (lookup P c j) b e in body_in z.0 b z.2;
    static_bodies = body_in;
    super_bodies = λ c x b e. let z = then_some (body_of P) (super_method P c x) b e in body_in z.0 b z.2;
  }

  stays_not : (e : End) → Stays e → e ≢ Escaped
  stays_not e s d = subst (λ z. Stays z) d s

  pub never_escapes : (words : List (List ℕ)) (n : ℕ) → (run_in (seen P) P.main words n).end ≢ Escaped
  never_escapes words n =
      stays_not _ (run_stays (seen P) Anything everything all_in (watches P) P.main (record { made = tt; words = λ b e. refl }) words n)

  -- the bodies are those of the program
  bodies_same : (m : ℕ) → RetaggedBody (body_of P m) (body_of P m)
  bodies_same m = go (body_of P m)
    where
      go : (o : Option Body) → RetaggedBody o o
      go None = s_no_body
      go (Some b) = s_body (sts_itself b.code)

  pub seen_is_run : (words : List (List ℕ)) (n : ℕ) → unnoted (run_in (seen P) P.main words n) ≡ run P words n
  unfolding EscapesOrIs
  seen_is_run words n = ⊎_elim (λ e. absurd (never_escapes words n e)) (λ e. e) (watched_runs P (body_of P) presence bodies_same words n)
