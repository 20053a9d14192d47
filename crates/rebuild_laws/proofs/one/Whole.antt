-- Two programs that are one have the same run.
use Rattle.std.proofs.Common.{◌≡◌, ℕ, List, Option, Some, refl, sym, ap, ◌∙◌, subst}
use Rattle.std.specs.Prelude.{◌≢◌, true, map, slice_get}
use Rattle.std.specs.Option.{is_some, option_map, option_map_or}
use Rattle.std.proofs.lemmas.Option.{slice_get-map}
use Rattle.java_core.specs.declared.Ty.{Ty}
use Rattle.java_core.specs.Programs.{Plain, PlainField}
use Rattle.java_core.specs.Typing.{IsTyped}
use Rattle.java_core.specs.Types.{env_of, types_of, field_type}
use Rattle.java_meaning.specs.Moment.{Nothing, Outcome, unnoted, Wrong, Escaped, Body, Lang}
use Rattle.java_meaning.specs.Values.{default_of}
use Rattle.java_meaning.specs.Meaning.{run_in}
use Rattle.java_meaning.specs.Languages.{body_with, statics_of, language_of, run}
use Rattle.java_meaning.proofs.FormedBodies.{stands_sts}
use Rattle.java_meaning.proofs.Layouts.{places}
use Rattle.java_meaning.proofs.TypedPrograms.{never_wrong}
use Rattle.rebuild_model.specs.OneBodies.{one_string}
use Rattle.rebuild_model.specs.OnePrograms.{AreRelated, BothRelated, neither, both}
use Rattle.rebuild_laws.specs.twins.Twins.{shape_of, SameBody, AreTwins}
use Rattle.rebuild_laws.specs.runs.Same.{HasSameRun, OneRunsTheSame}
use Rattle.rebuild_laws.proofs.twins.Shapes.{same_default, same_defaults}
use Rattle.rebuild_laws.proofs.twins.States.{Alike}
use Rattle.rebuild_laws.proofs.twins.SameRun.{same_run}
use Rattle.rebuild_laws.proofs.one.Related.{append_related, map_related}
use Rattle.rebuild_laws.proofs.one.Found.{Ones, FieldPair, field_first, method_pair, variable_types}
use Rattle.rebuild_laws.proofs.one.Statics.{OneType, one_shape, field_types, EnvPair}
use Rattle.rebuild_laws.proofs.one.Seen.{seen, seen_of, all_of, map_plain, no_object, never_escapes, seen_is_run}
use Rattle.rebuild_laws.proofs.one.Twin.{Made, one_array, new_field, pair_of, link, BodyPair, bodies, sts_same}

use_alike : (o p : Outcome) → Alike o p → o.end ≢ Wrong → o.end ≢ Escaped → unnoted o ≡ unnoted p
unfolding Alike
use_alike o p h a b = h a b

module _ (K : Ones) where
  abbrev P : Plain
  P = K.first

  abbrev Q : Plain
  Q = K.second

  abbrev L : Lang
  L = seen P

  abbrev M : Lang
  M = language_of Q

  shapes : {ts us : List Ty} → AreRelated (OneType K) ts us → map shape_of ts ≡ map shape_of us
  shapes r = map_related shape_of shape_of (λ t u p. one_shape K t u p) r

  shape_if : {t u : Option Ty} → BothRelated (OneType K) t u → option_map shape_of t ≡ option_map shape_of u
  shape_if neither = refl
  shape_if (both {x = t} {y = u} p) = ap (λ z. Some z) (one_shape K t u p)

  ends : {t u : Option Ty} → BothRelated (OneType K) t u → option_map_or default_of t Nothing ≡ option_map_or default_of u Nothing
  ends neither = refl
  ends (both {x = t} {y = u} p) = same_default t u (one_shape K t u p)

  body_same : (b c : Body) → BodyPair K b c → SameBody L M (link K) (Made K) (BodyPair K) b c
  body_same b c p =
      let k = p.pair.first in
      let l = p.pair.second in
      let same = p.pair.same in
      let E : EnvPair K (env_of p.number k) (env_of p.other l) = record {
        self = same.owner;
        locals = variable_types K (append_related same.params same.locals);
        result = same.result;
      } in
      let locals = shapes (variable_types K same.locals) in
      subst (λ z. SameBody L M (link K) (Made K) (BodyPair K) z c) p.is_first
      (subst (λ z. SameBody L M (link K) (Made K) (BodyPair K) (body_with p.number k p.code) z) p.is_second (record {
        env = record { locals = shapes E.locals; result = shape_if same.result };
        params = shapes (variable_types K same.params);
        rest = same_defaults (types_of k.locals) (types_of l.locals) locals;
        plain = map_plain default_of (types_of k.locals) no_object;
        ends = ends same.result;
        code = sts_same K (env_of p.number k) (env_of p.other l) E p.one
            (stands_sts P K.formed p.number k ((K.formed.methods p.number k p.pair.first_stands).code p.code p.first_code))
            (stands_sts Q K.formed_second p.other l ((K.formed_second.methods p.other l p.pair.second_stands).code p.written p.second_code));
      }))

  field_shapes : (f : ℕ) → is_some (slice_get P.fields f) ≡ true → option_map shape_of (field_type P f) ≡ option_map shape_of (field_type Q (new_field K f))
  field_shapes f h = shape_if (field_types K f (new_field K f) (pair_of K f h))

  apart : (f g : ℕ) → is_some (slice_get P.fields f) ≡ true → is_some (slice_get P.fields g) ≡ true → new_field K f ≡ new_field K g → f ≡ g
  apart f g hf hg e = field_first K f g (new_field K g) (subst (λ z. FieldPair K f z) e (pair_of K f hf)) (pair_of K g hg)

  begin : (f : ℕ) → is_some (slice_get P.fields f) ≡ true → slice_get (statics_of P) f ≡ slice_get (statics_of Q) (new_field K f)
  begin f h =
      let p = pair_of K f h in
      slice_get-map (λ (z : PlainField). default_of z.ty) P.fields f ∙ ap (option_map (λ (z : PlainField). default_of z.ty)) p.first_stands
      ∙ ap (λ z. Some z) (same_default p.first.ty p.second.ty (one_shape K p.first.ty p.second.ty p.same.type))
      ∙ sym (slice_get-map (λ (z : PlainField). default_of z.ty) Q.fields (new_field K f)
      ∙ ap (option_map (λ (z : PlainField). default_of z.ty)) p.second_stands)

  twins : AreTwins L M (link K) (Made K) (BodyPair K)
  twins = record {
    sees = λ p v h e. seen_of v h e;
    sees_all = λ b vs h e i v d. all_of vs h e i v d;
    passes = λ p v h. refl;
    passes_all = λ b vs h. refl;
    words = one_array (record { base = one_string; dim = refl });
    old_places = places P;
    new_places = places Q;
    fields_apart = λ o f g hf hg e. apart f g hf hg e;
    field_shapes = λ o f h. field_shapes f h;
    statics_apart = apart;
    static_shapes = field_shapes;
    statics = begin;
    plain_statics = map_plain (λ f. default_of f.ty) P.fields (λ f a e. no_object f.ty a e);
    pairs = body_same;
  }

  runs_alike : IsTyped P → (words : List (List ℕ)) (n : ℕ) → unnoted (run_in L P.main words n) ≡ unnoted (run Q words n)
  runs_alike typed words n = use_alike (run_in L P.main words n) (run Q words n)
      (same_run L M (link K) (Made K) (BodyPair K) twins P.main Q.main (bodies K P.main Q.main (method_pair K P.main Q.main K.one.main)) words n)
      (λ e. never_wrong P K.formed typed words n (sym (ap (λ o. o.end) (seen_is_run P words n)) ∙ e))
      (never_escapes P words n)

  runs_same : IsTyped P → HasSameRun P Q
  runs_same typed = record {
    end = λ words n. ap (λ o. o.end) (sym (seen_is_run P words n) ∙ runs_alike typed words n);
    out = λ words n. ap (λ o. o.out) (sym (seen_is_run P words n) ∙ runs_alike typed words n);
    left = λ words n. ap (λ o. o.left) (sym (seen_is_run P words n) ∙ runs_alike typed words n);
  }

pub one_runs_the_same : OneRunsTheSame
unfolding OneRunsTheSame
one_runs_the_same P Q formed typed formed_second one =
    runs_same
    (record { first = P; second = Q; formed = formed; formed_second = formed_second; one = one }) typed
