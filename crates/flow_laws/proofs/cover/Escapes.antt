-- No run of a program under the watch of closed sets escapes.
use Rattle.std.proofs.Common.{◌≡◌, ℕ, suc, ◌+◌, List, [], ◌∷◌, Option, Some, None, refl, sym, ◌∙◌, subst, arith}
use Rattle.std.specs.Prelude.{◌≢◌, Bool, true, false, slice_get, map}
use Rattle.std.specs.Option.{option_map_or, option_and_then}
use Rattle.std.specs.List.{AllByRecursion}
use Rattle.std.proofs.lemmas.Bool.{and_from, and_parts}
use Rattle.java_core.specs.declared.Ty.{Ty}
use Rattle.java_core.specs.Trees.{Sts}
use Rattle.java_core.specs.Programs.{Plain, PlainMethod}
use Rattle.java_core.specs.Classes.{lookup, super_method}
use Rattle.java_core.specs.Types.{field_type, types_of, env_of}
use Rattle.java_meaning.specs.Moment.{Value, Nothing, Object, Cell, Spot, held, bound, self_of, result_of, set_static, kept, touched, tested, ran, Met, End, Escaped, Body, Lang}
use Rattle.java_meaning.specs.Values.{default_of}
use Rattle.java_meaning.specs.Meaning.{run_in}
use Rattle.java_meaning.specs.Watched.{Eyes, watched_with}
use Rattle.java_meaning.specs.Languages.{layout, default_at, body_with}
use Rattle.java_meaning.proofs.Moves.{then_some}
use Rattle.java_meaning.proofs.Calls.{mapped_some}
use Rattle.fact_model.specs.Flowing.{Fact, Inclusion}
use Rattle.fact_model.specs.declared.facts.Facts.{Facts}
use Rattle.flow_rules.specs.declared.items.Operand.{Operand}
use Rattle.flow_rules.specs.declared.items.PointItem.TheVariants as point
use Rattle.flow_rules.specs.Types.{field_object}
use Rattle.flow_rules.specs.Labels.{label_sts}
use Rattle.flow_rules.specs.Lists.{point_at, site_in}
use Rattle.flow_rules.specs.Facts.{numbers, IsFactsOf}
use Rattle.java_meaning.specs.EachStatement.{InSts}
use Rattle.flow_laws.specs.cover.Families.{Family, ArePlain, IsIncluded, AreIncluded, Begins, included}
use Rattle.flow_laws.specs.cover.Watched.{Of, IsWatched}
use Rattle.flow_laws.specs.cover.Covers.{Sets, has, IsClosed, operand_at, passes, at_point, at_cell, field_cell, held_in, point_sites, tested_by, called_on, sites_at, spot_set, is_seen, are_seen, labelled_with, labelled_body, watched, CoversEachRun}
use Rattle.flow_laws.proofs.cover.Held.{default_plain, Stays}
use Rattle.flow_laws.proofs.cover.Cover.{run_stays}
use Rattle.flow_laws.proofs.cover.Kinded.{IsKinded}
use Rattle.flow_laws.proofs.cover.Flows.{when_some, looks_in}
use Rattle.flow_laws.proofs.cover.Calls.{local_object, result_object}
use Rattle.flow_laws.proofs.cover.Included.{passes_map, MadeAs, accessed_as, tests_as, finds_as, strictly, holds_at, typed_sites, family, ClosedBody}
use Rattle.std.proofs.lemmas.Option.{slice_get-map}
use Rattle.flow_laws.proofs.cover.IncludedBodies.{included_code}
use Rattle.java_meaning.proofs.Layouts.{places as same_place}

default_no_object : (t : Ty) (a : ℕ) → default_of t ≡ Object a → ⊥
default_no_object t a e = default_plain t.base t.dim a e

map_plain : {A : Type 0} (f : A → Value) (xs : List A) → ((x : A) (a : ℕ) → f x ≡ Object a → ⊥) → ArePlain (map f xs)
map_plain f xs p i a e = let z = mapped_some f (slice_get xs i) (Object a) (sym (slice_get-map f xs i) ∙ e) in p z.0 a z.2

optional_default : (t : Option Ty) (a : ℕ) → option_map_or default_of t Nothing ≡ Object a → ⊥
optional_default None a e = cc
optional_default (Some t) a e = default_no_object t a e

module _ (P : Plain) (F : Facts) (S : Sets) where
  looks_held : (c : Option ℕ) (o : Operand) (s : ℕ) → looks_in P F S c o s ≡ true → held_in P F S c o s ≡ true
  looks_held None o s h = (when_some o.ty (at_point P F S (point_at (numbers P) o)) s h).1
  looks_held (Some n) o s h = h

  -- the typed sets are in the sets of the watch
  typed_sub : (p : Spot) (s : ℕ) → typed_sites P F S p s ≡ true → sites_at P F S p s ≡ true
  typed_sub (held m e) s h = looks_held (operand_at P m e).created (operand_at P m e) s h
  typed_sub (bound m i) s h = (when_some (local_object P F S m i) (at_point P F S ((numbers P).point (point.Local m i))) s h).1
  typed_sub (result_of m) s h = (when_some (result_object P F S m) (at_point P F S ((numbers P).point (point.Result m))) s h).1
  typed_sub (set_static f) s h = (when_some (field_object P f) (at_point P F S ((numbers P).point (point.Static f))) s h).1
  typed_sub (kept o f) s h = (when_some (field_object P f) (at_cell P F S (option_and_then (field_cell P F f) (site_in (numbers P) o))) s h).1
  typed_sub (touched m e f) s h = (and_parts (point_sites P F S (operand_at P m e) s) (accessed_as P F S m e f) h).0
  typed_sub (tested m d b) s h = (and_parts (point_sites P F S (operand_at P m (tested_by P F S d)) s) (tests_as P F S d b s) h).0
  typed_sub (ran m d b) s h = (and_parts (point_sites P F S (operand_at P m (called_on P F S d)) s) (finds_as P F S m d b s) h).0
  typed_sub p s h = h

  from_strictly : (X : ℕ → Bool) (z : Option ℕ) → strictly P F S X z ≡ true → passes X z ≡ true
  from_strictly X None h = refl
  from_strictly X (Some s) h = h

  at_passes : (p : Spot) (X : ℕ → Bool) (z : Option ℕ) → holds_at P F S p X z ≡ true → passes X z ≡ true
  at_passes (self_of m) X z h = from_strictly X z h
  at_passes (touched m e f) X z h = from_strictly X z h
  at_passes (ran m d b) X z h = from_strictly X z h
  at_passes p X z h = h

  value_seen : (p : Spot) (v : Value) (h : List Cell) → Of h v ((family P F S).spot p) → is_seen P F S (spot_set P F S p) v h ≡ true
  value_seen p (Object a) h o = subst (λ z. option_map_or (λ c. spot_set P F S p c.site) z false ≡ true) (sym o.there)
      (passes_map (typed_sites P F S p) (sites_at P F S p) (site_in (numbers P) o.cell.site) (typed_sub p)
      (at_passes p (typed_sites P F S p) (site_in (numbers P) o.cell.site) o.member))
  value_seen p v h o = refl

  all_seen : (b i : ℕ) (vs : List Value) (h : List Cell) → ((x y : ℕ) (v : Value) → y ≡ i + x → slice_get vs x ≡ Some v
      → Of h v ((family P F S).spot (bound b y))) → are_seen P F S b i vs h ≡ true
  all_seen b i [] h p = refl
  all_seen b i (v ∷ vs) h p = and_from (is_seen P F S (spot_set P F S (bound b i)) v h) (are_seen P F S b (suc i) vs h)
      (value_seen (bound b i) v h (p 0 i v (omega arith) refl)) (all_seen b (suc i) vs h (λ x y w e d. p (suc x) y w (omega (arith, e)) d))

  -- the run that eyes watch
  abbrev pub eyed : Eyes → Lang
  eyed eyes = watched_with P (labelled_body P F S) eyes

  abbrev of_sets : Eyes
  of_sets = record {
    sees = λ p v h. is_seen P F S (spot_set P F S p) v h;
    sees_all = λ b vs h. are_seen P F S b 0 vs h;
    note = λ p v h m. m;
    note_all = λ b vs h m. m;
  }

  -- the watch of a family itself, with a record
  abbrev pub seen_by : Family → (Spot → Value → List Cell → List Met → List Met) → Eyes
  seen_by V note = record {
    sees = λ p v h. is_seen P F S (V.spot p) v h;
    sees_all = λ b vs h. true;
    note = note;
    note_all = λ b vs h m. m;
  }

  -- that of the typed sets
  abbrev pub closely : (Spot → Value → List Cell → List Met → List Met) → Eyes
  closely note = seen_by (family P F S) note

  seen_closely : (V : Family) (p : Spot) (v : Value) (h : List Cell) → Of h v (V.spot p) → is_seen P F S (V.spot p) v h ≡ true
  seen_closely V p (Object a) h o = subst (λ z. option_map_or (λ c. V.spot p c.site) z false ≡ true) (sym o.there) o.member
  seen_closely V p v h o = refl

  watches_closely : (V : Family) (note : Spot → Value → List Cell → List Met → List Met) → IsWatched (eyed (seen_by V note)) V
  watches_closely V note = record { sees = seen_closely V; sees_all = λ b vs h p. refl }

  watches : IsWatched (watched P F S) (family P F S)
  watches = record {
    sees = value_seen;
    sees_all = λ b vs h p. all_seen b 0 vs h (λ x y v e d. subst (λ z. Of h v ((family P F S).spot (bound b z)))
        (let z : x ≡ y = omega (arith, e) in z) (p x v d));
  }

  -- a family that the code of each body stays in
  module _ (V : Family) (eyes : Eyes) (code : (c : ℕ) (h : PlainMethod) → slice_get P.methods c ≡ Some h → (xs : Sts) → h.body ≡ Some xs
      → InSts (included (eyed eyes) (MadeAs P F S) V (env_of c h)) (label_sts 0 xs)) where
    body_included : (c : ℕ) (b : Body) → labelled_body P F S c ≡ Some b → IsIncluded (eyed eyes) (MadeAs P F S) V b
    unfolding labelled_body
    body_included c b e =
        let h = then_some (labelled_with P F S c) (slice_get P.methods c) b e in
        let y = mapped_some (λ xs. body_with c h.0 (label_sts 0 xs)) h.0.body b h.2 in
        subst (λ z. IsIncluded (eyed eyes) (MadeAs P F S) V z) y.2 (record {
          code = code c h.0 h.1 y.0 y.1;
          rest = map_plain default_of (types_of h.0.locals) default_no_object;
          ends = optional_default h.0.result;
        })

    pub code_included : AreIncluded (eyed eyes) (MadeAs P F S) V
    code_included = record {
      places = same_place P;
      fresh = λ c. map_plain (λ f. default_at P f) (layout P c) (λ f a e. optional_default (field_type P f) a e);
      statics = map_plain (λ f. default_of f.ty) P.fields (λ f a e. default_no_object f.ty a e);
      bodies = λ c j b e. let z = then_some (labelled_body P F S) (lookup P c j) b e in body_included z.0 b z.2;
      static_bodies = body_included;
      super_bodies = λ c x b e. let z = then_some (labelled_body P F S) (super_method P c x) b e in body_included z.0 b z.2;
    }

  -- a body with the closed sets
  abbrev pub closed_body : ((ps : List Fact) (f : Fact) → Inclusion F ps f → AllByRecursion (λ p. has S p ≡ true) ps → has S f ≡ true)
      → IsFactsOf P F → IsKinded P F → Eyes → (c : ℕ) (h : PlainMethod) → slice_get P.methods c ≡ Some h → ClosedBody
  closed_body closed facts kinded eyes c h e =
      record { program = P; facts = F; sets = S; eyes = eyes; closed = closed; are_facts = facts; kinded = kinded; number = c; method = h; stands = e }

  module _ (closed : (ps : List Fact) (f : Fact) → Inclusion F ps f → AllByRecursion (λ p. has S p ≡ true) ps → has S f ≡ true)
      (facts : IsFactsOf P F) (kinded : IsKinded P F) (eyes : Eyes) where
    all_included : AreIncluded (eyed eyes) (MadeAs P F S) (family P F S)
    all_included = code_included (family P F S) eyes (λ c h e. included_code (closed_body closed facts kinded eyes c h e))

-- a run begins with words that have no site
pub begins : (P : Plain) (F : Facts) (S : Sets) (V : Family) (eyes : Eyes) (m : ℕ)
    → ((b : Body) → labelled_body P F S m ≡ Some b → V.spot (bound b.env.body 0) None ≡ true) → Begins (eyed P F S eyes) (MadeAs P F S) V m
begins P F S V eyes m words = record { made = record { sited = λ t e. absurd (cc); typed = λ s e. absurd (cc) }; words = words }

stays_not : (e : End) → Stays e → e ≢ Escaped
stays_not e s d = subst (λ z. Stays z) d s

pub kinded_covers : (P : Plain) (F : Facts) → IsFactsOf P F → IsKinded P F → CoversEachRun P F
unfolding CoversEachRun IsClosed
kinded_covers P F facts kinded =
    λ S closed words n. stays_not _ (run_stays (watched P F S) (MadeAs P F S) (family P F S) (all_included P F S closed facts kinded (of_sets P F S))
    (watches P F S) P.main (begins P F S (family P F S) (of_sets P F S) P.main (λ b e. refl)) words n)

-- nor does one under the watch of a family that all code stays in, whatever it notes
pub family_covers : (P : Plain) (F : Facts) (S : Sets) (V : Family) (note : Spot → Value → List Cell → List Met → List Met)
    → AreIncluded (eyed P F S (seen_by P F S V note)) (MadeAs P F S) V → ((b : Body) → labelled_body P F S P.main ≡ Some b
    → V.spot (bound b.env.body 0) None ≡ true)
    → (words : List (List ℕ)) (n : ℕ) → (run_in (watched_with P (labelled_body P F S) (seen_by P F S V note)) P.main words n).end ≢ Escaped
family_covers P F S V note all begin words n =
    stays_not _ (run_stays (eyed P F S (seen_by P F S V note)) (MadeAs P F S) V all (watches_closely P F S V note) P.main
    (begins P F S V (seen_by P F S V note) P.main begin) words n)

-- nor one under the closer watch of the typed sets
pub kinded_closely : (P : Plain) (F : Facts) → IsFactsOf P F → IsKinded P F → (S : Sets) → IsClosed F S
    → (note : Spot → Value → List Cell → List Met → List Met) (words : List (List ℕ)) (n : ℕ)
    → (run_in (watched_with P (labelled_body P F S) (closely P F S note)) P.main words n).end ≢ Escaped
unfolding IsClosed
kinded_closely P F facts kinded S closed note words n =
    family_covers P F S (family P F S) note (all_included P F S closed facts kinded (closely P F S note)) (λ b e. refl) words n
