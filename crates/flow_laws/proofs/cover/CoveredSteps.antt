-- The steps of a run under the watch of a family of sets: each look passes, and the cells and frames stay in the sets.
use Rattle.std.proofs.Common.{◌≡◌, ℕ, suc, List, [], ◌∷◌, ◌++◌, Option, Some, None, length, refl, sym, ap, ◌∙◌, subst, ⊎_elim, eqb-true}
use Rattle.std.specs.Prelude.{ℤ, Bool, true, false, not, slice_get, slice_set, ◌==◌}
use Rattle.std.specs.Option.{option_and_then, option_map}
use Rattle.std.proofs.lemmas.Option.{same_Some}
use Rattle.java_core.specs.declared.Ty.{Ty}
use Rattle.java_core.specs.declared.TyBase.{TyBase}
use Rattle.java_core.specs.declared.TyBase.TheVariants.{Char}
use Rattle.java_core.specs.declared.UnOp.{UnOp}
use Rattle.java_core.specs.declared.UnOp.TheVariants as un
use Rattle.java_core.specs.declared.BinOp.{BinOp}
use Rattle.java_core.specs.declared.BinOp.TheVariants as bin
use Rattle.java_core.specs.declared.Op.{Op}
use Rattle.java_core.specs.declared.Fault.TheVariants as fault
use Rattle.java_core.specs.Trees.{Ex, Exs, no_ex, ex_then}
use Rattle.java_core.specs.Types.{Env, class_type, element_in, StringMethod, LengthOf, CharAt, Equals}
use Rattle.java_meaning.specs.Moment.{Value, Number, Truth, CodeUnit, Nothing, Object, Kind, an_object, an_array, Cell, own_type, own_class, Spot, held, bound, self_of, result_of, set_static, kept, put_in, touched, tested, Met, State, Frame, Faulted, Wrong, Escaped, Outcome, stop, Body, Lang, with_some, on_bool, look, look_all}
use Rattle.java_meaning.specs.Values.{default_of, convert, number_of, truth_of, natural_of, text_of, arith, unary_value, cast_number, same_value, compared, join, defaults, equals_value}
use Rattle.java_meaning.specs.Meaning.{Flow, Next, Broke, Continued, Gave, ToValue, ToFlow, add_cell, set_value, set_local, give_string, write_static, read_field, write_field, names_length, read_member, element_type, place_in, read_element, on_fitting, write_element, given, string_call, make_cell, made_by, Later, make_array, is_number_type, cast_object, cast_to, test_class, after_left, join_values, compute, operate, write_local, after_one, after_turn}
use Rattle.flow_laws.specs.cover.Families.{Set, Family, ArePlain, Reads, Writes, ReadsElement, WritesElement, Passes, Makes, Tests, Casts, AreIncluded, Sub}
use Rattle.flow_laws.specs.cover.Watched.{Of, IsWatched}
use Rattle.flow_laws.proofs.cover.Lists.{set_cases}
use Rattle.java_meaning.proofs.Sound.{get_last}
use Rattle.java_meaning.proofs.Sound.{get_added}
use Rattle.flow_laws.proofs.cover.Held.{of_sub, Keeps, of_kept, keeps_same, keeps_on, keeps_set, keeps_add, member_of, plain_of, of_convert, default_plain, replicate_plain, own_object, own_array, in_values, ArgsIn, args_get, Fine, fine_stop, bool_fine, test_fine, some_fine, fault_fine, result_fine, step_fine, cell_fine}
use Rattle.std.proofs.lemmas.Bool.{eq-eqb, false≢true}

module _ (L : Lang) (Made : Option ℕ → Kind → Type 0) (V : Family) (inc : AreIncluded L Made V) (hooks : IsWatched L V) where
  pub look_fine : (p : Spot) (v : Value) (s : State) (go : State → Outcome) → Of s.cells v (V.spot p)
      → ((m : List Met) → Fine (go (record s { met = m }))) → Fine (look L p v s go)
  look_fine p v s go o h = subst (λ b. Fine (on_bool b (record s { met = L.note p v s.cells s.met }) go (stop Escaped))) (sym (hooks.sees p v s.cells o)) (h _)

  pub look_all_fine : (b : ℕ) (vs : List Value) (s : State) (go : State → Outcome) → ArgsIn s.cells vs (λ x. V.spot (bound b x))
      → ((m : List Met) → Fine (go (record s { met = m }))) → Fine (look_all L b vs s go)
  look_all_fine b vs s go o h =
      subst (λ z. Fine (on_bool z (record s { met = L.note_all b vs s.cells s.met }) go (stop Escaped)))
      (sym (hooks.sees_all b vs s.cells (λ x v e. args_get s.cells vs (λ x. V.spot (bound b x)) o x v e))) (h _)

  -- the values of an object or array are in the sets of its fields or elements
  abbrev ValuesIn : List Cell → Option ℕ → Kind → List Value → Type 0
  ValuesIn h o (an_object t) vs = (j i : ℕ) (v : Value) → L.index t j ≡ Some i → slice_get vs i ≡ Some v → Of h v (V.spot (kept o j))
  ValuesIn h o (an_array t) vs = (i : ℕ) (v : Value) → slice_get vs i ≡ Some v → Of h v (V.spot (put_in o))

  pub record CellIn (h : List Cell) (c : Cell) : Type 0 where
    pub made : Made c.site c.kind
    pub values : ValuesIn h c.site c.kind c.values

  pub record Good (h : List Cell) (ss : List Value) : Type 0 where
    pub cells : (a : ℕ) (c : Cell) → slice_get h a ≡ Some c → CellIn h c
    pub statics : (x : ℕ) (v : Value) → slice_get ss x ≡ Some v → Of h v (V.spot (set_static x))

  pub record From (h k : List Cell) (ss : List Value) : Type 0 where
    pub keeps : Keeps h k
    pub good : Good k ss

  pub from_on : (h k l : List Cell) (ss : List Value) → Keeps h k → From k l ss → From h l ss
  from_on h k l ss g r = record { keeps = keeps_on h k l g r.keeps; good = r.good }

  pub here : (h : List Cell) (ss : List Value) → Good h ss → From h h ss
  here h ss ok = record { keeps = keeps_same h; good = ok }

  values_kept : (h k : List Cell) (o : Option ℕ) (t : Kind) (vs : List Value) → Keeps h k → ValuesIn h o t vs → ValuesIn k o t vs
  values_kept h k o (an_object t) vs r p = λ j i v e d. of_kept h k v (V.spot (kept o j)) r (p j i v e d)
  values_kept h k o (an_array t) vs r p = λ i v d. of_kept h k v (V.spot (put_in o)) r (p i v d)

  pub values_plain : (h : List Cell) (o : Option ℕ) (t : Kind) (vs : List Value) → ArePlain vs → ValuesIn h o t vs
  values_plain h o (an_object t) vs p = λ j i v e d. plain_of h v (V.spot (kept o j)) (λ a f. p i a (d ∙ ap (λ z. Some z) f))
  values_plain h o (an_array t) vs p = λ i v d. plain_of h v (V.spot (put_in o)) (λ a f. p i a (d ∙ ap (λ z. Some z) f))

  cell_kept : (h k : List Cell) (c : Cell) → Keeps h k → CellIn h c → CellIn k c
  cell_kept h k c r p = record { made = p.made; values = values_kept h k c.site c.kind c.values r p.values }

  good_set : (h : List Cell) (ss : List Value) (a : ℕ) (c n : Cell) → Good h ss → slice_get h a ≡ Some c → n.site ≡ c.site → CellIn h n
      → From h (slice_set h a n) ss
  good_set h ss a c n ok at s new = record {
    keeps = keeps_set h a c n at s;
    good = record {
      cells = λ b d e. cell_kept h (slice_set h a n) d (keeps_set h a c n at s) (⊎_elim (λ p. subst (λ z. CellIn h z) p.1 new) (λ p. ok.cells b d p)
          (set_cases h a b n d e));
      statics = λ x v e. of_kept h (slice_set h a n) v (V.spot (set_static x)) (keeps_set h a c n at s) (ok.statics x v e);
    };
  }

  good_add : (h : List Cell) (ss : List Value) (n : Cell) → Good h ss → CellIn h n → From h (h ++ n ∷ []) ss
  good_add h ss n ok new = record {
    keeps = keeps_add h n;
    good = record {
      cells = λ b d e. cell_kept h (h ++ n ∷ []) d (keeps_add h n) (⊎_elim (λ p. ok.cells b d p) (λ p. subst (λ z. CellIn h z) p new) (get_added h n d b e));
      statics = λ x v e. of_kept h (h ++ n ∷ []) v (V.spot (set_static x)) (keeps_add h n) (ok.statics x v e);
    };
  }

  good_static : (h : List Cell) (ss : List Value) (x : ℕ) (u : Value) → Good h ss → Of h u (V.spot (set_static x)) → Good h (slice_set ss x u)
  good_static h ss x u ok o = record {
    cells = ok.cells;
    statics = λ y v e. ⊎_elim (λ p. subst (λ z. Of h z (V.spot (set_static y))) p.1 (subst (λ z. Of h u (V.spot (set_static z))) p.0 o))
        (λ p. ok.statics y v p) (set_cases ss x y u v e);
  }

  object_set : (h : List Cell) (o : Option ℕ) (t : ℕ) (vs : List Value) (i j : ℕ) (u : Value) → ValuesIn h o (an_object t) vs → L.index t j ≡ Some i
      → Of h u (V.spot (kept o j)) → ValuesIn h o (an_object t) (slice_set vs i u)
  object_set h o t vs i j u p ix q f k v fk e = ⊎_elim
      (λ s. subst (λ z. Of h z (V.spot (kept o f))) s.1 (subst (λ z. Of h u (V.spot (kept o z))) (inc.places t j f i ix (fk ∙ ap (λ z. Some z) (sym s.0))) q))
      (λ g. p f k v fk g)
      (set_cases vs i k u v e)

  array_set : (h : List Cell) (o : Option ℕ) (t : Ty) (vs : List Value) (i : ℕ) (u : Value) → ValuesIn h o (an_array t) vs
      → Of h u (V.spot (put_in o)) → ValuesIn h o (an_array t) (slice_set vs i u)
  array_set h o t vs i u p q k v e = ⊎_elim (λ s. subst (λ z. Of h z (V.spot (put_in o))) s.1 q) (λ g. p k v g) (set_cases vs i k u v e)

  abbrev pub KV : List Cell → Set → ToValue → Type 0
  KV h X k = (v : Value) (s : State) → From h s.cells s.statics → Of s.cells v X → Fine (k v s)

  abbrev pub KS : List Cell → (State → Outcome) → Type 0
  KS h k = (s : State) → From h s.cells s.statics → Fine (k s)

  -- a static field
  pub write_static_fine : (x : ℕ) (v : Value) (s : State) (k : State → Outcome) → Good s.cells s.statics → Of s.cells v (V.spot (set_static x))
      → KS s.cells k → Fine (write_static L x v s k)
  write_static_fine x v s k ok o h =
      some_fine (L.field_type x) s _ (λ t et. some_fine (slice_get s.statics x) s _ (λ old eo.
      let c = of_convert s.cells t v (V.spot (set_static x)) o in
      look_fine (set_static x) (convert t v) s _ c (λ m. h (record s { met = m; statics = slice_set s.statics x (convert t v) })
      (here s.cells (slice_set s.statics x (convert t v)) (good_static s.cells s.statics x (convert t v) ok c)))))

  -- a field of an object
  pub read_field_fine : (g : Env) (e d : Ex) (x : Option ℕ) → Reads L Made V g e d x → (a : ℕ) (c : Cell) (s : State) (k : ToValue)
      → Good s.cells s.statics → slice_get s.cells a ≡ Some c → V.value g.body e c.site ≡ true → KV s.cells (V.value g.body d) k
      → Fine (read_field L g.body e d x a c s k)
  unfolding Reads
  read_field_fine g e d x rd a c s k ok at mem h =
      some_fine (own_class c.kind) s _ (λ t et. some_fine x s _ (λ j ej. some_fine (L.index t j) s _ (λ i ei. some_fine (slice_get c.values i) s _ (λ u eu.
      let kind = own_object c.kind t et in
      let r = rd j ej c.site t i (subst (λ z. Made c.site z) kind (ok.cells a c at).made) ei mem in
      let all : ValuesIn s.cells c.site (an_object t) c.values = subst (λ z. ValuesIn s.cells c.site z c.values) kind (ok.cells a c at).values in
      let iu : Of s.cells u (V.spot (kept c.site j)) = all j i u ei eu in
      look_fine (touched g.body e j) (Object a) s _ (record { cell = c; there = at; member = r.base }) (λ m1.
      look_fine (held g.body d) u (record s { met = m1 }) _ (of_sub s.cells u (V.spot (kept c.site j)) (V.spot (held g.body d)) r.gives.looks iu) (λ m2.
      h u (record s { met = m2 }) (here s.cells s.statics ok) (of_sub s.cells u (V.spot (kept c.site j)) (V.value g.body d) r.gives.holds iu)))))))

  pub write_field_fine : (g : Env) (e d : Ex) (x : Option ℕ) → Writes L Made V g e d x → (v : Value) (a : ℕ) (c : Cell) (s : State) (k : State → Outcome)
      → Good s.cells s.statics → slice_get s.cells a ≡ Some c → V.value g.body e c.site ≡ true → Of s.cells v (V.value g.body d)
      → KS s.cells k → Fine (write_field L g.body e x v a c s k)
  unfolding Writes
  write_field_fine g e d x wr v a c s k ok at mem iv h =
      some_fine (own_class c.kind) s _
      (λ t et. some_fine x s _ (λ j ej. some_fine (L.field_type j) s _
      (λ u eu. some_fine (L.index t j) s _ (λ i ei. some_fine (slice_get c.values i) s _ (λ old eo.
      let kind = own_object c.kind t et in
      let r = wr j ej c.site t i (subst (λ z. Made c.site z) kind (ok.cells a c at).made) ei mem in
      let all : ValuesIn s.cells c.site (an_object t) c.values = subst (λ z. ValuesIn s.cells c.site z c.values) kind (ok.cells a c at).values in
      let w = convert u v in
      let iw : Of s.cells w (V.spot (kept c.site j)) = of_convert s.cells u v (V.spot (kept c.site j))
      (of_sub s.cells v (V.value g.body d) (V.spot (kept c.site j)) r.gives iv) in
      let new : CellIn s.cells (record c { values = slice_set c.values i w }) = record {
        made = (ok.cells a c at).made;
        values = subst (λ z. ValuesIn s.cells c.site z (slice_set c.values i w)) (sym kind) (object_set s.cells c.site t c.values i j w all ei iw);
      } in
      look_fine (touched g.body e j) (Object a) s _ (record { cell = c; there = at; member = r.base }) (λ m1.
      look_fine (kept c.site j) w (record s { met = m1 }) _ iw (λ m2.
      h (set_value a c i w (record s { met = m2 })) (good_set s.cells s.statics a c (record c { values = slice_set c.values i w }) ok at refl new))))))))

  pub member_fine : (g : Env) (e d : Ex) (x : List ℕ) → Reads L Made V g e d (L.field g e x) → (t : Kind) (a : ℕ) (c : Cell) (s : State) (k : ToValue)
      → Good s.cells s.statics → slice_get s.cells a ≡ Some c → V.value g.body e c.site ≡ true → KV s.cells (V.value g.body d) k
      → Fine (read_member L g e d x t a c s k)
  member_fine g e d x rd (an_object t) a c s k ok at mem h = read_field_fine g e d (L.field g e x) rd a c s k ok at mem h
  member_fine g e d x rd (an_array t) a c s k ok at mem h =
      bool_fine (names_length (L.field g e x) x) s _ (stop Wrong) (λ z. h _ s (here s.cells s.statics ok) tt) (fine_stop Wrong s tt)

  -- an element of an array
  pub read_element_fine : (g : Env) (e d : Ex) → ReadsElement L Made V g e d → (v : Value) (i : ℤ) (s : State) (k : ToValue) → Good s.cells s.statics
      → Of s.cells v (V.value g.body e) → KV s.cells (V.value g.body d) k → Fine (read_element L g.body d v i s k)
  unfolding ReadsElement
  read_element_fine g e d rd v i s k ok iv h =
      cell_fine v (V.value g.body e) s _ iv (λ a c at mem. some_fine (element_type c.kind) s _ (λ t et.
      fault_fine fault.Bounds (option_and_then (λ n. slice_get c.values n) (natural_of i)) s _ (λ u eu.
      let kind = own_array c.kind t et in
      let n = in_values (natural_of i) c.values u eu in
      let r = rd c.site kind.0 t (subst (λ z. Made c.site z) kind.1 (ok.cells a c at).made) kind.2 mem in
      let all : ValuesIn s.cells c.site (an_array kind.0) c.values = subst (λ z. ValuesIn s.cells c.site z c.values) kind.1 (ok.cells a c at).values in
      let iu : Of s.cells u (V.spot (put_in c.site)) = all n.0 u n.1 in
      look_fine (held g.body d) u s _ (of_sub s.cells u (V.spot (put_in c.site)) (V.spot (held g.body d)) r.looks iu) (λ m.
      h u (record s { met = m }) (here s.cells s.statics ok) (of_sub s.cells u (V.spot (put_in c.site)) (V.value g.body d) r.holds iu)))))

  fitting_fine : (u : Value) (X Y : Set) (t : Ty) (s : State) (go : State → Outcome) → Good s.cells s.statics → Of s.cells u X
      → ((q : Option ℕ) (k : Kind) → Made q k → L.is_sub (own_type k) t ≡ true → X q ≡ true → Y q ≡ true) → (Of s.cells u Y → Fine (go s))
      → Fine (on_fitting L u t s go)
  fitting_fine (Object b) X Y t s go ok iu f h =
      some_fine (slice_get s.cells b) s _ (λ d ed. bool_fine (L.is_sub (own_type d.kind) t) s go _
      (λ z. h (record { cell = d; there = ed; member = f d.site d.kind (ok.cells b d ed).made z (member_of s.cells b d X iu ed) }))
      (fine_stop (Faulted fault.ArrayStore) s tt))
  fitting_fine u X Y t s go ok iu f h = h tt

  pub write_element_fine : (g : Env) (e d : Ex) → WritesElement L Made V g e d → (v : Value) (i : ℤ) (u : Value) (s : State) (k : State → Outcome)
      → Good s.cells s.statics → Of s.cells v (V.value g.body e) → Of s.cells u (V.value g.body d) → KS s.cells k → Fine (write_element L v i u s k)
  unfolding WritesElement
  write_element_fine g e d wr v i u s k ok iv iu h =
      cell_fine v (V.value g.body e) s _ iv (λ a c at mem. some_fine (element_type c.kind) s _ (λ t et. fault_fine fault.Bounds (place_in c i) s _ (λ n en.
      let kind = own_array c.kind t et in
      let made = subst (λ z. Made c.site z) kind.1 (ok.cells a c at).made in
      let all : ValuesIn s.cells c.site (an_array kind.0) c.values = subst (λ z. ValuesIn s.cells c.site z c.values) kind.1 (ok.cells a c at).values in
      fitting_fine u (V.value g.body d) (V.spot (put_in c.site)) t s _ ok iu (λ q y my fy xy. wr c.site q kind.0 t y made kind.2 my fy mem xy) (λ ju.
      let w = convert t u in
      let iw : Of s.cells w (V.spot (put_in c.site)) = of_convert s.cells t u (V.spot (put_in c.site)) ju in
      let new : CellIn s.cells (record c { values = slice_set c.values n w }) = record {
        made = (ok.cells a c at).made;
        values = subst (λ z. ValuesIn s.cells c.site z (slice_set c.values n w)) (sym kind.1) (array_set s.cells c.site kind.0 c.values n w all iw);
      } in
      look_fine (put_in c.site) w s _ iw (λ m.
      h (set_value a c n w (record s { met = m })) (good_set s.cells s.statics a c (record c { values = slice_set c.values n w }) ok at refl new))))))

  -- the creation of this number alone
  abbrev pub only : ℕ → Set
  only n None = false
  only n (Some m) = m == n

  pub only_sub : (n : ℕ) (X : Set) → X (Some n) ≡ true → Sub (only n) X
  only_sub n X h None e = absurd (false≢true e)
  only_sub n X h (Some m) e = subst (λ z. X (Some z) ≡ true) (sym (eqb-true m n e)) h

  -- a new object or array
  pub make_fine : (g : Env) (d : Ex) (n : ℕ) (t : Kind) (vs : List Value) → Makes L Made V g d n t → ArePlain vs → (s : State) (k : ToValue)
      → Good s.cells s.statics → KV s.cells (only n) k
      → Fine (make_cell L g.body d (record { site = Some n; kind = t; values = vs }) s k)
  make_fine g d n t vs mk free s k ok h =
      let c : Cell = record { site = Some n; kind = t; values = vs } in
      let new : CellIn s.cells c = record { made = mk.made; values = values_plain s.cells (Some n) t vs free } in
      look_fine (held g.body d) (Object (length s.cells)) (add_cell c s) _ (record { cell = c; there = get_last s.cells c; member = mk.looks }) (λ m.
      h (Object (length s.cells)) (record s { cells = s.cells ++ c ∷ []; met = m }) (good_add s.cells s.statics c ok new)
      (record { cell = c; there = get_last s.cells c; member = eq-eqb n n refl }))

  -- which the creation gives
  pub gives_made : (g : Env) (d : Ex) (n : ℕ) (t : Kind) (h : List Cell) (k : ToValue) → Makes L Made V g d n t → KV h (V.value g.body d) k → KV h (only n) k
  gives_made g d n t h k mk c v s r o = c v s r (of_sub s.cells v (only n) (V.value g.body d) (only_sub n (V.value g.body d) mk.holds) o)

  pub made_fine : (later : Later) (g : Env) (d : Ex) (n c : ℕ) (vs : List Value) → Makes L Made V g d n (an_object c) → (s : State) (k : ToValue)
      → Good s.cells s.statics → KV s.cells (V.value g.body d) k → Fine (made_by L later g d n c None vs s k)
  made_fine later g d n c [] mk s k ok h =
      step_fine s _ (λ m. make_fine g d n (an_object c) (L.fresh c) mk (inc.fresh c) (record s { left = m }) k ok
      (gives_made g d n (an_object c) s.cells k mk h))
  made_fine later g d n c (v ∷ vs) mk s k ok h = fine_stop Wrong s tt

  pub make_array_fine : (g : Env) (d : Ex) (n : ℕ) (t : Ty) (size : ℤ) → Makes L Made V g d n (an_array t) → (s : State) (k : ToValue)
      → Good s.cells s.statics → KV s.cells (V.value g.body d) k → Fine (make_array L g d n t size s k)
  make_array_fine g d n t size mk s k ok h =
      some_fine (element_in t.base t.dim) s _ (λ u eu. fault_fine fault.NegativeSize (natural_of size) s _ (λ many em. step_fine s _ (λ m.
      make_fine g d n (an_array t) (defaults u many) mk (replicate_plain many (default_of u) (λ a e. default_plain u.base u.dim a e))
      (record s { left = m }) k ok (gives_made g d n (an_array t) s.cells k mk h))))

  -- a cast and an instanceof
  cast_object_fine : (g : Env) (d e : Ex) (t : Ty) → Tests L Made V g d e t → Casts L Made V g d e t → (v : Value) (s : State) (k : ToValue)
      → Good s.cells s.statics → Of s.cells v (V.value g.body e) → KV s.cells (V.value g.body d) k → Fine (cast_object L g.body d t v s k)
  unfolding Tests Casts
  cast_object_fine g d e t ts cs Nothing s k ok iv h = h Nothing s (here s.cells s.statics ok) tt
  cast_object_fine g d e t ts cs (Object a) s k ok iv h =
      some_fine (slice_get s.cells a) s _ (λ c ec.
      let mem = member_of s.cells a c (V.value g.body e) iv ec in
      let made = (ok.cells a c ec).made in
      look_fine (tested g.body d (L.is_sub (own_type c.kind) t)) (Object a) s _ (record { cell = c; there = ec; member = ts c.site c.kind made mem }) (λ m1.
      bool_fine (L.is_sub (own_type c.kind) t) (record s { met = m1 }) _ _
      (λ z. let p = cs c.site c.kind made mem z in look_fine (held g.body d) (Object a) (record s { met = m1 }) _
      (record { cell = c; there = ec; member = p.0 }) (λ m2.
      h (Object a) (record s { met = m2 }) (here s.cells s.statics ok) (record { cell = c; there = ec; member = p.1 })))
      (fine_stop (Faulted fault.ClassCast) (record s { met = m1 }) tt)))
  cast_object_fine g d e t ts cs v s k ok iv h = fine_stop Wrong s tt

  cast_number_plain : (b : TyBase) (n : ℤ) (h : List Cell) (X : Set) → Of h (cast_number b n) X
  cast_number_plain Char n h X = tt
  cast_number_plain _ n h X = tt

  pub cast_fine : (g : Env) (d e : Ex) (t : Ty) → Tests L Made V g d e t → Casts L Made V g d e t → (v : Value) (s : State) (k : ToValue)
      → Good s.cells s.statics → Of s.cells v (V.value g.body e) → KV s.cells (V.value g.body d) k → Fine (cast_to L g.body d t v s k)
  cast_fine g d e t ts cs v s k ok iv h =
      bool_fine (is_number_type t.base t.dim) s _ _ (λ z. some_fine (number_of v) s _ (λ n en. h (cast_number t.base n) s (here s.cells s.statics ok)
      (cast_number_plain t.base n s.cells (V.value g.body d)))) (cast_object_fine g d e t ts cs v s k ok iv h)

  pub test_class_fine : (g : Env) (d e : Ex) (t : ℕ) → Tests L Made V g d e (class_type t) → (v : Value) (s : State) (k : ToValue)
      → Good s.cells s.statics → Of s.cells v (V.value g.body e) → KV s.cells (V.value g.body d) k → Fine (test_class L g.body d t v s k)
  unfolding Tests
  test_class_fine g d e t ts Nothing s k ok iv h = h (Truth false) s (here s.cells s.statics ok) tt
  test_class_fine g d e t ts (Object a) s k ok iv h =
      some_fine (slice_get s.cells a) s _ (λ c ec.
      look_fine (tested g.body d (L.is_sub (own_type c.kind) (class_type t))) (Object a) s _
      (record { cell = c; there = ec; member = ts c.site c.kind (ok.cells a c ec).made (member_of s.cells a c (V.value g.body e) iv ec) }) (λ m.
      h _ (record s { met = m }) (here s.cells s.statics ok) tt))
  test_class_fine g d e t ts v s k ok iv h = fine_stop Wrong s tt

  -- a body that runs
  pub record FrameIn (h : List Cell) (f : Frame) : Type 0 where
    pub self : Of h f.self (V.spot (self_of f.env.body))
    pub locals : (x : ℕ) (v : Value) → slice_get f.locals x ≡ Some v → Of h v (V.spot (bound f.env.body x))

  pub frame_kept : (h k : List Cell) (f : Frame) → Keeps h k → FrameIn h f → FrameIn k f
  frame_kept h k f q p = record {
    self = of_kept h k f.self (V.spot (self_of f.env.body)) q p.self;
    locals = λ x v e. of_kept h k v
        (V.spot (bound f.env.body x)) q (p.locals x v e);
  }

  pub frame_set : (h : List Cell) (f : Frame) (x : ℕ) (u : Value) → FrameIn h f → Of h u (V.spot (bound f.env.body x)) → FrameIn h (set_local f x u)
  frame_set h f x u p q = record {
    self = p.self;
    locals = λ y v e. ⊎_elim (λ s. subst (λ z. Of h z (V.spot (bound f.env.body y))) s.1 (subst (λ z. Of h u (V.spot (bound f.env.body z))) s.0 q))
        (λ g. p.locals y v g) (set_cases f.locals x y u v e);
  }

  abbrev pub FlowIn : Env → List Cell → Flow → Type 0
  FlowIn g h Next = Unit {0}
  FlowIn g h Broke = Unit {0}
  FlowIn g h Continued = Unit {0}
  FlowIn g h (Gave v) = Of h v (V.spot (result_of g.body))

  abbrev pub KF : Env → List Cell → ToFlow → Type 0
  KF g h k = (w : Flow) (f : Frame) (s : State) → From h s.cells s.statics → f.env ≡ g → FrameIn s.cells f → FlowIn g s.cells w → Fine (k w f s)

  pub kf_on : (g d : Env) (h l : List Cell) (k : ToFlow) → d ≡ g → Keeps h l → KF g h k → KF d l k
  kf_on g d h l k e r c = subst (λ z. KF z l k) (sym e) (λ w f s p q fo wo. c w f s (from_on h l s.cells s.statics r p) q fo wo)

  pub given_in : (b : Body) (h : List Cell) (w : Flow) → ((a : ℕ) → b.ends ≡ Object a → ⊥) → FlowIn b.env h w → Of h (given b w) (V.spot (result_of b.env.body))
  given_in b h Next p q = plain_of h b.ends (V.spot (result_of b.env.body)) p
  given_in b h Broke p q = plain_of h b.ends (V.spot (result_of b.env.body)) p
  given_in b h Continued p q = plain_of h b.ends (V.spot (result_of b.env.body)) p
  given_in b h (Gave v) p q = q

  -- the values of arguments
  abbrev pub Ins : List Cell → Env → List Value → Exs → Type 0
  Ins h g [] no_ex = Unit {0}
  Ins h g (v ∷ vs) (ex_then e es) = Of h v (V.value g.body e) × Ins h g vs es
  Ins h g _ _ = ⊥

  pub ins_kept : (h k : List Cell) (g : Env) (vs : List Value) (es : Exs) → Keeps h k → Ins h g vs es → Ins k g vs es
  ins_kept h k g [] no_ex r p = tt
  ins_kept h k g (v ∷ vs) (ex_then e es) r p = (of_kept h k v (V.value g.body e) r p.0, ins_kept h k g vs es r p.1)
  ins_kept h k g [] (ex_then e es) r p = absurd p
  ins_kept h k g (v ∷ vs) no_ex r p = absurd p

  pub ins_args : (h : List Cell) (g : Env) (vs : List Value) (es : Exs) (X : ℕ → Set) → Ins h g vs es → Passes L Made V g es X → ArgsIn h vs X
  ins_args h g [] no_ex X p q = tt
  ins_args h g (v ∷ vs) (ex_then e es) X p q = (of_sub h v (V.value g.body e) (X 0) q.0 p.0, ins_args h g vs es (λ x. X (suc x)) p.1 q.1)
  ins_args h g [] (ex_then e es) X p q = absurd p
  ins_args h g (v ∷ vs) no_ex X p q = absurd p

  pub write_local_fine : (x : ℕ) (v : Value) (f : Frame) (s : State) (k : ToFlow) → Good s.cells s.statics → FrameIn s.cells f
      → Of s.cells v (V.spot (bound f.env.body x)) → KF f.env s.cells k → Fine (write_local L x v f s k)
  write_local_fine x v f s k ok fo o h =
      some_fine (slice_get f.env.locals x) s _ (λ t et. some_fine (slice_get f.locals x) s _ (λ old eo.
      let c = of_convert s.cells t v (V.spot (bound f.env.body x)) o in
      look_fine (bound f.env.body x) (convert t v) s _ c (λ m. h Next (set_local f x (convert t v)) (record s { met = m }) (here s.cells s.statics ok)
      refl (frame_set s.cells f x (convert t v) fo c) tt)))

  -- what makes no object
  pub string_fine : (u : List ℕ) (s : State) (X : Set) (k : ToValue) → Good s.cells s.statics → KV s.cells X k → Fine (give_string u s k)
  string_fine u s X k ok h = h _ _ (here s.cells s.statics ok) tt

  pub string_call_fine : (m : StringMethod) (u : List ℕ) (vs : List Value) (s : State) (X : Set) (k : ToValue) → Good s.cells s.statics → KV s.cells X k
      → Fine (string_call m u vs s k)
  string_call_fine LengthOf u [] s X k ok h = h _ s (here s.cells s.statics ok) tt
  string_call_fine LengthOf u (v ∷ vs) s X k ok h = fine_stop Wrong s tt
  string_call_fine CharAt u [] s X k ok h = fine_stop Wrong s tt
  string_call_fine CharAt u (v ∷ []) s X k ok h =
      some_fine (number_of v) s _ (λ i ei. fault_fine fault.Bounds (option_and_then (λ n. slice_get u n) (natural_of i)) s _
      (λ c ec. h (CodeUnit c) s (here s.cells s.statics ok) tt))
  string_call_fine CharAt u (v ∷ w ∷ vs) s X k ok h = fine_stop Wrong s tt
  string_call_fine Equals u [] s X k ok h = fine_stop Wrong s tt
  string_call_fine Equals u (v ∷ []) s X k ok h = some_fine (equals_value s.strings u v) s _ (λ b eb. h (Truth b) s (here s.cells s.statics ok) tt)
  string_call_fine Equals u (v ∷ w ∷ vs) s X k ok h = fine_stop Wrong s tt

  pub unary_fine : (o : UnOp) (v : Value) (s : State) (X : Set) (k : ToValue) → Good s.cells s.statics → KV s.cells X k
      → Fine (with_some (unary_value o v) s (λ u. k u s))
  unary_fine o v s X k ok h = some_fine (unary_value o v) s _ (λ u e. h u s (here s.cells s.statics ok)
      (plain_of s.cells u X (λ a d. apart o (e ∙ ap (λ z. Some z) d))))
    where
      no_truth : (b : Option Bool) (a : ℕ) → option_map (λ b. Truth (not b)) b ≡ Some (Object a) → ⊥
      no_truth None a e = cc
      no_truth (Some b) a e = let z = same_Some (Truth (not b)) (Object a) e in cc

      no_number : (f : ℤ → ℤ) (b : Option ℤ) (a : ℕ) → option_map (λ z. Number (f z)) b ≡ Some (Object a) → ⊥
      no_number f None a e = cc
      no_number f (Some b) a e = let z = same_Some (Number (f b)) (Object a) e in cc

      apart : {a : ℕ} → (o : UnOp) → unary_value o v ≡ Some (Object a) → ⊥
      apart {a = a} un.Not e = no_truth (truth_of v) a e
      apart {a = a} un.Plus e = no_number _ (number_of v) a e
      apart {a = a} un.Minus e = no_number _ (number_of v) a e
      apart {a = a} un.Flip e = no_number _ (number_of v) a e

  join_fine : (v w : Value) (s : State) (X : Set) (k : ToValue) → Good s.cells s.statics → KV s.cells X k → Fine (join_values v w s k)
  join_fine v w s X k ok h = some_fine (text_of s.strings v) s _ (λ a ea. some_fine (text_of s.strings w) s _
      (λ b eb. result_fine (join a b) s _ (λ u. string_fine u s X k ok h)))

  compute_fine : (joins : Bool) (a b : Option ℤ) (v w : Value) (o : Op) (s : State) (X : Set) (k : ToValue) → Good s.cells s.statics → KV s.cells X k
      → Fine (compute joins a b v w o s k)
  compute_fine joins (Some a) (Some b) v w o s X k ok h = result_fine (arith o a b) s _ (λ n. h (Number n) s (here s.cells s.statics ok) tt)
  compute_fine joins (Some a) None v w o s X k ok h = bool_fine joins s _ _ (λ z. join_fine v w s X k ok h) (fine_stop Wrong s tt)
  compute_fine joins None b v w o s X k ok h = bool_fine joins s _ _ (λ z. join_fine v w s X k ok h) (fine_stop Wrong s tt)

  pub operate_fine : (o : BinOp) (v w : Value) (s : State) (X : Set) (k : ToValue) → Good s.cells s.statics → KV s.cells X k → Fine (operate o v w s k)
  operate_fine (bin.Int o) v w s X k ok h = compute_fine _ (number_of v) (number_of w) v w o s X k ok h
  operate_fine bin.Same v w s X k ok h = some_fine (same_value v w) s _ (λ b e. h (Truth b) s (here s.cells s.statics ok) tt)
  operate_fine bin.Differs v w s X k ok h =
      some_fine (same_value v w) s _ (λ b e. bool_fine b s _ _ (λ z. h (Truth false) s (here s.cells s.statics ok) tt)
      (h (Truth true) s (here s.cells s.statics ok) tt))
  operate_fine bin.Both v w s X k ok h = some_fine (truth_of w) s _ (λ b e. h (Truth b) s (here s.cells s.statics ok) tt)
  operate_fine bin.Either v w s X k ok h = some_fine (truth_of w) s _ (λ b e. h (Truth b) s (here s.cells s.statics ok) tt)
  operate_fine o v w s X k ok h =
      some_fine (number_of v) s _ (λ a ea. some_fine (number_of w) s _
      (λ b eb. some_fine (compared o a b) s _ (λ t e. h (Truth t) s (here s.cells s.statics ok) tt)))

  pub after_left_fine : (o : BinOp) (v : Value) (s : State) (right : State → Outcome) (X : Set) (k : ToValue) → Good s.cells s.statics → Fine (right s)
      → KV s.cells X k → Fine (after_left o v s right k)
  after_left_fine bin.Both v s right X k ok r h = test_fine v s _ _ r (h (Truth false) s (here s.cells s.statics ok) tt)
  after_left_fine bin.Either v s right X k ok r h = test_fine v s _ _ (h (Truth true) s (here s.cells s.statics ok) tt) r
  after_left_fine _ v s right X k ok r h = r

  pub after_one_fine : (g : Env) (w : Flow) (f : Frame) (s : State) (k : ToFlow) (on : Frame → State → Outcome) → Good s.cells s.statics → f.env ≡ g
      → FrameIn s.cells f → FlowIn g s.cells w → KF g s.cells k → Fine (on f s) → Fine (after_one w f s on k)
  after_one_fine g Next f s k on ok e fo wo h d = d
  after_one_fine g Broke f s k on ok e fo wo h d = h Broke f s (here s.cells s.statics ok) e fo wo
  after_one_fine g Continued f s k on ok e fo wo h d = h Continued f s (here s.cells s.statics ok) e fo wo
  after_one_fine g (Gave v) f s k on ok e fo wo h d = h (Gave v) f s (here s.cells s.statics ok) e fo wo

  pub after_turn_fine : (g : Env) (w : Flow) (f : Frame) (s : State) (k : ToFlow) (on : Frame → State → Outcome) → Good s.cells s.statics → f.env ≡ g
      → FrameIn s.cells f → FlowIn g s.cells w → KF g s.cells k → Fine (on f s) → Fine (after_turn w f s on k)
  after_turn_fine g Next f s k on ok e fo wo h d = d
  after_turn_fine g Continued f s k on ok e fo wo h d = d
  after_turn_fine g Broke f s k on ok e fo wo h d = h Next f s (here s.cells s.statics ok) e fo tt
  after_turn_fine g (Gave v) f s k on ok e fo wo h d = h (Gave v) f s (here s.cells s.statics ok) e fo wo
