-- A program that rebuilds another is its twin: bodies and their copies, fields and static members and their new numbers.
use Rattle.std.proofs.Common.{◌≡◌, ℕ, zero, suc, ◌+◌, List, [], ◌∷◌, ◌++◌, Option, Some, None, refl, sym, ap, ◌∙◌, subst, arith}
use Rattle.std.specs.Prelude.{Bool, true, false, map, slice_get, option_and_then, Contains}
use Rattle.std.specs.Option.{option_map, option_map_or, is_some}
use Rattle.std.proofs.lemmas.Option.{same_Some, slice_get-map}
use Rattle.std.proofs.lemmas.Bool.{false≢true, and_parts}
use Rattle.kaba_base.specs.declared.Place.{Place}
use Rattle.java_core.specs.declared.Ty.{Ty}
use Rattle.java_core.specs.Programs.{Plain, PlainField, PlainMethod, PlainLocal}
use Rattle.java_core.specs.Classes.{is_static_field}
use Rattle.java_core.specs.Types.{env_of, types_of, field_type}
use Rattle.java_core.specs.Typing.{IsTypedMethod}
use Rattle.java_meaning.specs.Moment.{Value, Nothing, Object, Kind, Cell, bound, Body, Lang}
use Rattle.java_meaning.specs.Values.{default_of}
use Rattle.java_meaning.specs.Meaning.{run_in}
use Rattle.java_meaning.specs.Languages.{body_with, language_of, statics_of}
use Rattle.java_meaning.proofs.Layouts.{places}
use Rattle.java_meaning.proofs.Moves.{then_some}
use Rattle.fact_model.specs.declared.facts.Facts.{Facts}
use Rattle.fact_model.specs.declared.sets.PointsTo.{PointsTo}
use Rattle.fact_model.specs.declared.sets.Table.{Table}
use Rattle.hier_model.specs.Hierarchies.{Hierarchy}
use Rattle.flow_rules.specs.declared.items.Operand.{Operand}
use Rattle.flow_rules.specs.declared.items.ColumnItem.TheVariants as column
use Rattle.flow_rules.specs.declared.items.RowItem.TheVariants as row
use Rattle.flow_rules.specs.Labels.{label_sts}
use Rattle.flow_rules.specs.Operands.{variable_row, result_in}
use Rattle.flow_rules.specs.Parts.{Part, a_load, a_creation, a_call, a_super_call, a_test, a_store, an_element_store, parts_of}
use Rattle.flow_rules.specs.Lists.{site_in}
use Rattle.flow_rules.specs.Facts.{numbers}
use Rattle.flow_laws.specs.cover.Covers.{Sets, solved, is_seen, are_seen, spot_set, labelled_with, labelled_body, watched}
use Rattle.flow_laws.specs.cover.Families.{Set, ArePlain}
use Rattle.flow_laws.specs.cover.Watched.{Of}
use Rattle.flow_laws.proofs.cover.Covered.{method_parts}
use Rattle.flow_laws.proofs.cover.Held.{default_plain}
use Rattle.rebuild_model.specs.Renaming.{Renaming, retyped, retyped_if}
use Rattle.rebuild_model.specs.Matches.{IsStaticField, IsStaticMethod}
use Rattle.rebuild_model.specs.Members.{HasTypes, HasCode, new_types}
use Rattle.rebuild_laws.specs.looks.Known.{KnownOfBoth, Offers, sides}
use Rattle.rebuild_laws.proofs.looks.Fields as fields
use Rattle.rebuild_laws.proofs.looks.Fields.{one_old_field}
use Rattle.flow_laws.proofs.NoMaker.{no_slot}
use Rattle.rebuild_laws.proofs.looks.Statics.{static_fields, static_methods}
use Rattle.rebuild_laws.proofs.types.Asked.{SeesNew}
use Rattle.rebuild_laws.proofs.types.Bodies.{have_slots, copied_locals, this_class}
use Rattle.rebuild_laws.proofs.types.Served.{renewed, served, has_slot}
use Rattle.flow_laws.proofs.cover.TypedParts.{TypedBody}
use Rattle.rebuild_laws.proofs.types.Walk.{CopiedBody, again}
use Rattle.rebuild_laws.specs.twins.Twins.{shape_of, Link, BothPair, SameBody, AreTwins}
use Rattle.rebuild_laws.proofs.twins.SameRun.{same_run}
use Rattle.rebuild_laws.proofs.twins.States.{Alike}
use Rattle.rebuild_laws.proofs.twins.Shapes.{same_default, same_defaults}
use Rattle.rebuild_laws.proofs.runs.Ties as ties
use Rattle.rebuild_laws.proofs.runs.Ties.{CreationTied, Ties, StaticsTied}
use Rattle.rebuild_laws.proofs.runs.Sited.{IsGiven, MadeAs, has, has_in, new_field, new_field_is, node_of, has_offered, words_made, some_test}
use Rattle.rebuild_laws.proofs.runs.Tied.{IsCopyOf, body_is, field_tied, call_tied, maker_tied, super_tied, access_of}
use Rattle.rebuild_laws.proofs.runs.Outcomes.{test_same, store_same}
use Rattle.rebuild_laws.proofs.runs.Creations.{created}
use Rattle.rebuild_laws.proofs.runs.Points.{at_operand, at_this}
use Rattle.rebuild_laws.proofs.runs.Shapes.{shape_kept}
use Rattle.rebuild_laws.proofs.runs.Walk.{TwinBody}
use Rattle.rebuild_laws.proofs.runs.Statements.{twin_body}

-- what the watch of sets lets pass is of the sets
seen_of : (P : Plain) (F : Facts) (S : Sets) (X : Set) (v : Value) (h : List Cell) → is_seen P F S X v h ≡ true → Of h v X
seen_of P F S X (Object a) h e = let c = some_test (slice_get h a) (λ c. X c.site) e in record { cell = c.0; there = c.1; member = c.2 }
seen_of P F S X v h e = tt

all_of : (P : Plain) (F : Facts) (S : Sets) (b n : ℕ) (vs : List Value) (h : List Cell) → are_seen P F S b n vs h ≡ true → (i j : ℕ) → j ≡ n + i
    → (v : Value) → slice_get vs i ≡ Some v → Of h v (spot_set P F S (bound b j))
all_of P F S b n [] h e i j q v d = absurd (cc)
all_of P F S b n (w ∷ vs) h e zero j q v d =
    let z = and_parts (is_seen P F S (spot_set P F S (bound b n)) w h) (are_seen P F S b (suc n) vs h) e in
    let same : n ≡ j = omega (arith, q) in
    subst (λ x. Of h x (spot_set P F S (bound b j))) (same_Some w v d)
    (subst (λ x. Of h w (spot_set P F S (bound b x))) same (seen_of P F S (spot_set P F S (bound b n)) w h z.0))
all_of P F S b n (w ∷ vs) h e (suc i) j q v d =
    let z = and_parts (is_seen P F S (spot_set P F S (bound b n)) w h) (are_seen P F S b (suc n) vs h) e in
    all_of P F S b (suc n) vs h z.1 i j (omega (arith, q)) v d

-- the shapes of new types are those of the old ones
new_shapes : (R : Renaming) (m : ℕ) (k : PlainMethod) (n : ℕ) (vs : List PlainLocal) → map shape_of (new_types R m k n vs) ≡ map shape_of (types_of vs)
new_shapes R m k n [] = refl
new_shapes R m k n (v ∷ vs) =
    ap (λ z. z ∷ map shape_of (new_types R m k (n + 1) vs)) (sym (shape_kept (R.row_type (variable_row m k n)) v.ty))
    ∙ ap (λ z. shape_of v.ty ∷ z) (new_shapes R m k (n + 1) vs)

result_shape : (k : Option ℕ) (t : Option Ty) → option_map shape_of t ≡ option_map shape_of (retyped_if k t)
result_shape k None = refl
result_shape k (Some t) = ap (λ z. Some z) (shape_kept k t)

map_join : (xs ys : List PlainLocal) → map shape_of (types_of (xs ++ ys)) ≡ map shape_of (types_of xs) ++ map shape_of (types_of ys)
map_join [] ys = refl
map_join (x ∷ xs) ys = ap (λ z. shape_of x.ty ∷ z) (map_join xs ys)

result_ends : (k : Option ℕ) (t : Option Ty) → option_map_or default_of t Nothing ≡ option_map_or default_of (retyped_if k t) Nothing
result_ends k None = refl
result_ends k (Some t) = same_default t (retyped k t) (shape_kept k t)

defaults_plain : (ts : List Ty) → ArePlain (map default_of ts)
defaults_plain [] i a e = absurd (cc)
defaults_plain (t ∷ ts) zero a e = default_plain t.base t.dim a (same_Some (default_of t) (Object a) e)
defaults_plain (t ∷ ts) (suc i) a e = defaults_plain ts i a e

first_plain : (fs : List PlainField) → ArePlain (map (λ f. default_of f.ty) fs)
first_plain [] i a e = absurd (cc)
first_plain (f ∷ fs) zero a e = default_plain f.ty.base f.ty.dim a (same_Some (default_of f.ty) (Object a) e)
first_plain (f ∷ fs) (suc i) a e = first_plain fs i a e

module _ {P : Plain} {F : Facts} {H : Hierarchy} {W : Plain} (K : KnownOfBoth P F H W) (pt : PointsTo) (t : Table) (X : IsGiven P F H pt t) where
  open X use {ready, table}
  open ready use {typed, facts, in_range as A, in_order as O, sets as S, table as B, unbroken as none, hierarchy}
  open sides K use {renaming as R}

  abbrev Made : Option ℕ → Kind → Kind → Type 0
  Made o a b = MadeAs K t o a b

  abbrev Pair : Body → Body → Type 0
  Pair b c = IsCopyOf K facts pt t A O S B table none b c

  -- the new number of a static field
  static_by : (f : ℕ) (k : PlainField) → slice_get P.fields f ≡ Some k → (b : Bool) → k.is_static ≡ b → ℕ
  static_by f k e true s = (K.rebuilt.statics.each_field f k e s).0
  static_by f k e false s = 0

  static_in : (f : ℕ) (o : Option PlainField) → slice_get P.fields f ≡ o → ℕ
  static_in f None e = 0
  static_in f (Some k) e = static_by f k e k.is_static refl

  new_static : ℕ → ℕ
  new_static f = static_in f (slice_get P.fields f) refl

  static_by_is : (f : ℕ) (k : PlainField) (e : slice_get P.fields f ≡ Some k) (b : Bool) (s : k.is_static ≡ b) → b ≡ true
      → IsStaticField P W R f (static_by f k e b s)
  unfolding static_by
  static_by_is f k e true s h = (K.rebuilt.statics.each_field f k e s).1.same
  static_by_is f k e false s h = absurd (false≢true h)

  static_in_is : (f : ℕ) (o : Option PlainField) (e : slice_get P.fields f ≡ o) → option_map_or (λ (k : PlainField). k.is_static) o false ≡ true
      → IsStaticField P W R f (static_in f o e)
  unfolding static_in
  static_in_is f None e h = absurd (false≢true h)
  static_in_is f (Some k) e h = static_by_is f k e k.is_static refl h

  new_static_is : (f : ℕ) → is_static_field P f ≡ true → IsStaticField P W R f (new_static f)
  unfolding new_static
  new_static_is f h = static_in_is f (slice_get P.fields f) refl h

  static_old : (f g : ℕ) (a : IsStaticField P W R f g) → is_static_field P f ≡ true
  static_old f g a = ap (λ z. option_map_or (λ (k : PlainField). k.is_static) z false) a.old_stands ∙ a.old_static

  abbrev L : Lang
  L = watched P F (solved pt)

  abbrev M : Lang
  M = language_of W

  abbrev link : Link
  link = ties.link P W F (solved pt) R (has K t) (new_field K t) new_static Made Pair

  -- static members
  method_copied : (d n : ℕ) → IsStaticMethod P W R d n → BothPair L M link Made Pair (L.static_body d) (M.static_body n)
  unfolding labelled_body
  method_copied d n same b eb =
      let x = (static_methods K).is d n same in
      let body = then_some (labelled_with P F (solved pt) d) (slice_get P.methods d) b eb in
      let old : x.same.old ≡ body.0 = same_Some x.same.old body.0 (sym x.same.old_stands ∙ body.1) in
      let is = body_is K facts pt t A O S B table none n x.same.new x.code.written x.same.new_stands x.code.new_code in
      record {
        body = body_with n x.same.new x.code.written;
        found = is;
        pair = record {
          number = d;
          method = body.0;
          stands = body.1;
          old_body = body.2;
          copy = n;
          new = x.same.new;
          new_stands = x.same.new_stands;
          new_body = is;
          types = subst (λ z. HasTypes R d z x.same.new) old x.types;
          code = subst (λ z. HasCode P W R d z x.same.new) old x.code;
          self = λ i. absurd (false≢true (sym i ∙ sym (ap (λ z. z.is_static) old) ∙ x.same.old_static));
        };
      }

  statics : StaticsTied P W F (solved pt) R (has K t) (new_field K t) new_static Made Pair
  statics = record {
    fields = λ f j a. record { static = static_old f j a; new = (static_fields K).one_new f j (new_static f) a (new_static_is f (static_old f j a)) };
    methods = method_copied;
  }

  made : (m : ℕ) (k : PlainMethod) (e : slice_get P.methods m ≡ Some k) (w : Place) (u : Bool) (o : Operand) (s d : Option ℕ) (es : List Operand)
      → Contains (parts_of P m k) (a_creation w u o s d es) → CreationTied P W F (solved pt) R (has K t) (new_field K t) new_static Made Pair o
  made m k e w u o s d es i = created K pt t X new_static Pair m k e (have_slots K typed facts pt t A O S B table none hierarchy) w u o s d es i

  -- what each part of a body gives
  tied : (m : ℕ) (k : PlainMethod) (e : slice_get P.methods m ≡ Some k) (c : ℕ) (p : Part) → Contains (parts_of P m k) p
      → Ties P W F (solved pt) R (has K t) (new_field K t) new_static Made Pair m c p
  tied m k e c (a_load w b (Some f) o) i = field_tied K facts pt t A O S B table none new_static b f
      (access_of K facts pt t A O S B table none new_static m k e (a_load w b (Some f) o) i)
  tied m k e c (a_creation w u o (Some s) (Some d) es) i = (
    made m k e w u o (Some s) (Some d) es i,
    maker_tied K facts pt t A O S B table none new_static m k e w u o s d es i
        (has_slot K typed facts pt t A O S B table none hierarchy o s d
        (access_of K facts pt t A O S B table none new_static m k e (a_creation w u o (Some s) (Some d) es) i)),
  )
  tied m k e c (a_creation w u o (Some s) None es) i = (made m k e w u o (Some s) None es i, tt)
  tied m k e c (a_creation w u o None d es) i = (made m k e w u o None d es i, tt)
  tied m k e c (a_call w b (Some s) (Some d) es o) i = call_tied K facts pt t A O S B table none new_static m k e w b s d es o i
      (has_slot K typed facts pt t A O S B table none hierarchy b s d
      (access_of K facts pt t A O S B table none new_static m k e (a_call w b (Some s) (Some d) es o) i))
  tied m k e c (a_super_call w (Some d) es o) i = λ x self instance ex.
      super_tied K facts pt t A O S B table none new_static m k e w d es o i c x self instance ex
  tied m k e c (a_test w x o) i = record { same = test_same K pt t X m k e w x o i }
  tied m k e c (a_store w b (Some f) o) i = field_tied K facts pt t A O S B table none new_static b f
      (access_of K facts pt t A O S B table none new_static m k e (a_store w b (Some f) o) i)
  tied m k e c (an_element_store w b o) i = λ pb po.
      record { same = store_same K pt t X m k e w b o i pb po }
  tied m k e c p i = tt

  -- a copy is the twin of its body
  copies_same : (b c : Body) → Pair b c → SameBody L M link Made Pair b c
  unfolding IsTypedMethod
  copies_same b c p =
      let m = p.number in
      let k = p.method in
      let code = p.code in
      let old : body_with m k (label_sts 0 code.code) ≡ b = same_Some (body_with m k (label_sts 0 code.code)) b
      (sym (ap (option_map (λ xs. body_with m k (label_sts 0 xs))) code.old_code) ∙ p.old_body) in
      let new : body_with p.copy p.new code.written ≡ c = same_Some (body_with p.copy p.new code.written) c
      (sym (ap (option_and_then (λ (z : PlainMethod). option_map (λ xs. body_with p.copy z xs) z.body)) p.new_stands
      ∙ ap (option_map (λ xs. body_with p.copy p.new xs)) code.new_code) ∙ p.new_body) in
      let self : k.is_static ≡ false → R.row_type (row.This m) ≡ Some p.new.owner = λ i.
      let n = p.self i in this_class K typed facts pt t A O S B table none hierarchy m k n.0 p.stands (ap is_some code.old_code) i n.1
      ∙ ap (λ z. Some z) (sym n.2) in
      let slots = have_slots K typed facts pt t A O S B table none hierarchy in
      let sees : SeesNew P W R m k (env_of p.copy p.new) = record
      { self = self; locals = copied_locals K typed facts pt t A O S B table none hierarchy m k p.new p.types code; result = p.types.result }
      in
      let params : map shape_of (types_of k.params) ≡ map shape_of (types_of p.new.params) =
      sym (ap (map shape_of) p.types.params ∙ new_shapes R m k 0 k.params) in
      let locals : map shape_of (types_of k.locals) ≡ map shape_of (types_of p.new.locals) =
      sym (ap (map shape_of) code.locals ∙ new_shapes R m k _ k.locals) in
      let h = env_of p.copy p.new in
      let there : is_some k.body ≡ true = ap is_some code.old_code in
      let body : TypedBody =
      record { program = P; facts = F; formed = K.old; slots = slots; are_facts = facts; number = m; method = k; stands = p.stands; bodied = there } in
      let serves = served K typed facts pt t A O S B table none hierarchy m k p.stands p.new.owner self in
      let copied : CopiedBody = record { body = body; written = W; renaming = R; renewed = renewed K; env = h; sees = sees; serves = serves } in
      let twin : TwinBody = record {
        body = body;
        written = W;
        renaming = R;
        sets = solved pt;
        has = has K t;
        new_field = new_field K t;
        new_static = new_static;
        Made = Made;
        Pair = Pair;
        env = h;
        tie = record {
          numbered = λ i r e. (renewed K).numbered i r e;
          statics = statics;
          self = self;
          copied = λ u sc e d te fe st me. (again copied u sc e d te fe st me).type;
          at = at_operand P K.old typed F facts m k p.stands;
          at_this = at_this P K.old typed F facts m k p.stands;
          bare = no_slot W K.rebuilt.makerless;
          kinded = method_parts P F K.old typed slots facts m k p.stands;
          ties = tied m k p.stands p.new.owner;
        };
      } in
      subst (λ z. SameBody L M link Made Pair z c) old (subst (λ z. SameBody L M link Made Pair (body_with m k (label_sts 0 code.code)) z) new (record {
        env = record {
          locals = map_join k.params k.locals ∙ ap (λ z. z ++ map shape_of (types_of k.locals)) params
              ∙ ap (λ z. map shape_of (types_of p.new.params) ++ z) locals ∙ sym (map_join p.new.params p.new.locals);
          result = result_shape (R.row_type (result_in k.slot m)) k.result ∙ ap (option_map shape_of) (sym p.types.result);
        };
        params = params;
        rest = same_defaults (types_of k.locals) (types_of p.new.locals) locals;
        plain = defaults_plain (types_of k.locals);
        ends = result_ends (R.row_type (result_in k.slot m)) k.result ∙ ap (λ z. option_map_or default_of z Nothing) (sym p.types.result);
        code = twin_body twin code.code code.written code.old_code (typed.methods m k p.stands code.code code.old_code)
            ((K.old.methods m k p.stands).code code.code code.old_code) code.matches;
      }))

  -- a field that objects of a creation keep is offered where they stand
  record IsKept (o : Option ℕ) (f : ℕ) : Type 0 where
    node : ℕ
    offers : Offers K node (column.Fld f)

  kept : (o : Option ℕ) (f : ℕ) → has K t o f ≡ true → IsKept o f
  kept o f h = let s = some_test (site_in (numbers P) o)
      (λ s. has_in K t s f) h in record { node = node_of K t s.0; offers = has_offered K t pt A O S B table none s.0 f s.2 }

  kept_apart : (o : Option ℕ) (f g : ℕ) → has K t o f ≡ true → has K t o g ≡ true → new_field K t f ≡ new_field K t g → f ≡ g
  kept_apart o f g hf hg e =
      let a = kept o f hf in
      let b = kept o g hg in
      let x = fields.new_field K f a.offers.node a.offers.stands in
      let y = fields.new_field K g b.offers.node b.offers.stands in
      let same : x.0 ≡ y.0 = sym (new_field_is K t f a.node a.offers) ∙ e ∙ new_field_is K t g b.node b.offers in
      one_old_field K f g y.0 (subst (λ z. fields.IsNewField K f z) same x.1) y.1

  -- a field of the type of another over another class has the shape of its type
  field_shape : (f g : ℕ) (old new : PlainField) (k : Option ℕ) → slice_get P.fields f ≡ Some old → slice_get W.fields g ≡ Some new
      → new.ty ≡ retyped k old.ty → option_map shape_of (field_type P f) ≡ option_map shape_of (field_type W g)
  field_shape f g old new k eo en ty =
      ap (λ z. option_map shape_of (option_map (λ (z : PlainField). z.ty) z)) eo ∙ ap (λ z. Some z) (shape_kept k old.ty)
      ∙ ap (λ z. Some (shape_of z)) (sym ty) ∙ sym (ap (λ z. option_map shape_of (option_map (λ (z : PlainField). z.ty) z)) en)

  kept_shapes : (o : Option ℕ) (f : ℕ) → has K t o f ≡ true → option_map shape_of (field_type P f) ≡ option_map shape_of (field_type W (new_field K t f))
  kept_shapes o f h =
      let a = kept o f h in
      let x = fields.new_field K f a.offers.node a.offers.stands in
      field_shape f x.0 x.1.is.old x.1.field (R.row_type (row.Field f)) x.1.is.old_stands x.1.stands x.1.is.type
      ∙ ap (λ z. option_map shape_of (field_type W z)) (sym (new_field_is K t f a.node a.offers))

  static_shapes : (f : ℕ) → is_static_field P f ≡ true → option_map shape_of (field_type P f) ≡ option_map shape_of (field_type W (new_static f))
  static_shapes f h =
      let x = (static_fields K).is f (new_static f) (new_static_is f h) in
      field_shape f (new_static f) x.same.old x.same.new (R.row_type (row.Field f)) x.same.old_stands x.same.new_stands x.type

  statics_begin : (f : ℕ) → is_static_field P f ≡ true → slice_get (statics_of P) f ≡ slice_get (statics_of W) (new_static f)
  statics_begin f h =
      let x = (static_fields K).is f (new_static f) (new_static_is f h) in
      slice_get-map (λ (z : PlainField). default_of z.ty) P.fields f ∙ ap (option_map (λ (z : PlainField). default_of z.ty)) x.same.old_stands
      ∙ ap (λ z. Some z) (same_default x.same.old.ty (retyped (R.row_type (row.Field f)) x.same.old.ty) (shape_kept (R.row_type (row.Field f)) x.same.old.ty))
      ∙ ap (λ z. Some (default_of z)) (sym x.type)
      ∙ sym (slice_get-map (λ (z : PlainField). default_of z.ty) W.fields (new_static f)
      ∙ ap (option_map (λ (z : PlainField). default_of z.ty)) x.same.new_stands)

  -- the languages of the two programs are twins
  twins : AreTwins L M link Made Pair
  twins = record {
    sees = λ p v h e. seen_of P F (solved pt) (spot_set P F (solved pt) p) v h e;
    sees_all = λ b vs h e i v d. all_of P F (solved pt) b 0 vs h e i i (from_nothing i) v d;
    passes = λ p v h. refl;
    passes_all = λ b vs h. refl;
    words = words_made K t;
    old_places = places P;
    new_places = places W;
    fields_apart = kept_apart;
    field_shapes = kept_shapes;
    statics_apart = λ f g hf hg e.
        (static_fields K).one_old f g (new_static g) (subst (λ z. IsStaticField P W R f z) e (new_static_is f hf)) (new_static_is g hg);
    static_shapes = static_shapes;
    statics = statics_begin;
    plain_statics = first_plain P.fields;
    pairs = copies_same;
  }
    where
      from_nothing : (i : ℕ) → i ≡ 0 + i
      from_nothing i = omega arith

  -- the watched run is the run of the new program, but for what it notes, unless it is wrong or escapes
  pub watched_same : (words : List (List ℕ)) (n : ℕ) → Alike (run_in L P.main words n) (run_in M W.main words n)
  watched_same words n = same_run L M link Made Pair twins P.main W.main (method_copied P.main W.main K.rebuilt.main) words n
