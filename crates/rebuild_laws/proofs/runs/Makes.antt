-- A creation of a class with a constructor, and the call of the method that makes its objects.
use Rattle.std.proofs.Common.{◌≡◌, ℕ, suc, ◌+◌, List, [], ◌∷◌, ◌++◌, Option, Some, None, length, refl, sym, ap, ◌∙◌, subst}
use Rattle.std.specs.Prelude.{Bool, true, map, slice_get, option_and_then}
use Rattle.std.specs.Option.{option_map, is_some}
use Rattle.std.proofs.lemmas.Option.{same_Some}
use Rattle.java_core.specs.declared.Ty.{Ty}
use Rattle.java_core.specs.Trees.{Ex, Exs}
use Rattle.java_core.specs.Programs.{Plain, PlainLocal, PlainMethod, PlainSlot}
use Rattle.java_core.specs.Classes.{lookup, slot_of, slot_of_method}
use Rattle.java_core.specs.Makers.{maker_of, maker_slot}
use Rattle.java_core.specs.Types.{Env, class_type, class_of, or_nothing, types_of, Signature, signature_of_method}
use Rattle.java_core.specs.Typing.{TypedArgs, t_no_ex, t_ex_then}
use Rattle.java_core.specs.Formed.{IsFormed}
use Rattle.java_meaning.specs.Moment.{Nothing, Kind, ran, Body, Lang}
use Rattle.java_meaning.specs.Values.{default_of}
use Rattle.java_meaning.specs.Languages.{body_with}
use Rattle.java_meaning.proofs.Calls.{mapped_some}
use Rattle.java_meaning.proofs.Moves.{then_some}
use Rattle.fact_model.specs.declared.facts.Facts.{Facts}
use Rattle.flow_rules.specs.declared.items.Operand.{Operand}
use Rattle.flow_rules.specs.declared.items.RowItem.TheVariants as row
use Rattle.flow_rules.specs.Labels.{label_sts}
use Rattle.flow_rules.specs.Ordered.{each}
use Rattle.flow_rules.specs.Facts.{IsFactsOf}
use Rattle.flow_laws.specs.cover.Covers.{Sets, spot_set, labelled_with, labelled_body}
use Rattle.flow_laws.proofs.cover.Bodies.{finds_body}
use Rattle.rebuild_model.specs.Renaming.{Renaming, retyped}
use Rattle.rebuild_model.specs.Makes.{HasOldSlot, IsMakeCode, IsMake}
use Rattle.rebuild_laws.proofs.types.Asked.{new_class}
use Rattle.rebuild_laws.specs.twins.Twins.{shape_of, Link, many, RunsMade, SameMake}
use Rattle.rebuild_laws.proofs.runs.Shapes.{shape_kept}
use Rattle.rebuild_laws.proofs.runs.Ties as ties
use Rattle.rebuild_laws.proofs.runs.Ties.{CallTied}

-- the shapes of the types of a slot's parameters are kept
slot_shapes : (R : Renaming) (s n : ℕ) (ts : List Ty) → map shape_of (each (λ i t. retyped (R.row_type (row.Param s i)) t ∷ []) n ts) ≡ map shape_of ts
slot_shapes R s n [] = refl
slot_shapes R s n (t ∷ ts) =
    ap (λ z. z ∷ map shape_of (each (λ i t. retyped (R.row_type (row.Param s i)) t ∷ []) (n + 1) ts)) (sym (shape_kept (R.row_type (row.Param s n)) t))
    ∙ ap (λ z. shape_of t ∷ z) (slot_shapes R s (n + 1) ts)

length_map : {A B : Type 0} (f : A → B) (xs : List A) → length (map f xs) ≡ length xs
length_map f [] = refl
length_map f (x ∷ xs) = ap suc (length_map f xs)

-- what stands behind the types of parameters
behind : (xs ys : List PlainLocal) → slice_get (types_of (xs ++ ys)) (length (types_of xs)) ≡ slice_get (types_of ys) 0
behind [] ys = refl
behind (x ∷ xs) ys = behind xs ys

-- typed arguments are as many as their types
pub args_many : (P : Plain) (g : Env) {es : Exs} {us : List Ty} → TypedArgs P g es us → many es ≡ length us
args_many P g t_no_ex = refl
args_many P g (t_ex_then te fit tes) = ap suc (args_many P g tes)

module _ (P : Plain) (formed : IsFormed P) where
  -- a method takes what its slot does
  method_takes : (m s : ℕ) (k : PlainMethod) (slot : PlainSlot) → slice_get P.methods m ≡ Some k → k.slot ≡ Some s → slice_get P.slots s ≡ Some slot
      → types_of k.params ≡ slot.params
  method_takes m s k slot e of stands =
      let i = ((formed.methods m k e).slots s).0 of in i.params ∙ ap (λ z. z.params) (same_Some i.slot slot (sym i.stands ∙ stands))

  -- a constructor takes what its slot does
  pub maker_takes : (f : ℕ) (w : HasOldSlot P f) (sig : Signature) → signature_of_method P f ≡ Some sig → sig.params ≡ w.signature.params
  maker_takes f w sig e =
      let k = mapped_some (λ (k : PlainMethod). record { params = types_of k.params; result = k.result }) (slice_get P.methods f) sig e in
      ap (λ z. z.params) (sym k.2) ∙ method_takes f w.slot k.0 w.signature k.1
      (ap (λ z. z.slot) (same_Some k.0 w.old (sym k.1 ∙ w.old_stands)) ∙ w.of_slot) w.slot_stands

module _ (P W : Plain) (F : Facts) (S : Sets) (R : Renaming) (has : Option ℕ → ℕ → Bool) (new_field new_static : ℕ → ℕ)
    (Made : Option ℕ → Kind → Kind → Type 0) (Pair : Body → Body → Type 0) (formed : IsFormed P) (facts : IsFactsOf P F) where
  abbrev L : Lang
  L = ties.L P W F S R has new_field new_static Made Pair

  abbrev M : Lang
  M = ties.M P W F S R has new_field new_static Made Pair

  abbrev K : Link
  K = ties.link P W F S R has new_field new_static Made Pair

  -- a body that is found takes what its slot does
  body_takes : (c s : ℕ) (b : Body) (slot : PlainSlot) → L.body c s ≡ Some b → slice_get P.slots s ≡ Some slot → b.params ≡ slot.params
  unfolding labelled_body
  body_takes c s b slot e stands =
      let look = then_some (labelled_body P F S) (lookup P c s) b e in
      let k = then_some (labelled_with P F S look.0) (slice_get P.methods look.0) b look.2 in
      let code = mapped_some (λ xs. body_with look.0 k.0 (label_sts 0 xs)) k.0.body b k.2 in
      let finds = finds_body P F formed facts c s look.0 k.0 look.1 k.1 (ap is_some code.1) in
      ap (λ z. z.params) (sym code.2) ∙ method_takes P formed look.0 s k.0 slot k.1 finds.slot stands

  module _ (g h : Env) (a : Ex) (o : Operand) (n c f w : ℕ) (es : Exs) (maker : maker_of P c ≡ Some f) (is : IsMake P W R n f w)
      (bare : maker_slot W is.class ≡ None) (as_many : many es ≡ length is.was.signature.params)
      (new : ties.SameNewAt P W F S R has new_field new_static Made Pair n c is.class) (row_is : o.row ≡ Some (row.New n))
      (met : (b : ℕ) → spot_set P F S (ran g.body a b) (Some n) ≡ true → ties.may_at P W F S R has new_field new_static Made Pair o (Some n) ≡ true)
      (call : CallTied P W F S R has new_field new_static Made Pair o is.was.slot f) where
    abbrev body : Body
    body = body_with w is.new is.code

    slot_is : slot_of_method P f ≡ Some is.was.slot
    slot_is = ap (option_and_then (λ (k : PlainMethod). k.slot)) is.was.old_stands ∙ is.was.of_slot

    kept : slice_get body.env.locals (length body.params) ≡ Some (class_type is.class)
    kept = behind is.new.params is.new.locals ∙ ap (λ z. slice_get z 0) is.locals

    shapes : map shape_of body.params ≡ map shape_of is.was.signature.params
    shapes = ap (map shape_of) is.params ∙ slot_shapes R is.was.slot 0 is.was.signature.params

    many_params : length is.was.signature.params ≡ length body.params
    many_params = sym (length_map shape_of is.was.signature.params) ∙ ap length (sym shapes) ∙ length_map shape_of body.params

    runs : (b : Body) → L.body c is.was.slot ≡ Some b → K.may (ran g.body a b.env.body) (Some n) ≡ true
        → RunsMade L M K Made Pair g h body (R.method_name f) is.class b
    runs b eb may =
        let z = call.bodies (Some n) is.class c is.class b slot_is (ap (new_class P W R) row_is ∙ is.row) new.made eb (met b.env.body may) in
        record {
          params = shapes ∙ ap (map shape_of) (sym (body_takes c is.was.slot b is.was.signature eb is.was.slot_stands));
          slot = z.slot;
          called = λ t. ap (λ y. option_and_then (λ v. slot_of W v (R.method_name f)) (class_of (or_nothing y))) kept ∙ z.found;
          runs = z.runs;
        }

    pub make_twin : SameMake L M K Made Pair g h a n c w es
    make_twin = record {
      class = is.class;
      new = new;
      maker = is.was.slot;
      has_maker = ap (option_and_then (slot_of_method P)) maker ∙ slot_is;
      bare = bare;
      body = body;
      found = ap (option_and_then (λ (z : PlainMethod). option_map (λ xs. body_with w z xs) z.body)) is.stands
          ∙ ap (option_map (λ xs. body_with w is.new xs)) is.new_code;
      name = R.method_name f;
      code = subst (λ i. IsMakeCode is.class (R.method_name f) i is.code) (sym (length_map (λ (v : PlainLocal). v.ty) is.new.params)) is.makes;
      as_many = as_many ∙ many_params;
      first = Nothing;
      rest = ap (map default_of) is.locals;
      kept = class_type is.class;
      local_is = kept;
      given = class_type is.class;
      result = is.result;
      runs = runs;
    }
