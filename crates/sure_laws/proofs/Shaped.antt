-- All that the bodies of a typed program do stays in the shapes of its static types, and each cast and call has its spot.
use Rattle.std.proofs.Common.{◌≡◌, ℕ, suc, List, [], ◌∷◌, ◌++◌, Option, Some, None, refl, sym, ap, ◌∙◌, subst, ⊎_elim}
use Rattle.std.specs.Prelude.{◌&&◌, ◌||◌, not, Bool, true, false, Contains, slice_get}
use Rattle.std.specs.Option.{option_map_or, option_and_then, is_some}
use Rattle.std.proofs.lemmas.Bool.{false≢true, and_parts, and_from, or_left, or_right, or_cases}
use Rattle.std.proofs.lemmas.Option.{same_Some}
use Rattle.kaba_base.specs.declared.Place.{Place}
use Rattle.java_core.specs.declared.Ty.{Ty}
use Rattle.java_core.specs.Trees.{Tag, Ex, Exs, no_ex, ex_then, this, local, static_field, own_field, field, index, call, static_call, super_call, create, create_array, cast, instance_of, unary, binary, Target, to_local, to_static, to_own, to_field, to_element, no_target, St, Sts, IfArms, declare, block, assign, act, print, choose, loop, return, break, continue, no_st, st_then, no_other, otherwise, arm}
use Rattle.java_core.specs.Programs.{PlainMethod}
use Rattle.java_core.specs.Classes.{slot_of, lookup, super_method, slot_of_method}
use Rattle.java_core.specs.Types.{Static, a_value, or_nothing, types_of, class_type, class_in, class_of, element_in, is_numeric, env_of, fits_in, Signature, signature_of_method, call_signature, super_signature, field_type, static, target_type}
use Rattle.java_core.specs.Types.{result_of as given_by}
use Rattle.java_core.specs.Typing.{are_related, can_cast, t_field, t_index, t_call, t_static_call, t_super_call, t_create, t_make, t_create_array, t_cast, t_instance_of, t_unary, t_binary, TypedArgs, t_ex_then, TypedTarget, t_to_field, t_to_element, TypedTest, t_test, TypedSt, TypedSts, TypedArms, t_declare_as, t_block, t_assign, t_act, t_print, t_choose, t_loop, t_return, t_st_then, t_otherwise, t_arm}
use Rattle.java_core.specs.Formed.{IsFormed}
use Rattle.java_meaning.specs.EachStatement.{OfOption, InSt, InSts, InArms}
use Rattle.java_meaning.specs.Moment.{Kind, an_object, an_array, own_type, bound, self_of, result_of, kept, put_in, tested, Body}
use Rattle.java_meaning.specs.Meaning.{is_number_type}
use Rattle.java_meaning.proofs.Moves.{then_some}
use Rattle.flow_rules.specs.Operands.{object_of, call_slot, call_declaration, type_in}
use Rattle.flow_rules.specs.Parts.{a_call, is_accessed, parts_assign, parts_st, parts_arms, parts_of}
use Rattle.flow_rules.specs.Lists.{site_in}
use Rattle.flow_rules.specs.Facts.{numbers}
use Rattle.flow_laws.specs.cover.Families.{Set, Family, Sub, Gives, Reads, Writes, ReadsElement, WritesElement, Passes, Enters, Calls, StaticCalls, SuperCalls, Makes, Tests, Casts, Included, IncludedAll, Assigns, included, MakerRuns}
use Rattle.flow_laws.specs.cover.Slotted.{HaveSlots}
use Rattle.flow_laws.specs.cover.Covers.{labelled_body}
use Rattle.flow_laws.proofs.cover.Each.{left, right, past, here}
use Rattle.flow_laws.proofs.cover.HasRows.{in_slot}
use Rattle.flow_laws.proofs.cover.Included.{ClosedBody, watch}
use Rattle.flow_laws.proofs.cover.Included as sets
use Rattle.flow_laws.proofs.cover.IncludedExpressions as expressions
use Rattle.flow_laws.proofs.cover.TypedParts as typed_parts
use Rattle.flow_laws.proofs.cover.TypedParts.{TypedBody}
use Rattle.flow_laws.proofs.cover.Types.{class_apart, slot_called}
use Rattle.flow_laws.proofs.cover.Walked.{walked}
use Rattle.sure_laws.proofs.Shapes.{some_of, is_there, shape, shape_object, shape_if, subtype_back, fits_shape, fits_in_shape, element_shape, element_some, class_object, variable_there, number_base}
use Rattle.sure_laws.proofs.Families.{sited, shaped, cast_there, shapes}
use Rattle.java_core.specs.Makers.{maker_of}
use Rattle.flow_laws.proofs.cover.Makers.{maker_at, maker_signature}
use Rattle.sure_laws.proofs.Spotted.{cast_found, call_spotted}

module _ (B : ClosedBody) (formed : IsFormed B.program) (slots : HaveSlots B.program) (bodied : is_some B.method.body ≡ true) where
  open B use {program as P, facts as F, sets as S, are_facts as facts, kinded, number as m, method as k, stands}
  open watch B use {at, lang as L, Made}
  open walked P m k use {
    env as g,
    type as type_at,
    operand as seen,
    operands,
    Stands,
    tree,
    tree_all as trees,
    tree_sts as sts,
    tree_if as if_there,
    IsTyped as Typed,
  }

  abbrev T : TypedBody
  T = record {
    program = P;
    facts = F;
    formed = formed;
    slots = slots;
    are_facts = facts;
    number = m;
    method = k;
    stands = stands;
    bodied = bodied;
  }

  abbrev V : Family
  V = shapes P F

  -- the shape of an expression of the body, and of a variable
  own_shape : (f : PlainMethod → Static) (q : Option ℕ) → shaped P m f q ≡ shape (f k) (sited P q)
  own_shape f q = ap (λ z. option_map_or (λ k. shape (f k) (sited P q)) z true) stands

  from_shape : (e : Ex) (q : Option ℕ) → shape (static P g e) (sited P q) ≡ true → V.value m e q ≡ true
  from_shape e q h = own_shape (λ k. static P (env_of m k) e) q ∙ h

  to_shape : (e : Ex) (q : Option ℕ) → V.value m e q ≡ true → shape (static P g e) (sited P q) ≡ true
  to_shape e q h = sym (own_shape (λ k. static P (env_of m k) e) q) ∙ h

  gives : (d : Ex) (X : Set) → Sub X (V.value m d) → Gives L Made V g d X
  gives d X f = record { looks = λ q h. refl; holds = f }

  -- what is made has a site where its type is one of a row
  made_sited : (o : Option ℕ) (h : Kind) → Made o h → is_some (object_of (own_type h)) ≡ true → sited P o ≡ true
  made_sited o h made i = let t = some_of (object_of (own_type h)) i in let s = made.sited t.0 t.1 in is_there (site_in (numbers P) o) s.0 s.1

  this_sub : (t : Tag) → Sub (V.spot (self_of m)) (V.value m (this t))
  this_sub t q h = from_shape (this t) q (or_left (sited P q) _ h)

  reads : (e d : Ex) (x : Option ℕ) → ((j : ℕ) → x ≡ Some j → static P g d ≡ or_nothing (field_type P j)) → Reads L Made V g e d x
  unfolding Reads
  reads e d x same = λ j ej o c i made ei v. record {
    base = refl;
    gives = gives d (V.spot (kept o j)) (λ q h. from_shape d q (subst (λ s. shape s (sited P q) ≡ true) (sym (same j ej)) h));
  }

  writes : (e d : Ex) (x : Option ℕ) → ((j : ℕ) → x ≡ Some j → fits_in P (static P g d) (or_nothing (field_type P j)) ≡ true) → Writes L Made V g e d x
  unfolding Writes
  writes e d x fit = λ j ej o c i made ei v. record {
    base = refl;
    gives = λ q h. fits_in_shape P (static P g d) (or_nothing (field_type P j)) (sited P q) (fit j ej) (to_shape d q h);
  }

  reads_element : (t : Tag) (e i : Ex) → ReadsElement L Made V g e (index t e i)
  unfolding ReadsElement
  reads_element t e i = λ o u w made eu v. gives (index t e i) (V.spot (put_in o)) (λ q h. from_shape (index t e i) q
      (element_shape (static P g e) (sited P o) (sited P q) (to_shape e o v) h))

  writes_element : (e d : Ex) → WritesElement L Made V g e d
  unfolding WritesElement
  writes_element e d = λ o q t u h made et mq sub v w. go o q t u h made et mq sub (site_in (numbers P) o) refl
    where
      go : (o q : Option ℕ) (t u : Ty) (h : Kind) → Made o (an_array t) → element_in t.base t.dim ≡ Some u → Made q h → L.is_sub (own_type h) u ≡ true
          → (z : Option ℕ) → site_in (numbers P) o ≡ z → not (is_some z) || sited P q ≡ true
      go o q t u h made et mq sub None e = refl
      go o q t u h made et mq sub (Some s) e =
          made_sited q h mq (subtype_back P (own_type h) u sub (element_some t.base t.dim u et (is_there (object_of t) _ (made.typed s e))))

  -- arguments
  args_pass : (es : Exs) (us : List Ty) (X : ℕ → Set) → TypedArgs P g es us
      → ((i : ℕ) (u : Ty) → slice_get us i ≡ Some u → (q : Option ℕ) → shape (a_value u) (sited P q) ≡ true → X i q ≡ true) → Passes L Made V g es X
  args_pass no_ex us X a p = tt
  args_pass (ex_then e es) [] X a p = elim a [ ]
  args_pass (ex_then e es) (u ∷ us) X (t_ex_then a f r) p = (
    (λ q h. p 0 u refl q (fits_shape P (static P g e) u (sited P q) f (to_shape e q h))),
    args_pass es us (λ i. X (suc i)) r (λ i w d. p (suc i) w d),
  )

  bound_in : (c : ℕ) (h : PlainMethod) → slice_get P.methods c ≡ Some h → (i : ℕ) (u : Ty) → slice_get (types_of h.params) i ≡ Some u → (q : Option ℕ)
      → shape (a_value u) (sited P q) ≡ true → V.spot (bound c i) q ≡ true
  bound_in c h eh i u e q s =
      ap (λ z. option_map_or (λ k. shape (or_nothing (slice_get (types_of (k.params ++ k.locals)) i)) (sited P q)) z true) eh
      ∙ subst (λ z. shape (or_nothing z) (sited P q) ≡ true) (sym (variable_there h i u e)) s

  pass_all : (es : Exs) (b : Body) (c : ℕ) (h : PlainMethod) (sig : Signature) → slice_get P.methods c ≡ Some h → b.env.body ≡ c
      → sig.params ≡ types_of h.params → TypedArgs P g es sig.params → Passes L Made V g es (λ i. V.spot (bound b.env.body i))
  pass_all es b c h sig eh eb ep args = subst (λ y. Passes L Made V g es (λ i. V.spot (bound y i))) (sym eb) (args_pass es sig.params (λ i. V.spot (bound c i))
      args (λ i u w. bound_in c h eh i u (ap (λ z. slice_get z i) (sym ep) ∙ w)))

  enters : (d : Ex) (es : Exs) (b : Body) (c : ℕ) (h : PlainMethod) (sig : Signature) → slice_get P.methods c ≡ Some h → b.env.body ≡ c
      → sig.params ≡ types_of h.params → sig.result ≡ h.result → TypedArgs P g es sig.params → static P g d ≡ or_nothing sig.result
      → Enters L Made V g d es b
  enters d es b c h sig eh eb ep er args same = record {
    args = pass_all es b c h sig eh eb ep args;
    result = subst (λ y. Gives L Made V g d (V.spot (result_of y))) (sym eb) (gives d (V.spot (result_of c)) (λ q r. from_shape d q
        (subst (λ s. shape s (sited P q) ≡ true) (sym (same ∙ ap (λ z. or_nothing z) er))
        (sym (ap (λ z. option_map_or (λ k. shape (or_nothing k.result) (sited P q)) z true) eh) ∙ r))));
  }

  -- calls
  calls : (t : Tag) (e : Ex) (x : List ℕ) (es : Exs) (sig : Signature) → call_signature P (static P g e) x ≡ Some sig → TypedArgs P g es sig.params
      → Contains (parts_of P m k) (a_call t.place (seen e) (call_slot P (type_in P m k e) x) (call_declaration P (type_in P m k e) x) (operands es)
      (seen (call t e x es)))
      → Calls L Made V g (call t e x es) e x es
  unfolding Calls
  calls t e x es sig called args part = λ o c j b made ej eb v.
      let look = then_some (labelled_body P F S) (lookup P c j) b eb in
      let f = expressions.found B look.0 b look.2 in
      let slot = (kinded.bodies c j look.0 f.method look.1 f.there f.has_body).slot in
      let cl = then_some (λ c. slot_of P c x) (class_of (static P g e)) j ej in
      let s = slot_called P (static P g e) x sig called (class_apart (static P g e) cl.0 cl.1).1 in
      let i = in_slot P formed look.0 f.method f.there j slot in
      let same : s.slot ≡ i.slot = same_Some s.slot i.slot (sym s.stands
      ∙ ap (λ z. slice_get P.slots z) (same_Some s.number j (sym s.found ∙ ej)) ∙ i.stands) in
      record {
        receiver = call_spotted B formed slots bodied t e x es j (sets.slot_seen B e x ∙ ej) part;
        self = made_sited o (an_object c) made refl;
        enters = enters (call t e x es) es b look.0 f.method sig f.there f.body_is (s.params ∙ ap (λ z. z.params) same ∙ sym i.params)
            (s.result ∙ ap (λ z. z.result) same ∙ sym i.result) args (ap (λ z. given_by z) called);
      }

  static_calls : (t : Tag) (c : ℕ) (es : Exs) (sig : Signature) → signature_of_method P c ≡ Some sig → TypedArgs P g es sig.params
      → StaticCalls L Made V g (static_call t c es) c es
  unfolding StaticCalls
  static_calls t c es sig called args = λ b eb.
      let f = expressions.found B c b eb in
      let h = typed_parts.method_sig T c sig called in
      enters (static_call t c es) es b c h.0 sig h.1 f.body_is h.2 h.3 args (ap (λ z. given_by z) called)

  super_calls : (t : Tag) (x : List ℕ) (es : Exs) (sig : Signature) → super_signature P k.owner x ≡ Some sig → TypedArgs P g es sig.params
      → SuperCalls L Made V g (super_call t x es) x es
  unfolding SuperCalls
  super_calls t x es sig called args = λ b eb.
      let look = then_some (labelled_body P F S) (super_method P k.owner x) b eb in
      let f = expressions.found B look.0 b look.2 in
      let h = typed_parts.method_sig T look.0 sig (sym (typed_parts.super_sig T x look.0 look.1) ∙ called) in
      record {
        self = λ q s. s;
        enters = enters (super_call t x es) es b look.0 h.0 sig h.1 f.body_is h.2 h.3 args (ap (λ z. given_by z) called);
      }

  -- casts and `instanceof`
  related_sited : (e : Ex) (z o : Option ℕ) → are_related P (class_of (static P g e)) z ≡ true → shape (static P g e) (sited P o) ≡ true → sited P o ≡ true
  related_sited e z o r h = let c = first_class (class_of (static P g e)) z r in
      shape_object (static P g e) (sited P o) (class_object (static P g e) c.0 c.1) h
    where
      first_class : (a z : Option ℕ) → are_related P a z ≡ true → (c : ℕ) × (a ≡ Some c)
      first_class None z h = absurd (false≢true h)
      first_class (Some a) z h = (a, refl)

  cast_sited : (e : Ex) (u : Ty) (o : Option ℕ) → can_cast P (static P g e) u ≡ true → shape (static P g e) (sited P o) ≡ true
      → sited P o || is_number_type u.base u.dim ≡ true
  cast_sited e u o can h = ⊎_elim
      (λ n. or_right (sited P o) _ (number_base u.base u.dim (and_parts (is_numeric (a_value u)) (is_numeric (static P g e)) n).0))
      (λ r. or_left (sited P o) _ (related_sited e (class_in u.base u.dim) o r h))
      (or_cases (is_numeric (a_value u) && is_numeric (static P g e)) (are_related P (class_of (static P g e)) (class_in u.base u.dim)) can)

  tests : (d e : Ex) (t : Ty) → ((b : Bool) (o : Option ℕ) → V.value m e o ≡ true → V.spot (tested m d b) o ≡ true)
      → Tests L Made V g d e t
  unfolding Tests
  tests d e t f = λ o h made v. f (L.is_sub (own_type h) t) o v

  casts : (d e : Ex) (t : Ty) → static P g d ≡ a_value t → Casts L Made V g d e t
  unfolding Casts
  casts d e t same = λ o h made v sub. (
    refl,
    from_shape d o (subst (λ s. shape s (sited P o) ≡ true) (sym same) (shape_if (Some t) (sited P o) (λ i. made_sited o h made
        (subtype_back P (own_type h) t sub i)))),
  )

  -- the constructor of a creation
  no_maker : (t : Tag) (n c : ℕ) → maker_of P c ≡ None → MakerRuns L Made V g (create t n c no_ex) n c no_ex
  unfolding MakerRuns
  no_maker t n c none = λ j b ej eb. absurd (let z = sym (ap (option_and_then (slot_of_method P)) none) ∙ ej in cc)

  maker_runs : (t : Tag) (n c d : ℕ) (es : Exs) (sig : Signature) → maker_of P c ≡ Some d → signature_of_method P d ≡ Some sig
      → TypedArgs P g es sig.params → Made (Some n) (an_object c) → MakerRuns L Made V g (create t n c es) n c es
  unfolding MakerRuns
  maker_runs t n c d es sig e called args made = λ j b ej eb.
      let look = then_some (labelled_body P F S) (lookup P c j) b eb in
      let f = expressions.found B look.0 b look.2 in
      let slot = (kinded.bodies c j look.0 f.method look.1 f.there f.has_body).slot in
      let i = in_slot P formed look.0 f.method f.there j slot in
      let w = maker_at P formed c d j e ej in
      let same : sig.params ≡ types_of f.method.params = maker_signature P c d j w sig called
      ∙ ap (λ z. z.params) (same_Some w.slot i.slot (sym w.slot_stands ∙ i.stands)) ∙ sym i.params in
      record {
        receiver = refl;
        self = made_sited (Some n) (an_object c) made refl;
        args = pass_all es b look.0 f.method sig f.there f.body_is same args;
      }

  makes : (u : Bool) (t : Tag) (n c : ℕ) (es : Exs) → Stands (tree u (create t n c es)) → Makes L Made V g (create t n c es) n (an_object c)
  makes u t n c es st =
      let w = (expressions.included B u (create t n c es) st).1.made in
      record {
        made = w;
        looks = refl;
        holds = from_shape (create t n c es) (Some n) (or_left (sited P (Some n)) _ (made_sited (Some n) (an_object c) w refl));
      }

  mutual
    pub included_ex : (u : Bool) (e : Ex) → Typed e → Stands (tree u e) → Included L Made V g e
    included_ex u (this t) a st = this_sub t
    included_ex u (local t i) a st = λ q h. h
    included_ex u (static_field t f) a st = λ q h. from_shape (static_field t f) q h
    included_ex u (own_field t f) a st = (
      this_sub t,
      reads (this t) (own_field t f) (Some f) (λ j e. ap (λ z. or_nothing (field_type P z)) (same_Some f j e)),
    )
    included_ex u (field t e x) (t_field a b) st = (
      included_ex (is_accessed e) e a (left (tree (is_accessed e) e) _ st),
      reads e (field t e x) (L.field g e x) (λ j ej. ap (λ z. or_nothing z) (typed_parts.access_of T (static P g e) x j ej)),
    )
    included_ex u (index t e i) (t_index a b c d) st = (
      included_ex true e a (left (tree true e) _ st),
      included_ex false i c (past _ _ (right (tree true e) _ st)),
      reads_element t e i,
    )
    included_ex u (call t e x es) (t_call {s = sig} a b c) st = (
      included_ex true e a (left (tree true e) _ st),
      included_all true es sig.params c (past _ _ (right (tree true e) _ st)),
      calls t e x es sig b c (here _ _ (right (tree true e) _ st)),
    )
    included_ex u (static_call t d es) (t_static_call {s = sig} a b) st = (included_all false es sig.params b (past _ _ st), static_calls t d es sig a b)
    included_ex u (super_call t x es) (t_super_call {s = sig} a b c d) st = (included_all false es sig.params d (past _ _ st), super_calls t x es sig c d)
    included_ex u (create t n c no_ex) (t_create a b) st = (tt, makes u t n c no_ex st, no_maker t n c b)
    included_ex u (create t n c es) (t_make {m = d} {s = sig} a b w v) st = (
      included_all (is_some (maker_of P c)) es sig.params v (past _ (trees (is_some (maker_of P c)) es) st),
      makes u t n c es st,
      maker_runs t n c d es sig b w v (makes u t n c es st).made,
    )
    included_ex u (create_array t n v e) (t_create_array a b) st = (
      included_ex false e a (past _ _ st),
      (let w = (expressions.included B u (create_array t n v e) st).1.made in
          record {
            made = w;
            looks = refl;
            holds = from_shape (create_array t n v e) (Some n) (shape_if (Some v) (sited P (Some n)) (λ i. made_sited (Some n) (an_array v) w i));
          }),
    )
    included_ex u (cast t n v e) (t_cast a b) st = (
      included_ex true e a (past _ _ st),
      tests (cast t n v e) e v (λ z o h. and_from (sited P o || is_number_type v.base v.dim) (cast_there P F m (cast t n v e))
          (cast_sited e v o b (to_shape e o h)) (cast_found B formed slots bodied t n v e b (here _ _ st))),
      casts (cast t n v e) e v refl,
    )
    included_ex u (instance_of t n e c) (t_instance_of a b) st = (
      included_ex true e a (left (tree true e) _ st),
      tests (instance_of t n e c) e (class_type c) (λ z o h. and_from (sited P o || false) true (or_left (sited P o) false
          (related_sited e (Some c) o b (to_shape e o h))) refl),
    )
    included_ex u (unary t o e) (t_unary a b) st = included_ex false e a st
    included_ex u (binary t o e d) (t_binary a b c) st = (
      included_ex false e a (left (tree false e) (tree false d) (left (tree false e ++ tree false d) _ st)),
      included_ex false d b (right (tree false e) (tree false d) (left (tree false e ++ tree false d) _ st)),
    )
    included_ex u e a st = tt

    included_all : (u : Bool) (es : Exs) (us : List Ty) → TypedArgs P g es us → Stands (trees u es) → IncludedAll L Made V g es
    included_all u no_ex us a st = tt
    included_all u (ex_then e es) [] a st = elim a [ ]
    included_all u (ex_then e es) (y ∷ us) (t_ex_then a f r) st =
        (included_ex u e a (left (tree u e) (trees u es) st), included_all u es us r (right (tree u e) (trees u es) st))

  -- statements
  into_local : (i : ℕ) (e : Ex) → fits_in P (static P g e) (or_nothing (slice_get g.locals i)) ≡ true → Sub (V.value m e) (V.spot (bound m i))
  into_local i e f q h =
      own_shape (λ k. or_nothing (slice_get (env_of m k).locals i)) q ∙ fits_in_shape P (static P g e) (or_nothing (slice_get g.locals i)) (sited P q) f
      (to_shape e q h)

  included_if : (e : Option Ex) → TypedTest P g e → Stands (if_there e) → OfOption (Included L Made V g) e
  included_if None a st = tt
  included_if (Some e) (t_test a b) st = included_ex false e a st

  assigns : (p : Place) (b : Target) (d : Ex) → TypedTarget P g b → Typed d → fits_in P (static P g d) (target_type P g b) ≡ true
      → Stands (parts_assign P type_at m k p b d) → Assigns L Made V g b d
  assigns p (to_local t i) d a x f st = (included_ex false d x (left (tree false d) _ st), into_local i d f)
  assigns p (to_static t c) d a x f st = (
    included_ex false d x (left (tree false d) _ st),
    (λ q h. fits_in_shape P (static P g d) (or_nothing (field_type P c)) (sited P q) f (to_shape d q h)),
  )
  assigns p (to_own t c) d a x f st = (
    included_ex true d x (left (tree true d) _ st),
    this_sub t,
    writes (this t) d (Some c) (λ j e. subst (λ z. fits_in P (static P g d) (or_nothing (field_type P z)) ≡ true) (same_Some c j e) f),
  )
  assigns p (to_field t e y) d (t_to_field a i) x f st = (
    included_ex (is_accessed e) e a (left (tree (is_accessed e) e) (tree true d) (left (tree (is_accessed e) e ++ tree true d) _ st)),
    included_ex true d x (right (tree (is_accessed e) e) (tree true d) (left (tree (is_accessed e) e ++ tree true d) _ st)),
    writes e d (L.field g e y) (λ j ej. subst (λ z. fits_in P (static P g d) (or_nothing (option_and_then (field_type P) z)) ≡ true) ej f),
  )
  assigns p (to_element t e i) d (t_to_element a r v w) x f st =
      let first3 = left (tree true e ++ tree false i ++ tree true d) _ st in
      let first2 = left (tree true e ++ tree false i) (tree true d) first3 in (
        included_ex true e a (left (tree true e) (tree false i) first2),
        included_ex false i v (right (tree true e) (tree false i) first2),
        included_ex true d x (right (tree true e ++ tree false i) (tree true d) first3),
        writes_element e d,
      )
  assigns p no_target d a x f st = tt

  mutual
    included_st : (x : St) → TypedSt P g x → Stands (parts_st P type_at m k x) → InSt (included L Made V g) x
    included_st (declare t i None) a st = tt
    included_st (declare t i (Some e)) (t_declare_as a b) st = (included_ex false e a (left (tree false e) _ st), into_local i e b)
    included_st (block t xs) (t_block a) st = included_sts xs a st
    included_st (assign t b e) (t_assign a x y) st = assigns t.place b e a x y st
    included_st (act t e) (t_act a) st = included_ex false e a st
    included_st (print t l None) a st = tt
    included_st (print t l (Some e)) (t_print a b) st = included_ex false e a st
    included_st (choose t xs) (t_choose a) st = included_arms xs a st
    included_st (loop t is_while first test step body) (t_loop a b v w) st =
        let first3 = left (sts first ++ if_there test ++ sts step) (sts body) st in
        let first2 = left (sts first ++ if_there test) (sts step) first3 in (
          included_sts first a (left (sts first) (if_there test) first2),
          included_if test b (right (sts first) (if_there test) first2),
          included_sts step v (right (sts first ++ if_there test) (sts step) first3),
          included_sts body w (right (sts first ++ if_there test ++ sts step) (sts body) st),
        )
    included_st (return t None) a st = tt
    included_st (return t (Some e)) (t_return {u = u} a b f) st = (
      included_ex false e a (left (tree false e) _ st),
      (λ q h. own_shape (λ k. or_nothing k.result) q ∙ subst (λ z. shape (or_nothing z) (sited P q) ≡ true) (sym b)
          (fits_shape P (static P g e) u (sited P q) f (to_shape e q h))),
    )
    included_st (break t) a st = tt
    included_st (continue t) a st = tt

    pub included_sts : (xs : Sts) → TypedSts P g xs → Stands (sts xs) → InSts (included L Made V g) xs
    included_sts no_st a st = tt
    included_sts (st_then x xs) (t_st_then a b) st = (
      included_st x a (left (parts_st P type_at m k x) (sts xs) st),
      included_sts xs b (right (parts_st P type_at m k x) (sts xs) st),
    )

    included_arms : (xs : IfArms) → TypedArms P g xs → Stands (parts_arms P type_at m k xs) → InArms (included L Made V g) xs
    included_arms no_other a st = tt
    included_arms (otherwise xs) (t_otherwise a) st = included_sts xs a st
    included_arms (arm e xs more) (t_arm a b v w) st =
        let first2 = left (tree false e ++ sts xs) (parts_arms P type_at m k more) st in (
          included_ex false e a (left (tree false e) (sts xs) first2),
          included_sts xs v (right (tree false e) (sts xs) first2),
          included_arms more w (right (tree false e ++ sts xs) (parts_arms P type_at m k more) st),
        )
