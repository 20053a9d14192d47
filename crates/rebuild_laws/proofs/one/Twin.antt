-- Bodies of two programs that are one are twins, where one of the two runs is watched for nothing but that each object is there.
use Rattle.std.proofs.Common.{◌≡◌, ℕ, List, Option, Some, None, refl, sym, ap, ◌∙◌, subst}
use Rattle.std.specs.Prelude.{true, slice_get}
use Rattle.std.specs.Option.{is_some, option_map, option_and_then}
use Rattle.std.proofs.lemmas.Option.{same_Some}
use Rattle.java_core.specs.declared.Ty.{Ty}
use Rattle.java_core.specs.Trees.{Ex, Exs, this, call, create, cast, instance_of, Target, St, Sts, IfArms, Tag}
use Rattle.java_core.specs.Programs.{Plain, PlainField, PlainMethod}
use Rattle.java_core.specs.Classes.{slot_of, member_field}
use Rattle.java_core.specs.Types.{Env, StringMethod, class_type, field_in, static}
use Rattle.java_meaning.specs.TypedLang.{Stands, StandAll, StandsTarget, standing}
use Rattle.java_meaning.specs.EachStatement.{OfOption, InSt, InSts, InArms}
use Rattle.java_meaning.specs.Paired.{pair_none, pair_some, pair_declare, pair_block, pair_assign, pair_act, pair_print, pair_choose, pair_loop, pair_return, pair_break, pair_continue, pair_no_st, pair_st_then, pair_no_other, pair_otherwise, pair_arm}
use Rattle.java_meaning.specs.Moment.{Kind, an_object, an_array, own_type, Body, Lang}
use Rattle.java_meaning.specs.Meaning.{element_type, names_length, text_method}
use Rattle.java_meaning.specs.Languages.{body_with, body_of, slot_in, language_of}
use Rattle.java_meaning.proofs.Calls.{mapped_some}
use Rattle.rebuild_model.specs.OneBodies.{One, OneAll, OneTarget, OneIf, OneSt, OneSts, OneArms, o_number, o_character, o_text, o_truth, o_null, o_this, o_local, o_static_field, o_own_field, o_own_written, o_written_own, o_field, o_index, o_call, o_static_call, o_super_call, o_create, o_create_array, o_cast, o_instance_of, o_unary, o_binary, o_no_ex, o_ex_then, o_to_local, o_to_static, o_to_own, o_to_own_written, o_to_written_own, o_to_field, o_to_element}
use Rattle.rebuild_model.specs.OnePrograms.{BothRelated, neither, both}
use Rattle.rebuild_laws.specs.twins.Twins.{Link, BothPair, SameNew, SameStatic, SameField, SameCall, SameMaker, neither_makes, both_make, SameTest, SameStore, Same, SameAll, SameTarget, SameIf, SameSt, SameSts, SameArms}
use Rattle.rebuild_laws.specs.twins.Twins.{same_number, same_character, same_text, same_truth, same_null, same_this, same_local, same_static_field, same_own_field, same_own, same_written, same_field, same_index, same_call, same_static_call, same_super_call, same_create, same_create_array, same_cast, same_instance_of, same_unary, same_binary, same_no_ex, same_ex_then, same_to_local, same_to_static, same_to_own, same_to_both, same_to_written, same_to_field, same_to_element}
use Rattle.rebuild_laws.proofs.one.Related.{from_first, then_both}
use Rattle.rebuild_laws.proofs.one.Found.{Ones, OneClass, FieldPair, field_pair, field_second, MethodPair, method_pair, super_methods, SlotPair, slots_both, lookups}
use Rattle.rebuild_laws.proofs.one.Makers.{maker_slots}
use Rattle.rebuild_laws.proofs.one.Statics.{OneType, one_shape, one_subtype, OneStatic, classes_of, elements, fields_in, class_one, EnvPair, found_second, found_first, statics}
use Rattle.rebuild_laws.proofs.one.Laid.{fresh_values}
use Rattle.rebuild_laws.proofs.one.Seen.{seen}

module _ (K : Ones) where
  abbrev P : Plain
  P = K.first

  abbrev Q : Plain
  Q = K.second

  abbrev L : Lang
  L = seen P

  abbrev M : Lang
  M = language_of Q

  -- what a creation makes in the first, and in the second
  pub data OneKind : Kind → Kind → Type 0 where
    one_object : {c d : ℕ} → OneClass K c d → OneKind (an_object c) (an_object d)
    one_array : {t u : Ty} → OneType K t u → OneKind (an_array t) (an_array u)

  abbrev pub Made : Option ℕ → Kind → Kind → Type 0
  Made o k l = OneKind k l

  class_kind : (c d : ℕ) → OneKind (an_object c) (an_object d) → OneClass K c d
  class_kind c d (one_object o) = o

  own_one : {k l : Kind} → OneKind k l → OneType K (own_type k) (own_type l)
  own_one (one_object {c = c} {d = d} o) = class_one K c d o
  own_one (one_array p) = p

  elements_one : {k l : Kind} (t u : Ty) → OneKind k l → element_type k ≡ Some t → element_type l ≡ Some u → OneType K t u
  elements_one t u (one_object o) e h = absurd (cc)
  elements_one t u (one_array {t = v} {u = w} p) e h =
      let z = from_first (element_type (an_array v)) (element_type (an_array w)) t (elements K v w p) e in
      subst (λ y. OneType K t y) (same_Some z.0 u (sym z.1 ∙ h)) z.2

  -- the number of a field in the second
  pub number_from : (f : ℕ) (o : Option PlainField) → slice_get P.fields f ≡ o → ℕ
  number_from f None e = 0
  number_from f (Some k) e = (K.one.fields.each f k e).number

  abbrev pub new_field : ℕ → ℕ
  new_field f = number_from f (slice_get P.fields f) refl

  pub new_field_is : (f g : ℕ) → FieldPair K f g → new_field f ≡ g
  unfolding number_from
  new_field_is f g p = go (slice_get P.fields f) refl
    where
      go : (o : Option PlainField) (e : slice_get P.fields f ≡ o) → number_from f o e ≡ g
      go None e = absurd (let w = sym e ∙ p.first_stands in cc)
      go (Some k) e =
          let h = K.one.fields.each f k e in
          field_second K f h.number g (record { first = k; second = h.item; first_stands = e; second_stands = h.stands; same = h.related }) p

  pub pair_of : (f : ℕ) → is_some (slice_get P.fields f) ≡ true → FieldPair K f (new_field f)
  unfolding number_from
  pair_of f there = go (slice_get P.fields f) refl there
    where
      go : (o : Option PlainField) (e : slice_get P.fields f ≡ o) → is_some o ≡ true → FieldPair K f (number_from f o e)
      go None e h = absurd (cc)
      go (Some k) e h =
          let x = K.one.fields.each f k e in record { first = k; second = x.item; first_stands = e; second_stands = x.stands; same = x.related }

  abbrev pub link : Link
  link = record {
    may = λ p o. true;
    has = λ o f. is_some (slice_get P.fields f);
    new_field = new_field;
    is_static = λ f. is_some (slice_get P.fields f);
    new_static = new_field;
  }

  -- the bodies of two methods that are one
  pub record BodyPair (b c : Body) : Type 0 where
    pub number : ℕ
    pub other : ℕ
    pub pair : MethodPair K number other
    pub code : Sts
    pub written : Sts
    pub first_code : pair.first.body ≡ Some code
    pub second_code : pair.second.body ≡ Some written
    pub one : OneSts P Q code written
    pub is_first : body_with number pair.first code ≡ b
    pub is_second : body_with other pair.second written ≡ c

  pub bodies : (m n : ℕ) → MethodPair K m n → BothPair L M link Made BodyPair (body_of P m) (body_of Q n)
  bodies m n p b eb =
      let e : option_map (λ xs. body_with m p.first xs) p.first.body ≡ Some b =
      sym (ap (option_and_then (λ (k : PlainMethod). option_map (λ xs. body_with m k xs) k.body)) p.first_stands) ∙ eb in
      let x = mapped_some (λ xs. body_with m p.first xs) p.first.body b e in
      let y = from_first p.first.body p.second.body x.0 p.same.body x.1 in
      record {
        body = body_with n p.second y.0;
        found = ap (option_and_then (λ (k : PlainMethod). option_map (λ xs. body_with n k xs) k.body)) p.second_stands
            ∙ ap (option_map (λ xs. body_with n p.second xs)) y.1;
        pair = record {
          number = m;
          other = n;
          pair = p;
          code = x.0;
          written = y.0;
          first_code = x.1;
          second_code = y.1;
          one = y.2;
          is_first = x.2;
          is_second = refl;
        };
      }

  found_bodies : {o p : Option ℕ} → BothRelated (MethodPair K) o p
      → BothPair L M link Made BodyPair (option_and_then (body_of P) o) (option_and_then (body_of Q) p)
  found_bodies neither = λ b e. absurd (cc)
  found_bodies (both {x = m} {y = n} p) = bodies m n p

  static_one : (f j : ℕ) → FieldPair K f j → SameStatic L M link Made BodyPair f j
  static_one f j p = record { static = ap is_some p.first_stands; new = sym (new_field_is f j p) }

  new_one : (n c d : ℕ) → OneClass K c d → SameNew L M link Made BodyPair n c d
  new_one n c d o = record { made = one_object o; values = λ f h. fresh_values K f (new_field f) (pair_of f h) c d o }

  this_field : (S : Plain) (k : Env) (t : Tag) (x : List ℕ) → field_in S (static S k (this t)) x ≡ member_field S k.self x
  unfolding field_in
  this_field S k t x = refl

  module _ (g h : Env) (E : EnvPair K g h) where
    field_one : (e : Ex) (x y : Option ℕ) → BothRelated (FieldPair K) x y → SameField L M link Made BodyPair g h e x y
    field_one e x y r = record {
      new = λ f ef. let z = from_first x y f r ef in z.1 ∙ ap (λ i. Some i) (sym (new_field_is f z.0 z.2));
      had = λ f ef o c k made may. let z = from_first x y f r ef in ap is_some z.2.first_stands;
    }

    length_one : (x : List ℕ) {o p : Option ℕ} → BothRelated (FieldPair K) o p → names_length o x ≡ true → names_length p x ≡ true
    length_one x neither e = e
    length_one x (both p) e = e

    slots_in : (x : List ℕ) (e d : Ex) → OneStatic K (static P g e) (static Q h d) → BothRelated (SlotPair K) (slot_in P g e x) (slot_in Q h d x)
    slots_in x e d s = then_both (λ c. slot_of P c x) (λ c. slot_of Q c x) (λ c d o. slots_both K x c d o) (classes_of K s)

    text_one : (x : List ℕ) (m : StringMethod) {o p : Option ℕ} → BothRelated (SlotPair K) o p → text_method o x ≡ Some m → text_method p x ≡ Some m
    text_one x m neither e = e
    text_one x m (both p) e = absurd (cc)

    call_one : (a e d : Ex) (x : List ℕ) → BothRelated (SlotPair K) (slot_in P g e x) (slot_in Q h d x) → SameCall L M link Made BodyPair g h a e d x x
    call_one a e d x r = record {
      bodies = λ o c k i b made ei eb may.
          let z = from_first (slot_in P g e x) (slot_in Q h d x) i r ei in
          record { slot = z.0; called = z.1; runs = found_bodies (lookups K i z.0 z.2 c k (class_kind c k made)) b eb };
      texts = λ m e. text_one x m r e;
    }

    makers_in : (a : Ex) (n c d : ℕ) → OneClass K c d → {x y : Option ℕ} → L.maker c ≡ x → M.maker d ≡ y → BothRelated (SlotPair K) x y
        → SameMaker L M link Made BodyPair g h a n c d
    makers_in a n c d o e f neither = neither_makes e f
    makers_in a n c d o e f (both {x = i} {y = j} p) = both_make e f (λ b eb may. found_bodies (lookups K i j p c d o) b eb)

    maker_one : (a : Ex) (n c d : ℕ) → OneClass K c d → SameMaker L M link Made BodyPair g h a n c d
    maker_one a n c d o = makers_in a n c d o refl refl (maker_slots K c d o)

    test_one : (a : Ex) (t u : Ty) → OneType K t u → SameTest L M link Made BodyPair g h a t u
    test_one a t u p = λ o k l made may. one_subtype K (own_type k) t (own_type l) u (own_one made) p

    store_one : (e a : Ex) → SameStore L M link Made BodyPair g h e a
    store_one e a = λ o q a b k l t u made held et eu may has.
        one_subtype K (own_type k) t (own_type l) u (own_one held) (elements_one t u made et eu)

    mutual
      ex_same : {e d : Ex} → One P Q e d → Stands P g e → Stands Q h d → Same L M link Made BodyPair g h e d
      ex_same o_number a b = same_number
      ex_same o_character a b = same_character
      ex_same o_text a b = same_text
      ex_same o_truth a b = same_truth
      ex_same o_null a b = same_null
      ex_same o_this a b = same_this
      ex_same o_local a b = same_local
      ex_same (o_static_field {f = f} {g = j} p) a b = same_static_field (static_one f j (field_pair K f j p))
      ex_same (o_own_field {t = t} {f = f} {g = j} p) a b = same_own (field_one (this t) (Some f) (Some j) (both (field_pair K f j p)))
      ex_same (o_own_written {t = t} {v = v} {f = f} {x = x} p) a b =
          let z = found_second K g h E f x p a in
          same_own_field (field_one (this t) (Some f) (field_in Q (static Q h (this v)) x)
          (subst (λ y. BothRelated (FieldPair K) (Some f) y) (sym (this_field Q h v x ∙ z.found)) (both z.pair)))
      ex_same (o_written_own {v = v} {g = j} {x = x} p) a b =
          let z = found_first K g h E j x p b in
          same_written (this_field P g v x ∙ z.found) (field_one (this v) (Some z.number) (Some j) (both z.pair))
      ex_same (o_field {e = e} {d = d} {x = x} p) a b =
          let r = fields_in K x (statics K g h E p a b) in
          same_field (ex_same p a b) (field_one e (field_in P (static P g e) x) (field_in Q (static Q h d) x) r) (length_one x r)
      ex_same (o_index p q) a b = same_index (ex_same p a.0 b.0) (ex_same q a.1 b.1)
      ex_same (o_call {t = t} {e = e} {d = d} {x = x} {es = es} p ps) a b =
          same_call (ex_same p a.0 b.0) (all_same ps a.1 b.1) (call_one (call t e x es) e d x (slots_in x e d (statics K g h E p a.0 b.0)))
      ex_same (o_static_call {m = m} {n = n} p ps) a b = same_static_call (all_same ps a.1 b.1) (bodies m n (method_pair K m n p))
      ex_same (o_super_call {x = x} ps) a b = same_super_call (all_same ps a b) (found_bodies (super_methods K x g.self h.self E.self))
      ex_same (o_create {t = t} {n = n} {c = c} {d = d} {es = es} o ps) a b =
          same_create (all_same ps a b) (new_one n c d o) (maker_one (create t n c es) n c d o)
      ex_same (o_create_array {v = v} {w = w} p q) a b = same_create_array (ex_same q a.1 b.1) (record { made = one_array p; shape = one_shape K v w p })
      ex_same (o_cast {t = t} {n = n} {v = v} {w = w} {e = e} p q) a b =
          same_cast (ex_same q a b) (one_shape K v w p) (λ z. test_one (cast t n v e) v w p)
      ex_same (o_instance_of {t = t} {n = n} {b = c} {c = k} {e = e} p o) a b =
          same_instance_of (ex_same p a b) (test_one (instance_of t n e c) (class_type c) (class_type k) (class_one K c k o))
      ex_same (o_unary p) a b = same_unary (ex_same p a b)
      ex_same (o_binary p q) a b = same_binary (ex_same p a.0 b.0) (ex_same q a.1 b.1)

      all_same : {es ds : Exs} → OneAll P Q es ds → StandAll P g es → StandAll Q h ds → SameAll L M link Made BodyPair g h es ds
      all_same o_no_ex a b = same_no_ex
      all_same (o_ex_then p ps) a b = same_ex_then (ex_same p a.0 b.0) (all_same ps a.1 b.1)

    target_same : (v : Ex) {b c : Target} → OneTarget P Q b c → StandsTarget P g b → StandsTarget Q h c → SameTarget L M link Made BodyPair g h v b c
    target_same v o_to_local a b = same_to_local
    target_same v (o_to_static {f = f} {g = j} p) a b = same_to_static (static_one f j (field_pair K f j p))
    target_same v (o_to_own {t = t} {f = f} {g = j} p) a b = same_to_both (field_one (this t) (Some f) (Some j) (both (field_pair K f j p)))
    target_same w (o_to_own_written {t = t} {v = v} {f = f} {x = x} p) a b =
        let z = found_second K g h E f x p a in
        same_to_own (field_one (this t) (Some f) (field_in Q (static Q h (this v)) x)
        (subst (λ y. BothRelated (FieldPair K) (Some f) y) (sym (this_field Q h v x ∙ z.found)) (both z.pair)))
    target_same w (o_to_written_own {v = v} {g = j} {x = x} p) a b =
        let z = found_first K g h E j x p b in
        same_to_written (field_one (this v) (field_in P (static P g (this v)) x) (Some j)
        (subst (λ y. BothRelated (FieldPair K) y (Some j)) (sym (this_field P g v x ∙ z.found)) (both z.pair)))
    target_same v (o_to_field {e = e} {d = d} {x = x} p) a b =
        let r = fields_in K x (statics K g h E p a b) in
        same_to_field (ex_same p a b) (field_one e (field_in P (static P g e) x) (field_in Q (static Q h d) x) r)
    target_same v (o_to_element {e = e} p q) a b = same_to_element (ex_same p a.0 b.0) (ex_same q a.1 b.1) (store_one e v)

    if_same : {e d : Option Ex} → OneIf P Q e d → OfOption (Stands P g) e → OfOption (Stands Q h) d → SameIf L M link Made BodyPair g h e d
    if_same pair_none a b = pair_none
    if_same (pair_some p) a b = pair_some (ex_same p a b)

    mutual
      st_same : {x y : St} → OneSt P Q x y → InSt (standing P g) x → InSt (standing Q h) y → SameSt L M link Made BodyPair g h x y
      st_same (pair_declare p) a b = pair_declare (if_same p a.1 b.1)
      st_same (pair_block ps) a b = pair_block (sts_same ps a b)
      st_same (pair_assign {e = e} t p) a b = pair_assign (target_same e t a.0 b.0) (ex_same p a.1 b.1)
      st_same (pair_act p) a b = pair_act (ex_same p a b)
      st_same (pair_print p) a b = pair_print (if_same p a b)
      st_same (pair_choose p) a b = pair_choose (arms_same p a b)
      st_same (pair_loop p q r s) a b = pair_loop (sts_same p a.0 b.0) (if_same q a.1 b.1) (sts_same r a.2 b.2) (sts_same s a.3 b.3)
      st_same (pair_return p) a b = pair_return (if_same p a b)
      st_same pair_break a b = pair_break
      st_same pair_continue a b = pair_continue

      pub sts_same : {xs ys : Sts} → OneSts P Q xs ys → InSts (standing P g) xs → InSts (standing Q h) ys → SameSts L M link Made BodyPair g h xs ys
      sts_same pair_no_st a b = pair_no_st
      sts_same (pair_st_then p ps) a b = pair_st_then (st_same p a.0 b.0) (sts_same ps a.1 b.1)

      arms_same : {x y : IfArms} → OneArms P Q x y → InArms (standing P g) x → InArms (standing Q h) y → SameArms L M link Made BodyPair g h x y
      arms_same pair_no_other a b = pair_no_other
      arms_same (pair_otherwise ps) a b = pair_otherwise (sts_same ps a b)
      arms_same (pair_arm p ps more) a b = pair_arm (ex_same p a.0 b.0) (sts_same ps a.1 b.1) (arms_same more a.2 b.2)
