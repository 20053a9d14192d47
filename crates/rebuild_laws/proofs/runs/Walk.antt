-- A copy of a typed expression over new classes is its twin, where the parts of the body are tied: by induction on the expression.
use Rattle.std.proofs.Common.{◌≡◌, ℕ, zero, suc, ◌<◌, List, [], ◌∷◌, ◌++◌, Option, Some, None, length, refl, sym, ap, ◌∙◌, subst}
use Rattle.std.specs.Prelude.{◌||◌, Bool, true, false, if◌then◌else◌, option_and_then}
use Rattle.std.specs.Option.{option_map, option_map_or, is_some}
use Rattle.std.proofs.lemmas.Option.{same_Some}
use Rattle.std.proofs.lemmas.Bool.{false≢true}
use Rattle.kaba_base.specs.declared.Place.{Place}
use Rattle.java_core.specs.declared.Ty.{Ty}
use Rattle.java_core.specs.declared.TyBase.{TyBase}
use Rattle.java_core.specs.declared.TyBase.TheVariants.{Int, Boolean, Char, Str, Class}
use Rattle.java_core.specs.Trees.{Tag, Ex, Exs, no_ex, ex_then, number, character, text, truth, null, this, local, static_field, own_field, field, index, call, static_call, super_call, create, create_array, cast, instance_of, unary, binary}
use Rattle.java_core.specs.Programs.{Plain, PlainMethod}
use Rattle.java_core.specs.Makers.{maker_of, maker_slot}
use Rattle.java_core.specs.Classes.{member_field, slot_of, slot_of_method, declaration_of, super_method}
use Rattle.java_core.specs.Types.{Env, env_of, class_in, class_of, element_of, is_string, is_length, is_subtype, field_in, field_type, value_type, or_nothing, StringMethod, string_method, Signature, signature_of_slot, signature_of_method, signature_of_string, object_signature, call_signature, static}
use Rattle.java_core.specs.Typing.{TypedArgs, t_field, t_index, t_call, t_static_call, t_super_call, t_create, t_make, t_create_array, t_cast, t_instance_of, t_unary, t_binary, t_ex_then, can_cast}
use Rattle.java_core.specs.Formed.{FormedExs, f_own_field, f_field, f_index, f_call, f_static_call, f_super_call, f_create, f_create_array, f_cast, f_instance_of, f_unary, f_binary, f_ex_then}
use Rattle.java_meaning.specs.Moment.{Kind, own_type, Body, Lang}
use Rattle.java_meaning.specs.Languages.{language_of}
use Rattle.java_meaning.specs.Meaning.{is_number_type, names_length, text_method}
use Rattle.java_meaning.proofs.Holds.{some_there}
use Rattle.java_meaning.proofs.Moves.{then_some, element_class, string_class}
use Rattle.flow_rules.specs.declared.items.ObjectType.{ObjectType}
use Rattle.flow_rules.specs.declared.items.Operand.{Operand}
use Rattle.flow_rules.specs.declared.items.RowItem.{RowItem}
use Rattle.flow_rules.specs.declared.items.RowItem.TheVariants as row
use Rattle.flow_rules.specs.Operands.{object_in, object_field, call_slot, call_declaration, operand_of, this_operand, test_operand, type_in}
use Rattle.flow_rules.specs.Numbered.{row_number, number_if}
use Rattle.flow_rules.specs.Parts.{Part, nothing, a_load, a_creation, a_call, a_super_call, a_test, a_store, is_accessed}
use Rattle.flow_rules.specs.Lists.{site_in, point_at}
use Rattle.flow_rules.specs.Facts.{numbers}
use Rattle.flow_laws.specs.cover.Covers.{Sets, passes, operand_at, point_sites, held_sites, labelled_body, watched}
use Rattle.flow_rules.proofs.TypeLemmas.{class_is}
use Rattle.flow_laws.proofs.cover.Kinded.{IsKindedPart}
use Rattle.flow_laws.proofs.cover.Types.{class_apart}
use Rattle.flow_laws.proofs.cover.TypedParts as typed_parts
use Rattle.flow_laws.proofs.cover.TypedParts.{TypedBody}
use Rattle.rebuild_model.specs.Renaming.{Renaming, retyped}
use Rattle.rebuild_model.specs.Makes.{IsMake}
use Rattle.rebuild_model.specs.Matches.{MatchesAll, m_number, m_character, m_text, m_truth, m_null, m_this, m_local, m_static_field, m_own_field, m_field, m_length, m_index, m_call, m_string_call, m_static_call, m_super_call, m_create, m_make, m_create_array, m_cast, m_instance_of, m_unary, m_binary, m_no_ex, m_ex_then}
use Rattle.rebuild_laws.proofs.types.Retyped.{retyped_static, class_new, class_typed}
use Rattle.rebuild_laws.proofs.types.Walk.{copying}
use Rattle.rebuild_laws.proofs.types.Finding.{access_found, found_instance}
use Rattle.rebuild_laws.specs.twins.Twins.{Link, spot_of, many, SameField, SameLength, SameCall, neither_makes, SameMake, SameTest, Same, SameAll}
use Rattle.rebuild_laws.specs.twins.Twins.{same_number, same_character, same_text, same_truth, same_null, same_this, same_local, same_static_field, same_own_field, same_field, same_index, same_call, same_static_call, same_super_call, same_create, same_make, same_create_array, same_cast, same_instance_of, same_unary, same_binary, same_no_ex, same_ex_then}
use Rattle.rebuild_laws.proofs.runs.Ties as tied
use Rattle.rebuild_laws.proofs.runs.Ties.{type_at, type_over, FieldTied, CallTied, CreationTied, TestTied, Ties, BodyTied}
use Rattle.rebuild_laws.proofs.runs.Shapes.{shape_kept, cast_class, classless}
use Rattle.rebuild_laws.proofs.runs.Makes.{args_many, maker_takes, make_twin}
use Rattle.flow_laws.proofs.cover.Walked.{walked}
use Rattle.flow_laws.proofs.cover.Each.{left, right, past, here}

-- a body of a formed program, whose parts are tied to the new program, in which a copy of it sees h
pub record TwinBody : Type 1 where
  pub body : TypedBody
  pub written : Plain
  pub renaming : Renaming
  pub sets : Sets
  pub has : Option ℕ → ℕ → Bool
  pub new_field : ℕ → ℕ
  pub new_static : ℕ → ℕ
  pub Made : Option ℕ → Kind → Kind → Type 0
  pub Pair : Body → Body → Type 0
  pub env : Env
  pub tie : BodyTied body.program written body.facts sets renaming has new_field new_static Made Pair body.number body.method env

-- the twins of its expressions, and what ties its fields and its parts
pub record TwinWords : Type 1 where
  pub lang : Lang
  pub written : Lang
  pub link : Link
  pub Twin : Ex → Ex → Type 0
  pub HasField : Operand → ℕ → Type 0
  pub IsTied : Part → Type 0

module _ (A : TwinBody) where
  open A use {body as B, written as W, renaming as R, sets as S, has, new_field, new_static, Made, Pair, env as h}
  open B use {program as P, facts as F, number as m, method as k}

  abbrev pub twin_words : TwinWords
  twin_words = record {
    lang = watched P F S;
    written = language_of W;
    link = tied.link P W F S R has new_field new_static Made Pair;
    Twin = Same (watched P F S) (language_of W) (tied.link P W F S R has new_field new_static Made Pair) Made Pair (env_of m k) h;
    HasField = FieldTied P W F S R has new_field new_static Made Pair;
    IsTied = Ties P W F S R has new_field new_static Made Pair m h.self;
  }

module _ (A : TwinBody) where
  open A use {body as B, written as W, renaming as R, sets as S, has, new_field, new_static, Made, Pair, env as h, tie}
  open B use {program as P, facts as F, formed, are_facts, number as m, method as k, stands}
  open copying B W R use {class_at as C, IsCopy}
  open twin_words A use {lang as L, written as M, link as K, Twin, HasField as Field, IsTied as Tied}
  open walked P m k use {env as g, type, row_at, operand as O, operands, tree, tree_all, Stands, IsTyped, IsFormed as IsFormedEx, static as old}

  pub asked : (p : Part) (qs : List Part) → Stands (p ∷ qs) → Tied p
  asked p qs st = tie.ties p (here p qs st)

  -- the class of a receiver or base
  pub record IsBase (e d : Ex) : Type 0 where
    pub class : ℕ
    pub row_is : C (row_at e) ≡ Some class
    pub new : class_of (static W h d) ≡ Some class

  class_there : (i : Option RowItem) (r : ℕ) → number_if (row_number P) i ≡ Some r → (c : ℕ) × (C i ≡ Some c)
  class_there None r e = absurd (cc)
  class_there (Some i) r e = tie.numbered i r e

  classed : (u : Bool) (sc : List ℕ) (e : Ex) → IsTyped e → IsFormedEx sc e → Stands (tree u e) → (t : ObjectType) → type e ≡ Some t
      → (c : ℕ) × (C (row_at e) ≡ Some c)
  classed u sc e ty fo st t s = let r = typed_parts.row_listed B u sc e ty fo st t s in class_there (row_at e) r.0 r.1

  pub based : (u : Bool) (sc : List ℕ) (e d : Ex) (c : ℕ) → IsTyped e → IsFormedEx sc e → Stands (tree u e) → IsCopy e d → class_of (old e) ≡ Some c
      → IsBase e d
  based u sc e d c ty fo st me s =
      let r = classed u sc e ty fo st (record { class = record { 0 = c }; dim = 0 })
      (typed_parts.of_typed B e (record { class = record { 0 = c }; dim = 0 }) (class_typed (old e) c s)) in
      record {
        class = r.0;
        row_is = r.1;
        new = ap class_of (tie.copied u sc e d ty fo st me) ∙ ap (λ z. class_of (retyped_static z (old e))) r.1
            ∙ class_new r.0 (old e) c s;
      }

  -- the spots of the watch, by operands
  operand_is : (e : Ex) → operand_at P m e ≡ O e
  unfolding operand_at
  operand_is e = ap (λ z. option_map_or (λ k. operand_of P (type_in P m k) m k e) z nothing) stands

  at_operand : (e : Ex) (o : Option ℕ) → passes (point_sites P F S (operand_at P m e)) (site_in (numbers P) o) ≡ true
      → passes (point_sites P F S (O e)) (site_in (numbers P) o) ≡ true
  at_operand e o q = subst (λ z. passes (point_sites P F S z) (site_in (numbers P) o) ≡ true) (operand_is e) q

  held_operand : (e : Ex) (o : Option ℕ) → passes (held_sites P F S (operand_at P m e)) (site_in (numbers P) o) ≡ true
      → passes (held_sites P F S (O e)) (site_in (numbers P) o) ≡ true
  held_operand e o q = subst (λ z. passes (held_sites P F S z) (site_in (numbers P) o) ≡ true) (operand_is e) q

  pub at_spot : (e : Ex) (o : Option ℕ) → K.may (spot_of m e) o ≡ true → passes (held_sites P F S (O e)) (site_in (numbers P) o) ≡ true
  at_spot (local t i) o q = q
  at_spot (this t) o q = q
  at_spot (static_field t f) o q = q
  at_spot e o q = held_operand e o q

  -- the class where a field is found
  pub base_class : (e : Ex) (x : List ℕ) (f : ℕ) → field_in P (old e) x ≡ Some f → (c : ℕ) × (class_of (old e) ≡ Some c)
  base_class e x f l = typed_parts.field_class B (old e) x f l

  -- fields
  pub field_twin : (e b : Ex) (x : List ℕ) (f c : ℕ) → field_in P (old e) x ≡ Some f → C (row_at e) ≡ Some c → class_of (static W h b) ≡ Some c → Field (O e) f
      → SameField L M K Made Pair g h e (L.field g e x) (M.field h b (R.field_name f))
  unfolding field_in
  field_twin e b x f c l r n tie =
      let same : (y : ℕ) → L.field g e x ≡ Some y
      → f ≡ y = λ y ey. same_Some f y (sym l ∙ ey) in
      record {
        new = λ y ey. ap (λ z. option_and_then (λ c. member_field W c (R.field_name f)) z) n ∙ tie.new c r ∙ ap (λ z. Some (new_field z)) (same y ey);
        had = λ y ey o c k made may. subst (λ z. has o z ≡ true) (same y ey) (tie.had o c k made (at_operand e o may));
      }

  pub own_twin : (t v : Tag) (f : ℕ) → R.row_type (row.This m) ≡ Some h.self → Field (this_operand m k) f
      → SameField L M K Made Pair g h (this t) (Some f) (M.field h (this v) (R.field_name f))
  unfolding field_in
  own_twin t v f r tie = record {
    new = λ y ey. tie.new h.self r ∙ ap (λ z. Some (new_field z)) (same_Some f y ey);
    had = λ y ey o c k made may. subst (λ z. has o z ≡ true) (same_Some f y ey) (tie.had o c k made (at_operand (this t) o may));
  }

  -- an array has no field
  no_twin : (e b : Ex) (x y : List ℕ) → is_some (element_of (old e)) ≡ true → SameField L M K Made Pair g h e (L.field g e x) (M.field h b y)
  no_twin e b x y array = record { new = λ f ef. absurd (none f ef); had = λ f ef o c k made may. absurd (none f ef) }
    where
      none : (f : ℕ) → L.field g e x ≡ Some f → ⊥
      none f ef =
          let c = typed_parts.field_class B (old e) x f ef in
          false≢true (sym (ap is_some (class_apart (old e) c.0 c.1).0) ∙ array)

  -- a field is no length, and the length of an array is one in both
  no_length : (e b : Ex) (x y : List ℕ) (f : ℕ) → field_in P (old e) x ≡ Some f → SameLength L M K Made Pair g h e b x y
  no_length e b x y f l q = absurd (false≢true (sym (ap (λ z. names_length z x) l) ∙ q))

  new_classless : (u : Bool) (sc : List ℕ) (e b : Ex) → IsTyped e → IsFormedEx sc e → Stands (tree u e) → IsCopy e b → class_of (old e) ≡ None
      → class_of (static W h b) ≡ None
  new_classless u sc e b ty fo st me none = ap class_of (tie.copied u sc e b ty fo st me) ∙ classless (C (row_at e)) (old e) none

  length_twin : (e b : Ex) (x : List ℕ) → class_of (static W h b) ≡ None → SameLength L M K Made Pair g h e b x x
  unfolding field_in
  length_twin e b x none q = ap (λ z. names_length (option_and_then (λ c. member_field W c x) z) x) none ∙ named (L.field g e x) q
    where
      named : (o : Option ℕ) → names_length o x ≡ true → is_length x ≡ true
      named None q = q
      named (Some f) q = absurd (false≢true q)

  field_tie : (p : Place) (e d : Ex) (x : List ℕ) (f : ℕ) → field_in P (old e) x ≡ Some f → is_some (field_type P f) ≡ true
      → tied.IsAt P W F S R has new_field new_static Made Pair (O e) → Tied (a_load p (O e) (object_field P (type e) x) (O d)) → Field (O e) f
  field_tie p e d x f l there here q = let w = found_instance P (old e) x f l there in subst (λ z. Tied (a_load p (O e) z (O d)))
      (typed_parts.field_found B e x ∙ l) q here w.0 w.1 w.2

  pub store_tie : (p : Place) (e d : Ex) (x : List ℕ) (f : ℕ) → field_in P (old e) x ≡ Some f → is_some (field_type P f) ≡ true
      → tied.IsAt P W F S R has new_field new_static Made Pair (O e) → Tied (a_store p (O e) (object_field P (type e) x) (O d)) → Field (O e) f
  store_tie p e d x f l there here q = let w = found_instance P (old e) x f l there in subst (λ z. Tied (a_store p (O e) z (O d)))
      (typed_parts.field_found B e x ∙ l) q here w.0 w.1 w.2

  pub value_is : (b : Ex) (x : List ℕ) (f : ℕ) → field_in P (old b) x ≡ Some f → or_nothing (value_type P (old b) x) ≡ or_nothing (field_type P f)
  value_is b x f l = ap (λ z. or_nothing (option_and_then (field_type P) z)) l

  -- a creation that is stored is a point
  pub pointed : (e : Ex) → Stands (tree true e) → (n s : ℕ) → (O e).created ≡ Some n → (numbers P).site n ≡ Some s
      → (q : ℕ) × (point_at (numbers P) (O e) ≡ Some q)
  unfolding IsKindedPart
  pointed (create t n c es) st i s e d =
      (tie.kinded (a_creation t.place true (O (create t n c es)) (maker_slot P c) (maker_of P c) (operands es)) (here _ _ st)).0.point refl i s e d
  pointed (create_array t n v e) st i s h d =
      (tie.kinded (a_creation t.place true (O (create_array t n v e)) None None []) (here _ _ st)).0.point refl i s h d
  pointed _ st i s e d = absurd (cc)

  -- calls
  slot_seen : (e : Ex) (x : List ℕ) (i : ℕ) → L.slot g e x ≡ Some i → call_slot P (type e) x ≡ Some i
  slot_seen e x i q = typed_parts.slot_found B e x ∙ q

  declaration_seen : (e : Ex) (x : List ℕ) (c d : ℕ) → class_of (old e) ≡ Some c → declaration_of P c x ≡ Some d → call_declaration P (type e) x ≡ Some d
  unfolding type_in
  declaration_seen e x c d l f = ap (λ z. option_and_then (λ c. declaration_of P c x) z)
      (class_is (static P g e) ∙ l) ∙ f

  slot_is : (e : Ex) (x : List ℕ) (c f i : ℕ) → class_of (old e) ≡ Some c → declaration_of P c x ≡ Some f → L.slot g e x ≡ Some i → slot_of_method P f ≡ Some i
  slot_is e x c f i cls dcl q =
      ap (λ z. option_and_then (slot_of_method P) z) (sym dcl) ∙ ap (λ z. option_and_then (λ c. slot_of P c x) z) (sym cls) ∙ q

  -- a call that is typed on a class finds a slot
  called_slot : (e : Ex) (x : List ℕ) (c : ℕ) (sig : Signature) → class_of (old e) ≡ Some c → call_signature P (old e) x ≡ Some sig
      → (j : ℕ) × (L.slot g e x ≡ Some j)
  unfolding call_signature
  called_slot e x c sig cls q =
      let a : object_signature P (class_of (old e)) x ≡ Some sig =
      sym (ap (λ b. if b then option_map signature_of_string (string_method x) else object_signature P (class_of (old e)) x)
      (class_apart (old e) c cls).1) ∙ q in
      let j = then_some (signature_of_slot P) (slot_of P c x) sig (ap (λ z. object_signature P z x) (sym cls) ∙ a) in
      (j.0, ap (λ z. option_and_then (λ c. slot_of P c x) z) cls ∙ j.1)

  call_twin : (t : Tag) (e b : Ex) (x : List ℕ) (es : Exs) (f v c : ℕ) → class_of (old e) ≡ Some c → declaration_of P c x ≡ Some f
      → (sig : Signature) → call_signature P (old e) x ≡ Some sig
      → ((i : ℕ) → call_slot P (type e) x ≡ Some i → CallTied P W F S R has new_field new_static Made Pair (O e) i f) → C (row_at e) ≡ Some v
      → class_of (static W h b) ≡ Some v → SameCall L M K Made Pair g h (call t e x es) e b x (R.method_name f)
  call_twin t e b x es f v c0 cls dcl sig called tie r n = record {
    bodies = λ o c k i y made ei ey may.
        let z = (tie i (slot_seen e x i ei)).bodies o v c k y (slot_is e x c0 f i cls dcl ei) r made ey (at_operand e o may) in
        record { slot = z.slot; called = ap (λ z. option_and_then (λ c. slot_of W c (R.method_name f)) z) n ∙ z.found; runs = z.runs };
    texts = λ m q. absurd (let j = called_slot e x c0 sig cls called in let z = sym (ap (λ z. text_method z x) j.1) ∙ q in cc);
  }

  string_twin : (t : Tag) (e b : Ex) (x : List ℕ) (es : Exs) → is_string (old e) ≡ true → class_of (static W h b) ≡ None
      → SameCall L M K Made Pair g h (call t e x es) e b x x
  string_twin t e b x es str classless = record {
    bodies = λ o c k i z made ei ez may. absurd (none i ei);
    texts = λ m q. ap (λ z. text_method (option_and_then (λ c. slot_of W c x) z) x) classless ∙ named (L.slot g e x) m q;
  }
    where
      named : (o : Option ℕ) (m : StringMethod) → text_method o x ≡ Some m → string_method x ≡ Some m
      named None m q = q
      named (Some f) m q = absurd (cc)

      none : (i : ℕ) → option_and_then (λ c. slot_of P c x) (class_of (old e)) ≡ Some i → ⊥
      none i q = go (class_of (old e)) refl q
        where
          go : (z : Option ℕ) → class_of (old e) ≡ z → option_and_then (λ c. slot_of P c x) z ≡ Some i → ⊥
          go None w q = cc
          go (Some c) w q = false≢true (sym (class_apart (old e) c w).1 ∙ str)

  -- casts
  cast_twin : (t : Tag) (n : ℕ) (v : Ty) (e : Ex) → can_cast P (old e) v ≡ true
      → ((o : ObjectType) → type (cast t n v e) ≡ Some o → (w : ℕ) × (R.row_type (row.Cast n) ≡ Some w))
      → TestTied P W F S R has new_field new_static Made Pair (O e) (O (cast t n v e)) → is_number_type v.base v.dim ≡ false
      → SameTest L M K Made Pair g h (cast t n v e) v (retyped (R.row_type (row.Cast n)) v)
  unfolding type_in
  cast_twin t n v e can there tie plain o a b made may =
      let c = cast_class P (old e) v plain can in
      go v.base v.dim c.0 c.1 there (λ z w ez ew. tie.same o a b z w made (at_operand e o may) ez ew)
    where
      go : (y : TyBase) (d c : ℕ) → class_in y d ≡ Some c → ((z : ObjectType) → object_in y d ≡ Some z → (w : ℕ) × (R.row_type (row.Cast n) ≡ Some w))
          → ((z : ObjectType) (w : ℕ) → object_in y d ≡ Some z → R.row_type (row.Cast n) ≡ Some w
          → is_subtype P (own_type a) (type_at z) ≡ is_subtype W (own_type b) (type_over w z))
          → is_subtype P (own_type a) (record { base = y; dim = d }) ≡ is_subtype W (own_type b)
          (retyped (R.row_type (row.Cast n)) (record { base = y; dim = d }))
      go (Class x) zero c e1 there same =
          let w = there (record { class = x; dim = 0 }) refl in
          subst (λ z. is_subtype P (own_type a) (record { base = Class x; dim = 0 }) ≡ is_subtype W (own_type b)
          (retyped z (record { base = Class x; dim = 0 }))) (sym w.1) (same (record { class = x; dim = 0 }) w.0 refl w.1)
      go (Class x) (suc d) c e1 there same = absurd (cc)
      go Int d c e1 there same = absurd (cc)
      go Boolean d c e1 there same = absurd (cc)
      go Char d c e1 there same = absurd (cc)
      go Str d c e1 there same = absurd (cc)

  object_made : (t : Tag) (n c : ℕ) (es : Exs) (a : ℕ) → CreationTied P W F S R has new_field new_static Made Pair (O (create t n c es))
      → R.row_type (row.New n) ≡ Some a → tied.SameNewAt P W F S R has new_field new_static Made Pair n c a
  unfolding type_in
  object_made t n c es a tie e = tie.object n a (record { class = record { 0 = c }; dim = 0 }) refl refl refl e

  asked_creation : (u : Bool) (t : Tag) (n c : ℕ) (es : Exs) → Stands (tree u (create t n c es))
      → Tied (a_creation t.place (u || is_some (maker_of P c)) (O (create t n c es)) (maker_slot P c) (maker_of P c) (operands es))
  asked_creation u t n c es st =
      asked (a_creation t.place (u || is_some (maker_of P c)) (O (create t n c es)) (maker_slot P c) (maker_of P c) (operands es)) _ st

  -- of a class with a constructor
  make_copy : (u : Bool) (t : Tag) (n c : ℕ) (es : Exs) (f q : ℕ) → maker_of P c ≡ Some f → (is : IsMake P W R n f q) → Stands (tree u (create t n c es))
      → many es ≡ length is.was.signature.params → SameMake L M K Made Pair g h (create t n c es) n c q es
  make_copy u t n c es f q maker is st as_many =
      let d : Ex = create t n c es in
      let all = asked_creation u t n c es st in
      let slot : maker_slot P c ≡ Some is.was.slot = ap (option_and_then (slot_of_method P)) maker
      ∙ ap (option_and_then (λ (k : PlainMethod). k.slot)) is.was.old_stands ∙ is.was.of_slot in
      let call = subst (λ z. tied.MakerTied P W F S R has new_field new_static Made Pair (O d) z (Some f)) slot
      (subst (λ z. tied.MakerTied P W F S R has new_field new_static Made Pair (O d) (maker_slot P c) z) maker all.1) in
      make_twin P W F S R has new_field new_static Made Pair formed are_facts g h d (O d) n c f q es maker is (tie.bare is.class) as_many
      (object_made t n c es is.class all.0 is.row) refl (λ b may. at_operand d (Some n) may) (call (tie.at u d st))

  array_made : (t : Tag) (n : ℕ) (v : Ty) (e : Ex) → CreationTied P W F S R has new_field new_static Made Pair (O (create_array t n v e)) → 0 < v.dim
      → tied.SameArrayAt P W F S R has new_field new_static Made Pair n v (retyped (R.row_type (row.New n)) v)
  unfolding type_in
  array_made t n v e tie deep = tie.array n v refl refl deep

  mutual
    pub twin : (u : Bool) (sc : List ℕ) (e d : Ex) → IsTyped e → IsFormedEx sc e → Stands (tree u e) → IsCopy e d → Twin e d
    twin u sc (number t n) d ty fo st m_number = same_number
    twin u sc (character t c) d ty fo st m_character = same_character
    twin u sc (text t x) d ty fo st m_text = same_text
    twin u sc (truth t b) d ty fo st m_truth = same_truth
    twin u sc (null t) d ty fo st m_null = same_null
    twin u sc (this t) d ty fo st m_this = same_this
    twin u sc (local t i) d ty fo st m_local = same_local
    twin u sc (static_field t f) d ty fo st (m_static_field {h = n} s) = same_static_field (tie.statics.fields f n s)
    twin u sc (own_field t f) d ty (f_own_field s own) st (m_own_field {v = v}) =
        same_own_field (own_twin t v f (tie.self s)
        (asked (a_load t.place (this_operand m k) (Some f) (O (own_field t f))) [] st tie.at_this own.member own.stands own.kind))
    twin u sc (field t e x) d (t_field te some) (f_field fe n) st (m_field {d = b} {f = f} me l) =
        let inner = left (tree (is_accessed e) e) _ st in
        let c = typed_parts.field_class B (old e) x f l in
        let base = based (is_accessed e) sc e b c.0 te fe inner me c.1 in
        same_field (twin (is_accessed e) sc e b te fe inner me)
        (field_twin e b x f base.class l base.row_is base.new
        (field_tie t.place e (field t e x) x f l (ap is_some (sym (access_found P (old e) x f l)) ∙ some) (tie.at (is_accessed e) e inner)
        (asked (a_load t.place (O e) (object_field P (type e) x) (O (field t e x))) [] (right (tree (is_accessed e) e) _ st))))
        (no_length e b x (R.field_name f) f l)
    twin u sc (field t e x) d (t_field te some) (f_field fe n) st (m_length {d = b} me array) =
        let inner = left (tree (is_accessed e) e) _ st in
        let element = some_there (element_of (old e)) array in
        same_field (twin (is_accessed e) sc e b te fe inner me) (no_twin e b x x array)
        (length_twin e b x (new_classless (is_accessed e) sc e b te fe inner me (element_class (old e) element.0 element.1)))
    twin u sc (index t e i) d (t_index te some ti num) (f_index fe fi) st (m_index {d = b} {j = j} me mi) =
        same_index (twin true sc e b te fe (left (tree true e) _ st) me) (twin false sc i j ti fi (past _ _ (right (tree true e) _ st)) mi)
    twin u sc (call t e x es) d (t_call {s = sig} te called args) (f_call fe n fes) st (m_call {d = b} {c = c} {m = f} {ds = ds} me cls dcl mes) =
        let inner = left (tree true e) _ st in
        let base = based true sc e b c te fe inner me cls in
        let q = asked (a_call t.place (O e) (call_slot P (type e) x) (call_declaration P (type e) x) (operands es) (O (call t e x es))) _
        (right (tree true e) _ st) in
        same_call (twin true sc e b te fe inner me) (twins true sc es ds _ args fes (past _ _ (right (tree true e) _ st)) mes)
        (call_twin t e b x es f base.class c cls dcl sig called
        (λ i ei. subst (λ z. Tied (a_call t.place (O e) z (Some f) (operands es) (O (call t e x es)))) ei
        (subst (λ z. Tied (a_call t.place (O e) (call_slot P (type e) x) z (operands es) (O (call t e x es)))) (declaration_seen e x c f cls dcl) q)
        (tie.at true e inner)) base.row_is base.new)
    twin u sc (call t e x es) d (t_call te called args) (f_call fe n fes) st (m_string_call {d = b} {ds = ds} me str mes) =
        let inner = left (tree true e) _ st in
        same_call (twin true sc e b te fe inner me) (twins true sc es ds _ args fes (past _ _ (right (tree true e) _ st)) mes)
        (string_twin t e b x es str (new_classless true sc e b te fe inner me (string_class (old e) str)))
    twin u sc (static_call t f es) d (t_static_call called args) (f_static_call s fes) st (m_static_call {n = n} {ds = ds} same mes) =
        same_static_call (twins false sc es ds _ args fes (past _ _ st) mes) (tie.statics.methods f n same)
    twin u sc (super_call t x es) d (t_super_call found bodied called args) (f_super_call inst n fes) st (m_super_call {m = f} {ds = ds} here mes) =
        let q = subst (λ z. Tied (a_super_call t.place z (operands es) (O (super_call t x es)))) here
        (asked (a_super_call t.place (super_method P k.owner x) (operands es) (O (super_call t x es))) _ st) in
        same_super_call (twins false sc es ds _ args fes (past _ _ st) mes) (λ y ey. q y (tie.self inst) (typed_parts.super_instance B k.owner x f here)
        (ap (λ z. option_and_then (labelled_body P F S) z) (sym here) ∙ ey))
    twin u sc (create t n c no_ex) d (t_create v w) fo st (m_create {k = a} none at m_no_ex) =
        same_create same_no_ex (object_made t n c no_ex a (asked_creation u t n c no_ex st).0 at)
        (neither_makes (ap (option_and_then (slot_of_method P)) none) (tie.bare a))
    twin u sc (create t n c es) d (t_make v w called args) fo st (m_create none at mes) = absurd (let z = sym none ∙ w in cc)
    twin u sc (create t n c no_ex) d (t_create v w) fo st (m_make maker is mes) = absurd (let z = sym w ∙ maker in cc)
    twin u sc (create t n c es) d (t_make v w called args) (f_create x fes) st (m_make {m = f} {k = q} {ds = ds} maker is mes) =
        same_make (twins (is_some (maker_of P c)) sc es ds _ args fes (past _ _ st) mes)
        (make_copy u t n c es f q maker is st
        (args_many P g args ∙ ap length (maker_takes P formed f is.was _ (ap (signature_of_method P) (same_Some _ _ (sym maker ∙ w)) ∙ called))))
    twin u sc (create_array t n v e) d (t_create_array te num) (f_create_array ty deep fe) st (m_create_array {d = b} me) =
        same_create_array (twin false sc e b te fe (past _ _ st) me)
        (array_made t n v e (asked (a_creation t.place u (O (create_array t n v e)) None None []) _ st).0 deep)
    twin u sc (cast t n v e) d (t_cast te can) (f_cast ct fe) st (m_cast {d = b} me) =
        let inner = past _ _ st in
        same_cast (twin true sc e b te fe inner me) (shape_kept (R.row_type (row.Cast n)) v)
        (cast_twin t n v e can (λ o eo. classed u sc (cast t n v e) (t_cast te can) (f_cast ct fe) st o eo)
        (asked (a_test t.place (O e) (O (cast t n v e))) _ st))
    twin u sc (instance_of t n e c) d (t_instance_of te rel) (f_instance_of fe cl) st (m_instance_of {k = a} {d = b} me at) =
        let q = asked (a_test t.place (O e) (test_operand m t n c)) [] (right (tree true e) _ st) in
        same_instance_of (twin true sc e b te fe (left (tree true e) _ st) me)
        (λ o y z made may. q.same o y z (record { class = record { 0 = c }; dim = 0 }) a made (at_operand e o may) refl at)
    twin u sc (unary t o e) d (t_unary te takes) (f_unary fe) st (m_unary {d = b} me) = same_unary (twin false sc e b te fe st me)
    twin u sc (binary t o e d) z (t_binary te td takes) (f_binary fe fd) st (m_binary {c = b} {d = c} me md) =
        let both = left (tree false e ++ tree false d) _ st in
        same_binary (twin false sc e b te fe (left (tree false e) (tree false d) both) me)
        (twin false sc d c td fd (right (tree false e) (tree false d) both) md)

    twins : (u : Bool) (sc : List ℕ) (es ds : Exs) (us : List Ty) → TypedArgs P g es us → FormedExs P k sc es
        → Stands (tree_all u es) → MatchesAll P W R g es ds → SameAll L M K Made Pair g h es ds
    twins u sc no_ex ds us ty fo st m_no_ex = same_no_ex
    twins u sc (ex_then e es) ds us (t_ex_then te fit tes) (f_ex_then fe fes) st (m_ex_then {d = b} {ds = bs} me mes) =
        same_ex_then (twin u sc e b te fe (left (tree u e) _ st) me) (twins u sc es bs _ tes fes (right (tree u e) _ st) mes)
