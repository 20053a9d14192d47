-- A copy of a typed body is typed, where its parts find what they ask.
use Rattle.std.proofs.Common.{◌≡◌, ℕ, suc, List, [], ◌∷◌, ◌++◌, Option, Some, None, refl, sym, ap, ◌∙◌, subst}
use Rattle.std.specs.Prelude.{nat_lt, length, ◌||◌, Bool, true, false, slice_get, Contains}
use Rattle.std.specs.Option.{option_map, option_and_then, is_some}
use Rattle.std.proofs.lemmas.Option.{same_Some}
use Rattle.java_core.specs.declared.Ty.{Ty}
use Rattle.java_core.specs.declared.UnOp.{UnOp}
use Rattle.java_core.specs.declared.BinOp.{BinOp}
use Rattle.java_core.specs.Trees.{Tag, Ex, Exs, no_ex, ex_then, number, character, text, truth, null, this, local, static_field, own_field, field, index, call, static_call, super_call, create, create_array, cast, instance_of, unary, binary}
use Rattle.java_core.specs.Programs.{Plain, PlainMethod, PlainField, PlainSlot}
use Rattle.java_core.specs.Classes.{slot_of, slot_of_method, super_method, declaration_of, has_body, is_concrete}
use Rattle.java_core.specs.Makers.{maker_of, maker_slot}
use Rattle.java_core.specs.Types.{Static, a_value, or_nothing, Env, env_of, types_of, class_type, class_of, element_of, is_numeric, is_string, field_type, value_type, field_in, access_type, fits, string_method, string_params, signature_of_string, signature_of_method, call_signature, result_of, unary_type, binary_type, static}
use Rattle.java_core.specs.Typing.{Typed, TypedArgs, t_number, t_character, t_text, t_truth, t_null, t_this, t_local, t_static_field, t_field, t_index, t_call, t_static_call, t_super_call, t_create, t_make, t_create_array, t_cast, t_instance_of, t_unary, t_binary, t_no_ex, t_ex_then, are_related, takes_one, takes_two, can_cast}
use Rattle.java_core.specs.Formed.{FormedExs, f_this, f_own_field, f_field, f_index, f_call, f_static_call, f_super_call, f_create, f_create_array, f_cast, f_instance_of, f_unary, f_binary, f_ex_then}
use Rattle.flow_rules.specs.declared.items.ObjectType.{ObjectType}
use Rattle.flow_rules.specs.declared.items.Operand.{Operand}
use Rattle.flow_rules.specs.declared.items.RowItem.{RowItem}
use Rattle.flow_rules.specs.declared.items.RowItem.TheVariants as row
use Rattle.flow_rules.specs.Operands.{object_of, object_static, object_field, call_slot, call_declaration, super_slot, variable_in, variable_row, result_in, this_operand, test_operand, type_in}
use Rattle.flow_rules.specs.Numbered.{row_number, number_if}
use Rattle.flow_rules.specs.Parts.{Part, a_load, a_creation, a_call, a_static_call, a_super_call, a_test, a_pair, is_accessed, parts_of}
use Rattle.flow_rules.specs.Lists.{is_comparison}
use Rattle.flow_laws.specs.cover.Slotted.{HaveSlots}
use Rattle.flow_rules.proofs.TypeLemmas.{class_is}
use Rattle.flow_laws.proofs.cover.HasRows.{in_slot, variable_row_of, of_lt}
use Rattle.flow_laws.proofs.cover.Types.{class_apart, slot_called}
use Rattle.flow_laws.proofs.cover.TypedParts as typed_parts
use Rattle.flow_laws.proofs.cover.TypedParts.{TypedBody}
use Rattle.rebuild_model.specs.Renaming.{Renaming, retyped, retyped_if}
use Rattle.rebuild_model.specs.Makes.{HasOldSlot, IsMake}
use Rattle.rebuild_model.specs.Matches.{Matches, MatchesAll, m_number, m_character, m_text, m_truth, m_null, m_this, m_local, m_static_field, m_own_field, m_field, m_length, m_index, m_call, m_string_call, m_static_call, m_super_call, m_create, m_make, m_create_array, m_cast, m_instance_of, m_unary, m_binary, m_no_ex, m_ex_then}
use Rattle.rebuild_laws.proofs.types.Retyped.{retyped_static, HasClass, IsUnder, AreNearIf, retyped_or, numeric_kept, string_kept, element_kept, some_kept, class_new, class_typed, takes_one_kept, binary_kept, fits_kept, takes_two_kept, related_kept, cast_kept}
use Rattle.rebuild_laws.proofs.types.Finding.{field_class, access_found, field_at, found_instance, length_type, length_there, is_its_length, called_at, string_called, super_called, string_plain, string_classless, string_found, retyped_string, plain_kept}
use Rattle.rebuild_laws.proofs.types.Retypes.{each_retypes}
use Rattle.rebuild_laws.proofs.types.Asked.{retypes, new_class, FindsField, Serves, AreRenewed, SeesNew, slot_signature}
use Rattle.flow_laws.proofs.cover.Walked.{walked}
use Rattle.flow_laws.proofs.cover.Each.{left, right, past, here}

-- a body of a formed program, and what a copy of it over new classes sees; what the body's parts ask is served
pub record CopiedBody : Type 0 where
  pub body : TypedBody
  pub written : Plain
  pub renaming : Renaming
  pub renewed : AreRenewed body.program written renaming
  pub env : Env
  pub sees : SeesNew body.program written renaming body.number body.method env
  pub serves : (p : Part) → Contains (parts_of body.program body.number body.method) p
      → Serves body.program written renaming body.number body.method env.self p

-- the class of a row in the new program, and the copies of an expression
pub record Copying : Type 1 where
  pub class_at : Option RowItem → Option ℕ
  pub IsCopy : Ex → Ex → Type 0

abbrev pub copying : TypedBody → Plain → Renaming → Copying
copying B W R = record {
  class_at = new_class B.program W R;
  IsCopy = λ e d. Matches B.program W R (env_of B.number B.method) e d;
}

module _ (A : CopiedBody) where
  open A use {body as B, written as W, renaming as R, renewed as N, env as h, sees, serves}
  open B use {program as P, formed, slots, number as m, method as k}
  open copying B W R use {class_at as C, IsCopy}
  open walked P m k use {env as g, type, row_at, operand as O, tree, Stands, IsTyped, IsFormed as IsFormedEx, static as old, operands, tree_all}

  -- an expression of a type of a row has the class of its row
  class_there : (i : Option RowItem) (r : ℕ) → number_if (row_number P) i ≡ Some r → (c : ℕ) × (C i ≡ Some c)
  class_there None r e = absurd (cc)
  class_there (Some i) r e = N.numbered i r e

  pub classed : (u : Bool) (sc : List ℕ) (e : Ex) → IsTyped e → IsFormedEx sc e → Stands (tree u e) → HasClass (object_static (old e)) (C (row_at e))
  classed u sc e ty fo st t h =
      let r = typed_parts.row_listed B u sc e ty fo st t (typed_parts.of_typed B e t h) in
      class_there (row_at e) r.0 r.1

  pub asked : (p : Part) (qs : List Part) → Stands (p ∷ qs) → Serves P W R m k h.self p
  asked p qs st = serves p (here p qs st)

  -- the copy is typed, and gives the same in the class of the row
  pub record Again (e d : Ex) : Type 0 where
    pub typed : Typed W h d
    pub type : static W h d ≡ retyped_static (C (row_at e)) (old e)

  -- the type of a receiver or base
  pub record IsBase (e d : Ex) : Type 0 where
    pub class : ℕ
    pub row_is : C (row_at e) ≡ Some class
    pub new : class_of (static W h d) ≡ Some class

  pub based : (u : Bool) (sc : List ℕ) (e d : Ex) (c : ℕ) → IsTyped e → IsFormedEx sc e → Stands (tree u e) → Again e d
      → class_of (old e) ≡ Some c → IsBase e d
  based u sc e d c ty fo st a s =
      let r = classed u sc e ty fo st (record { class = record { 0 = c }; dim = 0 }) (class_typed (old e) c s) in
      record { class = r.0; row_is = r.1; new = ap class_of a.type ∙ ap (λ z. class_of (retyped_static z (old e))) r.1 ∙ class_new r.0 (old e) c s }

  -- a read of a field
  pub record IsRead (d : Ex) (f : ℕ) : Type 0 where
    pub there : is_some (access_type W (static W h d) (R.field_name f)) ≡ true
    pub found : is_some (field_in W (static W h d) (R.field_name f)) ≡ true
    pub type : or_nothing (access_type W (static W h d) (R.field_name f)) ≡ retyped_static (R.row_type (row.Field f)) (or_nothing (field_type P f))
    pub value : or_nothing (value_type W (static W h d) (R.field_name f)) ≡ retyped_static (R.row_type (row.Field f)) (or_nothing (field_type P f))

  pub read : (d : Ex) (c f : ℕ) → class_of (static W h d) ≡ Some c → FindsField P W R c f → is_some (field_type P f) ≡ true → IsRead d f
  read d c f e x some =
      let found = field_at W (static W h d) c (R.field_name f) x.number e x.found in
      let is = access_found W (static W h d) (R.field_name f) x.number found ∙ x.type in
      let value = ap (λ z. option_and_then (field_type W) z) found ∙ x.type in
      record {
        there = ap is_some is ∙ some_kept (R.row_type (row.Field f)) (field_type P f) ∙ some;
        found = ap is_some found;
        type = ap or_nothing is ∙ sym (retyped_or (R.row_type (row.Field f)) (field_type P f));
        value = ap or_nothing value ∙ sym (retyped_or (R.row_type (row.Field f)) (field_type P f));
      }

  pub field_seen : (e : Ex) (x : List ℕ) (f : ℕ) → field_in P (old e) x ≡ Some f → object_field P (type e) x ≡ Some f
  field_seen e x f l = typed_parts.field_found B e x ∙ l

  slot_seen : (e : Ex) (x : List ℕ) (j : ℕ) → option_and_then (λ c. slot_of P c x) (class_of (old e)) ≡ Some j → call_slot P (type e) x ≡ Some j
  slot_seen e x j l = typed_parts.slot_found B e x ∙ l

  declaration_seen : (e : Ex) (x : List ℕ) (c d : ℕ) → class_of (old e) ≡ Some c → declaration_of P c x ≡ Some d
      → call_declaration P (type e) x ≡ Some d
  unfolding type_in
  declaration_seen e x c d l f =
      ap (λ z. option_and_then (λ c. declaration_of P c x) z) (class_is (static P g e) ∙ l) ∙ f

  pub field_some : (f : ℕ) (w : PlainField) → slice_get P.fields f ≡ Some w → is_some (field_type P f) ≡ true
  field_some f w e = ap (λ z. is_some (option_map (λ (k : PlainField). k.ty) z)) e

  -- the rows of parameters
  param_classed : (d : ℕ) (f : PlainMethod) → slice_get P.methods d ≡ Some f → (i : ℕ) (u : Ty) → slice_get (types_of f.params) i ≡ Some u
      → HasClass (object_of u) (R.row_type (variable_row d f i))
  param_classed d f e i u a t o =
      let w = typed_parts.param_typed B f i u t a o in
      let r = variable_row_of P formed d f i w.0 e w.1 in
      N.numbered (variable_row d f i) r.0 r.1

  retyped_result : (i : Option RowItem) (k : Option ℕ) (t : Option Ty) → C i ≡ k → or_nothing (retyped_if k t) ≡ retyped_static (C i) (or_nothing t)
  retyped_result i k t e = sym (retyped_or k t) ∙ ap (λ z. retyped_static z (or_nothing t)) (sym e)

  -- a creation of a class without a constructor asks for no arguments
  no_args : (es ds : Exs) (t : Tag) (n c : ℕ) → maker_of P c ≡ None → Typed P g (create t n c es) → MatchesAll P W R g es ds → ds ≡ no_ex
  no_args no_ex no_ex t n c none ty m_no_ex = refl
  no_args no_ex (ex_then d ds) t n c none ty ms = elim ms [ ]
  no_args (ex_then e es) ds t n c none (t_make a b w args) ms = absurd (let z = sym none ∙ b in cc)

  typed_create : (t : Tag) (n c : ℕ) (es : Exs) → maker_of P c ≡ None → Typed P g (create t n c es) → (s : Tag) (i a : ℕ) (ds : Exs)
      → MatchesAll P W R g es ds → is_concrete W a ≡ true → Typed W h (create s i a ds)
  typed_create t n c es none ty s i a ds ms e =
      subst (λ z. Typed W h (create s i a z)) (sym (no_args es ds t n c none ty ms)) (t_create e (N.no_maker a))

  -- one of a class with a constructor for those that its slot takes
  made_args : (t : Tag) (n c f : ℕ) (es : Exs) (w : HasOldSlot P f) → maker_of P c ≡ Some f → Typed P g (create t n c es)
      → TypedArgs P g es w.signature.params
  made_args t n c f es w has (t_create a none) = absurd (let z = sym none ∙ has in cc)
  made_args t n c f es w has (t_make {m = m2} {s = sig} a b called args) =
      let o = typed_parts.method_sig B f sig (sym (ap (signature_of_method P) (same_Some m2 f (sym b ∙ has))) ∙ called) in
      let i = in_slot P formed f w.old w.old_stands w.slot w.of_slot in
      subst (λ z. TypedArgs P g es z) (o.2 ∙ ap (λ z. types_of z.params) (same_Some o.0 w.old (sym o.1 ∙ w.old_stands)) ∙ i.params
      ∙ ap (λ z. z.params) (same_Some i.slot w.signature (sym i.stands ∙ w.slot_stands))) args

  made_slot : (c f : ℕ) (w : HasOldSlot P f) → maker_of P c ≡ Some f → maker_slot P c ≡ Some w.slot
  made_slot c f w has = ap (option_and_then (slot_of_method P)) has ∙ ap (option_and_then (λ (k : PlainMethod). k.slot)) w.old_stands ∙ w.of_slot

  -- the method that makes its objects takes what that slot does
  make_signature : (n f a : ℕ) (is : IsMake P W R n f a) → signature_of_method W a
      ≡ Some (record { params = retypes (λ i. R.row_type (row.Param is.was.slot i)) is.was.signature.params; result = is.new.result })
  make_signature n f a is =
      ap (option_map (λ (k : PlainMethod). record { params = types_of k.params; result = k.result })) is.stands
      ∙ ap (λ z. Some (record { params = z; result = is.new.result }))
      (is.params ∙ each_retypes (λ i. R.row_type (row.Param is.was.slot i)) is.was.signature.params)

  -- what the part of a creation asks, by the slot of its constructor
  created_asked : (u : Bool) (t : Tag) (n c : ℕ) (es : Exs) (s : Option ℕ) → maker_slot P c ≡ s → Stands (tree u (create t n c es))
      → Serves P W R m k h.self (a_creation t.place (u || is_some (maker_of P c)) (O (create t n c es)) s (maker_of P c) (operands es))
  created_asked u t n c es s e st =
      let p : Option ℕ → Part = λ z. a_creation t.place (u || is_some (maker_of P c)) (O (create t n c es)) z (maker_of P c) (operands es) in
      subst (λ z. Serves P W R m k h.self (p z)) e (asked (p (maker_slot P c)) _ st)

  slot_classed : (s : ℕ) (slot : PlainSlot) → slice_get P.slots s ≡ Some slot → (i : ℕ) (u : Ty) → slice_get slot.params i ≡ Some u
      → HasClass (object_of u) (R.row_type (row.Param s i))
  slot_classed s slot e i u a t o =
      let f = formed.slots s slot e in
      let j = in_slot P formed slot.first f.method f.stands s f.of in
      let same : j.slot ≡ slot = same_Some j.slot slot (sym j.stands ∙ e) in
      let at = ap (λ z. slice_get z i) (j.params ∙ ap (λ z. z.params) same) ∙ a in
      let within = of_lt i (length f.method.params) (typed_parts.param_typed B f.method i u t at o).2 in
      let r = param_classed slot.first f.method f.stands i u at t o in (
        r.0,
        ap (λ z. R.row_type (variable_in (Some s) z slot.first i)) (sym within)
            ∙ ap (λ z. R.row_type (variable_in z (nat_lt i (length f.method.params)) slot.first i)) (sym f.of) ∙ r.1,
      )

  super_row : (f : ℕ) (x : List ℕ) (q : PlainMethod) → slice_get P.methods f ≡ Some q → super_method P k.owner x ≡ Some f
      → C (option_map row.Return (super_slot P k.owner x)) ≡ R.row_type (result_in q.slot f)
  unfolding HaveSlots
  super_row f x q e found =
      let s = slots f q e (typed_parts.super_instance B k.owner x f found q e) in
      ap (λ z. C (option_map row.Return (option_and_then (slot_of_method P) z))) found
      ∙ ap (λ z. C (option_map row.Return (option_and_then (λ (k : PlainMethod). k.slot) z))) e
      ∙ ap (λ z. C (option_map row.Return z)) s.1 ∙ sym (ap (λ z. R.row_type (result_in z f)) s.1)

  create_typed : (t : Tag) (n c : ℕ) (es : Exs) → type (create t n c es) ≡ Some (record { class = record { 0 = c }; dim = 0 })
  unfolding type_in
  create_typed t n c es = refl

  near_old : (e : Ex) (t : Option ObjectType) (a b : Option ℕ) → AreNearIf W (type e) t a b → AreNearIf W (object_static (old e)) t a b
  near_old e t a b near x y hx hy = near x y (typed_parts.of_typed B e x hx) hy

  pub near_both : (e d : Ex) (a b : Option ℕ) → AreNearIf W (type e) (type d) a b → AreNearIf W (object_static (old e)) (object_static (old d)) a b
  near_both e d a b near x y hx hy = near x y (typed_parts.of_typed B e x hx) (typed_parts.of_typed B d y hy)

  cast_asked : (t : Tag) (n : ℕ) (v : Ty) (e : Ex) {a b : Option ℕ} → AreNearIf W (type e) (type (cast t n v e)) a b
      → AreNearIf W (type e) (object_of v) a b
  unfolding type_in
  cast_asked t n v e near = near

  unary_plain : (o : UnOp) → a_value (unary_type o) ≡ retyped_static None (a_value (unary_type o))
  unary_plain o = refl

  binary_plain : (o : BinOp) (s t : Static) → a_value (binary_type o s t) ≡ retyped_static None (a_value (binary_type o s t))
  binary_plain o s t = refl

  mutual
    pub again : (u : Bool) (sc : List ℕ) (e d : Ex) → IsTyped e → IsFormedEx sc e → Stands (tree u e) → IsCopy e d → Again e d
    again u sc (number t n) d ty fo st m_number = record { typed = t_number; type = refl }
    again u sc (character t c) d ty fo st m_character = record { typed = t_character; type = refl }
    again u sc (text t x) d ty fo st m_text = record { typed = t_text; type = refl }
    again u sc (truth t b) d ty fo st m_truth = record { typed = t_truth; type = refl }
    again u sc (null t) d ty fo st m_null = record { typed = t_null; type = refl }
    again u sc (this t) d ty (f_this s) st m_this = record {
      typed = t_this;
      type =
          ap (λ c. retyped_static c (a_value (class_type k.owner))) (sym (sees.self s));
    }
    again u sc (local t i) d ty fo st m_local = record {
      typed = t_local;
      type = ap or_nothing (sees.locals i)
          ∙ sym (retyped_or (R.row_type (variable_row m k i)) (slice_get g.locals i));
    }
    again u sc (static_field t f) d ty fo st (m_static_field {h = n} s) =
        record { typed = t_static_field; type = ap or_nothing (N.static_fields f n s) ∙ sym (retyped_or (R.row_type (row.Field f)) (field_type P f)) }
    again u sc (own_field t f) d ty (f_own_field s own) st (m_own_field {v = v}) =
        let x = asked (a_load t.place (this_operand m k) (Some f) (O (own_field t f))) [] st own.member own.stands own.kind h.self (sees.self s) in
        let r = read (this v) h.self f refl x (field_some f own.member own.stands) in
        record { typed = t_field t_this r.there; type = r.type }
    again u sc (field t e x) d (t_field te some) (f_field fe n) st (m_field {d = b} {f = f} me l) =
        let inner = left (tree (is_accessed e) e) _ st in
        let a = again (is_accessed e) sc e b te fe inner me in
        let c = field_class P (old e) x f l in
        let base = based (is_accessed e) sc e b c.0 te fe inner a c.1 in
        let seen = field_seen e x f l in
        let has = subst (λ z. Serves P W R m k h.self (a_load t.place (O e) z (O (field t e x)))) seen
        (asked (a_load t.place (O e) (object_field P (type e) x) (O (field t e x))) [] (right (tree (is_accessed e) e) _ st)) in
        let is = access_found P (old e) x f l in
        let there = ap is_some (sym is) ∙ some in
        let w = found_instance P (old e) x f l there in
        let r = read b base.class f base.new (has w.0 w.1 w.2 base.class base.row_is) there in
        record {
          typed = t_field a.typed r.there;
          type = r.type ∙ sym (ap (λ z. retyped_static (C (option_map row.Field z)) (or_nothing (access_type P (old e) x))) seen
              ∙ ap (λ z. retyped_static (R.row_type (row.Field f)) (or_nothing z)) is);
        }
    again u sc (field t e x) d (t_field te some) (f_field fe n) st (m_length {d = b} me array) =
        let a = again (is_accessed e) sc e b te fe (left (tree (is_accessed e) e) _ st) me in
        let new = ap is_some (ap element_of a.type ∙ element_kept (C (row_at e)) (old e)) ∙ some_kept (C (row_at e)) (element_of (old e)) ∙ array in
        let is = length_there W (static W h b) x new (is_its_length P (old e) x array some) in
        let i = C (row_at (field t e x)) in
        record {
          typed = t_field a.typed (ap is_some is);
          type = ap or_nothing is ∙ sym (ap (λ z. retyped_static i (or_nothing z)) (length_type P (old e) x array some) ∙ ap a_value (plain_kept i));
        }
    again u sc (index t e i) d (t_index te some ti num) (f_index fe fi) st (m_index {d = b} {j = j} me mi) =
        let a = again true sc e b te fe (left (tree true e) _ st) me in
        let c = again false sc i j ti fi (past _ _ (right (tree true e) _ st)) mi in
        let is = ap element_of a.type ∙ element_kept (C (row_at e)) (old e) in
        record {
          typed = t_index a.typed (ap is_some is ∙ some_kept (C (row_at e)) (element_of (old e)) ∙ some) c.typed
              (ap is_numeric c.type ∙ numeric_kept (C (row_at i)) (old i) ∙ num);
          type = ap or_nothing is ∙ sym (retyped_or (C (row_at e)) (element_of (old e)));
        }
    again u sc (call t e x es) d (t_call {s = sig} te called args) (f_call fe n fes) st (m_call {d = b} {c = c} {m = f} {ds = ds} me cls dcl mes) =
        let inner = left (tree true e) _ st in
        let a = again true sc e b te fe inner me in
        let base = based true sc e b c te fe inner a cls in
        let s = slot_called P (old e) x sig called (class_apart (old e) c cls).1 in
        let slot = slot_seen e x s.number s.found in
        let has = subst (λ z. Serves P W R m k h.self (a_call t.place (O e) z (Some f) (operands es) (O (call t e x es)))) slot
        (subst (λ z. Serves P W R m k h.self (a_call t.place (O e) (call_slot P (type e) x) z (operands es) (O (call t e x es))))
        (declaration_seen e x c f cls dcl)
        (asked (a_call t.place (O e) (call_slot P (type e) x) (call_declaration P (type e) x) (operands es) (O (call t e x es))) _
        (right (tree true e) _ st))) in
        let w = has.0 (sym (ap (option_and_then (slot_of_method P)) dcl) ∙ sym (ap (option_and_then (λ c. slot_of P c x)) cls)
        ∙ s.found) base.class base.row_is in
        let is = called_at W (static W h b) base.class (R.method_name f) w.number (slot_signature P W R s.number s.slot) base.new w.found
        (w.type s.slot s.stands) in
        record {
          typed = t_call a.typed is (agains true sc es ds s.slot.params (λ i. R.row_type (row.Param s.number i))
              (subst (λ z. TypedArgs P g es z) s.params args) fes (past _ _ (right (tree true e) _ st)) mes
              (slot_classed s.number s.slot s.stands) has.1);
          type = ap result_of is ∙ retyped_result (row_at (call t e x es)) (R.row_type (row.Return s.number)) s.slot.result
              (ap (λ z. C (option_map row.Return z)) slot)
              ∙ ap (λ z. retyped_static (C (row_at (call t e x es))) (or_nothing z)) (sym s.result)
              ∙ ap (λ z. retyped_static (C (row_at (call t e x es))) (result_of z)) (sym called);
        }
    again u sc (call t e x es) d (t_call {s = sig} te called args) (f_call fe n fes) st (m_string_call {d = b} {ds = ds} me str mes) =
        let a = again true sc e b te fe (left (tree true e) _ st) me in
        let f = string_found (string_method x) sig (sym (string_called P (old e) x str) ∙ called) in
        let new = ap is_string a.type ∙ string_kept (C (row_at e)) (old e) ∙ str in
        let is : call_signature W (static W h b) x ≡ Some (signature_of_string f.0) = string_called W (static W h b) x new
        ∙ ap (option_map signature_of_string) f.1 in
        let plain = string_plain f.0 in
        record {
          typed = t_call a.typed is (subst (λ z. TypedArgs W h ds z) plain.0
              (agains true sc es ds (string_params f.0) (λ i. None)
              (subst (λ z. TypedArgs P g es z) (ap (λ z. z.params) (sym f.2)) args) fes (past _ _ (right (tree true e) _ st)) mes
              (λ i v q. string_classless f.0 i v q None) (λ i o q c l hc hl. absurd (cc))));
          type = ap result_of is ∙ retyped_string (C (row_at (call t e x es))) f.0
              ∙ ap (λ z. retyped_static (C (row_at (call t e x es))) (or_nothing z.result)) f.2
              ∙ ap (λ z. retyped_static (C (row_at (call t e x es))) (result_of z)) (sym called);
        }
    again u sc (static_call t f es) d (t_static_call {s = sig} called args) (f_static_call s fes) st (m_static_call {n = n} {ds = ds} same mes) =
        let o = typed_parts.method_sig B f sig called in
        let is = N.static_methods f n same o.0 o.1 in
        let static_is = ap (λ z. z.is_static) (same_Some o.0 s.member (sym o.1 ∙ s.stands)) ∙ s.kind in
        let none = typed_parts.static_slot B f o.0 o.1 static_is in
        record {
          typed = t_static_call is (agains false sc es ds (types_of o.0.params) (λ i. R.row_type (variable_row f o.0 i))
              (subst (λ z. TypedArgs P g es z) o.2 args) fes (past _ _ st) mes (param_classed f o.0 o.1)
              (asked (a_static_call t.place f (operands es) (O (static_call t f es))) _ st o.0 o.1));
          type = ap result_of is ∙ retyped_result (row_at (static_call t f es)) (R.row_type (result_in o.0.slot f)) o.0.result
              (sym (ap (λ z. R.row_type (result_in z f)) none))
              ∙ ap (λ z. retyped_static (C (row_at (static_call t f es))) (or_nothing z)) (sym o.3)
              ∙ ap (λ z. retyped_static (C (row_at (static_call t f es))) (result_of z)) (sym called);
        }
    again u sc (super_call t x es) d (t_super_call {m = found_method} {s = sig} found bodied called args) (f_super_call inst n fes) st
        (m_super_call {m = f} {ds = ds} found_here mes) =
        let o = typed_parts.method_sig B f sig (sym (super_called P k.owner x f found_here) ∙ called) in
        let has = subst (λ z. Serves P W R m k h.self (a_super_call t.place z (operands es) (O (super_call t x es)))) found_here
        (asked (a_super_call t.place (super_method P k.owner x) (operands es) (O (super_call t x es))) _ st) in
        let w = has.0 inst (subst (λ z. has_body P z ≡ true) (same_Some found_method f (sym found ∙ found_here)) bodied) o.0 o.1
        (typed_parts.super_instance B k.owner x f found_here o.0 o.1) in
        let is = super_called W h.self (R.method_name f) w.number w.found ∙ w.type o.0 o.1 in
        let row_is = super_row f x o.0 o.1 found_here in
        record {
          typed = t_super_call w.found w.bodied is (agains false sc es ds (types_of o.0.params) (λ i. R.row_type (variable_row f o.0 i))
              (subst (λ z. TypedArgs P g es z) o.2 args) fes (past _ _ st) mes (param_classed f o.0 o.1) (has.1 o.0 o.1));
          type = ap result_of is ∙ retyped_result (row_at (super_call t x es)) (R.row_type (result_in o.0.slot f)) o.0.result row_is
              ∙ ap (λ z. retyped_static (C (row_at (super_call t x es))) (or_nothing z)) (sym o.3)
              ∙ ap (λ z. retyped_static (C (row_at (super_call t x es))) (result_of z)) (sym called);
        }
    again u sc (create t n c es) d ty fo st (m_create {u = s} {j = j} {k = a} {ds = ds} none at mes) =
        let made = created_asked u t n c es None (ap (option_and_then (slot_of_method P)) none) st n refl (record { class = record { 0 = c }; dim = 0 })
        (create_typed t n c es) refl a at in
        record { typed = typed_create _ n c es none ty s j a ds mes made; type = ap (λ z. retyped_static z (a_value (class_type c))) (sym at) }
    again u sc (create t n c es) d ty (f_create known fes) st (m_make {m = f} {k = a} {ds = ds} has is mes) =
        let w = is.was in
        let sig = make_signature n f a is in
        record {
          typed = t_static_call sig (agains (is_some (maker_of P c)) sc es ds w.signature.params (λ i. R.row_type (row.Param w.slot i))
              (made_args t n c f es w has ty) fes (past _ _ st) mes (slot_classed w.slot w.signature w.slot_stands)
              (created_asked u t n c es (Some w.slot) (made_slot c f w has) st));
          type = ap result_of sig ∙ ap or_nothing is.result ∙ ap (λ z. retyped_static z (a_value (class_type c))) (sym is.row);
        }
    again u sc (create_array t n v e) d (t_create_array te num) (f_create_array ty dim fe) st (m_create_array {d = b} me) =
        let a = again false sc e b te fe (past _ _ st) me in
        record { typed = t_create_array a.typed (ap is_numeric a.type ∙ numeric_kept (C (row_at e)) (old e) ∙ num); type = refl }
    again u sc (cast t n v e) d (t_cast te can) (f_cast ct fe) st (m_cast {d = b} me) =
        let inner = past _ _ st in
        let a = again true sc e b te fe inner me in
        let near = near_old e (object_of v) (C (row_at e)) (R.row_type (row.Cast n))
        (cast_asked t n v e (asked (a_test t.place (O e) (O (cast t n v e))) _ st)) in
        record {
          typed = t_cast a.typed (subst (λ z. can_cast W z (retyped (R.row_type (row.Cast n)) v) ≡ true) (sym a.type)
              (cast_kept P W (old e) v (C (row_at e)) (R.row_type (row.Cast n)) (classed true sc e te fe inner)
              (classed u sc (cast t n v e) (t_cast te can) (f_cast ct fe) st) near can));
          type = refl;
        }
    again u sc (instance_of t n e c) d (t_instance_of te rel) (f_instance_of fe cl) st (m_instance_of {k = a} {d = b} me at) =
        let inner = left (tree true e) _ st in
        let x = again true sc e b te fe inner me in
        let near = near_old e (object_static (a_value (class_type c))) (C (row_at e)) (R.row_type (row.Test n))
        (asked (a_test t.place (O e) (test_operand m t n c)) [] (right (tree true e) _ st)) in
        let new = related_kept P W (old e) (a_value (class_type c)) (C (row_at e)) (R.row_type (row.Test n)) (classed true sc e te fe inner)
        (λ o q. (a, at)) near rel in
        record {
          typed = t_instance_of x.typed (ap (λ z. are_related W (class_of z) (Some a)) x.type
              ∙ sym (ap (λ z. are_related W (class_of (retyped_static (C (row_at e)) (old e)))
              (class_of (retyped_static z (a_value (class_type c))))) at) ∙ new);
          type = refl;
        }
    again u sc (unary t o e) d (t_unary te takes) (f_unary fe) st (m_unary {d = b} me) =
        let a = again false sc e b te fe st me in
        record { typed = t_unary a.typed (ap (takes_one o) a.type ∙ takes_one_kept o (C (row_at e)) (old e) ∙ takes); type = unary_plain o }
    again u sc (binary t o e d) z (t_binary te td takes) (f_binary fe fd) st (m_binary {c = b} {d = c} me md) =
        let both = left (tree false e ++ tree false d) _ st in
        let se = left (tree false e) (tree false d) both in
        let sd = right (tree false e) (tree false d) both in
        let x = again false sc e b te fe se me in
        let y = again false sc d c td fd sd md in
        let near : is_comparison o ≡ true → AreNearIf W (object_static (old e)) (object_static (old d)) (C (row_at e)) (C (row_at d)) =
        λ q. near_both e d (C (row_at e)) (C (row_at d)) (asked (a_pair o (O e) (O d)) [] (right (tree false e ++ tree false d) _ st) q) in
        record {
          typed = t_binary x.typed y.typed (subst (λ w. takes_two W o w (static W h c) ≡ true) (sym x.type)
              (subst (λ w. takes_two W o (retyped_static (C (row_at e)) (old e)) w ≡ true) (sym y.type)
              (takes_two_kept P W o (old e) (old d) (C (row_at e)) (C (row_at d)) (classed false sc e te fe se) (classed false sc d td fd sd) near takes)));
          type = ap (λ w. a_value (binary_type o w (static W h c))) x.type
              ∙ ap (λ w. a_value (binary_type o (retyped_static (C (row_at e)) (old e)) w)) y.type
              ∙ ap a_value (binary_kept o (C (row_at e)) (C (row_at d)) (old e) (old d))
              ∙ binary_plain o (old e) (old d);
        }

    agains : (u : Bool) (sc : List ℕ) (es ds : Exs) (us : List Ty) (p : ℕ → Option ℕ) → TypedArgs P g es us
        → FormedExs P k sc es → Stands (tree_all u es) → MatchesAll P W R g es ds
        → ((i : ℕ) (v : Ty) → slice_get us i ≡ Some v → HasClass (object_of v) (p i))
        → ((i : ℕ) (o : Operand) → slice_get (operands es) i ≡ Some o → IsUnder W (C o.row) (p i)) → TypedArgs W h ds (retypes p us)
    agains u sc no_ex ds us p t_no_ex fo st m_no_ex has fit = t_no_ex
    agains u sc (ex_then e es) ds us p (t_ex_then {u = v} {us = vs} te f tes) (f_ex_then fe fes) st (m_ex_then {d = b} {ds = bs} me mes) has fit =
        let inner = left (tree u e) _ st in
        let a = again u sc e b te fe inner me in
        t_ex_then a.typed (subst (λ z. fits W z (retyped (p 0) v) ≡ true) (sym a.type)
        (fits_kept P W (old e) v (C (row_at e)) (p 0) (classed u sc e te fe inner) (has 0 v refl) (fit 0 (O e) refl) f))
        (agains u sc es bs vs (λ i. p (suc i)) tes fes (right (tree u e) _ st) mes (λ i w q. has (suc i) w q) (λ i o q. fit (suc i) o q))
