-- Fields and methods: they are those of the outline, each name once in its class, or a condition holds.
use Rattle.std.proofs.Common.{◌≡◌, ℕ, suc, ◌+◌, ⊎_elim, Bool, true, false, ◌&&◌, List, [], ◌∷◌, ◌++◌, map, length, Option, Some, None, Ok, Err, Contains, refl, sym, ap, ◌∙◌, subst, arith}
use Rattle.std.specs.Prelude.{slice_get, position, if◌then◌else◌, ◌==◌}
use Rattle.std.specs.Option.{is_some, option_map}
use Rattle.std.specs.Str.{bytes_eq}
use Rattle.std.proofs.lemmas.Bool.{false≢true, eqb-true, eq-eqb}
use Rattle.std.proofs.lemmas.List.{map-append, append_assoc, length-append}
use Rattle.std.proofs.lemmas.Slice.Eq.{bytes_eq-Decides}
use Rattle.std.proofs.lemmas.Option.{slice_get_within}
use Rattle.kaba_base.proofs.ListLemmas.{map_at, at_map, contains_at}
use Rattle.java_lex.specs.Writable.{IsName}
use Rattle.java_tree.specs.declared.TypeName.{TypeName}
use Rattle.java_tree.specs.Syntax.{DeclTree}
use Rattle.java_core.specs.declared.Ty.{Ty}
use Rattle.java_core.specs.declared.Field.{Field}
use Rattle.java_core.specs.declared.Local.{Local}
use Rattle.java_core.specs.Programs.{PlainSlot, field_seen, local_seen}
use Rattle.java_core.specs.Types.{types_of}
use Rattle.java_core.specs.Formed.{IsMain}
use Rattle.java_core.specs.Makers.{maker_name}
use Rattle.java_core.proofs.Positions.{position-passes}
use Rattle.name_rules.specs.declared.Refusal.TheVariants.{Twice, TwoKinds}
use Rattle.name_rules.specs.declared.parts.Kind.TheVariants as kinds
use Rattle.name_laws.specs.declared.parts.Flags.{Flags}
use Rattle.name_laws.specs.Known.{KnownClass}
use Rattle.name_laws.specs.declared.parts.Heading.{Heading}
use Rattle.name_laws.specs.Answers.{with}
use Rattle.name_laws.specs.Names.{names_type, type_of}
use Rattle.name_laws.specs.Tables.{field_in, method_in}
use Rattle.name_laws.specs.Members.{Members, params_of, result_of, slot_in, with_slot, slotted, heading, add_heading, head_step, field_step}
use Rattle.name_rules.specs.Outline.{FieldAt, MethodAt, fields_declared, methods_declared, fields_from, methods_from, fields_in, methods_in, is_static, is_private, has_word, is_abstract_word, types_in, name_of, is_maker_kind, is_maker, is_type_name, type_meant, field_outline, param_outline, method_outline, outline}
use Rattle.name_rules.specs.Meanings.{Means}
use Rattle.name_rules.specs.Asked.{of_field}
use Rattle.name_rules.specs.Resolves.{IsOfSlot}
use Rattle.name_rules.specs.Conditions.{ConditionAt, type_as_field, field_twice, method_twice, HasWrongBody, missing, superfluous, in_concrete}
use Rattle.name_laws.proofs.Sees.{Tells, tell}
use Rattle.name_laws.proofs.Runs.{stands-at, earlier-stands, push-cases, none-passes, stands-beside, once-more}
use Rattle.name_laws.proofs.MembersOf.{no-mark}
use Rattle.name_laws.proofs.KnownTypes.{AreKnown}
use Rattle.name_laws.proofs.Modifiers.{FlagsAre, NoStatic, AreFit}
use Rattle.name_laws.proofs.Params.{AreParams, declared-tells, type_name-known, params-tells, result-tells}
use Rattle.name_laws.proofs.SameTypes.{HasSignature, slot-found, slot-none, main-begins, begins-main}
use Rattle.name_laws.proofs.SlotsOf.{none_of, one_of, SlotsAre, slots-old, slots-new}

-- ---- the first of a class and a name

pub both-true : (a : ℕ) (c : ℕ) (m n : List ℕ) → (a == c) && bytes_eq m n ≡ true → (a ≡ c) × (m ≡ n)
both-true a c m n e = go (a == c) refl
  where
    go : (b : Bool) → (a == c) ≡ b → (a ≡ c) × (m ≡ n)
    go true f = (eqb-true a c f, (bytes_eq-Decides m n).0 (sym (ap (λ z. z && bytes_eq m n) f) ∙ e))
    go false f = absurd (false≢true (sym (ap (λ z. z && bytes_eq m n) f) ∙ e))

pub true-both : (a : ℕ) (c : ℕ) (m n : List ℕ) → a ≡ c → m ≡ n → (a == c) && bytes_eq m n ≡ true
true-both a c m n e f = ap (λ z. z && bytes_eq m n) (eq-eqb a c e) ∙ (bytes_eq-Decides m n).1 f

-- ---- the members of declarations, one more

-- what each item gives, of two lists one after the other
each_append : {X A : Type 0} (of : ℕ → X → List A) (from : ℕ → List X → List A) → ((c : ℕ) → from c [] ≡ [])
    → ((c : ℕ) (x : X) (xs : List X) → from c (x ∷ xs) ≡ of c x ++ from (suc c) xs) → (c : ℕ) (xs ys : List X)
    → from c (xs ++ ys) ≡ from c xs ++ from (c + length xs) ys
each_append of from none some c [] ys = ap (λ k. from k ys) (let e : c ≡ c + 0 = omega arith in e) ∙ ap (λ z. z ++ from (c + 0) ys) (sym (none c))
each_append of from none some c (x ∷ xs) ys =
    some c x (xs ++ ys) ∙ ap (λ z. of c x ++ z) (each_append of from none some (suc c) xs ys ∙ ap (λ k. from (suc c) xs ++ from k ys)
    (let e : suc c + length xs ≡ c + suc (length xs) = omega arith in e))
    ∙ sym (append_assoc (of c x) (from (suc c) xs) (from (c + suc (length xs)) ys)) ∙ ap (λ z. z ++ from (c + suc (length xs)) ys) (sym (some c x xs))

pub fields_from-append : (c : ℕ) (xs ys : List DeclTree) → fields_from c (xs ++ ys) ≡ fields_from c xs ++ fields_from (c + length xs) ys
fields_from-append = each_append fields_declared fields_from (λ c. refl) (λ c d ds. refl)

pub methods_from-append : (c : ℕ) (xs ys : List DeclTree) → methods_from c (xs ++ ys) ≡ methods_from c xs ++ methods_from (c + length xs) ys
methods_from-append = each_append methods_declared methods_from (λ c. refl) (λ c d ds. refl)

module _ (tree : List DeclTree) (known : List KnownClass) (are : AreKnown tree known) where
  -- a method as the headings have it
  pub record HeadIs (h : Heading) (m : MethodAt) : Type 0 where
    pub owner : h.owner ≡ m.owner
    pub name : h.name ≡ m.head.name
    pub static : h.is_static ≡ is_static m
    pub private : h.is_private ≡ is_private m
    pub place : h.place ≡ m.head.place
    pub main : h.is_main ≡ true → IsMain (method_outline (types_in tree) m)
    pub no_main : IsMain (method_outline (types_in tree) m) → h.is_main ≡ true

  -- a constructor has the name of its class
  pub record IsMakerIn (m : MethodAt) : Type 0 where
    pub index : ℕ
    pub decl : DeclTree
    pub stands : slice_get tree index ≡ Some decl
    pub owned : m.owner ≡ suc index
    pub name : m.head.name ≡ maker_name (name_of decl)

  -- no condition holds at a method
  pub record GoodMethod (m : MethodAt) : Type 0 where
    pub locals : List Local
    pub params : AreParams tree known are m.head.params locals
    pub result : (u : TypeName) → m.head.type ≡ Some u → (t : Ty) × Means (outline tree) u t
    pub body : HasWrongBody m → ⊥
    pub head : m.kind ≡ kinds.Head → is_static m ≡ false
    pub no_static : has_word is_abstract_word m.head.mods ≡ true → is_static m ≡ false
    pub fit : AreFit m.kind m.head.mods
    pub maker : is_maker m ≡ true → IsMakerIn m
    pub marked : (x : List ℕ) → m.head.name ≡ maker_name x → is_maker m ≡ true

  pub record GoodField (f : FieldAt) : Type 0 where
    pub free : is_type_name (types_in tree) f.name ≡ false
    pub type : Ty
    pub means : Means (outline tree) f.type type
    pub fit : AreFit kinds.Field f.mods

  -- the members so far
  pub record AreMembers (fs : List FieldAt) (ms : List MethodAt) (m : Members) : Type 0 where
    pub fields : map field_seen m.fields ≡ map (field_outline (types_in tree)) fs
    pub field_once : (i j : ℕ) (f g : FieldAt) → slice_get fs i ≡ Some f → slice_get fs j ≡ Some g → f.owner ≡ g.owner → f.name ≡ g.name → i ≡ j
    pub good_field : (i : ℕ) (f : FieldAt) → slice_get fs i ≡ Some f → GoodField f
    pub count : length m.headings ≡ length ms
    pub heads : (i : ℕ) (h : Heading) (n : MethodAt) → slice_get m.headings i ≡ Some h → slice_get ms i ≡ Some n → HeadIs h n
    pub method_once : (i j : ℕ) (a b : MethodAt) → slice_get ms i ≡ Some a → slice_get ms j ≡ Some b → a.owner ≡ b.owner → a.head.name ≡ b.head.name → i ≡ j
    pub good : (i : ℕ) (n : MethodAt) → slice_get ms i ≡ Some n → GoodMethod n
    pub slots : SlotsAre (types_in tree) ms m.headings m.slots

  -- ---- fields

  pub field-tells : (fs rest : List FieldAt) (f : FieldAt) (ms : List MethodAt) (m : Members) (g : Flags) → fields_in tree ≡ fs ++ f ∷ rest
      → FlagsAre f.mods g → AreFit kinds.Field f.mods → AreMembers fs ms m
      → Tells (AreMembers (fs ++ f ∷ []) ms) (ConditionAt tree) (field_step known f.owner m g f.type f.name f.place)
  field-tells fs rest f ms m g e hg fit h =
      tell (AreMembers (fs ++ f ∷ []) ms) (ConditionAt tree) (type_of known f.type) _ (declared-tells tree known are f.type (of_field has))
      (λ t k. go t k (names_type known f.name) (type_name-known tree known are f.name) (field_in m.fields f.owner f.name) refl) (λ r q. q)
    where
      here : slice_get (fields_in tree) (length fs) ≡ Some f
      here = stands-at fs f rest e

      has : Contains (fields_in tree) f
      has = contains_at (fields_in tree) (length fs) f here

      -- a field that stands among those seen stands in the tree
      in_tree : (i : ℕ) (x : Field) → slice_get m.fields i ≡ Some x → (y : FieldAt) × (slice_get fs i ≡ Some y) × (y.owner ≡ x.owner.0) × (y.name ≡ x.name)
      in_tree i x at = let a = map_at (field_outline (types_in tree)) fs i (field_seen x) (ap (λ z. slice_get z i) (sym h.fields)
          ∙ at_map field_seen m.fields i x at) in
          (a.0, a.1, ap (λ z. z.owner) a.2, ap (λ z. z.name) a.2)

      in_seen : (i : ℕ) (y : FieldAt) → slice_get fs i ≡ Some y → (x : Field) × (slice_get m.fields i ≡ Some x) × (x.owner.0 ≡ y.owner) × (x.name ≡ y.name)
      in_seen i y at = let a = map_at field_seen m.fields i (field_outline (types_in tree) y) (ap (λ z. slice_get z i) h.fields
          ∙ at_map (field_outline (types_in tree)) fs i y at) in
          (a.0, a.1, ap (λ z. z.owner) a.2, ap (λ z. z.name) a.2)

      go : (t : Ty) → (t ≡ type_meant (types_in tree) f.type) × Means (outline tree) f.type t → (b : Bool) → b ≡ is_type_name (types_in tree) f.name
          → (o : Option ℕ) → o ≡ position (λ x. (x.owner.0 == f.owner) && bytes_eq x.name f.name) m.fields
          → Tells (AreMembers (fs ++ f ∷ []) ms) (ConditionAt tree) (if b then Err (TwoKinds f.name f.place) else if is_some o then Err (Twice f.name f.place)
          else Ok (record {
            fields = m.fields ++ record {
              owner = record { 0 = f.owner };
              name = f.name;
              is_static = g.is_static;
              ty = t;
              place =
                  f.place;
            } ∷ [];
            headings = m.headings;
            slots = m.slots;
          }))
      go t k true q o z = type_as_field has (sym q)
      go t k false q (Some i) z =
          let a = position-passes (λ x. (x.owner.0 == f.owner) && bytes_eq x.name f.name) m.fields i (sym z) in
          let b = both-true a.0.owner.0 f.owner a.0.name f.name a.2 in
          let c = in_tree i a.0 a.1 in
          field_twice (earlier-stands fs (f ∷ rest) e i c.0 c.1) here (slice_get_within fs i c.0 c.1) (c.2 ∙ b.0) (c.3 ∙ b.1)
      go t k false q None z =
          let x : Field = record { owner = record { 0 = f.owner }; name = f.name; is_static = g.is_static; ty = t; place = f.place } in
          record {
            fields = map-append field_seen m.fields (x ∷ []) ∙ ap (λ z. z ++ field_seen x ∷ []) h.fields
                ∙ ap (λ z. map (field_outline (types_in tree)) fs ++ record (field_outline (types_in tree) f) { ty = z; is_static = g.is_static } ∷ []) k.0
                ∙ ap (λ z. map (field_outline (types_in tree)) fs ++ record (field_outline (types_in tree) f) { is_static = z } ∷ []) hg.static
                ∙ sym (map-append (field_outline (types_in tree)) fs (f ∷ []));
            field_once = λ i j a b u v s w. once-more fs f (λ a b. (a.owner ≡ b.owner) × (a.name ≡ b.name)) (λ a b s. (sym s.0, sym s.1))
                (λ i j a b u v s. h.field_once i j a b u v s.0 s.1)
                (λ i a u s. let c = in_seen i a u in none-passes (λ x. (x.owner.0 == f.owner) && bytes_eq x.name f.name) m.fields (sym z) i c.0 c.1
                (true-both c.0.owner.0 f.owner c.0.name f.name (c.2 ∙ s.0) (c.3 ∙ s.1)))
                i j a b u v (s, w);
            good_field = λ i y u. ⊎_elim (λ v. h.good_field i y v)
                (λ v. subst GoodField v.1 (record { free = sym q; type = t; means = k.1; fit = fit })) (push-cases fs f i y u);
            count = h.count;
            heads = h.heads;
            method_once = h.method_once;
            good = h.good;
            slots = h.slots;
          }

  -- ---- methods

  -- one method more, whose heading is this
  add : (fs : List FieldAt) (ms : List MethodAt) (n : MethodAt) (m : Members) (x : Heading) (ss : List PlainSlot) → AreMembers fs ms m
      → HeadIs x n → GoodMethod n
      → ((i : ℕ) (a : MethodAt) → slice_get ms i ≡ Some a → a.owner ≡ n.owner → a.head.name ≡ n.head.name → ⊥)
      → SlotsAre (types_in tree) (ms ++ n ∷ []) (m.headings ++ x ∷ []) ss
      → AreMembers fs (ms ++ n ∷ []) (record { fields = m.fields; headings = m.headings ++ x ∷ []; slots = ss })
  add fs ms n m x ss h is good fresh slots = record {
    fields = h.fields;
    field_once = h.field_once;
    good_field = h.good_field;
    count = let a = length-append m.headings (x ∷ []) in let b = length-append ms (n ∷ []) in let c = h.count in omega (arith, a, b, c);
    heads = λ i y k u v. ⊎_elim
        (λ a. ⊎_elim (λ b. h.heads i y k a b) (λ b. absurd (let l = slice_get_within m.headings i y a in let e = b.0 in let c = h.count in omega
        (arith, l, e, c))) (push-cases ms n i k v))
        (λ a. ⊎_elim (λ b. absurd (let l = slice_get_within ms i k b in let e = a.0 in let c = h.count in omega (arith, l, e, c)))
        (λ b. subst (λ z. HeadIs z k) a.1 (subst (λ z. HeadIs x z) b.1 is)) (push-cases ms n i k v))
        (push-cases m.headings x i y u);
    method_once = λ i j a b u v s w. once-more ms n (λ a b. (a.owner ≡ b.owner) × (a.head.name ≡ b.head.name)) (λ a b s. (sym s.0, sym s.1))
        (λ i j a b u v s. h.method_once i j a b u v s.0 s.1) (λ i a u s. fresh i a u s.0 s.1) i j a b u v (s, w);
    good = λ i k u. ⊎_elim (λ v. h.good i k v) (λ v. subst GoodMethod v.1 good) (push-cases ms n i k u);
    slots = slots;
  }

  -- a method of which no condition holds
  pub added : (fs : List FieldAt) (ms : List MethodAt) (n : MethodAt) (m : Members) (f : Flags) → FlagsAre n.head.mods f → NoStatic n.kind f
      → AreFit n.kind n.head.mods → (HasWrongBody n → ⊥) → (is_maker n ≡ true → IsMakerIn n)
      → ((x : List ℕ) → n.head.name ≡ maker_name x → is_maker n ≡ true) → AreMembers fs ms m
      → ((i : ℕ) (a : MethodAt) → slice_get ms i ≡ Some a → a.owner ≡ n.owner → a.head.name ≡ n.head.name → ⊥) → (ls : List Local)
      → AreParams tree known are n.head.params ls → (r : Option Ty)
      → (r ≡ option_map (type_meant (types_in tree)) n.head.type) × ((u : TypeName) → n.head.type ≡ Some u → (t : Ty) × Means (outline tree) u t)
      → AreMembers fs (ms ++ n ∷ []) (add_heading m n.owner n.head f ls r)
  added fs ms n m f hf static fit body maker marked h fresh ls p r q = by_static f.is_static refl
    where
      heads_it : (ls : List Local) (r : Option Ty) (s : Option ℕ) → AreParams tree known are n.head.params ls
          → r ≡ option_map (type_meant (types_in tree)) n.head.type → HeadIs (heading n.owner n.head f ls r s) n
      heads_it ls r s p q = record {
        owner = refl;
        name = refl;
        static = hf.static;
        private = hf.private;
        place = refl;
        main = λ b. let g = main-begins f.is_static n.head.name ls r b in
            record { static = sym hf.static ∙ g.is_static; name = g.name; params = sym (types ls p) ∙ g.params; result = sym q ∙ g.result };
        no_main = λ b. begins-main f.is_static n.head.name ls r (record {
          is_static = hf.static ∙ b.static;
          name = b.name;
          params = types ls p
              ∙ b.params;
          result = q ∙ b.result;
        });
      }
        where
          map-twice : (ls : List Local) → types_of (map local_seen ls) ≡ map (λ l. l.ty) ls
          map-twice [] = refl
          map-twice (l ∷ ls) = ap (λ z. l.ty ∷ z) (map-twice ls)

          types : (ls : List Local) → AreParams tree known are n.head.params ls
              → map (λ l. l.ty) ls ≡ types_of (map (param_outline (types_in tree)) n.head.params)
          types ls p = sym (map-twice ls) ∙ ap types_of p.same

      good : GoodMethod n
      good = record {
        locals = ls;
        params = p;
        result = q.1;
        body = body;
        head = λ k. sym hf.static ∙ static.head k;
        no_static = λ a. sym hf.static ∙ static.abstract (hf.abstract ∙ a);
        fit = fit;
        maker = maker;
        marked = marked;
      }

      map-twice : (ls : List Local) → types_of (map local_seen ls) ≡ map (λ l. l.ty) ls
      map-twice [] = refl
      map-twice (l ∷ ls) = ap (λ z. l.ty ∷ z) (map-twice ls)

      signed : (s : PlainSlot) → HasSignature n.head.name ls r s → IsOfSlot s (method_outline (types_in tree) n)
      signed s g = record { name = sym g.name; params = ap types_of (sym p.same) ∙ map-twice ls ∙ sym g.params; result = sym q.0 ∙ sym g.result }

      by_slot : f.is_static ≡ false → (o : Option ℕ) → slot_in n.head.name ls r m.slots ≡ o
          → AreMembers fs (ms ++ n ∷ []) (let s = with_slot o n.head.name ls r (length m.headings) m.slots in record
          { fields = m.fields; headings = m.headings ++ heading n.owner n.head f ls r (Some s.0) ∷ []; slots = s.1 })
      by_slot st (Some k) at =
          let g = slot-found n.head.name ls r m.slots k at in
          add fs ms n m (heading n.owner n.head f ls r (Some k)) m.slots h (heads_it ls r (Some k) p q.0) good fresh
          (slots-old (types_in tree) ms m.headings n (heading n.owner n.head f ls r (Some k)) h.count m.slots h.slots
          (one_of (sym hf.static ∙ st) refl g.1 (signed g.0 g.2)))
      by_slot st None at =
          let new : PlainSlot = record { name = n.head.name; params = map (λ l. l.ty) ls; result = r; first = length m.headings } in
          add fs ms n m (heading n.owner n.head f ls r (Some (length m.slots))) (m.slots ++ new ∷ []) h
          (heads_it ls r (Some (length m.slots)) p q.0) good fresh
          (slots-new (types_in tree) ms m.headings n (heading n.owner n.head f ls r (Some (length m.slots))) h.count m.slots new h.slots
          (sym hf.static ∙ st) refl refl (signed new (record { name = refl; params = refl; result = refl }))
          (λ i s u a b c. slot-none n.head.name ls r m.slots at i s u (record { name = a; params = b; result = c })))

      by_static : (b : Bool) → f.is_static ≡ b
          → AreMembers fs (ms ++ n ∷ []) (if b then record {
            fields = m.fields;
            headings = m.headings ++ heading n.owner n.head f ls r None
                ∷ [];
            slots = m.slots;
          }
          else let s = slotted n.head.name ls r (length m.headings) m.slots in record {
            fields = m.fields;
            headings = m.headings
                ++ heading n.owner n.head f ls r (Some s.0) ∷ [];
            slots = s.1;
          })
      by_static true st =
          add fs ms n m (heading n.owner n.head f ls r None) m.slots h (heads_it ls r None p q.0) good fresh
          (slots-old (types_in tree) ms m.headings n (heading n.owner n.head f ls r None) h.count m.slots h.slots (none_of (sym hf.static ∙ st) refl))
      by_static false st = by_slot st (slot_in n.head.name ls r m.slots) refl

  -- the body of a constructor is as it must be
  pub no-wrong : (n : MethodAt) → n.kind ≡ kinds.Maker → HasWrongBody n → ⊥
  no-wrong n kind (missing k f g) = cc (sym k ∙ kind)
  no-wrong n kind (superfluous k f g) = false≢true (sym k ∙ ap is_maker_kind kind)
  no-wrong n kind (in_concrete k f g) = false≢true (sym k ∙ ap is_maker_kind kind)

  pub head-tells : (fs : List FieldAt) (ms rest : List MethodAt) (n : MethodAt) (m : Members) (f : Flags) → methods_in tree ≡ ms ++ n ∷ rest
      → is_maker n ≡ false → IsName n.head.name → FlagsAre n.head.mods f → NoStatic n.kind f → AreFit n.kind n.head.mods → (HasWrongBody n → ⊥)
      → AreMembers fs ms m → Tells (AreMembers fs (ms ++ n ∷ [])) (ConditionAt tree) (head_step known n.owner m n.head f)
  head-tells fs ms rest n m f e plain named hf static fit body h = go (method_in m.headings n.owner n.head.name) refl
    where
      here : slice_get (methods_in tree) (length ms) ≡ Some n
      here = stands-at ms n rest e

      has : Contains (methods_in tree) n
      has = contains_at (methods_in tree) (length ms) n here

      go : (o : Option ℕ) → o ≡ position (λ x. (x.owner == n.owner) && bytes_eq x.name n.head.name) m.headings
          → Tells (AreMembers fs (ms ++ n ∷ [])) (ConditionAt tree) (if is_some o then Err (Twice n.head.name n.head.place) else with
          (params_of known n.head.params) (λ ls. with (result_of known n.head.type) (λ r. Ok (add_heading m n.owner n.head f ls r))))
      go (Some i) z =
          let a = position-passes (λ x. (x.owner == n.owner) && bytes_eq x.name n.head.name) m.headings i (sym z) in
          let b = both-true a.0.owner n.owner a.0.name n.head.name a.2 in
          let c = stands-beside m.headings ms h.count i a.0 a.1 in
          let d = h.heads i a.0 c.0 a.1 c.1 in
          method_twice (earlier-stands ms (n ∷ rest) e i c.0 c.1) here (slice_get_within ms i c.0 c.1) (sym d.owner ∙ b.0) (sym d.name ∙ b.1)
          plain
      go None z =
          tell (AreMembers fs (ms ++ n ∷ [])) (ConditionAt tree) (params_of known n.head.params) _ (params-tells tree known are n has)
          (λ ls p. tell (AreMembers fs (ms ++ n ∷ [])) (ConditionAt tree) (result_of known n.head.type) _ (result-tells tree known are n has)
          (λ r q. added fs ms n m f hf static fit body (λ k. absurd (false≢true (sym plain ∙ k)))
          (λ x k. absurd (no-mark x (subst IsName k named))) h fresh ls p r q) (λ r q. q))
          (λ r q. q)
        where
          fresh : (i : ℕ) (a : MethodAt) → slice_get ms i ≡ Some a → a.owner ≡ n.owner → a.head.name ≡ n.head.name → ⊥
          fresh i a at u v =
              let c = stands-beside ms m.headings (sym h.count) i a at in
              let d = h.heads i c.0 a c.1 at in
              none-passes (λ x. (x.owner == n.owner) && bytes_eq x.name n.head.name) m.headings (sym z) i c.0 c.1
              (true-both c.0.owner n.owner c.0.name n.head.name (d.owner ∙ u) (d.name ∙ v))

  -- a constructor that is written
  pub maker-tells : (fs : List FieldAt) (ms rest : List MethodAt) (n : MethodAt) (m : Members) (f : Flags) → methods_in tree ≡ ms ++ n ∷ rest
      → n.kind ≡ kinds.Maker → n.head.type ≡ None → IsMakerIn n → FlagsAre n.head.mods f → NoStatic n.kind f → AreFit n.kind n.head.mods
      → AreMembers fs ms m
      → ((i : ℕ) (a : MethodAt) → slice_get ms i ≡ Some a → a.owner ≡ n.owner → a.head.name ≡ n.head.name → ⊥)
      → Tells (AreMembers fs (ms ++ n ∷ [])) (ConditionAt tree)
      (with (params_of known n.head.params) (λ ls. Ok (add_heading m n.owner n.head f ls None)))
  maker-tells fs ms rest n m f e kind void in_class hf static fit h fresh =
      tell (AreMembers fs (ms ++ n ∷ [])) (ConditionAt tree) (params_of known n.head.params) _ (params-tells tree known are n has)
      (λ ls p. added fs ms n m f hf static fit (no-wrong n kind) (λ k. in_class) (λ x k. ap is_maker_kind kind) h fresh ls p None
      (ap (option_map (type_meant (types_in tree))) (sym void), λ u k. absurd (cc (sym void ∙ k)))) (λ r q. q)
    where
      has : Contains (methods_in tree) n
      has = contains_at (methods_in tree) (length ms) n (stands-at ms n rest e)
