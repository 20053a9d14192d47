-- The names of the start: what each is, and that no two types, and no member and a type, have one.
use Rattle.std.proofs.Common.{◌≡◌, ◌≢◌, ℕ, suc, zero, ◌+◌, ◌^◌, ◌<◌, ◌≤◌, ◌⊎◌, ◌&&◌, eqb, Bool, true, false, List, [], ◌∷◌, ◌++◌, length, get_or, Option, Some, None, Contains, refl, sym, ap, ◌∙◌, subst, arith, ⊎_elim, inl, inr}
use Rattle.std.specs.Prelude.{slice_get, not, codes}
use Rattle.std.specs.Option.{option_map_or}
use Rattle.std.specs.Fmt.{decimal}
use Rattle.std.specs.Str.{bytes_eq}
use Rattle.std.specs.List.{list_any, list_all}
use Rattle.std.proofs.lemmas.Bool.{cases_Bool, cases_lt, cases_order, false≢true, and_parts, and_from, ne_eqb, or_from}
use Rattle.std.proofs.lemmas.List.{get_or_append_left, get_or_push, length_push, get_or_past}
use Rattle.std.proofs.lemmas.List.Elements.{Contains-get_or, All-contains}
use Rattle.std.proofs.lemmas.Fmt.{decimal_nonempty}
use Rattle.std.proofs.lemmas.Option.{slice_get_within, get_or_from_slice_get}
use Rattle.std.proofs.lemmas.Slice.Eq.{bytes_eq-Decides}
use Rattle.kaba_base.specs.Words.{is_word, is_name, is_none, key_of, is_part}
use Rattle.kaba_base.specs.declared.ClassId.{ClassId}
use Rattle.fact_model.specs.Items.{column_kind, column_class}
use Rattle.fact_model.specs.Classes.{IsBelow, below}
use Rattle.fact_model.specs.InRange.{InRange}
use Rattle.fact_model.specs.InOrder.{InOrder, name_of}
use Rattle.fact_model.specs.declared.facts.Facts.{Facts}
use Rattle.fact_model.specs.declared.facts.MakerNames.{MakerNames}
use Rattle.fact_model.specs.declared.facts.ClassInfo.{ClassInfo}
use Rattle.fact_model.specs.declared.facts.ColumnInfo.{ColumnInfo}
use Rattle.fact_model.specs.declared.facts.ColKind.{ColKind}
use Rattle.fact_model.specs.declared.facts.ColKind.TheVariants.{Fld, Dcl, Def, Is}
use Rattle.fact_model.proofs.ClassLemmas.{below-exact}
use Rattle.fact_model.proofs.ChainLemmas.{chain}
use Rattle.fact_model.proofs.RangeLemmas.{column-below}
use Rattle.hier_model.specs.Hierarchies.{any_below}
use Rattle.hier_model.proofs.AnyLemmas.{any_below_has}
use Rattle.fact_model.proofs.FreeLemmas.{free_name-free}
use Rattle.fact_model.specs.FreeNames.{is_taken, free_name}
use Rattle.hier_model.specs.Names.{is_field, is_strictly_above, is_namesake_above, is_shared, class_name, joined, named_member, member_names, naming_class, named_type, type_names}
use Rattle.hier_laws.specs.Starts.{AreNamed}
use Rattle.hier_rules.specs.Names.{is_makers_holder, is_makers_local, is_holder_name, is_reserved, is_variable, known_names}
use Rattle.fact_model.specs.declared.sets.PointsTo.{PointsTo}
use Rattle.fact_model.specs.declared.sets.Table.{Table}
use Rattle.fact_model.specs.Closures.{IsPlainClass}
use Rattle.hier_laws.proofs.GivenLemmas.{given}
use Rattle.fact_model.proofs.MarkedNames.{not_taken, taken_left, has_mark, word_parts, decimal_parts}
use Rattle.hier_laws.proofs.WordLemmas.{made_mark, known_unmarked, made_name}

pub field_is : (k : ColKind) → is_field k ≡ true → k ≡ Fld
field_is Fld e = refl
field_is Dcl e = absurd (false≢true e)
field_is Def e = absurd (false≢true e)
field_is Is e = absurd (false≢true e)

no_any : {X : Type 0} (p : X → Bool) (xs : List X) → ((x : X) → Contains xs x → p x ≡ true → ⊥) → list_any p xs ≡ false
no_any p [] none = refl
no_any p (x ∷ xs) none =
    ⊎_elim
    (λ t. absurd (none x (0, omega arith, refl) t))
    (λ f. rw f (no_any p xs (λ y c h. none y (suc c.0, omega (arith, c.1), c.2) h)))
    (cases_Bool (p x))

module _ (F : Facts) where
  abbrev C : ℕ
  C = length F.columns.items

  -- the members' names
  pub members_len : (n : ℕ) → length (member_names F n) ≡ n
  members_len zero = refl
  members_len (suc n) = omega (arith, length_push (member_names F n) (named_member F (member_names F n) n), members_len n)

  pub member_at : (n c : ℕ) → c < n → get_or (member_names F n) c [] ≡ named_member F (member_names F c) c
  member_at zero c lt = absurd (omega (arith, lt))
  member_at (suc n) c lt =
      ⊎_elim
      (λ before. get_or_append_left (member_names F n) (named_member F (member_names F n) n ∷ []) [] c (omega (arith, before, members_len n))
      ∙ member_at n c before)
      (λ last.
      let e : c ≡ n = omega (arith, lt, last) in
      get_or_push (member_names F n) (named_member F (member_names F n) n) [] c (omega (arith, e, members_len n))
      ∙ ap (λ k. named_member F (member_names F k) k) (sym e))
      (cases_lt c n)

  -- what is named by itself keeps its name
  kept_name : (given : List (List ℕ)) (c : ℕ) → is_shared F c ≡ false → named_member F given c ≡ name_of F c
  kept_name given c e = rw e refl

  made_member : (given : List (List ℕ)) (c : ℕ) → is_shared F c ≡ true → named_member F given c ≡ free_name (F.words.items ++ given)
      (joined (name_of F c) (class_name F (column_class F c)))
  made_member given c e = rw e refl

  -- the types' names
  module _ (os : List (Option ClassId)) where
    abbrev ms : List (List ℕ)
    ms = member_names F C

    abbrev ts : ℕ → List (List ℕ)
    ts n = type_names F ms os n

    pub types_len : (n : ℕ) → length (ts n) ≡ n
    types_len zero = refl
    types_len (suc n) = omega (arith, length_push (ts n) (named_type F os (ms ++ ts n) n), types_len n)

    pub type_at : (n k : ℕ) → k < n → get_or (ts n) k [] ≡ named_type F os (ms ++ ts k) k
    type_at zero k lt = absurd (omega (arith, lt))
    type_at (suc n) k lt =
        ⊎_elim
        (λ before. get_or_append_left (ts n) (named_type F os (ms ++ ts n) n ∷ []) [] k (omega (arith, before, types_len n)) ∙ type_at n k before)
        (λ last.
        let e : k ≡ n = omega (arith, lt, last) in
        get_or_push (ts n) (named_type F os (ms ++ ts n) n) [] k (omega (arith, e, types_len n)) ∙ ap (λ j. named_type F os (ms ++ ts j) j) (sym e))
        (cases_lt k n)

    abbrev type_word : ℕ → List ℕ
    type_word k = joined (class_name F (naming_class (get_or os k None))) (decimal k)

    -- the name of a type is none of the words, of the members' names and of those of the types before it
    type_free : (k : ℕ) → (is_taken F.words.items (named_type F os (ms ++ ts k) k) ≡ false) × (is_taken ms (named_type F os (ms ++ ts k) k) ≡ false)
        × (is_taken (ts k) (named_type F os (ms ++ ts k) k) ≡ false)
    type_free k =
        let a = taken_left F.words.items (ms ++ ts k) (named_type F os (ms ++ ts k) k) (free_name-free (F.words.items ++ (ms ++ ts k)) (type_word k)) in
        let b = taken_left ms (ts k) (named_type F os (ms ++ ts k) k) a.1 in
        (a.0, b.0, b.1)

    pub type_no_word : (n k : ℕ) (x : List ℕ) → k < n → Contains F.words.items x → get_or (ts n) k [] ≢ x
    type_no_word n k x lt c e = not_taken F.words.items (named_type F os (ms ++ ts k) k) x (type_free k).0 c (sym (type_at n k lt) ∙ e)

    pub type_no_member : (n k c : ℕ) → k < n → c < C → get_or (ts n) k [] ≢ get_or ms c []
    type_no_member n k c lt cl e =
        not_taken ms (named_type F os (ms ++ ts k) k) (get_or ms c []) (type_free k).1 (Contains-get_or ms c [] (omega (arith, cl, members_len C)))
        (sym (type_at n k lt) ∙ e)

    earlier : (n j k : ℕ) → j < k → k < n → get_or (ts n) k [] ≢ get_or (ts n) j []
    earlier n j k jk kn e =
        not_taken (ts k) (named_type F os (ms ++ ts k) k) (get_or (ts k) j []) (type_free k).2 (Contains-get_or (ts k) j [] (omega (arith, jk, types_len k)))
        (sym (type_at n k kn) ∙ e ∙ type_at n j (omega (arith, jk, kn)) ∙ sym (type_at k j jk))

    pub types_apart : (n j k : ℕ) → j < n → k < n → j ≢ k → get_or (ts n) j [] ≢ get_or (ts n) k []
    types_apart n j k jn kn ne e =
        ⊎_elim (λ same. ne same) (⊎_elim (λ lt. earlier n j k lt kn (sym e)) (λ gt. earlier n k j gt jn e)) (cases_order j k)

    pub type_mark : (n k : ℕ) → k < n → has_mark (get_or (ts n) k []) ≡ true
    type_mark n k lt = ap has_mark (type_at n k lt) ∙ made_mark (F.words.items ++ (ms ++ ts k)) (class_name F (naming_class (get_or os k None))) (decimal k)

  module _ (R : InRange F) (O : InOrder F) where
    name_word : (x : List ℕ) → is_name x ≡ true → is_word x ≡ true
    name_word x h = (and_parts (is_word x) (is_none (key_of x)) h).0

    -- the name of a class is a word, and what is none has no name
    class_word : (a : ℕ) → (class_name F a ≡ []) ⊎ (is_word (class_name F a) ≡ true)
    class_word a = at (slice_get F.classes.items a) refl
      where
        at : (o : Option ClassInfo) → slice_get F.classes.items a ≡ o → (option_map_or (λ (k : ClassInfo). k.name) o [] ≡ [])
            ⊎ (is_word (option_map_or (λ (k : ClassInfo). k.name) o []) ≡ true)
        at None e = inl refl
        at (Some k) e =
            let is = get_or_from_slice_get F.classes.items a k k e in
            inr (name_word k.name (subst (λ (x : ClassInfo). is_name x.name ≡ true) is (O.names.classes a k (slice_get_within F.classes.items a k e))))

    class_parts : (a : ℕ) → list_all is_part (class_name F a) ≡ true
    class_parts a = ⊎_elim (λ e. rw e refl) (λ w. word_parts (class_name F a) w) (class_word a)

    pub type_name_is : (os : List (Option ClassId)) (n k : ℕ) → k < n → k < 2 ^ 64 → is_name (get_or (type_names F (member_names F C) os n) k []) ≡ true
    type_name_is os n k lt small =
        ap is_name (type_at os n k lt)
        ∙ made_name (F.words.items ++ (member_names F C ++ type_names F (member_names F C) os k)) (class_name F (naming_class (get_or os k None))) (decimal k)
        (class_word (naming_class (get_or os k None))) (decimal_parts k small) (let some = decimal_nonempty k small in omega (arith, some))

    field_below : (c : ℕ) → is_field (column_kind F c) ≡ true → c < C
    field_below c h = column-below F c Fld (field_is (column_kind F c) h) (λ x. cc x)

    member_word : (c : ℕ) → c < C → column_kind F c ≢ Is → Contains F.words.items (name_of F c)
    member_word c lt ne = O.names.members c (lt, ne)

    shared_field : (c : ℕ) → is_shared F c ≡ true → is_field (column_kind F c) ≡ true
    shared_field c h = (and_parts (is_field (column_kind F c)) (any_below C (λ d. is_namesake_above F c d)) h).0

    fld_not_is : (c : ℕ) → is_field (column_kind F c) ≡ true → column_kind F c ≢ Is
    fld_not_is c h e = let k = field_is (column_kind F c) h in cc (e, k)

    member_old : (c : ℕ) → c < C → is_shared F c ≡ false → get_or (member_names F C) c [] ≡ name_of F c
    member_old c lt e = member_at C c lt ∙ kept_name (member_names F c) c e

    member_new : (c : ℕ) → c < C → is_shared F c ≡ true → get_or (member_names F C) c [] ≡ free_name (F.words.items ++ member_names F c)
        (joined (name_of F c) (class_name F (column_class F c)))
    member_new c lt e = member_at C c lt ∙ made_member (member_names F c) c e

    made_free : (c : ℕ) → (is_taken F.words.items (free_name (F.words.items ++ member_names F c)
        (joined (name_of F c) (class_name F (column_class F c)))) ≡ false)
        × (is_taken (member_names F c) (free_name (F.words.items ++ member_names F c) (joined (name_of F c) (class_name F (column_class F c)))) ≡ false)
    made_free c = taken_left F.words.items (member_names F c) (free_name (F.words.items ++ member_names F c)
        (joined (name_of F c) (class_name F (column_class F c)))) (free_name-free (F.words.items ++ member_names F c)
        (joined (name_of F c) (class_name F (column_class F c))))

    made_no_word : (c : ℕ) (x : List ℕ) → c < C → is_shared F c ≡ true → Contains F.words.items x → get_or (member_names F C) c [] ≢ x
    made_no_word c x lt e has same =
        not_taken F.words.items (free_name (F.words.items ++ member_names F c) (joined (name_of F c) (class_name F (column_class F c)))) x
        (made_free c).0 has (sym (member_new c lt e) ∙ same)

    made_before : (c d : ℕ) → d < c → c < C → is_shared F c ≡ true → get_or (member_names F C) c [] ≢ get_or (member_names F C) d []
    made_before c d dc lt e same =
        not_taken (member_names F c) (free_name (F.words.items ++ member_names F c) (joined (name_of F c) (class_name F (column_class F c))))
        (get_or (member_names F c) d []) (made_free c).1
        (Contains-get_or (member_names F c) d [] (omega (arith, dc, members_len c)))
        (sym (member_new c lt e) ∙ same ∙ member_at C d (omega (arith, dc, lt)) ∙ sym (member_at c d dc))

    -- the name of a member is one
    pub member_name_is : (c : ℕ) → c < C → column_kind F c ≢ Is → is_name (get_or (member_names F C) c []) ≡ true
    member_name_is c lt ne =
        let word = All-contains (λ w. is_name w ≡ true) F.words.items (name_of F c) O.names.words (member_word c lt ne) in
        ⊎_elim
        (λ e.
        let w = name_word (name_of F c) word in
        ap is_name (member_new c lt e) ∙ made_name (F.words.items ++ member_names F c) (name_of F c) (class_name F (column_class F c)) (inr w)
        (class_parts (column_class F c)) (let some = word_long (name_of F c) w in omega (arith, some)))
        (λ e. ap is_name (member_old c lt e) ∙ word)
        (cases_Bool (is_shared F c))
      where
        word_long : (x : List ℕ) → is_word x ≡ true → 0 < length x
        word_long [] h = absurd (false≢true h)
        word_long (y ∷ x) h = omega arith

    -- the class of a field is a class
    field_class : (c : ℕ) → is_field (column_kind F c) ≡ true → IsPlainClass F (column_class F c)
    field_class c f = record {
      below = R.columns c (record { kind = Is; class = record { 0 = 0 }; slot = None; name = []; label = [] }) (field_below c f);
      kind = O.classes.fields c (field_below c f) (inl (field_is (column_kind F c) f));
    }

    abbrev pub new_name : ℕ → List ℕ
    new_name c = get_or (member_names F C) c []

    is_le : (a b : ℕ) → below F a b ≡ true → IsBelow F a b
    is_le a b h = (below-exact F O.classes.acyclic a b).0 h

    past_name : (c : ℕ) → C ≤ c → new_name c ≡ name_of F c
    past_name c past =
        get_or_past (member_names F C) c [] (omega (arith, past, members_len C))
        ∙ sym (ap (λ (k : ColumnInfo). k.name)
        (get_or_past F.columns.items c (record { kind = Is; class = record { 0 = 0 }; slot = None; name = []; label = [] }) past))

    pub fields_named : (pt : PointsTo) (t : Table) → AreNamed (given F pt t) (λ c. is_field (column_kind F c)) (is_shared F) (name_of F) new_name
    fields_named pt t = record {
      kept = λ c e. ⊎_elim (λ lt. member_old c lt e) (λ past. past_name c past) (cases_lt c C);
      made = λ c d e fd k same.
          let lc = field_below c (shared_field c e) in
          made_no_word c (name_of F d) lc e (member_word d (field_below d fd) (fld_not_is d fd)) same;
      once = λ c d e k same.
          let lc = field_below c (shared_field c e) in
          let ld = field_below d (shared_field d k) in
          ⊎_elim (λ x. x) (⊎_elim (λ lt. absurd (made_before d c lt ld k (sym same))) (λ gt. absurd (made_before c d gt lc e same))) (cases_order c d);
      apart = λ c d fc fd one e.
          O.members.fields c d (field_below c fc) (field_below d fd) (field_is (column_kind F c) fc) (field_is (column_kind F d) fd) one e;
      again = λ c d fc fd e le ne.
          let strict : is_strictly_above F (column_class F c) (column_class F d) ≡ true =
          and_from (not (eqb (column_class F c) (column_class F d))) (below F (column_class F c) (column_class F d))
          (ap not (ne_eqb (column_class F c) (column_class F d) ne)) le in
          let one : bytes_eq (name_of F c) (name_of F d) ≡ true = (bytes_eq-Decides (name_of F c) (name_of F d)).1 e in
          let mate : is_namesake_above F c d ≡ true =
          and_from (is_field (column_kind F d) && bytes_eq (name_of F c) (name_of F d)) (is_strictly_above F (column_class F c) (column_class F d))
          (and_from (is_field (column_kind F d)) (bytes_eq (name_of F c) (name_of F d)) fd one) strict in
          and_from (is_field (column_kind F c)) (any_below C (λ d. is_namesake_above F c d)) fc (any_below_has (λ d. is_namesake_above F c d) C d
          (field_below d fd) mate);
      chain = λ a c d fc fd ac ad.
          ⊎_elim
          (λ h. inl ((below-exact F O.classes.acyclic (column_class F c) (column_class F d)).1 h))
          (λ h. inr ((below-exact F O.classes.acyclic (column_class F d) (column_class F c)).1 h))
          (chain F O a (column_class F c) (column_class F d) (field_class c fc) (field_class d fd) (is_le a (column_class F c) ac)
          (is_le a (column_class F d) ad));
    }

    -- a name of the text that is reserved stands in the words, or is one that the language has
    holder_word : (k : ClassInfo) → Contains F.classes.items k → k.holder ≡ true → Contains F.words.items k.name
    holder_word k c h = All-contains (λ (k : ClassInfo). k.holder ≡ true → Contains F.words.items k.name) F.classes.items k O.names.holders c h

    -- what holds of no makers' names that the facts have
    no_makers : (p : MakerNames → Bool) (o : Option MakerNames) → ((m : MakerNames) → o ≡ Some m → p m ≡ true → ⊥) → option_map_or p o false ≡ false
    no_makers p None none = refl
    no_makers p (Some m) none = ⊎_elim (λ h. absurd (none m refl h)) (λ h. h) (cases_Bool (p m))

    -- a name that is none of the words and has an underscore is not reserved
    marked_free : (name : List ℕ) → ((x : List ℕ) → Contains F.words.items x → name ≢ x) → has_mark name ≡ true → is_reserved F name ≡ false
    marked_free name none mark =
        or_from (is_holder_name F name) (list_any (λ k. bytes_eq k name) known_names)
        (or_from (list_any (λ (k : ClassInfo). k.holder && bytes_eq k.name name) F.classes.items) (is_makers_holder F.makers name)
        (no_any (λ (k : ClassInfo). k.holder && bytes_eq k.name name) F.classes.items (λ k c h.
        let p = and_parts k.holder (bytes_eq k.name name) h in
        none k.name (holder_word k c p.0) (sym ((bytes_eq-Decides k.name name).0 p.1))))
        (no_makers (λ m. bytes_eq m.holder name) F.makers (λ m e h. none m.holder (O.names.makers m e).holder (sym ((bytes_eq-Decides m.holder name).0 h)))))
        (known_unmarked name mark)

    pub type_unreserved : (os : List (Option ClassId)) (n k : ℕ) → k < n → is_reserved F (get_or (type_names F (member_names F C) os n) k []) ≡ false
    type_unreserved os n k lt = marked_free (get_or (type_names F (member_names F C) os n) k []) (λ x c. type_no_word os n k x lt c) (type_mark os n k lt)

    pub type_no_variable : (os : List (Option ClassId)) (n k : ℕ) → k < n → is_variable F (get_or (type_names F (member_names F C) os n) k []) ≡ false
    type_no_variable os n k lt =
        let name = get_or (type_names F (member_names F C) os n) k [] in
        or_from (list_any (λ v. bytes_eq v name) F.vars.items) (is_makers_local F.makers name)
        (no_any (λ v. bytes_eq v name) F.vars.items (λ v c h.
        type_no_word os n k v lt (All-contains (Contains F.words.items) F.vars.items v O.names.vars c) (sym ((bytes_eq-Decides v name).0 h))))
        (no_makers (λ m. bytes_eq m.local name) F.makers (λ m e h.
        type_no_word os n k m.local lt (O.names.makers m e).local (sym ((bytes_eq-Decides m.local name).0 h))))

    -- a field's name is not reserved
    pub field_unreserved : (c : ℕ) → is_field (column_kind F c) ≡ true → is_reserved F (new_name c) ≡ false
    field_unreserved c f =
        ⊎_elim
        (λ e. marked_free (new_name c) (λ x has. made_no_word c x (field_below c f) e has) (ap has_mark (member_new c (field_below c f) e)
        ∙ made_mark (F.words.items ++ member_names F c) (name_of F c) (class_name F (column_class F c))))
        (λ e. ap (is_reserved F) (member_old c (field_below c f) e) ∙ old c f)
        (cases_Bool (is_shared F c))
      where
        known : (c : ℕ) (k : List ℕ) → Contains known_names k → k ≡ name_of F c → (name_of F c ≢ codes "Object") × (name_of F c ≢ codes "String")
            × (name_of F c ≢ codes "System") → ⊥
        known c k (zero, lt, e) same others = others.0 (sym same ∙ sym e)
        known c k (suc zero, lt, e) same others = others.1 (sym same ∙ sym e)
        known c k (suc (suc zero), lt, e) same others = others.2 (sym same ∙ sym e)
        known c k (suc (suc (suc j)), lt, e) same others = absurd (omega (arith, lt))

        old : (c : ℕ) → is_field (column_kind F c) ≡ true → is_reserved F (name_of F c) ≡ false
        old c f =
            let kind = field_is (column_kind F c) f in
            let others = O.names.others c (field_below c f) kind in
            or_from (is_holder_name F (name_of F c)) (list_any (λ k. bytes_eq k (name_of F c)) known_names)
            (or_from (list_any (λ (k : ClassInfo). k.holder && bytes_eq k.name (name_of F c)) F.classes.items) (is_makers_holder F.makers (name_of F c))
            (no_any (λ (k : ClassInfo). k.holder && bytes_eq k.name (name_of F c)) F.classes.items (λ k has h.
            let p = and_parts k.holder (bytes_eq k.name (name_of F c)) h in
            All-contains (λ (k : ClassInfo). k.holder ≡ true → name_of F c ≢ k.name) F.classes.items k (O.names.fields c (field_below c f) kind) has
            p.0 (sym ((bytes_eq-Decides k.name (name_of F c)).0 p.1))))
            (no_makers (λ m. bytes_eq m.holder (name_of F c)) F.makers (λ m e h.
            (O.names.makers m e).fields c (field_below c f) kind (sym ((bytes_eq-Decides m.holder (name_of F c)).0 h)))))
            (no_any (λ k. bytes_eq k (name_of F c)) known_names (λ k has h. known c k has ((bytes_eq-Decides k (name_of F c)).0 h) others))

    -- a method keeps its name
    pub method_name : (c : ℕ) → c < C → is_field (column_kind F c) ≡ false → new_name c ≡ name_of F c
    method_name c lt f = member_old c lt (not_shared (is_field (column_kind F c)) (any_below C (λ d. is_namesake_above F c d)) f)
      where
        not_shared : (a b : Bool) → a ≡ false → (a && b) ≡ false
        not_shared a b e = rw e refl
