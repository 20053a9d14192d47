-- The names of a program's facts: each stands among the words, and none is another's.
use Rattle.std.proofs.Common.{◌≡◌, ℕ, zero, suc, ◌^◌, List, [], ◌∷◌, ◌++◌, Some, length, refl, sym, ap, ◌∙◌, subst, arith, ⊎_elim}
use Rattle.std.specs.Prelude.{◌≢◌, ◌<◌, ◌==◌, ◌&&◌, Bool, true, false, Contains, All, slice_get, map, drop, codes, if◌then◌else◌, Option, None}
use Rattle.std.specs.Option.{option_map, option_map_or, option_and_then}
use Rattle.std.specs.List.{flat_map, list_any}
use Rattle.std.specs.Str.{bytes_eq, chars, encode_utf8_all}
use Rattle.std.proofs.lemmas.Bool.{cases_Bool, false≢true, eqb-true, or_cases, and_parts}
use Rattle.std.proofs.lemmas.Option.{same_Some, slice_get_within}
use Rattle.std.proofs.lemmas.Str.{chars-encodes}
use Rattle.std.proofs.lemmas.Slice.Eq.{bytes_eq-Decides}
use Rattle.std.proofs.lemmas.List.Elements.{Contains-append_left, Contains-append_right, Contains-append_cases}
use Rattle.kaba_base.specs.Words.{is_name, key_text}
use Rattle.std.proofs.lemmas.List.{length-map}
use Rattle.kaba_base.proofs.Texts.{bytes_exact}
use Rattle.kaba_base.proofs.ListLemmas.{contains_cases}
use Rattle.ucd_derived.specs.Binary.{is_xid_start, is_xid_continue}
use Rattle.ucd_derived.specs.XidStartRanges.{xid_start_ranges}
use Rattle.ucd_derived.specs.XidContinueRanges.{xid_continue_ranges}
use Rattle.ucd_table.specs.Rows.{in_ranges}
use Rattle.java_lex.specs.Writable.{IsName}
use Rattle.java_core.specs.Programs.{Plain, PlainClass, PlainField, PlainMethod}
use Rattle.java_core.specs.Formed.{IsFormed, IsVariableName}
use Rattle.fact_model.specs.Items.{column_kind}
use Rattle.fact_model.specs.InOrder.{IsMember as IsMemberColumn, name_of, AreNamesInOrder, AreMakersInOrder}
use Rattle.fact_model.specs.declared.facts.Facts.{Facts}
use Rattle.fact_model.specs.declared.facts.MakerNames.{MakerNames}
use Rattle.fact_model.specs.declared.facts.ColKind.TheVariants as kind
use Rattle.flow_rules.specs.declared.items.ColumnItem.{ColumnItem}
use Rattle.flow_rules.specs.declared.items.Site.{Site}
use Rattle.flow_rules.specs.Numbered.{sites_of}
use Rattle.flow_rules.specs.Facts.{kind_of, name_in, is_holder, is_marked, all_names, method_names, maker_names, all_variables, variable_names, text_words, column_name, FixedFor, the_holder, the_local, FixedName, fixed_names, name_for, PlainMakers, makers_seen, makers_of, site_info, IsFactsOf, AreNamesOf}
use Rattle.flow_rules.proofs.Listed.{more, first, contains_at, at_contains, map_has, map_from, flat_has, flat_from, all_of, once_has, once_from}
use Rattle.flow_laws.proofs.order.Columns.{Stands, for_field, for_declaration, for_body, for_mark, item_of}
use Rattle.flow_laws.proofs.order.Classes.{class_at}
use Rattle.flow_laws.proofs.order.Fixed.{wished, init_name, plain_name, fixed_named}
use Rattle.flow_rules.proofs.FixedNames.{name_for-from, fixed-new}

bytes_alike : (x : List ℕ) → bytes_eq x x ≡ true
bytes_alike x = (bytes_eq-Decides x x).1 refl

drop_at : {A : Type 0} (xs : List A) (i : ℕ) (x : A) → slice_get (drop 1 xs) i ≡ Some x → slice_get xs (suc i) ≡ Some x
drop_at [] i x e = absurd (cc)
drop_at (y ∷ ys) i x e = e

at_drop : {A : Type 0} (xs : List A) (i : ℕ) (x : A) → slice_get xs (suc i) ≡ Some x → slice_get (drop 1 xs) i ≡ Some x
at_drop [] i x e = absurd (cc)
at_drop (y ∷ ys) i x e = e

any_at : {A : Type 0} (f : A → Bool) (xs : List A) → list_any f xs ≡ true → (x : A) × Contains xs x × (f x ≡ true)
any_at f [] e = absurd (false≢true e)
any_at f (x ∷ xs) e = ⊎_elim (λ h. (x, first x xs, h)) (λ h. let z = any_at f xs h in (z.0, more z.0 x xs z.1, z.2)) (or_cases (f x) (list_any f xs) e)

-- the names of the holder and of the local are found
pub both_found : (a b : Option (List ℕ)) (m : PlainMakers) → option_and_then (λ h. option_map (λ l. record { holder = h; local = l }) b) a ≡ Some m
    → (a ≡ Some m.holder) × (b ≡ Some m.local)
both_found None b m e = absurd (cc)
both_found (Some h) None m e = absurd (cc)
both_found (Some h) (Some l) m e = (ap (λ z. Some z.holder) (same_Some _ m e), ap (λ z. Some z.local) (same_Some _ m e))

module _ (P : Plain) (formed : IsFormed P) where
  abbrev class_names : List (List ℕ)
  class_names = map (λ k. k.name) (drop 1 P.classes)

  abbrev field_names : List (List ℕ)
  field_names = map (λ f. f.name) P.fields

  abbrev type_part : List (List ℕ)
  type_part = class_names ++ field_names

  abbrev method_part : List (List ℕ)
  method_part = flat_map method_names P.methods

  abbrev maker_part : List (List ℕ)
  maker_part = flat_map maker_names P.methods

  -- each name is one of a class, a field or a method, or of a variable
  of_type : (x : List ℕ) → Contains type_part x → Contains (all_names P) x
  of_type x c = Contains-append_left (type_part ++ method_part) maker_part x (Contains-append_left type_part method_part x c)

  of_method : (x : List ℕ) → Contains method_part x → Contains (all_names P) x
  of_method x c = Contains-append_left (type_part ++ method_part) maker_part x (Contains-append_right type_part method_part x c)

  of_maker : (x : List ℕ) → Contains maker_part x → Contains (all_names P) x
  of_maker x c = Contains-append_right (type_part ++ method_part) maker_part x c

  pub class_name : (c : ℕ) (k : PlainClass) → slice_get P.classes (suc c) ≡ Some k → Contains (all_names P) k.name
  class_name c k e = of_type k.name (Contains-append_left class_names field_names k.name (map_has (λ k. k.name) (drop 1 P.classes) k
      (contains_at (drop 1 P.classes) c k (at_drop P.classes c k e))))

  pub field_name : (f : ℕ) (k : PlainField) → slice_get P.fields f ≡ Some k → Contains (all_names P) k.name
  field_name f k e = of_type k.name (Contains-append_right class_names field_names k.name (map_has (λ f. f.name) P.fields k (contains_at P.fields f k e)))

  -- what a method's names hold, by whether it is a constructor
  method_has : (k : PlainMethod) (x : List ℕ) → is_marked k.name ≡ false → Contains (k.name ∷ variable_names k) x → Contains (method_names k) x
  method_has k x b c = subst (λ t. Contains (if t then [] else k.name ∷ variable_names k) x) (sym b) c

  maker_has : (k : PlainMethod) (x : List ℕ) → is_marked k.name ≡ true → Contains (variable_names k) x → Contains (maker_names k) x
  maker_has k x b c = subst (λ t. Contains (if t then variable_names k else []) x) (sym b) c

  pub method_name : (m : ℕ) (k : PlainMethod) → slice_get P.methods m ≡ Some k → is_marked k.name ≡ false → Contains (all_names P) k.name
  method_name m k e b = of_method k.name
      (flat_has method_names P.methods k k.name (contains_at P.methods m k e) (method_has k k.name b (first k.name (variable_names k))))

  pub method_variable : (k : PlainMethod) (x : List ℕ) → Contains P.methods k → Contains (variable_names k) x → Contains (all_names P) x
  method_variable k x c d =
      ⊎_elim
      (λ b. of_maker x (flat_has maker_names P.methods k x c (maker_has k x b d)))
      (λ b. of_method x (flat_has method_names P.methods k x c (method_has k x b (more x k.name (variable_names k) d))))
      (cases_Bool (is_marked k.name))

  pub variable : (x : List ℕ) → Contains (all_variables P) x → Contains (all_names P) x
  variable x c =
      ⊎_elim (λ d. of_type x (Contains-append_right class_names field_names x d))
      (λ d. let z = flat_from variable_names P.methods x d in method_variable z.0 x z.1 z.2)
      (Contains-append_cases field_names (flat_map variable_names P.methods) x c)

  -- and an identifier
  class_named : (c : ℕ) (k : PlainClass) → slice_get P.classes (suc c) ≡ Some k → IsName k.name
  class_named c k e = (formed.classes c k e).name

  field_named : (f : ℕ) (k : PlainField) → slice_get P.fields f ≡ Some k → IsVariableName P k.name
  field_named f k e = (formed.fields f k e).name

  variable_named : (m : ℕ) (k : PlainMethod) (x : List ℕ) → slice_get P.methods m ≡ Some k → Contains (variable_names k) x → IsName x
  variable_named m k x e c =
      let each = (formed.methods m k e).variables in
      ⊎_elim (λ c. let v = map_from (λ v. v.name) k.params x c in subst (λ x. IsName x) v.2
      (each v.0 (Contains-append_left k.params k.locals v.0 v.1)).name.name)
      (λ c. let v = map_from (λ v. v.name) k.locals x c in subst (λ x. IsName x) v.2 (each v.0 (Contains-append_right k.params k.locals v.0 v.1)).name.name)
      (Contains-append_cases (map (λ v. v.name) k.params) (map (λ v. v.name) k.locals) x c)

  method_named : (m : ℕ) (k : PlainMethod) (x : List ℕ) → slice_get P.methods m ≡ Some k → Contains (method_names k) x → IsName x
  method_named m k x e c = go (is_marked k.name) refl c
    where
      plain : is_marked k.name ≡ false → IsName k.name
      plain b = ⊎_elim (λ n. n) (λ i. absurd (false≢true (sym b ∙ ap is_marked i.name))) (formed.methods m k e).name

      go : (t : Bool) → is_marked k.name ≡ t → Contains (if t then [] else k.name ∷ variable_names k) x → IsName x
      go true b c = absurd (omega (arith, c.1))
      go false b c =
          ⊎_elim (λ d. subst (λ x. IsName x) d (plain b)) (λ d. variable_named m k x e d) (contains_cases k.name (variable_names k) x c)

  maker_named : (m : ℕ) (k : PlainMethod) (x : List ℕ) → slice_get P.methods m ≡ Some k → Contains (maker_names k) x → IsName x
  maker_named m k x e c = go (is_marked k.name) c
    where
      go : (t : Bool) → Contains (if t then variable_names k else []) x → IsName x
      go true c = variable_named m k x e c
      go false c = absurd (omega (arith, c.1))

  named : (x : List ℕ) → Contains (all_names P) x → IsName x
  named x c =
      ⊎_elim
      (λ d. ⊎_elim
      (λ d. ⊎_elim
      (λ d. let z = map_from (λ k. k.name) (drop 1 P.classes) x d in let w = at_contains (drop 1 P.classes) z.0 z.1 in subst (λ x. IsName x) z.2
      (class_named w.0 z.0 (drop_at P.classes w.0 z.0 w.1)))
      (λ d. let z = map_from (λ f. f.name) P.fields x d in let w = at_contains P.fields z.0 z.1 in subst (λ x. IsName x) z.2 (field_named w.0 z.0 w.1).name)
      (Contains-append_cases class_names field_names x d))
      (λ d. let z = flat_from method_names P.methods x d in let w = at_contains P.methods z.0 z.1 in method_named w.0 z.0 x w.1 z.2)
      (Contains-append_cases type_part method_part x d))
      (λ d. let z = flat_from maker_names P.methods x d in let w = at_contains P.methods z.0 z.1 in maker_named w.0 z.0 x w.1 z.2)
      (Contains-append_cases (type_part ++ method_part) maker_part x c)

  -- each stands among the words of the text
  pub text_word : (x : List ℕ) → Contains (all_names P) x → Contains (text_words P) x
  text_word x c =
      let z = once_has bytes_eq bytes_exact bytes_alike encode_utf8_all (all_names P) x c in
      let d = named z.0 (once_from bytes_eq bytes_exact bytes_alike encode_utf8_all (all_names P) z.0 z.1) in
      let e = sym (chars-encodes z.0 d.scalars) ∙ ap chars z.2 ∙ chars-encodes x (named x c).scalars in
      subst (λ w. Contains (text_words P) w) e z.1

  -- and so does that of a method which is no constructor
  pub method_word : (m : ℕ) (k : PlainMethod) → slice_get P.methods m ≡ Some k → is_marked k.name ≡ false → Contains (text_words P) k.name
  method_word m k e b = text_word k.name (method_name m k e b)

  -- there are few sites
  pub few : (F : Facts) → IsFactsOf P F → (i : ℕ) (s : Site) → slice_get (sites_of P) i ≡ Some s → i < 2 ^ 64
  few F facts i s e =
      let lt : i < length (sites_of P) = slice_get_within (sites_of P) i s e in
      omega (arith, lt, ap length facts.sites, length-map (sites_of P) site_info, F.sites.ok, F.sites.small)

  module _ (F : Facts) (facts : IsFactsOf P F) (names : AreNamesOf P F) where
    -- the words are those of the text and the names that are fixed
    text_in : (x : List ℕ) → Contains (text_words P) x → Contains F.words.items x
    text_in x c = subst (λ w. Contains w x) (sym names.words) (Contains-append_left (text_words P) (map (λ f. f.name) (fixed_names P)) x c)

    word : (x : List ℕ) → Contains (all_names P) x → Contains F.words.items x
    word x c = text_in x (text_word x c)

    fixed_word : (f : FixedName) → Contains (fixed_names P) f → Contains F.words.items f.name
    fixed_word f c = subst (λ w. Contains w f.name) (sym names.words)
        (Contains-append_right (text_words P) (map (λ f. f.name) (fixed_names P)) f.name (map_has (λ f. f.name) (fixed_names P) f c))

    vars : All (Contains F.words.items) F.vars.items
    vars = all_of (Contains F.words.items) F.vars.items (λ x c. word x (variable x ((names.vars x).0 c)))

    words : All (λ w. is_name w ≡ true) F.words.items
    words = all_of (λ w. is_name w ≡ true) F.words.items (λ x c.
        ⊎_elim
        (λ d. (named x (once_from bytes_eq bytes_exact bytes_alike encode_utf8_all (all_names P) x d)).named)
        (λ d. let z = map_from (λ f. f.name) (fixed_names P) x d in subst (λ x. is_name x ≡ true) z.2 (fixed_named P formed (few F facts) z.0 z.1))
        (Contains-append_cases (text_words P) (map (λ f. f.name) (fixed_names P)) x (subst (λ w. Contains w x) names.words c)))

    object_name : is_name (codes "Object") ≡ true
    unfolding is_xid_start is_xid_continue in_ranges xid_start_ranges xid_continue_ranges key_text
    object_name = refl

    name_at : (c : ℕ) (k : PlainClass) → slice_get P.classes c ≡ Some k → is_name k.name ≡ true
    name_at zero k e = subst (λ x. is_name x ≡ true) (sym (ap (λ k. k.name) (same_Some _ _ (sym e ∙ formed.object.first)) ∙ formed.object.name)) object_name
    name_at (suc c) k e = (formed.classes c k e).name.named

    classes : All (λ k. is_name k.name ≡ true) F.classes.items
    classes = all_of (λ k. is_name k.name ≡ true) F.classes.items
        (λ k c. let z = at_contains F.classes.items k c in let w = class_at P F facts z.0 k z.1 in subst (λ x. is_name x ≡ true) (sym w.name)
        (name_at z.0 w.plain w.stands))

    -- a class with static members is not Object
    holding : (c : ℕ) → is_holder P c ≡ true → c ≢ 0
    holding c h e = ⊎_elim
        (λ d. let z = any_at (λ f. f.is_static && (f.owner == c)) P.fields d in let w = at_contains P.fields z.0 z.1 in
        (formed.fields w.0 z.0 w.1).no_object (eqb-true z.0.owner c (and_parts z.0.is_static (z.0.owner == c) z.2).1 ∙ e))
        (λ d. let z = any_at (λ m. m.is_static && (m.owner == c)) P.methods d in let w = at_contains P.methods z.0 z.1 in
        (formed.methods w.0 z.0 w.1).no_object (eqb-true z.0.owner c (and_parts z.0.is_static (z.0.owner == c) z.2).1 ∙ e))
        (or_cases (list_any (λ f. f.is_static && (f.owner == c)) P.fields) (list_any (λ m. m.is_static && (m.owner == c)) P.methods) h)

    holder_name : (c : ℕ) (k : PlainClass) → slice_get P.classes c ≡ Some k → (c ≢ 0) → Contains (all_names P) k.name
    holder_name zero k e n = absurd (n refl)
    holder_name (suc c) k e n = class_name c k e

    holders : All (λ k. k.holder ≡ true → Contains F.words.items k.name) F.classes.items
    holders = all_of (λ k. k.holder ≡ true → Contains F.words.items k.name) F.classes.items
        (λ k c h. let z = at_contains F.classes.items k c in let w = class_at P F facts z.0 k z.1 in
        subst (λ x. Contains F.words.items x) (sym w.name) (word w.plain.name (holder_name z.0 w.plain w.stands (holding z.0 (sym w.holder ∙ h)))))

    method_item : (m : ℕ) (k : PlainMethod) → slice_get P.methods m ≡ Some k → Contains F.words.items (column_name P k)
    method_item m k e =
        ⊎_elim
        (λ b. let i = init_name P formed m k e b in subst (λ x. Contains F.words.items x) (sym i.name) (fixed_word i.fixed i.stands))
        (λ b. subst (λ x. Contains F.words.items x) (sym (plain_name P formed k b)) (text_in k.name (method_word m k e b)))
        (cases_Bool (is_marked k.name))

    item_name : (i : ColumnItem) → Stands P i → ((kind_of i ≡ kind.Is) → ⊥) → Contains F.words.items (name_in P i)
    item_name _ (for_field f k e s) n = subst (λ x. Contains F.words.items x) (sym (ap (λ o. option_map_or (λ k. k.name) o []) e))
        (word k.name (field_name f k e))
    item_name _ (for_declaration m k e s) n = subst (λ x. Contains F.words.items x) (sym (ap (λ o. option_map_or (column_name P) o []) e)) (method_item m k e)
    item_name _ (for_body m k e s b) n = subst (λ x. Contains F.words.items x) (sym (ap (λ o. option_map_or (column_name P) o []) e)) (method_item m k e)
    item_name _ (for_mark c) n = absurd (n refl)

    members : (c : ℕ) → IsMemberColumn F c → Contains F.words.items (name_of F c)
    members c h =
        let z = item_of P F facts c h.0 in
        subst (λ x. Contains F.words.items x) (sym (ap (λ i. i.name) z.info))
        (item_name z.item z.stands (λ e. h.1 (ap (λ i. i.kind) z.info ∙ e)))

    field_item : (i : ColumnItem) → Stands P i → kind_of i ≡ kind.Fld → IsVariableName P (name_in P i)
    field_item _ (for_field f k e s) h = subst (λ x. IsVariableName P x) (sym (ap (λ o. option_map_or (λ k. k.name) o []) e)) (field_named f k e)
    field_item _ (for_declaration m k e s) h = absurd (cc)
    field_item _ (for_body m k e s b) h = absurd (cc)
    field_item _ (for_mark c) h = absurd (cc)

    variable_name : (c : ℕ) → c < length F.columns.items → column_kind F c ≡ kind.Fld → IsVariableName P (name_of F c)
    variable_name c h k =
        let z = item_of P F facts c h in
        subst (λ x. IsVariableName P x) (sym (ap (λ i. i.name) z.info)) (field_item z.item z.stands (sym (ap (λ i. i.kind) z.info) ∙ k))

    fields : (c : ℕ) → c < length F.columns.items → column_kind F c ≡ kind.Fld → All (λ k. k.holder ≡ true → name_of F c ≢ k.name) F.classes.items
    fields c h k = all_of (λ k. k.holder ≡ true → name_of F c ≢ k.name) F.classes.items
        (λ i d g e. let z = at_contains F.classes.items i d in let w = class_at P F facts z.0 i z.1 in
        (variable_name c h k).no_class z.0 w.plain w.stands (sym w.name ∙ sym e))

    others : (c : ℕ) → c < length F.columns.items → column_kind F c ≡ kind.Fld → (name_of F c ≢ codes "Object") × (name_of F c ≢ codes "String")
        × (name_of F c ≢ codes "System")
    others c h k =
        let z = variable_name c h k in
        (λ e. z.no_class 0 formed.object.object formed.object.first (formed.object.name ∙ sym e), z.no_string, z.no_system)

    -- the holder and the local are fixed names, and no field has one
    fixed_found : (i : FixedFor) (n : List ℕ) → name_for i (fixed_names P) ≡ Some n → (f : FixedName) × Contains (fixed_names P) f × (f.name ≡ n)
    fixed_found i n e = let z = name_for-from i (fixed_names P) n e in (z.0, z.1, z.3)

    field_word : (i : ColumnItem) → Stands P i → kind_of i ≡ kind.Fld → Contains (text_words P) (name_in P i)
    field_word _ (for_field f k e s) h = subst (λ x. Contains (text_words P) x) (sym (ap (λ o. option_map_or (λ k. k.name) o []) e))
        (text_word k.name (field_name f k e))
    field_word _ (for_declaration m k e s) h = absurd (cc)
    field_word _ (for_body m k e s b) h = absurd (cc)
    field_word _ (for_mark c) h = absurd (cc)

    makers : (m : MakerNames) → F.makers ≡ Some m → AreMakersInOrder F m
    makers m e =
        let seen : makers_of P ≡ Some (makers_seen m) = sym facts.makers ∙ ap (option_map makers_seen) e in
        let both = both_found (name_for the_holder (fixed_names P)) (name_for the_local (fixed_names P)) (makers_seen m) seen in
        let holder = fixed_found the_holder m.holder both.0 in
        let local = fixed_found the_local m.local both.1 in
        record {
          holder = subst (λ x. Contains F.words.items x) holder.2 (fixed_word holder.0 holder.1);
          local = subst (λ x. Contains F.words.items x) local.2 (fixed_word local.0 local.1);
          fields = λ c h k same.
              let z = item_of P F facts c h in
              let w = field_word z.item z.stands (sym (ap (λ i. i.kind) z.info) ∙ k) in
              fixed-new (text_words P) (wished P formed) (name_in P z.item) holder.0 w holder.1 (holder.2 ∙ sym same ∙ ap (λ i. i.name) z.info);
        }

    pub names_in_order : AreNamesInOrder F
    names_in_order = record {
      vars = vars;
      holders = holders;
      members = members;
      classes = classes;
      words = words;
      fields = fields;
      others = others;
      makers = makers;
    }
