-- The names that are fixed for the constructors of a program: each constructor has one, each is an identifier, and a method's columns have the name of
-- another's only where the methods have one name.
use Rattle.std.proofs.Common.{◌≡◌, ℕ, zero, suc, ◌^◌, List, [], ◌∷◌, ◌++◌, Bool, true, false, Some, Contains, refl, sym, ap, ap₂, ◌∙◌, subst, arith, ⊎_elim, inr}
use Rattle.std.specs.Prelude.{◌<◌, ◌==◌, ◌&&◌, not, map, drop, codes, slice_get, if◌then◌else◌}
use Rattle.std.specs.Option.{is_some, option_map_or}
use Rattle.std.specs.Fmt.{decimal}
use Rattle.std.proofs.lemmas.Bool.{cases_Bool, false≢true, eqb-true, eq-eqb, and_parts}
use Rattle.std.proofs.lemmas.Option.{same_Some}
use Rattle.std.proofs.lemmas.Slice.Eq.{bytes_eq-Decides}
use Rattle.std.proofs.lemmas.List.Elements.{Contains-append_left, Contains-append_cases}
use Rattle.ucd_derived.specs.Binary.{is_xid_start, is_xid_continue}
use Rattle.ucd_derived.specs.XidStartRanges.{xid_start_ranges}
use Rattle.ucd_derived.specs.XidContinueRanges.{xid_continue_ranges}
use Rattle.ucd_table.specs.Rows.{in_ranges}
use Rattle.kaba_base.specs.Words.{is_name, is_word, is_none, key_of, key_text}
use Rattle.kaba_base.proofs.ListLemmas.{contains_cases}
use Rattle.java_core.specs.Programs.{Plain, PlainClass, PlainMethod}
use Rattle.java_core.specs.Classes.{is_method_of, own_method}
use Rattle.java_core.specs.Makers.{maker_name, maker_of, IsMakerOf}
use Rattle.java_core.specs.Formed.{IsFormed, HasNoTwice}
use Rattle.java_core.proofs.Positions.{passes-position}
use Rattle.fact_model.proofs.MarkedNames.{joined_word, marked_name, word_parts, decimal_parts}
use Rattle.flow_rules.specs.declared.items.Site.{Site}
use Rattle.flow_rules.specs.Numbered.{sites_of}
use Rattle.flow_rules.specs.Ordered.{each}
use Rattle.flow_rules.specs.Facts.{an_init, the_holder, the_local, FixedName, wished_inits, wished_makes, wished_behind, text_words, fixed_names, name_for, is_marked, column_name}
use Rattle.flow_rules.proofs.Listed.{first, at_map, each_has, each_from_zero, when_has, when_from, one_from}
use Rattle.flow_rules.proofs.FixedNames.{name_for-from, name_for-has, fixed-has, fixed-new, fixed-one, fixed-named}

-- an identifier begins with no mark
pub name_unmarked : (x : List ℕ) → is_name x ≡ true → is_marked x ≡ false
unfolding is_xid_start in_ranges xid_start_ranges
name_unmarked [] n = refl
name_unmarked (c ∷ cs) n = ⊎_elim (λ e. absurd (false≢true (begins cs (subst (λ z. is_name (z ∷ cs) ≡ true) (eqb-true c 60 e) n)))) (λ e. e)
    (cases_Bool (c == 60))
  where
    begins : (cs : List ℕ) → is_name (60 ∷ cs) ≡ true → false ≡ true
    begins cs n = n

known_names_are : (is_name (codes "Makers") ≡ true) × (is_name (codes "made") ≡ true) × (is_name (codes "Object") ≡ true)
    × (is_word (codes "init") ≡ true) × (is_word (codes "make") ≡ true)
unfolding is_xid_start is_xid_continue in_ranges xid_start_ranges xid_continue_ranges key_text
known_names_are = (refl, refl, refl, refl, refl)

init_named : (x : List ℕ) → is_name x ≡ true → is_name (codes "init_" ++ x) ≡ true
init_named x n =
    marked_name (codes "init_" ++ x) (joined_word (codes "init") x (inr known_names_are.3)
    (word_parts x (and_parts (is_word x) (is_none (key_of x)) n).0)) refl (omega arith)

make_named : (n : ℕ) → n < 2 ^ 64 → is_name (codes "make_" ++ decimal n) ≡ true
make_named n small =
    marked_name (codes "make_" ++ decimal n) (joined_word (codes "make") (decimal n) (inr known_names_are.4) (decimal_parts n small)) refl (omega arith)

module _ (P : Plain) (formed : IsFormed P) where
  -- a method under a marked name is a constructor
  pub marked_maker : (m : ℕ) (k : PlainMethod) → slice_get P.methods m ≡ Some k → is_marked k.name ≡ true → IsMakerOf P k
  marked_maker m k e b =
      ⊎_elim (λ n. absurd (false≢true (sym (name_unmarked k.name n.named) ∙ b))) (λ i. i) (formed.methods m k e).name

  -- its class has one
  maker_there : (m : ℕ) (k : PlainMethod) → slice_get P.methods m ≡ Some k → IsMakerOf P k → is_some (maker_of P k.owner) ≡ true
  maker_there m k e i =
      let x = maker_name i.class.name in
      let is : is_method_of k.owner x k ≡ true = ap₂ (λ a b. a && b) (eq-eqb k.owner k.owner refl)
      (ap₂ (λ a b. not a && b) (formed.makers m k e i).instance ((bytes_eq-Decides k.name x).1 i.name)) in
      let z = passes-position (λ h. is_method_of k.owner x h) P.methods m k e is in
      ap is_some (found i.class i.stands ∙ z.1)
    where
      found : (d : PlainClass) → slice_get P.classes k.owner ≡ Some d → maker_of P k.owner ≡ own_method P k.owner (maker_name d.name)
      found d s = rw s refl

  -- a name is wished for it, and so one is fixed
  abbrev pub wished : List FixedName
  wished = each (wished_inits P) 0 P.classes ++ wished_behind (each (wished_makes P) 0 (sites_of P))

  init_wished : (m : ℕ) (k : PlainMethod) → slice_get P.methods m ≡ Some k → IsMakerOf P k → (w : FixedName) × Contains wished w × (w.for ≡ an_init k.owner)
  init_wished m k e i =
      let w : FixedName = record { for = an_init k.owner; name = codes "init_" ++ i.class.name } in (
        w,
        Contains-append_left (each (wished_inits P) 0 P.classes) (wished_behind (each (wished_makes P) 0 (sites_of P))) w
            (each_has (wished_inits P) 0 P.classes k.owner i.class w i.stands k.owner (omega arith)
            (when_has (is_some (maker_of P k.owner)) (w ∷ []) w (maker_there m k e i) (first w []))),
        refl,
      )

  -- the name that is fixed for a constructor, and that its columns have
  pub record HasInit (k : PlainMethod) : Type 0 where
    pub fixed : FixedName
    pub stands : Contains (fixed_names P) fixed
    pub for : fixed.for ≡ an_init k.owner
    pub name : column_name P k ≡ fixed.name

  pub init_name : (m : ℕ) (k : PlainMethod) → slice_get P.methods m ≡ Some k → is_marked k.name ≡ true → HasInit k
  init_name m k e b =
      let w = init_wished m k e (marked_maker m k e b) in
      let f = fixed-has (text_words P) wished w.0 w.1 in
      let n = name_for-has (fixed_names P) f.0 f.1 in
      let g = name_for-from f.0.for (fixed_names P) n.0 n.1 in
      let for : f.0.for ≡ an_init k.owner = sym f.2 ∙ w.2 in
      record {
        fixed = g.0;
        stands = g.1;
        for = sym g.2 ∙ for;
        name = chosen (is_marked k.name) b _ _ ∙ ap (λ o. option_map_or (λ z. z) o []) (ap (λ z. name_for z (fixed_names P)) (sym for) ∙ n.1) ∙ sym g.3;
      }
    where
      chosen : (t : Bool) → t ≡ true → (x y : List ℕ) → (if t then x else y) ≡ x
      chosen true e x y = refl
      chosen false e x y = absurd (false≢true e)

  -- another method's columns have its name
  pub plain_name : (k : PlainMethod) → is_marked k.name ≡ false → column_name P k ≡ k.name
  plain_name k e = rw e refl

  -- each name that is wished is an identifier
  class_named : (c : ℕ) (k : PlainClass) → slice_get P.classes c ≡ Some k → is_name k.name ≡ true
  class_named zero k e =
      subst (λ x. is_name x ≡ true) (sym (ap (λ k. k.name) (same_Some _ _ (sym e ∙ formed.object.first)) ∙ formed.object.name)) known_names_are.2
  class_named (suc c) k e = (formed.classes c k e).name.named

  module _ (small : (i : ℕ) (s : Site) → slice_get (sites_of P) i ≡ Some s → i < 2 ^ 64) where
    makes_named : (w : FixedName) → Contains (each (wished_makes P) 0 (sites_of P)) w → is_name w.name ≡ true
    makes_named w c =
        let z = each_from_zero (wished_makes P) (sites_of P) w c in
        let d = when_from ((z.1.ty.dim == 0) && is_some (maker_of P z.1.ty.class.0)) _ w z.3 in
        subst (λ x. is_name x ≡ true) (ap (λ v. v.name) (one_from _ w d.1)) (make_named z.0 (small z.0 z.1 z.2))

    behind_named : (ms : List FixedName) → ((w : FixedName) → Contains ms w → is_name w.name ≡ true) → (w : FixedName) → Contains (wished_behind ms) w
        → is_name w.name ≡ true
    behind_named [] named w c = named w c
    behind_named (m ∷ ms) named w c =
        let holder : FixedName = record { for = the_holder; name = codes "Makers" } in
        let local : FixedName = record { for = the_local; name = codes "made" } in
        ⊎_elim (λ e. subst (λ z. is_name z.name ≡ true) e known_names_are.0)
        (λ d. ⊎_elim (λ e. subst (λ z. is_name z.name ≡ true) e known_names_are.1) (λ d. named w d) (contains_cases local (m ∷ ms) w d))
        (contains_cases holder (local ∷ m ∷ ms) w c)

    inits_named : (w : FixedName) → Contains (each (wished_inits P) 0 P.classes) w → is_name w.name ≡ true
    inits_named w c =
        let z = each_from_zero (wished_inits P) P.classes w c in
        let d = when_from (is_some (maker_of P z.0)) _ w z.3 in
        subst (λ x. is_name x ≡ true) (ap (λ v. v.name) (one_from _ w d.1)) (init_named z.1.name (class_named z.0 z.1 z.2))

    -- so each that is fixed is one
    pub fixed_named : (f : FixedName) → Contains (fixed_names P) f → is_name f.name ≡ true
    fixed_named = fixed-named (text_words P) wished (λ w c.
        ⊎_elim (λ d. inits_named w d) (λ d. behind_named _ makes_named w d)
        (Contains-append_cases (each (wished_inits P) 0 P.classes) (wished_behind (each (wished_makes P) 0 (sites_of P))) w c))

  -- two constructors of one class have one name
  one_class : (k h : PlainMethod) → IsMakerOf P k → IsMakerOf P h → k.owner ≡ h.owner → k.name ≡ h.name
  one_class k h i j e =
      i.name ∙ ap (λ c. maker_name c.name) (same_Some i.class j.class (sym i.stands ∙ ap (slice_get P.classes) e ∙ j.stands)) ∙ sym j.name

  -- and where they have one name they are of one class
  pub one_owner : (k h : PlainMethod) → IsMakerOf P k → IsMakerOf P h → k.name ≡ h.name → k.owner ≡ h.owner
  unfolding HasNoTwice
  one_owner k h i j e =
      let same : i.class.name ≡ j.class.name = unmark (sym i.name ∙ e ∙ j.name) in
      formed.class_names k.owner h.owner i.class.name (at_map (λ k. k.name) P.classes k.owner i.class i.stands)
      (subst (λ x. slice_get (map (λ k. k.name) P.classes) h.owner ≡ Some x) (sym same) (at_map (λ k. k.name) P.classes h.owner j.class j.stands))
    where
      unmark : {x y : List ℕ} → maker_name x ≡ maker_name y → x ≡ y
      unmark e = ap (λ z. drop 1 z) e

  -- columns of one name are of methods of one name, where the words of the text hold the names of the methods
  module _ (in_text : (m : ℕ) (k : PlainMethod) → slice_get P.methods m ≡ Some k → is_marked k.name ≡ false → Contains (text_words P) k.name) where
    pub column_named : (m n : ℕ) (k h : PlainMethod) → slice_get P.methods m ≡ Some k → slice_get P.methods n ≡ Some h
        → column_name P k ≡ column_name P h → k.name ≡ h.name
    column_named m n k h e d same =
        ⊎_elim
        (λ a. let i = init_name m k e a in ⊎_elim
        (λ b.
        let j = init_name n h d b in
        one_class k h (marked_maker m k e a) (marked_maker n h d b) (owner (sym i.for
        ∙ ap (λ f. f.for) (fixed-one (text_words P) wished i.fixed j.fixed i.stands j.stands (sym i.name ∙ same ∙ j.name)) ∙ j.for)))
        (λ b. absurd (fixed-new (text_words P) wished h.name i.fixed (in_text n h d b) i.stands (sym i.name ∙ same ∙ plain_name h b)))
        (cases_Bool (is_marked h.name)))
        (λ a. ⊎_elim
        (λ b. let j = init_name n h d b in
        absurd (fixed-new (text_words P) wished k.name j.fixed (in_text m k e a) j.stands (sym j.name ∙ sym same ∙ plain_name k a)))
        (λ b. sym (plain_name k a) ∙ same ∙ plain_name h b)
        (cases_Bool (is_marked h.name)))
        (cases_Bool (is_marked k.name))
      where
        owner : {c d : ℕ} → an_init c ≡ an_init d → c ≡ d
        owner e = cc

  -- columns of methods of one name have one name
  pub column_same : (m n : ℕ) (k h : PlainMethod) → slice_get P.methods m ≡ Some k → slice_get P.methods n ≡ Some h → k.name ≡ h.name
      → column_name P k ≡ column_name P h
  column_same m n k h e d same =
      ⊎_elim
      (λ a.
      let b = ap is_marked (sym same) ∙ a in
      let i = init_name m k e a in
      let o = one_owner k h (marked_maker m k e a) (marked_maker n h d b) same in
      ap₂ (λ t c. if t then option_map_or (λ z. z) (name_for (an_init c) (fixed_names P)) [] else k.name) (a ∙ sym b) o
      ∙ ap (λ x. if is_marked h.name then option_map_or (λ z. z) (name_for (an_init h.owner) (fixed_names P)) [] else x) same)
      (λ a. plain_name k a ∙ same ∙ sym (plain_name h (ap is_marked (sym same) ∙ a)))
      (cases_Bool (is_marked k.name))
