-- The names of the holder of the methods that make objects, of the local in each, and of these methods: none is a name of the text or a known one, and
-- no two are one.
use Rattle.std.proofs.Common.{◌≡◌, ◌≢◌, ℕ, zero, suc, List, [], ◌∷◌, ◌++◌, true, Some, Contains, refl, sym, ap, ◌∙◌, subst, arith, ⊎_elim, false}
use Rattle.std.specs.Prelude.{◌==◌, ◌&&◌, map, codes, slice_get, option_and_then}
use Rattle.std.specs.Option.{is_some, option_map, option_map_or}
use Rattle.std.specs.Fmt.{decimal}
use Rattle.std.proofs.lemmas.Bool.{and_from, false≢true, eq-eqb}
use Rattle.std.proofs.lemmas.Option.{same_Some}
use Rattle.std.proofs.lemmas.List.{map-append}
use Rattle.std.proofs.lemmas.List.Elements.{Contains-append_right, Contains-append_cases}
use Rattle.kaba_base.proofs.ListLemmas.{contains_cases}
use Rattle.java_core.specs.Programs.{Plain, PlainClass, PlainLocal, PlainMethod}
use Rattle.java_core.specs.Makers.{maker_of}
use Rattle.java_core.specs.Formed.{IsFormed, variables_of}
use Rattle.fact_model.specs.FreeNames.{lengthened, underscores, free_name}
use Rattle.flow_rules.specs.declared.items.Site.{Site}
use Rattle.flow_rules.specs.Numbered.{sites_of, site_number}
use Rattle.flow_rules.specs.Ordered.{each}
use Rattle.flow_rules.specs.Facts.{an_init, the_holder, the_local, a_make, FixedName, wished_inits, wished_makes, wished_behind, fixed_from, text_words, all_names, fixed_names, name_for, numbers, PlainMakers, makers_of}
use Rattle.flow_rules.proofs.Listed.{first, more, contains_at, map_has, each_has, each_from_zero, when_has, when_from, one_from}
use Rattle.flow_rules.proofs.NumberedItems.{numbered_sites}
use Rattle.flow_rules.proofs.FixedNames.{name_for-from, name_for-has, fixed-has, fixed-new, fixed-one}
use Rattle.flow_laws.proofs.order.Fixed.{wished}
use Rattle.flow_laws.proofs.order.Names.{both_found, class_name, method_variable, text_word}
use Rattle.rebuild_model.specs.Renaming.{make_name}

-- ---- what is wished

-- a name that is fixed is one that is wished, with underscores behind it
record IsWished (ws : List FixedName) (f : FixedName) : Type 0 where
  wish : FixedName
  stands : Contains ws wish
  for : wish.for ≡ f.for
  count : ℕ
  name : f.name ≡ lengthened wish.name count

fixed_wished : (taken : List (List ℕ)) (ws : List FixedName) (f : FixedName) → Contains (fixed_from taken ws) f → IsWished ws f
fixed_wished taken [] f c = absurd (omega (arith, c.1))
fixed_wished taken (w ∷ ws) f c =
    ⊎_elim
    (λ e. record { wish = w; stands = first w ws; for = ap (λ z. z.for) e; count = underscores taken w.name; name = ap (λ z. z.name) (sym e) })
    (λ d.
    let z = fixed_wished (taken ++ free_name taken w.name ∷ []) ws f d in
    record { wish = z.wish; stands = more z.wish w ws z.stands; for = z.for; count = z.count; name = z.name })
    (contains_cases _ _ f c)

-- the name for the holder is `Makers`, and that for the local `made`
abbrev IsNamedSo : FixedName → Type 0
IsNamedSo w = (w.for ≡ the_holder → w.name ≡ codes "Makers") × (w.for ≡ the_local → w.name ≡ codes "made")

init_so : (c : ℕ) (n : List ℕ) → IsNamedSo (record { for = an_init c; name = n })
init_so c n = (λ e. absurd (cc e), λ e. absurd (cc e))

make_so : (s : ℕ) (n : List ℕ) → IsNamedSo (record { for = a_make s; name = n })
make_so s n = (λ e. absurd (cc e), λ e. absurd (cc e))

abbrev wished_holder : FixedName
wished_holder = record { for = the_holder; name = codes "Makers" }

abbrev wished_local : FixedName
wished_local = record { for = the_local; name = codes "made" }

behind_so : (ms : List FixedName) → ((w : FixedName) → Contains ms w → IsNamedSo w) → (w : FixedName) → Contains (wished_behind ms) w → IsNamedSo w
behind_so [] so w c = so w c
behind_so (m ∷ ms) so w c =
    ⊎_elim
    (λ e. subst IsNamedSo e (λ h. refl, λ h. absurd (cc h)))
    (λ d. ⊎_elim (λ e. subst IsNamedSo e (λ h. absurd (cc h), λ h. refl)) (λ d. so w d) (contains_cases wished_local (m ∷ ms) w d))
    (contains_cases wished_holder (wished_local ∷ m ∷ ms) w c)

behind_has : (ms : List FixedName) (w : FixedName) → Contains ms w → Contains (wished_behind ms) w
behind_has [] w c = c
behind_has (m ∷ ms) w c = more w wished_holder (wished_local ∷ m ∷ ms) (more w wished_local (m ∷ ms) c)

behind_both : (ms : List FixedName) (w : FixedName) → Contains ms w → Contains (wished_behind ms) wished_holder × Contains (wished_behind ms) wished_local
behind_both [] w c = absurd (omega (arith, c.1))
behind_both (m ∷ ms) w c =
    (first wished_holder (wished_local ∷ m ∷ ms), more wished_local wished_holder (wished_local ∷ m ∷ ms) (first wished_local (m ∷ ms)))

-- ---- known names

-- none of the names that the language has
abbrev pub IsNew : List ℕ → Type 0
IsNew x = (x ≢ codes "Object") × (x ≢ codes "String") × (x ≢ codes "System")

new_first : (x : List ℕ) (c : ℕ) → slice_get x 0 ≡ Some c → (c == 79) ≡ false → (c == 83) ≡ false → IsNew x
new_first x c h o s =
    (λ e. false≢true (sym o ∙ eq-eqb c 79 (begins e)), λ e. false≢true (sym s ∙ eq-eqb c 83 (begins e)), λ e. false≢true (sym s ∙ eq-eqb c 83 (begins e)))
  where
    begins : {y : List ℕ} {d : ℕ} → x ≡ d ∷ y → c ≡ d
    begins {y} {d} e = same_Some c d (sym h ∙ ap (λ z. slice_get z 0) e)

holder_new_name : (k : ℕ) → IsNew (lengthened (codes "Makers") k)
holder_new_name k = new_first (lengthened (codes "Makers") k) 77 refl refl refl

local_new_name : (k : ℕ) → IsNew (lengthened (codes "made") k)
local_new_name k = new_first (lengthened (codes "made") k) 109 refl refl refl

module _ (P : Plain) (formed : IsFormed P) where
  abbrev ws : List FixedName
  ws = wished P formed

  abbrev makes : List FixedName
  makes = each (wished_makes P) 0 (sites_of P)

  makes_so : (w : FixedName) → Contains makes w → IsNamedSo w
  makes_so w c =
      let z = each_from_zero (wished_makes P) (sites_of P) w c in
      subst IsNamedSo (one_from _ w (when_from ((z.1.ty.dim == 0) && is_some (maker_of P z.1.ty.class.0)) _ w z.3).1)
      (make_so z.0 (codes "make_" ++ decimal z.0))

  wished_so : (w : FixedName) → Contains ws w → IsNamedSo w
  wished_so w c =
      ⊎_elim
      (λ d.
      let z = each_from_zero (wished_inits P) P.classes w d in
      subst IsNamedSo (one_from _ w (when_from (is_some (maker_of P z.0)) _ w z.3).1) (init_so z.0 (codes "init_" ++ z.1.name)))
      (λ d. behind_so makes makes_so w d)
      (Contains-append_cases (each (wished_inits P) 0 P.classes) (wished_behind makes) w c)

  object_name : (k : PlainClass) → slice_get P.classes 0 ≡ Some k → k.name ≡ codes "Object"
  object_name k e = ap (λ (z : PlainClass). z.name) (same_Some _ _ (sym e ∙ formed.object.first)) ∙ formed.object.name

  -- ---- the holder and the local

  -- the fixed names of the holder and of the local
  pub record HasMakers (m : PlainMakers) : Type 0 where
    pub holder : FixedName
    pub holder_stands : Contains (fixed_names P) holder
    pub holder_for : holder.for ≡ the_holder
    pub holder_name : holder.name ≡ m.holder
    pub local : FixedName
    pub local_stands : Contains (fixed_names P) local
    pub local_for : local.for ≡ the_local
    pub local_name : local.name ≡ m.local

  pub has_makers : (m : PlainMakers) → makers_of P ≡ Some m → HasMakers m
  has_makers m e =
      let both = both_found (name_for the_holder (fixed_names P)) (name_for the_local (fixed_names P)) m e in
      let h = name_for-from the_holder (fixed_names P) m.holder both.0 in
      let l = name_for-from the_local (fixed_names P) m.local both.1 in
      record {
        holder = h.0;
        holder_stands = h.1;
        holder_for = sym h.2;
        holder_name = h.3;
        local = l.0;
        local_stands = l.1;
        local_for = sym l.2;
        local_name = l.3;
      }

  module _ (m : PlainMakers) (e : makers_of P ≡ Some m) where
    -- neither is a name of the text
    pub holder_no_word : (x : List ℕ) → Contains (all_names P) x → m.holder ≢ x
    holder_no_word x c same =
        let h = has_makers m e in
        fixed-new (text_words P) ws x h.holder (text_word P formed x c) h.holder_stands (h.holder_name ∙ same)

    pub local_no_word : (x : List ℕ) → Contains (all_names P) x → m.local ≢ x
    local_no_word x c same =
        let h = has_makers m e in
        fixed-new (text_words P) ws x h.local (text_word P formed x c) h.local_stands (h.local_name ∙ same)

    -- nor a known one
    pub holder_new : IsNew m.holder
    holder_new =
        let h = has_makers m e in
        let w = fixed_wished (text_words P) ws h.holder h.holder_stands in
        let is = (wished_so w.wish w.stands).0 (w.for ∙ h.holder_for) in
        subst IsNew (ap (λ z. lengthened z w.count) (sym is) ∙ sym w.name ∙ h.holder_name) (holder_new_name w.count)

    pub local_new : IsNew m.local
    local_new =
        let h = has_makers m e in
        let w = fixed_wished (text_words P) ws h.local h.local_stands in
        let is = (wished_so w.wish w.stands).1 (w.for ∙ h.local_for) in
        subst IsNew (ap (λ z. lengthened z w.count) (sym is) ∙ sym w.name ∙ h.local_name) (local_new_name w.count)

    -- nor that of a class
    pub holder_no_class : (c : ℕ) (k : PlainClass) → slice_get P.classes c ≡ Some k → m.holder ≢ k.name
    holder_no_class zero k d same = holder_new.0 (same ∙ object_name k d)
    holder_no_class (suc c) k d same = holder_no_word k.name (class_name P formed c k d) same

    pub local_no_class : (c : ℕ) (k : PlainClass) → slice_get P.classes c ≡ Some k → m.local ≢ k.name
    local_no_class zero k d same = local_new.0 (same ∙ object_name k d)
    local_no_class (suc c) k d same = local_no_word k.name (class_name P formed c k d) same

    -- and they are apart
    pub holder_no_local : m.holder ≢ m.local
    holder_no_local same =
        let h = has_makers m e in
        let one = fixed-one (text_words P) ws h.holder h.local h.holder_stands h.local_stands (h.holder_name ∙ same ∙ sym h.local_name) in
        different (sym h.holder_for ∙ ap (λ z. z.for) one ∙ h.local_for)
      where
        different : the_holder ≡ the_local → ⊥
        different h = cc h

  -- a variable's name is a word
  pub variable_word : (m : ℕ) (k : PlainMethod) (v : PlainLocal) → slice_get P.methods m ≡ Some k → Contains (variables_of k) v → Contains (all_names P) v.name
  variable_word m k v e c =
      let mine : Contains (map (λ (v : PlainLocal). v.name) k.params ++ map (λ (v : PlainLocal). v.name) k.locals) v.name =
      subst (λ z. Contains z v.name) (map-append (λ (v : PlainLocal). v.name) k.params k.locals)
      (map_has (λ (v : PlainLocal). v.name) (variables_of k) v c) in
      method_variable P formed k v.name (contains_at P.methods m k e) mine

  -- ---- the methods that make objects

  -- a site where objects of a class with a constructor are created
  pub record IsMade (s : ℕ) : Type 0 where
    pub site : Site
    pub stands : slice_get (sites_of P) s ≡ Some site
    pub object : (site.ty.dim == 0) ≡ true
    pub maker : ℕ
    pub has : maker_of P site.ty.class.0 ≡ Some maker

  abbrev wished_make : ℕ → FixedName
  wished_make s = record { for = a_make s; name = codes "make_" ++ decimal s }

  make_wish : (s : ℕ) → IsMade s → Contains makes (wished_make s)
  make_wish s z =
      let w = wished_make s in
      each_has (wished_makes P) 0 (sites_of P) s z.site w z.stands s (omega arith)
      (when_has ((z.site.ty.dim == 0) && is_some (maker_of P z.site.ty.class.0)) (w ∷ []) w
      (and_from (z.site.ty.dim == 0) (is_some (maker_of P z.site.ty.class.0)) z.object (ap is_some z.has)) (first w []))

  wish_stands : (w : FixedName) → Contains (wished_behind makes) w → Contains ws w
  wish_stands w c = Contains-append_right (each (wished_inits P) 0 P.classes) (wished_behind makes) w c

  name_there : (w : FixedName) → Contains ws w → (n : List ℕ) × (name_for w.for (fixed_names P) ≡ Some n)
  name_there w c =
      let f = fixed-has (text_words P) ws w c in
      let n = name_for-has (fixed_names P) f.0 f.1 in
      (n.0, ap (λ i. name_for i (fixed_names P)) f.2 ∙ n.1)

  -- where there is one, there is a holder
  pub makers_there : (s : ℕ) → IsMade s → (m : PlainMakers) × (makers_of P ≡ Some m)
  makers_there s z =
      let both = behind_both makes (wished_make s) (make_wish s z) in
      let h = name_there wished_holder (wish_stands wished_holder both.0) in
      let l = name_there wished_local (wish_stands wished_local both.1) in (
        record { holder = h.0; local = l.0 },
        ap (λ o. option_and_then (λ h. option_map (λ l. record { holder = h; local = l }) (name_for the_local (fixed_names P))) o) h.1
            ∙ ap (λ o. option_map (λ l. record { holder = h.0; local = l }) o) l.1,
      )

  -- the name that is fixed for the method of a site
  pub record HasMakeName (s n : ℕ) : Type 0 where
    pub fixed : FixedName
    pub stands : Contains (fixed_names P) fixed
    pub for : fixed.for ≡ a_make s
    pub name : make_name P n ≡ fixed.name

  pub make_named : (s : ℕ) (z : IsMade s) → HasMakeName s z.site.number
  unfolding numbers
  make_named s z =
      let n = name_there (wished_make s) (wish_stands (wished_make s) (behind_has makes (wished_make s) (make_wish s z))) in
      let f = name_for-from (a_make s) (fixed_names P) n.0 n.1 in
      let at : site_number P z.site.number ≡ Some s = (numbered_sites P).back s z.site z.stands in
      record {
        fixed = f.0;
        stands = f.1;
        for = sym f.2;
        name = ap (λ o. option_map_or (λ x. x) (option_and_then (λ s. name_for (a_make s) (fixed_names P)) o) []) at
            ∙ ap (λ o. option_map_or (λ x. x) o []) n.1 ∙ sym f.3;
      }

  -- the methods of two sites have two names
  pub one_make : (s t : ℕ) (y : IsMade s) (z : IsMade t) → make_name P y.site.number ≡ make_name P z.site.number → s ≡ t
  one_make s t y z same =
      let a = make_named s y in
      let b = make_named t z in
      let one = fixed-one (text_words P) ws a.fixed b.fixed a.stands b.stands (sym a.name ∙ same ∙ b.name) in
      unmade (sym a.for ∙ ap (λ z. z.for) one ∙ b.for)
    where
      unmade : a_make s ≡ a_make t → s ≡ t
      unmade e = cc e
