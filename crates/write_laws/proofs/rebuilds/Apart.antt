-- Where no obligation on names is broken, the names of types differ from each other, from those of the holders and from String.
use Rattle.std.proofs.Common.{◌≡◌, ◌≢◌, ℕ, suc, ◌&&◌, ◌||◌, Bool, true, false, List, [], ◌∷◌, Option, Some, None, refl, sym, ap, ◌∙◌, subst, ⊎_elim}
use Rattle.std.specs.Prelude.{not, length, slice_get, codes, ◌==◌}
use Rattle.std.specs.List.{list_any}
use Rattle.std.specs.Option.{option_map}
use Rattle.std.specs.Str.{bytes_eq}
use Rattle.std.proofs.lemmas.Bool.{false≢true, and_from, and_parts, or_parts, ne_eqb, cases_eq, cases_Bool, or_cases, eqb-true}
use Rattle.std.proofs.lemmas.Option.{same_Some}
use Rattle.std.proofs.lemmas.Slice.Eq.{bytes_eq-Decides}
use Rattle.std.proofs.lemmas.Map.Keys.{any_passes_from_place}
use Rattle.kaba_bits.proofs.FirstLemmas.{first_below_None, when-None}
use Rattle.kaba_bits.proofs.SetLemmas.{bit-below}
use Rattle.kaba_order.specs.Orders.{is_live}
use Rattle.java_core.specs.Programs.{Plain, PlainClass, PlainField, PlainMethod}
use Rattle.java_core.specs.Formed.{IsFormed}
use Rattle.fact_model.specs.declared.facts.Facts.{Facts}
use Rattle.fact_model.specs.declared.facts.MakerNames.{MakerNames}
use Rattle.fact_model.specs.declared.sets.PointsTo.{PointsTo}
use Rattle.hier_model.specs.Hierarchies.{Hierarchy, type_name}
use Rattle.hier_model.proofs.AnyLemmas.{any_below_none}
use Rattle.hier_rules.specs.declared.broken.Rule.TheVariants.{B8}
use Rattle.hier_rules.specs.Instances.{of_node}
use Rattle.hier_rules.specs.Names.{known_names, is_makers_holder, is_makers_local, is_holder_name, is_reserved, is_variable, is_named, is_other_type, is_taken_type, taken_type}
use Rattle.hier_rules.specs.First.{first_broken}
use Rattle.flow_rules.specs.Facts.{is_holder, PlainMakers, makers_seen, makers_of, IsFactsOf}
use Rattle.flow_laws.proofs.order.Classes.{class_at, class_there}
use Rattle.hier_laws.proofs.Unbroken.{none_broken}

-- a test holds somewhere in a list
pub any_at : {A : Type 0} (p : A → Bool) (xs : List A) → list_any p xs ≡ true → (i : ℕ) × (x : A) × (slice_get xs i ≡ Some x) × (p x ≡ true)
any_at p [] h = absurd (false≢true h)
any_at p (x ∷ xs) h =
    ⊎_elim (λ e. (0, x, refl, e)) (λ e. let z = any_at p xs (sym (ap (λ b. b || list_any p xs) e) ∙ h) in (suc z.0, z.1, z.2, z.3)) (cases_Bool (p x))

-- what has static members is a class of the program
module _ (P : Plain) (formed : IsFormed P) (c : ℕ) where
  pub holder_class : is_holder P c ≡ true → (k : PlainClass) × (slice_get P.classes c ≡ Some k)
  holder_class h =
      ⊎_elim
      (λ a. let z = any_at (λ (f : PlainField). f.is_static && (f.owner == c)) P.fields a in
      let p = and_parts z.1.is_static (z.1.owner == c) z.3 in
      let o = eqb-true z.1.owner c p.1 in
      let k = formed.fields z.0 z.1 z.2 in (k.holder, subst (λ y. slice_get P.classes y ≡ Some k.holder) o k.stands))
      (λ a. let z = any_at (λ (f : PlainMethod). f.is_static && (f.owner == c)) P.methods a in
      let p = and_parts z.1.is_static (z.1.owner == c) z.3 in
      let o = eqb-true z.1.owner c p.1 in
      let k = formed.methods z.0 z.1 z.2 in (k.holder, subst (λ y. slice_get P.classes y ≡ Some k.holder) o k.stands))
      (or_cases (list_any (λ (f : PlainField). f.is_static && (f.owner == c)) P.fields)
      (list_any (λ (f : PlainMethod). f.is_static && (f.owner == c)) P.methods) h)

module _ (F : Facts) (pt : PointsTo) (H : Hierarchy) (none : first_broken F pt H ≡ None) where
  not_taken : (n : ℕ) → is_live H.order n ≡ true → is_taken_type F H n ≡ false
  not_taken n h =
      let one = first_below_None (taken_type F H) (length H.order.live) n (none_broken F pt H none).names.types (bit-below H.order.live n h) in
      sym (ap (λ z. z && is_taken_type F H n) h) ∙ when-None (is_live H.order n && is_taken_type F H n) (of_node B8 n) one

  pub taken_parts : (n : ℕ) → is_live H.order n ≡ true → ((is_other_type F H n (type_name H n) || is_reserved F (type_name H n)) ≡ false) ×
      (is_variable F (type_name H n) ≡ false)
  taken_parts n h = or_parts (is_other_type F H n (type_name H n) || is_reserved F (type_name H n)) (is_variable F (type_name H n)) (not_taken n h)

  pub types_apart : (n m : ℕ) → is_live H.order n ≡ true → is_live H.order m ≡ true → type_name H n ≡ type_name H m → n ≡ m
  types_apart n m ln lm same =
      ⊎_elim (λ e. sym e) (λ other.
      let none = (or_parts (is_other_type F H n (type_name H n)) (is_reserved F (type_name H n)) (taken_parts n ln).0).0 in
      let no = any_below_none (λ m. not (m == n) && is_named H (type_name H n) m) (length H.order.live) m none (bit-below H.order.live m lm) in
      absurd (false≢true (sym no ∙ and_from (not (m == n)) (is_named H (type_name H n) m) (ap not (ne_eqb m n other))
      (and_from (is_live H.order m) (bytes_eq (type_name H m) (type_name H n)) lm ((bytes_eq-Decides (type_name H m) (type_name H n)).1 (sym same))))))
      (cases_eq m n)

  pub unreserved : (n : ℕ) → is_live H.order n ≡ true → is_reserved F (type_name H n) ≡ false
  unreserved n h = (or_parts (is_other_type F H n (type_name H n)) (is_reserved F (type_name H n)) (taken_parts n h).0).1

  pub no_text : (n : ℕ) → is_live H.order n ≡ true → bytes_eq (codes "String") (type_name H n) ≡ false
  no_text n h =
      let known = (or_parts (is_holder_name F (type_name H n))
      (list_any (λ k. bytes_eq k (type_name H n)) known_names) (unreserved n h)).1 in
      let rest = (or_parts (bytes_eq (codes "Object") (type_name H n))
      (list_any (λ k. bytes_eq k (type_name H n)) (codes "String" ∷ codes "System" ∷ [])) known).1 in
      (or_parts (bytes_eq (codes "String") (type_name H n)) (list_any (λ k. bytes_eq k (type_name H n)) (codes "System" ∷ [])) rest).0

  pub no_holder : (P : Plain) → IsFactsOf P F → (n c : ℕ) (k : PlainClass) → is_live H.order n ≡ true → is_holder P c ≡ true
      → slice_get P.classes c ≡ Some k
      → type_name H n ≢ k.name
  no_holder P facts n c k ln h e same =
      let none = (or_parts (list_any (λ k. k.holder && bytes_eq k.name (type_name H n)) F.classes.items) (is_makers_holder F.makers (type_name H n))
      (or_parts (is_holder_name F (type_name H n)) (list_any (λ k. bytes_eq k (type_name H n)) known_names) (unreserved n ln)).0).0 in
      let i = class_there P F facts c k e in
      let z = class_at P F facts c i.0 i.1 in
      let name : i.0.name ≡ type_name H n = z.name ∙ ap (λ (y : PlainClass). y.name) (same_Some _ _ (sym z.stands ∙ e)) ∙ sym same in
      false≢true (sym none ∙ any_passes_from_place (λ k. k.holder && bytes_eq k.name (type_name H n)) F.classes.items c i.0 i.1
      (and_from i.0.holder (bytes_eq i.0.name (type_name H n)) (z.holder ∙ h) ((bytes_eq-Decides i.0.name (type_name H n)).1 name)))

  -- the names of the holder and of the local of the methods that make objects, among the facts
  module _ (P : Plain) (facts : IsFactsOf P F) (m : PlainMakers) (e : makers_of P ≡ Some m) where
    seen : (w : MakerNames) × (F.makers ≡ Some w) × (makers_seen w ≡ m)
    seen = go F.makers refl
      where
        go : (o : Option MakerNames) → F.makers ≡ o → (w : MakerNames) × (F.makers ≡ Some w) × (makers_seen w ≡ m)
        go None h = absurd (cc (sym (ap (option_map makers_seen) h) ∙ facts.makers ∙ e))
        go (Some w) h = (w, h, same_Some _ m (sym (ap (option_map makers_seen) h) ∙ facts.makers ∙ e))

    pub makers_holder_seen : (x : List ℕ) → m.holder ≡ x → is_makers_holder F.makers x ≡ true
    makers_holder_seen x same =
        let w = seen in
        ap (λ o. is_makers_holder o x) w.1 ∙ (bytes_eq-Decides w.0.holder x).1 (ap (λ (z : PlainMakers). z.holder) w.2 ∙ same)

    makers_local_seen : (x : List ℕ) → m.local ≡ x → is_makers_local F.makers x ≡ true
    makers_local_seen x same =
        let w = seen in
        ap (λ o. is_makers_local o x) w.1 ∙ (bytes_eq-Decides w.0.local x).1 (ap (λ (z : PlainMakers). z.local) w.2 ∙ same)

    pub no_makers : (n : ℕ) → is_live H.order n ≡ true → type_name H n ≢ m.holder
    no_makers n ln same =
        let no = (or_parts (list_any (λ k. k.holder && bytes_eq k.name (type_name H n)) F.classes.items) (is_makers_holder F.makers (type_name H n))
        (or_parts (is_holder_name F (type_name H n)) (list_any (λ k. bytes_eq k (type_name H n)) known_names) (unreserved n ln)).0).1 in
        false≢true (sym no ∙ makers_holder_seen (type_name H n) (sym same))

    pub no_makers_local : (n : ℕ) → is_live H.order n ≡ true → type_name H n ≢ m.local
    no_makers_local n ln same =
        let no = (or_parts (list_any (λ v. bytes_eq v (type_name H n)) F.vars.items) (is_makers_local F.makers (type_name H n)) (taken_parts n ln).1).1 in
        false≢true (sym no ∙ makers_local_seen (type_name H n) (sym same))
