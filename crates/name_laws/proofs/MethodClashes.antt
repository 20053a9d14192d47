-- Methods of one name that meet in a type: of one slot, or a condition holds. And the main method.
use Rattle.std.proofs.Common.{◌≡◌, ◌≢◌, ℕ, suc, ◌+◌, ◌<◌, ◌≤◌, ◌⊎◌, inl, inr, ⊎_elim, Bool, true, false, not, ◌||◌, ◌&&◌, List, [], ◌∷◌, ◌++◌, length, Option, Some, None, Ok, refl, sym, ap, ◌∙◌, subst, arith}
use Rattle.std.specs.Prelude.{slice_get, if◌then◌else◌, ◌==◌, position}
use Rattle.std.specs.Str.{bytes_eq}
use Rattle.std.proofs.lemmas.Bool.{false≢true, and_parts, not-true, eqb-true, eq-eqb, eqb-false, or_cases}
use Rattle.std.proofs.lemmas.List.{length-append, length-map}
use Rattle.std.proofs.lemmas.Slice.Eq.{bytes_eq-Decides}
use Rattle.kaba_base.proofs.ListLemmas.{map_at, at_map, append_cases}
use Rattle.java_tree.specs.Syntax.{DeclTree}
use Rattle.java_core.specs.Programs.{PlainMethod}
use Rattle.java_core.specs.Classes.{IsSubclass}
use Rattle.java_core.specs.Formed.{IsMain}
use Rattle.java_core.proofs.Positions.{position-passes}
use Rattle.name_rules.specs.declared.Refusal.{Refusal}
use Rattle.name_rules.specs.declared.Refusal.TheVariants.{Overload, PrivateReused}
use Rattle.name_laws.specs.Known.{KnownClass}
use Rattle.name_laws.specs.declared.parts.Heading.{Heading}
use Rattle.name_laws.specs.Answers.{unless, run}
use Rattle.name_laws.specs.Tables.{is_above}
use Rattle.name_laws.specs.Members.{Members, meet, same_slot, clash_of, clash_with, earlier_step, clash_step, clashes_of, or_no_main, main_of}
use Rattle.name_rules.specs.Outline.{MethodAt, is_static, is_private, methods_from, implied_from, methods_in, types_in, method_outline, outline}
use Rattle.name_rules.specs.Conditions.{ConditionAt, overload, private_reused, no_main, AreOneSlot}
use Rattle.name_laws.proofs.Sees.{Tells, tell, same_some}
use Rattle.name_laws.proofs.Runs.{run-tells, stands-at, push-cases, none-passes, stands-beside}
use Rattle.name_laws.proofs.KnownTypes.{AreKnown}
use Rattle.name_laws.proofs.Reached.{AreAbove}
use Rattle.java_core.proofs.Meets.{meet-stands, meets}
use Rattle.name_laws.proofs.SlotsOf.{SlotOf, none_of, one_of}
use Rattle.name_laws.proofs.MembersOf.{owner-from, owner-least, owner-implied, least-implied}
use Rattle.name_laws.proofs.KnownMembers.{AreMembers, HeadIs}
use Rattle.name_laws.proofs.FoundFirst.{OneMet, MeetAsInstances, one-met-of}

-- ---- owners are types of the tree

pub classes-count : (tree : List DeclTree) → length (outline tree).classes ≡ suc (length tree)
unfolding outline
classes-count tree = ap suc (length-map tree _)

pub owner-within : (tree : List DeclTree) (i : ℕ) (m : MethodAt) → slice_get (methods_in tree) i ≡ Some m → m.owner < length (outline tree).classes
owner-within tree i m e =
    let b = classes-count tree in
    ⊎_elim (λ h. let a = owner-from 1 tree i m h in omega (arith, a, b)) (λ h. let a = owner-implied tree 1 tree h.0 m h.2 in omega (arith, a, b))
    (append_cases (methods_from 1 tree) (implied_from tree 1 tree) i m e)

-- Object declares none
pub not-object : (tree : List DeclTree) (i : ℕ) (m : MethodAt) → slice_get (methods_in tree) i ≡ Some m → m.owner ≢ 0
not-object tree i m e z =
    ⊎_elim (λ h. let a = owner-least 1 tree i m h in omega (arith, a, z)) (λ h. let a = least-implied tree 1 tree h.0 m h.2 in omega (arith, a, z))
    (append_cases (methods_from 1 tree) (implied_from tree 1 tree) i m e)

pub method_at-outline : (tree : List DeclTree) (i : ℕ) (m : MethodAt) → slice_get (methods_in tree) i ≡ Some m → slice_get (outline tree).methods i
    ≡ Some (method_outline (types_in tree) m)
unfolding outline
method_at-outline tree i m e = at_map (method_outline (types_in tree)) (methods_in tree) i m e

pub outline-method : (tree : List DeclTree) (i : ℕ) (k : PlainMethod) → slice_get (outline tree).methods i ≡ Some k → (m : MethodAt)
    × (slice_get (methods_in tree) i ≡ Some m) × (method_outline (types_in tree) m ≡ k)
unfolding outline
outline-method tree i k e = map_at (method_outline (types_in tree)) (methods_in tree) i k e

-- ---- clashes

same-slots : (a b : Option ℕ) → same_slot a b ≡ true → (s : ℕ) × (a ≡ Some s) × (b ≡ Some s)
same-slots (Some s) (Some t) e = (s, refl, ap Some (sym (eqb-true s t e)))
same-slots None t e = absurd (false≢true e)
same-slots (Some s) None e = absurd (false≢true e)

-- what the test of two methods of one name that some type has tells where it finds no clash
one-test : (name private same meeting : Bool) (r q : Refusal) → name ≡ true → meeting ≡ true
    → (if name then (if private then Some r else if not same && meeting then Some q else None) else None) ≡ None → same ≡ true
one-test true false true true r q a b e = refl
one-test true true same true r q a b e = absurd (cc e)
one-test true false false true r q a b e = absurd (cc e)
one-test true private same false r q a b e = absurd (false≢true b)
one-test false private same meeting r q a b e = absurd (false≢true a)

module _ (tree : List DeclTree) (known : List KnownClass) (are : AreKnown tree known) (rows : List (List Bool)) (above : AreAbove (outline tree) rows)
    (fs : List _) (m : Members) (members : AreMembers tree known are fs (methods_in tree) m) where
  -- methods whose signatures agree have one slot
  one-slot : (i j : ℕ) (a b : Heading) (x y : MethodAt) → slice_get m.headings i ≡ Some a → slice_get m.headings j ≡ Some b
      → slice_get (methods_in tree) i ≡ Some x → slice_get (methods_in tree) j ≡ Some y
      → x.head.name ≡ y.head.name → AreOneSlot (method_outline (types_in tree) x) (method_outline (types_in tree) y) → same_slot a.slot b.slot ≡ true
  one-slot i j a b x y p q u v n o = go (members.slots.each i a x p u) (members.slots.each j b y q v)
    where
      go : SlotOf (types_in tree) m.slots a x → SlotOf (types_in tree) m.slots b y → same_slot a.slot b.slot ≡ true
      go (none_of s e) t = absurd (false≢true (sym o.first ∙ s))
      go (one_of {s = r} {slot = c} s e f g) (none_of t h) = absurd (false≢true (sym o.second ∙ t))
      go (one_of {s = r} {slot = c} s e f g) (one_of {s = l} {slot = d} t h k w) =
          ap (λ z. same_slot z b.slot) e ∙ ap (same_slot (Some r)) h
          ∙ eq-eqb r l (members.slots.apart r l c d f k (sym g.name ∙ n ∙ w.name) (sym g.params ∙ o.params ∙ w.params) (sym g.result ∙ o.result ∙ w.result))

  clash-tells : (i j : ℕ) (a b : Heading) → slice_get m.headings i ≡ Some a → slice_get m.headings j ≡ Some b → i < j → (r : Refusal)
      → clash_with rows b a ≡ Some r → ConditionAt tree r
  clash-tells i j a b p q lt r e = by_name (bytes_eq a.name b.name) refl
    where
      x : (n : MethodAt) × (slice_get (methods_in tree) i ≡ Some n)
      x = stands-beside m.headings (methods_in tree) members.count i a p

      y : (n : MethodAt) × (slice_get (methods_in tree) j ≡ Some n)
      y = stands-beside m.headings (methods_in tree) members.count j b q

      hx : HeadIs tree known are a x.0
      hx = members.heads i a x.0 p x.1

      hy : HeadIs tree known are b y.0
      hy = members.heads j b y.0 q y.1

      above-sound : (c d : ℕ) → d < length (outline tree).classes → is_above rows c d ≡ true → IsSubclass (outline tree) c d
      above-sound c d l h = above.sound c d l h

      x-within : a.owner < length (outline tree).classes
      x-within = let l = owner-within tree i x.0 x.1 in let o = hx.owner in omega (arith, l, o)

      y-within : b.owner < length (outline tree).classes
      y-within = let l = owner-within tree j y.0 y.1 in let o = hy.owner in omega (arith, l, o)

      by_name : (c : Bool) → bytes_eq a.name b.name ≡ c → ConditionAt tree r
      by_name false f = absurd (cc (sym (ap (λ z. if z then clash_of rows a b else None) f) ∙ e))
      by_name true f = by_private ((a.is_private || b.is_private) && (is_above rows a.owner b.owner || is_above rows b.owner a.owner)) refl
          (not (same_slot a.slot b.slot) && meet rows a.owner b.owner) refl
        where
          names : x.0.head.name ≡ y.0.head.name
          names = sym hx.name ∙ (bytes_eq-Decides a.name b.name).0 f ∙ hy.name

          is : clash_of rows a b ≡ Some r
          is = sym (ap (λ z. if z then clash_of rows a b else None) f) ∙ e

          by_private : (c : Bool) → (a.is_private || b.is_private) && (is_above rows a.owner b.owner || is_above rows b.owner a.owner) ≡ c
              → (d : Bool) → not (same_slot a.slot b.slot) && meet rows a.owner b.owner ≡ d → ConditionAt tree r
          by_private true g d h =
              let k = and_parts (a.is_private || b.is_private) (is_above rows a.owner b.owner || is_above rows b.owner a.owner) g in
              let same : PrivateReused b.name b.place ≡ r =
              same_some (sym (ap (λ z. if z then Some (PrivateReused b.name b.place) else if not (same_slot a.slot b.slot) && meet rows a.owner
              b.owner then Some (Overload b.name b.place) else None) g) ∙ is) in
              let l = private_reused x.1 y.1 lt names (λ o. let s = members.method_once i j x.0 y.0 x.1 y.1 o names in omega (arith, s, lt))
              (ap (λ z. z || is_private y.0) (sym hx.private) ∙ ap (λ z. a.is_private || z) (sym hy.private) ∙ k.0)
              (⊎_elim (λ s. inl (subst (λ z. IsSubclass (outline tree) z y.0.owner) hx.owner
              (subst (λ z. IsSubclass (outline tree) a.owner z) hy.owner (above-sound a.owner b.owner y-within s))))
              (λ s. inr (subst (λ z. IsSubclass (outline tree) z x.0.owner) hy.owner (subst (λ z. IsSubclass (outline tree) b.owner z) hx.owner
              (above-sound b.owner a.owner x-within s))))
              (or_cases (is_above rows a.owner b.owner) (is_above rows b.owner a.owner) k.1)) in
              subst (ConditionAt tree) (ap (λ z. PrivateReused z y.0.head.place) (sym hy.name) ∙ ap (λ z. PrivateReused b.name z) (sym hy.place) ∙ same) l
          by_private false g true h =
              let k = and_parts (not (same_slot a.slot b.slot)) (meet rows a.owner b.owner) h in
              let same : Overload b.name b.place ≡ r =
              same_some (sym (ap (λ z. if z then Some (PrivateReused b.name b.place) else if not (same_slot a.slot b.slot) && meet rows a.owner
              b.owner then Some (Overload b.name b.place) else None) g
              ∙ ap (λ z. if z then Some (Overload b.name b.place) else None) h) ∙ is) in
              let w = meet-stands rows a.owner b.owner k.1 in
              let l = overload (method_at-outline tree i x.0 x.1) (method_at-outline tree j y.0 y.1) lt names
              (subst (λ z. IsSubclass (outline tree) w.0 z) hx.owner (above-sound w.0 a.owner x-within w.1))
              (subst (λ z. IsSubclass (outline tree) w.0 z) hy.owner (above-sound w.0 b.owner y-within w.2))
              (λ o. false≢true (sym (not-true (same_slot a.slot b.slot) k.0) ∙ one-slot i j a b x.0 y.0 p q x.1 y.1 names o)) in
              subst (ConditionAt tree) (ap (λ z. Overload z y.0.head.place) (sym hy.name) ∙ ap (λ z. Overload b.name z) (sym hy.place) ∙ same) l
          by_private false g false h =
              absurd (cc (sym (ap (λ z. if z then Some (PrivateReused b.name b.place) else if not (same_slot a.slot b.slot) && meet rows a.owner
              b.owner then Some (Overload b.name b.place) else None) g
              ∙ ap (λ z. if z then Some (Overload b.name b.place) else None) h) ∙ is))

  -- a method clashes with none before it
  record NoneEarlier (k : ℕ) (b : Heading) (done : List Heading) (j : ℕ) : Type 0 where
    pub at_most : j ≤ k
    pub count : (j ≡ length done) ⊎ ((j ≡ k) × (k ≤ length done))
    pub none : (i : ℕ) (a : Heading) → slice_get done i ≡ Some a → i < k → clash_with rows b a ≡ None

  earlier-tells : (k : ℕ) (b : Heading) → slice_get m.headings k ≡ Some b → Tells (NoneEarlier k b m.headings) (ConditionAt tree)
      (run (earlier_step rows k b) 0 m.headings)
  earlier-tells k b at = run-tells (ConditionAt tree) m.headings (earlier_step rows k b) (NoneEarlier k b) step [] m.headings 0 refl
      (record { at_most = omega arith; count = inl refl; none = λ i a e lt. absurd (cc e) })
    where
      step : (done rest : List Heading) (a : Heading) (j : ℕ) → m.headings ≡ done ++ a ∷ rest → NoneEarlier k b done j
          → Tells (NoneEarlier k b (done ++ a ∷ [])) (ConditionAt tree) (earlier_step rows k b j a)
      step done rest a j e h = go (j == k) refl (clash_with rows b a) refl
        where
          size : length (done ++ a ∷ []) ≡ length done + 1
          size = length-append done (a ∷ [])

          go : (c : Bool) → (j == k) ≡ c → (o : Option Refusal) → clash_with rows b a ≡ o
              → Tells (NoneEarlier k b (done ++ a ∷ [])) (ConditionAt tree) (if c then Ok j else unless o (Ok (j + 1)))
          go true f o g =
              let s = eqb-true j k f in
              record {
                at_most = h.at_most;
                count = inr (s, ⊎_elim (λ l. omega (arith, l, s, size)) (λ l. let u = l.1 in omega (arith, u, size)) h.count);
                none = λ i x u lt. ⊎_elim (λ v. h.none i x v lt)
                    (λ v. let l : k ≤ length done = ⊎_elim (λ l. omega (arith, l, s)) (λ l. l.1) h.count in let w = v.0 in absurd
                    (omega (arith, w, lt, l))) (push-cases done a i x u);
              }
          go false f None g =
              let s = eqb-false j k f in let t = h.at_most in
              let l : j ≡ length done = ⊎_elim (λ l. l) (λ l. absurd (s l.0)) h.count in
              record {
                at_most = omega (arith, s, t);
                count = inl (omega (arith, l, size));
                none = λ i x u lt. ⊎_elim (λ v. h.none i x v lt) (λ v. subst (λ z. clash_with rows b z ≡ None) v.1 g) (push-cases done a i x u);
              }
          go false f (Some r) g =
              let s = eqb-false j k f in let t = h.at_most in
              let l : j ≡ length done = ⊎_elim (λ l. l) (λ l. absurd (s l.0)) h.count in
              clash-tells (length done) k a b (stands-at done a rest e) at (omega (arith, l, s, t)) r g

  pub record NoClash (done : List Heading) (n : ℕ) : Type 0 where
    pub count : n ≡ length done
    pub none : (i k : ℕ) (a b : Heading) → slice_get m.headings i ≡ Some a → slice_get done k ≡ Some b → i < k → clash_with rows b a ≡ None

  pub clashes-tells : Tells (NoClash m.headings) (ConditionAt tree) (clashes_of rows m.headings)
  clashes-tells = run-tells (ConditionAt tree) m.headings (clash_step rows m.headings) NoClash step [] m.headings 0 refl
      (record { count = refl; none = λ i k a b u v lt. absurd (cc v) })
    where
      step : (done rest : List Heading) (b : Heading) (n : ℕ) → m.headings ≡ done ++ b ∷ rest → NoClash done n
          → Tells (NoClash (done ++ b ∷ [])) (ConditionAt tree) (clash_step rows m.headings n b)
      step done rest b n e h =
          tell (NoClash (done ++ b ∷ [])) (ConditionAt tree) (run (earlier_step rows n b) 0 m.headings) _
          (earlier-tells n b (ap (slice_get m.headings) h.count ∙ stands-at done b rest e))
          (λ j k. record {
            count = let a = h.count in let c = length-append done (b ∷ []) in omega (arith, a, c);
            none = λ i l a c u v lt. ⊎_elim (λ w. h.none i l a c u w lt)
                (λ w. subst (λ z. clash_with rows z a ≡ None) w.1 (k.none i a u (let s = w.0 in let t = h.count in omega (arith, s, t, lt))))
                (push-cases done b l c v);
          })
          (λ r q. q)

  -- two methods that meet in a type have one slot, and are instance methods
  pub record AreMeeting (a b : Heading) (x y : MethodAt) : Type 0 where
    pub slots : a.slot ≡ b.slot
    pub first : is_static x ≡ false
    pub second : is_static y ≡ false

  pub meeting : {n : ℕ} → NoClash m.headings n → (c i j : ℕ) (a b : Heading) (x y : MethodAt) → slice_get m.headings i ≡ Some a
      → slice_get m.headings j ≡ Some b → slice_get (methods_in tree) i ≡ Some x → slice_get (methods_in tree) j ≡ Some y → i < j
      → IsSubclass (outline tree) c x.owner → IsSubclass (outline tree) c y.owner → x.head.name ≡ y.head.name → AreMeeting a b x y
  meeting clash c i j a b x y p q u v lt up down same =
      let n = same-slots a.slot b.slot one in
      record {
        slots = n.1 ∙ sym n.2;
        first = static-of a x n.0 (members.slots.each i a x p u) n.1;
        second = static-of b y n.0 (members.slots.each j b y q v) n.2;
      }
    where
      is-above : (k : ℕ) (h : Heading) (z : MethodAt) → slice_get m.headings k ≡ Some h → slice_get (methods_in tree) k ≡ Some z
          → IsSubclass (outline tree) c z.owner → is_above rows c h.owner ≡ true
      is-above k h z e f sub =
          let own = (members.heads k h z e f).owner in
          above.whole c h.owner (let w = owner-within tree k z f in omega (arith, w, own)) (subst (λ o. IsSubclass (outline tree) c o) (sym own) sub)

      one : same_slot a.slot b.slot ≡ true
      one = one-test (bytes_eq a.name b.name) _ (same_slot a.slot b.slot) (meet rows a.owner b.owner) (PrivateReused b.name b.place)
          (Overload b.name b.place) ((bytes_eq-Decides a.name b.name).1 ((members.heads i a x p u).name ∙ same ∙ sym (members.heads j b y q v).name))
          (meets rows c a.owner b.owner (is-above i a x p u up) (is-above j b y q v down)) (clash.none i j a b p q lt)

      static-of : (h : Heading) (z : MethodAt) (n : ℕ) → SlotOf (types_in tree) m.slots h z → h.slot ≡ Some n → is_static z ≡ false
      static-of h z n (none_of f g) t = absurd (cc (sym g ∙ t))
      static-of h z n (one_of f g d o) t = f

  -- of two methods of a name in a type and its ancestors none is static
  pub outline-met : {n : ℕ} → NoClash m.headings n → OneMet (outline tree)
  outline-met clash = one-met-of (outline tree) meet-as
    where
      meet-as : MeetAsInstances (outline tree)
      meet-as c i j h k p q lt same u v =
          let x = outline-method tree i h p in
          let y = outline-method tree j k q in
          let a = stands-beside (methods_in tree) m.headings (sym members.count) i x.0 x.1 in
          let b = stands-beside (methods_in tree) m.headings (sym members.count) j y.0 y.1 in
          let n = meeting clash c i j a.0 b.0 x.0 y.0 a.1 b.1 x.1 y.1 lt
          (subst (λ z. IsSubclass (outline tree) c z) (ap (λ z. z.owner) (sym x.2)) u)
          (subst (λ z. IsSubclass (outline tree) c z) (ap (λ z. z.owner) (sym y.2)) v) (ap (λ z. z.name) x.2 ∙ same ∙ ap (λ z. z.name) (sym y.2)) in
          (ap (λ z. z.is_static) (sym x.2) ∙ n.first, ap (λ z. z.is_static) (sym y.2) ∙ n.second)

  -- ---- the main method

  pub record IsFirstMain (i : ℕ) : Type 0 where
    pub method : MethodAt
    pub stands : slice_get (methods_in tree) i ≡ Some method
    pub is : IsMain (method_outline (types_in tree) method)
    pub first : position (λ h. h.is_main) m.headings ≡ Some i

  pub main-tells : Tells IsFirstMain (ConditionAt tree) (main_of m.headings)
  main-tells = go (position (λ h. h.is_main) m.headings) refl
    where
      go : (o : Option ℕ) → o ≡ position (λ h. h.is_main) m.headings → Tells IsFirstMain (ConditionAt tree) (or_no_main o)
      go (Some i) e =
          let a = position-passes (λ h. h.is_main) m.headings i (sym e) in
          let x = stands-beside m.headings (methods_in tree) members.count i a.0 a.1 in
          record { method = x.0; stands = x.1; is = (members.heads i a.0 x.0 a.1 x.1).main a.2; first = sym e }
      go None e = no_main (λ i k at is.
          let x = outline-method tree i k at in
          let a = stands-beside (methods_in tree) m.headings (sym members.count) i x.0 x.1 in
          none-passes (λ h. h.is_main) m.headings (sym e) i a.0 a.1 ((members.heads i a.0 x.0 a.1 x.1).no_main (subst IsMain (sym x.2) is)))
