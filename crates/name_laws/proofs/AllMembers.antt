-- The members of all declarations: they are those of the outline, or a condition holds.
use Rattle.std.proofs.Common.{◌≡◌, ℕ, zero, suc, ◌+◌, ◌<◌, ⊎_elim, Bool, true, false, not, ◌||◌, List, [], ◌∷◌, ◌++◌, length, Option, Some, None, Ok, Err, Contains, refl, sym, ap, ◌∙◌, subst, arith}
use Rattle.std.specs.Prelude.{if◌then◌else◌, slice_get, ◌==◌, ◌&&◌}
use Rattle.std.specs.Option.{is_some, option_map_or}
use Rattle.std.specs.Str.{bytes_eq}
use Rattle.std.proofs.lemmas.Bool.{false≢true, not-true}
use Rattle.std.proofs.lemmas.List.{map-append, append-nil, append_assoc, length-append}
use Rattle.std.proofs.Math.Bool.{or-true}
use Rattle.std.proofs.lemmas.Slice.Eq.{bytes_eq-Decides}
use Rattle.std.proofs.lemmas.Option.{slice_get_within}
use Rattle.std.proofs.Math.Numerals.{add-one}
use Rattle.kaba_base.proofs.ListLemmas.{contains_at, no-member, append_cases, at_contains, at_left, at_map, map_at, middle}
use Rattle.java_tree.specs.declared.Id.{Id}
use Rattle.java_tree.specs.Syntax.{Statements, HeadTree, MemberTree, FieldTree, MethodTree, MakerTree, DeclTree, ClassTree, InterfaceTree}
use Rattle.name_rules.specs.declared.Form.TheVariants as forms
use Rattle.java_tree.specs.Makers.{declares_maker}
use Rattle.java_tree.specs.Makers as tree_makers
use Rattle.java_lex.specs.Writable.{IsName}
use Rattle.std.specs.List.{list_any}
use Rattle.java_tree.specs.Formed.{Each, IsFormedHead, IsFormedMember, IsFormedDecl, IsFormedTree}
use Rattle.java_core.specs.Formed.{HasNoTwice}
use Rattle.java_core.specs.Makers.{maker_name}
use Rattle.java_core.proofs.Positions.{position-passes}
use Rattle.name_rules.specs.declared.Refusal.TheVariants.{Unknown, Overload, NotInProfile}
use Rattle.name_rules.specs.declared.parts.Kind.TheVariants as kinds
use Rattle.name_laws.specs.declared.parts.Flags.{Flags}
use Rattle.name_laws.specs.Known.{KnownClass}
use Rattle.name_laws.specs.Answers.{with, run}
use Rattle.name_laws.specs.Tables.{method_in}
use Rattle.name_laws.specs.Classes.{no_flags, flags_of}
use Rattle.name_laws.specs.Members.{Members, params_of, add_heading, head_step, is_wrong_body, field_step, is_class_of, member_step, interface_step, decl_step, no_members, implied_step, with_implied, members_of}
use Rattle.name_rules.specs.Outline.{FieldAt, MethodAt, field_member, method_member, fields_of, methods_of, heads_of, fields_declared, methods_declared, fields_from, methods_from, fields_in, methods_in, name_of, place_of, maker_head, is_maker_kind, is_maker, writer_of, implied_maker, implied_in, implied_from, has_word, is_abstract_word}
use Rattle.name_rules.specs.Conditions.{ConditionAt, HasWrongBody, missing, superfluous, in_concrete, wrong_body, of_type, of_method, written_makers, makers_written, maker_twice, maker_named}
use Rattle.name_rules.specs.Conditions as conditions
use Rattle.name_laws.proofs.Sees.{Tells, tell, turn, same_some}
use Rattle.name_laws.proofs.Runs.{run-tells, stands-at, none-passes, stands-beside}
use Rattle.name_laws.proofs.KnownTypes.{AreKnown}
use Rattle.name_laws.proofs.Modifiers.{FlagsAre, NoStatic, AreFit, none-stand, flags-fit, flags-tells}
use Rattle.name_laws.proofs.Params.{AreParams}
use Rattle.name_laws.proofs.MembersOf.{no-mark, owner-from, member-name, written-member, written-in, method-in}
use Rattle.name_laws.proofs.KnownMembers.{AreMembers, both-true, true-both, added, no-wrong, field-tells, head-tells, maker-tells, fields_from-append, methods_from-append}

fields_of-push : (c : ℕ) (xs : List MemberTree) (x : MemberTree) (ys : List MemberTree) → fields_of c (xs ++ x ∷ ys) ≡ fields_of c xs
    ++ (field_member c x ++ fields_of c ys)
fields_of-push c [] x ys = refl
fields_of-push c (z ∷ xs) x ys = ap (λ y. field_member c z ++ y) (fields_of-push c xs x ys)
    ∙ sym (append_assoc (field_member c z) (fields_of c xs) (field_member c x ++ fields_of c ys))

pub methods_of-push : (c : ℕ) (a : Bool) (xs : List MemberTree) (x : MemberTree) (ys : List MemberTree) → methods_of c a (xs ++ x ∷ ys)
    ≡ methods_of c a xs ++ (method_member c a x ++ methods_of c a ys)
methods_of-push c a [] x ys = refl
methods_of-push c a (z ∷ xs) x ys = ap (λ y. method_member c a z ++ y) (methods_of-push c a xs x ys)
    ∙ sym (append_assoc (method_member c a z) (methods_of c a xs) (method_member c a x ++ methods_of c a ys))

-- ---- lists of which each item is formed

pub each-at : {A : Type 0} (P : A → Type 0) (done : List A) (x : A) (rest : List A) → Each P (done ++ x ∷ rest) → P x
each-at P [] x rest h = h.0
each-at P (y ∷ done) x rest h = each-at P done x rest h.1

each-left : {A : Type 0} (P : A → Type 0) (xs ys : List A) → Each P (xs ++ ys) → Each P xs
each-left P [] ys h = tt
each-left P (x ∷ xs) ys h = (h.0, each-left P xs ys h.1)

-- ---- constructors that are written

written-append : (xs ys : List MemberTree) → written_makers (xs ++ ys) ≡ written_makers xs ++ written_makers ys
written-append [] ys = refl
written-append (FieldTree mods u n p ∷ xs) ys = written-append xs ys
written-append (MethodTree h b p ∷ xs) ys = written-append xs ys
written-append (MakerTree mods n ps up ss p ∷ xs) ys = ap (λ z. record { name = n; place = p } ∷ z) (written-append xs ys)

-- what has the name of a constructor is one
marked-of : (y : MethodAt) → (is_maker y ≡ false → IsName y.head.name) → (z : List ℕ) → y.head.name ≡ maker_name z → is_maker y ≡ true
marked-of y named z same = go (is_maker y) refl
  where
    go : (b : Bool) → is_maker y ≡ b → b ≡ true
    go true e = refl
    go false e = absurd (no-mark z (subst IsName same (named e)))

marked-member : (c : ℕ) (a : Bool) (xs : List MemberTree) → Each IsFormedMember xs → (i : ℕ) (y : MethodAt) (z : List ℕ)
    → slice_get (methods_of c a xs) i ≡ Some y → y.head.name ≡ maker_name z → is_maker y ≡ true
marked-member c a xs g i y z at same = marked-of y (member-name c a xs g i y at) z same

-- a class that writes one declares one
declares-written : (xs : List MemberTree) (w : Id) → Contains (written_makers xs) w → list_any tree_makers.is_maker xs ≡ true
declares-written [] w h = no-member w h
declares-written (FieldTree mods u n p ∷ xs) w h = declares-written xs w h
declares-written (MethodTree hd b p ∷ xs) w h = declares-written xs w h
declares-written (MakerTree mods n ps up ss p ∷ xs) w h = refl

pub declares : (d : DeclTree) (w : Id) → Contains (makers_written d) w → declares_maker d ≡ true
declares (ClassTree mods n parent faces xs p) w h = declares-written xs w h
declares (InterfaceTree mods n parents hs p) w h = no-member w h

-- a part of a list that lies between others
pub inside : {A : Type 0} {whole : List A} (before here after : List A) (xs ys zs : List A) → whole ≡ before ++ (here ++ after)
    → here ≡ xs ++ (ys ++ zs) → whole ≡ (before ++ xs) ++ (ys ++ (zs ++ after))
inside before here after xs ys zs e f =
    e ∙ ap (λ z. before ++ (z ++ after)) f ∙ ap (λ z. before ++ z) (append_assoc xs (ys ++ zs) after ∙ ap (λ z. xs ++ z) (append_assoc ys zs after))
    ∙ sym (append_assoc before xs (ys ++ (zs ++ after)))

module _ (tree : List DeclTree) (known : List KnownClass) (are : AreKnown tree known) where
  abbrev AreAll : List FieldAt → List MethodAt → Members → Type 0
  AreAll fs ms m = AreMembers tree known are fs ms m

  -- a body that is missing or not allowed
  wrong : (n : MethodAt) → (a : Bool) → has_word is_abstract_word n.head.mods ≡ a → n.kind ≡ kinds.Method
      → is_wrong_body n.in_abstract a (is_some n.body) ≡ true → HasWrongBody n
  wrong n true e k w = go (is_some n.body) refl
    where
      go : (b : Bool) → is_some n.body ≡ b → HasWrongBody n
      go true f = superfluous (ap is_maker_kind k) e f
      go false f = in_concrete (ap is_maker_kind k) e (not-true n.in_abstract (sym (ap (λ z. z || not n.in_abstract) f) ∙ w))
  wrong n false e k w = missing k e (none n.body w)
    where
      none : (o : Option Statements) → not (is_some o) ≡ true → o ≡ None
      none None e = refl
      none (Some ss) e = absurd (false≢true e)

  right : (n : MethodAt) → (a : Bool) → has_word is_abstract_word n.head.mods ≡ a → is_wrong_body n.in_abstract a (is_some n.body) ≡ false → HasWrongBody n → ⊥
  right n a e w (missing k f g) = false≢true (sym w ∙ ap (λ z. is_wrong_body n.in_abstract z (is_some n.body)) (sym e ∙ f) ∙ ap (λ z. not (is_some z)) g)
  right n a e w (superfluous k f g) = false≢true (sym w ∙ ap (λ z. is_wrong_body n.in_abstract z (is_some n.body)) (sym e ∙ f)
      ∙ ap (λ z. z || not n.in_abstract) g)
  right n a e w (in_concrete k f g) = false≢true (sym w ∙ ap (λ z. is_wrong_body n.in_abstract z (is_some n.body)) (sym e ∙ f)
      ∙ ap (λ z. is_some n.body || not z) g ∙ or-true (is_some n.body))

  -- where a member stands in its class, behind the constructors that are written before it
  record StandsIn (c : ℕ) (ms : List MethodAt) (x : MemberTree) : Type 0 where
    index : ℕ
    decl : DeclTree
    stands : slice_get tree index ≡ Some decl
    owned : c ≡ suc index
    formed : IsFormedMember x
    place : ℕ
    word : (w : Id) → written_makers (x ∷ []) ≡ w ∷ [] → slice_get (makers_written decl) place ≡ Some w
    earlier : (i : ℕ) (y : MethodAt) (z : List ℕ) → slice_get ms i ≡ Some y → y.owner ≡ c → y.head.name ≡ maker_name z
        → (l : ℕ) × (v : Id) × (slice_get (makers_written decl) l ≡ Some v) × (l < place)

  -- the class of a number has the name of its declaration
  class-name : (k : ℕ) (d : DeclTree) → slice_get tree k ≡ Some d → (n : List ℕ) → is_class_of known (suc k) n ≡ bytes_eq (name_of d) n
  class-name k d at n =
      let a = map_at (λ z. z.name) known (suc k) (name_of d) (ap (λ z. slice_get z (suc k)) are.names ∙ at_map name_of tree k d at) in
      ap (λ o. option_map_or (λ z. bytes_eq z.name n) o false) a.1 ∙ ap (λ z. bytes_eq z n) a.2

  stands-in : (c k : ℕ) (a : Bool) (d : DeclTree) → slice_get tree k ≡ Some d → c ≡ suc k → (xs : List MemberTree)
      → makers_written d ≡ written_makers xs → Each IsFormedMember xs → (ms : List MethodAt)
      → ((i : ℕ) (y : MethodAt) → slice_get ms i ≡ Some y → y.owner < c) → (done rest : List MemberTree) (x : MemberTree) → xs ≡ done ++ x ∷ rest
      → StandsIn c (ms ++ methods_of c a done) x
  stands-in c k a d at owned xs written g ms low done rest x e = record {
    index = k;
    decl = d;
    stands = at;
    owned = owned;
    formed = each-at IsFormedMember done x rest (subst (Each IsFormedMember) e g);
    place = length (written_makers done);
    word = λ w one. ap (λ z. slice_get z (length (written_makers done))) (written ∙ ap written_makers e ∙ written-append done (x ∷ rest)
        ∙ ap (λ z. written_makers done ++ z) (written-append (x ∷ []) rest ∙ ap (λ z. z ++ written_makers rest) one))
        ∙ middle (written_makers done) w (written_makers rest);
    earlier = λ i y z here own same. ⊎_elim
        (λ h. absurd (let l = low i y h in omega (arith, l, own)))
        (λ h. among y z same h.0 h.2)
        (append_cases ms (methods_of c a done) i y here);
  }
    where
      among : (y : MethodAt) (z : List ℕ) → y.head.name ≡ maker_name z → (j : ℕ) → slice_get (methods_of c a done) j ≡ Some y
          → (l : ℕ) × (v : Id) × (slice_get (makers_written d) l ≡ Some v) × (l < length (written_makers done))
      among y z same j h =
          let w = written-member c a done j y h
          (marked-member c a done (each-left IsFormedMember done (x ∷ rest) (subst (Each IsFormedMember) e g)) j y z h same) in
          let p = at_contains (written_makers done) w.0 w.1 in (
            p.0,
            w.0,
            ap (λ z. slice_get z p.0) (written ∙ ap written_makers e ∙ written-append done (x ∷ rest))
                ∙ at_left (written_makers done) (written_makers (x ∷ rest)) p.0 w.0 p.1,
            slice_get_within (written_makers done) p.0 w.0 p.1,
          )

  member-tells : (c : ℕ) (a : Bool) (fs frest : List FieldAt) (ms mrest : List MethodAt) (x : MemberTree) (m : Members)
      → fields_in tree ≡ fs ++ (field_member c x ++ frest) → methods_in tree ≡ ms ++ (method_member c a x ++ mrest)
      → StandsIn c ms x → AreAll fs ms m → Tells (AreAll (fs ++ field_member c x) (ms ++ method_member c a x)) (ConditionAt tree) (member_step known c a m x)
  member-tells c a fs frest ms mrest (FieldTree mods u n p) m e f st h =
      let x : FieldAt = record { owner = c; mods = mods; type = u; name = n; place = p } in
      tell (AreAll (fs ++ x ∷ []) (ms ++ [])) (ConditionAt tree) (flags_of kinds.Field mods) _
      (flags-fit tree kinds.Field mods (conditions.of_field {f = x} (contains_at (fields_in tree) (length fs) x (stands-at fs x frest e))))
      (λ g hg. turn (field_step known c m g u n p) (field-tells tree known are fs frest x ms m g e hg.0 hg.2 h)
      (λ m k. subst (λ z. AreAll (fs ++ x ∷ []) z m) (sym (append-nil ms)) k) (λ r q. q))
      (λ r q. q)
  member-tells c a fs frest ms mrest (MethodTree hd body p) m e f st h =
      let x : MethodAt = record { owner = c; kind = kinds.Method; in_abstract = a; head = hd; up = None; body = body } in
      tell (AreAll (fs ++ []) (ms ++ x ∷ [])) (ConditionAt tree) (flags_of kinds.Method hd.mods) _
      (flags-fit tree kinds.Method hd.mods (of_method {m = x} (contains_at (methods_in tree) (length ms) x (stands-at ms x mrest f))))
      (λ g hg. go x refl st.formed.0.2 g hg.0 hg.1 hg.2 (is_wrong_body a g.is_abstract (is_some body)) refl f)
      (λ r q. q)
    where
      go : (x : MethodAt) → x.kind ≡ kinds.Method → IsName x.head.name → (g : Flags) → FlagsAre x.head.mods g → NoStatic kinds.Method g
          → AreFit kinds.Method x.head.mods
          → (b : Bool) → is_wrong_body x.in_abstract g.is_abstract (is_some x.body) ≡ b → methods_in tree ≡ ms ++ x ∷ mrest
          → Tells (AreAll (fs ++ []) (ms ++ x ∷ [])) (ConditionAt tree) (if b then Err (NotInProfile forms.Body x.head.place) else head_step known
          x.owner m x.head g)
      go x k named g hg static fit true w f = wrong_body (contains_at (methods_in tree) (length ms) x (stands-at ms x mrest f))
          (wrong x g.is_abstract (sym hg.abstract) k w)
      go x k named g hg static fit false w f =
          turn (head_step known x.owner m x.head g)
          (head-tells tree known are fs ms mrest x m g f (ap is_maker_kind k) named hg (subst (λ z. NoStatic z g) (sym k) static)
          (subst (λ z. AreFit z x.head.mods) (sym k) fit) (right x g.is_abstract (sym hg.abstract) w) h)
          (λ m k. subst (λ z. AreAll z (ms ++ x ∷ []) m) (sym (append-nil fs)) k) (λ r q. q)
  member-tells c a fs frest ms mrest (MakerTree mods n ps up ss p) m e f st h =
      tell (AreAll (fs ++ []) (ms ++ x ∷ [])) (ConditionAt tree) (flags_of kinds.Maker mods) _
      (flags-fit tree kinds.Maker mods (of_method {m = x} (contains_at (methods_in tree) (length ms) x (stands-at ms x mrest f))))
      (λ g hg. by_name g hg.0 hg.1 hg.2 (is_class_of known c n) refl)
      (λ r q. q)
    where
      x : MethodAt
      x = record { owner = c; kind = kinds.Maker; in_abstract = a; head = maker_head n mods ps p; up = up; body = Some ss }

      word : Id
      word = record { name = n; place = p }

      here : slice_get (makers_written st.decl) st.place ≡ Some word
      here = st.word word refl

      has : Contains tree st.decl
      has = contains_at tree st.index st.decl st.stands

      named : is_class_of known c n ≡ bytes_eq (name_of st.decl) n
      named = ap (λ z. is_class_of known z n) st.owned ∙ class-name st.index st.decl st.stands n

      by_place : (g : Flags) → FlagsAre mods g → NoStatic kinds.Maker g → AreFit kinds.Maker mods → name_of st.decl ≡ n
          → (o : Option ℕ) → method_in m.headings c (maker_name n) ≡ o
          → Tells (AreAll (fs ++ []) (ms ++ x ∷ [])) (ConditionAt tree) (if is_some o then Err (Overload n p)
          else with (params_of known ps) (λ ls. Ok (add_heading m c (maker_head n mods ps p) g ls None)))
      by_place g hg static fit same (Some i) o =
          let y = position-passes (λ z. (z.owner == c) && bytes_eq z.name (maker_name n)) m.headings i o in
          let b = both-true y.0.owner c y.0.name (maker_name n) y.2 in
          let z = stands-beside m.headings ms h.count i y.0 y.1 in
          let d = h.heads i y.0 z.0 y.1 z.1 in
          let l = st.earlier i z.0 n z.1 (sym d.owner ∙ b.0) (sym d.name ∙ b.1) in
          maker_twice {i = l.0} {j = st.place} has l.2 here l.3
      by_place g hg static fit same None o =
          turn (with (params_of known ps) (λ ls. Ok (add_heading m c (maker_head n mods ps p) g ls None)))
          (maker-tells tree known are fs ms mrest x m g f refl refl
          (record { index = st.index; decl = st.decl; stands = st.stands; owned = st.owned; name = ap maker_name (sym same) }) hg static fit h fresh)
          (λ m k. subst (λ z. AreAll z (ms ++ x ∷ []) m) (sym (append-nil fs)) k) (λ r q. q)
        where
          fresh : (i : ℕ) (y : MethodAt) → slice_get ms i ≡ Some y → y.owner ≡ c → y.head.name ≡ maker_name n → ⊥
          fresh i y at u v =
              let z = stands-beside ms m.headings (sym h.count) i y at in
              let d = h.heads i z.0 y z.1 at in
              none-passes (λ w. (w.owner == c) && bytes_eq w.name (maker_name n)) m.headings o i z.0 z.1
              (true-both z.0.owner c z.0.name (maker_name n) (d.owner ∙ u) (d.name ∙ v))

      by_name : (g : Flags) → FlagsAre mods g → NoStatic kinds.Maker g → AreFit kinds.Maker mods → (b : Bool) → is_class_of known c n ≡ b
          → Tells (AreAll (fs ++ []) (ms ++ x ∷ [])) (ConditionAt tree) (if not b then Err (Unknown n p)
          else if is_some (method_in m.headings c (maker_name n)) then Err (Overload n p)
          else with (params_of known ps) (λ ls. Ok (add_heading m c (maker_head n mods ps p) g ls None)))
      by_name g hg static fit true o =
          by_place g hg static fit ((bytes_eq-Decides (name_of st.decl) n).0 (sym named ∙ o)) (method_in m.headings c (maker_name n)) refl
      by_name g hg static fit false o =
          maker_named has (contains_at (makers_written st.decl) st.place word here)
          (λ same. false≢true (sym o ∙ named ∙ (bytes_eq-Decides (name_of st.decl) n).1 (sym same)))

  -- the members of a class
  class-tells : (c k : ℕ) (a : Bool) (d : DeclTree) → slice_get tree k ≡ Some d → c ≡ suc k → (xs : List MemberTree)
      → makers_written d ≡ written_makers xs → Each IsFormedMember xs → (fs frest : List FieldAt) (ms mrest : List MethodAt) (m : Members)
      → ((i : ℕ) (y : MethodAt) → slice_get ms i ≡ Some y → y.owner < c) → fields_in tree ≡ fs ++ (fields_of c xs ++ frest)
      → methods_in tree ≡ ms ++ (methods_of c a xs ++ mrest)
      → AreAll fs ms m → Tells (AreAll (fs ++ fields_of c xs) (ms ++ methods_of c a xs)) (ConditionAt tree) (run (member_step known c a) m xs)
  class-tells c k a d at_decl owned xs written g fs frest ms mrest m low e f h =
      run-tells (ConditionAt tree) xs (member_step known c a) (λ done m. AreAll (fs ++ fields_of c done) (ms ++ methods_of c a done) m)
      (λ done rest x m at h.
      turn (member_step known c a m x)
      (member-tells c a (fs ++ fields_of c done) (fields_of c rest ++ frest) (ms ++ methods_of c a done) (methods_of c a rest ++ mrest) x m
      (inside fs (fields_of c xs) frest (fields_of c done) (field_member c x) (fields_of c rest) e (ap (fields_of c) at ∙ fields_of-push c done x rest))
      (inside ms (methods_of c a xs) mrest (methods_of c a done) (method_member c a x) (methods_of c a rest) f (ap (methods_of c a) at
      ∙ methods_of-push c a done x rest)) (stands-in c k a d at_decl owned xs written g ms low done rest x at) h)
      (λ m q. subst (λ z. AreAll z (ms ++ methods_of c a (done ++ x ∷ [])) m)
      (sym (pushed fs (fields_of c done) (field_member c x) (fields_of c (done ++ x ∷ [])) (fields_of-push c done x []
      ∙ ap (λ z. fields_of c done ++ z) (append-nil (field_member c x)))))
      (subst (λ z. AreAll ((fs ++ fields_of c done) ++ field_member c x) z m)
      (sym (pushed ms (methods_of c a done) (method_member c a x) (methods_of c a (done ++ x ∷ [])) (methods_of-push c a done x []
      ∙ ap (λ z. methods_of c a done ++ z) (append-nil (method_member c a x))))) q))
      (λ r q. q))
      [] xs m refl (subst (λ z. AreAll z (ms ++ []) m) (sym (append-nil fs)) (subst (λ z. AreAll fs z m) (sym (append-nil ms)) h))
    where
      pushed : {A : Type 0} (xs ys zs all : List A) → all ≡ ys ++ zs → xs ++ all ≡ (xs ++ ys) ++ zs
      pushed xs ys zs all e = ap (λ z. xs ++ z) e ∙ sym (append_assoc xs ys zs)

  -- the methods of an interface
  heads-tells : (c : ℕ) (hs : List HeadTree) → Each IsFormedHead hs → (fs : List FieldAt) (ms mrest : List MethodAt) (m : Members)
      → methods_in tree ≡ ms ++ (heads_of c hs ++ mrest) → AreAll fs ms m
      → Tells (AreAll fs (ms ++ heads_of c hs)) (ConditionAt tree) (run (interface_step known c) m hs)
  heads-tells c hs named fs ms mrest m f h =
      run-tells (ConditionAt tree) hs (interface_step known c) (λ done m. AreAll fs (ms ++ heads_of c done) m) step [] hs m refl
      (subst (λ z. AreAll fs z m) (sym (append-nil ms)) h)
    where
      no_wrong : (h : HeadTree) → HasWrongBody (record { owner = c; kind = kinds.Head; in_abstract = true; head = h; up = None; body = None }) → ⊥
      no_wrong h (missing k e b) = cc k
      no_wrong h (superfluous k e b) = false≢true b
      no_wrong h (in_concrete k e b) = false≢true (sym b)

      step : (done rest : List HeadTree) (x : HeadTree) (m : Members) → hs ≡ done ++ x ∷ rest → AreAll fs (ms ++ heads_of c done) m
          → Tells (AreAll fs (ms ++ heads_of c (done ++ x ∷ []))) (ConditionAt tree) (interface_step known c m x)
      step done rest x m at k =
          let n : MethodAt = record { owner = c; kind = kinds.Head; in_abstract = true; head = x; up = None; body = None } in
          let stands : methods_in tree ≡ (ms ++ heads_of c done) ++ n ∷ (heads_of c rest ++ mrest) =
          inside ms (heads_of c hs) mrest (heads_of c done) (n ∷ []) (heads_of c rest) f (ap (heads_of c) at
          ∙ map-append (λ h. record { owner = c; kind = kinds.Head; in_abstract = true; head = h; up = None; body = None }) done (x ∷ rest)) in
          tell (AreAll fs (ms ++ heads_of c (done ++ x ∷ []))) (ConditionAt tree) (flags_of kinds.Head x.mods) _
          (flags-fit tree kinds.Head x.mods (of_method {m = n} (contains_at (methods_in tree) (length (ms ++ heads_of c done)) n
          (stands-at (ms ++ heads_of c done) n (heads_of c rest ++ mrest) stands))))
          (λ g hg. turn (head_step known c m x g) (head-tells tree known are fs (ms ++ heads_of c done) (heads_of c rest ++ mrest) n m g stands refl
          (each-at IsFormedHead done x rest (subst (Each IsFormedHead) at named)).2 hg.0 hg.1 hg.2 (no_wrong x) k)
          (λ m q. subst (λ z. AreAll fs z m) (append_assoc ms (heads_of c done) (n ∷ [])
          ∙ ap (λ z. ms ++ z) (sym (map-append (λ h. record { owner = c; kind = kinds.Head; in_abstract = true; head = h; up = None; body = None }) done
          (x ∷ [])))) q) (λ r q. q))
          (λ r q. q)

  -- the declarations so far, and the number of the next
  record AreDeclared (done : List DeclTree) (s : ℕ × Members) : Type 0 where
    pub number : s.0 ≡ 1 + length done
    pub members : AreAll (fields_from 1 done) (methods_from 1 done) s.1

  decl-tells : (c k : ℕ) (fs frest : List FieldAt) (ms mrest : List MethodAt) (d : DeclTree) (m : Members) → slice_get tree k ≡ Some d → c ≡ suc k
      → IsFormedDecl d → ((i : ℕ) (y : MethodAt) → slice_get ms i ≡ Some y → y.owner < c)
      → fields_in tree ≡ fs ++ (fields_declared c d ++ frest) → methods_in tree ≡ ms ++ (methods_declared c d ++ mrest)
      → AreAll fs ms m → Tells (λ s. (s.0 ≡ c + 1) × AreAll (fs ++ fields_declared c d) (ms ++ methods_declared c d) s.1) (ConditionAt tree)
      (decl_step known (c, m) d)
  decl-tells c k fs frest ms mrest (ClassTree mods n parent faces xs p) m at owned formed low e f h =
      let a = has_word is_abstract_word mods in
      tell (λ s. (s.0 ≡ c + 1) × AreAll (fs ++ fields_of c xs) (ms ++ methods_of c a xs) s.1) (ConditionAt tree) (flags_of kinds.Class mods) _
      (flags-tells tree kinds.Class mods (of_type (contains_at tree k (ClassTree mods n parent faces xs p) at)))
      (λ g hg. tell (λ s. (s.0 ≡ c + 1) × AreAll (fs ++ fields_of c xs) (ms ++ methods_of c a xs) s.1) (ConditionAt tree)
      (run (member_step known c g.is_abstract) m xs) _
      (subst (λ z. Tells (AreAll (fs ++ fields_of c xs) (ms ++ methods_of c a xs)) (ConditionAt tree) (run (member_step known c z) m xs))
      (sym hg.abstract) (class-tells c k a (ClassTree mods n parent faces xs p) at owned xs refl formed.4 fs frest ms mrest m low e f h))
      (λ m k. (refl, k)) (λ r q. q))
      (λ r q. q)
  decl-tells c k fs frest ms mrest (InterfaceTree mods n parents hs p) m at owned formed low e f h =
      tell (λ s. (s.0 ≡ c + 1) × AreAll (fs ++ []) (ms ++ heads_of c hs) s.1) (ConditionAt tree) (run (interface_step known c) m hs) _
      (heads-tells c hs formed.3 fs ms mrest m f h)
      (λ m k. (refl, subst (λ z. AreAll z (ms ++ heads_of c hs) m) (sym (append-nil fs)) k)) (λ r q. q)

  -- ---- constructors that are not written

  -- one more, where a class has it
  implied-one : (fs : List FieldAt) (ms : List MethodAt) (c k : ℕ) (d : DeclTree) (m : Members) → slice_get tree k ≡ Some d → c ≡ suc k
      → (declares_maker d ≡ false → (i : ℕ) (y : MethodAt) → slice_get ms i ≡ Some y → y.owner ≡ c → y.head.name ≡ maker_name (name_of d) → ⊥)
      → AreAll fs ms m → AreAll fs (ms ++ implied_in tree c d) (implied_step tree (c, m) d).1
  unfolding HasNoTwice
  implied-one fs ms c k d m at owned fresh h = go (declares_maker d) refl (is_some (writer_of tree c)) refl
    where
      x : MethodAt
      x = implied_maker c (name_of d) (place_of d)

      no-params : AreParams tree known are [] []
      no-params = record {
        same = refl;
        names = refl;
        once = λ i j x a b. absurd (cc a);
        free = λ i q e. absurd (cc e);
        means = λ i q e. absurd (cc e);
      }

      go : (w : Bool) → declares_maker d ≡ w → (b : Bool) → is_some (writer_of tree c) ≡ b
          → AreAll fs (ms ++ (if w then [] else if b then x ∷ [] else [])) (if w then m else if b
          then add_heading m c (maker_head (name_of d) [] [] (place_of d)) no_flags [] None else m)
      go true e b f = subst (λ z. AreAll fs z m) (sym (append-nil ms)) h
      go false e false f = subst (λ z. AreAll fs z m) (sym (append-nil ms)) h
      go false e true f =
          let g = none-stand kinds.Maker in
          added tree known are fs ms x m no_flags g.0 g.1 g.2 (no-wrong tree known are x refl)
          (λ maker. record { index = k; decl = d; stands = at; owned = owned; name = refl }) (λ z same. refl) h (fresh e) [] no-params None
          (refl, λ u none. absurd (cc none))

  implied-are : (c : ℕ) (ds before : List DeclTree) (ms : List MethodAt) (m : Members) → tree ≡ before ++ ds → c ≡ suc (length before)
      → methods_in tree ≡ ms ++ implied_from tree c ds
      → ((i : ℕ) (y : MethodAt) → slice_get ms i ≡ Some y → (j : ℕ) (d : DeclTree) → slice_get ds j ≡ Some d → declares_maker d ≡ false
      → y.owner ≡ c + j → y.head.name ≡ maker_name (name_of d) → ⊥)
      → AreAll (fields_in tree) ms m → AreAll (fields_in tree) (methods_in tree) (with_implied tree (c, m) ds).1
  implied-are c [] before ms m e number whole once h = subst (λ z. AreAll (fields_in tree) z m) (sym (whole ∙ append-nil ms)) h
  implied-are c (d ∷ ds) before ms m e number whole once h =
      subst (λ z. AreAll (fields_in tree) (methods_in tree) (with_implied tree (z, (implied_step tree (c, m) d).1) ds).1) (sym (add-one c))
      (implied-are (suc c) ds (before ++ d ∷ []) (ms ++ implied_in tree c d) (implied_step tree (c, m) d).1
      (e ∙ sym (append_assoc before (d ∷ []) ds))
      (let l = length-append before (d ∷ []) in omega (arith, l, number))
      (whole ∙ sym (append_assoc ms (implied_in tree c d) (implied_from tree (suc c) ds)))
      (λ i y at j b there none own same. ⊎_elim
      (λ u. once i y u (suc j) b there none (omega (arith, own)) same)
      (λ u. let o = owner-one u.0 y u.2 in omega (arith, o, own))
      (append_cases ms (implied_in tree c d) i y at))
      (implied-one (fields_in tree) ms c (length before) d m (stands-at before d ds e) number
      (λ none i y at own same. once i y at 0 d refl none (omega (arith, own)) same) h))
    where
      owner-one : (i : ℕ) (y : MethodAt) → slice_get (implied_in tree c d) i ≡ Some y → y.owner ≡ c
      owner-one i y at = go (declares_maker d) (is_some (writer_of tree c)) i at
        where
          go : (w b : Bool) (i : ℕ) → slice_get (if w then [] else if b then implied_maker c (name_of d) (place_of d) ∷ [] else []) i ≡ Some y → y.owner ≡ c
          go true b i u = absurd (cc u)
          go false false i u = absurd (cc u)
          go false true zero u = ap (λ z. z.owner) (sym (same_some u))
          go false true (suc i) u = absurd (cc u)

  pub members-tells : IsFormedTree tree → Tells (AreAll (fields_in tree) (methods_in tree)) (ConditionAt tree) (members_of known tree)
  members-tells formed =
      tell (AreAll (fields_in tree) (methods_in tree)) (ConditionAt tree) (run (decl_step known) (1, no_members) tree) _
      (run-tells (ConditionAt tree) tree (decl_step known) AreDeclared step [] tree (1, no_members) refl (record { number = omega arith; members = none }))
      (λ s h. implied-are 1 tree [] (methods_from 1 tree) s.1 refl (omega arith) refl once h.members) (λ r q. q)
    where
      once : (i : ℕ) (y : MethodAt) → slice_get (methods_from 1 tree) i ≡ Some y → (j : ℕ) (d : DeclTree) → slice_get tree j ≡ Some d
          → declares_maker d ≡ false → y.owner ≡ 1 + j → y.head.name ≡ maker_name (name_of d) → ⊥
      once i y at j d there none own same =
          let k = method-in 1 tree formed i y at in
          let w = written-in 1 tree i y at (marked-of y k.is.name (name_of d) same) in
          let index : w.index ≡ j = let o = w.owned in omega (arith, o, own) in
          let decl : w.decl ≡ d = same_some (sym w.stands ∙ ap (slice_get tree) index ∙ there) in
          false≢true (sym none ∙ ap declares_maker (sym decl) ∙ declares w.decl w.is.word w.is.among)

      none : AreAll [] [] no_members
      none = record {
        fields = refl;
        field_once = λ i j f g a b c d. absurd (cc a);
        good_field = λ i f a. absurd (cc a);
        count = refl;
        heads = λ i h n a b. absurd (cc a);
        method_once = λ i j a b c d e f. absurd (cc c);
        good = λ i n a. absurd (cc a);
        slots = record {
          each = λ i h m a b. absurd (cc a);
          first = λ s t a. absurd (cc a);
          least = λ s i t h a b c. absurd (cc a);
          apart =
              λ r s a b c d e f g. absurd (cc c);
          order = λ r s a b c d e. absurd (cc c);
        };
      }

      step : (done rest : List DeclTree) (d : DeclTree) (s : ℕ × Members) → tree ≡ done ++ d ∷ rest → AreDeclared done s
          → Tells (AreDeclared (done ++ d ∷ [])) (ConditionAt tree) (decl_step known s d)
      step done rest d s e h =
          turn (decl_step known s d)
          (decl-tells s.0 (length done) (fields_from 1 done) (fields_from (suc (1 + length done)) rest) (methods_from 1 done)
          (methods_from (suc (1 + length done)) rest ++ implied_from tree 1 tree) d s.1 (stands-at done d rest e) (let n = h.number in omega (arith, n))
          (each-at IsFormedDecl done d rest (subst (Each IsFormedDecl) e formed))
          (λ i y at. let l = owner-from 1 done i y at in let n = h.number in omega (arith, l, n))
          (ap fields_in e ∙ fields_from-append 1 done (d ∷ rest)
          ∙ ap (λ z. fields_from 1 done ++ (fields_declared z d ++ fields_from (suc (1 + length done)) rest)) (sym h.number))
          (ap (λ z. methods_from 1 z ++ implied_from tree 1 tree) e ∙ ap (λ z. z ++ implied_from tree 1 tree) (methods_from-append 1 done (d ∷ rest)
          ∙ ap (λ z. methods_from 1 done ++ (methods_declared z d ++ methods_from (suc (1 + length done)) rest)) (sym h.number))
          ∙ append_assoc (methods_from 1 done) (methods_declared s.0 d ++ methods_from (suc (1 + length done)) rest) (implied_from tree 1 tree)
          ∙ ap (λ z. methods_from 1 done ++ z)
          (append_assoc (methods_declared s.0 d) (methods_from (suc (1 + length done)) rest) (implied_from tree 1 tree))) h.members)
          (λ t k. record {
            number = let a = h.number in let b = length-append done (d ∷ []) in let c = k.0 in omega (arith, a, b, c);
            members = subst (λ z. AreAll z (methods_from 1 (done ++ d ∷ [])) t.1)
                (sym (fields_from-append 1 done (d ∷ []) ∙ ap (λ z. fields_from 1 done ++ z) (append-nil (fields_declared (1 + length done) d))
                ∙ ap (λ z. fields_from 1 done ++ fields_declared z d) (sym h.number)))
                (subst (λ z. AreAll (fields_from 1 done ++ fields_declared s.0 d) z t.1)
                (sym (methods_from-append 1 done (d ∷ []) ∙ ap (λ z. methods_from 1 done ++ z) (append-nil (methods_declared (1 + length done) d))
                ∙ ap (λ z. methods_from 1 done ++ methods_declared z d) (sym h.number))) k.1);
          })
          (λ r q. q)
