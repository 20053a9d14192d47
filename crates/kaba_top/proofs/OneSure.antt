-- `sure` has one answer for a program.
use Rattle.std.proofs.Common.{◌≡◌, ℕ, zero, suc, ◌<◌, Bool, true, List, [], ◌∷◌, ◌++◌, length, map, Some, refl, sym, ap, ◌∙◌, subst, arith, codes}
use Rattle.std.specs.Prelude.{◌↔◌, position, slice_get, slice_index_or}
use Rattle.std.specs.Option.{option_map, option_map_or, option_and_then}
use Rattle.std.specs.Fmt.{decimal}
use Rattle.std.specs.List.{filter, flat_map}
use Rattle.std.specs.Str.{encode_utf8_all}
use Rattle.std.proofs.lemmas.List.{length-map}
use Rattle.std.proofs.lemmas.List.Elements.{All-contains}
use Rattle.std.proofs.lemmas.Option.{same_Some, slice_get-map}
use Rattle.kaba_base.proofs.ListLemmas.{below_at, contains_at}
use Rattle.kaba_base.specs.declared.ColId.{ColId}
use Rattle.sure_report.proofs.Judged.{calls_numbered}
use Rattle.kaba_bits.specs.Sets.{bit, row, ListsBelow}
use Rattle.kaba_bits.proofs.ListLemmas.{ListsBelow-same}
use Rattle.fact_model.specs.declared.facts.Facts.{Facts}
use Rattle.fact_model.specs.declared.facts.CallInfo.{CallInfo}
use Rattle.fact_model.specs.declared.facts.ColKind.{ColKind}
use Rattle.fact_model.specs.declared.facts.ColKind.TheVariants.{Fld, Dcl, Def, Is}
use Rattle.fact_model.specs.declared.facts.ColumnInfo.{ColumnInfo}
use Rattle.fact_model.specs.declared.facts.Spot.{Spot}
use Rattle.fact_model.specs.declared.facts.TestInfo.{TestInfo}
use Rattle.fact_model.specs.declared.sets.PointsTo.{PointsTo}
use Rattle.fact_model.specs.Items.{site_class, column_kind}
use Rattle.fact_model.specs.Classes.{IsBelow, finds, is_slot}
use Rattle.concept_build.proofs.Ordered.{same_listed, same_inside}
use Rattle.sure_report.specs.declared.Bodies.{Bodies}
use Rattle.sure_report.specs.declared.Bodies.TheVariants.{Zero, One, Many}
use Rattle.sure_report.specs.declared.Sure.{Sure}
use Rattle.sure_report.specs.Report.{AreJudged, is_cast, is_call, cast_spots, call_spots, test_at, AreSpotsInRange, AllPass, MayRun, MayRunThese, IsUnreached, IsDead, RunsThese, IsSureReport}
use Rattle.sure_report.specs.Text.{class_name, tested_name, slot_name, called_name, column_label, sure_word, bodies_text, cast_line, call_line, dead_line, lines, sure_text}
use Rattle.flow_rules.specs.Lists.{PlainCall}
use Rattle.flow_rules.specs.Facts.{ClassFacts, PlainBody, body_seen, call_seen}
use Rattle.flow_program.specs.Same.{AreSameFacts}
use Rattle.kaba_top.specs.SureAnswers.{SureOf}
use Rattle.kaba_top.specs.OneAnswer.{AreOneKind}
use Rattle.kaba_top.proofs.SameLists.{same_truth, seen_in, or_seen}
use Rattle.kaba_top.proofs.SameFacts.{turned, site_class_is, kind_is, finds_is, below_on, by_class}
use Rattle.kaba_top.proofs.SameSets.{one_points, one_set_rows}
use Rattle.kaba_top.proofs.OneAnalysis.{given}

-- ---- what is asked of spots and columns is the same

module _ {F G : Facts} (s : AreSameFacts F G) (t u : PointsTo) (points : t.points.items ≡ u.points.items) (rows : t.rows.items ≡ u.rows.items) where
  in_point : (p n : ℕ) → bit (row u.points.items p) n ≡ true → bit (row t.points.items p) n ≡ true
  in_point p n h = subst (λ z. bit (row z p) n ≡ true) (sym points) h

  in_row : (r n : ℕ) → bit (row u.rows.items r) n ≡ true → bit (row t.rows.items r) n ≡ true
  in_row r n h = subst (λ z. bit (row z r) n ≡ true) (sym rows) h

  tests_alike : (n : ℕ) → test_at F n ≡ test_at G n
  tests_alike n =
      ap (λ (z : List TestInfo). slice_index_or z n
      (record { from = 0; target = record { 0 = 0 }; class = record { 0 = 0 }; place = record { at = 0; line = 0 } })) s.tests

  pass_on : (x : TestInfo) → AllPass F t x → AllPass G u x
  pass_on x h n there = subst (λ z. IsBelow G z x.class.0) (site_class_is s n) (below_on s (h n (in_point x.from n there)))

  passes_on : (n : ℕ) → AllPass F t (test_at F n) → AllPass G u (test_at G n)
  passes_on n h = subst (AllPass G u) (tests_alike n) (pass_on (test_at F n) h)

  -- a call of one and one of the other that is seen as it
  run_on : (c d : CallInfo) → call_seen c ≡ call_seen d → (b : ℕ) → MayRun G u d b → MayRun F t c b
  run_on c d e b h = record {
    site = h.site;
    there = subst (λ (z : PlainCall). bit (row t.points.items z.receiver) h.site ≡ true) (sym e) (in_point d.receiver h.site h.there);
    found = ap (λ (z : PlainCall). finds F (site_class F h.site) z.slot) e
        ∙ (λ i. finds_is s (site_class_is s h.site i) d.slot i) ∙ h.found;
  }

  -- a body and an access that no run reaches
  body_left : (c : ℕ) → IsUnreached F t Def c → IsUnreached G u Def c
  body_left c h b has at n there =
      let o = seen_in body_seen G.bodies.items F.bodies.items (sym s.bodies) b has in
      h o.0 o.1 (ap (λ (z : PlainBody). z.column) o.2 ∙ at) n
      (subst (λ (z : PlainBody). bit (row t.points.items z.this) n ≡ true) (sym o.2) (in_point b.this n there))

  field_left : (c : ℕ) → IsUnreached F t Fld c → IsUnreached G u Fld c
  field_left c h a has at n there = h a ((s.accesses a).1 has) at n (in_row a.row.0 n there)

  unreached_on : (k : ColKind) (c : ℕ) → IsUnreached F t k c → IsUnreached G u k c
  unreached_on Def c h = body_left c h
  unreached_on Fld c h = field_left c h
  unreached_on Dcl c h = absurd h
  unreached_on Is c h = absurd h

  dead_on : (c : ℕ) → IsDead F t c → IsDead G u c
  dead_on c h = subst (λ k. IsUnreached G u k c) (kind_is s c) (unreached_on (column_kind F c) c h)

-- ---- lists that say one thing of each item are one

pairs_same : {A : Type 0} (xs ys : List A) → length xs ≡ length ys → ((i : ℕ) (x y : A) → slice_get xs i ≡ Some x → slice_get ys i ≡ Some y → x ≡ y)
    → xs ≡ ys
pairs_same [] [] e h = refl
pairs_same [] (y ∷ ys) e h = absurd (omega (arith, e))
pairs_same (x ∷ xs) [] e h = absurd (omega (arith, e))
pairs_same (x ∷ xs) (y ∷ ys) e h =
    let first = h 0 x y refl refl in
    let more = pairs_same xs ys (omega (arith, e)) (λ i. h (suc i)) in
    λ i. first i ∷ more i

below_of : {A : Type 0} (xs : List A) (i : ℕ) (x : A) → slice_get xs i ≡ Some x → i < length xs
below_of [] i x e = absurd (cc e)
below_of (y ∷ ys) zero x e = omega arith
below_of (y ∷ ys) (suc i) x e = let h = below_of ys i x e in omega (arith, h)

judged_same : {A B : Type 0} (R Q : A → B → Type 0) (xs : List A) (vs ws : List B) → AreJudged R xs vs → AreJudged Q xs ws
    → ((i : ℕ) (x : A) (v w : B) → slice_get xs i ≡ Some x → R x v → Q x w → v ≡ w) → vs ≡ ws
judged_same R Q xs vs ws a b one = pairs_same vs ws (a.count ∙ sym b.count) (λ i v w e f.
    let n = below_of vs i v e in let count = a.count in
    let x = below_at xs i (omega (arith, n, count)) in
    one i x.0 v w x.1 (a.each i x.0 v x.1 e) (b.each i x.0 w x.1 f))

-- ---- the bodies of a call are told in one way

same_id : (d e : ColId) → d.0 ≡ e.0 → One d ≡ One e
same_id d e h = λ i. One (record { 0 = h i })

bodies_same : (F : Facts) (t : PointsTo) (c : CallInfo) (v w : Bodies) → MayRunThese F t c v → MayRunThese F t c w → v ≡ w
bodies_same F t c Zero Zero h k = refl
bodies_same F t c Zero (One e) h k = absurd (h e.0 k.0)
bodies_same F t c Zero Many h k = absurd (h k.0 k.2)
bodies_same F t c (One d) Zero h k = absurd (k d.0 h.0)
bodies_same F t c (One d) (One e) h k = same_id d e (k.1 d.0 h.0)
bodies_same F t c (One d) Many h k = absurd (k.4 (h.1 k.0 k.2 ∙ sym (h.1 k.1 k.3)))
bodies_same F t c Many Zero h k = absurd (k h.0 h.2)
bodies_same F t c Many (One e) h k = absurd (h.4 (k.1 h.0 h.2 ∙ sym (k.1 h.1 h.3)))
bodies_same F t c Many Many h k = refl

these_on : {F G : Facts} {t u : PointsTo} (c d : CallInfo) → ((b : ℕ) → MayRun F t c b → MayRun G u d b) → ((b : ℕ) → MayRun G u d b → MayRun F t c b)
    → (v : Bodies) → MayRunThese F t c v → MayRunThese G u d v
these_on c d f g Zero h = λ b r. h b (g b r)
these_on c d f g (One e) h = (f e.0 h.0, (λ b r. h.1 b (g b r)))
these_on c d f g Many h = (h.0, h.1, f h.0 h.2, f h.1 h.3, h.4)

call_range : (F : Facts) (i : ℕ) (x : Spot) → AreSpotsInRange F → slice_get (call_spots F) i ≡ Some x → x.at < length F.calls.items
call_range F i x range e =
    All-contains (λ (z : Spot). z.at < length F.calls.items) (call_spots F) x (calls_numbered F range) (contains_at (call_spots F) i x e)

-- the calls of both are as many, and those of one number are seen as one
module _ {F G : Facts} (s : AreSameFacts F G) where
  calls_count : length F.calls.items ≡ length G.calls.items
  calls_count = sym (length-map F.calls.items call_seen) ∙ ap length s.calls ∙ length-map G.calls.items call_seen

  seen_at : (n : ℕ) (c d : CallInfo) → slice_get F.calls.items n ≡ Some c → slice_get G.calls.items n ≡ Some d → call_seen c ≡ call_seen d
  seen_at n c d e f =
      same_Some (call_seen c) (call_seen d)
      (ap (option_map call_seen) (sym e) ∙ sym (slice_get-map call_seen F.calls.items n) ∙ ap (λ z. slice_get z n) s.calls
      ∙ slice_get-map call_seen G.calls.items n ∙ ap (option_map call_seen) f)

-- ---- two reports are one

module _ {F G : Facts} (s : AreSameFacts F G) (t u : PointsTo) (points : t.points.items ≡ u.points.items) (rows : t.rows.items ≡ u.rows.items) where
  casts_same : (r v : Sure) → IsSureReport F t r → IsSureReport G u v → r.casts.items ≡ v.casts.items
  casts_same r v a b =
      judged_same (λ (x : Spot) (w : Bool). (w ≡ true) ↔ AllPass F t (test_at F x.at)) (λ (x : Spot) (w : Bool). (w ≡ true) ↔ AllPass G u (test_at G x.at))
      (cast_spots G) r.casts.items v.casts.items
      (subst (λ z. AreJudged (λ (x : Spot) (w : Bool). (w ≡ true) ↔ AllPass F t (test_at F x.at)) (filter (λ (x : Spot). is_cast x.kind) z) r.casts.items)
      s.spots a.casts)
      b.casts
      (λ i x p q e h k. same_truth p q (λ z. k.1 (passes_on s t u points rows x.at (h.0 z)))
      (λ z. h.1 (passes_on (turned F G s) u t (sym points) (sym rows) x.at (k.0 z))))

  calls_same : (r v : Sure) → AreSpotsInRange G → IsSureReport F t r → IsSureReport G u v → r.calls.items ≡ v.calls.items
  calls_same r v range a b =
      judged_same (RunsThese F t) (RunsThese G u) (call_spots G) r.calls.items v.calls.items
      (subst (λ z. AreJudged (RunsThese F t) (filter (λ (x : Spot). is_call x.kind) z) r.calls.items) s.spots a.calls)
      b.calls
      (λ i x p q e h k.
      let low = call_range G i x range e in
      let d = below_at G.calls.items x.at low in
      let c = below_at F.calls.items x.at (subst (λ n. x.at < n) (sym (calls_count s)) low) in
      let alike = seen_at s x.at c.0 d.0 c.1 d.1 in
      bodies_same G u d.0 p q
      (these_on c.0 d.0 (run_on (turned F G s) u t (sym points) (sym rows) d.0 c.0 (sym alike)) (run_on s t u points rows c.0 d.0 alike) p (h c.0 c.1))
      (k d.0 d.1))

  dead_same : (r v : Sure) → IsSureReport F t r → IsSureReport G u v → r.dead.items ≡ v.dead.items
  dead_same r v a b =
      same_inside (λ (c : ColId). c.0) (λ n. record { 0 = n }) (λ c. refl) r.dead.items v.dead.items
      (same_listed (IsDead G u) (length G.columns.items) (map (λ (c : ColId). c.0) r.dead.items) (map (λ (c : ColId). c.0) v.dead.items)
      (ListsBelow-same (IsDead F t) (IsDead G u) (length G.columns.items) (map (λ (c : ColId). c.0) r.dead.items)
      (λ k lt. (dead_on s t u points rows k, dead_on (turned F G s) u t (sym points) (sym rows) k))
      (subst (λ z. ListsBelow (IsDead F t) (length z) (map (λ (c : ColId). c.0) r.dead.items)) s.columns a.dead)) b.dead)

-- ---- and so are their texts

module _ {F G : Facts} (s : AreSameFacts F G) where
  tested_is : (n : ℕ) → tested_name F n ≡ tested_name G n
  tested_is n =
      ap (λ (z : List TestInfo). option_map_or (λ (x : TestInfo). class_name F x.class.0) (slice_get z n) []) s.tests
      ∙ (λ i. option_map_or (λ (x : TestInfo). by_class s (λ (k : ClassFacts). encode_utf8_all k.name) [] x.class.0 i) (slice_get G.tests.items n) [])

  slot_name_is : (j : ℕ) → slot_name F j ≡ slot_name G j
  slot_name_is j =
      ap (λ (z : List ColumnInfo). option_map_or (λ (k : ColumnInfo). encode_utf8_all k.name)
      (option_and_then (λ c. slice_get z c) (position (λ (k : ColumnInfo). is_slot k.slot j) z)) []) s.columns

  called_is : (n : ℕ) → called_name F n ≡ called_name G n
  called_is n =
      or_seen call_seen (λ (c : PlainCall). slot_name F c.slot) [] F.calls.items n
      ∙ (λ i. option_map_or (λ (c : PlainCall). slot_name_is c.slot i) (slice_get (s.calls i) n) [])
      ∙ sym (or_seen call_seen (λ (c : PlainCall). slot_name G c.slot) [] G.calls.items n)

  label_is : (c : ℕ) → column_label F c ≡ column_label G c
  label_is c = ap (λ (z : List ColumnInfo). option_map_or (λ (k : ColumnInfo). encode_utf8_all k.label) (slice_get z c) []) s.columns

  lines_is : {A : Type 0} (f g : Spot → A → List ℕ) → ((x : Spot) (v : A) → f x v ≡ g x v) → (xs : List Spot) (vs : List A) → lines f xs vs ≡ lines g xs vs
  lines_is f g h [] vs = refl
  lines_is f g h (x ∷ xs) [] = refl
  lines_is f g h (x ∷ xs) (v ∷ vs) = λ i. h x v i ++ lines_is f g h xs vs i

  flat_is : {A : Type 0} (f g : A → List ℕ) → ((x : A) → f x ≡ g x) → (xs : List A) → flat_map f xs ≡ flat_map g xs
  flat_is f g h [] = refl
  flat_is f g h (x ∷ xs) = λ i. h x i ++ flat_is f g h xs i

  pub sure_text_is : (r v : Sure) → r.casts.items ≡ v.casts.items → r.calls.items ≡ v.calls.items → r.dead.items ≡ v.dead.items
      → sure_text F r ≡ sure_text G v
  sure_text_is r v casts calls dead =
      let told = lines_is (cast_line F) (cast_line G) (λ x b i. codes "cast " ++ (tested_is x.at i
      ++ (codes "@" ++ (decimal x.place.line ++ (codes " " ++ (sure_word b ++ codes "\n")))))) (cast_spots G) v.casts.items in
      let run = lines_is (call_line F) (call_line G) (λ x b i. codes "call " ++ (called_is x.at i
      ++ (codes "@" ++ (decimal x.place.line ++ (codes " " ++ (bodies_text b ++ codes "\n")))))) (call_spots G) v.calls.items in
      let left = flat_is (dead_line F) (dead_line G) (λ c i. codes "c" ++ (decimal c.0 ++ (codes " " ++ (label_is c.0 i ++ codes "\n")))) v.dead.items in
      (λ i. codes "casts " ++ (decimal (length (casts i)) ++ (codes "\n" ++ (lines (cast_line F) (filter (λ (x : Spot). is_cast x.kind) (s.spots i)) (casts i)
      ++ (codes "calls " ++ (decimal (length (calls i)) ++ (codes "\n" ++ (lines (call_line F) (filter (λ (x : Spot). is_call x.kind) (s.spots i)) (calls i)
      ++ (codes "dead " ++ (decimal (length (dead i)) ++ (codes "\n" ++ flat_map (dead_line F) (dead i))))))))))))
      ∙ (λ i. codes "casts " ++ (decimal (length v.casts.items) ++ (codes "\n" ++ (told i
      ++ (codes "calls " ++ (decimal (length v.calls.items) ++ (codes "\n" ++ (run i
      ++ (codes "dead " ++ (decimal (length v.dead.items) ++ (codes "\n" ++ left i)))))))))))

pub one_sure_text : {F G : Facts} → AreSameFacts F G → AreOneKind (SureOf F) (SureOf G)
one_sure_text {F} {G} s q n o p e f a b =
    let points = one_points s a.sets b.sets a.are_sets b.are_sets in
    let rows = one_set_rows s a.sets b.sets a.are_sets b.are_sets in
    given 0 0 (sure_text F a.report) (sure_text G b.report) [] [] refl
    (sure_text_is s a.report b.report (casts_same s a.sets b.sets points rows a.report b.report a.is b.is)
    (calls_same s a.sets b.sets points rows a.report b.report b.spots a.is b.is)
    (dead_same s a.sets b.sets points rows a.report b.report a.is b.is)) refl q n o p e f a.gives b.gives
