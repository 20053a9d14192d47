-- Facts that are the same have the same points-to sets and the same table.
use Rattle.std.proofs.Common.{◌≡◌, inl, inr, ⊎_elim, ℕ, ◌<◌, Bool, true, List, [], ◌∷◌, length, Contains, Option, Some, None, sym, ap, ◌∙◌, subst}
use Rattle.kaba_bits.specs.Sets.{bit, row, HasWidth}
use Rattle.kaba_bits.proofs.RowLemmas.{same_rows}
use Rattle.kaba_base.specs.declared.ColId.{ColId}
use Rattle.kaba_derivations.proofs.Derivations.{derivable_by, derivable_least}
use Rattle.fact_model.specs.declared.facts.Facts.{Facts}
use Rattle.fact_model.specs.declared.facts.ColKind.TheVariants.{Is}
use Rattle.fact_model.specs.declared.facts.CellInfo.{CellInfo}
use Rattle.fact_model.specs.declared.facts.CallInfo.{CallInfo}
use Rattle.fact_model.specs.declared.facts.BodyInfo.{BodyInfo}
use Rattle.fact_model.specs.declared.sets.PointsTo.{PointsTo}
use Rattle.fact_model.specs.declared.sets.Table.{Table}
use Rattle.fact_model.specs.Items.{site_class, column_class, IsColumn}
use Rattle.fact_model.specs.Classes.{finds, IsBelow, IsStrictSubclass}
use Rattle.fact_model.specs.Flowing.{Fact, in_point, in_cell, IsCell, FitsStore, CallRuns, point_at, Inclusion, by_new, by_flow, by_load, by_store, by_this, by_argument, by_result, by_cast, Holds, IsInRow, by_point, by_cell, AreSets}
use Rattle.fact_model.specs.Entries.{Entry, Hides, Entails, by_access, by_need, by_declared, by_body, by_super, by_tie, by_site, by_hiding, by_test, by_array, IsEntry, IsTable}
use Rattle.fact_model.specs.Entries as rules
use Rattle.flow_rules.specs.Lists.{PlainCall}
use Rattle.flow_rules.specs.Facts.{PlainBody, call_seen, body_seen}
use Rattle.flow_program.specs.Same.{AreSameFacts}
use Rattle.kaba_top.proofs.SameLists.{same_truth, seen_in}
use Rattle.kaba_top.proofs.SameFacts.{turned, site_at_is, cell_at_is, point_row_is, site_class_is, site_row_is, row_this_is, column_class_is, kind_is, slot_is, finds_is, below_on, strictly_on}

module _ {F G : Facts} (s : AreSameFacts F G) where
  -- ---- inclusions

  cell_on : {c o : ℕ} {column : Option ColId} → IsCell F c o column → IsCell G c o column
  cell_on {c} h = record {
    below = subst (λ (z : List CellInfo). c < length z) s.cells h.below;
    site_is = sym (λ i. (cell_at_is s c i).site.0) ∙ h.site_is;
    column_is = sym (λ i. (cell_at_is s c i).column) ∙ h.column_is;
  }

  fits_on : (column : Option ColId) (n o : ℕ) → FitsStore F column n o → FitsStore G column n o
  fits_on None n o h = subst (λ z. IsBelow G z (site_class G o)) (site_class_is s n) (subst (λ z. IsBelow G (site_class F n) z)
      (site_class_is s o) (below_on s h))
  fits_on (Some c) n o h = tt

  -- a call and a body of one are seen as a call and a body of the other
  record Seen (call : CallInfo) (o : ℕ) (body : BodyInfo) : Type 0 where
    call_there : CallInfo
    body_there : BodyInfo
    call_is : call_seen call_there ≡ call_seen call
    body_is : body_seen body_there ≡ body_seen body
    runs : CallRuns G call_there o body_there

  seen : (call : CallInfo) (o : ℕ) (body : BodyInfo) → CallRuns F call o body → Seen call o body
  seen call o body r =
      let c = seen_in call_seen F.calls.items G.calls.items s.calls call r.called in
      let b = seen_in body_seen F.bodies.items G.bodies.items s.bodies body r.listed in
      record {
        call_there = c.0;
        body_there = b.0;
        call_is = c.2;
        body_is = b.2;
        runs = record {
          called = c.1;
          listed = b.1;
          found = ap (λ (z : PlainCall). finds G (site_class G o) z.slot) c.2
              ∙ sym (ap (λ z. finds F z call.slot) (site_class_is s o) ∙ finds_is s (site_class G o) call.slot)
              ∙ r.found ∙ ap (λ (z : PlainBody). Some z.column) (sym b.2);
        };
      }

  inclusion_on : {ps : List Fact} {f : Fact} → Inclusion F ps f → Inclusion G ps f
  inclusion_on (by_new x c) = by_new x ((s.news x).0 c)
  inclusion_on (by_flow x n c) = by_flow x n ((s.flows x).0 c)
  inclusion_on (by_load x c o n h k) = by_load x c o n ((s.loads x).0 h) (cell_on k)
  inclusion_on (by_store x c o n h k f) = by_store x c o n ((s.stores x).0 h) (cell_on k) (fits_on x.column n o f)
  inclusion_on (by_this call o body r) =
      let h = seen call o body r in
      subst (λ (z : PlainCall). Inclusion G (in_point z.receiver o ∷ []) (in_point body.this o)) h.call_is
      (subst (λ (z : PlainBody). Inclusion G (in_point h.call_there.receiver o ∷ []) (in_point z.this o)) h.body_is
      (by_this h.call_there o h.body_there h.runs))
  inclusion_on (by_argument call o body k from to n r a b) =
      let h = seen call o body r in
      subst (λ (z : PlainCall). Inclusion G (in_point z.receiver o ∷ in_point from n ∷ []) (in_point to n)) h.call_is
      (by_argument h.call_there o h.body_there k from to n h.runs (ap (λ (z : PlainCall). point_at z.args k) h.call_is ∙ a)
      (ap (λ (z : PlainBody). point_at z.params k) h.body_is ∙ b))
  inclusion_on (by_result call o body from to n r a b) =
      let h = seen call o body r in
      subst (λ (z : PlainCall). Inclusion G (in_point z.receiver o ∷ in_point from n ∷ []) (in_point to n)) h.call_is
      (by_result h.call_there o h.body_there from to n h.runs (ap (λ (z : PlainBody). z.result) h.body_is ∙ a)
      (ap (λ (z : PlainCall). z.result) h.call_is ∙ b))
  inclusion_on (by_cast x n c b) = by_cast x n ((s.casts x).0 c) (subst (λ z. IsBelow G z x.class.0) (site_class_is s n) (below_on s b))

  holds_on : (f : Fact) → Holds F f → Holds G f
  holds_on f h = derivable_least (Inclusion F) (Holds G) (λ ps a r all. derivable_by (Inclusion G) ps a (inclusion_on r) all) f h

  in_row_on : {r n : ℕ} → IsInRow F r n → IsInRow G r n
  in_row_on (by_point p n lt h) =
      subst (λ z. IsInRow G z n) (sym (point_row_is s p)) (by_point p n (subst (λ z. p < length z) s.points lt) (holds_on (in_point p n) h))
  in_row_on (by_cell c n lt h) =
      subst (λ (z : CellInfo). IsInRow G z.row.0 n) (sym (cell_at_is s c))
      (by_cell c n (subst (λ (z : List CellInfo). c < length z) s.cells lt) (holds_on (in_cell c n) h))

  -- ---- rules of the table

  column_on : {class c : ℕ} → IsColumn F Is class c → IsColumn G Is class c
  column_on {c = c} h = record {
    below = subst (λ z. c < length z) s.columns h.below;
    kind_is = sym (kind_is s c) ∙ h.kind_is;
    class_is = sym (column_class_is s c) ∙ h.class_is;
  }

  hides_on : (d c : ℕ) → Hides F d c → Hides G d c
  hides_on d c h = record {
    method = ⊎_elim (λ e. inl (sym (kind_is s d) ∙ e)) (λ e. inr (sym (kind_is s d) ∙ e)) h.method;
    kind = sym (kind_is s d) ∙ h.kind ∙ kind_is s c;
    slot = sym (slot_is s d) ∙ h.slot ∙ slot_is s c;
    class = subst (λ z. IsStrictSubclass G z (column_class G c)) (column_class_is s d)
        (subst (λ z. IsStrictSubclass G (column_class F d) z) (column_class_is s c) (strictly_on s h.class));
  }

  entails_on : {ps : List Entry} {e : Entry} → Entails F ps e → Entails G ps e
  entails_on (by_access x c) = by_access x ((s.accesses x).0 c)
  entails_on (by_need call o d c h f) =
      let k = seen_in call_seen F.calls.items G.calls.items s.calls call c in
      subst (λ z. Entails G [] (z, d)) (sym (site_row_is s o))
      (by_need k.0 o d k.1 (subst (λ (z : PlainCall). Holds G (in_point z.receiver o)) (sym k.2) (holds_on (in_point call.receiver o) h))
      (ap (λ (z : PlainCall). finds G (site_class G o) z.slot) k.2
      ∙ sym (ap (λ z. finds F z call.slot) (site_class_is s o) ∙ finds_is s (site_class G o) call.slot) ∙ f))
  entails_on (rules.by_this v d e) = rules.by_this v d (sym (row_this_is s v) ∙ e)
  entails_on (by_declared r d c lt q) = by_declared r d c (subst (λ z. c < length z) s.columns lt) (record {
    body = sym (kind_is s d) ∙ q.body;
    declaration = sym (kind_is s c) ∙ q.declaration;
    class = sym (column_class_is s d) ∙ q.class ∙ column_class_is s c;
    slot = sym (slot_is s d) ∙ q.slot ∙ slot_is s c;
  })
  entails_on (by_body r v c d e) = by_body r v c d (sym (row_this_is s v) ∙ e)
  entails_on (by_super x c) = by_super x ((s.supers x).0 c)
  entails_on (by_tie x c k) = by_tie x c ((s.ties x).0 k)
  entails_on (by_site v o c h) = subst (λ z. Entails G ((v, c) ∷ []) (z, c)) (sym (site_row_is s o)) (by_site v o c (in_row_on h))
  entails_on (by_hiding q r d c h) = by_hiding q r d c (hides_on d c h)
  entails_on (by_test x c k h) = by_test x c (subst (λ z. Contains z x) s.tests k) (column_on h)
  entails_on (by_array n c lt dim h) =
      subst (λ z. Entails G [] (z, c)) (sym (site_row_is s n))
      (by_array n c (subst (λ z. n < length z) s.sites lt) (subst (λ z. 0 < z.dim) (site_at_is s n) dim)
      (subst (λ z. IsColumn G Is z c) (site_class_is s n) (column_on h)))

  pub entry_on : (r c : ℕ) → IsEntry F r c → IsEntry G r c
  entry_on r c h = derivable_least (Entails F) (λ e. IsEntry G e.0 e.1) (λ ps a q all. derivable_by (Entails G) ps a (entails_on q) all) (r, c) h

-- families of one size whose sets have the same numbers are one
one_family : (n w : ℕ) (a b : List (List Bool)) → length a ≡ n → length b ≡ n → HasWidth w a → HasWidth w b
    → ((k i : ℕ) → bit (row a k) i ≡ true → bit (row b k) i ≡ true) → ((k i : ℕ) → bit (row b k) i ≡ true → bit (row a k) i ≡ true) → a ≡ b
one_family n w a b p q u v f g = same_rows w a b (p ∙ sym q) u v (λ k i. same_truth (bit (row a k) i) (bit (row b k) i) (f k i) (g k i))

-- ---- the sets and the table are one

module _ {F G : Facts} (s : AreSameFacts F G) where
  pub one_points : (t u : PointsTo) → AreSets F t → AreSets G u → t.points.items ≡ u.points.items
  one_points t u a b =
      one_family (length G.points.items) (length G.sites.items) t.points.items u.points.items (a.point_count ∙ ap length s.points) b.point_count
      (subst (λ z. HasWidth (length z) t.points.items) s.sites a.point_widths) b.point_widths
      (λ k i e. (b.points k i).1 (holds_on s (in_point k i) ((a.points k i).0 e)))
      (λ k i e. (a.points k i).1 (holds_on (turned F G s) (in_point k i) ((b.points k i).0 e)))

  pub one_set_rows : (t u : PointsTo) → AreSets F t → AreSets G u → t.rows.items ≡ u.rows.items
  one_set_rows t u a b =
      one_family (length G.rows.items) (length G.sites.items) t.rows.items u.rows.items (a.row_count ∙ ap length s.rows) b.row_count
      (subst (λ z. HasWidth (length z) t.rows.items) s.sites a.row_widths) b.row_widths
      (λ k i e. (b.rows k i).1 (in_row_on s ((a.rows k i).0 e)))
      (λ k i e. (a.rows k i).1 (in_row_on (turned F G s) ((b.rows k i).0 e)))

  pub one_width : (t u : Table) → IsTable F t → IsTable G u → t.width ≡ u.width
  one_width t u a b = a.sized.columns ∙ ap length s.columns ∙ sym b.sized.columns

  pub one_table : (t u : Table) → IsTable F t → IsTable G u → t.rows.items ≡ u.rows.items
  one_table t u a b =
      one_family (length G.rows.items) u.width t.rows.items u.rows.items (a.sized.rows ∙ ap length s.rows) b.sized.rows
      (subst (λ z. HasWidth z t.rows.items) (one_width t u a b) a.sized.widths) b.sized.widths
      (λ r c e. (b.entries r c).1 (entry_on s r c ((a.entries r c).0 e)))
      (λ r c e. (a.entries r c).1 (entry_on (turned F G s) r c ((b.entries r c).0 e)))
