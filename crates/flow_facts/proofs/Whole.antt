-- What is said of the numbered rows, columns, sites, points and bodies of a program is what its facts say.
use Rattle.std.proofs.Common.{◌≡◌, ◌<◌, ◌≤◌, List, length, map, refl, sym, ap, ◌∙◌, subst, arith}
use Rattle.std.specs.List.{flat_map}
use Rattle.java_core.specs.Programs.{Plain}
use Rattle.fact_model.specs.declared.facts.RowInfo.{RowInfo}
use Rattle.fact_model.specs.declared.facts.ColumnInfo.{ColumnInfo}
use Rattle.fact_model.specs.declared.facts.SiteInfo.{SiteInfo}
use Rattle.fact_model.specs.declared.facts.BodyInfo.{BodyInfo}
use Rattle.fact_model.specs.declared.facts.TestInfo.{TestInfo}
use Rattle.fact_model.specs.declared.facts.CallInfo.{CallInfo}
use Rattle.kaba_base.specs.declared.RowId.{RowId}
use Rattle.flow_facts.specs.declared.stages.Numbered.{Numbered}
use Rattle.flow_rules.specs.Ordered.{by_place, each}
use Rattle.flow_rules.specs.Parts.{Part}
use Rattle.flow_rules.specs.Numbered as numbered
use Rattle.flow_rules.specs.Lists.{Numbers, calls_of, tests_of}
use Rattle.flow_rules.specs.declared.items.Mark.{Mark}
use Rattle.flow_rules.specs.Spots.{marks_of}
use Rattle.flow_rules.specs.Facts.{numbers, gathered, row_info, column_info, site_info, column_body, call_seen, IsSameSet, body_seen as plain_body}
use Rattle.flow_facts.specs.Views.{body_seen}
use Rattle.flow_facts.specs.Seen.{numbers_seen}
use Rattle.flow_facts.specs.Stages.{IsNumbered}
use Rattle.flow_facts.proofs.Along.{same_set}

module _ (P : Plain) (d : Numbered) (n : IsNumbered P d) where
  pub few_columns : length d.columns.items < 4294967295
  few_columns = let k : length d.columns.items ≤ 8192 = subst (λ l. length l ≤ 8192) (sym n.columns) n.few in omega (arith, k)

  pub few_sites : length d.sites.items < 4294967295
  few_sites = let k : length d.sites.items ≤ 8192 = subst (λ l. length l ≤ 8192) (sym n.sites) n.few_sites in omega (arith, k)

  pub rows_whole : (xs : List RowInfo) → xs ≡ map (row_info (numbers_seen d.numbering) P) d.rows.items
      → xs ≡ map (row_info (numbers P) P) (numbered.rows_of P)
  rows_whole xs e = e ∙ ap (λ N. map (row_info N P) d.rows.items) n.numbers ∙ ap (map (row_info (numbers P) P)) n.rows

  pub columns_whole : (xs : List ColumnInfo) → xs ≡ map (λ c. column_info P c.item) d.columns.items
      → xs ≡ map (λ c. column_info P c.item) (numbered.columns_of P)
  columns_whole xs e = e ∙ ap (map (λ c. column_info P c.item)) n.columns

  pub sites_whole : (xs : List SiteInfo) → xs ≡ map site_info d.sites.items → xs ≡ map site_info (numbered.sites_of P)
  sites_whole xs e = e ∙ ap (map site_info) n.sites

  pub points_whole : (xs : List RowId) → xs ≡ map (λ p. record { 0 = p.row }) d.points.items → xs ≡ map (λ p. record { 0 = p.row }) (numbered.points_of P)
  points_whole xs e = e ∙ ap (map (λ p. record { 0 = p.row })) n.points

  pub bodies_whole : (xs : List BodyInfo) → map plain_body xs ≡ each (λ c k. column_body (numbers_seen d.numbering) P c k.item) 0 d.columns.items
      → map plain_body xs ≡ each (λ c k. column_body (numbers P) P c k.item) 0 (numbered.columns_of P)
  bodies_whole xs e = e ∙ ap (λ N. each (λ c k. column_body N P c k.item) 0 d.columns.items) n.numbers
      ∙ ap (each (λ c k. column_body (numbers P) P c k.item) 0) n.columns

  -- what the parts of all bodies give
  pub gathered_whole : {A : Type 0} (f : Numbers → numbered.BodyParts → Part → List A) (xs : List A)
      → xs ≡ flat_map (λ b. flat_map (f (numbers_seen d.numbering) b) b.parts) (map body_seen d.bodies.items)
      → xs ≡ gathered P (f (numbers P))
  gathered_whole f xs e =
      e ∙ ap (λ N. flat_map (λ b. flat_map (f N b) b.parts) (map body_seen d.bodies.items)) n.numbers
      ∙ ap (flat_map (λ b. flat_map (f (numbers P) b) b.parts)) n.bodies

  pub set_whole : {A : Type 0} (f : Numbers → numbered.BodyParts → Part → List A) (xs : List A)
      → xs ≡ flat_map (λ b. flat_map (f (numbers_seen d.numbering) b) b.parts) (map body_seen d.bodies.items)
      → IsSameSet xs (gathered P (f (numbers P)))
  set_whole f xs e = same_set (gathered_whole f xs e)

  pub calls_whole : (ys : List CallInfo)
      → map call_seen ys ≡ map (λ c. c.item) (by_place (λ c. c.place.at) (flat_map (λ b. flat_map (calls_of (numbers_seen d.numbering)) b.parts)
      (map body_seen d.bodies.items)))
      → map call_seen ys ≡ map (λ c. c.item) (by_place (λ c. c.place.at) (gathered P (λ b. calls_of (numbers P))))
  calls_whole ys h = h ∙ ap (λ l. map (λ c. c.item) (by_place (λ c. c.place.at) l)) (gathered_whole (λ N b. calls_of N) _ refl)

  pub tests_whole : (ys : List TestInfo) → ys ≡ by_place (λ t. t.place.at) (flat_map (λ b. flat_map (tests_of (numbers_seen d.numbering)) b.parts)
      (map body_seen d.bodies.items))
      → ys ≡ by_place (λ t. t.place.at) (gathered P (λ b. tests_of (numbers P)))
  tests_whole ys h = h ∙ ap (by_place (λ t. t.place.at)) (gathered_whole (λ N b. tests_of N) _ refl)

  pub marks_whole : (ys : List Mark) → ys ≡ by_place (λ x. x.place.at) (flat_map (λ b. flat_map (marks_of P (numbers_seen d.numbering)) b.parts)
      (map body_seen d.bodies.items))
      → ys ≡ by_place (λ x. x.place.at) (gathered P (λ b. marks_of P (numbers P)))
  marks_whole ys h = h ∙ ap (by_place (λ x. x.place.at)) (gathered_whole (λ N b. marks_of P N) _ refl)
