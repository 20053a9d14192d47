-- What a name of the facts is fixed for: the names of the methods that make objects are those of sites.
use Rattle.std.proofs.Common.{◌≡◌, ℕ, zero, suc, List, [], ◌∷◌, ◌++◌, ap, ◌∙◌, subst, ⊎_elim, arith, Some, codes, decimal}
use Rattle.std.specs.Prelude.{Contains, slice_get, ◌==◌, ◌&&◌}
use Rattle.std.proofs.lemmas.List.Elements.{Contains-append_cases}
use Rattle.java_core.specs.Programs.{Plain, PlainClass}
use Rattle.fact_model.specs.declared.facts.Facts.{Facts}
use Rattle.fact_model.specs.declared.facts.MakeInfo.{MakeInfo}
use Rattle.flow_rules.specs.declared.items.Site.{Site}
use Rattle.flow_rules.specs.Ordered.{each}
use Rattle.flow_rules.specs.Numbered.{sites_of}
use Rattle.flow_rules.specs.Facts.{FixedFor, an_init, the_holder, the_local, a_make, FixedName, wished_inits, wished_makes, wished_behind, fixed_from, fixed_names, text_words, PlainMake, make_of, make_seen, IsFactsOf}
use Rattle.flow_rules.proofs.Listed.{first, more, one_from, flat_from, when_from, each_from_zero, map_has}
use Rattle.fact_model.specs.FreeNames.{free_name}
use Rattle.std.specs.Option.{is_some}
use Rattle.java_core.specs.Makers.{maker_of}

-- a name that is fixed was wished for the same
pub fixed_for : (taken : List (List ℕ)) (ws : List FixedName) (f : FixedName) → Contains (fixed_from taken ws) f → (w : FixedName) × Contains ws w
    × (w.for ≡ f.for)
fixed_for taken [] f c = absurd (omega (arith, c.1))
fixed_for taken (w ∷ ws) f (zero, lt, d) = (w, first w ws, ap (λ z. z.for) d)
fixed_for taken (w ∷ ws) f (suc i, lt, d) = let z = fixed_for (taken ++ free_name taken w.name ∷ []) ws f (i, omega (arith, lt), d) in
    (z.0, more z.0 w ws z.1, z.2)

behind : (ms : List FixedName) (w : FixedName) (i : ℕ) → Contains (wished_behind ms) w → w.for ≡ a_make i → Contains ms w
behind [] w i c e = c
behind (m ∷ ms) w i (zero, lt, d) e = absurd (let z = ap (λ y. y.for) d ∙ e in cc)
behind (m ∷ ms) w i (suc zero, lt, d) e = absurd (let z = ap (λ y. y.for) d ∙ e in cc)
behind (m ∷ ms) w i (suc (suc k), lt, d) e = (k, omega (arith, lt), d)

made_for : (a : FixedFor) (n : List ℕ) (y : PlainMake) → Contains (make_of (record { for = a; name = n })) y → a ≡ a_make y.site
made_for (a_make i) n y c = ap (λ z. a_make z.site) (one_from _ y c)
made_for (an_init k) n y c = absurd (omega (arith, c.1))
made_for the_holder n y c = absurd (omega (arith, c.1))
made_for the_local n y c = absurd (omega (arith, c.1))

not_init : (c i : ℕ) → an_init c ≡ a_make i → ⊥
not_init c i e = cc

same_site : (i j : ℕ) → a_make i ≡ a_make j → i ≡ j
same_site i j e = cc

module _ (P : Plain) where
  init_for : (n : ℕ) (k : PlainClass) (w : FixedName) → Contains (wished_inits P n k) w → an_init n ≡ w.for
  init_for n k w c =
      ap (λ x. x.for) (one_from (record { for = an_init n; name = codes "init_" ++ k.name }) w
      (when_from (is_some (maker_of P n)) (record { for = an_init n; name = codes "init_" ++ k.name } ∷ []) w c).1)

  make_for : (n : ℕ) (s : Site) (w : FixedName) → Contains (wished_makes P n s) w → a_make n ≡ w.for
  make_for n s w c =
      ap (λ x. x.for) (one_from (record { for = a_make n; name = codes "make_" ++ decimal n }) w
      (when_from ((s.ty.dim == 0) && is_some (maker_of P s.ty.class.0)) (record { for = a_make n; name = codes "make_" ++ decimal n } ∷ []) w c).1)

  -- what is wished for a site is wished for one of the program
  wished_site : (w : FixedName) (i : ℕ) → Contains (each (wished_inits P) 0 P.classes ++ wished_behind (each (wished_makes P) 0 (sites_of P))) w
      → w.for ≡ a_make i → (s : Site) × (slice_get (sites_of P) i ≡ Some s)
  wished_site w i c e = ⊎_elim (λ d. absurd (no_init d))
      (λ d. site_is (behind (each (wished_makes P) 0 (sites_of P)) w i d e))
      (Contains-append_cases (each (wished_inits P) 0 P.classes) (wished_behind (each (wished_makes P) 0 (sites_of P))) w c)
    where
      no_init : Contains (each (wished_inits P) 0 P.classes) w → ⊥
      no_init d =
          let z = each_from_zero (wished_inits P) P.classes w d in
          not_init z.0 i (init_for z.0 z.1 w z.3 ∙ e)

      site_is : Contains (each (wished_makes P) 0 (sites_of P)) w → (s : Site) × (slice_get (sites_of P) i ≡ Some s)
      site_is d =
          let z = each_from_zero (wished_makes P) (sites_of P) w d in (
            z.1,
            subst (λ n. slice_get (sites_of P) n ≡ Some z.1)
                (same_site z.0 i (make_for z.0 z.1 w z.3 ∙ e)) z.2,
          )

  -- a name of the facts that is a method's that makes objects is that of a site
  pub make_site : (F : Facts) → IsFactsOf P F → (x : MakeInfo) → Contains F.makes.items x → (s : Site) × (slice_get (sites_of P) x.site.0 ≡ Some s)
  make_site F facts x c =
      let z = flat_from make_of (fixed_names P) (make_seen x) (subst (λ l. Contains l (make_seen x)) facts.makes (map_has make_seen F.makes.items x c)) in
      let w = fixed_for (text_words P) _ z.0 z.1 in
      wished_site w.0 x.site.0 w.1 (w.2 ∙ made_for z.0.for z.0.name (make_seen x) z.2)
