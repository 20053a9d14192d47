-- A cast of an object and a call through a receiver have their spots in the facts.
use Rattle.std.proofs.Common.{◌≡◌, ℕ, List, [], ◌∷◌, Option, Some, None, refl, sym, ap, ◌∙◌, subst, ⊎_elim}
use Rattle.std.specs.Prelude.{◌==◌, ◌&&◌, cond, Bool, true, false, filter, Contains, slice_get}
use Rattle.std.specs.Option.{option_map_or}
use Rattle.std.specs.List.{list_any}
use Rattle.std.proofs.lemmas.Bool.{false≢true, eqb-true, and_parts, or_cases}
use Rattle.kaba_base.proofs.ListLemmas.{contains_cases}
use Rattle.kaba_base.specs.declared.Place.{Place}
use Rattle.java_core.specs.declared.Ty.{Ty}
use Rattle.java_core.specs.Trees.{Tag, Ex, Exs, call, cast}
use Rattle.java_core.specs.Programs.{Plain}
use Rattle.java_core.specs.Types.{class_type, class_in}
use Rattle.java_meaning.specs.Meaning.{is_number_type}
use Rattle.fact_model.specs.declared.facts.Facts.{Facts}
use Rattle.fact_model.specs.declared.facts.CallInfo.{CallInfo}
use Rattle.fact_model.specs.declared.facts.Spot.{Spot}
use Rattle.flow_rules.specs.Lists.{point_at}
use Rattle.flow_rules.specs.Facts.{numbers, is_marked}
use Rattle.flow_rules.proofs.Listed.{first, more, at_contains}
use Rattle.flow_laws.specs.cover.Covers.{operand_at}
use Rattle.sure_report.specs.Report.{is_cast, is_call, cast_spots, call_spots, test_at}
use Rattle.sure_laws.specs.Laws.{called_slot, cast_of, call_of, spot_of_cast, spot_of_call, HasCastSpot, HasCallSpot}
use Rattle.sure_laws.proofs.Families.{same_place, is_cast_spot, is_call_spot, cast_there, call_there}
use Rattle.sure_laws.proofs.Shapes.{class_base}

spot_found : (p : Spot → Bool) (xs : List Spot) → list_any p xs ≡ true → (x : Spot) × Contains xs x × (p x ≡ true)
spot_found p [] h = absurd (false≢true h)
spot_found p (y ∷ ys) h =
    ⊎_elim (λ e. (y, first y ys, e)) (λ e. let z = spot_found p ys e in (z.0, more z.0 y ys z.1, z.2)) (or_cases (p y) (list_any p ys) h)

kept : (b : Bool) (y : Spot) (ys : List Spot) (x : Spot) → Contains ys x → Contains (cond b (y ∷ ys) ys) x
kept true y ys x c = more x y ys c
kept false y ys x c = c

filter_has : (p : Spot → Bool) (xs : List Spot) (x : Spot) → Contains xs x → p x ≡ true → Contains (filter p xs) x
filter_has p [] x c h = c
filter_has p (y ∷ ys) x c h = ⊎_elim
    (λ e. subst (λ b. Contains (cond b (y ∷ filter p ys) (filter p ys)) x) (sym (ap p e ∙ h)) (subst (λ z. Contains (y ∷ filter p ys) z) e
    (first y (filter p ys))))
    (λ d. kept (p y) y (filter p ys) x (filter_has p ys x d h)) (contains_cases y ys x c)

place_eq : (p q : Place) → same_place p q ≡ true → p ≡ q
place_eq p q h =
    let z = and_parts (p.at == q.at) (p.line == q.line) h in
    ap (λ a. record { at = a; line = p.line }) (eqb-true p.at q.at z.0) ∙ ap (λ l. record { at = q.at; line = l }) (eqb-true p.line q.line z.1)

mapped : {A : Type 0} (f : A → Bool) (o : Option A) → option_map_or f o false ≡ true → (x : A) × (o ≡ Some x) × (f x ≡ true)
mapped f None h = absurd (false≢true h)
mapped f (Some x) h = (x, refl, h)

there_at : {A : Type 0} (f : A → Bool) (o : Option A) (x : A) → o ≡ Some x → option_map_or f o true ≡ true → f x ≡ true
there_at f o x e h = subst (λ z. option_map_or f z true ≡ true) e h

module _ (P : Plain) (F : Facts) where
  pub own_cast : (m : ℕ) (t : Tag) (n : ℕ) (u : Ty) (e : Ex) (q : ℕ) → is_number_type u.base u.dim ≡ false → cast_there P F m (cast t n u e) ≡ true
      → point_at (numbers P) (operand_at P m e) ≡ Some q → HasCastSpot P F m (cast t n u e)
  own_cast m t n u e q r h eq = ⊎_elim (λ d. absurd (false≢true (sym r ∙ d))) there (or_cases (is_number_type u.base u.dim) _ h)
    where
      there : option_map_or (λ c. option_map_or (λ q. list_any (is_cast_spot P F t.place q c) F.spots.items) (point_at (numbers P) (operand_at P m e)) true)
          (class_in u.base u.dim) false ≡ true → HasCastSpot P F m (cast t n u e)
      there h =
          let c = mapped (λ c. option_map_or (λ q. list_any (is_cast_spot P F t.place q c) F.spots.items) (point_at (numbers P) (operand_at P m e)) true)
          (class_in u.base u.dim) h in
          let x = spot_found (is_cast_spot P F t.place q c.0) F.spots.items
          (there_at (λ q. list_any (is_cast_spot P F t.place q c.0) F.spots.items) (point_at (numbers P) (operand_at P m e)) q eq c.2) in
          let k = and_parts (is_cast x.0.kind) _ x.2 in
          let p = and_parts (same_place x.0.place t.place) _ k.1 in
          let w = and_parts ((test_at F x.0.at).from == q) ((test_at F x.0.at).class.0 == c.0) p.1 in
          let i = at_contains (cast_spots F) x.0 (filter_has (λ x. is_cast x.kind) F.spots.items x.0 x.1 k.0) in
          record {
            number = i.0;
            spot = x.0;
            listed = i.1;
            own = spot_of_cast (place_eq x.0.place t.place p.0) (cast_of (eq ∙ ap (λ z. Some z) (sym (eqb-true (test_at F x.0.at).from q w.0)))
                (class_base u.base u.dim c.0 c.1 ∙ ap (λ z. class_type z) (sym (eqb-true (test_at F x.0.at).class.0 c.0 w.1))));
          }

  pub own_call : (m : ℕ) (t : Tag) (e : Ex) (y : List ℕ) (es : Exs) (q : ℕ) → is_marked y ≡ false → call_there P F m (call t e y es) ≡ true
      → point_at (numbers P) (operand_at P m e) ≡ Some q → HasCallSpot P F m (call t e y es)
  own_call m t e y es q r h eq = ⊎_elim (λ d. absurd (false≢true (sym r ∙ d))) there (or_cases (is_marked y) _ h)
    where
      there : option_map_or (λ j. option_map_or (λ q. list_any (is_call_spot P F t.place q j) F.spots.items) (point_at (numbers P) (operand_at P m e)) true)
          (called_slot P m e y) false ≡ true → HasCallSpot P F m (call t e y es)
      there h =
          let j = mapped (λ j. option_map_or (λ q. list_any (is_call_spot P F t.place q j) F.spots.items) (point_at (numbers P) (operand_at P m e)) true)
          (called_slot P m e y) h in
          let x = spot_found (is_call_spot P F t.place q j.0) F.spots.items
          (there_at (λ q. list_any (is_call_spot P F t.place q j.0) F.spots.items) (point_at (numbers P) (operand_at P m e)) q eq j.2) in
          let k = and_parts (is_call x.0.kind) _ x.2 in
          let p = and_parts (same_place x.0.place t.place) _ k.1 in
          let c = mapped (λ (c : CallInfo). (c.receiver == q) && (c.slot == j.0)) (slice_get F.calls.items x.0.at) p.1 in
          let w = and_parts (c.0.receiver == q) (c.0.slot == j.0) c.2 in
          let i = at_contains (call_spots F) x.0 (filter_has (λ x. is_call x.kind) F.spots.items x.0 x.1 k.0) in
          record {
            number = i.0;
            spot = x.0;
            listed = i.1;
            call = c.0;
            own = spot_of_call (place_eq x.0.place t.place p.0) c.1 (call_of (eq ∙ ap (λ z. Some z) (sym (eqb-true c.0.receiver q w.0)))
                (j.1 ∙ ap (λ z. Some z) (sym (eqb-true c.0.slot j.0 w.1))));
          }
