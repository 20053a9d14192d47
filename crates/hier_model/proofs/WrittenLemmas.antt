-- Lists in which items were written back.
use Rattle.std.proofs.Common.{◌≡◌, ⊎_elim, ℕ, zero, suc, ◌<◌, ◌≤◌, Bool, true, false, List, [], ◌∷◌, ◌++◌, length, get_or, set, All, Some, refl, sym, ap, ◌∙◌, subst, arith}
use Rattle.std.specs.List.{flat_map}
use Rattle.std.proofs.lemmas.Bool.{cases_Bool, cases_eq, false≢true}
use Rattle.std.proofs.lemmas.List.{ext_get_or, get_or-set_same, get_or-set_other, length-set}
use Rattle.std.proofs.lemmas.List.Concat.{flat_map-append}
use Rattle.std.proofs.lemmas.List.Elements.{All-pop}
use Rattle.hier_model.specs.Hierarchies.{Hierarchy}
use Rattle.kaba_order.proofs.WrittenLemmas.{written-append, length-written}
use Rattle.kaba_order.specs.Written.{written}
use Rattle.hier_model.specs.Restored.{column_write, row_write, type_write, member_write, origin_write, restored, FitsIn}
use Rattle.hier_model.specs.declared.differences.Change.{Change}
use Rattle.hier_model.specs.declared.differences.Change.TheVariants.{Node, Pair, Column, Row, TypeName, MemberName, Origin}

-- a change more, which is put back first
more_written : {X : Type 0} (w : Change → List (ℕ × X)) (xs : List X) (cs : List Change) (c : Change)
    → written xs (flat_map w (cs ++ c ∷ [])) ≡ written (written xs (flat_map w (c ∷ []))) (flat_map w cs)
more_written w xs cs c = ap (written xs) (flat_map-append w cs (c ∷ [])) ∙ written-append xs (flat_map w cs) (flat_map w (c ∷ []))

pub restored_more : (H : Hierarchy) (cs : List Change) (c : Change) → restored H (cs ++ c ∷ []) ≡ restored (restored H (c ∷ [])) cs
restored_more H cs c =
    rw (
      more_written column_write H.columns cs c,
      more_written row_write H.rows cs c,
      more_written type_write H.types cs c,
      more_written member_write H.members cs c,
      more_written origin_write H.origins cs c,
    ) refl

-- as much fits in as before
pub fits_kept : (H : Hierarchy) (cs : List Change) (d : Change) → FitsIn H d → FitsIn (restored H cs) d
fits_kept H cs (Node n name origin) f =
    (omega (arith, f.0, length-written H.types (flat_map type_write cs)), omega (arith, f.1, length-written H.origins (flat_map origin_write cs)))
fits_kept H cs (Pair a b was) f = tt
fits_kept H cs (Column c p) f = omega (arith, f, length-written H.columns (flat_map column_write cs))
fits_kept H cs (Row r p) f = omega (arith, f, length-written H.rows (flat_map row_write cs))
fits_kept H cs (TypeName n name) f = omega (arith, f, length-written H.types (flat_map type_write cs))
fits_kept H cs (MemberName c name) f = omega (arith, f, length-written H.members (flat_map member_write cs))
fits_kept H cs (Origin n origin) f = omega (arith, f, length-written H.origins (flat_map origin_write cs))

-- the last of some changes, put back
module _ (now next : Hierarchy) (before after : List Change) (c : Change) (is : before ≡ after ++ c ∷ []) where
  pub restored_step : (all : Hierarchy) → restored now before ≡ all → next ≡ restored now (c ∷ []) → restored next after ≡ all
  restored_step all e n = ap (λ h. restored h after) n ∙ (sym (restored_more now after c) ∙ (ap (restored now) (sym is) ∙ e))

  split : All (FitsIn now) before → All (FitsIn now) after × FitsIn now c
  split all = All-pop (FitsIn now) before after (Some c) is all

  pub fits_last : All (FitsIn now) before → FitsIn now c
  fits_last all = (split all).1

  pub fits_step : All (FitsIn now) before → next ≡ restored now (c ∷ []) → All (FitsIn next) after
  fits_step all n i d lt = subst (λ h. FitsIn h (get_or after i d)) (sym n) (fits_kept now (c ∷ []) (get_or after i d) ((split all).0 i d lt))
