-- The holders stand in the order of the program, and so the first `main` stays the first.
use Rattle.std.proofs.Common.{◌≡◌, ℕ, zero, suc, ◌+◌, ◌<◌, Bool, true, false, List, [], ◌∷◌, ◌++◌, Option, Some, None, refl, sym, ap, ◌∙◌, subst, arith, ⊎_elim}
use Rattle.std.specs.Prelude.{length, slice_get}
use Rattle.std.proofs.lemmas.Bool.{cases_Bool, cases_order}
use Rattle.std.proofs.lemmas.Option.{same_Some}
use Rattle.java_core.specs.declared.Ty.{Ty}
use Rattle.java_core.specs.declared.TyBase.{TyBase}
use Rattle.java_core.specs.declared.TyBase.TheVariants.{Int, Boolean, Char, Str, Class}
use Rattle.java_core.specs.Programs.{Plain, PlainClass, PlainLocal, PlainMethod}
use Rattle.java_core.specs.Types.{types_of}
use Rattle.java_core.specs.Formed.{IsMain}
use Rattle.java_tree.specs.Syntax.{DeclTree}
use Rattle.fact_model.specs.declared.facts.Facts.{Facts}
use Rattle.fact_model.specs.declared.sets.PointsTo.{PointsTo}
use Rattle.hier_model.specs.Hierarchies.{Hierarchy}
use Rattle.flow_rules.specs.Operands.{variable_row}
use Rattle.flow_rules.specs.Ordered.{each, when}
use Rattle.flow_rules.specs.Facts.{is_holder}
use Rattle.flow_rules.proofs.Listed.{first, at_contains, at_left, each_has, when_has}
use Rattle.rebuild_model.specs.Renaming.{reclassed, retyped, retyped_if, renaming_of}
use Rattle.rebuild_model.specs.Matches.{IsStaticMethod}
use Rattle.rebuild_model.specs.Members.{new_types}
use Rattle.write_laws.proofs.rebuilds.Nodes.{tree, old_tree, nodes, holders, makers, tree_is, holder_number}
use Rattle.write_laws.proofs.rebuilds.Apart.{holder_class}
use Rattle.write_laws.proofs.rebuilds.Given.{Given, T, R}
use Rattle.write_laws.proofs.rebuilds.Resolved.{BodiesMatch}
use Rattle.write_laws.proofs.rebuilds.Origins.{IsOldStatic, static_method, each_static_method}
use Rattle.rebuild_laws.proofs.looks.Fields.{method_holder}

get_right : {A : Type 0} (xs ys : List A) (i j : ℕ) → j ≡ length xs + i → slice_get (xs ++ ys) j ≡ slice_get ys i
get_right [] ys i j e = ap (slice_get ys) (omega (arith, e))
get_right (x ∷ xs) ys i zero e = absurd (omega (arith, e))
get_right (x ∷ xs) ys i (suc j) e = get_right xs ys i j (omega (arith, e))

-- two places of a list, the one before the other
pub record AreInTurn {A : Type 0} (xs : List A) (x y : A) : Type 0 where
  pub lower : ℕ
  pub upper : ℕ
  pub at_lower : slice_get xs lower ≡ Some x
  pub at_upper : slice_get xs upper ≡ Some y
  pub turn : lower < upper

after : {A : Type 0} (w : A) (xs : List A) (x y : A) → AreInTurn xs x y → AreInTurn (w ∷ xs) x y
after w xs x y t = let lt = t.turn in record {
  lower = suc t.lower;
  upper = suc t.upper;
  at_lower = t.at_lower;
  at_upper = t.at_upper;
  turn = omega
      (arith, lt);
}

-- what is picked stands in the old order
module _ {A B : Type 0} (p : ℕ → Bool) (f : ℕ → A → B) where
  abbrev picks : ℕ → List A → List B
  picks n xs = each (λ i x. when (p i) (f i x ∷ [])) n xs

  picked : (n : ℕ) (z : A) (xs : List A) → p n ≡ true → picks n (z ∷ xs) ≡ f n z ∷ picks (n + 1) xs
  picked n z xs h = ap (λ b. when b (f n z ∷ []) ++ picks (n + 1) xs) h

  passed : (n : ℕ) (z : A) (xs : List A) → p n ≡ false → picks n (z ∷ xs) ≡ picks (n + 1) xs
  passed n z xs h = ap (λ b. when b (f n z ∷ []) ++ picks (n + 1) xs) h

  in_turn : (n : ℕ) (xs : List A) (i j k l : ℕ) (x y : A) → slice_get xs i ≡ Some x → slice_get xs j ≡ Some y → i < j → k ≡ n + i → l ≡ n + j → p k ≡ true
      → p l ≡ true
      → AreInTurn (picks n xs) (f k x) (f l y)
  in_turn n [] i j k l x y e d lt a b h q = absurd (cc e)
  in_turn n (z ∷ xs) zero zero k l x y e d lt a b h q = absurd (omega (arith, lt))
  in_turn n (z ∷ xs) zero (suc j) k l x y e d lt a b h q =
      let here : k ≡ n = omega (arith, a) in
      let c = at_contains (picks (n + 1) xs) (f l y) (each_has (λ i x. when (p i) (f i x ∷ [])) (n + 1) xs j y (f l y) d l (omega (arith, b))
      (when_has (p l) (f l y ∷ []) (f l y) q (first (f l y) []))) in
      subst (λ w. AreInTurn w (f k x) (f l y)) (sym (picked n z xs (ap p (sym here) ∙ h)))
      (record {
        lower = 0;
        upper = suc c.0;
        at_lower = ap (λ w. Some (f n w)) (same_Some z x e)
            ∙ ap (λ w. Some (f w x)) (sym here);
        at_upper = c.1;
        turn = omega arith;
      })
  in_turn n (z ∷ xs) (suc i) zero k l x y e d lt a b h q = absurd (omega (arith, lt))
  in_turn n (z ∷ xs) (suc i) (suc j) k l x y e d lt a b h q =
      let t = in_turn (n + 1) xs i j k l x y e d (omega (arith, lt)) (omega (arith, a)) (omega (arith, b)) h q in
      ⊎_elim
      (λ u. subst (λ w. AreInTurn w (f k x) (f l y)) (sym (picked n z xs u)) (after (f n z) (picks (n + 1) xs) (f k x) (f l y) t))
      (λ u. subst (λ w. AreInTurn w (f k x) (f l y)) (sym (passed n z xs u)) t)
      (cases_Bool (p n))

-- ---- the parameters of a `main`

strings : Ty
strings = record { base = Str; dim = 1 }

retyped_strings : (o : Option ℕ) → retyped o strings ≡ strings
unfolding strings
retyped_strings None = refl
retyped_strings (Some k) = refl

base_strings : (o : Option ℕ) (b : TyBase) → reclassed o b ≡ Str → b ≡ Str
base_strings None b e = e
base_strings (Some k) Int e = e
base_strings (Some k) Boolean e = e
base_strings (Some k) Char e = e
base_strings (Some k) Str e = e
base_strings (Some k) (Class c) e = absurd (cc e)

from_strings : (o : Option ℕ) (t : Ty) → retyped o t ≡ strings → t ≡ strings
unfolding strings
from_strings o t e = ap (λ (b : TyBase). record { base = b; dim = t.dim }) (base_strings o t.base (ap (λ (z : Ty). z.base) e))
    ∙ ap (λ (d : ℕ). record { base = Str; dim = d }) (ap (λ (z : Ty). z.dim) e)

module _ {P : Plain} {F : Facts} {pt : PointsTo} {H : Hierarchy} {V : Plain} (G : Given P F pt H V) (match : BodiesMatch G) where
  holders_turn : (c d : ℕ) (k h : PlainClass) → slice_get P.classes c ≡ Some k → slice_get P.classes d ≡ Some h → c < d → is_holder P c ≡ true
      → is_holder P d ≡ true
      → AreInTurn (holders P F H) (old_tree P F H c k) (old_tree P F H d h)
  holders_turn c d k h e q lt a b = in_turn (is_holder P) (old_tree P F H) 0 P.classes c d c d k h e q lt (omega arith) (omega arith) a b

  in_tree : (i : ℕ) (d : DeclTree) → slice_get (holders P F H) i ≡ Some d → slice_get (tree P F H) (length (nodes P F H) + i) ≡ Some d
  in_tree i d e = ap (λ w. slice_get w (length (nodes P F H) + i)) (tree_is P F H)
      ∙ get_right (nodes P F H) (holders P F H ++ makers P F H) i (length (nodes P F H) + i) refl ∙ at_left (holders P F H) (makers P F H) i d e

  pub holder_order : (c d : ℕ) → is_holder P c ≡ true → is_holder P d ≡ true → c < d → (T G).holder_of c < (T G).holder_of d
  holder_order c d a b lt =
      let k = holder_class P G.formed c a in
      let h = holder_class P G.formed d b in
      let t = holders_turn c d k.0 h.0 k.1 h.1 lt a b in
      let x = holder_number P F H V G.resolves G.new c (length (nodes P F H) + t.lower) k.0 k.1 (in_tree t.lower (old_tree P F H c k.0) t.at_lower) in
      let y = holder_number P F H V G.resolves G.new d (length (nodes P F H) + t.upper) h.0 h.1 (in_tree t.upper (old_tree P F H d h.0) t.at_upper) in
      let turn = t.turn in
      omega (arith, x, y, turn)

  main_params : (m : ℕ) (k : PlainMethod) (vs : List PlainLocal) → types_of vs ≡ strings ∷ [] → new_types (R G) m k 0 vs ≡ strings ∷ []
  main_params m k [] e = absurd (cc e)
  main_params m k (v ∷ []) e =
      let o = (R G).row_type (variable_row m k 0) in
      let same : v.ty ≡ strings = head_same e in
      ap (λ t. retyped o t ∷ []) same ∙ ap (λ t. t ∷ []) (retyped_strings o)
    where
      head_same : v.ty ∷ [] ≡ strings ∷ [] → v.ty ≡ strings
      head_same e = cc e
  main_params m k (v ∷ w ∷ vs) e = absurd (cc e)

  old_params : (m : ℕ) (k : PlainMethod) (vs : List PlainLocal) → new_types (R G) m k 0 vs ≡ strings ∷ [] → types_of vs ≡ strings ∷ []
  old_params m k [] e = absurd (cc e)
  old_params m k (v ∷ []) e =
      let o = (R G).row_type (variable_row m k 0) in
      ap (λ t. t ∷ []) (from_strings o v.ty (head_same e))
    where
      head_same : retyped ((R G).row_type (variable_row m k 0)) v.ty ∷ [] ≡ strings ∷ [] → retyped ((R G).row_type (variable_row m k 0)) v.ty ≡ strings
      head_same e = cc e
  old_params m k (v ∷ w ∷ vs) e = absurd (cc e)

  old_result : (o : Option ℕ) (t : Option Ty) → retyped_if o t ≡ None → t ≡ None
  old_result o None e = refl
  old_result o (Some t) e = absurd (cc e)

  strings_is : record { base = Str; dim = 1 } ≡ strings
  unfolding strings
  strings_is = refl

  holder_is : (c o : ℕ) → o ≡ (R G).holder_of c → o ≡ (T G).holder_of c
  unfolding renaming_of
  holder_is c o e = e

  of_static : (z : (m : ℕ) × IsOldStatic G match m V.main) → IsStaticMethod P V (R G) P.main V.main
  of_static z =
      let N = G.new in
      let s = z.1.same in
      let made : s.new ≡ N.main = same_Some _ _ (sym s.new_stands ∙ N.main_stands) in
      let old : IsMain s.old = record {
        static = s.old_static;
        name = sym s.name ∙ ap (λ (y : PlainMethod). y.name) made ∙ N.main_is.name;
        params = old_params z.0 s.old s.old.params (sym z.1.types.params ∙ ap (λ (y : PlainMethod). types_of y.params) made ∙ N.main_is.params
            ∙ ap (λ t. t ∷ []) strings_is) ∙ ap (λ t. t ∷ []) (sym strings_is);
        result = old_result _ s.old.result (sym z.1.types.result ∙ ap (λ (y : PlainMethod). y.result) made ∙ N.main_is.result);
      } in
      let M = G.formed.main in
      let w = each_static_method G match P.main M G.formed.main_stands G.formed.main_is.static in
      let t = w.1.same in
      let mine : t.old ≡ M = same_Some _ _ (sym t.old_stands ∙ G.formed.main_stands) in
      let new_main : IsMain t.new = record {
        static = t.new_static;
        name = t.name ∙ ap (λ (y : PlainMethod). y.name) mine ∙ G.formed.main_is.name;
        params = w.1.types.params ∙ main_params P.main t.old t.old.params
            (ap (λ (y : PlainMethod). types_of y.params) mine ∙ G.formed.main_is.params ∙ ap (λ t. t ∷ []) strings_is) ∙ ap (λ t. t ∷ []) (sym strings_is);
        result = w.1.types.result ∙ ap (retyped_if _) (ap (λ (y : PlainMethod). y.result) mine ∙ G.formed.main_is.result);
      } in
      let below = G.formed.main_first z.0 s.old s.old_stands old in
      let above = N.main_first w.0 t.new t.new_stands new_main in
      let ho = method_holder P z.0 s.old s.old_stands s.old_static in
      let hm = method_holder P P.main M G.formed.main_stands G.formed.main_is.static in
      let so : N.main.owner ≡ (T G).holder_of s.old.owner = ap (λ (y : PlainMethod). y.owner) (sym made) ∙ holder_is s.old.owner s.new.owner s.owner in
      let sm : t.new.owner ≡ (T G).holder_of M.owner = holder_is t.old.owner t.new.owner t.owner ∙ ap (λ (y : PlainMethod). (T G).holder_of y.owner) mine in
      let one : z.0 ≡ P.main =
      ⊎_elim
      (λ same. G.formed.method_names z.0 P.main s.old M s.old_stands G.formed.main_stands (sym same) (old.name ∙ sym G.formed.main_is.name))
      (λ other. ⊎_elim
      (λ lt. absurd (let o = holder_order M.owner s.old.owner hm ho lt in omega (arith, o, above, so, sm)))
      (λ gt. absurd (omega (arith, gt, below))) other)
      (cases_order M.owner s.old.owner) in
      subst (λ m. IsStaticMethod P V (R G) m V.main) one s

  -- a method that makes objects gives one back, and `main` gives nothing
  pub main_is : IsStaticMethod P V (R G) P.main V.main
  main_is =
      let N = G.new in
      ⊎_elim (λ z. of_static z)
      (λ y. absurd (let z = sym (ap (λ (k : PlainMethod). k.result) (same_Some _ _ (sym y.is.stands ∙ N.main_stands))) ∙ y.is.result in
      cc (sym N.main_is.result ∙ z)))
      (static_method G match V.main N.main N.main_stands N.main_is.static)
