-- A program to which a tree resolves has its locals in order.
use Rattle.std.proofs.Common.{◌≡◌, ℕ, zero, suc, ◌||◌, Bool, true, false, List, [], ◌∷◌, Option, Some, None, length, refl, sym, ◌∙◌, subst}
use Rattle.std.specs.Prelude.{slice_get, if◌then◌else◌}
use Rattle.std.specs.Option.{is_some, option_map_or}
use Rattle.std.proofs.lemmas.Option.{same_Some}
use Rattle.java_tree.specs.Syntax.{DeclTree}
use Rattle.kaba_base.specs.declared.ClassId.{ClassId}
use Rattle.java_core.specs.Trees.{at_place, Exs, Sts, st_then}
use Rattle.java_core.specs.Programs.{Plain, PlainClass, PlainMethod}
use Rattle.java_core.specs.Classes.{parent_of}
use Rattle.java_core.specs.Makers.{maker_of, call_above}
use Rattle.java_core.specs.Formed.{variables_of}
use Rattle.name_rules.specs.Outline.{MethodAt, outline, methods_in}
use Rattle.name_rules.specs.Resolves.{Counts, declares_all, maker_code, after_call, has_arguments, BodyResolves, r_no_body, r_body, r_maker, BodiesResolve, r_no_methods, r_method, Resolves}
use Rattle.write_laws.specs.bodies.Known.{HasLocalsInOrder}

body_at : (O : Plain) (ms : List MethodAt) (ks : List PlainMethod) (m : ℕ) (k : PlainMethod) → BodiesResolve O ms ks → slice_get ks m ≡ Some k
    → (at : MethodAt) × BodyResolves O at k
body_at O [] [] m k r_no_methods e = absurd (cc)
body_at O [] (h ∷ ks) m k b e = elim b [ ]
body_at O (at ∷ ms) [] m k b e = elim b [ ]
body_at O (at ∷ ms) (h ∷ ks) zero k (r_method b bs) e = (at, subst (λ z. BodyResolves O at z) (same_Some h k e) b)
body_at O (at ∷ ms) (h ∷ ks) (suc m) k (r_method b bs) e = body_at O ms ks m k bs e

-- the call of the superclass's constructor declares nothing
maker_declares : (O : Plain) (at : MethodAt) (es : Exs) (ys : Sts) → declares_all (maker_code O at es ys) ≡ declares_all ys
maker_declares O at es ys = go (parent_of O at.owner)
  where
    called : (o : Option PlainClass) → declares_all (option_map_or (λ k. st_then (call_above (at_place at.head.place) k.name es) ys) o ys) ≡ declares_all ys
    called None = refl
    called (Some k) = refl

    after : (b : ClassId) (t : Bool) → declares_all (if t then
        option_map_or (λ k. st_then (call_above (at_place at.head.place) k.name es) ys) (slice_get O.classes b.0) ys else ys) ≡ declares_all ys
    after b true = called (slice_get O.classes b.0)
    after b false = refl

    go : (o : Option ClassId) → declares_all (option_map_or (λ b. after_call O b at.head.place es ys) o ys) ≡ declares_all ys
    go None = refl
    go (Some b) = after b (is_some (maker_of O b.0) || has_arguments es)

counts_in : (O : Plain) (at : MethodAt) (h : PlainMethod) (zs : Sts) → BodyResolves O at h → h.body ≡ Some zs
    → Counts (length h.params) (declares_all zs) (length (variables_of h))
counts_in O at h zs (r_no_body a b c) e = absurd (let z = sym b ∙ e in cc)
counts_in O at h zs (r_body {xs = ys} m a b r c) e = subst (λ z. Counts (length h.params) (declares_all z) (length (variables_of h)))
    (same_Some ys zs (sym b ∙ e)) c
counts_in O at h zs (r_maker {es = es} {xs = ys} m a b u r c) e =
    subst (λ z. Counts (length h.params) (declares_all z) (length (variables_of h))) (same_Some (maker_code O at es ys) zs (sym b ∙ e))
    (subst (λ z. Counts (length h.params) z (length (variables_of h))) (sym (maker_declares O at es ys)) c)

pub resolved_in_order : (declarations : List DeclTree) (V : Plain) → Resolves declarations V → HasLocalsInOrder V
unfolding HasLocalsInOrder
resolved_in_order declarations V r m k xs e b =
    let at = body_at (outline declarations) (methods_in declarations) V.methods m k r.bodies e in
    counts_in (outline declarations) at.0 k xs at.1 b
