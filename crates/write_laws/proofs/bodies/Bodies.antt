-- What the written body of a method resolves to matches the old body, and its locals have the types of their rows.
use Rattle.std.proofs.Common.{◌≡◌, ℕ, suc, ◌+◌, List, [], ◌∷◌, Option, Some, length, refl, sym, ap, ◌∙◌, subst, arith}
use Rattle.std.specs.Prelude.{true, false, map, slice_get, Contains}
use Rattle.std.proofs.lemmas.Option.{same_Some, slice_get_within}
use Rattle.std.proofs.lemmas.List.{length-map, length-append}
use Rattle.kaba_base.proofs.ListLemmas.{behind}
use Rattle.java_core.specs.Trees.{Sts}
use Rattle.java_core.specs.Programs.{Plain, PlainLocal, PlainMethod}
use Rattle.java_core.specs.Types.{types_of, env_of}
use Rattle.java_core.specs.Typing.{IsTyped, IsTypedMethod, TypedSts}
use Rattle.java_core.specs.Formed.{IsFormed, HasNoTwice, variables_of, numbers_below}
use Rattle.hier_model.specs.Hierarchies.{Hierarchy}
use Rattle.flow_rules.specs.Labels.{label_sts}
use Rattle.flow_rules.specs.Operands.{variable_row, type_in}
use Rattle.flow_rules.specs.Ordered.{each}
use Rattle.flow_rules.specs.Parts.{Part, parts_sts, parts_body, parts_of}
use Rattle.name_rules.specs.declared.parts.Here.{Here}
use Rattle.name_rules.specs.Resolves.{Counts, declares_all, StsResolve, params_from}
use Rattle.write_model.specs.Names.{by_number}
use Rattle.write_model.specs.Bodies.{written_sts}
use Rattle.write_model.specs.Members.{parameters}
use Rattle.rebuild_model.specs.Renaming.{Places, Renaming, renaming_of, retyped}
use Rattle.rebuild_model.specs.Matches.{MatchesSts}
use Rattle.rebuild_model.specs.Members.{new_types}
use Rattle.write_laws.specs.bodies.Known.{HasLocalsInOrder, KnowsNames}
use Rattle.write_laws.proofs.bodies.Scopes.{scoped_params}
use Rattle.write_laws.proofs.bodies.Statements as walk

-- types of locals, one by one
all_types : (f : ℕ → Option ℕ) (n : ℕ) (vs ws : List PlainLocal) → length vs ≡ length ws
    → ((i : ℕ) (v : PlainLocal) → slice_get vs i ≡ Some v → (w : PlainLocal) × (slice_get ws i ≡ Some w) × (w.ty ≡ retyped (f (n + i)) v.ty))
    → types_of ws ≡ each (λ i v. retyped (f i) v.ty ∷ []) n vs
all_types f n [] [] e h = refl
all_types f n [] (w ∷ ws) e h = absurd (omega (arith, e))
all_types f n (v ∷ vs) [] e h = absurd (omega (arith, e))
all_types f n (v ∷ vs) (w ∷ ws) e h =
    let z = h 0 v refl in
    let head = ap (λ (z : PlainLocal). z.ty) (same_Some w z.0 z.1) ∙ z.2 ∙ ap (λ i. retyped (f i) v.ty) (let d : n + 0 ≡ n = omega arith in d) in
    ap (λ t. t ∷ types_of ws) head
    ∙ ap (λ ts. retyped (f n) v.ty ∷ ts) (all_types f (n + 1) vs ws (omega (arith, e)) (λ i u eu.
    let y = h (suc i) u eu in (y.0, y.1, y.2 ∙ ap (λ i. retyped (f i) u.ty) (let d : n + suc i ≡ n + 1 + i = omega arith in d))))

module _ (P : Plain) (H : Hierarchy) (U O : Plain) (T : Places) where
  -- where a body stands, and what it resolves to
  pub record IsNewBody (m : ℕ) (k new : PlainMethod) (here : Here) (xs ys : Sts) : Type 0 where
    pub body : k.body ≡ Some xs
    pub names : map (λ v. v.name) new.params ≡ map (λ v. v.name) k.params
    pub static : here.is_static ≡ k.is_static
    pub owner : k.is_static ≡ true → here.owner ≡ T.holder_of k.owner
    pub resolves : StsResolve O here new false (params_from 0 new.params) (written_sts P (renaming_of P H by_number) H m k (parameters 0 k.params) xs) ys
    pub counts : Counts (length new.params) (declares_all ys) (length (variables_of new))

  pub record IsMatched (m : ℕ) (k new : PlainMethod) (xs ys : Sts) : Type 0 where
    pub matches : MatchesSts P U (renaming_of P H T) (env_of m k) xs ys
    pub locals : types_of new.locals ≡ new_types (renaming_of P H T) m k (length k.params) k.locals

module _ (P : Plain) (H : Hierarchy) (U O : Plain) (T : Places) (K : KnowsNames P H U O T) (formed : IsFormed P)
    (typed : IsTyped P)
    (in_order : HasLocalsInOrder P) where
  abbrev R : Renaming
  R = renaming_of P H T

  module _ (m : ℕ) (k new : PlainMethod) (here : Here) (xs ys : Sts) (stands : slice_get P.methods m ≡ Some k)
      (b : IsNewBody P H U O T m k new here xs ys) where
    same_length : length new.params ≡ length k.params
    same_length = sym (length-map new.params (λ v. v.name)) ∙ ap (λ z. length z) b.names ∙ length-map k.params (λ v. v.name)

    once : (i j : ℕ) (x : List ℕ) → slice_get (map (λ (v : PlainLocal). v.name) k.params) i ≡ Some x
        → slice_get (map (λ (v : PlainLocal). v.name) k.params) j ≡ Some x → i ≡ j
    unfolding HasNoTwice
    once = (formed.methods m k stands).params

    typed_body : TypedSts P (env_of m k) xs
    unfolding IsTypedMethod
    typed_body = typed.methods m k stands xs b.body

    ordered : Counts (length k.params) (declares_all xs) (length (variables_of k))
    unfolding HasLocalsInOrder
    ordered = in_order m k xs stands b.body

    inside : (p : Part) → Contains (parts_sts P (type_in P m k) m k (label_sts 0 xs)) p → Contains (parts_of P m k) p
    unfolding parts_of
    inside p d = subst (λ z. Contains (parts_body P (type_in P m k) m k z) p) (sym b.body) d

    walked : MatchesSts P U R (env_of m k) xs ys
        × walk.Ended P H U O T K formed m k stands here b.static b.owner new (length k.params) (length (variables_of k)) (length (variables_of new))
    walked = walk.sts P H U O T K formed m k stands here b.static b.owner new 0 false false (numbers_below (length k.params))
        (parameters 0 k.params) (params_from 0 new.params) xs ys (length k.params) (length (variables_of k)) (length (variables_of new)) typed_body
        ((formed.methods m k stands).code xs b.body) inside (scoped_params k new.params b.names once) ordered
        (subst (λ z. Counts z (declares_all ys) (length (variables_of new))) same_length b.counts) b.resolves

    same_locals : length k.locals ≡ length new.locals
    same_locals =
        let a = length-append k.params k.locals in
        let c = length-append new.params new.locals in
        let d = same_length in
        let e = walked.1.same in
        omega (arith, a, c, d, e)

    local_type : (i : ℕ) (v : PlainLocal) → slice_get k.locals i ≡ Some v
        → (w : PlainLocal) × (slice_get new.locals i ≡ Some w) × (w.ty ≡ retyped (R.row_type (variable_row m k (length k.params + i))) v.ty)
    local_type i v e =
        let there = behind k.params k.locals i ∙ e in
        let lt = slice_get_within (variables_of k) (length k.params + i) v there in
        let w = (walked.1.all (length k.params + i) (omega arith) lt).kept v there in
        (w.0, sym (behind new.params new.locals i) ∙ ap (λ z. slice_get (variables_of new) (z + i)) same_length ∙ w.1, w.2)

    -- the body of a method of the program
    pub body_matched : IsMatched P H U O T m k new xs ys
    body_matched = record {
      matches = walked.0;
      locals = all_types (λ i. R.row_type (variable_row m k i)) (length k.params) k.locals new.locals same_locals local_type;
    }
