-- What a body resolves to without its places is what it resolves to, its tags taken off.
use Rattle.std.proofs.Common.{◌≡◌, ℕ, suc, ◌||◌, Bool, true, false, Some, None, List, [], ◌∷◌, ◌++◌, map, length, Option, refl, sym, ap, ◌∙◌, subst, ap₂}
use Rattle.std.specs.Prelude.{slice_get, if◌then◌else◌}
use Rattle.std.specs.Option.{is_some, option_map, option_map_or}
use Rattle.std.proofs.lemmas.Option.{slice_get-map}
use Rattle.std.proofs.lemmas.List.{length-map}
use Rattle.kaba_base.specs.declared.Place.{Place}
use Rattle.kaba_base.specs.declared.ClassId.{ClassId}
use Rattle.kaba_base.proofs.ListLemmas.{at_map}
use Rattle.java_tree.specs.declared.TypeName.{TypeName}
use Rattle.java_tree.specs.Syntax.{Expression, Expressions, Statement, Statements, Else, OptionalStatement}
use Rattle.java_tree.specs.Syntax as tree
use Rattle.java_tree.specs.Places.{nowhere, type_unplaced, expr_unplaced, exprs_unplaced, value_unplaced, stmt_unplaced, stmts_unplaced, arms_unplaced, else_unplaced, step_unplaced, may_unplaced}
use Rattle.java_core.specs.Trees.{at_place, Ex, Exs, no_ex, ex_then, local, St, block, assign, choose, loop, Sts, no_st, st_then, IfArms, no_other, otherwise, arm}
use Rattle.java_core.specs.Programs.{Plain, PlainClass, PlainLocal, PlainMethod}
use Rattle.java_core.specs.Classes.{parent_of}
use Rattle.java_core.specs.Makers.{maker_of, call_above}
use Rattle.java_core.specs.Formed.{variables_of}
use Rattle.name_rules.specs.declared.parts.Bound.{Bound}
use Rattle.name_rules.specs.declared.parts.Here.{Here}
use Rattle.name_rules.specs.Outline.{MethodAt, is_static_word, is_type_name}
use Rattle.name_rules.specs.Meanings.{bound_names}
use Rattle.name_rules.specs.Resolves.{target, bound, Counts, ResolvesTo, r_number, r_character, r_text, r_truth, r_null, r_this, r_local, r_static_field, r_own_field, r_class_field, r_field, r_index, r_own_static_call, r_own_call, r_static_call, r_call, r_super_call, r_create, r_create_array, r_cast, r_instance_of, r_unary, r_binary, AllResolve, r_no_more, r_and_more, ResolvesIf, r_none, r_some, scope_after, scope_after_part, IsDeclaredLocal, StResolves, r_declare, r_block, r_assign, r_act, r_print, r_choose, r_while, r_for, r_return, r_break, r_continue, StsResolve, r_no_statements, r_and_then, ArmsResolve, r_no_else, r_else, r_arm, PartResolves, r_absent, r_present, declares, declares_all, declares_arms, params_from, here_of, before_object, UpResolves, r_no_up, r_up, has_arguments, after_call, maker_code, BodyResolves, r_no_body, r_body, r_maker, BodiesResolve, r_no_methods, r_method}
use Rattle.java_core.specs.Untagged.{bare_tag, bare, bare_all, bare_if, bare_target, bare_st, bare_sts, bare_arms, untag_local, untag_class, untag_method, untagged, untag_body}
use Rattle.name_place_laws.proofs.Outlines.{word-same, method_at_unplaced}
use Rattle.name_place_laws.proofs.Meanings.{parent-same, maker-same, names-same, named-same, means, means-cast, class-name-same, static-field, static-method, nearest-field}
use Rattle.name_place_laws.proofs.FirstMethods.{first-method}
use Rattle.name_place_laws.proofs.Untagged.{variables-same}

target-same : (x : Ex) → target (bare x) ≡ bare_target (target x)
target-same (local t i) = refl
target-same _ = refl

-- ---- what a statement declares

mutual
  declares-same : (x : St) → declares (bare_st x) ≡ declares x
  declares-same (block t xs) = all-declare-same xs
  declares-same (choose t xs) = arms-declare-same xs
  declares-same (loop t is_while first test step body) =
      ap₂ (λ x y. x ++ y) (ap₂ (λ x y. x ++ y) (all-declare-same first) (all-declare-same step)) (all-declare-same body)
  declares-same _ = refl

  all-declare-same : (xs : Sts) → declares_all (bare_sts xs) ≡ declares_all xs
  all-declare-same no_st = refl
  all-declare-same (st_then x xs) = ap₂ (λ y ys. y ++ ys) (declares-same x) (all-declare-same xs)

  arms-declare-same : (xs : IfArms) → declares_arms (bare_arms xs) ≡ declares_arms xs
  arms-declare-same no_other = refl
  arms-declare-same (otherwise xs) = all-declare-same xs
  arms-declare-same (arm e xs more) = ap₂ (λ y ys. y ++ ys) (all-declare-same xs) (arms-declare-same more)

params-same : (i : ℕ) (vs : List PlainLocal) → params_from i (map untag_local vs) ≡ params_from i vs
params-same i [] = refl
params-same i (v ∷ vs) = ap (λ z. record { name = v.name; number = i } ∷ z) (params-same (suc i) vs)

module _ (O : Plain) (here : Here) where
  abbrev bare-outline : Plain
  bare-outline = untagged O

  module _ (scope : List Bound) where
    mutual
      pub ex : {e : Expression} {x : Ex} → ResolvesTo O here scope e x → ResolvesTo bare-outline here scope (expr_unplaced e) (bare x)
      ex r_number = r_number
      ex r_character = r_character
      ex r_text = r_text
      ex r_truth = r_truth
      ex r_null = r_null
      ex (r_this s) = r_this s
      ex (r_local e) = r_local e
      ex (r_static_field e near s o) = r_static_field e (nearest-field O near) s o
      ex (r_own_field e near s o) = r_own_field e (nearest-field O near) s o
      ex (r_class_field {c = c} {q = q} a e s) =
          r_class_field (class-name-same O here.owner (bound_names scope) c nowhere q ∙ a) (named-same O c ∙ e) (static-field O s)
      ex (r_field h) = r_field (ex h)
      ex (r_index h g) = r_index (ex h) (ex g)
      ex (r_own_static_call m s o es) = r_own_static_call (first-method O m) s o (exs es)
      ex (r_own_call m s o es) = r_own_call (first-method O m) s o (exs es)
      ex (r_static_call {c = c} {q = q} a e s es) =
          r_static_call (class-name-same O here.owner (bound_names scope) c nowhere q ∙ a) (named-same O c ∙ e) (static-method O s) (exs es)
      ex (r_call h es) = r_call (ex h) (exs es)
      ex (r_super_call s es) = r_super_call s (exs es)
      ex (r_create {c = c} e es) = r_create (named-same O c.name ∙ e) (exs es)
      ex (r_create_array m h) = r_create_array (means O m) (ex h)
      ex (r_cast m h) = r_cast (means-cast O m) (ex h)
      ex (r_instance_of {c = c} h e) = r_instance_of (ex h) (named-same O c.name ∙ e)
      ex (r_unary h) = r_unary (ex h)
      ex (r_binary h g) = r_binary (ex h) (ex g)

      pub exs : {es : Expressions} {xs : Exs} → AllResolve O here scope es xs → AllResolve bare-outline here scope (exprs_unplaced es) (bare_all xs)
      exs r_no_more = r_no_more
      exs (r_and_more h hs) = r_and_more (ex h) (exs hs)

    pub maybe : {v : Option Expression} {x : Option Ex} → ResolvesIf O here scope v x → ResolvesIf bare-outline here scope (value_unplaced v) (bare_if x)
    maybe r_none = r_none
    maybe (r_some h) = r_some (ex h)

  module _ (k : PlainMethod) where
    local-same : {scope : List Bound} {u : TypeName} {n : List ℕ} {p : Place} {i : ℕ} → IsDeclaredLocal O k scope u n p i
        → IsDeclaredLocal bare-outline (untag_method k) scope (type_unplaced u) n nowhere i
    local-same {n = n} {i = i} l = record {
      ty = l.ty;
      means = means O l.means;
      stands = ap (λ z. slice_get z i) (variables-same k) ∙ at_map untag_local (variables_of k) i _ l.stands;
      no_type = ap (λ z. is_type_name z n) (names-same O) ∙ l.no_type;
      fresh = l.fresh;
    }

    -- what is in scope after a statement
    after : {in_loop : Bool} {scope : List Bound} {s : Statement} {x : St} → StResolves O here k in_loop scope s x
        → scope_after scope (stmt_unplaced s) (bare_st x) ≡ scope_after scope s x
    after (r_declare l h) = refl
    after _ = refl

    after-part : {in_loop : Bool} {scope : List Bound} {s : OptionalStatement} {xs : Sts} → PartResolves O here k in_loop scope s xs
        → scope_after_part scope (step_unplaced s) (bare_sts xs) ≡ scope_after_part scope s xs
    after-part r_absent = refl
    after-part (r_present h) = after h

    mutual
      pub st : {in_loop : Bool} {scope : List Bound} {s : Statement} {x : St} → StResolves O here k in_loop scope s x
          → StResolves bare-outline here (untag_method k) in_loop scope (stmt_unplaced s) (bare_st x)
      st (r_declare {scope = scope} {n = n} {i = i} l h) = r_declare (local-same l) (maybe (bound scope n i) h)
      st (r_block h) = r_block (sts h)
      st (r_assign {in_loop = in_loop} {scope = scope} {e = e} {v = v} {x = x} {y = y} h g) =
          subst (λ z. StResolves bare-outline here (untag_method k) in_loop scope (stmt_unplaced (tree.AssignOf e v nowhere)) (assign bare_tag z (bare y)))
          (target-same x) (r_assign (ex scope h) (ex scope g))
      st (r_act {scope = scope} h) = r_act (ex scope h)
      st (r_print {scope = scope} h) = r_print (maybe scope h)
      st (r_choose h) = r_choose (arms h)
      st (r_while {scope = scope} h hs) = r_while (ex scope h) (sts hs)
      st (r_for {in_loop = in_loop} {scope = scope} {f = f} {g = g} {v = v} {x = x} {ss = ss} {first = first} {step = step} {xs = xs} h t w hs) =
          let e = sym (after-part h) in
          r_for (part h) (subst (λ z. ResolvesIf bare-outline here z (value_unplaced v) (bare_if x)) e (maybe (scope_after_part scope f first) t))
          (subst (λ z. PartResolves bare-outline here (untag_method k) in_loop z (step_unplaced g) (bare_sts step)) e (part w))
          (subst (λ z. StsResolve bare-outline here (untag_method k) true z (stmts_unplaced ss) (bare_sts xs)) e (sts hs))
      st (r_return {scope = scope} h) = r_return (maybe scope h)
      st r_break = r_break
      st r_continue = r_continue

      pub sts : {in_loop : Bool} {scope : List Bound} {ss : Statements} {xs : Sts} → StsResolve O here k in_loop scope ss xs
          → StsResolve bare-outline here (untag_method k) in_loop scope (stmts_unplaced ss) (bare_sts xs)
      sts r_no_statements = r_no_statements
      sts (r_and_then {in_loop = in_loop} {ss = ss} {xs = xs} h hs) =
          r_and_then (st h) (subst (λ z. StsResolve bare-outline here (untag_method k) in_loop z (stmts_unplaced ss) (bare_sts xs)) (sym (after h)) (sts hs))

      arms : {in_loop : Bool} {scope : List Bound} {a : tree.Arms} {other : Else} {xs : IfArms} → ArmsResolve O here k in_loop scope a other xs
          → ArmsResolve bare-outline here (untag_method k) in_loop scope (arms_unplaced a) (else_unplaced other) (bare_arms xs)
      arms r_no_else = r_no_else
      arms (r_else h) = r_else (sts h)
      arms (r_arm {scope = scope} h hs more) = r_arm (ex scope h) (sts hs) (arms more)

      part : {in_loop : Bool} {scope : List Bound} {s : OptionalStatement} {xs : Sts} → PartResolves O here k in_loop scope s xs
          → PartResolves bare-outline here (untag_method k) in_loop scope (step_unplaced s) (bare_sts xs)
      part r_absent = r_absent
      part (r_present h) = r_present (st h)

-- ---- methods

module _ (O : Plain) where
  -- the code of a constructor
  code-same : (m : MethodAt) (es : Exs) (xs : Sts) → bare_sts (maker_code O m es xs)
      ≡ maker_code (untagged O) (method_at_unplaced m) (bare_all es) (bare_sts xs)
  code-same m es xs =
      go (parent_of O m.owner)
      ∙ ap (λ z. option_map_or (λ b. after_call (untagged O) b nowhere (bare_all es) (bare_sts xs)) z (bare_sts xs)) (sym (parent-same O m.owner))
    where
      args : has_arguments (bare_all es) ≡ has_arguments es
      args = of es
        where
          of : (es : Exs) → has_arguments (bare_all es) ≡ has_arguments es
          of no_ex = refl
          of (ex_then e es) = refl

      at : (p : Place) (o : Option PlainClass) → bare_sts (option_map_or (λ k. st_then (call_above (at_place p) k.name es) xs) o xs)
          ≡ option_map_or (λ k. st_then (call_above bare_tag k.name (bare_all es)) (bare_sts xs)) (option_map untag_class o) (bare_sts xs)
      at p None = refl
      at p (Some k) = refl

      under : (p : Place) (b : ClassId) (u : Bool)
          → bare_sts (if u then option_map_or (λ k. st_then (call_above (at_place p) k.name es) xs) (slice_get O.classes b.0) xs else xs)
          ≡ (if u then option_map_or (λ k. st_then (call_above bare_tag k.name (bare_all es)) (bare_sts xs)) (slice_get (untagged O).classes b.0)
          (bare_sts xs) else bare_sts xs)
      under p b true =
          at p (slice_get O.classes b.0)
          ∙ ap (λ z. option_map_or (λ k. st_then (call_above bare_tag k.name (bare_all es)) (bare_sts xs)) z (bare_sts xs))
          (sym (slice_get-map untag_class O.classes b.0))
      under p b false = refl

      go : (o : Option ClassId) → bare_sts (option_map_or (λ b. after_call O b m.head.place es xs) o xs)
          ≡ option_map_or (λ b. after_call (untagged O) b nowhere (bare_all es) (bare_sts xs)) o (bare_sts xs)
      go None = refl
      go (Some b) =
          under m.head.place b (is_some (maker_of O b.0) || has_arguments es)
          ∙ ap (λ u. if u then option_map_or (λ k. st_then (call_above bare_tag k.name (bare_all es)) (bare_sts xs)) (slice_get (untagged O).classes b.0)
          (bare_sts xs) else bare_sts xs) (ap₂ (λ o v. is_some o || v) (sym (maker-same O b.0)) (sym args))

  up-same : {m : MethodAt} {scope : List Bound} {up : Option Expressions} {es : Exs} → UpResolves O m scope up es
      → UpResolves (untagged O) (method_at_unplaced m) scope (may_unplaced exprs_unplaced up) (bare_all es)
  up-same r_no_up = r_no_up
  up-same {m} {scope} (r_up h) = r_up (exs O (before_object m) scope h)

  -- the statements of a body
  statements : (m : MethodAt) (k : PlainMethod) {ss : Statements} {xs : Sts} → StsResolve O (here_of m) k false (params_from 0 k.params) ss xs
      → StsResolve (untagged O) (here_of (method_at_unplaced m)) (untag_method k) false (params_from 0 (map untag_local k.params)) (stmts_unplaced ss)
      (bare_sts xs)
  statements m k {ss} {xs} h =
      let scope = sym (params-same 0 k.params) in
      let where_it_stands : here_of m ≡ here_of (method_at_unplaced m) = ap (λ z. record { owner = m.owner; is_static = z })
      (sym (word-same is_static_word m.head.mods)) in
      subst (λ z. StsResolve (untagged O) z (untag_method k) false (params_from 0 (map untag_local k.params)) (stmts_unplaced ss)
      (bare_sts xs)) where_it_stands
      (subst (λ z. StsResolve (untagged O) (here_of m) (untag_method k) false z (stmts_unplaced ss) (bare_sts xs)) scope (sts O (here_of m) k h))

  counted : (k : PlainMethod) (xs : Sts) → Counts (length k.params) (declares_all xs) (length (variables_of k))
      → Counts (length (map untag_local k.params)) (declares_all (bare_sts xs)) (length (variables_of (untag_method k)))
  counted k xs c =
      subst (λ z. Counts (length (map untag_local k.params)) z (length (variables_of (untag_method k)))) (sym (all-declare-same xs))
      (subst (λ z. Counts z (declares_all xs) (length (variables_of (untag_method k)))) (sym (length-map k.params untag_local))
      (subst (Counts (length k.params) (declares_all xs)) (sym (ap length (variables-same k) ∙ length-map (variables_of k) untag_local)) c))

  body : {m : MethodAt} {k : PlainMethod} → BodyResolves O m k → BodyResolves (untagged O) (method_at_unplaced m) (untag_method k)
  body (r_no_body none b ls) = r_no_body (ap (may_unplaced stmts_unplaced) none) (ap untag_body b) (ap (map untag_local) ls)
  body {m} {k} (r_body {ss = ss} {xs = xs} plain some b h c) =
      r_body plain (ap (may_unplaced stmts_unplaced) some) (ap untag_body b) (statements m k h) (counted k xs c)
  body {m} {k} (r_maker {ss = ss} {es = es} {xs = xs} maker some b up h c) =
      r_maker maker (ap (may_unplaced stmts_unplaced) some) (ap untag_body b ∙ ap Some (code-same m es xs))
      (subst (λ z. UpResolves (untagged O) (method_at_unplaced m) z (may_unplaced exprs_unplaced m.up) (bare_all es)) (sym (params-same 0 k.params))
      (up-same {m = m} up))
      (statements m k h) (counted k xs c)

  pub bodies : {ms : List MethodAt} {ks : List PlainMethod} → BodiesResolve O ms ks
      → BodiesResolve (untagged O) (map method_at_unplaced ms) (map untag_method ks)
  bodies r_no_methods = r_no_methods
  bodies (r_method h hs) = r_method (body h) (bodies hs)
