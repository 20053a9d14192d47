-- None of the conditions that refuse a text's names holds of the written tree.
use Rattle.std.proofs.Common.{◌≡◌, ℕ, false, List, Some, sym, ◌∙◌, ⊎_elim}
use Rattle.std.specs.Prelude.{slice_get}
use Rattle.std.proofs.lemmas.Bool.{false≢true, or_cases}
use Rattle.java_tree.specs.Syntax.{DeclTree}
use Rattle.java_core.specs.Programs.{Plain}
use Rattle.fact_model.specs.declared.facts.Facts.{Facts}
use Rattle.fact_model.specs.declared.sets.PointsTo.{PointsTo}
use Rattle.hier_model.specs.Hierarchies.{Hierarchy}
use Rattle.flow_rules.proofs.Listed.{at_contains, contains_at}
use Rattle.name_rules.specs.Outline.{MethodAt, methods_in, is_private}
use Rattle.name_rules.specs.Conditions.{unknown, type_twice, known_twice, super_twice, field_twice, method_twice, maker_twice, maker_named, makers_written, param_twice, loop, overload, type_as_field, type_as_param, face_as_parent, class_as_face, private_reused, no_main, modifiers_disagree, modifier_unfit, wrong_body, in_body, in_up}
use Rattle.name_rules.specs.Causes.{HasNoCondition}
use Rattle.name_rules.proofs.NoMakers.{no_maker_in}
use Rattle.write_model.proofs.NoMaker.{no_maker}
use Rattle.write_laws.proofs.rebuilds.Nodes.{tree}
use Rattle.write_laws.specs.names.Laws.{IsNamedProgram}
use Rattle.write_laws.proofs.names.Modifiers.{method_sound, modifiers_fit}
use Rattle.write_laws.proofs.names.Types.{type_once, type_is_new}
use Rattle.write_laws.proofs.names.Supers.{super_once, no_loop, no_face_as_parent, no_class_as_face}
use Rattle.write_laws.proofs.names.Variables.{field_free, param_free, param_once}
use Rattle.write_laws.proofs.names.Named.{all_known}
use Rattle.write_laws.proofs.names.Written.{none_written}
use Rattle.write_laws.proofs.names.Whole.{body_has_none}
use Rattle.write_laws.proofs.names.Main.{has_main}
use Rattle.write_laws.proofs.names.Separate.{fields_are_apart, methods_are_apart}
use Rattle.write_laws.proofs.names.Overloads.{slots_are_apart}

module _ {P : Plain} {F : Facts} {pt : PointsTo} {H : Hierarchy} (G : IsNamedProgram P F pt H) where
  abbrev T : List DeclTree
  T = tree P F H

  no_private : (i : ℕ) (x : MethodAt) → slice_get (methods_in T) i ≡ Some x → is_private x ≡ false
  no_private i x e = (method_sound G x (contains_at (methods_in T) i x e)).open_to_all

  -- the program can be read again
  pub no_condition : HasNoCondition T
  no_condition _ (unknown {n = n} {p = p} asks none) = all_known G n p asks none
  no_condition _ (type_twice {i = i} {j = j} {c = c} {d = d} a b lt e) = type_once G i j c d a b lt e
  no_condition _ (known_twice {d = d} c h) = type_is_new G d c h
  no_condition _ (super_twice {d = d} {i = i} {j = j} {a = a} {b = b} c p q lt e) = super_once G d i j a b c p q lt e
  no_condition _ (field_twice {i = i} {j = j} {f = f} {g = g} p q lt o e) = fields_are_apart G i j f g p q lt o e
  no_condition _ (method_twice {i = i} {j = j} {h = h} {k = k} p q lt o e z) = methods_are_apart G i j h k p q lt o e
  no_condition _ (param_twice {m = m} {i = i} {j = j} {a = a} {b = b} c p q lt e) = param_once G m i j a b c p q lt e
  no_condition _ (loop {c = c} {d = d} e p) = no_loop G c d e p
  no_condition _ (overload {i = i} {j = j} {c = c} {h = h} {k = k} p q lt e a b n) = n (slots_are_apart G i j c h k p q lt e a b)
  no_condition _ (maker_twice {d = d} c p q lt) = none_written T (no_maker P F H) d c _ (contains_at (makers_written d) _ _ p)
  no_condition _ (maker_named {d = d} {i = i} c a n) = none_written T (no_maker P F H) d c i a
  no_condition _ (type_as_field {f = f} c h) = false≢true (sym (field_free G f c) ∙ h)
  no_condition _ (type_as_param {m = m} {q = q} c d h) = false≢true (sym (param_free G m q c d) ∙ h)
  no_condition _ (face_as_parent {d = d} {i = i} {c = c} {k = k} a b e f h) = no_face_as_parent G d i c k a b e f h
  no_condition _ (class_as_face {d = d} {i = i} {c = c} {k = k} a b e f h) = no_class_as_face G d i c k a b e f h
  no_condition _ (private_reused {i = i} {j = j} {h = h} {k = k} p q lt e o v s) =
      ⊎_elim (λ x. false≢true (sym (no_private i h p) ∙ x)) (λ x. false≢true (sym (no_private j k q) ∙ x)) (or_cases (is_private h) (is_private k) v)
  no_condition _ (no_main none) = let z = has_main G in none z.0 z.1 z.2 z.3
  no_condition _ (modifiers_disagree {kind = kind} {mods = mods} {i = i} {j = j} {a = a} {b = b} h p q lt d) =
      false≢true (sym ((modifiers_fit G kind mods h).apart i j a b p q lt) ∙ d)
  no_condition _ (modifier_unfit {kind = kind} {mods = mods} {a = a} h c u) =
      let z = at_contains mods a c in false≢true (sym ((modifiers_fit G kind mods h).each z.0 a z.1) ∙ u)
  no_condition _ (wrong_body {m = m} c w) = (method_sound G m c).body w
  no_condition r (in_body {m = m} {ss = ss} c b x) = body_has_none G m ss r c b x
  no_condition r (in_up {m = m} c e x) = let n = (no_maker_in T (no_maker P F H) m c).up in cc (n, e)
