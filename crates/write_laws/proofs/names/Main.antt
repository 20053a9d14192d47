-- The written tree has a method that a run may begin with.
use Rattle.std.proofs.Common.{◌≡◌, ℕ, suc, ◌&&◌, false, List, [], ◌∷◌, Option, Some, None, Contains, refl, ap, ◌∙◌, arith}
use Rattle.std.specs.Prelude.{◌==◌, map, slice_get, codes, if◌then◌else◌}
use Rattle.std.specs.Option.{option_map}
use Rattle.std.proofs.lemmas.Bool.{and_from, eq-eqb}
use Rattle.std.proofs.lemmas.Slice.Eq.{bytes_eq-Decides}
use Rattle.java_tree.specs.Syntax.{MemberTree, MethodTree}
use Rattle.java_core.specs.declared.Ty.{Ty}
use Rattle.java_core.specs.declared.TyBase.TheVariants.{Str, Class}
use Rattle.java_core.specs.Programs.{Plain, PlainLocal, PlainMethod}
use Rattle.java_core.specs.Types.{types_of}
use Rattle.java_core.specs.Formed.{IsMain}
use Rattle.fact_model.specs.declared.facts.Facts.{Facts}
use Rattle.fact_model.specs.declared.sets.PointsTo.{PointsTo}
use Rattle.hier_model.specs.Hierarchies.{Hierarchy}
use Rattle.flow_rules.specs.Operands.{variable_row, result_in}
use Rattle.flow_rules.specs.Ordered.{each}
use Rattle.flow_rules.proofs.Listed.{first, when_has}
use Rattle.name_rules.specs.declared.parts.Kind.TheVariants as kinds
use Rattle.name_rules.specs.Outline.{MethodAt, types_in, type_meant, class_at, type_named, outline, method_outline, param_outline, methods_declared}
use Rattle.write_model.specs.Names.{nowhere, written_type}
use Rattle.write_model.specs.Members.{head, param, body, holder_members, static_method_member}
use Rattle.write_model.proofs.NoMaker.{no_maker}
use Rattle.write_laws.proofs.rebuilds.Outlined.{methods_in_each, declared_has, member_method_has}
use Rattle.write_laws.proofs.rebuilds.Nodes.{tree, old_tree}
use Rattle.write_laws.proofs.rebuilds.Members.{static_method_has}
use Rattle.write_laws.proofs.names.Origins.{R, old_words}
use Rattle.write_laws.specs.names.Laws.{IsNamedProgram}
use Rattle.write_laws.proofs.names.Holders.{holder_of, method_there}
use Rattle.rebuild_laws.proofs.looks.Fields.{method_holder}

module _ {P : Plain} {F : Facts} {pt : PointsTo} {H : Hierarchy} (G : IsNamedProgram P F pt H) where
  abbrev types : List (List ℕ)
  types = types_in (tree P F H)

  abbrev texts : Ty
  texts = record { base = Str; dim = 1 }

  text_means : (r : Option ℕ) → type_meant types (written_type P H r texts) ≡ texts
  text_means r =
      ap (λ b. record { base = if b then Str else Class (class_at (type_named types (codes "String"))); dim = 1 })
      ((bytes_eq-Decides (codes "String") (codes "String")).1 refl)

  head_is : (a b : Ty) (us vs : List Ty) → a ∷ us ≡ b ∷ vs → (a ≡ b) × (us ≡ vs)
  head_is a b us vs h = (cc, cc)

  params_mean : (m : ℕ) (k : PlainMethod) (n : ℕ) (vs : List PlainLocal) → types_of vs ≡ texts ∷ []
      → types_of (map (param_outline types) (each (λ i v. param P (R P F H) H m k i v ∷ []) n vs)) ≡ texts ∷ []
  params_mean m k n [] e = absurd (cc e)
  params_mean m k n (v ∷ []) e =
      ap (λ t. type_meant types (written_type P H ((R P F H).row_type (variable_row m k n)) t) ∷ []) (head_is v.ty texts [] [] e).0
      ∙ ap (λ t. t ∷ []) (text_means ((R P F H).row_type (variable_row m k n)))
  params_mean m k n (v ∷ (w ∷ vs)) e = absurd (cc (head_is v.ty texts (types_of (w ∷ vs)) [] e).1)

  pub has_main : (g : ℕ) × (new : PlainMethod) × (slice_get (outline (tree P F H)).methods g ≡ Some new) × IsMain new
  has_main =
      let d = P.main in
      let old = G.formed.main in
      let is = G.formed.main_is in
      let e = G.formed.main_stands in
      let h = holder_of G old.owner (method_holder P d old e is.static) in
      let t : MemberTree = MethodTree (head P (R P F H) H (old_words P F H) old.name d old) (body P (R P F H) H d old) nowhere in
      let x : MethodAt = record {
        owner = suc h.index;
        kind = kinds.Method;
        in_abstract = false;
        head = head P (R P F H) H (old_words P F H) old.name d old;
        up = None;
        body = body P (R P F H) H d old;
      } in
      let mine = and_from old.is_static (old.owner == old.owner) is.static (eq-eqb old.owner old.owner refl) in
      let y : Contains (static_method_member P (R P F H) H old.owner d old) t = when_has (old.is_static && (old.owner == old.owner)) (t ∷ []) t mine
      (first t []) in
      let c : Contains (methods_declared (suc h.index) (old_tree P F H old.owner h.class)) x =
      member_method_has (suc h.index) false (holder_members P (R P F H) H old.owner) x t (static_method_has P (R P F H) H old.owner d old t e y)
      (first x []) in
      let z = method_there G x (declared_has methods_declared 1 (tree P F H) (methods_in_each (tree P F H) (no_maker P F H)) x h.index (suc h.index)
      (old_tree P F H old.owner h.class) h.stands (omega arith) c) in (
        z.0,
        method_outline types x,
        z.1,
        record {
          static = refl;
          name = is.name;
          params = params_mean d old 0 old.params is.params;
          result = ap (λ o. option_map (type_meant types) (option_map (written_type P H ((R P F H).row_type (result_in old.slot d))) o)) is.result;
        },
      )
