-- The row of a site is that of its creation.
use Rattle.std.proofs.Common.{◌≡◌, ℕ, Bool, true, false, List, [], ◌∷◌, ◌++◌, Option, Some, None, Contains, refl, sym, ap, ◌∙◌, subst, arith, ⊎_elim}
use Rattle.std.specs.Prelude.{slice_get}
use Rattle.std.specs.Option.{is_some, option_map}
use Rattle.std.proofs.lemmas.List.Elements.{Contains-append_cases}
use Rattle.kaba_base.specs.declared.Place.{Place}
use Rattle.kaba_base.proofs.ListLemmas.{contains_cases}
use Rattle.java_core.specs.Trees.{Ex, Exs, no_ex, ex_then, local, own_field, field, index, call, static_call, super_call, create, create_array, cast, instance_of, unary, binary, Target, to_local, to_static, to_own, to_field, to_element, no_target, St, Sts, IfArms, declare, block, assign, act, print, choose, loop, return, break, continue, no_st, st_then, no_other, otherwise, arm}
use Rattle.java_core.specs.Programs.{Plain, PlainMethod}
use Rattle.java_core.specs.Makers.{maker_of}
use Rattle.flow_rules.specs.declared.items.ObjectType.{ObjectType}
use Rattle.flow_rules.specs.declared.items.RowItem.TheVariants as row
use Rattle.flow_rules.specs.declared.items.Site.{Site}
use Rattle.flow_rules.specs.Labels.{label_sts}
use Rattle.flow_rules.specs.Operands.{type_in}
use Rattle.flow_rules.specs.Parts.{Part, a_creation, is_accessed, parts, parts_all, parts_if, parts_set, parts_return, parts_assign, parts_st, parts_sts, parts_arms, parts_body, parts_of}
use Rattle.flow_rules.specs.Numbered.{row_number, number_if, sites_of}
use Rattle.flow_laws.proofs.cover.Unique.{site_created}

-- what is created has the row of its creation
abbrev IsRowed : Part → Type 0
IsRowed (a_creation q u o s d es) = o.row ≡ option_map row.New o.created
IsRowed _ = Unit {0}

record AreRowed (ps : List Part) : Type 0 where
  each : (p : Part) → Contains ps p → IsRowed p

none : AreRowed []
none = record { each = λ p c. absurd (omega (arith, c.1)) }

cons : {q : Part} {ps : List Part} → IsRowed q → AreRowed ps → AreRowed (q ∷ ps)
cons {q} {ps} a b = record { each = λ p c. ⊎_elim (λ e. subst IsRowed e a) (λ d. b.each p d) (contains_cases q ps p c) }

join : {ps qs : List Part} → AreRowed ps → AreRowed qs → AreRowed (ps ++ qs)
join {ps} {qs} a b = record { each = λ p c. ⊎_elim (λ d. a.each p d) (λ d. b.each p d) (Contains-append_cases ps qs p c) }

module _ (P : Plain) (type : Ex → Option ObjectType) (m : ℕ) (k : PlainMethod) where
  mutual
    ex : (u : Bool) (e : Ex) → AreRowed (parts P type m k u e)
    ex u (own_field t f) = cons tt none
    ex u (field t e x) = join (ex (is_accessed e) e) (cons tt none)
    ex u (index t e i) = join (ex true e) (cons tt (ex false i))
    ex u (call t e x es) = join (ex true e) (cons tt (exs true es))
    ex u (static_call t d es) = cons tt (exs false es)
    ex u (super_call t x es) = cons tt (exs false es)
    ex u (create t n c es) = cons refl (exs (is_some (maker_of P c)) es)
    ex u (create_array t n v e) = cons refl (ex false e)
    ex u (cast t n v e) = cons tt (ex true e)
    ex u (instance_of t n e c) = join (ex true e) (cons tt none)
    ex u (unary t o e) = ex false e
    ex u (binary t o e d) = join (join (ex false e) (ex false d)) (cons tt none)
    ex u e = none

    exs : (u : Bool) (es : Exs) → AreRowed (parts_all P type m k u es)
    exs u no_ex = none
    exs u (ex_then e es) = join (ex u e) (exs u es)

  if_there : (e : Option Ex) → AreRowed (parts_if P type m k e)
  if_there None = none
  if_there (Some e) = ex false e

  set : (v : Ex) (e : Option Ex) → AreRowed (parts_set P type m k v e)
  set v None = none
  set v (Some e) = join (ex false e) (cons tt none)

  back : (e : Option Ex) → AreRowed (parts_return P type m k e)
  back None = none
  back (Some e) = join (ex false e) (cons tt none)

  assigned : (p : Place) (b : Target) (e : Ex) → AreRowed (parts_assign P type m k p b e)
  assigned p (to_local t i) e = join (ex false e) (cons tt none)
  assigned p (to_static t f) e = join (ex false e) (cons tt none)
  assigned p (to_own t f) e = join (ex true e) (cons tt none)
  assigned p (to_field t b x) e = join (join (ex (is_accessed b) b) (ex true e)) (cons tt none)
  assigned p (to_element t b i) e = join (join (join (ex true b) (ex false i)) (ex true e)) (cons tt none)
  assigned p no_target e = join (ex false e) (cons tt none)

  mutual
    st : (x : St) → AreRowed (parts_st P type m k x)
    st (declare t i e) = set (local t i) e
    st (block t xs) = sts xs
    st (assign t b e) = assigned t.place b e
    st (act t e) = ex false e
    st (print t n e) = if_there e
    st (choose t a) = arms a
    st (loop t w x e y xs) = join (join (join (sts x) (if_there e)) (sts y)) (sts xs)
    st (return t e) = back e
    st (break t) = none
    st (continue t) = none

    sts : (xs : Sts) → AreRowed (parts_sts P type m k xs)
    sts no_st = none
    sts (st_then x xs) = join (st x) (sts xs)

    arms : (a : IfArms) → AreRowed (parts_arms P type m k a)
    arms no_other = none
    arms (otherwise xs) = sts xs
    arms (arm e xs more) = join (join (ex false e) (sts xs)) (arms more)

  body : (o : Option Sts) → AreRowed (parts_body P type m k o)
  body None = none
  body (Some xs) = sts (label_sts 0 xs)

part_rowed : (P : Plain) (m : ℕ) (k : PlainMethod) → AreRowed (parts_of P m k)
unfolding parts_of
part_rowed P m k = body P (type_in P m k) m k k.body

pub site_row : (P : Plain) (s : ℕ) (z : Site) → slice_get (sites_of P) s ≡ Some z → row_number P (row.New z.number) ≡ Some z.row
site_row P s z e =
    let y = site_created P s z e in
    let is = (part_rowed P y.is_part.number y.is_part.method).each (a_creation y.place y.used y.operand y.slot y.declaration y.arguments) y.is_part.part in
    sym (ap (number_if (row_number P)) (is ∙ ap (option_map row.New) y.created)) ∙ y.numbered
