-- How the code of a constructor begins: with the call of that of the superclass, or with its own statements.
use Rattle.std.proofs.Common.{◌≡◌, ◌⊎◌, inl, inr, Bool, true, false, List, Option, Some, None, refl, sym, ap, ◌∙◌, ◌||◌}
use Rattle.std.specs.Prelude.{slice_get, if◌then◌else◌}
use Rattle.std.specs.Option.{is_some, option_map_or}
use Rattle.std.proofs.lemmas.Bool.{false≢true}
use Rattle.kaba_base.specs.declared.ClassId.{ClassId}
use Rattle.java_tree.specs.Syntax.{Expressions}
use Rattle.java_core.specs.Trees.{at_place, Exs, no_ex, ex_then, Sts, st_then}
use Rattle.java_core.specs.Programs.{Plain, PlainClass}
use Rattle.java_core.specs.Classes.{parent_of}
use Rattle.java_core.specs.Makers.{maker_of, call_above}
use Rattle.name_rules.specs.declared.parts.Bound.{Bound}
use Rattle.name_rules.specs.Outline.{MethodAt}
use Rattle.name_laws.proofs.Sees.{same_some}
use Rattle.name_rules.specs.Resolves.{r_no_more, r_and_more, UpResolves, r_no_up, r_up, has_arguments, after_call, maker_code}

-- without arguments there are none
pub no-arguments : (es : Exs) → has_arguments es ≡ false → es ≡ no_ex
no-arguments no_ex e = refl
no-arguments (ex_then x xs) e = absurd (false≢true (sym e))

module _ (O : Plain) (m : MethodAt) where
  -- as many arguments, where they are those of one tree
  pub args-alike : {scope : List Bound} {up : Option Expressions} {es us : Exs} → UpResolves O m scope up es → UpResolves O m scope up us
      → has_arguments es ≡ has_arguments us
  args-alike r_no_up r_no_up = refl
  args-alike (r_up r_no_more) (r_up r_no_more) = refl
  args-alike (r_up (r_and_more a b)) (r_up (r_and_more c d)) = refl

  -- it begins with its statements
  pub record BeginsBare (v : Bool) : Type 0 where
    pub is : (es : Exs) (xs : Sts) → has_arguments es ≡ v → maker_code O m es xs ≡ xs
    pub none : (b : ClassId) (k : PlainClass) → parent_of O m.owner ≡ Some b → slice_get O.classes b.0 ≡ Some k → is_some (maker_of O b.0) || v ≡ false

  -- it begins with the call of the superclass's constructor
  pub record BeginsAbove (v : Bool) : Type 0 where
    pub above : ClassId
    pub parent : parent_of O m.owner ≡ Some above
    pub class : PlainClass
    pub stands : slice_get O.classes above.0 ≡ Some class
    pub is : (es : Exs) (xs : Sts) → has_arguments es ≡ v → maker_code O m es xs ≡ st_then (call_above (at_place m.head.place) class.name es) xs

  by-parent : (es : Exs) (xs : Sts) (o : Option ClassId) → parent_of O m.owner ≡ o
      → maker_code O m es xs ≡ option_map_or (λ b. after_call O b m.head.place es xs) o xs
  by-parent es xs o e = ap (λ z. option_map_or (λ b. after_call O b m.head.place es xs) z xs) e

  by-test : (es : Exs) (xs : Sts) (b : ClassId) (v u : Bool) → has_arguments es ≡ v → is_some (maker_of O b.0) || v ≡ u
      → after_call O b m.head.place es xs
      ≡ (if u then option_map_or (λ k. st_then (call_above (at_place m.head.place) k.name es) xs) (slice_get O.classes b.0) xs else xs)
  by-test es xs b v u e f =
      ap (λ z. if z then option_map_or (λ k. st_then (call_above (at_place m.head.place) k.name es) xs) (slice_get O.classes b.0) xs else xs)
      (ap (λ z. is_some (maker_of O b.0) || z) e ∙ f)

  pub begins : (v : Bool) → BeginsBare v ⊎ BeginsAbove v
  begins v = go (parent_of O m.owner) refl
    where
      at : (b : ClassId) → parent_of O m.owner ≡ Some b → (u : Bool) → is_some (maker_of O b.0) || v ≡ u → (o : Option PlainClass)
          → slice_get O.classes b.0 ≡ o → BeginsBare v ⊎ BeginsAbove v
      at b up false t o e = inl (record {
        is = λ es xs a. by-parent es xs (Some b) up ∙ by-test es xs b v false a t;
        none = λ c k up2 there. ap (λ z. is_some (maker_of O z.0) || v) (same_some (sym up2 ∙ up)) ∙ t;
      })
      at b up true t None e = inl (record {
        is = λ es xs a. by-parent es xs (Some b) up ∙ by-test es xs b v true a t
            ∙ ap (λ z. option_map_or (λ k. st_then (call_above (at_place m.head.place) k.name es) xs) z xs) e;
        none = λ c k up2 there. absurd (cc (sym e ∙ ap (λ z. slice_get O.classes z.0) (same_some (sym up ∙ up2)) ∙ there));
      })
      at b up true t (Some k) e = inr (record {
        above = b;
        parent = up;
        class = k;
        stands = e;
        is = λ es xs a. by-parent es xs (Some b) up ∙ by-test es xs b v true a t
            ∙ ap (λ z. option_map_or (λ k. st_then (call_above (at_place m.head.place) k.name es) xs) z xs) e;
      })

      go : (o : Option ClassId) → parent_of O m.owner ≡ o → BeginsBare v ⊎ BeginsAbove v
      go None up = inl (record { is = λ es xs a. by-parent es xs None up; none = λ b k up2 there. absurd (cc (sym up ∙ up2)) })
      go (Some b) up = at b up (is_some (maker_of O b.0) || v) refl (slice_get O.classes b.0) refl
