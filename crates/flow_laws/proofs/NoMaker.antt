-- A program has no constructor where each method has a name of the text.
use Rattle.std.proofs.Common.{◌≡◌, ℕ, List, Option, Some, None, refl, ap, subst}
use Rattle.std.specs.Prelude.{◌==◌, ◌&&◌, not, true, slice_get, option_and_then}
use Rattle.std.specs.Str.{bytes_eq}
use Rattle.std.proofs.lemmas.Bool.{false≢true, and_parts}
use Rattle.std.proofs.lemmas.Slice.Eq.{bytes_eq-Decides}
use Rattle.ucd_derived.specs.Binary.{is_xid_start}
use Rattle.ucd_derived.specs.XidStartRanges.{xid_start_ranges}
use Rattle.ucd_table.specs.Rows.{in_ranges}
use Rattle.kaba_base.specs.Words.{is_name}
use Rattle.java_core.specs.Programs.{Plain, PlainClass, PlainMethod}
use Rattle.java_core.specs.Classes.{is_method_of, own_method, slot_of_method}
use Rattle.java_core.specs.Makers.{maker_name, maker_slot, HasNoMaker}
use Rattle.java_core.proofs.Positions.{position-passes}

-- the name of a constructor is no name of the text
pub maker_no_name : (x : List ℕ) → is_name (maker_name x) ≡ true → ⊥
unfolding is_xid_start in_ranges xid_start_ranges
maker_no_name x n = false≢true n

-- a program has no constructor where each of its methods has a name of the text
pub named_no_maker : (P : Plain) → ((m : ℕ) (k : PlainMethod) → slice_get P.methods m ≡ Some k → is_name k.name ≡ true) → HasNoMaker P
named_no_maker P names c = at (slice_get P.classes c)
  where
    found : (x : List ℕ) (o : Option ℕ) → own_method P c (maker_name x) ≡ o → o ≡ None
    found x None e = refl
    found x (Some m) e =
        let z = position-passes (λ k. is_method_of c (maker_name x) k) P.methods m e in
        let w = and_parts (z.0.owner == c) (not z.0.is_static && bytes_eq z.0.name (maker_name x)) z.2 in
        let v = and_parts (not z.0.is_static) (bytes_eq z.0.name (maker_name x)) w.1 in
        absurd (maker_no_name x (subst (λ y. is_name y ≡ true) ((bytes_eq-Decides z.0.name (maker_name x)).0 v.1) (names m z.0 z.1)))

    at : (o : Option PlainClass) → option_and_then (λ k. own_method P c (maker_name k.name)) o ≡ None
    at None = refl
    at (Some k) = found k.name (own_method P c (maker_name k.name)) refl

-- no class makes its objects by one
pub no_slot : (P : Plain) → HasNoMaker P → (c : ℕ) → maker_slot P c ≡ None
no_slot P none c = ap (option_and_then (slot_of_method P)) (none c)
