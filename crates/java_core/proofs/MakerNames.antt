-- The name of a constructor, as bytes and as characters; where the constructor of a class is looked for.
use Rattle.std.proofs.Common.{◌≡◌, ℕ, ◌-◌, ◌<◌, ◌≤◌, ◌&&◌, Bool, true, false, not, List, [], ◌∷◌, length, take, drop, refl, ◌∙◌, sym, ap, subst, slice_index_or, nat_eq, arith}
use Rattle.std.specs.Prelude.{◌==◌}
use Rattle.std.specs.Str.{bytes_eq, chars, encode_utf8_all, IsUtf8}
use Rattle.std.proofs.Math.Utf8.{scalars, encode}
use Rattle.std.proofs.lemmas.Str.{chars-encodes}
use Rattle.std.proofs.lemmas.List.{take_all}
use Rattle.std.proofs.lemmas.Bool.{and_parts, eqb-true, eq-eqb}
use Rattle.std.proofs.lemmas.Slice.Eq.{bytes_eq-Decides}
use Rattle.kaba_base.proofs.Texts.{text_test, encodes-same}
use Rattle.java_core.specs.declared.Method.{Method}
use Rattle.java_core.specs.Programs.{method_seen}
use Rattle.java_core.specs.Classes.{is_method_of}
use Rattle.java_core.specs.MemberKeys.{method_keys}
use Rattle.java_core.specs.declared.tables.MemberKey.TheVariants as key
use Rattle.java_core.specs.Tables.{name_bucket, place_by}
use Rattle.java_core.specs.Makers.{maker_name}

-- ---- the mark before a name

pub by_bytes : (x y : List ℕ) → bytes_eq (encode_utf8_all x) (60 ∷ encode_utf8_all y) ≡ bytes_eq x (maker_name y)
unfolding encode
by_bytes x y = text_test x (60 ∷ y)

pub none_begins : (bs e : List ℕ) → length bs < 1 → false ≡ bytes_eq bs (60 ∷ e)
none_begins [] e h = refl
none_begins (b ∷ bs) e h = absurd (omega (arith, h))

pub other_begins : (bs e : List ℕ) → 1 ≤ length bs → (slice_index_or bs 0 0 ≡ 60 → ⊥) → nat_eq (slice_index_or bs 0 0) 60 ≡ bytes_eq bs (60 ∷ e)
other_begins [] e h other = absurd (omega (arith, h))
other_begins (b ∷ bs) e h other = go (nat_eq b 60) refl
  where
    go : (t : Bool) → nat_eq b 60 ≡ t → nat_eq b 60 ≡ (nat_eq b 60 && bytes_eq bs e)
    go true is = absurd (other (eqb-true b 60 is))
    go false is = is ∙ sym (ap (λ u. u && bytes_eq bs e) is)

pub begins_so : (t : Bool) (bs e : List ℕ) → 1 ≤ length bs → slice_index_or bs 0 0 ≡ 60 → t ≡ bytes_eq (take (length bs - 1) (drop 1 bs)) e
    → t ≡ bytes_eq bs (60 ∷ e)
begins_so t [] e h is same = absurd (omega (arith, h))
begins_so t (b ∷ bs) e h is same = same ∙ ap (λ l. bytes_eq l e) (take_all (length (b ∷ bs) - 1) bs (omega arith))
    ∙ sym (ap (λ u. u && bytes_eq bs e) (eq-eqb b 60 is))

pub marked_chars : (x : List ℕ) → scalars x ≡ true → chars (60 ∷ encode_utf8_all x) ≡ maker_name x
unfolding encode
marked_chars x s = chars-encodes (60 ∷ x) s

-- what is UTF-8 as bytes is whole characters
pub whole_chars : (x : List ℕ) → IsUtf8 (encode_utf8_all x) → scalars x ≡ true
whole_chars x u = subst (λ z. scalars z ≡ true) (encodes-same u.0 x u.1.1) u.1.0

-- ---- where a constructor is looked for

pub maker_owner : (c : ℕ) (x : List ℕ) (m : Method) → is_method_of c (maker_name x) (method_seen m) ≡ true → m.owner.0 ≡ c
maker_owner c x m e = eqb-true m.owner.0 c (and_parts (m.owner.0 == c) (not m.is_static && bytes_eq m.name (maker_name x)) e).0

pub maker_there : (n c : ℕ) (x : List ℕ) (m : Method) → is_method_of c (maker_name x) (method_seen m) ≡ true
    → place_by key.OwnerAndName n (method_keys m) ≡ name_bucket n c (maker_name x)
maker_there n c x m e =
    let z = and_parts (m.owner.0 == c) (not m.is_static && bytes_eq m.name (maker_name x)) e in
    let named = (bytes_eq-Decides m.name (maker_name x)).0 (and_parts (not m.is_static) (bytes_eq m.name (maker_name x)) z.1).1 in
    ap (λ k. name_bucket n k m.name) (eqb-true m.owner.0 c z.0) ∙ ap (name_bucket n c) named
