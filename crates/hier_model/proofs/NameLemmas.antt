-- The names that a hierarchy starts with.
use Rattle.std.proofs.Common.{◌≡◌, ℕ, suc, ◌+◌, ◌<◌, true, List, [], ◌∷◌, ◌++◌, sym, ap, ◌∙◌}
use Rattle.std.specs.Prelude.{string_bytes, String, cond}
use Rattle.std.specs.Str.{chars, encode_utf8_all}
use Rattle.std.specs.declared.alloc.Global.{Global}
use Rattle.std.proofs.lemmas.Str.{encodes-append}
use Rattle.fact_model.proofs.FreeLemmas.{text_is, free_name-same}
use Rattle.fact_model.specs.FreeNames.{free_name}
use Rattle.hier_model.specs.Names.{joined, class_name, is_shared, named_member}
use Rattle.fact_model.specs.Taken.{AreSameNames}
use Rattle.std.proofs.Common.{add-one, ◌^◌}
use Rattle.std.specs.Fmt.{decimal}
use Rattle.std.proofs.lemmas.Str.{encodes-IsAscii}
use Rattle.std.proofs.lemmas.Fmt.{IsAscii-decimal}
use Rattle.fact_model.specs.Items.{column_at, column_class}
use Rattle.fact_model.specs.InOrder.{name_of}
use Rattle.fact_model.specs.declared.facts.Facts.{Facts}
use Rattle.fact_model.specs.declared.facts.ColumnInfo.{ColumnInfo}

-- texts joined by an underscore spell names joined so
pub joined_text : (s : String Global) (a b : List ℕ) → string_bytes s ≡ encode_utf8_all a ++ 95 ∷ encode_utf8_all b → chars (string_bytes s) ≡ joined a b
unfolding lib.Utf8.encode
joined_text s a b e = text_is (joined a b) s (encodes-append a (95 ∷ b) ∙ sym e)

-- the name of a field that shares its own with one above
pub named_shared : (F : Facts) (given t : List (List ℕ)) (c : ℕ) (k : ColumnInfo) (base : String Global) (n : List ℕ) → k ≡ column_at F c → is_shared F c ≡ true
    → string_bytes base ≡ encode_utf8_all k.name ++ 95 ∷ encode_utf8_all (class_name F k.class.0) → AreSameNames t (F.words.items ++ given)
    → n ≡ free_name t (chars (string_bytes base)) → n ≡ named_member F given c
named_shared F given t c k base n e shared b same is =
    let base_is : chars (string_bytes base) ≡ joined (name_of F c) (class_name F (column_class F c)) =
    joined_text base k.name (class_name F k.class.0) b ∙ ap (λ (x : ColumnInfo). joined x.name (class_name F x.class.0)) e in
    is ∙ ap (free_name t) base_is ∙ free_name-same t (F.words.items ++ given) (joined (name_of F c) (class_name F (column_class F c))) same
    ∙ ap (λ x. cond x (free_name (F.words.items ++ given) (joined (name_of F c) (class_name F (column_class F c)))) (name_of F c)) (sym shared)

-- the name of a type
pub typed_name : (F : Facts) (given t : List (List ℕ)) (class : List ℕ) (k : ℕ) (base : String Global) (n : List ℕ) → k < 2 ^ 64
    → string_bytes base ≡ encode_utf8_all class ++ 95 ∷ decimal k → AreSameNames t (F.words.items ++ given) → n ≡ free_name t (chars (string_bytes base))
    → n ≡ free_name (F.words.items ++ given) (joined class (decimal k))
typed_name F given t class k base n fits b same is =
    let base_is : chars (string_bytes base) ≡ joined class (decimal k) = joined_text base class (decimal k) (b
    ∙ ap (λ (d : List ℕ). encode_utf8_all class ++ 95 ∷ d) (sym (encodes-IsAscii (decimal k) (IsAscii-decimal k fits)))) in
    is ∙ ap (free_name t) base_is ∙ free_name-same t (F.words.items ++ given) (joined class (decimal k)) same

-- one name more of a list where each is given after those before it
pub grown : (f : ℕ → List (List ℕ)) (n : ℕ) (x : List ℕ) (old new : List (List ℕ)) → new ≡ old ++ x ∷ [] → old ≡ f n → f (suc n) ≡ f n ++ x ∷ []
    → new ≡ f (n + 1)
grown f n x old new e before step = e ∙ ap (λ l. l ++ x ∷ []) before ∙ sym step ∙ ap f (sym (add-one n))
