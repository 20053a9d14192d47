-- The names that are fixed for constructors, one after the other.
use Rattle.std.proofs.Common.{◌≡◌, ℕ, ◌+◌, ◌<◌, ◌^◌, Bool, true, false, List, [], ◌∷◌, ◌++◌, length, get_or, drop, map, sym, ap, ◌∙◌, subst, append_assoc, refl}
use Rattle.std.specs.Prelude.{◌==◌, not, String, string_bytes, codes, cond, Option, Some, None}
use Rattle.std.specs.Option.{is_some, option_map, option_map_or}
use Rattle.std.proofs.lemmas.Bool.{false≢true, true≢false}
use Rattle.std.specs.Fmt.{decimal}
use Rattle.std.specs.List.{list_any}
use Rattle.std.specs.Str.{bytes_eq, chars, encode_utf8_all, IsUtf8}
use Rattle.std.specs.declared.alloc.Global.{Global}
use Rattle.std.proofs.lemmas.Fmt.{IsAscii-decimal}
use Rattle.std.proofs.lemmas.List.{append-nil, drop_more, map-append}
use Rattle.std.proofs.lemmas.Str.{encodes-append, encodes-IsAscii, IsUtf8-had}
use Rattle.indexmap.specs.IndexSet.{insert_key}
use Rattle.fact_model.specs.FreeNames.{is_taken, free_name}
use Rattle.fact_model.specs.Taken.{texts}
use Rattle.fact_model.proofs.FreeLemmas.{free_name-free, taken_by, text_is}
use Rattle.flow_rules.specs.Facts as plain
use Rattle.flow_rules.specs.Facts.{fixed_from, wished_behind}
use Rattle.kaba_base.specs.declared.SiteId.{SiteId}
use Rattle.java_core.specs.Programs.{Plain, PlainMethod}
use Rattle.flow_rules.specs.Ordered.{each, when}
use Rattle.flow_rules.specs.Numbered.{sites_of}
use Rattle.flow_rules.specs.declared.items.Site.{Site}
use Rattle.flow_facts.specs.declared.fixed.FixedFor.{FixedFor}
use Rattle.flow_facts.specs.declared.fixed.FixedName.{FixedName}
use Rattle.flow_facts.specs.declared.fixed.Fixing.{Fixing}
use Rattle.flow_facts.specs.Fixed.{all_fixed, fixed_seen, for_seen, wished_make}

-- ---- a set that has one more text

-- a text is put behind the others where it is new
pub inserted_texts : (ks : List (String Global)) (s : String Global) (n : List ℕ) (b : Bool) → string_bytes s ≡ encode_utf8_all n
    → list_any (λ k. bytes_eq (string_bytes s) (string_bytes k)) ks ≡ b
    → texts (insert_key (λ x y. bytes_eq (string_bytes x) (string_bytes y)) ks s) ≡ texts ks ++ cond b [] (n ∷ [])
inserted_texts ks s n true e h = ap (λ c. texts (cond c ks (ks ++ s ∷ []))) h ∙ sym (append-nil (texts ks))
inserted_texts ks s n false e h =
    ap (λ c. texts (cond c ks (ks ++ s ∷ []))) h ∙ map-append (λ k. chars (string_bytes k)) ks (s ∷ []) ∙ ap (λ x. texts ks ++ x ∷ []) (text_is n s (sym e))

-- the same where it is known whether it was added
pub added_text : (ks : List (String Global)) (s : String Global) (n : List ℕ) (added : Bool) → string_bytes s ≡ encode_utf8_all n
    → added ≡ not (list_any (λ k. bytes_eq (string_bytes s) (string_bytes k)) ks)
    → texts (insert_key (λ x y. bytes_eq (string_bytes x) (string_bytes y)) ks s) ≡ texts ks ++ cond added (n ∷ []) []
added_text ks s n added e h =
    let there = list_any (λ k. bytes_eq (string_bytes s) (string_bytes k)) ks in
    inserted_texts ks s n there e refl ∙ ap (λ l. texts ks ++ l) (turned there) ∙ ap (λ b. texts ks ++ cond b (n ∷ []) []) (sym h)
  where
    turned : (b : Bool) → cond b [] (n ∷ []) ≡ cond (not b) (n ∷ []) []
    turned true = refl
    turned false = refl

-- a name that is free is put behind the others
pub free_text : (ks : List (String Global)) (s : String Global) (n : List ℕ) → string_bytes s ≡ encode_utf8_all n → is_taken (texts ks) n ≡ false
    → texts (insert_key (λ x y. bytes_eq (string_bytes x) (string_bytes y)) ks s) ≡ texts ks ++ n ∷ []
free_text ks s n e free =
    inserted_texts ks s n false e (taken_by (string_bytes s) (IsUtf8-had (string_bytes s) s.ok) ks ∙ ap (is_taken (texts ks)) (text_is n s (sym e)) ∙ free)

-- ---- one name more

pub fixed_step : (t u : List (List ℕ)) (old new : List FixedName) (of : FixedFor) (n w : List ℕ) → n ≡ free_name t w → (is_taken t n ≡ false → u ≡ t ++ n ∷ [])
    → new ≡ old ++ record { of = of; name = n } ∷ [] → (rest : List plain.FixedName)
    → map fixed_seen new ++ fixed_from u rest ≡ map fixed_seen old ++ fixed_from t (record { for = for_seen of; name = w } ∷ rest)
fixed_step t u old new of n w is more e rest =
    ap (λ l. map fixed_seen l ++ fixed_from u rest) e
    ∙ ap (λ l. l ++ fixed_from u rest) (map-append fixed_seen old (record { of = of; name = n } ∷ []))
    ∙ append_assoc (map fixed_seen old) (record { for = for_seen of; name = n } ∷ []) (fixed_from u rest)
    ∙ ap (λ v. map fixed_seen old ++ record { for = for_seen of; name = n } ∷ fixed_from v rest) (more (ap (is_taken t) is ∙ free_name-free t w))
    ∙ ap (λ m. map fixed_seen old ++ record { for = for_seen of; name = m } ∷ fixed_from (t ++ m ∷ []) rest) is

-- what the items of a list wish, before what follows
pub before_copied : {A C R : Type 0} (f : A → List C) (G H : List A → List C) → ((x : A) (r : List A) → G (x ∷ r) ≡ f x ++ H r) → (old new all : List C → R)
    → (xs ys : List A) (i : ℕ) (d : A) → ys ≡ xs → i < length ys → ((r : List C) → old (G (drop i xs) ++ r) ≡ all r)
    → ((r : List C) → new r ≡ old (f (get_or ys i d) ++ r)) → (r : List C) → new (H (drop (i + 1) xs) ++ r) ≡ all r
before_copied f G H is old new all xs ys i d s h e one r =
    let k : i < length xs = subst (λ l. i < length l) s h in
    one (H (drop (i + 1) xs) ++ r)
    ∙ ap old (ap (λ l. f (get_or l i d) ++ (H (drop (i + 1) xs) ++ r)) s ∙ sym (append_assoc (f (get_or xs i d)) (H (drop (i + 1) xs)) r)
    ∙ ap (λ l. l ++ r) (sym (is (get_or xs i d) (drop (i + 1) xs)) ∙ ap G (sym (drop_more xs i d k))))
    ∙ e r

-- the same for an item that is read where it stands
pub before : {A C R : Type 0} (f : A → List C) (G H : List A → List C) → ((x : A) (r : List A) → G (x ∷ r) ≡ f x ++ H r) → (old new all : List C → R)
    → (xs ys : List A) (i : ℕ) (d : A) → ys ≡ xs → i < length ys → d ≡ get_or ys i d → ((r : List C) → old (G (drop i xs) ++ r) ≡ all r)
    → ((r : List C) → new r ≡ old (f d ++ r)) → (r : List C) → new (H (drop (i + 1) xs) ++ r) ≡ all r
before f G H is old new all xs ys i d s h at e one =
    before_copied f G H is old new all xs ys i d s h e (λ r. one r ∙ ap (λ x. old (f x ++ r)) at)

-- ---- the parts of all that is fixed

-- the name of a slot, where the class has a constructor
pub init_fixed : {R : Type 0} (old new : List plain.FixedName → R) (b : Bool) (c : ℕ) (x w : List ℕ) → b ≡ true → w ≡ codes "init_" ++ x
    → ((r : List plain.FixedName) → new r ≡ old (record { for = plain.an_init c; name = w } ∷ r)) → (r : List plain.FixedName)
    → new r ≡ old (when b (record { for = plain.an_init c; name = codes "init_" ++ x } ∷ []) ++ r)
init_fixed old new b c x w t e h r = h r ∙ ap (λ n. old (record { for = plain.an_init c; name = n } ∷ r)) e
    ∙ ap (λ d. old (when d (record { for = plain.an_init c; name = codes "init_" ++ x } ∷ []) ++ r)) (sym t)

pub some_mapped : {A B : Type 0} (f : A → B) (o : Option A) (m : Option B) → is_some o ≡ true → option_map f o ≡ m → is_some m ≡ true
some_mapped f None m t e = absurd (false≢true t)
some_mapped f (Some x) m t e = ap is_some (sym e)

-- the name of a slot, as the columns of its methods have it
pub slot_name : {A : Type 0} (f : A → List ℕ) (P : Plain) (k : PlainMethod) (fs : List plain.FixedName) (o : Option A)
    → option_map f o ≡ plain.name_for (plain.an_init k.owner) fs → fs ≡ plain.fixed_names P → plain.is_marked k.name ≡ true
    → option_map_or f o [] ≡ plain.column_name P k
slot_name {A = A} f P k fs o e h t =
    let name : List plain.FixedName → List ℕ = λ l. option_map_or (λ n. n) (plain.name_for (plain.an_init k.owner) l) [] in
    mapped o ∙ ap (λ q. option_map_or (λ n. n) q []) e ∙ ap name h ∙ ap (λ b. cond b (name (plain.fixed_names P)) k.name) (sym t)
  where
    mapped : (p : Option A) → option_map_or f p [] ≡ option_map_or (λ n. n) (option_map f p) []
    mapped None = refl
    mapped (Some x) = refl

pub own_name : (P : Plain) (k : PlainMethod) → plain.is_marked k.name ≡ false → k.name ≡ plain.column_name P k
own_name P k t = ap (λ b. cond b (option_map_or (λ n. n) (plain.name_for (plain.an_init k.owner) (plain.fixed_names P)) []) k.name) (sym t)

-- the names of the holder, of the local and of the methods, where there is a site
pub makes_fixed : {R : Type 0} (old holder local new : List plain.FixedName → R) (xs : List SiteId) → (length xs == 0) ≡ false
    → ((r : List plain.FixedName) → holder r ≡ old (record { for = plain.the_holder; name = codes "Makers" } ∷ r))
    → ((r : List plain.FixedName) → local r ≡ holder (record { for = plain.the_local; name = codes "made" } ∷ r))
    → ((r : List plain.FixedName) → new r ≡ local (map wished_make xs ++ r)) → (r : List plain.FixedName)
    → new r ≡ old (wished_behind (map wished_make xs) ++ r)
makes_fixed old holder local new [] some a b e r = absurd (true≢false some)
makes_fixed old holder local new (x ∷ xs) some a b e r =
    e r ∙ b (map wished_make (x ∷ xs) ++ r) ∙ a (record { for = plain.the_local; name = codes "made" } ∷ (map wished_make (x ∷ xs) ++ r))

-- all that is fixed
pub fixed_whole : (P : Plain) (first inits all : Fixing) (sites : List Site) (made : List SiteId) → first.fixed.items ≡ []
    → texts first.taken.keys ≡ plain.text_words P → sites ≡ sites_of P → map wished_make made ≡ each (plain.wished_makes P) 0 sites
    → ((r : List plain.FixedName) → all_fixed inits r ≡ all_fixed first (each (plain.wished_inits P) 0 P.classes ++ r))
    → ((r : List plain.FixedName) → all_fixed all r ≡ all_fixed inits (wished_behind (map wished_make made) ++ r))
    → map fixed_seen all.fixed.items ≡ plain.fixed_names P
fixed_whole P first inits all sites made none taken s m a b =
    let slots = each (plain.wished_inits P) 0 P.classes in
    let makes = wished_behind (map wished_make made) in
    sym (append-nil (map fixed_seen all.fixed.items)) ∙ b [] ∙ a (makes ++ [])
    ∙ ap (λ l. map fixed_seen l ++ fixed_from (texts first.taken.keys) (slots ++ (makes ++ []))) none
    ∙ ap (λ t. fixed_from t (slots ++ (makes ++ []))) taken
    ∙ ap (λ l. fixed_from (plain.text_words P) (slots ++ l))
    (append-nil makes ∙ ap wished_behind (m ∙ ap (each (plain.wished_makes P) 0) s))

-- ---- the texts that are wished

pub init_text : (s : String Global) (x : List ℕ) → string_bytes s ≡ codes "init_" ++ encode_utf8_all x → chars (string_bytes s) ≡ codes "init_" ++ x
unfolding lib.Utf8.encode
init_text s x e = text_is (codes "init_" ++ x) s (encodes-append (codes "init_") x ∙ sym e)

pub make_text : (s : String Global) (n : ℕ) → n < 2 ^ 64 → string_bytes s ≡ codes "make_" ++ decimal n → chars (string_bytes s) ≡ codes "make_" ++ decimal n
unfolding lib.Utf8.encode
make_text s n fits e = text_is (codes "make_" ++ decimal n) s (encodes-append (codes "make_") (decimal n)
    ∙ ap (λ (d : List ℕ). codes "make_" ++ d) (encodes-IsAscii (decimal n) (IsAscii-decimal n fits)) ∙ sym e)

pub holder_text : (s : String Global) → string_bytes s ≡ codes "Makers" → chars (string_bytes s) ≡ codes "Makers"
unfolding lib.Utf8.encode
holder_text s e = text_is (codes "Makers") s (sym e)

pub local_text : (s : String Global) → string_bytes s ≡ codes "made" → chars (string_bytes s) ≡ codes "made"
unfolding lib.Utf8.encode
local_text s e = text_is (codes "made") s (sym e)
