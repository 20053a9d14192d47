-- What the tables of a scope find is what the list of what is in scope says.
use Rattle.std.proofs.Common.{◌≡◌, ℕ, Bool, true, false, cond, List, [], ◌∷◌, ◌++◌, map, Option, Some, None, refl, sym, ap, ◌∙◌}
use Rattle.std.specs.Prelude.{String, string_bytes, string_eq}
use Rattle.std.specs.Map.{lookup}
use Rattle.std.specs.Str.{bytes_eq, chars, encode_utf8_all}
use Rattle.std.specs.declared.alloc.Global.{Global}
use Rattle.std.proofs.lemmas.Str.{chars_from_encodes, IsUtf8-had}
use Rattle.std.proofs.lemmas.List.{append_assoc, map-append}
use Rattle.indexmap.specs.IndexMap.{insert_entry}
use Rattle.java_core.specs.Classes.{first_or}
use Rattle.name_rules.specs.declared.parts.Bound.{Bound}
use Rattle.name_rules.specs.Meanings.{local_of}
use Rattle.name_rules.specs.Resolves.{bound}
use Rattle.name_tables.specs.declared.scope.Block.{Block, Block', None', Some', out-Block, roll-Block}
use Rattle.name_tables.specs.Scopes.{bound_seen, own_bounds, bounds_in}
use Rattle.name_tables.proofs.TypeTable.{same-text}

-- a name is found under its number
pub bound-found : (n : List ℕ) (es : List (String Global × ℕ)) → lookup (λ s. bytes_eq (encode_utf8_all n) (string_bytes s)) es
    ≡ local_of n (map bound_seen es)
bound-found n [] = refl
bound-found n (e ∷ es) =
    ap (λ b. cond b (Some e.1) (lookup (λ s. bytes_eq (encode_utf8_all n) (string_bytes s)) es)) (same-text n e.0)
    ∙ ap (cond (bytes_eq (chars (string_bytes e.0)) n) (Some e.1)) (bound-found n es)

-- a new name goes last
appended : (n : List ℕ) (text : String Global) (k : ℕ) (es : List (String Global × ℕ)) → string_bytes text ≡ encode_utf8_all n
    → local_of n (map bound_seen es) ≡ None → insert_entry string_eq es text k ≡ es ++ (text, k) ∷ []
appended n text k [] is none = refl
appended n text k (e ∷ es) is none = go (bytes_eq (chars (string_bytes e.0)) n) refl (appended n text k es is)
  where
    other : string_eq text e.0 ≡ bytes_eq (chars (string_bytes e.0)) n
    other = ap (λ z. bytes_eq z (string_bytes e.0)) is ∙ same-text n e.0

    go : (c : Bool) → bytes_eq (chars (string_bytes e.0)) n ≡ c → (local_of n (map bound_seen es) ≡ None → insert_entry string_eq es text k
        ≡ es ++ (text, k) ∷ []) → insert_entry string_eq (e ∷ es) text k ≡ e ∷ (es ++ (text, k) ∷ [])
    go true f more = absurd (cc (sym (ap (λ z. cond z (Some e.1) (local_of n (map bound_seen es))) f) ∙ none))
    go false f more =
        ap (λ z. cond z ((e.0, k) ∷ es) (e ∷ insert_entry string_eq es text k)) (other ∙ f)
        ∙ ap (λ z. e ∷ z) (more (sym (ap (λ z. cond z (Some e.1) (local_of n (map bound_seen es))) f) ∙ none))

pub bound-added : (n : List ℕ) (text : String Global) (k : ℕ) (es : List (String Global × ℕ)) → string_bytes text ≡ encode_utf8_all n
    → local_of n (map bound_seen es) ≡ None → map bound_seen (insert_entry string_eq es text k) ≡ bound (map bound_seen es) n k
bound-added n text k es is none =
    ap (map bound_seen) (appended n text k es is none) ∙ map-append bound_seen es ((text, k) ∷ [])
    ∙ ap (λ z. map bound_seen es ++ record { name = z; number = k } ∷ [])
    (sym (chars_from_encodes n (string_bytes text) (IsUtf8-had (string_bytes text) text.ok) (sym is)))

-- what is in scope around comes first
pub in_both : (n : List ℕ) (xs ys : List Bound) → local_of n (xs ++ ys) ≡ first_or (local_of n xs) (local_of n ys)
in_both n [] ys = refl
in_both n (x ∷ xs) ys = go (bytes_eq x.name n) (local_of n (xs ++ ys)) (local_of n xs) (in_both n xs ys)
  where
    go : (b : Bool) (o p : Option ℕ) → o ≡ first_or p (local_of n ys) → cond b (Some x.number) o ≡ first_or (cond b (Some x.number) p) (local_of n ys)
    go true o p h = refl
    go false o p h = h

-- ---- the same in the words of a block

pub own_found : (n : List ℕ) (b : Block) → lookup (λ s. bytes_eq (encode_utf8_all n) (string_bytes s)) (out-Block b).own.entries ≡ local_of n (own_bounds b)
unfolding out-Block denote.Hole.Carrier.out
own_found n (Block' own outer) = bound-found n own.entries

-- what is in scope in a block within another
pub within : (b o : Block) (p : _) → (out-Block b).outer ≡ Some (record { ref_ptr = p; now = o }) → bounds_in b ≡ bounds_in o ++ own_bounds b
unfolding out-Block denote.Hole.Carrier.out
within (Block' own None') o p e = absurd (cc e)
within (Block' own (Some' q inner)) o p e = ap (λ x. bounds_in x ++ map bound_seen own.entries) (ap (λ z. elim z [ Some x ↦ x.now | None ↦ inner ]) e)

none_second : (o p : Option ℕ) → first_or o p ≡ None → p ≡ None
none_second None p e = e
none_second (Some k) p e = absurd (cc e)

-- a block that declares one name more
pub grown : (b d : Block) (s : _) (n : List ℕ) (text : String Global) (k : ℕ) → d ≡ roll-Block s
    → s.own.entries ≡ insert_entry string_eq (out-Block b).own.entries text k → string_bytes text ≡ encode_utf8_all n → local_of n (bounds_in b) ≡ None
    → bounds_in (roll-Block (record { own = s.own; outer = (out-Block b).outer })) ≡ bound (bounds_in b) n k
unfolding out-Block roll-Block denote.Hole.Carrier.out denote.Hole.Carrier.roll
grown (Block' own None') d s n text k e entries is fresh = ap (map bound_seen) entries ∙ bound-added n text k own.entries is fresh
grown (Block' own (Some' q inner)) d s n text k e entries is fresh =
    ap (λ z. bounds_in inner ++ map bound_seen z) entries
    ∙ ap (λ z. bounds_in inner ++ z) (bound-added n text k own.entries is
    (none_second (local_of n (bounds_in inner)) (local_of n (map bound_seen own.entries))
    (sym (in_both n (bounds_in inner) (map bound_seen own.entries)) ∙ fresh)))
    ∙ sym (append_assoc (bounds_in inner) (map bound_seen own.entries) (record { name = n; number = k } ∷ []))
