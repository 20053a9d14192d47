-- Words as names and as nodes.
use Rattle.std.proofs.Common.{◌≡◌, ◌∷◌, ◌++◌, [], ℕ, true, List, map, sym, ◌∙◌, ap, Result, Ok, Err, IfOk, Option, Some, None, MatchOption}
use Rattle.std.specs.List.{All}
use Rattle.std.specs.Str.{IsUtf8, all_scalars, chars, encode_utf8_all}
use Rattle.std.specs.declared.alloc.AllocError.{AllocError}
use Rattle.std.proofs.lemmas.Str.{encodes-chars, scalars-chars}
use Rattle.std.proofs.lemmas.List.Elements.{All-head, All-tail}
use Rattle.kaba_base.specs.declared.NodeId.{NodeId}
use Rattle.edit_script.specs.Script.{node_word, IsNode}

-- the characters of a word write it
pub name_written : (word : List ℕ) (r : Result (List ℕ) AllocError) → IsUtf8 word → IfOk r (λ name. name ≡ chars word)
    → IfOk r (λ name. (word ≡ encode_utf8_all name) × (all_scalars name ≡ true))
name_written word (Err e) utf8 h = tt
name_written word (Ok name) utf8 h = (sym (encodes-chars word utf8) ∙ ap encode_utf8_all (sym h), ap all_scalars h ∙ scalars-chars word utf8)

-- each of the words is that of a node
pub node_words : (front : List NodeId) (word : List ℕ) (rest : List (List ℕ)) (nodes : List NodeId)
    → All IsNode nodes → map node_word nodes ≡ map node_word front ++ word ∷ rest → (n : NodeId) × IsNode n × (word ≡ node_word n)
node_words [] word rest [] are e = let e : [] ≡ word ∷ rest = e in cc
node_words [] word rest (n ∷ nodes) are e = (n, All-head IsNode n nodes are, let e : node_word n ∷ map node_word nodes ≡ word ∷ rest = e in cc)
node_words (m ∷ front) word rest [] are e = let e : [] ≡ node_word m ∷ (map node_word front ++ word ∷ rest) = e in cc
node_words (m ∷ front) word rest (n ∷ nodes) are e =
    node_words front word rest nodes (All-tail IsNode n nodes are)
    (let e : node_word n ∷ map node_word nodes ≡ node_word m ∷ (map node_word front ++ word ∷ rest) = e in cc)

-- a word that is none of a node's
pub none_named : (word : List ℕ) (read : Option NodeId) → read ≡ None
    → MatchOption read ((n : NodeId) → IsNode n → word ≡ node_word n → ⊥) (λ n. word ≡ node_word n) → (n : NodeId) → IsNode n → word ≡ node_word n → ⊥
none_named word None e h = h
none_named word (Some m) e h = let e : Some m ≡ None = e in cc
