-- A script has one list of edits, or one first bad line.
use Rattle.std.proofs.Common.{◌≡◌, inl, inr, ⊎_elim, ℕ, ◌+◌, List, [], ◌∷◌, length, map, codes, Ok, refl, sym, ap, ◌∙◌, subst, arith}
use Rattle.std.specs.Prelude.{All}
use Rattle.std.specs.List.{filter, onto_first}
use Rattle.std.specs.Fmt.{decimal}
use Rattle.std.proofs.lemmas.Fmt.{decimal_injective}
use Rattle.std.proofs.lemmas.List.Splits.{slice_split-cons_no}
use Rattle.std.proofs.lemmas.List.Elements.{All-head, All-tail}
use Rattle.kaba_base.specs.declared.NodeId.{NodeId}
use Rattle.kaba_base.specs.declared.ColId.{ColId}
use Rattle.kaba_base.proofs.Texts.{encodes-same}
use Rattle.hier_model.specs.declared.edits.Edit.{Edit}
use Rattle.hier_model.specs.declared.edits.Edit.TheVariants.{Merge, Under, Move, TypeName, MemberName, Drop}
use Rattle.hier_model.specs.declared.edits.Act.{Act}
use Rattle.hier_model.specs.declared.edits.Act.TheVariants as acts
use Rattle.hier_model.specs.declared.edits.ChangeFault.TheVariants.{UnknownNode, Cycle}
use Rattle.hier_model.specs.Hierarchies.{Hierarchy}
use Rattle.hier_model.specs.Edits.{first_unknown, first_between, merged, unless, changed}
use Rattle.fact_model.specs.declared.facts.Facts.{Facts}
use Rattle.edit_script.specs.declared.lines.Line.{Line}
use Rattle.edit_script.specs.Script.{is_space, is_there, parts_of, words_in, node_word, column_word, words_of, IsId, IsNode, IsSound, IsComment, WritesAct, IsActLine, IsBadLine, IsNextAct, AreEditsFrom, AreEditsOf, IsFirstBadFrom, IsFirstBadLine, lines_of}

heads : {A : Type 0} {x y : A} {xs ys : List A} → x ∷ xs ≡ y ∷ ys → x ≡ y
heads e = cc e

tails : {A : Type 0} {x y : A} {xs ys : List A} → x ∷ xs ≡ y ∷ ys → xs ≡ ys
tails e = cc e

-- ---- words

one_id : (x m n : ℕ) → IsId m → IsId n → x ∷ decimal m ≡ x ∷ decimal n → m ≡ n
one_id x m n a b e = decimal_injective m n (omega (arith, a)) (omega (arith, b)) (tails e)

one_node : (m n : NodeId) → IsNode m → IsNode n → node_word m ≡ node_word n → m ≡ n
one_node m n a b e = let d = one_id 110 m.0 n.0 a b e in λ i. record { 0 = d i }

one_column : (c d : ColId) → IsId c.0 → IsId d.0 → column_word c ≡ column_word d → c ≡ d
one_column c d a b e = let k = one_id 99 c.0 d.0 a b e in λ i. record { 0 = k i }

one_nodes : (xs ys : List NodeId) → All IsNode xs → All IsNode ys → map node_word xs ≡ map node_word ys → xs ≡ ys
one_nodes [] [] a b e = refl
one_nodes [] (y ∷ ys) a b e = absurd (cc e)
one_nodes (x ∷ xs) [] a b e = absurd (cc e)
one_nodes (x ∷ xs) (y ∷ ys) a b e =
    let h = one_node x y (All-head IsNode x xs a) (All-head IsNode y ys b) (heads e) in
    let t = one_nodes xs ys (All-tail IsNode x xs a) (All-tail IsNode y ys b) (tails e) in
    λ i. h i ∷ t i

-- ---- edits

-- edits that make the same of each hierarchy
abbrev pub AreOneEdit : Edit → Edit → Type 0
AreOneEdit e f = (F : Facts) (H : Hierarchy) → changed F H e ≡ changed F H f

one_edit : (v w : Edit) → words_of v ≡ words_of w → IsSound v → IsSound w → AreOneEdit v w
one_edit (Merge xs) (Merge ys) e a b = λ F H.
    let same = one_nodes xs.items ys.items a.1 b.1 (tails e) in
    λ i. unless (first_unknown H.order (same i)) UnknownNode (unless (first_between H.order (same i)) Cycle (Ok (merged F H (same i))))
one_edit (Merge xs) (Under m q) e a b = let h = heads e in let u : 109 ≡ 117 = heads h in absurd (omega (arith, u))
one_edit (Merge xs) (Move d m) e a b = let h = heads e in let u : 101 ≡ 111 = heads (tails h) in absurd (omega (arith, u))
one_edit (Merge xs) (TypeName m y) e a b = let h = heads e in let u : 109 ≡ 116 = heads h in absurd (omega (arith, u))
one_edit (Merge xs) (MemberName d y) e a b = let h = heads e in let u : 114 ≡ 109 = heads (tails (tails h)) in absurd (omega (arith, u))
one_edit (Merge xs) (Drop m) e a b = let h = heads e in let u : 109 ≡ 100 = heads h in absurd (omega (arith, u))
one_edit (Under n p) (Merge ys) e a b = let h = heads e in let u : 117 ≡ 109 = heads h in absurd (omega (arith, u))
one_edit (Under n p) (Under m q) e a b = λ F H.
    let u = one_node n m a.0 b.0 (heads (tails e)) in let v = one_node p q a.1 b.1 (heads (tails (tails e))) in λ i. changed F H (Under (u i) (v i))
one_edit (Under n p) (Move d m) e a b = let h = heads e in let u : 117 ≡ 109 = heads h in absurd (omega (arith, u))
one_edit (Under n p) (TypeName m y) e a b = let h = heads e in let u : 117 ≡ 116 = heads h in absurd (omega (arith, u))
one_edit (Under n p) (MemberName d y) e a b = let h = heads e in let u : 117 ≡ 109 = heads h in absurd (omega (arith, u))
one_edit (Under n p) (Drop m) e a b = let h = heads e in let u : 117 ≡ 100 = heads h in absurd (omega (arith, u))
one_edit (Move c n) (Merge ys) e a b = let h = heads e in let u : 111 ≡ 101 = heads (tails h) in absurd (omega (arith, u))
one_edit (Move c n) (Under m q) e a b = let h = heads e in let u : 109 ≡ 117 = heads h in absurd (omega (arith, u))
one_edit (Move c n) (Move d m) e a b = λ F H.
    let u = one_column c d a.0 b.0 (heads (tails e)) in let v = one_node n m a.1 b.1 (heads (tails (tails e))) in λ i. changed F H (Move (u i) (v i))
one_edit (Move c n) (TypeName m y) e a b = let h = heads e in let u : 109 ≡ 116 = heads h in absurd (omega (arith, u))
one_edit (Move c n) (MemberName d y) e a b = let h = heads e in let u : 111 ≡ 101 = heads (tails h) in absurd (omega (arith, u))
one_edit (Move c n) (Drop m) e a b = let h = heads e in let u : 109 ≡ 100 = heads h in absurd (omega (arith, u))
one_edit (TypeName n x) (Merge ys) e a b = let h = heads e in let u : 116 ≡ 109 = heads h in absurd (omega (arith, u))
one_edit (TypeName n x) (Under m q) e a b = let h = heads e in let u : 116 ≡ 117 = heads h in absurd (omega (arith, u))
one_edit (TypeName n x) (Move d m) e a b = let h = heads e in let u : 116 ≡ 109 = heads h in absurd (omega (arith, u))
one_edit (TypeName n x) (TypeName m y) e a b = λ F H.
    let u = one_node n m a.0 b.0 (heads (tails e)) in let v = encodes-same x y (heads (tails (tails e))) in λ i. changed F H (TypeName (u i) (v i))
one_edit (TypeName n x) (MemberName d y) e a b = let h = heads e in let u : 116 ≡ 109 = heads h in absurd (omega (arith, u))
one_edit (TypeName n x) (Drop m) e a b = let h = heads e in let u : 116 ≡ 100 = heads h in absurd (omega (arith, u))
one_edit (MemberName c x) (Merge ys) e a b = let h = heads e in let u : 109 ≡ 114 = heads (tails (tails h)) in absurd (omega (arith, u))
one_edit (MemberName c x) (Under m q) e a b = let h = heads e in let u : 109 ≡ 117 = heads h in absurd (omega (arith, u))
one_edit (MemberName c x) (Move d m) e a b = let h = heads e in let u : 101 ≡ 111 = heads (tails h) in absurd (omega (arith, u))
one_edit (MemberName c x) (TypeName m y) e a b = let h = heads e in let u : 109 ≡ 116 = heads h in absurd (omega (arith, u))
one_edit (MemberName c x) (MemberName d y) e a b = λ F H.
    let u = one_column c d a.0 b.0 (heads (tails e)) in let v = encodes-same x y (heads (tails (tails e))) in λ i. changed F H (MemberName (u i) (v i))
one_edit (MemberName c x) (Drop m) e a b = let h = heads e in let u : 109 ≡ 100 = heads h in absurd (omega (arith, u))
one_edit (Drop n) (Merge ys) e a b = let h = heads e in let u : 100 ≡ 109 = heads h in absurd (omega (arith, u))
one_edit (Drop n) (Under m q) e a b = let h = heads e in let u : 100 ≡ 117 = heads h in absurd (omega (arith, u))
one_edit (Drop n) (Move d m) e a b = let h = heads e in let u : 100 ≡ 109 = heads h in absurd (omega (arith, u))
one_edit (Drop n) (TypeName m y) e a b = let h = heads e in let u : 100 ≡ 116 = heads h in absurd (omega (arith, u))
one_edit (Drop n) (MemberName d y) e a b = let h = heads e in let u : 100 ≡ 109 = heads h in absurd (omega (arith, u))
one_edit (Drop n) (Drop m) e a b = λ F H. let u = one_node n m a b (heads (tails e)) in λ i. changed F H (Drop (u i))

-- no edit is written by the word of an undo
not_undo : (e : Edit) → words_of e ≡ codes "undo" ∷ [] → ⊥
not_undo (Merge nodes) h = let u : 109 ≡ 117 = heads (heads h) in absurd (omega (arith, u))
not_undo (Under n p) h = let t = tails h in cc t
not_undo (Move c n) h = let t = tails h in cc t
not_undo (TypeName n name) h = let t = tails h in cc t
not_undo (MemberName c name) h = let t = tails h in cc t
not_undo (Drop n) h = let t = tails h in cc t

-- acts that make the same of each hierarchy
abbrev pub AreOneAct : Act → Act → Type 0
AreOneAct (acts.Edit e) (acts.Edit f) = AreOneEdit e f
AreOneAct (acts.Edit e) acts.Undo = ⊥
AreOneAct acts.Undo (acts.Edit f) = ⊥
AreOneAct acts.Undo acts.Undo = Unit {0}

one_act : (words : List (List ℕ)) (a b : Act) → WritesAct words a → WritesAct words b → AreOneAct a b
one_act words (acts.Edit e) (acts.Edit f) v w = one_edit e f (sym v.words_are ∙ w.words_are) v.sound w.sound
one_act words (acts.Edit e) acts.Undo v w = not_undo e (sym v.words_are ∙ w)
one_act words acts.Undo (acts.Edit f) v w = not_undo f (sym w.words_are ∙ v)
one_act words acts.Undo acts.Undo v w = tt

-- ---- lines

-- no edit is written by no words
wordless : (e : Edit) → [] ≡ words_of e → ⊥
wordless (Merge nodes) h = cc h
wordless (Under n p) h = cc h
wordless (Move c n) h = cc h
wordless (TypeName n name) h = cc h
wordless (MemberName c name) h = cc h
wordless (Drop n) h = cc h

-- and none by words of which the first begins with `#`
not_marked : (e : Edit) (w : List ℕ) (ws : List (List ℕ)) → (35 ∷ w) ∷ ws ≡ words_of e → ⊥
not_marked (Merge nodes) w ws h = let u : 35 ≡ 109 = heads (heads h) in absurd (omega (arith, u))
not_marked (Under n p) w ws h = let u : 35 ≡ 117 = heads (heads h) in absurd (omega (arith, u))
not_marked (Move c n) w ws h = let u : 35 ≡ 109 = heads (heads h) in absurd (omega (arith, u))
not_marked (TypeName n name) w ws h = let u : 35 ≡ 116 = heads (heads h) in absurd (omega (arith, u))
not_marked (MemberName c name) w ws h = let u : 35 ≡ 109 = heads (heads h) in absurd (omega (arith, u))
not_marked (Drop n) w ws h = let u : 35 ≡ 100 = heads (heads h) in absurd (omega (arith, u))

-- nor is an undo
actless : (a : Act) → WritesAct [] a → ⊥
actless (acts.Edit e) w = wordless e w.words_are
actless acts.Undo w = let u = w in cc u

act_not_marked : (a : Act) (w : List ℕ) (ws : List (List ℕ)) → WritesAct ((35 ∷ w) ∷ ws) a → ⊥
act_not_marked (acts.Edit e) w ws h = not_marked e w ws h.words_are
act_not_marked acts.Undo w ws h = let u : 35 ≡ 117 = heads (heads h) in absurd (omega (arith, u))

-- a line that begins with `#` has such a first word
marked : (rest : List ℕ) (parts : List (List ℕ)) → parts_of rest ≡ parts → (w : List ℕ) × (ws : List (List ℕ)) × (words_in (35 ∷ rest) ≡ (35 ∷ w) ∷ ws)
marked rest [] e = ([], [], ap (filter is_there) (slice_split-cons_no is_space 35 rest refl ∙ ap (onto_first 35) e))
marked rest (w ∷ ws) e = (w, filter is_there ws, ap (filter is_there) (slice_split-cons_no is_space 35 rest refl ∙ ap (onto_first 35) e))

-- a line that says nothing is no edit and no undo
no_act : (line : List ℕ) (a : Act) → IsComment line → IsActLine line a → ⊥
no_act [] a c h = actless a h.writes
no_act (b ∷ rest) a c h = ⊎_elim (λ z. cc z) (λ z.
    let m = marked rest (parts_of rest) refl in
    let first : b ≡ 35 = z in
    act_not_marked a m.0 m.1 (subst (λ words. WritesAct words a) m.2 (subst (λ x. WritesAct (words_in (x ∷ rest)) a) first h.writes))) c.skipped

-- ---- scripts

-- lists of acts that are one by one the same
abbrev pub AreOneList : List Line → List Line → Type 0
AreOneList [] [] = Unit {0}
AreOneList [] (f ∷ fs) = ⊥
AreOneList (e ∷ es) [] = ⊥
AreOneList (e ∷ es) (f ∷ fs) = (e.number ≡ f.number) × AreOneAct e.act f.act × AreOneList es fs

one_next : (k : ℕ) (line : List ℕ) (K : List Line → Type 0) → ((es fs : List Line) → K es → K fs → AreOneList es fs) → (es fs : List Line)
    → IsNextAct k line K es → IsNextAct k line K fs → AreOneList es fs
one_next k line K one [] fs h g = absurd h
one_next k line K one (e ∷ es) [] h g = absurd g
one_next k line K one (e ∷ es) (f ∷ fs) h g = (
  h.0 ∙ sym g.0,
  one_act (words_in line) e.act f.act h.1.writes g.1.writes,
  one es fs h.2 g.2,
)

no_next : (k : ℕ) (line : List ℕ) (K : List Line → Type 0) (es : List Line) → IsComment line → IsNextAct k line K es → ⊥
no_next k line K [] c h = h
no_next k line K (e ∷ es) c h = no_act line e.act c h.1

one_from : (k : ℕ) (lines : List (List ℕ)) (es fs : List Line) → AreEditsFrom k lines es → AreEditsFrom k lines fs → AreOneList es fs
one_from k [] [] [] h g = tt
one_from k [] [] (f ∷ fs) h g = absurd g
one_from k [] (e ∷ es) fs h g = absurd h
one_from k (line ∷ lines) es fs (inl h) (inl g) = one_from (k + 1) lines es fs h.1 g.1
one_from k (line ∷ lines) es fs (inl h) (inr g) = absurd (no_next k line (AreEditsFrom (k + 1) lines) fs h.0 g)
one_from k (line ∷ lines) es fs (inr h) (inl g) = absurd (no_next k line (AreEditsFrom (k + 1) lines) es g.0 h)
one_from k (line ∷ lines) es fs (inr h) (inr g) = one_next k line (AreEditsFrom (k + 1) lines) (one_from (k + 1) lines) es fs h g

pub one_script : (script : List ℕ) (es fs : List Line) → AreEditsOf script es → AreEditsOf script fs → AreOneList es fs
one_script script es fs h g = one_from 1 (lines_of script) es fs h g

pub one_count : (es fs : List Line) → AreOneList es fs → length es ≡ length fs
one_count [] [] h = refl
one_count [] (f ∷ fs) h = absurd h
one_count (e ∷ es) [] h = absurd h
one_count (e ∷ es) (f ∷ fs) h = let z = one_count es fs h.2 in omega (arith, z)

-- a script with a bad line has no edits
edit_there : (k : ℕ) (line : List ℕ) (K : List Line → Type 0) (es : List Line) → IsBadLine line → IsNextAct k line K es → ⊥
edit_there k line K [] b h = h
edit_there k line K (e ∷ es) b h = b.no_act e.act h.1

rest_there : (k : ℕ) (line : List ℕ) (K : List Line → Type 0) (es : List Line) → IsNextAct k line K es → (fs : List Line) × K fs
rest_there k line K [] h = absurd h
rest_there k line K (e ∷ es) h = (es, h.2)

none_bad : (k : ℕ) (lines : List (List ℕ)) (n : ℕ) (es : List Line) → IsFirstBadFrom k lines n → AreEditsFrom k lines es → ⊥
none_bad k [] n es b h = b
none_bad k (line ∷ lines) n es (inl b) (inl h) = b.0.no_comment h.0
none_bad k (line ∷ lines) n es (inl b) (inr h) = edit_there k line (AreEditsFrom (k + 1) lines) es b.0 h
none_bad k (line ∷ lines) n es (inr b) (inl h) = none_bad (k + 1) lines n es b.1 h.1
none_bad k (line ∷ lines) n es (inr b) (inr h) =
    let r = rest_there k line (AreEditsFrom (k + 1) lines) es h in none_bad (k + 1) lines n r.0 b.1 r.1

pub no_bad_line : (script : List ℕ) (n : ℕ) (es : List Line) → IsFirstBadLine script n → AreEditsOf script es → ⊥
no_bad_line script n es b h = none_bad 1 (lines_of script) n es b h

-- and there is one first bad line
one_bad : (k : ℕ) (lines : List (List ℕ)) (m n : ℕ) → IsFirstBadFrom k lines m → IsFirstBadFrom k lines n → m ≡ n
one_bad k [] m n b c = absurd b
one_bad k (line ∷ lines) m n (inl b) (inl c) = b.1 ∙ sym c.1
one_bad k (line ∷ lines) m n (inl b) (inr c) = absurd (c.0 b.0)
one_bad k (line ∷ lines) m n (inr b) (inl c) = absurd (b.0 c.0)
one_bad k (line ∷ lines) m n (inr b) (inr c) = one_bad (k + 1) lines m n b.1 c.1

pub one_bad_line : (script : List ℕ) (m n : ℕ) → IsFirstBadLine script m → IsFirstBadLine script n → m ≡ n
one_bad_line script m n b c = one_bad 1 (lines_of script) m n b c
