-- Items added after others.
use Rattle.std.proofs.Common.{Bool, subst, ◌≡◌, ℕ, zero, suc, ◌+◌, ◌-◌, ◌<◌, ◌^◌, List, [], ◌∷◌, ◌++◌, length, get_or, take, replicate, refl, ap, sym, ◌∙◌, arith, add-one, Result, Ok, Err, OnOk, IfOk, Vec, Global, ℤ, pos, negsuc, unsigned_abs, ◌≤◌, ◌<ℤ◌, ◌≤ℤ◌}
use Rattle.std.proofs.lemmas.Int.{ints}
use Rattle.std.proofs.lemmas.List.{append_assoc, append-nil, take_more}
use Rattle.std.proofs.lemmas.Str.{encodes-append, encodes-IsAscii}
use Rattle.std.proofs.lemmas.Fmt.{IsAscii-decimal}
use Rattle.std.specs.Fmt.{decimal}
use Rattle.std.specs.List.{flat_map}
use Rattle.std.specs.Str.{encode_utf8_all}
use Rattle.std.specs.Char.{encode_utf8}
use Rattle.kaba_base.specs.declared.Keyword.{Keyword}
use Rattle.kaba_base.specs.declared.Keyword.TheVariants as keys
use Rattle.kaba_base.specs.Words.{key_text}
use Rattle.java_lex.specs.declared.Mark.{Mark}
use Rattle.java_lex.specs.declared.Mark.TheVariants as marks
use Rattle.java_lex.specs.declared.TokenKind.{TokenKind}
use Rattle.java_lex.specs.declared.TokenKind.TheVariants as kinds
use Rattle.java_lex.specs.Spelling.{mark_text}
use Rattle.java_lex.specs.Printing.{written}
use Rattle.java_print.specs.Items.{Item, Lexeme, Margin, text, kind_text}
use Rattle.java_print.specs.Layout.{mark_then, key_then, word_then, int_items, in_round, dims_items, expr_items}
use Rattle.java_tree.specs.Syntax.{Expression}
use Rattle.java_print.specs.Adds.{Adds, Puts, margin_then}

-- one after the other
pub adds_then : {a b c : List ℕ} {x y z : List Item} → Adds a b x y → Adds b c y z → Adds a c x z
adds_then h k = record { added = h.added ∙ k.added }

pub both_put : {a b c : List ℕ} {f g : List Item → List Item} → Puts a b f → Puts b c g → Puts a c (λ r. f (g r))
both_put {g = g} h k r = adds_then (h (g r)) (k r)

-- characters that are those of an item
pub adds_chars : (a b xs : List ℕ) (x y : List Item) → b ≡ a ++ encode_utf8_all xs → text x ≡ xs ++ text y → Adds a b x y
adds_chars a b xs x y h e = record {
  added = ap (λ zs. a ++ encode_utf8_all zs) e ∙ ap (λ zs. a ++ zs) (encodes-append xs (text y))
      ∙ sym (append_assoc a (encode_utf8_all xs) (encode_utf8_all (text y)))
      ∙ ap (λ zs. zs ++ encode_utf8_all (text y)) (sym h);
}

mark_bytes : (m : Mark) → encode_utf8_all (mark_text m) ≡ mark_text m
unfolding encode_utf8
mark_bytes marks.OpenRound = refl
mark_bytes _ = refl

key_bytes : (k : Keyword) → encode_utf8_all (key_text k) ≡ key_text k
unfolding encode_utf8 key_text
key_bytes keys.Abstract = refl
key_bytes _ = refl

-- a text of the table of marks, of keywords, of digits
pub adds_mark : (a b : List ℕ) (m : Mark) → b ≡ a ++ mark_text m → Puts a b (mark_then m)
adds_mark a b m h r = adds_chars a b (mark_text m) (mark_then m r) r (h ∙ ap (λ ys. a ++ ys) (sym (mark_bytes m))) refl

pub adds_key : (a b : List ℕ) (k : Keyword) → b ≡ a ++ key_text k → Puts a b (key_then k)
adds_key a b k h r = adds_chars a b (key_text k) (key_then k r) r (h ∙ ap (λ ys. a ++ ys) (sym (key_bytes k))) refl

pub adds_word : (a b n : List ℕ) → b ≡ a ++ encode_utf8_all n → Puts a b (word_then n)
adds_word a b n h r = adds_chars a b n (word_then n r) r h refl

-- a literal of characters between two quotes
pub adds_quoted : (a b c d : List ℕ) (q : ℕ) (us : List ℕ) (k : TokenKind) → kind_text k ≡ q ∷ (us ++ q ∷ []) → b ≡ a ++ encode_utf8_all (q ∷ [])
    → c ≡ b ++ encode_utf8_all us → d ≡ c ++ encode_utf8_all (q ∷ []) → (r : List Item) → Adds a d (Lexeme k ∷ r) r
adds_quoted a b c d q us k e f g h r =
    adds_chars a d (kind_text k) (Lexeme k ∷ r) r (h ∙ ap (λ zs. zs ++ encode_utf8_all (q ∷ [])) (g ∙ ap (λ zs. zs ++ encode_utf8_all us) f)
    ∙ append_assoc (a ++ encode_utf8_all (q ∷ [])) (encode_utf8_all us) (encode_utf8_all (q ∷ []))
    ∙ append_assoc a (encode_utf8_all (q ∷ [])) (encode_utf8_all us ++ encode_utf8_all (q ∷ []))
    ∙ ap (λ zs. a ++ (encode_utf8_all (q ∷ []) ++ zs)) (sym (encodes-append us (q ∷ [])))
    ∙ ap (λ zs. a ++ zs) (sym (encodes-append (q ∷ []) (us ++ q ∷ []))) ∙ ap (λ zs. a ++ encode_utf8_all zs) (sym e)) refl

adds_decimal : (a b : List ℕ) (n : ℕ) (k : TokenKind) → n < 2 ^ 64 → kind_text k ≡ decimal n → b ≡ a ++ decimal n → (r : List Item) → Adds a b (Lexeme k ∷ r) r
adds_decimal a b n k s e h r =
    adds_chars a b (decimal n) (Lexeme k ∷ r) r (h ∙ ap (λ ys. a ++ ys) (sym (encodes-IsAscii (decimal n) (IsAscii-decimal n s))))
    (ap (λ ys. ys ++ text r) e)

pub adds_negative : (a b c : List ℕ) (z : ℤ) → z <ℤ pos 0 → Puts a b (mark_then marks.Minus) → c ≡ b ++ decimal 2147483648 → Puts a c (int_items z)
adds_negative a b c (pos n) l h k r = absurd (omega (arith, ints, l))
adds_negative a b c (negsuc n) l h k r = adds_then (h (Lexeme kinds.Least ∷ r)) (adds_decimal b c 2147483648 kinds.Least (omega arith) refl k r)

pub adds_positive : (a b : List ℕ) (z : ℤ) (n : ℕ) → pos 0 ≤ℤ z → n ≡ unsigned_abs z → n < 2 ^ 64 → b ≡ a ++ decimal n → Puts a b (int_items z)
adds_positive a b (pos m) n l e s h r = adds_decimal a b n (kinds.Int (pos m)) s (ap decimal (sym e)) h r
adds_positive a b (negsuc m) n l e s h r = absurd (omega (arith, ints, l))

replicate_more : (n : ℕ) → ◌++◌ {A = ℕ} (replicate n 32) (32 ∷ []) ≡ 32 ∷ replicate n 32
replicate_more zero = refl
replicate_more (suc n) = ap (λ xs. 32 ∷ xs) (replicate_more n)

blank_bytes : (n : ℕ) → encode_utf8_all (replicate n 32) ≡ replicate n 32
unfolding encode_utf8
blank_bytes zero = refl
blank_bytes (suc n) = ap (λ xs. 32 ∷ xs) (blank_bytes n)

pub margin_more : (a b c : List ℕ) (n : ℕ) → b ≡ a ++ replicate n 32 → c ≡ b ++ 32 ∷ [] → c ≡ a ++ replicate (n + 1) 32
margin_more a b c n h k = k ∙ ap (λ zs. zs ++ 32 ∷ []) h ∙ append_assoc a (replicate n 32) (32 ∷ []) ∙ ap (λ zs. a ++ zs) (replicate_more n)
    ∙ ap (λ m. a ++ replicate m 32) (sym (add-one n))

pub adds_margin : (a b : List ℕ) (m n : ℕ) → m ≤ n → n ≤ m → b ≡ a ++ replicate m 32 → Puts a b (margin_then n)
adds_margin a b m n h k e r =
    let s : m ≡ n = omega arith in
    adds_chars a b (replicate n 32) (Margin n ∷ r) r (e ∙ ap (λ j. a ++ replicate j 32) s ∙ ap (λ zs. a ++ zs) (sym (blank_bytes n))) refl

flat_more : (ys : List ℕ) (c : ℕ) → flat_map written (ys ++ c ∷ []) ≡ flat_map written ys ++ written c
flat_more [] c = append-nil (written c)
flat_more (y ∷ ys) c = ap (λ zs. written y ++ zs) (flat_more ys c) ∙ sym (append_assoc (written y) (flat_map written ys) (written c))

pub all_more : (a b c cs : List ℕ) (i d : ℕ) → i < length cs → d ≡ get_or cs i d → b ≡ a ++ encode_utf8_all (flat_map written (take i cs))
    → c ≡ b ++ encode_utf8_all (written d) → c ≡ a ++ encode_utf8_all (flat_map written (take (i + 1) cs))
all_more a b c cs i d l e h k =
    let s : flat_map written (take (i + 1) cs) ≡ flat_map written (take i cs) ++ written d = ap (flat_map written) (take_more cs i d l
    ∙ ap (λ x. take i cs ++ x ∷ []) (sym e)) ∙ flat_more (take i cs) d in
    k ∙ ap (λ zs. zs ++ encode_utf8_all (written d)) h ∙ append_assoc a (encode_utf8_all (flat_map written (take i cs))) (encode_utf8_all (written d))
    ∙ ap (λ zs. a ++ zs) (sym (encodes-append (flat_map written (take i cs)) (written d))) ∙ ap (λ zs. a ++ encode_utf8_all zs) (sym s)

-- a fact where the call succeeded
pub on_ok : {A E : Type 0} {P Q : Type 0} (r : Result A E) → OnOk r P → (P → Q) → OnOk r Q
on_ok (Ok x) h f = f h
on_ok (Err e) h f = tt

-- an equal value where the call succeeded
pub ok_along : {E : Type 0} (r : Result (Vec ℕ Global) E) (q t : List ℕ) → IfOk r (λ v. v.items ≡ q) → q ≡ t → IfOk r (λ v. v.items ≡ t)
ok_along (Ok v) q t h e = h ∙ e
ok_along (Err f) q t h e = tt

-- an operand by an equal test
pub round_as : {a b : List ℕ} (f : List Item → List Item) (t s : Bool) → t ≡ s → Puts a b (in_round t f) → Puts a b (in_round s f)
round_as {a} {b} f t s e h = subst (λ x. Puts a b (in_round x f)) e h

-- the items of an equal expression
pub puts_along : {a b : List ℕ} (x y : Expression) → x ≡ y → Puts a b (expr_items y) → Puts a b (expr_items x)
puts_along {a} {b} x y e h = subst (λ z. Puts a b (expr_items z)) (sym e) h

-- one more pair of square brackets
pub dims_step : (a b c d : List ℕ) (n i : ℕ) → i < n → ((r : List Item) → Adds a b (dims_items n r) (dims_items (n - i) r))
    → Puts b c (mark_then marks.OpenSquare) → Puts c d (mark_then marks.CloseSquare) → (r : List Item)
    → Adds a d (dims_items n r) (dims_items (n - (i + 1)) r)
dims_step a b c d n i l h f g r =
    let e : n - i ≡ suc (n - (i + 1)) = omega arith in
    adds_then (h r) (subst (λ m. Adds b d (dims_items m r) (dims_items (n - (i + 1)) r)) (sym e)
    (adds_then (f (mark_then marks.CloseSquare (dims_items (n - (i + 1)) r))) (g (dims_items (n - (i + 1)) r))))

pub dims_end : (a b : List ℕ) (n i : ℕ) → n ≤ i → ((r : List Item) → Adds a b (dims_items n r) (dims_items (n - i) r)) → Puts a b (dims_items n)
dims_end a b n i l h r = let e : n - i ≡ 0 = omega arith in subst (λ m. Adds a b (dims_items n r) (dims_items m r)) e (h r)

pub puts_int : {a b : List ℕ} (y z : ℤ) → y ≡ z → Puts a b (int_items y) → Puts a b (int_items z)
puts_int {a} {b} y z e h = subst (λ x. Puts a b (int_items x)) e h
