-- A text is refused, or it is that of one program; it is refused in one way, but for what may be told of names and of types.
use Rattle.std.proofs.Common.{◌≡◌, ◌⊎◌, inl, inr, ⊎_elim, ℕ, ◌≤◌, List, Result, Ok, Err, refl, sym, ap, ◌∙◌, subst, arith, codes}
use Rattle.java_lex.specs.declared.Token.{Token}
use Rattle.java_lex.specs.Lexing.{tokens_of}
use Rattle.java_tree.specs.Syntax.{DeclTree}
use Rattle.java_tree.specs.Declarations.{IsPlaced, Derives}
use Rattle.java_tree.specs.Nesting.{IsTooDeep, nesting_of}
use Rattle.java_parse.proofs.CompleteDeclarations.{one_placed}
use Rattle.java_parse.specs.Beginnings.{IsExact}
use Rattle.java_parse.proofs.Deep.{deep_nested, one_deep}
use Rattle.java_parse.proofs.Exact.{exact_once}
use Rattle.java_core.specs.declared.Program.{Program}
use Rattle.java_core.specs.Programs.{Plain, program_of}
use Rattle.java_core.specs.Typing.{IsTyped}
use Rattle.name_rules.specs.declared.Refusal.{Refusal}
use Rattle.name_rules.specs.Conditions.{ConditionAt}
use Rattle.name_rules.specs.Causes.{HasNoCondition}
use Rattle.name_rules.specs.Resolves.{Resolves}
use Rattle.name_laws.proofs.OnlyWhole.{only}
use Rattle.kaba_top.specs.Lines.{Says, line}
use Rattle.kaba_top.specs.TextPrograms.{most_nesting, IsParsedAs, HasProgram, IsTypedText}
use Rattle.kaba_top.specs.Reading.{refused, lex_text, at_token, line_of, IsRefusedText, TextAnswers}
use Rattle.kaba_top.specs.OneAnswer.{AreFree, AreOneAnswer, AreOneKind}
use Rattle.write_laws.proofs.given.Read.{read_formed}

ok_same : {A B : Type 0} {a b : A} → ◌≡◌ {A = Result A B} (Ok a) (Ok b) → a ≡ b
ok_same e = cc e

err_same : {A B : Type 0} {a b : B} → ◌≡◌ {A = Result A B} (Err a) (Err b) → a ≡ b
err_same e = cc e

ok_no_err : {A B : Type 0} {a : A} {b : B} → ◌≡◌ {A = Result A B} (Ok a) (Err b) → ⊥
ok_no_err e = cc e

-- what has places derives itself
derived : (tokens : List Token) (tree : List DeclTree) → IsPlaced tokens tree → Derives tokens tree
derived tokens tree p = record { placed = tree; derived = p; same = refl }

-- ---- what a text is read as

module _ (bytes : List ℕ) where
  one_tree : (a b : List DeclTree) → IsParsedAs bytes a → IsParsedAs bytes b → a ≡ b
  one_tree a b h k =
      let e = ok_same (sym h.lexed ∙ k.lexed) in
      let placed = subst (λ ts. IsPlaced ts a) e h.placed in
      one_placed k.tokens a b placed k.placed

  one_resolved : (a b : List DeclTree) (P Q : Plain) → HasProgram bytes a P → HasProgram bytes b Q → P ≡ Q
  one_resolved a b P Q h k =
      let e = one_tree a b h.read k.read in
      only b (read_formed bytes k.read.tokens b k.read.lexed k.read.placed) k.none P Q (subst (λ z. Resolves z P) e h.resolves) k.resolves

  pub one_program : (P Q : Plain) → IsTypedText bytes P → IsTypedText bytes Q → P ≡ Q
  one_program P Q h k = one_resolved h.tree k.tree P Q h.has k.has

  too_deep : (tokens : List Token) (k : ℕ) → tokens_of bytes ≡ Ok tokens → IsTooDeep tokens k → (others : List Token) → tokens_of bytes ≡ Ok others
      → nesting_of others ≤ most_nesting → ⊥
  too_deep tokens k h d others g nested =
      let e = ok_same (sym h ∙ g) in
      let deep = deep_nested others k (subst (λ ts. IsTooDeep ts k) e d) in
      omega (arith, deep, nested)

  no_tree : (tokens : List Token) (k : ℕ) → tokens_of bytes ≡ Ok tokens → IsExact tokens k → (tree : List DeclTree) → IsParsedAs bytes tree → ⊥
  no_tree tokens k h exact tree r = exact.none tree (derived tokens tree (subst (λ ts. IsPlaced ts tree) (ok_same (sym r.lexed ∙ h)) r.placed))

  no_names : (a b : List DeclTree) (why : Refusal) → IsParsedAs bytes a → ConditionAt a why → IsParsedAs bytes b → HasNoCondition b → ⊥
  no_names a b why h c k none = none why (subst (λ z. ConditionAt z why) (one_tree a b h k) c)

  -- a text that is refused is that of no typed program
  pub not_both : (s : ℕ) (o e : List ℕ) (P : Plain) → IsRefusedText bytes s o e → IsTypedText bytes P → ⊥
  unfolding IsRefusedText
  not_both s o e P (inl a) t = ok_no_err (sym t.has.read.lexed ∙ a.lexed)
  not_both s o e P (inr (inl a)) t = too_deep a.tokens a.token a.lexed a.deep t.has.read.tokens t.has.read.lexed t.has.read.nested
  not_both s o e P (inr (inr (inl a))) t = no_tree a.tokens a.token a.lexed a.why t.tree t.has.read
  not_both s o e P (inr (inr (inr (inl a)))) t = no_names a.tree t.tree a.why a.read a.condition t.has.read t.has.none
  not_both s o e P (inr (inr (inr (inr a)))) t = a.untyped (subst IsTyped (one_resolved t.tree a.tree P (program_of a.program) t.has a.has) t.typed)

  -- ---- how it is refused

  -- two refusals are one, but for what may be told of names and of types
  pub record RefusesOnce (s t : ℕ) (o p e f : List ℕ) : Type 0 where
    pub status : s ≡ t
    pub out : o ≡ p
    pub err : (e ≡ f) ⊎ AreFree bytes s o e t p f

  said : (n : ℕ) (x y : List ℕ) → x ≡ y → (s t : ℕ) (o p e f : List ℕ) → Says n x s o e → Says n y t p f → RefusesOnce s t o p e f
  said n x y q s t o p e f a b = record {
    status = a.status_is ∙ sym b.status_is;
    out = a.out_is ∙ sym b.out_is;
    err = inl (a.err_is ∙ ap line q ∙ sym b.err_is);
  }

  free : (s t : ℕ) (o p e f x y : List ℕ) → Says 65 x s o e → Says 65 y t p f → AreFree bytes s o e t p f → RefusesOnce s t o p e f
  free s t o p e f x y a b c = record { status = a.status_is ∙ sym b.status_is; out = a.out_is ∙ sym b.out_is; err = inr c }

  pub one_refusal : (s t : ℕ) (o p e f : List ℕ) → IsRefusedText bytes s o e → IsRefusedText bytes t p f → RefusesOnce s t o p e f
  unfolding IsRefusedText
  one_refusal s t o p e f (inl a) (inl b) =
      said 65 (refused (lex_text a.fault)) (refused (lex_text b.fault)) (ap (λ z. refused (lex_text z)) (err_same (sym a.lexed ∙ b.lexed))) s t o p e f
      a.says b.says
  one_refusal s t o p e f (inl a) (inr (inl b)) = absurd (ok_no_err (sym b.lexed ∙ a.lexed))
  one_refusal s t o p e f (inl a) (inr (inr (inl b))) = absurd (ok_no_err (sym b.lexed ∙ a.lexed))
  one_refusal s t o p e f (inl a) (inr (inr (inr (inl b)))) = absurd (ok_no_err (sym b.read.lexed ∙ a.lexed))
  one_refusal s t o p e f (inl a) (inr (inr (inr (inr b)))) = absurd (ok_no_err (sym b.has.read.lexed ∙ a.lexed))
  one_refusal s t o p e f (inr (inl a)) (inl b) = absurd (ok_no_err (sym a.lexed ∙ b.lexed))
  one_refusal s t o p e f (inr (inl a)) (inr (inl b)) =
      let ts = ok_same (sym a.lexed ∙ b.lexed) in
      let k = one_deep b.tokens a.token b.token (subst (λ z. IsTooDeep z a.token) ts a.deep) b.deep in
      said 65 (refused (at_token (codes "TooDeep") a.token (line_of bytes a.token a.tokens)))
      (refused (at_token (codes "TooDeep") b.token (line_of bytes b.token b.tokens)))
      (λ i. refused (at_token (codes "TooDeep") (k i) (line_of bytes (k i) (ts i)))) s t o p e f a.says b.says
  one_refusal s t o p e f (inr (inl a)) (inr (inr (inl b))) = absurd (too_deep a.tokens a.token a.lexed a.deep b.tokens b.lexed b.nested)
  one_refusal s t o p e f (inr (inl a)) (inr (inr (inr (inl b)))) = absurd (too_deep a.tokens a.token a.lexed a.deep b.read.tokens b.read.lexed b.read.nested)
  one_refusal s t o p e f (inr (inl a)) (inr (inr (inr (inr b)))) =
      absurd (too_deep a.tokens a.token a.lexed a.deep b.has.read.tokens b.has.read.lexed b.has.read.nested)
  one_refusal s t o p e f (inr (inr (inl a))) (inl b) = absurd (ok_no_err (sym a.lexed ∙ b.lexed))
  one_refusal s t o p e f (inr (inr (inl a))) (inr (inl b)) = absurd (too_deep b.tokens b.token b.lexed b.deep a.tokens a.lexed a.nested)
  one_refusal s t o p e f (inr (inr (inl a))) (inr (inr (inl b))) =
      let ts = ok_same (sym a.lexed ∙ b.lexed) in
      let k = exact_once b.tokens a.token b.token (subst (λ z. IsExact z a.token) ts a.why) b.why in
      said 65 (refused (at_token (codes "NotAProgram") a.token (line_of bytes a.token a.tokens)))
      (refused (at_token (codes "NotAProgram") b.token (line_of bytes b.token b.tokens)))
      (λ i. refused (at_token (codes "NotAProgram") (k i) (line_of bytes (k i) (ts i)))) s t o p e f a.says b.says
  one_refusal s t o p e f (inr (inr (inl a))) (inr (inr (inr (inl b)))) = absurd (no_tree a.tokens a.token a.lexed a.why b.tree b.read)
  one_refusal s t o p e f (inr (inr (inl a))) (inr (inr (inr (inr b)))) = absurd (no_tree a.tokens a.token a.lexed a.why b.tree b.has.read)
  one_refusal s t o p e f (inr (inr (inr (inl a)))) (inl b) = absurd (ok_no_err (sym a.read.lexed ∙ b.lexed))
  one_refusal s t o p e f (inr (inr (inr (inl a)))) (inr (inl b)) = absurd (too_deep b.tokens b.token b.lexed b.deep a.read.tokens a.read.lexed a.read.nested)
  one_refusal s t o p e f (inr (inr (inr (inl a)))) (inr (inr (inl b))) = absurd (no_tree b.tokens b.token b.lexed b.why a.tree a.read)
  one_refusal s t o p e f (inr (inr (inr (inl a)))) (inr (inr (inr (inl b)))) = free s t o p e f _ _ a.says b.says (inl (a, b))
  one_refusal s t o p e f (inr (inr (inr (inl a)))) (inr (inr (inr (inr b)))) =
      absurd (no_names a.tree b.tree a.why a.read a.condition b.has.read b.has.none)
  one_refusal s t o p e f (inr (inr (inr (inr a)))) (inl b) = absurd (ok_no_err (sym a.has.read.lexed ∙ b.lexed))
  one_refusal s t o p e f (inr (inr (inr (inr a)))) (inr (inl b)) =
      absurd (too_deep b.tokens b.token b.lexed b.deep a.has.read.tokens a.has.read.lexed a.has.read.nested)
  one_refusal s t o p e f (inr (inr (inr (inr a)))) (inr (inr (inl b))) = absurd (no_tree b.tokens b.token b.lexed b.why a.tree a.has.read)
  one_refusal s t o p e f (inr (inr (inr (inr a)))) (inr (inr (inr (inl b)))) =
      absurd (no_names b.tree a.tree b.why b.read b.condition a.has.read a.has.none)
  one_refusal s t o p e f (inr (inr (inr (inr a)))) (inr (inr (inr (inr b)))) = free s t o p e f _ _ a.says b.says (inr (a, b))

-- so they are one
once : (bytes : List ℕ) (s t : ℕ) (o p e f : List ℕ) → RefusesOnce bytes s t o p e f → AreOneAnswer s o e t p f
once bytes s t o p e f r = record { status = r.status; out = inl r.out; err = ⊎_elim (λ q. inl q) (λ c. inr (inl (bytes, c))) r.err }

-- the answers for a text, where the answers for its program are one
pub one_text : (K L : Program → ℕ → List ℕ → List ℕ → Type 0) → ((p q : Program) → program_of p ≡ program_of q → AreOneKind (K p) (L q)) → (bytes : List ℕ)
    → AreOneKind (TextAnswers K bytes) (TextAnswers L bytes)
one_text K L one bytes s t o p e f (inl a) (inl b) = once bytes s t o p e f (one_refusal bytes s t o p e f a b)
one_text K L one bytes s t o p e f (inl a) (inr b) = absurd (not_both bytes s o e (program_of b.program) a b.is)
one_text K L one bytes s t o p e f (inr a) (inl b) = absurd (not_both bytes t p f (program_of a.program) b a.is)
one_text K L one bytes s t o p e f (inr a) (inr b) =
    one a.program b.program (one_program bytes (program_of a.program) (program_of b.program) a.is b.is) s t o p e f a.answers b.answers
