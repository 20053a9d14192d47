-- `same` has one answer, but for where it tells that programs part.
use Rattle.std.proofs.Common.{◌≡◌, inl, inr, ⊎_elim, ℕ, List, [], ◌∷◌, ◌++◌, length, codes, refl, sym, ap, ◌∙◌, subst, arith, ◌⊎◌, None}
use Rattle.std.proofs.lemmas.List.{append_cancel_left, append_cancel_right}
use Rattle.std.proofs.lemmas.Option.{same_Some}
use Rattle.kaba_base.specs.Outside.{Files}
use Rattle.java_core.specs.declared.Program.{Program}
use Rattle.java_core.specs.Programs.{Plain, program_of}
use Rattle.rebuild_model.specs.OnePrograms as programs
use Rattle.kaba_top.specs.Lines.{line, cannot_read}
use Rattle.kaba_top.specs.Reading.{IsRefusedText}
use Rattle.kaba_top.specs.SameAnswers.{named, IsFileNamed, SameOf, AreFoundOne, AreFoundApart}
use Rattle.kaba_top.specs.Answers.{IsTooLarge, NamedTextAnswers, NamedAnswers, SameAnswers}
use Rattle.kaba_top.specs.OneAnswer.{AreOneKind}
use Rattle.kaba_top.proofs.OneText.{one_program, not_both, one_refusal}
use Rattle.kaba_top.proofs.OneAnalysis.{said, given}
use Rattle.kaba_top.proofs.Absent.{none_some}

-- lines of one text
line_same : (x y : List ℕ) → line x ≡ line y → x ≡ y
line_same x y e = append_cancel_right x y (10 ∷ []) (append_cancel_left (codes "kaba: ") (x ++ 10 ∷ []) (y ++ 10 ∷ []) e)

module _ (file : List ℕ) where
  named_line : {e f x y : List ℕ} → e ≡ line (named file x) → f ≡ line (named file y) → x ≡ y → e ≡ f
  named_line h k q = h ∙ ap (λ z. line (named file z)) q ∙ sym k

  one_named_refusal : (bytes : List ℕ) → AreOneKind (IsFileNamed file (IsRefusedText bytes)) (IsFileNamed file (IsRefusedText bytes))
  one_named_refusal bytes s t o p e f a b =
      let r = one_refusal bytes s t o p (line a.text) (line b.text) a.answers b.answers in
      record {
        status = r.status;
        out = inl r.out;
        err = ⊎_elim (λ q. inl (named_line a.says.err_is b.says.err_is (line_same a.text b.text q)))
            (λ c. inr (inr (inl (record {
              bytes = bytes;
              file = file;
              text = a.text;
              other = b.text;
              free = c;
              err_is = a.says.err_is;
              other_is = b.says.err_is;
            })))) r.err;
      }

  one_named_large : (files : Files) → AreOneKind (IsFileNamed file (IsTooLarge files file)) (IsFileNamed file (IsTooLarge files file))
  one_named_large files s t o p e f a b = record {
    status = a.answers.says.status_is ∙ sym b.answers.says.status_is;
    out = inl (a.answers.says.out_is ∙ sym b.answers.says.out_is);
    err = inl (named_line a.says.err_is b.says.err_is (line_same a.text b.text (a.answers.says.err_is ∙ sym b.answers.says.err_is)));
  }

  module _ (K L : Program → ℕ → List ℕ → List ℕ → Type 0) (one : (p q : Program) → program_of p ≡ program_of q → AreOneKind (K p) (L q)) where
    one_named_text : (bytes : List ℕ) → AreOneKind (NamedTextAnswers file K bytes) (NamedTextAnswers file L bytes)
    one_named_text bytes s t o p e f (inl a) (inl b) = one_named_refusal bytes s t o p e f a b
    one_named_text bytes s t o p e f (inl a) (inr b) = absurd (not_both bytes s o (line a.text) (program_of b.program) a.answers b.is)
    one_named_text bytes s t o p e f (inr a) (inl b) = absurd (not_both bytes t p (line b.text) (program_of a.program) b.answers a.is)
    one_named_text bytes s t o p e f (inr a) (inr b) =
        one a.program b.program (one_program bytes (program_of a.program) (program_of b.program) a.is b.is) s t o p e f a.answers b.answers

    one_named_file : (files : Files) → AreOneKind (NamedAnswers K files file) (NamedAnswers L files file)
    one_named_file files s t o p e f (inl a) (inl b) = said 66 (cannot_read file) (cannot_read file) refl s t o p e f a.says b.says
    one_named_file files s t o p e f (inl a) (inr (inl b)) = absurd (none_some a.missing b.answers.there)
    one_named_file files s t o p e f (inl a) (inr (inr b)) = absurd (none_some a.missing b.there)
    one_named_file files s t o p e f (inr (inl a)) (inl b) = absurd (none_some b.missing a.answers.there)
    one_named_file files s t o p e f (inr (inl a)) (inr (inl b)) = one_named_large files s t o p e f a b
    one_named_file files s t o p e f (inr (inl a)) (inr (inr b)) =
        let n = ap length (same_Some a.answers.bytes b.bytes (sym a.answers.there ∙ b.there)) in absurd (omega (arith, n, a.answers.large, b.small))
    one_named_file files s t o p e f (inr (inr a)) (inl b) = absurd (none_some b.missing a.there)
    one_named_file files s t o p e f (inr (inr a)) (inr (inl b)) =
        let n = ap length (same_Some a.bytes b.answers.bytes (sym a.there ∙ b.answers.there)) in absurd (omega (arith, n, a.small, b.answers.large))
    one_named_file files s t o p e f (inr (inr a)) (inr (inr b)) =
        one_named_text b.bytes s t o p e f
        (subst (λ z. NamedTextAnswers file K z s o e) (same_Some a.bytes b.bytes (sym a.there ∙ b.there)) a.answers) b.answers

-- whether two programs are one is asked of what they are as trees
one_sameness : (file other : List ℕ) (p q u v : Program) → program_of p ≡ program_of u → program_of q ≡ program_of v
    → AreOneKind (SameOf file other p q) (SameOf file other u v)
one_sameness file other p q u v x y s t o r e f (inl a) (inl b) = given 0 0 [] [] [] [] refl refl refl s t o r e f a.gives b.gives
one_sameness file other p q u v x y s t o r e f (inl a) (inr b) =
    absurd (b.apart (subst (λ (z : Plain). programs.AreOne z (program_of v)) x (subst (λ (z : Plain). programs.AreOne (program_of p) z) y a.one)))
one_sameness file other p q u v x y s t o r e f (inr a) (inl b) =
    absurd (a.apart (subst (λ (z : Plain). programs.AreOne z (program_of q)) (sym x) (subst (λ (z : Plain). programs.AreOne (program_of u) z) (sym y) b.one)))
one_sameness file other p q u v x y s t o r e f (inr a) (inr b) = record {
  status = a.says.status_is ∙ sym b.says.status_is;
  out = inl (a.says.out_is ∙ sym b.says.out_is);
  err = inr (inr (inr (record {
    file = file;
    other = other;
    first = p;
    second = q;
    again_first = u;
    again_second = v;
    one = a;
    two = b;
  })));
}

pub one_same : (file other : List ℕ) (first second : Files) → AreOneKind (SameAnswers file other first second) (SameAnswers file other first second)
one_same file other first second =
    one_named_file file (λ p. NamedAnswers (SameOf file other p) second other) (λ p. NamedAnswers (SameOf file other p) second other)
    (λ p u x. one_named_file other (SameOf file other p) (SameOf file other u) (λ q v y. one_sameness file other p q u v x y) second) first
