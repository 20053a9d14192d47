-- From what a file gave to the answers that tell its name.
use Rattle.std.proofs.Common.{◌≡◌, ◌⊎◌, inl, inr, ⊎_elim, ℕ, ◌≤◌, List, [], Option, Some, None, Result, Ok, Err, IfOk, refl, ◌∙◌, sym, subst, arith}
use Rattle.std.specs.declared.alloc.AllocError.{AllocError}
use Rattle.kaba_base.specs.Outside.{Files}
use Rattle.java_core.specs.declared.Program.{Program}
use Rattle.java_core.specs.Programs.{program_of}
use Rattle.kaba_words.specs.Commands.{same}
use Rattle.kaba_top.specs.declared.reply.Reply.{Reply}
use Rattle.kaba_top.specs.declared.same.Found.{Found}
use Rattle.kaba_top.specs.declared.same.Found.TheVariants as founds
use Rattle.kaba_top.specs.Lines.{Says, line}
use Rattle.kaba_top.specs.Agreement.{Agrees}
use Rattle.kaba_top.specs.Reading.{IsRefusedText}
use Rattle.kaba_top.specs.SameAnswers.{named, IsFileNamed, AreFoundOne, AreFoundApart, SameOf}
use Rattle.kaba_top.specs.Answers.{IsTooLarge, IsShelfFault, NamedAnswers, CommandReplies}
use Rattle.kaba_top.specs.Fetching.{IsThere, IsFileRefused}
use Rattle.kaba_top.specs.Named.{IsNamedReading, IsProgramThere, NothingFor, IsProgramFound, NamedReplies}

-- a line for err, and nothing for out
record IsLine (out err : List ℕ) : Type 0 where
  text : List ℕ
  out_is : out ≡ []
  err_is : err ≡ line text

said_line : {n : ℕ} {text : List ℕ} {s : ℕ} {o e : List ℕ} → Says n text s o e → IsLine o e
said_line {n} {text} h = record { text = text; out_is = h.out_is; err_is = h.err_is }

refused_line : (bytes : List ℕ) (s : ℕ) (o e : List ℕ) → IsRefusedText bytes s o e → IsLine o e
unfolding IsRefusedText
refused_line bytes s o e (inl a) = said_line a.says
refused_line bytes s o e (inr (inl a)) = said_line a.says
refused_line bytes s o e (inr (inr (inl a))) = said_line a.says
refused_line bytes s o e (inr (inr (inr (inl a)))) = said_line a.says
refused_line bytes s o e (inr (inr (inr (inr a)))) = said_line a.says

-- the same line with the name of the file
with_name : (A : ℕ → List ℕ → List ℕ → Type 0) (file : List ℕ) (s t : ℕ) (o p e f : List ℕ) → A s o e → (l : IsLine o e)
    → Says s (named file l.text) t p f → IsFileNamed file A t p f
with_name A file s t o p e f a l says = record {
  text = l.text;
  answers = subst (λ z. A z p (line l.text)) (sym says.status_is)
      (subst (λ z. A s z (line l.text)) (l.out_is ∙ sym says.out_is) (subst (λ z. A s o z) l.err_is a));
  says = record { status_is = refl; out_is = says.out_is; err_is = says.err_is };
}

pub refused_named : (bytes file : List ℕ) (reply told : Reply) → IsRefusedText bytes reply.status reply.out.items reply.err.items
    → ((text : List ℕ) → reply.err.items ≡ line text → Says reply.status (named file text) told.status told.out.items told.err.items)
    → IsFileNamed file (IsRefusedText bytes) told.status told.out.items told.err.items
refused_named bytes file reply told a h =
    let l = refused_line bytes reply.status reply.out.items reply.err.items a in
    with_name (IsRefusedText bytes) file reply.status told.status reply.out.items told.out.items reply.err.items told.err.items a l (h l.text l.err_is)

module _ (told : Option Files) (before now : ℕ) (name : List ℕ) where
  -- the bytes of the file are there
  pub found_there : (bytes : List ℕ) (r : Result Found AllocError) → IsThere told name bytes → IfOk r (IsNamedReading name bytes)
      → IfOk r (IsProgramFound told before now name)
  found_there bytes (Err e) there h = tt
  found_there bytes (Ok (founds.Typed program)) there h =
      record { files = there.files; agrees = there.agrees; bytes = bytes; there = there.there; small = there.small; is = h }
  found_there bytes (Ok (founds.Refused reply)) there h = inl (record {
    files = there.files;
    agrees = there.agrees;
    refused = inr (inr (record { bytes = bytes; there = there.there; small = there.small; answers = inl h }));
  })

  -- the file is too large
  large_named : (files : Files) (reply more : Reply) → IsTooLarge files name reply.status reply.out.items reply.err.items
      → ((text : List ℕ) → reply.err.items ≡ line text → Says reply.status (named name text) more.status more.out.items more.err.items)
      → IsFileNamed name (IsTooLarge files name) more.status more.out.items more.err.items
  large_named files reply more a h =
      let l = said_line a.says in
      with_name (IsTooLarge files name) name reply.status more.status reply.out.items more.out.items reply.err.items more.err.items a l
      (h l.text l.err_is)

  not_large : (n status : ℕ) → n ≡ 66 → status ≡ n → status ≡ 67 → ⊥
  not_large n status e h k = omega (arith, e, h, k)

  pub found_large : (reply more : Reply) → reply.status ≡ 67
      → IsFileRefused told name reply.status reply.out.items reply.err.items ⊎ IsShelfFault before now name reply.status reply.out.items reply.err.items
      → ((text : List ℕ) → reply.err.items ≡ line text → Says reply.status (named name text) more.status more.out.items more.err.items)
      → IsProgramFound told before now name (founds.Refused more)
  found_large reply more e (inl r) h = inl (record {
    files = r.files;
    agrees = r.agrees;
    refused = ⊎_elim (λ m. absurd (not_large 66 reply.status refl m.says.status_is e)) (λ a. inr (inl (large_named r.files reply more a h))) r.refused;
  })
  found_large reply more e (inr f) h = absurd (not_large 66 reply.status refl f.says.status_is e)

  pub found_none : (reply : Reply) → (reply.status ≡ 67 → ⊥)
      → IsFileRefused told name reply.status reply.out.items reply.err.items ⊎ IsShelfFault before now name reply.status reply.out.items reply.err.items
      → IsProgramFound told before now name (founds.Refused reply)
  found_none reply other (inl r) = inl (record {
    files = r.files;
    agrees = r.agrees;
    refused = ⊎_elim (λ m. inl m) (λ a. absurd (other a.says.status_is)) r.refused;
  })
  found_none reply other (inr f) = inr f

-- what is answered of no program is answered of any
any_named : (K : Program → ℕ → List ℕ → List ℕ → Type 0) (files : Files) (name : List ℕ) (s : ℕ) (o e : List ℕ) → NamedAnswers NothingFor files name s o e
    → NamedAnswers K files name s o e
any_named K files name s o e (inl a) = inl a
any_named K files name s o e (inr (inl a)) = inr (inl a)
any_named K files name s o e (inr (inr a)) = inr (inr (record {
  bytes = a.bytes;
  there = a.there;
  small = a.small;
  answers = ⊎_elim (λ b. inl b) (λ b. absurd b.answers) a.answers;
}))

module _ (told : Option Files) (before now : ℕ) (name : List ℕ) (K : Program → ℕ → List ℕ → List ℕ → Type 0) where
  -- the program of the file is there, and there is this answer for it
  pub reply_there : (program : Program) (r : Result Reply AllocError) → IsProgramThere told name program
      → IfOk r (λ reply. K program reply.status reply.out.items reply.err.items)
      → IfOk r (λ reply. NamedReplies told before now K name reply.status reply.out.items reply.err.items)
  reply_there program (Err e) there h = tt
  reply_there program (Ok reply) there h = inl (record {
    first = there.files;
    second = there.files;
    first_agrees = there.agrees;
    second_agrees = there.agrees;
    answers = inr (inr (record {
      bytes = there.bytes;
      there = there.there;
      small = there.small;
      answers = inr (record { program = program; is = there.is; answers = h });
    }));
  })

  pub reply_none : (reply : Reply) → IsProgramFound told before now name (founds.Refused reply)
      → NamedReplies told before now K name reply.status reply.out.items reply.err.items
  reply_none reply (inl r) = inl (record {
    first = r.files;
    second = r.files;
    first_agrees = r.agrees;
    second_agrees = r.agrees;
    answers = any_named K r.files name reply.status reply.out.items reply.err.items r.refused;
  })
  reply_none reply (inr f) = inr f

module _ (file other : List ℕ) where
  -- the program of the first file is there, and the reply is that to the second
  pub both_named : (told told_then : Option Files) (before mid now : ℕ) (program : Program) (r : Result Reply AllocError) → told_then ≡ told → before ≤ mid
      → IsProgramThere told file program
      → IfOk r (λ reply. NamedReplies told_then mid now (SameOf file other program) other reply.status reply.out.items reply.err.items)
      → IfOk r (λ reply. CommandReplies told before now (same file other) reply.status reply.out.items reply.err.items)
  both_named told told_then before mid now program (Err e) same_files later there h = tt
  both_named told told_then before mid now program (Ok reply) same_files later there (inl a) = inl (record {
    first = there.files;
    second = a.first;
    first_agrees = there.agrees;
    second_agrees = subst (λ t. Agrees t a.first) same_files a.first_agrees;
    answers = inr (inr (record {
      bytes = there.bytes;
      there = there.there;
      small = there.small;
      answers = inr (record { program = program; is = there.is; answers = a.answers });
    }));
  })
  both_named told told_then before mid now program (Ok reply) same_files later there (inr f) =
      inr (record { file = other; names = inr refl; fault = record { rose = omega (arith, later, f.rose); says = f.says } })

  pub none_named : (told : Option Files) (before now : ℕ) (reply : Reply) → IsProgramFound told before now file (founds.Refused reply)
      → CommandReplies told before now (same file other) reply.status reply.out.items reply.err.items
  none_named told before now reply (inl r) = inl (record {
    first = r.files;
    second = r.files;
    first_agrees = r.agrees;
    second_agrees = r.agrees;
    answers = any_named (λ p. NamedAnswers (SameOf file other p) r.files other) r.files file reply.status reply.out.items reply.err.items r.refused;
  })
  none_named told before now reply (inr f) = inr (record { file = file; names = inl refl; fault = f })
