-- From what the shelf gave to the answers.
use Rattle.std.proofs.Common.{◌≡◌, ◌⊎◌, inl, inr, ℕ, ◌<◌, ◌≤◌, List, [], ◌∷◌, length, Option, Some, None, Result, Ok, Err, IfOk, zero, suc, refl, ◌∙◌, sym, ap, subst, arith}
use Rattle.std.specs.declared.alloc.AllocError.{AllocError}
use Rattle.kaba_base.specs.Outside.{Files, IsAbsent, IsFile, Rose}
use Rattle.kaba_top.specs.declared.reply.Reply.{Reply}
use Rattle.kaba_words.specs.declared.words.Command.{Command}
use Rattle.kaba_words.specs.Commands.{command_of, Fits, FitsNone}
use Rattle.kaba_top.specs.Lines.{Says, usage, cannot_read, most_bytes, file_too_large}
use Rattle.kaba_top.specs.Agreement.{Agrees}
use Rattle.kaba_top.specs.Answers.{IsMissing, IsTooLarge, FileAnswers, IsShelfFault, NamesFiles, CommandAnswers, CommandReplies, Replies}
use Rattle.kaba_top.specs.declared.answer.Shows.{Shows}
use Rattle.kaba_top.specs.declared.answer.Shows.TheVariants as shows
use Rattle.kaba_top.specs.Shown.{ShownAnswers, command_showing}
use Rattle.kaba_top.specs.Fetching.{IsThere, IsFileRefused, FileReplies}

found : (f : Files) (name bytes : List ℕ) (o : Option (List ℕ)) → f name ≡ o → ((b : List ℕ) → f name ≡ Some b → bytes ≡ b) → (f name ≡ None → ⊥)
    → length bytes ≤ most_bytes → IsThere (Some f) name bytes
found f name bytes None e same present small = absurd (present e)
found f name bytes (Some b) e same present small = record { files = f; agrees = refl; there = e ∙ ap Some (sym (same b e)); small = small }

pub is_there : (told : Option Files) (name bytes : List ℕ) → ((b : List ℕ) → IsFile told name b → bytes ≡ b) → (IsAbsent told name → ⊥)
    → length bytes ≤ most_bytes → IsThere told name bytes
is_there (Some f) name bytes same present small = found f name bytes (f name) refl same present small
is_there None name bytes same present small = record { files = λ _. Some bytes; agrees = λ _. refl; there = refl; small = small }

pub cannot : (told : Option Files) (before now : ℕ) (name : List ℕ) (status : ℕ) (out err : List ℕ) → Rose before now ⊎ IsAbsent told name
    → Says 66 (cannot_read name) status out err → IsFileRefused told name status out err ⊎ IsShelfFault before now name status out err
cannot told before now name status out err (inl rose) says = inr (record { rose = rose; says = says })
cannot (Some f) before now name status out err (inr absent) says =
    inl (record { files = f; agrees = refl; refused = inl (record { missing = absent; says = says }) })
cannot None before now name status out err (inr absent) says = absurd absent

longer : (n : ℕ) → (xs : List ℕ) × (n < length xs)
longer zero = (0 ∷ [], omega arith)
longer (suc n) = (0 ∷ (longer n).0, omega (arith, (longer n).1))

larger : (f : Files) (name : List ℕ) (status : ℕ) (out err : List ℕ) (o : Option (List ℕ)) → f name ≡ o
    → ((b : List ℕ) → f name ≡ Some b → most_bytes < length b) → (f name ≡ None → ⊥) → Says 67 file_too_large status out err
    → IsFileRefused (Some f) name status out err
larger f name status out err None e large present says = absurd (present e)
larger f name status out err (Some b) e large present says =
    record { files = f; agrees = refl; refused = inr (record { bytes = b; there = e; large = large b e; says = says }) }

pub too_large : (told : Option Files) (before now : ℕ) (name : List ℕ) (status : ℕ) (out err : List ℕ)
    → ((b : List ℕ) → IsFile told name b → most_bytes < length b) → (IsAbsent told name → ⊥) → Says 67 file_too_large status out err
    → IsFileRefused told name status out err ⊎ IsShelfFault before now name status out err
too_large (Some f) before now name status out err large present says = inl (larger f name status out err (f name) refl large present says)
too_large None before now name status out err large present says =
    inl (record {
      files = λ _. Some (longer most_bytes).0;
      agrees = λ _. refl;
      refused = inr
          (record { bytes = (longer most_bytes).0; there = refl; large = (longer most_bytes).1; says = says });
    })

-- some files agree with what is told
any_files : (told : Option Files) → (files : Files) × Agrees told files
any_files (Some f) = (f, refl)
any_files None = ((λ _. Some []), (λ _. refl))

pub usage_replies : (told : Option Files) (before now : ℕ) (words : List (List ℕ)) (r : Result Reply AllocError) → FitsNone words
    → IfOk r (λ reply. Says 64 usage reply.status reply.out.items reply.err.items)
    → IfOk r (λ reply. Replies told before now words reply.status reply.out.items reply.err.items)
usage_replies told before now words (Err e) none h = tt
usage_replies told before now words (Ok reply) none h =
    let files = any_files told in
    inl (record { first = files.0; second = files.0; first_agrees = files.1; second_agrees = files.1; answers = inl (record { fits_none = none; says = h }) })

-- words that fit a command fit what it is
fits_as : (words : List (List ℕ)) (read known : Command) → read ≡ known → Fits words (command_of read) → Fits words (command_of known)
fits_as words read known e fits = subst (λ command. Fits words (command_of command)) e fits

-- a reply to a command is one to the words that were read as it
pub of_command : (told : Option Files) (before now : ℕ) (words : List (List ℕ)) (read known : Command) (r : Result Reply AllocError) → read ≡ known
    → Fits words (command_of read)
    → IfOk r (λ reply. CommandReplies told before now (command_of known) reply.status reply.out.items reply.err.items)
    → IfOk r (λ reply. Replies told before now words reply.status reply.out.items reply.err.items)
of_command told before now words read known (Err e) is fits h = tt
of_command told before now words read known (Ok reply) is fits (inl a) =
    inl (record {
      first = a.first;
      second = a.second;
      first_agrees = a.first_agrees;
      second_agrees = a.second_agrees;
      answers = inr
          (record { command = command_of known; fits = fits_as words read known is fits; answers = a.answers });
    })
of_command told before now words read known (Ok reply) is fits (inr u) =
    inr (record { command = command_of known; fits = fits_as words read known is fits; unread = u })

-- an answer of a command that reads no file is one for any files
pub without_files : (told : Option Files) (before now : ℕ) (words : List (List ℕ)) (read known : Command) (r : Result Reply AllocError) → read ≡ known
    → Fits words (command_of read)
    → ((first second : Files) → IfOk r (λ reply. CommandAnswers (command_of known) first second reply.status reply.out.items reply.err.items))
    → IfOk r (λ reply. Replies told before now words reply.status reply.out.items reply.err.items)
without_files told before now words read known (Err e) is fits a = tt
without_files told before now words read known (Ok reply) is fits a =
    let files = any_files told in
    inl (record {
      first = files.0;
      second = files.0;
      first_agrees = files.1;
      second_agrees = files.1;
      answers = inr
          (record { command = command_of known; fits = fits_as words read known is fits; answers = a files.0 files.0 });
    })

refused_answers : (K : List ℕ → ℕ → List ℕ → List ℕ → Type 0) (files : Files) (name : List ℕ) (status : ℕ) (out err : List ℕ)
    → IsMissing files name status out err ⊎ IsTooLarge files name status out err → FileAnswers K files name status out err
refused_answers K files name status out err (inl m) = inl m
refused_answers K files name status out err (inr l) = inr (inl l)

-- both commands with a script read two files
reads_shown : (s : Shows) (bound : ℕ) (file script : List ℕ) (first second : Files) (status : ℕ) (out err : List ℕ)
    → FileAnswers (λ bytes. FileAnswers (ShownAnswers s bound bytes) second script) first file status out err
    → CommandAnswers (command_showing s bound file script) first second status out err
reads_shown shows.Hierarchy bound file script first second status out err h = h
reads_shown shows.Program bound file script first second status out err h = h

names_shown : (s : Shows) (bound : ℕ) (file script name : List ℕ) → (name ≡ file) ⊎ (name ≡ script) → NamesFiles (command_showing s bound file script) name
names_shown shows.Hierarchy bound file script name h = h
names_shown shows.Program bound file script name h = h

module _ (s : Shows) (bound : ℕ) (file script : List ℕ) where
  -- the first of the two files was read, and the reply is that to the second
  pub two_files : (told told_then : Option Files) (before mid now : ℕ) (bytes : List ℕ) (r : Result Reply AllocError)
      → told_then ≡ told → before ≤ mid → IsThere told file bytes
      → IfOk r (λ reply. FileReplies told_then mid now (ShownAnswers s bound bytes) script reply.status reply.out.items reply.err.items)
      → IfOk r (λ reply. CommandReplies told before now (command_showing s bound file script) reply.status reply.out.items reply.err.items)
  two_files told told_then before mid now bytes (Err e) same later there h = tt
  two_files told told_then before mid now bytes (Ok reply) same later there (inl a) = inl (record {
    first = there.files;
    second = a.first;
    first_agrees = there.agrees;
    second_agrees = subst (λ t. Agrees t a.first) same a.first_agrees;
    answers = reads_shown s bound file script there.files a.first reply.status reply.out.items reply.err.items
        (inr (inr (record { bytes = bytes; there = there.there; small = there.small; answers = a.answers })));
  })
  two_files told told_then before mid now bytes (Ok reply) same later there (inr f) =
      inr (record {
        file = script;
        names = names_shown s bound file script script (inr refl);
        fault = record
            { rose = omega (arith, later, f.rose); says = f.says };
      })

  -- the first of the two files was not read
  pub no_first_file : (told : Option Files) (before now : ℕ) (status : ℕ) (out err : List ℕ)
      → IsFileRefused told file status out err ⊎ IsShelfFault before now file status out err
      → CommandReplies told before now (command_showing s bound file script) status out err
  no_first_file told before now status out err (inl r) = inl (record {
    first = r.files;
    second = r.files;
    first_agrees = r.agrees;
    second_agrees = r.agrees;
    answers = reads_shown s bound file script r.files r.files status out err
        (refused_answers (λ bytes. FileAnswers (ShownAnswers s bound bytes) r.files script) r.files file status out err r.refused);
  })
  no_first_file told before now status out err (inr f) = inr (record { file = file; names = names_shown s bound file script file (inl refl); fault = f })
