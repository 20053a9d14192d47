-- Modifiers: which stand there, or one that cannot stand.
use Rattle.std.proofs.Common.{◌≡◌, ℕ, zero, suc, ◌<◌, ⊎_elim, Bool, true, false, ◌||◌, List, [], ◌∷◌, ◌++◌, length, Some, Ok, Err, refl, sym, ap, ◌∙◌, subst, arith}
use Rattle.std.specs.Prelude.{slice_get, if◌then◌else◌}
use Rattle.std.proofs.lemmas.Bool.{or_cases, or_left, or_right, or_parts, false≢true}
use Rattle.std.proofs.lemmas.List.{length-append}
use Rattle.std.proofs.Math.Bool.{or-true}
use Rattle.std.proofs.lemmas.Option.{slice_get_within}
use Rattle.kaba_base.specs.declared.words.Keyword.{Keyword}
use Rattle.kaba_base.specs.declared.words.Keyword.TheVariants as keys
use Rattle.kaba_base.proofs.ListLemmas.{contains_at}
use Rattle.java_tree.specs.declared.Modifier.{Modifier}
use Rattle.java_tree.specs.Syntax.{DeclTree}
use Rattle.name_rules.specs.declared.Form.TheVariants as forms
use Rattle.name_rules.specs.declared.Refusal.TheVariants.{NotInProfile}
use Rattle.name_rules.specs.declared.parts.Kind.{Kind}
use Rattle.name_rules.specs.declared.parts.Kind.TheVariants as kinds
use Rattle.name_laws.specs.declared.parts.Flags.{Flags}
use Rattle.name_laws.specs.Classes.{no_flags, is_taken, noted, flag, flags_of}
use Rattle.name_rules.specs.Outline.{is_maker_kind, has_word, is_public_word, is_protected_word, is_private_word, is_abstract_word, is_static_word, is_final_word}
use Rattle.name_rules.specs.Conditions.{ConditionAt, HasModifiers, disagree, is_unfit, modifiers_disagree, modifier_unfit}
use Rattle.name_laws.proofs.Sees.{Tells, turn, same_some}
use Rattle.name_laws.proofs.Runs.{run-tells, stands-at, earlier-stands, push-cases}

-- which modifiers stand there, and what disagrees with one of them
pub record FlagsAre (mods : List Modifier) (f : Flags) : Type 0 where
  pub public : f.is_public ≡ has_word is_public_word mods
  pub protected : f.is_protected ≡ has_word is_protected_word mods
  pub private : f.is_private ≡ has_word is_private_word mods
  pub abstract : f.is_abstract ≡ has_word is_abstract_word mods
  pub static : f.is_static ≡ has_word is_static_word mods
  pub final : f.is_final ≡ has_word is_final_word mods
  pub taken : (w : Keyword) → is_taken f w ≡ has_word (λ v. disagree v w) mods

-- `static` stands with no `abstract`, and not in an interface
pub record NoStatic (kind : Kind) (f : Flags) : Type 0 where
  pub head : kind ≡ kinds.Head → f.is_static ≡ false
  pub abstract : f.is_abstract ≡ true → f.is_static ≡ false

-- each modifier can stand there, and agrees with those before it
pub record AreFit (kind : Kind) (mods : List Modifier) : Type 0 where
  pub fit : (i : ℕ) (m : Modifier) → slice_get mods i ≡ Some m → is_unfit kind m.word ≡ false
  pub agree : (i j : ℕ) (a b : Modifier) → slice_get mods i ≡ Some a → slice_get mods j ≡ Some b → i < j → disagree a.word b.word ≡ false

-- ---- words that stand there

word-push : (test : Keyword → Bool) (mods : List Modifier) (m : Modifier) → has_word test (mods ++ m ∷ []) ≡ test m.word || has_word test mods
word-push test [] m = refl
word-push test (x ∷ mods) m = ap (λ z. test x.word || z) (word-push test mods m) ∙ swap (test x.word) (test m.word) (has_word test mods)
  where
    swap : (a b c : Bool) → a || (b || c) ≡ b || (a || c)
    swap true true c = refl
    swap true false c = refl
    swap false b c = refl

word-stands : (test : Keyword → Bool) (mods : List Modifier) → has_word test mods ≡ true → (i : ℕ) × (m : Modifier) × (slice_get mods i ≡ Some m)
    × (test m.word ≡ true)
word-stands test [] e = absurd (cc e)
word-stands test (x ∷ mods) e = ⊎_elim (λ h. (0, x, refl, h)) (λ h. let g = word-stands test mods h in (suc g.0, g.1, g.2, g.3))
    (or_cases (test x.word) (has_word test mods) e)

no-word : (test : Keyword → Bool) (mods : List Modifier) → has_word test mods ≡ false → (i : ℕ) (m : Modifier) → slice_get mods i ≡ Some m
    → test m.word ≡ false
no-word test [] e i m at = absurd (cc at)
no-word test (x ∷ mods) e zero m at = ap (λ z. test z.word) (sym (same_some at)) ∙ (or_parts (test x.word) (has_word test mods) e).0
no-word test (x ∷ mods) e (suc i) m at = no-word test mods (or_parts (test x.word) (has_word test mods) e).1 i m at

-- ---- one modifier more

record Noted (f : Flags) (v : Keyword) : Type 0 where
  public : (noted f v).is_public ≡ is_public_word v || f.is_public
  protected : (noted f v).is_protected ≡ is_protected_word v || f.is_protected
  private : (noted f v).is_private ≡ is_private_word v || f.is_private
  abstract : (noted f v).is_abstract ≡ is_abstract_word v || f.is_abstract
  static : (noted f v).is_static ≡ is_static_word v || f.is_static
  final : (noted f v).is_final ≡ is_final_word v || f.is_final

noted-is : (f : Flags) (v : Keyword) → Noted f v
noted-is f keys.Public = record { public = refl; protected = refl; private = refl; abstract = refl; static = refl; final = refl }
noted-is f _ = record { public = refl; protected = refl; private = refl; abstract = refl; static = refl; final = refl }

noted-taken : (f : Flags) (v w : Keyword) → is_taken (noted f v) w ≡ disagree v w || is_taken f w
noted-taken f keys.Abstract keys.Private = or-true f.is_private
noted-taken f keys.Abstract keys.Static = or-true f.is_static
noted-taken f keys.Private keys.Abstract = ap (λ z. z || f.is_static) (or-true f.is_abstract)
noted-taken f keys.Static keys.Abstract = or-true (f.is_abstract || f.is_private)
noted-taken f keys.Public keys.Public = refl
noted-taken f keys.Protected keys.Protected = refl
noted-taken f keys.Final keys.Final = refl
noted-taken f _ _ = refl

flags-push : (mods : List Modifier) (f : Flags) (m : Modifier) → FlagsAre mods f → FlagsAre (mods ++ m ∷ []) (noted f m.word)
flags-push mods f m h = record {
  public = push is_public_word n.public h.public;
  protected = push is_protected_word n.protected h.protected;
  private = push is_private_word n.private h.private;
  abstract = push is_abstract_word n.abstract h.abstract;
  static = push is_static_word n.static h.static;
  final = push is_final_word n.final h.final;
  taken = λ w. push (λ v. disagree v w) (noted-taken f m.word w) (h.taken w);
}
  where
    n : Noted f m.word
    n = noted-is f m.word

    push : (test : Keyword → Bool) {a b : Bool} → b ≡ test m.word || a → a ≡ has_word test mods → b ≡ has_word test (mods ++ m ∷ [])
    push test e g = e ∙ ap (λ z. test m.word || z) g ∙ sym (word-push test mods m)

static-push : (kind : Kind) (f : Flags) (w : Keyword) → is_taken f w ≡ false → is_unfit kind w ≡ false → NoStatic kind f → NoStatic kind (noted f w)
static-push kind f keys.Static e u n = record {
  head = λ h. absurd (false≢true (sym u ∙ ap (λ z. is_unfit z keys.Static) h));
  abstract = λ h. absurd (false≢true (sym (or_parts f.is_static f.is_abstract e).1 ∙ h));
}
static-push kind f keys.Abstract e u n = record { head = n.head; abstract = λ h. (or_parts (f.is_abstract || f.is_private) f.is_static e).1 }
static-push kind f keys.Public e u n = record { head = n.head; abstract = n.abstract }
static-push kind f _ e u n = record { head = n.head; abstract = n.abstract }

fit-push : (kind : Kind) (done : List Modifier) (m : Modifier) → has_word (λ v. disagree v m.word) done ≡ false → is_unfit kind m.word ≡ false
    → AreFit kind done → AreFit kind (done ++ m ∷ [])
fit-push kind done m e u g = record {
  fit = λ i x at. ⊎_elim (λ v. g.fit i x v) (λ v. subst (λ z. is_unfit kind z.word ≡ false) v.1 u) (push-cases done m i x at);
  agree = λ i j a b at there lt. ⊎_elim
      (λ p. ⊎_elim (λ q. g.agree i j a b p q lt) (λ q. subst (λ z. disagree a.word z.word ≡ false) q.1 (no-word (λ v. disagree v m.word) done e i a p))
      (push-cases done m j b there))
      (λ p. absurd (let s = p.0 in let t = slice_get_within (done ++ m ∷ []) j b there in let l = length-append done (m ∷ []) in omega (arith, s, t, l, lt)))
      (push-cases done m i a at);
}

-- no modifier at all
pub none-stand : (kind : Kind) → FlagsAre [] no_flags × NoStatic kind no_flags × AreFit kind []
none-stand kind = (
  record { public = refl; protected = refl; private = refl; abstract = refl; static = refl; final = refl; taken = none },
  record { head = λ h. refl; abstract = λ h. refl },
  record { fit = λ i m e. absurd (cc e); agree = λ i j a b e f lt. absurd (cc e) },
)
  where
    none : (w : Keyword) → is_taken no_flags w ≡ false
    none keys.Public = refl
    none _ = refl

pub maker-kind : (k : Kind) → is_maker_kind k ≡ true → k ≡ kinds.Maker
maker-kind kinds.Maker e = refl
maker-kind _ e = absurd (false≢true e)

-- a constructor is not static
pub no-static-maker : (mods : List Modifier) → AreFit kinds.Maker mods → has_word is_static_word mods ≡ false
no-static-maker mods h = go (has_word is_static_word mods) refl
  where
    go : (b : Bool) → has_word is_static_word mods ≡ b → b ≡ false
    go false e = refl
    go true e =
        let w = word-stands is_static_word mods e in
        absurd (false≢true (sym (h.fit w.0 w.1 w.2)
        ∙ or_right (is_abstract_word w.1.word) (is_static_word w.1.word || is_final_word w.1.word)
        (or_left (is_static_word w.1.word) (is_final_word w.1.word) w.3)))

module _ (tree : List DeclTree) (kind : Kind) (mods : List Modifier) (has : HasModifiers tree kind mods) where
  abbrev AreGood : List Modifier → Flags → Type 0
  AreGood done f = FlagsAre done f × NoStatic kind f × AreFit kind done

  -- a modifier that does not fit, or disagrees with one before it
  misplaced : (done rest : List Modifier) (m : Modifier) (f : Flags) → mods ≡ done ++ m ∷ rest → FlagsAre done f
      → is_taken f m.word || is_unfit kind m.word ≡ true → ConditionAt tree (NotInProfile forms.Modifier m.place)
  misplaced done rest m f at h e =
      ⊎_elim
      (λ t. let g = word-stands (λ v. disagree v m.word) done (sym (h.taken m.word) ∙ t) in
      modifiers_disagree has (earlier-stands done (m ∷ rest) at g.0 g.1 g.2) (stands-at done m rest at) (slice_get_within done g.0 g.1 g.2) g.3)
      (λ u. modifier_unfit has (contains_at mods (length done) m (stands-at done m rest at)) u)
      (or_cases (is_taken f m.word) (is_unfit kind m.word) e)

  pub flags-fit : Tells (λ f. FlagsAre mods f × NoStatic kind f × AreFit kind mods) (ConditionAt tree) (flags_of kind mods)
  flags-fit = run-tells (ConditionAt tree) mods (flag kind) AreGood step [] mods no_flags refl (none-stand kind)
    where
      step : (done rest : List Modifier) (m : Modifier) (f : Flags) → mods ≡ done ++ m ∷ rest → AreGood done f
          → Tells (AreGood (done ++ m ∷ [])) (ConditionAt tree) (flag kind f m)
      step done rest m f at h = go (is_taken f m.word || is_unfit kind m.word) refl
        where
          go : (b : Bool) → is_taken f m.word || is_unfit kind m.word ≡ b
              → Tells (AreGood (done ++ m ∷ [])) (ConditionAt tree) (if b then Err (NotInProfile forms.Modifier m.place) else Ok (noted f m.word))
          go true e = misplaced done rest m f at h.0 e
          go false e =
              let p = or_parts (is_taken f m.word) (is_unfit kind m.word) e in
              (flags-push done f m h.0, static-push kind f m.word p.0 p.1 h.1, fit-push kind done m (sym (h.0.taken m.word) ∙ p.0) p.1 h.2)

  pub flags-tells : Tells (FlagsAre mods) (ConditionAt tree) (flags_of kind mods)
  flags-tells = turn (flags_of kind mods) flags-fit (λ f h. h.0) (λ r q. q)
