-- One part, and one body, more.
use Rattle.std.proofs.Common.{◌≡◌, ℕ, ◌+◌, ◌<◌, ◌++◌, ◌∷◌, [], List, length, get_or, take, map, sym, ap, ◌∙◌, subst}
use Rattle.std.specs.Prelude.{Option}
use Rattle.std.specs.List.{flat_map}
use Rattle.std.proofs.lemmas.List.{append_assoc, append-nil, take_more, map-append}
use Rattle.std.proofs.lemmas.Grind.{flat_map-append}
use Rattle.java_core.specs.Programs.{Plain}
use Rattle.flow_rules.specs.Lists.{Numbers, news_of, flows_of, loads_of, stores_of, calls_of, casts_of, tests_of, accesses_of, supers_of, ties_of}
use Rattle.flow_rules.specs.Spots.{marks_of}
use Rattle.flow_rules.specs.Numbered.{BodyParts}
use Rattle.flow_rules.specs.Parts.{Part}
use Rattle.flow_facts.specs.declared.gathering.Lists.{Lists}
use Rattle.flow_facts.specs.Gathered.{IsPartAdded, ArePartsAdded, AreGathered}

-- the items of a list so far, and one more
pub so_far : {A B : Type 0} (f : A → B) (xs ys : List A) (i : ℕ) (x : A) → ys ≡ xs → i < length ys → x ≡ get_or ys i x → map f (take (i + 1) xs)
    ≡ map f (take i xs) ++ f x ∷ []
so_far f xs ys i x s h is =
    ap (map f) (take_more xs i x (subst (λ l. i < length l) s h)) ∙ map-append f (take i xs) (get_or xs i x ∷ [])
    ∙ ap (λ y. map f (take i xs) ++ f y ∷ []) (sym (subst (λ l. x ≡ get_or l i x) s is))

one : {A B : Type 0} (f : A → List B) (xs : List A) (x : A) → flat_map f (xs ++ x ∷ []) ≡ flat_map f xs ++ f x
one f xs x = flat_map-append f xs (x ∷ []) ∙ ap (λ l. flat_map f xs ++ l) (append-nil (f x))

more : {A B : Type 0} (f : A → List B) (xs : List A) (x : A) (old : List B) {mid new : List B} → mid ≡ old ++ flat_map f xs → new ≡ mid ++ f x
    → new ≡ old ++ flat_map f (xs ++ x ∷ [])
more f xs x old e h = h ∙ ap (λ l. l ++ f x) e ∙ append_assoc old (flat_map f xs) (f x) ∙ ap (λ l. old ++ l) (sym (one f xs x))

last : {A B : Type 0} (f : A → List B) (xs : List A) (x : A) {mid new : List B} → mid ≡ flat_map f xs → new ≡ mid ++ f x → new ≡ flat_map f (xs ++ x ∷ [])
last f xs x e h = h ∙ ap (λ l. l ++ f x) e ∙ sym (one f xs x)

module _ (N : Numbers) (P : Plain) where
  pub no_parts : (m : ℕ) (slot : Option ℕ) (l : Lists) → ArePartsAdded N P m slot [] l l
  no_parts m slot l = record {
    news = sym (append-nil _);
    flows = sym (append-nil _);
    loads = sym (append-nil _);
    stores = sym (append-nil _);
    casts = sym (append-nil _);
    tests = sym (append-nil _);
    accesses = sym (append-nil _);
    supers = sym (append-nil _);
    ties = sym (append-nil _);
    calls = sym (append-nil _);
    marks = sym (append-nil _);
  }

  pub part_more : {m : ℕ} {slot : Option ℕ} {ps : List Part} {p : Part} {old mid new : Lists} → ArePartsAdded N P m slot ps old mid
      → IsPartAdded N P m slot p mid new
      → ArePartsAdded N P m slot (ps ++ p ∷ []) old new
  part_more {m} {slot} {ps} {p} a b = record {
    news = more (news_of N m) ps p _ a.news b.news;
    flows = more (flows_of N m) ps p _ a.flows b.flows;
    loads = more (loads_of N) ps p _ a.loads b.loads;
    stores = more (stores_of N) ps p _ a.stores b.stores;
    casts = more (casts_of N) ps p _ a.casts b.casts;
    tests = more (tests_of N) ps p _ a.tests b.tests;
    accesses = more (accesses_of N) ps p _ a.accesses b.accesses;
    supers = more (supers_of N m) ps p _ a.supers b.supers;
    ties = more (ties_of N P m slot) ps p _ a.ties b.ties;
    calls = more (calls_of N) ps p _ a.calls b.calls;
    marks = more (marks_of P N) ps p _ a.marks b.marks;
  }

  pub body_more : {bs : List BodyParts} {b : BodyParts} {mid new : Lists} → AreGathered N P bs mid → ArePartsAdded N P b.number b.slot b.parts mid new
      → AreGathered N P (bs ++ b ∷ []) new
  body_more {bs} {b} g h =
      let c = g.unordered in
      record {
        unordered = record {
          news = last (λ b. flat_map (news_of N b.number) b.parts) bs b c.news h.news;
          flows = last (λ b. flat_map (flows_of N b.number) b.parts) bs b c.flows h.flows;
          loads = last (λ b. flat_map (loads_of N) b.parts) bs b c.loads h.loads;
          stores = last (λ b. flat_map (stores_of N) b.parts) bs b c.stores h.stores;
          casts = last (λ b. flat_map (casts_of N) b.parts) bs b c.casts h.casts;
          accesses = last (λ b. flat_map (accesses_of N) b.parts) bs b c.accesses h.accesses;
          supers = last (λ b. flat_map (supers_of N b.number) b.parts) bs b c.supers h.supers;
          ties = last (λ b. flat_map (ties_of N P b.number b.slot) b.parts) bs b c.ties h.ties;
        };
        tests = last (λ b. flat_map (tests_of N) b.parts) bs b g.tests h.tests;
        calls = last (λ b. flat_map (calls_of N) b.parts) bs b g.calls h.calls;
        marks = last (λ b. flat_map (marks_of P N) b.parts) bs b g.marks h.marks;
      }
