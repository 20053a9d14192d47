-- Mirror. What the parts of bodies give to the lists of the facts.
use Rattle.std.specs.Prelude.{◌≡◌, ℕ, ◌++◌, List, Option}
use Rattle.std.specs.List.{flat_map}
use Rattle.java_core.specs.Programs.{Plain}
use Rattle.flow_rules.specs.Lists.{Numbers, news_of, flows_of, loads_of, stores_of, calls_of, casts_of, tests_of, accesses_of, supers_of, ties_of}
use Rattle.flow_rules.specs.Spots.{marks_of}
use Rattle.flow_rules.specs.Numbered.{BodyParts}
use Rattle.flow_rules.specs.Parts.{Part}
use Rattle.flow_facts.specs.declared.gathering.Lists.{Lists}
use Rattle.flow_facts.specs.declared.stages.Unordered.{Unordered}
use Rattle.flow_facts.specs.Seen.{calls_seen}

module _ (N : Numbers) (P : Plain) where
  -- each list has what a part of a method's body gives to it more
  pub record IsPartAdded (m : ℕ) (slot : Option ℕ) (p : Part) (old new : Lists) : Type 0 where
    pub news : new.unordered.news.items ≡ old.unordered.news.items ++ news_of N m p
    pub flows : new.unordered.flows.items ≡ old.unordered.flows.items ++ flows_of N m p
    pub loads : new.unordered.loads.items ≡ old.unordered.loads.items ++ loads_of N p
    pub stores : new.unordered.stores.items ≡ old.unordered.stores.items ++ stores_of N p
    pub casts : new.unordered.casts.items ≡ old.unordered.casts.items ++ casts_of N p
    pub tests : new.tests.items ≡ old.tests.items ++ tests_of N p
    pub accesses : new.unordered.accesses.items ≡ old.unordered.accesses.items ++ accesses_of N p
    pub supers : new.unordered.supers.items ≡ old.unordered.supers.items ++ supers_of N m p
    pub ties : new.unordered.ties.items ≡ old.unordered.ties.items ++ ties_of N P m slot p
    pub calls : calls_seen new.calls.items ≡ calls_seen old.calls.items ++ calls_of N p
    pub marks : new.marks.items ≡ old.marks.items ++ marks_of P N p

  -- each list has what the parts of a method's body give to it more
  pub record ArePartsAdded (m : ℕ) (slot : Option ℕ) (ps : List Part) (old new : Lists) : Type 0 where
    pub news : new.unordered.news.items ≡ old.unordered.news.items ++ flat_map (news_of N m) ps
    pub flows : new.unordered.flows.items ≡ old.unordered.flows.items ++ flat_map (flows_of N m) ps
    pub loads : new.unordered.loads.items ≡ old.unordered.loads.items ++ flat_map (loads_of N) ps
    pub stores : new.unordered.stores.items ≡ old.unordered.stores.items ++ flat_map (stores_of N) ps
    pub casts : new.unordered.casts.items ≡ old.unordered.casts.items ++ flat_map (casts_of N) ps
    pub tests : new.tests.items ≡ old.tests.items ++ flat_map (tests_of N) ps
    pub accesses : new.unordered.accesses.items ≡ old.unordered.accesses.items ++ flat_map (accesses_of N) ps
    pub supers : new.unordered.supers.items ≡ old.unordered.supers.items ++ flat_map (supers_of N m) ps
    pub ties : new.unordered.ties.items ≡ old.unordered.ties.items ++ flat_map (ties_of N P m slot) ps
    pub calls : calls_seen new.calls.items ≡ calls_seen old.calls.items ++ flat_map (calls_of N) ps
    pub marks : new.marks.items ≡ old.marks.items ++ flat_map (marks_of P N) ps

  -- each list that is read as a set has what the parts of the bodies give to it
  pub record AreUnordered (bs : List BodyParts) (l : Unordered) : Type 0 where
    pub news : l.news.items ≡ flat_map (λ b. flat_map (news_of N b.number) b.parts) bs
    pub flows : l.flows.items ≡ flat_map (λ b. flat_map (flows_of N b.number) b.parts) bs
    pub loads : l.loads.items ≡ flat_map (λ b. flat_map (loads_of N) b.parts) bs
    pub stores : l.stores.items ≡ flat_map (λ b. flat_map (stores_of N) b.parts) bs
    pub casts : l.casts.items ≡ flat_map (λ b. flat_map (casts_of N) b.parts) bs
    pub accesses : l.accesses.items ≡ flat_map (λ b. flat_map (accesses_of N) b.parts) bs
    pub supers : l.supers.items ≡ flat_map (λ b. flat_map (supers_of N b.number) b.parts) bs
    pub ties : l.ties.items ≡ flat_map (λ b. flat_map (ties_of N P b.number b.slot) b.parts) bs

  -- so has each list
  pub record AreGathered (bs : List BodyParts) (l : Lists) : Type 0 where
    pub unordered : AreUnordered bs l.unordered
    pub tests : l.tests.items ≡ flat_map (λ b. flat_map (tests_of N) b.parts) bs
    pub calls : calls_seen l.calls.items ≡ flat_map (λ b. flat_map (calls_of N) b.parts) bs
    pub marks : l.marks.items ≡ flat_map (λ b. flat_map (marks_of P N) b.parts) bs
