use Rattle.std.proofs.Common.{◌≡◌, ℕ, List}
use Rattle.std.specs.Str.{encode_utf8_all}
use Rattle.indexmap.specs.IndexMap.{get_by_text}
use Rattle.hier_rules.specs.Namesakes.{last_of, AreLinks}
use Rattle.hier_rules.proofs.clashes.links.Given as goal

abbrev pub invariant-loop-c : goal.invariant-loop-c
invariant-loop-c l = record {
  links : AreLinks l.asked.hier.now l.c l.links.items;
  last : (x : List ℕ) → get_by_text l.last (encode_utf8_all x) ≡ last_of l.asked.hier.now x l.c;
}
