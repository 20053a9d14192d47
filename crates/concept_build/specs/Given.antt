-- Mirror. What is given to find concepts, and for each of them.
use Rattle.std.specs.Prelude.{◌≡◌, ◌<◌, ◌^◌, length}
use Rattle.kaba_bits.specs.Sets.{HasWidth}
use Rattle.fact_model.specs.Concepts.{AreAllConcepts}
use Rattle.concept_build.specs.Tables.{IsCounted}
use Rattle.concept_build.specs.Lists.{columns_of, lists_of}
use Rattle.concept_build.specs.declared.covers.Given.{Given}
use Rattle.concept_build.specs.declared.intents.Source.{Source}

-- the table is one of rows of the width, and is counted
pub record IsTableSource (s : Source) : Type 0 where
  pub rows : length s.table.now < 2 ^ 32
  pub widths : HasWidth s.width s.table.now
  pub counts : IsCounted s.table.now s.width s.counts.now

-- the table is counted, the concepts are all that it has, and the places tell where each stands
pub record IsBuilderInput (g : Given) : Type 0 where
  pub rows : length g.table.now < 2 ^ 32
  pub widths : HasWidth g.width g.table.now
  pub counts : IsCounted g.table.now g.width g.counts.now
  pub small : length g.items.now < 2 ^ 32
  pub all : AreAllConcepts g.table.now g.width g.items.now
  pub places : lists_of g.places.now.keys ≡ columns_of g.items.now
