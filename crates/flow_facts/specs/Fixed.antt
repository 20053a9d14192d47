-- Mirror. The names that are fixed for constructors, as plain data.
use Rattle.std.specs.Prelude.{List, ◌++◌, map, codes}
use Rattle.std.specs.Fmt.{decimal}
use Rattle.kaba_base.specs.declared.SiteId.{SiteId}
use Rattle.fact_model.specs.Taken.{texts}
use Rattle.flow_rules.specs.Facts as plain
use Rattle.flow_rules.specs.Facts.{fixed_from}
use Rattle.flow_facts.specs.declared.fixed.FixedFor.{FixedFor}
use Rattle.flow_facts.specs.declared.fixed.FixedFor.TheVariants as the
use Rattle.flow_facts.specs.declared.fixed.FixedName.{FixedName}
use Rattle.flow_facts.specs.declared.fixed.Fixing.{Fixing}

-- what a name is fixed for
abbrev pub for_seen : FixedFor → plain.FixedFor
for_seen (the.Init c) = plain.an_init c.0
for_seen the.Holder = plain.the_holder
for_seen the.Local = plain.the_local
for_seen (the.Make s) = plain.a_make s.0

-- a name and what it is fixed for
abbrev pub fixed_seen : FixedName → plain.FixedName
fixed_seen f = record { for = for_seen f.of; name = f.name }

-- the names that are fixed so far, and behind them those that are wished, as they will be fixed
abbrev pub all_fixed : Fixing → List plain.FixedName → List plain.FixedName
all_fixed s ws = map fixed_seen s.fixed.items ++ fixed_from (texts s.taken.keys) ws

-- the name that is wished for the method of a site
abbrev pub wished_make : SiteId → plain.FixedName
wished_make s = record { for = plain.a_make s.0; name = codes "make_" ++ decimal s.0 }
