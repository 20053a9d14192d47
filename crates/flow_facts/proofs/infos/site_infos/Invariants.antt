use Rattle.std.proofs.Common.{◌≡◌, ◌++◌, drop, map}
use Rattle.flow_rules.specs.Facts.{site_info}
use Rattle.flow_facts.proofs.infos.site_infos.Given as goal

abbrev pub invariant-loop-site : goal.invariant-loop-site
invariant-loop-site l = l.list.items ++ map site_info (drop l.site-index l.sites.items) ≡ map site_info l.sites.items
