-- Believed. What an edit makes of a hierarchy, and why it is refused.
use Rattle.std.specs.Prelude.{Option, Some, None, Result, Ok, Err}
use Rattle.fact_model.specs.declared.facts.Facts.{Facts}
use Rattle.fact_model.specs.declared.sets.PointsTo.{PointsTo}
use Rattle.hier_model.specs.Hierarchies.{Hierarchy}
use Rattle.hier_model.specs.Edits.{changed}
use Rattle.hier_model.specs.declared.edits.Edit.{Edit}
use Rattle.hier_model.specs.declared.edits.ChangeFault.{ChangeFault}
use Rattle.hier_model.specs.declared.edits.ChangeFault.TheVariants as change
use Rattle.hier_rules.specs.First.{first_of_edit}
use Rattle.hier_rules.specs.declared.broken.Broken.{Broken}
use Rattle.hier_rules.specs.declared.broken.Rule.TheVariants.{B1}
use Rattle.hier_rules.specs.declared.broken.Nodes.TheVariants.{One}
use Rattle.hier_edit.specs.declared.ApplyFault.{ApplyFault}
use Rattle.hier_edit.specs.declared.ApplyFault.TheVariants.{UnknownNode, UnknownMember, NotEmpty, Breaks, Memory}

-- an edit that leaves no order breaks B1
abbrev pub fault_of : ChangeFault → ApplyFault
fault_of (change.UnknownNode n) = UnknownNode n
fault_of (change.UnknownMember c) = UnknownMember c
fault_of (change.NotEmpty n) = NotEmpty n
fault_of (change.Cycle n) = Breaks (record { rule = B1; nodes = One n; row = None; column = None })
fault_of change.Memory = Memory

-- a hierarchy, or the refusal that names an instance against an obligation
abbrev pub unless_broken : Hierarchy → Option Broken → Result Hierarchy ApplyFault
unless_broken H None = Ok H
unless_broken H (Some b) = Err (Breaks b)

-- a hierarchy, or the first instance of the first of its obligations B2 to B8 that is broken
abbrev pub tested : Facts → PointsTo → Hierarchy → Result Hierarchy ApplyFault
tested F pt H = unless_broken H (first_of_edit F pt H)

-- the hierarchy that a change made, where it meets its obligations, or why it is refused
abbrev pub outcome : Facts → PointsTo → Result Hierarchy ChangeFault → Result Hierarchy ApplyFault
outcome F pt (Ok H) = tested F pt H
outcome F pt (Err fault) = Err (fault_of fault)

-- the hierarchy after an edit that is accepted, or why it is refused
abbrev pub applied : Facts → PointsTo → Hierarchy → Edit → Result Hierarchy ApplyFault
applied F pt H edit = outcome F pt (changed F H edit)
