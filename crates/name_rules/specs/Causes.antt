-- Believed. What each answer of `resolve` that is no program comes from.
use Rattle.std.specs.Prelude.{List}
use Rattle.java_tree.specs.Syntax.{DeclTree}
use Rattle.name_rules.specs.declared.Refusal.{Refusal}
use Rattle.name_rules.specs.declared.Refusal.TheVariants.{Memory}
use Rattle.name_rules.specs.Conditions.{ConditionAt}

-- want of memory is free; any other refusal comes where its condition holds
abbrev pub IsCause : List DeclTree → Refusal → Type 0
IsCause tree Memory = Unit {0}
IsCause tree r = ConditionAt tree r

-- none of the conditions holds
abbrev pub HasNoCondition : List DeclTree → Type 0
HasNoCondition tree = (r : Refusal) → ConditionAt tree r → ⊥
