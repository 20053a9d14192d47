-- Mirror. What the definitions see of the declarations and of what is made so far of a body.
use Rattle.std.specs.Prelude.{map}
use Rattle.java_core.specs.Trees.{expr_of}
use Rattle.java_core.specs.Programs.{local_seen, method_seen}
use Rattle.name_laws.specs.Tables.{Table}
use Rattle.name_laws.specs.Expressions.{Receiver, an_object, on_this, on_super, no_object}
use Rattle.name_laws.specs.Statements.{LocalsState}
use Rattle.name_laws.specs.Resolved.{Methods}
use Rattle.name_bodies.specs.declared.declarations.Tables.{Tables}
use Rattle.name_bodies.specs.declared.declarations.Enclosing.{Enclosing}
use Rattle.name_bodies.specs.declared.meanings.Callee.{Callee}
use Rattle.name_bodies.specs.declared.meanings.Callee.TheVariants as callee
use Rattle.name_bodies.specs.declared.locals.Body.{Body}
use Rattle.name_bodies.specs.declared.bodies.Written.{Written}

-- the declarations that the tables of the code hold
abbrev pub table_of : Tables → Table
table_of t = record { known = t.known; parents = t.parents.items; above = t.above; fields = t.declared.fields.items; headings = t.declared.headings.items }

-- what is declared, where a part of a body stands
abbrev pub table_at : Enclosing → Table
table_at s = table_of s.tables.now

-- what a call is on, by what the code says
abbrev pub receiver_of : Callee → Receiver
receiver_of (callee.Object e) = an_object (expr_of e.value)
receiver_of callee.This = on_this
receiver_of callee.Super = on_super
receiver_of (callee.Static m) = no_object m

-- the state in which a body stands: its locals, how many variables there are, and the next free number
abbrev pub state_of : Body → LocalsState
state_of b = record { locals = map local_seen b.locals.items; count = b.count; number = b.number }

-- the methods that are written so far, and the next free number
abbrev pub methods_seen : Written → Methods
methods_seen w = (map method_seen w.methods.items, w.number)
