-- A program from its parts is the program that a tree resolves to.
use Rattle.std.proofs.Common.{◌≡◌, map, Result, Ok, Err, refl, ap}
use Rattle.std.specs.declared.vec.Vec.{Vec}
use Rattle.std.specs.declared.alloc.Global.{Global}
use Rattle.kaba_base.specs.declared.MemberId.{MemberId}
use Rattle.name_rules.specs.declared.Refusal.{Refusal}
use Rattle.java_core.specs.declared.Class.{Class}
use Rattle.java_core.specs.declared.Field.{Field}
use Rattle.java_core.specs.declared.Method.{Method}
use Rattle.java_core.specs.declared.Slot.{Slot}
use Rattle.java_core.specs.declared.Program.{Program}
use Rattle.java_core.specs.Programs.{Plain, program_of, class_seen, field_seen, method_seen, slot_seen, IsMadeOf}
use Rattle.name_laws.specs.Answers.{with}

-- what goes on after two steps goes on with what the second gave
pub with-then : {A B C : Type 0} (x : Result A Refusal) (y : Result B Refusal) (f : B → Result C Refusal) (k : B) → with x (λ _. y) ≡ Ok k
    → with x (λ _. with y f) ≡ f k
with-then (Ok a) y f k e = ap (λ z. with z f) e
with-then (Err r) y f k e = absurd (cc e)

pub made-seen : (cs : Vec Class Global) (fs : Vec Field Global) (ms : Vec Method Global) (ss : Vec Slot Global) (main : MemberId) (p : Program)
    → IsMadeOf cs fs ms ss main p → ◌≡◌ {A = Plain} (record {
      classes = map class_seen cs.items;
      fields = map field_seen fs.items;
      methods = map method_seen ms.items;
      slots = map slot_seen ss.items;
      main = main.0;
    }) (program_of p)
made-seen cs fs ms ss main p m = rw (m.classes_are, m.fields_are, m.methods_are, m.slots_are, m.main_is) refl
