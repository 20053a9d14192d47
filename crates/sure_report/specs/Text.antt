-- Believed. The text of a report.
use Rattle.std.specs.Prelude.{ℕ, Bool, true, false, List, [], ◌∷◌, ◌++◌, length, codes, slice_get, position}
use Rattle.std.specs.Option.{option_map_or, option_and_then}
use Rattle.std.specs.List.{flat_map}
use Rattle.std.specs.Fmt.{decimal}
use Rattle.std.specs.Str.{encode_utf8_all}
use Rattle.kaba_base.specs.declared.ColId.{ColId}
use Rattle.fact_model.specs.Classes.{is_slot}
use Rattle.fact_model.specs.declared.facts.Facts.{Facts}
use Rattle.fact_model.specs.declared.facts.Spot.{Spot}
use Rattle.sure_report.specs.declared.Bodies.{Bodies}
use Rattle.sure_report.specs.declared.Bodies.TheVariants.{Zero, One, Many}
use Rattle.sure_report.specs.declared.Sure.{Sure}
use Rattle.sure_report.specs.Report.{cast_spots, call_spots}

-- the name of a class or interface
abbrev pub class_name : Facts → ℕ → List ℕ
class_name F c = option_map_or (λ k. encode_utf8_all k.name) (slice_get F.classes.items c) []

-- the name of the class that a test of the facts tests against
abbrev pub tested_name : Facts → ℕ → List ℕ
tested_name F n = option_map_or (λ x. class_name F x.class.0) (slice_get F.tests.items n) []

-- the name of a slot: that of the first column that has it
abbrev pub slot_name : Facts → ℕ → List ℕ
slot_name F j = option_map_or (λ k. encode_utf8_all k.name) (option_and_then (λ c. slice_get F.columns.items c) (position (λ k. is_slot k.slot j) F.columns.items)) []

-- the name that a call of the facts calls
abbrev pub called_name : Facts → ℕ → List ℕ
called_name F n = option_map_or (λ c. slot_name F c.slot) (slice_get F.calls.items n) []

-- the label of a column
abbrev pub column_label : Facts → ℕ → List ℕ
column_label F c = option_map_or (λ k. encode_utf8_all k.label) (slice_get F.columns.items c) []

-- whether a cast is sure
abbrev pub sure_word : Bool → List ℕ
sure_word true = codes "sure"
sure_word false = codes "open"

-- which bodies a call may run
abbrev pub bodies_text : Bodies → List ℕ
bodies_text Zero = codes "none"
bodies_text (One d) = codes "one c" ++ decimal d.0
bodies_text Many = codes "many"

-- the line of a cast
abbrev pub cast_line : Facts → Spot → Bool → List ℕ
cast_line F x b = codes "cast " ++ (tested_name F x.at ++ (codes "@" ++ (decimal x.place.line ++ (codes " " ++ (sure_word b ++ codes "\n")))))

-- the line of a call
abbrev pub call_line : Facts → Spot → Bodies → List ℕ
call_line F x v = codes "call " ++ (called_name F x.at ++ (codes "@" ++ (decimal x.place.line ++ (codes " " ++ (bodies_text v ++ codes "\n")))))

-- the line of a dead column
abbrev pub dead_line : Facts → ColId → List ℕ
dead_line F c = codes "c" ++ (decimal c.0 ++ (codes " " ++ (column_label F c.0 ++ codes "\n")))

-- a line for each spot and what is said of it
abbrev pub lines : {A : Type 0} → (Spot → A → List ℕ) → List Spot → List A → List ℕ
lines line [] vs = []
lines line (x ∷ xs) [] = []
lines line (x ∷ xs) (v ∷ vs) = line x v ++ lines line xs vs

-- how many casts, calls and dead members there are, and a line for each
abbrev pub sure_text : Facts → Sure → List ℕ
sure_text F r =
    codes "casts " ++ (decimal (length r.casts.items) ++ (codes "\n" ++ (lines (cast_line F) (cast_spots F) r.casts.items
    ++ (codes "calls " ++ (decimal (length r.calls.items) ++ (codes "\n" ++ (lines (call_line F) (call_spots F) r.calls.items
    ++ (codes "dead " ++ (decimal (length r.dead.items) ++ (codes "\n" ++ flat_map (dead_line F) r.dead.items))))))))))
