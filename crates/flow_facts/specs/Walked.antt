-- Mirror. What a walk over a tree adds to the parts of a body.
use Rattle.std.specs.Prelude.{◌≡◌, ℕ, ◌+◌, ◌++◌, ◌∷◌, ◌||◌, Bool, true, List, length, Option}
use Rattle.std.specs.Option.{is_some}
use Rattle.kaba_base.specs.declared.Place.{Place}
use Rattle.java_core.specs.Trees.{Ex, Exs}
use Rattle.java_core.specs.Programs.{Plain, PlainMethod, program_of, code_seen}
use Rattle.java_core.specs.Makers.{maker_of, maker_slot}
use Rattle.flow_rules.specs.declared.items.ObjectType.{ObjectType}
use Rattle.flow_rules.specs.declared.items.Operand.{Operand}
use Rattle.flow_rules.specs.declared.items.Part.{Part}
use Rattle.flow_rules.specs.Labels.{size, sizes, label, label_all}
use Rattle.flow_rules.specs.Operands.{operand_of, operands_of, call_slot, call_declaration}
use Rattle.flow_rules.specs.Types.{object_type}
use Rattle.flow_rules.specs.Parts as plain
use Rattle.flow_facts.specs.declared.enclosing.Enclosing.{Enclosing}
use Rattle.flow_facts.specs.Views.{parts_seen, call_operand, creation_operand}

-- what is said of a body, by its program, the types there, its number and itself
abbrev pub in_body : {X : Type 0} → Enclosing → (Plain → (Ex → Option ObjectType) → ℕ → PlainMethod → X) → X
in_body w f =
    let P = program_of w.program.now in
    let k = code_seen w.code in
    f P (object_type P k) w.number k

-- so many parts more, which are these
pub record IsAdded (old new : List Part) (n : ℕ) (ps : List plain.Part) : Type 0 where
  pub grown : length new ≡ length old + n
  pub parts : parts_seen new ≡ parts_seen old ++ ps

-- the parts of something in the body of a method more, which is labelled from the length of the list on
abbrev pub IsGained : {X : Type 0} → Enclosing → List Part → List Part → (X → ℕ) → (Plain → (Ex → Option ObjectType) → ℕ → PlainMethod → X → List plain.Part)
    → (ℕ → X → X) → X → Type 0
IsGained w old new size ps label x = IsAdded old new (size x) (in_body w ps (label (length old) x))

-- the same, and the operand that is given is the one that is wanted
pub record IsOperandMade (old new : List Part) (n : ℕ) (ps : List plain.Part) (given wanted : Operand) : Type 0 where
  pub grown : length new ≡ length old + n
  pub value : given ≡ wanted
  pub parts : parts_seen new ≡ parts_seen old ++ ps

-- in the body of a method
module _ (P : Plain) (m : ℕ) (k : PlainMethod) where
  -- the parts of an expression more, which is labelled from the length of the list on, and what it is
  pub record IsWalked (u : Bool) (e : Ex) (old new : List Part) (o : Operand) : Type 0 where
    pub grown : length new ≡ length old + size e
    pub value : o ≡ operand_of P (object_type P k) m k (label (length old) e)
    pub parts : parts_seen new ≡ parts_seen old ++ plain.parts P (object_type P k) m k u (label (length old) e)

  -- the same of arguments
  pub record AreWalked (u : Bool) (es : Exs) (old new : List Part) (os : List Operand) : Type 0 where
    pub grown : length new ≡ length old + sizes es
    pub value : os ≡ operands_of P (object_type P k) m k (label_all (length old) es)
    pub parts : parts_seen new ≡ parts_seen old ++ plain.parts_all P (object_type P k) m k u (label_all (length old) es)

  -- the operands and the parts of arguments from a label on
  abbrev pub args_from : ℕ → Exs → List Operand
  args_from n es = operands_of P (object_type P k) m k (label_all n es)

  -- the parts of arguments with their labels from n on; u tells whether a creation there is a flow point
  abbrev pub parts_from : Bool → ℕ → Exs → List plain.Part
  parts_from u n es = plain.parts_all P (object_type P k) m k u (label_all n es)

  -- the parts of the creation of the number i of an object of a class, labelled from a number on; it is a flow point where u says so, and where a
  -- constructor is called on it
  abbrev pub creation_from : Bool → Place → ℕ → ℕ → ℕ → Exs → List plain.Part
  creation_from u p i c n es =
      plain.a_creation p (u || is_some (maker_of P c)) (creation_operand m n i c) (maker_slot P c) (maker_of P c) (args_from (n + 1) es)
      ∷ parts_from (is_some (maker_of P c)) (n + 1) es

  -- the parts of a call of an instance method on an operand, labelled from a number on
  abbrev pub call_from : Place → Operand → List ℕ → ℕ → Exs → List plain.Part
  call_from p o x n es = plain.a_call p o (call_slot P o.ty x) (call_declaration P o.ty x) (args_from (n + 1) es) (call_operand P m n o.ty x)
      ∷ parts_from true (n + 1) es
