-- A written type means the type of its row's node.
use Rattle.std.proofs.Common.{◌≡◌, ℕ, List, Option, Some, refl, sym, ap, ◌∙◌, subst}
use Rattle.std.specs.Prelude.{true, false, codes}
use Rattle.std.specs.Option.{option_map}
use Rattle.std.proofs.lemmas.Bool.{false≢true}
use Rattle.std.proofs.lemmas.Option.{same_Some}
use Rattle.std.proofs.lemmas.Slice.Eq.{bytes_eq-Decides}
use Rattle.kaba_base.specs.declared.ClassId.{ClassId}
use Rattle.java_tree.specs.declared.TypeBase.TheVariants as bases
use Rattle.java_core.specs.declared.Ty.{Ty}
use Rattle.java_core.specs.declared.TyBase.{TyBase}
use Rattle.java_core.specs.declared.TyBase.TheVariants.{Int, Boolean, Char, Str, Class}
use Rattle.java_core.specs.declared.UnOp.{UnOp}
use Rattle.java_core.specs.declared.UnOp.TheVariants as un
use Rattle.java_core.specs.declared.BinOp.{BinOp}
use Rattle.java_core.specs.declared.BinOp.TheVariants as bin
use Rattle.java_core.specs.declared.Op.{Op}
use Rattle.java_core.specs.declared.Op.TheVariants as op
use Rattle.java_core.specs.Programs.{Plain}
use Rattle.java_core.specs.Types.{is_class}
use Rattle.java_core.specs.Formed.{IsCastType, to_int as is_int, to_char as is_char, to_class as is_of_class}
use Rattle.java_core.specs.Classes.{class_id}
use Rattle.kaba_order.specs.Orders.{is_live}
use Rattle.hier_model.specs.Hierarchies.{Hierarchy, type_name}
use Rattle.name_rules.specs.Outline.{is_text_type}
use Rattle.name_rules.specs.Meanings.{class_named, MeansBase, an_int, a_boolean, a_char, a_text, a_class, Means, MeansCastBase, to_int, to_boolean, to_char, to_class, MeansCast}
use Rattle.name_rules.specs.Resolves.{un_op, bin_op}
use Rattle.write_model.specs.Names.{row_name, written_base, written_type, prefix_mark, infix_mark}
use Rattle.rebuild_model.specs.Renaming.{Places, reclassed, retyped}
use Rattle.rebuild_model.proofs.Reclassed.{reclassed_plain}

-- operators are read as they are written
pub prefix_read : (o : UnOp) → un_op (prefix_mark o) ≡ o
prefix_read un.Plus = refl
prefix_read un.Minus = refl
prefix_read un.Flip = refl
prefix_read un.Not = refl

operation_read : (o : Op) → bin_op (infix_mark (bin.Int o)) ≡ bin.Int o
operation_read op.Plus = refl
operation_read op.Minus = refl
operation_read op.Times = refl
operation_read op.Divide = refl
operation_read op.Remainder = refl
operation_read op.ShiftLeft = refl
operation_read op.ShiftRight = refl
operation_read op.ShiftRightUnsigned = refl
operation_read op.And = refl
operation_read op.Or = refl
operation_read op.Xor = refl

pub infix_read : (o : BinOp) → bin_op (infix_mark o) ≡ o
infix_read (bin.Int o) = operation_read o
infix_read bin.Same = refl
infix_read bin.Differs = refl
infix_read bin.Less = refl
infix_read bin.Greater = refl
infix_read bin.AtMost = refl
infix_read bin.AtLeast = refl
infix_read bin.Both = refl
infix_read bin.Either = refl

same_type : (a b : TyBase) (i j : ℕ) → a ≡ b → i ≡ j → ◌≡◌ {A = Ty} (record { base = a; dim = i }) (record { base = b; dim = j })
same_type a b i j e f = ap (λ z. record { base = z; dim = i }) e ∙ ap (λ z. record { base = b; dim = z }) f

-- a cast is to no String
cast_plain : (P : Plain) (v : Ty) → IsCastType P v → v.base ≡ Str → ⊥
cast_plain P v is_int e = cc
cast_plain P v is_char e = cc
cast_plain P v (is_of_class c) e = cc

-- the type of each live node's name is the node's
module _ (O P : Plain) (H : Hierarchy) (T : Places) (type : (n : ℕ) → is_live H.order n ≡ true → class_named O (type_name H n) ≡ Some (T.type_of n))
    (no_text : (n : ℕ) → is_live H.order n ≡ true → is_text_type (type_name H n) ≡ false) where
  -- what is a class has a row, at a live node
  abbrev pub HasNode : Option ℕ → TyBase → Type 0
  HasNode n b = (c : ClassId) → b ≡ Class c → (a : ℕ) × (n ≡ Some a) × (is_live H.order a ≡ true)

  abbrev new : Option ℕ → Option ℕ
  new n = option_map T.type_of n

  plain : (n : Option ℕ) (b : TyBase) → is_class b ≡ false → b ≡ reclassed (new n) b
  plain n b e = sym (reclassed_plain (new n) b e)

  class_is : (x : List ℕ) (k : ℕ) (d : TyBase) → is_text_type x ≡ false → class_named O x ≡ Some k → MeansBase O (bases.Named x) d → d ≡ Class (class_id k)
  class_is x k d f e (a_text t) = absurd (false≢true (sym f ∙ t))
  class_is x k d f e (a_class {c = c} g l) = ap (λ z. Class (class_id z)) (same_Some c k (sym l ∙ e))

  cast_class : (x : List ℕ) (k : ℕ) (d : TyBase) → class_named O x ≡ Some k → MeansCastBase O (bases.Named x) d → d ≡ Class (class_id k)
  cast_class x k d e (to_class {c = c} l) = ap (λ z. Class (class_id z)) (same_Some c k (sym l ∙ e))

  text_is : (n : Option ℕ) (d : TyBase) → MeansBase O (bases.Named (codes "String")) d → d ≡ reclassed (new n) Str
  text_is n d (a_text t) = plain n Str refl
  text_is n d (a_class g l) = absurd (false≢true (sym g ∙ (bytes_eq-Decides (codes "String") (codes "String")).1 refl))

  base_is : (n : Option ℕ) (b d : TyBase) → HasNode n b → MeansBase O (written_base P H n b) d → d ≡ reclassed (new n) b
  base_is n Int d h an_int = plain n Int refl
  base_is n Boolean d h a_boolean = plain n Boolean refl
  base_is n Char d h a_char = plain n Char refl
  base_is n Str d h me = text_is n d me
  base_is n (Class c) d h me =
      let a = h c refl in
      class_is (type_name H a.0) (T.type_of a.0) d (no_text a.0 a.2) (type a.0 a.2) (subst (λ z. MeansBase O (bases.Named (row_name P H z c.0)) d) a.1 me)
      ∙ ap (λ z. reclassed (new z) (Class c)) (sym a.1)

  base_cast : (n : Option ℕ) (b d : TyBase) → (b ≡ Str → ⊥) → HasNode n b → MeansCastBase O (written_base P H n b) d → d ≡ reclassed (new n) b
  base_cast n Int d s h to_int = plain n Int refl
  base_cast n Boolean d s h to_boolean = plain n Boolean refl
  base_cast n Char d s h to_char = plain n Char refl
  base_cast n Str d s h me = absurd (s refl)
  base_cast n (Class c) d s h me =
      let a = h c refl in
      cast_class (type_name H a.0) (T.type_of a.0) d (type a.0 a.2) (subst (λ z. MeansCastBase O (bases.Named (row_name P H z c.0)) d) a.1 me)
      ∙ ap (λ z. reclassed (new z) (Class c)) (sym a.1)

  pub means_is : (n : Option ℕ) (v t : Ty) → HasNode n v.base → Means O (written_type P H n v) t → t ≡ retyped (new n) v
  means_is n v t h me = same_type t.base (reclassed (new n) v.base) t.dim v.dim (base_is n v.base t.base h me.base) me.dim

  pub cast_is : (S : Plain) (n : Option ℕ) (v t : Ty) → IsCastType S v → HasNode n v.base → MeansCast O (written_type P H n v) t → t ≡ retyped (new n) v
  cast_is S n v t c h me = same_type t.base (reclassed (new n) v.base) t.dim v.dim (base_cast n v.base t.base (cast_plain S v c) h me.base) me.dim
