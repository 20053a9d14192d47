-- Each old static field and method has one new number, with its type or code, and each new one comes from one old one.
use Rattle.std.proofs.Common.{◌≡◌, Some, refl, sym, ap, ◌∙◌, subst}
use Rattle.std.specs.Prelude.{ℕ, Bool, true, List, slice_get}
use Rattle.std.specs.Option.{option_map}
use Rattle.std.proofs.lemmas.Option.{same_Some}
use Rattle.java_core.specs.Programs.{Plain, PlainField}
use Rattle.java_core.specs.Types.{field_type}
use Rattle.fact_model.specs.declared.facts.Facts.{Facts}
use Rattle.hier_model.specs.Hierarchies.{Hierarchy}
use Rattle.flow_rules.specs.declared.items.RowItem.TheVariants as row
use Rattle.flow_rules.specs.Facts.{is_holder}
use Rattle.rebuild_model.specs.Renaming.{renaming_of, retyped}
use Rattle.rebuild_model.specs.Matches.{IsCopied, IsStaticField, IsStaticMethod}
use Rattle.rebuild_model.specs.Members.{IsStaticFieldOf, IsStaticMethodOf}
use Rattle.rebuild_laws.specs.looks.Known.{KnownOfBoth, sides}
use Rattle.rebuild_laws.proofs.looks.Fields.{field_holder, method_holder}

-- static members: each has one copy, each copy is of one, and what a copy is besides
pub record AreCopies (S Is : ℕ → ℕ → Type 0) : Type 0 where
  pub one_new : (f g h : ℕ) → S f g → S f h → g ≡ h
  pub one_old : (e f g : ℕ) → S e g → S f g → e ≡ f
  pub is : (f g : ℕ) → S f g → Is f g

-- a class has one member of a name
abbrev AreOnce : {A : Type 0} → (A → ℕ) → (A → List ℕ) → List A → Type 0
AreOnce {A} owner_of name_of xs =
    (f g : ℕ) (x y : A) → slice_get xs f ≡ Some x → slice_get xs g ≡ Some y → owner_of x ≡ owner_of y → name_of x ≡ name_of y → f ≡ g

module _ {P : Plain} {F : Facts} {H : Hierarchy} {W : Plain} (K : KnownOfBoth P F H W) where
  open sides K use {places as T, renaming as R}

  holder_is : (c : ℕ) → R.holder_of c ≡ T.holder_of c
  unfolding renaming_of
  holder_is c = refl

  one_holder : (c d : ℕ) → is_holder P c ≡ true → is_holder P d ≡ true → R.holder_of c ≡ R.holder_of d → c ≡ d
  one_holder c d h k e = K.rebuilt.types.holders_once c d h k (sym (holder_is c) ∙ e ∙ holder_is d)

  -- where a class has one member of a name in both, each holder is of one class, and each old member has a copy
  copies : {A : Type 0} {static_of : A → Bool} {owner_of : A → ℕ} {name_of : A → List ℕ} {olds news : List A} {Is : ℕ → ℕ → Type 0}
      → AreOnce owner_of name_of olds → AreOnce owner_of name_of news
      → ((f : ℕ) (x : A) → slice_get olds f ≡ Some x → static_of x ≡ true → is_holder P (owner_of x) ≡ true)
      → ((f : ℕ) (x : A) → slice_get olds f ≡ Some x → static_of x ≡ true → (g : ℕ) × Is f g)
      → ((f g : ℕ) → Is f g → IsCopied static_of owner_of name_of R.holder_of olds news f g)
      → AreCopies (IsCopied static_of owner_of name_of R.holder_of olds news) Is
  copies {A} {static_of} {owner_of} {name_of} {olds} {news} {Is} old new holder each same = record {
    one_new = one_new;
    one_old = λ e f g a b.
        let one : a.new ≡ b.new = same_Some _ _ (sym a.new_stands ∙ b.new_stands) in
        old e f a.old b.old a.old_stands b.old_stands
        (one_holder (owner_of a.old) (owner_of b.old) (holder e a.old a.old_stands a.old_static) (holder f b.old b.old_stands b.old_static)
        (sym a.owner ∙ ap owner_of one ∙ b.owner)) (sym a.name ∙ ap name_of one ∙ b.name);
    is = λ f g a. let x = each f a.old a.old_stands a.old_static in subst (λ z. Is f z) (one_new f x.0 g (same f x.0 x.1) a) x.1;
  }
    where
      one_new : (f g h : ℕ) (a : IsCopied static_of owner_of name_of R.holder_of olds news f g)
          (b : IsCopied static_of owner_of name_of R.holder_of olds news f h) → g ≡ h
      one_new f g h a b =
          let one : a.old ≡ b.old = same_Some _ _ (sym a.old_stands ∙ b.old_stands) in
          new g h a.new b.new a.new_stands b.new_stands (a.owner ∙ ap (λ z. R.holder_of (owner_of z)) one ∙ sym b.owner) (a.name ∙ ap name_of one ∙ sym b.name)

  -- fields
  pub static_fields : AreCopies (IsStaticField P W R) (IsStaticFieldOf P F H W T)
  static_fields = copies K.old.field_names K.new.field_names (field_holder P) K.rebuilt.statics.each_field (λ f g x. x.same)

  -- the new field has the type of the old one's row
  pub static_field_type : (f g : ℕ) (x : IsStaticFieldOf P F H W T f g) → field_type W g ≡ Some (retyped (R.row_type (row.Field f)) x.same.old.ty)
  static_field_type f g x = ap (option_map (λ (k : PlainField). k.ty)) x.same.new_stands ∙ ap Some x.type

  -- methods
  pub static_methods : AreCopies (IsStaticMethod P W R) (IsStaticMethodOf P F H W T)
  static_methods = copies K.old.method_names K.new.method_names (method_holder P) K.rebuilt.statics.each_method (λ m g x. x.same)
