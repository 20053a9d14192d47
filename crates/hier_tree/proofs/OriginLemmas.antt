-- The origins of the start fit, and dropping nodes keeps that they do.
use Rattle.std.proofs.Common.{◌≡◌, ⊎_elim, ℕ, List, Bool, true, Option, Some, sym, ap, ◌∙◌, subst}
use Rattle.hier_laws.specs.Shapes.{Given, Shape}
use Rattle.hier_laws.specs.Starts.{Roles, IsClosed, AreInOrder, IsStart}
use Rattle.hier_tree.specs.Origins.{AreOrderedFacts, Keeps, AreNamesApart, AreStartOrigins, IsWithout}
use Rattle.hier_laws.proofs.Begins.{this_at, under_class}

module _ (G : Given) (R : Roles) (T : IsClosed G R) (O : AreInOrder G R) (W : AreOrderedFacts G) (S : Shape) (B : IsStart G S) (is_class : ℕ → Bool) (o : ℕ
    → ℕ) (A : AreStartOrigins G S is_class o) where
  column_self : (c n : ℕ) → S.column c ≡ Some n → S.le n n ≡ true
  column_self c n at = (B.under c c n n at at).1 (λ r h. h)

  up : (a b : ℕ) → S.le a b ≡ true → G.below (o a) (o b) ≡ true
  up a b k =
      ⊎_elim
      (λ x. subst (λ z. G.below (o a) z ≡ true) x.4 (A.lowest a x.0 x.1 x.2 (B.through a b x.1 k x.3)))
      (λ x. x (o a) (A.nodes a b k))
      (A.one b (B.upper a b k))

  bodies : (c n : ℕ) → G.is_body c ≡ true → S.column c ≡ Some n → o n ≡ G.class_of c
  bodies c n b at =
      let self = column_self c n at in
      O.both (o n) (G.class_of c) (A.lowest n c n at self)
      (⊎_elim
      (λ x. subst (λ z. G.below (G.class_of c) z ≡ true) x.4 (under_class G R T O S B x.0 c b ((B.under c x.0 n x.1 at x.2).0 x.3)))
      (λ x. x (G.class_of c) (A.columns c n at))
      (A.one n self))

  rows : (r : ℕ) → G.is_row r ≡ true → G.below (G.row_class r) (o (S.row r)) ≡ true
  rows r h =
      ⊎_elim
      (λ x. subst (λ z. G.below (G.row_class r) z ≡ true) x.4 (T.above r x.0 ((B.columns r x.0 x.1 h x.2).0 x.3)))
      (λ x. x (G.row_class r) (A.rows r h))
      (A.one (S.row r) ((B.rows r r h h).1 (λ c k. k)))

  supers : (r d : ℕ) → G.runs r d ≡ true → o (S.row r) ≡ G.row_class r
  supers r d run =
      let mine = O.super_this r d run in
      let body = O.this_body r mine.0 mine.1 in
      let place = B.there r mine.0 (T.by_this r mine.0 mine.1) in
      ap o (this_at G R T O S B r mine.0 place.0 mine.1 place.1) ∙ bodies mine.0 place.0 body.0 place.1 ∙ sym body.1

  pub start_keeps : Keeps G S o
  start_keeps = record { up = up; columns = λ c n at. A.lowest n c n at (column_self c n at); bodies = bodies; rows = rows; supers = supers }

module _ (G : Given) (S : Shape) (x : ℕ) (New : Shape) (D : IsWithout S x New) where
  pub drop_keeps : (o : ℕ → ℕ) → Keeps G S o → Keeps G New o
  drop_keeps o K = record {
    up = λ a b k. K.up a b (D.le a b k);
    columns = λ c n at. K.columns c n (sym (D.column c) ∙ at);
    bodies = λ c n b at. K.bodies c n b (sym (D.column c) ∙ at);
    rows = λ r h. rw (D.row r) (K.rows r h);
    supers = λ r d run. ap o (D.row r) ∙ K.supers r d run;
  }

  pub drop_names : (is_field : ℕ → Bool) (slot : ℕ → Option ℕ) (name : ℕ → List ℕ) → AreNamesApart G S is_field slot name
      → AreNamesApart G New is_field slot name
  drop_names is_field slot name N = record {
    fields = λ a c d n m fc fd cc cd. N.fields a c d n m fc fd (sym (D.column c) ∙ cc) (sym (D.column d) ∙ cd);
    slots = λ a c d n m y z sc sd cc cd. N.slots a c d n m y z sc sd (sym (D.column c) ∙ cc) (sym (D.column d) ∙ cd);
  }
