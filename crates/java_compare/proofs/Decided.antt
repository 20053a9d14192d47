-- The comparison of trees decides whether they are equal, places aside.
use Rattle.std.proofs.Common.{◌≡◌, List, [], ◌∷◌, refl, ap}
use Rattle.std.specs.Prelude.{◌&&◌, Bool, true, false, Option, Some, None}
use Rattle.std.specs.Bool.{Decides}
use Rattle.std.specs.Cmp.{unsigned_Decides, signed_Decides, booleans_Decides}
use Rattle.std.proofs.lemmas.Bool.{false≢true}
use Rattle.std.proofs.lemmas.Slice.Eq.{bytes_eq-Decides}
use denote.Enum.Bare.{sameb, same_true, true_same}
use Rattle.kaba_base.specs.declared.words.Keyword.{Keyword}
use Rattle.kaba_base.specs.contracts.words.Keyword.{the_type as key_type}
use Rattle.java_lex.specs.declared.Mark.{Mark}
use Rattle.java_lex.specs.contracts.Mark.{the_type as mark_type}
use Rattle.java_tree.specs.declared.Id.{Id}
use Rattle.java_tree.specs.declared.Modifier.{Modifier}
use Rattle.java_tree.specs.declared.TypeBase.{TypeBase}
use Rattle.java_tree.specs.declared.TypeBase.TheVariants as bases
use Rattle.java_tree.specs.declared.TypeName.{TypeName}
use Rattle.java_tree.specs.declared.Param.{Param}
use Rattle.java_tree.specs.Syntax.{Expression, IntLit, CharLit, StrLit, BoolLit, NullLit, ThisRef, NameRef, FieldOf, IndexOf, CallOf, CallOn, SuperCallOf, NewOf, NewArrayOf, CastOf, InstanceOfClass, UnaryOf, BinaryOf, Expressions, no_more, and_more, Statement, LocalOf, BlockOf, AssignOf, DoOf, PrintOf, IfOf, WhileOf, ForOf, ReturnOf, BreakOf, ContinueOf, Statements, no_statements, and_then, Arms, no_arms, and_arm, Else, no_else, otherwise, OptionalStatement, absent, present, HeadTree, MemberTree, FieldTree, MethodTree, MakerTree, DeclTree, ClassTree, InterfaceTree}
use Rattle.java_tree.specs.Places.{id_unplaced, modifier_unplaced, type_unplaced, param_unplaced, expr_unplaced, exprs_unplaced, value_unplaced, stmt_unplaced, stmts_unplaced, arms_unplaced, else_unplaced, step_unplaced, all_unplaced, may_unplaced, head_unplaced, member_unplaced, decl_unplaced, unplaced}
use Rattle.java_compare.specs.Same.{same_id, same_modifier, same_base, same_type, same_param, same_expr, same_exprs, same_value, same_stmt, same_stmts, same_arms, same_else, same_step, all_same, may_same, same_head, same_member, same_decl, same_tree}

-- both of two tests
both : {P Q : Type 0} {s t : Bool} → Decides s P → Decides t Q → Decides (s && t) (P × Q)
both {s = true} {t = t} a b = (λ h. (a.0 refl, b.0 h), λ r. b.1 r.1)
both {s = false} {t = t} a b = (λ h. absurd (false≢true h), λ r. a.1 r.0)

via : {P R : Type 0} {s : Bool} → Decides s P → (P → R) → (R → P) → Decides s R
via a f g = (λ h. f (a.0 h), λ r. a.1 (g r))

key_decides : (a b : Keyword) → Decides (sameb key_type a b) (a ≡ b)
key_decides a b = (λ h. same_true key_type tt a b h, λ h. true_same key_type a b h)

mark_decides : (a b : Mark) → Decides (sameb mark_type a b) (a ≡ b)
mark_decides a b = (λ h. same_true mark_type tt a b h, λ h. true_same mark_type a b h)

id_decides : (a b : Id) → Decides (same_id a b) (id_unplaced a ≡ id_unplaced b)
id_decides a b = via (bytes_eq-Decides a.name b.name) (λ h. cc) (λ h. ap (λ (i : Id). i.name) h)

modifier_decides : (a b : Modifier) → Decides (same_modifier a b) (modifier_unplaced a ≡ modifier_unplaced b)
modifier_decides a b = via (key_decides a.word b.word) (λ h. cc) (λ h. ap (λ (i : Modifier). i.word) h)

base_decides : (a b : TypeBase) → Decides (same_base a b) (a ≡ b)
base_decides bases.Int bases.Int = (λ h. refl, λ h. refl)
base_decides bases.Boolean bases.Boolean = (λ h. refl, λ h. refl)
base_decides bases.Char bases.Char = (λ h. refl, λ h. refl)
base_decides (bases.Named n) (bases.Named m) = via (bytes_eq-Decides n m) (λ h. cc) (λ h. cc)
base_decides _ _ = (λ h. cc, λ h. cc)

type_decides : (a b : TypeName) → Decides (same_type a b) (type_unplaced a ≡ type_unplaced b)
type_decides a b = via (both (base_decides a.base b.base) (unsigned_Decides a.dim b.dim)) (λ h. cc (h.0, h.1))
    (λ h. (ap (λ (i : TypeName). i.base) h, ap (λ (i : TypeName). i.dim) h))

param_decides : (a b : Param) → Decides (same_param a b) (param_unplaced a ≡ param_unplaced b)
param_decides a b = via (both (both (booleans_Decides a.is_final b.is_final) (type_decides a.ty b.ty)) (bytes_eq-Decides a.name b.name))
    (λ h. cc (h.0.0, h.0.1, h.1)) (λ h. ((ap (λ (i : Param). i.is_final) h, ap (λ (i : Param). i.ty) h), ap (λ (i : Param). i.name) h))

mutual
  expr_decides : (a b : Expression) → Decides (same_expr a b) (expr_unplaced a ≡ expr_unplaced b)
  expr_decides (IntLit v p) (IntLit w q) = via (signed_Decides v w) (λ h. cc) (λ h. cc)
  expr_decides (CharLit c p) (CharLit d q) = via (unsigned_Decides c d) (λ h. cc) (λ h. cc)
  expr_decides (StrLit u p) (StrLit v q) = via (bytes_eq-Decides u v) (λ h. cc) (λ h. cc)
  expr_decides (BoolLit b p) (BoolLit c q) = via (booleans_Decides b c) (λ h. cc) (λ h. cc)
  expr_decides (NullLit p) (NullLit q) = (λ h. refl, λ h. refl)
  expr_decides (ThisRef p) (ThisRef q) = (λ h. refl, λ h. refl)
  expr_decides (NameRef n p) (NameRef m q) = via (bytes_eq-Decides n m) (λ h. cc) (λ h. cc)
  expr_decides (FieldOf e n p) (FieldOf f m q) = via (both (bytes_eq-Decides n m) (expr_decides e f)) (λ h. cc (h.0, h.1)) (λ h. (cc, cc))
  expr_decides (IndexOf e i p) (IndexOf f j q) = via (both (expr_decides e f) (expr_decides i j)) (λ h. cc (h.0, h.1)) (λ h. (cc, cc))
  expr_decides (CallOf n es p) (CallOf m fs q) = via (both (bytes_eq-Decides n m) (exprs_decides es fs)) (λ h. cc (h.0, h.1)) (λ h. (cc, cc))
  expr_decides (CallOn e n es p) (CallOn f m fs q) = via (both (both (bytes_eq-Decides n m) (expr_decides e f)) (exprs_decides es fs))
      (λ h. cc (h.0.0, h.0.1, h.1)) (λ h. ((cc, cc), cc))
  expr_decides (SuperCallOf n es p) (SuperCallOf m fs q) = via (both (bytes_eq-Decides n m) (exprs_decides es fs)) (λ h. cc (h.0, h.1)) (λ h. (cc, cc))
  expr_decides (NewOf c es p) (NewOf d fs q) = via (both (id_decides c d) (exprs_decides es fs)) (λ h. cc (h.0, h.1)) (λ h. (cc, cc))
  expr_decides (NewArrayOf t e p) (NewArrayOf u f q) = via (both (type_decides t u) (expr_decides e f)) (λ h. cc (h.0, h.1)) (λ h. (cc, cc))
  expr_decides (CastOf t e p) (CastOf u f q) = via (both (type_decides t u) (expr_decides e f)) (λ h. cc (h.0, h.1)) (λ h. (cc, cc))
  expr_decides (InstanceOfClass e c p) (InstanceOfClass f d q) = via (both (id_decides c d) (expr_decides e f)) (λ h. cc (h.0, h.1)) (λ h. (cc, cc))
  expr_decides (UnaryOf m e p) (UnaryOf k f q) = via (both (mark_decides m k) (expr_decides e f)) (λ h. cc (h.0, h.1)) (λ h. (cc, cc))
  expr_decides (BinaryOf m a b p) (BinaryOf k c d q) = via (both (both (mark_decides m k) (expr_decides a c)) (expr_decides b d))
      (λ h. cc (h.0.0, h.0.1, h.1)) (λ h. ((cc, cc), cc))
  expr_decides _ _ = (λ h. absurd (false≢true h), λ h. cc)

  exprs_decides : (a b : Expressions) → Decides (same_exprs a b) (exprs_unplaced a ≡ exprs_unplaced b)
  exprs_decides no_more no_more = (λ h. refl, λ h. refl)
  exprs_decides (and_more e es) (and_more f fs) = via (both (expr_decides e f) (exprs_decides es fs)) (λ h. cc (h.0, h.1)) (λ h. (cc, cc))
  exprs_decides _ _ = (λ h. absurd (false≢true h), λ h. cc)

value_decides : (a b : Option Expression) → Decides (same_value a b) (value_unplaced a ≡ value_unplaced b)
value_decides None None = (λ h. refl, λ h. refl)
value_decides (Some e) (Some f) = via (expr_decides e f) (λ h. cc) (λ h. cc)
value_decides _ _ = (λ h. absurd (false≢true h), λ h. cc)

mutual
  stmt_decides : (a b : Statement) → Decides (same_stmt a b) (stmt_unplaced a ≡ stmt_unplaced b)
  stmt_decides (LocalOf f t n v p) (LocalOf g u m w q) =
      via (both (both (both (booleans_Decides f g) (type_decides t u)) (bytes_eq-Decides n m)) (value_decides v w))
      (λ h. cc (h.0.0.0, h.0.0.1, h.0.1, h.1)) (λ h. (((cc, cc), cc), cc))
  stmt_decides (BlockOf ss p) (BlockOf rs q) = via (stmts_decides ss rs) (λ h. cc) (λ h. cc)
  stmt_decides (AssignOf t v p) (AssignOf u w q) = via (both (expr_decides t u) (expr_decides v w)) (λ h. cc (h.0, h.1)) (λ h. (cc, cc))
  stmt_decides (DoOf c p) (DoOf d q) = via (expr_decides c d) (λ h. cc) (λ h. cc)
  stmt_decides (PrintOf l v p) (PrintOf m w q) = via (both (booleans_Decides l m) (value_decides v w)) (λ h. cc (h.0, h.1)) (λ h. (cc, cc))
  stmt_decides (IfOf a o p) (IfOf b r q) = via (both (arms_decides a b) (else_decides o r)) (λ h. cc (h.0, h.1)) (λ h. (cc, cc))
  stmt_decides (WhileOf t ss p) (WhileOf u rs q) = via (both (expr_decides t u) (stmts_decides ss rs)) (λ h. cc (h.0, h.1)) (λ h. (cc, cc))
  stmt_decides (ForOf f t g ss p) (ForOf h u k rs q) =
      via (both (both (both (step_decides f h) (value_decides t u)) (step_decides g k)) (stmts_decides ss rs))
      (λ h. cc (h.0.0.0, h.0.0.1, h.0.1, h.1)) (λ h. (((cc, cc), cc), cc))
  stmt_decides (ReturnOf v p) (ReturnOf w q) = via (value_decides v w) (λ h. cc) (λ h. cc)
  stmt_decides (BreakOf p) (BreakOf q) = (λ h. refl, λ h. refl)
  stmt_decides (ContinueOf p) (ContinueOf q) = (λ h. refl, λ h. refl)
  stmt_decides _ _ = (λ h. absurd (false≢true h), λ h. cc)

  stmts_decides : (a b : Statements) → Decides (same_stmts a b) (stmts_unplaced a ≡ stmts_unplaced b)
  stmts_decides no_statements no_statements = (λ h. refl, λ h. refl)
  stmts_decides (and_then s ss) (and_then r rs) = via (both (stmt_decides s r) (stmts_decides ss rs)) (λ h. cc (h.0, h.1)) (λ h. (cc, cc))
  stmts_decides _ _ = (λ h. absurd (false≢true h), λ h. cc)

  arms_decides : (a b : Arms) → Decides (same_arms a b) (arms_unplaced a ≡ arms_unplaced b)
  arms_decides no_arms no_arms = (λ h. refl, λ h. refl)
  arms_decides (and_arm t ss a) (and_arm u rs b) = via (both (both (expr_decides t u) (stmts_decides ss rs)) (arms_decides a b))
      (λ h. cc (h.0.0, h.0.1, h.1)) (λ h. ((cc, cc), cc))
  arms_decides _ _ = (λ h. absurd (false≢true h), λ h. cc)

  else_decides : (a b : Else) → Decides (same_else a b) (else_unplaced a ≡ else_unplaced b)
  else_decides no_else no_else = (λ h. refl, λ h. refl)
  else_decides (otherwise ss) (otherwise rs) = via (stmts_decides ss rs) (λ h. cc) (λ h. cc)
  else_decides _ _ = (λ h. absurd (false≢true h), λ h. cc)

  step_decides : (a b : OptionalStatement) → Decides (same_step a b) (step_unplaced a ≡ step_unplaced b)
  step_decides absent absent = (λ h. refl, λ h. refl)
  step_decides (present s) (present r) = via (stmt_decides s r) (λ h. cc) (λ h. cc)
  step_decides _ _ = (λ h. absurd (false≢true h), λ h. cc)

all_decides : {A : Type 0} {f : A → A → Bool} {g : A → A} → ((a b : A) → Decides (f a b) (g a ≡ g b)) → (xs ys : List A)
    → Decides (all_same f xs ys) (all_unplaced g xs ≡ all_unplaced g ys)
all_decides d [] [] = (λ h. refl, λ h. refl)
all_decides d (x ∷ xs) (y ∷ ys) = via (both (d x y) (all_decides d xs ys)) (λ h. cc (h.0, h.1)) (λ h. (cc, cc))
all_decides d _ _ = (λ h. absurd (false≢true h), λ h. cc)

may_decides : {A : Type 0} {f : A → A → Bool} {g : A → A} → ((a b : A) → Decides (f a b) (g a ≡ g b)) → (x y : Option A)
    → Decides (may_same f x y) (may_unplaced g x ≡ may_unplaced g y)
may_decides d None None = (λ h. refl, λ h. refl)
may_decides d (Some x) (Some y) = via (d x y) (λ h. cc) (λ h. cc)
may_decides d _ _ = (λ h. absurd (false≢true h), λ h. cc)

head_decides : (a b : HeadTree) → Decides (same_head a b) (head_unplaced a ≡ head_unplaced b)
head_decides a b = via (both (both (both (all_decides modifier_decides a.mods b.mods) (may_decides type_decides a.type b.type))
    (bytes_eq-Decides a.name b.name)) (all_decides param_decides a.params b.params))
    (λ h. cc (h.0.0.0, h.0.0.1, h.0.1, h.1))
    (λ h. (((ap (λ (i : HeadTree). i.mods) h, ap (λ (i : HeadTree). i.type) h), ap (λ (i : HeadTree). i.name) h), ap (λ (i : HeadTree). i.params) h))

member_decides : (a b : MemberTree) → Decides (same_member a b) (member_unplaced a ≡ member_unplaced b)
member_decides (FieldTree m t n p) (FieldTree k u l q) =
    via (both (both (all_decides modifier_decides m k) (type_decides t u)) (bytes_eq-Decides n l)) (λ h. cc (h.0.0, h.0.1, h.1)) (λ h. ((cc, cc), cc))
member_decides (MethodTree h b p) (MethodTree g c q) = via (both (head_decides h g) (may_decides stmts_decides b c)) (λ h. cc (h.0, h.1)) (λ h. (cc, cc))
member_decides (MakerTree m n qs u ss p) (MakerTree k l rs v ts q) =
    via (both (both (both (both (all_decides modifier_decides m k) (bytes_eq-Decides n l)) (all_decides param_decides qs rs))
    (may_decides exprs_decides u v)) (stmts_decides ss ts))
    (λ h. cc (h.0.0.0.0, h.0.0.0.1, h.0.0.1, h.0.1, h.1)) (λ h. ((((cc, cc), cc), cc), cc))
member_decides _ _ = (λ h. absurd (false≢true h), λ h. cc)

decl_decides : (a b : DeclTree) → Decides (same_decl a b) (decl_unplaced a ≡ decl_unplaced b)
decl_decides (ClassTree m n c f ms p) (ClassTree k l d g rs q) =
    via (both (both (both (both (all_decides modifier_decides m k) (bytes_eq-Decides n l)) (may_decides id_decides c d)) (all_decides id_decides f g))
    (all_decides member_decides ms rs))
    (λ h. cc (h.0.0.0.0, h.0.0.0.1, h.0.0.1, h.0.1, h.1)) (λ h. ((((cc, cc), cc), cc), cc))
decl_decides (InterfaceTree m n f hs p) (InterfaceTree k l g js q) =
    via (both (both (both (all_decides modifier_decides m k) (bytes_eq-Decides n l)) (all_decides id_decides f g)) (all_decides head_decides hs js))
    (λ h. cc (h.0.0.0, h.0.0.1, h.0.1, h.1)) (λ h. (((cc, cc), cc), cc))
decl_decides _ _ = (λ h. absurd (false≢true h), λ h. cc)

-- the comparison of two programs
pub tree_decides : (a b : List DeclTree) → Decides (same_tree a b) (unplaced a ≡ unplaced b)
tree_decides a b = all_decides decl_decides a b
