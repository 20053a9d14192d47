-- Names by their texts, nodes that are not live, and columns that clash.
use Rattle.std.proofs.Common.{◌≡◌, ℕ, suc, zero, ◌<◌, true, false, List, [], ◌∷◌, length, get_or, None, refl, sym, ◌∙◌, arith}
use Rattle.std.specs.Prelude.{nat_lt}
use Rattle.std.specs.List.{list_all}
use Rattle.std.specs.Str.{chars}
use Rattle.std.proofs.lemmas.Bool.{and_parts, ltb-true, false≢true, false_from_ne_true}
use Rattle.std.proofs.lemmas.Str.{chars-IsAscii}
use Rattle.kaba_bits.specs.Sets.{first_below}
use Rattle.kaba_bits.proofs.FirstLemmas.{first_below_clear}
use Rattle.kaba_order.specs.Orders.{is_live, IsPartialOrder}
use Rattle.fact_model.specs.declared.facts.Facts.{Facts}
use Rattle.hier_model.specs.Hierarchies.{Hierarchy, is_offered}
use Rattle.hier_model.proofs.ClassLemmas.{offered_live}
use Rattle.hier_rules.specs.Names.{confused}

ascii : (bs : List ℕ) → list_all (λ b. nat_lt b 128) bs ≡ true → (i : ℕ) → get_or bs i 0 < 128
ascii [] h i = omega arith
ascii (b ∷ bs) h zero = ltb-true b 128 (and_parts (nat_lt b 128) (list_all (λ b. nat_lt b 128) bs) h).0
ascii (b ∷ bs) h (suc i) = ascii bs (and_parts (nat_lt b 128) (list_all (λ b. nat_lt b 128) bs) h).1 i

-- the characters of a text of seven bits are its bytes
pub seven_bits : (bs : List ℕ) → list_all (λ b. nat_lt b 128) bs ≡ true → chars bs ≡ bs
seven_bits bs h = chars-IsAscii bs (ascii bs h)

module _ (F : Facts) (H : Hierarchy) (P : IsPartialOrder H.order) where
  pub dead_confused : (n : ℕ) → is_live H.order n ≡ false → first_below (length F.columns.items) (confused F H n) ≡ None
  dead_confused n dead =
      first_below_clear (confused F H n) (length F.columns.items) (λ d lt.
      none d (false_from_ne_true (is_offered H n d) (λ h. false≢true (sym dead ∙ offered_live F H P n d h))))
    where
      none : (d : ℕ) → is_offered H n d ≡ false → confused F H n d ≡ None
      none d e = rw e refl
