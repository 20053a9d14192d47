-- What a body matches does not depend on its tags.
use Rattle.std.proofs.Common.{ap, ◌∙◌}
use Rattle.std.specs.Option.{is_some}
use Rattle.java_core.specs.Trees.{Ex, Exs, Target, Sts}
use Rattle.java_core.specs.Programs.{Plain}
use Rattle.java_core.specs.Types.{Env, class_of, element_of, is_string, field_in}
use Rattle.java_core.specs.Retagged.{Retagged, s_number, s_character, s_text, s_truth, s_null, s_this, s_local, s_static_field, s_own_field, s_field, s_index, s_call, s_static_call, s_super_call, s_create, s_create_array, s_cast, s_instance_of, s_unary, s_binary, RetaggedAll, s_no_ex, s_ex_then, RetaggedTarget, s_to_local, s_to_static, s_to_own, s_to_field, s_to_element, s_no_target}
use Rattle.java_meaning.specs.Watched.{SameTarget, RetaggedSts}
use Rattle.java_core.proofs.Retagging.{static_same}
use Rattle.java_meaning.proofs.Pairs.{joined_sts}
use Rattle.rebuild_model.specs.Renaming.{Renaming}
use Rattle.rebuild_model.specs.Matches.{Matches, MatchesAll, MatchesTarget, MatchesSts, m_number, m_character, m_text, m_truth, m_null, m_this, m_local, m_static_field, m_own_field, m_field, m_length, m_index, m_call, m_string_call, m_static_call, m_super_call, m_create, m_make, m_create_array, m_cast, m_instance_of, m_unary, m_binary, m_no_ex, m_ex_then, m_to_local, m_to_static, m_to_own, m_to_field, m_to_element}

module _ (P W : Plain) (R : Renaming) (g : Env) where
  mutual
    matches : {e d c : Ex} → Retagged e d → Matches P W R g d c → Matches P W R g e c
    matches s_number m_number = m_number
    matches s_character m_character = m_character
    matches s_text m_text = m_text
    matches s_truth m_truth = m_truth
    matches s_null m_null = m_null
    matches s_this m_this = m_this
    matches s_local m_local = m_local
    matches s_static_field (m_static_field is) = m_static_field is
    matches s_own_field m_own_field = m_own_field
    matches (s_field {x = x} h) (m_field m l) = m_field (matches h m) (ap (λ z. field_in P z x) (static_same P g h) ∙ l)
    matches (s_field h) (m_length m l) = m_length (matches h m) (ap (λ z. is_some (element_of z)) (static_same P g h) ∙ l)
    matches (s_index h i) (m_index m n) = m_index (matches h m) (matches i n)
    matches (s_call h i) (m_call m c d n) = m_call (matches h m) (ap class_of (static_same P g h) ∙ c) d (matches_all i n)
    matches (s_call h i) (m_string_call m s n) = m_string_call (matches h m) (ap is_string (static_same P g h) ∙ s) (matches_all i n)
    matches (s_static_call i) (m_static_call is n) = m_static_call is (matches_all i n)
    matches (s_super_call i) (m_super_call is n) = m_super_call is (matches_all i n)
    matches (s_create i) (m_create none at n) = m_create none at (matches_all i n)
    matches (s_create i) (m_make has is n) = m_make has is (matches_all i n)
    matches (s_create_array h) (m_create_array m) = m_create_array (matches h m)
    matches (s_cast h) (m_cast m) = m_cast (matches h m)
    matches (s_instance_of h) (m_instance_of m at) = m_instance_of (matches h m) at
    matches (s_unary h) (m_unary m) = m_unary (matches h m)
    matches (s_binary h i) (m_binary m n) = m_binary (matches h m) (matches i n)

    matches_all : {es ds cs : Exs} → RetaggedAll es ds → MatchesAll P W R g ds cs → MatchesAll P W R g es cs
    matches_all s_no_ex m_no_ex = m_no_ex
    matches_all (s_ex_then h i) (m_ex_then m n) = m_ex_then (matches h m) (matches_all i n)

  matches_target : {a b c : Target} → RetaggedTarget a b → MatchesTarget P W R g b c → MatchesTarget P W R g a c
  matches_target s_to_local m_to_local = m_to_local
  matches_target s_to_static (m_to_static is) = m_to_static is
  matches_target s_to_own m_to_own = m_to_own
  matches_target (s_to_field {x = x} h) (m_to_field m l) = m_to_field (matches h m) (ap (λ z. field_in P z x) (static_same P g h) ∙ l)
  matches_target (s_to_element h i) (m_to_element m n) = m_to_element (matches h m) (matches i n)
  matches_target s_no_target m = elim m [ ]

  pub matches_sts : {xs ys zs : Sts} → RetaggedSts xs ys → MatchesSts P W R g ys zs → MatchesSts P W R g xs zs
  matches_sts h m = joined_sts Retagged (Matches P W R g) (Matches P W R g) SameTarget (λ v a b. MatchesTarget P W R g a b)
      (λ v a b. MatchesTarget P W R g a b) (λ e d c r q. matches r q)
      (λ e d a b c r q. matches_target r q) h m
