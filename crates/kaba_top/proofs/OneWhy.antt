-- `why` has for a program one answer, but for the trail that it shows.
use Rattle.std.proofs.Common.{inl, inr, ℕ, ◌<◌, length, refl, sym, subst, ◌∙◌}
use Rattle.fact_model.specs.declared.facts.Facts.{Facts}
use Rattle.why_table.specs.Found.{HasEntry}
use Rattle.flow_program.specs.Same.{AreSameFacts}
use Rattle.kaba_top.specs.WhyAnswers.{no_entry, WhyOf}
use Rattle.kaba_top.specs.OneAnswer.{AreOneKind}
use Rattle.kaba_top.proofs.SameFacts.{turned}
use Rattle.kaba_top.proofs.SameSets.{entry_on}
use Rattle.kaba_top.proofs.OneAnalysis.{said}

-- an entry of facts is one of facts that are the same
there : {F G : Facts} → AreSameFacts F G → (row column : ℕ) → HasEntry F row column → HasEntry G row column
there s row column h = record {
  row = subst (λ z. row < length z) s.rows h.row;
  column = subst (λ z. column < length z) s.columns h.column;
  entry = entry_on s row column h.entry;
}

pub one_why_text : (row column : ℕ) {F G : Facts} → AreSameFacts F G → AreOneKind (WhyOf row column F) (WhyOf row column G)
one_why_text row column same s t o p e f (inl x) (inl y) = said 71 (no_entry row column) (no_entry row column) refl s t o p e f x.says y.says
one_why_text row column {F} {G} same s t o p e f (inl x) (inr y) = absurd (x.none (there (turned F G same) row column y.holds))
one_why_text row column same s t o p e f (inr x) (inl y) = absurd (y.none (there same row column x.holds))
one_why_text row column {F} {G} same s t o p e f (inr x) (inr y) = record {
  status = x.gives.status_is ∙ sym y.gives.status_is;
  out = inr (record {
    facts = F;
    other = G;
    same = same;
    row = row;
    column = column;
    one = record { trail = x.trail; is = x.is; out_is = x.gives.out_is };
    two = record { trail = y.trail; is = y.is; out_is = y.gives.out_is };
  });
  err = inl (x.gives.err_is ∙ sym y.gives.err_is);
}
