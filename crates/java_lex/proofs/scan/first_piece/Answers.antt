use Rattle.std.proofs.Common.{ap, sym, ◌∙◌, codes}
use Rattle.std.proofs.lemmas.Bool.{eq-eqb, ne_eqb}
use Rattle.java_lex.specs.Chars.{is_front}
use Rattle.java_lex.specs.Spelling.{mark_of}
use Rattle.java_lex.specs.Piece.{mark_piece}
use Rattle.java_lex.specs.declared.scan.Piece.TheVariants.{Gap}
use Rattle.java_lex.proofs.Rules.{blank_rule, string_rule, char_rule, line_rule, comment_rule, mark_rule}
use Rattle.java_lex.proofs.Made.{ok_along, word_made, number_made}
use Rattle.java_lex.proofs.scan.first_piece.Goals as goal

pub returns-then-is_blank-clause-value : goal.returns-then-is_blank-clause-value
returns-then-is_blank-clause-value c = sym (blank_rule c.args.first c.args.rest.now (sym c.is_blank.ensures ∙ c.if-is_blank.true))

pub returns-then-starts_identifier-clause-value : goal.returns-then-starts_identifier-clause-value
returns-then-starts_identifier-clause-value c = ok_along _ _ _ c.word_piece.ensures.value
    (word_made c.args.all.now c.args.rest.now c.args.first c.parts-n.result c.requires c.parts-n.ensures.value (sym c.is_blank.ensures
    ∙ c.if-is_blank.false) (sym c.starts_identifier.ensures.value ∙ c.if-starts_identifier.true))

pub returns-then-is_ascii_digit-clause-value : goal.returns-then-is_ascii_digit-clause-value
returns-then-is_ascii_digit-clause-value c = c.number_piece.ensures.value
    ∙ number_made c.args.all.now c.args.rest.now c.args.first c.more_digits-n.result c.requires c.more_digits-n.ensures.value (sym c.is_blank.ensures
    ∙ c.if-is_blank.false) (sym c.starts_identifier.ensures.value ∙ c.if-starts_identifier.false) (sym c.is_ascii_digit.ensures.value
    ∙ c.if-is_ascii_digit.true)

pub returns-then-first-eq34-clause-value : goal.returns-then-first-eq34-clause-value
returns-then-first-eq34-clause-value c = ok_along _ _ _ c.string_piece.ensures.value
    (sym (string_rule c.args.first c.args.rest.now (sym c.is_blank.ensures ∙ c.if-is_blank.false) (sym c.starts_identifier.ensures.value
    ∙ c.if-starts_identifier.false) (sym c.is_ascii_digit.ensures.value ∙ c.if-is_ascii_digit.false) (eq-eqb _ 34 c.if-first-eq34.true)))

pub returns-then-first-eq39-clause-value : goal.returns-then-first-eq39-clause-value
returns-then-first-eq39-clause-value c = c.char_piece.ensures.value
    ∙ sym (char_rule c.args.first c.args.rest.now (sym c.is_blank.ensures ∙ c.if-is_blank.false) (sym c.starts_identifier.ensures.value
    ∙ c.if-starts_identifier.false) (sym c.is_ascii_digit.ensures.value ∙ c.if-is_ascii_digit.false) (ne_eqb _ 34 c.if-first-eq34.false)
    (eq-eqb _ 39 c.if-first-eq39.true))

pub returns-then-begins-clause-value : goal.returns-then-begins-clause-value
returns-then-begins-clause-value c = ap Gap c.line_len.ensures.value
    ∙ sym (line_rule c.args.first c.args.rest.now (sym c.is_blank.ensures ∙ c.if-is_blank.false) (sym c.starts_identifier.ensures.value
    ∙ c.if-starts_identifier.false) (sym c.is_ascii_digit.ensures.value ∙ c.if-is_ascii_digit.false) (ne_eqb _ 34 c.if-first-eq34.false)
    (ne_eqb _ 39 c.if-first-eq39.false)
    (sym (ap (is_front (codes "//")) c.requires) ∙ sym c.begins.ensures.value ∙ c.if-begins.true))

pub returns-then-begins-2-clause-value : goal.returns-then-begins-2-clause-value
returns-then-begins-2-clause-value c = c.comment_piece.ensures.value
    ∙ sym (comment_rule c.args.first c.args.rest.now (sym c.is_blank.ensures ∙ c.if-is_blank.false) (sym c.starts_identifier.ensures.value
    ∙ c.if-starts_identifier.false) (sym c.is_ascii_digit.ensures.value ∙ c.if-is_ascii_digit.false) (ne_eqb _ 34 c.if-first-eq34.false)
    (ne_eqb _ 39 c.if-first-eq39.false)
    (sym (ap (is_front (codes "//")) c.requires) ∙ sym c.begins.ensures.value ∙ c.if-begins.false)
    (sym (ap (is_front (codes "/*")) c.requires) ∙ sym c.begins-else-begins.ensures.value ∙ c.if-begins-2.true))

pub returns-else-begins-2-clause-value : goal.returns-else-begins-2-clause-value
returns-else-begins-2-clause-value c = c.mark_piece.ensures.value ∙ ap (λ xs. mark_piece (mark_of xs)) c.requires
    ∙ sym (mark_rule c.args.first c.args.rest.now (sym c.is_blank.ensures ∙ c.if-is_blank.false) (sym c.starts_identifier.ensures.value
    ∙ c.if-starts_identifier.false) (sym c.is_ascii_digit.ensures.value ∙ c.if-is_ascii_digit.false) (ne_eqb _ 34 c.if-first-eq34.false)
    (ne_eqb _ 39 c.if-first-eq39.false)
    (sym (ap (is_front (codes "//")) c.requires) ∙ sym c.begins.ensures.value ∙ c.if-begins.false)
    (sym (ap (is_front (codes "/*")) c.requires) ∙ sym c.begins-else-begins.ensures.value ∙ c.if-begins-2.false))
