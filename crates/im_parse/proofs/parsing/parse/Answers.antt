use Rattle.std.proofs.Common.{◌∙◌, sym}
use Rattle.im_parse.proofs.Places.{whole-all, whole-more, whole-stopped, whole_found, whole_within, whole_place, read_as, not_read}
use Rattle.im_parse.proofs.parsing.parse.Goals as goal

pub overflow_sub-result : goal.overflow_sub-result
overflow_sub-result c =
    whole_within c.args.tokens.now _ (whole-more c.args.tokens.now c.in-Ok.stmt c.in-Ok.rest.now (sym c.is_empty.ensures ∙ c.if-is_empty.false) c.in-Ok.ensures)

pub overflow_sub-result-in-Err-Left : goal.overflow_sub-result-in-Err-Left
overflow_sub-result-in-Err-Left c =
    whole_within c.args.tokens.now c.in-Err-Left.left
    (whole-stopped c.args.tokens.now c.in-Err-Left.left (rw c.in-Err-Left.field-0-is at c.in-Err-Left.ensures))

pub returns-then-is_empty-clause-found : goal.returns-then-is_empty-clause-found
returns-then-is_empty-clause-found c =
    whole_found c.args.tokens.now c.in-Ok.stmt
    (whole-all c.args.tokens.now c.in-Ok.stmt c.in-Ok.rest.now (sym c.is_empty.ensures ∙ c.if-is_empty.true) c.in-Ok.ensures)

pub returns-then-is_empty-clause-only : goal.returns-then-is_empty-clause-only
returns-then-is_empty-clause-only c = λ s good same.
    read_as c.args.tokens.now c.in-Ok.stmt s
    (whole-all c.args.tokens.now c.in-Ok.stmt c.in-Ok.rest.now (sym c.is_empty.ensures ∙ c.if-is_empty.true) c.in-Ok.ensures) good same

pub returns-else-is_empty-clause-only : goal.returns-else-is_empty-clause-only
returns-else-is_empty-clause-only c = λ s good same.
    not_read c.args.tokens.now _ s
    (whole-more c.args.tokens.now c.in-Ok.stmt c.in-Ok.rest.now (sym c.is_empty.ensures ∙ c.if-is_empty.false) c.in-Ok.ensures) good same

pub returns-else-is_empty-clause-place : goal.returns-else-is_empty-clause-place
returns-else-is_empty-clause-place c =
    whole_place c.args.tokens.now _
    (whole-more c.args.tokens.now c.in-Ok.stmt c.in-Ok.rest.now (sym c.is_empty.ensures ∙ c.if-is_empty.false) c.in-Ok.ensures)

pub returns-in-Err-Left-clause-only : goal.returns-in-Err-Left-clause-only
returns-in-Err-Left-clause-only c = λ s good same.
    not_read c.args.tokens.now c.in-Err-Left.left s
    (whole-stopped c.args.tokens.now c.in-Err-Left.left (rw c.in-Err-Left.field-0-is at c.in-Err-Left.ensures)) good same

pub returns-in-Err-Left-clause-place : goal.returns-in-Err-Left-clause-place
returns-in-Err-Left-clause-place c =
    whole_place c.args.tokens.now c.in-Err-Left.left
    (whole-stopped c.args.tokens.now c.in-Err-Left.left (rw c.in-Err-Left.field-0-is at c.in-Err-Left.ensures))
