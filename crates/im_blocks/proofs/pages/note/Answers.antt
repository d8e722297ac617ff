use Rattle.std.proofs.Common.{ℕ, ◌<◌, ◌≤◌, ◌/◌, ◌%◌, subst}
use Rattle.im_blocks.specs.declared.pages.Page.{Page}
use Rattle.im_blocks.specs.inner.Pages.{IsNoted}
use Rattle.im_blocks.proofs.PageLemmas.{IsNotedAt-past, IsNotedAt-set}
use Rattle.im_blocks.proofs.pages.note.Goals as goal

pub returns-then-number-count : goal.returns-then-number-count
returns-then-number-count c =
    let rid = c.args.rid in
    IsNotedAt-set c.args.pages.now c.args.table rid c.note.new.self
    (record { below = subst (λ (n : ℕ). rid / 2048 < n) c.count.ensures c.if-number-count.true })
    (subst (λ (page : Page). IsNoted page c.note.new.self (rid % 2048)) c.cell_mut.ensures.value c.note.ensures)

pub returns-else-number-count : goal.returns-else-number-count
returns-else-number-count c =
    IsNotedAt-past c.args.pages.now c.args.table c.args.rid (subst (λ (n : ℕ). n ≤ c.args.rid / 2048) c.count.ensures c.if-number-count.false)
