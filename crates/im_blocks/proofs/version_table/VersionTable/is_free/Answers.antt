use Rattle.std.proofs.Common.{length, ap, ◌∙◌, arith}
use Rattle.im_tables.specs.Table.{row_of}
use Rattle.im_blocks.specs.Chains.{AllVersions}
use Rattle.im_blocks.proofs.StoreLemmas.{IsFree-past, IsFree-each}
use Rattle.im_blocks.proofs.version_table.VersionTable.is_free.Goals as goal

pub returns-then-count-first : goal.returns-then-count-first
returns-then-count-first c = λ _.
    let long = c.count.ensures ∙ ap (λ (b : AllVersions). length (row_of b.slots c.args.table)) c.self.view_is in
    let past = c.if-count-first.true in
    IsFree-past c.args.self.now c.args.table c.args.first c.args.count (omega (arith, long, past))

pub returns : goal.returns
returns c = λ _. IsFree-each c.args.self.now c.args.table c.args.first c.args.count c.loop-rid.rid c.loop-rid-test.false c.loop-rid.invariant
