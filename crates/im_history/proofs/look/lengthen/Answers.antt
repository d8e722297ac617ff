use Rattle.std.proofs.Common.{◌-◌, ap, ◌∙◌, slice_set, arith}
use Rattle.im_history.specs.declared.look.TableInfo.{TableInfo}
use Rattle.im_history.specs.Tables.{longer_by}
use Rattle.im_history.proofs.MemoryLemmas.{set-lengthened, past-lengthened}
use Rattle.im_history.proofs.look.lengthen.Goals as goal
use Rattle.im_history.proofs.look.lengthen.Goals.{else-table-gt0-via-then-table-gt0+else-table-tables, else-table-gt0-via-else-table-gt0}

pub returns-in_ok-tables : goal.returns-in_ok-tables
returns-in_ok-tables c =
    ap (λ (t : TableInfo). slice_set c.args.tables.now (c.args.table - 1) t)
    (c.in_ok-tables.ensures
    ∙ (c.in_ok-info.ensures ∙ ap (longer_by c.args.column.now c.args.default.now) c.info.ensures))
    ∙ set-lengthened c.args.table c.args.column.now c.args.default.now c.args.tables.now _ c.if-table-gt0.true c.if-table-tables.true

pub returns-else-table-gt0 : goal.returns-else-table-gt0
returns-else-table-gt0 c = elim c.else-table-gt0.branch [
  | else-table-gt0-via-then-table-gt0+else-table-tables w ↦
      let past = w.if-table-tables.false in
      past-lengthened c.args.table c.args.column.now c.args.default.now c.args.tables.now (λ some. omega (arith, past))
  | else-table-gt0-via-else-table-gt0 w ↦
      let none = w.if-table-gt0.false in
      past-lengthened c.args.table c.args.column.now c.args.default.now c.args.tables.now (λ some. omega (arith, none, some))
]
