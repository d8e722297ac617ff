use Rattle.im_tables.proofs.FlagLemmas.{flag-raised, flag-lowered}
use Rattle.im_tables.proofs.flag_line.with_flag.Goals as goal

pub returns-then-flag : goal.returns-then-flag
returns-then-flag c = rw c.if-flag.true (flag-raised c.args.word c.args.place c.requires)

pub returns-else-flag : goal.returns-else-flag
returns-else-flag c = rw c.if-flag.false (flag-lowered c.args.word c.args.place c.requires)
