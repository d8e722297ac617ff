use Rattle.im_codepred.proofs.SpanTallyLemmas.{each-there}
use Rattle.im_codepred.proofs.in_range.met_tally.Goals as goal

pub coded_tally-requires-clause-there : goal.coded_tally-requires-clause-there
coded_tally-requires-clause-there c = λ code some inside.
    each-there c.args.column.now c.in-Coded.dict.now c.in-Coded.bits.now.codes code c.len.ensures.dictionary c.in-Coded.ensures.1 some inside
