use Rattle.std.proofs.Common.{get_or, refl, arith}
use Rattle.im_codes.specs.declared.run.Run.{Run}
use Rattle.im_codes.proofs.RunLemmas.{laid-more, laid-all}
use Rattle.im_codes.proofs.runs.laid_out.Goals as goal

pub loop-i-init : goal.loop-i-init
loop-i-init c = rw c.new-codes.ensures.items (record { full = c.requires.full; codes = refl })

pub loop-i-preserved : goal.loop-i-preserved
loop-i-preserved c =
    let runs = c.args.runs.now in
    let none : Run = record { code = 0; end = 0 } in
    let both =
    laid-more c.loop-i.codes.items c.resize.new.self.items runs c.loop-i.i c.loop-i.codes.len (get_or runs c.loop-i.i none) none c.loop-i-test.true refl
    c.loop-i.codes.ok.0 c.loop-i.invariant.full c.loop-i.invariant.codes c.in_ok-resize.ensures.items in
    record { full = both.0; codes = both.1 }

pub returns : goal.returns
returns c = laid-all c.loop-i.codes.items c.args.runs.now c.loop-i.i (omega arith) c.loop-i.invariant.codes
