use Rattle.std.proofs.Common.{arith}
use Rattle.im_bits.proofs.UnpackLemmas.{zero-past}
use Rattle.im_bits.proofs.bits.Bits.code_behind.Goals as goal

pub returns-then-k-rest : goal.returns-then-k-rest
returns-then-k-rest c = zero-past c.args.self.now.codes c.args.first c.args.k (omega arith)
