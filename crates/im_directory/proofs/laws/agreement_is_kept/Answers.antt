use Rattle.std.proofs.Common.{◌+◌, arith}
use Rattle.im_history.specs.Commits.{scn}
use Rattle.im_directory.proofs.ForCallers.{Agrees-apart, Agrees-begin, Agrees-cancel, Agrees-commit, Agrees-drop, Agrees-new, Agrees-switch, Agrees-told, IsAlive-by, IsBefore-by, due-by, empty-by, is_stale-by, lives-by, living-by, numbered-by, scns-by, stale-by, used-by}
use Rattle.im_directory.proofs.laws.agreement_is_kept.Goals as goal

pub returns-clause-kept : goal.returns-clause-kept
returns-clause-kept g c content = record {
  at_first = Agrees-new content;
  begins = Agrees-begin content;
  commits = Agrees-commit content;
  switches = Agrees-switch content;
  cancels = Agrees-cancel content;
  drops = Agrees-drop content;
  others = Agrees-apart content;
  room = Agrees-told content;
}

pub returns-clause-read : goal.returns-clause-read
returns-clause-read g c content h kept agrees = record {
  stale_rows = λ table extent stock to is some. stale-by content h kept table extent stock to agrees is some;
  before = IsBefore-by content h kept (scn h) agrees (omega arith);
  later = IsBefore-by content h kept (scn h + 1) agrees (omega arith);
  is_living = λ table extent id is. living-by content h kept table extent id agrees is;
  lives = λ id held is alive. lives-by content h kept id held agrees is alive;
  numbered = λ id held is. numbered-by content h kept id held agrees is;
  alive = λ id held is alive. IsAlive-by content h kept id held agrees is alive;
  empty = λ table extent. empty-by content h kept table extent agrees;
  due = λ table extent some. due-by content h kept table extent agrees some;
  stale = λ table extent some. is_stale-by content h kept table extent agrees some;
  used = λ of. used-by content h kept agrees of;
  scns = scns-by content h kept agrees;
}
