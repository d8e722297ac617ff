use Rattle.im_txn.proofs.ForCallers.{Agrees-nil, Agrees-begin, Agrees-open, Agrees-shut, Agrees-write, Agrees-commit, Agrees-rollback, Agrees-apart, Agrees-grown, holder-by, own-by, cursor-by, cursors_open-by, scns-by, IsFree-past-given, IsFree-unlocked, owed-begun, owed-first-write, owed-write, owed-opened, owed-shut, owed-ended}
use Rattle.im_txn.proofs.laws.agreement_is_kept.Goals as goal

pub returns-clause-kept : goal.returns-clause-kept
returns-clause-kept c = record {
  at_first = Agrees-nil;
  begins = Agrees-begin;
  opens = Agrees-open;
  shuts = Agrees-shut;
  writes = Agrees-write;
  commits = Agrees-commit;
  rolls_back = Agrees-rollback;
  others = Agrees-apart;
  room = Agrees-grown;
}

pub returns-clause-read : goal.returns-clause-read
returns-clause-read c h standing agrees = record {
  holder = λ who table rid. holder-by h standing who table rid agrees;
  own = λ who table. own-by h standing who table agrees;
  cursor = λ who number. cursor-by h standing who number agrees;
  cursors = λ who. cursors_open-by h standing who agrees;
  scns = λ who. scns-by h standing who agrees;
  free = λ who changes none. IsFree-unlocked h standing who changes agrees none;
  fresh = λ who changes past. IsFree-past-given h standing who changes agrees past;
}

pub returns-clause-owed : goal.returns-clause-owed
returns-clause-owed c h old new who agrees = record {
  begun = λ place mode shut begins. owed-begun h who place mode old new agrees shut begins;
  first_written = λ place changes shut written. owed-first-write h who place changes old new agrees shut written;
  written = λ place changes is written. owed-write h who place changes old new agrees is written;
  opened = λ cursor opens. owed-opened who cursor old new opens;
  shut = λ cursor is shuts. owed-shut h who cursor old new agrees is shuts;
  ended = λ is ends. owed-ended h who old new agrees is ends;
}
