-- A session that has done nothing agrees with a history in which nothing has happened.
use Rattle.std.proofs.Common.{◌≡◌, [], false, refl}
use Rattle.im_history.specs.Cursors.{opened}
use Rattle.im_history.specs.History.{replay}
use Rattle.im_history.specs.Transactions.{begun}
use Rattle.im_reach.specs.Sides.{Known}
use Rattle.im_session.specs.Sessions.{Agrees}

pub agrees-new : (known : Known) → known.log ≡ [] → Agrees (record { who = 1; cursors = []; in_transaction = false }) known
unfolding begun opened replay
agrees-new known empty = record {
  cursors = record { closed = rw empty refl; queries = rw empty tt };
  sound = tt;
  apart = tt;
  transaction = rw empty refl;
}
