use Rattle.std.proofs.Common.{refl}
use Rattle.im_shell.proofs.PlayLemmas.{WritesPart-nil}
use Rattle.im_shell.proofs.SentLemmas.{OnErr-always}
use Rattle.im_shell.proofs.play.play_over.Goals as goal

pub returns-in_err-waiting-clause-err : goal.returns-in_err-waiting-clause-err
returns-in_err-waiting-clause-err g c = OnErr-always _ (WritesPart-nil _ _ _ _ _ _ _ refl refl)

pub returns-in_err-players-clause-err : goal.returns-in_err-players-clause-err
returns-in_err-players-clause-err g c = OnErr-always _ (WritesPart-nil _ _ _ _ _ _ _ refl refl)
