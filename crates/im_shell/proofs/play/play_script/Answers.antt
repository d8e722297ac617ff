use Rattle.std.proofs.Common.{refl}
use Rattle.im_shell.proofs.PlayLemmas.{WritesPart-nil}
use Rattle.im_shell.proofs.SentLemmas.{OnErr-always}
use Rattle.im_shell.proofs.play.play_script.Goals as goal

pub returns-in_err-store-clause-err : goal.returns-in_err-store-clause-err
returns-in_err-store-clause-err g c = OnErr-always _ (WritesPart-nil _ _ _ _ _ _ _ refl refl)
