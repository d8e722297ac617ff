use Rattle.std.proofs.Common.{◌≡◌, ◌+◌, false, nat_le, sym, ap, ◌∙◌, arith}
use Rattle.std.proofs.lemmas.Bool.Decides.{nat_tests}
use Rattle.im_history.specs.Area.{task_bytes, used}
use Rattle.im_history.specs.Contents.{unit_bytes}
use Rattle.im_history.specs.Units.{killed_of, task_content}
use Rattle.im_core.specs.Seen.{Seen}
use Rattle.im_core.proofs.store.Core.switch_living.Goals as goal

pub record_cancel-requires-clause-cause : goal.record_cancel-requires-clause-cause
record_cancel-requires-clause-cause g c =
    let own = c.requires.own in
    let log = c.args.self.now.log in
    let no : nat_le (c.used-used.result + c.bytes-need.result) c.self.inside.limits.area ≡ false = sym c.fits.ensures.fits ∙ c.if-fits.false in
    let area : c.self.inside.limits.area ≡ c.args.self.now.limits.area = ap (λ (s : Seen). s.limits.area) c.self.view_is in
    let taken : c.used-used.result ≡ used log = c.used-used.ensures in
    let need : c.bytes-need.result ≡ task_bytes log own.held.task =
    c.bytes-need.ensures
    ∙ (ap (λ u. unit_bytes (g.U.UnitLike.content u)) c.deref.ensures ∙ ap unit_bytes (c.requires.holds ∙ ap (task_content log) (sym own.same))) in
    record {
      may = record { held = own.held; is = own.is; mine = own.mine };
      cause = λ full. record {
        lives = sym (ap killed_of own.is) ∙ c.requires.lives;
        over = grind (arith, nat_tests, no, area, taken, need);
      };
    }
