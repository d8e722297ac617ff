use Rattle.std.proofs.Common.{◌≡◌, sym, ap, ◌∙◌, subst}
use Rattle.im_history.specs.Contents.{unit_bytes}
use Rattle.im_history.specs.Units.{IsOwn, task_content}
use Rattle.im_replies.specs.declared.task.Ending.{Ending}
use Rattle.im_worker.specs.Background.{Ready}
use Rattle.im_worker.specs.inner.Rests.{IsEnded}
use Rattle.im_worker.proofs.EndLemmas.{ended}
use Rattle.im_worker.proofs.ending.end_build.Goals as goal

pub returns-clause-ended : goal.returns-clause-ended
returns-clause-ended g c =
    let old = g.H.Reach.known c.args.reach.now in
    let new = g.H.Reach.known c.switch-switched.new.self in
    let b = c.build.inside in
    let own = subst (λ (r : Ready). IsOwn old.log c.args.who r.task) (sym c.build.view_is) c.requires.own in
    let holds = subst (λ (r : Ready). r.content ≡ task_content old.log r.task) (sym c.build.view_is) c.requires.holds in
    let bytes = c.bytes-bytes.ensures ∙ ap unit_bytes c.deref.ensures in
    let all = ended _ old new c.args.who b.task c.switch-switched.result
    c.bytes-bytes.result b.unit.value c.switch-switched.ensures.lawful.legal own holds bytes
    c.switch-switched.ensures.switched in
    subst (λ (r : Ready). IsEnded c.args.who old r.task c.ending_of.result new) c.build.view_is
    (subst (λ (e : Ending). IsEnded c.args.who old b.task e new) (sym c.ending_of.ensures) all)
