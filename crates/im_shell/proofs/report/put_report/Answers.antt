use Rattle.std.proofs.Common.{◌++◌, ℕ, List}
use Rattle.im_race.specs.Race.{FIRST_WORKER}
use Rattle.im_shell.specs.declared.shown.Shown.TheVariants.{All}
use Rattle.im_shell.specs.Reports.{answers_text, ends_text, recorded_text}
use Rattle.im_shell.specs.Texts.{text_of}
use Rattle.im_shell.proofs.ReportLemmas.{OnErr-seen, OnOk-seen, SendsPart-seen}
use Rattle.im_shell.proofs.SentLemmas.{OnErr-always, OnErr-then, OnOk-then, SendsPart-front, SendsPart-then}
use Rattle.im_shell.proofs.report.put_report.Goals as goal

pub returns-in_err-put_replies-clause-err : goal.returns-in_err-put_replies-clause-err
returns-in_err-put_replies-clause-err g c =
    let prelude : List ℕ = text_of All c.report.inside.prelude.items in
    let ends : List ℕ = ends_text FIRST_WORKER c.report.inside.ends.items in
    let answers : List ℕ = answers_text c.report.inside.answers.items in
    let history : List ℕ = recorded_text c.report.inside.history.entries in
    OnErr-always _ (SendsPart-seen _ _ c.args.writer.now.waiting.now _ _ c.report.view_is
    (SendsPart-front _ _ c.args.writer.now.waiting.now prelude (history ++ (ends ++ answers)) (rw c.as_slice.ensures.value at c.in_err-put_replies.ensures.err)))

pub returns-in_err-put_history-clause-err : goal.returns-in_err-put_history-clause-err
returns-in_err-put_history-clause-err g c =
    let prelude : List ℕ = text_of All c.report.inside.prelude.items in
    let ends : List ℕ = ends_text FIRST_WORKER c.report.inside.ends.items in
    let answers : List ℕ = answers_text c.report.inside.answers.items in
    let history : List ℕ = recorded_text c.report.inside.history.entries in
    OnErr-always _ (SendsPart-seen _ _ c.args.writer.now.waiting.now _ _ c.report.view_is
    (SendsPart-then _ _ _ c.args.writer.now.waiting.now prelude (history ++ (ends ++ answers)) _ (rw c.as_slice.ensures.value at c.in_ok-put_replies.ensures.ok)
    (SendsPart-front _ _ _ history (ends ++ answers) c.in_err-put_history.ensures.err)))

pub returns-in_err-put_ends-clause-err : goal.returns-in_err-put_ends-clause-err
returns-in_err-put_ends-clause-err g c =
    let prelude : List ℕ = text_of All c.report.inside.prelude.items in
    let ends : List ℕ = ends_text FIRST_WORKER c.report.inside.ends.items in
    let answers : List ℕ = answers_text c.report.inside.answers.items in
    let history : List ℕ = recorded_text c.report.inside.history.entries in
    OnErr-always _ (SendsPart-seen _ _ c.args.writer.now.waiting.now _ _ c.report.view_is
    (SendsPart-then _ _ _ c.args.writer.now.waiting.now prelude (history ++ (ends ++ answers)) _ (rw c.as_slice.ensures.value at c.in_ok-put_replies.ensures.ok)
    (SendsPart-then _ _ _ _ history (ends ++ answers) _ c.in_ok-put_history.ensures.ok
    (SendsPart-front _ _ _ ends answers (rw c.as_slice-2.ensures.value at c.in_err-put_ends.ensures.err)))))

pub returns-clause-ok : goal.returns-clause-ok
returns-clause-ok g c =
    let prelude : List ℕ = text_of All c.report.inside.prelude.items in
    let ends : List ℕ = ends_text FIRST_WORKER c.report.inside.ends.items in
    let answers : List ℕ = answers_text c.report.inside.answers.items in
    let history : List ℕ = recorded_text c.report.inside.history.entries in
    OnOk-seen _ _ _ c.args.writer.now.waiting.now _ _ _ c.report.view_is
    (OnOk-then _ _ _ _ c.args.writer.now.waiting.now prelude (history ++ (ends ++ answers)) _ _ (rw c.as_slice.ensures.value at c.in_ok-put_replies.ensures.ok)
    (OnOk-then _ _ _ _ _ history (ends ++ answers) _ _ c.in_ok-put_history.ensures.ok
    (OnOk-then _ _ _ _ _ ends answers _ _ (rw c.as_slice-2.ensures.value at c.in_ok-put_ends.ensures.ok)
    (rw c.as_slice-3.ensures.value at c.put_answers.ensures.ok))))

pub returns-clause-err : goal.returns-clause-err
returns-clause-err g c =
    let prelude : List ℕ = text_of All c.report.inside.prelude.items in
    let ends : List ℕ = ends_text FIRST_WORKER c.report.inside.ends.items in
    let answers : List ℕ = answers_text c.report.inside.answers.items in
    let history : List ℕ = recorded_text c.report.inside.history.entries in
    OnErr-seen _ _ _ c.args.writer.now.waiting.now _ _ c.report.view_is
    (OnErr-then _ _ _ _ c.args.writer.now.waiting.now prelude (history ++ (ends ++ answers)) _ (rw c.as_slice.ensures.value at c.in_ok-put_replies.ensures.ok)
    (OnErr-then _ _ _ _ _ history (ends ++ answers) _ c.in_ok-put_history.ensures.ok
    (OnErr-then _ _ _ _ _ ends answers _ (rw c.as_slice-2.ensures.value at c.in_ok-put_ends.ensures.ok)
    (rw c.as_slice-3.ensures.value at c.put_answers.ensures.err))))
