use Rattle.std.proofs.Common.{◌≡◌, List, length, ap, ◌∙◌}
use Rattle.im_history.specs.declared.entry.Entry.{Entry}
use Rattle.im_history.specs.Commits.{scn}
use Rattle.im_history.specs.Stored.{Stored}
use Rattle.im_history.proofs.PlaceLaws.{length-places}
use Rattle.im_history.proofs.stored.History.scn.Goals as goal

pub returns-clause-scn : goal.returns-clause-scn
returns-clause-scn c =
    let same : c.self.inside.entries.items ≡ c.args.self.now.entries = ap (λ (s : Stored). s.entries) c.self.view_is in
    c.commits.ensures.commits
    ∙ (ap length c.self.invariant.2.commits ∙ (length-places c.self.inside.entries.items ∙ ap (λ (h : List Entry). scn h) same))
