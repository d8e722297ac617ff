use Rattle.im_history.specs.Serving.{shown_all}
use Rattle.im_scan.specs.inner.Steps.{as_shown}
use Rattle.im_scan.proofs.BesideLemmas.{IsMerged}
use Rattle.im_scan.proofs.beside.merged.Given as goal

-- the changes that are left, over what is merged so far and what is left of what was fetched
abbrev pub invariant-loop-rid : goal.invariant-loop-rid
invariant-loop-rid l = IsMerged l.fetched (as_shown l.view) l.first l.count (shown_all l.view l.rid-iterator) l.at l.rows.items
