use Rattle.im_scan.proofs.ShownLemmas.{ArePutTo}
use Rattle.im_scan.proofs.own.put_own.Given as goal

-- some of what the changes left is put, and the rest is left
abbrev pub invariant-loop-rid : goal.invariant-loop-rid
invariant-loop-rid l = ArePutTo l.view l.first l.count l.fn.rows.items l.rid-iterator l.rows.items
