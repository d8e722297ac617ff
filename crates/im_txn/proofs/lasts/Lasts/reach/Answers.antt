use Rattle.std.proofs.Common.{◌≡◌, ◌∷◌, [], ◌++◌, List, get_or, ap, ◌∙◌}
use Rattle.im_history.specs.Last.{Slot, last_at}
use Rattle.im_txn.proofs.LastsLemmas.{reads-push}
use Rattle.im_txn.proofs.lasts.Lasts.reach.Goals as goal

pub loop-alloc-preserved : goal.loop-alloc-preserved
loop-alloc-preserved c =
    let old = c.loop-alloc.self.tables.items in
    let pushed : c.push.new.self.items ≡ old ++ [] ∷ [] =
    c.in_ok-push.ensures.items ∙ ap (λ (slots : List Slot). old ++ slots ∷ []) c.in_ok-new.ensures in
    record {
      known = c.loop-alloc.invariant.known;
      part = c.loop-alloc.invariant.part;
      same =
          λ table rid. ap (λ (tables : List (List Slot)). last_at (get_or tables table []) rid) pushed
          ∙ reads-push c.args.self.now.tables.items old c.loop-alloc.invariant.same table rid;
    }
