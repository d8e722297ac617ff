use Rattle.std.proofs.Common.{◌≡◌, ◌∷◌, ◌++◌, List, Option, sym, ap, ◌∙◌}
use Rattle.std.specs.BTreeMap.{insert_entry}
use Rattle.std.specs.Ordering.{nat_cmp}
use Rattle.im_history.specs.Last.{Slot}
use Rattle.im_history.specs.Rows.{Row}
use Rattle.im_history.proofs.LastLaws.{copied-more}
use Rattle.im_history.proofs.last.copied_map.Goals as goal

pub loop-rid-preserved : goal.loop-rid-preserved
loop-rid-preserved c =
    let slot : Slot = (c.in-Some.rid.now, c.in-Some.row.now) in
    let left : c.loop-rid.rid-iterator ≡ slot ∷ c.next.new.self = c.in-Some.ensures.steps in
    let all : c.loop-rid.copies.entries ++ slot ∷ c.next.new.self ≡ c.args.rows.now.entries =
    sym (ap (λ (l : List Slot). c.loop-rid.copies.entries ++ l) left) ∙ c.loop-rid.invariant.all in
    record {
      all =
          copied-more c.loop-rid.copies.entries c.insert.new.rows.entries c.next.new.self c.args.rows.now.entries slot all c.loop-rid.invariant.rising
          (c.in_ok-insert.ensures.entries
          ∙ ap (λ (row : Option Row). insert_entry nat_cmp c.loop-rid.copies.entries c.in-Some.rid.now row) c.in_ok-copied.ensures);
      rising = c.loop-rid.invariant.rising;
    }
