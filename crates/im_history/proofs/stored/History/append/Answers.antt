use Rattle.std.proofs.Common.{◌≡◌, ap, ◌+◌, ◌-◌, arith, vec_len}
use Rattle.im_history.specs.Stored.{Stored}
use Rattle.im_history.proofs.PlaceLaws.{ArePlaces-push}
use Rattle.im_history.proofs.stored.History.append.Goals as goal

pub invariant_of-self : goal.invariant_of-self
invariant_of-self c =
    let pushed = rw c.unwrap.ensures at c.push.ensures.items in
    let longer : vec_len c.push.new.self ≡ vec_len c.self.inside.entries + 1 = rw c.unwrap.ensures at c.push.ensures.len in
    let capacity = c.push.ensures.capacity in
    let before = c.self.invariant.0 in
    let same : c.self.inside.spare ≡ c.args.self.now.spare = ap (λ (s : Stored). s.spare) c.self.view_is in
    let some = c.requires in
    let spare : c.self.inside.spare - 1 + 1 ≡ c.self.inside.spare = omega (arith, some, same) in (
      omega (arith, capacity, longer, before, some, same),
      c.note.ensures.room (c.self.inside.spare - 1) (rw spare c.self.invariant.1),
      rw pushed
          (ArePlaces-push c.self.inside.places c.note.new.self c.self.inside.entries.items c.args.entry c.self.invariant.2 c.note.ensures.noted),
    )
