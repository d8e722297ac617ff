use Rattle.std.proofs.Common.{◌≡◌, ℕ, Option, None, Result, Ok, Err, refl}
use Rattle.std.specs.Result.{IfOk, OnOk}
use Rattle.im_core.specs.Seen.{Seen, Adds}
use Rattle.im_history.specs.declared.entry.What.TheVariants.{Open}
use Rattle.im_history.specs.declared.refused.Refused.{Refused}
use Rattle.im_history.specs.declared.view.View.{View}
use Rattle.im_history.specs.Refusals.{altered, open_refusal}
use Rattle.im_history.specs.Views.{view_at}
use Rattle.im_reach.specs.Sides.{Added, Known, sole}
use Rattle.im_reach.proofs.RestLaws.{nobody-came}
use Rattle.im_reach.proofs.sole.SoleReach.open_cursor.Goals as goal

-- what a store that nobody else has knows
abbrev known : Seen → ℕ → Known
known seen misses = record { side = sole; limits = seen.limits; log = seen.log; misses = misses }

opened : (result : Result View Refused) (who cursor table columns : ℕ) (asked : Option ℕ) (misses : ℕ) (old new : Seen) → OnOk result (Adds old who (Open cursor table asked) new)
    → OnOk result (altered old.log table columns ≡ None) → OnOk result (open_refusal old.log who cursor asked ≡ None) → IfOk result (λ view. view ≡ view_at old.log who table asked)
    → IfOk result (λ view. Added (known old misses) (known new misses) who (λ at. Open cursor table asked) (λ at.
    (altered at table columns ≡ None) × (open_refusal at who cursor asked ≡ None) × (view ≡ view_at at who table asked)))
opened (Ok view) who cursor table columns asked misses old new added seen allowed is =
    record { at = old.log; after = nobody-came sole old.log; now = rw added refl; fact = (seen, allowed, is) }
opened (Err refused) who cursor table columns asked misses old new added seen allowed is = tt

pub returns-clause-ok : goal.returns-clause-ok
returns-clause-ok g c =
    opened c.open_cursor-answer.result c.args.who c.args.cursor c.args.opening.table c.args.opening.columns c.args.asked c.args.self.now.misses c.args.self.now.core c.open_cursor-answer.new.self
    c.open_cursor-answer.ensures.ok c.open_cursor-answer.ensures.seen c.open_cursor-answer.ensures.allowed c.open_cursor-answer.ensures.view
