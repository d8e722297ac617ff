use Rattle.std.proofs.Common.{◌≡◌, ℕ, Result, Ok, Err, refl}
use Rattle.std.specs.Option.{option_or}
use Rattle.std.specs.Result.{IfErr, OnErr}
use Rattle.im_core.specs.Answers.{IsRefusal}
use Rattle.im_core.specs.Seen.{Seen}
use Rattle.im_history.specs.declared.refused.Refused.{Refused}
use Rattle.im_core.specs.declared.answers.Wrote.{Wrote}
use Rattle.im_history.specs.History.{History}
use Rattle.im_history.specs.Legal.{put_from}
use Rattle.im_history.specs.Refusals.{altered, insert_refusal}
use Rattle.im_history.specs.Tables.{given}
use Rattle.im_reach.specs.Sides.{Found, Known, sole}
use Rattle.im_reach.proofs.RestLaws.{nobody-came}
use Rattle.im_reach.proofs.sole.SoleReach.insert.Goals as goal

-- what a store that nobody else has knows
abbrev known : Seen → ℕ → Known
known seen misses = record { side = sole; limits = seen.limits; log = seen.log; misses = misses }

found : (result : Result Wrote Refused) (holds : History → Refused → Type 0) (misses : ℕ) (old new : Seen) → OnErr result (new ≡ old)
    → IfErr result (λ why. holds old.log why) → IfErr result (λ why. Found (known old misses) (known new misses) (λ at. holds at why))
found (Ok wrote) holds misses old new same fact = tt
found (Err why) holds misses old new same fact = record { at = old.log; after = nobody-came sole old.log; now = rw same refl; fact = fact }

pub returns-clause-err : goal.returns-clause-err
returns-clause-err g c =
    let a = c.args in
    found c.insert-answer.result (λ at why. IsRefusal at (option_or (altered at a.opening.table a.opening.columns)
    (insert_refusal a.self.now.core.limits at a.who (put_from a.opening.table (given at a.opening.table) a.rows))) why)
    a.self.now.misses a.self.now.core c.insert-answer.new.self c.insert-answer.ensures.err c.insert-answer.ensures.refused
