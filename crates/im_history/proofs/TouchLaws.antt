-- Which rows commits behind an SCN touched, as a history goes on.
use Rattle.std.proofs.Common.{◌≡◌, ℕ, ◌+◌, ◌≤◌, Bool, false, ◌&&◌, ◌||◌, nat_le, nat_lt, [], ◌∷◌, ◌++◌, if◌then◌else◌, refl, ◌∙◌, arith}
use Rattle.std.proofs.lemmas.Bool.{lt-leb}
use Rattle.im_history.specs.declared.entry.Entry.{Entry}
use Rattle.im_history.specs.declared.entry.What.{What}
use Rattle.im_history.specs.declared.entry.What.TheVariants.{Commit}
use Rattle.im_history.specs.Commits.{scn, moves_clock}
use Rattle.im_history.specs.History.{History, replay}
use Rattle.im_history.specs.Touched.{touches}
use Rattle.im_history.specs.Transactions.{pending}
use Rattle.im_history.specs.Units.{touched_between, touched_between_after}
use Rattle.im_history.proofs.Laws.{scn-push}
use Rattle.im_history.proofs.RowLaws.{each_history}
use Rattle.im_history.proofs.UnitLaws.{touched_between-push}

-- after a commit the rows that it touched count too, where its SCN is between
pub touched_between-commit : (h : History) (who after to table rid : ℕ)
    → touched_between (h ++ record { who = who; what = Commit } ∷ []) after to table rid
    ≡ (touched_between h after to table rid || ((nat_le after (scn h) && nat_lt (scn h) to) && touches (pending h who) table rid))
touched_between-commit h who after to table rid = touched_between-push h (record { who = who; what = Commit }) after to table rid

-- no commit behind an SCN that is not passed yet touched a row
record IsUntouched (after to table rid : ℕ) (h : History) : Type 0 where
  is : scn h ≤ after → touched_between h after to table rid ≡ false

IsUntouched-nil : (after to table rid : ℕ) → IsUntouched after to table rid []
unfolding touched_between replay
IsUntouched-nil after to table rid = record { is = λ past. refl }

untouched_step : (table rid after to : ℕ) (h : History) (so_far : Bool) (who : ℕ) (what : What) → (scn h ≤ after → so_far ≡ false)
    → scn h + (if moves_clock what then 1 else 0) ≤ after → touched_between_after table rid after to h so_far who what ≡ false
untouched_step table rid after to h so_far who Commit before past =
    let earlier : so_far ≡ false = before (omega (arith, past)) in
    let behind : nat_le after (scn h) ≡ false = lt-leb after (scn h) (omega (arith, past)) in
    rw (earlier, behind) refl
untouched_step table rid after to h so_far who _ before past = before (omega (arith, past))

IsUntouched-push : (after to table rid : ℕ) (h : History) (entry : Entry) → IsUntouched after to table rid h → IsUntouched after to table rid (h ++ entry ∷ [])
IsUntouched-push after to table rid h entry untouched = record {
  is = λ past.
      touched_between-push h entry after to table rid
      ∙ untouched_step table rid after to h (touched_between h after to table rid) entry.who entry.what untouched.is (rw (scn-push h entry) at past);
}

-- so no row was touched since the present SCN
pub touched_between-present : (h : History) (after to table rid : ℕ) → scn h ≤ after → touched_between h after to table rid ≡ false
touched_between-present h after to table rid past =
    (each_history (IsUntouched after to table rid) (IsUntouched-nil after to table rid) (IsUntouched-push after to table rid) h).is past
