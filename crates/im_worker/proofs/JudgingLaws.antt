-- What is said of a worker's job, and the entries of others behind it.
use Rattle.std.proofs.Common.{◌≡◌, ℕ, ◌+◌, ◌==◌, ◌⊎◌, inl, inr, Bool, true, false, List, [], ◌∷◌, ◌++◌, Option, Some, None, take, refl, ap, ◌∙◌, add-zero, append_assoc}
use Rattle.std.proofs.lemmas.List.{take-append-le}
use Rattle.std.proofs.lemmas.List.Elements.{All-append, All-cons, All-nil, All-weaker}
use Rattle.im_history.specs.declared.entry.Entry.{Entry}
use Rattle.im_history.specs.declared.entry.What.{What}
use Rattle.im_history.specs.declared.limits.Limits.{Limits}
use Rattle.im_history.specs.declared.task.Task.{Task}
use Rattle.im_history.specs.History.{History, behind}
use Rattle.im_history.specs.Leaves.{leaves}
use Rattle.im_history.specs.Queue.{build_of}
use Rattle.im_history.specs.Units.{held_at, killed_of}
use Rattle.im_plan.specs.Goes.{After, Others}
use Rattle.im_statements.specs.Background.{end_by, fits_area}
use Rattle.im_worker.specs.Work.{AddsBuilds, Apart, Built, Idled, IsIdleAt, IsOverAt, Lacked, Round, Worked, builds_begun, end_of, is_building, task_in}
use Rattle.im_worker.proofs.CountLemmas.{on-after}
use Rattle.im_worker.proofs.HoldingLaws.{same_number}
use Rattle.im_worker.proofs.WorkLaws.{begun-append, begun-apart, idle-later}

-- ---- places and counts

pub idle-on : (who place : ℕ) (old at new : History) → IsIdleAt who place old at → Apart who at new → IsIdleAt who place old new
idle-on who place old at new idle apart = idle-later who place old at new (on-after _ at new apart) idle

pub over-on : (who sessions place : ℕ) (old at new : History) → IsOverAt who sessions place old at → Apart who at new → IsOverAt who sessions place old new
over-on who sessions place old at new over apart = record {
  idle = idle-on who place old at new over.idle apart;
  left = ap leaves (ap (λ (h : History). take place h) apart.log ∙ take-append-le place at apart.between over.idle.within) ∙ over.left;
}

pub begun-later : (who : ℕ) (at new : History) → Apart who at new → builds_begun new who ≡ builds_begun at who
begun-later who at new apart =
    ap (λ (h : History). builds_begun h who) apart.log
    ∙ (begun-append at apart.between who
    ∙ (ap (λ (n : ℕ). builds_begun at who + n) (begun-apart (λ number. number == who) who apart.between (same who) apart.lawful.apart) ∙ add-zero _))
  where
    same : (n : ℕ) → (n == n) ≡ true
    same n = same_number n n refl

-- ---- the entries of a worker

module _ (mine : ℕ → Bool) (who : ℕ) where
  abbrev IsHere : Entry → Type 0
  IsHere entry = (mine entry.who ≡ false) ⊎ ((entry.who ≡ who) × (is_building entry.what ≡ true))

  adds-others : (old new : History) → After (Others mine) old new → AddsBuilds mine who old new
  adds-others old new after = record {
    between = after.between;
    log = after.log;
    own = All-weaker (λ (entry : Entry). mine entry.who ≡ false) IsHere (λ entry apart. inl apart) after.between after.lawful.apart;
  }

  adds-one : (h : History) (what : What) → is_building what ≡ true → AddsBuilds mine who h (behind h who what)
  adds-one h what is = record {
    between = record { who = who; what = what } ∷ [];
    log = refl;
    own = All-cons IsHere (record { who = who; what = what }) [] (inr (refl, is)) (All-nil IsHere);
  }

  adds-adds : (old mid new : History) → AddsBuilds mine who old mid → AddsBuilds mine who mid new → AddsBuilds mine who old new
  adds-adds old mid new first second = record {
    between = first.between ++ second.between;
    log = second.log ∙ (ap (λ (h : History). h ++ second.between) first.log ∙ append_assoc old first.between second.between);
    own = All-append IsHere first.between second.between first.own second.own;
  }

ends-building : (limits : Limits) (at : History) (task : Task) (ready : Bool) → is_building (end_of limits at task ready) ≡ true
ends-building limits at task false = refl
ends-building limits at task true = by_end (killed_of (held_at at task.id)) (fits_area limits at task)
  where
    by_end : (killed : Option ℕ) (fit : Bool) → is_building (end_by task.id killed fit) ≡ true
    by_end (Some place) fit = refl
    by_end None true = refl
    by_end None false = refl

pub worked-adds : (mine : ℕ → Bool) (limits : Limits) (who : ℕ) (rounds : List Round) (old new : History)
    → Worked (Others mine) limits who rounds old new → AddsBuilds mine who old new
worked-adds mine limits who [] old new worked = adds-others mine who old new worked
worked-adds mine limits who (Built piece ∷ rounds) old new worked =
    adds-adds mine who old piece.began new (adds-others mine who old piece.began worked.0)
    (adds-adds mine who piece.began begun new (adds-one mine who piece.began (build_of piece.began piece.choice) refl)
    (adds-adds mine who begun piece.finished new (adds-others mine who begun piece.finished worked.2)
    (adds-adds mine who piece.finished ended new (adds-one mine who piece.finished what (ends-building limits piece.finished (task_in piece) piece.ready))
    (worked-adds mine limits who rounds ended new worked.3))))
  where
    what : What
    what = end_of limits piece.finished (task_in piece) piece.ready

    begun : History
    begun = behind piece.began who (build_of piece.began piece.choice)

    ended : History
    ended = behind piece.finished who what
worked-adds mine limits who (Idled at ∷ rounds) old new worked =
    adds-adds mine who old at new (adds-others mine who old at worked.0) (worked-adds mine limits who rounds at new worked.2)
worked-adds mine limits who (Lacked at ∷ rounds) old new worked =
    adds-adds mine who old at new (adds-others mine who old at worked.0) (worked-adds mine limits who rounds at new worked.1)
