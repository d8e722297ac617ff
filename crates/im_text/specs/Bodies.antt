-- The records of a reply, before the number of its line.
use Rattle.std.specs.Prelude.{ℕ, List, [], ◌∷◌, ◌++◌, map, flat_map, length, codes, decimal}
use Rattle.im_text.specs.Cells.{row_record}
use Rattle.im_text.specs.Extents.{served_record}
use Rattle.im_text.specs.Tasks.{build_record, ending_record, task_records}
use Rattle.im_text.specs.Faults.{fault_record}
use Rattle.im_group.specs.declared.cell.Cell.{Cell}
use Rattle.im_replies.specs.declared.served.How.{How}
use Rattle.im_replies.specs.declared.task.Built.{Built}
use Rattle.im_replies.specs.declared.task.Ending.{Ending}
use Rattle.im_replies.specs.declared.body.Body.{Body}
use Rattle.im_replies.specs.declared.body.Body.TheVariants.{Created, Altered, Begun, Inserted, Updated, Deleted, Committed, RolledBack, Answer, Opened, Step, End, Closed, Plan, Ran, Build, Idle, Ended, Nothing, Trickle, Evicted, Purged, Error}

-- an answer, and then its records
abbrev pub answer_records : ℕ → List (List Cell) → List (List (List ℕ))
answer_records scn records =
    (codes "answer" ∷ decimal scn ∷ decimal (length records) ∷ []) ∷ map row_record records

-- how a scan is served, and then each extent
abbrev pub plan_records : ℕ → List (ℕ × How) → List (List (List ℕ))
plan_records scn served =
    (codes "plan" ∷ decimal scn ∷ decimal (length served) ∷ []) ∷ map (λ e. served_record e.0 e.1) served

-- all that was built, and then that nothing is left
abbrev pub ran_records : List (Built × Ending) → List (List (List ℕ))
ran_records tasks = flat_map task_records tasks ++ (codes "idle" ∷ []) ∷ []

-- each record as the list of its fields
abbrev pub records_of : Body → List (List (List ℕ))
records_of (Created table scn) = (codes "created" ∷ decimal table ∷ decimal scn ∷ []) ∷ []
records_of (Altered table) = (codes "altered" ∷ decimal table ∷ []) ∷ []
records_of (Begun scn) = (codes "begun" ∷ decimal scn ∷ []) ∷ []
records_of (Inserted rows first) = (codes "inserted" ∷ decimal rows ∷ decimal first ∷ []) ∷ []
records_of (Updated rows) = (codes "updated" ∷ decimal rows ∷ []) ∷ []
records_of (Deleted rows) = (codes "deleted" ∷ decimal rows ∷ []) ∷ []
records_of (Committed scn) = (codes "committed" ∷ decimal scn ∷ []) ∷ []
records_of RolledBack = (codes "rolled-back" ∷ []) ∷ []
records_of (Answer scn records) = answer_records scn records
records_of (Opened cursor scn extents) = (codes "opened" ∷ decimal cursor ∷ decimal scn ∷ decimal extents ∷ []) ∷ []
records_of (Step extent how) = served_record extent how ∷ []
records_of (End cursor) = (codes "end" ∷ decimal cursor ∷ []) ∷ []
records_of (Closed cursor) = (codes "closed" ∷ decimal cursor ∷ []) ∷ []
records_of (Plan scn served) = plan_records scn served
records_of (Ran tasks) = ran_records tasks
records_of (Build built) = build_record built ∷ []
records_of Idle = (codes "idle" ∷ []) ∷ []
records_of (Ended ending) = ending_record ending ∷ []
records_of Nothing = (codes "none" ∷ []) ∷ []
records_of (Trickle credits) = (codes "trickle" ∷ decimal credits ∷ []) ∷ []
records_of (Evicted table extent used) = (codes "evicted" ∷ decimal table ∷ decimal extent ∷ decimal used ∷ []) ∷ []
records_of (Purged horizon kept) = (codes "purged" ∷ decimal horizon ∷ decimal kept ∷ []) ∷ []
records_of (Error fault) = fault_record fault ∷ []
