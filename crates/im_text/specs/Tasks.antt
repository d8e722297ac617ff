-- The records of builds: how they begin and how they end.
use Rattle.std.specs.Prelude.{ℕ, List, [], ◌∷◌, codes, decimal, if◌then◌else◌}
use Rattle.im_replies.specs.declared.task.Built.{Built}
use Rattle.im_replies.specs.declared.task.Ending.{Ending}
use Rattle.im_replies.specs.declared.task.Ending.TheVariants.{Switch, Full, Cancelled, Dropped}

-- a build that begins; the last field is 1 where a credit pays for it, and else 0
abbrev pub build_record : Built → List (List ℕ)
build_record built =
    codes "build" ∷ decimal built.id ∷ decimal built.table ∷ decimal built.extent ∷ decimal built.scn
    ∷ decimal (if built.trickle then 1 else 0) ∷ []

-- a build that ends
abbrev pub ending_record : Ending → List (List ℕ)
ending_record (Switch id bytes used) = codes "switch" ∷ decimal id ∷ decimal bytes ∷ decimal used ∷ []
ending_record (Full id need free) = codes "full" ∷ decimal id ∷ decimal need ∷ decimal free ∷ []
ending_record (Cancelled id place) = codes "cancelled" ∷ decimal id ∷ decimal place ∷ []
ending_record (Dropped id) = codes "dropped" ∷ decimal id ∷ []

-- a build from its beginning to its end
abbrev pub task_records : Built × Ending → List (List (List ℕ))
task_records task = build_record task.0 ∷ ending_record task.1 ∷ []
