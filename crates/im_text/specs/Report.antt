-- The texts of the report of a race: the entries of its history, how its workers ended, and its lines with their places.
use Rattle.std.specs.Prelude.{ℕ, Bool, true, false, List, [], ◌∷◌, ◌++◌, Option, Some, None, map, codes, decimal}
use Rattle.im_history.specs.declared.entry.Entry.{Entry}
use Rattle.im_replies.specs.declared.served.Served.{Served}
use Rattle.im_replies.specs.declared.reply.Reply.{Reply}
use Rattle.im_text.specs.Records.{record_text, records_text}
use Rattle.im_text.specs.Extents.{how_fields}
use Rattle.im_text.specs.Entries.{entry_records}
use Rattle.im_text.specs.Replies.{reply_text}

-- how many entries the history has
abbrev pub history_record : ℕ → List (List ℕ)
history_record count = codes "history" ∷ decimal count ∷ []

-- a place, or nothing where there is none
abbrev pub place_field : Option ℕ → List ℕ
place_field (Some place) = decimal place
place_field None = []

-- it was over, or its turns were spent, so many of them for lack of memory
abbrev pub end_fields : Bool → ℕ → List (List ℕ)
end_fields true lacks = codes "over" ∷ []
end_fields false lacks = codes "spent" ∷ decimal lacks ∷ []

-- how a worker ended, and the place at which it last had nothing to do
abbrev pub worker_record : ℕ → Bool → ℕ → Option ℕ → List (List ℕ)
worker_record who over lacks place = codes "worker" ∷ decimal who ∷ (end_fields over lacks ++ place_field place ∷ [])

-- the place at which a line was answered
abbrev pub at_record : ℕ → ℕ → List (List ℕ)
at_record line place = codes "at" ∷ decimal line ∷ decimal place ∷ []

-- an extent that a line was served, and the place at which it was
abbrev pub mark_record : ℕ → Served → List (List ℕ)
mark_record line served =
    codes "mark" ∷ decimal line ∷ decimal served.place ∷ decimal served.extent ∷ how_fields served.how

-- where a line was answered and what it was served; nothing where its reply was settled at no place
abbrev pub place_records : ℕ → Option ℕ → List Served → List (List (List ℕ))
place_records line (Some place) marks = at_record line place ∷ map (mark_record line) marks
place_records line None marks = []

-- how many entries the history has
unfoldable pub history_text : ℕ → List ℕ
history_text count = record_text (history_record count)

-- an entry of the history
unfoldable pub entry_text : ℕ → Entry → List ℕ
entry_text place entry = records_text (entry_records place entry)

-- how a worker ended
unfoldable pub worker_text : ℕ → Bool → ℕ → Option ℕ → List ℕ
worker_text who over lacks place = record_text (worker_record who over lacks place)

-- a line: where it was answered, what it was served, and its reply
unfoldable pub line_text : ℕ → Reply → List ℕ
line_text line reply = records_text (place_records line reply.place reply.marks) ++ reply_text line reply.body
