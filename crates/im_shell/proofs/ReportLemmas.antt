-- The text of a report, part by part.
use Rattle.std.proofs.Common.{◌≡◌, ◌<◌, ℕ, ◌+◌, List, ◌++◌, drop, length, get_or, slice_get, Option, Some, Result, OnOk, OnErr, ap, sym, ◌∙◌, subst}
use Rattle.std.proofs.lemmas.List.{at_drop_more}
use Rattle.std.proofs.lemmas.Option.{slice_get_within, get_or_from_slice_get}
use Rattle.im_history.specs.declared.entry.Entry.{Entry}
use Rattle.im_history.specs.History.{History}
use Rattle.im_race.specs.Report.{Report}
use Rattle.im_replies.specs.declared.reply.Reply.{Reply}
use Rattle.im_shell.specs.declared.shown.Shown.TheVariants.{All}
use Rattle.im_shell.specs.Reports.{answers_text, end_text, ends_text, entries_text, report_text}
use Rattle.im_shell.specs.Texts.{text_of}
use Rattle.im_shell.specs.inner.Sent.{Sends, SendsPart}
use Rattle.im_text.specs.Replies.{reply_text}
use Rattle.im_text.specs.Report.{entry_text, line_text}
use Rattle.im_worker.specs.declared.work.Ended.{Ended}

-- the next reply of a prelude, and those behind it
pub replies-next : (replies : List (ℕ × Reply)) (place : ℕ) (item : ℕ × Reply) → item ≡ get_or replies place item → place < length replies
    → text_of All (drop place replies) ≡ reply_text item.0 item.1.body ++ text_of All (drop (place + 1) replies)
replies-next replies place item is below =
    at_drop_more (text_of All) replies place item below
    ∙ ap (λ (i : ℕ × Reply). reply_text i.0 i.1.body ++ text_of All (drop (place + 1) replies)) (sym is)

-- the next line of a race, and those behind it
pub answers-next : (answers : List (ℕ × Reply)) (place : ℕ) (item : ℕ × Reply) → item ≡ get_or answers place item → place < length answers
    → answers_text (drop place answers) ≡ line_text item.0 item.1 ++ answers_text (drop (place + 1) answers)
answers-next answers place item is below =
    at_drop_more answers_text answers place item below
    ∙ ap (λ (i : ℕ × Reply). line_text i.0 i.1 ++ answers_text (drop (place + 1) answers)) (sym is)

-- the end of the next worker, and those behind it
pub ends-next : (ends : List Ended) (who place : ℕ) (d : Ended) → place < length ends
    → ends_text who (drop place ends) ≡ end_text who (get_or ends place d) ++ ends_text (who + 1) (drop (place + 1) ends)
ends-next ends who place d below = at_drop_more (ends_text who) ends place d below

-- the entry at a place, and those behind it
pub entries-next : (history : History) (place : ℕ) (entry : Entry) → slice_get history place ≡ Some entry
    → entries_text place (drop place history) ≡ entry_text place entry ++ entries_text (place + 1) (drop (place + 1) history)
entries-next history place entry found =
    at_drop_more (entries_text place) history place entry (slice_get_within history place entry found)
    ∙ ap (λ (e : Entry). entry_text place e ++ entries_text (place + 1) (drop (place + 1) history)) (get_or_from_slice_get history place entry entry found)

-- a report as contracts see it
pub SendsPart-seen : (a b : Option (List ℕ)) (waiting : List ℕ) (parts report : Report) → parts ≡ report → SendsPart a b (waiting ++ report_text parts)
    → SendsPart a b (waiting ++ report_text report)
SendsPart-seen a b waiting parts report seen stop = subst (λ (r : Report). SendsPart a b (waiting ++ report_text r)) seen stop

pub OnOk-seen : {T E : Type 0} (result : Result T E) (a b : Option (List ℕ)) (waiting left : List ℕ) (parts report : Report) → parts ≡ report
    → OnOk result (Sends a b (waiting ++ report_text parts) left) → OnOk result (Sends a b (waiting ++ report_text report) left)
OnOk-seen result a b waiting left parts report seen sends =
    subst (λ (r : Report). OnOk result (Sends a b (waiting ++ report_text r) left)) seen sends

pub OnErr-seen : {T E : Type 0} (result : Result T E) (a b : Option (List ℕ)) (waiting : List ℕ) (parts report : Report) → parts ≡ report
    → OnErr result (SendsPart a b (waiting ++ report_text parts)) → OnErr result (SendsPart a b (waiting ++ report_text report))
OnErr-seen result a b waiting parts report seen stop = subst (λ (r : Report). OnErr result (SendsPart a b (waiting ++ report_text r))) seen stop
