-- The lines behind a prelude with their replies: laws on the lists.
use Rattle.std.proofs.Common.{◌≡◌, ℕ, ◌+◌, ◌<◌, ◌≤◌, Bool, true, false, cond, List, [], ◌∷◌, ◌++◌, All, length, map, drop, Option, Some, None, refl, sym, ap, ◌∙◌, subst, arith}
use Rattle.std.specs.Prelude.{filter, slice_index_or}
use Rattle.std.proofs.lemmas.Bool.{false≢true}
use Rattle.std.proofs.lemmas.Bool.Decides.{nat_tests}
use Rattle.std.proofs.lemmas.List.{get_or-set_other, get_or-set_same, length-set}
use Rattle.std.proofs.lemmas.List.Elements.{All-cons, All-head, All-nil, All-tail}
use Rattle.im_history.specs.History.{History}
use Rattle.im_play.specs.Requests.{asked, demand_of, unasked_reply}
use Rattle.im_race.specs.inner.Answering.{answers_by, first_reply, left_by, or_nothing, reply_by, shown}
use Rattle.im_race.specs.inner.Doing.{HasEnded}
use Rattle.im_race.specs.Jobs.{Answer, HasPlayed}
use Rattle.im_race.specs.Lines.{as_raced, has_reply, names, raced_of}
use Rattle.im_race.specs.Race.{IsReplyForNobody}
use Rattle.im_race.proofs.LinesLemmas.{own-lines}
use Rattle.im_replies.specs.declared.reply.Reply.{Reply}
use Rattle.im_script.specs.declared.line.Line.{Line}
use Rattle.im_script.specs.declared.line.LineKind.{LineKind}
use Rattle.im_script.specs.declared.line.LineKind.TheVariants as kind
use Rattle.im_script.specs.Lines.{NamesOneOf16, SpeaksAs}
use Rattle.im_statements.specs.Outcomes.{State}
use Rattle.im_values.specs.declared.limits.TheConstants.{SESSIONS}

-- the answers are those of the lines, in order
pub answers-lines : (replies : List (List Reply)) (lines : List Line) → map (λ (answer : Answer). answer.line) (answers_by replies lines) ≡ lines
answers-lines replies [] = refl
answers-lines replies (line ∷ lines) = ap (λ (ls : List Line). line ∷ ls) (answers-lines (left_by replies line.who) lines)

-- ---- the lines of one session

pub length-left : (replies : List (List Reply)) (speaker : Option ℕ) → length (left_by replies speaker) ≡ length replies
length-left replies None = refl
length-left replies (Some who) = length-set replies who (drop 1 (slice_index_or replies who []))

-- another line leaves a session's replies
left-other : (replies : List (List Reply)) (speaker : Option ℕ) (who : ℕ) → names who speaker ≡ false
    → slice_index_or (left_by replies speaker) who [] ≡ slice_index_or replies who []
left-other replies None who other = refl
left-other replies (Some number) who other =
    let apart : who ≡ number → ⊥ = grind (arith, nat_tests) in
    get_or-set_other replies number who (drop 1 (slice_index_or replies number [])) [] apart

-- a line of its own takes the next one
left-own : (replies : List (List Reply)) (speaker : Option ℕ) (who : ℕ) → names who speaker ≡ true → who < length replies
    → slice_index_or (left_by replies speaker) who [] ≡ drop 1 (slice_index_or replies who [])
left-own replies None who own inside = absurd (false≢true own)
left-own replies (Some number) who own inside =
    let same : number ≡ who = grind (arith, nat_tests) in
    ap (λ (n : ℕ). slice_index_or (left_by replies (Some n)) who []) same
    ∙ get_or-set_same replies who (drop 1 (slice_index_or replies who [])) [] inside

reply-own : (replies : List (List Reply)) (speaker : Option ℕ) (line : Line) (who : ℕ) → names who speaker ≡ true
    → reply_by replies speaker line ≡ or_nothing (first_reply (slice_index_or replies who []))
reply-own replies None line who own = absurd (false≢true own)
reply-own replies (Some number) line who own =
    let same : number ≡ who = grind (arith, nat_tests) in
    ap (λ (n : ℕ). or_nothing (first_reply (slice_index_or replies n []))) same

-- the answers to the lines in which this session speaks
abbrev own : ℕ → List Answer → List Answer
own who answers = filter (λ (answer : Answer). names who answer.line.who) answers

own-cons : (b : Bool) (replies : List (List Reply)) (line : Line) (lines : List Line) (who : ℕ) (answers : List Answer)
    → ((left : List (List Reply)) (rest : List Answer) → who < length left
    → map (λ (answer : Answer). answer.line) rest ≡ filter (λ (l : Line). names who l.who) lines
    → map (λ (answer : Answer). answer.reply) rest ≡ slice_index_or left who []
    → own who (answers_by left lines) ≡ rest)
    → names who line.who ≡ b → who < length replies
    → map (λ (answer : Answer). answer.line) answers
    ≡ cond b (line ∷ filter (λ (l : Line). names who l.who) lines) (filter (λ (l : Line). names who l.who) lines)
    → map (λ (answer : Answer). answer.reply) answers ≡ slice_index_or replies who []
    → cond b (record { line = line; reply = reply_by replies line.who line } ∷ own who (answers_by (left_by replies line.who) lines))
    (own who (answers_by (left_by replies line.who) lines)) ≡ answers
own-cons false replies line lines who answers behind is inside lines_are replies_are =
    let long : length (left_by replies line.who) ≡ length replies = length-left replies line.who in
    behind (left_by replies line.who) answers (omega (arith, long, inside)) lines_are (replies_are ∙ sym (left-other replies line.who who is))
own-cons true replies line lines who [] behind is inside lines_are replies_are = absurd cc
own-cons true replies line lines who (answer ∷ answers) behind is inside lines_are replies_are =
    let long : length (left_by replies line.who) ≡ length replies = length-left replies line.who in
    let of : answer.line ≡ line = cc in
    let rest : map (λ (a : Answer). a.line) answers ≡ filter (λ (l : Line). names who l.who) lines = cc in
    let reply : reply_by replies line.who line ≡ answer.reply =
    reply-own replies line.who line who is ∙ ap (λ (rs : List Reply). or_nothing (first_reply rs)) (sym replies_are) in
    let left : map (λ (a : Answer). a.reply) answers ≡ slice_index_or (left_by replies line.who) who [] =
    ap (drop 1) replies_are ∙ sym (left-own replies line.who who is inside) in
    let tail : own who (answers_by (left_by replies line.who) lines) ≡ answers =
    behind (left_by replies line.who) answers (omega (arith, long, inside)) rest left in
    (λ t. record { line = sym of t; reply = reply t } ∷ tail t)

-- the answers to a session's lines are its own lines, in order, with its own replies
pub answers-own : (replies : List (List Reply)) (lines : List Line) (who : ℕ) (answers : List Answer) → who < length replies
    → map (λ (answer : Answer). answer.line) answers ≡ filter (λ (line : Line). names who line.who) lines
    → map (λ (answer : Answer). answer.reply) answers ≡ slice_index_or replies who []
    → filter (λ (answer : Answer). names who answer.line.who) (answers_by replies lines) ≡ answers
answers-own replies [] who [] inside lines_are replies_are = refl
answers-own replies [] who (answer ∷ answers) inside lines_are replies_are = absurd cc
answers-own replies (line ∷ lines) who answers inside lines_are replies_are =
    own-cons (names who line.who) replies line lines who answers (λ left rest. answers-own left lines who rest) refl inside lines_are replies_are

-- what a session did with its own lines and replies is what the answers show of it
pub session-played : (area who : ℕ) (state : State) (old new : History) (behind : List Line) (replies : List (List Reply)) → 1 ≤ who → who < length replies
    → HasEnded area who state old behind (slice_index_or replies who []) new
    → HasPlayed area who state old (filter (λ (answer : Answer). names who answer.line.who) (answers_by replies (raced_of behind))) new
session-played area who state old new behind replies one inside ended =
    subst (λ (answers : List Answer). HasPlayed area who state old answers new)
    (sym (answers-own replies (raced_of behind) who ended.answers inside (ended.lines_are ∙ sym (own-lines behind who one)) ended.replies_are))
    ended.played

-- ---- the lines of nobody

-- the line has the one reply that it is told, where it names nobody
abbrev IsAnswered : ℕ → Answer → Type 0
IsAnswered area answer = answer.line.who ≡ None → IsReplyForNobody answer.reply (demand_of area answer.line)

told-kind : (area number : ℕ) (of : LineKind) → has_reply of ≡ true → SpeaksAs None of
    → IsReplyForNobody (or_nothing (unasked_reply of)) (asked area number of)
told-kind area number kind.Skip has speaks = absurd (false≢true has)
told-kind area number kind.Race has speaks = absurd (false≢true has)
told-kind area number (kind.Long bytes) has speaks = record { number = number; told = refl }
told-kind area number (kind.Bad byte) has speaks = record { number = number; told = refl }
told-kind area number (kind.Session who statement) has speaks = let named : ◌≡◌ {A = Option ℕ} None (Some who) = speaks.0 in absurd cc
told-kind area number (kind.Background statement) has speaks = let named : ◌≡◌ {A = Option ℕ} None (Some 0) = speaks in absurd cc
told-kind area number kind.NoMemory has speaks = record { number = number; told = refl }

told-nobody : (area : ℕ) (replies : List (List Reply)) (line : Line) (speaker : Option ℕ) → speaker ≡ None → has_reply line.kind ≡ true
    → SpeaksAs speaker line.kind → IsReplyForNobody (reply_by replies speaker line) (demand_of area line)
told-nobody area replies line None is has speaks = told-kind area line.number line.kind has speaks
told-nobody area replies line (Some who) is has speaks = absurd cc

-- what is told for a line as it is raced, where the background speaks in it or not
told-raced : (background : Bool) (area : ℕ) (replies : List (List Reply)) (line : Line) → has_reply line.kind ≡ true → SpeaksAs line.who line.kind
    → (cond background (record line { who = None; kind = kind.Bad line.first }) line).who ≡ None
    → IsReplyForNobody (reply_by replies (cond background (record line { who = None; kind = kind.Bad line.first }) line).who
    (cond background (record line { who = None; kind = kind.Bad line.first }) line))
    (demand_of area (cond background (record line { who = None; kind = kind.Bad line.first }) line))
told-raced true area replies line has speaks nobody = record { number = line.number; told = refl }
told-raced false area replies line has speaks nobody = told-nobody area replies line line.who nobody has speaks

told-cons : (b : Bool) (area : ℕ) (replies : List (List Reply)) (line : Line) (lines : List Line) → has_reply line.kind ≡ b
    → NamesOneOf16 line → ((left : List (List Reply)) → All (IsAnswered area) (answers_by left (map as_raced lines)))
    → All (IsAnswered area) (answers_by replies (map as_raced (cond b (line ∷ lines) lines)))
told-cons true area replies line lines has named behind =
    All-cons (IsAnswered area) (record { line = as_raced line; reply = reply_by replies (as_raced line).who (as_raced line) })
    (answers_by (left_by replies (as_raced line).who) (map as_raced lines))
    (told-raced (names 0 line.who) area replies line has named.speaks) (behind (left_by replies (as_raced line).who))
told-cons false area replies line lines has named behind = behind replies

-- a line that names nobody has the one reply that it is told
pub answers-told : (area : ℕ) (replies : List (List Reply)) (behind : List Line) → All NamesOneOf16 behind
    → All (λ (answer : Answer). answer.line.who ≡ None → IsReplyForNobody answer.reply (demand_of area answer.line)) (answers_by replies (raced_of behind))
answers-told area replies [] named = All-nil (IsAnswered area)
answers-told area replies (line ∷ behind) named =
    told-cons (has_reply line.kind) area replies line (filter (λ (l : Line). has_reply l.kind) behind) refl
    (All-head NamesOneOf16 line behind named)
    (λ left. answers-told area left behind (All-tail NamesOneOf16 line behind named))

-- ---- one line after the other

-- the answers so far and those to the lines that are left are those to all
pub record AreAnswered (told : List (ℕ × Reply)) (left : List (List Reply)) (rest : List Line) (start : List (List Reply)) (lines : List Line) : Type 0
  where
    pub count : length left ≡ SESSIONS + 1
    pub all : told ++ map shown (answers_by left (raced_of rest)) ≡ map shown (answers_by start (raced_of lines))
