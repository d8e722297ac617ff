-- Who is there: nobody leaves, and each entry is that of a session or of the background.
use Rattle.std.proofs.Common.{◌≡◌, ℕ, ◌≤◌, true, All, [], sym, ap, ◌∙◌, subst}
use Rattle.std.proofs.lemmas.List.Elements.{All-append, All-nil, All-weaker}
use Rattle.im_history.specs.declared.entry.Entry.{Entry}
use Rattle.im_history.specs.History.{History}
use Rattle.im_history.specs.Leaves.{has_left}
use Rattle.im_history.proofs.LeaveLaws.{has_left-nil}
use Rattle.im_play.specs.Between.{AreThere}
use Rattle.im_play.proofs.StayingLaws.{nobody-leaves-behind, nobody-leaves-dropped}
use Rattle.im_statements.proofs.LineLaws.{nobody-leaves}
use Rattle.im_reach.specs.Sides.{Known, StoreSide, sole, speaks}
use Rattle.im_replies.specs.declared.reply.Reply.{Reply}
use Rattle.im_session.specs.Sessions.{IsStatementPlayed, Kept, state_of}
use Rattle.im_session.proofs.ForCallers.{IsOwn, played-own}
use Rattle.im_statements.specs.Background.{Answered}
use Rattle.im_statements.specs.Outcomes.{Replied}
use Rattle.im_syntax.specs.declared.statement.Stmt.{Stmt}
use Rattle.im_values.specs.declared.limits.TheConstants.{SESSIONS}
use Rattle.im_worker.specs.Background as background
use Rattle.im_worker.specs.Background.{tasks_of}

-- the entry is that of a session or of the background
abbrev Numbered : Entry → Type 0
Numbered entry = entry.who ≤ SESSIONS

pub there-start : AreThere []
there-start = record { stay = has_left-nil; numbered = All-nil Numbered }

-- entries of one number came, and nobody left
there-own : (who : ℕ) (old new : History) → who ≤ SESSIONS → IsOwn who old new → ((number : ℕ) → has_left new number ≡ has_left old number)
    → AreThere old → AreThere new
there-own who old new within own stay there = record {
  stay = λ number. stay number ∙ there.stay number;
  numbered =
      subst (All Numbered) (sym own.log)
      (All-append Numbered old own.more there.numbered
      (All-weaker (λ (entry : Entry). entry.who ≡ who) Numbered (λ entry is. subst (λ (n : ℕ). n ≤ SESSIONS) (sym is) within) own.more own.own));
}

-- the only side of a store speaks for every number
mine : (side : StoreSide) (number : ℕ) → side ≡ sole → speaks side number ≡ true
mine side number alone = ap (λ (s : StoreSide). speaks s number) alone

-- a session played a statement
pub there-session : (s : Stmt) (before after : Kept) (old new : Known) (reply : Reply) → old.side ≡ sole → before.who ≤ SESSIONS
    → IsStatementPlayed s before old reply after new → AreThere old.log → AreThere new.log
there-session s before after old new reply alone within played =
    there-own before.who old.log new.log within (played-own s before after old new reply alone played) (λ number.
    nobody-leaves (speaks old.side) old.limits before.who number (state_of before.cursors) s old.log (Replied reply played.effect) new.log
    (mine old.side number alone) played.line)

-- the background played a statement
pub there-command : (s : Stmt) (before after : background.Kept) (old new : Known) (reply : Reply) → old.side ≡ sole → before.who ≤ SESSIONS
    → IsOwn before.who old.log new.log → background.IsCommandPlayed s before old reply after new → AreThere old.log → AreThere new.log
there-command s before after old new reply alone within own played =
    there-own before.who old.log new.log within own (λ number.
    nobody-leaves-behind (speaks old.side) old.limits before.who number played.rounds (tasks_of before.builds) s old.log
    (Answered reply (tasks_of after.builds)) new.log (mine old.side number alone) played.line)

-- the background dropped the builds that it held
pub there-dropped : (before after : background.Kept) (old new : Known) → old.side ≡ sole → before.who ≤ SESSIONS
    → IsOwn before.who old.log new.log → background.IsDropped before old after new → AreThere old.log → AreThere new.log
there-dropped before after old new alone within own dropped =
    there-own before.who old.log new.log within own (λ number.
    nobody-leaves-dropped (speaks old.side) before.who number (tasks_of before.builds) old.log new.log (mine old.side number alone) dropped.goes)
