-- What a session and a worker do in a race: a line, a line behind others, and the end.
use Rattle.std.proofs.Common.{◌≡◌, ℕ, ◌+◌, ◌<◌, ◌==◌, ◌&&◌, Bool, true, false, List, [], ◌∷◌, ◌++◌, get_or, filter, length, take, Option, Some, refl, sym, ap, ◌∙◌, subst, append-nil, arith}
use Rattle.std.proofs.lemmas.Bool.{false≢true}
use Rattle.std.proofs.lemmas.Bool.Decides.{nat_tests}
use Rattle.std.proofs.lemmas.List.{map-append, take_more}
use Rattle.std.proofs.lemmas.List.Elements.{filter-append}
use Rattle.im_history.specs.declared.limits.Limits.{Limits}
use Rattle.im_history.specs.History.{History}
use Rattle.im_history.specs.Leaves.{has_left}
use Rattle.im_plan.specs.Goes.{Goes, PlayedLine as Whole, Others}
use Rattle.im_play.specs.Requests.{asked, demand_of, script_limits}
use Rattle.im_statements.proofs.LineLaws.{nobody-leaves}
use Rattle.im_race.specs.inner.Doing.{HasEnded, HavePlayed, PlaysAll}
use Rattle.im_race.specs.inner.Playing.{IsAmong, Went}
use Rattle.im_race.specs.Jobs.{Answer, HasPlayed, OthersThan, PlaysDemand, Worker}
use Rattle.im_race.specs.Lines.{has_reply, names, speaks_in}
use Rattle.im_reach.specs.Sides.{Known, StoreSide, is_number, speaks}
use Rattle.im_replies.specs.declared.reply.Reply.{Reply}
use Rattle.im_script.specs.declared.line.Line.{Line}
use Rattle.im_script.specs.declared.line.LineKind.{LineKind}
use Rattle.im_script.specs.declared.line.LineKind.TheVariants as kind
use Rattle.im_script.specs.Lines.{NamesOneOf16, SpeaksAs}
use Rattle.im_session.specs.Ends.{IsEnded, end_plan}
use Rattle.im_session.specs.Sessions.{Agrees, IsStatementPlayed, Kept, state_of}
use Rattle.im_statements.specs.Outcomes.{Replied, State}
use Rattle.im_statements.specs.Statements.{statement_plan}
use Rattle.im_statements.specs.Turns.{amends}
use Rattle.im_syntax.specs.declared.statement.Stmt.{Stmt}
use Rattle.im_worker.specs.Background as background
use Rattle.im_worker.specs.Work.{HasWorked, Worked}
use Rattle.im_worker.specs.declared.work.Ended.{Ended}

-- ---- a side that speaks for one number

speaks-own : (side : StoreSide) (who : ℕ) → side.number ≡ Some who → speaks side who ≡ true
speaks-own side who own = rw own (itself who)
  where
    itself : (n : ℕ) → (n == n) ≡ true
    itself n = grind (arith, nat_tests)

-- what others may do beside it is what others than this number may do
of-others : (P : (History → Type 0) → Type 0) (side : StoreSide) (who : ℕ) → side.number ≡ Some who → P (Others (speaks side)) → P (OthersThan who)
of-others P side who own holds = subst (λ (number : Option ℕ). P (Others (is_number number))) own holds

-- ---- who speaks in a line

names-own : (who number : ℕ) (said : Option ℕ) (replies : Bool) → said ≡ Some number → (replies && names who said) ≡ true → number ≡ who
names-own who number said true said_is own =
    let same : (number == who) ≡ true = subst (λ (o : Option ℕ). names who o ≡ true) said_is own in
    grind (arith, nat_tests, same)
names-own who number said false said_is own = absurd (false≢true own)

-- the statement of a line in which a session speaks is that session's
statement-own : (who number : ℕ) (s : Stmt) (line : Line) → line.kind ≡ kind.Session number s → NamesOneOf16 line → speaks_in who line ≡ true
    → number ≡ who
statement-own who number s line is named own =
    names-own who number line.who (has_reply line.kind) (subst (SpeaksAs line.who) is named.speaks).0 own

-- its line is played
module _ (number : ℕ) (s : Stmt) (line : Line) (before after : Kept) (old new : Known) (reply : Reply) (side_is : old.side.number ≡ Some before.who)
    (limits_is : old.limits ≡ script_limits old.limits.area) (is : line.kind ≡ kind.Session number s) (named : NamesOneOf16 line)
    (own : speaks_in before.who line ≡ true) (played : IsStatementPlayed s before old reply after new) where
  asked-own : PlaysDemand before.who (state_of before.cursors) old.log reply (asked old.limits.area line.number (kind.Session before.who s))
      (state_of after.cursors) new.log
  asked-own = (
    played.effect,
    played.keeps,
    subst (λ (limits : Limits). Whole (OthersThan before.who) before.who (amends before.who) old.log
        (statement_plan limits before.who (state_of before.cursors) s) (Replied reply played.effect) new.log) limits_is
        (of-others (λ others. Whole others before.who (amends before.who) old.log
        (statement_plan old.limits before.who (state_of before.cursors) s) (Replied reply played.effect) new.log) old.side before.who side_is played.line),
  )

  pub plays-statement : PlaysDemand before.who (state_of before.cursors) old.log reply (demand_of old.limits.area line) (state_of after.cursors) new.log
  plays-statement =
      subst (λ (k : LineKind). PlaysDemand before.who (state_of before.cursors) old.log reply (asked old.limits.area line.number k) (state_of after.cursors) new.log)
      (sym (is ∙ ap (λ (n : ℕ). kind.Session n s) (statement-own before.who number s line is named own))) asked-own

  -- behind it nobody has left
  pub stays-statement : has_left old.log before.who ≡ false → has_left new.log before.who ≡ false
  stays-statement stays =
      nobody-leaves (speaks old.side) old.limits before.who before.who (state_of before.cursors) s old.log
      (Replied reply played.effect) new.log
      (speaks-own old.side before.who side_is) played.line
      ∙ stays

-- ---- a line behind others

-- one more line behind those that were played
plays-more : (area who : ℕ) (state : State) (old : History) (answers : List Answer) (kept : State) (at : History) (answer : Answer) (next : State)
    (new : History) → PlaysAll area who state old answers kept at → PlaysDemand who kept at answer.reply (demand_of area answer.line) next new
    → PlaysAll area who state old (answers ++ answer ∷ []) next new
plays-more area who state old [] kept at answer next new before plays = (
  next,
  new,
  subst (λ (s : State). PlaysDemand who s old answer.reply (demand_of area answer.line) next new) before.0
      (subst (λ (h : History). PlaysDemand who kept h answer.reply (demand_of area answer.line) next new) before.1 plays),
  (refl, refl),
)
plays-more area who state old (first ∷ answers) kept at answer next new before plays = (
  before.0,
  before.1,
  before.2,
  plays-more area who before.0 before.1 answers kept at answer next new before.3 plays,
)

-- those that a test keeps, with one more
filter-next : (p : Line → Bool) (lines : List Line) (index : ℕ) (line : Line) → index < length lines → line ≡ get_or lines index line
    → filter p (take (index + 1) lines) ≡ filter p (take index lines) ++ filter p (line ∷ [])
filter-next p lines index line inside is =
    ap (filter p) (take_more lines index line inside ∙ ap (λ (l : Line). take index lines ++ l ∷ []) (sym is))
    ∙ filter-append p (take index lines) (line ∷ [])

filter-kept : (p : Line → Bool) (line : Line) → p line ≡ true → filter p (line ∷ []) ≡ line ∷ []
filter-kept p line holds = rw holds refl

filter-left : (p : Line → Bool) (line : Line) → p line ≡ false → filter p (line ∷ []) ≡ []
filter-left p line lacks = rw lacks refl

-- ---- a session among its lines

-- it went on with one more
pub went-more : (who : ℕ) (old : Known) (now after : Kept) (known new : Known) → Went who old now known → after.who ≡ now.who
    → new ≡ record known { log = new.log } → Agrees after new → has_left new.log now.who ≡ false → Went who old after new
went-more who old now after known new went same is agrees stays = record {
  number = same ∙ went.number;
  known = is ∙ ap (λ (k : Known). record k { log = new.log }) went.known;
  agrees = agrees;
  stays = subst (λ (n : ℕ). has_left new.log n ≡ false) went.number stays;
}

module _ (who : ℕ) (session : Kept) (old : Known) (lines : List Line) (index : ℕ) (replies : List Reply) (now : Kept) (known : Known)
    (among : IsAmong who session old lines index replies now known) (line : Line) (inside : index < length lines) (is : line ≡ get_or lines index line)
  where
    -- a line in which it does not speak
    pub among-passed : speaks_in who line ≡ false → IsAmong who session old lines (index + 1) replies now known
    among-passed silent = record {
      went = among.went;
      have = record {
        answers = among.have.answers;
        lines_are =
            among.have.lines_are
            ∙ sym (filter-next (speaks_in who) lines index line inside is
            ∙ (ap (λ (ls : List Line). filter (speaks_in who) (take index lines) ++ ls) (filter-left (speaks_in who) line silent)
            ∙ append-nil (filter (speaks_in who) (take index lines))));
        replies_are = among.have.replies_are;
        plays = among.have.plays;
      };
    }

    module _ (after : Kept) (new : Known) (reply : Reply) (own : speaks_in who line ≡ true) (went : Went who old after new)
        (plays : PlaysDemand now.who (state_of now.cursors) known.log reply (demand_of known.limits.area line) (state_of after.cursors) new.log) where
      abbrev and_reply : Answer
      and_reply = record { line = line; reply = reply }

      plays-own : PlaysDemand who (state_of now.cursors) known.log reply (demand_of old.limits.area line) (state_of after.cursors) new.log
      plays-own =
          subst (λ (n : ℕ). PlaysDemand n (state_of now.cursors) known.log reply (demand_of old.limits.area line) (state_of after.cursors) new.log)
          among.went.number
          (subst (λ (area : ℕ). PlaysDemand now.who (state_of now.cursors) known.log reply (demand_of area line) (state_of after.cursors) new.log)
          (ap (λ (k : Known). k.limits.area) among.went.known) plays)

      -- a line in which it speaks
      pub among-played : IsAmong who session old lines (index + 1) (replies ++ reply ∷ []) after new
      among-played = record {
        went = went;
        have = record {
          answers = among.have.answers ++ and_reply ∷ [];
          lines_are =
              map-append (λ (a : Answer). a.line) among.have.answers (and_reply ∷ [])
              ∙ (ap (λ (ls : List Line). ls ++ line ∷ []) among.have.lines_are
              ∙ sym (filter-next (speaks_in who) lines index line inside is
              ∙ ap (λ (ls : List Line). filter (speaks_in who) (take index lines) ++ ls) (filter-kept (speaks_in who) line own)));
          replies_are =
              map-append (λ (a : Answer). a.reply) among.have.answers (and_reply ∷ [])
              ∙ ap (λ (rs : List Reply). rs ++ reply ∷ []) among.have.replies_are;
          plays =
              plays-more old.limits.area who (state_of session.cursors) old.log among.have.answers (state_of now.cursors) known.log and_reply
              (state_of after.cursors) new.log among.have.plays plays-own;
        };
      }

-- ---- the end

-- the lines were played, and then the session ended
ends-all : (area who : ℕ) (state : State) (old : History) (answers : List Answer) (kept : State) (at new : History)
    → PlaysAll area who state old answers kept at → Goes (OthersThan who) who at (end_plan who) tt new → HasPlayed area who state old answers new
ends-all area who state old [] kept at new before goes =
    subst (λ (h : History). Goes (OthersThan who) who h (end_plan who) tt new) before.1 goes
ends-all area who state old (answer ∷ answers) kept at new before goes =
    (before.0, before.1, before.2, ends-all area who before.0 before.1 answers kept at new before.3 goes)

-- a session played its lines and ended
pub session-ended : (who : ℕ) (lines : List Line) (session after : Kept) (old at new : Known) (items replies : List Reply) → after.who ≡ who
    → old.side.number ≡ Some who → at ≡ record old { log = at.log }
    → HavePlayed old.limits.area who (state_of session.cursors) old.log lines items (state_of after.cursors) at.log
    → IsEnded after.who at (end_plan after.who) new → replies ≡ items
    → HasEnded old.limits.area who (state_of session.cursors) old.log lines replies new.log
session-ended who lines session after old at new items replies number side_is known have ended same = record {
  answers = have.answers;
  lines_are = have.lines_are;
  replies_are = have.replies_are ∙ sym same;
  played =
      ends-all old.limits.area who (state_of session.cursors) old.log have.answers (state_of after.cursors) at.log new.log have.plays
      (of-others (λ others. Goes others who at.log (end_plan who) tt new.log) at.side who (ap (λ (k : Known). k.side.number) known ∙ side_is)
      (subst (λ (n : ℕ). Goes (Others (speaks at.side)) n at.log (end_plan n) tt new.log) number ended.goes));
}

-- ---- a worker

-- a worker did its job
pub worker-worked : (kept : background.Kept) (who turns sessions : ℕ) (old new : Known) (ended : Ended)
    → kept ≡ record { who = who; builds = [] } → old.side.number ≡ Some who → HasWorked kept.who turns sessions old ended new
    → Worker old.limits turns sessions who old.log ended new.log
worker-worked kept who turns sessions old new ended is side_is has = record {
  rounds = has.rounds;
  worked =
      of-others (λ others. Worked others old.limits who has.rounds old.log new.log) old.side who side_is
      (subst (λ (k : background.Kept). Worked (Others (speaks old.side)) old.limits k.who has.rounds old.log new.log) is has.worked);
  told = has.told;
}
