-- Laws for callers that have a store alone: a line is then played with nobody between its turns, and other sessions go on as they were.
use Rattle.std.proofs.Common.{◌≡◌, ℕ, ◌==◌, Bool, true, false, All, List, [], ◌∷◌, ◌++◌, Option, Some, None, refl, sym, ap, ◌∙◌, subst, inl, inr, append_assoc, arith}
use Rattle.std.specs.List.{list_any}
use Rattle.std.proofs.lemmas.Bool.Decides.{nat_tests}
use Rattle.std.proofs.lemmas.List.Elements.{All-append, All-cons, All-head, All-nil, All-weaker}
use Rattle.im_history.specs.declared.entry.Entry.{Entry}
use Rattle.im_history.specs.declared.entry.What.{What}
use Rattle.im_history.specs.Cursors.{Opened, is_own, opened}
use Rattle.im_history.specs.History.{History}
use Rattle.im_plan.specs.Goes.{After, Goes, Lacks, PlayedLine, Nobody, Others}
use Rattle.im_plan.specs.Plan.{End, Plan, Turn, counted, made}
use Rattle.im_plan.proofs.AloneLaws.{same_after}
use Rattle.im_reach.specs.Sides.{Known, StoreSide, sole, speaks}
use Rattle.im_replies.specs.declared.reply.Reply.{Reply}
use Rattle.im_session.specs.declared.cursor.Cursor.{Cursor}
use Rattle.im_session.specs.Cursors.{IsSound}
use Rattle.im_session.specs.Sessions.{Agrees, IsStatementPlayed, Kept, state_of}
use Rattle.im_session.proofs.CursorLemmas.{sound-longer}
use Rattle.im_session.proofs.KeptLemmas.{all-map}
use Rattle.im_statements.specs.Agreement.{AreQueriesOf}
use Rattle.im_statements.specs.Outcomes.{Replied}
use Rattle.im_statements.specs.Statements.{statement_plan}
use Rattle.im_statements.specs.Turns.{amends}
use Rattle.im_statements.proofs.OtherLaws.{is_open-after, opened-after}
use Rattle.im_syntax.specs.declared.statement.Stmt.{Stmt}

-- ---- nobody comes between

module _ (mine : ℕ → Bool) (all : (number : ℕ) → mine number ≡ true) where
  nobody : (old at : History) → After (Others mine) old at → After Nobody old at
  nobody old at after = record { between = after.between; lawful = record { none = none after.between after.lawful.apart }; log = after.log }
    where
      none : (between : History) → All (λ entry. mine entry.who ≡ false) between → between ≡ []
      none [] apart = refl
      none (entry ∷ rest) apart =
          let both : true ≡ false = sym (all entry.who) ∙ All-head (λ (e : Entry). mine e.who ≡ false) entry rest apart in
          absurd cc

  goes-alone : {R : Type 0} (who : ℕ) (old : History) (plan : Plan R) (result : R) (new : History) → Goes (Others mine) who old plan result new
      → Goes Nobody who old plan result new
  goes-alone who old (End value) result new goes = record { value_is = goes.value_is; after = nobody old new goes.after }
  goes-alone who old (Turn decides adds on) result new goes =
      (goes.0, nobody old goes.0 goes.1, goes-alone who (goes.0 ++ made who (adds goes.0)) (on goes.0) result new goes.2)

  lacks-alone : {R : Type 0} (who : ℕ) (amend : ℕ → Plan R) (k : ℕ) (old : History) (plan : Plan R) (result : R) (new : History)
      → Lacks (Others mine) who amend k old plan result new → Lacks Nobody who amend k old plan result new
  lacks-alone who amend k old (End value) result new lacks = goes-alone who old (amend k) result new lacks
  lacks-alone who amend k old (Turn decides adds on) result new lacks = elim lacks [
    | inl amended ↦ inl (goes-alone who old (amend k) result new amended)
    | inr later ↦ inr (
      later.0,
      nobody old later.0 later.1,
      later.2,
      lacks-alone who amend (counted (adds later.0) k) (later.0 ++ made who (adds later.0)) (on later.0) result new later.3,
    )
  ]

  line-alone_of : {R : Type 0} (who : ℕ) (amend : ℕ → Plan R) (old : History) (plan : Plan R) (result : R) (new : History)
      → PlayedLine (Others mine) who amend old plan result new → PlayedLine Nobody who amend old plan result new
  line-alone_of who amend old plan result new line = record {
    whole = record {
      played = elim line.whole.played [
        | inl goes ↦ inl (goes-alone who old plan result new goes)
        | inr lacks ↦ inr (lacks-alone who amend 0 old plan result new lacks)
      ];
    };
  }

-- over a store that nobody else has a line of any number goes with nobody between its turns
pub line-alone : {R : Type 0} (side : StoreSide) (who : ℕ) (amend : ℕ → Plan R) (old : History) (plan : Plan R) (result : R) (new : History)
    → side ≡ sole → PlayedLine (Others (speaks side)) who amend old plan result new → PlayedLine Nobody who amend old plan result new
line-alone side who amend old plan result new alone =
    line-alone_of (speaks side) (λ number. ap (λ (s : StoreSide). speaks s number) alone) who amend old plan result new

-- ---- what a line leaves to others

-- the history went on by entries of this number alone
pub record IsOwn (who : ℕ) (old new : History) : Type 0 where
  pub more : History
  pub own : All (λ entry. entry.who ≡ who) more
  pub log : new ≡ old ++ more

own-none : (who : ℕ) (old new : History) → After Nobody old new → IsOwn who old new
own-none who old new after = record {
  more = after.between;
  own = subst (All (λ (entry : Entry). entry.who ≡ who)) (sym after.lawful.none) (All-nil (λ (entry : Entry). entry.who ≡ who));
  log = after.log;
}

made-own : (who : ℕ) (added : Option What) → All (λ entry. entry.who ≡ who) (made who added)
made-own who None = All-nil (λ (entry : Entry). entry.who ≡ who)
made-own who (Some what) = All-cons (λ (entry : Entry). entry.who ≡ who) _ [] refl (All-nil (λ (entry : Entry). entry.who ≡ who))

own-turn : (who : ℕ) (old at : History) (added : Option What) (new : History) → After Nobody old at → IsOwn who (at ++ made who added) new
    → IsOwn who old new
own-turn who old at added new after later = record {
  more = made who added ++ later.more;
  own = All-append (λ (entry : Entry). entry.who ≡ who) (made who added) later.more (made-own who added) later.own;
  log =
      later.log
      ∙ (append_assoc at (made who added) later.more ∙ ap (λ (h : History). h ++ (made who added ++ later.more)) (same_after old at after));
}

goes-own : {R : Type 0} (who : ℕ) (old : History) (plan : Plan R) (result : R) (new : History) → Goes Nobody who old plan result new → IsOwn who old new
goes-own who old (End value) result new goes = own-none who old new goes.after
goes-own who old (Turn decides adds on) result new goes =
    own-turn who old goes.0 (adds goes.0) new goes.1 (goes-own who (goes.0 ++ made who (adds goes.0)) (on goes.0) result new goes.2)

lacks-own : {R : Type 0} (who : ℕ) (amend : ℕ → Plan R) (k : ℕ) (old : History) (plan : Plan R) (result : R) (new : History)
    → Lacks Nobody who amend k old plan result new → IsOwn who old new
lacks-own who amend k old (End value) result new lacks = goes-own who old (amend k) result new lacks
lacks-own who amend k old (Turn decides adds on) result new lacks = elim lacks [
  | inl amended ↦ goes-own who old (amend k) result new amended
  | inr later ↦
      own-turn who old later.0 (adds later.0) new later.1
      (lacks-own who amend (counted (adds later.0) k) (later.0 ++ made who (adds later.0)) (on later.0) result new later.3)
]

-- a line adds entries of its own number alone
pub line-own : {R : Type 0} (who : ℕ) (amend : ℕ → Plan R) (old : History) (plan : Plan R) (result : R) (new : History)
    → PlayedLine Nobody who amend old plan result new → IsOwn who old new
line-own who amend old plan result new line = elim line.whole.played [
  | inl goes ↦ goes-own who old plan result new goes
  | inr lacks ↦ lacks-own who amend 0 old plan result new lacks
]

-- the line that a session played over a store that nobody else has
pub played-alone : (s : Stmt) (before after : Kept) (old new : Known) (reply : Reply) → old.side ≡ sole
    → (played : IsStatementPlayed s before old reply after new)
    → PlayedLine Nobody before.who (amends before.who) old.log (statement_plan old.limits before.who (state_of before.cursors) s)
    (Replied reply played.effect) new.log
played-alone s before after old new reply alone played =
    line-alone old.side before.who (amends before.who) old.log _ _ new.log alone played.line

-- where the history went on by entries of one number, a session of another agrees as it did
pub agrees-own : (who : ℕ) (other : Kept) (old new : Known) → IsOwn who old.log new.log → (who == other.who) ≡ false → Agrees other old → Agrees other new
agrees-own who other old new own apart agrees = record {
  cursors = record {
    closed = ap (list_any (λ (other : Opened). is_own other.cursor)) same ∙ agrees.cursors.closed;
    queries = subst (λ (cursors : List Opened). AreQueriesOf (state_of other.cursors).queries cursors) (sym same) agrees.cursors.queries;
  };
  sound =
      all-map (λ (kept : Cursor). IsSound kept old) (λ kept. IsSound kept new)
      (λ kept is. sound-longer kept old new (record { more = own.more; log = own.log }) is) other.cursors agrees.sound;
  apart = agrees.apart;
  transaction =
      agrees.transaction ∙ sym (is_open-after (λ number. number == other.who) other.who old.log new.log (grind (arith, nat_tests)) after_old);
}
  where
    others : All (λ entry. (entry.who == other.who) ≡ false) own.more
    others =
        All-weaker (λ (entry : Entry). entry.who ≡ who) (λ (entry : Entry). (entry.who == other.who) ≡ false)
        (λ entry is. ap (λ (n : ℕ). n == other.who) is ∙ apart) own.more own.own

    after_old : After (Others (λ number. number == other.who)) old.log new.log
    after_old = record { between = own.more; lawful = record { apart = others }; log = own.log }

    same : opened new.log other.who ≡ opened old.log other.who
    same = opened-after (λ number. number == other.who) other.who old.log new.log (grind (arith, nat_tests)) after_old

-- a line of a session adds entries of its own number alone
pub played-own : (s : Stmt) (before after : Kept) (old new : Known) (reply : Reply) → old.side ≡ sole → IsStatementPlayed s before old reply after new
    → IsOwn before.who old.log new.log
played-own s before after old new reply alone played =
    line-own before.who (amends before.who) old.log _ _ new.log (played-alone s before after old new reply alone played)

-- another session agrees as it did
pub agrees-other : (s : Stmt) (before after other : Kept) (old new : Known) (reply : Reply) → old.side ≡ sole
    → IsStatementPlayed s before old reply after new → (before.who == other.who) ≡ false → Agrees other old → Agrees other new
agrees-other s before after other old new reply alone played apart =
    agrees-own before.who other old new (played-own s before after old new reply alone played) apart
