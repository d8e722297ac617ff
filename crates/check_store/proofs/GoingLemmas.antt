-- A store that nobody else has goes on by the entries of whoever calls it.
use Rattle.std.proofs.Common.{◌≡◌, ℕ, ◌==◌, false, All, [], ◌∷◌, ◌++◌, refl, sym, ap, ◌∙◌, subst, append-nil, append_assoc}
use Rattle.std.proofs.lemmas.List.Elements.{All-append, All-cons, All-nil}
use Rattle.check_store.specs.Going.{WentOn}
use Rattle.im_core.specs.declared.answers.Switched.{Switched}
use Rattle.im_core.specs.declared.answers.Switched.TheVariants as switch
use Rattle.im_history.specs.declared.entry.Entry.{Entry}
use Rattle.im_history.specs.declared.entry.What.{What}
use Rattle.im_history.specs.declared.task.Task.{Task}
use Rattle.im_history.specs.History.{History}
use Rattle.im_history.specs.Units.{Content}
use Rattle.im_plan.specs.Goes.{After}
use Rattle.im_reach.specs.Sides.{Added, AreOthers, Found, IsSwitched, Known, StoreSide, sole}
use Rattle.im_replies.specs.declared.reply.Reply.{Reply}
use Rattle.im_session.specs.Sessions.{Agrees, IsStatementPlayed, Kept}
use Rattle.im_session.proofs.ForCallers.{agrees-own, played-own}
use Rattle.im_syntax.specs.declared.statement.Stmt.{Stmt}

-- it went on by nothing
pub went-none : (who : ℕ) (now : Known) → WentOn who now now
went-none who now = record {
  kept = refl;
  more = [];
  own = All-nil (λ (entry : Entry). entry.who ≡ who);
  log = sym (append-nil now.log);
}

pub went-both : (who : ℕ) (old mid new : Known) → WentOn who old mid → WentOn who mid new → WentOn who old new
went-both who old mid new first second = record {
  kept = second.kept ∙ ap (λ (k : Known). record k { log = new.log }) first.kept;
  more = first.more ++ second.more;
  own = All-append (λ (entry : Entry). entry.who ≡ who) first.more second.more first.own second.own;
  log = second.log ∙ (ap (λ (h : History). h ++ second.more) first.log ∙ append_assoc old.log first.more second.more);
}

pub side-went : (who : ℕ) (old new : Known) → WentOn who old new → old.side ≡ sole → new.side ≡ sole
side-went who old new went alone = ap (λ (k : Known). k.side) went.kept ∙ alone

-- ---- calls

still : (old : Known) (at : History) → old.side ≡ sole → After (AreOthers old.side) old.log at → at ≡ old.log
still old at alone after =
    after.log
    ∙ (ap (λ (h : History). old.log ++ h) (after.lawful.alone (ap (λ (s : StoreSide). s.alone) alone)) ∙ append-nil old.log)

-- a call that added nothing left it as it was
pub found-same : (old new : Known) (P : History → Type 0) → old.side ≡ sole → Found old new P → new ≡ old
found-same old new P alone found = found.now ∙ ap (λ (h : History). record old { log = h }) (still old found.at alone found.after)

pub went-added : (old new : Known) (who : ℕ) (adds : History → What) (P : History → Type 0) → old.side ≡ sole → Added old new who adds P
    → WentOn who old new
went-added old new who adds P alone added = record {
  kept = added.now ∙ ap (λ (h : History). record old { log = h }) (sym (ap (λ (k : Known). k.log) added.now));
  more = record { who = who; what = adds added.at } ∷ [];
  own = All-cons (λ (entry : Entry). entry.who ≡ who) _ [] refl (All-nil (λ (entry : Entry). entry.who ≡ who));
  log =
      ap (λ (k : Known). k.log) added.now
      ∙ ap (λ (h : History). h ++ record { who = who; what = adds added.at } ∷ []) (still old added.at alone added.after);
}

-- a switch added its entry, whatever came of it
pub went-switched : {U : Type 0} (content : U → Content) (old new : Known) (who : ℕ) (task : Task) (switched : Switched U) → old.side ≡ sole
    → IsSwitched content old new who task switched → WentOn who old new
went-switched content old new who task (switch.Done place sum before) alone is = went-added old new who _ _ alone is
went-switched content old new who task (switch.AreaFull place need free) alone is = went-added old new who _ _ alone is
went-switched content old new who task (switch.Cancelled place killed) alone is = went-added old new who _ _ alone is

-- ---- sessions

-- a line adds entries of its session
pub went-played : (s : Stmt) (before after : Kept) (old new : Known) (reply : Reply) → before.who ≡ 1 → old.side ≡ sole
    → IsStatementPlayed s before old reply after new → WentOn 1 old new
went-played s before after old new reply one alone played =
    let own = played-own s before after old new reply alone played in
    record { kept = played.known; more = own.more; own = subst (λ (n : ℕ). All (λ (entry : Entry). entry.who ≡ n) own.more) one own.own; log = own.log }

-- a session agrees still when entries of another number came
pub agrees-went : (who : ℕ) (session : Kept) (old new : Known) → WentOn who old new → (who == session.who) ≡ false → Agrees session old
    → Agrees session new
agrees-went who session old new went apart =
    agrees-own who session old new (record { more = went.more; own = went.own; log = went.log }) apart
