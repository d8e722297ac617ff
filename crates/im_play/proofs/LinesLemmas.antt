-- Lines that are played one after the other come to what the machine plays.
use Rattle.std.proofs.Common.{◌≡◌, ℕ, ◌+◌, ◌<◌, ◌≤◌, List, [], ◌∷◌, ◌++◌, Global, Vec, length, drop, get_or, Option, Some, None, refl, sym, ap, ◌∙◌, subst, arith, append-nil, append_assoc}
use Rattle.std.proofs.lemmas.List.{drop_all, drop_more}
use Rattle.im_history.specs.declared.limits.Limits.{Limits}
use Rattle.im_play.specs.Between.{Answers, IsBetween, machine_of}
use Rattle.im_play.specs.Machine.{Comes, Machine, put}
use Rattle.im_play.specs.Requests.{demand_of, demands_of}
use Rattle.im_play.proofs.ComesLaws.{asked-number, line_first}
use Rattle.im_reach.specs.Sides.{Known}
use Rattle.im_replies.specs.declared.reply.Reply.{Reply}
use Rattle.im_script.specs.declared.line.Line.{Line}
use Rattle.im_session.specs.Sessions.{Kept}
use Rattle.im_worker.specs.Background as background

-- of these lines all but the rest are played, with these replies so far: whatever the rest comes to from here, all come to the replies
-- so far and then the rest's
pub record AreSoFar (area : ℕ) (lines rest : List Line) (start now : Machine) (answers : List (ℕ × Reply)) (first steps : ℕ) : Type 0 where
  pub on : (more : List (ℕ × Reply)) (end : Machine) (last : ℕ) → Comes now (demands_of area rest) more end steps last
      → Comes start (demands_of area lines) (answers ++ more) end first last

-- the reply of a line, where it has one, after those of others
put-last : (number : ℕ) (answers more : List (ℕ × Reply)) (reply : Option Reply)
    → (answers ++ put number reply []) ++ more ≡ answers ++ put number reply more
put-last number answers more None = ap (λ (so_far : List (ℕ × Reply)). so_far ++ more) (append-nil answers)
put-last number answers more (Some reply) = append_assoc answers ((number, reply) ∷ []) more

-- it was pushed behind theirs, where there was one
pub put-some : (number : ℕ) (answers : List (ℕ × Reply)) (after pushed : Vec (ℕ × Reply) Global) (reply : Option Reply) (one : Reply)
    → reply ≡ Some one → after ≡ pushed → pushed.items ≡ answers ++ (number, one) ∷ [] → after.items ≡ answers ++ put number reply []
put-some number answers after pushed reply one is same more =
    ap (λ (replies : Vec (ℕ × Reply) Global). replies.items) same
    ∙ (more ∙ ap (λ (told : Option Reply). answers ++ put number told []) (sym is))

pub put-none : (number : ℕ) (after before : Vec (ℕ × Reply) Global) (reply : Option Reply) → reply ≡ None → after ≡ before
    → after.items ≡ before.items ++ put number reply []
put-none number after before reply is same =
    ap (λ (replies : Vec (ℕ × Reply) Global). replies.items) same
    ∙ (sym (append-nil before.items) ∙ ap (λ (told : Option Reply). before.items ++ put number told []) (sym is))

-- one more line was played
AreSoFar-next : (area : ℕ) (lines behind : List Line) (start old new : Machine) (answers : List (ℕ × Reply)) (first before after : ℕ) (line : Line)
    (reply : Option Reply) → AreSoFar area lines (line ∷ behind) start old answers first before → Answers area before after line old reply new
    → AreSoFar area lines behind start new (answers ++ put line.number reply []) first after
AreSoFar-next area lines behind start old new answers first before after line reply so_far answered = record {
  on = λ more end last comes.
      subst (λ (all : List (ℕ × Reply)). Comes start (demands_of area lines) all end first last) (sym (put-last line.number answers more reply))
      (so_far.on (put line.number reply more) end last
      (line_first (demands_of area behind) more end before after last old new (demand_of area line) line.number reply
      (asked-number area line.number line.kind) answered.answered comes));
}

-- ---- the loop

-- the lines before this place are played, and those from it on are left
pub record IsGoing (lines : List Line) (at : ℕ) (old : Known) (start : Machine) (now : Known) (sessions : List Kept) (kept : background.Kept)
    (answers : List (ℕ × Reply)) (first steps : ℕ) : Type 0 where
  pub between : IsBetween now sessions kept
  pub limits : now.limits ≡ old.limits
  pub so_far : AreSoFar old.limits.area lines (drop at lines) start (machine_of now sessions kept) answers first steps

pub IsGoing-start : (lines : List Line) (old : Known) (sessions : List Kept) (kept : background.Kept) (answers : List (ℕ × Reply)) (steps : ℕ)
    → answers ≡ [] → IsBetween old sessions kept
    → IsGoing lines 0 old (machine_of old sessions kept) old sessions kept answers steps steps
IsGoing-start lines old sessions kept answers steps none between = record {
  between = between;
  limits = refl;
  so_far = record {
    on = λ more end last comes.
        subst (λ (so_far : List (ℕ × Reply)).
        Comes (machine_of old sessions kept) (demands_of old.limits.area lines) (so_far ++ more) end steps last)
        (sym none) comes;
  };
}

pub IsGoing-next : (lines : List Line) (at : ℕ) (old : Known) (start : Machine) (now new : Known) (sessions after : List Kept) (kept behind : background.Kept)
    (answers put_behind : List (ℕ × Reply)) (first steps later : ℕ) (line : Line) (reply : Option Reply)
    → at < length lines → line ≡ get_or lines at line → IsGoing lines at old start now sessions kept answers first steps
    → IsBetween new after behind → new.limits ≡ now.limits
    → Answers now.limits.area steps later line (machine_of now sessions kept) reply (machine_of new after behind)
    → put_behind ≡ answers ++ put line.number reply []
    → IsGoing lines (at + 1) old start new after behind put_behind first later
IsGoing-next lines at old start now new sessions after kept behind answers put_behind first steps later line reply inside is going between limits answered
    put_is = record {
      between = between;
      limits = limits ∙ going.limits;
      so_far =
          subst (λ (all : List (ℕ × Reply)).
          AreSoFar old.limits.area lines (drop (at + 1) lines) start (machine_of new after behind) all first later) (sym put_is)
          (AreSoFar-next old.limits.area lines (drop (at + 1) lines) start (machine_of now sessions kept)
          (machine_of new after behind) answers first steps later line reply
          (subst (λ (rest : List Line). AreSoFar old.limits.area lines rest start (machine_of now sessions kept) answers first steps) rest_is going.so_far)
          (subst (λ (l : Limits). Answers l.area steps later line (machine_of now sessions kept) reply (machine_of new after behind)) going.limits answered));
    }
  where
    rest_is : drop at lines ≡ line ∷ drop (at + 1) lines
    rest_is = drop_more lines at line inside ∙ ap (λ (l : Line). l ∷ drop (at + 1) lines) (sym is)

pub IsGoing-end : (lines : List Line) (at : ℕ) (old : Known) (start : Machine) (now : Known) (sessions : List Kept) (kept : background.Kept)
    (answers : List (ℕ × Reply)) (first steps : ℕ) → length lines ≤ at → IsGoing lines at old start now sessions kept answers first steps
    → Comes start (demands_of old.limits.area lines) answers (machine_of now sessions kept) first steps
IsGoing-end lines at old start now sessions kept answers first steps past going =
    subst (λ (all : List (ℕ × Reply)). Comes start (demands_of old.limits.area lines) all (machine_of now sessions kept) first steps)
    (append-nil answers)
    (going.so_far.on [] (machine_of now sessions kept) steps
    (subst (λ (rest : List Line).
    Comes (machine_of now sessions kept) (demands_of old.limits.area rest) [] (machine_of now sessions kept) steps steps)
    (sym (drop_all at lines past))
    (refl, refl, omega arith)))
