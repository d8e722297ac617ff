-- How a line of the background goes by its plan, exit by exit.
use Rattle.std.proofs.Common.{◌≡◌, ℕ, ◌+◌, Bool, true, false, List, [], ◌∷◌, Option, Some, None, refl, sym, ap, ◌∙◌, subst, append-nil}
use Rattle.std.specs.Option.{option_map}
use Rattle.im_history.specs.declared.entry.What.{What}
use Rattle.im_history.specs.declared.entry.What.TheVariants.{Cancel}
use Rattle.im_history.specs.declared.task.Held.{Held}
use Rattle.im_history.specs.declared.task.Task.{Task}
use Rattle.im_history.specs.History.{History}
use Rattle.im_history.specs.Legal.{IsLawful, IsLegal}
use Rattle.im_history.proofs.Laws.{IsLegal-pop}
use Rattle.im_plan.specs.Plan.{Plan, End, Turn}
use Rattle.im_reach.specs.Rests.{Counted, Onward}
use Rattle.im_reach.specs.Sides.{Found, Known, speaks}
use Rattle.im_reach.proofs.RestLaws.{keeps-counted}
use Rattle.im_reach.proofs.RestLaws as laws
use Rattle.im_statements.specs.Background.{Answered, CommandOutcome, command_amends, stray}
use Rattle.im_statements.specs.Turns.{memory_reply}
use Rattle.im_worker.specs.Background.{Agrees, Kept, Ready, tasks_of}
use Rattle.im_worker.specs.inner.Rests.{IsRest, Went}
use Rattle.im_worker.specs.inner.Standing.{Stands}
use Rattle.im_worker.proofs.StandingLaws.{stands-after, stray-last, stray-none}

-- ---- others

pub went-found : (old new : Known) (P : History → Type 0) → Found old new P → Went old new
went-found = laws.went-found Counted keeps-counted

pub went-here : (old : Known) → Went old old
went-here = laws.went-here Counted keeps-counted

pub limits-same : (old new : Known) → Counted old new → new.limits ≡ old.limits
limits-same old new now = ap (λ (s : Known). s.limits) now

-- the builds stay so when others go on
pub stands-went : (old new : Known) (who : ℕ) (builds : List Ready) (more : List Task) → speaks old.side who ≡ true → IsLawful new.limits new.log → Went old new
    → Stands who builds more old.log → Stands who builds more new.log
stands-went old new who builds more mine lawful went =
    stands-after new.limits old.side who builds more old.log new.log mine lawful.legal went.after

-- ---- agreement

pub agrees-stands : (kept : Kept) (now : Known) → Agrees kept now → Stands kept.who kept.builds [] now.log
agrees-stands kept now agrees = record { tasks = sym agrees.builds ∙ sym (append-nil (tasks_of kept.builds)); own = agrees.own; ready = agrees.ready }

pub stands-agrees : (kept : Kept) (now : Known) → Stands kept.who kept.builds [] now.log → Agrees kept now
stands-agrees kept now stands = record { builds = sym (append-nil (tasks_of kept.builds)) ∙ sym stands.tasks; own = stands.own; ready = stands.ready }

-- ---- turns

-- the line is at its end
pub rest-end : (who k : ℕ) (builds : List Task) (old : Known) (plan : Plan CommandOutcome) (outcome : CommandOutcome) → plan ≡ End outcome
    → IsRest who k builds old plan outcome old
rest-end who k builds = laws.rest-end Counted keeps-counted who (command_amends who builds) k

-- others came, and a call may have begun no build
pub rest-went : (who k : ℕ) (builds : List Task) (old middle new : Known) (plan : Plan CommandOutcome) (outcome : CommandOutcome) → Went old middle
    → IsRest who k builds middle plan outcome new → IsRest who k builds old plan outcome new
rest-went who k builds = laws.rest-went Counted keeps-counted who (command_amends who builds) k

-- a turn that added nothing
pub rest-nothing : (who k : ℕ) (builds : List Task) (old middle new : Known) (decides : Bool) (adds : History → Option What)
    (on : History → Plan CommandOutcome) (outcome : CommandOutcome) → Went old middle → adds middle.log ≡ None
    → IsRest who k builds middle (on middle.log) outcome new → IsRest who k builds old (Turn decides adds on) outcome new
rest-nothing who k builds = laws.rest-nothing Counted keeps-counted who (command_amends who builds) k

-- a turn whose entry was made, and that does not decide
pub rest-adds : (who k : ℕ) (builds : List Task) (old middle new : Known) (adds : History → Option What) (what : What) (at : History)
    (on : History → Plan CommandOutcome) (outcome : CommandOutcome) → Onward who old middle what at → adds at ≡ Some what
    → IsRest who (k + 1) builds middle (on at) outcome new → IsRest who k builds old (Turn false adds on) outcome new
rest-adds who k builds = laws.rest-adds Counted keeps-counted who (command_amends who builds) k

-- a turn whose entry was made, behind which the line is at its end
pub rest-last : (who k : ℕ) (builds : List Task) (old new : Known) (decides : Bool) (adds : History → Option What) (what : What) (at : History)
    (on : History → Plan CommandOutcome) (outcome : CommandOutcome) → Onward who old new what at → adds at ≡ Some what → on at ≡ End outcome
    → IsRest who k builds old (Turn decides adds on) outcome new
rest-last who k builds = laws.rest-last Counted keeps-counted who (command_amends who builds) k

-- ---- out of memory

-- what the amendment cancels, and how the line ends behind it
abbrev cancels : ℕ → List Task → History → Option What
cancels who builds at = option_map (λ (held : Held). Cancel held.task.id false) (stray at who builds)

abbrev out : ℕ → List Task → CommandOutcome
out k builds = Answered (memory_reply k) builds

-- all builds that are not ended are held
pub rest-lacks : (who k : ℕ) (builds : List Ready) (old new : Known) (plan : Plan CommandOutcome) → Went old new → Stands who builds [] new.log
    → IsRest who k (tasks_of builds) old plan (Answered (memory_reply k) (tasks_of builds)) new
rest-lacks who k builds old new plan went stands =
    laws.rest-lacks Counted keeps-counted who (command_amends who (tasks_of builds)) k old new plan (out k (tasks_of builds))
    (laws.decided-nothing Counted keeps-counted who old new new false (cancels who (tasks_of builds)) (λ at. End (out k (tasks_of builds)))
    (out k (tasks_of builds)) went (stray-none new.log who builds stands)
    (laws.decided-end Counted keeps-counted who new (End (out k (tasks_of builds))) (out k (tasks_of builds)) refl))

-- the build that began last is not, and it was cancelled
pub rest-drops : (who k : ℕ) (builds : List Ready) (task : Task) (old new : Known) (last : History) (plan : Plan CommandOutcome)
    → Onward who old new (Cancel task.id false) last → IsLegal new.limits new.log → Stands who builds (task ∷ []) last
    → IsRest who k (tasks_of builds) old plan (Answered (memory_reply k) (tasks_of builds)) new
rest-drops who k builds task old new last plan onward legal stands =
    laws.rest-lacks Counted keeps-counted who (command_amends who (tasks_of builds)) k old new plan (out k (tasks_of builds))
    (laws.decided-adds Counted keeps-counted who old new new false (cancels who (tasks_of builds)) (Cancel task.id false) last
    (λ at. End (out k (tasks_of builds))) (out k (tasks_of builds)) onward (stray-last new.limits last who builds task before stands)
    (laws.decided-end Counted keeps-counted who new (End (out k (tasks_of builds))) (out k (tasks_of builds)) refl))
  where
    before : IsLegal new.limits last
    before =
        (IsLegal-pop new.limits last (record { who = who; what = Cancel task.id false })
        (subst (IsLegal new.limits) (ap (λ (s : Known). s.log) onward.now) legal)).0
