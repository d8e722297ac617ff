-- The first members of a history, and of a longer one.
use Rattle.std.proofs.Common.{◌≡◌, ℕ, ◌+◌, ◌-◌, ◌≤◌, List, [], ◌∷◌, ◌++◌, length, take, drop, Some, slice_get, sym, ap, ◌∙◌, subst, arith, append-nil, append_assoc, length-append}
use Rattle.std.proofs.lemmas.List.{take_all, take-append-drop, take-append-le}
use Rattle.std.proofs.Math.Seq.{take-append_seam}
use Rattle.std.proofs.lemmas.Option.{slice_get_within}
use Rattle.im_history.specs.declared.entry.Entry.{Entry}
use Rattle.im_history.specs.declared.limits.Limits.{Limits}
use Rattle.im_history.specs.declared.member.Member.{Member}
use Rattle.im_history.specs.Commits.{member_at, member_by, members, scn}
use Rattle.im_history.specs.History.{History}
use Rattle.im_history.specs.Legal.{IsLawful}
use Rattle.im_history.proofs.FetchedLaws.{take-got}
use Rattle.im_history.proofs.Laws.{length-members, members-push}
use Rattle.im_history.proofs.RowLaws.{each_longer}
use Rattle.im_plan.specs.Goes.{After}
use Rattle.im_reach.specs.Sides.{Found, Known}
use Rattle.im_feed.specs.Lawful.{AreLawful, IsBeginning}
use Rattle.im_feed.specs.Sent.{AreFirst}

longer-push : (h longer : History) (entry : Entry) → IsBeginning (members h) (members longer) → IsBeginning (members h) (members (longer ++ entry ∷ []))
longer-push h longer entry begins = record {
  rest = begins.rest ++ member_by longer entry.who entry.what;
  is =
      members-push longer entry
      ∙
      (ap (λ (l : List Member). l ++ member_by longer entry.who entry.what) begins.is
      ∙ append_assoc (members h) begins.rest (member_by longer entry.who entry.what));
}

-- the members of a longer history are the old ones and then others
pub members-longer : (h k : History) → IsBeginning (members h) (members (h ++ k))
members-longer h k =
    each_longer (λ longer. IsBeginning (members h) (members longer)) (λ longer entry begins. longer-push h longer entry begins) h k
    (record { rest = []; is = sym (append-nil (members h)) })

-- the first members of a history are those of a longer one
pub first-longer : (sent : ℕ) (pushed : List Member) (h k : History) → AreFirst sent pushed h → AreFirst sent pushed (h ++ k)
first-longer sent pushed h k first =
    let on = members-longer h k in
    let reached = first.reached in
    let count = length-members h in
    let count' = length-members (h ++ k) in
    let both = ap (λ (l : List Member). length l) on.is in
    let sum = length-append (members h) on.rest in
    let within : sent ≤ length (members h) = omega (arith, reached, count) in
    record {
      are = first.are ∙ (sym (take-append-le sent (members h) on.rest within) ∙ ap (λ (l : List Member). take sent l) (sym on.is));
      reached = omega (arith, reached, count, count', both, sum);
    }

pub first-later : (others : History → Type 0) (sent : ℕ) (pushed : List Member) (old new : History) → After others old new → AreFirst sent pushed old
    → AreFirst sent pushed new
first-later others sent pushed old new after first = rw after.log (first-longer sent pushed old after.between first)

-- the next member, and then there is one more
pub first-next : (sent : ℕ) (pushed : List Member) (member : Member) (log : History) → AreFirst sent pushed log
    → member_at log (sent + 1) ≡ Some member → AreFirst (sent + 1) (pushed ++ member ∷ []) log
first-next sent pushed member log first next =
    let back : sent + 1 - 1 ≡ sent = omega arith in
    let got : slice_get (members log) sent ≡ Some member = ap (λ (n : ℕ). slice_get (members log) n) (sym back) ∙ next in
    let within = slice_get_within (members log) sent member got in
    let count = length-members log in
    record {
      are = ap (λ (l : List Member). l ++ member ∷ []) first.are ∙ sym (take-got (members log) sent member got);
      reached = omega (arith, within, count);
    }

-- the first members of a lawful history are lawful
pub lawful-first : (limits : Limits) (log : History) (sent : ℕ) (pushed : List Member) → IsLawful limits log → AreFirst sent pushed log → AreLawful pushed
lawful-first limits log sent pushed lawful first = record {
  limits = limits;
  history = log;
  lawful = lawful;
  begins = record {
    rest = drop sent (members log);
    is = sym (take-append-drop sent (members log)) ∙ ap (λ (l : List Member). l ++ drop sent (members log)) (sym first.are);
  };
}

-- the member that was found is the next one
pub first-got : (old new : Known) (sent : ℕ) (pushed : List Member) (member : Member) → AreFirst sent pushed old.log
    → Found old new (λ at. member_at at (sent + 1) ≡ Some member) → AreFirst (sent + 1) (pushed ++ member ∷ []) new.log
first-got old new sent pushed member first found =
    let first' = first-later _ sent pushed old.log found.at found.after first in
    subst (AreFirst (sent + 1) (pushed ++ member ∷ [])) (sym (ap (λ (k : Known). k.log) found.now)) (first-next sent pushed member found.at first' found.fact)

-- and it may be pushed
pub first-found : (old new : Known) (sent : ℕ) (pushed : List Member) (member : Member) (P : History → Type 0) → AreFirst sent pushed old.log
    → Found old new (λ at. (member_at at (sent + 1) ≡ Some member) × P at) → AreFirst (sent + 1) (pushed ++ member ∷ []) new.log
first-found old new sent pushed member P first found =
    first-got old new sent pushed member first (record { at = found.at; after = found.after; now = found.now; fact = found.fact.0 })

-- ---- what begins the members of a history

-- what begins a list is its first elements
pub begins-first : (popped : List Member) (log : History) → IsBeginning popped (members log) → AreFirst (length popped) popped log
begins-first popped log begins =
    let count = length-members log in
    let both = ap (λ (l : List Member). length l) begins.is in
    let sum = length-append popped begins.rest in
    record {
      are = sym (ap (λ (l : List Member). take (length popped) l) begins.is ∙ take-append_seam popped begins.rest);
      reached = omega (arith, count, both, sum);
    }

-- what begins the first members begins all
pub first-begins : (sent : ℕ) (popped pushed : List Member) (log : History) → AreFirst sent pushed log → IsBeginning popped pushed → IsBeginning popped (members log)
first-begins sent popped pushed log first begins = record {
  rest = begins.rest ++ drop sent (members log);
  is =
      sym (take-append-drop sent (members log))
      ∙
      (ap (λ (l : List Member). l ++ drop sent (members log)) (sym first.are ∙ begins.is)
      ∙ append_assoc popped begins.rest (drop sent (members log)));
}

pub popped-first : (sent : ℕ) (popped pushed : List Member) (log more : History) → AreFirst sent pushed log → IsBeginning popped pushed
    → AreFirst (length popped) popped (log ++ more)
popped-first sent popped pushed log more first begins =
    first-longer (length popped) popped log more (begins-first popped log (first-begins sent popped pushed log first begins))

pub popped-all : (sent : ℕ) (popped pushed : List Member) (log : History) → AreFirst sent pushed log → sent ≡ scn log → popped ≡ pushed → popped ≡ members log
popped-all sent popped pushed log first all same =
    same ∙ (first.are ∙ (ap (λ (n : ℕ). take n (members log)) (all ∙ sym (length-members log)) ∙ take_all (length (members log)) (members log) (omega arith)))
