-- Where the commits of a history are, and the writes of each session.
use Rattle.std.proofs.Common.{◌≡◌, ℕ, zero, suc, ◌+◌, ◌-◌, ◌==◌, ◌<◌, ◌≤◌, Bool, true, false, List, [], ◌∷◌, ◌++◌, length, take, reverse, Some, All, slice_get, slice_index_or, if◌then◌else◌, refl, sym, ap, subst, ◌∙◌, ⊎_elim, arith, append-nil, append_assoc, length-append, le_refl}
use Rattle.std.proofs.lemmas.Bool.{cases_lt, false≢true}
use Rattle.std.proofs.lemmas.Bool.Decides.{nat_tests}
use Rattle.std.proofs.lemmas.List.{length_push, length-take-le, reverse-append, take_all, take-append-le}
use Rattle.std.proofs.lemmas.List.Elements.{All-head, All-tail}
use Rattle.im_values.specs.declared.limits.TheConstants.{NUMBERS}
use Rattle.im_values.specs.declared.content.Content.{Content as Value}
use Rattle.im_values.specs.declared.schema.Column.{Column}
use Rattle.im_history.specs.declared.change.Change.{Change}
use Rattle.im_history.specs.declared.entry.Entry.{Entry}
use Rattle.im_history.specs.declared.entry.What.{What}
use Rattle.im_history.specs.declared.entry.What.TheVariants.{Create, Add, Write, Commit, Rollback}
use Rattle.im_history.specs.declared.member.Member.{Member}
use Rattle.im_history.specs.declared.member.Member.TheVariants as member
use Rattle.im_history.specs.declared.places.Places.{Places}
use Rattle.im_history.specs.Commits.{commits, member_by, members, moves_clock, scn, writes, writes_after, written, written_by}
use Rattle.im_history.specs.Grid.{Grid}
use Rattle.im_history.specs.History.{History, replay}
use Rattle.im_history.specs.Puts.{all_changes}
use Rattle.im_history.specs.Transactions.{pending, pending_after}
use Rattle.im_history.specs.inner.Places.{ArePlaces, AreNoted, AreRoomier, commit_places, head_of, last_write, last_write_after, place_by}
use Rattle.im_history.proofs.Laws.{length-members, members-push, pending-push, writes-push, written-push}
use Rattle.im_history.proofs.Replay.{replay-push}
use Rattle.im_history.proofs.RowLaws.{each_history}

-- ---- reading lists

at-before : {X : Type 0} (xs ys : List X) (i : ℕ) (other : X) → i < length xs → slice_index_or (xs ++ ys) i other ≡ slice_index_or xs i other
at-before [] ys i other within = absurd (omega (arith, within))
at-before (x ∷ xs) ys zero other within = refl
at-before (x ∷ xs) ys (suc i) other within = at-before xs ys i other (omega (arith, within))

at-end : {X : Type 0} (xs : List X) (y other : X) → slice_index_or (xs ++ y ∷ []) (length xs) other ≡ y
at-end [] y other = refl
at-end (x ∷ xs) y other = at-end xs y other

got-before : {X : Type 0} (xs ys : List X) (i : ℕ) → i < length xs → slice_get (xs ++ ys) i ≡ slice_get xs i
got-before [] ys i within = absurd (omega (arith, within))
got-before (x ∷ xs) ys zero within = refl
got-before (x ∷ xs) ys (suc i) within = got-before xs ys i (omega (arith, within))

got-end : {X : Type 0} (xs : List X) (y : X) → slice_get (xs ++ y ∷ []) (length xs) ≡ Some y
got-end [] y = refl
got-end (x ∷ xs) y = got-end xs y

got-within : {X : Type 0} (xs : List X) (i : ℕ) (x : X) → slice_get xs i ≡ Some x → i < length xs
got-within [] i x is = absurd cc
got-within (first ∷ xs) zero x is = omega arith
got-within (first ∷ xs) (suc i) x is = let rest = got-within xs i x is in omega (arith, rest)

-- an entry of a history
record Got (h : History) (place : ℕ) : Type 0 where
  pub entry : Entry
  pub is : slice_get h place ≡ Some entry

got-taken : {X : Type 0} (xs : List X) (n i : ℕ) (x : X) → slice_get (take n xs) i ≡ Some x → slice_get xs i ≡ Some x
got-taken xs zero i x is = absurd cc
got-taken [] (suc n) i x is = absurd cc
got-taken (first ∷ xs) (suc n) zero x is = is
got-taken (first ∷ xs) (suc n) (suc i) x is = got-taken xs n i x is

taken-within : {X : Type 0} (xs : List X) (n i : ℕ) (x : X) → slice_get (take n xs) i ≡ Some x → i < n
taken-within xs zero i x is = absurd cc
taken-within [] (suc n) i x is = absurd cc
taken-within (first ∷ xs) (suc n) zero x is = omega arith
taken-within (first ∷ xs) (suc n) (suc i) x is = let rest = taken-within xs n i x is in omega (arith, rest)

take-taken : {X : Type 0} (xs : List X) (n i : ℕ) → i ≤ n → take i (take n xs) ≡ take i xs
take-taken xs n zero within = refl
take-taken xs zero (suc i) within = absurd (omega (arith, within))
take-taken [] (suc n) (suc i) within = refl
take-taken (x ∷ xs) (suc n) (suc i) within = ap (λ (l : List _). x ∷ l) (take-taken xs n i (omega (arith, within)))

same-some : {X : Type 0} (x y : X) → Some x ≡ Some y → x ≡ y
same-some x y is = cc

-- the history before an entry that is the last one
before-last : (h : History) (entry : Entry) → take (length h) (h ++ entry ∷ []) ≡ h
before-last h entry = take-append-le (length h) h (entry ∷ []) (le_refl _) ∙ take_all (length h) h (le_refl _)

-- ---- one more entry

pub last_write-push : (h : History) (entry : Entry) (who : ℕ)
    → last_write (h ++ entry ∷ []) who ≡ (if entry.who == who then last_write_after (length h) (last_write h who) entry.what else last_write h who)
unfolding last_write
last_write-push h entry who =
    replay-push (λ before so_far e. if e.who == who then last_write_after (length before) so_far e.what else so_far) 0 h entry

commit_places-push : (h : History) (entry : Entry) → commit_places (h ++ entry ∷ []) ≡ commit_places h ++ place_by (length h) entry.what
unfolding commit_places
commit_places-push h entry = replay-push (λ before so_far e. so_far ++ place_by (length before) e.what) [] h entry

-- the places of the empty history
pub ArePlaces-nil : (places : Places) → places.links.items ≡ [] → places.commits.items ≡ []
    → ((who : ℕ) → head_of places.heads who ≡ 0) → ArePlaces places []
unfolding commit_places last_write replay
ArePlaces-nil places links commits heads = record {
  long = ap length links;
  commits = commits;
  heads = λ who small. heads who;
  links = λ place entry is small. absurd cc;
}

-- with more room they are the same
pub ArePlaces-roomier : (old new : Places) (h : History) → ArePlaces old h → AreRoomier old new → ArePlaces new h
ArePlaces-roomier old new h are same = record {
  long = ap length same.links ∙ are.long;
  commits = same.commits ∙ are.commits;
  heads = λ who small. ap (λ (heads : List ℕ). head_of heads who) same.heads ∙ are.heads who small;
  links = λ place entry is small. ap (λ (links : List ℕ). head_of links place) same.links ∙ are.links place entry is small;
}

-- and with one more entry
pub ArePlaces-push : (old new : Places) (h : History) (entry : Entry) → ArePlaces old h → AreNoted old new entry.who entry.what
    → ArePlaces new (h ++ entry ∷ [])
ArePlaces-push old new h entry are noted = record {
  long =
      ap length noted.links
      ∙ (length_push old.links.items (head_of old.heads entry.who)
      ∙ (ap (λ (n : ℕ). n + 1) are.long ∙ sym (length_push h entry)));
  commits =
      rw (commit_places-push h entry, ← are.commits, ← are.long) noted.commits;
  heads = λ who small. rw (last_write-push h entry who, ← are.heads who small, ← are.long) (noted.heads who small);
  links = λ place e is small. ⊎_elim (λ (within : place < length h). old_link place e within is small)
      (λ (past : length h ≤ place). new_link place e past is small) (cases_lt place (length h));
}
  where
    old_link : (place : ℕ) (e : Entry) → place < length h → slice_get (h ++ entry ∷ []) place ≡ Some e → e.who < NUMBERS
        → head_of new.links.items place ≡ last_write (take place (h ++ entry ∷ [])) e.who
    old_link place e within is small =
        let long = are.long in
        ap (λ (l : List ℕ). head_of l place) noted.links
        ∙ (at-before old.links.items (head_of old.heads entry.who ∷ []) place 0 (omega (arith, within, long))
        ∙ (are.links place e (sym (got-before h (entry ∷ []) place within) ∙ is) small
        ∙ ap (λ (b : History). last_write b e.who) (sym (take-append-le place h (entry ∷ []) (omega (arith, within))))))

    new_link : (place : ℕ) (e : Entry) → length h ≤ place → slice_get (h ++ entry ∷ []) place ≡ Some e → e.who < NUMBERS
        → head_of new.links.items place ≡ last_write (take place (h ++ entry ∷ [])) e.who
    new_link place e past is small =
        let within = got-within (h ++ entry ∷ []) place e is in
        let long = length_push h entry in
        let here : place ≡ length h = omega (arith, within, long, past) in
        let same : entry ≡ e = same-some entry e (sym (got-end h entry) ∙ (ap (slice_get (h ++ entry ∷ [])) (sym here) ∙ is)) in
        let links = are.long in
        rw here
        (ap (λ (l : List ℕ). head_of l (length h)) noted.links
        ∙ (ap (head_of (old.links.items ++ head_of old.heads entry.who ∷ [])) (sym links)
        ∙ (at-end old.links.items (head_of old.heads entry.who) 0
        ∙ (ap (λ (x : Entry). head_of old.heads x.who) same
        ∙ (are.heads e.who small ∙ ap (λ (b : History). last_write b e.who) (sym (before-last h entry)))))))

-- ---- the commits

length-place_by : (place : ℕ) (b : Bool) → length (if b then place ∷ [] else []) ≡ (if b then 1 else 0)
length-place_by place true = refl
length-place_by place false = refl

length-written_by : (h : History) (who place : ℕ) (what : What) → length (written_by h who what) ≡ length (place_by place what)
length-written_by h who place Commit = refl
length-written_by h who place (Create name schema grid) = refl
length-written_by h who place (Add table column default) = refl
length-written_by h who place _ = refl

length-member_by : (h : History) (who place : ℕ) (what : What) → length (member_by h who what) ≡ length (place_by place what)
length-member_by h who place Commit = refl
length-member_by h who place (Create name schema grid) = refl
length-member_by h who place (Add table column default) = refl
length-member_by h who place _ = refl

-- there are as many places as members, and as many numbers of writes
record AreAsMany (h : History) : Type 0 where
  pub members : length (members h) ≡ length (commit_places h)
  pub written : length (written h) ≡ length (commit_places h)

as_many-nil : AreAsMany []
unfolding members written commit_places replay
as_many-nil = record { members = refl; written = refl }

as_many : (h : History) → AreAsMany h
as_many = each_history AreAsMany as_many-nil
    (λ h entry so_far. record {
      members =
          rw (
            members-push h entry,
            commit_places-push h entry,
            length-append (members h) (member_by h entry.who entry.what),
            length-append (commit_places h) (place_by (length h) entry.what),
            length-member_by h entry.who (length h) entry.what,
            so_far.members,
          ) refl;
      written =
          rw (
            written-push h entry,
            commit_places-push h entry,
            length-append (written h) (written_by h entry.who entry.what),
            length-append (commit_places h) (place_by (length h) entry.what),
            length-written_by h entry.who (length h) entry.what,
            so_far.written,
          ) refl;
    })

-- there are as many as commits
pub length-places : (h : History) → length (commit_places h) ≡ scn h
length-places h = sym (as_many h).members ∙ length-members h

-- the commit of this place among the commits, by the entry at that place
pub record IsCommit (h : History) (n place : ℕ) : Type 0 where
  pub within : place < length h
  pub entry : Entry
  pub is : slice_get h place ≡ Some entry
  pub moves : moves_clock entry.what ≡ true
  pub member : Member
  pub by : member_by (take place h) entry.who entry.what ≡ member ∷ []
  pub at : slice_get (members h) n ≡ Some member
  pub count : ℕ
  pub counted_by : written_by (take place h) entry.who entry.what ≡ count ∷ []
  pub counted : slice_index_or (written h) n 0 ≡ count

commit-longer : (h : History) (more : Entry) (n place : ℕ) → IsCommit h n place → IsCommit (h ++ more ∷ []) n place
commit-longer h more n place is =
    let within = is.within in
    let before : take place (h ++ more ∷ []) ≡ take place h = take-append-le place h (more ∷ []) (omega (arith, within)) in
    let inside = got-within (members h) n is.member is.at in
    let many = as_many h in
    let members_many = many.members in
    let written_many = many.written in
    let longer = length_push h more in
    record {
      within = omega (arith, within, longer);
      entry = is.entry;
      is = got-before h (more ∷ []) place within ∙ is.is;
      moves = is.moves;
      member = is.member;
      by = ap (λ (b : History). member_by b is.entry.who is.entry.what) before ∙ is.by;
      at = ap (λ (l : List Member). slice_get l n) (members-push h more) ∙ (got-before (members h) (member_by h more.who more.what) n inside ∙ is.at);
      count = is.count;
      counted_by = ap (λ (b : History). written_by b is.entry.who is.entry.what) before ∙ is.counted_by;
      counted =
          ap (λ (l : List ℕ). slice_index_or l n 0) (written-push h more)
          ∙ (at-before (written h) (written_by h more.who more.what) n 0 (omega (arith, inside, members_many, written_many)) ∙ is.counted);
    }

-- what an entry that commits something adds
record Commits (h : History) (entry : Entry) : Type 0 where
  pub member : Member
  pub by : member_by h entry.who entry.what ≡ member ∷ []
  pub count : ℕ
  pub counted_by : written_by h entry.who entry.what ≡ count ∷ []

commits-one : (h : History) (entry : Entry) (what : What) → entry.what ≡ what → moves_clock what ≡ true → Commits h entry
commits-one h entry Commit is moves = record {
  member = member.Changes (pending h entry.who);
  by = ap (member_by h entry.who) is;
  count = writes h entry.who;
  counted_by = ap (written_by h entry.who) is;
}
commits-one h entry (Create name schema grid) is moves = record {
  member = member.Create name schema grid;
  by = ap (member_by h entry.who) is;
  count = 0;
  counted_by = ap (written_by h entry.who) is;
}
commits-one h entry (Add table column default) is moves = record {
  member = member.Add table column default;
  by = ap (member_by h entry.who) is;
  count = 0;
  counted_by = ap (written_by h entry.who) is;
}
commits-one h entry _ is moves = absurd (false≢true moves)

commit-last : (h : History) (entry : Entry) → moves_clock entry.what ≡ true → IsCommit (h ++ entry ∷ []) (length (commit_places h)) (length h)
commit-last h entry moves =
    let one = commits-one h entry entry.what refl moves in
    let many = as_many h in
    let longer = length_push h entry in
    record {
      within = omega (arith, longer);
      entry = entry;
      is = got-end h entry;
      moves = moves;
      member = one.member;
      by = ap (λ (b : History). member_by b entry.who entry.what) (before-last h entry) ∙ one.by;
      at =
          ap (λ (l : List Member). slice_get l (length (commit_places h))) (members-push h entry ∙ ap (λ (l : List Member). members h ++ l) one.by)
          ∙ (ap (slice_get (members h ++ one.member ∷ [])) (sym many.members) ∙ got-end (members h) one.member);
      count = one.count;
      counted_by = ap (λ (b : History). written_by b entry.who entry.what) (before-last h entry) ∙ one.counted_by;
      counted =
          ap (λ (l : List ℕ). slice_index_or l (length (commit_places h)) 0) (written-push h entry ∙ ap (λ (l : List ℕ). written h ++ l) one.counted_by)
          ∙ (ap (λ (n : ℕ). slice_index_or (written h ++ one.count ∷ []) n 0) (sym many.written) ∙ at-end (written h) one.count 0);
    }

abbrev AreCommits : History → Type 0
AreCommits h = (n place : ℕ) → slice_get (commit_places h) n ≡ Some place → IsCommit h n place

no_commits : AreCommits []
unfolding commit_places replay
no_commits n place is = absurd cc

more_commits : (h : History) (entry : Entry) → AreCommits h → AreCommits (h ++ entry ∷ [])
more_commits h entry are n place is =
    by (moves_clock entry.what) refl (ap (λ (l : List ℕ). slice_get l n) (sym (commit_places-push h entry)) ∙ is)
  where
    by : (b : Bool) → moves_clock entry.what ≡ b → slice_get (commit_places h ++ (if b then length h ∷ [] else [])) n ≡ Some place
        → IsCommit (h ++ entry ∷ []) n place
    by false quiet found =
        commit-longer h entry n place (are n place (ap (λ (l : List ℕ). slice_get l n) (sym (append-nil (commit_places h))) ∙ found))
    by true moves found =
        ⊎_elim
        (λ (within : n < length (commit_places h)).
        commit-longer h entry n place (are n place (sym (got-before (commit_places h) (length h ∷ []) n within) ∙ found)))
        (λ (past : length (commit_places h) ≤ n).
        let within = got-within (commit_places h ++ length h ∷ []) n place found in
        let long = length_push (commit_places h) (length h) in
        let last : n ≡ length (commit_places h) = omega (arith, within, long, past) in
        let here : length h ≡ place = same-some (length h) place
        (sym (got-end (commit_places h) (length h)) ∙ (ap (slice_get (commit_places h ++ length h ∷ [])) (sym last) ∙ found)) in
        rw (last, ← here) (commit-last h entry moves))
        (cases_lt n (length (commit_places h)))

-- each place among the commits is that of the entry that made it
pub commit-found : (h : History) (n place : ℕ) → slice_get (commit_places h) n ≡ Some place → IsCommit h n place
commit-found = each_history AreCommits no_commits more_commits

-- the commit of this place is what its entry adds
pub commit-is : (h : History) (n place : ℕ) (entry : Entry) (made : Member) → IsCommit h n place → slice_get h place ≡ Some entry
    → member_by (take place h) entry.who entry.what ≡ made ∷ [] → slice_get (members h) n ≡ Some made
commit-is h n place entry made commit is by =
    let same : commit.entry ≡ entry = same-some commit.entry entry (sym commit.is ∙ is) in
    let lists : commit.member ∷ [] ≡ made ∷ [] =
    sym commit.by ∙ (ap (λ (e : Entry). member_by (take place h) e.who e.what) same ∙ by) in
    commit.at ∙ ap (λ (list : List Member). slice_get list 0) lists

-- an entry that commits something, and is neither a Create nor an Add, is a Commit
is-commit : (what : What) → moves_clock what ≡ true
    → ((name : List ℕ) (schema : List Column) (grid : Grid) → what ≡ Create name schema grid → ⊥)
    → ((table : ℕ) (column : Column) (default : Value) → what ≡ Add table column default → ⊥) → what ≡ Commit
is-commit (Create name schema grid) moves not_create not_add = absurd (not_create name schema grid refl)
is-commit (Add table column default) moves not_create not_add = absurd (not_add table column default refl)
is-commit Commit moves not_create not_add = refl
is-commit _ moves not_create not_add = absurd (false≢true moves)

-- of a Commit the commit is what its session had pending, made of so many writes
pub record IsPending (h : History) (n place who : ℕ) : Type 0 where
  pub member : slice_get (members h) n ≡ Some (member.Changes (pending (take place h) who))
  pub count : slice_index_or (written h) n 0 ≡ writes (take place h) who

pub commit-pending : (h : History) (n place : ℕ) (entry : Entry) → IsCommit h n place → slice_get h place ≡ Some entry
    → ((name : List ℕ) (schema : List Column) (grid : Grid) → entry.what ≡ Create name schema grid → ⊥)
    → ((table : ℕ) (column : Column) (default : Value) → entry.what ≡ Add table column default → ⊥) → IsPending h n place entry.who
commit-pending h n place entry commit is not_create not_add =
    let same : commit.entry ≡ entry = same-some commit.entry entry (sym commit.is ∙ is) in
    let moves : moves_clock entry.what ≡ true = ap (λ (e : Entry). moves_clock e.what) (sym same) ∙ commit.moves in
    let what : entry.what ≡ Commit = is-commit entry.what moves not_create not_add in
    let counts : commit.count ∷ [] ≡ writes (take place h) entry.who ∷ [] =
    sym commit.counted_by
    ∙ (ap (λ (e : Entry). written_by (take place h) e.who e.what) same ∙ ap (written_by (take place h) entry.who) what) in
    record {
      member = commit-is h n place entry (member.Changes (pending (take place h) entry.who)) commit is (ap (member_by (take place h) entry.who) what);
      count = commit.counted ∙ ap (λ (list : List ℕ). slice_index_or list 0 0) counts;
    }

-- each place of a commit is there
pub commit-there : (places : Places) (h : History) (n place : ℕ) → ArePlaces places h → slice_get places.commits.items n ≡ Some place
    → IsCommit h n place
commit-there places h n place are is = commit-found h n place (ap (λ (list : List ℕ). slice_get list n) (sym are.commits) ∙ is)

pub commits-few : (places : Places) (h : History) (n : ℕ) → ArePlaces places h → 1 ≤ n → n ≤ scn h → n - 1 < length places.commits.items
commits-few places h n are first last =
    let many : length places.commits.items ≡ scn h = ap length are.commits ∙ length-places h in omega (arith, first, last, many)

-- ---- the writes of a session

-- a Write of the session stands at this place, and what is waiting is what waited before it, and its changes
pub record IsWrite (h : History) (who place : ℕ) (waiting : List Change) (count : ℕ) : Type 0 where
  pub changes : List Change
  pub is : slice_get h place ≡ Some (record { who = who; what = Write changes })
  pub told : waiting ≡ pending (take place h) who ++ changes
  pub counted : count ≡ writes (take place h) who + 1

-- the last pending write, by its place from 1, or none is pending
pub record IsLast (h : History) (who at : ℕ) (waiting : List Change) (count : ℕ) : Type 0 where
  pub none : at ≡ 0 → (waiting ≡ []) × (count ≡ 0)
  pub some : (place : ℕ) → at ≡ suc place → IsWrite h who place waiting count

write-longer : (h : History) (more : Entry) (who place : ℕ) (waiting : List Change) (count : ℕ) → IsWrite h who place waiting count
    → IsWrite (h ++ more ∷ []) who place waiting count
write-longer h more who place waiting count is =
    let within = got-within h place (record { who = who; what = Write is.changes }) is.is in
    let before : take place (h ++ more ∷ []) ≡ take place h = take-append-le place h (more ∷ []) (omega (arith, within)) in
    record {
      changes = is.changes;
      is = got-before h (more ∷ []) place within ∙ is.is;
      told = is.told ∙ ap (λ (b : History). pending b who ++ is.changes) (sym before);
      counted = is.counted ∙ ap (λ (b : History). writes b who + 1) (sym before);
    }

last-longer : (h : History) (more : Entry) (who at : ℕ) (waiting : List Change) (count : ℕ) → IsLast h who at waiting count
    → IsLast (h ++ more ∷ []) who at waiting count
last-longer h more who at waiting count last = record {
  none = last.none;
  some = λ place is. write-longer h more who place waiting count (last.some place is);
}

last-write : (h : History) (entry : Entry) (who : ℕ) (changes : List Change) → entry.who ≡ who → entry.what ≡ Write changes
    → IsLast (h ++ entry ∷ []) who (length h + 1) (pending h who ++ changes) (writes h who + 1)
last-write h entry who changes same is = record {
  none = λ zero. absurd (omega (arith, zero));
  some = λ place at.
      let here : length h ≡ place = omega (arith, at) in
      rw (← here) (record {
        changes = changes;
        is = got-end h entry ∙ ap Some (made entry.who entry.what same is);
        told = ap (λ (b : History). pending b who ++ changes) (sym (before-last h entry));
        counted = ap (λ (b : History). writes b who + 1) (sym (before-last h entry));
      });
}
  where
    entry_of : ℕ → What → Entry
    entry_of number what = record { who = number; what = what }

    made : (number : ℕ) (what : What) → number ≡ who → what ≡ Write changes → entry_of number what ≡ entry_of who (Write changes)
    made number what same is = ap (λ (n : ℕ). entry_of n what) same ∙ ap (λ (w : What). entry_of who w) is

abbrev AreLast : History → Type 0
AreLast h = (who : ℕ) → IsLast h who (last_write h who) (pending h who) (writes h who)

none_last : AreLast []
unfolding last_write pending writes replay
none_last who = record { none = λ zero. (refl, refl); some = λ place is. absurd (omega (arith, is)) }

more_last : (h : History) (entry : Entry) → AreLast h → AreLast (h ++ entry ∷ [])
more_last h entry are who =
    rw (last_write-push h entry who, pending-push h entry who, writes-push h entry who) (by (entry.who == who) refl entry.what refl)
  where
    by : (b : Bool) → (entry.who == who) ≡ b → (what : What) → entry.what ≡ what
        → IsLast (h ++ entry ∷ []) who (if b then last_write_after (length h) (last_write h who) what else last_write h who)
        (if b then pending_after (pending h who) what else pending h who) (if b then writes_after (writes h who) what else writes h who)
    by false apart what is = last-longer h entry who _ _ _ (are who)
    by true same (Write changes) is = last-write h entry who changes (grind (arith, nat_tests, same)) is
    by true same Commit is = record { none = λ zero. (refl, refl); some = λ place at. absurd (omega (arith, at)) }
    by true same Rollback is = record { none = λ zero. (refl, refl); some = λ place at. absurd (omega (arith, at)) }
    by true same _ is = last-longer h entry who _ _ _ (are who)

are_last : (h : History) → AreLast h
are_last = each_history AreLast none_last more_last

-- the link does not lead behind the history
last-below : (h : History) (who : ℕ) → last_write h who ≤ length h
last-below h who = by (last_write h who) refl
  where
    by : (n : ℕ) → last_write h who ≡ n → n ≤ length h
    by zero is = omega arith
    by (suc place) is =
        let write = (are_last h who).some place is in
        let within = got-within h place (record { who = who; what = Write write.changes }) write.is in omega (arith, within)

-- ---- reading the writes of a session, the last one first

-- how far the reading has come: it stands at the end of a shorter history, with a link to the last write there, and what is pending
-- there and what was read are together what was pending at the place
pub record Reads (h : History) (who place at : ℕ) (told : List (List Change)) : Type 0 where
  pub from : ℕ
  pub within : from ≤ place
  pub link : at ≡ last_write (take from h) who
  pub all : pending (take from h) who ++ all_changes (reverse told) ≡ pending (take place h) who
  pub count : writes (take from h) who + length told ≡ writes (take place h) who

pub reads-begin : (places : Places) (h : History) (place : ℕ) (entry : Entry) → ArePlaces places h → slice_get h place ≡ Some entry
    → entry.who < NUMBERS → Reads h entry.who place (head_of places.links.items place) []
reads-begin places h place entry are is small = record {
  from = place;
  within = le_refl _;
  link = are.links place entry is small;
  all = append-nil (pending (take place h) entry.who);
  count = omega arith;
}

-- what stands where a link leads
pub record IsNext (h : History) (who place at : ℕ) (told : List (List Change)) : Type 0 where
  pub changes : List Change
  pub is : slice_get h (at - 1) ≡ Some (record { who = who; what = Write changes })
  pub below : at ≤ place
  pub room : length told < writes (take place h) who
  pub further : (link : ℕ) → link ≡ last_write (take (at - 1) h) who → Reads h who place link (told ++ changes ∷ [])
  pub less : (link : ℕ) → link ≡ last_write (take (at - 1) h) who → link < at

pub reads-on : (h : History) (who place at : ℕ) (told : List (List Change)) → 0 < at → Reads h who place at told → IsNext h who place at told
reads-on h who place zero told some reads = absurd (omega (arith, some))
reads-on h who place (suc q) told some reads =
    let last = are_last (take reads.from h) who in
    let write = last.some q (sym reads.link) in
    let entry : Entry = record { who = who; what = Write write.changes } in
    let inside : q < reads.from = taken-within h reads.from q entry write.is in
    let within = reads.within in
    let before : take q (take reads.from h) ≡ take q h = take-taken h reads.from q (omega (arith, inside)) in
    let counted = write.counted in
    let count = reads.count in
    let less : suc q - 1 ≡ q = omega arith in
    let fewer : writes (take reads.from h) who ≡ writes (take q h) who + 1 = counted ∙ ap (λ (b : History). writes b who + 1) before in
    record {
      changes = write.changes;
      is = rw less (got-taken h reads.from q entry write.is);
      below = omega (arith, inside, within);
      room = omega (arith, count, fewer);
      further = λ link is. record {
        from = q;
        within = omega (arith, inside, within);
        link = rw less at is;
        all =
            ap (λ (l : List (List Change)). pending (take q h) who ++ all_changes l) (reverse-append told (write.changes ∷ []))
            ∙ (sym (append_assoc (pending (take q h) who) write.changes (all_changes (reverse told)))
            ∙ (ap (λ (l : List Change). l ++ all_changes (reverse told))
            (ap (λ (b : History). pending b who ++ write.changes) (sym before) ∙ sym write.told)
            ∙ reads.all));
        count = let pushed = length_push told write.changes in omega (arith, count, fewer, pushed);
      };
      less = λ link is.
          let below = last-below (take q h) who in
          let there = got-within h q entry (got-taken h reads.from q entry write.is) in
          let long : length (take q h) ≡ q = length-take-le q h (omega (arith, there)) in
          let same : link ≡ last_write (take q h) who = rw less at is in
          omega (arith, below, long, same);
    }

-- at the end all was read
pub reads-end : (h : History) (who place : ℕ) (told : List (List Change)) → Reads h who place 0 told
    → all_changes (reverse told) ≡ pending (take place h) who
reads-end h who place told reads =
    let none = (are_last (take reads.from h) who).none (sym reads.link) in
    ap (λ (l : List Change). l ++ all_changes (reverse told)) (sym none.0) ∙ reads.all

reads-few : (h : History) (who place at : ℕ) (told : List (List Change)) → Reads h who place at told → length told ≤ writes (take place h) who
reads-few h who place at told reads = let count = reads.count in omega (arith, count)

-- an entry that was read is the Write that stands there
pub read-write : (h : History) (place : ℕ) (entry : Entry) (who : ℕ) (changes : List Change) → slice_get h place ≡ Some entry
    → slice_get h place ≡ Some (record { who = who; what = Write changes }) → entry.what ≡ Write changes
read-write h place entry who changes is stands =
    let same : entry ≡ record { who = who; what = Write changes } = same-some entry (record { who = who; what = Write changes }) (sym is ∙ stands) in
    ap (λ (e : Entry). e.what) same

-- the reading of the writes before the entry at a place, of its session; each was a step
pub record Walks (h : History) (place at : ℕ) (told : List (List Change)) (before steps : ℕ) : Type 0 where
  pub entry : Entry
  pub is : slice_get h place ≡ Some entry
  pub small : entry.who < NUMBERS
  pub reads : Reads h entry.who place at told
  pub ticks : steps ≡ before + length told

-- what holds of all of a list holds of what is read of it
each-got : (P : Entry → Type 0) (h : History) (place : ℕ) (entry : Entry) → All P h → slice_get h place ≡ Some entry → P entry
each-got P [] place entry all is = absurd cc
each-got P (first ∷ h) zero entry all is = subst P (same-some first entry is) (All-head P first h all)
each-got P (first ∷ h) (suc place) entry all is = each-got P h place entry (All-tail P first h all) is

got-there : (h : History) (place : ℕ) → place < length h → Got h place
got-there [] place within = absurd (omega (arith, within))
got-there (first ∷ h) zero within = record { entry = first; is = refl }
got-there (first ∷ h) (suc place) within = let rest = got-there h place (omega (arith, within)) in record { entry = rest.entry; is = rest.is }

pub walk-begins : (places : Places) (h : History) (place at steps : ℕ) → ArePlaces places h → All (λ entry. entry.who < NUMBERS) h
    → place < length h → at ≡ head_of places.links.items place → Walks h place at [] steps steps
walk-begins places h place at steps are numbers within is =
    let there = got-there h place within in
    let small = each-got (λ (e : Entry). e.who < NUMBERS) h place there.entry numbers there.is in
    record {
      entry = there.entry;
      is = there.is;
      small = small;
      reads = rw is (reads-begin places h place there.entry are there.is small);
      ticks = omega arith;
    }

-- what stands at the place that the link leads to
pub record Stands (places : Places) (h : History) (place at : ℕ) (told : List (List Change)) (before steps : ℕ) : Type 0 where
  pub changes : List Change
  pub who : ℕ
  pub is : slice_get h (at - 1) ≡ Some (record { who = who; what = Write changes })
  pub inside : at - 1 < length h
  pub linked : at - 1 < length places.links.items
  pub few : (entry : Entry) → slice_get h place ≡ Some entry → steps + 1 ≤ before + writes (take place h) entry.who
  pub further : (link : ℕ) → link ≡ head_of places.links.items (at - 1) → Walks h place link (told ++ changes ∷ []) before (steps + 1)
  pub less : (link : ℕ) → link ≡ head_of places.links.items (at - 1) → link < at

pub walk-stands : (places : Places) (h : History) (place at : ℕ) (told : List (List Change)) (before steps : ℕ) → ArePlaces places h
    → 0 < at → Walks h place at told before steps → Stands places h place at told before steps
walk-stands places h place at told before steps are some walks =
    let next = reads-on h walks.entry.who place at told some walks.reads in
    let inside = got-within h (at - 1) (record { who = walks.entry.who; what = Write next.changes }) next.is in
    let linked = are.links (at - 1) (record { who = walks.entry.who; what = Write next.changes }) next.is walks.small in
    let long = are.long in
    let ticks = walks.ticks in
    let room = next.room in
    let pushed = length_push told next.changes in
    record {
      changes = next.changes;
      who = walks.entry.who;
      is = next.is;
      inside = inside;
      linked = omega (arith, inside, long);
      few = λ entry is.
          let same : entry ≡ walks.entry = same-some entry walks.entry (sym is ∙ walks.is) in
          rw same (omega (arith, ticks, room));
      further = λ link is. record {
        entry = walks.entry;
        is = walks.is;
        small = walks.small;
        reads = next.further link (is ∙ linked);
        ticks = omega (arith, ticks, pushed);
      };
      less = λ link is. next.less link (is ∙ linked);
    }

-- the end of the walk
pub walk-ends : (h : History) (place : ℕ) (told : List (List Change)) (before steps : ℕ) → Walks h place 0 told before steps
    → (entry : Entry) → slice_get h place ≡ Some entry → all_changes (reverse told) ≡ pending (take place h) entry.who
walk-ends h place told before steps walks entry is =
    let same : walks.entry ≡ entry = same-some walks.entry entry (sym walks.is ∙ is) in
    rw (← same) (reads-end h walks.entry.who place told walks.reads)

pub walk-few : (h : History) (place at : ℕ) (told : List (List Change)) (before steps : ℕ) → Walks h place at told before steps
    → (entry : Entry) → slice_get h place ≡ Some entry → steps ≤ before + writes (take place h) entry.who
walk-few h place at told before steps walks entry is =
    let same : entry ≡ walks.entry = same-some entry walks.entry (sym is ∙ walks.is) in
    let few = reads-few h walks.entry.who place at told walks.reads in
    let ticks = walks.ticks in
    rw same (omega (arith, ticks, few))
