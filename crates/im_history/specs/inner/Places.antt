-- Where the commits of a history are, and the writes of each session.
use Rattle.std.specs.Prelude.{◌≡◌, ℕ, ◌+◌, ◌<◌, ◌≤◌, ◌==◌, List, [], ◌∷◌, ◌++◌, length, slice_get, slice_index_or, take, Some, vec_len, vec_capacity, if◌then◌else◌}
use Rattle.im_values.specs.declared.limits.TheConstants.{NUMBERS}
use Rattle.im_history.specs.declared.entry.Entry.{Entry}
use Rattle.im_history.specs.declared.entry.What.{What}
use Rattle.im_history.specs.declared.entry.What.TheVariants.{Write, Commit, Rollback}
use Rattle.im_history.specs.declared.places.Places.{Places}
use Rattle.im_history.specs.Commits.{moves_clock}
use Rattle.im_history.specs.History.{History, replay}

-- the place of a session's last pending write, after one more entry of its own at a place. The places here are counted from 1, but
-- the entry's own; 0 is none
abbrev pub last_write_after : ℕ → ℕ → What → ℕ
last_write_after place so_far (Write changes) = place + 1
last_write_after place so_far Commit = 0
last_write_after place so_far Rollback = 0
last_write_after place so_far what = so_far

-- the place of a session's last pending write, counted from 1, or 0 where none is pending
unfoldable pub last_write : History → ℕ → ℕ
last_write history who =
    replay (λ before so_far entry. if entry.who == who then last_write_after (length before) so_far entry.what else so_far) 0 history

-- the place of an entry, where it commits something
abbrev pub place_by : ℕ → What → List ℕ
place_by place what = if moves_clock what then place ∷ [] else []

-- the places of the entries that commit something, in order
unfoldable pub commit_places : History → List ℕ
commit_places history = replay (λ before so_far entry. so_far ++ place_by (length before) entry.what) [] history

-- the number kept for a session, 0 where it has none
abbrev pub head_of : List ℕ → ℕ → ℕ
head_of heads who = slice_index_or heads who 0

-- each entry has a link to the last write that was pending before it of the same session, and for each session there is one to the
-- last that is pending now
pub record ArePlaces (places : Places) (history : History) : Type 0 where
  pub long : length places.links.items ≡ length history
  pub commits : places.commits.items ≡ commit_places history
  pub heads : (who : ℕ) → who < NUMBERS → head_of places.heads who ≡ last_write history who
  pub links : (place : ℕ) (entry : Entry) → slice_get history place ≡ Some entry → entry.who < NUMBERS
      → head_of places.links.items place ≡ last_write (take place history) entry.who

-- there is room for so many entries more
pub record HaveRoom (places : Places) (room : ℕ) : Type 0 where
  pub links : vec_len places.links + room ≤ vec_capacity places.links
  pub commits : vec_len places.commits + room ≤ vec_capacity places.commits

-- the places with one more entry
pub record AreNoted (old new : Places) (who : ℕ) (what : What) : Type 0 where
  pub links : new.links.items ≡ old.links.items ++ head_of old.heads who ∷ []
  pub commits : new.commits.items ≡ old.commits.items ++ place_by (length old.links.items) what
  pub heads : (other : ℕ) → other < NUMBERS → head_of new.heads other
      ≡ (if who == other then last_write_after (length old.links.items) (head_of old.heads other) what else head_of old.heads other)

-- the same places, and no less room
pub record AreRoomier (old new : Places) : Type 0 where
  pub links : new.links.items ≡ old.links.items
  pub commits : new.commits.items ≡ old.commits.items
  pub heads : new.heads ≡ old.heads
  pub room : (room : ℕ) → HaveRoom old room → HaveRoom new room
