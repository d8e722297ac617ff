-- The open cursors of a session.
use Rattle.std.specs.Prelude.{ℕ, ◌==◌, Bool, not, List, [], ◌∷◌, ◌++◌, filter, count_by, Option, if◌then◌else◌}
use Rattle.std.specs.List.{find, list_any}
use Rattle.im_history.specs.declared.cursors.TheConstants.{OWN_CURSOR}
use Rattle.im_history.specs.declared.entry.What.{What}
use Rattle.im_history.specs.declared.entry.What.TheVariants.{Open, Shut}
use Rattle.im_history.specs.declared.view.View.{View}
use Rattle.im_history.specs.History.{History, replay}
use Rattle.im_history.specs.Views.{view_at}

-- a cursor that was opened, and the view that its opening fixed
pub record Opened : Type 0 where
  pub cursor : ℕ
  pub view : View

-- it has this number
abbrev pub is_cursor : ℕ → Opened → Bool
is_cursor cursor opened = opened.cursor == cursor

-- the open cursors of a session after one more entry of it
abbrev pub opened_after : History → ℕ → List Opened → What → List Opened
opened_after before who so_far (Open cursor table asked) = so_far ++ record { cursor = cursor; view = view_at before who table asked } ∷ []
opened_after before who so_far (Shut cursor) = filter (λ other. not (is_cursor cursor other)) so_far
opened_after before who so_far what = so_far

-- the cursors that the session opened and did not shut, in the order of their opening
unfoldable pub opened : History → ℕ → List Opened
opened history who = replay (λ before so_far entry. if entry.who == who then opened_after before who so_far entry.what else so_far) [] history

-- the open cursor of this number
abbrev pub cursor_at : History → ℕ → ℕ → Option Opened
cursor_at history who cursor = find (is_cursor cursor) (opened history who)

-- the cursor is open
abbrev pub is_cursor_open : History → ℕ → ℕ → Bool
is_cursor_open history who cursor = list_any (is_cursor cursor) (opened history who)

-- ---- the cursors that a statement opens by itself

-- their numbers, the greatest first
abbrev pub own_cursors : List ℕ
own_cursors = OWN_CURSOR ∷ []

-- the cursor is one of these
abbrev pub is_one_of : List ℕ → ℕ → Bool
is_one_of cursors cursor = list_any (λ other. cursor == other) cursors

-- a statement opens it by itself
abbrev pub is_own : ℕ → Bool
is_own cursor = is_one_of own_cursors cursor

-- one of them is open
abbrev pub has_own_open : History → ℕ → Bool
has_own_open history who = list_any (λ other. is_own other.cursor) (opened history who)

-- how many other cursors are open
abbrev pub cursors_open : History → ℕ → ℕ
cursors_open history who = count_by (λ other. not (is_own other.cursor)) (opened history who)
