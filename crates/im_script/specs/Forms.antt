-- The lines of a script, and the form of a line.
use Rattle.std.specs.Prelude.{ℕ, ◌+◌, ◌-◌, Bool, ◌&&◌, ◌==◌, nat_le, nat_lt, List, [], ◌∷◌, length, take, drop, Option, Some, None, if◌then◌else◌, slice_index, codes}
use Rattle.std.specs.List.{list_all}
use Rattle.std.specs.Str.{bytes_eq}
use Rattle.im_values.specs.declared.limits.TheConstants.{MOST_LINE_BYTES}
use Rattle.im_lex.specs.Bytes.{is_blank, run, begins_comment}
use Rattle.im_script.specs.declared.form.Form.{Form}
use Rattle.im_script.specs.declared.form.Form.TheVariants as form

-- a byte before the first line
abbrev pub before_first : ℕ → List (List ℕ) → List (List ℕ)
before_first b [] = (b ∷ []) ∷ []
before_first b (l ∷ ls) = (b ∷ l) ∷ ls

-- the lines of a script: it is cut at each LF, and nothing behind the last LF is no line
unfoldable pub lines_of : List ℕ → List (List ℕ)
lines_of [] = []
lines_of (b ∷ bs) = if b == 10 then [] ∷ lines_of bs else before_first b (lines_of bs)

-- how many blanks begin a line
abbrev pub blanks_of : List ℕ → ℕ
blanks_of line = length (run is_blank line)

-- the first byte that is not blank, from 1, or 0 where there is none
abbrev pub first_of : List ℕ → ℕ
first_of line = if nat_lt (blanks_of line) (length line) then blanks_of line + 1 else 0

-- ---- prefixes, behind the blanks

-- '>' behind one digit from 1, or behind 10 to 16
abbrev pub is_low : List ℕ → Bool
is_low bs = nat_le 49 (slice_index bs 0) && nat_le (slice_index bs 0) 57 && slice_index bs 1 == 62

abbrev pub is_high : List ℕ → Bool
is_high bs = slice_index bs 0 == 49 && nat_le 48 (slice_index bs 1) && nat_le (slice_index bs 1) 54 && slice_index bs 2 == 62

-- "bg>"
abbrev pub is_background : List ℕ → Bool
is_background bs = slice_index bs 0 == 98 && slice_index bs 1 == 103 && slice_index bs 2 == 62

-- "race>" and blanks
abbrev pub is_race : List ℕ → Bool
is_race bs = bytes_eq (take 5 bs) (codes "race>") && list_all is_blank (drop 5 bs)

-- the form of a line behind its blanks, of which there are so many
abbrev pub form_behind : ℕ → List ℕ → Form
form_behind blanks bs =
    if length bs == 0 then form.Skip
    else (if begins_comment bs then form.Skip
    else (if is_race bs then form.Race
    else (if is_low bs then form.Session (slice_index bs 0 - 48) (blanks + 2)
    else (if is_high bs then form.Session (slice_index bs 1 - 38) (blanks + 3)
    else (if is_background bs then form.Background (blanks + 3)
    else form.Bare)))))

-- the form of a line, which may be too long to be read
abbrev pub form_of : List ℕ → Form
form_of line =
    if nat_lt MOST_LINE_BYTES (length line) then form.Long else form_behind (blanks_of line) (drop (blanks_of line) line)

-- whom a line names
abbrev pub who_of : Form → Option ℕ
who_of (form.Session n before) = Some n
who_of (form.Background before) = Some 0
who_of form.Long = None
who_of form.Skip = None
who_of form.Race = None
who_of form.Bare = None
