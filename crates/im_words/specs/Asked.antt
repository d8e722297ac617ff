-- What is read of the matches that `clap` found.
use Rattle.std.specs.Prelude.{◌≡◌, ◌≤◌, ℕ, List, Option, Some, None, codes, if◌then◌else◌, true}
use Rattle.std.specs.Str.{bytes_eq}
use Rattle.std.specs.Str.Parse.{digits_value, without_leading_plus}
use Rattle.clap.specs.ValueTests.{is_unsigned_in}
use Rattle.clap.specs.Words.{Row, Text, first_of, one_of}
use Rattle.im_words.specs.Setting.{name_of, least_of, most_of, usual_of}
use Rattle.im_words.specs.declared.asked.Asked.{Asked}
use Rattle.im_words.specs.declared.mode.Mode.{Mode}
use Rattle.im_words.specs.declared.mode.Mode.TheVariants.{Run, Race, Gen}
use Rattle.im_words.specs.declared.setting.Setting.{Setting}
use Rattle.im_words.specs.declared.setting.Setting.TheVariants.{Area, Workers, Turns, Rows, Seed}

-- the mode of a name: `clap` refuses every name but those of the modes
abbrev pub mode_called : Text → Mode
mode_called name = if bytes_eq name (codes "race") then Race else (if bytes_eq name (codes "gen") then Gen else Run)

-- the mode of the first value of the mode's argument
abbrev pub mode_by : Option Text → Mode
mode_by None = Run
mode_by (Some name) = mode_called name

abbrev pub mode_in : List Row → Mode
mode_in rows = mode_by (first_of (codes "mode") rows)

-- the number that a text writes, or the usual one where there is no text
abbrev pub number_by : Setting → Option Text → ℕ
number_by s None = usual_of s
number_by s (Some text) = digits_value 10 (without_leading_plus text)

-- the number of the first value of a setting's argument
abbrev pub number_in : List Row → Setting → ℕ
number_in rows s = number_by s (one_of (name_of s) rows)

-- the first value of each setting is a number that it may be set to
abbrev pub HasNumbers : List Row → Type 0
HasNumbers rows = (s : Setting) (text : Text) → one_of (name_of s) rows ≡ Some text
    → is_unsigned_in (least_of s) (most_of s) text ≡ true

-- what the matches ask for
abbrev pub asked_in : List Row → Asked
asked_in rows = record {
  mode = mode_in rows;
  area = number_in rows Area;
  workers = number_in rows Workers;
  turns = number_in rows Turns;
  rows = number_in rows Rows;
  seed = number_in rows Seed;
}

-- a number that the setting may be set to
abbrev pub IsFor : Setting → ℕ → Type 0
IsFor s n = (least_of s ≤ n) × (n ≤ most_of s)

-- each number is one that its setting may be set to
pub record IsInRange (asked : Asked) : Type 0 where
  pub area : IsFor Area asked.area
  pub workers : IsFor Workers asked.workers
  pub turns : IsFor Turns asked.turns
  pub rows : IsFor Rows asked.rows
  pub seed : IsFor Seed asked.seed
