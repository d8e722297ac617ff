-- Good words, and what they ask for.
use Rattle.std.specs.Prelude.{◌≡◌, ◌≢◌, ◌⊎◌, ◌≤◌, ⊤, ℕ, List, [], ◌∷◌, ◌++◌, Option, Some, None, codes, find, length, option_map, slice_index, unwrap_or}
use Rattle.std.specs.List.{All, AllPairs, flat_map}
use Rattle.std.specs.Str.{bytes_eq}
use Rattle.std.specs.Str.Parse.{IsNumeral, digits_value}
use Rattle.im_words.specs.Asked.{IsFor}
use Rattle.im_words.specs.Setting.{name_of, usual_of}
use Rattle.im_words.specs.declared.asked.Asked.{Asked}
use Rattle.im_words.specs.declared.mode.Mode.{Mode}
use Rattle.im_words.specs.declared.mode.Mode.TheVariants.{Run, Race, Gen}
use Rattle.im_words.specs.declared.setting.Setting.{Setting}
use Rattle.im_words.specs.declared.setting.Setting.TheVariants.{Area, Workers, Turns, Rows, Seed}

-- the bytes of a word
abbrev pub Text : Type 0
Text = List ℕ

-- one thing that the words say: a mode, or the number of a setting, in two words or in one
pub data Item : Type 0 where
  mode : Mode → Item
  apart : Setting → Text → Item
  joined : Setting → Text → Item

abbrev pub name_of_mode : Mode → Text
name_of_mode Run = codes "run"
name_of_mode Race = codes "race"
name_of_mode Gen = codes "gen"

-- the words of an item: `run`, `--area 5` or `--area=5`
abbrev pub spelled : Item → List Text
spelled (mode m) = name_of_mode m ∷ []
spelled (apart s number) = (codes "--" ++ name_of s) ∷ number ∷ []
spelled (joined s number) = (codes "--" ++ (name_of s ++ (codes "=" ++ number))) ∷ []

-- the name of what the item is about
abbrev pub about : Item → Text
about (mode m) = codes "mode"
about (apart s number) = name_of s
about (joined s number) = name_of s

-- what the item says of it
abbrev pub said : Item → Text
said (mode m) = name_of_mode m
said (apart s number) = number
said (joined s number) = number

-- the first digit is no 0 (48), unless it is the only one
abbrev pub HasNoLeadingZero : Text → Type 0
HasNoLeadingZero text = (length text ≡ 1) ⊎ (slice_index text 0 ≢ 48)

-- 1 to 10 decimal digits that write a number that the setting may be set to
pub record IsNumberFor (s : Setting) (text : Text) : Type 0 where
  pub digits : IsNumeral 10 text
  pub short : length text ≤ 10
  pub plain : HasNoLeadingZero text
  pub range : IsFor s (digits_value 10 text)

abbrev pub HasNumber : Item → Type 0
HasNumber (mode m) = ⊤
HasNumber (apart s number) = IsNumberFor s number
HasNumber (joined s number) = IsNumberFor s number

-- the mode that the items name
abbrev pub mode_among : List Item → Option Mode
mode_among [] = None
mode_among (mode m ∷ rest) = Some m
mode_among (apart s number ∷ rest) = mode_among rest
mode_among (joined s number ∷ rest) = mode_among rest

-- what the items say of a name
abbrev pub said_of : Text → List Item → Option Text
said_of name items = option_map said (find (λ item. bytes_eq (about item) name) items)

-- the number that the items set, or the usual one
abbrev pub number_among : List Item → Setting → ℕ
number_among items s = unwrap_or (option_map (digits_value 10) (said_of (name_of s) items)) (usual_of s)

-- the program's name is followed by one mode and by settings, in any order, each at most once, and this is what they ask for
pub record IsGood (words : List Text) (asked : Asked) : Type 0 where
  pub program : Text
  pub items : List Item
  pub spelling : words ≡ program ∷ flat_map spelled items
  pub once : AllPairs (λ x y. about x ≢ about y) items
  pub numbers : All HasNumber items
  pub mode : mode_among items ≡ Some asked.mode
  pub area : asked.area ≡ number_among items Area
  pub workers : asked.workers ≡ number_among items Workers
  pub turns : asked.turns ≡ number_among items Turns
  pub rows : asked.rows ≡ number_among items Rows
  pub seed : asked.seed ≡ number_among items Seed
