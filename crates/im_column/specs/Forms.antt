-- The forms of a column.
use Rattle.std.specs.Prelude.{◌≡◌, ℕ, ◌<◌, ◌≤◌, List, length, get_or}
use Rattle.im_values.specs.declared.content.Content.{Content as Value}
use Rattle.im_values.specs.declared.content.Content.TheVariants.{Null}
use Rattle.im_values.specs.Sizes.{Plain, Coded, Runs, value_bytes, shape_of, dictionary, width_for}
use Rattle.im_codes.specs.Dictionary.{AreCodesOf}
use Rattle.im_column.specs.declared.form.Form.{Form}
use Rattle.im_column.specs.declared.form.Form.TheVariants as lent

-- a text has at most 65,535 bytes, which count for 65,538; no other value counts for more
abbrev pub IsShort : Value → Type 0
IsShort value = value_bytes value ≤ 65538

-- a dictionary and codes are those of the values
pub record AreKeptFor (values dict : List Value) (codes : List ℕ) : Type 0 where
  pub is_dictionary : dict ≡ dictionary values
  pub are_codes : AreCodesOf values dict codes

-- a form is the one that a column of these values is kept in
abbrev pub IsFormOf : List Value → Form → Type 0
IsFormOf values (lent.Plain kept) = (shape_of values ≡ Plain) × (kept.now ≡ values)
IsFormOf values (lent.Coded dict bits) =
    (shape_of values ≡ Coded) × AreKeptFor values dict.now bits.now.codes × (bits.now.width ≡ width_for (length dict.now))
IsFormOf values (lent.Runs dict runs) = (shape_of values ≡ Runs) × AreKeptFor values dict.now runs.now

-- a list begins with so many of the values that places have
abbrev pub AreLent : (ℕ → Value) → ℕ → List Value → Type 0
AreLent value_at count list = (k : ℕ) → k < count → get_or list k Null ≡ value_at k
