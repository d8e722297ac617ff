-- Ranges of codes, and what is chosen by them.
use Rattle.std.specs.Prelude.{◌≡◌, ℕ, ◌<◌, ◌≤◌, ◌==◌, ◌&&◌, ◌||◌, Bool, false, List, length, nat_le, nat_lt, slice_index_or, if◌then◌else◌}
use Rattle.std.specs.declared.cmp.Ordering.{Ordering}
use Rattle.std.specs.declared.cmp.Ordering.TheVariants.{Less, Equal, Greater}
use Rattle.im_values.specs.declared.comparison.Cmp.{Cmp}
use Rattle.im_values.specs.declared.comparison.Cmp.TheVariants.{Eq, Ne, Lt, Le, Gt, Ge}
use Rattle.im_values.specs.declared.content.Content.{Content as Value}
use Rattle.im_values.specs.declared.content.Content.TheVariants.{Null}
use Rattle.im_values.specs.Order.{admits, compare}
use Rattle.im_codes.specs.Dictionary.{coded}
use Rattle.im_lanes.specs.Masks.{is_within}
use Rattle.im_codepred.specs.declared.asked.Wanted.{Wanted}
use Rattle.im_codepred.specs.declared.asked.Wanted.TheVariants.{Held, Failed}
use Rattle.im_codepred.specs.declared.spans.Place.{Place}
use Rattle.im_codepred.specs.declared.spans.Spans.{Spans}
use Rattle.im_codepred.specs.declared.chosen.Chosen.{Chosen}
use Rattle.im_codepred.specs.declared.chosen.Chosen.TheVariants as by
use Rattle.im_codepred.specs.Asked.{met}

-- the comparison that holds where another fails
abbrev pub opposite : Cmp → Cmp
opposite Eq = Ne
opposite Ne = Eq
opposite Lt = Ge
opposite Le = Gt
opposite Gt = Le
opposite Ge = Lt

-- the comparison that holds where another is as it is wanted
abbrev pub comparison_of : Wanted → Cmp → Cmp
comparison_of Held cmp = cmp
comparison_of Failed cmp = opposite cmp

-- a code lies in one of two ranges
abbrev pub is_in : Spans → ℕ → Bool
is_in spans code = is_within spans.first.low spans.first.end code || is_within spans.second.low spans.second.end code

-- how the value of a code stands to the value of a place
abbrev pub stands : Place → ℕ → Ordering
stands place code = if nat_lt code place.low then Less else (if nat_lt code place.end then Equal else Greater)

-- a comparison holds of the value of a code and the value of a place: of NULL none does
abbrev pub holds_at : Place → Cmp → ℕ → Bool
holds_at place cmp code = nat_le 1 code && (nat_lt code place.most && admits cmp (stands place code))

-- the codes of a place stand in order
pub record IsInOrder (place : Place) : Type 0 where
  pub some : 1 ≤ place.low
  pub order : place.low ≤ place.end
  pub last : place.end ≤ place.most

-- a place among the codes of a dictionary says how their values compare with a value
pub record IsPlaceOf (dict : List Value) (value : Value) (place : Place) : Type 0 where
  pub in_order : IsInOrder place
  pub compares : (cmp : Cmp) (code : ℕ) → code < length (coded dict) →
      met Held (compare (slice_index_or (coded dict) code Null) cmp value) ≡ holds_at place cmp code

-- a value lies between those of two places, or is known not to
abbrev pub between_at : Wanted → Place → Place → ℕ → Bool
between_at Held low high code = holds_at low Ge code && holds_at high Le code
between_at Failed low high code = holds_at low Lt code || holds_at high Gt code

-- a code is that of NULL, or is known not to be
abbrev pub null_at : Wanted → ℕ → Bool
null_at Held code = code == 0
null_at Failed code = nat_le 1 code

-- of the codes of a dictionary those are chosen whose value passes
abbrev pub Chooses : (ℕ → Bool) → (Value → Bool) → List Value → Type 0
Chooses chosen passes dict = (code : ℕ) → code < length (coded dict) → chosen code ≡ passes (slice_index_or (coded dict) code Null)

-- a code is chosen
abbrev pub is_chosen : Chosen → ℕ → Bool
is_chosen (by.Spans spans) code = is_in spans code
is_chosen (by.Flags flags) code = slice_index_or flags.items code false

-- where flags choose, there is one for each of so many codes
abbrev pub HasFlags : Chosen → ℕ → Type 0
HasFlags (by.Spans spans) n = Unit {0}
HasFlags (by.Flags flags) n = length flags.items ≡ n

-- what is chosen of the codes of a dictionary
pub record AreChosen (chosen : Chosen) (passes : Value → Bool) (dict : List Value) : Type 0 where
  pub says : Chooses (is_chosen chosen) passes dict
  pub flags : HasFlags chosen (length (coded dict))
