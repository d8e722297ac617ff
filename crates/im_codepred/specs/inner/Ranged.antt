-- What lies in a range among codes.
use Rattle.std.specs.Prelude.{◌≡◌, ℕ, ◌+◌, ◌-◌, ◌<◌, ◌≤◌, ◌^◌, List, Contains, filter, length, sum_by, if◌then◌else◌}
use Rattle.im_values.specs.declared.content.Content.{Content as Value}
use Rattle.im_codes.specs.Dictionary.{coded}
use Rattle.im_lanes.specs.Masks.{is_within}
use Rattle.im_codepred.specs.declared.spans.Span.{Span}
use Rattle.im_codepred.specs.declared.spans.Spans.{Spans}
use Rattle.im_codepred.specs.inner.Spans.{is_in}
use Rattle.im_codepred.specs.declared.ranged.Part.{Part}

-- the codes of a list from one on and below another
abbrev pub codes_within : ℕ → ℕ → List ℕ → List ℕ
codes_within low end codes = filter (is_within low end) codes

-- what codes add up to, each less a first one
abbrev pub above : ℕ → List ℕ → ℕ
above low codes = sum_by (λ code. code - low) codes

-- so many codes of a list lie in a range, and they add up to this
pub record LieWithin (low end : ℕ) (codes : List ℕ) (n total : ℕ) : Type 0 where
  pub count : n ≡ length (codes_within low end codes)
  pub sum : total ≡ above low (codes_within low end codes)

-- a part with one code more
abbrev pub with_code : ℕ → ℕ → Part → ℕ → Part
with_code low end part code = if is_within low end code then record { count = part.count + 1; sum = part.sum + (code - low) } else part

-- a range has a code, and only codes from 1 on and below one, and below 2^16
pub record IsSpanBelow (end : ℕ) (span : Span) : Type 0 where
  pub some : 0 < span.low
  pub order : span.low < span.end
  pub most : span.end ≤ end
  pub few : span.end ≤ 2 ^ 16

-- a range is all that two ranges have
pub record IsAllOf (spans : Spans) (most : ℕ) (span : Span) : Type 0 where
  pub below : IsSpanBelow most span
  pub same : (code : ℕ) → is_within span.low span.end code ≡ is_in spans code

-- each code of a dictionary is among these, but for that of NULL
abbrev pub AreThere : List Value → List ℕ → Type 0
AreThere dict codes = (code : ℕ) → 0 < code → code < length (coded dict) → Contains codes code
