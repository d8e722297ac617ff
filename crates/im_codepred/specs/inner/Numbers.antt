-- Whole numbers between two others, and what is asked of many values.
use Rattle.std.specs.Prelude.{◌≡◌, ℕ, ℤ, pos, negsuc, ◌≤ℤ◌, ◌^◌, ◌-◌, Bool, ◌&&◌, int_le, not, List, if◌then◌else◌}
use Rattle.std.specs.Ordering.{is_eq}
use Rattle.im_values.specs.declared.content.Content.{Content as Value}
use Rattle.im_values.specs.declared.content.Content.TheVariants.{Int}
use Rattle.im_values.specs.Order.{order}
use Rattle.im_syntax.specs.BoundFits.{value_at}
use Rattle.im_codepred.specs.declared.numbers.Numbers.{Numbers}
use Rattle.im_codepred.specs.declared.numbers.Known.{Known}
use Rattle.im_codepred.specs.declared.numbers.Known.TheVariants as known
use Rattle.im_codepred.specs.declared.numbers.Probe.{Probe}
use Rattle.im_codepred.specs.Asked.{is_met}

-- a number lies between the two, both ends in, or outside of them, where that is asked
abbrev pub has_number : Numbers → ℤ → Bool
has_number numbers x =
    if numbers.inside then int_le numbers.low x && int_le x numbers.high else not (int_le numbers.low x && int_le x numbers.high)

-- of the numbers of 64 bits those are held that pass
abbrev pub Holds : Numbers → (Value → Bool) → Type 0
Holds numbers test = (x : ℤ) → negsuc (2 ^ 63 - 1) ≤ℤ x → x ≤ℤ pos (2 ^ 63 - 1) → has_number numbers x ≡ test (Int x)

-- a value has the truth that is wanted
abbrev pub passes : Probe → Value → Bool
passes probe = is_met probe.wanted probe.asked.now

-- the value of a row in a column has it
abbrev pub passes_in : Probe → ℕ → List Value → Bool
passes_in probe column row = passes probe (value_at row column)

-- what is known is what is asked
abbrev pub IsKnown : Known → (Value → Bool) → Type 0
IsKnown (known.Numbers numbers) test = Holds numbers test
IsKnown (known.Same other) test = (x : Value) → is_eq (order x other.now) ≡ test x
IsKnown known.Nothing test = Unit {0}

abbrev pub IsReady : Probe → Type 0
IsReady probe = IsKnown probe.known (passes probe)
