-- Slots in numbers of 32 bits.
use Rattle.std.specs.Prelude.{ℕ, ◌-◌, ◌^◌, ◌/◌, ◌%◌, ◌<◌, ◌==◌, if◌then◌else◌}
use Rattle.im_blocks.specs.declared.slot.Slot.{Slot}
use Rattle.im_blocks.specs.declared.slot.Slot.TheVariants.{Empty, InRun, InChain}

-- the slot of a number: none of 0, a run of each odd one, a chain of each other one
abbrev pub unpacked : ℕ → Slot
unpacked word = if word == 0 then Empty else (if word % 2 == 1 then InRun (word / 2) else InChain (word / 2 - 1))

-- a run or a chain has a number that finds room
abbrev pub IsNumbered : ℕ → Type 0
IsNumbered number = number < 2 ^ 31 - 1
