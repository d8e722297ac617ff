-- What is kept of an extent, from whether it waits and its journals.
use Rattle.std.specs.Prelude.{Bool, false, Option, Some, None}
use Rattle.std.specs.declared.alloc.Global.{Global}
use Rattle.std.specs.declared.boxed.Box.{Box}
use Rattle.im_directory.specs.declared.journals.Journals.{Journals}
use Rattle.im_directory.specs.Slots.{Slot, nothing}

module _ {U : Type 0} where
  -- an extent with these journals, which does not wait
  abbrev pub whole : Journals U → Slot U
  whole journals = record { current = journals.current; growing = journals.growing; waits = false; wanted = journals.wanted }

  -- the same extent, waiting or not
  abbrev pub waiting : Bool → Slot U → Slot U
  waiting waits slot = record slot { waits = waits }

  -- an extent that waits or not, with journals or none
  abbrev pub slot_of : Bool → Option (Box (Journals U) Global) → Slot U
  slot_of waits None = waiting waits nothing
  slot_of waits (Some journals) = waiting waits (whole journals.value)
