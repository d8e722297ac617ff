-- Where the extents of builds are kept, and how one extent is taken out.
use Rattle.std.specs.Prelude.{◌≡◌, ℕ, false, map, Some, None, if◌then◌else◌}
use Rattle.std.specs.Option.{option_map}
use Rattle.im_tables.specs.Table.{HasCell}
use Rattle.im_history.specs.declared.entry.What.TheVariants.{Evict}
use Rattle.im_history.specs.declared.task.Held.{Held}
use Rattle.im_history.specs.Units.{drops, killed_by}
use Rattle.im_directory.specs.Slots.{Kept, build_in, told_at}
use Rattle.im_directory.specs.Sound.{IsSound}

module _ {U : Type 0} where
  -- what always holds of what is kept, and the extent of each held build has a place
  pub record IsPlaced (kept : Kept U) : Type 0 where
    pub sound : IsSound kept
    pub room : (id : ℕ) (held : Held) → build_in kept id ≡ Some held → HasCell kept.slots held.task.table held.task.extent

  -- an entry at this place took this extent out of the column store: its unit is gone, and its living build is killed
  pub record IsOut (old new : Kept U) (place table extent : ℕ) : Type 0 where
    pub slots : (t e : ℕ) → told_at new t e ≡
        (if drops t e (Evict table extent) then record { current = None; growing = None; waits = false } else told_at old t e)
    pub builds : new.builds ≡ map (option_map (killed_by place (Evict table extent))) old.builds
