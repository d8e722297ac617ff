-- What the single steps of making changes ready do.
use Rattle.std.specs.Prelude.{◌≡◌, List, ◌++◌}
use Rattle.std.specs.List.{All}
use Rattle.im_history.specs.declared.change.Change.{Change}
use Rattle.im_blocks.specs.declared.ready.Ready.{Ready}
use Rattle.im_blocks.specs.Chains.{AllVersions}
use Rattle.im_blocks.specs.Readied.{HasPlace, ready_changes}

-- these changes are ready behind others, and there is room for all
pub record AreReady (blocks : AllVersions) (old new : List Ready) (changes : List Change) : Type 0 where
  pub changes_are : ready_changes new ≡ ready_changes old ++ changes
  pub each : All (HasPlace blocks) new
