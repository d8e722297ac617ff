-- Who left.
use Rattle.std.specs.Prelude.{ℕ, ◌+◌, ◌==◌, ◌&&◌, ◌||◌, Bool, false, if◌then◌else◌}
use Rattle.im_history.specs.declared.entry.What.{What}
use Rattle.im_history.specs.History.{History, replay}
use Rattle.im_history.specs.Kinds.{scope_of}

-- the entry is a Leave
abbrev pub is_leave : What → Bool
is_leave what = (scope_of what).leaves

-- how many sessions left
unfoldable pub leaves : History → ℕ
leaves history = replay (λ before so_far entry. if is_leave entry.what then so_far + 1 else so_far) 0 history

-- the session left
unfoldable pub has_left : History → ℕ → Bool
has_left history who = replay (λ before so_far entry. so_far || ((entry.who == who) && is_leave entry.what)) false history
