-- What one read does.
use Rattle.std.specs.Prelude.{◌≡◌, ℕ, ◌<◌, ◌≤◌, List, [], take, Option, IfSome, ⊤}
use Rattle.std.specs.Io.KnownBytes.{prepend_known}
use Rattle.im_edge.specs.declared.source.Got.{Got}
use Rattle.im_edge.specs.declared.source.Got.TheVariants.{Bytes, End, Failed}

-- the bytes that came are at least one, and no more than there was room for
abbrev pub IsInRoom : Got → ℕ → Type 0
IsInRoom (Bytes n) room = (0 < n) × (n ≤ room)
IsInRoom End room = ⊤
IsInRoom Failed room = ⊤

-- nothing is left, where the source shows it
abbrev pub IsSpent : Option (List ℕ) → Type 0
IsSpent left = IfSome left (λ bytes. bytes ≡ [])

-- What was left is the bytes that came and then what is left now. At the end nothing is left.
abbrev pub HandsOut : Got → List ℕ → Option (List ℕ) → Option (List ℕ) → Type 0
HandsOut (Bytes n) buffer before after = before ≡ prepend_known (take n buffer) after
HandsOut End buffer before after = (after ≡ before) × IsSpent before
HandsOut Failed buffer before after = after ≡ before

-- a fact of a read that failed
abbrev pub IfReadFailed : Got → Type 0 → Type 0
IfReadFailed (Bytes n) P = ⊤
IfReadFailed End P = ⊤
IfReadFailed Failed P = P
