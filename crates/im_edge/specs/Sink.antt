-- What one write does.
use Rattle.std.specs.Prelude.{◌≡◌, ℕ, ◌<◌, ◌≤◌, List, take, Option, ⊤}
use Rattle.std.specs.Io.KnownBytes.{append_known}
use Rattle.im_edge.specs.declared.sink.Put.{Put}
use Rattle.im_edge.specs.declared.sink.Put.TheVariants.{Bytes, Failed}

-- the bytes that were taken are at least one, and no more than the piece has
abbrev pub IsInPiece : Put → ℕ → Type 0
IsInPiece (Bytes n) size = (0 < n) × (n ≤ size)
IsInPiece Failed size = ⊤

-- what is taken now is what was taken before and then the bytes off the front of the piece
abbrev pub Writes : Put → List ℕ → Option (List ℕ) → Option (List ℕ) → Type 0
Writes (Bytes n) piece before after = after ≡ append_known before (take n piece)
Writes Failed piece before after = after ≡ before

-- a fact of a write that failed
abbrev pub IfWriteFailed : Put → Type 0 → Type 0
IfWriteFailed (Bytes n) P = ⊤
IfWriteFailed Failed P = P
