-- What the adapters pass on of a reader and a writer of std, where std knows the bytes of these.
use Rattle.std.specs.Prelude.{ℕ, List, [], take, Option}
use Rattle.std.specs.Io.KnownBytes.{Appends, Consumes, IsAtEnd, Keeps}
use Rattle.im_edge.specs.Faults.{one_more}
use Rattle.im_edge.specs.declared.source.Got.{Got}
use Rattle.im_edge.specs.declared.source.Got.TheVariants as got
use Rattle.im_edge.specs.declared.sink.Put.{Put}
use Rattle.im_edge.specs.declared.sink.Put.TheVariants as put

-- an adapter as contracts see it: what it adapts, and its count of faults
pub record Adapter (X : Type 0) : Type 0 where
  pub adapted : X
  pub faults : ℕ

-- the bytes that came are off the reader's front; at the end nothing is left there, and a fault leaves it as it was
abbrev pub PassesOn : Got → List ℕ → Option (List ℕ) → Option (List ℕ) → Type 0
PassesOn (got.Bytes n) buffer before after = Consumes before after (take n buffer)
PassesOn got.End buffer before after = Consumes before after [] × IsAtEnd after
PassesOn got.Failed buffer before after = Keeps before after

-- the bytes that were taken stand behind those that the writer held, and a fault leaves it as it was
abbrev pub HandsOn : Put → List ℕ → Option (List ℕ) → Option (List ℕ) → Type 0
HandsOn (put.Bytes n) piece before after = Appends before after (take n piece)
HandsOn put.Failed piece before after = Keeps before after

-- the count of faults after a read: one more where it failed, and the same elsewhere
abbrev pub faults_after_read : Got → ℕ → ℕ
faults_after_read (got.Bytes n) faults = faults
faults_after_read got.End faults = faults
faults_after_read got.Failed faults = one_more faults

-- the count of faults after a write: one more where it failed, and the same elsewhere
abbrev pub faults_after_write : Put → ℕ → ℕ
faults_after_write (put.Bytes n) faults = faults
faults_after_write put.Failed faults = one_more faults
