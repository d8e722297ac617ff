-- What reading a source to its end gives.
use Rattle.std.specs.Prelude.{◌≡◌, ℕ, ◌+◌, ◌≤◌, List, length, Option, Result, Ok, Err}
use Rattle.std.specs.Io.KnownBytes.{prepend_known}
use Rattle.im_edge.specs.declared.reading.ReadError.{ReadError}
use Rattle.im_edge.specs.declared.reading.ReadError.TheVariants as errors

-- the bytes came off the front: what was left is these bytes and then what is left now
abbrev pub Gave : Option (List ℕ) → Option (List ℕ) → List ℕ → Type 0
Gave before after bytes = before ≡ prepend_known bytes after

-- some bytes, and no more than so many, came off the front
pub record GaveAtMost (before after : Option (List ℕ)) (most : ℕ) : Type 0 where
  pub bytes : List ℕ
  pub few : length bytes ≤ most
  pub gave : Gave before after bytes

-- so many bytes came off the front
pub record GaveCount (before after : Option (List ℕ)) (count : ℕ) : Type 0 where
  pub bytes : List ℕ
  pub size : length bytes ≡ count
  pub gave : Gave before after bytes

-- More bytes than the limit were read, namely one more, exactly where the answer is that there are too many.
abbrev pub KeepsLimit : {T : Type 0} → ℕ → Result T ReadError → Option (List ℕ) → Option (List ℕ) → Type 0
KeepsLimit most (Ok bytes) before after = GaveAtMost before after most
KeepsLimit most (Err errors.Fault) before after = GaveAtMost before after most
KeepsLimit most (Err errors.TooLong) before after = GaveCount before after (most + 1)
KeepsLimit most (Err errors.NoMemory) before after = GaveAtMost before after most
