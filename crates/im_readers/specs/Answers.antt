-- What the code answers, held against what reading gives.
use Rattle.std.specs.Prelude.{◌≡◌, Result, Ok, Err}
use Rattle.im_readers.specs.Reading.{Read, Stopped}
use Rattle.im_readers.specs.declared.halt.Halt.{Halt}
use Rattle.im_readers.specs.declared.halt.Halt.TheVariants.{Left, NoMemory}

-- a reader of the code stops where reading stops, unless memory ran out
abbrev pub Halts : {T A : Type 0} → Halt → Read T A → Type 0
Halts (Left left) read = read ≡ Stopped left
Halts NoMemory read = Unit {0}

-- a reader of the code gives, seen by view, what reading gives, unless memory ran out
abbrev pub Gives : {X T A : Type 0} → (X → Read T A) → Result X Halt → Read T A → Type 0
Gives view (Ok x) read = read ≡ view x
Gives view (Err e) read = Halts e read
