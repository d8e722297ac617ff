-- What a source and a sink in memory answer, and what they become.
use Rattle.std.specs.Prelude.{ℕ, ◌-◌, ◌==◌, ◌||◌, min, nat_lt, Bool, List, ◌++◌, length, take, drop, if◌then◌else◌}
use Rattle.std.specs.List.{list_any}
use Rattle.im_edge.specs.Faults.{one_more}
use Rattle.im_edge.specs.declared.source.Got.{Got}
use Rattle.im_edge.specs.declared.source.Got.TheVariants as got
use Rattle.im_edge.specs.declared.sink.Put.{Put}
use Rattle.im_edge.specs.declared.sink.Put.TheVariants as put

-- the bytes that are left, the most that one call hands out, the numbers of the calls that fail, the calls and the faults so far
pub record Supply : Type 0 where
  pub left : List ℕ
  pub piece : ℕ
  pub fails : List ℕ
  pub calls : ℕ
  pub faults : ℕ

-- the bytes taken so far, how many more there is room for, the most that one call takes, and the rest as above
pub record Intake : Type 0 where
  pub taken : List ℕ
  pub room : ℕ
  pub piece : ℕ
  pub fails : List ℕ
  pub calls : ℕ
  pub faults : ℕ

-- the call after so many is one of those that fail
abbrev pub fails_next : List ℕ → ℕ → Bool
fails_next fails calls = list_any (λ number. number == one_more calls) fails

-- what a read with this much room answers
abbrev pub answer_to_read : Supply → ℕ → Got
answer_to_read s room =
    if fails_next s.fails s.calls then got.Failed
    else (if length s.left == 0 then got.End else got.Bytes (min (min s.piece room) (length s.left)))

-- the source after that answer
abbrev pub after_read : Supply → Got → Supply
after_read s (got.Bytes n) = record s { left = drop n s.left; calls = one_more s.calls }
after_read s got.End = record s { calls = one_more s.calls }
after_read s got.Failed = record s { calls = one_more s.calls; faults = one_more s.faults }

-- what a write of a piece of this length answers: a write past the room fails
abbrev pub answer_to_write : Intake → ℕ → Put
answer_to_write s size =
    if fails_next s.fails s.calls || nat_lt s.room (min s.piece size) then put.Failed
    else put.Bytes (min s.piece size)

-- the sink after that answer
abbrev pub after_write : Intake → List ℕ → Put → Intake
after_write s piece (put.Bytes n) = record s { taken = s.taken ++ take n piece; room = s.room - n; calls = one_more s.calls }
after_write s piece put.Failed = record s { calls = one_more s.calls; faults = one_more s.faults }
