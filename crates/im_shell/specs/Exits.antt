-- How a run ends for those who started the program: its exit status, and its line on standard error.
use Rattle.std.specs.Prelude.{ℕ, List, Option, Some, None, codes}
use Rattle.im_shell.specs.declared.status.Status.{Status}
use Rattle.im_shell.specs.declared.status.Status.TheVariants as status

-- the exit status
abbrev pub code_of : Status → ℕ
code_of status.Done = 0
code_of status.Usage = 1
code_of status.ReadFault = 2
code_of status.WriteFault = 3
code_of status.NoMemory = 4
code_of status.ScriptTooLong = 5

-- the line on standard error: there is none where the whole script was played
abbrev pub line_of : Status → Option (List ℕ)
line_of status.Done = None
line_of status.Usage = Some (codes "ime: usage: ime run|race|gen [--area N] [--workers N] [--turns N] [--rows N] [--seed N]")
line_of status.ReadFault = Some (codes "ime: read failed")
line_of status.WriteFault = Some (codes "ime: write failed")
line_of status.NoMemory = Some (codes "ime: no memory")
line_of status.ScriptTooLong = Some (codes "ime: script too long")
