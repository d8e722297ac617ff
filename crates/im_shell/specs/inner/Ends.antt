-- How a run ends: which status comes of what.
use Rattle.std.specs.Prelude.{Result, Ok, Err, ⊤}
use Rattle.im_edge.specs.declared.reading.ReadError.{ReadError}
use Rattle.im_edge.specs.declared.reading.ReadError.TheVariants as read
use Rattle.im_shell.specs.declared.status.Status.{Status}
use Rattle.im_shell.specs.declared.status.Status.TheVariants as status
use Rattle.im_shell.specs.declared.writing.Stop.{Stop}
use Rattle.im_shell.specs.declared.writing.Stop.TheVariants as stop
use Rattle.im_words.specs.declared.fault.WordsFault.{WordsFault}
use Rattle.im_words.specs.declared.fault.WordsFault.TheVariants as words

-- of words that were not read
abbrev pub end_of_words : WordsFault → Status
end_of_words words.Usage = status.Usage
end_of_words words.NoMemory = status.NoMemory

-- of a script that is not there
abbrev pub end_of_reading : ReadError → Status
end_of_reading read.Fault = status.ReadFault
end_of_reading read.TooLong = status.ScriptTooLong
end_of_reading read.NoMemory = status.NoMemory

-- of a script that was played, to its end or not
abbrev pub end_of_play : Result ⊤ Stop → Status
end_of_play (Ok done) = status.Done
end_of_play (Err stop.WriteFault) = status.WriteFault
end_of_play (Err stop.NoMemory) = status.NoMemory
