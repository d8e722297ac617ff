-- What came before, told from the status that a run ends with.
use Rattle.std.specs.Prelude.{⊤}
use Rattle.std.proofs.Common.{◌≡◌, ◌⊎◌, ◌+◌, ℕ, List, Option, Result, Ok, Err, OnOk, OnErr, IsErrOf, ap, inl, inr, refl, subst, ◌∙◌}
use Rattle.im_edge.specs.Reading.{GaveAtMost, GaveCount, KeepsLimit}
use Rattle.im_edge.specs.declared.reading.ReadError.{ReadError}
use Rattle.im_edge.specs.declared.reading.ReadError.TheVariants as read
use Rattle.im_shell.specs.declared.status.Status.TheVariants.{Done, Usage, ReadFault, WriteFault, NoMemory, ScriptTooLong}
use Rattle.im_shell.specs.declared.writing.Stop.{Stop}
use Rattle.im_shell.specs.declared.writing.Stop.TheVariants as stop
use Rattle.im_shell.specs.inner.Ends.{end_of_play, end_of_reading, end_of_words}
use Rattle.im_words.specs.declared.fault.WordsFault.{WordsFault}
use Rattle.im_words.specs.declared.fault.WordsFault.TheVariants as words

-- ---- of words that were not read

pub words-ends : (fault : WordsFault) → (end_of_words fault ≡ Usage) ⊎ (end_of_words fault ≡ NoMemory)
words-ends words.Usage = inl refl
words-ends words.NoMemory = inr refl

pub words-usage : (fault : WordsFault) → end_of_words fault ≡ Usage → fault ≡ words.Usage
words-usage words.Usage ended = refl
words-usage words.NoMemory ended = absurd (cc ended)

pub words-not_done : (fault : WordsFault) → ¬ (end_of_words fault ≡ Done)
words-not_done words.Usage ended = cc ended
words-not_done words.NoMemory ended = cc ended

pub words-not_read_fault : (fault : WordsFault) → ¬ (end_of_words fault ≡ ReadFault)
words-not_read_fault words.Usage ended = cc ended
words-not_read_fault words.NoMemory ended = cc ended

pub words-not_write_fault : (fault : WordsFault) → ¬ (end_of_words fault ≡ WriteFault)
words-not_write_fault words.Usage ended = cc ended
words-not_write_fault words.NoMemory ended = cc ended

pub words-not_too_long : (fault : WordsFault) → ¬ (end_of_words fault ≡ ScriptTooLong)
words-not_too_long words.Usage ended = cc ended
words-not_too_long words.NoMemory ended = cc ended

-- ---- of a script that is not there

pub reading-fault : (error : ReadError) → end_of_reading error ≡ ReadFault → error ≡ read.Fault
reading-fault read.Fault ended = refl
reading-fault read.TooLong ended = absurd (cc ended)
reading-fault read.NoMemory ended = absurd (cc ended)

pub reading-too_long : (error : ReadError) → end_of_reading error ≡ ScriptTooLong → error ≡ read.TooLong
reading-too_long read.Fault ended = absurd (cc ended)
reading-too_long read.TooLong ended = refl
reading-too_long read.NoMemory ended = absurd (cc ended)

pub reading-count : {T : Type 0} (script : Result T ReadError) (error : ReadError) (most : ℕ) (before after : Option (List ℕ)) → script ≡ Err error
    → KeepsLimit most script before after → end_of_reading error ≡ ScriptTooLong → GaveCount before after (most + 1)
reading-count script error most before after is keeps ended =
    subst (λ (s : Result _ ReadError). KeepsLimit most s before after) (is ∙ ap (λ (e : ReadError). Err e) (reading-too_long error ended)) keeps

pub reading-at_most : {T : Type 0} (script : Result T ReadError) (error : ReadError) (most : ℕ) (before after : Option (List ℕ)) → script ≡ Err error
    → KeepsLimit most script before after → ¬ (end_of_reading error ≡ ScriptTooLong) → GaveAtMost before after most
reading-at_most (Ok bytes) error most before after is keeps other = keeps
reading-at_most (Err read.Fault) error most before after is keeps other = keeps
reading-at_most (Err read.TooLong) read.Fault most before after is keeps other = absurd (cc is)
reading-at_most (Err read.TooLong) read.TooLong most before after is keeps other = absurd (other refl)
reading-at_most (Err read.TooLong) read.NoMemory most before after is keeps other = absurd (cc is)
reading-at_most (Err read.NoMemory) error most before after is keeps other = keeps

pub reading-not_done : (error : ReadError) → ¬ (end_of_reading error ≡ Done)
reading-not_done read.Fault ended = cc ended
reading-not_done read.TooLong ended = cc ended
reading-not_done read.NoMemory ended = cc ended

pub reading-not_usage : (error : ReadError) → ¬ (end_of_reading error ≡ Usage)
reading-not_usage read.Fault ended = cc ended
reading-not_usage read.TooLong ended = cc ended
reading-not_usage read.NoMemory ended = cc ended

pub reading-not_write_fault : (error : ReadError) → ¬ (end_of_reading error ≡ WriteFault)
reading-not_write_fault read.Fault ended = cc ended
reading-not_write_fault read.TooLong ended = cc ended
reading-not_write_fault read.NoMemory ended = cc ended

-- ---- of a script that was played

pub played-done : {P : Type 0} (played : Result ⊤ Stop) → end_of_play played ≡ Done → OnOk played P → P
played-done (Ok done) ended p = p
played-done (Err stop.WriteFault) ended p = absurd (cc ended)
played-done (Err stop.NoMemory) ended p = absurd (cc ended)

pub played-part : {P : Type 0} (played : Result ⊤ Stop) → (end_of_play played ≡ WriteFault) ⊎ (end_of_play played ≡ NoMemory) → OnErr played P → P
played-part (Ok done) (inl ended) p = absurd (cc ended)
played-part (Ok done) (inr ended) p = absurd (cc ended)
played-part (Err error) ended p = p

pub played-write_fault : (played : Result ⊤ Stop) → end_of_play played ≡ WriteFault → IsErrOf played stop.WriteFault
played-write_fault (Ok done) ended = absurd (cc ended)
played-write_fault (Err stop.WriteFault) ended = refl
played-write_fault (Err stop.NoMemory) ended = absurd (cc ended)

pub played-not_usage : (played : Result ⊤ Stop) → ¬ (end_of_play played ≡ Usage)
played-not_usage (Ok done) ended = cc ended
played-not_usage (Err stop.WriteFault) ended = cc ended
played-not_usage (Err stop.NoMemory) ended = cc ended

pub played-not_read_fault : (played : Result ⊤ Stop) → ¬ (end_of_play played ≡ ReadFault)
played-not_read_fault (Ok done) ended = cc ended
played-not_read_fault (Err stop.WriteFault) ended = cc ended
played-not_read_fault (Err stop.NoMemory) ended = cc ended

pub played-not_too_long : (played : Result ⊤ Stop) → ¬ (end_of_play played ≡ ScriptTooLong)
played-not_too_long (Ok done) ended = cc ended
played-not_too_long (Err stop.WriteFault) ended = cc ended
played-not_too_long (Err stop.NoMemory) ended = cc ended
