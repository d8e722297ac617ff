use Rattle.std.proofs.Common.{◌≡◌, Err, ap, ⊎_elim, inl, refl}
use Rattle.im_words.specs.declared.fault.WordsFault.TheVariants.{Usage, NoMemory}
use Rattle.im_shell.proofs.EndLemmas.{played-done, played-not_read_fault, played-not_too_long, played-not_usage, played-part, played-write_fault, reading-at_most, reading-count, reading-fault, reading-not_done, reading-not_usage, reading-not_write_fault, words-ends, words-not_done, words-not_read_fault, words-not_too_long, words-not_write_fault, words-usage}
use Rattle.im_shell.proofs.ModeLemmas.{done-for, in-part-for}
use Rattle.im_shell.proofs.top.run.Goals as goal

-- ---- the words were not read

pub returns-in-Err-clause-done : goal.returns-in-Err-clause-done
returns-in-Err-clause-done g c = rw c.end_of_words.ensures (λ ended. absurd (words-not_done _ ended))

pub returns-in-Err-clause-in_part : goal.returns-in-Err-clause-in_part
returns-in-Err-clause-in_part g c = λ ended. inl (refl, inl refl)

pub returns-in-Err-clause-read_to_end : goal.returns-in-Err-clause-read_to_end
returns-in-Err-clause-read_to_end g c = rw c.end_of_words.ensures (λ ended. absurd (words-not_done _ ended))

pub returns-in-Err-clause-usage : goal.returns-in-Err-clause-usage
returns-in-Err-clause-usage g c = rw c.end_of_words.ensures (λ ended. c.in-Err.ensures.usage (words-usage _ ended))

pub returns-in-Err-clause-refused : goal.returns-in-Err-clause-refused
returns-in-Err-clause-refused g c = rw c.end_of_words.ensures (λ refuses. words-ends _)

pub returns-in-Err-clause-good : goal.returns-in-Err-clause-good
returns-in-Err-clause-good g c = rw c.end_of_words.ensures (λ asked good usage.
    let out_of_memory : c.in-Err.fault ≡ NoMemory = c.in-Err.ensures.good asked good in
    let refused : c.in-Err.fault ≡ Usage = words-usage c.in-Err.fault usage in
    let no : Usage ≡ NoMemory = rw refused at out_of_memory in
    cc)

pub returns-in-Err-clause-untouched : goal.returns-in-Err-clause-untouched
returns-in-Err-clause-untouched g c = λ ended. (refl, refl, refl)

pub returns-in-Err-clause-read_fault : goal.returns-in-Err-clause-read_fault
returns-in-Err-clause-read_fault g c = rw c.end_of_words.ensures (λ ended. absurd (words-not_read_fault _ ended))

pub returns-in-Err-clause-write_fault : goal.returns-in-Err-clause-write_fault
returns-in-Err-clause-write_fault g c = rw c.end_of_words.ensures (λ ended. absurd (words-not_write_fault _ ended))

pub returns-in-Err-clause-too_long : goal.returns-in-Err-clause-too_long
returns-in-Err-clause-too_long g c = rw c.end_of_words.ensures (λ ended. absurd (words-not_too_long _ ended))

pub returns-in-Err-clause-unwritten : goal.returns-in-Err-clause-unwritten
returns-in-Err-clause-unwritten g c = λ ended. (refl, refl)

-- ---- there is no script

pub returns-in-Err-script_for-clause-done : goal.returns-in-Err-script_for-clause-done
returns-in-Err-script_for-clause-done g c = rw c.end_of_reading.ensures (λ ended. absurd (reading-not_done _ ended))

pub returns-in-Err-script_for-clause-in_part : goal.returns-in-Err-script_for-clause-in_part
returns-in-Err-script_for-clause-in_part g c = λ ended. inl (refl, inl refl)

pub returns-in-Err-script_for-clause-read_to_end : goal.returns-in-Err-script_for-clause-read_to_end
returns-in-Err-script_for-clause-read_to_end g c = rw c.end_of_reading.ensures (λ ended. absurd (reading-not_done _ ended))

pub returns-in-Err-script_for-clause-usage : goal.returns-in-Err-script_for-clause-usage
returns-in-Err-script_for-clause-usage g c = rw c.end_of_reading.ensures (λ ended. absurd (reading-not_usage _ ended))

pub returns-in-Err-script_for-clause-refused : goal.returns-in-Err-script_for-clause-refused
returns-in-Err-script_for-clause-refused g c = λ refuses. absurd (refuses c.in-Ok.ensures.taken.0)

pub returns-in-Err-script_for-clause-good : goal.returns-in-Err-script_for-clause-good
returns-in-Err-script_for-clause-good g c = rw c.end_of_reading.ensures (λ asked good ended. reading-not_usage _ ended)

pub returns-in-Err-script_for-clause-untouched : goal.returns-in-Err-script_for-clause-untouched
returns-in-Err-script_for-clause-untouched g c = rw c.end_of_reading.ensures (λ ended. absurd (reading-not_usage _ ended))

pub returns-in-Err-script_for-clause-read_fault : goal.returns-in-Err-script_for-clause-read_fault
returns-in-Err-script_for-clause-read_fault g c =
    rw c.end_of_reading.ensures (λ ended. c.in-Err-script_for.ensures.fault (ap (λ e. Err e) (reading-fault _ ended)))

pub returns-in-Err-script_for-clause-write_fault : goal.returns-in-Err-script_for-clause-write_fault
returns-in-Err-script_for-clause-write_fault g c = rw c.end_of_reading.ensures (λ ended. absurd (reading-not_write_fault _ ended))

pub returns-in-Err-script_for-clause-too_long : goal.returns-in-Err-script_for-clause-too_long
returns-in-Err-script_for-clause-too_long g c =
    rw c.end_of_reading.ensures (reading-count c.script_for.result _ _ _ _ c.in-Err-script_for.is c.script_for.ensures.limit)

pub returns-in-Err-script_for-clause-not_too_long : goal.returns-in-Err-script_for-clause-not_too_long
returns-in-Err-script_for-clause-not_too_long g c =
    rw c.end_of_reading.ensures (reading-at_most c.script_for.result _ _ _ _ c.in-Err-script_for.is c.script_for.ensures.limit)

pub returns-in-Err-script_for-clause-unwritten : goal.returns-in-Err-script_for-clause-unwritten
returns-in-Err-script_for-clause-unwritten g c = λ ended. (refl, refl)

-- ---- the script was played

pub returns-clause-done : goal.returns-clause-done
returns-clause-done g c = rw c.end_of_play.ensures (λ ended.
    done-for c.args.words.now c.in-Ok.asked _ _ _ c.in-Ok-script_for.script.items c.as_slice.result.now c.in-Ok.ensures.taken c.in-Ok.ensures.good
    c.in-Ok-script_for.ensures.script c.as_slice.ensures.value _ _ (played-done _ ended c.play_for.ensures.ok))

pub returns-clause-in_part : goal.returns-clause-in_part
returns-clause-in_part g c = rw c.end_of_play.ensures (λ ended.
    in-part-for c.args.words.now c.in-Ok.asked _ _ _ c.in-Ok-script_for.script.items c.as_slice.result.now c.in-Ok.ensures.taken c.in-Ok.ensures.good
    c.in-Ok-script_for.ensures.script c.as_slice.ensures.value _ _ (played-part _ ended c.play_for.ensures.err))

pub returns-clause-usage : goal.returns-clause-usage
returns-clause-usage g c = rw c.end_of_play.ensures (λ ended. absurd (played-not_usage _ ended))

pub returns-clause-refused : goal.returns-clause-refused
returns-clause-refused g c = λ refuses. absurd (refuses c.in-Ok.ensures.taken.0)

pub returns-clause-good : goal.returns-clause-good
returns-clause-good g c = rw c.end_of_play.ensures (λ asked good ended. played-not_usage _ ended)

pub returns-clause-untouched : goal.returns-clause-untouched
returns-clause-untouched g c = rw c.end_of_play.ensures (λ ended. absurd (played-not_usage _ ended))

pub returns-clause-read_fault : goal.returns-clause-read_fault
returns-clause-read_fault g c = rw c.end_of_play.ensures (λ ended. absurd (played-not_read_fault _ ended))

pub returns-clause-write_fault : goal.returns-clause-write_fault
returns-clause-write_fault g c = rw c.end_of_play.ensures (λ ended. c.play_for.ensures.cause (played-write_fault _ ended))

pub returns-clause-too_long : goal.returns-clause-too_long
returns-clause-too_long g c = rw c.end_of_play.ensures (λ ended. absurd (played-not_too_long _ ended))

pub returns-clause-not_too_long : goal.returns-clause-not_too_long
returns-clause-not_too_long g c = λ other. c.in-Ok-script_for.ensures.limit

pub returns-clause-unwritten : goal.returns-clause-unwritten
returns-clause-unwritten g c =
    rw c.end_of_play.ensures (λ ended. absurd (⊎_elim (played-not_read_fault _) (played-not_too_long _) ended))
