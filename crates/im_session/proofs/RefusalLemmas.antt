-- The reply of a line whose call was refused, told apart by the cause.
use Rattle.std.proofs.Common.{◌≡◌, ℕ, ◌⊎◌, inl, inr, List, [], refl}
use Rattle.im_history.specs.declared.refused.Why.{Why}
use Rattle.im_history.specs.declared.refused.Why.TheVariants as why
use Rattle.im_replies.specs.declared.fault.Fault.{Fault}
use Rattle.im_replies.specs.declared.served.Served.{Served}
use Rattle.im_replies.specs.declared.aim.Aim.TheVariants as aim
use Rattle.im_replies.specs.Causes.{fault_of}
use Rattle.im_session.specs.inner.Refusals.{refused_so}
use Rattle.im_session.specs.inner.Writes.{write_reply}
use Rattle.im_session.specs.Reads.{IsOutOfMemory}
use Rattle.im_statements.specs.Turns.{refused_reply}

pub refused-told : (tells : Why → Fault) (k place : ℕ) (cause : Why) → refused_so k place [] (tells cause) cause ≡ refused_reply tells k place cause
refused-told tells k place why.NoMemory = refl
refused-told tells k place _ = refl

pub write-refused : (k place : ℕ) (marks : List Served) (cause : Why)
    → refused_so k place marks (fault_of aim.Plain cause) cause ≡ write_reply k place marks cause
write-refused k place marks why.NoMemory = refl
write-refused k place marks _ = refl

-- it has the marks of the line, unless memory was out
pub write-marks : (k place : ℕ) (marks : List Served) (cause : Why)
    → ((write_reply k place marks cause).marks ≡ marks) ⊎ IsOutOfMemory (write_reply k place marks cause)
write-marks k place marks why.NoMemory = inr (k, refl)
write-marks k place marks _ = inl refl
