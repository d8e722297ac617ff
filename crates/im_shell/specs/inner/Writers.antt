-- What a writer did with a text.
use Rattle.std.specs.Prelude.{◌≡◌, ℕ, List, Option}
use Rattle.im_shell.specs.declared.writing.Writer.{Writer}
use Rattle.im_shell.specs.inner.Sent.{Sends, SendsPart}

-- it has the same sink and the same text, and shows the same replies
pub record IsSame {K : Type 0} (old new : Writer K) : Type 0 where
  pub sink : new.sink.ghost_name ≡ old.sink.ghost_name
  pub waiting : new.waiting.ghost_name ≡ old.waiting.ghost_name
  pub shown : new.shown ≡ old.shown

-- the sink took a prefix of this text, and what is left waits to be written
abbrev pub HasSent : {K : Type 0} → (K → Option (List ℕ)) → Writer K → Writer K → List ℕ → Type 0
HasSent taken old new text = Sends (taken old.sink.now) (taken new.sink.now) text new.waiting.now

-- the sink took a prefix of this text
abbrev pub HasSentPart : {K : Type 0} → (K → Option (List ℕ)) → Writer K → Writer K → List ℕ → Type 0
HasSentPart taken old new text = SendsPart (taken old.sink.now) (taken new.sink.now) text
