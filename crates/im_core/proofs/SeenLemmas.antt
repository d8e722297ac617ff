-- A store as contracts see it.
use Rattle.std.proofs.Common.{◌≡◌, subst}
use Rattle.im_history.specs.declared.limits.Limits.{Limits}
use Rattle.im_history.specs.Stored.{Stored}
use Rattle.im_history.specs.Units.{Content}
use Rattle.im_core.specs.inner.Holds.{Caches, Holds}
use Rattle.im_core.specs.Seen.{Seen}

-- what is kept agrees with the history that is seen
pub Holds-seen : {U : Type 0} {content : U → Content} {limits : Limits} {history : Stored} {caches : Caches U} {seen : Seen}
    → Holds content limits history caches → record { limits = limits; log = history.entries } ≡ seen
    → Holds content seen.limits (record { entries = seen.log; spare = history.spare }) caches
Holds-seen {U} {content} {limits} {history} {caches} holds is =
    subst (λ (s : Seen). Holds content s.limits (record { entries = s.log; spare = history.spare }) caches) is holds
