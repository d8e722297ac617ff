use Rattle.check_store.proofs.limits.holds.Given as goal

-- the ledger of the count is the blank's
abbrev pub ghosts-reply_within : goal.ghosts-reply_within
ghosts-reply_within g a = record { name = a.blank.name; parts = a.blank.parts }
