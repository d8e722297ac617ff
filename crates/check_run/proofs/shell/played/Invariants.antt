use Rattle.check_run.proofs.shell.played.Given as goal

-- the ledger of each count is the blank's
abbrev pub ghosts-outcome : goal.ghosts-outcome
ghosts-outcome g a = record { name = a.blank.name; parts = a.blank.parts }
