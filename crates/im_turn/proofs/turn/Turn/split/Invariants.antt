use Rattle.im_turn.proofs.turn.Turn.split.Given as goal

-- the number that is given
abbrev pub ghosts-cut : goal.ghosts-cut
ghosts-cut g a = record { number = a.who }
