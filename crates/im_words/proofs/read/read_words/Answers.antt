use Rattle.std.proofs.Common.{◌∙◌, refl}
use Rattle.im_words.proofs.ReadLemmas.{good_fails, if_err, map-same, match_err, numbers_found, refuses, takes_them}
use Rattle.im_words.proofs.TakenLemmas.{good_words}
use Rattle.im_words.specs.Command.{modes}
use Rattle.im_words.proofs.read.read_words.Goals as goal

pub returns-in_err-matches-clause-usage : goal.returns-in_err-matches-clause-usage
returns-in_err-matches-clause-usage c =
    if_err _ _ _ c.from_residual-in_err-matches.ensures.1 (λ fault by.
    refuses _ _ _ c.in_err-matches.field-0.0 fault c.in_ok-command.ensures (map-same c.args.words.now) c.in_err-matches.ensures.kinds by)

pub returns-clause-taken : goal.returns-clause-taken
returns-clause-taken c =
    takes_them _ _ _ _ _ c.in_ok-command.ensures (map-same c.args.words.now) c.in_ok-matches.ensures.kinds
    c.in_ok-matches.ensures.matches c.asked_of.ensures.asked

pub returns-in_err-matches-clause-good : goal.returns-in_err-matches-clause-good
returns-in_err-matches-clause-good c asked good =
    match_err _ _ _ _ c.from_residual-in_err-matches.ensures.1 (λ fault by.
    good_fails _ _ _ c.in_err-matches.field-0.0 fault c.in_ok-command.ensures (map-same c.args.words.now)
    (good_words modes refl c.args.words.now asked good).0 c.in_err-matches.ensures.kinds by)

pub returns-clause-good : goal.returns-clause-good
returns-clause-good c asked good =
    let taken = takes_them _ _ _ _ _ c.in_ok-command.ensures (map-same c.args.words.now) c.in_ok-matches.ensures.kinds
    c.in_ok-matches.ensures.matches c.asked_of.ensures.asked in
    taken.1 ∙ (good_words modes refl c.args.words.now asked good).1

pub asked_of-requires : goal.asked_of-requires
asked_of-requires c = record {
  numbers = numbers_found _ _ c.args.words.now _ c.in_ok-command.ensures (map-same c.args.words.now) c.in_ok-matches.ensures.kinds
      c.in_ok-matches.ensures.matches;
}
