use Rattle.std.proofs.Common.{◌≡◌, ◌≢◌, ◌∷◌, [], ◌∙◌, length, sym, ap, arith}
use Rattle.std.proofs.lemmas.List.{length-append}
use Rattle.im_lex.specs.Bytes.{front}
use Rattle.im_lex.proofs.Rounds.{token_room, so_far_none, found_at_stop, found_at_end, bad_here, met_before, so_far-blank, so_far-token, followed, below_most}
use Rattle.im_lex.proofs.lexing.read_tokens.Goals as goal
use Rattle.im_lex.proofs.lexing.read_tokens.Goals.{in-Blank, in-Lexed+else-len-most+in_ok-push-in-Lexed}

pub loop-init : goal.loop-init
loop-init c = rw c.in_ok-tokens.ensures.items (so_far_none c.args.line.now, omega arith, omega arith, omega arith)

pub returns-in-Stop-clause-found : goal.returns-in-Stop-clause-found
returns-in-Stop-clause-found c =
    (found_at_stop _ _ _ c.loop.invariant.0 (ap front (sym c.behind.ensures) ∙ sym c.in_ok-front.ensures ∙ c.in-Stop.is), c.loop.invariant.3)

pub returns-in-Bad-clause-bad : goal.returns-in-Bad-clause-bad
returns-in-Bad-clause-bad c =
    bad_here _ _ _ c.loop.invariant.0 (ap front (sym c.behind.ensures) ∙ sym c.in_ok-front.ensures ∙ c.in-Bad.is)

pub returns-in-Bad-clause-before : goal.returns-in-Bad-clause-before
returns-in-Bad-clause-before c =
    met_before _ _ _ c.loop.invariant.0 c.args.most (ap front (sym c.behind.ensures) ∙ sym c.in_ok-front.ensures ∙ c.in-Bad.is) c.loop.invariant.3

pub returns-clause-found : goal.returns-clause-found
returns-clause-found c = (found_at_end _ _ _ c.loop.invariant.0 (omega (arith, c.loop.invariant.1, c.loop-test.false)), c.loop.invariant.3)

pub overflow_add-at-in-Lexed-2 : goal.overflow_add-at-in-Lexed-2
overflow_add-at-in-Lexed-2 c =
    let room = token_room _ c.args.line.now c.in-Lexed.token c.in-Lexed.more c.loop.invariant.0.within
    (ap front (sym c.behind.ensures) ∙ sym c.in_ok-front.ensures ∙ c.in-Lexed.is) in
    omega arith

pub returns-then-len-most-clause-found : goal.returns-then-len-most-clause-found
returns-then-len-most-clause-found c =
    let count : length c.loop.tokens.items ≡ c.args.most = omega (arith, c.loop.tokens.ok, c.len.ensures, c.if-len-most.true) in
    followed _ _ _ c.loop.invariant.0 c.args.most c.in-Lexed.token c.in-Lexed.more
    (ap front (sym c.behind.ensures) ∙ sym c.in_ok-front.ensures ∙ c.in-Lexed.is) count (omega (arith, count, c.loop.invariant.2))

pub loop-preserved : goal.loop-preserved
loop-preserved c =
    elim c.match-branch-3.branch [
      | in-Blank w ↦
          rw (w.tokens-is, w.at-is) (
            so_far-blank _ _ _ c.loop.invariant.0 (ap front (sym c.behind.ensures) ∙ sym c.in_ok-front.ensures ∙ w.in-Blank.is),
            omega (arith, c.loop.invariant.1),
            omega (arith, c.loop.invariant.2),
            c.loop.invariant.3,
          )
      | in-Lexed+else-len-most+in_ok-push-in-Lexed w ↦
          let fewer : length c.loop.tokens.items ≢ c.args.most =
          λ (same : length c.loop.tokens.items ≡ c.args.most). w.if-len-most.false (omega (arith, c.loop.tokens.ok, w.len.ensures, same)) in
          let one = length-append c.loop.tokens.items (w.in-Lexed.token ∷ []) in
          let most = c.loop.invariant.3 in
          let some = c.loop.invariant.2 in
          rw (w.tokens-is, w.at-is, w.in_ok-push-in-Lexed.ensures.items) (
            so_far-token _ _ _ c.loop.invariant.0 w.in-Lexed.token w.in-Lexed.more
                (ap front (sym c.behind.ensures) ∙ sym c.in_ok-front.ensures ∙ w.in-Lexed.is),
            omega (arith, c.loop.invariant.1),
            omega arith,
            below_most _ _ most fewer one,
          )
    ]
