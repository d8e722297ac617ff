use Rattle.std.proofs.Common.{◌≡◌, ◌+◌, ◌++◌, ap, sym, ◌∙◌, refl, subst, arith}
use Rattle.im_history.specs.Puts.{put_from}
use Rattle.im_blocks.specs.declared.joining.Joint.{Joint}
use Rattle.im_blocks.specs.inner.Joining.{AreLaid, changes_of}
use Rattle.im_blocks.proofs.JoinLemmas.{joint-more}
use Rattle.im_blocks.proofs.joining.add_rows.Goals as goal

pub returns-clause-added : goal.returns-clause-added
returns-clause-added c =
    let joint = c.args.joint.now in
    let put = c.args.put in
    let tables = c.if-put-joint.false in
    let widths = c.if-width-joint.false in
    let firsts = c.if-put-joint-2.false in
    let table : put.table ≡ joint.table = omega (arith, tables) in
    let width : c.width-width.result ≡ joint.width = omega (arith, widths) in
    let first : put.first ≡ joint.first + joint.count = omega (arith, firsts) in
    let new : Joint = record { table = joint.table; first = joint.first; width = joint.width; count = joint.count + c.len.result; values = c.lay.new.values } in
    λ is.
    (joint-more joint new put.first put.rows.now c.requires.whole
    (subst (λ (n : _). AreLaid n joint.values.items put.rows.now c.lay.new.values.items) width c.in_ok-lay.ensures)
    refl refl refl (ap (λ (n : _). joint.count + n) c.len.ensures) first c.requires.numbers).are
    ∙ ap (λ (n : _). changes_of joint ++ put_from n put.first put.rows.now) (sym table)
