use Rattle.std.proofs.Common.{◌≡◌, Bool, true, Some, rules, sym, ◌∙◌}
use Rattle.std.specs.Cmp.Lexicographic.{bytes_decides}
use Rattle.im_group.proofs.EndLaws.{ends-tell, AreBytes}
use Rattle.im_group.proofs.same.told_same.Goals as goal

told : {a b : Bool} → Some a ≡ Some b → a ≡ b
told e = cc

pub returns-then-text-le-TOLD : goal.returns-then-text-le-TOLD
returns-then-text-le-TOLD c found is =
    let text = c.args.text.now in
    let other = c.args.other.now in
    let front : AreBytes c.args.text.now = search rules in
    let back : AreBytes c.args.other.now = search rules in
    let same = ends-tell text other front back c.if-text-other.false c.if-text-le-TOLD.true (sym c.requires ∙ (c.if-told-ends.false ∙ c.ends.ensures)) in
    sym (told is) ∙ sym ((bytes_decides text other).1 same)
