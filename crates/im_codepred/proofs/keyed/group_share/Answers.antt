use Rattle.std.proofs.Common.{◌*◌, ◌-◌, ◌^◌, ◌<◌, ℕ, List, All, fold, length, take, drop, zip, min, sym, subst, ap, ◌∙◌}
use Rattle.im_codes.specs.Dictionary.{lent}
use Rattle.im_codepred.specs.inner.Tallying.{at_bits, keyed, with_pair}
use Rattle.im_codepred.proofs.BitsLemmas.{read-share, at_bits-none}
use Rattle.im_codepred.proofs.CountLemmas.{share-all}
use Rattle.im_codepred.proofs.KeyedLemmas.{length-keyed, pairs-read}
use Rattle.im_codepred.proofs.keyed.group_share.Goals as goal

pub group_word-requires-clause-codes : goal.group_word-requires-clause-codes
group_word-requires-clause-codes c =
    let left = c.min-left.ensures ∙ ap (λ n. min (n - c.args.place * 64) 64) c.len.ensures.len in
    let same =
    read-share c.args.keys.now.codes c.codes_from.new.out (c.args.place * 64) c.min-left.result c.requires.inside left c.codes_from.array_long
    c.codes_from.ensures in
    let P : List ℕ → Type 0 = λ l. All (λ code. code < length c.args.groups.now) l in
    subst P (sym same) (share-all (length c.args.groups.now) (c.args.place * 64) c.args.keys.now.codes c.requires.codes)

pub group_word-requires-clause-word : goal.group_word-requires-clause-word
group_word-requires-clause-word c =
    let left = c.min-left.ensures ∙ ap (λ n. min (n - c.args.place * 64) 64) c.len.ensures.len in
    let same =
    read-share c.args.keys.now.codes c.codes_from.new.out (c.args.place * 64) c.min-left.result c.requires.inside left c.codes_from.array_long
    c.codes_from.ensures in
    let pairs = pairs-read c.args.keys.now.codes c.args.column.now (lent c.lend_from.new.out) (c.args.place * 64) c.requires.long c.requires.inside
    c.lend_from.ensures in
    let size = length-keyed (take 64 (drop (c.args.place * 64) c.args.keys.now.codes)) (lent c.lend_from.new.out) in
    let P : ℕ → Type 0 = λ n. c.args.word < 2 ^ n in
    subst P (sym (ap length same ∙ (sym size ∙ ap length pairs))) c.requires.word

pub returns : goal.returns
returns c =
    let left = c.min-left.ensures ∙ ap (λ n. min (n - c.args.place * 64) 64) c.len.ensures.len in
    let same =
    read-share c.args.keys.now.codes c.codes_from.new.out (c.args.place * 64) c.min-left.result c.requires.inside left c.codes_from.array_long
    c.codes_from.ensures in
    let pairs = pairs-read c.args.keys.now.codes c.args.column.now (lent c.lend_from.new.out) (c.args.place * 64) c.requires.long c.requires.inside
    c.lend_from.ensures in
    c.group_word.ensures
    ∙ (ap (λ l. fold with_pair c.args.groups.now (at_bits c.args.word (keyed l (lent c.lend_from.new.out)))) same
    ∙ ap (λ l. fold with_pair c.args.groups.now (at_bits c.args.word l)) pairs)

pub returns-then-word-eq0 : goal.returns-then-word-eq0
returns-then-word-eq0 c =
    let share = take 64 (drop (c.args.place * 64) (zip c.args.keys.now.codes c.args.column.now)) in
    sym (ap (fold with_pair c.args.groups.now) (ap (λ w. at_bits w share) c.if-word-eq0.true ∙ at_bits-none share))
