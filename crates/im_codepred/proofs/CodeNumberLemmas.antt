-- Numbers of a dictionary that follow one another are told by its ends.
use Rattle.std.proofs.Common.{◌≡◌, ℕ, zero, suc, ◌+◌, ◌-◌, ◌^◌, ◌<◌, ◌≤◌, ℤ, pos, ◌+ℤ◌, ◌-ℤ◌, ◌≤ℤ◌, ◌<ℤ◌, List, length, get_or, add-zero, refl, sym, ap, subst, ◌∙◌, arith}
use Rattle.std.proofs.lemmas.Bool.{true≢false}
use Rattle.std.proofs.lemmas.Int.{ints}
use Rattle.std.specs.Ordering.{is_lt}
use Rattle.std.specs.Cmp.{int_ranked}
use Rattle.std.specs.declared.cmp.Ordering.TheVariants.{Less, Greater}
use Rattle.std.specs.List.Sorted.{IsStrictlySortedBy}
use Rattle.std.proofs.lemmas.Map.Keys.{Less-from_sorted}
use Rattle.im_values.specs.declared.content.Content.{Content as Value}
use Rattle.im_values.specs.declared.content.Content.TheVariants.{Int, Text, Null}
use Rattle.im_values.specs.Order.{order}
use Rattle.im_codes.specs.Dictionary.{IsDictionary}
use Rattle.im_codepred.specs.Tallies.{number}
use Rattle.im_codepred.specs.inner.CodeNumbers.{AreFrom, StandAtEnds}

later : Greater ≡ Less → ⊥
later e = true≢false (sym (ap is_lt e))

-- what stands below a number is a number
record IsBelow (v : Value) (b : ℤ) : Type 0 where
  pub is : v ≡ Int (number v)
  pub less : number v <ℤ b

below : (v : Value) (b : ℤ) → order v (Int b) ≡ Less → IsBelow v b
below (Int a) b e = record { is = refl; less = int_ranked a b Less (sym e) }
below (Text t) b e = absurd (later e)
below Null b e = absurd (later e)

-- a value so many places before a number is a number, and less by as much at least
record IsBefore (v : Value) (d : ℕ) (b : ℤ) : Type 0 where
  pub is : v ≡ Int (number v)
  pub room : (number v +ℤ pos d) ≤ℤ b

before : (dict : List Value) (i d : ℕ) (b : ℤ) → IsStrictlySortedBy order dict → i + d < length dict → get_or dict (i + d) Null ≡ Int b
    → IsBefore (get_or dict i Null) d b
before dict i zero b sorted inside e =
    let here : get_or dict i Null ≡ Int b = ap (λ n. get_or dict n Null) (sym (add-zero i)) ∙ e in
    rw here (record { is = refl; room = omega (arith, ints) })
before dict i (suc d) b sorted inside e =
    let on : suc i + d ≡ i + suc d = omega arith in
    let next = before dict (suc i) d b sorted (omega (arith, inside)) (ap (λ n. get_or dict n Null) on ∙ e) in
    let less = below (get_or dict i Null) (number (get_or dict (suc i) Null))
    (ap (order (get_or dict i Null)) (sym next.is) ∙ Less-from_sorted order dict i (suc i) Null sorted (omega arith) (omega (arith, inside))) in
    record { is = less.is; room = omega (arith, ints, less.less, next.room) }

-- the ends of a dictionary of numbers are as far from each other as it is long only where each number is one above that before
pub from-ends : (dict : List Value) (low high : ℤ) → IsDictionary dict → StandAtEnds dict low high → high ≡ (low +ℤ pos (length dict - 1)) → high <ℤ pos (2 ^ 63)
    → AreFrom dict low
from-ends dict low high is ends gap few = record { each = each; small = omega (arith, ints, gap, few, ends.some) }
  where
    each : (k : ℕ) → k < length dict → number (get_or dict k Null) ≡ (low +ℤ pos k)
    each k inside =
        let last : length dict - 1 ≡ k + (length dict - 1 - k) = omega (arith, inside) in
        let above = before dict k (length dict - 1 - k) high is.sorted (omega (arith, inside))
        (subst (λ n. get_or dict n Null ≡ Int high) last ends.last) in
        let none : 0 + k ≡ k = omega arith in
        let under = before dict 0 k (number (get_or dict k Null)) is.sorted (omega (arith, inside))
        (ap (λ n. get_or dict n Null) none ∙ above.is) in
        let begins : number (get_or dict 0 Null) ≡ low = ap number ends.first in
        omega (arith, ints, above.room, under.room, begins, gap, inside)
