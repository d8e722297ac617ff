-- What codes say of values.
use Rattle.std.proofs.Common.{◌≡◌, ℕ, ◌+◌, ◌<◌, false, List, length, get_or, nat_lt, count_by, All, Contains, ◌∙◌, arith}
use Rattle.std.specs.List.Sorted.{IsStrictlySortedBy}
use Rattle.std.specs.Ordering.{is_lt}
use Rattle.std.proofs.lemmas.List.Elements.{Contains-get_or}
use Rattle.im_values.specs.declared.content.Content.{Content as Value}
use Rattle.im_values.specs.Order.{order, is_null}
use Rattle.im_values.specs.Sizes as sizes
use Rattle.im_codes.specs.Dictionary.{AreCodesOf, IsDictionary, IsDictionaryOf, lower}
use Rattle.im_codes.specs.Runs.{run_count}
use Rattle.im_codes.proofs.NumberingLemmas.{present-held, some-present}
use Rattle.im_codes.proofs.SetLemmas as set
use Rattle.im_codes.proofs.DictLemmas.{below-parted, passes-below, same_tests}

-- the value of a code is below one exactly where the code is below its `lower`
pub value-below : (dict : List Value) (value : Value) (k : ℕ) (d : Value) → IsDictionary dict → k < length dict →
    is_lt (order (get_or dict k d) value) ≡ nat_lt (k + 1) (lower dict value)
value-below dict value k d is inside =
    passes-below (λ (other : Value). is_lt (order other value)) dict k d (below-parted dict value is.sorted) inside
    ∙ same_tests k (count_by (λ (other : Value). is_lt (order other value)) dict) (k + 1) (lower dict value) (λ h. omega arith) (λ h. omega arith)

-- there is one dictionary of a list of values
pub dictionary-is : (values dict : List Value) → IsDictionaryOf values dict → dict ≡ sizes.dictionary values
dictionary-is = set.dictionary-is

-- values that rise and are not NULL are their own dictionary
pub dictionary-rising : (values : List Value) → IsStrictlySortedBy order values → All (λ v. is_null v ≡ false) values → sizes.dictionary values ≡ values
dictionary-rising = set.dictionary-rising

-- there are as many runs of codes as of their values
pub run_count-codes : (values dict : List Value) (codes : List ℕ) → IsDictionary dict → AreCodesOf values dict codes →
    run_count codes ≡ sizes.run_count values
run_count-codes = set.run_count-codes

-- there is a code for each value
pub length-codes : (values dict : List Value) (codes : List ℕ) → AreCodesOf values dict codes → length codes ≡ length values
length-codes = set.length-codes

-- a value of a dictionary stands in the list
pub dictionary-held : (values dict : List Value) (value : Value) → IsDictionaryOf values dict → Contains dict value → Contains values value
dictionary-held values dict value set held = present-held values value (set.only value held)

-- a dictionary of a list is a dictionary
pub is-dictionary : (values dict : List Value) → IsDictionaryOf values dict → IsDictionary dict
is-dictionary values dict set = record {
  sorted = set.sorted;
  some = λ k d inside. some-present values (get_or dict k d) (set.only (get_or dict k d) (Contains-get_or dict k d inside));
}
