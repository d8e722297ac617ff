-- What `clap` makes of a number of good words.
use Rattle.std.proofs.Common.{◌≡◌, ◌∙◌, ◌<◌, ◌==◌, ap, refl, Bool, true, false, [], ◌∷◌, Some, arith, cond, drop}
use Rattle.std.specs.List.{list_any}
use Rattle.std.specs.Prelude.{◌^◌}
use Rattle.std.specs.Str.{bytes_eq}
use Rattle.std.specs.Str.Parse.{IsNumeral, digits_value, without_leading_plus}
use Rattle.std.proofs.lemmas.Bool.{ne_eqb}
use Rattle.std.proofs.lemmas.Str.Parse.{digit_from_value}
use Rattle.clap.specs.ValueTests.{is_unsigned_in}
use Rattle.clap.specs.declared.builder.value_parser.ValueParser.TheVariants as parsers
use Rattle.clap.proofs.ValueTestLemmas.{Accepts-accepts}
use Rattle.clap.proofs.WalkLemmas.{list_any-map}
use Rattle.im_words.proofs.StepLemmas.{IsPlain, IsPlainWord, Passes}
use Rattle.im_words.specs.Asked.{number_by}
use Rattle.im_words.specs.Command.{AreModes, ModeNames, mode_names}
use Rattle.im_words.specs.Good.{HasNumber, IsNumberFor, Item, Text, apart, joined, mode, name_of_mode}
use Rattle.im_words.specs.Setting.{least_of, most_of}
use Rattle.im_words.specs.declared.mode.Mode.{Mode}
use Rattle.im_words.specs.declared.mode.Mode.TheVariants.{Run, Race, Gen}
use Rattle.im_words.specs.declared.setting.Setting.{Setting}
use Rattle.im_words.specs.declared.setting.Setting.TheVariants.{Area, Workers, Turns, Rows, Seed}

no_plus : (ds : Text) → IsNumeral 10 ds → without_leading_plus ds ≡ ds
no_plus [] h = refl
no_plus (d ∷ ds) h =
    let plus : (d == 43) ≡ false = ne_eqb _ _ (λ e. omega (arith, digit_from_value d h.1.0)) in
    ap (λ (b : Bool). drop (cond b 1 0) (d ∷ ds)) plus

plain_word : (ds : Text) → IsNumeral 10 ds → IsPlainWord ds
plain_word [] h = absurd (omega (arith, h.0))
plain_word (d ∷ ds) h =
    let hyphen : (d == 45) ≡ false = ne_eqb _ _ (λ e. omega (arith, digit_from_value d h.1.0)) in
    record { no_end = rw hyphen refl; no_long = rw hyphen refl; no_short = rw hyphen refl }

most_fits : (s : Setting) → most_of s < 2 ^ 64
most_fits Area = grind (arith)
most_fits Workers = grind (arith)
most_fits Turns = grind (arith)
most_fits Rows = grind (arith)
most_fits Seed = grind (arith)

is_taken : (s : Setting) (t : Text) → IsNumberFor s t → is_unsigned_in (least_of s) (most_of s) t ≡ true
is_taken s t number =
    let same = no_plus t number.digits in
    let most = most_fits s in
    let range = number.range in
    let fits : digits_value 10 t < 2 ^ 64 = omega (arith, range.1, most) in
    Accepts-accepts false (parsers.Unsigned (least_of s) (most_of s)) t
    (rw same number.digits, rw same fits, rw same range.0, rw same range.1)

-- the number that is read of it
pub number_is : (s : Setting) (t : Text) → IsNumberFor s t → number_by s (Some t) ≡ digits_value 10 t
number_is s t number = rw (no_plus t number.digits) refl

pub items_plain : (x : Item) → HasNumber x → IsPlain x
items_plain (mode m) number = tt
items_plain (apart s t) number = plain_word t number.digits
items_plain (joined s t) number = tt

is_named : (m : Mode) → list_any (λ name. bytes_eq name (name_of_mode m)) mode_names ≡ true
is_named Run = refl
is_named Race = refl
is_named Gen = refl

mode_passes : (names : ModeNames) → AreModes names → (m : Mode) → list_any (λ name. bytes_eq name.now (name_of_mode m)) names.now ≡ true
mode_passes names are m = list_any-map (λ name. bytes_eq name (name_of_mode m)) (λ name. name.now) names.now
    ∙ (ap (list_any (λ name. bytes_eq name (name_of_mode m))) are ∙ is_named m)

pub items_pass : (names : ModeNames) → AreModes names → (x : Item) → HasNumber x → Passes names x
items_pass names are (mode m) number = mode_passes names are m
items_pass names are (apart s t) number = is_taken s t number
items_pass names are (joined s t) number = is_taken s t number
