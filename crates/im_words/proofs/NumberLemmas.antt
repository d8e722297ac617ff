-- The number that is read of a text.
use Rattle.std.proofs.Common.{◌≡◌, ◌∙◌, ap, refl, sym, ℕ, false, true, List, Option, Some, None, arith}
use Rattle.std.specs.Prelude.{Ok, Result, unwrap_or}
use Rattle.std.specs.Str.Parse.{ParsesUnsigned}
use Rattle.clap.specs.Words.{IsUnsignedIn, ReadsOne, Text, one_of, one_text, rows_of}
use Rattle.clap.specs.ValueTests.{is_unsigned_in}
use Rattle.clap.specs.declared.builder.value_parser.ValueParser.TheVariants as parsers
use Rattle.clap.specs.declared.parser.matches.Found.{Found}
use Rattle.clap.proofs.ValueTestLemmas.{accepts-Accepts}
use Rattle.clap.proofs.WalkLemmas.{one_text-rows}
use Rattle.im_words.specs.Asked.{HasNumbers, IsFor, number_by, number_in}
use Rattle.im_words.specs.Setting.{least_of, most_of, name_of, usual_of}
use Rattle.im_words.specs.declared.setting.Setting.{Setting}
use Rattle.im_words.specs.declared.setting.Setting.TheVariants.{Area, Workers, Turns, Rows, Seed}

is_in : (s : Setting) (t : Text) → is_unsigned_in (least_of s) (most_of s) t ≡ true → IsUnsignedIn (least_of s) (most_of s) t
is_in s t h = accepts-Accepts false (parsers.Unsigned (least_of s) (most_of s)) t h

-- the number that the text was read as
read_is : (E : Type 0) (G : List ℕ → Result ℕ E → Type 0) → ((u : List ℕ) (x : Result ℕ E) → G u x → ParsesUnsigned 64 10 u x)
    → (s : Setting) (o : Option Text) (r : Option ℕ) → ((t : Text) → o ≡ Some t → is_unsigned_in (least_of s) (most_of s) t ≡ true)
    → (o ≡ None → r ≡ None) → ((t : Text) → o ≡ Some t → ReadsOne G t r) → unwrap_or r (usual_of s) ≡ number_by s o
read_is E G only s None r numbers none value = ap (λ x. unwrap_or x (usual_of s)) (none refl)
read_is E G only s (Some t) None numbers none value =
    let fits = is_in s t (numbers t refl) in
    absurd (only t _ (value t refl).1 (fits.0, fits.1))
read_is E G only s (Some t) (Some n) numbers none value = (only t (Ok n) (value t refl)).1

-- the same of the matches
pub found_is : (E : Type 0) (G : List ℕ → Result ℕ E → Type 0) → ((u : List ℕ) (x : Result ℕ E) → G u x → ParsesUnsigned 64 10 u x)
    → (s : Setting) (f : Found) (name : Text) (r : Option ℕ) → name ≡ name_of s → HasNumbers (rows_of f) → (one_text f name ≡ None → r ≡ None)
    → ((t : Text) → one_text f name ≡ Some t → ReadsOne G t r) → unwrap_or r (usual_of s) ≡ number_in (rows_of f) s
found_is E G only s f name r is numbers none value =
    let same = one_text-rows f name ∙ ap (λ n. one_of n (rows_of f)) is in
    read_is E G only s (one_text f name) r (λ t h. numbers s t (sym same ∙ h)) none value ∙ ap (number_by s) same

usual_fits : (s : Setting) → IsFor s (usual_of s)
usual_fits Area = (grind (arith), grind (arith))
usual_fits Workers = (grind (arith), grind (arith))
usual_fits Turns = (grind (arith), grind (arith))
usual_fits Rows = (grind (arith), grind (arith))
usual_fits Seed = (grind (arith), grind (arith))

number_fits : (s : Setting) (o : Option Text) → ((t : Text) → o ≡ Some t → is_unsigned_in (least_of s) (most_of s) t ≡ true) → IsFor s (number_by s o)
number_fits s None numbers = usual_fits s
number_fits s (Some t) numbers =
    let fits = is_in s t (numbers t refl) in
    (fits.2, fits.3)

-- the number is one that the setting may be set to
pub found_fits : (s : Setting) (f : Found) → HasNumbers (rows_of f) → IsFor s (number_in (rows_of f) s)
found_fits s f numbers = number_fits s (one_of (name_of s) (rows_of f)) (numbers s)
