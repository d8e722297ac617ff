-- The writer of CSV writes a field as `field_text` says.
use Rattle.std.proofs.Common.{◌≡◌, ◌==◌, ◌||◌, ◌∷◌, ◌++◌, ◌<◌, ◌∙◌, [], ℕ, List, Bool, true, false, length, refl, ap, arith, ⊎_elim}
use Rattle.std.specs.Prelude.{if◌then◌else◌, flat_map}
use Rattle.std.specs.List.{list_any}
use Rattle.std.proofs.lemmas.Bool.{cases_Bool, eqb-true}
use Rattle.csv.specs.Quoting.{needs_byte}
use Rattle.csv.specs.Writing as csv
use Rattle.csv.specs.Writing.{escaped}
use Rattle.im_text.specs.Fields.{calls_for_quotes, doubled, field_text}
use Rattle.im_text.specs.inner.Pages.{reply_writer}

or-false : (b : Bool) → (b || false) ≡ b
or-false true = refl
or-false false = refl

-- the same bytes call for quotes
needs-same : (byte : ℕ) → needs_byte reply_writer byte ≡ calls_for_quotes byte
needs-same byte = or-false _ ∙ or-false _

any-same : (field : List ℕ) → list_any (needs_byte reply_writer) field ≡ list_any calls_for_quotes field
any-same [] = refl
any-same (byte ∷ rest) = rw (needs-same byte, any-same rest) refl

-- a byte with its double quote doubled, and then the rest
doubled-then : (byte : ℕ) (rest : List ℕ)
    → (if byte == 34 then 34 ∷ byte ∷ rest else byte ∷ rest) ≡ doubled byte ++ rest
doubled-then byte rest = ⊎_elim
    (λ (is : (byte == 34) ≡ true). rw is (ap (λ (x : ℕ). 34 ∷ x ∷ rest) (eqb-true byte 34 is)))
    (λ (not : (byte == 34) ≡ false). rw not refl)
    (cases_Bool (byte == 34))

escaped-same : (field : List ℕ) → escaped reply_writer field ≡ flat_map doubled field
unfolding escaped
escaped-same [] = refl
escaped-same (byte ∷ rest) = rw (escaped-same rest) (doubled-then byte (flat_map doubled rest))

-- the text of a field
pub field-same : (field : List ℕ) → csv.field_text reply_writer field ≡ field_text field
unfolding field_text
field-same field = rw (any-same field, escaped-same field) refl

-- a field that is not empty shows
pub field-shows : (field : List ℕ) → 0 < length field → 0 < length (field_text field)
unfolding field_text
field-shows field some = ⊎_elim
    (λ (calls : list_any calls_for_quotes field ≡ true). rw calls (omega arith))
    (λ (plain : list_any calls_for_quotes field ≡ false). rw plain some)
    (cases_Bool (list_any calls_for_quotes field))
