-- The rows that `clap` keeps of items.
use Rattle.std.proofs.Common.{◌≡◌, ◌≢◌, ◌∙◌, ◌||◌, ◌++◌, ap, refl, Bool, true, false, List, [], ◌∷◌, Some, None}
use Rattle.std.specs.Str.{bytes_eq}
use Rattle.std.proofs.lemmas.List.{append-nil}
use Rattle.std.proofs.lemmas.List.Folds.{list_any-append}
use Rattle.std.proofs.lemmas.Slice.Eq.{bytes_eq-Decides}
use Rattle.clap.specs.Walk.{Row, Rule, at_row, has_row, more_values, used}
use Rattle.clap.specs.Simple.{filled, with_index}
use Rattle.clap.specs.declared.builder.value_parser.Reading.TheVariants.{AsWritten}
use Rattle.clap.specs.declared.parser.matches.ValueSource.TheVariants.{CommandLine}
use Rattle.im_words.specs.Command.{ModeNames, mode_rule, setting_rule}
use Rattle.im_words.specs.Good.{Item, Text, about, apart, joined, mode, said}
use Rattle.im_words.specs.declared.setting.Setting.{Setting}

-- the arguments of the command as it is built
abbrev pub full : Setting → Rule
full s = with_index 2 (filled (setting_rule s))

abbrev pub full_mode : ModeNames → Rule
full_mode names = with_index 1 (filled (mode_rule names))

abbrev pub rule_for : ModeNames → Item → Rule
rule_for names (mode m) = full_mode names
rule_for names (apart s number) = full s
rule_for names (joined s number) = full s

abbrev pub row_for : Item → Row
row_for x = record {
  id = about x;
  values = said x ∷ [];
  count = None;
  source = Some CommandLine;
  reading = AsWritten;
}

or_false : (a b : Bool) → (a || b) ≡ false → (a ≡ false) × (b ≡ false)
or_false true b h = let bad : true ≡ false = h in cc
or_false false b h = (refl, h)

-- a row that is not there comes at the end
at_new : (id : Text) (change : Row → List Row) (missing rows : List Row) → has_row id rows ≡ false
    → at_row id change missing rows ≡ rows ++ missing
at_new id change missing [] fresh = refl
at_new id change missing (r ∷ rs) fresh =
    let parts = or_false (bytes_eq r.id id) (has_row id rs) fresh in
    rw parts.0 (ap (λ rest. r ∷ rest) (at_new id change missing rs parts.1))

pub no_row : (id : Text) (change : Row → List Row) (missing rows : List Row) → has_row id rows ≡ false
    → at_row id change missing (at_row id (λ r. []) [] rows) ≡ rows ++ missing
no_row id change missing rows fresh =
    ap (at_row id change missing) (at_new id (λ r. []) [] rows fresh ∙ append-nil rows) ∙ at_new id change missing rows fresh

new_row : (x : Item) (rows : List Row) → has_row (about x) rows ≡ false
    → at_row (about x) (more_values CommandLine (said x ∷ [])) (row_for x ∷ []) (at_row (about x) (λ r. []) [] rows) ≡ rows ++ row_for x ∷ []
new_row x rows fresh = no_row (about x) (more_values CommandLine (said x ∷ [])) (row_for x ∷ []) rows fresh

-- a use of an argument that was not used before
pub used_first : (names : ModeNames) (x : Item) (rows : List Row) → has_row (about x) rows ≡ false
    → used (rule_for names x) (said x ∷ []) rows ≡ rows ++ row_for x ∷ []
used_first names (mode m) rows fresh = new_row (mode m) rows fresh
used_first names (apart s number) rows fresh = new_row (apart s number) rows fresh
used_first names (joined s number) rows fresh = new_row (joined s number) rows fresh

pub differs : (a b : Text) → a ≢ b → bytes_eq a b ≡ false
differs a b ne = go (bytes_eq a b) refl
  where
    go : (t : Bool) → bytes_eq a b ≡ t → bytes_eq a b ≡ false
    go true t = absurd (ne ((bytes_eq-Decides a b).0 t))
    go false t = t

-- a name stays unused after an item that is about another
pub still_fresh : (id : Text) (x : Item) (rows : List Row) → has_row id rows ≡ false → about x ≢ id
    → has_row id (rows ++ row_for x ∷ []) ≡ false
still_fresh id x rows fresh ne =
    list_any-append (λ r. bytes_eq r.id id) rows (row_for x ∷ []) ∙ rw (fresh, differs (about x) id ne) refl
