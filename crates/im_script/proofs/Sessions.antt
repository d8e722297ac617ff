-- A line names a session, or the background, or nobody.
use Rattle.std.proofs.Common.{◌≡◌, ℕ, ◌+◌, ◌-◌, ◌≤◌, ◌==◌, ◌&&◌, Bool, true, false, nat_le, nat_lt, if◌then◌else◌, List, length, drop, Option, Some, refl, sym, subst, arith, leb-true}
use Rattle.std.specs.Prelude.{IfSome, slice_index}
use Rattle.im_values.specs.declared.limits.TheConstants.{SESSIONS, MOST_LINE_BYTES}
use Rattle.im_syntax.specs.declared.statement.Side.{Side}
use Rattle.im_syntax.specs.declared.statement.Stmt.{Stmt}
use Rattle.im_lex.specs.Bytes.{begins_comment}
use Rattle.im_script.specs.declared.form.Form.{Form}
use Rattle.im_script.specs.declared.form.Form.TheVariants as form
use Rattle.im_script.specs.declared.line.Line.{Line}
use Rattle.im_script.specs.declared.line.LineKind.{LineKind}
use Rattle.im_script.specs.declared.line.LineKind.TheVariants as kind
use Rattle.im_script.specs.Forms.{form_of, form_behind, blanks_of, is_low, is_high, is_race, is_background, who_of}
use Rattle.im_script.specs.Lines.{HasKind, Says, statement, bad_byte, bad_token, no_memory, SpeaksAs, NamesOneOf16}

-- the form names a session, or none
abbrev IsKnown : Form → Type 0
IsKnown (form.Session n before) = (1 ≤ n) × (n ≤ SESSIONS)
IsKnown f = Unit {0}

low_number : (d : ℕ) → nat_le 49 d ≡ true → nat_le d 57 ≡ true → (1 ≤ d - 48) × (d - 48 ≤ SESSIONS)
low_number d least most = let low = leb-true 49 d least in let high = leb-true d 57 most in (omega (arith, low, high), omega (arith, low, high))

high_number : (d : ℕ) → nat_le 48 d ≡ true → nat_le d 54 ≡ true → (1 ≤ d - 38) × (d - 38 ≤ SESSIONS)
high_number d least most = let low = leb-true 48 d least in let high = leb-true d 54 most in (omega (arith, low, high), omega (arith, low, high))

low_tests : (a b c : Bool) → (a && b && c) ≡ true → (a ≡ true) × (b ≡ true)
low_tests true true c e = (refl, refl)
low_tests true false c e = absurd cc
low_tests false b c e = absurd cc

high_tests : (a b c d : Bool) → (a && b && c && d) ≡ true → (b ≡ true) × (c ≡ true)
high_tests true true true d e = (refl, refl)
high_tests true true false d e = absurd cc
high_tests true false c d e = absurd cc
high_tests false b c d e = absurd cc

known_if : (b : Bool) (f g : Form) → (b ≡ true → IsKnown f) → IsKnown g → IsKnown (if b then f else g)
known_if true f g known other = known refl
known_if false f g known other = other

known_behind : (blanks : ℕ) (bs : List ℕ) → IsKnown (form_behind blanks bs)
known_behind blanks bs =
    known_if (length bs == 0) form.Skip _ (λ is. tt)
    (known_if (begins_comment bs) form.Skip _ (λ is. tt)
    (known_if (is_race bs) form.Race _ (λ is. tt)
    (known_if (is_low bs) (form.Session (slice_index bs 0 - 48) (blanks + 2)) _
    (λ is.
    let tests = low_tests (nat_le 49 (slice_index bs 0)) (nat_le (slice_index bs 0) 57) (slice_index bs 1 == 62) is in
    low_number (slice_index bs 0) tests.0 tests.1)
    (known_if (is_high bs) (form.Session (slice_index bs 1 - 38) (blanks + 3)) _
    (λ is.
    let tests = high_tests (slice_index bs 0 == 49) (nat_le 48 (slice_index bs 1)) (nat_le (slice_index bs 1) 54) (slice_index bs 2 == 62) is in
    high_number (slice_index bs 1) tests.0 tests.1)
    (known_if (is_background bs) (form.Background (blanks + 3)) form.Bare (λ is. tt) tt)))))

known_form : (bytes : List ℕ) → IsKnown (form_of bytes)
known_form bytes =
    known_if (nat_lt MOST_LINE_BYTES (length bytes)) form.Long (form_behind (blanks_of bytes) (drop (blanks_of bytes) bytes)) (λ is. tt)
    (known_behind (blanks_of bytes) (drop (blanks_of bytes) bytes))

who_within : (f : Form) → IsKnown f → IfSome (who_of f) (λ n. n ≤ SESSIONS)
who_within form.Long known = tt
who_within form.Skip known = tt
who_within form.Race known = tt
who_within form.Bare known = tt
who_within (form.Session n before) known = known.1
who_within (form.Background before) known = omega arith

speaks_by : (who : Option ℕ) (whose : Side) (before : ℕ) (line : List ℕ) (of : Stmt → LineKind) (k : LineKind)
    → ((s : Stmt) → SpeaksAs who (of s)) → Says whose before line of k → SpeaksAs who k
speaks_by who whose before line _ _ each (statement ts s lexes is same) = each s
speaks_by who whose before line _ _ each (bad_byte n bad) = tt
speaks_by who whose before line _ _ each (bad_token ts n lexes place) = tt
speaks_by who whose before line _ _ each no_memory = tt

speaks_of : (f : Form) (line : List ℕ) (k : LineKind) → IsKnown f → HasKind f line k → SpeaksAs (who_of f) k
speaks_of form.Long line k known has = rw has tt
speaks_of form.Skip line k known has = rw has tt
speaks_of form.Race line k known has = rw has tt
speaks_of form.Bare line k known has = rw has tt
speaks_of (form.Session n before) line k known has = speaks_by (Some n) _ before line (kind.Session n) k (λ s. (refl, known.0, known.1)) has
speaks_of (form.Background before) line k known has = speaks_by (Some 0) _ before line kind.Background k (λ s. refl) has

pub line_names : (bytes : List ℕ) (l : Line) → l.who ≡ who_of (form_of bytes) → HasKind (form_of bytes) bytes l.kind → NamesOneOf16 l
line_names bytes l who has = record {
  who = subst (λ (w : Option ℕ). IfSome w (λ n. n ≤ SESSIONS)) (sym who) (who_within (form_of bytes) (known_form bytes));
  speaks = subst (λ (w : Option ℕ). SpeaksAs w l.kind) (sym who) (speaks_of (form_of bytes) bytes l.kind (known_form bytes) has);
}
