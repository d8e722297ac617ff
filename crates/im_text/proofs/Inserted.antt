-- The text of a reply to an INSERT: none of its fields calls for quotes.
use Rattle.std.proofs.Common.{◌≡◌, ◌+◌, ◌^◌, ◌<◌, ◌∷◌, ◌++◌, ◌∙◌, [], ℕ, zero, suc, List, map, false, refl, ap, arith, ne_eqb, append_assoc, append-nil, decimal, codes}
use Rattle.std.specs.List.{list_any}
use Rattle.std.specs.Int.Digits.{digits_of, AllBelowBase}
use Rattle.std.proofs.lemmas.Int.Digits.{all_below_base_digits_of}
use Rattle.std.proofs.lemmas.Fmt.{decimal_digit, decimal-digits_of}
use Rattle.im_replies.specs.declared.body.Body.TheVariants.{Inserted}
use Rattle.im_text.specs.Fields.{calls_for_quotes, field_text}
use Rattle.im_text.specs.Records.{record_text}
use Rattle.im_text.specs.Replies.{reply_text}

digit_plain : (d : ℕ) → d < 10 → calls_for_quotes (48 + d) ≡ false
digit_plain d below =
    rw (
      ne_eqb (48 + d) 44 (λ e. omega (arith, e)),
      ne_eqb (48 + d) 34 (λ e. omega (arith, e)),
      ne_eqb (48 + d) 13 (λ e. omega (arith, e)),
      ne_eqb (48 + d) 10 (λ e. omega (arith, e)),
    ) refl

digits_plain : (ds : List ℕ) → AllBelowBase 10 ds → list_any calls_for_quotes (map (λ d. 48 + d) ds) ≡ false
digits_plain [] below = refl
digits_plain (d ∷ ds) below = rw (digit_plain d below.0, digits_plain ds below.1) refl

decimal_plain : (n : ℕ) → n < 2 ^ 64 → list_any calls_for_quotes (decimal n) ≡ false
decimal_plain zero h = rw (decimal_digit 0 (omega arith)) refl
decimal_plain (suc n) h =
    rw (decimal-digits_of (suc n) (omega arith) h)
    (digits_plain (digits_of 10 (suc n)) (all_below_base_digits_of 10 (suc n) (omega arith)))

-- a number has no quotes
number_text : (n : ℕ) → n < 2 ^ 64 → field_text (decimal n) ≡ decimal n
unfolding field_text
number_text n h = rw (decimal_plain n h) refl

word_text : field_text (codes "inserted") ≡ codes "inserted"
unfolding field_text
word_text = refl

parts : (line word rows first : List ℕ)
    → (line ++ (((44 ∷ word) ++ ((44 ∷ rows) ++ ((44 ∷ first) ++ []))) ++ 10 ∷ [])) ++ []
    ≡ line ++ ((44 ∷ word) ++ (44 ∷ (rows ++ (44 ∷ (first ++ 10 ∷ [])))))
parts line word rows first =
    let rest = append_assoc rows (44 ∷ first) (10 ∷ []) in
    let all = append_assoc word (44 ∷ (rows ++ (44 ∷ first))) (10 ∷ []) in
    append-nil (line ++ (((44 ∷ word) ++ ((44 ∷ rows) ++ ((44 ∷ first) ++ []))) ++ 10 ∷ []))
    ∙ ap (λ (f : List ℕ). line ++ ((44 ∷ (word ++ (44 ∷ (rows ++ (44 ∷ f))))) ++ 10 ∷ [])) (append-nil first)
    ∙ ap (λ (x : List ℕ). line ++ (44 ∷ x)) (all ∙ ap (λ (x : List ℕ). word ++ (44 ∷ x)) rest)

pub inserted_text : (line rows first : ℕ) → line < 2 ^ 64 → rows < 2 ^ 64 → first < 2 ^ 64
    → reply_text line (Inserted rows first)
    ≡ decimal line ++ ((44 ∷ codes "inserted") ++ (44 ∷ (decimal rows ++ (44 ∷ (decimal first ++ 10 ∷ [])))))
unfolding reply_text record_text
inserted_text line rows first l r f =
    rw (number_text line l, word_text, number_text rows r, number_text first f)
    (parts (decimal line) (codes "inserted") (decimal rows) (decimal first))

-- the pieces in which it is put
pub by_pieces : (text line rows first : List ℕ)
    → (((((text ++ line) ++ codes ",inserted,") ++ rows) ++ 44 ∷ []) ++ first) ++ 10 ∷ []
    ≡ text ++ (line ++ ((44 ∷ codes "inserted") ++ (44 ∷ (rows ++ (44 ∷ (first ++ 10 ∷ []))))))
by_pieces text line rows first = simp append_assoc
