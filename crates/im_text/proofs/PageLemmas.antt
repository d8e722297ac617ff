-- What a page holds after a field.
use Rattle.std.proofs.Common.{◌≡◌, ◌≢◌, ◌==◌, ◌∷◌, ◌++◌, ◌+◌, ◌-◌, ◌^◌, ◌<◌, ◌∙◌, [], ℕ, List, true, false, Some, length, refl, sym, ap, arith, ne_eqb, append_assoc, append-nil, decimal}
use Rattle.std.specs.Prelude.{not, min, ⊤, Result, OnOk, Ok, Err}
use Rattle.std.proofs.lemmas.List.Concat.{flat_map-append}
use Rattle.std.specs.Global.{Vec}
use Rattle.std.specs.Io.KnownBytes.{Appends}
use Rattle.csv.specs.declared.writer.Writer.{Writer}
use Rattle.csv.specs.declared.writer.QuoteStyle.TheVariants as style
use Rattle.csv.specs.Writing as csv
use Rattle.csv.specs.Writing.{writer_setup, fields_written, has_written, text_written, next_sep}
use Rattle.im_text.specs.declared.page.Page.{Page}
use Rattle.im_text.specs.Fields.{field_text}
use Rattle.im_text.specs.Records.{further, record_text, records_text, numbered}
use Rattle.im_text.specs.inner.Pages.{reply_writer, bytes_of, written, IsBetween, IsReady, IsInside, Adds, Ends, Puts, Shows, Says}
use Rattle.im_text.proofs.FieldLemmas.{field-same, field-shows}

-- what the writer of CSV says of a field that it wrote
pub record Wrote (old new : Writer (Vec ℕ)) (field : List ℕ) : Type 0 where
  pub text : (writer_setup old).style ≢ style.NonNumeric
      → Appends (text_written (λ v. Some v.items) old) (text_written (λ v. Some v.items) new)
      (next_sep (writer_setup old) (fields_written old) ++ csv.field_text (writer_setup old) field)
  pub same : writer_setup new ≡ writer_setup old
  pub count : fields_written new ≡ min (fields_written old + 1) (2 ^ 64 - 1)
  pub wrote : has_written old ≡ false → (writer_setup old).style ≢ style.NonNumeric
      → has_written new ≡ not (length (csv.field_text (writer_setup old) field) == 0)
  pub stays : has_written old ≡ true → has_written new ≡ true

-- quotes go by need
plain : (old : Page) → writer_setup old.writer ≡ reply_writer → (writer_setup old.writer).style ≢ style.NonNumeric
plain old setup = rw setup (λ e. cc e)

-- a field after the others is behind a comma
pub puts : (old : Page) (new : Writer (Vec ℕ)) (field : List ℕ) → IsInside old → Wrote old.writer new field
    → Adds old (record { writer = new; line = old.line }) (44 ∷ field_text field)
puts old new field inside wrote =
    let later : (fields_written old.writer == 0) ≡ false = ne_eqb _ 0 (λ e. omega (arith, e, inside.fields)) in
    let text = rw (inside.setup, later, field-same field) at (wrote.text (plain old inside.setup)) in
    let count : 0 < fields_written new = omega (arith, wrote.count) in
    record {
      inside = record { setup = wrote.same ∙ inside.setup; fields = count; wrote = wrote.stays inside.wrote };
      line = refl;
      text = text;
    }

-- the first field of a record, which shows
pub begins : (old : Page) (new : Writer (Vec ℕ)) (field : List ℕ) → IsBetween old → Wrote old.writer new field
    → 0 < length field → Adds old (record { writer = new; line = old.line }) (field_text field)
begins old new field between wrote some =
    let quotes = plain old between.setup in
    let text = rw (between.setup, between.fields, field-same field) at (wrote.text quotes) in
    let count : 0 < fields_written new = omega (arith, wrote.count) in
    let shows : (length (field_text field) == 0) ≡ false = ne_eqb _ 0 (λ e. omega (arith, e, field-shows field some)) in
    let mark = rw (between.setup, field-same field, shows) at (wrote.wrote between.wrote quotes) in
    record {
      inside = record { setup = wrote.same ∙ between.setup; fields = count; wrote = mark };
      line = refl;
      text = text;
    }

-- bytes behind bytes
pub adds-both : (a b c : Page) (xs ys : List ℕ) → Adds a b xs → Adds b c ys → Adds a c (xs ++ ys)
adds-both a b c xs ys first second = record {
  inside = second.inside;
  line = second.line ∙ first.line;
  text = second.text ∙ ap (λ (t : List ℕ). t ++ ys) first.text ∙ append_assoc (written a) xs ys;
}

-- nothing behind what is there
pub adds-none : (a : Page) → IsInside a → Adds a a []
adds-none a inside = record { inside = inside; line = refl; text = sym (append-nil (written a)) }

-- fields behind fields
pub adds-fields : (a b c : Page) (xs ys : List (List ℕ)) → Adds a b (further xs) → Adds b c (further ys) → Adds a c (further (xs ++ ys))
adds-fields a b c xs ys first second =
    let both = adds-both a b c (further xs) (further ys) first second in
    record {
      inside = both.inside;
      line = both.line;
      text = both.text ∙ ap (λ (t : List ℕ). written a ++ t) (sym (flat_map-append (λ (field : List ℕ). 44 ∷ field_text field) xs ys));
    }

-- a field behind fields
pub adds-one : (a b c : Page) (fields : List (List ℕ)) (field : List ℕ)
    → Adds a b (further fields) → Adds b c (44 ∷ field_text field) → Adds a c (further (fields ++ field ∷ []))
adds-one a b c fields field first last =
    adds-fields a b c fields (field ∷ []) first
    (record { inside = last.inside; line = last.line; text = last.text ∙ ap (λ (t : List ℕ). written b ++ t) (sym (append-nil (44 ∷ field_text field))) })

-- a record: its first field, further fields, the end
pub ends : (a b c d : Page) (head : List ℕ) (fields : List (List ℕ))
    → Adds a b (field_text head) → Adds b c (further fields) → Ends c d (10 ∷ []) → Ends a d (record_text (head ∷ fields))
unfolding record_text
ends a b c d head fields first rest end =
    let body = adds-both a b c (field_text head) (further fields) first rest in
    record {
      between = end.between;
      line = end.line ∙ body.line;
      text = end.text ∙ ap (λ (t : List ℕ). t ++ (10 ∷ [])) body.text
          ∙ append_assoc (written a) (field_text head ++ further fields) (10 ∷ [])
          ∙ ap (λ (t : List ℕ). written a ++ t) (append_assoc (field_text head) (further fields) (10 ∷ []));
    }

-- a record that begins with the number of the line
pub whole : (a b c d : Page) (fields : List (List ℕ))
    → Adds a b (field_text (decimal a.line)) → Adds b c (further fields) → Ends c d (10 ∷ []) → Puts a d (fields ∷ [])
whole a b c d fields first rest end =
    let all = ends a b c d (decimal a.line) fields first rest end in
    record {
      between = all.between;
      line = all.line;
      text = all.text ∙ ap (λ (t : List ℕ). written a ++ t) (sym (append-nil (record_text (decimal a.line ∷ fields))));
    }

-- one field and then others
pub adds-more : (a b c : Page) (field : List ℕ) (fields : List (List ℕ))
    → Adds a b (44 ∷ field_text field) → Adds b c (further fields) → Adds a c (further (field ∷ fields))
adds-more a b c field fields first rest = adds-both a b c (44 ∷ field_text field) (further fields) first rest

-- the same where the end may lack memory
pub whole-ok : {E : Type 0} (r : Result ⊤ E) (a b c d : Page) (fields : List (List ℕ))
    → Adds a b (field_text (decimal a.line)) → Adds b c (further fields) → OnOk r (Ends c d (10 ∷ [])) → OnOk r (Puts a d (fields ∷ []))
whole-ok (Ok x) a b c d fields first rest end = whole a b c d fields first rest end
whole-ok (Err e) a b c d fields first rest end = tt

-- records behind records
pub puts-both : (a b c : Page) (xs ys : List (List (List ℕ))) → Puts a b xs → Puts b c ys → Puts a c (xs ++ ys)
puts-both a b c xs ys first second =
    let text : written c ≡ written a ++ numbered a.line (xs ++ ys) =
    rw (first.line) at second.text
    ∙ ap (λ (t : List ℕ). t ++ numbered a.line ys) first.text
    ∙ append_assoc (written a) (numbered a.line xs) (numbered a.line ys)
    ∙ ap (λ (t : List ℕ). written a ++ t) (sym (flat_map-append (λ (fields : List (List ℕ)). record_text (decimal a.line ∷ fields)) xs ys)) in
    record { between = second.between; line = second.line ∙ first.line; text = text }

-- nothing behind what is there
pub puts-none : (a : Page) → IsBetween a → Puts a a []
puts-none a between = record { between = between; line = refl; text = sym (append-nil (written a)) }

-- texts behind texts
pub ends-both : (a b c : Page) (xs ys : List ℕ) → Ends a b xs → Ends b c ys → Ends a c (xs ++ ys)
ends-both a b c xs ys first second = record {
  between = second.between;
  line = second.line ∙ first.line;
  text = second.text ∙ ap (λ (t : List ℕ). t ++ ys) first.text ∙ append_assoc (written a) xs ys;
}

-- nothing behind what is there
pub ends-none : (a : Page) → IsBetween a → Ends a a []
ends-none a between = record { between = between; line = refl; text = sym (append-nil (written a)) }

-- a record behind records
pub ends-more : (a b c : Page) (records : List (List (List ℕ))) (fields : List (List ℕ))
    → Ends a b (records_text records) → Ends b c (record_text fields) → Ends a c (records_text (records ++ fields ∷ []))
ends-more a b c records fields first last =
    let both = ends-both a b c (records_text records) (record_text fields) first last in
    record {
      between = both.between;
      line = both.line;
      text = both.text ∙ ap (λ (t : List ℕ). written a ++ t)
          (ap (λ (t : List ℕ). records_text records ++ t) (sym (append-nil (record_text fields)))
          ∙ sym (flat_map-append record_text records (fields ∷ [])));
    }

-- ---- the same where the last part may lack memory

pub fields-ok : {E : Type 0} (r : Result ⊤ E) (a b c : Page) (xs ys : List (List ℕ))
    → Adds a b (further xs) → OnOk r (Adds b c (further ys)) → OnOk r (Adds a c (further (xs ++ ys)))
fields-ok (Ok x) a b c xs ys first second = adds-fields a b c xs ys first second
fields-ok (Err e) a b c xs ys first second = tt

pub more-ok : {E : Type 0} (r : Result ⊤ E) (a b c : Page) (field : List ℕ) (fields : List (List ℕ))
    → Adds a b (44 ∷ field_text field) → OnOk r (Adds b c (further fields)) → OnOk r (Adds a c (further (field ∷ fields)))
more-ok (Ok x) a b c field fields first rest = adds-more a b c field fields first rest
more-ok (Err e) a b c field fields first rest = tt

pub ends-ok : {E : Type 0} (r : Result ⊤ E) (a b c d : Page) (head : List ℕ) (fields : List (List ℕ))
    → Adds a b (field_text head) → Adds b c (further fields) → OnOk r (Ends c d (10 ∷ [])) → OnOk r (Ends a d (record_text (head ∷ fields)))
ends-ok (Ok x) a b c d head fields first rest end = ends a b c d head fields first rest end
ends-ok (Err e) a b c d head fields first rest end = tt

pub both-ok : {E : Type 0} (r : Result ⊤ E) (a b c : Page) (xs ys : List ℕ)
    → Ends a b xs → OnOk r (Ends b c ys) → OnOk r (Ends a c (xs ++ ys))
both-ok (Ok x) a b c xs ys first second = ends-both a b c xs ys first second
both-ok (Err e) a b c xs ys first second = tt

-- ---- what a page shows behind all that was written out

-- the reply to a line, behind a text
pub shows-reply : {E : Type 0} (r : Result ⊤ E) (a b c d : Page) (line : ℕ) (text : List ℕ) (records : List (List (List ℕ)))
    → written b ≡ bytes_of a → b.line ≡ line → Ends b c text → OnOk r (Puts c d records)
    → OnOk r (Shows a d (text ++ numbered line records))
shows-reply (Ok x) a b c d line text records same is before puts =
    let shown : written d ≡ bytes_of a ++ (text ++ numbered line records) =
    puts.text ∙ ap (λ (n : ℕ). written c ++ numbered n records) (before.line ∙ is)
    ∙ ap (λ (t : List ℕ). t ++ numbered line records) (before.text ∙ ap (λ (t : List ℕ). t ++ text) same)
    ∙ append_assoc (bytes_of a) text (numbered line records) in
    record { between = puts.between; text = shown }
shows-reply (Err e) a b c d line text records same is before puts = tt

-- a text that was put on a page of which all was written out
pub shows : {E : Type 0} (r : Result ⊤ E) (a d : Page) (text : List ℕ) → IsReady a → OnOk r (Ends a d text) → OnOk r (Shows a d text)
shows (Ok x) a d text ready end =
    let all : written a ≡ bytes_of a = ap (λ (t : List ℕ). bytes_of a ++ t) ready.flushed ∙ append-nil (bytes_of a) in
    record { between = end.between; text = end.text ∙ ap (λ (t : List ℕ). t ++ text) all }
shows (Err e) a d text ready end = tt

-- it is written out
pub says : {E : Type 0} (r : Result ⊤ E) (a c d : Page) (text : List ℕ)
    → Shows a c text → OnOk r (IsReady d) → OnOk r (bytes_of d ≡ written c) → OnOk r (Says a d text)
says (Ok x) a c d text shown ready flushed = record { ready = ready; bytes = flushed ∙ shown.text }
says (Err e) a c d text shown ready flushed = tt
