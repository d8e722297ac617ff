-- The writer under the records of a reply.
use Rattle.std.specs.Prelude.{◌≡◌, ◌<◌, ℕ, List, ◌++◌, [], true, false}
use Rattle.csv.specs.declared.writer.WriterBuilder.{WriterBuilder}
use Rattle.csv.specs.Writing.{default_writer, with_flexible, writer_setup, fields_written, has_written, writer_under, writer_pending}
use Rattle.im_text.specs.Records.{numbered}
use Rattle.im_text.specs.declared.page.Page.{Page}

-- a line feed behind each record, and records of any lengths
abbrev pub reply_writer : WriterBuilder
reply_writer = with_flexible default_writer true

-- the bytes that were written out
abbrev pub bytes_of : Page → List ℕ
bytes_of page = (writer_under page.writer).items

-- the text so far
abbrev pub written : Page → List ℕ
written page = bytes_of page ++ writer_pending page.writer

-- the page ends with a whole record
pub record IsBetween (page : Page) : Type 0 where
  pub setup : writer_setup page.writer ≡ reply_writer
  pub fields : fields_written page.writer ≡ 0
  pub wrote : has_written page.writer ≡ false

-- it does, and all of it was written out
pub record IsReady (page : Page) : Type 0 where
  pub between : IsBetween page
  pub flushed : writer_pending page.writer ≡ []

-- the page ends inside a record, with a field
pub record IsInside (page : Page) : Type 0 where
  pub setup : writer_setup page.writer ≡ reply_writer
  pub fields : 0 < fields_written page.writer
  pub wrote : has_written page.writer ≡ true

-- bytes were put, and the page ends inside a record
pub record Adds (old new : Page) (bytes : List ℕ) : Type 0 where
  pub inside : IsInside new
  pub line : new.line ≡ old.line
  pub text : written new ≡ written old ++ bytes

-- bytes were put, and the page ends with a whole record
pub record Ends (old new : Page) (bytes : List ℕ) : Type 0 where
  pub between : IsBetween new
  pub line : new.line ≡ old.line
  pub text : written new ≡ written old ++ bytes

-- whole records were put, each behind the number of the line
pub record Puts (old new : Page) (records : List (List (List ℕ))) : Type 0 where
  pub between : IsBetween new
  pub line : new.line ≡ old.line
  pub text : written new ≡ written old ++ numbered old.line records

-- a text was put behind all that was written out, and the page ends with a whole record
pub record Shows (old new : Page) (shown : List ℕ) : Type 0 where
  pub between : IsBetween new
  pub text : written new ≡ bytes_of old ++ shown

-- a text was put and written out
pub record Says (old new : Page) (text : List ℕ) : Type 0 where
  pub ready : IsReady new
  pub bytes : bytes_of new ≡ bytes_of old ++ text
