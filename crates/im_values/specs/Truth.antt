-- SQL's three truth values and their connectives.
use Rattle.im_values.specs.declared.truth.Truth.{Truth}
use Rattle.im_values.specs.declared.truth.Truth.TheVariants.{Yes, No, Unknown}

-- No where a side is No, else Unknown where a side is Unknown
abbrev pub and : Truth → Truth → Truth
and Yes other = other
and No other = No
and Unknown Yes = Unknown
and Unknown No = No
and Unknown Unknown = Unknown

-- Yes where a side is Yes, else Unknown where a side is Unknown
abbrev pub or : Truth → Truth → Truth
or Yes other = Yes
or No other = other
or Unknown Yes = Yes
or Unknown No = Unknown
or Unknown Unknown = Unknown

-- Yes and No swapped
abbrev pub negated : Truth → Truth
negated Yes = No
negated No = Yes
negated Unknown = Unknown
