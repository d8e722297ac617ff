-- The command, as the definitions of `clap` see it, and which words it refuses.
use Rattle.std.specs.Prelude.{◌≡◌, ◌≢◌, List, [], ◌∷◌, Some, map, codes, true}
use Rattle.std.specs.Borrow.{Bor}
use Rattle.clap.specs.Words.{App, Rule, Text, matches_of, fault_of, new_app, new_rule, with_rule}
use Rattle.clap.specs.declared.builder.value_parser.ValueParser.TheVariants as parsers
use Rattle.clap.specs.declared.error.kind.ErrorKind.{ErrorKind}
use Rattle.clap.specs.declared.error.kind.ErrorKind.TheVariants.{OutOfMemory}
use Rattle.im_words.specs.Asked.{asked_in}
use Rattle.im_words.specs.Setting.{name_of, least_of, most_of}
use Rattle.im_words.specs.declared.asked.Asked.{Asked}
use Rattle.im_words.specs.declared.fault.WordsFault.{WordsFault}
use Rattle.im_words.specs.declared.fault.WordsFault.TheVariants.{Usage, NoMemory}
use Rattle.im_words.specs.declared.setting.Setting.{Setting}
use Rattle.im_words.specs.declared.setting.Setting.TheVariants.{Area, Workers, Turns, Rows, Seed}

-- the fault of an error of `clap`
abbrev pub fault_by : ErrorKind → WordsFault
fault_by OutOfMemory = NoMemory
fault_by _ = Usage

-- the argument `--NAME N`
abbrev pub setting_rule : Setting → Rule
setting_rule s = record (new_rule (name_of s)) {
  long = Some (name_of s);
  parser = Some (parsers.Unsigned (least_of s) (most_of s));
}

-- names, as `clap` holds them behind references
abbrev pub ModeNames : Type 0
ModeNames = Bor (List (Bor Text))

-- the names of the modes
abbrev pub mode_names : List Text
mode_names = codes "run" ∷ codes "race" ∷ codes "gen" ∷ []

-- the names are those of the modes
abbrev pub AreModes : ModeNames → Type 0
AreModes names = map (λ name. name.now) names.now ≡ mode_names

-- the argument that is the name of a mode, and may not be left out
abbrev pub mode_rule : ModeNames → Rule
mode_rule names = record (new_rule (codes "mode")) {
  required = true;
  parser = Some (parsers.Names names);
}

abbrev pub IsModeRule : Rule → Type 0
IsModeRule rule = (names : ModeNames) × AreModes names × (rule ≡ mode_rule names)

-- a command with no argument, which does not answer `--help`
abbrev pub bare : App
bare = record (new_app (codes "ime")) {
  top = record (new_app (codes "ime")).top { disable_help_flag = true };
}

-- a mode, and each setting at most once
abbrev pub command_with : ModeNames → App
command_with names = with_rule (with_rule (with_rule (with_rule (with_rule (with_rule bare
    (mode_rule names))
    (setting_rule Area))
    (setting_rule Workers))
    (setting_rule Turns))
    (setting_rule Rows))
    (setting_rule Seed)

abbrev pub IsCommand : App → Type 0
IsCommand app = (names : ModeNames) × AreModes names × (app ≡ command_with names)

-- a reference, at a place that no parse depends on
abbrev pub somewhere : {X : Type 0} → X → Bor X
somewhere x = record { ref_ptr = (0, 0); now = x }

abbrev pub modes : ModeNames
modes = somewhere (map somewhere mode_names)

abbrev pub command : App
command = command_with modes

-- the command refuses the words
abbrev pub Refuses : List Text → Type 0
Refuses words = fault_of command words ≢ []

-- the command takes the words, and this is what its matches ask for
abbrev pub Takes : List Text → Asked → Type 0
Takes words asked = (fault_of command words ≡ []) × (asked ≡ asked_in (matches_of command words))
