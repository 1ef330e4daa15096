-- The twelve control files (qmail-control(5), qmail-send(8)), in the order in which they are read, with their defaults.
use Rattle.std.specs.Prelude.{◌≡◌, ℕ, suc, ◌<◌, ◌≤◌, List, [], ◌∷◌, length, Contains, Bool, true, false, ◌&&◌, is_none, Option, Some, None, if◌then◌else◌, nat_lt, slice_get, unwrap_or, codes}
use Rattle.std.specs.List.{filter_map, position_from, slice_index_or}
use Rattle.std.specs.Option.{option_map, option_and_then}
use Rattle.address_rules.specs.declared.control_file.ControlFile.{ControlFile}
use Rattle.address_rules.specs.declared.control_file.ControlFile.TheVariants.{Me, Locals, PercentHack, VirtualDomains, EnvNoAtHost, BounceFrom, BounceHost, DoubleBounceTo, DoubleBounceHost, ConcurrencyLocal, ConcurrencyRemote, QueueLifetime}
use Rattle.address_rules.specs.declared.controls.Controls.{Controls}
use Rattle.address_rules.specs.declared.controls.ControlError.{ControlError}
use Rattle.address_rules.specs.declared.controls.ControlError.TheVariants.{BadControl, Memory}
use Rattle.address_rules.specs.declared.virtual_domains.VirtualDomain.{VirtualDomain}
use Rattle.address_rules.specs.Lines.{lines, value_of, listed, virtual_domains, short_number, is_bad}

-- the files in the order in which they are read
abbrev pub all_files : List ControlFile
all_files = Me ∷ Locals ∷ PercentHack ∷ VirtualDomains ∷ EnvNoAtHost ∷ BounceFrom ∷ BounceHost ∷ DoubleBounceTo ∷ DoubleBounceHost
    ∷ ConcurrencyLocal ∷ ConcurrencyRemote ∷ QueueLifetime ∷ []

-- the place of a file in that order
abbrev pub place : ControlFile → ℕ
place Me = 0
place Locals = 1
place PercentHack = 2
place VirtualDomains = 3
place EnvNoAtHost = 4
place BounceFrom = 5
place BounceHost = 6
place DoubleBounceTo = 7
place DoubleBounceHost = 8
place ConcurrencyLocal = 9
place ConcurrencyRemote = 10
place QueueLifetime = 11

-- its name in control/
abbrev pub name : ControlFile → List ℕ
name Me = codes "me"
name Locals = codes "locals"
name PercentHack = codes "percenthack"
name VirtualDomains = codes "virtualdomains"
name EnvNoAtHost = codes "envnoathost"
name BounceFrom = codes "bouncefrom"
name BounceHost = codes "bouncehost"
name DoubleBounceTo = codes "doublebounceto"
name DoubleBounceHost = codes "doublebouncehost"
name ConcurrencyLocal = codes "concurrencylocal"
name ConcurrencyRemote = codes "concurrencyremote"
name QueueLifetime = codes "queuelifetime"

-- what it holds, in one line or in many: a text, a list, or a number
pub data Kind : Type 0 where
  OneText : Kind
  OneNumber : Kind
  ManyLines : Kind

abbrev pub kind : ControlFile → Kind
kind Me = OneText
kind Locals = ManyLines
kind PercentHack = ManyLines
kind VirtualDomains = ManyLines
kind EnvNoAtHost = OneText
kind BounceFrom = OneText
kind BounceHost = OneText
kind DoubleBounceTo = OneText
kind DoubleBounceHost = OneText
kind ConcurrencyLocal = OneNumber
kind ConcurrencyRemote = OneNumber
kind QueueLifetime = OneNumber

-- how long a line of it may be
abbrev pub line_limit : Kind → ℕ
line_limit OneText = 400
line_limit OneNumber = 400
line_limit ManyLines = 1000

-- its bytes; none if it is missing
abbrev pub content : List (Option (List ℕ)) → ControlFile → Option (List ℕ)
content files file = slice_index_or files (place file) None

-- What the files say.

abbrev pub text_in : Option (List ℕ) → List ℕ → List ℕ
text_in None default = default
text_in (Some bytes) default = value_of bytes

abbrev pub list_in : Option (List ℕ) → List (List ℕ) → List (List ℕ)
list_in None default = default
list_in (Some bytes) default = listed bytes

abbrev pub virtual_domains_in : Option (List ℕ) → List VirtualDomain
virtual_domains_in None = []
virtual_domains_in (Some bytes) = virtual_domains bytes

abbrev pub number_in : Option (List ℕ) → ℕ → ℕ
number_in None default = default
number_in (Some bytes) default = unwrap_or (short_number (value_of bytes)) default

abbrev pub me_of : List (Option (List ℕ)) → List ℕ
me_of files = text_in (content files Me) (codes "localhost")

unfoldable pub controls_of : List (Option (List ℕ)) → Controls
controls_of files = record {
  me = me_of files;
  locals = list_in (content files Locals) (me_of files ∷ []);
  percent_hack = list_in (content files PercentHack) [];
  virtual_domains = virtual_domains_in (content files VirtualDomains);
  env_no_at_host = text_in (content files EnvNoAtHost) (me_of files);
  bounce_from = text_in (content files BounceFrom) (codes "MAILER-DAEMON");
  bounce_host = text_in (content files BounceHost) (me_of files);
  double_bounce_to = text_in (content files DoubleBounceTo) (codes "postmaster");
  double_bounce_host = text_in (content files DoubleBounceHost) (me_of files);
  concurrency_local = number_in (content files ConcurrencyLocal) 10;
  concurrency_remote = number_in (content files ConcurrencyRemote) 20;
  queue_lifetime = number_in (content files QueueLifetime) 604800;
}

-- What is wrong with them.

abbrev pub is_number_file : Kind → Bool
is_number_file OneText = false
is_number_file OneNumber = true
is_number_file ManyLines = false

-- the first line with a fault, from 1; 0 if the file is too long
abbrev pub fault_line : Kind → List ℕ → Option ℕ
fault_line it bytes =
    if nat_lt 1048576 (length bytes) then Some 0
    else (if is_number_file it && is_none (short_number (value_of bytes)) then Some 1
    else position_from (is_bad (line_limit it)) 1 (lines bytes))

abbrev pub Fault : Type 0
Fault = ControlFile × ℕ

abbrev pub fault_of : List (Option (List ℕ)) → ControlFile → Option ℕ
fault_of files file = option_and_then (fault_line (kind file)) (content files file)

abbrev pub fault_in : List (Option (List ℕ)) → ControlFile → Option Fault
fault_in files file = option_map (λ line. (file, line)) (fault_of files file)

-- the first file with a fault, and its first line with one
unfoldable pub first_fault : List (Option (List ℕ)) → Option Fault
first_fault files = slice_get (filter_map (fault_in files) all_files) 0

-- A line of a file of this kind has a fault: line 0 if the file has over 1,048,576 bytes, line 1 if the value isn't
-- a number that should be one, and a line that is too long or has a NUL.
pub data HasFault (it : Kind) (bytes : List ℕ) (line : ℕ) : Type 0 where
  FileTooLong : 1048576 < length bytes → line ≡ 0 → HasFault it bytes line
  NoNumber : it ≡ OneNumber → short_number (value_of bytes) ≡ None → line ≡ 1 → HasFault it bytes line
  LineTooLong : (text : List ℕ) (before : ℕ) → slice_get (lines bytes) before ≡ Some text → line_limit it < length text → line ≡ suc before → HasFault it bytes line
  HasNul : (text : List ℕ) (before : ℕ) → slice_get (lines bytes) before ≡ Some text → Contains text 0 → line ≡ suc before → HasFault it bytes line

-- a file that is there, with a fault
abbrev pub IsFaulty : List (Option (List ℕ)) → ControlFile → Type 0
IsFaulty files file = (bytes : List ℕ) × (content files file ≡ Some bytes) × ((line : ℕ) × HasFault (kind file) bytes line)

-- The first file with a fault, and the least line of it with one.
pub record IsFirstFault (files : List (Option (List ℕ))) (file : ControlFile) (line : ℕ) : Type 0 where
  pub bytes : List ℕ
  pub there : content files file ≡ Some bytes
  pub fault : HasFault (kind file) bytes line
  pub least : (other : ℕ) → HasFault (kind file) bytes other → line ≤ other
  pub earlier : (other : ControlFile) → place other < place file → ¬ (IsFaulty files other)

-- why controls aren't read; running out of memory has no cause in the files
abbrev pub IsCause : List (Option (List ℕ)) → ControlError → Type 0
IsCause files (BadControl file line) = first_fault files ≡ Some (file, line)
IsCause files Memory = Unit {0}
