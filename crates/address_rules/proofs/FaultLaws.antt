-- Faults of control files, as the rules have them.
use Rattle.std.proofs.Common.{◌≡◌, ◌⊎◌, ◌&&◌, ℕ, zero, suc, ◌+◌, ◌<◌, ◌≤◌, List, [], ◌∷◌, ◌++◌, length, get_or, drop, cond, Option, Some, None, Bool, true, false, refl, sym, ap, ◌∙◌, subst, inl, inr, ⊎_elim, arith, eqb}
use Rattle.std.specs.Prelude.{Contains, All, slice_get, is_none, nat_lt, if◌then◌else◌}
use Rattle.std.specs.Bool.{Decides}
use Rattle.std.specs.List.{position_from, list_any}
use Rattle.std.specs.Option.{option_and_then}
use Rattle.std.proofs.Math.Numerals.{add-one}
use Rattle.std.proofs.Math.Seq.{get_or-append_seam}
use Rattle.std.proofs.lemmas.List.{get_or_append_left, length-append}
use Rattle.std.proofs.lemmas.List.Elements.{All-nil, All-cons, All-get_or}
use Rattle.std.proofs.lemmas.List.Folds.{Any-from_list_any, list_any-from_Any}
use Rattle.std.proofs.lemmas.Bool.Decides.{Decides-eqb, Decides-ltb, Decides-or, leb_tells}
use Rattle.address_rules.specs.declared.control_file.ControlFile.{ControlFile}
use Rattle.address_rules.specs.declared.control_file.ControlFile.TheVariants.{Me, Locals, PercentHack, VirtualDomains, EnvNoAtHost, BounceFrom, BounceHost, DoubleBounceTo, DoubleBounceHost, ConcurrencyLocal, ConcurrencyRemote, QueueLifetime}
use Rattle.address_rules.specs.Lines.{lines, value_of, short_number, is_bad}
use Rattle.address_rules.specs.Files.{Kind, kind, line_limit, content, all_files, place, is_number_file, fault_line, fault_of, first_fault, Fault, HasFault, IsFaulty, IsFirstFault}
use Rattle.address_rules.specs.Files.Kind.{OneText, OneNumber, ManyLines}
use Rattle.address_rules.specs.Files.HasFault.{FileTooLong, NoNumber, LineTooLong, HasNul}
use Rattle.address_rules.proofs.ByteCuts.{some_same}
use Rattle.address_rules.proofs.LookupLaws.{no_some}
use Rattle.address_rules.proofs.FileLemmas.{first_from, before_rest, fault_found, fault_passed}

true_is_not_false : ◌≡◌ {A = Bool} true false → ⊥
true_is_not_false e = absurd (cc)

-- The first bad line.

pub nul_decides : (line : List ℕ) → Decides (list_any (λ b. eqb b 0) line) (Contains line 0)
nul_decides line = (
  λ e. let w = Any-from_list_any (λ b. eqb b 0) line e in
      (w.0, w.2, subst (λ y. get_or line w.0 y ≡ y) ((Decides-eqb w.1 0).0 w.4) w.3),
  λ w. list_any-from_Any (λ b. eqb b 0) line (w.0, 0, w.1, w.2, refl),
)

bad_decides : (limit : ℕ) (line : List ℕ) → Decides (is_bad limit line) ((limit < length line) ⊎ Contains line 0)
bad_decides limit line = Decides-or (nat_lt limit (length line)) (list_any (λ b. eqb b 0) line) (Decides-ltb limit (length line)) (nul_decides line)

record FirstAt (test : List ℕ → Bool) (from : ℕ) (texts : List (List ℕ)) (n : ℕ) : Type 0 where
  before : ℕ
  text : List ℕ
  number : n ≡ from + before
  there : slice_get texts before ≡ Some text
  bad : test text ≡ true
  earlier : (j : ℕ) (other : List ℕ) → j < before → slice_get texts j ≡ Some other → test other ≡ false

data Position (test : List ℕ → Bool) (from : ℕ) (texts : List (List ℕ)) : Type 0 where
  PositionAt : (n : ℕ) → position_from test from texts ≡ Some n → FirstAt test from texts n → Position test from texts
  NoPosition : position_from test from texts ≡ None → ((j : ℕ) (other : List ℕ) → slice_get texts j ≡ Some other → test other ≡ false) → Position test from texts

earlier_more : (test : List ℕ → Bool) (first : List ℕ) (texts : List (List ℕ)) → test first ≡ false → (k : ℕ)
    → ((j : ℕ) (other : List ℕ) → j < k → slice_get texts j ≡ Some other → test other ≡ false)
    → (j : ℕ) (other : List ℕ) → j < suc k → slice_get (first ∷ texts) j ≡ Some other → test other ≡ false
earlier_more test first texts good k h zero other below e = subst (λ t. test t ≡ false) (some_same first other e) good
earlier_more test first texts good k h (suc j) other below e = h j other (omega arith) e

all_more : (test : List ℕ → Bool) (first : List ℕ) (texts : List (List ℕ)) → test first ≡ false
    → ((j : ℕ) (other : List ℕ) → slice_get texts j ≡ Some other → test other ≡ false)
    → (j : ℕ) (other : List ℕ) → slice_get (first ∷ texts) j ≡ Some other → test other ≡ false
all_more test first texts good h zero other e = subst (λ t. test t ≡ false) (some_same first other e) good
all_more test first texts good h (suc j) other e = h j other e

position_later : (test : List ℕ → Bool) (from : ℕ) (first : List ℕ) (texts : List (List ℕ)) → test first ≡ false → Position test (from + 1) texts → Position test from (first ∷ texts)
position_later test from first texts good (PositionAt n e f) = PositionAt n
    (ap (λ t. cond t (Some from) (position_from test (from + 1) texts)) good ∙ e)
    (record {
      before = suc f.before;
      text = f.text;
      number = let is = f.number in omega arith;
      there = f.there;
      bad = f.bad;
      earlier = earlier_more test first texts good f.before f.earlier;
    })
position_later test from first texts good (NoPosition e all) = NoPosition
    (ap (λ t. cond t (Some from) (position_from test (from + 1) texts)) good ∙ e)
    (all_more test first texts good all)

position_by : (test : List ℕ → Bool) (from : ℕ) (first : List ℕ) (texts : List (List ℕ)) (t : Bool) → test first ≡ t → Position test (from + 1) texts → Position test from (first ∷ texts)
position_by test from first texts false e later = position_later test from first texts e later
position_by test from first texts true e later = PositionAt from
    (ap (λ t. cond t (Some from) (position_from test (from + 1) texts)) e)
    (record {
      before = 0;
      text = first;
      number = omega arith;
      there = refl;
      bad = e;
      earlier = λ j other below is. absurd (omega arith);
    })

positions : (test : List ℕ → Bool) (from : ℕ) (texts : List (List ℕ)) → Position test from texts
positions test from [] = NoPosition refl (λ j other e. absurd (no_some other e))
positions test from (first ∷ texts) = position_by test from first texts (test first) refl (positions test (from + 1) texts)

-- The first fault of a file.

pub data Faults (it : Kind) (bytes : List ℕ) : Type 0 where
  FaultAt : (line : ℕ) → fault_line it bytes ≡ Some line → HasFault it bytes line → ((other : ℕ) → HasFault it bytes other → line ≤ other) → Faults it bytes
  NoFault : fault_line it bytes ≡ None → ((line : ℕ) → ¬ (HasFault it bytes line)) → Faults it bytes

abbrev by_length : Kind → List ℕ → Bool → Option ℕ
by_length it bytes t =
    if t then Some 0
    else (if is_number_file it && is_none (short_number (value_of bytes)) then Some 1
    else position_from (is_bad (line_limit it)) 1 (lines bytes))

abbrev by_number : Kind → List ℕ → Bool → Option ℕ
by_number it bytes t = if t then Some 1 else position_from (is_bad (line_limit it)) 1 (lines bytes)

is_number_kind : (it : Kind) → is_number_file it ≡ true → it ≡ OneNumber
is_number_kind OneText e = absurd (true_is_not_false (sym e))
is_number_kind OneNumber e = refl
is_number_kind ManyLines e = absurd (true_is_not_false (sym e))

both_true : (a b : Bool) → (a && b) ≡ true → (a ≡ true) × (b ≡ true)
both_true true b e = (refl, e)
both_true false b e = absurd (true_is_not_false (sym e))

none_from : (o : Option ℕ) → is_none o ≡ true → o ≡ None
none_from None e = refl
none_from (Some n) e = absurd (true_is_not_false (sym e))

no_number_tested : (it : Kind) (bytes : List ℕ) → it ≡ OneNumber → short_number (value_of bytes) ≡ None → (is_number_file it && is_none (short_number (value_of bytes))) ≡ true
no_number_tested it bytes e f = ap (λ k. is_number_file k && is_none (short_number (value_of bytes))) e ∙ ap (λ o. is_none o) f

bad_fault : (it : Kind) (bytes text : List ℕ) (before line : ℕ) → slice_get (lines bytes) before ≡ Some text
    → (line_limit it < length text) ⊎ Contains text 0 → line ≡ suc before → HasFault it bytes line
bad_fault it bytes text before line there bad e = ⊎_elim
    (λ long. LineTooLong text before there long e)
    (λ nul. HasNul text before there nul e)
    bad

-- a file that isn't too long, whose number, if it should have one, is one
good_start : (it : Kind) (bytes : List ℕ) → ¬ (1048576 < length bytes) → (is_number_file it && is_none (short_number (value_of bytes))) ≡ false
    → (line : ℕ) → HasFault it bytes line
    → (before : ℕ) × (text : List ℕ) × (slice_get (lines bytes) before ≡ Some text) × (is_bad (line_limit it) text ≡ true) × (line ≡ suc before)
good_start it bytes short number line (FileTooLong long e) = absurd (short long)
good_start it bytes short number line (NoNumber e f g) = absurd (true_is_not_false (sym (no_number_tested it bytes e f) ∙ number))
good_start it bytes short number line (LineTooLong text before there long e) = (before, text, there, (bad_decides (line_limit it) text).1 (inl long), e)
good_start it bytes short number line (HasNul text before there nul e) = (before, text, there, (bad_decides (line_limit it) text).1 (inr nul), e)

not_before : (it : Kind) (bytes : List ℕ) (n : ℕ) (f : FirstAt (is_bad (line_limit it)) 1 (lines bytes) n) (before : ℕ) (text : List ℕ)
    → slice_get (lines bytes) before ≡ Some text → is_bad (line_limit it) text ≡ true → before < f.before → ⊥
not_before it bytes n f before text there bad below = true_is_not_false (sym bad ∙ f.earlier before text below there)

less_or_not : (a b : ℕ) → (a < b) ⊎ (b ≤ a)
less_or_not a b = ⊎_elim (λ w. inr w.1) (λ w. inl w.1) (leb_tells b a)

at_least : (a b : ℕ) → (a < b → ⊥) → b ≤ a
at_least a b h = ⊎_elim (λ l. absurd (h l)) (λ l. l) (less_or_not a b)

faults_of_lines : (it : Kind) (bytes : List ℕ) → ¬ (1048576 < length bytes) → (is_number_file it && is_none (short_number (value_of bytes))) ≡ false
    → fault_line it bytes ≡ position_from (is_bad (line_limit it)) 1 (lines bytes) → Position (is_bad (line_limit it)) 1 (lines bytes) → Faults it bytes
faults_of_lines it bytes short number same (PositionAt n e f) = FaultAt n (same ∙ e)
    (bad_fault it bytes f.text f.before n f.there ((bad_decides (line_limit it) f.text).0 f.bad) (let is = f.number in omega arith))
    (λ other h.
    let w = good_start it bytes short number other h in
    let line = w.4 in
    let is = f.number in
    let far : f.before ≤ w.0 = at_least w.0 f.before (not_before it bytes n f w.0 w.1 w.2 w.3) in
    omega arith)
faults_of_lines it bytes short number same (NoPosition e all) = NoFault (same ∙ e)
    (λ line h. let w = good_start it bytes short number line h in true_is_not_false (sym w.3 ∙ all w.0 w.1 w.2))

from_one : (it : Kind) (bytes : List ℕ) → ¬ (1048576 < length bytes) → (line : ℕ) → HasFault it bytes line → 1 ≤ line
from_one it bytes short line (FileTooLong long e) = absurd (short long)
from_one it bytes short line (NoNumber e f g) = omega arith
from_one it bytes short line (LineTooLong text before there long e) = omega arith
from_one it bytes short line (HasNul text before there nul e) = omega arith

faults_of_short : (it : Kind) (bytes : List ℕ) → ¬ (1048576 < length bytes) → nat_lt 1048576 (length bytes) ≡ false
    → (t : Bool) → (is_number_file it && is_none (short_number (value_of bytes))) ≡ t → Faults it bytes
faults_of_short it bytes short f true e =
    let two = both_true (is_number_file it) (is_none (short_number (value_of bytes))) e in
    FaultAt 1 (ap (by_length it bytes) f ∙ ap (by_number it bytes) e)
    (NoNumber (is_number_kind it two.0) (none_from (short_number (value_of bytes)) two.1) refl)
    (from_one it bytes short)
faults_of_short it bytes short f false e =
    faults_of_lines it bytes short e (ap (by_length it bytes) f ∙ ap (by_number it bytes) e) (positions (is_bad (line_limit it)) 1 (lines bytes))

faults_by : (it : Kind) (bytes : List ℕ) (t : Bool) → nat_lt 1048576 (length bytes) ≡ t → Faults it bytes
faults_by it bytes true e = FaultAt 0 (ap (by_length it bytes) e) (FileTooLong ((Decides-ltb 1048576 (length bytes)).0 e) refl) (λ other h. omega arith)
faults_by it bytes false e =
    faults_of_short it bytes (λ long. true_is_not_false (sym ((Decides-ltb 1048576 (length bytes)).1 long) ∙ e)) e
    (is_number_file it && is_none (short_number (value_of bytes))) refl

faults : (it : Kind) (bytes : List ℕ) → Faults it bytes
faults it bytes = faults_by it bytes (nat_lt 1048576 (length bytes)) refl

-- The first file with a fault.

abbrev Fine : List (Option (List ℕ)) → ControlFile → Type 0
Fine files file = fault_of files file ≡ None

data FirstFile (files : List (Option (List ℕ))) (some : List ControlFile) : Type 0 where
  FileAt : (before after : List ControlFile) (file : ControlFile) (line : ℕ) → some ≡ before ++ file ∷ after → All (Fine files) before
      → fault_of files file ≡ Some line → first_from files some ≡ Some (file, line) → FirstFile files some
  NoFile : All (Fine files) some → first_from files some ≡ None → FirstFile files some

file_later : (files : List (Option (List ℕ))) (file : ControlFile) (some : List ControlFile) → Fine files file → FirstFile files some → FirstFile files (file ∷ some)
file_later files file some fine (FileAt before after it line split none e f) =
    FileAt (file ∷ before) after it line (ap (λ t. file ∷ t) split) (All-cons (Fine files) file before fine none) e
    (ap (before_rest files some file) fine ∙ f)
file_later files file some fine (NoFile none f) = NoFile (All-cons (Fine files) file some fine none) (ap (before_rest files some file) fine ∙ f)

file_by : (files : List (Option (List ℕ))) (file : ControlFile) (some : List ControlFile) (o : Option ℕ) → fault_of files file ≡ o → FirstFile files some → FirstFile files (file ∷ some)
file_by files file some None e later = file_later files file some e later
file_by files file some (Some line) e later = FileAt [] some file line refl (All-nil (Fine files)) e (ap (before_rest files some file) e)

first_file : (files : List (Option (List ℕ))) (some : List ControlFile) → FirstFile files some
first_file files [] = NoFile (All-nil (Fine files)) refl
first_file files (file ∷ some) = file_by files file some (fault_of files file) refl (first_file files some)

-- a file is fine exactly if it isn't faulty

fine_of : (files : List (Option (List ℕ))) (file : ControlFile) → ¬ (IsFaulty files file) → (bytes : List ℕ) → content files file ≡ Some bytes → Faults (kind file) bytes → Fine files file
fine_of files file sound bytes e (FaultAt line f h least) = absurd (sound (bytes, e, (line, h)))
fine_of files file sound bytes e (NoFault f none) = ap (option_and_then (fault_line (kind file))) e ∙ f

fine_by : (files : List (Option (List ℕ))) (file : ControlFile) → ¬ (IsFaulty files file) → (o : Option (List ℕ)) → content files file ≡ o → Fine files file
fine_by files file sound None e = ap (option_and_then (fault_line (kind file))) e
fine_by files file sound (Some bytes) e = fine_of files file sound bytes e (faults (kind file) bytes)

is_fine : (files : List (Option (List ℕ))) (file : ControlFile) → ¬ (IsFaulty files file) → Fine files file
is_fine files file sound = fine_by files file sound (content files file) refl

not_faulty_by : (files : List (Option (List ℕ))) (file : ControlFile) → Fine files file → (bytes : List ℕ) → content files file ≡ Some bytes
    → (line : ℕ) → HasFault (kind file) bytes line → Faults (kind file) bytes → ⊥
not_faulty_by files file fine bytes e line h (FaultAt n f g least) = no_some n (sym fine ∙ ap (option_and_then (fault_line (kind file))) e ∙ f)
not_faulty_by files file fine bytes e line h (NoFault f none) = none line h

not_faulty : (files : List (Option (List ℕ))) (file : ControlFile) → Fine files file → ¬ (IsFaulty files file)
not_faulty files file fine w = not_faulty_by files file fine w.0 w.1 w.2.0 w.2.1 (faults (kind file) w.0)

-- the line that is told is the least one with a fault
record LeastFault (files : List (Option (List ℕ))) (file : ControlFile) (line : ℕ) : Type 0 where
  bytes : List ℕ
  there : content files file ≡ Some bytes
  fault : HasFault (kind file) bytes line
  least : (other : ℕ) → HasFault (kind file) bytes other → line ≤ other

least_of : (files : List (Option (List ℕ))) (file : ControlFile) (line : ℕ) (bytes : List ℕ) → content files file ≡ Some bytes
    → fault_line (kind file) bytes ≡ Some line → Faults (kind file) bytes → LeastFault files file line
least_of files file line bytes there e (NoFault f none) = absurd (no_some line (sym f ∙ e))
least_of files file line bytes there e (FaultAt n f h least) =
    let same : n ≡ line = some_same n line (sym f ∙ e) in
    record {
      bytes = bytes;
      there = there;
      fault = subst (λ k. HasFault (kind file) bytes k) same h;
      least = λ other g. let far = least other g in omega arith;
    }

least_by : (files : List (Option (List ℕ))) (file : ControlFile) (line : ℕ) → fault_of files file ≡ Some line → (o : Option (List ℕ)) → content files file ≡ o → LeastFault files file line
least_by files file line e None f = absurd (no_some line (sym (ap (option_and_then (fault_line (kind file))) f) ∙ e))
least_by files file line e (Some bytes) f =
    least_of files file line bytes f (sym (ap (option_and_then (fault_line (kind file))) f) ∙ e) (faults (kind file) bytes)

told_by : (it : Kind) (bytes : List ℕ) (line : ℕ) → HasFault it bytes line → ((other : ℕ) → HasFault it bytes other → line ≤ other) → Faults it bytes → fault_line it bytes ≡ Some line
told_by it bytes line h least (NoFault f none) = absurd (none line h)
told_by it bytes line h least (FaultAt n f g far) =
    let up = least n g in
    let down = far line h in
    let same : n ≡ line = omega arith in
    f ∙ ap (λ k. Some k) same

-- the files and their places

below : (file : ControlFile) → place file < length all_files
below Me = omega arith
below Locals = omega arith
below PercentHack = omega arith
below VirtualDomains = omega arith
below EnvNoAtHost = omega arith
below BounceFrom = omega arith
below BounceHost = omega arith
below DoubleBounceTo = omega arith
below DoubleBounceHost = omega arith
below ConcurrencyLocal = omega arith
below ConcurrencyRemote = omega arith
below QueueLifetime = omega arith

at_place : (file d : ControlFile) → get_or all_files (place file) d ≡ file
at_place Me d = refl
at_place Locals d = refl
at_place PercentHack d = refl
at_place VirtualDomains d = refl
at_place EnvNoAtHost d = refl
at_place BounceFrom d = refl
at_place BounceHost d = refl
at_place DoubleBounceTo d = refl
at_place DoubleBounceHost d = refl
at_place ConcurrencyLocal d = refl
at_place ConcurrencyRemote d = refl
at_place QueueLifetime d = refl

place_at : (k : ℕ) (d : ControlFile) → k < 12 → place (get_or all_files k d) ≡ k
place_at zero d h = refl
place_at (suc zero) d h = refl
place_at (suc (suc zero)) d h = refl
place_at (suc (suc (suc zero))) d h = refl
place_at (suc (suc (suc (suc zero)))) d h = refl
place_at (suc (suc (suc (suc (suc zero))))) d h = refl
place_at (suc (suc (suc (suc (suc (suc zero)))))) d h = refl
place_at (suc (suc (suc (suc (suc (suc (suc zero))))))) d h = refl
place_at (suc (suc (suc (suc (suc (suc (suc (suc zero)))))))) d h = refl
place_at (suc (suc (suc (suc (suc (suc (suc (suc (suc zero))))))))) d h = refl
place_at (suc (suc (suc (suc (suc (suc (suc (suc (suc (suc zero)))))))))) d h = refl
place_at (suc (suc (suc (suc (suc (suc (suc (suc (suc (suc (suc zero))))))))))) d h = refl
place_at (suc (suc (suc (suc (suc (suc (suc (suc (suc (suc (suc (suc k)))))))))))) d h = absurd (omega arith)

-- the files before one in their order are those of lesser places
place_of : (before after : List ControlFile) (file : ControlFile) → all_files ≡ before ++ file ∷ after → place file ≡ length before
place_of before after file split =
    let total = ap length split ∙ length-append before (file ∷ after) in
    let is : get_or all_files (length before) Me ≡ file = ap (λ t. get_or t (length before) Me) split ∙ get_or-append_seam before file after Me in
    ap place (sym is) ∙ place_at (length before) Me (omega arith)

fine_before : (files : List (Option (List ℕ))) (before after : List ControlFile) (file other : ControlFile) → all_files ≡ before ++ file ∷ after
    → All (Fine files) before → place other < place file → Fine files other
fine_before files before after file other split none lower =
    let end = place_of before after file split in
    let is : get_or before (place other) Me ≡ other =
    sym (get_or_append_left before (file ∷ after) Me (place other) (omega arith)) ∙ ap (λ t. get_or t (place other) Me) (sym split) ∙ at_place other Me in
    subst (λ (t : ControlFile). Fine files t) is (All-get_or (Fine files) before (place other) Me (omega arith) none)

first_at : (files : List (Option (List ℕ))) (before after : List ControlFile) (file : ControlFile) (line : ℕ) → all_files ≡ before ++ file ∷ after
    → All (Fine files) before → fault_of files file ≡ Some line → IsFirstFault files file line
first_at files before after file line split none e =
    let it = least_by files file line e (content files file) refl in
    record {
      bytes = it.bytes;
      there = it.there;
      fault = it.fault;
      least = it.least;
      earlier = λ other lower. not_faulty files other (fine_before files before after file other split none lower);
    }

first_by : (files : List (Option (List ℕ))) (found : Fault) → first_from files all_files ≡ Some found → FirstFile files all_files → IsFirstFault files found.0 found.1
first_by files found e (NoFile none f) = absurd (no_some found (sym f ∙ e))
first_by files found e (FileAt before after file line split none g f) =
    subst (λ (t : Fault). IsFirstFault files t.0 t.1) (some_same (file, line) found (sym f ∙ e)) (first_at files before after file line split none g)

pub first_to : (files : List (Option (List ℕ))) (file : ControlFile) (line : ℕ) → first_fault files ≡ Some (file, line) → IsFirstFault files file line
unfolding first_fault
first_to files file line e = first_by files (file, line) e (first_file files all_files)

skipped : (files : List (Option (List ℕ))) (i : ℕ) → i ≤ 12 → ((other : ControlFile) → place other < i → Fine files other)
    → first_from files all_files ≡ first_from files (drop i all_files)
skipped files zero h fine = refl
skipped files (suc i) h fine =
    skipped files i (omega arith) (λ other lower. fine other (omega arith))
    ∙ fault_passed files all_files i Me (omega arith) (fine (get_or all_files i Me) (let at = place_at i Me (omega arith) in omega arith))
    ∙ ap (λ k. first_from files (drop k all_files)) (add-one i)

pub first_from_rules : (files : List (Option (List ℕ))) (file : ControlFile) (line : ℕ) → IsFirstFault files file line → first_fault files ≡ Some (file, line)
unfolding first_fault
first_from_rules files file line r =
    let told : fault_of files file ≡ Some line =
    ap (option_and_then (fault_line (kind file))) r.there ∙ told_by (kind file) r.bytes line r.fault r.least (faults (kind file) r.bytes) in
    let low = below file in
    skipped files (place file) (omega arith) (λ other lower. is_fine files other (r.earlier other lower))
    ∙ fault_found files all_files (place file) Me line low (ap (fault_of files) (at_place file Me) ∙ told)
    ∙ ap (λ t. Some (t, line)) (at_place file Me)

none_by : (files : List (Option (List ℕ))) → first_from files all_files ≡ None → FirstFile files all_files → (file : ControlFile) → ¬ (IsFaulty files file)
none_by files e (FileAt before after it line split none g f) file = absurd (no_some (it, line) (sym e ∙ f))
none_by files e (NoFile none f) file =
    not_faulty files file (subst (λ (t : ControlFile). Fine files t) (at_place file Me) (All-get_or (Fine files) all_files (place file) Me (below file) none))

pub none_to : (files : List (Option (List ℕ))) → first_fault files ≡ None → (file : ControlFile) → ¬ (IsFaulty files file)
unfolding first_fault
none_to files e = none_by files e (first_file files all_files)

pub none_from_rules : (files : List (Option (List ℕ))) → ((file : ControlFile) → ¬ (IsFaulty files file)) → first_fault files ≡ None
unfolding first_fault
none_from_rules files sound = skipped files 12 (omega arith) (λ other lower. is_fine files other (sound other))
