-- What a command does with its input.
use Rattle.std.specs.List.{list_all}
use Rattle.std.proofs.Common.{◌≡◌, ◌≢◌, ◌⊎◌, ℕ, true, List, [], ◌++◌, length, Option, Some, None, Result, Err, inl, inr, refl, sym, ◌∙◌, ap, subst, ⊎_elim, arith, length-append, ◌<◌}
use Rattle.std.proofs.lemmas.List.{append-nil}
use Rattle.mail_bytes.specs.Told.{Rose, Meets, OnTold}
use Rattle.script_lines.specs.Contents.{Content}
use Rattle.qmail_top.specs.declared.play_command.Failure.{Failure}
use Rattle.qmail_top.specs.declared.play_command.Failure.TheVariants.{Memory, Output, Input, Malformed}
use Rattle.script_lines.specs.Lines.{IsScript, IsBadLine, IsRefused, most_bytes}
use Rattle.mem_fs.proofs.InTurn.{told_weaker}
use Rattle.world_law.proofs.Led.{each_safe, safe_by_disk}
use Rattle.qmail_top.specs.SafePlays.{IsSafePrefixAtMost, PrintsSafely, WorksSafely}
use Rattle.qmail_top.specs.Command.{Counted, HasReason, status_of, IsReading, IsChecked}
use Rattle.scenario.specs.Deeds.{history_of}
use Rattle.scenario.specs.Working.{PrintsWorked, deeds_of, is_quiet}
use Rattle.scenario.specs.Text.{BeginsAtMost, HasFewDeeds, HaveFewDeeds, IsPrefixAtMost, Prints, script_line, IsTakenText, PrintsBadLine}
use Rattle.script_lines.proofs.Scripts.{no_refusal}
use Rattle.scenario.proofs.OneText.{few_printed}
use Rattle.scenario.proofs.WholePlays.{prefix_at_most}

-- a script that was read is all that its source had
all_read : (before after bytes : List ℕ) (content : Content) → IsReading before after bytes → IsScript bytes content → before ≡ bytes
all_read before after bytes content reading script = ⊎_elim
    (λ end. reading.taken ∙ ap (λ t. bytes ++ t) end ∙ append-nil bytes)
    (λ over. let most = script.short in absurd (omega arith))
    reading.enough

reading-script : (before after bytes : List ℕ) (content : Content) → IsReading before after bytes → IsScript bytes content → ¬ (IsRefused before)
reading-script before after bytes content reading script =
    subst (λ (t : List ℕ). ¬ (IsRefused t)) (sym (all_read before after bytes content reading script)) (no_refusal bytes content script)

-- however it is played, fewer deeds are done than a memory holds
pub few_said : (before after : Option (List ℕ)) (bytes : List ℕ) (content : Content) → Meets before after (λ old new. IsReading old new bytes) → IsScript bytes content → HaveFewDeeds content.opening content.lines
    → OnTold before HasFewDeeds
few_said (Some before) (Some after) bytes content reading script few = subst HasFewDeeds (sym (all_read before after bytes content reading script)) (few_printed bytes content script few)
few_said (Some before) None bytes content reading script few = absurd reading
few_said None after bytes content reading script few = tt

-- so it is none that is refused
pub checked_script : (before after : Option (List ℕ)) (bytes : List ℕ) (content : Content) (result : Result (Unit {0}) Failure) → Meets before after (λ old new. IsReading old new bytes) → IsScript bytes content → (result ≡ Err Malformed → ⊥) → OnTold before (λ old. IsChecked old result)
checked_script (Some before) (Some after) bytes content result reading script other = record {
  refused = λ malformed. absurd (other malformed);
  played = λ past. reading-script before after bytes content reading script;
}
checked_script (Some before) None bytes content result reading script other = absurd reading
checked_script None after bytes content result reading script other = tt

-- a script was refused
abbrev pub IsMalformed : Result (Unit {0}) Failure → Type 0
IsMalformed result = result ≡ Err Malformed

-- nothing was written
pub nothing_reached : {O : Type 0} (P : List ℕ → List ℕ → Type 0) (result : Result (Unit {0}) Failure) (before after : Option (List ℕ)) (out : O) → Meets before after P → Meets before after (λ script rest. rest ≢ [] → (out ≡ out) ⊎ (IsMalformed result × (most_bytes < length script)))
nothing_reached P result before after out told = told_weaker before after (λ x y h some. inl refl) told

-- the status tells that a script was refused
pub malformed_why : (why : Failure) → IsMalformed (Err why) → why ≡ Malformed
malformed_why why e = cc

pub status_reached : {O : Type 0} (old new : O) (result : Result (Unit {0}) Failure) (status : ℕ) (before after : Option (List ℕ)) → (IsMalformed result → status ≡ 91) → Meets before after (λ script rest. rest ≢ [] → (new ≡ old) ⊎ (IsMalformed result × (most_bytes < length script))) → Meets before after (λ script rest. rest ≢ [] → (new ≡ old) ⊎ ((status ≡ 91) × (most_bytes < length script)))
status_reached old new result status before after is told = told_weaker before after
    (λ x y h some. ⊎_elim (λ same. inl same) (λ r. inr (is r.0, r.1)) (h some))
    told

-- bytes that were read are refused as all of their source is
longer : (before after bytes : List ℕ) → IsReading before after bytes → most_bytes < length bytes → most_bytes < length before
longer before after bytes reading over = let e = ap length reading.taken ∙ length-append bytes after in omega arith

still-bad : (before after bytes : List ℕ) (number : ℕ) → IsReading before after bytes → IsBadLine bytes number → IsBadLine before number
still-bad before after bytes number reading (inl long) = inl (long.0, longer before after bytes reading long.1)
still-bad before after bytes number reading (inr line) = ⊎_elim
    (λ end. subst (λ (t : List ℕ). IsBadLine t number) (sym (reading.taken ∙ ap (λ t. bytes ++ t) end ∙ append-nil bytes)) (inr line))
    (λ over. let most = line.0 in absurd (omega arith))
    reading.enough

pub bad_line_printed : (P : Type 0) (before after old new : Option (List ℕ)) (bytes : List ℕ) (number : ℕ) (Failed : Type 0) → Meets before after (λ script rest. IsReading script rest bytes) → IsBadLine bytes number → Meets old new (λ x y. (text : List ℕ) × IsTakenText (script_line number) text Failed × (y ≡ x ++ text))
    → OnTold before (λ script. P → Meets old new (λ x y. (text : List ℕ) × PrintsBadLine script text Failed × (y ≡ x ++ text)))
bad_line_printed P (Some before) (Some after) old new bytes number Failed reading bad took = λ p. told_weaker old new
    (λ x y h. (h.0, record { number = number; is_bad = still-bad before after bytes number reading bad; is_taken = h.1 }, h.2))
    took
bad_line_printed P (Some before) None old new bytes number Failed reading bad took = absurd reading
bad_line_printed P None after old new bytes number Failed reading bad took = tt

-- A script that was read, with no failure, is played or lacks memory.
pub completes : (why : Failure) (left : Option (List ℕ)) (source sink : Counted) → HasReason why source sink → OnTold left (λ script. IsChecked script (Err why))
    → OnTold left (λ script. (content : Content) → IsScript script content → ¬ (Rose source.before source.after) → ¬ (Rose sink.before sink.after) → (status_of why ≡ 0) ⊎ (status_of why ≡ 51))
completes Memory (Some script) source sink cause checked = λ content is calm quiet. inr refl
completes Output (Some script) source sink cause checked = λ content is calm quiet. absurd (quiet cause)
completes Input (Some script) source sink cause checked = λ content is calm quiet. absurd (calm cause)
completes Malformed (Some script) source sink cause checked = λ content is calm quiet. absurd (no_refusal script content is (checked.refused refl))
completes why None source sink cause checked = tt

-- the history of a script is safe
pub safely : (script text : List ℕ) → Prints script text → PrintsSafely script text
safely script text prints =
    let played = prints.played in record { prints = prints; safe = safe_by_disk played.disk (history_of played.deeds) played.legal }

pub all_safely : (done : Type 0) (left old new : Option (List ℕ))
    → OnTold left (λ script. Meets old new (λ before after. (text : List ℕ) × Prints script text × (after ≡ before ++ text)))
    → OnTold left (λ script. done → Meets old new (λ before after. (text : List ℕ) × PrintsSafely script text × (after ≡ before ++ text)))
all_safely done None old new prints = tt
all_safely done (Some script) old new prints = λ is. told_weaker old new (λ before after taken. (taken.0, safely script taken.0 taken.1, taken.2)) prints

-- so is the history of what `work` does
pub works_safely : (script text : List ℕ) (prints : PrintsWorked script text) → list_all is_quiet (history_of (deeds_of prints.content.opening prints.content.lines text prints.worked)) ≡ true → WorksSafely script text
works_safely script text prints quiet =
    let p = prints.worked in
    record {
      prints = prints;
      quiet = quiet;
      safe = each_safe p.disk (history_of (deeds_of prints.content.opening prints.content.lines text prints.worked)) p.end.legal;
    }

prefix_safely : (script text : List ℕ) → IsPrefixAtMost script text → IsSafePrefixAtMost script text
prefix_safely script text prefix = ⊎_elim (λ none. inl none) (λ some. inr (some.0, safely script some.0 some.1, some.2)) prefix

-- what was taken of a script that wasn't played to its end is a prefix of its text
pub front_taken : (why : Failure) (status : ℕ) (left old new : Option (List ℕ)) → status ≡ status_of why
    → OnTold left (λ script. why ≢ Malformed → Meets old new (λ before after. (text : List ℕ) × BeginsAtMost script text × (after ≡ before ++ text)))
    → OnTold left (λ script. status ≢ 0 → status ≢ 91 → Meets old new (λ before after. (text : List ℕ) × IsSafePrefixAtMost script text × (after ≡ before ++ text)))
front_taken why status None old new is begins = tt
front_taken why status (Some script) old new is begins = λ done malformed.
    told_weaker old new (λ before after taken. (taken.0, prefix_safely script taken.0 (prefix_at_most script taken.0 taken.1), taken.2)) (begins (λ same. malformed (is ∙ ap status_of same)))
